-- The entries read by the listed contracts.
use Rattle.std.specs.Prelude.{◌≡◌, ℕ, List, ℤ, pos, Some, None, Option}
use Rattle.records.specs.Registers.{numbered}
use Rattle.records.specs.declared.contract.Contract.{Contract}
use Rattle.records.specs.declared.rows.Trade.{Trade}
use Rattle.books.specs.Bounds.{Bounded}
use Rattle.books.specs.Entries.{Reading, difference, change_to}
use Rattle.books.specs.Value.{value_at, difference_at, change_at}

-- a contract that is not listed reads as noughts
abbrev pub value_if : Option Contract → ℤ → ℤ
value_if None price = pos 0
value_if (Some c) price = value_at c price

abbrev pub settlement_if : Option Contract → ℤ
settlement_if None = pos 0
settlement_if (Some c) = c.terms.settlement

-- the reading by the owners of the orders and the listed contracts
abbrev pub reading : (ℕ → ℕ) → List Contract → Reading
reading owners contracts = record { owner = owners; value = λ n. value_if (numbered contracts n); settlement = λ n. settlement_if (numbered contracts n) }

-- values and settlement prices of listed contracts keep the bounds
abbrev pub ListedValuesAreBounded : Type 0
ListedValuesAreBounded = (owners : ℕ → ℕ) (contracts : List Contract) → Bounded (reading owners contracts)

-- a trade's difference is that of its contract at its price
abbrev pub DifferencesAreTheContract's : Type 0
DifferencesAreTheContract's =
    (owners : ℕ → ℕ) (contracts : List Contract) (t : Trade) (c : Contract) → numbered contracts t.contract ≡ Some c
    → difference (reading owners contracts) t ≡ difference_at c t.price

-- the change to another settlement price is the contract's
abbrev pub ChangesAreTheContract's : Type 0
ChangesAreTheContract's =
    (owners : ℕ → ℕ) (contracts : List Contract) (n : ℕ) (c : Contract) (price : ℤ) → numbered contracts n ≡ Some c
    → change_to (reading owners contracts) n price ≡ change_at c price
