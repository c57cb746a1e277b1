-- When a trade can be booked.
use Rattle.std.specs.Prelude.{ℕ, Bool, false, ◌&&◌, List, ℤ, Some, None, Option, nat_le}
use Rattle.std.specs.List.{list_all}
use Rattle.records.specs.Ranges.{between, within}
use Rattle.records.specs.Registers.{numbered}
use Rattle.records.specs.declared.account.Account.{Account}
use Rattle.records.specs.declared.rows.Trade.{Trade}
use Rattle.records.specs.Accounts.{holding}

-- the contract is one of 32, and position and money leave room for another trade
abbrev pub roomy : ℕ → Account → Bool
roomy contract a = between 1 32 contract && (within 90000000 (holding a contract) && within 290000000000000000 a.money)

abbrev pub known_roomy : ℕ → Option Account → Bool
known_roomy contract None = false
known_roomy contract (Some a) = roomy contract a

abbrev pub has_room : List Account → ℕ → ℕ → Bool
has_room accounts n contract = known_roomy contract (numbered accounts n)

-- both accounts have room, and quantity and difference of value are in range
abbrev pub bookable : Trade → ℕ → ℕ → ℤ → List Account → Bool
bookable t buyer seller by accounts =
    has_room accounts buyer t.contract && (has_room accounts seller t.contract && (nat_le t.quantity 10000 && within 3000000000 by))

-- every account has room, and the change of value is in range
abbrev pub revaluable : ℕ → ℤ → List Account → Bool
revaluable contract change accounts = between 1 32 contract && (within 2000000000 change && list_all (roomy contract) accounts)
