-- What the clearing centres tell, of tables with an entry or none for each account or contract.
use Rattle.std.specs.Prelude.{◌≡◌, ℕ, ◌+◌, ◌/◌, ◌<◌, min, true, false, List, length, Some, None, Option, slice_index_or}
use Rattle.std.specs.Option.{unwrap_or}
use Rattle.records.specs.Ranges.{absent_or_between}
use Rattle.records.specs.Registers.{numbered}

-- the most lots that any centre tells
abbrev pub most_lots : ℕ
most_lots = 1000000

abbrev pub largest_pledge : ℕ
largest_pledge = 1000000000000

abbrev pub largest_margin : ℕ
largest_margin = 1000000000

-- every entry that is there lies between low and high
abbrev pub InRange : ℕ → ℕ → List (Option ℕ) → Type 0
InRange low high entries = (k : ℕ) → k < length entries → absent_or_between low high (slice_index_or entries k None) ≡ true

-- the entry of number n is there and does not lie between low and high, and none before it is so
pub record Outside (low high : ℕ) (entries : List (Option ℕ)) (n : ℕ) : Type 0 where
  pub place : ℕ
  pub number : place + 1 ≡ n
  pub known : place < length entries
  pub outside : absent_or_between low high (slice_index_or entries place None) ≡ false
  pub first : (k : ℕ) → k < place → absent_or_between low high (slice_index_or entries k None) ≡ true

-- the entry of a number; a number unknown to the table has none
abbrev pub entry_of : List (Option ℕ) → ℕ → Option ℕ
entry_of entries n = unwrap_or (numbered entries n) None

-- the lots centre: one number for each contract
abbrev pub lots_most : List (Option ℕ) → ℕ → ℕ
lots_most limits contract = unwrap_or (entry_of limits contract) 0

-- a pledge divided by a margin per lot, without the fraction, and at most a million
abbrev pub lots_for : ℕ → ℕ → ℕ
lots_for pledge margin = min (pledge / margin) most_lots

-- the pledge centre: both an account's pledge and a contract's margin are needed
abbrev pub pledge_most : Option ℕ → Option ℕ → ℕ
pledge_most None margin = 0
pledge_most (Some pledge) None = 0
pledge_most (Some pledge) (Some margin) = lots_for pledge margin
