-- Why a centre is not made.
use Rattle.std.specs.Prelude.{ℕ, List, ◌++◌, Option, codes, decimal}
use Rattle.rulebook.specs.Centres.{most_lots, largest_pledge, largest_margin, InRange, Outside}
use Rattle.rulebook.specs.declared.fault.OutOfRange.{OutOfRange}
use Rattle.rulebook.specs.declared.fault.OutOfRange.TheVariants.{Limit, Pledge, Margin}

-- limits are 0 to 1,000,000
abbrev pub LotsFault : List (Option ℕ) → OutOfRange → Type 0
LotsFault limits (Limit contract) = Outside 0 most_lots limits contract
LotsFault limits (Pledge account) = ⊥
LotsFault limits (Margin contract) = ⊥

-- pledges are 0 to 1,000,000,000,000, and are looked at first; margins are 1 to 1,000,000,000
abbrev pub PledgeFault : List (Option ℕ) → List (Option ℕ) → OutOfRange → Type 0
PledgeFault pledges margins (Limit contract) = ⊥
PledgeFault pledges margins (Pledge account) = Outside 0 largest_pledge pledges account
PledgeFault pledges margins (Margin contract) = InRange 0 largest_pledge pledges × Outside 1 largest_margin margins contract

-- a fault in words
abbrev pub fault_text : OutOfRange → List ℕ
fault_text (Limit contract) = codes "the limit of contract " ++ (decimal contract ++ codes " is out of range")
fault_text (Pledge account) = codes "the pledge of account " ++ (decimal account ++ codes " is out of range")
fault_text (Margin contract) = codes "the margin of contract " ++ (decimal contract ++ codes " is out of range")
