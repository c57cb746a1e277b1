-- Numbers that have a record.
use Rattle.std.specs.Prelude.{ℕ, ◌<◌, ◌≤◌, List, length}

-- n is the number of a record
abbrev pub Known : {X : Type 0} → List X → ℕ → Type 0
Known xs n = (0 < n) × (n ≤ length xs)
