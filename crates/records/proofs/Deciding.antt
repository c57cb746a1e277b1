-- Tests of numbers decide what they are meant for.
use Rattle.std.proofs.Common.{ℕ, ◌≤◌, leb, ℤ, ◌≤ℤ◌, Decides, arith}
use Rattle.std.specs.Int.Signed.{le_z}
use Rattle.std.proofs.lemmas.Bool.{leb-true, le-leb}
use Rattle.std.proofs.lemmas.Int.{ints}

pub decides_leb : (a b : ℕ) → Decides (leb a b) (a ≤ b)
decides_leb a b = (leb-true a b, le-leb a b)

pub decides_le_ℤ : (a b : ℤ) → Decides (le_z a b) (a ≤ℤ b)
decides_le_ℤ a b = (λ h. grind (arith, ints), λ h. grind (arith, ints))
