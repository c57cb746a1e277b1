-- Prices and bounds in range.
use Rattle.std.specs.Prelude.{◌≡◌, true, ℤ, ◌+ℤ◌, refl}
use Rattle.std.proofs.Common.{arith}
use Rattle.std.proofs.lemmas.Int.{ints}
use Rattle.records.specs.Ranges.{within, price_in_range}
use Rattle.rulebook.specs.Legs.{no_bounds}
use Rattle.rulebook.specs.Rules.{BoundsInRange}

pub no_bounds_in_range : BoundsInRange no_bounds
no_bounds_in_range = (refl, refl)

-- a price in range, and the sum of two, is within twice the range
pub price_within : (p : ℤ) → price_in_range p ≡ true → within 2000000 p ≡ true
price_within p h = grind (arith, ints)

pub sum_within : (a b : ℤ) → price_in_range a ≡ true → price_in_range b ≡ true → within 2000000 (a +ℤ b) ≡ true
sum_within a b h k = grind (arith, ints)
