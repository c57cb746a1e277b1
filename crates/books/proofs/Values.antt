-- The value of a price is bounded.
use Rattle.std.proofs.Common.{◌≡◌, ◌+◌, ◌*◌, ◌<◌, ◌≤◌, true, ◌&&◌, leb, ℤ, pos, ◌-ℤ◌, ◌*ℤ◌, nat_abs, refl, mul_comm, mul-le-mul, arith, w32, w64, FitsSigned, to_z, of_z}
use Rattle.std.specs.Prelude.{int_div}
use Rattle.std.proofs.lemmas.Int.{ints, to_z-of_z, unsigned_abs-mul, fits_signed_from_abs}
use Rattle.std.proofs.lemmas.Bool.{and_parts, leb-true}
use Rattle.records.specs.Ranges.{between, within, price_in_range, bounds_in_order, prices_in_order}
use Rattle.records.specs.declared.contract.Contract.{Contract}
use Rattle.books.specs.Value.{value, value_at}
use Rattle.books.proofs.Within.{mul_within, quot_within}

-- W is at most 1,000, and R at least 1
module _ (c : Contract) where
  prices_and_factors : (prices_in_order c.terms.lower c.terms.settlement c.terms.upper && (between 1 1000 c.terms.w && between 1 1000 c.terms.r)) ≡ true
  prices_and_factors =
      (and_parts (between 1 100000 c.terms.last_day) _ (and_parts (between 1 65535 c.terms.underlying) _ c.ranges).1).1

  both_factors : (between 1 1000 c.terms.w ≡ true) × (between 1 1000 c.terms.r ≡ true)
  both_factors =
      and_parts (between 1 1000 c.terms.w) _ (and_parts (prices_in_order c.terms.lower c.terms.settlement c.terms.upper) _ prices_and_factors).1

  pub factor_small : c.terms.w ≤ 1000
  factor_small = leb-true c.terms.w 1000 (and_parts (leb 1 c.terms.w) (leb c.terms.w 1000) both_factors.0).1

  pub divisor_positive : 0 < c.terms.r
  divisor_positive = leb-true 1 c.terms.r (and_parts (leb 1 c.terms.r) (leb c.terms.r 1000) both_factors.1).0

  pub value_bounded : (price : ℤ) → nat_abs (value price c.terms.w c.terms.r) ≤ 1000 * nat_abs price
  value_bounded price =
      quot_within (price *ℤ pos c.terms.w) c.terms.r (1000 * nat_abs price)
      (let e = unsigned_abs-mul price (pos c.terms.w) in
      let h : nat_abs price * c.terms.w ≤ nat_abs price * 1000 = mul-le-mul (omega arith) factor_small in
      let k = mul_comm (nat_abs price) 1000 in
      omega arith)

-- the product and the quotient that the code makes
module _ (c : Contract) (price : ℤ) (passed : FitsSigned w32 price) where
  small : nat_abs price ≤ 2147483648
  small = omega (arith, ints)

  pub value_fits : FitsSigned w64 (value_at c price)
  value_fits = fits_signed_from_abs w64 (value_at c price) (omega (arith, value_bounded c price, small))

  module _ {p w : ℤ} (ep : p ≡ price) (ew : w ≡ pos c.terms.w) where
    product_within : nat_abs (price *ℤ pos c.terms.w) ≤ 2147483648000
    product_within = omega (arith, mul_within price (pos c.terms.w) 2147483648 1000 small (factor_small c))

    product : to_z w64 (of_z w64 (p *ℤ w)) ≡ price *ℤ pos c.terms.w
    product = rw (ep, ew) (to_z-of_z w64 (price *ℤ pos c.terms.w) (fits_signed_from_abs w64 (price *ℤ pos c.terms.w) (omega (arith, product_within))))

    pub product_small : nat_abs (to_z w64 (of_z w64 (p *ℤ w))) ≤ 2147483648000
    product_small = rw product product_within

    pub quotient : int_div (to_z w64 (of_z w64 (p *ℤ w))) (pos c.terms.r) ≡ value_at c price
    quotient = rw product refl

  -- a value as it is told for a price that is passed
  pub told : {z : ℤ} → z ≡ value_at c (to_z w32 (of_z w32 price)) → to_z w64 (of_z w64 z) ≡ value_at c price
  told e = rw (e, to_z-of_z w32 price passed, to_z-of_z w64 (value_at c price) value_fits)

  pub told_small : nat_abs (value_at c price) ≤ 2147483648000
  told_small = omega (arith, value_bounded c price, small)

-- and the difference of two
module _ (c : Contract) (to from : ℤ) where
  pub difference_within : nat_abs (value_at c to -ℤ value_at c from) ≤ 1000 * nat_abs to + 1000 * nat_abs from
  difference_within = omega (arith, ints, value_bounded c to, value_bounded c from)

  pub difference_fits : FitsSigned w32 to → FitsSigned w32 from → FitsSigned w64 (value_at c to -ℤ value_at c from)
  difference_fits f g =
      fits_signed_from_abs w64 (value_at c to -ℤ value_at c from) (omega (arith, difference_within, small c to f, small c from g))

within_small : (z : ℤ) → within 1000000 z ≡ true → nat_abs z ≤ 1000000
within_small z h = grind (arith, ints)

pub settlement_small : (c : Contract) → nat_abs c.terms.settlement ≤ 1000000
settlement_small c =
    let p = (and_parts (prices_in_order c.terms.lower c.terms.settlement c.terms.upper) _ (prices_and_factors c)).0 in
    let b = and_parts (bounds_in_order c.terms.lower c.terms.upper) _ p in
    within_small c.terms.settlement (and_parts (price_in_range c.terms.settlement) _ b.1).0
