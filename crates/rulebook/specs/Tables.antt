-- The tables of the clearing centres.
use Rattle.std.specs.Prelude.{◌≡◌, ℕ, zero, suc, ◌≤◌, true, List, Some, None, Option, refl}
use Rattle.std.proofs.Common.{sym, subst, arith}
use Rattle.std.proofs.lemmas.Option.{slice_get-get_or, slice_get_past}
use Rattle.std.specs.Option.{unwrap_or}
use Rattle.records.specs.Ranges.{between, absent_or_between}
use Rattle.rulebook.specs.Centres.{InRange, entry_of, lots_most, pledge_most}

pub between_low : (low high n : ℕ) → between low high n ≡ true → low ≤ n
between_low low high n e = grind arith

pub between_high : (low high n : ℕ) → between low high n ≡ true → n ≤ high
between_high low high n e = grind arith

module _ (low high : ℕ) (entries : List (Option ℕ)) (h : InRange low high entries) where
  pub entry_in_range : (n : ℕ) → absent_or_between low high (entry_of entries n) ≡ true
  entry_in_range zero = refl
  entry_in_range (suc n) = grind (arith, slice_get-get_or, slice_get_past, h n)

  pub entry_between : (n x : ℕ) → Some x ≡ entry_of entries n → between low high x ≡ true
  entry_between n x e = subst (λ o. absent_or_between low high o ≡ true) (sym e) (entry_in_range n)

value_bounded : (high : ℕ) (o : Option ℕ) → absent_or_between 0 high o ≡ true → unwrap_or o 0 ≤ high
value_bounded high None e = omega arith
value_bounded high (Some n) e = between_high 0 high n e

pub lots_bounded : (limits : List (Option ℕ)) → InRange 0 1000000 limits → (contract : ℕ) → lots_most limits contract ≤ 1000000
lots_bounded limits h contract = value_bounded 1000000 (entry_of limits contract) (entry_in_range 0 1000000 limits h contract)

pub pledge_bounded : (pledge margin : Option ℕ) → pledge_most pledge margin ≤ 1000000
pledge_bounded None margin = omega arith
pledge_bounded (Some p) None = omega arith
pledge_bounded (Some p) (Some m) = omega arith
