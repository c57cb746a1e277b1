use Rattle.std.proofs.Common.{◌≡◌, ℕ, ◌+◌, not, position, List, Some, None, Option, sym, arith, refl}
use Rattle.std.proofs.lemmas.Bool.{not-false, not-true}
use Rattle.std.proofs.lemmas.Bool.Decides.{nat_tests}
use Rattle.std.proofs.lemmas.List.Quantifiers.{position-Some}
use Rattle.std.proofs.lemmas.List.Sums.{fails_before_first}
use Rattle.records.specs.Ranges.{absent_or_between}
use Rattle.rulebook.specs.Centres.{InRange, Outside}
use Rattle.rulebook.proofs.table.Table.new.Goals as goal

module _ (low high : ℕ) (entries : List (Option ℕ)) where
  all_in_range : None ≡ position (λ e. not (absent_or_between low high e)) entries → InRange low high entries
  all_in_range e k l = not-false _ (fails_before_first (λ o. not (absent_or_between low high o)) entries k None (grind (arith, nat_tests)))

  one_outside : (n : ℕ) → Some n ≡ position (λ e. not (absent_or_between low high e)) entries → Outside low high entries (n + 1)
  one_outside n e =
      let found = position-Some (λ o. not (absent_or_between low high o)) entries n None (sym e) in
      record { place = n; number = refl; known = found.0; outside = not-true _ found.1; first = λ k l. not-false _ (found.2 k l) }

pub invariant_of-result : goal.invariant_of-result
invariant_of-result g c = record { within = all_in_range g.row.LOW g.row.HIGH c.args.entries c.in-None.ensures }

pub returns-in-Some : goal.returns-in-Some
returns-in-Some g c = one_outside g.row.LOW g.row.HIGH c.args.entries c.in-Some.place c.in-Some.ensures
