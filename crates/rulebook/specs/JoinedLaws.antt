-- Two rules that keep the laws keep them joined.
use Rattle.std.specs.Prelude.{◌≡◌, Bool, true, false, ℤ, pos, is_some, Some, None, Option, ◌≢◌}
use Rattle.std.proofs.lemmas.Bool.{false≢true}
use Rattle.records.specs.Ranges.{within}
use Rattle.rulebook.specs.Joined.{reply, owner, joined}
use Rattle.rulebook.specs.Legs.{map_legs, leg_at, no_bounds}
use Rattle.rulebook.specs.Reading.{leg_terms, limits_of, settlement_of}
use Rattle.rulebook.specs.Rules.{RuleMeaning, Apart, AllListed, BoundsInRange, LawfulRule}
use Rattle.rulebook.specs.declared.joined.Owner.{Owner}
use Rattle.rulebook.specs.declared.joined.Owner.TheVariants.{First, Second}
use Rattle.rulebook.specs.declared.legs.Bounds.{Bounds}
use Rattle.rulebook.specs.declared.legs.Leg.{Leg}
use Rattle.rulebook.specs.declared.legs.LegPlace.{LegPlace}
use Rattle.rulebook.specs.declared.legs.LegPlace.TheVariants as place
use Rattle.rulebook.specs.declared.legs.Legs.{Legs}
use Rattle.rulebook.specs.declared.legs.Legs.TheVariants.{NoLeg}
use Rattle.rulebook.specs.Ranges.{no_bounds_in_range}

-- what holds of each of three pairs of answers holds of the pair that is given
one_of : {S T : Type 0} (P : S → T → Type 0) (o : Option Owner) (x y z : S) (x' y' z' : T) → P x x' → P y y' → P z z' → P (reply o x y z) (reply o x' y' z')
one_of P (Some First) x y z x' y' z' h k l = h
one_of P (Some Second) x y z x' y' z' h k l = k
one_of P None x y z x' y' z' h k l = l

no_leg : (leg : LegPlace) → is_some (leg_at {T = Leg} leg NoLeg) ≢ true
no_leg place.First e = false≢true e
no_leg place.Second e = false≢true e

joined_bounded : (o : Option Owner) (f : Legs Leg → Legs Bounds) (la lb : Legs Leg) (a b : Legs Bounds → Bounds)
    → BoundsInRange (a (f la)) → BoundsInRange (b (f lb)) → BoundsInRange (reply o (a (f (reply o la lb NoLeg))) (b (f (reply o la lb NoLeg))) no_bounds)
joined_bounded (Some First) f la lb a b h k = h
joined_bounded (Some Second) f la lb a b h k = k
joined_bounded None f la lb a b h k = no_bounds_in_range

joined_priced : (o : Option Owner) (leg : LegPlace) (f : Legs Leg → Legs ℤ) (la lb : Legs Leg) (a b : Legs ℤ → ℤ)
    → (is_some (leg_at leg la) ≡ true → within 2000000 (a (f la)) ≡ true) → (is_some (leg_at leg lb) ≡ true → within 2000000 (b (f lb)) ≡ true)
    → is_some (leg_at leg (reply o la lb NoLeg)) ≡ true → within 2000000 (reply o (a (f (reply o la lb NoLeg))) (b (f (reply o la lb NoLeg))) (pos 0)) ≡ true
joined_priced (Some First) leg f la lb a b h k has = h has
joined_priced (Some Second) leg f la lb a b h k has = k has
joined_priced None leg f la lb a b h k has = absurd (no_leg leg has)

module _ (a b : RuleMeaning) (la : LawfulRule a) (lb : LawfulRule b) where
  pub joined_lawful : LawfulRule (joined a b)
  joined_lawful =
      record {
        apart = λ i. one_of {T = Bool} (λ legs _. Apart legs) (owner a b i.terms.kind) (a.legs i) (b.legs i) NoLeg true true true (la.apart i) (lb.apart i) tt;
        admitted = λ i contracts.
            one_of (λ (e : Bool) (legs : Legs Leg). e ≡ true → AllListed contracts legs) (owner a b i.terms.kind) _ _ false (a.legs i) (b.legs i) NoLeg
            (la.admitted i contracts) (lb.admitted i contracts) (λ e. absurd (false≢true e));
        bounded = λ i contracts.
            joined_bounded (owner a b i.terms.kind) (λ legs. map_legs limits_of (leg_terms contracts legs)) (a.legs i) (b.legs i) (a.bounds i) (b.bounds i)
            (la.bounded i contracts) (lb.bounded i contracts);
        priced = λ i leg price contracts has h.
            joined_priced (owner a b i.terms.kind) leg (λ legs. map_legs settlement_of (leg_terms contracts legs)) (a.legs i) (b.legs i) (a.leg_price i leg price) (b.leg_price i leg price)
            (λ e. la.priced i leg price contracts e h) (λ e. lb.priced i leg price contracts e h) has;
      }
