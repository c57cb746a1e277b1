-- The futures rule keeps the laws.
use Rattle.std.specs.Prelude.{◌≡◌, Bool, true, false, cond, ◌&&◌, List, pos, is_some, Some, None, Option, refl}
use Rattle.std.proofs.lemmas.Bool.{and_parts, cond_both, false≢true}
use Rattle.std.specs.Option.{option_map}
use Rattle.records.specs.Ranges.{within}
use Rattle.records.specs.Registers.{numbered}
use Rattle.records.specs.declared.contract.Contract.{Contract}
use Rattle.rulebook.specs.Futures.{is_futures, one_limits, futures_legs, futures}
use Rattle.rulebook.specs.Legs.{Each, map_legs, no_bounds}
use Rattle.rulebook.specs.Reading.{leg_terms, limits_of, listing_of}
use Rattle.rulebook.specs.Rules.{Apart, AllListed, BoundsInRange, LawfulRule}
use Rattle.rulebook.specs.declared.legs.Bounds.{Bounds}
use Rattle.rulebook.specs.declared.legs.Leg.{Leg}
use Rattle.rulebook.specs.declared.legs.Legs.{Legs}
use Rattle.rulebook.specs.declared.legs.Legs.TheVariants.{NoLeg, One, Two}
use Rattle.rulebook.specs.Ranges.{no_bounds_in_range, price_within}
use Rattle.rulebook.specs.Readings.{each_read}

-- a contract that has a listing is listed
pub has_listing : (o : Option Contract) → is_some (option_map listing_of o) ≡ true → is_some o ≡ true
has_listing None e = e
has_listing (Some c) e = refl

one_apart : (b : Bool) (l : Leg) → Apart (cond b (One l) NoLeg)
one_apart true l = tt
one_apart false l = tt

one_listed : (b rest : Bool) (contracts : List Contract) (l : Leg)
    → (b && (is_some (option_map listing_of (numbered contracts l.contract)) && rest)) ≡ true → AllListed contracts (cond b (One l) NoLeg)
one_listed true rest contracts l e = has_listing (numbered contracts l.contract) (and_parts (is_some (option_map listing_of (numbered contracts l.contract))) rest e).0
one_listed false rest contracts l e = absurd (false≢true e)

limits_in_range : (limits : Legs Bounds) → Each BoundsInRange limits → BoundsInRange (one_limits limits)
limits_in_range NoLeg h = no_bounds_in_range
limits_in_range (One a) h = h
limits_in_range (Two a b) h = no_bounds_in_range

pub futures_lawful : LawfulRule futures
futures_lawful =
    record {
      apart = λ i. one_apart (is_futures i) _;
      admitted = λ i contracts e. one_listed (is_futures i) _ contracts _ e;
      bounded = λ i contracts.
          cond_both (is_futures i) (one_limits (map_legs limits_of (leg_terms contracts (futures_legs i)))) no_bounds BoundsInRange
          (λ _. limits_in_range _ (each_read limits_of BoundsInRange (λ t p. p.limits) contracts (futures_legs i))) (λ _. no_bounds_in_range);
      priced = λ i leg price contracts has h. cond_both (is_futures i) price (pos 0) (λ z. within 2000000 z ≡ true) (λ _. price_within price h) (λ _. refl);
    }
