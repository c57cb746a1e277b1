-- Futures on one contract.
use Rattle.std.specs.Prelude.{ℕ, Bool, cond, not, ◌&&◌, ℤ, pos, is_some, Option, ◌==◌, unsigned_abs}
use Rattle.records.specs.declared.codes.Direction.TheVariants.{Buy}
use Rattle.records.specs.declared.instrument.Instrument.{Instrument}
use Rattle.rulebook.specs.Legs.{no_bounds}
use Rattle.rulebook.specs.Rules.{RuleMeaning}
use Rattle.rulebook.specs.declared.legs.Bounds.{Bounds}
use Rattle.rulebook.specs.declared.legs.Leg.{Leg}
use Rattle.rulebook.specs.declared.legs.Legs.{Legs}
use Rattle.rulebook.specs.declared.legs.Legs.TheVariants.{NoLeg, One, Two}
use Rattle.rulebook.specs.declared.listing.Listing.{Listing}

abbrev pub futures_code : ℕ → Bool
futures_code kind = kind == 1

abbrev pub is_futures : Instrument → Bool
is_futures i = futures_code i.terms.kind

abbrev pub is_nought : ℤ → Bool
is_nought z = unsigned_abs z == 0

-- a listed first contract, no second, both bounds 0
abbrev pub futures_admitted : Instrument → (ℕ → Option Listing) → Bool
futures_admitted i contracts =
    is_futures i &&
    (is_some (contracts i.terms.first) && (not (is_some i.terms.second) && (is_nought i.terms.lower && is_nought i.terms.upper)))

-- one leg, which a purchase buys
abbrev pub futures_legs : Instrument → Legs Leg
futures_legs i = cond (is_futures i) (One (record { contract = i.terms.first; in_purchase = Buy })) NoLeg

-- the limits of the one leg's contract
abbrev pub one_limits : Legs Bounds → Bounds
one_limits NoLeg = no_bounds
one_limits (One limits) = limits
one_limits (Two a b) = no_bounds

abbrev pub futures : RuleMeaning
futures =
    record {
      owns = futures_code;
      admits = futures_admitted;
      legs = futures_legs;
      leg_price = λ i leg price settlements. cond (is_futures i) price (pos 0);
      bounds = λ i limits. cond (is_futures i) (one_limits limits) no_bounds;
      dated = is_futures;
    }
