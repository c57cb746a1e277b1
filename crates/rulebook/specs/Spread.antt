-- Calendar spreads. A purchase of a spread sells the nearby contract and buys the distant one, and a spread's price is
-- the distant price less the nearby price.
use Rattle.std.specs.Prelude.{ℕ, Bool, false, cond, ◌&&◌, ℤ, pos, ◌+ℤ◌, Some, None, Option, ◌==◌, nat_lt}
use Rattle.records.specs.declared.codes.Direction.TheVariants.{Buy, Sell}
use Rattle.records.specs.declared.instrument.Instrument.{Instrument}
use Rattle.rulebook.specs.Legs.{no_bounds}
use Rattle.rulebook.specs.Rules.{RuleMeaning}
use Rattle.rulebook.specs.declared.legs.Bounds.{Bounds}
use Rattle.rulebook.specs.declared.legs.Leg.{Leg}
use Rattle.rulebook.specs.declared.legs.LegPlace.{LegPlace}
use Rattle.rulebook.specs.declared.legs.LegPlace.TheVariants.{First, Second}
use Rattle.rulebook.specs.declared.legs.Legs.{Legs}
use Rattle.rulebook.specs.declared.legs.Legs.TheVariants.{NoLeg, One, Two}
use Rattle.rulebook.specs.declared.listing.Listing.{Listing}
use Rattle.rulebook.specs.declared.months.Months.{Months}

-- the first contract is the nearby one, the second, another, the distant one
abbrev pub two_months : ℕ → Option ℕ → Option Months
two_months first None = None
two_months first (Some second) = cond (second == first) None (Some (record { nearby = first; distant = second }))

abbrev pub spread_code : ℕ → Bool
spread_code kind = kind == 2

-- the months of a spread's record
abbrev pub months_of : Instrument → Option Months
months_of i = cond (spread_code i.terms.kind) (two_months i.terms.first i.terms.second) None

-- both listed, of one underlying, the first with the earlier last trading day
abbrev pub follows : Option Listing → Option Listing → Bool
follows None distant = false
follows (Some n) None = false
follows (Some n) (Some d) = n.underlying == d.underlying && nat_lt n.last_day d.last_day

abbrev pub spread_admitted : Option Months → (ℕ → Option Listing) → Bool
spread_admitted None contracts = false
spread_admitted (Some m) contracts = follows (contracts m.nearby) (contracts m.distant)

abbrev pub spread_legs : Option Months → Legs Leg
spread_legs None = NoLeg
spread_legs (Some m) = Two (record { contract = m.nearby; in_purchase = Sell }) (record { contract = m.distant; in_purchase = Buy })

abbrev pub nearby_settlement : Legs ℤ → ℤ
nearby_settlement NoLeg = pos 0
nearby_settlement (One nearby) = nearby
nearby_settlement (Two nearby distant) = nearby

-- the nearby contract at its settlement price, the distant one at that price plus the match price
abbrev pub month_price : LegPlace → ℤ → ℤ → ℤ
month_price First nearby price = nearby
month_price Second nearby price = nearby +ℤ price

abbrev pub spread_price : Option Months → LegPlace → ℤ → Legs ℤ → ℤ
spread_price None leg price settlements = pos 0
spread_price (Some m) leg price settlements = month_price leg (nearby_settlement settlements) price

abbrev pub spread_bounds : Option Months → Instrument → Bounds
spread_bounds None i = no_bounds
spread_bounds (Some m) i = record { lower = i.terms.lower; upper = i.terms.upper }

abbrev pub spread : RuleMeaning
spread =
    record {
      owns = spread_code;
      admits = λ i contracts. spread_admitted (months_of i) contracts;
      legs = λ i. spread_legs (months_of i);
      leg_price = λ i leg price settlements. spread_price (months_of i) leg price settlements;
      bounds = λ i limits. spread_bounds (months_of i) i;
      dated = λ i. false;
    }
