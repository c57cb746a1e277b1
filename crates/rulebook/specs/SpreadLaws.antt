-- The spread rule keeps the laws.
use Rattle.std.specs.Prelude.{◌≡◌, ℕ, true, List, ℤ, is_some, Some, None, Option, ◌==◌, refl}
use Rattle.std.proofs.Common.{sym, arith}
use Rattle.std.proofs.lemmas.Bool.{cond_both, false≢true, eqb-false}
use Rattle.std.specs.Option.{option_map}
use Rattle.records.specs.Ranges.{within, price_in_range}
use Rattle.records.specs.Registers.{numbered}
use Rattle.records.specs.declared.contract.Contract.{Contract}
use Rattle.records.specs.declared.instrument.Instrument.{Instrument}
use Rattle.rulebook.specs.Legs.{Each}
use Rattle.rulebook.specs.Reading.{settlement_of, listing_of, listing_at}
use Rattle.rulebook.specs.Rules.{Apart, AllListed, BoundsInRange, LawfulRule}
use Rattle.rulebook.specs.Spread.{two_months, spread_code, months_of, follows, spread_admitted, spread_legs, nearby_settlement, month_price, spread_price, spread_bounds, spread}
use Rattle.rulebook.specs.declared.legs.LegPlace.{LegPlace}
use Rattle.rulebook.specs.declared.legs.LegPlace.TheVariants.{First, Second}
use Rattle.rulebook.specs.declared.legs.Legs.{Legs}
use Rattle.rulebook.specs.declared.legs.Legs.TheVariants.{NoLeg, One, Two}
use Rattle.rulebook.specs.declared.months.Months.{Months}
use Rattle.rulebook.specs.Ranges.{no_bounds_in_range, price_within, sum_within}
use Rattle.rulebook.specs.Readings.{each_read}

two_apart : (first : ℕ) (second : Option ℕ) → Apart (spread_legs (two_months first second))
two_apart first None = tt
two_apart first (Some second) =
    cond_both (second == first) None (Some (record { nearby = first; distant = second })) (λ m. Apart (spread_legs m))
    (λ _. tt) (λ e same. eqb-false second first e (sym same))

months_apart : (i : Instrument) → Apart (spread_legs (months_of i))
months_apart i =
    cond_both (spread_code i.terms.kind) (two_months i.terms.first i.terms.second) None (λ m. Apart (spread_legs m))
    (λ _. two_apart i.terms.first i.terms.second) (λ _. tt)

both_listed : (nearby distant : Option Contract) → follows (option_map listing_of nearby) (option_map listing_of distant) ≡ true → (is_some nearby ≡ true) × (is_some distant ≡ true)
both_listed None distant e = absurd (false≢true e)
both_listed (Some n) None e = absurd (false≢true e)
both_listed (Some n) (Some d) e = (refl, refl)

months_listed : (m : Option Months) (contracts : List Contract) → spread_admitted m (listing_at contracts) ≡ true → AllListed contracts (spread_legs m)
months_listed None contracts e = absurd (false≢true e)
months_listed (Some m) contracts e = both_listed (numbered contracts m.nearby) (numbered contracts m.distant) e

-- an instrument's own bounds are in range
pub own_bounds_in_range : (i : Instrument) → BoundsInRange (record { lower = i.terms.lower; upper = i.terms.upper })
own_bounds_in_range i = let h = i.ranges in (grind arith, grind arith)

months_bounded : (m : Option Months) (i : Instrument) → BoundsInRange (spread_bounds m i)
months_bounded None i = no_bounds_in_range
months_bounded (Some m) i = own_bounds_in_range i

settlement_in_range : (settlements : Legs ℤ) → Each (λ s. price_in_range s ≡ true) settlements → price_in_range (nearby_settlement settlements) ≡ true
settlement_in_range NoLeg h = refl
settlement_in_range (One a) h = h
settlement_in_range (Two a b) h = h.0

month_priced : (leg : LegPlace) (nearby price : ℤ) → price_in_range nearby ≡ true → price_in_range price ≡ true → within 2000000 (month_price leg nearby price) ≡ true
month_priced First nearby price h k = price_within nearby h
month_priced Second nearby price h k = sum_within nearby price h k

months_priced : (m : Option Months) (leg : LegPlace) (price : ℤ) (settlements : Legs ℤ) → price_in_range price ≡ true → Each (λ s. price_in_range s ≡ true) settlements
    → within 2000000 (spread_price m leg price settlements) ≡ true
months_priced None leg price settlements h hs = refl
months_priced (Some m) leg price settlements h hs = month_priced leg (nearby_settlement settlements) price (settlement_in_range settlements hs) h

pub spread_lawful : LawfulRule spread
spread_lawful =
    record {
      apart = months_apart;
      admitted = λ i contracts e. months_listed (months_of i) contracts e;
      bounded = λ i contracts. months_bounded (months_of i) i;
      priced = λ i leg price contracts has h.
          months_priced (months_of i) leg price _ h (each_read settlement_of (λ s. price_in_range s ≡ true) (λ t p. p.settlement) contracts (spread_legs (months_of i)));
    }
