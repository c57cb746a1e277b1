-- What an instrument rule means, and the laws that every rule keeps.
use Rattle.std.specs.Prelude.{◌≡◌, ℕ, Bool, true, List, ℤ, is_some, Option}
use Rattle.records.specs.Ranges.{within, price_in_range}
use Rattle.records.specs.Registers.{numbered}
use Rattle.records.specs.declared.contract.Contract.{Contract}
use Rattle.records.specs.declared.instrument.Instrument.{Instrument}
use Rattle.rulebook.specs.Legs.{leg_at, map_legs}
use Rattle.rulebook.specs.Reading.{leg_terms, limits_of, settlement_of, listing_at}
use Rattle.rulebook.specs.declared.legs.Bounds.{Bounds}
use Rattle.rulebook.specs.declared.legs.Leg.{Leg}
use Rattle.rulebook.specs.declared.legs.LegPlace.{LegPlace}
use Rattle.rulebook.specs.declared.legs.Legs.{Legs}
use Rattle.rulebook.specs.declared.legs.Legs.TheVariants.{NoLeg, One, Two}
use Rattle.rulebook.specs.declared.listing.Listing.{Listing}

-- What a rule tells. Each answer is a function of what it may rest on, and of nothing else.
pub record RuleMeaning : Type 0 where
  -- whether the rule owns a kind code
  pub owns : ℕ → Bool
  -- whether it admits the instrument, by the underlying and last trading day of each contract that is listed
  pub admits : Instrument → (ℕ → Option Listing) → Bool
  -- the legs, in the order in which they trade
  pub legs : Instrument → Legs Leg
  -- a leg's price, by the match price and the settlement prices of the legs' contracts
  pub leg_price : Instrument → LegPlace → ℤ → Legs ℤ → ℤ
  -- the price bounds, by the limits of the legs' contracts
  pub bounds : Instrument → Legs Bounds → Bounds
  -- whether orders may be dated
  pub dated : Instrument → Bool

-- the bounds that a rule tells of an instrument among the listed contracts
abbrev pub bounds_now : RuleMeaning → Instrument → List Contract → Bounds
bounds_now rule i contracts = rule.bounds i (map_legs limits_of (leg_terms contracts (rule.legs i)))

-- the price of a leg at a match price, among the listed contracts
abbrev pub price_now : RuleMeaning → Instrument → LegPlace → ℤ → List Contract → ℤ
price_now rule i leg price contracts = rule.leg_price i leg price (map_legs settlement_of (leg_terms contracts (rule.legs i)))

-- two legs are in different contracts
abbrev pub Apart : Legs Leg → Type 0
Apart NoLeg = Unit {0}
Apart (One a) = Unit {0}
Apart (Two a b) = a.contract ≡ b.contract → ⊥

-- there is a leg, and every leg is in a listed contract
abbrev pub AllListed : List Contract → Legs Leg → Type 0
AllListed contracts NoLeg = ⊥
AllListed contracts (One a) = is_some (numbered contracts a.contract) ≡ true
AllListed contracts (Two a b) = (is_some (numbered contracts a.contract) ≡ true) × (is_some (numbered contracts b.contract) ≡ true)

abbrev pub BoundsInRange : Bounds → Type 0
BoundsInRange b = (price_in_range b.lower ≡ true) × (price_in_range b.upper ≡ true)

-- The laws. That there are at most two legs, and that each is bought or sold, is said by the types.
pub record LawfulRule (rule : RuleMeaning) : Type 0 where
  pub apart : (i : Instrument) → Apart (rule.legs i)
  -- an admitted record has a leg, and all its legs are in listed contracts
  pub admitted : (i : Instrument) (contracts : List Contract) → rule.admits i (listing_at contracts) ≡ true → AllListed contracts (rule.legs i)
  -- bounds lie within a million of nought
  pub bounded : (i : Instrument) (contracts : List Contract) → BoundsInRange (bounds_now rule i contracts)
  -- the price of a leg lies within two million of nought for a match price within a million
  pub priced : (i : Instrument) (leg : LegPlace) (price : ℤ) (contracts : List Contract)
      → is_some (leg_at leg (rule.legs i)) ≡ true → price_in_range price ≡ true
      → within 2000000 (price_now rule i leg price contracts) ≡ true
