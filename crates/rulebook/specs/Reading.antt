-- Reading the listed contracts by number; a contract that is not listed reads as noughts.
use Rattle.std.specs.Prelude.{ℕ, List, ℤ, pos, Option}
use Rattle.std.specs.Option.{option_map, unwrap_or}
use Rattle.records.specs.Registers.{numbered}
use Rattle.records.specs.declared.contract.Contract.{Contract}
use Rattle.records.specs.declared.terms.ContractTerms.{ContractTerms}
use Rattle.rulebook.specs.Legs.{map_legs}
use Rattle.rulebook.specs.declared.legs.Bounds.{Bounds}
use Rattle.rulebook.specs.declared.legs.Leg.{Leg}
use Rattle.rulebook.specs.declared.legs.Legs.{Legs}
use Rattle.rulebook.specs.declared.listing.Listing.{Listing}

abbrev pub noughts : ContractTerms
noughts = record { underlying = 0; last_day = 0; lower = pos 0; settlement = pos 0; upper = pos 0; w = 0; r = 0 }

abbrev pub terms_at : List Contract → ℕ → ContractTerms
terms_at contracts n = unwrap_or (option_map (λ c. c.terms) (numbered contracts n)) noughts

-- the terms of each leg's contract
abbrev pub leg_terms : List Contract → Legs Leg → Legs ContractTerms
leg_terms contracts legs = map_legs (λ l. terms_at contracts l.contract) legs

-- a contract's settlement price and limits, of its terms
abbrev pub settlement_of : ContractTerms → ℤ
settlement_of t = t.settlement

abbrev pub limits_of : ContractTerms → Bounds
limits_of t = record { lower = t.lower; upper = t.upper }

-- what admission may rest on of a contract
abbrev pub listing_of : Contract → Listing
listing_of c = record { underlying = c.terms.underlying; last_day = c.terms.last_day }

abbrev pub listing_at : List Contract → ℕ → Option Listing
listing_at contracts n = option_map listing_of (numbered contracts n)
