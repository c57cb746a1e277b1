-- The prices of the contracts that are read are in range, and noughts are.
use Rattle.std.specs.Prelude.{◌≡◌, true, List, Some, None, Option, refl}
use Rattle.std.proofs.Common.{arith}
use Rattle.std.specs.Option.{option_map, unwrap_or}
use Rattle.records.specs.Ranges.{price_in_range}
use Rattle.records.specs.Registers.{numbered}
use Rattle.records.specs.declared.contract.Contract.{Contract}
use Rattle.records.specs.declared.terms.ContractTerms.{ContractTerms}
use Rattle.rulebook.specs.Legs.{Each, map_legs}
use Rattle.rulebook.specs.Reading.{noughts, leg_terms, settlement_of, limits_of}
use Rattle.rulebook.specs.Rules.{BoundsInRange}
use Rattle.rulebook.specs.declared.legs.Leg.{Leg}
use Rattle.rulebook.specs.declared.legs.Legs.{Legs}
use Rattle.rulebook.specs.declared.legs.Legs.TheVariants.{NoLeg, One, Two}

-- settlement price and limits are in range
pub record Prices (t : ContractTerms) : Type 0 where
  pub settlement : price_in_range (settlement_of t) ≡ true
  pub limits : BoundsInRange (limits_of t)

contract_prices : (c : Contract) → Prices c.terms
contract_prices c = let h = c.ranges in record { settlement = grind arith; limits = (grind arith, grind arith) }

read_prices : (o : Option Contract) → Prices (unwrap_or (option_map (λ c. c.terms) o) noughts)
read_prices None = record { settlement = refl; limits = (refl, refl) }
read_prices (Some c) = contract_prices c

-- what follows from that holds for each leg
pub each_read : {T : Type 0} (f : ContractTerms → T) (P : T → Type 0) → ((t : ContractTerms) → Prices t → P (f t))
    → (contracts : List Contract) (legs : Legs Leg) → Each P (map_legs f (leg_terms contracts legs))
each_read f P h contracts NoLeg = tt
each_read f P h contracts (One a) = h _ (read_prices (numbered contracts a.contract))
each_read f P h contracts (Two a b) = (h _ (read_prices (numbered contracts a.contract)), h _ (read_prices (numbered contracts b.contract)))
