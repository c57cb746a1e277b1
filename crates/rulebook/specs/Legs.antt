-- The legs of an instrument.
use Rattle.std.specs.Prelude.{◌≡◌, pos, Some, None, Option}
use Rattle.records.specs.declared.codes.Direction.{Direction}
use Rattle.records.specs.declared.codes.Direction.TheVariants.{Buy, Sell}
use Rattle.rulebook.specs.declared.legs.Bounds.{Bounds}
use Rattle.rulebook.specs.declared.legs.LegPlace.{LegPlace}
use Rattle.rulebook.specs.declared.legs.LegPlace.TheVariants.{First, Second}
use Rattle.rulebook.specs.declared.legs.Legs.{Legs}
use Rattle.rulebook.specs.declared.legs.Legs.TheVariants.{NoLeg, One, Two}

abbrev pub opposite : Direction → Direction
opposite Buy = Sell
opposite Sell = Buy

-- what an order does in a leg's contract: in a purchase what the leg says, in a sale the opposite
abbrev pub taken : Direction → Direction → Direction
taken Buy in_purchase = in_purchase
taken Sell in_purchase = opposite in_purchase

-- the same question asked of each leg
abbrev pub map_legs : {S T : Type 0} → (S → T) → Legs S → Legs T
map_legs f NoLeg = NoLeg
map_legs f (One a) = One (f a)
map_legs f (Two a b) = Two (f a) (f b)

-- what is made of each leg, one by one, is something that R allows
abbrev pub Mapped : {S T : Type 0} → (S → T → Type 0) → Legs S → Legs T → Type 0
Mapped R NoLeg made = made ≡ NoLeg
Mapped R (One a) made = (x : _) × R a x × (made ≡ One x)
Mapped R (Two a b) made = (x : _) × (y : _) × R a x × R b y × (made ≡ Two x y)

-- what is said of each leg
abbrev pub Each : {T : Type 0} → (T → Type 0) → Legs T → Type 0
Each P NoLeg = Unit {0}
Each P (One a) = P a
Each P (Two a b) = P a × P b

-- what stands for the leg at a place
abbrev pub leg_at : {T : Type 0} → LegPlace → Legs T → Option T
leg_at First NoLeg = None
leg_at First (One a) = Some a
leg_at First (Two a b) = Some a
leg_at Second NoLeg = None
leg_at Second (One a) = None
leg_at Second (Two a b) = Some b

abbrev pub no_bounds : Bounds
no_bounds = record { lower = pos 0; upper = pos 0 }
