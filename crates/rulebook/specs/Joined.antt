-- Two rules as one: the first that owns the code replies.
use Rattle.std.specs.Prelude.{ℕ, Bool, true, false, ◌||◌, pos, Some, None, Option}
use Rattle.rulebook.specs.Legs.{no_bounds}
use Rattle.rulebook.specs.Rules.{RuleMeaning}
use Rattle.rulebook.specs.declared.joined.Owner.{Owner}
use Rattle.rulebook.specs.declared.joined.Owner.TheVariants.{First, Second}
use Rattle.rulebook.specs.declared.legs.Legs.TheVariants.{NoLeg}

-- the first that owns the code, if one does
abbrev pub owner_of : Bool → Bool → Option Owner
owner_of true second = Some First
owner_of false true = Some Second
owner_of false false = None

-- the owner's reply, or the last one where neither owns the code
abbrev pub reply : {T : Type 0} → Option Owner → T → T → T → T
reply (Some First) first second neither = first
reply (Some Second) first second neither = second
reply None first second neither = neither

abbrev pub owner : RuleMeaning → RuleMeaning → ℕ → Option Owner
owner a b kind = owner_of (a.owns kind) (b.owns kind)

abbrev pub joined : RuleMeaning → RuleMeaning → RuleMeaning
joined a b =
    record {
      owns = λ kind. a.owns kind || b.owns kind;
      admits = λ i contracts. reply (owner a b i.terms.kind) (a.admits i contracts) (b.admits i contracts) false;
      legs = λ i. reply (owner a b i.terms.kind) (a.legs i) (b.legs i) NoLeg;
      leg_price = λ i leg price settlements. reply (owner a b i.terms.kind) (a.leg_price i leg price settlements) (b.leg_price i leg price settlements) (pos 0);
      bounds = λ i limits. reply (owner a b i.terms.kind) (a.bounds i limits) (b.bounds i limits) no_bounds;
      dated = λ i. reply (owner a b i.terms.kind) (a.dated i) (b.dated i) false;
    }
