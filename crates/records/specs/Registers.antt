-- A register over lent memory: the records listed, and the places not used yet.
use Rattle.std.specs.Prelude.{◌≡◌, ℕ, zero, suc, ◌+◌, List, [], ◌∷◌, ◌++◌, length, take, drop, Some, None, Option, slice_set}
use Rattle.std.specs.List.{slice_get}
use Rattle.records.specs.declared.register.Register.{Register}

-- the records, in the order of their numbers
abbrev pub listed : {T : Type 0} → Register T → List T
listed r = take r.count r.places.now

-- what the places behind the records hold
abbrev pub unused : {T : Type 0} → Register T → List T
unused r = drop r.count r.places.now

-- two registers are over the same lent memory, so that what the second one holds is what its host finds there
abbrev pub SameMemory : {T : Type 0} → Register T → Register T → Type 0
SameMemory before after = after.places.ghost_name ≡ before.places.ghost_name

-- the record of a number, counted from 1
abbrev pub numbered : {T : Type 0} → List T → ℕ → Option T
numbered xs zero = None
numbered xs (suc n) = slice_get xs n

-- the records with another one at a number, counted from 1; an unknown number leaves them as they are
abbrev pub replaced : {T : Type 0} → List T → ℕ → T → List T
replaced xs zero x = xs
replaced xs (suc n) x = slice_set xs n x

-- a record entered: it has the next number, and takes the first unused place
pub record Entered {T : Type 0} (x : T) (before after : Register T) (answer : Option ℕ) : Type 0 where
  pub number : answer ≡ Some (length (listed before) + 1)
  pub more : listed after ≡ listed before ++ x ∷ []
  pub rest : unused after ≡ drop 1 (unused before)
