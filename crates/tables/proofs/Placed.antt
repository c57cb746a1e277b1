-- The record of a number, and another one in its place.
use Rattle.std.proofs.Common.{◌≡◌, ℕ, zero, suc, ◌-◌, ◌<◌, ◌≤◌, List, [], ◌∷◌, length, take, set, Some, None, sym, refl, arith}
use Rattle.std.proofs.lemmas.List.{length-take-le, set_past}
use Rattle.std.proofs.lemmas.Option.{slice_get_within}
use Rattle.std.specs.List.{slice_get}
use Rattle.records.specs.Registers.{numbered, replaced}
use Rattle.records.proofs.Numbered.{replaced_listed}

known : {T : Type 0} (xs : List T) (n : ℕ) (x : T) → Some x ≡ numbered xs n → (0 < n) × (n ≤ length xs)
known xs zero x e = cc
known xs (suc n) x e = let h = slice_get_within xs n x (sym e) in (omega arith, omega arith)

module _ {T : Type 0} (places : List T) (count n : ℕ) (few : count ≤ length places) (old : T) (is : Some old ≡ numbered (take count places) n) where
  pub place : (0 < n) × (n ≤ count)
  place = let h = known (take count places) n old is in (h.0, omega (arith, h.1, length-take-le count places few))

  pub put : (new : T) → take count (set places (n - 1) new) ≡ replaced (take count places) n new
  put new = replaced_listed places count few (n - 1) n (omega (arith, place.0)) (omega (arith, place.0, place.1)) new (set places (n - 1) new) refl

absent : {T : Type 0} (xs : List T) (n : ℕ) → None ≡ slice_get xs n → length xs ≤ n
absent {T} [] n e = omega arith
absent (x ∷ xs) zero e = cc
absent (x ∷ xs) (suc n) e = omega (arith, absent xs n e)

pub unknown : {T : Type 0} (xs : List T) (n : ℕ) (new : T) → None ≡ numbered xs n → xs ≡ replaced xs n new
unknown xs zero new e = refl
unknown xs (suc n) new e = sym (set_past xs n new (absent xs n e))
