-- Records by number, and the places of a register before and after a call.
use Rattle.std.proofs.Common.{◌≡◌, ℕ, zero, suc, ◌+◌, ◌<◌, ◌≤◌, List, [], ◌∷◌, ◌++◌, length, get_or, take, drop, set, Some, None, sym, refl, ap, ◌∙◌, ⊎_elim, arith, length-set, length-take}
use Rattle.std.proofs.Math.Seq.{take-set-lt}
use Rattle.std.specs.List.{slice_get}
use Rattle.std.proofs.lemmas.List.{get_or-take, take_more_set, drop-set-lt, drop-drop, length-drop, set_past}
use Rattle.std.proofs.lemmas.Option.{slice_get-get_or, slice_get_past}
use Rattle.std.proofs.lemmas.Bool.{cases_lt}
use Rattle.records.specs.Registers.{numbered, replaced}

-- no record has the number
abbrev pub Unknown : {T : Type 0} → List T → ℕ → Type 0
Unknown xs n = (at : ℕ) → at + 1 ≡ n → at < length xs → ⊥

unknown_past : {T : Type 0} (xs : List T) (n : ℕ) → Unknown xs (suc n) → length xs ≤ n
unknown_past xs n none = ⊎_elim (λ l. absurd (none n (omega arith) l)) (λ h. h) (cases_lt n (length xs))

pub numbered_unknown : {T : Type 0} (xs : List T) (n : ℕ) → Unknown xs n → None ≡ numbered xs n
numbered_unknown xs zero none = refl
numbered_unknown xs (suc n) none = sym (slice_get_past xs n (unknown_past xs n none))

pub replaced_unknown : {T : Type 0} (xs : List T) (n : ℕ) (x : T) → Unknown xs n → xs ≡ replaced xs n x
replaced_unknown xs zero x none = refl
replaced_unknown xs (suc n) x none = sym (set_past xs n x (unknown_past xs n none))

-- the record of number `at + 1`
pub numbered_known : {T : Type 0} (xs : List T) (at n : ℕ) (x : T) → at + 1 ≡ n → at < length xs → x ≡ get_or xs at x → Some x ≡ numbered xs n
numbered_known xs at zero x e h is = absurd (omega arith)
numbered_known xs at (suc n) x e h is = let same : at ≡ n = omega arith in ap Some (rw same at is) ∙ sym (slice_get-get_or xs n x (omega arith))

pub replaced_known : {T : Type 0} (xs : List T) (at n : ℕ) (x : T) → at + 1 ≡ n → set xs at x ≡ replaced xs n x
replaced_known xs at zero x e = absurd (omega arith)
replaced_known xs at (suc n) x e = let same : at ≡ n = omega arith in rw same refl

nth_set_same : {T : Type 0} (xs : List T) (i : ℕ) (x : T) → i < length xs → slice_get (set xs i x) i ≡ Some x
nth_set_same [] i x h = absurd (omega arith)
nth_set_same (y ∷ ys) zero x h = refl
nth_set_same (y ∷ ys) (suc i) x h = nth_set_same ys i x (omega arith)

nth_set_other : {T : Type 0} (xs : List T) (i k : ℕ) (x : T) → (k ≡ i → ⊥) → slice_get (set xs i x) k ≡ slice_get xs k
nth_set_other [] i k x ne = refl
nth_set_other (y ∷ ys) zero zero x ne = absurd (ne refl)
nth_set_other (y ∷ ys) zero (suc k) x ne = refl
nth_set_other (y ∷ ys) (suc i) zero x ne = refl
nth_set_other (y ∷ ys) (suc i) (suc k) x ne = nth_set_other ys i k x (λ e. ne (ap suc e))

-- reading back after a replacement
pub numbered_replaced_same : {T : Type 0} (xs : List T) (n : ℕ) (x : T) → 0 < n → n ≤ length xs → numbered (replaced xs n x) n ≡ Some x
numbered_replaced_same xs zero x l h = absurd (omega arith)
numbered_replaced_same xs (suc n) x l h = nth_set_same xs n x h

pub numbered_replaced_other : {T : Type 0} (xs : List T) (n k : ℕ) (x : T) → (k ≡ n → ⊥) → numbered (replaced xs n x) k ≡ numbered xs k
numbered_replaced_other xs zero k x ne = refl
numbered_replaced_other xs (suc n) zero x ne = refl
numbered_replaced_other xs (suc n) (suc k) x ne = nth_set_other xs n k x (λ e. ne (ap suc e))

pub length_replaced : {T : Type 0} (xs : List T) (n : ℕ) (x : T) → length (replaced xs n x) ≡ length xs
length_replaced xs zero x = refl
length_replaced xs (suc n) x = length-set xs n x

-- the first `count` places hold the records
module _ {T : Type 0} (places : List T) (count : ℕ) (fits : count ≤ length places) where
  pub listed_length : length (take count places) ≡ count
  listed_length = simp length-take (omega arith)

  pub unlisted : (n : ℕ) → ((at : ℕ) → at + 1 ≡ n → at < count → ⊥) → Unknown (take count places) n
  unlisted n none at e h = none at e (omega (arith, listed_length))

  -- a record that is read, and another one in its place
  module _ (at n : ℕ) (is : at + 1 ≡ n) (within : at < count) where
    pub listed_known : (x : T) → x ≡ get_or places at x → Some x ≡ numbered (take count places) n
    listed_known x e =
        numbered_known (take count places) at n x is (omega (arith, listed_length)) (e ∙ sym (get_or-take count places at x within))

    module _ (x : T) (after : List T) (e : after ≡ set places at x) where
      pub replaced_listed : take count after ≡ replaced (take count places) n x
      replaced_listed = rw e (take-set-lt count places at x within ∙ replaced_known (take count places) at n x is)

  -- one more record, where a place is unused
  module _ (at number : ℕ) (is : at ≡ count) (room : at < length places) (next : number ≡ at + 1) (x : T) (after : List T) (e : after ≡ set places at x) where
    pub entered_number : number ≡ length (take count places) + 1
    entered_number = omega (arith, listed_length)

    pub entered_listed : take number after ≡ take count places ++ x ∷ []
    entered_listed = rw (next, e, ← is) (take_more_set places at x room)

    pub entered_unused : drop number after ≡ drop 1 (drop count places)
    entered_unused = rw (next, e, ← is) (drop-set-lt (at + 1) places at x (omega arith) ∙ sym (drop-drop 1 at places))

  pub none_unused : drop count places ≡ [] → count < length places → ⊥
  none_unused e room = omega (arith, length-drop count places, ap length e)
