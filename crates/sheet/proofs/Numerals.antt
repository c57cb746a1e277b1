-- Numbers read digit by digit.
use Rattle.std.proofs.Common.{◌≡◌, ℕ, ◌+◌, ◌-◌, ◌*◌, ◌<◌, ◌≤◌, Bool, true, false, cond, leb, List, [], ◌∷◌, length, Some, None, Option, refl, ap, arith, le-leb, leb-false, leb-true}
use Rattle.std.proofs.lemmas.Bool.{lt-leb}
use Rattle.std.specs.Option.{IfSome}
use Rattle.sheet.specs.Numbers.{digit, number_from, number, up_to, number_up_to}

-- further digits do not bring a number down again
pub too_large : (most n : ℕ) (bs : List ℕ) → most < n → up_to most (number_from n bs) ≡ None
unfolding number_from
too_large most n [] h = rw (lt-leb n most h)
too_large most n (b ∷ bs) h = go (digit b) (too_large most (n * 10 + (b - 48)) bs (omega arith))
  where
    go : (t : Bool) → up_to most (number_from (n * 10 + (b - 48)) bs) ≡ None → up_to most (cond t (number_from (n * 10 + (b - 48)) bs) None) ≡ None
    go true h = h
    go false h = refl

-- n with one digit more behind it
abbrev pub next : ℕ → ℕ → ℕ
next n b = n * 10 + (b - 48)

-- the digit cannot be added
pub out : (most n b : ℕ) (bs : List ℕ) → cond (digit b) (up_to most (Some (next n b))) None ≡ None → up_to most (number_from n (b ∷ bs)) ≡ None
unfolding number_from
out most n b bs = go (digit b) (leb (next n b) most) refl
  where
    go : (t u : Bool) → leb (next n b) most ≡ u → cond t (cond (leb (next n b) most) (Some (next n b)) None) None ≡ None → up_to most (cond t (number_from (next n b) bs) None) ≡ None
    go false u e h = refl
    go true true e h = let k : ◌≡◌ (Some (next n b)) None = rw e at h in absurd cc
    go true false e h = too_large most (next n b) bs (leb-false (next n b) most e)

-- the digit is added
pub on : (most n m b : ℕ) (bs : List ℕ) → cond (digit b) (up_to most (Some (next n b))) None ≡ Some m
    → (up_to most (number_from n (b ∷ bs)) ≡ up_to most (number_from m bs)) × (m ≤ most)
unfolding number_from
on most n m b bs = go (digit b) (leb (next n b) most) refl
  where
    go : (t u : Bool) → leb (next n b) most ≡ u → cond t (cond (leb (next n b) most) (Some (next n b)) None) None ≡ Some m
        → (up_to most (cond t (number_from (next n b) bs) None) ≡ up_to most (number_from m bs)) × (m ≤ most)
    go false u e h = absurd cc
    go true true e h =
        let k : ◌≡◌ (Some (next n b)) (Some m) = rw e at h in
        let same : next n b ≡ m = cc in
        (ap (λ (x : ℕ). up_to most (number_from x bs)) same, omega (arith, leb-true (next n b) most e, same))
    go true false e h = let k : ◌≡◌ None (Some m) = rw e at h in absurd cc

pub ended : (most n : ℕ) → n ≤ most → up_to most (number_from n []) ≡ Some n
unfolding number_from
ended most n k = rw (le-leb n most k)

pub within : (most : ℕ) (o : Option ℕ) → IfSome (up_to most o) (λ n. n ≤ most)
within most None = tt
within most (Some n) = go (leb n most) refl
  where
    go : (t : Bool) → leb n most ≡ t → IfSome (cond t (Some n) None) (λ m. m ≤ most)
    go true e = leb-true n most e
    go false e = tt

-- a text with a byte in it is read from nought on, and one without writes no number
pub begun : (most : ℕ) (bs : List ℕ) → (length bs ≡ 0 → ⊥) → up_to most (number_from 0 bs) ≡ number_up_to most bs
unfolding number
begun most [] h = absurd (h refl)
begun most (b ∷ bs) h = refl

pub empty : (most : ℕ) (bs : List ℕ) → length bs ≡ 0 → number_up_to most bs ≡ None
unfolding number
empty most [] h = refl
empty most (b ∷ bs) h = absurd (omega arith)
