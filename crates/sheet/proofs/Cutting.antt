-- The words of a line, cut off from its front one by one.
use Rattle.std.proofs.Common.{◌≡◌, ℕ, ◌+◌, ◌<◌, Bool, true, false, cond, not, List, [], ◌∷◌, length, get_or, drop, sym, refl, ap, ◌∙◌, one-add, add-zero, arith}
use Rattle.std.proofs.lemmas.List.{length-drop, get_or-drop}
use Rattle.std.proofs.lemmas.List.Sums.{prefix_len_stops}
use Rattle.std.proofs.Math.Bool.{not-not}
use Rattle.std.specs.List.{position_or_len, before_first}
use Rattle.sheet.specs.Bytes.{blank, ink, from_first}
use Rattle.sheet.specs.Words.{words_from, words}

-- blanks in front make no word
pub skip : (bs : List ℕ) → words (from_first ink bs) ≡ words bs
unfolding words_from
skip [] = refl
skip (b ∷ bs) = go (blank b) refl (skip bs)
  where
    go : (t : Bool) → blank b ≡ t → words (from_first ink bs) ≡ words bs → words (drop (cond (not (ink b)) (1 + position_or_len ink bs) 0) (b ∷ bs)) ≡ words (b ∷ bs)
    go true e h = rw (e, one-add) h
    go false e h = rw e (rw e)

-- behind a word, what is left of it makes no further word
past : (bs : List ℕ) → words_from true bs ≡ words (from_first blank bs)
unfolding words_from
past [] = refl
past (b ∷ bs) = go (blank b) refl (past bs)
  where
    go : (t : Bool) → blank b ≡ t → words_from true bs ≡ words (from_first blank bs) → words_from true (b ∷ bs) ≡ words (drop (cond (not (blank b)) (1 + position_or_len blank bs) 0) (b ∷ bs))
    go true e h = rw e (rw e)
    go false e h = rw (e, one-add) h

-- a line that begins with ink begins with a word
begins : (bs : List ℕ) → 0 < length bs → blank (get_or bs 0 0) ≡ false → (0 < position_or_len blank bs) × (words bs ≡ before_first blank bs ∷ words (from_first blank bs))
unfolding words_from
begins [] h e = absurd (omega arith)
begins (b ∷ bs) h e = (rw e (omega arith), rw (e, one-add) (ap (λ (ws : List (List ℕ)). (b ∷ before_first blank bs) ∷ ws) (past bs)))

-- what stands behind the blanks in front begins with ink
inked : (bs : List ℕ) → 0 < length (from_first ink bs) → blank (get_or (from_first ink bs) 0 0) ≡ false
inked bs h =
    rw (get_or-drop, add-zero)
    (sym (not-not _) ∙ prefix_len_stops (λ b. not (ink b)) bs 0 (omega (arith, length-drop (position_or_len ink bs) bs)))

-- what stands behind the blanks begins with a word, if there is anything
pub first : (bs : List ℕ) → 0 < length (from_first ink bs)
    → (0 < position_or_len blank (from_first ink bs)) × (words bs ≡ before_first blank (from_first ink bs) ∷ words (from_first blank (from_first ink bs)))
first bs h =
    let b = begins (from_first ink bs) h (inked bs h) in
    (b.0, sym (skip bs) ∙ b.1)

-- blanks alone make no word
pub none : (bs : List ℕ) → from_first ink bs ≡ [] → words bs ≡ []
unfolding words_from
none bs h = sym (skip bs) ∙ ap words h
