-- Records changed one after another.
use Rattle.std.proofs.Common.{◌≡◌, ℕ, ◌+◌, ◌<◌, List, All, length, get_or, take, drop, set, sym, ap, ◌∙◌, subst, arith}
use Rattle.std.specs.List.{AllZip}
use Rattle.std.proofs.lemmas.List.{get_or-drop, drop-drop, length-drop, drop-set-lt, take_more, take_more_set}
use Rattle.std.proofs.lemmas.List.Elements.{All-get_or, AllZip-push}

-- those from place i on are untouched
module _ {T : Type 0} (before now : List T) (i : ℕ) (untouched : drop i now ≡ drop i before) (long : i < length before) where
  within : i < length now
  within = omega (arith, length-drop i now, length-drop i before, ap length untouched)

  read : (x : T) → get_or now i x ≡ get_or before i x
  read x =
      let at_start : (xs : List T) → get_or (drop i xs) 0 x ≡ get_or xs i x = λ xs. get_or-drop i xs 0 x ∙ ap (λ k. get_or xs k x) (omega arith) in
      sym (at_start now) ∙ ap (λ xs. get_or xs 0 x) untouched ∙ at_start before

  pub holds : (P : T → Type 0) (x : T) → All P before → P (get_or now i x)
  holds P x all = subst P (sym (read x)) (All-get_or P before i x long all)

  pub still_untouched : (y : T) → drop (i + 1) (set now i y) ≡ drop (i + 1) before
  still_untouched y =
      drop-set-lt (i + 1) now i y (omega arith) ∙ sym (drop-drop 1 i now) ∙ ap (drop 1) untouched ∙ drop-drop 1 i before

  pub one_more : (R : T → T → Type 0) (x y : T) → AllZip R (take i before) (take i now) → R (get_or now i x) y → AllZip R (take (i + 1) before) (take (i + 1) (set now i y))
  one_more R x y done here =
      rw (take_more before i x long, take_more_set now i y within)
      (AllZip-push R (take i before) (take i now) (get_or before i x) y done (subst (λ z. R z y) (read x) here))
