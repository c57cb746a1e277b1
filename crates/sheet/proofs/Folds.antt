-- What `try_fold` into an `Option` gives over a slice, where its steps are those of a definition by recursion.
use Rattle.std.proofs.Common.{◌≡◌, List, [], ◌∷◌, Bor, Iter, Option, Some, None, sym, ap, ◌∙◌, subst}
use Rattle.std.proofs.lemmas.Fn.{slice_gives, fronts}
use Rattle.std.specs.Fn.{Mut, Called}
use Rattle.std.specs.Iterator.{AlwaysYields, Yields}
use Rattle.std.specs.List.{FoldsTo}
use Rattle.std.specs.Option.{MatchOption}

module _ {B C F : Type 0} (E : Type 0) (g : Mut F (B × (Bor C × Unit {0})) (Option B)) (f : F) (step : B → C → Option B) (answer : B → List C → Option B) (Kept : B → Type 0)
    (calls : (b : B) (x : Bor C) (o : Option B) (q : F) → Called g f (b, (x, tt)) o q → (q ≡ f) × (o ≡ step b x.now))
    (ends : (b : B) → Kept b → answer b [] ≡ Some b)
    (breaks : (b : B) (y : C) (ys : List C) → step b y ≡ None → answer b (y ∷ ys) ≡ None)
    (goes : (b c : B) (y : C) (ys : List C) → step b y ≡ Some c → (answer b (y ∷ ys) ≡ answer c ys) × Kept c) where
  abbrev Turn : F × B → Bor C → F × B → Type 0
  Turn p x q = (o : Option B) × Called g p.0 (p.1, (x, tt)) o q.0 × (o ≡ Some q.1)

  -- how the calls stopped, the last at a closure and a total
  abbrev Stopped : Option (Bor C) → Option B → F × B → Type 0
  Stopped o r p = MatchOption o (r ≡ Some p.1) (λ x. (i : Option B) × (h : F) × (e : E) × Called g p.0 (p.1, (x, tt)) i h × (i ≡ None) × (r ≡ None))

  last : (o : Option (Bor C)) (b : B) (s u : Iter C) (ys : List C) (r : Option B) → Kept b → AlwaysYields fronts (λ y. y.now) s ys → fronts s o u → Stopped o r (f, b) → r ≡ answer b ys
  last None b s u [] r k a t m = m ∙ sym (ends b k)
  last None b s u (y ∷ ys) r k a t m = absurd (a.0 u t)
  last (Some x) b s u [] r k a t m = absurd (a x u t)
  last (Some x) b s u (y ∷ ys) r k a t m =
      let stop : step b y ≡ None = ap (step b) (sym (a.1 x u t).0) ∙ (sym (calls b x m.0 m.1 m.3).1 ∙ m.4) in
      m.5 ∙ sym (breaks b y ys stop)

  folded : (xs : List (Bor C)) (o : Option (Bor C)) (b : B) (p : F × B) (s t u : Iter C) (ys : List C) (r : Option B) → Kept b → AlwaysYields fronts (λ y. y.now) s ys → Yields fronts s xs t → fronts t o u
      → FoldsTo Turn (f, b) xs p → Stopped o r p → r ≡ answer b ys
  folded [] o b p s t u ys r k a y l h m = last o b s u ys r k a (subst (λ z. fronts z o u) (sym y) l) (subst (Stopped o r) (sym h) m)
  folded (x ∷ xs) o b p s t u [] r k a y l h m = absurd (a x y.0 y.1)
  folded (x ∷ xs) o b p s t u (z ∷ zs) r k a y l h m =
      let w = a.1 x y.0 y.1 in
      let call = calls b x h.1.0 h.0.0 h.1.1 in
      let turn : step b z ≡ Some h.0.1 = ap (step b) (sym w.0) ∙ (sym call.1 ∙ h.1.2) in
      let n = goes b h.0.1 z zs turn in
      folded xs o h.0.1 p y.0 t u zs r n.1 w.1 y.2 l (subst (λ (q : F). FoldsTo Turn (q, h.0.1) xs p) call.0 h.2) m ∙ sym n.0

  -- the clause `ran` of `try_fold`
  pub answer_from_try_fold : (s u : Iter C) (b : B) (r : Option B)
      → (xs : List (Bor C)) × (o : Option (Bor C)) × (f' : F) × (a : B) × ((t : Iter C) × Yields fronts s xs t × fronts t o u) × FoldsTo Turn (f, b) xs (f', a) × Stopped o r (f', a)
      → Kept b → r ≡ answer b s.rest.now
  answer_from_try_fold s u b r d k = folded d.0 d.1 b (d.2, d.3) s d.4.0 u s.rest.now r k (slice_gives s) d.4.1 d.4.2 d.5 d.6
