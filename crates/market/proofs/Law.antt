-- The law of the grounds, for any list of checks: the first that strikes is answered.
use Rattle.std.proofs.Common.{◌≡◌, ℕ, true, false, List, [], ◌∷◌, is_ok, Some, None, Err, Option, Result, sym, refl, ap, ◌∙◌, subst, inl, inr, ⊎_elim, arith}
use Rattle.std.proofs.lemmas.Bool.{both_ways}
use Rattle.std.proofs.lemmas.Option.{none-some}
use Rattle.market.specs.Calls.{decided}
use Rattle.market.specs.Grounds.{Stands, Before, First, ByTheGrounds, first_struck}
use Rattle.market.specs.Refusals.{ground}
use Rattle.market.specs.States.{State}
use Rattle.market.specs.declared.refusal.Refusal.{Refusal}

-- a check tells the ground of its number that strikes, or nothing where none of its number does
pub record Checks (Strikes : Refusal → Type 0) (n : ℕ) (check : Option Refusal) : Type 0 where
  pub struck : (g : Refusal) → check ≡ Some g → (ground g ≡ n) × Strikes g
  pub passed : check ≡ None → (g : Refusal) → ground g ≡ n → Strikes g → ⊥
  pub single : (f g : Refusal) → ground f ≡ n → ground g ≡ n → Strikes f → Strikes g → f ≡ g

-- one check for each number, in their order
abbrev pub Each : (Refusal → Type 0) → List ℕ → List (Option Refusal) → Type 0
Each Strikes [] [] = Unit {0}
Each Strikes [] (check ∷ checks) = ⊥
Each Strikes (n ∷ ns) [] = ⊥
Each Strikes (n ∷ ns) (check ∷ checks) = Checks Strikes n check × Each Strikes ns checks

-- no number stands twice
abbrev pub Apart : List ℕ → Type 0
Apart [] = Unit {0}
Apart (n ∷ ns) = (Stands n ns → ⊥) × Apart ns

before_stands : (ns : List ℕ) (m n : ℕ) → Before ns m n → Stands n ns
before_stands [] m n b = b
before_stands (x ∷ xs) m n (inl b) = inr b.1
before_stands (x ∷ xs) m n (inr b) = inr (before_stands xs m n b)

module _ (Strikes : Refusal → Type 0) where
  -- the first that a check tells strikes first
  told : (ns : List ℕ) (checks : List (Option Refusal)) → Each Strikes ns checks → Apart ns → (g : Refusal) → first_struck checks ≡ Some g → Stands (ground g) ns × First ns Strikes g
  told [] [] each apart g e = absurd (none-some g e)
  told [] (check ∷ checks) each apart g e = absurd each
  told (n ∷ ns) [] each apart g e = absurd each
  told (n ∷ ns) (None ∷ checks) each apart g e =
      let rest = told ns checks each.1 apart.1 g e in
      (inr rest.0, (rest.1.0, λ f b s. ⊎_elim (λ p. each.0.passed refl f p.0 s) (λ b'. rest.1.1 f b' s) b))
  told (n ∷ ns) (Some h ∷ checks) each apart g e =
      let here = each.0.struck g e in
      (inl here.0, (here.1, λ f b s. apart.0 (subst (λ k. Stands k ns) here.0 (⊎_elim (λ p. p.1) (before_stands ns (ground f) (ground g)) b))))

  -- what strikes first is told
  tells : (ns : List ℕ) (checks : List (Option Refusal)) → Each Strikes ns checks → (g : Refusal) → Stands (ground g) ns → First ns Strikes g → first_struck checks ≡ Some g
  tells [] checks each g at first = absurd at
  tells (n ∷ ns) [] each g at first = absurd each
  tells (n ∷ ns) (None ∷ checks) each g (inl e) first = absurd (each.0.passed refl g e first.0)
  tells (n ∷ ns) (None ∷ checks) each g (inr at) first = tells ns checks each.1 g at (first.0, λ f b s. first.1 f (inr b) s)
  tells (n ∷ ns) (Some h ∷ checks) each g (inl e) first =
      let here = each.0.struck h refl in ap Some (each.0.single h g here.0 e here.1 first.0)
  tells (n ∷ ns) (Some h ∷ checks) each g (inr at) first =
      let here = each.0.struck h refl in absurd (first.1 h (inl (here.0, at)) here.1)

  -- where nothing is told, nothing strikes, and the other way round
  clear : (ns : List ℕ) (checks : List (Option Refusal)) → Each Strikes ns checks → first_struck checks ≡ None → (g : Refusal) → Stands (ground g) ns → Strikes g → ⊥
  clear [] checks each e g at s = at
  clear (n ∷ ns) [] each e g at s = each
  clear (n ∷ ns) (None ∷ checks) each e g (inl is) s = each.0.passed refl g is s
  clear (n ∷ ns) (None ∷ checks) each e g (inr at) s = clear ns checks each.1 e g at s
  clear (n ∷ ns) (Some h ∷ checks) each e g at s = none-some h (sym e)

  free : (ns : List ℕ) (checks : List (Option Refusal)) → Each Strikes ns checks → ((g : Refusal) → Strikes g → ⊥) → first_struck checks ≡ None
  free [] [] each none = refl
  free [] (check ∷ checks) each none = absurd each
  free (n ∷ ns) [] each none = absurd each
  free (n ∷ ns) (None ∷ checks) each none = free ns checks each.1 none
  free (n ∷ ns) (Some h ∷ checks) each none = absurd (none h (each.0.struck h refl).1)

-- what an answer tells of the first that strikes
module _ {A : Type 0} (answer : A) (after before : State) where
  err_some : (k : Option Refusal) (g : Refusal) → (decided k answer after before).answer ≡ Err g → k ≡ Some g
  err_some None g e = let z : ◌≡◌ {A = ℕ} 0 1 = cc in absurd (omega arith)
  err_some (Some h) g e = cc

  ok_none : (k : Option Refusal) → is_ok (decided k answer after before).answer ≡ true → k ≡ None
  ok_none None e = refl
  ok_none (Some h) e = absurd (both_ways false refl e)

  pub by_the_grounds : (Strikes : Refusal → Type 0) (ns : List ℕ) (checks : List (Option Refusal)) → Each Strikes ns checks → Apart ns → ((g : Refusal) → Strikes g → Stands (ground g) ns)
      → (r : Result A Refusal) → r ≡ (decided (first_struck checks) answer after before).answer → ByTheGrounds ns Strikes r
  by_the_grounds Strikes ns checks each apart inside r e =
      let k = first_struck checks in
      record {
        strikes_first = λ g is. (told Strikes ns checks each apart g (err_some k g (sym e ∙ is))).1;
        is_answered = λ g first. e ∙ ap (λ o. (decided o answer after before).answer) (tells Strikes ns checks each g (inside g first.0) first);
        none_strikes = λ ok g s. clear Strikes ns checks each (ok_none k (subst (λ x. is_ok x ≡ true) e ok)) g (inside g s) s;
        is_taken = λ none. ap is_ok (e ∙ ap (λ o. (decided o answer after before).answer) (free Strikes ns checks each none));
      }
