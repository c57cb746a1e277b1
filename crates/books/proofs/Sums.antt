-- Products and sums of signed numbers.
use Rattle.std.proofs.Common.{◌≡◌, ℕ, zero, suc, ◌*◌, ◌<◌, Bool, true, false, eqb, List, [], ◌∷◌, ◌++◌, length, get_or, set, ℤ, pos, ◌+ℤ◌, ◌-ℤ◌, ◌*ℤ◌, neg_ℤ, sym, refl, ap, ◌∙◌, ap₂, add-mul, arith}
use Rattle.std.proofs.Math.IntN.{*ℤ_comm, +ℤ_idr, +ℤ_idl, +ℤ_invr, zero-*ℤ}
use borrow.Author.Differences.{up, down, sum_is_lem}
use Rattle.std.proofs.lemmas.Int.{ints}
use Rattle.std.proofs.lemmas.Bool.{eq-eqb, ne_eqb}
use Rattle.books.specs.Entries.{sum_ℤ, when}

pub distrib : (a b c : ℤ) → (a +ℤ b) *ℤ c ≡ a *ℤ c +ℤ b *ℤ c
distrib a b c =
    let s = sum_is_lem a b in
    let u = simp add-mul at (ap (λ n. n * up c) s) in
    let d = simp add-mul at (ap (λ n. n * down c) s) in
    omega (arith, ints)

pub distrib_left : (c a b : ℤ) → c *ℤ (a +ℤ b) ≡ c *ℤ a +ℤ c *ℤ b
distrib_left c a b = *ℤ_comm c (a +ℤ b) ∙ distrib a b c ∙ ap₂ ◌+ℤ◌ (*ℤ_comm a c) (*ℤ_comm b c)

neg_mul : (q u : ℤ) → neg_ℤ q *ℤ u ≡ neg_ℤ (q *ℤ u)
neg_mul q u =
    let e : q *ℤ u +ℤ neg_ℤ q *ℤ u ≡ pos 0 = sym (distrib q (neg_ℤ q) u) ∙ ap (λ x. x *ℤ u) (+ℤ_invr q) ∙ zero-*ℤ u in
    omega (arith, ints)

pub sum_ℤ_push : {X : Type 0} (f : X → ℤ) (xs : List X) (y : X) → sum_ℤ f (xs ++ y ∷ []) ≡ sum_ℤ f xs +ℤ f y
sum_ℤ_push f [] y = omega (arith, ints)
sum_ℤ_push f (x ∷ xs) y = let ih = sum_ℤ_push f xs y in omega (arith, ints)

-- one element changed
pub sum_ℤ_set : {X : Type 0} (f : X → ℤ) (xs : List X) (i : ℕ) (y d : X) → i < length xs → sum_ℤ f (set xs i y) +ℤ f (get_or xs i d) ≡ sum_ℤ f xs +ℤ f y
sum_ℤ_set f [] i y d h = absurd (omega arith)
sum_ℤ_set f (x ∷ xs) zero y d h = omega (arith, ints)
sum_ℤ_set f (x ∷ xs) (suc i) y d h = let ih = sum_ℤ_set f xs i y d (omega arith) in omega (arith, ints)

pub when_same : (k : ℕ) (z : ℤ) → when (eqb k k) z ≡ z
when_same k z = ap (λ b. when b z) (eq-eqb k k refl)

pub when_other : (i k : ℕ) (z : ℤ) → (k ≡ i → ⊥) → when (eqb i k) z ≡ pos 0
when_other i k z n = ap (λ b. when b z) (ne_eqb i k (λ e. n (sym e)))

when_nought : (b : Bool) → when b (pos 0) ≡ pos 0
when_nought true = refl
when_nought false = refl

-- the lots that two accounts pass, in the contract of the trade and in others
pub when_lots : (b s e : Bool) (q : ℕ) → when b (when e (pos q)) +ℤ when s (when e (neg_ℤ (pos q))) ≡ when e (when b (pos q) -ℤ when s (pos q))
when_lots b s false q = ap₂ ◌+ℤ◌ (when_nought b) (when_nought s)
when_lots true true true q = omega (arith, ints)
when_lots true false true q = omega (arith, ints)
when_lots false true true q = omega (arith, ints)
when_lots false false true q = refl

-- and the money
pub when_money : (b s : Bool) (q u : ℤ) → when b (q *ℤ u) +ℤ when s (neg_ℤ (q *ℤ u)) ≡ (when b q -ℤ when s q) *ℤ u
when_money true true q u = sym (distrib q (neg_ℤ q) u ∙ ap (λ x. q *ℤ u +ℤ x) (neg_mul q u))
when_money true false q u = +ℤ_idr (q *ℤ u) ∙ ap (λ x. x *ℤ u) (sym (+ℤ_idr q))
when_money false true q u = +ℤ_idl (neg_ℤ (q *ℤ u)) ∙ sym (neg_mul q u) ∙ ap (λ x. x *ℤ u) (sym (+ℤ_idl (neg_ℤ q)))
when_money false false q u = sym (zero-*ℤ u)

pub when_same_difference : (e : Bool) (q : ℤ) → when e (q -ℤ q) ≡ pos 0
when_same_difference true q = omega (arith, ints)
when_same_difference false q = refl
