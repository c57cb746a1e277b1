-- The tests decide what they are meant for.
use Rattle.std.proofs.Common.{◌≡◌, ℕ, false, eqb, ◌⊎◌, List, ℤ, ◌≤ℤ◌, Some, None, Decides, Option, sym, refl, ap, inl, inr, ⊎_elim, arith}
use Rattle.std.proofs.lemmas.Bool.{both_ways, eqb-true, eq-eqb}
use Rattle.std.proofs.lemmas.Bool.Decides.{Decides-and, Decides-like, Decides-eqb}
use Rattle.std.proofs.lemmas.Option.{none-some}
use Rattle.records.proofs.Deciding.{decides_le_ℤ}
use Rattle.records.specs.Codes.{direction_of}
use Rattle.records.specs.declared.account.Account.{Account}
use Rattle.records.specs.declared.codes.Direction.{Direction}
use Rattle.records.specs.declared.codes.Direction.TheVariants.{Buy, Sell}
use Rattle.records.specs.declared.rows.OrderRow.{OrderRow}
use Rattle.orderbook.specs.Opposites.{participant_of, Opposite}
use Rattle.orderbook.specs.Tests.{sides_meet, both_are, alike, negotiated, terms_meet, opposite_test}

buy_not_sell : ◌≡◌ {A = Option Direction} (Some Buy) (Some Sell) → ⊥
buy_not_sell e = let z : ◌≡◌ {A = ℕ} 0 1 = cc in omega arith

-- sides, by the directions and prices of both orders
abbrev Sides : Option Direction → ℤ → Option Direction → ℤ → Type 0
Sides d p e q = ((d ≡ Some Buy) × ((e ≡ Some Sell) × (q ≤ℤ p))) ⊎ ((d ≡ Some Sell) × ((e ≡ Some Buy) × (p ≤ℤ q)))

decides_sides : (d : Option Direction) (p : ℤ) (e : Option Direction) (q : ℤ) → Decides (sides_meet d p e q) (Sides d p e q)
decides_sides None p e q = (λ t. absurd (both_ways false refl t), λ s. ⊎_elim (λ x. absurd (none-some _ x.0)) (λ x. absurd (none-some _ x.0)) s)
decides_sides (Some Buy) p None q = (λ t. absurd (both_ways false refl t), λ s. ⊎_elim (λ x. absurd (none-some _ x.1.0)) (λ x. absurd (buy_not_sell x.0)) s)
decides_sides (Some Buy) p (Some Buy) q = (λ t. absurd (both_ways false refl t), λ s. ⊎_elim (λ x. absurd (buy_not_sell x.1.0)) (λ x. absurd (buy_not_sell x.0)) s)
decides_sides (Some Buy) p (Some Sell) q = (λ t. inl (refl, (refl, (decides_le_ℤ q p).0 t)), λ s. ⊎_elim (λ x. (decides_le_ℤ q p).1 x.1.1) (λ x. absurd (buy_not_sell x.0)) s)
decides_sides (Some Sell) p None q = (λ t. absurd (both_ways false refl t), λ s. ⊎_elim (λ x. absurd (buy_not_sell (sym x.0))) (λ x. absurd (none-some _ x.1.0)) s)
decides_sides (Some Sell) p (Some Buy) q = (λ t. inr (refl, (refl, (decides_le_ℤ p q).0 t)), λ s. ⊎_elim (λ x. absurd (buy_not_sell (sym x.0))) (λ x. (decides_le_ℤ p q).1 x.1.1) s)
decides_sides (Some Sell) p (Some Sell) q = (λ t. absurd (both_ways false refl t), λ s. ⊎_elim (λ x. absurd (buy_not_sell (sym x.0))) (λ x. absurd (buy_not_sell (sym x.1.0))) s)

-- an addressee who is a participant
abbrev Named : Option ℕ → Option ℕ → Type 0
Named x p = (n : ℕ) × ((x ≡ Some n) × (p ≡ Some n))

decides_named : (x p : Option ℕ) → Decides (both_are x p) (Named x p)
decides_named None p = (λ t. absurd (both_ways false refl t), λ s. absurd (none-some _ s.1.0))
decides_named (Some m) None = (λ t. absurd (both_ways false refl t), λ s. absurd (none-some _ s.1.1))
decides_named (Some m) (Some n) =
    (λ t. (m, (refl, ap Some (sym (eqb-true m n t)))), λ s. let a = s.1.0 in let b = s.1.1 in eq-eqb m n (cc))

decides_alike : (x y : Option ℕ) → Decides (alike x y) (x ≡ y)
decides_alike None None = (λ _. refl, λ _. refl)
decides_alike None (Some n) = (λ t. absurd (both_ways false refl t), λ s. absurd (none-some _ s))
decides_alike (Some m) None = (λ t. absurd (both_ways false refl t), λ s. absurd (none-some _ (sym s)))
decides_alike (Some m) (Some n) = (λ t. ap Some (eqb-true m n t), λ s. eq-eqb m n (cc))

-- terms, by both addressees, participants and references
abbrev Terms : Option ℕ → Option ℕ → Option ℕ → Option ℕ → Option ℕ → Option ℕ → Type 0
Terms x y p q r s = ((x ≡ None) × (y ≡ None)) ⊎ (Named x q × (Named y p × (r ≡ s)))

decides_terms : (x y p q r s : Option ℕ) → Decides (negotiated x y p q r s) (Terms x y p q r s)
decides_terms None None p q r s = (λ _. inl (refl, refl), λ _. refl)
decides_terms None (Some y) p q r s = (λ t. absurd (both_ways false refl t), λ z. ⊎_elim (λ a. absurd (none-some _ (sym a.1))) (λ a. absurd (none-some _ a.0.1.0)) z)
decides_terms (Some x) None p q r s = (λ t. absurd (both_ways false refl t), λ z. ⊎_elim (λ a. absurd (none-some _ (sym a.0))) (λ a. absurd (none-some _ a.1.0.1.0)) z)
decides_terms (Some x) (Some y) p q r s =
    let d = Decides-and (both_are (Some x) q) _ (decides_named (Some x) q) (Decides-and (both_are (Some y) p) (alike r s) (decides_named (Some y) p) (decides_alike r s)) in
    (λ t. inr (d.0 t), λ z. ⊎_elim (λ a. absurd (none-some _ (sym a.0))) d.1 z)

pub decides_test : (accounts : List Account) (a b : OrderRow) → Decides (opposite_test accounts a b) (Opposite accounts a b)
decides_test accounts a b =
    Decides-like (opposite_test accounts a b)
    (λ x. record { instrument = x.0; sides = x.1.0; terms = x.1.1 })
    (λ x. (x.instrument, (x.sides, x.terms)))
    (Decides-and (eqb a.ticket.instrument b.ticket.instrument) _ (Decides-eqb a.ticket.instrument b.ticket.instrument)
    (Decides-and (sides_meet (direction_of a.ticket.direction) a.ticket.price (direction_of b.ticket.direction) b.ticket.price) (terms_meet accounts a b)
    (decides_sides (direction_of a.ticket.direction) a.ticket.price (direction_of b.ticket.direction) b.ticket.price)
    (decides_terms a.ticket.addressee b.ticket.addressee (participant_of accounts a.ticket.account) (participant_of accounts b.ticket.account) a.ticket.reference b.ticket.reference)))
