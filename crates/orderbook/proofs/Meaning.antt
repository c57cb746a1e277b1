-- What reading through chooses is the best opposite order, and there is none where it finds none.
use Rattle.std.proofs.Common.{◌≡◌, ℕ, zero, suc, ◌+◌, ◌<◌, true, false, ltb, ◌⊎◌, List, length, get_or, ℤ, ◌<ℤ◌, Some, None, Option, sym, ap, ◌∙◌, subst, inl, inr, ⊎_elim, arith}
use Rattle.std.proofs.lemmas.Int.{ints}
use Rattle.std.proofs.lemmas.Bool.{both_ways, ltb-true, lt-ltb, and_parts, and_from}
use Rattle.std.proofs.lemmas.Option.{slice_get-get_or, slice_get_within, get_or_from_slice_get}
use Rattle.records.specs.Codes.{direction_of}
use Rattle.records.specs.Registers.{numbered}
use Rattle.records.specs.declared.account.Account.{Account}
use Rattle.records.specs.declared.codes.Direction.{Direction}
use Rattle.records.specs.declared.codes.Direction.TheVariants.{Buy, Sell}
use Rattle.records.specs.declared.rows.OrderRow.{OrderRow}
use Rattle.orderbook.specs.Best.{blank, better_by, better, candidate, best_below}
use Rattle.orderbook.specs.Sequence.{BetterPrice, Candidate, Best}
use Rattle.orderbook.specs.Tests.{opposite}
use Rattle.orderbook.proofs.Chosen.{Chosen, is_chosen, not_itself}
use Rattle.orderbook.proofs.Deciding.{decides_test}

-- the order of a number
at_number : {X : Type 0} (xs : List X) (k : ℕ) (d : X) → k < length xs → numbered xs (k + 1) ≡ Some (get_or xs k d)
at_number xs k d h = subst (λ n. numbered xs n ≡ Some (get_or xs k d)) (one_more k) (slice_get-get_or xs k d h)
  where
    one_more : (k : ℕ) → suc k ≡ k + 1
    one_more k = omega arith

better_price : (me x y : OrderRow) → BetterPrice me x y → better me x y ≡ true
better_price me x y b = by_direction (direction_of me.ticket.direction) x.ticket.price y.ticket.price b
  where
    by_direction : (d : Option Direction) (p q : ℤ) → ((d ≡ Some Buy) × (p <ℤ q)) ⊎ ((d ≡ Some Sell) × (q <ℤ p)) → better_by d p q ≡ true
    by_direction None p q (inl h) = let z : ◌≡◌ {A = ℕ} 0 1 = cc in absurd (omega arith)
    by_direction None p q (inr h) = let z : ◌≡◌ {A = ℕ} 0 1 = cc in absurd (omega arith)
    by_direction (Some Buy) p q (inl h) = let l = h.1 in grind (arith, ints)
    by_direction (Some Buy) p q (inr h) = let e = h.0 in let z : ◌≡◌ {A = ℕ} 0 1 = cc in absurd (omega arith)
    by_direction (Some Sell) p q (inl h) = let e = h.0 in let z : ◌≡◌ {A = ℕ} 0 1 = cc in absurd (omega arith)
    by_direction (Some Sell) p q (inr h) = let l = h.1 in grind (arith, ints)

module _ (accounts : List Account) (me : OrderRow) (rows : List OrderRow) where
  is_candidate : (k : ℕ) → k < length rows → candidate accounts me (get_or rows k blank) ≡ true → Candidate accounts rows me (k + 1) (get_or rows k blank)
  unfolding opposite
  is_candidate k h e =
      let parts = and_parts (ltb 0 (get_or rows k blank).remaining) _ e in
      record { known = at_number rows k blank h; active = ltb-true 0 _ parts.0; opposite = (decides_test accounts me (get_or rows k blank)).0 parts.1 }

  -- a candidate is one that the test passes, at a place
  pub record Placed (n : ℕ) (row : OrderRow) : Type 0 where
    pub place : ℕ
    pub number : n ≡ place + 1
    pub within : place < length rows
    pub is : get_or rows place blank ≡ row
    pub passes : candidate accounts me (get_or rows place blank) ≡ true

  placed : (n : ℕ) (row : OrderRow) → Candidate accounts rows me n row → Placed n row
  unfolding opposite
  placed zero row c = let e = c.known in let z : ◌≡◌ {A = ℕ} 0 1 = cc in absurd (omega arith)
  placed (suc k) row c =
      let is = get_or_from_slice_get rows k row blank c.known in
      record {
        place = k;
        number = omega arith;
        within = slice_get_within rows k row c.known;
        is = is;
        passes = subst (λ x. candidate accounts me x ≡ true) (sym is) (and_from (ltb 0 row.remaining) _ (lt-ltb 0 row.remaining c.active) ((decides_test accounts me row).1 c.opposite));
      }

  best_found : (k : ℕ) → Chosen accounts me rows (length rows) (Some k) → Best accounts rows me (k + 1)
  best_found k (within, passes, none_better, first) =
      record {
        row = get_or rows k blank;
        candidate = is_candidate k within passes;
        first = λ m other c g.
            let p = placed m other c in
            let d = direction_of me.ticket.direction in
            ⊎_elim
            (λ b. both_ways _ (none_better p.place p.within p.passes) (subst (λ x. better me x (get_or rows k blank) ≡ true) (sym p.is) (better_price me other (get_or rows k blank) b)))
            (λ e. both_ways _
            (subst (λ q. better_by d (get_or rows k blank).ticket.price q ≡ false) (sym (ap (λ x. x.ticket.price) p.is ∙ e.0)) (not_itself d (get_or rows k blank).ticket.price))
            (first p.place (omega (arith, p.number, e.1)) p.passes))
            g;
      }

  pub found : (k : ℕ) → best_below accounts me rows (length rows) ≡ Some k → Best accounts rows me (k + 1)
  found k e = best_found k (subst (Chosen accounts me rows (length rows)) e (is_chosen accounts me rows (length rows)))

  pub not_found : best_below accounts me rows (length rows) ≡ None → (n : ℕ) (row : OrderRow) → Candidate accounts rows me n row → ⊥
  not_found e n row c =
      let p = placed n row c in
      let none = subst (Chosen accounts me rows (length rows)) e (is_chosen accounts me rows (length rows)) in
      both_ways _ (none p.place p.within) p.passes
