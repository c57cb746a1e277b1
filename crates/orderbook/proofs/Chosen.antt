-- What reading through chooses: a candidate of the best price, and the first of these.
use Rattle.std.proofs.Common.{◌≡◌, ℕ, zero, suc, ◌+◌, ◌<◌, Bool, true, false, List, get_or, ℤ, Some, None, Option, sym, refl, subst, ⊎_elim, not-suc-le-zero, add-one, arith}
use Rattle.std.proofs.lemmas.Int.{ints}
use Rattle.std.proofs.lemmas.Bool.{cond_both, cases_eq, both_ways}
use Rattle.records.specs.Codes.{direction_of}
use Rattle.records.specs.declared.account.Account.{Account}
use Rattle.records.specs.declared.codes.Direction.{Direction}
use Rattle.records.specs.declared.codes.Direction.TheVariants.{Buy, Sell}
use Rattle.records.specs.declared.rows.OrderRow.{OrderRow}
use Rattle.orderbook.specs.Best.{blank, better_by, better, candidate, with_next, best_below}

pub best_more : (accounts : List Account) (me : OrderRow) (rows : List OrderRow) (i : ℕ) → best_below accounts me rows (i + 1) ≡ with_next accounts me rows i (best_below accounts me rows i)
unfolding best_below
best_more accounts me rows i = rw add-one refl

pub not_itself : (d : Option Direction) (p : ℤ) → better_by d p p ≡ false
not_itself None p = refl
not_itself (Some Buy) p = grind (arith, ints)
not_itself (Some Sell) p = grind (arith, ints)

stays_behind : (d : Option Direction) (j k n : ℤ) → better_by d j k ≡ false → better_by d n k ≡ true → better_by d j n ≡ false
stays_behind None j k n a b = refl
stays_behind (Some Buy) j k n a b = grind (arith, ints)
stays_behind (Some Sell) j k n a b = grind (arith, ints)

goes_ahead : (d : Option Direction) (j k n : ℤ) → better_by d j k ≡ false → better_by d n k ≡ true → better_by d n j ≡ true
goes_ahead None j k n a b = b
goes_ahead (Some Buy) j k n a b = grind (arith, ints)
goes_ahead (Some Sell) j k n a b = grind (arith, ints)

-- what holds below n, and at n, holds below suc n
upto : (P : ℕ → Type 0) (n : ℕ) → ((j : ℕ) → j < n → P j) → P n → (j : ℕ) → j < suc n → P j
upto P n below here j h = ⊎_elim (λ (e : j ≡ n). subst P (sym e) here) (λ ne. below j (omega arith)) (cases_eq j n)

module _ (accounts : List Account) (me : OrderRow) (rows : List OrderRow) where
  abbrev at : ℕ → OrderRow
  at j = get_or rows j blank

  abbrev can : ℕ → Bool
  can j = candidate accounts me (at j)

  abbrev beats : ℕ → ℕ → Bool
  beats j k = better me (at j) (at k)

  -- no candidate; or a candidate that none has a better price than, and that has a better price than any before it
  abbrev pub Chosen : ℕ → Option ℕ → Type 0
  Chosen n None = (j : ℕ) → j < n → can j ≡ false
  Chosen n (Some k) =
      (k < n) × (can k ≡ true) × ((j : ℕ) → j < n → can j ≡ true → beats j k ≡ false) × ((j : ℕ) → j < k → can j ≡ true → beats k j ≡ true)

  chosen_more : (n : ℕ) (o : Option ℕ) → Chosen n o → Chosen (suc n) (with_next accounts me rows n o)
  chosen_more n None h =
      cond_both (can n) (Some n) None (Chosen (suc n))
      (λ e. (
        omega arith,
        e,
        upto (λ j. can j ≡ true → beats j n ≡ false) n (λ j l o. absurd (both_ways _ (h j l) o)) (λ _. not_itself (direction_of me.ticket.direction) (at n).ticket.price),
        λ j l o. absurd (both_ways _ (h j l) o),
      ))
      (λ e. upto (λ j. can j ≡ false) n h e)
  chosen_more n (Some k) (l, o, none_better, first) =
      let d = direction_of me.ticket.direction in
      cond_both (can n) _ (Some k) (Chosen (suc n))
      (λ e. cond_both (beats n k) (Some n) (Some k) (Chosen (suc n))
      (λ g. (
        omega arith,
        e,
        upto (λ j. can j ≡ true → beats j n ≡ false) n (λ j jl jo. stays_behind d (at j).ticket.price (at k).ticket.price (at n).ticket.price (none_better j jl jo) g) (λ _. not_itself d (at n).ticket.price),
        λ j jl jo. goes_ahead d (at j).ticket.price (at k).ticket.price (at n).ticket.price (none_better j jl jo) g,
      ))
      (λ g. (omega arith, o, upto (λ j. can j ≡ true → beats j k ≡ false) n none_better (λ _. g), first)))
      (λ e. (omega arith, o, upto (λ j. can j ≡ true → beats j k ≡ false) n none_better (λ oj. absurd (both_ways _ e oj)), first))

  pub is_chosen : (n : ℕ) → Chosen n (best_below accounts me rows n)
  unfolding best_below
  is_chosen zero = λ j l. absurd (not-suc-le-zero l)
  is_chosen (suc n) = chosen_more n (best_below accounts me rows n) (is_chosen n)

  pub is_below : (n k : ℕ) → best_below accounts me rows n ≡ Some k → k < n
  is_below n k e = (subst (Chosen n) e (is_chosen n)).0
