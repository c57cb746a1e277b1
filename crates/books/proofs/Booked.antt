-- A trade booked, one side after the other.
use Rattle.std.proofs.Common.{◌≡◌, ℕ, ◌+◌, ◌≤◌, Bool, true, false, eqb, List, ℤ, pos, ◌+ℤ◌, ◌*ℤ◌, neg_ℤ, nat_abs, sym, subst, arith}
use Rattle.std.proofs.lemmas.Int.{ints}
use Rattle.records.specs.declared.account.Account.{Account}
use Rattle.records.specs.declared.rows.Trade.{Trade}
use Rattle.books.specs.Accounts.{account_at, position, money, enter_at, booked}
use Rattle.books.specs.Entries.{when}
use Rattle.books.specs.Ledgers.{Small}
use Rattle.books.proofs.Booking.{Allowed, enter_position, enter_money}
use Rattle.books.proofs.Within.{mul_within}

-- one more entry changes a number by no more than the entry
more_within : (b : Bool) (a z : ℤ) (m n : ℕ) → nat_abs a ≤ m → nat_abs z ≤ n → nat_abs (a +ℤ when b z) ≤ m + n
more_within true a z m n h k = omega (arith, ints)
more_within false a z m n h k = omega (arith, ints)

module _ {t : Trade} {buyer seller : ℕ} {by : ℤ} {accounts : List Account} (allowed : Allowed t buyer seller by accounts) where
  abbrev q : ℤ
  q = pos t.quantity

  -- once the buyer's side is entered, the seller's account is still small enough for the other one
  still_small : Small (account_at (enter_at buyer t.contract q (q *ℤ by) accounts) seller) t.contract
  still_small = (
    subst (λ z. nat_abs z ≤ 100000000) (sym (enter_position buyer t.contract q (q *ℤ by) accounts allowed.known.0 allowed.contract seller t.contract))
        (let h = more_within (eqb buyer seller) (position accounts seller t.contract) (when (eqb t.contract t.contract) q) 90000000 10000 allowed.room.1.0 (own (eqb t.contract t.contract)) in omega arith),
    subst (λ z. nat_abs z ≤ 300000000000000000) (sym (enter_money buyer t.contract q (q *ℤ by) accounts allowed.known.0 allowed.contract seller))
        (let h = more_within (eqb buyer seller) (money accounts seller) (q *ℤ by) 290000000000000000 30000000000000 allowed.room.1.1 (mul_within q by 10000 3000000000 allowed.small.0 allowed.small.1) in omega arith),
  )
    where
      own : (e : Bool) → nat_abs (when e q) ≤ 10000
      own true = allowed.small.0
      own false = omega arith

  -- one side after the other, as the code enters them
  module _ {k : ℕ} {lots gain : ℤ} {mid : List Account} (ek : k ≡ t.contract) (el : lots ≡ q) (eg : gain ≡ q *ℤ by) (em : mid ≡ enter_at buyer k lots gain accounts) {j : ℕ} (ej : j ≡ k) where
    pub seller_small : Small (account_at mid seller) j
    seller_small = rw (em, ej, ek, el, eg) still_small

    pub both_sides : {given lost : ℤ} {after : List Account} → given ≡ neg_ℤ lots → lost ≡ neg_ℤ gain → after ≡ enter_at seller j given lost mid → after ≡ booked t buyer seller by accounts
    unfolding booked
    both_sides f g h = rw (h, em, ej, f, g, ek, el, eg)
