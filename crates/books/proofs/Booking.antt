-- Booking a trade and entering it keeps positions and money what the trades come to, and keeps the balance.
use Rattle.std.proofs.Common.{◌≡◌, ℕ, zero, suc, ◌<◌, ◌≤◌, true, eqb, List, get_or, ℤ, pos, ◌+ℤ◌, ◌-ℤ◌, ◌*ℤ◌, neg_ℤ, nat_abs, unwrap_or, sym, ap, ◌∙◌, subst, ⊎_elim, arith}
use Rattle.std.proofs.Math.IntN.{+ℤ_idr}
use Rattle.std.proofs.lemmas.Int.{ints}
use Rattle.std.proofs.lemmas.Option.{slice_get-get_or}
use Rattle.std.proofs.lemmas.Bool.{cases_eq}
use Rattle.records.proofs.Numbered.{numbered_replaced_same, numbered_replaced_other, length_replaced}
use Rattle.records.specs.Registers.{numbered, replaced}
use Rattle.records.specs.declared.account.Account.{Account}
use Rattle.records.specs.declared.rows.Trade.{Trade}
use Rattle.books.specs.Accounts.{nobody, account_at, holding, position, money, entered, enter_at, booked}
use Rattle.books.specs.Entries.{sum_ℤ, when, difference, brought, Balanced}
use Rattle.books.specs.Known.{Known}
use Rattle.books.specs.Ledgers.{Room, KeepsAgreement}
use Rattle.books.proofs.Sums.{sum_ℤ_push, sum_ℤ_set, when_same, when_other, when_lots, when_money, when_same_difference}

-- what `book` requires
pub record Allowed (t : Trade) (buyer seller : ℕ) (by : ℤ) (accounts : List Account) : Type 0 where
  pub known : Known accounts buyer × Known accounts seller
  pub contract : (0 < t.contract) × (t.contract ≤ 32)
  pub small : (t.quantity ≤ 10000) × (nat_abs by ≤ 3000000000)
  pub room : Room accounts buyer t.contract × Room accounts seller t.contract

-- what holds at each number after one record was replaced
pub one_replaced : {X : Type 0} (xs : List X) (n : ℕ) (y d : X) (P : ℕ → X → Type 0) → Known xs n
    → P n y → ((k : ℕ) → (k ≡ n → ⊥) → P k (unwrap_or (numbered xs k) d)) → (k : ℕ) → P k (unwrap_or (numbered (replaced xs n y) k) d)
one_replaced xs n y d P known here other k =
    ⊎_elim
    (λ e. subst (λ v. P v (unwrap_or (numbered (replaced xs n y) v) d)) (sym e) (subst (P n) (sym (ap (λ o. unwrap_or o d) (numbered_replaced_same xs n y known.0 known.1))) here))
    (λ ne. subst (P k) (sym (ap (λ o. unwrap_or o d) (numbered_replaced_other xs n k y ne))) (other k ne))
    (cases_eq k n)

known_replaced : {X : Type 0} (xs : List X) (n k : ℕ) (y : X) → Known xs k → Known (replaced xs n y) k
known_replaced xs n k y known = (known.0, let e = length_replaced xs n y in omega arith)

-- the sum with one record replaced
sum_ℤ_replaced : {X : Type 0} (f : X → ℤ) (xs : List X) (n : ℕ) (y d : X) → Known xs n → sum_ℤ f (replaced xs n y) +ℤ f (unwrap_or (numbered xs n) d) ≡ sum_ℤ f xs +ℤ f y
sum_ℤ_replaced f xs zero y d known = absurd (omega arith)
sum_ℤ_replaced f xs (suc n) y d known =
    let e : f (unwrap_or (numbered xs (suc n)) d) ≡ f (get_or xs n d) = ap (λ o. f (unwrap_or o d)) (slice_get-get_or xs n d known.1) in
    let h = sum_ℤ_set f xs n y d known.1 in
    omega (arith, ints)

module _ (n contract : ℕ) (lots gain : ℤ) (accounts : List Account) (known : Known accounts n) (within : (0 < contract) × (contract ≤ 32)) where
  abbrev account : Account
  account = account_at accounts n

  in_place : Known account.positions contract
  in_place = (within.0, let e = account.wide in omega arith)

  -- the position of the entered account, and of every other
  entered_holding : (c : ℕ) → holding (entered contract lots gain account) c ≡ holding account c +ℤ when (eqb contract c) lots
  entered_holding =
      one_replaced account.positions contract (holding account contract +ℤ lots) (pos 0) (λ c x. x ≡ holding account c +ℤ when (eqb contract c) lots) in_place
      (ap (λ u. holding account contract +ℤ u) (sym (when_same contract lots)))
      (λ c ne. sym (+ℤ_idr _) ∙ ap (λ u. holding account c +ℤ u) (sym (when_other contract c lots ne)))

  pub enter_position : (a c : ℕ) → position (enter_at n contract lots gain accounts) a c ≡ position accounts a c +ℤ when (eqb n a) (when (eqb contract c) lots)
  unfolding enter_at
  enter_position a c =
      one_replaced accounts n (entered contract lots gain account) nobody (λ k b. holding b c ≡ position accounts k c +ℤ when (eqb n k) (when (eqb contract c) lots)) known
      (entered_holding c ∙ ap (λ u. holding account c +ℤ u) (sym (when_same n _)))
      (λ k ne. sym (+ℤ_idr _) ∙ ap (λ u. position accounts k c +ℤ u) (sym (when_other n k _ ne))) a

  pub enter_money : (a : ℕ) → money (enter_at n contract lots gain accounts) a ≡ money accounts a +ℤ when (eqb n a) gain
  unfolding enter_at
  enter_money a =
      one_replaced accounts n (entered contract lots gain account) nobody (λ k b. b.money ≡ money accounts k +ℤ when (eqb n k) gain) known
      (ap (λ u. money accounts n +ℤ u) (sym (when_same n gain)))
      (λ k ne. sym (+ℤ_idr _) ∙ ap (λ u. money accounts k +ℤ u) (sym (when_other n k gain ne))) a

  pub enter_known : (k : ℕ) → Known accounts k → Known (enter_at n contract lots gain accounts) k
  unfolding enter_at
  enter_known k h = known_replaced accounts n k _ h

  pub enter_lots_sum : (c : ℕ) → sum_ℤ (λ a. holding a c) (enter_at n contract lots gain accounts) ≡ sum_ℤ (λ a. holding a c) accounts +ℤ when (eqb contract c) lots
  unfolding enter_at
  enter_lots_sum c =
      let h = sum_ℤ_replaced (λ a. holding a c) accounts n (entered contract lots gain account) nobody known in
      let e = entered_holding c in
      omega (arith, ints)

  pub enter_money_sum : sum_ℤ (λ a. a.money) (enter_at n contract lots gain accounts) ≡ sum_ℤ (λ a. a.money) accounts +ℤ gain
  unfolding enter_at
  enter_money_sum =
      let h = sum_ℤ_replaced (λ a. a.money) accounts n (entered contract lots gain account) nobody known in
      omega (arith, ints)

-- ---- one trade

module _ {t : Trade} {buyer seller : ℕ} {by : ℤ} {accounts : List Account} (allowed : Allowed t buyer seller by accounts) where
  abbrev q : ℤ
  q = pos t.quantity

  abbrev gain : ℤ
  gain = q *ℤ by

  abbrev mid : List Account
  mid = enter_at buyer t.contract q gain accounts

  mid_seller : Known mid seller
  mid_seller = enter_known buyer t.contract q gain accounts allowed.known.0 allowed.contract seller allowed.known.1

  pub booked_position : (a c : ℕ) → position (booked t buyer seller by accounts) a c ≡ position accounts a c +ℤ when (eqb t.contract c) (when (eqb buyer a) q -ℤ when (eqb seller a) q)
  unfolding booked
  booked_position a c =
      let h = enter_position buyer t.contract q gain accounts allowed.known.0 allowed.contract a c in
      let k = enter_position seller t.contract (neg_ℤ q) (neg_ℤ gain) mid mid_seller allowed.contract a c in
      let o = when_lots (eqb buyer a) (eqb seller a) (eqb t.contract c) t.quantity in
      omega (arith, ints)

  pub booked_money : (a : ℕ) → money (booked t buyer seller by accounts) a ≡ money accounts a +ℤ (when (eqb buyer a) q -ℤ when (eqb seller a) q) *ℤ by
  unfolding booked
  booked_money a =
      let h = enter_money buyer t.contract q gain accounts allowed.known.0 allowed.contract a in
      let k = enter_money seller t.contract (neg_ℤ q) (neg_ℤ gain) mid mid_seller allowed.contract a in
      let o = when_money (eqb buyer a) (eqb seller a) q by in
      omega (arith, ints)

  pub booked_balanced : Balanced accounts → Balanced (booked t buyer seller by accounts)
  unfolding booked
  booked_balanced h =
      record {
        lots = λ c.
            let e = enter_lots_sum buyer t.contract q gain accounts allowed.known.0 allowed.contract c in
            let f = enter_lots_sum seller t.contract (neg_ℤ q) (neg_ℤ gain) mid mid_seller allowed.contract c in
            let g = h.lots c in
            let w = when_lots true true (eqb t.contract c) t.quantity in
            let z = when_same_difference (eqb t.contract c) q in
            omega (arith, ints);
        gains =
            let e = enter_money_sum buyer t.contract q gain accounts allowed.known.0 allowed.contract in
            let f = enter_money_sum seller t.contract (neg_ℤ q) (neg_ℤ gain) mid mid_seller allowed.contract in
            let g = h.gains in
            omega (arith, ints);
      }

  -- a trade that is booked as it is read, and entered, keeps positions and money what the trades come to
  pub keeps_agreement : KeepsAgreement t buyer seller by accounts (booked t buyer seller by accounts)
  keeps_agreement r ts eb es ed g =
      record {
        lots = λ a c.
            let h = booked_position a c in
            let p = rw (eb, es) at (sum_ℤ_push (λ x. when (eqb x.contract c) (brought r a x)) ts t) in
            let e = g.lots a c in
            omega (arith, ints);
        gains = λ a.
            let h = booked_money a in
            let p = rw (eb, es, ed) at (sum_ℤ_push (λ x. brought r a x *ℤ difference r x) ts t) in
            let e = g.gains a in
            omega (arith, ints);
      }
