-- What the trades come to grows with their number alone.
use Rattle.std.proofs.Common.{◌≡◌, ℕ, suc, ◌+◌, ◌*◌, ◌≤◌, Bool, true, false, eqb, List, [], ◌∷◌, All, length, ℤ, pos, ◌-ℤ◌, ◌*ℤ◌, nat_abs, sym, subst, suc-mul, arith}
use Rattle.std.proofs.lemmas.Int.{ints}
use Rattle.std.proofs.lemmas.List.Elements.{All-head, All-tail}
use Rattle.records.specs.declared.rows.Trade.{Trade}
use Rattle.books.specs.Accounts.{position, money}
use Rattle.books.specs.Bounds.{Bounded, LawfulTrade, SumsStaySmall}
use Rattle.books.specs.Entries.{Reading, sum_ℤ, when, difference, brought, lots_due, money_due}
use Rattle.books.proofs.Within.{mul_within}

when_within : (b : Bool) (z : ℤ) (m : ℕ) → nat_abs z ≤ m → nat_abs (when b z) ≤ m
when_within true z m h = h
when_within false z m h = omega arith

brought_within : (b s : Bool) (q : ℕ) → nat_abs (when b (pos q) -ℤ when s (pos q)) ≤ q
brought_within true true q = omega (arith, ints)
brought_within true false q = omega (arith, ints)
brought_within false true q = omega (arith, ints)
brought_within false false q = omega (arith, ints)

sum_within : (f : Trade → ℤ) (m : ℕ) → ((t : Trade) → LawfulTrade t → nat_abs (f t) ≤ m) → (ts : List Trade) → All LawfulTrade ts → nat_abs (sum_ℤ f ts) ≤ length ts * m
sum_within f m h [] all = omega arith
sum_within f m h (t ∷ ts) all =
    let here = h t (All-head LawfulTrade t ts all) in
    let rest = sum_within f m h ts (All-tail LawfulTrade t ts all) in
    let e : suc (length ts) * m ≡ length ts * m + m = suc-mul (length ts) m in
    omega (arith, ints)

module _ (r : Reading) (b : Bounded r) where
  difference_within : (t : Trade) → LawfulTrade t → nat_abs (difference r t) ≤ 3000000000
  difference_within t h =
      let s = b.values t.contract (r.settlement t.contract) in
      let p = b.values t.contract t.price in
      let i = b.settlements t.contract in
      omega (arith, ints)

  lots_within : (a contract : ℕ) (t : Trade) → LawfulTrade t → nat_abs (when (eqb t.contract contract) (brought r a t)) ≤ 10000
  lots_within a contract t h =
      when_within (eqb t.contract contract) (brought r a t) 10000
      (let e = brought_within (eqb (r.owner t.buying_order) a) (eqb (r.owner t.selling_order) a) t.quantity in omega (arith, h.0))

  gains_within : (a : ℕ) (t : Trade) → LawfulTrade t → nat_abs (brought r a t *ℤ difference r t) ≤ 30000000000000
  gains_within a t h =
      mul_within (brought r a t) (difference r t) 10000 3000000000
      (let e = brought_within (eqb (r.owner t.buying_order) a) (eqb (r.owner t.selling_order) a) t.quantity in omega (arith, h.0))
      (difference_within t h)

pub sums_stay_small : SumsStaySmall
sums_stay_small r accounts ts b all few g a contract =
    let lots : nat_abs (lots_due r a contract ts) ≤ length ts * 10000 = sum_within (λ t. when (eqb t.contract contract) (brought r a t)) 10000 (lots_within r b a contract) ts all in
    let gains : nat_abs (money_due r a ts) ≤ length ts * 30000000000000 = sum_within (λ t. brought r a t *ℤ difference r t) 30000000000000 (gains_within r b a) ts all in
    let lots_few : nat_abs (position accounts a contract) ≤ 81920000 = subst (λ z. nat_abs z ≤ 81920000) (sym (g.lots a contract)) (omega arith) in
    let money_little : nat_abs (money accounts a) ≤ 245760000000000000 = subst (λ z. nat_abs z ≤ 245760000000000000) (sym (g.gains a)) (omega arith) in
    ((lots_few, money_little), (omega arith, omega arith))
