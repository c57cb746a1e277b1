-- A new settlement price: revaluation keeps positions and money what the trades come to, and keeps the balance.
use Rattle.std.proofs.Common.{◌≡◌, ℕ, zero, suc, Bool, true, false, cond, eqb, List, [], ◌∷◌, map, ℤ, pos, ◌+ℤ◌, ◌-ℤ◌, ◌*ℤ◌, Some, None, Option, unwrap_or, sym, refl, ap, ◌∙◌, ap₂, arith}
use Rattle.std.proofs.Math.IntN.{+ℤ_idr, zero-*ℤ}
use Rattle.std.proofs.lemmas.Int.{ints}
use Rattle.std.proofs.lemmas.Bool.{eqb-true}
use Rattle.std.proofs.lemmas.Option.{slice_get-map}
use Rattle.std.specs.List.{AllZip}
use Rattle.std.specs.Option.{option_map}
use Rattle.records.specs.Registers.{numbered}
use Rattle.records.specs.declared.account.Account.{Account}
use Rattle.records.specs.declared.rows.Trade.{Trade}
use Rattle.books.specs.Accounts.{nobody, account_at, holding, position, money, revalued}
use Rattle.books.specs.Entries.{Reading, sum_ℤ, when, difference, brought, lots_due, money_due, settled_at, change_to, Agrees, Balanced}
use Rattle.books.proofs.Beginning.{nobody_holds}
use Rattle.books.proofs.Sums.{distrib, distrib_left}

module _ (r : Reading) (contract : ℕ) (price : ℤ) where
  entry : (a : ℕ) (t : Trade)
      → brought r a t *ℤ difference (settled_at r contract price) t
      ≡ brought r a t *ℤ difference r t +ℤ when (eqb t.contract contract) (brought r a t) *ℤ change_to r contract price
  entry a t = go (eqb t.contract contract) refl
    where
      n : ℤ
      n = brought r a t

      v : ℤ → ℤ
      v = r.value t.contract

      go : (b : Bool) → eqb t.contract contract ≡ b
          → n *ℤ (v (cond b price (r.settlement t.contract)) -ℤ v t.price) ≡ n *ℤ (v (r.settlement t.contract) -ℤ v t.price) +ℤ when b n *ℤ change_to r contract price
      go true e =
          let same : t.contract ≡ contract = eqb-true _ _ e in
          let c : v price -ℤ v (r.settlement t.contract) ≡ change_to r contract price = ap (λ k. r.value k price -ℤ r.value k (r.settlement k)) same in
          let x : (v price -ℤ v t.price) ≡ (v (r.settlement t.contract) -ℤ v t.price) +ℤ change_to r contract price = omega (arith, ints) in
          ap (λ y. n *ℤ y) x ∙ distrib_left n (v (r.settlement t.contract) -ℤ v t.price) (change_to r contract price)
      go false e = sym (ap (λ y. n *ℤ (v (r.settlement t.contract) -ℤ v t.price) +ℤ y) (zero-*ℤ (change_to r contract price)) ∙ +ℤ_idr _)

  entries : (a : ℕ) (ts : List Trade) → money_due (settled_at r contract price) a ts ≡ money_due r a ts +ℤ lots_due r a contract ts *ℤ change_to r contract price
  entries a [] = sym (ap (λ y. pos 0 +ℤ y) (zero-*ℤ (change_to r contract price)))
  entries a (t ∷ ts) =
      let h = entry a t in
      let ih = entries a ts in
      let k = distrib (when (eqb t.contract contract) (brought r a t)) (lots_due r a contract ts) (change_to r contract price) in
      omega (arith, ints)

pub mapped : {X Y : Type 0} (R : X → Y → Type 0) (f : X → Y) (xs : List X) (ys : List Y) → AllZip R xs ys → ((x : X) (y : Y) → R x y → y ≡ f x) → ys ≡ map f xs
mapped R f [] [] h each = refl
mapped R f [] (y ∷ ys) h each = absurd h
mapped R f (x ∷ xs) [] h each = absurd h
mapped R f (x ∷ xs) (y ∷ ys) h each = ap₂ ◌∷◌ (each x y h.0) (mapped R f xs ys h.1 each)

numbered_map : {X Y : Type 0} (f : X → Y) (xs : List X) (n : ℕ) → numbered (map f xs) n ≡ option_map f (numbered xs n)
numbered_map f xs zero = refl
numbered_map f xs (suc n) = slice_get-map f xs n

value_mapped : {X : Type 0} (f : X → X) (o : Option X) (d : X) → f d ≡ d → unwrap_or (option_map f o) d ≡ f (unwrap_or o d)
value_mapped f None d e = sym e
value_mapped f (Some x) d e = refl

module _ (contract : ℕ) (by : ℤ) (accounts : List Account) where
  nobody_same : revalued contract by nobody ≡ nobody
  unfolding revalued
  nobody_same =
      ap (λ x. record { holder = nobody.holder; positions = nobody.positions; money = x; wide = nobody.wide })
      (ap (λ h. pos 0 +ℤ h *ℤ by) (nobody_holds contract) ∙ ap (λ y. pos 0 +ℤ y) (zero-*ℤ by))

  at : (n : ℕ) → account_at (map (revalued contract by) accounts) n ≡ revalued contract by (account_at accounts n)
  at n = ap (λ o. unwrap_or o nobody) (numbered_map (revalued contract by) accounts n) ∙ value_mapped (revalued contract by) (numbered accounts n) nobody nobody_same

  pub revalued_position : (a c : ℕ) → position (map (revalued contract by) accounts) a c ≡ position accounts a c
  unfolding revalued
  revalued_position a c = ap (λ (b : Account). holding b c) (at a)

  pub revalued_money : (a : ℕ) → money (map (revalued contract by) accounts) a ≡ money accounts a +ℤ position accounts a contract *ℤ by
  unfolding revalued
  revalued_money a = ap (λ (b : Account). b.money) (at a)

revalued_lots_sum : (contract : ℕ) (by : ℤ) (accounts : List Account) (c : ℕ) → sum_ℤ (λ a. holding a c) (map (revalued contract by) accounts) ≡ sum_ℤ (λ a. holding a c) accounts
unfolding revalued
revalued_lots_sum contract by [] c = refl
revalued_lots_sum contract by (a ∷ rest) c = ap (λ y. holding a c +ℤ y) (revalued_lots_sum contract by rest c)

revalued_money_sum : (contract : ℕ) (by : ℤ) (accounts : List Account)
    → sum_ℤ (λ a. a.money) (map (revalued contract by) accounts) ≡ sum_ℤ (λ a. a.money) accounts +ℤ sum_ℤ (λ a. holding a contract) accounts *ℤ by
unfolding revalued
revalued_money_sum contract by [] = sym (ap (λ y. pos 0 +ℤ y) (zero-*ℤ by))
revalued_money_sum contract by (a ∷ rest) =
    let ih = revalued_money_sum contract by rest in
    let k = distrib (holding a contract) (sum_ℤ (λ a. holding a contract) rest) by in
    omega (arith, ints)

pub revalued_balanced : (contract : ℕ) (by : ℤ) (accounts : List Account) → Balanced accounts → Balanced (map (revalued contract by) accounts)
revalued_balanced contract by accounts h =
    record {
      lots = λ c. revalued_lots_sum contract by accounts c ∙ h.lots c;
      gains =
          let e = revalued_money_sum contract by accounts in
          let f = ap (λ x. x *ℤ by) (h.lots contract) ∙ zero-*ℤ by in
          let g = h.gains in
          omega (arith, ints);
    }

pub revalued_agrees : (r : Reading) (contract : ℕ) (price : ℤ) (accounts : List Account) (ts : List Trade)
    → Agrees r accounts ts → Agrees (settled_at r contract price) (map (revalued contract (change_to r contract price)) accounts) ts
revalued_agrees r contract price accounts ts g =
    record {
      lots = λ a c. revalued_position contract (change_to r contract price) accounts a c ∙ g.lots a c;
      gains = λ a.
          revalued_money contract (change_to r contract price) accounts a
          ∙ ap₂ (λ x y. x +ℤ y *ℤ change_to r contract price) (g.gains a) (g.lots a contract)
          ∙ sym (entries r contract price a ts);
    }
