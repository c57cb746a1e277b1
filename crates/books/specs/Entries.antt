-- What the trades register comes to.
use Rattle.std.specs.Prelude.{◌≡◌, ℕ, Bool, true, false, cond, List, [], ◌∷◌, ℤ, pos, ◌+ℤ◌, ◌-ℤ◌, ◌*ℤ◌, ◌==◌}
use Rattle.records.specs.declared.account.Account.{Account}
use Rattle.records.specs.declared.rows.Trade.{Trade}
use Rattle.books.specs.Accounts.{holding, position, money}

-- What the entries are read by: the account that owns an order, by number, the value of a price in a contract, and the
-- present settlement price of a contract. Nothing is supposed of the three.
pub record Reading : Type 0 where
  pub owner : ℕ → ℕ
  pub value : ℕ → ℤ → ℤ
  pub settlement : ℕ → ℤ

abbrev pub sum_ℤ : {X : Type 0} → (X → ℤ) → List X → ℤ
sum_ℤ f [] = pos 0
sum_ℤ f (x ∷ xs) = f x +ℤ sum_ℤ f xs

abbrev pub when : Bool → ℤ → ℤ
when true z = z
when false z = pos 0

-- the value of the settlement price less the value of the trade's price
abbrev pub difference : Reading → Trade → ℤ
difference r t = r.value t.contract (r.settlement t.contract) -ℤ r.value t.contract t.price

-- the lots that a trade brings an account: those bought less those sold
abbrev pub brought : Reading → ℕ → Trade → ℤ
brought r a t = when (r.owner t.buying_order == a) (pos t.quantity) -ℤ when (r.owner t.selling_order == a) (pos t.quantity)

-- an account's lots bought less lots sold in a contract
abbrev pub lots_due : Reading → ℕ → ℕ → List Trade → ℤ
lots_due r a contract ts = sum_ℤ (λ t. when (t.contract == contract) (brought r a t)) ts

-- an account's gains less losses
abbrev pub money_due : Reading → ℕ → List Trade → ℤ
money_due r a ts = sum_ℤ (λ t. brought r a t *ℤ difference r t) ts

-- the same reading with another settlement price in one contract
abbrev pub settled_at : Reading → ℕ → ℤ → Reading
settled_at r contract price =
    record { owner = r.owner; value = r.value; settlement = λ c. cond (c == contract) price (r.settlement c) }

-- the change of a contract's settlement value at another settlement price
abbrev pub change_to : Reading → ℕ → ℤ → ℤ
change_to r contract price = r.value contract price -ℤ r.value contract (r.settlement contract)

-- positions and money are what the trades come to
pub record Agrees (r : Reading) (accounts : List Account) (ts : List Trade) : Type 0 where
  pub lots : (a contract : ℕ) → position accounts a contract ≡ lots_due r a contract ts
  pub gains : (a : ℕ) → money accounts a ≡ money_due r a ts

-- over all accounts, each contract's positions and the money sum to nought
pub record Balanced (accounts : List Account) : Type 0 where
  pub lots : (contract : ℕ) → sum_ℤ (λ a. holding a contract) accounts ≡ pos 0
  pub gains : sum_ℤ (λ a. a.money) accounts ≡ pos 0
