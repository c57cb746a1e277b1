-- No position and no sum of money grows past what the code's numbers hold.
use Rattle.std.specs.Prelude.{ℕ, ◌*◌, ◌≤◌, List, All, length, ℤ, unsigned_abs}
use Rattle.records.specs.declared.account.Account.{Account}
use Rattle.records.specs.declared.rows.Trade.{Trade}
use Rattle.books.specs.Accounts.{position, money}
use Rattle.books.specs.Entries.{Reading, Agrees}
use Rattle.books.specs.Ledgers.{Room}

-- a value function that is bounded as the value of a price is, and settlement prices in range
pub record Bounded (r : Reading) : Type 0 where
  pub values : (contract : ℕ) (price : ℤ) → unsigned_abs (r.value contract price) ≤ 1000 * unsigned_abs price
  pub settlements : (contract : ℕ) → unsigned_abs (r.settlement contract) ≤ 1000000

-- a trade of at most 10,000 lots at a price within two million of nought
abbrev pub LawfulTrade : Trade → Type 0
LawfulTrade t = (t.quantity ≤ 10000) × (unsigned_abs t.price ≤ 2000000)

-- 4,096 orders enter at most 8,192 trades: two for each, since each match completes an order
abbrev pub SumsStaySmall : Type 0
SumsStaySmall =
    (r : Reading) (accounts : List Account) (ts : List Trade) → Bounded r → All LawfulTrade ts → length ts ≤ 8192 → Agrees r accounts ts
    → (a contract : ℕ) → ((unsigned_abs (position accounts a contract) ≤ 81920000) × (unsigned_abs (money accounts a) ≤ 245760000000000000)) × Room accounts a contract
