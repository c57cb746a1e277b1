-- In which sequence an order meets its opposite orders.
use Rattle.std.specs.Prelude.{◌≡◌, ℕ, ◌<◌, ◌⊎◌, List, ◌<ℤ◌, Some, None, Option}
use Rattle.records.specs.Registers.{numbered}
use Rattle.records.specs.declared.account.Account.{Account}
use Rattle.records.specs.declared.rows.OrderRow.{OrderRow}
use Rattle.orderbook.specs.Opposites.{Buys, Sells, Opposite}

-- for a purchase the lower price is better, for a sale the higher
abbrev pub BetterPrice : OrderRow → OrderRow → OrderRow → Type 0
BetterPrice me x y = (Buys me × (x.ticket.price <ℤ y.ticket.price)) ⊎ (Sells me × (y.ticket.price <ℤ x.ticket.price))

-- the order of one number goes before that of another: its price is better, or the same and its number smaller
abbrev pub GoesBefore : OrderRow → OrderRow → ℕ → OrderRow → ℕ → Type 0
GoesBefore me x m y n = BetterPrice me x y ⊎ ((x.ticket.price ≡ y.ticket.price) × (m < n))

-- the order of a number is active, and opposite to an order
pub record Candidate (accounts : List Account) (rows : List OrderRow) (me : OrderRow) (n : ℕ) (row : OrderRow) : Type 0 where
  pub known : numbered rows n ≡ Some row
  pub active : 0 < row.remaining
  pub opposite : Opposite accounts me row

-- the best opposite order: a candidate that no other goes before
pub record Best (accounts : List Account) (rows : List OrderRow) (me : OrderRow) (n : ℕ) : Type 0 where
  pub row : OrderRow
  pub candidate : Candidate accounts rows me n row
  pub first : (m : ℕ) (other : OrderRow) → Candidate accounts rows me m other → GoesBefore me other m row n → ⊥

-- what a search for the best tells: its number, or that there is no candidate
abbrev pub BestOf : List Account → List OrderRow → OrderRow → Option ℕ → Type 0
BestOf accounts rows me None = (n : ℕ) (row : OrderRow) → Candidate accounts rows me n row → ⊥
BestOf accounts rows me (Some n) = Best accounts rows me n
