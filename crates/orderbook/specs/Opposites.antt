-- When two orders are opposite.
use Rattle.std.specs.Prelude.{◌≡◌, ℕ, ◌⊎◌, List, ◌≤ℤ◌, Some, None, Option}
use Rattle.std.specs.Option.{option_map}
use Rattle.records.specs.Codes.{direction_of}
use Rattle.records.specs.Registers.{numbered}
use Rattle.records.specs.declared.account.Account.{Account}
use Rattle.records.specs.declared.codes.Direction.TheVariants.{Buy, Sell}
use Rattle.records.specs.declared.rows.OrderRow.{OrderRow}

abbrev pub Buys : OrderRow → Type 0
Buys o = direction_of o.ticket.direction ≡ Some Buy

abbrev pub Sells : OrderRow → Type 0
Sells o = direction_of o.ticket.direction ≡ Some Sell

-- the buying price is at least the selling price
abbrev pub PricesMeet : OrderRow → OrderRow → Type 0
PricesMeet buying selling = selling.ticket.price ≤ℤ buying.ticket.price

-- one buys and the other sells, at prices that meet
abbrev pub SidesMeet : OrderRow → OrderRow → Type 0
SidesMeet a b = (Buys a × (Sells b × PricesMeet a b)) ⊎ (Sells a × (Buys b × PricesMeet b a))

-- the participant through whom an account trades
abbrev pub participant_of : List Account → ℕ → Option ℕ
participant_of accounts n = option_map (λ a. a.holder.terms.participant) (numbered accounts n)

-- an order's addressee is the participant of the other order's account
abbrev pub Names : List Account → OrderRow → OrderRow → Type 0
Names accounts a b = (p : ℕ) × ((a.ticket.addressee ≡ Some p) × (participant_of accounts b.ticket.account ≡ Some p))

-- both are order book orders; or both are negotiated, each naming the other's participant, with the same reference or none
abbrev pub TermsMeet : List Account → OrderRow → OrderRow → Type 0
TermsMeet accounts a b =
    ((a.ticket.addressee ≡ None) × (b.ticket.addressee ≡ None))
    ⊎ (Names accounts a b × (Names accounts b a × (a.ticket.reference ≡ b.ticket.reference)))

pub record Opposite (accounts : List Account) (a b : OrderRow) : Type 0 where
  pub instrument : a.ticket.instrument ≡ b.ticket.instrument
  pub sides : SidesMeet a b
  pub terms : TermsMeet accounts a b
