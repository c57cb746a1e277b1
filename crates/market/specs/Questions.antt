-- What each question tells; an unknown number gets its ground.
use Rattle.std.specs.Prelude.{◌≡◌, ℕ, List, length, ℤ, Some, None, Ok, Err, Option, Result, MatchResult}
use Rattle.std.specs.Option.{ok_or}
use Rattle.records.specs.Accounts.{holding}
use Rattle.records.specs.Orders.{row_of}
use Rattle.records.specs.Registers.{numbered}
use Rattle.records.specs.declared.account.Account.{Account}
use Rattle.records.specs.declared.contract.Contract.{Contract}
use Rattle.records.specs.declared.order.Order.{Order}
use Rattle.records.specs.declared.rows.OrderRow.{OrderRow}
use Rattle.market.specs.declared.overview.Overview.{Overview}
use Rattle.market.specs.declared.refusal.Refusal.{Refusal}
use Rattle.market.specs.declared.refusal.Refusal.TheVariants.{Unknown}
use Rattle.market.specs.States.{State}

-- the record of a number, counted from 1
abbrev pub record_told : {T : Type 0} → List T → ℕ → Result T Refusal
record_told records n = ok_or (numbered records n) Unknown

-- an account's position in a contract, where both are known
abbrev pub position_of : Option Account → Option Contract → ℕ → Result ℤ Refusal
position_of None contract n = Err Unknown
position_of (Some a) None n = Err Unknown
position_of (Some a) (Some c) n = Ok (holding a n)

abbrev pub position_told : State → ℕ → ℕ → Result ℤ Refusal
position_told s account contract = position_of (numbered s.accounts account) (numbered s.contracts contract) contract

abbrev pub money_of : Option Account → Result ℤ Refusal
money_of None = Err Unknown
money_of (Some a) = Ok a.money

-- an account's money
abbrev pub money_told : State → ℕ → Result ℤ Refusal
money_told s account = money_of (numbered s.accounts account)

-- an order is told as the record made of its row: a registered order's row never fails the check
abbrev pub OrderOf : Option OrderRow → Result Order Refusal → Type 0
OrderOf None r = r ≡ Err Unknown
OrderOf (Some row) r = MatchResult r (λ o. row_of o ≡ row) (λ _. ⊥)

abbrev pub OrderTold : State → ℕ → Result Order Refusal → Type 0
OrderTold s n r = OrderOf (numbered s.orders n) r

-- the phase, the date, the capacity, and how many records of each kind there are
abbrev pub overview : State → Overview
overview s =
    record {
      phase = s.phase;
      date = s.date;
      capacity = s.capacity;
      contracts = length s.contracts;
      instruments = length s.instruments;
      accounts = length s.accounts;
      orders = length s.orders;
      trades = length s.trades;
    }
