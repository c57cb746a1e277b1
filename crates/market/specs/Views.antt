-- What a market in memory holds, and what a call leaves there.
use Rattle.std.specs.Prelude.{◌≡◌, ◌-◌, length, drop, Result}
use Rattle.books.specs.Ledgers.{accounts_of}
use Rattle.records.specs.Registers.{listed, unused, SameMemory}
use Rattle.records.specs.declared.register.Register.{Register}
use Rattle.tables.specs.Tables.{entered}
use Rattle.market.specs.Calls.{Outcome}
use Rattle.market.specs.States.{State}
use Rattle.market.specs.declared.market.Market.{Market}
use Rattle.market.specs.declared.refusal.Refusal.{Refusal}

abbrev pub view : Market → State
view m =
    record {
      phase = m.phase;
      date = m.date;
      capacity = m.capacity;
      contracts = entered m.contracts;
      instruments = entered m.instruments;
      accounts = accounts_of m.accounts;
      orders = listed m.orders;
      trades = listed m.trades;
    }

-- the unused places behind the records are those of before, without the ones that new records took
abbrev pub KeepsUnused : {T : Type 0} → Register T → Register T → Type 0
KeepsUnused before after = unused after ≡ drop (length (listed after) - length (listed before)) (unused before)

-- A call's answer, the market and both registers are those of its outcome: the unused places of a register keep their content,
-- and it is over the same lent memory.
pub record HasOutcome {A : Type 0} (before after : Market) (told : Result A Refusal) (o : Outcome A) : Type 0 where
  pub answer : told ≡ o.answer
  pub state : view after ≡ o.after
  pub orders : KeepsUnused before.orders after.orders
  pub trades : KeepsUnused before.trades after.trades
  pub orders_memory : SameMemory before.orders after.orders
  pub trades_memory : SameMemory before.trades after.trades
