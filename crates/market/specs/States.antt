-- A market as a plain value: what it holds, without its memory.
use Rattle.std.specs.Prelude.{ℕ, List, []}
use Rattle.records.specs.declared.account.Account.{Account}
use Rattle.records.specs.declared.codes.Phase.{Phase}
use Rattle.records.specs.declared.codes.Phase.TheVariants.{Suspended}
use Rattle.records.specs.declared.contract.Contract.{Contract}
use Rattle.records.specs.declared.instrument.Instrument.{Instrument}
use Rattle.records.specs.declared.rows.OrderRow.{OrderRow}
use Rattle.records.specs.declared.rows.Trade.{Trade}
use Rattle.market.specs.Capacity.{capacity_of}

-- The records of each kind are listed in the order of their numbers: number n stands at place n - 1.
pub record State : Type 0 where
  pub phase : Phase
  pub date : ℕ
  pub capacity : ℕ
  pub contracts : List Contract
  pub instruments : List Instrument
  pub accounts : List Account
  pub orders : List OrderRow
  pub trades : List Trade

-- a market as it begins over so many places for orders and trades
abbrev pub begun : ℕ → ℕ → State
begun order_places trade_places =
    record {
      phase = Suspended;
      date = 1;
      capacity = capacity_of order_places trade_places;
      contracts = [];
      instruments = [];
      accounts = [];
      orders = [];
      trades = [];
    }
