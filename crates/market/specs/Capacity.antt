-- How many orders a market can register, and a row that is read where there is none.
use Rattle.std.specs.Prelude.{ℕ, ◌+◌, ◌/◌, min, length, pos, None}
use Rattle.records.specs.Registers.{listed, unused}
use Rattle.records.specs.declared.register.Register.{Register}
use Rattle.records.specs.declared.rows.OrderRow.{OrderRow}

-- how many places a register has, used or not
abbrev pub places : {T : Type 0} → Register T → ℕ
places r = length (listed r) + length (unused r)

-- the least of 4,096, the order places, and half the trade places, rounded down
abbrev pub capacity_of : ℕ → ℕ → ℕ
capacity_of order_places trade_places = min (min 4096 order_places) (trade_places / 2)

-- what is read of an order that there is not
abbrev pub blank : OrderRow
blank =
    record {
      ticket = record { account = 0; instrument = 0; direction = 0; order_type = 0; price = pos 0; size = 0; addressee = None; reference = None; expiry = None };
      size = 0;
      filled = 0;
      remaining = 0;
      withdrawn = 0;
      ending = None;
    }
