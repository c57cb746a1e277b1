-- The trades of two orders that met.
use Rattle.std.specs.Prelude.{ℕ, ℤ}
use Rattle.records.specs.declared.codes.Direction.{Direction}
use Rattle.records.specs.declared.codes.Direction.TheVariants.{Buy, Sell}
use Rattle.records.specs.declared.rows.Trade.{Trade}
use Rattle.rulebook.specs.declared.legs.Leg.{Leg}
use Rattle.sample.specs.declared.Struck.{Struck}

-- whoever buys the instrument takes a leg that a purchase buys, and gives one that a purchase sells
abbrev pub taker : Direction → Struck → ℕ
taker Buy s = s.buying_order
taker Sell s = s.selling_order

abbrev pub giver : Direction → Struck → ℕ
giver Buy s = s.selling_order
giver Sell s = s.buying_order

abbrev pub leg_trade : Struck → Leg → ℤ → Trade
leg_trade s leg price =
    record {
      contract = leg.contract;
      buying_order = taker leg.in_purchase s;
      selling_order = giver leg.in_purchase s;
      quantity = s.quantity;
      price = price;
    }
