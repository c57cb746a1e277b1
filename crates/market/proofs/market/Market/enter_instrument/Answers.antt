use Rattle.std.proofs.Common.{refl, rules}
use Rattle.tables.specs.Tables.{entered}
use Rattle.market.specs.Calls.{with_instruments}
use Rattle.market.specs.Views.{view}
use Rattle.market.proofs.Entered.{enters, same_market}
use Rattle.market.proofs.market.Market.enter_instrument.Goals as goal

pub returns-clause-outcome : goal.returns-clause-outcome
returns-clause-outcome c =
    let s = view c.args.self.now in
    let e = enters 64 c.args.had s.instruments (entered c.enter_in.new.table) c.enter_in.result s c.enter_in.ensures.enters with_instruments refl in
    record { answer = e.0; state = e.1; orders = search rules; trades = search rules; orders_memory = refl; trades_memory = refl }

pub returns-clause-unchanged : goal.returns-clause-unchanged
returns-clause-unchanged c = λ e. let same = c.enter_in.ensures.unchanged e in rw same (same_market c.args.self.now _ _)
