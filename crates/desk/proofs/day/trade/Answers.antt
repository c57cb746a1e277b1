use Rattle.std.proofs.Common.{◌≡◌, ◌<◌, length, sym, ◌∙◌, rules}
use Rattle.market.specs.Views.{view}
use Rattle.sheet.specs.Faults.{told}
use Rattle.desk.specs.Days.{shown}
use Rattle.desk.proofs.Turns.{trading_turn, trading_end}
use Rattle.desk.proofs.day.trade.Goals as goal

pub loop-market-preserved : goal.loop-market-preserved
loop-market-preserved g c =
    let some : 0 < length c.loop-market.unread.text.now = search rules in
    trading_turn (shown c.loop-market.printed) _ (view c.loop-market.market) _ c.loop-market.unread.number _ c.loop-market.unread.text.now c.next_line.result.0.now c.next_line.result.1.text.now (told c.take_line.result)
    some c.next_line.ensures.line c.next_line.ensures.number c.next_line.ensures.rest c.take_line.ensures.taken c.take_line.ensures.state c.in_ok-add_taken.ensures
    ∙ c.loop-market.invariant

pub returns : goal.returns
returns g c =
    let none : length c.loop-market.unread.text.now ≡ 0 = search rules in
    sym (trading_end (shown c.loop-market.printed) (view c.loop-market.market) c.loop-market.unread.number c.loop-market.unread.text.now none) ∙ c.loop-market.invariant
