use Rattle.std.proofs.Common.{◌≡◌, length}
use Rattle.market.specs.Views.{view}
use Rattle.desk.specs.Days.{shown, followed_by, trading, begun_by, lines}
use Rattle.desk.proofs.day.trade.Given as goal

abbrev pub invariant-loop-market : goal.invariant-loop-market
invariant-loop-market g l =
    followed_by (shown l.printed) (trading (view l.market) l.unread.number (lines l.unread.text.now))
    ≡ followed_by (shown l.fn.printed) (trading (begun_by l.fn.ready.host) l.fn.ready.unread.number (lines l.fn.ready.unread.text.now))

abbrev pub decreases-loop-market : goal.decreases-loop-market
decreases-loop-market g l = length l.unread.text.now
