use Rattle.std.proofs.Common.{◌≡◌, length}
use Rattle.desk.specs.Days.{shown, followed_by, lines, day, sheet_printed}
use Rattle.desk.proofs.day.set_up.Given as goal

abbrev pub invariant-loop-unread : goal.invariant-loop-unread
invariant-loop-unread l =
    followed_by (shown l.printed) (day l.host l.unread.number (lines l.unread.text.now)) ≡ followed_by (shown l.fn.printed) (sheet_printed l.fn.text)

abbrev pub decreases-loop-unread : goal.decreases-loop-unread
decreases-loop-unread l = length l.unread.text.now
