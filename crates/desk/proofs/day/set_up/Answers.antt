use Rattle.std.proofs.Common.{◌<◌, length, Some, None, Ok, Err, ap, ◌∙◌, rules}
use Rattle.sheet.specs.Faults.{fault_told}
use Rattle.desk.specs.Days.{shown, followed_by, fault_printed, lines, day}
use Rattle.desk.proofs.Turns.{followed_assoc, day_turn, day_end}
use Rattle.desk.proofs.day.set_up.Goals as goal
use Rattle.desk.proofs.day.set_up.Goals.{else-loop-unread-test, then-loop-unread-test+in-Ok-None}

pub loop-unread-preserved-in-Ok-Some : goal.loop-unread-preserved-in-Ok-Some
loop-unread-preserved-in-Ok-Some c =
    let at = c.loop-unread.unread in
    let some : 0 < length at.text.now = search rules in
    let next = c.next_line.ensures in
    day_turn (shown c.loop-unread.printed) c.loop-unread.host at.number c.next_line.result.1.number at.text.now c.next_line.result.0.now c.next_line.result.1.text.now (Ok (Some c.in-Ok-Some.next)) some next.line next.number next.rest (search rules)
    ∙ c.loop-unread.invariant

pub loop-unread-preserved : goal.loop-unread-preserved
loop-unread-preserved c =
    let at = c.loop-unread.unread in
    let some : 0 < length at.text.now = search rules in
    let next = c.next_line.ensures in
    let printed = shown c.loop-unread.printed in
    let fault = fault_told c.in-Err.fault in
    let left = day c.loop-unread.host c.next_line.result.1.number (lines c.next_line.result.1.text.now) in
    ap (λ p. followed_by p left) c.in_ok-add_fault-in-Err.ensures
    ∙ followed_assoc printed (fault_printed at.number fault) left
    ∙ day_turn printed c.loop-unread.host at.number c.next_line.result.1.number at.text.now c.next_line.result.0.now c.next_line.result.1.text.now (Err fault) some next.line next.number next.rest (search rules)
    ∙ c.loop-unread.invariant

pub returns : goal.returns
returns c =
    let at = c.loop-unread.unread in
    let printed = shown c.loop-unread.printed in
    let h = c.loop-unread.host in
    elim c.loop-unread-test.branch [
      | else-loop-unread-test w ↦ day_end printed h at.number at.text.now (search rules) ∙ c.loop-unread.invariant
      | then-loop-unread-test+in-Ok-None w ↦
          (let some : 0 < length at.text.now = search rules in
          let next = w.next_line.ensures in
          day_turn printed h at.number w.next_line.result.1.number at.text.now w.next_line.result.0.now w.next_line.result.1.text.now (Ok None) some next.line next.number next.rest (search rules)
          ∙ c.loop-unread.invariant)
    ]
