use Rattle.std.proofs.Common.{◌≡◌, length, ap, arith, rules}
use Rattle.std.proofs.lemmas.List.{length-drop}
use Rattle.std.specs.List.{position_or_len}
use Rattle.sheet.specs.Bytes.{line_feed, from_first}
use Rattle.sheet.proofs.lines.next_line.Goals as goal

pub returns-clause-shorter : goal.returns-clause-shorter
returns-clause-shorter c =
    λ some.
    let behind : c.cut.result.1.now ≡ from_first line_feed c.args.text.now = c.cut.ensures.behind line_feed (λ b r k. search rules) in
    omega (arith, ap length c.without_first.ensures, length-drop 1 c.cut.result.1.now, ap length behind, length-drop (position_or_len line_feed c.args.text.now) c.args.text.now)
