use Rattle.std.proofs.Common.{◌≡◌}
use Rattle.sheet.specs.Names.{after}
use Rattle.sheet.specs.Words.{words}
use Rattle.sheet.proofs.names.after_title.Given as goal

-- what is left of the title and of the line has the answer
abbrev pub invariant-loop-part : goal.invariant-loop-part
invariant-loop-part l = after (words l.part-iterator.0.now) (words l.left.0.now) ≡ after (words l.title) (words l.line)
