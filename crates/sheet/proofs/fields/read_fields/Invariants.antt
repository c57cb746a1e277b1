use Rattle.std.proofs.Common.{◌≡◌}
use Rattle.sheet.specs.Fields.{with_fields}
use Rattle.sheet.specs.Values.{no_values}
use Rattle.sheet.specs.Words.{words}
use Rattle.sheet.proofs.fields.read_fields.Given as goal

-- the words left, behind the values so far, have the answer
abbrev pub invariant-loop-word : goal.invariant-loop-word
invariant-loop-word l = with_fields l.keys l.values (words l.word-iterator.0.now) ≡ with_fields l.keys no_values (words l.line)
