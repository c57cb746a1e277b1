use Rattle.sheet.proofs.Said.{entries_are_said}
use Rattle.sheet.proofs.laws.entries_are_said.Goals as goal

pub returns : goal.returns
returns c = entries_are_said
