use Rattle.sheet.proofs.Known.{names_are_known}
use Rattle.sheet.proofs.laws.names_are_known.Goals as goal

pub returns : goal.returns
returns c = names_are_known
