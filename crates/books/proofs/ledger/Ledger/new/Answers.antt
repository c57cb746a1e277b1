use Rattle.books.proofs.Beginning.{none_agrees}
use Rattle.books.proofs.ledger.Ledger.new.Goals as goal

pub returns-clause-agrees : goal.returns-clause-agrees
returns-clause-agrees c = λ r. rw c.new.ensures (none_agrees r)
