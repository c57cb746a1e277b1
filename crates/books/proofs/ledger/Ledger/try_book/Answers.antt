use Rattle.std.proofs.Common.{w64}
use Rattle.std.proofs.lemmas.Int.{to_z-of_z}
use Rattle.books.proofs.ledger.Ledger.try_book.Goals as goal

pub returns-clause-agrees : goal.returns-clause-agrees
returns-clause-agrees c = λ _. rw (to_z-of_z w64 c.args.difference c.ranges.difference) at c.book.ensures.agrees
