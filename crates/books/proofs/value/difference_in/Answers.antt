use Rattle.std.proofs.Common.{arith}
use Rattle.std.proofs.lemmas.Int.{ints}
use Rattle.books.proofs.Values.{settlement_small}
use Rattle.books.proofs.value.difference_in.Goals as goal

pub returns-clause-bound : goal.returns-clause-bound
returns-clause-bound c = λ h. omega (arith, ints, settlement_small c.args.contract.now)
