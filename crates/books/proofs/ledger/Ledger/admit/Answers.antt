use Rattle.std.proofs.Common.{length, sym, ap, subst, ⊎_elim}
use Rattle.std.proofs.lemmas.Bool.{cases_lt}
use Rattle.tables.specs.Tables.{entered}
use Rattle.books.specs.Ledgers.{accounts_of, NothingDue}
use Rattle.books.proofs.Beginning.{nothing_due}
use Rattle.books.proofs.ledger.Ledger.admit.Goals as goal

pub returns-clause-agrees : goal.returns-clause-agrees
returns-clause-agrees c = λ empty.
    ⊎_elim
    (λ room. subst (NothingDue (accounts_of c.args.self.now)) (sym (c.enter.ensures.more room).1) (nothing_due c.args.account empty (accounts_of c.args.self.now)))
    (λ full. subst (NothingDue (accounts_of c.args.self.now)) (sym (ap entered (c.enter.ensures.full full).1)) (λ r ts g. g, λ g. g))
    (cases_lt (length (accounts_of c.args.self.now)) 64)
