use Rattle.std.proofs.Common.{rules}
use Rattle.books.specs.Accounts.{revalued}
use Rattle.books.specs.Ledgers.{accounts_of}
use Rattle.books.proofs.Revaluing.{mapped, revalued_agrees, revalued_balanced}
use Rattle.books.proofs.ledger.Ledger.revalue.Goals as goal

pub returns-clause-revalued : goal.returns-clause-revalued
returns-clause-revalued c =
    mapped _ (revalued c.args.contract c.args.change) (accounts_of c.args.self.now) _ c.change_each.ensures (λ x y r. search rules)

pub returns-clause-agrees : goal.returns-clause-agrees
returns-clause-agrees c = λ r ts price e g.
    let is = returns-clause-revalued c in
    rw (is, ← e) (revalued_agrees r c.args.contract price (accounts_of c.args.self.now) ts g)

pub returns-clause-balanced : goal.returns-clause-balanced
returns-clause-balanced c = λ h. rw (returns-clause-revalued c) (revalued_balanced c.args.contract c.args.change (accounts_of c.args.self.now) h)
