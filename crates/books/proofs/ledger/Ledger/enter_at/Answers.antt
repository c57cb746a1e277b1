use Rattle.std.proofs.Common.{ap, ◌∙◌}
use Rattle.records.specs.Registers.{replaced}
use Rattle.books.specs.Accounts.{entered, enter_at}
use Rattle.books.specs.Ledgers.{accounts_of}
use Rattle.books.proofs.Holdings.{found}
use Rattle.tables.proofs.Placed.{unknown}
use Rattle.books.proofs.ledger.Ledger.enter_at.Goals as goal

pub returns-in-Some : goal.returns-in-Some
unfolding enter_at
returns-in-Some c =
    c.replace.ensures.entered
    ∙ ap (replaced (accounts_of c.args.self.now) c.args.number)
    (c.entered_in.ensures ∙ ap (entered c.args.side.contract c.args.side.lots c.args.side.gain) (found (accounts_of c.args.self.now) c.args.number c.in-Some.account c.in-Some.ensures))

pub returns-in_default : goal.returns-in_default
unfolding enter_at
returns-in_default c = unknown (accounts_of c.args.self.now) c.args.number _ c.in_default.ensures
