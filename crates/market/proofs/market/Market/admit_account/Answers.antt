use Rattle.std.proofs.Common.{Option, subst}
use Rattle.records.specs.declared.account.Account.{Account}
use Rattle.market.specs.Calls.{enter_account}
use Rattle.market.specs.Views.{view, HasOutcome}
use Rattle.market.proofs.Grounded.{admit_account_by_grounds}
use Rattle.market.proofs.Made.{account_made}
use Rattle.market.proofs.market.Market.admit_account.Goals as goal

pub returns : goal.returns
returns g c =
    let s = c.args.self.now in
    let outcome =
    subst (λ (o : Option Account). HasOutcome s c.enter_account.new.self c.enter_account.result (enter_account o (view s)))
    ((account_made c.args.terms c.new.result c.new.ensures.when c.new.ensures.made))
    c.enter_account.ensures.outcome in
    record { outcome = outcome; grounds = admit_account_by_grounds c.args.terms (view s) c.enter_account.result outcome.answer; unchanged = c.enter_account.ensures.unchanged }
