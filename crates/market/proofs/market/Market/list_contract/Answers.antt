use Rattle.std.proofs.Common.{Option, subst}
use Rattle.records.specs.declared.contract.Contract.{Contract}
use Rattle.market.specs.Calls.{enter_contract}
use Rattle.market.specs.Views.{view, HasOutcome}
use Rattle.market.proofs.Grounded.{list_contract_by_grounds}
use Rattle.market.proofs.Made.{contract_made}
use Rattle.market.proofs.market.Market.list_contract.Goals as goal

pub returns : goal.returns
returns g c =
    let s = c.args.self.now in
    let outcome =
    subst (λ (o : Option Contract). HasOutcome s c.enter_contract.new.self c.enter_contract.result (enter_contract o (view s)))
    ((contract_made c.args.terms c.new.result c.new.ensures.when c.new.ensures.made))
    c.enter_contract.ensures.outcome in
    record { outcome = outcome; grounds = list_contract_by_grounds c.args.terms (view s) c.enter_contract.result outcome.answer; unchanged = c.enter_contract.ensures.unchanged }
