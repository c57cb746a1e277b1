use Rattle.market.specs.Views.{view}
use Rattle.market.proofs.Grounded.{suspend_by_grounds}
use Rattle.market.proofs.market.Market.suspend.Goals as goal

pub returns : goal.returns
returns g c =
    let told = c.turn_to.ensures in
    record { outcome = told.outcome; grounds = suspend_by_grounds (view c.args.self.now) c.turn_to.result told.outcome.answer; unchanged = told.unchanged }
