use Rattle.std.proofs.Common.{List, Option, ap, ◌∙◌, subst}
use Rattle.records.specs.declared.contract.Contract.{Contract}
use Rattle.records.specs.declared.instrument.Instrument.{Instrument}
use Rattle.market.specs.Calls.{enter_instrument, listable}
use Rattle.market.specs.Views.{view, HasOutcome}
use Rattle.market.proofs.Grounded.{list_instrument_by_grounds}
use Rattle.market.proofs.market.Market.list_instrument.Goals as goal

pub returns : goal.returns
returns g c =
    let s = c.args.self.now in
    let outcome =
    subst (λ (o : Option Instrument). HasOutcome s c.enter_instrument.new.self c.enter_instrument.result (enter_instrument o (view s)))
    (c.listable-had.ensures ∙ ap (λ (l : List Contract). listable (g.R.InstrumentRule.meaning c.args.rule.now) l c.args.terms) c.listed.ensures)
    c.enter_instrument.ensures.outcome in
    record { outcome = outcome; grounds = list_instrument_by_grounds (g.R.InstrumentRule.meaning c.args.rule.now) c.args.terms (view s) c.enter_instrument.result outcome.answer; unchanged = c.enter_instrument.ensures.unchanged }
