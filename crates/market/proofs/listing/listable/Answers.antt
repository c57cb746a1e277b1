use Rattle.std.proofs.Common.{◌≡◌, Some, None, Option, sym, ap, ◌∙◌}
use Rattle.std.proofs.lemmas.Bool.{cond-true, cond-false}
use Rattle.records.specs.declared.instrument.Instrument.{Instrument}
use Rattle.market.specs.Calls.{may_be_listed, only_if}
use Rattle.market.specs.Making.{instrument_of}
use Rattle.market.proofs.Made.{instrument_made}
use Rattle.market.proofs.listing.listable.Goals as goal

pub returns-then-not-may_be_listed : goal.returns-then-not-may_be_listed
returns-then-not-may_be_listed g c =
    let test = may_be_listed (g.R.InstrumentRule.meaning c.args.rule.now) c.args.contracts.now in
    let i = c.in_ok-instrument.instrument in
    let is : instrument_of c.args.terms ≡ Some i =
    sym (instrument_made c.args.terms c.new.result c.new.ensures.when c.new.ensures.made) ∙ c.in_ok-instrument.was in
    sym (ap (λ (o : Option Instrument). only_if test o) is ∙ cond-false (test i) (Some i) None (sym c.if-not-may_be_listed.ensures))

pub returns : goal.returns
returns g c =
    let test = may_be_listed (g.R.InstrumentRule.meaning c.args.rule.now) c.args.contracts.now in
    let i = c.in_ok-instrument.instrument in
    let is : instrument_of c.args.terms ≡ Some i =
    sym (instrument_made c.args.terms c.new.result c.new.ensures.when c.new.ensures.made) ∙ c.in_ok-instrument.was in
    sym (ap (λ (o : Option Instrument). only_if test o) is ∙ cond-true (test i) (Some i) None (sym c.if-not-may_be_listed.ensures))
