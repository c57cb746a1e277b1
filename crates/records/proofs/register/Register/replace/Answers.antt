use Rattle.std.proofs.Common.{◌∙◌}
use Rattle.records.specs.Registers.{listed}
use Rattle.records.proofs.Numbered.{numbered_unknown, replaced_unknown, unlisted, listed_known, replaced_listed}
use Rattle.records.proofs.register.Register.replace.Goals as goal

pub returns-in_err-at-clause-old : goal.returns-in_err-at-clause-old
returns-in_err-at-clause-old g c =
    let self = c.args.self.now in
    c.from_residual.ensures ∙ numbered_unknown (listed self) c.args.number (unlisted self.places.now self.count self.fits c.args.number c.in_err-at.ensures)

pub returns-in_err-at-clause-listed : goal.returns-in_err-at-clause-listed
returns-in_err-at-clause-listed g c =
    let self = c.args.self.now in
    replaced_unknown (listed self) c.args.number c.args.new (unlisted self.places.now self.count self.fits c.args.number c.in_err-at.ensures)

pub returns-clause-listed : goal.returns-clause-listed
returns-clause-listed g c =
    let self = c.args.self.now in
    let place = c.in_ok-at.ensures in
    replaced_listed self.places.now self.count self.fits c.in_ok-at.at c.args.number place.0 place.1 c.args.new c.replace_at.new.places c.replace_at.ensures.after
