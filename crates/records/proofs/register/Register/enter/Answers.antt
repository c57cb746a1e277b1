use Rattle.std.proofs.Common.{Some, ap, arith}
use Rattle.records.proofs.Numbered.{none_unused, entered_number, entered_listed, entered_unused}
use Rattle.records.proofs.register.Register.enter.Goals as goal

pub returns-clause-entered : goal.returns-clause-entered
returns-clause-entered g c =
    let self = c.args.self.now in
    let place = c.in_ok-at.ensures in
    λ _. record {
      number = ap Some (entered_number self.places.now self.count self.fits c.in_ok-at.at c.number_of-number.result place.0 place.1 c.number_of-number.ensures c.args.new c.write_at.new.places c.write_at.ensures);
      more = entered_listed self.places.now self.count self.fits c.in_ok-at.at c.number_of-number.result place.0 place.1 c.number_of-number.ensures c.args.new c.write_at.new.places c.write_at.ensures;
      rest = entered_unused self.places.now self.count self.fits c.in_ok-at.at c.number_of-number.result place.0 place.1 c.number_of-number.ensures c.args.new c.write_at.new.places c.write_at.ensures;
    }

pub returns-clause-full : goal.returns-clause-full
returns-clause-full g c =
    let self = c.args.self.now in
    let place = c.in_ok-at.ensures in
    λ e. absurd (none_unused self.places.now self.count self.fits e (omega (arith, place.0, place.1)))
