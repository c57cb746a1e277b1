use Rattle.std.proofs.Common.{◌≤◌, length, arith}
use Rattle.tables.proofs.Placed.{place, put, unknown}
use Rattle.tables.specs.Tables.{entered}
use Rattle.tables.proofs.table.Table.replace.Goals as goal

pub returns-in_err-old-clause-entered : goal.returns-in_err-old-clause-entered
returns-in_err-old-clause-entered g c = unknown (entered c.args.self.now) c.args.number c.args.new c.in_err-old.ensures

pub returns-clause-entered : goal.returns-clause-entered
returns-clause-entered g c =
    let few : c.args.self.now.count ≤ length c.args.self.now.places = omega (arith, c.args.self.now.few, c.args.self.now.long) in
    put c.args.self.now.places c.args.self.now.count c.args.number few c.in_ok-old.old c.in_ok-old.ensures c.args.new
