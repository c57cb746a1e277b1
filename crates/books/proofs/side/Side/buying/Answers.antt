use Rattle.std.proofs.Common.{◌≡◌, pos, arith, w64, to_z, of_z}
use Rattle.std.proofs.lemmas.Int.{ints}
use Rattle.books.proofs.Within.{mul_within}
use Rattle.books.proofs.side.Side.buying.Goals as goal

pub invariant_of-result : goal.invariant_of-result
invariant_of-result c =
    let lots : to_z w64 (of_z w64 c.from-lots.result) ≡ pos c.args.trade.now.quantity = omega (arith, ints) in
    let difference : to_z w64 (of_z w64 c.args.difference) ≡ c.args.difference = omega (arith, ints) in
    let small = mul_within (pos c.args.trade.now.quantity) c.args.difference 10000 3000000000 c.requires.small.0 c.requires.small.1 in
    record { listed = c.requires.contract; few = omega (arith, ints); little = rw (lots, difference) (omega (arith, ints)) }

pub returns-clause-gain : goal.returns-clause-gain
returns-clause-gain c =
    let lots : to_z w64 (of_z w64 c.from-lots.result) ≡ pos c.args.trade.now.quantity = omega (arith, ints) in
    let difference : to_z w64 (of_z w64 c.args.difference) ≡ c.args.difference = omega (arith, ints) in
    let small = mul_within (pos c.args.trade.now.quantity) c.args.difference 10000 3000000000 c.requires.small.0 c.requires.small.1 in
    rw (lots, difference) (omega (arith, ints))
