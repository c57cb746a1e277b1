use Rattle.std.proofs.Common.{arith}
use Rattle.std.proofs.lemmas.Int.{ints, to_z-of_z}
use Rattle.rulebook.proofs.asking.trade_price.Goals as goal

-- each answer is by the law on leg prices, at this question
pub overflow_cast-result : goal.overflow_cast-result
overflow_cast-result g c =
    let law = (g.met.R.InstrumentRule.lawful c.args.rule.now).priced c.args.instrument.now c.args.leg c.args.price c.args.contracts.now c.requires.leg c.requires.price in
    grind (arith, ints, to_z-of_z)

pub returns : goal.returns
returns g c =
    let law = (g.met.R.InstrumentRule.lawful c.args.rule.now).priced c.args.instrument.now c.args.leg c.args.price c.args.contracts.now c.requires.leg c.requires.price in
    record { value = grind (arith, ints, to_z-of_z); bound = grind (arith, ints, to_z-of_z) }
