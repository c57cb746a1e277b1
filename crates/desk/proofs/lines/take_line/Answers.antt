use Rattle.market.proofs.Kept.{keeps_itself}
use Rattle.desk.proofs.lines.take_line.Goals as goal

pub returns-in-Some-Question-clause-orders : goal.returns-in-Some-Question-clause-orders
returns-in-Some-Question-clause-orders g c = keeps_itself c.args.market.now.orders

pub returns-in-Some-Question-clause-trades : goal.returns-in-Some-Question-clause-trades
returns-in-Some-Question-clause-trades g c = keeps_itself c.args.market.now.trades
