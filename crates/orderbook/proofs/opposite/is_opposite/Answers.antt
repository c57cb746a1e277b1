use Rattle.std.proofs.lemmas.Bool.Decides.{Decides-at}
use Rattle.orderbook.specs.Tests.{opposite}
use Rattle.orderbook.proofs.Deciding.{decides_test}
use Rattle.orderbook.proofs.opposite.is_opposite.Goals as goal

pub returns : goal.returns
unfolding opposite
returns c =
    let e = c.test_opposite.ensures in
    record { value = e; decides = Decides-at c.test_opposite.result _ e (decides_test c.args.accounts.now c.args.a.now c.args.b.now) }
