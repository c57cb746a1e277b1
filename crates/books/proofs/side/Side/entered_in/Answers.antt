use Rattle.std.proofs.Common.{pos, arith}
use Rattle.std.proofs.lemmas.Int.{ints}
use Rattle.books.proofs.Holdings.{numbered_or, same_account, set_at}
use Rattle.books.proofs.side.Side.entered_in.Goals as goal

pub returns : goal.returns
returns c =
    let e = numbered_or c.args.account.positions c.args.self.contract (pos 0) c.args.self.listed.0 in
    same_account _ _ _ _ _ _ _ (set_at _ _ _ _ c.args.self.listed.0 (omega (arith, ints, e))) (omega (arith, ints))
