use Rattle.std.proofs.Common.{◌≡◌}
use Rattle.orderbook.specs.Best.{best_below}
use Rattle.orderbook.proofs.best.best_place.Given as goal

abbrev pub invariant-loop-i : goal.invariant-loop-i
invariant-loop-i l = l.best ≡ best_below l.accounts l.me l.rows l.i
