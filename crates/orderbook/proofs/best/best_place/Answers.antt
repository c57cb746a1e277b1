use Rattle.std.proofs.Common.{◌≡◌, ◌<◌, length, sym, refl, ap, ◌∙◌, arith, rules}
use Rattle.orderbook.specs.Best.{with_next, best_below}
use Rattle.orderbook.proofs.Chosen.{is_below, best_more}
use Rattle.orderbook.proofs.best.best_place.Goals as goal
use Rattle.orderbook.proofs.best.best_place.Goals.{then-is_candidate+in-None, then-is_candidate+in-Some+then-is_better, then-is_candidate+in-Some+else-is_better, else-is_candidate}

pub loop-i-init : goal.loop-i-init
unfolding best_below
loop-i-init c = refl

pub bounds-rows-k : goal.bounds-rows-k
bounds-rows-k c =
    omega (arith, is_below c.args.accounts.now c.args.me.now c.args.rows.now c.loop-i.i c.in-Some.k (sym c.loop-i.invariant ∙ c.in-Some.is))

pub offset_bounds-rows-k : goal.offset_bounds-rows-k
offset_bounds-rows-k c =
    let h : c.in-Some.k < length c.args.rows.now = bounds-rows-k c in search rules

pub loop-i-preserved : goal.loop-i-preserved
loop-i-preserved c =
    let next = with_next c.args.accounts.now c.args.me.now c.args.rows.now c.loop-i.i in
    let m = best_more c.args.accounts.now c.args.me.now c.args.rows.now c.loop-i.i in
    let i : next c.loop-i.best ≡ next (best_below c.args.accounts.now c.args.me.now c.args.rows.now c.loop-i.i) = ap next c.loop-i.invariant in
    elim c.if-is_candidate.branch [
      | then-is_candidate+in-None w ↦ grind arith
      | then-is_candidate+in-Some+then-is_better w ↦ grind arith
      | then-is_candidate+in-Some+else-is_better w ↦ grind arith
      | else-is_candidate w ↦ grind arith
    ]
