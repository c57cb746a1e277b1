use Rattle.std.proofs.Common.{◌<◌, length, sym, rules}
use Rattle.orderbook.proofs.Chosen.{is_below}
use Rattle.orderbook.proofs.Meaning.{found, not_found}
use Rattle.orderbook.proofs.best.best_opposite.Goals as goal

pub overflow_add-result : goal.overflow_add-result
overflow_add-result c =
    let within : c.in_ok-at.at < length c.args.rows.now =
    is_below c.args.accounts.now c.args.me.now c.args.rows.now (length c.args.rows.now) c.in_ok-at.at (sym c.in_ok-at.ensures) in
    search rules

pub returns : goal.returns
returns c = found c.args.accounts.now c.args.me.now c.args.rows.now c.in_ok-at.at (sym c.in_ok-at.ensures)

pub returns-in_err-at : goal.returns-in_err-at
returns-in_err-at c =
    let none = not_found c.args.accounts.now c.args.me.now c.args.rows.now (sym c.in_err-at.ensures) in
    rw c.from_residual.ensures none
