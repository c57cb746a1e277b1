use Rattle.std.proofs.Common.{◌≡◌, true, sym, ◌∙◌}
use Rattle.records.specs.Registers.{listed}
use Rattle.records.specs.Rows.{sound}
use Rattle.market.specs.Capacity.{blank}
use Rattle.market.proofs.Rows.{at_number}
use Rattle.market.proofs.market.Market.order.Goals as goal

pub unwrap-requires : goal.unwrap-requires
unwrap-requires c =
    let s = c.args.self.now in
    c.try_from.ensures.when
    ∙ at_number (λ row. sound row ≡ true) blank c.in_ok-row.row (listed s.orders) c.args.number s.rows_sound
    (sym c.get.ensures ∙ c.in_ok-row.ensures.ok_part)
