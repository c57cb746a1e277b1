-- The rows of the order register.
use Rattle.std.specs.Prelude.{ℕ, ◌+◌, Bool, ◌&&◌, is_some, ◌==◌, nat_lt, Some, None, Option}
use Rattle.records.specs.declared.codes.Ending.{Ending}
use Rattle.records.specs.declared.codes.Ending.TheVariants.{Filled, Withdrawn, Removed}
use Rattle.records.specs.declared.rows.OrderRow.{OrderRow}
use Rattle.records.specs.Codes.{direction_of, type_of}

-- something remains to be filled
abbrev pub active : OrderRow → Bool
active row = nat_lt 0 row.remaining

-- filled, remaining and withdrawn make up the size
abbrev pub adds_up : OrderRow → Bool
adds_up row = row.filled + row.remaining + row.withdrawn == row.size

-- An order has not ended while something remains; it is filled where nothing remains and nothing was withdrawn;
-- it was withdrawn or removed where nothing remains and something was withdrawn.
abbrev pub ending_agrees : Option Ending → ℕ → ℕ → Bool
ending_agrees None remaining withdrawn = nat_lt 0 remaining && withdrawn == 0
ending_agrees (Some Filled) remaining withdrawn = remaining == 0 && withdrawn == 0
ending_agrees (Some Withdrawn) remaining withdrawn = remaining == 0 && nat_lt 0 withdrawn
ending_agrees (Some Removed) remaining withdrawn = remaining == 0 && nat_lt 0 withdrawn

-- the check of a row of which an order record is made
abbrev pub sound : OrderRow → Bool
sound row =
    is_some (direction_of row.ticket.direction) &&
    (is_some (type_of row.ticket.order_type) &&
    (row.ticket.size == row.size &&
    (adds_up row && ending_agrees row.ending row.remaining row.withdrawn)))
