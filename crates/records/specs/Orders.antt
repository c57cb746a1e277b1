-- Order records and the rows that they are made of.
use Rattle.std.specs.Prelude.{◌≡◌, Ok, Err, Result, is_ok, ◌≢◌}
use Rattle.records.specs.declared.order.Order.{Order}
use Rattle.records.specs.declared.order.UnsoundRow.{UnsoundRow}
use Rattle.records.specs.declared.rows.OrderRow.{OrderRow}
use Rattle.records.specs.Rows.{sound}

-- the row with the order's fields
abbrev pub row_of : Order → OrderRow
row_of o =
    record { ticket = o.ticket; size = o.size; filled = o.filled; remaining = o.remaining; withdrawn = o.withdrawn; ending = o.ending }

-- What making a record of a row answers: the order record with its fields, or an error where no order record has them.
abbrev pub MadeFrom : OrderRow → Result Order UnsoundRow → Type 0
MadeFrom row (Ok o) = row_of o ≡ row
MadeFrom row (Err _) = (o : Order) → row_of o ≢ row

-- an order record is made of a row just where the row passes the check
pub record Checked (row : OrderRow) (answer : Result Order UnsoundRow) : Type 0 where
  pub when : is_ok answer ≡ sound row
  pub made : MadeFrom row answer
