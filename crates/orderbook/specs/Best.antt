-- The best opposite order by reading the rows through.
use Rattle.std.specs.Prelude.{ℕ, zero, suc, Bool, false, cond, ◌&&◌, List, ℤ, pos, Some, None, Option, int_lt, nat_lt, slice_index_or}
use Rattle.records.specs.Codes.{direction_of}
use Rattle.records.specs.declared.account.Account.{Account}
use Rattle.records.specs.declared.codes.Direction.{Direction}
use Rattle.records.specs.declared.codes.Direction.TheVariants.{Buy, Sell}
use Rattle.records.specs.declared.rows.OrderRow.{OrderRow}
use Rattle.orderbook.specs.Tests.{opposite}

-- what is read where there is no row
abbrev pub blank : OrderRow
blank =
    record {
      ticket = record { account = 0; instrument = 0; direction = 0; order_type = 0; price = pos 0; size = 0; addressee = None; reference = None; expiry = None };
      size = 0;
      filled = 0;
      remaining = 0;
      withdrawn = 0;
      ending = None;
    }

-- a price is better than another in this direction
abbrev pub better_by : Option Direction → ℤ → ℤ → Bool
better_by None p q = false
better_by (Some Buy) p q = int_lt p q
better_by (Some Sell) p q = int_lt q p

abbrev pub better : OrderRow → OrderRow → OrderRow → Bool
better me x y = better_by (direction_of me.ticket.direction) x.ticket.price y.ticket.price

-- an active order, opposite to an order
abbrev pub candidate : List Account → OrderRow → OrderRow → Bool
candidate accounts me row = nat_lt 0 row.remaining && opposite accounts me row

-- the best of the rows up to n, given the best of those before n
abbrev pub with_next : List Account → OrderRow → List OrderRow → ℕ → Option ℕ → Option ℕ
with_next accounts me rows n None = cond (candidate accounts me (slice_index_or rows n blank)) (Some n) None
with_next accounts me rows n (Some k) =
    cond (candidate accounts me (slice_index_or rows n blank)) (cond (better me (slice_index_or rows n blank) (slice_index_or rows k blank)) (Some n) (Some k)) (Some k)

-- the place of the best among the first n rows
unfoldable pub best_below : List Account → OrderRow → List OrderRow → ℕ → Option ℕ
best_below accounts me rows zero = None
best_below accounts me rows (suc n) = with_next accounts me rows n (best_below accounts me rows n)
