-- The same, as tests.
use Rattle.std.specs.Prelude.{ℕ, Bool, true, false, ◌&&◌, List, ℤ, Some, None, Option, ◌==◌, int_le}
use Rattle.records.specs.Codes.{direction_of}
use Rattle.records.specs.declared.account.Account.{Account}
use Rattle.records.specs.declared.codes.Direction.{Direction}
use Rattle.records.specs.declared.codes.Direction.TheVariants.{Buy, Sell}
use Rattle.records.specs.declared.rows.OrderRow.{OrderRow}
use Rattle.orderbook.specs.Opposites.{participant_of}

-- one buys and the other sells, at prices that meet
abbrev pub sides_meet : Option Direction → ℤ → Option Direction → ℤ → Bool
sides_meet None p d q = false
sides_meet (Some Buy) p None q = false
sides_meet (Some Buy) p (Some Buy) q = false
sides_meet (Some Buy) p (Some Sell) q = int_le q p
sides_meet (Some Sell) p None q = false
sides_meet (Some Sell) p (Some Buy) q = int_le p q
sides_meet (Some Sell) p (Some Sell) q = false

-- both there, and equal
abbrev pub both_are : Option ℕ → Option ℕ → Bool
both_are None n = false
both_are (Some m) None = false
both_are (Some m) (Some n) = m == n

-- both absent, or equal
abbrev pub alike : Option ℕ → Option ℕ → Bool
alike None None = true
alike None (Some n) = false
alike (Some m) None = false
alike (Some m) (Some n) = m == n

-- by the two addressees and the participants of both accounts
abbrev pub negotiated : Option ℕ → Option ℕ → Option ℕ → Option ℕ → Option ℕ → Option ℕ → Bool
negotiated None None p q r s = true
negotiated None (Some y) p q r s = false
negotiated (Some x) None p q r s = false
negotiated (Some x) (Some y) p q r s = both_are (Some x) q && (both_are (Some y) p && alike r s)

abbrev pub terms_meet : List Account → OrderRow → OrderRow → Bool
terms_meet accounts a b =
    negotiated a.ticket.addressee b.ticket.addressee (participant_of accounts a.ticket.account) (participant_of accounts b.ticket.account)
    a.ticket.reference b.ticket.reference

abbrev pub opposite_test : List Account → OrderRow → OrderRow → Bool
opposite_test accounts a b =
    (a.ticket.instrument == b.ticket.instrument)
    && (sides_meet (direction_of a.ticket.direction) a.ticket.price (direction_of b.ticket.direction) b.ticket.price
    && terms_meet accounts a b)

-- two orders are opposite; upper layers go by what it decides
unfoldable pub opposite : List Account → OrderRow → OrderRow → Bool
opposite accounts a b = opposite_test accounts a b
