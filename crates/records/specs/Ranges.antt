-- The range of every keyed field.
use Rattle.std.specs.Prelude.{ℕ, Bool, true, ◌&&◌, ℤ, pos, neg_ℤ, is_some, Some, None, Option, int_le, nat_le}
use Rattle.records.specs.declared.terms.ContractTerms.{ContractTerms}
use Rattle.records.specs.declared.terms.InstrumentTerms.{InstrumentTerms}
use Rattle.records.specs.declared.terms.AccountTerms.{AccountTerms}
use Rattle.records.specs.declared.terms.Ticket.{Ticket}
use Rattle.records.specs.Codes.{direction_of, type_of}

-- low ≤ n ≤ high
abbrev pub between : ℕ → ℕ → ℕ → Bool
between low high n = nat_le low n && nat_le n high

-- absent, or low ≤ n ≤ high
abbrev pub absent_or_between : ℕ → ℕ → Option ℕ → Bool
absent_or_between low high None = true
absent_or_between low high (Some n) = between low high n

-- at most so far from nought, on either side
abbrev pub within : ℕ → ℤ → Bool
within most p = int_le (neg_ℤ (pos most)) p && int_le p (pos most)

-- a price, limit or bound
abbrev pub price_in_range : ℤ → Bool
price_in_range p = within 1000000 p

-- both in range, and lower bound ≤ upper bound
abbrev pub bounds_in_order : ℤ → ℤ → Bool
bounds_in_order lower upper = price_in_range lower && (price_in_range upper && int_le lower upper)

-- all three in range, and lower limit ≤ settlement price ≤ upper limit
abbrev pub prices_in_order : ℤ → ℤ → ℤ → Bool
prices_in_order lower settlement upper =
    bounds_in_order lower upper && (price_in_range settlement && (int_le lower settlement && int_le settlement upper))

abbrev pub contract_in_range : ContractTerms → Bool
contract_in_range t =
    between 1 65535 t.underlying &&
    (between 1 100000 t.last_day &&
    (prices_in_order t.lower t.settlement t.upper &&
    (between 1 1000 t.w && between 1 1000 t.r)))

abbrev pub instrument_in_range : InstrumentTerms → Bool
instrument_in_range t =
    between 1 255 t.kind &&
    (between 1 32 t.first &&
    (absent_or_between 1 32 t.second && bounds_in_order t.lower t.upper))

abbrev pub account_in_range : AccountTerms → Bool
account_in_range t = between 1 65535 t.participant && between 1 65535 t.taxpayer

-- each field of a ticket, taken alone
abbrev pub ticket_fields_in_range : Ticket → Bool
ticket_fields_in_range t =
    is_some (direction_of t.direction) &&
    (is_some (type_of t.order_type) &&
    (between 1 10000 t.size &&
    (absent_or_between 1 65535 t.addressee &&
    (absent_or_between 1 65535 t.reference && absent_or_between 1 100000 t.expiry))))
