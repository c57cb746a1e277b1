-- The text that is printed of each answer.
use Rattle.std.specs.Prelude.{ℕ, List, [], ◌++◌, Some, None, codes, decimal, Option}
use Rattle.std.specs.Fmt.{signed_decimal}
use Rattle.market.specs.Refusals.{ground, words}
use Rattle.market.specs.declared.overview.Overview.{Overview}
use Rattle.market.specs.declared.refusal.Refusal.{Refusal}
use Rattle.market.specs.declared.refusal.Refusal.TheVariants.{WrongPhase, Unknown, Inadmissible, PastLastDay, OutOfBounds, Full, OverLimit, OwnOrder, AnotherAccount, NotActive}
use Rattle.records.specs.declared.codes.Ending.{Ending}
use Rattle.records.specs.declared.codes.Ending.TheVariants.{Filled, Withdrawn, Removed}
use Rattle.records.specs.declared.codes.Phase.{Phase}
use Rattle.records.specs.declared.codes.Phase.TheVariants.{Suspended, Trading}
use Rattle.records.specs.declared.rows.OrderRow.{OrderRow}
use Rattle.records.specs.declared.rows.Trade.{Trade}
use Rattle.records.specs.declared.terms.AccountTerms.{AccountTerms}
use Rattle.records.specs.declared.terms.ContractTerms.{ContractTerms}
use Rattle.records.specs.declared.terms.InstrumentTerms.{InstrumentTerms}
use Rattle.records.specs.declared.terms.Ticket.{Ticket}

-- a number, or a dash where it is absent
abbrev pub optional : Option ℕ → List ℕ
optional None = codes "-"
optional (Some n) = decimal n

abbrev pub phase_word : Phase → List ℕ
phase_word Suspended = codes "suspended"
phase_word Trading = codes "trading"

abbrev pub ending_word : Option Ending → List ℕ
ending_word None = codes "none"
ending_word (Some Filled) = codes "filled"
ending_word (Some Withdrawn) = codes "withdrawn"
ending_word (Some Removed) = codes "removed"

-- what stands behind the words of a ground: the contract over its limit, or the own order
abbrev pub tail_text : Refusal → List ℕ
tail_text WrongPhase = []
tail_text Unknown = []
tail_text Inadmissible = []
tail_text PastLastDay = []
tail_text OutOfBounds = []
tail_text Full = []
tail_text (OverLimit contract) = codes ", contract " ++ decimal contract
tail_text (OwnOrder order) = codes ", order " ++ decimal order
tail_text AnotherAccount = []
tail_text NotActive = []

abbrev pub refusal_text : Refusal → List ℕ
refusal_text g = codes "refused " ++ (decimal (ground g) ++ (codes " " ++ (words g ++ tail_text g)))

abbrev pub prices_text : ContractTerms → List ℕ
prices_text t =
    codes "lower " ++ (signed_decimal t.lower ++ (codes " settlement " ++ (signed_decimal t.settlement ++ (codes " upper " ++ signed_decimal t.upper))))

abbrev pub contract_text : ContractTerms → List ℕ
contract_text t =
    codes "underlying " ++ (decimal t.underlying
    ++ (codes " last-day " ++ (decimal t.last_day
    ++ (codes " " ++ (prices_text t
    ++ (codes " w " ++ (decimal t.w
    ++ (codes " r " ++ decimal t.r))))))))

abbrev pub instrument_text : InstrumentTerms → List ℕ
instrument_text t =
    codes "kind " ++ (decimal t.kind
    ++ (codes " first " ++ (decimal t.first
    ++ (codes " second " ++ (optional t.second
    ++ (codes " lower " ++ (signed_decimal t.lower
    ++ (codes " upper " ++ signed_decimal t.upper))))))))

abbrev pub account_text : AccountTerms → List ℕ
account_text t = codes "participant " ++ (decimal t.participant ++ (codes " taxpayer " ++ decimal t.taxpayer))

abbrev pub ticket_text : Ticket → List ℕ
ticket_text t =
    codes "account " ++ (decimal t.account
    ++ (codes " instrument " ++ (decimal t.instrument
    ++ (codes " direction " ++ (decimal t.direction
    ++ (codes " type " ++ (decimal t.order_type
    ++ (codes " price " ++ signed_decimal t.price))))))))

abbrev pub terms_text : Ticket → List ℕ
terms_text t =
    codes "addressee " ++ (optional t.addressee
    ++ (codes " reference " ++ (optional t.reference
    ++ (codes " expiry " ++ optional t.expiry))))

abbrev pub quantities_text : OrderRow → List ℕ
quantities_text o =
    codes "filled " ++ (decimal o.filled
    ++ (codes " remaining " ++ (decimal o.remaining
    ++ (codes " withdrawn " ++ (decimal o.withdrawn
    ++ (codes " ending " ++ ending_word o.ending))))))

abbrev pub order_text : OrderRow → List ℕ
order_text o =
    ticket_text o.ticket
    ++ (codes " size " ++ (decimal o.size ++ (codes " " ++ (terms_text o.ticket ++ (codes " " ++ quantities_text o)))))

abbrev pub trade_text : Trade → List ℕ
trade_text t =
    codes "contract " ++ (decimal t.contract
    ++ (codes " quantity " ++ (decimal t.quantity
    ++ (codes " price " ++ (signed_decimal t.price
    ++ (codes " buyer order " ++ (decimal t.buying_order
    ++ (codes " seller order " ++ decimal t.selling_order))))))))

abbrev pub counts_text : Overview → List ℕ
counts_text v =
    codes "contracts " ++ (decimal v.contracts
    ++ (codes " instruments " ++ (decimal v.instruments
    ++ (codes " accounts " ++ (decimal v.accounts
    ++ (codes " orders " ++ (decimal v.orders
    ++ (codes " trades " ++ decimal v.trades))))))))

abbrev pub overview_text : Overview → List ℕ
overview_text v =
    phase_word v.phase
    ++ (codes " date " ++ (decimal v.date ++ (codes " capacity " ++ (decimal v.capacity ++ (codes " " ++ counts_text v)))))
