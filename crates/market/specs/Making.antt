-- The records that are made of keyed terms: one where the terms are in range, none otherwise.
use Rattle.std.specs.Prelude.{◌≡◌, Bool, true, false, replicate, pos, Some, None, Option, refl}
use Rattle.records.specs.Ranges.{contract_in_range, instrument_in_range, account_in_range}
use Rattle.records.specs.declared.account.Account.{Account}
use Rattle.records.specs.declared.contract.Contract.{Contract}
use Rattle.records.specs.declared.instrument.Instrument.{Instrument}
use Rattle.records.specs.declared.terms.AccountTerms.{AccountTerms}
use Rattle.records.specs.declared.terms.ContractTerms.{ContractTerms}
use Rattle.records.specs.declared.terms.InstrumentTerms.{InstrumentTerms}

-- what a test allows to be made
abbrev pub made_if : {X : Type 0} (test : Bool) → (test ≡ true → X) → Option X
made_if true make = Some (make refl)
made_if false make = None

abbrev pub contract_of : ContractTerms → Option Contract
contract_of t = made_if (contract_in_range t) (λ e. record { terms = t; ranges = e })

abbrev pub instrument_of : InstrumentTerms → Option Instrument
instrument_of t = made_if (instrument_in_range t) (λ e. record { terms = t; ranges = e })

-- an account begins with a position of nought in each of 32 contracts, and without money
abbrev pub account_of : AccountTerms → Option Account
account_of t =
    made_if (account_in_range t) (λ e. record { holder = record { terms = t; ranges = e }; positions = replicate 32 (pos 0); money = pos 0; wide = refl })
