-- The record that code makes of terms is the one that the definitions name.
use Rattle.std.proofs.Common.{◌≡◌, Bool, true, false, replicate, pos, is_some, IfSome, Some, None, Option, refl, ap, ◌∙◌, subst}
use Rattle.std.proofs.Math.Bool.{Bool-set}
use Rattle.std.proofs.lemmas.Bool.{both_ways}
use Rattle.books.proofs.Holdings.{same_account}
use Rattle.records.specs.Ranges.{contract_in_range, instrument_in_range, account_in_range}
use Rattle.records.specs.declared.account.Account.{Account}
use Rattle.records.specs.declared.contract.Contract.{Contract}
use Rattle.records.specs.declared.holder.Holder.{Holder}
use Rattle.records.specs.declared.instrument.Instrument.{Instrument}
use Rattle.records.specs.declared.terms.AccountTerms.{AccountTerms}
use Rattle.records.specs.declared.terms.ContractTerms.{ContractTerms}
use Rattle.records.specs.declared.terms.InstrumentTerms.{InstrumentTerms}
use Rattle.market.specs.Making.{made_if, contract_of, instrument_of, account_of}

-- something is made exactly where the test allows it, and it is what is to be made
made_is : {X : Type 0} (test : Bool) (make : test ≡ true → X) (r : Option X) → is_some r ≡ test → IfSome r (λ x. (e : test ≡ true) → x ≡ make e) → r ≡ made_if test make
made_is true make None e is = absurd (both_ways false refl e)
made_is true make (Some x) e is = ap Some (is refl)
made_is false make None e is = refl
made_is false make (Some x) e is = absurd (both_ways true e refl)

same_contract : (c : Contract) (t : ContractTerms) → c.terms ≡ t → (p : contract_in_range t ≡ true) → c ≡ record { terms = t; ranges = p }
same_contract c t is =
    subst (λ u. (p : contract_in_range u ≡ true) → ◌≡◌ {A = Contract} c (record { terms = u; ranges = p })) is
    (λ p. ap (λ q. record { terms = c.terms; ranges = q }) (Bool-set (contract_in_range c.terms) true c.ranges p))

pub contract_made : (t : ContractTerms) (r : Option Contract) → is_some r ≡ contract_in_range t → IfSome r (λ c. c.terms ≡ t) → r ≡ contract_of t
contract_made t None e is = made_is (contract_in_range t) _ None e tt
contract_made t (Some c) e is =
    made_is (contract_in_range t) _ (Some c) e (same_contract c t is)

pub same_instrument : (i : Instrument) (t : InstrumentTerms) → i.terms ≡ t → (p : instrument_in_range t ≡ true) → i ≡ record { terms = t; ranges = p }
same_instrument i t is =
    subst (λ u. (p : instrument_in_range u ≡ true) → ◌≡◌ {A = Instrument} i (record { terms = u; ranges = p })) is
    (λ p. ap (λ q. record { terms = i.terms; ranges = q }) (Bool-set (instrument_in_range i.terms) true i.ranges p))

pub instrument_made : (t : InstrumentTerms) (r : Option Instrument) → is_some r ≡ instrument_in_range t → IfSome r (λ i. i.terms ≡ t) → r ≡ instrument_of t
instrument_made t None e is = made_is (instrument_in_range t) _ None e tt
instrument_made t (Some i) e is =
    made_is (instrument_in_range t) _ (Some i) e (same_instrument i t is)

same_holder : (h : Holder) (t : AccountTerms) → h.terms ≡ t → (p : account_in_range t ≡ true) → h ≡ record { terms = t; ranges = p }
same_holder h t is =
    subst (λ u. (p : account_in_range u ≡ true) → ◌≡◌ {A = Holder} h (record { terms = u; ranges = p })) is
    (λ p. ap (λ q. record { terms = h.terms; ranges = q }) (Bool-set (account_in_range h.terms) true h.ranges p))

pub account_made : (t : AccountTerms) (r : Option Account) → is_some r ≡ account_in_range t → IfSome r (λ a. (a.holder.terms ≡ t) × (a.positions ≡ replicate 32 (pos 0)) × (a.money ≡ pos 0)) → r ≡ account_of t
account_made t None e is = made_is (account_in_range t) _ None e tt
account_made t (Some a) e is =
    made_is (account_in_range t) _ (Some a) e
    (λ p. ap (λ h. record { holder = h; positions = a.positions; money = a.money; wide = a.wide }) (same_holder a.holder t is.0 p) ∙ same_account _ _ _ _ _ _ _ is.1 is.2)

-- there is a record exactly where the test allows it
pub some_made : {X : Type 0} (test : Bool) (make : test ≡ true → X) → is_some (made_if test make) ≡ test
some_made true make = refl
some_made false make = refl
