-- The law of the grounds for each call.
use Rattle.std.proofs.Common.{◌≡◌, ℕ, zero, suc, ◌+◌, ◌<◌, ◌≤◌, Bool, true, false, cond, not, leb, List, [], ◌∷◌, length, replicate, pos, is_some, Some, None, Decides, Option, Result, refl, ap, ◌∙◌, inl, inr, arith}
use Rattle.std.proofs.lemmas.Bool.{both_ways, leb-true, le-leb, and_parts, and_from}
use Rattle.std.proofs.lemmas.Bool.Decides.{Decides-not, Decides-at}
use Rattle.std.specs.List.{slice_get}
use Rattle.records.specs.Ranges.{contract_in_range, instrument_in_range, account_in_range}
use Rattle.records.specs.Registers.{numbered}
use Rattle.records.specs.declared.codes.Phase.TheVariants.{Suspended, Trading}
use Rattle.records.specs.declared.contract.Contract.{Contract}
use Rattle.records.specs.declared.instrument.Instrument.{Instrument}
use Rattle.records.specs.declared.terms.AccountTerms.{AccountTerms}
use Rattle.records.specs.declared.terms.ContractTerms.{ContractTerms}
use Rattle.records.specs.declared.terms.InstrumentTerms.{InstrumentTerms}
use Rattle.rulebook.specs.Reading.{listing_at}
use Rattle.rulebook.specs.Rules.{RuleMeaning}
use Rattle.market.specs.Calls.{decided, is_trading, entry_checks, list_contract, absent_or_listed, may_be_listed, only_if, listable, list_instrument, admit_account, with_phase, resume, suspend}
use Rattle.market.specs.Grounds.{order, list_contract_call, list_instrument_call, admit_account_call, resume_call, suspend_call, ByTheGrounds, strike_if, first_struck}
use Rattle.market.specs.Making.{made_if, contract_of, account_of}
use Rattle.market.specs.States.{State}
use Rattle.market.specs.Strikes.{AbsentOr, Listed, MayBeListed, ContractInRange, AccountInRange, EntryGrounds, ListContractStrikes, ListInstrumentStrikes, AdmitAccountStrikes, ResumeStrikes, SuspendStrikes}
use Rattle.market.specs.declared.refusal.Refusal.{Refusal}
use Rattle.market.specs.declared.refusal.Refusal.TheVariants.{WrongPhase}
use Rattle.market.proofs.Law.{Apart, by_the_grounds}
use Rattle.market.proofs.Made.{same_instrument, some_made}
use Rattle.market.proofs.Striking.{decides_contract, decides_instrument, decides_account, decides_trading, decides_suspended, each_entry, entry_inside, each_phase, phase_inside}

entry_apart : Apart (1 ∷ 3 ∷ 6 ∷ [])
entry_apart = (
  λ s. elim s [ inl e ↦ omega arith | inr t ↦ elim t [ inl e ↦ omega arith | inr n ↦ n ] ],
  (λ s. elim s [ inl e ↦ omega arith | inr n ↦ n ], (λ n. n, tt)),
)

-- a call that enters a record
by_entry : (answer : ℕ) (after s : State) (Q : Type 0) (most count : ℕ) (had : Bool) → Decides had Q
    → (r : Result ℕ Refusal) → r ≡ (decided (first_struck (entry_checks s.phase had most count)) answer after s).answer
    → ByTheGrounds (1 ∷ 3 ∷ 6 ∷ []) (EntryGrounds (s.phase ≡ Trading) (Q → ⊥) (most ≤ count)) r
by_entry answer after s Q most count had d =
    by_the_grounds answer after s (EntryGrounds (s.phase ≡ Trading) (Q → ⊥) (most ≤ count)) (1 ∷ 3 ∷ 6 ∷ []) (entry_checks s.phase had most count)
    (each_entry (s.phase ≡ Trading) (Q → ⊥) (most ≤ count) (is_trading s.phase) (not had) (leb most count) (decides_trading s.phase) (Decides-not had d) (leb-true most count, le-leb most count))
    entry_apart
    (entry_inside (s.phase ≡ Trading) (Q → ⊥) (most ≤ count))

some_contract : (t : ContractTerms) → Decides (is_some (contract_of t)) (ContractInRange t)
some_contract t = Decides-at (is_some (contract_of t)) (contract_in_range t) (some_made (contract_in_range t) (λ e. record { terms = t; ranges = e })) (decides_contract t)

pub list_contract_by_grounds : (t : ContractTerms) (s : State) (r : Result ℕ Refusal) → r ≡ (list_contract t s).answer → ByTheGrounds (order list_contract_call) (ListContractStrikes t s) r
list_contract_by_grounds t s =
    by_entry (length s.contracts + 1) _ s (ContractInRange t) 32 (length s.contracts) (is_some (contract_of t)) (some_contract t)

some_account : (t : AccountTerms) → Decides (is_some (account_of t)) (AccountInRange t)
some_account t =
    Decides-at (is_some (account_of t)) (account_in_range t)
    (some_made (account_in_range t) (λ e. record { holder = record { terms = t; ranges = e }; positions = replicate 32 (pos 0); money = pos 0; wide = refl }))
    (decides_account t)

pub admit_account_by_grounds : (t : AccountTerms) (s : State) (r : Result ℕ Refusal) → r ≡ (admit_account t s).answer → ByTheGrounds (order admit_account_call) (AdmitAccountStrikes t s) r
admit_account_by_grounds t s =
    by_entry (length s.accounts + 1) _ s (AccountInRange t) 64 (length s.accounts) (is_some (account_of t)) (some_account t)

-- an instrument that can be listed
decides_nth : {X : Type 0} (xs : List X) (n : ℕ) → Decides (is_some (slice_get xs n)) (n < length xs)
decides_nth [] n = (λ e. absurd (both_ways false refl e), λ h. absurd (omega arith))
decides_nth (x ∷ xs) zero = (λ _. omega arith, λ _. refl)
decides_nth (x ∷ xs) (suc n) = (λ e. let h = (decides_nth xs n).0 e in omega arith, λ h. (decides_nth xs n).1 (omega arith))

decides_listed : (contracts : List Contract) (n : ℕ) → Decides (is_some (numbered contracts n)) (Listed contracts n)
decides_listed contracts zero = (λ e. absurd (both_ways false refl e), λ h. absurd (omega arith))
decides_listed contracts (suc n) = (λ e. let h = (decides_nth contracts n).0 e in (omega arith, omega arith), λ h. (decides_nth contracts n).1 (omega arith))

decides_second : (contracts : List Contract) (n : Option ℕ) → Decides (absent_or_listed contracts n) (AbsentOr (Listed contracts) n)
decides_second contracts None = (λ _. tt, λ _. refl)
decides_second contracts (Some n) = decides_listed contracts n

module _ (test : Instrument → Bool) where
  kept_if : (i : Instrument) (b : Bool) → test i ≡ b → is_some (cond b (Some i) None) ≡ true → test i ≡ true
  kept_if i true e k = e
  kept_if i false e k = absurd (both_ways false refl k)

  was_kept : (b : Bool) (make : b ≡ true → Instrument) → is_some (only_if test (made_if b make)) ≡ true → (e : b ≡ true) × (test (make e) ≡ true)
  was_kept true make k = (refl, kept_if (make refl) (test (make refl)) refl k)
  was_kept false make k = absurd (both_ways false refl k)

  keeps : (b : Bool) (make : b ≡ true → Instrument) → b ≡ true → ((e : b ≡ true) → test (make e) ≡ true) → is_some (only_if test (made_if b make)) ≡ true
  keeps true make e k = ap (λ x. is_some (cond x (Some (make refl)) None)) (k refl)
  keeps false make e k = absurd (both_ways false refl e)

module _ (rule : RuleMeaning) (contracts : List Contract) (t : InstrumentTerms) where
  abbrev record_of : instrument_in_range t ≡ true → Instrument
  record_of e = record { terms = t; ranges = e }

  abbrev admits : Instrument → Bool
  admits i = rule.admits i (listing_at contracts)

  can_be : is_some (listable rule contracts t) ≡ true → MayBeListed rule contracts t
  can_be k =
      let kept = was_kept (may_be_listed rule contracts) (instrument_in_range t) record_of k in
      let parts = and_parts (is_some (numbered contracts t.first)) _ kept.1 in
      let rest = and_parts (absent_or_listed contracts t.second) (admits (record_of kept.0)) parts.1 in
      record {
        fields = (decides_instrument t).0 kept.0;
        first = (decides_listed contracts t.first).0 parts.0;
        second = (decides_second contracts t.second).0 rest.0;
        admitted = λ i is. ap admits (same_instrument i t is kept.0) ∙ rest.1;
      }

  is_there : MayBeListed rule contracts t → is_some (listable rule contracts t) ≡ true
  is_there may =
      keeps (may_be_listed rule contracts) (instrument_in_range t) record_of ((decides_instrument t).1 may.fields)
      (λ e. and_from (is_some (numbered contracts t.first)) _ ((decides_listed contracts t.first).1 may.first)
      (and_from (absent_or_listed contracts t.second) (admits (record_of e)) ((decides_second contracts t.second).1 may.second) (may.admitted (record_of e) refl)))

pub list_instrument_by_grounds : (rule : RuleMeaning) (t : InstrumentTerms) (s : State) (r : Result ℕ Refusal) → r ≡ (list_instrument rule t s).answer → ByTheGrounds (order list_instrument_call) (ListInstrumentStrikes rule t s) r
list_instrument_by_grounds rule t s =
    by_entry (length s.instruments + 1) _ s (MayBeListed rule s.contracts t) 64 (length s.instruments) (is_some (listable rule s.contracts t))
    (can_be rule s.contracts t, is_there rule s.contracts t)

-- a call that changes the phase
pub resume_by_grounds : (s : State) (r : Result (Unit {0}) Refusal) → r ≡ (resume s).answer → ByTheGrounds (order resume_call) (ResumeStrikes s) r
resume_by_grounds s =
    by_the_grounds tt (with_phase Trading s) s (ResumeStrikes s) (1 ∷ []) (strike_if (is_trading s.phase) WrongPhase ∷ []) (each_phase (s.phase ≡ Trading) (is_trading s.phase) (decides_trading s.phase)) (λ n. n, tt) (phase_inside (s.phase ≡ Trading))

pub suspend_by_grounds : (s : State) (r : Result (Unit {0}) Refusal) → r ≡ (suspend s).answer → ByTheGrounds (order suspend_call) (SuspendStrikes s) r
suspend_by_grounds s =
    by_the_grounds tt (with_phase Suspended s) s (SuspendStrikes s) (1 ∷ []) (strike_if (not (is_trading s.phase)) WrongPhase ∷ []) (each_phase (s.phase ≡ Suspended) (not (is_trading s.phase)) (decides_suspended s.phase)) (λ n. n, tt) (phase_inside (s.phase ≡ Suspended))
