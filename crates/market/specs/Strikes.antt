-- When each ground of a call strikes, in the words of the market's rules.
use Rattle.std.specs.Prelude.{◌≡◌, ℕ, ◌≤◌, true, List, length, ℤ, pos, neg_ℤ, ◌≤ℤ◌, Some, None, Option}
use Rattle.records.specs.declared.codes.Phase.TheVariants.{Suspended, Trading}
use Rattle.records.specs.declared.contract.Contract.{Contract}
use Rattle.records.specs.declared.instrument.Instrument.{Instrument}
use Rattle.records.specs.declared.terms.AccountTerms.{AccountTerms}
use Rattle.records.specs.declared.terms.ContractTerms.{ContractTerms}
use Rattle.records.specs.declared.terms.InstrumentTerms.{InstrumentTerms}
use Rattle.rulebook.specs.Reading.{listing_at}
use Rattle.rulebook.specs.Rules.{RuleMeaning}
use Rattle.market.specs.States.{State}
use Rattle.market.specs.declared.refusal.Refusal.{Refusal}
use Rattle.market.specs.declared.refusal.Refusal.TheVariants.{WrongPhase, Unknown, Inadmissible, PastLastDay, OutOfBounds, Full, OverLimit, OwnOrder, AnotherAccount, NotActive}

abbrev pub Between : ℕ → ℕ → ℕ → Type 0
Between low high n = (low ≤ n) × (n ≤ high)

-- a price, limit or bound is at most a million from nought
abbrev pub Price : ℤ → Type 0
Price p = (neg_ℤ (pos 1000000) ≤ℤ p) × (p ≤ℤ pos 1000000)

-- something is absent, or is so
abbrev pub AbsentOr : (ℕ → Type 0) → Option ℕ → Type 0
AbsentOr P None = Unit {0}
AbsentOr P (Some n) = P n

-- a contract as it may be keyed
pub record ContractInRange (t : ContractTerms) : Type 0 where
  pub underlying : Between 1 65535 t.underlying
  pub last_day : Between 1 100000 t.last_day
  pub lower : Price t.lower
  pub settlement : Price t.settlement
  pub upper : Price t.upper
  pub not_below : t.lower ≤ℤ t.settlement
  pub not_above : t.settlement ≤ℤ t.upper
  pub w : Between 1 1000 t.w
  pub r : Between 1 1000 t.r

-- an instrument as it may be keyed
pub record InstrumentInRange (t : InstrumentTerms) : Type 0 where
  pub kind : Between 1 255 t.kind
  pub first : Between 1 32 t.first
  pub second : AbsentOr (Between 1 32) t.second
  pub lower : Price t.lower
  pub upper : Price t.upper
  pub in_order : t.lower ≤ℤ t.upper

-- an account as it may be keyed
pub record AccountInRange (t : AccountTerms) : Type 0 where
  pub participant : Between 1 65535 t.participant
  pub taxpayer : Between 1 65535 t.taxpayer

-- a contract number that is listed
abbrev pub Listed : List Contract → ℕ → Type 0
Listed contracts n = Between 1 (length contracts) n

-- an instrument that may be listed: its fields are in range, its contracts are listed, and the rule admits its record
pub record MayBeListed (rule : RuleMeaning) (contracts : List Contract) (t : InstrumentTerms) : Type 0 where
  pub fields : InstrumentInRange t
  pub first : Listed contracts t.first
  pub second : AbsentOr (Listed contracts) t.second
  pub admitted : (i : Instrument) → i.terms ≡ t → rule.admits i (listing_at contracts) ≡ true

-- the grounds of a call that enters a record, or only changes the phase: the phase, the record, the table; no other ground
-- strikes
abbrev pub EntryGrounds : Type 0 → Type 0 → Type 0 → Refusal → Type 0
EntryGrounds phase inadmissible full WrongPhase = phase
EntryGrounds phase inadmissible full Unknown = ⊥
EntryGrounds phase inadmissible full Inadmissible = inadmissible
EntryGrounds phase inadmissible full PastLastDay = ⊥
EntryGrounds phase inadmissible full OutOfBounds = ⊥
EntryGrounds phase inadmissible full Full = full
EntryGrounds phase inadmissible full (OverLimit contract) = ⊥
EntryGrounds phase inadmissible full (OwnOrder order) = ⊥
EntryGrounds phase inadmissible full AnotherAccount = ⊥
EntryGrounds phase inadmissible full NotActive = ⊥

-- while trading; a field outside its range; 32 contracts
abbrev pub ListContractStrikes : ContractTerms → State → Refusal → Type 0
ListContractStrikes t s = EntryGrounds (s.phase ≡ Trading) (ContractInRange t → ⊥) (32 ≤ length s.contracts)

-- while trading; a field outside its range, an unknown contract, or a record that the rule does not admit; 64 instruments
abbrev pub ListInstrumentStrikes : RuleMeaning → InstrumentTerms → State → Refusal → Type 0
ListInstrumentStrikes rule t s =
    EntryGrounds (s.phase ≡ Trading) (MayBeListed rule s.contracts t → ⊥) (64 ≤ length s.instruments)

-- while trading; a field outside its range; 64 accounts
abbrev pub AdmitAccountStrikes : AccountTerms → State → Refusal → Type 0
AdmitAccountStrikes t s = EntryGrounds (s.phase ≡ Trading) (AccountInRange t → ⊥) (64 ≤ length s.accounts)

-- while trading
abbrev pub ResumeStrikes : State → Refusal → Type 0
ResumeStrikes s = EntryGrounds (s.phase ≡ Trading) ⊥ ⊥

-- while suspended
abbrev pub SuspendStrikes : State → Refusal → Type 0
SuspendStrikes s = EntryGrounds (s.phase ≡ Suspended) ⊥ ⊥
