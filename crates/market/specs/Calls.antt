-- What each call answers and leaves.
use Rattle.std.specs.Prelude.{◌≡◌, ℕ, ◌+◌, ◌<◌, Bool, true, false, cond, not, ◌&&◌, List, [], ◌∷◌, ◌++◌, length, is_some, Some, None, Ok, Err, Option, Result, MatchResult, nat_le}
use Rattle.std.specs.Option.{option_to_list}
use Rattle.records.specs.Registers.{numbered}
use Rattle.records.specs.declared.account.Account.{Account}
use Rattle.records.specs.declared.codes.Phase.{Phase}
use Rattle.records.specs.declared.codes.Phase.TheVariants.{Suspended, Trading}
use Rattle.records.specs.declared.contract.Contract.{Contract}
use Rattle.records.specs.declared.instrument.Instrument.{Instrument}
use Rattle.records.specs.declared.terms.AccountTerms.{AccountTerms}
use Rattle.records.specs.declared.terms.ContractTerms.{ContractTerms}
use Rattle.records.specs.declared.terms.InstrumentTerms.{InstrumentTerms}
use Rattle.rulebook.specs.Reading.{listing_at}
use Rattle.rulebook.specs.Rules.{RuleMeaning}
use Rattle.market.specs.declared.refusal.Refusal.{Refusal}
use Rattle.market.specs.declared.refusal.Refusal.TheVariants.{WrongPhase, Inadmissible, Full}
use Rattle.market.specs.Grounds.{strike_if, first_struck}
use Rattle.market.specs.Making.{contract_of, instrument_of, account_of}
use Rattle.market.specs.States.{State}

-- what a call answers, and the market that it leaves
pub record Outcome (A : Type 0) : Type 0 where
  pub answer : Result A Refusal
  pub after : State

-- a call is taken where no ground strikes; turned away, it answers the ground and leaves the market as it was
abbrev pub decided : {A : Type 0} → Option Refusal → A → State → State → Outcome A
decided None answer after before = record { answer = Ok answer; after = after }
decided (Some g) answer after before = record { answer = Err g; after = before }

abbrev pub is_trading : Phase → Bool
is_trading Trading = true
is_trading Suspended = false

-- the checks of a call that enters a record in a table: not while trading, the record can be had, the table is not full
abbrev pub entry_checks : Phase → Bool → ℕ → ℕ → List (Option Refusal)
entry_checks phase had most count =
    strike_if (is_trading phase) WrongPhase ∷ strike_if (not had) Inadmissible ∷ strike_if (nat_le most count) Full ∷ []

-- the record itself where none of these checks strikes, and else the first ground that does
abbrev pub Enterable : {T : Type 0} → Phase → Option T → ℕ → ℕ → Result T Refusal → Type 0
Enterable phase had most count r =
    MatchResult r
    (λ x. (first_struck (entry_checks phase (is_some had) most count) ≡ None) × (had ≡ Some x) × (count < most))
    (λ g. first_struck (entry_checks phase (is_some had) most count) ≡ Some g)

abbrev pub with_contracts : List Contract → State → State
with_contracts contracts s =
    record {
      phase = s.phase;
      date = s.date;
      capacity = s.capacity;
      contracts = contracts;
      instruments = s.instruments;
      accounts = s.accounts;
      orders = s.orders;
      trades = s.trades;
    }

abbrev pub with_instruments : List Instrument → State → State
with_instruments instruments s =
    record {
      phase = s.phase;
      date = s.date;
      capacity = s.capacity;
      contracts = s.contracts;
      instruments = instruments;
      accounts = s.accounts;
      orders = s.orders;
      trades = s.trades;
    }

abbrev pub with_accounts : List Account → State → State
with_accounts accounts s =
    record {
      phase = s.phase;
      date = s.date;
      capacity = s.capacity;
      contracts = s.contracts;
      instruments = s.instruments;
      accounts = accounts;
      orders = s.orders;
      trades = s.trades;
    }

abbrev pub with_phase : Phase → State → State
with_phase phase s =
    record {
      phase = phase;
      date = s.date;
      capacity = s.capacity;
      contracts = s.contracts;
      instruments = s.instruments;
      accounts = s.accounts;
      orders = s.orders;
      trades = s.trades;
    }

-- A record is entered last in its table, and its number is answered. Where there is no record to be had, a check
-- strikes.
abbrev pub enter : {T : Type 0} → ℕ → List T → (List T → State → State) → Option T → State → Outcome ℕ
enter most records put had s =
    decided (first_struck (entry_checks s.phase (is_some had) most (length records))) (length records + 1) (put (records ++ option_to_list had) s) s

-- what entering a record in a table answers, and what the table then holds
pub record Enters {T : Type 0} (phase : Phase) (most : ℕ) (had : Option T) (before after : List T) (answer : Result ℕ Refusal) : Type 0 where
  pub taken : first_struck (entry_checks phase (is_some had) most (length before)) ≡ None → (answer ≡ Ok (length before + 1)) × (after ≡ before ++ option_to_list had)
  pub struck : (g : Refusal) → first_struck (entry_checks phase (is_some had) most (length before)) ≡ Some g → (answer ≡ Err g) × (after ≡ before)

abbrev pub enter_contract : Option Contract → State → Outcome ℕ
enter_contract had s = enter 32 s.contracts with_contracts had s

abbrev pub enter_instrument : Option Instrument → State → Outcome ℕ
enter_instrument had s = enter 64 s.instruments with_instruments had s

abbrev pub enter_account : Option Account → State → Outcome ℕ
enter_account had s = enter 64 s.accounts with_accounts had s

-- list contract: the contract with these terms is entered
abbrev pub list_contract : ContractTerms → State → Outcome ℕ
list_contract t s = enter_contract (contract_of t) s

-- the second contract is absent or listed
abbrev pub absent_or_listed : List Contract → Option ℕ → Bool
absent_or_listed contracts None = true
absent_or_listed contracts (Some n) = is_some (numbered contracts n)

-- the instrument's contracts are listed, and the rule admits it among the listed contracts
abbrev pub may_be_listed : RuleMeaning → List Contract → Instrument → Bool
may_be_listed rule contracts i =
    is_some (numbered contracts i.terms.first) && (absent_or_listed contracts i.terms.second && rule.admits i (listing_at contracts))

abbrev pub only_if : (Instrument → Bool) → Option Instrument → Option Instrument
only_if test None = None
only_if test (Some i) = cond (test i) (Some i) None

-- the instrument with these terms, if it can be listed
abbrev pub listable : RuleMeaning → List Contract → InstrumentTerms → Option Instrument
listable rule contracts t = only_if (may_be_listed rule contracts) (instrument_of t)

-- list instrument: the instrument with these terms is entered, if it can be listed
abbrev pub list_instrument : RuleMeaning → InstrumentTerms → State → Outcome ℕ
list_instrument rule t s = enter_instrument (listable rule s.contracts t) s

-- admit account: the account with these terms is entered
abbrev pub admit_account : AccountTerms → State → Outcome ℕ
admit_account t s = enter_account (account_of t) s

-- whether two phases are the same
abbrev pub same_phase : Phase → Phase → Bool
same_phase Trading phase = is_trading phase
same_phase Suspended phase = not (is_trading phase)

-- the market is then in this phase, if it was not
abbrev pub turned_to : Phase → State → Outcome (Unit {0})
turned_to phase s = decided (first_struck (strike_if (same_phase phase s.phase) WrongPhase ∷ [])) tt (with_phase phase s) s

-- resume: the market is then trading
abbrev pub resume : State → Outcome (Unit {0})
resume s = turned_to Trading s

-- suspend: the market is then suspended
abbrev pub suspend : State → Outcome (Unit {0})
suspend s = turned_to Suspended s
