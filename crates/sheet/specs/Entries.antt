-- What a line says.
use Rattle.std.specs.Prelude.{ℕ, Bool, cond, List, [], ◌∷◌, ℤ, pos, Some, None, Ok, Err, Option, Result, ◌==◌, slice_index}
use Rattle.std.specs.Option.{option_and_then}
use Rattle.records.specs.declared.terms.ContractTerms.{ContractTerms}
use Rattle.records.specs.declared.terms.InstrumentTerms.{InstrumentTerms}
use Rattle.records.specs.declared.terms.AccountTerms.{AccountTerms}
use Rattle.sheet.specs.declared.call.Call.TheVariants as call
use Rattle.sheet.specs.declared.entry.Entry.{Entry}
use Rattle.sheet.specs.declared.entry.Entry.TheVariants as entry
use Rattle.sheet.specs.declared.fault.Fault.TheVariants.{UnknownName, Missing}
use Rattle.sheet.specs.declared.key.Key.{Key}
use Rattle.sheet.specs.declared.key.Key.TheVariants as key
use Rattle.sheet.specs.declared.name.Name.{Name}
use Rattle.sheet.specs.declared.name.Name.TheVariants.{Memory, Lots, Pledge, Margin, ListContract, ListInstrument, AdmitAccount, Resume, Suspend, ShowContract, ShowInstrument, ShowAccount, ShowPosition, ShowMoney, ShowOrder, ShowTrade, ShowMarket}
use Rattle.sheet.specs.declared.question.Question.{Question}
use Rattle.sheet.specs.declared.question.Question.TheVariants as question
use Rattle.sheet.specs.declared.set_up.SetUp.{SetUp}
use Rattle.sheet.specs.declared.set_up.SetUp.TheVariants as setting
use Rattle.sheet.specs.declared.values.Values.{Values}
use Rattle.sheet.specs.Faults.{LineFault, and_then}
use Rattle.sheet.specs.Fields.{with_fields, first_missing}
use Rattle.sheet.specs.Names.{all_names, keys_of, name_among}
use Rattle.sheet.specs.Values.{no_values, value_at, count_of, price_of, amount_of, number_or}
use Rattle.sheet.specs.Words.{words}

abbrev pub count : Values → Key → ℕ
count vs k = number_or 0 count_of (value_at vs k)

abbrev pub price : Values → Key → ℤ
price vs k = number_or (pos 0) price_of (value_at vs k)

abbrev pub amount : Values → Key → ℕ
amount vs k = number_or 0 amount_of (value_at vs k)

abbrev pub memory_keyed : Values → SetUp
memory_keyed vs = setting.Memory (amount vs key.Orders) (amount vs key.Trades)

abbrev pub lots_keyed : Values → SetUp
lots_keyed vs = setting.Lots (count vs key.Contract) (count vs key.Limit)

abbrev pub pledge_keyed : Values → SetUp
pledge_keyed vs = setting.Pledge (count vs key.Account) (amount vs key.Amount)

abbrev pub margin_keyed : Values → SetUp
margin_keyed vs = setting.Margin (count vs key.Contract) (amount vs key.Amount)

abbrev pub contract_keyed : Values → ContractTerms
contract_keyed vs =
    record {
      underlying = count vs key.Underlying;
      last_day = count vs key.LastDay;
      lower = price vs key.Lower;
      settlement = price vs key.Settlement;
      upper = price vs key.Upper;
      w = count vs key.W;
      r = count vs key.R;
    }

abbrev pub instrument_keyed : Values → InstrumentTerms
instrument_keyed vs =
    record {
      kind = count vs key.Kind;
      first = count vs key.First;
      second = option_and_then count_of (value_at vs key.Second);
      lower = price vs key.Lower;
      upper = price vs key.Upper;
    }

abbrev pub account_keyed : Values → AccountTerms
account_keyed vs = record { participant = count vs key.Participant; taxpayer = count vs key.Taxpayer }

abbrev pub position_keyed : Values → Question
position_keyed vs = question.Position (count vs key.Account) (count vs key.Contract)

-- the entry of a name, with the values of its keys
abbrev pub entry_of : Name → Values → Entry
entry_of Memory vs = entry.SetUp (memory_keyed vs)
entry_of Lots vs = entry.SetUp (lots_keyed vs)
entry_of Pledge vs = entry.SetUp (pledge_keyed vs)
entry_of Margin vs = entry.SetUp (margin_keyed vs)
entry_of ListContract vs = entry.Call (call.ListContract (contract_keyed vs))
entry_of ListInstrument vs = entry.Call (call.ListInstrument (instrument_keyed vs))
entry_of AdmitAccount vs = entry.Call (call.AdmitAccount (account_keyed vs))
entry_of Resume vs = entry.Call call.Resume
entry_of Suspend vs = entry.Call call.Suspend
entry_of ShowContract vs = entry.Question (question.Contract (count vs key.Number))
entry_of ShowInstrument vs = entry.Question (question.Instrument (count vs key.Number))
entry_of ShowAccount vs = entry.Question (question.Account (count vs key.Number))
entry_of ShowPosition vs = entry.Question (position_keyed vs)
entry_of ShowMoney vs = entry.Question (question.Money (count vs key.Account))
entry_of ShowOrder vs = entry.Question (question.Order (count vs key.Number))
entry_of ShowTrade vs = entry.Question (question.Trade (count vs key.Number))
entry_of ShowMarket vs = entry.Question question.Market

-- the entry, if no needed key is missing
abbrev pub entry_unless : Name → Values → Option Key → Result Entry LineFault
entry_unless name vs None = Ok (entry_of name vs)
entry_unless name vs (Some k) = Err (Missing k)

-- the entry of a name, with the words behind it for fields
abbrev pub entry_with : Name → List (List ℕ) → Result Entry LineFault
entry_with name ws =
    and_then (with_fields (keys_of name) no_values ws) (λ vs. entry_unless name vs (first_missing (keys_of name) vs))

-- the entry of the name with which a line begins, if it is one; word is the line's first
abbrev pub entry_named : List ℕ → Option (Name × List (List ℕ)) → Result (Option Entry) LineFault
entry_named word None = Err (UnknownName word)
entry_named word (Some p) = and_then (entry_with p.0 p.1) (λ e. Ok (Some e))

-- a remark begins with the sign #
abbrev pub remark : List ℕ → Bool
remark word = slice_index word 0 == 35

-- a line without words, and a remark, say nothing
abbrev pub line_of_words : List (List ℕ) → Result (Option Entry) LineFault
line_of_words [] = Ok None
line_of_words (word ∷ others) = cond (remark word) (Ok None) (entry_named word (name_among all_names (word ∷ others)))

-- what a line says
abbrev pub line_read : List ℕ → Result (Option Entry) LineFault
line_read line = line_of_words (words line)
