-- The name of an entry.
use Rattle.sheet.specs.declared.call.Call.{Call}
use Rattle.sheet.specs.declared.call.Call.TheVariants.{ListContract, ListInstrument, AdmitAccount, Resume, Suspend}
use Rattle.sheet.specs.declared.entry.Entry.{Entry}
use Rattle.sheet.specs.declared.entry.Entry.TheVariants as entry
use Rattle.sheet.specs.declared.name.Name.{Name}
use Rattle.sheet.specs.declared.name.Name.TheVariants as name
use Rattle.sheet.specs.declared.question.Question.{Question}
use Rattle.sheet.specs.declared.question.Question.TheVariants.{Contract, Instrument, Account, Position, Money, Order, Trade, Market}
use Rattle.sheet.specs.declared.set_up.SetUp.{SetUp}
use Rattle.sheet.specs.declared.set_up.SetUp.TheVariants.{Memory, Lots, Pledge, Margin}

abbrev pub set_up_name : SetUp → Name
set_up_name (Memory orders trades) = name.Memory
set_up_name (Lots contract limit) = name.Lots
set_up_name (Pledge account amount) = name.Pledge
set_up_name (Margin contract amount) = name.Margin

abbrev pub call_name : Call → Name
call_name (ListContract terms) = name.ListContract
call_name (ListInstrument terms) = name.ListInstrument
call_name (AdmitAccount terms) = name.AdmitAccount
call_name Resume = name.Resume
call_name Suspend = name.Suspend

abbrev pub question_name : Question → Name
question_name (Contract number) = name.ShowContract
question_name (Instrument number) = name.ShowInstrument
question_name (Account number) = name.ShowAccount
question_name (Position account contract) = name.ShowPosition
question_name (Money account) = name.ShowMoney
question_name (Order number) = name.ShowOrder
question_name (Trade number) = name.ShowTrade
question_name Market = name.ShowMarket

abbrev pub entry_name : Entry → Name
entry_name (entry.SetUp s) = set_up_name s
entry_name (entry.Call c) = call_name c
entry_name (entry.Question q) = question_name q
