-- What a call or a question of a sheet is answered with, under the exchange's rules.
use Rattle.std.specs.Prelude.{Ok, Err, Result}
use Rattle.market.specs.Calls.{list_contract, list_instrument, admit_account, resume, suspend}
use Rattle.market.specs.Questions.{record_told, position_told, money_told, overview}
use Rattle.market.specs.States.{State}
use Rattle.market.specs.declared.refusal.Refusal.{Refusal}
use Rattle.printing.specs.declared.reply.Reply.{Reply}
use Rattle.printing.specs.declared.reply.Reply.TheVariants as reply
use Rattle.rulebook.specs.Futures.{futures}
use Rattle.rulebook.specs.Joined.{joined}
use Rattle.rulebook.specs.Rules.{RuleMeaning}
use Rattle.rulebook.specs.Spread.{spread}
use Rattle.sheet.specs.declared.call.Call.{Call}
use Rattle.sheet.specs.declared.call.Call.TheVariants as call
use Rattle.sheet.specs.declared.question.Question.{Question}
use Rattle.sheet.specs.declared.question.Question.TheVariants as question

-- the rules of the exchange
abbrev pub exchange : RuleMeaning
exchange = joined futures spread

-- the reply to an answer, or the refusal
abbrev pub replied : {A : Type 0} → (A → Reply) → Result A Refusal → Result Reply Refusal
replied told (Ok x) = Ok (told x)
replied told (Err g) = Err g

abbrev pub call_reply : Call → State → Result Reply Refusal
call_reply (call.ListContract t) s = replied reply.NewContract (list_contract t s).answer
call_reply (call.ListInstrument t) s = replied reply.NewInstrument (list_instrument exchange t s).answer
call_reply (call.AdmitAccount t) s = replied reply.NewAccount (admit_account t s).answer
call_reply call.Resume s = replied (λ _. reply.Done) (resume s).answer
call_reply call.Suspend s = replied (λ _. reply.Done) (suspend s).answer

abbrev pub call_after : Call → State → State
call_after (call.ListContract t) s = (list_contract t s).after
call_after (call.ListInstrument t) s = (list_instrument exchange t s).after
call_after (call.AdmitAccount t) s = (admit_account t s).after
call_after call.Resume s = (resume s).after
call_after call.Suspend s = (suspend s).after

abbrev pub question_reply : Question → State → Result Reply Refusal
question_reply (question.Contract n) s = replied (λ c. reply.Contract c.terms) (record_told s.contracts n)
question_reply (question.Instrument n) s = replied (λ i. reply.Instrument i.terms) (record_told s.instruments n)
question_reply (question.Account n) s = replied (λ a. reply.Account a.holder.terms) (record_told s.accounts n)
question_reply (question.Position account contract) s = replied reply.Position (position_told s account contract)
question_reply (question.Money account) s = replied reply.Money (money_told s account)
question_reply (question.Order n) s = replied reply.Order (record_told s.orders n)
question_reply (question.Trade n) s = replied reply.Trade (record_told s.trades n)
question_reply question.Market s = Ok (reply.Market (overview s))
