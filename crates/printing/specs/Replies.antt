-- The line that is printed of a reply.
use Rattle.std.specs.Prelude.{ℕ, List, ◌++◌, Ok, Err, codes, decimal, Result}
use Rattle.std.specs.Fmt.{signed_decimal}
use Rattle.market.specs.declared.refusal.Refusal.{Refusal}
use Rattle.printing.specs.Texts.{refusal_text, contract_text, instrument_text, account_text, order_text, trade_text, overview_text}
use Rattle.printing.specs.declared.reply.Reply.{Reply}
use Rattle.printing.specs.declared.reply.Reply.TheVariants.{NewContract, NewInstrument, NewAccount, Done, Contract, Instrument, Account, Position, Money, Order, Trade, Market}

abbrev pub reply_text : Reply → List ℕ
reply_text (NewContract n) = codes "contract " ++ decimal n
reply_text (NewInstrument n) = codes "instrument " ++ decimal n
reply_text (NewAccount n) = codes "account " ++ decimal n
reply_text Done = codes "done"
reply_text (Contract t) = contract_text t
reply_text (Instrument t) = instrument_text t
reply_text (Account t) = account_text t
reply_text (Position lots) = signed_decimal lots
reply_text (Money money) = signed_decimal money
reply_text (Order o) = order_text o
reply_text (Trade t) = trade_text t
reply_text (Market v) = overview_text v

-- the reply, or why the call or question was turned away
abbrev pub answer_text : Result Reply Refusal → List ℕ
answer_text (Ok r) = reply_text r
answer_text (Err g) = refusal_text g

-- the number of the sheet's line, the entry's name, and the answer
abbrev pub reply_line : ℕ → List ℕ → Result Reply Refusal → List ℕ
reply_line number name r = decimal number ++ (codes ": " ++ (name ++ (codes ": " ++ (answer_text r ++ codes "\n"))))
