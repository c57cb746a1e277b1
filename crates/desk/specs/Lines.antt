-- What becomes of a line of a sheet, by what it says.
use Rattle.std.specs.Prelude.{Bool, true, false, Some, None, Ok, Err, Option, Result}
use Rattle.market.specs.States.{State}
use Rattle.sheet.specs.Faults.{LineFault, and_then}
use Rattle.sheet.specs.Naming.{call_name, question_name}
use Rattle.sheet.specs.declared.entry.Entry.{Entry}
use Rattle.sheet.specs.declared.entry.Entry.TheVariants as entry
use Rattle.sheet.specs.declared.fault.Fault.TheVariants.{TooLate}
use Rattle.desk.specs.Answers.{call_reply, call_after, question_reply}
use Rattle.desk.specs.Settings.{with_entry}
use Rattle.desk.specs.declared.answer.Answer.{Answer}
use Rattle.desk.specs.declared.host.Host.{Host}

-- before the first call or question: set-up is carried out, and a call or question, told by None, ends it
abbrev pub entry_settled : Host → Entry → Result (Option Host) LineFault
entry_settled h (entry.SetUp e) = and_then (with_entry h e) (λ next. Ok (Some next))
entry_settled h (entry.Call c) = Ok None
entry_settled h (entry.Question q) = Ok None

-- a line that says nothing is passed over
abbrev pub line_settled : Host → Result (Option Entry) LineFault → Result (Option Host) LineFault
line_settled h (Ok None) = Ok (Some h)
line_settled h (Ok (Some e)) = entry_settled h e
line_settled h (Err f) = Err f

-- from then on: a call changes the market, and no other entry does
abbrev pub entry_after : Entry → State → State
entry_after (entry.SetUp e) s = s
entry_after (entry.Call c) s = call_after c s
entry_after (entry.Question q) s = s

abbrev pub line_after : Result (Option Entry) LineFault → State → State
line_after (Ok None) s = s
line_after (Ok (Some e)) s = entry_after e s
line_after (Err f) s = s

-- a call or a question is replied to under its name, and set-up comes too late
abbrev pub entry_taken : Entry → State → Result (Option Answer) LineFault
entry_taken (entry.SetUp e) s = Err TooLate
entry_taken (entry.Call c) s = Ok (Some (record { name = call_name c; reply = call_reply c s }))
entry_taken (entry.Question q) s = Ok (Some (record { name = question_name q; reply = question_reply q s }))

-- a line that says nothing gets no answer, and one that is no entry is told with its fault
abbrev pub line_taken : Result (Option Entry) LineFault → State → Result (Option Answer) LineFault
line_taken (Ok None) s = Ok None
line_taken (Ok (Some e)) s = entry_taken e s
line_taken (Err f) s = Err f

abbrev pub is_call : Entry → Bool
is_call (entry.SetUp e) = false
is_call (entry.Call c) = true
is_call (entry.Question q) = false

-- a line that says a call
abbrev pub says_call : Result (Option Entry) LineFault → Bool
says_call (Ok None) = false
says_call (Ok (Some e)) = is_call e
says_call (Err f) = false
