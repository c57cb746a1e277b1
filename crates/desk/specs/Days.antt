-- What is printed of a sheet.
use Rattle.std.specs.Prelude.{ℕ, zero, suc, ◌+◌, Bool, true, false, ◌&&◌, List, [], ◌∷◌, ◌++◌, length, Some, None, Ok, Err, Option, Result, string_bytes}
use Rattle.market.specs.States.{State, begun}
use Rattle.printing.specs.Faults.{fault_line}
use Rattle.printing.specs.Replies.{reply_line}
use Rattle.sheet.specs.Entries.{line_read}
use Rattle.sheet.specs.Faults.{LineFault}
use Rattle.sheet.specs.Names.{title}
use Rattle.sheet.specs.Words.{first_line, after_line}
use Rattle.desk.specs.Lines.{line_settled, line_after, line_taken}
use Rattle.desk.specs.Settings.{unset}
use Rattle.desk.specs.declared.answer.Answer.{Answer}
use Rattle.desk.specs.declared.host.Host.{Host}
use Rattle.desk.specs.declared.printout.Printout.{Printout}

-- the lines of a text, of which there are at most so many
unfoldable pub lines_of : ℕ → List ℕ → List (List ℕ)
lines_of zero text = []
lines_of (suc most) [] = []
lines_of (suc most) (b ∷ bs) = first_line (b ∷ bs) ∷ lines_of most (after_line (b ∷ bs))

-- a text has at most as many lines as bytes
abbrev pub lines : List ℕ → List (List ℕ)
lines text = lines_of (length text) text

-- a text that is printed, and whether all lines behind it could be read
pub record Printed : Type 0 where
  pub text : List ℕ
  pub all_read : Bool

-- what a printout shows
abbrev pub shown : Printout → Printed
shown p = record { text = string_bytes p.text; all_read = p.all_read }

abbrev pub nothing : Printed
nothing = record { text = []; all_read = true }

abbrev pub followed_by : Printed → Printed → Printed
followed_by a b = record { text = a.text ++ b.text; all_read = a.all_read && b.all_read }

-- a line that is unreadable
abbrev pub fault_printed : ℕ → LineFault → Printed
fault_printed n f = record { text = fault_line n f; all_read = false }

-- a line that was carried out
abbrev pub taken_printed : ℕ → Result (Option Answer) LineFault → Printed
taken_printed n (Ok None) = nothing
taken_printed n (Ok (Some a)) = record { text = reply_line n (title a.name) a.reply; all_read = true }
taken_printed n (Err f) = fault_printed n f

-- lines carried out on a market one after another, the first of number n
unfoldable pub trading : State → ℕ → List (List ℕ) → Printed
trading s n [] = nothing
trading s n (l ∷ ls) = followed_by (taken_printed n (line_taken (line_read l) s)) (trading (line_after (line_read l) s) (n + 1) ls)

-- the market as it begins over the places that the host lends
abbrev pub begun_by : Host → State
begun_by h = begun h.order_places h.trade_places

-- by what becomes of a line before the first call or question: the rest from the host behind it, or the market where it is
-- that call or question
abbrev pub day_on : Result (Option Host) LineFault → Host → ℕ → Printed → (Host → Printed) → Printed
day_on (Ok (Some next)) h n market rest = rest next
day_on (Ok None) h n market rest = market
day_on (Err f) h n market rest = followed_by (fault_printed n f) (rest h)

-- lines carried out from the beginning, the first of number n: set-up first, and from the first call or question on the
-- market
unfoldable pub day : Host → ℕ → List (List ℕ) → Printed
day h n [] = nothing
day h n (l ∷ ls) = day_on (line_settled h (line_read l)) h n (trading (begun_by h) n (l ∷ ls)) (λ next. day next (n + 1) ls)

-- what is printed of a whole sheet
abbrev pub sheet_printed : List ℕ → Printed
sheet_printed text = day unset 1 (lines text)
