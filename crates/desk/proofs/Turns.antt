-- One line more of a sheet.
use Rattle.std.proofs.Common.{◌≡◌, ℕ, zero, suc, ◌+◌, ◌<◌, ◌≤◌, List, [], ◌∷◌, length, Option, Result, refl, append_assoc, append-nil, arith}
use Rattle.std.proofs.Math.Bool.{and_assoc, and-true}
use Rattle.std.proofs.lemmas.List.{length-drop}
use Rattle.market.specs.States.{State}
use Rattle.std.specs.List.{position_or_len}
use Rattle.sheet.specs.Bytes.{line_feed}
use Rattle.sheet.specs.Entries.{line_read}
use Rattle.sheet.specs.Faults.{LineFault}
use Rattle.sheet.specs.Words.{first_line, after_line}
use Rattle.desk.specs.Days.{lines_of, lines, Printed, nothing, followed_by, taken_printed, trading, begun_by, day_on, day}
use Rattle.desk.specs.Lines.{line_settled, line_after, line_taken}
use Rattle.desk.specs.declared.answer.Answer.{Answer}
use Rattle.desk.specs.declared.host.Host.{Host}

no_lines : (most : ℕ) (text : List ℕ) → length text ≡ 0 → lines_of most text ≡ []
unfolding lines_of
no_lines zero text e = refl
no_lines (suc most) [] e = refl
no_lines (suc most) (b ∷ bs) e = absurd (omega arith)

one_line : (most : ℕ) (text : List ℕ) → 0 < length text → lines_of (suc most) text ≡ first_line text ∷ lines_of most (after_line text)
unfolding lines_of
one_line most [] h = absurd (omega arith)
one_line most (b ∷ bs) h = refl

after_shorter : (text : List ℕ) → 0 < length text → length (after_line text) + 1 ≤ length text
after_shorter text some =
    omega (arith, length-drop (position_or_len line_feed text + 1) text)

lines_same : (m k : ℕ) (text : List ℕ) → length text ≤ m → length text ≤ k → lines_of m text ≡ lines_of k text
lines_same zero k text h j = grind (arith, no_lines)
lines_same (suc m) zero text h j = grind (arith, no_lines)
lines_same (suc m) (suc k) [] h j = grind (arith, no_lines)
lines_same (suc m) (suc k) (b ∷ bs) h j =
    let s = after_shorter (b ∷ bs) (omega arith) in
    let one = one_line m (b ∷ bs) (omega arith) in
    let other = one_line k (b ∷ bs) (omega arith) in
    let less = lines_same m k (after_line (b ∷ bs)) (omega arith) (omega arith) in
    cc

lines_one : (text : List ℕ) → 0 < length text → lines text ≡ first_line text ∷ lines (after_line text)
lines_one [] some = absurd (omega arith)
lines_one (b ∷ bs) some =
    let s = after_shorter (b ∷ bs) some in
    let one = one_line (length bs) (b ∷ bs) some in
    let same = lines_same (length bs) (length (after_line (b ∷ bs))) (after_line (b ∷ bs)) (omega arith) (omega arith) in
    cc

pub followed_assoc : (a b c : Printed) → followed_by (followed_by a b) c ≡ followed_by a (followed_by b c)
followed_assoc a b c =
    let t = append_assoc a.text b.text c.text in
    let r = and_assoc a.all_read b.all_read c.all_read in
    cc

followed_nothing : (a : Printed) → followed_by a nothing ≡ a
followed_nothing a = rw (append-nil a.text) rw (and-true a.all_read) refl

-- a market does nothing where no line is left
pub trading_end : (p : Printed) (s : State) (n : ℕ) (text : List ℕ) → length text ≡ 0 → followed_by p (trading s n (lines text)) ≡ p
unfolding trading
trading_end p s n text none = rw (no_lines (length text) text none) (followed_nothing p)

-- one line on a market, and the lines behind it
pub trading_turn : (p p' : Printed) (s s' : State) (n n' : ℕ) (text line behind : List ℕ) (t : Result (Option Answer) LineFault)
    → 0 < length text → line ≡ first_line text → n' ≡ n + 1 → behind ≡ after_line text
    → t ≡ line_taken (line_read line) s → s' ≡ line_after (line_read line) s → p' ≡ followed_by p (taken_printed n t)
    → followed_by p' (trading s' n' (lines behind)) ≡ followed_by p (trading s n (lines text))
unfolding trading
trading_turn p p' s s' n n' text line behind t some el en eb et es ep =
    rw (lines_one text some) rw ep rw et rw es rw en rw eb rw el
    (followed_assoc p (taken_printed n (line_taken (line_read (first_line text)) s)) (trading (line_after (line_read (first_line text)) s) (n + 1) (lines (after_line text))))

-- nothing is set up where no line is left
pub day_end : (p : Printed) (h : Host) (n : ℕ) (text : List ℕ) → length text ≡ 0 → followed_by p (trading (begun_by h) n (lines text)) ≡ followed_by p (day h n (lines text))
unfolding trading day
day_end p h n text none = rw (no_lines (length text) text none) refl

-- one line before the first call or question, or that one
pub day_turn : (p : Printed) (h : Host) (n n' : ℕ) (text line behind : List ℕ) (st : Result (Option Host) LineFault)
    → 0 < length text → line ≡ first_line text → n' ≡ n + 1 → behind ≡ after_line text → st ≡ line_settled h (line_read line)
    → followed_by p (day_on st h n (trading (begun_by h) n (lines text)) (λ next. day next n' (lines behind))) ≡ followed_by p (day h n (lines text))
unfolding day
day_turn p h n n' text line behind st some el en eb es = rw es rw el rw en rw eb rw (lines_one text some) refl
