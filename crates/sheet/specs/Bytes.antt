-- Bytes, and where a text is cut.
use Rattle.std.specs.Prelude.{◌≡◌, ℕ, Bool, not, ◌||◌, List, drop, ◌==◌}
use Rattle.std.specs.Fn.{Shared}
use Rattle.std.specs.List.{position_or_len}

-- a space or a tab
abbrev pub blank : ℕ → Bool
blank b = b == 32 || b == 9

-- no blank
abbrev pub ink : ℕ → Bool
ink b = not (blank b)

abbrev pub equals_sign : ℕ → Bool
equals_sign b = b == 61

abbrev pub line_feed : ℕ → Bool
line_feed b = b == 10

-- each call of f answers what the test says of its byte
abbrev pub Answers : {F : Type 0} → Shared F (ℕ × Unit {0}) Bool → (ℕ → Bool) → F → Type 0
Answers g test f = (b : ℕ) (answer : Bool) → g.post f (b, tt) answer → answer ≡ test b

-- a text from its first byte on that passes a test, or nothing where none does
abbrev pub from_first : (ℕ → Bool) → List ℕ → List ℕ
from_first test bs = drop (position_or_len test bs) bs
