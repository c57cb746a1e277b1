-- Files one after another.
use Rattle.std.specs.Prelude.{ℕ, ◌-◌, Bool, cond, ◌||◌, List, [], ◌∷◌, ◌++◌, length, ◌==◌, slice_index}

-- a text is empty, or a line feed stands at its end
abbrev pub last_ended : List ℕ → Bool
last_ended text = length text == 0 || slice_index text (length text - 1) == 10

-- a text whose last line has its end
abbrev pub ended : List ℕ → List ℕ
ended text = cond (last_ended text) text (text ++ 10 ∷ [])
