-- The lines of a sheet and the words of a line.
use Rattle.std.specs.Prelude.{ℕ, ◌-◌, Bool, true, false, cond, List, [], ◌∷◌, length, take, ◌==◌, slice_index}
use Rattle.std.specs.List.{before_first, after_first}
use Rattle.sheet.specs.Bytes.{blank, line_feed}

-- A word begins at each byte that is not blank and does not go on with a word, and reaches to the next blank.
unfoldable pub words_from : Bool → List ℕ → List (List ℕ)
words_from in_word [] = []
words_from in_word (b ∷ bs) =
    cond (blank b) (words_from false bs) (cond in_word (words_from true bs) ((b ∷ before_first blank bs) ∷ words_from true bs))

-- the words of a line
abbrev pub words : List ℕ → List (List ℕ)
words bs = words_from false bs

-- a line without the one carriage return that may stand at its end
abbrev pub without_return : List ℕ → List ℕ
without_return bs = cond (slice_index bs (length bs - 1) == 13) (take (length bs - 1) bs) bs

-- the first line of a text, which ends before a line feed or with the text
abbrev pub first_line : List ℕ → List ℕ
first_line text = without_return (before_first line_feed text)

-- what stands behind the first line feed
abbrev pub after_line : List ℕ → List ℕ
after_line text = after_first line_feed text
