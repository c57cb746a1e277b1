-- The fields of a line: words with a key, an equals sign and a value.
use Rattle.std.specs.Prelude.{ℕ, Bool, cond, not, ◌&&◌, List, [], ◌∷◌, length, is_some, Some, None, Ok, Err, Option, Result, ◌==◌}
use Rattle.std.specs.List.{before_first, after_first, find}
use Rattle.sheet.specs.declared.fault.Fault.TheVariants.{UnknownKey, Repeated, NotANumber}
use Rattle.sheet.specs.declared.key.Key.{Key}
use Rattle.sheet.specs.declared.value.Value.{Value}
use Rattle.sheet.specs.declared.values.Values.{Values}
use Rattle.sheet.specs.Bytes.{equals_sign, from_first}
use Rattle.sheet.specs.Faults.{LineFault, and_then}
use Rattle.sheet.specs.Keys.{key_kind, needed, key_among}
use Rattle.sheet.specs.Numbers.{value_of}
use Rattle.sheet.specs.Values.{value_at, with_value}

-- the one of these keys that stands before the word's first equals sign
abbrev pub field_key : List Key → List ℕ → Option Key
field_key keys word = cond (length (from_first equals_sign word) == 0) None (key_among keys (before_first equals_sign word))

-- what stands behind the first equals sign
abbrev pub field_text : List ℕ → List ℕ
field_text word = after_first equals_sign word

-- the values with that of a key that has none yet
abbrev pub with_number : Values → Key → Option Value → Result Values LineFault
with_number vs key None = Err (NotANumber key)
with_number vs key (Some x) = Ok (with_value vs key x)

abbrev pub with_text : Values → Key → List ℕ → Result Values LineFault
with_text vs key text = cond (is_some (value_at vs key)) (Err (Repeated key)) (with_number vs key (value_of (key_kind key) text))

-- the values with that of a field, whose key is one of those that the entry takes
abbrev pub with_keyed : Values → Option Key → List ℕ → Result Values LineFault
with_keyed vs None word = Err (UnknownKey (before_first equals_sign word))
with_keyed vs (Some key) word = with_text vs key (field_text word)

abbrev pub with_field : List Key → Values → List ℕ → Result Values LineFault
with_field keys vs word = with_keyed vs (field_key keys word) word

-- the values with those of all fields, or the fault of the first word that has one
unfoldable pub with_fields : List Key → Values → List (List ℕ) → Result Values LineFault
with_fields keys vs [] = Ok vs
with_fields keys vs (word ∷ others) = and_then (with_field keys vs word) (λ more. with_fields keys more others)

-- the first of these keys that is needed and has no value
abbrev pub missing : Values → Key → Bool
missing vs key = needed key && not (is_some (value_at vs key))

abbrev pub first_missing : List Key → Values → Option Key
first_missing keys vs = find (missing vs) keys
