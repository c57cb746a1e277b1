-- The values of a line's fields, by key.
use Rattle.std.specs.Prelude.{◌≡◌, ℕ, length, replicate, ℤ, Some, None, Option, Result, slice_index_or, slice_set, unwrap_or}
use Rattle.std.specs.Option.{option_and_then}
use Rattle.std.specs.Result.{result_ok}
use Rattle.sheet.specs.declared.key.Key.{Key}
use Rattle.sheet.specs.declared.value.Value.{Value}
use Rattle.sheet.specs.declared.value.Value.TheVariants.{Count, Price, Amount}
use Rattle.sheet.specs.declared.values.Values.{Values}
use Rattle.sheet.specs.Keys.{all_keys, place}

abbrev pub no_values : Values
no_values = record { given = replicate (length all_keys) None }

-- the value of a key, if it was given
abbrev pub value_at : Values → Key → Option Value
value_at vs key = slice_index_or vs.given (place key) None

-- the values with one of a further key
abbrev pub with_value : Values → Key → Value → Values
with_value vs key x = record { given = slice_set vs.given (place key) (Some x) }

-- the number that a value is, if it is of one kind
abbrev pub count_of : Value → Option ℕ
count_of (Count n) = Some n
count_of other = None

abbrev pub price_of : Value → Option ℤ
price_of (Price p) = Some p
price_of other = None

abbrev pub amount_of : Value → Option ℕ
amount_of (Amount n) = Some n
amount_of other = None

-- a conversion of values, told by what it gives, gives the numbers of one kind
abbrev pub Converts : {T E : Type 0} → (Value → Result T E → Type 0) → (Value → Option T) → Type 0
Converts {T} {E} gives number_of = (x : Value) (r : Result T E) → gives x r → result_ok r ≡ number_of x

-- the number of a value of one kind; nought where there is no value of that kind
abbrev pub number_or : {T : Type 0} → T → (Value → Option T) → Option Value → T
number_or nought number_of o = unwrap_or (option_and_then number_of o) nought
