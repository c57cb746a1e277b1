-- Decimal numbers.
use Rattle.std.specs.Prelude.{ℕ, ◌+◌, ◌-◌, ◌*◌, Bool, cond, ◌&&◌, List, [], ◌∷◌, drop, ℤ, pos, neg_ℤ, Some, None, Option, ◌==◌, nat_le, slice_index}
use Rattle.std.specs.Option.{option_map}
use Rattle.sheet.specs.declared.number_kind.NumberKind.{NumberKind}
use Rattle.sheet.specs.declared.number_kind.NumberKind.TheVariants.{Unsigned, Signed, Long}
use Rattle.sheet.specs.declared.value.Value.{Value}
use Rattle.sheet.specs.declared.value.Value.TheVariants.{Count, Price, Amount}

-- a decimal digit
abbrev pub digit : ℕ → Bool
digit b = nat_le 48 b && nat_le b 57

-- the number that digits write behind those of n, or none where a byte is no digit
unfoldable pub number_from : ℕ → List ℕ → Option ℕ
number_from n [] = Some n
number_from n (b ∷ bs) = cond (digit b) (number_from (n * 10 + (b - 48)) bs) None

-- the number that one or more digits write
unfoldable pub number : List ℕ → Option ℕ
number [] = None
number (b ∷ bs) = number_from 0 (b ∷ bs)

-- a number that is not above the most
abbrev pub up_to : ℕ → Option ℕ → Option ℕ
up_to most None = None
up_to most (Some n) = cond (nat_le n most) (Some n) None

-- the number without a sign that a text writes, if it is not above the most
abbrev pub number_up_to : ℕ → List ℕ → Option ℕ
number_up_to most bs = up_to most (number bs)

-- the signed number of 32 bits that a text writes, with a minus in front where it is negative
abbrev pub signed_number : List ℕ → Option ℤ
signed_number bs =
    cond (slice_index bs 0 == 45)
    (option_map (λ n. neg_ℤ (pos n)) (number_up_to 2147483648 (drop 1 bs)))
    (option_map (λ n. pos n) (number_up_to 2147483647 bs))

-- the value that a text writes, if it is a number of this kind
abbrev pub value_of : NumberKind → List ℕ → Option Value
value_of Unsigned bs = option_map (λ n. Count n) (number_up_to 4294967295 bs)
value_of Signed bs = option_map (λ n. Price n) (signed_number bs)
value_of Long bs = option_map (λ n. Amount n) (number_up_to 18446744073709551615 bs)
