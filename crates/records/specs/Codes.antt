-- The closed lists of the market, each case with its number.
use Rattle.std.specs.Prelude.{◌≡◌, ℕ, cond, Some, None, Option, Result, ◌==◌, ◌≢◌}
use Rattle.std.specs.Option.{ok_or}
use Rattle.records.specs.declared.codes.Direction.{Direction}
use Rattle.records.specs.declared.codes.Direction.TheVariants.{Buy, Sell}
use Rattle.records.specs.declared.codes.OrderType.{OrderType}
use Rattle.records.specs.declared.codes.OrderType.TheVariants.{Limit, Ioc, Fok}
use Rattle.records.specs.declared.codes.Ending.{Ending}
use Rattle.records.specs.declared.codes.Ending.TheVariants.{Filled, Withdrawn, Removed}
use Rattle.records.specs.declared.codes.Phase.{Phase}
use Rattle.records.specs.declared.codes.Phase.TheVariants.{Suspended, Trading}
use Rattle.records.specs.declared.codes.UnknownCode.{UnknownCode}

abbrev pub direction_code : Direction → ℕ
direction_code Buy = 1
direction_code Sell = 2

abbrev pub type_code : OrderType → ℕ
type_code Limit = 0
type_code Ioc = 3
type_code Fok = 4

abbrev pub ending_code : Ending → ℕ
ending_code Filled = 1
ending_code Withdrawn = 2
ending_code Removed = 3

-- 0 while an order has not ended
abbrev pub endings_code : Option Ending → ℕ
endings_code None = 0
endings_code (Some e) = ending_code e

abbrev pub phase_code : Phase → ℕ
phase_code Suspended = 0
phase_code Trading = 1

-- What reading a number answers: the case that has it, or nothing where no case has it.
abbrev pub Reads : {E : Type 0} → (E → ℕ) → ℕ → Option E → Type 0
Reads code n (Some e) = code e ≡ n
Reads {E} code n None = (e : E) → code e ≢ n

-- A number read as the definition `of` says: the case that has it, or else the number as an unknown one.
pub record Decodes {E : Type 0} (code : E → ℕ) (of : ℕ → Option E) (n : ℕ) (answer : Result E UnknownCode) : Type 0 where
  pub value : answer ≡ ok_or (of n) (record { code = n })
  pub reads : Reads code n (of n)

abbrev pub direction_of : ℕ → Option Direction
direction_of n = cond (n == 1) (Some Buy) (cond (n == 2) (Some Sell) None)

abbrev pub type_of : ℕ → Option OrderType
type_of n = cond (n == 0) (Some Limit) (cond (n == 3) (Some Ioc) (cond (n == 4) (Some Fok) None))
