-- The grounds in the order in which each call looks at them, and the law of which one is answered.
use Rattle.std.specs.Prelude.{◌≡◌, ℕ, Bool, true, false, ◌⊎◌, List, [], ◌∷◌, is_ok, Some, None, Err, Option, Result}
use Rattle.market.specs.declared.refusal.Refusal.{Refusal}
use Rattle.market.specs.Refusals.{ground}

-- the ten calls
pub data Call : Type 0 where
  list_contract_call : Call
  list_instrument_call : Call
  admit_account_call : Call
  resume_call : Call
  suspend_call : Call
  submit_call : Call
  withdraw_call : Call
  change_call : Call
  clear_call : Call
  close_call : Call

-- the numbers of a call's grounds, in the order in which they are looked at
abbrev pub order : Call → List ℕ
order list_contract_call = 1 ∷ 3 ∷ 6 ∷ []
order list_instrument_call = 1 ∷ 3 ∷ 6 ∷ []
order admit_account_call = 1 ∷ 3 ∷ 6 ∷ []
order resume_call = 1 ∷ []
order suspend_call = 1 ∷ []
order submit_call = 1 ∷ 2 ∷ 3 ∷ 4 ∷ 5 ∷ 6 ∷ 7 ∷ 8 ∷ []
order withdraw_call = 2 ∷ 9 ∷ 10 ∷ []
order change_call = 1 ∷ 2 ∷ 9 ∷ 10 ∷ 3 ∷ 4 ∷ 5 ∷ 6 ∷ 7 ∷ 8 ∷ []
order clear_call = 1 ∷ 2 ∷ 3 ∷ []
order close_call = 1 ∷ 3 ∷ []

-- a number stands in a list
abbrev pub Stands : ℕ → List ℕ → Type 0
Stands n [] = ⊥
Stands n (x ∷ xs) = (n ≡ x) ⊎ Stands n xs

-- one number stands before another in a list
abbrev pub Before : List ℕ → ℕ → ℕ → Type 0
Before [] m n = ⊥
Before (x ∷ xs) m n = ((m ≡ x) × Stands n xs) ⊎ Before xs m n

-- a ground strikes, and none that stands before it in the order does
abbrev pub First : List ℕ → (Refusal → Type 0) → Refusal → Type 0
First numbers Strikes g = Strikes g × ((f : Refusal) → Before numbers (ground f) (ground g) → Strikes f → ⊥)

-- A call answers a ground exactly when that ground strikes and none before it does, and is taken exactly when none
-- strikes.
pub record ByTheGrounds {A : Type 0} (numbers : List ℕ) (Strikes : Refusal → Type 0) (answer : Result A Refusal) : Type 0 where
  pub strikes_first : (g : Refusal) → answer ≡ Err g → First numbers Strikes g
  pub is_answered : (g : Refusal) → First numbers Strikes g → answer ≡ Err g
  pub none_strikes : is_ok answer ≡ true → (g : Refusal) → Strikes g → ⊥
  pub is_taken : ((g : Refusal) → Strikes g → ⊥) → is_ok answer ≡ true

-- a check: the ground that strikes, or nothing
abbrev pub strike_if : Bool → Refusal → Option Refusal
strike_if true g = Some g
strike_if false g = None

-- the first ground that strikes
abbrev pub first_struck : List (Option Refusal) → Option Refusal
first_struck [] = None
first_struck (None ∷ rest) = first_struck rest
first_struck (Some g ∷ rest) = Some g
