-- What holds of each record holds of a record that has a number.
use Rattle.std.proofs.Common.{◌≡◌, ℕ, zero, suc, ◌<◌, List, length, get_or, Some, None, Ok, Option, Result, subst, arith}
use Rattle.std.proofs.lemmas.Option.{slice_get_within, get_or_from_slice_get}
use Rattle.std.specs.Option.{ok_or}
use Rattle.records.specs.Registers.{numbered}
use Rattle.market.specs.declared.refusal.Refusal.{Refusal}
use Rattle.market.specs.declared.refusal.Refusal.TheVariants.{Unknown}

module _ {T : Type 0} (P : T → Type 0) (d x : T) where
  pub at_number : (xs : List T) (n : ℕ) → ((j : ℕ) → j < length xs → P (get_or xs j d)) → numbered xs n ≡ Some x → P x
  at_number xs zero all e = let z : ◌≡◌ {A = ℕ} 0 1 = cc in absurd (omega arith)
  at_number xs (suc k) all e = subst P (get_or_from_slice_get xs k x d e) (all k (slice_get_within xs k x e))

-- a record that was told is there
pub told_known : {T : Type 0} (o : Option T) (x : T) → ◌≡◌ {A = Result T Refusal} (Ok x) (ok_or o Unknown) → o ≡ Some x
told_known None x e = let z : ◌≡◌ {A = ℕ} 0 1 = cc in absurd (omega arith)
told_known (Some y) x e = cc
