-- Signed numbers within bounds.
use Rattle.std.proofs.Common.{ℕ, suc, ◌*◌, ◌≤◌, ℤ, pos, negsuc, ◌*ℤ◌, nat_abs, le_trans, mul-le-mul, div-le_self, arith}
use Rattle.std.specs.Prelude.{int_div}
use Rattle.std.proofs.lemmas.Int.{ints, unsigned_abs-mul}

pub mul_within : (a b : ℤ) (m n : ℕ) → nat_abs a ≤ m → nat_abs b ≤ n → nat_abs (a *ℤ b) ≤ m * n
mul_within a b m n h k = rw unsigned_abs-mul (mul-le-mul h k)

pub quot_within : (a : ℤ) (r m : ℕ) → nat_abs a ≤ m → nat_abs (int_div a (pos r)) ≤ m
quot_within (pos a) r m h = le_trans (div-le_self a r) h
quot_within (negsuc a) r m h = let k = div-le_self (suc a) r in omega (arith, ints)
