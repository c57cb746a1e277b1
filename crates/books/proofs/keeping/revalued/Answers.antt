use Rattle.std.proofs.Common.{◌≡◌, ◌*ℤ◌, refl, arith, w64, to_z, of_z}
use Rattle.std.proofs.lemmas.Int.{ints, fits_signed_from_abs}
use Rattle.records.specs.Accounts.{holding}
use Rattle.books.specs.Accounts.{revalued}
use Rattle.books.proofs.Holdings.{same_account}
use Rattle.books.proofs.Within.{mul_within}
use Rattle.books.proofs.keeping.revalued.Goals as goal

pub overflow_mul-account : goal.overflow_mul-account
overflow_mul-account c =
    let lots : to_z w64 (of_z w64 c.lots_in.result) ≡ holding c.args.account c.args.contract = omega (arith, ints) in
    let change : to_z w64 (of_z w64 c.args.change) ≡ c.args.change = omega (arith, ints) in
    let small = mul_within (holding c.args.account c.args.contract) c.args.change 100000000 2000000000 c.requires.small.0 c.requires.change in
    rw (lots, change) (fits_signed_from_abs w64 (holding c.args.account c.args.contract *ℤ c.args.change) (omega arith))

pub overflow_add-account : goal.overflow_add-account
overflow_add-account c =
    let lots : to_z w64 (of_z w64 c.lots_in.result) ≡ holding c.args.account c.args.contract = omega (arith, ints) in
    let change : to_z w64 (of_z w64 c.args.change) ≡ c.args.change = omega (arith, ints) in
    let small = mul_within (holding c.args.account c.args.contract) c.args.change 100000000 2000000000 c.requires.small.0 c.requires.change in
    rw (lots, change) (fits_signed_from_abs w64 _ (omega (arith, ints)))

pub returns : goal.returns
unfolding revalued
returns c =
    let lots : to_z w64 (of_z w64 c.lots_in.result) ≡ holding c.args.account c.args.contract = omega (arith, ints) in
    let change : to_z w64 (of_z w64 c.args.change) ≡ c.args.change = omega (arith, ints) in
    let small = mul_within (holding c.args.account c.args.contract) c.args.change 100000000 2000000000 c.requires.small.0 c.requires.change in
    same_account _ _ _ _ _ _ _ refl (rw (lots, change) (omega (arith, ints)))
