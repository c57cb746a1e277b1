use Rattle.std.proofs.Common.{◌≡◌, pos, ◌∙◌, arith, w64, to_z, of_z}
use Rattle.std.proofs.lemmas.Int.{ints, to_z-of_z}
use Rattle.books.specs.Value.{value_at}
use Rattle.books.proofs.Values.{divisor_positive, value_fits, value_bounded, product_small, quotient}
use Rattle.books.proofs.value.value_in.Goals as goal

pub divided-requires : goal.divided-requires
divided-requires c =
    let contract = c.args.contract.now in
    let p : to_z w64 (of_z w64 c.from.result) ≡ c.args.price = omega (arith, ints) in
    let w : to_z w64 (of_z w64 c.from-2.result) ≡ pos contract.terms.w = omega (arith, ints) in
    (divisor_positive contract, product_small contract c.args.price c.ranges.price p w)

pub returns : goal.returns
returns c =
    let contract = c.args.contract.now in
    let p : to_z w64 (of_z w64 c.from.result) ≡ c.args.price = omega (arith, ints) in
    let w : to_z w64 (of_z w64 c.from-2.result) ≡ pos contract.terms.w = omega (arith, ints) in
    let q : c.divided.result ≡ value_at contract c.args.price = c.divided.ensures ∙ quotient contract c.args.price c.ranges.price p w in
    let f = value_fits contract c.args.price c.ranges.price in
    record { value = rw (q, to_z-of_z w64 _ f); bound = rw (q, to_z-of_z w64 _ f) (value_bounded contract c.args.price) }
