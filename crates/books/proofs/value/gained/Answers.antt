use Rattle.std.proofs.Common.{w64}
use Rattle.std.proofs.lemmas.Int.{to_z-of_z}
use Rattle.books.proofs.Values.{told, told_small, difference_within, difference_fits}
use Rattle.books.proofs.value.gained.Goals as goal

pub less-requires : goal.less-requires
less-requires c =
    let contract = c.args.contract.now in
    let to = told contract c.args.to c.ranges.to c.value_in.ensures.value in
    let from = told contract c.args.from c.ranges.from c.value_in-2.ensures.value in
    (rw to (told_small contract c.args.to c.ranges.to), rw from (told_small contract c.args.from c.ranges.from))

pub returns : goal.returns
returns c =
    let contract = c.args.contract.now in
    let to = told contract c.args.to c.ranges.to c.value_in.ensures.value in
    let from = told contract c.args.from c.ranges.from c.value_in-2.ensures.value in
    let difference = to_z-of_z w64 _ (difference_fits contract c.args.to c.args.from c.ranges.to c.ranges.from) in
    record {
      value = rw (c.less.ensures, to, from, difference);
      bound = rw (c.less.ensures, to, from, difference) (difference_within contract c.args.to c.args.from);
    }
