use Rattle.books.proofs.Small.{sums_stay_small}
use Rattle.books.proofs.growth.sums_stay_small.Goals as goal

pub returns : goal.returns
returns c = sums_stay_small
