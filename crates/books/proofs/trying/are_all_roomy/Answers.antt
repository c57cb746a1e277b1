use Rattle.std.proofs.Common.{rules, tests}
use Rattle.std.proofs.lemmas.Iterator.Search.{all_from_yields_List}
use Rattle.std.proofs.lemmas.Iterator.{YieldsList-from_slice}
use Rattle.books.specs.Trying.{roomy}
use Rattle.books.proofs.trying.are_all_roomy.Goals as goal

pub returns : goal.returns
returns c = all_from_yields_List (roomy c.args.contract) _ _ _ c.all.ensures.ran (YieldsList-from_slice c.args.accounts.now cc) (λ x b q k. search (rules, tests))
