use Rattle.std.proofs.Common.{rules, ◌≡◌, ap, ◌∙◌, subst}
use Rattle.std.specs.Iterator.Runs.{ItemsMapTo}
use Rattle.std.specs.Slice.Iter.{iter_rest}
use Rattle.sheet.specs.Words.{words}
use Rattle.sheet.proofs.Titles.{found}
use Rattle.sheet.proofs.names.name_among.Goals as goal

pub returns : goal.returns
returns c =
    let r = c.find_map.ensures.runs in
    let all : iter_rest r.0.from ≡ c.args.names.now = ap iter_rest r.1 ∙ c.iter.ensures.rest in
    found _ _ (λ p. (p.0, words p.1.now)) (words c.args.line.now) (λ x o q k. search rules) r.0 c.args.names.now c.find_map.result
    (subst (ItemsMapTo r.0 (λ y. y.now)) all (c.iter.ensures.runs r.0 r.0.seen))
    r.2
