use Rattle.std.proofs.Common.{rules, ◌≡◌, ℕ, Bool, List, length, arith, ◌∙◌}
use Rattle.std.proofs.lemmas.Grind.{common_steps}
use Rattle.std.proofs.lemmas.Iterator.{YieldsList-from_slice}
use Rattle.std.proofs.lemmas.Iterator.Search.{position_from_yields_List}
use Rattle.std.proofs.lemmas.List.Sums.{prefix_len-le-length}
use Rattle.std.specs.List.{position_or_len, position}
use Rattle.std.specs.Option.{unwrap_or}
use Rattle.sheet.specs.Bytes.{Answers}
use Rattle.sheet.proofs.bytes.cut.Goals as goal

-- the place of the first that passes, or else the length
reached : (test : ℕ → Bool) (xs : List ℕ) → unwrap_or (position test xs) (length xs) ≡ position_or_len test xs
reached test xs = grind (arith, common_steps, prefix_len-le-length)

pub returns : goal.returns
returns g c =
    let place : (test : ℕ → Bool) → Answers g.P.Fn test c.args.passes → c.unwrap_or-n.result ≡ position_or_len test c.args.text.now =
    λ test h.
    let e : c.position.result ≡ position test c.args.text.now = position_from_yields_List test _ _ c.position.result c.position.ensures.ran (YieldsList-from_slice c.args.text.now cc) (λ x b q k. search (rules, h)) in
    c.unwrap_or-n.ensures ∙ rw e (reached test c.args.text.now) in
    record {
      front = λ test h. let e = place test h in cc;
      behind = λ test h. let e = place test h in cc;
    }
