use Rattle.std.proofs.Common.{◌≡◌, ◌≤◌, ℕ, cond, None, Some, sym, subst, arith, rules, true-eqb, false-eqb, ◌∙◌, ap}
use Rattle.std.specs.Option.{IfSome}
use Rattle.sheet.specs.Numbers.{digit, up_to, number_from, number_up_to}
use Rattle.sheet.proofs.Folds.{answer_from_try_fold}
use Rattle.sheet.proofs.Numerals.{next, out, on, ended, begun, empty, within}
use Rattle.sheet.proofs.numbers.number_up_to.Goals as goal

pub returns-then-is_empty : goal.returns-then-is_empty
returns-then-is_empty c =
    record { value = sym (empty c.args.most c.args.text.now (true-eqb _ _ c.if-is_empty.ensures)); within = tt }

pub returns : goal.returns
returns c =
    let most : ℕ = c.args.most in
    let read : c.try_fold.result ≡ up_to most (number_from 0 c.iter.result.rest.now) =
    answer_from_try_fold _ _ _ (λ n b. cond (digit b) (up_to most (Some (next n b))) None) (λ n bs. up_to most (number_from n bs)) (λ n. n ≤ most)
    (λ n x o q k. search rules) (ended most) (out most) (on most) c.iter.result c.try_fold.new.self 0 c.try_fold.result c.try_fold.ensures.ran (omega arith) in
    let value : c.try_fold.result ≡ number_up_to most c.args.text.now =
    read ∙ (ap (λ bs. up_to most (number_from 0 bs)) c.iter.ensures.rest ∙ begun most c.args.text.now (false-eqb _ _ c.if-is_empty.ensures)) in
    record { value = value; within = subst (λ o. IfSome o (λ n. n ≤ most)) (sym value) (within most _) }
