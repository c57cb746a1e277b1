use Rattle.std.proofs.Common.{sym, ◌∙◌}
use Rattle.std.proofs.lemmas.Result.{err_from_is_err_and}
use Rattle.sheet.specs.Faults.{fault_told}
use Rattle.sheet.proofs.Gathering.{at_fault, one_more, all_read}
use Rattle.sheet.proofs.fields.read_fields.Goals as goal

pub returns-in_err-values : goal.returns-in_err-values
returns-in_err-values c =
    let p = err_from_is_err_and c.from_residual.result c.from_residual.ensures.1 in
    rw (p.1, p.2)
    (sym (at_fault c.args.keys.now c.loop-word.values c.in-Some.word.now _ _ (fault_told c.in_err-values.field-0.0) c.in-Some.ensures.steps c.in_err-values.ensures) ∙ c.loop-word.invariant)

pub loop-word-preserved : goal.loop-word-preserved
loop-word-preserved c =
    sym (one_more c.args.keys.now c.loop-word.values c.in_ok-values.values c.in-Some.word.now _ _ c.in-Some.ensures.steps c.in_ok-values.ensures)
    ∙ c.loop-word.invariant

pub returns : goal.returns
returns c = sym (all_read c.args.keys.now c.loop-word.values _ c.in-None.ensures.steps.0) ∙ c.loop-word.invariant
