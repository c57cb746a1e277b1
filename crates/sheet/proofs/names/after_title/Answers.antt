use Rattle.std.proofs.Common.{sym, ◌∙◌}
use Rattle.std.proofs.lemmas.Bool.{not-true, not-false}
use Rattle.sheet.proofs.Titles.{told_whole, too_short, differs, agrees}
use Rattle.sheet.proofs.names.after_title.Goals as goal

pub returns-in_err-next : goal.returns-in_err-next
returns-in_err-next c =
    rw c.from_residual.ensures
    (sym (too_short c.in-Some.part.now _ _ _ c.in-Some.ensures.steps c.in_err-next.ensures.steps.0) ∙ c.loop-part.invariant)

pub returns-then-ne : goal.returns-then-ne
returns-then-ne c =
    sym (differs c.in-Some.part.now c.in_ok-next.field-0.now _ _ _ _ c.in-Some.ensures.steps c.in_ok-next.ensures.steps (not-true _ (sym c.if-ne.ensures)))
    ∙ c.loop-part.invariant

pub loop-part-preserved : goal.loop-part-preserved
loop-part-preserved c =
    sym (agrees c.in-Some.part.now c.in_ok-next.field-0.now _ _ _ _ c.in-Some.ensures.steps c.in_ok-next.ensures.steps (not-false _ (sym c.if-ne.ensures)))
    ∙ c.loop-part.invariant

pub returns : goal.returns
returns c = sym (told_whole _ _ c.in-None.ensures.steps.0) ∙ c.loop-part.invariant
