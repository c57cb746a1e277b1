use Rattle.std.proofs.Common.{rules, ◌≡◌, drop, Some, ap, sym, ◌∙◌}
use Rattle.std.proofs.lemmas.List.{drop-drop}
use Rattle.std.specs.List.{position_or_len}
use Rattle.sheet.specs.Bytes.{equals_sign, from_first}
use Rattle.sheet.specs.Fields.{field_key, field_text}
use Rattle.sheet.proofs.fields.with_field.Goals as goal

pub returns : goal.returns
returns c =
    let keyed : field_key c.args.keys.now c.args.word.now ≡ Some c.in_ok-key.key = sym c.field_key.ensures ∙ c.in_ok-key.ensures.ok_part in
    let behind : c.cut.result.1.now ≡ from_first equals_sign c.args.word.now = c.cut.ensures.behind equals_sign (λ b r k. search rules) in
    let text : c.without_first.result.now ≡ field_text c.args.word.now =
    c.without_first.ensures ∙ (ap (drop 1) behind ∙ drop-drop 1 (position_or_len equals_sign c.args.word.now) c.args.word.now) in
    rw (keyed, ← text) c.with_text.ensures
