use Rattle.std.proofs.Common.{◌≡◌, ◌<◌, length, sym, ap, ◌∙◌, arith, true-eqb, false-eqb, rules}
use Rattle.std.proofs.lemmas.List.{nil_from_length, length-drop}
use Rattle.std.specs.List.{position_or_len, before_first}
use Rattle.sheet.specs.Bytes.{blank, ink, from_first}
use Rattle.sheet.proofs.Cutting.{first, none}
use Rattle.sheet.proofs.words.first_word.Goals as goal

pub returns-then-is_empty : goal.returns-then-is_empty
returns-then-is_empty c =
    let behind = c.from_first_word-inked.ensures.text in
    record {
      value = none c.args.line.now (sym behind ∙ nil_from_length c.from_first_word-inked.result.now (true-eqb _ _ c.if-is_empty.ensures));
      shorter = tt;
    }

pub returns : goal.returns
returns c =
    let behind = c.from_first_word-inked.ensures.text in
    let word : c.cut.result.0.now ≡ before_first blank c.from_first_word-inked.result.now = c.cut.ensures.front blank (λ b r k. search rules) in
    let after : c.cut.result.1.now ≡ from_first blank c.from_first_word-inked.result.now = c.cut.ensures.behind blank (λ b r k. search rules) in
    let long : 0 < length (from_first ink c.args.line.now) = rw (← behind) (omega (arith, false-eqb _ _ c.if-is_empty.ensures)) in
    let f = first c.args.line.now long in
    let w : c.cut.result.1.now ≡ from_first blank (from_first ink c.args.line.now) = cc in
    record {
      value = cc f.1;
      shorter = omega (arith, f.0, ap length w, length-drop (position_or_len blank (from_first ink c.args.line.now)) (from_first ink c.args.line.now), length-drop (position_or_len ink c.args.line.now) c.args.line.now);
    }
