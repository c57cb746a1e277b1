use Rattle.std.proofs.Common.{◌≡◌, ap, ◌∙◌, rules}
use Rattle.sheet.specs.Bytes.{ink, from_first}
use Rattle.sheet.specs.Words.{words}
use Rattle.sheet.proofs.Cutting.{skip}
use Rattle.sheet.proofs.words.from_first_word.Goals as goal

pub returns : goal.returns
returns c =
    let behind : c.cut.result.1.now ≡ from_first ink c.args.line.now = c.cut.ensures.behind ink (λ b r k. search rules) in
    record { text = behind; same = ap words behind ∙ skip c.args.line.now }
