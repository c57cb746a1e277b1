use Rattle.sheet.proofs.KeyNames.{key_read}
use Rattle.sheet.proofs.key.Key.from_name.Goals as goal

pub returns : goal.returns
returns c = record { value = c.key_among.ensures; known = key_read c.args.text.now c.key_among.result c.key_among.ensures }
