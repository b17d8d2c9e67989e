use Rattle.std.proofs.Common.{◌<◌, ◌^◌, length, Some, arith}
use Rattle.hub_messages.specs.Spelling.Fields.{carried}
use Rattle.hub_messages.proofs.FieldLemmas.{short_text}
use Rattle.hub_messages.proofs.fields.put_carried.Goals as goal

pub put_name-requires : goal.put_name-requires
put_name-requires c =
    let short : length (carried (Some c.in-Some.text)) < 2 ^ 28 = rw c.in-Some.is at c.requires in
    omega (arith, short_text c.in-Some.text)
