use Rattle.std.proofs.Common.{◌≡◌, ◌-◌, length, None, rules}
use Rattle.razor_reader.specs.WholeReading.{parts}
use Rattle.razor_reader.proofs.PlaceLemmas.{placed_in}
use Rattle.razor_reader.proofs.reader.parts_of.Goals as goal

pub returns-in_ok-end-in-Err-Syntax : goal.returns-in_ok-end-in-Err-Syntax
returns-in_ok-end-in-Err-Syntax c =
    let kept = c.args.kept.now in
    let none : parts c.args.kept.now ≡ None = search rules in
    (none, placed_in c.args.text.now kept (length kept - c.in-Err-Syntax.left) c.in_ok-end-in-Err-Syntax.end c.place_before.result c.requires.kept c.in_ok-end-in-Err-Syntax.ensures c.place_before.ensures)
