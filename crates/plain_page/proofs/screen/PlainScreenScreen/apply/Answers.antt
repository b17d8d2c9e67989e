use Rattle.std.proofs.Common.{◌≡◌, Some, None, ap, sym, ◌∙◌}
use Rattle.plain_page.specs.Turning.{counts_between}
use Rattle.plain_page.specs.Laws.Turning.{Spells-one}
use Rattle.plain_page.proofs.screen.PlainScreenScreen.apply.Goals as goal

pub returns-in-Ok-Unlike-clause-refused : goal.returns-in-Ok-Unlike-clause-refused
returns-in-Ok-Unlike-clause-refused c _ after counts turned =
    let unlike = rw c.in-Ok-Unlike.field-0-is at c.in-Ok-Unlike.ensures in
    let same = Spells-one c.args.bytes.now unlike.0 after.page.nodes unlike.1 turned.spelled in
    let wrong : None ≡ Some counts = sym unlike.2 ∙ ap (counts_between c.args.number c.args.self.now.tree.page.nodes) same ∙ turned.counted in
    absurd (cc)
