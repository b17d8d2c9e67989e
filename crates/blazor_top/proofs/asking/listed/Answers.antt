use Rattle.std.proofs.Common.{◌≡◌, ℕ, List, rules, None}
use Rattle.std.specs.Prelude.{Option}
use Rattle.first_rendering.specs.Alone.{items_alone}
use Rattle.program_lines.specs.Lines.{Answers, frame_lines}
use Rattle.razor_ast.specs.declared.component.Component.{Component}
use Rattle.blazor_top.proofs.AskingLemmas.{never_without}
use Rattle.blazor_top.proofs.asking.listed.Goals as goal

pub unreachable-requires : goal.unreachable-requires
unreachable-requires c =
    never_without c.args.files.now c.args.components.now c.requires.sound c.in_ok-refuse_others.ensures.alone (λ component. frame_lines component.name (items_alone component))
    (rw c.in-None.is at c.in_ok-lines.ensures)
