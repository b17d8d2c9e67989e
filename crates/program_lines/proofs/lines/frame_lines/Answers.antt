use Rattle.std.specs.Prelude.{option_map}
use Rattle.program_lines.proofs.AnswerLemmas.{frame-answers, if-ok}
use Rattle.program_lines.proofs.lines.frame_lines.Goals as goal

pub returns-in-Some : goal.returns-in-Some
returns-in-Some c =
    if-ok c.frames_of.result _ _
    (λ found same component is.
    frame-answers c.args.components.now component c.in-Some.program (option_map (λ lines. lines.items) found) is (rw c.in-Some.is at c.in_ok-program.ensures.some)
    (c.compiled_components_have_their_first_items.ensures component c.in-Some.program) same)
    c.frames_of.ensures
