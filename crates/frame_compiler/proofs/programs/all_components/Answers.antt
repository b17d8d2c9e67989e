use Rattle.std.proofs.Common.{◌≡◌, ◌+◌, ◌∙◌, ℕ, List, ap, drop, map, subst, sym}
use Rattle.razor_rules.specs.Numbers.{span}
use Rattle.frame_program.specs.declared.compiled.CompiledComponent.{CompiledComponent}
use Rattle.frame_compiler.specs.Compiles.{meaning_of}
use Rattle.frame_compiler.specs.Programs.{components_from}
use Rattle.frame_parts.specs.Steps.{in_front}
use Rattle.frame_parts.specs.Views.{numbered}
use Rattle.frame_compiler.proofs.ProgramLaws.{compiled_more, handed_on, none_more, number_more, refuses_here}
use Rattle.frame_compiler.proofs.programs.all_components.Goals as goal

pub returns-in_err-it-clause-broken : goal.returns-in_err-it-clause-broken
returns-in_err-it-clause-broken c =
    handed_on c.from_residual.result c.in_err-it.field-0.0 c.args.components.now c.from_residual.ensures.1
    (refuses_here c.args.components.now c.loop-position.position c.index-components-position.result (numbered c.loop-position.making) (numbered c.component_at.new.making) c.in_err-it.field-0.0
    c.loop-position-test.true c.index-components-position.is c.loop-position.invariant.none c.in_err-it.ensures)

pub loop-position-preserved : goal.loop-position-preserved
loop-position-preserved c =
    let components = c.args.components.now in
    let position = c.loop-position.position in
    let one = c.index-components-position.result in
    record {
      number = c.in_ok-first.ensures ∙ ap (λ (n : ℕ). n + span one) c.loop-position.invariant.number ∙ sym (number_more components position one c.loop-position-test.true c.index-components-position.is);
      compiled =
          subst (λ (all : List CompiledComponent). components_from components 0 components (numbered c.args.making.now) ≡ in_front (map meaning_of all) (components_from components (position + 1) (drop (position + 1) components) (numbered c.component_at.new.making))) (sym c.in_ok-push.ensures.ok)
          (compiled_more components position one c.loop-position.all c.in_ok-it.it (numbered c.args.making.now) (numbered c.loop-position.making) (numbered c.component_at.new.making)
          c.loop-position-test.true c.index-components-position.is c.loop-position.invariant.compiled c.in_ok-it.ensures);
      none = none_more components position one (meaning_of c.in_ok-it.it) (numbered c.loop-position.making) (numbered c.component_at.new.making) c.loop-position-test.true c.index-components-position.is c.loop-position.invariant.none c.in_ok-it.ensures;
    }
