use Rattle.std.proofs.Common.{◌≡◌, map, drop}
use Rattle.frame_compiler.specs.Compiles.{first_broken, meaning_of}
use Rattle.frame_compiler.specs.Programs.{components_from}
use Rattle.frame_parts.specs.Steps.{in_front}
use Rattle.frame_parts.specs.Views.{numbered}
use Rattle.razor_rules.specs.Numbers.{first_number}
use Rattle.frame_compiler.proofs.programs.all_components.Given as goal

abbrev pub invariant-loop-position : goal.invariant-loop-position
invariant-loop-position l =
    record {
      number : l.first ≡ first_number l.components l.position;
      compiled : components_from l.components 0 l.components (numbered l.fn.making) ≡ in_front (map meaning_of l.all) (components_from l.components l.position (drop l.position l.components) (numbered l.making));
      none : first_broken l.components 0 l.components ≡ first_broken l.components l.position (drop l.position l.components);
    }
