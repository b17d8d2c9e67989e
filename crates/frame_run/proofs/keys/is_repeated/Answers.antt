use Rattle.std.proofs.Common.{◌≡◌, ℕ, Bool, sym, ap, ◌∙◌}
use Rattle.std.specs.Prelude.{Option}
use Rattle.std.specs.List.{list_any}
use Rattle.cs_ast.specs.declared.value.Value.{Value}
use Rattle.drawing_meaning.specs.Keys.{key_of}
use Rattle.frame_run.specs.Clashes.{clash, repeats}
use Rattle.frame_run.proofs.KeyLemmas.{none_clashes}
use Rattle.frame_run.proofs.keys.is_repeated.Goals as goal

-- an item without a key repeats none
pub returns-in_default : goal.returns-in_default
unfolding repeats
returns-in_default c =
    let of_key : Option (ℕ × Value) → Bool = λ o. list_any (λ other. clash o (key_of other)) c.args.others.now in
    sym (none_clashes c.args.others.now) ∙ ap of_key c.in_default.ensures
