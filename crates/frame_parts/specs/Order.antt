-- Parts of a template, one after another.
use Rattle.std.specs.Prelude.{List, [], ◌∷◌, ◌++◌}
use Rattle.cs_ast.specs.declared.scope.Scope.{Scope}
use Rattle.drawing_meaning.specs.Acts.{Act}
use Rattle.razor_rules.specs.Scopes.{Home}
use Rattle.page_meaning.specs.Parts.{Part}
use Rattle.frame_parts.specs.Steps.{Steps, step, alone, judged, ◌>>=◌}

-- each in the scope behind those before it
abbrev pub in_order : Home → List Part → Scope → Steps (List Act)
in_order home [] s = alone []
in_order home (one ∷ others) s = do
  acts ← step (one.makes home s)
  inner ← judged (one.behind s)
  more ← in_order home others inner
  alone (acts ++ more)
