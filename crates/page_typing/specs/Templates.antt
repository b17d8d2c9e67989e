-- Which templates keep to their signatures.
use Rattle.std.specs.Prelude.{◌≡◌, ℕ, Bool, false, List, Option, Some}
use Rattle.cs_ast.specs.declared.cs_type.CsType.{CsType}
use Rattle.cs_typing.specs.Types.{Signature, Types}
use Rattle.cs_typing.specs.Bodies.{surroundings_of}
use Rattle.drawing_meaning.specs.Acts.{Act}
use Rattle.page_typing.specs.Acts.{ActsHave}

-- what a template does keeps to its signature, and no `break` leads out of it
abbrev pub TemplateHas : Types → Bool → Signature → List Act → Type 0
TemplateHas types components template acts = (inner : List CsType) × ActsHave (surroundings_of types template) components false template.locals inner acts

-- every number with a signature has a template that keeps to it
pub record TemplatesHave (types : Types) (components : Bool) (templates : ℕ → Option (List Act)) : Type 0 where
  pub has : (number : ℕ) (template : Signature) → types.templates number ≡ Some template → (acts : List Act) × (templates number ≡ Some acts) × TemplateHas types components template acts
