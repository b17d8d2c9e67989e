-- Parts of templates, and what they come to one after another.
use Rattle.std.specs.Prelude.{ℕ, Bool, false, List, [], ◌∷◌, ◌++◌, Option, Some, None}
use Rattle.std.specs.List.{list_any}
use Rattle.text_core.specs.declared.place.Place.{Place}
use Rattle.cs_ast.specs.declared.cs_type.CsType.{CsType}
use Rattle.cs_ast.specs.declared.identifier.Ident.{Ident}
use Rattle.cs_ast.specs.declared.scope.Scope.{Scope}
use Rattle.cs_effects.specs.declared.deed.Deed.{Deed}
use Rattle.cs_rules.specs.declared.checked.ExprType.{ExprType}
use Rattle.cs_rules.specs.Judged.{Judged, fine, breaks}
use Rattle.razor_rules.specs.declared.finding.Broken.{Broken}
use Rattle.razor_rules.specs.declared.ground.Ground.{Ground}
use Rattle.razor_rules.specs.Grounds.{behind_local, mark_of}
use Rattle.razor_rules.specs.TemplateDeeds.{changing}

-- a part of a template: where it stands; whether it is a text of white space alone; the name of the component's tag that it is, if it is one; the local that it declares for what follows, if it does; what it does besides computing; the rules that it breaks, and the scope behind it where it breaks none; and the rules that it breaks as the tag of a fragment with such an argument, with a name for that, if one is given
pub record Part : Type 0 where
  pub place : Place
  pub blank : Bool
  pub tag : Option (List ℕ)
  pub declares : Option (List ℕ)
  pub does : Deed → Bool
  pub rules : Ground → List Broken
  pub behind : Ground → Judged Scope
  pub as_fragment : Ground → Option CsType → Option Ident → List Broken

-- a section of a `switch`: what it does besides computing, and the rules that it breaks where a value of such a type decides
pub record Part_of_switch : Type 0 where
  pub does : Deed → Bool
  pub rules : ExprType → Ground → List Broken

abbrev pub any_does : List Part → Deed → Bool
any_does parts deed = list_any (λ one. one.does deed) parts

-- what follows a part: what it declares is marked by whether that is assigned there
abbrev pub next : Option (List ℕ) → List Part → Ground → Scope → Ground
next None others g s = g
next (Some name) others g s = behind_local g s (mark_of (any_does others (changing name)))

abbrev pub if_fine : Judged Scope → (Scope → List Broken) → List Broken
if_fine (fine s) rules = rules s
if_fine (breaks rule place) rules = []

-- parts one after another; behind a declaration that breaks a rule nothing is looked at
abbrev pub in_order : List Part → Ground → List Broken
in_order [] g = []
in_order (one ∷ others) g = one.rules g ++ if_fine (one.behind g) (λ s. in_order others (next one.declares others g s))

-- no tag of a fragment
abbrev pub no_fragment : Ground → Option CsType → Option Ident → List Broken
no_fragment g argument outer = []

-- a part that declares nothing
abbrev pub plain : Place → (Deed → Bool) → (Ground → List Broken) → Part
plain place does rules =
    record { place = place; blank = false; tag = None; declares = None; does = does; rules = rules; behind = λ g. fine g.scope; as_fragment = no_fragment }

-- a literal text
abbrev pub text : Place → Bool → Part
text place blank = record (plain place (λ deed. false) (λ g. [])) { blank = blank }
