-- What the methods of a component do besides computing, themselves or through methods that they run.
use Rattle.std.specs.Prelude.{◌≡◌, ◌↔◌, IsTrue, ℕ, List, [], ◌∷◌, map, Bool, true, false, Option, Some, None}
use Rattle.std.specs.List.{Contains}
use Rattle.cs_ast.specs.declared.member.Member.{Member}
use Rattle.cs_ast.specs.declared.member.MemberKind.{MemberKind}
use Rattle.cs_ast.specs.declared.member.MemberKind.TheVariants.{Field, Method, Getter}
use Rattle.cs_ast.specs.declared.scope.Effect.{Effect}
use Rattle.cs_effects.specs.declared.deed.Deed.{Deed}
use Rattle.cs_effects.specs.declared.deed.Deed.TheVariants.{Changes, Invokes, Runs}
use Rattle.cs_effects.specs.Deeds.{of_body, of_expr}

-- the name of a field
unfoldable pub field_name : MemberKind → Option (List ℕ)
field_name (Field cs_type name initial) = Some name.name
field_name _ = None

abbrev pub with_name : Option (List ℕ) → List (List ℕ) → List (List ℕ)
with_name None names = names
with_name (Some name) names = name ∷ names

-- the names of the fields, in order
abbrev pub fields : List Member → List (List ℕ)
fields [] = []
fields (one ∷ others) = with_name (field_name one.kind) (fields others)

-- the name of a method, with brackets or without
unfoldable pub method_name : MemberKind → Option (List ℕ)
method_name (Method result name arguments body) = Some name.name
method_name (Getter result name value) = Some name.name
method_name _ = None

-- whether the body of a method does it
unfoldable pub does_itself : Deed → MemberKind → Bool
does_itself deed (Method result name arguments body) = of_body deed body (map (λ one. one.name.name) arguments)
does_itself deed (Getter result name value) = (of_expr deed value).done []
does_itself deed _ = false

-- a method does it itself, or it runs a method that does it
pub data Does (members : List Member) (deed : Deed) : MemberKind → Type 0 where
  itself : (m : MemberKind) → does_itself deed m ≡ true → Does members deed m
  through : (m : MemberKind) (n : Member) (name : List ℕ) → Contains members n → method_name n.kind ≡ Some name →
      does_itself (Runs name) m ≡ true → Does members deed n.kind → Does members deed m

-- the effects of the methods among members, in their order
pub data Told (members : List Member) : List Member → List Effect → Type 0 where
  end : Told members [] []
  other : (m : Member) (others : List Member) (effects : List Effect) → method_name m.kind ≡ None →
      Told members others effects → Told members (m ∷ others) effects
  method : (m : Member) (others : List Member) (effect : Effect) (effects : List Effect) → method_name m.kind ≡ Some effect.method →
      IsTrue effect.changes ↔ Does members (Changes (fields members)) m.kind →
      IsTrue effect.invokes ↔ Does members Invokes m.kind →
      Told members others effects → Told members (m ∷ others) (effect ∷ effects)
