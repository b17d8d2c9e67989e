-- Scopes in which some names mean the same as in another scope, and what code that breaks no rule there comes to in them.
use Rattle.std.specs.Prelude.{◌≡◌, ◌⊎◌, ℕ, ◌&&◌, Bool, true, false, List, Some, bytes_eq}
use Rattle.std.specs.List.{list_any}
use Rattle.cs_ast.specs.declared.code.Code.{Code}
use Rattle.cs_ast.specs.declared.scope.Named.{Named}
use Rattle.cs_ast.specs.declared.scope.Scope.{Scope}
use Rattle.cs_effects.specs.declared.deed.Deed.{Deed}
use Rattle.cs_effects.specs.Deeds.{Done, is_free}
use Rattle.cs_rules.specs.declared.callee.Called.{Called}
use Rattle.cs_rules.specs.declared.callee.Callee.{Callee}
use Rattle.cs_rules.specs.declared.checked.Checked.{Checked}
use Rattle.cs_rules.specs.Judged.{Judged, fine, breaks}
use Rattle.cs_rules.specs.Names.{meant, is_local}
use Rattle.cs_rules.specs.Statements.{Done as Behind}
use Rattle.razor_rules.specs.TemplateDeeds.{reading, changing}

-- the same scope with other names
abbrev pub at_names : List Named → Scope → Scope
at_names names s = record s { names = names }

-- a name of the same kind and type, which may have another number
abbrev pub SameNamed : Named → Named → Type 0
SameNamed one other = (name : List ℕ) × (place : ℕ) × (other ≡ record { name = name; cs_type = one.cs_type; kind = one.kind; place = place })

-- what a name means among the first, it means among the second
abbrev pub Means : List Named → List Named → List ℕ → Type 0
Means names others name = (one : Named) → meant names name ≡ Some one → (other : Named) × (meant others name ≡ Some other) × SameNamed one other

-- whether a local has a name
abbrev pub is_taken : List Named → List ℕ → Bool
is_taken names name = list_any (λ one. is_local one.kind && bytes_eq one.name name) names

-- no local among the second has a name that none among the first has
abbrev pub Fewer : List Named → List Named → Type 0
Fewer names others = (name : List ℕ) → is_taken names name ≡ false → is_taken others name ≡ false

-- a name is read, or a variable of the name is changed
abbrev pub IsUse : Deed → List ℕ → Type 0
IsUse deed name = (deed ≡ reading name) ⊎ (deed ≡ changing name)

-- what code uses, within these locals of its own, means the same among the second names
pub record Narrows (does : Deed → Done) (locals : Deed → List (List ℕ)) (names others : List Named) : Type 0 where
  pub used : (deed : Deed) (name : List ℕ) → IsUse deed name → does deed (locals deed) ≡ true → Means names others name
  pub own : (deed : Deed) (name : List ℕ) → is_free name (locals deed) ≡ false → Means names others name
  pub fewer : Fewer names others

-- where the first is fine, the second is fine too, and they are related so
abbrev pub Follows : {A B : Type 0} → (A → B → Type 0) → Judged A → Judged B → Type 0
Follows {A} {B} same (fine x) j = (y : B) × (j ≡ fine y) × same x y
Follows same (breaks rule place) j = Unit {0}

-- a value of the same type at the same place
abbrev pub SameValue : Checked → Checked → Type 0
SameValue x y = (code : Code) × (y ≡ record { place = x.place; code = code; expr_type = x.expr_type })

-- what is called takes and gives the same
abbrev pub SameCallee : Callee → Callee → Type 0
SameCallee x y = (called : Called) × (y ≡ record { called = called; takes = x.takes; gives = x.gives })

-- whatever they are
abbrev pub Both : {A B : Type 0} → A → B → Type 0
Both x y = Unit {0}

-- behind a statement: what names meant the same still does, and so does what is declared there
pub record SameDone (names others : List Named) (declares : Deed → List (List ℕ)) (x y : Behind) : Type 0 where
  pub code : Code
  pub after : List Named
  pub is : y ≡ record { code = code; scope = at_names after x.scope }
  pub keeps : (name : List ℕ) → Means names others name → Means x.scope.names after name
  pub declared : (deed : Deed) (name : List ℕ) → is_free name (declares deed) ≡ false → Means x.scope.names after name
  pub fewer : Fewer x.scope.names after
