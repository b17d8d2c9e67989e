-- Names in a scope behind those of an outer one.
use Rattle.std.proofs.Common.{◌≡◌, ℕ, ◌+◌, List, [], ◌∷◌, ◌++◌, reverse, sym, ap, refl, ◌∙◌, arith}
use Rattle.std.proofs.lemmas.List.{append-nil, reverse-append}
use Rattle.std.specs.Prelude.{Bool, true, false, if◌then◌else◌, Option, Some, None, bytes_eq}
use Rattle.cs_ast.specs.declared.scope.Named.{Named}
use Rattle.cs_ast.specs.declared.scope.Scope.{Scope}
use Rattle.cs_rules.specs.Names.{first_named, meant, locals_in}

pub locals_append : (a b : List Named) → locals_in (a ++ b) ≡ locals_in a + locals_in b
locals_append [] b = omega arith
locals_append (one ∷ others) b = omega (arith, locals_append others b)

-- what is found in front, or else behind
abbrev or_else : Option Named → Option Named → Option Named
or_else (Some one) further = Some one
or_else None further = further

chosen : (is : Bool) (one : Named) (x y z : Option Named) → x ≡ or_else y z → (if is then Some one else x) ≡ or_else (if is then Some one else y) z
chosen true one x y z e = refl
chosen false one x y z e = e

first_append : (name : List ℕ) (a b : List Named) → first_named name (a ++ b) ≡ or_else (first_named name a) (first_named name b)
first_append name [] b = refl
first_append name (one ∷ others) b = chosen (bytes_eq one.name name) one (first_named name (others ++ b)) (first_named name others) (first_named name b) (first_append name others b)

meant_append : (name : List ℕ) (a b : List Named) → meant (a ++ b) name ≡ or_else (first_named name (reverse b)) (first_named name (reverse a))
unfolding meant
meant_append name a b = ap (first_named name) (reverse-append a b) ∙ first_append name (reverse b) (reverse a)

pub meant_inner : (name : List ℕ) (a b : List Named) (one : Named) → Some one ≡ first_named name (reverse b) → meant (a ++ b) name ≡ Some one
meant_inner name a b one is = meant_append name a b ∙ ap (λ o. or_else o (first_named name (reverse a))) (sym is)

pub meant_outer : (name : List ℕ) (a b : List Named) → None ≡ first_named name (reverse b) → meant (a ++ b) name ≡ first_named name (reverse a)
meant_outer name a b is = meant_append name a b ∙ ap (λ o. or_else o (first_named name (reverse a))) (sym is)

pub no_locals : (s : Scope) → record s { names = s.names ++ [] } ≡ s
no_locals s = ap (λ (names : List Named). record s { names = names }) (append-nil s.names)
