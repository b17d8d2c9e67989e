-- A scope with one local more says what the types with one local more say.
use Rattle.std.proofs.Common.{◌≡◌, ℕ, zero, suc, ◌+◌, List, [], ◌∷◌, ◌++◌, length, reverse, refl, sym, ap, subst, ◌∙◌, arith}
use Rattle.std.proofs.lemmas.List.{reverse-append}
use Rattle.std.specs.Prelude.{Bool, true, false, if◌then◌else◌, slice_get, bytes_eq, Some}
use Rattle.cs_ast.specs.declared.cs_type.CsType.{CsType}
use Rattle.cs_ast.specs.declared.scope.Named.{Named}
use Rattle.cs_ast.specs.declared.scope.NameKind.{NameKind}
use Rattle.cs_ast.specs.declared.scope.NameKind.TheVariants as kind
use Rattle.cs_ast.specs.declared.scope.Scope.{Scope}
use Rattle.cs_rules.specs.Names.{first_named, is_local, locals_in, local, meant, with_local}
use Rattle.cs_typing.specs.Expressions.{Surroundings}
use Rattle.cs_accepted.specs.Scopes.{NameFits, ScopeFits}
use Rattle.cs_accepted.specs.Scopes as scope

-- a place that is there stays
still_there : (ts : List CsType) (at : ℕ) (type more : CsType) → slice_get ts at ≡ Some type → slice_get (ts ++ more ∷ []) at ≡ Some type
still_there [] at type more e = absurd (cc)
still_there (t ∷ ts) zero type more e = e
still_there (t ∷ ts) (suc at) type more e = still_there ts at type more e

new_place : (ts : List CsType) (more : CsType) → slice_get (ts ++ more ∷ []) (length ts) ≡ Some more
new_place [] more = refl
new_place (t ∷ ts) more = new_place ts more

one_longer : (ts : List CsType) (more : CsType) → length (ts ++ more ∷ []) ≡ length ts + 1
one_longer [] more = refl
one_longer (t ∷ ts) more = ap suc (one_longer ts more) ∙ omega arith

more_locals : (names : List Named) (one : Named) → locals_in (names ++ one ∷ []) ≡ locals_in names + (if is_local one.kind then 1 else 0)
more_locals [] one = omega arith
more_locals (first ∷ others) one = ap (λ n. (if is_local first.kind then 1 else 0) + n) (more_locals others one) ∙ omega arith

still_fits : (at : Surroundings) (locals : List CsType) (more type : CsType) (number : ℕ) (k : NameKind) → NameFits at locals type number k → NameFits at (locals ++ more ∷ []) type number k
still_fits at locals more type number k (scope.field h) = scope.field h
still_fits at locals more type number k (scope.parameter h) = scope.parameter h
still_fits at locals more type number k (scope.local h) = scope.local (still_there locals number type more h)
still_fits at locals more type number k (scope.getter h) = scope.getter h
still_fits at locals more type number k (scope.method takes h) = scope.method takes h

pub with_local_fits : (at : Surroundings) (locals : List CsType) (s : Scope) (name : List ℕ) (type : CsType) → ScopeFits at locals s → ScopeFits at (locals ++ type ∷ []) (with_local s name type)
unfolding meant with_local
with_local_fits at locals s name type fit =
    record {
      names = λ n one e. found n one (sym (ap (first_named n) (reverse-append s.names (local s.names name type ∷ []))) ∙ e);
      count = more_locals s.names (local s.names name type) ∙ ap (λ k. k + 1) fit.count ∙ sym (one_longer locals type);
      records = fit.records;
    }
  where
    new_fits : NameFits at (locals ++ type ∷ []) type (locals_in s.names) kind.Local
    new_fits = scope.local (ap (slice_get (locals ++ type ∷ [])) fit.count ∙ new_place locals type)

    found : (n : List ℕ) (one : Named) → first_named n (local s.names name type ∷ reverse s.names) ≡ Some one → NameFits at (locals ++ type ∷ []) one.cs_type one.place one.kind
    found n one e = by (bytes_eq name n) e
      where
        by : (b : Bool) → (if b then Some (local s.names name type) else first_named n (reverse s.names)) ≡ Some one → NameFits at (locals ++ type ∷ []) one.cs_type one.place one.kind
        by true i = let same : local s.names name type ≡ one = cc in subst (λ (z : Named). NameFits at (locals ++ type ∷ []) z.cs_type z.place z.kind) same new_fits
        by false i = still_fits at locals type one.cs_type one.place one.kind (fit.names n one i)
