-- A `for` in two scopes.
use Rattle.std.proofs.Common.{◌≡◌, ℕ, List, [], refl, sym, subst}
use Rattle.std.specs.Prelude.{false, Option, Some}
use Rattle.cs_ast.specs.declared.code.Code.{Code}
use Rattle.cs_ast.specs.declared.code.Code.TheVariants as c
use Rattle.cs_ast.specs.declared.scope.Named.{Named}
use Rattle.cs_ast.specs.declared.scope.Scope.{Scope}
use Rattle.cs_effects.specs.declared.deed.Deed.{Deed}
use Rattle.cs_effects.specs.Deeds.{is_free}
use Rattle.cs_rules.specs.Judged.{fine, if_there, ◌>>=◌}
use Rattle.cs_rules.specs.Expressions.{Value}
use Rattle.cs_rules.specs.Statements as st
use Rattle.cs_rules.specs.Statements.{Done, done, Statement, condition, stepped}
use Rattle.page_typing.specs.Narrowing.{at_names, Means, Fewer, Follows, Both, SameDone}
use Rattle.page_typing.proofs.Following.{then_follows}
use Rattle.page_typing.proofs.NarrowStatements.{stay}

-- behind the start of a `for`
pub record SameStart (names others : List Named) (declares : Deed → List (List ℕ)) (x y : Option Code × Scope) : Type 0 where
  pub code : Option Code
  pub after : List Named
  pub is : y ≡ (code, at_names after x.1)
  pub keeps : (name : List ℕ) → Means names others name → Means x.1.names after name
  pub declared : (deed : Deed) (name : List ℕ) → is_free name (declares deed) ≡ false → Means x.1.names after name
  pub fewer : Fewer x.1.names after

-- what stands in a `for`, behind its start
pub record RestFollows (s : Scope) (others : List Named) (test test' step step' : Option Value) (body body' : Statement) : Type 0 where
  pub tests : Follows Both (if_there (λ a. condition a s) test) (if_there (λ a. condition a (at_names others s)) test')
  pub steps : Follows Both (if_there (λ a. stepped a s) step) (if_there (λ a. stepped a (at_names others s)) step')
  pub turns : Follows Both (st.alone body s) (st.alone body' (at_names others s))

pub started_follows : (s : Scope) (others : List Named) (declares : Deed → List (List ℕ)) (a b : Statement) → Follows (SameDone s.names others declares) (a s) (b (at_names others s)) → Follows (SameStart s.names others declares) (st.started (Some a) s) (st.started (Some b) (at_names others s))
started_follows s others declares a b h =
    then_follows (SameDone s.names others declares) (SameStart s.names others declares) (a s) (b (at_names others s)) _ _ h
    (λ x y same. subst (λ (z : Done). Follows (SameStart s.names others declares) (fine (Some x.code, x.scope)) (fine (Some z.code, z.scope))) (sym same.is)
    (_, refl, record { code = Some same.code; after = same.after; is = refl; keeps = same.keeps; declared = same.declared; fewer = same.fewer }))

pub for_follows : (s : Scope) (others : List Named) (fewer : Fewer s.names others) (declares begins : Deed → List (List ℕ)) (start start' : Option Statement) (test test' step step' : Option Value) (body body' : Statement) → ((deed : Deed) → declares deed ≡ [])
    → Follows (SameStart s.names others begins) (st.started start s) (st.started start' (at_names others s))
    → ((x y : Option Code × Scope) (same : SameStart s.names others begins x y) → RestFollows x.1 same.after test test' step step' body body')
    → Follows (SameDone s.names others declares) (st.for_loop start test step body s) (st.for_loop start' test' step' body' (at_names others s))
unfolding st.for_loop
for_follows s others fewer declares begins start start' test test' step step' body body' none h g =
    then_follows (SameStart s.names others begins) (SameDone s.names others declares) (st.started start s) (st.started start' (at_names others s)) _ _ h
    (λ x y same. subst (λ (z : Option Code × Scope). Follows (SameDone s.names others declares) (if_there (λ a. condition a x.1) test >>= λ code. (if_there (λ a. stepped a x.1) step >>= λ next. (st.alone body x.1 >>= λ turn. fine (done s (c.For x.0 code next turn)))))
    (if_there (λ a. condition a z.1) test' >>= λ code. (if_there (λ a. stepped a z.1) step' >>= λ next. (st.alone body' z.1 >>= λ turn. fine (done (at_names others s) (c.For z.0 code next turn)))))) (sym same.is)
    (let rest = g x y same in
    then_follows Both (SameDone s.names others declares) (if_there (λ a. condition a x.1) test) (if_there (λ a. condition a (at_names same.after x.1)) test') _ _ rest.tests
    (λ p q u. then_follows Both (SameDone s.names others declares) (if_there (λ a. stepped a x.1) step) (if_there (λ a. stepped a (at_names same.after x.1)) step') _ _ rest.steps
    (λ v w k. then_follows Both (SameDone s.names others declares) (st.alone body x.1) (st.alone body' (at_names same.after x.1)) _ _ rest.turns
    (λ i j m. stay s others fewer declares (c.For x.0 p v i) (c.For same.code q w j) none)))))
