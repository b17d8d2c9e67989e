-- Statements in templates that break no rule come to code with types.
use Rattle.std.proofs.Common.{◌≡◌, List, [], ◌∷◌, ◌++◌, refl, sym, ap, subst, ◌∙◌}
use Rattle.std.specs.Prelude.{Bool, true, false, if◌then◌else◌, Option, Some, None}
use Rattle.cs_ast.specs.declared.code.Code.{Code}
use Rattle.cs_ast.specs.declared.code.Code.TheVariants as c
use Rattle.cs_ast.specs.declared.cs_type.CsType.{CsType}
use Rattle.cs_ast.specs.declared.cs_type.TypeExpr.{TypeExpr}
use Rattle.cs_ast.specs.declared.expression.Expr.{Expr}
use Rattle.cs_ast.specs.declared.expression.Stmt.{Stmt}
use Rattle.cs_ast.specs.declared.expression.StmtKind.{StmtKind, StmtKind-F, out-StmtKind}
use Rattle.cs_ast.specs.declared.expression.StmtKind.TheVariants as sk
use Rattle.cs_ast.specs.declared.identifier.Ident.{Ident}
use Rattle.cs_ast.specs.declared.scope.Scope.{Scope}
use Rattle.cs_rules.specs.declared.checked.Checked.{Checked}
use Rattle.cs_rules.specs.declared.checked.ExprType.TheVariants.{Of}
use Rattle.cs_rules.specs.declared.rule.Rule.TheVariants.{TypeMismatch}
use Rattle.cs_rules.specs.Judged.{Judged, fine, breaks, if_there, ◌>>=◌}
use Rattle.cs_rules.specs.Names.{is_new, with_local}
use Rattle.cs_rules.specs.Types.{fits as type_fits}
use Rattle.cs_rules.specs.Written.{written}
use Rattle.cs_rules.specs.Expressions.{Value}
use Rattle.cs_rules.specs.Statements as st
use Rattle.cs_rules.specs.Statements.{Done, done, local_type}
use Rattle.cs_rules.specs.Trees.{uses, statement, statement_of_kind}
use Rattle.cs_rules.proofs.Laws as law
use Rattle.cs_forbidden.specs.declared.forbidden.Forbidden.{Forbidden}
use Rattle.cs_forbidden.specs.Trees as forbidding
use Rattle.cs_forbidden.specs.Forms as form
use Rattle.cs_forbidden.proofs.FormLaws as forms
use Rattle.cs_forbidden.proofs.StatementLaws as statements
use Rattle.cs_typing.specs.Types.{Types}
use Rattle.cs_typing.specs.Expressions.{Surroundings, CodeHas}
use Rattle.cs_accepted.specs.Accepted.{HasType, IfFine}
use Rattle.cs_accepted.proofs.OperatorLemmas.{some_type}
use Rattle.cs_accepted.proofs.TypeLemmas.{fits_has, own_type_fine}
use Rattle.drawing_meaning.specs.Nodes as act
use Rattle.razor_ast.specs.Statements.{IsSimple}
use Rattle.razor_ast.specs.Statements as simple
use Rattle.razor_rules.specs.Scopes.{Home}
use Rattle.razor_rules.specs.declared.ground.Ground.{Ground}
use Rattle.razor_rules.specs.Templates as rule
use Rattle.razor_rules.specs.Templates.{Level, declared_level, declared_by}
use Rattle.page_meaning.specs.Nodes as page
use Rattle.page_meaning.specs.Resolved.{alone, judged}
use Rattle.page_meaning.specs.Resolved.{◌>>=◌ as ◌>>>=◌}
use Rattle.page_typing.specs.Acts.{SimpleHas}
use Rattle.page_typing.specs.Acts as acts
use Rattle.page_typing.specs.Homes.{surroundings, HomeFits}
use Rattle.page_typing.specs.TemplateScopes.{TemplateScope}
use Rattle.page_typing.specs.TemplateScopes as scope
use Rattle.page_typing.proofs.Capturing.{template_fits}
use Rattle.page_typing.proofs.NarrowExpressions.{like}
use Rattle.page_typing.proofs.NarrowLambdas.{both_fine}
use Rattle.page_typing.proofs.TemplateValues.{ValueAt, value_at, found_nothing}

-- one level of a statement of a kind
at_level : (one : Stmt) (kind : StmtKind) (l : Level) → one.kind ≡ kind → out-StmtKind kind ≡ l → out-StmtKind one.kind ≡ l
at_level one kind l is out = ap out-StmtKind is ∙ out

-- what a statement comes to, by its kind
forbidden_is : (f : Forbidden) (one : Stmt) (kind : StmtKind) (s : Scope) → one.kind ≡ kind → forbidding.statement f one s ≡ form.statement_of_kind f kind one.place s
forbidden_is f one kind s is = ap (λ g. g s) (forms.statement_law f one) ∙ ap (λ k. form.statement_of_kind f k one.place s) is

ruled_is : (one : Stmt) (kind : StmtKind) (s : Scope) → one.kind ≡ kind → statement one s ≡ statement_of_kind kind one.place s
ruled_is one kind s is = ap (λ g. g s) (law.statement_law one) ∙ ap (λ k. statement_of_kind k one.place s) is

-- the type of a new local
type_has : (at : Surroundings) (locals : List CsType) (declared : Option CsType) (x : Checked) (code : Code) (given : CsType) → local_type declared x ≡ fine given → HasType at locals x.expr_type code → CodeHas at locals given code
unfolding local_type
type_has at locals None x code given e h =
    let is : x.expr_type ≡ Of given = subst (IfFine (λ type. x.expr_type ≡ Of type)) e (own_type_fine x.place x.expr_type) in
    subst (λ z. HasType at locals z code) is h
type_has at locals (Some type) x code given e h = by (type_fits x.expr_type type) refl e
  where
    by : (b : Bool) → type_fits x.expr_type type ≡ b → (if b then fine type else breaks TypeMismatch x.place) ≡ fine given → CodeHas at locals given code
    by true k e1 = let same : type ≡ given = cc in subst (λ z. CodeHas at locals z code) same (fits_has at locals x.expr_type type code k h)
    by false k e1 = absurd (cc)

-- a declaration has a value
no_value : (s : Scope) (type : Option TypeExpr) (name : Ident) (d : Done) → st.local type name None s ≡ fine d → ⊥
unfolding st.local
no_value s type name d e =
    let first = both_fine (if_there (written s.records) type) (λ declared. (is_new s name >>= λ new. (st.initial name None s >>= λ x. (local_type declared x >>= λ given. fine (done (with_local s name.name given) (c.Declare x.code)))))) d e in
    let second = both_fine (is_new s name) (λ new. (st.initial name None s >>= λ x. (local_type first.0 x >>= λ given. fine (done (with_local s name.name given) (c.Declare x.code))))) d first.2 in
    absurd (cc)

abbrev scope_or : Scope → Judged Done → Scope
scope_or s (fine it) = it.scope
scope_or s (breaks rule place) = s

same_type : (declared : Option CsType) (x : Checked) (code : Code) → local_type declared (like x code) ≡ local_type declared x
unfolding local_type
same_type None x code = refl
same_type (Some type) x code = refl

module _ (home : Home) (types : Types) (fits : HomeFits types home) where
  abbrev at : Surroundings
  at = surroundings types home

  -- a statement without statements in it
  pub record Stated (g : Ground) (locals : List CsType) (one : Stmt) : Type 0 where
    pub code : Code
    pub after : Scope
    pub inner : List CsType
    pub forbids : (forbidding.statement g.forbidden one g.scope >>= λ it. fine it.scope) ≡ fine after
    pub means : statement one g.scope ≡ fine (done after code)
    pub has : SimpleHas at locals inner code
    pub template : TemplateScope home after inner
    pub same : declared_by one ≡ None → after ≡ g.scope
    pub level : page.statement_level (out-StmtKind one.kind) one g.scope ≡ (judged (statement one g.scope) >>>= λ it. alone (act.statement it.code ∷ []))

  valued : (g : Ground) (locals : List CsType) (a : Expr) (x : Checked) → TemplateScope home g.scope locals → (forbidding.uses g.forbidden a).value g.scope ≡ fine x → ValueAt at locals g.scope a x
  valued g locals a x template e = value_at at locals g.scope g.forbidden a x (template_fits home (λ deed. false) at g.scope locals fits.members template) e

  abbrev behind : Judged Done → Judged Scope
  behind j = j >>= λ it. fine it.scope

  -- a declaration
  local_stated : (g : Ground) (locals : List CsType) (one : Stmt) (type : Option TypeExpr) (name : Ident) (a : Expr) (d : Done) → TemplateScope home g.scope locals → one.kind ≡ sk.Local type name (Some a) → forbidding.statement g.forbidden one g.scope ≡ fine d → Stated g locals one
  unfolding declared_by st.local
  local_stated g locals one type name a d template is e =
      let s : Scope = g.scope in
      let value : Value = (forbidding.uses g.forbidden a).value in
      let whole : st.local type name (Some value) s ≡ fine d = sym (forbidden_is g.forbidden one (sk.Local type name (Some a)) s is ∙ statements.local_statement g.forbidden type name (Some a) one.place s) ∙ e in
      let first = both_fine (if_there (written s.records) type) (λ declared. (is_new s name >>= λ new. (value s >>= λ x. (local_type declared x >>= λ given. fine (done (with_local s name.name given) (c.Declare x.code)))))) d whole in
      let second = both_fine (is_new s name) (λ new. (value s >>= λ x. (local_type first.0 x >>= λ given. fine (done (with_local s name.name given) (c.Declare x.code))))) d first.2 in
      let third = both_fine (value s) (λ x. (local_type first.0 x >>= λ given. fine (done (with_local s name.name given) (c.Declare x.code)))) d second.2 in
      let fourth = both_fine (local_type first.0 third.0) (λ given. fine (done (with_local s name.name given) (c.Declare third.0.code))) d third.2 in
      let v = valued g locals a third.0 template third.1 in
      let scope_is : with_local s name.name fourth.0 ≡ d.scope = ap (λ (j : Judged Done). scope_or s j) fourth.2 in
      let ruled : st.local type name (Some (uses a).value) s ≡ fine (done (with_local s name.name fourth.0) (c.Declare v.code)) =
      ap (λ j. j >>= λ declared. (is_new s name >>= λ new. ((uses a).value s >>= λ x. (local_type declared x >>= λ given. fine (done (with_local s name.name given) (c.Declare x.code)))))) first.1
      ∙ ap (λ j. j >>= λ new. ((uses a).value s >>= λ x. (local_type first.0 x >>= λ given. fine (done (with_local s name.name given) (c.Declare x.code))))) second.1
      ∙ ap (λ j. j >>= λ x. (local_type first.0 x >>= λ given. fine (done (with_local s name.name given) (c.Declare x.code)))) v.is
      ∙ ap (λ j. j >>= λ given. fine (done (with_local s name.name given) (c.Declare v.code))) (same_type first.0 third.0 v.code ∙ fourth.1) in
      record {
        code = c.Declare v.code;
        after = with_local s name.name fourth.0;
        inner = locals ++ fourth.0 ∷ [];
        forbids = ap behind e ∙ ap fine (sym scope_is);
        means = ruled_is one (sk.Local type name (Some a)) s is ∙ law.local_statement type name (Some a) one.place s ∙ ruled;
        has = acts.declare fourth.0 v.code (type_has at locals first.0 third.0 v.code fourth.0 fourth.1 v.has);
        template = scope.declared s locals name.name fourth.0 template;
        same = λ none. absurd (differ none);
        level = ap (λ l. page.statement_level l one s) (at_level one (sk.Local type name (Some a)) (StmtKind-F.Local type name (Some a)) is (sk.outs-Local type name (Some a)));
      }
    where
      differ : declared_by one ≡ None → ⊥
      differ none =
          let k : Some name.name ≡ None = sym (ap declared_level (at_level one (sk.Local type name (Some a)) (StmtKind-F.Local type name (Some a)) is (sk.outs-Local type name (Some a)))) ∙ none in
          absurd (cc)

  -- an expression as a statement
  performed : (g : Ground) (locals : List CsType) (one : Stmt) (kind : StmtKind) (a : Expr) (d : Done) (l : Level) → TemplateScope home g.scope locals → one.kind ≡ kind → out-StmtKind kind ≡ l
      → ((s : Scope) → form.statement_of_kind g.forbidden kind one.place s ≡ st.perform (forbidding.uses g.forbidden a).value s) → ((s : Scope) → statement_of_kind kind one.place s ≡ st.perform (uses a).value s)
      → page.statement_level l one g.scope ≡ (judged (statement one g.scope) >>>= λ it. alone (act.statement it.code ∷ []))
      → forbidding.statement g.forbidden one g.scope ≡ fine d → Stated g locals one
  unfolding st.perform
  performed g locals one kind a d l template is out forbids rules level e =
      let s : Scope = g.scope in
      let whole : st.perform (forbidding.uses g.forbidden a).value s ≡ fine d = sym (forbidden_is g.forbidden one kind s is ∙ forbids s) ∙ e in
      let first = both_fine ((forbidding.uses g.forbidden a).value s) (λ x. fine (done s (c.Perform x.code))) d whole in
      let v = valued g locals a first.0 template first.1 in
      let some = some_type (λ type. CodeHas at locals type v.code) first.0.expr_type v.has in
      record {
        code = c.Perform v.code;
        after = s;
        inner = locals;
        forbids = ap behind (forbidden_is g.forbidden one kind s is ∙ forbids s ∙ ap (λ j. j >>= λ x. fine (done s (c.Perform x.code))) first.1);
        means = ruled_is one kind s is ∙ rules s ∙ ap (λ j. j >>= λ x. fine (done s (c.Perform x.code))) v.is;
        has = acts.perform some.0 v.code some.1;
        template = template;
        same = λ none. refl;
        level = ap (λ k. page.statement_level k one s) (at_level one kind l is out) ∙ level;
      }

  -- the rules of a statement of a kind
  fine_at : (g : Ground) (one : Stmt) (kind : StmtKind) (l : Level) → one.kind ≡ kind → out-StmtKind kind ≡ l → rule.statement_level (out-StmtKind one.kind) one g ≡ [] → rule.statement_level l one g ≡ []
  fine_at g one kind l is out e = sym (ap (λ k. rule.statement_level k one g) (at_level one kind l is out)) ∙ e

  kind_stated : (g : Ground) (locals : List CsType) (one : Stmt) (kind : StmtKind) → IsSimple kind → one.kind ≡ kind → TemplateScope home g.scope locals → rule.statement_level (out-StmtKind one.kind) one g ≡ [] → Stated g locals one
  kind_stated g locals one kind (simple.local type name None) is template e =
      let none = found_nothing (forbidding.statement g.forbidden one g.scope) (fine_at g one (sk.Local type name None) (StmtKind-F.Local type name None) is (sk.outs-Local type name None) e) in
      absurd (no_value g.scope type name none.0 (sym (forbidden_is g.forbidden one (sk.Local type name None) g.scope is ∙ statements.local_statement g.forbidden type name None one.place g.scope) ∙ none.1))
  kind_stated g locals one kind (simple.local type name (Some a)) is template e =
      let none = found_nothing (forbidding.statement g.forbidden one g.scope) (fine_at g one (sk.Local type name (Some a)) (StmtKind-F.Local type name (Some a)) is (sk.outs-Local type name (Some a)) e) in
      local_stated g locals one type name a none.0 template is none.1
  kind_stated g locals one kind simple.empty is template e =
      record {
        code = c.Empty;
        after = g.scope;
        inner = locals;
        forbids = ap behind (forbidden_is g.forbidden one sk.Empty g.scope is ∙ statements.empty_statement g.forbidden one.place g.scope);
        means = ruled_is one sk.Empty g.scope is ∙ law.empty_statement one.place g.scope;
        has = acts.empty;
        template = template;
        same = λ none. refl;
        level = ap (λ l. page.statement_level l one g.scope) (at_level one sk.Empty StmtKind-F.Empty is sk.outs-Empty);
      }
  kind_stated g locals one kind (simple.act a) is template e =
      let none = found_nothing (forbidding.statement g.forbidden one g.scope) (fine_at g one (sk.Expr a) (StmtKind-F.Expr a) is (sk.outs-Expr a) e) in
      performed g locals one (sk.Expr a) a none.0 (StmtKind-F.Expr a) template is (sk.outs-Expr a) (statements.expr_statement g.forbidden a one.place) (law.expr_statement a one.place) refl none.1
  kind_stated g locals one kind (simple.await_ a) is template e =
      let none = found_nothing (forbidding.statement g.forbidden one g.scope) (fine_at g one (sk.Await a) (StmtKind-F.Await a) is (sk.outs-Await a) e) in
      performed g locals one (sk.Await a) a none.0 (StmtKind-F.Await a) template is (sk.outs-Await a) (statements.await_statement g.forbidden a one.place) (law.await_statement a one.place) refl none.1
  kind_stated g locals one kind (simple.return_ value) is template e = let k = fine_at g one (sk.Return value) (StmtKind-F.Return value) is (sk.outs-Return value) e in absurd (cc)

  pub stated : (g : Ground) (locals : List CsType) (one : Stmt) → IsSimple one.kind → TemplateScope home g.scope locals → rule.statement_level (out-StmtKind one.kind) one g ≡ [] → Stated g locals one
  stated g locals one h template e = kind_stated g locals one one.kind h refl template e
