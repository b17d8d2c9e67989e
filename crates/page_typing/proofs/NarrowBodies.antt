-- Every statement in two scopes: by induction on its tree.
use Rattle.std.proofs.Common.{◌≡◌, ℕ, List, [], ◌∷◌, ◌++◌, map, refl, sym, ap, subst, ◌∙◌, ◌⊎◌, inl, inr}
use Rattle.std.proofs.lemmas.List.Folds.{list_any-append}
use Rattle.std.proofs.lemmas.List.{append-nil}
use Rattle.std.specs.Prelude.{Bool, true, false, not, ◌||◌, option_map, Option, Some, None, bytes_eq}
use Rattle.std.specs.List.{list_any}
use Rattle.text_core.specs.declared.place.Place.{Place}
use Rattle.cs_ast.specs.declared.code.Code.{Code}
use Rattle.cs_ast.specs.declared.code.Code.TheVariants as c
use Rattle.cs_ast.specs.declared.cs_type.CsType.{CsType}
use Rattle.cs_ast.specs.declared.expression.Body.{Body}
use Rattle.cs_ast.specs.declared.expression.Body.TheOpen.{StmtKind-F}
use Rattle.cs_ast.specs.declared.expression.Body.TheFolds.{ind-Stmt, map-StmtKind}
use Rattle.cs_ast.specs.declared.expression.Body.TheViews.{roll-StmtKind, out-roll-Section}
use Rattle.cs_ast.specs.declared.expression.Expr.{Expr}
use Rattle.cs_ast.specs.declared.expression.ExprKind.{ExprKind}
use Rattle.cs_ast.specs.declared.expression.Section.{Section, Section-F, roll-Section, out-Section}
use Rattle.cs_ast.specs.declared.expression.Stmt.{Stmt, Stmt-F, roll-Stmt}
use Rattle.cs_ast.specs.declared.expression.StmtKind.{StmtKind}
use Rattle.cs_ast.specs.declared.expression.StmtKind.TheVariants as sk
use Rattle.cs_ast.specs.declared.expression.TextPart.{TextPart}
use Rattle.cs_ast.specs.declared.expression.WithPart.{WithPart}
use Rattle.cs_ast.specs.declared.scope.Named.{Named}
use Rattle.cs_ast.specs.declared.scope.Scope.{Scope}
use Rattle.cs_effects.specs.declared.deed.Deed.{Deed}
use Rattle.cs_effects.specs.Deeds as does
use Rattle.cs_effects.specs.Deeds.{Done, Asked, Stated, is_free, of_expr, of_section, of_statement, of_statement_kind}
use Rattle.cs_effects.proofs.DeedLaws as deeds
use Rattle.cs_rules.specs.declared.checked.ExprType.{ExprType}
use Rattle.cs_rules.specs.Judged.{Judged, fine, breaks, ◌>>=◌}
use Rattle.cs_rules.specs.Names.{with_local}
use Rattle.cs_rules.specs.Statements as st
use Rattle.cs_rules.specs.Statements.{Statement, done, condition, stepped}
use Rattle.cs_rules.specs.Trees.{Uses, uses, statement, statement_of_kind, section}
use Rattle.cs_rules.proofs.Laws as law
use Rattle.cs_forbidden.specs.declared.forbidden.Forbidden.{Forbidden}
use Rattle.cs_forbidden.specs.Trees as forbidding
use Rattle.cs_forbidden.specs.Forms as form
use Rattle.cs_forbidden.proofs.FormLaws as forms
use Rattle.cs_forbidden.proofs.StatementLaws as statements
use Rattle.page_typing.specs.Narrowing.{at_names, Means, Narrows, Fewer, Follows, SameValue, Both, SameDone}
use Rattle.page_typing.proofs.Following.{then_follows, same_follows, means_behind, means_new, fewer_behind}
use Rattle.page_typing.proofs.NarrowTrees.{or_one, or_two, part_narrows, expression_tree}
use Rattle.page_typing.proofs.NarrowStatements.{none_declared, stay, OptionFollows, no_value, a_value, local_follows, block_follows, alone_follows, BranchFollows, no_branch, a_branch, if_follows, while_follows, for_each_follows, SectionsFollow, no_section, a_section, switch_follows, section_follows, return_follows, perform_follows, tests_follow, steps_follow}
use Rattle.page_typing.proofs.NarrowLoops.{SameStart, RestFollows, started_follows, for_follows}

-- the claims
abbrev KindClaim : StmtKind → Type 0
KindClaim kind =
    (f : Forbidden) (place : Place) (s : Scope) (others : List Named) (locals : Deed → List (List ℕ)) → Narrows (λ deed. (of_statement_kind deed kind).done) locals s.names others →
    Follows (SameDone s.names others (λ deed. (of_statement_kind deed kind).declares)) (form.statement_of_kind f kind place s) (statement_of_kind kind place (at_names others s))

abbrev pub StmtClaim : Stmt → Type 0
StmtClaim a =
    (f : Forbidden) (s : Scope) (others : List Named) (locals : Deed → List (List ℕ)) → Narrows (λ deed. (of_statement deed a).done) locals s.names others →
    Follows (SameDone s.names others (λ deed. (of_statement deed a).declares)) (forbidding.statement f a s) (statement a (at_names others s))

abbrev SectionClaim : Section → Type 0
SectionClaim a =
    (f : Forbidden) (s : Scope) (others : List Named) (locals : Deed → List (List ℕ)) (decided : ExprType) → Narrows (λ deed. of_section deed a) locals s.names others →
    Follows Both (form.section f a decided s) (section a decided (at_names others s))

abbrev SuchKind : Type 0
SuchKind = (x : StmtKind) × KindClaim x

abbrev SuchStmt : Type 0
SuchStmt = (x : Stmt) × StmtClaim x

abbrev SuchSection : Type 0
SuchSection = (x : Section) × SectionClaim x

abbrev SuchExpr : Type 0
SuchExpr = (x : Expr) × Unit {0}

abbrev Layer : Type 0
Layer = StmtKind-F ((x : Body) × Unit {0}) ((x : ExprKind) × Unit {0}) SuchKind ((x : TextPart) × Unit {0}) SuchExpr SuchSection SuchStmt ((x : WithPart) × Unit {0})

abbrev known : Layer → StmtKind-F Body ExprKind StmtKind TextPart Expr Section Stmt WithPart
known y = map-StmtKind ((x : Body) × Unit {0}) ((x : ExprKind) × Unit {0}) SuchKind ((x : TextPart) × Unit {0}) SuchExpr SuchSection SuchStmt ((x : WithPart) × Unit {0}) Body ExprKind StmtKind TextPart Expr Section Stmt WithPart
    (λ z. z.0) (λ z. z.0) (λ z. z.0) (λ z. z.0) (λ z. z.0) (λ z. z.0) (λ z. z.0) (λ z. z.0) y

-- a name among the locals of one list or of another
free_append : (name : List ℕ) (one other : List (List ℕ)) → is_free name (one ++ other) ≡ false → (is_free name one ≡ false) ⊎ (is_free name other ≡ false)
unfolding is_free
free_append name one other e = by (list_any (λ z. bytes_eq z name) one) refl (ap not (sym (list_any-append (λ z. bytes_eq z name) one other)) ∙ e)
  where
    by : (b : Bool) → list_any (λ z. bytes_eq z name) one ≡ b → not (b || list_any (λ z. bytes_eq z name) other) ≡ false → (is_free name one ≡ false) ⊎ (is_free name other ≡ false)
    by true h k = inl (ap not h)
    by false h k = inr k

-- behind a declaration
behind_narrows : (child parent : Deed → Done) (locals more : Deed → List (List ℕ)) (names others names' others' : List Named) → ((name : List ℕ) → Means names others name → Means names' others' name) → ((deed : Deed) (name : List ℕ) → is_free name (more deed) ≡ false → Means names' others' name) → Fewer names' others'
    → ((deed : Deed) → child deed (locals deed ++ more deed) ≡ true → parent deed (locals deed) ≡ true) → Narrows parent locals names others → Narrows child (λ deed. locals deed ++ more deed) names' others'
behind_narrows child parent locals more names others names' others' keeps declared fewer too n =
    record {
      used = λ deed name u h. keeps name (n.used deed name u (too deed h));
      own = λ deed name h. elim (free_append name (locals deed) (more deed) h) [ inl k ↦ keeps name (n.own deed name k) | inr k ↦ declared deed name k ];
      fewer = fewer;
    }

-- statements one after another
all_follow : (body : List SuchStmt) (f : Forbidden) (s : Scope) (others : List Named) (locals : Deed → List (List ℕ)) → Narrows (λ deed. does.in_order (map (of_statement deed) (map (λ (z : SuchStmt). z.0) body))) locals s.names others
    → Follows Both (st.in_order (map (forbidding.statement f) (map (λ (z : SuchStmt). z.0) body)) s) (st.in_order (map statement (map (λ (z : SuchStmt). z.0) body)) (at_names others s))
all_follow [] f s others locals n = (_, refl, tt)
all_follow (one ∷ rest) f s others locals n =
    let bare : List Stmt = map (λ (z : SuchStmt). z.0) rest in
    then_follows (SameDone s.names others (λ deed. (of_statement deed one.0).declares)) Both (forbidding.statement f one.0 s) (statement one.0 (at_names others s)) _ _
    (one.1 f s others locals (part_narrows (λ deed. (of_statement deed one.0).done) _ locals s.names others (λ deed h. or_one _ _ h) n))
    (λ x y same. subst (λ (z : st.Done). Follows Both (st.in_order (map (forbidding.statement f) bare) x.scope >>= λ codes. fine (x.code ∷ codes)) (st.in_order (map statement bare) z.scope >>= λ codes. fine (z.code ∷ codes))) (sym same.is)
    (then_follows Both Both (st.in_order (map (forbidding.statement f) bare) x.scope) (st.in_order (map statement bare) (at_names same.after x.scope)) _ _
    (all_follow rest f x.scope same.after (λ deed. locals deed ++ (of_statement deed one.0).declares)
    (behind_narrows (λ deed. does.in_order (map (of_statement deed) bare)) (λ deed. does.in_order (map (of_statement deed) (one.0 ∷ bare))) locals (λ deed. (of_statement deed one.0).declares) s.names others x.scope.names same.after same.keeps same.declared same.fewer (λ deed h. or_two _ _ h) n))
    (λ xs ys k. (_, refl, tt))))

module _ (f : Forbidden) (s : Scope) (others : List Named) (locals : Deed → List (List ℕ)) (parent : Deed → Done) (n : Narrows parent locals s.names others) where
  value : (a : Expr) → ((deed : Deed) → (of_expr deed a).done (locals deed) ≡ true → parent deed (locals deed) ≡ true) → Follows SameValue ((forbidding.uses f a).value s) ((uses a).value (at_names others s))
  value a too = (expression_tree a f s others locals (part_narrows (λ deed. (of_expr deed a).done) parent locals s.names others too n)).0

  sub : (a : SuchStmt) → ((deed : Deed) → (of_statement deed a.0).done (locals deed) ≡ true → parent deed (locals deed) ≡ true) → Follows (SameDone s.names others (λ deed. (of_statement deed a.0).declares)) (forbidding.statement f a.0 s) (statement a.0 (at_names others s))
  sub a too = a.1 f s others locals (part_narrows (λ deed. (of_statement deed a.0).done) parent locals s.names others too n)

  alone : (a : SuchStmt) → ((deed : Deed) → (of_statement deed a.0).done (locals deed) ≡ true → parent deed (locals deed) ≡ true) → Follows Both (st.alone (forbidding.statement f a.0) s) (st.alone (statement a.0) (at_names others s))
  alone a too = alone_follows s others n.fewer (λ deed. (of_statement deed a.0).declares) (forbidding.statement f a.0) (statement a.0) (sub a too)

  maybe : (a : Option Expr) → ((deed : Deed) → does.if_there (λ (x : Asked). x.done (locals deed)) (option_map (of_expr deed) a) ≡ true → parent deed (locals deed) ≡ true)
      → OptionFollows s others n.fewer (option_map (λ (x : Uses). x.value) (option_map (forbidding.uses f) a)) (option_map (λ (x : Uses). x.value) (option_map uses a))
  maybe None too = no_value
  maybe (Some a) too = a_value _ _ (value a too)

  branch : (a : Option SuchStmt) → ((deed : Deed) → does.if_there (λ (x : Stated). x.done (locals deed)) (option_map (of_statement deed) (option_map (λ (z : SuchStmt). z.0) a)) ≡ true → parent deed (locals deed) ≡ true)
      → BranchFollows s others n.fewer (option_map (forbidding.statement f) (option_map (λ (z : SuchStmt). z.0) a)) (option_map statement (option_map (λ (z : SuchStmt). z.0) a))
  branch None too = no_branch
  branch (Some a) too = a_branch _ _ (alone a too)

  sections : (xs : List SuchSection) → ((deed : Deed) → list_any (λ (one : Done). one (locals deed)) (map (of_section deed) (map (λ (z : SuchSection). z.0) xs)) ≡ true → parent deed (locals deed) ≡ true)
      → SectionsFollow s others n.fewer (map (form.section f) (map (λ (z : SuchSection). z.0) xs)) (map section (map (λ (z : SuchSection). z.0) xs))
  sections [] too = no_section
  sections (one ∷ rest) too =
      a_section _ _ _ _ (λ decided. one.1 f s others locals decided (part_narrows (λ deed. of_section deed one.0) parent locals s.names others (λ deed h. too deed (or_one (of_section deed one.0 (locals deed)) _ h)) n))
      (sections rest (λ deed h. too deed (or_two (of_section deed one.0 (locals deed)) _ h)))

  -- in a scope with one local more
  in_item : (name : List ℕ) (a : SuchStmt) → ((deed : Deed) → (of_statement deed a.0).done (locals deed ++ name ∷ []) ≡ true → parent deed (locals deed) ≡ true) → (type : CsType) → Follows Both (st.alone (forbidding.statement f a.0) (with_local s name type)) (st.alone (statement a.0) (with_local (at_names others s) name type))
  unfolding with_local is_free
  in_item name a too type =
      alone_follows (with_local s name type) (with_local (at_names others s) name type).names (fewer_behind s.names others name type n.fewer) (λ deed. (of_statement deed a.0).declares) (forbidding.statement f a.0) (statement a.0)
      (a.1 f (with_local s name type) (with_local (at_names others s) name type).names (λ deed. locals deed ++ name ∷ [])
      (behind_narrows (λ deed. (of_statement deed a.0).done) parent locals (λ deed. name ∷ []) s.names others (with_local s name type).names (with_local (at_names others s) name type).names (means_behind s.names others name type) (λ deed m h. means_new s.names others name type m (one_name m h)) (fewer_behind s.names others name type n.fewer) too n))
    where
      one_name : (m : List ℕ) → is_free m (name ∷ []) ≡ false → bytes_eq name m ≡ true
      one_name m e = by (bytes_eq name m) e
        where
          by : (b : Bool) → not (b || false) ≡ false → b ≡ true
          by true e1 = refl
          by false e1 = absurd (cc)

-- behind the start of a `for`
abbrev begins_of : Option SuchStmt → Deed → List (List ℕ)
begins_of None deed = []
begins_of (Some a) deed = (of_statement deed a.0).declares

behind_is : (start : Option SuchStmt) (deed : Deed) (locals : List (List ℕ)) → does.behind (option_map (of_statement deed) (option_map (λ (z : SuchStmt). z.0) start)) locals ≡ locals ++ begins_of start deed
behind_is None deed locals = sym (append-nil locals)
behind_is (Some a) deed locals = refl

-- one shape of a `for`
abbrev bare_start : Option SuchStmt → Option Stmt
bare_start start = option_map (λ (z : SuchStmt). z.0) start

for_claim : (start : Option SuchStmt) (test step : Option Expr) (body : SuchStmt) → KindClaim (sk.For (bare_start start) test step body.0)
unfolding behind_narrows
for_claim start test step body f place s others locals n =
    same_follows (SameDone s.names others (λ deed. (of_statement_kind deed kind).declares)) _ _ _ _ (statements.for_statement f (bare_start start) test step body.0 place s) (law.for_statement (bare_start start) test step body.0 place (at_names others s))
    (for_follows s others n.fewer (λ deed. (of_statement_kind deed kind).declares) (begins_of start) _ _ _ _ _ _ _ _ (λ deed. deeds.for_declares deed (bare_start start) test step body.0) (begun start (λ deed h. deeds.for_statement deed (bare_start start) test step body.0 (locals deed) ∙ or_one _ _ h)) rest)
  where
    kind : StmtKind
    kind = sk.For (bare_start start) test step body.0

    begun : (o : Option SuchStmt) → ((deed : Deed) → does.if_there (λ (x : Stated). x.done (locals deed)) (option_map (of_statement deed) (bare_start o)) ≡ true → (of_statement_kind deed kind).done (locals deed) ≡ true)
        → Follows (SameStart s.names others (begins_of o)) (st.started (option_map (forbidding.statement f) (bare_start o)) s) (st.started (option_map statement (bare_start o)) (at_names others s))
    begun None too = (_, refl, record { code = None; after = others; is = refl; keeps = λ name h. h; declared = λ deed name e. none_declared name e; fewer = n.fewer })
    begun (Some a) too = started_follows s others (λ deed. (of_statement deed a.0).declares) (forbidding.statement f a.0) (statement a.0) (sub f s others locals (λ deed. (of_statement_kind deed kind).done) n a too)

    rest : (x y : Option Code × Scope) (same : SameStart s.names others (begins_of start) x y)
        → RestFollows x.1 same.after (option_map (λ (u : Uses). u.value) (option_map (forbidding.uses f) test)) (option_map (λ (u : Uses). u.value) (option_map uses test)) (option_map (λ (u : Uses). u.value) (option_map (forbidding.uses f) step)) (option_map (λ (u : Uses). u.value) (option_map uses step)) (forbidding.statement f body.0) (statement body.0)
    rest x y same =
        record {
          tests = tests_follow x.1 same.after same.fewer _ _ (maybe f x.1 same.after inner whole narrow test (λ deed h. or_one _ _ h));
          steps = steps_follow x.1 same.after same.fewer _ _ (maybe f x.1 same.after inner whole narrow step (λ deed h. or_two _ _ (or_one _ _ h)));
          turns = alone f x.1 same.after inner whole narrow body (λ deed h. or_two _ _ (or_two _ _ h));
        }
      where
        inner : Deed → List (List ℕ)
        inner deed = locals deed ++ begins_of start deed

        whole : Deed → Done
        whole deed ls = does.if_there (λ (u : Asked). u.done ls) (option_map (of_expr deed) test) || (does.if_there (λ (u : Asked). u.done ls) (option_map (of_expr deed) step) || (of_statement deed body.0).done ls)

        narrow : Narrows whole inner x.1.names same.after
        narrow =
            behind_narrows whole (λ deed. (of_statement_kind deed kind).done) locals (begins_of start) s.names others x.1.names same.after same.keeps same.declared same.fewer
            (λ deed h. deeds.for_statement deed (bare_start start) test step body.0 (locals deed) ∙ or_two _ _ (ap (whole deed) (behind_is start deed (locals deed)) ∙ h)) n

-- the same declarations, said otherwise
other_declares : (names others : List Named) (one other : Deed → List (List ℕ)) → ((deed : Deed) → other deed ≡ one deed) → (j k : Judged st.Done) → Follows (SameDone names others one) j k → Follows (SameDone names others other) j k
other_declares names others one other same (fine x) k h =
    (h.0, h.1, record { code = h.2.code; after = h.2.after; is = h.2.is; keeps = h.2.keeps; declared = λ deed name e. h.2.declared deed name (subst (λ z. is_free name z ≡ false) (same deed) e); fewer = h.2.fewer })
other_declares names others one other same (breaks rule place) k h = tt

-- the forms of statements
go : (y : Layer) → KindClaim (roll-StmtKind (known y))
go (StmtKind-F.Local type m None) =
    subst KindClaim (sym (sk.rolls-Local type m None))
    (λ f place s others locals n. same_follows (SameDone s.names others (λ deed. (of_statement_kind deed (sk.Local type m None)).declares)) _ _ _ _ (statements.local_statement f type m None place s) (law.local_statement type m None place (at_names others s))
    (local_follows s others n.fewer (λ deed. (of_statement_kind deed (sk.Local type m None)).declares) type m _ _ (λ deed. deeds.local_declares deed type m None) (maybe f s others locals (λ deed. (of_statement_kind deed (sk.Local type m None)).done) n None (λ deed h. deeds.local_statement deed type m None (locals deed) ∙ h))))
go (StmtKind-F.Local type m (Some a)) =
    subst KindClaim (sym (sk.rolls-Local type m (Some a.0)))
    (λ f place s others locals n. same_follows (SameDone s.names others (λ deed. (of_statement_kind deed (sk.Local type m (Some a.0))).declares)) _ _ _ _ (statements.local_statement f type m (Some a.0) place s) (law.local_statement type m (Some a.0) place (at_names others s))
    (local_follows s others n.fewer (λ deed. (of_statement_kind deed (sk.Local type m (Some a.0))).declares) type m _ _ (λ deed. deeds.local_declares deed type m (Some a.0)) (maybe f s others locals (λ deed. (of_statement_kind deed (sk.Local type m (Some a.0))).done) n (Some a.0) (λ deed h. deeds.local_statement deed type m (Some a.0) (locals deed) ∙ h))))
go StmtKind-F.Empty =
    subst KindClaim (sym (sk.rolls-Empty))
    (λ f place s others locals n. same_follows (SameDone s.names others (λ deed. (of_statement_kind deed (sk.Empty)).declares)) _ _ _ _ (statements.empty_statement f place s) (law.empty_statement place (at_names others s))
    (stay s others n.fewer (λ deed. (of_statement_kind deed (sk.Empty)).declares) c.Empty c.Empty (λ deed. deeds.empty_declares deed)))
go (StmtKind-F.StmtKind::Block body) =
    let bare : List Stmt = map (λ (z : SuchStmt). z.0) body in
    subst KindClaim (sym (sk.rolls-Block bare))
    (λ f place s others locals n. same_follows (SameDone s.names others (λ deed. (of_statement_kind deed (sk.Block bare)).declares)) _ _ _ _ (statements.block_statement f bare place s) (law.block_statement bare place (at_names others s))
    (block_follows s others n.fewer (λ deed. (of_statement_kind deed (sk.Block bare)).declares) _ _ (λ deed. deeds.block_declares deed bare) (all_follow body f s others locals (part_narrows _ (λ deed. (of_statement_kind deed (sk.Block bare)).done) locals s.names others (λ deed h. deeds.block_statement deed bare (locals deed) ∙ h) n))))
go (StmtKind-F.If a b None) =
    subst KindClaim (sym (sk.rolls-If a.0 b.0 None))
    (λ f place s others locals n. same_follows (SameDone s.names others (λ deed. (of_statement_kind deed (sk.If a.0 b.0 None)).declares)) _ _ _ _ (statements.if_statement f a.0 b.0 None place s) (law.if_statement a.0 b.0 None place (at_names others s))
    (if_follows s others n.fewer (λ deed. (of_statement_kind deed (sk.If a.0 b.0 None)).declares) _ _ _ _ _ _ (λ deed. deeds.if_declares deed a.0 b.0 None) (value f s others locals (λ deed. (of_statement_kind deed (sk.If a.0 b.0 None)).done) n a.0 (λ deed h. deeds.if_statement deed a.0 b.0 None (locals deed) ∙ or_one _ _ h)) (alone f s others locals (λ deed. (of_statement_kind deed (sk.If a.0 b.0 None)).done) n b (λ deed h. deeds.if_statement deed a.0 b.0 None (locals deed) ∙ or_two _ _ (or_one _ _ h))) (branch f s others locals (λ deed. (of_statement_kind deed (sk.If a.0 b.0 None)).done) n None (λ deed h. deeds.if_statement deed a.0 b.0 None (locals deed) ∙ or_two _ _ (or_two _ _ h)))))
go (StmtKind-F.If a b (Some d)) =
    subst KindClaim (sym (sk.rolls-If a.0 b.0 (Some d.0)))
    (λ f place s others locals n. same_follows (SameDone s.names others (λ deed. (of_statement_kind deed (sk.If a.0 b.0 (Some d.0))).declares)) _ _ _ _ (statements.if_statement f a.0 b.0 (Some d.0) place s) (law.if_statement a.0 b.0 (Some d.0) place (at_names others s))
    (if_follows s others n.fewer (λ deed. (of_statement_kind deed (sk.If a.0 b.0 (Some d.0))).declares) _ _ _ _ _ _ (λ deed. deeds.if_declares deed a.0 b.0 (Some d.0)) (value f s others locals (λ deed. (of_statement_kind deed (sk.If a.0 b.0 (Some d.0))).done) n a.0 (λ deed h. deeds.if_statement deed a.0 b.0 (Some d.0) (locals deed) ∙ or_one _ _ h)) (alone f s others locals (λ deed. (of_statement_kind deed (sk.If a.0 b.0 (Some d.0))).done) n b (λ deed h. deeds.if_statement deed a.0 b.0 (Some d.0) (locals deed) ∙ or_two _ _ (or_one _ _ h))) (branch f s others locals (λ deed. (of_statement_kind deed (sk.If a.0 b.0 (Some d.0))).done) n (Some d) (λ deed h. deeds.if_statement deed a.0 b.0 (Some d.0) (locals deed) ∙ or_two _ _ (or_two _ _ h)))))
go (StmtKind-F.While a b) =
    subst KindClaim (sym (sk.rolls-While a.0 b.0))
    (λ f place s others locals n. same_follows (SameDone s.names others (λ deed. (of_statement_kind deed (sk.While a.0 b.0)).declares)) _ _ _ _ (statements.while_statement f a.0 b.0 place s) (law.while_statement a.0 b.0 place (at_names others s))
    (while_follows s others n.fewer (λ deed. (of_statement_kind deed (sk.While a.0 b.0)).declares) _ _ _ _ (λ deed. deeds.while_declares deed a.0 b.0) (value f s others locals (λ deed. (of_statement_kind deed (sk.While a.0 b.0)).done) n a.0 (λ deed h. deeds.while_statement deed a.0 b.0 (locals deed) ∙ or_one _ _ h)) (alone f s others locals (λ deed. (of_statement_kind deed (sk.While a.0 b.0)).done) n b (λ deed h. deeds.while_statement deed a.0 b.0 (locals deed) ∙ or_two _ _ h))))
go (StmtKind-F.For None None None body) = subst KindClaim (sym (sk.rolls-For None None None body.0)) (for_claim None None None body)
go (StmtKind-F.For None None (Some step) body) = subst KindClaim (sym (sk.rolls-For None None (Some step.0) body.0)) (for_claim None None (Some step.0) body)
go (StmtKind-F.For None (Some test) None body) = subst KindClaim (sym (sk.rolls-For None (Some test.0) None body.0)) (for_claim None (Some test.0) None body)
go (StmtKind-F.For None (Some test) (Some step) body) = subst KindClaim (sym (sk.rolls-For None (Some test.0) (Some step.0) body.0)) (for_claim None (Some test.0) (Some step.0) body)
go (StmtKind-F.For (Some start) None None body) = subst KindClaim (sym (sk.rolls-For (Some start.0) None None body.0)) (for_claim (Some start) None None body)
go (StmtKind-F.For (Some start) None (Some step) body) = subst KindClaim (sym (sk.rolls-For (Some start.0) None (Some step.0) body.0)) (for_claim (Some start) None (Some step.0) body)
go (StmtKind-F.For (Some start) (Some test) None body) = subst KindClaim (sym (sk.rolls-For (Some start.0) (Some test.0) None body.0)) (for_claim (Some start) (Some test.0) None body)
go (StmtKind-F.For (Some start) (Some test) (Some step) body) = subst KindClaim (sym (sk.rolls-For (Some start.0) (Some test.0) (Some step.0) body.0)) (for_claim (Some start) (Some test.0) (Some step.0) body)
go (StmtKind-F.ForEach m a b) =
    subst KindClaim (sym (sk.rolls-ForEach m a.0 b.0))
    (λ f place s others locals n. same_follows (SameDone s.names others (λ deed. (of_statement_kind deed (sk.ForEach m a.0 b.0)).declares)) _ _ _ _ (statements.for_each_statement f m a.0 b.0 place s) (law.for_each_statement m a.0 b.0 place (at_names others s))
    (for_each_follows s others n.fewer (λ deed. (of_statement_kind deed (sk.ForEach m a.0 b.0)).declares) m _ _ _ _ (λ deed. deeds.for_each_declares deed m a.0 b.0) (value f s others locals (λ deed. (of_statement_kind deed (sk.ForEach m a.0 b.0)).done) n a.0 (λ deed h. deeds.for_each_statement deed m a.0 b.0 (locals deed) ∙ or_one _ _ h)) (in_item f s others locals (λ deed. (of_statement_kind deed (sk.ForEach m a.0 b.0)).done) n m.name b (λ deed h. deeds.for_each_statement deed m a.0 b.0 (locals deed) ∙ or_two _ _ h))))
go (StmtKind-F.Switch a xs) =
    let bare : List Section = map (λ (z : SuchSection). z.0) xs in
    subst KindClaim (sym (sk.rolls-Switch a.0 bare))
    (λ f place s others locals n. same_follows (SameDone s.names others (λ deed. (of_statement_kind deed (sk.Switch a.0 bare)).declares)) _ _ _ _ (statements.switch_statement f a.0 bare place s) (law.switch_statement a.0 bare place (at_names others s))
    (switch_follows s others n.fewer (λ deed. (of_statement_kind deed (sk.Switch a.0 bare)).declares) _ _ _ _ (λ deed. deeds.switch_declares deed a.0 bare) (value f s others locals (λ deed. (of_statement_kind deed (sk.Switch a.0 bare)).done) n a.0 (λ deed h. deeds.switch_statement deed a.0 bare (locals deed) ∙ or_one _ _ h)) (sections f s others locals (λ deed. (of_statement_kind deed (sk.Switch a.0 bare)).done) n xs (λ deed h. deeds.switch_statement deed a.0 bare (locals deed) ∙ or_two _ _ h))))
go StmtKind-F.Break =
    subst KindClaim (sym (sk.rolls-Break))
    (λ f place s others locals n. same_follows (SameDone s.names others (λ deed. (of_statement_kind deed (sk.Break)).declares)) _ _ _ _ (statements.break_statement f place s) (law.break_statement place (at_names others s))
    (stay s others n.fewer (λ deed. (of_statement_kind deed (sk.Break)).declares) c.Break c.Break (λ deed. deeds.break_declares deed)))
go StmtKind-F.Continue =
    subst KindClaim (sym (sk.rolls-Continue))
    (λ f place s others locals n. same_follows (SameDone s.names others (λ deed. (of_statement_kind deed (sk.Continue)).declares)) _ _ _ _ (statements.continue_statement f place s) (law.continue_statement place (at_names others s))
    (stay s others n.fewer (λ deed. (of_statement_kind deed (sk.Continue)).declares) c.Continue c.Continue (λ deed. deeds.continue_declares deed)))
go (StmtKind-F.Return None) =
    subst KindClaim (sym (sk.rolls-Return None))
    (λ f place s others locals n. same_follows (SameDone s.names others (λ deed. (of_statement_kind deed (sk.Return None)).declares)) _ _ _ _ (statements.return_statement f None place s) (law.return_statement None place (at_names others s))
    (return_follows s others n.fewer (λ deed. (of_statement_kind deed (sk.Return None)).declares) _ _ place (λ deed. deeds.return_declares deed None) (maybe f s others locals (λ deed. (of_statement_kind deed (sk.Return None)).done) n None (λ deed h. deeds.return_statement deed None (locals deed) ∙ h))))
go (StmtKind-F.Return (Some a)) =
    subst KindClaim (sym (sk.rolls-Return (Some a.0)))
    (λ f place s others locals n. same_follows (SameDone s.names others (λ deed. (of_statement_kind deed (sk.Return (Some a.0))).declares)) _ _ _ _ (statements.return_statement f (Some a.0) place s) (law.return_statement (Some a.0) place (at_names others s))
    (return_follows s others n.fewer (λ deed. (of_statement_kind deed (sk.Return (Some a.0))).declares) _ _ place (λ deed. deeds.return_declares deed (Some a.0)) (maybe f s others locals (λ deed. (of_statement_kind deed (sk.Return (Some a.0))).done) n (Some a.0) (λ deed h. deeds.return_statement deed (Some a.0) (locals deed) ∙ h))))
go (StmtKind-F.Expr a) =
    subst KindClaim (sym (sk.rolls-Expr a.0))
    (λ f place s others locals n. same_follows (SameDone s.names others (λ deed. (of_statement_kind deed (sk.Expr a.0)).declares)) _ _ _ _ (statements.expr_statement f a.0 place s) (law.expr_statement a.0 place (at_names others s))
    (perform_follows s others n.fewer (λ deed. (of_statement_kind deed (sk.Expr a.0)).declares) _ _ (λ deed. deeds.expr_declares deed a.0) (value f s others locals (λ deed. (of_statement_kind deed (sk.Expr a.0)).done) n a.0 (λ deed h. deeds.expr_statement deed a.0 (locals deed) ∙ h))))
go (StmtKind-F.Await a) =
    subst KindClaim (sym (sk.rolls-Await a.0))
    (λ f place s others locals n. same_follows (SameDone s.names others (λ deed. (of_statement_kind deed (sk.Await a.0)).declares)) _ _ _ _ (statements.await_statement f a.0 place s) (law.await_statement a.0 place (at_names others s))
    (perform_follows s others n.fewer (λ deed. (of_statement_kind deed (sk.Await a.0)).declares) _ _ (λ deed. deeds.await_declares deed a.0) (value f s others locals (λ deed. (of_statement_kind deed (sk.Await a.0)).done) n a.0 (λ deed h. deeds.await_statement deed a.0 (locals deed) ∙ h))))

go_stmt : (y : Stmt-F ((x : Body) × Unit {0}) ((x : ExprKind) × Unit {0}) SuchKind ((x : TextPart) × Unit {0}) SuchExpr SuchSection SuchStmt ((x : WithPart) × Unit {0})) → StmtClaim (record { place = y.place; kind = y.kind.0 })
go_stmt y f s others locals n =
    let a : Stmt = record { place = y.place; kind = y.kind.0 } in
    let same : (deed : Deed) → of_statement deed a ≡ of_statement_kind deed y.kind.0 = λ deed. deeds.statement_law deed a in
    same_follows (SameDone s.names others (λ deed. (of_statement deed a).declares)) _ _ _ _ (ap (λ (g : Statement). g s) (forms.statement_law f a)) (ap (λ (g : Statement). g (at_names others s)) (law.statement_law a))
    (other_declares s.names others (λ deed. (of_statement_kind deed y.kind.0).declares) (λ deed. (of_statement deed a).declares) (λ deed. ap (λ (u : Stated). u.declares) (same deed)) _ _
    (y.kind.1 f y.place s others locals (part_narrows (λ deed. (of_statement_kind deed y.kind.0).done) (λ deed. (of_statement deed a).done) locals s.names others (λ deed h. ap (λ (u : Stated). u.done (locals deed)) (same deed) ∙ h) n)))

go_section : (y : Section-F ((x : Body) × Unit {0}) ((x : ExprKind) × Unit {0}) SuchKind ((x : TextPart) × Unit {0}) SuchExpr SuchSection SuchStmt ((x : WithPart) × Unit {0})) (a : Section) → out-Section a ≡ record { labels = y.labels; body = map (λ (z : SuchStmt). z.0) y.body } → SectionClaim a
go_section y a is f s others locals decided n =
    let bare : List Stmt = map (λ (z : SuchStmt). z.0) y.body in
    same_follows Both _ _ _ _ (ap (λ g. g decided s) (forms.section_law f a ∙ ap (λ o. st.section o.labels (map (forbidding.statement f) o.body)) is)) (ap (λ g. g decided (at_names others s)) (law.section_law a ∙ ap (λ o. st.section o.labels (map statement o.body)) is))
    (section_follows s others n.fewer y.labels _ _ decided
    (all_follow y.body f s others locals (part_narrows _ (λ deed. of_section deed a) locals s.names others (λ deed h. deeds.section_law deed a (locals deed) ∙ ap (λ o. does.in_order (map (of_statement deed) o.body) (locals deed)) is ∙ h) n)))

pub statement_tree : (a : Stmt) → StmtClaim a
statement_tree =
    ind-Stmt (λ x. Unit {0}) (λ x. Unit {0}) KindClaim (λ x. Unit {0}) (λ x. Unit {0}) SectionClaim StmtClaim (λ x. Unit {0})
    (λ x y is. tt)
    (λ x y is. tt)
    (λ x y is. subst (λ z. KindClaim (roll-StmtKind z)) is (go y))
    (λ x y is. tt)
    (λ x y is. tt)
    (λ x y is. subst (λ z. SectionClaim (roll-Section z)) is (go_section y (roll-Section (record { labels = y.labels; body = map (λ (z : SuchStmt). z.0) y.body })) (out-roll-Section _)))
    (λ x y is. subst (λ z. StmtClaim (roll-Stmt z)) is (go_stmt y))
    (λ x y is. tt)

abbrev such_all : List Stmt → List SuchStmt
such_all [] = []
such_all (one ∷ rest) = (one, statement_tree one) ∷ such_all rest

bare_all : (body : List Stmt) → map (λ (z : SuchStmt). z.0) (such_all body) ≡ body
bare_all [] = refl
bare_all (one ∷ rest) = ap (λ z. one ∷ z) (bare_all rest)

-- the statements of a body
pub statements_tree : (body : List Stmt) (f : Forbidden) (s : Scope) (others : List Named) (locals : Deed → List (List ℕ)) → Narrows (λ deed. does.in_order (map (of_statement deed) body)) locals s.names others
    → Follows Both (st.in_order (map (forbidding.statement f) body) s) (st.in_order (map statement body) (at_names others s))
statements_tree body f s others locals n =
    subst (λ z. Narrows (λ deed. does.in_order (map (of_statement deed) z)) locals s.names others → Follows Both (st.in_order (map (forbidding.statement f) z) s) (st.in_order (map statement z) (at_names others s))) (bare_all body)
    (λ k. all_follow (such_all body) f s others locals k) n
