-- Every expression in two scopes: by induction on its tree.
use Rattle.std.proofs.Common.{◌≡◌, ℕ, List, [], ◌∷◌, map, refl, sym, ap, subst, ◌∙◌}
use Rattle.std.specs.Prelude.{Bool, true, false, ◌||◌, ◌&&◌, Option, Some, None, bytes_eq}
use Rattle.std.specs.List.{list_any}
use Rattle.std.proofs.lemmas.Slice.Eq.{bytes_eq-Decides}
use Rattle.text_core.specs.declared.place.Place.{Place}
use Rattle.cs_ast.specs.declared.expression.Body.{Body}
use Rattle.cs_ast.specs.declared.expression.Body.TheOpen.{ExprKind-F, TextPart-F}
use Rattle.cs_ast.specs.declared.expression.Body.TheFolds.{ind-Expr, map-ExprKind, map-TextPart}
use Rattle.cs_ast.specs.declared.expression.Body.TheViews.{roll-ExprKind, roll-TextPart}
use Rattle.cs_ast.specs.declared.expression.Expr.{Expr, Expr-F, roll-Expr}
use Rattle.cs_ast.specs.declared.expression.ExprKind.{ExprKind}
use Rattle.cs_ast.specs.declared.expression.ExprKind.TheVariants as ek
use Rattle.cs_ast.specs.declared.expression.Section.{Section}
use Rattle.cs_ast.specs.declared.expression.Stmt.{Stmt}
use Rattle.cs_ast.specs.declared.expression.StmtKind.{StmtKind}
use Rattle.cs_ast.specs.declared.expression.TextPart.{TextPart}
use Rattle.cs_ast.specs.declared.expression.TextPart.TheVariants as tp
use Rattle.cs_ast.specs.declared.expression.WithPart.{WithPart, WithPart-F, roll-WithPart}
use Rattle.cs_ast.specs.declared.identifier.Ident.{Ident}
use Rattle.cs_ast.specs.declared.operators.StaticType.{StaticType}
use Rattle.cs_ast.specs.declared.scope.Named.{Named}
use Rattle.cs_ast.specs.declared.scope.Scope.{Scope}
use Rattle.cs_effects.specs.declared.deed.Deed.{Deed}
use Rattle.cs_effects.specs.Deeds.{Done, Asked, is_free, by_use, by_change, of_expr, of_kind, of_part, of_with}
use Rattle.cs_effects.proofs.DeedLaws as deeds
use Rattle.cs_rules.specs.declared.callee.Callee.{Callee}
use Rattle.cs_rules.specs.declared.checked.Checked.{Checked}
use Rattle.cs_rules.specs.declared.rule.Rule.{Rule}
use Rattle.cs_rules.specs.Judged.{Judged, fine, breaks, ◌>>=◌}
use Rattle.cs_rules.specs.Library.{callee_of_value, static_callee}
use Rattle.cs_rules.specs.Expressions as e
use Rattle.cs_rules.specs.Expressions.{Value, Given}
use Rattle.cs_rules.specs.Trees.{Uses, uses, uses_of_kind, piece, given}
use Rattle.cs_rules.proofs.Laws as law
use Rattle.cs_forbidden.specs.declared.forbidden.Forbidden.{Forbidden}
use Rattle.cs_forbidden.specs.Roots.{against, against_called}
use Rattle.cs_forbidden.specs.Trees as forbidding
use Rattle.cs_forbidden.specs.Trees.{allowed}
use Rattle.cs_forbidden.specs.Forms as form
use Rattle.cs_forbidden.proofs.FormLaws as forms
use Rattle.cs_forbidden.proofs.ExpressionLaws as values
use Rattle.razor_rules.specs.TemplateDeeds.{reading, changing}
use Rattle.page_typing.specs.Narrowing.{at_names, Means, Narrows, Follows, SameValue, SameCallee, Both}
use Rattle.page_typing.proofs.Following.{same_follows}
use Rattle.page_typing.proofs.NarrowExpressions.{unary_follows, cast_follows, binary_follows, conditional_follows, hole_follows, PiecesFollow, no_piece, one_piece, interpolated_follows, index_follows, called_follows, member_follows, null_follows, member_called_follows, ValuesFollow, no_value, one_value, call_follows, new_record_follows, empty_follows}
use Rattle.page_typing.proofs.NarrowChanges.{name_read_follows, name_called_follows, assign_follows, step_follows, GivenFollow, none_given, one_given, with_follows}
use mathlib.Core.Logic.{inl, inr}

pub or_one : (p q : Bool) → p ≡ true → (p || q) ≡ true
or_one true q h = refl
or_one false q h = absurd (cc)

pub or_two : (p q : Bool) → q ≡ true → (p || q) ≡ true
or_two true q h = refl
or_two false q h = h

-- the part of what does something
pub part_narrows : (child parent : Deed → Done) (locals : Deed → List (List ℕ)) (names others : List Named) → ((deed : Deed) → child deed (locals deed) ≡ true → parent deed (locals deed) ≡ true) → Narrows parent locals names others → Narrows child locals names others
part_narrows child parent locals names others too n = record { used = λ deed name u h. n.used deed name u (too deed h); own = n.own; fewer = n.fewer }

-- the claims
abbrev pub KindClaim : ExprKind → Type 0
KindClaim kind =
    (f : Forbidden) (place : Place) (s : Scope) (others : List Named) (locals : Deed → List (List ℕ)) → Narrows (λ deed. (of_kind deed kind).done) locals s.names others →
    Follows SameValue (form.value_of_kind f kind place s) ((uses_of_kind kind place).value (at_names others s)) × Follows SameCallee (form.callee_of_kind f kind place s) ((uses_of_kind kind place).callee (at_names others s))

abbrev pub ExprClaim : Expr → Type 0
ExprClaim a =
    (f : Forbidden) (s : Scope) (others : List Named) (locals : Deed → List (List ℕ)) → Narrows (λ deed. (of_expr deed a).done) locals s.names others →
    Follows SameValue ((forbidding.uses f a).value s) ((uses a).value (at_names others s)) × Follows SameCallee ((forbidding.uses f a).callee s) ((uses a).callee (at_names others s))

abbrev TextClaim : TextPart → Type 0
TextClaim a = (f : Forbidden) (s : Scope) (others : List Named) (locals : Deed → List (List ℕ)) → Narrows (λ deed. of_part deed a) locals s.names others → Follows Both (form.piece f a s) (piece a (at_names others s))

abbrev PartClaim : WithPart → Type 0
PartClaim a = (f : Forbidden) (s : Scope) (others : List Named) (locals : Deed → List (List ℕ)) → Narrows (λ deed. of_with deed a) locals s.names others → Follows SameValue ((form.given f a).value s) ((given a).value (at_names others s))

abbrev SuchKind : Type 0
SuchKind = (x : ExprKind) × KindClaim x

abbrev SuchExpr : Type 0
SuchExpr = (x : Expr) × ExprClaim x

abbrev SuchText : Type 0
SuchText = (x : TextPart) × TextClaim x

abbrev SuchPart : Type 0
SuchPart = (x : WithPart) × PartClaim x

abbrev SuchBody : Type 0
SuchBody = (x : Body) × Unit {0}

abbrev SuchStmtKind : Type 0
SuchStmtKind = (x : StmtKind) × Unit {0}

abbrev SuchSection : Type 0
SuchSection = (x : Section) × Unit {0}

abbrev SuchStmt : Type 0
SuchStmt = (x : Stmt) × Unit {0}

abbrev Layer : Type 0
Layer = ExprKind-F SuchBody SuchKind SuchStmtKind SuchText SuchExpr SuchSection SuchStmt SuchPart

-- a layer without what is known of its parts
abbrev known : Layer → ExprKind-F Body ExprKind StmtKind TextPart Expr Section Stmt WithPart
known y = map-ExprKind SuchBody SuchKind SuchStmtKind SuchText SuchExpr SuchSection SuchStmt SuchPart Body ExprKind StmtKind TextPart Expr Section Stmt WithPart
    (λ z. z.0) (λ z. z.0) (λ z. z.0) (λ z. z.0) (λ z. z.0) (λ z. z.0) (λ z. z.0) (λ z. z.0) y

-- a form that is called as a value is
plain : (kind : ExprKind)
    → ((n : List ℕ) → kind ≡ ek.Name n → ⊥) → ((a : Expr) (n : Ident) → kind ≡ ek.Member a n → ⊥) → ((of : StaticType) (n : Ident) → kind ≡ ek.Static of n → ⊥)
    → ((f : Forbidden) (place : Place) (s : Scope) (others : List Named) (locals : Deed → List (List ℕ)) → Narrows (λ deed. (of_kind deed kind).done) locals s.names others → Follows SameValue (form.value_of_kind f kind place s) ((uses_of_kind kind place).value (at_names others s)))
    → KindClaim kind
plain kind name member static h f place s others locals n = (
  h f place s others locals n,
  same_follows SameCallee (form.callee_of_kind f kind place s) (form.value_of_kind f kind place s >>= callee_of_value) ((uses_of_kind kind place).callee (at_names others s)) ((uses_of_kind kind place).value (at_names others s) >>= callee_of_value)
      (values.other_callee f kind place s name member static) (law.other_callee kind place (at_names others s) name member static)
      (called_follows s (at_names others s) (form.value_of_kind f kind place s) ((uses_of_kind kind place).value (at_names others s)) (h f place s others locals n)),
)

module _ (f : Forbidden) (s : Scope) (others : List Named) (locals : Deed → List (List ℕ)) (parent : Deed → Done) (n : Narrows parent locals s.names others) where
  -- a part of what does something
  sub : (a : SuchExpr) → ((deed : Deed) → (of_expr deed a.0).done (locals deed) ≡ true → parent deed (locals deed) ≡ true) → Follows SameValue ((forbidding.uses f a.0).value s) ((uses a.0).value (at_names others s)) × Follows SameCallee ((forbidding.uses f a.0).callee s) ((uses a.0).callee (at_names others s))
  sub a too = a.1 f s others locals (part_narrows (λ deed. (of_expr deed a.0).done) parent locals s.names others too n)

  pieces : (parts : List SuchText) → ((deed : Deed) → list_any (λ (part : Done). part (locals deed)) (map (of_part deed) (map (λ (z : SuchText). z.0) parts)) ≡ true → parent deed (locals deed) ≡ true)
      → PiecesFollow s (at_names others s) (map (form.piece f) (map (λ (z : SuchText). z.0) parts)) (map piece (map (λ (z : SuchText). z.0) parts))
  pieces [] too = no_piece
  pieces (one ∷ rest) too =
      one_piece (form.piece f one.0) (piece one.0) _ _ (one.1 f s others locals (part_narrows (λ deed. of_part deed one.0) parent locals s.names others (λ deed h. too deed (or_one (of_part deed one.0 (locals deed)) _ h)) n))
      (pieces rest (λ deed h. too deed (or_two (of_part deed one.0 (locals deed)) _ h)))

  arguments : (xs : List SuchExpr) → ((deed : Deed) → list_any (λ (x : Asked). x.done (locals deed)) (map (of_expr deed) (map (λ (z : SuchExpr). z.0) xs)) ≡ true → parent deed (locals deed) ≡ true)
      → ValuesFollow s (at_names others s) (map (λ (x : Uses). x.value) (map (forbidding.uses f) (map (λ (z : SuchExpr). z.0) xs))) (map (λ (x : Uses). x.value) (map uses (map (λ (z : SuchExpr). z.0) xs)))
  arguments [] too = no_value
  arguments (one ∷ rest) too =
      one_value (forbidding.uses f one.0).value (uses one.0).value _ _ (sub one (λ deed h. too deed (or_one ((of_expr deed one.0).done (locals deed)) _ h))).0 (arguments rest (λ deed h. too deed (or_two ((of_expr deed one.0).done (locals deed)) _ h)))

  same_name : (a : WithPart) → (given a).name ≡ (form.given f a).name
  same_name a = ap (λ (g : Given). g.name) (law.given_law a) ∙ sym (ap (λ (g : Given). g.name) (forms.given_law f a))

  parts_given : (xs : List SuchPart) → ((deed : Deed) → list_any (λ (part : Done). part (locals deed)) (map (of_with deed) (map (λ (z : SuchPart). z.0) xs)) ≡ true → parent deed (locals deed) ≡ true)
      → GivenFollow s.names others s (map (form.given f) (map (λ (z : SuchPart). z.0) xs)) (map given (map (λ (z : SuchPart). z.0) xs))
  parts_given [] too = none_given
  parts_given (one ∷ rest) too =
      one_given (form.given f one.0) (given one.0) _ _ (same_name one.0) (one.1 f s others locals (part_narrows (λ deed. of_with deed one.0) parent locals s.names others (λ deed h. too deed (or_one (of_with deed one.0 (locals deed)) _ h)) n))
      (parts_given rest (λ deed h. too deed (or_two (of_with deed one.0 (locals deed)) _ h)))

-- a name that code reads, and a variable that it changes
means_read : (name : List ℕ) (locals : Deed → List (List ℕ)) (names others : List Named) (does : Deed → Done) → ((deed : Deed) → does deed (locals deed) ≡ (is_free name (locals deed) && by_use deed name)) → Narrows does locals names others → Means names others name
unfolding by_use
means_read name locals names others does law_of n = by (is_free name (locals (reading name))) refl
  where
    by : (b : Bool) → is_free name (locals (reading name)) ≡ b → Means names others name
    by false h = n.own (reading name) name h
    by true h = n.used (reading name) name (inl refl) (law_of (reading name) ∙ ap (λ z. z && bytes_eq name name) h ∙ (bytes_eq-Decides name name).1 refl)

means_changed : (name : List ℕ) (locals : Deed → List (List ℕ)) (names others : List Named) (does : Deed → Done) → ((deed : Deed) → (is_free name (locals deed) && by_change deed name) ≡ true → does deed (locals deed) ≡ true) → Narrows does locals names others → Means names others name
unfolding by_change
means_changed name locals names others does too n = by (is_free name (locals (changing name))) refl
  where
    by : (b : Bool) → is_free name (locals (changing name)) ≡ b → Means names others name
    by false h = n.own (changing name) name h
    by true h = n.used (changing name) name (inr refl) (too (changing name) (ap (λ z. z && (bytes_eq name name || false)) h ∙ or_one (bytes_eq name name) false ((bytes_eq-Decides name name).1 refl)))

same_value : (j : Judged Checked) → Follows SameValue j j
same_value (fine x) = (x, refl, (x.code, refl))
same_value (breaks rule place) = tt

same_callee : (j : Judged Callee) → Follows SameCallee j j
same_callee (fine x) = (x, refl, (x.called, refl))
same_callee (breaks rule place) = tt

-- the forms of expressions
go : (y : Layer) → KindClaim (roll-ExprKind (known y))
unfolding e.static_member
go (ExprKind-F.Int x) =
    subst KindClaim (sym (ek.rolls-Int x))
    (plain (ek.Int x) (λ m h. absurd (cc)) (λ b m h. absurd (cc)) (λ of m h. absurd (cc))
    (λ f place s others locals n. same_follows SameValue _ _ _ _ (values.int_value f x place s) (law.int_value x place (at_names others s))
    ((_, refl, (_, refl)))))
go (ExprKind-F.Bool x) =
    subst KindClaim (sym (ek.rolls-Bool x))
    (plain (ek.Bool x) (λ m h. absurd (cc)) (λ b m h. absurd (cc)) (λ of m h. absurd (cc))
    (λ f place s others locals n. same_follows SameValue _ _ _ _ (values.bool_value f x place s) (law.bool_value x place (at_names others s))
    ((_, refl, (_, refl)))))
go (ExprKind-F.Text x) =
    subst KindClaim (sym (ek.rolls-Text x))
    (plain (ek.Text x) (λ m h. absurd (cc)) (λ b m h. absurd (cc)) (λ of m h. absurd (cc))
    (λ f place s others locals n. same_follows SameValue _ _ _ _ (values.text_value f x place s) (law.text_value x place (at_names others s))
    ((_, refl, (_, refl)))))
go ExprKind-F.Null =
    subst KindClaim (sym (ek.rolls-Null))
    (plain (ek.Null) (λ m h. absurd (cc)) (λ b m h. absurd (cc)) (λ of m h. absurd (cc))
    (λ f place s others locals n. same_follows SameValue _ _ _ _ (values.null_value f place s) (law.null_value place (at_names others s))
    ((_, refl, (_, refl)))))
go (ExprKind-F.Interpolated parts) =
    let bare : List TextPart = map (λ (z : SuchText). z.0) parts in
    subst KindClaim (sym (ek.rolls-Interpolated bare))
    (plain (ek.Interpolated bare) (λ m h. absurd (cc)) (λ b m h. absurd (cc)) (λ of m h. absurd (cc))
    (λ f place s others locals n. same_follows SameValue _ _ _ _ (values.interpolated_value f bare place s) (law.interpolated_value bare place (at_names others s))
    (interpolated_follows s (at_names others s) (map (form.piece f) bare) (map piece bare) place (pieces f s others locals (λ deed. (of_kind deed (ek.Interpolated bare)).done) n parts (λ deed h. deeds.interpolated_done deed bare (locals deed) ∙ h)))))
go (ExprKind-F.Name name) =
    subst KindClaim (sym (ek.rolls-Name name))
    (λ f place s others locals n.
    let m : Means s.names others name = means_read name locals s.names others (λ deed. (of_kind deed (ek.Name name)).done) (λ deed. deeds.name_done deed name (locals deed)) n in (
      same_follows SameValue _ _ _ _ (values.name_value f name place s) (law.name_value name place (at_names others s)) (name_read_follows s.names others s name place m),
      same_follows SameCallee _ _ _ _ (values.name_called f name place s) (law.name_called name place (at_names others s)) (name_called_follows s.names others s name place m),
    ))
go (ExprKind-F.Unary o a) =
    subst KindClaim (sym (ek.rolls-Unary o a.0))
    (plain (ek.Unary o a.0) (λ m h. absurd (cc)) (λ b m h. absurd (cc)) (λ of m h. absurd (cc))
    (λ f place s others locals n. same_follows SameValue _ _ _ _ (values.unary_value f o a.0 place s) (law.unary_value o a.0 place (at_names others s))
    (unary_follows s (at_names others s) o _ _ place ((sub f s others locals (λ deed. (of_kind deed (ek.Unary o a.0)).done) n a (λ deed h. deeds.unary_done deed o a.0 (locals deed) ∙ h)).0))))
go (ExprKind-F.Cast o a) =
    subst KindClaim (sym (ek.rolls-Cast o a.0))
    (plain (ek.Cast o a.0) (λ m h. absurd (cc)) (λ b m h. absurd (cc)) (λ of m h. absurd (cc))
    (λ f place s others locals n. same_follows SameValue _ _ _ _ (values.cast_value f o a.0 place s) (law.cast_value o a.0 place (at_names others s))
    (cast_follows s (at_names others s) o _ _ place ((sub f s others locals (λ deed. (of_kind deed (ek.Cast o a.0)).done) n a (λ deed h. deeds.cast_done deed o a.0 (locals deed) ∙ h)).0))))
go (ExprKind-F.Binary o a b) =
    subst KindClaim (sym (ek.rolls-Binary o a.0 b.0))
    (plain (ek.Binary o a.0 b.0) (λ m h. absurd (cc)) (λ b m h. absurd (cc)) (λ of m h. absurd (cc))
    (λ f place s others locals n. same_follows SameValue _ _ _ _ (values.binary_value f o a.0 b.0 place s) (law.binary_value o a.0 b.0 place (at_names others s))
    (binary_follows s (at_names others s) o _ _ _ _ place refl ((sub f s others locals (λ deed. (of_kind deed (ek.Binary o a.0 b.0)).done) n a (λ deed h. deeds.binary_done deed o a.0 b.0 (locals deed) ∙ or_one _ _ h)).0) ((sub f s others locals (λ deed. (of_kind deed (ek.Binary o a.0 b.0)).done) n b (λ deed h. deeds.binary_done deed o a.0 b.0 (locals deed) ∙ or_two _ _ h)).0))))
go (ExprKind-F.Conditional a b d) =
    subst KindClaim (sym (ek.rolls-Conditional a.0 b.0 d.0))
    (plain (ek.Conditional a.0 b.0 d.0) (λ m h. absurd (cc)) (λ b m h. absurd (cc)) (λ of m h. absurd (cc))
    (λ f place s others locals n. same_follows SameValue _ _ _ _ (values.conditional_value f a.0 b.0 d.0 place s) (law.conditional_value a.0 b.0 d.0 place (at_names others s))
    (conditional_follows s (at_names others s) _ _ _ _ _ _ place ((sub f s others locals (λ deed. (of_kind deed (ek.Conditional a.0 b.0 d.0)).done) n a (λ deed h. deeds.conditional_done deed a.0 b.0 d.0 (locals deed) ∙ or_one _ _ h)).0) ((sub f s others locals (λ deed. (of_kind deed (ek.Conditional a.0 b.0 d.0)).done) n b (λ deed h. deeds.conditional_done deed a.0 b.0 d.0 (locals deed) ∙ or_two _ _ (or_one _ _ h))).0) ((sub f s others locals (λ deed. (of_kind deed (ek.Conditional a.0 b.0 d.0)).done) n d (λ deed h. deeds.conditional_done deed a.0 b.0 d.0 (locals deed) ∙ or_two _ _ (or_two _ _ h))).0))))
go (ExprKind-F.With a parts) =
    let bare : List WithPart = map (λ (z : SuchPart). z.0) parts in
    subst KindClaim (sym (ek.rolls-With a.0 bare))
    (plain (ek.With a.0 bare) (λ m h. absurd (cc)) (λ b m h. absurd (cc)) (λ of m h. absurd (cc))
    (λ f place s others locals n. same_follows SameValue _ _ _ _ (values.with_value f a.0 bare place s) (law.with_value a.0 bare place (at_names others s))
    (with_follows s.names others s _ _ _ _ place ((sub f s others locals (λ deed. (of_kind deed (ek.With a.0 bare)).done) n a (λ deed h. deeds.with_done deed a.0 bare (locals deed) ∙ or_one _ _ h)).0) (parts_given f s others locals (λ deed. (of_kind deed (ek.With a.0 bare)).done) n parts (λ deed h. deeds.with_done deed a.0 bare (locals deed) ∙ or_two _ _ h)))))
go (ExprKind-F.Member a m) =
    subst KindClaim (sym (ek.rolls-Member a.0 m))
    (λ f place s others locals n.
    let k : Follows SameValue ((forbidding.uses f a.0).value s) ((uses a.0).value (at_names others s)) = (sub f s others locals (λ deed. (of_kind deed (ek.Member a.0 m)).done) n a (λ deed h. deeds.member_done deed a.0 m (locals deed) ∙ h)).0 in (
      same_follows SameValue _ _ _ _ (values.member_value f a.0 m place s) (law.member_value a.0 m place (at_names others s)) (member_follows s (at_names others s) _ _ m place refl k),
      same_follows SameCallee _ _ _ _ (values.member_called f a.0 m place s) (law.member_called a.0 m place (at_names others s)) (member_called_follows s (at_names others s) _ _ m place refl k),
    ))
go (ExprKind-F.NullMember a m) =
    subst KindClaim (sym (ek.rolls-NullMember a.0 m))
    (plain (ek.NullMember a.0 m) (λ m h. absurd (cc)) (λ b m h. absurd (cc)) (λ of m h. absurd (cc))
    (λ f place s others locals n. same_follows SameValue _ _ _ _ (values.null_member_value f a.0 m place s) (law.null_member_value a.0 m place (at_names others s))
    (null_follows s (at_names others s) _ _ m place refl ((sub f s others locals (λ deed. (of_kind deed (ek.NullMember a.0 m)).done) n a (λ deed h. deeds.null_member_done deed a.0 m (locals deed) ∙ h)).0))))
go (ExprKind-F.Call a xs) =
    let bare : List Expr = map (λ (z : SuchExpr). z.0) xs in
    subst KindClaim (sym (ek.rolls-Call a.0 bare))
    (plain (ek.Call a.0 bare) (λ m h. absurd (cc)) (λ b m h. absurd (cc)) (λ of m h. absurd (cc))
    (λ f place s others locals n. same_follows SameValue _ _ _ _ (values.call_value f a.0 bare place s) (law.call_value a.0 bare place (at_names others s))
    (call_follows s (at_names others s) _ _ _ _ place (sub f s others locals (λ deed. (of_kind deed (ek.Call a.0 bare)).done) n a (λ deed h. deeds.call_done deed a.0 bare (locals deed) ∙ or_two _ _ (or_one _ _ h))).1 (arguments f s others locals (λ deed. (of_kind deed (ek.Call a.0 bare)).done) n xs (λ deed h. deeds.call_done deed a.0 bare (locals deed) ∙ or_two _ _ (or_two _ _ h))))))
go (ExprKind-F.Index a b) =
    subst KindClaim (sym (ek.rolls-Index a.0 b.0))
    (plain (ek.Index a.0 b.0) (λ m h. absurd (cc)) (λ b m h. absurd (cc)) (λ of m h. absurd (cc))
    (λ f place s others locals n. same_follows SameValue _ _ _ _ (values.index_value f a.0 b.0 place s) (law.index_value a.0 b.0 place (at_names others s))
    (index_follows s (at_names others s) _ _ _ _ place ((sub f s others locals (λ deed. (of_kind deed (ek.Index a.0 b.0)).done) n a (λ deed h. deeds.index_done deed a.0 b.0 (locals deed) ∙ or_one _ _ h)).0) ((sub f s others locals (λ deed. (of_kind deed (ek.Index a.0 b.0)).done) n b (λ deed h. deeds.index_done deed a.0 b.0 (locals deed) ∙ or_two _ _ h)).0))))
go (ExprKind-F.New m xs) =
    let bare : List Expr = map (λ (z : SuchExpr). z.0) xs in
    subst KindClaim (sym (ek.rolls-New m bare))
    (plain (ek.New m bare) (λ m h. absurd (cc)) (λ b m h. absurd (cc)) (λ of m h. absurd (cc))
    (λ f place s others locals n. same_follows SameValue _ _ _ _ (values.new_value f m bare place s) (law.new_value m bare place (at_names others s))
    (new_record_follows s (at_names others s) m _ _ place refl (arguments f s others locals (λ deed. (of_kind deed (ek.New m bare)).done) n xs (λ deed h. deeds.new_done deed m bare (locals deed) ∙ h)))))
go (ExprKind-F.EmptyList type) =
    subst KindClaim (sym (ek.rolls-EmptyList type))
    (plain (ek.EmptyList type) (λ m h. absurd (cc)) (λ b m h. absurd (cc)) (λ of m h. absurd (cc))
    (λ f place s others locals n. same_follows SameValue _ _ _ _ (values.empty_list_value f type place s) (law.empty_list_value type place (at_names others s))
    (empty_follows s (at_names others s) type place refl)))
go (ExprKind-F.Static of m) =
    subst KindClaim (sym (ek.rolls-Static of m))
    (λ f place s others locals n. (
      same_follows SameValue _ _ _ _ (values.static_value f of m place s) (law.static_value of m place (at_names others s)) (same_value (e.static_member of m place s)),
      same_follows SameCallee _ _ _ _ (values.static_called f of m place s) (law.static_called of m place (at_names others s)) (same_callee (static_callee place of m)),
    ))
go (ExprKind-F.Assign o m a) =
    subst KindClaim (sym (ek.rolls-Assign o m a.0))
    (plain (ek.Assign o m a.0) (λ m h. absurd (cc)) (λ b m h. absurd (cc)) (λ of m h. absurd (cc))
    (λ f place s others locals n. same_follows SameValue _ _ _ _ (values.assign_value f o m a.0 place s) (law.assign_value o m a.0 place (at_names others s))
    (assign_follows s.names others s o m _ _ place (means_changed m.name locals s.names others (λ deed. (of_kind deed (ek.Assign o m a.0)).done) (λ deed h. deeds.assign_done deed o m a.0 (locals deed) ∙ or_one _ _ h) n) ((sub f s others locals (λ deed. (of_kind deed (ek.Assign o m a.0)).done) n a (λ deed h. deeds.assign_done deed o m a.0 (locals deed) ∙ or_two _ _ h)).0))))
go (ExprKind-F.Step o m) =
    subst KindClaim (sym (ek.rolls-Step o m))
    (plain (ek.Step o m) (λ m h. absurd (cc)) (λ b m h. absurd (cc)) (λ of m h. absurd (cc))
    (λ f place s others locals n. same_follows SameValue _ _ _ _ (values.step_value f o m place s) (law.step_value o m place (at_names others s))
    (step_follows s.names others s o m place (means_changed m.name locals s.names others (λ deed. (of_kind deed (ek.Step o m)).done) (λ deed h. deeds.step_done deed o m (locals deed) ∙ h) n))))
go (ExprKind-F.Lambda m b) =
    subst KindClaim (sym (ek.rolls-Lambda m b.0))
    (plain (ek.Lambda m b.0) (λ m h. absurd (cc)) (λ b m h. absurd (cc)) (λ of m h. absurd (cc))
    (λ f place s others locals n. same_follows SameValue _ _ _ _ (values.lambda_value f m b.0 place s) (law.lambda_value m b.0 place (at_names others s))
    (tt)))

abbrev TextLayer : Type 0
TextLayer = TextPart-F SuchBody SuchKind SuchStmtKind SuchText SuchExpr SuchSection SuchStmt SuchPart

abbrev known_text : TextLayer → TextPart-F Body ExprKind StmtKind TextPart Expr Section Stmt WithPart
known_text y = map-TextPart SuchBody SuchKind SuchStmtKind SuchText SuchExpr SuchSection SuchStmt SuchPart Body ExprKind StmtKind TextPart Expr Section Stmt WithPart
    (λ z. z.0) (λ z. z.0) (λ z. z.0) (λ z. z.0) (λ z. z.0) (λ z. z.0) (λ z. z.0) (λ z. z.0) y

go_text : (y : TextLayer) → TextClaim (roll-TextPart (known_text y))
go_text (TextPart-F.Literal x) = subst TextClaim (sym (tp.rolls-Literal x)) (λ f s others locals n. same_follows Both _ _ _ _ (forms.literal_piece f x s) (law.literal_piece x (at_names others s)) (_, refl, tt))
go_text (TextPart-F.Hole a) =
    subst TextClaim (sym (tp.rolls-Hole a.0))
    (λ f s others locals n. same_follows Both _ _ _ _ (forms.hole_piece f a.0 s) (law.hole_piece a.0 (at_names others s))
    (hole_follows s (at_names others s) _ _ (sub f s others locals (λ deed. of_part deed (tp.Hole a.0)) n a (λ deed h. deeds.hole_done deed a.0 (locals deed) ∙ h)).0))

-- what a rule against code's own deeds adds
allowed_follows : {A B : Type 0} (P : A → B → Type 0) (rule : A → Option Rule) (place : Place) (j : Judged A) (k : Judged B) → Follows P j k → Follows P (j >>= λ x. allowed (rule x) place x) k
allowed_follows P rule place (breaks r p) k h = tt
allowed_follows P rule place (fine x) k h = by (rule x)
  where
    by : (o : Option Rule) → Follows P (allowed o place x) k
    by None = h
    by (Some r) = tt

go_expr : (y : Expr-F SuchBody SuchKind SuchStmtKind SuchText SuchExpr SuchSection SuchStmt SuchPart) → ExprClaim (record { place = y.place; kind = y.kind.0 })
go_expr y f s others locals n =
    let a : Expr = record { place = y.place; kind = y.kind.0 } in
    let k = y.kind.1 f y.place s others locals (part_narrows (λ deed. (of_kind deed y.kind.0).done) (λ deed. (of_expr deed a).done) locals s.names others (λ deed h. ap (λ (u : Asked). u.done (locals deed)) (deeds.expr_law deed a) ∙ h) n) in (
      same_follows SameValue _ _ _ _ (forms.value_law f a s) (ap (λ (u : Uses). u.value (at_names others s)) (law.uses_law a)) (allowed_follows SameValue (λ x. against f x.code) y.place _ _ k.0),
      same_follows SameCallee _ _ _ _ (forms.callee_law f a s) (ap (λ (u : Uses). u.callee (at_names others s)) (law.uses_law a)) (allowed_follows SameCallee (λ it. against_called f it.called) y.place _ _ k.1),
    )

go_part : (y : WithPart-F SuchBody SuchKind SuchStmtKind SuchText SuchExpr SuchSection SuchStmt SuchPart) → PartClaim (record { name = y.name; value = y.value.0 })
go_part y f s others locals n =
    let a : WithPart = record { name = y.name; value = y.value.0 } in
    same_follows SameValue _ _ _ _ (ap (λ (g : Given). g.value s) (forms.given_law f a)) (ap (λ (g : Given). g.value (at_names others s)) (law.given_law a))
    (sub f s others locals (λ deed. of_with deed a) n y.value (λ deed h. deeds.with_law deed a (locals deed) ∙ h)).0

pub expression_tree : (a : Expr) → ExprClaim a
expression_tree =
    ind-Expr (λ x. Unit {0}) KindClaim (λ x. Unit {0}) TextClaim ExprClaim (λ x. Unit {0}) (λ x. Unit {0}) PartClaim
    (λ x y is. tt)
    (λ x y is. subst (λ z. KindClaim (roll-ExprKind z)) is (go y))
    (λ x y is. tt)
    (λ x y is. subst (λ z. TextClaim (roll-TextPart z)) is (go_text y))
    (λ x y is. subst (λ z. ExprClaim (roll-Expr z)) is (go_expr y))
    (λ x y is. tt)
    (λ x y is. tt)
    (λ x y is. subst (λ z. PartClaim (roll-WithPart z)) is (go_part y))
