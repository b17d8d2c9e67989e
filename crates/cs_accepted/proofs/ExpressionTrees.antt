-- Every expression that breaks no rule has the type that the rules say: by induction on its tree.
use Rattle.std.proofs.Common.{◌≡◌, ℕ, List, [], ◌∷◌, map, refl, sym, subst, inl}
use Rattle.text_core.specs.declared.place.Place.{Place}
use Rattle.cs_ast.specs.declared.cs_type.CsType.TheVariants as t
use Rattle.cs_ast.specs.declared.code.Code.{Code}
use Rattle.cs_ast.specs.declared.code.Code.TheVariants as c
use Rattle.cs_ast.specs.declared.expression.Body.{Body}
use Rattle.cs_ast.specs.declared.expression.Body.TheOpen.{ExprKind-F, TextPart-F}
use Rattle.cs_ast.specs.declared.expression.Body.TheFolds.{ind-Expr, map-ExprKind, map-TextPart}
use Rattle.cs_ast.specs.declared.expression.Body.TheViews.{roll-ExprKind, roll-TextPart}
use Rattle.cs_ast.specs.declared.expression.Expr.{Expr, Expr-F, roll-Expr}
use Rattle.cs_ast.specs.declared.expression.ExprKind.{ExprKind}
use Rattle.cs_ast.specs.declared.expression.ExprKind.TheVariants as ek
use Rattle.cs_ast.specs.declared.expression.Section.{Section}
use Rattle.cs_ast.specs.declared.expression.Stmt.{Stmt}
use Rattle.cs_ast.specs.declared.expression.StmtKind.{StmtKind}
use Rattle.cs_ast.specs.declared.expression.TextPart.{TextPart}
use Rattle.cs_ast.specs.declared.expression.TextPart.TheVariants as tp
use Rattle.cs_ast.specs.declared.expression.WithPart.{WithPart, WithPart-F, roll-WithPart}
use Rattle.cs_ast.specs.declared.identifier.Ident.{Ident}
use Rattle.cs_ast.specs.declared.operators.StaticType.{StaticType}
use Rattle.cs_ast.specs.declared.scope.Scope.{Scope}
use Rattle.cs_rules.specs.declared.callee.Callee.{Callee}
use Rattle.cs_rules.specs.declared.checked.ExprType.TheVariants.{Null}
use Rattle.cs_rules.specs.Judged.{Judged, fine, mismatch, ◌>>=◌}
use Rattle.cs_rules.specs.Types.{checked}
use Rattle.cs_rules.specs.Library.{callee_of_value, static_callee, found_static, static_value}
use Rattle.cs_rules.specs.Expressions.{Value, Given}
use Rattle.cs_rules.specs.Expressions as e
use Rattle.cs_rules.specs.Trees.{Uses, uses, uses_of_kind, piece, given}
use Rattle.cs_rules.proofs.Laws as law
use Rattle.cs_typing.specs.Expressions.{Surroundings}
use Rattle.cs_typing.specs.Expressions as code
use Rattle.cs_accepted.specs.Accepted.{IfFine, ValueFits, CalleeFits}
use Rattle.cs_accepted.specs.Sound.{ValueSound, CalleeSound, PieceFits, PieceSound}
use Rattle.cs_accepted.proofs.Judging.{then_fine}
use Rattle.cs_accepted.proofs.NameLemmas.{value_called, static_called}
use Rattle.cs_accepted.proofs.ExpressionForms.{AllPieces, no_piece, one_piece, AllValues, no_value, one_value, unary_sound, cast_sound, binary_sound, conditional_sound, hole_sound, interpolated_sound, call_sound, new_sound, index_sound, member_sound, member_or_null_sound, member_called_sound, name_sound, name_called_sound, static_sound, empty_sound}
use Rattle.cs_accepted.proofs.ChangeForms.{AllGiven, none_given, one_given, with_sound, assign_sound, step_sound}

-- both uses of an expression
pub record UsesSound (u : Uses) : Type 0 where
  pub as_value : ValueSound u.value
  pub as_callee : CalleeSound u.callee

abbrev KindSound : ExprKind → Type 0
KindSound kind = (place : Place) → UsesSound (uses_of_kind kind place)

abbrev ExprSound : Expr → Type 0
ExprSound a = UsesSound (uses a)

abbrev TextSound : TextPart → Type 0
TextSound a = PieceSound (piece a)

abbrev PartSound : WithPart → Type 0
PartSound a = ValueSound (given a).value

abbrev SuchKind : Type 0
SuchKind = (x : ExprKind) × KindSound x

abbrev SuchExpr : Type 0
SuchExpr = (x : Expr) × ExprSound x

abbrev SuchText : Type 0
SuchText = (x : TextPart) × TextSound x

abbrev SuchPart : Type 0
SuchPart = (x : WithPart) × PartSound x

abbrev SuchBody : Type 0
SuchBody = (x : Body) × Unit {0}

abbrev SuchStmtKind : Type 0
SuchStmtKind = (x : StmtKind) × Unit {0}

abbrev SuchSection : Type 0
SuchSection = (x : Section) × Unit {0}

abbrev SuchStmt : Type 0
SuchStmt = (x : Stmt) × Unit {0}

abbrev Layer : Type 0
Layer = ExprKind-F SuchBody SuchKind SuchStmtKind SuchText SuchExpr SuchSection SuchStmt SuchPart

-- a layer without what is known of its parts
abbrev known : Layer → ExprKind-F Body ExprKind StmtKind TextPart Expr Section Stmt WithPart
known y = map-ExprKind SuchBody SuchKind SuchStmtKind SuchText SuchExpr SuchSection SuchStmt SuchPart Body ExprKind StmtKind TextPart Expr Section Stmt WithPart
    (λ z. z.0) (λ z. z.0) (λ z. z.0) (λ z. z.0) (λ z. z.0) (λ z. z.0) (λ z. z.0) (λ z. z.0) y

-- the same judgement elsewhere
same_value : (a b : Value) → ((s : Scope) → a s ≡ b s) → ValueSound b → ValueSound a
same_value a b is h at locals s fit = subst (IfFine (λ x. ValueFits at locals x)) (sym (is s)) (h at locals s fit)

same_callee : (a b : Scope → Judged Callee) → ((s : Scope) → a s ≡ b s) → CalleeSound b → CalleeSound a
same_callee a b is h at locals s fit = subst (IfFine (λ x. CalleeFits at locals x)) (sym (is s)) (h at locals s fit)

same_piece : (a b : Scope → Judged Code) → ((s : Scope) → a s ≡ b s) → PieceSound b → PieceSound a
same_piece a b is h at locals s fit = subst (IfFine (λ x. PieceFits at locals x)) (sym (is s)) (h at locals s fit)

called_value : (a : Value) → ValueSound a → CalleeSound (λ s. a s >>= callee_of_value)
unfolding callee_of_value
called_value a h at locals s fit = then_fine (λ x. ValueFits at locals x) (λ it. CalleeFits at locals it) (a s) callee_of_value (h at locals s fit) (λ x k. value_called at locals x k)

-- a form that is called as a value is
other : (kind : ExprKind) (place : Place) (w : Value) → ((s : Scope) → (uses_of_kind kind place).value s ≡ w s) → ValueSound w
    → ((n : List ℕ) → kind ≡ ek.Name n → ⊥) → ((a : Expr) (n : Ident) → kind ≡ ek.Member a n → ⊥) → ((of : StaticType) (n : Ident) → kind ≡ ek.Static of n → ⊥) → UsesSound (uses_of_kind kind place)
unfolding callee_of_value
other kind place w is h name member static =
    let as_value : ValueSound (uses_of_kind kind place).value = same_value (uses_of_kind kind place).value w is h in
    record {
      as_value = as_value;
      as_callee = same_callee (uses_of_kind kind place).callee (λ s. (uses_of_kind kind place).value s >>= callee_of_value) (λ s. law.other_callee kind place s name member static) (called_value (uses_of_kind kind place).value as_value);
    }

pieces : (parts : List SuchText) → AllPieces (map piece (map (λ (z : SuchText). z.0) parts))
pieces [] = no_piece
pieces (one ∷ others) = one_piece (piece one.0) (map piece (map (λ (z : SuchText). z.0) others)) one.1 (pieces others)

values : (parts : List SuchExpr) → AllValues (map (λ (x : Uses). x.value) (map uses (map (λ (z : SuchExpr). z.0) parts)))
values [] = no_value
values (one ∷ others) = one_value (uses one.0).value (map (λ (x : Uses). x.value) (map uses (map (λ (z : SuchExpr). z.0) others))) one.1.as_value (values others)

parts_given : (parts : List SuchPart) → AllGiven (map given (map (λ (z : SuchPart). z.0) parts))
parts_given [] = none_given
parts_given (one ∷ others) = one_given (given one.0) (map given (map (λ (z : SuchPart). z.0) others)) one.1 (parts_given others)

-- the forms of expressions
go : (y : Layer) → KindSound (roll-ExprKind (known y))
unfolding callee_of_value found_static static_callee static_value
go (ExprKind-F.Int n) = subst KindSound (sym (ek.rolls-Int n)) (λ place. other (ek.Int n) place (λ s. fine (checked place (c.Int n) t.Int)) (law.int_value n place) (λ at locals s fit. code.int n) (λ m h. absurd (cc)) (λ a m h. absurd (cc)) (λ of m h. absurd (cc)))
go (ExprKind-F.Bool b) = subst KindSound (sym (ek.rolls-Bool b)) (λ place. other (ek.Bool b) place (λ s. fine (checked place (c.Bool b) t.Bool)) (law.bool_value b place) (λ at locals s fit. code.bool b) (λ m h. absurd (cc)) (λ a m h. absurd (cc)) (λ of m h. absurd (cc)))
go (ExprKind-F.Text x) = subst KindSound (sym (ek.rolls-Text x)) (λ place. other (ek.Text x) place (λ s. fine (checked place (c.Text x) t.Text)) (law.text_value x place) (λ at locals s fit. code.text x) (λ m h. absurd (cc)) (λ a m h. absurd (cc)) (λ of m h. absurd (cc)))
go ExprKind-F.Null = subst KindSound (sym ek.rolls-Null) (λ place. other ek.Null place (λ s. fine (record { place = place; code = c.Null; expr_type = Null })) (law.null_value place) (λ at locals s fit type h. code.null type h) (λ m h. absurd (cc)) (λ a m h. absurd (cc)) (λ of m h. absurd (cc)))
go (ExprKind-F.Interpolated parts) =
    let bare : List TextPart = map (λ (z : SuchText). z.0) parts in
    subst KindSound (sym (ek.rolls-Interpolated bare)) (λ place. other (ek.Interpolated bare) place (e.interpolated (map piece bare) place) (law.interpolated_value bare place) (interpolated_sound (map piece bare) place (pieces parts)) (λ m h. absurd (cc)) (λ a m h. absurd (cc)) (λ of m h. absurd (cc)))
go (ExprKind-F.Name n) =
    subst KindSound (sym (ek.rolls-Name n)) (λ place. record { as_value = same_value (uses_of_kind (ek.Name n) place).value (e.name_read n place) (law.name_value n place) (name_sound n place); as_callee = same_callee (uses_of_kind (ek.Name n) place).callee (e.name_called n place) (law.name_called n place) (name_called_sound n place) })
go (ExprKind-F.Unary o a) = subst KindSound (sym (ek.rolls-Unary o a.0)) (λ place. other (ek.Unary o a.0) place (e.unary o (uses a.0).value place) (law.unary_value o a.0 place) (unary_sound o (uses a.0).value place a.1.as_value) (λ m h. absurd (cc)) (λ b m h. absurd (cc)) (λ of m h. absurd (cc)))
go (ExprKind-F.Cast o a) = subst KindSound (sym (ek.rolls-Cast o a.0)) (λ place. other (ek.Cast o a.0) place (e.cast o (uses a.0).value place) (law.cast_value o a.0 place) (cast_sound o (uses a.0).value place a.1.as_value) (λ m h. absurd (cc)) (λ b m h. absurd (cc)) (λ of m h. absurd (cc)))
go (ExprKind-F.Binary o a b) =
    subst KindSound (sym (ek.rolls-Binary o a.0 b.0)) (λ place. other (ek.Binary o a.0 b.0) place (e.binary o (uses a.0).value (uses b.0).value place) (law.binary_value o a.0 b.0 place) (binary_sound o (uses a.0).value (uses b.0).value place a.1.as_value b.1.as_value) (λ m h. absurd (cc)) (λ x m h. absurd (cc)) (λ of m h. absurd (cc)))
go (ExprKind-F.Conditional a b d) =
    subst KindSound (sym (ek.rolls-Conditional a.0 b.0 d.0))
    (λ place. other (ek.Conditional a.0 b.0 d.0) place (e.conditional (uses a.0).value (uses b.0).value (uses d.0).value place) (law.conditional_value a.0 b.0 d.0 place) (conditional_sound (uses a.0).value (uses b.0).value (uses d.0).value place a.1.as_value b.1.as_value d.1.as_value) (λ m h. absurd (cc)) (λ x m h. absurd (cc)) (λ of m h. absurd (cc)))
go (ExprKind-F.With a parts) =
    let bare : List WithPart = map (λ (z : SuchPart). z.0) parts in
    subst KindSound (sym (ek.rolls-With a.0 bare)) (λ place. other (ek.With a.0 bare) place (e.with_of (uses a.0).value (map given bare) place) (law.with_value a.0 bare place) (with_sound (uses a.0).value (map given bare) place a.1.as_value (parts_given parts)) (λ m h. absurd (cc)) (λ x m h. absurd (cc)) (λ of m h. absurd (cc)))
go (ExprKind-F.Member a n) =
    subst KindSound (sym (ek.rolls-Member a.0 n))
    (λ place. record {
      as_value = same_value (uses_of_kind (ek.Member a.0 n) place).value (e.member (uses a.0).value n place) (law.member_value a.0 n place) (member_sound (uses a.0).value n place a.1.as_value);
      as_callee = same_callee (uses_of_kind (ek.Member a.0 n) place).callee (e.member_called (uses a.0).value n place) (law.member_called a.0 n place) (member_called_sound (uses a.0).value n place a.1.as_value);
    })
go (ExprKind-F.NullMember a n) =
    subst KindSound (sym (ek.rolls-NullMember a.0 n)) (λ place. other (ek.NullMember a.0 n) place (e.member_or_null (uses a.0).value n place) (law.null_member_value a.0 n place) (member_or_null_sound (uses a.0).value n place a.1.as_value) (λ m h. absurd (cc)) (λ x m h. absurd (cc)) (λ of m h. absurd (cc)))
go (ExprKind-F.Call a xs) =
    let bare : List Expr = map (λ (z : SuchExpr). z.0) xs in
    subst KindSound (sym (ek.rolls-Call a.0 bare))
    (λ place. other (ek.Call a.0 bare) place (e.call (uses a.0).callee (map (λ (x : Uses). x.value) (map uses bare)) place) (law.call_value a.0 bare place) (call_sound (uses a.0).callee (map (λ (x : Uses). x.value) (map uses bare)) place a.1.as_callee (values xs)) (λ m h. absurd (cc)) (λ x m h. absurd (cc)) (λ of m h. absurd (cc)))
go (ExprKind-F.Index a b) =
    subst KindSound (sym (ek.rolls-Index a.0 b.0)) (λ place. other (ek.Index a.0 b.0) place (e.index (uses a.0).value (uses b.0).value place) (law.index_value a.0 b.0 place) (index_sound (uses a.0).value (uses b.0).value place a.1.as_value b.1.as_value) (λ m h. absurd (cc)) (λ x m h. absurd (cc)) (λ of m h. absurd (cc)))
go (ExprKind-F.New n xs) =
    let bare : List Expr = map (λ (z : SuchExpr). z.0) xs in
    subst KindSound (sym (ek.rolls-New n bare)) (λ place. other (ek.New n bare) place (e.new n (map (λ (x : Uses). x.value) (map uses bare)) place) (law.new_value n bare place) (new_sound n (map (λ (x : Uses). x.value) (map uses bare)) place (values xs)) (λ m h. absurd (cc)) (λ x m h. absurd (cc)) (λ of m h. absurd (cc)))
go (ExprKind-F.EmptyList type) = subst KindSound (sym (ek.rolls-EmptyList type)) (λ place. other (ek.EmptyList type) place (e.empty_list type place) (law.empty_list_value type place) (empty_sound type place) (λ m h. absurd (cc)) (λ x m h. absurd (cc)) (λ of m h. absurd (cc)))
go (ExprKind-F.Static of n) =
    subst KindSound (sym (ek.rolls-Static of n))
    (λ place. record {
      as_value = same_value (uses_of_kind (ek.Static of n) place).value (e.static_member of n place) (law.static_value of n place) (static_sound of n place);
      as_callee = same_callee (uses_of_kind (ek.Static of n) place).callee (λ s. static_callee place of n) (law.static_called of n place) (λ at locals s fit. static_called at locals s fit place of n);
    })
go (ExprKind-F.Assign o n a) = subst KindSound (sym (ek.rolls-Assign o n a.0)) (λ place. other (ek.Assign o n a.0) place (e.assign o n (uses a.0).value place) (law.assign_value o n a.0 place) (assign_sound o n (uses a.0).value place a.1.as_value) (λ m h. absurd (cc)) (λ x m h. absurd (cc)) (λ of m h. absurd (cc)))
go (ExprKind-F.Step o n) = subst KindSound (sym (ek.rolls-Step o n)) (λ place. other (ek.Step o n) place (e.step o n place) (law.step_value o n place) (step_sound o n place) (λ m h. absurd (cc)) (λ x m h. absurd (cc)) (λ of m h. absurd (cc)))
go (ExprKind-F.Lambda n b) = subst KindSound (sym (ek.rolls-Lambda n b.0)) (λ place. other (ek.Lambda n b.0) place (λ s. mismatch place) (law.lambda_value n b.0 place) (λ at locals s fit. tt) (λ m h. absurd (cc)) (λ x m h. absurd (cc)) (λ of m h. absurd (cc)))

abbrev TextLayer : Type 0
TextLayer = TextPart-F SuchBody SuchKind SuchStmtKind SuchText SuchExpr SuchSection SuchStmt SuchPart

abbrev known_text : TextLayer → TextPart-F Body ExprKind StmtKind TextPart Expr Section Stmt WithPart
known_text y = map-TextPart SuchBody SuchKind SuchStmtKind SuchText SuchExpr SuchSection SuchStmt SuchPart Body ExprKind StmtKind TextPart Expr Section Stmt WithPart
    (λ z. z.0) (λ z. z.0) (λ z. z.0) (λ z. z.0) (λ z. z.0) (λ z. z.0) (λ z. z.0) (λ z. z.0) y

go_text : (y : TextLayer) → TextSound (roll-TextPart (known_text y))
go_text (TextPart-F.Literal x) = subst TextSound (sym (tp.rolls-Literal x)) (same_piece (piece (tp.Literal x)) (λ s. fine (c.Piece x)) (law.literal_piece x) (λ at locals s fit. inl (x, refl)))
go_text (TextPart-F.Hole a) = subst TextSound (sym (tp.rolls-Hole a.0)) (same_piece (piece (tp.Hole a.0)) (e.hole (uses a.0).value) (law.hole_piece a.0) (hole_sound (uses a.0).value a.1.as_value))

go_expr : (y : Expr-F SuchBody SuchKind SuchStmtKind SuchText SuchExpr SuchSection SuchStmt SuchPart) → ExprSound (record { place = y.place; kind = y.kind.0 })
go_expr y = subst UsesSound (sym (law.uses_law (record { place = y.place; kind = y.kind.0 }))) (y.kind.1 y.place)

go_part : (y : WithPart-F SuchBody SuchKind SuchStmtKind SuchText SuchExpr SuchSection SuchStmt SuchPart) → PartSound (record { name = y.name; value = y.value.0 })
go_part y = subst (λ (g : Given). ValueSound g.value) (sym (law.given_law (record { name = y.name; value = y.value.0 }))) y.value.1.as_value

pub expression_tree : (a : Expr) → UsesSound (uses a)
expression_tree =
    ind-Expr (λ x. Unit {0}) KindSound (λ x. Unit {0}) TextSound ExprSound (λ x. Unit {0}) (λ x. Unit {0}) PartSound
    (λ x y is. tt)
    (λ x y is. subst (λ z. KindSound (roll-ExprKind z)) is (go y))
    (λ x y is. tt)
    (λ x y is. subst (λ z. TextSound (roll-TextPart z)) is (go_text y))
    (λ x y is. subst (λ z. ExprSound (roll-Expr z)) is (go_expr y))
    (λ x y is. tt)
    (λ x y is. tt)
    (λ x y is. subst (λ z. PartSound (roll-WithPart z)) is (go_part y))
