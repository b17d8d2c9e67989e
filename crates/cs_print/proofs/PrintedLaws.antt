-- The equations of what trees are printed as.
use Rattle.std.proofs.Common.{◌≡◌, ℕ, List, [], ◌∷◌, map, sym, ap, ◌∙◌}
use Rattle.std.specs.Prelude.{ℤ, Bool, Option, Some, None, option_map}
use Rattle.std.specs.List.{flat_map}
use Rattle.std.proofs.lemmas.List.Folds.{flat_map-map}
use Rattle.cs_ast.specs.declared.cs_type.TypeExpr.{TypeExpr}
use Rattle.cs_ast.specs.declared.cs_type.TypeKind.{TypeKind}
use Rattle.cs_ast.specs.declared.cs_type.TypeKind.TheOpen.{TypeKind-F}
use Rattle.cs_ast.specs.declared.cs_type.TypeKind.TheVariants as tk
use Rattle.cs_ast.specs.declared.cs_type.TypeKind.TheViews.{out-TypeKind, roll-TypeKind, roll-out-TypeKind}
use Rattle.cs_ast.specs.declared.cs_type.TypeKind.TheFolds.{fold_out-TypeExpr, fold-roll-TypeKind, map-TypeKind}
use Rattle.cs_ast.specs.declared.expression.Body.{Body}
use Rattle.cs_ast.specs.declared.expression.Body.TheOpen.{Body-F, ExprKind-F, StmtKind-F, TextPart-F}
use Rattle.cs_ast.specs.declared.expression.Body.TheFolds.{fold_out-Expr, fold_out-Stmt, fold_out-Section, fold_out-WithPart, fold-roll-Section, fold-roll-Body, fold-roll-ExprKind, fold-roll-StmtKind, fold-roll-TextPart, map-Body, map-ExprKind, map-StmtKind, map-TextPart}
use Rattle.cs_ast.specs.declared.expression.Body.TheViews.{roll-Body, roll-ExprKind, roll-StmtKind, roll-TextPart}
use Rattle.cs_ast.specs.declared.expression.Body.TheVariants as by
use Rattle.cs_ast.specs.declared.expression.Expr.{Expr}
use Rattle.cs_ast.specs.declared.expression.ExprKind.{ExprKind}
use Rattle.cs_ast.specs.declared.expression.ExprKind.TheVariants as ek
use Rattle.cs_ast.specs.declared.expression.Label.{Label}
use Rattle.cs_ast.specs.declared.expression.Section.{Section, out-Section}
use Rattle.cs_ast.specs.declared.expression.Stmt.{Stmt}
use Rattle.cs_ast.specs.declared.expression.StmtKind.{StmtKind}
use Rattle.cs_ast.specs.declared.expression.StmtKind.TheVariants as sk
use Rattle.cs_ast.specs.declared.expression.TextPart.{TextPart}
use Rattle.cs_ast.specs.declared.expression.TextPart.TheVariants as tp
use Rattle.cs_ast.specs.declared.expression.WithPart.{WithPart}
use Rattle.cs_ast.specs.declared.identifier.Ident.{Ident}
use Rattle.cs_ast.specs.declared.operators.AssignOp.{AssignOp}
use Rattle.cs_ast.specs.declared.operators.BinaryOp.{BinaryOp}
use Rattle.cs_ast.specs.declared.operators.CastOp.{CastOp}
use Rattle.cs_ast.specs.declared.operators.StaticType.{StaticType}
use Rattle.cs_ast.specs.declared.operators.StepOp.{StepOp}
use Rattle.cs_ast.specs.declared.operators.UnaryOp.{UnaryOp}
use Rattle.cs_grammar.specs.Statements.{section}
use Rattle.cs_token.specs.declared.token.TokenKind.TheVariants as k
use Rattle.cs_token.specs.declared.token.Sign.TheVariants as s
use Rattle.cs_token.specs.declared.token.Word.TheVariants as w
use Rattle.cs_print.specs.Printed as p
use Rattle.cs_print.specs.Printed.{Kinds, Printed, postfix, whole, truth_word, in_braces, in_hole, joined, ended, of_type, given, sectioned, type_form, body_form, expression_form, statement_form, text_form, type_kinds, type_kind_kinds, printed, printed_kind, text_kinds, part_kinds, body_kinds, statement_kinds, statement_kind_kinds, section_kinds}

-- types

abbrev TypeLayer : Type 0
TypeLayer = TypeKind-F TypeKind TypeExpr

pub type_law : (a : TypeExpr) → type_kinds a ≡ type_kind_kinds a.kind
unfolding type_kinds type_kind_kinds
type_law a = fold_out-TypeExpr Kinds Kinds type_form (λ it. it.kind) a

at_type : (kind : TypeKind) (x : TypeLayer) → roll-TypeKind x ≡ kind → type_kind_kinds kind ≡ type_form (map-TypeKind TypeKind TypeExpr Kinds Kinds type_kind_kinds type_kinds x)
unfolding type_kinds type_kind_kinds
at_type kind x is = ap type_kind_kinds (sym is) ∙ fold-roll-TypeKind Kinds Kinds type_form (λ it. it.kind) x

pub type_int : type_kind_kinds (tk.Int) ≡ k.Word w.Int ∷ []
type_int = at_type (tk.Int) (TypeKind-F.Int) (tk.rolls-Int)

pub type_bool : type_kind_kinds (tk.Bool) ≡ k.Word w.Bool ∷ []
type_bool = at_type (tk.Bool) (TypeKind-F.Bool) (tk.rolls-Bool)

pub type_text : type_kind_kinds (tk.Text) ≡ k.Word w.String ∷ []
type_text = at_type (tk.Text) (TypeKind-F.Text) (tk.rolls-Text)

pub type_named : (x : List ℕ) → type_kind_kinds (tk.Named x) ≡ k.Name x ∷ []
type_named x = at_type (tk.Named x) (TypeKind-F.Named x) (tk.rolls-Named x)

pub type_list : (a : TypeExpr) → type_kind_kinds (tk.List a) ≡ of_type w.ImmutableList (type_kinds a)
type_list a = at_type (tk.List a) (TypeKind-F.List a) (tk.rolls-List a)

pub type_callback : type_kind_kinds (tk.Callback None) ≡ k.Word w.EventCallback ∷ []
type_callback = at_type (tk.Callback None) (TypeKind-F.Callback None) (tk.rolls-Callback None)

pub type_callback_of : (a : TypeExpr) → type_kind_kinds (tk.Callback (Some a)) ≡ of_type w.EventCallback (type_kinds a)
type_callback_of a = at_type (tk.Callback (Some a)) (TypeKind-F.Callback (Some a)) (tk.rolls-Callback (Some a))

pub type_fragment : type_kind_kinds (tk.Fragment None) ≡ k.Word w.RenderFragment ∷ []
type_fragment = at_type (tk.Fragment None) (TypeKind-F.Fragment None) (tk.rolls-Fragment None)

pub type_fragment_of : (a : TypeExpr) → type_kind_kinds (tk.Fragment (Some a)) ≡ of_type w.RenderFragment (type_kinds a)
type_fragment_of a = at_type (tk.Fragment (Some a)) (TypeKind-F.Fragment (Some a)) (tk.rolls-Fragment (Some a))

pub type_change : type_kind_kinds (tk.Change) ≡ k.Word w.ChangeEventArgs ∷ []
type_change = at_type (tk.Change) (TypeKind-F.Change) (tk.rolls-Change)

pub type_args : type_kind_kinds (tk.Args) ≡ k.Word w.EventArgs ∷ []
type_args = at_type (tk.Args) (TypeKind-F.Args) (tk.rolls-Args)

-- where the argument may be absent
pub type_callback_any : (o : Option TypeExpr) → type_kind_kinds (tk.Callback o) ≡ p.generic w.EventCallback (option_map type_kinds o)
type_callback_any None = type_callback
type_callback_any (Some a) = type_callback_of a

pub type_fragment_any : (o : Option TypeExpr) → type_kind_kinds (tk.Fragment o) ≡ p.generic w.RenderFragment (option_map type_kinds o)
type_fragment_any None = type_fragment
type_fragment_any (Some a) = type_fragment_of a

-- what a type is printed as, by its form
pub type_look : (kind : TypeKind) → type_kind_kinds kind ≡ type_form (map-TypeKind TypeKind TypeExpr Kinds Kinds type_kind_kinds type_kinds (out-TypeKind kind))
type_look kind = at_type kind (out-TypeKind kind) (roll-out-TypeKind kind)

-- expressions and statements

pub printed_law : (a : Expr) → printed a ≡ printed_kind a.kind
unfolding body_kinds printed_kind statement_kind_kinds text_kinds printed section_kinds statement_kinds part_kinds
printed_law a =
    fold_out-Expr Kinds Printed Kinds Kinds Printed Kinds Kinds Kinds body_form expression_form statement_form text_form (λ it. it.kind) (λ it. sectioned it.labels it.body) (λ it. it.kind) (λ it. given it.name.name it.value) a

pub statement_law : (a : Stmt) → statement_kinds a ≡ statement_kind_kinds a.kind
unfolding body_kinds printed_kind statement_kind_kinds text_kinds printed section_kinds statement_kinds part_kinds
statement_law a =
    fold_out-Stmt Kinds Printed Kinds Kinds Printed Kinds Kinds Kinds body_form expression_form statement_form text_form (λ it. it.kind) (λ it. sectioned it.labels it.body) (λ it. it.kind) (λ it. given it.name.name it.value) a

pub part_law : (a : WithPart) → part_kinds a ≡ given a.name.name (printed a.value)
unfolding body_kinds printed_kind statement_kind_kinds text_kinds printed section_kinds statement_kinds part_kinds
part_law a =
    fold_out-WithPart Kinds Printed Kinds Kinds Printed Kinds Kinds Kinds body_form expression_form statement_form text_form (λ it. it.kind) (λ it. sectioned it.labels it.body) (λ it. it.kind) (λ it. given it.name.name it.value) a

-- one after another
pub joined_map : {X : Type 0} (f : X → Kinds) (xs : List X) → joined (map f xs) ≡ flat_map f xs
joined_map f xs = flat_map-map (λ x. x) f xs

pub section_of : (labels : List Label) (body : List Stmt) → section_kinds (section labels body) ≡ sectioned labels (map statement_kinds body)
unfolding body_kinds printed_kind statement_kind_kinds text_kinds printed section_kinds statement_kinds part_kinds
section_of labels body =
    fold-roll-Section Kinds Printed Kinds Kinds Printed Kinds Kinds Kinds body_form expression_form statement_form text_form (λ it. it.kind) (λ it. sectioned it.labels it.body) (λ it. it.kind) (λ it. given it.name.name it.value) (record { labels = labels; body = body })

pub section_law : (a : Section) → section_kinds a ≡ sectioned (out-Section a).labels (map statement_kinds (out-Section a).body)
unfolding body_kinds printed_kind statement_kind_kinds text_kinds printed section_kinds statement_kinds part_kinds
section_law a =
    fold_out-Section Kinds Printed Kinds Kinds Printed Kinds Kinds Kinds body_form expression_form statement_form text_form (λ it. it.kind) (λ it. sectioned it.labels it.body) (λ it. it.kind) (λ it. given it.name.name it.value) a

at_kind : (kind : ExprKind) (x : ExprKind-F Body ExprKind StmtKind TextPart Expr Section Stmt WithPart) → roll-ExprKind x ≡ kind → printed_kind kind ≡ expression_form (map-ExprKind Body ExprKind StmtKind TextPart Expr Section Stmt WithPart Kinds Printed Kinds Kinds Printed Kinds Kinds Kinds body_kinds printed_kind statement_kind_kinds text_kinds printed section_kinds statement_kinds part_kinds x)
unfolding body_kinds printed_kind statement_kind_kinds text_kinds printed section_kinds statement_kinds part_kinds
at_kind kind x is = ap printed_kind (sym is) ∙ fold-roll-ExprKind Kinds Printed Kinds Kinds Printed Kinds Kinds Kinds body_form expression_form statement_form text_form (λ it. it.kind) (λ it. sectioned it.labels it.body) (λ it. it.kind) (λ it. given it.name.name it.value) x

pub expr_int : (n : ℤ) → printed_kind (ek.Int n) ≡ postfix (k.Number n ∷ [])
expr_int n = at_kind (ek.Int n) (ExprKind-F.Int n) (ek.rolls-Int n)

pub expr_bool : (b : Bool) → printed_kind (ek.Bool b) ≡ postfix (k.Word (truth_word b) ∷ [])
expr_bool b = at_kind (ek.Bool b) (ExprKind-F.Bool b) (ek.rolls-Bool b)

pub expr_text : (x : List ℕ) → printed_kind (ek.Text x) ≡ postfix (k.Text x ∷ [])
expr_text x = at_kind (ek.Text x) (ExprKind-F.Text x) (ek.rolls-Text x)

pub expr_null : printed_kind (ek.Null) ≡ postfix (k.Word w.Null ∷ [])
expr_null = at_kind (ek.Null) (ExprKind-F.Null) (ek.rolls-Null)

pub expr_interpolated : (parts : List TextPart) → printed_kind (ek.Interpolated parts) ≡ p.interpolated (map text_kinds parts)
expr_interpolated parts = at_kind (ek.Interpolated parts) (ExprKind-F.Interpolated parts) (ek.rolls-Interpolated parts)

pub expr_name : (x : List ℕ) → printed_kind (ek.Name x) ≡ postfix (k.Name x ∷ [])
expr_name x = at_kind (ek.Name x) (ExprKind-F.Name x) (ek.rolls-Name x)

pub expr_unary : (op : UnaryOp) (a : Expr) → printed_kind (ek.Unary op a) ≡ p.unary op (printed a)
expr_unary op a = at_kind (ek.Unary op a) (ExprKind-F.Unary op a) (ek.rolls-Unary op a)

pub expr_cast : (op : CastOp) (a : Expr) → printed_kind (ek.Cast op a) ≡ p.cast op (printed a)
expr_cast op a = at_kind (ek.Cast op a) (ExprKind-F.Cast op a) (ek.rolls-Cast op a)

pub expr_binary : (op : BinaryOp) (a b : Expr) → printed_kind (ek.Binary op a b) ≡ p.binary op (printed a) (printed b)
expr_binary op a b = at_kind (ek.Binary op a b) (ExprKind-F.Binary op a b) (ek.rolls-Binary op a b)

pub expr_conditional : (a b c : Expr) → printed_kind (ek.Conditional a b c) ≡ p.conditional (printed a) (printed b) (printed c)
expr_conditional a b c = at_kind (ek.Conditional a b c) (ExprKind-F.Conditional a b c) (ek.rolls-Conditional a b c)

pub expr_with_parts : (a : Expr) (parts : List WithPart) → printed_kind (ek.With a parts) ≡ p.with_parts (printed a) (map part_kinds parts)
expr_with_parts a parts = at_kind (ek.With a parts) (ExprKind-F.With a parts) (ek.rolls-With a parts)

pub expr_member : (a : Expr) (n : Ident) → printed_kind (ek.Member a n) ≡ p.member (printed a) n.name
expr_member a n = at_kind (ek.Member a n) (ExprKind-F.Member a n) (ek.rolls-Member a n)

pub expr_null_member : (a : Expr) (n : Ident) → printed_kind (ek.NullMember a n) ≡ p.null_member (printed a) n.name
expr_null_member a n = at_kind (ek.NullMember a n) (ExprKind-F.NullMember a n) (ek.rolls-NullMember a n)

pub expr_call : (a : Expr) (bs : List Expr) → printed_kind (ek.Call a bs) ≡ p.call (printed a) (map printed bs)
expr_call a bs = at_kind (ek.Call a bs) (ExprKind-F.Call a bs) (ek.rolls-Call a bs)

pub expr_index : (a b : Expr) → printed_kind (ek.Index a b) ≡ p.index (printed a) (printed b)
expr_index a b = at_kind (ek.Index a b) (ExprKind-F.Index a b) (ek.rolls-Index a b)

pub expr_new_record : (n : Ident) (bs : List Expr) → printed_kind (ek.New n bs) ≡ p.new_record n.name (map printed bs)
expr_new_record n bs = at_kind (ek.New n bs) (ExprKind-F.New n bs) (ek.rolls-New n bs)

pub expr_empty_list : (a : TypeExpr) → printed_kind (ek.EmptyList a) ≡ p.empty_list a
expr_empty_list a = at_kind (ek.EmptyList a) (ExprKind-F.EmptyList a) (ek.rolls-EmptyList a)

pub expr_static : (owner : StaticType) (n : Ident) → printed_kind (ek.Static owner n) ≡ p.static_member owner n.name
expr_static owner n = at_kind (ek.Static owner n) (ExprKind-F.Static owner n) (ek.rolls-Static owner n)

pub expr_assign : (op : AssignOp) (n : Ident) (a : Expr) → printed_kind (ek.Assign op n a) ≡ p.assign op n.name (printed a)
expr_assign op n a = at_kind (ek.Assign op n a) (ExprKind-F.Assign op n a) (ek.rolls-Assign op n a)

pub expr_step : (op : StepOp) (n : Ident) → printed_kind (ek.Step op n) ≡ p.step op n.name
expr_step op n = at_kind (ek.Step op n) (ExprKind-F.Step op n) (ek.rolls-Step op n)

pub expr_lambda : (n : Option Ident) (b : Body) → printed_kind (ek.Lambda n b) ≡ p.lambda n (body_kinds b)
expr_lambda None b = at_kind (ek.Lambda None b) (ExprKind-F.Lambda None b) (ek.rolls-Lambda None b)
expr_lambda (Some n) b = at_kind (ek.Lambda (Some n) b) (ExprKind-F.Lambda (Some n) b) (ek.rolls-Lambda (Some n) b)

at_text : (kind : TextPart) (x : TextPart-F Body ExprKind StmtKind TextPart Expr Section Stmt WithPart) → roll-TextPart x ≡ kind → text_kinds kind ≡ text_form (map-TextPart Body ExprKind StmtKind TextPart Expr Section Stmt WithPart Kinds Printed Kinds Kinds Printed Kinds Kinds Kinds body_kinds printed_kind statement_kind_kinds text_kinds printed section_kinds statement_kinds part_kinds x)
unfolding body_kinds printed_kind statement_kind_kinds text_kinds printed section_kinds statement_kinds part_kinds
at_text kind x is = ap text_kinds (sym is) ∙ fold-roll-TextPart Kinds Printed Kinds Kinds Printed Kinds Kinds Kinds body_form expression_form statement_form text_form (λ it. it.kind) (λ it. sectioned it.labels it.body) (λ it. it.kind) (λ it. given it.name.name it.value) x

pub text_literal : (x : List ℕ) → text_kinds (tp.Literal x) ≡ k.Part x ∷ []
text_literal x = at_text (tp.Literal x) (TextPart-F.Literal x) (tp.rolls-Literal x)

pub text_hole : (a : Expr) → text_kinds (tp.Hole a) ≡ in_hole (whole (printed a))
text_hole a = at_text (tp.Hole a) (TextPart-F.Hole a) (tp.rolls-Hole a)

at_body : (kind : Body) (x : Body-F Body ExprKind StmtKind TextPart Expr Section Stmt WithPart) → roll-Body x ≡ kind → body_kinds kind ≡ body_form (map-Body Body ExprKind StmtKind TextPart Expr Section Stmt WithPart Kinds Printed Kinds Kinds Printed Kinds Kinds Kinds body_kinds printed_kind statement_kind_kinds text_kinds printed section_kinds statement_kinds part_kinds x)
unfolding body_kinds printed_kind statement_kind_kinds text_kinds printed section_kinds statement_kinds part_kinds
at_body kind x is = ap body_kinds (sym is) ∙ fold-roll-Body Kinds Printed Kinds Kinds Printed Kinds Kinds Kinds body_form expression_form statement_form text_form (λ it. it.kind) (λ it. sectioned it.labels it.body) (λ it. it.kind) (λ it. given it.name.name it.value) x

pub body_value : (a : Expr) → body_kinds (by.Value a) ≡ whole (printed a)
body_value a = at_body (by.Value a) (Body-F.Value a) (by.rolls-Value a)

pub body_block : (xs : List Stmt) → body_kinds (by.Block xs) ≡ in_braces (joined (map statement_kinds xs))
body_block xs = at_body (by.Block xs) (Body-F.Body::Block xs) (by.rolls-Block xs)

at_statement : (kind : StmtKind) (x : StmtKind-F Body ExprKind StmtKind TextPart Expr Section Stmt WithPart) → roll-StmtKind x ≡ kind → statement_kind_kinds kind ≡ statement_form (map-StmtKind Body ExprKind StmtKind TextPart Expr Section Stmt WithPart Kinds Printed Kinds Kinds Printed Kinds Kinds Kinds body_kinds printed_kind statement_kind_kinds text_kinds printed section_kinds statement_kinds part_kinds x)
unfolding body_kinds printed_kind statement_kind_kinds text_kinds printed section_kinds statement_kinds part_kinds
at_statement kind x is = ap statement_kind_kinds (sym is) ∙ fold-roll-StmtKind Kinds Printed Kinds Kinds Printed Kinds Kinds Kinds body_form expression_form statement_form text_form (λ it. it.kind) (λ it. sectioned it.labels it.body) (λ it. it.kind) (λ it. given it.name.name it.value) x

pub stmt_empty : statement_kind_kinds (sk.Empty) ≡ k.Sign s.Semicolon ∷ []
stmt_empty = at_statement (sk.Empty) (StmtKind-F.Empty) (sk.rolls-Empty)

pub stmt_block : (xs : List Stmt) → statement_kind_kinds (sk.Block xs) ≡ in_braces (joined (map statement_kinds xs))
stmt_block xs = at_statement (sk.Block xs) (StmtKind-F.StmtKind::Block xs) (sk.rolls-Block xs)

pub stmt_while : (a : Expr) (b : Stmt) → statement_kind_kinds (sk.While a b) ≡ p.while_loop (printed a) (statement_kinds b)
stmt_while a b = at_statement (sk.While a b) (StmtKind-F.While a b) (sk.rolls-While a b)

pub stmt_foreach : (n : Ident) (a : Expr) (b : Stmt) → statement_kind_kinds (sk.ForEach n a b) ≡ p.foreach_loop n.name (printed a) (statement_kinds b)
stmt_foreach n a b = at_statement (sk.ForEach n a b) (StmtKind-F.ForEach n a b) (sk.rolls-ForEach n a b)

pub stmt_switch : (a : Expr) (xs : List Section) → statement_kind_kinds (sk.Switch a xs) ≡ p.switch_of (printed a) (map section_kinds xs)
stmt_switch a xs = at_statement (sk.Switch a xs) (StmtKind-F.Switch a xs) (sk.rolls-Switch a xs)

pub stmt_break : statement_kind_kinds (sk.Break) ≡ k.Word w.Break ∷ k.Sign s.Semicolon ∷ []
stmt_break = at_statement (sk.Break) (StmtKind-F.Break) (sk.rolls-Break)

pub stmt_continue : statement_kind_kinds (sk.Continue) ≡ k.Word w.Continue ∷ k.Sign s.Semicolon ∷ []
stmt_continue = at_statement (sk.Continue) (StmtKind-F.Continue) (sk.rolls-Continue)

pub stmt_act : (a : Expr) → statement_kind_kinds (sk.Expr a) ≡ ended (whole (printed a))
stmt_act a = at_statement (sk.Expr a) (StmtKind-F.Expr a) (sk.rolls-Expr a)

pub stmt_await : (a : Expr) → statement_kind_kinds (sk.Await a) ≡ p.await_of (printed a)
stmt_await a = at_statement (sk.Await a) (StmtKind-F.Await a) (sk.rolls-Await a)

pub stmt_local : (t : Option TypeExpr) (n : Ident) (v : Option Expr) → statement_kind_kinds (sk.Local t n v) ≡ p.local t n.name (option_map printed v)
stmt_local None n None = at_statement (sk.Local None n None) (StmtKind-F.Local None n None) (sk.rolls-Local None n None)
stmt_local None n (Some v) = at_statement (sk.Local None n (Some v)) (StmtKind-F.Local None n (Some v)) (sk.rolls-Local None n (Some v))
stmt_local (Some t) n None = at_statement (sk.Local (Some t) n None) (StmtKind-F.Local (Some t) n None) (sk.rolls-Local (Some t) n None)
stmt_local (Some t) n (Some v) = at_statement (sk.Local (Some t) n (Some v)) (StmtKind-F.Local (Some t) n (Some v)) (sk.rolls-Local (Some t) n (Some v))

pub stmt_if : (a : Expr) (y : Stmt) (n : Option Stmt) → statement_kind_kinds (sk.If a y n) ≡ p.if_else (printed a) (statement_kinds y) (option_map statement_kinds n)
stmt_if a y None = at_statement (sk.If a y None) (StmtKind-F.If a y None) (sk.rolls-If a y None)
stmt_if a y (Some n) = at_statement (sk.If a y (Some n)) (StmtKind-F.If a y (Some n)) (sk.rolls-If a y (Some n))

pub stmt_for : (i : Option Stmt) (c : Option Expr) (d : Option Expr) (b : Stmt) → statement_kind_kinds (sk.For i c d b) ≡ p.for_loop (option_map statement_kinds i) (option_map printed c) (option_map printed d) (statement_kinds b)
stmt_for None None None b = at_statement (sk.For None None None b) (StmtKind-F.For None None None b) (sk.rolls-For None None None b)
stmt_for None None (Some d) b = at_statement (sk.For None None (Some d) b) (StmtKind-F.For None None (Some d) b) (sk.rolls-For None None (Some d) b)
stmt_for None (Some c) None b = at_statement (sk.For None (Some c) None b) (StmtKind-F.For None (Some c) None b) (sk.rolls-For None (Some c) None b)
stmt_for None (Some c) (Some d) b = at_statement (sk.For None (Some c) (Some d) b) (StmtKind-F.For None (Some c) (Some d) b) (sk.rolls-For None (Some c) (Some d) b)
stmt_for (Some i) None None b = at_statement (sk.For (Some i) None None b) (StmtKind-F.For (Some i) None None b) (sk.rolls-For (Some i) None None b)
stmt_for (Some i) None (Some d) b = at_statement (sk.For (Some i) None (Some d) b) (StmtKind-F.For (Some i) None (Some d) b) (sk.rolls-For (Some i) None (Some d) b)
stmt_for (Some i) (Some c) None b = at_statement (sk.For (Some i) (Some c) None b) (StmtKind-F.For (Some i) (Some c) None b) (sk.rolls-For (Some i) (Some c) None b)
stmt_for (Some i) (Some c) (Some d) b = at_statement (sk.For (Some i) (Some c) (Some d) b) (StmtKind-F.For (Some i) (Some c) (Some d) b) (sk.rolls-For (Some i) (Some c) (Some d) b)

pub stmt_return : (a : Option Expr) → statement_kind_kinds (sk.Return a) ≡ p.return_of (option_map printed a)
stmt_return None = at_statement (sk.Return None) (StmtKind-F.Return None) (sk.rolls-Return None)
stmt_return (Some a) = at_statement (sk.Return (Some a)) (StmtKind-F.Return (Some a)) (sk.rolls-Return (Some a))
