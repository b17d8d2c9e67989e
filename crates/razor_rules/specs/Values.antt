-- Expressions in templates: what they come to, and which types they have to have.
use Rattle.std.specs.Prelude.{ℕ, Bool, true, false, List, [], ◌∷◌, if◌then◌else◌, Option, Some, None}
use Rattle.text_core.specs.declared.place.Place.{Place}
use Rattle.cs_ast.specs.declared.cs_type.CsType.{CsType, out-CsType}
use Rattle.cs_ast.specs.declared.cs_type.CsType.TheVariants as t
use Rattle.cs_ast.specs.declared.cs_type.CsType.TheOpen.{CsType-F}
use Rattle.cs_ast.specs.declared.expression.Body.{Body}
use Rattle.cs_ast.specs.declared.expression.Expr.{Expr}
use Rattle.cs_ast.specs.declared.expression.ExprKind.{ExprKind, ExprKind-F, out-ExprKind}
use Rattle.cs_ast.specs.declared.expression.Section.{Section}
use Rattle.cs_ast.specs.declared.expression.Stmt.{Stmt}
use Rattle.cs_ast.specs.declared.expression.StmtKind.{StmtKind}
use Rattle.cs_ast.specs.declared.expression.TextPart.{TextPart}
use Rattle.cs_ast.specs.declared.expression.WithPart.{WithPart}
use Rattle.cs_ast.specs.declared.identifier.Ident.{Ident}
use Rattle.cs_ast.specs.declared.member.Member.{Member}
use Rattle.cs_ast.specs.declared.scope.Named.{Named}
use Rattle.cs_ast.specs.declared.scope.NameKind.{NameKind}
use Rattle.cs_ast.specs.declared.scope.NameKind.TheVariants as kind
use Rattle.cs_ast.specs.declared.scope.Scope.{Scope}
use Rattle.cs_rules.specs.declared.checked.Checked.{Checked}
use Rattle.cs_rules.specs.declared.checked.ExprType.{ExprType}
use Rattle.cs_rules.specs.declared.checked.ExprType.TheVariants.{Of, Null, Markup}
use Rattle.cs_rules.specs.declared.rule.Rule.TheVariants.{BadKey}
use Rattle.cs_rules.specs.Judged.{Judged, fine, breaks, mismatch, ◌>>=◌}
use Rattle.cs_rules.specs.Names.{meant, is_new, with_local}
use Rattle.cs_rules.specs.Operators.{shown}
use Rattle.cs_rules.specs.Types.{same_type, wants}
use Rattle.cs_rules.specs.Written.{is_comparable}
use Rattle.cs_forbidden.specs.Trees.{value_in}
use Rattle.razor_rules.specs.Bodies.{judged_body}
use Rattle.razor_rules.specs.declared.ground.Ground.{Ground}
use Rattle.razor_rules.specs.Grounds.{forbidden_in_lambda}

-- the types that are shown as content: those that show a text, markup, and fragments that are given all that they take
abbrev pub is_content_level : CsType-F CsType → Bool
is_content_level CsType-F.Int = true
is_content_level CsType-F.Bool = true
is_content_level CsType-F.Text = true
is_content_level (CsType-F.Fragment None) = true
is_content_level _ = false

unfoldable pub is_content : ExprType → Bool
is_content (Of cs_type) = is_content_level (out-CsType cs_type)
is_content Null = false
is_content Markup = true

-- the types of keys
unfoldable pub is_key : List Member → ExprType → Bool
is_key records (Of cs_type) = is_comparable records cs_type
is_key records _ = false

-- the types of cascading values
abbrev pub is_cascading_level : CsType-F CsType → Bool
is_cascading_level CsType-F.Int = true
is_cascading_level CsType-F.Bool = true
is_cascading_level CsType-F.Text = true
is_cascading_level (CsType-F.Rec name) = true
is_cascading_level (CsType-F.List item) = true
is_cascading_level _ = false

unfoldable pub is_cascading : ExprType → Bool
is_cascading (Of cs_type) = is_cascading_level (out-CsType cs_type)
is_cascading _ = false

-- what a method takes that is the value of a callback with such an argument: nothing, or the argument
abbrev pub takes_fit : List CsType → Option CsType → Bool
takes_fit [] argument = true
takes_fit (cs_type ∷ []) (Some argument) = same_type cs_type argument
takes_fit _ _ = false

-- one level of an expression
abbrev pub Level : Type 0
Level = ExprKind-F Body ExprKind StmtKind TextPart Expr Section Stmt WithPart

-- the name that an expression is, if it is one
abbrev pub name_in : Level → Option (List ℕ)
name_in (ExprKind-F.Name name) = Some name
name_in _ = None

-- the types that a method takes
abbrev pub taken_by : NameKind → Option (List CsType)
taken_by (kind.Method takes) = Some takes
taken_by _ = None

-- the scope in a lambda with such a parameter, if it has one, as the value of a callback with such an argument
abbrev pub lambda_scope : Scope → Place → Option Ident → Option CsType → Judged Scope
lambda_scope s place None argument = fine (with_local s [] t.Nothing)
lambda_scope s place (Some name) None = mismatch place
lambda_scope s place (Some name) (Some argument) = do
  new ← is_new s name
  fine (with_local s name.name argument)

module _ (g : Ground) where
  -- an expression
  abbrev pub value : Expr → Judged Checked
  value a = value_in g.forbidden g.scope a

  -- an expression as content
  unfoldable pub content : Expr → Judged (Unit {0})
  content a = do
    x ← value a
    if is_content x.expr_type then fine tt else mismatch x.place

  -- an expression in the value of an attribute of an element
  unfoldable pub shown_value : Expr → Judged (Unit {0})
  shown_value a = do
    x ← value a
    shown x.place x.expr_type

  unfoldable pub key : Expr → Judged (Unit {0})
  key a = do
    x ← value a
    if is_key g.scope.records x.expr_type then fine tt else breaks BadKey x.place

  -- a lambda as the value of a callback with such an argument
  unfoldable pub lambda : Place → Option Ident → Body → Option CsType → Judged (Unit {0})
  lambda place name body argument = do
    s ← lambda_scope g.scope place name argument
    code ← judged_body (forbidden_in_lambda g) s body
    fine tt

  -- an expression that has a callback's type
  unfoldable pub callback_expression : Expr → Option CsType → Judged (Unit {0})
  callback_expression a argument = do
    x ← value a
    wants (t.Callback argument) x.place x.expr_type

  abbrev pub callback_by_kind : Option (List CsType) → Expr → Option CsType → Judged (Unit {0})
  callback_by_kind None a argument = callback_expression a argument
  callback_by_kind (Some takes) a argument = if takes_fit takes argument then fine tt else mismatch a.place

  abbrev pub callback_by_name : Option Named → Expr → Option CsType → Judged (Unit {0})
  callback_by_name None a argument = callback_expression a argument
  callback_by_name (Some one) a argument = callback_by_kind (taken_by one.kind) a argument

  abbrev pub callback_by_level : Level → Expr → Option CsType → Judged (Unit {0})
  callback_by_level (ExprKind-F.Lambda name body) a argument = lambda a.place name body argument
  callback_by_level (ExprKind-F.Name name) a argument = callback_by_name (meant g.scope.names name) a argument
  callback_by_level _ a argument = callback_expression a argument

  -- the value of a callback with such an argument: a lambda, the name of a method, or an expression of the type
  unfoldable pub callback : Expr → Option CsType → Judged (Unit {0})
  callback a argument = callback_by_level (out-ExprKind a.kind) a argument

  abbrev pub supplied_by_level : CsType-F CsType → CsType → Expr → Judged (Unit {0})
  supplied_by_level (CsType-F.Callback argument) cs_type a = callback a argument
  supplied_by_level _ cs_type a = do
    x ← value a
    wants cs_type x.place x.expr_type

  -- an expression as what a parameter of a type is given
  unfoldable pub supplied : CsType → Expr → Judged (Unit {0})
  supplied cs_type a = supplied_by_level (out-CsType cs_type) cs_type a

  -- the value of a `CascadingValue`
  unfoldable pub cascading : Expr → Judged (Unit {0})
  cascading a = do
    x ← value a
    if is_cascading x.expr_type then fine tt else mismatch x.place
