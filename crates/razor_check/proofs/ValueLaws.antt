-- The equations of what callbacks and parameters are given.
use Rattle.std.proofs.Common.{◌≡◌, ℕ, List, refl, sym, ap, ◌∙◌}
use Rattle.std.specs.Prelude.{Option, Some, None}
use Rattle.cs_ast.specs.declared.cs_type.CsType.{CsType}
use Rattle.cs_ast.specs.declared.cs_type.CsType.TheVariants as ty
use Rattle.cs_ast.specs.declared.cs_type.CsType.TheOpen.{CsType-F}
use Rattle.cs_ast.specs.declared.expression.Body.{Body}
use Rattle.cs_ast.specs.declared.expression.Body.TheOpen.{ExprKind-F}
use Rattle.cs_ast.specs.declared.expression.Body.TheViews.{out-ExprKind}
use Rattle.cs_ast.specs.declared.expression.Expr.{Expr}
use Rattle.cs_ast.specs.declared.identifier.Ident.{Ident}
use Rattle.cs_rules.specs.Judged.{◌>>=◌}
use Rattle.cs_rules.specs.Names.{meant}
use Rattle.cs_rules.specs.Types.{wants}
use Rattle.cs_rules.proofs.TypeLaws.{out_int, out_bool, out_text, out_rec, out_list, out_callback, out_fragment, out_change, out_args, out_nothing}
use Rattle.razor_rules.specs.declared.ground.Ground.{Ground}
use Rattle.razor_rules.specs.Values.{Level, name_in, value, lambda, callback, callback_expression, callback_by_name, callback_by_level, supplied, supplied_by_level}
use Rattle.razor_parts.specs.Forms.{lambda_in}

module _ (g : Ground) where
  pub callback_lambda : (a : Expr) (argument : Option CsType) (name : Option Ident) (body : Body) → out-ExprKind a.kind ≡ ExprKind-F.Lambda name body → callback g a argument ≡ lambda g a.place name body argument
  unfolding callback
  callback_lambda a argument name body is = ap (λ (level : Level). callback_by_level g level a argument) is

  pub callback_name : (a : Expr) (argument : Option CsType) (name : List ℕ) → out-ExprKind a.kind ≡ ExprKind-F.Name name → callback g a argument ≡ callback_by_name g (meant g.scope.names name) a argument
  unfolding callback
  callback_name a argument name is = ap (λ (level : Level). callback_by_level g level a argument) is

  plain_callback : (a : Expr) (argument : Option CsType) (level : Level) → lambda_in level ≡ None → name_in level ≡ None → callback_by_level g level a argument ≡ callback_expression g a argument
  plain_callback a argument (ExprKind-F.Lambda name body) no_lambda no_name = absurd (cc)
  plain_callback a argument (ExprKind-F.Name name) no_lambda no_name = absurd (cc)
  plain_callback a argument _ no_lambda no_name = refl

  pub callback_other : (a : Expr) (argument : Option CsType) → lambda_in (out-ExprKind a.kind) ≡ None → name_in (out-ExprKind a.kind) ≡ None → callback g a argument ≡ callback_expression g a argument
  unfolding callback
  callback_other a argument no_lambda no_name = plain_callback a argument (out-ExprKind a.kind) no_lambda no_name

  pub supplied_int : (a : Expr) → supplied g ty.Int a ≡ (value g a >>= λ x. wants ty.Int x.place x.expr_type)
  unfolding supplied
  supplied_int a = ap (λ level. supplied_by_level g level ty.Int a) out_int

  pub supplied_bool : (a : Expr) → supplied g ty.Bool a ≡ (value g a >>= λ x. wants ty.Bool x.place x.expr_type)
  unfolding supplied
  supplied_bool a = ap (λ level. supplied_by_level g level ty.Bool a) out_bool

  pub supplied_text : (a : Expr) → supplied g ty.Text a ≡ (value g a >>= λ x. wants ty.Text x.place x.expr_type)
  unfolding supplied
  supplied_text a = ap (λ level. supplied_by_level g level ty.Text a) out_text

  pub supplied_rec : (n : List ℕ) (a : Expr) → supplied g (ty.Rec n) a ≡ (value g a >>= λ x. wants (ty.Rec n) x.place x.expr_type)
  unfolding supplied
  supplied_rec n a = ap (λ level. supplied_by_level g level (ty.Rec n) a) (out_rec n)

  pub supplied_list : (item : CsType) (a : Expr) → supplied g (ty.List item) a ≡ (value g a >>= λ x. wants (ty.List item) x.place x.expr_type)
  unfolding supplied
  supplied_list item a = ap (λ level. supplied_by_level g level (ty.List item) a) (out_list item)

  pub supplied_callback : (o : Option CsType) (a : Expr) → supplied g (ty.Callback o) a ≡ (callback g a o)
  unfolding supplied
  supplied_callback o a = ap (λ level. supplied_by_level g level (ty.Callback o) a) (out_callback o)

  pub supplied_fragment : (o : Option CsType) (a : Expr) → supplied g (ty.Fragment o) a ≡ (value g a >>= λ x. wants (ty.Fragment o) x.place x.expr_type)
  unfolding supplied
  supplied_fragment o a = ap (λ level. supplied_by_level g level (ty.Fragment o) a) (out_fragment o)

  pub supplied_change : (a : Expr) → supplied g ty.Change a ≡ (value g a >>= λ x. wants ty.Change x.place x.expr_type)
  unfolding supplied
  supplied_change a = ap (λ level. supplied_by_level g level ty.Change a) out_change

  pub supplied_args : (a : Expr) → supplied g ty.Args a ≡ (value g a >>= λ x. wants ty.Args x.place x.expr_type)
  unfolding supplied
  supplied_args a = ap (λ level. supplied_by_level g level ty.Args a) out_args

  pub supplied_nothing : (a : Expr) → supplied g ty.Nothing a ≡ (value g a >>= λ x. wants ty.Nothing x.place x.expr_type)
  unfolding supplied
  supplied_nothing a = ap (λ level. supplied_by_level g level ty.Nothing a) out_nothing
