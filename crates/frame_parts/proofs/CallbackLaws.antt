-- What callbacks and handlers come to.
use Rattle.std.proofs.Common.{◌≡◌, ℕ, List, [], refl, ap, ◌∙◌, inl, inr}
use Rattle.std.specs.Prelude.{Option, Some, None, is_some}
use Rattle.std.proofs.lemmas.Bool.{cases_Bool}
use Rattle.cs_ast.specs.declared.cs_type.CsType.{CsType}
use Rattle.cs_ast.specs.declared.cs_type.CsType.TheVariants as ty
use Rattle.cs_ast.specs.declared.expression.Body.{Body}
use Rattle.cs_ast.specs.declared.expression.Body.TheOpen.{ExprKind-F}
use Rattle.cs_ast.specs.declared.expression.Body.TheViews.{out-ExprKind}
use Rattle.cs_ast.specs.declared.expression.Expr.{Expr}
use Rattle.cs_ast.specs.declared.identifier.Ident.{Ident}
use Rattle.cs_ast.specs.declared.scope.Named.{Named}
use Rattle.cs_ast.specs.declared.scope.Scope.{Scope}
use Rattle.cs_rules.specs.Names.{meant}
use Rattle.cs_rules.proofs.TypeLaws.{out_int, out_bool, out_text, out_rec, out_list, out_callback, out_fragment, out_change, out_args, out_nothing}
use Rattle.razor_parts.specs.Forms.{lambda_in}
use Rattle.razor_rules.specs.Scopes.{Home}
use Rattle.razor_rules.specs.TemplateDeeds.{expression_does}
use Rattle.razor_rules.specs.Values.{Level, name_in, taken_by}
use Rattle.page_meaning.specs.Bodies as page_bodies
use Rattle.page_meaning.specs.Callbacks as page
use Rattle.page_meaning.specs.Callbacks.{own_callback}
use Rattle.page_meaning.specs.Captures.{used}
use Rattle.page_meaning.specs.Resolved.{place_at, value_code}
use Rattle.page_meaning.specs.Tags.{supplied_code, expression_code}
use Rattle.frame_parts.specs.Callbacks as spec
use Rattle.frame_parts.specs.Methods as methods
use Rattle.frame_parts.specs.Steps as steps
use Rattle.frame_parts.specs.Steps.{Numbered, step, code_in}
use Rattle.frame_parts.proofs.MethodLaws.{lambda_law, named_law}
use Rattle.frame_parts.proofs.StepLaws.{step_alone, then_by, then_made, value_law}

meant_law : (one : Option Named) (home : Home) (s : Scope) (number : ℕ) (a : Expr) (before : Numbered) → step (page.meant_callback one home s number a) before ≡ spec.meant_callback one home s number a before
meant_law None home s number a before = value_law s a before
meant_law (Some one) home s number a before =
    elim (cases_Bool (is_some (taken_by one.kind))) [
      | inl h ↦ rw h (step_alone (own_callback home number []) before)
      | inr h ↦ rw h (value_law s a before)
    ]

module _ (home : Home) (s : Scope) (number : ℕ) (a : Expr) (argument : Option CsType) (before : Numbered) where
  pub callback_lambda : (name : Option Ident) (of : Body) → out-ExprKind a.kind ≡ ExprKind-F.Lambda name of → step (page.callback home s number a argument) before ≡ spec.lambda_callback home s number a name of argument before
  unfolding page.callback
  callback_lambda name of is =
      ap (λ (level : Level). step (page.callback_level level home s number a argument) before) is
      ∙ then_made (page_bodies.lambda_body home s (place_at home number) a name of argument)
      (methods.lambda_body home (used (λ deed. expression_does deed a) s) (place_at home number) a.place name of argument)
      (λ placed. own_callback home number (used (λ deed. expression_does deed a) s)) (lambda_law home s (place_at home number) a name of argument) before

  pub callback_name : (name : List ℕ) → out-ExprKind a.kind ≡ ExprKind-F.Name name → step (page.callback home s number a argument) before ≡ spec.named_callback home s number a name before
  unfolding page.callback
  callback_name name is =
      ap (λ (level : Level). step (page.callback_level level home s number a argument) before) is
      ∙ then_by (page_bodies.named_body home (place_at home number) name home.members) (λ placed. page.meant_callback (meant s.names name) home s number a)
      (methods.named_body home (place_at home number) (methods.method_named home.members name)) (λ placed. spec.meant_callback (meant s.names name) home s number a)
      (named_law home (place_at home number) name home.members) (λ placed now. meant_law (meant s.names name) home s number a now) before

  plain_callback : (level : Level) → lambda_in level ≡ None → name_in level ≡ None → step (page.callback_level level home s number a argument) before ≡ step (value_code s a) before
  plain_callback (ExprKind-F.Lambda name of) no_lambda no_name = absurd (cc)
  plain_callback (ExprKind-F.Name name) no_lambda no_name = absurd (cc)
  plain_callback _ no_lambda no_name = refl

  pub callback_other : lambda_in (out-ExprKind a.kind) ≡ None → name_in (out-ExprKind a.kind) ≡ None → step (page.callback home s number a argument) before ≡ steps.judged (code_in s a) before
  unfolding page.callback
  callback_other no_lambda no_name = plain_callback (out-ExprKind a.kind) no_lambda no_name ∙ value_law s a before

module _ (home : Home) (s : Scope) (number : ℕ) (a : Expr) (before : Numbered) where
  pub supplied_int : step (supplied_code home s number ty.Int a) before ≡ steps.judged (code_in s a) before
  unfolding supplied_code
  supplied_int = ap (λ level. step (expression_code home s number level a) before) out_int ∙ value_law s a before

  pub supplied_bool : step (supplied_code home s number ty.Bool a) before ≡ steps.judged (code_in s a) before
  unfolding supplied_code
  supplied_bool = ap (λ level. step (expression_code home s number level a) before) out_bool ∙ value_law s a before

  pub supplied_text : step (supplied_code home s number ty.Text a) before ≡ steps.judged (code_in s a) before
  unfolding supplied_code
  supplied_text = ap (λ level. step (expression_code home s number level a) before) out_text ∙ value_law s a before

  pub supplied_rec : (n : List ℕ) → step (supplied_code home s number (ty.Rec n) a) before ≡ steps.judged (code_in s a) before
  unfolding supplied_code
  supplied_rec n = ap (λ level. step (expression_code home s number level a) before) (out_rec n) ∙ value_law s a before

  pub supplied_list : (item : CsType) → step (supplied_code home s number (ty.List item) a) before ≡ steps.judged (code_in s a) before
  unfolding supplied_code
  supplied_list item = ap (λ level. step (expression_code home s number level a) before) (out_list item) ∙ value_law s a before

  pub supplied_callback : (o : Option CsType) → step (supplied_code home s number (ty.Callback o) a) before ≡ step (page.callback home s number a o) before
  unfolding supplied_code
  supplied_callback o = ap (λ level. step (expression_code home s number level a) before) (out_callback o)

  pub supplied_fragment : (o : Option CsType) → step (supplied_code home s number (ty.Fragment o) a) before ≡ steps.judged (code_in s a) before
  unfolding supplied_code
  supplied_fragment o = ap (λ level. step (expression_code home s number level a) before) (out_fragment o) ∙ value_law s a before

  pub supplied_change : step (supplied_code home s number ty.Change a) before ≡ steps.judged (code_in s a) before
  unfolding supplied_code
  supplied_change = ap (λ level. step (expression_code home s number level a) before) out_change ∙ value_law s a before

  pub supplied_args : step (supplied_code home s number ty.Args a) before ≡ steps.judged (code_in s a) before
  unfolding supplied_code
  supplied_args = ap (λ level. step (expression_code home s number level a) before) out_args ∙ value_law s a before

  pub supplied_nothing : step (supplied_code home s number ty.Nothing a) before ≡ steps.judged (code_in s a) before
  unfolding supplied_code
  supplied_nothing = ap (λ level. step (expression_code home s number level a) before) out_nothing ∙ value_law s a before
