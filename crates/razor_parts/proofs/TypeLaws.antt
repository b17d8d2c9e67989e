-- The equations of types of arguments and parameters.
use Rattle.std.proofs.Common.{◌≡◌, ℕ, List, sym, ap, ◌∙◌}
use Rattle.std.specs.Prelude.{Option, Some, None}
use Rattle.cs_ast.specs.declared.cs_type.TypeExpr.{TypeExpr}
use Rattle.cs_ast.specs.declared.cs_type.TypeKind.{TypeKind}
use Rattle.cs_ast.specs.declared.cs_type.TypeKind.TheVariants as tk
use Rattle.cs_ast.specs.declared.cs_type.TypeKind.TheOpen.{TypeKind-F}
use Rattle.cs_ast.specs.declared.cs_type.TypeKind.TheViews.{roll-TypeKind, out-TypeKind, out-roll-TypeKind}
use Rattle.cs_ast.specs.declared.member.Member.{Member}
use Rattle.cs_rules.specs.Written.{unknown_in}
use Rattle.razor_rules.specs.WrittenTypes.{unknown_as_argument, unknown_argument, unknown_if_any, unknown_as_parameter, unknown_parameter}

at_root : (kind : TypeKind) (x : TypeKind-F TypeKind TypeExpr) → kind ≡ roll-TypeKind x → out-TypeKind kind ≡ x
at_root kind x is = ap out-TypeKind is ∙ out-roll-TypeKind x

module _ (records : List Member) where
  pub argument_int : (w : TypeExpr) → w.kind ≡ tk.Int → unknown_argument records w ≡ unknown_in records w
  unfolding unknown_argument
  argument_int w is = ap (unknown_as_argument records w) (at_root w.kind TypeKind-F.Int (is ∙ sym tk.rolls-Int))

  pub argument_bool : (w : TypeExpr) → w.kind ≡ tk.Bool → unknown_argument records w ≡ unknown_in records w
  unfolding unknown_argument
  argument_bool w is = ap (unknown_as_argument records w) (at_root w.kind TypeKind-F.Bool (is ∙ sym tk.rolls-Bool))

  pub argument_text : (w : TypeExpr) → w.kind ≡ tk.Text → unknown_argument records w ≡ unknown_in records w
  unfolding unknown_argument
  argument_text w is = ap (unknown_as_argument records w) (at_root w.kind TypeKind-F.Text (is ∙ sym tk.rolls-Text))

  pub argument_named : (w : TypeExpr) (n : List ℕ) → w.kind ≡ tk.Named n → unknown_argument records w ≡ unknown_in records w
  unfolding unknown_argument
  argument_named w n is = ap (unknown_as_argument records w) (at_root w.kind (TypeKind-F.Named n) (is ∙ sym (tk.rolls-Named n)))

  pub argument_list : (w : TypeExpr) (a : TypeExpr) → w.kind ≡ tk.List a → unknown_argument records w ≡ unknown_in records w
  unfolding unknown_argument
  argument_list w a is = ap (unknown_as_argument records w) (at_root w.kind (TypeKind-F.List a) (is ∙ sym (tk.rolls-List a)))

  pub argument_callback : (w : TypeExpr) (o : Option TypeExpr) → w.kind ≡ tk.Callback o → unknown_argument records w ≡ unknown_in records w
  unfolding unknown_argument
  argument_callback w None is = ap (unknown_as_argument records w) (at_root w.kind (TypeKind-F.Callback None) (is ∙ sym (tk.rolls-Callback None)))
  argument_callback w (Some a) is = ap (unknown_as_argument records w) (at_root w.kind (TypeKind-F.Callback (Some a)) (is ∙ sym (tk.rolls-Callback (Some a))))

  pub argument_fragment : (w : TypeExpr) (o : Option TypeExpr) → w.kind ≡ tk.Fragment o → unknown_argument records w ≡ unknown_in records w
  unfolding unknown_argument
  argument_fragment w None is = ap (unknown_as_argument records w) (at_root w.kind (TypeKind-F.Fragment None) (is ∙ sym (tk.rolls-Fragment None)))
  argument_fragment w (Some a) is = ap (unknown_as_argument records w) (at_root w.kind (TypeKind-F.Fragment (Some a)) (is ∙ sym (tk.rolls-Fragment (Some a))))

  pub argument_change : (w : TypeExpr) → w.kind ≡ tk.Change → unknown_argument records w ≡ None
  unfolding unknown_argument
  argument_change w is = ap (unknown_as_argument records w) (at_root w.kind TypeKind-F.Change (is ∙ sym tk.rolls-Change))

  pub argument_args : (w : TypeExpr) → w.kind ≡ tk.Args → unknown_argument records w ≡ None
  unfolding unknown_argument
  argument_args w is = ap (unknown_as_argument records w) (at_root w.kind TypeKind-F.Args (is ∙ sym tk.rolls-Args))

  pub parameter_int : (w : TypeExpr) → w.kind ≡ tk.Int → unknown_parameter records w ≡ unknown_in records w
  unfolding unknown_parameter
  parameter_int w is = ap (unknown_as_parameter records w) (at_root w.kind TypeKind-F.Int (is ∙ sym tk.rolls-Int))

  pub parameter_bool : (w : TypeExpr) → w.kind ≡ tk.Bool → unknown_parameter records w ≡ unknown_in records w
  unfolding unknown_parameter
  parameter_bool w is = ap (unknown_as_parameter records w) (at_root w.kind TypeKind-F.Bool (is ∙ sym tk.rolls-Bool))

  pub parameter_text : (w : TypeExpr) → w.kind ≡ tk.Text → unknown_parameter records w ≡ unknown_in records w
  unfolding unknown_parameter
  parameter_text w is = ap (unknown_as_parameter records w) (at_root w.kind TypeKind-F.Text (is ∙ sym tk.rolls-Text))

  pub parameter_named : (w : TypeExpr) (n : List ℕ) → w.kind ≡ tk.Named n → unknown_parameter records w ≡ unknown_in records w
  unfolding unknown_parameter
  parameter_named w n is = ap (unknown_as_parameter records w) (at_root w.kind (TypeKind-F.Named n) (is ∙ sym (tk.rolls-Named n)))

  pub parameter_list : (w : TypeExpr) (a : TypeExpr) → w.kind ≡ tk.List a → unknown_parameter records w ≡ unknown_in records w
  unfolding unknown_parameter
  parameter_list w a is = ap (unknown_as_parameter records w) (at_root w.kind (TypeKind-F.List a) (is ∙ sym (tk.rolls-List a)))

  pub parameter_callback : (w : TypeExpr) (o : Option TypeExpr) → w.kind ≡ tk.Callback o → unknown_parameter records w ≡ unknown_if_any records o
  unfolding unknown_parameter
  parameter_callback w None is = ap (unknown_as_parameter records w) (at_root w.kind (TypeKind-F.Callback None) (is ∙ sym (tk.rolls-Callback None)))
  parameter_callback w (Some a) is = ap (unknown_as_parameter records w) (at_root w.kind (TypeKind-F.Callback (Some a)) (is ∙ sym (tk.rolls-Callback (Some a))))

  pub parameter_fragment : (w : TypeExpr) (o : Option TypeExpr) → w.kind ≡ tk.Fragment o → unknown_parameter records w ≡ unknown_if_any records o
  unfolding unknown_parameter
  parameter_fragment w None is = ap (unknown_as_parameter records w) (at_root w.kind (TypeKind-F.Fragment None) (is ∙ sym (tk.rolls-Fragment None)))
  parameter_fragment w (Some a) is = ap (unknown_as_parameter records w) (at_root w.kind (TypeKind-F.Fragment (Some a)) (is ∙ sym (tk.rolls-Fragment (Some a))))

  pub parameter_change : (w : TypeExpr) → w.kind ≡ tk.Change → unknown_parameter records w ≡ unknown_in records w
  unfolding unknown_parameter
  parameter_change w is = ap (unknown_as_parameter records w) (at_root w.kind TypeKind-F.Change (is ∙ sym tk.rolls-Change))

  pub parameter_args : (w : TypeExpr) → w.kind ≡ tk.Args → unknown_parameter records w ≡ unknown_in records w
  unfolding unknown_parameter
  parameter_args w is = ap (unknown_as_parameter records w) (at_root w.kind TypeKind-F.Args (is ∙ sym tk.rolls-Args))
