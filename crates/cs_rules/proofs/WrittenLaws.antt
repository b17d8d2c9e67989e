-- The equations of written types.
use Rattle.std.proofs.Common.{◌≡◌, List, sym, ap, ◌∙◌, ℕ}
use Rattle.std.specs.Prelude.{Option, Some, None, is_some, option_map, if◌then◌else◌, Bool}
use Rattle.text_core.specs.declared.place.Place.{Place}
use Rattle.cs_ast.specs.declared.cs_type.CsType.{CsType}
use Rattle.cs_ast.specs.declared.cs_type.CsType.TheVariants as ty
use Rattle.cs_ast.specs.declared.cs_type.TypeExpr.{TypeExpr}
use Rattle.cs_ast.specs.declared.cs_type.TypeKind.{TypeKind}
use Rattle.cs_ast.specs.declared.cs_type.TypeKind.TheVariants as tk
use Rattle.cs_ast.specs.declared.cs_type.TypeKind.TheOpen.{TypeKind-F}
use Rattle.cs_ast.specs.declared.cs_type.TypeKind.TheViews.{roll-TypeKind}
use Rattle.cs_ast.specs.declared.cs_type.TypeKind.TheFolds.{fold-TypeKind, fold_out-TypeExpr, fold-roll-TypeKind, map-TypeKind}
use Rattle.cs_ast.specs.declared.member.Member.{Member}
use Rattle.cs_rules.specs.Written.{type_of_level, type_of, unknown_level, unknown_in, record_named}

abbrev Layer : Type 0
Layer = TypeKind-F TypeKind TypeExpr

abbrev kind_type : TypeKind → CsType
kind_type = fold-TypeKind CsType CsType type_of_level (λ written. written.kind)

of_kind : (w : TypeExpr) (x : Layer) → w.kind ≡ roll-TypeKind x → type_of w ≡ type_of_level (map-TypeKind TypeKind TypeExpr CsType CsType kind_type type_of x)
unfolding type_of
of_kind w x is =
    fold_out-TypeExpr CsType CsType type_of_level (λ written. written.kind) w
    ∙ ap kind_type is
    ∙ fold-roll-TypeKind CsType CsType type_of_level (λ written. written.kind) x

pub type_int : (w : TypeExpr) → w.kind ≡ tk.Int → type_of w ≡ ty.Int
type_int w is = of_kind w TypeKind-F.Int (is ∙ sym tk.rolls-Int)

pub type_bool : (w : TypeExpr) → w.kind ≡ tk.Bool → type_of w ≡ ty.Bool
type_bool w is = of_kind w TypeKind-F.Bool (is ∙ sym tk.rolls-Bool)

pub type_text : (w : TypeExpr) → w.kind ≡ tk.Text → type_of w ≡ ty.Text
type_text w is = of_kind w TypeKind-F.Text (is ∙ sym tk.rolls-Text)

pub type_named : (w : TypeExpr) (n : List ℕ) → w.kind ≡ tk.Named n → type_of w ≡ ty.Rec n
type_named w n is = of_kind w (TypeKind-F.Named n) (is ∙ sym (tk.rolls-Named n))

pub type_list : (w : TypeExpr) (a : TypeExpr) → w.kind ≡ tk.List a → type_of w ≡ ty.List (type_of a)
type_list w a is = of_kind w (TypeKind-F.List a) (is ∙ sym (tk.rolls-List a))

pub type_callback : (w : TypeExpr) (o : Option TypeExpr) → w.kind ≡ tk.Callback o → type_of w ≡ ty.Callback (option_map type_of o)
type_callback w None is = of_kind w (TypeKind-F.Callback None) (is ∙ sym (tk.rolls-Callback None))
type_callback w (Some a) is = of_kind w (TypeKind-F.Callback (Some a)) (is ∙ sym (tk.rolls-Callback (Some a)))

pub type_callback_none : (w : TypeExpr) (o : Option TypeExpr) → w.kind ≡ tk.Callback o → o ≡ None → type_of w ≡ ty.Callback None
type_callback_none w o is none = type_callback w o is ∙ ap (λ (p : Option TypeExpr). ty.Callback (option_map type_of p)) none

pub type_callback_some : (w a : TypeExpr) (o : Option TypeExpr) → w.kind ≡ tk.Callback o → o ≡ Some a → type_of w ≡ ty.Callback (Some (type_of a))
type_callback_some w a o is some = type_callback w o is ∙ ap (λ (p : Option TypeExpr). ty.Callback (option_map type_of p)) some

pub type_fragment : (w : TypeExpr) (o : Option TypeExpr) → w.kind ≡ tk.Fragment o → type_of w ≡ ty.Fragment (option_map type_of o)
type_fragment w None is = of_kind w (TypeKind-F.Fragment None) (is ∙ sym (tk.rolls-Fragment None))
type_fragment w (Some a) is = of_kind w (TypeKind-F.Fragment (Some a)) (is ∙ sym (tk.rolls-Fragment (Some a)))

pub type_fragment_none : (w : TypeExpr) (o : Option TypeExpr) → w.kind ≡ tk.Fragment o → o ≡ None → type_of w ≡ ty.Fragment None
type_fragment_none w o is none = type_fragment w o is ∙ ap (λ (p : Option TypeExpr). ty.Fragment (option_map type_of p)) none

pub type_fragment_some : (w a : TypeExpr) (o : Option TypeExpr) → w.kind ≡ tk.Fragment o → o ≡ Some a → type_of w ≡ ty.Fragment (Some (type_of a))
type_fragment_some w a o is some = type_fragment w o is ∙ ap (λ (p : Option TypeExpr). ty.Fragment (option_map type_of p)) some

pub type_change : (w : TypeExpr) → w.kind ≡ tk.Change → type_of w ≡ ty.Change
type_change w is = of_kind w TypeKind-F.Change (is ∙ sym tk.rolls-Change)

pub type_args : (w : TypeExpr) → w.kind ≡ tk.Args → type_of w ≡ ty.Args
type_args w is = of_kind w TypeKind-F.Args (is ∙ sym tk.rolls-Args)

module _ (records : List Member) where
  abbrev kind_unknown : TypeKind → Place → Option Place
  kind_unknown = fold-TypeKind (Place → Option Place) (Option Place) (unknown_level records) (λ written. written.kind written.place)

  unknown_kind : (w : TypeExpr) (x : Layer) → w.kind ≡ roll-TypeKind x → unknown_in records w ≡ unknown_level records (map-TypeKind TypeKind TypeExpr (Place → Option Place) (Option Place) kind_unknown (unknown_in records) x) w.place
  unfolding unknown_in
  unknown_kind w x is =
      fold_out-TypeExpr (Place → Option Place) (Option Place) (unknown_level records) (λ written. written.kind written.place) w
      ∙ ap (λ k. kind_unknown k w.place) is
      ∙ ap (λ f. f w.place) (fold-roll-TypeKind (Place → Option Place) (Option Place) (unknown_level records) (λ written. written.kind written.place) x)

  pub unknown_int : (w : TypeExpr) → w.kind ≡ tk.Int → unknown_in records w ≡ None
  unknown_int w is = unknown_kind w TypeKind-F.Int (is ∙ sym tk.rolls-Int)

  pub unknown_bool : (w : TypeExpr) → w.kind ≡ tk.Bool → unknown_in records w ≡ None
  unknown_bool w is = unknown_kind w TypeKind-F.Bool (is ∙ sym tk.rolls-Bool)

  pub unknown_text : (w : TypeExpr) → w.kind ≡ tk.Text → unknown_in records w ≡ None
  unknown_text w is = unknown_kind w TypeKind-F.Text (is ∙ sym tk.rolls-Text)

  pub unknown_named : (w : TypeExpr) (n : List ℕ) → w.kind ≡ tk.Named n → unknown_in records w ≡ (if is_some (record_named records n) then None else Some w.place)
  unknown_named w n is = unknown_kind w (TypeKind-F.Named n) (is ∙ sym (tk.rolls-Named n))

  pub unknown_list : (w : TypeExpr) (a : TypeExpr) → w.kind ≡ tk.List a → unknown_in records w ≡ unknown_in records a
  unknown_list w a is = unknown_kind w (TypeKind-F.List a) (is ∙ sym (tk.rolls-List a))

  pub unknown_callback : (w : TypeExpr) (o : Option TypeExpr) → w.kind ≡ tk.Callback o → unknown_in records w ≡ Some w.place
  unknown_callback w None is = unknown_kind w (TypeKind-F.Callback None) (is ∙ sym (tk.rolls-Callback None))
  unknown_callback w (Some a) is = unknown_kind w (TypeKind-F.Callback (Some a)) (is ∙ sym (tk.rolls-Callback (Some a)))

  pub unknown_fragment : (w : TypeExpr) (o : Option TypeExpr) → w.kind ≡ tk.Fragment o → unknown_in records w ≡ Some w.place
  unknown_fragment w None is = unknown_kind w (TypeKind-F.Fragment None) (is ∙ sym (tk.rolls-Fragment None))
  unknown_fragment w (Some a) is = unknown_kind w (TypeKind-F.Fragment (Some a)) (is ∙ sym (tk.rolls-Fragment (Some a)))

  pub unknown_change : (w : TypeExpr) → w.kind ≡ tk.Change → unknown_in records w ≡ Some w.place
  unknown_change w is = unknown_kind w TypeKind-F.Change (is ∙ sym tk.rolls-Change)

  pub unknown_args : (w : TypeExpr) → w.kind ≡ tk.Args → unknown_in records w ≡ Some w.place
  unknown_args w is = unknown_kind w TypeKind-F.Args (is ∙ sym tk.rolls-Args)
