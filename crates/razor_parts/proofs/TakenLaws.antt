-- Parameters and fields by the types that they are written with.
use Rattle.std.proofs.Common.{◌≡◌, ℕ, ◌+◌, List, [], ◌∷◌, refl, ap, ◌∙◌, inl, inr}
use Rattle.std.specs.Prelude.{Bool, true, false, codes, if◌then◌else◌, is_none, Option, Some, None, option_map, bytes_eq}
use Rattle.std.specs.Option.{option_or}
use Rattle.std.proofs.lemmas.Bool.{cases_Bool}
use Rattle.cs_ast.specs.declared.cs_type.CsType.{CsType, out-CsType}
use Rattle.cs_ast.specs.declared.cs_type.TypeExpr.{TypeExpr}
use Rattle.cs_ast.specs.declared.cs_type.TypeKind.TheVariants as tk
use Rattle.cs_ast.specs.declared.member.Member.{Member}
use Rattle.cs_ast.specs.declared.member.MemberKind.{MemberKind}
use Rattle.cs_ast.specs.declared.member.MemberKind.TheVariants.{Field, Parameter, Method, Getter, RecordDef}
use Rattle.cs_rules.specs.Written.{type_of}
use Rattle.cs_rules.proofs.TypeLaws.{out_int, out_bool, out_text, out_rec, out_list, out_callback, out_fragment, out_change, out_args}
use Rattle.cs_rules.proofs.WrittenLaws.{type_int, type_bool, type_text, type_named, type_list, type_callback, type_fragment, type_fragment_none, type_fragment_some, type_change, type_args}
use Rattle.razor_ast.specs.declared.attribute.AttributeKind.TheVariants as ak
use Rattle.razor_ast.specs.declared.attribute.ValuePart.{ValuePart}
use Rattle.razor_ast.specs.declared.attribute.ValuePart.TheVariants as part
use Rattle.razor_rules.specs.Elements.{field_or, field_from, field_type, is_bindable, is_truth, is_literal}
use Rattle.razor_rules.specs.Parameters.{Takes, taken_as, takes_in, taken, argument_level, argument_taken, fragment_taken, cascading_value, component}
use Rattle.razor_rules.specs.WrittenTypes.{unknown_parameter}
use Rattle.razor_parts.specs.Taken.{written_as, argument_written, field_by, field_written, says}

-- what is said of a parameter by its type alone can be said of how that is written
module _ {X : Type 0} (records : List Member) (said : Option Takes → X) (written : Option TypeExpr → X) (none : said None ≡ written None)
    (some : (name : List ℕ) (w : TypeExpr) → said (Some (record { name = name; cs_type = type_of w; is_type = is_none (unknown_parameter records w) })) ≡ written (Some w)) where
  of_kind : (kind : MemberKind) (others : List Member) (name : List ℕ) → said (taken (takes_in records others) name) ≡ written (written_as others name) →
      (place : Member) → place.kind ≡ kind → said (taken (takes_in records (place ∷ others)) name) ≡ written (written_as (place ∷ others) name)
  unfolding taken_as
  of_kind (Field t n i) others name h m is = rw is h
  of_kind (Method r n a b) others name h m is = rw is h
  of_kind (Getter r n v) others name h m is = rw is h
  of_kind (RecordDef n p) others name h m is = rw is h
  of_kind (Parameter true s t n i) others name h m is = rw is h
  of_kind (Parameter false s t n i) others name h m is = elim (cases_Bool (bytes_eq n.name name)) [
    | inl e ↦ rw (is, e) (some n.name t)
    | inr e ↦ rw (is, e) h
  ]

  pub by_written : (members : List Member) (name : List ℕ) → said (taken (takes_in records members) name) ≡ written (written_as members name)
  by_written [] name = none
  by_written (m ∷ ms) name = of_kind m.kind ms name (by_written ms name) m refl

pub component_takes : (records members : List Member) (name : List ℕ) → fragment_taken (component (takes_in records members)) name ≡ argument_written (written_as members name)
unfolding fragment_taken
component_takes records members name = by_written records argument_taken argument_written refl (λ n w. refl) members name

pub built_in_takes : (name : List ℕ) → fragment_taken cascading_value name ≡ (if bytes_eq name (codes "ChildContent") then Some None else None)
unfolding fragment_taken
built_in_takes name = refl

-- literal values
pub says_literal : (text : List ℕ) (number : ℕ) (value : List ValuePart) → is_literal text (ak.Mixed number value) ≡ says text value
says_literal text number [] = refl
says_literal text number (part.Literal said ∷ []) = refl
says_literal text number (part.Shown shown ∷ []) = refl
says_literal text number (part.Literal said ∷ second ∷ rest) = refl
says_literal text number (part.Shown shown ∷ second ∷ rest) = refl

-- fields
field_of_kind : (kind : MemberKind) (others : List Member) (name : List ℕ) (number : ℕ) →
    ((n : ℕ) → option_map (λ (f : ℕ × CsType). f.1) (field_from others name n) ≡ option_map type_of (field_written others name)) →
    option_map (λ (f : ℕ × CsType). f.1) (field_or name kind number (field_from others name)) ≡ option_map type_of (option_or (field_by name kind) (field_written others name))
field_of_kind (Field t n i) others name number h = elim (cases_Bool (bytes_eq n.name name)) [
  | inl e ↦ rw e refl
  | inr e ↦ rw e (h (number + 1))
]
field_of_kind (Parameter c s t n i) others name number h = h number
field_of_kind (Method r n a b) others name number h = h number
field_of_kind (Getter r n v) others name number h = h number
field_of_kind (RecordDef n p) others name number h = h number

field_numbered : (members : List Member) (name : List ℕ) (number : ℕ) → option_map (λ (f : ℕ × CsType). f.1) (field_from members name number) ≡ option_map type_of (field_written members name)
field_numbered [] name number = refl
field_numbered (m ∷ ms) name number = field_of_kind m.kind ms name number (field_numbered ms name)

pub field_law : (members : List Member) (name : List ℕ) → field_type members name ≡ option_map type_of (field_written members name)
field_law members name = field_numbered members name 0

-- the types of fragments
abbrev argument : TypeExpr → Option (Option CsType)
argument w = argument_level (out-CsType (type_of w))

abbrev argument_in : CsType → Option (Option CsType)
argument_in t = argument_level (out-CsType t)

pub argument_int : (w : TypeExpr) → w.kind ≡ tk.Int → argument w ≡ None
argument_int w is = ap argument_in (type_int w is) ∙ ap argument_level out_int

pub argument_bool : (w : TypeExpr) → w.kind ≡ tk.Bool → argument w ≡ None
argument_bool w is = ap argument_in (type_bool w is) ∙ ap argument_level out_bool

pub argument_text : (w : TypeExpr) → w.kind ≡ tk.Text → argument w ≡ None
argument_text w is = ap argument_in (type_text w is) ∙ ap argument_level out_text

pub argument_named : (w : TypeExpr) (n : List ℕ) → w.kind ≡ tk.Named n → argument w ≡ None
argument_named w n is = ap argument_in (type_named w n is) ∙ ap argument_level (out_rec n)

pub argument_list : (w a : TypeExpr) → w.kind ≡ tk.List a → argument w ≡ None
argument_list w a is = ap argument_in (type_list w a is) ∙ ap argument_level (out_list (type_of a))

pub argument_callback : (w : TypeExpr) (o : Option TypeExpr) → w.kind ≡ tk.Callback o → argument w ≡ None
argument_callback w o is = ap argument_in (type_callback w o is) ∙ ap argument_level (out_callback (option_map type_of o))

pub argument_fragment_none : (w : TypeExpr) (o : Option TypeExpr) → w.kind ≡ tk.Fragment o → o ≡ None → argument w ≡ Some None
argument_fragment_none w o is none = ap argument_in (type_fragment_none w o is none) ∙ ap argument_level (out_fragment None)

pub argument_fragment_some : (w a : TypeExpr) (o : Option TypeExpr) → w.kind ≡ tk.Fragment o → o ≡ Some a → argument w ≡ Some (Some (type_of a))
argument_fragment_some w a o is some = ap argument_in (type_fragment_some w a o is some) ∙ ap argument_level (out_fragment (Some (type_of a)))

pub argument_change : (w : TypeExpr) → w.kind ≡ tk.Change → argument w ≡ None
argument_change w is = ap argument_in (type_change w is) ∙ ap argument_level out_change

pub argument_args : (w : TypeExpr) → w.kind ≡ tk.Args → argument w ≡ None
argument_args w is = ap argument_in (type_args w is) ∙ ap argument_level out_args

-- types that can be bound, and truth values

pub bindable_int : (w : TypeExpr) → w.kind ≡ tk.Int → is_bindable (Some (type_of w)) ≡ true
bindable_int w is = ap (λ t. is_bindable (Some t)) (type_int w is)

pub bindable_bool : (w : TypeExpr) → w.kind ≡ tk.Bool → is_bindable (Some (type_of w)) ≡ true
bindable_bool w is = ap (λ t. is_bindable (Some t)) (type_bool w is)

pub bindable_text : (w : TypeExpr) → w.kind ≡ tk.Text → is_bindable (Some (type_of w)) ≡ true
bindable_text w is = ap (λ t. is_bindable (Some t)) (type_text w is)

pub bindable_named : (w : TypeExpr) (n : List ℕ) → w.kind ≡ tk.Named n → is_bindable (Some (type_of w)) ≡ false
bindable_named w n is = ap (λ t. is_bindable (Some t)) (type_named w n is)

pub bindable_list : (w : TypeExpr) (a : TypeExpr) → w.kind ≡ tk.List a → is_bindable (Some (type_of w)) ≡ false
bindable_list w a is = ap (λ t. is_bindable (Some t)) (type_list w a is)

pub bindable_callback : (w : TypeExpr) (o : Option TypeExpr) → w.kind ≡ tk.Callback o → is_bindable (Some (type_of w)) ≡ false
bindable_callback w None is = ap (λ t. is_bindable (Some t)) (type_callback w None is)
bindable_callback w (Some a) is = ap (λ t. is_bindable (Some t)) (type_callback w (Some a) is)

pub bindable_fragment : (w : TypeExpr) (o : Option TypeExpr) → w.kind ≡ tk.Fragment o → is_bindable (Some (type_of w)) ≡ false
bindable_fragment w None is = ap (λ t. is_bindable (Some t)) (type_fragment w None is)
bindable_fragment w (Some a) is = ap (λ t. is_bindable (Some t)) (type_fragment w (Some a) is)

pub bindable_change : (w : TypeExpr) → w.kind ≡ tk.Change → is_bindable (Some (type_of w)) ≡ false
bindable_change w is = ap (λ t. is_bindable (Some t)) (type_change w is)

pub bindable_args : (w : TypeExpr) → w.kind ≡ tk.Args → is_bindable (Some (type_of w)) ≡ false
bindable_args w is = ap (λ t. is_bindable (Some t)) (type_args w is)

pub truth_int : (w : TypeExpr) → w.kind ≡ tk.Int → is_truth (Some (type_of w)) ≡ false
truth_int w is = ap (λ t. is_truth (Some t)) (type_int w is)

pub truth_bool : (w : TypeExpr) → w.kind ≡ tk.Bool → is_truth (Some (type_of w)) ≡ true
truth_bool w is = ap (λ t. is_truth (Some t)) (type_bool w is)

pub truth_text : (w : TypeExpr) → w.kind ≡ tk.Text → is_truth (Some (type_of w)) ≡ false
truth_text w is = ap (λ t. is_truth (Some t)) (type_text w is)

pub truth_named : (w : TypeExpr) (n : List ℕ) → w.kind ≡ tk.Named n → is_truth (Some (type_of w)) ≡ false
truth_named w n is = ap (λ t. is_truth (Some t)) (type_named w n is)

pub truth_list : (w : TypeExpr) (a : TypeExpr) → w.kind ≡ tk.List a → is_truth (Some (type_of w)) ≡ false
truth_list w a is = ap (λ t. is_truth (Some t)) (type_list w a is)

pub truth_callback : (w : TypeExpr) (o : Option TypeExpr) → w.kind ≡ tk.Callback o → is_truth (Some (type_of w)) ≡ false
truth_callback w None is = ap (λ t. is_truth (Some t)) (type_callback w None is)
truth_callback w (Some a) is = ap (λ t. is_truth (Some t)) (type_callback w (Some a) is)

pub truth_fragment : (w : TypeExpr) (o : Option TypeExpr) → w.kind ≡ tk.Fragment o → is_truth (Some (type_of w)) ≡ false
truth_fragment w None is = ap (λ t. is_truth (Some t)) (type_fragment w None is)
truth_fragment w (Some a) is = ap (λ t. is_truth (Some t)) (type_fragment w (Some a) is)

pub truth_change : (w : TypeExpr) → w.kind ≡ tk.Change → is_truth (Some (type_of w)) ≡ false
truth_change w is = ap (λ t. is_truth (Some t)) (type_change w is)

pub truth_args : (w : TypeExpr) → w.kind ≡ tk.Args → is_truth (Some (type_of w)) ≡ false
truth_args w is = ap (λ t. is_truth (Some t)) (type_args w is)
