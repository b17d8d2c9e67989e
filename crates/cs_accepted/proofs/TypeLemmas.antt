-- What fits has the type that is wanted.
use Rattle.std.proofs.Common.{◌≡◌, ℕ, List, refl, sym, ap, subst, ◌∙◌, ◌⊎◌, inl, inr}
use Rattle.std.specs.Prelude.{Bool, true, false, ◌||◌, if◌then◌else◌, Option, Some, None}
use Rattle.text_core.specs.declared.place.Place.{Place}
use Rattle.cs_ast.specs.declared.cs_type.CsType.{CsType, out-CsType}
use Rattle.cs_ast.specs.declared.cs_type.CsType.TheVariants as t
use Rattle.cs_ast.specs.declared.cs_type.CsType.TheOpen.{CsType-F}
use Rattle.cs_ast.specs.declared.cs_type.CsType.TheViews.{roll-CsType, roll-out-CsType}
use Rattle.cs_ast.specs.declared.code.Code.{Code}
use Rattle.cs_rules.specs.declared.checked.Checked.{Checked}
use Rattle.cs_rules.specs.declared.checked.ExprType.{ExprType}
use Rattle.cs_rules.specs.declared.checked.ExprType.TheVariants.{Of, Null, Markup}
use Rattle.cs_rules.specs.Types.{same_type, may_be_null, drops_argument, fits_type, fits, common_type, has_values, wants, fitting, own_type}
use Rattle.cs_rules.proofs.SameType.{same_equal}
use Rattle.cs_typing.specs.Values.{HasNull}
use Rattle.cs_typing.specs.Values as has
use Rattle.cs_typing.specs.Expressions.{Surroundings, CodeHas}
use Rattle.cs_typing.specs.Expressions as code
use Rattle.cs_accepted.specs.Accepted.{IfFine, HasOf, HasType, ValueFits}
use Rattle.cs_accepted.proofs.Judging.{tested_fine}

-- the forms of types
pub data Form : CsType → Type 0 where
  int : Form t.Int
  bool : Form t.Bool
  text : Form t.Text
  record_of : (name : List ℕ) → Form (t.Rec name)
  list : (item : CsType) → Form (t.List item)
  callback : (argument : Option CsType) → Form (t.Callback argument)
  fragment : (argument : Option CsType) → Form (t.Fragment argument)
  change : Form t.Change
  args : Form t.Args
  nothing : Form t.Nothing

form_of : (x : CsType-F CsType) → Form (roll-CsType x)
form_of CsType-F.Int = subst Form (sym t.rolls-Int) int
form_of CsType-F.Bool = subst Form (sym t.rolls-Bool) bool
form_of CsType-F.Text = subst Form (sym t.rolls-Text) text
form_of (CsType-F.Rec name) = subst Form (sym (t.rolls-Rec name)) (record_of name)
form_of (CsType-F.List item) = subst Form (sym (t.rolls-List item)) (list item)
form_of (CsType-F.Callback argument) = subst Form (sym (t.rolls-Callback argument)) (callback argument)
form_of (CsType-F.Fragment argument) = subst Form (sym (t.rolls-Fragment argument)) (fragment argument)
form_of CsType-F.Change = subst Form (sym t.rolls-Change) change
form_of CsType-F.Args = subst Form (sym t.rolls-Args) args
form_of CsType-F.Nothing = subst Form (sym t.rolls-Nothing) nothing

pub form : (type : CsType) → Form type
form type = subst Form (roll-out-CsType type) (form_of (out-CsType type))

-- types that may be null
null_form : (type : CsType) → Form type → may_be_null type ≡ true → HasNull type
unfolding may_be_null
null_form type int e = absurd (cc)
null_form type bool e = absurd (cc)
null_form type text e = has.text
null_form type (record_of name) e = has.record_of name
null_form type (list item) e = has.list item
null_form type (callback argument) e = absurd (cc)
null_form type (fragment argument) e = has.fragment argument
null_form type change e = absurd (cc)
null_form type args e = absurd (cc)
null_form type nothing e = absurd (cc)

pub null_has : (type : CsType) → may_be_null type ≡ true → HasNull type
unfolding may_be_null
null_has type e = null_form type (form type) e

-- a callback that drops its argument
drops_level : (x y : CsType-F CsType) → drops_argument x y ≡ true → (argument : CsType) × (x ≡ CsType-F.Callback None) × (y ≡ CsType-F.Callback (Some argument))
unfolding drops_argument
drops_level (CsType-F.Callback None) (CsType-F.Callback (Some argument)) e = (argument, refl, refl)
drops_level _ _ e = absurd (cc)

pub drops : (given wanted : CsType) → drops_argument (out-CsType given) (out-CsType wanted) ≡ true → (argument : CsType) × (given ≡ t.Callback None) × (wanted ≡ t.Callback (Some argument))
unfolding drops_argument
drops given wanted e =
    let k = drops_level (out-CsType given) (out-CsType wanted) e in
    (k.0, sym (roll-out-CsType given) ∙ ap roll-CsType k.1 ∙ t.rolls-Callback None, sym (roll-out-CsType wanted) ∙ ap roll-CsType k.2 ∙ t.rolls-Callback (Some k.0))

-- of two tests one is passed
pub either_passes : (a b : Bool) → (a || b) ≡ true → (a ≡ true) ⊎ (b ≡ true)
either_passes true b e = inl refl
either_passes false b e = inr e

pub fits_code : (at : Surroundings) (locals : List CsType) (given wanted : CsType) (c : Code) → fits_type given wanted ≡ true → CodeHas at locals given c → CodeHas at locals wanted c
unfolding drops_argument fits_type
fits_code at locals given wanted c e h =
    elim (either_passes (same_type given wanted) (drops_argument (out-CsType given) (out-CsType wanted)) e) [
      | inl s ↦ subst (λ z. CodeHas at locals z c) (same_equal given wanted s) h
      | inr d ↦
          let k = drops given wanted d in
          subst (λ z. CodeHas at locals z c) (sym k.2) (code.wider_callback k.0 c (subst (λ z. CodeHas at locals z c) k.1 h))
    ]

pub fits_has : (at : Surroundings) (locals : List CsType) (given : ExprType) (wanted : CsType) (c : Code) → fits given wanted ≡ true → HasType at locals given c → CodeHas at locals wanted c
unfolding drops_argument fits fits_type may_be_null
fits_has at locals (Of given) wanted c e h = fits_code at locals given wanted c e h
fits_has at locals Null wanted c e h = h wanted (null_has wanted e)
fits_has at locals Markup wanted c e h = absurd (cc)

-- a type that is no callback fits itself alone
pub no_callback : (given wanted : CsType) → ((argument : CsType) → wanted ≡ t.Callback (Some argument) → ⊥) → fits_type given wanted ≡ true → given ≡ wanted
unfolding drops_argument fits_type
no_callback given wanted n e =
    elim (either_passes (same_type given wanted) (drops_argument (out-CsType given) (out-CsType wanted)) e) [
      | inl s ↦ same_equal given wanted s
      | inr d ↦ let k = drops given wanted d in absurd (n k.0 k.2)
    ]

pub exactly : (H : CsType → Type 0) (given : ExprType) (wanted : CsType) → ((argument : CsType) → wanted ≡ t.Callback (Some argument) → ⊥) → fits given wanted ≡ true → HasOf H given → H wanted
unfolding drops_argument fits fits_type may_be_null
exactly H (Of given) wanted n e h = subst H (no_callback given wanted n e) h
exactly H Null wanted n e h = h wanted (null_has wanted e)
exactly H Markup wanted n e h = absurd (cc)

pub int_alone : (argument : CsType) → t.Int ≡ t.Callback (Some argument) → ⊥
int_alone argument e = absurd (cc)

pub bool_alone : (argument : CsType) → t.Bool ≡ t.Callback (Some argument) → ⊥
bool_alone argument e = absurd (cc)

pub text_alone : (argument : CsType) → t.Text ≡ t.Callback (Some argument) → ⊥
text_alone argument e = absurd (cc)

-- what fits
pub wants_fine : (wanted : CsType) (place : Place) (given : ExprType) → IfFine (λ u. fits given wanted ≡ true) (wants wanted place given)
unfolding drops_argument fits fits_type may_be_null wants
wants_fine wanted place given = tested_fine (λ u. fits given wanted ≡ true) (fits given wanted) tt _ place (λ e. e)

pub fitting_fine : (at : Surroundings) (locals : List CsType) (wanted : CsType) (x : Checked) → ValueFits at locals x → IfFine (λ c. CodeHas at locals wanted c) (fitting wanted x)
unfolding drops_argument fits fits_type fitting may_be_null
fitting_fine at locals wanted x h = tested_fine (λ c. CodeHas at locals wanted c) (fits x.expr_type wanted) x.code _ x.place (λ e. fits_has at locals x.expr_type wanted x.code e h)

pub own_type_fine : (place : Place) (given : ExprType) → IfFine (λ type. given ≡ Of type) (own_type place given)
unfolding has_values own_type
own_type_fine place (Of given) = tested_fine (λ type. Of given ≡ Of type) (has_values given) given _ place (λ e. refl)
own_type_fine place Null = tt
own_type_fine place Markup = tt

-- the type of either of two values
pub common_has : (at : Surroundings) (locals : List CsType) (a b given : ExprType) → common_type a b ≡ Some given → ((c : Code) → HasType at locals a c → HasType at locals given c) × ((c : Code) → HasType at locals b c → HasType at locals given c)
unfolding common_type drops_argument fits_type may_be_null
common_has at locals (Of a) (Of b) given e = by (fits_type a b) refl (fits_type b a) refl e
  where
    by : (d : Bool) → fits_type a b ≡ d → (d' : Bool) → fits_type b a ≡ d' → (if d then Some (Of b) else (if d' then Some (Of a) else None)) ≡ Some given → ((c : Code) → CodeHas at locals a c → HasType at locals given c) × ((c : Code) → CodeHas at locals b c → HasType at locals given c)
    by true i d' i' m = let same : Of b ≡ given = cc in subst (λ z. ((c : Code) → CodeHas at locals a c → HasType at locals z c) × ((c : Code) → CodeHas at locals b c → HasType at locals z c)) same ((λ c h. fits_code at locals a b c i h), (λ c h. h))
    by false i true i' m = let same : Of a ≡ given = cc in subst (λ z. ((c : Code) → CodeHas at locals a c → HasType at locals z c) × ((c : Code) → CodeHas at locals b c → HasType at locals z c)) same ((λ c h. h), (λ c h. fits_code at locals b a c i' h))
    by false i false i' m = absurd (cc)
common_has at locals (Of a) Null given e = by (may_be_null a) refl e
  where
    by : (d : Bool) → may_be_null a ≡ d → (if d then Some (Of a) else None) ≡ Some given → ((c : Code) → CodeHas at locals a c → HasType at locals given c) × ((c : Code) → ((type : CsType) → HasNull type → CodeHas at locals type c) → HasType at locals given c)
    by true i m = let same : Of a ≡ given = cc in subst (λ z. ((c : Code) → CodeHas at locals a c → HasType at locals z c) × ((c : Code) → ((type : CsType) → HasNull type → CodeHas at locals type c) → HasType at locals z c)) same ((λ c h. h), (λ c h. h a (null_has a i)))
    by false i m = absurd (cc)
common_has at locals Null (Of b) given e = by (may_be_null b) refl e
  where
    by : (d : Bool) → may_be_null b ≡ d → (if d then Some (Of b) else None) ≡ Some given → ((c : Code) → ((type : CsType) → HasNull type → CodeHas at locals type c) → HasType at locals given c) × ((c : Code) → CodeHas at locals b c → HasType at locals given c)
    by true i m = let same : Of b ≡ given = cc in subst (λ z. ((c : Code) → ((type : CsType) → HasNull type → CodeHas at locals type c) → HasType at locals z c) × ((c : Code) → CodeHas at locals b c → HasType at locals z c)) same ((λ c h. h b (null_has b i)), (λ c h. h))
    by false i m = absurd (cc)
common_has at locals Null Null given e =
    let same : Null ≡ given = cc in
    subst (λ z. ((c : Code) → ((type : CsType) → HasNull type → CodeHas at locals type c) → HasType at locals z c) × ((c : Code) → ((type : CsType) → HasNull type → CodeHas at locals type c) → HasType at locals z c)) same ((λ c h. h), (λ c h. h))
common_has at locals (Of a) Markup given e = absurd (cc)
common_has at locals Null Markup given e = absurd (cc)
common_has at locals Markup b given e = absurd (cc)
