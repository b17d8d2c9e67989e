-- Attributes of a component's tag that break no rule give what fits the types of the component's parameters.
use Rattle.std.proofs.Common.{◌≡◌, ℕ, List, [], ◌∷◌, ◌++◌, refl, sym, ap, subst, ◌∙◌}
use Rattle.std.specs.Prelude.{Bool, true, false, not, ◌&&◌, if◌then◌else◌, Option, Some, None}
use Rattle.std.specs.List.{flat_map}
use Rattle.text_core.specs.declared.place.Place.{Place}
use Rattle.cs_ast.specs.declared.code.Code.{Code}
use Rattle.cs_ast.specs.declared.cs_type.CsType.{CsType, out-CsType, roll-CsType}
use Rattle.cs_ast.specs.declared.cs_type.CsType.TheOpen.{CsType-F}
use Rattle.cs_ast.specs.declared.cs_type.CsType.TheVariants as t
use Rattle.cs_ast.specs.declared.cs_type.CsType.TheViews.{roll-out-CsType}
use Rattle.cs_ast.specs.declared.expression.Expr.{Expr}
use Rattle.cs_rules.specs.declared.rule.Rule.TheVariants.{TypeMismatch, UnknownParameter, BadKey}
use Rattle.cs_rules.specs.Judged.{fine, breaks, known, ◌>>=◌}
use Rattle.cs_rules.specs.Types.{wants}
use Rattle.cs_rules.specs.Types.{fits as type_fits}
use Rattle.cs_accepted.proofs.TypeLemmas.{Form, form, fits_has}
use Rattle.cs_accepted.proofs.TypeLemmas as ty
use Rattle.cs_accepted.proofs.OperatorLemmas.{some_type}
use Rattle.cs_typing.specs.Expressions.{Surroundings, CodeHas}
use Rattle.cs_typing.specs.Types.{Types}
use Rattle.drawing_meaning.specs.Tags.{Gives, given_text, given_value, given_key}
use Rattle.razor_ast.specs.declared.attribute.Attribute.{Attribute}
use Rattle.razor_ast.specs.declared.attribute.AttributeKind.{AttributeKind}
use Rattle.razor_ast.specs.declared.attribute.AttributeKind.TheVariants as ak
use Rattle.razor_ast.specs.declared.attribute.Given.{Given}
use Rattle.razor_ast.specs.declared.attribute.Given.TheVariants as given
use Rattle.razor_rules.specs.declared.ground.Ground.{Ground}
use Rattle.razor_rules.specs.Findings.{found}
use Rattle.razor_rules.specs.Parameters.{Takes, taken, component, is_text, expression_of, literal_rules, given_rules, taken_rules, parameter_rules}
use Rattle.razor_rules.specs.Scopes.{Home}
use Rattle.razor_rules.specs.Tags.{attribute_rules}
use Rattle.razor_rules.specs.Values.{value, supplied, supplied_by_level, callback}
use Rattle.razor_rules.specs.Values as rule_value
use Rattle.page_meaning.specs.Resolved.{alone, value_code}
use Rattle.page_meaning.specs.Tags.{Target, supplied_code, expression_code, expression_gift, given_gift, takes_text, parameter_gift, attribute_gift, attribute_gifts}
use Rattle.page_typing.specs.Formed.{LambdaFormed}
use Rattle.page_typing.specs.Homes.{surroundings, HomeFits}
use Rattle.page_typing.specs.Resolving.{Resolved}
use Rattle.page_typing.specs.TemplateScopes.{TemplateScope}
use Rattle.page_typing.proofs.NarrowLambdas.{both_fine}
use Rattle.page_typing.proofs.ResolvedParts.{alone_resolved, one_resolved, after_judged, each_of_resolved, AllResolve}
use Rattle.page_typing.proofs.TemplateCallbacks.{callback_resolved}
use Rattle.page_typing.proofs.TemplateParts.{valued}
use Rattle.page_typing.proofs.TemplateValues.{found_nothing, no_first, no_second, test_passed, code_resolved}
use Rattle.program_typing.specs.Tags.{Parameters, GivesFit, TargetFits, AllFit, GivenFormed, KindFormed, AttributesFormed}
use Rattle.program_typing.specs.Tags as tags

-- the type of texts
text_is : (type : CsType) → Form type → is_text type ≡ true → type ≡ t.Text
text_is type ty.text e = refl
text_is type ty.int e = absurd (cc)
text_is type ty.bool e = absurd (cc)
text_is type (ty.record_of name) e = absurd (cc)
text_is type (ty.list item) e = absurd (cc)
text_is type (ty.callback argument) e = absurd (cc)
text_is type (ty.fragment argument) e = absurd (cc)
text_is type ty.change e = absurd (cc)
text_is type ty.args e = absurd (cc)
text_is type ty.nothing e = absurd (cc)

gives_append : (at : Surroundings) (locals : List CsType) (parameters : Parameters) (xs ys : List Gives) → GivesFit at locals parameters xs → GivesFit at locals parameters ys → GivesFit at locals parameters (xs ++ ys)
gives_append at locals parameters xs ys tags.none g = g
gives_append at locals parameters xs ys (tags.more one others h hs) g = tags.more one (others ++ ys) h (gives_append at locals parameters others ys hs g)

module _ (home : Home) (types : Types) (components : Bool) (fits : HomeFits types home) (g : Ground) (locals : List CsType) (scope : TemplateScope home g.scope locals) where
  abbrev at : Surroundings
  at = surroundings types home

  abbrev HasCode : CsType → Code → Type 0
  HasCode type code = CodeHas at locals type code

  -- an expression that has the type
  wanted_resolved : (type : CsType) (a : Expr) (u : Unit {0}) → (value g a >>= λ x. wants type x.place x.expr_type) ≡ fine u → Resolved types components (HasCode type) (value_code g.scope a)
  unfolding wants
  wanted_resolved type a u e =
      let one = both_fine (value g a) (λ x. wants type x.place x.expr_type) u e in
      let v = valued home types components fits g locals a one.0 scope one.1 in
      code_resolved types components at locals g.scope a one.0 (HasCode type) v (fits_has at locals one.0.expr_type type v.code (test_passed (type_fits one.0.expr_type type) TypeMismatch one.0.place u one.2) v.has)

  level_resolved : (l : CsType-F CsType) (number : ℕ) (type : CsType) (a : Expr) (u : Unit {0}) → roll-CsType l ≡ type → LambdaFormed a → supplied_by_level g l type a ≡ fine u → Resolved types components (HasCode type) (expression_code home g.scope number l a)
  level_resolved (CsType-F.Callback argument) number type a u is formed e =
      subst (λ z. Resolved types components (HasCode z) (expression_code home g.scope number (CsType-F.Callback argument) a)) (sym (t.rolls-Callback argument) ∙ is) (callback_resolved home types components fits g locals number a argument u scope formed e)
  level_resolved _ number type a u is formed e = wanted_resolved type a u e

  -- an expression for a parameter of a type
  supplied_resolved : (number : ℕ) (type : CsType) (a : Expr) (u : Unit {0}) → LambdaFormed a → supplied g type a ≡ fine u → Resolved types components (HasCode type) (supplied_code home g.scope number type a)
  unfolding supplied supplied_code
  supplied_resolved number type a u formed e = level_resolved (out-CsType type) number type a u (roll-out-CsType type) formed e

  module _ (takes : List Takes) (target : Target) (parameters : Parameters) (all_fit : AllFit takes target parameters) where
    abbrev Fit : List Gives → Type 0
    Fit all = GivesFit at locals parameters all

    one_fits : (one : Gives) → tags.GiveFits at locals parameters one → Fit (one ∷ [])
    one_fits one h = tags.more one [] h tags.none

    expression_resolved : (number place : ℕ) (type : CsType) (a : Expr) (u : Unit {0}) → parameters place ≡ Some type → LambdaFormed a → supplied g type a ≡ fine u → Resolved types components Fit (expression_gift home g.scope target number (place, type) a)
    expression_resolved number place type a u declared formed e =
        one_resolved types components (HasCode type) Fit (supplied_code home g.scope number type a) (λ code. given_value place code ∷ []) (supplied_resolved number type a u formed e)
        (λ code h. one_fits (given_value place code) (tags.value place type code declared h))

    text_resolved : (place : ℕ) (type : CsType) (said : List ℕ) → parameters place ≡ Some type → is_text type ≡ true → Resolved types components Fit (alone (given_text place said ∷ []))
    text_resolved place type said declared e =
        alone_resolved types components Fit (given_text place said ∷ []) (one_fits (given_text place said) (tags.text place said (declared ∙ ap (λ z. Some z) (text_is type (form type) e))))

    given_resolved : (number place : ℕ) (type : CsType) (at_place : Place) (it : Given) (u : Unit {0}) → parameters place ≡ Some type → GivenFormed it → given_rules g type at_place it ≡ fine u → Resolved types components Fit (given_gift home g.scope target number (place, type) (is_text type) it)
    given_resolved number place type at_place given.Nothing u declared formed e = by (is_text type) refl e
      where
        by : (b : Bool) → is_text type ≡ b → (if b then literal_rules (supplied g type) given.Nothing else expression_of at_place given.Nothing >>= supplied g type) ≡ fine u → Resolved types components Fit (alone (given_text place [] ∷ []))
        by true is e1 = text_resolved place type [] declared is
        by false is e1 = absurd (cc)
    given_resolved number place type at_place (given.Text text_place said None) u declared formed e = by (is_text type) refl e
      where
        by : (b : Bool) → is_text type ≡ b → (if b then literal_rules (supplied g type) (given.Text text_place said None) else expression_of at_place (given.Text text_place said None) >>= supplied g type) ≡ fine u → Resolved types components Fit (given_gift home g.scope target number (place, type) (is_text type) (given.Text text_place said None))
        by true is e1 = rw is (text_resolved place type said declared is)
        by false is e1 = absurd (cc)
    given_resolved number place type at_place (given.Text text_place said (Some a)) u declared formed e = by (is_text type) refl e
      where
        by : (b : Bool) → is_text type ≡ b → (if b then literal_rules (supplied g type) (given.Text text_place said (Some a)) else expression_of at_place (given.Text text_place said (Some a)) >>= supplied g type) ≡ fine u → Resolved types components Fit (given_gift home g.scope target number (place, type) (is_text type) (given.Text text_place said (Some a)))
        by true is e1 = rw is (text_resolved place type said declared is)
        by false is e1 = rw is (expression_resolved number place type a u declared (formed a refl) e1)
    given_resolved number place type at_place (given.Value a) u declared formed e = by (is_text type) e
      where
        by : (b : Bool) → (if b then literal_rules (supplied g type) (given.Value a) else expression_of at_place (given.Value a) >>= supplied g type) ≡ fine u → Resolved types components Fit (expression_gift home g.scope target number (place, type) a)
        by true e1 = expression_resolved number place type a u declared formed e1
        by false e1 = expression_resolved number place type a u declared formed e1

    parameter_resolved : (number : ℕ) (it : Given) (place : Place) (name : List ℕ) → GivenFormed it → parameter_rules g (component takes) name place it ≡ [] → Resolved types components Fit (parameter_gift home g.scope target number it place name)
    unfolding parameter_rules parameter_gift
    parameter_resolved number it place name formed e =
        let none = found_nothing (taken_rules g (taken takes name) place it) e in by (taken takes name) refl none.0 none.1
      where
        by : (o : Option Takes) → taken takes name ≡ o → (u : Unit {0}) → taken_rules g o place it ≡ fine u → Resolved types components Fit (parameter_gift home g.scope target number it place name)
        by None is u e1 = absurd (cc)
        by (Some one) is u e1 =
            let there = all_fit name one is in
            after_judged types components Fit (known UnknownParameter place (target.parameter name)) (there.place, one.cs_type) (λ z. given_gift home g.scope target number z (takes_text target name z.1) it) (ap (known UnknownParameter place) there.known)
            (subst (λ b. Resolved types components Fit (given_gift home g.scope target number (there.place, one.cs_type) (not b && is_text one.cs_type) it)) (sym there.stands)
            (given_resolved number there.place one.cs_type place it u there.declared formed (sym (ap (λ (b : Bool). if b then given_rules g one.cs_type place it else fine (tt {0})) there.is_type) ∙ e1)))

    key_resolved : (a : Expr) → found (rule_value.key g a) ≡ [] → Resolved types components Fit (attribute_gift home g.scope target (ak.Key a) (a.place) [])
    unfolding rule_value.key
    key_resolved a e =
        let none = found_nothing (rule_value.key g a) e in
        let one = both_fine (value g a) (λ x. if rule_value.is_key g.scope.records x.expr_type then fine (tt {0}) else breaks BadKey x.place) none.0 none.1 in
        let v = valued home types components fits g locals a one.0 scope one.1 in
        let some = some_type (λ type. HasCode type v.code) one.0.expr_type v.has in
        one_resolved types components (HasCode some.0) Fit (value_code g.scope a) (λ code. given_key code ∷ []) (code_resolved types components at locals g.scope a one.0 (HasCode some.0) v some.1) (λ code h. one_fits (given_key code) (tags.key some.0 code h))

    attribute_resolved : (one : Attribute) (kind : AttributeKind) → KindFormed kind → attribute_rules (component takes) g one kind ≡ [] → Resolved types components Fit (attribute_gift home g.scope target kind one.place one.name)
    attribute_resolved one (ak.Parameter number it) formed e = parameter_resolved number it one.place one.name formed e
    attribute_resolved one (ak.Key a) formed e = key_resolved a e
    attribute_resolved one (ak.Mixed number value) formed e = alone_resolved types components Fit [] tags.none
    attribute_resolved one (ak.Event number a) formed e = alone_resolved types components Fit [] tags.none
    attribute_resolved one (ak.Bind number field) formed e = alone_resolved types components Fit [] tags.none
    attribute_resolved one ak.BindEvent formed e = alone_resolved types components Fit [] tags.none
    attribute_resolved one (ak.Context number name) formed e = alone_resolved types components Fit [] tags.none

    all_resolve : (all : List Attribute) → AttributesFormed all → flat_map (λ (one : Attribute). attribute_rules (component takes) g one one.kind) all ≡ [] → AllResolve types components Fit (λ (one : Attribute). attribute_gift home g.scope target one.kind one.place one.name) all
    all_resolve [] formed e = tt
    all_resolve (one ∷ others) formed e =
        (attribute_resolved one one.kind formed.0 (no_first (attribute_rules (component takes) g one one.kind) _ e), all_resolve others formed.1 (no_second (attribute_rules (component takes) g one one.kind) _ e))

    pub gifts_resolved : (attributes : List Attribute) → AttributesFormed attributes → flat_map (λ (one : Attribute). attribute_rules (component takes) g one one.kind) attributes ≡ [] → Resolved types components Fit (attribute_gifts home g.scope target attributes)
    gifts_resolved attributes formed e =
        each_of_resolved types components Fit (λ (one : Attribute). attribute_gift home g.scope target one.kind one.place one.name) tags.none (gives_append at locals parameters) attributes (all_resolve attributes formed e)
