-- Attributes of elements that break no rule come to attributes with types.
use Rattle.std.proofs.Common.{◌≡◌, ℕ, List, [], ◌∷◌, ◌++◌, refl, sym, ap, subst}
use Rattle.std.specs.List.{list_any}
use Rattle.std.specs.Prelude.{Bool, true, false, codes, ◌+◌, if◌then◌else◌, option_map, Option, Some, None}
use Rattle.std.specs.List.{flat_map}
use Rattle.text_core.specs.declared.place.Place.{Place}
use Rattle.cs_ast.specs.declared.code.Code.TheVariants as c
use Rattle.cs_ast.specs.declared.cs_type.CsType.{CsType}
use Rattle.cs_ast.specs.declared.cs_type.CsType.TheVariants as t
use Rattle.cs_ast.specs.declared.expression.Expr.{Expr}
use Rattle.cs_ast.specs.declared.identifier.Ident.{Ident}
use Rattle.cs_rules.specs.declared.checked.Checked.{Checked}
use Rattle.cs_rules.specs.declared.rule.Rule.{Rule}
use Rattle.cs_rules.specs.declared.rule.Rule.TheVariants.{BadBind, BadKey, TypeMismatch}
use Rattle.cs_rules.specs.Judged.{fine, breaks, known}
use Rattle.cs_rules.specs.Operators.{is_shown, shown}
use Rattle.cs_typing.specs.Types.{Types}
use Rattle.cs_typing.specs.Operators.{Shows, Binds}
use Rattle.cs_typing.specs.Operators as op
use Rattle.cs_typing.specs.Expressions.{Surroundings, CodeHas}
use Rattle.cs_typing.specs.Expressions as code
use Rattle.cs_typing.specs.Bodies as has_body
use Rattle.cs_accepted.proofs.OperatorLemmas.{shown_has, some_type}
use Rattle.cs_accepted.proofs.TypeLemmas.{Form, form}
use Rattle.cs_accepted.proofs.TypeLemmas as ty
use Rattle.drawing_meaning.specs.Attributes as act
use Rattle.drawing_meaning.specs.Attributes.{Dresses, wears, keyed_by}
use Rattle.drawing_meaning.specs.Texts.{literal, shown_code}
use Rattle.razor_ast.specs.declared.attribute.Attribute.{Attribute}
use Rattle.razor_ast.specs.declared.attribute.AttributeKind.{AttributeKind}
use Rattle.razor_ast.specs.declared.attribute.ValuePart.{ValuePart}
use Rattle.razor_ast.specs.declared.attribute.ValuePart.TheVariants as part
use Rattle.razor_rules.specs.Findings.{found, broken_unless}
use Rattle.razor_ast.specs.Attributes.{is_bind_event}
use Rattle.razor_rules.specs.Elements.{own_field, field_type, is_bindable, bound_attribute, bound_event, event_type, part_rules, attribute_rules, element_rules, names}
use Rattle.razor_rules.specs.Names.{repeated}
use Rattle.razor_rules.specs.Scopes.{Home}
use Rattle.razor_rules.specs.declared.ground.Ground.{Ground}
use Rattle.razor_rules.specs.Values as rule
use Rattle.razor_rules.specs.Values.{value, shown_value, is_key}
use Rattle.page_meaning.specs.Attributes.{bind_kind, said_by, mixed, event, bound_to, bound, key, attribute, dressed}
use Rattle.page_meaning.specs.Callbacks as page
use Rattle.page_meaning.specs.Placed.{signature, body}
use Rattle.page_meaning.specs.Resolved.{alone, judged, put, each, value_code, place_at}
use Rattle.page_meaning.specs.Resolved.{◌>>=◌ as ◌>>>=◌}
use Rattle.page_typing.specs.Acts.{SaysHave, DressHas, DressesHave}
use Rattle.page_typing.specs.Acts as acts
use Rattle.page_typing.specs.Drawings.{event_argument}
use Rattle.page_typing.specs.Formed.{LambdaFormed, KindFormed, AttributesFormed}
use Rattle.page_typing.specs.Formed as formed
use Rattle.page_typing.specs.Homes.{surroundings, HomeFits}
use Rattle.page_typing.specs.Resolving.{Resolved}
use Rattle.page_typing.specs.TemplateScopes.{TemplateScope}
use Rattle.page_typing.proofs.Capturing.{template_fits}
use Rattle.page_typing.proofs.NarrowLambdas.{both_fine}
use Rattle.page_typing.proofs.ResolvedParts.{alone_resolved, one_resolved, two_resolved, put_resolved, AllResolve, each_of_resolved}
use Rattle.page_typing.proofs.TemplateValues.{ValueAt, value_at, code_resolved, test_passed, found_nothing, no_first, no_second}
use Rattle.page_typing.proofs.TemplateCallbacks.{callback_resolved}

-- lists of attributes
one_dress : (at : Surroundings) (locals : List CsType) (one : Dresses) → DressHas at locals one → DressesHave at locals (one ∷ [])
one_dress at locals one h = acts.more one [] h acts.none

dresses_append : (at : Surroundings) (locals : List CsType) (xs ys : List Dresses) → DressesHave at locals xs → DressesHave at locals ys → DressesHave at locals (xs ++ ys)
dresses_append at locals xs ys acts.none g = g
dresses_append at locals xs ys (acts.more one others h hs) g = acts.more one (others ++ ys) h (dresses_append at locals others ys hs g)

-- the types of fields that are bound
bindable : (type : CsType) → Form type → is_bindable (Some type) ≡ true → Binds (bind_kind type) type × Shows type
bindable type ty.int e = (op.int, op.int)
bindable type ty.bool e = (op.bool, op.bool)
bindable type ty.text e = (op.text, op.text)
bindable type (ty.record_of name) e = absurd (cc)
bindable type (ty.list item) e = absurd (cc)
bindable type (ty.callback argument) e = absurd (cc)
bindable type (ty.fragment argument) e = absurd (cc)
bindable type ty.change e = absurd (cc)
bindable type ty.args e = absurd (cc)
bindable type ty.nothing e = absurd (cc)

-- the event of a bound field hands over a change
bound_change : (attributes : List Attribute) → event_argument (bound_event attributes) ≡ t.Change
unfolding bound_event event_type
bound_change attributes = by (list_any (λ (one : Attribute). is_bind_event one.kind) attributes)
  where
    by : (b : Bool) → event_argument (if b then codes "oninput" else codes "onchange") ≡ t.Change
    by true = refl
    by false = refl

unless_holds : (b : Bool) (rule : Rule) (place : Place) → broken_unless b rule place ≡ [] → b ≡ true
unless_holds true rule place e = refl
unless_holds false rule place e = absurd (cc)

module _ (home : Home) (types : Types) (components : Bool) (fits : HomeFits types home) (g : Ground) (locals : List CsType) (scope : TemplateScope home g.scope locals) (element : List ℕ) (attributes : List Attribute) where
  abbrev at : Surroundings
  at = surroundings types home

  valued : (a : Expr) (x : Checked) → value g a ≡ fine x → ValueAt at locals g.scope a x
  valued a x e = value_at at locals g.scope g.forbidden a x (template_fits home (λ deed. false) at g.scope locals fits.members scope) e

  -- an expression that is shown as a text
  pub record ShownCode (a : Expr) : Type 0 where
    pub x : Checked
    pub valued_so : ValueAt at locals g.scope a x
    pub type : CsType
    pub shows : Shows type
    pub has : CodeHas at locals type valued_so.code

  shown_fits : (a : Expr) → found (shown_value g a) ≡ [] → ShownCode a
  unfolding shown_value shown
  shown_fits a e =
      let none = found_nothing (shown_value g a) e in
      let one = both_fine (value g a) (λ x. shown x.place x.expr_type) none.0 none.1 in
      let v = valued a one.0 one.1 in
      let s = shown_has (λ type. CodeHas at locals type v.code) one.0.expr_type (test_passed (is_shown one.0.expr_type) TypeMismatch one.0.place none.0 one.2) v.has in
      record { x = one.0; valued_so = v; type = s.as_type; shows = s.shows; has = s.has_it }

  parts_resolved : (parts : List ValuePart) → flat_map (part_rules home element attributes g) parts ≡ [] → Resolved types components (λ said. SaysHave at locals said) (each (said_by home g.scope element attributes) parts)
  parts_resolved [] e = alone_resolved types components (λ said. SaysHave at locals said) [] acts.none
  parts_resolved (part.Literal text ∷ others) e =
      two_resolved types components (λ s. s ≡ literal text) (λ said. SaysHave at locals said) (λ said. SaysHave at locals said) (alone (literal text)) (each (said_by home g.scope element attributes) others) (λ y ys. y ∷ ys)
      (alone_resolved types components (λ s. s ≡ literal text) (literal text) refl) (parts_resolved others e) (λ y ys p q. subst (λ z. SaysHave at locals (z ∷ ys)) (sym p) (acts.literal_text text ys q))
  parts_resolved (part.Shown a ∷ others) e =
      let s = shown_fits a (no_first (found (shown_value g a)) (flat_map (part_rules home element attributes g) others) e) in
      two_resolved types components (λ y. y ≡ shown_code s.valued_so.code) (λ said. SaysHave at locals said) (λ said. SaysHave at locals said) (value_code g.scope a >>>= λ code. alone (shown_code code)) (each (said_by home g.scope element attributes) others) (λ y ys. y ∷ ys)
      (one_resolved types components (λ z. z ≡ s.valued_so.code) (λ y. y ≡ shown_code s.valued_so.code) (value_code g.scope a) (λ code. shown_code code) (code_resolved types components at locals g.scope a s.x (λ z. z ≡ s.valued_so.code) s.valued_so refl) (λ z p. ap shown_code p))
      (parts_resolved others (no_second (found (shown_value g a)) (flat_map (part_rules home element attributes g) others) e))
      (λ y ys p q. subst (λ z. SaysHave at locals (z ∷ ys)) (sym p) (acts.shown s.type s.valued_so.code ys s.shows s.has q))

  abbrev Dressed : List Dresses → Type 0
  Dressed all = DressesHave at locals all

  -- several parts
  many_resolved : (number : ℕ) (name : List ℕ) (parts : List ValuePart) → flat_map (part_rules home element attributes g) parts ≡ []
      → Resolved types components Dressed (each (said_by home g.scope element attributes) parts >>>= λ said. alone (wears (act.mixed number name said) ∷ []))
  many_resolved number name parts e =
      one_resolved types components (λ said. SaysHave at locals said) Dressed (each (said_by home g.scope element attributes) parts) (λ said. wears (act.mixed number name said) ∷ []) (parts_resolved parts e) (λ said h. one_dress at locals (wears (act.mixed number name said)) (acts.mixed number name said h))

  mixed_resolved : (number : ℕ) (name : List ℕ) (parts : List ValuePart) → flat_map (part_rules home element attributes g) parts ≡ [] → Resolved types components Dressed (mixed home g.scope element attributes number name parts)
  unfolding mixed
  mixed_resolved number name [] e = alone_resolved types components Dressed (wears (act.empty number name) ∷ []) (one_dress at locals (wears (act.empty number name)) (acts.empty number name))
  mixed_resolved number name (part.Shown a ∷ []) e =
      let s = shown_fits a (no_first (found (shown_value g a)) [] e) in
      one_resolved types components (λ z. CodeHas at locals s.type z) Dressed (value_code g.scope a) (λ code. wears (act.whole number name code) ∷ []) (code_resolved types components at locals g.scope a s.x (λ z. CodeHas at locals s.type z) s.valued_so s.has)
      (λ z h. one_dress at locals (wears (act.whole number name z)) (acts.whole number name s.type z s.shows h))
  mixed_resolved number name (part.Shown a ∷ other ∷ others) e = many_resolved number name (part.Shown a ∷ other ∷ others) e
  mixed_resolved number name (part.Literal text ∷ others) e = many_resolved number name (part.Literal text ∷ others) e

  key_resolved : (a : Expr) → found (rule.key g a) ≡ [] → Resolved types components Dressed (key home g.scope element attributes a)
  unfolding rule.key key
  key_resolved a e =
      let none = found_nothing (rule.key g a) e in
      let one = both_fine (value g a) (λ x. if is_key g.scope.records x.expr_type then fine (tt {0}) else breaks BadKey x.place) none.0 none.1 in
      let v = valued a one.0 one.1 in
      let some = some_type (λ type. CodeHas at locals type v.code) one.0.expr_type v.has in
      one_resolved types components (λ z. CodeHas at locals some.0 z) Dressed (value_code g.scope a) (λ code. keyed_by code ∷ []) (code_resolved types components at locals g.scope a one.0 (λ z. CodeHas at locals some.0 z) v some.1) (λ z h. one_dress at locals (keyed_by z) (acts.key some.0 z h))

  event_resolved : (number : ℕ) (name : List ℕ) (a : Expr) → LambdaFormed a → found (rule.callback g a (Some (event_argument name))) ≡ [] → Resolved types components Dressed (event home g.scope element attributes number (64 ∷ name) a)
  unfolding event
  event_resolved number name a lambdas e =
      let none = found_nothing (rule.callback g a (Some (event_argument name))) e in
      one_resolved types components (λ z. CodeHas at locals (t.Callback (Some (event_argument name))) z) Dressed (page.callback home g.scope number a (Some (event_argument name))) (λ code. wears (act.event number name code) ∷ [])
      (callback_resolved home types components fits g locals number a (Some (event_argument name)) none.0 scope lambdas none.1)
      (λ z h. one_dress at locals (wears (act.event number name z)) (acts.event number name z h))

  bound_resolved : (number : ℕ) (field : Ident) → is_bindable (field_type home.members field.name) ≡ true → Resolved types components Dressed (bound home g.scope element attributes number field)
  unfolding bound
  bound_resolved number field e = by (own_field home.members field.name) refl e
    where
      by : (o : Option (ℕ × CsType)) → own_field home.members field.name ≡ o → is_bindable (option_map (λ (it : ℕ × CsType). it.1) o) ≡ true → Resolved types components Dressed (judged (known BadBind field.place o) >>>= bound_to home g.scope element attributes number)
      by None is e1 = absurd (cc)
      by (Some it) is e1 =
          let kinds = bindable it.1 (form it.1) e1 in
          let there = fits.fields field.name it is in
          one_resolved types components (λ u. types.bodies (place_at home (number + 1)) ≡ Some (signature home (t.Change ∷ []) t.Nothing)) Dressed (put (place_at home (number + 1)) (body (signature home (t.Change ∷ []) t.Nothing) (c.Bind it.0 (bind_kind it.1))))
          (λ placed. wears (act.whole number (bound_attribute element attributes (Some it.1)) (c.Field it.0)) ∷ wears (act.own_handler (number + 1) (bound_event attributes) (place_at home (number + 1))) ∷ [])
          (put_resolved types components (place_at home (number + 1)) (body (signature home (t.Change ∷ []) t.Nothing) (c.Bind it.0 (bind_kind it.1))) (has_body.expression (c.Bind it.0 (bind_kind it.1)) (code.bind (bind_kind it.1) it.0 it.1 refl there kinds.0)))
          (λ u k. acts.more _ _ (acts.whole number (bound_attribute element attributes (Some it.1)) it.1 (c.Field it.0) kinds.1 (code.field it.1 it.0 there)) (one_dress at locals _ (acts.own_handler (number + 1) (bound_event attributes) (place_at home (number + 1)) (signature home (t.Change ∷ []) t.Nothing) k refl refl (bound_change attributes))))

  kind_resolved : (n m : ℕ) (kind : AttributeKind) (name : List ℕ) → KindFormed n m name kind → attribute_rules home element attributes g kind name ≡ [] → Resolved types components Dressed (attribute home g.scope element attributes kind name)
  unfolding attribute_rules
  kind_resolved n m kind name (formed.mixed _ _ parts) e = mixed_resolved n name parts e
  kind_resolved n m kind name (formed.key _ _ a) e = key_resolved a e
  kind_resolved n m kind name (formed.event _ rest a lambdas) e = event_resolved n rest a lambdas e
  kind_resolved n m kind name (formed.bound _ _ field) e = bound_resolved n field (unless_holds (is_bindable (field_type home.members field.name)) BadBind field.place e)
  kind_resolved n m kind name (formed.bind_event _ _) e = alone_resolved types components Dressed [] acts.none

  all_resolve : (n m : ℕ) (all : List Attribute) → AttributesFormed n m all → flat_map (λ (one : Attribute). attribute_rules home element attributes g one.kind one.name) all ≡ [] → AllResolve types components Dressed (λ (one : Attribute). attribute home g.scope element attributes one.kind one.name) all
  all_resolve n m all (formed.no_attribute _) e = tt
  all_resolve n m all (formed.an_attribute _ i _ one others h hs) e =
      (kind_resolved n i one.kind one.name h (no_first (attribute_rules home element attributes g one.kind one.name) _ e), all_resolve i m others hs (no_second (attribute_rules home element attributes g one.kind one.name) _ e))

  -- the attributes of an element
  pub dressed_resolved : (n m : ℕ) → AttributesFormed n m attributes → element_rules home element attributes g ≡ [] → Resolved types components Dressed (dressed home g.scope element attributes)
  unfolding element_rules
  dressed_resolved n m h e =
      each_of_resolved types components Dressed (λ (one : Attribute). attribute home g.scope element attributes one.kind one.name) acts.none (dresses_append at locals) attributes
      (all_resolve n m attributes h (no_second (repeated _ [] (names home element attributes)) (flat_map (λ (one : Attribute). attribute_rules home element attributes g one.kind one.name) attributes) e))
