-- Initial values of fields have the fields' types, and evaluating them is never stuck.
use Rattle.std.proofs.Common.{◌≡◌, ℕ, pos, List, [], ◌∷◌, refl, sym, ap, subst, ◌∙◌}
use Rattle.std.specs.Prelude.{Bool, false, Option, Some, None}
use Rattle.std.specs.List.{flat_map}
use Rattle.text_core.specs.declared.place.Place.{Place}
use Rattle.cs_ast.specs.declared.cs_type.CsType.{CsType}
use Rattle.cs_ast.specs.declared.cs_type.CsType.TheVariants as t
use Rattle.cs_ast.specs.declared.cs_type.TypeExpr.{TypeExpr}
use Rattle.cs_ast.specs.declared.cs_type.TypeKind.{TypeKind, TypeKind-F, out-TypeKind}
use Rattle.cs_ast.specs.declared.cs_type.TypeKind.TheVariants as tk
use Rattle.cs_ast.specs.declared.cs_type.TypeKind.TheViews.{roll-TypeKind, roll-out-TypeKind}
use Rattle.cs_ast.specs.declared.expression.Expr.{Expr}
use Rattle.cs_ast.specs.declared.member.Member.{Member}
use Rattle.cs_ast.specs.declared.member.MemberKind.{MemberKind}
use Rattle.cs_ast.specs.declared.member.MemberKind.TheVariants.{Field, Parameter, Method, Getter, RecordDef}
use Rattle.cs_ast.specs.declared.value.Value.{Value}
use Rattle.cs_meaning.specs.State.{State, state}
use Rattle.cs_meaning.specs.Outcome.{gives, and_then}
use Rattle.cs_meaning.specs.Meaning.{Setting, meaning}
use Rattle.cs_rules.specs.declared.rule.Rule.TheVariants.{UnknownType}
use Rattle.cs_rules.specs.Judged.{fine, breaks, ◌>>=◌}
use Rattle.cs_rules.specs.Names.{meant}
use Rattle.cs_rules.specs.Trees.{value_in}
use Rattle.cs_rules.specs.Types.{fitting}
use Rattle.cs_rules.specs.Written.{type_of, unknown_in, known_type, written, Declared, record_named}
use Rattle.cs_rules.proofs.WrittenLaws as law
use Rattle.cs_forbidden.specs.Roots.{nothing}
use Rattle.cs_forbidden.specs.Trees as forbidding
use Rattle.cs_typing.specs.Types.{RecordType, Types}
use Rattle.cs_typing.specs.Values.{ValueHas, ValuesHave, ItemsHave}
use Rattle.cs_typing.specs.Values as has
use Rattle.cs_typing.specs.Expressions.{Surroundings}
use Rattle.cs_typing.specs.States as states
use Rattle.cs_typing.specs.States.{StateHas}
use Rattle.cs_typing.specs.Outcomes.{Fits, no_jump}
use Rattle.cs_typing.specs.Settings.{SettingHas}
use Rattle.cs_typing.proofs.BodySoundness.{expression_sound}
use Rattle.cs_typing.proofs.Fitting.{then_fits}
use Rattle.cs_accepted.specs.Scopes.{ScopeFits, record_type}
use Rattle.cs_accepted.proofs.ExpressionLaws.{expression_fits}
use Rattle.cs_accepted.proofs.TypeLemmas.{fits_has}
use Rattle.razor_rules.specs.Findings.{found, found_then}
use Rattle.razor_rules.specs.Declarations.{initial_rules, member_rules}
use Rattle.razor_rules.specs.Scopes.{Home, initial_scope}
use Rattle.page_meaning.specs.Initial.{default_of, no_fields, if_fine, initial_value, with_field_value, field_values}
use Rattle.page_meaning.specs.ProgramTypes.{field_of}
use Rattle.page_typing.proofs.Drawing.{body_typed}
use Rattle.page_typing.proofs.NarrowLambdas.{both_fine, same_value_in}
use Rattle.page_typing.proofs.TemplateParts.{found_then_nothing, fitted}
use Rattle.page_typing.proofs.TemplateValues.{found_nothing, no_first, no_second}

-- the types of code that names nothing, among these records and instances
abbrev pub bare_types : (List ℕ → Option RecordType) → (ℕ → Option ℕ) → Types
bare_types records instances = record { records = records; fields = λ component number. None; parameters = λ component number. None; bodies = λ number. None; templates = λ number. None; instances = instances }

-- a type that is none is not written
no_type : (place : Place) (records : List Member) (w : TypeExpr) (given : CsType) → unknown_in records w ≡ Some place → written records w ≡ fine given → ⊥
unfolding written
no_type place records w given u e = let k : breaks UnknownType place ≡ fine given = sym (ap (λ o. known_type o (type_of w)) u) ∙ e in absurd (cc)

-- what is written is the type
written_is : (records : List Member) (w : TypeExpr) (given : CsType) → written records w ≡ fine given → type_of w ≡ given
unfolding written
written_is records w given e = by (unknown_in records w) e
  where
    by : (o : Option Place) → known_type o (type_of w) ≡ fine given → type_of w ≡ given
    by None e1 = cc
    by (Some place) e1 = absurd (cc)

-- without an initial value a field is 0, false or null
kind_default : (types : Types) (records : List Member) (w : TypeExpr) (given : CsType) (l : TypeKind-F TypeKind TypeExpr) → w.kind ≡ roll-TypeKind l → written records w ≡ fine given → ValueHas types (type_of w) (default_of (type_of w))
unfolding written
kind_default types records w given TypeKind-F.Int is e = subst (λ z. ValueHas types z (default_of z)) (sym (law.type_int w (is ∙ tk.rolls-Int))) (has.int (pos 0))
kind_default types records w given TypeKind-F.Bool is e = subst (λ z. ValueHas types z (default_of z)) (sym (law.type_bool w (is ∙ tk.rolls-Bool))) (has.bool false)
kind_default types records w given TypeKind-F.Text is e = subst (λ z. ValueHas types z (default_of z)) (sym (law.type_text w (is ∙ tk.rolls-Text))) (has.null t.Text has.text)
kind_default types records w given (TypeKind-F.Named name) is e = subst (λ z. ValueHas types z (default_of z)) (sym (law.type_named w name (is ∙ tk.rolls-Named name))) (has.null (t.Rec name) (has.record_of name))
kind_default types records w given (TypeKind-F.List item) is e = subst (λ z. ValueHas types z (default_of z)) (sym (law.type_list w item (is ∙ tk.rolls-List item))) (has.null (t.List (type_of item)) (has.list (type_of item)))
kind_default types records w given (TypeKind-F.Callback None) is e = absurd (no_type w.place records w given (law.unknown_callback records w None (is ∙ tk.rolls-Callback None)) e)
kind_default types records w given (TypeKind-F.Callback (Some a)) is e = absurd (no_type w.place records w given (law.unknown_callback records w (Some a) (is ∙ tk.rolls-Callback (Some a))) e)
kind_default types records w given (TypeKind-F.Fragment None) is e = absurd (no_type w.place records w given (law.unknown_fragment records w None (is ∙ tk.rolls-Fragment None)) e)
kind_default types records w given (TypeKind-F.Fragment (Some a)) is e = absurd (no_type w.place records w given (law.unknown_fragment records w (Some a) (is ∙ tk.rolls-Fragment (Some a))) e)
kind_default types records w given TypeKind-F.Change is e = absurd (no_type w.place records w given (law.unknown_change records w (is ∙ tk.rolls-Change)) e)
kind_default types records w given TypeKind-F.Args is e = absurd (no_type w.place records w given (law.unknown_args records w (is ∙ tk.rolls-Args)) e)

default_has : (types : Types) (records : List Member) (w : TypeExpr) (given : CsType) → written records w ≡ fine given → ValueHas types (type_of w) (default_of (type_of w))
default_has types records w given e = kind_default types records w given (out-TypeKind w.kind) (sym (roll-out-TypeKind w.kind)) e

-- what is given initial values: an instance among these records, without bodies
module _ (home : Home) (records : List ℕ → Option RecordType) (instances : ℕ → Option ℕ) (around : Setting) (component : ℕ)
    (known : (name : List ℕ) (it : Declared) → record_named home.records name ≡ Some it → records name ≡ Some (record_type it))
    (stands : SettingHas (record { types = bare_types records instances; component = component }) around) where
  abbrev types : Types
  types = bare_types records instances

  abbrev at : Surroundings
  at = record { types = types; component = component }

  -- no name means anything there
  scope_fits : ScopeFits at [] (initial_scope home)
  unfolding meant
  scope_fits = record { names = λ name one e. absurd (cc); count = refl; records = known }

  abbrev Initial : CsType → Value → State → Type 0
  Initial type x s = ValueHas types type x × StateHas types [] s

  value_fits : (type : CsType) (a : Expr) (s : State) → found (forbidding.value_in nothing (initial_scope home) a >>= λ x. fitting type x) ≡ [] → StateHas types [] s → Fits (no_jump types) (Initial type) (if_fine around (value_in (initial_scope home) a) s)
  value_fits type a s e h =
      let none = found_nothing (forbidding.value_in nothing (initial_scope home) a >>= λ x. fitting type x) e in
      let one = both_fine (forbidding.value_in nothing (initial_scope home) a) (λ x. fitting type x) none.0 none.1 in
      let ruled : value_in (initial_scope home) a ≡ fine one.0 = sym (same_value_in (initial_scope home) a) ∙ one.1 in
      subst (λ j. Fits (no_jump types) (Initial type) (if_fine around j s)) (sym ruled)
      (body_typed types (Initial type) (meaning around one.0.code (state [] no_fields [] s.left))
      (expression_sound at around [] type one.0.code (state [] no_fields [] s.left) stands (fits_has at [] one.0.expr_type type one.0.code (fitted type one.0 none.0 one.2) (expression_fits a (initial_scope home) one.0 at [] ruled scope_fits))
      (has.none, (λ who position number other there declared. absurd (cc), states.none))).1)

  module _ (invoking : List ℕ) (circular : List ℕ → Bool) where
    initial_fits : (w : TypeExpr) (initial : Option Expr) (s : State) → found_then (written home.records w) (initial_rules home invoking circular initial) ≡ [] → StateHas types [] s → Fits (no_jump types) (Initial (type_of w)) (initial_value home around (type_of w) initial s)
    initial_fits w None s e h = let k = found_then_nothing (written home.records w) (initial_rules home invoking circular None) e in (default_has types home.records w k.0 k.1, h)
    initial_fits w (Some a) s e h =
        let k = found_then_nothing (written home.records w) (initial_rules home invoking circular (Some a)) e in
        value_fits (type_of w) a s (subst (λ z. found (forbidding.value_in nothing (initial_scope home) a >>= λ x. fitting z x) ≡ []) (sym (written_is home.records w k.0 k.1)) k.2) h

    abbrev Values : List Member → List Value → State → Type 0
    Values members xs s = ValuesHave types (flat_map (λ (one : Member). field_of one.kind) members) xs × StateHas types [] s

    member_fits : (m : MemberKind) (place : Place) (others : List Member) (s : State) → member_rules home invoking circular m ≡ [] → StateHas types [] s → ((s1 : State) → StateHas types [] s1 → Fits (no_jump types) (Values others) (field_values home around others s1)) → Fits (no_jump types) (Values (record { place = place; kind = m } ∷ others)) (with_field_value home around m (field_values home around others) s)
    unfolding member_rules
    member_fits (Field w name initial) place others s e h further =
        then_fits (no_jump types) (Initial (type_of w)) (Values (record { place = place; kind = Field w name initial } ∷ others)) (initial_value home around (type_of w) initial s) (λ x s1. and_then (field_values home around others s1) (λ xs s2. gives (x ∷ xs) s2)) (initial_fits w initial s e h)
        (λ x s1 k. then_fits (no_jump types) (Values others) (Values (record { place = place; kind = Field w name initial } ∷ others)) (field_values home around others s1) (λ xs s2. gives (x ∷ xs) s2) (further s1 k.1)
        (λ xs s2 m. (has.more (type_of w) _ x xs k.0 m.0, m.1)))
    member_fits (Parameter cascading source w name initial) place others s e h further = further s h
    member_fits (Method result name arguments of) place others s e h further = further s h
    member_fits (Getter result name value) place others s e h further = further s h
    member_fits (RecordDef name parts) place others s e h further = further s h

    pub fields_fit : (members : List Member) (s : State) → flat_map (λ (one : Member). member_rules home invoking circular one.kind) members ≡ [] → StateHas types [] s → Fits (no_jump types) (Values members) (field_values home around members s)
    fields_fit [] s e h = (has.none, h)
    fields_fit (one ∷ others) s e h = member_fits one.kind one.place others s (no_first (member_rules home invoking circular one.kind) _ e) h (λ s1 h1. fields_fit others s1 (no_second (member_rules home invoking circular one.kind) _ e) h1)

-- values of such types keep them among further bodies and templates
module _ (records : List ℕ → Option RecordType) (instances : ℕ → Option ℕ) (types : Types) (same_records : (name : List ℕ) → types.records name ≡ records name) where
  mutual
    value_more : (type : CsType) (x : Value) → ValueHas (bare_types records instances) type x → ValueHas types type x
    value_more type x (has.int n) = has.int n
    value_more type x (has.bool b) = has.bool b
    value_more type x (has.text y) = has.text y
    value_more type x (has.null _ h) = has.null type h
    value_more type x (has.record_of name r parts h hs) = has.record_of name r parts (same_records name ∙ h) (values_more r.parts parts hs)
    value_more type x (has.list item items hs) = has.list item items (items_more item items hs)
    value_more type x (has.callback argument last captured body who place captures h1 h2 h3 h4 h5) = absurd (cc)
    value_more type x (has.fragment argument captured template who place captures h1 h2 h3 h4) = absurd (cc)
    value_more type x (has.change y) = has.change y
    value_more type x (has.anything y) = has.anything y

    pub values_more : (ts : List CsType) (xs : List Value) → ValuesHave (bare_types records instances) ts xs → ValuesHave types ts xs
    values_more ts xs has.none = has.none
    values_more ts xs (has.more type others x rest h hs) = has.more type others x rest (value_more type x h) (values_more others rest hs)

    items_more : (type : CsType) (xs : List Value) → ItemsHave (bare_types records instances) type xs → ItemsHave types type xs
    items_more type xs (has.no_item _) = has.no_item type
    items_more type xs (has.item _ x rest h hs) = has.item type x rest (value_more type x h) (items_more type rest hs)
