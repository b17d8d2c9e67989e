-- Names, members and calls that are accepted have the types that they say.
use Rattle.std.proofs.Common.{◌≡◌, ℕ, suc, ◌+◌, List, [], ◌∷◌, map, refl, sym, ap, subst, ◌∙◌, arith}
use Rattle.std.specs.Prelude.{pos, negsuc, Bool, true, false, codes, if◌then◌else◌, slice_get, bytes_eq, option_map, Option, Some, None}
use Rattle.text_core.specs.declared.place.Place.{Place}
use Rattle.cs_ast.specs.declared.cs_type.CsType.{CsType, out-CsType}
use Rattle.cs_ast.specs.declared.cs_type.CsType.TheVariants as t
use Rattle.cs_ast.specs.declared.cs_type.CsType.TheOpen.{CsType-F}
use Rattle.cs_ast.specs.declared.cs_type.CsType.TheViews.{roll-CsType, roll-out-CsType}
use Rattle.cs_ast.specs.declared.code.Code.{Code}
use Rattle.cs_ast.specs.declared.code.Code.TheVariants as c
use Rattle.cs_ast.specs.declared.code.LibraryMember.TheVariants as library
use Rattle.cs_ast.specs.declared.identifier.Ident.{Ident}
use Rattle.cs_ast.specs.declared.member.Argument.{Argument}
use Rattle.cs_ast.specs.declared.operators.StaticType.{StaticType}
use Rattle.cs_ast.specs.declared.operators.StaticType.TheVariants as static
use Rattle.cs_ast.specs.declared.scope.Named.{Named}
use Rattle.cs_ast.specs.declared.scope.NameKind.{NameKind}
use Rattle.cs_ast.specs.declared.scope.Scope.{Scope}
use Rattle.cs_rules.specs.declared.callee.Called.TheVariants as called
use Rattle.cs_rules.specs.declared.callee.Dotted.{Dotted}
use Rattle.cs_rules.specs.declared.callee.Dotted.TheVariants as dot
use Rattle.cs_rules.specs.declared.checked.Checked.{Checked}
use Rattle.cs_rules.specs.declared.checked.ExprType.{ExprType}
use Rattle.cs_rules.specs.declared.checked.ExprType.TheVariants.{Of, Null, Markup}
use Rattle.cs_rules.specs.declared.rule.Rule.TheVariants.{UnknownName, TypeMismatch}
use Rattle.cs_rules.specs.Judged.{fine, mismatch, known, ◌>>=◌}
use Rattle.cs_rules.specs.Types.{may_be_null, own_type, checked, has_values}
use Rattle.cs_rules.specs.Names.{value_of_kind, value_of_name, variable_of}
use Rattle.cs_rules.specs.Written.{type_of, Declared, record_named}
use Rattle.cs_rules.specs.Library.{part_from, part_named, entry, of_all, of_texts, of_lists, argument_types, of_callbacks, of_changes, behind_level, behind, value_of_member, null_member, static_value, found_static, fragment_level, callee_of_type, callee_of_value, callee_of_member, static_callee, code_of_call}
use Rattle.cs_rules.specs.Expressions.{dotted, callee_by_kind, item_type, items_of}
use Rattle.cs_typing.specs.Types.{RecordType}
use Rattle.cs_typing.specs.Operators.{LibraryTakes}
use Rattle.cs_typing.specs.Operators as op
use Rattle.cs_typing.specs.Expressions.{Surroundings, CodeHas, CodesHave, VariableHas}
use Rattle.cs_typing.specs.Expressions as code
use Rattle.cs_accepted.specs.Scopes.{MethodHas, NameFits, record_type, ScopeFits}
use Rattle.cs_accepted.specs.Scopes as scope
use Rattle.cs_accepted.specs.Accepted.{IfFine, HasType, ValueFits, CalleeFits}
use Rattle.cs_accepted.proofs.Judging.{then_fine, weaker_fine, known_fine, tested_fine, either_fine}
use Rattle.cs_accepted.proofs.TypeLemmas.{null_has, own_type_fine}

module _ (at : Surroundings) (locals : List CsType) where
  -- a name as a value
  pub named_value : (place : Place) (kind : NameKind) (number : ℕ) (type : CsType) → NameFits at locals type number kind → IfFine (λ x. ValueFits at locals x) (value_of_kind place kind number type)
  named_value place kind number type (scope.field h) = code.field type number h
  named_value place kind number type (scope.parameter h) = code.parameter type number h
  named_value place kind number type (scope.local h) = code.local type number h
  named_value place kind number type (scope.getter m) = subst (λ z. CodeHas at locals z (c.Call number [])) m.gives_it (code.call number m.body [] [] m.numbered m.own m.takes_them code.none)
  named_value place kind number type (scope.method takes m) = tt

  -- a name as a target
  pub named_variable : (place : Place) (kind : NameKind) (number : ℕ) (type : CsType) → NameFits at locals type number kind → IfFine (λ target. VariableHas at locals type target) (variable_of place kind number)
  unfolding variable_of
  named_variable place kind number type (scope.field h) = code.field type number h
  named_variable place kind number type (scope.parameter h) = tt
  named_variable place kind number type (scope.local h) = code.local type number h
  named_variable place kind number type (scope.getter m) = tt
  named_variable place kind number type (scope.method takes m) = tt

  -- a value as what is called
  fragment_called : (place : Place) (a : Code) (type : CsType) (x : CsType-F CsType) → out-CsType type ≡ x → CodeHas at locals type a → IfFine (λ it. CalleeFits at locals it) (fragment_level place a x)
  unfolding code_of_call
  fragment_called place a type (CsType-F.Fragment (Some argument)) e h = filled
    where
      fragment : CodeHas at locals (t.Fragment (Some argument)) a
      fragment = subst (λ z. CodeHas at locals z a) (sym (roll-out-CsType type) ∙ ap roll-CsType e ∙ t.rolls-Fragment (Some argument)) h

      filled : (arguments : List Code) → CodesHave at locals (argument ∷ []) arguments → CodeHas at locals (t.Fragment None) (code_of_call (called.Fill a) arguments)
      filled arguments (code.more _ _ b _ g code.none) = code.fill argument a b fragment g
  fragment_called place a type (CsType-F.Fragment None) e h = tt
  fragment_called place a type _ e h = tt

  pub value_called : (x : Checked) → ValueFits at locals x → IfFine (λ it. CalleeFits at locals it) (callee_of_value x)
  unfolding callee_of_value
  value_called x h = by x.expr_type h
    where
      by : (given : ExprType) → HasType at locals given x.code → IfFine (λ it. CalleeFits at locals it) (callee_of_type x.place x.code given)
      by (Of type) h = fragment_called x.place x.code type (out-CsType type) refl h
      by Null h = tt
      by Markup h = tt

  -- a name as what is called
  pub named_callee : (place : Place) (one : Named) (kind : NameKind) → one.kind ≡ kind → NameFits at locals one.cs_type one.place one.kind → IfFine (λ it. CalleeFits at locals it) (callee_by_kind place one kind)
  unfolding callee_by_kind callee_of_value value_of_name code_of_call
  named_callee place one kind e h = by kind (subst (λ k. NameFits at locals one.cs_type one.place k) e h)
    where
      as_value : IfFine (λ it. CalleeFits at locals it) (value_of_name place one >>= callee_of_value)
      as_value = then_fine (λ x. ValueFits at locals x) (λ it. CalleeFits at locals it) (value_of_name place one) callee_of_value (named_value place one.kind one.place one.cs_type h) (λ x k. value_called x k)

      by : (kind : NameKind) → NameFits at locals one.cs_type one.place kind → IfFine (λ it. CalleeFits at locals it) (callee_by_kind place one kind)
      by kind (scope.method takes m) = λ arguments hs. subst (λ z. CodeHas at locals z (c.Call one.place arguments)) m.gives_it (code.call one.place m.body takes arguments m.numbered m.own m.takes_them hs)
      by kind (scope.field _) = as_value
      by kind (scope.parameter _) = as_value
      by kind (scope.local _) = as_value
      by kind (scope.getter _) = as_value

-- what stands behind a dot, of what has such a type
pub record IsPart (at : Surroundings) (type : CsType) (number : ℕ) (part : CsType) : Type 0 where
  pub name : List ℕ
  pub declaration : RecordType
  pub is : type ≡ t.Rec name
  pub named : at.types.records name ≡ Some declaration
  pub in_place : slice_get declaration.parts number ≡ Some part

pub record IsInvoke (type : CsType) (takes : List CsType) : Type 0 where
  pub argument : Option CsType
  pub is : type ≡ t.Callback argument
  pub takes_it : takes ≡ argument_types argument

abbrev pub DottedFits : Surroundings → CsType → Dotted → Type 0
DottedFits at type (dot.Part number part) = IsPart at type number part
DottedFits at type (dot.Property member gives) = LibraryTakes member (type ∷ []) gives
DottedFits at type (dot.Method member takes gives) = LibraryTakes member (type ∷ takes) gives
DottedFits at type (dot.Invoke takes) = IsInvoke type takes

-- all entries of a table
abbrev Every : (Dotted → Type 0) → List (List ℕ × Dotted) → Type 0
Every P [] = Unit {0}
Every P (one ∷ others) = P one.1 × Every P others

entry_in : (P : Dotted → Type 0) (name : List ℕ) (table : List (List ℕ × Dotted)) (found : Dotted) → Every P table → entry name table ≡ Some found → P found
entry_in P name [] found h e = absurd (cc)
entry_in P name (one ∷ others) found h e = by (bytes_eq name one.0) e (λ i. entry_in P name others found h.1 i)
  where
    by : (b : Bool) → (if b then Some one.1 else entry name others) ≡ Some found → (entry name others ≡ Some found → P found) → P found
    by true i rest = let same : one.1 ≡ found = cc in subst P same h.0
    by false i rest = rest i

-- the position of a part
part_at : (number : ℕ) (name : List ℕ) (parts : List Argument) (found : ℕ × CsType) → part_from number name parts ≡ Some found → (i : ℕ) × (found.0 ≡ number + i) × (slice_get (map (λ (part : Argument). type_of part.cs_type) parts) i ≡ Some found.1)
part_at number name [] found e = absurd (cc)
part_at number name (one ∷ others) found e = by (bytes_eq one.name.name name) e (λ i. part_at (number + 1) name others found i)
  where
    by : (b : Bool) → (if b then Some (number, type_of one.cs_type) else part_from (number + 1) name others) ≡ Some found
        → (part_from (number + 1) name others ≡ Some found → (i : ℕ) × (found.0 ≡ number + 1 + i) × (slice_get (map (λ (part : Argument). type_of part.cs_type) others) i ≡ Some found.1))
        → (i : ℕ) × (found.0 ≡ number + i) × (slice_get (map (λ (part : Argument). type_of part.cs_type) (one ∷ others)) i ≡ Some found.1)
    by true i rest = let same : (number, type_of one.cs_type) ≡ found = cc in (0, sym (ap (λ p. p.0) same) ∙ omega arith, ap (λ p. Some p.1) same)
    by false i rest = let k = rest i in (suc k.0, k.1 ∙ omega arith, k.2)

pub part_in : (name : List ℕ) (parts : List Argument) (found : ℕ × CsType) → part_from 0 name parts ≡ Some found → slice_get (map (λ (part : Argument). type_of part.cs_type) parts) found.0 ≡ Some found.1
part_in name parts found e = let k = part_at 0 name parts found e in ap (slice_get (map (λ (part : Argument). type_of part.cs_type) parts)) (k.1 ∙ omega arith) ∙ k.2

module _ (at : Surroundings) (locals : List CsType) (s : Scope) (fit : ScopeFits at locals s) where
  -- the part of a record
  part_fits : (name part_name : List ℕ) (o : Option Declared) (found : Dotted) → record_named s.records name ≡ o → part_named o part_name ≡ Some found → DottedFits at (t.Rec name) found
  unfolding record_named
  part_fits name part_name None found is e = absurd (cc)
  part_fits name part_name (Some declared) found is e = by (part_from 0 part_name declared.parts) refl e
    where
      by : (o : Option (ℕ × CsType)) → part_from 0 part_name declared.parts ≡ o → option_map (λ (part : ℕ × CsType). dot.Part part.0 part.1) o ≡ Some found → DottedFits at (t.Rec name) found
      by None i m = absurd (cc)
      by (Some part) i m =
          let same : dot.Part part.0 part.1 ≡ found = cc in
          subst (DottedFits at (t.Rec name)) same
          (record { name = name; declaration = record_type declared; is = refl; named = fit.records name declared is; in_place = part_in part_name declared.parts part i })

  level_fits : (type : CsType) (x : CsType-F CsType) (name : List ℕ) (found : Dotted) → roll-CsType x ≡ type → behind_level s.records x name ≡ Some found → DottedFits at type found
  unfolding record_named
  level_fits type CsType-F.Int name found is e = subst (λ z. DottedFits at z found) (sym t.rolls-Int ∙ is) (entry_in (DottedFits at t.Int) name of_all found (op.to_text t.Int op.int, tt) e)
  level_fits type CsType-F.Bool name found is e = subst (λ z. DottedFits at z found) (sym t.rolls-Bool ∙ is) (entry_in (DottedFits at t.Bool) name of_all found (op.to_text t.Bool op.bool, tt) e)
  level_fits type CsType-F.Text name found is e = subst (λ z. DottedFits at z found) (sym t.rolls-Text ∙ is) (entry_in (DottedFits at t.Text) name of_texts found (op.length, (op.to_text t.Text op.text, tt)) e)
  level_fits type (CsType-F.Rec record_name) name found is e = subst (λ z. DottedFits at z found) (sym (t.rolls-Rec record_name) ∙ is) (part_fits record_name name (record_named s.records record_name) found refl e)
  level_fits type (CsType-F.List item) name found is e =
      subst (λ z. DottedFits at z found) (sym (t.rolls-List item) ∙ is) (entry_in (DottedFits at (t.List item)) name (of_lists item) found (op.count item, (op.add item, (op.insert item, (op.remove_at item, (op.set_item item, tt))))) e)
  level_fits type (CsType-F.Callback argument) name found is e =
      subst (λ z. DottedFits at z found) (sym (t.rolls-Callback argument) ∙ is) (entry_in (DottedFits at (t.Callback argument)) name (of_callbacks argument) found (op.has_delegate argument, (record { argument = argument; is = refl; takes_it = refl }, tt)) e)
  level_fits type CsType-F.Change name found is e = subst (λ z. DottedFits at z found) (sym t.rolls-Change ∙ is) (entry_in (DottedFits at t.Change) name of_changes found (op.change_value, tt) e)
  level_fits type (CsType-F.Fragment argument) name found is e = absurd (cc)
  level_fits type CsType-F.Args name found is e = absurd (cc)
  level_fits type CsType-F.Nothing name found is e = absurd (cc)

  -- a name behind a dot
  pub dotted_fine : (x : Checked) (name : Ident) → ValueFits at locals x → IfFine (λ found. (type : CsType) × CodeHas at locals type x.code × DottedFits at type found) (dotted s x name)
  unfolding behind dotted has_values own_type
  dotted_fine x name h =
      then_fine (λ type. x.expr_type ≡ Of type) (λ found. (type : CsType) × CodeHas at locals type x.code × DottedFits at type found) (own_type x.place x.expr_type) (λ type. known UnknownName name.place (behind s.records type name.name)) (own_type_fine x.place x.expr_type)
      (λ type is. weaker_fine (λ found. behind s.records type name.name ≡ Some found) (λ found. (type : CsType) × CodeHas at locals type x.code × DottedFits at type found) (known UnknownName name.place (behind s.records type name.name)) (known_fine UnknownName name.place (behind s.records type name.name))
      (λ found e. (type, subst (λ z. HasType at locals z x.code) is h, level_fits type (out-CsType type) name.name found (roll-out-CsType type) e)))

  -- a member as a value
  pub member_value : (place : Place) (a : Code) (type : CsType) (found : Dotted) → CodeHas at locals type a → DottedFits at type found → IfFine (λ x. ValueFits at locals x) (value_of_member place a found)
  unfolding behind dotted has_values own_type value_of_member
  member_value place a type (dot.Part number part) h f = code.part f.name f.declaration part a number f.named f.in_place (subst (λ z. CodeHas at locals z a) f.is h)
  member_value place a type (dot.Property member gives) h f = code.library member (type ∷ []) gives (a ∷ []) f (code.more type [] a [] h code.none)
  member_value place a type (dot.Method member takes gives) h f = tt
  member_value place a type (dot.Invoke takes) h f = tt

  -- a member behind `?.`
  pub member_or_null : (place : Place) (x : Checked) (type : CsType) (found : Dotted) → CodeHas at locals type x.code → DottedFits at type found → IfFine (λ y. ValueFits at locals y) (null_member place x found)
  unfolding behind dotted has_values may_be_null null_member own_type
  member_or_null place x type (dot.Part number part) h f =
      tested_fine (λ y. ValueFits at locals y) (may_be_null part) (checked place (c.NullPart x.code number) part) TypeMismatch x.place (λ e. code.null_part f.name f.declaration part x.code number f.named f.in_place (null_has part e) (subst (λ z. CodeHas at locals z x.code) f.is h))
  member_or_null place x type (dot.Property member gives) h f =
      tested_fine (λ y. ValueFits at locals y) (may_be_null gives) (checked place (c.Library member (x.code ∷ [])) gives) TypeMismatch x.place (λ e. code.library member (type ∷ []) gives (x.code ∷ []) f (code.more type [] x.code [] h code.none))
  member_or_null place x type (dot.Method member takes gives) h f = tt
  member_or_null place x type (dot.Invoke takes) h f = tt

  -- `InvokeAsync`
  invoke_called : (a : Code) (type : CsType) (takes : List CsType) → CodeHas at locals type a → IsInvoke type takes → (arguments : List Code) → CodesHave at locals takes arguments → CodeHas at locals t.Nothing (code_of_call (called.Invoke a) arguments)
  unfolding code_of_call
  invoke_called a type takes h f arguments hs = by f.argument (subst (λ z. CodeHas at locals z a) f.is h) arguments (subst (λ z. CodesHave at locals z arguments) f.takes_it hs)
    where
      by : (argument : Option CsType) → CodeHas at locals (t.Callback argument) a → (arguments : List Code) → CodesHave at locals (argument_types argument) arguments → CodeHas at locals t.Nothing (code_of_call (called.Invoke a) arguments)
      by None g arguments code.none = code.invoke a g
      by (Some argument) g arguments (code.more _ _ b _ k code.none) = code.invoke_with argument a b g k

  -- a member as what is called
  pub member_callee : (place : Place) (a : Code) (type : CsType) (found : Dotted) → CodeHas at locals type a → DottedFits at type found → IfFine (λ it. CalleeFits at locals it) (callee_of_member place a found)
  unfolding behind callee_of_member callee_of_value dotted has_values own_type value_of_member code_of_call
  member_callee place a type (dot.Method member takes gives) h f = λ arguments hs. code.library member (type ∷ takes) gives (a ∷ arguments) f (code.more type takes a arguments h hs)
  member_callee place a type (dot.Invoke takes) h f = λ arguments hs. invoke_called a type takes h f arguments hs
  member_callee place a type (dot.Part number part) h f = then_fine (λ x. ValueFits at locals x) (λ it. CalleeFits at locals it) (value_of_member place a (dot.Part number part)) callee_of_value (member_value place a type (dot.Part number part) h f) (λ x k. value_called at locals x k)
  member_callee place a type (dot.Property member gives) h f = then_fine (λ x. ValueFits at locals x) (λ it. CalleeFits at locals it) (value_of_member place a (dot.Property member gives)) callee_of_value (member_value place a type (dot.Property member gives) h f) (λ x k. value_called at locals x k)

  -- `int.N` and `string.N`
  pub static_fine : (place : Place) (of : StaticType) (name : Ident) → IfFine (λ x. ValueFits at locals x) (found_static name (static_value place of name.name))
  unfolding found_static static_value
  static_fine place static.Int name = by (bytes_eq name.name (codes "MaxValue")) (bytes_eq name.name (codes "MinValue"))
    where
      by : (a b : Bool) → IfFine (λ x. ValueFits at locals x) (found_static name (if a then Some (fine (checked place (c.Int (pos 2147483647)) t.Int)) else (if b then Some (fine (checked place (c.Int (negsuc 2147483647)) t.Int)) else None)))
      by true b = code.int (pos 2147483647)
      by false true = code.int (negsuc 2147483647)
      by false false = tt
  static_fine place static.Text name = by (bytes_eq name.name (codes "Empty")) (bytes_eq name.name (codes "IsNullOrEmpty"))
    where
      by : (a b : Bool) → IfFine (λ x. ValueFits at locals x) (found_static name (if a then Some (fine (checked place (c.Text []) t.Text)) else (if b then Some (mismatch place) else None)))
      by true b = code.text []
      by false true = tt
      by false false = tt

  static_as_value : (place : Place) (of : StaticType) (name : Ident) → IfFine (λ it. CalleeFits at locals it) (found_static name (static_value place of name.name) >>= callee_of_value)
  unfolding callee_of_value found_static static_value
  static_as_value place of name = then_fine (λ x. ValueFits at locals x) (λ it. CalleeFits at locals it) (found_static name (static_value place of name.name)) callee_of_value (static_fine place of name) (λ x k. value_called at locals x k)

  pub static_called : (place : Place) (of : StaticType) (name : Ident) → IfFine (λ it. CalleeFits at locals it) (static_callee place of name)
  unfolding callee_of_value found_static static_callee static_value code_of_call
  static_called place static.Int name = static_as_value place static.Int name
  static_called place static.Text name = either_fine (λ it. CalleeFits at locals it) (bytes_eq name.name (codes "IsNullOrEmpty")) (fine (record { called = called.Library library.IsNullOrEmpty None; takes = t.Text ∷ []; gives = t.Bool })) (found_static name (static_value place static.Text name.name) >>= callee_of_value)
      (λ e arguments hs. code.library library.IsNullOrEmpty (t.Text ∷ []) t.Bool arguments op.is_null_or_empty hs) (λ e. static_as_value place static.Text name)

  -- the items of a list
  item_fine : (place : Place) (type : CsType) (x : CsType-F CsType) → roll-CsType x ≡ type → IfFine (λ item. type ≡ t.List item) (item_type place x)
  item_fine place type (CsType-F.List item) is = sym is ∙ t.rolls-List item
  item_fine place type _ is = tt

  pub items_fine : (place : Place) (given : ExprType) (a : Code) → HasType at locals given a → IfFine (λ item. CodeHas at locals (t.List item) a) (items_of place given)
  unfolding items_of
  items_fine place (Of type) a h = weaker_fine (λ item. type ≡ t.List item) (λ item. CodeHas at locals (t.List item) a) (item_type place (out-CsType type)) (item_fine place type (out-CsType type) (roll-out-CsType type)) (λ item e. subst (λ z. CodeHas at locals z a) e h)
  items_fine place Null a h = tt
  items_fine place Markup a h = tt
