-- Names, changes of variables and `with` in two scopes.
use Rattle.std.proofs.Common.{◌≡◌, ℕ, List, [], ◌∷◌, map, refl, sym, ap, subst}
use Rattle.std.specs.Prelude.{Option, Some, None}
use Rattle.text_core.specs.declared.place.Place.{Place}
use Rattle.cs_ast.specs.declared.code.Code.{Code}
use Rattle.cs_ast.specs.declared.code.Code.TheVariants as c
use Rattle.cs_ast.specs.declared.cs_type.CsType.{CsType}
use Rattle.cs_ast.specs.declared.cs_type.CsType.TheVariants as t
use Rattle.cs_ast.specs.declared.identifier.Ident.{Ident}
use Rattle.cs_ast.specs.declared.member.Member.{Member}
use Rattle.cs_ast.specs.declared.operators.AssignOp.{AssignOp}
use Rattle.cs_ast.specs.declared.operators.BinaryOp.{BinaryOp}
use Rattle.cs_ast.specs.declared.operators.StepOp.{StepOp}
use Rattle.cs_ast.specs.declared.scope.Named.{Named}
use Rattle.cs_ast.specs.declared.scope.NameKind.{NameKind}
use Rattle.cs_ast.specs.declared.scope.NameKind.TheVariants as kind
use Rattle.cs_ast.specs.declared.scope.Scope.{Scope}
use Rattle.cs_rules.specs.declared.checked.Checked.{Checked}
use Rattle.cs_rules.specs.declared.checked.ExprType.TheVariants.{Of}
use Rattle.cs_rules.specs.declared.rule.Rule.TheVariants.{UnknownName}
use Rattle.cs_rules.specs.Judged.{Judged, fine, known, ◌>>=◌}
use Rattle.cs_rules.specs.Types.{wants}
use Rattle.cs_rules.specs.Names.{meant_by, value_of_kind, value_of_name, variable_of}
use Rattle.cs_rules.specs.Written.{Declared}
use Rattle.cs_rules.specs.Library.{part_from}
use Rattle.cs_rules.specs.Operators.{binary_type, operator_of}
use Rattle.cs_rules.specs.Expressions as e
use Rattle.cs_rules.specs.Expressions.{Value, Given, Replacing, Replaced, all_fit, replacing, replacements, of_no_record, with_replaced, with_parts, record_of, assigned}
use Rattle.page_typing.specs.Narrowing.{at_names, SameNamed, Means, Follows, SameValue, SameCallee, Both}
use Rattle.page_typing.proofs.Following.{then_follows, then_value, then_same, meant_follows}
use Rattle.page_typing.proofs.NarrowExpressions.{like, fitting_follows, Alike, same_fit, called_follows, no_one, one_more}

-- the same name under another number
abbrev renamed : Named → List ℕ → ℕ → Named
renamed one name place = record { name = name; cs_type = one.cs_type; kind = one.kind; place = place }

then_named : {C D : Type 0} (Q : C → D → Type 0) (j k : Judged Named) (n : Named → Judged C) (m : Named → Judged D) → Follows SameNamed j k → ((one : Named) (name : List ℕ) (place : ℕ) → Follows Q (n one) (m (renamed one name place))) → Follows Q (j >>= n) (k >>= m)
then_named Q j k n m h g = then_follows SameNamed Q j k n m h (λ x y s. subst (λ z. Follows Q (n x) (m z)) (sym s.2) (g x s.0 s.1))

kind_follows : (place : Place) (k : NameKind) (number other : ℕ) (type : CsType) → Follows SameValue (value_of_kind place k number type) (value_of_kind place k other type)
kind_follows place kind.Field number other type = (_, refl, (_, refl))
kind_follows place kind.Parameter number other type = (_, refl, (_, refl))
kind_follows place kind.Local number other type = (_, refl, (_, refl))
kind_follows place kind.Getter number other type = (_, refl, (_, refl))
kind_follows place (kind.Method takes) number other type = tt

name_follows : (place : Place) (one : Named) (name : List ℕ) (number : ℕ) → Follows SameValue (value_of_name place one) (value_of_name place (renamed one name number))
unfolding value_of_name
name_follows place one name number = kind_follows place one.kind one.place number one.cs_type

callee_follows : (s : Scope) (place : Place) (one : Named) (name : List ℕ) (number : ℕ) (k : NameKind) → Follows SameCallee (e.callee_by_kind place one k) (e.callee_by_kind place (renamed one name number) k)
unfolding e.callee_by_kind
callee_follows s place one name number (kind.Method takes) = (_, refl, (_, refl))
callee_follows s place one name number kind.Field = called_follows s s (value_of_name place one) (value_of_name place (renamed one name number)) (name_follows place one name number)
callee_follows s place one name number kind.Parameter = called_follows s s (value_of_name place one) (value_of_name place (renamed one name number)) (name_follows place one name number)
callee_follows s place one name number kind.Local = called_follows s s (value_of_name place one) (value_of_name place (renamed one name number)) (name_follows place one name number)
callee_follows s place one name number kind.Getter = called_follows s s (value_of_name place one) (value_of_name place (renamed one name number)) (name_follows place one name number)

variable_follows : (place : Place) (k : NameKind) (number other : ℕ) → Follows Both (variable_of place k number) (variable_of place k other)
unfolding variable_of
variable_follows place kind.Field number other = (_, refl, tt)
variable_follows place kind.Local number other = (_, refl, tt)
variable_follows place kind.Parameter number other = tt
variable_follows place kind.Getter number other = tt
variable_follows place (kind.Method takes) number other = tt

assigned_follows : (records : List Member) (op : Option BinaryOp) (target : Place) (type : CsType) (x : Checked) (code : Code) → Follows Both (assigned records op target type x) (assigned records op target type (like x code))
unfolding assigned
assigned_follows records None target type x code = fitting_follows type x code
assigned_follows records (Some op) target type x code = then_same Both (binary_type records op target (Of type) x.place x.expr_type) _ _ (λ given. then_same Both (wants type x.place given) _ _ (λ is. (_, refl, tt)))

module _ (names others : List Named) (s : Scope) where
  abbrev Values : Value → Value → Type 0
  Values a b = Follows SameValue (a (at_names names s)) (b (at_names others s))

  pub name_read_follows : (name : List ℕ) (place : Place) → Means names others name → Values (e.name_read name place) (e.name_read name place)
  unfolding e.name_read
  name_read_follows name place h =
      then_named SameValue (meant_by (at_names names s) (record { place = place; name = name })) (meant_by (at_names others s) (record { place = place; name = name })) _ _ (meant_follows names others s (record { place = place; name = name }) h) (λ one n number. name_follows place one n number)

  pub name_called_follows : (name : List ℕ) (place : Place) → Means names others name → Follows SameCallee (e.name_called name place (at_names names s)) (e.name_called name place (at_names others s))
  unfolding e.name_called
  name_called_follows name place h =
      then_named SameCallee (meant_by (at_names names s) (record { place = place; name = name })) (meant_by (at_names others s) (record { place = place; name = name })) _ _ (meant_follows names others s (record { place = place; name = name }) h)
      (λ one n number. callee_follows s place one n number one.kind)

  pub assign_follows : (op : AssignOp) (target : Ident) (a b : Value) (place : Place) → Means names others target.name → Values a b → Values (e.assign op target a place) (e.assign op target b place)
  unfolding e.assign
  assign_follows op target a b place h g =
      then_named SameValue (meant_by (at_names names s) target) (meant_by (at_names others s) target) _ _ (meant_follows names others s target h)
      (λ one n number. then_value SameValue (a (at_names names s)) (b (at_names others s)) _ _ g
      (λ x code. then_follows Both SameValue (variable_of target.place one.kind one.place) (variable_of target.place one.kind number) _ _ (variable_follows target.place one.kind one.place number)
      (λ v w k. then_follows Both SameValue (assigned s.records (operator_of op) target.place one.cs_type x) (assigned s.records (operator_of op) target.place one.cs_type (like x code)) _ _ (assigned_follows s.records (operator_of op) target.place one.cs_type x code)
      (λ y z m. (_, refl, (_, refl))))))

  pub step_follows : (op : StepOp) (target : Ident) (place : Place) → Means names others target.name → Values (e.step op target place) (e.step op target place)
  unfolding e.step
  step_follows op target place h =
      then_named SameValue (meant_by (at_names names s) target) (meant_by (at_names others s) target) _ _ (meant_follows names others s target h)
      (λ one n number. then_follows Both SameValue (variable_of target.place one.kind one.place) (variable_of target.place one.kind number) _ _ (variable_follows target.place one.kind one.place number)
      (λ v w k. then_same SameValue (wants t.Int target.place (Of one.cs_type)) _ _ (λ is. (_, refl, (_, refl)))))

  -- parts behind `with` that follow, one by one
  pub data GivenFollow : List Given → List Given → Type 0 where
    none_given : GivenFollow [] []
    one_given : (a b : Given) (us vs : List Given) → b.name ≡ a.name → Values a.value b.value → GivenFollow us vs → GivenFollow (a ∷ us) (b ∷ vs)

  -- a new value of the part of a name
  abbrev replaced_by : Declared → Ident → Value → Scope → Judged Replacing
  replaced_by found name value at = known UnknownName name.place (part_from 0 name.name found.parts) >>= λ part. (value at >>= λ x. fine (record { number = part.0; wanted = part.1; value = x }))

  -- new values of the same parts
  abbrev SameReplaced : Replaced → Replaced → Type 0
  SameReplaced x y = (values : List Checked) × (y ≡ record { positions = x.positions; wanted = x.wanted; values = values }) × Alike (at_names names s) (at_names others s) x.values values

  replacements_follow : (found : Declared) (us vs : List Given) → GivenFollow us vs → Follows SameReplaced (replacements (at_names names s) found us) (replacements (at_names others s) found vs)
  unfolding replacing
  replacements_follow found us vs none_given = (_, refl, ([], refl, no_one))
  replacements_follow found us vs (one_given a b us1 vs1 is h hs) =
      subst (λ (n : Ident). Follows SameReplaced (replacements (at_names names s) found (a ∷ us1)) (replaced_by found n b.value (at_names others s) >>= λ one. (replacements (at_names others s) found vs1 >>= λ more. fine (record { positions = one.number ∷ more.positions; wanted = one.wanted ∷ more.wanted; values = one.value ∷ more.values })))) (sym is)
      (then_follows SameReplacing SameReplaced (replacing (at_names names s) found a) _ _ _
      (then_same SameReplacing (known UnknownName a.name.place (part_from 0 a.name.name found.parts)) _ _ (λ part. then_value SameReplacing (a.value (at_names names s)) (b.value (at_names others s)) _ _ h (λ x code. (_, refl, (code, refl)))))
      (λ x y same. subst (λ (z : Replacing). Follows SameReplaced (replacements (at_names names s) found us1 >>= λ more. fine (record { positions = x.number ∷ more.positions; wanted = x.wanted ∷ more.wanted; values = x.value ∷ more.values })) (replacements (at_names others s) found vs1 >>= λ more. fine (record { positions = z.number ∷ more.positions; wanted = z.wanted ∷ more.wanted; values = z.value ∷ more.values }))) (sym same.1)
      (then_follows SameReplaced SameReplaced (replacements (at_names names s) found us1) (replacements (at_names others s) found vs1) _ _ (replacements_follow found us1 vs1 hs)
      (λ more others' k. (_, refl, (like x.value same.0 ∷ k.0, ap (λ (z : Replaced). record { positions = x.number ∷ z.positions; wanted = x.wanted ∷ z.wanted; values = like x.value same.0 ∷ z.values }) k.1, one_more x.value same.0 more.values k.0 k.2))))))
    where
      SameReplacing : Replacing → Replacing → Type 0
      SameReplacing x y = (code : Code) × (y ≡ record { number = x.number; wanted = x.wanted; value = like x.value code })

  no_record_follows : (us vs : List Given) (place : Place) → GivenFollow us vs → Follows SameValue (of_no_record us place (at_names names s)) (of_no_record vs place (at_names others s))
  no_record_follows us vs place none_given = tt
  no_record_follows us vs place (one_given a b us1 vs1 is h hs) = then_value SameValue (a.value (at_names names s)) (b.value (at_names others s)) _ _ h (λ x code. no_record_follows us1 vs1 place hs)

  with_parts_follow : (found : Option Declared) (us vs : List Given) (x : Checked) (code : Code) (place : Place) → GivenFollow us vs → Follows SameValue (with_parts found us x place (at_names names s)) (with_parts found vs (like x code) place (at_names others s))
  unfolding with_replaced
  with_parts_follow None us vs x code place hs = no_record_follows us vs x.place hs
  with_parts_follow (Some found) us vs x code place hs =
      then_follows SameReplaced SameValue (replacements (at_names names s) found us) (replacements (at_names others s) found vs) _ _ (replacements_follow found us vs hs)
      (λ r q k. subst (λ (z : Replaced). Follows SameValue (with_replaced x place r) (with_replaced (like x code) place z)) (sym k.1)
      (subst (λ j. Follows SameValue (with_replaced x place r) (j >>= λ fit. fine (record { place = place; code = c.With code r.positions (map (λ (y : Checked). y.code) k.0); expr_type = x.expr_type }))) (sym (same_fit (at_names names s) (at_names others s) r.wanted r.values k.0 k.2))
      (then_same SameValue (all_fit r.wanted r.values) _ _ (λ fit. (_, refl, (_, refl))))))

  pub with_follows : (a b : Value) (us vs : List Given) (place : Place) → Values a b → GivenFollow us vs → Values (e.with_of a us place) (e.with_of b vs place)
  unfolding e.with_of
  with_follows a b us vs place h hs = then_value SameValue (a (at_names names s)) (b (at_names others s)) _ _ h (λ x code. with_parts_follow (record_of s.records x.expr_type) us vs x code place hs)
