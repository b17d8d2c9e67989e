-- `with`, assignments and steps, where their parts have types.
use Rattle.std.proofs.Common.{◌≡◌, ℕ, List, [], ◌∷◌, map, refl, sym, ap, subst, ◌∙◌}
use Rattle.std.specs.Prelude.{true, slice_get, Option, Some, None}
use Rattle.text_core.specs.declared.place.Place.{Place}
use Rattle.cs_ast.specs.declared.cs_type.CsType.{CsType}
use Rattle.cs_ast.specs.declared.cs_type.CsType.TheVariants as t
use Rattle.cs_ast.specs.declared.code.Code.{Code}
use Rattle.cs_ast.specs.declared.code.Code.TheVariants as c
use Rattle.cs_ast.specs.declared.code.Variable.{Variable}
use Rattle.cs_ast.specs.declared.identifier.Ident.{Ident}
use Rattle.cs_ast.specs.declared.member.Member.{Member}
use Rattle.cs_ast.specs.declared.operators.AssignOp.{AssignOp}
use Rattle.cs_ast.specs.declared.operators.AssignOp.TheVariants as assign_op
use Rattle.cs_ast.specs.declared.operators.BinaryOp.{BinaryOp}
use Rattle.cs_ast.specs.declared.operators.BinaryOp.TheVariants as binary_op
use Rattle.cs_ast.specs.declared.operators.StepOp.{StepOp}
use Rattle.cs_ast.specs.declared.scope.Scope.{Scope}
use Rattle.cs_meaning.specs.Variables.{operator_in}
use Rattle.cs_rules.specs.declared.checked.Checked.{Checked}
use Rattle.cs_rules.specs.declared.checked.ExprType.{ExprType}
use Rattle.cs_rules.specs.declared.checked.ExprType.TheVariants.{Of, Null, Markup}
use Rattle.cs_rules.specs.declared.rule.Rule.TheVariants.{UnknownName}
use Rattle.cs_rules.specs.Judged.{Judged, fine, breaks, mismatch, known, each, ◌>>=◌}
use Rattle.cs_rules.specs.Types.{fits, wants, fitting, checked, common_type, drops_argument, fits_type, may_be_null}
use Rattle.cs_rules.specs.Names.{meant, variable_of, meant_by}
use Rattle.cs_rules.specs.Written.{Declared, record_named, is_comparable}
use Rattle.cs_rules.specs.Library.{part_from}
use Rattle.cs_rules.specs.Operators.{binary_type, operator_of, are_compared, comparison_type, either_type, given_type, is_nullable, is_shown, is_text, may_compare, plain_type, shown, sum_type, taken_type}
use Rattle.cs_rules.specs.Expressions.{Value, Given, all_fit, record_of, replacing, with_parts, with_of, assigned, assign, step, Replacing, Replaced, replacements, of_no_record, with_replaced}
use Rattle.cs_typing.specs.Operators.{Shows, Combines, AssignTakes}
use Rattle.cs_typing.specs.Operators as op
use Rattle.cs_typing.specs.Expressions.{Surroundings, CodeHas, ReplacementsHave, VariableHas}
use Rattle.cs_typing.specs.Expressions as code
use Rattle.cs_accepted.specs.Scopes.{record_type, ScopeFits}
use Rattle.cs_accepted.specs.Accepted.{IfFine, HasType, ValueFits}
use Rattle.cs_accepted.specs.Sound.{ValueSound}
use Rattle.cs_accepted.proofs.Judging.{then_fine, weaker_fine, known_fine}
use Rattle.cs_accepted.proofs.TypeLemmas.{Form, form, int, bool, text, list, callback, fragment, change, args, nothing, no_callback, int_alone, bool_alone, text_alone, wants_fine, fitting_fine, fits_has}
use Rattle.cs_accepted.proofs.TypeLemmas as shape
use Rattle.cs_accepted.proofs.OperatorLemmas.{Plain, Joined, joined_fine}
use Rattle.cs_accepted.proofs.NameLemmas.{named_variable, part_in}

-- parts behind `with` whose values have types
pub data AllGiven : List Given → Type 0 where
  none_given : AllGiven []
  one_given : (one : Given) (others : List Given) → ValueSound one.value → AllGiven others → AllGiven (one ∷ others)

-- new values for parts of a record with parts of these types
data AllReplaced (at : Surroundings) (locals : List CsType) (parts : List CsType) : Replaced → Type 0 where
  none_replaced : AllReplaced at locals parts (record { positions = []; wanted = []; values = [] })
  one_replaced : (one : Replacing) (more : Replaced) → slice_get parts one.number ≡ Some one.wanted → ValueFits at locals one.value → AllReplaced at locals parts more
      → AllReplaced at locals parts (record { positions = one.number ∷ more.positions; wanted = one.wanted ∷ more.wanted; values = one.value ∷ more.values })

-- a record type with its declaration
record_form : (records : List Member) (type : CsType) (found : Declared) → Form type → record_of records (Of type) ≡ Some found → (name : List ℕ) × (type ≡ t.Rec name) × (record_named records name ≡ Some found)
unfolding record_of
record_form records type found (shape.record_of name) e = (name, refl, e)
record_form records type found int e = absurd (cc)
record_form records type found bool e = absurd (cc)
record_form records type found text e = absurd (cc)
record_form records type found (list item) e = absurd (cc)
record_form records type found (callback argument) e = absurd (cc)
record_form records type found (fragment argument) e = absurd (cc)
record_form records type found change e = absurd (cc)
record_form records type found args e = absurd (cc)
record_form records type found nothing e = absurd (cc)

record_found : (records : List Member) (given : ExprType) (found : Declared) → record_of records given ≡ Some found → (name : List ℕ) × (given ≡ Of (t.Rec name)) × (record_named records name ≡ Some found)
unfolding record_of
record_found records (Of type) found e = let k = record_form records type found (form type) e in (k.0, ap (λ z. Of z) k.1, k.2)
record_found records Null found e = absurd (cc)
record_found records Markup found e = absurd (cc)

module _ (at : Surroundings) (locals : List CsType) (s : Scope) (fit : ScopeFits at locals s) where
  abbrev Placed : Declared → Replacing → Type 0
  Placed found one = (slice_get (record_type found).parts one.number ≡ Some one.wanted) × ValueFits at locals one.value

  one_part : (found : Declared) (given : Given) → ValueSound given.value → IfFine (Placed found) (replacing s found given)
  unfolding replacing
  one_part found given h =
      then_fine (λ part. part_from 0 given.name.name found.parts ≡ Some part) (Placed found) (known UnknownName given.name.place (part_from 0 given.name.name found.parts))
      (λ part. given.value s >>= λ x. fine (record { number = part.0; wanted = part.1; value = x }))
      (known_fine UnknownName given.name.place (part_from 0 given.name.name found.parts))
      (λ part e. then_fine (λ x. ValueFits at locals x) (Placed found) (given.value s) (λ x. fine (record { number = part.0; wanted = part.1; value = x })) (h at locals s fit)
      (λ x hx. (part_in given.name.name found.parts part e, hx)))

  each_part : (found : Declared) (parts : List Given) → AllGiven parts → IfFine (λ all. AllReplaced at locals (record_type found).parts all) (replacements s found parts)
  each_part found parts none_given = none_replaced
  each_part found parts (one_given one others h hs) =
      then_fine (Placed found) (λ all. AllReplaced at locals (record_type found).parts all) (replacing s found one)
      (λ y. replacements s found others >>= λ ys. fine (record { positions = y.number ∷ ys.positions; wanted = y.wanted ∷ ys.wanted; values = y.value ∷ ys.values })) (one_part found one h)
      (λ y hy. then_fine (λ ys. AllReplaced at locals (record_type found).parts ys) (λ all. AllReplaced at locals (record_type found).parts all) (replacements s found others)
      (λ ys. fine (record { positions = y.number ∷ ys.positions; wanted = y.wanted ∷ ys.wanted; values = y.value ∷ ys.values })) (each_part found others hs)
      (λ ys hys. one_replaced y ys hy.0 hy.1 hys))

  -- the code of new values
  abbrev coded : List Checked → List Code
  coded = map (λ (y : Checked). y.code)

  all_replaced : (parts : List CsType) (all : Replaced) → AllReplaced at locals parts all → IfFine (λ u. ReplacementsHave at locals parts all.positions (coded all.values)) (all_fit all.wanted all.values)
  all_replaced parts all none_replaced = code.unchanged parts
  all_replaced parts all (one_replaced one more e h hs) =
      then_fine (λ u. fits one.value.expr_type one.wanted ≡ true) (λ u. ReplacementsHave at locals parts (one.number ∷ more.positions) (coded (one.value ∷ more.values)))
      (wants one.wanted one.value.place one.value.expr_type) (λ u. all_fit more.wanted more.values) (wants_fine one.wanted one.value.place one.value.expr_type)
      (λ u f. weaker_fine (λ v. ReplacementsHave at locals parts more.positions (coded more.values)) (λ v. ReplacementsHave at locals parts (one.number ∷ more.positions) (coded (one.value ∷ more.values)))
      (all_fit more.wanted more.values) (all_replaced parts more hs)
      (λ v k. code.replaced parts one.wanted one.number more.positions one.value.code (coded more.values) e (fits_has at locals one.value.expr_type one.wanted one.value.code f h) k))

  some_fine : {A : Type 0} (j : Judged A) → IfFine (λ x. Unit {0}) j
  some_fine (fine x) = tt
  some_fine (breaks rule place) = tt

  never_fine : (P : Checked → Type 0) (parts : List Given) (place : Place) → IfFine P (of_no_record parts place s)
  never_fine P [] place = tt
  never_fine P (given ∷ others) place =
      then_fine (λ x. Unit {0}) P (given.value s) (λ x. of_no_record others place s) (some_fine (given.value s)) (λ x u. never_fine P others place)

  changed_fine : (found : Declared) (x : Checked) (place : Place) (all : Replaced) → record_of s.records x.expr_type ≡ Some found → ValueFits at locals x → AllReplaced at locals (record_type found).parts all
      → IfFine (λ y. ValueFits at locals y) (with_replaced x place all)
  unfolding with_replaced
  changed_fine found x place all e h r =
      let k = record_found s.records x.expr_type found e in
      then_fine (λ u. ReplacementsHave at locals (record_type found).parts all.positions (coded all.values)) (λ y. ValueFits at locals y) (all_fit all.wanted all.values)
      (λ u. fine (record { place = place; code = c.With x.code all.positions (coded all.values); expr_type = x.expr_type })) (all_replaced (record_type found).parts all r)
      (λ u l. subst (λ z. HasType at locals z (c.With x.code all.positions (coded all.values))) (sym k.1)
      (code.changed k.0 (record_type found) x.code all.positions (coded all.values) (fit.records k.0 found k.2) (subst (λ z. HasType at locals z x.code) k.1 h) l))

  parts_fine : (o : Option Declared) (parts : List Given) (x : Checked) (place : Place) → record_of s.records x.expr_type ≡ o → AllGiven parts → ValueFits at locals x → IfFine (λ y. ValueFits at locals y) (with_parts o parts x place s)
  parts_fine None parts x place e hs h = never_fine (λ y. ValueFits at locals y) parts x.place
  parts_fine (Some found) parts x place e hs h =
      then_fine (λ all. AllReplaced at locals (record_type found).parts all) (λ y. ValueFits at locals y) (replacements s found parts) (λ all. with_replaced x place all) (each_part found parts hs)
      (λ all r. changed_fine found x place all e h r)

pub with_sound : (a : Value) (parts : List Given) (place : Place) → ValueSound a → AllGiven parts → ValueSound (with_of a parts place)
unfolding with_of record_named record_of
with_sound a parts place h hs at locals s fit =
    then_fine (λ x. ValueFits at locals x) (λ x. ValueFits at locals x) (a s) (λ x. with_parts (record_of s.records x.expr_type) parts x place s) (h at locals s fit) (λ x hx. parts_fine at locals s fit (record_of s.records x.expr_type) parts x place refl hs hx)

-- the operators of assignments in both tables
same_operator : (o : AssignOp) → operator_in o ≡ operator_of o
unfolding operator_of
same_operator assign_op.Set = refl
same_operator assign_op.Add = refl
same_operator assign_op.Subtract = refl
same_operator assign_op.Multiply = refl
same_operator assign_op.Divide = refl
same_operator assign_op.Remainder = refl

only_set : (o : AssignOp) → operator_of o ≡ None → o ≡ assign_op.Set
unfolding operator_of
only_set assign_op.Set e = refl
only_set assign_op.Add e = absurd (cc)
only_set assign_op.Subtract e = absurd (cc)
only_set assign_op.Multiply e = absurd (cc)
only_set assign_op.Divide e = absurd (cc)
only_set assign_op.Remainder e = absurd (cc)

not_equal : (o : AssignOp) → operator_of o ≡ Some binary_op.Equal → ⊥
unfolding operator_of
not_equal assign_op.Set e = absurd (cc)
not_equal assign_op.Add e = absurd (cc)
not_equal assign_op.Subtract e = absurd (cc)
not_equal assign_op.Multiply e = absurd (cc)
not_equal assign_op.Divide e = absurd (cc)
not_equal assign_op.Remainder e = absurd (cc)

not_unequal : (o : AssignOp) → operator_of o ≡ Some binary_op.NotEqual → ⊥
unfolding operator_of
not_unequal assign_op.Set e = absurd (cc)
not_unequal assign_op.Add e = absurd (cc)
not_unequal assign_op.Subtract e = absurd (cc)
not_unequal assign_op.Multiply e = absurd (cc)
not_unequal assign_op.Divide e = absurd (cc)
not_unequal assign_op.Remainder e = absurd (cc)

shown_plain : (type : CsType) → Shows type → Plain type
shown_plain type op.int = int_alone
shown_plain type op.bool = bool_alone
shown_plain type op.text = text_alone

-- what such an assignment changes is no callback
plain_target : (o : AssignOp) (by : BinaryOp) (one other type : CsType) → operator_of o ≡ Some by → Combines by one other type → Plain one
unfolding operator_of
plain_target o by one other type e (op.arithmetic _ i) = int_alone
plain_target o by one other type e (op.ordering _ i) = int_alone
plain_target o by one other type e (op.equal _ _) = absurd (not_equal o e)
plain_target o by one other type e (op.not_equal _ _) = absurd (not_unequal o e)
plain_target o by one other type e (op.text_first _ show) = text_alone
plain_target o by one other type e (op.text_second _ show) = shown_plain one show

module _ (at : Surroundings) (locals : List CsType) (records : List Member) where
  -- what is assigned
  pub record Assigns (o : AssignOp) (type : CsType) (a : Code) : Type 0 where
    pub value : CsType
    pub takes : AssignTakes o type value
    pub has_value : CodeHas at locals value a

  joined_assigns : (o : AssignOp) (by : BinaryOp) (target : Variable) (type : CsType) (x : Checked) (given : ExprType) → operator_of o ≡ Some by → Joined (λ z. VariableHas at locals z target) (λ z. CodeHas at locals z x.code) (Of type) by given → fits given type ≡ true → Assigns o type x.code
  unfolding drops_argument fits fits_type may_be_null operator_of
  joined_assigns o by target type x given e j f =
      let own : type ≡ j.one = j.own type refl in
      let plain : Plain type = subst Plain (sym own) (plain_target o by j.one j.other j.type e j.takes) in
      let kept : j.type ≡ type = no_callback j.type type plain (ap (λ z. fits z type) (sym j.is) ∙ f) in
      record {
        value = j.other;
        takes = op.changed o by type j.other (same_operator o ∙ e) (subst (λ z. Combines by z j.other type) (sym own) (subst (λ z. Combines by j.one j.other z) kept j.takes));
        has_value = j.right;
      }

  assigned_fine : (o : AssignOp) (by : Option BinaryOp) (place : Place) (target : Variable) (type : CsType) (x : Checked) → operator_of o ≡ by → VariableHas at locals type target → ValueFits at locals x → IfFine (λ a. Assigns o type a) (assigned records by place type x)
  unfolding are_compared assigned binary_type common_type comparison_type drops_argument either_type fits fits_type fitting given_type is_comparable is_nullable is_shown is_text may_be_null may_compare operator_of plain_type shown sum_type taken_type wants
  assigned_fine o None place target type x e v h =
      weaker_fine (λ a. CodeHas at locals type a) (λ a. Assigns o type a) (fitting type x) (fitting_fine at locals type x h) (λ a k. record { value = type; takes = subst (λ z. AssignTakes z type type) (sym (only_set o e)) (op.set type); has_value = k })
  assigned_fine o (Some by) place target type x e v h =
      then_fine (Joined (λ z. VariableHas at locals z target) (λ z. CodeHas at locals z x.code) (Of type) by) (λ a. Assigns o type a) (binary_type records by place (Of type) x.place x.expr_type) (λ given. wants type x.place given >>= λ u. fine x.code)
      (joined_fine (λ z. VariableHas at locals z target) (λ z. CodeHas at locals z x.code) records o by place x.place (Of type) x.expr_type e v h)
      (λ given j. then_fine (λ u. fits given type ≡ true) (λ a. Assigns o type a) (wants type x.place given) (λ u. fine x.code) (wants_fine type x.place given) (λ u f. joined_assigns o by target type x given e j f))

pub assign_sound : (o : AssignOp) (target : Ident) (a : Value) (place : Place) → ValueSound a → ValueSound (assign o target a place)
unfolding assign are_compared assigned binary_type common_type comparison_type drops_argument either_type fits fits_type fitting given_type is_comparable is_nullable is_shown is_text may_be_null may_compare meant operator_of plain_type shown sum_type taken_type variable_of wants meant_by
assign_sound o target a place h at locals s fit =
    then_fine (λ one. meant s.names target.name ≡ Some one) (λ x. ValueFits at locals x) (known UnknownName target.place (meant s.names target.name))
    (λ one. a s >>= λ x. (variable_of target.place one.kind one.place >>= λ variable. (assigned s.records (operator_of o) target.place one.cs_type x >>= λ z. fine (checked place (c.Assign variable o z) t.Nothing)))) (known_fine UnknownName target.place (meant s.names target.name))
    (λ one e. then_fine (λ x. ValueFits at locals x) (λ r. ValueFits at locals r) (a s) (λ x. (variable_of target.place one.kind one.place >>= λ variable. (assigned s.records (operator_of o) target.place one.cs_type x >>= λ z. fine (checked place (c.Assign variable o z) t.Nothing)))) (h at locals s fit)
    (λ x hx. then_fine (λ variable. VariableHas at locals one.cs_type variable) (λ r. ValueFits at locals r) (variable_of target.place one.kind one.place) (λ variable. (assigned s.records (operator_of o) target.place one.cs_type x >>= λ z. fine (checked place (c.Assign variable o z) t.Nothing))) (named_variable at locals target.place one.kind one.place one.cs_type (fit.names target.name one e))
    (λ variable v. then_fine (λ z. Assigns at locals s.records o one.cs_type z) (λ r. ValueFits at locals r) (assigned s.records (operator_of o) target.place one.cs_type x) (λ z. fine (checked place (c.Assign variable o z) t.Nothing)) (assigned_fine at locals s.records o (operator_of o) target.place variable one.cs_type x refl v hx)
    (λ z k. code.assign variable o one.cs_type k.value z v k.takes k.has_value))))

pub step_sound : (o : StepOp) (target : Ident) (place : Place) → ValueSound (step o target place)
unfolding step drops_argument fits fits_type may_be_null meant variable_of wants meant_by
step_sound o target place at locals s fit =
    then_fine (λ one. meant s.names target.name ≡ Some one) (λ x. ValueFits at locals x) (known UnknownName target.place (meant s.names target.name))
    (λ one. variable_of target.place one.kind one.place >>= λ variable. (wants t.Int target.place (Of one.cs_type) >>= λ u. fine (checked place (c.Step variable o) t.Nothing))) (known_fine UnknownName target.place (meant s.names target.name))
    (λ one e. then_fine (λ variable. VariableHas at locals one.cs_type variable) (λ r. ValueFits at locals r) (variable_of target.place one.kind one.place) (λ variable. (wants t.Int target.place (Of one.cs_type) >>= λ u. fine (checked place (c.Step variable o) t.Nothing))) (named_variable at locals target.place one.kind one.place one.cs_type (fit.names target.name one e))
    (λ variable v. then_fine (λ u. fits (Of one.cs_type) t.Int ≡ true) (λ r. ValueFits at locals r) (wants t.Int target.place (Of one.cs_type)) (λ u. fine (checked place (c.Step variable o) t.Nothing)) (wants_fine t.Int target.place (Of one.cs_type))
    (λ u f. code.step variable o (subst (λ z. VariableHas at locals z variable) (no_callback one.cs_type t.Int int_alone f) v))))
