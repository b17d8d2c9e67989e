-- Expressions one after another, and what is made of their values.
use Rattle.std.proofs.Common.{◌≡◌, ℕ, List, [], ◌∷◌, ◌++◌, length, refl, sym, ap, subst, ◌∙◌, arith}
use Rattle.std.proofs.lemmas.Bool.{lt-ltb}
use Rattle.std.proofs.lemmas.Option.{slice_get_within}
use Rattle.std.specs.Prelude.{true, nat_lt, if◌then◌else◌, slice_get, slice_set, Some, None}
use Rattle.cs_ast.specs.declared.cs_type.CsType.{CsType}
use Rattle.cs_ast.specs.declared.cs_type.CsType.TheVariants as t
use Rattle.cs_ast.specs.declared.value.Value.{Value}
use Rattle.cs_ast.specs.declared.value.Value.TheVariants as v
use Rattle.cs_meaning.specs.State.{State}
use Rattle.cs_meaning.specs.Outcome.{gives, Meaning, and_then}
use Rattle.cs_meaning.specs.Scopes.{all_of}
use Rattle.cs_meaning.specs.NewValues.{made, new_text, appended, texts_of}
use Rattle.cs_meaning.specs.Reading.{used, part_of, part_or_null, indexed, with_parts, place_of}
use Rattle.cs_meaning.specs.Kinds.{record_of, is_null}
use Rattle.cs_meaning.specs.Outcome.{found}
use Rattle.cs_meaning.specs.Expressions.{one_operand, two_operands, interpolated, new_record, record_with}
use Rattle.cs_typing.specs.Types.{RecordType, Types}
use Rattle.cs_typing.specs.Values.{HasNull, ValueHas, ValuesHave}
use Rattle.cs_typing.specs.Values as has
use Rattle.cs_typing.specs.Operators.{Shows}
use Rattle.cs_typing.specs.States.{StateHas}
use Rattle.cs_typing.specs.Outcomes.{Fits, no_jump, Typed, Gives}
use Rattle.cs_typing.proofs.ValueKinds.{IsRecord}
use Rattle.cs_typing.proofs.ValueLists.{as_many, value_in, value_set, item_at}
use Rattle.cs_typing.proofs.Fitting.{then_fits, either_fits}
use Rattle.cs_typing.proofs.Reading.{found_fits, made_fits, one_fits, two_fit, record_used, list_used, at_place_fits}
use Rattle.cs_typing.proofs.OperatorLemmas.{shown}

-- expressions that give values of these types, one by one
pub data AllGive (types : Types) (locals : List CsType) : List CsType → List Meaning → Type 0 where
  none : AllGive types locals [] []
  more : (type : CsType) (others : List CsType) (a : Meaning) (rest : List Meaning) → Gives types locals type a → AllGive types locals others rest → AllGive types locals (type ∷ others) (a ∷ rest)

-- types whose values show texts
pub data AllShow : List CsType → Type 0 where
  none : AllShow []
  more : (type : CsType) (others : List CsType) → Shows type → AllShow others → AllShow (type ∷ others)

-- the types of the parts at these positions
pub data Positions (parts : List CsType) : List ℕ → List CsType → Type 0 where
  none : Positions parts [] []
  more : (at : ℕ) (positions : List ℕ) (type : CsType) (others : List CsType) → slice_get parts at ≡ Some type → Positions parts positions others → Positions parts (at ∷ positions) (type ∷ others)

module _ (types : Types) (locals : List CsType) where
  -- values of these types, with the locals of theirs
  abbrev pub AllTyped : List CsType → List Value → State → Type 0
  AllTyped ts xs s = ValuesHave types ts xs × StateHas types locals s

  pub all_fit : (ts : List CsType) (runs : List Meaning) (s : State) → AllGive types locals ts runs → StateHas types locals s → Fits (no_jump types) (AllTyped ts) (all_of runs s)
  unfolding all_of
  all_fit ts runs s none hs = (has.none, hs)
  all_fit ts runs s (more type others a rest h g) hs =
      then_fits (no_jump types) (Typed types locals type) (AllTyped (type ∷ others)) (a s) (λ x s1. and_then (all_of rest s1) (λ xs s2. gives (x ∷ xs) s2)) (h s hs)
      (λ x s1 k. then_fits (no_jump types) (AllTyped others) (AllTyped (type ∷ others)) (all_of rest s1) (λ xs s2. gives (x ∷ xs) s2) (all_fit others rest s1 g k.1) (λ xs s2 l. (has.more type others x xs k.0 l.0, l.1)))

  -- what they show, one behind the other
  texts_shown : (ts : List CsType) (xs : List Value) → AllShow ts → ValuesHave types ts xs → (y : List ℕ) × (texts_of xs ≡ Some y)
  unfolding texts_of
  texts_shown [] xs none has.none = ([], refl)
  texts_shown (type ∷ others) xs (more _ _ show rest) (has.more _ _ x ys h hs) =
      let a = shown types locals type x show h in
      let b = texts_shown others ys rest hs in
      (a.0 ++ b.0, ap (λ o. appended o (texts_of ys)) a.1 ∙ ap (appended (Some a.0)) b.1)

  pub interpolated_gives : (ts : List CsType) (pieces : List Meaning) → AllShow ts → AllGive types locals ts pieces → Gives types locals t.Text (interpolated pieces)
  interpolated_gives ts pieces show h s hs =
      then_fits (no_jump types) (AllTyped ts) (Typed types locals t.Text) (all_of pieces s) (λ xs s1. new_text (texts_of xs) s1) (all_fit ts pieces s h hs)
      (λ xs s1 k. let y = texts_shown ts xs show k.0 in subst (λ o. Fits (no_jump types) (Typed types locals t.Text) (new_text o s1)) (sym y.1) (made_fits types locals t.Text (v.Text y.0) s1 (has.text y.0) k.1))

  -- a new record
  pub new_gives : (name : List ℕ) (r : RecordType) (parts : List Meaning) → types.records name ≡ Some r → AllGive types locals r.parts parts → Gives types locals (t.Rec name) (new_record r.number parts)
  new_gives name r parts named h s hs =
      then_fits (no_jump types) (AllTyped r.parts) (Typed types locals (t.Rec name)) (all_of parts s) (λ xs s1. made (v.Rec r.number xs) s1) (all_fit r.parts parts s h hs)
      (λ xs s1 k. made_fits types locals (t.Rec name) (v.Rec r.number xs) s1 (has.record_of name r xs named k.0) k.1)

  -- the declaration that a record of this name has
  declared_as : (name : List ℕ) (r : RecordType) (x : Value) → types.records name ≡ Some r → (is : IsRecord types name x) → is.declaration ≡ r
  declared_as name r x named is = let e : Some is.declaration ≡ Some r = sym is.named ∙ named in cc

  -- parts of a record
  part_fits : (name : List ℕ) (r : RecordType) (type : CsType) (at : ℕ) (x : Value) (s : State) → types.records name ≡ Some r → slice_get r.parts at ≡ Some type → ValueHas types (t.Rec name) x → StateHas types locals s → Fits (no_jump types) (Typed types locals type) (part_of at x s)
  part_fits name r type at x s named e h hs =
      record_used types (Typed types locals type) name x (λ it s1. found (slice_get it.1 at) s1) s h hs.1
      (λ is. found_fits types locals type (slice_get is.parts at) s (value_in types r.parts is.parts at type (subst (λ (d : RecordType). ValuesHave types d.parts is.parts) (declared_as name r x named is) is.have) e) hs)

  pub part_gives : (name : List ℕ) (r : RecordType) (type : CsType) (a : Meaning) (at : ℕ) → types.records name ≡ Some r → slice_get r.parts at ≡ Some type → Gives types locals (t.Rec name) a → Gives types locals type (one_operand a (part_of at))
  part_gives name r type a at named e h s hs = one_fits types locals (t.Rec name) (Typed types locals type) a (part_of at) s h hs (λ x s1 hx hs1. part_fits name r type at x s1 named e hx hs1)

  pub null_part_gives : (name : List ℕ) (r : RecordType) (type : CsType) (a : Meaning) (at : ℕ) → types.records name ≡ Some r → slice_get r.parts at ≡ Some type → HasNull type → Gives types locals (t.Rec name) a → Gives types locals type (one_operand a (part_or_null at))
  null_part_gives name r type a at named e nullable h s hs =
      one_fits types locals (t.Rec name) (Typed types locals type) a (part_or_null at) s h hs
      (λ x s1 hx hs1. either_fits (no_jump types) (Typed types locals type) (is_null x) (gives v.Null s1) (part_of at x s1) (has.null type nullable, hs1) (part_fits name r type at x s1 named e hx hs1))

  -- an item of a list
  pub index_gives : (type : CsType) (a b : Meaning) → Gives types locals (t.List type) a → Gives types locals t.Int b → Gives types locals type (two_operands a b indexed)
  index_gives type a b h g s hs =
      two_fit types locals (t.List type) t.Int (Typed types locals type) a b indexed s h g hs
      (λ x y s1 hx hy hs1. list_used types (Typed types locals type) type x (λ items s2. and_then (place_of (length items) y s2) (λ at s3. found (slice_get items at) s3)) s1 hx hs1.1
      (λ items have. at_place_fits types (Typed types locals type) (length items) y (λ at s3. found (slice_get items at) s3) s1 hy hs1.1
      (λ at below. found_fits types locals type (slice_get items at) s1 (item_at types type items at have below) hs1)))

  -- other parts at these positions
  replaced : (parts : List CsType) (positions : List ℕ) (ts : List CsType) (xs olds : List Value) → Positions parts positions ts → ValuesHave types ts xs → ValuesHave types parts olds → (news : List Value) × (with_parts positions xs olds ≡ Some news) × ValuesHave types parts news
  unfolding with_parts
  replaced parts all ts xs olds none has.none h = (olds, refl, h)
  replaced parts all ts xs olds (more at positions type others e rest) (has.more _ _ x ys hx hs) h =
      let below : nat_lt at (length olds) ≡ true = lt-ltb at (length olds) (omega (arith, slice_get_within parts at type e, as_many types parts olds h)) in
      let k = replaced parts positions others ys (slice_set olds at x) rest hs (value_set types parts olds at type x h e hx) in
      (k.0, ap (λ d. if d then with_parts positions ys (slice_set olds at x) else None) below ∙ k.1, k.2)

  pub with_gives : (name : List ℕ) (r : RecordType) (a : Meaning) (positions : List ℕ) (ts : List CsType) (values : List Meaning) → types.records name ≡ Some r → Positions r.parts positions ts → Gives types locals (t.Rec name) a → AllGive types locals ts values → Gives types locals (t.Rec name) (record_with a positions values)
  with_gives name r a positions ts values named at_them h g s hs =
      one_fits types locals (t.Rec name) (Typed types locals (t.Rec name)) a (λ x s1. and_then (used x (record_of x) s1) (λ it s2. and_then (all_of values s2) (λ xs s3. and_then (found (with_parts positions xs it.1) s3) (λ parts s4. made (v.Rec it.0 parts) s4)))) s h hs
      (λ x s1 hx hs1. record_used types (Typed types locals (t.Rec name)) name x (λ it s2. and_then (all_of values s2) (λ xs s3. and_then (found (with_parts positions xs it.1) s3) (λ parts s4. made (v.Rec it.0 parts) s4))) s1 hx hs1.1
      (λ is. then_fits (no_jump types) (AllTyped ts) (Typed types locals (t.Rec name)) (all_of values s1) (λ xs s3. and_then (found (with_parts positions xs is.parts) s3) (λ parts s4. made (v.Rec is.declaration.number parts) s4)) (all_fit ts values s1 g hs1)
      (λ xs s3 k. changed x is xs s3 k.0 k.1)))
    where
      changed : (x : Value) (is : IsRecord types name x) (xs : List Value) (s3 : State) → ValuesHave types ts xs → StateHas types locals s3 → Fits (no_jump types) (Typed types locals (t.Rec name)) (and_then (found (with_parts positions xs is.parts) s3) (λ parts s4. made (v.Rec is.declaration.number parts) s4))
      changed x is xs s3 hxs hs3 =
          let same = declared_as name r x named is in
          let k = replaced r.parts positions ts xs is.parts at_them hxs (subst (λ (d : RecordType). ValuesHave types d.parts is.parts) same is.have) in
          subst (λ o. Fits (no_jump types) (Typed types locals (t.Rec name)) (and_then (found o s3) (λ parts s4. made (v.Rec is.declaration.number parts) s4))) (sym k.1)
          (made_fits types locals (t.Rec name) (v.Rec is.declaration.number k.0) s3 (has.record_of name is.declaration k.0 is.named (subst (λ (d : RecordType). ValuesHave types d.parts k.0) (sym same) k.2)) hs3)
