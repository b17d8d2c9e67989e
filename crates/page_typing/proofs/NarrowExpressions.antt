-- Each form of expression in two scopes, where its parts follow.
use Rattle.std.proofs.Common.{◌≡◌, suc, List, [], ◌∷◌, map, length, refl, sym, ap, subst}
use Rattle.std.specs.Prelude.{◌==◌, if◌then◌else◌, Some, None}
use Rattle.text_core.specs.declared.place.Place.{Place}
use Rattle.cs_ast.specs.declared.code.Code.{Code}
use Rattle.cs_ast.specs.declared.code.Code.TheVariants as c
use Rattle.cs_ast.specs.declared.cs_type.CsType.{CsType, out-CsType}
use Rattle.cs_ast.specs.declared.cs_type.CsType.TheOpen.{CsType-F}
use Rattle.cs_ast.specs.declared.cs_type.CsType.TheVariants as t
use Rattle.cs_ast.specs.declared.cs_type.TypeExpr.{TypeExpr}
use Rattle.cs_ast.specs.declared.code.LibraryMember.TheVariants as library
use Rattle.cs_ast.specs.declared.identifier.Ident.{Ident}
use Rattle.cs_ast.specs.declared.operators.BinaryOp.{BinaryOp}
use Rattle.cs_ast.specs.declared.operators.CastOp.{CastOp}
use Rattle.cs_ast.specs.declared.operators.UnaryOp.{UnaryOp}
use Rattle.cs_ast.specs.declared.scope.Scope.{Scope}
use Rattle.cs_rules.specs.declared.callee.Callee.{Callee}
use Rattle.cs_rules.specs.declared.callee.Dotted.{Dotted}
use Rattle.cs_rules.specs.declared.callee.Dotted.TheVariants as dotted
use Rattle.cs_rules.specs.declared.checked.Checked.{Checked}
use Rattle.cs_rules.specs.declared.checked.ExprType.{ExprType}
use Rattle.cs_rules.specs.declared.checked.ExprType.TheVariants.{Of, Null, Markup}
use Rattle.cs_rules.specs.declared.rule.Rule.TheVariants.{UnknownName, UnknownType}
use Rattle.cs_rules.specs.Judged.{Judged, fine, mismatch, known, each, ◌>>=◌}
use Rattle.cs_rules.specs.Types.{fits, fitting, wants, own_type, checked}
use Rattle.cs_rules.specs.Written.{record_named, type_of, written}
use Rattle.cs_rules.specs.Library.{value_of_member, null_member, callee_of_type, callee_of_value, callee_of_member, fragment_level, code_of_call, behind}
use Rattle.cs_rules.specs.Operators.{unary_type, shown, binary_type}
use Rattle.cs_rules.specs.Expressions as e
use Rattle.cs_rules.specs.Expressions.{Value, Given, Replacing, Replaced, chosen_type, items_of, all_fit, passed, replacing, replacements, of_no_record, with_replaced, with_parts, record_of}
use Rattle.cs_rules.specs.Types.{may_be_null}
use Rattle.page_typing.specs.Narrowing.{Follows, SameValue, SameCallee, Both}
use Rattle.page_typing.proofs.Following.{then_follows, then_value, then_same, either_follows}

-- a value with other code
abbrev pub like : Checked → Code → Checked
like x code = record { place = x.place; code = code; expr_type = x.expr_type }

pub fitting_follows : (wanted : CsType) (x : Checked) (code : Code) → Follows Both (fitting wanted x) (fitting wanted (like x code))
unfolding fitting
fitting_follows wanted x code = either_follows Both (fits x.expr_type wanted) (fine x.code) (mismatch x.place) (fine code) (mismatch x.place) (code, refl, tt) tt

-- two scopes of the same records and result
module _ (s s' : Scope) where
  abbrev Values : Value → Value → Type 0
  Values a b = Follows SameValue (a s) (b s')

  pub unary_follows : (op : UnaryOp) (a b : Value) (place : Place) → Values a b → Values (e.unary op a place) (e.unary op b place)
  unfolding e.unary
  unary_follows op a b place h = then_value SameValue (a s) (b s') _ _ h (λ x code. then_follows Both SameValue (fitting (unary_type op) x) (fitting (unary_type op) (like x code)) _ _ (fitting_follows (unary_type op) x code) (λ y z k. (_, refl, (_, refl))))

  pub cast_follows : (op : CastOp) (a b : Value) (place : Place) → Values a b → Values (e.cast op a place) (e.cast op b place)
  unfolding e.cast
  cast_follows op a b place h = then_value SameValue (a s) (b s') _ _ h (λ x code. then_follows Both SameValue (fitting t.Text x) (fitting t.Text (like x code)) _ _ (fitting_follows t.Text x code) (λ y z k. (_, refl, (_, refl))))

  pub binary_follows : (op : BinaryOp) (a b a' b' : Value) (place : Place) → s'.records ≡ s.records → Values a a' → Values b b' → Values (e.binary op a b place) (e.binary op a' b' place)
  unfolding e.binary
  binary_follows op a b a' b' place same h g =
      then_value SameValue (a s) (a' s') _ _ h
      (λ x code. then_value SameValue (b s) (b' s') _ _ g
      (λ y other. subst (λ records. Follows SameValue (binary_type s.records op x.place x.expr_type y.place y.expr_type >>= λ given. fine (record { place = place; code = c.Binary op x.code y.code; expr_type = given })) (binary_type records op x.place x.expr_type y.place y.expr_type >>= λ given. fine (record { place = place; code = c.Binary op code other; expr_type = given }))) (sym same)
      (then_same SameValue (binary_type s.records op x.place x.expr_type y.place y.expr_type) _ _ (λ given. (_, refl, (_, refl))))))

  pub conditional_follows : (a b d a' b' d' : Value) (place : Place) → Values a a' → Values b b' → Values d d' → Values (e.conditional a b d place) (e.conditional a' b' d' place)
  unfolding e.conditional chosen_type
  conditional_follows a b d a' b' d' place h g k =
      then_value SameValue (a s) (a' s') _ _ h
      (λ test code. then_value SameValue (b s) (b' s') _ _ g
      (λ x one. then_value SameValue (d s) (d' s') _ _ k
      (λ y other. then_follows Both SameValue (fitting t.Bool test) (fitting t.Bool (like test code)) _ _ (fitting_follows t.Bool test code)
      (λ z w m. then_same SameValue (chosen_type x y) _ _ (λ given. (_, refl, (_, refl)))))))

  pub hole_follows : (a b : Value) → Values a b → Follows Both (e.hole a s) (e.hole b s')
  unfolding e.hole
  hole_follows a b h = then_value Both (a s) (b s') _ _ h (λ x code. then_same Both (shown x.place x.expr_type) _ _ (λ y. (_, refl, tt)))

  -- pieces that follow, one by one
  pub data PiecesFollow : List (Scope → Judged Code) → List (Scope → Judged Code) → Type 0 where
    no_piece : PiecesFollow [] []
    one_piece : (a b : Scope → Judged Code) (us vs : List (Scope → Judged Code)) → Follows Both (a s) (b s') → PiecesFollow us vs → PiecesFollow (a ∷ us) (b ∷ vs)

  pieces_follow : (us vs : List (Scope → Judged Code)) → PiecesFollow us vs → Follows Both (each (λ part. part s) us) (each (λ part. part s') vs)
  pieces_follow us vs no_piece = ([], refl, tt)
  pieces_follow us vs (one_piece a b us1 vs1 h hs) =
      then_follows Both Both (a s) (b s') _ _ h (λ x y k. then_follows Both Both (each (λ part. part s) us1) (each (λ part. part s') vs1) _ _ (pieces_follow us1 vs1 hs) (λ xs ys m. (_, refl, tt)))

  pub interpolated_follows : (us vs : List (Scope → Judged Code)) (place : Place) → PiecesFollow us vs → Values (e.interpolated us place) (e.interpolated vs place)
  unfolding e.interpolated
  interpolated_follows us vs place h = then_follows Both SameValue (each (λ part. part s) us) (each (λ part. part s') vs) _ _ (pieces_follow us vs h) (λ xs ys k. (_, refl, (_, refl)))

  pub index_follows : (a b a' b' : Value) (place : Place) → Values a a' → Values b b' → Values (e.index a b place) (e.index a' b' place)
  unfolding e.index
  index_follows a b a' b' place h g =
      then_value SameValue (a s) (a' s') _ _ h
      (λ x code. then_value SameValue (b s) (b' s') _ _ g
      (λ y other. then_same SameValue (items_of x.place x.expr_type) _ _
      (λ item. then_follows Both SameValue (fitting t.Int y) (fitting t.Int (like y other)) _ _ (fitting_follows t.Int y other) (λ z w k. (_, refl, (_, refl))))))

  -- what stands behind a dot
  dotted_follows : (x : Checked) (code : Code) (name : Ident) → s'.records ≡ s.records → e.dotted s' (like x code) name ≡ e.dotted s x name
  unfolding e.dotted
  dotted_follows x code name same = ap (λ records. own_type x.place x.expr_type >>= λ cs_type. known UnknownName name.place (behind records cs_type name.name)) same

  member_value_follows : (place : Place) (code other : Code) (d : Dotted) → Follows SameValue (value_of_member place code d) (value_of_member place other d)
  unfolding value_of_member
  member_value_follows place code other (dotted.Part number type) = (_, refl, (_, refl))
  member_value_follows place code other (dotted.Property member type) = (_, refl, (_, refl))
  member_value_follows place code other (dotted.Method member takes gives) = tt
  member_value_follows place code other (dotted.Invoke takes) = tt

  null_member_follows : (place : Place) (x : Checked) (code : Code) (d : Dotted) → Follows SameValue (null_member place x d) (null_member place (like x code) d)
  unfolding null_member
  null_member_follows place x code (dotted.Part number type) = either_follows SameValue (may_be_null type) _ _ _ _ (_, refl, (_, refl)) tt
  null_member_follows place x code (dotted.Property member type) = either_follows SameValue (may_be_null type) _ _ _ _ (_, refl, (_, refl)) tt
  null_member_follows place x code (dotted.Method member takes gives) = tt
  null_member_follows place x code (dotted.Invoke takes) = tt

  -- a value us what is called
  fragment_follows : (place : Place) (code other : Code) (l : CsType-F CsType) → Follows SameCallee (fragment_level place code l) (fragment_level place other l)
  fragment_follows place code other (CsType-F.Fragment (Some argument)) = (_, refl, (_, refl))
  fragment_follows place code other (CsType-F.Fragment None) = tt
  fragment_follows place code other CsType-F.Int = tt
  fragment_follows place code other CsType-F.Bool = tt
  fragment_follows place code other CsType-F.Text = tt
  fragment_follows place code other (CsType-F.Rec name) = tt
  fragment_follows place code other (CsType-F.List item) = tt
  fragment_follows place code other (CsType-F.Callback argument) = tt
  fragment_follows place code other CsType-F.Change = tt
  fragment_follows place code other CsType-F.Args = tt
  fragment_follows place code other CsType-F.Nothing = tt

  type_called_follows : (place : Place) (code other : Code) (type : ExprType) → Follows SameCallee (callee_of_type place code type) (callee_of_type place other type)
  type_called_follows place code other (Of type) = fragment_follows place code other (out-CsType type)
  type_called_follows place code other Null = tt
  type_called_follows place code other Markup = tt

  value_called_follows : (x : Checked) (code : Code) → Follows SameCallee (callee_of_value x) (callee_of_value (like x code))
  unfolding callee_of_value
  value_called_follows x code = type_called_follows x.place x.code code x.expr_type

  pub called_follows : (j k : Judged Checked) → Follows SameValue j k → Follows SameCallee (j >>= callee_of_value) (k >>= callee_of_value)
  called_follows j k h = then_value SameCallee j k callee_of_value callee_of_value h (λ x code. value_called_follows x code)

  member_callee_follows : (place : Place) (code other : Code) (d : Dotted) → Follows SameCallee (callee_of_member place code d) (callee_of_member place other d)
  unfolding callee_of_member
  member_callee_follows place code other (dotted.Method member takes gives) = (_, refl, (_, refl))
  member_callee_follows place code other (dotted.Invoke takes) = (_, refl, (_, refl))
  member_callee_follows place code other (dotted.Part number type) = called_follows (value_of_member place code (dotted.Part number type)) (value_of_member place other (dotted.Part number type)) (member_value_follows place code other (dotted.Part number type))
  member_callee_follows place code other (dotted.Property member type) = called_follows (value_of_member place code (dotted.Property member type)) (value_of_member place other (dotted.Property member type)) (member_value_follows place code other (dotted.Property member type))

  pub member_follows : (a b : Value) (name : Ident) (place : Place) → s'.records ≡ s.records → Values a b → Values (e.member a name place) (e.member b name place)
  unfolding e.member
  member_follows a b name place same h =
      then_value SameValue (a s) (b s') _ _ h
      (λ x code. subst (λ j. Follows SameValue (e.dotted s x name >>= value_of_member place x.code) (j >>= value_of_member place code)) (sym (dotted_follows x code name same))
      (then_same SameValue (e.dotted s x name) _ _ (λ d. member_value_follows place x.code code d)))

  pub null_follows : (a b : Value) (name : Ident) (place : Place) → s'.records ≡ s.records → Values a b → Values (e.member_or_null a name place) (e.member_or_null b name place)
  unfolding e.member_or_null
  null_follows a b name place same h =
      then_value SameValue (a s) (b s') _ _ h
      (λ x code. subst (λ j. Follows SameValue (e.dotted s x name >>= null_member place x) (j >>= null_member place (like x code))) (sym (dotted_follows x code name same))
      (then_same SameValue (e.dotted s x name) _ _ (λ d. null_member_follows place x code d)))

  pub member_called_follows : (a b : Value) (name : Ident) (place : Place) → s'.records ≡ s.records → Values a b → Follows SameCallee (e.member_called a name place s) (e.member_called b name place s')
  unfolding e.member_called
  member_called_follows a b name place same h =
      then_value SameCallee (a s) (b s') _ _ h
      (λ x code. subst (λ j. Follows SameCallee (e.dotted s x name >>= callee_of_member place x.code) (j >>= callee_of_member place code)) (sym (dotted_follows x code name same))
      (then_same SameCallee (e.dotted s x name) _ _ (λ d. member_callee_follows place x.code code d)))

  -- values that follow, one by one
  pub data ValuesFollow : List Value → List Value → Type 0 where
    no_value : ValuesFollow [] []
    one_value : (a b : Value) (us vs : List Value) → Values a b → ValuesFollow us vs → ValuesFollow (a ∷ us) (b ∷ vs)

  -- lists of values of the same types at the same places
  pub data Alike : List Checked → List Checked → Type 0 where
    no_one : Alike [] []
    one_more : (x : Checked) (code : Code) (xs ys : List Checked) → Alike xs ys → Alike (x ∷ xs) (like x code ∷ ys)

  values_follow : (us vs : List Value) → ValuesFollow us vs → Follows Alike (each (λ a. a s) us) (each (λ b. b s') vs)
  values_follow us vs no_value = ([], refl, no_one)
  values_follow us vs (one_value a b us1 vs1 h hs) =
      then_value Alike (a s) (b s') _ _ h (λ x code. then_follows Alike Alike (each (λ z. z s) us1) (each (λ z. z s') vs1) _ _ (values_follow us1 vs1 hs) (λ xs ys k. (_, refl, one_more x code xs ys k)))

  same_length : (xs ys : List Checked) → Alike xs ys → length ys ≡ length xs
  same_length xs ys no_one = refl
  same_length xs ys (one_more x code xs1 ys1 h) = ap (λ n. suc n) (same_length xs1 ys1 h)

  pub same_fit : (takes : List CsType) (xs ys : List Checked) → Alike xs ys → all_fit takes ys ≡ all_fit takes xs
  same_fit [] xs ys h = refl
  same_fit (wanted ∷ others) xs ys no_one = refl
  same_fit (wanted ∷ others) xs ys (one_more x code xs1 ys1 h) = ap (λ j. wants wanted x.place x.expr_type >>= λ first. j) (same_fit others xs1 ys1 h)

  passed_follows : (place : Place) (takes : List CsType) (xs ys : List Checked) → Alike xs ys → Follows Both (passed place takes xs) (passed place takes ys)
  unfolding passed
  passed_follows place takes xs ys h =
      subst (λ n. Follows Both (passed place takes xs) (if length takes == n then (all_fit takes ys >>= λ fit. fine (map (λ (x : Checked). x.code) ys)) else mismatch place)) (sym (same_length xs ys h))
      (either_follows Both (length takes == length xs) _ _ _ _
      (subst (λ j. Follows Both (all_fit takes xs >>= λ fit. fine (map (λ (x : Checked). x.code) xs)) (j >>= λ fit. fine (map (λ (x : Checked). x.code) ys))) (sym (same_fit takes xs ys h))
      (then_same Both (all_fit takes xs) _ _ (λ fit. (_, refl, tt)))) tt)

  pub call_follows : (f g : Scope → Judged Callee) (us vs : List Value) (place : Place) → Follows SameCallee (f s) (g s') → ValuesFollow us vs → Values (e.call f us place) (e.call g vs place)
  unfolding e.call
  call_follows f g us vs place h hs =
      then_follows SameCallee SameValue (f s) (g s') _ _ h
      (λ callee other same. subst (λ (z : Callee). Follows SameValue (each (λ a. a s) us >>= λ xs. (passed place callee.takes xs >>= λ codes. fine (checked place (code_of_call callee.called codes) callee.gives))) (each (λ b. b s') vs >>= λ xs. (passed place z.takes xs >>= λ codes. fine (checked place (code_of_call z.called codes) z.gives)))) (sym same.1)
      (then_follows Alike SameValue (each (λ a. a s) us) (each (λ b. b s') vs) _ _ (values_follow us vs hs)
      (λ xs ys k. then_follows Both SameValue (passed place callee.takes xs) (passed place callee.takes ys) _ _ (passed_follows place callee.takes xs ys k) (λ codes others m. (_, refl, (_, refl))))))

  pub new_record_follows : (name : Ident) (us vs : List Value) (place : Place) → s'.records ≡ s.records → ValuesFollow us vs → Values (e.new name us place) (e.new name vs place)
  unfolding e.new
  new_record_follows name us vs place same hs =
      subst (λ records. Follows SameValue (e.new name us place s) (known UnknownType name.place (record_named records name.name) >>= λ found. (each (λ b. b s') vs >>= λ xs. (passed place (map (λ part. type_of part.cs_type) found.parts) xs >>= λ codes. fine (checked place (c.New found.number codes) (t.Rec name.name)))))) (sym same)
      (then_same SameValue (known UnknownType name.place (record_named s.records name.name)) _ _
      (λ found. then_follows Alike SameValue (each (λ a. a s) us) (each (λ b. b s') vs) _ _ (values_follow us vs hs)
      (λ xs ys k. then_follows Both SameValue (passed place (map (λ part. type_of part.cs_type) found.parts) xs) (passed place (map (λ part. type_of part.cs_type) found.parts) ys) _ _ (passed_follows place (map (λ part. type_of part.cs_type) found.parts) xs ys k) (λ codes others m. (_, refl, (_, refl))))))

  pub empty_follows : (type : TypeExpr) (place : Place) → s'.records ≡ s.records → Values (e.empty_list type place) (e.empty_list type place)
  unfolding e.empty_list
  empty_follows type place same =
      subst (λ records. Follows SameValue (e.empty_list type place s) (written records type >>= λ item. fine (checked place (c.Library library.EmptyList []) (t.List item)))) (sym same) (then_same SameValue (written s.records type) _ _ (λ item. (_, refl, (_, refl))))
