-- What a value of a type is.
use Rattle.std.proofs.Common.{◌≡◌, ℕ, List, ◌++◌, [], ◌∷◌, refl, sym, ap, subst, ◌∙◌, ◌⊎◌, inl, inr}
use Rattle.std.specs.Prelude.{ℤ, Bool, Option, Some}
use Rattle.cs_ast.specs.declared.cs_type.CsType.{CsType, out-CsType}
use Rattle.cs_ast.specs.declared.cs_type.CsType.TheOpen.{CsType-F}
use Rattle.cs_ast.specs.declared.cs_type.CsType.TheVariants as t
use Rattle.cs_ast.specs.declared.value.Value.{Value}
use Rattle.cs_ast.specs.declared.value.Value.TheVariants as v
use Rattle.cs_typing.specs.Types.{RecordType, Signature, Types}
use Rattle.cs_typing.specs.Values.{HasNull, Accepts, awaited, ValueHas, ValuesHave, ItemsHave}
use Rattle.cs_typing.specs.Values as has

-- types that are the same have the same parts
one_item : (a b : CsType) → t.List a ≡ t.List b → a ≡ b
one_item a b e = let h : CsType-F.List a ≡ CsType-F.List b = sym (t.outs-List a) ∙ ap out-CsType e ∙ t.outs-List b in cc

one_argument : (a b : Option CsType) → t.Callback a ≡ t.Callback b → a ≡ b
one_argument a b e = let h : CsType-F.Callback a ≡ CsType-F.Callback b = sym (t.outs-Callback a) ∙ ap out-CsType e ∙ t.outs-Callback b in cc

one_awaited : (a b : Option CsType) → t.Fragment a ≡ t.Fragment b → a ≡ b
one_awaited a b e = let h : CsType-F.Fragment a ≡ CsType-F.Fragment b = sym (t.outs-Fragment a) ∙ ap out-CsType e ∙ t.outs-Fragment b in cc

-- what null is no value of
pub no_null_int : (type : CsType) → HasNull type → type ≡ t.Int → ⊥
no_null_int type has.text e = absurd (cc)
no_null_int type (has.record_of n) e = absurd (cc)
no_null_int type (has.list a) e = absurd (cc)
no_null_int type (has.callback a) e = absurd (cc)
no_null_int type (has.fragment a) e = absurd (cc)
no_null_int type has.args e = absurd (cc)

pub no_null_bool : (type : CsType) → HasNull type → type ≡ t.Bool → ⊥
no_null_bool type has.text e = absurd (cc)
no_null_bool type (has.record_of n) e = absurd (cc)
no_null_bool type (has.list a) e = absurd (cc)
no_null_bool type (has.callback a) e = absurd (cc)
no_null_bool type (has.fragment a) e = absurd (cc)
no_null_bool type has.args e = absurd (cc)

pub no_null_change : (type : CsType) → HasNull type → type ≡ t.Change → ⊥
no_null_change type has.text e = absurd (cc)
no_null_change type (has.record_of n) e = absurd (cc)
no_null_change type (has.list a) e = absurd (cc)
no_null_change type (has.callback a) e = absurd (cc)
no_null_change type (has.fragment a) e = absurd (cc)
no_null_change type has.args e = absurd (cc)

module _ (types : Types) where
  pub is_int : (type : CsType) (x : Value) → ValueHas types type x → type ≡ t.Int → (n : ℤ) × (x ≡ v.Int n)
  is_int type x (has.int n) e = (n, refl)
  is_int type x (has.null _ h) e = absurd (no_null_int type h e)
  is_int type x (has.bool b) e = absurd (cc)
  is_int type x (has.text y) e = absurd (cc)
  is_int type x (has.record_of n r parts h hs) e = absurd (cc)
  is_int type x (has.list a items hs) e = absurd (cc)
  is_int type x (has.callback argument last captured body who place captures h1 h2 h3 h4 h5) e = absurd (cc)
  is_int type x (has.fragment argument captured template who place captures h1 h2 h3 h4) e = absurd (cc)
  is_int type x (has.change y) e = absurd (cc)
  is_int type x (has.anything y) e = absurd (cc)

  pub is_bool : (type : CsType) (x : Value) → ValueHas types type x → type ≡ t.Bool → (b : Bool) × (x ≡ v.Bool b)
  is_bool type x (has.bool b) e = (b, refl)
  is_bool type x (has.null _ h) e = absurd (no_null_bool type h e)
  is_bool type x (has.int n) e = absurd (cc)
  is_bool type x (has.text y) e = absurd (cc)
  is_bool type x (has.record_of n r parts h hs) e = absurd (cc)
  is_bool type x (has.list a items hs) e = absurd (cc)
  is_bool type x (has.callback argument last captured body who place captures h1 h2 h3 h4 h5) e = absurd (cc)
  is_bool type x (has.fragment argument captured template who place captures h1 h2 h3 h4) e = absurd (cc)
  is_bool type x (has.change y) e = absurd (cc)
  is_bool type x (has.anything y) e = absurd (cc)

  pub is_change : (type : CsType) (x : Value) → ValueHas types type x → type ≡ t.Change → (y : List ℕ) × (x ≡ v.Text y)
  is_change type x (has.change y) e = (y, refl)
  is_change type x (has.null _ h) e = absurd (no_null_change type h e)
  is_change type x (has.int n) e = absurd (cc)
  is_change type x (has.bool b) e = absurd (cc)
  is_change type x (has.text y) e = absurd (cc)
  is_change type x (has.record_of n r parts h hs) e = absurd (cc)
  is_change type x (has.list a items hs) e = absurd (cc)
  is_change type x (has.callback argument last captured body who place captures h1 h2 h3 h4 h5) e = absurd (cc)
  is_change type x (has.fragment argument captured template who place captures h1 h2 h3 h4) e = absurd (cc)
  is_change type x (has.anything y) e = absurd (cc)

  pub is_text : (type : CsType) (x : Value) → ValueHas types type x → type ≡ t.Text → (x ≡ v.Null) ⊎ ((y : List ℕ) × (x ≡ v.Text y))
  is_text type x (has.text y) e = inr (y, refl)
  is_text type x (has.null _ h) e = inl refl
  is_text type x (has.int n) e = absurd (cc)
  is_text type x (has.bool b) e = absurd (cc)
  is_text type x (has.record_of n r parts h hs) e = absurd (cc)
  is_text type x (has.list a items hs) e = absurd (cc)
  is_text type x (has.callback argument last captured body who place captures h1 h2 h3 h4 h5) e = absurd (cc)
  is_text type x (has.fragment argument captured template who place captures h1 h2 h3 h4) e = absurd (cc)
  is_text type x (has.change y) e = absurd (cc)
  is_text type x (has.anything y) e = absurd (cc)

  -- a list of items of a type
  pub record IsList (type : CsType) (x : Value) : Type 0 where
    pub items : List Value
    pub is : x ≡ v.List items
    pub have : ItemsHave types type items

  pub is_list : (type item : CsType) (x : Value) → ValueHas types type x → type ≡ t.List item → (x ≡ v.Null) ⊎ IsList item x
  is_list type item x (has.list a items hs) e = let same : a ≡ item = one_item a item e in inr (record { items = items; is = refl; have = subst (λ z. ItemsHave types z items) same hs })
  is_list type item x (has.null _ h) e = inl refl
  is_list type item x (has.int n) e = absurd (cc)
  is_list type item x (has.bool b) e = absurd (cc)
  is_list type item x (has.text y) e = absurd (cc)
  is_list type item x (has.record_of n r parts h hs) e = absurd (cc)
  is_list type item x (has.callback argument last captured body who place captures h1 h2 h3 h4 h5) e = absurd (cc)
  is_list type item x (has.fragment argument captured template who place captures h1 h2 h3 h4) e = absurd (cc)
  is_list type item x (has.change y) e = absurd (cc)
  is_list type item x (has.anything y) e = absurd (cc)

  -- a record of a declaration
  pub record IsRecord (name : List ℕ) (x : Value) : Type 0 where
    pub declaration : RecordType
    pub parts : List Value
    pub named : types.records name ≡ Some declaration
    pub is : x ≡ v.Rec declaration.number parts
    pub have : ValuesHave types declaration.parts parts

  pub is_record : (type : CsType) (name : List ℕ) (x : Value) → ValueHas types type x → type ≡ t.Rec name → (x ≡ v.Null) ⊎ IsRecord name x
  is_record type name x (has.record_of n r parts h hs) e = let same : n ≡ name = cc in inr (record { declaration = r; parts = parts; named = ap types.records (sym same) ∙ h; is = refl; have = hs })
  is_record type name x (has.null _ h) e = inl refl
  is_record type name x (has.int n) e = absurd (cc)
  is_record type name x (has.bool b) e = absurd (cc)
  is_record type name x (has.text y) e = absurd (cc)
  is_record type name x (has.list a items hs) e = absurd (cc)
  is_record type name x (has.callback argument last captured body who place captures h1 h2 h3 h4 h5) e = absurd (cc)
  is_record type name x (has.fragment argument captured template who place captures h1 h2 h3 h4) e = absurd (cc)
  is_record type name x (has.change y) e = absurd (cc)
  is_record type name x (has.anything y) e = absurd (cc)

  -- a callback that takes such an argument
  pub record IsCallback (argument : Option CsType) (x : Value) : Type 0 where
    pub last : CsType
    pub captured : List CsType
    pub body : Signature
    pub who : ℕ
    pub place : ℕ
    pub captures : List Value
    pub is : x ≡ v.Callback who place captures
    pub numbered : types.bodies place ≡ Some body
    pub there : types.instances who ≡ Some body.component
    pub locals_are : body.locals ≡ captured ++ last ∷ []
    pub accepts : Accepts argument last
    pub have : ValuesHave types captured captures

  pub is_callback : (type : CsType) (argument : Option CsType) (x : Value) → ValueHas types type x → type ≡ t.Callback argument → (x ≡ v.Null) ⊎ IsCallback argument x
  is_callback type argument x (has.callback a last captured body who place captures h1 h2 h3 h4 h5) e =
      let same : a ≡ argument = one_argument a argument e in
      inr (record { last = last; captured = captured; body = body; who = who; place = place; captures = captures; is = refl; numbered = h1; there = h2; locals_are = h3; accepts = subst (λ z. Accepts z last) same h4; have = h5 })
  is_callback type argument x (has.null _ h) e = inl refl
  is_callback type argument x (has.int n) e = absurd (cc)
  is_callback type argument x (has.bool b) e = absurd (cc)
  is_callback type argument x (has.text y) e = absurd (cc)
  is_callback type argument x (has.record_of n r parts h hs) e = absurd (cc)
  is_callback type argument x (has.list a items hs) e = absurd (cc)
  is_callback type argument x (has.fragment a captured template who place captures h1 h2 h3 h4) e = absurd (cc)
  is_callback type argument x (has.change y) e = absurd (cc)
  is_callback type argument x (has.anything y) e = absurd (cc)

  -- a fragment that is still to be given such an argument
  pub record IsFragment (argument : Option CsType) (x : Value) : Type 0 where
    pub captured : List CsType
    pub template : Signature
    pub who : ℕ
    pub place : ℕ
    pub captures : List Value
    pub is : x ≡ v.Fragment who place captures
    pub numbered : types.templates place ≡ Some template
    pub there : types.instances who ≡ Some template.component
    pub locals_are : template.locals ≡ captured ++ awaited argument
    pub have : ValuesHave types captured captures

  pub is_fragment : (type : CsType) (argument : Option CsType) (x : Value) → ValueHas types type x → type ≡ t.Fragment argument → (x ≡ v.Null) ⊎ IsFragment argument x
  is_fragment type argument x (has.fragment a captured template who place captures h1 h2 h3 h4) e =
      let same : a ≡ argument = one_awaited a argument e in
      inr (record { captured = captured; template = template; who = who; place = place; captures = captures; is = refl; numbered = h1; there = h2; locals_are = h3 ∙ ap (λ z. captured ++ awaited z) same; have = h4 })
  is_fragment type argument x (has.null _ h) e = inl refl
  is_fragment type argument x (has.int n) e = absurd (cc)
  is_fragment type argument x (has.bool b) e = absurd (cc)
  is_fragment type argument x (has.text y) e = absurd (cc)
  is_fragment type argument x (has.record_of n r parts h hs) e = absurd (cc)
  is_fragment type argument x (has.list a items hs) e = absurd (cc)
  is_fragment type argument x (has.callback a last captured body who place captures h1 h2 h3 h4 h5) e = absurd (cc)
  is_fragment type argument x (has.change y) e = absurd (cc)
  is_fragment type argument x (has.anything y) e = absurd (cc)
