-- What is read as members is spelled so.
use Rattle.std.proofs.Common.{◌≡◌, ℕ, zero, suc, ◌+◌, List, [], ◌∷◌, length, refl, sym, ap, ◌∙◌, subst}
use Rattle.std.specs.Prelude.{Bool, true, false, ◌||◌, ◌&&◌, codes, if◌then◌else◌, Option, Some, None}
use Rattle.text_core.specs.declared.place.Place.{Place}
use Rattle.cs_ast.specs.declared.cs_type.TypeExpr.{TypeExpr}
use Rattle.cs_ast.specs.declared.expression.Body.{Body}
use Rattle.cs_ast.specs.declared.expression.Body.TheVariants as body
use Rattle.cs_ast.specs.declared.expression.Expr.{Expr}
use Rattle.cs_ast.specs.declared.expression.Stmt.{Stmt}
use Rattle.cs_ast.specs.declared.identifier.Ident.{Ident}
use Rattle.cs_ast.specs.declared.member.Argument.{Argument}
use Rattle.cs_ast.specs.declared.member.Member.{Member}
use Rattle.cs_ast.specs.declared.member.MemberKind.{MemberKind}
use Rattle.cs_ast.specs.declared.member.MemberKind.TheVariants as mk
use Rattle.cs_token.specs.declared.token.Token.{Token}
use Rattle.cs_token.specs.declared.token.TokenKind.{TokenKind}
use Rattle.cs_token.specs.declared.token.TokenKind.TheVariants as k
use Rattle.cs_token.specs.declared.token.Sign.TheVariants as s
use Rattle.cs_token.specs.declared.token.Word.{Word}
use Rattle.cs_token.specs.declared.token.Word.TheVariants as w
use Rattle.cs_grammar.specs.Tokens.{IsSign, IsWord, IsName, ident}
use Rattle.cs_grammar.specs.Tables.{is_modifier}
use Rattle.cs_grammar.specs.Types.{WritesType}
use Rattle.cs_grammar.specs.Expressions.{Spells}
use Rattle.cs_grammar.specs.Statements.{Statements, Initial, no_jumps}
use Rattle.cs_grammar.specs.Statements as gs
use Rattle.cs_grammar.specs.Members.{Modifiers, SomeArguments, ArgumentList, Result, MethodBody, Accessors, PropertyEnd, Attribute, Declared, Supplied, IsMember, SpelledMembers}
use Rattle.cs_grammar.specs.Members as g
use Rattle.cs_parse.specs.declared.member.attributes.Attribute.{Attribute as Given}
use Rattle.cs_parse.specs.Reading.{Read, ◌>>=◌, after, has_sign, is_word, is_sign, name_first}
use Rattle.cs_parse.specs.TypeReading.{type_first}
use Rattle.cs_parse.specs.ExpressionReading.{expr_first}
use Rattle.cs_parse.specs.SimpleReading.{after_word, is_name, initial, some}
use Rattle.cs_parse.specs.StatementReading.{statements_first, nowhere}
use Rattle.cs_parse.specs.MemberReading.{is_named, after_name, modifies, unmodified, arguments_in, arguments_first, is_record, members_in, whole_members}
use Rattle.cs_parse.specs.MemberReading as r
use Rattle.cs_parse.proofs.TokenLemmas.{bind_ok, moved, word_is, is_that_sign}
use Rattle.cs_parse.proofs.FrontLemmas.{behind_sign, behind_name, behind_named, behind_word, got, is_that_name}
use Rattle.cs_parse.proofs.TypeSound.{type_sound}
use Rattle.cs_parse.proofs.ExpressionSound.{first_sound, used_0}

kind_modifies : (t : Token) (kind : TokenKind) → t.kind ≡ kind → modifies kind ≡ true → (word : Word) × IsWord word t × (is_modifier word ≡ true)
kind_modifies t (k.Word word) i e = (word, i, e)
kind_modifies t _ i e = absurd (cc)

modifier_sound : (t : Token) (ts us : List Token) (d : Bool) → modifies t.kind ≡ d → Modifiers ts us → Modifiers (t ∷ ts) (if d then us else t ∷ ts)
modifier_sound t ts us true i h = let m = kind_modifies t t.kind refl i in g.more m.0 t ts us m.1 m.2 h
modifier_sound t ts us false i h = g.none (t ∷ ts)

unmodified_sound : (ts : List Token) → Modifiers ts (unmodified ts)
unmodified_sound [] = g.none []
unmodified_sound (t ∷ ts) = modifier_sound t ts (unmodified ts) (modifies t.kind) refl (unmodified_sound ts)

-- a type and a name
pub record Typed (ts : List Token) (a : TypeExpr) (n : Ident) (rest : List Token) : Type 0 where
  pub t : Token
  pub x : List ℕ
  pub writes : WritesType ts (t ∷ rest) a
  pub name : IsName x t
  pub same : n ≡ ident t x

typed : (ts us rest : List Token) (a : TypeExpr) (n : Ident) → type_first ts ≡ Some (a, us) → name_first us ≡ Some (n, rest) → Typed ts a n rest
typed ts us rest a n e1 e2 =
    behind_name us rest n (λ l m. WritesType ts l a → Typed ts a m rest) e2 (λ x t i writes. record {
      t = t;
      x = x;
      writes = writes;
      name = i;
      same = refl;
    }) (type_sound ts a us e1)

pub argument_sound : (ts rest : List Token) (a : Argument) → r.argument ts ≡ Some (a, rest) → Typed ts a.cs_type a.name rest
argument_sound ts rest a e =
    let x = bind_ok _ _ _ e in
    let n = bind_ok _ _ _ x.2 in
    got (λ y us. Typed ts y.cs_type y.name us) n.2 (typed ts x.0.1 n.0.1 x.0.0 n.0.0 x.1 n.1)

one_argument : (ts rest : List Token) (a : Argument) → Typed ts a.cs_type a.name rest → SomeArguments ts rest (a ∷ [])
one_argument ts rest a x = subst (λ n. SomeArguments ts rest (r.argument_of a.cs_type n ∷ [])) (sym x.same) (g.one x.x x.t ts rest a.cs_type x.writes x.name)

further_argument : (ts us rest : List Token) (a : Argument) (others : List Argument) (c : Token) → Typed ts a.cs_type a.name (c ∷ us) → IsSign s.Comma c → SomeArguments us rest others →
    SomeArguments ts rest (a ∷ others)
further_argument ts us rest a others c x e h =
    subst (λ n. SomeArguments ts rest (r.argument_of a.cs_type n ∷ others)) (sym x.same) (g.more x.x x.t c ts us rest a.cs_type others x.writes x.name e h)

abbrev ArgumentsSound : (List Token → Read (List Argument)) → Type 0
ArgumentsSound self = (ts rest : List Token) (found : List Argument) → self ts ≡ Some (found, rest) → SomeArguments ts rest found

more_sound : (self : List Token → Read (List Argument)) → ArgumentsSound self → (ts us rest : List Token) (a : Argument) (found : List Argument) →
    Typed ts a.cs_type a.name us → r.more_arguments self a us ≡ Some (found, rest) → SomeArguments ts rest found
more_sound self h ts us rest a found x e = go (after s.Comma us) refl e
  where
    go : (d : Option (List Token)) → after s.Comma us ≡ d →
        ◌≡◌ {A = Read (List Argument)} (elim d [ Some q ↦ self q >>= (λ y. Some (a ∷ y.0, y.1)) | None ↦ Some (a ∷ [], us) ]) (Some (found, rest)) → SomeArguments ts rest found
    go (Some q) i e =
        let y = bind_ok _ _ _ e in
        got (λ z vs. SomeArguments ts vs z) y.2 (behind_sign s.Comma us q (λ l. Typed ts a.cs_type a.name l → SomeArguments ts y.0.1 (a ∷ y.0.0)) i (λ c j w. further_argument ts q y.0.1 a y.0.0 c w j (h q y.0.1 y.0.0 y.1)) x)
    go None i e = got (λ z vs. SomeArguments ts vs z) e (one_argument ts us a x)

in_sound : (n : ℕ) → ArgumentsSound (arguments_in n)
unfolding arguments_in
in_sound zero ts rest found e = absurd (cc)
in_sound (suc n) ts rest found e =
    let b = bind_ok _ _ _ e in
    more_sound (arguments_in n) (in_sound n) ts b.0.1 rest b.0.0 found (argument_sound ts b.0.1 b.0.0 b.1) b.2

arguments_sound : ArgumentsSound arguments_first
unfolding arguments_first
arguments_sound ts rest found e = in_sound (length ts + 1) ts rest found e

list_sound : (ts rest : List Token) (found : List Argument) → r.argument_list ts ≡ Some (found, rest) → ArgumentList ts rest found
list_sound ts rest found e = go (after s.CloseRound ts) refl e
  where
    go : (d : Option (List Token)) → after s.CloseRound ts ≡ d →
        ◌≡◌ {A = Read (List Argument)} (elim d [ Some q ↦ Some ([], q) | None ↦ r.some_arguments ts ]) (Some (found, rest)) → ArgumentList ts rest found
    go (Some q) i e = got (λ z vs. ArgumentList ts vs z) e (behind_sign s.CloseRound ts q (λ l. ArgumentList l q []) i (λ c j. g.none c q j))
    go None i e =
        let x = bind_ok _ _ _ e in
        let y = bind_ok _ _ _ x.2 in
        got (λ z vs. ArgumentList ts vs z) y.2 (behind_sign s.CloseRound x.0.1 y.0 (λ l. SomeArguments ts l x.0.0 → ArgumentList ts y.0 x.0.0) y.1 (λ c j h. g.some c ts y.0 x.0.0 h j) (arguments_sound ts x.0.1 x.0.0 x.1))

-- an expression and a semicolon
record Valued (ts : List Token) (a : Expr) (rest : List Token) : Type 0 where
  p : Place
  c : Token
  spells : Spells 0 p ts (c ∷ rest) a
  semicolon : IsSign s.Semicolon c

value_sound : (ts rest : List Token) (a : Expr) → r.value_first ts ≡ Some (a, rest) → Valued ts a rest
value_sound ts rest a e =
    let x = bind_ok _ _ _ e in
    let y = bind_ok _ _ _ x.2 in
    let z = first_sound 0 ts x.0.0 x.0.1 used_0 x.1 in
    got (λ v vs. Valued ts v vs) y.2 (behind_sign s.Semicolon x.0.1 y.0 (λ l. Spells 0 z.0 ts l x.0.0 → Valued ts x.0.0 y.0) y.1 (λ c j h. record { p = z.0; c = c; spells = h; semicolon = j }) z.1.spells)

-- the word or the words of a method without a result
nothing_sound : (ts rest : List Token) → r.after_nothing ts ≡ Some rest → Result ts rest None
nothing_sound [] rest e = absurd (cc)
nothing_sound (t ∷ ts) rest e = go (is_word w.Void t.kind) (is_word w.Task t.kind) (is_word w.Async t.kind) refl refl refl e
  where
    go : (x y z : Bool) → is_word w.Void t.kind ≡ x → is_word w.Task t.kind ≡ y → is_word w.Async t.kind ≡ z →
        (if x || y then Some ts else if z then after_word w.Task ts else None) ≡ Some rest → Result (t ∷ ts) rest None
    go true y z i j m e = moved (λ l. Result (t ∷ ts) l None) e (g.void t ts (word_is w.Void t.kind i))
    go false true z i j m e = moved (λ l. Result (t ∷ ts) l None) e (g.task t ts (word_is w.Task t.kind j))
    go false false true i j m e = behind_word w.Task ts rest (λ l. Result (t ∷ l) rest None) e (λ u n. g.async_task t u rest (word_is w.Async t.kind m) n)
    go false false false i j m e = absurd (cc)

accessor_sound : (x : List ℕ) (ts rest : List Token) (P : List Token → Type 0) → r.accessor x ts ≡ Some rest → ((n c : Token) → IsName x n → IsSign s.Semicolon c → P (n ∷ c ∷ rest)) → P ts
accessor_sound x ts rest P e h =
    let y = bind_ok _ _ _ e in
    behind_named x ts y.0 P y.1 (λ n i. behind_sign s.Semicolon y.0 rest (λ l. P (n ∷ l)) y.2 (λ c j. h n c i j))

accessors_sound : (ts rest : List Token) → r.accessors ts ≡ Some rest → Accessors ts rest
accessors_sound ts rest e =
    let o = bind_ok _ _ _ e in
    let get = bind_ok _ _ _ o.2 in
    let set = bind_ok _ _ _ get.2 in
    behind_sign s.OpenBrace ts o.0 (λ l. Accessors l rest) o.1 (λ b i. accessor_sound (codes "get") o.0 get.0 (λ l. Accessors (b ∷ l) rest) get.1 (λ n m j1 j2.
    accessor_sound (codes "set") get.0 set.0 (λ l. Accessors (b ∷ n ∷ m ∷ l) rest) set.1 (λ u v j3 j4.
    behind_sign s.CloseBrace set.0 rest (λ l. Accessors (b ∷ n ∷ m ∷ u ∷ v ∷ l) rest) set.2 (λ c j5. g.accessors b n m u v c rest i j1 j2 j3 j4 j5))))

end_sound : (ts rest : List Token) (value : Option Expr) → r.property_end ts ≡ Some (value, rest) → PropertyEnd ts rest value
end_sound ts rest value e = go (after s.Assign ts) refl e
  where
    go : (d : Option (List Token)) → after s.Assign ts ≡ d →
        ◌≡◌ {A = Read (Option Expr)} (elim d [ Some q ↦ r.value_first q >>= some | None ↦ Some (None, ts) ]) (Some (value, rest)) → PropertyEnd ts rest value
    go (Some q) i e =
        let x = bind_ok _ _ _ e in
        let v = value_sound q x.0.1 x.0.0 x.1 in
        got (λ z vs. PropertyEnd ts vs z) x.2 (behind_sign s.Assign ts q (λ l. PropertyEnd l x.0.1 (Some x.0.0)) i (λ t j. g.some v.p t v.c q x.0.1 x.0.0 j v.spells v.semicolon))
    go None i e = got (λ z vs. PropertyEnd ts vs z) e (g.none ts)

record Properly (ts : List Token) (value : Option Expr) (rest : List Token) : Type 0 where
  us : List Token
  accessors : Accessors ts us
  end : PropertyEnd us rest value

property_sound : (ts rest : List Token) (value : Option Expr) → r.property ts ≡ Some (value, rest) → Properly ts value rest
property_sound ts rest value e =
    let x = bind_ok _ _ _ e in
    record { us = x.0; accessors = accessors_sound ts x.0 x.1; end = end_sound x.0 rest value x.2 }

initial_sound : (ts rest : List Token) (value : Option Expr) → initial ts ≡ Some (value, rest) → Initial ts rest value
initial_sound ts rest value e = go (after s.Assign ts) refl e
  where
    go : (d : Option (List Token)) → after s.Assign ts ≡ d →
        ◌≡◌ {A = Read (Option Expr)} (elim d [ Some q ↦ expr_first 0 q >>= some | None ↦ Some (None, ts) ]) (Some (value, rest)) → Initial ts rest value
    go (Some q) i e =
        let x = bind_ok _ _ _ e in
        let v = first_sound 0 q x.0.0 x.0.1 used_0 x.1 in
        got (λ z vs. Initial ts vs z) x.2 (behind_sign s.Assign ts q (λ l. Initial l x.0.1 (Some x.0.0)) i (λ t j. gs.some v.0 t q x.0.1 x.0.0 j v.1.spells))
    go None i e = got (λ z vs. Initial ts vs z) e (gs.none ts)

getter_sound : (ts us rest : List Token) (a : TypeExpr) (n : Ident) (kind : MemberKind) → Typed ts a n us → after s.Arrow us ≡ Some rest → (more : List Token) → r.getter a n rest ≡ Some (kind, more) → Declared ts more kind
getter_sound ts us rest a n kind x e1 more e2 =
    let y = bind_ok _ _ _ e2 in
    let v = value_sound rest y.0.1 y.0.0 y.1 in
    got (λ z vs. Declared ts vs z) y.2
    (behind_sign s.Arrow us rest (λ l. Typed ts a n l → Declared ts y.0.1 (mk.Getter a n y.0.0)) e1
    (λ c j w. subst (λ m. Declared ts y.0.1 (mk.Getter a m y.0.0)) (sym w.same) (g.getter w.x v.p w.t c v.c ts rest y.0.1 a y.0.0 w.writes w.name j v.spells v.semicolon)) x)

field_sound : (ts us rest : List Token) (a : TypeExpr) (n : Ident) (kind : MemberKind) → Typed ts a n us → r.field a n us ≡ Some (kind, rest) → Declared ts rest kind
field_sound ts us rest a n kind x e =
    let y = bind_ok _ _ _ e in
    let z = bind_ok _ _ _ y.2 in
    got (λ v vs. Declared ts vs v) z.2
    (behind_sign s.Semicolon y.0.1 z.0 (λ l. Initial us l y.0.0 → Declared ts z.0 (mk.Field a n y.0.0)) z.1
    (λ c j h. subst (λ m. Declared ts z.0 (mk.Field a m y.0.0)) (sym x.same) (g.field x.x x.t c ts us z.0 a y.0.0 x.writes x.name h j)) (initial_sound us y.0.1 y.0.0 y.1))

property_of_sound : (ts us rest : List Token) (a : TypeExpr) (n : Ident) (kind : MemberKind) → Typed ts a n us → r.property_of a n us ≡ Some (kind, rest) → Declared ts rest kind
property_of_sound ts us rest a n kind x e =
    let y = bind_ok _ _ _ e in
    let v = property_sound us y.0.1 y.0.0 y.1 in
    got (λ z vs. Declared ts vs z) y.2 (subst (λ m. Declared ts y.0.1 (mk.Field a m y.0.0)) (sym x.same) (g.property x.x x.t ts us v.us y.0.1 a y.0.0 x.writes x.name v.accessors v.end))

valued_sound : (ts us rest : List Token) (a : TypeExpr) (n : Ident) (kind : MemberKind) → Typed ts a n us → r.valued (Some a) n us ≡ Some (kind, rest) → Declared ts rest kind
valued_sound ts us rest a n kind x e = brace (has_sign s.OpenBrace us) e
  where
    arrow : (d : Option (List Token)) → after s.Arrow us ≡ d → ◌≡◌ {A = Read MemberKind} (elim d [ Some q ↦ r.getter a n q | None ↦ r.field a n us ]) (Some (kind, rest)) → Declared ts rest kind
    arrow (Some q) i e = getter_sound ts us q a n kind x i rest e
    arrow None i e = field_sound ts us rest a n kind x e

    brace : (d : Bool) → (if d then r.property_of a n us else r.getter_or_field a n us) ≡ Some (kind, rest) → Declared ts rest kind
    brace true e = property_of_sound ts us rest a n kind x e
    brace false e = arrow (after s.Arrow us) refl e

-- `record`, a name and a bracket are known
pub record_known : (t n o : Token) (us : List Token) (x : List ℕ) → IsName (codes "record") t → IsName x n → IsSign s.OpenRound o → is_record (t ∷ n ∷ o ∷ us) ≡ true
record_known t n o us x e1 e2 e3 =
    ap (λ d. d && (is_name n.kind && is_sign s.OpenRound o.kind)) (is_that_name (codes "record") t e1)
    ∙ ap (λ kind. true && (is_name kind && is_sign s.OpenRound o.kind)) e2
    ∙ is_that_sign s.OpenRound o e3

parts_sound : (t : Token) (ts us rest : List Token) (n : Ident) (kind : MemberKind) → IsName (codes "record") t → name_first ts ≡ Some (n, us) → (vs : List Token) → after s.OpenRound us ≡ Some vs →
    r.record_parts n vs ≡ Some (kind, rest) → Declared (t ∷ ts) rest kind
parts_sound t ts us rest n kind e1 e2 vs e3 e =
    let y = bind_ok _ _ _ e in
    let z = bind_ok _ _ _ y.2 in
    got (λ v xs. Declared (t ∷ ts) xs v) z.2
    (behind_name ts us n (λ l m. Declared (t ∷ l) z.0 (mk.RecordDef m y.0.0)) e2 (λ x w i.
    behind_sign s.OpenRound us vs (λ l. Declared (t ∷ w ∷ l) z.0 (mk.RecordDef (ident w x) y.0.0)) e3 (λ o j.
    behind_sign s.Semicolon y.0.1 z.0 (λ l. ArgumentList vs l y.0.0 → Declared (t ∷ w ∷ o ∷ vs) z.0 (mk.RecordDef (ident w x) y.0.0)) z.1
    (λ c m h. g.record_of x t w o c vs z.0 y.0.0 e1 i j h m) (list_sound vs y.0.1 y.0.0 y.1))))

record_sound : (ts rest : List Token) (kind : MemberKind) → r.record_of ts ≡ Some (kind, rest) → Declared ts rest kind
record_sound ts rest kind e =
    let a = bind_ok _ _ _ e in
    let n = bind_ok _ _ _ a.2 in
    let o = bind_ok _ _ _ n.2 in
    behind_named (codes "record") ts a.0 (λ l. Declared l rest kind) a.1 (λ t i. parts_sound t a.0 n.0.1 rest n.0.0 kind i n.1 o.0 o.1 o.2)

text_sound : (ts rest : List Token) (x : List ℕ) (P : List Token → Type 0) → r.text_first ts ≡ Some (x, rest) → ((t : Token) → t.kind ≡ k.Text x → P (t ∷ rest)) → P ts
text_sound [] rest x P e h = absurd (cc)
text_sound (t ∷ ts) rest x P e h = go t.kind refl e
  where
    go : (kind : TokenKind) → t.kind ≡ kind → r.text_of kind ts ≡ Some (x, rest) → P (t ∷ ts)
    go (k.Text y) i e = got (λ z vs. ((t : Token) → t.kind ≡ k.Text z → P (t ∷ vs)) → P (t ∷ ts)) e (λ j. j t i) h
    go _ i e = absurd (cc)

-- an attribute behind its bracket
abbrev Attributed : List Token → List Token → Given → Type 0
Attributed ts rest x = (o : Token) → IsSign s.OpenSquare o → Attribute (o ∷ ts) rest x.cascading x.source

given_sound : (n : Token) (ts rest : List Token) (x : Given) → IsName (codes "Parameter") n → r.given ts ≡ Some (x, rest) → Attributed (n ∷ ts) rest x
given_sound n ts rest x i e =
    let y = bind_ok _ _ _ e in
    got (λ z vs. Attributed (n ∷ ts) vs z) y.2 (behind_sign s.CloseSquare ts y.0 (λ l. Attributed (n ∷ l) y.0 (r.attribute_of false None)) y.1 (λ c j o m. g.parameter o n c y.0 m i j))

cascading_sound : (n : Token) (ts rest : List Token) (x : Given) → IsName (codes "CascadingParameter") n → r.cascading ts ≡ Some (x, rest) → Attributed (n ∷ ts) rest x
cascading_sound n ts rest x i e =
    let y = bind_ok _ _ _ e in
    let z = bind_ok _ _ _ y.2 in
    got (λ v vs. Attributed (n ∷ ts) vs v) z.2 (named y.0.0 y.0.1 z.0 y.1 z.1)
  where
    with_source : (q : List Token) (v : List ℕ) (us vs : List Token) → after s.OpenRound ts ≡ Some q → r.source_first q ≡ Some (v, us) → after s.CloseSquare us ≡ Some vs → Attributed (n ∷ ts) vs (r.attribute_of true (Some v))
    with_source q v us vs e1 e2 e3 =
        let a = bind_ok _ _ _ e2 in
        let b = bind_ok _ _ _ a.2 in
        let c = bind_ok _ _ _ b.2 in
        let d = bind_ok _ _ _ c.2 in
        got (λ y ws. after s.CloseSquare ws ≡ Some vs → Attributed (n ∷ ts) vs (r.attribute_of true (Some y))) d.2
        (λ e4. behind_sign s.OpenRound ts q (λ l. Attributed (n ∷ l) vs (r.attribute_of true (Some c.0.0))) e1 (λ t1 i1.
        behind_named (codes "Name") q a.0 (λ l. Attributed (n ∷ t1 ∷ l) vs (r.attribute_of true (Some c.0.0))) a.1 (λ t2 i2.
        behind_sign s.Assign a.0 b.0 (λ l. Attributed (n ∷ t1 ∷ t2 ∷ l) vs (r.attribute_of true (Some c.0.0))) b.1 (λ t3 i3.
        text_sound b.0 c.0.1 c.0.0 (λ l. Attributed (n ∷ t1 ∷ t2 ∷ t3 ∷ l) vs (r.attribute_of true (Some c.0.0))) c.1 (λ t4 i4.
        behind_sign s.CloseRound c.0.1 d.0 (λ l. Attributed (n ∷ t1 ∷ t2 ∷ t3 ∷ t4 ∷ l) vs (r.attribute_of true (Some c.0.0))) d.1 (λ t5 i5.
        behind_sign s.CloseSquare d.0 vs (λ l. Attributed (n ∷ t1 ∷ t2 ∷ t3 ∷ t4 ∷ t5 ∷ l) vs (r.attribute_of true (Some c.0.0))) e4 (λ t6 i6 o m.
        g.cascading_of c.0.0 o n t1 t2 t3 t4 t5 t6 vs m i i1 i2 i3 i4 i5 i6)))))))
        e3

    named : (source : Option (List ℕ)) (us vs : List Token) → r.source ts ≡ Some (source, us) → after s.CloseSquare us ≡ Some vs → Attributed (n ∷ ts) vs (r.attribute_of true source)
    named source us vs e1 e2 = go (after s.OpenRound ts) refl e1
      where
        go : (d : Option (List Token)) → after s.OpenRound ts ≡ d →
            ◌≡◌ {A = Read (Option (List ℕ))} (elim d [ Some q ↦ r.source_first q >>= some | None ↦ Some (None, ts) ]) (Some (source, us)) → Attributed (n ∷ ts) vs (r.attribute_of true source)
        go (Some q) j e =
            let y = bind_ok _ _ _ e in
            got (λ z ws. after s.CloseSquare ws ≡ Some vs → Attributed (n ∷ ts) vs (r.attribute_of true z)) y.2 (λ e3. with_source q y.0.0 y.0.1 vs j y.1 e3) e2
        go None j e = got (λ z ws. after s.CloseSquare ws ≡ Some vs → Attributed (n ∷ ts) vs (r.attribute_of true z)) e
            (λ e3. behind_sign s.CloseSquare ts vs (λ l. Attributed (n ∷ l) vs (r.attribute_of true None)) e3 (λ c m o w. g.cascading o n c vs w i m)) e2

attribute_sound : (ts rest : List Token) (x : Given) → r.attribute_first ts ≡ Some (x, rest) → Attributed ts rest x
attribute_sound ts rest x e = go (after_name (codes "Parameter") ts) refl e
  where
    go : (d : Option (List Token)) → after_name (codes "Parameter") ts ≡ d →
        ◌≡◌ {A = Read Given} (elim d [ Some q ↦ r.given q | None ↦ after_name (codes "CascadingParameter") ts >>= r.cascading ]) (Some (x, rest)) → Attributed ts rest x
    go (Some q) i e = behind_named (codes "Parameter") ts q (λ l. Attributed l rest x) i (λ n j. given_sound n q rest x j e)
    go None i e =
        let y = bind_ok _ _ _ e in
        behind_named (codes "CascadingParameter") ts y.0 (λ l. Attributed l rest x) y.1 (λ n j. cascading_sound n y.0 rest x j y.2)

supplied_sound : (x : Given) (ts rest : List Token) (kind : MemberKind) → r.supplied x ts ≡ Some (kind, rest) → Supplied x.cascading x.source ts rest kind
supplied_sound x ts rest kind e =
    let a = bind_ok _ _ _ e in
    let n = bind_ok _ _ _ a.2 in
    let v = bind_ok _ _ _ n.2 in
    let w = typed ts a.0.1 n.0.1 a.0.0 n.0.0 a.1 n.1 in
    let y = property_sound n.0.1 v.0.1 v.0.0 v.1 in
    got (λ z vs. Supplied x.cascading x.source ts vs z) v.2
    (subst (λ m. Supplied x.cascading x.source ts v.0.1 (mk.Parameter x.cascading x.source a.0.0 m v.0.0)) (sym w.same)
    (g.supplied x.cascading x.source w.x w.t ts n.0.1 y.us v.0.1 a.0.0 v.0.0 w.writes w.name y.accessors y.end))

-- the same, where statements that are read are spelled so
module _ (statements_sound : (ts : List Token) (body : List Stmt) (rest : List Token) → statements_first nowhere ts ≡ Some (body, rest) → Statements no_jumps ts rest body) where
  body_sound : (ts rest : List Token) (b : Body) → r.method_body ts ≡ Some (b, rest) → MethodBody ts rest b
  body_sound ts rest b e = go (after s.Arrow ts) refl e
    where
      go : (d : Option (List Token)) → after s.Arrow ts ≡ d → ◌≡◌ {A = Read Body} (elim d [ Some q ↦ r.value_body q | None ↦ after s.OpenBrace ts >>= r.block_body ]) (Some (b, rest)) → MethodBody ts rest b
      go (Some q) i e =
          let x = bind_ok _ _ _ e in
          let v = value_sound q x.0.1 x.0.0 x.1 in
          got (λ z vs. MethodBody ts vs z) x.2 (behind_sign s.Arrow ts q (λ l. MethodBody l x.0.1 (body.Value x.0.0)) i (λ t j. g.value v.p t v.c q x.0.1 x.0.0 j v.spells v.semicolon))
      go None i e =
          let o = bind_ok _ _ _ e in
          let x = bind_ok _ _ _ o.2 in
          let y = bind_ok _ _ _ x.2 in
          got (λ z vs. MethodBody ts vs z) y.2
          (behind_sign s.OpenBrace ts o.0 (λ l. MethodBody l y.0 (body.Block x.0.0)) o.1 (λ t j.
          behind_sign s.CloseBrace x.0.1 y.0 (λ l. Statements no_jumps o.0 l x.0.0 → MethodBody (t ∷ o.0) y.0 (body.Block x.0.0)) y.1
          (λ c m h. g.block t c o.0 y.0 x.0.0 j h m) (statements_sound o.0 x.0.0 x.0.1 x.1)))

  method_sound : (ts us vs rest : List Token) (a : Option TypeExpr) (n : Ident) (kind : MemberKind) → is_record ts ≡ false → Result ts us a → name_first us ≡ Some (n, vs) → (ws : List Token) →
      after s.OpenRound vs ≡ Some ws → r.method a n ws ≡ Some (kind, rest) → Declared ts rest kind
  method_sound ts us vs rest a n kind differs h e1 ws e2 e =
      let y = bind_ok _ _ _ e in
      let z = bind_ok _ _ _ y.2 in
      got (λ v xs. Declared ts xs v) z.2
      (behind_name us vs n (λ l m. Result ts l a → Declared ts z.0.1 (mk.Method a m y.0.0 z.0.0)) e1 (λ x t i.
      behind_sign s.OpenRound vs ws (λ l. Result ts (t ∷ l) a → Declared ts z.0.1 (mk.Method a (ident t x) y.0.0 z.0.0)) e2 (λ o j w.
      g.method x t o ts ws y.0.1 z.0.1 a y.0.0 z.0.0 w
      (λ u same named. let q : true ≡ false = sym (record_known u t o ws x named i j) ∙ sym (ap is_record same) ∙ differs in absurd (cc))
      i j (list_sound ws y.0.1 y.0.0 y.1) (body_sound y.0.1 z.0.1 z.0.0 z.1))) h)

  named_sound : (ts us vs rest : List Token) (a : Option TypeExpr) (n : Ident) (kind : MemberKind) → is_record ts ≡ false → Result ts us a → name_first us ≡ Some (n, vs) →
      (r.valued a n vs ≡ Some (kind, rest) → Declared ts rest kind) → r.named a n vs ≡ Some (kind, rest) → Declared ts rest kind
  named_sound ts us vs rest a n kind differs h e1 other e = go (after s.OpenRound vs) refl e
    where
      go : (d : Option (List Token)) → after s.OpenRound vs ≡ d → ◌≡◌ {A = Read MemberKind} (elim d [ Some q ↦ r.method a n q | None ↦ r.valued a n vs ]) (Some (kind, rest)) → Declared ts rest kind
      go (Some q) i e = method_sound ts us vs rest a n kind differs h e1 q i e
      go None i e = other e

  plain_sound : (ts rest : List Token) (kind : MemberKind) → is_record ts ≡ false → r.plain ts ≡ Some (kind, rest) → Declared ts rest kind
  plain_sound ts rest kind differs e =
      let a = bind_ok _ _ _ e in
      let n = bind_ok _ _ _ a.2 in
      go (r.after_nothing ts) refl a.0.0 a.0.1 a.1 n.0.0 n.0.1 n.1 n.2
    where
      go : (d : Option (List Token)) → r.after_nothing ts ≡ d → (a : Option TypeExpr) (us : List Token) →
          ◌≡◌ {A = Read (Option TypeExpr)} (elim d [ Some q ↦ Some (None, q) | None ↦ type_first ts >>= some ]) (Some (a, us)) →
          (n : Ident) (vs : List Token) → name_first us ≡ Some (n, vs) → r.named a n vs ≡ Some (kind, rest) → Declared ts rest kind
      go (Some q) i a us e1 n vs e2 e = got (λ b ws. name_first ws ≡ Some (n, vs) → r.named b n vs ≡ Some (kind, rest) → Declared ts rest kind) e1
          (λ e3 e4. named_sound ts q vs rest None n kind differs (nothing_sound ts q i) e3 (λ z. absurd (cc)) e4) e2 e
      go None i a us e1 n vs e2 e =
          let t = bind_ok _ _ _ e1 in
          got (λ b ws. name_first ws ≡ Some (n, vs) → r.named b n vs ≡ Some (kind, rest) → Declared ts rest kind) t.2
          (λ e3 e4. named_sound ts t.0.1 vs rest (Some t.0.0) n kind differs (g.value ts t.0.1 t.0.0 (type_sound ts t.0.0 t.0.1 t.1)) e3
          (λ z. valued_sound ts vs rest t.0.0 n kind (typed ts t.0.1 vs t.0.0 n t.1 e3) z) e4) e2 e

  declared_sound : (ts rest : List Token) (kind : MemberKind) → r.declared ts ≡ Some (kind, rest) → Declared ts rest kind
  declared_sound ts rest kind e = go (is_record ts) refl e
    where
      go : (d : Bool) → is_record ts ≡ d → (if d then r.record_of ts else r.plain ts) ≡ Some (kind, rest) → Declared ts rest kind
      go true i e = record_sound ts rest kind e
      go false i e = plain_sound ts rest kind i e

  pub member_sound : (ts rest : List Token) (a : Member) → r.member ts ≡ Some (a, rest) → IsMember ts rest a
  member_sound [] rest a e = absurd (cc)
  member_sound (t ∷ ts) rest a e =
      let x = bind_ok _ _ _ e in
      got (λ z vs. IsMember (t ∷ ts) vs z) x.2 (go (after s.OpenSquare (t ∷ ts)) refl x.0.0 x.0.1 x.1)
    where
      go : (d : Option (List Token)) → after s.OpenSquare (t ∷ ts) ≡ d → (kind : MemberKind) (us : List Token) →
          ◌≡◌ {A = Read MemberKind} (elim d [ Some q ↦ r.parameter q | None ↦ r.declared (unmodified (t ∷ ts)) ]) (Some (kind, us)) → IsMember (t ∷ ts) us (r.member_at t.place kind)
      go (Some q) i kind us e =
          let y = bind_ok _ _ _ e in
          g.parameter y.0.0.cascading y.0.0.source t ts y.0.1 (unmodified y.0.1) us kind
          (behind_sign s.OpenSquare (t ∷ ts) q (λ l. Attribute l y.0.1 y.0.0.cascading y.0.0.source) i (λ o j. attribute_sound q y.0.1 y.0.0 y.1 o j))
          (unmodified_sound y.0.1) (supplied_sound y.0.0 (unmodified y.0.1) us kind y.2)
      go None i kind us e = g.plain t ts (unmodified (t ∷ ts)) us kind (unmodified_sound (t ∷ ts)) (declared_sound (unmodified (t ∷ ts)) us kind e)

  all_sound : (n : ℕ) (ts : List Token) (members : List Member) → members_in n ts ≡ Some members → SpelledMembers ts members
  unfolding members_in
  all_sound zero ts members e = absurd (cc)
  all_sound (suc n) [] members e = moved (λ z. SpelledMembers [] z) e g.none
  all_sound (suc n) (t ∷ ts) members e =
      let x = bind_ok _ _ _ e in
      let y = bind_ok _ _ _ x.2 in
      moved (λ z. SpelledMembers (t ∷ ts) z) y.2 (g.more (t ∷ ts) x.0.1 x.0.0 y.0 (member_sound (t ∷ ts) x.0.1 x.0.0 x.1) (all_sound n x.0.1 y.0 y.1))

  -- what is read is spelled
  pub members_sound : (ts : List Token) (members : List Member) → whole_members ts ≡ Some members → SpelledMembers ts members
  unfolding whole_members
  members_sound ts members e = all_sound (length ts + 1) ts members e
