-- Types that are printed are written again.
use Rattle.std.proofs.Common.{◌≡◌, ℕ, List, [], ◌∷◌, true, false, refl, sym, ap, ◌∙◌, subst}
use Rattle.std.specs.Prelude.{Bool, Some, None}
use Rattle.text_core.specs.declared.place.Place.{Place}
use Rattle.cs_ast.specs.declared.cs_type.TypeExpr.{TypeExpr}
use Rattle.cs_ast.specs.declared.cs_type.TypeKind.{TypeKind}
use Rattle.cs_ast.specs.declared.cs_type.TypeKind.TheVariants as ty
use Rattle.cs_token.specs.declared.token.Token.{Token}
use Rattle.cs_token.specs.declared.token.TokenKind.TheVariants as k
use Rattle.cs_token.specs.declared.token.Sign.TheVariants as s
use Rattle.cs_token.specs.declared.token.Word.{Word}
use Rattle.cs_token.specs.declared.token.Word.TheVariants as w
use Rattle.cs_grammar.specs.Tokens.{IsSign, IsWord}
use Rattle.cs_grammar.specs.Tables.{plain_type}
use Rattle.cs_grammar.specs.Types.{type_at, WritesType, WritesCore}
use Rattle.cs_grammar.specs.Types as g
use Rattle.cs_print.specs.Alike.{AlikeTypes, AlikeTypeKinds}
use Rattle.cs_print.specs.Alike as al
use Rattle.cs_print.specs.Printed.{Kinds, of_type, type_kinds, type_kind_kinds}
use Rattle.cs_print.proofs.PrintedLaws as law
use Rattle.cs_print.proofs.CodeKinds.{IsCode, IsLexeme}
use Rattle.cs_print.proofs.CodeKinds as c
use Rattle.cs_print.proofs.LayLemmas.{Are}
use Rattle.cs_print.proofs.ReadLemmas.{Prints, prints_as, first, single, ended, signed, worded, named, up_to, AreProper, later, lexeme}

-- a type like this one is written
pub record Writes (a : TypeExpr) (ts rest : List Token) : Type 0 where
  pub other : TypeExpr
  pub written : WritesType ts rest other
  pub alike : AlikeTypes a other

abbrev pub TypeAgain : TypeExpr → Type 0
TypeAgain a = Prints (Writes a) (type_kinds a)

pub record TypeFound (a : TypeExpr) (rest : List Token) : Type 0 where
  pub again : TypeAgain a
  pub proper : AreProper rest

-- by the kind of a type
made : (p : Place) (kind : TypeKind) (ks : Kinds) → type_kind_kinds kind ≡ ks → Prints (Writes (type_at p kind)) ks → TypeAgain (type_at p kind)
made p kind ks e h = prints_as (Writes (type_at p kind)) ks (type_kinds (type_at p kind)) (sym (law.type_law (type_at p kind) ∙ e)) h

-- one word
one_word : (p : Place) (kind : TypeKind) (word : Word) (nullable : Bool) → plain_type word ≡ Some (kind, nullable) → type_kind_kinds kind ≡ k.Word word ∷ [] → TypeAgain (type_at p kind)
one_word p kind word nullable e is = made p kind (k.Word word ∷ []) is (record {
  code = worded word [] c.none;
  reads = λ ts rest are. single (k.Word word) ts rest (λ xs. Writes (type_at p kind) xs rest) are (λ t has. record {
    other = type_at t.place kind;
    written = g.bare nullable (t ∷ rest) rest (type_at t.place kind) (g.plain nullable word kind t rest has e);
    alike = al.written p t.place kind kind (al.same kind);
  });
})

kind_is : (x y : TypeKind × Bool) → Some x ≡ Some y → x.0 ≡ y.0
kind_is x y e = let same : x ≡ y = cc in ap (λ (z : TypeKind × Bool). z.0) same

plain_again : (p : Place) (word : Word) (kind : TypeKind) (nullable : Bool) → plain_type word ≡ Some (kind, nullable) → TypeAgain (type_at p kind)
unfolding plain_type
plain_again p w.Int kind n e = subst (λ x. TypeAgain (type_at p x)) (kind_is (ty.Int, false) (kind, n) e) (one_word p ty.Int w.Int false refl law.type_int)
plain_again p w.Bool kind n e = subst (λ x. TypeAgain (type_at p x)) (kind_is (ty.Bool, false) (kind, n) e) (one_word p ty.Bool w.Bool false refl law.type_bool)
plain_again p w.String kind n e = subst (λ x. TypeAgain (type_at p x)) (kind_is (ty.Text, true) (kind, n) e) (one_word p ty.Text w.String true refl law.type_text)
plain_again p w.ChangeEventArgs kind n e = subst (λ x. TypeAgain (type_at p x)) (kind_is (ty.Change, false) (kind, n) e) (one_word p ty.Change w.ChangeEventArgs false refl law.type_change)
plain_again p w.EventArgs kind n e = subst (λ x. TypeAgain (type_at p x)) (kind_is (ty.Args, false) (kind, n) e) (one_word p ty.Args w.EventArgs false refl law.type_args)
plain_again p w.MouseEventArgs kind n e = subst (λ x. TypeAgain (type_at p x)) (kind_is (ty.Args, false) (kind, n) e) (one_word p ty.Args w.EventArgs false refl law.type_args)
plain_again p w.KeyboardEventArgs kind n e = subst (λ x. TypeAgain (type_at p x)) (kind_is (ty.Args, false) (kind, n) e) (one_word p ty.Args w.EventArgs false refl law.type_args)
plain_again p w.FocusEventArgs kind n e = subst (λ x. TypeAgain (type_at p x)) (kind_is (ty.Args, false) (kind, n) e) (one_word p ty.Args w.EventArgs false refl law.type_args)
plain_again p _ kind n e = absurd (cc)

name_again : (p : Place) (x : List ℕ) → IsLexeme (k.Name x) → TypeAgain (type_at p (ty.Named x))
name_again p x is = made p (ty.Named x) (k.Name x ∷ []) (law.type_named x) (record {
  code = named x [] is c.none;
  reads = λ ts rest are. single (k.Name x) ts rest (λ xs. Writes (type_at p (ty.Named x)) xs rest) are (λ t has. record {
    other = type_at t.place (ty.Named x);
    written = g.bare true (t ∷ rest) rest (type_at t.place (ty.Named x)) (g.name x t rest has);
    alike = al.written p t.place (ty.Named x) (ty.Named x) (al.same (ty.Named x));
  });
})

-- a type in the brackets of another
pub of_type_code : (word : Word) (ks : Kinds) → IsCode ks → IsCode (of_type word ks)
of_type_code word ks code = worded word _ (signed s.Less _ refl (up_to ks s.Greater [] refl code c.none))

pub record Bracketed (word : Word) (a : TypeExpr) (ts rest : List Token) : Type 0 where
  pub t : Token
  pub o : Token
  pub c : Token
  pub us : List Token
  pub whole : ts ≡ t ∷ o ∷ us
  pub word_is : IsWord word t
  pub open_is : IsSign s.Less o
  pub inner : Writes a us (c ∷ rest)
  pub close_is : IsSign s.Greater c

pub bracketed : (word : Word) (a : TypeExpr) (ts rest : List Token) → TypeAgain a → Are (of_type word (type_kinds a)) ts rest → Bracketed word a ts rest
bracketed word a ts rest again are =
    first (k.Word word) _ ts rest (λ xs. Bracketed word a xs rest) are (λ t us is more.
    first (k.Sign s.Less) _ us rest (λ xs. Bracketed word a (t ∷ xs) rest) more (λ o vs less inner.
    let e = ended (type_kinds a) (k.Sign s.Greater) vs rest inner in
    record { t = t; o = o; c = e.t; us = vs; whole = refl; word_is = is; open_is = less; inner = again.reads vs (e.t ∷ rest) e.front; close_is = e.is }))

-- a type that is written so is like the one with this kind
around : (p : Place) (word : Word) (a : TypeExpr) (kind : TypeExpr → TypeKind) (nullable : Bool) (ts rest : List Token)
    → ((t o c : Token) (us rest : List Token) (b : TypeExpr) → IsWord word t → IsSign s.Less o → WritesType us (c ∷ rest) b → IsSign s.Greater c → WritesCore nullable (t ∷ o ∷ us) rest (type_at t.place (kind b)))
    → ((b : TypeExpr) → AlikeTypes a b → AlikeTypeKinds (kind a) (kind b)) → Bracketed word a ts rest → Writes (type_at p (kind a)) ts rest
around p word a kind nullable ts rest make alike x =
    subst (λ xs. Writes (type_at p (kind a)) xs rest) (sym x.whole) (record {
      other = type_at x.t.place (kind x.inner.other);
      written = g.bare nullable _ rest _ (make x.t x.o x.c x.us rest x.inner.other x.word_is x.open_is x.inner.written x.close_is);
      alike = al.written p x.t.place (kind a) (kind x.inner.other) (alike x.inner.other x.inner.alike);
    })

list_again : (p : Place) (a : TypeExpr) → TypeAgain a → TypeAgain (type_at p (ty.List a))
list_again p a again = made p (ty.List a) (of_type w.ImmutableList (type_kinds a)) (law.type_list a) (record {
  code = of_type_code w.ImmutableList (type_kinds a) again.code;
  reads = λ ts rest are. around p w.ImmutableList a (λ b. ty.List b) true ts rest (λ t o c us rest b. g.list t o c us rest b) (λ b. al.list a b) (bracketed w.ImmutableList a ts rest again are);
})

callback_again : (p : Place) (a : TypeExpr) → TypeAgain a → TypeAgain (type_at p (ty.Callback (Some a)))
callback_again p a again = made p (ty.Callback (Some a)) (of_type w.EventCallback (type_kinds a)) (law.type_callback_of a) (record {
  code = of_type_code w.EventCallback (type_kinds a) again.code;
  reads = λ ts rest are. around p w.EventCallback a (λ b. ty.Callback (Some b)) false ts rest (λ t o c us rest b. g.callback_of t o c us rest b) (λ b. al.callback a b) (bracketed w.EventCallback a ts rest again are);
})

fragment_again : (p : Place) (a : TypeExpr) → TypeAgain a → TypeAgain (type_at p (ty.Fragment (Some a)))
fragment_again p a again = made p (ty.Fragment (Some a)) (of_type w.RenderFragment (type_kinds a)) (law.type_fragment_of a) (record {
  code = of_type_code w.RenderFragment (type_kinds a) again.code;
  reads = λ ts rest are. around p w.RenderFragment a (λ b. ty.Fragment (Some b)) true ts rest (λ t o c us rest b. g.fragment_of t o c us rest b) (λ b. al.fragment a b) (bracketed w.RenderFragment a ts rest again are);
})

callback_alone : (p : Place) → TypeAgain (type_at p (ty.Callback None))
callback_alone p = made p (ty.Callback None) (k.Word w.EventCallback ∷ []) law.type_callback (record {
  code = worded w.EventCallback [] c.none;
  reads = λ ts rest are. single (k.Word w.EventCallback) ts rest (λ xs. Writes (type_at p (ty.Callback None)) xs rest) are (λ t has. record {
    other = type_at t.place (ty.Callback None);
    written = g.bare false (t ∷ rest) rest _ (g.callback t rest has);
    alike = al.written p t.place _ _ (al.same (ty.Callback None));
  });
})

fragment_alone : (p : Place) → TypeAgain (type_at p (ty.Fragment None))
fragment_alone p = made p (ty.Fragment None) (k.Word w.RenderFragment ∷ []) law.type_fragment (record {
  code = worded w.RenderFragment [] c.none;
  reads = λ ts rest are. single (k.Word w.RenderFragment) ts rest (λ xs. Writes (type_at p (ty.Fragment None)) xs rest) are (λ t has. record {
    other = type_at t.place (ty.Fragment None);
    written = g.bare true (t ∷ rest) rest _ (g.fragment t rest has);
    alike = al.written p t.place _ _ (al.same (ty.Fragment None));
  });
})

mutual
  pub type_again : (ts rest : List Token) (a : TypeExpr) → WritesType ts rest a → AreProper ts → TypeFound a rest
  type_again _ _ _ (g.bare nullable ts rest a core) proper = core_again nullable ts rest a core proper
  type_again _ _ _ (g.marked q ts rest a core is) proper =
      let x = core_again true ts (q ∷ rest) a core proper in
      record { again = x.again; proper = later q rest x.proper }

  core_again : (nullable : Bool) (ts rest : List Token) (a : TypeExpr) → WritesCore nullable ts rest a → AreProper ts → TypeFound a rest
  core_again _ _ _ _ (g.plain nullable word kind t rest is e) proper = record { again = plain_again t.place word kind nullable e; proper = later t rest proper }
  core_again _ _ _ _ (g.name x t rest is) proper = record { again = name_again t.place x (lexeme t rest (k.Name x) proper is); proper = later t rest proper }
  core_again _ _ _ _ (g.list t o c ts rest a is less inner greater) proper =
      let x = type_again ts (c ∷ rest) a inner (later o ts (later t (o ∷ ts) proper)) in
      record { again = list_again t.place a x.again; proper = later c rest x.proper }
  core_again _ _ _ _ (g.callback t rest is) proper = record { again = callback_alone t.place; proper = later t rest proper }
  core_again _ _ _ _ (g.callback_of t o c ts rest a is less inner greater) proper =
      let x = type_again ts (c ∷ rest) a inner (later o ts (later t (o ∷ ts) proper)) in
      record { again = callback_again t.place a x.again; proper = later c rest x.proper }
  core_again _ _ _ _ (g.fragment t rest is) proper = record { again = fragment_alone t.place; proper = later t rest proper }
  core_again _ _ _ _ (g.fragment_of t o c ts rest a is less inner greater) proper =
      let x = type_again ts (c ∷ rest) a inner (later o ts (later t (o ∷ ts) proper)) in
      record { again = fragment_again t.place a x.again; proper = later c rest x.proper }
