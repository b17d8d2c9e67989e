-- Forms of expression with lists in them, printed and spelled again.
use Rattle.std.proofs.Common.{◌≡◌, ℕ, ◌<◌, List, [], ◌∷◌, ◌++◌, length, map, false, refl, sym, ap, ◌∙◌, subst, append_assoc}
use Rattle.std.specs.Prelude.{codes}
use Rattle.std.proofs.lemmas.List.{append-nil}
use Rattle.text_core.specs.declared.place.Place.{Place}
use Rattle.cs_ast.specs.declared.cs_type.TypeExpr.{TypeExpr}
use Rattle.cs_ast.specs.declared.expression.Expr.{Expr}
use Rattle.cs_ast.specs.declared.expression.ExprKind.TheVariants as ek
use Rattle.cs_ast.specs.declared.expression.TextPart.{TextPart}
use Rattle.cs_ast.specs.declared.expression.TextPart.TheVariants as tp
use Rattle.cs_ast.specs.declared.expression.WithPart.{WithPart}
use Rattle.cs_token.specs.declared.token.Token.{Token}
use Rattle.cs_token.specs.declared.token.TokenKind.TheVariants as k
use Rattle.cs_token.specs.declared.token.Sign.TheVariants as s
use Rattle.cs_token.specs.declared.token.Word.TheVariants as w
use Rattle.cs_grammar.specs.Expressions.{node, with_part, Spells, Arguments, Values, WithParts, TextParts}
use Rattle.cs_grammar.specs.Expressions as g
use Rattle.cs_grammar.specs.Tokens.{ident}
use Rattle.cs_print.specs.Alike.{Alike, AlikeKinds, AlikeAll, AlikeAllTexts, AlikeAllParts}
use Rattle.cs_print.specs.Alike as al
use Rattle.cs_print.specs.Printed.{Kinds, Printed, at_level, whole, in_round, in_braces, in_hole, listed, behind_commas, joined, of_type, given, type_kinds, printed, part_kinds, text_kinds}
use Rattle.cs_print.specs.Printed as p
use Rattle.cs_print.proofs.PrintedLaws as law
use Rattle.cs_print.proofs.CodeKinds.{begins_part, IsCode, AreParts, IsLexeme}
use Rattle.cs_print.proofs.CodeKinds as c
use Rattle.cs_print.proofs.LayLemmas.{Are}
use Rattle.cs_print.proofs.LayLemmas as r
use Rattle.cs_print.proofs.ReadLemmas.{Prints, prints_as, first, single, middle, ended, signed, worded, named, up_to}
use Rattle.cs_print.proofs.TypesAgain.{TypeAgain, bracketed, of_type_code}
use Rattle.cs_print.proofs.ExpressionForms.{Reads, Again, ExprAgain, made, at, all}

-- values with commas between them

pub record ReadsValues (bs : List Expr) (ts rest : List Token) : Type 0 where
  pub trees : List Expr
  pub spelled : Values ts rest trees
  pub alike : AlikeAll bs trees

abbrev pub value_kinds : List Expr → List Kinds
value_kinds bs = map whole (map printed bs)

abbrev pub ValuesAgain : List Expr → Type 0
ValuesAgain bs = Prints (ReadsValues bs) (listed (value_kinds bs))

pub one_value : (b : Expr) → ExprAgain b → ValuesAgain (b ∷ [])
one_value b h =
    let x = all b h in
    prints_as (ReadsValues (b ∷ [])) (whole (printed b)) _ (sym (append-nil (whole (printed b)))) (record {
      code = x.code;
      reads = λ ts rest are.
          let i = x.reads ts rest are in
          record { trees = i.tree ∷ []; spelled = g.one_value i.place ts rest i.tree i.spelled; alike = al.one_value b i.tree [] [] i.alike al.no_value };
    })

pub more_values : (b other : Expr) (bs : List Expr) → ExprAgain b → ValuesAgain (other ∷ bs) → ValuesAgain (b ∷ other ∷ bs)
more_values b other bs h others =
    let x = all b h in
    record {
      code = up_to _ s.Comma _ refl x.code others.code;
      reads = λ ts rest are.
          let m = middle (whole (printed b)) (k.Sign s.Comma) (listed (value_kinds (other ∷ bs))) ts rest are in
          let i = x.reads ts (m.t ∷ m.us) m.front in
          let j = others.reads m.us rest m.behind in
          record {
            trees = i.tree ∷ j.trees;
            spelled = g.more_values i.place m.t ts m.us rest i.tree j.trees i.spelled m.is j.spelled;
            alike = al.one_value b i.tree (other ∷ bs) j.trees i.alike j.alike;
          };
    }

-- arguments, and the bracket behind them

pub record ReadsArguments (bs : List Expr) (ts rest : List Token) : Type 0 where
  pub trees : List Expr
  pub spelled : Arguments ts rest trees
  pub alike : AlikeAll bs trees

abbrev pub ArgumentsAgain : List Expr → Type 0
ArgumentsAgain bs = Prints (ReadsArguments bs) (listed (value_kinds bs) ++ k.Sign s.CloseRound ∷ [])

pub no_arguments : ArgumentsAgain []
no_arguments = record {
  code = signed s.CloseRound [] refl c.none;
  reads = λ ts rest are. single (k.Sign s.CloseRound) ts rest (λ xs. ReadsArguments [] xs rest) are (λ t is.
      record { trees = []; spelled = g.no_argument t rest is; alike = al.no_value });
}

pub some_arguments : (bs : List Expr) → ValuesAgain bs → ArgumentsAgain bs
some_arguments bs h = record {
  code = up_to _ s.CloseRound [] refl h.code c.none;
  reads = λ ts rest are.
      let e = ended (listed (value_kinds bs)) (k.Sign s.CloseRound) ts rest are in
      let i = h.reads ts (e.t ∷ rest) e.front in
      record { trees = i.trees; spelled = g.some_arguments e.t ts rest i.trees i.spelled e.is; alike = i.alike };
}

call_form : (q : Place) (x : Expr) (bs : List Expr) → ExprAgain x → ArgumentsAgain bs → Again (node q (ek.Call x bs)) (p.call (printed x) (map printed bs))
unfolding p.call
call_form q x bs h others =
    let inner = at 13 x (printed x) h in
    record {
      code = up_to _ s.OpenRound _ refl inner.code others.code;
      reads = λ l ts rest low are.
          let m = middle _ (k.Sign s.OpenRound) (listed (value_kinds bs) ++ k.Sign s.CloseRound ∷ []) ts rest are in
          let i = inner.reads ts (m.t ∷ m.us) m.front in
          let j = others.reads m.us rest m.behind in
          record {
            place = i.place;
            tree = node i.place (ek.Call i.tree j.trees);
            spelled = g.call l i.place m.t ts m.us rest i.tree j.trees low i.spelled m.is j.spelled;
            alike = al.expression q i.place _ _ (al.call x i.tree bs j.trees i.alike j.alike);
          };
    }

pub call_again : (q : Place) (x : Expr) (bs : List Expr) → ExprAgain x → ArgumentsAgain bs → ExprAgain (node q (ek.Call x bs))
call_again q x bs h others = made q (ek.Call x bs) _ (law.expr_call x bs) (call_form q x bs h others)

new_form : (q i : Place) (n : List ℕ) (bs : List Expr) → IsLexeme (k.Name n) → ArgumentsAgain bs → Again (node q (ek.New (al.named i n) bs)) (p.new_record n (map printed bs))
unfolding p.new_record
new_form q i n bs is others = record {
  code = worded w.New _ (named n _ is (signed s.OpenRound _ refl others.code));
  reads = λ l ts rest low are. first (k.Word w.New) _ ts rest (λ xs. Reads l (node q (ek.New (al.named i n) bs)) xs rest) are (λ t us has more.
      first (k.Name n) _ us rest (λ xs. Reads l (node q (ek.New (al.named i n) bs)) (t ∷ xs) rest) more (λ m vs named_so last.
      first (k.Sign s.OpenRound) _ vs rest (λ xs. Reads l (node q (ek.New (al.named i n) bs)) (t ∷ m ∷ xs) rest) last (λ o xs opens inner.
      let j = others.reads xs rest inner in
      record {
        place = t.place;
        tree = node t.place (ek.New (ident m n) j.trees);
        spelled = g.new_record l n t m o xs rest j.trees has named_so opens j.spelled;
        alike = al.expression q t.place _ _ (al.new_record n i m.place bs j.trees j.alike);
      })));
}

pub new_again : (q i : Place) (n : List ℕ) (bs : List Expr) → IsLexeme (k.Name n) → ArgumentsAgain bs → ExprAgain (node q (ek.New (al.named i n) bs))
new_again q i n bs is others = made q (ek.New (al.named i n) bs) _ (law.expr_new_record (al.named i n) bs) (new_form q i n bs is others)

-- parts behind `with`

pub record ReadsParts (parts : List WithPart) (ts rest : List Token) : Type 0 where
  pub trees : List WithPart
  pub spelled : WithParts ts rest trees
  pub alike : AlikeAllParts parts trees

abbrev pub PartsAgain : List WithPart → Type 0
PartsAgain parts = Prints (ReadsParts parts) (listed (map part_kinds parts))

-- `N = e`, with what is to be read behind the name
one_part_code : (n : List ℕ) (b : Expr) → IsLexeme (k.Name n) → ExprAgain b → IsCode (given n (printed b))
one_part_code n b is h = named n _ is (signed s.Assign _ refl (all b h).code)

part_is : (i : Place) (n : List ℕ) (b : Expr) → part_kinds (record { name = al.named i n; value = b }) ≡ given n (printed b)
part_is i n b = law.part_law (record { name = al.named i n; value = b })

pub one_part : (i : Place) (n : List ℕ) (b : Expr) → IsLexeme (k.Name n) → ExprAgain b → PartsAgain (record { name = al.named i n; value = b } ∷ [])
one_part i n b is h =
    let x = all b h in
    prints_as (ReadsParts (record { name = al.named i n; value = b } ∷ [])) (given n (printed b)) _ (sym (append-nil (part_kinds (record { name = al.named i n; value = b })) ∙ part_is i n b)) (record {
      code = one_part_code n b is h;
      reads = λ ts rest are. first (k.Name n) _ ts rest (λ xs. ReadsParts (record { name = al.named i n; value = b } ∷ []) xs rest) are (λ m us has more.
          first (k.Sign s.Assign) _ us rest (λ xs. ReadsParts (record { name = al.named i n; value = b } ∷ []) (m ∷ xs) rest) more (λ t vs sets last.
          let j = x.reads vs rest last in
          record {
            trees = with_part m n j.tree ∷ [];
            spelled = g.one_part n j.place m t vs rest j.tree has sets j.spelled;
            alike = al.one_part _ _ [] [] (al.part n i m.place b j.tree j.alike) al.no_part;
          }));
    })

pub more_parts : (i : Place) (n : List ℕ) (b : Expr) (other : WithPart) (parts : List WithPart) → IsLexeme (k.Name n) → ExprAgain b → PartsAgain (other ∷ parts)
    → PartsAgain (record { name = al.named i n; value = b } ∷ other ∷ parts)
more_parts i n b other parts is h others =
    let x = all b h in
    let one : WithPart = record { name = al.named i n; value = b } in
    prints_as (ReadsParts (one ∷ other ∷ parts)) (given n (printed b) ++ k.Sign s.Comma ∷ listed (map part_kinds (other ∷ parts))) _
    (ap (λ y. y ++ k.Sign s.Comma ∷ listed (map part_kinds (other ∷ parts))) (sym (part_is i n b))) (record {
      code = up_to _ s.Comma _ refl (one_part_code n b is h) others.code;
      reads = λ ts rest are. first (k.Name n) _ ts rest (λ xs. ReadsParts (one ∷ other ∷ parts) xs rest) are (λ m us has more.
          first (k.Sign s.Assign) _ us rest (λ xs. ReadsParts (one ∷ other ∷ parts) (m ∷ xs) rest) more (λ t vs sets last.
          let y = middle (whole (printed b)) (k.Sign s.Comma) (listed (map part_kinds (other ∷ parts))) vs rest last in
          let j = x.reads vs (y.t ∷ y.us) y.front in
          let z = others.reads y.us rest y.behind in
          record {
            trees = with_part m n j.tree ∷ z.trees;
            spelled = g.more_parts n j.place m t y.t vs y.us rest j.tree z.trees has sets j.spelled y.is z.spelled;
            alike = al.one_part one (with_part m n j.tree) (other ∷ parts) z.trees (al.part n i m.place b j.tree j.alike) z.alike;
          }));
    })

with_form : (q : Place) (x : Expr) (parts : List WithPart) → IsLexeme (k.Name (codes "with")) → ExprAgain x → PartsAgain parts → Again (node q (ek.With x parts)) (p.with_parts (printed x) (map part_kinds parts))
unfolding p.with_parts
with_form q x parts is h others =
    let inner = at 10 x (printed x) h in
    record {
      code = c.join (at_level 10 (printed x)) _ inner.code (named (codes "with") _ is (c.braces (listed (map part_kinds parts)) [] others.code c.none));
      reads = λ l ts rest low are.
          let m = middle (at_level 10 (printed x)) (k.Name (codes "with")) (in_braces (listed (map part_kinds parts))) ts rest are in
          first (k.Sign s.OpenBrace) _ m.us rest (λ xs. Are (at_level 10 (printed x)) ts (m.t ∷ xs) → Reads l (node q (ek.With x parts)) ts rest) m.behind (λ o us opens inside front.
          let e = ended (listed (map part_kinds parts)) (k.Sign s.CloseBrace) us rest inside in
          let i = inner.reads ts (m.t ∷ o ∷ us) front in
          let j = others.reads us (e.t ∷ rest) e.front in
          record {
            place = i.place;
            tree = node i.place (ek.With i.tree j.trees);
            spelled = g.with_parts l i.place m.t o e.t ts us rest i.tree j.trees low i.spelled m.is opens j.spelled e.is;
            alike = al.expression q i.place _ _ (al.with_parts x i.tree parts j.trees i.alike j.alike);
          }) m.front;
    }

pub with_again : (q : Place) (x : Expr) (parts : List WithPart) → IsLexeme (k.Name (codes "with")) → ExprAgain x → PartsAgain parts → ExprAgain (node q (ek.With x parts))
with_again q x parts is h others = made q (ek.With x parts) _ (law.expr_with_parts x parts) (with_form q x parts is h others)

-- interpolated texts

pub record ReadsTexts (parts : List TextPart) (ts rest : List Token) : Type 0 where
  pub trees : List TextPart
  pub spelled : TextParts ts rest trees
  pub alike : AlikeAllTexts parts trees

pub record TextsAs (parts : List TextPart) (ks : Kinds) : Type 0 where
  pub laid : AreParts ks
  pub reads : (ts rest : List Token) → Are ks ts rest → ReadsTexts parts ts rest

abbrev pub TextsAgain : List TextPart → Type 0
TextsAgain parts = TextsAs parts (joined (map text_kinds parts))

no_texts_read : (ts rest : List Token) → Are [] ts rest → ReadsTexts [] ts rest
no_texts_read _ _ (r.nil rest) = record { trees = []; spelled = g.no_text_part rest; alike = al.no_text }

pub no_texts : TextsAgain []
no_texts = record { laid = c.no_part; reads = no_texts_read }

pub literal_texts : (x : List ℕ) (parts : List TextPart) → 0 < length x → begins_part (joined (map text_kinds parts)) ≡ false → TextsAgain parts → TextsAgain (tp.Literal x ∷ parts)
literal_texts x parts some apart others =
    subst (λ y. TextsAs (tp.Literal x ∷ parts) (y ++ joined (map text_kinds parts))) (sym (law.text_literal x)) (record {
      laid = c.literal x (joined (map text_kinds parts)) some apart others.laid;
      reads = λ ts rest are. first (k.Part x) _ ts rest (λ xs. ReadsTexts (tp.Literal x ∷ parts) xs rest) are (λ t us is more.
          let j = others.reads us rest more in
          record {
            trees = tp.Literal x ∷ j.trees;
            spelled = g.literal_part x t us rest j.trees is j.spelled;
            alike = al.one_text (tp.Literal x) (tp.Literal x) parts j.trees (al.literal x) j.alike;
          });
    })

hole_kinds : (b : Expr) (ks : Kinds) → in_hole (whole (printed b)) ++ ks ≡ k.Sign s.HoleOpen ∷ (whole (printed b) ++ k.Sign s.HoleClose ∷ ks)
hole_kinds b ks = ap (λ y. k.Sign s.HoleOpen ∷ y) (append_assoc (whole (printed b)) (k.Sign s.HoleClose ∷ []) ks)

pub hole_texts : (b : Expr) (parts : List TextPart) → ExprAgain b → TextsAgain parts → TextsAgain (tp.Hole b ∷ parts)
hole_texts b parts h others =
    let x = all b h in
    let ks = joined (map text_kinds parts) in
    subst (λ y. TextsAs (tp.Hole b ∷ parts) y) (sym (ap (λ y. y ++ ks) (law.text_hole b) ∙ hole_kinds b ks)) (record {
      laid = c.hole (whole (printed b)) ks x.code others.laid;
      reads = λ ts rest are. first (k.Sign s.HoleOpen) _ ts rest (λ xs. ReadsTexts (tp.Hole b ∷ parts) xs rest) are (λ o us opens more.
          let m = middle (whole (printed b)) (k.Sign s.HoleClose) ks us rest more in
          let i = x.reads us (m.t ∷ m.us) m.front in
          let j = others.reads m.us rest m.behind in
          record {
            trees = tp.Hole i.tree ∷ j.trees;
            spelled = g.hole i.place o m.t us m.us rest i.tree j.trees opens i.spelled m.is j.spelled;
            alike = al.one_text (tp.Hole b) (tp.Hole i.tree) parts j.trees (al.hole b i.tree i.alike) j.alike;
          });
    })

interpolated_form : (q : Place) (parts : List TextPart) → TextsAgain parts → Again (node q (ek.Interpolated parts)) (p.interpolated (map text_kinds parts))
unfolding p.interpolated
interpolated_form q parts others = record {
  code = c.interpolated (joined (map text_kinds parts)) [] others.laid c.none;
  reads = λ l ts rest low are. first (k.Sign s.InterpolationStart) _ ts rest (λ xs. Reads l (node q (ek.Interpolated parts)) xs rest) are (λ o us opens more.
      let e = ended (joined (map text_kinds parts)) (k.Sign s.InterpolationEnd) us rest more in
      let j = others.reads us (e.t ∷ rest) e.front in
      record {
        place = o.place;
        tree = node o.place (ek.Interpolated j.trees);
        spelled = g.interpolated l o e.t us rest j.trees opens j.spelled e.is;
        alike = al.expression q o.place _ _ (al.interpolated parts j.trees j.alike);
      });
}

pub interpolated_again : (q : Place) (parts : List TextPart) → TextsAgain parts → ExprAgain (node q (ek.Interpolated parts))
interpolated_again q parts others = made q (ek.Interpolated parts) _ (law.expr_interpolated parts) (interpolated_form q parts others)

-- the empty list of a type

empty_form : (q : Place) (b : TypeExpr) → IsLexeme (k.Name (codes "Empty")) → TypeAgain b → Again (node q (ek.EmptyList b)) (p.empty_list b)
unfolding p.empty_list
empty_form q b is h = record {
  code = c.join (of_type w.ImmutableList (type_kinds b)) _ (of_type_code w.ImmutableList (type_kinds b) h.code) (signed s.Dot _ refl (named (codes "Empty") [] is c.none));
  reads = λ l ts rest low are.
      let m = middle (of_type w.ImmutableList (type_kinds b)) (k.Sign s.Dot) (k.Name (codes "Empty") ∷ []) ts rest are in
      single (k.Name (codes "Empty")) m.us rest (λ xs. Are (of_type w.ImmutableList (type_kinds b)) ts (m.t ∷ xs) → Reads l (node q (ek.EmptyList b)) ts rest) m.behind (λ n has front.
      let x = bracketed w.ImmutableList b ts (m.t ∷ n ∷ rest) h front in
      subst (λ xs. Reads l (node q (ek.EmptyList b)) xs rest) (sym x.whole) (record {
        place = x.t.place;
        tree = node x.t.place (ek.EmptyList x.inner.other);
        spelled = g.empty_list l x.t x.o x.c m.t n x.us rest x.inner.other x.word_is x.open_is x.inner.written x.close_is m.is has;
        alike = al.expression q x.t.place _ _ (al.empty_list b x.inner.other x.inner.alike);
      })) m.front;
}

pub empty_again : (q : Place) (b : TypeExpr) → IsLexeme (k.Name (codes "Empty")) → TypeAgain b → ExprAgain (node q (ek.EmptyList b))
empty_again q b is h = made q (ek.EmptyList b) _ (law.expr_empty_list b) (empty_form q b is h)
