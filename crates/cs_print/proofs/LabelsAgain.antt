-- Labels that are printed are spelled again.
use Rattle.std.proofs.Common.{◌≡◌, ℕ, zero, suc, ◌+◌, ◌<◌, ◌^◌, ℤ, pos, negsuc, List, [], ◌∷◌, ◌++◌, map, true, false, refl, sym, ap, subst}
use Rattle.std.specs.Prelude.{neg_ℤ}
use Rattle.std.proofs.lemmas.List.{append-nil}
use Rattle.text_core.specs.declared.place.Place.{Place}
use Rattle.cs_ast.specs.declared.expression.Label.{Label}
use Rattle.cs_ast.specs.declared.expression.LabelKind.{LabelKind}
use Rattle.cs_ast.specs.declared.expression.LabelKind.TheVariants as lk
use Rattle.cs_token.specs.declared.token.Token.{Token}
use Rattle.cs_token.specs.declared.token.TokenKind.{TokenKind}
use Rattle.cs_token.specs.declared.token.TokenKind.TheVariants as k
use Rattle.cs_token.specs.declared.token.Sign.TheVariants as s
use Rattle.cs_token.specs.declared.token.Word.TheVariants as w
use Rattle.cs_grammar.specs.Statements.{Constant, Labelled, Labels, defaults, default_count}
use Rattle.cs_grammar.specs.Statements as g
use Rattle.cs_print.specs.Alike.{AlikeLabels, Each}
use Rattle.cs_print.specs.Alike as al
use Rattle.cs_print.specs.Printed.{Kinds, joined, label_kinds, constant}
use Rattle.cs_print.proofs.CodeKinds.{IsCode, IsLexeme}
use Rattle.cs_print.proofs.CodeKinds as c
use Rattle.cs_print.proofs.ReadLemmas as rd
use Rattle.cs_print.proofs.ReadLemmas.{Prints, prints_as, first, single, parted, signed, worded, up_to, AreProper, later, lexeme}

pub record ReadsLabel (a : Label) (ts rest : List Token) : Type 0 where
  pub other : Label
  pub spelled : Labelled ts rest other
  pub alike : AlikeLabels a other

record FoundLabel (a : Label) (rest : List Token) : Type 0 where
  again : Prints (ReadsLabel a) (label_kinds a.kind)
  proper : AreProper rest

record ReadsConstant (a : Label) (ts rest : List Token) : Type 0 where
  other : Label
  spelled : Constant ts rest other
  alike : AlikeLabels a other

record FoundConstant (a : Label) (rest : List Token) : Type 0 where
  again : Prints (ReadsConstant a) (constant a.kind)
  labelled : label_kinds a.kind ≡ k.Word w.Case ∷ (constant a.kind ++ k.Sign s.Colon ∷ [])
  proper : AreProper rest

label_at : Place → LabelKind → Label
label_at place kind = record { place = place; kind = kind }

one_constant : (q : Place) (kind : LabelKind) (token : TokenKind) → IsCode (token ∷ []) → ((t : Token) (rest : List Token) → t.kind ≡ token → Constant (t ∷ rest) rest (record { place = t.place; kind = kind }))
    → Prints (ReadsConstant (record { place = q; kind = kind })) (token ∷ [])
one_constant q kind token code spells = record {
  code = code;
  reads = λ us more are. single token us more (λ xs. ReadsConstant (record { place = q; kind = kind }) xs more) are (λ t is.
      record { other = record { place = t.place; kind = kind }; spelled = spells t more is; alike = al.label q t.place kind });
}

number_constant : (q : Place) (m : ℕ) → m < 2 ^ 31 → Prints (ReadsConstant (record { place = q; kind = lk.Int (pos m) })) (k.Number (pos m) ∷ [])
number_constant q m small = one_constant q (lk.Int (pos m)) (k.Number (pos m)) (c.simple _ [] (c.number m small) c.none) (λ t rest is. g.number (pos m) t rest is)

number_found : (q : Place) (n : ℤ) (rest : List Token) → IsLexeme (k.Number n) → AreProper rest → FoundConstant (record { place = q; kind = lk.Int n }) rest
number_found q n rest is proper =
    subst (λ x. FoundConstant (record { place = q; kind = lk.Int x }) rest) (sym is.1) (record { again = number_constant q is.0 is.2; labelled = refl; proper = proper })

same_number : (n m : ℕ) → pos n ≡ pos m → n ≡ m
same_number n m e = cc

minus_found : (q : Place) (n : ℕ) (rest : List Token) → n < 2 ^ 31 → AreProper rest → FoundConstant (record { place = q; kind = lk.Int (neg_ℤ (pos n)) }) rest
minus_found q zero rest small proper = record { again = number_constant q 0 small; labelled = refl; proper = proper }
minus_found q (suc n) rest small proper = record {
  again = record {
    code = signed s.Minus _ refl (c.simple _ [] (c.number (suc n) small) c.none);
    reads = λ us more are. first (k.Sign s.Minus) _ us more (λ xs. ReadsConstant (record { place = q; kind = lk.Int (negsuc n) }) xs more) are (λ t vs is last.
        single (k.Number (pos (suc n))) vs more (λ xs. ReadsConstant (record { place = q; kind = lk.Int (negsuc n) }) (t ∷ xs) more) last (λ u has.
        record { other = record { place = t.place; kind = lk.Int (negsuc n) }; spelled = g.minus (suc n) t u more is has; alike = al.label q t.place (lk.Int (negsuc n)) }));
  };
  labelled = refl;
  proper = proper;
}

constants : (ts rest : List Token) (a : Label) → Constant ts rest a → AreProper ts → FoundConstant a rest
constants _ _ _ (g.number n t rest is) proper = number_found t.place n rest (lexeme t rest _ proper is) (later t rest proper)
constants _ _ _ (g.minus n t u rest is has) proper =
    let behind = later t (u ∷ rest) proper in
    let number = lexeme u rest _ behind has in
    minus_found t.place n rest (subst (λ m. m < 2 ^ 31) (sym (same_number n number.0 number.1)) number.2) (later u rest behind)
constants _ _ _ (g.text x t rest is) proper = record { again = one_constant t.place (lk.Text x) (k.Text x) (c.simple _ [] (c.text x) c.none) (λ u more has. g.text x u more has); labelled = refl; proper = later t rest proper }
constants _ _ _ (g.yes t rest is) proper = record { again = one_constant t.place (lk.Bool true) (k.Word w.True) (worded w.True [] c.none) (λ u more has. g.yes u more has); labelled = refl; proper = later t rest proper }
constants _ _ _ (g.no t rest is) proper = record { again = one_constant t.place (lk.Bool false) (k.Word w.False) (worded w.False [] c.none) (λ u more has. g.no u more has); labelled = refl; proper = later t rest proper }
constants _ _ _ (g.null t rest is) proper = record { again = one_constant t.place lk.Null (k.Word w.Null) (worded w.Null [] c.none) (λ u more has. g.null u more has); labelled = refl; proper = later t rest proper }

labelled : (ts rest : List Token) (a : Label) → Labelled ts rest a → AreProper ts → FoundLabel a rest
labelled _ _ _ (g.case_of t d ts rest a is inner colon) proper =
    let x = constants ts (d ∷ rest) a inner (later t ts proper) in
    record {
      again = prints_as (ReadsLabel a) _ _ (sym x.labelled) (record {
        code = worded w.Case _ (up_to _ s.Colon [] refl x.again.code c.none);
        reads = λ us more are. first (k.Word w.Case) _ us more (λ xs. ReadsLabel a xs more) are (λ m vs has last.
            let e = rd.ended (constant a.kind) (k.Sign s.Colon) vs more last in
            let y = x.again.reads vs (e.t ∷ more) e.front in
            record { other = y.other; spelled = g.case_of m e.t vs more y.other has y.spelled e.is; alike = y.alike });
      });
      proper = later d rest x.proper;
    }
labelled _ _ _ (g.default t d rest is colon) proper = record {
  again = record {
    code = worded w.Default _ (signed s.Colon [] refl c.none);
    reads = λ us more are. first (k.Word w.Default) _ us more (λ xs. ReadsLabel (record { place = t.place; kind = lk.Default }) xs more) are (λ m vs has last.
        single (k.Sign s.Colon) vs more (λ xs. ReadsLabel (record { place = t.place; kind = lk.Default }) (m ∷ xs) more) last (λ e ends.
        record { other = record { place = m.place; kind = lk.Default }; spelled = g.default m e more has ends; alike = al.label t.place m.place lk.Default }));
  };
  proper = later d rest (later t (d ∷ rest) proper);
}

pub record ReadsLabels (ls : List Label) (ts rest : List Token) : Type 0 where
  pub others : List Label
  pub spelled : Labels ts rest others
  pub alike : Each AlikeLabels ls others

abbrev pub labels_kinds : List Label → Kinds
labels_kinds ls = joined (map (λ label. label_kinds label.kind) ls)

pub record FoundLabels (ls : List Label) (rest : List Token) : Type 0 where
  pub again : Prints (ReadsLabels ls) (labels_kinds ls)
  pub proper : AreProper rest

pub labels : (ts rest : List Token) (ls : List Label) → Labels ts rest ls → AreProper ts → FoundLabels ls rest
labels _ _ _ (g.one ts rest a is) proper =
    let x = labelled ts rest a is proper in
    record {
      again = prints_as (ReadsLabels (a ∷ [])) (label_kinds a.kind) _ (sym (append-nil (label_kinds a.kind))) (record {
        code = x.again.code;
        reads = λ us more are. let y = x.again.reads us more are in record { others = y.other ∷ []; spelled = g.one us more y.other y.spelled; alike = al.more a y.other [] [] y.alike al.none };
      });
      proper = x.proper;
    }
labels _ _ _ (g.more ts us rest a others is more) proper =
    let x = labelled ts us a is proper in
    let y = labels us rest others more x.proper in
    record {
      again = record {
        code = c.join (label_kinds a.kind) _ x.again.code y.again.code;
        reads = λ vs last are.
            let z = parted (label_kinds a.kind) (labels_kinds others) vs last are in
            let i = x.again.reads vs z.us z.front in
            let j = y.again.reads z.us last z.behind in
            record { others = i.other ∷ j.others; spelled = g.more vs z.us last i.other j.others i.spelled j.spelled; alike = al.more a i.other others j.others i.alike j.alike };
      };
      proper = y.proper;
    }

-- as many are `default`
pub defaults_alike : (ls ms : List Label) → Each AlikeLabels ls ms → defaults ls ≡ defaults ms
defaults_alike _ _ al.none = refl
defaults_alike _ _ (al.more _ _ ls ms (al.label q i kind) more) = ap (λ n. default_count kind + n) (defaults_alike ls ms more)
