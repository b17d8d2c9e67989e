-- Each expression that tokens of a text spell is printed so that it is spelled again.
use Rattle.std.proofs.Common.{◌≡◌, ℕ, List, [], ◌∷◌, ◌++◌, map, true, false, refl, sym, ap, ◌∙◌}
use Rattle.std.specs.Prelude.{Bool}
use Rattle.std.proofs.lemmas.Bool.{false≢true}
use Rattle.text_core.specs.declared.place.Place.{Place}
use Rattle.cs_ast.specs.declared.expression.Expr.{Expr}
use Rattle.cs_ast.specs.declared.expression.TextPart.{TextPart}
use Rattle.cs_ast.specs.declared.expression.WithPart.{WithPart}
use Rattle.cs_token.specs.declared.token.Token.{Token}
use Rattle.cs_token.specs.declared.token.TokenKind.TheVariants as k
use Rattle.cs_grammar.specs.Expressions.{node, Spells, Arguments, Values, WithParts, TextParts}
use Rattle.cs_grammar.specs.Expressions as g
use Rattle.cs_print.specs.Printed.{Kinds, joined, text_kinds}
use Rattle.cs_print.proofs.PrintedLaws as law
use Rattle.cs_print.proofs.CodeKinds.{begins_part, is_part, IsLexeme}
use Rattle.cs_print.proofs.ReadLemmas.{AreProper, first_part, later, lexeme, apart}
use Rattle.cs_print.proofs.TypesAgain.{type_again}
use Rattle.cs_print.proofs.ExpressionForms.{ExprAgain, number_again, text_again, name_again, literal_again, binary_again, unary_again, cast_again, conditional_again, member_again, null_member_again, index_again, static_again}
use Rattle.cs_print.proofs.ExpressionLists.{ValuesAgain, ArgumentsAgain, PartsAgain, TextsAgain, one_value, more_values, no_arguments, some_arguments, call_again, new_again, one_part, more_parts, with_again, no_texts, literal_texts, hole_texts, interpolated_again, empty_again}

-- it is, and the tokens behind it are those of a text
pub record Found (a : Expr) (rest : List Token) : Type 0 where
  pub again : ExprAgain a
  pub proper : AreProper rest

pub record FoundValues (bs : List Expr) (rest : List Token) : Type 0 where
  pub again : ValuesAgain bs
  pub proper : AreProper rest

pub record FoundArguments (bs : List Expr) (rest : List Token) : Type 0 where
  pub again : ArgumentsAgain bs
  pub proper : AreProper rest

record FoundParts (parts : List WithPart) (rest : List Token) : Type 0 where
  again : PartsAgain parts
  proper : AreProper rest

record FoundTexts (parts : List TextPart) (ts rest : List Token) : Type 0 where
  again : TextsAgain parts
  proper : AreProper rest
  begins : begins_part (joined (map text_kinds parts)) ≡ true → first_part ts ≡ true

part_first : (t : Token) (ts : List Token) (x : List ℕ) → t.kind ≡ k.Part x → first_part (t ∷ ts) ≡ true
part_first t ts x is = ap is_part is

-- what begins with a literal text begins so in the tokens
apart_from : (ks : Kinds) (ts : List Token) → (begins_part ks ≡ true → first_part ts ≡ true) → first_part ts ≡ false → begins_part ks ≡ false
apart_from ks ts begins other = go (begins_part ks) refl
  where
    go : (b : Bool) → begins_part ks ≡ b → begins_part ks ≡ false
    go true e = absurd (false≢true (sym other ∙ begins e))
    go false e = e

values_more : (b : Expr) (bs : List Expr) (ts rest : List Token) → Values ts rest bs → ExprAgain b → ValuesAgain bs → ValuesAgain (b ∷ bs)
values_more b _ _ _ (g.one_value p ts rest a spells) h others = more_values b a [] h others
values_more b _ _ _ (g.more_values p t ts us rest a bs spells comma values) h others = more_values b a bs h others

parts_more : (i : Place) (n : List ℕ) (b : Expr) (parts : List WithPart) (ts rest : List Token) → WithParts ts rest parts → IsLexeme (k.Name n) → ExprAgain b → PartsAgain parts
    → PartsAgain (record { name = record { place = i; name = n }; value = b } ∷ parts)
parts_more i n b _ _ _ (g.one_part x p m t ts rest a is sets spells) lex h others = more_parts i n b _ [] lex h others
parts_more i n b _ _ _ (g.more_parts x p m t d ts us rest a parts is sets spells comma more) lex h others = more_parts i n b _ parts lex h others

mutual
  pub expression : (l : ℕ) (p : Place) (ts rest : List Token) (a : Expr) → Spells l p ts rest a → AreProper ts → Found a rest
  expression _ _ _ _ _ (g.conditional l p q r t d ts us vs rest a b e low one question two colon three) proper =
      let x = expression 1 p ts (t ∷ us) a one proper in
      let y = expression 0 q us (d ∷ vs) b two (later t us x.proper) in
      let z = expression 0 r vs rest e three (later d vs y.proper) in
      record { again = conditional_again p a b e x.again y.again z.again; proper = z.proper }
  expression _ _ _ _ _ (g.binary l sign op p q t ts us rest a b low one is op_is two) proper =
      let x = expression _ p ts (t ∷ us) a one proper in
      let y = expression _ q us rest b two (later t us x.proper) in
      record { again = binary_again p op a b x.again y.again; proper = y.proper }
  expression _ _ _ _ _ (g.with_parts l p t o d ts us rest a parts low one is opens inner closes) proper =
      let x = expression 10 p ts (t ∷ o ∷ us) a one proper in
      let y = with_list us (d ∷ rest) parts inner (later o us (later t (o ∷ us) x.proper)) in
      record { again = with_again p a parts (lexeme t (o ∷ us) _ x.proper is) x.again y.again; proper = later d rest y.proper }
  expression _ _ _ _ _ (g.unary l sign op q t ts rest a low is op_is one) proper =
      let x = expression 11 q ts rest a one (later t ts proper) in
      record { again = unary_again t.place op a x.again; proper = x.proper }
  expression _ _ _ _ _ (g.cast l q o t d ts rest a low opens is closes one) proper =
      let x = expression 11 q ts rest a one (later d ts (later t (d ∷ ts) (later o (t ∷ d ∷ ts) proper))) in
      record { again = cast_again o.place a x.again; proper = x.proper }
  expression _ _ _ _ _ (g.null_member l n p d t ts rest a low one dot is) proper =
      let x = expression 12 p ts (d ∷ t ∷ rest) a one proper in
      let behind = later d (t ∷ rest) x.proper in
      record { again = null_member_again p t.place a n (lexeme t rest _ behind is) x.again; proper = later t rest behind }
  expression _ _ _ _ _ (g.member l n p d t ts rest a low one dot is) proper =
      let x = expression 13 p ts (d ∷ t ∷ rest) a one proper in
      let behind = later d (t ∷ rest) x.proper in
      record { again = member_again p t.place a n (lexeme t rest _ behind is) x.again; proper = later t rest behind }
  expression _ _ _ _ _ (g.call l p o ts us rest a bs low one opens others) proper =
      let x = expression 13 p ts (o ∷ us) a one proper in
      let y = arguments us rest bs others (later o us x.proper) in
      record { again = call_again p a bs x.again y.again; proper = y.proper }
  expression _ _ _ _ _ (g.index l p q o d ts us rest a b low one opens two closes) proper =
      let x = expression 13 p ts (o ∷ us) a one proper in
      let y = expression 0 q us (d ∷ rest) b two (later o us x.proper) in
      record { again = index_again p a b x.again y.again; proper = later d rest y.proper }
  expression _ _ _ _ _ (g.number l n t rest is) proper = record { again = number_again t.place n (lexeme t rest _ proper is); proper = later t rest proper }
  expression _ _ _ _ _ (g.text l x t rest is) proper = record { again = text_again t.place x; proper = later t rest proper }
  expression _ _ _ _ _ (g.literals l word kind t rest is says) proper = record { again = literal_again t.place word kind says; proper = later t rest proper }
  expression _ _ _ _ _ (g.interpolated l o d ts rest parts opens inner closes) proper =
      let x = texts ts (d ∷ rest) parts inner (later o ts proper) in
      record { again = interpolated_again o.place parts x.again; proper = later d rest x.proper }
  expression _ _ _ _ _ (g.name l x t rest is) proper = record { again = name_again t.place x (lexeme t rest _ proper is); proper = later t rest proper }
  expression _ _ _ _ _ (g.static l word owner x t d n rest is of dot named_so) proper =
      let behind = later d (n ∷ rest) (later t (d ∷ n ∷ rest) proper) in
      record { again = static_again t.place n.place owner x (lexeme n rest _ behind named_so); proper = later n rest behind }
  expression _ _ _ _ _ (g.brackets l p o d ts rest a opens one closes) proper =
      let x = expression 0 p ts (d ∷ rest) a one (later o ts proper) in
      record { again = x.again; proper = later d rest x.proper }
  expression _ _ _ _ _ (g.new_record l x t n o ts rest bs is named_so opens others) proper =
      let behind = later t (n ∷ o ∷ ts) proper in
      let y = arguments ts rest bs others (later o ts (later n (o ∷ ts) behind)) in
      record { again = new_again t.place n.place x bs (lexeme n (o ∷ ts) _ behind named_so) y.again; proper = y.proper }
  expression _ _ _ _ _ (g.empty_list l t o e d n ts rest a is less inner greater dot named_so) proper =
      let x = type_again ts (e ∷ d ∷ n ∷ rest) a inner (later o ts (later t (o ∷ ts) proper)) in
      let behind = later d (n ∷ rest) (later e (d ∷ n ∷ rest) x.proper) in
      record { again = empty_again t.place a (lexeme n rest _ behind named_so) x.again; proper = later n rest behind }

  pub arguments : (ts rest : List Token) (bs : List Expr) → Arguments ts rest bs → AreProper ts → FoundArguments bs rest
  arguments _ _ _ (g.no_argument d rest closes) proper = record { again = no_arguments; proper = later d rest proper }
  arguments _ _ _ (g.some_arguments d ts rest bs inner closes) proper =
      let x = values ts (d ∷ rest) bs inner proper in
      record { again = some_arguments bs x.again; proper = later d rest x.proper }

  pub values : (ts rest : List Token) (bs : List Expr) → Values ts rest bs → AreProper ts → FoundValues bs rest
  values _ _ _ (g.one_value p ts rest a one) proper =
      let x = expression 0 p ts rest a one proper in
      record { again = one_value a x.again; proper = x.proper }
  values _ _ _ (g.more_values p t ts us rest a bs one comma others) proper =
      let x = expression 0 p ts (t ∷ us) a one proper in
      let y = values us rest bs others (later t us x.proper) in
      record { again = values_more a bs us rest others x.again y.again; proper = y.proper }

  with_list : (ts rest : List Token) (parts : List WithPart) → WithParts ts rest parts → AreProper ts → FoundParts parts rest
  with_list _ _ _ (g.one_part x p n t ts rest a is sets one) proper =
      let y = expression 0 p ts rest a one (later t ts (later n (t ∷ ts) proper)) in
      record { again = one_part n.place x a (lexeme n (t ∷ ts) _ proper is) y.again; proper = y.proper }
  with_list _ _ _ (g.more_parts x p n t d ts us rest a parts is sets one comma others) proper =
      let y = expression 0 p ts (d ∷ us) a one (later t ts (later n (t ∷ ts) proper)) in
      let z = with_list us rest parts others (later d us y.proper) in
      record { again = parts_more n.place x a parts us rest others (lexeme n (t ∷ ts) _ proper is) y.again z.again; proper = z.proper }

  texts : (ts rest : List Token) (parts : List TextPart) → TextParts ts rest parts → AreProper ts → FoundTexts parts ts rest
  texts _ _ _ (g.no_text_part rest) proper = record { again = no_texts; proper = proper; begins = λ e. absurd (cc) }
  texts _ _ _ (g.literal_part x t ts rest parts is others) proper =
      let y = texts ts rest parts others (later t ts proper) in
      record {
        again = literal_texts x parts (lexeme t ts _ proper is) (apart_from _ ts y.begins (apart t ts proper (ap is_part is))) y.again;
        proper = y.proper;
        begins = λ e. part_first t ts x is;
      }
  texts _ _ _ (g.hole p o d ts us rest a parts opens one closes others) proper =
      let x = expression 0 p ts (d ∷ us) a one (later o ts proper) in
      let y = texts us rest parts others (later d us x.proper) in
      record {
        again = hole_texts a parts x.again y.again;
        proper = y.proper;
        begins = λ e. absurd (false≢true (ap (λ ks. begins_part (ks ++ joined (map text_kinds parts))) (sym (law.text_hole a)) ∙ e));
      }
