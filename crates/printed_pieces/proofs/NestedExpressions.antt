-- The tokens of types and expressions have whole brackets.
use Rattle.std.proofs.Common.{◌≡◌, ℕ, Bool, true, false, List, ◌∷◌, Some, refl, sym, ap, ◌∙◌, subst}
use Rattle.text_core.specs.declared.place.Place.{Place}
use Rattle.cs_ast.specs.declared.cs_type.TypeExpr.{TypeExpr}
use Rattle.cs_ast.specs.declared.expression.Expr.{Expr}
use Rattle.cs_ast.specs.declared.expression.TextPart.{TextPart}
use Rattle.cs_ast.specs.declared.expression.WithPart.{WithPart}
use Rattle.cs_ast.specs.declared.operators.BinaryOp.{BinaryOp}
use Rattle.cs_ast.specs.declared.operators.UnaryOp.{UnaryOp}
use Rattle.cs_token.specs.declared.token.Token.{Token}
use Rattle.cs_token.specs.declared.token.TokenKind.{TokenKind}
use Rattle.cs_token.specs.declared.token.TokenKind.TheVariants as k
use Rattle.cs_token.specs.declared.token.Sign.{Sign}
use Rattle.cs_token.specs.declared.token.Sign.TheVariants as s
use Rattle.cs_token.specs.declared.token.Word.TheVariants as w
use Rattle.cs_grammar.specs.Expressions.{Spells, Arguments, Values, WithParts, TextParts}
use Rattle.cs_grammar.specs.Expressions as g
use Rattle.cs_grammar.specs.Tables.{operator, unary_operator}
use Rattle.cs_grammar.specs.Tokens.{IsSign}
use Rattle.cs_grammar.specs.Types.{WritesType, WritesCore}
use Rattle.cs_grammar.specs.Types as ty
use Rattle.printed_pieces.proofs.FrontLaws.{is_markup}
use Rattle.printed_pieces.proofs.Nests.{Nests, NestsTexts, is_flat, join, kind_flat, named, worded, signed}
use Rattle.printed_pieces.proofs.Nests as n

operator-flat : (sign : Sign) (op : BinaryOp) → operator sign ≡ Some op → is_flat (k.Sign sign) ≡ true
unfolding operator
operator-flat s.OpenRound op e = absurd (cc)
operator-flat s.CloseRound op e = absurd (cc)
operator-flat s.OpenSquare op e = absurd (cc)
operator-flat s.CloseSquare op e = absurd (cc)
operator-flat s.OpenBrace op e = absurd (cc)
operator-flat s.CloseBrace op e = absurd (cc)
operator-flat s.InterpolationStart op e = absurd (cc)
operator-flat s.InterpolationEnd op e = absurd (cc)
operator-flat s.HoleOpen op e = absurd (cc)
operator-flat s.HoleClose op e = absurd (cc)
operator-flat s.Colon op e = absurd (cc)
operator-flat s.Semicolon op e = absurd (cc)
operator-flat _ op e = refl

unary-plain : (sign : Sign) (op : UnaryOp) → unary_operator sign ≡ Some op → (is_flat (k.Sign sign) ≡ true) × (is_markup (k.Sign sign) ≡ false)
unfolding unary_operator
unary-plain s.Minus op e = (refl, refl)
unary-plain s.Plus op e = (refl, refl)
unary-plain s.Not op e = (refl, refl)
unary-plain _ op e = absurd (cc)

-- types
mutual
  pub type_nests : (b : Bool) (ts rest : List Token) (a : TypeExpr) → WritesType ts rest a → Nests b ts rest
  type_nests b _ _ _ (ty.bare nullable ts rest a core) = core_nests b nullable ts rest a core
  type_nests b _ _ _ (ty.marked q ts rest a core is) = join b ts (q ∷ rest) rest (core_nests b true ts (q ∷ rest) a core) (signed b s.Question q rest rest is refl (n.none b rest))

  core_nests : (b nullable : Bool) (ts rest : List Token) (a : TypeExpr) → WritesCore nullable ts rest a → Nests b ts rest
  core_nests b _ _ _ _ (ty.plain nullable word kind t rest is says) = worded b word t rest rest is (n.none b rest)
  core_nests b _ _ _ _ (ty.name x t rest is) = named b x t rest rest is (n.none b rest)
  core_nests b _ _ _ _ (ty.list t o c ts rest a is less inner greater) = worded b w.ImmutableList t (o ∷ ts) rest is (signed b s.Less o ts rest less refl (join b ts (c ∷ rest) rest (type_nests b ts (c ∷ rest) a inner) (signed b s.Greater c rest rest greater refl (n.none b rest))))
  core_nests b _ _ _ _ (ty.callback t rest is) = worded b w.EventCallback t rest rest is (n.none b rest)
  core_nests b _ _ _ _ (ty.callback_of t o c ts rest a is less inner greater) = worded b w.EventCallback t (o ∷ ts) rest is (signed b s.Less o ts rest less refl (join b ts (c ∷ rest) rest (type_nests b ts (c ∷ rest) a inner) (signed b s.Greater c rest rest greater refl (n.none b rest))))
  core_nests b _ _ _ _ (ty.fragment t rest is) = worded b w.RenderFragment t rest rest is (n.none b rest)
  core_nests b _ _ _ _ (ty.fragment_of t o c ts rest a is less inner greater) = worded b w.RenderFragment t (o ∷ ts) rest is (signed b s.Less o ts rest less refl (join b ts (c ∷ rest) rest (type_nests b ts (c ∷ rest) a inner) (signed b s.Greater c rest rest greater refl (n.none b rest))))

-- the first token, which doesn't begin as markup does
pub record Fronted (ts : List Token) : Type 0 where
  pub u : Token
  pub us : List Token
  pub is : u ∷ us ≡ ts
  pub free : is_markup u.kind ≡ false

pub fronted : (kind : TokenKind) (u : Token) (us : List Token) → u.kind ≡ kind → is_markup kind ≡ false → Fronted (u ∷ us)
fronted kind u us is free = record { u = u; us = us; is = refl; free = ap is_markup is ∙ free }

pub front_of : (l : ℕ) (p : Place) (ts rest : List Token) (a : Expr) → Spells l p ts rest a → Fronted ts
front_of _ _ _ _ _ (g.conditional l p q r t d ts us vs rest a b e low one question two colon three) = front_of 1 p ts (t ∷ us) a one
front_of _ _ _ _ _ (g.binary l sign op p q t ts us rest a b low one is op_is two) = front_of _ p ts (t ∷ us) a one
front_of _ _ _ _ _ (g.with_parts l p t o d ts us rest a parts low one is opens inner closes) = front_of 10 p ts (t ∷ o ∷ us) a one
front_of _ _ _ _ _ (g.unary l sign op q t ts rest a low is op_is one) = fronted (k.Sign sign) t ts is (unary-plain sign op op_is).1
front_of _ _ _ _ _ (g.cast l q o t d ts rest a low opens is closes one) = fronted (k.Sign s.OpenRound) o (t ∷ d ∷ ts) opens refl
front_of _ _ _ _ _ (g.null_member l x p d t ts rest a low one dot is) = front_of 12 p ts (d ∷ t ∷ rest) a one
front_of _ _ _ _ _ (g.member l x p d t ts rest a low one dot is) = front_of 13 p ts (d ∷ t ∷ rest) a one
front_of _ _ _ _ _ (g.call l p o ts us rest a bs low one opens others) = front_of 13 p ts (o ∷ us) a one
front_of _ _ _ _ _ (g.index l p q o d ts us rest a b low one opens two closes) = front_of 13 p ts (o ∷ us) a one
front_of _ _ _ _ _ (g.number l i t rest is) = fronted (k.Number i) t rest is refl
front_of _ _ _ _ _ (g.text l x t rest is) = fronted (k.Text x) t rest is refl
front_of _ _ _ _ _ (g.literals l word kind t rest is says) = fronted (k.Word word) t rest is refl
front_of _ _ _ _ _ (g.interpolated l o d ts rest parts opens inner closes) = fronted (k.Sign s.InterpolationStart) o ts opens refl
front_of _ _ _ _ _ (g.name l x t rest is) = fronted (k.Name x) t rest is refl
front_of _ _ _ _ _ (g.static l word owner x t d m rest is of dot named_so) = fronted (k.Word word) t (d ∷ m ∷ rest) is refl
front_of _ _ _ _ _ (g.brackets l p o d ts rest a opens one closes) = fronted (k.Sign s.OpenRound) o ts opens refl
front_of _ _ _ _ _ (g.new_record l x t m o ts rest bs is named_so opens others) = fronted (k.Word w.New) t (m ∷ o ∷ ts) is refl
front_of _ _ _ _ _ (g.empty_list l t o e d m ts rest a is less inner greater dot named_so) = fronted (k.Word w.ImmutableList) t (o ∷ ts) is refl

-- behind a colon
behind_colon : (b : Bool) (t : Token) (ts rest : List Token) → IsSign s.Colon t → Fronted ts → Nests b ts rest → Nests b (t ∷ ts) rest
behind_colon b t ts rest is f more =
    subst (λ z. Nests b (t ∷ z) rest) f.is (n.colon b t f.u f.us rest is f.free (subst (λ z. Nests b z rest) (sym f.is) more))

mutual
  pub expression_nests : (b : Bool) (l : ℕ) (p : Place) (ts rest : List Token) (a : Expr) → Spells l p ts rest a → Nests b ts rest
  expression_nests f _ _ _ _ _ (g.conditional l p q r t d ts us vs rest a b e low one question two colon three) =
      join f ts (t ∷ us) rest (expression_nests f 1 p ts (t ∷ us) a one) (signed f s.Question t us rest question refl
      (join f us (d ∷ vs) rest (expression_nests f 0 q us (d ∷ vs) b two) (behind_colon f d vs rest colon (front_of 0 r vs rest e three) (expression_nests f 0 r vs rest e three))))
  expression_nests f _ _ _ _ _ (g.binary l sign op p q t ts us rest a b low one is op_is two) =
      join f ts (t ∷ us) rest (expression_nests f _ p ts (t ∷ us) a one) (signed f sign t us rest is (operator-flat sign op op_is) (expression_nests f _ q us rest b two))
  expression_nests f _ _ _ _ _ (g.with_parts l p t o d ts us rest a parts low one is opens inner closes) =
      join f ts (t ∷ o ∷ us) rest (expression_nests f 10 p ts (t ∷ o ∷ us) a one) (n.with_parts f f t o d us rest rest is opens (with_nests f us (d ∷ rest) parts inner) closes (n.none f rest))
  expression_nests f _ _ _ _ _ (g.unary l sign op q t ts rest a low is op_is one) = signed f sign t ts rest is (unary-plain sign op op_is).0 (expression_nests f 11 q ts rest a one)
  expression_nests f _ _ _ _ _ (g.cast l q o t d ts rest a low opens is closes one) =
      n.round f f o d (t ∷ d ∷ ts) ts rest opens (worded f w.String t (d ∷ ts) (d ∷ ts) is (n.none f (d ∷ ts))) closes (expression_nests f 11 q ts rest a one)
  expression_nests f _ _ _ _ _ (g.null_member l x p d t ts rest a low one dot is) =
      join f ts (d ∷ t ∷ rest) rest (expression_nests f 12 p ts (d ∷ t ∷ rest) a one) (signed f s.QuestionDot d (t ∷ rest) rest dot refl (named f x t rest rest is (n.none f rest)))
  expression_nests f _ _ _ _ _ (g.member l x p d t ts rest a low one dot is) =
      join f ts (d ∷ t ∷ rest) rest (expression_nests f 13 p ts (d ∷ t ∷ rest) a one) (signed f s.Dot d (t ∷ rest) rest dot refl (named f x t rest rest is (n.none f rest)))
  expression_nests f _ _ _ _ _ (g.call l p o ts us rest a bs low one opens others) =
      join f ts (o ∷ us) rest (expression_nests f 13 p ts (o ∷ us) a one) (arguments_nest f o us rest bs opens others)
  expression_nests f _ _ _ _ _ (g.index l p q o d ts us rest a b low one opens two closes) =
      join f ts (o ∷ us) rest (expression_nests f 13 p ts (o ∷ us) a one) (n.square f f o d us rest rest opens (expression_nests f 0 q us (d ∷ rest) b two) closes (n.none f rest))
  expression_nests f _ _ _ _ _ (g.number l i t rest is) = kind_flat f (k.Number i) t rest rest is refl (n.none f rest)
  expression_nests f _ _ _ _ _ (g.text l x t rest is) = kind_flat f (k.Text x) t rest rest is refl (n.none f rest)
  expression_nests f _ _ _ _ _ (g.literals l word kind t rest is says) = worded f word t rest rest is (n.none f rest)
  expression_nests f _ _ _ _ _ (g.interpolated l o d ts rest parts opens inner closes) = n.interpolated f o d ts rest rest opens (texts_nest ts (d ∷ rest) parts inner) closes (n.none f rest)
  expression_nests f _ _ _ _ _ (g.name l x t rest is) = named f x t rest rest is (n.none f rest)
  expression_nests f _ _ _ _ _ (g.static l word owner x t d m rest is of dot named_so) = worded f word t (d ∷ m ∷ rest) rest is (signed f s.Dot d (m ∷ rest) rest dot refl (named f x m rest rest named_so (n.none f rest)))
  expression_nests f _ _ _ _ _ (g.brackets l p o d ts rest a opens one closes) = n.round f f o d ts rest rest opens (expression_nests f 0 p ts (d ∷ rest) a one) closes (n.none f rest)
  expression_nests f _ _ _ _ _ (g.new_record l x t m o ts rest bs is named_so opens others) = worded f w.New t (m ∷ o ∷ ts) rest is (named f x m (o ∷ ts) rest named_so (arguments_nest f o ts rest bs opens others))
  expression_nests f _ _ _ _ _ (g.empty_list l t o e d m ts rest a is less inner greater dot named_so) =
      worded f w.ImmutableList t (o ∷ ts) rest is (signed f s.Less o ts rest less refl
      (join f ts (e ∷ d ∷ m ∷ rest) rest (type_nests f ts (e ∷ d ∷ m ∷ rest) a inner) (signed f s.Greater e (d ∷ m ∷ rest) rest greater refl (signed f s.Dot d (m ∷ rest) rest dot refl (named f _ m rest rest named_so (n.none f rest))))))

  -- arguments with their brackets
  arguments_nest : (b : Bool) (o : Token) (ts rest : List Token) (bs : List Expr) → IsSign s.OpenRound o → Arguments ts rest bs → Nests b (o ∷ ts) rest
  arguments_nest b o _ _ _ opens (g.no_argument d rest closes) = n.round b b o d (d ∷ rest) rest rest opens (n.none b (d ∷ rest)) closes (n.none b rest)
  arguments_nest b o _ _ _ opens (g.some_arguments d ts rest bs inner closes) = n.round b b o d ts rest rest opens (values_nest b ts (d ∷ rest) bs inner) closes (n.none b rest)

  values_nest : (b : Bool) (ts rest : List Token) (bs : List Expr) → Values ts rest bs → Nests b ts rest
  values_nest b _ _ _ (g.one_value p ts rest a one) = expression_nests b 0 p ts rest a one
  values_nest b _ _ _ (g.more_values p t ts us rest a bs one comma others) =
      join b ts (t ∷ us) rest (expression_nests b 0 p ts (t ∷ us) a one) (signed b s.Comma t us rest comma refl (values_nest b us rest bs others))

  with_nests : (b : Bool) (ts rest : List Token) (parts : List WithPart) → WithParts ts rest parts → Nests b ts rest
  with_nests b _ _ _ (g.one_part x p m t ts rest a is sets one) = named b x m (t ∷ ts) rest is (signed b s.Assign t ts rest sets refl (expression_nests b 0 p ts rest a one))
  with_nests b _ _ _ (g.more_parts x p m t d ts us rest a parts is sets one comma others) =
      named b x m (t ∷ ts) rest is (signed b s.Assign t ts rest sets refl (join b ts (d ∷ us) rest (expression_nests b 0 p ts (d ∷ us) a one) (signed b s.Comma d us rest comma refl (with_nests b us rest parts others))))

  texts_nest : (ts rest : List Token) (parts : List TextPart) → TextParts ts rest parts → NestsTexts ts rest
  texts_nest _ _ _ (g.no_text_part rest) = n.no_text rest
  texts_nest _ _ _ (g.literal_part x t ts rest parts is others) = n.literal x t ts rest is (texts_nest ts rest parts others)
  texts_nest _ _ _ (g.hole p o d ts us rest a parts opens one closes others) = n.hole true o d ts us rest opens (expression_nests true 0 p ts (d ∷ us) a one) closes (texts_nest us rest parts others)
