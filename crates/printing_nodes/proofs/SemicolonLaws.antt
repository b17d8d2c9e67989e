-- Expressions, and what is made of them, have no semicolon.
use Rattle.std.proofs.Common.{◌≡◌, ℕ, ◌+◌, Bool, true, false, not, ◌&&◌, List, [], ◌∷◌, ◌++◌, Some, refl, sym, ap, ◌∙◌, arith}
use Rattle.std.specs.declared.option.Option.{Option}
use Rattle.std.specs.List.{list_all}
use Rattle.text_core.specs.declared.place.Place.{Place}
use Rattle.cs_ast.specs.declared.cs_type.TypeExpr.{TypeExpr}
use Rattle.cs_ast.specs.declared.expression.Expr.{Expr}
use Rattle.cs_ast.specs.declared.expression.StmtKind.{StmtKind}
use Rattle.cs_ast.specs.declared.expression.TextPart.{TextPart}
use Rattle.cs_ast.specs.declared.expression.WithPart.{WithPart}
use Rattle.cs_ast.specs.declared.operators.AssignOp.{AssignOp}
use Rattle.cs_ast.specs.declared.operators.BinaryOp.{BinaryOp}
use Rattle.cs_ast.specs.declared.operators.StepOp.{StepOp}
use Rattle.cs_ast.specs.declared.operators.UnaryOp.{UnaryOp}
use Rattle.cs_token.specs.declared.token.Token.{Token}
use Rattle.cs_token.specs.declared.token.TokenKind.{TokenKind}
use Rattle.cs_token.specs.declared.token.TokenKind.TheVariants as k
use Rattle.cs_token.specs.declared.token.Sign.{Sign}
use Rattle.cs_token.specs.declared.token.Sign.TheVariants as s
use Rattle.cs_grammar.specs.Expressions.{Spells, Arguments, Values, WithParts, TextParts}
use Rattle.cs_grammar.specs.Expressions as g
use Rattle.cs_grammar.specs.Statements as st
use Rattle.cs_grammar.specs.Tables.{operator, unary_operator, assignment, step_operator}
use Rattle.cs_grammar.specs.Types.{WritesType, WritesCore}
use Rattle.cs_grammar.specs.Types as ty
use Rattle.razor_ast.specs.Statements.{is_semicolon}

abbrev pub one_if : Bool → ℕ
one_if true = 1
one_if false = 0

-- how many of the tokens are semicolons
abbrev pub semicolons : List Token → ℕ
semicolons [] = 0
semicolons (t ∷ ts) = one_if (is_semicolon t.kind) + semicolons ts

-- between these and the rest there is none
abbrev pub Free : List Token → List Token → Type 0
Free ts rest = semicolons ts ≡ semicolons rest

-- a token that is none
tok : (kind : TokenKind) (t : Token) (rest : List Token) → t.kind ≡ kind → is_semicolon kind ≡ false → Free (t ∷ rest) rest
tok kind t rest is none = ap (λ z. one_if (is_semicolon z) + semicolons rest) is ∙ ap (λ z. one_if z + semicolons rest) none ∙ omega arith

operator-free : (sign : Sign) (op : BinaryOp) → operator sign ≡ Some op → is_semicolon (k.Sign sign) ≡ false
unfolding operator
operator-free s.Semicolon op e = absurd (cc)
operator-free _ op e = refl

unary-free : (sign : Sign) (op : UnaryOp) → unary_operator sign ≡ Some op → is_semicolon (k.Sign sign) ≡ false
unfolding unary_operator
unary-free s.Semicolon op e = absurd (cc)
unary-free _ op e = refl

assignment-free : (sign : Sign) (op : AssignOp) → assignment sign ≡ Some op → is_semicolon (k.Sign sign) ≡ false
unfolding assignment
assignment-free s.Semicolon op e = absurd (cc)
assignment-free _ op e = refl

step-free : (sign : Sign) (op : StepOp) → step_operator sign ≡ Some op → is_semicolon (k.Sign sign) ≡ false
unfolding step_operator
step-free s.Semicolon op e = absurd (cc)
step-free _ op e = refl

mutual
  type-free : (ts rest : List Token) (a : TypeExpr) → WritesType ts rest a → Free ts rest
  type-free _ _ _ (ty.bare nullable ts rest a core) = core-free nullable ts rest a core
  type-free _ _ _ (ty.marked q ts rest a core is) = core-free true ts (q ∷ rest) a core ∙ tok _ q rest is refl

  core-free : (nullable : Bool) (ts rest : List Token) (a : TypeExpr) → WritesCore nullable ts rest a → Free ts rest
  core-free _ _ _ _ (ty.plain nullable word kind t rest is says) = tok _ t rest is refl
  core-free _ _ _ _ (ty.name x t rest is) = tok _ t rest is refl
  core-free _ _ _ _ (ty.list t o c ts rest a is less inner greater) = tok _ t (o ∷ ts) is refl ∙ tok _ o ts less refl ∙ type-free ts (c ∷ rest) a inner ∙ tok _ c rest greater refl
  core-free _ _ _ _ (ty.callback t rest is) = tok _ t rest is refl
  core-free _ _ _ _ (ty.callback_of t o c ts rest a is less inner greater) = tok _ t (o ∷ ts) is refl ∙ tok _ o ts less refl ∙ type-free ts (c ∷ rest) a inner ∙ tok _ c rest greater refl
  core-free _ _ _ _ (ty.fragment t rest is) = tok _ t rest is refl
  core-free _ _ _ _ (ty.fragment_of t o c ts rest a is less inner greater) = tok _ t (o ∷ ts) is refl ∙ tok _ o ts less refl ∙ type-free ts (c ∷ rest) a inner ∙ tok _ c rest greater refl

mutual
  pub expression-free : (l : ℕ) (p : Place) (ts rest : List Token) (a : Expr) → Spells l p ts rest a → Free ts rest
  expression-free _ _ _ _ _ (g.conditional l p q r t d ts us vs rest a b e low one question two colon three) =
      expression-free 1 p ts (t ∷ us) a one ∙ tok _ t us question refl ∙ expression-free 0 q us (d ∷ vs) b two ∙ tok _ d vs colon refl ∙ expression-free 0 r vs rest e three
  expression-free _ _ _ _ _ (g.binary l sign op p q t ts us rest a b low one is op_is two) =
      expression-free _ p ts (t ∷ us) a one ∙ tok _ t us is (operator-free sign op op_is) ∙ expression-free _ q us rest b two
  expression-free _ _ _ _ _ (g.with_parts l p t o d ts us rest a parts low one is opens inner closes) =
      expression-free 10 p ts (t ∷ o ∷ us) a one ∙ tok _ t (o ∷ us) is refl ∙ tok _ o us opens refl ∙ with-free us (d ∷ rest) parts inner ∙ tok _ d rest closes refl
  expression-free _ _ _ _ _ (g.unary l sign op q t ts rest a low is op_is one) = tok _ t ts is (unary-free sign op op_is) ∙ expression-free 11 q ts rest a one
  expression-free _ _ _ _ _ (g.cast l q o t d ts rest a low opens is closes one) =
      tok _ o (t ∷ d ∷ ts) opens refl ∙ tok _ t (d ∷ ts) is refl ∙ tok _ d ts closes refl ∙ expression-free 11 q ts rest a one
  expression-free _ _ _ _ _ (g.null_member l x p d t ts rest a low one dot is) = expression-free 12 p ts (d ∷ t ∷ rest) a one ∙ tok _ d (t ∷ rest) dot refl ∙ tok _ t rest is refl
  expression-free _ _ _ _ _ (g.member l x p d t ts rest a low one dot is) = expression-free 13 p ts (d ∷ t ∷ rest) a one ∙ tok _ d (t ∷ rest) dot refl ∙ tok _ t rest is refl
  expression-free _ _ _ _ _ (g.call l p o ts us rest a bs low one opens others) = expression-free 13 p ts (o ∷ us) a one ∙ tok _ o us opens refl ∙ arguments-free us rest bs others
  expression-free _ _ _ _ _ (g.index l p q o d ts us rest a b low one opens two closes) =
      expression-free 13 p ts (o ∷ us) a one ∙ tok _ o us opens refl ∙ expression-free 0 q us (d ∷ rest) b two ∙ tok _ d rest closes refl
  expression-free _ _ _ _ _ (g.number l i t rest is) = tok _ t rest is refl
  expression-free _ _ _ _ _ (g.text l x t rest is) = tok _ t rest is refl
  expression-free _ _ _ _ _ (g.literals l word kind t rest is says) = tok _ t rest is refl
  expression-free _ _ _ _ _ (g.interpolated l o d ts rest parts opens inner closes) = tok _ o ts opens refl ∙ texts-free ts (d ∷ rest) parts inner ∙ tok _ d rest closes refl
  expression-free _ _ _ _ _ (g.name l x t rest is) = tok _ t rest is refl
  expression-free _ _ _ _ _ (g.static l word owner x t d m rest is of dot named_so) = tok _ t (d ∷ m ∷ rest) is refl ∙ tok _ d (m ∷ rest) dot refl ∙ tok _ m rest named_so refl
  expression-free _ _ _ _ _ (g.brackets l p o d ts rest a opens one closes) = tok _ o ts opens refl ∙ expression-free 0 p ts (d ∷ rest) a one ∙ tok _ d rest closes refl
  expression-free _ _ _ _ _ (g.new_record l x t m o ts rest bs is named_so opens others) =
      tok _ t (m ∷ o ∷ ts) is refl ∙ tok _ m (o ∷ ts) named_so refl ∙ tok _ o ts opens refl ∙ arguments-free ts rest bs others
  expression-free _ _ _ _ _ (g.empty_list l t o e d m ts rest a is less inner greater dot named_so) =
      tok _ t (o ∷ ts) is refl ∙ tok _ o ts less refl ∙ type-free ts (e ∷ d ∷ m ∷ rest) a inner ∙ tok _ e (d ∷ m ∷ rest) greater refl ∙ tok _ d (m ∷ rest) dot refl ∙ tok _ m rest named_so refl

  arguments-free : (ts rest : List Token) (bs : List Expr) → Arguments ts rest bs → Free ts rest
  arguments-free _ _ _ (g.no_argument d rest closes) = tok _ d rest closes refl
  arguments-free _ _ _ (g.some_arguments d ts rest bs inner closes) = values-free ts (d ∷ rest) bs inner ∙ tok _ d rest closes refl

  values-free : (ts rest : List Token) (bs : List Expr) → Values ts rest bs → Free ts rest
  values-free _ _ _ (g.one_value p ts rest a one) = expression-free 0 p ts rest a one
  values-free _ _ _ (g.more_values p t ts us rest a bs one comma others) = expression-free 0 p ts (t ∷ us) a one ∙ tok _ t us comma refl ∙ values-free us rest bs others

  with-free : (ts rest : List Token) (parts : List WithPart) → WithParts ts rest parts → Free ts rest
  with-free _ _ _ (g.one_part x p m t ts rest a is sets one) = tok _ m (t ∷ ts) is refl ∙ tok _ t ts sets refl ∙ expression-free 0 p ts rest a one
  with-free _ _ _ (g.more_parts x p m t d ts us rest a parts is sets one comma others) =
      tok _ m (t ∷ ts) is refl ∙ tok _ t ts sets refl ∙ expression-free 0 p ts (d ∷ us) a one ∙ tok _ d us comma refl ∙ with-free us rest parts others

  texts-free : (ts rest : List Token) (parts : List TextPart) → TextParts ts rest parts → Free ts rest
  texts-free _ _ _ (g.no_text_part rest) = refl
  texts-free _ _ _ (g.literal_part x t ts rest parts is others) = tok _ t ts is refl ∙ texts-free ts rest parts others
  texts-free _ _ _ (g.hole p o d ts us rest a parts opens one closes others) =
      tok _ o ts opens refl ∙ expression-free 0 p ts (d ∷ us) a one ∙ tok _ d us closes refl ∙ texts-free us rest parts others

-- statements without statements in them, up to their semicolons

change-free : (p : Place) (ts rest : List Token) (a : Expr) → st.Changes p ts rest a → Free ts rest
change-free _ _ _ _ (st.assign x sign op q m t ts rest a is sets op_is value) = tok _ m (t ∷ ts) is refl ∙ tok _ t ts sets (assignment-free sign op op_is) ∙ expression-free 0 q ts rest a value
change-free _ _ _ _ (st.step x sign op m t rest is steps op_is) = tok _ m (t ∷ rest) is refl ∙ tok _ t rest steps (step-free sign op op_is)

act-free : (p : Place) (ts rest : List Token) (a : Expr) → st.Acts p ts rest a → Free ts rest
act-free _ _ _ _ (st.change p ts rest a h) = change-free p ts rest a h
act-free _ _ _ _ (st.call p q ts rest f bs h) = expression-free 0 p ts rest _ h

declares-free : (p : Place) (ts rest : List Token) (a : Option TypeExpr) → st.Declares p ts rest a → Free ts rest
declares-free _ _ _ _ (st.by_value t rest is) = tok _ t rest is refl
declares-free _ _ _ _ (st.by_type ts rest a h) = type-free ts rest a h

initial-free : (ts rest : List Token) (a : Option Expr) → st.Initial ts rest a → Free ts rest
initial-free _ _ _ (st.Initial.none rest) = refl
initial-free _ _ _ (st.Initial.some p t ts rest a sets value) = tok _ t ts sets refl ∙ expression-free 0 p ts rest a value

pub simple-free : (p : Place) (ts rest : List Token) (kind : StmtKind) → st.Simple p ts rest kind → Free ts rest
simple-free _ _ _ _ (st.local x p m ts us rest a value declares is starts) = declares-free p ts (m ∷ us) a declares ∙ tok _ m us is refl ∙ initial-free us rest value starts
simple-free _ _ _ _ (st.act p ts rest a h) = act-free p ts rest a h

pub condition-free : (ts rest : List Token) (a : Option Expr) → st.Condition ts rest a → Free ts rest
condition-free _ _ _ (st.Condition.none rest) = refl
condition-free _ _ _ (st.Condition.some p ts rest a h) = expression-free 0 p ts rest a h

-- a word before
pub word-free : (kind : TokenKind) (t : Token) (ts rest : List Token) → t.kind ≡ kind → is_semicolon kind ≡ false → Free ts rest → Free (t ∷ ts) rest
word-free kind t ts rest is none h = tok kind t ts is none ∙ h

semicolons-join : (ts us : List Token) → semicolons (ts ++ us) ≡ semicolons ts + semicolons us
semicolons-join [] us = omega arith
semicolons-join (t ∷ ts) us = let e = semicolons-join ts us in omega (arith, e)

none-all : (ts : List Token) → semicolons ts ≡ 0 → list_all (λ u. not (is_semicolon u.kind)) ts ≡ true
none-all [] e = refl
none-all (t ∷ ts) e = go (is_semicolon t.kind) refl (λ rest. none-all ts rest)
  where
    go : (b : Bool) → is_semicolon t.kind ≡ b → (semicolons ts ≡ 0 → list_all (λ u. not (is_semicolon u.kind)) ts ≡ true) → list_all (λ u. not (is_semicolon u.kind)) (t ∷ ts) ≡ true
    go true i all = let one = ap (λ z. one_if z + semicolons ts) (sym i) ∙ e in absurd (omega (arith, one))
    go false i all = let rest = ap (λ z. one_if z + semicolons ts) (sym i) ∙ e in ap (λ z. not z && list_all (λ u. not (is_semicolon u.kind)) ts) i ∙ all (omega (arith, rest))

-- what stands before the semicolon has none
pub free-front : (ts : List Token) (c : Token) → Free (ts ++ c ∷ []) (c ∷ []) → list_all (λ u. not (is_semicolon u.kind)) ts ≡ true
free-front ts c e = let join = semicolons-join ts (c ∷ []) in none-all ts (omega (arith, join, e))
