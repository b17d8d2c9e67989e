-- Which tokens spell which expressions.
use Rattle.std.specs.Prelude.{◌≡◌, ℕ, ℤ, ◌≤◌, codes, List, [], ◌∷◌, Some}
use Rattle.text_core.specs.declared.place.Place.{Place}
use Rattle.cs_ast.specs.declared.cs_type.TypeExpr.{TypeExpr}
use Rattle.cs_ast.specs.declared.expression.Expr.{Expr}
use Rattle.cs_ast.specs.declared.expression.ExprKind.{ExprKind}
use Rattle.cs_ast.specs.declared.expression.ExprKind.TheVariants as ek
use Rattle.cs_ast.specs.declared.expression.TextPart.{TextPart}
use Rattle.cs_ast.specs.declared.expression.TextPart.TheVariants as tp
use Rattle.cs_ast.specs.declared.expression.WithPart.{WithPart}
use Rattle.cs_ast.specs.declared.operators.BinaryOp.{BinaryOp}
use Rattle.cs_ast.specs.declared.operators.CastOp.TheVariants as co
use Rattle.cs_ast.specs.declared.operators.StaticType.{StaticType}
use Rattle.cs_ast.specs.declared.operators.UnaryOp.{UnaryOp}
use Rattle.cs_token.specs.declared.token.Token.{Token}
use Rattle.cs_token.specs.declared.token.TokenKind.TheVariants as k
use Rattle.cs_token.specs.declared.token.Sign.{Sign}
use Rattle.cs_token.specs.declared.token.Sign.TheVariants as s
use Rattle.cs_token.specs.declared.token.Word.{Word}
use Rattle.cs_token.specs.declared.token.Word.TheVariants as w
use Rattle.cs_grammar.specs.Tokens.{IsSign, IsWord, IsName, ident}
use Rattle.cs_grammar.specs.Tables.{operator, level, left_level, right_level, unary_operator, literal, static_type}
use Rattle.cs_grammar.specs.Types.{WritesType}

-- an expression at a place
abbrev pub node : Place → ExprKind → Expr
node place kind = record { place = place; kind = kind }

-- a part behind `with`
abbrev pub with_part : Token → List ℕ → Expr → WithPart
with_part t name value = record { name = ident t name; value = value }

-- Spells l p ts rest a: the tokens ts up to rest, of which the first stands at p, spell the expression a, which holds its operands
-- at least as tightly as level l. The levels, loosest first: 0 `?:`, 2 `??`, 4 `||`, 5 `&&`, 6 equality, 7 order, 8 sums,
-- 9 products, 10 `with`, 11 operators before an operand, casts and `?.`, 13 what may stand before `.`, `(` and `[`. What may stand
-- before `?`, `??` and `?.` is of level 1, 3 and 12.
mutual
  pub data Spells : ℕ → Place → List Token → List Token → Expr → Type 0 where
    conditional : (l : ℕ) (p q r : Place) (t c : Token) (ts us vs rest : List Token) (a b d : Expr) →
        l ≤ 0 → Spells 1 p ts (t ∷ us) a → IsSign s.Question t → Spells 0 q us (c ∷ vs) b → IsSign s.Colon c → Spells 0 r vs rest d →
        Spells l p ts rest (node p (ek.Conditional a b d))
    binary : (l : ℕ) (sign : Sign) (op : BinaryOp) (p q : Place) (t : Token) (ts us rest : List Token) (a b : Expr) →
        l ≤ level op → Spells (left_level op) p ts (t ∷ us) a → IsSign sign t → operator sign ≡ Some op →
        Spells (right_level op) q us rest b → Spells l p ts rest (node p (ek.Binary op a b))
    with_parts : (l : ℕ) (p : Place) (t o c : Token) (ts us rest : List Token) (a : Expr) (parts : List WithPart) →
        l ≤ 10 → Spells 10 p ts (t ∷ o ∷ us) a → IsName (codes "with") t → IsSign s.OpenBrace o → WithParts us (c ∷ rest) parts →
        IsSign s.CloseBrace c → Spells l p ts rest (node p (ek.With a parts))
    unary : (l : ℕ) (sign : Sign) (op : UnaryOp) (q : Place) (t : Token) (ts rest : List Token) (a : Expr) →
        l ≤ 11 → IsSign sign t → unary_operator sign ≡ Some op → Spells 11 q ts rest a →
        Spells l t.place (t ∷ ts) rest (node t.place (ek.Unary op a))
    cast : (l : ℕ) (q : Place) (o t c : Token) (ts rest : List Token) (a : Expr) →
        l ≤ 11 → IsSign s.OpenRound o → IsWord w.String t → IsSign s.CloseRound c → Spells 11 q ts rest a →
        Spells l o.place (o ∷ t ∷ c ∷ ts) rest (node o.place (ek.Cast co.Text a))
    null_member : (l : ℕ) (x : List ℕ) (p : Place) (d t : Token) (ts rest : List Token) (a : Expr) →
        l ≤ 11 → Spells 12 p ts (d ∷ t ∷ rest) a → IsSign s.QuestionDot d → IsName x t →
        Spells l p ts rest (node p (ek.NullMember a (ident t x)))
    member : (l : ℕ) (x : List ℕ) (p : Place) (d t : Token) (ts rest : List Token) (a : Expr) →
        l ≤ 13 → Spells 13 p ts (d ∷ t ∷ rest) a → IsSign s.Dot d → IsName x t →
        Spells l p ts rest (node p (ek.Member a (ident t x)))
    call : (l : ℕ) (p : Place) (o : Token) (ts us rest : List Token) (a : Expr) (bs : List Expr) →
        l ≤ 13 → Spells 13 p ts (o ∷ us) a → IsSign s.OpenRound o → Arguments us rest bs →
        Spells l p ts rest (node p (ek.Call a bs))
    index : (l : ℕ) (p q : Place) (o c : Token) (ts us rest : List Token) (a b : Expr) →
        l ≤ 13 → Spells 13 p ts (o ∷ us) a → IsSign s.OpenSquare o → Spells 0 q us (c ∷ rest) b → IsSign s.CloseSquare c →
        Spells l p ts rest (node p (ek.Index a b))
    number : (l : ℕ) (n : ℤ) (t : Token) (rest : List Token) → t.kind ≡ k.Number n → Spells l t.place (t ∷ rest) rest (node t.place (ek.Int n))
    text : (l : ℕ) (x : List ℕ) (t : Token) (rest : List Token) → t.kind ≡ k.Text x → Spells l t.place (t ∷ rest) rest (node t.place (ek.Text x))
    literals : (l : ℕ) (word : Word) (kind : ExprKind) (t : Token) (rest : List Token) →
        IsWord word t → literal word ≡ Some kind → Spells l t.place (t ∷ rest) rest (node t.place kind)
    interpolated : (l : ℕ) (o c : Token) (ts rest : List Token) (parts : List TextPart) →
        IsSign s.InterpolationStart o → TextParts ts (c ∷ rest) parts → IsSign s.InterpolationEnd c →
        Spells l o.place (o ∷ ts) rest (node o.place (ek.Interpolated parts))
    name : (l : ℕ) (x : List ℕ) (t : Token) (rest : List Token) → IsName x t → Spells l t.place (t ∷ rest) rest (node t.place (ek.Name x))
    static : (l : ℕ) (word : Word) (owner : StaticType) (x : List ℕ) (t d n : Token) (rest : List Token) →
        IsWord word t → static_type word ≡ Some owner → IsSign s.Dot d → IsName x n →
        Spells l t.place (t ∷ d ∷ n ∷ rest) rest (node t.place (ek.Static owner (ident n x)))
    brackets : (l : ℕ) (p : Place) (o c : Token) (ts rest : List Token) (a : Expr) →
        IsSign s.OpenRound o → Spells 0 p ts (c ∷ rest) a → IsSign s.CloseRound c → Spells l o.place (o ∷ ts) rest a
    new_record : (l : ℕ) (x : List ℕ) (t n o : Token) (ts rest : List Token) (bs : List Expr) →
        IsWord w.New t → IsName x n → IsSign s.OpenRound o → Arguments ts rest bs →
        Spells l t.place (t ∷ n ∷ o ∷ ts) rest (node t.place (ek.New (ident n x) bs))
    empty_list : (l : ℕ) (t o c d n : Token) (ts rest : List Token) (a : TypeExpr) →
        IsWord w.ImmutableList t → IsSign s.Less o → WritesType ts (c ∷ d ∷ n ∷ rest) a → IsSign s.Greater c → IsSign s.Dot d → IsName (codes "Empty") n →
        Spells l t.place (t ∷ o ∷ ts) rest (node t.place (ek.EmptyList a))

  -- arguments, and the bracket that closes them
  pub data Arguments : List Token → List Token → List Expr → Type 0 where
    no_argument : (c : Token) (rest : List Token) → IsSign s.CloseRound c → Arguments (c ∷ rest) rest []
    some_arguments : (c : Token) (ts rest : List Token) (bs : List Expr) → Values ts (c ∷ rest) bs → IsSign s.CloseRound c → Arguments ts rest bs

  -- expressions with commas between them
  pub data Values : List Token → List Token → List Expr → Type 0 where
    one_value : (p : Place) (ts rest : List Token) (a : Expr) → Spells 0 p ts rest a → Values ts rest (a ∷ [])
    more_values : (p : Place) (t : Token) (ts us rest : List Token) (a : Expr) (bs : List Expr) →
        Spells 0 p ts (t ∷ us) a → IsSign s.Comma t → Values us rest bs → Values ts rest (a ∷ bs)

  -- parts behind `with`, with commas between them
  pub data WithParts : List Token → List Token → List WithPart → Type 0 where
    one_part : (x : List ℕ) (p : Place) (n t : Token) (ts rest : List Token) (a : Expr) →
        IsName x n → IsSign s.Assign t → Spells 0 p ts rest a → WithParts (n ∷ t ∷ ts) rest (with_part n x a ∷ [])
    more_parts : (x : List ℕ) (p : Place) (n t c : Token) (ts us rest : List Token) (a : Expr) (parts : List WithPart) →
        IsName x n → IsSign s.Assign t → Spells 0 p ts (c ∷ us) a → IsSign s.Comma c → WithParts us rest parts →
        WithParts (n ∷ t ∷ ts) rest (with_part n x a ∷ parts)

  -- literal parts and holes of an interpolated text
  pub data TextParts : List Token → List Token → List TextPart → Type 0 where
    no_text_part : (rest : List Token) → TextParts rest rest []
    literal_part : (x : List ℕ) (t : Token) (ts rest : List Token) (parts : List TextPart) →
        t.kind ≡ k.Part x → TextParts ts rest parts → TextParts (t ∷ ts) rest (tp.Literal x ∷ parts)
    hole : (p : Place) (o c : Token) (ts us rest : List Token) (a : Expr) (parts : List TextPart) →
        IsSign s.HoleOpen o → Spells 0 p ts (c ∷ us) a → IsSign s.HoleClose c → TextParts us rest parts →
        TextParts (o ∷ ts) rest (tp.Hole a ∷ parts)

-- the tokens spell the expression
abbrev pub SpelledExpression : List Token → Expr → Type 0
SpelledExpression ts a = (p : Place) × Spells 0 p ts [] a
