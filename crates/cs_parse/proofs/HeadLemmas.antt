-- What expressions and types begin with, and that they take tokens.
use Rattle.std.proofs.Common.{◌≡◌, ℕ, ◌+◌, ◌<◌, ◌≤◌, List, [], ◌∷◌, length, refl, sym, ap, ◌∙◌, arith}
use Rattle.std.specs.Prelude.{Bool, true, false, Option, Some, None}
use Rattle.text_core.specs.declared.place.Place.{Place}
use Rattle.cs_ast.specs.declared.cs_type.TypeExpr.{TypeExpr}
use Rattle.cs_ast.specs.declared.cs_type.TypeKind.{TypeKind}
use Rattle.cs_ast.specs.declared.expression.Expr.{Expr}
use Rattle.cs_ast.specs.declared.expression.ExprKind.{ExprKind}
use Rattle.cs_ast.specs.declared.expression.TextPart.{TextPart}
use Rattle.cs_ast.specs.declared.expression.WithPart.{WithPart}
use Rattle.cs_ast.specs.declared.operators.StaticType.{StaticType}
use Rattle.cs_ast.specs.declared.operators.UnaryOp.{UnaryOp}
use Rattle.cs_token.specs.declared.token.Token.{Token}
use Rattle.cs_token.specs.declared.token.TokenKind.{TokenKind}
use Rattle.cs_token.specs.declared.token.TokenKind.TheVariants as k
use Rattle.cs_token.specs.declared.token.Sign.{Sign}
use Rattle.cs_token.specs.declared.token.Sign.TheVariants as s
use Rattle.cs_token.specs.declared.token.Word.{Word}
use Rattle.cs_token.specs.declared.token.Word.TheVariants as w
use Rattle.cs_grammar.specs.Tables.{left_level, right_level, literal, static_type, unary_operator, plain_type}
use Rattle.cs_grammar.specs.Types.{WritesType, WritesCore}
use Rattle.cs_grammar.specs.Types as gt
use Rattle.cs_grammar.specs.Expressions.{Spells, Arguments, Values, WithParts, TextParts}
use Rattle.cs_grammar.specs.Expressions as g
use Rattle.cs_parse.specs.declared.statement.frame.Beginning.TheVariants as b
use Rattle.cs_parse.specs.StatementReading.{beginning, by_sign, by_word}

-- The tokens begin with a token at the place with which a local, a change or a call may begin, and all behind it is as long or longer.
pub record Heads (p : Place) (ts rest : List Token) : Type 0 where
  pub t : Token
  pub us : List Token
  pub whole : ts ≡ t ∷ us
  pub place : p ≡ t.place
  pub simple : beginning t.kind ≡ b.Simple
  pub shorter : length rest ≤ length us

headed : (t : Token) (us rest : List Token) (kind : TokenKind) → t.kind ≡ kind → beginning kind ≡ b.Simple → length rest ≤ length us → Heads t.place (t ∷ us) rest
headed t us rest kind e q h = record { t = t; us = us; whole = refl; place = refl; simple = ap beginning e ∙ q; shorter = h }

further : (p : Place) (ts us rest : List Token) → Heads p ts us → length rest ≤ length us → Heads p ts rest
further p ts us rest x h = record { t = x.t; us = x.us; whole = x.whole; place = x.place; simple = x.simple; shorter = omega (arith, x.shorter) }

unary_simple : (sign : Sign) (op : UnaryOp) → unary_operator sign ≡ Some op → by_sign sign ≡ b.Simple
unfolding unary_operator by_sign
unary_simple s.Minus op e = refl
unary_simple s.Plus op e = refl
unary_simple s.Not op e = refl
unary_simple _ op e = absurd (cc)

literal_simple : (word : Word) (kind : ExprKind) → literal word ≡ Some kind → by_word word ≡ b.Simple
unfolding literal by_word
literal_simple w.True kind e = refl
literal_simple w.False kind e = refl
literal_simple w.Null kind e = refl
literal_simple _ kind e = absurd (cc)

static_simple : (word : Word) (owner : StaticType) → static_type word ≡ Some owner → by_word word ≡ b.Simple
unfolding static_type by_word
static_simple w.Int owner e = refl
static_simple w.String owner e = refl
static_simple _ owner e = absurd (cc)

plain_simple : (word : Word) (x : TypeKind × Bool) → plain_type word ≡ Some x → by_word word ≡ b.Simple
unfolding plain_type by_word
plain_simple w.Int x e = refl
plain_simple w.Bool x e = refl
plain_simple w.String x e = refl
plain_simple w.ChangeEventArgs x e = refl
plain_simple w.EventArgs x e = refl
plain_simple w.MouseEventArgs x e = refl
plain_simple w.KeyboardEventArgs x e = refl
plain_simple w.FocusEventArgs x e = refl
plain_simple _ x e = absurd (cc)

round_simple : by_sign s.OpenRound ≡ b.Simple
unfolding by_sign
round_simple = refl

interpolation_simple : by_sign s.InterpolationStart ≡ b.Simple
unfolding by_sign
interpolation_simple = refl

new_simple : by_word w.New ≡ b.Simple
unfolding by_word
new_simple = refl

list_simple : by_word w.ImmutableList ≡ b.Simple
unfolding by_word
list_simple = refl

callback_simple : by_word w.EventCallback ≡ b.Simple
unfolding by_word
callback_simple = refl

fragment_simple : by_word w.RenderFragment ≡ b.Simple
unfolding by_word
fragment_simple = refl

pub var_simple : by_word w.Var ≡ b.Simple
unfolding by_word
var_simple = refl

mutual
  type_shorter : (ts rest : List Token) (a : TypeExpr) → WritesType ts rest a → length rest < length ts
  type_shorter ts rest a (gt.bare nullable _ _ _ x) = core_shorter nullable ts rest a x
  type_shorter ts rest a (gt.marked q _ _ _ x e) = omega (arith, core_shorter true ts (q ∷ rest) a x)

  core_shorter : (nullable : Bool) (ts rest : List Token) (a : TypeExpr) → WritesCore nullable ts rest a → length rest < length ts
  core_shorter nullable ts rest a (gt.plain _ word kind t _ e1 e2) = omega arith
  core_shorter nullable ts rest a (gt.name x t _ e) = omega arith
  core_shorter nullable ts rest a (gt.list t o c us _ d e1 e2 x e3) = omega (arith, type_shorter us (c ∷ rest) d x)
  core_shorter nullable ts rest a (gt.callback t _ e) = omega arith
  core_shorter nullable ts rest a (gt.callback_of t o c us _ d e1 e2 x e3) = omega (arith, type_shorter us (c ∷ rest) d x)
  core_shorter nullable ts rest a (gt.fragment t _ e) = omega arith
  core_shorter nullable ts rest a (gt.fragment_of t o c us _ d e1 e2 x e3) = omega (arith, type_shorter us (c ∷ rest) d x)

core_heads : (nullable : Bool) (ts rest : List Token) (a : TypeExpr) → WritesCore nullable ts rest a → Heads a.place ts rest
core_heads nullable ts rest a (gt.plain _ word kind t _ e1 e2) = headed t rest rest (k.Word word) e1 (plain_simple word (kind, nullable) e2) (omega arith)
core_heads nullable ts rest a (gt.name x t _ e) = headed t rest rest (k.Name x) e refl (omega arith)
core_heads nullable ts rest a (gt.list t o c us _ d e1 e2 x e3) = headed t (o ∷ us) rest (k.Word w.ImmutableList) e1 list_simple (omega (arith, type_shorter us (c ∷ rest) d x))
core_heads nullable ts rest a (gt.callback t _ e) = headed t rest rest (k.Word w.EventCallback) e callback_simple (omega arith)
core_heads nullable ts rest a (gt.callback_of t o c us _ d e1 e2 x e3) = headed t (o ∷ us) rest (k.Word w.EventCallback) e1 callback_simple (omega (arith, type_shorter us (c ∷ rest) d x))
core_heads nullable ts rest a (gt.fragment t _ e) = headed t rest rest (k.Word w.RenderFragment) e fragment_simple (omega arith)
core_heads nullable ts rest a (gt.fragment_of t o c us _ d e1 e2 x e3) = headed t (o ∷ us) rest (k.Word w.RenderFragment) e1 fragment_simple (omega (arith, type_shorter us (c ∷ rest) d x))

pub type_heads : (ts rest : List Token) (a : TypeExpr) → WritesType ts rest a → Heads a.place ts rest
type_heads ts rest a (gt.bare nullable _ _ _ x) = core_heads nullable ts rest a x
type_heads ts rest a (gt.marked q _ _ _ x e) = further a.place ts (q ∷ rest) rest (core_heads true ts (q ∷ rest) a x) (omega arith)

-- by the lengths of what is read: at most this many tokens are left
below : (p : Place) (ts rest : List Token) → Heads p ts rest → length rest < length ts
below p ts rest x = omega (arith, x.shorter, ap length x.whole)

mutual
  heads : (l : ℕ) (p : Place) (ts rest : List Token) (a : Expr) → Spells l p ts rest a → Heads p ts rest
  heads l p ts rest a (g.conditional _ _ q v t c _ us vs _ d f h h2 s1 e1 s2 e2 s3) =
      further p ts (t ∷ us) rest (heads 1 p ts (t ∷ us) d s1) (omega (arith, below q us (c ∷ vs) (heads 0 q us (c ∷ vs) f s2), below v vs rest (heads 0 v vs rest h s3)))
  heads l p ts rest a (g.binary _ sign op _ q t _ us _ d f h2 s1 e1 e2 s2) =
      further p ts (t ∷ us) rest (heads (left_level op) p ts (t ∷ us) d s1) (omega (arith, below q us rest (heads (right_level op) q us rest f s2)))
  heads l p ts rest a (g.with_parts _ _ t o c _ us _ d parts h2 s1 e1 e2 s2 e3) =
      further p ts (t ∷ o ∷ us) rest (heads 10 p ts (t ∷ o ∷ us) d s1) (omega (arith, with_parts_shorter us (c ∷ rest) parts s2))
  heads l p ts rest a (g.unary _ sign op q t us _ d h2 e1 e2 s1) = headed t us rest (k.Sign sign) e1 (unary_simple sign op e2) (omega (arith, below q us rest (heads 11 q us rest d s1)))
  heads l p ts rest a (g.cast _ q o t c us _ d h2 e1 e2 e3 s1) = headed o (t ∷ c ∷ us) rest (k.Sign s.OpenRound) e1 round_simple (omega (arith, below q us rest (heads 11 q us rest d s1)))
  heads l p ts rest a (g.null_member _ x _ d t _ _ f h2 s1 e1 e2) = further p ts (d ∷ t ∷ rest) rest (heads 12 p ts (d ∷ t ∷ rest) f s1) (omega arith)
  heads l p ts rest a (g.member _ x _ d t _ _ f h2 s1 e1 e2) = further p ts (d ∷ t ∷ rest) rest (heads 13 p ts (d ∷ t ∷ rest) f s1) (omega arith)
  heads l p ts rest a (g.call _ _ o _ us _ d bs h2 s1 e1 s2) = further p ts (o ∷ us) rest (heads 13 p ts (o ∷ us) d s1) (omega (arith, arguments_shorter us rest bs s2))
  heads l p ts rest a (g.index _ _ q o c _ us _ d f h2 s1 e1 s2 e2) = further p ts (o ∷ us) rest (heads 13 p ts (o ∷ us) d s1) (omega (arith, below q us (c ∷ rest) (heads 0 q us (c ∷ rest) f s2)))
  heads l p ts rest a (g.number _ n t _ e) = headed t rest rest (k.Number n) e refl (omega arith)
  heads l p ts rest a (g.text _ x t _ e) = headed t rest rest (k.Text x) e refl (omega arith)
  heads l p ts rest a (g.literals _ word kind t _ e1 e2) = headed t rest rest (k.Word word) e1 (literal_simple word kind e2) (omega arith)
  heads l p ts rest a (g.interpolated _ o c us _ parts e1 s1 e2) = headed o us rest (k.Sign s.InterpolationStart) e1 interpolation_simple (omega (arith, text_parts_shorter us (c ∷ rest) parts s1))
  heads l p ts rest a (g.name _ x t _ e) = headed t rest rest (k.Name x) e refl (omega arith)
  heads l p ts rest a (g.static _ word owner x t d n _ e1 e2 e3 e4) = headed t (d ∷ n ∷ rest) rest (k.Word word) e1 (static_simple word owner e2) (omega arith)
  heads l p ts rest a (g.brackets _ q o c us _ _ e1 s1 e2) = headed o us rest (k.Sign s.OpenRound) e1 round_simple (omega (arith, below q us (c ∷ rest) (heads 0 q us (c ∷ rest) a s1)))
  heads l p ts rest a (g.new_record _ x t n o us _ bs e1 e2 e3 s1) = headed t (n ∷ o ∷ us) rest (k.Word w.New) e1 new_simple (omega (arith, arguments_shorter us rest bs s1))
  heads l p ts rest a (g.empty_list _ t o c d n us _ f e1 e2 x e3 e4 e5) =
      headed t (o ∷ us) rest (k.Word w.ImmutableList) e1 list_simple (omega (arith, type_shorter us (c ∷ d ∷ n ∷ rest) f x))

  arguments_shorter : (ts rest : List Token) (bs : List Expr) → Arguments ts rest bs → length rest < length ts
  arguments_shorter ts rest bs (g.no_argument c _ e) = omega arith
  arguments_shorter ts rest bs (g.some_arguments c _ _ _ vs e) = omega (arith, values_shorter ts (c ∷ rest) bs vs)

  values_shorter : (ts rest : List Token) (bs : List Expr) → Values ts rest bs → length rest < length ts
  values_shorter ts rest bs (g.one_value p _ _ a sp) = below p ts rest (heads 0 p ts rest a sp)
  values_shorter ts rest bs (g.more_values p t _ us _ a cs sp e vs) = omega (arith, below p ts (t ∷ us) (heads 0 p ts (t ∷ us) a sp), values_shorter us rest cs vs)

  with_parts_shorter : (ts rest : List Token) (parts : List WithPart) → WithParts ts rest parts → length rest < length ts
  with_parts_shorter ts rest parts (g.one_part x p n t us _ a e1 e2 sp) = omega (arith, below p us rest (heads 0 p us rest a sp))
  with_parts_shorter ts rest parts (g.more_parts x p n t c us vs _ a others e1 e2 sp e3 ws) = omega (arith, below p us (c ∷ vs) (heads 0 p us (c ∷ vs) a sp), with_parts_shorter vs rest others ws)

  text_parts_shorter : (ts rest : List Token) (parts : List TextPart) → TextParts ts rest parts → length rest ≤ length ts
  text_parts_shorter ts rest parts (g.no_text_part _) = omega arith
  text_parts_shorter ts rest parts (g.literal_part x t us _ others e xs) = omega (arith, text_parts_shorter us rest others xs)
  text_parts_shorter ts rest parts (g.hole p o c us vs _ a others e1 sp e2 xs) = omega (arith, below p us (c ∷ vs) (heads 0 p us (c ∷ vs) a sp), text_parts_shorter vs rest others xs)

-- what an expression begins with
pub expression_heads : (l : ℕ) (p : Place) (ts rest : List Token) (a : Expr) → Spells l p ts rest a → Heads p ts rest
expression_heads l p ts rest a x = heads l p ts rest a x

pub heads_shorter : (p : Place) (ts rest : List Token) → Heads p ts rest → length rest < length ts
heads_shorter p ts rest x = below p ts rest x
