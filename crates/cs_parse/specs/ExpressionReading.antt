-- How expressions are read, from the left.
use Rattle.std.specs.Prelude.{ℕ, zero, suc, ◌+◌, codes, true, false, ◌&&◌, nat_lt, if◌then◌else◌, List, [], ◌∷◌, length, Option, Some, None}
use Rattle.std.specs.Str.{bytes_eq}
use Rattle.text_core.specs.declared.place.Place.{Place}
use Rattle.cs_ast.specs.declared.expression.Expr.{Expr}
use Rattle.cs_ast.specs.declared.expression.ExprKind.TheVariants as ek
use Rattle.cs_ast.specs.declared.expression.TextPart.{TextPart}
use Rattle.cs_ast.specs.declared.expression.TextPart.TheVariants as tp
use Rattle.cs_ast.specs.declared.expression.WithPart.{WithPart}
use Rattle.cs_ast.specs.declared.operators.BinaryOp.{BinaryOp}
use Rattle.cs_ast.specs.declared.operators.BinaryOp.TheVariants as bo
use Rattle.cs_ast.specs.declared.operators.CastOp.TheVariants as co
use Rattle.cs_ast.specs.declared.operators.StaticType.{StaticType}
use Rattle.cs_ast.specs.declared.operators.StaticType.TheVariants as sy
use Rattle.cs_ast.specs.declared.operators.UnaryOp.{UnaryOp}
use Rattle.cs_ast.specs.declared.operators.UnaryOp.TheVariants as uo
use Rattle.cs_token.specs.declared.token.Token.{Token}
use Rattle.cs_token.specs.declared.token.TokenKind.{TokenKind}
use Rattle.cs_token.specs.declared.token.TokenKind.TheVariants as k
use Rattle.cs_token.specs.declared.token.Sign.{Sign}
use Rattle.cs_token.specs.declared.token.Sign.TheVariants as s
use Rattle.cs_token.specs.declared.token.Word.{Word}
use Rattle.cs_token.specs.declared.token.Word.TheVariants as w
use Rattle.cs_grammar.specs.Tables.{left_level, right_level}
use Rattle.cs_grammar.specs.Expressions.{node}
use Rattle.cs_parse.specs.declared.tables.FirstWord.{FirstWord}
use Rattle.cs_parse.specs.declared.tables.FirstWord.TheVariants as fw
use Rattle.cs_parse.specs.declared.tables.FirstSign.{FirstSign}
use Rattle.cs_parse.specs.declared.tables.FirstSign.TheVariants as fs
use Rattle.cs_parse.specs.declared.tables.Going.{Going}
use Rattle.cs_parse.specs.declared.tables.Going.TheVariants as g
use Rattle.cs_parse.specs.Reading.{Read, ◌>>=◌, is_sign, is_word, after, name_first}
use Rattle.cs_parse.specs.TypeReading.{type_first}

-- what an expression that begins with a word is
unfoldable pub first_word : Word → FirstWord
first_word w.True = fw.Truth true
first_word w.False = fw.Truth false
first_word w.Null = fw.Null
first_word w.New = fw.New
first_word w.ImmutableList = fw.List
first_word w.Int = fw.Static sy.Int
first_word w.String = fw.Static sy.Text
first_word _ = fw.Nothing

-- what an expression that begins with a sign is
unfoldable pub first_sign : Sign → FirstSign
first_sign s.InterpolationStart = fs.Interpolation
first_sign s.OpenRound = fs.Round
first_sign s.Minus = fs.Operator uo.Minus
first_sign s.Plus = fs.Operator uo.Plus
first_sign s.Not = fs.Operator uo.Not
first_sign _ = fs.Nothing

-- how a sign goes on with the expression before it
unfoldable pub going_sign : Sign → Going
going_sign s.Question = g.Conditional
going_sign s.QuestionDot = g.NullMember
going_sign s.Dot = g.Member
going_sign s.OpenRound = g.Call
going_sign s.OpenSquare = g.Index
going_sign s.QuestionQuestion = g.Operator bo.Coalesce
going_sign s.Or = g.Operator bo.Or
going_sign s.And = g.Operator bo.And
going_sign s.Equal = g.Operator bo.Equal
going_sign s.NotEqual = g.Operator bo.NotEqual
going_sign s.Less = g.Operator bo.Less
going_sign s.Greater = g.Operator bo.Greater
going_sign s.LessOrEqual = g.Operator bo.LessOrEqual
going_sign s.GreaterOrEqual = g.Operator bo.GreaterOrEqual
going_sign s.Plus = g.Operator bo.Add
going_sign s.Minus = g.Operator bo.Subtract
going_sign s.Star = g.Operator bo.Multiply
going_sign s.Slash = g.Operator bo.Divide
going_sign s.Percent = g.Operator bo.Remainder
going_sign _ = g.Nothing

-- how a token goes on with the expression before it
abbrev pub going : TokenKind → Going
going (k.Name x) = if bytes_eq x (codes "with") then g.With else g.Nothing
going (k.Sign sign) = going_sign sign
going _ = g.Nothing

-- what goes on at the levels below this number, and at no other
abbrev pub strength : Going → ℕ
strength g.Conditional = 2
strength (g.Operator op) = left_level op + 1
strength g.With = 11
strength g.NullMember = 13
strength g.Member = 14
strength g.Call = 14
strength g.Index = 14
strength g.Nothing = 0

-- the strength of the token that stands first
abbrev pub next : List Token → ℕ
next [] = 0
next (t ∷ ts) = strength (going t.kind)

-- `string` and a closing bracket stand first
abbrev pub as_cast : List Token → Option (List Token)
as_cast [] = None
as_cast (t ∷ []) = None
as_cast (t ∷ c ∷ ts) = if is_word w.String t.kind && is_sign s.CloseRound c.kind then Some ts else None

-- What can be read at the front of tokens: an expression of a level; what goes on at a level after an expression that begins at
-- a place; expressions with commas; parts behind `with`; parts of an interpolated text.
pub record Reads : Type 0 where
  pub expr : ℕ → Read Expr
  pub loop : ℕ → Place → Expr → Read Expr
  pub values : Read (List Expr)
  pub with_parts : Read (List WithPart)
  pub text_parts : Read (List TextPart)

abbrev pub no_reads : Reads
no_reads = record { expr = λ l. None; loop = λ l p a. None; values = None; with_parts = None; text_parts = None }

-- `Empty`
abbrev pub empty : List Token → Option (List Token)
empty ts = name_first ts >>= λ n. if bytes_eq n.0.name (codes "Empty") then Some n.1 else None

abbrev pub empty_list : Place → List Token → Read Expr
empty_list p ts =
    after s.Less ts >>= λ r. (type_first r >>= λ x. (after s.Greater x.1 >>= λ q. (after s.Dot q >>= λ d. (empty d >>= λ e. Some (node p (ek.EmptyList x.0), e)))))

abbrev pub static : StaticType → Place → List Token → Read Expr
static owner p ts = after s.Dot ts >>= λ r. (name_first r >>= λ n. Some (node p (ek.Static owner n.0), n.1))

abbrev pub null_member : Place → Expr → List Token → Read Expr
null_member p a ts = name_first ts >>= λ n. if nat_lt 12 (next n.1) then None else Some (node p (ek.NullMember a n.0), n.1)

abbrev pub member : Place → Expr → List Token → Read Expr
member p a ts = name_first ts >>= λ n. Some (node p (ek.Member a n.0), n.1)

module _ (read : List Token → Read Expr) where
  -- `N = e`
  abbrev pub with_part_by : List Token → Read WithPart
  with_part_by ts = name_first ts >>= λ n. (after s.Assign n.1 >>= λ r. (read r >>= λ x. Some (record { name = n.0; value = x.0 }, x.1)))

  -- an expression and the bound of its hole
  abbrev pub hole : List Token → Option (Option (TextPart × List Token))
  hole ts = read ts >>= λ x. (after s.HoleClose x.1 >>= λ r. Some (Some (tp.Hole x.0, r)))

  abbrev pub text_part_of : TokenKind → List Token → Option (Option (TextPart × List Token))
  text_part_of (k.Part x) ts = Some (Some (tp.Literal x, ts))
  text_part_of kind ts = if is_sign s.HoleOpen kind then hole ts else Some None

  -- the literal part or the hole that stands first, if there is one
  abbrev pub text_part_by : List Token → Option (Option (TextPart × List Token))
  text_part_by [] = Some None
  text_part_by (t ∷ ts) = text_part_of t.kind ts

module _ (self : List Token → Reads) where
  abbrev pub some_arguments : List Token → Read (List Expr)
  some_arguments ts = (self ts).values >>= λ x. (after s.CloseRound x.1 >>= λ r. Some (x.0, r))

  abbrev pub arguments : List Token → Read (List Expr)
  arguments ts = elim (after s.CloseRound ts) [ Some r ↦ Some ([], r) | None ↦ some_arguments ts ]

  abbrev pub made_record : Place → List Token → Read Expr
  made_record p ts = name_first ts >>= λ n. (after s.OpenRound n.1 >>= λ r. (arguments r >>= λ x. Some (node p (ek.New n.0 x.0), x.1)))

  abbrev pub of_word : FirstWord → Place → List Token → Read Expr
  of_word (fw.Truth truth) p ts = Some (node p (ek.Bool truth), ts)
  of_word fw.Null p ts = Some (node p ek.Null, ts)
  of_word fw.New p ts = made_record p ts
  of_word fw.List p ts = empty_list p ts
  of_word (fw.Static owner) p ts = static owner p ts
  of_word fw.Nothing p ts = None

  abbrev pub interpolated : Place → List Token → Read Expr
  interpolated p ts = (self ts).text_parts >>= λ x. (after s.InterpolationEnd x.1 >>= λ r. Some (node p (ek.Interpolated x.0), r))

  abbrev pub unary : UnaryOp → Place → List Token → Read Expr
  unary op p ts = (self ts).expr 11 >>= λ x. Some (node p (ek.Unary op x.0), x.1)

  abbrev pub cast : Place → List Token → Read Expr
  cast p ts = (self ts).expr 11 >>= λ x. Some (node p (ek.Cast co.Text x.0), x.1)

  abbrev pub bracketed : List Token → Read Expr
  bracketed ts = (self ts).expr 0 >>= λ x. (after s.CloseRound x.1 >>= λ r. Some (x.0, r))

  abbrev pub round : Place → List Token → Read Expr
  round p ts = elim (as_cast ts) [ Some r ↦ cast p r | None ↦ bracketed ts ]

  abbrev pub of_sign : FirstSign → Place → List Token → Read Expr
  of_sign fs.Interpolation p ts = interpolated p ts
  of_sign fs.Round p ts = round p ts
  of_sign (fs.Operator op) p ts = unary op p ts
  of_sign fs.Nothing p ts = None

  abbrev pub prefix : TokenKind → Place → List Token → Read Expr
  prefix (k.Number n) p ts = Some (node p (ek.Int n), ts)
  prefix (k.Text x) p ts = Some (node p (ek.Text x), ts)
  prefix (k.Name x) p ts = Some (node p (ek.Name x), ts)
  prefix (k.Part x) p ts = None
  prefix (k.Word word) p ts = of_word (first_word word) p ts
  prefix (k.Sign sign) p ts = of_sign (first_sign sign) p ts

  abbrev pub expr : ℕ → List Token → Read Expr
  expr l [] = None
  expr l (t ∷ ts) = prefix t.kind t.place ts >>= λ x. (self x.1).loop l t.place x.0

  abbrev pub conditional : Place → Expr → List Token → Read Expr
  conditional p a ts =
      (self ts).expr 0 >>= λ x. (after s.Colon x.1 >>= λ r. ((self r).expr 0 >>= λ y. Some (node p (ek.Conditional a x.0 y.0), y.1)))

  abbrev pub binary : Place → Expr → BinaryOp → List Token → Read Expr
  binary p a op ts = (self ts).expr (right_level op) >>= λ x. Some (node p (ek.Binary op a x.0), x.1)

  abbrev pub with_some : Place → Expr → List Token → Read Expr
  with_some p a ts =
      after s.OpenBrace ts >>= λ r. ((self r).with_parts >>= λ x. (after s.CloseBrace x.1 >>= λ q.
      if nat_lt 11 (next q) then None else Some (node p (ek.With a x.0), q)))

  abbrev pub call : Place → Expr → List Token → Read Expr
  call p a ts = arguments ts >>= λ x. Some (node p (ek.Call a x.0), x.1)

  abbrev pub index : Place → Expr → List Token → Read Expr
  index p a ts = (self ts).expr 0 >>= λ x. (after s.CloseSquare x.1 >>= λ r. Some (node p (ek.Index a x.0), r))

  -- the expression that goes on with the one before by what stands next
  abbrev pub further : Place → Expr → Going → List Token → Read Expr
  further p a g.Conditional ts = conditional p a ts
  further p a (g.Operator op) ts = binary p a op ts
  further p a g.With ts = with_some p a ts
  further p a g.NullMember ts = null_member p a ts
  further p a g.Member ts = member p a ts
  further p a g.Call ts = call p a ts
  further p a g.Index ts = index p a ts
  further p a g.Nothing ts = None

  -- the same, and what goes on behind it
  abbrev pub longer : ℕ → Place → Expr → Going → List Token → Read Expr
  longer l p a going ts = further p a going ts >>= λ x. (self x.1).loop l p x.0

  abbrev pub loop : ℕ → Place → Expr → List Token → Read Expr
  loop l p a [] = Some (a, [])
  loop l p a (t ∷ ts) = if nat_lt l (strength (going t.kind)) then longer l p a (going t.kind) ts else Some (a, t ∷ ts)

  -- what follows a value: a comma and more, or the end
  abbrev pub more_values : Expr → List Token → Read (List Expr)
  more_values a ts = elim (after s.Comma ts) [ Some r ↦ (self r).values >>= (λ x. Some (a ∷ x.0, x.1)) | None ↦ Some (a ∷ [], ts) ]

  abbrev pub values : List Token → Read (List Expr)
  values ts = expr 0 ts >>= λ x. more_values x.0 x.1

  abbrev pub more_with_parts : WithPart → List Token → Read (List WithPart)
  more_with_parts part ts = elim (after s.Comma ts) [ Some r ↦ (self r).with_parts >>= (λ x. Some (part ∷ x.0, x.1)) | None ↦ Some (part ∷ [], ts) ]

  abbrev pub with_parts : List Token → Read (List WithPart)
  with_parts ts = with_part_by (expr 0) ts >>= λ x. more_with_parts x.0 x.1

  -- what follows a part of an interpolated text
  abbrev pub more_text_parts : Option (TextPart × List Token) → List Token → Read (List TextPart)
  more_text_parts (Some x) ts = (self x.1).text_parts >>= λ y. Some (x.0 ∷ y.0, y.1)
  more_text_parts None ts = Some ([], ts)

  abbrev pub text_parts : List Token → Read (List TextPart)
  text_parts ts = text_part_by (expr 0) ts >>= λ x. more_text_parts x ts

  abbrev pub step : List Token → Reads
  step ts = record { expr = λ l. expr l ts; loop = λ l p a. loop l p a ts; values = values ts; with_parts = with_parts ts; text_parts = text_parts ts }

-- with at most so many calls inside one another
unfoldable pub within : ℕ → List Token → Reads
within zero ts = no_reads
within (suc n) ts = step (within n) ts

abbrev pub expr_in : ℕ → ℕ → List Token → Read Expr
expr_in n l ts = (within n ts).expr l

abbrev pub loop_in : ℕ → ℕ → Place → Expr → List Token → Read Expr
loop_in n l p a ts = (within n ts).loop l p a

abbrev pub values_in : ℕ → List Token → Read (List Expr)
values_in n ts = (within n ts).values

abbrev pub with_parts_in : ℕ → List Token → Read (List WithPart)
with_parts_in n ts = (within n ts).with_parts

abbrev pub text_parts_in : ℕ → List Token → Read (List TextPart)
text_parts_in n ts = (within n ts).text_parts

-- the expression of a level that stands first
unfoldable pub expr_first : ℕ → List Token → Read Expr
expr_first l ts = expr_in (length ts + 1) l ts

-- what can be read at the front of tokens, however many calls that takes
unfoldable pub reads : List Token → Reads
reads ts = within (length ts + 1) ts
