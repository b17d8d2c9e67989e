-- What waits for an expression, and what it makes of the one that it waited for.
use Rattle.std.specs.Prelude.{◌≡◌, ℕ, ◌+◌, ◌*◌, ◌≤◌, nat_lt, if◌then◌else◌, List, [], ◌∷◌, ◌++◌, length, Some, None, Result, Ok, Err}
use Rattle.std.specs.Borrow.{Bor}
use Rattle.text_core.specs.declared.place.Place.{Place}
use Rattle.cs_ast.specs.declared.expression.Expr.{Expr}
use Rattle.cs_ast.specs.declared.expression.ExprKind.TheVariants as ek
use Rattle.cs_ast.specs.declared.expression.TextPart.{TextPart}
use Rattle.cs_ast.specs.declared.expression.TextPart.TheVariants as tp
use Rattle.cs_ast.specs.declared.expression.WithPart.{WithPart}
use Rattle.cs_ast.specs.declared.identifier.Ident.{Ident}
use Rattle.cs_ast.specs.declared.operators.CastOp.TheVariants as co
use Rattle.cs_token.specs.declared.token.Token.{Token}
use Rattle.cs_token.specs.declared.token.TokenKind.{TokenKind}
use Rattle.cs_token.specs.declared.token.TokenKind.TheVariants as k
use Rattle.cs_token.specs.declared.token.Sign.TheVariants as s
use Rattle.cs_grammar.specs.Expressions.{node}
use Rattle.cs_parse.specs.declared.expressions.frame.Callee.{Callee}
use Rattle.cs_parse.specs.declared.expressions.frame.Callee.TheVariants as c
use Rattle.cs_parse.specs.declared.expressions.frame.Form.{Form}
use Rattle.cs_parse.specs.declared.expressions.frame.Form.TheVariants as m
use Rattle.cs_parse.specs.declared.expressions.frame.Frame.{Frame}
use Rattle.cs_parse.specs.declared.expressions.frame.Frame.TheVariants as f
use Rattle.cs_parse.specs.declared.expressions.frame.Turn.{Turn}
use Rattle.cs_parse.specs.declared.expressions.frame.Turn.TheVariants as t
use Rattle.cs_parse.specs.declared.unread.Unread.{Unread}
use Rattle.cs_parse.specs.Reading.{Read, ◌>>=◌, after, Fails}
use Rattle.cs_parse.specs.ExpressionReading.{reads, next}

-- the literal part of an interpolated text that stands first
abbrev pub literal_of : TokenKind → List Token → Read (List ℕ)
literal_of (k.Part x) ts = Some (x, ts)
literal_of _ ts = None

abbrev pub literal_first : List Token → Read (List ℕ)
literal_first [] = None
literal_first (token ∷ ts) = literal_of token.kind ts

-- a call, or a new record
abbrev pub called : Place → Callee → List Expr → Expr
called p (c.Function a) values = node p (ek.Call a values)
called p (c.Record name) values = node p (ek.New name values)

-- the bracket behind all arguments
abbrev pub close_arguments : Place → Callee → List Expr → List Token → Read Expr
close_arguments p callee values ts = after s.CloseRound ts >>= λ r. Some (called p callee values, r)

-- arguments behind those found
abbrev pub arguments_from : Place → Callee → List Expr → List Token → Read Expr
arguments_from p callee found ts = (reads ts).values >>= λ x. close_arguments p callee (found ++ x.0) x.1

-- a part behind `with`
abbrev pub part : Ident → Expr → WithPart
part name value = record { name = name; value = value }

-- the brace behind all parts of a `with`, behind which nothing that holds its operand more tightly may go on
abbrev pub close_with : Place → Expr → List WithPart → List Token → Read Expr
close_with p a parts ts = after s.CloseBrace ts >>= λ r. if nat_lt 11 (next r) then None else Some (node p (ek.With a parts), r)

-- parts of a `with` behind those found
abbrev pub with_from : Place → Expr → List WithPart → List Token → Read Expr
with_from p a found ts = (reads ts).with_parts >>= λ x. close_with p a (found ++ x.0) x.1

-- the end of an interpolated text
abbrev pub close_text : Place → List TextPart → List Token → Read Expr
close_text p parts ts = after s.InterpolationEnd ts >>= λ r. Some (node p (ek.Interpolated parts), r)

-- parts of an interpolated text behind those found
abbrev pub text_from : Place → List TextPart → List Token → Read Expr
text_from p found ts = (reads ts).text_parts >>= λ x. close_text p (found ++ x.0) x.1

-- all arguments, behind their opening bracket
abbrev pub all_arguments : Place → Callee → List Token → Read Expr
all_arguments p callee ts = elim (after s.CloseRound ts) [ Some r ↦ Some (called p callee [], r) | None ↦ arguments_from p callee [] ts ]

-- behind an argument
abbrev pub after_argument : Place → Callee → List Expr → List Token → Read Expr
after_argument p callee found ts = elim (after s.Comma ts) [ Some r ↦ arguments_from p callee found r | None ↦ close_arguments p callee found ts ]

-- behind a part of a `with`
abbrev pub after_with_part : Place → Expr → List WithPart → List Token → Read Expr
after_with_part p a found ts = elim (after s.Comma ts) [ Some r ↦ with_from p a found r | None ↦ close_with p a found ts ]

-- what a form makes of the expression that it waited for, and of the tokens behind
abbrev pub resume : Form → Expr → List Token → Read Expr
resume (m.Unary p op) a ts = Some (node p (ek.Unary op a), ts)
resume (m.Cast p) a ts = Some (node p (ek.Cast co.Text a), ts)
resume m.Brackets a ts = after s.CloseRound ts >>= λ r. Some (a, r)
resume (m.Binary p op left) a ts = Some (node p (ek.Binary op left a), ts)
resume (m.Second p condition) a ts = after s.Colon ts >>= λ r. ((reads r).expr 0 >>= λ x. Some (node p (ek.Conditional condition a x.0), x.1))
resume (m.Third p condition chosen) a ts = Some (node p (ek.Conditional condition chosen a), ts)
resume (m.Index p list) a ts = after s.CloseSquare ts >>= λ r. Some (node p (ek.Index list a), r)
resume (m.Argument p callee found) a ts = after_argument p callee (found ++ a ∷ []) ts
resume (m.With p base found name) a ts = after_with_part p base (found ++ part name a ∷ []) ts
resume (m.Hole p found) a ts = after s.HoleClose ts >>= λ r. text_from p (found ++ tp.Hole a ∷ []) r

-- what a frame makes of it
abbrev pub go_on : Frame → Expr → List Token → Read Expr
go_on (f.Form form) a ts = resume form a ts
go_on (f.Operations l p) a ts = (reads ts).loop l p a

-- what a list of frames makes of what is read, the last frame first
abbrev pub unwind : List Frame → Read Expr → Read Expr
unwind [] read = read
unwind (frame ∷ frames) read = unwind frames read >>= λ x. go_on frame x.0 x.1

-- what is read in a turn
abbrev pub meaning : Turn → List Token → Read Expr
meaning (t.Found a) ts = Some (a, ts)
meaning (t.Wanted form l) ts = (reads ts).expr l >>= λ x. resume form x.0 x.1

-- what a function returned comes to what was to be read
abbrev pub Leads : Read Expr → Result (Turn × Bor (List Token)) Unread → Type 0
Leads read (Ok x) = read ≡ meaning x.0 x.1.now
Leads read (Err e) = Fails e read

-- the same over a list of frames that may have changed
abbrev pub Moves : List Frame → Read Expr → List Frame → Result (Turn × Bor (List Token)) Unread → Type 0
Moves old read new (Ok x) = unwind old read ≡ unwind new (meaning x.0 x.1.now)
Moves old read new (Err e) = Fails e read

-- how much is left to do
abbrev pub cost : Turn → List Token → ℕ
cost (t.Found a) ts = 3 * length ts
cost (t.Wanted form l) ts = 3 * length ts + 1

abbrev pub CostsUpTo : ℕ → Result (Turn × Bor (List Token)) Unread → Type 0
CostsUpTo n (Ok x) = cost x.0 x.1.now ≤ n
CostsUpTo n (Err e) = Unit {0}
