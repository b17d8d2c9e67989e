-- Which tokens spell what may stand by itself: an expression, a lambda, or markup.
use Rattle.std.specs.Prelude.{ℕ, List, [], ◌∷◌, Some, None}
use Rattle.text_core.specs.declared.place.Place.{Place}
use Rattle.cs_ast.specs.declared.expression.Body.{Body}
use Rattle.cs_ast.specs.declared.expression.Body.TheVariants as body
use Rattle.cs_ast.specs.declared.expression.Expr.{Expr}
use Rattle.cs_ast.specs.declared.expression.ExprKind.TheVariants as ek
use Rattle.cs_ast.specs.declared.expression.Stmt.{Stmt}
use Rattle.cs_ast.specs.declared.operators.CastOp.TheVariants as co
use Rattle.cs_token.specs.declared.token.Token.{Token}
use Rattle.cs_token.specs.declared.token.Sign.TheVariants as s
use Rattle.cs_token.specs.declared.token.Word.TheVariants as w
use Rattle.cs_grammar.specs.Tokens.{IsSign, IsWord, IsName, ident}
use Rattle.cs_grammar.specs.Expressions.{Spells, node}
use Rattle.cs_grammar.specs.Statements.{Changes, Statements, no_jumps}

-- what stands behind the arrow of a lambda: an expression, an assignment, a step, or a block
pub data LambdaBody : List Token → List Token → Body → Type 0 where
  result : (p : Place) (ts rest : List Token) (a : Expr) → Spells 0 p ts rest a → LambdaBody ts rest (body.Value a)
  change : (p : Place) (ts rest : List Token) (a : Expr) → Changes p ts rest a → LambdaBody ts rest (body.Value a)
  block : (o c : Token) (ts rest : List Token) (statements : List Stmt) →
      IsSign s.OpenBrace o → Statements no_jumps ts (c ∷ rest) statements → IsSign s.CloseBrace c → LambdaBody (o ∷ ts) rest (body.Block statements)

-- SpelledValue ts a: the tokens spell a, which is an expression, or an operand as markup.
pub data SpelledValue : List Token → Expr → Type 0 where
  expression : (p : Place) (ts : List Token) (a : Expr) → Spells 0 p ts [] a → SpelledValue ts a
  markup : (p : Place) (o t c : Token) (ts : List Token) (a : Expr) →
      IsSign s.OpenRound o → IsWord w.MarkupString t → IsSign s.CloseRound c → Spells 11 p ts [] a →
      SpelledValue (o ∷ t ∷ c ∷ ts) (node o.place (ek.Cast co.Markup a))

-- Spelled ts a: the tokens spell a, which is one of these or a lambda.
pub data Spelled : List Token → Expr → Type 0 where
  value : (ts : List Token) (a : Expr) → SpelledValue ts a → Spelled ts a
  of_none : (o c r : Token) (ts : List Token) (b : Body) →
      IsSign s.OpenRound o → IsSign s.CloseRound c → IsSign s.Arrow r → LambdaBody ts [] b → Spelled (o ∷ c ∷ r ∷ ts) (node o.place (ek.Lambda None b))
  of_name : (x : List ℕ) (n r : Token) (ts : List Token) (b : Body) →
      IsName x n → IsSign s.Arrow r → LambdaBody ts [] b → Spelled (n ∷ r ∷ ts) (node n.place (ek.Lambda (Some (ident n x)) b))
  of_one : (x : List ℕ) (o n c r : Token) (ts : List Token) (b : Body) →
      IsSign s.OpenRound o → IsName x n → IsSign s.CloseRound c → IsSign s.Arrow r → LambdaBody ts [] b →
      Spelled (o ∷ n ∷ c ∷ r ∷ ts) (node o.place (ek.Lambda (Some (ident n x)) b))
