-- What whole lists of tokens are read as, lambdas among them.
use Rattle.std.proofs.Common.{◌≡◌, List, sym, ◌∙◌}
use Rattle.std.specs.Prelude.{Option, Some, None}
use Rattle.cs_ast.specs.declared.expression.Expr.{Expr}
use Rattle.cs_token.specs.declared.token.Token.{Token}
use Rattle.cs_grammar.specs.Lambdas.{Spelled}
use Rattle.cs_parse.specs.LambdaReading.{whole_spelled}
use Rattle.cs_parse.proofs.LambdaSound as sound
use Rattle.cs_parse.proofs.LambdaComplete as complete
use Rattle.cs_parse.proofs.BodyBlocks.{outer_sound, outer_complete}

pub spelled_sound : (ts : List Token) (a : Expr) → whole_spelled ts ≡ Some a → Spelled ts a
spelled_sound ts a e = sound.spelled_sound outer_sound ts a e

pub spelled_complete : (ts : List Token) (a : Expr) → Spelled ts a → whole_spelled ts ≡ Some a
spelled_complete ts a h = complete.spelled_complete outer_complete ts a h

pub one_tree : (ts : List Token) (a b : Expr) → Spelled ts a → Spelled ts b → a ≡ b
one_tree ts a b x y = let e : Some a ≡ Some b = sym (spelled_complete ts a x) ∙ spelled_complete ts b y in cc

pub none_spelled : (ts : List Token) → whole_spelled ts ≡ None → (a : Expr) → Spelled ts a → ⊥
none_spelled ts e a x = let n : None ≡ Some a = sym e ∙ spelled_complete ts a x in absurd (cc)
