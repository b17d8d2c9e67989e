-- How a `for` begins is read.
use Rattle.std.proofs.Common.{◌≡◌, ℕ, ◌+◌, List, [], ◌∷◌, refl, ap, ◌∙◌}
use Rattle.std.specs.Prelude.{Bool, Option, Some, None}
use Rattle.text_core.specs.declared.place.Place.{Place}
use Rattle.cs_ast.specs.declared.expression.Expr.{Expr}
use Rattle.cs_ast.specs.declared.expression.Stmt.{Stmt}
use Rattle.cs_token.specs.declared.token.Token.{Token}
use Rattle.cs_token.specs.declared.token.Word.TheVariants as w
use Rattle.razor_token.specs.declared.piece.Piece.{Piece}
use Rattle.razor_ast.specs.Brackets.{Round}
use Rattle.razor_ast.specs.Pieces.{IsWord}
use Rattle.razor_ast.specs.Statements.{ForHead}
use Rattle.razor_reader.specs.declared.frame.Frame.TheVariants as fr
use Rattle.razor_reader.specs.declared.frame.Jumps.{Jumps}
use Rattle.razor_reader.specs.declared.mark.Mark.TheVariants as m
use Rattle.razor_reader.specs.Marks.{word_mark}
use Rattle.razor_reader.specs.Reading.{◌>>=◌}
use Rattle.razor_reader.specs.TokenReading.{round}
use Rattle.razor_reader.specs.HeadReading.{for_head}
use Rattle.razor_reader.specs.StatementReading as r
use Rattle.razor_reader.proofs.ForComplete.{for_head_complete}
use Rattle.razor_reader.proofs.HeadComplete.{round_complete, flat_round}
use Rattle.razor_reader.proofs.StatementComplete.{by_mark, word_mark_is}
use Rattle.razor_reader.proofs.ValueComplete.{FlatPieces, bind_is}

for_mark : word_mark w.For ≡ m.For
unfolding word_mark
for_mark = refl

pub for_begins : (b : Bool) (p : Place) (j : Jumps) (n : ℕ) (u : Piece) (ps us : List Piece) (ts : List Token) (start : Option Stmt) (condition step : Option Expr) → FlatPieces ps → IsWord w.For u → Round ps ts us
    → ForHead ts start condition step → r.statement b p j n (u ∷ ps) ≡ Some (r.inside_loop (fr.For n p start condition step) b, n + 1, us)
for_begins b p j n u ps us ts start condition step f i h parts =
    by_mark b p j n u ps m.For (word_mark_is u w.For m.For i for_mark)
    ∙ bind_is (round ps) (ts, us) (λ y. (for_head y.0 >>= λ x. Some (r.inside_loop (fr.For n p x.0 x.1 x.2) b, n + 1, y.1))) (round_complete ps us ts h)
    ∙ bind_is (for_head ts) (start, condition, step) (λ x. Some (r.inside_loop (fr.For n p x.0 x.1 x.2) b, n + 1, us))
    (for_head_complete ts start condition step (flat_round ps us ts f h) parts)
