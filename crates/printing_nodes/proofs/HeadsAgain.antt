-- What stands in round brackets behind a word is spelled again.
use Rattle.std.proofs.Common.{ℕ, true, false, List, [], ◌∷◌, ◌++◌, option_map}
use Rattle.std.specs.declared.option.Option.{Option}
use Rattle.cs_ast.specs.declared.expression.Expr.{Expr}
use Rattle.cs_ast.specs.declared.expression.Stmt.{Stmt}
use Rattle.cs_token.specs.declared.token.Token.{Token}
use Rattle.cs_token.specs.declared.token.TokenKind.TheVariants as k
use Rattle.cs_token.specs.declared.token.Sign.TheVariants as s
use Rattle.cs_token.specs.declared.token.Word.TheVariants as w
use Rattle.cs_grammar.specs.Expressions.{SpelledExpression}
use Rattle.cs_grammar.specs.Statements.{Start, Condition, Step}
use Rattle.cs_print.specs.Alike.{Alike, AlikeBranch, AlikeOption}
use Rattle.cs_print.specs.Printed.{in_round, ended, optional, started, whole, printed, statement_kinds}
use Rattle.cs_print.proofs.ExpressionForms.{Reads, all}
use Rattle.cs_print.proofs.ExpressionsAgain.{expression}
use Rattle.cs_print.proofs.LayLemmas.{Are}
use Rattle.cs_print.proofs.ReadLemmas as rd
use Rattle.cs_print.proofs.ReadLemmas.{first}
use Rattle.cs_print.proofs.SimpleAgain.{starting, condition, stepping}
use Rattle.razor_token.specs.declared.piece.Piece.{Piece}
use Rattle.razor_ast.specs.Brackets.{Round}
use Rattle.razor_ast.specs.Statements.{ForHead, ForEachHead}
use Rattle.razor_ast.specs.Statements as gs
use Rattle.razor_print.specs.Nodes.{for_head, foreach_head}
use Rattle.razor_print.specs.Parts.{Parts, tokens}
use Rattle.printed_pieces.specs.Meant.{Mean}
use Rattle.printed_pieces.specs.Written.{IsWritten}
use Rattle.printed_pieces.proofs.Nests.{Nests, join, named, worded}
use Rattle.printed_pieces.proofs.NestedExpressions.{expression_nests}
use Rattle.printed_pieces.proofs.NestedStatements.{start_nests, condition_nests, step_nests, ended as nested-end}
use Rattle.printed_pieces.proofs.WrittenCode.{proper}
use Rattle.printing_nodes.proofs.LineLaws.{in-round}

expression-read : (a : Expr) → IsWritten SpelledExpression a → (ts : List Token) → Are (whole (printed a)) ts [] → Reads 0 a ts []
expression-read a h ts are = (all a (expression 0 h.tree.0 h.tokens [] a h.tree.1 (proper h.tokens h.proper)).again).reads ts [] are

-- an expression
pub record TestAgain (a : Expr) (later : Parts) (us : List Piece) : Type 0 where
  pub ts : List Token
  pub rest : List Piece
  pub other : Expr
  pub round : Round us ts rest
  pub spelled : SpelledExpression ts other
  pub alike : Alike a other
  pub mean : Mean later rest

pub test_again : (a : Expr) (later : Parts) (us : List Piece) → IsWritten SpelledExpression a → Mean (tokens (in_round (whole (printed a))) ++ later) us → TestAgain a later us
test_again a later us h mean =
    let x = in-round (whole (printed a)) later us mean in
    let y = expression-read a h x.ts x.are in
    record {
      ts = x.ts;
      rest = x.rest;
      other = y.tree;
      round = x.is true (expression_nests true 0 y.place x.ts [] y.tree y.spelled);
      spelled = (y.place, y.spelled);
      alike = y.alike;
      mean = x.mean;
    }

-- the head of a `for`
pub record ForAgain (start : Option Stmt) (test next : Option Expr) (later : Parts) (us : List Piece) : Type 0 where
  pub ts : List Token
  pub rest : List Piece
  pub start_other : Option Stmt
  pub test_other : Option Expr
  pub next_other : Option Expr
  pub round : Round us ts rest
  pub spelled : ForHead ts start_other test_other next_other
  pub start_alike : AlikeBranch start start_other
  pub test_alike : AlikeOption test test_other
  pub next_alike : AlikeOption next next_other
  pub mean : Mean later rest

pub for_again : (start : Option Stmt) (test next : Option Expr) (later : Parts) (us : List Piece) → IsWritten (λ ts x. Start ts [] x) start → IsWritten (λ ts x. Condition ts [] x) test → IsWritten (λ ts x. Step ts [] x) next
    → Mean (tokens (in_round (for_head start test next)) ++ later) us → ForAgain start test next later us
for_again start test next later us one two three mean =
    let x = in-round (for_head start test next) later us mean in
    let a = rd.parted (started (option_map statement_kinds start)) (ended (optional (option_map printed test)) ++ optional (option_map printed next)) x.ts [] x.are in
    let i = (starting one.tokens [] start one.tree (proper one.tokens one.proper)).again.reads x.ts a.us a.front in
    let b = rd.parted (ended (optional (option_map printed test))) (optional (option_map printed next)) a.us [] a.behind in
    let e = rd.ended (optional (option_map printed test)) (k.Sign s.Semicolon) a.us b.us b.front in
    let j = (condition two.tokens [] test two.tree (proper two.tokens two.proper)).again.reads a.us (e.t ∷ b.us) e.front in
    let m = (stepping three.tokens [] next three.tree (proper three.tokens three.proper)).again.reads b.us [] b.behind in
    record {
      ts = x.ts;
      rest = x.rest;
      start_other = i.other;
      test_other = j.other;
      next_other = m.other;
      round = x.is false
          (join false x.ts (i.m ∷ a.us) [] (start_nests false x.ts (i.m ∷ a.us) i.other i.spelled) (nested-end i.m a.us [] i.ends
          (join false a.us (e.t ∷ b.us) [] (condition_nests false a.us (e.t ∷ b.us) j.other j.spelled) (nested-end e.t b.us [] e.is (step_nests false b.us [] m.other m.spelled)))));
      spelled = gs.ForHead.head i.m e.t x.ts a.us b.us i.other j.other m.other i.spelled i.ends j.spelled e.is m.spelled;
      start_alike = i.alike;
      test_alike = j.alike;
      next_alike = m.alike;
      mean = x.mean;
    }

-- the head of a `foreach`
record ListRead (x : List ℕ) (a : Expr) (ts : List Token) : Type 0 where
  name : Token
  other : Expr
  spelled : ForEachHead ts name x other
  alike : Alike a other
  nests : Nests true ts []

list-read : (x : List ℕ) (a : Expr) → IsWritten SpelledExpression a → (ts : List Token) → Are (foreach_head x a) ts [] → ListRead x a ts
list-read x a h ts are = first (k.Word w.Var) _ ts [] (λ xs. ListRead x a xs) are (λ v us var more.
    first (k.Name x) _ us [] (λ xs. ListRead x a (v ∷ xs)) more (λ n vs is others.
    first (k.Word w.In) _ vs [] (λ xs. ListRead x a (v ∷ n ∷ xs)) others (λ i xs within_it last.
    let y = expression-read a h xs last in
    record {
      name = n;
      other = y.tree;
      spelled = gs.ForEachHead.head x y.place v n i xs y.tree var is within_it y.spelled;
      alike = y.alike;
      nests = worded true w.Var v (n ∷ i ∷ xs) [] var (named true x n (i ∷ xs) [] is (worded true w.In i xs [] within_it (expression_nests true 0 y.place xs [] y.tree y.spelled)));
    })))

pub record ForEachAgain (x : List ℕ) (a : Expr) (later : Parts) (us : List Piece) : Type 0 where
  pub ts : List Token
  pub name : Token
  pub rest : List Piece
  pub other : Expr
  pub round : Round us ts rest
  pub spelled : ForEachHead ts name x other
  pub alike : Alike a other
  pub mean : Mean later rest

pub foreach_again : (x : List ℕ) (a : Expr) (later : Parts) (us : List Piece) → IsWritten SpelledExpression a → Mean (tokens (in_round (foreach_head x a)) ++ later) us → ForEachAgain x a later us
foreach_again x a later us h mean =
    let y = in-round (foreach_head x a) later us mean in
    let z = list-read x a h y.ts y.are in
    record { ts = y.ts; name = z.name; rest = y.rest; other = z.other; round = y.is true z.nests; spelled = z.spelled; alike = z.alike; mean = y.mean }
