-- Code with markup, part by part.
use Rattle.std.proofs.Common.{◌≡◌, ℕ, Bool, true, false, List, [], ◌∷◌, ◌++◌, Some, None, refl, sym, ap, ◌∙◌, subst, append_assoc}
use Rattle.std.specs.declared.option.Option.{Option}
use Rattle.text_core.specs.declared.place.Place.{Place}
use Rattle.cs_ast.specs.declared.expression.Expr.{Expr}
use Rattle.cs_ast.specs.declared.expression.Stmt.{Stmt}
use Rattle.cs_grammar.specs.Statements.{Jumps}
use Rattle.cs_token.specs.declared.token.Sign.TheVariants as s
use Rattle.cs_token.specs.declared.token.TokenKind.TheVariants as t
use Rattle.cs_token.specs.declared.token.Word.{Word}
use Rattle.cs_token.specs.declared.token.Word.TheVariants as w
use Rattle.cs_print.specs.Printed.{Kinds, in_round}
use Rattle.razor_token.specs.declared.piece.Piece.{Piece}
use Rattle.razor_token.specs.declared.piece.PieceKind.{PieceKind}
use Rattle.razor_token.specs.declared.piece.PieceKind.TheVariants as k
use Rattle.razor_ast.specs.declared.node.TNode.{TNode}
use Rattle.razor_ast.specs.Literals.{is_edge}
use Rattle.razor_ast.specs.Nodes.{Code, Within, Otherwise, Line}
use Rattle.razor_ast.specs.Nodes as gn
use Rattle.razor_ast.specs.Pieces.{IsKind, IsSign, IsWord}
use Rattle.razor_ast.specs.Shown.{Shown}
use Rattle.razor_ast.specs.Shown as sh
use Rattle.razor_ast.specs.Statements.{IsSimple, Simple}
use Rattle.razor_ast.specs.Statements as gs
use Rattle.razor_print.specs.declared.before.Before.{Before}
use Rattle.razor_print.specs.Nodes.{Printed, coded, headed, node}
use Rattle.razor_print.specs.Parts.{Parts, tokens, in_block, close_brace}
use Rattle.razor_print.specs.Parts as parts
use Rattle.razor_print.proofs.NodeLaws as law
use Rattle.printed_pieces.specs.Meant.{Mean}
use Rattle.printing_again.proofs.MeantLaws.{first-token}
use Rattle.printing_nodes.proofs.Results.{CodeAgain, LineAgain, WithinAgain, OtherwiseAgain, first_edge}

-- a word, brackets and more
pub record Headed (word : Word) (head : Kinds) (x later : Parts) (us : List Piece) : Type 0 where
  pub p : Piece
  pub rest : List Piece
  pub split : p ∷ rest ≡ us
  pub is : IsWord word p
  pub mean : Mean (tokens (in_round head) ++ (x ++ later)) rest

pub headed-mean : (word : Word) (head : Kinds) (x later : Parts) (us : List Piece) → Mean (headed word head x ++ later) us → Headed word head x later us
headed-mean word head x later us mean =
    let first = first-token (t.Word word) ((tokens (in_round head) ++ x) ++ later) us mean in
    record { p = first.p; rest = first.rest; split = first.split; is = first.is; mean = subst (λ z. Mean z first.rest) (append_assoc (tokens (in_round head)) x later) first.mean }

-- code of a node by its equation
pub code-mean : (a : TNode) (b : Bool) (left : Before) (x y later : Parts) (us : List Piece) → node a ≡ coded b left x → x ≡ y → Mean ((node a).code ++ later) us → Mean (y ++ later) us
code-mean a b left x y later us e i mean = subst (λ z. Mean (z ++ later) us) (ap (λ (z : Printed). z.code) e ∙ i) mean

-- braces and what is in them
pub record Braced (x later : Parts) (us : List Piece) : Type 0 where
  pub o : Piece
  pub inner : List Piece
  pub split : o ∷ inner ≡ us
  pub opens : IsSign s.OpenBrace o
  pub mean : Mean (x ++ close_brace ∷ later) inner

pub braced : (x later : Parts) (us : List Piece) → Mean (in_block x ++ later) us → Braced x later us
braced x later us mean =
    let first = first-token (t.Sign s.OpenBrace) ((x ++ close_brace ∷ []) ++ later) us mean in
    record { o = first.p; inner = first.rest; split = first.split; opens = first.is; mean = subst (λ z. Mean z first.rest) (append_assoc x (close_brace ∷ []) later) first.mean }

-- an at sign begins a content expression
pub record ShownFirst (us : List Piece) : Type 0 where
  pub p : Piece
  pub behind : List Piece
  pub split : p ∷ behind ≡ us
  pub is : IsKind k.At p

pub shown-first : (us rest : List Piece) (a : Expr) → Shown us rest a → ShownFirst us
shown-first _ _ _ (sh.shown at end ts rest a is h ends) = record { p = at; behind = _; split = refl; is = is }

pub shown-edge : (us rest : List Piece) (a : Expr) → Shown us rest a → first_edge us ≡ false
shown-edge _ _ _ (sh.shown at end ts rest a is h ends) = ap (λ z. is_edge z) is

pub simple-is : (us rest : List Piece) (a : Stmt) → Simple us rest a → IsSimple a.kind
simple-is _ _ _ (gs.simple ts c rest a plain is h kind) = kind

same-some : (j i : PieceKind) → Some j ≡ Some i → j ≡ i
same-some j i e = cc

from-coded : (a : TNode) (marked : Bool) (left : Before) (x : Parts) → node a ≡ coded marked left x → (node a).content ≡ parts.piece k.CodeAt (64 ∷ []) ∷ (node a).code
from-coded a marked left x e = ap (λ (z : Printed). z.content) e ∙ sym (ap (λ (z : Printed). parts.piece k.CodeAt (64 ∷ []) ∷ z.code) e)

module _ (source : Piece → List ℕ) where
  -- in content an at sign stands before code
  pub code-content : (b : Bool) (q : Place) (j : Jumps) (f : Bool) (n : ℕ) (ps rest : List Piece) (m : ℕ) (a : TNode) → Code source b q j f n ps rest m a → b ≡ false → (node a).content ≡ parts.piece k.CodeAt (64 ∷ []) ∷ (node a).code
  code-content _ _ _ _ _ _ _ _ _ (gn.simple q j f n ps rest a h) e = absurd (cc)
  code-content _ _ _ _ _ _ _ _ _ (gn.break_ q j f n t c rest may is ends) e = absurd (cc)
  code-content _ _ _ _ _ _ _ _ _ (gn.continue_ q j f n t c rest may is ends) e = absurd (cc)
  code-content _ _ _ _ _ _ _ _ _ (gn.Code.block b q j f n m o c ps rest items is lines ends) e = from-coded _ _ _ _ (law.node_block q items)
  code-content _ _ _ _ _ _ _ _ _ (gn.if_alone b q j n m t ps us rest ts a holds is brackets test within_it) e = from-coded _ _ _ _ (law.node_if q a holds None)
  code-content _ _ _ _ _ _ _ _ _ (gn.if_else b q j f n i m t d ps us vs rest ts a holds fails is brackets test one other two) e = from-coded _ _ _ _ (law.node_if q a holds (Some fails))
  code-content _ _ _ _ _ _ _ _ _ (gn.while_ b q j f n m t ps us rest ts a body is brackets test within_it) e = from-coded _ _ _ _ (law.node_while n q a body)
  code-content _ _ _ _ _ _ _ _ _ (gn.for_ b q j f n m t ps us rest ts start test next body is brackets heading within_it) e = from-coded _ _ _ _ (law.node_for n q start test next body)
  code-content _ _ _ _ _ _ _ _ _ (gn.foreach_ b q j f n m x t name ps us rest ts a body is brackets heading within_it) e = from-coded _ _ _ _ (law.node_foreach n q _ a body)
  code-content _ _ _ _ _ _ _ _ _ (gn.switch_ b q j f n m t o c ps us rest ts a sections is brackets test begins inner ends) e = from-coded _ _ _ _ (law.node_switch q a sections)

module _ (around : Piece → List ℕ) where
  any-within : (j : Jumps) (f : Bool) (n m : ℕ) (kind : PieceKind) (a : TNode) (later : Parts) (us : List Piece) → CodeAgain around true j f n m (Some kind) a later us → WithinAgain around true j f n m a later us
  any-within j f n m kind a later us x = record {
    rest = x.rest;
    other = x.other x.p.place;
    spelled = subst (λ z. Within around true j f n z x.rest m (x.other x.p.place)) x.split (gn.Within.other j f n m x.p x.behind x.rest (x.other x.p.place) (x.spelled x.p.place));
    alike = x.alike x.p.place;
    mean = x.mean;
  }

  -- a body that is a block
  pub within-block : (b : Bool) (j : Jumps) (f : Bool) (n m : ℕ) (kind : PieceKind) (a : TNode) (later : Parts) (us : List Piece) → kind ≡ k.Code (t.Sign s.OpenBrace) → CodeAgain around b j f n m (Some kind) a later us → WithinAgain around b j f n m a later us
  within-block true j f n m kind a later us e x = any-within j f n m kind a later us x
  within-block false j f n m kind a later us e x = record {
    rest = x.rest;
    other = x.other x.p.place;
    spelled = subst (λ z. Within around false j f n z x.rest m (x.other x.p.place)) x.split (gn.Within.in_block false j f n m x.p x.behind x.rest (x.other x.p.place) (same-some _ _ (x.begins refl) ∙ e) (x.spelled x.p.place));
    alike = x.alike x.p.place;
    mean = x.mean;
  }

  pub within-other : (j : Jumps) (f : Bool) (n m : ℕ) (kind : PieceKind) (a : TNode) (later : Parts) (us : List Piece) → CodeAgain around true j f n m (Some kind) a later us → WithinAgain around true j f n m a later us
  within-other j f n m kind a later us x = any-within j f n m kind a later us x

  pub otherwise-within : (b : Bool) (j : Jumps) (f : Bool) (n m : ℕ) (a : TNode) (later : Parts) (us : List Piece) → WithinAgain around b j f n m a later us → OtherwiseAgain around b j f n m a later us
  otherwise-within b j f n m a later us x = record { rest = x.rest; other = x.other; spelled = gn.otherwise_body b j f n m us x.rest x.other x.spelled; alike = x.alike; mean = x.mean }

  -- one more `if` behind `else`
  pub otherwise-if : (b : Bool) (j : Jumps) (f : Bool) (n m : ℕ) (kind : PieceKind) (a : TNode) (later : Parts) (us : List Piece) → kind ≡ k.Code (t.Word w.If) → CodeAgain around b j f n m (Some kind) a later us → OtherwiseAgain around b j f n m a later us
  otherwise-if true j f n m kind a later us e x = otherwise-within true j f n m a later us (any-within j f n m kind a later us x)
  otherwise-if false j f n m kind a later us e x = record {
    rest = x.rest;
    other = x.other x.p.place;
    spelled = subst (λ z. Otherwise around false j f n z x.rest m (x.other x.p.place)) x.split (gn.otherwise_if false j f n m x.p x.behind x.rest (x.other x.p.place) (same-some _ _ (x.begins refl) ∙ e) (x.spelled x.p.place));
    alike = x.alike x.p.place;
    mean = x.mean;
  }

  pub line-of : (j : Jumps) (n m : ℕ) (kind : Option PieceKind) (a : TNode) (later : Parts) (us : List Piece) → CodeAgain around true j false n m kind a later us → LineAgain around j n m a later us
  line-of j n m kind a later us x = record {
    rest = x.rest;
    other = x.other x.p.place;
    spelled = subst (λ z. Line around j n z x.rest m (x.other x.p.place)) x.split (gn.a_statement j n m x.p x.behind x.rest (x.other x.p.place) (x.spelled x.p.place));
    alike = x.alike x.p.place;
    mean = x.mean;
  }
