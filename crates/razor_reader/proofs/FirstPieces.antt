-- What stands first of each form.
use Rattle.std.proofs.Common.{◌≡◌, ℕ, ◌+◌, List, [], ◌∷◌, ◌++◌, length, refl, sym, ap, ◌∙◌, subst}
use Rattle.std.specs.Prelude.{Bool, true, false, ◌||◌, ◌==◌, if◌then◌else◌, Option, Some, None}
use Rattle.text_core.specs.declared.place.Place.{Place}
use Rattle.cs_ast.specs.declared.expression.Expr.{Expr}
use Rattle.cs_ast.specs.declared.expression.Label.{Label}
use Rattle.cs_token.specs.declared.token.TokenKind.{TokenKind}
use Rattle.cs_token.specs.declared.token.TokenKind.TheVariants as t
use Rattle.cs_token.specs.declared.token.Sign.TheVariants as s
use Rattle.cs_token.specs.declared.token.Word.{Word}
use Rattle.cs_token.specs.declared.token.Word.TheVariants as w
use Rattle.cs_grammar.specs.Statements as cs
use Rattle.razor_token.specs.declared.piece.Piece.{Piece}
use Rattle.razor_token.specs.declared.piece.PieceKind.{PieceKind}
use Rattle.razor_token.specs.declared.piece.PieceKind.TheVariants as k
use Rattle.razor_ast.specs.declared.node.TNode.{TNode}
use Rattle.razor_ast.specs.declared.node.TSection.{TSection}
use Rattle.razor_ast.specs.Literals.{literal_of, with_literal, literal_run, is_edge}
use Rattle.razor_ast.specs.Nodes.{Tag, Item, Content, Code, Line, Lines, Sections}
use Rattle.razor_ast.specs.Nodes as g
use Rattle.razor_ast.specs.Pieces.{IsKind, IsSign, IsWord}
use Rattle.razor_ast.specs.Shown.{Shown}
use Rattle.razor_ast.specs.Shown as content
use Rattle.razor_ast.specs.Statements.{SomeLabels, Leaves}
use Rattle.razor_reader.specs.declared.mark.Mark.{Mark}
use Rattle.razor_reader.specs.declared.mark.Mark.TheVariants as m
use Rattle.razor_reader.specs.Marks.{sign_mark, word_mark, token_mark, mark_of, mark_number, is_mark}
use Rattle.razor_reader.specs.Reading.{has}
use Rattle.razor_reader.specs.HeadReading.{has_label}
use Rattle.razor_reader.specs.ContentReading.{edge_of, item_edge}
use Rattle.razor_reader.specs.GoingReading.{ends}
use Rattle.razor_reader.proofs.SimpleComplete.{labels_begin}
use Rattle.razor_reader.proofs.StatementComplete.{Starts, is_free, simple_starts}

-- what stands first is neither the end of a list of statements nor `else`
pub record Opens (ps : List Piece) : Type 0 where
  pub no_end : ends ps ≡ false
  pub no_label : has_label ps ≡ false
  pub no_else : has m.Else ps ≡ false

abbrev is_end_mark : Mark → Bool
is_end_mark mark = (mark_number mark == mark_number m.CloseBrace) || ((mark_number mark == mark_number m.Case) || (mark_number mark == mark_number m.Default))

abbrev is_label_mark : Mark → Bool
is_label_mark mark = (mark_number mark == mark_number m.Case) || (mark_number mark == mark_number m.Default)

abbrev is_else_mark : Mark → Bool
is_else_mark mark = mark_number mark == mark_number m.Else

free_end : (mark : Mark) → is_free mark ≡ true → is_end_mark mark ≡ false
unfolding mark_number
free_end m.CloseBrace i = absurd (cc)
free_end m.Case i = absurd (cc)
free_end m.Default i = absurd (cc)
free_end _ i = refl

free_label : (mark : Mark) → is_free mark ≡ true → is_label_mark mark ≡ false
unfolding mark_number
free_label m.Case i = absurd (cc)
free_label m.Default i = absurd (cc)
free_label _ i = refl

free_else : (mark : Mark) → is_free mark ≡ true → is_else_mark mark ≡ false
unfolding mark_number
free_else m.Else i = absurd (cc)
free_else _ i = refl

opens_at : (mark : Mark) (p : Piece) (us : List Piece) → mark_of p.kind ≡ mark → is_free mark ≡ true → Opens (p ∷ us)
opens_at mark p us e i = record {
  no_end = ap is_end_mark e ∙ free_end mark i;
  no_label = ap is_label_mark e ∙ free_label mark i;
  no_else = ap is_else_mark e ∙ free_else mark i;
}

opens_by : (kind : PieceKind) (p : Piece) (us : List Piece) → p.kind ≡ kind → is_free (mark_of kind) ≡ true → Opens (p ∷ us)
opens_by kind p us e i = opens_at (mark_of kind) p us (ap mark_of e) i

starts_open : (ps : List Piece) → Starts ps → Opens ps
starts_open ps h = subst Opens (sym h.whole) (opens_by (k.Code h.kind) h.p h.us h.is h.free)

-- statements

by_word : (word : Word) (u : Piece) (us : List Piece) → IsWord word u → is_free (word_mark word) ≡ true → Starts (u ∷ us)
by_word word u us i f = record { p = u; us = us; kind = t.Word word; whole = refl; is = i; free = f }

free_break : is_free (word_mark w.Break) ≡ true
unfolding word_mark
free_break = refl

free_continue : is_free (word_mark w.Continue) ≡ true
unfolding word_mark
free_continue = refl

free_if : is_free (word_mark w.If) ≡ true
unfolding word_mark
free_if = refl

free_while : is_free (word_mark w.While) ≡ true
unfolding word_mark
free_while = refl

free_for : is_free (word_mark w.For) ≡ true
unfolding word_mark
free_for = refl

free_foreach : is_free (word_mark w.Foreach) ≡ true
unfolding word_mark
free_foreach = refl

free_switch : is_free (word_mark w.Switch) ≡ true
unfolding word_mark
free_switch = refl

free_brace : is_free (sign_mark s.OpenBrace) ≡ true
unfolding sign_mark
free_brace = refl

module _ (around : Piece → List ℕ) where
  pub code_starts : (b : Bool) (p : Place) (j : cs.Jumps) (f : Bool) (n : ℕ) (ps rest : List Piece) (i : ℕ) (a : TNode) → Code around b p j f n ps rest i a → Starts ps
  code_starts _ _ _ _ _ _ _ _ _ (g.simple p j f n ps rest a h) = simple_starts ps rest a h
  code_starts _ _ _ _ _ _ _ _ _ (g.break_ p j f n u c rest may i e) = by_word w.Break u (c ∷ rest) i free_break
  code_starts _ _ _ _ _ _ _ _ _ (g.continue_ p j f n u c rest may i e) = by_word w.Continue u (c ∷ rest) i free_continue
  code_starts _ _ _ _ _ _ _ _ _ (g.block b p j f n i o c ps rest items x h y) =
      record { p = o; us = ps; kind = t.Sign s.OpenBrace; whole = refl; is = x; free = free_brace }
  code_starts _ _ _ _ _ _ _ _ _ (g.if_alone b p j n i u ps us rest ts a yes_node x h e y) = by_word w.If u ps x free_if
  code_starts _ _ _ _ _ _ _ _ _ (g.if_else b p j f n i q u d ps us vs rest ts a yes_node no_node x h e y z o) = by_word w.If u ps x free_if
  code_starts _ _ _ _ _ _ _ _ _ (g.while_ b p j f n i u ps us rest ts a body x h e y) = by_word w.While u ps x free_while
  code_starts _ _ _ _ _ _ _ _ _ (g.for_ b p j f n i u ps us rest ts start condition step body x h e y) = by_word w.For u ps x free_for
  code_starts _ _ _ _ _ _ _ _ _ (g.foreach_ b p j f n i x u name ps us rest ts a body y h e z) = by_word w.Foreach u ps y free_foreach
  code_starts _ _ _ _ _ _ _ _ _ (g.switch_ b p j f n i u o c ps us rest ts a sections x h e y z q) = by_word w.Switch u ps x free_switch

-- a piece of this kind stands first
abbrev pub IsFirst : PieceKind → List Piece → Type 0
IsFirst kind [] = ⊥
IsFirst kind (p ∷ ps) = p.kind ≡ kind

pub shown_first : (ps rest : List Piece) (a : Expr) → Shown ps rest a → IsFirst k.At ps
shown_first _ _ _ (content.shown at end ts rest a i h j) = i

module _ (around : Piece → List ℕ) where
  tag_opens : (n : ℕ) (ps rest : List Piece) (i : ℕ) (a : TNode) → Tag around n ps rest i a → Opens ps
  tag_opens _ _ _ _ _ (g.tag name n i l p ps us vs rest attributes children x e h y z) = opens_by (k.TagStart name) p ps x refl

  pub line_opens : (j : cs.Jumps) (n : ℕ) (ps rest : List Piece) (i : ℕ) (a : TNode) → Line around j n ps rest i a → Opens ps
  line_opens _ _ _ _ _ _ (g.a_statement j n i p ps rest node h) = starts_open (p ∷ ps) (code_starts around true p.place j false n (p ∷ ps) rest i node h)
  line_opens _ _ _ _ _ _ (g.a_marked j n i at ps rest node x h) = opens_by k.CodeAt at ps x refl
  line_opens _ _ _ _ _ _ (g.a_tag j n i ps rest node h) = tag_opens n ps rest i node h
  line_opens _ _ _ _ _ _ (g.a_shown j n p ps rest a h) = opens_by k.At p ps (shown_first (p ∷ ps) rest a h) refl
  line_opens _ _ _ _ _ _ (g.a_group j n i p begin close end ps us vs rest items x h y c z q v) = opens_by (k.TagStart _) p ps x refl
  line_opens _ _ _ _ _ _ (g.a_line j n i p end ps rest items x h y) = opens_by k.LineStart p ps x refl

  pub lines_no_else : (j : cs.Jumps) (n : ℕ) (ps rest : List Piece) (i : ℕ) (items : List TNode) → Lines around j n ps rest i items → has m.Else rest ≡ false → has m.Else ps ≡ false
  lines_no_else _ _ _ _ _ _ (g.no_line j n rest) e = e
  lines_no_else _ _ _ _ _ _ (g.more_lines j n l i ps us rest first others h more) e = (line_opens j n ps us l first h).no_else

  -- a list of statements that leaves begins with no label
  pub lines_no_label : (j : cs.Jumps) (n : ℕ) (ps rest : List Piece) (i : ℕ) (items : List TNode) → Lines around j n ps rest i items → Leaves items → has_label ps ≡ false
  lines_no_label _ _ _ _ _ _ (g.no_line j n rest) e = elim e [ ]
  lines_no_label _ _ _ _ _ _ (g.more_lines j n l i ps us rest first others h more) e = (line_opens j n ps us l first h).no_label

-- the end of a list of statements stands first
pub record Closing (ps : List Piece) : Type 0 where
  pub ending : ends ps ≡ true
  pub no_else : has m.Else ps ≡ false

close_end : is_end_mark (sign_mark s.CloseBrace) ≡ true
unfolding sign_mark mark_number
close_end = refl

close_no_else : is_else_mark (sign_mark s.CloseBrace) ≡ false
unfolding sign_mark mark_number
close_no_else = refl

close_no_label : is_label_mark (sign_mark s.CloseBrace) ≡ false
unfolding sign_mark mark_number
close_no_label = refl

pub brace_closes : (c : Piece) (rest : List Piece) → IsSign s.CloseBrace c → Closing (c ∷ rest)
brace_closes c rest i = record { ending = ap (λ kind. is_end_mark (mark_of kind)) i ∙ close_end; no_else = ap (λ kind. is_else_mark (mark_of kind)) i ∙ close_no_else }

pub brace_no_label : (c : Piece) (rest : List Piece) → IsSign s.CloseBrace c → has_label (c ∷ rest) ≡ false
brace_no_label c rest i = ap (λ kind. is_label_mark (mark_of kind)) i ∙ close_no_label

or_true : (b d : Bool) → d ≡ true → (b || d) ≡ true
or_true true d e = refl
or_true false d e = e

label_else : (mark : Mark) → is_label_mark mark ≡ true → is_else_mark mark ≡ false
unfolding mark_number
label_else m.Else i = absurd (cc)
label_else _ i = refl

label_no_else : (ps : List Piece) → has_label ps ≡ true → has m.Else ps ≡ false
label_no_else [] e = refl
label_no_else (p ∷ ps) e = label_else (mark_of p.kind) e

pub labels_close : (ps rest : List Piece) (labels : List Label) → SomeLabels ps rest labels → Closing ps
labels_close ps rest labels h =
    let label = labels_begin ps rest labels h in
    record { ending = or_true (has m.CloseBrace ps) (has_label ps) label; no_else = label_no_else ps label }

pub sections_close : (around : Piece → List ℕ) (j : cs.Jumps) (room n : ℕ) (ps rest : List Piece) (i : ℕ) (sections : List TSection) → Sections around j room n ps rest i sections → Closing rest → Closing ps
sections_close around _ _ _ _ _ _ _ (g.no_section j room n rest) c = c
sections_close around _ _ _ _ _ _ _ (g.more_sections j room n l i ps us vs rest labels items others h d x y z) c = labels_close ps us labels h

-- content

literal_no_else : (kind : PieceKind) (x : List ℕ) → literal_of kind ≡ Some x → is_else_mark (mark_of kind) ≡ false
unfolding mark_number
literal_no_else (k.Literal text) x e = refl
literal_no_else _ x e = absurd (cc)

pub run_no_else : (ps us : List Piece) (text : List ℕ) → literal_run ps ≡ (text, us) → has m.Else us ≡ false → has m.Else ps ≡ false
run_no_else [] us text e f = refl
run_no_else (p ∷ ps) us text e f = go (literal_of p.kind) refl e
  where
    go : (o : Option (List ℕ)) → literal_of p.kind ≡ o → with_literal o p ps (literal_run ps) ≡ (text, us) → has m.Else (p ∷ ps) ≡ false
    go (Some x) i e = literal_no_else p.kind x i
    go None i e = subst (λ (l : List Piece). has m.Else l ≡ false) (ap (λ (run : List ℕ × List Piece). run.1) (sym e)) f

abbrev pub first_edge : List Piece → Bool
first_edge [] = false
first_edge (p ∷ ps) = is_edge p.kind

-- an item of content stands first
pub record Stands (ps : List Piece) : Type 0 where
  pub edge : item_edge ps ≡ Some (first_edge ps)
  pub no_else : has m.Else ps ≡ false

stands_by : (kind : PieceKind) (p : Piece) (us : List Piece) → p.kind ≡ kind → edge_of (mark_of kind) ≡ Some (is_edge kind) → is_free (mark_of kind) ≡ true → Stands (p ∷ us)
stands_by kind p us i e f = record {
  edge = ap (λ kind. edge_of (mark_of kind)) i ∙ e ∙ sym (ap (λ kind. Some (is_edge kind)) i);
  no_else = (opens_by kind p us i f).no_else;
}

pub item_stands : (around : Piece → List ℕ) (n : ℕ) (ps rest : List Piece) (i : ℕ) (a : TNode) → Item around n ps rest i a → Stands ps
item_stands around _ _ _ _ _ (g.of_tag _ _ _ _ _ (g.tag name n i l p ps us vs rest attributes children x e h y z)) = stands_by (k.TagStart name) p ps x refl refl
item_stands around _ _ _ _ _ (g.of_shown n p ps rest a h) = stands_by k.At p ps (shown_first (p ∷ ps) rest a h) refl refl
item_stands around _ _ _ _ _ (g.of_code n i at ps rest node x h) = stands_by k.CodeAt at ps x refl refl

pub content_no_else : (around : Piece → List ℕ) (edge : Bool) (n : ℕ) (ps rest : List Piece) (i : ℕ) (nodes : List TNode) → Content around edge n ps rest i nodes → has m.Else rest ≡ false → has m.Else ps ≡ false
content_no_else around _ _ _ _ _ _ (g.last_text edge n text ps rest texts e f) x = run_no_else ps rest text e x
content_no_else around _ _ _ _ _ _ (g.more_content edge n l i text p ps us vs rest texts node nodes e f h more) x =
    run_no_else ps (p ∷ us) text e (item_stands around (n + length texts) (p ∷ us) vs l node h).no_else
