-- Facts that reading items over frames rests on.
use Rattle.std.proofs.Common.{◌≡◌, ℕ, ◌+◌, ◌-◌, ◌<◌, ◌≤◌, List, [], ◌∷◌, length, refl, sym, ap, ◌∙◌, subst, arith}
use Rattle.std.specs.Prelude.{Bool, true, false, not, if◌then◌else◌, Some, None}
use Rattle.std.specs.Str.{bytes_eq}
use Rattle.std.proofs.lemmas.Slice.Eq.{bytes_eq-Decides}
use Rattle.cs_token.specs.declared.token.TokenKind.{TokenKind}
use Rattle.cs_token.specs.declared.token.TokenKind.TheVariants as tk
use Rattle.cs_token.specs.declared.token.Sign.TheVariants as s
use Rattle.cs_token.specs.declared.token.Word.TheVariants as w
use Rattle.razor_token.specs.Tags.{is_component}
use Rattle.razor_token.specs.declared.piece.Piece.{Piece}
use Rattle.razor_token.specs.declared.piece.PieceKind.{PieceKind}
use Rattle.razor_token.specs.declared.piece.PieceKind.TheVariants as k
use Rattle.razor_ast.specs.declared.attribute.Attribute.{Attribute}
use Rattle.razor_ast.specs.declared.node.TNode.{TNode}
use Rattle.razor_ast.specs.Nodes as g
use Rattle.razor_ast.specs.Pieces.{IsKind, IsSign}
use Rattle.razor_reader.specs.declared.frame.Jumps.{Jumps}
use Rattle.razor_reader.specs.declared.mark.Mark.{Mark}
use Rattle.razor_reader.specs.declared.mark.Mark.TheVariants as m
use Rattle.razor_reader.specs.Marks.{sign_mark, word_mark, mark_of, mark_number, is_mark}
use Rattle.razor_reader.specs.Reading.{has, after}
use Rattle.razor_reader.specs.BeginReading as bg
use Rattle.razor_reader.specs.ContentReading.{edge_of, item_edge}
use Rattle.razor_reader.specs.StatementReading as st
use Rattle.razor_reader.proofs.StatementComplete.{Starts}
use Rattle.razor_reader.proofs.SuffixLemmas.{Behind, not_longer}

pub less_one : (a d : ℕ) → a < d → a + 1 ≤ d
less_one a d h = omega arith

pub behind_first : (p : Piece) (ps us : List Piece) → Behind ps us → length us + 1 ≤ length (p ∷ ps)
behind_first p ps us h = let e = not_longer ps us h in omega arith

pub not_after : (mark : Mark) (ps : List Piece) → has mark ps ≡ false → after mark ps ≡ None
not_after mark [] e = refl
not_after mark (p ∷ ps) e = ap (λ (d : Bool). if d then Some ps else None) e

-- the ends of content are no items

pub end_no_item : (name : List ℕ) (close : Piece) (us : List Piece) → IsKind (k.EndTagStart name) close → item_edge (close ∷ us) ≡ None
end_no_item name close us i = ap (λ (kind : PieceKind). edge_of (mark_of kind)) i

pub end_no_else : (name : List ℕ) (close : Piece) (us : List Piece) → IsKind (k.EndTagStart name) close → has m.Else (close ∷ us) ≡ false
unfolding mark_number
end_no_else name close us i = ap (is_mark m.Else) i

pub line_no_item : (end : Piece) (us : List Piece) → IsKind k.LineEnd end → item_edge (end ∷ us) ≡ None
line_no_item end us i = ap (λ (kind : PieceKind). edge_of (mark_of kind)) i

pub line_no_else : (end : Piece) (us : List Piece) → IsKind k.LineEnd end → has m.Else (end ∷ us) ≡ false
unfolding mark_number
line_no_else end us i = ap (is_mark m.Else) i

-- tags

pub tag_same : (n : ℕ) (p : Piece) (name : List ℕ) (attributes : List Attribute) (children : List TNode) →
    bg.tag_node (bg.open_tag n p name attributes) children ≡ g.tag_node (is_component name) n p name attributes children
tag_same n p name attributes children = go (is_component name)
  where
    go : (c : Bool) → bg.node_of c (bg.open_tag n p name attributes) children ≡ g.tag_node c n p name attributes children
    go true = refl
    go false = refl

pub same_name : (x : List ℕ) → bytes_eq x x ≡ true
same_name x = (bytes_eq-Decides x x).1 refl

abbrev pub IsCode : List Piece → Type 0
IsCode [] = ⊥
IsCode (p ∷ ps) = (kind : TokenKind) × (p.kind ≡ k.Code kind)

pub starts_code : (ps : List Piece) → Starts ps → IsCode ps
starts_code ps h = subst IsCode (sym h.whole) (h.kind, h.is)

pub open_brace_is : is_mark m.OpenBrace (k.Code (tk.Sign s.OpenBrace)) ≡ true
unfolding sign_mark mark_number
open_brace_is = refl

pub brace_no_if : is_mark m.If (k.Code (tk.Sign s.OpenBrace)) ≡ false
unfolding sign_mark mark_number
brace_no_if = refl

pub if_is : is_mark m.If (k.Code (tk.Word w.If)) ≡ true
unfolding word_mark mark_number
if_is = refl

pub else_is : is_mark m.Else (k.Code (tk.Word w.Else)) ≡ true
unfolding word_mark mark_number
else_is = refl

pub body_braced : (braced : Bool) (j : Jumps) (n : ℕ) (o : Piece) (ps : List Piece) → IsSign s.OpenBrace o → bg.body braced j n (o ∷ ps) ≡ st.statement braced o.place j n (o ∷ ps)
body_braced true j n o ps i = ap (λ (d : Bool). if not d then None else st.statement true o.place j n (o ∷ ps)) (ap (is_mark m.OpenBrace) i ∙ open_brace_is)
body_braced false j n o ps i = refl

pub one_of_same : {A : Type 0} (d : Bool) (x : A) → (if d then x else x) ≡ x
one_of_same true x = refl
one_of_same false x = refl
