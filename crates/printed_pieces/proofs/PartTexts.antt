-- The texts of the forms are those of their parts.
use Rattle.std.proofs.Common.{◌≡◌, ℕ, Bool, true, false, List, [], ◌∷◌, ◌++◌, Some, refl, sym, ap, ◌∙◌, append-nil}
use Rattle.std.specs.declared.option.Option.{Option}
use Rattle.std.specs.Prelude.{codes}
use Rattle.std.specs.List.{flat_map}
use Rattle.cs_ast.specs.declared.expression.Expr.{Expr}
use Rattle.cs_token.specs.declared.token.Sign.TheVariants as s
use Rattle.cs_token.specs.declared.token.TokenKind.TheVariants as t
use Rattle.cs_token.specs.declared.token.Word.TheVariants as w
use Rattle.cs_token.specs.Signs.{mark as mark-of}
use Rattle.cs_print.specs.Layout.{token_text, gap_behind, code_text}
use Rattle.cs_print.specs.Printed.{Kinds}
use Rattle.razor_token.specs.declared.piece.PieceKind.{PieceKind}
use Rattle.razor_token.specs.declared.piece.PieceKind.TheVariants as k
use Rattle.razor_token.specs.declared.piece.Quote.{Quote}
use Rattle.razor_token.specs.declared.context.Holds.{Holds}
use Rattle.razor_token.specs.declared.context.Point.{Point}
use Rattle.razor_token.specs.CodeFronts.{mark}
use Rattle.razor_print.specs.declared.before.Before.{Before}
use Rattle.razor_print.specs.Parts.{Part, Parts, written, parts_text, doubled, tokens, quoted, in_block, close_brace, led, shown, expression_end}
use Rattle.razor_print.specs.Parts as parts
use Rattle.razor_print.proofs.TextLaws.{parts_none, parts_join, text_code}
use Rattle.printed_pieces.proofs.ShownLaws.{round_parts, round_text}
use Rattle.printed_pieces.proofs.ValueLaws.{quoted_text, IsMixed}
use Rattle.printed_pieces.proofs.ValueLaws as v
use Rattle.printed_pieces.proofs.AttributeLaws.{IsValue, IsAttribute, AreAttributes}
use Rattle.printed_pieces.proofs.AttributeLaws as a
use Rattle.printed_pieces.proofs.BraceLaws.{block_text}
use Rattle.printed_pieces.proofs.Forms.{IsItem, IsContent, IsTag, InHead, InBlock}
use Rattle.printed_pieces.proofs.Forms as f
use Rattle.printed_pieces.proofs.FileLaws.{IsFile, section_of, section_text}
use Rattle.printed_pieces.proofs.FileLaws as l

-- the parts are written as this text
abbrev pub Writes : Parts → List ℕ → Type 0
Writes ps text = parts_text ps ≡ text

pub writes-join : (ps qs : Parts) (x y : List ℕ) → Writes ps x → Writes qs y → Writes (ps ++ qs) (x ++ y)
writes-join ps qs x y e f = parts_join ps qs ∙ ap (λ z. z ++ parts_text qs) e ∙ ap (λ z. x ++ z) f

pub writes-part : (p : Part) (x : List ℕ) → written p ≡ x → Writes (p ∷ []) x
unfolding parts_text
writes-part p x e = append-nil (written p) ∙ e

pub writes-piece : (kind : PieceKind) (x : List ℕ) → Writes (parts.piece kind x ∷ []) x
unfolding written
writes-piece kind x = writes-part (parts.piece kind x) x refl

then : (kind : PieceKind) (x : List ℕ) (qs : Parts) (y : List ℕ) → Writes qs y → Writes (parts.piece kind x ∷ qs) (x ++ y)
then kind x qs y e = writes-join (parts.piece kind x ∷ []) qs x y (writes-piece kind x) e

said-text : (text : List ℕ) → Writes (parts.said text ∷ []) (flat_map doubled text)
unfolding written
said-text text = writes-part (parts.said text) (flat_map doubled text) refl

verbatim-text : (text : List ℕ) → Writes (parts.verbatim text ∷ []) text
unfolding written
verbatim-text text = writes-part (parts.verbatim text) text refl

supplied-text : (quote : Quote) (text : List ℕ) (e : Option Expr) → Writes (parts.supplied quote text e ∷ []) (quoted_text quote text)
unfolding written
supplied-text quote text e = writes-part (parts.supplied quote text e) (quoted_text quote text) refl

apart-text : Writes (parts.apart ∷ []) (64 ∷ 42 ∷ 42 ∷ 64 ∷ [])
unfolding written
apart-text = writes-part parts.apart (codes "@**@") refl

open-text : Writes (parts.token (t.Sign s.OpenBrace) ∷ []) (123 ∷ 32 ∷ [])
unfolding written token_text gap_behind mark-of
open-text = writes-part (parts.token (t.Sign s.OpenBrace)) (123 ∷ 32 ∷ []) refl

pub tokens-text : (ks : Kinds) → Writes (tokens ks) (code_text ks)
tokens-text ks = sym (text_code [] (code_text ks) ks refl)

round-text : (ks : Kinds) → Writes (round_parts ks) (round_text ks)
round-text ks = then _ (40 ∷ []) _ _ (writes-join (tokens ks) _ (code_text ks) (41 ∷ []) (tokens-text ks) (writes-piece _ (41 ∷ [])))

led-text : (ks : Kinds) → Writes (led ks) (64 ∷ round_text ks)
led-text ks = then k.At (64 ∷ []) (round_parts ks) (round_text ks) (round-text ks)

shown-text : (ks : Kinds) → Writes (shown ks) (64 ∷ (round_text ks ++ []))
shown-text ks = writes-join (led ks) (expression_end ∷ []) (64 ∷ round_text ks) [] (led-text ks) (writes-piece k.ExpressionEnd [])

braces-text : (ps : Parts) (text : List ℕ) → Writes ps text → Writes (in_block ps) (block_text text)
braces-text ps text e = writes-join (parts.token (t.Sign s.OpenBrace) ∷ []) (ps ++ close_brace ∷ []) (123 ∷ 32 ∷ []) (text ++ 125 ∷ []) open-text (writes-join ps (close_brace ∷ []) text (125 ∷ []) e (writes-piece _ (125 ∷ [])))

quotes-text : (quote : Quote) (ps : Parts) (text : List ℕ) → Writes ps text → Writes (quoted quote ps) (quoted_text quote text)
quotes-text quote ps text e = then (k.ValueStart (Some quote)) (61 ∷ mark quote ∷ []) _ _ (writes-join ps _ text (mark quote ∷ []) e (writes-piece k.ValueEnd (mark quote ∷ [])))

-- attributes

mixed-text : (quote : Quote) (b : Bool) (ps : Parts) (text : List ℕ) → IsMixed quote b ps text → Writes ps text
mixed-text quote _ _ _ (v.no_part b) = parts_none
mixed-text quote _ _ _ (v.said text ps more all is) = writes-join (parts.said text ∷ []) ps _ _ (said-text text) (mixed-text quote true ps more is)
mixed-text quote _ _ _ (v.shown b ks ps more closed is) = writes-join (shown ks) ps _ _ (shown-text ks) (mixed-text quote false ps more is)

value-text : (holds : Holds) (ps : Parts) (text : List ℕ) → IsValue holds ps text → Writes ps text
value-text _ _ _ (a.as_given quote said e all) = supplied-text quote said e
value-text _ _ _ (a.mixed quote ps text is) = quotes-text quote ps text (mixed-text quote false ps text is)
value-text _ _ _ (a.led_by_at holds quote ks leads is) = quotes-text quote (led ks) _ (led-text ks)
value-text _ _ _ (a.code quote ks is free) = quotes-text quote (tokens ks) _ (tokens-text ks)
value-text _ _ _ (a.as_text quote said all) = quotes-text quote (parts.verbatim said ∷ []) said (verbatim-text said)

attribute-text : (component : Bool) (ps : Parts) (text : List ℕ) → IsAttribute component ps text → Writes ps text
attribute-text component _ _ (a.with_value name ps text is value) = then k.Space (32 ∷ []) _ _ (then (k.AttributeName name) name ps text (value-text _ ps text value))
attribute-text component _ _ (a.alone name is) = then k.Space (32 ∷ []) _ _ (then (k.AttributeName name) name [] [] parts_none)

attributes-text : (component : Bool) (ps : Parts) (text : List ℕ) → AreAttributes component ps text → Writes ps text
attributes-text component _ _ a.none = parts_none
attributes-text component _ _ (a.another ps qs text later is others) = writes-join ps qs text later (attribute-text component ps text is) (attributes-text component qs later others)

mutual
  pub item-text : (b left : Before) (ps : Parts) (text : List ℕ) → IsItem b left ps text → Writes ps text
  item-text _ _ _ _ (f.said b left text takes ends all last_is) = said-text text
  item-text _ _ _ _ (f.apart b) = apart-text
  item-text _ _ _ _ (f.shows b ks is) = shown-text ks
  item-text _ _ _ _ (f.tag b ps text is) = tag-text ps text is
  item-text _ _ _ _ (f.block b end ps text is) = then k.CodeAt (64 ∷ []) (in_block ps) (block_text text) (braces-text ps text (block-writes false _ ps text end is))
  item-text _ _ _ _ (f.headed b left word with_else goes_on ks ps text parted is code goes inner ends) =
      then k.CodeAt (64 ∷ []) _ _ (writes-join (tokens (t.Word word ∷ ks)) ps (code_text (t.Word word ∷ ks)) text (tokens-text (t.Word word ∷ ks)) (head-text with_else goes_on ps text inner))

  pub content-text : (b last : Before) (ps : Parts) (text : List ℕ) → IsContent b last ps text → Writes ps text
  content-text _ _ _ _ (f.nothing b) = parts_none
  content-text _ _ _ _ (f.item b left last ps qs text more is others) = writes-join ps qs text more (item-text b left ps text is) (content-text left last qs more others)

  tag-text : (ps : Parts) (text : List ℕ) → IsTag ps text → Writes ps text
  tag-text _ _ (f.empty name ps text is attributes) =
      writes-join (parts.piece (k.TagStart name) (60 ∷ name) ∷ ps) _ ((60 ∷ name) ++ text) (47 ∷ 62 ∷ []) (then (k.TagStart name) (60 ∷ name) ps text (attributes-text _ ps text attributes)) (writes-piece k.EmptyTagEnd (47 ∷ 62 ∷ []))
  tag-text _ _ (f.whole last name ps qs text inner is holds attributes content) =
      writes-join (parts.piece (k.TagStart name) (60 ∷ name) ∷ ps) _ ((60 ∷ name) ++ text) _ (then (k.TagStart name) (60 ∷ name) ps text (attributes-text _ ps text attributes))
      (then k.ContentStart (62 ∷ []) _ _ (writes-join qs _ inner _ (content-text _ last qs inner content) (then (k.EndTagStart name) (60 ∷ 47 ∷ name) _ (62 ∷ []) (writes-piece k.EndTagEnd (62 ∷ [])))))

  head-text : (with_else goes_on : Bool) (ps : Parts) (text : List ℕ) → InHead with_else goes_on ps text → Writes ps text
  head-text _ _ _ _ (f.body with_else end ps text is) = braces-text ps text (block-writes with_else _ ps text end is)
  head-text _ _ _ _ (f.code with_else behind goes_on ks ps text code goes inner) = writes-join (tokens ks) ps (code_text ks) text (tokens-text ks) (head-text behind goes_on ps text inner)
  head-text _ _ _ _ (f.otherwise goes_on end ps qs text more inner others) =
      writes-join (in_block ps) _ (block_text text) _ (braces-text ps text (block-writes true _ ps text end inner))
      (writes-join (tokens (t.Word w.Else ∷ [])) qs (code_text (t.Word w.Else ∷ [])) more (tokens-text (t.Word w.Else ∷ [])) (head-text false goes_on qs more others))

  pub block-writes : (with_else : Bool) (at : Point) (ps : Parts) (text : List ℕ) (end : Point) → InBlock with_else at ps text end → Writes ps text
  block-writes _ _ _ _ _ (f.done with_else at) = parts_none
  block-writes _ _ _ _ _ (f.run with_else at behind end ks ps text code goes others) = writes-join (tokens ks) ps (code_text ks) text (tokens-text ks) (block-writes with_else behind ps text end others)
  block-writes _ _ _ _ _ (f.markup with_else end ps qs text more is others) = writes-join ps qs text more (tag-text ps text is) (block-writes with_else _ qs more end others)
  block-writes _ _ _ _ _ (f.value with_else end ks ps text is others) = writes-join (shown ks) ps _ text (shown-text ks) (block-writes with_else _ ps text end others)
  block-writes _ _ _ _ _ (f.braces with_else at last end ps qs text more plain is others) =
      writes-join (in_block ps) qs (block_text text) more (braces-text ps text (block-writes false _ ps text last is)) (block-writes with_else _ qs more end others)

section-writes : (ks : Kinds) → Writes (section_of ks) (section_text ks)
section-writes ks = then k.MembersAt (codes "@code") _ _ (writes-join (in_block (tokens ks)) (expression_end ∷ []) (block_text (code_text ks)) [] (braces-text (tokens ks) (code_text ks) (tokens-text ks)) (writes-piece k.ExpressionEnd []))

pub file-text : (b last : Before) (ps : Parts) (text : List ℕ) → IsFile b last ps text → Writes ps text
file-text _ _ _ _ (l.nothing b) = parts_none
file-text _ _ _ _ (l.part b left last ps qs text more is others) = writes-join ps qs text more (item-text b left ps text is) (file-text left last qs more others)
file-text _ _ _ _ (l.section b last ks qs more apart is others) = writes-join (section_of ks) qs (section_text ks) more (section-writes ks) (file-text _ last qs more others)
