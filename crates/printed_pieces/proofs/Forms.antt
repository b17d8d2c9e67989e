-- The forms of printed content and of printed code with markup, with their texts.
use Rattle.std.proofs.Common.{◌≡◌, ℕ, Bool, true, false, List, [], ◌∷◌, ◌++◌}
use Rattle.std.specs.List.{list_all, flat_map}
use Rattle.cs_token.specs.declared.token.TokenKind.TheVariants as t
use Rattle.cs_token.specs.declared.token.Word.{Word}
use Rattle.cs_token.specs.declared.token.Word.TheVariants as w
use Rattle.cs_print.specs.Layout.{code_text}
use Rattle.cs_print.specs.Printed.{Kinds}
use Rattle.cs_print.proofs.CodeKinds.{IsCode}
use Rattle.razor_token.specs.declared.context.Context.{Context}
use Rattle.razor_token.specs.declared.context.Context.TheVariants as x
use Rattle.razor_token.specs.declared.context.Point.{Point}
use Rattle.razor_token.specs.declared.context.Point.TheVariants as point
use Rattle.razor_token.specs.declared.piece.PieceKind.TheVariants as k
use Rattle.razor_token.specs.declared.runs.RunKind.TheVariants as r
use Rattle.razor_token.specs.ContentFronts.{is_word}
use Rattle.razor_token.specs.Cutting.{last_of}
use Rattle.razor_token.specs.Tags.{is_component, is_void}
use Rattle.razor_print.specs.declared.before.Before.{Before}
use Rattle.razor_print.specs.declared.before.Before.TheVariants as bf
use Rattle.razor_print.specs.Parts.{Parts, tokens, shown, in_block, doubled}
use Rattle.razor_print.specs.Parts as parts
use Rattle.printed_pieces.specs.Names.{IsTagName}
use Rattle.printed_pieces.specs.Places.{is_said}
use Rattle.printed_pieces.proofs.GoesLaws.{Goes}
use Rattle.printed_pieces.proofs.ShownLaws.{IsClosed, round_text}
use Rattle.printed_pieces.proofs.AttributeLaws.{AreAttributes}
use Rattle.printed_pieces.proofs.BraceLaws.{is_with, block_text}

-- literal text may stand behind it
abbrev pub takes_text : Before → Bool
takes_text bf.Other = true
takes_text _ = false

-- the words that begin code with markup
pub data IsCodeWord : Word → Type 0 where
  if_word : IsCodeWord w.If
  switch_word : IsCodeWord w.Switch
  for_word : IsCodeWord w.For
  foreach_word : IsCodeWord w.Foreach
  while_word : IsCodeWord w.While

mutual
  -- IsItem b left ps text: the parts ps, written as this text, are one part of content behind b, and leave that behind them.
  pub data IsItem : Before → Before → Parts → List ℕ → Type 0 where
    said : (b left : Before) (text : List ℕ) → takes_text b ≡ true → takes_text left ≡ false → list_all (is_said r.Content) text ≡ true
        → ((front : List ℕ) → is_word (last_of (front ++ flat_map doubled text)) ≡ true → left ≡ bf.Word) → IsItem b left (parts.said text ∷ []) (flat_map doubled text)
    apart : (b : Before) → IsItem b bf.Other (parts.apart ∷ []) (64 ∷ 42 ∷ 42 ∷ 64 ∷ [])
    shows : (b : Before) (ks : Kinds) → IsClosed ks → IsItem b bf.Other (shown ks) (64 ∷ (round_text ks ++ []))
    tag : (b : Before) (ps : Parts) (text : List ℕ) → IsTag ps text → IsItem b bf.Other ps text
    block : (b : Before) (end : Point) (ps : Parts) (text : List ℕ) → InBlock false point.Begins ps text end → IsItem b bf.Other (parts.piece k.CodeAt (64 ∷ []) ∷ in_block ps) (64 ∷ block_text text)
    headed : (b left : Before) (word : Word) (with_else goes_on : Bool) (ks : Kinds) (ps : Parts) (text : List ℕ) → (b ≡ bf.Word → ⊥) → IsCodeWord word
        → IsCode (t.Word word ∷ ks) → ((cs : List Context) → Goes (x.Head false ∷ cs) [] (t.Word word ∷ ks) (x.Head with_else ∷ cs) [])
        → InHead with_else goes_on ps text → (goes_on ≡ true → takes_text left ≡ false)
        → IsItem b left (parts.piece k.CodeAt (64 ∷ []) ∷ (tokens (t.Word word ∷ ks) ++ ps)) (64 ∷ (code_text (t.Word word ∷ ks) ++ text))

  -- parts of content one behind another, the first behind b; last is left behind them
  pub data IsContent : Before → Before → Parts → List ℕ → Type 0 where
    nothing : (b : Before) → IsContent b b [] []
    item : (b left last : Before) (ps qs : Parts) (text more : List ℕ) → IsItem b left ps text → IsContent left last qs more → IsContent b last (ps ++ qs) (text ++ more)

  -- a tag, and its content
  pub data IsTag : Parts → List ℕ → Type 0 where
    empty : (name : List ℕ) (ps : Parts) (text : List ℕ) → IsTagName name → AreAttributes (is_component name) ps text
        → IsTag ((parts.piece (k.TagStart name) (60 ∷ name) ∷ ps) ++ parts.piece k.EmptyTagEnd (47 ∷ 62 ∷ []) ∷ []) (((60 ∷ name) ++ text) ++ 47 ∷ 62 ∷ [])
    whole : (last : Before) (name : List ℕ) (ps qs : Parts) (text inner : List ℕ) → IsTagName name → is_void name ≡ false → AreAttributes (is_component name) ps text
        → IsContent bf.Other last qs inner
        → IsTag ((parts.piece (k.TagStart name) (60 ∷ name) ∷ ps) ++ (parts.piece k.ContentStart (62 ∷ []) ∷ (qs ++ parts.piece (k.EndTagStart name) (60 ∷ 47 ∷ name) ∷ parts.piece k.EndTagEnd (62 ∷ []) ∷ [])))
        (((60 ∷ name) ++ text) ++ ((62 ∷ []) ++ (inner ++ ((60 ∷ 47 ∷ name) ++ 62 ∷ []))))

  -- InHead with_else goes_on ps text: code before its block, and all behind it; whether the word `else` could go on with it.
  pub data InHead : Bool → Bool → Parts → List ℕ → Type 0 where
    body : (with_else : Bool) (end : Point) (ps : Parts) (text : List ℕ) → InBlock with_else point.Begins ps text end → InHead with_else with_else (in_block ps) (block_text text)
    code : (with_else behind goes_on : Bool) (ks : Kinds) (ps : Parts) (text : List ℕ) → IsCode ks → ((cs : List Context) → Goes (x.Head with_else ∷ cs) [] ks (x.Head behind ∷ cs) [])
        → InHead behind goes_on ps text → InHead with_else goes_on (tokens ks ++ ps) (code_text ks ++ text)
    otherwise : (goes_on : Bool) (end : Point) (ps qs : Parts) (text more : List ℕ) → InBlock true point.Begins ps text end → InHead false goes_on qs more
        → InHead true goes_on (in_block ps ++ (tokens (t.Word w.Else ∷ []) ++ qs)) (block_text text ++ (code_text (t.Word w.Else ∷ []) ++ more))

  -- InBlock with_else at ps text end: parts of a block one behind another, from one point of a statement to another
  pub data InBlock : Bool → Point → Parts → List ℕ → Point → Type 0 where
    done : (with_else : Bool) (at : Point) → InBlock with_else at [] [] at
    run : (with_else : Bool) (at behind end : Point) (ks : Kinds) (ps : Parts) (text : List ℕ) → IsCode ks → ((cs : List Context) → Goes (x.Block at with_else ∷ cs) [] ks (x.Block behind with_else ∷ cs) [])
        → InBlock with_else behind ps text end → InBlock with_else at (tokens ks ++ ps) (code_text ks ++ text) end
    markup : (with_else : Bool) (end : Point) (ps qs : Parts) (text more : List ℕ) → IsTag ps text → InBlock with_else point.Begins qs more end → InBlock with_else point.Begins (ps ++ qs) (text ++ more) end
    value : (with_else : Bool) (end : Point) (ks : Kinds) (ps : Parts) (text : List ℕ) → IsClosed ks → InBlock with_else point.Begins ps text end
        → InBlock with_else point.Begins (shown ks ++ ps) ((64 ∷ (round_text ks ++ [])) ++ text) end
    braces : (with_else : Bool) (at last end : Point) (ps qs : Parts) (text more : List ℕ) → is_with at ≡ false → InBlock false point.Begins ps text last → InBlock with_else point.Begins qs more end
        → InBlock with_else at (in_block ps ++ qs) (block_text text ++ more) end
