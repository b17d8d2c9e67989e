-- Content and code with markup are cut as meant.
use Rattle.std.proofs.Common.{◌≡◌, ℕ, Bool, true, false, List, [], ◌∷◌, ◌++◌, Some, None, refl, sym, ap, ◌∙◌, subst, append_assoc}
use Rattle.std.specs.declared.option.Option.{Option}
use Rattle.std.specs.Prelude.{◌&&◌}
use Rattle.std.proofs.lemmas.Bool.{false≢true}
use Rattle.cs_token.specs.declared.token.TokenKind.TheVariants as t
use Rattle.cs_token.specs.declared.token.Word.{Word}
use Rattle.cs_token.specs.declared.token.Word.TheVariants as w
use Rattle.cs_token.specs.Reading.Runs.{strip}
use Rattle.cs_token.specs.Words.{spelling}
use Rattle.cs_print.specs.Layout.{token_text, gap_behind, code_text}
use Rattle.cs_print.specs.Printed.{Kinds}
use Rattle.cs_print.proofs.CodeKinds as c
use Rattle.razor_token.specs.declared.context.Context.{Context}
use Rattle.razor_token.specs.declared.context.Context.TheVariants as x
use Rattle.razor_token.specs.declared.context.Point.{Point}
use Rattle.razor_token.specs.declared.context.Point.TheVariants as point
use Rattle.razor_token.specs.declared.piece.PieceKind.TheVariants as k
use Rattle.razor_token.specs.declared.runs.RunKind.TheVariants as r
use Rattle.razor_token.specs.BlockFronts.{else_follows, end_change}
use Rattle.razor_token.specs.ContentFronts.{is_word, content_at, at_sign, transition_at}
use Rattle.razor_token.specs.Contexts.{stays, leaves, enters, becomes}
use Rattle.razor_token.specs.Cutting.{last_of}
use Rattle.razor_token.specs.Pieces.{piece}
use Rattle.razor_token.specs.Tags.{is_component, is_void}
use Rattle.razor_print.specs.declared.before.Before.{Before}
use Rattle.razor_print.specs.declared.before.Before.TheVariants as bf
use Rattle.razor_print.specs.Parts.{Parts, tokens, shown, in_block, doubled}
use Rattle.razor_print.specs.Parts as parts
use Rattle.printed_pieces.specs.Meant as m
use Rattle.printed_pieces.specs.Cut.{Stand}
use Rattle.printed_pieces.specs.Places.{IsContentPlace, top, element, EndsContent, tag_sign}
use Rattle.printed_pieces.proofs.WalkLaws.{stand-join, stand-piece, stand-nothing, step-found, lays-none}
use Rattle.printed_pieces.proofs.FrontLaws.{head}
use Rattle.printed_pieces.proofs.GoesLaws.{Goes, stop, token, stand-code}
use Rattle.printed_pieces.proofs.LiteralLaws.{stand-said}
use Rattle.printed_pieces.proofs.LiteralPlaces.{literals-content}
use Rattle.printed_pieces.proofs.ShownLaws.{round_text, stand-shown, shows-content, shows-block}
use Rattle.printed_pieces.proofs.AttributeLaws.{slash, greater}
use Rattle.printed_pieces.proofs.TagLaws.{Tags, tags-content, tags-block, stand-front, stand-empty, stand-start, stand-end}
use Rattle.printed_pieces.proofs.BraceLaws.{block_text, stand-body, stand-inner}
use Rattle.printed_pieces.proofs.Forms.{takes_text, IsCodeWord, IsItem, IsContent, IsTag, InHead, InBlock}
use Rattle.printed_pieces.proofs.Forms as f
use Rattle.printed_pieces.proofs.EndLaws.{ends_plain, plain-last, ends-run, ends-no-else, content-begins, item-last}

and-false : (b : Bool) → (b && false) ≡ false
and-false true = refl
and-false false = refl

-- a comment

apart-found : (context : Option Context) (last : Option ℕ) (rest : List ℕ) → content_at context last (64 ∷ 42 ∷ 42 ∷ 64 ∷ rest) ≡ piece k.Comment 4 stays
unfolding content_at at_sign strip
apart-found context last rest = refl

stand-apart : (cs : List Context) (before rest : List ℕ) → IsContentPlace cs → Stand cs before (parts.apart ∷ []) (64 ∷ 42 ∷ 42 ∷ 64 ∷ []) rest cs
stand-apart _ before rest top = lays-none _ _ k.Comment (parts.apart ∷ []) (step-found [] [] before (64 ∷ 42 ∷ 42 ∷ 64 ∷ []) rest k.Comment stays (apart-found None (last_of before) rest) refl) refl (m.apart [] [] m.no_part)
stand-apart _ before rest (element cs) =
    lays-none _ _ k.Comment (parts.apart ∷ []) (step-found (x.Element ∷ cs) [] before (64 ∷ 42 ∷ 42 ∷ 64 ∷ []) rest k.Comment stays (apart-found (Some x.Element) (last_of before) rest) refl) refl (m.apart [] [] m.no_part)

-- an at sign before code

block-at : (context : Option Context) (last : Option ℕ) (rest : List ℕ) → content_at context last (64 ∷ 123 ∷ rest) ≡ piece k.CodeAt 1 (enters (x.Head false))
unfolding content_at at_sign transition_at strip
block-at context last rest = rw (and-false (is_word last)) refl

word-at : (context : Option Context) (last : Option ℕ) (word : Word) (ks : Kinds) (rest : List ℕ) → IsCodeWord word → is_word last ≡ false
    → content_at context last (64 ∷ (code_text (t.Word word ∷ ks) ++ rest)) ≡ piece k.CodeAt 1 (enters (x.Head false))
unfolding content_at at_sign transition_at strip code_text token_text gap_behind spelling
word-at context last _ ks rest f.if_word e = rw e refl
word-at context last _ ks rest f.switch_word e = rw e refl
word-at context last _ ks rest f.for_word e = rw e refl
word-at context last _ ks rest f.foreach_word e = rw e refl
word-at context last _ ks rest f.while_word e = rw e refl

stand-at : (cs : List Context) (before rest : List ℕ) → IsContentPlace cs → ((context : Option Context) → content_at context (last_of before) (64 ∷ rest) ≡ piece k.CodeAt 1 (enters (x.Head false)))
    → Stand cs before (parts.piece k.CodeAt (64 ∷ []) ∷ []) (64 ∷ []) rest (x.Head false ∷ cs)
stand-at _ before rest top found = stand-piece [] before (64 ∷ []) rest k.CodeAt (enters (x.Head false)) (found None) refl refl refl
stand-at _ before rest (element cs) found = stand-piece (x.Element ∷ cs) before (64 ∷ []) rest k.CodeAt (enters (x.Head false)) (found (Some x.Element)) refl refl refl

-- `else`

else-code : (cs : List Context) → Goes (x.Head false ∷ cs) [] (t.Word w.Else ∷ []) (x.Head false ∷ cs) []
else-code cs = token (x.Head false) cs (x.Head false ∷ cs) [] [] (t.Word w.Else) [] (head false) refl (stop (x.Head false) cs [] (head false))

else-goes : (rest : List ℕ) → else_follows (code_text (t.Word w.Else ∷ []) ++ rest) ≡ true
unfolding code_text token_text gap_behind spelling strip
else-goes rest = refl

goes-on : (rest : List ℕ) → else_follows rest ≡ true → end_change true rest ≡ becomes (x.Head false)
goes-on rest e = rw e refl

no-more : (with_else : Bool) (rest : List ℕ) → (with_else ≡ true → else_follows rest ≡ false) → end_change with_else rest ≡ leaves
no-more true rest e = rw (e refl) refl
no-more false rest e = refl

pub not-word : (b : Before) (value : Bool) → (value ≡ true → b ≡ bf.Word) → (b ≡ bf.Word → ⊥) → value ≡ false
not-word b true e other = absurd (other (e refl))
not-word b false e other = refl

greater-last : (before : List ℕ) → is_word (last_of (before ++ 62 ∷ [])) ≡ false
greater-last before = plain-last before (62 ∷ []) (ends_plain [] 62 refl)

mutual
  pub stand-item : (b left : Before) (ps : Parts) (text : List ℕ) → IsItem b left ps text → (cs : List Context) → IsContentPlace cs → (before rest : List ℕ) → (is_word (last_of before) ≡ true → b ≡ bf.Word)
      → (takes_text left ≡ false → EndsContent rest) → Stand cs before ps text rest cs
  stand-item _ _ _ _ (f.said b left text takes ends all last_is) cs place before rest word stops = stand-said r.Content cs before text rest (literals-content cs place) all (ends-run rest (stops ends))
  stand-item _ _ _ _ (f.apart b) cs place before rest word stops = stand-apart cs before rest place
  stand-item _ _ _ _ (f.shows b ks is) cs place before rest word stops = stand-shown cs before rest ks (shows-content cs place) is
  stand-item _ _ _ _ (f.tag b ps text is) cs place before rest word stops = stand-tag ps text is cs (tags-content cs place) before rest
  stand-item _ _ _ _ (f.block b end ps text is) cs place before rest word stops =
      stand-join cs (x.Head false ∷ cs) cs before (parts.piece k.CodeAt (64 ∷ []) ∷ []) (in_block ps) (64 ∷ []) (block_text text) rest
      (stand-at cs before (block_text text ++ rest) place (λ context. block-at context (last_of before) _))
      (stand-body cs cs (before ++ 64 ∷ []) rest end false ps text leaves (λ front. stand-block false point.Begins ps text end is cs front (125 ∷ rest)) refl refl)
  stand-item _ _ _ _ (f.headed b left word with_else goes_on ks ps text parted is code goes inner ends) cs place before rest word_before stops =
      stand-join cs (x.Head false ∷ cs) cs before (parts.piece k.CodeAt (64 ∷ []) ∷ []) (tokens (t.Word word ∷ ks) ++ ps) (64 ∷ []) (code_text (t.Word word ∷ ks) ++ text) rest
      (stand-at cs before ((code_text (t.Word word ∷ ks) ++ text) ++ rest) place (λ context. found context))
      (stand-join (x.Head false ∷ cs) (x.Head with_else ∷ cs) cs (before ++ 64 ∷ []) (tokens (t.Word word ∷ ks)) ps (code_text (t.Word word ∷ ks)) text rest
      (stand-code (x.Head false ∷ cs) (x.Head with_else ∷ cs) (before ++ 64 ∷ []) (text ++ rest) (t.Word word ∷ ks) code (goes cs))
      (stand-head with_else goes_on ps text inner cs ((before ++ 64 ∷ []) ++ code_text (t.Word word ∷ ks)) rest (λ e. ends-no-else rest (stops (ends e)))))
    where
      found : (context : Option Context) → content_at context (last_of before) (64 ∷ ((code_text (t.Word word ∷ ks) ++ text) ++ rest)) ≡ piece k.CodeAt 1 (enters (x.Head false))
      found context =
          subst (λ z. content_at context (last_of before) (64 ∷ z) ≡ piece k.CodeAt 1 (enters (x.Head false))) (sym (append_assoc (code_text (t.Word word ∷ ks)) text rest))
          (word-at context (last_of before) word ks (text ++ rest) is (not-word b (is_word (last_of before)) word_before parted))

  pub stand-content : (b last : Before) (ps : Parts) (text : List ℕ) → IsContent b last ps text → (cs : List Context) → IsContentPlace cs → (before rest : List ℕ) → (is_word (last_of before) ≡ true → b ≡ bf.Word)
      → EndsContent rest → Stand cs before ps text rest cs
  stand-content _ _ _ _ (f.nothing b) cs place before rest word ends = stand-nothing cs before rest
  stand-content _ _ _ _ (f.item b left last ps qs text more is others) cs place before rest word ends =
      stand-join cs cs cs before ps qs text more rest
      (stand-item b left ps text is cs place before (more ++ rest) word (λ e. content-begins left last qs more rest e others ends))
      (stand-content left last qs more others cs place (before ++ text) rest (item-last b left ps text before is) ends)

  pub stand-tag : (ps : Parts) (text : List ℕ) → IsTag ps text → (cs : List Context) → Tags cs → (before rest : List ℕ) → Stand cs before ps text rest cs
  stand-tag _ _ (f.empty name ps text is attributes) cs tags before rest =
      let tag = x.StartTag (is_component name) (is_void name) ∷ cs in
      stand-join cs tag cs before (parts.piece (k.TagStart name) (60 ∷ name) ∷ ps) (parts.piece k.EmptyTagEnd (47 ∷ 62 ∷ []) ∷ []) ((60 ∷ name) ++ text) (47 ∷ 62 ∷ []) rest
      (stand-front cs before name text (47 ∷ 62 ∷ rest) ps tags is attributes (slash (62 ∷ rest)))
      (stand-empty (is_component name) (is_void name) cs (before ++ ((60 ∷ name) ++ text)) rest)
  stand-tag _ _ (f.whole last name ps qs text inner is holds attributes content) cs tags before rest =
      let tag = x.StartTag (is_component name) false ∷ cs in
      let front = (60 ∷ name) ++ text in
      let close = (60 ∷ 47 ∷ name) ++ 62 ∷ [] in
      let close_parts = parts.piece (k.EndTagStart name) (60 ∷ 47 ∷ name) ∷ parts.piece k.EndTagEnd (62 ∷ []) ∷ [] in
      stand-join cs tag cs before (parts.piece (k.TagStart name) (60 ∷ name) ∷ ps) (parts.piece k.ContentStart (62 ∷ []) ∷ (qs ++ close_parts)) front ((62 ∷ []) ++ (inner ++ close)) rest
      (subst (λ z. Stand cs before (parts.piece (k.TagStart name) (60 ∷ name) ∷ ps) front (((62 ∷ []) ++ (inner ++ close)) ++ rest) (x.StartTag (is_component name) z ∷ cs)) holds
      (stand-front cs before name text (((62 ∷ []) ++ (inner ++ close)) ++ rest) ps tags is attributes (greater _)))
      (stand-join tag (x.Element ∷ cs) cs (before ++ front) (parts.piece k.ContentStart (62 ∷ []) ∷ []) (qs ++ close_parts) (62 ∷ []) (inner ++ close) rest
      (stand-start (is_component name) cs (before ++ front) ((inner ++ close) ++ rest))
      (stand-join (x.Element ∷ cs) (x.Element ∷ cs) cs ((before ++ front) ++ 62 ∷ []) qs close_parts inner close rest
      (stand-content bf.Other last qs inner content (x.Element ∷ cs) (element cs) ((before ++ front) ++ 62 ∷ []) (close ++ rest) (λ e. absurd (false≢true (sym (greater-last (before ++ front)) ∙ e))) (tag_sign _))
      (stand-end cs (((before ++ front) ++ 62 ∷ []) ++ inner) name rest is)))

  pub stand-head : (with_else goes_on : Bool) (ps : Parts) (text : List ℕ) → InHead with_else goes_on ps text → (cs : List Context) → (before rest : List ℕ) → (goes_on ≡ true → else_follows rest ≡ false)
      → Stand (x.Head with_else ∷ cs) before ps text rest cs
  stand-head _ _ _ _ (f.body with_else end ps text is) cs before rest stops =
      stand-body cs cs before rest end with_else ps text leaves (λ front. stand-block with_else point.Begins ps text end is cs front (125 ∷ rest)) (no-more with_else rest stops) refl
  stand-head _ _ _ _ (f.code with_else behind goes_on ks ps text code goes inner) cs before rest stops =
      stand-join (x.Head with_else ∷ cs) (x.Head behind ∷ cs) cs before (tokens ks) ps (code_text ks) text rest
      (stand-code (x.Head with_else ∷ cs) (x.Head behind ∷ cs) before (text ++ rest) ks code (goes cs))
      (stand-head behind goes_on ps text inner cs (before ++ code_text ks) rest stops)
  stand-head _ _ _ _ (f.otherwise goes_on end ps qs text more inner others) cs before rest stops =
      let word = code_text (t.Word w.Else ∷ []) in
      let here = before ++ block_text text in
      stand-join (x.Head true ∷ cs) (x.Head false ∷ cs) cs before (in_block ps) (tokens (t.Word w.Else ∷ []) ++ qs) (block_text text) (word ++ more) rest
      (stand-body cs (x.Head false ∷ cs) before ((word ++ more) ++ rest) end true ps text (becomes (x.Head false)) (λ front. stand-block true point.Begins ps text end inner cs front (125 ∷ ((word ++ more) ++ rest)))
      (goes-on ((word ++ more) ++ rest) (ap else_follows (append_assoc word more rest) ∙ else-goes (more ++ rest))) refl)
      (stand-join (x.Head false ∷ cs) (x.Head false ∷ cs) cs here (tokens (t.Word w.Else ∷ [])) qs word more rest
      (stand-code (x.Head false ∷ cs) (x.Head false ∷ cs) here (more ++ rest) (t.Word w.Else ∷ []) (c.simple (t.Word w.Else) [] (c.word w.Else) c.none) (else-code cs))
      (stand-head false goes_on qs more others cs (here ++ word) rest stops))

  pub stand-block : (with_else : Bool) (at : Point) (ps : Parts) (text : List ℕ) (end : Point) → InBlock with_else at ps text end → (cs : List Context) → (before rest : List ℕ)
      → Stand (x.Block at with_else ∷ cs) before ps text rest (x.Block end with_else ∷ cs)
  stand-block _ _ _ _ _ (f.done with_else at) cs before rest = stand-nothing (x.Block at with_else ∷ cs) before rest
  stand-block _ _ _ _ _ (f.run with_else at behind end ks ps text code goes others) cs before rest =
      stand-join (x.Block at with_else ∷ cs) (x.Block behind with_else ∷ cs) (x.Block end with_else ∷ cs) before (tokens ks) ps (code_text ks) text rest
      (stand-code (x.Block at with_else ∷ cs) (x.Block behind with_else ∷ cs) before (text ++ rest) ks code (goes cs))
      (stand-block with_else behind ps text end others cs (before ++ code_text ks) rest)
  stand-block _ _ _ _ _ (f.markup with_else end ps qs text more is others) cs before rest =
      let here = x.Block point.Begins with_else ∷ cs in
      stand-join here here (x.Block end with_else ∷ cs) before ps qs text more rest
      (stand-tag ps text is here (tags-block with_else cs) before (more ++ rest))
      (stand-block with_else point.Begins qs more end others cs (before ++ text) rest)
  stand-block _ _ _ _ _ (f.value with_else end ks ps text is others) cs before rest =
      let here = x.Block point.Begins with_else ∷ cs in
      stand-join here here (x.Block end with_else ∷ cs) before (shown ks) ps (64 ∷ (round_text ks ++ [])) text rest
      (stand-shown here before (text ++ rest) ks (shows-block with_else cs) is)
      (stand-block with_else point.Begins ps text end others cs (before ++ 64 ∷ (round_text ks ++ [])) rest)
  stand-block _ _ _ _ _ (f.braces with_else at last end ps qs text more plain is others) cs before rest =
      let here = x.Block point.Begins with_else ∷ cs in
      stand-join (x.Block at with_else ∷ cs) here (x.Block end with_else ∷ cs) before (in_block ps) qs (block_text text) more rest
      (stand-inner cs before (more ++ rest) at last with_else ps text plain (λ front. stand-block false point.Begins ps text last is here front (125 ∷ (more ++ rest))))
      (stand-block with_else point.Begins qs more end others cs (before ++ block_text text) rest)
