-- Labels are spelled again.
use Rattle.std.proofs.Common.{◌≡◌, true, not, List, [], ◌∷◌, ◌++◌, refl, sym, ap, ◌∙◌, subst, append_assoc}
use Rattle.std.specs.List.{list_all}
use Rattle.cs_ast.specs.declared.expression.Label.{Label}
use Rattle.cs_token.specs.declared.token.Token.{Token}
use Rattle.cs_token.specs.declared.token.Sign.TheVariants as s
use Rattle.cs_grammar.specs.Statements.{Constant, Labelled, Labels, defaults}
use Rattle.cs_grammar.specs.Statements as g
use Rattle.cs_grammar.specs.Tokens.{IsSign}
use Rattle.cs_print.specs.Alike.{AlikeLabels, Each}
use Rattle.cs_print.proofs.LabelsAgain.{labels_kinds, labels, defaults_alike}
use Rattle.razor_token.specs.declared.piece.Piece.{Piece}
use Rattle.razor_ast.specs.Pieces.{codes_of}
use Rattle.razor_ast.specs.Statements.{IsLabel, SomeLabels, is_colon}
use Rattle.razor_ast.specs.Statements as gs
use Rattle.razor_print.specs.Parts.{Parts, tokens}
use Rattle.printed_pieces.specs.Meant.{Mean}
use Rattle.printed_pieces.specs.Written.{IsWritten}
use Rattle.printed_pieces.proofs.WrittenCode.{proper}
use Rattle.printing_again.proofs.MeantLaws.{first-tokens}
use Rattle.printing_nodes.proofs.LineLaws.{codes-join}

abbrev NoColon : List Token → Type 0
NoColon ts = list_all (λ u. not (is_colon u.kind)) ts ≡ true

-- the tokens of a constant, whatever is behind them
record Fixed (ts end : List Token) (a : Label) : Type 0 where
  front : List Token
  split : front ++ end ≡ ts
  plain : NoColon front
  again : (others : List Token) → Constant (front ++ others) others a

fixed : (ts end : List Token) (a : Label) → Constant ts end a → Fixed ts end a
fixed _ _ _ (g.number n t end is) = record { front = t ∷ []; split = refl; plain = rw is refl; again = λ others. g.number n t others is }
fixed _ _ _ (g.minus n t u end is has) = record { front = t ∷ u ∷ []; split = refl; plain = rw (is, has) refl; again = λ others. g.minus n t u others is has }
fixed _ _ _ (g.text x t end is) = record { front = t ∷ []; split = refl; plain = rw is refl; again = λ others. g.text x t others is }
fixed _ _ _ (g.yes t end is) = record { front = t ∷ []; split = refl; plain = rw is refl; again = λ others. g.yes t others is }
fixed _ _ _ (g.no t end is) = record { front = t ∷ []; split = refl; plain = rw is refl; again = λ others. g.no t others is }
fixed _ _ _ (g.null t end is) = record { front = t ∷ []; split = refl; plain = rw is refl; again = λ others. g.null t others is }

-- the tokens of a label
record Marked (ts rest : List Token) (a : Label) : Type 0 where
  front : List Token
  c : Token
  split : (front ++ c ∷ []) ++ rest ≡ ts
  plain : NoColon front
  colon : IsSign s.Colon c
  again : Labelled (front ++ c ∷ []) [] a

marked : (ts rest : List Token) (a : Label) → Labelled ts rest a → Marked ts rest a
marked _ _ _ (g.case_of t c ts rest a is constant colon) =
    let x = fixed ts (c ∷ rest) a constant in
    record {
      front = t ∷ x.front;
      c = c;
      split = ap (λ z. t ∷ z) (append_assoc x.front (c ∷ []) rest ∙ x.split);
      plain = rw is x.plain;
      colon = colon;
      again = g.case_of t c (x.front ++ c ∷ []) [] a is (x.again (c ∷ [])) colon;
    }
marked _ _ _ (g.default t c rest is colon) = record { front = t ∷ []; c = c; split = refl; plain = rw is refl; colon = colon; again = g.default t c [] is colon }

label-pieces : (ts rest : List Token) (a : Label) (ps : List Piece) → Labelled ts rest a → IsLabel (codes_of ts ++ ps) (codes_of rest ++ ps) a
label-pieces ts rest a ps h =
    let x = marked ts rest a h in
    let whole : codes_of (x.front ++ x.c ∷ []) ++ (codes_of rest ++ ps) ≡ codes_of ts ++ ps =
    sym (append_assoc (codes_of (x.front ++ x.c ∷ [])) (codes_of rest) ps) ∙ ap (λ z. z ++ ps) (sym (codes-join (x.front ++ x.c ∷ []) rest) ∙ ap codes_of x.split) in
    subst (λ z. IsLabel z (codes_of rest ++ ps) a) whole (gs.label x.front x.c (codes_of rest ++ ps) a x.plain x.colon x.again)

label-list : (ts rest : List Token) (all : List Label) (ps : List Piece) → Labels ts rest all → SomeLabels (codes_of ts ++ ps) (codes_of rest ++ ps) all
label-list _ _ _ ps (g.Labels.one ts rest a h) = gs.SomeLabels.one _ _ a (label-pieces ts rest a ps h)
label-list _ _ _ ps (g.Labels.more ts us rest a others h later) = gs.SomeLabels.more _ _ _ a others (label-pieces ts us a ps h) (label-list us rest others ps later)

-- labels, and what is behind them
pub record MarksAgain (all : List Label) (later : Parts) (us : List Piece) : Type 0 where
  pub rest : List Piece
  pub others : List Label
  pub spelled : SomeLabels us rest others
  pub alike : Each AlikeLabels all others
  pub same : defaults all ≡ defaults others
  pub mean : Mean later rest

pub marks_again : (all : List Label) (later : Parts) (us : List Piece) → IsWritten (λ ts x. Labels ts [] x) all → Mean (tokens (labels_kinds all) ++ later) us → MarksAgain all later us
marks_again all later us h mean =
    let x = first-tokens (labels_kinds all) later us mean in
    let y = (labels h.tokens [] all h.tree (proper h.tokens h.proper)).again.reads x.ts [] x.are in
    record {
      rest = x.rest;
      others = y.others;
      spelled = subst (λ z. SomeLabels z x.rest y.others) x.split (label-list x.ts [] y.others x.rest y.spelled);
      alike = y.alike;
      same = defaults_alike all y.others y.alike;
      mean = x.mean;
    }
