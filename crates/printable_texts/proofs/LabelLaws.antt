-- Labels that stand in a text are written.
use Rattle.std.proofs.Common.{◌≡◌, false, List, [], ◌∷◌, ◌++◌, refl, sym, ap, ◌∙◌, subst, append-nil, append_assoc}
use Rattle.cs_ast.specs.declared.expression.Label.{Label}
use Rattle.cs_token.specs.declared.token.Token.{Token}
use Rattle.cs_grammar.specs.Statements.{Constant, Labelled, Labels}
use Rattle.cs_grammar.specs.Statements as g
use Rattle.razor_token.specs.declared.piece.Piece.{Piece}
use Rattle.razor_ast.specs.Statements.{IsLabel, SomeLabels}
use Rattle.razor_ast.specs.Statements as statements
use Rattle.printed_pieces.specs.Written.{is_part, begins_part, IsWritten}
use Rattle.printable_texts.specs.Stands.{Where, Stands}
use Rattle.printable_texts.proofs.TokenLaws.{codes_stand, proper_both}

-- which tokens stand before the rest, and that any others may stand behind them
record Over (P : List Token → List Token → Type 0) (ts rest : List Token) : Type 0 where
  pre : List Token
  whole : ts ≡ pre ++ rest
  any : (more : List Token) → P (pre ++ more) more

constant_over : (ts rest : List Token) (a : Label) → Constant ts rest a → Over (λ x y. Constant x y a) ts rest
constant_over _ rest _ (g.number n t _ e) = record { pre = t ∷ []; whole = refl; any = λ more. g.number n t more e }
constant_over _ rest _ (g.minus n t u _ d e) = record { pre = t ∷ u ∷ []; whole = refl; any = λ more. g.minus n t u more d e }
constant_over _ rest _ (g.text x t _ e) = record { pre = t ∷ []; whole = refl; any = λ more. g.text x t more e }
constant_over _ rest _ (g.yes t _ e) = record { pre = t ∷ []; whole = refl; any = λ more. g.yes t more e }
constant_over _ rest _ (g.no t _ e) = record { pre = t ∷ []; whole = refl; any = λ more. g.no t more e }
constant_over _ rest _ (g.null t _ e) = record { pre = t ∷ []; whole = refl; any = λ more. g.null t more e }

label_over : (ts rest : List Token) (a : Label) → Labelled ts rest a → Over (λ x y. Labelled x y a) ts rest
label_over _ rest a (g.case_of t c ts _ _ on h ends) =
    let inner = constant_over ts (c ∷ rest) a h in
    record {
      pre = t ∷ (inner.pre ++ c ∷ []);
      whole = ap (λ l. t ∷ l) (inner.whole ∙ sym (append_assoc inner.pre (c ∷ []) rest));
      any = λ more. g.case_of t c ((inner.pre ++ c ∷ []) ++ more) more a on (subst (λ l. Constant l (c ∷ more) a) (sym (append_assoc inner.pre (c ∷ []) more)) (inner.any (c ∷ more))) ends;
    }
label_over _ rest _ (g.default t c _ on ends) = record { pre = t ∷ c ∷ []; whole = refl; any = λ more. g.default t c more on ends }

-- a label before other tokens
label_before : (ts more : List Token) (a : Label) → Labelled ts [] a → Labelled (ts ++ more) more a
label_before ts more a h =
    let over = label_over ts [] a h in
    subst (λ l. Labelled (l ++ more) more a) (sym (over.whole ∙ append-nil over.pre)) (over.any more)

label_begins : (ts rest : List Token) (a : Label) → Labelled ts rest a → begins_part ts ≡ false
label_begins _ rest a (g.case_of t c ts _ _ on h ends) = ap is_part on
label_begins _ rest _ (g.default t c _ on ends) = ap is_part on

labels_begin : (ts rest : List Token) (labels : List Label) → Labels ts rest labels → begins_part ts ≡ false
labels_begin ts rest _ (g.one _ _ a h) = label_begins ts rest a h
labels_begin ts rest _ (g.more _ us _ a others h hs) = label_begins ts us a h

label_written : (place : Where) (ps rest : List Piece) (a : Label) → IsLabel ps rest a → Stands place ps → IsWritten (λ ts x. Labelled ts [] x) a × Stands place rest
label_written place _ rest a (statements.label ts c _ _ _ _ h) stands =
    let codes = codes_stand place (ts ++ c ∷ []) rest stands in (record { tokens = ts ++ c ∷ []; proper = codes.0; tree = h }, codes.1)

pub labels_written : (place : Where) (ps rest : List Piece) (labels : List Label) → SomeLabels ps rest labels → Stands place ps → IsWritten (λ ts x. Labels ts [] x) labels × Stands place rest
labels_written place ps rest _ (statements.one _ _ a h) stands =
    let first = label_written place ps rest a h stands in
    (record { tokens = first.0.tokens; proper = first.0.proper; tree = g.one first.0.tokens [] a first.0.tree }, first.1)
labels_written place ps rest _ (statements.more _ us _ a others h hs) stands =
    let first = label_written place ps us a h stands in
    let more = labels_written place us rest others hs first.1 in (
      record {
        tokens = first.0.tokens ++ more.0.tokens;
        proper = proper_both first.0.tokens more.0.tokens first.0.proper more.0.proper (labels_begin more.0.tokens [] others more.0.tree);
        tree = g.more (first.0.tokens ++ more.0.tokens) more.0.tokens [] a others (label_before first.0.tokens more.0.tokens a first.0.tree) more.0.tree;
      },
      more.1,
    )
