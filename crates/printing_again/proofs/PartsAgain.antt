-- Literal text mixed with expressions is spelled again.
use Rattle.std.proofs.Common.{◌≡◌, ℕ, Bool, true, false, List, [], ◌∷◌, ◌++◌, None, refl, ap, ◌∙◌, subst, append_assoc}
use Rattle.std.specs.List.{flat_map}
use Rattle.std.proofs.lemmas.Bool.{false≢true}
use Rattle.razor_token.specs.declared.piece.Piece.{Piece}
use Rattle.razor_token.specs.declared.piece.PieceKind.{PieceKind}
use Rattle.razor_token.specs.declared.piece.PieceKind.TheVariants as k
use Rattle.razor_token.specs.declared.piece.Quote.{Quote}
use Rattle.razor_ast.specs.declared.attribute.ValuePart.{ValuePart}
use Rattle.razor_ast.specs.declared.attribute.ValuePart.TheVariants as vp
use Rattle.razor_ast.specs.Attributes as ga
use Rattle.razor_ast.specs.Literals.{literal_of, with_literal, literal_run}
use Rattle.razor_ast.specs.Pieces.{IsKind}
use Rattle.razor_print.specs.Attributes.{value_part}
use Rattle.razor_print.specs.Parts.{Parts}
use Rattle.razor_print.specs.Parts as parts
use Rattle.cs_print.specs.Printed.{whole, printed}
use Rattle.printed_pieces.specs.Meant.{Says, Mean}
use Rattle.printed_pieces.specs.Meant as m
use Rattle.printed_pieces.specs.Printable.{AreParts}
use Rattle.printed_pieces.specs.Printable as pr
use Rattle.printing_again.specs.Again.{AlikeParts}
use Rattle.printing_again.specs.Again as ag
use Rattle.printing_again.proofs.MeantLaws.{first-piece}
use Rattle.printing_again.proofs.ShownAgain.{shown_again}

-- literal text, and what is behind it
pub record Said (text : List ℕ) (later : Parts) (ps : List Piece) : Type 0 where
  pub us : List Piece
  pub rest : List Piece
  pub split : us ++ rest ≡ ps
  pub says : Says text us
  pub mean : Mean later rest

pub first-said : (text : List ℕ) (later : Parts) (ps : List Piece) → Mean (parts.said text ∷ later) ps → Said text later ps
first-said _ _ _ (m.said text later us ps says mean) = record { us = us; rest = ps; split = refl; says = says; mean = mean }

pub first-verbatim : (text : List ℕ) (later : Parts) (ps : List Piece) → Mean (parts.verbatim text ∷ later) ps → Said text later ps
first-verbatim _ _ _ (m.verbatim text later us ps says mean) = record { us = us; rest = ps; split = refl; says = says; mean = mean }

-- no literal piece stands first
pub stops : (kind : PieceKind) (p : Piece) (ps : List Piece) → IsKind kind p → literal_of kind ≡ None → literal_run (p ∷ ps) ≡ ([], p ∷ ps)
stops kind p ps is none = ap (λ z. with_literal z p ps (literal_run ps)) (ap literal_of is ∙ none)

-- what literal pieces say before such a piece
pub run-says : (text : List ℕ) (us rest : List Piece) → Says text us → literal_run rest ≡ ([], rest) → literal_run (us ++ rest) ≡ (text, rest)
run-says _ _ rest m.nothing ends = ends
run-says _ _ rest (m.more x text p ps is says) ends =
    let later = run-says text ps rest says ends in
    ap (λ z. with_literal z p (ps ++ rest) (literal_run (ps ++ rest))) (ap literal_of is) ∙ ap (λ (z : List ℕ × List Piece). (x ++ z.0, z.1)) later

-- text that isn't empty begins with a literal piece
record Begun (us : List Piece) : Type 0 where
  x : List ℕ
  p : Piece
  others : List Piece
  split : p ∷ others ≡ us
  is : IsKind (k.Literal x) p

begun : (c : ℕ) (rest text : List ℕ) (us : List Piece) → text ≡ c ∷ rest → Says text us → Begun us
begun c rest _ _ e m.nothing = absurd (cc)
begun c rest _ _ e (m.more x text p ps is says) = record { x = x; p = p; others = ps; split = refl; is = is }

-- values up to their ends
pub record PartsAgain (xs : List ValuePart) (later : Parts) (ps : List Piece) : Type 0 where
  pub rest : List Piece
  pub others : List ValuePart
  pub spelled : ga.Parts ps rest others
  pub alike : AlikeParts xs others
  pub mean : Mean later rest

-- behind literal text no literal piece stands
ends-text : (quote : Quote) (b : Bool) (xs : List ValuePart) (end : List ℕ) (later : Parts) (ps : List Piece) → b ≡ true → AreParts quote b xs → Mean (flat_map value_part xs ++ parts.piece k.ValueEnd end ∷ later) ps
    → literal_run ps ≡ ([], ps)
ends-text quote _ _ end later ps e (pr.no_part b) mean =
    let x = first-piece k.ValueEnd end later ps mean in
    subst (λ z. literal_run z ≡ ([], z)) x.split (stops k.ValueEnd x.p x.rest x.is refl)
ends-text quote _ _ end later ps e (pr.literal c text xs all more) mean = absurd (false≢true e)
ends-text quote _ _ end later ps e (pr.shown b a xs is more) mean =
    let x = first-piece k.At (64 ∷ []) _ ps mean in
    subst (λ z. literal_run z ≡ ([], z)) x.split (stops k.At x.p x.rest x.is refl)

pub parts_again : (quote : Quote) (b : Bool) (xs : List ValuePart) (end : List ℕ) (later : Parts) (ps : List Piece) → AreParts quote b xs → Mean (flat_map value_part xs ++ parts.piece k.ValueEnd end ∷ later) ps → PartsAgain xs later ps
parts_again quote _ _ end later ps (pr.no_part b) mean =
    let x = first-piece k.ValueEnd end later ps mean in
    record { rest = x.rest; others = []; spelled = subst (λ z. ga.Parts z x.rest []) x.split (ga.no_part x.p x.rest x.is); alike = ag.none; mean = x.mean }
parts_again quote _ _ end later ps (pr.literal c text xs all more) mean =
    let x = first-said (c ∷ text) (flat_map value_part xs ++ parts.piece k.ValueEnd end ∷ later) ps mean in
    let found = parts_again quote true xs end later x.rest more x.mean in
    let first = begun c text (c ∷ text) x.us refl x.says in
    let run = run-says (c ∷ text) x.us x.rest x.says (ends-text quote true xs end later x.rest refl more x.mean) in
    let whole_split : first.p ∷ (first.others ++ x.rest) ≡ ps = ap (λ z. z ++ x.rest) first.split ∙ x.split in
    let run_here : literal_run (first.p ∷ (first.others ++ x.rest)) ≡ (c ∷ text, x.rest) = ap (λ z. literal_run (z ++ x.rest)) first.split ∙ run in
    record {
      rest = found.rest;
      others = vp.Literal (c ∷ text) ∷ found.others;
      spelled = subst (λ z. ga.Parts z found.rest (vp.Literal (c ∷ text) ∷ found.others)) whole_split
          (ga.literal first.x (c ∷ text) first.p (first.others ++ x.rest) x.rest found.rest found.others first.is run_here found.spelled);
      alike = ag.literal (c ∷ text) xs found.others found.alike;
      mean = found.mean;
    }
parts_again quote _ _ end later ps (pr.shown b a xs is more) mean =
    let x = shown_again a (flat_map value_part xs ++ parts.piece k.ValueEnd end ∷ later) ps is
    (subst (λ z. Mean z ps) (append_assoc (parts.shown (whole (printed a))) (flat_map value_part xs) (parts.piece k.ValueEnd end ∷ later)) mean) in
    let found = parts_again quote false xs end later x.rest more x.mean in
    record {
      rest = found.rest;
      others = vp.Shown x.other ∷ found.others;
      spelled = ga.shown ps x.rest found.rest x.other found.others x.spelled found.spelled;
      alike = ag.shown a x.other xs found.others x.alike found.alike;
      mean = found.mean;
    }
