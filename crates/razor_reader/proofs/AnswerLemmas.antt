-- From pieces to what reading a file answers.
use Rattle.std.proofs.Common.{◌≡◌, ℕ, List, [], ◌∷◌, refl, sym, ap, ◌∙◌, subst}
use Rattle.std.specs.Prelude.{true, Option, Some, None}
use Rattle.text_core.specs.declared.place.Place.{Place}
use Rattle.razor_token.specs.Answers.{IsUncut}
use Rattle.razor_token.specs.Cutting.{Cuts}
use Rattle.razor_token.specs.declared.piece.Piece.{Piece}
use Rattle.razor_token.proofs.CutLemmas.{one_cutting, cut-cover}
use Rattle.razor_ast.specs.Components.{Whole, Spells, SpellsFile}
use Rattle.razor_ast.specs.declared.component.Component.{Component}
use Rattle.razor_ast.specs.FileTexts.{stem, text_read}
use Rattle.razor_ast.specs.Nesting.{too_deep, too_deep_from, open_at}
use Rattle.razor_ast.specs.Pieces.{counted}
use Rattle.razor_reader.specs.declared.whole.Parts.{Parts}
use Rattle.razor_reader.specs.Answers.{IsFlat, NestsTooDeep}
use Rattle.razor_reader.specs.PieceAnswers.{Kept}
use Rattle.razor_reader.specs.WholeReading.{parts}
use Rattle.razor_reader.proofs.FileLemmas.{same_around}
use Rattle.razor_reader.proofs.WholeSound.{parts_sound}

-- pieces that are cut and measured
pub kept_of : (text : List ℕ) (pieces kept : List Piece) → Cuts text pieces → None ≡ too_deep_from [] pieces → kept ≡ counted pieces → Kept text kept
unfolding too_deep
kept_of text pieces kept c e f = record {
  pieces = pieces;
  cut = c;
  flat = sym e;
  counts = f;
  around = same_around text pieces (cut-cover text pieces c) ∙ ap open_at (sym f);
}

pub deep_of : (text : List ℕ) (pieces : List Piece) (place : Place) → Cuts text pieces → Some place ≡ too_deep_from [] pieces → NestsTooDeep text place
unfolding too_deep
deep_of text pieces place c e = (pieces, c, sym e)

pub flat_of : (text : List ℕ) (place : Place) → IsUncut text place → IsFlat text
flat_of text place h = λ pieces c. absurd (h.uncut pieces c)

-- one cutting that is flat is all of them
pub kept_flat : (text : List ℕ) (kept : List Piece) → Kept text kept → IsFlat text
kept_flat text kept h = λ pieces c. ap too_deep (one_cutting text pieces h.pieces c h.cut) ∙ h.flat

-- what was read of them is spelled by the file
pub file_of : (name text : List ℕ) (kept : List Piece) (found : Parts) (component : Component) → Kept (text_read text) kept → parts kept ≡ Some found →
    component.name ≡ stem name → component.disposes ≡ found.disposes → component.members ≡ found.members → component.nodes ≡ found.nodes → SpellsFile name text component
file_of name text kept found component h e named d m n = record {
  named = named;
  spelled = record {
    pieces = h.pieces;
    cut = h.cut;
    spelled =
        subst (λ (around : Piece → List ℕ). Whole around true 0 (counted h.pieces) component.disposes component.members component.nodes) (sym h.around)
        (subst (λ (ps : List Piece). Whole (open_at kept) true 0 ps component.disposes component.members component.nodes) h.counts
        (subst (λ (b : _). Whole (open_at kept) true 0 kept b component.members component.nodes) (sym d)
        (subst (λ (l : _). Whole (open_at kept) true 0 kept found.disposes l component.nodes) (sym m)
        (subst (λ (l : _). Whole (open_at kept) true 0 kept found.disposes found.members l) (sym n) (parts_sound kept found e)))));
  };
}
