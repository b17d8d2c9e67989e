-- What reading a file answers, by what is known of its pieces.
use Rattle.std.proofs.Common.{◌≡◌, ◌≤◌, ℕ, List, length, refl, sym, ap, ◌∙◌, subst, arith}
use Rattle.std.specs.Prelude.{encode_utf8_all, Some, None, Ok, Err}
use Rattle.text_core.specs.declared.place.Place.{Place}
use Rattle.razor_token.specs.Answers.{IsPlaceIn, IsUncut}
use Rattle.razor_token.specs.declared.piece.Piece.{Piece}
use Rattle.razor_ast.specs.Components.{SpellsFile}
use Rattle.razor_ast.specs.declared.component.Component.{Component}
use Rattle.razor_ast.specs.FileTexts.{text_read}
use Rattle.razor_reader.specs.declared.fault.ReadFault.{ReadFault}
use Rattle.razor_reader.specs.declared.fault.ReadFault.TheVariants as f
use Rattle.razor_reader.specs.declared.whole.Parts.{Parts}
use Rattle.razor_reader.specs.Answers.{NestsTooDeep, Answers, SyntaxWithin}
use Rattle.razor_reader.specs.PieceAnswers.{Kept, Flattened, Spelled, IsOf}
use Rattle.razor_reader.specs.WholeReading.{parts}
use Rattle.razor_reader.proofs.AnswerComplete.{no_component}
use Rattle.razor_reader.proofs.AnswerLemmas.{kept_flat, flat_of, file_of}
use Rattle.razor_reader.proofs.FileLemmas.{read_bytes}

-- the text that is read is short where the text that is given is
pub short_read : (text read : List ℕ) → length (encode_utf8_all text) ≤ 1048576 → read ≡ text_read text → length (encode_utf8_all read) ≤ 1048576
short_read text read h e =
    let less = read_bytes text in
    let same : length (encode_utf8_all read) ≡ length (encode_utf8_all (text_read text)) = ap (λ (l : List ℕ). length (encode_utf8_all l)) e in
    omega (arith, less, same)

pub spelled_there : (name text read : List ℕ) (kept : List Piece) (found : Parts) (component : Component) → length (encode_utf8_all text) ≤ 1048576 → read ≡ text_read text →
    Kept read kept → parts kept ≡ Some found → IsOf name found component → Answers name text (Ok component)
spelled_there name text read kept found component h e k p is =
    let there : Kept (text_read text) kept = subst (λ (l : List ℕ). Kept l kept) e k in
    (h, kept_flat (text_read text) kept there, file_of name text kept found component there p is.named is.disposes is.members is.nodes)

pub deep_there : (name text read : List ℕ) (place : Place) → length (encode_utf8_all text) ≤ 1048576 → read ≡ text_read text → NestsTooDeep read place → Answers name text (Err (f.TooDeep place))
deep_there name text read place h e deep = (h, subst (λ (l : List ℕ). NestsTooDeep l place) e deep)

pub uncut_there : (name text read : List ℕ) (place : Place) → length (encode_utf8_all text) ≤ 1048576 → read ≡ text_read text → IsUncut read place →
    Answers name text (Err (f.Syntax place)) × SyntaxWithin text (Err (f.Syntax place))
uncut_there name text read place h e un =
    let there : IsUncut (text_read text) place = subst (λ (l : List ℕ). IsUncut l place) e un in
    ((h, flat_of (text_read text) place there, λ c k. there.uncut k.spelled.pieces k.spelled.cut), there.here)

pub unspelled_there : (name text read : List ℕ) (kept : List Piece) (place : Place) → length (encode_utf8_all text) ≤ 1048576 → read ≡ text_read text →
    Kept read kept → parts kept ≡ None → IsPlaceIn read place → Answers name text (Err (f.Syntax place)) × SyntaxWithin text (Err (f.Syntax place))
unspelled_there name text read kept place h e k p at =
    let there : Kept (text_read text) kept = subst (λ (l : List ℕ). Kept l kept) e k in
    ((h, kept_flat (text_read text) kept there, no_component name text kept there p), subst (λ (l : List ℕ). IsPlaceIn l place) e at)

-- by the fault of cutting and measuring, and by that of reading
abbrev pub Explained : List ℕ → List ℕ → ReadFault → Type 0
Explained name text e = Answers name text (Err e) × SyntaxWithin text (Err e)

pub flattened_fault : (name text read : List ℕ) (e : ReadFault) → length (encode_utf8_all text) ≤ 1048576 → read ≡ text_read text → Flattened read (Err e) → Explained name text e
flattened_fault name text read f.TooLong h i why = absurd why
flattened_fault name text read (f.TooDeep place) h i why = (deep_there name text read place h i why, tt)
flattened_fault name text read (f.Syntax place) h i why = uncut_there name text read place h i why
flattened_fault name text read f.Oom h i why = (tt, tt)

pub spelled_fault : (name text read : List ℕ) (kept : List Piece) (e : ReadFault) → length (encode_utf8_all text) ≤ 1048576 → read ≡ text_read text → Kept read kept → Spelled read kept (Err e) → Explained name text e
spelled_fault name text read kept f.TooLong h i k why = absurd why
spelled_fault name text read kept (f.TooDeep place) h i k why = absurd why
spelled_fault name text read kept (f.Syntax place) h i k why = unspelled_there name text read kept place h i k why.0 why.1
spelled_fault name text read kept f.Oom h i k why = (tt, tt)
