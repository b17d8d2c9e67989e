-- Texts of parameters that stand in a text.
use Rattle.std.proofs.Common.{ℕ, Bool, List, [], ◌∷◌, refl, ap, subst}
use Rattle.std.specs.declared.option.Option.{Option}
use Rattle.cs_token.specs.declared.token.TokenKind.{TokenKind}
use Rattle.cs_token.specs.declared.token.TokenKind.TheVariants as t
use Rattle.cs_print.proofs.CodeKinds as code
use Rattle.cs_print.proofs.ProperLemmas.{proper-tokens}
use Rattle.cs_print.proofs.ReadLemmas as rd
use Rattle.razor_token.specs.declared.context.Holds.{Holds}
use Rattle.razor_token.specs.declared.piece.Piece.{Piece}
use Rattle.razor_token.specs.declared.piece.PieceKind.TheVariants as k
use Rattle.razor_token.specs.declared.piece.Quote.{Quote}
use Rattle.razor_ast.specs.Attributes.{TextValue}
use Rattle.razor_ast.specs.Attributes as spelled
use Rattle.razor_ast.specs.TextValues.{IsNameText}
use Rattle.printable_texts.specs.Stands.{value, tag, Stands}
use Rattle.printable_texts.proofs.TokenLaws.{step}
use Rattle.printed_pieces.specs.Written.{IsLexeme, IsWritten, Named}
use Rattle.printable_texts.proofs.CodeLaws.{lexeme_named}
use Rattle.printable_texts.proofs.ValueLaws.{run_is}

-- behind any text
pub text_rest : (component void : Bool) (holds : Holds) (quote : Option Quote) (ps rest : List Piece) (said : List ℕ) → TextValue ps rest said → Stands (value component void holds quote) ps → Stands (tag component void) rest
text_rest component void held quote ps rest said (spelled.text end _ _ _ run is) here =
    let place = value component void held quote in
    let found = run_is (Stands place) (λ text. Unit {0}) tt (λ x text p us one there. ((step place (k.Literal x) p us one there).2, λ e. tt)) ps here in
    (step place k.ValueEnd end rest is (subst (Stands place) (ap (λ z. z.1) run) found.1)).2

-- a text that is a name
back : (kind : TokenKind) → code.IsLexeme kind → IsLexeme kind
back (t.Name x) h = h
back (t.Number i) h = h
back (t.Part x) h = h
back _ h = tt

pub name_written : (x : List ℕ) → IsNameText x → IsWritten Named x
name_written x h = lexeme_named h.0 x h.2 (subst IsLexeme h.2 (back h.0.kind (rd.lexeme h.0 [] h.0.kind (proper-tokens x (h.0 ∷ []) h.1) refl)))
