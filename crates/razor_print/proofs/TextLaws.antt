-- The text of parts, part by part.
use Rattle.std.proofs.Common.{◌≡◌, ℕ, List, [], ◌∷◌, ◌++◌, refl, sym, ap, ◌∙◌, append_assoc}
use Rattle.std.proofs.lemmas.List.{append-nil}
use Rattle.std.proofs.lemmas.List.Concat.{flat_map-append}
use Rattle.cs_token.specs.declared.token.TokenKind.{TokenKind}
use Rattle.cs_print.specs.Layout.{laid, code_text}
use Rattle.cs_print.specs.Printed.{Kinds}
use Rattle.razor_token.specs.declared.piece.PieceKind.{PieceKind}
use Rattle.razor_print.specs.Parts.{Part, Parts, piece, token, written, parts_text, tokens}

pub parts_none : parts_text [] ≡ []
unfolding parts_text
parts_none = refl

pub parts_join : (ps qs : Parts) → parts_text (ps ++ qs) ≡ parts_text ps ++ parts_text qs
unfolding parts_text
parts_join ps qs = flat_map-append written ps qs

-- what stands behind parts
pub text_behind : (old middle new : List ℕ) (ps qs : Parts) → middle ≡ old ++ parts_text ps → new ≡ middle ++ parts_text qs → new ≡ old ++ parts_text (ps ++ qs)
text_behind old middle new ps qs first second =
    second ∙ ap (λ x. x ++ parts_text qs) first ∙ append_assoc old (parts_text ps) (parts_text qs) ∙ ap (λ x. old ++ x) (sym (parts_join ps qs))

-- a part alone
pub text_alone : (old new : List ℕ) (p : Part) → new ≡ old ++ written p → new ≡ old ++ parts_text (p ∷ [])
unfolding parts_text
text_alone old new p e = e ∙ ap (λ x. old ++ x) (sym (append-nil (written p)))

-- a piece alone
pub text_piece : (old new x : List ℕ) (kind : PieceKind) → new ≡ old ++ x → new ≡ old ++ parts_text (piece kind x ∷ [])
unfolding written
text_piece old new x kind e = text_alone old new (piece kind x) e

-- a piece, and what stands behind it
pub text_then : (old middle new x : List ℕ) (kind : PieceKind) (ps : Parts) → middle ≡ old ++ x → new ≡ middle ++ parts_text ps → new ≡ old ++ parts_text (piece kind x ∷ ps)
text_then old middle new x kind ps one rest = text_behind old middle new (piece kind x ∷ []) ps (text_piece old middle x kind one) rest

-- nothing
pub text_nothing : (old : List ℕ) → old ≡ old ++ parts_text []
text_nothing old = sym (ap (λ x. old ++ x) parts_none ∙ append-nil old)

-- tokens of code
tokens_text : (ks : Kinds) → parts_text (tokens ks) ≡ code_text ks
unfolding parts_text written code_text
tokens_text [] = refl
tokens_text (kind ∷ ks) = ap (λ x. laid kind ++ x) (tokens_text ks)

pub text_code : (old new : List ℕ) (ks : Kinds) → new ≡ old ++ code_text ks → new ≡ old ++ parts_text (tokens ks)
text_code old new ks e = e ∙ ap (λ x. old ++ x) (sym (tokens_text ks))

-- a token alone
pub text_token : (old new : List ℕ) (kind : TokenKind) → new ≡ old ++ laid kind → new ≡ old ++ parts_text (token kind ∷ [])
unfolding written
text_token old new kind e = text_alone old new (token kind) e

-- a token, and what stands behind it
pub text_token_then : (old middle new : List ℕ) (kind : TokenKind) (ps : Parts) → middle ≡ old ++ laid kind → new ≡ middle ++ parts_text ps → new ≡ old ++ parts_text (token kind ∷ ps)
text_token_then old middle new kind ps one rest = text_behind old middle new (token kind ∷ []) ps (text_token old middle kind one) rest
