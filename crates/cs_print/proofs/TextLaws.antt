-- The text of tokens, part by part.
use Rattle.std.proofs.Common.{◌≡◌, ℕ, List, [], ◌∷◌, ◌++◌, map, refl, sym, ap, ◌∙◌, append_assoc}
use Rattle.std.specs.List.{flat_map}
use Rattle.std.proofs.lemmas.List.{append-nil}
use Rattle.std.proofs.lemmas.List.Concat.{flat_map-append}
use Rattle.std.proofs.lemmas.List.Folds.{flat_map-map}
use Rattle.cs_ast.specs.declared.expression.Expr.{Expr}
use Rattle.cs_ast.specs.declared.expression.Label.{Label}
use Rattle.cs_ast.specs.declared.expression.Section.{Section}
use Rattle.cs_ast.specs.declared.expression.Stmt.{Stmt}
use Rattle.cs_ast.specs.declared.expression.TextPart.{TextPart}
use Rattle.cs_ast.specs.declared.expression.WithPart.{WithPart}
use Rattle.cs_ast.specs.declared.member.Argument.{Argument}
use Rattle.cs_ast.specs.declared.member.Member.{Member}
use Rattle.cs_token.specs.declared.token.TokenKind.{TokenKind}
use Rattle.cs_print.specs.Printed.{Kinds, joined, behind_commas, whole, printed, label_kinds, text_kinds, statement_kinds, section_kinds, part_kinds}
use Rattle.cs_print.specs.PrintedMembers.{argument_kinds, member_kinds}
use Rattle.cs_token.specs.declared.token.TokenKind.TheVariants as k
use Rattle.cs_token.specs.declared.token.Sign.TheVariants as s
use Rattle.cs_print.specs.Layout.{laid, code_text, token_text, gap_behind, part_text}

pub text_none : code_text [] ≡ []
unfolding code_text
text_none = refl

pub text_more : (kind : TokenKind) (ks : Kinds) → code_text (kind ∷ ks) ≡ laid kind ++ code_text ks
unfolding code_text
text_more kind ks = refl

pub text_join : (ks ms : Kinds) → code_text (ks ++ ms) ≡ code_text ks ++ code_text ms
unfolding code_text
text_join ks ms = flat_map-append laid ks ms

-- what stands behind a text
pub text_behind : (old middle new : List ℕ) (ks ms : Kinds) → middle ≡ old ++ code_text ks → new ≡ middle ++ code_text ms → new ≡ old ++ code_text (ks ++ ms)
text_behind old middle new ks ms first second =
    second ∙ ap (λ x. x ++ code_text ms) first ∙ append_assoc old (code_text ks) (code_text ms) ∙ ap (λ x. old ++ x) (sym (text_join ks ms))

-- a token alone
pub text_alone : (old new : List ℕ) (kind : TokenKind) → new ≡ old ++ laid kind → new ≡ old ++ code_text (kind ∷ [])
unfolding code_text
text_alone old new kind e = e ∙ ap (λ x. old ++ x) (sym (append-nil (laid kind)))

-- a token, and what stands behind it
pub text_then : (old middle new : List ℕ) (kind : TokenKind) (ks : Kinds) → middle ≡ old ++ laid kind → new ≡ middle ++ code_text ks → new ≡ old ++ code_text (kind ∷ ks)
text_then old middle new kind ks one rest = text_behind old middle new (kind ∷ []) ks (text_alone old middle kind one) rest

-- nothing
pub text_nothing : (old : List ℕ) → old ≡ old ++ code_text []
text_nothing old = sym (ap (λ x. old ++ x) text_none ∙ append-nil old)

pub text_part : (x : List ℕ) → part_text x ≡ laid (k.Part x)
unfolding token_text gap_behind
text_part x = sym (append-nil (part_text x))

-- lists

flat_text : {X : Type 0} (f : X → Kinds) (xs : List X) → code_text (flat_map f xs) ≡ flat_map (λ x. code_text (f x)) xs
flat_text f [] = text_none
flat_text f (x ∷ xs) = text_join (f x) (flat_map f xs) ∙ ap (λ y. code_text (f x) ++ y) (flat_text f xs)

pub joined_text : {X : Type 0} (f : X → Kinds) (xs : List X) → code_text (joined (map f xs)) ≡ flat_map (λ x. code_text (f x)) xs
joined_text f xs = ap code_text (flat_map-map (λ x. x) f xs) ∙ flat_text f xs

pub commas_text : {X : Type 0} (f : X → Kinds) (xs : List X) → code_text (behind_commas (map f xs)) ≡ flat_map (λ x. code_text (k.Sign s.Comma ∷ f x)) xs
commas_text f xs = ap code_text (flat_map-map (λ ks. k.Sign s.Comma ∷ ks) f xs) ∙ flat_text (λ x. k.Sign s.Comma ∷ f x) xs

pub values_text : (xs : List Expr) → code_text (behind_commas (map whole (map printed xs))) ≡ flat_map (λ x. code_text (k.Sign s.Comma ∷ whole (printed x))) xs
values_text xs = commas_text whole (map printed xs) ∙ flat_map-map (λ x. code_text (k.Sign s.Comma ∷ whole x)) printed xs

pub labels_text : (xs : List Label) → code_text (joined (map (λ label. label_kinds label.kind) xs)) ≡ flat_map (λ label. code_text (label_kinds label.kind)) xs
labels_text xs = joined_text (λ (label : Label). label_kinds label.kind) xs

pub texts_text : (xs : List TextPart) → code_text (joined (map text_kinds xs)) ≡ flat_map (λ x. code_text (text_kinds x)) xs
texts_text xs = joined_text text_kinds xs

pub statements_text : (xs : List Stmt) → code_text (joined (map statement_kinds xs)) ≡ flat_map (λ x. code_text (statement_kinds x)) xs
statements_text xs = joined_text statement_kinds xs

pub sections_text : (xs : List Section) → code_text (joined (map section_kinds xs)) ≡ flat_map (λ x. code_text (section_kinds x)) xs
sections_text xs = joined_text section_kinds xs

pub parts_text : (xs : List WithPart) → code_text (behind_commas (map part_kinds xs)) ≡ flat_map (λ x. code_text (k.Sign s.Comma ∷ part_kinds x)) xs
parts_text xs = commas_text part_kinds xs

pub arguments_text : (xs : List Argument) → code_text (behind_commas (map argument_kinds xs)) ≡ flat_map (λ x. code_text (k.Sign s.Comma ∷ argument_kinds x)) xs
arguments_text xs = commas_text argument_kinds xs

pub members_text : (xs : List Member) → code_text (joined (map (λ member. member_kinds member.kind) xs)) ≡ flat_map (λ member. code_text (member_kinds member.kind)) xs
members_text xs = joined_text (λ (member : Member). member_kinds member.kind) xs
