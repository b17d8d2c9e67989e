-- What the reader of C# answers, and what is read.
use Rattle.std.proofs.Common.{◌≡◌, List, refl, sym, ap, ◌∙◌}
use Rattle.std.specs.Prelude.{Option, Some, None}
use Rattle.text_core.specs.declared.place.Place.{Place}
use Rattle.cs_ast.specs.declared.expression.Expr.{Expr}
use Rattle.cs_ast.specs.declared.expression.Stmt.{Stmt}
use Rattle.cs_ast.specs.declared.member.Member.{Member}
use Rattle.cs_token.specs.declared.token.Token.{Token}
use Rattle.cs_grammar.specs.Lambdas.{Spelled}
use Rattle.cs_grammar.specs.Members.{SpelledMembers}
use Rattle.cs_grammar.specs.Statements.{SpelledStatements}
use Rattle.cs_grammar.specs.Nesting.{too_deep}
use Rattle.cs_parse.specs.BodyReading.{whole_statements}
use Rattle.cs_parse.specs.LambdaReading.{whole_spelled}
use Rattle.cs_parse.specs.MemberReading.{whole_members}
use Rattle.cs_parse.proofs.SpelledLemmas.{spelled_sound, spelled_complete}
use Rattle.cs_parse.proofs.WholeMemberLemmas.{members_sound, members_complete}
use Rattle.cs_parse.proofs.BodyLemmas.{body_sound, body_complete}
use Rattle.razor_reader.specs.CodeReading.{flat, spelled, all_members, all_statements}

-- tokens that are flat are read as they are
is_flat : {A : Type 0} (read : List Token → Option A) (ts : List Token) → too_deep ts ≡ None → flat read ts ≡ read ts
is_flat read ts e = ap (λ d. elim d [ None ↦ read ts | Some p ↦ None ]) e

not_flat : {A : Type 0} (read : List Token → Option A) (ts : List Token) (p : Place) → too_deep ts ≡ Some p → flat read ts ≡ None
not_flat read ts p e = ap (λ d. elim d [ None ↦ read ts | Some p ↦ None ]) e

-- where nothing that is spelled is read, nothing is read
none_read : {A : Type 0} (o : Option A) → ((a : A) → o ≡ Some a → ⊥) → o ≡ None
none_read None h = refl
none_read (Some a) h = absurd (h a refl)

pub is_spelled : (ts : List Token) (a : Expr) → (too_deep ts ≡ None) × Spelled ts a → spelled ts ≡ Some a
unfolding spelled
is_spelled ts a h = is_flat whole_spelled ts h.0 ∙ spelled_complete ts a h.1

pub not_spelled : (ts : List Token) → (too_deep ts ≡ None) × ((a : Expr) → Spelled ts a → ⊥) → spelled ts ≡ None
unfolding spelled
not_spelled ts h = is_flat whole_spelled ts h.0 ∙ none_read (whole_spelled ts) (λ a e. h.1 a (spelled_sound ts a e))

pub deep_spelled : (ts : List Token) (p : Place) → too_deep ts ≡ Some p → spelled ts ≡ None
unfolding spelled
deep_spelled ts p e = not_flat whole_spelled ts p e

pub is_members : (ts : List Token) (a : List Member) → (too_deep ts ≡ None) × SpelledMembers ts a → all_members ts ≡ Some a
unfolding all_members
is_members ts a h = is_flat whole_members ts h.0 ∙ members_complete ts a h.1

pub not_members : (ts : List Token) → (too_deep ts ≡ None) × ((a : List Member) → SpelledMembers ts a → ⊥) → all_members ts ≡ None
unfolding all_members
not_members ts h = is_flat whole_members ts h.0 ∙ none_read (whole_members ts) (λ a e. h.1 a (members_sound ts a e))

pub deep_members : (ts : List Token) (p : Place) → too_deep ts ≡ Some p → all_members ts ≡ None
unfolding all_members
deep_members ts p e = not_flat whole_members ts p e

pub is_body : (ts : List Token) (a : List Stmt) → (too_deep ts ≡ None) × SpelledStatements ts a → all_statements ts ≡ Some a
unfolding all_statements
is_body ts a h = is_flat whole_statements ts h.0 ∙ body_complete ts a h.1

pub not_body : (ts : List Token) → (too_deep ts ≡ None) × ((a : List Stmt) → SpelledStatements ts a → ⊥) → all_statements ts ≡ None
unfolding all_statements
not_body ts h = is_flat whole_statements ts h.0 ∙ none_read (whole_statements ts) (λ a e. h.1 a (body_sound ts a e))

pub deep_body : (ts : List Token) (p : Place) → too_deep ts ≡ Some p → all_statements ts ≡ None
unfolding all_statements
deep_body ts p e = not_flat whole_statements ts p e
