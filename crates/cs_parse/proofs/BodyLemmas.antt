-- What whole lists of tokens are read as, where they spell statements.
use Rattle.std.proofs.Common.{◌≡◌, List, [], ◌∷◌, refl, sym, ap, ◌∙◌, subst}
use Rattle.std.specs.Prelude.{Option, Some, None}
use Rattle.cs_ast.specs.declared.expression.Stmt.{Stmt}
use Rattle.cs_token.specs.declared.token.Token.{Token}
use Rattle.cs_grammar.specs.Statements.{Statements, SpelledStatements}
use Rattle.cs_grammar.specs.Statements as g
use Rattle.cs_parse.specs.Reading.{◌>>=◌}
use Rattle.cs_parse.specs.StatementReading.{nowhere, statements_first}
use Rattle.cs_parse.specs.WholeReading.{if_all}
use Rattle.cs_parse.specs.BodyReading.{whole_statements}
use Rattle.cs_parse.proofs.TokenLemmas.{bind_ok}
use Rattle.cs_parse.proofs.StatementSound.{statements_sound}
use Rattle.cs_parse.proofs.StatementComplete.{statements_complete}
use Rattle.cs_parse.proofs.StatementStarts.{nothing_ends}

all_of : {A : Type 0} (a b : A) (rest : List Token) → if_all a rest ≡ Some b → (rest ≡ []) × (a ≡ b)
all_of a b [] e = (refl, cc)
all_of a b (t ∷ ts) e = absurd (cc)

pub body_sound : (ts : List Token) (body : List Stmt) → whole_statements ts ≡ Some body → SpelledStatements ts body
body_sound ts body e =
    let d = bind_ok (statements_first nowhere ts) _ _ e in
    let y = all_of d.0.0 body d.0.1 d.2 in
    subst (λ c. Statements g.no_jumps ts [] c) y.1 (subst (λ l. Statements g.no_jumps ts l d.0.0) y.0 (statements_sound nowhere ts d.0.0 d.0.1 d.1))

pub body_complete : (ts : List Token) (body : List Stmt) → SpelledStatements ts body → whole_statements ts ≡ Some body
body_complete ts body x = ap (λ o. o >>= λ x. if_all x.0 x.1) (statements_complete g.no_jumps ts [] body nothing_ends x)

pub one_body : (ts : List Token) (a b : List Stmt) → SpelledStatements ts a → SpelledStatements ts b → a ≡ b
one_body ts a b x y = let e : Some a ≡ Some b = sym (body_complete ts a x) ∙ body_complete ts b y in cc

pub no_body : (ts : List Token) → whole_statements ts ≡ None → (body : List Stmt) → SpelledStatements ts body → ⊥
no_body ts e body x = let n : None ≡ Some body = sym e ∙ body_complete ts body x in absurd (cc)
