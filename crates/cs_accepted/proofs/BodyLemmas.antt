-- Accepted bodies keep to their signatures, and are never stuck.
use Rattle.std.proofs.Common.{◌≡◌, List, [], ◌∷◌, map, sym, subst, ◌∙◌, ◌⊎◌, inl, inr}
use Rattle.std.specs.Prelude.{Bool, true, false}
use Rattle.cs_ast.specs.declared.cs_type.CsType.{CsType}
use Rattle.cs_ast.specs.declared.cs_type.CsType.TheVariants as t
use Rattle.cs_ast.specs.declared.code.Code.{Code}
use Rattle.cs_ast.specs.declared.code.Code.TheVariants as c
use Rattle.cs_ast.specs.declared.expression.Body.{Body}
use Rattle.cs_ast.specs.declared.expression.Expr.{Expr}
use Rattle.cs_ast.specs.declared.expression.Stmt.{Stmt}
use Rattle.cs_ast.specs.declared.scope.Scope.{Scope}
use Rattle.cs_meaning.specs.State.{State}
use Rattle.cs_meaning.specs.Outcome.{IsDefined}
use Rattle.cs_meaning.specs.Meaning.{Setting, meaning, body_meaning}
use Rattle.cs_rules.specs.declared.checked.Checked.{Checked}
use Rattle.cs_rules.specs.Judged.{fine}
use Rattle.cs_rules.specs.Statements.{Statement}
use Rattle.cs_rules.specs.Statements as st
use Rattle.cs_rules.specs.Trees.{statement, value_in, body_in}
use Rattle.cs_typing.specs.Types.{Signature, Types}
use Rattle.cs_typing.specs.Expressions.{Surroundings, CodeHas}
use Rattle.cs_typing.specs.Expressions as expr
use Rattle.cs_typing.specs.Statements.{Jumps, jumps, Runs}
use Rattle.cs_typing.specs.Statements as run
use Rattle.cs_typing.specs.Bodies.{surroundings_of, BodyHas}
use Rattle.cs_typing.specs.Bodies as typed
use Rattle.cs_typing.specs.States.{StateHas}
use Rattle.cs_typing.specs.Outcomes.{Fits, no_jump, Left}
use Rattle.cs_typing.specs.Settings.{SettingHas}
use Rattle.cs_typing.proofs.BodySoundness.{body_sound}
use Rattle.cs_accepted.specs.Scopes.{ScopeFits}
use Rattle.cs_accepted.specs.Accepted.{IfFine, Typed}
use Rattle.cs_accepted.specs.Leaves.{leaves}
use Rattle.cs_accepted.specs.Bodies.{body_leaves, Accepts}
use Rattle.cs_accepted.specs.Bodies as accept
use Rattle.cs_accepted.specs.Programs.{AcceptedAs, SettingAccepted}
use Rattle.cs_accepted.proofs.Judging.{then_fine}
use Rattle.cs_accepted.proofs.TypeLemmas.{fits_has}
use Rattle.cs_accepted.proofs.OperatorLemmas.{some_type}
use Rattle.cs_accepted.proofs.StatementForms.{AllStatements, no_statement, a_statement, CodesFit, in_order_fine}
use Rattle.cs_accepted.proofs.StatementTrees.{statement_tree}
use Rattle.cs_accepted.proofs.ExpressionLaws.{expression_fits, expression_sound_in}

all_statements : (body : List Stmt) → AllStatements (map leaves body) (map statement body)
all_statements [] = no_statement
all_statements (one ∷ others) = a_statement (leaves one) (map leaves others) (statement one) (map statement others) (statement_tree one) (all_statements others)

-- the block of a body
block_fine : (body : List Stmt) (at : Surroundings) (locals : List CsType) (scope : Scope) → (body_leaves body).breaks ≡ false → (body_leaves body).continues ≡ false → ScopeFits at locals scope → IfFine (λ code. Runs at scope.result (jumps false false) locals locals (body_leaves body).ends code) (body_in scope body)
block_fine body at locals scope b k fit =
    then_fine (λ codes. CodesFit at scope.result locals (jumps false false) (body_leaves body).ends codes) (λ code. Runs at scope.result (jumps false false) locals locals (body_leaves body).ends code) (st.in_order (map statement body) scope) (λ codes. fine (c.Block codes))
    (in_order_fine (map leaves body) (map statement body) (jumps false false) at locals scope (all_statements body) (record { breaks_may = λ e. absurd (cc); continues_may = λ e. absurd (cc) }) fit)
    (λ codes m. run.block (jumps false false) locals m.inner (body_leaves body).ends codes m.runs)

-- a block with and without an end
block_has : (types : Types) (body : Signature) (code : Code) (ends : Bool) → (body.result ≡ t.Nothing) ⊎ (ends ≡ false) → Runs (surroundings_of types body) body.result (jumps false false) body.locals body.locals ends code → BodyHas types body code
block_has types body code false h r = typed.returning body.locals code r
block_has types body code true (inl n) r = typed.ending body.locals code n r
block_has types body code true (inr n) r = absurd (cc)

accepted_has : (types : Types) (body : Signature) (scope : Scope) (tree : Body) (code : Code) → Accepts scope tree code → ScopeFits (surroundings_of types body) body.locals scope → scope.result ≡ body.result → BodyHas types body code
accepted_has types body scope tree code (accept.value a x e f) fit same =
    typed.expression x.code (subst (λ z. CodeHas (surroundings_of types body) body.locals z x.code) same (fits_has (surroundings_of types body) body.locals x.expr_type scope.result x.code f (expression_fits a scope x (surroundings_of types body) body.locals e fit)))
accepted_has types body scope tree code (accept.dropped a x e n) fit same =
    let k = some_type (λ type. CodeHas (surroundings_of types body) body.locals type x.code) x.expr_type (expression_fits a scope x (surroundings_of types body) body.locals e fit) in
    typed.expression x.code (subst (λ z. CodeHas (surroundings_of types body) body.locals z x.code) (sym n ∙ same) (expr.dropped k.0 x.code k.1))
accepted_has types body scope tree code (accept.block statements _ e b k h) fit same =
    block_has types body code (body_leaves statements).ends (subst (λ z. (z ≡ t.Nothing) ⊎ ((body_leaves statements).ends ≡ false)) same h)
    (subst (λ z. Runs (surroundings_of types body) z (jumps false false) body.locals body.locals (body_leaves statements).ends code) same
    (subst (IfFine (λ z. Runs (surroundings_of types body) scope.result (jumps false false) body.locals body.locals (body_leaves statements).ends z)) e (block_fine statements (surroundings_of types body) body.locals scope b k fit)))

pub accepted_as_has : (types : Types) (body : Signature) (code : Code) → AcceptedAs types body code → BodyHas types body code
accepted_as_has types body code a = accepted_has types body a.scope a.tree code a.accepts a.scope_fits a.result_is

-- what is run with an accepted program keeps to the types
setting_has : (at : Surroundings) (around : Setting) → SettingAccepted at around → SettingHas at around
setting_has at around h =
    record {
      there = h.there;
      parameters_have = h.parameters_have;
      bodies_have = record { has = λ number body e. let k = h.program.has number body e in (k.0, k.1, accepted_as_has at.types body k.0 k.2) };
    }

pub accepted_sound : (types : Types) (body : Signature) (code : Code) (around : Setting) (s : State) → SettingAccepted (surroundings_of types body) around → AcceptedAs types body code → StateHas types body.locals s
    → IsDefined (body_meaning around code s) × Fits (no_jump types) (Left types body.result) (body_meaning around code s)
accepted_sound types body code around s h a hs = body_sound types body around code s (setting_has (surroundings_of types body) around h) (accepted_as_has types body code a) hs

pub expression_sound_among : (a : Expr) (scope : Scope) (x : Checked) (at : Surroundings) (locals : List CsType) (around : Setting) (s : State) → value_in scope a ≡ fine x → ScopeFits at locals scope → SettingAccepted at around → StateHas at.types locals s
    → IsDefined (meaning around x.code s) × Fits (no_jump at.types) (Typed at.types locals x.expr_type) (meaning around x.code s)
expression_sound_among a scope x at locals around s e fit h hs = expression_sound_in a scope x at locals around s e fit (setting_has at around h) hs
