-- What the forms of trees come to has types in every scope that fits.
use Rattle.std.specs.Prelude.{◌≡◌, ◌⊎◌, ℕ, Bool, true, IsTrue, List}
use Rattle.cs_ast.specs.declared.cs_type.CsType.{CsType}
use Rattle.cs_ast.specs.declared.code.Code.{Code}
use Rattle.cs_ast.specs.declared.code.Code.TheVariants as c
use Rattle.cs_ast.specs.declared.scope.Scope.{Scope}
use Rattle.cs_ast.specs.declared.value.Value.{Value as Constant}
use Rattle.cs_rules.specs.declared.callee.Callee.{Callee}
use Rattle.cs_rules.specs.declared.checked.ExprType.{ExprType}
use Rattle.cs_rules.specs.Judged.{Judged}
use Rattle.cs_rules.specs.Expressions.{Value}
use Rattle.cs_rules.specs.Statements.{Done, Statement}
use Rattle.cs_typing.specs.Operators.{Shows}
use Rattle.cs_typing.specs.Expressions.{Surroundings, CodeHas}
use Rattle.cs_typing.specs.Statements.{Jumps, Runs, AllRun}
use Rattle.cs_accepted.specs.Scopes.{ScopeFits}
use Rattle.cs_accepted.specs.Accepted.{IfFine, ValueFits, CalleeFits}
use Rattle.cs_accepted.specs.Leaves.{Leaves, SectionLeaves}

-- as a value
abbrev pub ValueSound : Value → Type 0
ValueSound a = (at : Surroundings) (locals : List CsType) (s : Scope) → ScopeFits at locals s → IfFine (λ x. ValueFits at locals x) (a s)

-- as what is called
abbrev pub CalleeSound : (Scope → Judged Callee) → Type 0
CalleeSound a = (at : Surroundings) (locals : List CsType) (s : Scope) → ScopeFits at locals s → IfFine (λ it. CalleeFits at locals it) (a s)

-- a literal piece of an interpolated text, or what shows a text
abbrev pub PieceFits : Surroundings → List CsType → Code → Type 0
PieceFits at locals a = ((x : List ℕ) × (a ≡ c.Piece x)) ⊎ ((type : CsType) × Shows type × CodeHas at locals type a)

abbrev pub PieceSound : (Scope → Judged Code) → Type 0
PieceSound a = (at : Surroundings) (locals : List CsType) (s : Scope) → ScopeFits at locals s → IfFine (λ x. PieceFits at locals x) (a s)

-- jumps that leave a statement may stand there
pub record Allows (j : Jumps) (breaks continues : Bool) : Type 0 where
  pub breaks_may : breaks ≡ true → IsTrue j.breaks
  pub continues_may : continues ≡ true → IsTrue j.continues

-- the code of a statement may stand there, and the scope behind it says what its locals are
pub record DoneFits (at : Surroundings) (locals : List CsType) (s : Scope) (j : Jumps) (ends : Bool) (d : Done) : Type 0 where
  pub inner : List CsType
  pub runs : Runs at s.result j locals inner ends d.code
  pub scope_fits : ScopeFits at inner d.scope
  pub same_result : d.scope.result ≡ s.result

-- as a statement that is left so
abbrev pub StatementSound : Leaves → Statement → Type 0
StatementSound l a =
    (j : Jumps) (at : Surroundings) (locals : List CsType) (s : Scope) → Allows j l.breaks l.continues → ScopeFits at locals s → IfFine (λ d. DoneFits at locals s j l.ends d) (a s)

-- the code of a section
pub record SectionFits (at : Surroundings) (result : CsType) (locals : List CsType) (j : Jumps) (l : SectionLeaves) (a : Code) : Type 0 where
  pub constants : List Constant
  pub statements : List Code
  pub inner : List CsType
  pub is : a ≡ c.Section constants l.default statements
  pub runs : AllRun at result j locals inner l.ends statements

-- as a section of a `switch` that is left so
abbrev pub SectionSound : SectionLeaves → (ExprType → Scope → Judged Code) → Type 0
SectionSound l a =
    (j : Jumps) (at : Surroundings) (locals : List CsType) (s : Scope) (decided : ExprType) → Allows j l.breaks l.continues → ScopeFits at locals s → IfFine (λ x. SectionFits at s.result locals j l x) (a decided s)
