-- Templates as files spell them: where statements and `break` stand in them, and which numbers their parts have.
use Rattle.std.specs.Prelude.{◌≡◌, ℕ, ◌+◌, Bool, true, false, IsTrue, List, [], ◌∷◌, Option, Some, None}
use Rattle.text_core.specs.declared.place.Place.{Place}
use Rattle.cs_ast.specs.declared.cs_type.TypeExpr.{TypeExpr}
use Rattle.cs_ast.specs.declared.expression.Body.{Body}
use Rattle.cs_ast.specs.declared.expression.Body.TheVariants as body
use Rattle.cs_ast.specs.declared.expression.Expr.{Expr}
use Rattle.cs_ast.specs.declared.expression.ExprKind.TheVariants as ek
use Rattle.cs_ast.specs.declared.expression.Label.{Label}
use Rattle.cs_ast.specs.declared.expression.Stmt.{Stmt}
use Rattle.cs_ast.specs.declared.expression.StmtKind.{StmtKind}
use Rattle.cs_ast.specs.declared.expression.StmtKind.TheVariants as st
use Rattle.cs_ast.specs.declared.identifier.Ident.{Ident}
use Rattle.cs_ast.specs.declared.member.Member.{Member}
use Rattle.cs_ast.specs.declared.member.MemberKind.{MemberKind}
use Rattle.cs_ast.specs.declared.member.MemberKind.TheVariants.{Field, Parameter, Method, Getter, RecordDef}
use Rattle.cs_accepted.specs.Bodies.{body_leaves}
use Rattle.razor_ast.specs.Statements.{IsSimple, break_at, continue_at, section}
use Rattle.razor_ast.specs.declared.attribute.Attribute.{Attribute}
use Rattle.razor_ast.specs.declared.attribute.AttributeKind.{AttributeKind}
use Rattle.razor_ast.specs.declared.attribute.AttributeKind.TheVariants as ak
use Rattle.razor_ast.specs.declared.attribute.ValuePart.{ValuePart}
use Rattle.razor_ast.specs.declared.node.TNode.{TNode}
use Rattle.razor_ast.specs.declared.node.TNode.TheVariants as nd
use Rattle.razor_ast.specs.declared.node.TSection.{TSection}

-- no jump leaves a body
abbrev pub NoJumps : Body → Type 0
NoJumps it = (statements : List Stmt) → it ≡ body.Block statements → ((body_leaves statements).breaks ≡ false) × ((body_leaves statements).continues ≡ false)

-- no jump leaves the body of a lambda, if the expression is one
abbrev pub LambdaFormed : Expr → Type 0
LambdaFormed a = (name : Option Ident) (it : Body) → a.kind ≡ ek.Lambda name it → NoJumps it

-- an attribute of a name, with the next number before it and behind it; the name of an event begins with an at sign
pub data KindFormed : ℕ → ℕ → List ℕ → AttributeKind → Type 0 where
  mixed : (n : ℕ) (name : List ℕ) (value : List ValuePart) → KindFormed n (n + 1) name (ak.Mixed n value)
  key : (n : ℕ) (name : List ℕ) (a : Expr) → KindFormed n n name (ak.Key a)
  event : (n : ℕ) (name : List ℕ) (a : Expr) → LambdaFormed a → KindFormed n (n + 1) (64 ∷ name) (ak.Event n a)
  bound : (n : ℕ) (name : List ℕ) (field : Ident) → KindFormed n (n + 2) name (ak.Bind n field)
  bind_event : (n : ℕ) (name : List ℕ) → KindFormed n n name ak.BindEvent

-- attributes one behind another
pub data AttributesFormed : ℕ → ℕ → List Attribute → Type 0 where
  no_attribute : (n : ℕ) → AttributesFormed n n []
  an_attribute : (n i m : ℕ) (one : Attribute) (others : List Attribute) → KindFormed n i one.name one.kind → AttributesFormed i m others → AttributesFormed n m (one ∷ others)

-- a statement that may stand at the start of a `for`
pub data IsStart : StmtKind → Type 0 where
  local : (cs_type : Option TypeExpr) (name : Ident) (value : Option Expr) → IsStart (st.Local cs_type name value)
  act : (a : Expr) → IsStart (st.Expr a)

-- what isn't a statement
abbrev pub NoStatement : TNode → Type 0
NoStatement node = (a : Stmt) → node ≡ nd.Statement a → ⊥

mutual
  -- A part of a template without tags of components, with the next number before it and behind it; where the first argument holds, a loop or a `switch` stands round it that a `break` leaves.
  pub data Formed : Bool → ℕ → ℕ → TNode → Type 0 where
    element : (j : Bool) (n i m : ℕ) (place : Place) (name : Ident) (attributes : List Attribute) (children : List TNode) →
        AttributesFormed (n + 1) i attributes → ContentFormed i m children → Formed j n m (nd.Element n place name attributes children)
    text : (j : Bool) (n : ℕ) (place : Place) (said : List ℕ) → Formed j n (n + 1) (nd.Text n place said)
    raw : (j : Bool) (n : ℕ) (place : Place) (said : List ℕ) → Formed j n (n + 1) (nd.Raw n place said)
    shown : (j : Bool) (n : ℕ) (place : Place) (a : Expr) → Formed j n (n + 1) (nd.Content n place a)
    group : (j : Bool) (n m : ℕ) (place : Place) (items : List TNode) → ContentFormed n m items → Formed j n m (nd.Group place items)
    simple : (j : Bool) (n : ℕ) (a : Stmt) → IsSimple a.kind → Formed j n n (nd.Statement a)
    break_out : (j : Bool) (n : ℕ) (place : Place) → IsTrue j → Formed j n n (break_at place)
    go_on : (j : Bool) (n : ℕ) (place : Place) → Formed j n n (continue_at place)
    block : (j : Bool) (n m : ℕ) (place : Place) (items : List TNode) → AllFormed j n m items → Formed j n m (nd.Block place items)
    if_only : (j : Bool) (n m : ℕ) (place : Place) (a : Expr) (holds : TNode) → Formed j n m holds → Formed j n m (nd.If place a holds None)
    if_else : (j : Bool) (n i m : ℕ) (place : Place) (a : Expr) (holds fails : TNode) → Formed j n i holds → Formed j i m fails → Formed j n m (nd.If place a holds (Some fails))
    switch : (j : Bool) (n m : ℕ) (place : Place) (a : Expr) (sections : List TSection) → SectionsFormed n m sections → Formed j n m (nd.Switch place a sections)
    while_loop : (j : Bool) (n m : ℕ) (place : Place) (a : Expr) (turn : TNode) → Formed true (n + 1) m turn → Formed j n m (nd.While n place a turn)
    for_loop : (j : Bool) (n m : ℕ) (place : Place) (start : Option Stmt) (test step : Option Expr) (turn : TNode) →
        ((a : Stmt) → start ≡ Some a → IsStart a.kind) → Formed true (n + 1) m turn → Formed j n m (nd.For n place start test step turn)
    for_each : (j : Bool) (n m : ℕ) (place : Place) (name : Ident) (list : Expr) (turn : TNode) → Formed true (n + 1) m turn → Formed j n m (nd.ForEach n place name list turn)

  -- parts of code with markup, one behind another
  pub data AllFormed : Bool → ℕ → ℕ → List TNode → Type 0 where
    none : (j : Bool) (n : ℕ) → AllFormed j n n []
    more : (j : Bool) (n i m : ℕ) (one : TNode) (others : List TNode) → Formed j n i one → AllFormed j i m others → AllFormed j n m (one ∷ others)

  -- content: no statement stands in it itself, and a `break` doesn't lead out of it
  pub data ContentFormed : ℕ → ℕ → List TNode → Type 0 where
    no_content : (n : ℕ) → ContentFormed n n []
    some_content : (n i m : ℕ) (one : TNode) (others : List TNode) → NoStatement one → Formed false n i one → ContentFormed i m others → ContentFormed n m (one ∷ others)

  -- the sections of a `switch`
  pub data SectionsFormed : ℕ → ℕ → List TSection → Type 0 where
    no_section : (n : ℕ) → SectionsFormed n n []
    a_section : (n i m : ℕ) (labels : List Label) (items : List TNode) (others : List TSection) → AllFormed true n i items → SectionsFormed i m others → SectionsFormed n m (section labels items ∷ others)

-- no jump leaves the body of a method
abbrev pub MethodFormed : MemberKind → Type 0
MethodFormed (Method result name arguments of) = NoJumps of
MethodFormed (Getter result name value) = Unit {0}
MethodFormed (Field cs_type name initial) = Unit {0}
MethodFormed (Parameter cascading source cs_type name initial) = Unit {0}
MethodFormed (RecordDef name parts) = Unit {0}

abbrev pub MethodsFormed : List Member → Type 0
MethodsFormed [] = Unit {0}
MethodsFormed (one ∷ others) = MethodFormed one.kind × MethodsFormed others
