-- What the types of code are told by.
use Rattle.std.specs.Prelude.{ℕ, List, Option}
use Rattle.cs_ast.specs.declared.cs_type.CsType.{CsType}

-- a record: the number of its declaration, and the types of its parts in their order
pub record RecordType : Type 0 where
  pub number : ℕ
  pub parts : List CsType

-- a body or a template: the component whose fields and parameters it uses, the types of the locals that it begins with, and the type of its result
pub record Signature : Type 0 where
  pub component : ℕ
  pub locals : List CsType
  pub result : CsType

-- the records by their names; the own fields and the parameters of each component, the bodies and the templates by their numbers; and of each instance that is there its component
pub record Types : Type 0 where
  pub records : List ℕ → Option RecordType
  pub fields : ℕ → ℕ → Option CsType
  pub parameters : ℕ → ℕ → Option CsType
  pub bodies : ℕ → Option Signature
  pub templates : ℕ → Option Signature
  pub instances : ℕ → Option ℕ

-- the same, where these instances are there
abbrev pub with_instances : Types → (ℕ → Option ℕ) → Types
with_instances types instances = record types { instances = instances }
