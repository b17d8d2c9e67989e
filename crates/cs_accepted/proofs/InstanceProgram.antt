-- A program stays accepted where other instances are there.
use Rattle.std.proofs.Common.{◌≡◌, ℕ, List}
use Rattle.std.specs.Prelude.{Option, Some}
use Rattle.cs_ast.specs.declared.code.Code.{Code}
use Rattle.cs_ast.specs.declared.cs_type.CsType.{CsType}
use Rattle.cs_ast.specs.declared.scope.NameKind.{NameKind}
use Rattle.cs_ast.specs.declared.scope.Scope.{Scope}
use Rattle.cs_typing.specs.Types.{Signature, Types, with_instances}
use Rattle.cs_typing.specs.Expressions.{Surroundings}
use Rattle.cs_typing.specs.Bodies.{surroundings_of}
use Rattle.cs_accepted.specs.Scopes.{MethodHas, NameFits, ScopeFits}
use Rattle.cs_accepted.specs.Scopes as scope
use Rattle.cs_accepted.specs.Programs.{AcceptedAs, ProgramAccepted}

module _ (types : Types) (instances : ℕ → Option ℕ) (component : ℕ) where
  abbrev before : Surroundings
  before = record { types = types; component = component }

  abbrev behind : Surroundings
  behind = record { types = with_instances types instances; component = component }

  method_still : (takes : List CsType) (type : CsType) (number : ℕ) → MethodHas before takes type number → MethodHas behind takes type number
  method_still takes type number m = record { body = m.body; numbered = m.numbered; own = m.own; takes_them = m.takes_them; gives_it = m.gives_it }

  name_still : (locals : List CsType) (type : CsType) (number : ℕ) (k : NameKind) → NameFits before locals type number k → NameFits behind locals type number k
  name_still locals type number k (scope.field h) = scope.field h
  name_still locals type number k (scope.parameter h) = scope.parameter h
  name_still locals type number k (scope.local h) = scope.local h
  name_still locals type number k (scope.getter m) = scope.getter (method_still _ type number m)
  name_still locals type number k (scope.method takes m) = scope.method takes (method_still takes type number m)

  scope_still : (locals : List CsType) (s : Scope) → ScopeFits before locals s → ScopeFits behind locals s
  scope_still locals s fit = record { names = λ name one e. name_still locals one.cs_type one.place one.kind (fit.names name one e); count = fit.count; records = fit.records }

pub program_still : (types : Types) (instances : ℕ → Option ℕ) (bodies : List (ℕ × Code)) → ProgramAccepted types bodies → ProgramAccepted (with_instances types instances) bodies
program_still types instances bodies p = record { has = λ number body e. let k = p.has number body e in (k.0, k.1, still body k.0 k.2) }
  where
    still : (body : Signature) (code : Code) → AcceptedAs types body code → AcceptedAs (with_instances types instances) body code
    still body code a = record { scope = a.scope; tree = a.tree; accepts = a.accepts; scope_fits = scope_still types instances body.component body.locals a.scope a.scope_fits; result_is = a.result_is }
