-- Which rule an expression breaks by what its code does at its root.
use Rattle.std.specs.Prelude.{◌==◌, [], slice_get, if◌then◌else◌, Option, Some, None}
use Rattle.std.specs.List.{list_any}
use Rattle.cs_ast.specs.declared.code.Code.{Code, out-Code}
use Rattle.cs_ast.specs.declared.code.Code.TheOpen.{Code-F}
use Rattle.cs_ast.specs.declared.code.Variable.{Variable}
use Rattle.cs_ast.specs.declared.code.Variable.TheVariants as variable
use Rattle.cs_rules.specs.declared.callee.Called.{Called}
use Rattle.cs_rules.specs.declared.callee.Called.TheVariants as called
use Rattle.cs_rules.specs.declared.rule.Rule.{Rule}
use Rattle.cs_rules.specs.declared.rule.Rule.TheVariants.{ForCapture, ChangedCapture}
use Rattle.cs_forbidden.specs.declared.forbidden.Forbidden.{Forbidden}
use Rattle.cs_forbidden.specs.declared.forbidden.Mark.{Mark}
use Rattle.cs_forbidden.specs.declared.forbidden.Mark.TheVariants as mark

-- nothing is forbidden
abbrev pub nothing : Forbidden
nothing = record { outside = []; changes = None; invokes = None; bodies = [] }

-- the rule against the use of a local from outside
abbrev pub against_mark : Option Mark → Option Rule
against_mark (Some mark.OfFor) = Some ForCapture
against_mark (Some mark.Changed) = Some ChangedCapture
against_mark _ = None

-- the rule against an assignment or a step
abbrev pub against_change : Forbidden → Variable → Option Rule
against_change f (variable.Local number) = against_mark (slice_get f.outside number)
against_change f (variable.Field number) = f.changes

abbrev pub against_level : Forbidden → Code-F Code → Option Rule
against_level f (Code-F.Local number) = against_mark (slice_get f.outside number)
against_level f (Code-F.Assign target op value) = against_change f target
against_level f (Code-F.Step target op) = against_change f target
against_level f (Code-F.Call number arguments) = if list_any (λ one. one == number) f.bodies then f.invokes else None
against_level f (Code-F.Invoke target argument) = f.invokes
against_level f _ = None

-- the rule against code of an expression
unfoldable pub against : Forbidden → Code → Option Rule
against f code = against_level f (out-Code code)

-- the rule against what is called: a fragment that is called is used as a value is
unfoldable pub against_called : Forbidden → Called → Option Rule
against_called f (called.Fill code) = against f code
against_called f _ = None
