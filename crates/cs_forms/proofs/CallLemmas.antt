-- Calls by their first argument, if there is one.
use Rattle.std.proofs.Common.{◌≡◌, List, [], ◌∷◌, refl, sym, ap, ◌∙◌}
use Rattle.std.specs.Prelude.{Option, Some, None, slice_get}
use Rattle.cs_ast.specs.declared.code.Code.{Code}
use Rattle.cs_ast.specs.declared.code.Code.TheVariants as c
use Rattle.cs_rules.specs.declared.callee.Called.TheVariants as called
use Rattle.cs_rules.specs.Library.{code_of_call}

pub invoked : (target : Code) (arguments : List Code) → code_of_call (called.Invoke target) arguments ≡ c.Invoke target (slice_get arguments 0)
unfolding code_of_call
invoked target [] = refl
invoked target (argument ∷ others) = refl

-- the argument, or else what stands in its place
abbrev filled_by : Code → Option Code → Code
filled_by target None = target
filled_by target (Some argument) = c.Fill target argument

filled : (target : Code) (arguments : List Code) → code_of_call (called.Fill target) arguments ≡ filled_by target (slice_get arguments 0)
unfolding code_of_call
filled target [] = refl
filled target (argument ∷ others) = refl

pub not_filled : (target : Code) (arguments : List Code) → None ≡ slice_get arguments 0 → code_of_call (called.Fill target) arguments ≡ target
not_filled target arguments is = filled target arguments ∙ ap (filled_by target) (sym is)

pub is_filled : (target : Code) (arguments : List Code) (argument : Code) → Some argument ≡ slice_get arguments 0 → code_of_call (called.Fill target) arguments ≡ c.Fill target argument
is_filled target arguments argument is = filled target arguments ∙ ap (filled_by target) (sym is)
