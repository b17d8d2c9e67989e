-- Components whose code can run: it is of the first forms over their own fields, and these are numbers.
use Rattle.std.specs.Prelude.{◌≡◌, ℕ, ◌<◌, ◌≤◌, ℤ, length, All}
use Rattle.cs_ast.specs.declared.value.Value.TheVariants.{Int}
use Rattle.cs_meaning.specs.FirstForms.{IsStatement}
use Rattle.first_click.specs.declared.component.Component.{Component}
use Rattle.first_click.specs.declared.component.Field.{Field}
use Rattle.first_click.specs.declared.component.Method.{Method}
use Rattle.first_click.specs.Weight.{weights}

-- the field's value is a number
abbrev pub IsNumeric : Field → Type 0
IsNumeric field = (number : ℤ) × (field.value ≡ Int number)

-- each field is a number, each method is a statement over so many fields, each handler is one of the methods, and the items are light
pub record IsRunnable (component : Component) : Type 0 where
  pub numbers : All IsNumeric component.fields
  pub statements : All (λ (method : Method). IsStatement (length component.fields) method.body) component.methods
  pub handled : All (λ position. position < length component.methods) component.handlers
  pub light : weights component.items ≤ 1000000
