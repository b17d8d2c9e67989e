-- What code is run with, where it keeps to the types.
use Rattle.std.specs.Prelude.{◌≡◌, Some}
use Rattle.cs_meaning.specs.Meaning.{Setting}
use Rattle.cs_typing.specs.Expressions.{Surroundings}
use Rattle.cs_typing.specs.Bodies.{BodiesHave}
use Rattle.cs_typing.specs.States.{FieldsHave}

-- the instance is there and of the component that the code belongs to, the parameters of all instances have their types, and the bodies keep to their signatures
pub record SettingHas (at : Surroundings) (around : Setting) : Type 0 where
  pub there : at.types.instances around.who ≡ Some at.component
  pub parameters_have : FieldsHave at.types at.types.parameters around.parameters
  pub bodies_have : BodiesHave at.types around.bodies
