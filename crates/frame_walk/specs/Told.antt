-- Handlers as they are told, and ids as they are taken.
use Rattle.std.specs.Prelude.{◌≡◌, ℕ, List, ◌++◌, length}
use Rattle.handler_ids.specs.declared.handler_value.HandlerValue.{HandlerValue}
use Rattle.frame_walk.specs.declared.told.Told.{Told}

abbrev pub told_of : Told → HandlerValue
told_of told = record { who = told.handler.now.who; place = told.handler.now.place; event = told.name.now; captures = told.handler.now.captures }

-- ids are taken from the end of a list, one for each of these values
pub record Takes (before after own : List ℕ) (values : List HandlerValue) : Type 0 where
  pub split : before ≡ after ++ own
  pub long : length own ≡ length values
