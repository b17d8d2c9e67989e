-- What uses locals from outside it.
use Rattle.std.specs.Prelude.{◌&&◌, ◌||◌, Bool, map}
use Rattle.cs_ast.specs.declared.scope.Named.{Named}
use Rattle.cs_effects.specs.declared.deed.Deed.{Deed}
use Rattle.cs_rules.specs.Names.{is_local}
use Rattle.razor_rules.specs.TemplateDeeds.{reading, changing, expression_does}
use Rattle.page_meaning.specs.Parts.{any_does, part_of}
use Rattle.frame_parts.specs.declared.captures.User.{User}
use Rattle.frame_parts.specs.declared.captures.User.TheVariants as user

-- what it does besides computing
abbrev pub does : User → Deed → Bool
does (user.Expression a) deed = expression_does deed a.now
does (user.Content nodes) deed = any_does (map part_of nodes.now) deed

-- whether a name is that of a local that it uses
abbrev pub is_used : User → Named → Bool
is_used user one = is_local one.kind && (does user (reading one.name) || does user (changing one.name))
