-- What the crate's own values stand for in the definitions of the rules.
use Rattle.std.specs.Prelude.{List}
use Rattle.cs_ast.specs.declared.member.Member.{Member}
use Rattle.razor_rules.specs.Members as members
use Rattle.razor_rules.specs.Parameters as parameters
use Rattle.razor_rules.specs.Scopes as scopes
use Rattle.razor_parts.specs.declared.home.Home.{Home}
use Rattle.razor_parts.specs.declared.names.Before.{Before}
use Rattle.razor_parts.specs.declared.tagged.Tagged.{Tagged}
use Rattle.razor_parts.specs.declared.tagged.Tagged.TheVariants as tagged

-- where the code of a component stands
abbrev pub home_of : Home → scopes.Home
home_of home =
    record { records = home.records.now; components = home.components.now; position = home.position; first = home.first; members = home.members.now }

-- how many fields, parameters and members there are before a member
abbrev pub before_of : Before → members.Before
before_of before = record { fields = before.fields; parameters = before.parameters; members = before.members }

-- what a tag is the tag of, where these are the records
abbrev pub tagged_view : List Member → Tagged → parameters.Tagged
tagged_view records tagged.CascadingValue = parameters.cascading_value
tagged_view records (tagged.Component one) = parameters.component (parameters.takes_in records one.now.members)
