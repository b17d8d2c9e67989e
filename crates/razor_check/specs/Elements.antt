-- The rules of the attributes of elements, each by itself: no part of what the checker promises.
use Rattle.std.specs.Prelude.{ℕ, List, [], Some}
use Rattle.std.specs.List.{flat_map}
use Rattle.cs_ast.specs.declared.member.Member.{Member}
use Rattle.cs_rules.specs.declared.rule.Rule.TheVariants.{BadBind}
use Rattle.razor_ast.specs.declared.attribute.AttributeKind.{AttributeKind}
use Rattle.razor_ast.specs.declared.attribute.AttributeKind.TheVariants as ak
use Rattle.razor_ast.specs.declared.attribute.ValuePart.{ValuePart}
use Rattle.razor_ast.specs.declared.attribute.ValuePart.TheVariants as part
use Rattle.razor_rules.specs.declared.finding.Broken.{Broken}
use Rattle.razor_rules.specs.declared.ground.Ground.{Ground}
use Rattle.razor_rules.specs.Findings.{found, broken_unless}
use Rattle.razor_rules.specs.Elements.{event_type, field_type, is_bindable}
use Rattle.razor_rules.specs.Values.{shown_value, key, callback}

abbrev pub part_rules : Ground → ValuePart → List Broken
part_rules g (part.Literal text) = []
part_rules g (part.Shown a) = found (shown_value g a)

abbrev pub attribute_rules : List Member → Ground → AttributeKind → List ℕ → List Broken
attribute_rules members g (ak.Mixed number value) name = flat_map (part_rules g) value
attribute_rules members g (ak.Key a) name = found (key g a)
attribute_rules members g (ak.Event number a) name = found (callback g a (Some (event_type name)))
attribute_rules members g (ak.Bind number field) name = broken_unless (is_bindable (field_type members field.name)) BadBind field.place
attribute_rules members g ak.BindEvent name = []
attribute_rules members g (ak.Parameter number given) name = []
attribute_rules members g (ak.Context number said) name = []
