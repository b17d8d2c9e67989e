-- What operations do: by recursion on them, the acts of templates.
use Rattle.std.specs.Prelude.{List, map}
use Rattle.cs_meaning.specs.Sections.{Section, section}
use Rattle.drawing_meaning.specs.Acts.{Act}
use Rattle.drawing_meaning.specs.Attributes as attributes
use Rattle.drawing_meaning.specs.Attributes.{Dresses, wears, keyed_by}
use Rattle.drawing_meaning.specs.Nodes as nodes
use Rattle.drawing_meaning.specs.Nodes.{Appears, as_text, as_markup, as_fragment}
use Rattle.drawing_meaning.specs.Tags as tags
use Rattle.drawing_meaning.specs.Tags.{Gives}
use Rattle.drawing_meaning.specs.Texts.{Says, literal, shown_code}
use Rattle.drawing_meaning.specs.Turns as turns
use Rattle.frame_program.specs.declared.operation.Operation.{Operation}
use Rattle.frame_program.specs.declared.operation.OperationSection.{OperationSection}
use Rattle.frame_program.specs.declared.operation.Operation.TheOpen.{Operation-F, OperationSection-F}
use Rattle.frame_program.specs.declared.operation.Operation.TheFolds.{fold-Operation, fold-OperationSection}
use Rattle.frame_program.specs.declared.parts.AttributePart.{AttributePart}
use Rattle.frame_program.specs.declared.parts.AttributePart.TheVariants as attribute
use Rattle.frame_program.specs.declared.parts.ContentForm.{ContentForm}
use Rattle.frame_program.specs.declared.parts.ContentForm.TheVariants as form
use Rattle.frame_program.specs.declared.parts.TagPart.{TagPart}
use Rattle.frame_program.specs.declared.parts.TagPart.TheVariants as tag
use Rattle.frame_program.specs.declared.parts.TextPart.{TextPart}
use Rattle.frame_program.specs.declared.parts.TextPart.TheVariants as part

abbrev pub appears_in : ContentForm → Appears
appears_in form.Text = as_text
appears_in form.Markup = as_markup
appears_in form.Fragment = as_fragment

abbrev pub said_by : TextPart → Says
said_by (part.Literal text) = literal text
said_by (part.Shown code) = shown_code code

abbrev pub dressed_by : AttributePart → Dresses
dressed_by (attribute.Key code) = keyed_by code
dressed_by (attribute.Empty number name) = wears (attributes.empty number name)
dressed_by (attribute.Whole number name code) = wears (attributes.whole number name code)
dressed_by (attribute.Mixed number name parts) = wears (attributes.mixed number name (map said_by parts))
dressed_by (attribute.Event number name code) = wears (attributes.event number name code)
dressed_by (attribute.Handler number name place) = wears (attributes.own_handler number name place)

abbrev pub given_by : TagPart → Gives
given_by (tag.Key code) = tags.given_key code
given_by (tag.Text place text) = tags.given_text place text
given_by (tag.Value place code) = tags.given_value place code
given_by (tag.Content place number locals) = tags.given_content place number locals
given_by (tag.Fragment place number locals) = tags.given_fragment place number locals

-- one level of an operation, by what its parts do
abbrev pub level : Operation-F Act (Section (List Act)) → Act
level (Operation-F.Element number name parts children) = nodes.element number name (map dressed_by parts) children
level (Operation-F.Child number made parts) = tags.component number made (map given_by parts)
level (Operation-F.Text number text) = nodes.text number text
level (Operation-F.Raw number text) = nodes.raw number text
level (Operation-F.Content number form code) = nodes.content number (appears_in form) code
level (Operation-F.Statement code) = nodes.statement code
level Operation-F.Break = nodes.break_out
level (Operation-F.Block operations) = nodes.block operations
level (Operation-F.If test holds fails) = nodes.branch test holds fails
level (Operation-F.Switch value sections) = nodes.switch value sections
level (Operation-F.For number start test step keyed body) = turns.for_loop number start test step keyed body
level (Operation-F.ForEach number list keyed body) = turns.for_each number list keyed body
level (Operation-F.While number test keyed body) = turns.while_loop number test keyed body

abbrev pub section_level : (it : OperationSection-F Act (Section (List Act))) → Section (List Act)
section_level it = section it.constants it.otherwise it.operations

-- what an operation does
unfoldable pub act_of : Operation → Act
act_of = fold-Operation Act (Section (List Act)) level section_level

-- a section with what it does
unfoldable pub acts_of_section : OperationSection → Section (List Act)
acts_of_section = fold-OperationSection Act (Section (List Act)) level section_level
