-- The equations of what operations do, one for each form.
use Rattle.std.proofs.Common.{◌≡◌, ℕ, List, map, sym, ap, ◌∙◌}
use Rattle.std.specs.Prelude.{Option}
use Rattle.cs_ast.specs.declared.code.Code.{Code}
use Rattle.cs_meaning.specs.Sections.{Section, section}
use Rattle.drawing_meaning.specs.Acts.{Act}
use Rattle.drawing_meaning.specs.Nodes as nodes
use Rattle.drawing_meaning.specs.Tags as tags
use Rattle.drawing_meaning.specs.Turns as turns
use Rattle.frame_core.specs.declared.made.Made.{Made}
use Rattle.frame_program.specs.declared.operation.Operation.{Operation}
use Rattle.frame_program.specs.declared.operation.Operation.TheVariants as o
use Rattle.frame_program.specs.declared.operation.Operation.TheOpen.{Operation-F}
use Rattle.frame_program.specs.declared.operation.Operation.TheViews.{roll-Operation}
use Rattle.frame_program.specs.declared.operation.Operation.TheFolds.{map-Operation, fold-roll-Operation, fold_out-OperationSection}
use Rattle.frame_program.specs.declared.operation.OperationSection.{OperationSection, out-OperationSection}
use Rattle.frame_program.specs.declared.parts.AttributePart.{AttributePart}
use Rattle.frame_program.specs.declared.parts.ContentForm.{ContentForm}
use Rattle.frame_program.specs.declared.parts.TagPart.{TagPart}
use Rattle.frame_program.specs.Operations.{act_of, acts_of_section, level, section_level, dressed_by, given_by, appears_in}

-- what a variant does
at_variant : (one : Operation) (x : Operation-F Operation OperationSection) → roll-Operation x ≡ one → act_of one ≡ level (map-Operation Operation OperationSection Act (Section (List Act)) act_of acts_of_section x)
unfolding act_of acts_of_section
at_variant one x e = ap act_of (sym e) ∙ fold-roll-Operation Act (Section (List Act)) level section_level x

pub element_law : (number : ℕ) (name : List ℕ) (parts : List AttributePart) (children : List Operation) → act_of (o.Element number name parts children) ≡ nodes.element number name (map dressed_by parts) (map act_of children)
element_law number name parts children = at_variant (o.Element number name parts children) (Operation-F.Element number name parts children) (o.rolls-Element number name parts children)

pub child_law : (number : ℕ) (made : Made) (parts : List TagPart) → act_of (o.Child number made parts) ≡ tags.component number made (map given_by parts)
child_law number made parts = at_variant (o.Child number made parts) (Operation-F.Child number made parts) (o.rolls-Child number made parts)

pub text_law : (number : ℕ) (text : List ℕ) → act_of (o.Text number text) ≡ nodes.text number text
text_law number text = at_variant (o.Text number text) (Operation-F.Text number text) (o.rolls-Text number text)

pub raw_law : (number : ℕ) (text : List ℕ) → act_of (o.Raw number text) ≡ nodes.raw number text
raw_law number text = at_variant (o.Raw number text) (Operation-F.Raw number text) (o.rolls-Raw number text)

pub content_law : (number : ℕ) (form : ContentForm) (code : Code) → act_of (o.Content number form code) ≡ nodes.content number (appears_in form) code
content_law number form code = at_variant (o.Content number form code) (Operation-F.Content number form code) (o.rolls-Content number form code)

pub statement_law : (code : Code) → act_of (o.Statement code) ≡ nodes.statement code
statement_law code = at_variant (o.Statement code) (Operation-F.Statement code) (o.rolls-Statement code)

pub break_law : act_of o.Break ≡ nodes.break_out
break_law = at_variant o.Break Operation-F.Break o.rolls-Break

pub block_law : (operations : List Operation) → act_of (o.Block operations) ≡ nodes.block (map act_of operations)
block_law operations = at_variant (o.Block operations) (Operation-F.Block operations) (o.rolls-Block operations)

pub if_law : (test : Code) (holds fails : List Operation) → act_of (o.If test holds fails) ≡ nodes.branch test (map act_of holds) (map act_of fails)
if_law test holds fails = at_variant (o.If test holds fails) (Operation-F.If test holds fails) (o.rolls-If test holds fails)

pub switch_law : (value : Code) (sections : List OperationSection) → act_of (o.Switch value sections) ≡ nodes.switch value (map acts_of_section sections)
switch_law value sections = at_variant (o.Switch value sections) (Operation-F.Switch value sections) (o.rolls-Switch value sections)

pub for_law : (number : ℕ) (start test step : Option Code) (keyed : Option ℕ) (body : List Operation) → act_of (o.For number start test step keyed body) ≡ turns.for_loop number start test step keyed (map act_of body)
for_law number start test step keyed body = at_variant (o.For number start test step keyed body) (Operation-F.For number start test step keyed body) (o.rolls-For number start test step keyed body)

pub for_each_law : (number : ℕ) (list : Code) (keyed : Option ℕ) (body : List Operation) → act_of (o.ForEach number list keyed body) ≡ turns.for_each number list keyed (map act_of body)
for_each_law number list keyed body = at_variant (o.ForEach number list keyed body) (Operation-F.ForEach number list keyed body) (o.rolls-ForEach number list keyed body)

pub while_law : (number : ℕ) (test : Code) (keyed : Option ℕ) (body : List Operation) → act_of (o.While number test keyed body) ≡ turns.while_loop number test keyed (map act_of body)
while_law number test keyed body = at_variant (o.While number test keyed body) (Operation-F.While number test keyed body) (o.rolls-While number test keyed body)

-- what a section does
pub section_law : (one : OperationSection) → acts_of_section one ≡ section (out-OperationSection one).constants (out-OperationSection one).otherwise (map act_of (out-OperationSection one).operations)
unfolding act_of acts_of_section
section_law one = fold_out-OperationSection Act (Section (List Act)) level section_level one
