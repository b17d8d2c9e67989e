-- What printable nodes are known to have in them.
use Rattle.std.proofs.Common.{◌≡◌, Bool, true, false, List, [], ◌∷◌, ◌++◌, Some, None, sym, subst}
use Rattle.std.specs.declared.option.Option.{Option}
use Rattle.cs_grammar.specs.Expressions.{SpelledExpression}
use Rattle.cs_grammar.specs.Lambdas.{SpelledValue}
use Rattle.cs_grammar.specs.Statements.{Start, Condition, Step, Labels}
use Rattle.razor_token.specs.Tags.{is_component}
use Rattle.razor_ast.specs.declared.node.TNode.{TNode, TNode-F, out-TNode}
use Rattle.razor_ast.specs.declared.node.TNode.TheVariants as nd
use Rattle.razor_ast.specs.declared.node.TNode.TheViews.{out-roll-TSection}
use Rattle.razor_ast.specs.declared.node.TSection.{TSection, out-TSection}
use Rattle.printed_pieces.specs.Printable.{ArePrintable}
use Rattle.printed_pieces.specs.PrintableNodes.{ContentPrints, ItemPrints, TagPrints, CodePrints, BodyPrints, OtherwisePrints, StatementPrints, LinePrints, LinesPrint, SectionsPrint, FilePrints}
use Rattle.printed_pieces.specs.PrintableNodes as pn
use Rattle.printed_pieces.specs.Written.{IsWritten, Named, OneStatement}

-- a body is printable, in content or in a block
abbrev pub KnownBody : TNode → Type 0
KnownBody a = (b : Bool) × BodyPrints b a

-- the other branch of an `if`
abbrev pub KnownBranch : Option TNode → Type 0
KnownBranch None = Unit {0}
KnownBranch (Some a) = (b : Bool) × OtherwisePrints b a

-- of a node by its parts
abbrev pub Known : TNode-F TNode TSection → Type 0
Known (TNode-F.Element n p name all children) = ArePrintable (is_component name.name) all × ContentPrints false children
Known (TNode-F.Child n p name all children) = ArePrintable (is_component name.name) all × ContentPrints false children
Known (TNode-F.Text n p said) = Unit {0}
Known (TNode-F.Raw n p said) = Unit {0}
Known (TNode-F.Content n p a) = IsWritten SpelledValue a
Known (TNode-F.Group p items) = ContentPrints false items
Known (TNode-F.Statement a) = IsWritten OneStatement a
Known (TNode-F.Block p items) = LinesPrint items
Known (TNode-F.If p a holds fails) = IsWritten SpelledExpression a × KnownBody holds × KnownBranch fails
Known (TNode-F.Switch p a sections) = IsWritten SpelledExpression a × SectionsPrint sections
Known (TNode-F.For n p start test next body) =
    IsWritten (λ ts x. Start ts [] x) start × IsWritten (λ ts x. Condition ts [] x) test × IsWritten (λ ts x. Step ts [] x) next × KnownBody body
Known (TNode-F.ForEach n p name a body) = IsWritten Named name.name × IsWritten SpelledExpression a × KnownBody body
Known (TNode-F.While n p a body) = IsWritten SpelledExpression a × KnownBody body

-- of a node
abbrev pub Knows : TNode → Type 0
Knows a = Known (out-TNode a)

-- of nodes one behind another
abbrev pub AllKnown : List TNode → Type 0
AllKnown [] = Unit {0}
AllKnown (a ∷ others) = Knows a × AllKnown others

-- of a section of a `switch`
abbrev pub KnowsSection : TSection → Type 0
KnowsSection a = IsWritten (λ ts x. Labels ts [] x) (out-TSection a).labels × LinesPrint (out-TSection a).items

abbrev pub AllSections : List TSection → Type 0
AllSections [] = Unit {0}
AllSections (a ∷ others) = KnowsSection a × AllSections others

-- by its parts
from-parts : (a : TNode) (x : TNode-F TNode TSection) → out-TNode a ≡ x → Known x → Knows a
from-parts a x e h = subst (λ z. Known z) (sym e) h

pub tag-knows : (a : TNode) → TagPrints a → Knows a
tag-knows _ (pn.element n p name all children is attributes void h) = from-parts _ _ (nd.outs-Element n p name all children) (attributes, h)
tag-knows _ (pn.child n p name all children is attributes void h) = from-parts _ _ (nd.outs-Child n p name all children) (attributes, h)

pub code-knows : (b : Bool) (a : TNode) → CodePrints b a → Knows a
code-knows _ _ (pn.block b p items is) = from-parts _ _ (nd.outs-Block p items) is
code-knows _ _ (pn.if_alone b p a holds is body) = from-parts _ _ (nd.outs-If p a holds None) (is, (b, body), tt)
code-knows _ _ (pn.if_else b p a holds fails is body other) = from-parts _ _ (nd.outs-If p a holds (Some fails)) (is, (b, body), (b, other))
code-knows _ _ (pn.while_ b n p a body is inner) = from-parts _ _ (nd.outs-While n p a body) (is, (b, inner))
code-knows _ _ (pn.for_ b n p start test next body one two three inner) = from-parts _ _ (nd.outs-For n p start test next body) (one, two, three, (b, inner))
code-knows _ _ (pn.foreach_ b n p name a body named is inner) = from-parts _ _ (nd.outs-ForEach n p name a body) (named, is, (b, inner))
code-knows _ _ (pn.switch_ b p a sections is inner) = from-parts _ _ (nd.outs-Switch p a sections) (is, inner)

pub statement-knows : (a : TNode) → StatementPrints a → Knows a
statement-knows _ (pn.simple a is) = from-parts _ _ (nd.outs-Statement a) is
statement-knows _ (pn.statement_of_code a is) = code-knows true a is

pub body-knows : (b : Bool) (a : TNode) → BodyPrints b a → Knows a
body-knows _ _ (pn.in_block b p items is) = from-parts _ _ (nd.outs-Block p items) is
body-knows _ _ (pn.other a is) = statement-knows a is

pub otherwise-knows : (b : Bool) (a : TNode) → OtherwisePrints b a → Knows a
otherwise-knows _ _ (pn.otherwise_body b a is) = body-knows b a is
otherwise-knows _ _ (pn.otherwise_if p a holds fails is) = code-knows false (nd.If p a holds fails) is

pub item-knows : (a : TNode) → ItemPrints a → Knows a
item-knows _ (pn.of_tag a is) = tag-knows a is
item-knows _ (pn.of_shown n p a is) = from-parts _ _ (nd.outs-Content n p a) is
item-knows _ (pn.of_code a is) = code-knows false a is

line-knows : (a : TNode) → LinePrints a → Knows a
line-knows _ (pn.a_statement a is) = statement-knows a is
line-knows _ (pn.a_tag a is) = tag-knows a is
line-knows _ (pn.a_shown n p a is) = from-parts _ _ (nd.outs-Content n p a) is
line-knows _ (pn.a_group p items is) = from-parts _ _ (nd.outs-Group p items) is

pub content-known : (b : Bool) (nodes : List TNode) → ContentPrints b nodes → AllKnown nodes
content-known _ _ (pn.nothing b) = tt
content-known _ _ (pn.text n p said others is later) = (from-parts _ _ (nd.outs-Text n p said) tt, content-known true others later)
content-known _ _ (pn.raw n p said others is later) = (from-parts _ _ (nd.outs-Raw n p said) tt, content-known true others later)
content-known _ _ (pn.item b a others is later) = (item-knows a is, content-known false others later)

pub file-known : (nodes : List TNode) → FilePrints nodes → AllKnown nodes
file-known _ pn.no_node = tt
file-known _ (pn.file_text n p said others is later) = (from-parts _ _ (nd.outs-Text n p said) tt, file-known others later)
file-known _ (pn.file_raw n p said others is later) = (from-parts _ _ (nd.outs-Raw n p said) tt, file-known others later)
file-known _ (pn.file_item a others is later) = (item-knows a is, file-known others later)

pub lines-known : (items : List TNode) → LinesPrint items → AllKnown items
lines-known _ pn.no_line = tt
lines-known _ (pn.more_lines a others is later) = (line-knows a is, lines-known others later)

pub sections-known : (sections : List TSection) → SectionsPrint sections → AllSections sections
sections-known _ pn.no_section = tt
sections-known _ (pn.more_sections labels items others marks is later) =
    (subst (λ z. IsWritten (λ ts x. Labels ts [] x) z.labels × LinesPrint z.items) (sym (out-roll-TSection (record { labels = labels; items = items }))) (marks, is), sections-known others later)

-- of those behind others
pub behind-known : (texts others : List TNode) → AllKnown (texts ++ others) → AllKnown others
behind-known [] others h = h
behind-known (a ∷ texts) others h = behind-known texts others h.1
