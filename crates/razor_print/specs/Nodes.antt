-- What is printed of content, and of code with markup.
use Rattle.std.specs.Prelude.{ℕ, Bool, true, false, List, [], ◌∷◌, ◌++◌, map, codes, Option, Some, None, option_map, if◌then◌else◌}
use Rattle.std.specs.List.{flat_map}
use Rattle.cs_ast.specs.declared.expression.Expr.{Expr}
use Rattle.cs_ast.specs.declared.expression.Label.{Label}
use Rattle.cs_ast.specs.declared.expression.Stmt.{Stmt}
use Rattle.cs_token.specs.declared.token.TokenKind.TheVariants as t
use Rattle.cs_token.specs.declared.token.Word.{Word}
use Rattle.cs_token.specs.declared.token.Word.TheVariants as w
use Rattle.cs_print.specs.Printed.{Kinds, whole, printed, in_round, ended, optional, started, joined, label_kinds, statement_kinds}
use Rattle.razor_token.specs.declared.piece.PieceKind.TheVariants as k
use Rattle.razor_token.specs.ContentFronts.{is_word}
use Rattle.razor_token.specs.Cutting.{last_of}
use Rattle.razor_ast.specs.declared.attribute.Attribute.{Attribute}
use Rattle.razor_ast.specs.declared.node.TNode.{TNode}
use Rattle.razor_ast.specs.declared.node.TNode.TheOpen.{TNode-F}
use Rattle.razor_ast.specs.declared.node.TNode.TheFolds.{fold-TNode, fold-TSection}
use Rattle.razor_ast.specs.declared.node.TSection.{TSection}
use Rattle.razor_print.specs.declared.before.Before.{Before}
use Rattle.razor_print.specs.declared.before.Before.TheVariants as before
use Rattle.razor_print.specs.Parts.{Part, Parts, piece, token, said, apart, tokens, in_block, shown}
use Rattle.razor_print.specs.Attributes.{attributes_parts}

-- What is printed of a node: in content, and in code with markup; whether an at sign and a word begin it in content; and what it is to
-- the node right behind it.
pub record Printed : Type 0 where
  pub content : Parts
  pub code : Parts
  pub marked : Bool
  pub leaves : Before

-- literal text
abbrev pub is_text : Before → Bool
is_text before.Text = true
is_text before.Word = true
is_text _ = false

-- Behind a letter or a digit an at sign and a word would be literal text, and behind an `if` a text could go on with it.
abbrev pub is_parted : Before → Bool → Bool → Bool
is_parted before.Word marked text = marked
is_parted before.If marked text = text
is_parted _ marked text = false

-- with a comment before it, or without
abbrev pub parted : Bool → Parts → Parts
parted true x = apart ∷ x
parted false x = x

-- a node of content behind such a node
abbrev pub item : Before → Printed → Parts
item behind x = parted (is_parted behind x.marked (is_text x.leaves)) x.content

-- nodes of content one behind another, the first behind such a node
abbrev pub content_from : Before → List Printed → Parts
content_from behind [] = []
content_from behind (x ∷ xs) = item behind x ++ content_from x.leaves xs

abbrev pub content : List Printed → Parts
content = content_from before.Other

-- code with markup
abbrev pub lines : List Printed → Parts
lines = flat_map (λ x. x.code)

-- `</` and the rest of an end tag
abbrev pub end_tag : List ℕ → Parts
end_tag name = piece (k.EndTagStart name) (60 ∷ 47 ∷ name) ∷ piece k.EndTagEnd (62 ∷ []) ∷ []

abbrev pub tag_start : List ℕ → Part
tag_start name = piece (k.TagStart name) (60 ∷ name)

abbrev pub content_start : Part
content_start = piece k.ContentStart (62 ∷ [])

-- what stands behind the attributes of a tag
abbrev pub inside : List ℕ → List Printed → Parts
inside name [] = piece k.EmptyTagEnd (47 ∷ 62 ∷ []) ∷ []
inside name (x ∷ xs) = content_start ∷ (content (x ∷ xs) ++ end_tag name)

unfoldable pub tag : List ℕ → List Attribute → List Printed → Parts
tag name attributes children = tag_start name ∷ (attributes_parts attributes ++ inside name children)

-- what a text is to the node right behind it
abbrev pub behind_text : List ℕ → Before
behind_text text = if is_word (last_of text) then before.Word else before.Text

-- these in `<text>`
unfoldable pub group : List Printed → Parts
group items = tag_start (codes "text") ∷ content_start ∷ (content items ++ end_tag (codes "text"))

-- a word, code in round brackets, and more
abbrev pub headed : Word → Kinds → Parts → Parts
headed word head x = token (t.Word word) ∷ (tokens (in_round head) ++ x)

-- the other branch, if there is one
abbrev pub otherwise : Option Printed → Parts
otherwise None = []
otherwise (Some x) = token (t.Word w.Else) ∷ x.code

unfoldable pub if_else : Expr → Printed → Option Printed → Parts
if_else a holds fails = headed w.If (whole (printed a)) (holds.code ++ otherwise fails)

unfoldable pub switch_of : Expr → List Parts → Parts
switch_of a sections = headed w.Switch (whole (printed a)) (in_block (flat_map (λ x. x) sections))

-- what stands in the brackets of a `for`, and of a `foreach`
abbrev pub for_head : Option Stmt → Option Expr → Option Expr → Kinds
for_head start condition step =
    started (option_map statement_kinds start) ++ (ended (optional (option_map printed condition)) ++ optional (option_map printed step))

abbrev pub foreach_head : List ℕ → Expr → Kinds
foreach_head name a = t.Word w.Var ∷ t.Name name ∷ t.Word w.In ∷ whole (printed a)

unfoldable pub for_loop : Option Stmt → Option Expr → Option Expr → Printed → Parts
for_loop start condition step body = headed w.For (for_head start condition step) body.code

unfoldable pub foreach_loop : List ℕ → Expr → Printed → Parts
foreach_loop name a body = headed w.Foreach (foreach_head name a) body.code

unfoldable pub while_loop : Expr → Printed → Parts
while_loop a body = headed w.While (whole (printed a)) body.code

-- the same in content and in code
abbrev pub either : Parts → Printed
either x = record { content = x; code = x; marked = false; leaves = before.Other }

-- code, with an at sign before it in content
abbrev pub coded : Bool → Before → Parts → Printed
coded marked leaves x = record { content = piece k.CodeAt (64 ∷ []) ∷ x; code = x; marked = marked; leaves = leaves }

-- literal text, which doesn't stand in code
abbrev pub literal : List ℕ → Printed
literal text = record { content = said text ∷ []; code = []; marked = false; leaves = behind_text text }

-- a statement, which doesn't stand in content
abbrev pub statement : Parts → Printed
statement x = record { content = []; code = x; marked = false; leaves = before.Other }

-- a node by its parts
abbrev pub node_form : TNode-F Printed Parts → Printed
node_form (TNode-F.Element n place name attributes children) = either (tag name.name attributes children)
node_form (TNode-F.Child n place name attributes children) = either (tag name.name attributes children)
node_form (TNode-F.Text n place text) = literal text
node_form (TNode-F.Raw n place text) = literal text
node_form (TNode-F.Content n place a) = either (shown (whole (printed a)))
node_form (TNode-F.Group place items) = either (group items)
node_form (TNode-F.Statement a) = statement (tokens (statement_kinds a))
node_form (TNode-F.Block place items) = coded false before.Other (in_block (lines items))
node_form (TNode-F.If place a holds fails) = coded true before.If (if_else a holds fails)
node_form (TNode-F.Switch place a sections) = coded true before.Other (switch_of a sections)
node_form (TNode-F.For n place start condition step body) = coded true before.Other (for_loop start condition step body)
node_form (TNode-F.ForEach n place name a body) = coded true before.Other (foreach_loop name.name a body)
node_form (TNode-F.While n place a body) = coded true before.Other (while_loop a body)

-- labels, and the code behind them
abbrev pub sectioned : List Label → List Printed → Parts
sectioned labels items = tokens (joined (map (λ label. label_kinds label.kind) labels)) ++ lines items

-- a node
unfoldable pub node : TNode → Printed
node = fold-TNode Printed Parts node_form (λ it. sectioned it.labels it.items)

-- a section of a `switch`
unfoldable pub section_parts : TSection → Parts
section_parts = fold-TSection Printed Parts node_form (λ it. sectioned it.labels it.items)
