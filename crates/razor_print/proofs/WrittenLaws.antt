-- What was written is the text of parts.
use Rattle.std.proofs.Common.{◌≡◌, ℕ, ◌<◌, List, [], ◌∷◌, ◌++◌, map, length, sym, ap, ◌∙◌, subst, append_assoc, arith}
use Rattle.std.specs.Prelude.{Bool, true, false, Option, Some, codes}
use Rattle.std.specs.List.{flat_map}
use Rattle.std.proofs.lemmas.List.{append-nil}
use Rattle.cs_ast.specs.declared.expression.Expr.{Expr}
use Rattle.cs_ast.specs.declared.expression.Stmt.{Stmt}
use Rattle.cs_ast.specs.declared.member.Member.{Member}
use Rattle.cs_token.specs.declared.token.Sign.TheVariants as s
use Rattle.cs_token.specs.declared.token.TokenKind.TheVariants as t
use Rattle.cs_token.specs.declared.token.Word.{Word}
use Rattle.cs_token.specs.declared.token.Word.TheVariants as w
use Rattle.cs_print.specs.Layout.{laid, code_text}
use Rattle.cs_print.specs.Printed.{Kinds, in_round, whole, printed}
use Rattle.cs_print.specs.PrintedMembers.{members_kinds}
use Rattle.razor_token.specs.CodeFronts.{mark}
use Rattle.razor_token.specs.declared.piece.Quote.{Quote}
use Rattle.razor_ast.specs.declared.attribute.Attribute.{Attribute}
use Rattle.razor_ast.specs.declared.component.Component.{Component}
use Rattle.razor_ast.specs.declared.node.TNode.{TNode}
use Rattle.razor_print.specs.declared.before.Before.{Before}
use Rattle.razor_print.specs.declared.before.Before.TheVariants as bf
use Rattle.razor_print.specs.Parts.{Parts, token, said, verbatim, supplied, apart, doubled, in_quotes, written, parts_text, tokens, quoted, in_block, led, shown, expression_end}
use Rattle.razor_print.specs.Attributes.{value_parts, attribute_parts, attributes_parts}
use Rattle.razor_print.specs.Nodes.{Printed, node, is_parted, parted, content, inside, tag, tag_start, content_start, end_tag, group, headed, if_else, otherwise, switch_of, for_head, for_loop, foreach_head, foreach_loop, while_loop}
use Rattle.razor_print.specs.Components.{implements, code_section, members_section, file_from, behind_all, component_parts, component_text}
use Rattle.razor_print.proofs.TextLaws.{text_nothing, text_alone, text_behind, text_piece, text_then, text_code, text_token, text_token_then}

-- two texts one behind another
pub both : (old middle new x y : List ℕ) → middle ≡ old ++ x → new ≡ middle ++ y → new ≡ old ++ (x ++ y)
both old middle new x y first second = second ∙ ap (λ z. z ++ y) first ∙ append_assoc old x y

pub said_written : (old new text : List ℕ) → new ≡ old ++ flat_map doubled text → new ≡ old ++ parts_text (said text ∷ [])
unfolding written
said_written old new text e = text_alone old new (said text) e

pub led_written : (old a b c new : List ℕ) (ks : Kinds) → a ≡ old ++ 64 ∷ [] → b ≡ a ++ 40 ∷ [] → c ≡ b ++ code_text ks → new ≡ c ++ 41 ∷ [] → new ≡ old ++ parts_text (led ks)
led_written old a b c new ks at opens code closes =
    text_then old a new _ _ _ at (text_then a b new _ _ _ opens (text_behind b c new (tokens ks) _ (text_code b c ks code) (text_piece c new _ _ closes)))

-- the end of an expression has no characters
ended : (new : List ℕ) → new ≡ new ++ parts_text (expression_end ∷ [])
unfolding parts_text written
ended new = sym (append-nil new)

pub shown_written : (old new : List ℕ) (ks : Kinds) → new ≡ old ++ parts_text (led ks) → new ≡ old ++ parts_text (shown ks)
shown_written old new ks e = text_behind old new new (led ks) (expression_end ∷ []) e (ended new)

pub quoted_written : (old a b new : List ℕ) (quote : Quote) (ps : Parts) → a ≡ old ++ 61 ∷ mark quote ∷ [] → b ≡ a ++ parts_text ps → new ≡ b ++ mark quote ∷ [] → new ≡ old ++ parts_text (quoted quote ps)
quoted_written old a b new quote ps begins inner ends =
    text_then old a new _ _ _ begins (text_behind a b new ps _ inner (text_piece b new _ _ ends))

pub code_written : (old a b new : List ℕ) (quote : Quote) (ks : Kinds) → a ≡ old ++ 61 ∷ mark quote ∷ [] → b ≡ a ++ code_text ks → new ≡ b ++ mark quote ∷ [] → new ≡ old ++ parts_text (quoted quote (tokens ks))
code_written old a b new quote ks begins inner ends = quoted_written old a b new quote (tokens ks) begins (text_code a b ks inner) ends

pub name_written : (old a b new name : List ℕ) (quote : Quote) → a ≡ old ++ 61 ∷ mark quote ∷ [] → b ≡ a ++ laid (t.Name name) → new ≡ b ++ mark quote ∷ [] → new ≡ old ++ parts_text (quoted quote (token (t.Name name) ∷ []))
name_written old a b new name quote begins inner ends = quoted_written old a b new quote _ begins (text_token a b (t.Name name) inner) ends

pub verbatim_written : (old a b new text : List ℕ) (quote : Quote) → a ≡ old ++ 61 ∷ mark quote ∷ [] → b ≡ a ++ text → new ≡ b ++ mark quote ∷ [] → new ≡ old ++ parts_text (quoted quote (verbatim text ∷ []))
unfolding written
verbatim_written old a b new text quote begins inner ends = quoted_written old a b new quote _ begins (text_alone a b (verbatim text) inner) ends

pub supplied_written : (old new text : List ℕ) (quote : Quote) (a : Option Expr) → new ≡ old ++ in_quotes quote text → new ≡ old ++ parts_text (supplied quote text a ∷ [])
unfolding written
supplied_written old new text quote a e = text_alone old new (supplied quote text a) e

-- tags

pub attribute_written : (old a b new : List ℕ) (attribute : Attribute) → a ≡ old ++ 32 ∷ [] → b ≡ a ++ attribute.name → new ≡ b ++ parts_text (value_parts attribute.kind) → new ≡ old ++ parts_text (attribute_parts attribute)
attribute_written old a b new attribute space name value =
    text_then old a new _ _ _ space (text_then a b new attribute.name _ (value_parts attribute.kind) name value)

pub tag_written : (old a b c new name : List ℕ) (attributes : List Attribute) (children : List Printed) → a ≡ old ++ 60 ∷ [] → b ≡ a ++ name → c ≡ b ++ parts_text (attributes_parts attributes) → new ≡ c ++ parts_text (inside name children) → new ≡ old ++ parts_text (tag name attributes children)
unfolding tag
tag_written old a b c new name attributes children begins named given inner =
    text_then old b new (60 ∷ name) _ _ (both old a b (60 ∷ []) name begins named) (text_behind b c new (attributes_parts attributes) _ given inner)

pub end_tag_written : (old a b new name : List ℕ) → a ≡ old ++ 60 ∷ 47 ∷ [] → b ≡ a ++ name → new ≡ b ++ 62 ∷ [] → new ≡ old ++ parts_text (end_tag name)
end_tag_written old a b new name begins named ends =
    text_then old b new (60 ∷ 47 ∷ name) _ _ (both old a b (60 ∷ 47 ∷ []) name begins named) (text_piece b new _ _ ends)

-- a tag without content, and one with it
pub empty_written : (old new name : List ℕ) (xs : List TNode) → length xs ≡ 0 → new ≡ old ++ 47 ∷ 62 ∷ [] → new ≡ old ++ parts_text (inside name (map node xs))
empty_written old new name [] none ends = text_piece old new _ _ ends
empty_written old new name (x ∷ xs) none ends = absurd (omega (arith, none))

pub inside_written : (old a b new name : List ℕ) (xs : List TNode) → 0 < length xs → a ≡ old ++ 62 ∷ [] → b ≡ a ++ parts_text (content (map node xs)) → new ≡ b ++ parts_text (end_tag name) → new ≡ old ++ parts_text (inside name (map node xs))
inside_written old a b new name [] some begins inner ends = absurd (omega (arith, some))
inside_written old a b new name (x ∷ xs) some begins inner ends =
    text_then old a new _ _ _ begins (text_behind a b new (content (map node (x ∷ xs))) (end_tag name) inner ends)

pub group_written : (old a b new : List ℕ) (items : List Printed) → a ≡ old ++ codes "<text>" → b ≡ a ++ parts_text (content items) → new ≡ b ++ codes "</text>" → new ≡ old ++ parts_text (group items)
unfolding group parts_text written
group_written old a b new items begins inner ends =
    text_behind old a new (tag_start (codes "text") ∷ content_start ∷ []) (content items ++ end_tag (codes "text")) begins (text_behind a b new (content items) (end_tag (codes "text")) inner ends)

-- code with markup

pub block_written : (old a b new : List ℕ) (ps : Parts) → a ≡ old ++ laid (t.Sign s.OpenBrace) → b ≡ a ++ parts_text ps → new ≡ b ++ 125 ∷ [] → new ≡ old ++ parts_text (in_block ps)
block_written old a b new ps begins inner ends =
    text_token_then old a new _ _ begins (text_behind a b new ps _ inner (text_piece b new _ _ ends))

pub headed_written : (old a b new : List ℕ) (word : Word) (head : Kinds) (ps : Parts) → a ≡ old ++ laid (t.Word word) → b ≡ a ++ code_text (in_round head) → new ≡ b ++ parts_text ps → new ≡ old ++ parts_text (headed word head ps)
headed_written old a b new word head ps begins heads rest =
    text_token_then old a new _ _ begins (text_behind a b new (tokens (in_round head)) ps (text_code a b (in_round head) heads) rest)

pub if_written : (old a b c new : List ℕ) (e : Expr) (holds : Printed) (fails : Option Printed) → a ≡ old ++ laid (t.Word w.If) → b ≡ a ++ code_text (in_round (whole (printed e))) → c ≡ b ++ parts_text holds.code → new ≡ c ++ parts_text (otherwise fails) → new ≡ old ++ parts_text (if_else e holds fails)
unfolding if_else
if_written old a b c new e holds fails begins heads one two =
    headed_written old a b new w.If (whole (printed e)) _ begins heads (text_behind b c new holds.code (otherwise fails) one two)

pub otherwise_written : (old a new : List ℕ) (fails : Printed) → a ≡ old ++ laid (t.Word w.Else) → new ≡ a ++ parts_text fails.code → new ≡ old ++ parts_text (otherwise (Some fails))
otherwise_written old a new fails begins rest = text_token_then old a new _ _ begins rest

pub switch_written : (old a b c d new : List ℕ) (e : Expr) (sections : List Parts) → a ≡ old ++ laid (t.Word w.Switch) → b ≡ a ++ code_text (in_round (whole (printed e))) → c ≡ b ++ laid (t.Sign s.OpenBrace) → d ≡ c ++ parts_text (flat_map (λ x. x) sections) → new ≡ d ++ 125 ∷ [] → new ≡ old ++ parts_text (switch_of e sections)
unfolding switch_of
switch_written old a b c d new e sections begins heads opens inner ends =
    headed_written old a b new w.Switch (whole (printed e)) _ begins heads (block_written b c d new _ opens inner ends)

pub for_written : (old a b new : List ℕ) (start : Option Stmt) (condition step : Option Expr) (body : Printed) → a ≡ old ++ laid (t.Word w.For) → b ≡ a ++ code_text (in_round (for_head start condition step)) → new ≡ b ++ parts_text body.code → new ≡ old ++ parts_text (for_loop start condition step body)
unfolding for_loop
for_written old a b new start condition step body begins heads rest = headed_written old a b new w.For (for_head start condition step) body.code begins heads rest

pub foreach_written : (old a b new name : List ℕ) (e : Expr) (body : Printed) → a ≡ old ++ laid (t.Word w.Foreach) → b ≡ a ++ code_text (in_round (foreach_head name e)) → new ≡ b ++ parts_text body.code → new ≡ old ++ parts_text (foreach_loop name e body)
unfolding foreach_loop
foreach_written old a b new name e body begins heads rest = headed_written old a b new w.Foreach (foreach_head name e) body.code begins heads rest

pub while_written : (old a b new : List ℕ) (e : Expr) (body : Printed) → a ≡ old ++ laid (t.Word w.While) → b ≡ a ++ code_text (in_round (whole (printed e))) → new ≡ b ++ parts_text body.code → new ≡ old ++ parts_text (while_loop e body)
unfolding while_loop
while_written old a b new e body begins heads rest = headed_written old a b new w.While (whole (printed e)) body.code begins heads rest

-- what parts nodes

pub apart_written : (old new : List ℕ) → new ≡ old ++ codes "@**@" → new ≡ old ++ parts_text (parted true [])
unfolding written
apart_written old new e = text_alone old new apart e

pub parted_written : (old middle new : List ℕ) (is : Bool) (ps : Parts) → middle ≡ old ++ parts_text (parted is []) → new ≡ middle ++ parts_text ps → new ≡ old ++ parts_text (parted is ps)
parted_written old middle new true ps one rest = text_behind old middle new (apart ∷ []) ps one rest
parted_written old middle new false ps one rest = text_behind old middle new [] ps one rest

-- components

pub implements_written : (old new : List ℕ) → new ≡ old ++ (codes "@implements IDisposable" ++ 10 ∷ []) → new ≡ old ++ parts_text (implements true)
implements_written old new e = text_piece old new _ _ e

pub section_written : (old a b c d new : List ℕ) (before : Before) (members : List Member) → a ≡ old ++ parts_text (parted (is_parted before true false) []) → b ≡ a ++ codes "@code" → c ≡ b ++ laid (t.Sign s.OpenBrace)
    → d ≡ c ++ code_text (members_kinds members) → new ≡ d ++ 125 ∷ [] → new ≡ old ++ parts_text (code_section before members)
section_written old a b c d new before members one begins opens inner ends =
    parted_written old a new (is_parted before true false) _ one (text_then a b new _ _ _ begins
    (text_behind b new new (in_block (tokens (members_kinds members))) (expression_end ∷ []) (block_written b c d new (tokens (members_kinds members)) opens (text_code c d (members_kinds members) inner) ends) (ended new)))

pub no_members : (old : List ℕ) (before : Before) (members : List Member) → length members ≡ 0 → old ≡ old ++ parts_text (members_section before members)
no_members old before [] none = text_nothing old
no_members old before (member ∷ members) none = absurd (omega (arith, none))

pub some_members : (old new : List ℕ) (before : Before) (members : List Member) → 0 < length members → new ≡ old ++ parts_text (code_section before members) → new ≡ old ++ parts_text (members_section before members)
some_members old new before [] some e = absurd (omega (arith, some))
some_members old new before (member ∷ members) some e = e

pub component_written : (old a b new : List ℕ) (before : Before) (component : Component) → a ≡ old ++ parts_text (implements component.disposes) → b ≡ a ++ parts_text (file_from bf.Other (map node component.nodes))
    → before ≡ behind_all bf.Other (map node component.nodes) → new ≡ b ++ parts_text (members_section before component.members) → new ≡ old ++ component_text component
unfolding component_parts
component_written old a b new before component one nodes left members =
    text_behind old a new (implements component.disposes) _ one (text_behind a b new (file_from bf.Other (map node component.nodes)) _ nodes
    (subst (λ x. new ≡ b ++ parts_text (members_section x component.members)) left members))
