-- Whether tags of components stand in a template.
use Rattle.std.specs.Prelude.{Bool, true, false, ◌||◌, List, Option, Some, None}
use Rattle.std.specs.List.{list_any}
use Rattle.razor_ast.specs.declared.node.TNode.{TNode, TNode-F}
use Rattle.razor_ast.specs.declared.node.TSection.{TSection}
use Rattle.razor_ast.specs.declared.node.TNode.TheFolds.{fold-TNode, fold-TSection}

abbrev pub any_of : List Bool → Bool
any_of = list_any (λ it. it)

abbrev pub if_there : Option Bool → Bool
if_there None = false
if_there (Some it) = it

-- a part of a template, by its parts
abbrev pub layer_has_tag : TNode-F Bool Bool → Bool
layer_has_tag (TNode-F.Child number place name attributes children) = true
layer_has_tag (TNode-F.Element number place name attributes children) = any_of children
layer_has_tag (TNode-F.Group place items) = any_of items
layer_has_tag (TNode-F.Block place items) = any_of items
layer_has_tag (TNode-F.If place condition holds fails) = holds || if_there fails
layer_has_tag (TNode-F.Switch place value sections) = any_of sections
layer_has_tag (TNode-F.For number place start condition step body) = body
layer_has_tag (TNode-F.ForEach number place name list body) = body
layer_has_tag (TNode-F.While number place condition body) = body
layer_has_tag _ = false

abbrev pub has_tag : TNode → Bool
has_tag = fold-TNode Bool Bool layer_has_tag (λ section. any_of section.items)

abbrev pub section_has_tag : TSection → Bool
section_has_tag = fold-TSection Bool Bool layer_has_tag (λ section. any_of section.items)

abbrev pub some_has_tag : Option TNode → Bool
some_has_tag None = false
some_has_tag (Some node) = has_tag node
