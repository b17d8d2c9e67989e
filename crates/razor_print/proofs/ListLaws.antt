-- What was written of a list is its text.
use Rattle.std.proofs.Common.{◌≡◌, ℕ, ◌+◌, ◌<◌, ◌≤◌, List, [], ◌∷◌, ◌++◌, map, length, take, get_or, refl, sym, ap, ◌∙◌, append_assoc, subst}
use Rattle.std.specs.List.{flat_map}
use Rattle.std.proofs.lemmas.List.{take_all, take_more, append-nil, map-append}
use Rattle.std.proofs.lemmas.List.Folds.{flat_map-map}
use Rattle.razor_ast.specs.declared.attribute.Attribute.{Attribute}
use Rattle.razor_ast.specs.declared.attribute.ValuePart.{ValuePart}
use Rattle.razor_ast.specs.declared.node.TNode.{TNode}
use Rattle.razor_ast.specs.declared.node.TSection.{TSection}
use Rattle.razor_print.specs.declared.before.Before.{Before}
use Rattle.razor_print.specs.declared.before.Before.TheVariants as b
use Rattle.razor_print.specs.Parts.{Parts, parts_text}
use Rattle.razor_print.specs.Attributes.{value_part, attribute_parts, attributes_parts}
use Rattle.razor_print.specs.Nodes.{Printed, node, section_parts, item, content_from, lines}
use Rattle.razor_print.specs.Components.{file_from, parting, behind_all}
use Rattle.razor_print.proofs.TextLaws.{parts_none, parts_join, text_behind}

flat_parts : {X : Type 0} (f : X → Parts) (xs : List X) → parts_text (flat_map f xs) ≡ flat_map (λ x. parts_text (f x)) xs
flat_parts f [] = parts_none
flat_parts f (x ∷ xs) = parts_join (f x) (flat_map f xs) ∙ ap (λ y. parts_text (f x) ++ y) (flat_parts f xs)

-- all is written, item by item
at_end : {X : Type 0} (f : X → Parts) (old new : List ℕ) (xs : List X) (n : ℕ) → length xs ≤ n → new ≡ old ++ flat_map (λ x. parts_text (f x)) (take n xs) → new ≡ old ++ parts_text (flat_map f xs)
at_end f old new xs n all e = e ∙ ap (λ ys. old ++ flat_map (λ x. parts_text (f x)) ys) (take_all n xs all) ∙ ap (λ y. old ++ y) (sym (flat_parts f xs))

pub values_written : (old new : List ℕ) (xs : List ValuePart) (n : ℕ) → length xs ≤ n → new ≡ old ++ flat_map (λ x. parts_text (value_part x)) (take n xs) → new ≡ old ++ parts_text (flat_map value_part xs)
values_written old new xs n all e = at_end value_part old new xs n all e

pub attributes_written : (old new : List ℕ) (xs : List Attribute) (n : ℕ) → length xs ≤ n → new ≡ old ++ flat_map (λ x. parts_text (attribute_parts x)) (take n xs) → new ≡ old ++ parts_text (attributes_parts xs)
attributes_written old new xs n all e = at_end attribute_parts old new xs n all e

-- over what the items are printed as
mapped : {X Y : Type 0} (f : X → Y) (g : Y → Parts) (old new : List ℕ) (xs : List X) (n : ℕ) → length xs ≤ n → new ≡ old ++ flat_map (λ x. parts_text (g (f x))) (take n xs) → new ≡ old ++ parts_text (flat_map g (map f xs))
mapped f g old new xs n all e = at_end (λ x. g (f x)) old new xs n all e ∙ ap (λ ps. old ++ parts_text ps) (sym (flat_map-map g f xs))

pub lines_written : (old new : List ℕ) (xs : List TNode) (n : ℕ) → length xs ≤ n → new ≡ old ++ flat_map (λ x. parts_text (node x).code) (take n xs) → new ≡ old ++ parts_text (lines (map node xs))
lines_written old new xs n all e = mapped node (λ (x : Printed). x.code) old new xs n all e

pub sections_written : (old new : List ℕ) (xs : List TSection) (n : ℕ) → length xs ≤ n → new ≡ old ++ flat_map (λ x. parts_text (section_parts x)) (take n xs) → new ≡ old ++ parts_text (flat_map (λ x. x) (map section_parts xs))
sections_written old new xs n all e = mapped section_parts (λ (x : Parts). x) old new xs n all e

-- content, of which each node knows the one before it

content_more : (before : Before) (xs : List Printed) (y : Printed) → content_from before (xs ++ y ∷ []) ≡ content_from before xs ++ item (behind_all before xs) y
content_more before [] y = append-nil (item before y)
content_more before (x ∷ xs) y = ap (λ z. item before x ++ z) (content_more x.leaves xs y) ∙ sym (append_assoc (item before x) (content_from x.leaves xs) (item (behind_all x.leaves xs) y))

behind_more : (before : Before) (xs : List Printed) (y : Printed) → behind_all before (xs ++ y ∷ []) ≡ y.leaves
behind_more before [] y = refl
behind_more before (x ∷ xs) y = behind_more x.leaves xs y

file_more : (before : Before) (xs : List Printed) (y : Printed) → file_from before (xs ++ y ∷ []) ≡ file_from before xs ++ (parting (behind_all before xs) y.leaves ++ item (behind_all before xs) y)
file_more before [] y = append-nil (parting before y.leaves ++ item before y)
file_more before (x ∷ xs) y =
    ap (λ z. (parting before x.leaves ++ item before x) ++ z) (file_more x.leaves xs y)
    ∙ sym (append_assoc (parting before x.leaves ++ item before x) (file_from x.leaves xs) (parting (behind_all x.leaves xs) y.leaves ++ item (behind_all x.leaves xs) y))

-- the nodes up to the next one
next_of : (nodes : List TNode) (n : ℕ) (a : TNode) → n < length nodes → a ≡ get_or nodes n a → map node (take (n + 1) nodes) ≡ map node (take n nodes) ++ node a ∷ []
next_of nodes n a within is =
    ap (λ xs. map node xs) (take_more nodes n a within) ∙ map-append node (take n nodes) (get_or nodes n a ∷ [])
    ∙ ap (λ x. map node (take n nodes) ++ node x ∷ []) (sym is)

-- one node more of content
pub content_step : (start old new : List ℕ) (before : Before) (nodes : List TNode) (n : ℕ) (a : TNode) → n < length nodes → a ≡ get_or nodes n a
    → old ≡ start ++ parts_text (content_from b.Other (map node (take n nodes))) → before ≡ behind_all b.Other (map node (take n nodes))
    → new ≡ old ++ parts_text (item before (node a)) → new ≡ start ++ parts_text (content_from b.Other (map node (take (n + 1) nodes)))
content_step start old new before nodes n a within is so_far known more =
    text_behind start old new (content_from b.Other (map node (take n nodes))) (item (behind_all b.Other (map node (take n nodes))) (node a)) so_far
    (subst (λ x. new ≡ old ++ parts_text (item x (node a))) known more)
    ∙ ap (λ ps. start ++ parts_text ps) (sym (ap (λ xs. content_from b.Other xs) (next_of nodes n a within is) ∙ content_more b.Other (map node (take n nodes)) (node a)))

-- and what it leaves behind
pub leaves_step : (following : Before) (nodes : List TNode) (n : ℕ) (a : TNode) → n < length nodes → a ≡ get_or nodes n a
    → following ≡ (node a).leaves → following ≡ behind_all b.Other (map node (take (n + 1) nodes))
leaves_step following nodes n a within is left =
    left ∙ sym (ap (λ xs. behind_all b.Other xs) (next_of nodes n a within is) ∙ behind_more b.Other (map node (take n nodes)) (node a))

-- one node more of a file
pub file_step : (start old middle new : List ℕ) (before following : Before) (nodes : List TNode) (n : ℕ) (a : TNode) → n < length nodes → a ≡ get_or nodes n a
    → old ≡ start ++ parts_text (file_from b.Other (map node (take n nodes))) → before ≡ behind_all b.Other (map node (take n nodes)) → following ≡ (node a).leaves
    → middle ≡ old ++ parts_text (parting before following) → new ≡ middle ++ parts_text (item before (node a))
    → new ≡ start ++ parts_text (file_from b.Other (map node (take (n + 1) nodes)))
file_step start old middle new before following nodes n a within is so_far known left parts more =
    let here = behind_all b.Other (map node (take n nodes)) in
    text_behind start old new (file_from b.Other (map node (take n nodes))) (parting here (node a).leaves ++ item here (node a)) so_far
    (text_behind old middle new (parting here (node a).leaves) (item here (node a))
    (subst (λ x. middle ≡ old ++ parts_text (parting x (node a).leaves)) known (subst (λ x. middle ≡ old ++ parts_text (parting before x)) left parts))
    (subst (λ x. new ≡ middle ++ parts_text (item x (node a))) known more))
    ∙ ap (λ ps. start ++ parts_text ps) (sym (ap (λ xs. file_from b.Other xs) (next_of nodes n a within is) ∙ file_more b.Other (map node (take n nodes)) (node a)))

-- all of them
pub content_whole : (start new : List ℕ) (nodes : List TNode) (n : ℕ) → length nodes ≤ n → new ≡ start ++ parts_text (content_from b.Other (map node (take n nodes))) → new ≡ start ++ parts_text (content_from b.Other (map node nodes))
content_whole start new nodes n all e = e ∙ ap (λ xs. start ++ parts_text (content_from b.Other (map node xs))) (take_all n nodes all)

pub file_whole : (start new : List ℕ) (nodes : List TNode) (n : ℕ) → length nodes ≤ n → new ≡ start ++ parts_text (file_from b.Other (map node (take n nodes))) → new ≡ start ++ parts_text (file_from b.Other (map node nodes))
file_whole start new nodes n all e = e ∙ ap (λ xs. start ++ parts_text (file_from b.Other (map node xs))) (take_all n nodes all)

pub leaves_whole : (following : Before) (nodes : List TNode) (n : ℕ) → length nodes ≤ n → following ≡ behind_all b.Other (map node (take n nodes)) → following ≡ behind_all b.Other (map node nodes)
leaves_whole following nodes n all e = e ∙ ap (λ xs. behind_all b.Other (map node xs)) (take_all n nodes all)
