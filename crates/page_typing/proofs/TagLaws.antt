-- Whether tags of components are in parts of templates, form by form.
use Rattle.std.proofs.Common.{◌≡◌, List, [], ◌∷◌, ◌++◌, map, refl, sym, ap, ◌∙◌}
use Rattle.std.specs.Prelude.{Bool, true, false, ◌||◌}
use Rattle.cs_ast.specs.declared.expression.Label.{Label}
use Rattle.razor_ast.specs.Statements.{section}
use Rattle.razor_ast.specs.declared.node.TNode.{TNode, TNode-F, roll-TNode}
use Rattle.razor_ast.specs.declared.node.TNode.TheFolds.{fold-roll-TNode, fold_out-TSection, fold-TSection, map-TNode}
use Rattle.razor_ast.specs.declared.node.TNode.TheViews.{out-roll-TSection}
use Rattle.razor_ast.specs.declared.node.TSection.{TSection}
use Rattle.page_typing.specs.Pages.{any_tag, tag_in, has_tag}

pub section_tag : TSection → Bool
section_tag = fold-TSection Bool Bool tag_in (λ it. any_tag it.items)

pub tag_at : (node : TNode) (x : TNode-F TNode TSection) → roll-TNode x ≡ node → has_tag node ≡ tag_in (map-TNode TNode TSection Bool Bool has_tag section_tag x)
unfolding has_tag section_tag
tag_at node x is = ap has_tag (sym is) ∙ fold-roll-TNode Bool Bool tag_in (λ it. any_tag it.items) x

pub tag_at_section : (labels : List Label) (items : List TNode) → section_tag (section labels items) ≡ any_tag (map has_tag items)
unfolding has_tag section_tag
tag_at_section labels items = fold_out-TSection Bool Bool tag_in (λ it. any_tag it.items) (section labels items) ∙ ap (λ o. any_tag (map has_tag o.items)) (out-roll-TSection (record { labels = labels; items = items }))

-- no tag is in a part that has none
pub none_in : (node : TNode) (x : TNode-F TNode TSection) → roll-TNode x ≡ node → has_tag node ≡ false → tag_in (map-TNode TNode TSection Bool Bool has_tag section_tag x) ≡ false
none_in node x is e = sym (tag_at node x is) ∙ e

pub not_first : (a b : Bool) → (a || b) ≡ false → a ≡ false
not_first false b e = refl
not_first true b e = absurd (cc)

pub not_second : (a b : Bool) → (a || b) ≡ false → b ≡ false
not_second false b e = e
not_second true b e = absurd (cc)

pub not_behind : (xs ys : List TNode) → any_tag (map has_tag (xs ++ ys)) ≡ false → any_tag (map has_tag ys) ≡ false
not_behind [] ys e = e
not_behind (x ∷ xs) ys e = not_behind xs ys (not_second (has_tag x) _ e)
