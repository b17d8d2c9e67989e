-- Lines behind lines.
use Rattle.std.proofs.Common.{◌≡◌, ◌∙◌, refl, sym, ap, ℕ, suc, ◌+◌, ◌<◌, List, [], ◌∷◌, ◌++◌, map, length, drop, get_or, append_assoc, arith}
use Rattle.std.specs.Prelude.{Option, Some, None}
use Rattle.std.proofs.Math.Seq.{drop-cons}
use Rattle.cs_ast.specs.declared.value.Value.{Value}
use Rattle.frame_core.specs.declared.item.Item.{Item}
use Rattle.frame_core.specs.declared.item.Item.TheOpen.{Item-F}
use Rattle.frame_core.specs.declared.item.Item.TheVariants as item
use Rattle.frame_core.specs.declared.item.Item.TheFolds.{fold-roll-Item}
use Rattle.frame_core.specs.declared.item_attribute.ItemAttribute.{ItemAttribute}
use Rattle.frame_text.specs.Frames.{Listed, listed, Lists, behind, then_all, all_listed, attribute_listed, attributes_listed, headed, listed_layer, item_listed, items_listed}
use Rattle.frame_text.specs.Lines.{element_line, region_line}

behind_behind : (lines more : List (List ℕ)) (found : Option Listed) → behind lines (behind more found) ≡ behind (lines ++ more) found
behind_behind lines more None = refl
behind_behind lines more (Some it) = ap (λ all. Some (listed all it.given)) (sym (append_assoc lines more it.lines))

-- what follows stands behind what was found
behind-then : (lines : List (List ℕ)) (found : Option Listed) (next : Lists) (it : Listed) → Some it ≡ behind lines found
    → behind lines (then_all found next) ≡ behind it.lines (next it.given)
behind-then lines None next it e = absurd (cc)
behind-then lines (Some first) next it e =
    let is : it ≡ listed (lines ++ first.lines) first.given = cc in
    behind_behind lines first.lines (next first.given) ∙ ap (λ (x : Listed). behind x.lines (next x.given)) (sym is)

-- one attribute more is listed
pub attribute_next : (attributes : List ItemAttribute) (i : ℕ) (one : ItemAttribute) (lines : List (List ℕ)) (given : ℕ) (it : Listed) → i < length attributes
    → one ≡ get_or attributes i one → Some it ≡ behind lines (attribute_listed one given)
    → behind it.lines (attributes_listed (drop (i + 1) attributes) it.given) ≡ behind lines (attributes_listed (drop i attributes) given)
attribute_next attributes i one lines given it within is e =
    let step : drop i attributes ≡ one ∷ drop (suc i) attributes = drop-cons attributes i one within ∙ ap (λ (x : ItemAttribute). x ∷ drop (suc i) attributes) (sym is) in
    let next : i + 1 ≡ suc i = omega arith in
    ap (λ (k : ℕ). behind it.lines (attributes_listed (drop k attributes) it.given)) next
    ∙ sym (behind-then lines (attribute_listed one given) (attributes_listed (drop (suc i) attributes)) it e)
    ∙ ap (λ (xs : List ItemAttribute). behind lines (attributes_listed xs given)) (sym step)

then-same : (found : Option Listed) (next other : Lists) → ((given : ℕ) → next given ≡ other given) → then_all found next ≡ then_all found other
then-same None next other same = refl
then-same (Some first) next other same = ap (behind first.lines) (same first.given)

all-items : (items : List Item) (given : ℕ) → all_listed (map item_listed items) given ≡ items_listed items given
all-items [] given = refl
all-items (one ∷ others) given = then-same (item_listed one given) (all_listed (map item_listed others)) (items_listed others) (all-items others)

pub element_lines : (number : ℕ) (name : List ℕ) (key : Value) (worn : List ItemAttribute) (children : List Item) (given : ℕ)
    → item_listed (item.Element number name key worn children) given ≡ headed (element_line number name) (then_all (attributes_listed worn given) (items_listed children))
element_lines number name key worn children given =
    ap (λ it. item_listed it given) (sym (item.rolls-Element number name key worn children))
    ∙ ap (λ (f : Lists). f given) (fold-roll-Item Lists listed_layer (Item-F.Element number name key worn children))
    ∙ ap (headed (element_line number name)) (then-same (attributes_listed worn given) (all_listed (map item_listed children)) (items_listed children) (all-items children))

pub region_lines : (number : ℕ) (key : Value) (children : List Item) (given : ℕ)
    → item_listed (item.Region number key children) given ≡ headed (region_line number) (items_listed children given)
region_lines number key children given =
    ap (λ it. item_listed it given) (sym (item.rolls-Region number key children))
    ∙ ap (λ (f : Lists). f given) (fold-roll-Item Lists listed_layer (Item-F.Region number key children))
    ∙ ap (headed (region_line number)) (all-items children given)
