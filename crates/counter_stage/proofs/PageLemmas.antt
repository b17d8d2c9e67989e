-- What stands on a counter's page.
use Rattle.std.proofs.Common.{◌≡◌, ℕ, zero, suc, Bool, true, false, List, [], ◌∷◌, codes, refl, sym, ◌∙◌, ap, subst, arith, cond, slice_get, Option, Some, None}
use Rattle.std.specs.Str.{bytes_eq}
use Rattle.std.proofs.lemmas.Bool.Decides.{nat_tests}
use Rattle.std.proofs.lemmas.Map.Text.{is_eq-slice_cmp}
use Rattle.std.specs.Fmt.{decimal}
use Rattle.page_core.specs.Path.{children_of, inside, node_behind}
use Rattle.page_core.specs.declared.node.Node.{Node}
use Rattle.page_core.specs.declared.node.Node.TheOpen as node
use Rattle.page_core.specs.declared.node.Node.TheVariants as v
use Rattle.page_core.specs.declared.node.Node.TheViews.{out-roll-Node, roll-Node}
use Rattle.page_core.specs.ByName.{value_of}
use Rattle.hub_messages.specs.Screen.{found_at, found_id, found_in, found_on}
use Rattle.hub_messages.specs.declared.screen.At.{At}
use Rattle.hub_messages.specs.declared.screen.At.TheVariants.{NoNode, NoHandler, Handler}
use Rattle.counter_stage.specs.Tree.{page_of, button, text_of}
use Rattle.counter_stage.specs.Button.{found_by, is_first}
use Rattle.counter_stage.specs.declared.tree.CounterTree.TheVariants.{Shows}

-- the handler of clicks alone has an id
button_value : (event : List ℕ) → value_of {V = ℕ} ((codes "onclick", 1) ∷ []) event ≡ cond (bytes_eq event (codes "onclick")) (Some 1) None
button_value event = ap (λ b. cond {A = Option ℕ} b (Some 1) None) (is_eq-slice_cmp event (codes "onclick"))

id_if : (b : Bool) → found_id (cond b (Some 1) None) ≡ cond b (Handler 1) NoHandler
id_if true = refl
id_if false = refl

children-button : (number : ℕ) → children_of (button number) ≡ roll-Node (node.Text 1 (decimal number)) ∷ []
children-button number =
    ap inside (out-roll-Node (node.Element 1 (codes "button") [] ((codes "onclick", 1) ∷ []) (roll-Node (node.Text 1 (decimal number)) ∷ [])))

children-text : (number : ℕ) → children_of (roll-Node (node.Text 1 (decimal number))) ≡ []
children-text number = ap inside (out-roll-Node (node.Text 1 (decimal number)))

-- no path through the text names an element
found-text : (number : ℕ) (path event : List ℕ) → NoNode ≡ found_in (node_behind (Some (roll-Node (node.Text 1 (decimal number)))) path) event
found-text number [] event = ap (λ (layer : node.Node-F Node). found_on layer event) (sym (out-roll-Node (node.Text 1 (decimal number))))
found-text number (place ∷ path) event =
    subst (λ (nodes : List Node). NoNode ≡ found_in (node_behind (slice_get nodes place) path) event) (sym (children-text number)) refl

not_first : (place : ℕ) → is_first (suc place ∷ []) ≡ false
not_first place = grind (arith, nat_tests)

-- what stands where a button is shown
pub found-button : (number : ℕ) (path event : List ℕ) → found_by path event ≡ found_at (page_of (Shows number)) path event
found-button number [] event = refl
found-button number (zero ∷ []) event = simp out-roll-Node (sym (ap found_id (button_value event) ∙ id_if (bytes_eq event (codes "onclick"))))
found-button number (suc place ∷ []) event =
    ap (λ first. cond {A = At} first (cond (bytes_eq event (codes "onclick")) (Handler 1) NoHandler) NoNode) (not_first place)
found-button number (zero ∷ zero ∷ path) event =
    subst (λ (nodes : List Node). NoNode ≡ found_in (node_behind (slice_get nodes 0) path) event) (sym (children-button number)) (found-text number path event)
found-button number (zero ∷ suc below ∷ path) event =
    subst (λ (nodes : List Node). NoNode ≡ found_in (node_behind (slice_get nodes (suc below)) path) event) (sym (children-button number)) refl
found-button number (suc place ∷ below ∷ path) event = refl

-- the parts of a button make it
pub button-made : (name : List ℕ) (attributes : List (List ℕ × List ℕ)) (handlers : List (List ℕ × ℕ)) (children : List Node) (number : ℕ)
    → name ≡ codes "button" → attributes ≡ [] → handlers ≡ (codes "onclick", 1) ∷ [] → children ≡ text_of number → v.Element 1 name attributes handlers children ≡ button number
button-made name attributes handlers children number named bare handled shown =
    ap (λ (n : List ℕ). v.Element 1 n attributes handlers children) named
    ∙ ap (λ (a : List (List ℕ × List ℕ)). v.Element 1 (codes "button") a handlers children) bare
    ∙ ap (λ (h : List (List ℕ × ℕ)). v.Element 1 (codes "button") [] h children) handled
    ∙ ap (λ (c : List Node). v.Element 1 (codes "button") [] ((codes "onclick", 1) ∷ []) c) shown
    ∙ sym (v.rolls-Element 1 (codes "button") [] ((codes "onclick", 1) ∷ []) (text_of number))
