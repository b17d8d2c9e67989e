-- What the definitions by recursion on a node say of each node.
use Rattle.std.proofs.Common.{◌≡◌, ℕ, Bool, true, false, List, ◌++◌, refl}
use Rattle.std.specs.Prelude.{◌&&◌, nat_lt, ◌^◌}
use Rattle.std.specs.Str.{all_scalars}
use Rattle.page_core.specs.declared.node.Node.{Node}
use Rattle.page_core.specs.declared.node.Node.TheViews.{roll-Node}
use Rattle.page_core.specs.declared.node.Node.TheOpen.{Element, Text, Markup}
use Rattle.page_core.specs.declared.node.Node.TheFolds.{fold-roll-Node}
use Rattle.plain_page.specs.Click.{click_handler}
use Rattle.plain_page.specs.Plain.{is_empty, are_of_clicks, is_short, fits_word, is_plain_layer, is_plain, are_plain, is_stored_layer, is_stored, are_stored}
use Rattle.plain_page.specs.Spelling.{spelled_front, spelled_start, spelled_layer, spelled_node, spelled_nodes}

pub spelled-Text : (born : ℕ) (text : List ℕ) → spelled_node (roll-Node (Text born text)) ≡ spelled_front 1 born text
spelled-Text born text = fold-roll-Node (List ℕ) spelled_layer (Text born text)

pub spelled-Element : (born : ℕ) (name : List ℕ) (attributes : List (List ℕ × List ℕ)) (handlers : List (List ℕ × ℕ)) (children : List Node) →
    spelled_node (roll-Node (Element born name attributes handlers children)) ≡ spelled_start born name (click_handler handlers) ++ spelled_nodes children
spelled-Element born name attributes handlers children = fold-roll-Node (List ℕ) spelled_layer (Element born name attributes handlers children)

pub plain-Text : (born : ℕ) (text : List ℕ) → is_plain (roll-Node (Text born text)) ≡ is_short text
plain-Text born text = fold-roll-Node Bool is_plain_layer (Text born text)

pub plain-Markup : (born : ℕ) (text : List ℕ) → is_plain (roll-Node (Markup born text)) ≡ false
plain-Markup born text = fold-roll-Node Bool is_plain_layer (Markup born text)

pub plain-Element : (born : ℕ) (name : List ℕ) (attributes : List (List ℕ × List ℕ)) (handlers : List (List ℕ × ℕ)) (children : List Node) →
    is_plain (roll-Node (Element born name attributes handlers children)) ≡ (is_short name && is_empty attributes && are_of_clicks handlers && are_plain children)
plain-Element born name attributes handlers children = fold-roll-Node Bool is_plain_layer (Element born name attributes handlers children)

pub stored-Text : (born : ℕ) (text : List ℕ) → is_stored (roll-Node (Text born text)) ≡ (nat_lt born (2 ^ 64) && all_scalars text)
stored-Text born text = fold-roll-Node Bool is_stored_layer (Text born text)

pub stored-Element : (born : ℕ) (name : List ℕ) (attributes : List (List ℕ × List ℕ)) (handlers : List (List ℕ × ℕ)) (children : List Node) →
    is_stored (roll-Node (Element born name attributes handlers children))
    ≡ (nat_lt born (2 ^ 64) && all_scalars name && fits_word (click_handler handlers) && are_stored children)
stored-Element born name attributes handlers children = fold-roll-Node Bool is_stored_layer (Element born name attributes handlers children)

-- both hold
pub both_true : (one other : Bool) → (one && other) ≡ true → (one ≡ true) × (other ≡ true)
both_true true true e = (refl, refl)
both_true true false e = absurd (cc)
both_true false other e = absurd (cc)

pub true_both : (one other : Bool) → one ≡ true → other ≡ true → (one && other) ≡ true
true_both one other e f = rw (e, f) refl
