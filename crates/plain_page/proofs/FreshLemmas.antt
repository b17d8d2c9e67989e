-- The fresh rendering is plain, short, born with its batch, and like every other of its items.
use Rattle.std.proofs.Common.{◌≡◌, ℕ, zero, suc, ◌+◌, ◌*◌, ◌/◌, ◌%◌, ◌^◌, ◌≤◌, Bool, true, false, List, [], ◌∷◌, ◌++◌, map, length, Option, Some, None, arith, refl, ◌∙◌, ap, subst, inl, inr}
use Rattle.std.specs.Prelude.{◌==◌, ◌&&◌, All, ℤ, pos, negsuc, nat_lt, encode_utf8_all}
use Rattle.std.specs.Fmt.{digit_glyph, digits_onto, digits, decimal, signed_decimal}
use Rattle.std.specs.List.{concat}
use Rattle.std.specs.Str.{bytes_eq}
use Rattle.std.specs.Char.{len_utf8}
use Rattle.std.specs.Cmp.Lexicographic.{bytes_decides}
use Rattle.std.proofs.lemmas.Bool.{cases_Bool}
use Rattle.std.proofs.lemmas.Bool.Decides.{Decides-eqb, Decides-ltb, nat_tests}
use Rattle.std.proofs.lemmas.List.{length-append}
use Rattle.std.proofs.lemmas.List.Sums.{sum_by-cons}
use Rattle.std.proofs.lemmas.Str.{length-encode}
use Rattle.text_core.specs.LengthGroups.{groups}
use Rattle.text_core.specs.Words.{u64_bytes}
use Rattle.text_core.specs.TextBytes.{text_bytes}
use Rattle.text_core.proofs.WordLemmas.{length-u64_bytes}
use Rattle.page_core.specs.declared.node.Node.{Node, out-Node}
use Rattle.page_core.specs.declared.node.Node.TheViews.{roll-Node, out-roll-Node}
use Rattle.page_core.specs.declared.node.Node.TheOpen as node
use Rattle.page_core.specs.declared.node.Node.TheFolds.{map-Node, fold-roll-Node}
use Rattle.first_click.specs.declared.component.Field.{Field}
use Rattle.first_click.specs.declared.component.Item.{Item}
use Rattle.first_click.specs.declared.component.Item.TheViews.{roll-Item}
use Rattle.first_click.specs.declared.component.Item.TheOpen.{Item-F}
use Rattle.first_click.specs.declared.component.Item.TheOpen as item
use Rattle.first_click.specs.declared.component.Item.TheFolds.{map-Item, ind-Item, fold-roll-Item}
use Rattle.first_click.specs.Rendering.{shown_text, field_text, handlers_of, fresh_layer, fresh_node, fresh_nodes}
use Rattle.plain_page.specs.Runnable.{IsNumeric}
use Rattle.first_click.specs.Weight.{weight_by_children, weight, weights}
use Rattle.plain_page.specs.declared.changes.Changed.{Changed}
use Rattle.plain_page.specs.Changes.{unchanged, together, text_change, element_change, is_same_handler, layer_changes, node_changes, page_changes}
use Rattle.plain_page.specs.Click.{click_handler}
use Rattle.plain_page.specs.Plain.{is_short, are_of_clicks, is_plain, are_plain}
use Rattle.plain_page.specs.Spelling.{spelled_front, spelled_start, spelled_node, spelled_nodes}
use Rattle.plain_page.specs.Turning.{is_born_layer, is_born, are_born}
use Rattle.plain_page.specs.Laws.Nodes.{spelled-Text, spelled-Element, plain-Text, plain-Element, true_both}

-- sizes of texts

digits_few : (k base n : ℕ) (upper : Bool) (acc : List ℕ) → length (digits_onto k base upper n acc) ≤ k + length acc
digits_few zero base n upper acc = omega arith
digits_few (suc k) base n upper acc =
    elim (cases_Bool (n / base == 0)) [
      | inl last ↦ rw last (omega arith)
      | inr more ↦ rw more (omega (arith, digits_few k base (n / base) upper (digit_glyph upper (n % base) ∷ acc)))
    ]

decimal_few : (n : ℕ) → length (decimal n) ≤ 64
unfolding digits
decimal_few n = omega (arith, digits_few 64 10 n false [])

signed_few : (n : ℤ) → length (signed_decimal n) ≤ 65
signed_few (pos n) = omega (arith, decimal_few n)
signed_few (negsuc n) = omega (arith, decimal_few (suc n))

character_few : (c : ℕ) → len_utf8 c ≤ 4
character_few c = grind (arith, nat_tests)

-- a character has at most four bytes
pub encoded_few : (text : List ℕ) → length (encode_utf8_all text) ≤ 4 * length text
encoded_few [] = omega arith
encoded_few (c ∷ text) =
    let all : length (encode_utf8_all (c ∷ text)) ≡ len_utf8 c + length (encode_utf8_all text) =
    length-append _ (encode_utf8_all text) ∙ ap (λ (n : ℕ). n + length (encode_utf8_all text)) (length-encode c) in
    omega (arith, all, character_few c, encoded_few text)

groups_few : (more n : ℕ) → length (groups more n) ≤ more + 1
groups_few zero n = omega arith
groups_few (suc more) n =
    elim (cases_Bool (nat_lt n 128)) [
      | inl last ↦ rw last (omega arith)
      | inr another ↦ rw another (omega (arith, groups_few more (n / 128)))
    ]

text_bytes_few : (text : List ℕ) → length (text_bytes text) ≤ 4 + 4 * length text
unfolding text_bytes
text_bytes_few text =
    let size = length (encode_utf8_all text) in
    omega (arith, length-append (groups 3 (length (encode_utf8_all text))) (encode_utf8_all text), groups_few 3 (length (encode_utf8_all text)), encoded_few text)

front_few : (kind born : ℕ) (text : List ℕ) → length (spelled_front kind born text) ≤ 13 + 4 * length text
front_few kind born text = omega (arith, length-append (u64_bytes born) (text_bytes text), length-u64_bytes born, text_bytes_few text)

start_few : (born : ℕ) (name : List ℕ) (handler : Option ℕ) → length (spelled_start born name handler) ≤ 21 + 4 * length name
start_few born name None = omega (arith, front_few 2 born name)
start_few born name (Some id) = omega (arith, front_few 3 born name, length-append (spelled_front 3 born name) (u64_bytes id), length-u64_bytes id)

-- the others are numbers too
numbers_behind : (field : Field) (fields : List Field) → All IsNumeric (field ∷ fields) → All IsNumeric fields
numbers_behind field fields numbers k d within = numbers (suc k) d (omega arith)

shown_few : (field : Field) → IsNumeric field → length (shown_text field.value) ≤ 65
shown_few field number = rw number.1 (signed_few number.0)

field_few : (fields : List Field) (name : List ℕ) → All IsNumeric fields → length (field_text fields name) ≤ 65
field_few [] name numbers = omega arith
field_few (field ∷ fields) name numbers =
    elim (cases_Bool (bytes_eq field.name name)) [
      | inl same ↦ rw same (shown_few field (numbers 0 field (omega arith)))
      | inr differ ↦ rw differ (field_few fields name (numbers_behind field fields numbers))
    ]

short_few : (text : List ℕ) → length text ≤ 1000000 → is_short text ≡ true
short_few text few = (Decides-ltb (length (encode_utf8_all text)) (2 ^ 28)).1 (omega (arith, encoded_few text))

-- items weigh as much as the first and the others
pub weights-cons : (it : Item) (others : List Item) → weights (it ∷ others) ≡ weight it + weights others
weights-cons it others = sum_by-cons (λ n. n) (weight it) (map weight others)

-- what the definitions say of each item

fresh-Element : (born : ℕ) (fields : List Field) (name : List ℕ) (handler : Option ℕ) (children : List Item) →
    fresh_node born fields (roll-Item (item.Element name handler children)) ≡ roll-Node (node.Element born name [] (handlers_of handler) (fresh_nodes born fields children))
fresh-Element born fields name handler children = fold-roll-Item Node (fresh_layer born fields) (item.Element name handler children)

fresh-Literal : (born : ℕ) (fields : List Field) (text : List ℕ) → fresh_node born fields (roll-Item (item.Literal text)) ≡ roll-Node (node.Text born text)
fresh-Literal born fields text = fold-roll-Item Node (fresh_layer born fields) (item.Literal text)

fresh-Shown : (born : ℕ) (fields : List Field) (name : List ℕ) → fresh_node born fields (roll-Item (item.Shown name)) ≡ roll-Node (node.Text born (field_text fields name))
fresh-Shown born fields name = fold-roll-Item Node (fresh_layer born fields) (item.Shown name)

weight-Element : (name : List ℕ) (handler : Option ℕ) (children : List Item) → weight (roll-Item (item.Element name handler children)) ≡ 40 + length name + weights children
weight-Element name handler children = fold-roll-Item ℕ weight_by_children (item.Element name handler children)

weight-Literal : (text : List ℕ) → weight (roll-Item (item.Literal text)) ≡ 20 + length text
weight-Literal text = fold-roll-Item ℕ weight_by_children (item.Literal text)

weight-Shown : (name : List ℕ) → weight (roll-Item (item.Shown name)) ≡ 40
weight-Shown name = fold-roll-Item ℕ weight_by_children (item.Shown name)

born-Element : (number born : ℕ) (name : List ℕ) (attributes : List (List ℕ × List ℕ)) (handlers : List (List ℕ × ℕ)) (children : List Node) →
    is_born number (roll-Node (node.Element born name attributes handlers children)) ≡ (born == number && are_born number children)
born-Element number born name attributes handlers children = fold-roll-Node Bool (is_born_layer number) (node.Element born name attributes handlers children)

born-Text : (number born : ℕ) (text : List ℕ) → is_born number (roll-Node (node.Text born text)) ≡ (born == number)
born-Text number born text = fold-roll-Node Bool (is_born_layer number) (node.Text born text)

changes-roll : (x y : node.Node-F Node) → node_changes (roll-Node x) (roll-Node y) ≡ layer_changes (map-Node Node (Node → Option Changed) node_changes x) y
changes-roll x y =
    ap (λ (f : Node → Option Changed). f (roll-Node y)) (fold-roll-Node (Node → Option Changed) (λ layer other. layer_changes layer (out-Node other)) x)
    ∙ ap (layer_changes (map-Node Node (Node → Option Changed) node_changes x)) (out-roll-Node y)

-- two nodes are alike
abbrev pub Alike : Node → Node → Type 0
Alike one other = (c : Changed) × (node_changes one other ≡ Some c)

same_handler : (handler : Option ℕ) → is_same_handler (click_handler (handlers_of handler)) (click_handler (handlers_of handler)) ≡ true
same_handler None = refl
same_handler (Some id) = (Decides-eqb id id).1 refl

clicks : (handler : Option ℕ) → are_of_clicks (handlers_of handler) ≡ true
clicks None = refl
clicks (Some id) = refl

text_alike : (one other : List ℕ) → Alike (roll-Node (node.Text 1 one)) (roll-Node (node.Text 1 other))
text_alike one other = (text_change one other, changes-roll (node.Text 1 one) (node.Text 1 other))

element_alike : (name : List ℕ) (handler : Option ℕ) (one other : List Node) (c : Changed) → page_changes one other ≡ Some c →
    Alike (roll-Node (node.Element 1 name [] (handlers_of handler) one)) (roll-Node (node.Element 1 name [] (handlers_of handler) other))
element_alike name handler one other c e =
    let same : bytes_eq name name ≡ true = (bytes_decides name name).1 refl in (
      element_change c,
      changes-roll (node.Element 1 name [] (handlers_of handler) one) (node.Element 1 name [] (handlers_of handler) other)
          ∙ rw (same, same_handler handler, e) refl,
    )

-- an item is rendered so
pub record Fresh (it : Item) : Type 0 where
  pub born : (fields : List Field) → is_born 1 (fresh_node 1 fields it) ≡ true
  pub alike : (fields others : List Field) → Alike (fresh_node 1 fields it) (fresh_node 1 others it)
  pub few : (fields : List Field) → All IsNumeric fields → length (spelled_node (fresh_node 1 fields it)) ≤ 8 * weight it
  pub plain : (fields : List Field) → All IsNumeric fields → weight it ≤ 1000000 → is_plain (fresh_node 1 fields it) ≡ true

abbrev Such : Type 0
Such = (it : Item) × Fresh it

abbrev items_of : List Such → List Item
items_of all = map (λ such. such.0) all

all_born : (all : List Such) (fields : List Field) → are_born 1 (fresh_nodes 1 fields (items_of all)) ≡ true
all_born [] fields = refl
all_born (such ∷ others) fields = true_both _ _ (such.1.born fields) (all_born others fields)

all_alike : (all : List Such) (fields others : List Field) → (c : Changed) × (page_changes (fresh_nodes 1 fields (items_of all)) (fresh_nodes 1 others (items_of all)) ≡ Some c)
all_alike [] fields others = (unchanged, refl)
all_alike (such ∷ more) fields others =
    let here = such.1.alike fields others in
    let behind = all_alike more fields others in
    (together here.0 behind.0, rw (here.1, behind.1) refl)

all_few : (all : List Such) (fields : List Field) → All IsNumeric fields → length (concat (map spelled_node (fresh_nodes 1 fields (items_of all)))) ≤ 8 * weights (items_of all)
all_few [] fields numbers = omega arith
all_few (such ∷ others) fields numbers =
    let total = weights-cons such.0 (items_of others) in
    let bytes : length (concat (map spelled_node (fresh_nodes 1 fields (items_of (such ∷ others)))))
    ≡ length (spelled_node (fresh_node 1 fields such.0)) + length (concat (map spelled_node (fresh_nodes 1 fields (items_of others)))) =
    length-append (spelled_node (fresh_node 1 fields such.0)) (concat (map spelled_node (fresh_nodes 1 fields (items_of others)))) in
    omega (arith, total, bytes, such.1.few fields numbers, all_few others fields numbers)

all_plain : (all : List Such) (fields : List Field) → All IsNumeric fields → weights (items_of all) ≤ 1000000 → are_plain (fresh_nodes 1 fields (items_of all)) ≡ true
all_plain [] fields numbers light = refl
all_plain (such ∷ others) fields numbers light =
    let total = weights-cons such.0 (items_of others) in
    true_both _ _ (such.1.plain fields numbers (omega (arith, total))) (all_plain others fields numbers (omega (arith, total)))

element_few : (name : List ℕ) (handler : Option ℕ) (all : List Such) (fields : List Field) → All IsNumeric fields →
    length (spelled_start 1 name (click_handler (handlers_of handler)) ++ spelled_nodes (fresh_nodes 1 fields (items_of all))) ≤ 8 * (40 + length name + weights (items_of all))
element_few name handler all fields numbers =
    let children = fresh_nodes 1 fields (items_of all) in
    let start = spelled_start 1 name (click_handler (handlers_of handler)) in
    omega (
      arith,
      length-append (spelled_start 1 name (click_handler (handlers_of handler))) (spelled_nodes (fresh_nodes 1 fields (items_of all))),
      start_few 1 name (click_handler (handlers_of handler)),
      all_few all fields numbers,
      length-append (concat (map spelled_node (fresh_nodes 1 fields (items_of all)))) (0 ∷ []),
    )

layer_fresh : (y : Item-F Such) → Fresh (roll-Item (map-Item Such Item (λ such. such.0) y))
layer_fresh (item.Element name handler children) = record {
  born = λ fields. rw (fresh-Element, born-Element) (all_born children fields);
  alike = λ fields others. rw (fresh-Element 1 fields name handler (items_of children), fresh-Element 1 others name handler (items_of children))
      (element_alike name handler (fresh_nodes 1 fields (items_of children)) (fresh_nodes 1 others (items_of children)) (all_alike children fields others).0 (all_alike children fields others).1);
  few = λ fields numbers. rw (fresh-Element, spelled-Element, weight-Element) (element_few name handler children fields numbers);
  plain = λ fields numbers light. element_plain fields numbers (rw weight-Element at light);
}
  where
    element_plain : (fields : List Field) → All IsNumeric fields → 40 + length name + weights (items_of children) ≤ 1000000 →
        is_plain (fresh_node 1 fields (roll-Item (item.Element name handler (items_of children)))) ≡ true
    element_plain fields numbers light = rw (fresh-Element, plain-Element)
        (true_both _ _ (true_both _ _ (true_both _ _ (short_few name (omega arith)) refl) (clicks handler)) (all_plain children fields numbers (omega arith)))
layer_fresh (item.Literal text) = record {
  born = λ fields. rw (fresh-Literal, born-Text) refl;
  alike = λ fields others. rw (fresh-Literal 1 fields text, fresh-Literal 1 others text) (text_alike text text);
  few = λ fields numbers. rw (fresh-Literal, spelled-Text, weight-Literal) (omega (arith, front_few 1 1 text));
  plain = λ fields numbers light. literal_plain fields (rw weight-Literal at light);
}
  where
    literal_plain : (fields : List Field) → 20 + length text ≤ 1000000 → is_plain (fresh_node 1 fields (roll-Item (item.Literal text))) ≡ true
    literal_plain fields light = rw (fresh-Literal, plain-Text) (short_few text (omega arith))
layer_fresh (item.Shown name) = record {
  born = λ fields. rw (fresh-Shown, born-Text) refl;
  alike = λ fields others. rw (fresh-Shown 1 fields name, fresh-Shown 1 others name) (text_alike (field_text fields name) (field_text others name));
  few = λ fields numbers. rw (fresh-Shown, spelled-Text, weight-Shown) (omega (arith, front_few 1 1 (field_text fields name), field_few fields name numbers));
  plain = λ fields numbers light. rw (fresh-Shown, plain-Text) (short_few (field_text fields name) (omega (arith, field_few fields name numbers)));
}

step : (x : Item-F Item) (y : Item-F Such) → map-Item Such Item (λ such. such.0) y ≡ x → Fresh (roll-Item x)
step x y e = subst (λ z. Fresh (roll-Item z)) e (layer_fresh y)

-- each item is rendered so
each_fresh : (it : Item) → Fresh it
each_fresh = ind-Item Fresh step

same_items : (items : List Item) → items_of (map (λ it. let such : Such = (it, each_fresh it) in such) items) ≡ items
same_items [] = refl
same_items (it ∷ items) = ap (λ more. it ∷ more) (same_items items)

abbrev such_of : List Item → List Such
such_of items = map (λ it. let such : Such = (it, each_fresh it) in such) items

-- of all items the nodes are born with the first batch
pub fresh_born : (items : List Item) (fields : List Field) → are_born 1 (fresh_nodes 1 fields items) ≡ true
fresh_born items fields = subst (λ (all : List Item). are_born 1 (fresh_nodes 1 fields all) ≡ true) (same_items items) (all_born (such_of items) fields)

-- over any fields they are alike
pub fresh_alike : (items : List Item) (fields others : List Field) → (c : Changed) × (page_changes (fresh_nodes 1 fields items) (fresh_nodes 1 others items) ≡ Some c)
fresh_alike items fields others =
    subst (λ (all : List Item). (c : Changed) × (page_changes (fresh_nodes 1 fields all) (fresh_nodes 1 others all) ≡ Some c)) (same_items items) (all_alike (such_of items) fields others)

-- over numbers they have few bytes
pub fresh_few : (items : List Item) (fields : List Field) → All IsNumeric fields → weights items ≤ 1000000 → length (spelled_nodes (fresh_nodes 1 fields items)) ≤ 33554368
fresh_few items fields numbers light =
    let few = subst (λ (all : List Item). length (concat (map spelled_node (fresh_nodes 1 fields all))) ≤ 8 * weights all) (same_items items) (all_few (such_of items) fields numbers) in
    omega (arith, few, length-append (concat (map spelled_node (fresh_nodes 1 fields items))) (0 ∷ []))

-- over numbers they are plain
pub fresh_plain : (items : List Item) (fields : List Field) → All IsNumeric fields → weights items ≤ 1000000 → are_plain (fresh_nodes 1 fields items) ≡ true
fresh_plain items fields numbers =
    subst (λ (all : List Item). weights all ≤ 1000000 → are_plain (fresh_nodes 1 fields all) ≡ true) (same_items items) (all_plain (such_of items) fields numbers)
