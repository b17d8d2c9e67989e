-- What is read is what is spelled, and the other way round.
use Rattle.std.proofs.Common.{◌≡◌, ◌≢◌, ℕ, zero, suc, ◌+◌, ◌-◌, ◌^◌, ◌<◌, ◌≤◌, true, false, List, [], ◌∷◌, ◌++◌, map, length, drop, Option, Some, None, option_map, arith, refl, sym, ◌∙◌, ap, subst, inl, inr, append_assoc, append-nil}
use Rattle.std.specs.Prelude.{◌&&◌, nat_lt, encode_utf8_all}
use Rattle.std.specs.List.{concat}
use Rattle.std.specs.Str.{all_scalars}
use Rattle.std.specs.Cmp.Lexicographic.{bytes_decides}
use Rattle.std.proofs.lemmas.Bool.{cases_Bool, ne_eqb, ltb-false}
use Rattle.std.proofs.lemmas.Bool.Decides.{Decides-ltb}
use Rattle.std.proofs.lemmas.List.{length-append}
use Rattle.std.proofs.Math.Seq.{drop-append_seam}
use Rattle.text_core.specs.Words.{u64_bytes, u64_at}
use Rattle.text_core.specs.TextBytes.{text_bytes}
use Rattle.text_core.proofs.WordLemmas.{length-u64_bytes, u64_at-u64_bytes}
use Rattle.text_core.proofs.TextByteLemmas.{text_at-text_bytes}
use Rattle.page_core.specs.declared.node.Node.{Node, out-Node}
use Rattle.page_core.specs.declared.node.Node.TheViews.{roll-Node, roll-out-Node}
use Rattle.page_core.specs.declared.node.Node.TheOpen.{Node-F, Element, Text, Markup}
use Rattle.plain_page.specs.Click.{onclick, click_handler}
use Rattle.plain_page.specs.Plain.{is_empty, are_of_clicks, is_short, fits_word, is_plain, are_plain, is_stored, are_stored}
use Rattle.plain_page.specs.Spelling.{spelled_start, spelled_node, spelled_nodes}
use Rattle.plain_page.specs.Reading.{Reads, front_at, handlers_of, word_at, element, element_at, node_at, before, siblings_at, nodes_at}
use Rattle.plain_page.specs.Laws.Nodes.{spelled-Text, spelled-Element, plain-Text, plain-Markup, plain-Element, stored-Text, stored-Element, both_true}

-- siblings behind these
abbrev pub behind : List Node → List Node × List ℕ → List Node × List ℕ
behind nodes found = (nodes ++ found.0, found.1)

-- siblings are read where some may be read
pub nodes_at-step : (fuel : ℕ) (bytes : List ℕ) → 0 < fuel → nodes_at fuel bytes ≡ siblings_at (nodes_at (fuel - 1)) bytes
unfolding nodes_at
nodes_at-step zero bytes some = absurd (omega arith)
nodes_at-step (suc fuel) bytes some = let less : fuel ≡ suc fuel - 1 = omega arith in ap (λ n. siblings_at (nodes_at n) bytes) less

pub nodes_at-none : (fuel : ℕ) (bytes : List ℕ) → fuel ≡ 0 → nodes_at fuel bytes ≡ None
unfolding nodes_at
nodes_at-none zero bytes none = refl
nodes_at-none (suc fuel) bytes none = absurd (omega arith)

-- nothing behind the first siblings
pub behind_none : (found : Option (List Node × List ℕ)) → option_map (behind []) found ≡ found
behind_none None = refl
behind_none (Some found) = refl

-- a word is there where eight bytes are
pub u64_at_long : (bytes : List ℕ) (word : ℕ) → u64_at bytes ≡ Some word → 8 ≤ length bytes
unfolding u64_at
u64_at_long bytes word e =
    elim (cases_Bool (nat_lt (length bytes) 8)) [
      | inl short ↦ (let wrong : None ≡ Some word = rw short at e in absurd (cc))
      | inr long ↦ ltb-false _ _ long
    ]

-- one step of reading siblings

some_read : (fuel : ℕ) (bytes : List ℕ) (found : Option (List Node × List ℕ)) → 0 < fuel → siblings_at (nodes_at (fuel - 1)) bytes ≡ found → nodes_at fuel bytes ≡ found
some_read fuel bytes found some e = nodes_at-step fuel bytes some ∙ e

-- an end of siblings
pub ends_siblings : (fuel : ℕ) (nodes : List Node) (kind : ℕ) (rest : List ℕ) → 0 < fuel → kind ≡ 0 → option_map (behind nodes) (nodes_at fuel (kind ∷ rest)) ≡ Some (nodes, rest)
ends_siblings fuel nodes kind rest some end =
    rw (some_read fuel (kind ∷ rest) (Some ([], rest)) some (rw end refl)) (ap (λ (all : List Node). Some (all, rest)) (append-nil nodes))

-- what is no node ends without siblings
pub no_sibling : (fuel : ℕ) (nodes : List Node) (kind : ℕ) (rest : List ℕ) → 0 < fuel → kind ≢ 0 → node_at (nodes_at (fuel - 1)) kind rest ≡ None →
    option_map (behind nodes) (nodes_at fuel (kind ∷ rest)) ≡ None
no_sibling fuel nodes kind rest some other none =
    rw (some_read fuel (kind ∷ rest) None some (rw (ne_eqb kind 0 other, none) refl)) refl

behind_before : (nodes : List Node) (node : Node) (found : Option (List Node × List ℕ)) → option_map (behind nodes) (option_map (before node) found) ≡ option_map (behind (nodes ++ node ∷ [])) found
behind_before nodes node None = refl
behind_before nodes node (Some found) = ap (λ (all : List Node). Some (all, found.1)) (sym (append_assoc nodes (node ∷ []) found.0))

-- a node before other siblings
pub one_sibling : (fuel : ℕ) (nodes : List Node) (kind : ℕ) (bytes : List ℕ) (node : Node) (rest : List ℕ) → 0 < fuel → kind ≢ 0 →
    node_at (nodes_at (fuel - 1)) kind bytes ≡ Some (node, rest) →
    option_map (behind nodes) (nodes_at fuel (kind ∷ bytes)) ≡ option_map (behind (nodes ++ node ∷ [])) (nodes_at (fuel - 1) rest)
one_sibling fuel nodes kind bytes node rest some other is =
    rw (some_read fuel (kind ∷ bytes) (option_map (before node) (nodes_at (fuel - 1) rest)) some (rw (ne_eqb kind 0 other, is) refl))
    (behind_before nodes node (nodes_at (fuel - 1) rest))

-- no siblings without bytes
pub no_bytes : (fuel : ℕ) (nodes : List Node) → 0 < fuel → option_map (behind nodes) (nodes_at fuel []) ≡ None
no_bytes fuel nodes some = rw (nodes_at-step fuel [] some) refl

-- what is read of spelled nodes

drop_word : (word : ℕ) (rest : List ℕ) → drop 8 (u64_bytes word ++ rest) ≡ rest
drop_word word rest = subst (λ n. drop n (u64_bytes word ++ rest) ≡ rest) (length-u64_bytes word) (drop-append_seam (u64_bytes word) rest)

front_at-spelled : (born : ℕ) (text rest : List ℕ) → born < 2 ^ 64 → all_scalars text ≡ true → length (encode_utf8_all text) < 2 ^ 28 →
    front_at ((u64_bytes born ++ text_bytes text) ++ rest) ≡ Some (born, text, rest)
unfolding front_at
front_at-spelled born text rest fits scalars short =
    let behind_word = text_bytes text ++ rest in
    rw (
      append_assoc (u64_bytes born) (text_bytes text) rest,
      u64_at-u64_bytes born (text_bytes text ++ rest) fits,
      drop_word born (text_bytes text ++ rest),
      text_at-text_bytes text rest scalars short,
    ) refl

-- plain handlers are told by the one of clicks
handlers_of-plain : (handlers : List (List ℕ × ℕ)) → are_of_clicks handlers ≡ true → handlers_of (click_handler handlers) ≡ handlers
handlers_of-plain [] plain = refl
handlers_of-plain (handler ∷ []) plain =
    let is : handler.0 ≡ onclick = (bytes_decides handler.0 onclick).0 plain in
    subst (λ (name : List ℕ). handlers_of (click_handler ((name, handler.1) ∷ [])) ≡ (name, handler.1) ∷ []) (sym is) refl
handlers_of-plain (handler ∷ other ∷ more) plain = absurd (cc)

pub click_handler-of : (handler : Option ℕ) → click_handler (handlers_of handler) ≡ handler
click_handler-of None = refl
click_handler-of (Some id) = refl

none_empty : {X : Type 0} (items : List X) → is_empty items ≡ true → items ≡ []
none_empty [] e = refl
none_empty (item ∷ items) e = absurd (cc)

-- reading siblings of so many bytes gives back what was spelled
abbrev Completes : (List ℕ → Option (List Node × List ℕ)) → ℕ → Type 0
Completes read most = (nodes : List Node) (rest : List ℕ) → are_plain nodes ≡ true → are_stored nodes ≡ true → length (spelled_nodes nodes) ≤ most →
    read (spelled_nodes nodes ++ rest) ≡ Some (nodes, rest)

-- the node and what is read behind it
abbrev Continues : Reads (List Node) → Node → List ℕ → Type 0
Continues read node rest = siblings_at read (spelled_node node ++ rest) ≡ option_map (before node) (read rest)

text_continues : (read : Reads (List Node)) (born : ℕ) (text rest : List ℕ) → is_short text ≡ true → (nat_lt born (2 ^ 64) && all_scalars text) ≡ true →
    Continues read (roll-Node (Text born text)) rest
unfolding node_at
text_continues read born text rest short stored =
    let fits = both_true _ _ stored in
    let front = front_at-spelled born text rest ((Decides-ltb born (2 ^ 64)).0 fits.0) fits.1 ((Decides-ltb (length (encode_utf8_all text)) (2 ^ 28)).0 short) in
    rw (spelled-Text born text, front) refl

word_at-spelled : (word : ℕ) (rest : List ℕ) → word < 2 ^ 64 → word_at (u64_bytes word ++ rest) ≡ Some (word, rest)
unfolding word_at
word_at-spelled word rest fits = rw (u64_at-u64_bytes word rest fits, drop_word word rest) refl

-- an element whose start was read
children_continue : (read : Reads (List Node)) (most : ℕ) → Completes read most → (born : ℕ) (name : List ℕ) (handler : Option ℕ) (children : List Node) (rest : List ℕ) →
    are_plain children ≡ true → are_stored children ≡ true → length (spelled_nodes children) ≤ most →
    element_at read born name handler (spelled_nodes children ++ rest) ≡ Some (element born name handler children, rest)
children_continue read most completes born name handler children rest plain stored few = rw (completes children rest plain stored few) refl

-- what is spelled of an element before what follows it
start_continues : (read : Reads (List Node)) (most : ℕ) → Completes read most → (born : ℕ) (name : List ℕ) (handler : Option ℕ) (children : List Node) (rest : List ℕ) →
    born < 2 ^ 64 → all_scalars name ≡ true → length (encode_utf8_all name) < 2 ^ 28 → fits_word handler ≡ true →
    are_plain children ≡ true → are_stored children ≡ true → length (spelled_nodes children) ≤ most →
    siblings_at read ((spelled_start born name handler ++ spelled_nodes children) ++ rest) ≡ option_map (before (element born name handler children)) (read rest)
unfolding node_at
start_continues read most completes born name None children rest fits scalars short word plain stored few =
    let front = front_at-spelled born name (spelled_nodes children ++ rest) fits scalars short in
    let inside = children_continue read most completes born name None children rest plain stored few in
    rw (append_assoc (u64_bytes born ++ text_bytes name) (spelled_nodes children) rest, front, inside) refl
start_continues read most completes born name (Some id) children rest fits scalars short word plain stored few =
    let front = front_at-spelled born name (u64_bytes id ++ (spelled_nodes children ++ rest)) fits scalars short in
    let inside = children_continue read most completes born name (Some id) children rest plain stored few in
    let id_fits : id < 2 ^ 64 = (Decides-ltb id (2 ^ 64)).0 word in
    rw (
      append_assoc ((u64_bytes born ++ text_bytes name) ++ u64_bytes id) (spelled_nodes children) rest,
      append_assoc (u64_bytes born ++ text_bytes name) (u64_bytes id) (spelled_nodes children ++ rest),
      front,
      word_at-spelled id (spelled_nodes children ++ rest) id_fits,
      inside,
    ) refl

-- an element's start is not empty
pub start_some : (born : ℕ) (name : List ℕ) (handler : Option ℕ) → 0 < length (spelled_start born name handler)
start_some born name None = omega arith
start_some born name (Some id) = omega arith

node_continues : (read : Reads (List Node)) (most : ℕ) → Completes read most → (x : Node-F Node) (rest : List ℕ) →
    is_plain (roll-Node x) ≡ true → is_stored (roll-Node x) ≡ true → length (spelled_node (roll-Node x)) ≤ most + 1 → Continues read (roll-Node x) rest
node_continues read most completes (Markup born text) rest plain stored few = let wrong : false ≡ true = rw plain-Markup at plain in absurd (cc)
node_continues read most completes (Text born text) rest plain stored few =
    text_continues read born text rest (rw plain-Text at plain) (rw stored-Text at stored)
node_continues read most completes (Element born name attributes handlers children) rest plain stored few =
    let plains = both_true _ _ (rw plain-Element at plain) in
    let fronts = both_true _ _ plains.0 in
    let heads = both_true _ _ fronts.0 in
    let stores = both_true _ _ (rw stored-Element at stored) in
    let stores_front = both_true _ _ stores.0 in
    let stores_head = both_true _ _ stores_front.0 in
    let handler = click_handler handlers in
    let sizes = rw (spelled-Element, length-append) at few in
    let short : length (encode_utf8_all name) < 2 ^ 28 = (Decides-ltb (length (encode_utf8_all name)) (2 ^ 28)).0 heads.0 in
    let inside : length (spelled_nodes children) ≤ most = omega (arith, start_some born name handler, sizes) in
    let same : element born name handler children ≡ roll-Node (Element born name attributes handlers children) =
    ap (λ (all : List (List ℕ × List ℕ)). roll-Node (Element born name all (handlers_of handler) children)) (sym (none_empty attributes heads.1))
    ∙ ap (λ (all : List (List ℕ × ℕ)). roll-Node (Element born name attributes all children)) (handlers_of-plain handlers fronts.1) in
    rw spelled-Element
    (start_continues read most completes born name handler children rest ((Decides-ltb born (2 ^ 64)).0 stores_head.0) stores_head.1 short stores_front.1 plains.1 stores.1 inside
    ∙ ap (λ (node : Node). option_map (before node) (read rest)) same)

any_node_continues : (read : Reads (List Node)) (most : ℕ) → Completes read most → (node : Node) (rest : List ℕ) →
    is_plain node ≡ true → is_stored node ≡ true → length (spelled_node node) ≤ most + 1 → Continues read node rest
any_node_continues read most completes node rest =
    subst (λ (n : Node). is_plain n ≡ true → is_stored n ≡ true → length (spelled_node n) ≤ most + 1 → Continues read n rest) (roll-out-Node node)
    (node_continues read most completes (out-Node node) rest)

layer_some : (x : Node-F Node) → is_plain (roll-Node x) ≡ true → 0 < length (spelled_node (roll-Node x))
layer_some (Markup born text) plain = let wrong : false ≡ true = rw plain-Markup at plain in absurd (cc)
layer_some (Text born text) plain = rw spelled-Text (omega arith)
layer_some (Element born name attributes handlers children) plain =
    rw (spelled-Element, length-append) (omega (arith, start_some born name (click_handler handlers)))

-- a plain node has bytes
pub node_some : (node : Node) → is_plain node ≡ true → 0 < length (spelled_node node)
node_some node = subst (λ (n : Node). is_plain n ≡ true → 0 < length (spelled_node n)) (roll-out-Node node) (layer_some (out-Node node))

-- spelled nodes end with a byte
pub nodes_some : (nodes : List Node) → 0 < length (spelled_nodes nodes)
nodes_some nodes = omega (arith, length-append (concat (map spelled_node nodes)) (0 ∷ []))

-- what is spelled is read
pub nodes_complete : (fuel : ℕ) → Completes (nodes_at fuel) fuel
unfolding nodes_at
nodes_complete zero nodes rest plain stored few = absurd (omega (arith, nodes_some nodes))
nodes_complete (suc fuel) [] rest plain stored few = refl
nodes_complete (suc fuel) (node ∷ nodes) rest plain stored few =
    let plains = both_true _ _ plain in
    let stores = both_true _ _ stored in
    let split : spelled_nodes (node ∷ nodes) ≡ spelled_node node ++ spelled_nodes nodes = append_assoc (spelled_node node) (concat (map spelled_node nodes)) (0 ∷ []) in
    let sizes = rw (split, length-append) at few in
    let one : length (spelled_node node) ≤ fuel + 1 = omega (arith, sizes) in
    let others : length (spelled_nodes nodes) ≤ fuel = omega (arith, sizes, node_some node plains.0) in
    rw (split, append_assoc (spelled_node node) (spelled_nodes nodes) rest)
    (any_node_continues (nodes_at fuel) fuel (nodes_complete fuel) node (spelled_nodes nodes ++ rest) plains.0 stores.0 one
    ∙ ap (option_map (before node)) (nodes_complete fuel nodes rest plains.1 stores.1 others))
