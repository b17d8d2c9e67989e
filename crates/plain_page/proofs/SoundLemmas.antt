-- What was read stands in the bytes, spelled.
use Rattle.std.proofs.Common.{◌≡◌, ℕ, zero, suc, ◌+◌, ◌^◌, ◌<◌, true, List, [], ◌∷◌, ◌++◌, map, length, drop, get_or, Result, Ok, Err, Option, Some, None, option_map, option_and_then, refl, sym, ◌∙◌, ap, subst, inl, inr, append_assoc}
use Rattle.std.specs.Prelude.{nat_lt, ◌==◌, encode_utf8_all}
use Rattle.std.specs.List.{concat}
use Rattle.std.specs.Str.{all_scalars}
use Rattle.std.proofs.lemmas.Bool.{cases_Bool}
use Rattle.std.proofs.lemmas.Bool.Decides.{Decides-eqb, Decides-ltb}
use Rattle.std.proofs.lemmas.List.{get_or-append-add}
use Rattle.text_core.specs.declared.wire_fault.WireFault.{WireFault}
use Rattle.text_core.specs.Words.{u64_bytes, u64_at}
use Rattle.text_core.specs.TextBytes.{text_bytes, text_at}
use Rattle.text_core.proofs.WordLemmas.{begins-u64_at}
use Rattle.text_core.proofs.TextByteLemmas.{begins-text_at}
use Rattle.page_core.specs.declared.node.Node.{Node}
use Rattle.plain_page.specs.Plain.{is_short, fits_word, are_of_clicks, is_plain, are_plain, is_stored, are_stored}
use Rattle.plain_page.specs.Spelling.{spelled_start, spelled_node, spelled_nodes}
use Rattle.plain_page.specs.Reading.{Reads, word_at, text_taken, front_at, handlers_of, text_node, element, element_at, kind_at, node_at, before, nodes_at}
use Rattle.plain_page.specs.Laws.Nodes.{spelled-Text, spelled-Element, plain-Text, plain-Element, stored-Text, stored-Element, true_both}
use Rattle.plain_page.specs.Laws.Reading.{click_handler-of}

-- each is a byte
abbrev pub Bytes : List ℕ → Type 0
Bytes bytes = (i : ℕ) → get_or bytes i 0 < 256

bytes_behind : (front rest : List ℕ) → Bytes (front ++ rest) → Bytes rest
bytes_behind front rest bytes i = subst (λ n. n < 256) (get_or-append-add front rest i 0) (bytes (length front + i))

pub then_some : {A B : Type 0} (next : A → Option B) (o : Option A) (y : B) → option_and_then next o ≡ Some y → (x : A) × (o ≡ Some x) × (next x ≡ Some y)
then_some next None y e = absurd (cc)
then_some next (Some x) y e = (x, refl, e)

pub map_some : {A B : Type 0} (f : A → B) (o : Option A) (y : B) → option_map f o ≡ Some y → (x : A) × (o ≡ Some x) × (f x ≡ y)
map_some f None y e = absurd (cc)
map_some f (Some x) y e = let same : f x ≡ y = cc in (x, refl, same)

some_parts : {A B : Type 0} (a c : A) (b d : B) → (let found : Option (A × B) = Some (a, b) in found) ≡ Some (c, d) → (a ≡ c) × (b ≡ d)
some_parts {A = A} {B = B} a c b d e =
    let p : (a, b) ≡ (c, d) = cc in
    (ap (λ (x : A × B). x.0) p, ap (λ (x : A × B). x.1) p)

taken_ok : (read : Result (List ℕ × List ℕ) WireFault) (taken : List ℕ × List ℕ) → text_taken read ≡ Some taken → read ≡ Ok taken
taken_ok (Ok found) taken e = let same : found ≡ taken = cc in ap Ok same
taken_ok (Err fault) taken e = absurd (cc)

-- a number that was read
record Word (bytes : List ℕ) (word : ℕ) (rest : List ℕ) : Type 0 where
  is : bytes ≡ u64_bytes word ++ rest
  fits : nat_lt word (2 ^ 64) ≡ true

word_sound : (bytes : List ℕ) (word : ℕ) (rest : List ℕ) → Bytes bytes → word_at bytes ≡ Some (word, rest) → Word bytes word rest
unfolding word_at
word_sound bytes word rest bounds e =
    let view : ℕ → ℕ × List ℕ = λ n. (n, drop 8 bytes) in
    let found = map_some view (u64_at bytes) (word, rest) e in
    let same : found.0 ≡ word = ap (λ (x : ℕ × List ℕ). x.0) found.2 in
    let behind : drop 8 bytes ≡ rest = ap (λ (x : ℕ × List ℕ). x.1) found.2 in
    let begins = begins-u64_at bytes word bounds (found.1 ∙ ap Some same) in
    record {
      is = begins.begins ∙ ap (λ (more : List ℕ). u64_bytes word ++ more) behind;
      fits = (Decides-ltb word (2 ^ 64)).1 begins.fits;
    }

-- a birth and a text that were read
record Front (bytes : List ℕ) (born : ℕ) (text rest : List ℕ) : Type 0 where
  is : bytes ≡ (u64_bytes born ++ text_bytes text) ++ rest
  fits : nat_lt born (2 ^ 64) ≡ true
  scalars : all_scalars text ≡ true
  short : is_short text ≡ true

front_sound : (bytes : List ℕ) (born : ℕ) (text rest : List ℕ) → Bytes bytes → front_at bytes ≡ Some (born, text, rest) → Front bytes born text rest
unfolding front_at
front_sound bytes born text rest bounds e =
    let view : ℕ → List ℕ × List ℕ → ℕ × List ℕ × List ℕ = λ n taken. (n, taken.0, taken.1) in
    let found = then_some (λ (n : ℕ). option_map (view n) (text_taken (text_at (drop 8 bytes)))) (u64_at bytes) (born, text, rest) e in
    let taken = map_some (view found.0) (text_taken (text_at (drop 8 bytes))) (born, text, rest) found.2 in
    let birth : found.0 ≡ born = ap (λ (x : ℕ × List ℕ × List ℕ). x.0) taken.2 in
    let words : taken.0.0 ≡ text = ap (λ (x : ℕ × List ℕ × List ℕ). x.1) taken.2 in
    let others : taken.0.1 ≡ rest = ap (λ (x : ℕ × List ℕ × List ℕ). x.2) taken.2 in
    let begins = begins-u64_at bytes born bounds (found.1 ∙ ap Some birth) in
    let bounds_behind : Bytes (drop 8 bytes) = bytes_behind (u64_bytes born) (drop 8 bytes) (subst Bytes begins.begins bounds) in
    let all : taken.0 ≡ (text, rest) = ap (λ (t : List ℕ). (t, taken.0.1)) words ∙ ap (λ (r : List ℕ). (text, r)) others in
    let read = begins-text_at (drop 8 bytes) text rest bounds_behind (taken_ok (text_at (drop 8 bytes)) taken.0 taken.1 ∙ ap Ok all) in
    record {
      is = begins.begins ∙ ap (λ (more : List ℕ). u64_bytes born ++ more) read.begins ∙ sym (append_assoc (u64_bytes born) (text_bytes text) rest);
      fits = (Decides-ltb born (2 ^ 64)).1 begins.fits;
      scalars = read.scalars;
      short = (Decides-ltb (length (encode_utf8_all text)) (2 ^ 28)).1 read.short;
    }

-- siblings that were read
pub record Siblings (bytes : List ℕ) (nodes : List Node) (rest : List ℕ) : Type 0 where
  pub is : bytes ≡ spelled_nodes nodes ++ rest
  pub plain : are_plain nodes ≡ true
  pub stored : are_stored nodes ≡ true

-- a node that was read
record One (bytes : List ℕ) (node : Node) (rest : List ℕ) : Type 0 where
  is : bytes ≡ spelled_node node ++ rest
  plain : is_plain node ≡ true
  stored : is_stored node ≡ true

-- what is read as siblings is spelled
abbrev Sound : Reads (List Node) → Type 0
Sound read = (bytes : List ℕ) (nodes : List Node) (rest : List ℕ) → Bytes bytes → read bytes ≡ Some (nodes, rest) → Siblings bytes nodes rest

of_clicks : (handler : Option ℕ) → are_of_clicks (handlers_of handler) ≡ true
of_clicks None = refl
of_clicks (Some id) = refl

-- an element whose children were read
element_sound : (read : Reads (List Node)) → Sound read → (born : ℕ) (name : List ℕ) (handler : Option ℕ) (bytes : List ℕ) (node : Node) (rest : List ℕ) → Bytes bytes →
    nat_lt born (2 ^ 64) ≡ true → all_scalars name ≡ true → is_short name ≡ true → fits_word handler ≡ true →
    element_at read born name handler bytes ≡ Some (node, rest) → One (spelled_start born name handler ++ bytes) node rest
element_sound read sound born name handler bytes node rest bounds fits scalars short word e =
    let view : List Node × List ℕ → Node × List ℕ = λ found. (element born name handler found.0, found.1) in
    let found = map_some view (read bytes) (node, rest) e in
    let children = found.0.0 in
    let inside = sound bytes found.0.0 found.0.1 bounds found.1 in
    let same : element born name handler found.0.0 ≡ node = ap (λ (x : Node × List ℕ). x.0) found.2 in
    let behind : found.0.1 ≡ rest = ap (λ (x : Node × List ℕ). x.1) found.2 in
    let start = spelled_start born name handler in
    let made : One (spelled_start born name handler ++ bytes) (element born name handler found.0.0) found.0.1 = record {
      is = rw (spelled-Element, click_handler-of handler, append_assoc) (ap (λ (more : List ℕ). spelled_start born name handler ++ more) inside.is);
      plain = rw plain-Element (true_both _ _ (true_both _ _ (true_both _ _ short refl) (of_clicks handler)) inside.plain);
      stored = rw (stored-Element, click_handler-of handler) (true_both _ _ (true_both _ _ (true_both _ _ fits scalars) word) inside.stored);
    } in
    subst (λ (n : Node). One (spelled_start born name handler ++ bytes) n rest) same
    (subst (λ (r : List ℕ). One (spelled_start born name handler ++ bytes) (element born name handler found.0.0) r) behind made)

-- a node of a kind
kind_sound : (read : Reads (List Node)) → Sound read → (kind born : ℕ) (text bytes : List ℕ) (node : Node) (rest : List ℕ) → Bytes bytes →
    nat_lt born (2 ^ 64) ≡ true → all_scalars text ≡ true → is_short text ≡ true →
    kind_at read kind born text bytes ≡ Some (node, rest) → One ((kind ∷ (u64_bytes born ++ text_bytes text)) ++ bytes) node rest
kind_sound read sound kind born text bytes node rest bounds fits scalars short e =
    elim (cases_Bool (kind == 1)) [
      | inl one ↦ (
          let is : kind ≡ 1 = (Decides-eqb kind 1).0 one in
          let found = some_parts (text_node born text) node bytes rest (rw one at e) in
          let made : One ((1 ∷ (u64_bytes born ++ text_bytes text)) ++ bytes) (text_node born text) bytes = record {
            is = rw spelled-Text refl;
            plain = rw plain-Text short;
            stored = rw stored-Text (true_both _ _ fits scalars);
          } in
          rw is
          (subst (λ (n : Node). One ((1 ∷ (u64_bytes born ++ text_bytes text)) ++ bytes) n rest) found.0
          (subst (λ (r : List ℕ). One ((1 ∷ (u64_bytes born ++ text_bytes text)) ++ bytes) (text_node born text) r) found.1 made))
          )
      | inr no_text ↦ elim (cases_Bool (kind == 2)) [
        | inl two ↦ (
            let is : kind ≡ 2 = (Decides-eqb kind 2).0 two in
            rw is (element_sound read sound born text None bytes node rest bounds fits scalars short refl (rw (no_text, two) at e))
            )
        | inr no_element ↦ elim (cases_Bool (kind == 3)) [
          | inl three ↦ (
              let is : kind ≡ 3 = (Decides-eqb kind 3).0 three in
              let inside : ℕ × List ℕ → Option (Node × List ℕ) = λ id. element_at read born text (Some id.0) id.1 in
              let found = then_some inside (word_at bytes) (node, rest) (rw (no_text, no_element, three) at e) in
              let word = word_sound bytes found.0.0 found.0.1 bounds found.1 in
              let bounds_behind : Bytes found.0.1 = bytes_behind (u64_bytes found.0.0) found.0.1 (subst Bytes word.is bounds) in
              let made = element_sound read sound born text (Some found.0.0) found.0.1 node rest bounds_behind fits scalars short word.fits found.2 in
              rw (is, word.is) (rw append_assoc at made)
              )
          | inr no_clickable ↦ (let wrong : None ≡ Some (node, rest) = rw (no_text, no_element, no_clickable) at e in absurd (cc))
        ]
      ]
    ]

node_sound : (read : Reads (List Node)) → Sound read → (kind : ℕ) (bytes : List ℕ) (node : Node) (rest : List ℕ) → Bytes bytes →
    node_at read kind bytes ≡ Some (node, rest) → One (kind ∷ bytes) node rest
unfolding node_at
node_sound read sound kind bytes node rest bounds e =
    let inside : ℕ × List ℕ × List ℕ → Option (Node × List ℕ) = λ front. kind_at read kind front.0 front.1 front.2 in
    let found = then_some inside (front_at bytes) (node, rest) e in
    let born = found.0.0 in
    let front = front_sound bytes found.0.0 found.0.1 found.0.2 bounds found.1 in
    let bounds_behind : Bytes found.0.2 = bytes_behind (u64_bytes found.0.0 ++ text_bytes found.0.1) found.0.2 (subst Bytes front.is bounds) in
    subst (λ (all : List ℕ). One (kind ∷ all) node rest) (sym front.is)
    (kind_sound read sound kind found.0.0 found.0.1 found.0.2 node rest bounds_behind front.fits front.scalars front.short found.2)

-- what is read is spelled
pub nodes_sound : (fuel : ℕ) → Sound (nodes_at fuel)
unfolding nodes_at
nodes_sound zero bytes nodes rest bounds e = absurd (cc)
nodes_sound (suc fuel) [] nodes rest bounds e = absurd (cc)
nodes_sound (suc fuel) (kind ∷ bytes) nodes rest bounds e =
    let bounds_behind : Bytes bytes = bytes_behind (kind ∷ []) bytes bounds in
    elim (cases_Bool (kind == 0)) [
      | inl end ↦ (
          let is : kind ≡ 0 = (Decides-eqb kind 0).0 end in
          let found = some_parts [] nodes bytes rest (rw end at e) in
          rw (is, ← found.0, ← found.1) (record { is = refl; plain = refl; stored = refl })
          )
      | inr some ↦ (
          let inside : Node × List ℕ → Option (List Node × List ℕ) = λ found. option_map (before found.0) (nodes_at fuel found.1) in
          let found = then_some inside (node_at (nodes_at fuel) kind bytes) (nodes, rest) (rw some at e) in
          let more = map_some (before found.0.0) (nodes_at fuel found.0.1) (nodes, rest) found.2 in
          let one = node_sound (nodes_at fuel) (nodes_sound fuel) kind bytes found.0.0 found.0.1 bounds_behind found.1 in
          let bounds_more : Bytes found.0.1 = bytes_behind (spelled_node found.0.0) found.0.1 (subst Bytes one.is bounds) in
          let others = nodes_sound fuel found.0.1 more.0.0 more.0.1 bounds_more more.1 in
          let all : found.0.0 ∷ more.0.0 ≡ nodes = ap (λ (x : List Node × List ℕ). x.0) more.2 in
          let behind : more.0.1 ≡ rest = ap (λ (x : List Node × List ℕ). x.1) more.2 in
          let split : spelled_nodes (found.0.0 ∷ more.0.0) ≡ spelled_node found.0.0 ++ spelled_nodes more.0.0 =
          append_assoc (spelled_node found.0.0) (concat (map spelled_node more.0.0)) (0 ∷ []) in
          let made : Siblings (kind ∷ bytes) (found.0.0 ∷ more.0.0) more.0.1 = record {
            is = one.is ∙ ap (λ (r : List ℕ). spelled_node found.0.0 ++ r) others.is
                ∙ sym (append_assoc (spelled_node found.0.0) (spelled_nodes more.0.0) more.0.1) ∙ ap (λ (s : List ℕ). s ++ more.0.1) (sym split);
            plain = true_both _ _ one.plain others.plain;
            stored = true_both _ _ one.stored others.stored;
          } in
          subst (λ (ns : List Node). Siblings (kind ∷ bytes) ns rest) all
          (subst (λ (r : List ℕ). Siblings (kind ∷ bytes) (found.0.0 ∷ more.0.0) r) behind made)
          )
    ]
