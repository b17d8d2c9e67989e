-- How many edits of each kind lead from an old rendering to a new one: sums over the pairs.
use Rattle.std.specs.Prelude.{◌≡◌, ℕ, ◌+◌, ◌==◌, Bool, false, ◌&&◌, not, if◌then◌else◌, List, [], ◌∷◌, ◌++◌, length, slice_get, Option, Some, None, min}
use Rattle.std.specs.Str.{bytes_eq}
use Rattle.std.specs.List.{filter, list_any}
use Rattle.cs_ast.specs.declared.value.Value.{Value}
use Rattle.page_core.specs.declared.counts.Counts.{Counts}
use Rattle.frame_core.specs.declared.item.Item.{Item}
use Rattle.frame_core.specs.declared.item.Item.TheVariants as item
use Rattle.frame_core.specs.declared.item.ItemParameter.{ItemParameter}
use Rattle.frame_core.specs.declared.made.Made.{Made}
use Rattle.frame_core.specs.declared.item_attribute.ItemAttribute.{ItemAttribute}
use Rattle.frame_core.specs.declared.item_attribute.ItemValue.{ItemValue}
use Rattle.frame_core.specs.declared.item_attribute.ItemValue.TheVariants as held
use Rattle.pairing_meaning.specs.Slots.{Slot, slots_of}
use Rattle.pairing_meaning.specs.Births.{TellsSlots}
use Rattle.pairing_meaning.specs.Order.{alone, moved_slots}

abbrev pub no_edits : Counts
no_edits = record { prepend = 0; remove = 0; set = 0; unset = 0; text = 0; step_in = 0; step_out = 0; markup = 0; moves = 0; ends = 0 }

abbrev pub plus : Counts → Counts → Counts
plus c d = record {
  prepend = c.prepend + d.prepend;
  remove = c.remove + d.remove;
  set = c.set + d.set;
  unset = c.unset + d.unset;
  text = c.text + d.text;
  step_in = c.step_in + d.step_in;
  step_out = c.step_out + d.step_out;
  markup = c.markup + d.markup;
  moves = c.moves + d.moves;
  ends = c.ends + d.ends;
}

-- how many edits of any kind
abbrev pub total : Counts → ℕ
total c = c.prepend + c.remove + c.set + c.unset + c.text + c.step_in + c.step_out + c.markup + c.moves + c.ends

-- the edits of one list: a slot without a pair is put in or taken out, and each place whose slot belongs to another is moved
abbrev pub list_edits : List (Option ℕ) → List (Option ℕ) → Counts
list_edits from to = record no_edits { prepend = alone from; remove = alone to; moves = moved_slots from to; ends = min 1 (moved_slots from to) }

-- the same text, or the handler of the same id: a paired element keeps an id exactly where the handler values are equal
abbrev pub same_held : ItemValue → ItemValue → Bool
same_held (held.Text one) (held.Text other) = bytes_eq one other
same_held (held.Handler one) (held.Handler other) = one.id == other.id
same_held _ _ = false

abbrev pub same_name : ItemAttribute → ItemAttribute → Bool
same_name one other = bytes_eq one.name other.name

-- a name that is new, or whose text or handler differs, is set, and a name that went is unset
abbrev pub is_set : List ItemAttribute → ItemAttribute → Bool
is_set olds new = not (list_any (λ old. same_name old new && same_held old.value new.value) olds)

abbrev pub is_unset : List ItemAttribute → ItemAttribute → Bool
is_unset news old = not (list_any (λ new. same_name new old) news)

abbrev pub name_edits : List ItemAttribute → List ItemAttribute → Counts
name_edits olds news = record no_edits { set = length (filter (is_set olds) news); unset = length (filter (is_unset news) olds) }

-- a text that differs is updated
abbrev pub text_edits : List ℕ → List ℕ → ℕ
text_edits old new = if bytes_eq old new then 0 else 1

-- an element is gone into, and left again, where some edit is made in its children
abbrev pub stepped : Counts → Counts
stepped c = if total c == 0 then c else record c { step_in = c.step_in + 1; step_out = c.step_out + 1 }

mutual
  -- the edits of one pair, and those within it
  pub data Changed : Item → Item → Counts → Type 0 where
    changed_element : (m n : ℕ) (name : List ℕ) (key other : Value) (was attributes : List ItemAttribute) (olds news : List Item) (inner : Counts) → Totals (slots_of olds) (slots_of news) inner
        → Changed (item.Element m name key was olds) (item.Element n name other attributes news) (plus (name_edits was attributes) (stepped inner))
    changed_text : (m n : ℕ) (old new : List ℕ) → Changed (item.Text m old) (item.Text n new) (record no_edits { text = text_edits old new })
    changed_markup : (m n : ℕ) (old new : List ℕ) → Changed (item.Markup m old) (item.Markup n new) (record no_edits { markup = text_edits old new })
    changed_component : (m n first second : ℕ) (what other : Made) (key later : Value) (old new : List ItemParameter) → Changed (item.Component m first what key old) (item.Component n second other later new) no_edits

  -- the sum over the pairs of a list
  pub data Sums : List (Option ℕ) → List Slot → List Slot → Counts → Type 0 where
    sums_none : (olds : List Slot) → Sums [] olds [] no_edits
    sums_alone : (from : List (Option ℕ)) (olds news : List Slot) (new : Slot) (c : Counts) → Sums from olds news c → Sums (from ++ None ∷ []) olds (news ++ new ∷ []) c
    sums_pair : (from : List (Option ℕ)) (olds news : List Slot) (new old : Slot) (place : ℕ) (c d : Counts) → Sums from olds news c → slice_get olds place ≡ Some old → Changed old.item new.item d
        → Sums (from ++ Some place ∷ []) olds (news ++ new ∷ []) (plus c d)

  -- the edits of a list, and those of its pairs
  pub data Totals : List Slot → List Slot → Counts → Type 0 where
    totals : (olds news : List Slot) (from to : List (Option ℕ)) (c : Counts) → TellsSlots olds news from → TellsSlots news olds to → Sums from olds news c → Totals olds news (plus (list_edits from to) c)
