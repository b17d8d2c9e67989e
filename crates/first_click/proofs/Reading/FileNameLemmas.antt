-- The part of a path behind its last slash.
use Rattle.std.proofs.Common.{◌≡◌, ℕ, zero, suc, ◌+◌, ◌<◌, true, false, List, [], ◌∷◌, length, take, drop, get_or, ◌-◌, ◌++◌, length-append, Some, None, refl, ap, sym, ◌∙◌, arith, inl, inr}
use Rattle.std.specs.Prelude.{position, codes, IsTrue}
use Rattle.std.specs.Str.{bytes_eq}
use Rattle.std.specs.Cmp.Lexicographic.{bytes_decides}
use Rattle.std.proofs.Math.Seq.{take-append_seam, drop-append_seam}
use Rattle.std.proofs.lemmas.List.{take-append-drop}
use Rattle.std.specs.List.{list_any, position_or_len}
use Rattle.std.proofs.lemmas.Bool.{cases_Bool, lt-ltb}
use Rattle.std.proofs.lemmas.List.Folds.{list_any_at}
use Rattle.first_click.specs.FileName.{is_slash, base_name, is_component_name, NamesComponent}
use Rattle.first_click.proofs.OptionLemmas.{some_none}

any_first : (path : List ℕ) → list_any is_slash path ≡ true → position_or_len is_slash path < length path
any_first [] e = absurd (cc)
any_first (c ∷ path) e = elim (cases_Bool (is_slash c)) [
  | inl is ↦ rw is (omega arith)
  | inr fails ↦ rw fails (let more = any_first path (rw fails at e) in omega arith)
]

base_name-whole : (path : List ℕ) → list_any is_slash path ≡ false → base_name path ≡ path
base_name-whole [] e = refl
base_name-whole (c ∷ path) e = rw e refl

pub base_name-plain : (path : List ℕ) → position is_slash path ≡ None → base_name path ≡ path
base_name-plain path e = elim (cases_Bool (list_any is_slash path)) [
  | inl is ↦
      let there : position is_slash path ≡ Some (position_or_len is_slash path) = rw (lt-ltb (position_or_len is_slash path) (length path) (any_first path is)) refl in
      absurd (some_none (position_or_len is_slash path) (sym there ∙ e))
  | inr fails ↦ base_name-whole path fails
]

pub base_name-cut : (path : List ℕ) (i : ℕ) → i < length path → is_slash (get_or path i 0) ≡ true → base_name path ≡ base_name (drop (i + 1) path)
base_name-cut [] i within e = absurd (omega arith)
base_name-cut (c ∷ path) zero within e = rw e refl
base_name-cut (c ∷ path) (suc i) within e =
    let next : suc i + 1 ≡ suc (i + 1) = omega arith in
    rw (list_any_at is_slash (c ∷ path) (suc i) 0 within e, next)
    (base_name-cut path i (omega arith) e)

-- a name before `.razor`

abbrev ending : List ℕ
ending = codes ".razor"

front_of : (base name : List ℕ) → base ≡ name ++ ending → take (length base - 6) base ≡ name
front_of base name e =
    let count : length base - 6 ≡ length name = rw (e, length-append name ending) (omega arith) in
    rw (count, e) (take-append_seam name ending)

end_of : (base name : List ℕ) → base ≡ name ++ ending → drop (length base - 6) base ≡ ending
end_of base name e =
    let count : length base - 6 ≡ length name = rw (e, length-append name ending) (omega arith) in
    rw (count, e) (drop-append_seam name ending)

pub with_ending : (path base name : List ℕ) → base ≡ base_name path → bytes_eq (drop (length base - 6) base) ending ≡ true → name ≡ take (length base - 6) base
    → (IsTrue (is_component_name name) → NamesComponent path) × (NamesComponent path → IsTrue (is_component_name name))
with_ending path base name is_base ends front =
    let laid : base ≡ name ++ ending = sym (take-append-drop (length base - 6) base) ∙ ap (λ (x : List ℕ). take (length base - 6) base ++ x) ((bytes_decides _ _).0 ends) ∙ ap (λ (x : List ℕ). x ++ ending) (sym front) in (
      λ named. record { name = name; base = sym is_base ∙ laid; named = named },
      λ is. let same : name ≡ is.name = front ∙ front_of base is.name (is_base ∙ is.base) in ap is_component_name same ∙ is.named,
    )

pub without_ending : (path base : List ℕ) → base ≡ base_name path → bytes_eq (drop (length base - 6) base) ending ≡ false → NamesComponent path → ⊥
without_ending path base is_base differs is =
    let ends : bytes_eq (drop (length base - 6) base) ending ≡ true = (bytes_decides _ _).1 (end_of base is.name (is_base ∙ is.base)) in
    cc
