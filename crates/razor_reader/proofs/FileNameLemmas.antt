-- What stands behind the last slash of a name.
use Rattle.std.proofs.Common.{◌≡◌, ℕ, zero, suc, ◌+◌, ◌<◌, true, false, List, [], ◌∷◌, length, drop, get_or, Option, Some, None, refl, sym, ◌∙◌, arith, inl, inr}
use Rattle.std.specs.Prelude.{position}
use Rattle.std.specs.List.{list_any, position_or_len}
use Rattle.std.proofs.lemmas.Bool.{cases_Bool, lt-ltb}
use Rattle.std.proofs.lemmas.List.Folds.{list_any_at}
use Rattle.razor_ast.specs.FileTexts.{behind_slash}
use Rattle.razor_reader.specs.FileReading.{is_slash}

some_none : {A : Type 0} (x : ℕ) → Some x ≡ None → A
some_none x e = absurd (cc)

any_first : (name : List ℕ) → list_any is_slash name ≡ true → position_or_len is_slash name < length name
any_first [] e = absurd (cc)
any_first (c ∷ name) e = elim (cases_Bool (is_slash c)) [
  | inl is ↦ rw is (omega arith)
  | inr fails ↦ rw fails (let more = any_first name (rw fails at e) in omega arith)
]

behind_whole : (name : List ℕ) → list_any is_slash name ≡ false → behind_slash name ≡ name
behind_whole [] e = refl
behind_whole (c ∷ name) e = rw e refl

pub behind_plain : (name : List ℕ) → position is_slash name ≡ None → behind_slash name ≡ name
behind_plain name e = elim (cases_Bool (list_any is_slash name)) [
  | inl is ↦
      let there : position is_slash name ≡ Some (position_or_len is_slash name) = rw (lt-ltb (position_or_len is_slash name) (length name) (any_first name is)) refl in
      some_none (position_or_len is_slash name) (sym there ∙ e)
  | inr fails ↦ behind_whole name fails
]

pub behind_cut : (name : List ℕ) (i : ℕ) → i < length name → is_slash (get_or name i 0) ≡ true → behind_slash name ≡ behind_slash (drop (i + 1) name)
behind_cut [] i within e = absurd (omega arith)
behind_cut (c ∷ name) zero within e = rw e refl
behind_cut (c ∷ name) (suc i) within e =
    let next : suc i + 1 ≡ suc (i + 1) = omega arith in
    rw (list_any_at is_slash (c ∷ name) (suc i) 0 within e, next)
    (behind_cut name i (omega arith) e)
