-- White space at the end of a list of items.
use Rattle.std.proofs.Common.{◌≡◌, ◌-◌, ◌<◌, suc, true, false, List, [], ◌∷◌, length, get_or, refl, ap, arith}
use Rattle.std.specs.List.{remove}
use Rattle.first_click.specs.declared.component.Item.{Item}
use Rattle.first_click.specs.Content.{is_blank, without_last_blank}
use Rattle.first_click.specs.Reading.Content.{ends_blank}

pub ends_blank-at : (items : List Item) (d : Item) → 0 < length items → ends_blank items ≡ is_blank (get_or items (length items - 1) d)
ends_blank-at [] d some = absurd (omega arith)
ends_blank-at (last ∷ []) d some = refl
ends_blank-at (first ∷ second ∷ items) d some =
    let e : length (first ∷ second ∷ items) - 1 ≡ suc (length (second ∷ items) - 1) = omega arith in
    rw e (ends_blank-at (second ∷ items) d (omega arith))

pub without_last_blank-kept : (items : List Item) → ends_blank items ≡ false → items ≡ without_last_blank items
without_last_blank-kept [] e = refl
without_last_blank-kept (last ∷ []) e = rw e refl
without_last_blank-kept (first ∷ second ∷ items) e = ap (λ (t : List Item). first ∷ t) (without_last_blank-kept (second ∷ items) e)

pub remove-last : (items : List Item) → ends_blank items ≡ true → remove items (length items - 1) ≡ without_last_blank items
remove-last [] e = absurd (cc)
remove-last (last ∷ []) e = rw e refl
remove-last (first ∷ second ∷ items) e =
    let n : length (first ∷ second ∷ items) - 1 ≡ suc (length (second ∷ items) - 1) = omega arith in
    rw n (ap (λ (t : List Item). first ∷ t) (remove-last (second ∷ items) e))

pub ends_blank-some : (items : List Item) → ends_blank items ≡ true → 0 < length items
ends_blank-some [] e = absurd (cc)
ends_blank-some (last ∷ items) e = omega arith
