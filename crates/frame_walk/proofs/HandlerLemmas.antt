-- One attribute more.
use Rattle.std.proofs.Common.{◌≡◌, ◌∙◌, refl, ap, sym, subst, ℕ, zero, suc, ◌+◌, ◌<◌, ◌⊎◌, inl, inr, List, [], ◌∷◌, ◌++◌, length, map, take, drop, get_or, slice_get, Option, Some, None, MatchOption, arith, append_assoc, append-nil}
use Rattle.std.specs.List.{flat_map}
use Rattle.frame_core.specs.declared.item_attribute.ItemAttribute.{ItemAttribute}
use Rattle.frame_core.specs.declared.item_attribute.ItemHandler.{ItemHandler}
use Rattle.frame_core.specs.declared.item_attribute.ItemValue.{ItemValue}
use Rattle.frame_core.specs.declared.item_attribute.ItemValue.TheVariants as held
use Rattle.item_pairing.proofs.SlotLemmas.{drop-read}
use Rattle.frame_walk.specs.Keeping.{Stays, KeepsUnder, keeps_id, keeps_no_id}

-- what each attribute gives, one after the other
module _ {Y : Type 0} (f : ItemAttribute → List Y) (attributes : List ItemAttribute) (i : ℕ) (attribute : ItemAttribute) (within : i < length attributes) (is : attribute ≡ get_or attributes i attribute) (front all : List Y)
    (so_far : front ++ flat_map f (drop i attributes) ≡ all) where
  pub gives-more : (after : List Y) → after ≡ front ++ f attribute → after ++ flat_map f (drop (i + 1) attributes) ≡ all
  gives-more after longer =
      ap (λ (ys : List Y). ys ++ flat_map f (drop (i + 1) attributes)) longer
      ∙ append_assoc front (f attribute) (flat_map f (drop (i + 1) attributes))
      ∙ sym (ap (λ (xs : List ItemAttribute). front ++ flat_map f xs) (drop-read attributes i attribute within is)) ∙ so_far

-- what one attribute more keeps
pub handler-keeps : (was attributes : List ItemAttribute) (attribute : ItemAttribute) (handler : ItemHandler) (kept after : List (Option ℕ)) (found : Option ℕ) → KeepsUnder was attributes kept → attribute.value ≡ held.Handler handler
    → MatchOption found ((old : ItemHandler) → Stays was attribute.name handler old → ⊥) (λ id. (old : ItemHandler) × (old.id ≡ id) × Stays was attribute.name handler old)
    → after ≡ kept ++ found ∷ [] → KeepsUnder was (attributes ++ attribute ∷ []) after
handler-keeps was attributes attribute handler kept after None keeps value none longer =
    subst (λ (ks : List (Option ℕ)). KeepsUnder was (attributes ++ attribute ∷ []) ks) (sym longer) (keeps_no_id was attributes kept attribute handler keeps value none)
handler-keeps was attributes attribute handler kept after (Some id) keeps value some longer =
    subst (λ (ks : List (Option ℕ)). KeepsUnder was (attributes ++ attribute ∷ []) ks) (sym (longer ∙ ap (λ n. kept ++ Some n ∷ []) (sym some.1)))
    (keeps_id was attributes kept attribute some.0 handler keeps value some.2)

abbrev pub no_id : {X : Type 0} → X → Option ℕ
no_id x = None

none-of : {X Y : Type 0} (f : X → Y) (xs : List X) → map no_id xs ≡ map no_id (map f xs)
none-of f [] = refl
none-of f (x ∷ xs) = ap (λ (rest : List (Option ℕ)). None ∷ rest) (none-of f xs)

-- as many places without an id
pub nothing-of : {X Y : Type 0} (f : X → Y) (xs : List X) (ys : List Y) → map f xs ≡ ys → map no_id xs ≡ map no_id ys
nothing-of f xs ys is = none-of f xs ∙ ap (λ zs. map no_id zs) is
