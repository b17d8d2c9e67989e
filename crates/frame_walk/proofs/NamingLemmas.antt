-- Ids that are put in from the last place on.
use Rattle.std.proofs.Common.{◌≡◌, ◌∙◌, refl, ap, sym, subst, ℕ, ◌+◌, ◌≤◌, List, [], ◌∷◌, ◌++◌, length, map, reverse, arith, append_assoc, append-nil, length-append}
use Rattle.std.specs.List.{flat_map}
use Rattle.std.proofs.lemmas.List.{reverse-append}
use Rattle.handler_ids.specs.declared.handler_value.HandlerValue.{HandlerValue}
use Rattle.frame_walk.specs.Told.{Takes}

-- what has its ids, what has none yet, and the ids that are left
pub record Named {X Y : Type 0} (bare : X → Y) (ids : X → List ℕ) (values : X → List HandlerValue) (initial rest named : List X) (before after : List ℕ) : Type 0 where
  pub same : map bare rest ++ map bare (reverse named) ≡ map bare initial
  pub split : before ≡ after ++ flat_map ids (reverse named)
  pub few : length (flat_map values rest) ≤ length after
  pub long : length (flat_map ids (reverse named)) + length (flat_map values rest) ≡ length (flat_map values initial)

pub flat-of-map : {X Y : Type 0} (f : X → List Y) (xs : List X) → flat_map (λ ys. ys) (map f xs) ≡ flat_map f xs
flat-of-map f [] = refl
flat-of-map f (x ∷ xs) = ap (λ ys. f x ++ ys) (flat-of-map f xs)

flat-append : {X Y : Type 0} (f : X → List Y) (xs ys : List X) → flat_map f (xs ++ ys) ≡ flat_map f xs ++ flat_map f ys
flat-append f [] ys = refl
flat-append f (x ∷ xs) ys = ap (λ zs. f x ++ zs) (flat-append f xs ys) ∙ sym (append_assoc (f x) (flat_map f xs) (flat_map f ys))

map-append : {X Y : Type 0} (f : X → Y) (xs ys : List X) → map f (xs ++ ys) ≡ map f xs ++ map f ys
map-append f [] ys = refl
map-append f (x ∷ xs) ys = ap (λ zs. f x ∷ zs) (map-append f xs ys)

flat-last : {X Y : Type 0} (f : X → List Y) (xs : List X) (x : X) → length (flat_map f (xs ++ x ∷ [])) ≡ length (flat_map f xs) + length (f x)
flat-last f xs x = ap length (flat-append f xs (x ∷ []) ∙ ap (λ ys. flat_map f xs ++ ys) (append-nil (f x))) ∙ length-append (flat_map f xs) (f x)

module _ {X Y : Type 0} (bare : X → Y) (ids : X → List ℕ) (values : X → List HandlerValue) (initial : List X) (before : List ℕ) where
  pub named-start : length (flat_map values initial) ≤ length before → Named bare ids values initial initial [] before before
  named-start few = record { same = append-nil (map bare initial); split = sym (append-nil before); few = few; long = (let e : 0 + length (flat_map values initial) ≡ length (flat_map values initial) = omega arith in e) }

  module _ (rest less named more : List X) (last it : X) (after left : List ℕ) (so_far : Named bare ids values initial rest named before after) (popped : rest ≡ less ++ last ∷ []) where
    pub last-few : length (values last) ≤ length after
    last-few =
        let few = so_far.few in
        let long : length (flat_map values rest) ≡ length (flat_map values less) + length (values last) = ap (λ xs. length (flat_map values xs)) popped ∙ flat-last values less last in
        omega arith

    pub named-more : bare it ≡ bare last → Takes after left (ids it) (values last) → more ≡ named ++ it ∷ [] → Named bare ids values initial less more before left
    named-more alike takes pushed =
        let turned : reverse more ≡ it ∷ reverse named = ap reverse pushed ∙ reverse-append named (it ∷ []) in
        let own = flat_map ids (reverse named) in
        let whole : flat_map ids (reverse more) ≡ ids it ++ own = ap (flat_map ids) turned in
        let rest_long : length (flat_map values rest) ≡ length (flat_map values less) + length (values last) = ap (λ xs. length (flat_map values xs)) popped ∙ flat-last values less last in
        let after_long : length after ≡ length left + length (ids it) = ap length takes.split ∙ length-append left (ids it) in
        let whole_long : length (flat_map ids (reverse more)) ≡ length (ids it) + length own = ap length whole ∙ length-append (ids it) own in
        let one = takes.long in
        let few = so_far.few in
        let long = so_far.long in
        record {
          same = ap (λ xs. map bare less ++ map bare xs) turned
              ∙ ap (λ y. map bare less ++ y ∷ map bare (reverse named)) alike
              ∙ sym (append_assoc (map bare less) (bare last ∷ []) (map bare (reverse named)))
              ∙ ap (λ ys. ys ++ map bare (reverse named)) (sym (map-append bare less (last ∷ [])) ∙ ap (map bare) (sym popped))
              ∙ so_far.same;
          split = so_far.split ∙ ap (λ xs. xs ++ own) takes.split ∙ append_assoc left (ids it) own ∙ ap (λ xs. left ++ xs) (sym whole);
          few = omega arith;
          long = omega arith;
        }

  module _ (named them : List X) (after : List ℕ) (so_far : Named bare ids values initial [] named before after) (turned : them ≡ reverse named) where
    pub named-same : map bare them ≡ map bare initial
    named-same = ap (map bare) turned ∙ so_far.same

    pub named-takes : Takes before after (flat_map ids them) (flat_map values initial)
    named-takes =
        let long = so_far.long in
        record { split = so_far.split ∙ ap (λ xs. after ++ flat_map ids xs) (sym turned); long = ap (λ xs. length (flat_map ids xs)) turned ∙ (let e : length (flat_map ids (reverse named)) ≡ length (flat_map values initial) = omega arith in e) }
