-- Steps one after another.
use Rattle.std.proofs.Common.{◌≡◌, ℕ, ◌<◌, ◌≤◌, List, length, arith, [], ◌∷◌, ◌++◌, Some, None, refl, ap, sym, ◌∙◌, subst}
use Rattle.std.specs.declared.option.Option.{Option}
use Rattle.first_click.specs.Walks.{Walk}
use Rattle.first_click.specs.Walks as w

-- one more step
pub walk-more : {State Thing : Type 0} (Step : State → Thing → State → Type 0) (a b c : State) (xs : List Thing) (x : Thing)
    → Walk Step a xs b → Step b x c → Walk Step a (xs ++ x ∷ []) c
walk-more Step _ _ c _ x (w.stay a) step = w.go a c c x [] step (w.stay c)
walk-more Step _ _ c _ x (w.go a next there y ys first rest) step =
    w.go a next c y (ys ++ x ∷ []) first (walk-more Step next there c ys x rest step)

-- two walks from one state, by steps that a function gives, end alike where it gives no more
pub record SameWalk {State Thing : Type 0} (xs ys : List Thing) (b c : State) : Type 0 where
  pub things : xs ≡ ys
  pub ends : b ≡ c

module _ {State Thing : Type 0} (Step : State → Thing → State → Type 0) (next : State → Option (Thing × State))
    (again : (a : State) (x : Thing) (b : State) → Step a x b → next a ≡ Some (x, b)) where
  pub same_walk : (a b c : State) (xs ys : List Thing) → Walk Step a xs b → Walk Step a ys c → next b ≡ None → next c ≡ None → SameWalk xs ys b c
  same_walk _ _ _ _ _ (w.stay a) (w.stay _) stop_b stop_c = record { things = refl; ends = refl }
  same_walk _ _ _ _ _ (w.stay a) (w.go _ n there x xs step rest) stop_b stop_c =
      let given = again a x n step in absurd (cc)
  same_walk _ _ _ _ _ (w.go a n there x xs step rest) (w.stay _) stop_b stop_c =
      let given = again a x n step in absurd (cc)
  same_walk _ _ _ _ _ (w.go a n b x xs step rest) (w.go _ m c y ys other more) stop_b stop_c =
      let made : Thing × State = (x, n) in
      let want : Thing × State = (y, m) in
      let same : made ≡ want = let p = again a x n step in let q = again a y m other in let r : Some made ≡ Some want = sym p ∙ q in cc in
      let first : x ≡ y = ap (λ (z : Thing × State). z.0) same in
      let second : n ≡ m = ap (λ (z : Thing × State). z.1) same in
      let tail = same_walk n b c xs ys rest (subst (λ (s : State). Walk Step s ys c) (sym second) more) stop_b stop_c in
      record { things = cc; ends = tail.ends }

-- a walk by steps that each take something away has no more of them than there was
module _ {State Thing : Type 0} (Step : State → Thing → State → Type 0) (size : State → ℕ)
    (smaller : (a : State) (x : Thing) (b : State) → Step a x b → size b < size a) where
  pub walk-length : (a b : State) (xs : List Thing) → Walk Step a xs b → length xs ≤ size a
  walk-length _ _ _ (w.stay a) = omega arith
  walk-length _ _ _ (w.go a n b x xs step rest) = omega (arith, smaller a x n step, walk-length n b xs rest)

  pub walk-shrinks : (a b : State) (xs : List Thing) → Walk Step a xs b → size b ≤ size a
  walk-shrinks _ _ _ (w.stay a) = omega arith
  walk-shrinks _ _ _ (w.go a n b x xs step rest) = omega (arith, smaller a x n step, walk-shrinks n b xs rest)
