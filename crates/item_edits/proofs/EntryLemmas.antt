-- Entries in the order of their keys: what is found after one is set or taken out, and that entries are equal where the same is found.
use Rattle.std.proofs.Common.{◌≡◌, ◌∙◌, refl, ap, sym, subst, ℕ, Bool, true, false, cond, List, [], ◌∷◌, map, Option, Some, None}
use Rattle.std.specs.declared.cmp.Ordering.{Ordering}
use Rattle.std.specs.declared.cmp.Ordering.TheVariants.{Less, Equal, Greater}
use Rattle.std.specs.Ordering.{is_eq, eq_by_cmp, match_ordering, ordering_reverse}
use Rattle.std.specs.Cmp.{IsTotalOrder, eq_by_cmp_equiv, tied_itself}
use Rattle.std.specs.Option.{is_some, unwrap_or}
use Rattle.std.specs.List.{AllByRecursion}
use Rattle.std.specs.List.Sorted.{IsStrictlySortedBy}
use Rattle.std.specs.Map.{keys_of, lookup, remove_entry}
use Rattle.std.specs.BTreeMap.{insert_entry, is_at}
use Rattle.std.proofs.lemmas.Map.{lookup-none}
use Rattle.std.proofs.lemmas.Map.Keys.{sorted_head, sorted_tail, IsDistinct-from_sorted}
use Rattle.std.proofs.lemmas.Map.Entries.{none_past_head, none_below_head}

pub tied : (r : Ordering) → is_eq r ≡ true → r ≡ Equal
tied Less is = absurd (cc)
tied Equal is = refl
tied Greater is = absurd (cc)

twice : {A : Type 0} (b : Bool) (x y z : A) → cond b x z ≡ cond b x (cond b y z)
twice true x y z = refl
twice false x y z = refl

nothing : {K : Type 0} (R : K → K → Ordering) → IsStrictlySortedBy R []
unfolding IsStrictlySortedBy
nothing R = tt

module _ {K X : Type 0} {R : K → K → Ordering} (o : IsTotalOrder R) (exact : (x y : K) → R x y ≡ Equal → x ≡ y) where
  abbrev Sorted : List (K × X) → Type 0
  Sorted es = IsStrictlySortedBy R (keys_of es)

  abbrev find : List (K × X) → K → Option X
  find es q = lookup (is_at (R q)) es

  abbrev Below : K → List (K × X) → Type 0
  Below k es = AllByRecursion (λ y. R k y ≡ Less) (keys_of es)

  in-order : (e : K × X) (es : List (K × X)) → Below e.0 es → Sorted es → Sorted (e ∷ es)
  unfolding IsStrictlySortedBy
  in-order e es below sorted = (below, sorted)

  below-all : (j k : K) (es : List (K × X)) → R j k ≡ Less → Below k es → Below j es
  below-all j k [] less below = tt
  below-all j k (e ∷ es) less below = (o.trans j k e.0 less below.0, below-all j k es less below.1)

  below-set : (j k : K) (v : X) (es : List (K × X)) → R j k ≡ Less → Below j es → Below j (insert_entry R es k v)
  below-set j k v [] less below = (less, tt)
  below-set j k v (e ∷ es) less below = by_order (below-set j k v es less below.1) (R k e.0)
    where
      by_order : Below j (insert_entry R es k v) → (r : Ordering) → Below j (match_ordering r ((k, v) ∷ e ∷ es) ((e.0, v) ∷ es) (e ∷ insert_entry R es k v))
      by_order rest Less = (less, below)
      by_order rest Equal = below
      by_order rest Greater = (below.0, rest)

  pub sorted-set : (k : K) (v : X) (es : List (K × X)) → Sorted es → Sorted (insert_entry R es k v)
  sorted-set k v [] sorted = in-order (k, v) [] tt (nothing R)
  sorted-set k v (e ∷ es) sorted = by_order (sorted-set k v es (sorted_tail R e.0 (keys_of es) sorted)) (R k e.0) refl
    where
      by_order : Sorted (insert_entry R es k v) → (r : Ordering) → R k e.0 ≡ r → Sorted (match_ordering r ((k, v) ∷ e ∷ es) ((e.0, v) ∷ es) (e ∷ insert_entry R es k v))
      by_order rest Less is = in-order (k, v) (e ∷ es) (is, below-all k e.0 es is (sorted_head R e.0 (keys_of es) sorted)) sorted
      by_order rest Equal is = sorted
      by_order rest Greater is = in-order e (insert_entry R es k v) (below-set e.0 k v es (o.antisymm e.0 k ∙ ap ordering_reverse is) (sorted_head R e.0 (keys_of es) sorted)) rest

  below-without : (j : K) (test : K → Bool) (es : List (K × X)) → Below j es → Below j (remove_entry test es)
  below-without j test [] below = tt
  below-without j test (e ∷ es) below = by_test (below-without j test es below.1) (test e.0)
    where
      by_test : Below j (remove_entry test es) → (b : Bool) → Below j (cond b es (e ∷ remove_entry test es))
      by_test rest true = below.1
      by_test rest false = (below.0, rest)

  pub sorted-without : (test : K → Bool) (es : List (K × X)) → Sorted es → Sorted (remove_entry test es)
  sorted-without test [] sorted = nothing R
  sorted-without test (e ∷ es) sorted = by_test (sorted-without test es (sorted_tail R e.0 (keys_of es) sorted)) (test e.0)
    where
      by_test : Sorted (remove_entry test es) → (b : Bool) → Sorted (cond b es (e ∷ remove_entry test es))
      by_test rest true = sorted_tail R e.0 (keys_of es) sorted
      by_test rest false = in-order e (remove_entry test es) (below-without e.0 test es (sorted_head R e.0 (keys_of es) sorted)) rest

  -- what is found where an entry is set
  pub found-set : (k : K) (v : X) (q : K) (es : List (K × X)) → find (insert_entry R es k v) q ≡ cond (is_eq (R q k)) (Some v) (find es q)
  found-set k v q [] = refl
  found-set k v q (e ∷ es) = by_order (found-set k v q es) (R k e.0) refl
    where
      swapped : (a b : Bool) → (is_eq (R q e.0) ≡ a) → (is_eq (R q k) ≡ b) → R k e.0 ≡ Greater → (x y z : Option X) → cond a x (cond b y z) ≡ cond b y (cond a x z)
      swapped true true p r greater x y z =
          let same : k ≡ e.0 = sym (exact q k (tied (R q k) r)) ∙ exact q e.0 (tied (R q e.0) p) in
          let tie : R k e.0 ≡ Equal = ap (R k) (sym same) ∙ tied_itself o k in
          absurd (cc)
      swapped true false p r greater x y z = refl
      swapped false true p r greater x y z = refl
      swapped false false p r greater x y z = refl

      by_order : find (insert_entry R es k v) q ≡ cond (is_eq (R q k)) (Some v) (find es q) → (r : Ordering) → R k e.0 ≡ r
          → find (match_ordering r ((k, v) ∷ e ∷ es) ((e.0, v) ∷ es) (e ∷ insert_entry R es k v)) q ≡ cond (is_eq (R q k)) (Some v) (find (e ∷ es) q)
      by_order rest Less is = refl
      by_order rest Equal is =
          let same : e.0 ≡ k = sym (exact k e.0 is) in
          twice (is_eq (R q e.0)) (Some v) (Some e.1) (find es q)
          ∙ ap (λ z. cond (is_eq (R q z)) (Some v) (find (e ∷ es) q)) same
      by_order rest Greater is =
          ap (cond (is_eq (R q e.0)) (Some e.1)) rest
          ∙ swapped (is_eq (R q e.0)) (is_eq (R q k)) refl refl is (Some e.1) (Some v) (find es q)

  -- what is found where a key is taken out
  pub found-without : (k q : K) (es : List (K × X)) → Sorted es → find (remove_entry (is_at (R k)) es) q ≡ cond (is_eq (R k q)) None (find es q)
  found-without k q [] sorted = by_test (is_eq (R k q))
    where
      by_test : (b : Bool) → ◌≡◌ {A = Option X} None (cond b None None)
      by_test true = refl
      by_test false = refl
  found-without k q (e ∷ es) sorted =
      by_tests (is_eq (R k e.0)) (is_eq (R k q)) (is_eq (R q e.0)) refl refl refl (found-without k q es (sorted_tail R e.0 (keys_of es) sorted))
    where
      past : is_eq (R q e.0) ≡ true → find es q ≡ None
      past t = lookup-none (is_at (R q)) es (none_past_head (eq_by_cmp_equiv o) q e es (IsDistinct-from_sorted R _ sorted) t)

      by_tests : (a b c : Bool) → is_eq (R k e.0) ≡ a → is_eq (R k q) ≡ b → is_eq (R q e.0) ≡ c → find (remove_entry (is_at (R k)) es) q ≡ cond b None (find es q)
          → find (cond a es (e ∷ remove_entry (is_at (R k)) es)) q ≡ cond b None (cond c (Some e.1) (find es q))
      by_tests true true c p r s rest =
          let same : q ≡ e.0 = sym (exact k q (tied (R k q) r)) ∙ exact k e.0 (tied (R k e.0) p) in
          past (ap (λ z. is_eq (R q z)) (sym same) ∙ ap is_eq (tied_itself o q))
      by_tests true false true p r s rest =
          let same : k ≡ q = exact k e.0 (tied (R k e.0) p) ∙ sym (exact q e.0 (tied (R q e.0) s)) in
          let tie : is_eq (R k q) ≡ true = ap (λ z. is_eq (R k z)) (sym same) ∙ ap is_eq (tied_itself o k) in
          absurd (cc)
      by_tests true false false p r s rest = refl
      by_tests false true true p r s rest =
          let same : k ≡ e.0 = exact k q (tied (R k q) r) ∙ exact q e.0 (tied (R q e.0) s) in
          let tie : is_eq (R k e.0) ≡ true = ap (λ z. is_eq (R k z)) (sym same) ∙ ap is_eq (tied_itself o k) in
          absurd (cc)
      by_tests false true false p r s rest = ap (λ b. cond b (Some e.1) (find (remove_entry (is_at (R k)) es) q)) s ∙ rest
      by_tests false false c p r s rest = ap (λ b. cond b (Some e.1) (find (remove_entry (is_at (R k)) es) q)) s ∙ ap (cond c (Some e.1)) rest

  at-head : (e : K × X) (es : List (K × X)) → find (e ∷ es) e.0 ≡ Some e.1
  at-head e es = ap (λ b. cond b (Some e.1) (find es e.0)) (ap is_eq (tied_itself o e.0))

  not-none : (v : X) → Some v ≡ None → ⊥
  not-none v is = cc

  -- entries in order are equal where the same is found
  pub same-entries : (es fs : List (K × X)) → Sorted es → Sorted fs → ((q : K) → find es q ≡ find fs q) → es ≡ fs
  same-entries [] [] s t h = refl
  same-entries [] (f ∷ fs) s t h = absurd (not-none f.1 (sym (h f.0 ∙ at-head f fs)))
  same-entries (e ∷ es) [] s t h = absurd (not-none e.1 (sym (at-head e es) ∙ h e.0))
  same-entries (e ∷ es) (f ∷ fs) s t h =
      let keys : e.0 ≡ f.0 = exact e.0 f.0 (heads (R e.0 f.0) refl) in
      let values : e.1 ≡ f.1 = value (sym (at-head e es) ∙ h e.0 ∙ ap (find (f ∷ fs)) keys ∙ at-head f fs) in
      let one : e ≡ f = λ i. (keys i, values i) in
      let rest = same-entries es fs (sorted_tail R e.0 (keys_of es) s) (sorted_tail R f.0 (keys_of fs) t) (tails keys) in
      λ i. one i ∷ rest i
    where
      heads : (r : Ordering) → R e.0 f.0 ≡ r → R e.0 f.0 ≡ Equal
      heads Less is = absurd (not-none e.1 (sym (at-head e es) ∙ h e.0 ∙ lookup-none (is_at (R e.0)) (f ∷ fs) (none_below_head o e.0 f fs t is)))
      heads Equal is = is
      heads Greater is = absurd (not-none f.1 (sym (at-head f fs) ∙ sym (h f.0) ∙ lookup-none (is_at (R f.0)) (e ∷ es) (none_below_head o f.0 e es s (o.antisymm f.0 e.0 ∙ ap ordering_reverse is))))

      value : Some e.1 ≡ Some f.1 → e.1 ≡ f.1
      value is = ap (λ u. unwrap_or u e.1) is

      past-first : (q : K) → is_eq (R q e.0) ≡ true → find es q ≡ None
      past-first q hit = lookup-none (is_at (R q)) es (none_past_head (eq_by_cmp_equiv o) q e es (IsDistinct-from_sorted R _ s) hit)

      past-second : (q : K) → is_eq (R q f.0) ≡ true → find fs q ≡ None
      past-second q hit = lookup-none (is_at (R q)) fs (none_past_head (eq_by_cmp_equiv o) q f fs (IsDistinct-from_sorted R _ t) hit)

      tails : e.0 ≡ f.0 → (q : K) → find es q ≡ find fs q
      tails keys q = by_test (is_eq (R q e.0)) refl
        where
          by_test : (b : Bool) → is_eq (R q e.0) ≡ b → find es q ≡ find fs q
          by_test true hit = past-first q hit ∙ sym (past-second q (ap (λ z. is_eq (R q z)) (sym keys) ∙ hit))
          by_test false miss =
              sym (ap (λ b. cond b (Some e.1) (find es q)) miss) ∙ h q ∙ ap (λ b. cond b (Some f.1) (find fs q)) (ap (λ z. is_eq (R q z)) (sym keys) ∙ miss)
