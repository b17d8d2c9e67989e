-- What was built is spelled, and what is spelled is built.
use Rattle.std.proofs.Common.{◌≡◌, ℕ, zero, suc, ◌+◌, true, List, [], ◌∷◌, ◌++◌, length, Some, None, refl, ap, sym, ◌∙◌, subst, arith, append_assoc}
use Rattle.std.specs.Prelude.{nat_lt, MatchOption}
use Rattle.std.specs.declared.option.Option.{Option}
use Rattle.std.specs.Str.{bytes_eq}
use Rattle.std.specs.Cmp.Lexicographic.{bytes_decides}
use Rattle.std.proofs.lemmas.Bool.{ltb-true, lt-ltb, ne_eqb}
use Rattle.first_click.specs.declared.component.Field.{Field}
use Rattle.first_click.specs.declared.component.Item.{Item}
use Rattle.first_click.specs.declared.component.Item.TheVariants as item
use Rattle.first_click.specs.declared.content.Unclosed.{Unclosed}
use Rattle.first_click.specs.declared.parts.Part.{Part}
use Rattle.first_click.specs.declared.parts.Part.TheVariants as part
use Rattle.first_click.specs.Content.{trimmed, Spelled, SpellsTree, nothing, literal, shown, element}
use Rattle.first_click.specs.Reading.Content.{State, unclosed, with_item, started, ended, taken, finished, built}
use Rattle.first_click.specs.Fields.{has_field}
use Rattle.first_click.specs.Names.{is_element_name}
use Rattle.first_click.proofs.OptionLemmas.{bind_some, some_is, kept}
use mathlib.Core.List.{append-nil}

-- what is spelled is built

pub built-spelled : (fields : List Field) (depth : ℕ) (pieces : List Part) (items : List Item) → Spelled fields depth pieces items
    → (outer : List Unclosed) (before : List Item) (rest : List Part) → depth + length outer ≡ 100
    → built fields (outer, before) (pieces ++ rest) ≡ built fields (outer, before ++ items) rest
unfolding taken started ended
built-spelled fields _ _ _ (nothing depth) outer before rest deep = ap (λ (x : List Item). built fields (outer, x) rest) (sym (append-nil before))
built-spelled fields _ _ _ (literal depth text pieces items more) outer before rest deep =
    built-spelled fields depth pieces items more outer (before ++ item.Literal text ∷ []) rest deep
    ∙ ap (λ (x : List Item). built fields (outer, x) rest) (append_assoc before (item.Literal text ∷ []) items)
built-spelled fields _ _ _ (shown depth name pieces items there more) outer before rest deep =
    rw there
    (built-spelled fields depth pieces items more outer (before ++ item.Shown name ∷ []) rest deep
    ∙ ap (λ (x : List Item). built fields (outer, x) rest) (append_assoc before (item.Shown name ∷ []) items))
built-spelled fields _ _ _ (element depth name handler inside pieces children items named within more) outer before rest deep =
    let room : nat_lt (length outer) 100 ≡ true = lt-ltb (length outer) 100 (omega arith) in
    let same : bytes_eq name name ≡ true = (bytes_decides name name).1 refl in
    let made : Item = item.Element name handler (trimmed children) in
    let laid : (inside ++ part.End name ∷ pieces) ++ rest ≡ inside ++ (part.End name ∷ (pieces ++ rest)) = append_assoc inside (part.End name ∷ pieces) rest in
    rw (room, named, laid)
    (built-spelled fields depth inside children within (unclosed name handler before ∷ outer) [] (part.End name ∷ (pieces ++ rest)) (omega arith)
    ∙ rw same
    (built-spelled fields (suc depth) pieces items more outer (before ++ made ∷ []) rest deep
    ∙ ap (λ (x : List Item). built fields (outer, x) rest) (append_assoc before (made ∷ []) items)))

-- what was built is spelled

spelled-append : (fields : List Field) (depth : ℕ) (ps qs : List Part) (xs bs : List Item) → Spelled fields depth ps xs → Spelled fields depth qs bs
    → Spelled fields depth (ps ++ qs) (xs ++ bs)
spelled-append fields _ _ qs _ bs (nothing depth) more = more
spelled-append fields _ _ qs _ bs (literal depth text pieces items first) more =
    literal depth text (pieces ++ qs) (items ++ bs) (spelled-append fields depth pieces qs items bs first more)
spelled-append fields _ _ qs _ bs (shown depth name pieces items there first) more =
    shown depth name (pieces ++ qs) (items ++ bs) there (spelled-append fields depth pieces qs items bs first more)
spelled-append fields _ _ qs _ bs (element depth name handler inside pieces children items named within first) more =
    subst (λ (x : List Part). Spelled fields (suc depth) (part.Start name handler ∷ x) (item.Element name handler (trimmed children) ∷ (items ++ bs)))
    (sym (append_assoc inside (part.End name ∷ pieces) qs))
    (element depth name handler inside (pieces ++ qs) children (items ++ bs) named within (spelled-append fields (suc depth) pieces qs items bs first more))

-- parts that leave these elements open, with these items in the innermost, and so many levels left
data Leaves (fields : List Field) : ℕ → List Unclosed → List Item → List Part → Type 0 where
  bottom : (pieces : List Part) (items : List Item) → Spelled fields 100 pieces items → Leaves fields 100 [] items pieces
  within : (depth : ℕ) (outer : List Unclosed) (name : List ℕ) (handler : Option ℕ) (before items : List Item) (pieces inside : List Part) → is_element_name name ≡ true →
      Leaves fields (suc depth) outer before pieces → Spelled fields depth inside items →
      Leaves fields depth (unclosed name handler before ∷ outer) items (pieces ++ part.Start name handler ∷ inside)

levels : (fields : List Field) (depth : ℕ) (outer : List Unclosed) (items : List Item) (pieces : List Part) → Leaves fields depth outer items pieces → depth + length outer ≡ 100
levels fields _ _ _ _ (bottom pieces items spelled) = refl
levels fields _ _ _ _ (within depth outer name handler before items pieces inside named below spelled) =
    let deep = levels fields (suc depth) outer before pieces below in omega arith

leaves-more : (fields : List Field) (depth : ℕ) (outer : List Unclosed) (items more : List Item) (pieces qs : List Part) → Leaves fields depth outer items pieces → Spelled fields depth qs more
    → Leaves fields depth outer (items ++ more) (pieces ++ qs)
leaves-more fields _ _ _ more _ qs (bottom pieces items spelled) next = bottom (pieces ++ qs) (items ++ more) (spelled-append fields 100 pieces qs items more spelled next)
leaves-more fields _ _ _ more _ qs (within depth outer name handler before items pieces inside named below spelled) next =
    subst (λ (x : List Part). Leaves fields depth (unclosed name handler before ∷ outer) (items ++ more) x) (sym (append_assoc pieces (part.Start name handler ∷ inside) qs))
    (within depth outer name handler before (items ++ more) pieces (inside ++ qs) named below (spelled-append fields depth inside qs items more spelled next))

-- a state that parts lead to
abbrev LedTo : List Field → State → List Part → Type 0
LedTo fields s pieces = (depth : ℕ) × Leaves fields depth s.0 s.1 pieces

start-led : (fields : List Field) (depth : ℕ) (s : State) (name : List ℕ) (handler : Option ℕ) (pieces : List Part) (t : State) → Leaves fields depth s.0 s.1 pieces → started s name handler ≡ Some t
    → LedTo fields t (pieces ++ part.Start name handler ∷ [])
unfolding started
start-led fields zero s name handler pieces t leaves e =
    let room = kept (nat_lt (length s.0) 100) _ t e in
    let deep = levels fields zero s.0 s.1 pieces leaves in
    absurd (omega (arith, ltb-true (length s.0) 100 room.0))
start-led fields (suc depth) s name handler pieces t leaves e =
    let room = kept (nat_lt (length s.0) 100) _ t e in
    let named = kept (is_element_name name) (Some (unclosed name handler s.1 ∷ s.0, [])) t room.1 in
    let made : State = (unclosed name handler s.1 ∷ s.0, []) in
    subst (λ (x : State). LedTo fields x (pieces ++ part.Start name handler ∷ [])) (some_is made t named.1)
    (depth, within depth s.0 name handler s.1 [] pieces [] named.0 leaves (nothing depth))

end-led : (fields : List Field) (depth : ℕ) (outer : List Unclosed) (items : List Item) (name : List ℕ) (pieces : List Part) (t : State) → Leaves fields depth outer items pieces
    → ended outer items name ≡ Some t → LedTo fields t (pieces ++ part.End name ∷ [])
unfolding ended
end-led fields _ _ _ name _ t (bottom pieces items spelled) e = absurd (cc)
end-led fields _ _ _ name _ t (within depth outer opened handler before items pieces inside named below spelled) e =
    let same = kept (bytes_eq opened name) (Some (outer, before ++ item.Element opened handler (trimmed items) ∷ [])) t e in
    let name_is : opened ≡ name = (bytes_decides opened name).0 same.0 in
    let made : State = (outer, before ++ item.Element opened handler (trimmed items) ∷ []) in
    let whole : Spelled fields (suc depth) (part.Start opened handler ∷ (inside ++ part.End opened ∷ [])) (item.Element opened handler (trimmed items) ∷ []) =
    element depth opened handler inside [] items [] named spelled (nothing (suc depth)) in
    let led : Leaves fields (suc depth) outer (before ++ item.Element opened handler (trimmed items) ∷ []) (pieces ++ (part.Start opened handler ∷ (inside ++ part.End opened ∷ []))) =
    leaves-more fields (suc depth) outer before (item.Element opened handler (trimmed items) ∷ []) pieces (part.Start opened handler ∷ (inside ++ part.End opened ∷ [])) below whole in
    subst (λ (x : State). LedTo fields x ((pieces ++ part.Start opened handler ∷ inside) ++ part.End name ∷ [])) (some_is made t same.1)
    (subst (λ (x : List ℕ). LedTo fields made ((pieces ++ part.Start opened handler ∷ inside) ++ part.End x ∷ [])) name_is
    (suc depth, subst (λ (x : List Part). Leaves fields (suc depth) outer made.1 x) (sym (append_assoc pieces (part.Start opened handler ∷ inside) (part.End opened ∷ []))) led))

step-led : (fields : List Field) (s : State) (piece : Part) (pieces : List Part) (t : State) → LedTo fields s pieces → taken fields s piece ≡ Some t → LedTo fields t (pieces ++ piece ∷ [])
unfolding taken
step-led fields s (part.Start name handler) pieces t led e = start-led fields led.0 s name handler pieces t led.1 e
step-led fields s (part.End name) pieces t led e = end-led fields led.0 s.0 s.1 name pieces t led.1 e
step-led fields s (part.Literal text) pieces t led e =
    subst (λ (x : State). LedTo fields x (pieces ++ part.Literal text ∷ [])) (some_is (with_item s (item.Literal text)) t e)
    (led.0, leaves-more fields led.0 s.0 s.1 (item.Literal text ∷ []) pieces (part.Literal text ∷ []) led.1 (literal led.0 text [] [] (nothing led.0)))
step-led fields s (part.Shown name) pieces t led e =
    let there = kept (has_field fields name) (Some (with_item s (item.Shown name))) t e in
    subst (λ (x : State). LedTo fields x (pieces ++ part.Shown name ∷ [])) (some_is (with_item s (item.Shown name)) t there.1)
    (led.0, leaves-more fields led.0 s.0 s.1 (item.Shown name ∷ []) pieces (part.Shown name ∷ []) led.1 (shown led.0 name [] [] there.0 (nothing led.0)))

built-led : (fields : List Field) (s : State) (pieces qs : List Part) (t : State) → LedTo fields s pieces → built fields s qs ≡ Some t → LedTo fields t (pieces ++ qs)
built-led fields s pieces [] t led e =
    subst (λ (x : State). LedTo fields x (pieces ++ [])) (some_is s t e) (led.0, subst (λ (x : List Part). Leaves fields led.0 s.0 s.1 x) (sym (append-nil pieces)) led.1)
built-led fields s pieces (q ∷ qs) t led e =
    let step = bind_some (taken fields s q) (λ u. built fields u qs) t e in
    subst (λ (x : List Part). LedTo fields t x) (append_assoc pieces (q ∷ []) qs)
    (built-led fields step.0 (pieces ++ q ∷ []) qs t (step-led fields s q pieces step.0 led step.1) step.2)

-- the whole tree

closed : (fields : List Field) (depth : ℕ) (items : List Item) (pieces : List Part) → Leaves fields depth [] items pieces → Spelled fields 100 pieces items
closed fields _ _ _ (bottom pieces items spelled) = spelled

from_nothing : (fields : List Field) (pieces : List Part) (s : State) → built fields ([], []) pieces ≡ Some s → LedTo fields s pieces
from_nothing fields pieces s e = built-led fields ([], []) [] pieces s (100, bottom [] [] (nothing 100)) e

whole : (fields : List Field) (pieces : List Part) (items : List Item) → Spelled fields 100 pieces items → built fields ([], []) pieces ≡ Some ([], items)
whole fields pieces items spelled =
    ap (built fields ([], [])) (sym (append-nil pieces)) ∙ built-spelled fields 100 pieces items spelled [] [] [] refl

pub not_built : (fields : List Field) (pieces : List Part) → built fields ([], []) pieces ≡ None → (items : List Item) → Spelled fields 100 pieces items → ⊥
not_built fields pieces none items spelled = let there = whole fields pieces items spelled in cc

unfinished : (a : Unclosed) (outer : List Unclosed) (items others : List Item) (o : Option State) → o ≡ Some (a ∷ outer, items) → o ≡ Some ([], others) → ⊥
unfinished a outer items others o p q =
    let x : State = (a ∷ outer, items) in
    let y : State = ([], others) in
    let same : x ≡ y = some_is x y (sym p ∙ q) in
    let stacks : a ∷ outer ≡ [] = ap (λ (s : State). s.0) same in
    cc

pub tree_built : (fields : List Field) (pieces : List Part) (outer : List Unclosed) (items : List Item) → built fields ([], []) pieces ≡ Some (outer, items)
    → MatchOption (finished (outer, items)) ((others : List Item) → Spelled fields 100 pieces others → ⊥) (SpellsTree fields pieces)
tree_built fields pieces [] items e =
    let led = from_nothing fields pieces ([], items) e in
    record { items = items; spelled = closed fields led.0 items pieces led.1; ends = refl }
tree_built fields pieces (a ∷ outer) items e =
    rw (ne_eqb (length (a ∷ outer)) 0 (λ z. omega arith))
    (λ others spelled. unfinished a outer items others (built fields ([], []) pieces) e (whole fields pieces others spelled))

-- parts spell one tree
pub one_tree : (fields : List Field) (pieces : List Part) (a b : List Item) → Spelled fields 100 pieces a → Spelled fields 100 pieces b → a ≡ b
one_tree fields pieces a b x y =
    let p : State = ([], a) in
    let q : State = ([], b) in
    let same : p ≡ q = some_is p q (sym (whole fields pieces a x) ∙ whole fields pieces b y) in
    ap (λ (s : State). s.1) same
