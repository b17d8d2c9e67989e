-- What a file spells is small.
use Rattle.std.proofs.Common.{◌≡◌, ℕ, suc, ◌+◌, ◌*◌, ◌≤◌, false, cond, List, [], ◌∷◌, ◌++◌, length, Some, None, ap, sym, ◌∙◌, subst, arith, inl, inr, length-append, eqb, map}
use Rattle.std.specs.Prelude.{count_by}
use Rattle.std.specs.declared.option.Option.{Option}
use Rattle.std.proofs.lemmas.Bool.{cases_Bool}
use Rattle.std.proofs.lemmas.List.Sums.{sum_by-cons}
use Rattle.first_click.specs.declared.component.Field.{Field}
use Rattle.first_click.specs.declared.component.Item.{Item}
use Rattle.first_click.specs.declared.component.Item.TheFolds.{fold-roll-Item}
use Rattle.first_click.specs.declared.component.Item.TheOpen as layer
use Rattle.first_click.specs.declared.component.Item.TheVariants as item
use Rattle.first_click.specs.declared.parts.Part.{Part}
use Rattle.first_click.specs.declared.parts.Part.TheVariants as part
use Rattle.first_click.specs.declared.pieces.PieceKind.TheVariants as kind
use Rattle.first_click.specs.Component.{counts}
use Rattle.first_click.specs.Content.{is_blank, without_first_blank, without_last_blank, trimmed, Spelled, SpellsTree, nothing, literal, shown, element}
use Rattle.first_click.specs.Handlers.{part_of, parts_behind}
use Rattle.first_click.specs.Pieces.{Piece, Moment, Stands, onclick, end_of_tag, open_tag, handler_tag, close_tag}
use Rattle.first_click.specs.Pieces as p
use Rattle.first_click.specs.Walks.{Walk}
use Rattle.first_click.specs.Walks as w
use Rattle.first_click.specs.Weight.{weight_by_children, weight, weights}

-- sums of lists with one more in front

weights-cons : (x : Item) (xs : List Item) → weights (x ∷ xs) ≡ weight x + weights xs
weights-cons x xs = sum_by-cons (λ (n : ℕ). n) (weight x) (map weight xs)

-- the weight of an element
element-weight : (name : List ℕ) (handler : Option ℕ) (children : List Item) → weight (item.Element name handler children) ≡ 40 + length name + weights children
element-weight name handler children =
    ap weight (sym (item.rolls-Element name handler children)) ∙ fold-roll-Item ℕ weight_by_children (layer.Element name handler children)

literal-weight : (text : List ℕ) → weight (item.Literal text) ≡ 20 + length text
literal-weight text = ap weight (sym (item.rolls-Literal text)) ∙ fold-roll-Item ℕ weight_by_children (layer.Literal text)

shown-weight : (name : List ℕ) → weight (item.Shown name) ≡ 40
shown-weight name = ap weight (sym (item.rolls-Shown name)) ∙ fold-roll-Item ℕ weight_by_children (layer.Shown name)

-- dropping white space makes nothing heavier

first-lighter : (items : List Item) → weights (without_first_blank items) ≤ weights items
first-lighter [] = omega arith
first-lighter (first ∷ items) = elim (cases_Bool (is_blank first)) [
  | inl is ↦ rw is (omega (arith, weights-cons first items))
  | inr fails ↦ rw fails (omega arith)
]

last-lighter : (items : List Item) → weights (without_last_blank items) ≤ weights items
last-lighter [] = omega arith
last-lighter (last ∷ []) = elim (cases_Bool (is_blank last)) [
  | inl is ↦ rw is (omega arith)
  | inr fails ↦ rw fails (omega arith)
]
last-lighter (first ∷ second ∷ items) =
    omega (
      arith,
      last-lighter (second ∷ items),
      weights-cons first (second ∷ items),
      weights-cons first (without_last_blank (second ∷ items)),
    )

lighter : (items : List Item) → weights (trimmed items) ≤ weights items
lighter items = omega (arith, first-lighter items, last-lighter (without_first_blank items))

-- what a part adds to the weight at most
abbrev part_weight : Part → ℕ
part_weight (part.Start name handler) = 40 + length name
part_weight (part.End name) = 0
part_weight (part.Literal text) = 20 + length text
part_weight (part.Shown name) = 40

abbrev part_weights : List Part → ℕ
part_weights [] = 0
part_weights (x ∷ parts) = part_weight x + part_weights parts

part_weights-append : (xs ys : List Part) → part_weights (xs ++ ys) ≡ part_weights xs + part_weights ys
part_weights-append [] ys = omega arith
part_weights-append (x ∷ xs) ys = omega (arith, part_weights-append xs ys)

spelled-light : (fields : List Field) (depth : ℕ) (parts : List Part) (items : List Item) → Spelled fields depth parts items → weights items ≤ part_weights parts
spelled-light fields _ _ _ (nothing depth) = omega arith
spelled-light fields _ _ _ (literal depth text parts items more) =
    omega (arith, weights-cons (item.Literal text) items, literal-weight text, spelled-light fields depth parts items more)
spelled-light fields _ _ _ (shown depth name parts items there more) =
    omega (arith, weights-cons (item.Shown name) items, shown-weight name, spelled-light fields depth parts items more)
spelled-light fields _ _ _ (element depth name handler inside parts children items named within more) =
    omega (
      arith,
      weights-cons (item.Element name handler (trimmed children)) items,
      element-weight name handler (trimmed children),
      lighter children,
      spelled-light fields depth inside children within,
      spelled-light fields (suc depth) parts items more,
      part_weights-append inside (part.End name ∷ parts),
    )

-- what a piece adds at most: 40 where it counts, and its text

abbrev piece_weight : Piece → ℕ
piece_weight piece = 40 * cond (counts piece) 1 0 + length piece.1

part-light : (piece : Piece) (handler : Option ℕ) → part_weight (part_of piece handler) ≤ piece_weight piece
part-light (kind.Open, name, method) handler = omega arith
part-light (kind.Close, name, method) handler = omega arith
part-light (kind.Literal, text, method) handler = omega arith
part-light (kind.Shown, name, method) handler = omega arith

abbrev texts : List Piece → ℕ
texts [] = 0
texts (piece ∷ pieces) = length piece.1 + texts pieces

count-one : (piece : Piece) (pieces : List Piece) → count_by counts (piece ∷ pieces) ≡ cond (counts piece) 1 0 + count_by counts pieces
count-one piece pieces = sum_by-cons (λ (x : Piece). cond (counts x) 1 0) piece pieces

parts-light : (count : ℕ) (pieces : List Piece) → part_weights (parts_behind count pieces) ≤ 40 * count_by counts pieces + texts pieces
parts-light count [] = omega arith
parts-light count (piece ∷ pieces) = elim (cases_Bool (eqb (length piece.2) 0)) [
  | inl plain ↦ rw plain (omega (arith, part-light piece None, parts-light count pieces, count-one piece pieces))
  | inr handled ↦ rw handled (omega (arith, part-light piece (Some (count + 1)), parts-light (count + 1) pieces, count-one piece pieces))
]

-- the texts of pieces are no longer than the text that they stand in

piece-within : (m : Moment) (piece : Piece) (n : Moment) → Stands m piece n → length piece.1 + length n.1 ≤ length m.1
piece-within _ _ _ (open_tag joined name rest is) = simp length-append (omega arith)
piece-within _ _ _ (handler_tag joined name method rest is letters) = simp length-append (omega arith)
piece-within _ _ _ (close_tag joined name rest is) = simp length-append (omega arith)
piece-within _ _ _ (p.literal joined text rest is stops) = simp length-append (omega arith)
piece-within _ _ _ (p.shown name rest is other stops) = simp length-append (omega arith)

texts-within : (m : Moment) (pieces : List Piece) (n : Moment) → Walk Stands m pieces n → texts pieces ≤ length m.1
texts-within _ _ _ (w.stay m) = omega arith
texts-within _ _ _ (w.go m next n piece pieces step rest) = omega (arith, piece-within m piece next step, texts-within next pieces n rest)

pub light : (text : List ℕ) (pieces : List Piece) (end : Moment) (fields : List Field) (items : List Item) → Walk Stands (false, text) pieces end → length text ≤ 65536 → count_by counts pieces ≤ 1000
    → SpellsTree fields (parts_behind 0 pieces) items → weights items ≤ 1000000
light text pieces end fields items laid short few tree =
    let trimmed_less : weights items ≤ weights tree.items = subst (λ (x : List Item). weights x ≤ weights tree.items) (sym tree.ends) (lighter tree.items) in
    omega (
      arith,
      trimmed_less,
      spelled-light fields 100 (parts_behind 0 pieces) tree.items tree.spelled,
      parts-light 0 pieces,
      texts-within (false, text) pieces end laid,
    )
