-- Marks of one number are the same.
use Rattle.std.proofs.Common.{◌≡◌, ◌↔◌, IsTrue, List, [], ◌∷◌, refl, sym, ap, ◌∙◌}
use Rattle.std.proofs.lemmas.Bool.{eqb-true, eq-eqb}
use Rattle.std.specs.Prelude.{Bool, true, false, ◌==◌, Some}
use Rattle.std.specs.List.{slice_get}
use Rattle.razor_reader.specs.declared.mark.Mark.{Mark}
use Rattle.razor_reader.specs.declared.mark.Mark.TheVariants as m
use Rattle.razor_reader.specs.Marks.{mark_number}

-- the marks in the order of their numbers
marks : List Mark
marks =
    m.Space ∷ m.At ∷ m.CodeAt ∷ m.MembersAt ∷ m.ExpressionEnd ∷ m.Directive ∷ m.DirectiveEnd ∷ m.Implements ∷
    m.ValueEnd ∷ m.ContentStart ∷ m.EmptyTagEnd ∷ m.EndTagEnd ∷ m.LineStart ∷ m.LineEnd ∷ m.ValueStart ∷ m.TagStart ∷
    m.OpenRound ∷ m.CloseRound ∷ m.OpenBrace ∷ m.CloseBrace ∷ m.Semicolon ∷ m.Colon ∷ m.Minus ∷ m.Break ∷
    m.Case ∷ m.Continue ∷ m.Default ∷ m.Else ∷ m.False ∷ m.For ∷ m.Foreach ∷ m.If ∷
    m.In ∷ m.Null ∷ m.Switch ∷ m.True ∷ m.Var ∷ m.While ∷ m.Other ∷ []

mark_back : (x : Mark) → slice_get marks (mark_number x) ≡ Some x
unfolding mark_number marks
mark_back m.Space = refl
mark_back m.At = refl
mark_back m.CodeAt = refl
mark_back m.MembersAt = refl
mark_back m.ExpressionEnd = refl
mark_back m.Directive = refl
mark_back m.DirectiveEnd = refl
mark_back m.Implements = refl
mark_back m.ValueEnd = refl
mark_back m.ContentStart = refl
mark_back m.EmptyTagEnd = refl
mark_back m.EndTagEnd = refl
mark_back m.LineStart = refl
mark_back m.LineEnd = refl
mark_back m.ValueStart = refl
mark_back m.TagStart = refl
mark_back m.OpenRound = refl
mark_back m.CloseRound = refl
mark_back m.OpenBrace = refl
mark_back m.CloseBrace = refl
mark_back m.Semicolon = refl
mark_back m.Colon = refl
mark_back m.Minus = refl
mark_back m.Break = refl
mark_back m.Case = refl
mark_back m.Continue = refl
mark_back m.Default = refl
mark_back m.Else = refl
mark_back m.False = refl
mark_back m.For = refl
mark_back m.Foreach = refl
mark_back m.If = refl
mark_back m.In = refl
mark_back m.Null = refl
mark_back m.Switch = refl
mark_back m.True = refl
mark_back m.Var = refl
mark_back m.While = refl
mark_back m.Other = refl

pub one_mark : (a b : Mark) → mark_number a ≡ mark_number b → a ≡ b
one_mark a b e = let z : Some a ≡ Some b = sym (mark_back a) ∙ ap (slice_get marks) e ∙ mark_back b in cc

-- a test that tells equal marks tells equal numbers
pub same_mark : (a b : Mark) (r : Bool) → (IsTrue r ↔ (a ≡ b)) → r ≡ (mark_number a == mark_number b)
same_mark a b true e = sym (eq-eqb _ _ (ap mark_number (e.0 refl)))
same_mark a b false e = go (mark_number a == mark_number b) refl
  where
    go : (d : Bool) → (mark_number a == mark_number b) ≡ d → false ≡ (mark_number a == mark_number b)
    go true i = let z : false ≡ true = e.1 (one_mark a b (eqb-true _ _ i)) in absurd (cc)
    go false i = sym i
