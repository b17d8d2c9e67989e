-- Lists that are judged item by item, with those so far in front.
use Rattle.std.proofs.Common.{◌≡◌, List, [], ◌∷◌, ◌++◌, refl, sym, ap, append_assoc}
use Rattle.std.proofs.lemmas.List.{append-nil}
use Rattle.cs_rules.specs.Judged.{Judged, fine, breaks, ◌>>=◌}
use Rattle.cs_ast.specs.declared.value.Value.{Value}
use Rattle.std.specs.Prelude.{Some, None}
use Rattle.cs_rules.specs.Statements.{with_constant}

module _ {A : Type 0} where
  -- all that are judged, behind those in front
  abbrev pub with_front : List A → Judged (List A) → Judged (List A)
  with_front front judged = judged >>= λ ys. fine (front ++ ys)

  pub front_none : (judged : Judged (List A)) → with_front [] judged ≡ judged
  front_none (fine ys) = refl
  front_none (breaks rule place) = refl

  pub front_more : (front : List A) (y : A) (judged : Judged (List A)) → with_front front (judged >>= λ ys. fine (y ∷ ys)) ≡ with_front (front ++ y ∷ []) judged
  front_more front y (fine ys) = ap fine (sym (append_assoc front (y ∷ []) ys))
  front_more front y (breaks rule place) = refl

  pub front_end : (front : List A) → with_front front (fine []) ≡ fine front
  front_end front = ap fine (append-nil front)

-- a constant that may be absent
pub front_constant : (front : List Value) (y : Value) (judged : Judged (List Value)) → with_front front (judged >>= λ ys. fine (with_constant (Some y) ys)) ≡ with_front (front ++ y ∷ []) judged
front_constant front y (fine ys) = ap fine (sym (append_assoc front (y ∷ []) ys))
front_constant front y (breaks rule place) = refl

pub front_same : (front : List Value) (judged : Judged (List Value)) → with_front front (judged >>= λ ys. fine (with_constant None ys)) ≡ with_front front judged
front_same front (fine ys) = refl
front_same front (breaks rule place) = refl
