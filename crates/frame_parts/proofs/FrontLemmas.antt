-- Lists that are made part by part, with those so far in front.
use Rattle.std.proofs.Common.{◌≡◌, List, [], ◌∷◌, ◌++◌, refl, sym, ap, append_assoc}
use Rattle.std.proofs.lemmas.List.{append-nil}
use Rattle.cs_rules.specs.Judged.{Judged, fine, breaks}
use Rattle.cs_rules.specs.Judged.{◌>>=◌ as ◌>>>=◌}
use Rattle.frame_parts.specs.Steps.{Numbered, in_front}

module _ {A : Type 0} where
  pub front_none : (it : Judged (List A × Numbered)) → in_front [] it ≡ it
  front_none (fine x) = refl
  front_none (breaks rule place) = refl

  pub front_more : (front ys : List A) (it : Judged (List A × Numbered)) → in_front front (it >>>= (λ more. fine (ys ++ more.0, more.1))) ≡ in_front (front ++ ys) it
  front_more front ys (fine more) = ap (λ (all : List A). fine (all, more.1)) (sym (append_assoc front ys more.0))
  front_more front ys (breaks rule place) = refl

  pub front_one : (front : List A) (y : A) (it : Judged (List A × Numbered)) → in_front front (it >>>= (λ more. fine (y ∷ more.0, more.1))) ≡ in_front (front ++ y ∷ []) it
  front_one front y (fine more) = ap (λ (all : List A). fine (all, more.1)) (sym (append_assoc front (y ∷ []) more.0))
  front_one front y (breaks rule place) = refl

  pub front_end : (front : List A) (now : Numbered) → in_front front (fine ([], now)) ≡ fine (front, now)
  front_end front now = ap (λ (all : List A). fine (all, now)) (append-nil front)

  -- the same where nothing gets a number
  abbrev pub judged_front : List A → Judged (List A) → Judged (List A)
  judged_front front it = it >>>= (λ more. fine (front ++ more))

  pub judged_none : (it : Judged (List A)) → judged_front [] it ≡ it
  judged_none (fine x) = refl
  judged_none (breaks rule place) = refl

  pub judged_more : (front ys : List A) (it : Judged (List A)) → judged_front front (it >>>= (λ more. fine (ys ++ more))) ≡ judged_front (front ++ ys) it
  judged_more front ys (fine more) = ap fine (sym (append_assoc front ys more))
  judged_more front ys (breaks rule place) = refl

  pub judged_end : (front : List A) → judged_front front (fine []) ≡ fine front
  judged_end front = ap fine (append-nil front)
