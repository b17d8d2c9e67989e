-- Lists that are read behind what was found before.
use Rattle.std.proofs.Common.{◌≡◌, List, [], ◌∷◌, ◌++◌, refl, sym, ap, append_assoc}
use Rattle.std.specs.Prelude.{Some, None}
use Rattle.cs_parse.specs.Reading.{Read, ◌>>=◌}

-- what was found before goes in front
abbrev pub with_front : {A : Type 0} → List A → Read (List A) → Read (List A)
with_front found read = read >>= λ x. Some (found ++ x.0, x.1)

pub front_front : {A : Type 0} (found : List A) (a : A) (read : Read (List A)) → with_front found (read >>= λ x. Some (a ∷ x.0, x.1)) ≡ with_front (found ++ a ∷ []) read
front_front found a None = refl
front_front found a (Some x) = ap (λ l. Some (l, x.1)) (sym (append_assoc found (a ∷ []) x.0))
