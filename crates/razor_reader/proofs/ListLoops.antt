-- Lists that are read a part at a time.
use Rattle.std.proofs.Common.{◌≡◌, ℕ, suc, ◌-◌, List, [], ◌∷◌, ◌++◌, refl, sym, ap, arith, append_assoc}
use Rattle.std.specs.Prelude.{Option, Some, None}
use Rattle.razor_token.specs.declared.piece.Piece.{Piece}
use Rattle.razor_reader.specs.Reading.{Read, Numbered, ◌>>=◌}

pub less : (n : ℕ) → n ≡ suc n - 1
less n = omega arith

pub no_more : {A : Type 0} (l : List A) → l ++ [] ≡ l
no_more [] = refl
no_more (a ∷ l) = ap (λ q. a ∷ q) (no_more l)

-- what was found goes before what is read
abbrev pub joined : {A : Type 0} → List A → List A × List Piece → List A × List Piece
joined found x = (found ++ x.0, x.1)

abbrev pub with_front : {A : Type 0} → List A → Read (List A) → Read (List A)
with_front found None = None
with_front found (Some x) = Some (found ++ x.0, x.1)

abbrev pub with_numbered : {A : Type 0} → List A → Numbered (List A) → Numbered (List A)
with_numbered found None = None
with_numbered found (Some x) = Some (found ++ x.0, x.1, x.2)

pub nothing_front : {A : Type 0} (read : Read (List A)) → read ≡ with_front [] read
nothing_front None = refl
nothing_front (Some x) = refl

pub nothing_numbered : {A : Type 0} (read : Numbered (List A)) → read ≡ with_numbered [] read
nothing_numbered None = refl
nothing_numbered (Some x) = refl

pub front_front : {A : Type 0} (found : List A) (a : A) (read : Read (List A)) → with_front found (read >>= λ x. Some (a ∷ x.0, x.1)) ≡ with_front (found ++ a ∷ []) read
front_front found a None = refl
front_front found a (Some x) = ap (λ l. Some (l, x.1)) (sym (append_assoc found (a ∷ []) x.0))

pub numbered_front : {A : Type 0} (found : List A) (a : A) (read : Numbered (List A)) → with_numbered found (read >>= λ x. Some (a ∷ x.0, x.1, x.2)) ≡ with_numbered (found ++ a ∷ []) read
numbered_front found a None = refl
numbered_front found a (Some x) = ap (λ l. Some (l, x.1, x.2)) (sym (append_assoc found (a ∷ []) x.0))
