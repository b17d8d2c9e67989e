-- Texts one behind the other.
use Rattle.std.proofs.Common.{◌≡◌, ℕ, List, [], ◌++◌, Option, Some, None, refl, sym, ap, append_assoc}
use Rattle.std.proofs.lemmas.List.{append-nil}
use Rattle.cs_meaning.specs.NewValues.{appended}

pub appended_more : (text more : List ℕ) (rest : Option (List ℕ)) → appended (Some text) (appended (Some more) rest) ≡ appended (Some (text ++ more)) rest
appended_more text more None = refl
appended_more text more (Some x) = ap (λ (l : List ℕ). Some l) (sym (append_assoc text more x))

pub appended_none : (text : List ℕ) → appended (Some text) (Some []) ≡ Some text
appended_none text = ap (λ (l : List ℕ). Some l) (append-nil text)
