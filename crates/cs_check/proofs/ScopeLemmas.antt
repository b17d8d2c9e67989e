-- Scopes that grow and are restored.
use Rattle.std.proofs.Common.{◌≡◌, List, ◌++◌, length, take, drop, sym, ap, ◌∙◌, append_assoc}
use Rattle.std.proofs.lemmas.List.{take-append-drop}
use Rattle.std.proofs.Math.Seq.{take-append_seam, take-length}
use Rattle.cs_ast.specs.declared.scope.Named.{Named}

pub kept_self : (a : List Named) → take (length a) a ≡ a
kept_self a = take-length a

joined : (a b : List Named) → take (length a) b ≡ a → a ++ drop (length a) b ≡ b
joined a b kept = ap (λ z. z ++ drop (length a) b) (sym kept) ∙ take-append-drop (length a) b

-- what begins with a list that begins with another begins with that
pub kept_on : (a b d : List Named) → take (length a) b ≡ a → take (length b) d ≡ b → take (length a) d ≡ a
kept_on a b d first second =
    let e : a ++ (drop (length a) b ++ drop (length b) d) ≡ d =
    sym (append_assoc a (drop (length a) b) (drop (length b) d)) ∙ ap (λ z. z ++ drop (length b) d) (joined a b first) ∙ joined b d second in
    ap (take (length a)) (sym e) ∙ take-append_seam a (drop (length a) b ++ drop (length b) d)
