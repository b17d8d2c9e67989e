-- New values of parts that are judged one by one, with those so far in front.
use Rattle.std.proofs.Common.{◌≡◌, List, [], ◌∷◌, ◌++◌, refl, sym, ap, ◌∙◌, append_assoc, ℕ}
use Rattle.std.proofs.lemmas.List.{append-nil}
use Rattle.cs_ast.specs.declared.cs_type.CsType.{CsType}
use Rattle.cs_rules.specs.declared.checked.Checked.{Checked}
use Rattle.cs_rules.specs.Judged.{Judged, fine, breaks, ◌>>=◌}
use Rattle.cs_rules.specs.Expressions.{Replaced}

-- the same with new values of parts
abbrev pub in_front : List ℕ → List CsType → List Checked → Judged Replaced → Judged Replaced
in_front positions wanted values judged =
    judged >>= λ more. fine (record { positions = positions ++ more.positions; wanted = wanted ++ more.wanted; values = values ++ more.values })

abbrev pub given_back : List ℕ → List CsType → List Checked → Judged Replaced
given_back positions wanted values = fine (record { positions = positions; wanted = wanted; values = values })

pub replaced_none : (judged : Judged Replaced) → in_front [] [] [] judged ≡ judged
replaced_none (fine ys) = refl
replaced_none (breaks rule place) = refl

pub replaced_more : (positions : List ℕ) (wanted : List CsType) (values : List Checked) (n : ℕ) (t : CsType) (x : Checked) (judged : Judged Replaced)
    → in_front positions wanted values (judged >>= λ more. fine (record { positions = n ∷ more.positions; wanted = t ∷ more.wanted; values = x ∷ more.values }))
    ≡ in_front (positions ++ n ∷ []) (wanted ++ t ∷ []) (values ++ x ∷ []) judged
replaced_more positions wanted values n t x (fine more) =
    ap (λ p. given_back p (wanted ++ t ∷ more.wanted) (values ++ x ∷ more.values)) (sym (append_assoc positions (n ∷ []) more.positions))
    ∙ ap (λ w. given_back ((positions ++ n ∷ []) ++ more.positions) w (values ++ x ∷ more.values)) (sym (append_assoc wanted (t ∷ []) more.wanted))
    ∙ ap (given_back ((positions ++ n ∷ []) ++ more.positions) ((wanted ++ t ∷ []) ++ more.wanted)) (sym (append_assoc values (x ∷ []) more.values))
replaced_more positions wanted values n t x (breaks rule place) = refl

pub replaced_end : (positions : List ℕ) (wanted : List CsType) (values : List Checked)
    → in_front positions wanted values (fine (record { positions = []; wanted = []; values = [] })) ≡ fine (record { positions = positions; wanted = wanted; values = values })
replaced_end positions wanted values =
    ap (λ p. given_back p (wanted ++ []) (values ++ [])) (append-nil positions)
    ∙ ap (λ w. given_back positions w (values ++ [])) (append-nil wanted)
    ∙ ap (given_back positions wanted) (append-nil values)
