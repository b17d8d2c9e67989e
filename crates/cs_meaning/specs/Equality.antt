-- When two values are the same: the same variant and the same parts.
use Rattle.std.specs.Prelude.{◌==◌, ◌&&◌, not, if◌then◌else◌, List, [], ◌∷◌, Bool, true, false}
use Rattle.std.specs.Ordering.{int_eq}
use Rattle.std.specs.Str.{bytes_eq}
use Rattle.cs_ast.specs.declared.value.Value.{Value, out-Value}
use Rattle.cs_ast.specs.declared.value.Value.TheOpen.{Value-F}
use Rattle.cs_ast.specs.declared.value.Value.TheFolds.{fold-Value}

-- as many, and each passes its test
abbrev pub each_passes : List (Value → Bool) → List Value → Bool
each_passes [] [] = true
each_passes (test ∷ tests) (x ∷ xs) = test x && each_passes tests xs
each_passes _ _ = false

-- the same, where a test for each part of the first is there
abbrev pub is_alike : Value-F (Value → Bool) → Value-F Value → Bool
is_alike (Value-F.Int x) (Value-F.Int y) = int_eq x y
is_alike (Value-F.Bool x) (Value-F.Bool y) = (if x then y else not y)
is_alike (Value-F.Text x) (Value-F.Text y) = bytes_eq x y
is_alike Value-F.Null Value-F.Null = true
is_alike (Value-F.Rec kind parts) (Value-F.Rec other others) = kind == other && each_passes parts others
is_alike (Value-F.List items) (Value-F.List others) = each_passes items others
is_alike (Value-F.Fragment who place captures) (Value-F.Fragment who' place' others) = who == who' && place == place' && each_passes captures others
is_alike (Value-F.Callback who place captures) (Value-F.Callback who' place' others) = who == who' && place == place' && each_passes captures others
is_alike _ _ = false

-- whether the two are the same
unfoldable pub is_same : Value → Value → Bool
is_same = fold-Value (Value → Bool) (λ x other. is_alike x (out-Value other))
