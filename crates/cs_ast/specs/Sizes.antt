-- How large a value is.
use Rattle.std.specs.Prelude.{ℕ, ◌+◌, length, sum, encode_utf8_all}
use Rattle.cs_ast.specs.declared.value.Value.{Value}
use Rattle.cs_ast.specs.declared.value.Value.TheOpen.{Value-F}
use Rattle.cs_ast.specs.declared.value.Value.TheFolds.{fold-Value}

-- the size of a value by the sizes of its parts: a text counts its bytes
abbrev pub size_by_parts : Value-F ℕ → ℕ
size_by_parts (Value-F.Int number) = 4
size_by_parts (Value-F.Bool truth) = 1
size_by_parts (Value-F.Text text) = length (encode_utf8_all text) + 1
size_by_parts Value-F.Null = 1
size_by_parts (Value-F.Rec kind parts) = 1 + sum parts
size_by_parts (Value-F.List parts) = 1 + sum parts
size_by_parts (Value-F.Fragment who place captures) = 1
size_by_parts (Value-F.Callback who place captures) = 1

-- the size of a value
abbrev pub size_of : Value → ℕ
size_of = fold-Value ℕ size_by_parts
