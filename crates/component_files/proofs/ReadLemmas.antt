-- What reading a text answers of the bytes that are its UTF-8.
use Rattle.std.proofs.Common.{◌≡◌, ℕ, ◌<◌, ◌≤◌, List, length, Result, Ok, Err, ap, sym, subst, arith}
use Rattle.std.specs.Prelude.{IsUtf8, chars, encode_utf8_all}
use Rattle.std.proofs.lemmas.Str.{encodes-chars}
use Rattle.razor_ast.specs.declared.component.Component.{Component}
use Rattle.razor_reader.specs.declared.fault.ReadFault.{ReadFault}
use Rattle.razor_reader.specs.declared.fault.ReadFault.TheVariants as f
use Rattle.razor_reader.specs.Answers as reader
use Rattle.component_files.specs.Files.{no_component, Answers}

too_long : (bytes : List ℕ) → IsUtf8 bytes → length bytes ≤ 1048576 → 1048576 < length (encode_utf8_all (chars bytes)) → ⊥
too_long bytes utf8 short long = let same = ap length (encodes-chars bytes utf8) in omega (arith, same, short, long)

of_text : (name bytes : List ℕ) (r : Result Component ReadFault) → IsUtf8 bytes → length bytes ≤ 1048576 → reader.Answers name (chars bytes) r → reader.SyntaxWithin (chars bytes) r
    → Answers name bytes r
of_text name bytes (Ok c) utf8 short a within = (short, (utf8, (a.1, a.2)))
of_text name bytes (Err f.TooLong) utf8 short a within = absurd (too_long bytes utf8 short a)
of_text name bytes (Err (f.TooDeep place)) utf8 short a within = (short, (utf8, a.1))
of_text name bytes (Err (f.Syntax place)) utf8 short a within = no_component place short (utf8, (a.1, a.2, within))
of_text name bytes (Err f.Oom) utf8 short a within = tt

pub answered : (name bytes text : List ℕ) (r : Result Component ReadFault) → IsUtf8 bytes → text ≡ chars bytes → length bytes ≤ 1048576 → reader.Answers name text r
    → reader.SyntaxWithin text r → Answers name bytes r
answered name bytes text r utf8 is short a within =
    of_text name bytes r utf8 short (subst (λ (t : List ℕ). reader.Answers name t r) is a) (subst (λ (t : List ℕ). reader.SyntaxWithin t r) is within)
