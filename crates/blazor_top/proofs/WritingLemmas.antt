-- Lines written one after another.
use Rattle.std.proofs.Common.{◌≡◌, ℕ, suc, ◌+◌, ◌<◌, ◌≤◌, List, [], ◌∷◌, ◌++◌, length, take, drop, get_or, Some, None, refl, sym, ap, subst, ◌∙◌, arith, append_assoc, append-nil, length-append}
use Rattle.std.specs.Prelude.{encode_utf8_all}
use Rattle.std.proofs.Math.Seq.{take-suc}
use Rattle.std.proofs.lemmas.List.{take_all}
use Rattle.std.proofs.lemmas.List.Concat.{flat_map-append}
use Rattle.std.proofs.lemmas.Str.{encodes-append}
use Rattle.outside.specs.Sink.{Adds}
use Rattle.outside.specs.Writing.{AddsFront}
use Rattle.outside.proofs.WritingLemmas.{adds_both}
use Rattle.schedule_replay.specs.Line.Transcript.{lines_text}
use Rattle.blazor_top.proofs.PlaceLemmas.{at_place}
use Rattle.blazor_top.specs.Run.{Told, lines_bytes}

pub lines_bytes-append : (front lines : List (List ℕ)) → lines_bytes (front ++ lines) ≡ lines_bytes front ++ lines_bytes lines
lines_bytes-append front lines =
    ap encode_utf8_all (flat_map-append (λ (line : List ℕ). line ++ 10 ∷ []) front lines) ∙ encodes-append (lines_text front) (lines_text lines)

pub line_text : (line : List ℕ) → lines_text (line ∷ []) ≡ line ++ 10 ∷ []
line_text line = append-nil (line ++ 10 ∷ [])

-- a line is written with its end
some_bytes : (line : List ℕ) → 0 < length (lines_bytes (line ∷ []))
unfolding lib.Utf8.encode
some_bytes line =
    let parts : lines_bytes (line ∷ []) ≡ encode_utf8_all line ++ 10 ∷ [] = ap encode_utf8_all (line_text line) ∙ encodes-append line (10 ∷ []) in
    let count : length (lines_bytes (line ∷ [])) ≡ length (encode_utf8_all line) + 1 = ap length parts ∙ length-append (encode_utf8_all line) (10 ∷ []) in
    omega (arith, count)

pub adds_nothing : (told : Told) → Adds told told []
adds_nothing None = refl
adds_nothing (Some written) = ap Some (sym (append-nil written))

-- nothing of a line was written
pub no_front : (told : Told) (line : List ℕ) → AddsFront told told (lines_bytes (line ∷ []))
no_front told line = ([], lines_bytes (line ∷ []), refl, some_bytes line, adds_nothing told)

-- one line more was written
pub one_more : (old middle new : Told) (lines : List (List ℕ)) (i : ℕ) (line : List ℕ) → i < length lines → line ≡ get_or lines i line
    → Adds old middle (lines_bytes (take i lines)) → Adds middle new (lines_bytes (line ∷ [])) → Adds old new (lines_bytes (take (i + 1) lines))
one_more old middle new lines i line within is before more =
    let next : i + 1 ≡ suc i = omega arith in
    let taken : take (i + 1) lines ≡ take i lines ++ line ∷ [] =
    rw next (take-suc lines i line within ∙ ap (λ (x : List ℕ). take i lines ++ x ∷ []) (sym is)) in
    let bytes : lines_bytes (take (i + 1) lines) ≡ lines_bytes (take i lines) ++ lines_bytes (line ∷ []) = ap lines_bytes taken ∙ lines_bytes-append (take i lines) (line ∷ []) in
    subst (λ (x : List ℕ). Adds old new x) (sym bytes) (adds_both old middle new (lines_bytes (take i lines)) (lines_bytes (line ∷ [])) before more)

-- a line was cut off
pub cut_line : (old middle new : Told) (lines : List (List ℕ)) (i : ℕ) (line : List ℕ) → i < length lines → line ≡ get_or lines i line
    → Adds old middle (lines_bytes (take i lines)) → AddsFront middle new (lines_bytes (line ∷ [])) → AddsFront old new (lines_bytes lines)
cut_line old middle new lines i line within is before cut =
    let front : List ℕ = lines_bytes (take i lines) in
    let rest : List ℕ = lines_bytes (drop (suc i) lines) in
    let behind : lines_bytes (line ∷ drop (suc i) lines) ≡ lines_bytes (line ∷ []) ++ rest = lines_bytes-append (line ∷ []) (drop (suc i) lines) in
    let all : lines_bytes lines ≡ front ++ (lines_bytes (line ∷ []) ++ rest) =
    ap lines_bytes (at_place lines i line within is) ∙ lines_bytes-append (take i lines) (line ∷ drop (suc i) lines) ∙ ap (λ (x : List ℕ). front ++ x) behind in
    let pieces : (front ++ cut.0) ++ (cut.1 ++ rest) ≡ lines_bytes lines =
    append_assoc front cut.0 (cut.1 ++ rest)
    ∙ ap (λ (x : List ℕ). front ++ x) (sym (append_assoc cut.0 cut.1 rest) ∙ ap (λ (x : List ℕ). x ++ rest) cut.2)
    ∙ sym all in
    let some : 0 < length (cut.1 ++ rest) = let count = length-append cut.1 rest in let left = cut.3 in omega (arith, count, left) in
    (front ++ cut.0, cut.1 ++ rest, pieces, some, adds_both old middle new front cut.0 before cut.4)

-- all lines were written
pub all_lines : (old new : Told) (lines : List (List ℕ)) (i : ℕ) → length lines ≤ i → Adds old new (lines_bytes (take i lines)) → Adds old new (lines_bytes lines)
all_lines old new lines i end adds = subst (λ (x : List (List ℕ)). Adds old new (lines_bytes x)) (take_all i lines end) adds
