-- Texts as bytes: what was put is what is taken, and the other way round.
use Rattle.std.proofs.Common.{◌≡◌, ℕ, zero, suc, ◌/◌, ◌+◌, ◌-◌, ◌^◌, ◌<◌, ◌≤◌, true, false, List, ◌++◌, length, take, drop, get_or, Result, Ok, Err, inl, inr, arith, refl, sym, ◌∙◌, ap, append_assoc}
use Rattle.std.specs.Prelude.{nat_lt, encode_utf8_all, slice_range}
use Rattle.std.specs.Result.{IsErrAnd}
use Rattle.std.specs.Str.{chars, is_utf8, all_scalars}
use Rattle.std.proofs.lemmas.Bool.{le-ltb, ltb-false, cases_Bool}
use Rattle.std.proofs.lemmas.List.{length-append, length-take-le, take_at, take-take, length-drop, take-append-drop, drop-drop}
use Rattle.std.proofs.lemmas.Str.{is_utf8-from_IsUtf8, IsUtf8-from_is_utf8, chars-encodes, encodes-chars, scalars-chars}
use Rattle.std.proofs.Math.Seq.{drop-append_seam}
use Rattle.text_core.specs.declared.wire_fault.WireFault.{WireFault}
use Rattle.text_core.specs.declared.wire_fault.WireFault.TheVariants.{BadLength, Short, BadUtf8, Oom}
use Rattle.text_core.specs.LengthGroups.{groups, length_at}
use Rattle.text_core.specs.Standing.{TextBegins}
use Rattle.text_core.specs.TextBytes.{text_bytes, content_at, behind_length, text_at, Fails, Gives}
use Rattle.text_core.proofs.LengthGroupLemmas.{length_at-groups, begins-length_at, behind_group, none_first}

content_at-content : (content rest : List ℕ) → is_utf8 content ≡ true → content_at (length content) (content ++ rest) ≡ Ok (chars content, rest)
content_at-content content rest utf8 =
    let long : length content ≤ length (content ++ rest) = omega (arith, length-append content rest) in
    rw (le-ltb (length (content ++ rest)) (length content) long, take_at content rest (length content) refl, drop-append_seam content rest, utf8) refl

-- the text whose bytes stand before anything
pub text_at-text_bytes : (text rest : List ℕ) → all_scalars text ≡ true → length (encode_utf8_all text) < 2 ^ 28 → text_at (text_bytes text ++ rest) ≡ Ok (text, rest)
unfolding text_at text_bytes
text_at-text_bytes text rest scalars short =
    let content : List ℕ = encode_utf8_all text in
    let size : length (encode_utf8_all text) < 128 ^ 4 = short in
    let utf8 : is_utf8 (encode_utf8_all text) ≡ true = is_utf8-from_IsUtf8 (encode_utf8_all text) (text, (scalars, refl)) in
    rw (append_assoc (groups 3 (length (encode_utf8_all text))) (encode_utf8_all text) rest)
    (ap behind_length (length_at-groups 3 (length (encode_utf8_all text)) false (encode_utf8_all text ++ rest) (omega arith) size (λ wrong. cc))
    ∙ content_at-content (encode_utf8_all text) rest utf8
    ∙ ap (λ (t : List ℕ). Ok (t, rest)) (chars-encodes text scalars))

ok_parts : {A B : Type 0} (a c : A) (b d : B) → (let read : Result (A × B) WireFault = Ok (a, b) in read) ≡ Ok (c, d) → (a ≡ c) × (b ≡ d)
ok_parts {A = A} {B = B} a c b d e =
    let p : (a, b) ≡ (c, d) = cc in
    (ap (λ (x : A × B). x.0) p, ap (λ (x : A × B). x.1) p)

behind_length_ok : (text rest : List ℕ) (read : Result (ℕ × List ℕ) WireFault) → behind_length read ≡ Ok (text, rest) → (size : ℕ) × (content : List ℕ) × (read ≡ Ok (size, content)) × (content_at size content ≡ Ok (text, rest))
behind_length_ok text rest (Ok found) e = (found.0, found.1, refl, e)
behind_length_ok text rest (Err fault) e = cc

-- what stands behind the length of a text that was taken
record Content (size : ℕ) (content text rest : List ℕ) : Type 0 where
  whole : content ≡ encode_utf8_all text ++ rest
  scalars : all_scalars text ≡ true
  long : length (encode_utf8_all text) ≡ size

content_at_ok : (size : ℕ) (content text rest : List ℕ) → content_at size content ≡ Ok (text, rest) → Content size content text rest
content_at_ok size content text rest e =
    elim (cases_Bool (nat_lt (length content) size)) [
      | inl short ↦ (let wrong : (let read : Result (List ℕ × List ℕ) WireFault = Err Short in read) ≡ Ok (text, rest) = rw short at e in absurd (cc))
      | inr long ↦ elim (cases_Bool (is_utf8 (take size content))) [
        | inl utf8 ↦ (
            let both = ok_parts (chars (take size content)) text (drop size content) rest (rw (long, utf8) at e) in
            let valid = IsUtf8-from_is_utf8 (take size content) utf8 in
            let same : encode_utf8_all text ≡ take size content = rw (← both.0) (encodes-chars (take size content) valid) in
            record {
              whole = rw (same, ← both.1) (sym (take-append-drop size content));
              scalars = rw (← both.0) (scalars-chars (take size content) valid);
              long = rw same (length-take-le size content (ltb-false _ _ long));
            }
            )
        | inr bad ↦ (let wrong : (let read : Result (List ℕ × List ℕ) WireFault = Err BadUtf8 in read) ≡ Ok (text, rest) = rw (long, bad) at e in absurd (cc))
      ]
    ]

-- a text that was taken stands at the front
pub begins-text_at : (bytes text rest : List ℕ) → ((i : ℕ) → get_or bytes i 0 < 256) → text_at bytes ≡ Ok (text, rest) → TextBegins bytes text rest
unfolding text_at text_bytes
begins-text_at bytes text rest bounds e =
    let found = behind_length_ok text rest (length_at 3 false bytes) e in
    let size = begins-length_at 3 found.0 false bytes found.1 (omega arith) bounds found.2 in
    let content = content_at_ok found.0 found.1 text rest found.3 in
    let most : found.0 < 128 ^ 4 = size.small in
    record {
      begins = rw (content.long, append_assoc (groups 3 found.0) (encode_utf8_all text) rest, ← content.whole) size.begins;
      scalars = content.scalars;
      short = rw content.long most;
    }

-- the bytes of a text are never none
pub text_bytes-some : (text : List ℕ) → 0 < length (text_bytes text)
unfolding text_bytes
text_bytes-some text =
    let size = length (encode_utf8_all text) in
    elim (cases_Bool (nat_lt size 128)) [
      | inl below ↦ rw below (omega arith)
      | inr above ↦ rw above (omega arith)
    ]

-- no text without bytes
pub text_at-none : (bytes : List ℕ) → length bytes < 1 → text_at bytes ≡ Err Short
unfolding text_at
text_at-none bytes short = ap behind_length (none_first 3 false bytes short)

-- where a text stands that was taken at a place
pub record Stands (bytes : List ℕ) (at : ℕ) (word rest : List ℕ) : Type 0 where
  pub left : length rest ≤ length bytes
  pub before : at ≤ length bytes - length rest
  pub behind : drop (length bytes - length rest) bytes ≡ rest
  pub between : slice_range bytes at (length bytes - length rest) ≡ word

pub stands : (bytes : List ℕ) (at : ℕ) (word rest : List ℕ) → 0 < length word → drop at bytes ≡ word ++ rest → Stands bytes at word rest
stands bytes at word rest some e =
    let sizes : length bytes - at ≡ length word + length rest = sym (length-drop at bytes) ∙ ap length e ∙ length-append word rest in
    let place : length bytes - length rest ≡ at + length word = omega arith in
    let past : at + length word - at ≡ length word = omega arith in
    record {
      left = omega arith;
      before = omega arith;
      behind = rw (place, ← drop-drop (length word) at bytes, e) (drop-append_seam word rest);
      between = rw (place, past, e) (take_at word rest (length word) refl);
    }

-- a fault is passed on
pub gives_fault : {X Y : Type 0} (view : X → Y) (r : Result X WireFault) (fault : WireFault) (read : Result Y WireFault) → IsErrAnd r (λ given. given ≡ fault) → Fails fault read → Gives view r read
gives_fault view (Ok x) fault read is fails = absurd is
gives_fault view (Err given) fault read is fails = rw is fails

-- a fault behind a group is the fault of the whole length
pub behind_group_fails : (group : ℕ) (fault : WireFault) (read : Result (ℕ × List ℕ) WireFault) → Fails fault read → Fails fault (behind_group group read)
behind_group_fails group BadLength read e = rw e refl
behind_group_fails group Short read e = rw e refl
behind_group_fails group BadUtf8 read e = rw e refl
behind_group_fails group Oom read e = tt

-- what begins with a list begins with its front
pub keeps_front : (front middle all more : List ℕ) → middle ≡ front ++ more → take (length middle) all ≡ middle → take (length front) all ≡ front
keeps_front front middle all more e f =
    let short : length front ≤ length middle = omega (arith, ap length e, length-append front more) in
    sym (take-take (length front) (length middle) all short) ∙ ap (take (length front)) (f ∙ e) ∙ take_at front more (length front) refl

-- a text that was taken has Unicode scalar values alone
pub scalars-text_at : (bytes text rest : List ℕ) → text_at bytes ≡ Ok (text, rest) → all_scalars text ≡ true
unfolding text_at
scalars-text_at bytes text rest e =
    let found = behind_length_ok text rest (length_at 3 false bytes) e in
    (content_at_ok found.0 found.1 text rest found.3).scalars

length-groups : (more n : ℕ) → length (groups more n) ≤ more + 1
length-groups zero n = omega arith
length-groups (suc more) n =
    elim (cases_Bool (nat_lt n 128)) [
      | inl below ↦ rw below (omega arith)
      | inr above ↦ rw above (omega (arith, length-groups more (n / 128)))
    ]

-- how many bytes the length of a text takes at most
pub length-text_bytes : (text : List ℕ) → length (text_bytes text) ≤ 4 + length (encode_utf8_all text)
unfolding text_bytes
length-text_bytes text =
    let size : ℕ = length (encode_utf8_all text) in
    omega (arith, length-append (groups 3 size) (encode_utf8_all text), length-groups 3 size)
