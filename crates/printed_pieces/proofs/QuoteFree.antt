-- Printed code has no single quote in it.
use Rattle.std.proofs.Common.{◌≡◌, ℕ, Bool, true, false, List, [], ◌∷◌, ◌++◌, refl, sym, ap, ◌∙◌, subst, arith, ne_eqb, eqb-true}
use Rattle.std.specs.Prelude.{◌==◌, ◌||◌, if◌then◌else◌}
use Rattle.std.specs.Fmt.{decimal}
use Rattle.std.specs.List.{list_all, list_any, flat_map}
use Rattle.std.proofs.lemmas.Bool.{false≢true, and_parts}
use Rattle.std.proofs.lemmas.List.Folds.{list_any-append}
use Rattle.cs_token.specs.declared.characters.Class.{Class}
use Rattle.cs_token.specs.declared.characters.Class.TheVariants as class
use Rattle.cs_token.specs.declared.token.Sign.{Sign}
use Rattle.cs_token.specs.declared.token.Sign.TheVariants as s
use Rattle.cs_token.specs.declared.token.TokenKind.{TokenKind}
use Rattle.cs_token.specs.declared.token.TokenKind.TheVariants as k
use Rattle.cs_token.specs.Characters.{is_in}
use Rattle.cs_token.specs.Signs.{mark}
use Rattle.cs_token.specs.Words.{spelling}
use Rattle.cs_token.proofs.WordLemmas.{name_spelling}
use Rattle.cs_print.specs.Layout.{quoted, in_part, token_text, gap_behind, code_text}
use Rattle.cs_print.specs.Printed.{Kinds}
use Rattle.cs_print.proofs.CodeKinds.{IsSimple, IsCode, AreParts}
use Rattle.cs_print.proofs.CodeKinds as c
use Rattle.cs_print.proofs.QuoteLemmas.{digits-run}
use Rattle.cs_print.proofs.TextLaws.{text_none, text_join}

-- the character doesn't stand in the text
abbrev pub IsFree : ℕ → List ℕ → Type 0
IsFree mark text = list_any (λ d. d == mark) text ≡ false

pub free-join : (mark : ℕ) (xs ys : List ℕ) → IsFree mark xs → IsFree mark ys → IsFree mark (xs ++ ys)
free-join mark xs ys e f = list_any-append (λ d. d == mark) xs ys ∙ rw (e, f) refl

free-more : (mark d : ℕ) (xs : List ℕ) → (d == mark) ≡ false → IsFree mark xs → IsFree mark (d ∷ xs)
free-more mark d xs e f = rw (e, f) refl

other : (k : Class) (d mark : ℕ) → is_in k d ≡ true → is_in k mark ≡ false → (d == mark) ≡ false
other k d mark is none = ne_eqb d mark (λ e. false≢true (sym none ∙ ap (is_in k) (sym e) ∙ is))

-- characters of a class that it isn't of
pub free-class : (k : Class) (mark : ℕ) (xs : List ℕ) → is_in k mark ≡ false → list_all (is_in k) xs ≡ true → IsFree mark xs
free-class k mark [] none all = refl
free-class k mark (d ∷ xs) none all =
    let parts = and_parts (is_in k d) (list_all (is_in k) xs) all in
    free-more mark d xs (other k d mark parts.0 none) (free-class k mark xs none parts.1)

free-flat : (f : ℕ → List ℕ) (mark : ℕ) → ((d : ℕ) → IsFree mark (f d)) → (xs : List ℕ) → IsFree mark (flat_map f xs)
free-flat f mark h [] = refl
free-flat f mark h (d ∷ xs) = free-join mark (f d) (flat_map f xs) (h d) (free-flat f mark h xs)

quoted-free : (d : ℕ) → IsFree 39 (quoted d)
quoted-free d = one (d == 34) refl
  where
    four : (b : Bool) → (d == 39) ≡ b → IsFree 39 (if b then 92 ∷ 117 ∷ 48 ∷ 48 ∷ 50 ∷ 55 ∷ [] else d ∷ [])
    four true e = refl
    four false e = free-more 39 d [] e refl

    three : (b : Bool) → IsFree 39 (if b then 92 ∷ 110 ∷ [] else (if d == 39 then 92 ∷ 117 ∷ 48 ∷ 48 ∷ 50 ∷ 55 ∷ [] else d ∷ []))
    three true = refl
    three false = four (d == 39) refl

    two : (b : Bool) → IsFree 39 (if b then 92 ∷ 92 ∷ [] else (if d == 10 then 92 ∷ 110 ∷ [] else (if d == 39 then 92 ∷ 117 ∷ 48 ∷ 48 ∷ 50 ∷ 55 ∷ [] else d ∷ [])))
    two true = refl
    two false = three (d == 10)

    one : (b : Bool) → (d == 34) ≡ b → IsFree 39 (if b then 92 ∷ 34 ∷ [] else (if d == 92 then 92 ∷ 92 ∷ [] else (if d == 10 then 92 ∷ 110 ∷ [] else (if d == 39 then 92 ∷ 117 ∷ 48 ∷ 48 ∷ 50 ∷ 55 ∷ [] else d ∷ []))))
    one true e = refl
    one false e = two (d == 92)

part-free : (d : ℕ) → IsFree 39 (in_part d)
part-free d = braces ((d == 123) || (d == 125)) refl
  where
    no_brace : (a b : Bool) → (d == 123) ≡ a → (d == 125) ≡ b → (a || b) ≡ true → (d == 39) ≡ false
    no_brace true b e f is = ne_eqb d 39 (λ same. let brace = eqb-true d 123 e in absurd (omega (arith, same, brace)))
    no_brace false true e f is = ne_eqb d 39 (λ same. let brace = eqb-true d 125 f in absurd (omega (arith, same, brace)))
    no_brace false false e f is = absurd (false≢true is)

    braces : (b : Bool) → ((d == 123) || (d == 125)) ≡ b → IsFree 39 (if b then d ∷ d ∷ [] else quoted d)
    braces true e =
        let one = no_brace (d == 123) (d == 125) refl refl e in
        free-more 39 d (d ∷ []) one (free-more 39 d [] one refl)
    braces false e = quoted-free d

gap-free : (kind : TokenKind) → IsFree 39 (gap_behind kind)
unfolding gap_behind
gap-free (k.Part x) = refl
gap-free (k.Sign s.InterpolationStart) = refl
gap-free (k.Sign s.HoleClose) = refl
gap-free (k.Sign sign) = refl
gap-free kind = refl

sign-free : (sign : Sign) → IsFree 39 (mark sign)
unfolding mark
sign-free s.OpenRound = refl
sign-free _ = refl

simple-free : (kind : TokenKind) → IsSimple kind → IsFree 39 (token_text kind)
unfolding token_text
simple-free _ (c.name x is no_word) = free-class class.Word 39 x refl is.all
simple-free _ (c.number n small) = free-class class.Digit 39 (decimal n) refl (digits-run n (omega (arith, small))).all
simple-free _ (c.text x) = free-more 39 34 (flat_map quoted x ++ 34 ∷ []) refl (free-join 39 (flat_map quoted x) (34 ∷ []) (free-flat quoted 39 quoted-free x) refl)
simple-free _ (c.word word) = free-class class.Word 39 (spelling word) refl (name_spelling word).all
simple-free _ (c.sign sign is) = sign-free sign

-- tokens one behind another

free-token : (kind : TokenKind) (ks : Kinds) → IsFree 39 (token_text kind) → IsFree 39 (code_text ks) → IsFree 39 (code_text (kind ∷ ks))
unfolding code_text
free-token kind ks e f = free-join 39 (token_text kind ++ gap_behind kind) (code_text ks) (free-join 39 (token_text kind) (gap_behind kind) e (gap-free kind)) f

free-both : (ks ms : Kinds) → IsFree 39 (code_text ks) → IsFree 39 (code_text ms) → IsFree 39 (code_text (ks ++ ms))
free-both ks ms e f = subst (λ z. IsFree 39 z) (sym (text_join ks ms)) (free-join 39 (code_text ks) (code_text ms) e f)

sign-text : (sign : Sign) → IsFree 39 (token_text (k.Sign sign))
unfolding token_text
sign-text sign = sign-free sign

part-text : (x : List ℕ) → IsFree 39 (token_text (k.Part x))
unfolding token_text
part-text x = free-flat in_part 39 part-free x

mutual
  pub code-free : (ks : Kinds) → IsCode ks → IsFree 39 (code_text ks)
  code-free _ c.none = subst (λ z. IsFree 39 z) (sym text_none) refl
  code-free _ (c.simple kind ks is more) = free-token kind ks (simple-free kind is) (code-free ks more)
  code-free _ (c.braces ks ms inner more) = free-token (k.Sign s.OpenBrace) (ks ++ k.Sign s.CloseBrace ∷ ms) (sign-text s.OpenBrace) (free-both ks (k.Sign s.CloseBrace ∷ ms) (code-free ks inner) (free-token (k.Sign s.CloseBrace) ms (sign-text s.CloseBrace) (code-free ms more)))
  code-free _ (c.interpolated ks ms parts more) =
      free-token (k.Sign s.InterpolationStart) (ks ++ k.Sign s.InterpolationEnd ∷ ms) (sign-text s.InterpolationStart) (free-both ks (k.Sign s.InterpolationEnd ∷ ms) (parts-free ks parts) (free-token (k.Sign s.InterpolationEnd) ms (sign-text s.InterpolationEnd) (code-free ms more)))

  parts-free : (ks : Kinds) → AreParts ks → IsFree 39 (code_text ks)
  parts-free _ c.no_part = subst (λ z. IsFree 39 z) (sym text_none) refl
  parts-free _ (c.literal x ks some apart parts) = free-token (k.Part x) ks (part-text x) (parts-free ks parts)
  parts-free _ (c.hole ks ms code parts) =
      free-token (k.Sign s.HoleOpen) (ks ++ k.Sign s.HoleClose ∷ ms) (sign-text s.HoleOpen) (free-both ks (k.Sign s.HoleClose ∷ ms) (code-free ks code) (free-token (k.Sign s.HoleClose) ms (sign-text s.HoleClose) (parts-free ms parts)))
