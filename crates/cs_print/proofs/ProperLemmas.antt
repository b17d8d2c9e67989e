-- The tokens of a text can be written again.
use Rattle.std.proofs.Common.{◌≡◌, ℕ, cond, ◌<◌, ◌^◌, ◌-◌, ℤ, pos, List, [], ◌∷◌, ◌++◌, length, true, false, Some, None, refl, sym, ap, ◌∙◌, subst, append_assoc, arith}
use Rattle.std.specs.Prelude.{Bool, eqb, ◌&&◌, nat_lt, nat_le}
use Rattle.std.specs.declared.option.Option.{Option}
use Rattle.std.specs.Str.{all_ascii_digits}
use Rattle.std.proofs.lemmas.Bool.{false≢true, and_parts, leb-true, ne_eqb}
use Rattle.text_core.specs.Decimal.{i32_of, says_at_most, value_behind}
use Rattle.cs_token.specs.declared.around.Around.{Around}
use Rattle.cs_token.specs.declared.characters.Class.TheVariants as class
use Rattle.cs_token.specs.declared.token.Token.{Token}
use Rattle.cs_token.specs.declared.token.TokenKind.{TokenKind}
use Rattle.cs_token.specs.declared.token.TokenKind.TheVariants as k
use Rattle.cs_token.specs.Characters.{is_in, IsRun}
use Rattle.cs_token.specs.Lexemes.{is_code, Stands}
use Rattle.cs_token.specs.Lexemes as g
use Rattle.cs_token.specs.Places.{place_after}
use Rattle.cs_token.specs.Spelling.{innermost, behind_kind, Moment, Piece, Step, step, tokens_among, Spells}
use Rattle.cs_token.specs.Walks.{Walk}
use Rattle.cs_token.specs.Walks as walk
use Rattle.cs_token.specs.Written.{IsUnit, IsWritten, NoUnit}
use Rattle.cs_token.specs.Written as written
use Rattle.cs_print.proofs.CodeKinds.{is_part, IsLexeme}
use Rattle.cs_print.proofs.ReadLemmas.{first_part, AreProper}
use Rattle.cs_print.proofs.ReadLemmas as rd

-- numbers

Small : ℤ → Type 0
Small n = (m : ℕ) × (n ≡ pos m) × (m < 2 ^ 31)

said : (text : List ℕ) (n : ℤ) (b : Bool) → says_at_most (2 ^ 31 - 1) text ≡ b → cond b (Some (pos (value_behind 0 text))) None ≡ Some n → Small n
unfolding Small
said text n true e is =
    let both = and_parts (nat_lt 0 (length text) && all_ascii_digits text) (nat_le (value_behind 0 text) (2 ^ 31 - 1)) e in
    let small = leb-true (value_behind 0 text) (2 ^ 31 - 1) both.1 in
    let same : pos (value_behind 0 text) ≡ n = cc in
    (value_behind 0 text, sym same, omega (arith, small))
said text n false e is = absurd (cc)

plain_number : (d : ℕ) (text : List ℕ) (n : ℤ) → eqb d 45 ≡ false → i32_of (d ∷ text) ≡ Some n → Small n
plain_number d text n plain is = said (d ∷ text) n (says_at_most (2 ^ 31 - 1) (d ∷ text)) refl (rw plain at is)

no_minus : (d : ℕ) → is_in class.Digit d ≡ true → eqb d 45 ≡ false
no_minus d is =
    let low = leb-true 48 d (and_parts _ _ is).0 in
    ne_eqb d 45 (λ e. absurd (omega (arith, low, e)))

small-number : (digits : List ℕ) (n : ℤ) → IsRun class.Digit digits → i32_of digits ≡ Some n → Small n
small-number [] n run is = absurd (omega (arith, run.some))
small-number (d ∷ digits) n run is = plain_number d digits n (no_minus d (and_parts _ _ run.all).0) is

-- each token

pub is-lexeme : (a : Option Around) (kind : TokenKind) (text rest : List ℕ) → Stands a (Some kind) text rest → IsLexeme kind
unfolding Small
is-lexeme _ _ _ _ (g.name a text rest code is stops no_word) = (is, no_word)
is-lexeme _ _ _ _ (g.word a w rest code stops) = tt
is-lexeme _ _ _ _ (g.number a n digits rest code run stops is) = small-number digits n run is
is-lexeme _ _ _ _ (g.text a body x rest code is) = tt
is-lexeme _ _ _ _ (g.sign a sign rest code longest hole) = tt
is-lexeme _ _ _ _ (g.hole_close rest) = tt
is-lexeme _ _ _ _ (g.part body x rest some is stops) = some
is-lexeme _ _ _ _ (g.hole_open rest single) = tt
is-lexeme _ _ _ _ (g.interpolation_end rest) = tt

-- literal texts

unit_first : (form : _) (body x rest after : List ℕ) → IsWritten form body x → 0 < length x → rest ≡ body ++ after → NoUnit form rest → ⊥
unit_first form _ _ rest after written.nothing some e stops = absurd (omega (arith, some))
unit_first form _ _ rest after (written.more unit text x c is more) some e stops = stops unit (text ++ after) c is (e ∙ append_assoc unit text after)

part_no_part : (a b : Option Around) (x y : List ℕ) (j m : TokenKind) (body text rest after : List ℕ) → j ≡ k.Part x → m ≡ k.Part y → Stands a (Some j) body rest → Stands b (Some m) text after → rest ≡ text ++ after → ⊥
part_no_part _ _ x y _ _ _ _ _ _ is has (g.part body said_first rest some spells stops) (g.part text said_next after more written_so ends) e =
    unit_first _ text said_next rest after written_so more e stops
part_no_part a _ x y j _ body _ rest _ is has one (g.name b text after code name stops no_word) e = absurd (cc)
part_no_part a _ x y j _ body _ rest _ is has one (g.word b w after code stops) e = absurd (cc)
part_no_part a _ x y j _ body _ rest _ is has one (g.number b n digits after code run stops says) e = absurd (cc)
part_no_part a _ x y j _ body _ rest _ is has one (g.text b inner z after code spells) e = absurd (cc)
part_no_part a _ x y j _ body _ rest _ is has one (g.sign b sign after code longest hole) e = absurd (cc)
part_no_part a _ x y j _ body _ rest _ is has one (g.hole_close after) e = absurd (cc)
part_no_part a _ x y j _ body _ rest _ is has one (g.hole_open after single) e = absurd (cc)
part_no_part a _ x y j _ body _ rest _ is has one (g.interpolation_end after) e = absurd (cc)
part_no_part _ b x y _ m _ text _ after is has (g.name a body rest code name stops no_word) two e = absurd (cc)
part_no_part _ b x y _ m _ text _ after is has (g.word a w rest code stops) two e = absurd (cc)
part_no_part _ b x y _ m _ text _ after is has (g.number a n digits rest code run stops says) two e = absurd (cc)
part_no_part _ b x y _ m _ text _ after is has (g.text a inner z rest code spells) two e = absurd (cc)
part_no_part _ b x y _ m _ text _ after is has (g.sign a sign rest code longest hole) two e = absurd (cc)
part_no_part _ b x y _ m _ text _ after is has (g.hole_close rest) two e = absurd (cc)
part_no_part _ b x y _ m _ text _ after is has (g.hole_open rest single) two e = absurd (cc)
part_no_part _ b x y _ m _ text _ after is has (g.interpolation_end rest) two e = absurd (cc)

-- a literal text stands in an interpolated text
in_text : (a : Option Around) (x : List ℕ) (kind : TokenKind) (body rest : List ℕ) → kind ≡ k.Part x → Stands a (Some kind) body rest → is_code a ≡ false
in_text _ x _ _ _ is (g.part body said_first rest some spells stops) = refl
in_text _ x _ _ _ is (g.name a text rest code name stops no_word) = absurd (cc)
in_text _ x _ _ _ is (g.word a w rest code stops) = absurd (cc)
in_text _ x _ _ _ is (g.number a n digits rest code run stops says) = absurd (cc)
in_text _ x _ _ _ is (g.text a body z rest code spells) = absurd (cc)
in_text _ x _ _ _ is (g.sign a sign rest code longest hole) = absurd (cc)
in_text _ x _ _ _ is (g.hole_close rest) = absurd (cc)
in_text _ x _ _ _ is (g.hole_open rest single) = absurd (cc)
in_text _ x _ _ _ is (g.interpolation_end rest) = absurd (cc)

gap_in_code : (a : Option Around) (text rest : List ℕ) → Stands a None text rest → is_code a ≡ true
gap_in_code _ _ _ (g.gap a text rest code is) = code

part_kind : (kind : TokenKind) → is_part kind ≡ true → (x : List ℕ) × (kind ≡ k.Part x)
part_kind (k.Part x) e = (x, refl)
part_kind _ e = absurd (cc)

-- no literal text stands right behind another
after_part : (m n : Moment) (pieces : List Piece) (a : Option Around) (x body rest : List ℕ) (j : TokenKind) → j ≡ k.Part x → Stands a (Some j) body rest → a ≡ innermost m.0 → rest ≡ m.2 → Walk Step m pieces n
    → first_part (tokens_among m.1 pieces) ≡ false
after_part _ _ _ a x body rest j is stands here there (walk.stay m) = refl
after_part _ n _ a x body rest j is stands here there (walk.go _ next _ _ pieces (step opened before None text after gap) more) =
    absurd (false≢true (sym (in_text a x j body rest is stands) ∙ ap is_code here ∙ gap_in_code (innermost opened) text after gap))
after_part _ n _ a x body rest j is stands here there (walk.go _ next _ _ pieces (step opened before (Some kind) text after token) more) =
    other (is_part kind) refl
  where
    other : (b : Bool) → is_part kind ≡ b → is_part kind ≡ false
    other false e = e
    other true e =
        let y = part_kind kind e in
        absurd (part_no_part a (innermost opened) x y.0 j kind body text rest after is y.1 stands token there)

proper-walk : (m n : Moment) (pieces : List Piece) → Walk Step m pieces n → AreProper (tokens_among m.1 pieces)
proper-walk _ _ _ (walk.stay m) = rd.no_token
proper-walk _ n _ (walk.go _ _ _ _ pieces (step opened before None text rest gap) more) = proper-walk _ n pieces more
proper-walk _ n _ (walk.go _ _ _ _ pieces (step opened before (Some kind) text rest stands) more) =
    rd.one_token _ _ (is-lexeme (innermost opened) kind text rest stands) (apart kind stands more) (proper-walk _ n pieces more)
  where
    apart : (kind : TokenKind) → Stands (innermost opened) (Some kind) text rest → Walk Step (behind_kind (Some kind) (place_after before) opened, before ++ text, rest) pieces n → is_part kind ≡ true
        → first_part (tokens_among (before ++ text) pieces) ≡ false
    apart (k.Part x) stands more e = after_part _ n pieces (innermost opened) x text rest (k.Part x) refl stands refl refl more
    apart _ stands more e = absurd (cc)

pub proper-tokens : (text : List ℕ) (tokens : List Token) → Spells text tokens → AreProper tokens
proper-tokens text tokens spells = subst (λ x. AreProper x) (sym spells.are) (proper-walk _ _ spells.pieces spells.laid)
