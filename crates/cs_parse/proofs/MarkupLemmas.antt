-- No expression begins with `(MarkupString)`.
use Rattle.std.proofs.Common.{◌≡◌, ℕ, List, [], ◌∷◌, refl, ap, ◌∙◌}
use Rattle.std.specs.Prelude.{Bool, false, ◌&&◌, if◌then◌else◌, Some, None}
use Rattle.std.proofs.Math.Bool.{and-false}
use Rattle.text_core.specs.declared.place.Place.{Place}
use Rattle.cs_ast.specs.declared.expression.Expr.{Expr}
use Rattle.cs_ast.specs.declared.expression.ExprKind.{ExprKind}
use Rattle.cs_ast.specs.declared.operators.StaticType.{StaticType}
use Rattle.cs_ast.specs.declared.operators.UnaryOp.{UnaryOp}
use Rattle.cs_token.specs.declared.token.Token.{Token}
use Rattle.cs_token.specs.declared.token.TokenKind.TheVariants as k
use Rattle.cs_token.specs.declared.token.Sign.{Sign}
use Rattle.cs_token.specs.declared.token.Sign.TheVariants as s
use Rattle.cs_token.specs.declared.token.Word.{Word}
use Rattle.cs_token.specs.declared.token.Word.TheVariants as w
use Rattle.cs_grammar.specs.Tokens.{IsSign, IsWord}
use Rattle.cs_grammar.specs.Tables.{left_level, unary_operator, static_type, literal}
use Rattle.cs_grammar.specs.Expressions.{Spells}
use Rattle.cs_grammar.specs.Expressions as g
use Rattle.cs_parse.specs.Numbers.{sign_number, word_number}
use Rattle.cs_parse.specs.Reading.{is_sign, is_word}
use Rattle.cs_parse.specs.WholeReading.{as_markup}

-- the word stands first
has_markup : List Token → Bool
has_markup [] = false
has_markup (t ∷ ts) = is_word w.MarkupString t.kind

-- an expression begins neither with the word nor with a bracket and the word
record Plain (ts : List Token) : Type 0 where
  no_word : has_markup ts ≡ false
  no_cast : as_markup ts ≡ None

not_round : (t : Token) (us : List Token) → is_sign s.OpenRound t.kind ≡ false → as_markup (t ∷ us) ≡ None
not_round t [] e = refl
not_round t (u ∷ []) e = refl
not_round t (u ∷ c ∷ us) e = ap (λ b. if b && (is_word w.MarkupString u.kind && is_sign s.CloseRound c.kind) then Some (t.place, us) else None) e

round_then : (o : Token) (us : List Token) → has_markup us ≡ false → as_markup (o ∷ us) ≡ None
unfolding has_markup
round_then o [] e = refl
round_then o (u ∷ []) e = refl
round_then o (u ∷ c ∷ us) e =
    ap (λ b. if is_sign s.OpenRound o.kind && (b && is_sign s.CloseRound c.kind) then Some (o.place, us) else None) e
    ∙ ap (λ b. if b then Some (o.place, us) else None) (and-false (is_sign s.OpenRound o.kind))

plain_by : (t : Token) (us : List Token) → is_word w.MarkupString t.kind ≡ false → is_sign s.OpenRound t.kind ≡ false → Plain (t ∷ us)
unfolding has_markup
plain_by t us e1 e2 = record { no_word = e1; no_cast = not_round t us e2 }

plain_word : (word : Word) (t : Token) (us : List Token) → IsWord word t → is_word w.MarkupString (k.Word word) ≡ false → Plain (t ∷ us)
plain_word word t us e d = plain_by t us (ap (is_word w.MarkupString) e ∙ d) (ap (is_sign s.OpenRound) e)

plain_sign : (sign : Sign) (t : Token) (us : List Token) → IsSign sign t → is_sign s.OpenRound (k.Sign sign) ≡ false → Plain (t ∷ us)
plain_sign sign t us e d = plain_by t us (ap (is_word w.MarkupString) e) (ap (is_sign s.OpenRound) e ∙ d)

plain_round : (o : Token) (us : List Token) → IsSign s.OpenRound o → has_markup us ≡ false → Plain (o ∷ us)
unfolding has_markup
plain_round o us e d = record { no_word = ap (is_word w.MarkupString) e; no_cast = round_then o us d }

unary_plain : (sign : Sign) (op : UnaryOp) → unary_operator sign ≡ Some op → is_sign s.OpenRound (k.Sign sign) ≡ false
unfolding unary_operator sign_number
unary_plain s.Minus op e = refl
unary_plain s.Plus op e = refl
unary_plain s.Not op e = refl
unary_plain _ op e = absurd (cc)

literal_plain : (word : Word) (kind : ExprKind) → literal word ≡ Some kind → is_word w.MarkupString (k.Word word) ≡ false
unfolding literal word_number
literal_plain w.True kind e = refl
literal_plain w.False kind e = refl
literal_plain w.Null kind e = refl
literal_plain _ kind e = absurd (cc)

static_plain : (word : Word) (owner : StaticType) → static_type word ≡ Some owner → is_word w.MarkupString (k.Word word) ≡ false
unfolding static_type word_number
static_plain w.Int owner e = refl
static_plain w.String owner e = refl
static_plain _ owner e = absurd (cc)

new_plain : is_word w.MarkupString (k.Word w.New) ≡ false
unfolding word_number
new_plain = refl

list_plain : is_word w.MarkupString (k.Word w.ImmutableList) ≡ false
unfolding word_number
list_plain = refl

string_plain : is_word w.MarkupString (k.Word w.String) ≡ false
unfolding word_number
string_plain = refl

interpolation_plain : is_sign s.OpenRound (k.Sign s.InterpolationStart) ≡ false
unfolding sign_number
interpolation_plain = refl

string_first : (t : Token) (us : List Token) → IsWord w.String t → has_markup (t ∷ us) ≡ false
unfolding has_markup
string_first t us e = ap (is_word w.MarkupString) e ∙ string_plain

plain : (l : ℕ) (p : Place) (ts rest : List Token) (a : Expr) → Spells l p ts rest a → Plain ts
plain l p ts rest a (g.conditional _ _ q v t c _ us vs _ b d f h2 s1 e1 s2 e2 s3) = plain 1 p ts (t ∷ us) b s1
plain l p ts rest a (g.binary _ sign op _ q t _ us _ b d h2 s1 e1 e2 s2) = plain (left_level op) p ts (t ∷ us) b s1
plain l p ts rest a (g.with_parts _ _ t o c _ us _ b parts h2 s1 e1 e2 s2 e3) = plain 10 p ts (t ∷ o ∷ us) b s1
plain l p ts rest a (g.unary _ sign op q t us _ b h2 e1 e2 s1) = plain_sign sign t us e1 (unary_plain sign op e2)
plain l p ts rest a (g.cast _ q o t c us _ b h2 e1 e2 e3 s1) = plain_round o (t ∷ c ∷ us) e1 (string_first t (c ∷ us) e2)
plain l p ts rest a (g.null_member _ x _ d t _ _ b h2 s1 e1 e2) = plain 12 p ts (d ∷ t ∷ rest) b s1
plain l p ts rest a (g.member _ x _ d t _ _ b h2 s1 e1 e2) = plain 13 p ts (d ∷ t ∷ rest) b s1
plain l p ts rest a (g.call _ _ o _ us _ b bs h2 s1 e1 s2) = plain 13 p ts (o ∷ us) b s1
plain l p ts rest a (g.index _ _ q o c _ us _ b d h2 s1 e1 s2 e2) = plain 13 p ts (o ∷ us) b s1
plain l p ts rest a (g.number _ n t _ e) = plain_by t rest (ap (is_word w.MarkupString) e) (ap (is_sign s.OpenRound) e)
plain l p ts rest a (g.text _ x t _ e) = plain_by t rest (ap (is_word w.MarkupString) e) (ap (is_sign s.OpenRound) e)
plain l p ts rest a (g.literals _ word kind t _ e1 e2) = plain_word word t rest e1 (literal_plain word kind e2)
plain l p ts rest a (g.interpolated _ o c us _ parts e1 s1 e2) = plain_sign s.InterpolationStart o us e1 interpolation_plain
plain l p ts rest a (g.name _ x t _ e) = plain_by t rest (ap (is_word w.MarkupString) e) (ap (is_sign s.OpenRound) e)
plain l p ts rest a (g.static _ word owner x t d n _ e1 e2 e3 e4) = plain_word word t (d ∷ n ∷ rest) e1 (static_plain word owner e2)
plain l p ts rest a (g.brackets _ q o c us _ _ e1 s1 e2) = plain_round o us e1 (plain 0 q us (c ∷ rest) a s1).no_word
plain l p ts rest a (g.new_record _ x t n o us _ bs e1 e2 e3 s1) = plain_word w.New t (n ∷ o ∷ us) e1 new_plain
plain l p ts rest a (g.empty_list _ t o c d n us _ b e1 e2 wr e3 e4 e5) = plain_word w.ImmutableList t (o ∷ us) e1 list_plain

pub no_markup : (l : ℕ) (p : Place) (ts rest : List Token) (a : Expr) → Spells l p ts rest a → as_markup ts ≡ None
no_markup l p ts rest a sp = (plain l p ts rest a sp).no_cast
