-- What an expression begins with, as the grammar has it.
use Rattle.std.proofs.Common.{◌≡◌, refl, ap, inl, inr}
use Rattle.std.specs.Prelude.{Bool, true, false, Some, ◌⊎◌}
use Rattle.cs_ast.specs.declared.expression.ExprKind.{ExprKind}
use Rattle.cs_ast.specs.declared.expression.ExprKind.TheVariants as ek
use Rattle.cs_ast.specs.declared.operators.StaticType.{StaticType}
use Rattle.cs_ast.specs.declared.operators.UnaryOp.{UnaryOp}
use Rattle.cs_token.specs.declared.token.Sign.{Sign}
use Rattle.cs_token.specs.declared.token.Sign.TheVariants as s
use Rattle.cs_token.specs.declared.token.Word.{Word}
use Rattle.cs_token.specs.declared.token.Word.TheVariants as w
use Rattle.cs_grammar.specs.Tables.{literal, static_type, unary_operator}
use Rattle.cs_parse.specs.declared.tables.FirstWord.TheVariants as fw
use Rattle.cs_parse.specs.declared.tables.FirstSign.TheVariants as fs
use Rattle.cs_parse.specs.ExpressionReading.{first_word, first_sign}

pub word_new : (word : Word) → first_word word ≡ fw.New → word ≡ w.New
unfolding first_word
word_new w.New e = refl
word_new _ e = absurd (cc)

pub word_list : (word : Word) → first_word word ≡ fw.List → word ≡ w.ImmutableList
unfolding first_word
word_list w.ImmutableList e = refl
word_list _ e = absurd (cc)

pub word_truth : (word : Word) (truth : Bool) → first_word word ≡ fw.Truth truth → literal word ≡ Some (ek.Bool truth)
unfolding first_word literal
word_truth w.True truth e = let same : true ≡ truth = cc in ap (λ b. Some (ek.Bool b)) same
word_truth w.False truth e = let same : false ≡ truth = cc in ap (λ b. Some (ek.Bool b)) same
word_truth _ truth e = absurd (cc)

pub word_null : (word : Word) → first_word word ≡ fw.Null → literal word ≡ Some ek.Null
unfolding first_word literal
word_null w.Null e = refl
word_null _ e = absurd (cc)

pub word_static : (word : Word) (owner : StaticType) → first_word word ≡ fw.Static owner → static_type word ≡ Some owner
unfolding first_word static_type
word_static w.Int owner e = cc
word_static w.String owner e = cc
word_static _ owner e = absurd (cc)

pub sign_interpolation : (sign : Sign) → first_sign sign ≡ fs.Interpolation → sign ≡ s.InterpolationStart
unfolding first_sign
sign_interpolation s.InterpolationStart e = refl
sign_interpolation _ e = absurd (cc)

pub sign_round : (sign : Sign) → first_sign sign ≡ fs.Round → sign ≡ s.OpenRound
unfolding first_sign
sign_round s.OpenRound e = refl
sign_round _ e = absurd (cc)

pub sign_operator : (sign : Sign) (op : UnaryOp) → first_sign sign ≡ fs.Operator op → unary_operator sign ≡ Some op
unfolding first_sign unary_operator
sign_operator s.Minus op e = cc
sign_operator s.Plus op e = cc
sign_operator s.Not op e = cc
sign_operator _ op e = absurd (cc)

-- the other way round
pub literal_word : (word : Word) (kind : ExprKind) → literal word ≡ Some kind → ((truth : Bool) × (first_word word ≡ fw.Truth truth) × (kind ≡ ek.Bool truth)) ⊎ ((first_word word ≡ fw.Null) × (kind ≡ ek.Null))
unfolding first_word literal
literal_word w.True kind e = inl (true, refl, cc)
literal_word w.False kind e = inl (false, refl, cc)
literal_word w.Null kind e = inr (refl, cc)
literal_word _ kind e = absurd (cc)

pub static_word : (word : Word) (owner : StaticType) → static_type word ≡ Some owner → first_word word ≡ fw.Static owner
unfolding first_word static_type
static_word w.Int owner e = cc
static_word w.String owner e = cc
static_word _ owner e = absurd (cc)

pub operator_sign : (sign : Sign) (op : UnaryOp) → unary_operator sign ≡ Some op → first_sign sign ≡ fs.Operator op
unfolding first_sign unary_operator
operator_sign s.Minus op e = cc
operator_sign s.Plus op e = cc
operator_sign s.Not op e = cc
operator_sign _ op e = absurd (cc)
