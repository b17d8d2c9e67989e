-- Levels and strengths of what goes on with an expression.
use Rattle.std.proofs.Common.{◌≡◌, ℕ, ◌+◌, ◌<◌, ◌≤◌, List, [], ◌∷◌, refl, sym, ap, ◌∙◌, arith, inl, inr}
use Rattle.std.specs.Prelude.{Bool, true, false, if◌then◌else◌, codes, Some, ◌⊎◌}
use Rattle.std.specs.Str.{bytes_eq}
use Rattle.std.proofs.lemmas.Slice.Eq.{bytes_eq-Decides}
use Rattle.std.specs.Bool.{Decides}
use Rattle.cs_ast.specs.declared.operators.BinaryOp.{BinaryOp}
use Rattle.cs_ast.specs.declared.operators.BinaryOp.TheVariants as bo
use Rattle.cs_token.specs.declared.token.Token.{Token}
use Rattle.cs_token.specs.declared.token.TokenKind.{TokenKind}
use Rattle.cs_token.specs.declared.token.TokenKind.TheVariants as k
use Rattle.cs_token.specs.declared.token.Sign.{Sign}
use Rattle.cs_token.specs.declared.token.Sign.TheVariants as s
use Rattle.cs_grammar.specs.Tokens.{IsSign, IsName}
use Rattle.cs_grammar.specs.Tables.{operator, level, left_level, right_level}
use Rattle.cs_parse.specs.declared.tables.Going.{Going}
use Rattle.cs_parse.specs.declared.tables.Going.TheVariants as g
use Rattle.cs_parse.specs.ExpressionReading.{going, going_sign, strength, next}

-- the levels at which expressions are read
abbrev pub Used : ℕ → Type 0
Used l = (l ≡ 0) ⊎ ((l ≡ 2) ⊎ ((5 ≤ l) × (l ≤ 11)))

-- the levels round an operator
pub record Levels (op : BinaryOp) : Type 0 where
  pub right_used : Used (right_level op)
  pub right_near : right_level op ≤ level op + 1
  pub level_small : level op ≤ 9
  pub level_big : 2 ≤ level op
  pub left_near : level op ≤ left_level op
  pub left_small : left_level op ≤ level op + 1
  pub right_close : level op ≤ right_level op
  pub joins : ((level op ≡ 2) × (left_level op ≡ 3) × (right_level op ≡ 2)) ⊎ ((4 ≤ level op) × (left_level op ≡ level op) × (right_level op ≡ level op + 1))

pub levels : (op : BinaryOp) → Levels op
unfolding level left_level right_level
levels bo.Coalesce = record { right_used = inr (inl refl); right_near = omega arith; level_small = omega arith; level_big = omega arith; left_near = omega arith; left_small = omega arith; right_close = omega arith; joins = inl (refl, refl, refl) }
levels _ = record { right_used = inr (inr (omega arith, omega arith)); right_near = omega arith; level_small = omega arith; level_big = omega arith; left_near = omega arith; left_small = omega arith; right_close = omega arith; joins = inr (omega arith, refl, refl) }

-- an operation that goes on at a level is of that level
pub op_level : (op : BinaryOp) (l : ℕ) → Used l → l < left_level op + 1 → l ≤ level op
op_level op l u h = let x = levels op in elim x.joins [
  | inl j ↦ elim u [ inl z ↦ omega (arith, x.level_big) | inr z ↦ elim z [ inl z ↦ omega (arith, j.0) | inr z ↦ omega (arith, j.1) ] ]
  | inr j ↦ omega (arith, j.1)
]

-- no strength is 1, 3 or 12
pub gaps : (kind : Going) → (strength kind ≤ 1 → strength kind ≤ 0) × (strength kind ≤ 3 → strength kind ≤ 2) × (strength kind ≤ 12 → strength kind ≤ 11)
gaps g.Conditional = (λ h. omega arith, λ h. omega arith, λ h. omega arith)
gaps (g.Operator op) = let x = levels op in
    (λ h. omega (arith, x.level_big, x.left_near), λ h. elim x.joins [ inl j ↦ omega (arith, j.1) | inr j ↦ omega (arith, j.0, j.1) ], λ h. omega (arith, x.level_small, x.left_small))
gaps g.With = (λ h. omega arith, λ h. omega arith, λ h. omega arith)
gaps g.NullMember = (λ h. omega arith, λ h. omega arith, λ h. omega arith)
gaps g.Member = (λ h. omega arith, λ h. omega arith, λ h. omega arith)
gaps g.Call = (λ h. omega arith, λ h. omega arith, λ h. omega arith)
gaps g.Index = (λ h. omega arith, λ h. omega arith, λ h. omega arith)
gaps g.Nothing = (λ h. omega arith, λ h. omega arith, λ h. omega arith)

pub next_gaps : (ts : List Token) → (next ts ≤ 1 → next ts ≤ 0) × (next ts ≤ 3 → next ts ≤ 2) × (next ts ≤ 12 → next ts ≤ 11)
next_gaps [] = (λ h. omega arith, λ h. omega arith, λ h. omega arith)
next_gaps (t ∷ ts) = gaps (going t.kind)

pub strength_small : (kind : Going) → strength kind ≤ 14
strength_small (g.Operator op) = let x = levels op in omega (arith, x.level_small, x.left_small)
strength_small g.Conditional = omega arith
strength_small g.With = omega arith
strength_small g.NullMember = omega arith
strength_small g.Member = omega arith
strength_small g.Call = omega arith
strength_small g.Index = omega arith
strength_small g.Nothing = omega arith

pub next_small : (ts : List Token) → next ts ≤ 14
next_small [] = omega arith
next_small (t ∷ ts) = strength_small (going t.kind)

-- which sign or name goes on so
pub sign_conditional : (x : Sign) → going_sign x ≡ g.Conditional → x ≡ s.Question
unfolding going_sign
sign_conditional s.Question e = refl
sign_conditional _ e = absurd (cc)

pub sign_null_member : (x : Sign) → going_sign x ≡ g.NullMember → x ≡ s.QuestionDot
unfolding going_sign
sign_null_member s.QuestionDot e = refl
sign_null_member _ e = absurd (cc)

pub sign_member : (x : Sign) → going_sign x ≡ g.Member → x ≡ s.Dot
unfolding going_sign
sign_member s.Dot e = refl
sign_member _ e = absurd (cc)

pub sign_call : (x : Sign) → going_sign x ≡ g.Call → x ≡ s.OpenRound
unfolding going_sign
sign_call s.OpenRound e = refl
sign_call _ e = absurd (cc)

pub sign_index : (x : Sign) → going_sign x ≡ g.Index → x ≡ s.OpenSquare
unfolding going_sign
sign_index s.OpenSquare e = refl
sign_index _ e = absurd (cc)

not_with : (x : Sign) → going_sign x ≡ g.With → ⊥
unfolding going_sign
not_with s.OpenRound e = cc
not_with _ e = cc

pub operator_going : (x : Sign) (op : BinaryOp) → operator x ≡ Some op → going_sign x ≡ g.Operator op
unfolding going_sign operator
operator_going s.OpenRound op e = cc
operator_going _ op e = cc

going_operator : (x : Sign) (op : BinaryOp) → going_sign x ≡ g.Operator op → operator x ≡ Some op
unfolding going_sign operator
going_operator s.OpenRound op e = cc
going_operator _ op e = cc

-- a name that goes on is `with`
name_with : (x : List ℕ) (b : Bool) → Decides b (x ≡ codes "with") → (if b then g.With else g.Nothing) ≡ g.With → x ≡ codes "with"
name_with x true d e = d.0 refl
name_with x false d e = absurd (cc)

-- which token goes on so
pub is_with : (t : Token) → going t.kind ≡ g.With → IsName (codes "with") t
is_with t e = split t.kind refl e
  where
    split : (kind : TokenKind) → t.kind ≡ kind → going kind ≡ g.With → IsName (codes "with") t
    split (k.Name x) i e = i ∙ ap k.Name (name_with x (bytes_eq x (codes "with")) (bytes_eq-Decides x (codes "with")) e)
    split (k.Sign x) i e = absurd (not_with x e)
    split _ i e = absurd (cc)

not_name : (kind : Going) (b : Bool) → (kind ≡ g.With → ⊥) → (kind ≡ g.Nothing → ⊥) → (if b then g.With else g.Nothing) ≡ kind → ⊥
not_name kind true h1 h2 e = h1 (sym e)
not_name kind false h1 h2 e = h2 (sym e)

-- a token that goes on, but as `with` does, is a sign
sign_of : (t : Token) (kind : Going) → (kind ≡ g.With → ⊥) → (kind ≡ g.Nothing → ⊥) → going t.kind ≡ kind → (x : Sign) × IsSign x t × (going_sign x ≡ kind)
sign_of t kind h1 h2 e = split t.kind refl e
  where
    split : (other : TokenKind) → t.kind ≡ other → going other ≡ kind → (x : Sign) × IsSign x t × (going_sign x ≡ kind)
    split (k.Sign x) i e = (x, i, e)
    split (k.Name x) i e = absurd (not_name kind (bytes_eq x (codes "with")) h1 h2 e)
    split _ i e = absurd (h2 (sym e))

pub op_of : (t : Token) (op : BinaryOp) → going t.kind ≡ g.Operator op → (x : Sign) × IsSign x t × (operator x ≡ Some op)
op_of t op e = let z = sign_of t (g.Operator op) (λ i. cc) (λ i. cc) e in (z.0, z.1, going_operator z.0 op z.2)

pub is_question : (t : Token) → going t.kind ≡ g.Conditional → IsSign s.Question t
is_question t e = let z = sign_of t g.Conditional (λ i. cc) (λ i. cc) e in z.1 ∙ ap k.Sign (sign_conditional z.0 z.2)

pub is_question_dot : (t : Token) → going t.kind ≡ g.NullMember → IsSign s.QuestionDot t
is_question_dot t e = let z = sign_of t g.NullMember (λ i. cc) (λ i. cc) e in z.1 ∙ ap k.Sign (sign_null_member z.0 z.2)

pub is_dot : (t : Token) → going t.kind ≡ g.Member → IsSign s.Dot t
is_dot t e = let z = sign_of t g.Member (λ i. cc) (λ i. cc) e in z.1 ∙ ap k.Sign (sign_member z.0 z.2)

pub is_round : (t : Token) → going t.kind ≡ g.Call → IsSign s.OpenRound t
is_round t e = let z = sign_of t g.Call (λ i. cc) (λ i. cc) e in z.1 ∙ ap k.Sign (sign_call z.0 z.2)

pub is_square : (t : Token) → going t.kind ≡ g.Index → IsSign s.OpenSquare t
is_square t e = let z = sign_of t g.Index (λ i. cc) (λ i. cc) e in z.1 ∙ ap k.Sign (sign_index z.0 z.2)

-- the levels that are used
pub used_small : (l m : ℕ) → Used l → 11 ≤ m → l ≤ m
used_small l m u h = elim u [ inl z ↦ omega arith | inr z ↦ elim z [ inl z ↦ omega arith | inr z ↦ omega (arith, z.1) ] ]

pub used_below_2 : (l : ℕ) → Used l → l < 2 → l ≤ 0
used_below_2 l u h = elim u [ inl z ↦ omega arith | inr z ↦ elim z [ inl z ↦ omega arith | inr z ↦ omega (arith, z.0) ] ]
