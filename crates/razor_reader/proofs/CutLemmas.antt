-- What tokens spell doesn't hang on the tokens behind them, and no semicolon is among them.
use Rattle.std.proofs.Common.{◌≡◌, ℕ, ℤ, List, [], ◌∷◌, ◌++◌, refl, sym, ap, ◌∙◌, subst, append_assoc}
use Rattle.std.specs.Prelude.{Bool, true, false, not, ◌&&◌, codes, Option, Some, None}
use Rattle.std.specs.List.{list_all}
use Rattle.text_core.specs.declared.place.Place.{Place}
use Rattle.cs_ast.specs.declared.cs_type.TypeExpr.{TypeExpr}
use Rattle.cs_ast.specs.declared.cs_type.TypeKind.{TypeKind}
use Rattle.cs_ast.specs.declared.expression.Expr.{Expr}
use Rattle.cs_ast.specs.declared.expression.StmtKind.{StmtKind}
use Rattle.cs_ast.specs.declared.expression.TextPart.{TextPart}
use Rattle.cs_ast.specs.declared.expression.WithPart.{WithPart}
use Rattle.cs_ast.specs.declared.operators.AssignOp.{AssignOp}
use Rattle.cs_ast.specs.declared.operators.BinaryOp.{BinaryOp}
use Rattle.cs_ast.specs.declared.operators.StepOp.{StepOp}
use Rattle.cs_ast.specs.declared.operators.UnaryOp.{UnaryOp}
use Rattle.cs_token.specs.declared.token.Token.{Token}
use Rattle.cs_token.specs.declared.token.TokenKind.{TokenKind}
use Rattle.cs_token.specs.declared.token.TokenKind.TheVariants as t
use Rattle.cs_token.specs.declared.token.Sign.{Sign}
use Rattle.cs_token.specs.declared.token.Sign.TheVariants as s
use Rattle.cs_token.specs.declared.token.Word.{Word}
use Rattle.cs_grammar.specs.Tokens.{IsSign, IsWord, IsName}
use Rattle.cs_grammar.specs.Tables.{operator, unary_operator, assignment, step_operator}
use Rattle.cs_grammar.specs.Types.{WritesType, WritesCore}
use Rattle.cs_grammar.specs.Types as ty
use Rattle.cs_grammar.specs.Expressions.{Spells, Arguments, Values, WithParts, TextParts}
use Rattle.cs_grammar.specs.Expressions as g
use Rattle.cs_grammar.specs.Statements.{Changes, Acts, Declares, Initial, Simple}
use Rattle.cs_grammar.specs.Statements as cs
use Rattle.razor_ast.specs.Statements.{is_semicolon}

-- no semicolon is among the tokens
abbrev pub clean : List Token → Bool
clean ts = list_all (λ u. not (is_semicolon u.kind)) ts

-- tokens that stand in a relation to those behind them: which they are, and that any may stand behind them
pub record Cut (P : List Token → List Token → Type 0) (ts rest : List Token) : Type 0 where
  pub pre : List Token
  pub whole : ts ≡ pre ++ rest
  pub any : (more : List Token) → P (pre ++ more) more
  pub kept : clean pre ≡ true

-- one behind another
Both : (List Token → List Token → Type 0) → (List Token → List Token → Type 0) → List Token → List Token → Type 0
Both P Q a c = (b : List Token) × P a b × Q b c

Eats : Token → List Token → List Token → Type 0
Eats u a b = a ≡ u ∷ b

clean_both : (a b : List Token) → clean a ≡ true → clean b ≡ true → clean (a ++ b) ≡ true
clean_both [] b e f = f
clean_both (u ∷ a) b e f = go (not (is_semicolon u.kind)) e (λ h. clean_both a b h f)
  where
    go : (d : Bool) → (d && clean a) ≡ true → (clean a ≡ true → clean (a ++ b) ≡ true) → (d && clean (a ++ b)) ≡ true
    go true e h = h e
    go false e h = absurd (cc)

infixr 5 ◌then◌
◌then◌ : {P Q : List Token → List Token → Type 0} {ts us rest : List Token} → Cut P ts us → Cut Q us rest → Cut (Both P Q) ts rest
unfolding Both
◌then◌ {P} {Q} {ts} {us} {rest} x y = record {
  pre = x.pre ++ y.pre;
  whole = x.whole ∙ ap (λ l. x.pre ++ l) y.whole ∙ sym (append_assoc x.pre y.pre rest);
  any = λ more. (y.pre ++ more, subst (λ (l : List Token). P l (y.pre ++ more)) (sym (append_assoc x.pre y.pre more)) (x.any (y.pre ++ more)), y.any more);
  kept = clean_both x.pre y.pre x.kept y.kept;
}

eat : (u : Token) (us : List Token) → is_semicolon u.kind ≡ false → Cut (Eats u) (u ∷ us) us
unfolding Eats
eat u us e = record { pre = u ∷ []; whole = refl; any = λ more. refl; kept = ap (λ d. not d && true) e }

shaped : {P Q : List Token → List Token → Type 0} {ts rest : List Token} → ((a b : List Token) → P a b → Q a b) → Cut P ts rest → Cut Q ts rest
shaped f x = record { pre = x.pre; whole = x.whole; any = λ more. f (x.pre ++ more) more (x.any more); kept = x.kept }

stays : {P : List Token → List Token → Type 0} (rest : List Token) → ((more : List Token) → P more more) → Cut P rest rest
stays rest h = record { pre = []; whole = refl; any = h; kept = refl }

-- tokens that are no semicolon
of_kind : (u : Token) (kind : TokenKind) → u.kind ≡ kind → is_semicolon kind ≡ false → is_semicolon u.kind ≡ false
of_kind u kind e f = ap is_semicolon e ∙ f

word_clean : (word : Word) (u : Token) → IsWord word u → is_semicolon u.kind ≡ false
word_clean word u e = ap is_semicolon e

name_clean : (x : List ℕ) (u : Token) → IsName x u → is_semicolon u.kind ≡ false
name_clean x u e = ap is_semicolon e

operator_clean : (sign : Sign) (op : BinaryOp) (u : Token) → IsSign sign u → operator sign ≡ Some op → is_semicolon u.kind ≡ false
unfolding operator
operator_clean s.Semicolon op u e f = absurd (cc)
operator_clean _ op u e f = ap is_semicolon e

unary_clean : (sign : Sign) (op : UnaryOp) (u : Token) → IsSign sign u → unary_operator sign ≡ Some op → is_semicolon u.kind ≡ false
unfolding unary_operator
unary_clean s.Semicolon op u e f = absurd (cc)
unary_clean _ op u e f = ap is_semicolon e

assign_clean : (sign : Sign) (op : AssignOp) (u : Token) → IsSign sign u → assignment sign ≡ Some op → is_semicolon u.kind ≡ false
unfolding assignment
assign_clean s.Semicolon op u e f = absurd (cc)
assign_clean _ op u e f = ap is_semicolon e

step_clean : (sign : Sign) (op : StepOp) (u : Token) → IsSign sign u → step_operator sign ≡ Some op → is_semicolon u.kind ≡ false
unfolding step_operator
step_clean s.Semicolon op u e f = absurd (cc)
step_clean _ op u e f = ap is_semicolon e

-- types
mutual
  unfolding Both Eats

  pub cut_type : (ts rest : List Token) (a : TypeExpr) → WritesType ts rest a → Cut (λ x y. WritesType x y a) ts rest
  cut_type ts rest a (ty.bare nullable _ _ _ h) = shaped (λ x y z. ty.bare nullable x y a z) (cut_core nullable ts rest a h)
  cut_type ts rest a (ty.marked q _ _ _ h i) =
      shaped (λ x y z. ty.marked q x y a (subst (λ (l : List Token). WritesCore true x l a) z.2 z.1) i) (cut_core true ts (q ∷ rest) a h then eat q rest (ap is_semicolon i))

  cut_core : (nullable : Bool) (ts rest : List Token) (a : TypeExpr) → WritesCore nullable ts rest a → Cut (λ x y. WritesCore nullable x y a) ts rest
  cut_core nullable ts rest a (ty.plain _ word kind u _ i f) = shaped (λ x y z. subst (λ (l : List Token). WritesCore nullable l y a) (sym z) (ty.plain nullable word kind u y i f)) (eat u rest (word_clean word u i))
  cut_core nullable ts rest a (ty.name x u _ i) = shaped (λ v y z. subst (λ (l : List Token). WritesCore true l y a) (sym z) (ty.name x u y i)) (eat u rest (name_clean x u i))
  cut_core nullable ts rest a (ty.list u o c us _ b i1 i2 h i3) =
      shaped (λ x y z. subst (λ (l : List Token). WritesCore true l y a) (sym (z.1 ∙ ap (λ l. u ∷ l) z.2.1))
      (ty.list u o c z.2.0 y b i1 i2 (subst (λ (l : List Token). WritesType z.2.0 l b) z.2.2.2 z.2.2.1) i3))
      (eat u (o ∷ us) (word_clean _ u i1) then eat o us (ap is_semicolon i2) then cut_type us (c ∷ rest) b h then eat c rest (ap is_semicolon i3))
  cut_core nullable ts rest a (ty.callback u _ i) = shaped (λ x y z. subst (λ (l : List Token). WritesCore false l y a) (sym z) (ty.callback u y i)) (eat u rest (word_clean _ u i))
  cut_core nullable ts rest a (ty.callback_of u o c us _ b i1 i2 h i3) =
      shaped (λ x y z. subst (λ (l : List Token). WritesCore false l y a) (sym (z.1 ∙ ap (λ l. u ∷ l) z.2.1))
      (ty.callback_of u o c z.2.0 y b i1 i2 (subst (λ (l : List Token). WritesType z.2.0 l b) z.2.2.2 z.2.2.1) i3))
      (eat u (o ∷ us) (word_clean _ u i1) then eat o us (ap is_semicolon i2) then cut_type us (c ∷ rest) b h then eat c rest (ap is_semicolon i3))
  cut_core nullable ts rest a (ty.fragment u _ i) = shaped (λ x y z. subst (λ (l : List Token). WritesCore true l y a) (sym z) (ty.fragment u y i)) (eat u rest (word_clean _ u i))
  cut_core nullable ts rest a (ty.fragment_of u o c us _ b i1 i2 h i3) =
      shaped (λ x y z. subst (λ (l : List Token). WritesCore true l y a) (sym (z.1 ∙ ap (λ l. u ∷ l) z.2.1))
      (ty.fragment_of u o c z.2.0 y b i1 i2 (subst (λ (l : List Token). WritesType z.2.0 l b) z.2.2.2 z.2.2.1) i3))
      (eat u (o ∷ us) (word_clean _ u i1) then eat o us (ap is_semicolon i2) then cut_type us (c ∷ rest) b h then eat c rest (ap is_semicolon i3))

-- expressions
mutual
  unfolding Both Eats unary_operator operator

  pub cut_spells : (l : ℕ) (p : Place) (ts rest : List Token) (a : Expr) → Spells l p ts rest a → Cut (λ x y. Spells l p x y a) ts rest
  cut_spells l p ts rest a (g.conditional _ _ q r t c _ us vs _ b d e hl h1 i1 h2 i2 h3) =
      shaped (λ x y z. g.conditional l p q r t c x z.2.0 z.2.2.2.0 y b d e hl (subst (λ (k : List Token). Spells 1 p x k b) z.2.1 z.1) i1
      (subst (λ (k : List Token). Spells 0 q z.2.0 k d) z.2.2.2.1 z.2.2.1) i2 z.2.2.2.2)
      (cut_spells 1 p ts (t ∷ us) b h1 then eat t us (ap is_semicolon i1) then cut_spells 0 q us (c ∷ vs) d h2 then eat c vs (ap is_semicolon i2) then cut_spells 0 r vs rest e h3)
  cut_spells l p ts rest a (g.binary _ sign op _ q t _ us _ b d hl h1 i e h2) =
      shaped (λ x y z. g.binary l sign op p q t x z.2.0 y b d hl (subst (λ (k : List Token). Spells _ p x k b) z.2.1 z.1) i e z.2.2)
      (cut_spells _ p ts (t ∷ us) b h1 then eat t us (operator_clean sign op t i e) then cut_spells _ q us rest d h2)
  cut_spells l p ts rest a (g.with_parts _ _ t o c _ us _ b parts hl h1 i1 i2 h2 i3) =
      shaped (λ x y z. g.with_parts l p t o c x z.2.2.0 y b parts hl (subst (λ (k : List Token). Spells 10 p x k b) (z.2.1 ∙ ap (λ k. t ∷ k) z.2.2.1) z.1) i1 i2
      (subst (λ (k : List Token). WithParts z.2.2.0 k parts) z.2.2.2.2 z.2.2.2.1) i3)
      (cut_spells 10 p ts (t ∷ o ∷ us) b h1 then eat t (o ∷ us) (name_clean _ t i1) then eat o us (ap is_semicolon i2) then cut_with us (c ∷ rest) parts h2 then eat c rest (ap is_semicolon i3))
  cut_spells l p ts rest a (g.unary _ sign op q t us _ b hl i e h) =
      shaped (λ x y z. subst (λ (k : List Token). Spells l p k y a) (sym z.1) (g.unary l sign op q t z.0 y b hl i e z.2))
      (eat t us (unary_clean sign op t i e) then cut_spells 11 q us rest b h)
  cut_spells l p ts rest a (g.cast _ q o t c us _ b hl i1 i2 i3 h) =
      shaped (λ x y z. subst (λ (k : List Token). Spells l p k y a) (sym (z.1 ∙ ap (λ k. o ∷ k) (z.2.1 ∙ ap (λ k. t ∷ k) z.2.2.1))) (g.cast l q o t c z.2.2.0 y b hl i1 i2 i3 z.2.2.2))
      (eat o (t ∷ c ∷ us) (ap is_semicolon i1) then eat t (c ∷ us) (word_clean _ t i2) then eat c us (ap is_semicolon i3) then cut_spells 11 q us rest b h)
  cut_spells l p ts rest a (g.null_member _ v _ d t _ _ b hl h i1 i2) =
      shaped (λ x y z. g.null_member l v p d t x y b hl (subst (λ (k : List Token). Spells 12 p x k b) (z.2.1 ∙ ap (λ k. d ∷ k) z.2.2) z.1) i1 i2)
      (cut_spells 12 p ts (d ∷ t ∷ rest) b h then eat d (t ∷ rest) (ap is_semicolon i1) then eat t rest (name_clean v t i2))
  cut_spells l p ts rest a (g.member _ v _ d t _ _ b hl h i1 i2) =
      shaped (λ x y z. g.member l v p d t x y b hl (subst (λ (k : List Token). Spells 13 p x k b) (z.2.1 ∙ ap (λ k. d ∷ k) z.2.2) z.1) i1 i2)
      (cut_spells 13 p ts (d ∷ t ∷ rest) b h then eat d (t ∷ rest) (ap is_semicolon i1) then eat t rest (name_clean v t i2))
  cut_spells l p ts rest a (g.call _ _ o _ us _ b bs hl h i k) =
      shaped (λ x y z. g.call l p o x z.2.0 y b bs hl (subst (λ (q : List Token). Spells 13 p x q b) z.2.1 z.1) i z.2.2)
      (cut_spells 13 p ts (o ∷ us) b h then eat o us (ap is_semicolon i) then cut_arguments us rest bs k)
  cut_spells l p ts rest a (g.index _ _ q o c _ us _ b d hl h1 i1 h2 i2) =
      shaped (λ x y z. g.index l p q o c x z.2.0 y b d hl (subst (λ (k : List Token). Spells 13 p x k b) z.2.1 z.1) i1 (subst (λ (k : List Token). Spells 0 q z.2.0 k d) z.2.2.2 z.2.2.1) i2)
      (cut_spells 13 p ts (o ∷ us) b h1 then eat o us (ap is_semicolon i1) then cut_spells 0 q us (c ∷ rest) d h2 then eat c rest (ap is_semicolon i2))
  cut_spells l p ts rest a (g.number _ n t _ e) = shaped (λ x y z. subst (λ (k : List Token). Spells l p k y a) (sym z) (g.number l n t y e)) (eat t rest (ap is_semicolon e))
  cut_spells l p ts rest a (g.text _ v t _ e) = shaped (λ x y z. subst (λ (k : List Token). Spells l p k y a) (sym z) (g.text l v t y e)) (eat t rest (ap is_semicolon e))
  cut_spells l p ts rest a (g.literals _ word kind t _ i e) = shaped (λ x y z. subst (λ (k : List Token). Spells l p k y a) (sym z) (g.literals l word kind t y i e)) (eat t rest (word_clean word t i))
  cut_spells l p ts rest a (g.interpolated _ o c us _ parts i1 h i2) =
      shaped (λ x y z. subst (λ (k : List Token). Spells l p k y a) (sym z.1) (g.interpolated l o c z.0 y parts i1 (subst (λ (k : List Token). TextParts z.0 k parts) z.2.2 z.2.1) i2))
      (eat o us (ap is_semicolon i1) then cut_text us (c ∷ rest) parts h then eat c rest (ap is_semicolon i2))
  cut_spells l p ts rest a (g.name _ v t _ i) = shaped (λ x y z. subst (λ (k : List Token). Spells l p k y a) (sym z) (g.name l v t y i)) (eat t rest (name_clean v t i))
  cut_spells l p ts rest a (g.static _ word of v t d n _ i1 e i2 i3) =
      shaped (λ x y z. subst (λ (k : List Token). Spells l p k y a) (sym (z.1 ∙ ap (λ k. t ∷ k) (z.2.1 ∙ ap (λ k. d ∷ k) z.2.2))) (g.static l word of v t d n y i1 e i2 i3))
      (eat t (d ∷ n ∷ rest) (word_clean word t i1) then eat d (n ∷ rest) (ap is_semicolon i2) then eat n rest (name_clean v n i3))
  cut_spells l p ts rest a (g.brackets _ q o c us _ _ i1 h i2) =
      shaped (λ x y z. subst (λ (k : List Token). Spells l p k y a) (sym z.1) (g.brackets l q o c z.0 y a i1 (subst (λ (k : List Token). Spells 0 q z.0 k a) z.2.2 z.2.1) i2))
      (eat o us (ap is_semicolon i1) then cut_spells 0 q us (c ∷ rest) a h then eat c rest (ap is_semicolon i2))
  cut_spells l p ts rest a (g.new_record _ v t n o us _ bs i1 i2 i3 h) =
      shaped (λ x y z. subst (λ (k : List Token). Spells l p k y a) (sym (z.1 ∙ ap (λ k. t ∷ k) (z.2.1 ∙ ap (λ k. n ∷ k) z.2.2.1))) (g.new_record l v t n o z.2.2.0 y bs i1 i2 i3 z.2.2.2))
      (eat t (n ∷ o ∷ us) (word_clean _ t i1) then eat n (o ∷ us) (name_clean v n i2) then eat o us (ap is_semicolon i3) then cut_arguments us rest bs h)
  cut_spells l p ts rest a (g.empty_list _ t o c d n us _ b i1 i2 h i3 i4 i5) =
      shaped (λ x y z. subst (λ (k : List Token). Spells l p k y a) (sym (z.1 ∙ ap (λ k. t ∷ k) z.2.1))
      (g.empty_list l t o c d n z.2.0 y b i1 i2 (subst (λ (k : List Token). WritesType z.2.0 k b) (z.2.2.2.1 ∙ ap (λ k. c ∷ k) (z.2.2.2.2.1 ∙ ap (λ k. d ∷ k) z.2.2.2.2.2)) z.2.2.1) i3 i4 i5))
      (eat t (o ∷ us) (word_clean _ t i1) then eat o us (ap is_semicolon i2) then cut_type us (c ∷ d ∷ n ∷ rest) b h then eat c (d ∷ n ∷ rest) (ap is_semicolon i3)
      then eat d (n ∷ rest) (ap is_semicolon i4) then eat n rest (name_clean _ n i5))

  cut_arguments : (ts rest : List Token) (bs : List Expr) → Arguments ts rest bs → Cut (λ x y. Arguments x y bs) ts rest
  cut_arguments ts rest bs (g.no_argument c _ i) = shaped (λ x y z. subst (λ (k : List Token). Arguments k y bs) (sym z) (g.no_argument c y i)) (eat c rest (ap is_semicolon i))
  cut_arguments ts rest bs (g.some_arguments c _ _ _ h i) =
      shaped (λ x y z. g.some_arguments c x y bs (subst (λ (k : List Token). Values x k bs) z.2 z.1) i) (cut_values ts (c ∷ rest) bs h then eat c rest (ap is_semicolon i))

  cut_values : (ts rest : List Token) (bs : List Expr) → Values ts rest bs → Cut (λ x y. Values x y bs) ts rest
  cut_values ts rest bs (g.one_value p _ _ a h) = shaped (λ x y z. g.one_value p x y a z) (cut_spells 0 p ts rest a h)
  cut_values ts rest bs (g.more_values p t _ us _ a ds h i k) =
      shaped (λ x y z. g.more_values p t x z.2.0 y a ds (subst (λ (q : List Token). Spells 0 p x q a) z.2.1 z.1) i z.2.2)
      (cut_spells 0 p ts (t ∷ us) a h then eat t us (ap is_semicolon i) then cut_values us rest ds k)

  cut_with : (ts rest : List Token) (parts : List WithPart) → WithParts ts rest parts → Cut (λ x y. WithParts x y parts) ts rest
  cut_with ts rest parts (g.one_part v p n t us _ a i1 i2 h) =
      shaped (λ x y z. subst (λ (k : List Token). WithParts k y parts) (sym (z.1 ∙ ap (λ k. n ∷ k) z.2.1)) (g.one_part v p n t z.2.0 y a i1 i2 z.2.2))
      (eat n (t ∷ us) (name_clean v n i1) then eat t us (ap is_semicolon i2) then cut_spells 0 p us rest a h)
  cut_with ts rest parts (g.more_parts v p n t c us vs _ a others i1 i2 h i3 k) =
      shaped (λ x y z. subst (λ (q : List Token). WithParts q y parts) (sym (z.1 ∙ ap (λ q. n ∷ q) z.2.1))
      (g.more_parts v p n t c z.2.0 z.2.2.2.0 y a others i1 i2 (subst (λ (q : List Token). Spells 0 p z.2.0 q a) z.2.2.2.1 z.2.2.1) i3 z.2.2.2.2))
      (eat n (t ∷ us) (name_clean v n i1) then eat t us (ap is_semicolon i2) then cut_spells 0 p us (c ∷ vs) a h then eat c vs (ap is_semicolon i3) then cut_with vs rest others k)

  cut_text : (ts rest : List Token) (parts : List TextPart) → TextParts ts rest parts → Cut (λ x y. TextParts x y parts) ts rest
  cut_text ts rest parts (g.no_text_part _) = stays rest (λ more. g.no_text_part more)
  cut_text ts rest parts (g.literal_part v t us _ others e h) =
      shaped (λ x y z. subst (λ (k : List Token). TextParts k y parts) (sym z.1) (g.literal_part v t z.0 y others e z.2)) (eat t us (ap is_semicolon e) then cut_text us rest others h)
  cut_text ts rest parts (g.hole p o c us vs _ a others i1 h i2 k) =
      shaped (λ x y z. subst (λ (q : List Token). TextParts q y parts) (sym z.1)
      (g.hole p o c z.0 z.2.2.0 y a others i1 (subst (λ (q : List Token). Spells 0 p z.0 q a) z.2.2.1 z.2.1) i2 z.2.2.2))
      (eat o us (ap is_semicolon i1) then cut_spells 0 p us (c ∷ vs) a h then eat c vs (ap is_semicolon i2) then cut_text vs rest others k)

-- what stands in the head of a `for`
cut_changes : (p : Place) (ts rest : List Token) (a : Expr) → Changes p ts rest a → Cut (λ x y. Changes p x y a) ts rest
unfolding Both Eats
cut_changes p ts rest a (cs.assign v sign op q n t us _ b i1 i2 e h) =
    shaped (λ x y z. subst (λ (k : List Token). Changes p k y a) (sym (z.1 ∙ ap (λ k. n ∷ k) z.2.1)) (cs.assign v sign op q n t z.2.0 y b i1 i2 e z.2.2))
    (eat n (t ∷ us) (name_clean v n i1) then eat t us (assign_clean sign op t i2 e) then cut_spells 0 q us rest b h)
cut_changes p ts rest a (cs.step v sign op n t _ i1 i2 e) =
    shaped (λ x y z. subst (λ (k : List Token). Changes p k y a) (sym (z.1 ∙ ap (λ k. n ∷ k) z.2)) (cs.step v sign op n t y i1 i2 e))
    (eat n (t ∷ rest) (name_clean v n i1) then eat t rest (step_clean sign op t i2 e))

pub cut_acts : (p : Place) (ts rest : List Token) (a : Expr) → Acts p ts rest a → Cut (λ x y. Acts p x y a) ts rest
cut_acts p ts rest a (cs.change _ _ _ _ h) = shaped (λ x y z. cs.change p x y a z) (cut_changes p ts rest a h)
cut_acts p ts rest a (cs.call _ q _ _ f bs h) = shaped (λ x y z. cs.call p q x y f bs z) (cut_spells 0 p ts rest a h)

cut_declares : (p : Place) (ts rest : List Token) (a : Option TypeExpr) → Declares p ts rest a → Cut (λ x y. Declares p x y a) ts rest
unfolding Eats
cut_declares p ts rest a (cs.by_value t _ i) = shaped (λ x y z. subst (λ (k : List Token). Declares p k y a) (sym z) (cs.by_value t y i)) (eat t rest (word_clean _ t i))
cut_declares p ts rest a (cs.by_type _ _ b h) = shaped (λ x y z. cs.by_type x y b z) (cut_type ts rest b h)

cut_initial : (ts rest : List Token) (a : Option Expr) → Initial ts rest a → Cut (λ x y. Initial x y a) ts rest
unfolding Both Eats
cut_initial ts rest a (cs.none _) = stays rest (λ more. cs.none more)
cut_initial ts rest a (cs.some p t us _ b i h) =
    shaped (λ x y z. subst (λ (k : List Token). Initial k y a) (sym z.1) (cs.some p t z.0 y b i z.2)) (eat t us (ap is_semicolon i) then cut_spells 0 p us rest b h)

pub cut_simple : (p : Place) (ts rest : List Token) (kind : StmtKind) → Simple p ts rest kind → Cut (λ x y. Simple p x y kind) ts rest
unfolding Both Eats
cut_simple p ts rest kind (cs.local v _ n _ us _ a value h1 i h2) =
    shaped (λ x y z. cs.local v p n x z.2.0 y a value (subst (λ (k : List Token). Declares p x k a) z.2.1 z.1) i z.2.2)
    (cut_declares p ts (n ∷ us) a h1 then eat n us (name_clean v n i) then cut_initial us rest value h2)
cut_simple p ts rest kind (cs.act _ _ _ a h) = shaped (λ x y z. cs.act p x y a z) (cut_acts p ts rest a h)
