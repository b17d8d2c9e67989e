-- Each form of expression that is printed is spelled again, where its parts are.
use Rattle.std.proofs.Common.{◌≡◌, ℕ, ◌≤◌, ℤ, List, [], ◌∷◌, true, false, inl, inr, refl, sym, ◌∙◌, subst, arith}
use Rattle.std.specs.Prelude.{Some, nat_le}
use Rattle.std.proofs.lemmas.Bool.{cases_Bool, leb-true}
use Rattle.text_core.specs.declared.place.Place.{Place}
use Rattle.cs_ast.specs.declared.expression.Expr.{Expr}
use Rattle.cs_ast.specs.declared.expression.ExprKind.{ExprKind}
use Rattle.cs_ast.specs.declared.expression.ExprKind.TheVariants as ek
use Rattle.cs_ast.specs.declared.operators.BinaryOp.{BinaryOp}
use Rattle.cs_ast.specs.declared.operators.BinaryOp.TheVariants as bo
use Rattle.cs_ast.specs.declared.operators.CastOp.TheVariants as co
use Rattle.cs_ast.specs.declared.operators.StaticType.{StaticType}
use Rattle.cs_ast.specs.declared.operators.StaticType.TheVariants as sy
use Rattle.cs_ast.specs.declared.operators.UnaryOp.{UnaryOp}
use Rattle.cs_ast.specs.declared.operators.UnaryOp.TheVariants as uo
use Rattle.cs_token.specs.declared.token.Token.{Token}
use Rattle.cs_token.specs.declared.token.TokenKind.{TokenKind}
use Rattle.cs_token.specs.declared.token.TokenKind.TheVariants as k
use Rattle.cs_token.specs.declared.token.Sign.TheVariants as s
use Rattle.cs_token.specs.declared.token.Word.{Word}
use Rattle.cs_token.specs.declared.token.Word.TheVariants as w
use Rattle.cs_grammar.specs.Expressions.{node, Spells, Arguments, Values, WithParts, TextParts}
use Rattle.cs_grammar.specs.Expressions as g
use Rattle.cs_grammar.specs.Tables.{operator, left_level, right_level, unary_operator, literal, static_type}
use Rattle.cs_grammar.specs.Tokens.{ident}
use Rattle.cs_print.specs.Alike.{Alike, AlikeKinds}
use Rattle.cs_print.specs.Alike as al
use Rattle.cs_print.specs.Printed.{Kinds, Printed, at_level, whole, postfix, in_round, in_braces, listed, joined, of_type, operator_sign, unary_sign, static_word, truth_word, type_kinds, printed, printed_kind, part_kinds, text_kinds}
use Rattle.cs_print.specs.Printed as p
use Rattle.cs_print.proofs.PrintedLaws as law
use Rattle.cs_print.proofs.CodeKinds.{is_single, IsCode, AreParts, IsLexeme}
use Rattle.cs_print.proofs.CodeKinds as c
use Rattle.cs_print.proofs.LayLemmas.{Are}
use Rattle.cs_print.proofs.ReadLemmas.{Prints, first, single, middle, ended, signed, worded, named, up_to}

-- an expression like this one is spelled at a level
pub record Reads (l : ℕ) (a : Expr) (ts rest : List Token) : Type 0 where
  pub place : Place
  pub tree : Expr
  pub spelled : Spells l place ts rest tree
  pub alike : Alike a tree

-- what is printed is code, and is read as such an expression at each level up to its own
pub record Again (a : Expr) (x : Printed) : Type 0 where
  pub code : IsCode x.kinds
  pub reads : (l : ℕ) (ts rest : List Token) → l ≤ x.level → Are x.kinds ts rest → Reads l a ts rest

abbrev pub ExprAgain : Expr → Type 0
ExprAgain a = Again a (printed a)

-- by its form
pub made : (q : Place) (kind : ExprKind) (x : Printed) → printed_kind kind ≡ x → Again (node q kind) x → ExprAgain (node q kind)
made q kind x e h = subst (λ y. Again (node q kind) y) (sym (law.printed_law (node q kind) ∙ e)) h

-- in brackets
pub bracketed_code : (ks : Kinds) → IsCode ks → IsCode (in_round ks)
bracketed_code ks code = signed s.OpenRound _ refl (up_to ks s.CloseRound [] refl code c.none)

abbrev AtLevel : ℕ → Expr → Kinds → Type 0
AtLevel l a ks = Prints (Reads l a) ks

in_brackets : (l : ℕ) (b : Expr) (x : Printed) → Again b x → AtLevel l b (in_round x.kinds)
in_brackets l b x h = record {
  code = bracketed_code x.kinds h.code;
  reads = λ ts rest are. first (k.Sign s.OpenRound) _ ts rest (λ xs. Reads l b xs rest) are (λ o us is more.
      let e = ended x.kinds (k.Sign s.CloseRound) us rest more in
      let y = h.reads 0 us (e.t ∷ rest) (omega arith) e.front in
      record { place = o.place; tree = y.tree; spelled = g.brackets l y.place o e.t us rest y.tree is y.spelled e.is; alike = y.alike });
}

-- where a level is asked
pub at : (l : ℕ) (b : Expr) (x : Printed) → Again b x → AtLevel l b (at_level l x)
at l b x h = elim (cases_Bool (nat_le l x.level)) [
  | inl tight ↦ rw tight (record { code = h.code; reads = λ ts rest are. h.reads l ts rest (leb-true l x.level tight) are })
  | inr loose ↦ rw loose (in_brackets l b x h)
]

pub all : (b : Expr) → ExprAgain b → AtLevel 0 b (whole (printed b))
all b h = at 0 b (printed b) h

-- one token
pub alone : (q : Place) (kind : ExprKind) (token : TokenKind) → printed_kind kind ≡ postfix (token ∷ []) → IsCode (token ∷ [])
    → ((l : ℕ) (t : Token) (rest : List Token) → t.kind ≡ token → Spells l t.place (t ∷ rest) rest (node t.place kind)) → ExprAgain (node q kind)
alone q kind token e code spells = made q kind (postfix (token ∷ [])) e (record {
  code = code;
  reads = λ l ts rest low are. single token ts rest (λ xs. Reads l (node q kind) xs rest) are (λ t is.
      record { place = t.place; tree = node t.place kind; spelled = spells l t rest is; alike = al.expression q t.place kind kind (al.same kind) });
})

pub number_again : (q : Place) (n : ℤ) → IsLexeme (k.Number n) → ExprAgain (node q (ek.Int n))
number_again q n is = alone q (ek.Int n) (k.Number n) (law.expr_int n) (subst (λ m. IsCode (k.Number m ∷ [])) (sym is.1) (c.simple _ [] (c.number is.0 is.2) c.none)) (λ l t rest has. g.number l n t rest has)

pub text_again : (q : Place) (x : List ℕ) → ExprAgain (node q (ek.Text x))
text_again q x = alone q (ek.Text x) (k.Text x) (law.expr_text x) (c.simple _ [] (c.text x) c.none) (λ l t rest has. g.text l x t rest has)

pub name_again : (q : Place) (x : List ℕ) → IsLexeme (k.Name x) → ExprAgain (node q (ek.Name x))
name_again q x is = alone q (ek.Name x) (k.Name x) (law.expr_name x) (named x [] is c.none) (λ l t rest has. g.name l x t rest has)

kind_is : (j kind : ExprKind) → Some j ≡ Some kind → j ≡ kind
kind_is j kind e = cc

word_again : (q : Place) (kind : ExprKind) (word : Word) → literal word ≡ Some kind → printed_kind kind ≡ postfix (k.Word word ∷ []) → ExprAgain (node q kind)
word_again q kind word e is = alone q kind (k.Word word) is (worded word [] c.none) (λ l t rest has. g.literals l word kind t rest has e)

pub literal_again : (q : Place) (word : Word) (kind : ExprKind) → literal word ≡ Some kind → ExprAgain (node q kind)
unfolding literal
literal_again q w.True kind e = subst (λ x. ExprAgain (node q x)) (kind_is _ kind e) (word_again q (ek.Bool true) w.True refl (law.expr_bool true))
literal_again q w.False kind e = subst (λ x. ExprAgain (node q x)) (kind_is _ kind e) (word_again q (ek.Bool false) w.False refl (law.expr_bool false))
literal_again q w.Null kind e = subst (λ x. ExprAgain (node q x)) (kind_is _ kind e) (word_again q ek.Null w.Null refl law.expr_null)
literal_again q _ kind e = absurd (cc)

-- operators

operator_is : (op : BinaryOp) → operator (operator_sign op) ≡ Some op
unfolding operator operator_sign
operator_is bo.Or = refl
operator_is _ = refl

operator_single : (op : BinaryOp) → is_single (operator_sign op) ≡ true
unfolding operator_sign
operator_single bo.Or = refl
operator_single _ = refl

unary_is : (op : UnaryOp) → unary_operator (unary_sign op) ≡ Some op
unfolding unary_operator unary_sign
unary_is uo.Not = refl
unary_is _ = refl

unary_single : (op : UnaryOp) → is_single (unary_sign op) ≡ true
unfolding unary_sign
unary_single uo.Not = refl
unary_single _ = refl

binary_form : (q : Place) (op : BinaryOp) (a b : Expr) → ExprAgain a → ExprAgain b → Again (node q (ek.Binary op a b)) (p.binary op (printed a) (printed b))
unfolding p.binary
binary_form q op x y first_again second_again =
    let left = at (left_level op) x (printed x) first_again in
    let right = at (right_level op) y (printed y) second_again in
    record {
      code = up_to _ (operator_sign op) _ (operator_single op) left.code right.code;
      reads = λ l ts rest low are.
          let m = middle _ (k.Sign (operator_sign op)) _ ts rest are in
          let i = left.reads ts (m.t ∷ m.us) m.front in
          let j = right.reads m.us rest m.behind in
          record {
            place = i.place;
            tree = node i.place (ek.Binary op i.tree j.tree);
            spelled = g.binary l (operator_sign op) op i.place j.place m.t ts m.us rest i.tree j.tree low i.spelled m.is (operator_is op) j.spelled;
            alike = al.expression q i.place _ _ (al.binary op x i.tree y j.tree i.alike j.alike);
          };
    }

pub binary_again : (q : Place) (op : BinaryOp) (a b : Expr) → ExprAgain a → ExprAgain b → ExprAgain (node q (ek.Binary op a b))
binary_again q op x y h i = made q (ek.Binary op x y) _ (law.expr_binary op x y) (binary_form q op x y h i)

unary_form : (q : Place) (op : UnaryOp) (a : Expr) → ExprAgain a → Again (node q (ek.Unary op a)) (p.unary op (printed a))
unfolding p.unary
unary_form q op x again =
    let inner = at 11 x (printed x) again in
    record {
      code = signed (unary_sign op) _ (unary_single op) inner.code;
      reads = λ l ts rest low are. first (k.Sign (unary_sign op)) _ ts rest (λ xs. Reads l (node q (ek.Unary op x)) xs rest) are (λ t us is more.
          let i = inner.reads us rest more in
          record {
            place = t.place;
            tree = node t.place (ek.Unary op i.tree);
            spelled = g.unary l (unary_sign op) op i.place t us rest i.tree low is (unary_is op) i.spelled;
            alike = al.expression q t.place _ _ (al.unary op x i.tree i.alike);
          });
    }

pub unary_again : (q : Place) (op : UnaryOp) (a : Expr) → ExprAgain a → ExprAgain (node q (ek.Unary op a))
unary_again q op x h = made q (ek.Unary op x) _ (law.expr_unary op x) (unary_form q op x h)

cast_form : (q : Place) (a : Expr) → ExprAgain a → Again (node q (ek.Cast co.Text a)) (p.cast co.Text (printed a))
unfolding p.cast p.cast_word
cast_form q x again =
    let inner = at 11 x (printed x) again in
    record {
      code = signed s.OpenRound _ refl (worded w.String _ (signed s.CloseRound _ refl inner.code));
      reads = λ l ts rest low are. first (k.Sign s.OpenRound) _ ts rest (λ xs. Reads l (node q (ek.Cast co.Text x)) xs rest) are (λ o us opens more.
          first (k.Word w.String) _ us rest (λ xs. Reads l (node q (ek.Cast co.Text x)) (o ∷ xs) rest) more (λ t vs is others.
          first (k.Sign s.CloseRound) _ vs rest (λ xs. Reads l (node q (ek.Cast co.Text x)) (o ∷ t ∷ xs) rest) others (λ d xs closes last.
          let i = inner.reads xs rest last in
          record {
            place = o.place;
            tree = node o.place (ek.Cast co.Text i.tree);
            spelled = g.cast l i.place o t d xs rest i.tree low opens is closes i.spelled;
            alike = al.expression q o.place _ _ (al.cast co.Text x i.tree i.alike);
          })));
    }

pub cast_again : (q : Place) (a : Expr) → ExprAgain a → ExprAgain (node q (ek.Cast co.Text a))
cast_again q x h = made q (ek.Cast co.Text x) _ (law.expr_cast co.Text x) (cast_form q x h)

conditional_form : (q : Place) (a b d : Expr) → ExprAgain a → ExprAgain b → ExprAgain d → Again (node q (ek.Conditional a b d)) (p.conditional (printed a) (printed b) (printed d))
unfolding p.conditional
conditional_form q x y z h i j =
    let test = at 1 x (printed x) h in
    let holds = all y i in
    let fails = all z j in
    record {
      code = up_to _ s.Question _ refl test.code (up_to _ s.Colon _ refl holds.code fails.code);
      reads = λ l ts rest low are.
          let m = middle _ (k.Sign s.Question) _ ts rest are in
          let n = middle _ (k.Sign s.Colon) _ m.us rest m.behind in
          let one = test.reads ts (m.t ∷ m.us) m.front in
          let two = holds.reads m.us (n.t ∷ n.us) n.front in
          let three = fails.reads n.us rest n.behind in
          record {
            place = one.place;
            tree = node one.place (ek.Conditional one.tree two.tree three.tree);
            spelled = g.conditional l one.place two.place three.place m.t n.t ts m.us n.us rest one.tree two.tree three.tree low one.spelled m.is two.spelled n.is three.spelled;
            alike = al.expression q one.place _ _ (al.conditional x one.tree y two.tree z three.tree one.alike two.alike three.alike);
          };
    }

pub conditional_again : (q : Place) (a b d : Expr) → ExprAgain a → ExprAgain b → ExprAgain d → ExprAgain (node q (ek.Conditional a b d))
conditional_again q x y z h i j = made q (ek.Conditional x y z) _ (law.expr_conditional x y z) (conditional_form q x y z h i j)

-- what may stand before a dot

member_form : (q r : Place) (a : Expr) (n : List ℕ) → IsLexeme (k.Name n) → ExprAgain a → Again (node q (ek.Member a (al.named r n))) (p.member (printed a) n)
unfolding p.member
member_form q r x n is h =
    let inner = at 13 x (printed x) h in
    record {
      code = up_to _ s.Dot _ refl inner.code (named n [] is c.none);
      reads = λ l ts rest low are.
          let m = middle (at_level 13 (printed x)) (k.Sign s.Dot) (k.Name n ∷ []) ts rest are in
          single (k.Name n) m.us rest (λ xs. Are (at_level 13 (printed x)) ts (m.t ∷ xs) → Reads l (node q (ek.Member x (al.named r n))) ts rest) m.behind (λ t has front.
          let i = inner.reads ts (m.t ∷ t ∷ rest) front in
          record {
            place = i.place;
            tree = node i.place (ek.Member i.tree (ident t n));
            spelled = g.member l n i.place m.t t ts rest i.tree low i.spelled m.is has;
            alike = al.expression q i.place _ _ (al.member n r t.place x i.tree i.alike);
          }) m.front;
    }

pub member_again : (q r : Place) (a : Expr) (n : List ℕ) → IsLexeme (k.Name n) → ExprAgain a → ExprAgain (node q (ek.Member a (al.named r n)))
member_again q r x n is h = made q (ek.Member x (al.named r n)) _ (law.expr_member x (al.named r n)) (member_form q r x n is h)

null_member_form : (q r : Place) (a : Expr) (n : List ℕ) → IsLexeme (k.Name n) → ExprAgain a → Again (node q (ek.NullMember a (al.named r n))) (p.null_member (printed a) n)
unfolding p.null_member
null_member_form q r x n is h =
    let inner = at 12 x (printed x) h in
    record {
      code = up_to _ s.QuestionDot _ refl inner.code (named n [] is c.none);
      reads = λ l ts rest low are.
          let m = middle (at_level 12 (printed x)) (k.Sign s.QuestionDot) (k.Name n ∷ []) ts rest are in
          single (k.Name n) m.us rest (λ xs. Are (at_level 12 (printed x)) ts (m.t ∷ xs) → Reads l (node q (ek.NullMember x (al.named r n))) ts rest) m.behind (λ t has front.
          let i = inner.reads ts (m.t ∷ t ∷ rest) front in
          record {
            place = i.place;
            tree = node i.place (ek.NullMember i.tree (ident t n));
            spelled = g.null_member l n i.place m.t t ts rest i.tree low i.spelled m.is has;
            alike = al.expression q i.place _ _ (al.null_member n r t.place x i.tree i.alike);
          }) m.front;
    }

pub null_member_again : (q r : Place) (a : Expr) (n : List ℕ) → IsLexeme (k.Name n) → ExprAgain a → ExprAgain (node q (ek.NullMember a (al.named r n)))
null_member_again q r x n is h = made q (ek.NullMember x (al.named r n)) _ (law.expr_null_member x (al.named r n)) (null_member_form q r x n is h)

index_form : (q : Place) (a b : Expr) → ExprAgain a → ExprAgain b → Again (node q (ek.Index a b)) (p.index (printed a) (printed b))
unfolding p.index
index_form q x y h i =
    let left = at 13 x (printed x) h in
    let inner = all y i in
    record {
      code = up_to _ s.OpenSquare _ refl left.code (up_to _ s.CloseSquare _ refl inner.code c.none);
      reads = λ l ts rest low are.
          let m = middle _ (k.Sign s.OpenSquare) _ ts rest are in
          let e = ended _ (k.Sign s.CloseSquare) m.us rest m.behind in
          let one = left.reads ts (m.t ∷ m.us) m.front in
          let two = inner.reads m.us (e.t ∷ rest) e.front in
          record {
            place = one.place;
            tree = node one.place (ek.Index one.tree two.tree);
            spelled = g.index l one.place two.place m.t e.t ts m.us rest one.tree two.tree low one.spelled m.is two.spelled e.is;
            alike = al.expression q one.place _ _ (al.index x one.tree y two.tree one.alike two.alike);
          };
    }

pub index_again : (q : Place) (a b : Expr) → ExprAgain a → ExprAgain b → ExprAgain (node q (ek.Index a b))
index_again q x y h i = made q (ek.Index x y) _ (law.expr_index x y) (index_form q x y h i)

static_is : (owner : StaticType) → static_type (static_word owner) ≡ Some owner
unfolding static_type static_word
static_is sy.Int = refl
static_is _ = refl

static_form : (q r : Place) (owner : StaticType) (n : List ℕ) → IsLexeme (k.Name n) → Again (node q (ek.Static owner (al.named r n))) (p.static_member owner n)
unfolding p.static_member
static_form q r owner n is = record {
  code = worded (static_word owner) _ (signed s.Dot _ refl (named n [] is c.none));
  reads = λ l ts rest low are. first (k.Word (static_word owner)) _ ts rest (λ xs. Reads l (node q (ek.Static owner (al.named r n))) xs rest) are (λ t us has more.
      first (k.Sign s.Dot) _ us rest (λ xs. Reads l (node q (ek.Static owner (al.named r n))) (t ∷ xs) rest) more (λ d vs dot others.
      single (k.Name n) vs rest (λ xs. Reads l (node q (ek.Static owner (al.named r n))) (t ∷ d ∷ xs) rest) others (λ m named_so. record {
        place = t.place;
        tree = node t.place (ek.Static owner (ident m n));
        spelled = g.static l (static_word owner) owner n t d m rest has (static_is owner) dot named_so;
        alike = al.expression q t.place _ _ (al.static owner n r m.place);
      })));
}

pub static_again : (q r : Place) (owner : StaticType) (n : List ℕ) → IsLexeme (k.Name n) → ExprAgain (node q (ek.Static owner (al.named r n)))
static_again q r owner n is = made q (ek.Static owner (al.named r n)) _ (law.expr_static owner (al.named r n)) (static_form q r owner n is)
