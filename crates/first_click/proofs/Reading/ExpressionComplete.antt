-- The expression that is spelled is read.
use Rattle.std.proofs.Common.{◌≡◌, ℕ, ◌+◌, ◌-◌, ◌<◌, ◌≤◌, Bool, false, cond, List, [], ◌∷◌, ◌++◌, length, Some, None, refl, ap, sym, ◌∙◌, subst, arith, append_assoc, inl, inr, length-append}
use Rattle.std.specs.Prelude.{codes}
use Rattle.std.specs.declared.option.Option.{Option}
use Rattle.std.specs.Str.{bytes_eq}
use Rattle.std.specs.Cmp.Lexicographic.{bytes_decides}
use Rattle.std.proofs.lemmas.Bool.{cases_Bool, le-leb, lt-leb}
use Rattle.cs_ast.specs.declared.code.Code.{Code}
use Rattle.cs_ast.specs.declared.code.Code.TheVariants as code
use Rattle.cs_ast.specs.declared.operators.BinaryOp.{BinaryOp}
use Rattle.first_click.specs.declared.component.Field.{Field}
use Rattle.first_click.specs.Expressions.{Expresses, single, brackets, binary, leaf, operator, tightness}
use Rattle.first_click.specs.Options.{◌>>=◌}
use Rattle.first_click.specs.Reading.Expressions.{Read, within, behind_token, expression_in, operations_in}
use Rattle.first_click.specs.Reading.Expressions as r
use Rattle.first_click.proofs.OptionLemmas.{some_none}
use Rattle.first_click.proofs.Reading.ExpressionLaws.{expression_law, operations_law}
use Rattle.first_click.proofs.Reading.ExpressionSound.{next, strength_of}

pub behind_token-again : (wanted : List ℕ) (rest : List (List ℕ)) → behind_token wanted (wanted ∷ rest) ≡ Some rest
behind_token-again wanted rest = rw ((bytes_decides wanted wanted).1 refl) refl

no_operator : operator (codes ")") ≡ None
unfolding operator
no_operator = refl

pub no_leaf : (fields : List Field) → leaf fields (codes "(") ≡ None
unfolding leaf
no_leaf fields = refl

not_bracket : (fields : List Field) (token : List ℕ) (e : Code) → leaf fields token ≡ Some e → bytes_eq token (codes "(") ≡ false
not_bracket fields token e is = elim (cases_Bool (bytes_eq token (codes "("))) [
  | inl same ↦
      let is_bracket : token ≡ codes "(" = (bytes_decides token (codes "(")).0 same in
      absurd (some_none e (sym is ∙ ap (leaf fields) is_bracket ∙ no_leaf fields))
  | inr other ↦ other
]

module _ (fields : List Field) where
  -- reading goes on with the expression behind its tokens
  record Reached (n m : ℕ) (tokens : List (List ℕ)) (a : Code) (rest : List (List ℕ)) : Type 0 where
    left : ℕ
    enough : length rest < left
    same : expression_in fields n m tokens ≡ operations_in fields left m a rest

  record Completes (l : ℕ) (tokens : List (List ℕ)) (a : Code) : Type 0 where
    by : (n m : ℕ) (rest : List (List ℕ)) → m ≤ l → next rest ≤ l + 1 → length (tokens ++ rest) < n → Reached n m (tokens ++ rest) a rest

  joined-stops : (n m : ℕ) (a : Code) (o : Option BinaryOp) (token : List ℕ) (tokens : List (List ℕ)) → strength_of o ≤ m
      → r.joined fields (within fields n) m a o token tokens ≡ Some (a, token ∷ tokens)
  joined-stops n m a None token tokens s = refl
  joined-stops n m a (Some o) token tokens s = rw (lt-leb m (tightness o) (omega arith)) refl

  stops : (n m : ℕ) (a : Code) (rest : List (List ℕ)) → 0 < n → next rest ≤ m → operations_in fields n m a rest ≡ Some (a, rest)
  stops n m a [] h s = operations_law fields n m a [] h
  stops n m a (token ∷ tokens) h s = operations_law fields n m a (token ∷ tokens) h ∙ joined-stops (n - 1) m a (operator token) token tokens s

  goes : (n m : ℕ) (a : Code) (o : BinaryOp) (token : List ℕ) (tokens : List (List ℕ)) → 0 < n → operator token ≡ Some o → m ≤ tightness o
      → operations_in fields n m a (token ∷ tokens) ≡ r.binary fields (within fields (n - 1)) m a o tokens
  goes n m a o token tokens h is low =
      operations_law fields n m a (token ∷ tokens) h
      ∙ ap (λ (x : Option BinaryOp). r.joined fields (within fields (n - 1)) m a x token tokens) is
      ∙ ap (λ (d : Bool). cond d (r.binary fields (within fields (n - 1)) m a o tokens) (Some (a, token ∷ tokens))) (le-leb m (tightness o) low)

  start : (n m : ℕ) (token : List ℕ) (tokens : List (List ℕ)) (a : Code) (rest : List (List ℕ)) → 0 < n → r.operand fields (within fields (n - 1)) token tokens ≡ Some (a, rest)
      → expression_in fields n m (token ∷ tokens) ≡ operations_in fields (n - 1) m a rest
  start n m token tokens a rest h e =
      expression_law fields n m (token ∷ tokens) h ∙ ap (λ (o : Read Code). o >>= λ x. operations_in fields (n - 1) m x.0 x.1) e

  -- all that is read of a level is the expression
  finish : (n m : ℕ) (tokens : List (List ℕ)) (a : Code) (rest : List (List ℕ)) → Reached n m tokens a rest → next rest ≤ m → expression_in fields n m tokens ≡ Some (a, rest)
  finish n m tokens a rest x s = x.same ∙ stops x.left m a rest (omega (arith, x.enough)) s

  regrouped : (n m : ℕ) (a : Code) (rest x y : List (List ℕ)) → x ≡ y → Reached n m y a rest → Reached n m x a rest
  regrouped n m a rest x y e reached = subst (λ (z : List (List ℕ)). Reached n m z a rest) (sym e) reached

  single-complete : (l : ℕ) (token : List ℕ) (a : Code) → leaf fields token ≡ Some a → Completes l (token ∷ []) a
  single-complete l token a is = record {
    by = λ n m rest h free len. record {
      left = n - 1;
      enough = omega arith;
      same = start n m token rest a rest (omega arith)
          (ap (λ (d : Bool). cond d (r.bracketed fields (within fields (n - 1)) rest) (leaf fields token >>= λ a. Some (a, rest))) (not_bracket fields token a is)
          ∙ ap (λ (o : Option Code). o >>= λ a. Some (a, rest)) is);
    };
  }

  brackets-complete : (l : ℕ) (inside : List (List ℕ)) (a : Code) → Completes 0 inside a → Completes l (codes "(" ∷ (inside ++ codes ")" ∷ [])) a
  brackets-complete l inside a sub = record {
    by = λ n m rest h free len.
        let whole : codes "(" ∷ ((inside ++ codes ")" ∷ []) ++ rest) ≡ codes "(" ∷ (inside ++ codes ")" ∷ rest) =
        ap (λ (z : List (List ℕ)). codes "(" ∷ z) (append_assoc inside (codes ")" ∷ []) rest) in
        let long : length (inside ++ codes ")" ∷ rest) + 1 < n = omega (arith, len, ap length whole) in
        let closed : next (codes ")" ∷ rest) ≡ 0 = ap strength_of no_operator in
        let inner = finish (n - 1) 0 (inside ++ codes ")" ∷ rest) a (codes ")" ∷ rest) (sub.by (n - 1) 0 (codes ")" ∷ rest) (omega arith) (omega (arith, closed)) (omega (arith, long))) (omega (arith, closed)) in
        regrouped n m a rest (codes "(" ∷ ((inside ++ codes ")" ∷ []) ++ rest)) (codes "(" ∷ (inside ++ codes ")" ∷ rest)) whole (record {
          left = n - 1;
          enough = omega (arith, long, length-append inside (codes ")" ∷ rest));
          same = start n m (codes "(") (inside ++ codes ")" ∷ rest) a rest (omega (arith, long))
              (ap (λ (o : Read Code). o >>= λ x. (behind_token (codes ")") x.1 >>= λ rest. Some (x.0, rest))) inner
              ∙ ap (λ (o : Option (List (List ℕ))). o >>= λ rest. Some (a, rest)) (behind_token-again (codes ")") rest));
        });
  }

  binary-complete : (l : ℕ) (o : BinaryOp) (token : List ℕ) (left right : List (List ℕ)) (a b : Code) → l ≤ tightness o → operator token ≡ Some o → Completes (tightness o) left a
      → Completes (tightness o + 1) right b → Completes l (left ++ token ∷ right) (code.Binary o a b)
  binary-complete l o token left right a b low is first second = record {
    by = λ n m rest h free len.
        let whole : (left ++ token ∷ right) ++ rest ≡ left ++ token ∷ (right ++ rest) = append_assoc left (token ∷ right) rest in
        let strong : next (token ∷ (right ++ rest)) ≡ tightness o + 1 = ap strength_of is in
        let x = first.by n m (token ∷ (right ++ rest)) (omega arith) (omega (arith, strong)) (omega (arith, len, ap length whole)) in
        let enough = x.enough in
        let inner = finish (x.left - 1) (tightness o + 1) (right ++ rest) b rest
        (second.by (x.left - 1) (tightness o + 1) rest (omega arith) (omega arith) (omega arith)) (omega arith) in
        regrouped n m (code.Binary o a b) rest ((left ++ token ∷ right) ++ rest) (left ++ token ∷ (right ++ rest)) whole (record {
          left = x.left - 1;
          enough = omega (arith, enough, length-append right rest);
          same = x.same ∙ goes x.left m a o token (right ++ rest) (omega arith) is (omega arith)
              ∙ ap (λ (z : Read Code). z >>= λ y. operations_in fields (x.left - 1) m (code.Binary o a y.0) y.1) inner;
        });
  }

  complete : (l : ℕ) (tokens : List (List ℕ)) (a : Code) → Expresses fields l tokens a → Completes l tokens a
  complete l _ _ (single _ token a is) = single-complete l token a is
  complete l _ _ (brackets _ inside a spelled) = brackets-complete l inside a (complete 0 inside a spelled)
  complete l _ _ (binary _ o token left right a b low is x y) =
      binary-complete l o token left right a b low is (complete (tightness o) left a x) (complete (tightness o + 1) right b y)

  pub expression_in-complete : (inside : List (List ℕ)) (a : Code) (rest : List (List ℕ)) → Expresses fields 0 inside a → next rest ≡ 0
      → expression_in fields (length (inside ++ rest) + 1) 0 (inside ++ rest) ≡ Some (a, rest)
  expression_in-complete inside a rest spelled end =
      let n = length (inside ++ rest) + 1 in
      finish n 0 (inside ++ rest) a rest ((complete 0 inside a spelled).by n 0 rest (omega arith) (omega (arith, end)) (omega arith)) (omega (arith, end))
