-- Statements and methods: what was read is spelled, and what is spelled is read.
use Rattle.std.proofs.Common.{◌≡◌, ℕ, ◌+◌, ◌<◌, ◌≤◌, Bool, true, false, cond, List, [], ◌∷◌, ◌++◌, length, map, take, drop, get_or, Some, None, refl, ap, sym, ◌∙◌, subst, arith, inl, inr, length-append, append-nil}
use Rattle.std.specs.Prelude.{codes}
use Rattle.std.specs.declared.option.Option.{Option}
use Rattle.std.specs.Str.{bytes_eq}
use Rattle.std.specs.Cmp.Lexicographic.{bytes_decides}
use Rattle.std.proofs.lemmas.Bool.{cases_Bool}
use Rattle.std.proofs.lemmas.List.{map-append}
use Rattle.cs_ast.specs.declared.code.Code.{Code}
use Rattle.cs_ast.specs.declared.operators.StepOp.{StepOp}
use Rattle.first_click.specs.declared.component.Field.{Field}
use Rattle.first_click.specs.declared.component.Method.{Method}
use Rattle.first_click.specs.declared.members.Member as declared
use Rattle.first_click.specs.Expressions.{Expresses, field_number, operator}
use Rattle.first_click.specs.Members.{Member, field, method}
use Rattle.first_click.specs.Options.{◌>>=◌}
use Rattle.first_click.specs.Reading.Expressions.{Read, behind_token, expression_in}
use Rattle.first_click.specs.Reading.Statements.{assignment_at, step_at, statement_behind, statement_at}
use Rattle.first_click.specs.Reading.Views.{member_of}
use Rattle.first_click.specs.Statements.{assignment, step, step_operator, StatementStands, assigns, steps, method_of, Defines, no_more, past_field, one_more}
use Rattle.first_click.specs.Walks.{Walk}
use Rattle.first_click.proofs.ListLemmas.{take-one, around}
use Rattle.first_click.proofs.OptionLemmas.{bind_some, some_is, some_none}
use Rattle.first_click.proofs.Reading.ExpressionComplete.{behind_token-again, expression_in-complete}
use Rattle.first_click.proofs.Reading.ExpressionSound.{behind_token-some, strength_of, expression_in-sound}
use Rattle.first_click.proofs.Reading.WalkLemmas.{same_walk}

no_operator : operator (codes ";") ≡ None
unfolding operator
no_operator = refl

no_step : step_operator (codes "=") ≡ None
unfolding step_operator
no_step = refl

not_equals : (token : List ℕ) (o : StepOp) → step_operator token ≡ Some o → bytes_eq token (codes "=") ≡ false
not_equals token o is = elim (cases_Bool (bytes_eq token (codes "="))) [
  | inl same ↦
      let equals : token ≡ codes "=" = (bytes_decides token (codes "=")).0 same in
      absurd (some_none o (sym is ∙ ap step_operator equals ∙ no_step))
  | inr other ↦ other
]

module _ (fields : List Field) where
  -- what was read stands there

  assignment-some : (name : List ℕ) (k : ℕ) (tokens : List (List ℕ)) (s : Code) (rest : List (List ℕ)) → field_number fields name ≡ Some k → assignment_at fields k tokens ≡ Some (s, rest)
      → StatementStands fields (name ∷ codes "=" ∷ tokens) s rest
  unfolding assignment_at
  assignment-some name k tokens s rest is e =
      let want : Code × List (List ℕ) = (s, rest) in
      let x = bind_some (expression_in fields (length tokens + 1) 0 tokens) (λ e. behind_token (codes ";") e.1 >>= λ rest. Some (assignment k e.0, rest)) want e in
      let y = bind_some (behind_token (codes ";") x.0.1) (λ rest. Some (assignment k x.0.0, rest)) want x.2 in
      let made : Code × List (List ℕ) = (assignment k x.0.0, y.0) in
      let inside = expression_in-sound fields (length tokens + 1) tokens x.0.0 x.0.1 x.1 in
      let laid : tokens ≡ inside.pre ++ codes ";" ∷ y.0 = inside.whole ∙ ap (λ (z : List (List ℕ)). inside.pre ++ z) (behind_token-some (codes ";") x.0.1 y.0 y.1) in
      subst (λ (z : Code × List (List ℕ)). StatementStands fields (name ∷ codes "=" ∷ tokens) z.0 z.1) (some_is made want y.2)
      (subst (λ (z : List (List ℕ)). StatementStands fields (name ∷ codes "=" ∷ z) (assignment k x.0.0) y.0) (sym laid)
      (assigns name k inside.pre y.0 x.0.0 is inside.spelled))

  step-some : (name : List ℕ) (k : ℕ) (token : List ℕ) (tokens : List (List ℕ)) (s : Code) (rest : List (List ℕ)) → field_number fields name ≡ Some k → step_at k token tokens ≡ Some (s, rest)
      → StatementStands fields (name ∷ token ∷ tokens) s rest
  unfolding step_at
  step-some name k token tokens s rest is e =
      let want : Code × List (List ℕ) = (s, rest) in
      let o = bind_some (step_operator token) (λ o. behind_token (codes ";") tokens >>= λ rest. Some (step k o, rest)) want e in
      let y = bind_some (behind_token (codes ";") tokens) (λ rest. Some (step k o.0, rest)) want o.2 in
      let made : Code × List (List ℕ) = (step k o.0, y.0) in
      subst (λ (z : Code × List (List ℕ)). StatementStands fields (name ∷ token ∷ tokens) z.0 z.1) (some_is made want y.2)
      (subst (λ (z : List (List ℕ)). StatementStands fields (name ∷ token ∷ z) (step k o.0) y.0) (sym (behind_token-some (codes ";") tokens y.0 y.1))
      (steps name k token o.0 y.0 is o.1))

  goes-some : (d : Bool) (name : List ℕ) (k : ℕ) (token : List ℕ) (tokens : List (List ℕ)) (s : Code) (rest : List (List ℕ)) → bytes_eq token (codes "=") ≡ d → field_number fields name ≡ Some k
      → cond d (assignment_at fields k tokens) (step_at k token tokens) ≡ Some (s, rest) → StatementStands fields (name ∷ token ∷ tokens) s rest
  goes-some true name k token tokens s rest same is e =
      let equals : token ≡ codes "=" = (bytes_decides token (codes "=")).0 same in
      subst (λ (t : List ℕ). StatementStands fields (name ∷ t ∷ tokens) s rest) (sym equals) (assignment-some name k tokens s rest is e)
  goes-some false name k token tokens s rest other is e = step-some name k token tokens s rest is e

  pub statement_at-some : (tokens : List (List ℕ)) (s : Code) (rest : List (List ℕ)) → statement_at fields tokens ≡ Some (s, rest) → StatementStands fields tokens s rest
  unfolding statement_at
  statement_at-some [] s rest e = absurd (cc)
  statement_at-some (name ∷ []) s rest e = absurd (cc)
  statement_at-some (name ∷ token ∷ tokens) s rest e =
      let k = bind_some (field_number fields name) (λ k. statement_behind fields k token tokens) (s, rest) e in
      goes-some (bytes_eq token (codes "=")) name k.0 token tokens s rest refl k.1 k.2

  -- what stands there is read

  assignment-again : (k : ℕ) (inside rest : List (List ℕ)) (e : Code) → Expresses fields 0 inside e → assignment_at fields k (inside ++ codes ";" ∷ rest) ≡ Some (assignment k e, rest)
  unfolding assignment_at
  assignment-again k inside rest e spelled =
      let read = expression_in-complete fields inside e (codes ";" ∷ rest) spelled (ap strength_of no_operator) in
      ap (λ (o : Read Code). o >>= λ x. (behind_token (codes ";") x.1 >>= λ rest. Some (assignment k x.0, rest))) read
      ∙ ap (λ (o : Option (List (List ℕ))). o >>= λ rest. Some (assignment k e, rest)) (behind_token-again (codes ";") rest)

  step-again : (k : ℕ) (token : List ℕ) (o : StepOp) (rest : List (List ℕ)) → step_operator token ≡ Some o → step_at k token (codes ";" ∷ rest) ≡ Some (step k o, rest)
  unfolding step_at
  step-again k token o rest is = rw is refl

  pub statement_at-again : (tokens : List (List ℕ)) (s : Code) (rest : List (List ℕ)) → StatementStands fields tokens s rest → statement_at fields tokens ≡ Some (s, rest)
  unfolding statement_at
  statement_at-again _ _ _ (assigns name k inside rest e is spelled) =
      ap (λ (o : Option ℕ). o >>= λ k. statement_behind fields k (codes "=") (inside ++ codes ";" ∷ rest)) is ∙ assignment-again k inside rest e spelled
  statement_at-again _ _ _ (steps name k token o rest is does) =
      ap (λ (o : Option ℕ). o >>= λ k. statement_behind fields k token (codes ";" ∷ rest)) is
      ∙ ap (λ (d : Bool). cond d (assignment_at fields k (codes ";" ∷ rest)) (step_at k token (codes ";" ∷ rest))) (not_equals token o does)
      ∙ step-again k token o rest does

  pub statement-shorter : (tokens : List (List ℕ)) (s : Code) (rest : List (List ℕ)) → StatementStands fields tokens s rest → length rest < length tokens
  statement-shorter _ _ _ (assigns name k inside rest e is spelled) = omega (arith, length-append inside (codes ";" ∷ rest))
  statement-shorter _ _ _ (steps name k token o rest is does) = omega arith

  no_statement : statement_at fields [] ≡ None
  unfolding statement_at
  no_statement = refl

  -- tokens are one list of statements at most
  one_body : (tokens : List (List ℕ)) (a b : List Code) → Walk (StatementStands fields) tokens a [] → Walk (StatementStands fields) tokens b [] → a ≡ b
  one_body tokens a b x y = (same_walk (StatementStands fields) (statement_at fields) statement_at-again tokens [] [] a b x y no_statement no_statement).things

  -- none, where other tokens are left
  pub not_statements : (tokens rest : List (List ℕ)) (a : List Code) → Walk (StatementStands fields) tokens a rest → statement_at fields rest ≡ None → (rest ≡ [] → ⊥) → (b : List Code)
      → Walk (StatementStands fields) tokens b [] → ⊥
  not_statements tokens rest a x stop some b y =
      some (same_walk (StatementStands fields) (statement_at fields) statement_at-again tokens rest [] a b x y stop no_statement).ends

  -- methods

  pub defines-more : (ms ns : List Member) (a b : List Method) → Defines fields ms a → Defines fields ns b → Defines fields (ms ++ ns) (a ++ b)
  defines-more _ ns _ b no_more y = y
  defines-more _ ns _ b (past_field name digits ms a x) y = past_field name digits (ms ++ ns) (a ++ b) (defines-more ms ns a b x y)
  defines-more _ ns _ b (one_more name body statements ms a walk x) y =
      one_more name body statements (ms ++ ns) (a ++ b) walk (defines-more ms ns a b x y)

  pub body-defined : (ms ns : List Member) (name : List ℕ) (body : List (List ℕ)) (a : List Method) → Defines fields (ms ++ method name body ∷ ns) a
      → (statements : List Code) × Walk (StatementStands fields) body statements []
  body-defined [] ns name body _ (one_more _ _ statements _ methods walk x) = (statements, walk)
  body-defined (field other digits ∷ ms) ns name body _ (past_field _ _ _ methods x) = body-defined ms ns name body methods x
  body-defined (method other tokens ∷ ms) ns name body _ (one_more _ _ statements _ methods walk x) = body-defined ms ns name body methods x

  pub one_definition : (ms : List Member) (a b : List Method) → Defines fields ms a → Defines fields ms b → a ≡ b
  one_definition _ _ _ no_more no_more = refl
  one_definition _ _ _ (past_field name digits ms a x) (past_field _ _ _ b y) = one_definition ms a b x y
  one_definition _ _ _ (one_more name body s ms a walk x) (one_more _ _ t _ b other y) =
      ap (λ (z : List Code). method_of name z ∷ a) (one_body body s t walk other) ∙ ap (λ (z : List Method). method_of name t ∷ z) (one_definition ms a b x y)

  pub definitions-few : (ms : List Member) (a : List Method) → Defines fields ms a → length a ≤ length ms
  definitions-few _ _ no_more = omega arith
  definitions-few _ _ (past_field name digits ms a x) = omega (arith, definitions-few ms a x)
  definitions-few _ _ (one_more name body statements ms a walk x) = omega (arith, definitions-few ms a x)

  -- methods by the code's members

  pub defined-method : (members : List declared.Member) (i : ℕ) (m d : declared.Member) (name : List ℕ) (body : List (List ℕ)) (statements : List Code) (a : List Method) → i < length members → m ≡ get_or members i d
      → member_of m ≡ method name body → Walk (StatementStands fields) body statements [] → Defines fields (map member_of (take i members)) a
      → Defines fields (map member_of (take (i + 1) members)) (a ++ method_of name statements ∷ [])
  defined-method members i m d name body statements a within is same walk x =
      let front : map member_of (take (i + 1) members) ≡ map member_of (take i members) ++ method name body ∷ [] =
      ap (map member_of) (take-one members i m d within is) ∙ map-append member_of (take i members) (m ∷ []) ∙ ap (λ (y : Member). map member_of (take i members) ++ y ∷ []) same in
      subst (λ (y : List Member). Defines fields y (a ++ method_of name statements ∷ [])) (sym front)
      (defines-more (map member_of (take i members)) (method name body ∷ []) a (method_of name statements ∷ []) x (one_more name body statements [] [] walk no_more))

  pub passed-field : (members : List declared.Member) (i : ℕ) (m d : declared.Member) (name digits : List ℕ) (a : List Method) → i < length members → m ≡ get_or members i d
      → member_of m ≡ field name digits → Defines fields (map member_of (take i members)) a → Defines fields (map member_of (take (i + 1) members)) a
  passed-field members i m d name digits a within is same x =
      let front : map member_of (take (i + 1) members) ≡ map member_of (take i members) ++ field name digits ∷ [] =
      ap (map member_of) (take-one members i m d within is) ∙ map-append member_of (take i members) (m ∷ []) ∙ ap (λ (y : Member). map member_of (take i members) ++ y ∷ []) same in
      subst (λ (y : List Member). Defines fields y a) (sym front)
      (subst (λ (y : List Method). Defines fields (map member_of (take i members) ++ field name digits ∷ []) y) (append-nil a)
      (defines-more (map member_of (take i members)) (field name digits ∷ []) a [] x (past_field name digits [] [] no_more)))

  pub no_body : (members : List declared.Member) (i : ℕ) (m d : declared.Member) (name : List ℕ) (body : List (List ℕ)) → i < length members → m ≡ get_or members i d → member_of m ≡ method name body
      → ((statements : List Code) → Walk (StatementStands fields) body statements [] → ⊥) → (methods : List Method) → Defines fields (map member_of members) methods → ⊥
  no_body members i m d name body within is same none methods x =
      let whole : map member_of members ≡ map member_of (take i members) ++ method name body ∷ map member_of (drop (i + 1) members) =
      ap (map member_of) (sym (around members i m d within is)) ∙ map-append member_of (take i members) (m ∷ drop (i + 1) members)
      ∙ ap (λ (y : Member). map member_of (take i members) ++ y ∷ map member_of (drop (i + 1) members)) same in
      let found = body-defined (map member_of (take i members)) (map member_of (drop (i + 1) members)) name body methods (subst (λ (y : List Member). Defines fields y methods) whole x) in
      none found.0 found.1
