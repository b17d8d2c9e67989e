-- Members that break no rule: their bodies, their names, and the code of methods.
use Rattle.std.proofs.Common.{◌≡◌, ℕ, suc, ◌+◌, ◌≤◌, List, [], ◌∷◌, ◌++◌, map, reverse, refl, sym, ap, subst, ◌∙◌, ◌⊎◌, inl, inr, arith}
use Rattle.std.proofs.lemmas.List.{append_assoc, reverse-append}
use Rattle.std.specs.Prelude.{Bool, true, false, not, ◌&&◌, is_some, slice_get, if◌then◌else◌, Option, Some, None, bytes_eq}
use Rattle.std.specs.List.{flat_map}
use Rattle.text_core.specs.declared.place.Place.{Place}
use Rattle.cs_ast.specs.declared.code.Code.{Code}
use Rattle.cs_ast.specs.declared.cs_type.CsType.{CsType}
use Rattle.cs_ast.specs.declared.cs_type.CsType.TheVariants as t
use Rattle.cs_ast.specs.declared.cs_type.TypeExpr.{TypeExpr}
use Rattle.cs_ast.specs.declared.expression.Body.{Body, Body-F, out-Body}
use Rattle.cs_ast.specs.declared.expression.Body.TheVariants as bo
use Rattle.cs_ast.specs.declared.expression.Expr.{Expr}
use Rattle.cs_ast.specs.declared.expression.Stmt.{Stmt}
use Rattle.cs_ast.specs.declared.identifier.Ident.{Ident}
use Rattle.cs_ast.specs.declared.member.Argument.{Argument}
use Rattle.cs_ast.specs.declared.member.Member.{Member}
use Rattle.cs_ast.specs.declared.member.MemberKind.{MemberKind}
use Rattle.cs_ast.specs.declared.member.MemberKind.TheVariants.{Field, Parameter, Method, Getter, RecordDef}
use Rattle.cs_ast.specs.declared.scope.Named.{Named}
use Rattle.cs_ast.specs.declared.scope.NameKind.TheVariants as kind
use Rattle.cs_ast.specs.declared.scope.Scope.{Scope}
use Rattle.cs_rules.specs.declared.rule.Rule.TheVariants.{MissingReturn, DuplicateName}
use Rattle.cs_rules.specs.Judged.{fine}
use Rattle.cs_rules.specs.Names.{first_named, is_local, locals_in, meant, with_local}
use Rattle.cs_rules.specs.Written.{type_of, Declared, record_named}
use Rattle.cs_forbidden.specs.declared.forbidden.Forbidden.{Forbidden}
use Rattle.cs_forbidden.specs.Roots.{nothing}
use Rattle.cs_typing.specs.Types.{Signature, Types}
use Rattle.cs_typing.specs.Expressions.{Surroundings, arguments_or_one}
use Rattle.cs_accepted.specs.Programs.{AcceptedAs}
use Rattle.cs_accepted.specs.Scopes.{MethodHas, NameFits, ScopeFits, record_type}
use Rattle.cs_accepted.specs.Scopes as scope
use Rattle.cs_accepted.proofs.ScopeLemmas.{with_local_fits}
use Rattle.razor_rules.specs.Findings.{found, broken_unless}
use Rattle.razor_rules.specs.Bodies.{judged_body, reaches_end}
use Rattle.razor_rules.specs.Declarations.{result_rules, lifecycle_rule, is_empty, forbidden_in, body_rules, method_rules, member_rules}
use Rattle.razor_rules.specs.Elements.{field_or, field_from}
use Rattle.razor_rules.specs.Members.{Before, none_before, and_this, named, names_behind, result_type}
use Rattle.razor_rules.specs.Names.{repeated}
use Rattle.razor_rules.specs.Scopes.{Home, member_scope, with_locals, with_arguments, with_result}
use Rattle.razor_rules.specs.WrittenTypes.{argument_type}
use Rattle.page_meaning.specs.Bodies.{method_code, method_signature, method_body, member_body, member_bodies}
use Rattle.page_meaning.specs.Placed.{Placed, body}
use Rattle.page_meaning.specs.ProgramTypes.{field_of, parameter_of, body_signature}
use Rattle.page_meaning.specs.Resolved.{placing, behind_placed, judged, put, ◌>>=◌}
use Rattle.page_typing.specs.Formed.{NoJumps, MethodFormed, MethodsFormed}
use Rattle.page_typing.specs.Homes.{surroundings, MethodFits, MethodsFit}
use Rattle.page_typing.specs.Narrowing.{Follows, Both}
use Rattle.page_typing.proofs.NarrowLambdas.{body_follows, judged_accepts}
use Rattle.page_typing.proofs.ProgramNumbers.{From, behind_entry, signature_first}
use Rattle.page_typing.proofs.TemplateValues.{found_nothing, no_first, no_second, narrows_self}

-- a method that breaks no rule
abbrev pub Judges : Home → Option TypeExpr → List Argument → Body → Type 0
Judges home result arguments of = (code : Code) × (method_code home result arguments of ≡ fine code) × ((result_type result ≡ t.Nothing) ⊎ (reaches_end of ≡ false))

abbrev pub MethodJudged : Home → MemberKind → Type 0
MethodJudged home (Method result name arguments of) = Judges home result arguments of
MethodJudged home (Getter result name value) = Judges home (Some result) [] (bo.Value value)
MethodJudged home (Field cs_type name initial) = Unit {0}
MethodJudged home (Parameter cascading source cs_type name initial) = Unit {0}
MethodJudged home (RecordDef name parts) = Unit {0}

abbrev pub MethodsJudged : Home → List Member → Type 0
MethodsJudged home [] = Unit {0}
MethodsJudged home (one ∷ others) = MethodJudged home one.kind × MethodsJudged home others

module _ (home : Home) (invoking : List ℕ) (circular : List ℕ → Bool) where
  no_end : (result : Option TypeExpr) (of : Body) (place : Place) → broken_unless (not (is_some result && reaches_end of)) MissingReturn place ≡ [] → (result_type result ≡ t.Nothing) ⊎ (reaches_end of ≡ false)
  no_end None of place e = inl refl
  no_end (Some result) of place e = by (reaches_end of) refl e
    where
      by : (b : Bool) → reaches_end of ≡ b → broken_unless (not b) MissingReturn place ≡ [] → (result_type (Some result) ≡ t.Nothing) ⊎ (reaches_end of ≡ false)
      by true k e1 = absurd (cc)
      by false k e1 = inr k

  method_judged : (result : Option TypeExpr) (name : Ident) (arguments : List Argument) (of : Body) → method_rules home invoking circular result name arguments of ≡ [] → Judges home result arguments of
  unfolding method_rules body_rules
  method_judged result name arguments of e =
      let s : Scope = with_arguments arguments (with_result (result_type result) (member_scope home)) in
      let f : Forbidden = forbidden_in home invoking circular name.name in
      let a = result_rules home invoking circular result in
      let b = lifecycle_rule name (not (is_some result) && is_empty arguments) in
      let d = broken_unless (not (is_some result && reaches_end of)) MissingReturn name.place in
      let g = flat_map (λ (one : Argument). found (argument_type home.records one.cs_type)) arguments in
      let h = repeated DuplicateName [] (map (λ (one : Argument). one.name) arguments) in
      let k = found (judged_body f s of) in
      let none = found_nothing (judged_body f s of) (no_second (a ++ b ++ d ++ g ++ h) k e) in
      let follows : Follows Both (fine none.0) (judged_body nothing s of) = subst (λ j. Follows Both j (judged_body nothing s of)) none.1 (body_follows of f s s.names (λ deed. []) (narrows_self _ _ s.names)) in
      (follows.0, follows.1, no_end result of name.place (no_second (a ++ b) d (no_first (a ++ b ++ d) g (no_first (a ++ b ++ d ++ g) h (no_first (a ++ b ++ d ++ g ++ h) k e)))))

  member_judged : (m : MemberKind) → member_rules home invoking circular m ≡ [] → MethodJudged home m
  unfolding member_rules
  member_judged (Method result name arguments of) e = method_judged result name arguments of e
  member_judged (Getter result name value) e = method_judged (Some result) name [] (bo.Value value) e
  member_judged (Field cs_type name initial) e = tt
  member_judged (Parameter cascading source cs_type name initial) e = tt
  member_judged (RecordDef name parts) e = tt

  pub all_judged : (members : List Member) → flat_map (λ (one : Member). member_rules home invoking circular one.kind) members ≡ [] → MethodsJudged home members
  all_judged [] e = tt
  all_judged (one ∷ others) e = (member_judged one.kind (no_first (member_rules home invoking circular one.kind) _ e), all_judged others (no_second (member_rules home invoking circular one.kind) _ e))

module _ (home : Home) where
  -- the bodies of methods under their numbers
  abbrev pub entry_of : (n : ℕ) (m : MemberKind) → MethodJudged home m → List (ℕ × Placed)
  entry_of n (Method result name arguments of) j = (n, body (method_signature home result arguments) j.0) ∷ []
  entry_of n (Getter result name value) j = (n, body (method_signature home (Some result) []) j.0) ∷ []
  entry_of n (Field cs_type name initial) j = []
  entry_of n (Parameter cascading source cs_type name initial) j = []
  entry_of n (RecordDef name parts) j = []

  abbrev pub entries : (n : ℕ) (members : List Member) → MethodsJudged home members → List (ℕ × Placed)
  entries n [] j = []
  entries n (one ∷ others) j = entry_of n one.kind j.0 ++ entries (n + 1) others j.1

  method_is : (n : ℕ) (result : Option TypeExpr) (arguments : List Argument) (of : Body) (j : Judges home result arguments of) → method_body home n result arguments of ≡ fine (placing tt ((n, body (method_signature home result arguments) j.0) ∷ []))
  unfolding method_body
  method_is n result arguments of j = ap (λ k. judged k >>= λ code. put n (body (method_signature home result arguments) code)) j.1

  member_is : (n : ℕ) (m : MemberKind) (j : MethodJudged home m) → member_body home n m ≡ fine (placing tt (entry_of n m j))
  unfolding member_body
  member_is n (Method result name arguments of) j = method_is n result arguments of j
  member_is n (Getter result name value) j = method_is n (Some result) [] (bo.Value value) j
  member_is n (Field cs_type name initial) j = refl
  member_is n (Parameter cascading source cs_type name initial) j = refl
  member_is n (RecordDef name parts) j = refl

  pub members_are : (n : ℕ) (members : List Member) (j : MethodsJudged home members) → member_bodies home n members ≡ fine (placing tt (entries n members j))
  members_are n [] j = refl
  members_are n (one ∷ others) j = ap (λ z. z >>= λ first. member_bodies home (n + 1) others) (member_is n one.kind j.0) ∙ ap (behind_placed (entry_of n one.kind j.0)) (members_are (n + 1) others j.1)

append_nil : {A : Type 0} (xs : List A) → xs ≡ xs ++ []
append_nil [] = refl
append_nil (x ∷ xs) = ap (λ z. x ∷ z) (append_nil xs)

more_zero : (xs : List Named) (one : Named) → locals_in xs ≡ 0 → is_local one.kind ≡ false → locals_in (xs ++ one ∷ []) ≡ 0
more_zero [] one h k = ap (λ (b : Bool). (if b then 1 else 0) + 0) k
more_zero (x ∷ xs) one h k = by (is_local x.kind) (λ e. more_zero xs one e k) h
  where
    by : (b : Bool) → (locals_in xs ≡ 0 → locals_in (xs ++ one ∷ []) ≡ 0) → (if b then 1 else 0) + locals_in xs ≡ 0 → (if b then 1 else 0) + locals_in (xs ++ one ∷ []) ≡ 0
    by true rest e = absurd (omega (arith, e))
    by false rest e = let k : locals_in xs ≡ 0 = omega (arith, e) in let m : locals_in (xs ++ one ∷ []) ≡ 0 = rest k in omega (arith, m)

-- an expression is no block
pub no_block : (value : Expr) (statements : List Stmt) → bo.Value value ≡ bo.Block statements → ⊥
no_block value statements e = let k : Body-F.Value value ≡ Body-F.Body::Block statements = sym (bo.outs-Value value) ∙ ap out-Body e ∙ bo.outs-Block statements in absurd (cc)

module _ (home : Home) (types : Types) where
  abbrev at : Surroundings
  at = surroundings types home

  -- what the types say of a member behind these
  abbrev pub NumberedKind : Before → MemberKind → Type 0
  NumberedKind before (Field cs_type name initial) = types.fields home.position before.fields ≡ Some (type_of cs_type)
  NumberedKind before (Parameter cascading source cs_type name initial) = types.parameters home.position before.parameters ≡ Some (type_of cs_type)
  NumberedKind before (Method result name arguments of) = MethodHas at (map (λ one. type_of one.cs_type) arguments) (result_type result) (home.first + before.members)
  NumberedKind before (Getter result name value) = MethodHas at [] (type_of result) (home.first + before.members)
  NumberedKind before (RecordDef name parts) = Unit {0}

  abbrev pub Numbered : Before → List Member → Type 0
  Numbered before [] = Unit {0}
  Numbered before (one ∷ others) = NumberedKind before one.kind × Numbered (and_this one.kind before) others

  -- the fields and parameters from a number on are those of these members
  pub record Declares (before : Before) (members : List Member) : Type 0 where
    pub fields : (i : ℕ) → types.fields home.position (before.fields + i) ≡ slice_get (flat_map (λ (one : Member). field_of one.kind) members) i
    pub parameters : (i : ℕ) → types.parameters home.position (before.parameters + i) ≡ slice_get (flat_map (λ (one : Member). parameter_of one.kind) members) i

  from_higher : (low high : ℕ) (xs : List (ℕ × Placed)) → low ≤ high → From types low xs → From types high xs
  from_higher low high xs h f = record { bodies = λ n k. f.bodies n (omega (arith, h, k)); templates = λ n k. f.templates n (omega (arith, h, k)) }

  method_has : (n : ℕ) (number : ℕ) (takes : List CsType) (type : CsType) (s : Signature) (code : Code) (rest : List (ℕ × Placed)) → n ≡ number → From types n ((n, body s code) ∷ rest) → s.component ≡ home.position → s.locals ≡ arguments_or_one takes → s.result ≡ type → MethodHas at takes type number
  method_has n number takes type s code rest is f own locals gives =
      record { body = s; numbered = ap types.bodies (sym is) ∙ f.bodies n (omega arith) ∙ signature_first body_signature (n, body s code) rest; own = own; takes_them = locals; gives_it = gives }

  kind_numbered : (n : ℕ) (before : Before) (m : MemberKind) (place : Place) (others : List Member) (j : MethodJudged home m) (rest : List (ℕ × Placed)) → n ≡ home.first + before.members → Declares before (record { place = place; kind = m } ∷ others) → From types n (entry_of home n m j ++ rest)
      → NumberedKind before m × Declares (and_this m before) others × From types (n + 1) rest
  unfolding and_this
  kind_numbered n before (Field cs_type name initial) place others j rest is d f = (
    ap (types.fields home.position) (omega arith) ∙ d.fields 0,
    record { fields = λ i. ap (types.fields home.position) (omega arith) ∙ d.fields (suc i); parameters = d.parameters },
    from_higher n (n + 1) rest (omega arith) f,
  )
  kind_numbered n before (Parameter cascading source cs_type name initial) place others j rest is d f = (
    ap (types.parameters home.position) (omega arith) ∙ d.parameters 0,
    record { fields = d.fields; parameters = λ i. ap (types.parameters home.position) (omega arith) ∙ d.parameters (suc i) },
    from_higher n (n + 1) rest (omega arith) f,
  )
  kind_numbered n before (Method result name arguments of) place others j rest is d f = (
    method_has n (home.first + before.members) (map (λ (one : Argument). type_of one.cs_type) arguments) (result_type result) (method_signature home result arguments) j.0 rest is f refl refl refl,
    record { fields = d.fields; parameters = d.parameters },
    behind_entry types n (n, body (method_signature home result arguments) j.0) rest (omega arith) f,
  )
  kind_numbered n before (Getter result name value) place others j rest is d f = (
    method_has n (home.first + before.members) [] (type_of result) (method_signature home (Some result) []) j.0 rest is f refl refl refl,
    record { fields = d.fields; parameters = d.parameters },
    behind_entry types n (n, body (method_signature home (Some result) []) j.0) rest (omega arith) f,
  )
  kind_numbered n before (RecordDef name parts) place others j rest is d f =
      (tt, record { fields = d.fields; parameters = d.parameters }, from_higher n (n + 1) rest (omega arith) f)

  pub numbered : (n : ℕ) (before : Before) (members : List Member) (j : MethodsJudged home members) (rest : List (ℕ × Placed)) → n ≡ home.first + before.members → Declares before members → From types n (entries home n members j ++ rest) → Numbered before members
  unfolding and_this
  numbered n before [] j rest is d f = tt
  numbered n before (one ∷ others) j rest is d f =
      let k = kind_numbered n before one.kind one.place others j.0 (entries home (n + 1) others j.1 ++ rest) is d (subst (λ xs. From types n xs) (append_assoc (entry_of home n one.kind j.0) (entries home (n + 1) others j.1) rest) f) in
      (k.0, numbered (n + 1) (and_this one.kind before) others j.1 rest (next_number n before one.kind is) k.1 k.2)
    where
      next_number : (n1 : ℕ) (before1 : Before) (m : MemberKind) → n1 ≡ home.first + before1.members → n1 + 1 ≡ home.first + (and_this m before1).members
      next_number n1 before1 (Field cs_type name initial) e = omega (arith, e)
      next_number n1 before1 (Parameter cascading source cs_type name initial) e = omega (arith, e)
      next_number n1 before1 (Method result name arguments of) e = omega (arith, e)
      next_number n1 before1 (Getter result name value) e = omega (arith, e)
      next_number n1 before1 (RecordDef name parts) e = omega (arith, e)

  -- what a member's name means, or one behind it
  one_named : (name : List ℕ) (here : Named) (rest : List Named) (one : Named) → first_named name (here ∷ rest) ≡ Some one → NameFits at [] here.cs_type here.place here.kind → (first_named name rest ≡ Some one → NameFits at [] one.cs_type one.place one.kind) → NameFits at [] one.cs_type one.place one.kind
  one_named name here rest one e h further = by (bytes_eq here.name name) e
    where
      by : (b : Bool) → (if b then Some here else first_named name rest) ≡ Some one → NameFits at [] one.cs_type one.place one.kind
      by true e1 = let same : here ≡ one = cc in subst (λ (z : Named). NameFits at [] z.cs_type z.place z.kind) same h
      by false e1 = further e1

  kind_named : (name : List ℕ) (before : Before) (m : MemberKind) (rest : List Named) (one : Named) → NumberedKind before m → first_named name (reverse (named home.first before m) ++ rest) ≡ Some one → (first_named name rest ≡ Some one → NameFits at [] one.cs_type one.place one.kind) → NameFits at [] one.cs_type one.place one.kind
  unfolding named
  kind_named name before (Field cs_type it initial) rest one h e further = one_named name (record { name = it.name; cs_type = type_of cs_type; kind = kind.Field; place = before.fields }) rest one e (scope.field h) further
  kind_named name before (Parameter cascading source cs_type it initial) rest one h e further = one_named name (record { name = it.name; cs_type = type_of cs_type; kind = kind.Parameter; place = before.parameters }) rest one e (scope.parameter h) further
  kind_named name before (Method result it arguments of) rest one h e further =
      one_named name (record { name = it.name; cs_type = result_type result; kind = kind.Method (map (λ (z : Argument). type_of z.cs_type) arguments); place = home.first + before.members }) rest one e (scope.method (map (λ (z : Argument). type_of z.cs_type) arguments) h) further
  kind_named name before (Getter result it value) rest one h e further = one_named name (record { name = it.name; cs_type = type_of result; kind = kind.Getter; place = home.first + before.members }) rest one e (scope.getter h) further
  kind_named name before (RecordDef it parts) rest one h e further = further e

  names_fit : (name : List ℕ) (before : Before) (members : List Member) (one : Named) → Numbered before members → first_named name (reverse (names_behind home.first before members)) ≡ Some one → NameFits at [] one.cs_type one.place one.kind
  names_fit name before [] one h e = absurd (cc)
  names_fit name before (m ∷ others) one h e =
      kind_named name before m.kind (reverse (names_behind home.first (and_this m.kind before) others)) one h.0
      (sym (ap (first_named name) (reverse-append (names_behind home.first (and_this m.kind before) others) (named home.first before m.kind))) ∙ e)
      (λ e1. names_fit name (and_this m.kind before) others one h.1 e1)

  -- members are no locals
  named_count : (before : Before) (m : MemberKind) (xs : List Named) → locals_in xs ≡ 0 → locals_in (xs ++ named home.first before m) ≡ 0
  unfolding named
  named_count before (Field cs_type it initial) xs h = more_zero xs (record { name = it.name; cs_type = type_of cs_type; kind = kind.Field; place = before.fields }) h refl
  named_count before (Parameter cascading source cs_type it initial) xs h = more_zero xs (record { name = it.name; cs_type = type_of cs_type; kind = kind.Parameter; place = before.parameters }) h refl
  named_count before (Method result it arguments of) xs h = more_zero xs (record { name = it.name; cs_type = result_type result; kind = kind.Method (map (λ (z : Argument). type_of z.cs_type) arguments); place = home.first + before.members }) h refl
  named_count before (Getter result it value) xs h = more_zero xs (record { name = it.name; cs_type = type_of result; kind = kind.Getter; place = home.first + before.members }) h refl
  named_count before (RecordDef it parts) xs h = sym (ap locals_in (append_nil xs)) ∙ h

  pub names_count : (before : Before) (members : List Member) → locals_in (names_behind home.first before members) ≡ 0
  names_count before [] = refl
  names_count before (one ∷ others) = named_count before one.kind (names_behind home.first (and_this one.kind before) others) (names_count (and_this one.kind before) others)

  pub members_fit : Numbered none_before home.members → ((name : List ℕ) (it : Declared) → record_named home.records name ≡ Some it → types.records name ≡ Some (record_type it)) → ScopeFits at [] (member_scope home)
  unfolding meant
  members_fit h records =
      record {
        names = λ name one e. names_fit name none_before home.members one h e;
        count = names_count none_before home.members;
        records = records;
      }

  -- the first field of a name
  kind_field : (name : List ℕ) (before : Before) (m : MemberKind) (found1 : ℕ × CsType) (further : ℕ → Option (ℕ × CsType)) → NumberedKind before m → field_or name m before.fields further ≡ Some found1 → (further (and_this m before).fields ≡ Some found1 → types.fields home.position found1.0 ≡ Some found1.1) → types.fields home.position found1.0 ≡ Some found1.1
  unfolding and_this
  kind_field name before (Field cs_type it initial) found1 further h e rest = by (bytes_eq it.name name) e
    where
      by : (b : Bool) → (if b then Some (before.fields, type_of cs_type) else further (before.fields + 1)) ≡ Some found1 → types.fields home.position found1.0 ≡ Some found1.1
      by true e1 = let same : (before.fields, type_of cs_type) ≡ found1 = cc in subst (λ (z : ℕ × CsType). types.fields home.position z.0 ≡ Some z.1) same h
      by false e1 = rest e1
  kind_field name before (Parameter cascading source cs_type it initial) found1 further h e rest = rest e
  kind_field name before (Method result it arguments of) found1 further h e rest = rest e
  kind_field name before (Getter result it value) found1 further h e rest = rest e
  kind_field name before (RecordDef it parts) found1 further h e rest = rest e

  pub field_found : (name : List ℕ) (before : Before) (members : List Member) (found1 : ℕ × CsType) → Numbered before members → field_from members name before.fields ≡ Some found1 → types.fields home.position found1.0 ≡ Some found1.1
  field_found name before [] found1 h e = absurd (cc)
  field_found name before (one ∷ others) found1 h e = kind_field name before one.kind found1 (field_from others name) h.0 e (λ e1. field_found name (and_this one.kind before) others found1 h.1 e1)

  -- the scope in the body of a method
  locals_fit : (arguments : List Argument) (s : Scope) (locals : List CsType) → ScopeFits at locals s → ScopeFits at (locals ++ map (λ (one : Argument). type_of one.cs_type) arguments) (with_locals arguments s)
  locals_fit [] s locals h = subst (λ z. ScopeFits at z s) (append_nil locals) h
  locals_fit (one ∷ others) s locals h =
      subst (λ z. ScopeFits at z (with_locals (one ∷ others) s)) (append_assoc locals (type_of one.cs_type ∷ []) (map (λ (z : Argument). type_of z.cs_type) others))
      (locals_fit others (with_local s one.name.name (type_of one.cs_type)) (locals ++ type_of one.cs_type ∷ []) (with_local_fits at locals s one.name.name (type_of one.cs_type) h))

  arguments_fit : (arguments : List Argument) (s : Scope) → ScopeFits at [] s → ScopeFits at (arguments_or_one (map (λ (one : Argument). type_of one.cs_type) arguments)) (with_arguments arguments s)
  arguments_fit [] s h = with_local_fits at [] s [] t.Nothing h
  arguments_fit (one ∷ others) s h = locals_fit (one ∷ others) s [] h

  result_of_locals : (arguments : List Argument) (s : Scope) → (with_locals arguments s).result ≡ s.result
  unfolding with_local
  result_of_locals [] s = refl
  result_of_locals (one ∷ others) s = result_of_locals others (with_local s one.name.name (type_of one.cs_type))

  result_of_arguments : (arguments : List Argument) (s : Scope) → (with_arguments arguments s).result ≡ s.result
  unfolding with_local
  result_of_arguments [] s = refl
  result_of_arguments (one ∷ others) s = result_of_locals (one ∷ others) s

  pub method_fits : (result : Option TypeExpr) (arguments : List Argument) (of : Body) (j : Judges home result arguments of) → ScopeFits at [] (member_scope home) → NoJumps of → AcceptedAs types (method_signature home result arguments) j.0
  method_fits result arguments of j fits jumps =
      let s : Scope = with_result (result_type result) (member_scope home) in
      let inner : ScopeFits at [] s = record { names = fits.names; count = fits.count; records = fits.records } in
      let result_is : (with_arguments arguments s).result ≡ result_type result = result_of_arguments arguments s in
      record {
        scope = with_arguments arguments s;
        tree = of;
        accepts = judged_accepts (with_arguments arguments s) of j.0 j.1 jumps (subst (λ z. (z ≡ t.Nothing) ⊎ (reaches_end of ≡ false)) (sym result_is) j.2);
        scope_fits = arguments_fit arguments s inner;
        result_is = result_is;
      }

  kind_fits : (m : MemberKind) → MethodJudged home m → MethodFormed m → ScopeFits at [] (member_scope home) → MethodFits types home m
  kind_fits (Method result name arguments of) j jumps fits = (j.0, j.1, method_fits result arguments of j fits jumps)
  kind_fits (Getter result name value) j jumps fits = (j.0, j.1, method_fits (Some result) [] (bo.Value value) j fits (λ statements e. absurd (no_block value statements e)))
  kind_fits (Field cs_type name initial) j jumps fits = tt
  kind_fits (Parameter cascading source cs_type name initial) j jumps fits = tt
  kind_fits (RecordDef name parts) j jumps fits = tt

  pub methods_fit : (members : List Member) → MethodsJudged home members → MethodsFormed members → ScopeFits at [] (member_scope home) → MethodsFit types home members
  methods_fit [] j jumps fits = tt
  methods_fit (one ∷ others) j jumps fits = (kind_fits one.kind j.0 jumps.0 fits, methods_fit others j.1 jumps.1 fits)
