-- Callbacks and handlers in templates that break no rule come to code of their types, with accepted bodies.
use Rattle.std.proofs.Common.{◌≡◌, ℕ, List, [], ◌∷◌, ◌++◌, map, reverse, refl, sym, ap, subst, ◌∙◌, inl, inr}
use Rattle.std.proofs.lemmas.List.{reverse-append}
use Rattle.std.specs.Prelude.{Bool, true, false, ◌||◌, ◌+◌, is_some, if◌then◌else◌, Option, Some, None, bytes_eq}
use Rattle.text_core.specs.declared.place.Place.{Place}
use Rattle.cs_ast.specs.declared.code.Code.{Code}
use Rattle.cs_ast.specs.declared.cs_type.CsType.{CsType}
use Rattle.cs_ast.specs.declared.cs_type.CsType.TheVariants as t
use Rattle.cs_ast.specs.declared.cs_type.TypeExpr.{TypeExpr}
use Rattle.cs_ast.specs.declared.expression.Body.{Body}
use Rattle.cs_ast.specs.declared.expression.Expr.{Expr}
use Rattle.cs_ast.specs.declared.expression.ExprKind.{ExprKind-F, out-ExprKind}
use Rattle.cs_ast.specs.declared.expression.ExprKind.TheVariants as ek
use Rattle.cs_ast.specs.declared.expression.Body.TheViews.{roll-ExprKind, roll-out-ExprKind}
use Rattle.cs_ast.specs.declared.identifier.Ident.{Ident}
use Rattle.cs_ast.specs.declared.member.Argument.{Argument}
use Rattle.cs_ast.specs.declared.member.Member.{Member}
use Rattle.cs_ast.specs.declared.member.MemberKind.{MemberKind}
use Rattle.cs_ast.specs.declared.member.MemberKind.TheVariants.{Field, Parameter, Method, Getter, RecordDef}
use Rattle.cs_ast.specs.declared.scope.Named.{Named}
use Rattle.cs_ast.specs.declared.scope.NameKind.{NameKind}
use Rattle.cs_ast.specs.declared.scope.NameKind.TheVariants as kind
use Rattle.cs_ast.specs.declared.scope.Scope.{Scope}
use Rattle.cs_effects.specs.declared.deed.Deed.{Deed}
use Rattle.cs_effects.specs.Deeds.{Done, is_free, of_body}
use Rattle.cs_rules.specs.Judged.{fine, ◌>>=◌}
use Rattle.cs_rules.specs.Names.{first_named, is_new, local, meant, with_local}
use Rattle.cs_rules.specs.declared.rule.Rule.TheVariants.{TypeMismatch}
use Rattle.cs_rules.specs.Types.{fits as type_fits, wants}
use Rattle.cs_rules.specs.Written.{type_of}
use Rattle.cs_rules.proofs.SameType.{same_equal}
use Rattle.cs_forbidden.specs.declared.forbidden.Forbidden.{Forbidden}
use Rattle.cs_forbidden.specs.Roots.{nothing}
use Rattle.cs_typing.specs.Types.{Types, Signature}
use Rattle.cs_typing.specs.Values as accepts
use Rattle.cs_typing.specs.Values.{Accepts}
use Rattle.cs_typing.specs.Expressions.{Surroundings, CodeHas, LocalsAre, arguments_or_one}
use Rattle.cs_typing.specs.Expressions as code
use Rattle.cs_accepted.specs.Scopes.{ScopeFits}
use Rattle.cs_accepted.specs.Programs.{AcceptedAs}
use Rattle.cs_accepted.proofs.BodyLemmas.{accepted_as_has}
use Rattle.cs_accepted.proofs.ScopeLemmas.{with_local_fits}
use Rattle.cs_accepted.proofs.TypeLemmas.{fits_has}
use Rattle.razor_rules.specs.Bodies.{judged_body}
use Rattle.razor_rules.specs.Members.{Before, and_this, named, names_behind, result_type}
use Rattle.razor_rules.specs.Scopes.{Home, member_scope}
use Rattle.razor_rules.specs.TemplateDeeds.{reading, changing, names_in, level_does, expression_does}
use Rattle.razor_rules.specs.declared.ground.Ground.{Ground}
use Rattle.razor_rules.specs.Grounds.{forbidden_in_lambda}
use Rattle.razor_rules.specs.Values.{Level, taken_by, takes_fit, lambda_scope, value, lambda, callback_expression, callback_by_kind, callback_by_name, callback_by_level, callback}
use Rattle.page_meaning.specs.Bodies.{method_code, method_signature, method_body, method_or, named_body, last_type, lambda_signature, scope_in_lambda, lambda_code, lambda_body}
use Rattle.page_meaning.specs.Callbacks as page
use Rattle.page_meaning.specs.Callbacks.{own_callback, lambda_callback, meant_callback, named_callback, callback_level}
use Rattle.page_meaning.specs.Captures.{used, positions_of, with_captured}
use Rattle.page_meaning.specs.Placed.{body, types_of}
use Rattle.page_meaning.specs.Resolved.{Resolves, alone, put, value_code, place_at, ◌>>=◌ as ◌>>>=◌}
use Rattle.page_typing.specs.Formed.{NoJumps, LambdaFormed}
use Rattle.page_typing.specs.Homes.{surroundings, MethodFits, MethodsFit, HomeFits}
use Rattle.page_typing.specs.Narrowing.{at_names, Means, Fewer, Narrows, IsUse, Follows, Both}
use Rattle.page_typing.specs.Resolving.{Resolved}
use Rattle.page_typing.specs.TemplateScopes.{TemplateScope}
use Rattle.page_typing.specs.TemplateScopes as scope
use Rattle.page_typing.proofs.Capturing.{Captures, captures, template_fits, is_used, template_result}
use Rattle.page_typing.proofs.Following.{new_follows, means_behind, means_new, fewer_behind}
use Rattle.page_typing.proofs.NarrowLambdas.{body_follows, both_fine, judged_accepts}
use Rattle.page_typing.proofs.NarrowStatements.{none_declared, one_declared}
use Rattle.page_typing.proofs.ResolvedParts.{alone_resolved, after_judged, then_resolved, one_resolved, put_resolved, weaker_resolved}
use Rattle.page_typing.proofs.TemplateValues.{value_at, code_resolved, test_passed}

-- the deeds of a lambda are those of its body
lambda_does : (deed : Deed) (a : Expr) (name : Option Ident) (it : Body) → out-ExprKind a.kind ≡ ExprKind-F.Lambda name it → expression_does deed a ≡ of_body deed it (names_in name)
unfolding expression_does
lambda_does deed a name it is = ap (λ (l : Level). level_does deed l a) is

-- a name that isn't a method's doesn't stand for one
past : (name : List ℕ) (here : Named) (rest : List Named) (one : Named) (takes : List CsType) → first_named name (here ∷ rest) ≡ Some one → one.kind ≡ kind.Method takes → (here.kind ≡ kind.Method takes → ⊥) → first_named name rest ≡ Some one
past name here rest one takes e is differs = by (bytes_eq here.name name) e
  where
    by : (b : Bool) → (if b then Some here else first_named name rest) ≡ Some one → first_named name rest ≡ Some one
    by true e1 = let same : here ≡ one = cc in absurd (differs (ap (λ (z : Named). z.kind) same ∙ is))
    by false e1 = e1

-- behind the argument of a lambda, or one that no name stands for
module _ (names others : List Named) (name : List ℕ) (type : CsType) (does : Deed → Done) (locals : Deed → List (List ℕ)) where
  argument_narrows : ((deed : Deed) (n : List ℕ) → IsUse deed n → does deed (locals deed) ≡ true → Means names others n) → ((deed : Deed) (n : List ℕ) → is_free n (locals deed) ≡ false → bytes_eq name n ≡ true) → Fewer names others
      → (s : Scope) → s.names ≡ names → Narrows does locals (with_local s name type).names (with_local (at_names others s) name type).names
  unfolding with_local
  argument_narrows uses own fewer s is =
      subst (λ z. Narrows does locals (with_local (at_names z s) name type).names (with_local (at_names others s) name type).names) (sym is)
      (record {
        used = λ deed n u h. means_behind names others name type n (uses deed n u h);
        own = λ deed n h. means_new names others name type n (own deed n h);
        fewer = fewer_behind names others name type fewer;
      })

module _ (home : Home) (types : Types) (components : Bool) (fits : HomeFits types home) where
  abbrev at : Surroundings
  at = surroundings types home

  abbrev does_it : Expr → Deed → Bool
  does_it a deed = expression_does deed a

  abbrev inside : Scope → Expr → Scope
  inside s a = with_captured (used (λ deed. expression_does deed a) s) (member_scope home)

  -- a lambda that breaks no rule
  pub record LambdaFits (s : Scope) (a : Expr) (name : Option Ident) (it : Body) (argument : Option CsType) : Type 0 where
    pub code : Code
    pub is : lambda_code home s a name it argument ≡ fine code
    pub accepted : AcceptedAs types (lambda_signature home s a name argument) code
    pub takes : Accepts argument (last_type name argument)

  used_so : (a : Expr) (deed : Deed) (n : List ℕ) → IsUse deed n → expression_does deed a ≡ true → is_used home (does_it a) n ≡ true
  used_so a deed n (inl u) e = ap (λ z. z || expression_does (changing n) a) (ap (λ d. expression_does d a) (sym u) ∙ e)
  used_so a deed n (inr u) e = or_true (expression_does (reading n) a) (expression_does (changing n) a) (ap (λ d. expression_does d a) (sym u) ∙ e)
    where
      or_true : (p q : Bool) → q ≡ true → (p || q) ≡ true
      or_true true q h = refl
      or_true false q h = h

  -- the scope in a lambda is that round it with fewer names
  inside_is : (s : Scope) (locals : List CsType) (a : Expr) → Captures home (does_it a) s locals → inside s a ≡ at_names (inside s a).names s
  inside_is s locals a k = λ i. record { names = (inside s a).names; records = k.same_records i; result = k.same_result i }

  lambda_named : (f : Forbidden) (s : Scope) (locals : List CsType) (a : Expr) (name : Option Ident) (it : Body) (argument : Option CsType) (last : List ℕ) (type : CsType) (code : Code) →
      TemplateScope home s locals → Captures home (does_it a) s locals → NoJumps it → out-ExprKind a.kind ≡ ExprKind-F.Lambda name it → ((n : List ℕ) → is_free n (names_in name) ≡ false → bytes_eq last n ≡ true) → last_type name argument ≡ type →
      scope_in_lambda home s a name argument ≡ fine (with_local (inside s a) last type) → judged_body f (with_local s last type) it ≡ fine code → Accepts argument type → LambdaFits s a name it argument
  unfolding with_local
  lambda_named f s locals a name it argument last type code scope k jumps is own type_is scope_fine e takes =
      let others : List Named = (inside s a).names in
      let narrow : Narrows (λ deed. of_body deed it) (λ deed. names_in name) (with_local s last type).names (with_local (at_names others s) last type).names =
      argument_narrows s.names others last type (λ deed. of_body deed it) (λ deed. names_in name)
      (λ deed n u h. k.means n (used_so a deed n u (ap (λ z. z) (lambda_does deed a name it is) ∙ h))) (λ deed n h. own n h) k.fewer s refl in
      let follows : Follows Both (judged_body f (with_local s last type) it) (judged_body nothing (with_local (at_names others s) last type) it) = body_follows it f (with_local s last type) (with_local (at_names others s) last type).names (λ deed. names_in name) narrow in
      let found : (other : Code) × (judged_body nothing (with_local (at_names others s) last type) it ≡ fine other) × Unit {0} = subst (λ j. Follows Both j (judged_body nothing (with_local (at_names others s) last type) it)) e follows in
      let judged_inside : judged_body nothing (with_local (inside s a) last type) it ≡ fine found.0 = ap (λ z. judged_body nothing (with_local z last type) it) (inside_is s locals a k) ∙ found.1 in
      let no_result : (inside s a).result ≡ t.Nothing = k.same_result ∙ template_result home s locals scope in
      record {
        code = found.0;
        is = ap (λ j. j >>= λ inner. judged_body nothing inner it) scope_fine ∙ judged_inside;
        accepted =
            record {
              scope = with_local (inside s a) last type;
              tree = it;
              accepts = judged_accepts (with_local (inside s a) last type) it found.0 judged_inside jumps (inl no_result);
              scope_fits = subst (λ z. ScopeFits at (types_of (used (does_it a) s) ++ z ∷ []) (with_local (inside s a) last type)) (sym type_is) (with_local_fits at (types_of (used (does_it a) s)) (inside s a) last type (template_fits home (does_it a) at (inside s a) (types_of (used (does_it a) s)) fits.members k.template));
              result_is = no_result;
            };
        takes = subst (λ z. Accepts argument z) (sym type_is) takes;
      }

  lambda_fits : (g : Ground) (locals : List CsType) (a : Expr) (place : Place) (name : Option Ident) (it : Body) (argument : Option CsType) (u : Unit {0}) → TemplateScope home g.scope locals → NoJumps it → out-ExprKind a.kind ≡ ExprKind-F.Lambda name it → lambda g place name it argument ≡ fine u → LambdaFits g.scope a name it argument
  unfolding lambda
  lambda_fits g locals a place None it argument u scope jumps is e =
      let k = captures home (does_it a) at g.scope locals fits.members scope in
      let body_fine = both_fine (judged_body (forbidden_in_lambda g) (with_local g.scope [] t.Nothing) it) (λ code. fine tt) u e in
      lambda_named (forbidden_in_lambda g) g.scope locals a None it argument [] t.Nothing body_fine.0 scope k jumps is (λ n h. none_declared n h) refl refl body_fine.1 (accepts.unnamed argument)
  lambda_fits g locals a place (Some name) it None u scope jumps is e = absurd (cc)
  lambda_fits g locals a place (Some name) it (Some type) u scope jumps is e =
      let k = captures home (does_it a) at g.scope locals fits.members scope in
      let scope_fine = both_fine (lambda_scope g.scope place (Some name) (Some type)) (λ s. (judged_body (forbidden_in_lambda g) s it >>= λ code. fine tt)) u e in
      let new_fine = both_fine (is_new g.scope name) (λ v. fine (with_local g.scope name.name type)) scope_fine.0 scope_fine.1 in
      let inner_is : with_local g.scope name.name type ≡ scope_fine.0 = cc in
      let body_fine = both_fine (judged_body (forbidden_in_lambda g) scope_fine.0 it) (λ code. fine tt) u scope_fine.2 in
      let others : List Named = (inside g.scope a).names in
      let new_inside : (v : Unit {0}) × (is_new (at_names others g.scope) name ≡ fine v) × Unit {0} = subst (λ j. Follows Both j (is_new (at_names others g.scope) name)) new_fine.1 (new_follows g.scope.names others g.scope name k.fewer) in
      lambda_named (forbidden_in_lambda g) g.scope locals a (Some name) it (Some type) name.name type body_fine.0 scope k jumps is (λ n h. one_declared n name.name h) refl
      (ap (λ j. j >>= λ v. fine (with_local (inside g.scope a) name.name type)) (ap (λ z. is_new z name) (inside_is g.scope locals a k) ∙ new_inside.1))
      (ap (λ z. judged_body (forbidden_in_lambda g) z it) inner_is ∙ body_fine.1) (accepts.argument type)

  -- a lambda as a callback
  lambda_resolved : (s : Scope) (locals : List CsType) (number : ℕ) (a : Expr) (name : Option Ident) (it : Body) (argument : Option CsType) → LambdaFits s a name it argument → LocalsAre locals (types_of (used (does_it a) s)) (positions_of (used (does_it a) s))
      → Resolved types components (λ code. CodeHas at locals (t.Callback argument) code) (lambda_callback home s number a name it argument)
  unfolding lambda_body
  lambda_resolved s locals number a name it argument l positions =
      one_resolved types components (λ u. types.bodies (place_at home number) ≡ Some (lambda_signature home s a name argument)) (λ code. CodeHas at locals (t.Callback argument) code) (lambda_body home s (place_at home number) a name it argument) (λ placed. own_callback home number (used (does_it a) s))
      (after_judged types components (λ u. types.bodies (place_at home number) ≡ Some (lambda_signature home s a name argument)) (lambda_code home s a name it argument) l.code (λ code. put (place_at home number) (body (lambda_signature home s a name argument) code)) l.is
      (put_resolved types components (place_at home number) (body (lambda_signature home s a name argument) l.code) (accepted_as_has types (lambda_signature home s a name argument) l.code l.accepted)))
      (λ u k. code.callback (place_at home number) (lambda_signature home s a name argument) argument (last_type name argument) (types_of (used (does_it a) s)) (positions_of (used (does_it a) s)) k refl refl l.takes positions)

  -- an expression of a callback's type
  expression_resolved : (g : Ground) (locals : List CsType) (a : Expr) (argument : Option CsType) (u : Unit {0}) → TemplateScope home g.scope locals → callback_expression g a argument ≡ fine u → Resolved types components (λ code. CodeHas at locals (t.Callback argument) code) (value_code g.scope a)
  unfolding callback_expression wants
  expression_resolved g locals a argument u scope e =
      let one = both_fine (value g a) (λ x. wants (t.Callback argument) x.place x.expr_type) u e in
      let v = value_at at locals g.scope g.forbidden a one.0 (template_fits home (does_it a) at g.scope locals fits.members scope) one.1 in
      code_resolved types components at locals g.scope a one.0 (λ code. CodeHas at locals (t.Callback argument) code) v
      (fits_has at locals one.0.expr_type (t.Callback argument) v.code (test_passed (type_fits one.0.expr_type (t.Callback argument)) TypeMismatch one.0.place u one.2) v.has)

  -- the body of the first method of a name, under another number
  method_resolved : (number : ℕ) (result : Option TypeExpr) (arguments : List Argument) (of : Body) (code : Code) → method_code home result arguments of ≡ fine code → AcceptedAs types (method_signature home result arguments) code
      → Resolved types components (λ u. types.bodies number ≡ Some (method_signature home result arguments)) (method_body home number result arguments of)
  unfolding method_body
  method_resolved number result arguments of code e h =
      after_judged types components (λ u. types.bodies number ≡ Some (method_signature home result arguments)) (method_code home result arguments of) code (λ code. put number (body (method_signature home result arguments) code)) e
      (put_resolved types components number (body (method_signature home result arguments) code) (accepted_as_has types (method_signature home result arguments) code h))

  abbrev Anything : Unit {0} → Type 0
  Anything u = Unit {0}

  -- whatever the name means
  kind_resolved : (number : ℕ) (name : List ℕ) (k : MemberKind) (further : Resolves (Unit {0})) → MethodFits types home k → Resolved types components Anything further → Resolved types components Anything (method_or home number name k further)
  kind_resolved number name (Method result other arguments of) further h r = by (bytes_eq other.name name)
    where
      by : (b : Bool) → Resolved types components Anything (if b then method_body home number result arguments of else further)
      by true = weaker_resolved types components (λ u. types.bodies number ≡ Some (method_signature home result arguments)) Anything (method_body home number result arguments of) (λ u k. tt) (method_resolved number result arguments of h.0 h.1 h.2)
      by false = r
  kind_resolved number name (Getter result other value) further h r = r
  kind_resolved number name (Field type other initial) further h r = r
  kind_resolved number name (Parameter cascading source type other initial) further h r = r
  kind_resolved number name (RecordDef other parts) further h r = r

  named_resolved : (number : ℕ) (name : List ℕ) (members : List Member) → MethodsFit types home members → Resolved types components Anything (named_body home number name members)
  named_resolved number name [] h = alone_resolved types components Anything tt tt
  named_resolved number name (one ∷ others) h = kind_resolved number name one.kind (named_body home number name others) h.0 (named_resolved number name others h.1)

  -- the name of a method: its body is placed
  abbrev Registered : ℕ → List CsType → Unit {0} → Type 0
  Registered number takes u = (s : Signature) × (types.bodies number ≡ Some s) × (s.component ≡ home.position) × (s.locals ≡ arguments_or_one takes)

  first_kind : (number : ℕ) (name : List ℕ) (first : ℕ) (before : Before) (k : MemberKind) (rest : List Named) (one : Named) (takes : List CsType) (further : Resolves (Unit {0})) → first_named name (reverse (named first before k) ++ rest) ≡ Some one → one.kind ≡ kind.Method takes → MethodFits types home k
      → (first_named name rest ≡ Some one → Resolved types components (Registered number takes) further) → Resolved types components (Registered number takes) (method_or home number name k further)
  unfolding named
  first_kind number name first before (Method result other arguments of) rest one takes further e is h r = by (bytes_eq other.name name) e
    where
      here : Named
      here = record { name = other.name; cs_type = result_type result; kind = kind.Method (map (λ z. type_of z.cs_type) arguments); place = first + before.members }

      by : (b : Bool) → (if b then Some here else first_named name rest) ≡ Some one → Resolved types components (Registered number takes) (if b then method_body home number result arguments of else further)
      by true e1 =
          let same : here ≡ one = cc in
          let takes_is : kind.Method (map (λ z. type_of z.cs_type) arguments) ≡ kind.Method takes = ap (λ (z : Named). z.kind) same ∙ is in
          let same_takes : map (λ z. type_of z.cs_type) arguments ≡ takes = cc in
          weaker_resolved types components (λ u. types.bodies number ≡ Some (method_signature home result arguments)) (Registered number takes) (method_body home number result arguments of)
          (λ u k. (method_signature home result arguments, k, refl, ap arguments_or_one same_takes)) (method_resolved number result arguments of h.0 h.1 h.2)
      by false e1 = r e1
  first_kind number name first before (Getter result other value) rest one takes further e is h r = r (past name (record { name = other.name; cs_type = type_of result; kind = kind.Getter; place = first + before.members }) rest one takes e is (λ b. absurd (cc)))
  first_kind number name first before (Field type other initial) rest one takes further e is h r = r (past name (record { name = other.name; cs_type = type_of type; kind = kind.Field; place = before.fields }) rest one takes e is (λ b. absurd (cc)))
  first_kind number name first before (Parameter cascading source type other initial) rest one takes further e is h r = r (past name (record { name = other.name; cs_type = type_of type; kind = kind.Parameter; place = before.parameters }) rest one takes e is (λ b. absurd (cc)))
  first_kind number name first before (RecordDef other parts) rest one takes further e is h r = r e

  first_method : (number : ℕ) (name : List ℕ) (first : ℕ) (before : Before) (members : List Member) (one : Named) (takes : List CsType) → first_named name (reverse (names_behind first before members)) ≡ Some one → one.kind ≡ kind.Method takes → MethodsFit types home members → Resolved types components (Registered number takes) (named_body home number name members)
  first_method number name first before [] one takes e is h = absurd (cc)
  first_method number name first before (m ∷ others) one takes e is h =
      first_kind number name first before m.kind (reverse (names_behind first (and_this m.kind before) others)) one takes (named_body home number name others)
      (sym (ap (first_named name) (reverse-append (names_behind first (and_this m.kind before) others) (named first before m.kind))) ∙ e) is h.0
      (λ e1. first_method number name first (and_this m.kind before) others one takes e1 is h.1)

  -- a method is meant outside the locals
  outside : (s : Scope) (locals : List CsType) (name : List ℕ) (one : Named) (takes : List CsType) → TemplateScope home s locals → meant s.names name ≡ Some one → one.kind ≡ kind.Method takes → meant (member_scope home).names name ≡ Some one
  unfolding with_local meant
  outside s locals name one takes scope.top e is = e
  outside s locals name one takes (scope.declared s1 locals1 other type h) e is =
      outside s1 locals1 name one takes h (past name (local s1.names other type) (reverse s1.names) one takes (sym (ap (first_named name) (reverse-append s1.names (local s1.names other type ∷ []))) ∙ e) is (λ b. absurd (cc))) is

  -- what a callback takes
  takes_one : (takes : List CsType) (argument : Option CsType) → takes_fit takes argument ≡ true → (last : CsType) × (arguments_or_one takes ≡ last ∷ []) × Accepts argument last
  takes_one [] argument e = (t.Nothing, refl, accepts.unnamed argument)
  takes_one (type ∷ []) (Some argument) e = (type, refl, subst (λ z. Accepts (Some z) type) (same_equal type argument e) (accepts.argument type))
  takes_one (type ∷ []) None e = absurd (cc)
  takes_one (type ∷ other ∷ others) (Some argument) e = absurd (cc)
  takes_one (type ∷ other ∷ others) None e = absurd (cc)

  is_method : (k : NameKind) (takes : List CsType) → taken_by k ≡ Some takes → k ≡ kind.Method takes
  is_method (kind.Method takes1) takes e = let same : takes1 ≡ takes = cc in ap (λ z. kind.Method z) same
  is_method kind.Field takes e = absurd (cc)
  is_method kind.Parameter takes e = absurd (cc)
  is_method kind.Local takes e = absurd (cc)
  is_method kind.Getter takes e = absurd (cc)

  abbrev IsCallback : List CsType → Option CsType → Code → Type 0
  IsCallback locals argument code = CodeHas at locals (t.Callback argument) code

  -- a name as a callback
  name_resolved : (g : Ground) (locals : List CsType) (number : ℕ) (a : Expr) (name : List ℕ) (argument : Option CsType) (u : Unit {0}) (o : Option Named) → meant g.scope.names name ≡ o → TemplateScope home g.scope locals → callback_by_name g o a argument ≡ fine u
      → Resolved types components (IsCallback locals argument) (named_body home (place_at home number) name home.members >>>= λ placed. meant_callback o home g.scope number a)
  unfolding meant
  name_resolved g locals number a name argument u None is scope e =
      then_resolved types components Anything (IsCallback locals argument) (IsCallback locals argument) (named_body home (place_at home number) name home.members) (λ placed. value_code g.scope a) (named_resolved (place_at home number) name home.members fits.methods) (expression_resolved g locals a argument u scope e) (λ y p k. k)
  name_resolved g locals number a name argument u (Some one) is scope e = by (taken_by one.kind) refl e
    where
      by : (o : Option (List CsType)) → taken_by one.kind ≡ o → callback_by_kind g o a argument ≡ fine u → Resolved types components (IsCallback locals argument) (named_body home (place_at home number) name home.members >>>= λ placed. (if is_some (taken_by one.kind) then alone (own_callback home number []) else value_code g.scope a))
      by None k e1 =
          subst (λ z. Resolved types components (IsCallback locals argument) (named_body home (place_at home number) name home.members >>>= λ placed. (if is_some z then alone (own_callback home number []) else value_code g.scope a))) (sym k)
          (then_resolved types components Anything (IsCallback locals argument) (IsCallback locals argument) (named_body home (place_at home number) name home.members) (λ placed. value_code g.scope a) (named_resolved (place_at home number) name home.members fits.methods) (expression_resolved g locals a argument u scope e1) (λ y p m. m))
      by (Some takes) k e1 =
          let method : one.kind ≡ kind.Method takes = is_method one.kind takes k in
          let last = takes_one takes argument (test_passed (takes_fit takes argument) TypeMismatch a.place u e1) in
          subst (λ z. Resolved types components (IsCallback locals argument) (named_body home (place_at home number) name home.members >>>= λ placed. (if is_some z then alone (own_callback home number []) else value_code g.scope a))) (sym k)
          (one_resolved types components (Registered (place_at home number) takes) (IsCallback locals argument) (named_body home (place_at home number) name home.members) (λ placed. own_callback home number [])
          (first_method (place_at home number) name home.first (record { fields = 0; parameters = 0; members = 0 }) home.members one takes (outside g.scope locals name one takes scope is method) method fits.methods)
          (λ v r. code.callback (place_at home number) r.0 argument last.0 [] [] r.1 r.2 (r.3 ∙ last.1) last.2 code.none))

  -- the value of an event, or of a parameter that is a callback
  level_resolved : (l : Level) (g : Ground) (locals : List CsType) (number : ℕ) (a : Expr) (argument : Option CsType) (u : Unit {0}) → out-ExprKind a.kind ≡ l → TemplateScope home g.scope locals → LambdaFormed a → callback_by_level g l a argument ≡ fine u
      → Resolved types components (IsCallback locals argument) (callback_level l home g.scope number a argument)
  level_resolved (ExprKind-F.Lambda name it) g locals number a argument u is scope formed e =
      let a_kind : a.kind ≡ ek.Lambda name it = sym (roll-out-ExprKind a.kind) ∙ ap roll-ExprKind is ∙ ek.rolls-Lambda name it in
      lambda_resolved g.scope locals number a name it argument (lambda_fits g locals a a.place name it argument u scope (formed name it a_kind) is e) (captures home (does_it a) at g.scope locals fits.members scope).positions
  level_resolved (ExprKind-F.Name name) g locals number a argument u is scope formed e = name_resolved g locals number a name argument u (meant g.scope.names name) refl scope e
  level_resolved _ g locals number a argument u is scope formed e = expression_resolved g locals a argument u scope e

  pub callback_resolved : (g : Ground) (locals : List CsType) (number : ℕ) (a : Expr) (argument : Option CsType) (u : Unit {0}) → TemplateScope home g.scope locals → LambdaFormed a → callback g a argument ≡ fine u → Resolved types components (IsCallback locals argument) (page.callback home g.scope number a argument)
  unfolding callback page.callback
  callback_resolved g locals number a argument u scope formed e = level_resolved (out-ExprKind a.kind) g locals number a argument u refl scope formed e
