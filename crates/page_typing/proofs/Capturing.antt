-- What lambdas capture of the locals round them.
use Rattle.std.proofs.Common.{◌≡◌, ℕ, zero, suc, List, [], ◌∷◌, ◌++◌, map, length, reverse, refl, sym, ap, subst, ◌∙◌}
use Rattle.std.proofs.lemmas.List.{append-nil, reverse-append}
use Rattle.std.proofs.lemmas.List.Folds.{list_any-append}
use Rattle.std.proofs.lemmas.Slice.Eq.{bytes_eq-Decides}
use Rattle.std.specs.Prelude.{Bool, true, false, ◌||◌, ◌&&◌, if◌then◌else◌, filter, slice_get, Some, bytes_eq}
use Rattle.cs_ast.specs.declared.cs_type.CsType.{CsType}
use Rattle.cs_ast.specs.declared.member.Member.{Member}
use Rattle.cs_ast.specs.declared.member.MemberKind.{MemberKind}
use Rattle.cs_ast.specs.declared.member.MemberKind.TheVariants.{Field, Parameter, Method, Getter, RecordDef}
use Rattle.cs_ast.specs.declared.scope.Named.{Named}
use Rattle.cs_ast.specs.declared.scope.Scope.{Scope}
use Rattle.cs_effects.specs.declared.deed.Deed.{Deed}
use Rattle.cs_rules.specs.Names.{first_named, is_local, local, locals_in, meant, with_local}
use Rattle.cs_typing.specs.Expressions.{Surroundings, LocalsAre}
use Rattle.cs_typing.specs.Expressions as code
use Rattle.cs_accepted.specs.Scopes.{ScopeFits}
use Rattle.cs_accepted.proofs.ScopeLemmas.{with_local_fits}
use Rattle.razor_rules.specs.Members.{Before, and_this, named, names_behind}
use Rattle.razor_rules.specs.Scopes.{Home, member_scope}
use Rattle.razor_rules.specs.TemplateDeeds.{reading, changing}
use Rattle.page_meaning.specs.Captures.{used, positions_of, with_captured}
use Rattle.page_meaning.specs.Placed.{types_of}
use Rattle.page_typing.specs.Narrowing.{Means, is_taken, Fewer, SameNamed}
use Rattle.page_typing.specs.TemplateScopes.{TemplateScope}
use Rattle.page_typing.specs.TemplateScopes as scope
use Rattle.page_typing.proofs.Following.{means_behind, fewer_behind}

filter_append : {A : Type 0} (p : A → Bool) (xs ys : List A) → filter p (xs ++ ys) ≡ filter p xs ++ filter p ys
filter_append p [] ys = refl
filter_append p (x ∷ xs) ys = by (p x) (filter_append p xs ys)
  where
    by : (b : Bool) → filter p (xs ++ ys) ≡ filter p xs ++ filter p ys → (if b then x ∷ filter p (xs ++ ys) else filter p (xs ++ ys)) ≡ (if b then x ∷ filter p xs else filter p xs) ++ filter p ys
    by true e = ap (λ z. x ∷ z) e
    by false e = e

map_append : {A B : Type 0} (f : A → B) (xs ys : List A) → map f (xs ++ ys) ≡ map f xs ++ map f ys
map_append f [] ys = refl
map_append f (x ∷ xs) ys = ap (λ z. f x ∷ z) (map_append f xs ys)

captured_append : (xs : List Named) (y : Named) (s : Scope) → with_captured (xs ++ y ∷ []) s ≡ with_local (with_captured xs s) y.name y.cs_type
captured_append [] y s = refl
captured_append (x ∷ xs) y s = captured_append xs y (with_local s x.name x.cs_type)

-- members are no locals
named_none : (p : Named → Bool) (first : ℕ) (before : Before) (m : MemberKind) → filter (λ one. is_local one.kind && p one) (named first before m) ≡ []
unfolding named
named_none p first before (Field type name initial) = refl
named_none p first before (Parameter cascading source type name initial) = refl
named_none p first before (Method result name arguments body) = refl
named_none p first before (Getter result name value) = refl
named_none p first before (RecordDef name parts) = refl

members_none : (p : Named → Bool) (first : ℕ) (before : Before) (members : List Member) → filter (λ one. is_local one.kind && p one) (names_behind first before members) ≡ []
members_none p first before [] = refl
members_none p first before (one ∷ others) =
    filter_append (λ z. is_local z.kind && p z) (names_behind first (and_this one.kind before) others) (named first before one.kind)
    ∙ ap (λ z. z ++ filter (λ w. is_local w.kind && p w) (named first before one.kind)) (members_none p first (and_this one.kind before) others)
    ∙ named_none p first before one.kind

module _ (home : Home) (does : Deed → Bool) where
  -- whether a name is used
  abbrev pub is_used : List ℕ → Bool
  is_used name = does (reading name) || does (changing name)

  abbrev inside : Scope → Scope
  inside s = with_captured (used does s) (member_scope home)

  -- the scope in what captures
  pub record Captures (s : Scope) (locals : List CsType) : Type 0 where
    pub means : (name : List ℕ) → is_used name ≡ true → Means s.names (inside s).names name
    pub fewer : Fewer s.names (inside s).names
    pub same_records : (inside s).records ≡ s.records
    pub same_result : (inside s).result ≡ s.result
    pub template : TemplateScope home (inside s) (types_of (used does s))
    pub positions : LocalsAre locals (types_of (used does s)) (positions_of (used does s))

  same_means : (names : List Named) (name : List ℕ) → Means names names name
  same_means names name one e = (one, e, (one.name, one.place, refl))

  nothing_used : used does (member_scope home) ≡ []
  nothing_used = members_none (λ one. is_used one.name) home.first (record { fields = 0; parameters = 0; members = 0 }) home.members

  at_top : Captures (member_scope home) []
  at_top =
      let same : inside (member_scope home) ≡ member_scope home = ap (λ z. with_captured z (member_scope home)) nothing_used in
      record {
        means = λ name u. subst (λ z. Means (member_scope home).names (Scope.names z) name) (sym same) (same_means (member_scope home).names name);
        fewer = λ name e. subst (λ z. is_taken (Scope.names z) name ≡ false) (sym same) e;
        same_records = ap (λ (z : Scope). z.records) same;
        same_result = ap (λ (z : Scope). z.result) same;
        template = subst (λ z. TemplateScope home (with_captured z (member_scope home)) (types_of z)) (sym nothing_used) scope.top;
        positions = subst (λ z. LocalsAre [] (types_of z) (positions_of z)) (sym nothing_used) code.none;
      }

  still_there : (ts : List CsType) (at : ℕ) (type more : CsType) → slice_get ts at ≡ Some type → slice_get (ts ++ more ∷ []) at ≡ Some type
  still_there [] at type more e = absurd (cc)
  still_there (t ∷ ts) zero type more e = e
  still_there (t ∷ ts) (suc at) type more e = still_there ts at type more e

  new_place : (ts : List CsType) (more : CsType) → slice_get (ts ++ more ∷ []) (length ts) ≡ Some more
  new_place [] more = refl
  new_place (t ∷ ts) more = new_place ts more

  still_are : (locals : List CsType) (more : CsType) (ts : List CsType) (numbers : List ℕ) → LocalsAre locals ts numbers → LocalsAre (locals ++ more ∷ []) ts numbers
  still_are locals more ts numbers code.none = code.none
  still_are locals more ts numbers (code.more type others number rest e es) = code.more type others number rest (still_there locals number type more e) (still_are locals more others rest es)

  one_more_is : (locals : List CsType) (ts : List CsType) (numbers : List ℕ) (type : CsType) (number : ℕ) → LocalsAre locals ts numbers → slice_get locals number ≡ Some type → LocalsAre locals (ts ++ type ∷ []) (numbers ++ number ∷ [])
  one_more_is locals ts numbers type number code.none e = code.more type [] number [] e code.none
  one_more_is locals ts numbers type number (code.more first others at rest h hs) e = code.more first (others ++ type ∷ []) at (rest ++ number ∷ []) h (one_more_is locals others rest type number hs e)

  -- behind a local that isn't used
  unused_means : (names others : List Named) (name : List ℕ) (type : CsType) → is_used name ≡ false → ((n : List ℕ) → is_used n ≡ true → Means names others n) → (n : List ℕ) → is_used n ≡ true → Means (names ++ local names name type ∷ []) others n
  unfolding meant
  unused_means names others name type off h n u one e = by (bytes_eq name n) refl (sym (ap (first_named n) (reverse-append names (local names name type ∷ []))) ∙ e)
    where
      by : (b : Bool) → bytes_eq name n ≡ b → (if b then Some (local names name type) else first_named n (reverse names)) ≡ Some one → (other : Named) × (meant others n ≡ Some other) × SameNamed one other
      by true is e1 = let same : name ≡ n = (bytes_eq-Decides name n).0 is in absurd (differ same)
        where
          differ : name ≡ n → ⊥
          differ same = let t : is_used n ≡ false = ap is_used (sym same) ∙ off in absurd (cc)
      by false is e1 = h n u one e1

  fewer_names : (names others : List Named) (one : Named) → Fewer names others → Fewer (names ++ one ∷ []) others
  fewer_names names others one h n e = by (is_taken names n) refl (sym (list_any-append (λ z. is_local z.kind && bytes_eq z.name n) names (one ∷ [])) ∙ e)
    where
      by : (b : Bool) → is_taken names n ≡ b → (b || is_taken (one ∷ []) n) ≡ false → is_taken others n ≡ false
      by true e1 e2 = absurd (cc)
      by false e1 e2 = h n e1

  one_declared : (s : Scope) (locals : List CsType) (name : List ℕ) (type : CsType) → locals_in s.names ≡ length locals → Captures s locals → Captures (with_local s name type) (locals ++ type ∷ [])
  unfolding with_local
  one_declared s locals name type count c = by (is_used name) refl (filter_append (λ one. is_local one.kind && is_used one.name) s.names (local s.names name type ∷ []))
    where
      by : (b : Bool) → is_used name ≡ b → used does (with_local s name type) ≡ used does s ++ (if b then local s.names name type ∷ [] else []) → Captures (with_local s name type) (locals ++ type ∷ [])
      by true on is =
          let same : inside (with_local s name type) ≡ with_local (inside s) name type = ap (λ z. with_captured z (member_scope home)) is ∙ captured_append (used does s) (local s.names name type) (member_scope home) in
          record {
            means = λ n u. subst (λ (z : Scope). Means (with_local s name type).names z.names n) (sym same) (means_behind s.names (inside s).names name type n (c.means n u));
            fewer = subst (λ (z : Scope). Fewer (with_local s name type).names z.names) (sym same) (fewer_behind s.names (inside s).names name type c.fewer);
            same_records = ap (λ (z : Scope). z.records) same ∙ c.same_records;
            same_result = ap (λ (z : Scope). z.result) same ∙ c.same_result;
            template = subst (λ (z : Scope). TemplateScope home z (types_of (used does (with_local s name type)))) (sym same) (subst (λ ts. TemplateScope home (with_local (inside s) name type) ts) (sym (ap types_of is ∙ map_append (λ (z : Named). z.cs_type) (used does s) (local s.names name type ∷ []))) (scope.declared (inside s) (types_of (used does s)) name type c.template));
            positions = subst (λ z. LocalsAre (locals ++ type ∷ []) (types_of z) (positions_of z)) (sym is)
                (subst (λ z. LocalsAre (locals ++ type ∷ []) z (positions_of (used does s ++ local s.names name type ∷ []))) (sym (map_append (λ (z : Named). z.cs_type) (used does s) (local s.names name type ∷ [])))
                (subst (λ z. LocalsAre (locals ++ type ∷ []) (types_of (used does s) ++ type ∷ []) z) (sym (map_append (λ (z : Named). z.place) (used does s) (local s.names name type ∷ [])))
                (one_more_is (locals ++ type ∷ []) (types_of (used does s)) (positions_of (used does s)) type (locals_in s.names) (still_are locals type (types_of (used does s)) (positions_of (used does s)) c.positions) (ap (slice_get (locals ++ type ∷ [])) count ∙ new_place locals type))));
          }
      by false off is =
          let same_used : used does (with_local s name type) ≡ used does s = is ∙ append-nil (used does s) in
          let same : inside (with_local s name type) ≡ inside s = ap (λ z. with_captured z (member_scope home)) same_used in
          record {
            means = λ n u. subst (λ (z : Scope). Means (with_local s name type).names z.names n) (sym same) (unused_means s.names (inside s).names name type off c.means n u);
            fewer = subst (λ (z : Scope). Fewer (with_local s name type).names z.names) (sym same) (fewer_names s.names (inside s).names (local s.names name type) c.fewer);
            same_records = ap (λ (z : Scope). z.records) same ∙ c.same_records;
            same_result = ap (λ (z : Scope). z.result) same ∙ c.same_result;
            template = subst (λ z. TemplateScope home (with_captured z (member_scope home)) (types_of z)) (sym same_used) c.template;
            positions = subst (λ z. LocalsAre (locals ++ type ∷ []) (types_of z) (positions_of z)) (sym same_used) (still_are locals type (types_of (used does s)) (positions_of (used does s)) c.positions);
          }

  -- scopes in templates fit where the members do
  pub template_fits : (at : Surroundings) (s : Scope) (locals : List CsType) → ScopeFits at [] (member_scope home) → TemplateScope home s locals → ScopeFits at locals s
  template_fits at s locals fits scope.top = fits
  template_fits at s locals fits (scope.declared s1 locals1 name type h) = with_local_fits at locals1 s1 name type (template_fits at s1 locals1 fits h)

  pub captures : (at : Surroundings) (s : Scope) (locals : List CsType) → ScopeFits at [] (member_scope home) → TemplateScope home s locals → Captures s locals
  captures at s locals fits scope.top = at_top
  captures at s locals fits (scope.declared s1 locals1 name type h) = one_declared s1 locals1 name type (template_fits at s1 locals1 fits h).count (captures at s1 locals1 fits h)

-- the records and the result of a scope in a template are those of its component
pub template_records : (home : Home) (s : Scope) (locals : List CsType) → TemplateScope home s locals → s.records ≡ home.records
unfolding with_local
template_records home s locals scope.top = refl
template_records home s locals (scope.declared s1 locals1 name type h) = template_records home s1 locals1 h

pub template_result : (home : Home) (s : Scope) (locals : List CsType) → TemplateScope home s locals → s.result ≡ (member_scope home).result
unfolding with_local
template_result home s locals scope.top = refl
template_result home s locals (scope.declared s1 locals1 name type h) = template_result home s1 locals1 h
