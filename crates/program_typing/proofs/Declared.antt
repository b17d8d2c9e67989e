-- The parameters that the tags of a component may give are parameters of the component, of the same types.
use Rattle.std.proofs.Common.{◌≡◌, ℕ, suc, ◌+◌, List, [], ◌∷◌, ◌++◌, map, refl, sym, ap, subst, ◌∙◌, arith}
use Rattle.std.proofs.lemmas.List.Folds.{list_any-append}
use Rattle.std.proofs.lemmas.Slice.Eq.{bytes_eq-Decides}
use Rattle.std.specs.Prelude.{Bool, true, false, not, ◌||◌, slice_get, if◌then◌else◌, is_none, bytes_eq, Option, Some, None}
use Rattle.std.specs.List.{flat_map, list_any}
use Rattle.text_core.specs.declared.place.Place.{Place}
use Rattle.cs_ast.specs.declared.cs_type.CsType.{CsType}
use Rattle.cs_ast.specs.declared.cs_type.TypeExpr.{TypeExpr}
use Rattle.cs_ast.specs.declared.expression.Expr.{Expr}
use Rattle.cs_ast.specs.declared.identifier.Ident.{Ident}
use Rattle.cs_ast.specs.declared.member.Member.{Member}
use Rattle.cs_ast.specs.declared.member.MemberKind.{MemberKind}
use Rattle.cs_ast.specs.declared.member.MemberKind.TheVariants.{Field, Parameter, Method, Getter, RecordDef}
use Rattle.cs_rules.specs.declared.rule.Rule.TheVariants.{DuplicateName}
use Rattle.cs_rules.specs.Judged.{fine}
use Rattle.cs_rules.specs.Written.{type_of, known_type}
use Rattle.razor_rules.specs.Declarations.{initial_rules, member_rules}
use Rattle.razor_rules.specs.Findings.{broken_unless}
use Rattle.razor_rules.specs.Members.{name_of}
use Rattle.razor_rules.specs.Names.{is_among, repeated}
use Rattle.razor_rules.specs.Parameters.{Takes, taken_as, takes_in, taken}
use Rattle.razor_rules.specs.Scopes.{Home}
use Rattle.razor_rules.specs.WrittenTypes.{unknown_parameter, parameter_type}
use Rattle.page_meaning.specs.ProgramTypes.{parameter_of}
use Rattle.page_meaning.specs.Tags.{parameter_from}
use Rattle.page_typing.proofs.TemplateParts.{found_then_nothing}
use Rattle.page_typing.proofs.TemplateValues.{no_first, no_second}

-- a name stands among these, however it is written
Stands : List ℕ → List (List ℕ) → Type 0
Stands name before = (other : List ℕ) → bytes_eq other name ≡ true → is_among other before ≡ true

stands_first : (name : List ℕ) (before more : List (List ℕ)) → Stands name before → Stands name (before ++ more)
unfolding Stands
stands_first name before more h other e = list_any-append (bytes_eq other) before more ∙ ap (λ (b : Bool). b || list_any (bytes_eq other) more) (h other e)

stands_last : (name own : List ℕ) (before : List (List ℕ)) → bytes_eq own name ≡ true → Stands name (before ++ own ∷ [])
unfolding Stands
stands_last name own before same other e =
    let is : other ≡ own = (bytes_eq-Decides other name).0 e ∙ sym ((bytes_eq-Decides own name).0 same) in
    list_any-append (bytes_eq other) before (own ∷ []) ∙ either (list_any (bytes_eq other) before) (bytes_eq other own) ((bytes_eq-Decides other own).1 is)
  where
    either : (a b : Bool) → b ≡ true → (a || (b || false)) ≡ true
    either true b k = refl
    either false true k = refl
    either false false k = absurd (cc)

unless_not : (b : Bool) (place : Place) → broken_unless (not b) DuplicateName place ≡ [] → b ≡ false
unless_not true place e = absurd (cc)
unless_not false place e = refl

abbrev Distinct : List (List ℕ) → List Member → Type 0
Distinct before members = repeated DuplicateName before (map (λ (one : Member). name_of one.kind) members) ≡ []

-- the rest behind a member
behind : (before : List (List ℕ)) (one : Member) (others : List Member) → Distinct before (one ∷ others) → Distinct (before ++ (name_of one.kind).name ∷ []) others
behind before one others e = no_second (broken_unless (not (is_among (name_of one.kind).name before)) DuplicateName (name_of one.kind).place) _ e

-- a type that is one
type_known : (records : List Member) (w : TypeExpr) (type : CsType) → parameter_type records w ≡ fine type → is_none (unknown_parameter records w) ≡ true
type_known records w type e = by (unknown_parameter records w) e
  where
    by : (o : Option Place) → known_type o (type_of w) ≡ fine type → is_none o ≡ true
    by None k = refl
    by (Some place) k = absurd (cc)

module _ (home : Home) (invoking : List ℕ) (circular : List ℕ → Bool) (name : List ℕ) where
  abbrev takes : List Member → List Takes
  takes members = takes_in home.records members

  -- a member whose name isn't among those before, and those behind it
  none_by : (before : List (List ℕ)) (m : MemberKind) (place : Place) (others : List Member) → Stands name before → is_among (name_of m).name before ≡ false → taken (takes others) name ≡ None → taken (takes (record { place = place; kind = m } ∷ others)) name ≡ None
  unfolding taken_as name_of Stands
  none_by before (Parameter false source w own initial) place others h apart further = named (bytes_eq own.name name) refl
    where
      named : (b : Bool) → bytes_eq own.name name ≡ b → taken (takes (record { place = place; kind = Parameter false source w own initial } ∷ others)) name ≡ None
      named true is = let k : true ≡ false = sym (h own.name is) ∙ apart in absurd (cc)
      named false is = rw is further
  none_by before (Parameter true source w own initial) place others h apart further = further
  none_by before (Field w own initial) place others h apart further = further
  none_by before (Method result own arguments of) place others h apart further = further
  none_by before (Getter result own value) place others h apart further = further
  none_by before (RecordDef own parts) place others h apart further = further

  -- no parameter has a name that stands before
  none_taken : (before : List (List ℕ)) (members : List Member) → Stands name before → Distinct before members → taken (takes members) name ≡ None
  none_taken before [] h e = refl
  none_taken before (one ∷ others) h e =
      none_by before one.kind one.place others h (unless_not (is_among (name_of one.kind).name before) (name_of one.kind).place (no_first (broken_unless (not (is_among (name_of one.kind).name before)) DuplicateName (name_of one.kind).place) _ e))
      (none_taken (before ++ (name_of one.kind).name ∷ []) others (stands_first name before ((name_of one.kind).name ∷ []) h) (behind before one others e))

  -- so many places behind a number, with its type
  pub record Found (members : List Member) (number : ℕ) (one : Takes) : Type 0 where
    pub behind_it : ℕ
    pub is_type : one.is_type ≡ true
    pub known : parameter_from members name number ≡ Some (number + behind_it, one.cs_type)
    pub declared : slice_get (flat_map (λ (it : Member). parameter_of it.kind) members) behind_it ≡ Some one.cs_type

  abbrev Fine : List Member → Type 0
  Fine members = flat_map (λ (one : Member). member_rules home invoking circular one.kind) members ≡ []

  passed : (place : Place) (others : List Member) (number : ℕ) (one : Takes) (cascading : Bool) (source : Option (List ℕ)) (w : TypeExpr) (own : Ident) (initial : Option Expr) → bytes_eq own.name name ≡ false → Found others (number + 1) one
      → Found (record { place = place; kind = Parameter cascading source w own initial } ∷ others) number one
  passed place others number one cascading source w own initial is it =
      record {
        behind_it = suc it.behind_it;
        is_type = it.is_type;
        known = ap (λ (b : Bool). if b then Some (number, type_of w) else parameter_from others name (number + 1)) is ∙ it.known ∙ ap (λ (n : ℕ). Some (n, one.cs_type)) (omega arith);
        declared = it.declared;
      }

  -- a member, where so much is known of those behind it
  found_by : (before : List (List ℕ)) (m : MemberKind) (place : Place) (others : List Member) (number : ℕ) (one : Takes) → Distinct (before ++ (name_of m).name ∷ []) others → member_rules home invoking circular m ≡ []
      → ((n : ℕ) → taken (takes others) name ≡ Some one → Found others n one) → taken (takes (record { place = place; kind = m } ∷ others)) name ≡ Some one → Found (record { place = place; kind = m } ∷ others) number one
  unfolding taken_as name_of member_rules
  found_by before (Parameter false source w own initial) place others number one d r further e = named (bytes_eq own.name name) refl e
    where
      named : (b : Bool) → bytes_eq own.name name ≡ b → (if b then Some (record { name = own.name; cs_type = type_of w; is_type = is_none (unknown_parameter home.records w) }) else taken (takes others) name) ≡ Some one
          → Found (record { place = place; kind = Parameter false source w own initial } ∷ others) number one
      named true is e1 =
          let same : record { name = own.name; cs_type = type_of w; is_type = is_none (unknown_parameter home.records w) } ≡ one = cc in
          let kept = found_then_nothing (parameter_type home.records w) (initial_rules home invoking circular initial) r in
          subst (λ (z : Takes). Found (record { place = place; kind = Parameter false source w own initial } ∷ others) number z) same
          (record {
            behind_it = 0;
            is_type = type_known home.records w kept.0 kept.1;
            known = ap (λ (b : Bool). if b then Some (number, type_of w) else parameter_from others name (number + 1)) is ∙ ap (λ (n : ℕ). Some (n, type_of w)) (omega arith);
            declared = refl;
          })
      named false is e1 = passed place others number one false source w own initial is (further (number + 1) e1)
  found_by before (Parameter true source w own initial) place others number one d r further e = named (bytes_eq own.name name) refl
    where
      named : (b : Bool) → bytes_eq own.name name ≡ b → Found (record { place = place; kind = Parameter true source w own initial } ∷ others) number one
      named true is = let none : Some one ≡ None = sym e ∙ none_taken (before ++ own.name ∷ []) others (stands_last name own.name before is) d in absurd (cc)
      named false is = passed place others number one true source w own initial is (further (number + 1) e)
  found_by before (Field w own initial) place others number one d r further e = let it = further number e in record { behind_it = it.behind_it; is_type = it.is_type; known = it.known; declared = it.declared }
  found_by before (Method result own arguments of) place others number one d r further e = let it = further number e in record { behind_it = it.behind_it; is_type = it.is_type; known = it.known; declared = it.declared }
  found_by before (Getter result own value) place others number one d r further e = let it = further number e in record { behind_it = it.behind_it; is_type = it.is_type; known = it.known; declared = it.declared }
  found_by before (RecordDef own parts) place others number one d r further e = let it = further number e in record { behind_it = it.behind_it; is_type = it.is_type; known = it.known; declared = it.declared }

  pub found_declared : (before : List (List ℕ)) (members : List Member) (number : ℕ) (one : Takes) → Distinct before members → Fine members → taken (takes members) name ≡ Some one → Found members number one
  found_declared before [] number one d f e = absurd (cc)
  found_declared before (first ∷ others) number one d f e =
      found_by before first.kind first.place others number one (behind before first others d) (no_first (member_rules home invoking circular first.kind) _ f)
      (λ n e1. found_declared (before ++ (name_of first.kind).name ∷ []) others n one (behind before first others d) (no_second (member_rules home invoking circular first.kind) _ f) e1) e
