-- A component of a program: what it places, and how that keeps to the types of the program.
use Rattle.std.proofs.Common.{◌≡◌, ℕ, ◌+◌, List, [], ◌∷◌, ◌++◌, map, length, refl, sym, ap, subst, ◌∙◌, arith}
use Rattle.std.proofs.lemmas.List.{append_assoc}
use Rattle.std.specs.Prelude.{true, false, slice_get, sum, Option, Some, option_map}
use Rattle.std.specs.List.{flat_map}
use Rattle.cs_ast.specs.declared.expression.Body.TheVariants as bo
use Rattle.cs_ast.specs.declared.member.Member.{Member}
use Rattle.cs_ast.specs.declared.member.MemberKind.{MemberKind}
use Rattle.cs_ast.specs.declared.member.MemberKind.TheVariants.{Field, Parameter, Method, Getter, RecordDef}
use Rattle.cs_rules.specs.Judged.{fine}
use Rattle.cs_rules.specs.Written.{Declared, record_named}
use Rattle.cs_typing.specs.Types.{Types}
use Rattle.cs_accepted.specs.Scopes.{ScopeFits, record_type}
use Rattle.cs_accepted.proofs.BodyLemmas.{accepted_as_has}
use Rattle.drawing_meaning.specs.Acts.{Act}
use Rattle.razor_ast.specs.declared.component.Component.{Component}
use Rattle.razor_rules.specs.Members.{none_before}
use Rattle.razor_rules.specs.Numbers.{span, numbers_of}
use Rattle.razor_rules.specs.Programs.{home_of}
use Rattle.razor_rules.specs.Scopes.{Home, records_of, member_scope}
use Rattle.page_meaning.specs.Bodies.{method_signature}
use Rattle.page_meaning.specs.Items.{component_acts}
use Rattle.page_meaning.specs.Placed.{Placed}
use Rattle.page_meaning.specs.ProgramTypes.{field_of, parameter_of, declared_at, body_signature, template_signature, signature_at}
use Rattle.page_meaning.specs.Resolved.{Placing, placing, behind_placed, ◌>>=◌}
use Rattle.page_typing.specs.Acts.{ActsHave}
use Rattle.page_typing.specs.Formed.{MethodFormed, MethodsFormed}
use Rattle.page_typing.specs.Homes.{surroundings, HomeFits}
use Rattle.page_typing.specs.Numbering.{Between}
use Rattle.page_typing.specs.Resolving.{AllKnown, AllFitting, Resolved}
use Rattle.page_typing.proofs.ProgramMembers.{MethodJudged, MethodsJudged, all_judged, entry_of, entries, members_are, Declares, numbered, members_fit, field_found, method_fits, methods_fit, Numbered, no_block}
use Rattle.page_typing.proofs.ProgramNumbers.{From}
use Rattle.page_typing.proofs.RisingNumbers.{between_both, between_wider, rises_members}
use Rattle.program_typing.specs.Programs.{IsSound, template_of}
use Rattle.program_typing.proofs.Numbers.{known_second, fitting_both}

-- the types of a program that places these
abbrev pub types_of : List Component → (ℕ → Option ℕ) → List (ℕ × Placed) → Types
types_of components instances xs =
    record {
      records = λ name. option_map record_type (record_named (records_of components) name);
      fields = λ component number. declared_at field_of (slice_get components component) number;
      parameters = λ component number. declared_at parameter_of (slice_get components component) number;
      bodies = signature_at body_signature xs;
      templates = signature_at template_signature xs;
      instances = instances;
    }

-- bodies of methods keep to their signatures
module _ (home : Home) (types : Types) (fits : ScopeFits (surroundings types home) [] (member_scope home)) where
  entry_fits : (n : ℕ) (m : MemberKind) (j : MethodJudged home m) → MethodFormed m → AllFitting types true (entry_of home n m j)
  entry_fits n (Method result name arguments of) j jumps = (accepted_as_has types (method_signature home result arguments) j.0 (method_fits home types result arguments of j fits jumps), tt)
  entry_fits n (Getter result name value) j jumps = (accepted_as_has types (method_signature home (Some result) []) j.0 (method_fits home types (Some result) [] (bo.Value value) j fits (λ statements e. absurd (no_block value statements e))), tt)
  entry_fits n (Field cs_type name initial) j jumps = tt
  entry_fits n (Parameter cascading source cs_type name initial) j jumps = tt
  entry_fits n (RecordDef name parts) j jumps = tt

  entries_fit : (n : ℕ) (members : List Member) (j : MethodsJudged home members) → MethodsFormed members → AllFitting types true (entries home n members j)
  entries_fit n [] j jumps = tt
  entries_fit n (one ∷ others) j jumps = fitting_both types (entry_of home n one.kind j.0) (entries home (n + 1) others j.1) (entry_fits n one.kind j.0 jumps.0) (entries_fit (n + 1) others j.1 jumps.1)

module _ (components : List Component) (instances : ℕ → Option ℕ) (position : ℕ) (component : Component) (there : slice_get components position ≡ Some component)
    (sound : IsSound (home_of components position component) component) where
  abbrev pub home : Home
  home = home_of components position component

  abbrev judged_members : MethodsJudged home component.members
  judged_members = all_judged home sound.invoking sound.circular component.members sound.members

  abbrev pub methods : List (ℕ × Placed)
  methods = entries home home.first component.members judged_members

  known_records : (xs : List (ℕ × Placed)) (name : List ℕ) (it : Declared) → record_named home.records name ≡ Some it → (types_of components instances xs).records name ≡ Some (record_type it)
  known_records xs name it e = ap (option_map record_type) e

  declares : (xs : List (ℕ × Placed)) → Declares home (types_of components instances xs) none_before component.members
  declares xs =
      record {
        fields = λ i. ap (λ (o : Option Component). declared_at field_of o (0 + i)) there ∙ ap (slice_get (flat_map (λ (one : Member). field_of one.kind) component.members)) (omega arith);
        parameters = λ i. ap (λ (o : Option Component). declared_at parameter_of o (0 + i)) there ∙ ap (slice_get (flat_map (λ (one : Member). parameter_of one.kind) component.members)) (omega arith);
      }

  module _ (xs rest : List (ℕ × Placed)) (from : From (types_of components instances xs) home.first (methods ++ rest)) where
    abbrev these : Types
    these = types_of components instances xs

    is_numbered : Numbered home these none_before component.members
    is_numbered = numbered home these home.first none_before component.members judged_members rest (omega arith) (declares xs) from

    scope_fits : ScopeFits (surroundings these home) [] (member_scope home)
    scope_fits = members_fit home these is_numbered (known_records xs)

    home_fits : HomeFits these home
    home_fits =
        record {
          members = scope_fits;
          fields = λ name found e. field_found home these name none_before component.members found is_numbered e;
          methods = methods_fit home these component.members judged_members sound.methods scope_fits;
        }

    pub walked : Resolved these true (λ all. ActsHave (surroundings these home) true false [] [] all) (template_of home component.nodes)
    walked = sound.template.has_types these home_fits

  -- the template, and what it places
  abbrev pub made : Placing (List Act)
  made = (walked (methods ++ []) [] (record { bodies = λ n h. refl; templates = λ n h. refl })).it

  made_is : template_of home component.nodes ≡ fine made
  made_is = (walked (methods ++ []) [] (record { bodies = λ n h. refl; templates = λ n h. refl })).is

  abbrev pub all_placed : List (ℕ × Placed)
  all_placed = methods ++ made.placed

  pub acts_are : component_acts home component ≡ fine (placing made.made all_placed)
  unfolding component_acts
  acts_are = ap (λ z. z >>= λ u. template_of home component.nodes) (members_are home home.first component.members judged_members) ∙ ap (behind_placed methods) made_is

  pub rising : Between home.first (home.first + span component) all_placed
  rising =
      between_both home.first (home.first + length component.members) (home.first + span component) methods made.placed
      ((rises_members home home.first component.members).between (placing tt methods) (members_are home home.first component.members judged_members))
      (higher (between_wider (home.first + length component.members) (home.first + length component.members + 0) (home.first + length component.members + sum (map numbers_of component.nodes)) made.placed (omega arith) (sound.template.rises.between made made_is)))
    where
      higher : Between (home.first + length component.members) (home.first + length component.members + sum (map numbers_of component.nodes)) made.placed → Between (home.first + length component.members) (home.first + span component) made.placed
      higher h = let is : home.first + length component.members + sum (map numbers_of component.nodes) ≡ home.first + span component = omega arith in subst (λ n. Between (home.first + length component.members) n made.placed) is h

  same_made : (x : Placing (List Act)) → template_of home component.nodes ≡ fine x → x ≡ made
  same_made x e = let k : fine x ≡ fine made = sym e ∙ made_is in cc

  -- where the types of the program know all of it
  module _ (xs rest : List (ℕ × Placed)) (from : From (types_of components instances xs) home.first (all_placed ++ rest)) (known : AllKnown (types_of components instances xs) all_placed) where
    abbrev all_types : Types
    all_types = types_of components instances xs

    from_methods : From all_types home.first (methods ++ (made.placed ++ rest))
    from_methods = subst (λ z. From all_types home.first z) (append_assoc methods made.placed rest) from

    template_fits : ActsHave (surroundings all_types home) true false [] [] made.made × AllFitting all_types true made.placed
    template_fits =
        let again = walked xs (made.placed ++ rest) from_methods in
        let same : again.it ≡ made = same_made again.it again.is in
        subst (λ (z : Placing (List Act)). AllKnown all_types z.placed → ActsHave (surroundings all_types home) true false [] [] z.made × AllFitting all_types true z.placed) same again.fits (known_second all_types methods made.placed known)

    pub acts_have : ActsHave (surroundings all_types home) true false [] [] made.made
    acts_have = template_fits.0

    pub all_fit : AllFitting all_types true all_placed
    all_fit = fitting_both all_types methods made.placed (entries_fit home all_types (scope_fits xs (made.placed ++ rest) from_methods) home.first component.members judged_members sound.methods) template_fits.1
