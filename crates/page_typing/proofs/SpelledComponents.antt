-- Components that files spell are formed, where no tags of components are in them.
use Rattle.std.proofs.Common.{◌≡◌, ℕ, ◌+◌, List, [], ◌∷◌, map, length, refl, sym, subst, arith}
use Rattle.std.specs.Prelude.{Bool, true, false}
use Rattle.cs_ast.specs.declared.member.Member.{Member}
use Rattle.cs_token.specs.declared.token.Token.{Token}
use Rattle.razor_token.specs.declared.piece.Piece.{Piece}
use Rattle.razor_ast.specs.declared.component.Component.{Component}
use Rattle.razor_ast.specs.declared.node.TNode.{TNode}
use Rattle.razor_ast.specs.Components.{SpelledBlock, Whole}
use Rattle.razor_ast.specs.Components as spelled
use Rattle.razor_ast.specs.Literals.{place_of, is_edge}
use Rattle.razor_ast.specs.Nesting.{open_at}
use Rattle.razor_rules.specs.Programs.{home_of, IsAccepted, IsSpelled}
use Rattle.cs_meaning.specs.State.{Fields}
use Rattle.cs_typing.specs.Bodies.{BodiesHave}
use Rattle.cs_typing.specs.States.{FieldsHave}
use Rattle.cs_typing.specs.Types.{Types}
use Rattle.page_meaning.specs.Fresh.{fresh_alone, of_items}
use Rattle.cs_ast.specs.declared.value.Value.{Value}
use Rattle.cs_meaning.specs.Meaning.{setting}
use Rattle.cs_meaning.specs.Outcome.{Outcome}
use Rattle.cs_meaning.specs.Outcome as outcome
use Rattle.cs_rules.specs.Judged.{fine}
use Rattle.cs_typing.specs.Outcomes.{Fits, no_jump}
use Rattle.cs_typing.specs.Settings.{SettingHas}
use Rattle.drawing_meaning.specs.Acts.{Act}
use Rattle.page_meaning.specs.Initial.{no_fields, fields_of, initial_fields}
use Rattle.page_meaning.specs.Resolved.{Placing}
use Rattle.page_meaning.specs.Items.{component_acts, bodies, templates, items}
use Rattle.page_meaning.specs.ProgramTypes.{program_types}
use Rattle.page_typing.specs.Drawings.{DrawnFits, ItemsDrawn, AreWhole}
use Rattle.page_typing.specs.Templates.{TemplatesHave}
use Rattle.page_typing.proofs.Drawing.{weaker_drawn}
use Rattle.page_typing.proofs.AloneRules.{Sound, is_sound}
use Rattle.page_typing.proofs.AloneTypes.{acts_are, types_are, bodies_have, templates_have}
use Rattle.page_typing.specs.Formed.{MethodsFormed, ContentFormed}
use Rattle.page_typing.specs.Formed as formed
use Rattle.page_typing.specs.Pages.{any_tag, has_tag, NoTags, NoParameters, ValuesBegun, IsAlone, IsShown, one_instance}
use Rattle.page_typing.proofs.AlonePages.{all_types, drawn_shown, page_shown, over_fields, setting_has, initial_have}
use Rattle.page_typing.proofs.SpelledExpressions.{members_formed, formed_both}
use Rattle.page_typing.proofs.SpelledTemplates.{texts_formed, append_nil, item_formed}
use Rattle.page_typing.proofs.TagLaws.{not_first, not_second, not_behind}

block_formed : (ts : List Token) (members : List Member) → SpelledBlock ts members → MethodsFormed members
block_formed ts members (spelled.block o c us _ _ h _) = members_formed us members h

-- a file, from some piece on
record WholeFormed (n : ℕ) (members : List Member) (nodes : List TNode) : Type 0 where
  next : ℕ
  content : ContentFormed n next nodes
  methods : MethodsFormed members

module _ (around : Piece → List ℕ) where
  whole_formed : (edge : Bool) (n : ℕ) (ps : List Piece) (disposes : Bool) (members : List Member) (nodes : List TNode) → Whole around edge n ps disposes members nodes → any_tag (map has_tag nodes) ≡ false → WholeFormed n members nodes
  whole_formed edge n ps disposes members nodes (spelled.last _ _ said _ _) e =
      record {
        next = n + length nodes;
        content = subst (λ z. ContentFormed n (n + length nodes) z) (append_nil nodes) (texts_formed edge true n (n + length nodes) (place_of ps) said nodes [] refl (formed.no_content (n + length nodes)));
        methods = tt;
      }
  whole_formed edge n ps disposes members nodes (spelled.item _ _ _ i said p _ us vs texts others node _ _ is h hs) e =
      let none = not_behind texts (node ∷ others) e in
      let one = item_formed around (n + length texts) i (p ∷ us) vs node h (not_first (has_tag node) _ none) in
      let more = whole_formed (is_edge p.kind) i vs disposes members others hs (not_second (has_tag node) _ none) in
      record {
        next = more.next;
        content = texts_formed edge (is_edge p.kind) n more.next (place_of ps) said texts (node ∷ others) is (formed.some_content (n + length texts) i more.next node others one.1 one.0 more.content);
        methods = more.methods;
      }
  whole_formed edge n ps disposes members nodes (spelled.code _ _ _ said at end _ vs ts texts others first behind _ is _ members_in _ hs) e =
      let more = whole_formed true (n + length texts) vs disposes behind others hs (not_behind texts others e) in
      record {
        next = more.next;
        content = texts_formed edge true n more.next (place_of ps) said texts others is more.content;
        methods = formed_both first behind (block_formed ts first members_in) more.methods;
      }
  whole_formed edge n ps disposes members nodes (spelled.directive _ _ _ said at end _ vs ts texts others _ _ is _ _ hs) e =
      let more = whole_formed true (n + length texts) vs disposes members others hs (not_behind texts others e) in
      record { next = more.next; content = texts_formed edge true n more.next (place_of ps) said texts others is more.content; methods = more.methods }
  whole_formed edge n ps disposes members nodes (spelled.implements _ other _ said at _ vs texts others _ _ is _ hs) e =
      let more = whole_formed true (n + length texts) vs other members others hs (not_behind texts others e) in
      record { next = more.next; content = texts_formed edge true n more.next (place_of ps) said texts others is more.content; methods = more.methods }

pub spelled_alone : (component : Component) → IsSpelled component → NoTags component.nodes → NoParameters component.members → IsAlone component
spelled_alone component h e none =
    let pieces = h.2.spelled.pieces in
    let whole = whole_formed (open_at pieces) true 0 _ component.disposes component.members component.nodes h.2.spelled.spelled e in
    record { numbers = whole.next; content = whole.content; methods = whole.methods; no_parameters = none }

module _ (component : Component) (accepted : IsAccepted (component ∷ [])) (e : NoTags component.nodes) (none : NoParameters component.members) where
  abbrev alone : IsAlone component
  alone = spelled_alone component (accepted.spelled 0 component (omega arith)) e none

  abbrev sound : Sound component
  sound = is_sound component accepted.sound

  abbrev types : Types
  types = program_types (component ∷ []) one_instance

  pub accepted_shown : IsShown (fresh_alone component)
  accepted_shown = page_shown component sound alone

  pub accepted_keep : BodiesHave types (bodies (component ∷ [])) × TemplatesHave types false (templates (component ∷ []))
  accepted_keep =
      let is = sym (types_are component sound alone) in
      (subst (λ z. BodiesHave z (bodies (component ∷ []))) is (bodies_have component sound alone), subst (λ z. TemplatesHave z false (templates (component ∷ []))) is (templates_have component sound alone))

  pub accepted_items : (fields : Fields) (depth : ℕ) → FieldsHave types types.fields fields
      → IsShown (of_items (items (component ∷ []) no_fields fields 0 component 1 depth)) × DrawnFits (λ all d. AreWhole types all) (items (component ∷ []) no_fields fields 0 component 1 depth)
  accepted_items fields depth h =
      let drawn = over_fields component sound alone fields depth (subst (λ (z : Types). FieldsHave z z.fields fields) (types_are component sound alone) h) in (
        drawn_shown _ _ drawn,
        subst (λ (z : Types). DrawnFits (λ all d. AreWhole z all) (items (component ∷ []) no_fields fields 0 component 1 depth)) (sym (types_are component sound alone))
            (weaker_drawn (ItemsDrawn (all_types component sound alone) false []) (λ all d. AreWhole (all_types component sound alone) all) (items (component ∷ []) no_fields fields 0 component 1 depth) (λ all d k. k.0 refl) drawn),
      )

  pub accepted_acts : (it : Placing (List Act)) × (component_acts (home_of (component ∷ []) 0 component) component ≡ fine it)
  accepted_acts = (_, acts_are component sound alone)

  pub accepted_setting : (calls : ℕ) → SettingHas (record { types = types; component = 0 }) (setting 1 no_fields (bodies (component ∷ [])) calls)
  accepted_setting calls = subst (λ (z : Types). SettingHas (record { types = z; component = 0 }) (setting 1 no_fields (bodies (component ∷ [])) calls)) (sym (types_are component sound alone)) (setting_has component sound alone calls)

  begun : (given : Types) (good : List Value → Type 0) (it : Outcome (List Value)) → Fits (no_jump given) (λ values s. good values) it → ValuesBegun good it
  begun given good (outcome.gives values s) h = h
  begun given good (outcome.faults met s) h = tt
  begun given good (outcome.breaks s) h = h
  begun given good (outcome.continues s) h = h
  begun given good (outcome.returns x s) h = h
  begun given good outcome.stuck h = h

  pub accepted_begun : ValuesBegun (λ values. FieldsHave types types.fields (fields_of 1 values)) (initial_fields (home_of (component ∷ []) 0 component) 1 component.members)
  accepted_begun =
      subst (λ (z : Types). ValuesBegun (λ values. FieldsHave z z.fields (fields_of 1 values)) (initial_fields (home_of (component ∷ []) 0 component) 1 component.members)) (sym (types_are component sound alone))
      (begun _ _ (initial_fields (home_of (component ∷ []) 0 component) 1 component.members) (initial_have component sound alone))
