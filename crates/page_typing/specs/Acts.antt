-- Which parts of templates keep to the types, form by form.
use Rattle.std.specs.Prelude.{◌≡◌, ℕ, Bool, true, false, IsTrue, List, [], ◌∷◌, ◌++◌, Option, Some, None}
use Rattle.cs_ast.specs.declared.code.Code.{Code}
use Rattle.cs_ast.specs.declared.code.Code.TheVariants as c
use Rattle.cs_ast.specs.declared.cs_type.CsType.{CsType}
use Rattle.cs_ast.specs.declared.cs_type.CsType.TheVariants as t
use Rattle.cs_meaning.specs.Sections.{Section}
use Rattle.cs_typing.specs.Types.{Signature}
use Rattle.cs_typing.specs.Values.{awaited}
use Rattle.cs_typing.specs.Operators.{Shows}
use Rattle.cs_typing.specs.Expressions.{Surroundings, CodeHas, LocalsAre}
use Rattle.cs_typing.specs.Statements.{Condition, Stepping}
use Rattle.drawing_meaning.specs.Acts.{Act}
use Rattle.drawing_meaning.specs.Attributes as dress
use Rattle.drawing_meaning.specs.Attributes.{Dresses, wears, keyed_by}
use Rattle.drawing_meaning.specs.Nodes as node
use Rattle.drawing_meaning.specs.Nodes.{Appears, as_text, as_markup, as_fragment}
use Rattle.drawing_meaning.specs.Tags as tag
use Rattle.drawing_meaning.specs.Tags.{Gives}
use Rattle.drawing_meaning.specs.Texts.{Says, literal, shown_code}
use Rattle.drawing_meaning.specs.Turns as turns
use Rattle.frame_core.specs.declared.made.Made.{Made}
use Rattle.page_typing.specs.Drawings.{event_argument}

-- how values of a type are shown as content
pub data AppearsAs : CsType → Appears → Type 0 where
  text : (type : CsType) → Shows type → AppearsAs type as_text
  markup : AppearsAs t.Text as_markup
  fragment : AppearsAs (t.Fragment None) as_fragment

-- whose code uses locals of these types
module _ (at : Surroundings) (locals : List CsType) where
  -- parts of the text of an attribute
  pub data SaysHave : List Says → Type 0 where
    none : SaysHave []
    literal_text : (said : List ℕ) (others : List Says) → SaysHave others → SaysHave (literal said ∷ others)
    shown : (type : CsType) (code : Code) (others : List Says) → Shows type → CodeHas at locals type code → SaysHave others → SaysHave (shown_code code ∷ others)

  -- an attribute, an event, a bound field or a key of an element
  pub data DressHas : Dresses → Type 0 where
    empty : (number : ℕ) (name : List ℕ) → DressHas (wears (dress.empty number name))
    whole : (number : ℕ) (name : List ℕ) (type : CsType) (code : Code) → Shows type → CodeHas at locals type code → DressHas (wears (dress.whole number name code))
    mixed : (number : ℕ) (name : List ℕ) (parts : List Says) → SaysHave parts → DressHas (wears (dress.mixed number name parts))
    event : (number : ℕ) (name : List ℕ) (code : Code) → CodeHas at locals (t.Callback (Some (event_argument name))) code → DressHas (wears (dress.event number name code))
    own_handler : (number : ℕ) (name : List ℕ) (place : ℕ) (body : Signature) →
        at.types.bodies place ≡ Some body → body.component ≡ at.component → body.locals ≡ t.Change ∷ [] → event_argument name ≡ t.Change → DressHas (wears (dress.own_handler number name place))
    key : (type : CsType) (code : Code) → CodeHas at locals type code → DressHas (keyed_by code)

  pub data DressesHave : List Dresses → Type 0 where
    none : DressesHave []
    more : (one : Dresses) (others : List Dresses) → DressHas one → DressesHave others → DressesHave (one ∷ others)

  -- a template of the component by its number, over the locals at these positions
  pub record Captures (number : ℕ) (positions : List ℕ) : Type 0 where
    pub template : Signature
    pub captured : List CsType
    pub argument : Option CsType
    pub numbered : at.types.templates number ≡ Some template
    pub own : template.component ≡ at.component
    pub locals_are : template.locals ≡ captured ++ awaited argument
    pub positions_are : LocalsAre locals captured positions

  -- what the tag of a component gives
  pub data GiveHas : Gives → Type 0 where
    text : (place : ℕ) (said : List ℕ) → GiveHas (tag.given_text place said)
    value : (place : ℕ) (type : CsType) (code : Code) → CodeHas at locals type code → GiveHas (tag.given_value place code)
    key : (type : CsType) (code : Code) → CodeHas at locals type code → GiveHas (tag.given_key code)
    content : (place number : ℕ) (positions : List ℕ) → Captures number positions → GiveHas (tag.given_content place number positions)
    fragment : (place number : ℕ) (positions : List ℕ) → Captures number positions → GiveHas (tag.given_fragment place number positions)

  pub data GivesHave : List Gives → Type 0 where
    none : GivesHave []
    more : (one : Gives) (others : List Gives) → GiveHas one → GivesHave others → GivesHave (one ∷ others)

-- a statement without statements in it, over locals of the first types; behind it they have the second
pub data SimpleHas (at : Surroundings) (locals : List CsType) : List CsType → Code → Type 0 where
  declare : (type : CsType) (code : Code) → CodeHas at locals type code → SimpleHas at locals (locals ++ type ∷ []) (c.Declare code)
  empty : SimpleHas at locals locals c.Empty
  perform : (type : CsType) (code : Code) → CodeHas at locals type code → SimpleHas at locals locals (c.Perform code)

-- the start of a `for`, or none
pub data StartHas (at : Surroundings) (locals : List CsType) : List CsType → Option Code → Type 0 where
  none : StartHas at locals locals None
  some : (within : List CsType) (code : Code) → SimpleHas at locals within code → StartHas at locals within (Some code)

-- whether tags of components may stand there
module _ (at : Surroundings) (components : Bool) where
  mutual
    -- A part of a template, by whether a `break` may lead out of it: over locals of the first types; behind it they have the second.
    pub data ActHas : Bool → List CsType → List CsType → Act → Type 0 where
      element : (breaks : Bool) (locals : List CsType) (number : ℕ) (name : List ℕ) (attributes : List Dresses) (children : List Act) →
          DressesHave at locals attributes → ActsHave false locals locals children → ActHas breaks locals locals (node.element number name attributes children)
      text : (breaks : Bool) (locals : List CsType) (number : ℕ) (said : List ℕ) → ActHas breaks locals locals (node.text number said)
      raw : (breaks : Bool) (locals : List CsType) (number : ℕ) (said : List ℕ) → ActHas breaks locals locals (node.raw number said)
      content : (breaks : Bool) (locals : List CsType) (number : ℕ) (type : CsType) (appears : Appears) (code : Code) →
          AppearsAs type appears → CodeHas at locals type code → ActHas breaks locals locals (node.content number appears code)
      statement : (breaks : Bool) (locals inner : List CsType) (code : Code) → SimpleHas at locals inner code → ActHas breaks locals inner (node.statement code)
      break_out : (breaks : Bool) (locals : List CsType) → IsTrue breaks → ActHas breaks locals locals node.break_out
      block : (breaks : Bool) (locals inner : List CsType) (acts : List Act) → ActsHave breaks locals inner acts → ActHas breaks locals locals (node.block acts)
      branch : (breaks : Bool) (locals inner other_inner : List CsType) (test : Code) (one other : List Act) →
          CodeHas at locals t.Bool test → ActsHave breaks locals inner one → ActsHave breaks locals other_inner other → ActHas breaks locals locals (node.branch test one other)
      switch : (breaks : Bool) (locals : List CsType) (type : CsType) (code : Code) (sections : List (Section (List Act))) →
          CodeHas at locals type code → SectionsHave locals sections → ActHas breaks locals locals (node.switch code sections)
      while_loop : (breaks : Bool) (locals inner : List CsType) (number : ℕ) (test : Code) (keyed : Option ℕ) (body : List Act) →
          CodeHas at locals t.Bool test → ActsHave false locals inner body → ActHas breaks locals locals (turns.while_loop number test keyed body)
      for_loop : (breaks : Bool) (locals within inner : List CsType) (number : ℕ) (start test step : Option Code) (keyed : Option ℕ) (body : List Act) →
          StartHas at locals within start → Condition at within test → Stepping at within step → ActsHave false within inner body →
          ActHas breaks locals locals (turns.for_loop number start test step keyed body)
      for_each : (breaks : Bool) (locals inner : List CsType) (type : CsType) (number : ℕ) (list : Code) (keyed : Option ℕ) (body : List Act) →
          CodeHas at locals (t.List type) list → ActsHave false (locals ++ type ∷ []) inner body → ActHas breaks locals locals (turns.for_each number list keyed body)
      component : (breaks : Bool) (locals : List CsType) (number : ℕ) (made : Made) (parts : List Gives) →
          IsTrue components → GivesHave at locals parts → ActHas breaks locals locals (tag.component number made parts)

    -- one after another
    pub data ActsHave : Bool → List CsType → List CsType → List Act → Type 0 where
      none : (breaks : Bool) (locals : List CsType) → ActsHave breaks locals locals []
      more : (breaks : Bool) (locals between inner : List CsType) (one : Act) (others : List Act) →
          ActHas breaks locals between one → ActsHave breaks between inner others → ActsHave breaks locals inner (one ∷ others)

    -- the sections of a `switch`, each of which a `break` may lead out of
    pub data SectionsHave : List CsType → List (Section (List Act)) → Type 0 where
      no_section : (locals : List CsType) → SectionsHave locals []
      section : (locals inner : List CsType) (one : Section (List Act)) (others : List (Section (List Act))) →
          ActsHave true locals inner one.statements → SectionsHave locals others → SectionsHave locals (one ∷ others)
