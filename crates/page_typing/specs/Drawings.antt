-- Which drawings keep to the types, and which items have no component in them.
use Rattle.std.specs.Prelude.{◌≡◌, ℕ, Bool, true, false, IsTrue, List, [], ◌∷◌, Some}
use Rattle.cs_ast.specs.declared.cs_type.CsType.{CsType}
use Rattle.cs_ast.specs.declared.cs_type.CsType.TheVariants as t
use Rattle.cs_ast.specs.declared.value.Value.{Value}
use Rattle.cs_ast.specs.declared.value.Value.TheVariants as v
use Rattle.cs_typing.specs.Types.{Signature, Types}
use Rattle.cs_typing.specs.Values.{ValueHas, ValuesHave}
use Rattle.cs_typing.specs.Expressions.{Surroundings}
use Rattle.cs_typing.specs.States.{StateHas, StateBegins}
use Rattle.cs_typing.specs.Settings.{SettingHas}
use Rattle.drawing_meaning.specs.declared.output.Output.{Output}
use Rattle.drawing_meaning.specs.Drawing.{Drawing, Drawn, gives, faults, stuck}
use Rattle.drawing_meaning.specs.Stages.{Stage, Show}
use Rattle.frame_core.specs.declared.item.Item.{Item}
use Rattle.frame_core.specs.declared.item.Item.TheVariants as item
use Rattle.frame_core.specs.declared.item_attribute.ItemAttribute.{ItemAttribute}
use Rattle.frame_core.specs.declared.item_attribute.ItemValue.{ItemValue}
use Rattle.frame_core.specs.declared.item_attribute.ItemValue.TheVariants as stands
use Rattle.razor_rules.specs.Elements.{event_type}

-- what isn't stuck, and of which this holds where it gives something
abbrev pub DrawnFits : {A : Type 0} → (A → Drawing → Type 0) → Drawn A → Type 0
DrawnFits good (gives x d) = good x d
DrawnFits good (faults fault d) = Unit {0}
DrawnFits good stuck = ⊥

-- the locals have these types, and what outlives code keeps its types
abbrev pub DrawingHas : Types → List CsType → Drawing → Type 0
DrawingHas types locals d = StateHas types locals d.state

-- the outermost locals have these types, and further ones may follow
abbrev pub DrawingBegins : Types → List CsType → Drawing → Type 0
DrawingBegins types locals d = StateBegins types locals d.state

-- the type of what an event of a name hands over
abbrev pub event_argument : List ℕ → CsType
event_argument name = event_type (64 ∷ name)

-- a handler of a name is a callback of an instance that is there, which takes what the event hands over
abbrev pub HandlerHas : Types → List ℕ → ItemValue → Type 0
HandlerHas types name (stands.Text said) = Unit {0}
HandlerHas types name (stands.Handler handler) = ValueHas types (t.Callback (Some (event_argument name))) (v.Callback handler.who handler.place handler.captures)

abbrev pub HandlersHave : Types → List ItemAttribute → Type 0
HandlersHave types [] = Unit {0}
HandlersHave types (one ∷ others) = HandlerHas types one.name one.value × HandlersHave types others

mutual
  -- an item that no component is part of, with handlers of their types
  pub data IsWhole (types : Types) : Item → Type 0 where
    element : (number : ℕ) (name : List ℕ) (key : Value) (attributes : List ItemAttribute) (children : List Item) →
        HandlersHave types attributes → AreWhole types children → IsWhole types (item.Element number name key attributes children)
    text : (number : ℕ) (said : List ℕ) → IsWhole types (item.Text number said)
    markup : (number : ℕ) (said : List ℕ) → IsWhole types (item.Markup number said)
    region : (number : ℕ) (key : Value) (children : List Item) → AreWhole types children → IsWhole types (item.Region number key children)

  -- all of these
  pub data AreWhole (types : Types) : List Item → Type 0 where
    none : AreWhole types []
    more : (one : Item) (others : List Item) → IsWhole types one → AreWhole types others → AreWhole types (one ∷ others)

-- where no tags of components stand, items are whole
abbrev pub WholeUnless : Types → Bool → List Item → Type 0
WholeUnless types components items = components ≡ false → AreWhole types items

-- a value of this type, with locals of these types
abbrev pub ValueDrawn : Types → List CsType → CsType → Value → Drawing → Type 0
ValueDrawn types locals type x d = ValueHas types type x × DrawingHas types locals d

-- items, with locals of these types
abbrev pub ItemsDrawn : Types → Bool → List CsType → List Item → Drawing → Type 0
ItemsDrawn types components locals items d = WholeUnless types components items × DrawingHas types locals d

-- where a `break` leads out, further locals may follow the first; else the locals have the second types
abbrev pub BehindOutput : Types → Bool → List CsType → List CsType → Bool → Drawing → Type 0
BehindOutput types breaks locals inner true d = IsTrue breaks × DrawingBegins types locals d
BehindOutput types breaks locals inner false d = DrawingHas types inner d

-- what parts of a template give, which a `break` may lead out of or not
abbrev pub OutputDrawn : Types → Bool → Bool → List CsType → List CsType → Output → Drawing → Type 0
OutputDrawn types components breaks locals inner out d = WholeUnless types components out.items × BehindOutput types breaks locals inner out.broke d

-- fragments of instances that are there show something over captures of their types, and leave the locals as they are
abbrev pub ShowHas : Types → Bool → Show → Type 0
ShowHas types components show =
    (who place : ℕ) (template : Signature) (captures : List Value) (depth : ℕ) (locals : List CsType) (d : Drawing) → types.templates place ≡ Some template →
    types.instances who ≡ Some template.component → ValuesHave types template.locals captures → DrawingHas types locals d →
    DrawnFits (ItemsDrawn types components locals) (show who place captures depth d)

-- what parts of a template are drawn by keeps to the types
pub record StageHas (at : Surroundings) (components : Bool) (stage : Stage) : Type 0 where
  pub around : SettingHas at stage.around
  pub shows : ShowHas at.types components stage.show
