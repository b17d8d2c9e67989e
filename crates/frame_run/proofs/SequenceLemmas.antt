-- Parts of a template one after another, as loops draw them: what is there so far, in front of what the others make.
use Rattle.std.proofs.Common.{◌≡◌, ℕ, List, [], ◌∷◌, ◌++◌, true, false, refl, sym, ap, ◌∙◌, append_assoc}
use Rattle.std.proofs.lemmas.List.{append-nil}
use Rattle.std.specs.Prelude.{Bool, cond}
use Rattle.cs_ast.specs.declared.value.Value.{Value}
use Rattle.frame_core.specs.declared.item.Item.{Item}
use Rattle.frame_core.specs.declared.item.ItemParameter.{ItemParameter}
use Rattle.frame_core.specs.declared.item_attribute.ItemAttribute.{ItemAttribute}
use Rattle.drawing_meaning.specs.declared.output.Dress.{Dress}
use Rattle.drawing_meaning.specs.declared.output.Gifts.{Gifts}
use Rattle.drawing_meaning.specs.declared.output.Output.{Output}
use Rattle.drawing_meaning.specs.Acts.{output, behind, unless_broke}
use Rattle.drawing_meaning.specs.Attributes.{dress}
use Rattle.drawing_meaning.specs.Drawing.{Drawing, Drawn, Draws, gives, faults, stuck, and_then, done}
use Rattle.drawing_meaning.specs.Tags.{gifts}

-- items in front of an output
abbrev pub in_front_of : List Item → Drawn Output → Drawn Output
in_front_of front drawn = and_then drawn (λ out d. gives (behind front out) d)

pub order_start : (drawn : Drawn Output) → drawn ≡ in_front_of [] drawn
order_start (gives out d) = refl
order_start (faults fault d) = refl
order_start stuck = refl

behind_both : (front : List Item) (out : Output) (drawn : Drawn Output) → in_front_of front (and_then drawn (λ other d. gives (behind out.items other) d)) ≡ in_front_of (front ++ out.items) drawn
behind_both front out (gives other d) = ap (λ (l : List Item). gives (record other { items = l }) d) (sym (append_assoc front out.items other.items))
behind_both front out (faults fault d) = refl
behind_both front out stuck = refl

-- an output that no `break` leads out of
pub order_more : (front : List Item) (out : Output) (next : Draws Output) (d : Drawing) → out.broke ≡ false → in_front_of front (unless_broke out next d) ≡ in_front_of (front ++ out.items) (next d)
order_more front out next d goes_on =
    ap (λ (b : Bool). in_front_of front ((cond {A = Draws Output} b (λ (e : Drawing). gives out e) (λ (e : Drawing). and_then (next e) (λ other f. gives (behind out.items other) f))) d)) goes_on
    ∙ behind_both front out (next d)

-- one that a `break` leads out of
pub order_broke : (front : List Item) (out : Output) (next : Draws Output) (d : Drawing) → out.broke ≡ true → in_front_of front (unless_broke out next d) ≡ gives (record { items = front ++ out.items; broke = true }) d
order_broke front out next d broke =
    ap (λ (b : Bool). in_front_of front ((cond {A = Draws Output} b (λ (e : Drawing). gives out e) (λ (e : Drawing). and_then (next e) (λ other f. gives (behind out.items other) f))) d)) broke
    ∙ ap (λ (b : Bool). gives (record { items = front ++ out.items; broke = b }) d) broke

pub order_end : (front : List Item) (d : Drawing) → in_front_of front (gives (output []) d) ≡ gives (output front) d
order_end front d = ap (λ (l : List Item). gives (output l) d) (append-nil front)

-- attributes in front of a dress
abbrev pub worn_before : List ItemAttribute → Drawn Dress → Drawn Dress
worn_before front drawn = and_then drawn (λ rest d. gives (dress (front ++ rest.worn) rest.key) d)

pub worn_start : (drawn : Drawn Dress) → drawn ≡ worn_before [] drawn
worn_start (gives it d) = refl
worn_start (faults fault d) = refl
worn_start stuck = refl

pub worn_behind : (front : List ItemAttribute) (first : Dress) (drawn : Drawn Dress) → worn_before front (and_then drawn (λ rest d. gives (dress (first.worn ++ rest.worn) rest.key) d)) ≡ worn_before (front ++ first.worn) drawn
worn_behind front first (gives rest d) = ap (λ (l : List ItemAttribute). gives (dress l rest.key) d) (sym (append_assoc front first.worn rest.worn))
worn_behind front first (faults fault d) = refl
worn_behind front first stuck = refl

pub worn_end : (front : List ItemAttribute) (key : Value) (d : Drawing) → worn_before front (gives (dress [] key) d) ≡ gives (dress front key) d
worn_end front key d = ap (λ (l : List ItemAttribute). gives (dress l key) d) (append-nil front)

-- parameters in front of gifts
abbrev pub given_before : List ItemParameter → Drawn Gifts → Drawn Gifts
given_before front drawn = and_then drawn (λ rest d. gives (gifts (front ++ rest.supplied) rest.key) d)

pub given_start : (drawn : Drawn Gifts) → drawn ≡ given_before [] drawn
given_start (gives it d) = refl
given_start (faults fault d) = refl
given_start stuck = refl

pub given_behind : (front : List ItemParameter) (first : Gifts) (drawn : Drawn Gifts) → given_before front (and_then drawn (λ rest d. gives (gifts (first.supplied ++ rest.supplied) rest.key) d)) ≡ given_before (front ++ first.supplied) drawn
given_behind front first (gives rest d) = ap (λ (l : List ItemParameter). gives (gifts l rest.key) d) (sym (append_assoc front first.supplied rest.supplied))
given_behind front first (faults fault d) = refl
given_behind front first stuck = refl

pub given_end : (front : List ItemParameter) (key : Value) (d : Drawing) → given_before front (gives (gifts [] key) d) ≡ gives (gifts front key) d
given_end front key d = ap (λ (l : List ItemParameter). gives (gifts l key) d) (append-nil front)

-- a text in front of another
abbrev pub said_before : List ℕ → Drawn (List ℕ) → Drawn (List ℕ)
said_before front drawn = and_then drawn (λ more d. gives (front ++ more) d)

pub said_start : (drawn : Drawn (List ℕ)) → drawn ≡ said_before [] drawn
said_start (gives it d) = refl
said_start (faults fault d) = refl
said_start stuck = refl

pub said_behind : (front said : List ℕ) (drawn : Drawn (List ℕ)) → said_before front (and_then drawn (λ more d. gives (said ++ more) d)) ≡ said_before (front ++ said) drawn
said_behind front said (gives more d) = ap (λ (l : List ℕ). gives l d) (sym (append_assoc front said more))
said_behind front said (faults fault d) = refl
said_behind front said stuck = refl

pub said_end : (front : List ℕ) (d : Drawing) → said_before front (gives [] d) ≡ gives front d
said_end front d = ap (λ (l : List ℕ). gives l d) (append-nil front)
