-- What edits do at one place.
use Rattle.std.proofs.Common.{◌≡◌, ℕ, zero, suc, ◌+◌, ◌-◌, ◌<◌, ◌≤◌, Bool, true, false, cond, List, [], ◌∷◌, ◌++◌, length, map, slice_get, slice_set, insert, remove, Option, Some, None, Result, Ok, Err, refl, sym, ap, ◌∙◌, subst, arith, append_assoc, append-nil}
use Rattle.std.specs.List.{fold}
use Rattle.page_core.specs.declared.faults.ApplyFault.{ApplyFault}
use Rattle.frame_core.specs.declared.item_attribute.ItemAttribute.{ItemAttribute}
use Rattle.frame_core.specs.declared.wire_node.WireAttribute.{WireAttribute}
use Rattle.frame_core.specs.declared.edit.Edit.{Edit}
use Rattle.frame_core.specs.declared.edit.Edit.TheVariants as edit
use Rattle.edit_meaning.specs.declared.names.Names.{Names}
use Rattle.edit_meaning.specs.declared.browser_node.BrowserNode.{BrowserNode}
use Rattle.edit_meaning.specs.declared.browser_node.BrowserNode.TheViews.{out-BrowserNode, out-roll-BrowserNode}
use Rattle.edit_meaning.specs.declared.browser_node.BrowserNode.TheOpen.{BrowserNode-F}
use Rattle.edit_meaning.specs.declared.browser_node.BrowserNode.TheVariants as node
use Rattle.edit_meaning.specs.declared.level.Level.{Level}
use Rattle.edit_meaning.specs.Attributes.{set_under, has_name, unset_under}
use Rattle.edit_meaning.specs.Focus.{Tree, Focus}
use Rattle.edit_meaning.specs.Edits.{with_components, and_then, edited, all_edited, changed_at, put, with_attribute, without_attribute, with_text, with_markup, entered, entered_at}
use Rattle.pairing_meaning.specs.Wires.{wire_attribute}
use Rattle.pairing_meaning.specs.Turning.{put_in, all_put_in, focused, Turns}
use Rattle.sibling_edits.proofs.TurnLemmas.{edited-append, put_in-append, turns-none, turns-append, Step, still, turns-more, turns-same, insert-seam, remove-seam}
use Rattle.item_edits.specs.Named.{set_of, unset_of}
use Rattle.item_edits.specs.Steps.{At}

pub out-text : (born : ℕ) (text : List ℕ) → out-BrowserNode (node.Text born text) ≡ BrowserNode-F.Text born text
out-text born text = ap out-BrowserNode (sym (node.rolls-Text born text)) ∙ out-roll-BrowserNode (BrowserNode-F.Text born text)

pub out-markup : (born : ℕ) (text : List ℕ) → out-BrowserNode (node.Markup born text) ≡ BrowserNode-F.Markup born text
out-markup born text = ap out-BrowserNode (sym (node.rolls-Markup born text)) ∙ out-roll-BrowserNode (BrowserNode-F.Markup born text)

pub out-element : (born : ℕ) (name : List ℕ) (names : Names) (xs : List BrowserNode) → out-BrowserNode (node.Element born name names xs) ≡ BrowserNode-F.Element born name names xs
out-element born name names xs = ap out-BrowserNode (sym (node.rolls-Element born name names xs)) ∙ out-roll-BrowserNode (BrowserNode-F.Element born name names xs)

get-seam : (front : List BrowserNode) (x : BrowserNode) (rest : List BrowserNode) (k : ℕ) → length front ≡ k → slice_get (front ++ x ∷ rest) k ≡ Some x
get-seam [] x rest zero e = refl
get-seam [] x rest (suc k) e = absurd (omega arith)
get-seam (y ∷ front) x rest zero e = absurd (omega arith)
get-seam (y ∷ front) x rest (suc k) e = get-seam front x rest k (omega arith)

set-seam : (front : List BrowserNode) (x z : BrowserNode) (rest : List BrowserNode) (k : ℕ) → length front ≡ k → slice_set (front ++ x ∷ rest) k z ≡ front ++ z ∷ rest
set-seam [] x z rest zero e = refl
set-seam [] x z rest (suc k) e = absurd (omega arith)
set-seam (y ∷ front) x z rest zero e = absurd (omega arith)
set-seam (y ∷ front) x z rest (suc k) e = ap (λ ys. y ∷ ys) (set-seam front x z rest k (omega arith))

-- a change of the node at a place
change-step : (k : ℕ) (x z : BrowserNode) (layer : BrowserNode-F BrowserNode) (change : BrowserNode-F BrowserNode → Result BrowserNode ApplyFault) (front rest : List BrowserNode) (above : List Level) (tree : Tree)
    → length front ≡ k → out-BrowserNode x ≡ layer → change layer ≡ Ok z
    → changed_at k (focused (front ++ x ∷ rest) above tree) change (slice_get (front ++ x ∷ rest) k) ≡ Ok (focused (front ++ z ∷ rest) above tree)
change-step k x z layer change front rest above tree e out is =
    let f : Focus = focused (front ++ x ∷ rest) above tree in
    ap (changed_at k f change) (get-seam front x rest k e)
    ∙ ap (λ l. put k f (change l)) out
    ∙ ap (put k f) is
    ∙ ap (λ (xs : List BrowserNode). Ok (focused xs above tree)) (set-seam front x z rest k e)

one-edit : (batch : ℕ) (k : ℕ) (e : Edit) (x z : BrowserNode) → put_in e ≡ []
    → ((front rest : List BrowserNode) (above : List Level) (tree : Tree) → length front ≡ k → edited batch e (focused (front ++ x ∷ rest) above tree) ≡ Ok (focused (front ++ z ∷ rest) above tree))
    → At batch (e ∷ []) k x z
one-edit batch k e x z none step front rest long =
    turns-more batch e [] (front ++ x ∷ rest) (front ++ z ∷ rest) (front ++ z ∷ rest)
    (still batch e (front ++ x ∷ rest) (front ++ z ∷ rest) none (λ above tree. step front rest above tree long))
    (turns-none batch (front ++ z ∷ rest))

pub text-updated : (batch k born : ℕ) (old new : List ℕ) → At batch (edit.UpdateText k new ∷ []) k (node.Text born old) (node.Text born new)
text-updated batch k born old new =
    one-edit batch k (edit.UpdateText k new) (node.Text born old) (node.Text born new) refl
    (λ front rest above tree e. change-step k (node.Text born old) (node.Text born new) (BrowserNode-F.Text born old) (with_text new) front rest above tree e (out-text born old) refl)

pub markup-updated : (batch k born : ℕ) (old new : List ℕ) → At batch (edit.UpdateMarkup k new ∷ []) k (node.Markup born old) (node.Markup born new)
markup-updated batch k born old new =
    one-edit batch k (edit.UpdateMarkup k new) (node.Markup born old) (node.Markup born new) refl
    (λ front rest above tree e. change-step k (node.Markup born old) (node.Markup born new) (BrowserNode-F.Markup born old) (with_markup new) front rest above tree e (out-markup born old) refl)

pub name-set : (batch k born : ℕ) (name : List ℕ) (names : Names) (xs : List BrowserNode) (attribute : WireAttribute)
    → At batch (edit.Set k attribute ∷ []) k (node.Element born name names xs) (node.Element born name (set_under names attribute) xs)
name-set batch k born name names xs attribute =
    one-edit batch k (edit.Set k attribute) (node.Element born name names xs) (node.Element born name (set_under names attribute) xs) refl
    (λ front rest above tree e. change-step k (node.Element born name names xs) (node.Element born name (set_under names attribute) xs) (BrowserNode-F.Element born name names xs) (with_attribute attribute) front rest above tree e (out-element born name names xs) refl)

pub name-unset : (batch k born : ℕ) (name : List ℕ) (names : Names) (xs : List BrowserNode) (gone : List ℕ) → has_name names gone ≡ true
    → At batch (edit.Unset k gone ∷ []) k (node.Element born name names xs) (node.Element born name (unset_under names gone) xs)
name-unset batch k born name names xs gone has =
    one-edit batch k (edit.Unset k gone) (node.Element born name names xs) (node.Element born name (unset_under names gone) xs) refl
    (λ front rest above tree e. change-step k (node.Element born name names xs) (node.Element born name (unset_under names gone) xs) (BrowserNode-F.Element born name names xs) (without_attribute gone) front rest above tree e (out-element born name names xs) (rw has refl))

pub at-same : (batch k : ℕ) (x y : BrowserNode) → x ≡ y → At batch [] k x y
at-same batch k x y same front rest e = turns-same batch [] (front ++ x ∷ rest) (front ++ x ∷ rest) (front ++ x ∷ rest) (front ++ y ∷ rest) refl (ap (λ z. front ++ z ∷ rest) same) (turns-none batch (front ++ x ∷ rest))

pub at-append : (batch k : ℕ) (edits more : List Edit) (x y z : BrowserNode) → At batch edits k x y → At batch more k y z → At batch (edits ++ more) k x z
at-append batch k edits more x y z first then_more front rest e =
    turns-append batch edits more (front ++ x ∷ rest) (front ++ y ∷ rest) (front ++ z ∷ rest) (first front rest e) (then_more front rest e)

-- names set one after the other
pub names-set : (batch k born : ℕ) (name : List ℕ) (xs : List BrowserNode) (attributes : List ItemAttribute) (names : Names)
    → At batch (map (set_of k) attributes) k (node.Element born name names xs) (node.Element born name (fold set_under names (map wire_attribute attributes)) xs)
names-set batch k born name xs [] names = at-same batch k (node.Element born name names xs) (node.Element born name names xs) refl
names-set batch k born name xs (attribute ∷ attributes) names =
    at-append batch k (edit.Set k (wire_attribute attribute) ∷ []) (map (set_of k) attributes) (node.Element born name names xs) (node.Element born name (set_under names (wire_attribute attribute)) xs)
    (node.Element born name (fold set_under names (map wire_attribute (attribute ∷ attributes))) xs)
    (name-set batch k born name names xs (wire_attribute attribute))
    (names-set batch k born name xs attributes (set_under names (wire_attribute attribute)))

abbrev level : List BrowserNode → ℕ → ℕ → List ℕ → Names → Level
level xs k born name names = record { siblings = xs; place = k; born = born; name = name; names = names }

in-step : (batch k born : ℕ) (name : List ℕ) (names : Names) (xs front rest : List BrowserNode) (above : List Level) (tree : Tree) → length front ≡ k
    → edited batch (edit.StepIn k) (focused (front ++ node.Element born name names xs ∷ rest) above tree) ≡ Ok (focused xs (level (front ++ rest) k born name names ∷ above) tree)
in-step batch k born name names xs front rest above tree e =
    let f : Focus = focused (front ++ node.Element born name names xs ∷ rest) above tree in
    ap (entered_at k f) (get-seam front (node.Element born name names xs) rest k e)
    ∙ ap (entered k f) (out-element born name names xs)
    ∙ ap (λ (ys : List BrowserNode). Ok (focused xs (level ys k born name names ∷ above) tree)) (remove-seam front (node.Element born name names xs) rest k e)

out-step : (batch k born : ℕ) (name : List ℕ) (names : Names) (ys front rest : List BrowserNode) (above : List Level) (tree : Tree) → length front ≡ k
    → edited batch edit.StepOut (focused ys (level (front ++ rest) k born name names ∷ above) tree) ≡ Ok (focused (front ++ node.Element born name names ys ∷ rest) above tree)
out-step batch k born name names ys front rest above tree e = ap (λ (zs : List BrowserNode). Ok (focused zs above tree)) (insert-seam front (node.Element born name names ys) rest k e)

pub wrapped : (batch k born : ℕ) (name : List ℕ) (names : Names) (edits : List Edit) (xs ys : List BrowserNode) → Turns batch edits xs ys
    → At batch (edit.StepIn k ∷ (edits ++ edit.StepOut ∷ [])) k (node.Element born name names xs) (node.Element born name names ys)
wrapped batch k born name names edits xs ys turns front rest e above before after is =
    let inside = level (front ++ rest) k born name names ∷ above in
    let takes : with_components (all_put_in edits) before ≡ Ok after =
    sym (ap (λ numbers. with_components numbers before) (put_in-append edits (edit.StepOut ∷ []) ∙ append-nil (all_put_in edits))) ∙ is in
    ap (λ (r : Result Focus ApplyFault). and_then r (all_edited batch (edits ++ edit.StepOut ∷ []))) (in-step batch k born name names xs front rest above before e)
    ∙ edited-append batch edits (edit.StepOut ∷ []) (focused xs inside before)
    ∙ ap (λ (r : Result Focus ApplyFault). and_then r (all_edited batch (edit.StepOut ∷ []))) (turns inside before after takes)
    ∙ ap (λ (r : Result Focus ApplyFault). and_then r (all_edited batch [])) (out-step batch k born name names ys front rest above after e)
