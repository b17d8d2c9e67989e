-- What is made of a node takes its place.
use Rattle.std.proofs.Common.{◌≡◌, ◌∙◌, ap, sym, subst, ℕ, ◌<◌, List, length, slice_get, slice_set, Some, Result, Ok, Err}
use Rattle.std.specs.List.{insert, remove}
use Rattle.page_core.specs.declared.faults.ApplyFault.{ApplyFault}
use Rattle.page_core.specs.declared.faults.ApplyFault.TheVariants.{Oom}
use Rattle.edit_meaning.specs.declared.browser_node.BrowserNode.{BrowserNode}
use Rattle.edit_meaning.specs.declared.browser_node.BrowserNode.TheViews.{out-BrowserNode}
use Rattle.edit_meaning.specs.declared.browser_node.BrowserNode.TheOpen.{BrowserNode-F}
use Rattle.edit_meaning.specs.Focus.{Focus}
use Rattle.edit_meaning.specs.Edits.{changed, changed_at, put}
use Rattle.browser_tree.specs.declared.focus.Focus.{Focus as Inner}
use Rattle.browser_tree.specs.Answers.{Fails, Gives}
use Rattle.browser_tree.specs.Standing.{focus_of, Puts}
use Rattle.browser_tree.proofs.FocusLemmas.{put-back}

pub put_gives : (sibling : ℕ) (node found : BrowserNode) (was : Inner) (rest : List BrowserNode) (result : Result Inner ApplyFault) (change : BrowserNode-F BrowserNode → Result BrowserNode ApplyFault)
    → slice_get was.here sibling ≡ Some found → change (out-BrowserNode found) ≡ Ok node → rest ≡ remove was.here sibling → sibling < length was.here
    → Puts sibling node (record was { here = rest }) result → Gives focus_of result (changed sibling (focus_of was) change)
put_gives sibling node found was rest (Ok new) change item is taken within puts =
    ap (changed_at sibling (focus_of was) change) item ∙ ap (put sibling (focus_of was)) is
    ∙ ap (λ here. Ok (record (focus_of was) { here = here })) (sym (ap (λ it. insert it sibling node) taken ∙ put-back was.here sibling node within)) ∙ sym (ap Ok puts)
put_gives sibling node found was rest (Err fault) change item is taken within puts = subst (λ it. Fails it (changed sibling (focus_of was) change)) (sym puts) tt
