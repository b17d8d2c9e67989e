-- The printed text of a component spells it again.
use Rattle.std.proofs.Common.{◌≡◌, ℕ, List, sym, subst}
use Rattle.printable_texts.proofs.Theorems.{spelled_prints}
use Rattle.printing_nodes.specs.Answers.{SpellsAgain}
use Rattle.printing_nodes.proofs.Theorems.{component_again}
use Rattle.razor_ast.specs.Components.{Spells}
use Rattle.razor_ast.specs.declared.component.Component.{Component}
use Rattle.razor_print.specs.Components.{component_text}

pub spelled_again : (printed : List ℕ) (a : Component) → printed ≡ component_text a → (text : List ℕ) → Spells text a → SpellsAgain printed a
spelled_again printed a e text h = subst (λ z. SpellsAgain z a) (sym e) (component_again a (spelled_prints text a h) text h)
