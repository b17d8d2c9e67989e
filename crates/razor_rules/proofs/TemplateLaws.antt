-- The equations of templates: what a node comes to by what its parts come to.
use Rattle.std.proofs.Common.{◌≡◌, map, ap, sym, ◌∙◌}
use Rattle.razor_ast.specs.declared.node.TNode.{TNode, TNode-F, roll-TNode}
use Rattle.razor_ast.specs.declared.node.TSection.{TSection, out-TSection}
use Rattle.razor_ast.specs.declared.node.TNode.TheFolds.{fold-roll-TNode, fold_out-TSection, map-TNode}
use Rattle.razor_rules.specs.Scopes.{Home}
use Rattle.razor_rules.specs.Parts.{Part, Part_of_switch, any_does}
use Rattle.razor_rules.specs.Templates.{part, part_of, part_of_section, section_rules}

pub part_law : (home : Home) (x : TNode-F TNode TSection) → part_of home (roll-TNode x) ≡ part home (map-TNode TNode TSection Part Part_of_switch (part_of home) (part_of_section home) x)
unfolding part_of part_of_section
part_law home x =
    fold-roll-TNode Part Part_of_switch (part home)
    (λ section. record { does = λ deed. any_does section.items deed; rules = section_rules section.labels section.items }) x

-- the same of a node that is known to be so
pub part_at : (home : Home) (node : TNode) (x : TNode-F TNode TSection) → roll-TNode x ≡ node → part_of home node ≡ part home (map-TNode TNode TSection Part Part_of_switch (part_of home) (part_of_section home) x)
part_at home node x is = ap (part_of home) (sym is) ∙ part_law home x

pub section_law : (home : Home) (section : TSection) → part_of_section home section ≡ record { does = λ deed. any_does (map (part_of home) (out-TSection section).items) deed; rules = section_rules (out-TSection section).labels (map (part_of home) (out-TSection section).items) }
unfolding part_of part_of_section
section_law home section =
    fold_out-TSection Part Part_of_switch (part home)
    (λ section. record { does = λ deed. any_does section.items deed; rules = section_rules section.labels section.items }) section
