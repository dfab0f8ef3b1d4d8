-- The arrays hold the links of the table, and so the index and the walk are those of its tree.
use Rattle.std.proofs.Common.{◌≡◌, ℕ, ◌∙◌, List, map}
use Rattle.format.specs.Blocks.{TableLink}
use Rattle.links.specs.Links.{links_from}
use Rattle.folders.specs.Lines.{levels, each, entry_lines, tree_lines}
use Rattle.folders.specs.inner.Folders.{siblings, NextIn}
use Rattle.tree.proofs.table.list.Goals as goal

tree-lines : (links : List TableLink) (root first : ℕ) (parents children : List ℕ) → parents ≡ map (λ link. link.parent) links
    → children ≡ map (λ link. link.child) links → NextIn parents root 0 first
    → each (entry_lines parents children levels) (siblings parents first) ≡ tree_lines links root
unfolding tree_lines
tree-lines links root first parents children p q next = rw (← next.same, p, q)

pub returns : goal.returns
returns g c =
    let a = c.args in
    let made = c.index_all-index.ensures in
    let loaded = c.load.ensures in
    rw (← tree-lines (links_from a.links.now 0 a.count) a.root _ _ _ (made.parents ∙ loaded.parents_loaded) (made.children ∙ loaded.children_loaded) c.first_of.ensures)
    c.list_from.ensures
