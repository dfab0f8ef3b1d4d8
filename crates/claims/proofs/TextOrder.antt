-- The texts of each kind stand in its variable parts in the order in which they are counted. Assumes nothing.
use Prim.Native.Nat.{ℕ, zero, suc, ◌+◌}
use mathlib.Core.Path.{◌≡◌, sym, ap, ◌∙◌, subst}
use mathlib.Core.List.{List, [], ◌∷◌, ◌++◌, map, append-nil}
use native.Mathlib.Omega.{arith}
use lib.ListN.{drop}
use Rattle.number.specs.Number.{part}
use Rattle.number.proofs.Parts.{drop-part}
use Rattle.format.specs.Blocks.{FileType, regular, symbolic_link, other, file_type, Block, Inode, Link, Unlink, Xattr, RemovedXattr, Data, Rename, Table, body}
use Rattle.links.specs.Links.{name_length_at, name_at, link_start, links_from}
use Rattle.links.proofs.Starts.{start_zero}
use Rattle.texts.specs.Texts.{targets, texts}
use Rattle.claims.specs.BadText.{InOrder, no_more, one_more}

-- a text that is all there is
alone : (text : List ℕ) → InOrder text (text ∷ [])
alone text = subst (λ (bytes : List ℕ). InOrder bytes (text ∷ [])) (append-nil text) (one_more [] text [] no_more)

-- an inode's n bytes
target_in_order : (type : FileType) (rest : List ℕ) → InOrder rest (targets type rest)
target_in_order regular rest = no_more
target_in_order symbolic_link rest = alone rest
target_in_order other rest = no_more

-- the names of a table, each behind the fields of its link
names_in_order : (links : List ℕ) (i k : ℕ) → InOrder (drop (link_start links i) links) (map (λ link. link.name) (links_from links i k))
unfolding links_from link_start
names_in_order links i zero = no_more
names_in_order links i (suc k) =
    let at : ℕ = link_start links i in
    let n : ℕ = name_length_at links at in
    let behind : List ℕ = drop (link_start links (suc i)) links in
    let next : at + 18 + n ≡ link_start links (suc i) = omega arith in
    let stands : drop at links ≡ part links at 18 ++ (name_at links at ++ behind)
    = drop-part links at 18 ∙ ap (λ rest. part links at 18 ++ rest) (drop-part links (at + 18) n)
    ∙ ap (λ (m : ℕ). part links at 18 ++ (name_at links at ++ drop m links)) next in
    subst (λ (bytes : List ℕ). InOrder bytes (name_at links at ∷ map (λ link. link.name) (links_from links (suc i) k))) (sym stands)
    (one_more (part links at 18) (name_at links at) behind (names_in_order links (suc i) k))

pub texts_in_order : (block : Block) → InOrder (body block) (texts block)
texts_in_order (Inode b) = target_in_order (file_type b.mode) b.rest
texts_in_order (Link b) = alone b.name
texts_in_order (Unlink b) = alone b.name
texts_in_order (Xattr b) = one_more [] b.name b.value no_more
texts_in_order (RemovedXattr b) = alone b.name
texts_in_order (Data b) = no_more
texts_in_order (Rename b) = one_more [] b.old b.new (alone b.new)
texts_in_order (Table b) =
    subst (λ (m : ℕ). InOrder (drop m b.links) (texts (Table b))) (sym (start_zero b.links)) (names_in_order b.links 0 b.count)
