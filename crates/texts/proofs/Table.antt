-- The names of a table in what stands after its count, and that past the end of a volume there is no text. Assumes nothing.
use Prim.Native.Nat.{ℕ, ◌+◌, ◌≤◌}
use mathlib.Core.Path.{◌≡◌, sym, ap, ◌∙◌}
use mathlib.Core.List.{List, [], map}
use native.Mathlib.Omega.{arith}
use lib.ListN.{length, drop, length-drop, drop_of_length-le}
use lib.Seq.{take_all}
use Rattle.number.specs.Number.{le, part}
use Rattle.format.specs.Blocks.{link_table}
use Rattle.links.specs.Links.{links_from, names}
use Rattle.links.proofs.Cut.{links_in_part}
use Rattle.block.specs.Fields.{field_at, kind_with, body_length}
use Rattle.block.specs.Shown.{shown}
use Rattle.block.specs.inner.Decoded.{block_of}
use Rattle.texts.specs.Texts.{texts, texts_at}

module _ (volume : List ℕ) (offset : ℕ) where
  pub names_standing : names (part volume (offset + 9) (length volume)) (field_at link_table "link count" volume offset)
      ≡ texts (shown volume (block_of link_table volume offset))
  unfolding shown block_of body_length
  names_standing =
      let count = field_at link_table "link count" volume offset in
      let all : part volume (offset + 9) (length volume) ≡ drop (offset + 9) volume
      = take_all (length volume) (drop (offset + 9) volume) (omega (arith, length-drop (offset + 9) volume)) in
      ap (λ bytes. names bytes count) all ∙ ap (map (λ link. link.name)) (sym (links_in_part (drop (offset + 9) volume) count))

  pub nothing_past : length volume ≤ offset → texts_at volume offset ≡ []
  unfolding kind_with shown block_of links_from le
  nothing_past h =
      rw (drop_of_length-le volume {i = offset} h, drop_of_length-le volume {i = offset + 1} (omega arith))
