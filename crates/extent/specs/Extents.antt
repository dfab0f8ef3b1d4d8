-- What the calls on extents answer: the rules of one extent as a test, the extents of a list, and ranges that overlap.
use Rattle.std.specs.Prelude.{ℕ, ◌+◌, ◌*◌, ◌/◌, List, length}
use Prim.Native.String.{String}
use Rattle.number.specs.Number.{number_at}
use Rattle.format.specs.declared.Extent.{Extent}
use Rattle.format.specs.Layout.{start_of, width_of}
use Rattle.format.specs.Extents.{extent_layout}

-- a field, by its name, of the extent with the given number, counted from 0, in a list; past the end it is 0
abbrev pub extent_field : (list : List ℕ) (index : ℕ) (name : String) → ℕ
extent_field list index name = number_at list (57 * index + start_of name extent_layout) (width_of name extent_layout)

unfoldable pub extent_at : (list : List ℕ) (index : ℕ) → Extent
extent_at list index = record {
  volume = extent_field list index "volume";
  start = record { 0 = extent_field list index "P" };
  size = extent_field list index "S";
  multiplicity = extent_field list index "multiplicity";
  count = extent_field list index "C";
  pre = extent_field list index "pre";
  post = extent_field list index "post";
  logical = record { 0 = extent_field list index "Q" };
}

-- how many extents a list has
abbrev pub extent_count : (list : List ℕ) → ℕ
extent_count list = length list / 57
