-- One block, once for all kinds: the checks of its kind find no fault exactly where the image of a block that keeps the rules
-- stands, and that block is the one shown. Assumes nothing.
use Prim.Native.Nat.{ℕ, suc, ◌+◌, ◌-◌, ◌≤◌, ◌<◌}
use mathlib.Core.Path.{◌≡◌, refl, sym, ap, ◌∙◌, subst}
use mathlib.Core.Bool.{false}
use mathlib.Core.List.{List, [], ◌∷◌, ◌++◌, append_assoc}
use native.Mathlib.Numerals.{add-one}
use native.Mathlib.Omega.{arith}
use lib.ListN.{length, drop, get_or, length-append, length-drop}
use lib.Seq.{drop-cons}
use borrow.Author.Tests.{eqb-true, not-false}
use Rattle.number.specs.Number.{Bytes, le, le_bytes, part, number_at}
use Rattle.number.proofs.Halves.{read_one}
use Rattle.number.proofs.Parts.{length_part, bytes_part, part_add, part_at, drop_past}
use Rattle.checks.specs.Checks.{first_fault}
use Rattle.checks.proofs.Tests.{eq_neb}
use Rattle.crc32.specs.Crc.{crc}
use Rattle.format.specs.Layout.{total, Fit, laid, sealed}
use Rattle.format.specs.Blocks.{Kind, id_of, widths, Block, kind_of, fields, body, image, KindRules, BlockRules}
use Rattle.format.specs.Readings.{time_of}
use Rattle.format.proofs.Fields.{length-laid}
use Rattle.format.proofs.Images.{length-image}
use Rattle.format.proofs.Seal.{length-sealed, seal_part, part_sealed}
use Rattle.links.proofs.Tables.{filled_end}
use Rattle.block.specs.Fields.{id_at, kind_with, kind_at, fixed_length, body_length, body_end}
use Rattle.block.specs.Order.{checksum_wrong, kind_order}
use Rattle.block.specs.inner.Decoded.{block_of, block_at, time_of_block}
use Rattle.block.specs.Shown.{shown}
use Rattle.block.specs.declared.Block.{Block as Decoded}
use Rattle.block.specs.declared.Block.TheVariants.{Inode, Link, Unlink, Xattr, RemovedXattr, Data, Rename, Table}
use Rattle.block.proofs.Standing.{fields_at, body_at, fields_fit, fields_laid, fields_stand}
use Rattle.block.proofs.Ids.{kind_known}
use Rattle.block.proofs.Passed.{KindPassed, kind_passed, passed_kind}
use Rattle.block.proofs.KindSound.{Shows, shows, kind_rules}
use Rattle.block.proofs.KindComplete.{LinksFill, TableEnds, shown_as, Accepts, accepts}

-- The CRC check, by how many bytes the CRC covers.

module _ (volume : List ℕ) (offset len end : ℕ) (e : end ≡ offset + len) where
  covers : end - offset ≡ len
  covers = omega arith

  sum_right : checksum_wrong volume offset end ≡ false → number_at volume (offset + len) 4 ≡ crc (part volume offset len)
  unfolding checksum_wrong
  sum_right s = rw (covers, e) at (eqb-true (number_at volume end 4) (crc (part volume offset (end - offset))) (not-false _ s))

  right_sum : number_at volume (offset + len) 4 ≡ crc (part volume offset len) → checksum_wrong volume offset end ≡ false
  unfolding checksum_wrong
  right_sum s = rw (covers, e) (eq_neb (number_at volume (offset + len) 4) (crc (part volume offset len)) s)

-- From the checks to the image.

-- a block that is shown has the image of the fields and variable parts that stand there, and keeps the rules
module _ (kind : Kind) (volume : List ℕ) (offset : ℕ) (block : Block) (s : Shows kind volume offset block) where
  shown_image : image block ≡ sealed (id_of kind ∷ laid (widths kind) (fields_at kind volume offset) ++ body_at kind volume offset)
  unfolding image
  shown_image = rw (s.same_kind, s.same_fields, s.same_body)

  shown_keeps : Bytes volume → KindRules block → BlockRules block
  shown_keeps b r =
      record {
        fit = rw (s.same_kind, s.same_fields) (fields_fit kind volume offset b);
        bytes = rw s.same_body (bytes_part volume (offset + fixed_length kind) (body_length kind volume offset) b);
        rules = r;
      }

-- how many bytes of a block stand before its CRC
abbrev covered : Kind → (volume : List ℕ) (offset : ℕ) → ℕ
covered kind volume offset = fixed_length kind + body_length kind volume offset

-- the image of a block of a kind is what stands at an offset
pub record Laid (kind : Kind) (volume : List ℕ) (offset : ℕ) (block : Block) : Type 0 where
  pub as_shown : Shows kind volume offset block
  pub long : length (image block) ≡ covered kind volume offset + 4
  pub same : part volume offset (length (image block)) ≡ image block

-- and the block keeps the rules
pub record Stands (kind : Kind) (volume : List ℕ) (offset : ℕ) (block : Block) : Type 0 where
  pub same_kind : kind_of block ≡ kind
  pub keeps : BlockRules block
  pub end : body_end kind volume offset + 4 ≡ offset + length (image block)
  pub whole : offset + length (image block) ≤ length volume
  pub same : part volume offset (length (image block)) ≡ image block

module _ (kind : Kind) (volume : List ℕ) (offset : ℕ) (b : Bytes volume) (id : id_at volume offset ≡ id_of kind) where
  -- the bytes before the CRC, by the layout
  content : offset + fixed_length kind ≤ length volume
      → part volume offset (covered kind volume offset)
      ≡ id_of kind ∷ laid (widths kind) (fields_at kind volume offset) ++ body_at kind volume offset
  content h =
      let t : ℕ = total (widths kind) in
      let n : ℕ = body_length kind volume offset in
      let low : offset < length volume = omega arith in
      let all : covered kind volume offset ≡ suc (t + n) = omega arith in
      let next : suc offset + t ≡ offset + suc t = omega arith in
      let first : get_or volume offset 0 ≡ id_of kind = read_one volume offset low ∙ id in
      rw (all, drop-cons volume offset 0 low, first, part_add volume (suc offset) t n, next, ← fields_laid kind volume offset b h)

  -- a block that lies within the volume and whose CRC is right, whatever else is wrong with it
  pub block_laid : offset + fixed_length kind ≤ length volume → body_end kind volume offset + 4 ≤ length volume
      → checksum_wrong volume offset (body_end kind volume offset) ≡ false
      → Laid kind volume offset (shown volume (block_of kind volume offset))
  block_laid fixed whole right =
      let n : ℕ = covered kind volume offset in
      let block : Block = shown volume (block_of kind volume offset) in
      let within : body_end kind volume offset ≤ length volume = omega arith in
      let s : Shows kind volume offset block = shows kind volume offset within in
      let sum = sum_right volume offset n (body_end kind volume offset) (omega arith) right in
      let same : part volume offset (n + 4) ≡ image block
      = sym (seal_part volume offset n b (omega arith) sum) ∙ ap sealed (content fixed) ∙ sym (shown_image kind volume offset block s) in
      let len : length (image block) ≡ n + 4 = ap length (sym same) ∙ length_part volume offset (n + 4) (omega arith) in
      record { as_shown = s; long = len; same = rw len same }

  pub block_sound : first_fault (kind_order kind volume offset) ≡ 0 → Stands kind volume offset (shown volume (block_of kind volume offset))
  block_sound e =
      let block : Block = shown volume (block_of kind volume offset) in
      let p : KindPassed kind volume offset = kind_passed volume offset kind e in
      let whole : body_end kind volume offset + 4 ≤ length volume = p.whole in
      let l : Laid kind volume offset block = block_laid p.fixed_fields whole p.sum in
      let len : length (image block) ≡ covered kind volume offset + 4 = l.long in
      record {
        same_kind = l.as_shown.same_kind;
        keeps = shown_keeps kind volume offset block l.as_shown b (kind_rules kind volume offset b (omega arith) p.own);
        end = omega arith;
        whole = omega arith;
        same = l.same;
      }

-- From the image to the block and to the checks.

-- what stands after the variable parts of an image: its CRC, and what comes after it
abbrev after_body : Block → (rest : List ℕ) → List ℕ
after_body block rest =
    le_bytes 4 (crc (id_of (kind_of block) ∷ laid (widths (kind_of block)) (fields block) ++ body block)) ++ rest

module _ (block : Block) (volume : List ℕ) (offset : ℕ) (rest : List ℕ) (fit : Fit (widths (kind_of block)) (fields block))
    (e : drop offset volume ≡ image block ++ rest) where
  -- where an image stands, so do its ID, its fixed fields and its variable parts
  parts_stand :
      (id_at volume offset ≡ id_of (kind_of block))
      × (fields_at (kind_of block) volume offset ≡ fields block)
      × (drop (offset + fixed_length (kind_of block)) volume ≡ body block ++ after_body block rest)
  unfolding image sealed le
  parts_stand =
      let kind : Kind = kind_of block in
      let fixed : List ℕ = laid (widths kind) (fields block) in
      let after : List ℕ = after_body block rest in
      let t : ℕ = total (widths kind) in
      let d0 : drop offset volume ≡ (id_of kind ∷ []) ++ (fixed ++ (body block ++ after)) = e ∙ simp append_assoc in
      let d1 : drop (suc offset) volume ≡ fixed ++ (body block ++ after)
      = rw (add-one offset) at (drop_past volume (id_of kind ∷ []) (fixed ++ (body block ++ after)) offset 1 d0 refl) in
      let d2 : drop (suc offset + t) volume ≡ body block ++ after
      = drop_past volume fixed (body block ++ after) (suc offset) t d1 (length-laid (widths kind) (fields block) fit) in
      let next : suc offset + t ≡ offset + fixed_length kind = omega arith in (
        ap le (part_at volume (id_of kind ∷ []) (fixed ++ (body block ++ after)) offset 1 d0 refl) ∙ omega arith,
        fields_stand kind volume offset (fields block) (body block ++ after) fit d1,
        rw next at d2,
      )

  -- the variable parts are bytes as all of the volume
  links_end_there : Bytes volume → LinksFill block → TableEnds block (after_body block rest)
  links_end_there b fill table same =
      let from : ℕ = offset + fixed_length (kind_of block) in
      let parts : part volume from (length (body block)) ≡ body block
      = part_at volume (body block) (after_body block rest) from (length (body block)) parts_stand.2 refl in
      let bytes : Bytes (body block) = subst Bytes parts (bytes_part volume from (length (body block)) b) in
      filled_end table.links (subst (λ (other : Block). Bytes (body other)) same bytes) table.count (fill table same)
      (after_body block rest)

  -- and the block that is shown there is the one whose image it is, also where it does not keep the rules
  pub image_shown : Bytes volume → LinksFill block → shown volume (block_at volume offset) ≡ block
  image_shown b fill =
      let kind : kind_at volume offset ≡ kind_of block = ap kind_with parts_stand.0 ∙ (kind_known (kind_of block)).0 in
      ap (λ (k : Kind). shown volume (block_of k volume offset)) kind
      ∙ (shown_as block volume offset (after_body block rest) (links_end_there b fill) parts_stand.1 parts_stand.2).same

-- a block is read at an offset
pub record Reads (volume : List ℕ) (offset : ℕ) (block : Block) : Type 0 where
  pub id : id_at volume offset ≡ id_of (kind_of block)
  pub no_fault : first_fault (kind_order (kind_of block) volume offset) ≡ 0
  pub values : fields_at (kind_of block) volume offset ≡ fields block
  pub body-length : body_length (kind_of block) volume offset ≡ length (body block)
  pub same : shown volume (block_of (kind_of block) volume offset) ≡ block
  pub end : body_end (kind_of block) volume offset + 4 ≡ offset + length (image block)

pub block_complete : (block : Block) (volume : List ℕ) (offset : ℕ) (rest : List ℕ) → BlockRules block
    → drop offset volume ≡ image block ++ rest → Reads volume offset block
unfolding image
block_complete block volume offset rest keeps e =
    let kind : Kind = kind_of block in
    let bytes : List ℕ = id_of kind ∷ laid (widths kind) (fields block) ++ body block in
    let there = parts_stand block volume offset rest keeps.fit e in
    let p : Accepts volume offset block = accepts block volume offset (after_body block rest) keeps there.1 there.2 in
    let n : body_length kind volume offset ≡ length (body block) = p.as_shown.body-length in
    let i : length (image block) ≡ fixed_length kind + length (body block) + 4 = omega (arith, length-image block) in
    let c : length (image block) ≡ length bytes + 4 = length-sealed bytes in
    let l : length volume - offset ≡ length (image block) + length rest
    = sym (length-drop offset volume) ∙ ap length e ∙ length-append (image block) rest in
    let sum : checksum_wrong volume offset (body_end kind volume offset) ≡ false
    = right_sum volume offset (length bytes) (body_end kind volume offset) (omega arith)
    (part_sealed volume bytes rest offset (length bytes) e refl) in
    record {
      id = there.0;
      no_fault = passed_kind volume offset kind (record { fixed_fields = omega arith; whole = omega arith; sum = sum; own = p.own });
      values = there.1;
      body-length = n;
      same = p.as_shown.same;
      end = omega arith;
    }

-- a block and what it shows have the same time
pub same_time : (volume : List ℕ) (block : Decoded) → time_of_block block ≡ time_of (shown volume block)
unfolding shown
same_time volume (Inode b) = refl
same_time volume (Link b) = refl
same_time volume (Unlink b) = refl
same_time volume (Xattr b) = refl
same_time volume (RemovedXattr b) = refl
same_time volume (Data b) = refl
same_time volume (Rename b) = refl
same_time volume (Table b) = refl
