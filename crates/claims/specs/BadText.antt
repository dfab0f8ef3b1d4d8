-- What a refusal says of texts: 10 says which text of the block is bad and where, and every other number says nothing of a text.
--
-- It is a claim about a library, by its calls. Proved of ours in proofs/BadText.antt.
use Rattle.std.specs.Prelude.{ℕ, ◌≡◌, List, [], ◌∷◌, ◌++◌, length, Err}
use Rattle.number.specs.Number.{Bytes, part}
use Rattle.refusal.specs.Texts.{FirstBad}
use Rattle.refusal.specs.Refusal.{Refusal}
use Rattle.format.specs.Layout.{Fit}
use Rattle.format.specs.Blocks.{widths, TableFields, Block, Table, kind_of, fields, body, image}
use Rattle.format.specs.Headers.{Header}
use Rattle.links.specs.Links.{link_start}
use Rattle.texts.specs.Texts.{texts}
use Rattle.volume.specs.declared.Bookmark.{Bookmark}
use Rattle.volume.specs.declared.Rejected.{Rejected}
use Rattle.claims.specs.Library.{Library}

-- A refusal with the number 10 has the place of a bad text and where that is bad, and any other has 0 and 0.
pub data Says (Bad : (text start : ℕ) → Type 0) : Refusal → Type 0 where
  a_bad_text : {text start : ℕ} → Bad text start → Says Bad (record { number = 10; text = text; start = start })
  nothing : {number : ℕ} → (number ≡ 10 → ⊥) → Says Bad (record { number = number; text = 0; start = 0 })

-- Texts that stand in bytes one after the other, whatever stands before, between and behind them.
pub data InOrder : (bytes : List ℕ) (texts : List (List ℕ)) → Type 0 where
  no_more : {bytes : List ℕ} → InOrder bytes []
  one_more : {texts : List (List ℕ)} (before text behind : List ℕ) → InOrder behind texts
      → InOrder (before ++ (text ++ behind)) (text ∷ texts)

-- The first bad text of a block.
abbrev pub BadIn : Block → (text start : ℕ) → Type 0
BadIn block text start = FirstBad (texts block) text start

-- The image of a block stands at an offset of the volume, and the bytes of a table are exactly the stated links; whether its texts are
-- well-formed is left open.
pub record ImageAt (volume : List ℕ) (offset : ℕ) (block : Block) : Type 0 where
  pub fit : Fit (widths (kind_of block)) (fields block)
  pub fill : (table : TableFields) → block ≡ Table table → link_start table.links table.count ≡ length table.links
  pub same : part volume offset (length (image block)) ≡ image block

-- The first bad text of the block that stands at an offset. No other block stands there.
pub record BadAt (volume : List ℕ) (offset : ℕ) (text start : ℕ) : Type 0 where
  pub block : Block
  pub stands : ImageAt volume offset block
  pub no_other : (other : Block) → ImageAt volume offset other → other ≡ block
  pub bad : BadIn block text start

-- No text is bad.
abbrev pub BadNowhere : (text start : ℕ) → Type 0
BadNowhere text start = ⊥

module _ (library : Library) where
  pub record BadTextClaim : Type 0 where
    -- texts are counted as they stand in the block
    pub in_layout_order : (block : Block) → InOrder (body block) (texts block)
    -- calls on the block at an offset
    pub read : (volume : List ℕ) (mark : Bookmark) (refusal : Refusal) → Bytes volume
        → library.read volume mark ≡ Err refusal → Says (BadAt volume mark.offset) refusal
    pub check : (volume : List ℕ) (rejected : Rejected) → Bytes volume
        → library.check volume ≡ Err rejected → Says (BadAt volume rejected.offset) rejected.refusal
    pub position : (volume : List ℕ) (offset : ℕ) (lengths : List ℕ) (position : ℕ) (refusal : Refusal) → Bytes volume
        → library.position volume offset lengths position ≡ Err refusal → Says (BadAt volume offset) refusal
    pub runs : (volume : List ℕ) (offset : ℕ) (lengths : List ℕ) (from to room : ℕ) (refusal : Refusal) → Bytes volume
        → library.runs volume offset lengths from to room ≡ Err refusal → Says (BadAt volume offset) refusal
    -- the block that an append is asked for
    pub append : (room : ℕ) (mark : Bookmark) (block : Block) (refusal : Refusal)
        → library.append room mark block ≡ Err refusal → Says (BadIn block) refusal
    -- a header and a listing have no texts
    pub read_header_lem : (volume : List ℕ) (refusal : Refusal) → library.read_header volume ≡ Err refusal → Says BadNowhere refusal
    pub write_header_lem : (room : ℕ) (header : Header) (refusal : Refusal)
        → library.write_header room header ≡ Err refusal → Says BadNowhere refusal
    pub list : (room : ℕ) (volume : List ℕ) (refusal : Refusal) → library.list room volume ≡ Err refusal → Says BadNowhere refusal
