-- Inner page: how the links of a folder are found without going through the whole table. No public contract rests on it.
use Rattle.std.specs.Prelude.{ℕ, ◌+◌, ◌≤◌, ◌<◌, ◌≡◌, List, length, get_or, drop, Result, Ok, Err}
use Rattle.order.specs.Order.{Rising, Placed}
use Rattle.folders.specs.Lines.{places_from}

-- the parent of the link at a place
abbrev pub parent_of : (parents : List ℕ) (place : ℕ) → ℕ
parent_of parents place = get_or parents place 0

-- the link at a place and those behind it in the same folder; none where no link has the place
abbrev pub siblings : (parents : List ℕ) (place : ℕ) → List ℕ
siblings parents place = places_from place (parent_of parents place) (drop place parents)

-- the links of a folder from a place on begin at `next`, which is the number of all links where there are none
pub record NextIn (parents : List ℕ) (folder from next : ℕ) : Type 0 where
  pub ahead : from ≤ next
  pub within : next ≤ length parents
  pub same : places_from from folder (drop from parents) ≡ siblings parents next

-- `nexts` has for each link from a place on the next one of its folder
abbrev pub Chained : (parents nexts : List ℕ) (from : ℕ) → Type 0
Chained parents nexts from =
    (i : ℕ) → from ≤ i → i < length parents → NextIn parents (parent_of parents i) (i + 1) (get_or nexts i 0)

-- `firsts` has for each link below a place the first one of what it holds
abbrev pub Opened : (parents children firsts : List ℕ) (to : ℕ) → Type 0
Opened parents children firsts to = (i : ℕ) → i < to → NextIn parents (get_or children i 0) 0 (get_or firsts i 0)

-- the first `count` heads are links of different folders, sorted by folder
pub record Sorted (parents heads : List ℕ) (count : ℕ) : Type 0 where
  pub rising : Rising (parent_of parents) heads count
  pub link : (k : ℕ) → k < count → get_or heads k 0 < length parents

-- what looking for the head of a folder answers: where it stands, or where it belongs where no head is that of the folder
pub data FindsHead (parents heads : List ℕ) (folder : ℕ) : Result ℕ ℕ → Type 0 where
  stands : {place : ℕ} → Placed (parent_of parents) heads (length heads) folder place → place < length heads
      → parent_of parents (get_or heads place 0) ≡ folder → FindsHead parents heads folder (Ok place)
  missing : {place : ℕ} → Placed (parent_of parents) heads (length heads) folder place
      → (place < length heads → parent_of parents (get_or heads place 0) ≡ folder → ⊥) → FindsHead parents heads folder (Err place)

-- they are the first links from a place on of all folders that have a link there
pub record Heads (parents heads : List ℕ) (count from : ℕ) : Type 0 where
  pub few : count + from ≤ length parents
  pub sorted : Sorted parents heads count
  pub first : (k : ℕ) → k < count → NextIn parents (parent_of parents (get_or heads k 0)) from (get_or heads k 0)
  pub every : (i : ℕ) → from ≤ i → i < length parents
      → (k : ℕ) × ((k < count) × (parent_of parents (get_or heads k 0) ≡ parent_of parents i))

-- the index of a table: next links and first links
pub record Indexed (parents children nexts firsts : List ℕ) : Type 0 where
  pub paired : length children ≡ length parents
  pub next_each : length parents ≤ length nexts
  pub first_each : length parents ≤ length firsts
  pub chained : Chained parents nexts 0
  pub opened : Opened parents children firsts (length parents)
