-- What the verdict on a granted step comes to in a pool that is a tree: the slot stands again, or its operation ends as the plain
-- sorted list has it. The theorems over runs rest on it; the demands do not speak of verdicts.
use Rattle.std.specs.Prelude.{ℕ, ◌≤◌, ◌<◌, true, false, List, [], ◌∷◌, ◌⊎◌, ◌≡◌, length}
use Rattle.ground.specs.Limits.{largest_k, largest_n, word_range, blank_key}
use Rattle.ground.specs.Tests.{member}
use Rattle.page.specs.Words.{Entry}
use Rattle.page.specs.Place.{has}
use Rattle.pool.specs.Pool.{Write, page_at, free_pages}
use Rattle.slots.specs.declared.Op.{Op}
use Rattle.slots.specs.declared.Op.TheVariants.{Insert}
use Rattle.slots.specs.declared.Way.{Way}
use Rattle.slots.specs.declared.Lock.TheVariants.{Xi}
use Rattle.slots.specs.declared.Answer.{Answer}
use Rattle.slots.specs.declared.Answer.TheVariants.{NoRoom, Regraded}
use Rattle.slots.specs.Parts.{key_of, only_reads, is_third, first_way, Stand, holding, converting}
use Rattle.slots.specs.Locks.{lock_in}
use Rattle.slots.specs.Heard.{is_one_of, writing}
use Rattle.footing.specs.Granted.{goes, ends}
use Rattle.footing.specs.Fitting.{verdict}
use Rattle.tree.specs.Tree.{Tr, entries_of, occurs, PoolForms}
use Rattle.tree.specs.Change.{written_pages, Leads}
use Rattle.tree.specs.Insertion.{tree_room}
use Rattle.runs.specs.Stance.{Locked, Stance, Takes}
use Rattle.runs.specs.Plain.{plain}

-- What is known of an open slot of a run.
pub record Scene (k n : ℕ) (ws : List ℕ) (l : ℕ) (t : Tr l) (z : Stand) : Type 0 where
  pub k_least : 1 ≤ k
  pub k_most : k ≤ largest_k
  pub n_most : n ≤ largest_n
  pub key : key_of z.op < word_range
  pub forms : PoolForms k n ws l t
  -- 02 (viii): no lot has the key of a blank tag
  pub no_blank : has blank_key (entries_of l t) ≡ false
  pub stance : Stance k (page_at k ws) l t z
  pub locked : Locked (page_at k ws) z

-- How an operation ends: as the plain list has it; or NoRoom, "exactly when a new key needs more pages than are free", and
-- nothing is written.
pub record NoRoomLeft (op : Op) (k n : ℕ) (ws : List ℕ) (l : ℕ) (t : Tr l) (a : Answer) (writes : List Write) : Type 0 where
  pub key : ℕ
  pub lot : ℕ
  pub way : Way
  pub inserts : op ≡ Insert key lot way
  pub missing : has key (entries_of l t) ≡ false
  pub needs_more : length (free_pages k n ws) < tree_room k key l t
  pub answer : a ≡ NoRoom
  pub nothing : writes ≡ []

pub record AsPlain (op : Op) (k n : ℕ) (ws : List ℕ) (l : ℕ) (t : Tr l) (a : Answer) (es : List Entry) : Type 0 where
  pub answer : a ≡ (plain op (entries_of l t)).answer
  pub entries : es ≡ (plain op (entries_of l t)).entries
  -- a new key had room
  pub room : (x v : ℕ) (way : Way) → op ≡ Insert x v way → has x (entries_of l t) ≡ false → tree_room k x l t ≤ length (free_pages k n ws)

-- A page on which the slot has a ξ-lock once its want is granted: the wanted one, if it wanted it with ξ, or one that it held with ξ.
abbrev pub Writable : Stand → ℕ → Type 0
Writable z q = ((q ≡ z.want) × (z.lock ≡ Xi)) ⊎ ((member q (holding z) ≡ true) × (lock_in z q ≡ Xi))

-- One statement of what an operation does that ends, by whatever way it came down: it ends with this answer and these writes, which lead to a tree with the entries es.
pub record Ended (k n : ℕ) (ws : List ℕ) (l : ℕ) (t : Tr l) (z : Stand) (a : Answer) (writes : List Write) : Type 0 where
  pub entries : List Entry
  pub leads : Leads k n (page_at k ws) l t writes entries
  pub how : AsPlain z.op k n ws l t a entries ⊎ (NoRoomLeft z.op k n ws l t a writes × (entries ≡ entries_of l t))
  -- it writes no page but those on which it has a ξ-lock, the page granted in this step among them, and free ones
  pub only : (q : ℕ) → member q (written_pages writes) ≡ true → Writable z q ⊎ (occurs q l t ≡ 0)
  -- a search or a Next writes nothing, and of the answers only Inserted, Deleted and Regraded write
  pub reads : only_reads z.op ≡ true → writes ≡ []
  pub writers : is_one_of a writing ≡ false → writes ≡ []
  -- 02 (vi): "Room is counted in the step that makes the change, after the last conversion.": by the third way a change is made, or found to lack room,
  -- just in a conversion
  pub turned : is_third z.op ≡ true → is_one_of a (NoRoom ∷ writing) ≡ converting z
  -- a regrading writes the page that it wanted, and no other
  pub regrades : (old : ℕ) → a ≡ Regraded old → (q : ℕ) → member q (written_pages writes) ≡ true → q ≡ z.want

-- A granted step: the slot goes on with the same operation, by its way or begun again by the first way, and stands as it should, or its
-- operation ends. It is never broken.
pub data Comes (k n : ℕ) (ws : List ℕ) (l : ℕ) (t : Tr l) (z : Stand) : Type 0 where
  moves : (z' : Stand)
      → verdict k n ws z ≡ goes z'
      → first_way z'.op ≡ first_way z.op
      → Stance k (page_at k ws) l t z'
      → Locked (page_at k ws) z'
      → Takes k (page_at k ws) z z'
      → Comes k n ws l t z
  stops : (a : Answer) (writes : List Write)
      → verdict k n ws z ≡ ends a writes
      → Ended k n ws l t z a writes
      → Comes k n ws l t z
