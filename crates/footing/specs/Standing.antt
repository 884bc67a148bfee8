-- What a granted step asks of its arguments, where the operation stands once its want is granted, and what is then known of
-- the pages that it holds.
use Rattle.std.specs.Prelude.{ℕ, suc, ◌+◌, ◌≤◌, ◌<◌, Bool, true, false, cond, not, ◌&&◌, ◌||◌, List, [], ◌∷◌, ◌++◌, reverse, ◌⊎◌, ◌≢◌, ◌≡◌, length, get_or, Option, Some, None, is_some}
use Rattle.ground.specs.Limits.{largest_k, largest_n, path_holds}
use Rattle.ground.specs.Tests.{distinct}
use Rattle.page.specs.Words.{Page}
use Rattle.pool.specs.Pool.{pool_length, page_at}
use Rattle.change.specs.Held.{Held}
use Rattle.slots.specs.declared.Op.{Op}
use Rattle.slots.specs.declared.Op.TheVariants.{Search, Insert, Delete, Next, Regrade}
use Rattle.slots.specs.declared.Lock.{Lock}
use Rattle.slots.specs.declared.Lock.TheVariants.{Xi, Alpha}
use Rattle.slots.specs.Locks.{same_lock}
use Rattle.slots.specs.declared.Task.TheVariants.{Open}
use Rattle.slots.specs.declared.Slot.{Slot}
use Rattle.slots.specs.declared.Under.{Under}
use Rattle.slots.specs.Parts.{is_next, is_second, under, Stand, holding, on_pages, want_converted, converting, stand_of, slot_of}
use Rattle.slots.specs.Sound.{slot_sound}
use Rattle.footing.specs.Granted.{is_safe, kept, kept_locks, at_its_leaf}
use Rattle.footing.specs.Fitting.{leads, pages_sound, fitting}

-- The words are a pool's, and the slot is open with this operation and sound.
pub record Asks (k n : ℕ) (ws : List ℕ) (op : Op) (slot : Slot) : Type 0 where
  pub least : 1 ≤ k
  pub width : k ≤ largest_k
  pub most : n ≤ largest_n
  pub whole : length ws ≡ pool_length k n
  pub task : slot.task ≡ Open op
  pub sound : slot_sound n slot ≡ true

-- The pages of the slot are sound, and the ones the rules would have its operation hold and want.
unfoldable pub fits : ℕ → ℕ → List ℕ → Stand → Bool
fits k n ws z = pages_sound k n ws (holding z ++ z.want ∷ []) && fitting k (page_at k ws) z

-- the last page of a path, given upward, leads to the wanted one; where none is held none has to (`rightly_kept` asks for page 0)
abbrev pub last_leads : (ℕ → Page) → ℕ → List ℕ → ℕ → Bool
last_leads memory x [] want = true
last_leads memory x (p ∷ up) want = leads memory x p want

-- the path and the pages beside it once the want is granted
abbrev pub stand_path : ℕ → (ℕ → Page) → Stand → List ℕ
stand_path k memory z = cond (at_its_leaf memory (reverse z.path)) z.path (kept k memory z)

abbrev pub stand_beside : (ℕ → Page) → Stand → List ℕ
stand_beside memory z = cond (at_its_leaf memory (reverse z.path)) (z.beside ++ z.want ∷ []) []

-- and the kinds of lock under which they are held
abbrev pub stand_locks : ℕ → (ℕ → Page) → Stand → List Under
stand_locks k memory z = cond (at_its_leaf memory (reverse z.path)) z.locks (kept_locks k memory z)

abbrev pub stand_sidelocks : (ℕ → Page) → Stand → List Under
stand_sidelocks memory z = cond (at_its_leaf memory (reverse z.path)) (z.sidelocks ++ under z.lock ∷ []) []

-- where the slot stands then; it has no new want yet. A conversion takes no page more.
unfoldable pub stood : ℕ → (ℕ → Page) → Stand → Stand
stood k memory z =
    cond (converting z)
    (want_converted z)
    (on_pages z (stand_path k memory z) (stand_locks k memory z) (stand_beside memory z) (stand_sidelocks memory z))

-- What is known of the pages held once a want is granted: they are sound by themselves and all different; each page of the
-- path lies a level above the next one, and the top one is page 0 or safe; by the second way there is one page on the path; where no Next
-- goes down a second way, a page beside the path is a sibling: it lies beside its page, and is not page 0.
pub record Standing (k n : ℕ) (ws : List ℕ) (z : Stand) : Type 0 where
  pub some : 1 ≤ length z.path
  pub deep : length z.path ≤ path_holds
  pub few : length z.beside ≤ length z.path
  pub held : Held k n ws (holding z)
  pub descends : (i : ℕ) → suc i < length z.path → (page_at k ws (get_or z.path i 0)).level ≡ (page_at k ws (get_or z.path (suc i) 0)).level + 1
  pub different : distinct (holding z) ≡ true
  pub top : (get_or z.path 0 0 ≡ 0) ⊎ (is_safe z.op k (page_at k ws (get_or z.path 0 0)) ≡ true)
  pub alone : is_second z.op ≡ true → length z.path ≡ 1
  pub levels : is_next z.op ≡ false → (i j : ℕ) → j < length z.beside → i + j + 1 ≡ length z.path
      → (page_at k ws (get_or z.path i 0)).level ≡ (page_at k ws (get_or z.beside j 0)).level
  pub others : is_next z.op ≡ false → (j : ℕ) → j < length z.beside → get_or z.beside j 0 ≢ 0

-- The slot holds just these pages, and so much is known of them.
pub record SlotStanding (op : Op) (k n : ℕ) (ws : List ℕ) (stand : Slot) : Type 0 where
  pub exact : stand ≡ slot_of (stand_of op stand)
  pub standing : Standing k n ws (stand_of op stand)

-- ---- the third way

-- what is answered at once, by what was looked up under the key
abbrev pub at_once : Op → Option ℕ → Bool
at_once (Search x) lot = true
at_once (Insert x v way) lot = is_some lot
at_once (Delete x way) lot = not (is_some lot)
at_once (Next x) lot = true
at_once (Regrade x v way) lot = not (is_some lot)

-- the page whose turn it is, if one is left
abbrev pub turn_of : List ℕ → Option ℕ
turn_of [] = None
turn_of (p ∷ pages) = Some p

-- behind ξ comes ξ or α, behind α only α
abbrev pub may_follow : Lock → Bool → Bool
may_follow lock alpha = same_lock lock Alpha || (not alpha && same_lock lock Xi)
