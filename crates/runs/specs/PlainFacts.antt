-- What the plain sorted list means, pinned by laws: what was inserted is found, what was deleted is not, what was regraded is found
-- with its new information, other keys are untouched, and keys rise. `plain` knows no pages, and neither do these.
use Rattle.std.specs.Prelude.{ℕ, ◌≤◌, ◌<◌, true, List, ◌∷◌, ◌++◌, map, ◌≢◌, ◌≡◌}
use Rattle.page.specs.Words.{Entry, entry, key_of as keyOfEntry}
use Rattle.page.specs.Sound.{rises}
use Rattle.slots.specs.declared.Op.{Op}
use Rattle.slots.specs.declared.Op.TheVariants.{Search, Insert, Delete, Next, Regrade}
use Rattle.slots.specs.declared.Way.TheVariants.{First}
use Rattle.slots.specs.declared.Answer.TheVariants.{Found, NotFound, Inserted, AlreadyThere, Deleted, NoSuchKey, Next as NextLot, None as NoLot, Regraded}
use Rattle.slots.specs.Parts.{key_of, first_way}
use Rattle.runs.specs.Plain.{plain}

-- the entry of key x and information v stands in the list
pub record Among (x v : ℕ) (es : List Entry) : Type 0 where
  pub before : List Entry
  pub after : List Entry
  pub whole : es ≡ before ++ entry x v ∷ after

-- no entry of the key stands in the list
abbrev pub Missing : ℕ → List Entry → Type 0
Missing x es = (v : ℕ) → Among x v es → ⊥

-- the entry of key y and information v is the first whose key is at or above x: it stands there, and no such key is lower
pub record FirstFrom (x y v : ℕ) (es : List Entry) : Type 0 where
  pub there : Among y v es
  pub above : x ≤ y
  pub first : (z w : ℕ) → Among z w es → x ≤ z → y ≤ z

-- every key is below x
abbrev pub AllBelow : ℕ → List Entry → Type 0
AllBelow x es = (z w : ℕ) → Among z w es → z < x

-- The laws, for a list whose keys rise.
pub record PlainFacts (es : List Entry) : Type 0 where
  -- whatever is asked, the keys rise afterwards
  pub rising : (op : Op) → rises (plain op es).entries ≡ true
  -- an update does the same by either way: what is said of the first way below holds of both
  pub ways : (op : Op) → plain op es ≡ plain (first_way op) es
  -- Search answers Found just if an entry of the key stands there, with its information; otherwise NotFound. It changes nothing.
  pub finds : (x v : ℕ) → Among x v es → (plain (Search x) es).answer ≡ Found v
  pub found : (x v : ℕ) → (plain (Search x) es).answer ≡ Found v → Among x v es
  pub not_found : (x : ℕ) → Missing x es → (plain (Search x) es).answer ≡ NotFound
  pub search_keeps : (x : ℕ) → (plain (Search x) es).entries ≡ es
  -- Insert is answered Inserted just if the key is missing, and then the key is found with its information
  pub inserts : (x v : ℕ) → Missing x es → (plain (Insert x v First) es).answer ≡ Inserted
  pub inserted_found : (x v : ℕ) → (plain (Insert x v First) es).answer ≡ Inserted
      → (plain (Search x) (plain (Insert x v First) es).entries).answer ≡ Found v
  -- otherwise it is answered AlreadyThere, with the information that is there, and changes nothing
  pub already : (x v w : ℕ) → Among x w es → (plain (Insert x v First) es).answer ≡ AlreadyThere w
  pub already_keeps : (x v w : ℕ) → Among x w es → (plain (Insert x v First) es).entries ≡ es
  -- Delete is answered Deleted, with the information that stood there, just if the key stands, and then it is not found
  pub deletes : (x v : ℕ) → Among x v es → (plain (Delete x First) es).answer ≡ Deleted v
  pub deleted : (x v : ℕ) → (plain (Delete x First) es).answer ≡ Deleted v → Among x v es
  pub deleted_gone : (x v : ℕ) → (plain (Delete x First) es).answer ≡ Deleted v
      → (plain (Search x) (plain (Delete x First) es).entries).answer ≡ NotFound
  -- otherwise it is answered NoSuchKey, and changes nothing
  pub no_such_key : (x : ℕ) → Missing x es → (plain (Delete x First) es).answer ≡ NoSuchKey
  pub no_such_key_keeps : (x : ℕ) → Missing x es → (plain (Delete x First) es).entries ≡ es
  -- Next answers the first entry whose key is at or above the key asked, and None just if there is none. It changes nothing.
  pub nexts : (x y v : ℕ) → FirstFrom x y v es → (plain (Next x) es).answer ≡ NextLot y v
  pub next : (x y v : ℕ) → (plain (Next x) es).answer ≡ NextLot y v → FirstFrom x y v es
  pub none : (x : ℕ) → AllBelow x es → (plain (Next x) es).answer ≡ NoLot
  pub none_above : (x : ℕ) → (plain (Next x) es).answer ≡ NoLot → AllBelow x es
  pub next_keeps : (x : ℕ) → (plain (Next x) es).entries ≡ es
  -- Regrade is answered Regraded, with the information that stood there, just if the key stands, and then the key is found with the
  -- new information
  pub regrades : (x w v : ℕ) → Among x v es → (plain (Regrade x w First) es).answer ≡ Regraded v
  pub regraded : (x w v : ℕ) → (plain (Regrade x w First) es).answer ≡ Regraded v → Among x v es
  pub regraded_found : (x w v : ℕ) → (plain (Regrade x w First) es).answer ≡ Regraded v
      → (plain (Search x) (plain (Regrade x w First) es).entries).answer ≡ Found w
  -- the new information stands in the place of the old, and everything else as it was: so the keys stay
  pub regraded_there : (x w v : ℕ) (a : Among x v es) → (plain (Regrade x w First) es).entries ≡ a.before ++ entry x w ∷ a.after
  pub regraded_keys : (x w : ℕ) → map keyOfEntry (plain (Regrade x w First) es).entries ≡ map keyOfEntry es
  -- where the key is missing it is answered NoSuchKey, and changes nothing
  pub none_to_regrade : (x w : ℕ) → Missing x es → (plain (Regrade x w First) es).answer ≡ NoSuchKey
  pub none_to_regrade_keeps : (x w : ℕ) → Missing x es → (plain (Regrade x w First) es).entries ≡ es
  -- other keys are untouched: a search of another key is answered as before
  pub others : (op : Op) (y : ℕ) → y ≢ key_of op → (plain (Search y) (plain op es).entries).answer ≡ (plain (Search y) es).answer
