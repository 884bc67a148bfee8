-- What holds after every call of a run: the pool is a tree, without a lot of a blank tag, the state is sound, and every open slot stands in the tree
-- as the rules would have it.
use Prim.Native.Nat.{ℕ, ◌<◌}
use mathlib.Core.Bool.{false}
use mathlib.Core.List.{List}
use mathlib.Core.Path.{◌≡◌}
use Rattle.ground.specs.Limits.{slot_count, word_range, blank_key}
use Rattle.page.specs.Place.{has}
use Rattle.pool.specs.Pool.{page_at}
use Rattle.slots.specs.declared.Op.{Op}
use Rattle.slots.specs.declared.State.{State}
use Rattle.slots.specs.Operations.{blank_tag}
use Rattle.slots.specs.Parts.{key_of, slot_at, stand_of, Opened}
use Rattle.slots.proofs.SoundFacts.{SoundState}
use Rattle.slots.proofs.Keeping.{Shaped}
use Rattle.tree.specs.Tree.{Tr, entries_of, PoolForms}
use Rattle.runs.specs.Stance.{Locked, Stance}
use Rattle.runs.specs.Step.{Scene}

pub record Invariant (st : State) (ws : List ℕ) : Type 0 where
  pub shaped : Shaped st
  pub sound : SoundState st
  pub height : ℕ
  pub tree : Tr height
  pub forms : PoolForms st.k st.n ws height tree
  pub no_blank : has blank_key (entries_of height tree) ≡ false
  pub keys : (s : ℕ) (op : Op) → s < slot_count → Opened st s op → key_of op < word_range
  pub tags : (s : ℕ) (op : Op) → s < slot_count → Opened st s op → blank_tag op ≡ false
  pub stands : (s : ℕ) (op : Op) → s < slot_count → Opened st s op
      → Stance st.k (page_at st.k ws) height tree (stand_of op (slot_at st s))
  pub locked : (s : ℕ) (op : Op) → s < slot_count → Opened st s op → Locked (page_at st.k ws) (stand_of op (slot_at st s))

-- what is known of an open slot
pub scene : (st : State) (ws : List ℕ) (inv : Invariant st ws) (s : ℕ) (op : Op) → s < slot_count → Opened st s op
    → Scene st.k st.n ws inv.height inv.tree (stand_of op (slot_at st s))
scene st ws inv s op b runs = record {
  k_least = inv.sound.k_least;
  k_most = inv.sound.k_most;
  n_most = inv.sound.n_most;
  key = inv.keys s op b runs;
  forms = inv.forms;
  no_blank = inv.no_blank;
  stance = inv.stands s op b runs;
  locked = inv.locked s op b runs;
}
