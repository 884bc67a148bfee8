-- The blank tag, of runs. 02 (viii): "Lot number 0 is printed on blank tags and gets scanned." Begin refuses it and the opening's check shuts it out, so
-- from a fresh pool or an accepted one, whatever is called, there never is such a lot, and no answer names one.
use Rattle.std.specs.Prelude.{ℕ, ◌<◌, List, ◌∷◌, ◌++◌, ◌≢◌, ◌≡◌}
use Rattle.ground.specs.Limits.{slot_count, blank_key}
use Rattle.pool.specs.Pool.{page_at}
use Rattle.slots.specs.declared.Op.{Op}
use Rattle.slots.specs.declared.Answer.{Answer}
use Rattle.slots.specs.declared.Answer.TheVariants.{Next}
use Rattle.slots.specs.Parts.{Opened}
use Rattle.tree.specs.Tree.{Tr, entries_of, PoolForms}
use Rattle.runs.specs.Run.{Call, Start, run_from, Run}
use Rattle.runs.specs.Done.{plain_entries, ops_of}
use Rattle.runs.specs.PlainFacts.{Missing}
use Rattle.promises.specs.Terms.{Blank}
use Rattle.promises.specs.Demand3.{done_in}

pub record NoBlank (start : Start) (cs : List Call) : Type 0 where
  -- no leaf of the pool has the key, whatever tree the words form it is not among its entries, and the plain list has it neither
  pub leaves : (p : ℕ) → p < start.state.n → (page_at start.state.k (run_from start cs).words p).level ≡ 1
      → Missing blank_key (page_at start.state.k (run_from start cs).words p).entries
  pub trees : (l : ℕ) (t : Tr l) → PoolForms start.state.k start.state.n (run_from start cs).words l t → Missing blank_key (entries_of l t)
  pub list : Missing blank_key (plain_entries (ops_of (done_in cs (run_from start cs))) start.entries)
  -- no slot is open with it, but with a Next
  pub asks : (s : ℕ) (op : Op) → s < slot_count → Opened (run_from start cs).state s op → Blank op → ⊥
  -- no answer carries it: Next's alone names a key
  pub answers : (before after : List Answer) (x v : ℕ) → (run_from start cs).answers ≡ before ++ Next x v ∷ after → x ≢ blank_key

abbrev pub NoBlankHolds : Type 0
NoBlankHolds = (start : Start) (cs : List Call) → Run start cs → NoBlank start cs
