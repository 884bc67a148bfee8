-- The customer's hope: "updates that don't hold buyers out of the top page". 02 (v): an update by the second way goes down as a reader does.
-- 02 (vi): by the third way it lets readers stay until it converts.
use Rattle.std.specs.Prelude.{ℕ, ◌<◌, true, List, ◌⊎◌, ◌≢◌, ◌≡◌}
use Rattle.ground.specs.Limits.{slot_count}
use Rattle.pool.specs.Pool.{page_at}
use Rattle.slots.specs.declared.Op.{Op}
use Rattle.slots.specs.declared.Op.TheVariants.{Search, Insert, Delete, Next, Regrade}
use Rattle.slots.specs.declared.State.{State}
use Rattle.slots.specs.declared.Answer.TheVariants.{Waiting}
use Rattle.slots.specs.Parts.{open_at, want_at, Opened}
use Rattle.index.specs.Step.{stepped}
use Rattle.runs.specs.Run.{Call, Start, run_from, Run}
use Rattle.promises.specs.Terms.{ByThird, FirstAt, ThirdAt, Converts}
use Rattle.promises.specs.Demand2.{InTheWay}

-- slot s is open and wants page 0, or a page above the leaves
abbrev pub WantsUpper : State → List ℕ → ℕ → Type 0
WantsUpper st ws s =
    (s < slot_count) × (open_at st s ≡ true) × ((want_at st s ≡ 0) ⊎ ((page_at st.k ws (want_at st s)).level ≢ 1))

-- slot s updates by the first or the third way
abbrev pub KeepsOff : State → ℕ → Type 0
KeepsOff st s = FirstAt st s ⊎ ThirdAt st s

-- every open slot searches, asks for the next lot, or updates by the second way and has not begun again
abbrev pub NobodyKeepsOff : State → Type 0
NobodyKeepsOff st = (s : ℕ) → s < slot_count → KeepsOff st s → ⊥

-- who only reads
abbrev pub Reads : Op → Type 0
Reads (Search x) = Unit {0}
Reads (Insert x v way) = ⊥
Reads (Delete x way) = ⊥
Reads (Next x) = Unit {0}
Reads (Regrade x v way) = ⊥

-- every open slot reads, or updates by the third way and does not convert yet
abbrev pub NobodyExcludes : State → Type 0
NobodyExcludes st = (s : ℕ) (op : Op) → s < slot_count → Opened st s op → Reads op ⊎ (ByThird op × (Converts st s → ⊥))

pub record TopOpen (st : State) (ws : List ℕ) : Type 0 where
  -- who waits for page 0 or for an upper page updates by the first or the third way, or waits for one who does
  pub waits_for : (s : ℕ) → WantsUpper st ws s → (stepped st ws s).answer ≡ Waiting
      → (way : InTheWay st s) × (KeepsOff st s ⊎ KeepsOff st way.slot)
  -- so, where nobody does, nobody waits there
  pub free : NobodyKeepsOff st → (s : ℕ) → WantsUpper st ws s → (stepped st ws s).answer ≢ Waiting
  -- 02 (vi), "a lock that lets readers stay": where every update goes by the third way and none converts yet, nobody who reads waits
  pub readers_stay : NobodyExcludes st → (s : ℕ) (op : Op) → s < slot_count → Opened st s op → Reads op → (stepped st ws s).answer ≢ Waiting

-- Of what the calls of any run have left.
abbrev pub TopOpenHolds : Type 0
TopOpenHolds = (start : Start) (cs : List Call) → Run start cs → TopOpen (run_from start cs).state (run_from start cs).words
