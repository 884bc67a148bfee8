-- The words that a run left are accepted, since they form a tree without the lot of a blank tag; and its entries are those of the plain list.
use Prim.Native.Nat.{ℕ}
use mathlib.Core.List.{List}
use mathlib.Core.Path.{◌≡◌, subst}
use Rattle.page.specs.Words.{Entry}
use Rattle.slots.specs.declared.Answer.TheVariants.{Opened}
use Rattle.index.specs.Open.{opened}
use Rattle.runs.specs.Run.{IsStart, accepted_pool, opened_start, run_from}
use Rattle.runs.proofs.Runs.{start_ready}
use Rattle.promises.specs.Demand1.{MakingInRange, FormsTree}
use Rattle.promises.specs.Reopening.{ReopeningHolds}
use Rattle.promises.proofs.Demand1.{open_demand}
use Rattle.promises.proofs.Demand3.{demand3}
use Rattle.promises.proofs.Opening.{forms_tree}
use Rattle.promises.proofs.NoBlank.{trees_unblank}

pub reopening_holds : ReopeningHolds
reopening_holds start cs r =
    let k : ℕ = start.state.k in
    let n : ℕ = start.state.n in
    let after : List ℕ = (run_from start cs).words in
    let sound = (start_ready start r.starts).holds.sound in
    let a = (demand3 start cs r).agreement in
    let range : MakingInRange k n after
    = record { k_least = sound.k_least; k_most = sound.k_most; n_least = sound.n_least; n_most = sound.n_most; words = a.forms.whole } in
    let d = open_demand k n after in
    let formed : FormsTree k n after
    = forms_tree k n after a.height a.tree a.forms (trees_unblank start cs r a.height a.tree a.forms) in
    let accepted : (opened k n after).answer ≡ Opened = d.opens.1 (range, formed) in
    record {
      answer = accepted;
      words = d.as_given;
      state = d.accepted accepted;
      starts = subst (λ (es : List Entry). IsStart (opened_start k n after es)) a.entries
          (accepted_pool k n after a.height a.tree accepted a.forms);
    }
