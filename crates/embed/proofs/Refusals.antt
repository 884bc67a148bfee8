-- "A refused call leaves every lent word as given", and so does one that is answered Waiting. A refused making leaves the
-- pool's words as given and clears the state; so does a refused opening.
use Prim.Native.Nat.{ℕ}
use mathlib.Core.Bool.{true, false≢true, ◌&&◌}
use mathlib.Core.List.{List}
use mathlib.Core.Path.{◌≡◌, refl, sym, ap, ◌∙◌}
use lib.Dec.{eqb}
use lib.ListN.{length}
use Rattle.ground.specs.Limits.{k_in_range, n_in_range}
use Rattle.ground.proofs.Choice.{cond-true, cond_ind}
use Rattle.pool.specs.Pool.{pool_length}
use Rattle.slots.specs.declared.Op.{Op}
use Rattle.slots.specs.declared.Answer.{Answer}
use Rattle.slots.specs.declared.State.{State}
use Rattle.std.specs.Prelude.{Option, Some, None}
use Rattle.slots.specs.Heard.{changes_nothing}
use Rattle.slots.specs.Parts.{idle_state}
use Rattle.slots.specs.Begin.{begun}
use Rattle.lent.specs.Words.{state_of, state_words, laid_into, lent_after}
use Rattle.index.specs.Step.{Left, stepped}
use Rattle.index.specs.Make.{made}
use Rattle.index.specs.Open.{opened}
use Rattle.index.proofs.Refusals.{AsGiven, step_refused, opened_ind}
use Rattle.embed.specs.Told.{told, leaves_all}
use Rattle.embed.specs.Statements.{begin_told, begin_leaves}

-- what is told as a refusal changes nothing
still : (heard' : List ℕ) (a : Answer) → heard' ≡ told a → leaves_all heard' ≡ true → changes_nothing a ≡ true
still heard' a e h = sym (ap leaves_all e) ∙ h

lent_stays : (cells : List ℕ) (s : ℕ) (a : Answer) (st : State) → changes_nothing a ≡ true → lent_after cells s a st ≡ cells
unfolding lent_after
lent_stays cells s a st e = cond-true cells (laid_into cells s st) e

pub step_stays : (cells ws : List ℕ) (s : ℕ) (heard' : List ℕ) → heard' ≡ told (stepped (state_of cells) ws s).answer → leaves_all heard' ≡ true
    → (lent_after cells s (stepped (state_of cells) ws s).answer (stepped (state_of cells) ws s).state ≡ cells) × ((stepped (state_of cells) ws s).words ≡ ws)
step_stays cells ws s heard' e h =
    let a : Answer = (stepped (state_of cells) ws s).answer in
    (lent_stays cells s a (stepped (state_of cells) ws s).state (still heard' a e h), (step_refused (state_of cells) ws s (still heard' a e h)).words)

pub begin_stays : (cells : List ℕ) (s : ℕ) (asked : Option Op) (heard' : List ℕ) → heard' ≡ begin_told cells s asked → leaves_all heard' ≡ true
    → begin_leaves cells s asked ≡ cells
begin_stays cells s (Some op) heard' e h =
    let a : Answer = (begun (state_of cells) s op).answer in
    lent_stays cells s a (begun (state_of cells) s op).state (still heard' a e h)
begin_stays cells s None heard' e h = refl

-- the only answer of a making that changes nothing is its refusal
make_still : (k n : ℕ) (ws : List ℕ) → changes_nothing (made k n ws).answer ≡ true → AsGiven (idle_state 0 0) ws (made k n ws)
unfolding made
make_still k n ws =
    cond_ind (λ (after : Left). changes_nothing after.answer ≡ true → AsGiven (idle_state 0 0) ws after)
    (k_in_range k && n_in_range n && eqb (length ws) (pool_length k n))
    (λ _ e. absurd (false≢true e))
    (λ _ _. record { state = refl; words = refl })

pub make_stays : (k n : ℕ) (ws heard' : List ℕ) → heard' ≡ told (made k n ws).answer → leaves_all heard' ≡ true
    → (state_words (made k n ws).state ≡ state_words (idle_state 0 0)) × ((made k n ws).words ≡ ws)
make_stays k n ws heard' e h =
    let given = make_still k n ws (still heard' (made k n ws).answer e h) in
    (ap state_words given.state, given.words)

-- the answers of an opening that change nothing are its refusals
open_still : (k n : ℕ) (ws : List ℕ) → changes_nothing (opened k n ws).answer ≡ true → (opened k n ws).state ≡ idle_state 0 0
open_still k n ws =
    opened_ind k n ws (λ (after : Left). changes_nothing after.answer ≡ true → after.state ≡ idle_state 0 0)
    (λ _ e. absurd (false≢true e))
    (λ _. refl)
    (λ _ _. refl)
    (λ _. refl)

pub open_stays : (k n : ℕ) (ws heard' : List ℕ) → heard' ≡ told (opened k n ws).answer → leaves_all heard' ≡ true
    → state_words (opened k n ws).state ≡ state_words (idle_state 0 0)
open_stays k n ws heard' e h = ap state_words (open_still k n ws (still heard' (opened k n ws).answer e h))
