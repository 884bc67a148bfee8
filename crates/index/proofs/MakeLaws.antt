-- Whether words are a pool's, and what making and opening promise by that test.
use Prim.Native.Nat.{ℕ, ◌≤◌}
use mathlib.Core.Bool.{Bool, true, false, ◌&&◌}
use mathlib.Core.List.{List}
use mathlib.Core.Path.{◌≡◌, refl, sym, ap, ◌∙◌}
use native.Mathlib.Omega.{arith}
use borrow.Author.Tests.{leb-true, eqb-true}
use lib.Dec.{leb, eqb}
use lib.ListN.{length, set, replicate}
use Rattle.ground.specs.Limits.{largest_k, k_in_range, largest_n, n_in_range}
use Rattle.ground.proofs.Bools.{and_first, and_second, and_first_fails}
use Rattle.ground.proofs.Choice.{cond-true, cond-false}
use Rattle.pool.specs.Pool.{pool_length, start, fresh}
use Rattle.pool.proofs.StretchLaws.{pool_length_start, ends_in_pool}
use Rattle.std.specs.Prelude.{⊤, Result, Ok, Err}
use Rattle.opening.specs.declared.checking.Fault.{Fault}
use Rattle.opening.specs.declared.checking.Fault.TheVariants.{Unsound, NoTree}
use Rattle.opening.specs.Opening.{checked}
use Rattle.opening.specs.Marks.{Handed}
use Rattle.slots.specs.declared.Answer.{Answer}
use Rattle.slots.specs.declared.Answer.TheVariants.{Made, BadPool, Opened, BadPageInPool, BadTree}
use Rattle.slots.specs.Heard.{heard}
use Rattle.slots.specs.Parts.{idle_state}
use Rattle.lent.specs.Layout.{state_length}
use Rattle.lent.specs.Words.{state_of, state_words}
use Rattle.lent.proofs.Inverse.{state_back, idle_words, idle_sized}
use Rattle.index.specs.Step.{Left, left}
use Rattle.index.specs.Make.{made}
use Rattle.index.specs.Open.{opened_as, opened}
use Rattle.index.specs.Statements.{MakeSays, OpenSays}

-- k and n are in range, and the words are as many as n pages of width k have
abbrev pub is_pool : ℕ → ℕ → List ℕ → Bool
is_pool k n ws = k_in_range k && n_in_range n && eqb (length ws) (pool_length k n)

-- the numbers were tested
module _ (k n : ℕ) (ws : List ℕ) {r : Bool} (in_range : r ≡ k_in_range k && n_in_range n) where
  pub range_fails : r ≡ false → false ≡ is_pool k n ws
  range_fails f = sym (and_first_fails (eqb (length ws) (pool_length k n)) (sym in_range ∙ f))

  pub range_most : r ≡ true → (k ≤ largest_k) × (n ≤ largest_n)
  range_most t =
      let both = sym in_range ∙ t in (
        leb-true k largest_k (and_second (leb 1 k) (leb k largest_k) (and_first (k_in_range k) (n_in_range n) both)),
        leb-true n largest_n (and_second (leb 1 n) (leb n largest_n) (and_second (k_in_range k) (n_in_range n) both)),
      )

  pub range_holds : r ≡ true → {words : ℕ} → words ≡ start k n → eqb (length ws) words ≡ is_pool k n ws
  range_holds t e =
      ap (eqb (length ws)) (e ∙ sym (pool_length_start k n))
      ∙ sym (ap (λ (b : Bool). b && eqb (length ws) (pool_length k n)) (sym in_range ∙ t))

-- the words are a pool's
module _ (k n : ℕ) (ws : List ℕ) (good : is_pool k n ws ≡ true) where
  pool_whole : length ws ≡ pool_length k n
  pool_whole = eqb-true (length ws) (pool_length k n) (and_second (k_in_range k && n_in_range n) (eqb (length ws) (pool_length k n)) good)

  -- k and n are small
  pub pool_small : (k ≤ largest_k) × (n ≤ largest_n)
  pool_small =
      let both = and_first (k_in_range k && n_in_range n) (eqb (length ws) (pool_length k n)) good in (
        leb-true k largest_k (and_second (leb 1 k) (leb k largest_k) (and_first (k_in_range k) (n_in_range n) both)),
        leb-true n largest_n (and_second (leb 1 n) (leb n largest_n) (and_second (k_in_range k) (n_in_range n) both)),
      )

  -- there is a first word
  pub pool_some : 1 ≤ length ws
  pool_some =
      let some = leb-true 1 n (and_first (leb 1 n) (leb n largest_n) (and_second (k_in_range k) (n_in_range n) (and_first (k_in_range k && n_in_range n) (eqb (length ws) (pool_length k n)) good))) in
      omega (arith, ends_in_pool k n 0 some, pool_whole)

-- what the rule leaves, given back
made_says : {k n : ℕ} {ws : List ℕ} {r : Answer} {cells' after : List ℕ} (l : Left) → made k n ws ≡ l
    → r ≡ l.answer
    → state_of cells' ≡ l.state
    → cells' ≡ state_words l.state
    → after ≡ l.words
    → MakeSays k n ws r cells' after
made_says l e answer state all words =
    record {
      answer = ap heard answer ∙ sym (ap (λ (m : Left). heard m.answer) e);
      state = state ∙ sym (ap (λ (m : Left). m.state) e);
      all = all ∙ sym (ap (λ (m : Left). state_words m.state) e);
      words = words ∙ sym (ap (λ (m : Left). m.words) e);
    }

opened_says : {k n : ℕ} {ws : List ℕ} {r : Answer} {cells' : List ℕ} (l : Left) → opened k n ws ≡ l
    → r ≡ l.answer
    → state_of cells' ≡ l.state
    → cells' ≡ state_words l.state
    → l.words ≡ ws
    → OpenSays k n ws r cells'
opened_says l e answer state all words =
    record {
      answer = ap heard answer ∙ sym (ap (λ (m : Left). heard m.answer) e);
      state = state ∙ sym (ap (λ (m : Left). m.state) e);
      all = all ∙ sym (ap (λ (m : Left). state_words m.state) e);
      words = ap (λ (m : Left). m.words) e ∙ words;
    }

-- where the words are a pool's, the check decides
opened_as_lem : (k n : ℕ) (ws : List ℕ) (found : Result ⊤ Fault) → is_pool k n ws ≡ true → found ≡ checked k n ws → opened k n ws ≡ opened_as k n ws found
unfolding opened
opened_as_lem k n ws found good e = cond-true (opened_as k n ws (checked k n ws)) (left BadPool (idle_state 0 0) ws) good ∙ ap (opened_as k n ws) (sym e)

-- the words of an idle state
module _ (cells : List ℕ) (long : length cells ≡ state_length) {cleared : List ℕ} (zeros : cleared ≡ replicate (length cells) 0) where
  all_zero : cleared ≡ replicate state_length 0
  all_zero = zeros ∙ ap (λ (m : ℕ). replicate m 0) long

  idle_cells : (k n : ℕ) → set (set cleared 0 k) 1 n ≡ state_words (idle_state k n)
  idle_cells k n = ap (λ (l : List ℕ). set (set l 0 k) 1 n) all_zero ∙ idle_words k n

  idle_state_lem : (k n : ℕ) → state_of (state_words (idle_state k n)) ≡ idle_state k n
  idle_state_lem k n = state_back (idle_state k n) (idle_sized k n)

  module _ (k n : ℕ) (ws : List ℕ) where
    pub make_refuses : is_pool k n ws ≡ false → MakeSays k n ws BadPool cleared ws
    unfolding made
    make_refuses bad =
        let all : cleared ≡ state_words (idle_state 0 0) = all_zero ∙ idle_words 0 0 in
        made_says (left BadPool (idle_state 0 0) ws) (cond-false (left Made (idle_state k n) (fresh k n)) (left BadPool (idle_state 0 0) ws) bad)
        refl (ap state_of all ∙ idle_state_lem 0 0) all refl

    pub make_done : is_pool k n ws ≡ true → {after : List ℕ} → after ≡ set (replicate (length ws) 0) 0 1 → MakeSays k n ws Made (set (set cleared 0 k) 1 n) after
    unfolding made fresh
    make_done good written =
        made_says (left Made (idle_state k n) (fresh k n)) (cond-true (left Made (idle_state k n) (fresh k n)) (left BadPool (idle_state 0 0) ws) good)
        refl (ap state_of (idle_cells k n) ∙ idle_state_lem k n) (idle_cells k n)
        (written ∙ ap (λ (m : ℕ). set (replicate m 0) 0 1) (pool_whole k n ws good))

    -- an opening that is refused leaves the empty state
    open_empty : (a : Answer) → opened k n ws ≡ left a (idle_state 0 0) ws → OpenSays k n ws a cleared
    open_empty a e =
        let all : cleared ≡ state_words (idle_state 0 0) = all_zero ∙ idle_words 0 0 in
        opened_says (left a (idle_state 0 0) ws) e refl (ap state_of all ∙ idle_state_lem 0 0) all refl

    pub open_refuses : is_pool k n ws ≡ false → OpenSays k n ws BadPool cleared
    unfolding opened
    open_refuses bad = open_empty BadPool (cond-false (opened_as k n ws (checked k n ws)) (left BadPool (idle_state 0 0) ws) bad)

    module _ (good : is_pool k n ws ≡ true) where
      pub open_names : {p : ℕ} → Err (Unsound p) ≡ checked k n ws → OpenSays k n ws (BadPageInPool p) cleared
      open_names {p} e = open_empty (BadPageInPool p) (opened_as_lem k n ws (Err (Unsound p)) good e)

      pub open_none : Err NoTree ≡ checked k n ws → OpenSays k n ws BadTree cleared
      open_none e = open_empty BadTree (opened_as_lem k n ws (Err NoTree) good e)

      pub open_done : Ok tt ≡ checked k n ws → OpenSays k n ws Opened (set (set cleared 0 k) 1 n)
      open_done e = opened_says (left Opened (idle_state k n) ws) (opened_as_lem k n ws (Ok tt) good e) refl (ap state_of (idle_cells k n) ∙ idle_state_lem k n) (idle_cells k n) refl

      -- what the check asks
      pub open_handed : Handed k n ws
      open_handed =
          let range = and_first (k_in_range k && n_in_range n) (eqb (length ws) (pool_length k n)) good in
          record {
            width = (pool_small k n ws good).0;
            some = leb-true 1 n (and_first (leb 1 n) (leb n largest_n) (and_second (k_in_range k) (n_in_range n) range));
            most = (pool_small k n ws good).1;
            whole = pool_whole k n ws good;
          }
