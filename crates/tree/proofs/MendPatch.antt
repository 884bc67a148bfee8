-- A patch: some things of a page replaced by others, with the pages written below them, so that the key x is gone.
-- A patch of a few things is a patch of the whole row they stand in; a patch of what pages hold, with these pages
-- written, is a patch of the pages. So a deletion's change is built from the leaf upward.
use Prim.Native.Nat.{ℕ, zero, suc, ◌+◌, ◌*◌, ◌≤◌, ◌<◌}
use native.Mathlib.Omega.{arith}
use mathlib.Core.List.{List, [], ◌∷◌, ◌++◌}
use mathlib.Core.Logic.{◌⊎◌, inl, inr, ⊎_elim}
use mathlib.Core.Path.{◌≡◌, refl, sym, ap, ap₂, ◌∙◌}
use borrow.Author.Tests.{leb-true, leb-false}
use lib.Dec.{leb}
use Rattle.ground.proofs.Choice.{by_test}
use Rattle.page.specs.Words.{Keyed, Entry, Page, μ, free_page}
use Rattle.page.specs.Place.{without}
use Rattle.page.proofs.WordLaws.{free_fits}
use Rattle.pool.specs.Pool.{Write, write}
use Rattle.tree.specs.Rows.{head_key, Span, Somewhere, Each, gathered, total}
use Rattle.tree.specs.Tree.{Tr, page_number, page_of, entries_of, once, Holds, Stands, ChildIn}
use Rattle.tree.specs.Change.{written_pages, Fitting}
use Rattle.tree.proofs.Rows.{somewhere_map}
use Rattle.tree.proofs.Sorted.{without_parts}
use Rattle.tree.proofs.Memory.{once_same, once_is, times, times_written, Stores, stores_left, stores_right, fitting_append, fits_page}
use Rattle.tree.proofs.Mend.{Things, things_of, Run, entries_in, occurs_in, HoldsIn, StandsIn, TopStands, entries_things, occurs_things, holds_things, holds_below, stands_things, stands_top, stands_below, range_run, run_nil, entries_in_append, occurs_in_append, holds_in_append, holds_in_left, holds_in_right, run_append, run_within, stands_in_cases, stands_in_left, stands_in_right, things_same}

-- how often page q is written
abbrev pub hits : ℕ → List Write → ℕ
hits q W = times q (written_pages W)

-- M has what `memory` had, in those of the pages counted that are not written
abbrev pub Elsewhere : (ℕ → Page) → (ℕ → Page) → (ℕ → ℕ) → List Write → Type 0
Elsewhere memory M pages W = (q : ℕ) → 1 ≤ pages q → hits q W ≡ 0 → M q ≡ memory q

-- Things `old` with range lo to hi replaced by `new`, with the writes W.
pub record Patch (k : ℕ) (memory : ℕ → Page) (x l : ℕ) (old new : Things l) (lo hi : ℕ) (W : List Write) : Type 0 where
  pub runs : Run k l new lo hi
  pub entries : entries_in l new ≡ without x (entries_in l old)
  -- no page comes in, and a page that goes is freed
  pub fewer : (q : ℕ) → occurs_in q l new ≤ occurs_in q l old
  pub gone : (M : ℕ → Page) → Stores M W → (q : ℕ) → 1 ≤ occurs_in q l old → occurs_in q l new ≡ 0 → M q ≡ free_page
  -- a memory that has what the writes say, and elsewhere what there was, holds the new things
  pub holds : (M : ℕ → Page) → Stores M W → Elsewhere memory M (λ q. occurs_in q l old) W → HoldsIn M l new
  -- only pages below the old things are written, and none twice where none hangs in two places
  pub writes : (q : ℕ) → hits q W ≤ occurs_in q l old
  pub fitting : Fitting k W
  -- a page that is not written keeps its level and range
  pub keeps : (q level a b : ℕ) → hits q W ≡ 0 → StandsIn l old hi q level a b → StandsIn l new hi q level a b

-- ---- things in the middle of a row

parts_entries : (l : ℕ) (xs ms ys : Things l) → entries_in l (xs ++ (ms ++ ys)) ≡ entries_in l xs ++ (entries_in l ms ++ entries_in l ys)
parts_entries l xs ms ys = entries_in_append l xs (ms ++ ys) ∙ ap (λ (es : List Entry). entries_in l xs ++ es) (entries_in_append l ms ys)

parts_occurs : (q l : ℕ) (xs ms ys : Things l) → occurs_in q l (xs ++ (ms ++ ys)) ≡ occurs_in q l xs + (occurs_in q l ms + occurs_in q l ys)
parts_occurs q l xs ms ys = occurs_in_append q l xs (ms ++ ys) ∙ ap (λ (n : ℕ). occurs_in q l xs + n) (occurs_in_append q l ms ys)

-- The middle part is patched, and the others stay: they are not written, since no page hangs in two places.
module _ (k : ℕ) (memory : ℕ → Page) (x l : ℕ) (xs old new ys : Things l) (lo a b hi : ℕ) (W : List Write)
    (before : Run k l xs lo a) (middle : Run k l old a b) (after : Run k l ys b hi) (from : a ≤ x) (to : x < b)
    (different : (q : ℕ) → occurs_in q l (xs ++ (old ++ ys)) ≤ 1) (held : HoldsIn memory l (xs ++ (old ++ ys)))
    (p : Patch k memory x l old new a b W) where
  parts : (q : ℕ) → occurs_in q l (xs ++ (old ++ ys)) ≡ occurs_in q l xs + (occurs_in q l old + occurs_in q l ys)
  parts q = parts_occurs q l xs old ys

  graft_keeps : (q level c d : ℕ) → hits q W ≡ 0
      → StandsIn l (xs ++ (old ++ ys)) hi q level c d → StandsIn l (xs ++ (new ++ ys)) hi q level c d
  graft_keeps q level c d u s =
      let oldRun : Run k l (old ++ ys) a hi = run_append k l old ys a b hi middle after in
      let newRun : Run k l (new ++ ys) a hi = run_append k l new ys a b hi p.runs after in
      ⊎_elim
      (λ h. stands_in_left k l xs (new ++ ys) a hi q level c d newRun h)
      (λ h.
      stands_in_right l xs (new ++ ys) hi q level c d
      (⊎_elim
      (λ g. stands_in_left k l new ys b hi q level c d after (p.keeps q level c d u g))
      (λ g. stands_in_right l new ys hi q level c d g)
      (stands_in_cases k l old ys b hi q level c d after h)))
      (stands_in_cases k l xs (old ++ ys) a hi q level c d oldRun s)

  graft_holds : (M : ℕ → Page) → Stores M W → Elsewhere memory M (λ q. occurs_in q l (xs ++ (old ++ ys))) W → HoldsIn M l (xs ++ (new ++ ys))
  graft_holds M s same =
      holds_in_append M l xs (new ++ ys)
      (things_same memory M l xs
      (λ q o. same q (omega (arith, parts q)) (omega (arith, parts q, different q, p.writes q)))
      (holds_in_left memory l xs (old ++ ys) held))
      (holds_in_append M l new ys
      (p.holds M s (λ q o u. same q (omega (arith, parts q)) u))
      (things_same memory M l ys
      (λ q o. same q (omega (arith, parts q)) (omega (arith, parts q, different q, p.writes q)))
      (holds_in_right memory l old ys (holds_in_right memory l xs (old ++ ys) held))))

  pub graft : Patch k memory x l (xs ++ (old ++ ys)) (xs ++ (new ++ ys)) lo hi W
  graft =
      let first = run_within k l xs lo a before in
      let last = run_within k l ys b hi after in
      record {
        runs = run_append k l xs (new ++ ys) lo a hi before (run_append k l new ys a b hi p.runs after);
        entries =
            parts_entries l xs new ys
            ∙ ap (λ (es : List Entry). entries_in l xs ++ (es ++ entries_in l ys)) p.entries
            ∙ sym (without_parts x lo a b hi (entries_in l xs) (entries_in l old) (entries_in l ys) first last from to)
            ∙ ap (without x) (sym (parts_entries l xs old ys));
        fewer = λ q. omega (arith, parts q, parts_occurs q l xs new ys, p.fewer q);
        gone =
            λ M s q o n.
            let rest = parts_occurs q l xs new ys in
            p.gone M s q (omega (arith, parts q)) (omega arith);
        holds = graft_holds;
        writes = λ q. omega (arith, parts q, p.writes q);
        fitting = p.fitting;
        keeps = graft_keeps;
      }

-- ---- from what pages hold to the pages

-- what the pages of a row hold, one behind the other
abbrev pub opened : (l : ℕ) → List (Keyed (Tr l)) → Things l
opened l [] = []
opened l (d ∷ ds) = things_of l d.value ++ opened l ds

-- how often q is one of the row's own pages
abbrev pub tops : ℕ → (l : ℕ) → List (Keyed (Tr l)) → ℕ
tops q l row = total (λ (t : Tr l). once q (page_number l t)) row

-- the pages of a row are its own and those below,
pub opened_occurs : (q l : ℕ) (row : List (Keyed (Tr l))) → occurs_in q (suc l) row ≡ tops q l row + occurs_in q l (opened l row)
opened_occurs q l [] = nothing_in q l
  where
    nothing_in : (q l : ℕ) → 0 ≡ 0 + occurs_in q l []
    nothing_in q zero = omega arith
    nothing_in q (suc l) = omega arith
opened_occurs q l (d ∷ ds) =
    let ih = opened_occurs q l ds in
    let here = occurs_things q l d.value in
    let cut = occurs_in_append q l (things_of l d.value) (opened l ds) in
    omega arith

-- its entries are those in what its pages hold,
pub opened_entries : (l : ℕ) (row : List (Keyed (Tr l))) → gathered (entries_of l) row ≡ entries_in l (opened l row)
opened_entries l [] = no_entries l
  where
    no_entries : (l : ℕ) → [] ≡ entries_in l []
    no_entries zero = refl
    no_entries (suc l) = refl
opened_entries l (d ∷ ds) =
    ap₂ (λ (es fs : List Entry). es ++ fs) (entries_things l d.value) (opened_entries l ds)
    ∙ sym (entries_in_append l (things_of l d.value) (opened l ds))

-- and a memory holds it that has its own pages and holds what is below, and back.
opened_holds : (M : ℕ → Page) (l : ℕ) (row : List (Keyed (Tr l)))
    → Each (λ (t : Tr l). M (page_number l t) ≡ page_of l t) row → HoldsIn M l (opened l row) → Each (Holds M l) row
opened_holds M l [] e h = tt
opened_holds M l (d ∷ ds) e h = (
  holds_things M l d.value e.0 (holds_in_left M l (things_of l d.value) (opened l ds) h),
  opened_holds M l ds e.1 (holds_in_right M l (things_of l d.value) (opened l ds) h),
)

pub holds_opened : (M : ℕ → Page) (l : ℕ) (row : List (Keyed (Tr l))) → Each (Holds M l) row → HoldsIn M l (opened l row)
holds_opened M l [] h = none_held l
  where
    none_held : (l : ℕ) → HoldsIn M l []
    none_held zero = tt
    none_held (suc l) = tt
holds_opened M l (d ∷ ds) h =
    holds_in_append M l (things_of l d.value) (opened l ds) (holds_below M l d.value h.0) (holds_opened M l ds h.1)

module _ (k : ℕ) where
  -- what the pages of a row hold is a run
  pub opened_run : (l : ℕ) (row : List (Keyed (Tr l))) (hi : ℕ) → Span (ChildIn k l) row hi → Run k l (opened l row) (head_key row hi) hi
  opened_run l [] hi s = run_nil k l hi
  opened_run l (d ∷ ds) hi s =
      run_append k l (things_of l d.value) (opened l ds) d.key (head_key ds hi) hi
      (range_run k k (2 * k) l d.value d.key (head_key ds hi) s.1)
      (opened_run l ds hi s.2)

  -- a page of the row is one of its own pages or below them, and back
  pub opened_cases : (l : ℕ) (row : List (Keyed (Tr l))) (hi q level a b : ℕ) → Span (ChildIn k l) row hi
      → StandsIn (suc l) row hi q level a b
      → Somewhere (λ (t : Tr l) (lo' hi' : ℕ). TopStands l t lo' hi' q level a b) row hi ⊎ StandsIn l (opened l row) hi q level a b
  opened_cases l [] hi q level a b s h = absurd h
  opened_cases l (d ∷ ds) hi q level a b s (inl h) =
      let below = opened_run l ds hi s.2 in
      ⊎_elim
      (λ t. inl (inl t))
      (λ g. inr (stands_in_left k l (things_of l d.value) (opened l ds) (head_key ds hi) hi q level a b below g))
      (stands_things l d.value d.key (head_key ds hi) q level a b h)
  opened_cases l (d ∷ ds) hi q level a b s (inr h) =
      ⊎_elim
      (λ t. inl (inr t))
      (λ g. inr (stands_in_right l (things_of l d.value) (opened l ds) hi q level a b g))
      (opened_cases l ds hi q level a b s.2 h)

  opened_below : (l : ℕ) (row : List (Keyed (Tr l))) (hi q level a b : ℕ) → Span (ChildIn k l) row hi
      → StandsIn l (opened l row) hi q level a b → StandsIn (suc l) row hi q level a b
  opened_below zero [] hi q level a b s h = absurd h
  opened_below (suc l) [] hi q level a b s h = absurd h
  opened_below l (d ∷ ds) hi q level a b s h =
      let below = opened_run l ds hi s.2 in
      ⊎_elim
      (λ g. inl (stands_below l d.value d.key (head_key ds hi) q level a b g))
      (λ g. inr (opened_below l ds hi q level a b s.2 g))
      (stands_in_cases k l (things_of l d.value) (opened l ds) (head_key ds hi) hi q level a b below h)

-- The row's own pages: `old` replaced by `new`, with the writes U. The fields are those of a patch.
pub record Tops (k : ℕ) (memory : ℕ → Page) (l : ℕ) (old new : List (Keyed (Tr l))) (hi : ℕ) (U : List Write) : Type 0 where
  pub fewer : (q : ℕ) → tops q l new ≤ tops q l old
  pub gone : (M : ℕ → Page) → Stores M U → (q : ℕ) → 1 ≤ tops q l old → tops q l new ≡ 0 → M q ≡ free_page
  pub holds : (M : ℕ → Page) → Stores M U → Elsewhere memory M (λ q. tops q l old) U
      → Each (λ (t : Tr l). M (page_number l t) ≡ page_of l t) new
  pub writes : (q : ℕ) → hits q U ≤ tops q l old
  pub fitting : Fitting k U
  pub keeps : (q level a b : ℕ) → hits q U ≡ 0
      → Somewhere (λ (t : Tr l) (lo' hi' : ℕ). TopStands l t lo' hi' q level a b) old hi
      → Somewhere (λ (t : Tr l) (lo' hi' : ℕ). TopStands l t lo' hi' q level a b) new hi

-- A row of pages is patched where what they hold is, and they themselves: no page is written for both reasons.
module _ (k : ℕ) (memory : ℕ → Page) (x l : ℕ) (old new : List (Keyed (Tr l))) (hi : ℕ) (W U : List Write)
    (oldSpan : Span (ChildIn k l) old hi) (newSpan : Span (ChildIn k l) new hi) (begins : head_key new hi ≡ head_key old hi)
    (different : (q : ℕ) → occurs_in q (suc l) old ≤ 1)
    (p : Patch k memory x l (opened l old) (opened l new) (head_key old hi) hi W) (t : Tops k memory l old new hi U) where
  pages : (q : ℕ) → occurs_in q (suc l) old ≡ tops q l old + occurs_in q l (opened l old)
  pages q = opened_occurs q l old

  closed_gone : (M : ℕ → Page) → Stores M (W ++ U) → (q : ℕ) → 1 ≤ occurs_in q (suc l) old → occurs_in q (suc l) new ≡ 0 → M q ≡ free_page
  closed_gone M s q o n =
      by_test (leb 1 (tops q l old))
      (λ h. t.gone M (stores_right M W U s) q (leb-true 1 (tops q l old) h) (omega (arith, opened_occurs q l new)))
      (λ h.
      let none : tops q l old < 1 = leb-false 1 (tops q l old) h in
      p.gone M (stores_left M W U s) q (omega (arith, pages q)) (omega (arith, opened_occurs q l new)))

  closed_holds : (M : ℕ → Page) → Stores M (W ++ U) → Elsewhere memory M (λ q. occurs_in q (suc l) old) (W ++ U) → HoldsIn M (suc l) new
  closed_holds M s same =
      opened_holds M l new
      (t.holds M (stores_right M W U s)
      (λ q o u. same q (omega (arith, pages q)) (omega (arith, times_written q W U, p.writes q, pages q, different q))))
      (p.holds M (stores_left M W U s)
      (λ q o u. same q (omega (arith, pages q)) (omega (arith, times_written q W U, t.writes q, pages q, different q))))

  closed_keeps : (q level a b : ℕ) → hits q (W ++ U) ≡ 0 → StandsIn (suc l) old hi q level a b → StandsIn (suc l) new hi q level a b
  closed_keeps q level a b u s =
      let Top : Tr l → ℕ → ℕ → Type 0 = λ c lo' hi'. TopStands l c lo' hi' q level a b in
      let Page : Tr l → ℕ → ℕ → Type 0 = λ c lo' hi'. Stands l c lo' hi' q level a b in
      let both = times_written q W U in
      ⊎_elim
      (λ h. somewhere_map Top Page new hi (λ c lo' hi' g. stands_top l c lo' hi' q level a b g) (t.keeps q level a b (omega arith) h))
      (λ h. opened_below k l new hi q level a b newSpan (p.keeps q level a b (omega arith) h))
      (opened_cases k l old hi q level a b oldSpan s)

  pub closed : Patch k memory x (suc l) old new (head_key old hi) hi (W ++ U)
  closed =
      record {
        runs = (begins, newSpan);
        entries = opened_entries l new ∙ p.entries ∙ ap (without x) (sym (opened_entries l old));
        fewer = λ q. omega (arith, pages q, opened_occurs q l new, p.fewer q, t.fewer q);
        gone = closed_gone;
        holds = closed_holds;
        writes = λ q. omega (arith, times_written q W U, pages q, p.writes q, t.writes q);
        fitting = fitting_append k W U p.fitting t.fitting;
        keeps = closed_keeps;
      }

-- ---- the row's own pages: one that stays, one that is written, two that are written, two that join

-- a page that stays as it is
pub top_kept : (k : ℕ) (memory : ℕ → Page) (l : ℕ) (d e : Keyed (Tr l)) (hi : ℕ)
    → e.key ≡ d.key → page_number l e.value ≡ page_number l d.value → page_of l e.value ≡ page_of l d.value
    → memory (page_number l d.value) ≡ page_of l d.value → Tops k memory l (d ∷ []) (e ∷ []) hi []
top_kept k memory l d e hi ke ne pe held =
    let a : ℕ = page_number l d.value in
    let same : (q : ℕ) → once q (page_number l e.value) ≡ once q a = λ q. ap (once q) ne in
    let one = once_same a a refl in
    record {
      fewer = λ q. omega (arith, same q);
      gone = λ M s q o n. absurd (omega (arith, same q));
      holds = λ M s u. (ap M ne ∙ u a (omega arith) refl ∙ held ∙ sym pe, tt);
      writes = λ q. omega arith;
      fitting = tt;
      keeps = λ q level a b u. ⊎_elim (λ h. inl (ne ∙ h.0, h.1, h.2 ∙ sym ke, h.3)) (λ h. absurd h);
    }

-- a page that is written
pub top_written : (k : ℕ) (memory : ℕ → Page) (l : ℕ) (d e : Keyed (Tr l)) (hi : ℕ)
    → e.key ≡ d.key → page_number l e.value ≡ page_number l d.value → μ (page_of l e.value) ≤ 2 * k
    → Tops k memory l (d ∷ []) (e ∷ []) hi (write (page_number l d.value) (page_of l e.value) ∷ [])
top_written k memory l d e hi ke ne fits =
    let same : (q : ℕ) → once q (page_number l e.value) ≡ once q (page_number l d.value) = λ q. ap (once q) ne in
    record {
      fewer = λ q. omega (arith, same q);
      gone = λ M s q o n. absurd (omega (arith, same q));
      holds = λ M s u. (ap M ne ∙ s.0, tt);
      writes = λ q. omega arith;
      fitting = (fits_page k l e.value fits, tt);
      keeps = λ q level a b u. ⊎_elim (λ h. inl (ne ∙ h.0, h.1, h.2 ∙ sym ke, h.3)) (λ h. absurd h);
    }

-- two neighbours that are written, in one order or the other
pub tops_moved : (k : ℕ) (memory : ℕ → Page) (l : ℕ) (a b a' b' : Keyed (Tr l)) (hi : ℕ) (U : List Write)
    → page_number l a'.value ≡ page_number l a.value → page_number l b'.value ≡ page_number l b.value
    → ((q : ℕ) → hits q U ≡ once q (page_number l a.value) + once q (page_number l b.value))
    → ((M : ℕ → Page) → Stores M U
    → (M (page_number l a.value) ≡ page_of l a'.value) × (M (page_number l b.value) ≡ page_of l b'.value))
    → Fitting k U → Tops k memory l (a ∷ b ∷ []) (a' ∷ b' ∷ []) hi U
tops_moved k memory l a b a' b' hi U na nb each stored fits =
    let sameA : (q : ℕ) → once q (page_number l a'.value) ≡ once q (page_number l a.value) = λ q. ap (once q) na in
    let sameB : (q : ℕ) → once q (page_number l b'.value) ≡ once q (page_number l b.value) = λ q. ap (once q) nb in
    record {
      fewer = λ q. omega (arith, sameA q, sameB q);
      gone = λ M s q o n. absurd (omega (arith, sameA q, sameB q));
      holds = λ M s u. (ap M na ∙ (stored M s).0, (ap M nb ∙ (stored M s).1, tt));
      writes = λ q. omega (arith, each q);
      fitting = fits;
      keeps =
          λ q level c d u.
          ⊎_elim
          (λ h. let one = once_same q (page_number l a.value) (sym h.0) in absurd (omega (arith, each q)))
          (⊎_elim
          (λ h. let one = once_same q (page_number l b.value) (sym h.0) in absurd (omega (arith, each q)))
          (λ h. absurd h));
    }

-- two neighbours joined in the left page, and the right one freed
pub tops_joined : (k : ℕ) (memory : ℕ → Page) (l : ℕ) (a b j : Keyed (Tr l)) (hi : ℕ)
    → page_number l j.value ≡ page_number l a.value → μ (page_of l j.value) ≤ 2 * k
    → Tops k memory l (a ∷ b ∷ []) (j ∷ []) hi
    (write (page_number l a.value) (page_of l j.value) ∷ write (page_number l b.value) free_page ∷ [])
tops_joined k memory l a b j hi nj fits =
    let same : (q : ℕ) → once q (page_number l j.value) ≡ once q (page_number l a.value) = λ q. ap (once q) nj in
    record {
      fewer = λ q. omega (arith, same q);
      gone = λ M s q o n. ap M (once_is q (page_number l b.value) (omega (arith, same q))) ∙ s.1.0;
      holds = λ M s u. (ap M nj ∙ s.0, tt);
      writes = λ q. omega arith;
      fitting = (fits_page k l j.value fits, (free_fits k, tt));
      keeps =
          λ q level c d u.
          ⊎_elim
          (λ h. let one = once_same q (page_number l a.value) (sym h.0) in absurd (omega arith))
          (⊎_elim
          (λ h. let one = once_same q (page_number l b.value) (sym h.0) in absurd (omega arith))
          (λ h. absurd h));
    }
