-- The rule of settling a page with one pair more: where it is written, where it is split, and where page 0 rises. The code
-- writes in the rule's order, so that its words are those of the rule's list.
use Prim.Native.Nat.{ℕ, suc, ◌+◌, ◌*◌, ◌≤◌, ◌<◌}
use mathlib.Core.Bool.{false, cond}
use mathlib.Core.List.{List, [], ◌∷◌}
use mathlib.Core.Path.{◌≡◌, refl, sym, ap, ap₂, ◌∙◌}
use native.Mathlib.Omega.{arith}
use borrow.Author.Tests.{eq-eqb}
use lib.Dec.{leb}
use lib.ListN.{drop}
use Rattle.std.specs.Prelude.{Some, None}
use Rattle.ground.specs.Tests.{member}
use Rattle.ground.proofs.Bools.{or_first}
use Rattle.page.specs.Words.{Page, entry, μ}
use Rattle.page.specs.Place.{place}
use Rattle.page.specs.Splits.{put, split, raised}
use Rattle.sheet.specs.Sheets.{OnSheet, sheet_page}
use Rattle.page.proofs.PutLaws.{put_μ, put_level}
use Rattle.pool.specs.Pool.{Write, write, written, applied}
use Rattle.pool.specs.Wrapped.{InPool}
use Rattle.change.specs.Insertion.{lowest, settled}
use Rattle.change.specs.Held.{Held}
use Rattle.insertion.specs.Inserting.{grown, settled_as}
use Rattle.sheet.specs.declared.sheets.Sheet.{Sheet}
use Rattle.change.proofs.HeldLaws.{Known, held_known}
use Rattle.change.proofs.RuleLaws.{settled_fits, settled_splits, settled_raises}

-- ---- lists of writes

-- one page written
pub applied_one : (k : ℕ) (w : Write) (ws : List ℕ) → applied k (w ∷ []) ws ≡ written k w ws
unfolding applied
applied_one k w ws = refl

-- two, taken apart
applied_both : (k : ℕ) (w u : Write) (ws : List ℕ) → applied k (w ∷ u ∷ []) ws ≡ written k u (written k w ws)
unfolding applied
applied_both k w u ws = refl

-- ---- one page that is held

-- the page is among those held
pub held_one : {k n : ℕ} {ws : List ℕ} {p : ℕ} → Held k n ws (p ∷ []) → Known k n ws p
unfolding member
held_one {p = p} h = held_known h p (or_first false (eq-eqb p p refl))

-- another page of the same pool
pub held_other : {k n : ℕ} {ws : List ℕ} {p a : ℕ} → Held k n ws (p ∷ []) → a < n → InPool k n a ws
held_other h inside = record { width = h.width; most = h.most; whole = h.whole; inside = inside }

-- ---- the rule, a page at a time

module _ (k : ℕ) (memory : ℕ → Page) (x : ℕ) where
  -- at the top only the first two new pages matter, and no other page
  pub settled_top : (memory' : ℕ → Page) (free : List ℕ) (a b p : ℕ) (P : Page) → lowest free ≡ a → lowest (drop 1 free) ≡ b
      → settled k memory x free [] p P ≡ settled k memory' x (a ∷ b ∷ []) [] p P
  unfolding settled
  settled_top memory' free a b p P e f =
      ap₂
      (λ (l r : ℕ).
      cond (leb (μ P) (2 * k))
      (write p P ∷ [])
      (write l (split k P).left ∷ write r (split k P).right ∷ write p (raised P l (split k P).between r) ∷ []))
      e
      f

  -- a page with a father that fits: the rest of the list is this page
  pub settled_done : (free up : List ℕ) (p : ℕ) (P : Page) (ws after : List ℕ) → μ P ≤ 2 * k → after ≡ written k (write p P) ws
      → after ≡ applied k (settled k memory x free up p P) ws
  settled_done free up p P ws after h e =
      e ∙ sym (ap (λ (l : List Write). applied k l ws) (settled_fits k memory x free up p P h) ∙ applied_one k (write p P) ws)

  -- a page with a father that was split: the rest of the list is what its father comes to
  pub settled_on : (free rest fathers : List ℕ) (f : ℕ) (up : List ℕ) (p : ℕ) (P : Page) (a key : ℕ) (ws after : List ℕ)
      → fathers ≡ f ∷ up
      → lowest free ≡ a
      → drop 1 free ≡ rest
      → 2 * k < μ P
      → key ≡ (split k P).between
      → after ≡ written k (write p (split k P).left) (written k (write a (split k P).right) ws)
      → applied k (settled k memory x free fathers p P) ws ≡ applied k (settled k memory x rest up f (grown x key a (memory f))) after
  unfolding applied
  settled_on free rest fathers f up p P a key ws after eFathers eTaken eRest over eKey eAfter =
      ap (λ (l : List ℕ). applied k (settled k memory x free l p P) ws) eFathers
      ∙ ap (λ (l : List Write). applied k l ws) (settled_splits k memory x free f up p P over)
      ∙ ap
      (λ (b : ℕ).
      applied k (settled k memory x (drop 1 free) up f (grown x (split k P).between b (memory f)))
      (written k (write p (split k P).left) (written k (write b (split k P).right) ws)))
      eTaken
      ∙ ap₂
      (λ (l : List ℕ) (y : ℕ).
      applied k (settled k memory x l up f (grown x y a (memory f)))
      (written k (write p (split k P).left) (written k (write a (split k P).right) ws)))
      eRest
      (sym eKey)
      ∙ ap (λ (w : List ℕ). applied k (settled k memory x rest up f (grown x key a (memory f))) w) (sym eAfter)

-- ---- what the code does to one page

-- one pair more than the page has
pub grown_μ : (x key value : ℕ) (F : Page) → μ (grown x key value F) ≡ suc (μ F)
grown_μ x key value F = put_μ (place x F.entries) (entry key value) F

-- a pair put in at the place of x
put_grown : (x at key value : ℕ) (F : Page) → at ≡ place x F.entries → put at (entry key value) F ≡ grown x key value F
put_grown x at key value F there = ap (λ (i : ℕ). put i (entry key value) F) there

-- a buffer with one pair more than a full page
pub over_count : (k at key value : ℕ) (F : Page) {s : Sheet} → OnSheet (put at (entry key value) F) s → μ F ≡ 2 * k → s.count ≡ 2 * k + 1
over_count k at key value F holds full = omega (arith, holds.counted, put_μ at (entry key value) F)

-- has the page's level
pub over_level : (at key value : ℕ) (F : Page) {s : Sheet} → OnSheet (put at (entry key value) F) s → s.level ≡ F.level
over_level at key value F holds = ap (λ (P : Page). P.level) holds.value ∙ put_level at (entry key value) F

module _ (k x key value p a : ℕ) (F : Page) (at m : ℕ) (ws : List ℕ) (there : at ≡ place x F.entries) (counted : m ≡ μ F) where
  -- it fits
  pub settle_done : {after : List ℕ} → m < 2 * k → after ≡ written k (write p (put at (entry key value) F)) ws
      → settled_as k p (grown x key value F) a ws after None
  settle_done h e =
      (omega (arith, grown_μ x key value F), e ∙ ap (λ (P : Page). written k (write p P) ws) (put_grown x at key value F there))

  -- it was split
  pub settle_up : {s : Sheet} {up : ℕ} {after : List ℕ} → 2 * k ≤ m → OnSheet (put at (entry key value) F) s
      → up ≡ (split k (sheet_page s)).between
      → after ≡ applied k (write a (split k (sheet_page s)).right ∷ write p (split k (sheet_page s)).left ∷ []) ws
      → settled_as k p (grown x key value F) a ws after (Some up)
  settle_up {s} h holds e f =
      let same : sheet_page s ≡ grown x key value F = holds.value ∙ put_grown x at key value F there in (
        omega (arith, grown_μ x key value F),
        e ∙ ap (λ (P : Page). (split k P).between) same,
        f
            ∙ ap (λ (P : Page). applied k (write a (split k P).right ∷ write p (split k P).left ∷ []) ws) same
            ∙ applied_both k (write a (split k (grown x key value F)).right) (write p (split k (grown x key value F)).left) ws,
      )

  -- the top fits
  pub top_done : (b : ℕ) (memory : ℕ → Page) {after : List ℕ} → m < 2 * k → after ≡ written k (write p (put at (entry key value) F)) ws
      → after ≡ applied k (settled k memory x (a ∷ b ∷ []) [] p (grown x key value F)) ws
  top_done b memory {after} h e =
      settled_done k memory x (a ∷ b ∷ []) [] p (grown x key value F) ws after
      (omega (arith, grown_μ x key value F))
      (e ∙ ap (λ (P : Page). written k (write p P) ws) (put_grown x at key value F there))

  -- the top was split
  pub top_raised : (b : ℕ) (memory : ℕ → Page) {s : Sheet} {after : List ℕ} → 2 * k ≤ m → OnSheet (put at (entry key value) F) s
      → after
      ≡ applied k
      (write a (split k (sheet_page s)).left ∷ write b (split k (sheet_page s)).right
      ∷ write p (raised (sheet_page s) a (split k (sheet_page s)).between b) ∷ [])
      ws
      → after ≡ applied k (settled k memory x (a ∷ b ∷ []) [] p (grown x key value F)) ws
  top_raised b memory {s} h holds f =
      let same : sheet_page s ≡ grown x key value F = holds.value ∙ put_grown x at key value F there in
      f
      ∙ ap
      (λ (P : Page).
      applied k
      (write a (split k P).left ∷ write b (split k P).right ∷ write p (raised P a (split k P).between b) ∷ [])
      ws)
      same
      ∙ sym
      (ap (λ (l : List Write). applied k l ws)
      (settled_raises k memory x (a ∷ b ∷ []) p (grown x key value F) (omega (arith, grown_μ x key value F))))
