-- One round of a deletion writes two neighbours and then their father. The father is another page than they, so it is still
-- as it was when its turn comes.
use Prim.Native.Nat.{ℕ, suc, ◌+◌, ◌*◌, ◌≤◌, ◌<◌}
use mathlib.Core.Bool.{Bool, true, false, cond, ◌&&◌}
use mathlib.Core.List.{List, [], ◌∷◌}
use mathlib.Core.Path.{◌≡◌, refl, sym, ap, ◌∙◌, subst}
use native.Mathlib.Omega.{arith}
use borrow.Author.Tests.{eqb-true, eq-eqb}
use lib.Dec.{eqb}
use lib.ListN.{length, take, drop, length-append, length-drop}
use lib.Seq.{length-take-le}
use Rattle.ground.proofs.Bools.{same_if_true_together}
use Rattle.ground.proofs.Choice.{cond_ind, cond-true, cond-false}
use Rattle.page.specs.Words.{Entry, Page, μ, is_leaf, free_page}
use Rattle.page.specs.Splits.{split}
use Rattle.page.specs.Short.{joined, less_key, rekeyed}
use Rattle.page.specs.Reading.{Readable}
use Rattle.page.specs.Exact.{Exact}
use Rattle.sheet.specs.Sheets.{OnSheet, sheet_page}
use Rattle.sheet.specs.declared.sheets.Sheet.{Sheet}
use Rattle.page.specs.Fits.{Fits}
use Rattle.page.proofs.ExactLaws.{exact_fits, left_fits, right_fits, joined_μ}
use Rattle.page.proofs.ReadingLaws.{readable}
use Rattle.page.proofs.WordLaws.{free_fits}
use Rattle.pool.specs.Pool.{words_of, page_at, Write, write, written, applied}
use Rattle.pool.specs.Wrapped.{InPool}
use Rattle.pool.proofs.PagesLaws.{in_pool_written}
use Rattle.pool.proofs.WriteLaws.{applied_three}
use Rattle.deletion.specs.Deleting.{Three, Sheeted, Cutting, Joining, Settling, sharing, collapsing, uniting, emptied, paired, lost}
use Rattle.change.proofs.AppliedLaws.{elsewhere}

-- The two neighbours are written.
module _ {k n f b l w : ℕ} {ws : List ℕ} (h : Three k n ws f b l w) (A B : Page) (fa : Fits k A) (fb : Fits k B) {w₁ w₂ : List ℕ}
    (first : w₁ ≡ written k (write l A) ws) (second : w₂ ≡ written k (write w B) w₁) where
  -- the father's words
  father_words : words_of k f w₂ ≡ words_of k f ws
  father_words =
      ap (words_of k f) second
      ∙ elsewhere k n w₁ (write w B) (record { in_pool = h.right.inside; fits = fb }) f h.over_right
      ∙ ap (words_of k f) first
      ∙ elsewhere k n ws (write l A) (record { in_pool = h.left.inside; fits = fa }) f h.over_left

  -- and its value
  father_same : page_at k w₂ f ≡ page_at k ws f
  unfolding page_at
  father_same = rw father_words

  pub father_in_pool : InPool k n f w₂
  father_in_pool = in_pool_written (write w B) second (in_pool_written (write l A) first h.father)

  pub father_exact : Exact k (words_of k f w₂)
  father_exact = subst (Exact k) (sym father_words) h.exact

  pub father_has : b < μ (page_at k w₂ f)
  father_has = subst (λ (F : Page). b < μ F) (sym father_same) h.key

  -- then the father
  pub three_written : (g : Page → Page) {w₃ : List ℕ} → w₃ ≡ written k (write f (g (page_at k w₂ f))) w₂
      → w₃ ≡ applied k (write l A ∷ write w B ∷ write f (g (page_at k ws f)) ∷ []) ws
  three_written g third =
      applied_three k (write l A) (write w B) (write f (g (page_at k ws f))) ws first second
      (third ∙ ap (λ (F : Page). written k (write f (g F)) w₂) father_same)

-- a buffer's page with room fits
pub sheet_fits : {k : ℕ} {s : Sheet} → Sheeted s → s.count ≤ 2 * k → Fits k (sheet_page s)
sheet_fits {k} {s} h room =
    let counted : s.count ≡ μ (sheet_page s) = h.holds.counted in
    record { room = subst (λ (m : ℕ). m ≤ 2 * k) counted room; leaf_first = h.leaf_first }

module _ {k n f b l w c : ℕ} {ws : List ℕ} {s : Sheet} (h : Cutting k n ws f b l w c s) where
  pub left_part : Fits k (split c (sheet_page s)).left
  left_part = left_fits k c (sheet_page s) h.sheet.leaf_first h.left_room

  pub right_part : Fits k (split c (sheet_page s)).right
  right_part =
      right_fits k c (sheet_page s) h.sheet.leaf_first
      (subst (λ (m : ℕ). m ≤ c + 2 * k) h.sheet.holds.counted h.right_room)

  -- their father can be given its key
  pub rekey_ready : {w₁ w₂ : List ℕ} → w₁ ≡ written k (write l (split c (sheet_page s)).left) ws
      → w₂ ≡ written k (write w (split c (sheet_page s)).right) w₁
      → (InPool k n f w₂) × ((Exact k (words_of k f w₂)) × (b < μ (page_at k w₂ f)))
  rekey_ready first second =
      let L : Page = (split c (sheet_page s)).left in
      let R : Page = (split c (sheet_page s)).right in (
        father_in_pool h.three L R left_part right_part first second,
        (
          father_exact h.three L R left_part right_part first second,
          father_has h.three L R left_part right_part first second,
        ),
      )

  -- the neighbours have shared
  pub shared : {r : ℕ} {w₁ w₂ w₃ : List ℕ} → w₁ ≡ written k (write l (split c (sheet_page s)).left) ws
      → w₂ ≡ written k (write w (split c (sheet_page s)).right) w₁
      → r ≡ (split c (sheet_page s)).between
      → w₃ ≡ written k (write f (rekeyed b r (page_at k w₂ f))) w₂
      → w₃ ≡ applied k (sharing f (page_at k ws f) b l w c (sheet_page s)) ws
  shared {r} {w₁} {w₂} first second key third =
      three_written h.three (split c (sheet_page s)).left (split c (sheet_page s)).right left_part right_part first second
      (rekeyed b (split c (sheet_page s)).between)
      (third ∙ ap (λ (q : ℕ). written k (write f (rekeyed b q (page_at k w₂ f))) w₂) key)

-- the neighbours are one
module _ {k n f b l w : ℕ} {ws : List ℕ} {s : Sheet} (h : Joining k n ws f b l w s) where
  -- their father can lose its key
  pub take_out_ready : {w₁ w₂ : List ℕ} → w₁ ≡ written k (write l (sheet_page s)) ws → w₂ ≡ written k (write w free_page) w₁
      → (InPool k n f w₂) × ((Exact k (words_of k f w₂)) × (b < μ (page_at k w₂ f)))
  take_out_ready first second =
      let fits : Fits k (sheet_page s) = sheet_fits h.sheet h.room in (
        father_in_pool h.three (sheet_page s) free_page fits (free_fits k) first second,
        (
          father_exact h.three (sheet_page s) free_page fits (free_fits k) first second,
          father_has h.three (sheet_page s) free_page fits (free_fits k) first second,
        ),
      )

  pub united : {w₁ w₂ w₃ : List ℕ} → w₁ ≡ written k (write l (sheet_page s)) ws → w₂ ≡ written k (write w free_page) w₁
      → w₃ ≡ written k (write f (less_key b (page_at k w₂ f))) w₂
      → w₃ ≡ applied k (uniting f (page_at k ws f) b l w (sheet_page s)) ws
  united first second third =
      three_written h.three (sheet_page s) free_page (sheet_fits h.sheet h.room) (free_fits k) first second (less_key b) third

-- how many pairs a page has that lost one
pub less_μ : (b : ℕ) (F : Page) → b < μ F → μ (less_key b F) + 1 ≡ μ F
unfolding less_key
less_μ b F h =
    let es : List Entry = F.entries in
    let inside : b < length es = h in
    omega (arith, length-append (take b es) (drop (suc b) es), length-take-le b es (omega arith), length-drop (suc b) es)

-- page 0 is left with no key if it had one
pub last_key : (f b : ℕ) (F : Page) → b < μ F → eqb f 0 && eqb (μ F) 1 ≡ emptied f F b
last_key f b F h =
    let less : μ (less_key b F) + 1 ≡ μ F = less_μ b F h in
    ap (λ (t : Bool). eqb f 0 && t)
    (same_if_true_together (eqb (μ F) 1) (eqb (μ (less_key b F)) 0)
    (λ t. let one : μ F ≡ 1 = eqb-true (μ F) 1 t in eq-eqb (μ (less_key b F)) 0 (omega arith))
    (λ t. let none : μ (less_key b F) ≡ 0 = eqb-true (μ (less_key b F)) 0 t in eq-eqb (μ F) 1 (omega arith)))

-- two pages joined have at most one pair more than both
pub joined_most : (r : ℕ) (L R : Page) → μ (joined r L R) ≤ μ L + μ R + 1
joined_most r L R =
    let both = joined_μ r L R in
    let extra : cond (is_leaf L) (μ R) (suc (μ R)) ≤ μ R + 1 = cond_ind (λ (m : ℕ). m ≤ μ R + 1) (is_leaf L) (λ t. omega arith) (λ t. omega arith) in
    omega arith

-- a page joined has the left one's p0
pub joined_first : {k : ℕ} (r : ℕ) (L R : Page) → Fits k L → is_leaf (joined r L R) ≡ true → (joined r L R).first ≡ 0
unfolding joined
joined_first r L R fits leaf = fits.leaf_first leaf

-- two neighbours under their father
module _ {k n f b r l w : ℕ} {ws : List ℕ} {spares : Bool} {c : ℕ} (h : Settling k n ws f b r l w spares c) where
  -- both are leaves, or none is
  pub alike : is_leaf (page_at k ws l) ≡ is_leaf (page_at k ws w)
  alike = ap (λ (m : ℕ). eqb m 1) h.level

  -- the father can be read
  pub father_readable : Readable (words_of k f ws)
  father_readable = readable k (words_of k f ws) h.three.exact.whole h.three.exact.in_room

-- the neighbours joined in a buffer
module _ {k n f b r l w : ℕ} {ws : List ℕ} {spares : Bool} {c : ℕ} (h : Settling k n ws f b r l w spares c) {s : Sheet}
    (made : OnSheet (joined r (page_at k ws l) (page_at k ws w)) s) where
  abbrev whole : Page
  whole = joined r (page_at k ws l) (page_at k ws w)

  abbrev above : Page
  above = page_at k ws f

  left_has_room : Fits k (page_at k ws l)
  unfolding page_at
  left_has_room = exact_fits h.left_exact

  sheeted : Sheeted s
  sheeted =
      record {
        holds = record { value = refl; counted = made.counted ∙ ap μ (sym made.value); buffer = made.buffer };
        leaf_first =
            subst (λ (P : Page). is_leaf P ≡ true → P.first ≡ 0) (sym made.value)
            (joined_first r (page_at k ws l) (page_at k ws w) left_has_room);
      }

  pub cutting : spares ≡ true → Cutting k n ws f b l w c s
  cutting t =
      let most : μ whole ≤ μ (page_at k ws l) + μ (page_at k ws w) + 1 = joined_most r (page_at k ws l) (page_at k ws w) in
      let few : μ (page_at k ws l) + μ (page_at k ws w) + 1 ≤ 50 = h.few in
      let small : μ whole ≤ 50 = omega arith in
      record {
        three = h.three;
        sheet = sheeted;
        left_room = h.left_room t;
        cut = subst (λ (m : ℕ). c < m) (sym made.counted) (h.cut t);
        right_room = subst (λ (m : ℕ). m ≤ c + 2 * k) (sym made.counted) (h.right_room t);
        few = subst (λ (m : ℕ). m ≤ 50) (sym made.counted) small;
      }

  pub joining : spares ≡ false → Joining k n ws f b l w s
  joining t =
      record { three = h.three; sheet = sheeted; room = subst (λ (m : ℕ). m ≤ 2 * k) (sym made.counted) (h.room t) }

  -- one could spare one
  pub settled_shares : {vs : List ℕ} → spares ≡ true → vs ≡ applied k (sharing f above b l w c (sheet_page s)) ws
      → (vs ≡ applied k (paired spares f above b l w c whole) ws) × (false ≡ lost spares f above b)
  unfolding paired lost
  settled_shares t e = (
    e
        ∙ ap (λ (P : Page). applied k (sharing f above b l w c P) ws) made.value
        ∙ ap (λ (list : List Write). applied k list ws)
        (sym (cond-true (sharing f above b l w c whole) (cond (emptied f above b) (collapsing f l w whole) (uniting f above b l w whole)) t)),
    sym (cond-true false (cond (emptied f above b) false true) t),
  )

  module _ (none : spares ≡ false) {last : Bool} (told : last ≡ eqb f 0 && eqb (μ above) 1) where
    test : last ≡ emptied f above b
    test = told ∙ last_key f b above h.three.key

    -- page 0 had one key
    pub settled_collapses : {vs : List ℕ} → last ≡ true → vs ≡ applied k (collapsing f l w (sheet_page s)) ws
        → (vs ≡ applied k (paired spares f above b l w c whole) ws) × (false ≡ lost spares f above b)
    unfolding paired lost
    settled_collapses t e = (
      e
          ∙ ap (λ (P : Page). applied k (collapsing f l w P) ws) made.value
          ∙ ap (λ (list : List Write). applied k list ws)
          (sym
          (cond-false (sharing f above b l w c whole) (cond (emptied f above b) (collapsing f l w whole) (uniting f above b l w whole)) none
          ∙ cond-true (collapsing f l w whole) (uniting f above b l w whole) (sym test ∙ t))),
      sym (cond-false false (cond (emptied f above b) false true) none ∙ cond-true false true (sym test ∙ t)),
    )

    -- any other father, or one with more
    pub settled_unites : {vs : List ℕ} → last ≡ false → vs ≡ applied k (uniting f above b l w (sheet_page s)) ws
        → (vs ≡ applied k (paired spares f above b l w c whole) ws) × (true ≡ lost spares f above b)
    unfolding paired lost
    settled_unites t e = (
      e
          ∙ ap (λ (P : Page). applied k (uniting f above b l w P) ws) made.value
          ∙ ap (λ (list : List Write). applied k list ws)
          (sym
          (cond-false (sharing f above b l w c whole) (cond (emptied f above b) (collapsing f l w whole) (uniting f above b l w whole)) none
          ∙ cond-false (collapsing f l w whole) (uniting f above b l w whole) (sym test ∙ t))),
      sym (cond-false false (cond (emptied f above b) false true) none ∙ cond-false false true (sym test ∙ t)),
    )
