-- A round of the rule is the joined page of the two neighbours, whichever of them is left, cut at another place or laid out
-- whole. Where the short page is the right one, the code writes the two in the other order.
use Prim.Native.Nat.{ℕ, suc, ◌+◌, ◌-◌, ◌*◌, ◌≤◌, ◌<◌}
use mathlib.Core.Bool.{Bool, true, false, cond}
use mathlib.Core.List.{List, [], ◌∷◌}
use mathlib.Core.Logic.{⊎_elim}
use mathlib.Core.Path.{◌≡◌, refl, sym, ap, ◌∙◌, subst}
use native.Mathlib.Numerals.{add-one}
use native.Mathlib.Omega.{arith}
use borrow.Author.Tests.{ltb-true, ltb-false}
use lib.Dec.{ltb}
use Rattle.ground.specs.Limits.{largest_k}
use Rattle.ground.specs.Tests.{member}
use Rattle.ground.proofs.Bools.{true_or_false}
use Rattle.ground.proofs.Choice.{cond_ind}
use Rattle.ground.proofs.Tests.{member_here, member_there}
use Rattle.page.specs.Words.{Page, μ, is_leaf, free_page}
use Rattle.page.specs.Place.{place}
use Rattle.page.specs.Splits.{Parted, entry_at, split}
use Rattle.page.specs.Short.{has_right, between_at, key_between, from_right, from_left, joined, less_key, rekeyed}
use Rattle.page.specs.Reading.{Readable}
use Rattle.page.specs.Fits.{Fits}
use Rattle.page.proofs.ExactLaws.{exact_fits, less_key_fits, rekeyed_fits, left_fits, right_fits, joined_fits, joined_μ}
use Rattle.page.proofs.WordLaws.{free_fits}
use Rattle.page.proofs.PlaceLaws.{place_most}
use Rattle.page.proofs.MoveLaws.{Neighbours, from_right_cut, from_left_cut}
use Rattle.page.proofs.ReadingLaws.{readable}
use Rattle.pool.specs.Pool.{words_of, page_at, Write, write, written, applied}
use Rattle.pool.proofs.WriteLaws.{FitWrite, AllFit, named_by}
use Rattle.change.specs.Deletion.{shares}
use Rattle.deletion.specs.Deleting.{Settling, Mending, collapsing, uniting, emptied, paired, lost, round}
use Rattle.change.proofs.AppliedLaws.{written_swap}
use Rattle.deletion.proofs.DeleteLaws.{joined_most, joined_first}

-- two pages joined have the pairs of both
joined_least : (r : ℕ) (L R : Page) → μ L + μ R ≤ μ (joined r L R)
joined_least r L R =
    let both = joined_μ r L R in
    let extra : μ R ≤ cond (is_leaf L) (μ R) (suc (μ R)) = cond_ind (λ (m : ℕ). μ R ≤ m) (is_leaf L) (λ t. omega arith) (λ t. omega arith) in
    omega arith

-- writes that do the same where the test holds
cond_writes : (k : ℕ) (ws : List ℕ) (t : Bool) (a b c : List Write) → (t ≡ true → applied k a ws ≡ applied k b ws)
    → applied k (cond t a c) ws ≡ applied k (cond t b c) ws
cond_writes k ws true a b c h = h refl
cond_writes k ws false a b c h = refl

-- the writes of a page and its neighbour, and of their father, by the two parts
abbrev parting : ℕ → Page → ℕ → ℕ → ℕ → Parted → List Write
parting f F b l w M = write l M.left ∷ write w M.right ∷ write f (rekeyed b M.between F) ∷ []

abbrev exchanged : ℕ → Page → ℕ → ℕ → ℕ → Parted → List Write
exchanged f F b l w M = write w M.right ∷ write l M.left ∷ write f (rekeyed b M.between F) ∷ []

abbrev joining : ℕ → Page → ℕ → ℕ → ℕ → Page → List Write
joining f F b l w J = cond (emptied f F b) (collapsing f l w J) (uniting f F b l w J)

-- every page that a list writes fits, and page p is one of them
abbrev pub Covers : ℕ → ℕ → ℕ → List Write → Type 0
Covers k n p list = (AllFit k n list) × (member p (named_by list) ≡ true)

-- what neighbours and their father are given fits
module _ {k n f b r l w : ℕ} {ws : List ℕ} {spares : Bool} {c : ℕ} (h : Settling k n ws f b r l w spares c) where
  abbrev whole : Page
  whole = joined r (page_at k ws l) (page_at k ws w)

  left_room : Fits k (page_at k ws l)
  unfolding page_at
  left_room = exact_fits h.left_exact

  above_room : Fits k (page_at k ws f)
  unfolding page_at
  above_room = exact_fits h.three.exact

  cut_left : spares ≡ true → FitWrite k n (write l (split c whole).left)
  cut_left t =
      record {
        in_pool = h.three.left.inside;
        fits = left_fits k c whole (joined_first r (page_at k ws l) (page_at k ws w) left_room) (h.left_room t);
      }

  cut_right : spares ≡ true → FitWrite k n (write w (split c whole).right)
  cut_right t =
      record {
        in_pool = h.three.right.inside;
        fits = right_fits k c whole (joined_first r (page_at k ws l) (page_at k ws w) left_room) (h.right_room t);
      }

  keyed_fit : (q : ℕ) → FitWrite k n (write f (rekeyed b q (page_at k ws f)))
  keyed_fit q = record { in_pool = h.three.father.inside; fits = rekeyed_fits above_room b q h.three.key }

  less_fit : FitWrite k n (write f (less_key b (page_at k ws f)))
  less_fit = record { in_pool = h.three.father.inside; fits = less_key_fits above_room b }

  whole_fit : (p : ℕ) → p < n → spares ≡ false → FitWrite k n (write p whole)
  whole_fit p inside t =
      record {
        in_pool = inside;
        fits = joined_fits k r (page_at k ws l) (page_at k ws w) left_room.leaf_first (h.room t);
      }

  free_fit : (p : ℕ) → p < n → FitWrite k n (write p free_page)
  free_fit p inside = record { in_pool = inside; fits = free_fits k }

module _ (k x p : ℕ) (P : Page) (s : ℕ) (S : Page) (f : ℕ) (F : Page) where
  -- a round where the page has a right neighbour, and where it has none
  round_right : has_right x F ≡ true
      → round k x p P s S f F
      ≡ cond (ltb k (μ S)) (parting f F (between_at x F) p s (from_right (key_between x F) P S)) (joining f F (between_at x F) p s (joined (key_between x F) P S))
  unfolding round shares
  round_right t = rw t

  round_left : has_right x F ≡ false
      → round k x p P s S f F
      ≡ cond (ltb k (μ S)) (exchanged f F (between_at x F) s p (from_left (key_between x F) S P)) (joining f F (between_at x F) s p (joined (key_between x F) S P))
  unfolding round shares
  round_left t = rw t

module _ {k n : ℕ} {ws : List ℕ} {f p s : ℕ} (h : Mending k n ws f p s) where
  abbrev P : Page
  P = page_at k ws p

  abbrev S : Page
  S = page_at k ws s

  abbrev F : Page
  F = page_at k ws f

  page_fits : Fits k P
  unfolding page_at
  page_fits = exact_fits h.page_exact

  beside_fits : Fits k S
  unfolding page_at
  beside_fits = exact_fits h.beside_exact

  -- the father and the sibling can be read
  pub mending_father : Readable (words_of k f ws)
  mending_father = readable k (words_of k f ws) h.father_exact.whole h.father_exact.in_room

  pub mending_beside : Readable (words_of k s ws)
  mending_beside = readable k (words_of k s ws) h.beside_exact.whole h.beside_exact.in_room

  width : k ≤ 16
  unfolding largest_k
  width = h.father.width

  module _ {b r spare own : ℕ} (key : b < μ F) (spareIs : spare ≡ μ S) (ownIs : own ≡ μ P) where
    -- the page is the left one
    pub settling_right : Settling k n ws f b r p s (ltb k spare) (own + 1)
    settling_right =
        let short : μ P < k = h.short in
        let sRoom : μ S ≤ 2 * k = beside_fits.room in
        let most : μ (joined r P S) ≤ μ P + μ S + 1 = joined_most r P S in
        let least : μ P + μ S ≤ μ (joined r P S) = joined_least r P S in
        let wide : k ≤ 16 = width in
        record {
          three =
              record {
                father = h.father;
                left = h.page;
                right = h.beside;
                over_left = h.over_page;
                over_right = h.over_beside;
                exact = h.father_exact;
                key = key;
              };
          left_exact = h.page_exact;
          right_exact = h.beside_exact;
          level = h.level;
          few = omega arith;
          left_room = λ t. omega arith;
          cut = λ t. let more : k < spare = ltb-true k spare t in omega arith;
          right_room = λ t. omega arith;
          room = λ t. let less : spare ≤ k = ltb-false k spare t in omega arith;
        }

    -- the page is the right one
    pub settling_left : Settling k n ws f b r s p (ltb k spare) (spare - 1)
    settling_left =
        let short : μ P < k = h.short in
        let some : 1 ≤ μ S = h.some in
        let sRoom : μ S ≤ 2 * k = beside_fits.room in
        let most : μ (joined r S P) ≤ μ S + μ P + 1 = joined_most r S P in
        let least : μ S + μ P ≤ μ (joined r S P) = joined_least r S P in
        let wide : k ≤ 16 = width in
        record {
          three =
              record {
                father = h.father;
                left = h.beside;
                right = h.page;
                over_left = h.over_beside;
                over_right = h.over_page;
                exact = h.father_exact;
                key = key;
              };
          left_exact = h.beside_exact;
          right_exact = h.page_exact;
          level = sym h.level;
          few = omega arith;
          left_room = λ t. omega arith;
          cut = λ t. omega arith;
          right_room = λ t. omega arith;
          room = λ t. let less : spare ≤ k = ltb-false k spare t in omega arith;
        }

  right_neighbours : Neighbours P S
  right_neighbours = record { level = h.level; left_first = page_fits.leaf_first; right_first = beside_fits.leaf_first }

  left_neighbours : Neighbours S P
  left_neighbours = record { level = sym h.level; left_first = beside_fits.leaf_first; right_first = page_fits.leaf_first }

  -- what is written where the page is the left one
  right_rule : (x : ℕ) → has_right x F ≡ true
      → paired (ltb k (μ S)) f F (between_at x F) p s (μ P + 1) (joined (key_between x F) P S) ≡ round k x p P s S f F
  unfolding paired
  right_rule x t =
      let b : ℕ = between_at x F in
      let r : ℕ = key_between x F in
      let J : Page = joined r P S in
      ap (λ (c : ℕ). cond (ltb k (μ S)) (parting f F b p s (split c J)) (joining f F b p s J)) (add-one (μ P))
      ∙ sym
      (round_right k x p P s S f F t
      ∙ ap (λ (M : Parted). cond (ltb k (μ S)) (parting f F b p s M) (joining f F b p s J)) (from_right_cut r P S right_neighbours h.some))

  -- what is written where the page is the right one
  left_rule : (x : ℕ) → has_right x F ≡ false
      → applied k (paired (ltb k (μ S)) f F (between_at x F) s p (μ S - 1) (joined (key_between x F) S P)) ws
      ≡ applied k (round k x p P s S f F) ws
  unfolding paired applied
  left_rule x t =
      let b : ℕ = between_at x F in
      let r : ℕ = key_between x F in
      let J : Page = joined r S P in
      let c : ℕ = μ S - 1 in
      let short : μ P < k = h.short in
      let some : 1 ≤ μ S = h.some in
      let sRoom : μ S ≤ 2 * k = beside_fits.room in
      let most : μ J ≤ μ S + μ P + 1 = joined_most r S P in
      let none : is_leaf J ≡ true → J.first ≡ 0 = joined_first r S P beside_fits in
      let cutLeft : Fits k (split c J).left = left_fits k c J none (omega arith) in
      let cutRight : Fits k (split c J).right = right_fits k c J none (omega arith) in
      cond_writes k ws (ltb k (μ S)) (parting f F b s p (split c J)) (exchanged f F b s p (split c J)) (joining f F b s p J)
      (λ u.
      ap (written k (write f (rekeyed b (split c J).between F)))
      (written_swap k n ws h.father.whole (write p (split c J).right) (write s (split c J).left)
      (record { in_pool = h.page.inside; fits = cutRight })
      (record { in_pool = h.beside.inside; fits = cutLeft })
      (λ e. h.apart (sym e))))
      ∙ ap (λ (list : List Write). applied k list ws)
      (sym
      (round_left k x p P s S f F t
      ∙ ap (λ (M : Parted). cond (ltb k (μ S)) (exchanged f F b s p M) (joining f F b s p J)) (from_left_cut r S P left_neighbours h.some)))

  module _ (x : ℕ) {b r spare own : ℕ} {right : Bool} (bIs : b ≡ between_at x F) (rIs : r ≡ (entry_at b F.entries).key) (spareIs : spare ≡ μ S)
      (ownIs : own ≡ μ P) (told : right ≡ has_right x F) where
    -- the words and the answer after it
    pub mended_right : {vs : List ℕ} {up : Bool} → right ≡ true
        → (vs ≡ applied k (paired (ltb k spare) f F b p s (own + 1) (joined r P S)) ws) × (up ≡ lost (ltb k spare) f F b)
        → (vs ≡ applied k (round k x p P s S f F) ws) × (up ≡ lost (ltb k (μ S)) f F (between_at x F))
    mended_right t e = (
      e.0 ∙ ap (λ (list : List Write). applied k list ws) (rw (rIs, bIs, spareIs, ownIs) (right_rule x (sym told ∙ t))),
      e.1 ∙ rw (bIs, spareIs),
    )

    pub mended_left : {vs : List ℕ} {up : Bool} → right ≡ false
        → (vs ≡ applied k (paired (ltb k spare) f F b s p (spare - 1) (joined r S P)) ws) × (up ≡ lost (ltb k spare) f F b)
        → (vs ≡ applied k (round k x p P s S f F) ws) × (up ≡ lost (ltb k (μ S)) f F (between_at x F))
    mended_left t e = (
      e.0 ∙ rw (rIs, bIs, spareIs) (left_rule x (sym told ∙ t)),
      e.1 ∙ rw (bIs, spareIs),
    )

  -- ---- the pages that a round writes

  -- the father has the key between the two
  between_inside : (x : ℕ) → between_at x F < μ F
  unfolding between_at
  between_inside x =
      let most : place x F.entries ≤ μ F = place_most x F.entries in
      let key : 1 ≤ μ F = h.key in
      cond_ind (λ (m : ℕ). m < μ F) (has_right x F) (λ t. ltb-true (place x F.entries) (μ F) t) (λ t. omega arith)

  -- the round as a list where the page is the right one
  left_list : (x : ℕ) → has_right x F ≡ false
      → cond (ltb k (μ S)) (exchanged f F (between_at x F) s p (split (μ S - 1) (joined (key_between x F) S P)))
      (joining f F (between_at x F) s p (joined (key_between x F) S P))
      ≡ round k x p P s S f F
  left_list x t =
      let b : ℕ = between_at x F in
      let r : ℕ = key_between x F in
      let J : Page = joined r S P in
      sym
      (round_left k x p P s S f F t
      ∙ ap (λ (M : Parted). cond (ltb k (μ S)) (exchanged f F b s p M) (joining f F b s p J)) (from_left_cut r S P left_neighbours h.some))

  -- every page that a round writes fits, and the page is one of them
  pub round_covers : (x : ℕ) → Covers k n p (round k x p P s S f F)
  unfolding paired
  round_covers x =
      ⊎_elim
      (λ t.
      let g = settling_right {b = between_at x F} {r = key_between x F} (between_inside x) refl refl in
      subst (Covers k n p) (right_rule x t)
      (cond_ind (Covers k n p) (ltb k (μ S))
      (λ u. ((cut_left g u, (cut_right g u, (keyed_fit g _, tt))), member_here p (s ∷ f ∷ [])))
      (λ u.
      cond_ind (Covers k n p) (emptied f F (between_at x F))
      (λ v. ((whole_fit g f h.father.inside u, (free_fit g p h.page.inside, (free_fit g s h.beside.inside, tt))), member_there f p (p ∷ s ∷ []) (member_here p (s ∷ []))))
      (λ v. ((whole_fit g p h.page.inside u, (free_fit g s h.beside.inside, (less_fit g, tt))), member_here p (s ∷ f ∷ []))))))
      (λ t.
      let g = settling_left {b = between_at x F} {r = key_between x F} (between_inside x) refl refl in
      subst (Covers k n p) (left_list x t)
      (cond_ind (Covers k n p) (ltb k (μ S))
      (λ u. ((cut_right g u, (cut_left g u, (keyed_fit g _, tt))), member_here p (s ∷ f ∷ [])))
      (λ u.
      cond_ind (Covers k n p) (emptied f F (between_at x F))
      (λ v. ((whole_fit g f h.father.inside u, (free_fit g s h.beside.inside, (free_fit g p h.page.inside, tt))), member_there f p (s ∷ p ∷ []) (member_there s p (p ∷ []) (member_here p []))))
      (λ v. ((whole_fit g s h.beside.inside u, (free_fit g p h.page.inside, (less_fit g, tt))), member_there s p (p ∷ f ∷ []) (member_here p (f ∷ [])))))))
      (true_or_false (has_right x F))
