-- What is known of a page that an operation holds, and the path's array as a list that goes upward.
use Prim.Native.Nat.{ℕ, zero, suc, ◌+◌, ◌-◌, ◌≤◌, ◌<◌}
use mathlib.Core.Bool.{true, false, or-false}
use mathlib.Core.List.{List, [], ◌∷◌, ◌++◌, reverse, reverse-append}
use mathlib.Core.Path.{◌≡◌, refl, sym, ap, ap₂, ◌∙◌, subst}
use native.Mathlib.Nat.{not-suc-le-zero}
use native.Mathlib.Omega.{arith}
use borrow.Author.Tests.{eqb-true}
use lib.Dec.{eqb}
use lib.ListN.{length, get_or, take, drop}
use lib.Seq.{length-take-le, get_or-take, get_or-drop, take-suc, take-take}
use Rattle.ground.specs.Limits.{largest_k, largest_n}
use Rattle.ground.specs.Tests.{member}
use Rattle.ground.proofs.Bools.{or_first, or_second}
use Rattle.ground.proofs.Choice.{cond_ind, cond-false}
use Rattle.ground.proofs.Tests.{member_append, member_from}
use Rattle.page.specs.Words.{Page, μ, is_leaf}
use Rattle.page.specs.Sound.{least}
use Rattle.page.specs.Reading.{Readable}
use Rattle.page.specs.Exact.{Exact}
use Rattle.page.proofs.ReadingLaws.{sound_readable}
use Rattle.page.proofs.SoundPage.{SoundPage, sound_facts}
use Rattle.page.proofs.ExactLaws.{exact_sound}
use Rattle.pool.specs.Pool.{pool_length, words_of, page_at}
use Rattle.pool.specs.Wrapped.{InPool}
use Rattle.pool.proofs.StretchLaws.{length_words_of}
use Rattle.change.specs.Held.{HeldPage, Held, Holding, upward, leaf_of, fathers_of}

-- Page p of the pool can be read and written, and its value is sound.
pub record Known (k n : ℕ) (ws : List ℕ) (p : ℕ) : Type 0 where
  pub in_pool : InPool k n p ws
  pub readable : Readable (words_of k p ws)
  pub exact : Exact k (words_of k p ws)
  pub facts : SoundPage k n p (page_at k ws p)

-- what is known of a page that is one of the pool and sound by itself
pub held_page : {k n : ℕ} {ws : List ℕ} {p : ℕ} → k ≤ largest_k → n ≤ largest_n → length ws ≡ pool_length k n → HeldPage k n ws p
    → Known k n ws p
unfolding page_at
held_page {k} {n} {ws} {p} width most whole h =
    let len = length_words_of k n p ws h.inside whole in
    record {
      in_pool = record { width = width; most = most; whole = whole; inside = h.inside };
      readable = sound_readable k n p (words_of k p ws) len h.sound;
      exact = exact_sound k n p (words_of k p ws) len h.sound;
      facts = sound_facts k n p (words_of k p ws) len h.sound;
    }

-- what is known of a page that is held
pub held_known : {k n : ℕ} {ws pages : List ℕ} → Held k n ws pages → (p : ℕ) → member p pages ≡ true → Known k n ws p
held_known h p m = held_page h.width h.most h.whole (h.each p m)

-- pages that are among those held are held
pub held_some : {k n : ℕ} {ws pages : List ℕ} (some : List ℕ) → Held k n ws pages → ((p : ℕ) → member p some ≡ true → member p pages ≡ true)
    → Held k n ws some
held_some some h f =
    record { least = h.least; width = h.width; most = h.most; whole = h.whole; each = λ p m. h.each p (f p m) }

-- the first of them
pub held_front : {k n : ℕ} {ws : List ℕ} (front back : List ℕ) → Held k n ws (front ++ back) → Held k n ws front
held_front front back h = held_some front h (λ p m. member_append p front back ∙ or_first (member p back) m)

-- and the last
pub held_back : {k n : ℕ} {ws : List ℕ} (front back : List ℕ) → Held k n ws (front ++ back) → Held k n ws back
held_back front back h = held_some back h (λ p m. member_append p front back ∙ or_second (member p front) m)

-- above the leaves a page has a reference key
pub held_upper : {k n : ℕ} {ws : List ℕ} {p : ℕ} → 1 ≤ k → Known k n ws p → is_leaf (page_at k ws p) ≡ false → 1 ≤ μ (page_at k ws p)
held_upper {k} {n} {ws} {p} one h upper =
    let P : Page = page_at k ws p in
    let enough : least k p (is_leaf P) ≤ μ P = h.facts.enough in
    cond_ind (λ (m : ℕ). m ≤ μ P → 1 ≤ μ P) (eqb p 0)
    (λ root. λ e. subst (λ (m : ℕ). m ≤ μ P) (cond-false 0 1 upper) e)
    (λ other. λ e. omega arith)
    enough

-- the pages of a path's array are among those held
pub on_path : (path : List ℕ) (depth i : ℕ) (more : List ℕ) → depth ≤ length path → i < depth
    → member (get_or path i 0) (take depth path ++ more) ≡ true
on_path path depth i more long h =
    member_append (get_or path i 0) (take depth path) more
    ∙ or_first (member (get_or path i 0) more)
    (member_from (get_or path i 0) (take depth path) i 0 (omega (arith, length-take-le depth path long)) (get_or-take depth path i 0 h))

-- and so are the siblings
pub among_siblings : (held siblings : List ℕ) (beside j : ℕ) → beside ≤ length siblings → j < beside
    → member (get_or siblings j 0) (held ++ take beside siblings) ≡ true
among_siblings held siblings beside j long h =
    member_append (get_or siblings j 0) held (take beside siblings)
    ∙ or_second (member (get_or siblings j 0) held)
    (member_from (get_or siblings j 0) (take beside siblings) j 0 (omega (arith, length-take-le beside siblings long)) (get_or-take beside siblings j 0 h))

-- above the top of a path nothing is held
pub upward_top : (i : ℕ) (path : List ℕ) → i ≡ 0 → upward i path ≡ []
unfolding upward
upward_top zero path e = refl
upward_top (suc i) path e = absurd (omega arith)

-- above any other page stands its father
pub upward_father : (i : ℕ) (path : List ℕ) → 0 < i → upward i path ≡ get_or path (i - 1) 0 ∷ upward (i - 1) path
unfolding upward
upward_father zero path h = absurd (not-suc-le-zero h)
upward_father (suc i) path h = let e : i ≡ suc i - 1 = omega arith in ap (λ (j : ℕ). get_or path j 0 ∷ upward j path) e

-- of the first pages of a path, `held`, the last two are a page and its father
module _ (path held pair : List ℕ) {size : ℕ} (part : held ≡ take (length held) path) (two : size ≡ 2) (some : size ≤ length held)
    (last : pair ≡ drop (length held - size) held) where
  cell : (i j : ℕ) → length held - size + i ≡ j → j < length held → get_or pair i 0 ≡ get_or path j 0
  cell i j e l =
      ap (λ (l : List ℕ). get_or l i 0) last
      ∙ get_or-drop (length held - size) held i 0
      ∙ ap₂ (λ (l : List ℕ) (t : ℕ). get_or l t 0) part e
      ∙ get_or-take (length held) path j 0 l

  pub pair_father : get_or pair 0 0 ≡ get_or path (length held - 1 - 1) 0
  pair_father = cell 0 (length held - 1 - 1) (omega arith) (omega arith)

  pub pair_page : get_or pair 1 0 ≡ get_or path (length held - 1) 0
  pair_page = cell 1 (length held - 1) (omega arith) (omega arith)

-- and without the last one they are the first still
pub held_less : (path held : List ℕ) {rest : List ℕ} → held ≡ take (length held) path → 1 ≤ length held → rest ≡ take (length held - 1) held
    → (rest ≡ take (length rest) path) × (length rest ≡ length held - 1)
held_less path held {rest} part some less =
    let long : length rest ≡ length held - 1 = ap length less ∙ length-take-le (length held - 1) held (omega arith) in (
      less
          ∙ ap (take (length held - 1)) part
          ∙ take-take (length held - 1) (length held) path (omega arith)
          ∙ ap (λ (m : ℕ). take m path) (sym long),
      long,
    )

-- the first pages of a path upward are those pages turned round
pub upward_reverse : (i : ℕ) (path : List ℕ) → i ≤ length path → upward i path ≡ reverse (take i path)
unfolding upward
upward_reverse zero path h = refl
upward_reverse (suc i) path h =
    ap (λ (up : List ℕ). get_or path i 0 ∷ up) (upward_reverse i path (omega arith))
    ∙ sym (reverse-append (take i path) (get_or path i 0 ∷ []))
    ∙ sym (ap reverse (take-suc path i 0 (omega arith)))

-- the first `depth` cells of an array: their leaf, their fathers and their cells are the array's
pub upward_taken : (i depth : ℕ) (cells : List ℕ) → i ≤ depth → upward i (take depth cells) ≡ upward i cells
unfolding upward
upward_taken zero depth cells h = refl
upward_taken (suc i) depth cells h =
    ap₂ (λ (p : ℕ) (up : List ℕ). p ∷ up) (get_or-take depth cells i 0 h) (upward_taken i depth cells (omega arith))

pub leaf_taken : (depth : ℕ) (cells : List ℕ) → 1 ≤ depth → depth ≤ length cells
    → leaf_of (length (take depth cells)) (take depth cells) ≡ leaf_of depth cells
leaf_taken depth cells some long =
    ap (λ (d : ℕ). get_or (take depth cells) (d - 1) 0) (length-take-le depth cells long)
    ∙ get_or-take depth cells (depth - 1) 0 (omega arith)

pub fathers_taken : (depth : ℕ) (cells : List ℕ) → depth ≤ length cells
    → fathers_of (length (take depth cells)) (take depth cells) ≡ fathers_of depth cells
fathers_taken depth cells long =
    ap (λ (d : ℕ). upward (d - 1) (take depth cells)) (length-take-le depth cells long)
    ∙ upward_taken (depth - 1) depth cells (omega arith)

-- a page of an insertion's or a regrading's path is held
pub holding_page : {k n : ℕ} {ws path : List ℕ} → Holding k n ws path → (i : ℕ) → i < length path → HeldPage k n ws (get_or path i 0)
holding_page {path = path} h i l = h.held.each (get_or path i 0) (member_from (get_or path i 0) path i 0 l refl)

-- what is known of it
pub holding_known : {k n : ℕ} {ws path : List ℕ} → Holding k n ws path → (i : ℕ) → i < length path → Known k n ws (get_or path i 0)
holding_known h i l = held_page h.held.width h.held.most h.held.whole (holding_page h i l)

-- one page alone is held
pub one_held : {k n : ℕ} {ws : List ℕ} {p : ℕ} → 1 ≤ k → k ≤ largest_k → n ≤ largest_n → length ws ≡ pool_length k n → HeldPage k n ws p
    → Held k n ws (p ∷ [])
unfolding member
one_held {k} {n} {ws} {p} least width most whole page =
    record {
      least = least;
      width = width;
      most = most;
      whole = whole;
      each = λ q m. subst (HeldPage k n ws) (sym (eqb-true q p (sym (or-false (eqb q p)) ∙ m))) page;
    }
