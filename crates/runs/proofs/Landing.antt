-- At its leaf: a search answers, an insertion answers, lacks room or is made, a deletion answers, wants a sibling or is made, a
-- regrading answers or is made.
-- (A Next at its leaf is in `NextSteps.antt`.)
use Prim.Native.Nat.{ℕ, ◌+◌, ◌*◌, ◌≤◌, ◌<◌}
use mathlib.Core.Bool.{Bool, true, false, cond, not, ◌&&◌, true≢false, false≢true}
use mathlib.Core.List.{List, [], ◌∷◌, ◌++◌, map, reverse}
use mathlib.Core.Logic.{◌⊎◌, inl, inr, ⊎_elim}
use mathlib.Core.Path.{◌≡◌, refl, sym, ap, ap₂, ◌∙◌, subst}
use native.Mathlib.Omega.{arith}
use borrow.Author.Tests.{ltb-true, ltb-false}
use lib.Dec.{ltb}
use lib.ListN.{length, get_or}
use Rattle.ground.specs.Limits.{word_range}
use Rattle.ground.specs.Tests.{member}
use Rattle.ground.proofs.Tests.{count_reverse, member_none, member_take, distinct_none}
use Rattle.ground.proofs.Bools.{not_both}
use Rattle.ground.proofs.Choice.{cond_ind, cond-true, cond-false}
use Rattle.page.specs.Words.{Entry, Page, page, μ, is_leaf}
use Rattle.page.specs.Place.{has, information, without, regraded}
use Rattle.pool.specs.Pool.{Write, page_at, free_pages}
use Rattle.change.specs.Insertion.{is_full, room, insertion}
use Rattle.change.specs.Deletion.{Need, nothing, sibling, astray, needs, deletion}
use Rattle.change.specs.Regrading.{regrading}
use Rattle.slots.specs.declared.Op.{Op}
use Rattle.slots.specs.declared.Op.TheVariants.{Search, Insert, Delete, Next, Regrade}
use Rattle.slots.specs.declared.Way.{Way}
use Rattle.slots.specs.declared.Way.TheVariants.{First}
use Rattle.slots.specs.declared.Answer.{Answer}
use Rattle.slots.specs.declared.Answer.TheVariants.{Found, NotFound, Inserted, AlreadyThere, Deleted, NoSuchKey, NoRoom, Regraded}
use Rattle.slots.specs.declared.Lock.TheVariants.{Xi}
use Rattle.slots.specs.Parts.{key_of, is_third, first_way, held_lock, under, Stand, converting, wants_next, with_op}
use Rattle.slots.specs.Heard.{number_of, is_one_of, writing}
use Rattle.footing.specs.Granted.{Verdict, goes, ends, by_need, deletes, at_leaf}
use Rattle.tree.specs.Tree.{Tr, entries_of, way as wayTo, leaf_on, Forms, PoolForms}
use Rattle.tree.specs.Sorted.{inserted}
use Rattle.tree.specs.Change.{Leads}
use Rattle.tree.specs.Insertion.{tree_room, Inserts}
use Rattle.tree.specs.Facts.{WayFacts}
use Rattle.tree.proofs.Insertion.{insertion_leads, room_of_tree}
use Rattle.tree.proofs.Regrading.{regrading_leads}
use Rattle.tree.proofs.Words.{free_facts}
use Rattle.runs.specs.Stance.{Rightly, WantsWith, HoldsWith, Gathering, Converting, Takes}
use Rattle.runs.specs.Plain.{Reply, reply, plain}
use Rattle.runs.specs.Step.{NoRoomLeft, AsPlain, Writable, Ended}
use Rattle.runs.proofs.Paths.{member_reverse}
use Rattle.runs.proofs.HeldPath.{held_way}
use Rattle.runs.proofs.Needing.{AtLeaf, leaf_ends, leaf_on_course}

-- A slot that gathers pages, or converts them, with the kinds of lock that it should have: all of the kind with which its operation goes down, or those
-- that are due.
abbrev pub Plain : Stand → Type 0
Plain z = (z.locks ≡ map (λ (p : ℕ). under (held_lock z.op)) z.path) × (z.sidelocks ≡ map (λ (p : ℕ). under (held_lock z.op)) z.beside)

abbrev pub StandsSo : ℕ → (ℕ → Page) → (l : ℕ) → Tr l → Stand → Type 0
StandsSo k memory l t z =
    (Gathering k memory l t z × WantsWith memory z × Plain z)
    ⊎ (Converting k memory l t z × (z.lock ≡ Xi) × HoldsWith z × (converting z ≡ true))

-- What a slot that stands here comes to by this verdict: it goes on with the same operation, by its way or begun again by the first way, and
-- stands as it should, or its operation ends.
pub data Does (k n : ℕ) (ws : List ℕ) (l : ℕ) (t : Tr l) (z : Stand) (v : Verdict) : Type 0 where
  on : (z' : Stand) → v ≡ goes z' → first_way z'.op ≡ first_way z.op → StandsSo k (page_at k ws) l t z' → Takes k (page_at k ws) z z' → Does k n ws l t z v
  done : (a : Answer) (writes : List Write) → v ≡ ends a writes → Ended k n ws l t z a writes → Does k n ws l t z v

-- only an insertion puts a key in
abbrev is_insert : Op → Bool
is_insert (Search x) = false
is_insert (Insert x v way) = true
is_insert (Delete x way) = false
is_insert (Next x) = false
is_insert (Regrade x v way) = false

-- ---- nothing is written

-- no write leads from a tree to itself
pub leads_nothing : (k n : ℕ) (memory : ℕ → Page) (l : ℕ) (t : Tr l) → Forms k n memory l t → Leads k n memory l t [] (entries_of l t)
leads_nothing k n memory l t forms = record {
  height = l;
  tree = t;
  forms = forms;
  entries = refl;
  different = distinct_none;
  inside = λ q m. not_both m (member_none q);
  fitting = tt;
  keeps = λ q level a b m s. s;
}

-- ---- room, counted on a path or on the path turned round

room_reverse : (k : ℕ) (memory : ℕ → Page) (leaf : ℕ) (path : List ℕ) → room k memory leaf path ≡ room k memory leaf (reverse path)
unfolding room
room_reverse k memory leaf path =
    ap₂ (λ (c : ℕ) (b : Bool). cond (ltb (μ (memory leaf)) (2 * k)) 0 (c + cond (b && is_full k memory 0) 1 0))
    (sym (count_reverse (is_full k memory) path))
    (sym (member_reverse 0 path))

-- ---- what the leaf tells

module _ (memory : ℕ → Page) (x l : ℕ) (t : Tr l) (facts : WayFacts memory x l t) (leaf : ℕ) (rest : List ℕ) (whole : wayTo x l t ≡ leaf ∷ rest) where
  pub leaf_page : memory leaf ≡ page 1 0 (leaf_on x l t)
  leaf_page = ap memory (sym (ap (λ (w : List ℕ). get_or w 0 0) whole)) ∙ facts.leaf

  pub leaf_is : is_leaf (memory leaf) ≡ true
  leaf_is = ap is_leaf leaf_page

  pub leaf_has : has x (memory leaf).entries ≡ has x (entries_of l t)
  leaf_has = ap (λ (P : Page). has x P.entries) leaf_page ∙ facts.decides

  leaf_tells : information x (memory leaf).entries ≡ information x (entries_of l t)
  leaf_tells = ap (λ (P : Page). information x P.entries) leaf_page ∙ facts.tells

module _ (k n : ℕ) (ws : List ℕ) (l : ℕ) (t : Tr l) (pool : PoolForms k n ws l t) (z₀ : Stand) where
  abbrev memory : ℕ → Page
  memory = page_at k ws

  abbrev free : List ℕ
  free = free_pages k n ws

  abbrev es : List Entry
  es = entries_of l t

  -- by the third way changes are made in conversions
  abbrev pub InTurn : Op → Answer → Type 0
  InTurn op a = is_third op ≡ true → is_one_of a (NoRoom ∷ writing) ≡ converting (with_op op z₀)

  -- an operation that writes nothing ends so
  pub nothing_ends : (op : Op) (a : Answer) → AsPlain op k n ws l t a es ⊎ (NoRoomLeft op k n ws l t a [] × (es ≡ es)) → InTurn op a
      → Ended k n ws l t (with_op op z₀) a []
  nothing_ends op a how turned = record {
    entries = es;
    leads = leads_nothing k n memory l t pool.forms;
    how = how;
    only = λ q m. not_both m (member_none q);
    reads = λ y. refl;
    writers = λ y. refl;
    turned = turned;
    regrades = λ old e q m. not_both m (member_none q);
  }

  -- the plain list stays as it is, and no new key is put in
  unchanged_ends : (op : Op) (a : Answer) → plain op es ≡ reply a es → ((y u : ℕ) (w : Way) → op ≡ Insert y u w → has y es ≡ false → ⊥)
      → InTurn op a → Ended k n ws l t (with_op op z₀) a []
  unchanged_ends op a same old turned =
      nothing_ends op a
      (inl (record {
        answer = ap (λ (r : Reply). r.answer) (sym same);
        entries = ap (λ (r : Reply). r.entries) (sym same);
        room = λ y u w e new. absurd (old y u w e new);
      }))
      turned

  module _ (x : ℕ) (facts : WayFacts memory x l t) (leaf : ℕ) (rest : List ℕ) (whole : wayTo x l t ≡ leaf ∷ rest) where
    there_is : has x (memory leaf).entries ≡ has x es
    there_is = leaf_has memory x l t facts leaf rest whole

    told_is : information x (memory leaf).entries ≡ information x es
    told_is = leaf_tells memory x l t facts leaf rest whole

    -- ---- a search

    pub search_does : (z : Stand) (fathers : List ℕ) → Does k n ws l t (with_op (Search x) z₀) (at_leaf (Search x) k memory free z leaf fathers)
    unfolding at_leaf plain
    search_does z fathers =
        done (cond (has x es) (Found (information x es)) NotFound) []
        (ap₂ (λ (b : Bool) (v : ℕ). ends (cond b (Found v) NotFound) []) there_is told_is)
        (unchanged_ends (Search x) (cond (has x es) (Found (information x es)) NotFound) refl (λ y v w e m. false≢true (ap is_insert e)) (λ third. absurd (false≢true third)))

    -- ---- an insertion

    module _ (key : x < word_range) (v : ℕ) (way : Way) (z : Stand) (fathers upper : List ℕ) (upward : reverse z.path ≡ leaf ∷ fathers)
        (on_way : wayTo x l t ≡ reverse z.path ++ upper) (rightly : has x es ≡ false → Rightly (Insert x v First) k memory z.path) (one : 1 ≤ k)
        (inside : has x es ≡ false → (q : ℕ) → member q z.path ≡ true → Writable (with_op (Insert x v way) z₀) q)
        (turn : (b : Bool) → has x es ≡ b → is_third (Insert x v way) ≡ true → converting (with_op (Insert x v way) z₀) ≡ not b) where
      -- the room that is counted is what the tree needs
      room_is : has x es ≡ false → room k memory leaf z.path ≡ tree_room k x l t
      room_is new =
          room_reverse k memory leaf z.path
          ∙ ap (room k memory leaf) upward
          ∙ room_of_tree k n memory l t x leaf fathers pool.forms key
          (held_way (Insert x v First) k n memory l t z.path leaf fathers upper pool.forms key (rightly new) upward on_way)

      changes : has x es ≡ false → tree_room k x l t ≤ length free → Inserts k n memory l t x v free leaf fathers
      changes new enough =
          insertion_leads k n memory l t x v free leaf fathers one pool.forms key new
          (held_way (Insert x v First) k n memory l t z.path leaf fathers upper pool.forms key (rightly new) upward on_way)
          (free_facts k n ws l t pool).free
          (omega (arith, sym (ap (room k memory leaf) upward) ∙ sym (room_reverse k memory leaf z.path) ∙ room_is new))

      -- a key that is there
      already : has x es ≡ true → Ended k n ws l t (with_op (Insert x v way) z₀) (AlreadyThere (information x (memory leaf).entries)) []
      unfolding plain member
      already there =
          unchanged_ends (Insert x v way) (AlreadyThere (information x (memory leaf).entries))
          (cond-true (reply (AlreadyThere (information x es)) es) (reply Inserted (inserted x v es)) there
          ∙ ap (λ (w : ℕ). reply (AlreadyThere w) es) (sym told_is))
          (λ y u w e new. not_both there (ap (λ (o : ℕ). has o es) (ap key_of e) ∙ new))
          (λ third. sym (turn true there third))

      -- a new key without room
      no_room : has x es ≡ false → length free < tree_room k x l t → Ended k n ws l t (with_op (Insert x v way) z₀) NoRoom []
      unfolding member
      no_room new lacks =
          nothing_ends (Insert x v way) NoRoom
          (inr (record { key = x; lot = v; way = way; inserts = refl; missing = new; needs_more = lacks; answer = refl; nothing = refl }, refl))
          (λ third. sym (turn false new third))

      -- a new key with room
      insertion_ends : has x es ≡ false → tree_room k x l t ≤ length free
          → Ended k n ws l t (with_op (Insert x v way) z₀) Inserted (insertion k memory x v free leaf fathers)
      unfolding plain member
      insertion_ends new enough =
          let same : plain (Insert x v way) es ≡ reply Inserted (inserted x v es)
          = cond-false (reply (AlreadyThere (information x es)) es) (reply Inserted (inserted x v es)) new in
          let change = changes new enough in
          record {
            entries = inserted x v es;
            leads = change.leads;
            how = inl (record {
              answer = ap (λ (r : Reply). r.answer) (sym same);
              entries = ap (λ (r : Reply). r.entries) (sym same);
              room = λ y u w e m. subst (λ (o : ℕ). tree_room k o l t ≤ length free) (ap key_of e) enough;
            });
            only = λ q m.
                ⊎_elim
                (λ h. inl (inside new q (sym (member_reverse q z.path) ∙ ap (member q) upward ∙ h)))
                (λ f. inr ((free_facts k n ws l t pool).free.outside q (member_take q (room k memory leaf (leaf ∷ fathers)) free f)))
                (change.writes q m);
            reads = λ y. absurd (false≢true y);
            writers = λ y. absurd (true≢false y);
            turned = λ third. sym (turn false new third);
            regrades = λ old e. absurd (omega (arith, ap number_of e));
          }

      pub insert_does : Does k n ws l t (with_op (Insert x v way) z₀) (at_leaf (Insert x v way) k memory free z leaf fathers)
      unfolding at_leaf
      insert_does =
          cond_ind (Does k n ws l t (with_op (Insert x v way) z₀)) (has x (memory leaf).entries)
          (λ y. done (AlreadyThere (information x (memory leaf).entries)) [] refl (already (sym there_is ∙ y)))
          (λ o.
          cond_ind (Does k n ws l t (with_op (Insert x v way) z₀)) (ltb (length free) (room k memory leaf z.path))
          (λ y.
          let lacks = ltb-true (length free) (room k memory leaf z.path) y in
          done NoRoom [] refl (no_room (sym there_is ∙ o) (omega (arith, room_is (sym there_is ∙ o)))))
          (λ f.
          let enough = ltb-false (length free) (room k memory leaf z.path) f in
          done Inserted (insertion k memory x v free leaf fathers) refl (insertion_ends (sym there_is ∙ o) (omega (arith, room_is (sym there_is ∙ o))))))

    -- ---- a deletion

    -- a missing key
    pub missing_ends : (way : Way) → has x es ≡ false → (is_third (Delete x way) ≡ true → converting (with_op (Delete x way) z₀) ≡ false)
        → Ended k n ws l t (with_op (Delete x way) z₀) NoSuchKey []
    unfolding plain member
    missing_ends way missing new =
        unchanged_ends (Delete x way) NoSuchKey
        (cond-false (reply (Deleted (information x es)) (without x es)) (reply NoSuchKey es) missing)
        (λ y u w e m. false≢true (ap is_insert e))
        (λ third. sym (new third))

    -- a key that is there, with these pages held
    module _ (way : Way) (z : Stand) (fathers : List ℕ) (at : AtLeaf k n memory l t x z leaf fathers)
        (further : (s : ℕ) → needs k memory x leaf fathers z.beside ≡ sibling s
        → Does k n ws l t (with_op (Delete x way) z₀) (goes (wants_next (with_op (Delete x way) z) s (held_lock (Delete x way)))))
        (inside : needs k memory x leaf fathers z.beside ≡ nothing → (q : ℕ) → member q (leaf ∷ fathers ++ z.beside) ≡ true → Writable (with_op (Delete x way) z₀) q)
        (turn : needs k memory x leaf fathers z.beside ≡ nothing → is_third (Delete x way) ≡ true → converting (with_op (Delete x way) z₀) ≡ true) where
      abbrev change : Verdict
      change = ends (Deleted (information x (memory leaf).entries)) (deletion k memory x leaf fathers z.beside)

      deletion_ends : needs k memory x leaf fathers z.beside ≡ nothing
          → Ended k n ws l t (with_op (Delete x way) z₀) (Deleted (information x (memory leaf).entries)) (deletion k memory x leaf fathers z.beside)
      unfolding plain member
      deletion_ends enough =
          let same : plain (Delete x way) es ≡ reply (Deleted (information x es)) (without x es)
          = cond-true (reply (Deleted (information x es)) (without x es)) (reply NoSuchKey es) at.there in
          let made = leaf_ends at enough in
          record {
            entries = without x es;
            leads = made.leads;
            how = inl (record {
              answer = ap Deleted told_is ∙ ap (λ (r : Reply). r.answer) (sym same);
              entries = ap (λ (r : Reply). r.entries) (sym same);
              room = λ y u w e m. absurd (false≢true (ap is_insert e));
            });
            only = λ q m. inl (inside enough q (made.writes q m));
            reads = λ y. absurd (false≢true y);
            writers = λ y. absurd (true≢false y);
            turned = λ third. sym (turn enough third);
            regrades = λ old e. absurd (omega (arith, ap number_of e));
          }

      by_need_lem : (d : Need) → needs k memory x leaf fathers z.beside ≡ d
          → Does k n ws l t (with_op (Delete x way) z₀) (by_need (with_op (Delete x way) z) change d)
      by_need_lem nothing e = done (Deleted (information x (memory leaf).entries)) (deletion k memory x leaf fathers z.beside) refl (deletion_ends e)
      by_need_lem (sibling s) e = further s e
      by_need_lem astray e = absurd (leaf_on_course at e)

      pub delete_does : Does k n ws l t (with_op (Delete x way) z₀) (deletes k memory x (with_op (Delete x way) z) leaf fathers)
      unfolding deletes
      delete_does = by_need_lem (needs k memory x leaf fathers z.beside) refl

    -- ---- a regrading

    module _ (key : x < word_range) (v : ℕ) (way : Way) (last : has x es ≡ true → leaf ≡ z₀.want) (inside : has x es ≡ true → Writable (with_op (Regrade x v way) z₀) z₀.want)
        (turn : (b : Bool) → has x es ≡ b → is_third (Regrade x v way) ≡ true → converting (with_op (Regrade x v way) z₀) ≡ b) where
      -- a missing key
      none_ends : has x es ≡ false → Ended k n ws l t (with_op (Regrade x v way) z₀) NoSuchKey []
      unfolding plain member
      none_ends missing =
          unchanged_ends (Regrade x v way) NoSuchKey
          (cond-false (reply (Regraded (information x es)) (regraded x v es)) (reply NoSuchKey es) missing)
          (λ y u w e m. false≢true (ap is_insert e))
          (λ third. sym (turn false missing third))

      -- a key that is there
      regrading_ends : has x es ≡ true
          → Ended k n ws l t (with_op (Regrade x v way) z₀) (Regraded (information x (memory leaf).entries)) (regrading memory x v leaf)
      unfolding plain member
      regrading_ends there =
          let same : plain (Regrade x v way) es ≡ reply (Regraded (information x es)) (regraded x v es)
          = cond-true (reply (Regraded (information x es)) (regraded x v es)) (reply NoSuchKey es) there in
          let made = regrading_leads k n memory l t x v leaf rest pool.forms key whole in
          record {
            entries = regraded x v es;
            leads = made.leads;
            how = inl (record {
              answer = ap Regraded told_is ∙ ap (λ (r : Reply). r.answer) (sym same);
              entries = ap (λ (r : Reply). r.entries) (sym same);
              room = λ y u w e m. absurd (false≢true (ap is_insert e));
            });
            only = λ q m.
                inl (subst (Writable (with_op (Regrade x v way) z₀)) (sym (made.writes q m ∙ last there)) (inside there));
            reads = λ y. absurd (false≢true y);
            writers = λ y. absurd (true≢false y);
            turned = λ third. sym (turn true there third);
            regrades = λ old e q m. made.writes q m ∙ last there;
          }

      pub regrade_does : (z : Stand) (fathers : List ℕ) → Does k n ws l t (with_op (Regrade x v way) z₀) (at_leaf (Regrade x v way) k memory free z leaf fathers)
      unfolding at_leaf
      regrade_does z fathers =
          cond_ind (Does k n ws l t (with_op (Regrade x v way) z₀)) (has x (memory leaf).entries)
          (λ y. done (Regraded (information x (memory leaf).entries)) (regrading memory x v leaf) refl (regrading_ends (sym there_is ∙ y)))
          (λ o. done NoSuchKey [] refl (none_ends (sym there_is ∙ o)))
