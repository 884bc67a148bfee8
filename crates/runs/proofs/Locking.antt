-- The kind of lock that a slot wants its next page with, where it stands, and what sets the second way apart.
use Prim.Native.Nat.{ℕ}
use mathlib.Core.Bool.{true, false, ◌&&◌}
use mathlib.Core.List.{List, [], ◌∷◌, ◌++◌, reverse, map, map-append}
use mathlib.Core.Logic.{◌≢◌}
use mathlib.Core.Path.{◌≡◌, refl, sym, ap, ap₂, ◌∙◌}
use lib.Dec.{eqb}
use lib.ListN.{length, length-map}
use borrow.Author.Tests.{eq-eqb, ne_eqb}
use Rattle.ground.specs.Tests.{member}
use Rattle.ground.proofs.Tests.{member_here, member_there}
use Rattle.ground.proofs.Bools.{not_both, and_both, and_first, and_first_fails, and_second_fails, or_first}
use Rattle.ground.proofs.Choice.{by_test, cond-true, cond-false}
use Rattle.page.specs.Words.{Page}
use Rattle.slots.specs.declared.Op.{Op}
use Rattle.slots.specs.declared.Op.TheVariants.{Search, Insert, Delete, Next, Regrade}
use Rattle.slots.specs.declared.Way.TheVariants.{First, Second, Third}
use Rattle.slots.specs.declared.Lock.{Lock}
use Rattle.slots.specs.declared.Lock.TheVariants.{Xi}
use Rattle.slots.specs.declared.Under.{Under}
use Rattle.slots.specs.Parts.{only_reads, is_delete, is_next, held_lock, is_second, is_third, converting, under, Stand, holding, fresh_stand, slot_of}
use Rattle.slots.specs.Locks.{lock_among, lock_held, lock_in, same_lock, can_hold, can_want}
use Rattle.slots.proofs.LockLaws.{lock_same, among_map, can_hold_held, can_hold_xi, can_want_held, can_want_xi}
use Rattle.slots.proofs.Keeping.{Paired, lock_new}
use Rattle.slots.specs.Grant.{older_than}
use Rattle.footing.specs.Granted.{is_safe, kept, kept_locks, lock_below, pages_in_turn}
use Rattle.footing.specs.Fitting.{lock_due}
use Rattle.footing.proofs.LookLaws.{below_first}
use Rattle.runs.specs.Stance.{WantsWith, held_due, HoldsWith}

-- who does not go by the second way wants with the kind under which it holds
pub due_held : (op : Op) (memory : ℕ → Page) (up : List ℕ) → is_second op ≡ false → lock_due op memory up ≡ held_lock op
due_held op memory [] first = refl
due_held op memory (p ∷ up) first = below_first op (memory p) first

-- the step's test of the lock that is wanted
pub lock_test : (memory : ℕ → Page) (z : Stand) → WantsWith memory z → same_lock z.lock (lock_due z.op memory (reverse z.path)) ≡ true
lock_test memory z locked =
    let due : Lock = lock_due z.op memory (reverse z.path) in
    ap (λ (lock : Lock). same_lock lock due) locked ∙ lock_same due

-- where the lowest page held is on another level than 2, everybody does
pub due_above : (op : Op) (memory : ℕ → Page) (p : ℕ) (up : List ℕ) → (memory p).level ≢ 2 → lock_due op memory (p ∷ up) ≡ held_lock op
due_above op memory p up level = cond-false Xi (held_lock op) (and_second_fails (is_second op) (ne_eqb (memory p).level 2 level))

-- who does not only read holds with ξ by the first way
pub update_xi : (op : Op) → only_reads op ≡ false → is_second op ≡ false → is_third op ≡ false → held_lock op ≡ Xi
update_xi (Search x) update first only = not_both refl update
update_xi (Insert x v First) update first only = refl
update_xi (Insert x v Second) update first only = not_both refl first
update_xi (Insert x v Third) update first only = not_both refl only
update_xi (Delete x First) update first only = refl
update_xi (Delete x Second) update first only = not_both refl first
update_xi (Delete x Third) update first only = not_both refl only
update_xi (Next x) update first only = not_both refl update
update_xi (Regrade x v First) update first only = refl
update_xi (Regrade x v Second) update first only = not_both refl first
update_xi (Regrade x v Third) update first only = not_both refl only

-- who takes siblings, and who asks for the next lot, does not go by the second way
pub deletes_first : (op : Op) → is_delete op ≡ true → is_second op ≡ false
deletes_first (Search x) d = not_both d refl
deletes_first (Insert x v First) d = not_both d refl
deletes_first (Insert x v Second) d = not_both d refl
deletes_first (Insert x v Third) d = not_both d refl
deletes_first (Delete x First) d = refl
deletes_first (Delete x Second) d = not_both d refl
deletes_first (Delete x Third) d = refl
deletes_first (Next x) d = not_both d refl
deletes_first (Regrade x v First) d = not_both d refl
deletes_first (Regrade x v Second) d = not_both d refl
deletes_first (Regrade x v Third) d = not_both d refl

pub deletes_updates : (op : Op) → is_delete op ≡ true → only_reads op ≡ false
deletes_updates (Search x) d = not_both d refl
deletes_updates (Insert x v way) d = refl
deletes_updates (Delete x way) d = refl
deletes_updates (Next x) d = not_both d refl
deletes_updates (Regrade x v way) d = refl

-- no update asks for the next lot, and who goes by the third way updates
pub updates_not_next : (op : Op) → only_reads op ≡ false → is_next op ≡ false
updates_not_next (Search x) u = refl
updates_not_next (Insert x v First) u = refl
updates_not_next (Insert x v Second) u = refl
updates_not_next (Insert x v Third) u = refl
updates_not_next (Delete x First) u = refl
updates_not_next (Delete x Second) u = refl
updates_not_next (Delete x Third) u = refl
updates_not_next (Next x) u = not_both refl u
updates_not_next (Regrade x v First) u = refl
updates_not_next (Regrade x v Second) u = refl
updates_not_next (Regrade x v Third) u = refl

pub third_updates : (op : Op) → is_third op ≡ true → only_reads op ≡ false
third_updates (Search x) t = not_both t refl
third_updates (Insert x v way) t = refl
third_updates (Delete x way) t = refl
third_updates (Next x) t = not_both t refl
third_updates (Regrade x v way) t = refl

pub nexts_first : (op : Op) → is_next op ≡ true → is_second op ≡ false
nexts_first (Search x) d = not_both d refl
nexts_first (Insert x v First) d = not_both d refl
nexts_first (Insert x v Second) d = not_both d refl
nexts_first (Insert x v Third) d = not_both d refl
nexts_first (Delete x First) d = not_both d refl
nexts_first (Delete x Second) d = not_both d refl
nexts_first (Delete x Third) d = not_both d refl
nexts_first (Next x) d = refl
nexts_first (Regrade x v First) d = not_both d refl
nexts_first (Regrade x v Second) d = not_both d refl
nexts_first (Regrade x v Third) d = not_both d refl

-- by the second way the leaf is wanted with ξ, from a page on level 2
pub due_leaf : (op : Op) (memory : ℕ → Page) (p : ℕ) (up : List ℕ) → is_second op ≡ true → (memory p).level ≡ 2 → lock_due op memory (p ∷ up) ≡ Xi
due_leaf op memory p up second level = cond-true Xi (held_lock op) (and_both second (eq-eqb (memory p).level 2 level))

-- the kind that is due goes by the lowest page
pub due_by : (op : Op) (memory after : ℕ → Page) (up : List ℕ) → ((q : ℕ) → member q up ≡ true → after q ≡ memory q)
    → lock_due op memory up ≡ lock_due op after up
due_by op memory after [] same = refl
due_by op memory after (p ∷ up) same = ap (lock_below op) (sym (same p (member_here p up)))

-- ---- the kinds of held pages

-- who converts nothing holds every page with the kind with which it goes down
pub due_plain : (z : Stand) (p : ℕ) → converting z ≡ false → held_due z p ≡ held_lock z.op
due_plain z p new = cond-false Xi (held_lock z.op) (and_first_fails (member p (older_than z.want (pages_in_turn z))) new)

-- what a slot holds it holds under the kind that is due
pub held_with : (z : Stand) → HoldsWith z → (p : ℕ) → member p (holding z) ≡ true → lock_in z p ≡ held_due z p
held_with z w p m =
    ap (lock_among p (holding z)) (ap₂ (λ (ls ss : List Under). ls ++ ss) w.path w.beside ∙ sym (map-append (λ (q : ℕ). under (held_due z q)) z.path z.beside))
    ∙ among_map (held_due z) p (holding z) m

-- a kind for every page
pub paired : (z : Stand) → HoldsWith z → Paired z
paired z w = record {
  path = ap length w.path ∙ length-map z.path (λ (q : ℕ). under (held_due z q));
  beside = ap length w.beside ∙ length-map z.beside (λ (q : ℕ). under (held_due z q));
}

-- what it can hold: ξ only by the third way
pub due_held_can : (z : Stand) → (converting z ≡ true → is_third z.op ≡ true) → HoldsWith z → (p : ℕ) → member p (holding z) ≡ true
    → can_hold z.op (lock_held (slot_of z) p) ≡ true
due_held_can z third w p m =
    ap (can_hold z.op) (lock_new z (paired z w) p ∙ held_with z w p m)
    ∙ by_test (converting z && member p (older_than z.want (pages_in_turn z)))
    (λ y.
    ap (can_hold z.op) (cond-true Xi (held_lock z.op) y)
    ∙ can_hold_xi z.op (third (and_first (converting z) (member p (older_than z.want (pages_in_turn z))) y)))
    (λ n. ap (can_hold z.op) (cond-false Xi (held_lock z.op) n) ∙ can_hold_held z.op)

-- who has just begun holds nothing
pub fresh_holds : (op : Op) → HoldsWith (fresh_stand op)
fresh_holds op = record { path = refl; beside = refl }

-- a list of kinds, where all are one
pub all_due : (f g : ℕ → Lock) (pages : List ℕ) → ((p : ℕ) → member p pages ≡ true → f p ≡ g p)
    → map (λ (p : ℕ). under (f p)) pages ≡ map (λ (p : ℕ). under (g p)) pages
all_due f g [] same = refl
all_due f g (p ∷ pages) same =
    ap₂ (λ (l : Lock) (ls : List Under). under l ∷ ls) (same p (member_here p pages)) (all_due f g pages (λ q m. same q (member_there p q pages m)))

-- the kinds are these, where the kind that is due is one for all
module _ (z : Stand) (due : (p : ℕ) → held_due z p ≡ held_lock z.op) where
  pub holds_plain : z.locks ≡ map (λ (p : ℕ). under (held_lock z.op)) z.path → z.sidelocks ≡ map (λ (p : ℕ). under (held_lock z.op)) z.beside → HoldsWith z
  holds_plain a b = record {
    path = a ∙ all_due (λ (p : ℕ). held_lock z.op) (held_due z) z.path (λ p _. sym (due p));
    beside = b ∙ all_due (λ (p : ℕ). held_lock z.op) (held_due z) z.beside (λ p _. sym (due p));
  }

  pub plain_holds : HoldsWith z → (z.locks ≡ map (λ (p : ℕ). under (held_lock z.op)) z.path) × (z.sidelocks ≡ map (λ (p : ℕ). under (held_lock z.op)) z.beside)
  plain_holds w = (
    w.path ∙ all_due (held_due z) (λ (p : ℕ). held_lock z.op) z.path (λ p _. due p),
    w.beside ∙ all_due (held_due z) (λ (p : ℕ). held_lock z.op) z.beside (λ p _. due p),
  )

-- the wanted page is taken with the kind with which the operation goes down: alone, or behind the path
pub kept_plain : (k : ℕ) (memory : ℕ → Page) (z : Stand) → z.locks ≡ map (λ (p : ℕ). under (held_lock z.op)) z.path → z.lock ≡ held_lock z.op
    → kept_locks k memory z ≡ map (λ (p : ℕ). under (held_lock z.op)) (kept k memory z)
kept_plain k memory z w same =
    by_test (is_safe z.op k (memory z.want))
    (λ y.
    cond-true (under z.lock ∷ []) (z.locks ++ under z.lock ∷ []) y
    ∙ ap (λ (l : Lock). under l ∷ []) same
    ∙ ap (map (λ (p : ℕ). under (held_lock z.op))) (sym (cond-true (z.want ∷ []) (z.path ++ z.want ∷ []) y)))
    (λ f.
    cond-false (under z.lock ∷ []) (z.locks ++ under z.lock ∷ []) f
    ∙ ap₂ (λ (ls : List Under) (l : Lock). ls ++ under l ∷ []) w same
    ∙ sym (map-append (λ (p : ℕ). under (held_lock z.op)) z.path (z.want ∷ []))
    ∙ ap (map (λ (p : ℕ). under (held_lock z.op))) (sym (cond-false (z.want ∷ []) (z.path ++ z.want ∷ []) f)))

-- or beside it
pub beside_plain : (z : Stand) → z.sidelocks ≡ map (λ (p : ℕ). under (held_lock z.op)) z.beside → z.lock ≡ held_lock z.op
    → z.sidelocks ++ under z.lock ∷ [] ≡ map (λ (p : ℕ). under (held_lock z.op)) (z.beside ++ z.want ∷ [])
beside_plain z w same =
    ap₂ (λ (ls : List Under) (l : Lock). ls ++ under l ∷ []) w same
    ∙ sym (map-append (λ (p : ℕ). under (held_lock z.op)) z.beside (z.want ∷ []))

-- what is due an operation can want
due_can : (op : Op) (memory : ℕ → Page) (up : List ℕ) → can_want op (lock_due op memory up) ≡ true
due_can op memory [] = can_want_held op
due_can op memory (p ∷ up) =
    by_test (is_second op && eqb (memory p).level 2)
    (λ y. ap (can_want op) (cond-true Xi (held_lock op) y) ∙ can_want_xi op (or_first (is_third op) (and_first (is_second op) (eqb (memory p).level 2) y)))
    (λ n. ap (can_want op) (cond-false Xi (held_lock op) n) ∙ can_want_held op)

pub due_wanted : (op : Op) (lock : Lock) (memory : ℕ → Page) (up : List ℕ) → lock ≡ lock_due op memory up → can_want op lock ≡ true
due_wanted op lock memory up e = ap (can_want op) e ∙ due_can op memory up
