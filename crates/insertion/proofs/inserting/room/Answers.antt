-- The loop counts the full pages among the first of those held, and whether page 0 is one of them.
use Prim.Native.Nat.{ℕ, ◌+◌, ◌-◌, ◌≤◌}
use mathlib.Core.List.{List}
use mathlib.Core.Path.{◌≡◌, ap, refl, sym, ◌∙◌, subst}
use native.Mathlib.Omega.{arith}
use lib.ListN.{length}
use Rattle.ground.proofs.Tests.{member_from}
use Rattle.page.specs.Words.{Page}
use Rattle.pool.specs.Pool.{page_at}
use Rattle.change.proofs.HeldLaws.{holding_known, held_known}
use Rattle.insertion.proofs.RoomLaws.{Counted, from_bool_most, counted_as, counted_none, counted_space, counted_full, counted_most, room_none, room_counted}
use Rattle.insertion.proofs.inserting.room.Goals.{At-loop-p, then-count_of-shape-2, else-count_of-shape-2}
use Rattle.insertion.proofs.inserting.room.Goals as goal

pub count_of-requires : goal.count_of-requires
count_of-requires c =
    let known = holding_known c.requires (length c.args.path.now - 1) (omega (arith, c.requires.some)) in
    record { in_pool = known.in_pool; readable = known.readable }

pub returns-then-count_of-shape-clause-value : goal.returns-then-count_of-shape-clause-value
returns-then-count_of-shape-clause-value c =
    room_none c.args.shape.k (page_at c.args.shape.k c.args.words.now) c.args.path.now _ (omega (arith, c.count_of.ensures))

pub loop-p-init : goal.loop-p-init
loop-p-init c = counted_none c.args.shape.k (page_at c.args.shape.k c.args.words.now) c.args.path.now

pub count_of-requires-in-loop-p : goal.count_of-requires-in-loop-p
count_of-requires-in-loop-p c =
    let known = held_known c.requires.held _ (member_from _ c.args.path.now c.loop-p.p-index 0 c.loop-p-test.true refl) in
    record { in_pool = known.in_pool; readable = known.readable }

-- there are no more full pages than pages held
few : (c : At-loop-p) → c.loop-p.full ≤ length c.args.path.now
few c =
    let most = counted_most c.args.shape.k (page_at c.args.shape.k c.args.words.now) c.args.path.now c.loop-p.auto.p-index-end c.loop-p.invariant in
    omega arith

pub overflow_add-full : goal.overflow_add-full
overflow_add-full c = omega (arith, few (goal.at.overflow_add-full c).At-loop-p, c.requires.deep)

pub loop-p-preserved : goal.loop-p-preserved
loop-p-preserved c =
    let memory : ℕ → Page = page_at c.args.shape.k c.args.words.now in
    let held : List ℕ = c.args.path.now in
    elim c.if-count_of-shape-2.branch [
      | then-count_of-shape-2 w ↦ counted_as c.args.shape.k memory held w.full-is w.root-is
          (counted_full c.args.shape.k memory held c.loop-p-test.true c.loop-p.invariant (sym c.count_of-in-loop-p.ensures ∙ w.if-count_of-shape-2.true))
      | else-count_of-shape-2 w ↦ counted_as c.args.shape.k memory held w.full-is w.root-is
          (counted_space c.args.shape.k memory held c.loop-p-test.true c.loop-p.invariant (λ e. w.if-count_of-shape-2.false (c.count_of-in-loop-p.ensures ∙ e)))
    ]

pub overflow_add-result : goal.overflow_add-result
overflow_add-result c =
    let one = from_bool_most c.loop-p.root in
    omega (arith, few (goal.at.overflow_add-result c).At-loop-p, c.requires.deep, c.from.ensures)

pub returns-clause-value : goal.returns-clause-value
returns-clause-value c =
    let memory : ℕ → Page = page_at c.args.shape.k c.args.words.now in
    let held : List ℕ = c.args.path.now in
    let end : c.loop-p.p-index ≡ length held = omega arith in
    ap (λ (m : ℕ). c.loop-p.full + m) c.from.ensures
    ∙ room_counted c.args.shape.k memory held _ (omega (arith, c.count_of.ensures))
    (subst (λ (i : ℕ). Counted c.args.shape.k memory held i c.loop-p.full c.loop-p.root) end c.loop-p.invariant)

pub returns-clause-upper_bound : goal.returns-clause-upper_bound
returns-clause-upper_bound c =
    let one = from_bool_most c.loop-p.root in
    omega (arith, few (goal.at.returns-clause-upper_bound c).At-loop-p, c.from.ensures)
