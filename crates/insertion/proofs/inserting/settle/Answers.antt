-- The code tests μ before the pair is put in, the rule after: a page with fewer than 2k has at most 2k then.
use Prim.Native.Nat.{◌*◌, ◌≤◌}
use native.Mathlib.Omega.{arith}
use Rattle.ground.specs.Limits.{largest_k}
use Rattle.page.specs.Words.{μ}
use Rattle.pool.specs.Pool.{page_at}
use Rattle.insertion.proofs.SettleLaws.{held_one, held_other, over_count, settle_done, settle_up}
use Rattle.insertion.proofs.inserting.settle.Goals as goal

pub place_of-at-requires : goal.place_of-at-requires
place_of-at-requires c = let known = held_one c.requires.held in record { in_pool = known.in_pool; readable = known.readable; p_value = known.facts.rising }

pub count_of-requires : goal.count_of-requires
count_of-requires c = let known = held_one c.requires.held in record { in_pool = known.in_pool; readable = known.readable }

pub put_in_at-requires : goal.put_in_at-requires
put_in_at-requires c =
    let known = held_one c.requires.held in
    record { in_pool = known.in_pool; exact = known.exact; p_bound = (omega (arith, c.count_of.ensures, c.if-count_of-shape.true), c.place_of-at.ensures.upper_bound) }

pub returns-then-count_of-shape : goal.returns-then-count_of-shape
returns-then-count_of-shape c =
    settle_done c.args.shape.k c.args.x c.args.key c.args.value c.args.p c.args.a (page_at c.args.shape.k c.args.words.now c.args.p)
    c.place_of-at.result c.count_of.result c.args.words.now c.place_of-at.ensures.value c.count_of.ensures
    c.if-count_of-shape.true c.put_in_at.ensures

pub over_of-s-requires : goal.over_of-s-requires
over_of-s-requires c =
    let known = held_one c.requires.held in
    record { in_pool = known.in_pool; exact = known.exact; i_bound = c.place_of-at.ensures.upper_bound }

pub split_to-requires : goal.split_to-requires
split_to-requires c =
    let known = held_one c.requires.held in
    let over : 2 * c.args.shape.k ≤ μ (page_at c.args.shape.k c.args.words.now c.args.p) = omega (arith, c.count_of.ensures, c.if-count_of-shape.false) in record { in_pool = (known.in_pool, held_other c.requires.held (c.requires.a_lt_n over)); le_k = (c.requires.held.least, over_count c.args.shape.k c.place_of-at.result c.args.key c.args.value (page_at c.args.shape.k c.args.words.now c.args.p) c.over_of-s.ensures (omega (arith, known.facts.room))) }

pub cut_key-requires : goal.cut_key-requires
unfolding largest_k
cut_key-requires c =
    let known = held_one c.requires.held in
    let over : 2 * c.args.shape.k ≤ μ (page_at c.args.shape.k c.args.words.now c.args.p) = omega (arith, c.count_of.ensures, c.if-count_of-shape.false) in
    let counted = over_count c.args.shape.k c.place_of-at.result c.args.key c.args.value (page_at c.args.shape.k c.args.words.now c.args.p) c.over_of-s.ensures (omega (arith, known.facts.room)) in
    omega (arith, counted, c.requires.held.width, c.requires.held.least)

pub returns : goal.returns
returns c =
    settle_up c.args.shape.k c.args.x c.args.key c.args.value c.args.p c.args.a (page_at c.args.shape.k c.args.words.now c.args.p)
    c.place_of-at.result c.count_of.result c.args.words.now c.place_of-at.ensures.value c.count_of.ensures
    c.if-count_of-shape.false c.over_of-s.ensures c.cut_key.ensures c.split_to.ensures
