-- What is read off the last page of the path, above the leaves or at a leaf, tells the course, and the rule says the same of it.
use mathlib.Core.Bool.{true, false}
use mathlib.Core.Path.{◌≡◌, refl, sym, ◌∙◌}
use Rattle.page.specs.Words.{is_leaf}
use Rattle.pool.specs.Pool.{page_at, free_pages}
use Rattle.std.specs.Prelude.{None}
use Rattle.footing.proofs.LookLaws.{told_true, told_false}
use Rattle.course.specs.Judged.{begins_again, turn_course}
use Rattle.course.proofs.JudgeLaws.{stand_upward, stand_known, lowest, goes_judges, again_judges, turn_judges, search_judges, insert_judges, regrade_judges, delete_judges}
use Rattle.course.proofs.AgainLaws.{insert_tops}
use Rattle.course.proofs.NextLaws.{next_does}
use Rattle.course.proofs.judging.judge.Goals.{Else-begins_again, In_default}
use Rattle.course.proofs.judging.judge.Goals as goal

pub is_leaf_of-requires : goal.is_leaf_of-requires
is_leaf_of-requires c = (stand_known c.requires).in_pool

pub route_of-next-requires : goal.route_of-next-requires
route_of-next-requires c =
    let known = stand_known c.requires in
    record { in_pool = known.in_pool; readable = known.readable; p_value = told_false c.is_leaf_of.ensures c.if-not-is_leaf_of.true; p_value_2 = known.facts.rising }

pub lock_below-requires : goal.lock_below-requires
lock_below-requires c = (stand_known c.requires).in_pool

pub returns-then-not-is_leaf_of : goal.returns-then-not-is_leaf_of
returns-then-not-is_leaf_of c =
    let both = goes_judges c.args.shape.k (page_at c.args.shape.k c.args.words.now) (free_pages c.args.shape.k c.args.shape.n c.args.words.now) c.args.stand (stand_upward c.requires)
    c.args.op c.key_asked.result c.route_of-next.result c.lock_below.result c.goes.result
    (told_false c.is_leaf_of.ensures c.if-not-is_leaf_of.true)
    c.key_asked.ensures c.route_of-next.ensures c.lock_below.ensures c.goes.ensures in record { result_value = both.0; ready = both.1 }

pub begins_again-requires : goal.begins_again-requires
begins_again-requires c = let known = stand_known c.requires in record { in_pool = known.in_pool; readable = known.readable; leaf_value = known.facts.rising }

pub returns-then-begins_again : goal.returns-then-begins_again
returns-then-begins_again c =
    let both = again_judges c.args.shape.k (page_at c.args.shape.k c.args.words.now) (free_pages c.args.shape.k c.args.shape.n c.args.words.now) c.args.stand (stand_upward c.requires) (told_true c.is_leaf_of.ensures c.if-not-is_leaf_of.false)
    c.args.op _ (sym c.begins_again.ensures ∙ c.if-begins_again.true) refl in record { result_value = both.0; ready = both.1 }

low : (c : Else-begins_again) → is_leaf (page_at c.args.shape.k c.args.words.now (lowest c.args.stand)) ≡ true
low c = told_true c.is_leaf_of.ensures c.if-not-is_leaf_of.false

stays : (c : Else-begins_again) → begins_again c.args.op c.args.shape.k (page_at c.args.shape.k c.args.words.now) (lowest c.args.stand) ≡ false
stays c = sym c.begins_again.ensures ∙ c.if-begins_again.false

pub returns-in-Some : goal.returns-in-Some
returns-in-Some c =
    let both = turn_judges c.args.shape.k (page_at c.args.shape.k c.args.words.now) (free_pages c.args.shape.k c.args.shape.n c.args.words.now) c.args.stand (stand_upward c.requires) (low (goal.at.returns-in-Some c).Else-begins_again) c.args.op (stays (goal.at.returns-in-Some c).Else-begins_again) c.turn.ensures c.in-Some.is in record { result_value = both.0; ready = both.1 }

-- no page is left to convert
none : (c : In_default) → turn_course c.args.op c.args.shape.k (page_at c.args.shape.k c.args.words.now) c.args.stand ≡ None
none c = sym c.turn.ensures ∙ c.in_default.is

pub look_of-requires : goal.look_of-requires
look_of-requires c = let known = stand_known c.requires in record { in_pool = known.in_pool; readable = known.readable; p_value = known.facts.rising }

pub look_of-requires-in-Insert : goal.look_of-requires-in-Insert
look_of-requires-in-Insert c = let known = stand_known c.requires in record { in_pool = known.in_pool; readable = known.readable; p_value = known.facts.rising }

pub look_of-requires-in-Delete : goal.look_of-requires-in-Delete
look_of-requires-in-Delete c = let known = stand_known c.requires in record { in_pool = known.in_pool; readable = known.readable; p_value = known.facts.rising }

pub returns-in-Search : goal.returns-in-Search
returns-in-Search c =
    let both = search_judges c.args.shape.k (page_at c.args.shape.k c.args.words.now) (free_pages c.args.shape.k c.args.shape.n c.args.words.now) c.args.stand (stand_upward c.requires) (low (goal.at.returns-in-Search c).Else-begins_again)
    c.args.op c.look_of.result c.found.result (stays (goal.at.returns-in-Search c).Else-begins_again) (none (goal.at.returns-in-Search c).In_default) _ c.look_of.ensures c.in-Search.is c.found.ensures in record { result_value = both.0; ready = both.1 }

pub returns-in-Insert : goal.returns-in-Insert
returns-in-Insert c =
    let both = insert_judges c.args.shape.k (page_at c.args.shape.k c.args.words.now) (free_pages c.args.shape.k c.args.shape.n c.args.words.now) c.args.stand (stand_upward c.requires) (low (goal.at.returns-in-Insert c).Else-begins_again)
    c.args.op c.look_of-in-Insert.result c.inserts.result (stays (goal.at.returns-in-Insert c).Else-begins_again) (none (goal.at.returns-in-Insert c).In_default) _ _ _ c.look_of-in-Insert.ensures c.in-Insert.is c.inserts.ensures
    (insert_tops c.args.op _ c.in-Insert.is c.requires (stays (goal.at.returns-in-Insert c).Else-begins_again)) in record { result_value = both.0; ready = both.1 }

pub returns-in-Delete : goal.returns-in-Delete
returns-in-Delete c =
    let both = delete_judges c.args.shape.k (page_at c.args.shape.k c.args.words.now) (free_pages c.args.shape.k c.args.shape.n c.args.words.now) c.args.stand (stand_upward c.requires) (low (goal.at.returns-in-Delete c).Else-begins_again)
    c.args.op c.look_of-in-Delete.result c.deletes.result (stays (goal.at.returns-in-Delete c).Else-begins_again) (none (goal.at.returns-in-Delete c).In_default) _ _ c.look_of-in-Delete.ensures c.in-Delete.is c.deletes.ensures in record { result_value = both.0; ready = both.1 }

pub returns-in-Next : goal.returns-in-Next
returns-in-Next c =
    let both = next_does c.args.op _ (page_at c.args.shape.k c.args.words.now) (free_pages c.args.shape.k c.args.shape.n c.args.words.now) c.nexts.result c.requires (low (goal.at.returns-in-Next c).Else-begins_again) (stays (goal.at.returns-in-Next c).Else-begins_again) (none (goal.at.returns-in-Next c).In_default) c.in-Next.is c.nexts.ensures in record { result_value = both.0; ready = both.1 }

pub returns-in-Regrade : goal.returns-in-Regrade
returns-in-Regrade c =
    let both = regrade_judges c.args.shape.k (page_at c.args.shape.k c.args.words.now) (free_pages c.args.shape.k c.args.shape.n c.args.words.now) c.args.stand (stand_upward c.requires) (low (goal.at.returns-in-Regrade c).Else-begins_again)
    c.args.op _ _ _ _ (stays (goal.at.returns-in-Regrade c).Else-begins_again) (none (goal.at.returns-in-Regrade c).In_default) c.in-Regrade.is refl in record { result_value = both.0; ready = both.1 }
