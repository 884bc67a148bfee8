-- For who computes examples by the rules: all that a call unfolds to, in one list. Who unfolds `every_call` unfolds all of it.
use Rattle.ground.specs.Limits.{largest_k, largest_n, tallest, slot_count, search_holds, regrade_holds, second_holds, path_holds, sibling_holds, word_range, blank_key}
use Rattle.ground.specs.Tests.{all, count, member, distinct, apart, all_below, any_below, count_below, list_below, first_below, filled}
use Rattle.page.specs.Words.{flat, encode, pairs, view}
use Rattle.page.specs.Place.{place, has, information, at_or_above, without, regraded}
use Rattle.page.specs.Sound.{rises_from, rises, sound_by_itself}
use Rattle.page.specs.Splits.{put, split}
use Rattle.page.specs.Short.{neighbour, between_at, from_right, from_left, joined, less_key, rekeyed}
use Rattle.pool.specs.Pool.{pool_length, start, words_of, page_at, written, applied, is_free, free_pages, fresh}
use Rattle.opening.specs.Opening.{lowest_unsound, within, children, hangs, for_each, met, is_tree, checked}
use Rattle.change.specs.Insertion.{room, settled, insertion}
use Rattle.change.specs.Deletion.{needs, shares, shrunk, deletion}
use Rattle.change.specs.Regrading.{regrading}
use Rattle.slots.specs.Operations.{blank_tag}
use Rattle.slots.specs.Parts.{path_of, beside_of, locks_of, sidelocks_of, with_xi, waiting_order}
use Rattle.slots.specs.Locks.{lock_among}
use Rattle.slots.specs.Grant.{older_than, no_clash, no_older, no_conversion}
use Rattle.slots.specs.Book.{leaving, begins, goes_on, closes}
use Rattle.slots.specs.Sound.{names_each, slot_sound, no_clashing_holds, sound}
use Rattle.slots.specs.Begin.{begun}
use Rattle.slots.specs.Report.{reported}
use Rattle.footing.specs.Granted.{deletes, in_turn, unconverted, at_leaf, comes_down, goes_left, besides, converts, granted}
use Rattle.footing.specs.Fitting.{pages_sound, descends, same_levels, leftmost, fitting_new, xi_then_alpha, fitting, sound_for_step, verdict}
use Rattle.index.specs.Step.{stepped}
use Rattle.index.specs.Make.{made}
use Rattle.index.specs.Open.{opened}

-- numbers, tests and folds
grounds : Unit {0}
unfolding largest_k largest_n tallest slot_count search_holds regrade_holds second_holds path_holds sibling_holds blank_key all count member distinct apart all_below any_below count_below list_below first_below filled
grounds = tt

-- pages, the pool, and how they change
pages : Unit {0}
unfolding flat encode pairs view place has information at_or_above without regraded rises_from rises sound_by_itself put split neighbour between_at from_right from_left joined less_key rekeyed pool_length start words_of page_at written applied is_free free_pages fresh room settled insertion needs shares shrunk deletion regrading
pages = tt

-- slots, locks and the waiting order
slotted : Unit {0}
unfolding blank_tag path_of beside_of locks_of sidelocks_of with_xi lock_among waiting_order older_than no_clash no_older no_conversion leaving begins goes_on closes names_each slot_sound no_clashing_holds sound begun reported
slotted = tt

-- the check of a pool that is handed in
opens : Unit {0}
unfolding word_range lowest_unsound within children hangs for_each met is_tree checked opened
opens = tt

-- making, opening, begin, step and report
unfoldable pub every_call : Unit {0}
unfolding grounds pages slotted opens deletes in_turn unconverted at_leaf comes_down goes_left besides converts granted pages_sound descends same_levels leftmost fitting_new xi_then_alpha fitting sound_for_step verdict stepped made
every_call = tt
