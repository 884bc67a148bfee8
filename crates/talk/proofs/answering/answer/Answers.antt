-- `answer` meets its contract: too long, or the answers from a fresh pool.
use Rattle.pool.specs.Pool.{pool_length}
use Rattle.talk.specs.Talk.{blank}
use Rattle.talk.proofs.Whole.{too_long_writes, lines_write}
use Rattle.talk.proofs.answering.answer.Goals as goal

pub returns-then-input-gt-MOST : goal.returns-then-input-gt-MOST
returns-then-input-gt-MOST c =
    too_long_writes _ _ c.if-input-gt-MOST.true c.write_too_long.ensures.0 c.write_too_long.ensures.1

pub returns : goal.returns
unfolding pool_length blank
returns c =
    lines_write _ _ c.if-input-gt-MOST.false c.make.ensures c.answer_lines.ensures
