-- `tally::sum`: none where a count would pass the limit, and else the four sums. Assumes nothing.
use Rattle.lent.specs.Refusal.{pick}
use Rattle.tally.specs.Tally.{past_any, plus}
use Rattle.tally.proofs.Room.{over, held}
use Rattle.tally.proofs.sum.Goals as goal

pub returns-in_default : goal.returns-in_default
unfolding past_any plus pick
returns-in_default c = simp (over _ c.in_default.ensures)

pub returns-in_default-checked_add : goal.returns-in_default-checked_add
unfolding past_any plus pick
returns-in_default-checked_add c = simp (held _ c.in-Some.ensures.0, over _ c.in_default-checked_add.ensures)

pub returns-in_default-checked_add-2 : goal.returns-in_default-checked_add-2
unfolding past_any plus pick
returns-in_default-checked_add-2 c = simp (held _ c.in-Some.ensures.0, held _ c.in-Some-checked_add.ensures.0, over _ c.in_default-checked_add-2.ensures)

pub returns-in_default-checked_add-3 : goal.returns-in_default-checked_add-3
unfolding past_any plus pick
returns-in_default-checked_add-3 c = simp (held _ c.in-Some.ensures.0, held _ c.in-Some-checked_add.ensures.0, held _ c.in-Some-checked_add-2.ensures.0, over _ c.in_default-checked_add-3.ensures)

pub returns : goal.returns
unfolding past_any plus pick
returns c = rw (c.in-Some.ensures.1, c.in-Some-checked_add.ensures.1, c.in-Some-checked_add-2.ensures.1, c.in-Some-checked_add-3.ensures.1) (simp (held _ c.in-Some.ensures.0, held _ c.in-Some-checked_add.ensures.0, held _ c.in-Some-checked_add-2.ensures.0, held _ c.in-Some-checked_add-3.ensures.0))
