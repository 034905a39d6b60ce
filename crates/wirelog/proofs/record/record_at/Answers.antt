-- `wirelog::record::record_at` finds what the definition says: each return by its law. Assumes nothing.
use Rattle.std.proofs.Common.{sym, arith, ◌∙◌}
use Rattle.lent.specs.Number.{number}
use Rattle.wirelog.specs.Record.{length_at, kind_at}
use Rattle.wirelog.specs.Found.{answered}
use Rattle.wirelog.proofs.FoundLaws.{at_end, past_end, not_whole, whole, gives_unknown, gives_limits, gives_record}
use Rattle.wirelog.proofs.record.record_at.Goals as goal
use Rattle.wirelog.proofs.record.record_at.Goals.{then-log-place-via-then-log-place, then-log-place-via-else-log-place+then-not-is_whole}

pub returns-then-place-log : goal.returns-then-place-log
unfolding answered
returns-then-place-log c = record { found = sym (at_end _ _ (omega arith)) }

pub returns-then-log-place : goal.returns-then-log-place
unfolding answered number
returns-then-log-place c =
    elim c.then-log-place.branch [
      | then-log-place-via-then-log-place w ↦ record { found = sym (past_end _ _ w.if-log-place.true) }
      | then-log-place-via-else-log-place+then-not-is_whole w ↦ record { found = sym (not_whole _ _ (λ e. omega arith) (sym w.if-not-is_whole.ensures)) }
    ]

pub low_first-requires : goal.low_first-requires
low_first-requires c =
    let w = whole _ _ (sym c.if-not-is_whole.ensures) in omega (arith, w.counts, w.inside)

pub low_first-requires-2 : goal.low_first-requires-2
low_first-requires-2 c =
    let w = whole _ _ (sym c.if-not-is_whole.ensures) in omega (arith, w.counts, w.inside)

pub overflow_sub-body_len : goal.overflow_sub-body_len
unfolding length_at
overflow_sub-body_len c =
    let w = whole _ _ (sym c.if-not-is_whole.ensures) in omega (arith, w.counts, c.low_first.ensures)

pub returns-then-not-is_known : goal.returns-then-not-is_known
unfolding answered kind_at length_at
returns-then-not-is_known c =
    let w = sym c.if-not-is_whole.ensures in
    gives_unknown _ _ _ _ (λ e. omega arith) w (c.from-kind.ensures ∙ c.low_first-2.ensures) (c.from-counted.ensures ∙ c.low_first.ensures)
    (sym c.if-not-is_known.ensures)

pub slice_bounds-is_within-count : goal.slice_bounds-is_within-count
unfolding length_at
slice_bounds-is_within-count c =
    let w = whole _ _ (sym c.if-not-is_whole.ensures) in omega (arith, w.counts, c.low_first.ensures)

pub slice_bounds-is_within-start : goal.slice_bounds-is_within-start
unfolding length_at
slice_bounds-is_within-start c =
    let w = whole _ _ (sym c.if-not-is_whole.ensures) in omega (arith, w.counts, c.low_first.ensures)

pub slice_bounds-is_within-end : goal.slice_bounds-is_within-end
unfolding length_at
slice_bounds-is_within-end c =
    let w = whole _ _ (sym c.if-not-is_whole.ensures) in
    omega (arith, w.counts, w.inside, c.low_first.ensures)

pub returns-then-not-is_within : goal.returns-then-not-is_within
unfolding answered number kind_at length_at
returns-then-not-is_within c =
    let w = sym c.if-not-is_whole.ensures in
    gives_limits _ _ _ _ (λ e. omega arith) w (c.from-kind.ensures ∙ c.low_first-2.ensures) (c.from-counted.ensures ∙ c.low_first.ensures)
    (sym c.if-not-is_known.ensures)
    (sym c.if-not-is_within.ensures)

pub returns : goal.returns
unfolding answered kind_at length_at
returns c =
    let w = sym c.if-not-is_whole.ensures in
    gives_record _ _ _ _ (λ e. omega arith) w (c.from-kind.ensures ∙ c.low_first-2.ensures) (c.from-counted.ensures ∙ c.low_first.ensures)
    (sym c.if-not-is_known.ensures)
    (sym c.if-not-is_within.ensures)
