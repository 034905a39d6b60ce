-- `wirelog::walk::walk`: what is found says where the next turn begins, and what the walk comes to. Assumes nothing.
use Rattle.std.proofs.Common.{refl, sym, ap, subst, arith, Ok}
use Rattle.wirelog.specs.Found.{answered}
use Rattle.wirelog.specs.Walk.{past, stopped}
use Rattle.wirelog.specs.declared.walk.Walked.{Walked}
use Rattle.wirelog.proofs.FoundLaws.{found_is}
use Rattle.wirelog.proofs.RecordLaws.{record_next, unknown_next}
use Rattle.wirelog.proofs.WalkSteps.{Goes, goes_walks}
use Rattle.wirelog.proofs.WalkLaws.{Here, here_next}
use Rattle.wirelog.proofs.walk.walk.Goals as goal

pub loop-kind-smaller-in-Ok-Record : goal.loop-kind-smaller-in-Ok-Record
unfolding past answered
loop-kind-smaller-in-Ok-Record c =
    let found = found_is c.in-Ok-Record.ensures (ap Ok c.in-Ok-Record.field-0-is) in
    let next = record_next _ _ _ _ _ _ found in
    omega (arith, next.0, next.1, ap (λ (w : Walked). w.at) c.past_one-walked.ensures)

pub loop-kind-preserved-in-Ok-Record : goal.loop-kind-preserved-in-Ok-Record
unfolding answered
loop-kind-preserved-in-Ok-Record c =
    let found = found_is c.in-Ok-Record.ensures (ap Ok c.in-Ok-Record.field-0-is) in
    subst (Here _) (sym c.past_one-walked.ensures)
    (here_next _ _ _ _ c.loop-kind.invariant (record_next _ _ _ _ _ _ found) (λ r g. Goes.passes _ _ _ _ _ found g))

pub loop-kind-smaller : goal.loop-kind-smaller
unfolding past answered
loop-kind-smaller c =
    let found = found_is c.in-Ok-Unknown.ensures (ap Ok c.in-Ok-Unknown.field-0-is) in
    let next = unknown_next _ _ _ _ found in
    omega (arith, next.0, next.1, ap (λ (w : Walked). w.at) c.past_one-walked-in-Ok-Unknown.ensures)

pub loop-kind-preserved : goal.loop-kind-preserved
unfolding answered
loop-kind-preserved c =
    let found = found_is c.in-Ok-Unknown.ensures (ap Ok c.in-Ok-Unknown.field-0-is) in
    subst (Here _) (sym c.past_one-walked-in-Ok-Unknown.ensures)
    (here_next _ _ _ _ c.loop-kind.invariant (unknown_next _ _ _ _ found) (λ r g. Goes.passes_unknown _ _ _ found g))

pub returns-in-Ok-End : goal.returns-in-Ok-End
unfolding answered
returns-in-Ok-End c =
    let found = found_is c.in-Ok-End.ensures (ap Ok c.in-Ok-End.field-0-is) in
    goes_walks _ _ (c.loop-kind.invariant.back _ (Goes.ends _ found refl))

pub returns-in-Err : goal.returns-in-Err
unfolding answered
returns-in-Err c =
    let found = sym c.in-Err.ensures.found in
    goes_walks _ _ (c.loop-kind.invariant.back _ (Goes.refused _ _ found (ap (stopped c.loop-kind.walked) c.from.ensures)))
