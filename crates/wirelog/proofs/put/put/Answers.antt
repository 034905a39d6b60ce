-- `wirelog::put::put` meets its record: each return by the law of its number. Assumes nothing.
use Rattle.std.proofs.Common.{sym, arith}
use Rattle.lent.specs.Number.{number, written}
use Rattle.wirelog.proofs.KindLaws.{known_most, within_most}
use Rattle.wirelog.proofs.PutLaws.{unknown_kind, outside_limits, output_short, none, refused, done}
use Rattle.wirelog.proofs.put.put.Goals as goal
use Rattle.wirelog.proofs.put.put.Goals.{then-not-is_known-via-then-not-is_known, then-not-is_known-via-else-not-is_known+then-not-is_within}

pub returns-then-not-is_known : goal.returns-then-not-is_known
unfolding written number
returns-then-not-is_known c =
    elim c.then-not-is_known.branch [
      | then-not-is_known-via-then-not-is_known w ↦ refused _ _ _ 10 (unknown_kind _ _ _ (sym w.if-not-is_known.ensures))
      | then-not-is_known-via-else-not-is_known+then-not-is_within w ↦
          refused _ _ _ 10 (outside_limits _ _ _ (sym w.if-not-is_known.ensures) (sym w.if-not-is_within.ensures))
    ]

pub returns-then-out-length : goal.returns-then-out-length
unfolding written number
returns-then-out-length c =
    let known = sym c.if-not-is_known.ensures in
    let within = sym c.if-not-is_within.ensures in
    refused _ _ _ 4 (output_short _ _ _ known within (omega arith))

pub put_record-requires : goal.put_record-requires
put_record-requires c =
    let known = sym c.if-not-is_known.ensures in
    let within = sym c.if-not-is_within.ensures in
    (omega (arith, known_most _ known), omega (arith, within_most _ _ within), omega arith)

pub returns : goal.returns
unfolding written
returns c =
    let known = sym c.if-not-is_known.ensures in
    let within = sym c.if-not-is_within.ensures in
    done _ _ _ _ (none _ _ _ known within (omega arith)) c.put_record.ensures
