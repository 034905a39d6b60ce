-- What is printed of bytes is their text. Assumes nothing.
use mathlib.Core.Path.{refl}
use Rattle.std.proofs.Common.{rules, true}
use Rattle.std.proofs.Output.{has_written_append, has_written_of_eq}
use Rattle.say.proofs.TextLaws.{dash, byte_grows, all_bytes}
use Rattle.say.proofs.BytesDisplay.fmt.Goals as goal

pub returns-then-is_empty-clause-writes : goal.returns-then-is_empty-clause-writes
returns-then-is_empty-clause-writes g c p ok = has_written_of_eq _ _ _ _ _ (dash c.args.self.now.0.now (search rules)) (c.write_str.ensures.writes p ok)

pub loop-byte-preserved : goal.loop-byte-preserved
loop-byte-preserved g c p =
    let so_far = c.loop-byte.invariant p in
    let one = c.in_ok-write_char.ensures.writes so_far.plain (refl {a = true}) in
    let other = c.in_ok-write_char-2.ensures.writes one.plain (refl {a = true}) in
    has_written_of_eq _ _ _ _ _ (byte_grows c.args.self.now.0.now c.loop-byte.byte-index c.loop-byte-test.true _ _ c.digit.ensures c.digit-in-loop-byte.ensures)
    (has_written_append _ _ _ _ _ _ so_far (has_written_append _ _ _ _ _ _ one other))

pub returns-clause-writes : goal.returns-clause-writes
returns-clause-writes g c p e = has_written_of_eq _ _ _ _ _ (all_bytes c.args.self.now.0.now c.loop-byte.byte-index (search rules) c.loop-byte-test.false) (c.loop-byte.invariant p)
