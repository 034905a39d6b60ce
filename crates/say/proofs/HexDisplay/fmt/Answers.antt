-- What is printed of a number is its text. Assumes nothing.
use mathlib.Core.Path.{refl}
use Rattle.std.proofs.Common.{rules, true, ◌++◌}
use Rattle.std.specs.Char.{encode_utf8}
use Rattle.std.proofs.Output.{has_written_append, has_written_of_eq}
use Rattle.say.specs.Text.{hex_text}
use Rattle.say.proofs.TextLaws.{shown_by_digit, shown_by_width, place_grows, place_skipped, all_shown}
use Rattle.say.proofs.HexDisplay.fmt.Goals as goal
use Rattle.say.proofs.HexDisplay.fmt.Goals.{then-rest-ne0-via-then-rest-ne0, then-rest-ne0-via-else-rest-ne0+then-place-width}

pub loop-place-preserved-in-loop-place : goal.loop-place-preserved-in-loop-place
loop-place-preserved-in-loop-place g c p =
    let (done, so_far, left) = c.loop-place.invariant p in
    let one = c.in_ok-write_char.ensures.writes so_far.plain (refl {a = true}) in
    let due = c.loop-place-test.true in (
      done ++ encode_utf8 c.digit.result,
      has_written_append _ _ _ _ _ _ so_far one,
      place_grows c.args.self.now.0 c.args.self.now.1 c.loop-place.place due done (encode_utf8 c.digit.result) _
          (elim c.then-rest-ne0.branch [
            | then-rest-ne0-via-then-rest-ne0 w ↦ shown_by_digit c.args.self.now.0 c.args.self.now.1 c.loop-place.place due c.digit.result c.digit.ensures w.if-rest-ne0.true
            | then-rest-ne0-via-else-rest-ne0+then-place-width w ↦ shown_by_width c.args.self.now.0 c.args.self.now.1 c.loop-place.place due c.digit.result c.digit.ensures w.if-place-width.true
          ])
          left,
    )

pub loop-place-preserved : goal.loop-place-preserved
loop-place-preserved g c p =
    let (done, so_far, left) = c.loop-place.invariant p in
    (done, so_far, place_skipped c.args.self.now.0 c.args.self.now.1 c.loop-place.place c.loop-place-test.true done _ c.if-rest-ne0.false c.if-place-width.false left)

pub returns-clause-writes : goal.returns-clause-writes
unfolding hex_text
returns-clause-writes g c p e =
    let (done, so_far, left) = c.loop-place.invariant p in
    has_written_of_eq _ _ _ _ _ (all_shown c.args.self.now.0 c.args.self.now.1 c.loop-place.place (search rules) done left) so_far
