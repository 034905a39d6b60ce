-- What is printed of bytes: two digits of each so far. Assumes nothing.
use Rattle.std.proofs.Common.{List, ℕ, take}
use Rattle.std.specs.Prelude.{flat_map}
use Rattle.std.specs.Fmt.{HasWritten, IsPlainFormatter}
use Rattle.say.specs.Text.{byte_text}
use Rattle.say.proofs.BytesDisplay.fmt.Given as goal

abbrev pub so_far : List ℕ → ℕ → List ℕ
so_far bytes k = flat_map byte_text (take k bytes)

abbrev pub invariant-loop-byte : goal.invariant-loop-byte
invariant-loop-byte g l =
    IsPlainFormatter l.initial.f → HasWritten g.W.Write.write_str_gives l.initial.f (so_far l.self.0.now l.byte-index) l.f
