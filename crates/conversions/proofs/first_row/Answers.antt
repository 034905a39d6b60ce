-- `conversions::first_row`: no command before it has the code. Assumes nothing.
use Rattle.std.proofs.Common.{refl, arith}
use Rattle.conversions.specs.Conversions.{command_of}
use Rattle.conversions.proofs.ConversionLaws.{from_fourth}
use Rattle.conversions.proofs.first_row.Goals as goal

pub returns-then-code-lt1024 : goal.returns-then-code-lt1024
unfolding command_of
returns-then-code-lt1024 c = (omega arith, refl)

pub returns-else-code-lt1024 : goal.returns-else-code-lt1024
returns-else-code-lt1024 c = (omega arith, from_fourth _ c.if-code-lt1024.false)
