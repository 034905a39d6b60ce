-- `conversions::command_of`. The loop's invariant: what is sought from the command on is what is sought from 0 on. Assumes nothing.
use Rattle.std.proofs.Common.{◌-◌, ◌≡◌, ◌≤◌}
use Rattle.conversions.specs.Conversions.{seek, command_of}
use Rattle.conversions.proofs.command_of.Given as goal

abbrev pub invariant-loop-command : goal.invariant-loop-command
invariant-loop-command l = (l.command ≤ 13) × (command_of l.code ≡ seek l.code l.command (13 - l.command))
