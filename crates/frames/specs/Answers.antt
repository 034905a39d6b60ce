-- 01's numbers of the kinds, and of what the lookup answers. Assumes nothing.
use Rattle.std.specs.Prelude.{ℕ, Option, None, Some}
use Rattle.frames.specs.declared.commands.Kind.{Kind}
use Rattle.frames.specs.declared.commands.Command.{Command}

unfoldable pub kind_number : Kind → ℕ
kind_number Kind.Write = 1
kind_number Kind.Read = 2
kind_number Kind.Clear = 3
kind_number Kind.Conversion = 4

-- 0, unknown, where nothing is found
unfoldable pub kind_given : Option Command → ℕ
kind_given None = 0
kind_given (Some command) = kind_number command.kind

unfoldable pub group_given : Option Command → ℕ
group_given None = 0
group_given (Some command) = command.group
