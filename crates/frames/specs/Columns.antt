-- How the code holds the table of commands: by columns, and the kinds by their names, whose numbers are this column (proofs/Search `kinds_held`). Nothing that is
-- promised speaks of it. Assumes nothing.
use Rattle.std.specs.Prelude.{ℕ, List, map}
use Rattle.frames.specs.Commands.{Row, rows}

unfoldable pub code_column : List ℕ
code_column = map (λ (r : Row). r.code) rows

unfoldable pub kind_column : List ℕ
kind_column = map (λ (r : Row). r.kind) rows

unfoldable pub group_column : List ℕ
group_column = map (λ (r : Row). r.group) rows
