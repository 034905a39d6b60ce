-- `conversions::pattern_at` is the row of the definition, by its digits. Assumes nothing.
use Rattle.std.proofs.Common.{ℕ, List, get_or, ap, ◌∙◌}
use Rattle.conversions.proofs.ConversionLaws.{unpacked, unpacked_at}
use Rattle.conversions.proofs.pattern_at.Goals as goal

pub returns : goal.returns
returns c = ap (λ (l : List ℕ). unpacked (get_or l c.args.command 0)) c.patterns.ensures ∙ unpacked_at c.args.command
