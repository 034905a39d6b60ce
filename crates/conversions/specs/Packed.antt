-- How the code's table holds the patterns of the conversion commands: one number each. Nothing that is promised speaks of it. Assumes nothing.
use Rattle.std.specs.Prelude.{ℕ, ◌+◌, ◌*◌, List, map}
use Rattle.conversions.specs.Conversions.{patterns}
use Rattle.conversions.specs.declared.Pattern.{Pattern}

-- by hex digits: three of the base, and one of each of the rest
unfoldable pub packed : Pattern → ℕ
packed p = p.base * 0x100000 + p.dcp * 0x10000 + p.pup * 0x1000 + p.sort * 0x100 + p.least * 0x10 + p.most

unfoldable pub packed_patterns : List ℕ
packed_patterns = map packed patterns
