-- The one table of 26 commands, row by row as 01 has it, and the one lookup: where no row fits, it asks for a conversion. Assumes nothing.
use Rattle.std.specs.Prelude.{ℕ, List, [], ◌∷◌, eqb}
use Rattle.lent.specs.Refusal.{pick}
use Rattle.conversions.specs.Conversions.{is_conversion}

-- A code with its kind (1 write, 2 read, 3 clear) and the group that it writes or reads; of a clear, the first group that it sets.
pub record Row : Type 0 where
  pub code : ℕ
  pub kind : ℕ
  pub group : ℕ

abbrev pub row : ℕ → ℕ → ℕ → Row
row code kind group = record { code = code; kind = kind; group = group }

abbrev write : ℕ → ℕ → Row
write code group = row code 1 group

abbrev read : ℕ → ℕ → Row
read code group = row code 2 group

abbrev clear : ℕ → ℕ → Row
clear code group = row code 3 group

unfoldable pub rows : List Row
rows =
    write 0x001 0 ∷ read 0x002 0  -- CFGA
    ∷ write 0x024 1 ∷ read 0x026 1  -- CFGB
    ∷ read 0x004 2 ∷ read 0x006 3 ∷ read 0x008 4  -- CVA, CVB, CVC
    ∷ read 0x00A 5 ∷ read 0x009 6 ∷ read 0x00B 7  -- CVD, CVE, CVF
    ∷ read 0x00C 8 ∷ read 0x00E 9 ∷ read 0x00D 10 ∷ read 0x00F 11  -- AUXA, AUXB, AUXC, AUXD
    ∷ read 0x010 12 ∷ read 0x012 13  -- STATA, STATB
    ∷ write 0x721 14 ∷ read 0x722 14  -- COMM
    ∷ write 0x014 15 ∷ read 0x016 15  -- SCTRL
    ∷ write 0x020 16 ∷ read 0x022 16  -- PWM
    ∷ write 0x01C 17 ∷ read 0x01E 17  -- PSB
    ∷ clear 0x711 2 ∷ clear 0x712 8  -- groups 2 to 7, groups 8 to 11
    ∷ []

-- where the table has no row: kind 4 for a conversion's code, and for any other kind 0, unknown
unfoldable pub unlisted : ℕ → Row
unlisted code = row code (pick (is_conversion code) 4 0) 0

-- the row of a code
unfoldable pub found : ℕ → List Row → Row
found code [] = unlisted code
found code (r ∷ rs) = pick (eqb r.code code) r (found code rs)

unfoldable pub kind_of : ℕ → ℕ
kind_of code = (found code rows).kind

unfoldable pub group_of : ℕ → ℕ
group_of code = (found code rows).group
