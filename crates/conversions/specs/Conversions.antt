-- The 13 conversion commands of document 002, a code built from command and fields, and a code taken apart. Assumes nothing.
use Rattle.std.specs.Prelude.{ℕ, zero, suc, ◌+◌, ◌*◌, ◌/◌, ◌%◌, ◌≡◌, Bool, not, ◌&&◌, List, [], ◌∷◌, eqb, ltb, leb, get_or, Option, None, Some}
use Rattle.lent.specs.Refusal.{pick, first}
use Rattle.conversions.specs.declared.Pattern.{Pattern}
use Rattle.conversions.specs.declared.Fields.{Fields}
use Rattle.conversions.specs.declared.Code.{Code}
use Rattle.conversions.specs.declared.Conversion.{Conversion}

-- A row of 002's Table 36, a `Pattern`: the code with every field 0; the most that DCP and PUP may be, 0 where the command has none; the sort of its choice, and the
-- least and the most of it. Sorts: 0 none; 1 CH, CHG or CHST, in bits 2 to 0; 2 ST, in bits 6 and 5.
abbrev pub pattern : ℕ → ℕ → ℕ → ℕ → ℕ → ℕ → Pattern
pattern base dcp pup sort least most = record { base = base; dcp = dcp; pup = pup; sort = sort; least = least; most = most }

unfoldable pub patterns : List Pattern
patterns =
    pattern 0x260 1 0 1 0 6  -- 0 ADCV
    ∷ pattern 0x228 1 1 1 0 6  -- 1 ADOW
    ∷ pattern 0x207 0 0 2 1 2  -- 2 CVST
    ∷ pattern 0x201 1 0 0 0 0  -- 3 ADOL
    ∷ pattern 0x460 0 0 1 0 6  -- 4 ADAX
    ∷ pattern 0x400 0 0 1 0 6  -- 5 ADAXD
    ∷ pattern 0x410 0 1 1 0 6  -- 6 AXOW
    ∷ pattern 0x407 0 0 2 1 2  -- 7 AXST
    ∷ pattern 0x468 0 0 1 0 4  -- 8 ADSTAT
    ∷ pattern 0x408 0 0 1 0 4  -- 9 ADSTATD
    ∷ pattern 0x40F 0 0 2 1 2  -- 10 STATST
    ∷ pattern 0x46F 1 0 0 0 0  -- 11 ADCVAX
    ∷ pattern 0x467 1 0 0 0 0  -- 12 ADCVSC
    ∷ []

unfoldable pub pattern_at : ℕ → Pattern
pattern_at command = get_or patterns command (pattern 0 0 0 0 0 0)

-- the fields of a command
abbrev pub fields : ℕ → ℕ → ℕ → ℕ → Fields
fields mode discharge pull_up choice = record { mode = mode; discharge = discharge; pull_up = pull_up; choice = choice }

-- every field is in its range
unfoldable pub within : Pattern → Fields → Bool
within p f = ltb f.mode 4 && (leb f.discharge p.dcp && (leb f.pull_up p.pup && (leb p.least f.choice && leb f.choice p.most)))

-- the code: MD has the weight 0x80, DCP 0x10, PUP 0x40, ST 0x20, any other choice 1
unfoldable pub weighed : ℕ → ℕ → ℕ
weighed sort choice = pick (eqb sort 2) (0x20 * choice) choice

unfoldable pub code_by : Pattern → Fields → ℕ
code_by p f = p.base + 0x80 * f.mode + 0x10 * f.discharge + 0x40 * f.pull_up + weighed p.sort f.choice

-- what stands in a code where a command has its fields
unfoldable pub choice_in : ℕ → ℕ → ℕ
choice_in sort code = pick (eqb sort 2) (code / 0x20 % 4) (pick (eqb sort 1) (code % 8) 0)

unfoldable pub fields_by : Pattern → ℕ → Fields
fields_by p code = fields (code / 0x80 % 4) (p.dcp * (code / 0x10 % 2)) (p.pup * (code / 0x40 % 2)) (choice_in p.sort code)

-- the code is one of the command's: those fields are in their ranges, and build it
unfoldable pub fits : ℕ → ℕ → Bool
fits command code = let p = pattern_at command in within p (fields_by p code) && eqb (code_by p (fields_by p code)) code

-- the first of k commands from c on that has the code, and 13 where none has
unfoldable pub seek : ℕ → ℕ → ℕ → ℕ
seek code c zero = 13
seek code c (suc k) = pick (fits c code) c (seek code (suc c) k)

unfoldable pub command_of : ℕ → ℕ
command_of code = seek code 0 13

unfoldable pub is_conversion : ℕ → Bool
is_conversion code = ltb (command_of code) 13

-- the command, where one has the code
unfoldable pub found : ℕ → Option ℕ
found code = pick (is_conversion code) (Some (command_of code)) None

-- What `conversion_code` promises: its number, and the code, 0 on refusal.
unfoldable pub code_number : ℕ → Fields → ℕ
code_number command f =
    first
    ((not (ltb command 13), 9)  -- a command out of range
    ∷ (not (within (pattern_at command) f), 9)  -- a field out of range
    ∷ [])

pub record Builds (command mode discharge pull_up choice : ℕ) (r : Code) : Type 0 where
  pub number : r.number ≡ code_number command (fields mode discharge pull_up choice)
  pub code : r.code ≡ pick (eqb r.number 0) (code_by (pattern_at command) (fields mode discharge pull_up choice)) 0

-- What `conversion_of` promises: its number, and the command and its fields, all 0 on refusal.
unfoldable pub of_number : ℕ → ℕ
of_number code = first ((not (is_conversion code), 2) ∷ [])  -- any other code

unfoldable pub fields_of : ℕ → Fields
fields_of code = pick (is_conversion code) (fields_by (pattern_at (command_of code)) code) (fields 0 0 0 0)

pub record TakesApart (code : ℕ) (r : Conversion) : Type 0 where
  pub number : r.number ≡ of_number code
  pub command : r.command ≡ pick (is_conversion code) (command_of code) 0
  pub mode : r.mode ≡ (fields_of code).mode
  pub discharge : r.discharge ≡ (fields_of code).discharge
  pub pull_up : r.pull_up ≡ (fields_of code).pull_up
  pub choice : r.choice ≡ (fields_of code).choice
