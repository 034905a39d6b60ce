-- THE LAWS of conversion codes: building a code and taking it apart undo each other, every code has one reading, there are 368, and ADCV and ADAX are as
-- 02 has them. Assumes nothing.
use mathlib.Core.Path.{◌≡◌, refl, sym, ap, ◌∙◌}
use mathlib.Core.Bool.{Bool, true, not, ◌&&◌, ◌||◌}
use Prim.Native.Nat.{ℕ, zero, suc, ◌+◌, ◌*◌, ◌<◌}
use native.Mathlib.Omega.{arith}
use borrow.Author.Tests.{eqb-true, ltb-true, lt-ltb, le-leb, not-false}
use lib.Dec.{eqb, ltb}
use Rattle.lent.specs.Refusal.{pick, first}
use Rattle.lent.proofs.First.{none_first}
use Rattle.lent.proofs.Tests.{and_left, and_right, below, each_below}
use Rattle.conversions.specs.Conversions.{patterns, pattern_at, fields, within, weighed, code_by, choice_in, fields_by, fits, seek, command_of, is_conversion, code_number, of_number, fields_of, Builds, TakesApart}
use Rattle.conversions.specs.declared.Fields.{Fields}
use Rattle.conversions.specs.declared.Code.{Code}
use Rattle.conversions.specs.declared.Conversion.{Conversion}
use Rattle.conversions.proofs.ConversionLaws.{conversion, conversion_ext, fields_ext, bounds, inside, own}

-- One test, computed over every command and every value that a field may have: the code is the command's, and has its fields where they are looked for.
same : Fields → Fields → Bool
same f g = eqb f.mode g.mode && (eqb f.discharge g.discharge && (eqb f.pull_up g.pull_up && eqb f.choice g.choice))

undone : ℕ → Fields → Bool
undone command f =
    let p = pattern_at command in
    let code = code_by p f in
    not (within p f) || (eqb (command_of code) command && same (fields_by p code) f)

all_undone : below 13 (λ c. below 4 (λ m. below 2 (λ d. below 2 (λ p. below 8 (λ ch. undone c (fields m d p ch)))))) ≡ true
unfolding undone same pattern_at patterns within weighed code_by choice_in fields_by fits seek command_of pick
all_undone = refl

same_true : (f g : Fields) → same f g ≡ true → f ≡ g
unfolding same
same_true f g t =
    let m = eqb f.mode g.mode in
    let d = eqb f.discharge g.discharge in
    let p = eqb f.pull_up g.pull_up in
    let c = eqb f.choice g.choice in
    let t1 = and_right m (d && (p && c)) t in
    let t2 = and_right d (p && c) t1 in
    fields_ext f g
    (eqb-true f.mode g.mode (and_left m (d && (p && c)) t))
    (eqb-true f.discharge g.discharge (and_left d (p && c) t1))
    (eqb-true f.pull_up g.pull_up (and_left p c t2))
    (eqb-true f.choice g.choice (and_right p c t2))

-- the code of a command with fields in their ranges is that command's, and has those fields
module _ (command : ℕ) (f : Fields) (h : command < 13) (w : within (pattern_at command) f ≡ true) where
  abbrev made : ℕ
  made = code_by (pattern_at command) f

  tested : undone command f ≡ true
  tested =
      let b = bounds command h in
      let i = inside (pattern_at command) f w in
      each_below (λ ch. undone command (fields f.mode f.discharge f.pull_up ch)) 8
      (each_below (λ p. below 8 (λ ch. undone command (fields f.mode f.discharge p ch))) 2
      (each_below (λ d. below 2 (λ p. below 8 (λ ch. undone command (fields f.mode d p ch)))) 2
      (each_below (λ m. below 2 (λ d. below 2 (λ p. below 8 (λ ch. undone command (fields m d p ch))))) 4
      (each_below (λ c. below 4 (λ m. below 2 (λ d. below 2 (λ p. below 8 (λ ch. undone c (fields m d p ch)))))) 13 all_undone command h)
      f.mode i.mode)
      f.discharge (omega (arith, b.dcp, i.discharge)))
      f.pull_up (omega (arith, b.pup, i.pull_up)))
      f.choice (omega (arith, b.most, i.choice))

  both : (eqb (command_of made) command && same (fields_by (pattern_at command) made) f) ≡ true
  unfolding undone
  both = rw w at tested

  its_command : command_of made ≡ command
  its_command = eqb-true (command_of made) command (and_left (eqb (command_of made) command) (same (fields_by (pattern_at command) made) f) both)

  its_fields : fields_by (pattern_at command) made ≡ f
  its_fields = same_true (fields_by (pattern_at command) made) f (and_right (eqb (command_of made) command) (same (fields_by (pattern_at command) made) f) both)

  conversion_made : is_conversion made ≡ true
  unfolding is_conversion
  conversion_made = rw its_command (lt-ltb command 13 h)

-- what the number 0 tells of each
module _ (command mode discharge pull_up choice : ℕ) (r : Code) (B : Builds command mode discharge pull_up choice r) (z : r.number ≡ 0) where
  abbrev its : Fields
  its = fields mode discharge pull_up choice

  none : code_number command its ≡ 0
  none = sym B.number ∙ z

  listed : command < 13
  unfolding code_number
  listed = ltb-true command 13 (not-false (ltb command 13) (none_first (not (ltb command 13)) 8 _ none).0)

  ranged : within (pattern_at command) its ≡ true
  unfolding code_number
  ranged =
      let rest = (none_first (not (ltb command 13)) 8 _ none).1 in
      not-false (within (pattern_at command) its) (none_first (not (within (pattern_at command) its)) 8 _ rest).0

  its_code : r.code ≡ code_by (pattern_at command) its
  unfolding pick
  its_code = B.code ∙ rw z

apart_is : (code : ℕ) (s : Conversion) → TakesApart code s → s.number ≡ 0 → is_conversion code ≡ true
unfolding of_number
apart_is code s T z = not-false (is_conversion code) (none_first (not (is_conversion code)) 1 _ (sym T.number ∙ z)).0

-- BUILT AND TAKEN APART: the command and the fields again
pub built_apart : (command mode discharge pull_up choice : ℕ) (r : Code) → Builds command mode discharge pull_up choice r → r.number ≡ 0
    → (s : Conversion) → TakesApart r.code s → s ≡ conversion 0 command mode discharge pull_up choice
unfolding of_number fields_of first pick
built_apart command mode discharge pull_up choice r B z s T =
    let f = fields mode discharge pull_up choice in
    let h = listed command mode discharge pull_up choice r B z in
    let w = ranged command mode discharge pull_up choice r B z in
    let e = its_code command mode discharge pull_up choice r B z in
    let yes : is_conversion r.code ≡ true = ap is_conversion e ∙ conversion_made command f h w in
    let its : command_of r.code ≡ command = ap command_of e ∙ its_command command f h w in
    let read : fields_of r.code ≡ fields_by (pattern_at command) (code_by (pattern_at command) f) = rw (yes, its, e) in
    let parts : fields_of r.code ≡ f = read ∙ its_fields command f h w in
    conversion_ext s (conversion 0 command mode discharge pull_up choice)
    (T.number ∙ rw yes)
    (T.command ∙ rw (yes, its))
    (T.mode ∙ ap (λ (x : Fields). x.mode) parts)
    (T.discharge ∙ ap (λ (x : Fields). x.discharge) parts)
    (T.pull_up ∙ ap (λ (x : Fields). x.pull_up) parts)
    (T.choice ∙ ap (λ (x : Fields). x.choice) parts)

-- TAKEN APART AND BUILT: the code again
pub apart_built : (code : ℕ) (s : Conversion) → TakesApart code s → s.number ≡ 0
    → (r : Code) → Builds s.command s.mode s.discharge s.pull_up s.choice r → (r.number ≡ 0) × (r.code ≡ code)
unfolding fields_of code_number first pick
apart_built code s T z r B =
    let yes = apart_is code s T z in
    let o = own code yes in
    let p = pattern_at (command_of code) in
    let f = fields_by p code in
    let ec : s.command ≡ command_of code = T.command ∙ rw yes in
    let ef : fields s.mode s.discharge s.pull_up s.choice ≡ f =
    fields_ext (fields s.mode s.discharge s.pull_up s.choice) f
    (T.mode ∙ rw yes) (T.discharge ∙ rw yes) (T.pull_up ∙ rw yes) (T.choice ∙ rw yes) in
    let done : r.number ≡ 0 = B.number ∙ simp (ec, ef, lt-ltb (command_of code) 13 o.command, o.within) in
    (done, B.code ∙ simp (done, ec, ef) o.built)

-- EVERY CODE HAS ONE READING
abbrev apart : ℕ → Conversion
apart code =
    let f = fields_of code in
    conversion (of_number code) (pick (is_conversion code) (command_of code) 0) f.mode f.discharge f.pull_up f.choice

apart_apart : (code : ℕ) → TakesApart code (apart code)
apart_apart code = record { number = refl; command = refl; mode = refl; discharge = refl; pull_up = refl; choice = refl }

pub one_reading : (c m d p ch c' m' d' p' ch' : ℕ) (r r' : Code) → Builds c m d p ch r → Builds c' m' d' p' ch' r' → r.number ≡ 0 → r'.number ≡ 0
    → r.code ≡ r'.code → conversion 0 c m d p ch ≡ conversion 0 c' m' d' p' ch'
one_reading c m d p ch c' m' d' p' ch' r r' B B' z z' e =
    sym (built_apart c m d p ch r B z (apart r.code) (apart_apart r.code))
    ∙ ap apart e
    ∙ built_apart c' m' d' p' ch' r' B' z' (apart r'.code) (apart_apart r'.code)

-- THERE ARE 368 below 2048, and none above (`conversion_between`)
abbrev pub counted : ℕ → ℕ
counted zero = 0
counted (suc k) = pick (is_conversion k) 1 0 + counted k

pub how_many : counted 2048 ≡ 368
unfolding pattern_at patterns within weighed code_by choice_in fields_by fits seek command_of is_conversion pick
how_many = refl

-- THE FORMULAS of 02. ADCV: 0x260, plus 0x80 times the mode, plus 0x10 if discharge is permitted, plus the cell choice; ADAX: 0x460, plus 0x80 times the
-- mode, plus the input choice.
pub adcv : (mode discharge choice : ℕ) → mode < 4 → discharge < 2 → choice < 7 → (r : Code) → Builds 0 mode discharge 0 choice r
    → (r.number ≡ 0) × (r.code ≡ 0x260 + 0x80 * mode + 0x10 * discharge + choice)
unfolding code_number within code_by weighed pattern_at patterns first pick
adcv mode discharge choice hm hd hc r B =
    let done : r.number ≡ 0 = B.number ∙ simp (lt-ltb mode 4 hm, le-leb discharge 1 (omega arith), le-leb 0 choice (omega arith), le-leb choice 6 (omega arith)) in
    (done, B.code ∙ simp done (omega arith))

pub adax : (mode choice : ℕ) → mode < 4 → choice < 7 → (r : Code) → Builds 4 mode 0 0 choice r → (r.number ≡ 0) × (r.code ≡ 0x460 + 0x80 * mode + choice)
unfolding code_number within code_by weighed pattern_at patterns first pick
adax mode choice hm hc r B =
    let done : r.number ≡ 0 = B.number ∙ simp (lt-ltb mode 4 hm, le-leb 0 choice (omega arith), le-leb choice 6 (omega arith)) in
    (done, B.code ∙ simp done (omega arith))
