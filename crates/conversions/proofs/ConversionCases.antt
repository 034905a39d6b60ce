-- What `conversion_code` and `conversion_of` promise, case by case of the code's tests. Assumes nothing.
use mathlib.Core.Path.{◌≡◌, refl}
use mathlib.Core.Bool.{Bool, true, false}
use Rattle.std.specs.Prelude.{Option, None, Some, Result, Ok, Err, ok_or}
use Prim.Native.Nat.{ℕ, ◌<◌, ◌≤◌}
use borrow.Author.Tests.{ltb-true, ltb-false, lt-ltb, le-ltb}
use Rattle.lent.specs.declared.refusal.Refusal.{Refusal}
use Rattle.lent.specs.Refusal.{pick, first}
use Rattle.conversions.specs.Conversions.{pattern_at, fields, within, code_by, fields_by, command_of, is_conversion, found, code_number, of_number, fields_of, Builds, TakesApart}
use Rattle.conversions.specs.declared.Fields.{Fields}

module _ (command mode discharge pull_up choice : ℕ) where
  pub no_command : 13 ≤ command → Builds command mode discharge pull_up choice (record { number = 9; code = 0 })
  unfolding code_number first pick
  no_command h = record { number = simp (le-ltb command 13 h); code = refl }

  module _ (h : command < 13) where
    pub no_field : within (pattern_at command) (fields mode discharge pull_up choice) ≡ false → Builds command mode discharge pull_up choice (record { number = 9; code = 0 })
    unfolding code_number first pick
    no_field w = record { number = simp (lt-ltb command 13 h, w); code = refl }

    pub built : (code : ℕ) → within (pattern_at command) (fields mode discharge pull_up choice) ≡ true → code ≡ code_by (pattern_at command) (fields mode discharge pull_up choice)
        → Builds command mode discharge pull_up choice (record { number = 0; code = code })
    unfolding code_number first pick
    built code w e = record { number = simp (lt-ltb command 13 h, w); code = e }

module _ (code : ℕ) where
  pub no_conversion : 13 ≤ command_of code → TakesApart code (record { number = 2; command = 0; mode = 0; discharge = 0; pull_up = 0; choice = 0 })
  unfolding of_number fields_of is_conversion first pick
  no_conversion h =
      let t = le-ltb (command_of code) 13 h in
      record { number = simp t; command = simp t; mode = simp t; discharge = simp t; pull_up = simp t; choice = simp t }

  pub taken_apart : (command : ℕ) (f : Fields) → command ≡ command_of code → command < 13 → f ≡ fields_by (pattern_at command) code
      → TakesApart code (record { number = 0; command = command; mode = f.mode; discharge = f.discharge; pull_up = f.pull_up; choice = f.choice })
  unfolding of_number fields_of is_conversion first pick
  taken_apart command f e h g =
      let t = lt-ltb command 13 h in
      record { number = simp (← e, t); command = simp (← e, t); mode = simp (← e, t, g); discharge = simp (← e, t, g); pull_up = simp (← e, t, g); choice = simp (← e, t, g) }

  -- what a search gives, and what it tells that found a command
  pub given : (command : ℕ) → command_of code ≡ command → command < 13 → Some command ≡ found code
  unfolding found is_conversion pick
  given command e h = simp (e, lt-ltb command 13 h)

  pub none_given : 13 ≤ command_of code → None ≡ found code
  unfolding found is_conversion pick
  none_given h = simp (le-ltb (command_of code) 13 h)

  module _ (o : Option ℕ) (r : Result ℕ Refusal) (refusal : Refusal) (is : o ≡ found code) (made : r ≡ ok_or o refusal) where
    pub found_one : (command : ℕ) → r ≡ Ok command → (command ≡ command_of code) × (command < 13)
    unfolding found is_conversion pick
    found_one command h = by_test (is_conversion code) refl (rw (← is, ← made) h)
      where
        by_test : (t : Bool) → is_conversion code ≡ t → ok_or (pick t (Some (command_of code)) None) refusal ≡ Ok command → (command ≡ command_of code) × (command < 13)
        by_test true t h = let its : command ≡ command_of code = cc in (its, rw its (ltb-true (command_of code) 13 t))
        by_test false t h = cc

    pub found_none : (e : Refusal) → r ≡ Err e → (e ≡ refusal) × (13 ≤ command_of code)
    unfolding found is_conversion pick
    found_none e h = by_test (is_conversion code) refl (rw (← is, ← made) h)
      where
        by_test : (t : Bool) → is_conversion code ≡ t → ok_or (pick t (Some (command_of code)) None) refusal ≡ Err e → (e ≡ refusal) × (13 ≤ command_of code)
        by_test true t h = cc
        by_test false t h = (cc, ltb-false (command_of code) 13 t)
