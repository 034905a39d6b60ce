-- The search of the code: by columns through the table, and past it by what taking the code apart says. Assumes nothing.
use mathlib.Core.Path.{◌≡◌, refl, sym, ap, ◌∙◌}
use mathlib.Core.Bool.{Bool, true, false, cond, not}
use mathlib.Core.List.{List, [], ◌∷◌}
use Prim.Native.Nat.{ℕ, suc, ◌+◌}
use native.Mathlib.Omega.{arith}
use borrow.Author.Tests.{ltb-true, ltb-false}
use lib.Dec.{eqb, ltb}
use lib.ListN.{length, get_or, get_or-map}
use Rattle.std.specs.Prelude.{map, Option, Some, None, MatchOption, Result, Ok, Err}
use Rattle.std.specs.Result.{result_ok}
use Rattle.std.specs.List.{position_or_len}
use Rattle.std.proofs.lemmas.List.{get_or_default, get_or_past}
use Rattle.lent.specs.Number.{number}
use Rattle.lent.specs.Refusal.{pick, first}
use Rattle.lent.specs.declared.refusal.Refusal.{Refusal}
use Rattle.conversions.specs.declared.Parts.{Parts}
use Rattle.conversions.specs.Conversions.{is_conversion, of_number}
use Rattle.conversions.specs.Flat.{taken}
use Rattle.frames.specs.declared.commands.Kind.{Kind}
use Rattle.frames.specs.declared.commands.TheConstants.{CODES, KINDS, GROUPS}
use Rattle.frames.specs.Answers.{kind_number}
use Rattle.frames.specs.Columns.{code_column, kind_column, group_column}
use Rattle.frames.specs.Commands.{Row, row, rows, unlisted, found}

-- THE CODE HOLDS THE TABLE, column by column
pub codes_held : CODES ≡ code_column
unfolding code_column rows
codes_held = refl

pub kinds_held : map kind_number KINDS ≡ kind_column
unfolding kind_column kind_number rows
kinds_held = refl

pub groups_held : GROUPS ≡ group_column
unfolding group_column rows
groups_held = refl

-- the first row that has a code, by place; the length where none has
abbrev pub place : ℕ → List Row → ℕ
place code rs = position_or_len (λ c. eqb c code) (map (λ (r : Row). r.code) rs)

-- what is found is the row at that place
next_place : (b : Bool) (r found_behind d : Row) (rs : List Row) (i : ℕ) → found_behind ≡ get_or rs i d
    → pick b r found_behind ≡ get_or (r ∷ rs) (cond (not b) (1 + i) 0) d
unfolding pick
next_place true r found_behind d rs i e = refl
next_place false r found_behind d rs i e = e ∙ ap (λ (j : ℕ). get_or (r ∷ rs) j d) {x = suc i} {y = 1 + i} (omega arith)

found_there : (code : ℕ) (d : Row) (rs : List Row) → unlisted code ≡ d → found code rs ≡ get_or rs (place code rs) d
unfolding found
found_there code d [] e = e
found_there code d (r ∷ rs) e = next_place (eqb r.code code) r (found code rs) d rs (place code rs) (found_there code d rs e)

-- what the search gives
pub sought : (code : ℕ) (given : Option ℕ) → given ≡ cond (ltb (place code rows) (length rows)) (Some (place code rows)) None
    → MatchOption given (found code rows ≡ unlisted code) (λ i. (d : Row) → found code rows ≡ get_or rows i d)
sought code given e = rw e (by_test (ltb (place code rows) (length rows)) refl)
  where
    by_test : (b : Bool) → ltb (place code rows) (length rows) ≡ b
        → MatchOption (cond b (Some (place code rows)) None) (found code rows ≡ unlisted code) (λ i. (d : Row) → found code rows ≡ get_or rows i d)
    by_test true l = λ d. found_there code (unlisted code) rows refl ∙ get_or_default rows (place code rows) (unlisted code) d (ltb-true (place code rows) (length rows) l)
    by_test false l = found_there code (unlisted code) rows refl ∙ get_or_past rows (place code rows) (unlisted code) (ltb-false (place code rows) (length rows) l)

-- the columns at the place of a row
pub kind_at : (i : ℕ) → kind_number (get_or KINDS i Kind.Write) ≡ (get_or rows i (row 0 1 0)).kind
unfolding kind_column kind_number
kind_at i =
    sym (get_or-map kind_number KINDS i Kind.Write) ∙ ap (λ (t : List ℕ). get_or t i 1) kinds_held ∙ get_or-map (λ (r : Row). r.kind) rows i (row 0 1 0)

pub group_at : (i : ℕ) → get_or GROUPS i 0 ≡ (get_or rows i (row 0 0 0)).group
unfolding group_column
group_at i = ap (λ (t : List ℕ). get_or t i 0) groups_held ∙ get_or-map (λ (r : Row). r.group) rows i (row 0 0 0)

-- no refusal has the number 0
pub is_refused : (refusal : Refusal) → number refusal ≡ 0 → ⊥
unfolding number
is_refused Refusal.ChainSize e = omega arith
is_refused Refusal.UnknownCommand e = omega arith
is_refused Refusal.WrongLength e = omega arith
is_refused Refusal.WrongPec e = omega arith
is_refused Refusal.ShortOutput e = omega arith
is_refused Refusal.WrongFrame e = omega arith
is_refused Refusal.NoRead e = omega arith
is_refused Refusal.TallyFull e = omega arith
is_refused Refusal.FieldRange e = omega arith
is_refused Refusal.BrokenRecord e = omega arith
is_refused Refusal.BodyLimits e = omega arith

-- past the table, by what taking the code apart gives
asked_by : (b : Bool) (code : ℕ) (given : Result Parts Refusal) → (taken given).number ≡ first ((not b, 2) ∷ [])
    → MatchOption (result_ok given) (row code (pick b 4 0) 0 ≡ row code 0 0) (λ _. row code (pick b 4 0) 0 ≡ row code 4 0)
unfolding taken first pick
asked_by true code (Ok parts) e = refl
asked_by true code (Err refusal) e = absurd (is_refused refusal e)
asked_by false code (Ok parts) e = absurd (omega arith)
asked_by false code (Err refusal) e = refl

pub asked : (code : ℕ) (given : Result Parts Refusal) → (taken given).number ≡ of_number code
    → MatchOption (result_ok given) (unlisted code ≡ row code 0 0) (λ _. unlisted code ≡ row code 4 0)
unfolding of_number unlisted
asked code given e = asked_by (is_conversion code) code given e
