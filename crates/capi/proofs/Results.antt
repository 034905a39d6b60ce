-- What C has of a result fixes the result: so where two that a statement allows look alike to C, they are one. Assumes nothing.
use mathlib.Core.Path.{◌≡◌, refl, sym, ap, ◌∙◌}
use Prim.Native.Nat.{ℕ}
use Rattle.std.specs.Prelude.{Result, Ok, Err}
use Rattle.lent.specs.Number.{number_given, written}
use Rattle.lent.specs.declared.refusal.Refusal.{Refusal}
use Rattle.lent.proofs.Refusals.{given_of, refused}
use Rattle.conversions.specs.Flat.{coded, taken}
use Rattle.conversions.specs.declared.Conversion.{Conversion}
use Rattle.conversions.specs.declared.Parts.{Parts}
use Rattle.chain.specs.Flat.{heard}
use Rattle.cells.specs.Flat.{readings}
use Rattle.cells.specs.declared.Cells.{Cells}
use Rattle.cells.specs.declared.Readings.{Readings}
use Rattle.tally.specs.Tally.{added}
use Rattle.tally.specs.declared.Tally.{Tally}
use Rattle.wake.specs.Flat.{woken}

-- a result that can be made again of what is shown of it
one : {A B : Type 0} (show : Result A Refusal → B) (back : B → Result A Refusal) → ((r : Result A Refusal) → back (show r) ≡ r)
    → (r r' : Result A Refusal) → show r ≡ show r' → r ≡ r'
one show back again r r' e = sym (again r) ∙ ap back e ∙ again r'

pub number_fixes : (r r' : Result (Unit {0}) Refusal) → number_given r ≡ number_given r' → r ≡ r'
unfolding number_given given_of
number_fixes = one number_given (λ n. given_of n (tt {0})) again
  where
    again : (r : Result (Unit {0}) Refusal) → given_of (number_given r) (tt {0}) ≡ r
    again (Ok u) = refl
    again (Err refusal) = refused refusal (tt {0})

pub written_fixes : (r r' : Result ℕ Refusal) → written r ≡ written r' → r ≡ r'
unfolding written given_of
written_fixes = one written (λ w. given_of w.number w.length) again
  where
    again : (r : Result ℕ Refusal) → given_of (written r).number (written r).length ≡ r
    again (Ok length) = refl
    again (Err refusal) = refused refusal 0

pub coded_fixes : (r r' : Result ℕ Refusal) → coded r ≡ coded r' → r ≡ r'
unfolding coded given_of
coded_fixes = one coded (λ c. given_of c.number c.code) again
  where
    again : (r : Result ℕ Refusal) → given_of (coded r).number (coded r).code ≡ r
    again (Ok code) = refl
    again (Err refusal) = refused refusal 0

pub taken_fixes : (r r' : Result Parts Refusal) → taken r ≡ taken r' → r ≡ r'
unfolding taken given_of
taken_fixes = one taken back again
  where
    back : Conversion → Result Parts Refusal
    back c =
        given_of c.number (record {
          command = c.command;
          fields = record { mode = c.mode; discharge = c.discharge; pull_up = c.pull_up; choice = c.choice };
        })

    again : (r : Result Parts Refusal) → back (taken r) ≡ r
    again (Ok parts) = refl
    again (Err refusal) = refused refusal _

pub heard_fixes : (r r' : Result ℕ Refusal) → heard r ≡ heard r' → r ≡ r'
unfolding heard given_of
heard_fixes = one heard (λ h. given_of h.number h.word) again
  where
    again : (r : Result ℕ Refusal) → given_of (heard r).number (heard r).word ≡ r
    again (Ok word) = refl
    again (Err refusal) = refused refusal 0

pub readings_fix : (r r' : Result Cells Refusal) → readings r ≡ readings r' → r ≡ r'
unfolding readings given_of
readings_fix = one readings back again
  where
    back : Readings → Result Cells Refusal
    back c = given_of c.number (record { counts = c.counts; valid = c.valid; unmeasured = c.unmeasured })

    again : (r : Result Cells Refusal) → back (readings r) ≡ r
    again (Ok cells) = refl
    again (Err refusal) = refused refusal _

pub added_fixes : (t : Tally) (r r' : Result Tally Refusal) → added t r ≡ added t r' → r ≡ r'
unfolding added given_of
added_fixes t = one (added t) (λ a. given_of a.number a.tally) again
  where
    again : (r : Result Tally Refusal) → given_of (added t r).number (added t r).tally ≡ r
    again (Ok sum) = refl
    again (Err refusal) = refused refusal t

pub woken_fixes : (r r' : Result ℕ Refusal) → woken r ≡ woken r' → r ≡ r'
unfolding woken given_of
woken_fixes = one woken (λ w. given_of w.number w.wait) again
  where
    again : (r : Result ℕ Refusal) → given_of (woken r).number (woken r).wait ≡ r
    again (Ok wait) = refl
    again (Err refusal) = refused refusal 0
