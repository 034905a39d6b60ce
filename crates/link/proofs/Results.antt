-- What is seen of a result fixes it: its number, and what it holds. Assumes nothing.
use mathlib.Core.Path.{◌≡◌, refl}
use Prim.Native.Nat.{ℕ}
use Rattle.std.specs.Prelude.{Result, Ok, Err}
use Rattle.std.specs.Result.{result_and, result_unwrap_or}
use Rattle.lent.specs.Number.{number_given, written}
use Rattle.lent.specs.declared.refusal.Refusal.{Refusal}
use Rattle.lent.proofs.Refusals.{given_of, refused}
use Rattle.chain.specs.Flat.{heard}

-- each result is fixed by what is seen of it
pub heard_fixes : (r : Result ℕ Refusal) → given_of (heard r).number (heard r).word ≡ r
unfolding heard given_of
heard_fixes (Ok word) = refl
heard_fixes (Err refusal) = refused refusal 0

pub number_fixes : (r : Result (Unit {0}) Refusal) → given_of (number_given r) (tt {0}) ≡ r
unfolding number_given given_of
number_fixes (Ok u) = refl
number_fixes (Err refusal) = refused refusal (tt {0})

-- a writer's number, and its length, as the code takes them out
pub written_number : (r : Result ℕ Refusal) → (written r).number ≡ number_given r
unfolding number_given written
written_number (Ok length) = refl
written_number (Err refusal) = refl

pub written_length : (r : Result ℕ Refusal) → result_unwrap_or r 0 ≡ (written r).length
unfolding written
written_length (Ok length) = refl
written_length (Err refusal) = refl

-- the writer's number, where its length is dropped
pub number_kept : (r : Result ℕ Refusal) → number_given (result_and r (Ok (tt {0}))) ≡ number_given r
unfolding number_given
number_kept (Ok length) = refl
number_kept (Err refusal) = refl
