-- Two results that a statement of this crate allows are equal. Assumes nothing.
use mathlib.Core.Path.{◌≡◌, refl, sym, ap, ap₂, ◌∙◌}
use mathlib.Core.List.{List}
use Prim.Native.Nat.{ℕ}
use Rattle.std.specs.Prelude.{Result, Ok, Err}
use Rattle.lent.specs.declared.Written.{Written}
use Rattle.lent.specs.declared.refusal.Refusal.{Refusal}
use Rattle.lent.proofs.Refusals.{given_of, refused}
use Rattle.wirelog.specs.Put.{Puts}
use Rattle.wirelog.specs.Found.{Answer, answered, FindsAt}
use Rattle.wirelog.specs.Flat.{LaysFlat}
use Rattle.wirelog.specs.Walk.{Walks}
use Rattle.wirelog.specs.declared.record.Found.{Found}
use Rattle.wirelog.specs.declared.flat.FlatRecord.{FlatRecord}
use Rattle.wirelog.specs.declared.walk.Walked.{Walked}

abbrev written : ℕ → ℕ → Written
written number length = record { number = number; length = length }

pub put_determined : (kind : ℕ) (body out : List ℕ) (r r' : Written) (after after' : List ℕ)
    → Puts kind body out r after → Puts kind body out r' after' → (r ≡ r') × (after ≡ after')
put_determined kind body out r r' after after' p p' = (
  ap₂ written (p.number ∙ sym p'.number) (p.long ∙ sym p'.long),
  p.output ∙ sym p'.output,
)

-- what the reader gave that says an answer
given : Answer → Result Found Refusal
given (Answer.Record kind body len next) = Ok (Found.Record kind body len next)
given (Answer.Unknown kind next) = Ok (Found.Unknown kind next)
given Answer.End = Ok Found.End
given (Answer.Refused n) = given_of n Found.End

given_answered : (r : Result Found Refusal) → given (answered r) ≡ r
unfolding given answered
given_answered (Ok (Found.Record kind body len next)) = refl
given_answered (Ok (Found.Unknown kind next)) = refl
given_answered (Ok Found.End) = refl
given_answered (Err refusal) = refused refusal Found.End

pub found_determined : (log : List ℕ) (place : ℕ) (r r' : Result Found Refusal) → FindsAt log place (answered r) → FindsAt log place (answered r') → r ≡ r'
found_determined log place r r' f f' = sym (given_answered r) ∙ ap given (f.found ∙ sym f'.found) ∙ given_answered r'

pub flat_determined : (log : List ℕ) (place : ℕ) (r r' : FlatRecord) → LaysFlat log place r → LaysFlat log place r' → r ≡ r'
flat_determined log place r r' f f' = f.laid ∙ sym f'.laid

pub walk_determined : (log : List ℕ) (r r' : Walked) → Walks log r → Walks log r' → r ≡ r'
walk_determined log r r' w w' = w.walked ∙ sym w'.walked
