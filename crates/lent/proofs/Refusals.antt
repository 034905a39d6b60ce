-- A refusal's number fixes it: no two refusals have the same one. Assumes nothing.
use mathlib.Core.Path.{◌≡◌, refl}
use mathlib.Core.List.{List, [], ◌∷◌}
use Prim.Native.Nat.{ℕ, zero, suc}
use lib.ListN.{get_or}
use Rattle.std.specs.Prelude.{Result, Ok, Err}
use Rattle.lent.specs.Number.{number}
use Rattle.lent.specs.declared.refusal.Refusal.{Refusal}

-- the refusals, by their numbers from 1 on
unfoldable pub refusals : List Refusal
refusals =
    Refusal.ChainSize ∷ Refusal.UnknownCommand ∷ Refusal.WrongLength ∷ Refusal.WrongPec ∷ Refusal.ShortOutput ∷ Refusal.WrongFrame ∷ Refusal.NoRead ∷ Refusal.TallyFull
    ∷ Refusal.FieldRange ∷ Refusal.BrokenRecord ∷ Refusal.BodyLimits ∷ []

-- the result of a number, and of what it holds where the number is 0
unfoldable pub given_of : {A : Type 0} → ℕ → A → Result A Refusal
given_of zero a = Ok a
given_of (suc k) a = Err (get_or refusals k Refusal.ChainSize)

pub refused : {A : Type 0} (refusal : Refusal) (a : A) → given_of (number refusal) a ≡ Err refusal
unfolding number given_of refusals
refused Refusal.ChainSize a = refl
refused Refusal.UnknownCommand a = refl
refused Refusal.WrongLength a = refl
refused Refusal.WrongPec a = refl
refused Refusal.ShortOutput a = refl
refused Refusal.WrongFrame a = refl
refused Refusal.NoRead a = refl
refused Refusal.TallyFull a = refl
refused Refusal.FieldRange a = refl
refused Refusal.BrokenRecord a = refl
refused Refusal.BodyLimits a = refl
