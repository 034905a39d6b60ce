-- A conversion that is taken apart is one of the thirteen commands, each with a name. Assumes nothing.
use mathlib.Core.Path.{◌≡◌, refl}
use mathlib.Core.Bool.{Bool, true, false}
use Prim.Native.Nat.{ℕ, ◌<◌}
use native.Mathlib.Omega.{arith}
use borrow.Author.Tests.{ltb-true}
use Rattle.std.specs.Prelude.{Ok}
use Rattle.lent.specs.Refusal.{pick}
use Rattle.conversions.specs.declared.Parts.{Parts}
use Rattle.conversions.specs.Conversions.{command_of, is_conversion, TakesApart}
use Rattle.conversions.specs.Flat.{taken}

chosen : (code : ℕ) (test : Bool) → is_conversion code ≡ test → pick test (command_of code) 0 < 13
unfolding is_conversion pick
chosen code true t = ltb-true (command_of code) 13 t
chosen code false t = omega arith

pub named : (code : ℕ) (parts : Parts) → TakesApart code (taken (Ok parts)) → parts.command < 13
unfolding taken
named code parts t = rw t.command (chosen code (is_conversion code) refl)
