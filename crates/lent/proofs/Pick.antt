-- Laws of `pick`, by its test. Assumes nothing.
use mathlib.Core.Path.{◌≡◌, refl, sym}
use mathlib.Core.Bool.{Bool, true, false, not}
use Rattle.lent.specs.Refusal.{pick}
use Rattle.lent.proofs.Tests.{clash}

pub pick_true {ℓ} : {A : Type ℓ} (b : Bool) (x y : A) → b ≡ true → pick b x y ≡ x
unfolding pick
pick_true true x y e = refl
pick_true false x y e = clash (sym e)

pub pick_false {ℓ} : {A : Type ℓ} (b : Bool) (x y : A) → b ≡ false → pick b x y ≡ y
unfolding pick
pick_false true x y e = clash e
pick_false false x y e = refl

pub pick_not {ℓ} : {A : Type ℓ} (b : Bool) (x y : A) → pick (not b) x y ≡ pick b y x
unfolding pick
pick_not true x y = refl
pick_not false x y = refl
