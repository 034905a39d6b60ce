-- What tests tell: an "and" and an "or" their halves; and a test computed once over all numbers below n, that it holds at each of them. Assumes nothing.
use mathlib.Core.Path.{◌≡◌, refl, sym, ap, ◌∙◌, subst}
use mathlib.Core.Bool.{Bool, true, false, ◌&&◌, ◌||◌}
use mathlib.Core.Logic.{◌⊎◌, inl, inr, ⊎_elim}
use Prim.Native.Nat.{ℕ, zero, suc, ◌<◌, ◌≤◌}
use native.Mathlib.Nat.{le_of_suc-le-suc, not-suc-le-zero, eq-or-lt_of_le}
use borrow.Author.Tests.{ltb-true, ltb-false}
use lib.Dec.{T, ltb}

-- true is not false
pub clash {ℓ} : {A : Type ℓ} → true ≡ false → A
clash e = absurd (subst T e tt)

-- the halves of an "and" that holds, and of an "or" that does not
pub and_left : (a b : Bool) → (a && b) ≡ true → a ≡ true
and_left true b e = refl
and_left false b e = e

pub and_right : (a b : Bool) → (a && b) ≡ true → b ≡ true
and_right true b e = e
and_right false b e = clash (sym e)

pub or_left : (a b : Bool) → (a || b) ≡ false → a ≡ false
or_left true b e = e
or_left false b e = refl

pub or_right : (a b : Bool) → (a || b) ≡ false → b ≡ false
or_right true b e = clash e
or_right false b e = e

-- below, or not
pub lt_or_le : (a b : ℕ) → (a < b) ⊎ (b ≤ a)
lt_or_le a b = by_test (ltb a b) refl
  where
    by_test : (t : Bool) → ltb a b ≡ t → (a < b) ⊎ (b ≤ a)
    by_test true e = inl (ltb-true a b e)
    by_test false e = inr (ltb-false a b e)

-- the test f passes at each number below n
abbrev pub below : ℕ → (ℕ → Bool) → Bool
below zero f = true
below (suc n) f = f n && below n f

pub each_below : (f : ℕ → Bool) (n : ℕ) → below n f ≡ true → (k : ℕ) → k < n → f k ≡ true
each_below f zero t k h = absurd (not-suc-le-zero h)
each_below f (suc n) t k h =
    ⊎_elim (λ e. ap f e ∙ and_left (f n) (below n f) t) (λ l. each_below f n (and_right (f n) (below n f) t) k l) (eq-or-lt_of_le (le_of_suc-le-suc h))
