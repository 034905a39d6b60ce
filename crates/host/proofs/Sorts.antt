-- Marks by their sort: what a loop over them has passed, and that the three sorts make up marks none of which is above 2. Assumes nothing.
use mathlib.Core.Path.{◌≡◌, refl}
use mathlib.Core.Bool.{false}
use mathlib.Core.List.{List, [], ◌∷◌}
use Prim.Native.Nat.{ℕ, zero, suc, ◌+◌, ◌-◌, ◌<◌, ◌≤◌}
use native.Mathlib.Numerals.{add-one}
use native.Mathlib.Omega.{arith}
use borrow.Author.Tests.{eq-eqb, ne_eqb, ltb-false}
use lib.Dec.{eqb, ltb}
use lib.ListN.{length, drop, get_or, drop_of_length-le}
use lib.Seq.{drop-cons}
use Rattle.lent.specs.Refusal.{pick}
use Rattle.lent.proofs.Tests.{or_left, or_right}
use Rattle.host.specs.Marks.{any_above, count_of}

-- a loop over them: the next mark, and those after it
module _ (marks : List ℕ) (i sort : ℕ) where
  count_next : i < length marks → count_of sort (drop i marks) ≡ pick (eqb (get_or marks i 0) sort) 1 0 + count_of sort (drop (i + 1) marks)
  unfolding count_of
  count_next h = rw (add-one, drop-cons marks i 0)

  pub count_here : i < length marks → get_or marks i 0 ≡ sort → count_of sort (drop i marks) ≡ 1 + count_of sort (drop (i + 1) marks)
  unfolding pick
  count_here h e = rw (count_next h, eq-eqb (get_or marks i 0) sort e)

  pub count_later : i < length marks → (get_or marks i 0 ≡ sort → ⊥) → count_of sort (drop i marks) ≡ 0 + count_of sort (drop (i + 1) marks)
  unfolding pick
  count_later h e = rw (count_next h, ne_eqb (get_or marks i 0) sort e)

  pub count_none : length marks ≤ i → count_of sort (drop i marks) ≡ 0
  unfolding count_of
  count_none h = rw (drop_of_length-le marks {i = i} h)

-- a mark not above 2 is of one sort
one : (x : ℕ) → x ≤ 2 → pick (eqb x 0) 1 0 + pick (eqb x 1) 1 0 + pick (eqb x 2) 1 0 ≡ 1
unfolding pick
one zero h = refl
one (suc zero) h = refl
one (suc (suc zero)) h = refl
one (suc (suc (suc x))) h = absurd (omega arith)

pub sorts : (marks : List ℕ) → any_above marks ≡ false → count_of 0 marks + count_of 1 marks + count_of 2 marks ≡ length marks
unfolding any_above count_of
sorts [] h = refl
sorts (x ∷ xs) h =
    let here = one x (ltb-false 2 x (or_left (ltb 2 x) (any_above xs) h)) in
    let there = sorts xs (or_right (ltb 2 x) (any_above xs) h) in
    omega arith

pub rest : (marks : List ℕ) → any_above marks ≡ false → length marks - count_of 0 marks - count_of 1 marks ≡ count_of 2 marks
rest marks h = omega (arith, sorts marks h)
