-- The outmost valid cell is what its name says, by induction over the cells. Assumes nothing.
use mathlib.Core.Path.{◌≡◌, refl, sym, ◌∙◌}
use mathlib.Core.Bool.{Bool, true, false, ◌&&◌, ◌||◌}
use mathlib.Core.Logic.{◌⊎◌, inl, inr, ⊎_elim}
use mathlib.Core.List.{List}
use Prim.Native.Nat.{ℕ, zero, suc, ◌-◌, ◌<◌, ◌≤◌}
use native.Mathlib.Nat.{not-suc-le-zero}
use native.Mathlib.Omega.{arith}
use borrow.Author.Count.{below_more}
use borrow.Author.Tests.{ltb-true, ltb-false, le-ltb, eq-eqb, ne_eqb}
use lib.Dec.{eqb}
use lib.ListN.{get_or}
use Rattle.lent.specs.Refusal.{pick}
use Rattle.lent.proofs.Tests.{clash}
use Rattle.cells.specs.Extremes.{is_set, count_of_cell, further, takes, outmost, IsOutmost}

-- further out is an order: nothing lies further out than itself, and what does not lie past y does not lie past an x beyond y
further_self : (up : Bool) (x : ℕ) → further up x x ≡ false
unfolding further pick
further_self true x = le-ltb x x (omega arith)
further_self false x = le-ltb x x (omega arith)

further_past : (up : Bool) (x y z : ℕ) → further up x y ≡ true → further up z y ≡ false → further up z x ≡ false
unfolding further pick
further_past true x y z f g = le-ltb x z (omega (arith, ltb-true y x f, ltb-false y z g))
further_past false x y z f g = le-ltb z x (omega (arith, ltb-true x y f, ltb-false z y g))

-- what it says in numbers
pub not_below : (x y : ℕ) → further false x y ≡ false → y ≤ x
unfolding further pick
not_below x y f = ltb-false x y f

pub not_above : (x y : ℕ) → further true x y ≡ false → x ≤ y
unfolding further pick
not_above x y f = ltb-false y x f

module _ (up : Bool) (counts : List ℕ) (valid : ℕ) where
  -- of the first n cells: none is valid, or number k is the outmost
  abbrev NoneValid : ℕ → Type 0
  NoneValid n = (c : ℕ) → c < n → is_set valid c ≡ false

  abbrev Found : ℕ → ℕ → Type 0
  Found n k = ((k ≡ 0) × NoneValid n) ⊎ IsOutmost up n counts valid k (count_of_cell counts k)

  module _ (n : ℕ) where
    -- the outmost so far stays where the next cell is not valid or does not lie further out
    stays : (k : ℕ) → IsOutmost up n counts valid k (count_of_cell counts k)
        → (is_set valid n ≡ true → further up (get_or counts n 0) (count_of_cell counts k) ≡ false)
        → IsOutmost up (suc n) counts valid k (count_of_cell counts k)
    stays k f t =
        record {
          from_one = f.from_one;
          among = omega arith;
          is_valid = f.is_valid;
          count = refl;
          none_further = λ c h. below_more (λ (c : ℕ). is_set valid c ≡ true → further up (get_or counts c 0) (count_of_cell counts k) ≡ false) n f.none_further t c (omega arith);
          none_before = f.none_before;
        }

    -- the next cell takes its place where each valid cell before it neither lies further out nor has the same count
    comes : is_set valid n ≡ true
        → ((c : ℕ) → c < n → is_set valid c ≡ true → (further up (get_or counts c 0) (get_or counts n 0) ≡ false) × (get_or counts c 0 ≡ get_or counts n 0 → ⊥))
        → IsOutmost up (suc n) counts valid (suc n) (count_of_cell counts (suc n))
    unfolding count_of_cell
    comes s f =
        let last : suc n - 1 ≡ n = omega arith in
        record {
          from_one = omega arith;
          among = omega arith;
          is_valid = rw last s;
          count = refl;
          none_further = λ c h. rw last (below_more (λ (c : ℕ). is_set valid c ≡ true → further up (get_or counts c 0) (get_or counts n 0) ≡ false) n (λ c h t. (f c h t).0) (λ t. further_self up (get_or counts n 0)) c (omega arith));
          none_before = λ c h t e. (f c (omega arith) t).1 (rw last at e);
        }

    next : (k : ℕ) → Found n k → Found (suc n) (pick (takes up counts valid k n) (suc n) k)
    unfolding takes pick
    next k f = by_tests (is_set valid n) refl (further up (get_or counts n 0) (count_of_cell counts k)) refl f
      where
        by_tests : (s : Bool) → is_set valid n ≡ s → (t : Bool) → further up (get_or counts n 0) (count_of_cell counts k) ≡ t → Found n k
            → Found (suc n) (pick (s && (eqb k 0 || t)) (suc n) k)
        by_tests false s t e (inl f) = inl (f.0, λ c h. below_more (λ (c : ℕ). is_set valid c ≡ false) n f.1 s c (omega arith))
        by_tests false s t e (inr f) = inr (stays k f (λ v. clash (sym v ∙ s)))
        by_tests true s t e (inl f) = rw (eq-eqb k 0 f.0) (inr (comes s (λ c h v. clash (sym v ∙ f.1 c h))))
        by_tests true s true e (inr f) =
            rw (ne_eqb k 0 (λ z. omega (arith, f.from_one)))
            (inr (comes s (λ c h v. (further_past up (get_or counts n 0) (count_of_cell counts k) (get_or counts c 0) e (f.none_further c h v), λ q. clash (sym e ∙ rw q at (f.none_further c h v))))))
        by_tests true s false e (inr f) = rw (ne_eqb k 0 (λ z. omega (arith, f.from_one))) (inr (stays k f (λ v. e)))

  pub found : (n : ℕ) → Found n (outmost up n counts valid)
  unfolding outmost
  found zero = inl (refl, λ c h. absurd (not-suc-le-zero h))
  found (suc n) = next n (outmost up n counts valid) (found n)

  -- number 0 is given exactly where no cell is valid, and any other is the outmost
  pub none_valid : (n : ℕ) → outmost up n counts valid ≡ 0 → NoneValid n
  none_valid n z = ⊎_elim (λ f. f.1) (λ f. absurd (omega (arith, f.from_one))) (found n)

  pub none_given : (n : ℕ) → NoneValid n → outmost up n counts valid ≡ 0
  none_given n h =
      ⊎_elim (λ f. f.0) (λ f. clash (sym f.is_valid ∙ h (outmost up n counts valid - 1) (omega (arith, f.from_one, f.among)))) (found n)

  pub is_outmost : (n : ℕ) → (outmost up n counts valid ≡ 0 → ⊥) → IsOutmost up n counts valid (outmost up n counts valid) (count_of_cell counts (outmost up n counts valid))
  is_outmost n h = ⊎_elim (λ f. absurd (h f.0)) (λ f. f) (found n)
