-- The cases of `extremes_of` are what the words say, by what the outmost cell is; and what the next cell makes of them. Assumes nothing.
use mathlib.Core.Path.{◌≡◌, refl, ◌∙◌}
use mathlib.Core.Bool.{Bool, true, false, ◌||◌}
use mathlib.Core.Logic.{◌⊎◌, inl, inr, ⊎_elim}
use mathlib.Core.List.{List}
use Prim.Native.Nat.{ℕ, suc, ◌+◌, ◌-◌, ◌<◌}
use native.Mathlib.Numerals.{add-one}
use native.Mathlib.Omega.{arith}
use borrow.Author.Tests.{ne_eqb, eqb-true, eqb-false}
use lib.Dec.{eqb}
use lib.ListN.{get_or}
use Rattle.std.specs.Prelude.{Option, None, Some}
use Rattle.lent.specs.Refusal.{pick}
use Rattle.cells.specs.Extremes.{is_set, count_of_cell, further, takes, outmost, extremes_among, extremes_of, widened, IsOutmost}
use Rattle.cells.specs.declared.extremes.Range.{Range}
use Rattle.cells.proofs.Outmost.{none_valid, none_given, is_outmost}

module _ (counts : List ℕ) (valid : ℕ) where
  -- where there is a lowest cell there is a highest
  some_highest : (n : ℕ) → (outmost false n counts valid ≡ 0 → ⊥) → outmost true n counts valid ≡ 0 → ⊥
  some_highest n some z = some (none_given false counts valid n (none_valid true counts valid n z))

  abbrev lowest : ℕ
  lowest = outmost false 18 counts valid

  abbrev highest : ℕ
  highest = outmost true 18 counts valid

  -- the range of two cells
  abbrev span : ℕ → ℕ → Range
  span low high = record { low_cell = low; low = count_of_cell counts low; high_cell = high; high = count_of_cell counts high }

  cases : ((extremes_of counts valid ≡ None) × (lowest ≡ 0)) ⊎ ((extremes_of counts valid ≡ Some (span lowest highest)) × (lowest ≡ 0 → ⊥))
  unfolding extremes_of extremes_among pick
  cases = by_test (eqb lowest 0) refl
    where
      by_test : (b : Bool) → eqb lowest 0 ≡ b
          → ((pick b None (Some (span lowest highest)) ≡ None) × (lowest ≡ 0)) ⊎ ((pick b None (Some (span lowest highest)) ≡ Some (span lowest highest)) × (lowest ≡ 0 → ⊥))
      by_test true e = inl (refl, eqb-true lowest 0 e)
      by_test false e = inr (refl, eqb-false lowest 0 e)

  -- None exactly where no cell is valid.
  pub none_cells : extremes_of counts valid ≡ None → (c : ℕ) → c < 18 → is_set valid c ≡ false
  none_cells e = ⊎_elim (λ n. none_valid false counts valid 18 n.1) (λ s. cc) cases

  pub cells_none : ((c : ℕ) → c < 18 → is_set valid c ≡ false) → extremes_of counts valid ≡ None
  unfolding extremes_of extremes_among pick
  cells_none h = rw (none_given false counts valid 18 h)

  -- A range: the lowest and the highest.
  pub between : (r : Range) → extremes_of counts valid ≡ Some r → IsOutmost false 18 counts valid r.low_cell r.low × IsOutmost true 18 counts valid r.high_cell r.high
  between r e = ⊎_elim (λ n. cc) both_ends cases
    where
      both_ends : (extremes_of counts valid ≡ Some (span lowest highest)) × (lowest ≡ 0 → ⊥)
          → IsOutmost false 18 counts valid r.low_cell r.low × IsOutmost true 18 counts valid r.high_cell r.high
      both_ends s =
          let same : r ≡ span lowest highest = cc in
          rw same (is_outmost false counts valid 18 s.1, is_outmost true counts valid 18 (some_highest 18 s.1))

  -- One turn of the loop, at the cell of the index n.
  module _ (n : ℕ) where
    count_next : (b : Bool) (k : ℕ) → count_of_cell counts (pick b (suc n) k) ≡ pick b (get_or counts n 0) (count_of_cell counts k)
    unfolding count_of_cell pick
    count_next true k = let last : suc n - 1 ≡ n = omega arith in rw last
    count_next false k = refl

    some_next : (b : Bool) (k : ℕ) → (k ≡ 0 → ⊥) → eqb (pick b (suc n) k) 0 ≡ false
    unfolding pick
    some_next true k some = ne_eqb (suc n) 0 (λ e. omega arith)
    some_next false k some = ne_eqb k 0 some

    module _ (s : is_set valid n ≡ true) where
      next : (up : Bool) → outmost up (suc n) counts valid ≡ pick (eqb (outmost up n counts valid) 0 || further up (get_or counts n 0) (count_of_cell counts (outmost up n counts valid))) (suc n) (outmost up n counts valid)
      unfolding outmost takes
      next up = rw s

      -- the first valid cell is both ends
      first_next : (up : Bool) → outmost up n counts valid ≡ 0 → outmost up (suc n) counts valid ≡ suc n
      unfolding pick
      first_next up z = next up ∙ rw z

      -- a later one is where it lies further out
      later_next : (up : Bool) → (outmost up n counts valid ≡ 0 → ⊥)
          → outmost up (suc n) counts valid ≡ pick (further up (get_or counts n 0) (count_of_cell counts (outmost up n counts valid))) (suc n) (outmost up n counts valid)
      later_next up some = next up ∙ rw (ne_eqb _ _ some)

      pub taken_in : (r : Option Range) → r ≡ extremes_among n counts valid → Some (widened r (n + 1) (get_or counts n 0)) ≡ extremes_among (n + 1) counts valid
      unfolding extremes_among widened further pick
      taken_in r e = rw add-one (by_test (eqb (outmost false n counts valid) 0) refl)
        where
          by_test : (b : Bool) → eqb (outmost false n counts valid) 0 ≡ b → Some (widened r (suc n) (get_or counts n 0)) ≡ extremes_among (suc n) counts valid
          by_test true t =
              let low = eqb-true (outmost false n counts valid) 0 t in
              let high = none_given true counts valid n (none_valid false counts valid n low) in
              let none : r ≡ None = rw t at e in
              let last : count_of_cell counts (suc n) ≡ get_or counts n 0 = count_next true 0 in
              let here : eqb (suc n) 0 ≡ false = ne_eqb (suc n) 0 (λ e. omega arith) in
              rw (none, first_next false low, first_next true high, here, last)
          by_test false t =
              let low : ℕ = outmost false n counts valid in
              let high : ℕ = outmost true n counts valid in
              let x : ℕ = get_or counts n 0 in
              let least = eqb-false low 0 t in
              let some : r ≡ Some (span low high) = rw t at e in
              rw (
                some,
                later_next false least,
                later_next true (some_highest n least),
                some_next _ _ least,
                count_next (further false x (count_of_cell counts low)) low,
                count_next (further true x (count_of_cell counts high)) high,
              )

    pub passed_by : (r : Option Range) → r ≡ extremes_among n counts valid → is_set valid n ≡ false → r ≡ extremes_among (n + 1) counts valid
    unfolding outmost takes extremes_among pick
    passed_by r e s = rw (add-one, s) e
