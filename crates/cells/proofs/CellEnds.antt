-- The lowest and the highest cell of a reading are cells that were read and measured; where there is none, none is given (02, K2). Assumes nothing.
use mathlib.Core.Path.{◌≡◌, refl, sym, ap, ◌∙◌}
use mathlib.Core.Bool.{Bool, true, false, not}
use mathlib.Core.List.{List}
use Prim.Native.Nat.{ℕ, ◌-◌, ◌<◌}
use native.Mathlib.Omega.{arith}
use borrow.Author.Tests.{eqb-false, not-true}
use lib.Dec.{eqb}
use Rattle.std.specs.Prelude.{Option, None, Some}
use Rattle.lent.specs.Refusal.{pick}
use Rattle.lent.proofs.Pick.{pick_true}
use Rattle.lent.proofs.Tests.{and_left, and_right}
use Rattle.cells.specs.Cells.{count_at, read_at, cleared_at, valid_at, ReadsCells}
use Rattle.cells.specs.Extremes.{is_set, count_of_cell, Spans, IsOutmost}
use Rattle.cells.specs.declared.Readings.{Readings}
use Rattle.cells.specs.declared.extremes.Range.{Range}
use Rattle.cells.proofs.CellsCases.{each_count, each_bit}
use Rattle.cells.proofs.Ends.{cells_none, between}

bit_of : (b : Bool) → eqb (pick b 1 0) 1 ≡ b
unfolding pick
bit_of true = refl
bit_of false = refl

module _ (groups marks : List ℕ) (r : Readings) (w : ReadsCells groups marks r) (z : r.number ≡ 0) where
  set_where_valid : (c : ℕ) → c < 18 → is_set r.valid c ≡ valid_at groups marks c
  unfolding is_set
  set_where_valid c h = ap (λ (i : ℕ). eqb i 1) (each_bit groups marks r w z c h) ∙ bit_of (valid_at groups marks c)

  -- cell number k was read, and x is what it holds, and that is a measurement
  abbrev Measured : ℕ → ℕ → Type 0
  Measured k x = (read_at marks (k - 1) ≡ true) × (x ≡ count_at groups (k - 1)) × (x ≡ 65535 → ⊥)

  measured : (up : Bool) (k x : ℕ) → IsOutmost up 18 r.counts r.valid k x → Measured k x
  unfolding count_of_cell valid_at cleared_at
  measured up k x o =
      let h : k - 1 < 18 = omega (arith, o.from_one, o.among) in
      let ok = sym (set_where_valid (k - 1) h) ∙ o.is_valid in
      let holds = o.count ∙ each_count groups marks r w z (k - 1) h ∙ pick_true (valid_at groups marks (k - 1)) (count_at groups (k - 1)) 0 ok in
      let kept = eqb-false (count_at groups (k - 1)) 65535 (not-true (cleared_at groups (k - 1)) (and_right (read_at marks (k - 1)) (not (cleared_at groups (k - 1))) ok)) in
      (and_left (read_at marks (k - 1)) (not (cleared_at groups (k - 1))) ok, holds, λ e. kept (sym holds ∙ e))

  module _ (range : Option Range) (s : Spans r.counts r.valid range) where
    pub ends_measured : (ends : Range) → range ≡ Some ends → Measured ends.low_cell ends.low × Measured ends.high_cell ends.high
    ends_measured ends e =
        let both = between r.counts r.valid ends (sym s.range ∙ e) in
        (measured false ends.low_cell ends.low both.0, measured true ends.high_cell ends.high both.1)

    pub none_measured : ((c : ℕ) → c < 18 → valid_at groups marks c ≡ false) → range ≡ None
    none_measured h = s.range ∙ cells_none r.counts r.valid (λ c l. set_where_valid c l ∙ h c l)
