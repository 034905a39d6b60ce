-- What `reading` promises, case by case of the code's tests; and what that means for each cell. Assumes nothing.
use mathlib.Core.Path.{◌≡◌, refl, sym, ap₂, subst, ◌∙◌}
use mathlib.Core.Bool.{Bool, true, false, not, ◌&&◌}
use mathlib.Core.List.{List}
use mathlib.Core.Logic.{⊎_elim}
use Prim.Native.Nat.{ℕ, ◌+◌, ◌/◌, ◌%◌, ◌^◌, ◌≤◌, ◌<◌}
use native.Mathlib.Nat.{lt_of_lt_of_le}
use native.Mathlib.Omega.{arith}
use borrow.Author.Tests.{eqb-true, eq-eqb, ne_eqb}
use lib.Dec.{eqb}
use lib.ListN.{length, get_or, replicate, length-replicate}
use lib.Pow.{pow_pos, pow_mono, shr_lt}
use Rattle.std.specs.Prelude.{Ok, Err}
use Rattle.lent.specs.Number.{number}
use Rattle.lent.specs.declared.refusal.Refusal.{Refusal}
use Rattle.lent.specs.Refusal.{pick, first}
use Rattle.lent.specs.Word.{bits_where}
use Rattle.lent.proofs.BitsWhere.{bit_or_none, bits_below, bits_at}
use Rattle.lent.proofs.Over.{over_full}
use Rattle.lent.proofs.Pick.{pick_true, pick_false}
use Rattle.lent.proofs.Tests.{lt_or_le}
use Rattle.host.specs.Marks.{any_above}
use Rattle.cells.specs.Cells.{count_at, read_at, cleared_at, valid_at, unmeasured_at, counts_of, cells_number, ReadsCells}
use Rattle.cells.specs.Flat.{readings}
use Rattle.cells.specs.declared.Readings.{Readings}
use Rattle.cells.proofs.CellsPassed.{zeros, length_counts, count_in_list, SoFar}

module _ (groups marks : List ℕ) where
  refused : cells_number groups marks ≡ 3 → ReadsCells groups marks (readings (Err Refusal.WrongLength))
  unfolding readings number pick
  refused n = record { number = sym n; counts = rw n; valid = rw n; unmeasured = rw n }

  pub groups_wrong : (length groups ≡ 36 → ⊥) → ReadsCells groups marks (readings (Err Refusal.WrongLength))
  unfolding cells_number first pick
  groups_wrong g = refused (simp (ne_eqb (length groups) 36 g))

  pub marks_wrong : length groups ≡ 36 → (length marks ≡ 6 → ⊥) → ReadsCells groups marks (readings (Err Refusal.WrongLength))
  unfolding cells_number first pick
  marks_wrong g m = refused (simp (eq-eqb (length groups) 36 g, ne_eqb (length marks) 6 m))

  pub mark_above : length groups ≡ 36 → length marks ≡ 6 → any_above marks ≡ true → ReadsCells groups marks (readings (Err Refusal.WrongLength))
  unfolding cells_number first pick
  mark_above g m a = refused (simp (eq-eqb (length groups) 36 g, eq-eqb (length marks) 6 m, a))

  accepted : length groups ≡ 36 → length marks ≡ 6 → any_above marks ≡ false → cells_number groups marks ≡ 0
  unfolding cells_number first pick
  accepted g m a = simp (eq-eqb (length groups) 36 g, eq-eqb (length marks) 6 m, a)

  pub read : length groups ≡ 36 → length marks ≡ 6 → any_above marks ≡ false → (n valid unmeasured : ℕ) (counts : List ℕ) → n ≡ 18
      → SoFar groups marks n counts valid unmeasured
      → ReadsCells groups marks (readings (Ok (record { counts = counts; valid = valid; unmeasured = unmeasured })))
  unfolding readings pick
  read g m a n valid unmeasured counts all s =
      let z = accepted g m a in
      let whole = s.counts ∙ over_full (counts_of n groups marks) zeros (omega (arith, length_counts groups marks n, length-replicate {A = ℕ} 18 0)) in
      record { number = sym z; counts = rw z (rw all at whole); valid = rw z (rw all at s).valid; unmeasured = rw z (rw all at s).unmeasured }

  -- Where the number is 0: each cell's count and its bit of either word, and no other bit.
  module _ (r : Readings) (w : ReadsCells groups marks r) (z : r.number ≡ 0) where
    done : eqb (cells_number groups marks) 0 ≡ true
    done = eq-eqb (cells_number groups marks) 0 (sym w.number ∙ z)

    pub each_count : (c : ℕ) → c < 18 → get_or r.counts c 0 ≡ pick (valid_at groups marks c) (count_at groups c) 0
    each_count c h = rw (w.counts, pick_true (eqb (cells_number groups marks) 0) (counts_of 18 groups marks) (replicate 18 0) done) (count_in_list groups marks 18 c h)

    valid_word : r.valid ≡ bits_where (valid_at groups marks) 18
    valid_word = w.valid ∙ pick_true (eqb (cells_number groups marks) 0) (bits_where (valid_at groups marks) 18) 0 done

    unmeasured_word : r.unmeasured ≡ bits_where (unmeasured_at groups marks) 18
    unmeasured_word = w.unmeasured ∙ pick_true (eqb (cells_number groups marks) 0) (bits_where (unmeasured_at groups marks) 18) 0 done

    pub each_bit : (c : ℕ) → c < 18 → r.valid / 2 ^ c % 2 ≡ pick (valid_at groups marks c) 1 0
    each_bit c h = rw valid_word (bits_at (valid_at groups marks) 18 c h)

    pub each_unmeasured : (c : ℕ) → c < 18 → r.unmeasured / 2 ^ c % 2 ≡ pick (unmeasured_at groups marks c) 1 0
    each_unmeasured c h = rw unmeasured_word (bits_at (unmeasured_at groups marks) 18 c h)

    -- exactly one of valid, unmeasured, not read
    pub one_of_three : (c : ℕ) → c < 18 → r.valid / 2 ^ c % 2 + r.unmeasured / 2 ^ c % 2 ≡ pick (read_at marks c) 1 0
    unfolding valid_at unmeasured_at
    one_of_three c h = ap₂ (λ (x y : ℕ). x + y) (each_bit c h) (each_unmeasured c h) ∙ by_tests (read_at marks c) (cleared_at groups c)
      where
        by_tests : (a b : Bool) → pick (a && not b) 1 0 + pick (a && b) 1 0 ≡ pick a 1 0
        by_tests true true = unfold pick in refl
        by_tests true false = unfold pick in refl
        by_tests false b = unfold pick in refl

    pub eighteen_bits : (r.valid < 2 ^ 18) × (r.unmeasured < 2 ^ 18)
    eighteen_bits = (rw valid_word (bits_below (valid_at groups marks) 18), rw unmeasured_word (bits_below (unmeasured_at groups marks) 18))

  -- THE TWO WORDS NEVER SHARE A BIT, whatever was lent
  module _ (r : Readings) (w : ReadsCells groups marks r) (c : ℕ) where
    past : (x : ℕ) → x < 2 ^ c → x / 2 ^ c ≡ 0
    past x h = let e : c ≡ 0 + c = omega arith in omega (arith, shr_lt {n = x} 0 c (subst (λ (i : ℕ). x < 2 ^ i) e h))

    apart_past : r.valid < 2 ^ c → r.unmeasured < 2 ^ c → r.valid / 2 ^ c % 2 + r.unmeasured / 2 ^ c % 2 ≤ 1
    apart_past v u = omega (arith, past r.valid v, past r.unmeasured u)

    pub never_both : r.valid / 2 ^ c % 2 + r.unmeasured / 2 ^ c % 2 ≤ 1
    never_both = go (eqb (cells_number groups marks) 0) refl
      where
        go : (b : Bool) → eqb (cells_number groups marks) 0 ≡ b → r.valid / 2 ^ c % 2 + r.unmeasured / 2 ^ c % 2 ≤ 1
        go true e =
            let z : r.number ≡ 0 = w.number ∙ eqb-true (cells_number groups marks) 0 e in
            let bits = eighteen_bits r w z in
            ⊎_elim
            (λ h. bit_or_none (read_at marks c) 1 _ (one_of_three r w z c h))
            (λ h. let fits = pow_mono {i = 18} {j = c} h in apart_past (lt_of_lt_of_le bits.0 fits) (lt_of_lt_of_le bits.1 fits))
            (lt_or_le c 18)
        go false e =
            let v : r.valid ≡ 0 = w.valid ∙ pick_false (eqb (cells_number groups marks) 0) (bits_where (valid_at groups marks) 18) 0 e in
            let u : r.unmeasured ≡ 0 = w.unmeasured ∙ pick_false (eqb (cells_number groups marks) 0) (bits_where (unmeasured_at groups marks) 18) 0 e in
            apart_past (omega (arith, v, pow_pos c)) (omega (arith, u, pow_pos c))
