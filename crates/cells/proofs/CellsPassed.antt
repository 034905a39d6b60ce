-- The cells passed so far, their counts and the two words, and a turn of the loop by what the cell is. Assumes nothing.
use mathlib.Core.Path.{◌≡◌, refl, sym, ap, ◌∙◌}
use mathlib.Core.Bool.{true, false}
use mathlib.Core.List.{List}
use Prim.Native.Nat.{ℕ, ◌+◌, ◌^◌, ◌<◌}
use native.Mathlib.Numerals.{add-one}
use native.Mathlib.Omega.{arith}
use borrow.Author.Tests.{eq-eqb, ne_eqb}
use lib.ListN.{length, get_or, set, drop, replicate, get_or-replicate}
use lib.Seq.{get_or-append-add, get_or-drop, set-get_or}
use Rattle.lent.specs.Memory.{over}
use Rattle.lent.specs.Refusal.{pick}
use Rattle.lent.specs.Word.{bits_where}
use Rattle.lent.proofs.BitsWhere.{bit_set, bit_clear}
use Rattle.lent.proofs.Over.{over_set}
use Rattle.lent.proofs.Parts.{length_values, value_at}
use Rattle.cells.specs.Cells.{count_at, read_at, cleared_at, unmeasured_at, valid_at, counts_of}

-- what one cell gives
abbrev count : List ℕ → List ℕ → ℕ → ℕ
count groups marks c = pick (valid_at groups marks c) (count_at groups c) 0

-- eighteen zeros, which the counts begin as
abbrev pub zeros : List ℕ
zeros = replicate 18 0

module _ (groups marks : List ℕ) where
  pub length_counts : (n : ℕ) → length (counts_of n groups marks) ≡ n
  unfolding counts_of
  length_counts = length_values (λ (n : ℕ). counts_of n groups marks) (count groups marks) refl (λ n. refl)

  pub count_in_list : (n c : ℕ) → c < n → get_or (counts_of n groups marks) c 0 ≡ count groups marks c
  unfolding counts_of
  count_in_list = value_at (λ (n : ℕ). counts_of n groups marks) (count groups marks) refl (λ n. refl)

  -- what a cell is, by the code's two tests
  module _ (c : ℕ) where
    unread_cell : read_at marks c ≡ false → (valid_at groups marks c ≡ false) × (unmeasured_at groups marks c ≡ false)
    unfolding valid_at unmeasured_at
    unread_cell e = (rw e, rw e)

    pub cleared_cell : read_at marks c ≡ true → count_at groups c ≡ 65535 → (valid_at groups marks c ≡ false) × (unmeasured_at groups marks c ≡ true)
    unfolding valid_at unmeasured_at cleared_at
    cleared_cell e h = (simp (e, eq-eqb (count_at groups c) 65535 h), simp (e, eq-eqb (count_at groups c) 65535 h))

    pub measured_cell : read_at marks c ≡ true → (count_at groups c ≡ 65535 → ⊥) → (valid_at groups marks c ≡ true) × (unmeasured_at groups marks c ≡ false)
    unfolding valid_at unmeasured_at cleared_at
    measured_cell e h = (simp (e, ne_eqb (count_at groups c) 65535 h), simp (e, ne_eqb (count_at groups c) 65535 h))

  -- the cells passed
  pub record SoFar (c : ℕ) (given : List ℕ) (word word' : ℕ) : Type 0 where
    pub counts : given ≡ over (counts_of c groups marks) zeros
    pub valid : word ≡ bits_where (valid_at groups marks) c
    pub unmeasured : word' ≡ bits_where (unmeasured_at groups marks) c

  -- a cell that is not valid leaves the zero that stands there
  zero_stays : (c : ℕ) (counts : List ℕ) → c < 18 → valid_at groups marks c ≡ false → counts ≡ over (counts_of c groups marks) zeros
      → counts ≡ over (counts_of (c + 1) groups marks) zeros
  unfolding over counts_of pick
  zero_stays c counts h f e =
      let passed : List ℕ = counts_of c groups marks in
      let here : length passed + 0 ≡ c = omega (arith, length_counts c) in
      let stands : get_or (over passed zeros) c 0 ≡ 0 =
      ap (λ (i : ℕ). get_or (over passed zeros) i 0) (sym here)
      ∙ get_or-append-add passed (drop (length passed) zeros) 0 0
      ∙ get_or-drop (length passed) zeros 0 0
      ∙ ap (λ (i : ℕ). get_or zeros i 0) here
      ∙ get_or-replicate 18 c 0 0 h in
      e ∙ sym (set-get_or (over passed zeros) c 0) ∙ ap (set (over passed zeros) c) stands ∙ over_set passed zeros c 0 (length_counts c) h ∙ rw (add-one, f)

  module _ (c : ℕ) (counts : List ℕ) (valid unmeasured : ℕ) (h : c < 18) (s : SoFar c counts valid unmeasured) where
    pub step_unread : read_at marks c ≡ false → SoFar (c + 1) counts valid unmeasured
    step_unread e =
        let t = unread_cell c e in
        record {
          counts = zero_stays c counts h t.0 s.counts;
          valid = bit_clear (valid_at groups marks) c valid s.valid t.0;
          unmeasured = bit_clear (unmeasured_at groups marks) c unmeasured s.unmeasured t.1;
        }

    pub step_cleared : (x : ℕ) → x ≡ 2 ^ c → read_at marks c ≡ true → count_at groups c ≡ 65535 → SoFar (c + 1) counts valid (unmeasured + x)
    step_cleared x b e q =
        let t = cleared_cell c e q in
        record {
          counts = zero_stays c counts h t.0 s.counts;
          valid = bit_clear (valid_at groups marks) c valid s.valid t.0;
          unmeasured = bit_set (unmeasured_at groups marks) c unmeasured s.unmeasured x b t.1;
        }

    pub step_measured : (x held : ℕ) → x ≡ 2 ^ c → held ≡ count_at groups c → read_at marks c ≡ true → (count_at groups c ≡ 65535 → ⊥)
        → SoFar (c + 1) (set counts c held) (valid + x) unmeasured
    unfolding counts_of pick
    step_measured x held b g e q =
        let t = measured_cell c e q in
        record {
          counts = rw (s.counts, over_set (counts_of c groups marks) zeros c held (length_counts c) h, add-one, g, t.0);
          valid = bit_set (valid_at groups marks) c valid s.valid x b t.0;
          unmeasured = bit_clear (unmeasured_at groups marks) c unmeasured s.unmeasured t.1;
        }
