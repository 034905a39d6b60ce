-- Six bytes for each device, one device after the other: two such lists are equal where they agree at each device; what devices hold, and what was written to
-- them, as a read shows it. Assumes nothing.
use mathlib.Core.Path.{◌≡◌, refl, ◌∙◌}
use mathlib.Core.List.{List}
use Prim.Native.Nat.{ℕ, ◌*◌, ◌≤◌, ◌<◌}
use native.Mathlib.Omega.{arith}
use lib.ListN.{length}
use Rattle.lent.proofs.Parts.{length_pieces, piece_at, pieces_ext}
use Rattle.frames.specs.Places.{six}
use Rattle.frames.proofs.GroupLaws.{length_six}
use Rattle.registers.specs.Dten.{with_dten}
use Rattle.registers.specs.State.{state_length, pin, shown}
use Rattle.registers.proofs.DtenLaws.{length_with_dten, no_dten}
use Rattle.registers.proofs.StateLaws.{length_shown}
use Rattle.link.specs.Demands.{held, read_back}

pub six_ext : (n : ℕ) (x y : List ℕ) → length x ≡ 6 * n → length y ≡ 6 * n → ((k : ℕ) → k < n → six k x ≡ six k y) → x ≡ y
unfolding six
six_ext n x y lx ly h = pieces_ext 6 n x y h lx ly

module _ (n g : ℕ) (state : List ℕ) (hg : g < 18) (whole : length state ≡ state_length n) where
  own_six : (j : ℕ) → j < n → length (shown j g state) ≡ 6
  own_six j h = length_shown n j g state h hg whole

  pub length_held : (j : ℕ) → j ≤ n → length (held j g state) ≡ 6 * j
  unfolding held
  length_held = length_pieces (λ (j : ℕ). held j g state) (λ (j : ℕ). shown j g state) refl (λ j. refl) 6 n own_six

  pub six_held : (j k : ℕ) → j ≤ n → k < j → six k (held j g state) ≡ shown k g state
  unfolding held six
  six_held = piece_at (λ (j : ℕ). held j g state) (λ (j : ℕ). shown j g state) refl (λ j. refl) 6 n own_six

-- what was written, as it reads back
module _ (n g : ℕ) (state bytes : List ℕ) (long : length bytes ≡ 6 * n) where
  back_six : (j : ℕ) → j < n → length (with_dten g (pin j state) (six j bytes)) ≡ 6
  back_six j h = length_with_dten g (pin j state) (six j bytes) ∙ length_six j bytes (omega arith)

  pub length_read_back : length (read_back n g state bytes) ≡ 6 * n
  unfolding read_back
  length_read_back =
      length_pieces (λ (j : ℕ). read_back j g state bytes) (λ (j : ℕ). with_dten g (pin j state) (six j bytes)) refl (λ j. refl) 6 n back_six n (omega arith)

  pub six_read_back : (k : ℕ) → k < n → six k (read_back n g state bytes) ≡ with_dten g (pin k state) (six k bytes)
  unfolding read_back six
  six_read_back k h =
      piece_at (λ (j : ℕ). read_back j g state bytes) (λ (j : ℕ). with_dten g (pin j state) (six j bytes)) refl (λ j. refl) 6 n back_six n k (omega arith) h

  -- all but CFGA reads back as it was written
  pub reads_back : (g ≡ 0 → ⊥) → read_back n g state bytes ≡ bytes
  reads_back other = six_ext n (read_back n g state bytes) bytes length_read_back long (λ k h. six_read_back k h ∙ no_dten g (pin k state) (six k bytes) other)
