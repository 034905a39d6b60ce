-- Laws of silence and of the marks; a right group is never silent, for its last bit is 0. Assumes nothing.
use mathlib.Core.Path.{◌≡◌, refl, sym, ap, ap₂, ◌∙◌}
use mathlib.Core.Bool.{Bool, true, false, ◌&&◌}
use mathlib.Core.List.{List, [], ◌∷◌}
use Prim.Native.Nat.{ℕ, zero, suc, ◌+◌, ◌*◌, ◌-◌, ◌^◌, ◌<◌}
use native.Mathlib.Nat.{pow-suc}
use native.Mathlib.Omega.{arith}
use borrow.Author.Tests.{eqb-true, eqb-false, eq-eqb, ne_eqb}
use lib.Dec.{eqb, eqb-suc-suc}
use lib.ListN.{length, get_or, take, replicate, get_or-replicate}
use lib.Seq.{length-take-le}
use Rattle.lent.specs.Bytes.{Bytes}
use Rattle.lent.specs.LowFirst.{number_of}
use Rattle.lent.specs.Refusal.{pick}
use Rattle.lent.proofs.Tests.{and_left, and_right}
use Rattle.pec.specs.Group.{right}
use Rattle.pec.proofs.Group.{closing_zero}
use Rattle.host.specs.Marks.{read_mark, wrong_mark, silent_mark, silent, mark_of, bytes_of}

-- Silence as a number. One more than a number of bytes is a power of 256, exactly if its lowest byte is 0xFF and one more than the number n of the others is m, the power below.
low_byte : (x n m : ℕ) → x < 256 → eqb (suc (x + 256 * n)) (m * 256) ≡ (eqb x 0xFF && eqb (suc n) m)
low_byte x n m h = go (eqb x 0xFF) (eqb (suc n) m) refl refl
  where
    go : (l r : Bool) → eqb x 0xFF ≡ l → eqb (suc n) m ≡ r → eqb (suc (x + 256 * n)) (m * 256) ≡ (l && r)
    go true true low others = eq-eqb (suc (x + 256 * n)) (m * 256) (omega (arith, eqb-true x 0xFF low, eqb-true (suc n) m others))
    go true false low others = ne_eqb (suc (x + 256 * n)) (m * 256) (λ e. eqb-false (suc n) m others (omega (arith, e, eqb-true x 0xFF low)))
    go false r low others = ne_eqb (suc (x + 256 * n)) (m * 256) (λ e. eqb-false x 0xFF low (omega (arith, e)))

-- bytes are silent, exactly if no number of as many bytes is higher than theirs
silent_highest : (g : List ℕ) → Bytes g → eqb (suc (number_of g)) (256 ^ length g) ≡ silent g
unfolding silent number_of
silent_highest [] b = refl
silent_highest (x ∷ xs) b =
    ap (eqb (suc (number_of (x ∷ xs)))) (pow-suc 256 (length xs))
    ∙ low_byte x (number_of xs) (256 ^ length xs) b.0
    ∙ ap (λ (r : Bool). eqb x 0xFF && r) (silent_highest xs b.1)

-- so of eight bytes, exactly if theirs is the highest number of 64 bits
pub silent_number : (g : List ℕ) → Bytes g → length g ≡ 8 → eqb (number_of g) 0xFFFFFFFFFFFFFFFF ≡ silent g
silent_number g b h = sym (eqb-suc-suc (number_of g) 0xFFFFFFFFFFFFFFFF) ∙ ap (λ (k : ℕ). eqb (suc (number_of g)) (256 ^ k)) (sym h) ∙ silent_highest g b

-- silent, exactly if it is that many bytes 0xFF
pub silent_all : (g : List ℕ) → silent g ≡ true → g ≡ replicate (length g) 0xFF
unfolding silent
silent_all [] s = refl
silent_all (x ∷ xs) s = ap₂ ◌∷◌ (eqb-true x 0xFF (and_left (eqb x 0xFF) (silent xs) s)) (silent_all xs (and_right (eqb x 0xFF) (silent xs) s))

pub all_silent : (m : ℕ) → silent (replicate m 0xFF) ≡ true
unfolding silent
all_silent zero = refl
all_silent (suc m) = all_silent m

pub right_not_silent : (g : List ℕ) → 0 < length g → right g ≡ true → silent g ≡ false
right_not_silent g h r = go (silent g) refl
  where
    last : silent g ≡ true → get_or g (length g - 1) 0 ≡ 0xFF
    last s = ap (λ (l : List ℕ). get_or l (length g - 1) 0) (silent_all g s) ∙ get_or-replicate (length g) (length g - 1) 0xFF 0 (omega arith)

    go : (b : Bool) → silent g ≡ b → silent g ≡ false
    go true s = absurd (omega (arith, last s, closing_zero g r))
    go false s = s

-- The three marks, and what goes with them.
module _ (g : List ℕ) where
  pub mark_silent : silent g ≡ true → mark_of g ≡ silent_mark
  unfolding mark_of pick
  mark_silent s = rw s

  pub mark_read : silent g ≡ false → right g ≡ true → mark_of g ≡ read_mark
  unfolding mark_of pick
  mark_read s r = rw (s, r)

  pub mark_wrong : silent g ≡ false → right g ≡ false → mark_of g ≡ wrong_mark
  unfolding mark_of pick
  mark_wrong s r = rw (s, r)

  pub bytes_read : mark_of g ≡ read_mark → bytes_of g ≡ take 6 g
  unfolding bytes_of pick
  bytes_read e = rw e

  pub bytes_none : (mark_of g ≡ read_mark → ⊥) → bytes_of g ≡ replicate 6 0x00
  unfolding bytes_of pick
  bytes_none e = rw (ne_eqb _ _ e)

  pub bytes_silent : silent g ≡ true → bytes_of g ≡ replicate 6 0x00
  bytes_silent s = bytes_none (λ e. absurd (omega (arith, mark_silent s, e)))

  pub bytes_wrong : silent g ≡ false → right g ≡ false → bytes_of g ≡ replicate 6 0x00
  bytes_wrong s r = bytes_none (λ e. absurd (omega (arith, mark_wrong s r, e)))

-- a group is read exactly if it is right
pub read_if_right : (g : List ℕ) → 0 < length g → right g ≡ true → mark_of g ≡ read_mark
read_if_right g h r = mark_read g (right_not_silent g h r) r

pub right_if_read : (g : List ℕ) → mark_of g ≡ read_mark → right g ≡ true
unfolding mark_of pick
right_if_read g e = go (silent g) (right g) e
  where
    go : (s r : Bool) → pick s silent_mark (pick r read_mark wrong_mark) ≡ read_mark → r ≡ true
    go s true e = refl
    go true false e = absurd (omega arith)
    go false false e = absurd (omega arith)

pub length_bytes_of : (g : List ℕ) → length g ≡ 8 → length (bytes_of g) ≡ 6
unfolding bytes_of pick
length_bytes_of g h = go (eqb (mark_of g) read_mark)
  where
    go : (b : Bool) → length (pick b (take 6 g) (replicate 6 0x00)) ≡ 6
    go true = length-take-le 6 g (omega arith)
    go false = refl
