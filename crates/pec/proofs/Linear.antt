-- The register is linear: the difference of two runs is a run of the differences. Assumes nothing.
use mathlib.Core.Path.{◌≡◌, refl, sym, ap, ap₂, ◌∙◌}
use mathlib.Core.List.{List, [], ◌∷◌, ◌++◌}
use Prim.Native.Nat.{ℕ, ◌*◌, ◌/◌, ◌%◌, ◌<◌}
use native.Mathlib.Nat.{mod-lt}
use native.Mathlib.Omega.{arith}
use lib.Bits.{bit_xor, xor_shr, xor_mod, xor_lt}
use lib.Dec.{lit<}
use lib.ListN.{length}
use Rattle.pec.specs.Register.{step, feed}
use Rattle.pec.proofs.Xor.{mod2, xor_four, xor_shift}

-- two lists of bits, place by place: 1 where they differ
abbrev pub xors : List ℕ → List ℕ → List ℕ
xors [] bs = []
xors (a ∷ rest) [] = []
xors (a ∷ rest) (b ∷ bs) = bit_xor a b ∷ xors rest bs

taken_off : (f g : ℕ) → bit_xor f g % 2 * 0x4599 ≡ bit_xor (f % 2 * 0x4599) (g % 2 * 0x4599)
taken_off f g =
    ap (λ (x : ℕ). x * 0x4599) (xor_mod f g 1)
    ∙ mod2 (λ x. bit_xor x (g % 2) * 0x4599 ≡ bit_xor (x * 0x4599) (g % 2 * 0x4599)) refl (mod2 (λ y. bit_xor 1 y * 0x4599 ≡ bit_xor 0x4599 (y * 0x4599)) refl refl g) f

pub step_xor : (r s b c : ℕ) → step (bit_xor r s) (bit_xor b c) ≡ bit_xor (step r b) (step s c)
unfolding step
step_xor r s b c =
    ap₂ bit_xor
    (ap (λ (x : ℕ). x % 32768) (sym (xor_shift 1 r s)) ∙ xor_mod (r * 2) (s * 2) 15)
    (ap (λ (x : ℕ). bit_xor x (bit_xor b c) % 2 * 0x4599) (xor_shr r s 14)
    ∙ ap (λ (x : ℕ). x % 2 * 0x4599) (xor_four (r / 16384) (s / 16384) b c)
    ∙ taken_off (bit_xor (r / 16384) b) (bit_xor (s / 16384) c))
    ∙ xor_four (r * 2 % 32768) (s * 2 % 32768) (bit_xor (r / 16384) b % 2 * 0x4599) (bit_xor (s / 16384) c % 2 * 0x4599)

pub feed_xor : (us bs : List ℕ) (r s : ℕ) → length us ≡ length bs → feed (bit_xor r s) (xors us bs) ≡ bit_xor (feed r us) (feed s bs)
feed_xor [] [] r s e = refl
feed_xor [] (b ∷ bs) r s e = absurd (omega arith)
feed_xor (a ∷ us) [] r s e = absurd (omega arith)
feed_xor (a ∷ us) (b ∷ bs) r s e =
    ap (λ (x : ℕ). feed x (xors us bs)) (step_xor r s a b) ∙ feed_xor us bs (step r a) (step s b) (omega arith)

pub feed_append : (us bs : List ℕ) (r : ℕ) → feed r (us ++ bs) ≡ feed (feed r us) bs
feed_append [] bs r = refl
feed_append (a ∷ us) bs r = feed_append us bs (step r a)

-- 15 bits stay 15 bits
pub step_lt : (r b : ℕ) → step r b < 32768
unfolding step
step_lt r b =
    xor_lt 15 (r * 2 % 32768) (bit_xor (r / 16384) b % 2 * 0x4599) (mod-lt (r * 2) (lit< tt))
    (mod2 (λ x. x * 0x4599 < 32768) (lit< tt) (lit< tt) (bit_xor (r / 16384) b))

pub feed_lt : (us : List ℕ) (r : ℕ) → r < 32768 → feed r us < 32768
feed_lt [] r h = h
feed_lt (a ∷ us) r h = feed_lt us (step r a) (step_lt r a)
