-- THE LAW OF NOISE ON ONE GROUP, of 2 to 15 bytes: a right group that noise of the class changed is wrong. For a right group, all its bits with the
-- closing one, brings the register from 16 to 0; so two right groups would leave the flips between them at 0. Assumes nothing.
use mathlib.Core.Path.{◌≡◌, refl, sym, ap, ap₂, ◌∙◌}
use mathlib.Core.Bool.{Bool, true, false, not}
use mathlib.Core.Logic.{⊎_elim}
use mathlib.Core.List.{List, [], ◌∷◌, ◌++◌}
use Prim.Native.Nat.{ℕ, suc, ◌+◌, ◌-◌, ◌*◌, ◌/◌, ◌%◌, ◌<◌, ◌≤◌}
use native.Mathlib.Nat.{mod-lt}
use native.Mathlib.Omega.{arith}
use borrow.Author.Tests.{eqb-true}
use lib.Bits.{bit_xor, xor_self, xor_zero_r}
use lib.Dec.{eqb, lit<}
use lib.ListN.{length, get_or, drop, take-append-drop, drop_of_length-le}
use lib.Seq.{drop-cons}
use Rattle.lent.specs.Bytes.{Bytes}
use Rattle.lent.proofs.Bytes.{byte_at}
use Rattle.lent.proofs.Tests.{clash, each_below}
use Rattle.pec.specs.Register.{step, feed, bits8, bits, remainder_of, pec_of}
use Rattle.pec.specs.Polynomial.{times_x, entry_of}
use Rattle.pec.specs.Group.{with_pec, body, sent, right}
use Rattle.pec.specs.Noise.{noisy, hit, Noise, Allowed}
use Rattle.pec.specs.Noise.Noise.{burst}
use Rattle.pec.proofs.Linear.{feed_xor, feed_append}
use Rattle.pec.proofs.Byte.{byte_step, bits_append, remainder_lt}
use Rattle.pec.proofs.Burst as Burst
use Rattle.pec.proofs.Mask.{length_noisy, bytes_noisy, unhit_same, bits_noisy}
use Rattle.pec.proofs.Group.{right_agrees, right_made, length_with_pec, bytes_with_pec}

-- the 7 low bits of a remainder, and the closing 0, bring the register to 0
close_test : ℕ → Bool
close_test m = eqb (feed (m * 256) (bits8 (m * 2))) 0

close7 : (m : ℕ) → m < 128 → feed (m * 256) (bits8 (m * 2)) ≡ 0
unfolding close_test step
close7 m h = eqb-true (feed (m * 256) (bits8 (m * 2))) 0 (each_below close_test 128 refl m h)

entry_0 : entry_of 0 ≡ 0
unfolding entry_of times_x
entry_0 = refl

-- a remainder's own word brings the register to 0
own_word : (r hi lo : ℕ) → r < 32768 → lo < 256 → hi * 256 + lo ≡ r * 2 → feed (feed r (bits8 hi)) (bits8 lo) ≡ 0
own_word r hi lo hr hl e =
    ap₂ (λ (x y : ℕ). feed (feed r (bits8 x)) (bits8 y)) high low
    ∙ ap (λ (x : ℕ). feed x (bits8 (r % 128 * 2)))
    (byte_step r (r / 128) hr (omega arith)
    ∙ ap₂ bit_xor (shifted r) (ap entry_of (xor_self (r / 128)) ∙ entry_0)
    ∙ xor_zero_r (r % 128 * 256))
    ∙ close7 (r % 128) (mod-lt r (lit< tt))
  where
    high : hi ≡ r / 128
    high = omega arith

    low : lo ≡ r % 128 * 2
    low = omega arith

    shifted : (n : ℕ) → n * 256 % 32768 ≡ n % 128 * 256
    shifted n = omega arith

-- a group of at least two bytes, in its parts
parts : (g : List ℕ) → 2 ≤ length g → g ≡ body g ++ get_or g (length g - 2) 0 ∷ get_or g (length g - 1) 0 ∷ []
unfolding body
parts g h =
    sym (take-append-drop (length g - 2) g)
    ∙ ap (λ (l : List ℕ). body g ++ l)
    (drop-cons g (length g - 2) 0 (omega arith)
    ∙ ap (λ (l : List ℕ). get_or g (length g - 2) 0 ∷ l)
    (ap (λ (n : ℕ). drop n g) next
    ∙ drop-cons g (length g - 1) 0 (omega arith)
    ∙ ap (λ (l : List ℕ). get_or g (length g - 1) 0 ∷ l) (drop_of_length-le g {i = suc (length g - 1)} (omega arith))))
  where
    next : suc (length g - 2) ≡ length g - 1
    next = omega arith

right_zero : (g : List ℕ) → Bytes g → 2 ≤ length g → right g ≡ true → feed 16 (bits g) ≡ 0
unfolding pec_of remainder_of sent
right_zero g b h e =
    ap (λ (l : List ℕ). feed 16 (bits l)) (parts g h)
    ∙ ap (feed 16) (bits_append (body g) (get_or g (length g - 2) 0 ∷ get_or g (length g - 1) 0 ∷ []))
    ∙ feed_append (bits (body g)) (bits8 (get_or g (length g - 2) 0) ++ bits8 (get_or g (length g - 1) 0) ++ []) 16
    ∙ own_word (remainder_of (body g)) (get_or g (length g - 2) 0) (get_or g (length g - 1) 0) (remainder_lt (body g)) (byte_at g b (length g - 1)) (right_agrees g e)

length_bits : (g : List ℕ) → length (bits g) ≡ 8 * length g
length_bits [] = refl
length_bits (x ∷ g) = let e = length_bits g in omega arith

bits_are : (g : List ℕ) → Burst.Bits (bits g)
bits_are [] = tt
bits_are (x ∷ g) = (bit (x / 128), (bit (x / 64), (bit (x / 32), (bit (x / 16), (bit (x / 8), (bit (x / 4), (bit (x / 2), (bit x, bits_are g))))))))
  where
    bit : (n : ℕ) → n % 2 < 2
    bit n = mod-lt n (lit< tt)

-- noise of the class never leaves the register at 0
shows : (flips : List ℕ) → Burst.Bits flips → Noise flips → 0 < feed 0 flips
shows flips are (burst s some within) = Burst.burst flips s are some within

-- a right group that noise of the class changed is wrong
pub detected : (mask g : List ℕ) → Bytes mask → Bytes g → length mask ≡ length g → 2 ≤ length g → length g ≤ 15 → Noise (bits mask)
    → right g ≡ true → right (noisy mask g) ≡ false
detected mask g bm bg l low high noise r = go (right (noisy mask g)) refl
  where
    as_long : length (bits g) ≡ length (bits mask)
    as_long = length_bits g ∙ ap (λ (k : ℕ). 8 * k) (sym l) ∙ sym (length_bits mask)

    -- were both right, the flips would leave the register at 0
    still : right (noisy mask g) ≡ true → feed 0 (bits mask) ≡ 0
    still r' =
        ap (λ (x : ℕ). bit_xor x (feed 0 (bits mask))) (sym (right_zero g bg low r))
        ∙ sym (feed_xor (bits g) (bits mask) 16 0 as_long)
        ∙ ap (feed 16) (sym (bits_noisy mask g l))
        ∙ right_zero (noisy mask g) (bytes_noisy mask g bm bg) (omega (arith, length_noisy mask g)) r'

    go : (b : Bool) → right (noisy mask g) ≡ b → right (noisy mask g) ≡ false
    go true e = absurd (omega (arith, still e, shows (bits mask) (bits_are mask) noise))
    go false e = e

-- under noise of the class, a group that is found right is byte for byte the one sent
pub intact : (mask g : List ℕ) → Bytes mask → Bytes g → length mask ≡ length g → 2 ≤ length g → length g ≤ 15 → Allowed mask
    → right g ≡ true → right (noisy mask g) ≡ true → noisy mask g ≡ g
unfolding Allowed
intact mask g bm bg l low high allowed r r' =
    ⊎_elim (λ unhit. unhit_same mask g unhit) (λ noise. clash (sym r' ∙ detected mask g bm bg l low high noise r)) allowed

-- a group that our side made is found right exactly when it was not hit
pub found_right : (d mask : List ℕ) → Bytes d → Bytes mask → length mask ≡ length d + 2 → length d ≤ 13 → Allowed mask
    → right (noisy mask (with_pec d)) ≡ not (hit mask)
unfolding Allowed
found_right d mask bd bm l h allowed = go (hit mask) refl
  where
    unhit : hit mask ≡ false → right (noisy mask (with_pec d)) ≡ true
    unhit e = ap right (unhit_same mask (with_pec d) e) ∙ right_made d

    go : (b : Bool) → hit mask ≡ b → right (noisy mask (with_pec d)) ≡ not (hit mask)
    go false e = unhit e ∙ ap not (sym e)
    go true e =
        ⊎_elim (λ un. clash (sym e ∙ un))
        (λ noise. detected mask (with_pec d) bm (bytes_with_pec d bd) (l ∙ sym (length_with_pec d)) (omega (arith, length_with_pec d)) (omega (arith, length_with_pec d)) noise
        (right_made d) ∙ ap not (sym e))
        allowed
