-- Flips within 15 neighbouring bits never leave the register at 0. The first 1 makes its lowest bit a 1, as the polynomial is odd; from then on the m low
-- bits are not all 0, m growing by one with each further bit of the 15; and a register that is not 0 stays so while 0s come in. Assumes nothing.
use mathlib.Core.Path.{◌≡◌, refl, sym, ap, ap₂, ◌∙◌, subst}
use mathlib.Core.Logic.{◌⊎◌, inl, inr, ⊎_elim}
use mathlib.Core.List.{List, [], ◌∷◌}
use Prim.Native.Nat.{ℕ, zero, suc, ◌+◌, ◌-◌, ◌*◌, ◌/◌, ◌%◌, ◌^◌, ◌<◌, ◌≤◌, zero-le, suc-le-suc}
use native.Mathlib.Nat.{eq-zero-or-pos, pow-suc, mod-le, add-zero}
use native.Mathlib.Numerals.{add-one}
use native.Mathlib.Omega.{arith}
use lib.Arith.{mod-mul}
use lib.Bits.{bit_xor, xor_mod, xor_zero_r}
use lib.Dec.{lit<}
use lib.ListN.{get_or}
use lib.Pow.{mod-mod-pow, pow_pos}
use Rattle.pec.specs.Register.{step, feed}
use Rattle.pec.specs.Noise.{count, Within}
use Rattle.pec.proofs.Xor.{mod2}
use Rattle.pec.proofs.Linear.{step_lt}

-- each is 0 or 1
abbrev pub Bits : List ℕ → Type 0
Bits [] = Unit {0}
Bits (b ∷ bs) = (b < 2) × Bits bs

-- a step shifts, or, as the polynomial is odd, leaves an odd register
shift_or_odd : (r b : ℕ) → ((bit_xor (r / 16384) b % 2 ≡ 0) × (step r b ≡ r * 2 % 32768)) ⊎ (step r b % 2 ≡ 1)
unfolding step
shift_or_odd r b =
    mod2 (λ x. ((x ≡ 0) × (bit_xor (r * 2 % 32768) (x * 0x4599) ≡ r * 2 % 32768)) ⊎ (bit_xor (r * 2 % 32768) (x * 0x4599) % 2 ≡ 1))
    (inl (refl, xor_zero_r (r * 2 % 32768)))
    (inr (xor_mod (r * 2 % 32768) 0x4599 1 ∙ ap (λ (x : ℕ). bit_xor x 1) (even r)))
    (bit_xor (r / 16384) b)
  where
    even : (n : ℕ) → n * 2 % 32768 % 2 ≡ 0
    even n = omega arith

step_00 : step 0 0 ≡ 0
unfolding step
step_00 = refl

step_01 : step 0 1 ≡ 0x4599
unfolding step
step_01 = refl

-- a 0 leaves a register that is not 0 so
keep : (r : ℕ) → r < 32768 → 0 < r → 0 < step r 0
keep r h p = ⊎_elim (λ e. shifted e.0 e.1) (λ o. omega arith) (shift_or_odd r 0)
  where
    top : r / 16384 < 2
    top = omega arith

    clear : (q : ℕ) → q < 2 → q % 2 ≡ 0 → q ≡ 0
    clear q l e = omega arith

    whole : r / 16384 ≡ 0 → r * 2 % 32768 ≡ r * 2
    whole e = omega arith

    shifted : bit_xor (r / 16384) 0 % 2 ≡ 0 → step r 0 ≡ r * 2 % 32768 → 0 < step r 0
    shifted f e = let k = whole (clear (r / 16384) top (ap (λ (x : ℕ). x % 2) (sym (xor_zero_r (r / 16384))) ∙ f)) in omega arith

stays : (d : List ℕ) (r : ℕ) → r < 32768 → 0 < r → ((i : ℕ) → get_or d i 0 ≡ 0) → 0 < feed r d
stays [] r h p z = p
stays (b ∷ d) r h p z =
    stays d (step r b) (step_lt r b) (subst (λ (x : ℕ). 0 < step r x) (sym (z 0)) (keep r h p)) (λ i. z (suc i))

-- where the m low bits of the register are not all 0, the m + 1 low bits are not after a step
grow : (n m r b : ℕ) → n + suc m ≡ 15 → 0 < r % 2 ^ m → 0 < step r b % 2 ^ suc m
grow n m r b e p = ⊎_elim (λ s. shifted s.1) odd (shift_or_odd r b)
  where
    halved : r * 2 / 2 ≡ r
    halved = omega arith

    none_left : r * 2 % 2 ≡ 0
    none_left = omega arith

    double : r * 2 % (2 ^ m * 2) ≡ r % 2 ^ m * 2
    double = mod-mul (r * 2) (pow_pos m) (lit< tt) ∙ ap₂ (λ (x y : ℕ). x % 2 ^ m * 2 + y) halved none_left ∙ add-zero (r % 2 ^ m * 2)

    low : r * 2 % 32768 % 2 ^ suc m ≡ r % 2 ^ m * 2
    low = ap (λ (k : ℕ). r * 2 % 2 ^ k % 2 ^ suc m) (sym e) ∙ mod-mod-pow (r * 2) n (suc m) ∙ ap (λ (k : ℕ). r * 2 % k) (pow-suc 2 m) ∙ double

    shifted : step r b ≡ r * 2 % 32768 → 0 < step r b % 2 ^ suc m
    shifted s = let l : step r b % 2 ^ suc m ≡ r % 2 ^ m * 2 = ap (λ (k : ℕ). k % 2 ^ suc m) s ∙ low in omega arith

    odd : step r b % 2 ≡ 1 → 0 < step r b % 2 ^ suc m
    odd o = let l : step r b % 2 ^ suc m % 2 ≡ 1 = ap (λ (k : ℕ). step r b % 2 ^ k % 2) (sym (add-one m)) ∙ mod-mod-pow (step r b) m 1 ∙ o in omega arith

-- at most n more bits, and then only 0
alive : (d : List ℕ) (n m r : ℕ) → n + m ≡ 15 → r < 32768 → 0 < r % 2 ^ m → ((i : ℕ) → n ≤ i → get_or d i 0 ≡ 0) → 0 < feed r d
alive [] n m r e h p z = let l = mod-le r (2 ^ m) in omega arith
alive (b ∷ d) zero m r e h p z = let l = mod-le r (2 ^ m) in stays (b ∷ d) r h (omega arith) (λ i. z i zero-le)
alive (b ∷ d) (suc n) m r e h p z =
    let e' : n + suc m ≡ 15 = omega arith in
    alive d n (suc m) (step r b) e' (step_lt r b) (grow n m r b e' p) (λ i l. z (suc i) (suc-le-suc l))

pub burst : (d : List ℕ) (s : ℕ) → Bits d → 0 < count d → Within 15 s d → 0 < feed 0 d
burst [] s hb p w = absurd (omega arith)
burst (zero ∷ d) s hb p w =
    subst (λ (x : ℕ). 0 < feed x d) (sym step_00)
    (burst d (s - 1) hb.1 (omega arith) (λ i c. w (suc i) (⊎_elim (λ l. inl (omega arith)) (λ l. inr (omega arith)) c)))
burst (suc zero ∷ d) s hb p w =
    ⊎_elim
    (λ e. alive d 14 1 (step 0 1) refl (step_lt 0 1) (subst (λ (x : ℕ). 0 < x % 2) (sym step_01) (lit< tt)) (λ i l. w (suc i) (inr (omega arith))))
    (λ l. let e = w 0 (inl l) in absurd (omega arith))
    (eq-zero-or-pos s)
burst (suc (suc b) ∷ d) s hb p w = absurd (let l = hb.0 in omega arith)
