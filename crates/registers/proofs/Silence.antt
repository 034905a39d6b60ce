-- Silence, bytes 0xFF, laid over the reply: as much of it as a frame has bytes, or four bytes and then a part. Assumes nothing.
use mathlib.Core.Path.{◌≡◌, sym, ap, ◌∙◌}
use mathlib.Core.List.{List, ◌++◌}
use Prim.Native.Nat.{ℕ, ◌+◌, ◌*◌, ◌-◌, ◌≤◌, ◌<◌}
use native.Mathlib.Omega.{arith}
use borrow.Rule.Slice.PartMut.{put_mid}
use lib.ListN.{length, take, drop, length-replicate, replicate-append-replicate, drop_of_length-le}
use lib.Seq.{length-take-le}
use Rattle.lent.specs.Memory.{over}
use Rattle.lent.proofs.Over.{length_over, over_more, over_two}
use Rattle.lent.proofs.Parts.{part_replicate}
use Rattle.registers.specs.Effect.{silence}

pub length_silence : (count : ℕ) → length (silence count) ≡ count
unfolding silence
length_silence count = length-replicate {A = ℕ} count 255

-- a part of the silence is silence
pub part_silence : (j n m : ℕ) → j + n ≤ m → take n (drop j (silence m)) ≡ silence n
unfolding silence
part_silence j n m h = part_replicate j n m 255 h

pub silence_more : (a b : ℕ) → silence a ++ silence b ≡ silence (a + b)
unfolding silence
silence_more a b = replicate-append-replicate a b 255

pub none_silent : (part : List ℕ) → length part ≡ 0 → part ≡ silence (length part)
unfolding silence
none_silent part e = drop_of_length-le part {i = 0} (omega arith) ∙ sym (ap silence e)

-- a part that was filled, by its length
pub filled_silent : (count : ℕ) (reply part : List ℕ) → count ≤ length reply → part ≡ silence (length (take (count - 0) reply)) → part ≡ silence count
filled_silent count reply part h e = let whole : count - 0 ≡ count = omega arith in e ∙ rw (whole, length-take-le count reply h)

-- the first bytes of the reply, filled through a part
pub silence_over : (count : ℕ) (reply part : List ℕ) → count ≤ length reply → part ≡ silence (length (take (count - 0) reply))
    → part ++ drop (count - 0) reply ≡ over (silence count) reply
unfolding over
silence_over count reply part h e =
    let whole : count - 0 ≡ count = omega arith in
    rw (filled_silent count reply part h e, whole, length_silence count)

-- four bytes of silence, then a part
pub behind_silence : (end : ℕ) (reply head part : List ℕ) → head ≡ silence (length (take (4 - 0) reply)) → end ≡ 4 + length part → end ≤ length reply
    → put_mid 4 (end - 4) (put_mid 0 (4 - 0) reply head) part ≡ over (silence 4 ++ part) reply
behind_silence end reply head part e p h =
    let four = filled_silent 4 reply head (omega arith) e in
    over_two head part reply 4 end (ap length four ∙ length_silence 4) p h ∙ ap (λ (l : List ℕ). over (l ++ part) reply) four

-- one turn of the loop that leaves eight bytes a device
pub turn : (n k : ℕ) (old part group : List ℕ) → k < n → length old ≡ 8 * n → part ≡ over (silence (8 * k)) old → group ≡ silence 8
    → (length (put_mid (8 * k) (8 * k + 8 - 8 * k) part group) ≡ length old) × (put_mid (8 * k) (8 * k + 8 - 8 * k) part group ≡ over (silence (8 * (k + 1))) old)
turn n k old part group h lo ep eg =
    let long : length group ≡ 8 = ap length eg ∙ length_silence 8 in
    let more : 8 * k + 8 ≡ 8 * (k + 1) = omega arith in
    let laid : put_mid (8 * k) (8 * k + 8 - 8 * k) part group ≡ over (silence (8 * (k + 1))) old =
    ap (λ (l : List ℕ). put_mid (8 * k) (8 * k + 8 - 8 * k) l group) ep
    ∙ over_more (silence (8 * k)) group old (8 * k) (8 * k + 8) (length_silence (8 * k)) (omega arith) (omega arith)
    ∙ ap (λ (l : List ℕ). over (silence (8 * k) ++ l) old) eg
    ∙ ap (λ (l : List ℕ). over l old) (silence_more (8 * k) 8 ∙ ap silence more) in
    (ap length laid ∙ length_over (silence (8 * (k + 1))) old (omega (arith, length_silence (8 * (k + 1)))), laid)
