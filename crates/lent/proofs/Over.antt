-- Laws of `over`: a loop that lays a list over the start of lent memory, piece by piece. Assumes nothing.
use mathlib.Core.Path.{◌≡◌, refl, sym, ap, ◌∙◌}
use mathlib.Core.List.{List, [], ◌∷◌, ◌++◌, append_assoc, append-nil}
use Prim.Native.Nat.{ℕ, suc, ◌+◌, ◌-◌, ◌≤◌, ◌<◌}
use native.Mathlib.Omega.{arith}
use lib.ListN.{replicate, length-replicate, set, get_or, length, take, drop, length-append, length-take, length-drop, drop_of_length-le, get_or-append}
use lib.Seq.{append_snoc, drop-cons, set_at, take_at, drop_at, take-add, drop-drop, length-take-le, take_all}
use borrow.Rule.Slice.PartMut.{put_mid}
use Rattle.lent.specs.Memory.{over}

pub length_over : (new old : List ℕ) → length new ≤ length old → length (over new old) ≡ length old
unfolding over
length_over new old h = simp (length-append, length-drop) (omega arith)

pub over_none : (old : List ℕ) → old ≡ over [] old
unfolding over
over_none old = refl

-- a list laid over memory that is no longer than it
pub over_full : (new old : List ℕ) → length old ≤ length new → over new old ≡ new
unfolding over
over_full new old h = rw (drop_of_length-le old {i = length new} h, append-nil)

-- one piece more, written through the part from a to e of the memory
pub over_more : (new piece old : List ℕ) (a e : ℕ) → length new ≡ a → e ≡ a + length piece → e ≤ length old
    → put_mid a (e - a) (over new old) piece ≡ over (new ++ piece) old
unfolding over
over_more new piece old a e n p h =
    let size : e - a ≡ length piece = omega arith in
    let both : length (new ++ piece) ≡ a + length piece = omega (arith, length-append new piece) in
    rw (take_at new (drop (length new) old) a n, drop_at new (drop (length new) old) a n, size, n, drop-drop (length piece) a old, both, append_assoc)

-- what is laid over hides what was laid over before, if that was no longer
pub over_hides : (new older old : List ℕ) → length older ≤ length new → over new (over older old) ≡ over new old
unfolding over
over_hides new older old h =
    ap (λ (l : List ℕ). new ++ l)
    (ap (λ (m : ℕ). drop m (older ++ drop (length older) old)) {x = length new} {y = length older + (length new - length older)} (omega arith)
    ∙ sym (drop-drop (length new - length older) (length older) (older ++ drop (length older) old))
    ∙ ap (λ (l : List ℕ). drop (length new - length older) l) (drop_at older (drop (length older) old) (length older) refl)
    ∙ drop-drop (length new - length older) (length older) old
    ∙ ap (λ (m : ℕ). drop m old) {x = length older + (length new - length older)} {y = length new} (omega arith))

-- what lies over memory, laid over it once more
pub lies_over : (new old after : List ℕ) → after ≡ over new old → after ≡ over new after
lies_over new old after e = e ∙ sym (over_hides new new old (omega arith)) ∙ ap (over new) (sym e)

-- two pieces, the first written through the part from 0 to a, the second through the part from a to e
pub over_two : (one two old : List ℕ) (a e : ℕ) → length one ≡ a → e ≡ a + length two → e ≤ length old
    → put_mid a (e - a) (put_mid 0 (a - 0) old one) two ≡ over (one ++ two) old
over_two one two old a e n p h =
    ap (λ (l : List ℕ). put_mid a (e - a) l two) (ap (λ (l : List ℕ). put_mid 0 (a - 0) l one) (over_none old) ∙ over_more [] one old 0 a refl (omega arith) (omega arith))
    ∙ over_more one two old a e n p h

-- one byte more
pub over_set : (new old : List ℕ) (k v : ℕ) → length new ≡ k → k < length old → set (over new old) k v ≡ over (new ++ (v ∷ [])) old
unfolding over
over_set new old k v n h =
    let one_more : length (new ++ (v ∷ [])) ≡ suc k = omega (arith, length-append new (v ∷ [])) in
    rw (n, one_more, drop-cons old k 0 h, set_at new (get_or old k 0) (drop (suc k) old) v k n) (sym (append_snoc new v (drop (suc k) old)))

-- The first `at` bytes are new's, the others what they were: a loop on its way, for a list whose pieces come in the order of the wire.
unfoldable pub upto : ℕ → List ℕ → List ℕ → List ℕ
upto at new old = take at new ++ drop at old

pub upto_none : (new old : List ℕ) → old ≡ upto 0 new old
unfolding upto
upto_none new old = refl

-- where new is as long as the memory, the memory is new at the end
pub upto_full : (new old : List ℕ) (at : ℕ) → length new ≡ at → length old ≤ at → upto at new old ≡ new
unfolding upto
upto_full new old at e h = rw (take_all at new (omega arith), drop_of_length-le old {i = at} h, append-nil)

pub length_upto : (new old : List ℕ) (at : ℕ) → at ≤ length new → at ≤ length old → length (upto at new old) ≡ length old
unfolding upto
length_upto new old at h k = simp (length-append, length-take, length-drop) (omega arith)

-- what is left of new after its next piece
pub rest : (new piece left : List ℕ) (at n : ℕ) → length piece ≡ n → drop at new ≡ piece ++ left → drop (at + n) new ≡ left
rest new piece left at n e h = sym (drop-drop n at new) ∙ ap (λ (l : List ℕ). drop n l) h ∙ drop_at piece left n e

-- the next piece of new, written through the part from `at` to `to` of the memory
pub upto_more : (new old piece left : List ℕ) (at to n : ℕ) → length piece ≡ n → to ≡ at + n → at ≤ length new → to ≤ length old → drop at new ≡ piece ++ left
    → put_mid at (to - at) (upto at new old) piece ≡ upto to new old
unfolding upto
upto_more new old piece left at to n e t hn ho h =
    let front : length (take at new) ≡ at = length-take-le at new hn in
    let size : to - at ≡ n = omega arith in
    let longer : take (at + n) new ≡ take at new ++ piece =
    take-add at n new ∙ ap (λ (x : List ℕ). take at new ++ x) (ap (λ (x : List ℕ). take n x) h ∙ take_at piece left n e) in
    rw (take_at (take at new) (drop at old) at front, drop_at (take at new) (drop at old) at front, size, drop-drop n at old, t, longer, append_assoc)

-- a part that was filled, by its length
pub filled : (after : List ℕ) (v m n : ℕ) → after ≡ replicate m v → length after ≡ n → after ≡ replicate n v
filled after v m n e h = e ∙ ap (λ (k : ℕ). replicate k v) (sym (ap length e ∙ length-replicate m v) ∙ h)

-- what was laid over reads back
pub take_over : (new old : List ℕ) (n : ℕ) → length new ≡ n → take n (over new old) ≡ new
unfolding over
take_over new old n e = take_at new (drop (length new) old) n e

pub get_d_over : (new old : List ℕ) (k : ℕ) → k < length new → get_or (over new old) k 0 ≡ get_or new k 0
unfolding over
get_d_over new old k h = get_or-append new (drop (length new) old) 0 k h
