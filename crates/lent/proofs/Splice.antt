-- Laws of `splice`: a part of lent memory that was written, or kept. Assumes nothing.
use mathlib.Core.Path.{◌≡◌, sym, ap, ◌∙◌}
use mathlib.Core.Bool.{Bool, true, false}
use mathlib.Core.List.{List, ◌++◌, append_assoc}
use Prim.Native.Nat.{ℕ, ◌+◌, ◌-◌, ◌≤◌}
use native.Mathlib.Omega.{arith}
use lib.ListN.{length, take, drop, length-append, length-take, length-drop, take-append-drop}
use lib.Seq.{drop-drop, take_at, drop_at, length-take-le, drop-append-le, drop-append-add, take-append-le}
use borrow.Rule.Slice.PartMut.{put_mid, put_same}
use Rattle.lent.specs.Memory.{over, splice}
use Rattle.lent.specs.Refusal.{pick}

pub length_splice : (at : ℕ) (new old : List ℕ) → at + length new ≤ length old → length (splice at new old) ≡ length old
unfolding splice
length_splice at new old h = simp (length-append, length-take, length-drop) (omega arith)

-- a part written through, from `at` to `to`
pub splice_put : (at to : ℕ) (new old : List ℕ) → to ≡ at + length new → put_mid at (to - at) old new ≡ splice at new old
unfolding splice
splice_put at to new old t = let size : to - at ≡ length new = omega arith in rw (size, drop-drop (length new) at old)

-- a part that was written where a test holds, and kept where not
pub put_pick : (b : Bool) (at to : ℕ) (after old new : List ℕ) → to ≡ at + length new → after ≡ pick b new (take (to - at) (drop at old))
    → put_mid at (to - at) old after ≡ pick b (splice at new old) old
unfolding pick
put_pick true at to after old new t e = rw e (splice_put at to new old t)
put_pick false at to after old new t e = rw e (put_same at (to - at) old)

-- a piece replaced within what was laid over the start of a list
pub splice_over : (at : ℕ) (piece new old : List ℕ) → at + length piece ≤ length new → splice at piece (over new old) ≡ over (splice at piece new) old
unfolding over
splice_over at piece new old h =
    rest (drop (length new) old) ∙ ap (λ (i : ℕ). splice at piece new ++ drop i old) (sym (length_splice at piece new h))
  where
    rest : (tail : List ℕ) → splice at piece (new ++ tail) ≡ splice at piece new ++ tail
    rest tail = unfold splice in rw (take-append-le at new tail (omega arith), drop-append-le (at + length piece) new tail h) (simp append_assoc)

-- PARTS of a list in which a piece was replaced: the piece itself, inside it, before it, after it.
from_splice : (at : ℕ) (new old : List ℕ) → at + length new ≤ length old → drop at (splice at new old) ≡ new ++ drop (at + length new) old
unfolding splice
from_splice at new old h = drop_at (take at old) (new ++ drop (at + length new) old) at (length-take-le at old (omega arith))

pub splice_same : (at n : ℕ) (new old : List ℕ) → length new ≡ n → at + n ≤ length old → take n (drop at (splice at new old)) ≡ new
splice_same at n new old e h = ap (take n) (from_splice at new old (omega arith)) ∙ take_at new (drop (at + length new) old) n e

pub splice_inside : (at j n : ℕ) (new old : List ℕ) → j + n ≤ length new → at + length new ≤ length old
    → take n (drop (at + j) (splice at new old)) ≡ take n (drop j new)
splice_inside at j n new old h l =
    ap (take n) (sym (drop-drop j at (splice at new old)) ∙ ap (drop j) (from_splice at new old l) ∙ drop-append-le j new (drop (at + length new) old) (omega arith))
    ∙ take-append-le n (drop j new) (drop (at + length new) old) (omega (arith, length-drop j new))

pub splice_before : (a n at : ℕ) (new old : List ℕ) → a + n ≤ at → at ≤ length old → take n (drop a (splice at new old)) ≡ take n (drop a old)
unfolding splice
splice_before a n at new old h l =
    front (new ++ drop (at + length new) old) ∙ sym (front (drop at old)) ∙ ap (λ (whole : List ℕ). take n (drop a whole)) (take-append-drop at old)
  where
    front : (rest : List ℕ) → take n (drop a (take at old ++ rest)) ≡ take n (drop a (take at old))
    front rest =
        let e = length-take-le at old l in
        ap (take n) (drop-append-le a (take at old) rest (omega arith)) ∙ take-append-le n (drop a (take at old)) rest (omega (arith, length-drop a (take at old)))

pub splice_after : (a n at : ℕ) (new old : List ℕ) → at + length new ≤ a → at + length new ≤ length old → take n (drop a (splice at new old)) ≡ take n (drop a old)
splice_after a n at new old h l =
    let past = a - (at + length new) in
    let there : a ≡ at + (length new + past) = omega arith in
    let back : at + length new + past ≡ a = omega arith in
    ap (λ (i : ℕ). take n (drop i (splice at new old))) there
    ∙ ap (take n) (sym (drop-drop (length new + past) at (splice at new old))
    ∙ ap (drop (length new + past)) (from_splice at new old l)
    ∙ drop-append-add new (drop (at + length new) old) past
    ∙ drop-drop past (at + length new) old)
    ∙ ap (λ (i : ℕ). take n (drop i old)) back
