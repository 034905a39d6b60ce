-- A number and its two bytes, low byte first, undo each other, anywhere in a list; the number of more bytes, two by two. Assumes nothing.
use mathlib.Core.Path.{◌≡◌, sym, ap, ◌∙◌}
use mathlib.Core.List.{List, ◌∷◌, ◌++◌}
use Prim.Native.Nat.{ℕ, suc, ◌+◌, ◌*◌, ◌/◌, ◌%◌, ◌^◌, ◌≤◌}
use native.Mathlib.Omega.{arith}
use lib.ListN.{length, get_or, take, drop, drop_of_length-le}
use lib.Seq.{drop-cons, get_or_at, get_or-append-add}
use Rattle.lent.specs.Bytes.{Bytes}
use Rattle.lent.specs.LowFirst.{low_first, low_first_at, number_of}
use Rattle.lent.proofs.Bytes.{byte_at}

pub low_first_read : (before after : List ℕ) (n at : ℕ) → length before ≡ at → low_first_at (before ++ (low_first n ++ after)) at ≡ n
unfolding low_first low_first_at
low_first_read before after n at e =
    let two : List ℕ = n % 256 ∷ n / 256 ∷ after in
    let low : get_or (before ++ two) at 0 ≡ n % 256 = get_or_at before (n % 256) (n / 256 ∷ after) 0 at e in
    let high : get_or (before ++ two) (at + 1) 0 ≡ n / 256 = ap (λ (i : ℕ). get_or (before ++ two) (i + 1) 0) (sym e) ∙ get_or-append-add before two 1 0 in
    omega (arith, low, high)

-- the two bytes from `at` on, and what follows
two_first : (xs : List ℕ) (at : ℕ) → at + 2 ≤ length xs → drop at xs ≡ get_or xs at 0 ∷ get_or xs (at + 1) 0 ∷ drop (at + 2) xs
two_first xs at h =
    let next : suc at ≡ at + 1 = omega arith in
    let after : suc (at + 1) ≡ at + 2 = omega arith in
    drop-cons xs at 0 (omega arith)
    ∙ ap (λ (l : List ℕ). get_or xs at 0 ∷ l) (ap (λ (i : ℕ). drop i xs) next ∙ drop-cons xs (at + 1) 0 (omega arith) ∙ ap (λ (i : ℕ). get_or xs (at + 1) 0 ∷ drop i xs) after)

pub low_first_written : (xs : List ℕ) (at : ℕ) → Bytes xs → at + 2 ≤ length xs → low_first (low_first_at xs at) ≡ take 2 (drop at xs)
unfolding low_first low_first_at
low_first_written xs at b h =
    let low = get_or xs at 0 in
    let high = get_or xs (at + 1) 0 in
    let first : (low + 256 * high) % 256 ≡ low = omega (arith, byte_at xs b at, byte_at xs b (at + 1)) in
    let second : (low + 256 * high) / 256 ≡ high = omega (arith, byte_at xs b at, byte_at xs b (at + 1)) in
    rw (first, second) (sym (ap (take 2) (two_first xs at h)))

-- a number of bytes, two by two
pub number_two : (xs : List ℕ) (at : ℕ) → at + 2 ≤ length xs → number_of (drop at xs) ≡ low_first_at xs at + 2 ^ 16 * number_of (drop (at + 2) xs)
unfolding number_of low_first_at
number_two xs at h = ap number_of (two_first xs at h) ∙ omega arith

pub number_end : (xs : List ℕ) (at : ℕ) → length xs ≤ at → number_of (drop at xs) ≡ 0
unfolding number_of
number_end xs at h = rw drop_of_length-le
