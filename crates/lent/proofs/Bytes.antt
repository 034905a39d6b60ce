-- Bytes stay bytes: parts of them, and lists made of them. Assumes nothing.
use mathlib.Core.Bool.{Bool, true, false}
use mathlib.Core.List.{List, [], ◌∷◌, ◌++◌}
use Prim.Native.Nat.{ℕ, zero, suc, ◌+◌, ◌<◌}
use lib.Dec.{lit<}
use lib.ListN.{length, get_or, take, drop, replicate}
use Rattle.lent.specs.Bytes.{Bytes}
use Rattle.lent.specs.Memory.{splice}
use Rattle.lent.specs.Refusal.{pick}

-- a list whose every element is below 256, as a slice's rule says it; and back
pub bytes_of : (xs : List ℕ) → ((i : ℕ) → get_or xs i 0 < 256) → Bytes xs
bytes_of [] h = tt
bytes_of (x ∷ xs) h = (h 0, bytes_of xs (λ i. h (suc i)))

pub byte_at : (xs : List ℕ) → Bytes xs → (i : ℕ) → get_or xs i 0 < 256
byte_at [] b i = lit< tt
byte_at (x ∷ xs) b zero = b.0
byte_at (x ∷ xs) b (suc i) = byte_at xs b.1 i

pub bytes_append : (xs ys : List ℕ) → Bytes xs → Bytes ys → Bytes (xs ++ ys)
bytes_append [] ys hx hy = hy
bytes_append (x ∷ xs) ys hx hy = (hx.0, bytes_append xs ys hx.1 hy)

pub bytes_take : (n : ℕ) (xs : List ℕ) → Bytes xs → Bytes (take n xs)
bytes_take zero xs h = tt
bytes_take (suc n) [] h = tt
bytes_take (suc n) (x ∷ xs) h = (h.0, bytes_take n xs h.1)

pub bytes_drop : (n : ℕ) (xs : List ℕ) → Bytes xs → Bytes (drop n xs)
bytes_drop zero xs h = h
bytes_drop (suc n) [] h = tt
bytes_drop (suc n) (x ∷ xs) h = bytes_drop n xs h.1

pub bytes_part : (n at : ℕ) (xs : List ℕ) → Bytes xs → Bytes (take n (drop at xs))
bytes_part n at xs h = bytes_take n (drop at xs) (bytes_drop at xs h)

pub bytes_replicate : (n v : ℕ) → v < 256 → Bytes (replicate n v)
bytes_replicate zero v h = tt
bytes_replicate (suc n) v h = (h, bytes_replicate n v h)

pub bytes_splice : (at : ℕ) (new old : List ℕ) → Bytes new → Bytes old → Bytes (splice at new old)
unfolding splice
bytes_splice at new old hn ho =
    bytes_append (take at old) (new ++ drop (at + length new) old) (bytes_take at old ho)
    (bytes_append new (drop (at + length new) old) hn (bytes_drop (at + length new) old ho))

pub bytes_pick : (b : Bool) (xs ys : List ℕ) → Bytes xs → Bytes ys → Bytes (pick b xs ys)
unfolding pick
bytes_pick true xs ys hx hy = hx
bytes_pick false xs ys hx hy = hy
