-- What a loop over marks counts: the next mark, if it is of the sort, and those after it. Assumes nothing.
use Rattle.std.proofs.Common.{◌≡◌, ◌<◌, ◌≤◌, ◌+◌, ℕ, refl, Bool, true, false, List, length, drop, get_or, eqb, arith}
use mir.Val.{bool_byte}
use Rattle.host.specs.Marks.{count_of}
use Rattle.host.proofs.Sorts.{count_here, count_later}
use borrow.Author.Tests.{eqb-true, eqb-false}

pub count_next : (marks : List ℕ) (i sort n : ℕ) → i < length marks → n ≡ bool_byte (eqb (get_or marks i 0) sort)
    → (n ≤ 1) × (count_of sort (drop i marks) ≡ n + count_of sort (drop (i + 1) marks))
count_next marks i sort n h e = by_test (eqb (get_or marks i 0) sort) refl e
  where
    by_test : (t : Bool) → eqb (get_or marks i 0) sort ≡ t → n ≡ bool_byte t → (n ≤ 1) × (count_of sort (drop i marks) ≡ n + count_of sort (drop (i + 1) marks))
    by_test true t k = rw k (omega arith, count_here marks i sort h (eqb-true _ _ t))
    by_test false t k = rw k (omega arith, count_later marks i sort h (eqb-false _ _ t))
