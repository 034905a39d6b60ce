-- What it tells that a kind is known and that a body is within its limits. Assumes nothing.
use mathlib.Core.Path.{◌≡◌}
use mathlib.Core.Bool.{Bool, true, false}
use mathlib.Core.List.{List}
use Prim.Native.Nat.{ℕ, ◌≤◌}
use native.Mathlib.Omega.{arith}
use borrow.Author.Tests.{leb-true, eqb-true}
use lib.Dec.{eqb, leb}
use lib.ListN.{length}
use Rattle.lent.specs.Refusal.{pick}
use Rattle.lent.proofs.Tests.{and_left, and_right}
use Rattle.wirelog.specs.Kinds.{known, size_body, within, lawful}

pub known_most : (kind : ℕ) → known kind ≡ true → kind ≤ 4
unfolding known
known_most kind e = leb-true kind 4 (and_right (leb 1 kind) (leb kind 4) e)

most : (size note : Bool) (body : List ℕ) → pick size (size_body body) (pick note (leb (length body) 200) (leb (length body) 132)) ≡ true → length body ≤ 200
unfolding pick size_body
most true note body e = omega (arith, eqb-true (length body) 1 (and_left _ _ e))
most false true body e = leb-true (length body) 200 e
most false false body e = omega (arith, leb-true (length body) 132 e)

-- no body is longer than a note's
pub within_most : (kind : ℕ) (body : List ℕ) → within kind body ≡ true → length body ≤ 200
unfolding within
within_most kind body e = most (eqb kind 1) (eqb kind 4) body e

pub lawful_known : (kind : ℕ) (body : List ℕ) → lawful kind body ≡ true → known kind ≡ true
unfolding lawful
lawful_known kind body e = and_left (known kind) (within kind body) e

pub lawful_within : (kind : ℕ) (body : List ℕ) → lawful kind body ≡ true → within kind body ≡ true
unfolding lawful
lawful_within kind body e = and_right (known kind) (within kind body) e
