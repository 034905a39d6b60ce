-- What each kind needs and gives, case by case. Assumes nothing.
use mathlib.Core.Path.{◌≡◌}
use mathlib.Core.Bool.{Bool, true, false}
use mathlib.Core.List.{List, []}
use Prim.Native.Nat.{ℕ, ◌+◌, ◌*◌, ◌≤◌, ◌<◌}
use native.Mathlib.Omega.{arith}
use borrow.Author.Tests.{ne_eqb, lt-ltb, le-ltb}
use lib.Dec.{ltb}
use lib.ListN.{replicate}
use Rattle.lent.specs.Refusal.{pick}
use Rattle.frames.specs.Kind.{data_needed, frame_length}
use Rattle.frames.specs.Frame.{write_groups, frame_body}

pub needs_data : (n kind : ℕ) → kind ≡ 1 → data_needed n kind ≡ 6 * n
unfolding data_needed pick
needs_data n kind e = rw e

pub needs_none : (n kind : ℕ) → (kind ≡ 1 → ⊥) → data_needed n kind ≡ 0
unfolding data_needed pick
needs_none n kind e = rw (ne_eqb _ _ e)

pub length_short : (n kind : ℕ) → 2 < kind → frame_length n kind ≡ 4
unfolding frame_length pick
length_short n kind h = rw (lt-ltb 2 kind h)

pub length_long : (n kind : ℕ) → kind ≤ 2 → frame_length n kind ≡ 4 + 8 * n
unfolding frame_length pick
length_long n kind h = rw (le-ltb 2 kind h)

pub length_least : (n kind : ℕ) → 4 ≤ frame_length n kind
unfolding frame_length pick
length_least n kind = least (ltb 2 kind)
  where
    least : (b : Bool) → 4 ≤ pick b 4 (4 + 8 * n)
    least true = omega arith
    least false = omega arith

pub body_write : (n kind : ℕ) (bytes : List ℕ) → kind ≡ 1 → frame_body n kind bytes ≡ write_groups n bytes
unfolding frame_body pick
body_write n kind bytes e = rw e

pub body_read : (n kind : ℕ) (bytes : List ℕ) → kind ≡ 2 → frame_body n kind bytes ≡ replicate (8 * n) 255
unfolding frame_body pick
body_read n kind bytes e = rw e

pub body_short : (n kind : ℕ) (bytes : List ℕ) → 2 < kind → frame_body n kind bytes ≡ []
unfolding frame_body pick
body_short n kind bytes h = rw (ne_eqb kind 1 (λ e. omega arith), ne_eqb kind 2 (λ e. omega arith))
