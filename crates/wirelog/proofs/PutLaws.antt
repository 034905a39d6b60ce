-- The writer's number, case by case, and what it gives at each. Assumes nothing.
use mathlib.Core.Path.{◌≡◌, sym, ap, ◌∙◌}
use mathlib.Core.Bool.{true, false}
use mathlib.Core.List.{List, [], ◌∷◌, ◌++◌, append-nil}
use Prim.Native.Nat.{ℕ, suc, ◌+◌, ◌/◌, ◌%◌, ◌≤◌, ◌<◌}
use native.Mathlib.Omega.{arith}
use borrow.Author.Tests.{lt-ltb, le-ltb, eq-eqb}
use lib.Dec.{eqb, eqb-suc-zero}
use lib.ListN.{length, take, drop, drop_of_length-le}
use lib.Seq.{take-length}
use Rattle.lent.specs.LowFirst.{low_first}
use Rattle.lent.specs.Memory.{over}
use Rattle.lent.specs.Refusal.{pick, first}
use Rattle.lent.proofs.Pick.{pick_true, pick_false}
use Rattle.wirelog.specs.Kinds.{known, within}
use Rattle.wirelog.specs.Record.{record_of}
use Rattle.wirelog.specs.Put.{put_number, Puts}

-- a body copied into a part of its length
pub copied : (body part : List ℕ) → length part ≡ length body → take (length body) body ++ drop (length body) part ≡ body
copied body part h = rw (take-length body, drop_of_length-le part {i = length body} (omega arith), append-nil)

-- the bytes of a number of 16 bits, as the code takes them
pub bytes_of_two : (n : ℕ) → n < 65536 → n % 256 ∷ n / 256 % 256 ∷ [] ≡ low_first n
unfolding low_first
bytes_of_two n h = ap (λ (x : ℕ). n % 256 ∷ x ∷ []) (omega arith)

module _ (kind : ℕ) (body out : List ℕ) where
  pub unknown_kind : known kind ≡ false → put_number kind body out ≡ 11
  unfolding put_number first pick
  unknown_kind k = rw k

  pub outside_limits : known kind ≡ true → within kind body ≡ false → put_number kind body out ≡ 11
  unfolding put_number first pick
  outside_limits k w = rw (k, w)

  pub output_short : known kind ≡ true → within kind body ≡ true → length out < 4 + length body → put_number kind body out ≡ 5
  unfolding put_number first pick
  output_short k w h = rw (k, w, lt-ltb _ _ h)

  pub none : known kind ≡ true → within kind body ≡ true → 4 + length body ≤ length out → put_number kind body out ≡ 0
  unfolding put_number first pick
  none k w h = rw (k, w, le-ltb _ _ h)

  pub refused : (n : ℕ) → put_number kind body out ≡ suc n → Puts kind body out (record { number = suc n; length = 0 }) out
  refused n e =
      let not_done : eqb (put_number kind body out) 0 ≡ false = ap (λ (x : ℕ). eqb x 0) e ∙ eqb-suc-zero n in
      record { number = sym e; long = sym (pick_false _ _ _ not_done); output = sym (pick_false _ _ _ not_done) }

  pub done : (after : List ℕ) → put_number kind body out ≡ 0 → after ≡ over (record_of kind body) out
      → Puts kind body out (record { number = 0; length = 4 + length body }) after
  done after e o =
      let is_done : eqb (put_number kind body out) 0 ≡ true = eq-eqb _ 0 e in
      record { number = sym e; long = sym (pick_true _ _ _ is_done); output = o ∙ sym (pick_true _ _ _ is_done) }
