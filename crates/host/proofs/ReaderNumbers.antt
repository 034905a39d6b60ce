-- The reader's number in each case, in the order of the tests, and what each outcome has to show. Assumes nothing.
use mathlib.Core.Path.{◌≡◌, refl, sym}
use mathlib.Core.Bool.{true, false, not}
use mathlib.Core.List.{List}
use Prim.Native.Nat.{ℕ, ◌+◌, ◌*◌, ◌≤◌, ◌<◌}
use borrow.Author.Tests.{eqb-true, not-false, eq-eqb, ne_eqb, lt-ltb, le-ltb}
use native.Mathlib.Omega.{arith}
use lib.Dec.{eqb}
use lib.ListN.{length}
use Rattle.lent.specs.Refusal.{pick, first}
use Rattle.lent.specs.Memory.{over}
use Rattle.lent.proofs.First.{none_first}
use Rattle.frames.specs.Size.{outside}
use Rattle.frames.specs.Commands.{kind_of}
use Rattle.frames.specs.Answers.{kind_number}
use Rattle.frames.specs.declared.commands.Kind.{Kind}
use Rattle.host.specs.Reader.{all_bytes, all_marks, reader_number, reader_bytes, reader_marks, HandsOut}

-- whether a kind is that of a read
pub no_read : (kind : Kind) → (kind ≡ Kind.Read → ⊥) → kind_number kind ≡ 2 → ⊥
unfolding kind_number
no_read Kind.Write n e = omega arith
no_read Kind.Read n e = n refl
no_read Kind.Clear n e = omega arith
no_read Kind.Conversion n e = omega arith

pub a_read : (kind : Kind) → kind ≡ Kind.Read → kind_number kind ≡ 2
unfolding kind_number
a_read kind e = rw e

-- Each section takes one test as passed. The kind comes with its meaning; r, b and m are the lengths of the reply and of the lent bytes and marks.
module _ (n code r b m : ℕ) where
  pub number_1 : outside n ≡ true → reader_number n code r b m ≡ 1
  unfolding reader_number first pick
  number_1 h = rw h

  module _ (i : outside n ≡ false) (kind : ℕ) (f : kind ≡ kind_of code) where
    pub number_2 : kind ≡ 0 → reader_number n code r b m ≡ 2
    unfolding reader_number first pick
    number_2 k = simp (i, ← f, k)

    module _ (z : kind ≡ 0 → ⊥) where
      pub number_7 : (kind ≡ 2 → ⊥) → reader_number n code r b m ≡ 7
      unfolding reader_number first pick
      number_7 k = simp (i, ← f, ne_eqb _ _ z, ne_eqb _ _ k)

      module _ (k : kind ≡ 2) where
        pub number_3 : (r ≡ 4 + 8 * n → ⊥) → reader_number n code r b m ≡ 3
        unfolding reader_number first pick
        number_3 l = simp (i, ← f, k, ne_eqb _ _ l)

        module _ (l : r ≡ 4 + 8 * n) where
          pub number_5_bytes : b < 6 * n → reader_number n code r b m ≡ 5
          unfolding reader_number first pick
          number_5_bytes s = simp (i, ← f, k, eq-eqb _ _ l, lt-ltb _ _ s)

          module _ (s : 6 * n ≤ b) where
            pub number_5_marks : m < n → reader_number n code r b m ≡ 5
            unfolding reader_number first pick
            number_5_marks t = simp (i, ← f, k, eq-eqb _ _ l, le-ltb _ _ s, lt-ltb _ _ t)

            pub number_0 : n ≤ m → reader_number n code r b m ≡ 0
            unfolding reader_number first pick
            number_0 t = simp (i, ← f, k, eq-eqb _ _ l, le-ltb _ _ s, le-ltb _ _ t)

-- an accepted reply has eight bytes for each device
pub reply_length : (n code r b m : ℕ) → reader_number n code r b m ≡ 0 → r ≡ 4 + 8 * n
unfolding reader_number
reply_length n code r b m e =
    let t1 = none_first (outside n) 0 _ e in
    let t2 = none_first (eqb (kind_of code) 0) 1 _ t1.1 in
    let t7 = none_first (not (eqb (kind_of code) 2)) 6 _ t2.1 in
    let t3 = none_first (not (eqb r (4 + 8 * n))) 2 _ t7.1 in
    eqb-true r (4 + 8 * n) (not-false (eqb r (4 + 8 * n)) t3.0)

module _ (n code : ℕ) (reply bytes marks : List ℕ) where
  -- a refusal with the number v
  pub refused : (v : ℕ) → eqb v 0 ≡ false → reader_number n code (length reply) (length bytes) (length marks) ≡ v
      → HandsOut n code reply bytes marks v bytes marks
  unfolding reader_bytes reader_marks pick
  refused v z e = record { number = sym e; bytes_out = rw z; marks_out = rw z }

  -- what all devices give
  pub accepted : (bytes' marks' : List ℕ) → reader_number n code (length reply) (length bytes) (length marks) ≡ 0
      → bytes' ≡ over (all_bytes n reply) bytes → marks' ≡ over (all_marks n reply) marks → HandsOut n code reply bytes marks 0 bytes' marks'
  unfolding reader_bytes reader_marks pick
  accepted bytes' marks' e eb em = record { number = sym e; bytes_out = eb; marks_out = em }
