-- The writer's number in each case, in the order of the tests, and what each outcome has to show. Assumes nothing.
use mathlib.Core.Path.{◌≡◌, sym}
use mathlib.Core.Bool.{true, false}
use mathlib.Core.List.{List}
use Prim.Native.Nat.{ℕ, ◌≤◌, ◌<◌}
use borrow.Author.Tests.{eq-eqb, ne_eqb, lt-ltb, le-ltb}
use lib.Dec.{eqb}
use lib.ListN.{length}
use Rattle.lent.specs.Refusal.{pick, first}
use Rattle.lent.specs.Memory.{over}
use Rattle.frames.specs.Size.{outside}
use Rattle.frames.specs.Kind.{data_needed, frame_length}
use Rattle.frames.specs.Commands.{kind_of}
use Rattle.frames.specs.Frame.{frame_of}
use Rattle.frames.specs.Writer.{writer_number, writer_length, writer_out, Wrote}

-- Each section takes one test as passed. What the code holds by then (the kind, the length that the data have to have, the frame's length) comes with its meaning.
module _ (n code d o : ℕ) where
  pub number_1 : outside n ≡ true → writer_number n code d o ≡ 1
  unfolding writer_number first pick
  number_1 h = rw h

  module _ (i : outside n ≡ false) (kind : ℕ) (f : kind ≡ kind_of code) where
    pub number_2 : kind ≡ 0 → writer_number n code d o ≡ 2
    unfolding writer_number first pick
    number_2 k = simp (i, ← f, k)

    module _ (k : kind ≡ 0 → ⊥) (m : ℕ) (em : m ≡ data_needed n kind) where
      pub number_3 : (d ≡ m → ⊥) → writer_number n code d o ≡ 3
      unfolding writer_number first pick
      number_3 l = simp (i, ← f, ← em, ne_eqb _ _ k, ne_eqb _ _ l)

      module _ (l : d ≡ m) (size : ℕ) (es : size ≡ frame_length n kind) where
        pub number_5 : o < size → writer_number n code d o ≡ 5
        unfolding writer_number first pick
        number_5 s = simp (i, ← f, ← em, ← es, ne_eqb _ _ k, eq-eqb _ _ l, lt-ltb _ _ s)

        pub number_0 : size ≤ o → writer_number n code d o ≡ 0
        unfolding writer_number first pick
        number_0 s = simp (i, ← f, ← em, ← es, ne_eqb _ _ k, eq-eqb _ _ l, le-ltb _ _ s)

-- a refusal with the number m
pub refused : (n code : ℕ) (bytes out : List ℕ) (m : ℕ) → eqb m 0 ≡ false → writer_number n code (length bytes) (length out) ≡ m
    → Wrote n code bytes out (record { number = m; length = 0 }) out
unfolding writer_length writer_out pick
refused n code bytes out m z e = record { number = sym e; long = rw z; output = rw z }

-- the frame
pub accepted : (n code kind : ℕ) (bytes out out' : List ℕ) (size : ℕ) → kind ≡ kind_of code → writer_number n code (length bytes) (length out) ≡ 0
    → size ≡ frame_length n kind → out' ≡ over (frame_of n code bytes) out
    → Wrote n code bytes out (record { number = 0; length = size }) out'
unfolding writer_length writer_out pick
accepted n code kind bytes out out' size f e l a = record { number = sym e; long = rw (← f) l; output = a }
