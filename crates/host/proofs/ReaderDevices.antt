-- Each device stands alone: its mark and its six bytes are those of its own eight bytes of the reply. Assumes nothing.
use mathlib.Core.Path.{◌≡◌, refl, sym, ap, ap₂, ◌∙◌}
use mathlib.Core.Bool.{Bool, true, false}
use mathlib.Core.List.{List}
use Prim.Native.Nat.{ℕ, ◌+◌, ◌*◌, ◌≤◌, ◌<◌}
use native.Mathlib.Omega.{arith}
use borrow.Author.Tests.{eqb-true}
use lib.Dec.{eqb}
use lib.ListN.{length, get_or, drop}
use Rattle.lent.specs.Refusal.{pick}
use Rattle.lent.specs.Memory.{over}
use Rattle.lent.proofs.Over.{get_d_over}
use Rattle.lent.proofs.Parts.{piece_at, value_at}
use Rattle.frames.specs.Places.{six, eight}
use Rattle.frames.proofs.GroupLaws.{six_front}
use Rattle.host.specs.Marks.{mark_of, bytes_of}
use Rattle.host.specs.Reader.{all_bytes, all_marks, reader_number, reader_bytes, reader_marks, HandsOut}
use Rattle.host.proofs.ReaderLaws.{length_own, length_all_bytes, length_all_marks}
use Rattle.host.proofs.ReaderNumbers.{reply_length}

-- Device k's share of what n devices give.
pub mark_at : (n k : ℕ) (reply : List ℕ) → k < n → get_or (all_marks n reply) k 0 ≡ mark_of (eight k reply)
unfolding all_marks
mark_at n k reply h = value_at (λ (j : ℕ). all_marks j reply) (λ (j : ℕ). mark_of (eight j reply)) refl (λ j. refl) n k h

pub six_at : (n k : ℕ) (reply : List ℕ) → k < n → 4 + 8 * n ≤ length reply → six k (all_bytes n reply) ≡ bytes_of (eight k reply)
unfolding six all_bytes
six_at n k reply h r =
    piece_at (λ (j : ℕ). all_bytes j reply) (λ (j : ℕ). bytes_of (eight j reply)) refl (λ j. refl) 6 n (λ j l. length_own j reply (omega arith)) n k (omega arith) h

-- Device k's share of the lent memory at exit, for all inputs.
module _ (n code : ℕ) (reply bytes marks : List ℕ) (r : ℕ) (bytes' marks' : List ℕ) (k : ℕ) where
  pub device_mark : HandsOut n code reply bytes marks r bytes' marks' → k < n
      → get_or marks' k 0 ≡ pick (eqb r 0) (mark_of (eight k reply)) (get_or marks k 0)
  unfolding reader_marks pick
  device_mark h l = ap (λ (m : List ℕ). get_or m k 0) h.marks_out ∙ go (eqb r 0)
    where
      go : (b : Bool) → get_or (pick b (over (all_marks n reply) marks) marks) k 0 ≡ pick b (mark_of (eight k reply)) (get_or marks k 0)
      go true = get_d_over (all_marks n reply) marks k (omega (arith, length_all_marks n reply)) ∙ mark_at n k reply l
      go false = refl

  pub device_bytes : HandsOut n code reply bytes marks r bytes' marks' → k < n
      → six k bytes' ≡ pick (eqb r 0) (bytes_of (eight k reply)) (six k bytes)
  unfolding reader_bytes over pick
  device_bytes h l = ap (six k) h.bytes_out ∙ go (eqb r 0) refl
    where
      long : eqb r 0 ≡ true → length reply ≡ 4 + 8 * n
      long e = reply_length n code (length reply) (length bytes) (length marks) (sym h.number ∙ eqb-true r 0 e)

      go : (b : Bool) → eqb r 0 ≡ b → six k (pick b (over (all_bytes n reply) bytes) bytes) ≡ pick b (bytes_of (eight k reply)) (six k bytes)
      go true e =
          six_front k (all_bytes n reply) (drop (length (all_bytes n reply)) bytes) (omega (arith, length_all_bytes n reply (omega (arith, long e))))
          ∙ six_at n k reply l (omega (arith, long e))
      go false e = refl

-- Two replies that agree in device k's eight bytes give it the same mark and the same six bytes, whatever the other devices sent.
pub each_alone : (n code : ℕ) (reply reply' bytes marks : List ℕ) (r r' : ℕ) (b b' m m' : List ℕ) (k : ℕ)
    → HandsOut n code reply bytes marks r b m → HandsOut n code reply' bytes marks r' b' m'
    → length reply ≡ length reply' → k < n → eight k reply ≡ eight k reply'
    → (get_or m k 0 ≡ get_or m' k 0) × (six k b ≡ six k b')
each_alone n code reply reply' bytes marks r r' b b' m m' k h h' long l own =
    let same : r ≡ r' = h.number ∙ ap (λ (x : ℕ). reader_number n code x (length bytes) (length marks)) long ∙ sym h'.number in (
      device_mark n code reply bytes marks r b m k h l
          ∙ ap₂ (λ (x : ℕ) (g : List ℕ). pick (eqb x 0) (mark_of g) (get_or marks k 0)) same own
          ∙ sym (device_mark n code reply' bytes marks r' b' m' k h' l),
      device_bytes n code reply bytes marks r b m k h l
          ∙ ap₂ (λ (x : ℕ) (g : List ℕ). pick (eqb x 0) (bytes_of g) (six k bytes)) same own
          ∙ sym (device_bytes n code reply' bytes marks r' b' m' k h' l),
    )
