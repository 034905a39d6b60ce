-- Laws of what all devices give: its length, and one turn of the loop that lays it over lent memory. Assumes nothing.
use mathlib.Core.Path.{◌≡◌, refl, ap, ◌∙◌}
use mathlib.Core.List.{List}
use Prim.Native.Nat.{ℕ, ◌+◌, ◌*◌, ◌-◌, ◌≤◌, ◌<◌}
use native.Mathlib.Numerals.{add-one}
use native.Mathlib.Omega.{arith}
use lib.ListN.{length, take, drop, set, length-take, length-drop}
use borrow.Rule.Slice.PartMut.{put_mid}
use Rattle.lent.specs.Memory.{over}
use Rattle.lent.proofs.Over.{over_more, over_set}
use Rattle.lent.proofs.Parts.{length_pieces, length_values}
use Rattle.frames.specs.Places.{eight}
use Rattle.host.specs.Marks.{mark_of, bytes_of}
use Rattle.host.specs.Reader.{all_bytes, all_marks}
use Rattle.host.proofs.MarkLaws.{length_bytes_of}

pub length_eight : (k : ℕ) (reply : List ℕ) → 8 * k + 12 ≤ length reply → length (eight k reply) ≡ 8
unfolding eight
length_eight k reply h = simp (length-take, length-drop) (omega arith)

-- what a device gives is six bytes
pub length_own : (k : ℕ) (reply : List ℕ) → 8 * k + 12 ≤ length reply → length (bytes_of (eight k reply)) ≡ 6
length_own k reply h = length_bytes_of (eight k reply) (length_eight k reply h)

pub length_all_bytes : (k : ℕ) (reply : List ℕ) → 4 + 8 * k ≤ length reply → length (all_bytes k reply) ≡ 6 * k
unfolding all_bytes
length_all_bytes k reply h =
    length_pieces (λ (j : ℕ). all_bytes j reply) (λ (j : ℕ). bytes_of (eight j reply)) refl (λ j. refl) 6 k (λ j l. length_own j reply (omega arith)) k (omega arith)

pub length_all_marks : (k : ℕ) (reply : List ℕ) → length (all_marks k reply) ≡ k
unfolding all_marks
length_all_marks k reply = length_values (λ (j : ℕ). all_marks j reply) (λ (j : ℕ). mark_of (eight j reply)) refl (λ j. refl) k

-- One turn of the loop, at device k: its part of the reply, and what is laid over the lent bytes and the lent marks.
module _ (k : ℕ) (reply : List ℕ) where
  its_own : take (4 + 8 * k + 8 - (4 + 8 * k)) (drop (4 + 8 * k) reply) ≡ eight k reply
  unfolding eight
  its_own = let size : 4 + 8 * k + 8 - (4 + 8 * k) ≡ 8 = omega arith in rw size

  pub turn_bytes : (old bytes part : List ℕ) → 4 + 8 * k + 8 ≤ length reply → 6 * k + 6 ≤ length old → bytes ≡ over (all_bytes k reply) old
      → part ≡ bytes_of (take (4 + 8 * k + 8 - (4 + 8 * k)) (drop (4 + 8 * k) reply))
      → put_mid (6 * k) (6 * k + 6 - 6 * k) bytes part ≡ over (all_bytes (k + 1) reply) old
  unfolding all_bytes
  turn_bytes old bytes part hr ho eb ep =
      let own : part ≡ bytes_of (eight k reply) = ep ∙ ap bytes_of its_own in
      let six : length part ≡ 6 = ap length own ∙ length_own k reply (omega arith) in
      ap (λ (l : List ℕ). put_mid (6 * k) (6 * k + 6 - 6 * k) l part) eb
      ∙ over_more (all_bytes k reply) part old (6 * k) (6 * k + 6) (length_all_bytes k reply (omega arith)) (omega arith) ho
      ∙ rw (add-one, own)

  pub turn_marks : (old marks : List ℕ) (mark : ℕ) → k < length old → marks ≡ over (all_marks k reply) old
      → mark ≡ mark_of (take (4 + 8 * k + 8 - (4 + 8 * k)) (drop (4 + 8 * k) reply))
      → set marks k mark ≡ over (all_marks (k + 1) reply) old
  unfolding all_marks
  turn_marks old marks mark h em e =
      ap (λ (l : List ℕ). set l k mark) em ∙ over_set (all_marks k reply) old k mark (length_all_marks k reply) h ∙ rw (add-one, e, its_own)
