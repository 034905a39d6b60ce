-- Two results that the reader's statement allows are equal: every part of it is an equation. Assumes nothing.
use mathlib.Core.Path.{◌≡◌, sym, ap, ◌∙◌}
use mathlib.Core.List.{List}
use Prim.Native.Nat.{ℕ}
use Rattle.host.specs.Reader.{reader_bytes, reader_marks, HandsOut}

pub reader_determined : (n code : ℕ) (reply bytes marks : List ℕ) (r r' : ℕ) (b b' m m' : List ℕ)
    → HandsOut n code reply bytes marks r b m → HandsOut n code reply bytes marks r' b' m' → (r ≡ r') × (b ≡ b') × (m ≡ m')
reader_determined n code reply bytes marks r r' b b' m m' h h' =
    let same : r ≡ r' = h.number ∙ sym h'.number in (
      same,
      h.bytes_out ∙ ap (λ (x : ℕ). reader_bytes x n reply bytes) same ∙ sym h'.bytes_out,
      h.marks_out ∙ ap (λ (x : ℕ). reader_marks x n reply marks) same ∙ sym h'.marks_out,
    )
