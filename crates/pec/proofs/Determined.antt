-- Two results that the statement of `pec` allows are equal. Assumes nothing.
use mathlib.Core.Path.{◌≡◌, sym, ◌∙◌}
use mathlib.Core.List.{List}
use Prim.Native.Nat.{ℕ}
use Rattle.pec.specs.Word.{CheckWord}

pub word_determined : (bytes : List ℕ) (r r' : ℕ) → CheckWord bytes r → CheckWord bytes r' → r ≡ r'
word_determined bytes r r' w w' = w.word ∙ sym w'.word
