-- `pec::off_by` gives the difference of the two words of a group. Assumes nothing.
use Rattle.std.proofs.Common.{◌≡◌, ◌-◌, ℕ, ◌+◌, ◌*◌, List, get_or, length, ap, ap₂, ◌∙◌, arith}
use Rattle.std.proofs.lemmas.List.{get_or-drop}
use lib.Bits.{bit_xor}
use Rattle.pec.specs.Register.{pec_of}
use Rattle.pec.specs.Group.{off_by, sent, body}
use Rattle.pec.proofs.off_by.Goals as goal

pub returns : goal.returns
unfolding off_by sent body
returns c =
    ap₂ bit_xor
    (c.from_be_bytes.ensures ∙ ap₂ (λ (x y : ℕ). x * 256 + y) (at 0 (length g - 2) (omega arith)) (at 1 (length g - 1) (omega arith)))
    (c.pec-word.ensures.word ∙ ap pec_of c.split_at.ensures.front)
  where
    g : List ℕ
    g = c.args.group.now

    at : (i j : ℕ) → length g - 2 + i ≡ j → get_or c.split_at.result.1.now i 0 ≡ get_or g j 0
    at i j e = ap (λ (l : List ℕ). get_or l i 0) c.split_at.ensures.back ∙ get_or-drop (length g - 2) g i 0 ∙ ap (λ (n : ℕ). get_or g n 0) e
