-- `pec::turn` takes one byte into the register, by an entry of the table and the table's rule. Assumes nothing.
use Rattle.std.proofs.Common.{ℕ, ◌/◌, List, get_or, ap, ◌∙◌, arith}
use lib.Bits.{bit_xor}
use Rattle.pec.proofs.Rule.{entry_follows}
use Rattle.pec.proofs.Byte.{index_lt, turned}
use Rattle.pec.proofs.turn.Goals as goal

pub returns : goal.returns
returns c =
    let a = c.args in
    let i = bit_xor (a.r / 128) a.byte in
    turned a.r a.byte _ c.requires (omega arith)
    (ap (λ (l : List ℕ). get_or l i 0) c.lent_table-table.ensures ∙ entry_follows i (index_lt a.r a.byte c.requires (omega arith)))
