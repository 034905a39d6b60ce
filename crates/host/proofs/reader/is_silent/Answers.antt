-- `host::reader::is_silent` is the definition: eight bytes 0xFF are one number, and no other eight bytes are it. Assumes nothing.
use Rattle.std.proofs.Common.{ℕ, ◌==◌, ap, ◌∙◌, arith}
use Rattle.lent.proofs.Bytes.{bytes_of}
use Rattle.host.proofs.MarkLaws.{silent_number}
use Rattle.host.proofs.reader.is_silent.Goals as goal

pub returns : goal.returns
returns c =
    let group = c.args.group.now in
    let bytes = bytes_of group (λ i. omega (arith, c.type_inv.group i)) in
    ap (λ (n : ℕ). n == 0xFFFFFFFFFFFFFFFF) c.eight_bytes.ensures ∙ silent_number group bytes c.requires
