-- `frames::groups::put_group` fills the part with the bytes and their word. Assumes nothing.
use Rattle.std.proofs.Common.{ap, ◌∙◌}
use Rattle.pec.specs.Group.{two_bytes}
use Rattle.frames.proofs.GroupLaws.{high_first, group_put}
use Rattle.frames.proofs.groups.put_group.Goals as goal

pub returns : goal.returns
returns c =
    let word = high_first c.pec_of_six.result c.to_be_bytes-word.result c.pec_of_six.type_inv c.to_be_bytes-word.ensures in
    group_put c.args.bytes.now c.args.part.now c.copy_six.new.part c.to_be_bytes-word.result c.copy_from_slice.new.self c.requires.0 c.requires.1 c.copy_six.ensures
    c.copy_from_slice.ensures.after (word ∙ ap two_bytes c.pec_of_six.ensures)
