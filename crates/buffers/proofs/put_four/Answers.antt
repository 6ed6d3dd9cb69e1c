use Rattle.std.proofs.Common.{arith, rules, ◌≡◌, length}
use Rattle.buffers.proofs.Stores.{part_set}
use Rattle.buffers.proofs.put_four.Goals as goal

pub returns : goal.returns
returns c =
    let a = c.args in
    let four : length a.bytes ≡ 4 = search rules in
    part_set a.s.now _ a.bytes a.at _ 4 c.copy_from_slice.ensures.after four (omega arith) c.requires
