use Rattle.std.proofs.Common.{length, ap, ◌∙◌, arith}
use Rattle.std.proofs.lemmas.List.Edits.{sets}
use Rattle.entries.proofs.Digits.{byte_length}
use Rattle.entries.proofs.Putting.{byte_held}
use Rattle.entries.proofs.output.print_byte.Goals as goal

pub copy_line-requires : goal.copy_line-requires
copy_line-requires c =
    let h = byte_held c.args.byte c.new.ensures c.hex.ensures in
    let n = byte_length c.args.byte in
    omega (arith, ap length h)

pub returns : goal.returns
returns c =
    let a = c.args in
    let h = byte_held a.byte c.new.ensures c.hex.ensures in
    let n = byte_length a.byte in
    (omega (arith, ap length h, c.copy_line.ensures.0), c.copy_line.ensures.1 ∙ ap (sets a.out.now a.at) h)
