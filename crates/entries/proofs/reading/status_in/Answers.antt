use Rattle.std.proofs.Common.{◌≡◌, Ok, rules}
use Rattle.field.proofs.Answers.{tells_got}
use Rattle.field.proofs.Reading.{got_one}
use Rattle.entries.proofs.Status.{not_three, spelled}
use Rattle.entries.proofs.reading.status_in.Goals as goal

pub returns-then-text-ne3 : goal.returns-then-text-ne3
returns-then-text-ne3 c = not_three _ c.if-text-ne3.true

pub returns : goal.returns
returns c =
    let e : c.read_hex.result ≡ Ok (c.in_ok-status.status, c.in_ok-status.field-0-1) = search rules in
    spelled _ _ _ c.if-text-ne3.false c.if-text-ne10.false (got_one tells_got c.read_hex.ensures _ _ e)
