-- `entries::output::print_page`: the first bytes are printed.
use Rattle.std.proofs.Common.{◌≡◌, ◌+◌, ◌*◌, take, drop}
use Rattle.std.proofs.lemmas.List.Edits.{sets}
use Rattle.entries.specs.Printed.{hex_bytes}
use Rattle.entries.proofs.output.print_page.Given as goal

abbrev pub invariant-loop-byte : goal.invariant-loop-byte
invariant-loop-byte l =
    (l.at ≡ l.first + 2 * l.byte-index) × (l.out ≡ sets l.fn.out l.first (hex_bytes (take l.byte-index (drop l.from l.list))))
