use native.Mathlib.Omega.{arith}
use mathlib.Core.Path.{ap, ◌∙◌}
use lib.ListN.{length}
use Rattle.listing.proofs.Stores.{copied}
use Rattle.listing.proofs.output.copy_line.Goals as goal

pub returns : goal.returns
returns c =
    let e = ap length c.as_slice-bytes.ensures.held in
    (omega (arith, e), copied _ _ _ _ _ (omega arith) (omega (arith, e)) (c.copy_from_slice.ensures.after ∙ c.as_slice-bytes.ensures.held))
