-- The verdict rests on the controls: by demand 3 of the call, and since two orders of one stamp's records end alike on the machine exactly when they do on the controls.
use mathlib.Core.Logic.Iff
use Rattle.machine.specs.Machine.{machine_at_start}
use Rattle.enough.proofs.Enough.{good_start}
use Rattle.enough.proofs.Pairs.{earliest_by_controls, settled_by_controls}
use Rattle.demands.specs.Verdict.{VerdictByControls, WhateverWasHeld}
use Rattle.demands.proofs.Readable.{readable_back}
use Rattle.demands.proofs.Stops.{stops_earliest, settled_means}

pub verdict_by_controls : VerdictByControls
verdict_by_controls text x e b rs p k =
    let good = good_start b k.readable.board.0.0 in
    let back = readable_back k.readable in
    let start = machine_at_start b x.images in
    record {
      stops = λ n t. Iff.trans (stops_earliest p k.fits k.within k.readable n t) (earliest_by_controls b start good rs back n t);
      settles = Iff.trans (settled_means p k.fits k.within k.readable) (settled_by_controls b start good rs back);
    }

pub whatever_was_held : WhateverWasHeld
whatever_was_held text x y e e' b rs p p' k k' =
    let h = verdict_by_controls text x e b rs p k in
    let h' = verdict_by_controls text y e' b rs p' k' in
    record { stops = λ n t. Iff.trans (h.stops n t) (Iff.symm (h'.stops n t)); settles = Iff.trans h.settles (Iff.symm h'.settles) }
