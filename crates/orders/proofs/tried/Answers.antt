use Rattle.std.proofs.Common.{arith}
use Rattle.law.specs.Deciding.{decides_true, decides_false}
use Rattle.orders.proofs.Stamp.{bus_fails, both_left, meets_tied, settles, lineless, busless}
use Rattle.orders.proofs.tried.Goals as goal

pub returns-then-tied-eq0 : goal.returns-then-tied-eq0
returns-then-tied-eq0 c = decides_true (lineless _ _ c.if-tied-eq0.true)

pub returns-then-tied-eq0-2 : goal.returns-then-tied-eq0-2
returns-then-tied-eq0-2 c = decides_true (busless _ _ c.if-tied-eq0-2.true)

pub returns-then-not-bus_next : goal.returns-then-not-bus_next
returns-then-not-bus_next c =
    settles _ _ _ c.reference-want.ensures
    (bus_fails _ _ _ _ _ _ (omega (arith, c.if-tied-eq0-2.false)) (decides_false (c.bus_next.ensures.fails c.if-not-bus_next.true)))

pub line_next-requires : goal.line_next-requires
line_next-requires c =
    record {
      within = omega (arith, c.if-tied-eq0.false);
      met = meets_tied _ _ _ _ _ _ (omega (arith, c.if-tied-eq0-2.false)) _ (omega (arith, c.if-tied-eq0.false)) _ c.meeting-met.ensures (c.bus_next.ensures.holds c.if-not-bus_next.false);
    }

pub returns : goal.returns
returns c =
    settles _ _ _ c.reference-want.ensures
    (both_left _ _ _ _ _ _ (omega (arith, c.if-tied-eq0-2.false)) _ (omega (arith, c.if-tied-eq0.false)) (c.bus_next.ensures.holds c.if-not-bus_next.false) c.line_next.ensures)
