use Rattle.std.proofs.Common.{ap, arith}
use Rattle.law.specs.Deciding.{decides_true, decides_false}
use Rattle.controls.specs.declared.Moved.{Moved}
use Rattle.orders.proofs.Compared.{same_controls, same_reply, other_reply}
use Rattle.orders.proofs.Stamp.{none_left, bus_fails, buses_left, both_left, lines_left, reply_first, after_bus, after_line, closing_tied, meets_tied, meets_on, meets_none, met}
use Rattle.orders.proofs.+bus_next_line_next.Goals as goal
use Rattle.orders.proofs.+bus_next_line_next.Goals.{line_next-then-not-closes+else-not-bus_next, line_next-else-not-closes}

pub bus_next-returns-then-ne : goal.bus_next-returns-then-ne
bus_next-returns-then-ne t c =
    decides_false (λ a. other_reply _ _ c.ne.ensures c.if-ne.true (reply_first _ _ _ _ _ _ _ (omega arith) _ c.play-step.ensures a))

pub bus_next-bus_next-requires : goal.bus_next-bus_next-requires
bus_next-bus_next-requires t c =
    (omega arith, omega arith)

pub bus_next-returns-then-not-bus_next : goal.bus_next-returns-then-not-bus_next
bus_next-returns-then-not-bus_next t c =
    after_bus _ _ _ _ _ _ _ (omega arith) _ c.play-step.ensures (same_reply _ _ c.ne.ensures c.if-ne.false)
    (bus_fails _ _ _ _ _ _ c.if-at-tied.true (decides_false (c.bus_next.ensures.fails c.if-not-bus_next.true)))

pub bus_next-line_next-requires : goal.bus_next-line_next-requires
bus_next-line_next-requires t c =
    (omega arith, (omega arith, meets_tied _ _ _ _ _ _ c.if-at-tied.true _ (omega arith) _ c.meeting-met.ensures (c.bus_next.ensures.holds c.if-not-bus_next.false)))

pub bus_next-returns-then-il-tied : goal.bus_next-returns-then-il-tied
bus_next-returns-then-il-tied t c =
    after_bus _ _ _ _ _ _ _ (omega arith) _ c.play-step.ensures (same_reply _ _ c.ne.ensures c.if-ne.false)
    (both_left _ _ _ _ _ _ c.if-at-tied.true _ (omega arith) (c.bus_next.ensures.holds c.if-not-bus_next.false) c.line_next.ensures)

pub bus_next-returns-then-at-tied : goal.bus_next-returns-then-at-tied
bus_next-returns-then-at-tied t c =
    after_bus _ _ _ _ _ _ _ (omega arith) _ c.play-step.ensures (same_reply _ _ c.ne.ensures c.if-ne.false)
    (decides_true (buses_left _ _ _ _ _ _ c.if-at-tied.true c.if-il-tied.false (c.bus_next.ensures.holds c.if-not-bus_next.false)))

pub bus_next-line_next-requires-then-il-tied-2 : goal.bus_next-line_next-requires-then-il-tied-2
bus_next-line_next-requires-then-il-tied-2 t c =
    (omega arith, (omega arith, meets_none _ _ _ _ _ c.if-at-tied.false))

pub bus_next-returns-then-il-tied-2 : goal.bus_next-returns-then-il-tied-2
bus_next-returns-then-il-tied-2 t c =
    after_bus _ _ _ _ _ _ _ (omega arith) _ c.play-step.ensures (same_reply _ _ c.ne.ensures c.if-ne.false)
    (lines_left _ _ _ _ _ _ c.if-at-tied.false c.if-il-tied-2.true c.line_next-then-il-tied-2.ensures)

pub bus_next-returns : goal.bus_next-returns
bus_next-returns t c =
    after_bus _ _ _ _ _ _ _ (omega arith) _ c.play-step.ensures (same_reply _ _ c.ne.ensures c.if-ne.false)
    (none_left _ _ _ _ _ c.if-at-tied.false c.if-il-tied-2.false (same_controls _ _ c.eq.ensures))

pub line_next-bus_next-requires : goal.line_next-bus_next-requires
line_next-bus_next-requires t c =
    (omega (arith, c.requires.within), omega (arith, c.requires.within))

pub line_next-returns-then-not-bus_next : goal.line_next-returns-then-not-bus_next
line_next-returns-then-not-bus_next t c =
    after_line _ _ _ _ _ _ _ (ap (λ (m : Moved). m.controls) c.play-step.ensures)
    (bus_fails _ _ _ _ _ _ c.if-ib-tied.true (decides_false (c.bus_next.ensures.fails c.if-not-bus_next.true)))

pub line_next-line_next-requires : goal.line_next-line_next-requires
line_next-line_next-requires t c =
    (omega (arith, c.requires.within), (omega (arith, c.requires.within), meets_on _ _ _ _ _ _ c.if-at-tied.true _ (ap (λ (m : Moved). m.controls) c.play-on.ensures) c.requires.met))

pub line_next-returns-then-at-tied : goal.line_next-returns-then-at-tied
line_next-returns-then-at-tied t c =
    after_line _ _ _ _ _ _ _ (ap (λ (m : Moved). m.controls) c.play-step.ensures)
    (both_left _ _ _ _ _ _ c.if-ib-tied.true _ c.if-at-tied.true (elim c.if-not-closes.branch [
      | line_next-then-not-closes+else-not-bus_next w ↦ w.bus_next.ensures.holds w.if-not-bus_next.false
      | line_next-else-not-closes w ↦ closing_tied _ _ _ _ _ _ _ c.if-ib-tied.true _ (c.closes.ensures w.if-not-closes.false) (met _ _ _ _ _ c.requires.met c.if-ib-tied.true)
    ]) c.line_next.ensures)

pub line_next-returns-then-ib-tied : goal.line_next-returns-then-ib-tied
line_next-returns-then-ib-tied t c =
    after_line _ _ _ _ _ _ _ (ap (λ (m : Moved). m.controls) c.play-step.ensures)
    (decides_true (buses_left _ _ _ _ _ _ c.if-ib-tied.true c.if-at-tied.false (elim c.if-not-closes.branch [
      | line_next-then-not-closes+else-not-bus_next w ↦ w.bus_next.ensures.holds w.if-not-bus_next.false
      | line_next-else-not-closes w ↦ closing_tied _ _ _ _ _ _ _ c.if-ib-tied.true _ (c.closes.ensures w.if-not-closes.false) (met _ _ _ _ _ c.requires.met c.if-ib-tied.true)
    ])))

pub line_next-line_next-requires-then-at-tied-2 : goal.line_next-line_next-requires-then-at-tied-2
line_next-line_next-requires-then-at-tied-2 t c =
    (omega (arith, c.requires.within), (omega (arith, c.requires.within), meets_none _ _ _ _ _ c.if-ib-tied.false))

pub line_next-returns-then-at-tied-2 : goal.line_next-returns-then-at-tied-2
line_next-returns-then-at-tied-2 t c =
    after_line _ _ _ _ _ _ _ (ap (λ (m : Moved). m.controls) c.play-step.ensures)
    (lines_left _ _ _ _ _ _ c.if-ib-tied.false c.if-at-tied-2.true c.line_next-then-at-tied-2.ensures)

pub line_next-returns : goal.line_next-returns
line_next-returns t c =
    after_line _ _ _ _ _ _ _ (ap (λ (m : Moved). m.controls) c.play-step.ensures)
    (none_left _ _ _ _ _ c.if-ib-tied.false c.if-at-tied-2.false (same_controls _ _ c.eq.ensures))
