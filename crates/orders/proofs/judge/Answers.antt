use Rattle.std.proofs.Common.{◌≤◌, refl, ap, not}
use Rattle.meaning.specs.Meaning.{F, E, L, most}
use Rattle.orders.specs.declared.Held.{Held}
use Rattle.orders.specs.Verdicts.{Few, Judged}
use Rattle.orders.proofs.Verdicts.{settled, differs, is_lost, is_kept}
use Rattle.orders.proofs.judge.Goals as goal

-- past the three tests
few : (h : Held) → h.flash.count ≤ most F → h.eeprom.count ≤ most E → h.lines.count ≤ most L → Few h
few h f e l F = f
few h f e l E = e
few h f e l L = l

pub returns-then-held-gt-MOST_BUS : goal.returns-then-held-gt-MOST_BUS
unfolding Judged
returns-then-held-gt-MOST_BUS c = (F, c.if-held-gt-MOST_BUS.true)

pub returns-then-held-gt-MOST_BUS-2 : goal.returns-then-held-gt-MOST_BUS-2
unfolding Judged
returns-then-held-gt-MOST_BUS-2 c = (E, c.if-held-gt-MOST_BUS-2.true)

pub returns-then-held-gt-MOST_LINE : goal.returns-then-held-gt-MOST_LINE
unfolding Judged
returns-then-held-gt-MOST_LINE c = (L, c.if-held-gt-MOST_LINE.true)

pub returns-then-not-agree : goal.returns-then-not-agree
returns-then-not-agree c = differs _ _ _ (few c.args.held c.if-held-gt-MOST_BUS.false c.if-held-gt-MOST_BUS-2.false c.if-held-gt-MOST_LINE.false) F refl (settled _ _ c.agree.ensures) (ap not c.if-not-agree.true)

pub returns-then-not-agree-2 : goal.returns-then-not-agree-2
returns-then-not-agree-2 c = differs _ _ _ (few c.args.held c.if-held-gt-MOST_BUS.false c.if-held-gt-MOST_BUS-2.false c.if-held-gt-MOST_LINE.false) E refl (settled _ _ c.agree-2.ensures) (ap not c.if-not-agree-2.true)

pub returns-then-lost_after : goal.returns-then-lost_after
returns-then-lost_after c =
    is_lost _ _ _ (few c.args.held c.if-held-gt-MOST_BUS.false c.if-held-gt-MOST_BUS-2.false c.if-held-gt-MOST_LINE.false) (settled _ _ c.agree.ensures) (ap not c.if-not-agree.false)
    (settled _ _ c.agree-2.ensures) (ap not c.if-not-agree-2.false) _ c.lost_after.ensures c.if-lost_after.true

pub returns : goal.returns
returns c =
    is_kept _ _ _ (few c.args.held c.if-held-gt-MOST_BUS.false c.if-held-gt-MOST_BUS-2.false c.if-held-gt-MOST_LINE.false) (settled _ _ c.agree.ensures) (ap not c.if-not-agree.false)
    (settled _ _ c.agree-2.ensures) (ap not c.if-not-agree-2.false) _ c.lost_after.ensures c.if-lost_after.false
