use Rattle.std.proofs.Common.{sym, ap, ◌∙◌}
use Rattle.stamps.specs.declared.Gathered.{Gathered}
use Rattle.stamps.proofs.Turns.{reads_here, takes_on, takes_other, takes_none}
use Rattle.stamps.proofs.gather.Goals as goal

pub loop-rec-smaller : goal.loop-rec-smaller
loop-rec-smaller c =
    (takes_on _ _ _ _ c.loop-rec.invariant.so_far _ (reads_here c.loop-rec.invariant.here c.loop-rec.invariant.at c.next_record.ensures) _ _ c.in-Ok.is c.if-rec-stamp.false _ c.gather_one.ensures).1

pub loop-rec-preserved : goal.loop-rec-preserved
loop-rec-preserved c = record {
  here = ap (λ r. r.now) c.moved_to-reader.ensures.0 ∙ c.loop-rec.invariant.here;
  at = c.moved_to-reader.ensures.1 ∙ sym (ap (λ (g : Gathered). g.next) c.gather_one.ensures);
  so_far = (takes_on _ _ _ _ c.loop-rec.invariant.so_far _ (reads_here c.loop-rec.invariant.here c.loop-rec.invariant.at c.next_record.ensures) _ _ c.in-Ok.is c.if-rec-stamp.false _ c.gather_one.ensures).0;
}

pub returns-then-rec-stamp : goal.returns-then-rec-stamp
returns-then-rec-stamp c = takes_other _ _ _ _ c.loop-rec.invariant.so_far _ (reads_here c.loop-rec.invariant.here c.loop-rec.invariant.at c.next_record.ensures) _ _ c.in-Ok.is c.if-rec-stamp.true

pub returns-in_default : goal.returns-in_default
returns-in_default c = takes_none _ _ _ _ c.loop-rec.invariant.so_far _ (reads_here c.loop-rec.invariant.here c.loop-rec.invariant.at c.next_record.ensures) c.in_default.is
