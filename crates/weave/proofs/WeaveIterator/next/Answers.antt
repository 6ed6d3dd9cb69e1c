use Rattle.std.proofs.Common.{◌≡◌, refl, arith}
use Rattle.weave.proofs.WovenLaws.{TakesFrom, levels_taken, trace_taken, next_none, next_some}
use Rattle.weave.proofs.WeaveIterator.next.Goals as goal
use Rattle.weave.proofs.WeaveIterator.next.Goals.{Joined-i, in-0, in-1, in-2, in-3, in_default}

taken : (c : Joined-i) → TakesFrom c.args.self.now c.match-i.self c.first_least-i.result c.match-i.branch'
taken c =
    elim c.match-i.branch [
      | in-0 w ↦ rw (w.self-is, w.branch'-is, w.in-0.is) (levels_taken _ _ _ _ refl refl refl _ _ w.take_head.ensures refl refl (λ q. q))
      | in-1 w ↦ rw (w.self-is, w.branch'-is, w.in-1.is) (levels_taken _ _ _ _ refl refl refl _ _ w.take_head-in-1.ensures refl refl (λ q. q))
      | in-2 w ↦ rw (w.self-is, w.branch'-is, w.in-2.is) (trace_taken _ _ _ _ refl refl refl _ _ w.take_head-in-2.ensures refl refl (λ s q. (s _ q.0, q.1, q.2)))
      | in-3 w ↦ rw (w.self-is, w.branch'-is, w.in-3.is) (trace_taken _ _ _ _ refl refl refl _ _ w.take_head-in-3.ensures refl refl (λ s q. (q.0, s _ q.1, q.2)))
      | in_default w ↦
          let last : c.first_least-i.result ≡ 4 = omega arith in
          rw (w.self-is, w.branch'-is, last) (trace_taken _ _ _ _ refl refl refl _ _ w.take_head-in_default.ensures refl refl (λ s q. (q.0, q.1, s _ q.2)))
    ]

pub returns-in_err-rec-clause-steps : goal.returns-in_err-rec-clause-steps
returns-in_err-rec-clause-steps c =
    rw c.from_residual.ensures (next_none c.first_least-i.ensures.least (taken (goal.at.returns-in_err-rec-clause-steps c).Joined-i) c.in_err-rec.was)

pub returns-clause-steps : goal.returns-clause-steps
returns-clause-steps c =
    next_some c.first_least-i.ensures.least (taken (goal.at.returns-clause-steps c).Joined-i) c.in_ok-rec.was
