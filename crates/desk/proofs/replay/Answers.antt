use Rattle.std.proofs.Common.{rules, subst, ap, sym, ◌∙◌, ℕ, replicate}
use Rattle.record.specs.Lengths.{replies_length}
use Rattle.times.specs.Times.{times_length}
use Rattle.machine.specs.Lent.{images_in}
use Rattle.buffers.specs.Buffers.{Buffers, result_after}
use Rattle.call.specs.Replay.{ended_as}
use Rattle.call.specs.Run.{Runs}
use Rattle.walk.proofs.Ends.{runs_written}
use Rattle.desk.proofs.replay.Goals as goal

pub returns-clause-runs : goal.returns-clause-runs
returns-clause-runs c =
    let a = c.args in
    let q = c.requires.fits in
    let p = c.put_answer.ensures in
    subst (λ (x : Buffers). Runs a.text.now a.first a.board (images_in a.images.now) (replicate times_length 0) (replicate replies_length 0) (ended_as c.put_answer.result x))
    (search rules)
    (runs_written _ _ _ _ _ _ c.run-end.result.answer _ _ _ _ _ _ _ _ c.run-end.ensures.runs
    (c.clear_all.ensures ∙ ap (λ (n : ℕ). replicate n 0) q.0)
    (c.clear_all-2.ensures ∙ ap (λ (n : ℕ). replicate n 0) q.1) (p.0 ∙ c.from.ensures)
    (p.1 ∙ ap (λ (n : ℕ). result_after n c.run-end.result.stamp c.run-end.new.self.count 0 a.res.now) (sym p.0)) q.2)
