use Rattle.std.proofs.Common.{rules, subst}
use Rattle.law.specs.Choice.{via}
use Rattle.buffers.specs.Buffers.{Buffers, buffers_of}
use Rattle.buffers.proofs.Fit.{fit_says}
use Rattle.call.specs.Replay.{ended_as, Replays}
use Rattle.walk.proofs.Ends.{replays_unfit, replays_long, replays_bad, replays_played}
use Rattle.desk.proofs.hazelcrook_replay.Goals as goal

pub returns-then-not-fits_all : goal.returns-then-not-fits_all
returns-then-not-fits_all c =
    let r = c.refuse_whole.ensures in
    replays_unfit _ _ _ _ (via c.fits_all.ensures c.if-not-fits_all.true) r.0 r.1

pub returns-then-too_long : goal.returns-then-too_long
returns-then-too_long c =
    let r = c.refuse_whole-then-too_long.ensures in
    replays_long _ _ (via c.fits_all.ensures c.if-not-fits_all.false) _ _ (via c.too_long.ensures c.if-too_long.true) r.0 r.1

pub replay-requires-clause-fits : goal.replay-requires-clause-fits
replay-requires-clause-fits c =
    let f = fit_says _ (via c.fits_all.ensures c.if-not-fits_all.false) in
    (f.times_long, f.replies_long, f.result_long)

pub returns-in-Ok : goal.returns-in-Ok
returns-in-Ok c =
    let a = c.args in
    subst (λ (x : Buffers). Replays a.text.now (buffers_of a.flash.now a.flash_mask.now a.eeprom.now a.eeprom_mask.now a.times.now a.replies.now a.res.now) (ended_as c.replay.result x))
    (search rules)
    (replays_played _ _ (via c.fits_all.ensures c.if-not-fits_all.false) (via c.too_long.ensures c.if-too_long.false) _ c.check_text.ensures _ _ c.in-Ok.is _ c.replay.ensures.runs)

pub returns-in-Err : goal.returns-in-Err
returns-in-Err c =
    let r = c.refuse.ensures in
    replays_bad _ _ (via c.fits_all.ensures c.if-not-fits_all.false) (via c.too_long.ensures c.if-too_long.false) _ c.check_text.ensures _ c.in-Err.is _ _ r.0 r.1
