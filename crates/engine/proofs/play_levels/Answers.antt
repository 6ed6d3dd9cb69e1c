use Rattle.std.proofs.Common.{not, ap, rules}
use Rattle.engine.proofs.CallLaws.{call_unfit, call_refused, call_both, images_same}
use Rattle.engine.proofs.play_levels.Goals as goal

pub returns-then-not-fits_images : goal.returns-then-not-fits_images
returns-then-not-fits_images c = call_unfit c.fits_images.ensures (ap not c.if-not-fits_images.true) c.into.ensures c.put_answer.ensures

pub returns-in-Err : goal.returns-in-Err
returns-in-Err c =
    call_refused c.fits_images.ensures (ap not c.if-not-fits_images.false) c.judge.ensures c.in-Err.is c.into-in-Err.ensures c.put_answer-in-Err.ensures

pub returns : goal.returns
returns c =
    call_both c.fits_images.ensures (ap not c.if-not-fits_images.false) c.judge.ensures c.in-Ok.is c.new-all.ensures.starts c.play_all.ensures.plays
    (images_same (search rules) (search rules) (search rules) (search rules)) c.into-2.ensures c.put_answer-2.ensures
