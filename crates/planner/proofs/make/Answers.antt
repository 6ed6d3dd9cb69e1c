use Rattle.law.specs.Choice.{via}
use Rattle.planner.specs.Made.{made_of}
use Rattle.planner.proofs.Ending.{unfit, locked, goes}
use Rattle.planner.proofs.make.Goals as goal

pub returns-then-not-fits : goal.returns-then-not-fits
returns-then-not-fits c =
    let a = c.args in
    unfit a.present.now a.wanted.now a.status a.list.now a.res (via c.fits.ensures c.if-not-fits.true)

pub returns-then-differs_locked : goal.returns-then-differs_locked
returns-then-differs_locked c =
    let a = c.args in
    locked a.present.now a.wanted.now a.status a.list.now a.res (via c.fits.ensures c.if-not-fits.false) (via c.differs_locked.ensures c.if-differs_locked.true)

pub returns : goal.returns
returns c =
    let a = c.args in
    let r = c.lay.result in
    goes a.present.now a.wanted.now a.status a.list.now a.res (made_of r c.lay.new.list) c.by_chip-chip.result
    (via c.fits.ensures c.if-not-fits.false) (via c.differs_locked.ensures c.if-differs_locked.false) c.by_chip-chip.ensures c.lay.ensures
