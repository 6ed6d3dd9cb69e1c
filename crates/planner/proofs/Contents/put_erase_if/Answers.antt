use Rattle.std.proofs.Common.{ℕ, suc, List, length, refl, ap, ◌∙◌}
use Rattle.std.proofs.lemmas.List.Edits.{sets}
use Rattle.law.specs.Choice.{via}
use Rattle.fewest.specs.declared.Test.TheVariants.{Rises}
use Rattle.fewest.specs.Entries.{sector_erase}
use Rattle.fewest.specs.Plan.{in_sector}
use Rattle.planner.proofs.Laying.{put_yes, put_no, next_yes, next_no, fits_yes, erase_entry}
use Rattle.planner.proofs.Contents.put_erase_if.Goals as goal

pub returns-then-not-in_sector-clause-list_after : goal.returns-then-not-in_sector-clause-list_after
returns-then-not-in_sector-clause-list_after c =
    let a = c.args in
    put_no (sector_erase (suc a.s)) (in_sector a.self.present.now a.self.wanted.now Rises a.s) a.at a.list.now (via c.in_sector.ensures c.if-not-in_sector.true)

pub returns-then-not-in_sector-clause-next : goal.returns-then-not-in_sector-clause-next
returns-then-not-in_sector-clause-next c =
    let a = c.args in
    next_no (sector_erase (suc a.s)) (in_sector a.self.present.now a.self.wanted.now Rises a.s) a.at (via c.in_sector.ensures c.if-not-in_sector.true)

pub put_head-requires : goal.put_head-requires
put_head-requires c =
    let a = c.args in
    fits_yes (sector_erase (suc a.s)) (in_sector a.self.present.now a.self.wanted.now Rises a.s) a.at 4 (length a.list.now)
    (via c.in_sector.ensures c.if-not-in_sector.false) refl c.requires.1

pub returns-clause-list_after : goal.returns-clause-list_after
returns-clause-list_after c =
    let a = c.args in
    put_yes (sector_erase (suc a.s)) (in_sector a.self.present.now a.self.wanted.now Rises a.s) a.at a.list.now c.put_head.new.list
    (via c.in_sector.ensures c.if-not-in_sector.false) (c.put_head.ensures ∙ ap (λ (v : List ℕ). sets a.list.now a.at v) (erase_entry a.s))

pub returns-clause-next : goal.returns-clause-next
returns-clause-next c =
    let a = c.args in
    next_yes (sector_erase (suc a.s)) (in_sector a.self.present.now a.self.wanted.now Rises a.s) a.at 4 (via c.in_sector.ensures c.if-not-in_sector.false) refl
