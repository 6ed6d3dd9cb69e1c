use Rattle.std.proofs.Common.{ℕ, suc, Bool, false, ◌∙◌, refl, rules}
use borrow.Author.Tests.{tests}
use Rattle.std.proofs.lemmas.Iterator.{YieldsList-from_range}
use Rattle.std.proofs.lemmas.Iterator.Search.{any_from_yields_List}
use Rattle.law.specs.Words.{pick}
use Rattle.flash.specs.Code.{sector_locked}
use Rattle.fewest.specs.declared.Test.TheVariants.{Differs}
use Rattle.fewest.specs.Plan.{in_sector, differs_locked}
use Rattle.planner.proofs.Counting.{any_listed}
use Rattle.planner.proofs.Contents.differs_locked.Goals as goal

pub returns : goal.returns
unfolding differs_locked
returns c =
    let a = c.args in
    let f : ℕ → Bool = λ s. pick (sector_locked a.status (suc s)) (in_sector a.self.present.now a.self.wanted.now Differs s) false in
    any_from_yields_List f _ _ c.any.result c.any.ensures.ran (YieldsList-from_range 0 4 4 refl refl) (λ x r q k. search (rules, tests)) ∙ any_listed 4 f
