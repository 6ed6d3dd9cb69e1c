use Rattle.std.proofs.Common.{◌∙◌, refl, rules}
use borrow.Author.Tests.{tests}
use Rattle.std.specs.List.{range_with_len}
use Rattle.std.proofs.lemmas.Iterator.{YieldsList-from_range}
use Rattle.std.proofs.lemmas.Iterator.Consumers.{YieldsList-from_filter, count_from_yields_List}
use Rattle.std.proofs.lemmas.List.Sums.{length-filter}
use Rattle.fewest.specs.declared.Test.TheVariants.{Rises}
use Rattle.fewest.specs.Plan.{in_sector}
use Rattle.planner.proofs.Counting.{counted}
use Rattle.planner.proofs.Contents.count_rising.Goals as goal

pub returns-clause-value : goal.returns-clause-value
returns-clause-value c =
    let a = c.args in
    let f = in_sector a.self.present.now a.self.wanted.now Rises in
    count_from_yields_List c.filter.result c.count.result c.count.ensures.ran (YieldsList-from_filter _ f (YieldsList-from_range 0 4 4 c.filter.ensures.source refl) c.filter.ensures.closure (λ x r q k. search (rules, tests)))
    ∙ length-filter f (range_with_len 0 4)
    ∙ counted 4 f
