use Rattle.std.proofs.Common.{◌≡◌, ℕ, sym, ap, ◌∙◌, arith}
use Rattle.page.specs.Geometry.{flash_sectors}
use Rattle.fewest.specs.declared.Test.{Test}
use Rattle.fewest.specs.Below.{sum_start, sum_more}
use Rattle.fewest.specs.Plan.{pages_of, test_in, programs_in}
use Rattle.planner.proofs.Way.count_programs.Goals as goal

pub loop-s-init : goal.loop-s-init
loop-s-init c = (omega arith, sym (sum_start _))

pub loop-s-preserved : goal.loop-s-preserved
loop-s-preserved c =
    let a = c.args in
    let l = c.loop-s in
    let f : ℕ → ℕ = λ i. pages_of a.self.contents.present.now a.self.contents.wanted.now (test_in a.self.contents.present.now a.self.contents.wanted.now a.self.status a.self.chip i) i in
    let e : c.pages_of-count.result ≡ f l.s = c.pages_of-count.ensures.value ∙ ap (λ (t : Test). pages_of a.self.contents.present.now a.self.contents.wanted.now t l.s) c.test_in.ensures in
    (omega (arith, c.pages_of-count.ensures.small), omega (arith, l.invariant.1, e, sum_more l.s f))

pub returns-clause-value : goal.returns-clause-value
unfolding programs_in
returns-clause-value c =
    let l = c.loop-s in
    let e : l.s ≡ flash_sectors = omega arith in
    rw e at l.invariant.1
