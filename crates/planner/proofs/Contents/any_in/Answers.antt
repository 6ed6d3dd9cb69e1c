use Rattle.std.proofs.Common.{◌≡◌, ℕ, ◌+◌, Bool, ◌||◌, sym, ap₂, ◌∙◌, get_or, arith}
use Rattle.fewest.specs.Below.{any_below, any_start, any_next}
use Rattle.fewest.specs.Plan.{holds, any_in}
use Rattle.planner.proofs.Counting.{either_last}
use Rattle.planner.proofs.Contents.any_in.Goals as goal

pub loop-q-init : goal.loop-q-init
loop-q-init c = sym (any_start _)

pub loop-q-preserved : goal.loop-q-preserved
loop-q-preserved c =
    let a = c.args in
    let l = c.loop-q in
    let f : ℕ → Bool = λ i. holds a.test (get_or a.self.present.now (a.first + i) 0) (get_or a.self.wanted.now (a.first + i) 0) in
    ap₂ (λ (x y : Bool). x || y) l.invariant c.tested-some.ensures ∙ either_last (any_below l.q f) (f l.q) ∙ sym (any_next l.q f)

pub returns : goal.returns
unfolding any_in
returns c =
    let l = c.loop-q in
    let e : l.q ≡ c.args.count = omega arith in
    rw e at l.invariant
