use Rattle.std.proofs.Common.{◌≡◌, ◌∷◌, ◌+◌, ◌-◌, ap, ◌∙◌, List, ℕ, length, rules, arith}
use Rattle.std.proofs.lemmas.List.Edits.{sets}
use Rattle.fewest.specs.Fewest.{address}
use Rattle.planner.specs.Kinds.{kind_byte}
use Rattle.planner.proofs.Laying.{landed}
use Rattle.planner.proofs.put_head.Goals as goal

pub returns : goal.returns
returns c =
    let a = c.args in
    let e : c.copy_from_slice.new.self ≡ kind_byte a.kind ∷ address a.place = search rules in
    landed a.list.now c.copy_from_slice.new.self a.at (a.at + 4 - a.at) (ap (λ (l : List ℕ). length l) e ∙ omega arith) (omega arith)
    ∙ ap (λ (l : List ℕ). sets a.list.now a.at l) e
