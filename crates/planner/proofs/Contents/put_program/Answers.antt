use Rattle.std.proofs.Common.{◌≡◌, ℕ, ◌+◌, ◌-◌, ◌*◌, ap, ◌∙◌, take, drop, arith}
use Rattle.planner.proofs.Laying.{program_laid}
use Rattle.planner.proofs.Contents.put_program.Goals as goal

pub returns : goal.returns
returns c =
    let a = c.args in
    let p = c.requires in
    let whole : 256 * a.n + 256 - 256 * a.n ≡ 256 = omega arith in
    program_laid a.list.now c.put_head.new.list c.fill_page.new.part a.self.wanted.now a.n a.at (((a.at + 4) + 256) - (a.at + 4))
    c.put_head.ensures (c.fill_page.ensures ∙ ap (λ (k : ℕ). take k (drop (256 * a.n) a.self.wanted.now)) whole) a.self.wanted_whole p.1 (omega arith) p.0
