use Rattle.std.proofs.Common.{rules, arith, refl, subst, ap, sym, ◌∙◌, ◌≡◌, ℕ, ◌≤◌, min, length, take}
use Rattle.std.proofs.Math.ListN.{length-take}
use Rattle.meaning.specs.Channels.{most_in_all}
use Rattle.record.specs.declared.Board.{Board}
use Rattle.record.specs.declared.Record.{Record}
use Rattle.stamps.specs.Judging.{JudgesAt}
use Rattle.stamps.proofs.Found.{onward}
use Rattle.call.specs.Steps.{run_desk}
use Rattle.call.proofs.Playing.{turned_alone}
use Rattle.walk.proofs.Loop.{comes_first, comes_next, runs_stops, runs_out, goes_passes}
use Rattle.desk.specs.Desk.{desk_in}
use Rattle.desk.proofs.Keeping.{kept_on, kept_past}
use Rattle.desk.proofs.Noting.{noted}
use Rattle.desk.proofs.Desk.run.Goals as goal

pub loop-place-init : goal.loop-place-init
loop-place-init c =
    let f = c.requires.fresh in
    record {
      keeps = search rules;
      numbered = omega (arith, f.none_played);
      counted = omega (arith, f.none_disagree);
      comes = rw (f.none_played, f.none_disagree) (comes_first _ _ _ _ _ _ _ c.start-cur.ensures);
    }

pub returns-in-Some-clause-runs : goal.returns-in-Some-clause-runs
returns-in-Some-clause-runs c =
    let i = c.loop-place.invariant in
    runs_stops _ _ _ _ _ _ c.requires.short _ _ _ _ _ _ _ i.comes c.loop-place-test.true _
    (subst (λ (b : Board). JudgesAt c.args.text.now c.loop-place.place b c.loop-place.cur c.judge_at-j.result) i.keeps.same_board c.judge_at-j.ensures)
    c.in-Some.ensures.0 _ c.in-Some.ensures.1

pub loop-place-smaller-then-j-eq1 : goal.loop-place-smaller-then-j-eq1
loop-place-smaller-then-j-eq1 c =
    let o = onward c.judge_at-j.ensures (goes_passes _ c.in_default.ensures) in
    omega (arith, o.0, o.1, c.loop-place-test.true)

pub loop-place-preserved-then-j-eq1 : goal.loop-place-preserved-then-j-eq1
loop-place-preserved-then-j-eq1 c =
    let i = c.loop-place.invariant in
    let j = c.judge_at-j.result in
    let o = onward c.judge_at-j.ensures (goes_passes _ c.in_default.ensures) in
    let n = c.note.ensures in
    let long : length j.records.records ≡ most_in_all = search rules in
    record {
      keeps = kept_past n.keeps i.keeps refl refl c.play-played.ensures.keeps refl refl refl refl;
      numbered = omega (arith, i.numbered, o.0, n.notes.number);
      counted = omega (arith, i.counted, o.0, n.counts);
      comes = comes_next _ _ _ _ _ _ c.requires.short _ _ _ _ _ _ _ i.comes c.loop-place-test.true _
          (subst (λ (b : Board). JudgesAt c.args.text.now c.loop-place.place b c.loop-place.cur j) i.keeps.same_board c.judge_at-j.ensures)
          c.in_default.ensures _ 1 (ap (λ (k : ℕ). min k most_in_all) (sym c.if-j-eq1.true))
          (turned_alone _ j.records.records _ _ _ _ (omega (arith, long)) i.keeps.same_board (noted _ _ _ _ _ _ _ _ _ c.play-played.ensures.turns n.notes));
    }

pub loop-place-smaller : goal.loop-place-smaller
loop-place-smaller c =
    let o = onward c.judge_at-j.ensures (goes_passes _ c.in_default.ensures) in
    omega (arith, o.0, o.1, c.loop-place-test.true)

pub loop-place-preserved : goal.loop-place-preserved
loop-place-preserved c =
    let i = c.loop-place.invariant in
    let j = c.judge_at-j.result in
    let o = onward c.judge_at-j.ensures (goes_passes _ c.in_default.ensures) in
    let p = c.play_all-cur.ensures in
    let long : length j.records.records ≡ most_in_all = search rules in
    let few : c.min-many.result ≤ most_in_all = omega arith in
    let bound : length (take c.min-many.result j.records.records) ≤ most_in_all = omega (arith, length-take {A = Record} c.min-many.result j.records.records) in
    record {
      keeps = kept_on i.keeps p.keeps;
      numbered = omega (arith, i.numbered, o.0, p.counts.0, bound);
      counted = omega (arith, i.counted, o.0, p.counts.1, bound);
      comes = comes_next _ _ _ _ _ _ c.requires.short _ _ _ _ _ _ _ i.comes c.loop-place-test.true _
          (subst (λ (b : Board). JudgesAt c.args.text.now c.loop-place.place b c.loop-place.cur j) i.keeps.same_board c.judge_at-j.ensures)
          c.in_default.ensures _ _ c.min-many.ensures
          (p.runs ∙ ap (λ (b : Board). run_desk b (take c.min-many.result j.records.records) (desk_in c.loop-place.cur c.loop-place.self)) i.keeps.same_board);
    }

pub returns-clause-runs : goal.returns-clause-runs
returns-clause-runs c = runs_out _ _ _ _ _ _ c.requires.short _ _ _ _ _ _ _ c.loop-place.invariant.comes c.loop-place-test.false
