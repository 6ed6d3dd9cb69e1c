use Rattle.std.proofs.Common.{◌≡◌, ◌+◌, ◌≤◌, drop}
use Rattle.call.specs.Steps.{run_desk}
use Rattle.desk.specs.Desk.{desk_in, Keeps}
use Rattle.desk.proofs.Desk.play_all.Given as goal

-- what is still to play from here gives the whole
abbrev pub invariant-loop-rec : goal.invariant-loop-rec
invariant-loop-rec l = record {
  keeps : Keeps l.initial.self l.self;
  numbered : l.self.number ≤ l.initial.self.number + l.rec-index;
  counted : l.self.count ≤ l.initial.self.count + l.rec-index;
  rest : run_desk l.initial.self.board (drop l.rec-index l.records) (desk_in l.cur l.self) ≡ run_desk l.initial.self.board l.records (desk_in l.initial.cur l.initial.self);
}
