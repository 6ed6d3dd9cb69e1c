-- What is found at a stamp of one record: it is not crowded and has one order, so only the status after it is asked.
use Rattle.std.specs.Prelude.{Bool, ℕ, set, replicate}
use Rattle.law.specs.Words.{pick}
use Rattle.meaning.specs.Channels.{most_in_all}
use Rattle.record.specs.declared.Record.{Record}
use Rattle.record.specs.declared.Board.{Board}
use Rattle.controls.specs.declared.Controls.{Controls}
use Rattle.controls.specs.Play.{moved_of, lost_of}
use Rattle.orders.specs.declared.Verdict.{Verdict}
use Rattle.orders.specs.declared.Verdict.TheVariants.{Lost, Passes}
use Rattle.stamps.specs.declared.Judgement.{Judgement}
use Rattle.stamps.specs.Gathering.{no_record}

-- whether the status is lost after a record
abbrev pub lost_after : Board → Controls → Record → Bool
lost_after b c r = lost_of (moved_of b c r).controls

abbrev pub alone_verdict : Board → Controls → Record → Verdict
alone_verdict b c r = pick (lost_after b c r) Lost Passes

-- the judgement, where the text goes on at `next`
abbrev pub alone_judgement : Board → Controls → Record → ℕ → Judgement
alone_judgement b c r next = record { verdict = alone_verdict b c r; records = record { records = set (replicate most_in_all no_record) 0 r; count = 1 }; next = next; stamp = r.stamp }
