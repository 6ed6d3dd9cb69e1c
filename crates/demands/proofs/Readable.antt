-- A readable text's records as demand 3 speaks of them: no later record has an earlier stamp, each stamp fits in four bytes, and the status is known at the start.
use mathlib.Core.Path.{◌≡◌, refl}
use mathlib.Core.Bool.{false}
use mathlib.Core.List.{List}
use Prim.Native.Nat.{ℕ, ◌≤◌}
use Rattle.law.specs.Lists.{all_map}
use Rattle.law.specs.Words.{All}
use Rattle.meaning.specs.Meaning as meaning
use Rattle.record.specs.declared.Board.{Board}
use Rattle.record.specs.declared.Record.{Record}
use Rattle.image.specs.Images.{Images}
use Rattle.field.specs.Decimal.{largest}
use Rattle.line.specs.Records.{RecordOk}
use Rattle.machine.specs.Machine.{machine_at_start, on_machine}
use Rattle.text.specs.Texts.{Readable}

pub readable_back : {text : List ℕ} {b : Board} {rs : List Record} → Readable text b rs → meaning.NeverBack (on_machine b) rs
readable_back {text} {b} {rs} q = q.acceptable.never_back

pub stamps_fit : (rs : List Record) → All RecordOk rs → All (λ (r : Record). r.stamp ≤ largest) rs
stamps_fit rs h = all_map RecordOk (λ (r : Record). r.stamp ≤ largest) (λ r o. o.0) rs h

pub status_known : (b : Board) (x : Images) → (on_machine b).lost (machine_at_start b x) ≡ false
status_known b x = refl
