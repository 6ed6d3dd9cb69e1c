-- For each text and each buffers there is an outcome that the promise of the call admits: every text is readable or refused, and demand 3 has an answer for every trace.
use mathlib.Core.Path.{◌≡◌, refl, sym, subst, ◌∙◌}
use mathlib.Core.Bool.{true, false}
use mathlib.Core.Logic.{⊎_elim}
use mathlib.Core.List.{List}
use Prim.Native.Nat.{ℕ}
use lib.Dec.{ltb}
use lib.ListN.{length}
use Rattle.law.specs.Choice.{split, true_not_false}
use Rattle.meaning.specs.Meaning as meaning
use Rattle.meaning.specs.Meaning.{NeverBack, Means}
use Rattle.meaning.proofs.SomeAnswer.{some_answer}
use Rattle.record.specs.declared.Board.{Board}
use Rattle.record.specs.declared.Record.{Record}
use Rattle.record.specs.declared.Reply.{Reply}
use Rattle.record.specs.declared.Answer.{Answer}
use Rattle.record.specs.declared.Answer.TheVariants.{BadBuffers, TooLong}
use Rattle.image.specs.Images.{Images}
use Rattle.machine.specs.Machine.{Machine, machine_at_start, on_machine}
use Rattle.text.specs.Texts.{text_limit, Readable, Refused}
use Rattle.text.proofs.OneReading.{readable_one, refused_one, not_both}
use Rattle.text.proofs.SomeReading.{some_reading}
use Rattle.buffers.specs.Buffers.{Buffers, fit}
use Rattle.call.specs.Replay.{Ended, refused_as, shown, Replays}
use Rattle.demands.specs.Demands.{SomeOutcome}
use Rattle.demands.proofs.Readable.{readable_back, status_known}
use Rattle.demands.proofs.Telling.{Steady, steady_start, steady_after, tell}

-- demand 3 has an answer for the records from the start, whatever the images
pub answer_from_start : (b : Board) (rs : List Record) → NeverBack (on_machine b) rs → (x : Images) → (z : meaning.Answer Machine Reply) × Means (on_machine b) rs (machine_at_start b x) z
answer_from_start b rs back x = some_answer (on_machine b) Steady (steady_after b) (tell b) rs back (machine_at_start b x) (steady_start b x) (status_known b x)

module _ (text : List ℕ) (x : Buffers) where
  unfit_replays : fit x ≡ false → Replays text x (refused_as BadBuffers 0 0 x)
  unfit_replays f =
      let no : fit x ≡ true → ⊥ = λ t. true_not_false (sym t ∙ f) in
      record { unfit = λ t. refl; long = λ t. absurd (no t); bad = λ t. absurd (no t); played = λ t. absurd (no t); read = λ t. absurd (no t) }

  module _ (t : fit x ≡ true) where
    fits : {P : Type 0} → fit x ≡ false → P
    fits f = absurd (true_not_false (sym t ∙ f))

    long_replays : ltb text_limit (length text) ≡ true → Replays text x (refused_as TooLong 0 0 x)
    long_replays l =
        let no : ltb text_limit (length text) ≡ false → ⊥ = λ s. true_not_false (sym l ∙ s) in
        record { unfit = λ f. fits f; long = λ t l. refl; bad = λ t s. absurd (no s); played = λ t s. absurd (no s); read = λ t s. absurd (no s) }

    module _ (l : ltb text_limit (length text) ≡ false) where
      short : {P : Type 0} → ltb text_limit (length text) ≡ true → P
      short s = absurd (true_not_false (sym s ∙ l))

      bad_replays : (a : Answer) (n k : ℕ) → Refused text a n k → Replays text x (refused_as a n k x)
      bad_replays a n k w = record {
        unfit = λ f. fits f;
        long = λ t s. short s;
        bad = λ t s a' n' k' w'. let e = refused_one w w' in λ i. refused_as (e.0 i) (e.1 i) (e.2 i) x;
        played = λ t s b rs q. absurd (not_both q w);
        read = λ t s. some_reading text;
      }

      -- e shows b and rs by an answer of demand 3
      abbrev By : Ended → Board → List Record → Type 0
      By e b rs = (z : meaning.Answer Machine Reply) × Means (on_machine b) rs (machine_at_start b x.images) z × (e ≡ shown b rs z)

      played_replays : (b : Board) (rs : List Record) → Readable text b rs → (e : Ended) → By e b rs → Replays text x e
      played_replays b rs q e y = record {
        unfit = λ f. fits f;
        long = λ t s. short s;
        bad = λ t s a n k w. absurd (not_both q w);
        played = λ t s b' rs' q'. let k = readable_one q q' in subst (λ (o : List Record). By e b' o) k.1 (subst (λ (c : Board). By e c rs) k.0 y);
        read = λ t s. some_reading text;
      }

      read_replays : (e : Ended) × Replays text x e
      read_replays =
          ⊎_elim
          (λ r.
          let z = answer_from_start r.0 r.1 (readable_back r.2) x.images in
          let e = shown r.0 r.1 z.0 in
          (e, played_replays r.0 r.1 r.2 e (z.0, z.1, refl)))
          (λ r. (refused_as r.0 r.1 r.2 x, bad_replays r.0 r.1 r.2 r.3)) (some_reading text)

pub some_outcome : SomeOutcome
some_outcome text x =
    split (fit x)
    (λ t. split (ltb text_limit (length text)) (λ l. (refused_as TooLong 0 0 x, long_replays text x t l)) (λ l. read_replays text x t l))
    (λ f. (refused_as BadBuffers 0 0 x, unfit_replays text x f))
