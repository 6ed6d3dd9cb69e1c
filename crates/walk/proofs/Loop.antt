-- The loop's turns, for whatever records the text is readable as.
use mathlib.Core.Path.{◌≡◌, refl, sym, ap, subst, ◌∙◌}
use mathlib.Core.Bool.{true, false}
use mathlib.Core.List.{List}
use Prim.Native.Nat.{ℕ, ◌≤◌, ◌<◌, min}
use lib.ListN.{length, take, replicate}
use Rattle.law.specs.Choice.{true_not_false}
use Rattle.meaning.specs.Channels.{most_in_all}
use Rattle.record.specs.declared.Board.{Board}
use Rattle.record.specs.declared.Record.{Record}
use Rattle.record.specs.declared.Answer.{Answer}
use Rattle.controls.specs.declared.Controls.{Controls}
use Rattle.controls.specs.Play.{start_of}
use Rattle.image.specs.Images.{Images}
use Rattle.line.specs.Boards.{spelled_board}
use Rattle.orders.specs.declared.Verdict.{Verdict}
use Rattle.orders.specs.declared.Verdict.TheVariants as verdict
use Rattle.orders.specs.Verdicts.{verdict_answer}
use Rattle.text.specs.Texts.{Readable, text_limit}
use Rattle.text.proofs.Theorems.{replies_fit}
use Rattle.record.specs.Lengths.{replies_length}
use Rattle.times.specs.Times.{times_length}
use Rattle.stamps.specs.declared.Judgement.{Judgement}
use Rattle.stamps.specs.Judging.{JudgesAt}
use Rattle.stamps.proofs.Found.{found_at}
use Rattle.call.specs.Steps.{Desk, desk_of, run_desk}
use Rattle.call.specs.Run.{ended_with, Runs, goes_on}
use Rattle.walk.proofs.Reaching.{Reaching, reaching_starts, reaching_ends, reaching_stops, reaching_passes}

pub goes_passes : (v : Verdict) → goes_on v ≡ true → v ≡ verdict.Passes
goes_passes verdict.Crowded e = absurd (true_not_false (sym e))
goes_passes verdict.Differ e = absurd (true_not_false (sym e))
goes_passes verdict.Lost e = absurd (true_not_false (sym e))
goes_passes verdict.Passes e = refl

module _ (text : List ℕ) (first : ℕ) (b : Board) (x : Images) (times replies : List ℕ) where
  -- the loop has come to a place, whatever the text is readable as
  unfoldable pub ComesTo : ℕ → Desk → Type 0
  ComesTo place d = (rs : List Record) (q : Readable text b rs) → first ≡ length (spelled_board b) → times ≡ replicate times_length 0 → replies ≡ replicate replies_length 0 → Reaching text b rs x q place d

  pub comes_first : (c : Controls) → c ≡ start_of b → ComesTo first (desk_of c x times replies 0 0)
  unfolding ComesTo
  comes_first c h rs q l w z =
      subst (Reaching text b rs x q first) (λ i. desk_of (sym h i) x (sym w i) (sym z i) 0 0) (reaching_starts text b rs x q first l)

  module _ (short : length text ≤ text_limit) (place : ℕ) (c : Controls) (y : Images) (noted old : List ℕ) (number count : ℕ) (here : ComesTo place (desk_of c y noted old number count)) where
    pub runs_out : length text ≤ place → Runs text first b x times replies (ended_with Answer.Settled 0 count y noted old)
    unfolding ComesTo
    runs_out l = record { runs = λ rs q h w z. reaching_ends text b rs x q (replies_fit q short) place _ (here rs q h w z) l }

    module _ (inside : place < length text) (j : Judgement) (judges : JudgesAt text place b c j) where
      pub runs_stops : goes_on j.verdict ≡ false → (a : Answer) → a ≡ verdict_answer j.verdict → Runs text first b x times replies (ended_with a j.stamp count y noted old)
      unfolding ComesTo
      runs_stops g a s = record {
        runs = λ rs q h w z.
            let r = here rs q h w z in
            let k = found_at judges r.rest r.ok r.left inside in
            rw s (reaching_stops text b rs x q (replies_fit q short) place _ r c refl j k g);
      }

      pub comes_next : goes_on j.verdict ≡ true → (d : Desk) (n : ℕ) → n ≡ min j.records.count most_in_all → d ≡ run_desk b (take n j.records.records) (desk_of c y noted old number count) → ComesTo j.next d
      unfolding ComesTo
      comes_next g d n m s rs q h w z =
          let r = here rs q h w z in
          let k = found_at judges r.rest r.ok r.left inside in
          reaching_passes text b rs x q (replies_fit q short) place _ r c refl j k g d (s ∙ ap (λ (k : ℕ). run_desk b (take k j.records.records) (desk_of c y noted old number count)) m)
