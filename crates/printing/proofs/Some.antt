-- Of each text and dumps something is printed; with `printed_one` it is exactly one thing.
use Prim.Native.Nat.{ℕ}
use mathlib.Core.Path.{◌≡◌, refl, sym, subst, ◌∙◌}
use mathlib.Core.Bool.{true, false}
use mathlib.Core.Logic.{⊎_elim}
use mathlib.Core.List.{List}
use lib.Dec.{ltb}
use lib.ListN.{length}
use Rattle.law.specs.Choice.{split, true_not_false}
use Rattle.meaning.specs.Meaning as meaning
use Rattle.meaning.specs.Meaning.{Means}
use Rattle.record.specs.declared.Board.{Board}
use Rattle.record.specs.declared.Record.{Record}
use Rattle.record.specs.declared.Reply.{Reply}
use Rattle.record.specs.declared.Answer.{Answer}
use Rattle.record.specs.declared.Answer.TheVariants.{BadBuffers, TooLong}
use Rattle.record.specs.Answers.{answer_number}
use Rattle.machine.specs.Machine.{Machine, machine_at_start, on_machine}
use Rattle.text.specs.Texts.{text_limit, Readable, Refused}
use Rattle.text.proofs.OneReading.{readable_one, refused_one, not_both}
use Rattle.demands.proofs.Readable.{readable_back}
use Rattle.demands.proofs.SomeOutcome.{answer_from_start}
use Rattle.listing.specs.Lines.{refused_line}
use Rattle.printing.specs.Printed.{Dumps, images_from, all_taken, Kind, PrintedAs}
use Rattle.printing.specs.Joined.{OnePrinted}
use Rattle.printing.proofs.One.{printed_one}
use Rattle.text.proofs.SomeReading.{some_reading}

module _ (of : Kind) (text : List ℕ) (d : Dumps) where
  -- a dump is not taken
  unfit_printed : all_taken d ≡ false → PrintedAs of text d (refused_line (answer_number BadBuffers) 0 0)
  unfit_printed f =
      let no : all_taken d ≡ true → ⊥ = λ t. true_not_false (sym t ∙ f) in
      record { unfit = λ t. refl; long = λ t. absurd (no t); bad = λ t. absurd (no t); played = λ t. absurd (no t) }

  module _ (t : all_taken d ≡ true) where
    fit : {P : Type 0} → all_taken d ≡ false → P
    fit f = absurd (true_not_false (sym t ∙ f))

    long_printed : ltb text_limit (length text) ≡ true → PrintedAs of text d (refused_line (answer_number TooLong) 0 0)
    long_printed l =
        let no : ltb text_limit (length text) ≡ false → ⊥ = λ s. true_not_false (sym l ∙ s) in
        record { unfit = λ f. fit f; long = λ t l. refl; bad = λ t s. absurd (no s); played = λ t s. absurd (no s) }

    module _ (l : ltb text_limit (length text) ≡ false) where
      short : {P : Type 0} → ltb text_limit (length text) ≡ true → P
      short s = absurd (true_not_false (sym s ∙ l))

      pub bad_printed : (a : Answer) (n k : ℕ) → Refused text a n k → PrintedAs of text d (refused_line (answer_number a) n k)
      bad_printed a n k w = record {
        unfit = λ f. fit f;
        long = λ t s. short s;
        bad = λ t s a' n' k' w'. let e = refused_one w w' in λ i. refused_line (answer_number (e.0 i)) (e.1 i) (e.2 i);
        played = λ t s b rs q. absurd (not_both q w);
      }

      -- what is printed of b and rs by an answer of demand 3
      abbrev By : List ℕ → Board → List Record → Type 0
      By p b rs = (z : meaning.Answer Machine Reply) × Means (on_machine b) rs (machine_at_start b (images_from d)) z × (p ≡ of b rs z)

      pub played_printed : (b : Board) (rs : List Record) → Readable text b rs → (p : List ℕ) → By p b rs → PrintedAs of text d p
      played_printed b rs q p y = record {
        unfit = λ f. fit f;
        long = λ t s. short s;
        bad = λ t s a n k w. absurd (not_both q w);
        played = λ t s b' rs' q'. let e = readable_one q q' in subst (λ (x : List Record). By p b' x) e.1 (subst (λ (x : Board). By p x rs) e.0 y);
      }

      read_printed : (p : List ℕ) × PrintedAs of text d p
      read_printed =
          ⊎_elim
          (λ r.
          let z = answer_from_start r.0 r.1 (readable_back r.2) (images_from d) in
          let p = of r.0 r.1 z.0 in
          (p, played_printed r.0 r.1 r.2 p (z.0, z.1, refl)))
          (λ r. (refused_line (answer_number r.0) r.1 r.2, bad_printed r.0 r.1 r.2 r.3)) (some_reading text)

  some_printed : (p : List ℕ) × PrintedAs of text d p
  some_printed =
      split (all_taken d)
      (λ t. split (ltb text_limit (length text)) (λ l. (refused_line (answer_number TooLong) 0 0, long_printed t l)) (λ l. read_printed t l))
      (λ f. (refused_line (answer_number BadBuffers) 0 0, unfit_printed f))

pub one_printed : OnePrinted
one_printed of text d = let p = some_printed of text d in (p.0, p.1, λ w h. printed_one h p.1)
