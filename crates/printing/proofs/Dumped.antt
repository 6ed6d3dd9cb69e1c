-- The call on buffers that were lent for dumps, and then a listing of what it left, print what is to be printed.
use Prim.Native.Nat.{ℕ}
use native.Mathlib.Omega.{arith}
use mathlib.Core.Path.{refl, sym, subst}
use mathlib.Core.Logic.{⊎_elim}
use mathlib.Core.List.{List}
use lib.Dec.{ltb}
use lib.ListN.{length}
use borrow.Author.Tests.{ltb-false}
use Rattle.law.specs.Choice.{split}
use Rattle.meaning.specs.Meaning.{Means}
use Rattle.record.specs.declared.Answer.TheVariants.{BadBuffers, TooLong}
use Rattle.image.specs.Images.{Images}
use Rattle.machine.specs.Machine.{machine_at_start, on_machine}
use Rattle.text.specs.Texts.{text_limit}
use Rattle.text.proofs.Fields.{field_small}
use Rattle.buffers.specs.Buffers.{Buffers}
use Rattle.call.specs.Replay.{Ended, Replays}
use Rattle.demands.proofs.Ways.{refused_line_lem, line_fits}
use Rattle.listing.specs.Bytes.{is_refusal}
use Rattle.listing.specs.Listing.{Lists, Formats}
use Rattle.listing.specs.Pages.{ListsPages}
use Rattle.printing.specs.Printed.{Dumps, all_taken, Kind, PrintedAs, PrintsAs, Prints, PrintsPages}
use Rattle.printing.specs.Lending.{LentFor, LeftFor}
use Rattle.printing.proofs.Shown.{line_refusal}
use Rattle.printing.proofs.Says.{Sized, Says, says_records, says_pages, written_out, left_alone}

module _ {of : Kind} {listed : Buffers → List ℕ} {size : ℕ} {text : List ℕ} {d : Dumps} {x : Buffers} {e : Ended} {w : List ℕ} (lent : LentFor d x) (p : Replays text x e)
    (s : Says of listed size text x e w) (whole : Sized listed size x) where
  -- the listing of what the call left is what is printed
  printed_so : PrintedAs of text d w
  unfolding is_refusal
  printed_so = record {
    unfit = λ t. (s.refused BadBuffers 0 0 (p.unfit (lent.not_taken t)) whole refl (omega arith) (omega arith)).0;
    long = λ t l. (s.refused TooLong 0 0 (p.long (lent.taken t).0 l) whole refl (omega arith) (omega arith)).0;
    bad = λ t l a n k b. (s.refused a n k (p.bad (lent.taken t).0 l a n k b) whole (line_refusal (refused_line_lem b)) (line_fits (ltb-false _ _ l) b) (omega (arith, field_small b))).0;
    played = λ t l b rs q.
        let f = (lent.taken t).0 in
        let z = p.played f l b rs q in
        (z.0, subst (λ (i : Images). Means (on_machine b) rs (machine_at_start b i) z.0) (lent.taken t).1 z.1, (s.shown f (ltb-false _ _ l) b rs q z.0 z.1).0);
  }

  -- the buffers keep their lengths
  lengths : Sized listed size e.buffers
  unfolding is_refusal
  lengths =
      split (all_taken d)
      (λ t.
      let f = (lent.taken t).0 in
      split (ltb text_limit (length text)) (λ l. (s.refused TooLong 0 0 (p.long f l) whole refl (omega arith) (omega arith)).1)
      (λ l. ⊎_elim (λ r. let z = p.played f l r.0 r.1 r.2 in (s.shown f (ltb-false _ _ l) r.0 r.1 r.2 z.0 z.1).1)
      (λ r. (s.refused r.0 r.1 r.2 (p.bad f l r.0 r.1 r.2 r.3) whole (line_refusal (refused_line_lem r.3)) (line_fits (ltb-false _ _ l) r.3) (omega (arith, field_small r.3))).1) (p.read f l)))
      (λ t. (s.refused BadBuffers 0 0 (p.unfit (lent.not_taken t)) whole refl (omega arith) (omega arith)).1)

  prints : {old new : List ℕ} {n : ℕ} → Formats size (listed e.buffers) e.buffers.result w old new n → PrintsAs of text d old new n
  prints k = record { printed = w; is = printed_so; written = λ room. written_out k lengths w refl room; short = λ room. left_alone k lengths room }

-- ---- as the code has it
module _ {text : List ℕ} {d : Dumps} {times replies result old new : List ℕ} {n : ℕ} (left : LeftFor text d times replies result) where
  pub prints_records : Lists text replies result old new n → Prints text d old new n
  prints_records k =
      let h = subst (λ (r : List ℕ). Lists text left.ended.buffers.replies r old new n) (sym left.result_is) (subst (λ (r : List ℕ). Lists text r result old new n) (sym left.replies_are) k) in
      prints left.is_lent left.is_ended (says_records left.is_ended h.records h.listed) (left.is_lent.replies, left.is_lent.result) h.formats

  pub prints_pages : ListsPages times result old new n → PrintsPages text d old new n
  prints_pages k =
      let h = subst (λ (r : List ℕ). ListsPages left.ended.buffers.times r old new n) (sym left.result_is) (subst (λ (r : List ℕ). ListsPages r result old new n) (sym left.times_are) k) in
      prints left.is_lent left.is_ended (says_pages left.is_ended) (left.is_lent.times, left.is_lent.result) h
