-- The exported call and a listing joined: what is written out of what the call left.
use Prim.Native.Nat.{ℕ, ◌≤◌}
use native.Mathlib.Omega.{arith}
use mathlib.Core.Path.{◌≡◌, refl}
use mathlib.Core.Bool.{true}
use mathlib.Core.List.{List}
use borrow.Author.Tests.{lt-ltb, le-ltb}
use lib.ListN.{length}
use Rattle.record.specs.declared.Answer.{Answer}
use Rattle.record.specs.declared.Answer.TheVariants.{BadBuffers, TooLong}
use Rattle.record.specs.Answers.{answer_number}
use Rattle.field.specs.Decimal.{largest}
use Rattle.text.proofs.Fields.{field_small}
use Rattle.buffers.specs.Buffers.{Buffers}
use Rattle.call.specs.Replay.{Ended, refused_as, Replays}
use Rattle.demands.proofs.Ways.{refused_line_lem, line_fits}
use Rattle.listing.specs.Bytes.{is_refusal}
use Rattle.listing.specs.Lines.{refused_line}
use Rattle.listing.specs.Listing.{listing_room, Formats}
use Rattle.printing.specs.Printed.{Kind, Written}
use Rattle.printing.specs.Joined.{Joined, AllJoined, AllPagesJoined, OnlyPlayed}
use Rattle.printing.proofs.Shown.{exactly_played, line_refusal}
use Rattle.printing.proofs.Says.{Sized, Says, says_records, says_pages, written_out}

module _ {of : Kind} {listed : Buffers → List ℕ} {size : ℕ} {text : List ℕ} {x : Buffers} {e : Ended} {w : List ℕ} (p : Replays text x e) (s : Says of listed size text x e w)
    {old new : List ℕ} {n : ℕ} (k : Formats size (listed e.buffers) e.buffers.result w old new n) (room : listing_room ≤ length old) where
  -- a refusal of the text or of the buffers
  refused_written : (a : Answer) (line j : ℕ) → e ≡ refused_as a line j x → Sized listed size x → is_refusal (answer_number a) ≡ true → line ≤ largest → j ≤ largest → Written (refused_line (answer_number a) line j) old new n
  refused_written a line j q l is h i = let r = s.refused a line j q l is h i in written_out k r.1 _ r.0 room

  joined_so : Joined of listed size text x old new n
  unfolding is_refusal
  joined_so = record {
    unfit = λ f l r. refused_written BadBuffers 0 0 (p.unfit f) (l, r) refl (omega arith) (omega arith);
    long = λ f h. refused_written TooLong 0 0 (p.long f (lt-ltb _ _ h)) (s.right f) refl (omega arith) (omega arith);
    bad = λ f h a line j b. refused_written a line j (p.bad f (le-ltb _ _ h) a line j b) (s.right f) (line_refusal (refused_line_lem b)) (line_fits h b) (omega (arith, field_small b));
    shown = λ b rs t z means. let r = s.shown t.fits t.within b rs t.readable z means in written_out k r.1 _ r.0 room;
  }

pub joined : AllJoined
joined text x e p old new n k room = joined_so p (says_records p k.records k.listed) k.formats room

pub pages_joined : AllPagesJoined
pages_joined text x e p old new n k room = joined_so p (says_pages p) k room

pub only_played : OnlyPlayed
only_played text x e p b rs t z means = exactly_played p t.fits t.within t.readable z means
