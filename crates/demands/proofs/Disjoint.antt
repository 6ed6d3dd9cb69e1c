-- A doubtful bit is 0 in the value, everywhere and always: a replay that is lent images without a bit set in both leaves such images, whatever it answers, and no
-- reply byte that it delivers has one either. By the records as written: each cycle, whole or cut, keeps it (image/proofs/Keeping).
use mathlib.Core.Path.{◌≡◌, refl, ap₂, ◌∙◌}
use mathlib.Core.Bool.{true, false}
use mathlib.Core.List.{List, [], ◌∷◌, ◌++◌}
use Prim.Native.Nat.{ℕ, zero, suc, ◌+◌, ◌-◌, ◌*◌}
use native.Mathlib.Omega.{arith}
use lib.Bits.{bit_and, and_zero_r}
use lib.Dec.{ltb}
use lib.ListN.{length, get_or, replicate}
use Rattle.law.specs.Words.{All}
use Rattle.meaning.specs.Meaning.{after}
use Rattle.meaning.specs.Listing.{said}
use Rattle.record.specs.declared.Board.{Board}
use Rattle.record.specs.declared.Record.{Record}
use Rattle.record.specs.declared.Event.{Event}
use Rattle.record.specs.declared.Event.TheVariants as event
use Rattle.record.specs.declared.Skeleton.{Skeleton}
use Rattle.record.specs.declared.Skeleton.TheVariants as skeleton
use Rattle.record.specs.declared.Reply.{Reply}
use Rattle.record.specs.Replies.{reply_value, reply_mask}
use Rattle.cell.specs.Rules.{Disjoint}
use Rattle.record.specs.declared.Chip.{Chip}
use Rattle.image.specs.Image.{Image, Clean}
use Rattle.image.specs.Images.{AllClean}
use Rattle.image.proofs.Keeping.{clean_program_page, clean_cut_program_page, clean_erase_all, clean_cut_erase_all, clean_store_page, clean_cut_store_page}
use Rattle.controls.specs.Play.{moved_of}
use Rattle.machine.specs.Replies.{delivered}
use Rattle.machine.proofs.EachCycle.{EachCycle, images_keep}
use Rattle.machine.specs.Machine.{Machine, machine_at_start, image_for, on_machine, play_on, says_on}
use Rattle.record.specs.Lengths.{replies_length}
use Rattle.buffers.specs.Buffers.{Buffers, fit}
use Rattle.buffers.proofs.Fit.{Fit, fit_says}
use Rattle.text.specs.Texts.{text_limit, Readable}
use Rattle.call.specs.Replay.{Ended, refused_as, reply_lines, padded, Replays}
use Rattle.demands.proofs.Readable.{readable_back}
use Rattle.demands.specs.Lines.{records_of, left_by}
use Rattle.demands.proofs.Shown.{left_shown, call_left}
use Rattle.demands.proofs.Ways.{Way, unfit, long, bad, played, way}

-- ---- each cycle keeps it, so a record does, and so do all records
clean_cycles : EachCycle Clean
clean_cycles = record {
  program = λ n bytes i h. clean_program_page i h n bytes;
  cut_program = λ n bytes i h. clean_cut_program_page i h n bytes;
  erase = λ i h. clean_erase_all i h;
  cut_erase = λ i h. clean_cut_erase_all i h;
  store = λ n first count bytes i h. clean_store_page i h n first count bytes;
  cut_store = λ n i h. clean_cut_store_page i h n;
}

pub play_clean : (b : Board) (m : Machine) (r : Record) → AllClean m.images → AllClean (play_on b m r).images
unfolding play_on
play_clean b m r h = images_keep (λ chip. Clean) (λ chip. clean_cycles) b m.controls r.event (moved_of b m.controls r).reply m.images h

pub after_clean : (b : Board) (o : List Record) (m : Machine) → AllClean m.images → AllClean (after (on_machine b) o m).images
unfolding after
after_clean b [] m h = h
after_clean b (r ∷ o) m h = after_clean b o (play_on b m r) (play_clean b m r h)

-- ---- a delivered byte has it: value AND mask are 0
Sure : Reply → Type 0
Sure y = bit_and (reply_value y) (reply_mask y) ≡ 0

deliver_sure : (i : Image) (k : Skeleton) → Clean i → Sure (delivered i k)
unfolding Sure delivered Clean Disjoint
deliver_sure i skeleton.Silent h = refl
deliver_sure i (skeleton.Given x) h = and_zero_r x
deliver_sure i (skeleton.Fetch p) h = h p
deliver_sure i skeleton.Ack h = refl
deliver_sure i skeleton.NoAck h = refl
deliver_sure i skeleton.Starts h = refl
deliver_sure i skeleton.Ends h = refl
deliver_sure i skeleton.NoCycle h = refl

image_clean : (v : Event) (m : Machine) → AllClean m.images → Clean (image_for v m.images)
image_clean (event.Flash e) m h = h Chip.Flash
image_clean (event.Eeprom e) m h = h Chip.Eeprom
image_clean (event.Line e) m h = h Chip.Flash

said_sure : (b : Board) (o : List Record) (m : Machine) → AllClean m.images → All Sure (said (on_machine b) o m)
unfolding said All says_on
said_sure b [] m h = tt
said_sure b (r ∷ o) m h =
    (deliver_sure (image_for r.event m.images) (moved_of b m.controls r).reply (image_clean r.event m h), said_sure b o (play_on b m r) (play_clean b m r h))

-- ---- so do the reply bytes: the second and the third of every four
pub zeros_at : (n j : ℕ) → get_or {A = ℕ} (replicate n 0) j 0 ≡ 0
zeros_at zero j = refl
zeros_at (suc n) zero = refl
zeros_at (suc n) (suc j) = zeros_at n j

zeros_sure : (n k : ℕ) → bit_and (get_or (replicate n 0) (4 * k + 1) 0) (get_or (replicate n 0) (4 * k + 2) 0) ≡ 0
zeros_sure n k = ap₂ bit_and (zeros_at n (4 * k + 1)) (zeros_at n (4 * k + 2))

bytes_sure : (ps : List Record) (ys : List Reply) (n : ℕ) → All Sure ys → (k : ℕ) →
    bit_and (get_or (reply_lines ps ys ++ replicate n 0) (4 * k + 1) 0) (get_or (reply_lines ps ys ++ replicate n 0) (4 * k + 2) 0) ≡ 0
unfolding reply_lines All Sure
bytes_sure [] ys n h k = zeros_sure n k
bytes_sure (r ∷ ps) [] n h k = zeros_sure n k
bytes_sure (r ∷ ps) (y ∷ ys) n h zero = h.0
bytes_sure (r ∷ ps) (y ∷ ys) n h (suc k) =
    let one : 4 * suc k + 1 ≡ suc (suc (suc (suc (4 * k + 1)))) = omega arith in
    let two : 4 * suc k + 2 ≡ suc (suc (suc (suc (4 * k + 2)))) = omega arith in
    rw (one, two) (bytes_sure ps ys n h.1 k)

padded_sure : (ps : List Record) (ys : List Reply) → All Sure ys → (k : ℕ) →
    bit_and (get_or (padded (reply_lines ps ys)) (4 * k + 1) 0) (get_or (padded (reply_lines ps ys)) (4 * k + 2) 0) ≡ 0
unfolding padded
padded_sure ps ys h k = bytes_sure ps ys (replies_length - length (reply_lines ps ys)) h k

-- ---- the call
left_clean : (b : Board) (n t : ℕ) (ps : List Record) (m : Machine) → AllClean m.images → AllClean (left_by b n t ps m).buffers.images
unfolding left_by
left_clean b n t ps m h = after_clean b ps m h

way_clean : (text : List ℕ) (x : Buffers) (e : Ended) → Fit x → Way text x e → AllClean e.buffers.images
unfolding refused_as
way_clean text x e h (unfit f k) = rw k h.clean
way_clean text x e h (long f l k) = rw k h.clean
way_clean text x e h (bad f l a n g w k) = rw k h.clean
way_clean text x e h (played f l b rs q z d k) =
    let m = machine_at_start b x.images in
    rw (k ∙ left_shown b rs (readable_back q) m z d) (left_clean b _ _ _ m h.clean)

-- lent buffers that fit are given back with no bit set both in a value and in its mask, whatever the text and the answer
pub sure_means_disjoint : {text : List ℕ} {x : Buffers} {e : Ended} → Replays text x e → fit x ≡ true → AllClean e.buffers.images
sure_means_disjoint {text} {x} {e} p f = way_clean text x e (fit_says x f) (way p)

-- and of a readable text each reply's value AND mask are 0: reply k has its value at 4 k + 1, its mask at 4 k + 2
pub replies_disjoint : {text : List ℕ} {x : Buffers} {e : Ended} {b : Board} {rs : List Record} → Replays text x e → fit x ≡ true → ltb text_limit (length text) ≡ false → Readable text b rs →
    (k : ℕ) → bit_and (get_or e.buffers.replies (4 * k + 1) 0) (get_or e.buffers.replies (4 * k + 2) 0) ≡ 0
unfolding left_by
replies_disjoint {text} {x} {e} {b} {rs} p f l q k =
    let h = fit_says x f in
    let m = machine_at_start b x.images in
    let z = call_left p f l q in
    let ps = records_of b z.0 rs in
    rw z.2 (padded_sure ps (said (on_machine b) ps m) (said_sure b ps m h.clean) k)
