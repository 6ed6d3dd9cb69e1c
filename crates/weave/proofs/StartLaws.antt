-- At the start each feed has all of its own records to give, and all of them in order are the merged ones.
use Prim.Native.Nat.{ℕ, ◌<◌}
use native.Mathlib.Omega.{arith}
use mathlib.Core.Path.{◌≡◌, refl, sym, ap, subst, ◌∙◌}
use denote.Ref.{Bor}
use mathlib.Core.List.{List, [], ◌∷◌, ◌++◌, append-nil}
use lib.ListN.{length, drop}
use lib.Seq.{drop-append_seam}
use Rattle.law.specs.Words.{All}
use Rattle.law.specs.Lists.{all_map}
use Rattle.law.specs.Order.{InOrder}
use Rattle.record.specs.declared.Board.{Board}
use Rattle.record.specs.declared.Record.{Record}
use Rattle.line.specs.Records.{RecordOk}
use Rattle.line.specs.Boards.{spelled_board}
use Rattle.text.specs.Texts.{Readable}
use Rattle.text.proofs.Theorems.{first_place_lem}
use Rattle.level.specs.declared.Level.{Level}
use Rattle.level.specs.Spelled.{spelled_level, LevelOk}
use Rattle.decode.specs.declared.Out.TheVariants.{Nothing}
use Rattle.decode.specs.declared.bits.Bits.{Bits}
use Rattle.decode.specs.Bits.{events_of}
use Rattle.decode.specs.Decoded.{decoded_by, flash_start, wires_start, flash_of, eeprom_of}
use Rattle.capture.specs.declared.Part.{Part}
use Rattle.capture.specs.declared.Part.TheVariants.{FlashEnds, EepromEnds, Lines}
use Rattle.capture.specs.Taken.{part_of, taken_of}
use Rattle.capture.specs.Captures.{spelled_levels, Before, none, Faultless, Captures}
use Rattle.capture.specs.Merge.{number_of}
use Rattle.capture.specs.OneByOne.{From, records, levels}
use Rattle.capture.proofs.Parts.{part_rising}
use Rattle.capture.proofs.Reading.{place_small, flash_rises, eeprom_rises, all_fit}
use Rattle.weave.specs.Feeding.{LevelFeed, TraceFeed, behind_of, within_of, LevelsLeft, TraceLeft, FeedsLevels, FeedsTrace}
use Rattle.weave.proofs.FeedLaws.{levels_number, trace_number}
use Rattle.weave.specs.Weaving.{above, number_ahead, numbers_of, joined, Each, Starts}

all_levels : (ts : List Record) (p : Before) (ls : List Level) → Faultless ts p ls → All LevelOk ls
unfolding Faultless All
all_levels ts p [] f = tt
all_levels ts p (l ∷ ls) f = (f.0, all_levels ts _ ls f.2)

number_below : (r : Record) → RecordOk r → number_of r < above
number_below r o = let le = o.0 in omega (arith, place_small r.event)

module _ {text trace : List ℕ} {a : Level} {at first : ℕ} {b : Board} {rs : List Record} {ls : List Level}
    (q : Readable trace b rs) (f : first ≡ length (spelled_board b)) (c : Captures (taken_of rs) text (a ∷ ls)) (e : at ≡ length (spelled_level a)) where
  pub levels_from : From levels text at ls
  unfolding levels spelled_levels All
  levels_from = record {
    fits = (all_levels (taken_of rs) none (a ∷ ls) c.faultless).1;
    is = ap (λ (n : ℕ). drop n text) e ∙ ap (λ (l : List ℕ). drop (length (spelled_level a)) l) c.is ∙ drop-append_seam (spelled_level a) (spelled_levels ls);
  }

  capture_left : (s : Bits) → LevelsLeft text (behind_of at a s Nothing) (decoded_by s (a ∷ ls))
  unfolding decoded_by events_of
  capture_left s = record { ls = ls; from = levels_from; is = refl }

  pub records_from : From records trace first rs
  unfolding records
  records_from = record { fits = q.fits; is = ap (λ (n : ℕ). drop n trace) f ∙ first_place_lem q }

  trace_left : (p : Part) → TraceLeft trace p first (part_of p rs)
  trace_left p = record { rs = rs; from = records_from; is = refl }

pub start_law : {lr tr : Bor (List ℕ)} {a : Level} {at first : ℕ} {u v : LevelFeed} {x y z : TraceFeed} →
    FeedsLevels lr.now (behind_of at a flash_start Nothing) u → FeedsLevels lr.now (behind_of at a wires_start Nothing) v →
    FeedsTrace tr.now (within_of FlashEnds first) x → FeedsTrace tr.now (within_of EepromEnds first) y → FeedsTrace tr.now (within_of Lines first) z →
    Starts lr.now tr.now a at first (record {
      levels = lr;
      trace = tr;
      numbers = number_ahead u ∷ number_ahead v ∷ number_ahead x ∷ number_ahead y ∷ number_ahead z ∷ [];
      flash = u;
      eeprom = v;
      flash_ends = x;
      eeprom_ends = y;
      lines = z;
    })
unfolding Each joined numbers_of
start_law {lr} {tr} {a} {at} {first} {u} {v} {x} {y} {z} fu fv fx fy fz = record {
  starts = λ b rs ls m q f c e p.
      let flash = flash_of (a ∷ ls) in
      let eeprom = eeprom_of (a ∷ ls) in
      let back = q.acceptable.never_back in
      record {
        parts = flash ∷ eeprom ∷ part_of FlashEnds rs ∷ part_of EepromEnds rs ∷ part_of Lines rs ∷ [];
        numbers = λ t. levels_number u t ∷ levels_number v t ∷ trace_number x t ∷ trace_number y t ∷ trace_number z t ∷ [];
        own_parts = (fx.own_part, fy.own_part, fz.own_part);
        each = (
          fu.feeds tr.now flash (capture_left q f c e flash_start),
          flash_rises (taken_of rs) a ls c.faultless,
          (
            fv.feeds tr.now eeprom (capture_left q f c e wires_start),
            eeprom_rises (taken_of rs) a ls c.faultless,
            (
              fx.feeds lr.now (part_of FlashEnds rs) (trace_left q f c e FlashEnds),
              part_rising FlashEnds rs back,
              (
                fy.feeds lr.now (part_of EepromEnds rs) (trace_left q f c e EepromEnds),
                part_rising EepromEnds rs back,
                (fz.feeds lr.now (part_of Lines rs) (trace_left q f c e Lines), part_rising Lines rs back, tt),
              ),
            ),
          ),
        );
        ordered =
            subst (λ (l : List Record). InOrder number_of (flash ++ (eeprom ++ (part_of FlashEnds rs ++ (part_of EepromEnds rs ++ l)))) m) (sym (append-nil (part_of Lines rs))) p;
        below = all_map RecordOk (λ (r : Record). number_of r < above) number_below m (all_fit (taken_of rs) a ls c.faultless rs m p q.fits);
      };
}
