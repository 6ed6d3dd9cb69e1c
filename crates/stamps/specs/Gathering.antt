-- The records of one stamp, held together (document 01, 'Replies and stopping'): above the most that a channel may have, only that there are more is kept.
use Rattle.std.specs.Prelude.{◌≡◌, List, [], ◌∷◌, ℕ, ◌+◌, ltb, length, set, replicate}
use Rattle.law.specs.Words.{pick}
use Rattle.meaning.specs.Meaning.{Channel, F, E, L, same, most}
use Rattle.meaning.specs.Channels.{most_in_all}
use Rattle.record.specs.declared.Record.{Record}
use Rattle.record.specs.declared.Event.TheVariants as event
use Rattle.record.specs.declared.LineEvent.TheVariants.{SupplyOn}
use Rattle.field.specs.Reads.{Stands}
use Rattle.line.specs.Records.{spelled, RecordOk}
use Rattle.orders.specs.declared.Held.{Held}
use Rattle.orders.specs.Verdicts.{count_of, array_of}
use Rattle.machine.specs.Machine.{channel_of}
use Rattle.stamps.specs.declared.Gathered.{Gathered}

-- one record more in an array of so many, of which `count` are used
abbrev pub kept_array : ℕ → List Record → ℕ → Record → List Record
kept_array most array count r = pick (ltb count most) (set array count r) array

abbrev pub kept_count : ℕ → ℕ → ℕ
kept_count most count = pick (ltb count most) (count + 1) (most + 1)

-- what is held of the channel c after one record more, of the channel d
abbrev pub array_with : Channel → Channel → Held → Record → List Record
array_with c d h r = pick (same c d) (kept_array (most c) (array_of h c) (count_of h c) r) (array_of h c)

abbrev pub count_with : Channel → Channel → Held → ℕ
count_with c d h = pick (same c d) (kept_count (most c) (count_of h c)) (count_of h c)

abbrev pub held_by : Channel → Held → Record → Held
held_by d h r = record {
  flash = record { records = array_with F d h r; count = count_with F d h };
  eeprom = record { records = array_with E d h r; count = count_with E d h };
  lines = record { records = array_with L d h r; count = count_with L d h };
}

-- a record goes to its channel
abbrev pub held_with : Held → Record → Held
held_with h r = held_by (channel_of r.event) h r

-- a record that stands for none
abbrev pub no_record : Record
no_record = record { stamp = 0; event = event.Line SupplyOn }

-- nothing is gathered, and the first record stands at the place
abbrev pub nothing_gathered : ℕ → Gathered
nothing_gathered place = record {
  held = record {
    flash = record { records = replicate (most F) no_record; count = 0 };
    eeprom = record { records = replicate (most E) no_record; count = 0 };
    lines = record { records = replicate (most L) no_record; count = 0 };
  };
  records = record { records = replicate most_in_all no_record; count = 0 };
  next = place;
}

-- one record more, the next one's place is given; a stamp that is not crowded has no more than `most_in_all`
abbrev pub gathered_with : Gathered → Record → ℕ → Gathered
gathered_with g r next = record {
  held = held_with g.held r;
  records = record { records = kept_array most_in_all g.records.records g.records.count r; count = kept_count most_in_all g.records.count };
  next = next;
}

-- records more, of which each stands behind the one before it
unfoldable pub gathered_all : Gathered → List Record → Gathered
gathered_all g [] = g
gathered_all g (r ∷ p) = gathered_all (gathered_with g r (g.next + length (spelled r))) p

-- Which records share the stamp t from a place of the text on: each one that stands there and is of that stamp, and then the one that stands
-- behind it; none any more where none stands, or the one that does is of another stamp.
unfoldable pub Shares : List ℕ → ℕ → ℕ → List Record → Type 0
Shares text t at [] = (r : Record) → RecordOk r → Stands text at (spelled r) → r.stamp ≡ t → ⊥
Shares text t at (r ∷ p) = RecordOk r × Stands text at (spelled r) × (r.stamp ≡ t) × Shares text t (at + length (spelled r)) p

-- the gathering went on from `first`: those that share the stamp from there on are gathered
pub record Gathers (text : List ℕ) (t : ℕ) (first g : Gathered) : Type 0 where
  pub records : List Record
  pub shares : Shares text t first.next records
  pub gathered : g ≡ gathered_all first records
