-- The chip's control keeps the laws by which two orders that agree in the control and in the skeleton replies agree in the image and in every delivered byte too.
-- Assumes nothing.
use Prim.Native.Nat.{ℕ, ◌%◌}
use mathlib.Core.Bool.{Bool, true, false}
use mathlib.Core.Path.{◌≡◌, refl, sym, subst}
use mathlib.Core.Logic.{◌⊎◌}
use mathlib.Core.List.{List}
use lib.Dec.{eqb}
use Rattle.std.proofs.Common.{rules}
use Rattle.std.specs.Prelude.{Option, Some, None}
use Rattle.law.specs.Choice.{of_both}
use Rattle.law.specs.Words.{pick}
use Rattle.tied.specs.Control.{Lawful, Cycle, idle, runs, Kind, starts, ends, fetches, plain}
use Rattle.record.specs.LineRules.{goes_off}
use Rattle.record.specs.Told.{skeleton_kind, Telling}
use Rattle.record.specs.declared.Skeleton.TheVariants.{Ack, NoAck, Starts}
use Rattle.record.specs.declared.EepromEvent.{EepromEvent}
use Rattle.record.specs.declared.EepromEvent.TheVariants.{Start, Byte, Cut, Stop, End}
use Rattle.eeprom.specs.Chip.{blank, page_in, in_frame, answered, silent_in}
use Rattle.eeprom.specs.Write.{sent_by}
use Rattle.eeprom.specs.Frame.{own_address, opened_by, moved_on, after_read, byte_in}
use Rattle.eeprom.specs.Step.{write_ends, stop_in, end_of, powered_of, unpowered_of, step_of, off_of}
use Rattle.eeprom.specs.Side.{Side, side_bus, side_says}
use Rattle.eeprom.specs.Good.{Waits, FrameIn, Fields, ChipGood, Shut, Dark, Good}
use Rattle.eeprom.specs.Told.{Writing, runs_in, runs_of, Told, told, cycle_told, hint_told, FrameTold, CounterTold, Tracks, eeprom_control}
use Rattle.eeprom.specs.declared.Sent.{Sent}
use Rattle.eeprom.specs.declared.EepromFrame.{EepromFrame}
use Rattle.eeprom.specs.declared.EepromFrame.TheVariants.{Idle, Void, Opened, Addressed, Half, Taking, Reading}
use Rattle.eeprom.specs.declared.Eeprom.{Eeprom}
use Rattle.eeprom.specs.declared.EepromStep.{EepromStep}
use Rattle.eeprom.proofs.Bounds.{is_blank, off_dark, good_bus, good_line}

-- ---- what one bus record keeps to
-- what its reply says of the cycle r before it and t after it, where w is the cycle that is told
abbrev Says : Kind → Cycle Writing → Cycle Writing → Writing → Type 0
Says starts r t w = (r ≡ idle) × (t ≡ runs w)
Says ends r t w = (r ≡ idle → ⊥) × (t ≡ idle)
Says fetches r t w = (r ≡ idle) × (t ≡ r)
Says plain r t w = t ≡ r

record Keeps (x : Eeprom) (t : Told) (e : EepromEvent) (s : EepromStep) : Type 0 where
  says : Says (skeleton_kind s.reply) (runs_of x) (runs_of s.chip) (cycle_told t e)
  tracks : Tracks s.chip (told t e s.reply)
  tells : Telling s.reply (hint_told t e)

abbrev chip : EepromFrame → Option Sent → Option ℕ → List ℕ → Eeprom
chip f c n p = record { frame = f; cycle = c; counter = n; page = p }

kept : (c : Option Sent) (p : List ℕ) → runs_in c (page_in c p) ≡ runs_in c p
kept c p = search rules

is_idle : Cycle Writing → Type 0
is_idle idle = Unit {0}
is_idle (runs w) = ⊥

never_idle : (w : Writing) → runs w ≡ idle → ⊥
unfolding is_idle
never_idle w e = subst is_idle (sym e) tt

-- what is told, where parts of it are known
module _ (x : Eeprom) (t : Told) (e : EepromEvent) (s : EepromStep) where
  in_told : (f : EepromFrame) → t.frame ≡ f → Keeps x (record { frame = f; counter = t.counter; page = t.page }) e s → Keeps x t e s
  in_told f q k = subst (λ (u : Told). Keeps x u e s) (λ i. record { frame = sym q i; counter = t.counter; page = t.page }) k

  at_told : (f : EepromFrame) (n : Option ℕ) → t.frame ≡ f → t.counter ≡ n → Keeps x (record { frame = f; counter = n; page = t.page }) e s → Keeps x t e s
  at_told f n q r k = subst (λ (u : Told). Keeps x u e s) (λ i. record { frame = sym q i; counter = sym r i; page = t.page }) k

  all_told : (f : EepromFrame) (n : Option ℕ) (p : List ℕ) → t.frame ≡ f → t.counter ≡ n → t.page ≡ p
      → Keeps x (record { frame = f; counter = n; page = p }) e s → Keeps x t e s
  all_told f n p q r v k = subst (λ (u : Told). Keeps x u e s) (λ i. record { frame = sym q i; counter = sym r i; page = sym v i }) k

-- ---- a byte
by_address : (t : Bool) (p : List ℕ) (n : Option ℕ) → FrameTold (pick t Reading Addressed) p (record { frame = pick t Reading Addressed; counter = n; page = blank })
by_address t p n = search rules

read_told : (bit : Bool) (p q : List ℕ) (n : Option ℕ) → FrameTold (after_read bit) p (record { frame = Reading; counter = n; page = q })
read_told bit p q n = search rules

module _ (b : ℕ) (bit : Bool) (w : ℕ) where
  void_keeps : (x : Eeprom) (t : Told) → CounterTold x.counter t.counter → Keeps x t (Byte b bit) (silent_in x Void)
  unfolding Telling
  void_keeps x t k = record { says = kept x.cycle x.page; tracks = record { frame_told = tt; counter_told = k }; tells = tt }

  barred_keeps : (x : Eeprom) (t : Told) → CounterTold x.counter t.counter → Keeps x t (Byte b bit) (answered (in_frame x Void) NoAck)
  unfolding Telling
  barred_keeps x t k = record { says = kept x.cycle x.page; tracks = record { frame_told = tt; counter_told = k }; tells = tt }

  open_keeps : (x : Eeprom) (t : Told) → t.frame ≡ Opened false → CounterTold x.counter t.counter
      → Keeps x t (Byte b bit) (answered (in_frame x (opened_by b)) Ack)
  unfolding Telling
  open_keeps x t q k =
      in_told x t (Byte b bit) (answered (in_frame x (opened_by b)) Ack) (Opened false) q
      (record {
        says = kept x.cycle x.page;
        tracks = record { frame_told = by_address (eqb (b % 2) 1) (page_in x.cycle x.page) t.counter; counter_told = k };
        tells = tt;
      })

  byte_keeps : (f : EepromFrame) (c : Option Sent) (n : Option ℕ) (p : List ℕ) (t : Told) → Fields f c n p → FrameTold f p t → CounterTold n t.counter
      → Keeps (chip f c n p) t (Byte b bit) (byte_in f (chip f c n p) b bit w)
  unfolding Telling
  byte_keeps Idle c n p t h q k = record { says = refl; tracks = record { frame_told = tt; counter_told = k }; tells = tt }
  byte_keeps Void c n p t h q k = record { says = refl; tracks = record { frame_told = tt; counter_told = k }; tells = tt }
  byte_keeps (Opened true) c n p t h q k =
      let x = chip (Opened true) c n p in
      of_both (Keeps x t (Byte b bit)) (own_address b w) (answered (in_frame x Void) NoAck) (silent_in x Void) (barred_keeps x t k) (void_keeps x t k)
  byte_keeps (Opened false) c n p t h q k =
      let x = chip (Opened false) c n p in
      of_both (Keeps x t (Byte b bit)) (own_address b w) (answered (in_frame x (opened_by b)) Ack) (silent_in x Void) (open_keeps x t q k) (void_keeps x t k)
  byte_keeps Addressed c n p t h q k =
      in_told (chip Addressed c n p) t (Byte b bit) (byte_in Addressed (chip Addressed c n p) b bit w) Addressed q
      (record { says = kept c p; tracks = record { frame_told = refl; counter_told = k }; tells = tt })
  byte_keeps (Half high) None n p t h q k =
      in_told (chip (Half high) None n p) t (Byte b bit) (byte_in (Half high) (chip (Half high) None n p) b bit w) (Half high) q
      (record { says = refl; tracks = record { frame_told = (refl, sym (is_blank (Half high) n p h refl)); counter_told = refl }; tells = tt })
  byte_keeps (Half high) (Some s) n p t h q k = absurd h.in_frame
  byte_keeps (Taking m) None None p t h q k = absurd h.in_frame.1
  byte_keeps (Taking m) None (Some a) p t h q k =
      all_told (chip (Taking m) None (Some a) p) t (Byte b bit) (byte_in (Taking m) (chip (Taking m) None (Some a) p) b bit w) (Taking m) (Some a) p q.0 k q.1
      (record { says = refl; tracks = record { frame_told = (refl, refl); counter_told = refl }; tells = tt })
  byte_keeps (Taking m) (Some s) n p t h q k = absurd h.in_frame
  byte_keeps Reading None None p t h q k =
      in_told (chip Reading None None p) t (Byte b bit) (byte_in Reading (chip Reading None None p) b bit w) Reading q
      (record { says = refl; tracks = record { frame_told = read_told bit p t.page t.counter; counter_told = tt }; tells = tt })
  byte_keeps Reading None (Some a) p t h q k =
      at_told (chip Reading None (Some a) p) t (Byte b bit) (byte_in Reading (chip Reading None (Some a) p) b bit w) Reading (Some a) q k
      (record { says = (refl, refl); tracks = record { frame_told = read_told bit p t.page (moved_on (Some a)); counter_told = refl }; tells = refl })
  byte_keeps Reading (Some s) n p t h q k = absurd h.in_frame

-- ---- `sto`
idle_keeps : (x : Eeprom) (t : Told) → CounterTold x.counter t.counter → Keeps x t Stop (silent_in x Idle)
unfolding Telling
idle_keeps x t k = record { says = kept x.cycle x.page; tracks = record { frame_told = tt; counter_told = k }; tells = tt }

write_keeps : (m a : ℕ) (p : List ℕ) (t : Told) (lock : Bool) → FrameTold (Taking m) p t → CounterTold (Some a) t.counter
    → Keeps (chip (Taking m) None (Some a) p) t Stop (write_ends (chip (Taking m) None (Some a) p) m lock)
unfolding Telling
write_keeps m a p t lock q k =
    let x = chip (Taking m) None (Some a) p in
    let begins = answered (chip Idle (Some (sent_by a m)) (Some a) p) Starts in
    of_both (Keeps x t Stop) (eqb m 0) (silent_in x Idle) (pick lock (silent_in x Idle) begins) (idle_keeps x t k)
    (of_both (Keeps x t Stop) lock (silent_in x Idle) begins (idle_keeps x t k)
    (all_told x t Stop begins (Taking m) (Some a) p q.0 k q.1
    (record { says = (refl, refl); tracks = record { frame_told = tt; counter_told = refl }; tells = tt })))

stop_keeps : (f : EepromFrame) (c : Option Sent) (n : Option ℕ) (p : List ℕ) (t : Told) (lock : Bool) → Fields f c n p → FrameTold f p t → CounterTold n t.counter
    → Keeps (chip f c n p) t Stop (stop_in f (chip f c n p) lock)
stop_keeps Idle c n p t lock h q k = idle_keeps (chip Idle c n p) t k
stop_keeps Void c n p t lock h q k = idle_keeps (chip Void c n p) t k
stop_keeps (Opened barred) c n p t lock h q k = idle_keeps (chip (Opened barred) c n p) t k
stop_keeps Addressed c n p t lock h q k = idle_keeps (chip Addressed c n p) t k
stop_keeps (Half high) c n p t lock h q k = idle_keeps (chip (Half high) c n p) t k
stop_keeps (Taking m) None None p t lock h q k = absurd h.in_frame.1
stop_keeps (Taking m) None (Some a) p t lock h q k = write_keeps m a p t lock q k
stop_keeps (Taking m) (Some s) n p t lock h q k = absurd h.in_frame
stop_keeps Reading c n p t lock h q k = idle_keeps (chip Reading c n p) t k

-- ---- `end`: a frame that waits in a cycle is told without the page
waits_told : (f : EepromFrame) (p q : List ℕ) (t : Told) → Waits f → FrameTold f p t → FrameTold f q t
waits_told f p q t h k = search rules

end_keeps : (c : Option Sent) (f : EepromFrame) (n : Option ℕ) (p : List ℕ) (t : Told) → FrameIn c f n → FrameTold f p t → CounterTold n t.counter
    → Keeps (chip f c n p) t End (end_of (chip f c n p))
unfolding Telling
end_keeps None f n p t h q k = record { says = refl; tracks = record { frame_told = q; counter_told = k }; tells = tt }
end_keeps (Some s) f n p t h q k =
    record {
      says = (never_idle (record { sent = s; bytes = p }), refl);
      tracks = record { frame_told = waits_told f p blank t h q; counter_told = k };
      tells = tt;
    }

powered_keeps : (x : Eeprom) (t : Told) (e : EepromEvent) (lock : Bool) (w : ℕ) → ChipGood x → Tracks x t → Keeps x t e (powered_of x e lock w)
unfolding Telling
powered_keeps x t Start lock w h k =
    record { says = kept x.cycle x.page; tracks = record { frame_told = refl; counter_told = k.counter_told }; tells = tt }
powered_keeps x t (Byte b bit) lock w h k = byte_keeps b bit w x.frame x.cycle x.counter x.page t h k.frame_told k.counter_told
powered_keeps x t Cut lock w h k =
    record { says = kept x.cycle x.page; tracks = record { frame_told = tt; counter_told = k.counter_told }; tells = tt }
powered_keeps x t Stop lock w h k = stop_keeps x.frame x.cycle x.counter x.page t lock h k.frame_told k.counter_told
powered_keeps x t End lock w h k = end_keeps x.cycle x.frame x.counter x.page t h.in_frame k.frame_told k.counter_told

-- ---- with the supply off: no frame is open, and the counter is lost
shut_told : (f : EepromFrame) (p : List ℕ) (t : Told) → Shut f → FrameTold f p t
shut_told f p t h = search rules

dark_tracks : (x : Eeprom) (t : Told) → Dark x → Tracks x t
dark_tracks x t h =
    record {
      frame_told = shut_told x.frame x.page t h.shut;
      counter_told = subst (λ (n : Option ℕ). CounterTold n t.counter) (sym h.lost) tt;
    }

unpowered_keeps : (x : Eeprom) (t : Told) (e : EepromEvent) → Dark x → Tracks x t → Keeps x t e (unpowered_of x e)
unfolding Telling
unpowered_keeps x t Start h k = record { says = kept x.cycle x.page; tracks = record { frame_told = tt; counter_told = k.counter_told }; tells = tt }
unpowered_keeps x t (Byte b bit) h k = record { says = refl; tracks = k; tells = tt }
unpowered_keeps x t Cut h k = record { says = kept x.cycle x.page; tracks = record { frame_told = tt; counter_told = k.counter_told }; tells = tt }
unpowered_keeps x t Stop h k = record { says = kept x.cycle x.page; tracks = record { frame_told = tt; counter_told = k.counter_told }; tells = tt }
unpowered_keeps x t End h k = record { says = refl; tracks = k; tells = tt }

step_keeps : (x : Eeprom) (t : Told) (e : EepromEvent) (supply lock : Bool) (w : ℕ) → ChipGood x → (supply ≡ false → Dark x) → Tracks x t
    → Keeps x t e (pick supply (powered_of x e lock w) (unpowered_of x e))
step_keeps x t e true lock w h d k = powered_keeps x t e lock w h k
step_keeps x t e false lock w h d k = unpowered_keeps x t e (d refl) k

-- ---- every chip is told by something
barless : EepromFrame → EepromFrame
barless Idle = Idle
barless Void = Void
barless (Opened barred) = Opened false
barless Addressed = Addressed
barless (Half high) = Half high
barless (Taking m) = Taking m
barless Reading = Reading

frame_some : (f : EepromFrame) (n : Option ℕ) (p : List ℕ) → FrameTold f p (record { frame = barless f; counter = n; page = p })
unfolding barless
frame_some f n p = search rules

counter_some : (n : Option ℕ) → CounterTold n n
counter_some n = search rules

some_told : (x : Eeprom) → (t : Told) × Tracks x t
some_told x = (
  record { frame = barless x.frame; counter = x.counter; page = x.page },
  record { frame_told = frame_some x.frame x.counter x.page; counter_told = counter_some x.counter },
)

module _ (w : ℕ) where
  bus_keeps : (s : Side) (t : Told) (e : EepromEvent) → Good s → Tracks s.chip t → Keeps s.chip t e (step_of s.chip e s.lines w)
  bus_keeps s t e g k = step_keeps s.chip t e s.lines.supply s.lines.lock w g.chip_good g.dark k

  -- what a reply of a kind says
  said : (s : Side) (t : Told) (e : EepromEvent) (k : Kind) → Good s → Tracks s.chip t → skeleton_kind (side_says w s e) ≡ k
      → Says k (runs_of s.chip) (runs_of (side_bus w s e).chip) (cycle_told t e)
  said s t e k g tr q = subst (λ (z : Kind). Says z (runs_of s.chip) (runs_of (side_bus w s e).chip) (cycle_told t e)) q (bus_keeps s t e g tr).says

  said_any : (s : Side) (e : EepromEvent) (k : Kind) → Good s → skeleton_kind (side_says w s e) ≡ k
      → Says k (runs_of s.chip) (runs_of (side_bus w s e).chip) (cycle_told (some_told s.chip).0 e)
  said_any s e k g q = said s (some_told s.chip).0 e k g (some_told s.chip).1 q

  -- ---- a line record
  off_or_not : (t : Bool) (x : Eeprom) → (runs_of (pick t (off_of x) x) ≡ runs_of x) ⊎ (runs_of (pick t (off_of x) x) ≡ idle)
  off_or_not t x = search rules

  -- ---- THE LAWS
  pub eeprom_lawful : Lawful (eeprom_control w)
  eeprom_lawful = record {
    good_bus = λ s e g. good_bus w s e g;
    good_line = λ s l g. good_line s l g;
    frame = λ s g. some_told s.chip;
    starts_idle = λ s e g q. (said_any s e starts g q).0;
    starts_runs = λ s t e g tr q. (said s t e starts g tr q).1;
    ends_runs = λ s e g q. (said_any s e ends g q).0;
    ends_idle = λ s e g q. (said_any s e ends g q).1;
    fetch_idle = λ s e g q. (said_any s e fetches g q).0;
    fetch_keeps = λ s e g q. (said_any s e fetches g q).1;
    plain_keeps = λ s e g q. said_any s e plain g q;
    line_keeps = λ s l g. off_or_not (goes_off s.lines l) s.chip;
    tracks_bus = λ s t e g tr. (bus_keeps s t e g tr).tracks;
    tracks_line = λ s t l g tr.
        of_both (λ (x : Eeprom). Tracks x t) (goes_off s.lines l) (off_of s.chip) s.chip (dark_tracks (off_of s.chip) t (off_dark s.chip)) tr;
    tells = λ s t e g tr. (bus_keeps s t e g tr).tells;
  }
