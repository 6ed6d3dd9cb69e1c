-- A control under other names of its records keeps its laws.
use Rattle.tied.specs.Control.{Control, Lawful}

-- the same control under other names of its records: each record is read as one of the control's own
module _ {C B L K E F B' L' : Type 0} (X : Control C B L K E F) (asBus : B' → B) (asLine : L' → L) where
  abbrev pub through : Control C B' L' K E F
  through = record {
    bus = λ c b. X.bus c (asBus b);
    skel = λ c b. X.skel c (asBus b);
    line = λ c l. X.line c (asLine l);
    running = X.running;
    kind = X.kind;
    next = λ f b k. X.next f (asBus b) k;
    cycle_of = λ f b. X.cycle_of f (asBus b);
    Tracks = X.Tracks;
    Good = X.Good;
    hint = λ f b. X.hint f (asBus b);
    Telling = X.Telling;
  }

  pub through_lawful : Lawful X → Lawful through
  through_lawful A = record {
    good_bus = λ c b. A.good_bus c (asBus b);
    good_line = λ c l. A.good_line c (asLine l);
    frame = A.frame;
    starts_idle = λ c b. A.starts_idle c (asBus b);
    starts_runs = λ c f b. A.starts_runs c f (asBus b);
    ends_runs = λ c b. A.ends_runs c (asBus b);
    ends_idle = λ c b. A.ends_idle c (asBus b);
    fetch_idle = λ c b. A.fetch_idle c (asBus b);
    fetch_keeps = λ c b. A.fetch_keeps c (asBus b);
    plain_keeps = λ c b. A.plain_keeps c (asBus b);
    line_keeps = λ c l. A.line_keeps c (asLine l);
    tracks_bus = λ c f b. A.tracks_bus c f (asBus b);
    tracks_line = λ c f l. A.tracks_line c f (asLine l);
    tells = λ c f b. A.tells c f (asBus b);
  }
