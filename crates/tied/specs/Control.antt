-- A chip's control, which never looks at an image, and the laws that it keeps.
use Rattle.std.specs.Prelude.{◌≡◌, ◌⊎◌}

-- no write cycle runs, or one does, with all that its effect depends on
pub data Cycle (E : Type 0) : Type 0 where
  idle : Cycle E
  runs : E → Cycle E

-- what a skeleton reply says of the cycle and of the image
pub data Kind : Type 0 where
  starts ends fetches plain : Kind

-- C control, B bus records, L line records, K skeleton replies, E cycles with their data, F what the bus records and their skeleton replies tell
pub record Control (C B L K E F : Type 0) : Type 1 where
  pub bus : C → B → C
  pub skel : C → B → K
  pub line : C → L → C
  pub running : C → Cycle E
  pub kind : K → Kind
  -- what is told after a bus record and its skeleton reply, and the cycle that it starts
  pub next : F → B → K → F
  pub cycle_of : F → B → E
  -- the control's frame is void or is the one that is told
  pub Tracks : C → F → Type 0
  -- what holds of every control that is reached
  pub Good : C → Type 0
  -- what is told of the reply to a bus record before it is given, and that it is enough: with a delivered reply it gives the skeleton
  pub hint : F → B → K
  pub Telling : K → K → Type 0

module _ {C B L K E F : Type 0} (X : Control C B L K E F) where
  -- what controls keep to
  pub record Lawful : Type 0 where
    pub good_bus : (c : C) (b : B) → X.Good c → X.Good (X.bus c b)
    pub good_line : (c : C) (l : L) → X.Good c → X.Good (X.line c l)
    pub frame : (c : C) → X.Good c → (f : F) × X.Tracks c f
    pub starts_idle : (c : C) (b : B) → X.Good c → X.kind (X.skel c b) ≡ starts → X.running c ≡ idle
    pub starts_runs : (c : C) (f : F) (b : B) → X.Good c → X.Tracks c f → X.kind (X.skel c b) ≡ starts → X.running (X.bus c b) ≡ runs (X.cycle_of f b)
    pub ends_runs : (c : C) (b : B) → X.Good c → X.kind (X.skel c b) ≡ ends → X.running c ≡ idle → ⊥
    pub ends_idle : (c : C) (b : B) → X.Good c → X.kind (X.skel c b) ≡ ends → X.running (X.bus c b) ≡ idle
    pub fetch_idle : (c : C) (b : B) → X.Good c → X.kind (X.skel c b) ≡ fetches → X.running c ≡ idle
    pub fetch_keeps : (c : C) (b : B) → X.Good c → X.kind (X.skel c b) ≡ fetches → X.running (X.bus c b) ≡ X.running c
    pub plain_keeps : (c : C) (b : B) → X.Good c → X.kind (X.skel c b) ≡ plain → X.running (X.bus c b) ≡ X.running c
    pub line_keeps : (c : C) (l : L) → X.Good c → (X.running (X.line c l) ≡ X.running c) ⊎ (X.running (X.line c l) ≡ idle)
    pub tracks_bus : (c : C) (f : F) (b : B) → X.Good c → X.Tracks c f → X.Tracks (X.bus c b) (X.next f b (X.skel c b))
    pub tracks_line : (c : C) (f : F) (l : L) → X.Good c → X.Tracks c f → X.Tracks (X.line c l) f
    pub tells : (c : C) (f : F) (b : B) → X.Good c → X.Tracks c f → X.Telling (X.skel c b) (X.hint f b)
