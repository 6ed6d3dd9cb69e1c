-- Control decides: a chip's control never looks at its image. Where any two orders agree in the control and in the skeleton replies, they agree in the image and in every delivered reply too, and the other way round.
use mathlib.Core.Path.{◌≡◌, refl, sym, ap, ap₂, subst, subst₂, ◌∙◌}
use mathlib.Core.List.{List, [], ◌∷◌}
use mathlib.Core.Logic.{◌⊎◌, inl, inr}
use Rattle.tied.specs.Orders.{Order, done, bus_first, line_first, AnyTwo}
use Rattle.tied.specs.Orders
use Rattle.tied.specs.Control.{Cycle, idle, runs, Kind, starts, ends, fetches, plain, Control, Lawful}

-- what a cycle does to an image I, whole and cut, and how a skeleton reply is delivered from it
pub record Effects (B K D I E : Type 0) : Type 0 where
  pub whole : E → I → I
  pub cut : E → I → I
  pub deliver : I → B → K → D

-- an image with what a chip's control says of it
pub record Part (C I : Type 0) : Type 0 where
  pub control : C
  pub image : I

is_fetch : Kind → Type 0
is_fetch starts = ⊥
is_fetch ends = ⊥
is_fetch fetches = Unit {0}
is_fetch plain = ⊥

not_starts : starts ≡ fetches → ⊥
unfolding is_fetch
not_starts e = subst is_fetch (sym e) tt

not_ends : ends ≡ fetches → ⊥
unfolding is_fetch
not_ends e = subst is_fetch (sym e) tt

not_plain : plain ≡ fetches → ⊥
unfolding is_fetch
not_plain e = subst is_fetch (sym e) tt

module _ {C B L K D I E F : Type 0} (X : Control C B L K E F) (Y : Effects B K D I E) where
  -- the image: at `ends` the cycle's whole effect, where a line record stops a cycle its cut effect, else no change
  unfoldable pub image_bus : Kind → Cycle E → I → I
  image_bus starts r i = i
  image_bus ends idle i = i
  image_bus ends (runs e) i = Y.whole e i
  image_bus fetches r i = i
  image_bus plain r i = i

  unfoldable pub image_line : Cycle E → Cycle E → I → I
  image_line idle r i = i
  image_line (runs e) idle i = Y.cut e i
  image_line (runs e) (runs d) i = i

  abbrev pub bus_with : Part C I → B → Part C I
  bus_with s b = record { control = X.bus s.control b; image = image_bus (X.kind (X.skel s.control b)) (X.running s.control) s.image }

  abbrev pub reply_with : Part C I → B → D
  reply_with s b = Y.deliver s.image b (X.skel s.control b)

  abbrev pub line_with : Part C I → L → Part C I
  line_with s l = record { control = X.line s.control l; image = image_line (X.running s.control) (X.running (X.line s.control l)) s.image }

  -- what the bus records and the skeleton replies tell: the cycle that started last and has not ended, the image before its effect, and the frame
  pub record Told : Type 0 where
    pub pending : Cycle E
    pub base : I
    pub frame : F

  -- the image once the pending cycle, if there is one, was cut
  unfoldable pub settle : Cycle E → I → I
  settle idle i = i
  settle (runs e) i = Y.cut e i

  unfoldable pub pending_next : Kind → Cycle E → F → B → Cycle E
  pending_next starts p f b = runs (X.cycle_of f b)
  pending_next ends p f b = idle
  pending_next fetches p f b = p
  pending_next plain p f b = p

  unfoldable pub base_next : Kind → Cycle E → I → I
  base_next starts p i = settle p i
  base_next ends p i = image_bus ends p i
  base_next fetches p i = i
  base_next plain p i = i

  abbrev pub tell : Told → B → K → Told
  tell t b k = record {
    pending = pending_next (X.kind k) t.pending t.frame b;
    base = base_next (X.kind k) t.pending t.base;
    frame = X.next t.frame b k;
  }

  -- after a list of bus records and their skeleton replies; and what is delivered
  unfoldable pub tells : Told → List B → List K → Told
  tells t [] ks = t
  tells t (b ∷ bs) [] = t
  tells t (b ∷ bs) (k ∷ ks) = tells (tell t b k) bs ks

  unfoldable pub delivers : Told → List B → List K → List D
  delivers t [] ks = []
  delivers t (b ∷ bs) [] = []
  delivers t (b ∷ bs) (k ∷ ks) = Y.deliver (settle t.pending t.base) b k ∷ delivers (tell t b k) bs ks

  -- the image is the base while the pending cycle runs, and the base cut once it was cut
  abbrev pub Sides : Cycle E → I → Cycle E → I → Type 0
  Sides r i p base = ((r ≡ p) × (i ≡ base)) ⊎ ((r ≡ idle) × (i ≡ settle p base))

  pub record Holds (s : Part C I) (t : Told) : Type 0 where
    pub good : X.Good s.control
    pub tracks : X.Tracks s.control t.frame
    pub sides : Sides (X.running s.control) s.image t.pending t.base

  -- where none is pending there is nothing to cut
  settled_idle : (p : Cycle E) (base : I) → p ≡ idle → settle p base ≡ base
  unfolding settle
  settled_idle p base e = ap (λ (q : Cycle E). settle q base) e

  -- where no cycle runs the image is the settled one
  pub idle_image : (r : Cycle E) (i : I) (p : Cycle E) (base : I) → Sides r i p base → r ≡ idle → i ≡ settle p base
  idle_image r i p base (inl (u, v)) e = v ∙ sym (settled_idle p base (sym u ∙ e))
  idle_image r i p base (inr (u, v)) e = v

  -- whether a cycle runs settles the image
  pub one_image : (r : Cycle E) (i j : I) (p : Cycle E) (base : I) → Sides r i p base → Sides r j p base → i ≡ j
  one_image r i j p base (inl (u, v)) (inl (w, z)) = v ∙ sym z
  one_image r i j p base (inl (u, v)) (inr (w, z)) = idle_image r i p base (inl (u, v)) w ∙ sym z
  one_image r i j p base (inr (u, v)) (inl (w, z)) = v ∙ sym (idle_image r j p base (inl (w, z)) u)
  one_image r i j p base (inr (u, v)) (inr (w, z)) = v ∙ sym z

  -- a line record that leaves the cycle leaves the image
  pub line_same : (r : Cycle E) (i : I) → image_line r r i ≡ i
  unfolding image_line
  line_same idle i = refl
  line_same (runs e) i = refl

  line_cut : (r : Cycle E) (i : I) → image_line r idle i ≡ settle r i
  unfolding image_line settle
  line_cut idle i = refl
  line_cut (runs e) i = refl

  line_sides : (r q : Cycle E) (i : I) (p : Cycle E) (base : I) → (q ≡ r) ⊎ (q ≡ idle) → Sides r i p base → Sides q (image_line r q i) p base
  line_sides r q i p base (inl e) (inl (u, v)) = inl (e ∙ u, ap (λ (x : Cycle E). image_line r x i) e ∙ line_same r i ∙ v)
  line_sides r q i p base (inl e) (inr (u, v)) = inr (e ∙ u, ap (λ (x : Cycle E). image_line r x i) e ∙ line_same r i ∙ v)
  line_sides r q i p base (inr e) (inl (u, v)) = inr (e, ap (λ (x : Cycle E). image_line r x i) e ∙ line_cut r i ∙ ap₂ settle u v)
  line_sides r q i p base (inr e) (inr (u, v)) = inr (e, ap (λ (x : Cycle E). image_line r x i) (e ∙ sym u) ∙ line_same r i ∙ v)

  module _ (A : Lawful X) (deliver_plain : (b : B) (k : K) (i j : I) → (X.kind k ≡ fetches → ⊥) → Y.deliver i b k ≡ Y.deliver j b k) where
    bus_sides : (c : C) (f : F) (b : B) (i : I) (p : Cycle E) (base : I) → X.Good c → X.Tracks c f → (k : Kind) → X.kind (X.skel c b) ≡ k → Sides (X.running c) i p base →
        Sides (X.running (X.bus c b)) (image_bus k (X.running c) i) (pending_next k p f b) (base_next k p base)
    unfolding image_bus pending_next base_next
    bus_sides c f b i p base g t starts e s = inl (A.starts_runs c f b g t e, idle_image _ i p base s (A.starts_idle c b g e))
    bus_sides c f b i p base g t ends e (inl (u, v)) = inl (A.ends_idle c b g e, ap₂ (image_bus ends) u v)
    bus_sides c f b i p base g t ends e (inr (u, v)) = absurd (A.ends_runs c b g e u)
    bus_sides c f b i p base g t fetches e (inl (u, v)) = inl (A.fetch_keeps c b g e ∙ u, v)
    bus_sides c f b i p base g t fetches e (inr (u, v)) = inr (A.fetch_keeps c b g e ∙ u, v)
    bus_sides c f b i p base g t plain e (inl (u, v)) = inl (A.plain_keeps c b g e ∙ u, v)
    bus_sides c f b i p base g t plain e (inr (u, v)) = inr (A.plain_keeps c b g e ∙ u, v)

    bus_holds : (s : Part C I) (t : Told) (b : B) → Holds s t → Holds (bus_with s b) (tell t b (X.skel s.control b))
    bus_holds s t b h = record {
      good = A.good_bus s.control b h.good;
      tracks = A.tracks_bus s.control t.frame b h.good h.tracks;
      sides = bus_sides s.control t.frame b s.image t.pending t.base h.good h.tracks _ refl h.sides;
    }

    line_holds : (s : Part C I) (t : Told) (l : L) → Holds s t → Holds (line_with s l) t
    line_holds s t l h = record {
      good = A.good_line s.control l h.good;
      tracks = A.tracks_line s.control t.frame l h.good h.tracks;
      sides = line_sides _ _ s.image t.pending t.base (A.line_keeps s.control l h.good) h.sides;
    }

    -- what is delivered is what the settled image delivers
    delivered : (c : C) (b : B) (i : I) (p : Cycle E) (base : I) → X.Good c → Sides (X.running c) i p base → (k : Kind) → X.kind (X.skel c b) ≡ k →
        Y.deliver i b (X.skel c b) ≡ Y.deliver (settle p base) b (X.skel c b)
    delivered c b i p base g s starts e = deliver_plain b _ _ _ (λ q. not_starts (sym e ∙ q))
    delivered c b i p base g s ends e = deliver_plain b _ _ _ (λ q. not_ends (sym e ∙ q))
    delivered c b i p base g s fetches e = ap (λ (x : I). Y.deliver x b (X.skel c b)) (idle_image _ i p base s (A.fetch_idle c b g e))
    delivered c b i p base g s plain e = deliver_plain b _ _ _ (λ q. not_plain (sym e ∙ q))

    -- one run
    abbrev pub after_control : {bs : List B} {ls : List L} → Order B L bs ls → C → C
    after_control o c = Orders.after X.bus X.skel X.line o c

    abbrev pub skeletons : {bs : List B} {ls : List L} → Order B L bs ls → C → List K
    skeletons o c = Orders.replies X.bus X.skel X.line o c

    abbrev pub after_part : {bs : List B} {ls : List L} → Order B L bs ls → Part C I → Part C I
    after_part o s = Orders.after bus_with reply_with line_with o s

    abbrev pub deliveries : {bs : List B} {ls : List L} → Order B L bs ls → Part C I → List D
    deliveries o s = Orders.replies bus_with reply_with line_with o s

    run_control : {bs : List B} {ls : List L} (o : Order B L bs ls) (s : Part C I) → (after_part o s).control ≡ after_control o s.control
    unfolding Orders.after
    run_control done s = refl
    run_control (bus_first {b = b} o) s = run_control o (bus_with s b)
    run_control (line_first {l = l} o) s = run_control o (line_with s l)

    run_holds : {bs : List B} {ls : List L} (o : Order B L bs ls) (s : Part C I) (t : Told) → Holds s t → Holds (after_part o s) (tells t bs (skeletons o s.control))
    unfolding Orders.after Orders.replies tells
    run_holds done s t h = h
    run_holds (bus_first {b = b} o) s t h = run_holds o (bus_with s b) _ (bus_holds s t b h)
    run_holds (line_first {l = l} o) s t h = run_holds o (line_with s l) t (line_holds s t l h)

    run_delivers : {bs : List B} {ls : List L} (o : Order B L bs ls) (s : Part C I) (t : Told) → Holds s t → deliveries o s ≡ delivers t bs (skeletons o s.control)
    unfolding Orders.replies delivers
    run_delivers done s t h = refl
    run_delivers (bus_first {b = b} o) s t h = ap₂ ◌∷◌ (delivered s.control b s.image t.pending t.base h.good h.sides _ refl) (run_delivers o (bus_with s b) _ (bus_holds s t b h))
    run_delivers (line_first {l = l} o) s t h = run_delivers o (line_with s l) t (line_holds s t l h)

    -- what is told before any record
    abbrev told_first : (s : Part C I) → X.Good s.control → Told
    told_first s good = record { pending = X.running s.control; base = s.image; frame = (A.frame s.control good).0 }

    first_holds : (s : Part C I) (good : X.Good s.control) → Holds s (told_first s good)
    first_holds s good = record { good = good; tracks = (A.frame s.control good).1; sides = inl (refl, refl) }

    -- two orders of the same bus records that agree in the skeletons agree in every delivered reply
    pub one_delivered : {bs cs : List B} {ls ks : List L} (o : Order B L bs ls) (p : Order B L cs ks) (s : Part C I) → X.Good s.control → bs ≡ cs →
        skeletons o s.control ≡ skeletons p s.control → deliveries o s ≡ deliveries p s
    one_delivered o p s good same-records same-skeletons =
        let t = told_first s good in
        let h₀ = first_holds s good in
        run_delivers o s t h₀ ∙ ap₂ (delivers t) same-records same-skeletons ∙ sym (run_delivers p s t h₀)

    -- and where they agree in the last control too, in the image
    pub one_part : {bs cs : List B} {ls ks : List L} (o : Order B L bs ls) (p : Order B L cs ks) (s : Part C I) → X.Good s.control → bs ≡ cs →
        skeletons o s.control ≡ skeletons p s.control → (after_part o s).control ≡ (after_part p s).control → after_part o s ≡ after_part p s
    one_part o p s good same-records same-skeletons same-control =
        let t = told_first s good in
        let h₀ = first_holds s good in
        let told : tells t _ (skeletons o s.control) ≡ tells t _ (skeletons p s.control) = ap₂ (tells t) same-records same-skeletons in
        let is : (after_part o s).image ≡ (after_part p s).image =
        one_image _ _ _ _ _ (run_holds o s t h₀).sides
        (subst₂ (λ (c : C) (w : Told). Sides (X.running c) (after_part p s).image w.pending w.base) (sym same-control) (sym told) (run_holds p s t h₀).sides) in
        λ i. record { control = same-control i; image = is i }

    -- control decides: to compare the control and the skeletons is to compare all
    pub skeletons_are_enough : (bs : List B) (ls : List L) (s : Part C I) → X.Good s.control →
        AnyTwo X.bus X.skel X.line bs ls s.control → AnyTwo bus_with reply_with line_with bs ls s
    skeletons_are_enough bs ls s good h o p = (
      one_part o p s good refl (h o p).1 (run_control o s ∙ (h o p).0 ∙ sym (run_control p s)),
      one_delivered o p s good refl (h o p).1,
    )

    -- and the other way round, where a delivered reply and what was told before it give the skeleton: nothing is refused that should not be
    module _ (read : B → K → D → K) (reads : (b : B) (k h : K) (i : I) → X.Telling k h → read b h (Y.deliver i b k) ≡ k) where
      unfoldable reading : F → List B → List D → List K
      reading f [] ds = []
      reading f (b ∷ bs) [] = []
      reading f (b ∷ bs) (d ∷ ds) = read b (X.hint f b) d ∷ reading (X.next f b (read b (X.hint f b) d)) bs ds

      run_reads : {bs : List B} {ls : List L} (o : Order B L bs ls) (s : Part C I) (f : F) → X.Good s.control → X.Tracks s.control f → skeletons o s.control ≡ reading f bs (deliveries o s)
      unfolding Orders.replies reading
      run_reads done s f g t = refl
      run_reads (bus_first {b = b} {bs = bs} o) s f g t =
          let e = reads b (X.skel s.control b) (X.hint f b) s.image (A.tells s.control f b g t) in
          ap₂ ◌∷◌ (sym e)
          (run_reads o (bus_with s b) _ (A.good_bus s.control b g) (A.tracks_bus s.control f b g t)
          ∙ ap (λ (k : K). reading (X.next f b k) bs (deliveries o (bus_with s b))) (sym e))
      run_reads (line_first {l = l} o) s f g t = run_reads o (line_with s l) f (A.good_line s.control l g) (A.tracks_line s.control f l g t)

      -- two orders of the same bus records that agree in every delivered reply agree in the skeletons
      pub one_told : {bs cs : List B} {ls ks : List L} (o : Order B L bs ls) (p : Order B L cs ks) (s : Part C I) → X.Good s.control → bs ≡ cs →
          deliveries o s ≡ deliveries p s → skeletons o s.control ≡ skeletons p s.control
      one_told o p s good same-records same-replies =
          let fr = A.frame s.control good in
          run_reads o s fr.0 good fr.1 ∙ ap₂ (reading fr.0) same-records same-replies ∙ sym (run_reads p s fr.0 good fr.1)

      pub all_is_enough : (bs : List B) (ls : List L) (s : Part C I) → X.Good s.control →
          AnyTwo bus_with reply_with line_with bs ls s → AnyTwo X.bus X.skel X.line bs ls s.control
      all_is_enough bs ls s good h o p = (
        sym (run_control o s) ∙ ap (λ (x : Part C I). x.control) (h o p).0 ∙ run_control p s,
        one_told o p s good refl (h o p).1,
      )
