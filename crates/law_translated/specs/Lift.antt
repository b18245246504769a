-- A host and a device with a transaction translator between them, whatever they say to each other (USB 2.0, 11.17 and 11.18; EHCI 1.0,
-- 4.12). A plain transaction is two halves: the device's, after which there is an answer that the host hasn't heard, and the host's, which
-- hears it. Behind a hub the halves lie apart, and the answer waits in a slot of the translator.
--     Halves S A R        what host and device do to their line S, with asks A and answers R
--     Step m way x y      what an event is to them, with a translator between
--     Claims S A R        how host and device stand to each other
--     Keeps m c           each half keeps how they stand
--     Holds m c way x     they stand so, whatever is in the slots
use Rattle.std.specs.Prelude.{◌≡◌, List, [], ◌∷◌}

-- how the translator carries a transaction: in a bulk buffer, or as an entry of the periodic pipeline
pub data Way : Type 0 where
  Buffered : Way
  Piped : Way

-- whether the host starts the next transaction or completes one (EHCI 1.0, 4.12)
pub data Wait : Type 0 where
  Idle : Wait  -- Do-Start
  Waits : Wait  -- Do-Complete
  Late : Wait  -- Do-Complete, and the answer is gone from the translator

-- what the translator has of the host's key, for one direction
pub data Slot (A R : Type 0) : Type 0 where
  Empty : Slot A R
  Asked : A → Slot A R  -- its transaction isn't made
  Hidden : A → R → Slot A R  -- made, but not all of its byte-times are worked
  There : A → R → Slot A R
  Told : A → R → Slot A R  -- a complete-split was answered with it

-- the line of host and device, whether the host waits, the slot of the direction that it asks in, and that of the other one
pub record Split (S A R : Type 0) : Type 0 where
  pub line : S
  pub wait : Wait
  pub here : Slot A R
  pub aside : Slot A R

-- a line whose host starts, with nothing in the translator
abbrev pub at_rest : {S A R : Type 0} → S → Split S A R
at_rest s = record { line = s; wait = Idle; here = Empty; aside = Empty }

-- nothing is to come of it
abbrev pub IsQuiet : {A R : Type 0} → Slot A R → Type 0
IsQuiet Empty = Unit {0}
IsQuiet (Asked a) = ⊥
IsQuiet (Hidden a r) = ⊥
IsQuiet (There a r) = ⊥
IsQuiet (Told a r) = Unit {0}

-- a pipeline shows an answer when the last byte-time of its transaction is worked
abbrev pub result : {A R : Type 0} → Way → A → R → Slot A R
result Buffered a r = There a r
result Piped a r = Hidden a r

abbrev pub told : {A R : Type 0} → Slot A R → Slot A R
told Empty = Empty
told (Asked a) = Asked a
told (Hidden a r) = Hidden a r
told (There a r) = Told a r
told (Told a r) = Told a r

-- the answer goes while the host waits for it
abbrev pub gone_wait : Wait → Wait
gone_wait Idle = Idle
gone_wait Waits = Late
gone_wait Late = Late

-- what host and device do to their line
pub record Halves (S A R : Type 0) : Type 1 where
  pub Is : S → A → Type 0  -- this is what the host asks, now or as soon as it doesn't wait
  pub Alone : S → S → Type 0  -- the host by itself: it counts an error, which may be the last; it ends; or it is given more to send
  pub Works : S → A → R → S → Type 0  -- the device's half: the asker hears this answer, and the device hears the acknowledgement or doesn't
  pub Quiet : S → A → S → Type 0  -- .. the asker hears nothing
  pub Hears : S → A → R → S → Type 0  -- the host's half
  pub Spared : A → R → Type 0  -- an answer whose loss leaves all as it stands, where the host would ask once more
  pub dead : Way → R  -- the translator's own answer: to the third silence from a buffer, to one from a pipeline

-- a slot that can be cleared: not where an answer that matters is there, and the host, which doesn't wait, would ask once more
abbrev pub IsSpared : {A R : Type 0} → (A → R → Type 0) → Slot A R → Wait → Type 0
IsSpared spared Empty u = Unit {0}
IsSpared spared (Asked a) u = Unit {0}
IsSpared spared (Hidden a r) u = Unit {0}
IsSpared spared (There a r) Idle = spared a r
IsSpared spared (There a r) Waits = Unit {0}
IsSpared spared (There a r) Late = Unit {0}
IsSpared spared (Told a r) u = Unit {0}

-- what an event is to the pair of slots
pub data Step {S A R : Type 0} (m : Halves S A R) (way : Way) (x : Split S A R) : Split S A R → Type 0 where
  -- a start or an answer that wasn't heard, a silence, a miss, a cancel, a further transfer
  alone : (t : S) → m.Alone x.line t → Step m way x (record x { line = t })
  -- on the high-speed bus both halves come at once; or the host hears nothing, whatever the device did
  plain : (a : A) (r : R) (t u : S) → x.wait ≡ Idle → x.here ≡ Empty → m.Is x.line a → m.Works x.line a r t → m.Hears t a r u
      → Step m way x (record x { line = u })
  half_plain : (a : A) (t : S) → x.wait ≡ Idle → x.here ≡ Empty → m.Is x.line a → m.Quiet x.line a t → Step m way x (record x { line = t })
  -- a start-split that makes a buffer or an entry; the host heard of it, or not
  starts : (a : A) → x.wait ≡ Idle → m.Is x.line a → IsQuiet x.here → Step m way x (record x { here = Asked a; wait = Waits })
  half_starts : (a : A) → way ≡ Buffered → x.wait ≡ Idle → m.Is x.line a → IsQuiet x.here → Step m way x (record x { here = Asked a })
  -- one that finds the buffer of its key
  repeats : x.wait ≡ Idle → (IsQuiet x.here → ⊥) → Step m way x (record x { wait = Waits })
  -- one that a pipeline doesn't hear: a periodic start has no handshake
  starts_none : way ≡ Piped → x.wait ≡ Idle → x.here ≡ Empty → Step m way x (record x { wait = Waits })
  -- the last complete-split gets NYET, and the translator has nothing of it
  gives_up : way ≡ Piped → x.wait ≡ Waits → x.here ≡ Empty → Step m way x (record x { wait = Idle })
  -- a complete-split: the answer is given, and heard or not
  tells : (a : A) (r : R) (t : S) → x.wait ≡ Waits → told x.here ≡ Told a r → m.Hears x.line a r t
      → Step m way x (record x { line = t; wait = Idle; here = Told a r })
  half_tells : x.wait ≡ Waits → Step m way x (record x { here = told x.here })
  -- the transaction below
  works : (a : A) (r : R) (t : S) → x.here ≡ Asked a → m.Works x.line a r t → Step m way x (record x { line = t; here = result way a r })
  is_quiet : (a : A) (t : S) → x.here ≡ Asked a → m.Quiet x.line a t → Step m way x (record x { line = t })
  gives_dead : (a : A) → x.here ≡ Asked a → Step m way x (record x { here = result way a (m.dead way) })
  shows : (a : A) (r : R) → x.here ≡ Hidden a r → Step m way x (record x { here = There a r })
  -- another key takes a buffer that was told; a frame ends, or the translator is reset; the hub is told to clear the buffer
  forgets : (a : A) (r : R) → x.here ≡ Told a r → Step m way x (record x { here = Empty; wait = gone_wait x.wait })
  drops : way ≡ Piped → Step m way x (record x { here = Empty; wait = gone_wait x.wait })
  clears : IsSpared m.Spared x.here x.wait → Step m way x (record x { here = Empty; wait = gone_wait x.wait })
  forgets_aside : Step m way x (record x { aside = Empty })
  -- the host asks in the other direction from now on
  turns : x.wait ≡ Idle → IsQuiet x.here → Step m way x (record x { here = x.aside; aside = x.here })

-- several events, in order
pub data Run {S A R : Type 0} (m : Halves S A R) (way : Way) : Split S A R → Split S A R → Type 0 where
  stays : (x : Split S A R) → Run m way x x
  goes : (x y z : Split S A R) → Step m way x y → Run m way y z → Run m way x z

-- these are what each of several events leaves, in order
abbrev pub Passes : {S A R : Type 0} → Halves S A R → Way → Split S A R → List (Split S A R) → Type 0
Passes m way x [] = Unit {0}
Passes m way x (y ∷ ys) = Step m way x y × Passes m way y ys

-- what is said of a line
pub record Claims (S A R : Type 0) : Type 1 where
  pub Stands : S → Type 0  -- host and device stand to each other as they must, with no answer on the way
  pub Answered : S → A → R → Type 0  -- .. with this answer to this ask on the way
  pub Gone : S → Type 0  -- .. where an answer was lost that the host waits for

-- each half keeps how they stand
pub record Keeps {S A R : Type 0} (m : Halves S A R) (c : Claims S A R) : Type 0 where
  pub alone_is : (s t : S) (a : A) → m.Alone s t → m.Is s a → m.Is t a
  pub alone_stands : (s t : S) → m.Alone s t → c.Stands s → c.Stands t
  pub alone_answered : (s t : S) (a : A) (r : R) → m.Alone s t → c.Answered s a r → c.Answered t a r
  pub alone_gone : (s t : S) → m.Alone s t → c.Gone s → c.Gone t
  pub works : (s t : S) (a : A) (r : R) → m.Is s a → c.Stands s → m.Works s a r t → c.Answered t a r
  pub quiet : (s t : S) (a : A) → m.Is s a → c.Stands s → m.Quiet s a t → c.Stands t
  pub quiet_is : (s t : S) (a : A) → m.Is s a → m.Quiet s a t → m.Is t a
  pub dead : (way : Way) (s : S) (a : A) → m.Is s a → c.Stands s → c.Answered s a (m.dead way)
  pub hears : (s t : S) (a : A) (r : R) → c.Answered s a r → m.Hears s a r t → c.Stands t
  pub spared : (s : S) (a : A) (r : R) → m.Spared a r → c.Answered s a r → c.Stands s
  pub lost : (s : S) (a : A) (r : R) → c.Answered s a r → c.Gone s
  pub none : (s : S) → c.Stands s → c.Gone s

-- what a host that doesn't wait has left in the translator, that is a buffer; what byte-times are to come of, that is a pipeline
abbrev pub IfBuffered : Way → Type 0 → Type 0
IfBuffered Buffered P = P
IfBuffered Piped P = ⊥

abbrev pub IfPiped : Way → Type 0 → Type 0
IfPiped Buffered P = ⊥
IfPiped Piped P = P

-- how they stand, by the slot and whether the host waits
abbrev pub At : {S A R : Type 0} → Halves S A R → Claims S A R → Way → Slot A R → Wait → S → Type 0
At m c way Empty Idle s = c.Stands s
At m c way Empty Waits s = c.Stands s
At m c way Empty Late s = c.Gone s
At m c way (Asked a) Idle s = IfBuffered way (m.Is s a × c.Stands s)
At m c way (Asked a) Waits s = m.Is s a × c.Stands s
At m c way (Asked a) Late s = ⊥
At m c way (Hidden a r) Idle s = ⊥
At m c way (Hidden a r) Waits s = IfPiped way (c.Answered s a r)
At m c way (Hidden a r) Late s = ⊥
At m c way (There a r) Idle s = IfBuffered way (c.Answered s a r)
At m c way (There a r) Waits s = c.Answered s a r
At m c way (There a r) Late s = ⊥
At m c way (Told a r) Idle s = c.Stands s
At m c way (Told a r) Waits s = c.Answered s a r
At m c way (Told a r) Late s = ⊥

pub record Holds {S A R : Type 0} (m : Halves S A R) (c : Claims S A R) (way : Way) (x : Split S A R) : Type 0 where
  pub at : At m c way x.here x.wait x.line
  pub aside : IsQuiet x.aside

-- each event keeps how they stand, and so do several
abbrev pub StepsKeep : {S A R : Type 0} → Halves S A R → Claims S A R → Type 0
StepsKeep {S = S} {A = A} {R = R} m c = (way : Way) (x y : Split S A R) → Step m way x y → Holds m c way x → Holds m c way y

abbrev pub RunsKeep : {S A R : Type 0} → Halves S A R → Claims S A R → Type 0
RunsKeep {S = S} {A = A} {R = R} m c = (way : Way) (x y : Split S A R) → Run m way x y → Holds m c way x → Holds m c way y

-- ---- a host that waits for an answer which is gone

pub record IsStranded {S A R : Type 0} (x : Split S A R) : Type 0 where
  pub late : x.wait ≡ Late
  pub empty : x.here ≡ Empty

-- what the host does by itself, several times
pub data AllAlone {S A R : Type 0} (m : Halves S A R) : S → S → Type 0 where
  none : (s : S) → AllAlone m s s
  more : (s t u : S) → m.Alone s t → AllAlone m t u → AllAlone m s u

-- nothing is asked, made or heard any more, and the host goes on waiting
pub record OnlyAlone {S A R : Type 0} (m : Halves S A R) (x y : Split S A R) : Type 0 where
  pub stranded : IsStranded y
  pub alone : AllAlone m x.line y.line

abbrev pub StrandedStays : {S A R : Type 0} → Halves S A R → Type 0
StrandedStays {S = S} {A = A} {R = R} m = (way : Way) (x y : Split S A R) → Run m way x y → IsStranded x → OnlyAlone m x y
