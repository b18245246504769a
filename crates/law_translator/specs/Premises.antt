-- Starts that come from a plan that fits.
--     Follows p now ask ..    a start is one that the plan calls for
--     FairAll most            each start of a run is, of at most so many stuffed bits in 36, and each plan fits
use Rattle.std.specs.Prelude.{◌≡◌, ◌⊎◌, ℕ, ◌+◌, ◌-◌, ◌*◌, ◌≤◌, ◌<◌, true, false, List, [], ◌∷◌, length, Option, Some, None}
use Rattle.std.specs.List.{find}
use Rattle.usb_base.specs.declared.packets.Ask.{Ask}
use Rattle.usb_base.specs.declared.packets.EpKind.TheVariants.{Interrupt}
use Rattle.usb_base.specs.declared.packets.DataPart.{DataPart}
use Rattle.usb_base.specs.declared.packets.DataPart.TheVariants.{All, Begin, Middle, End}
use Rattle.usb_base.specs.declared.packets.Speed.TheVariants.{Full, High}
use Rattle.hub_keys.specs.Asks.{work_of}
use Rattle.hub_keys.specs.Keys.{key_of}
use Rattle.hub_keys.specs.declared.key.Key.{Key}
use Rattle.tt_pipeline.specs.declared.entry.Entry.{Entry}
use Rattle.tt_pipeline.specs.declared.rows.AnswerRow.TheVariants.{Result}
use Rattle.tt_pipeline.specs.declared.rows.StartRow.{StartRow}
use Rattle.tt_pipeline.specs.declared.rows.StartRow.TheVariants.{Enters, Joins, Forgotten}
use Rattle.tt_pipeline.specs.Answers.{answer_row, answer_of}
use Rattle.tt_pipeline.specs.Starting.{has_key, start_row}
use Rattle.tt_pipeline.specs.Work.{asked_part}
use Rattle.law_translator.specs.Plans.{Fits}
use Rattle.claims_world.specs.Plans.{Plan}
use Rattle.law_translator.specs.Frames.{Event, Start, Complete, Work, Drop, Replan, Clear, Frame, entries_of, next}
use Rattle.claims_world.specs.Watched.{Watched}

-- k is one of the keys
abbrev pub In : Key → List Key → Type 0
In k [] = ⊥
In k (x ∷ xs) = (k ≡ x) ⊎ In k xs

-- the bytes of a part: 188, and no more than the rest of what is laid is called for with the last one
abbrev pub FirstPart : DataPart → Plan → Key → Ask → ℕ → Type 0
FirstPart All p k ask n = work_of ask n ≤ p.times k
FirstPart Begin p k ask n = (ask.speed ≡ Full) × (n ≡ 188) × (188 ≤ p.times k)
FirstPart Middle p k ask n = ⊥
FirstPart End p k ask n = ⊥

-- a first start comes in the microframe of the plan
pub record IsFirst (p : Plan) (now : ℕ) (ask : Ask) (n : ℕ) : Type 0 where
  pub placed : In (key_of ask) p.keys
  pub on_time : now ≡ p.first (key_of ask)
  pub within : now < 8
  pub classic : ask.speed ≡ High → ⊥
  pub part : FirstPart (asked_part ask) p (key_of ask) ask n

abbrev pub LaterPart : DataPart → Plan → ℕ → Key → ℕ → Type 0
LaterPart All p now k n = ⊥
LaterPart Begin p now k n = ⊥
LaterPart Middle p now k n = (n ≡ 188) × (188 * (now - p.first k) + 188 ≤ p.times k)
LaterPart End p now k n = 188 * (now - p.first k) + (n + 9) ≤ p.times k

-- a later part comes at most once in a microframe, and none comes after the last
pub record IsLater (p : Plan) (now : ℕ) (ask : Ask) (n : ℕ) (e : Entry) : Type 0 where
  pub lacks : e.came.whole ≡ false
  pub one : e.came ≡ e.before
  pub within : now < 8
  pub part : LaterPart (asked_part ask) p now (key_of ask) n

abbrev pub LaterOf : Plan → ℕ → Ask → ℕ → Option Entry → Type 0
LaterOf p now ask n None = Unit {0}
LaterOf p now ask n (Some e) = IsLater p now ask n e

-- a start that the plan calls for; one that is forgotten counts for nothing
abbrev pub FollowsRow : StartRow → Plan → ℕ → Ask → ℕ → List Entry → Type 0
FollowsRow Enters p now ask n es = IsFirst p now ask n
FollowsRow Joins p now ask n es = LaterOf p now ask n (find (has_key (key_of ask)) es)
FollowsRow Forgotten p now ask n es = Unit {0}

abbrev pub Follows : Plan → ℕ → Ask → ℕ → List Entry → Type 0
Follows p now ask n es = FollowsRow (start_row ask n es) p now ask n es

-- the key is laid in q as it is in p
pub record IsLaidAs (p q : Plan) (k : Key) : Type 0 where
  pub there : In k q.keys
  pub first : q.first k ≡ p.first k
  pub times : q.times k ≡ p.times k

abbrev pub AllLaidAs : Plan → Plan → List Watched → Type 0
AllLaidAs p q [] = Unit {0}
AllLaidAs p q (w ∷ ws) = IsLaidAs p q w.entry.key × AllLaidAs p q ws

abbrev pub Fair : ℕ → Event → Frame → Type 0
Fair most (Start ask bytes stuff) f = (stuff ≤ most) × Follows f.plan f.now ask (length bytes) (entries_of f.watched)
Fair most (Complete key) f = Unit {0}
Fair most (Work replies) f = Unit {0}
Fair most (Drop plan) f = Fits plan
Fair most (Replan plan) f = Fits plan × AllLaidAs f.plan plan f.watched
Fair most Clear f = Unit {0}

-- each start of the run is one that the plan calls for, of an endpoint whose stuffed bits make 36 bytes longer by at most so
-- many; each plan fits, and a plan that changes in mid-frame lays what has an entry as before
abbrev pub FairAll : ℕ → List Event → Frame → Type 0
FairAll most [] f = Unit {0}
FairAll most (event ∷ events) f = Fair most event f × FairAll most events (next f event)

-- ---- what is promised

-- an interrupt's answer that was there is there, and the same
abbrev pub Stays : Watched → Watched → Type 0
Stays w v =
    w.entry.ask.kind ≡ Interrupt → w.entry.heard.whole ≡ true → answer_row w.entry ≡ Result → (answer_row v.entry ≡ Result) × (answer_of v.entry ≡ answer_of w.entry)

abbrev pub AllStay : List Watched → List Watched → Type 0
AllStay [] [] = Unit {0}
AllStay [] (v ∷ vs) = ⊥
AllStay (w ∷ ws) [] = ⊥
AllStay (w ∷ ws) (v ∷ vs) = Stays w v × AllStay ws vs
