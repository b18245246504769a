-- A frame of a translator's pipeline: its entries, watched beside a count of the parts that never came.
--     Event, Frame            what happens to a pipeline; a frame of it
--     next, run               the frame after an event, after a list of them
--     contents_after          the entries alone after an event, by the words of the pipeline
use Rattle.std.specs.Prelude.{ℕ, ◌+◌, ◌-◌, Bool, List, [], ◌∷◌, ◌++◌, length, map}
use Rattle.usb_base.specs.declared.packets.Ask.{Ask}
use Rattle.usb_base.specs.declared.packets.Reply.{Reply}
use Rattle.hub_keys.specs.Keys.{key_of}
use Rattle.hub_keys.specs.declared.key.Key.{Key}
use Rattle.tt_pipeline.specs.declared.entry.Entry.{Entry}
use Rattle.tt_pipeline.specs.declared.rows.StartRow.{StartRow}
use Rattle.tt_pipeline.specs.declared.rows.StartRow.TheVariants.{Enters, Joins, Forgotten}
use Rattle.tt_pipeline.specs.Answers.{completed, given}
use Rattle.tt_pipeline.specs.Starting.{has_key, with_first, without_first, start_row, started}
use Rattle.tt_pipeline.specs.Work.{fresh, joined}
use Rattle.tt_pipeline.specs.Working.{budget, used_at, turned, turned_all, first_reply, later_replies}
use Rattle.claims_world.specs.Plans.{Plan}
use Rattle.claims_world.specs.Watched.{Watched, gap_of}

pub data Event : Type 0 where
  Start : (ask : Ask) (bytes : List ℕ) (stuff : ℕ) → Event  -- a start-split comes, of an endpoint with so many stuffed bits
  Complete : (key : Key) → Event  -- a complete-split comes
  Work : (replies : List Reply) → Event  -- the next microframe begins: the pipeline works for the one that ended
  Drop : (plan : Plan) → Event  -- after the work at a frame's begin the entries are dropped; the frame has this plan
  Replan : (plan : Plan) → Event  -- endpoints are placed, or given back, in mid-frame: the rest of the frame has this plan
  Clear : Event  -- the pipeline is emptied

pub record Frame : Type 0 where
  pub plan : Plan
  pub now : ℕ  -- the microframe of the frame, 8 at the begin of the next one
  pub watched : List Watched  -- in order of arrival

abbrev pub entries_of : List Watched → List Entry
entries_of ws = map (λ w. w.entry) ws

abbrev pub is_of : Key → Watched → Bool
is_of k w = has_key k w.entry

abbrev pub changed : (Entry → Entry) → Watched → Watched
changed f w = record w { entry = f w.entry }

abbrev pub begun : StartRow → Ask → List ℕ → ℕ → List Watched → List Watched
begun Enters ask bytes stuff ws = without_first (is_of (key_of ask)) ws ++ record { entry = fresh ask bytes stuff; gaps = 0 } ∷ []
begun Joins ask bytes stuff ws = with_first (is_of (key_of ask)) (changed (joined ask bytes)) ws
begun Forgotten ask bytes stuff ws = ws

abbrev pub worked_one : ℕ → Reply → Watched → Watched
worked_one room reply w = record { entry = turned room reply w.entry; gaps = w.gaps + gap_of w.entry }

abbrev pub worked_all : ℕ → List Reply → List Watched → List Watched
worked_all room replies [] = []
worked_all room replies (w ∷ ws) =
    worked_one room (first_reply replies) w ∷ worked_all (room - used_at room w.entry) (later_replies replies) ws

abbrev pub next : Frame → Event → Frame
next f (Start ask bytes stuff) =
    record f { watched = begun (start_row ask (length bytes) (entries_of f.watched)) ask bytes stuff f.watched }
next f (Complete key) = record f { watched = with_first (is_of key) (changed given) f.watched }
next f (Work replies) = record f { now = f.now + 1; watched = worked_all budget replies f.watched }
next f (Drop plan) = record { plan = plan; now = 0; watched = [] }
next f (Replan plan) = record f { plan = plan }
next f Clear = record f { watched = [] }

abbrev pub run : List Event → Frame → Frame
run [] f = f
run (event ∷ events) f = run events (next f event)

-- the entries alone
abbrev pub contents_after : Event → List Entry → List Entry
contents_after (Start ask bytes stuff) es = started ask bytes stuff es
contents_after (Complete key) es = completed key es
contents_after (Work replies) es = turned_all budget replies es
contents_after (Drop plan) es = []
contents_after (Replan plan) es = es
contents_after Clear es = []

-- a frame begins with an empty pipeline
abbrev pub opening : Plan → Frame
opening plan = record { plan = plan; now = 0; watched = [] }

abbrev pub run_contents : List Event → List Entry → List Entry
run_contents [] es = es
run_contents (event ∷ events) es = run_contents events (contents_after event es)
