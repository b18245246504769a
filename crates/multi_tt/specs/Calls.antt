-- Calls on a hub's translators, and those of them that concern one port (USB 2.0, 11.14).
--     Call, HubCall               a call on one translator; one on those of a hub
--     after, hub_after            what a call leaves; `answer`, `hub_answer`: what it answers, if it does
--     only port calls             those that concern the port, as calls on one translator
--     played, hub_played          what a list of calls leaves; `answers`, `answers_at`: what it answers, or answers for a port
use Rattle.std.specs.Prelude.{ℕ, ◌-◌, ◌==◌, if◌then◌else◌, List, [], ◌∷◌, ◌++◌, get_or, Option, Some, None, is_some}
use Rattle.std.specs.Option.{option_map_or}
use Rattle.usb_base.specs.declared.packets.Ask.{Ask}
use Rattle.usb_base.specs.declared.packets.Reply.{Reply}
use Rattle.usb_base.specs.declared.packets.Reply.TheVariants.{Silent}
use Rattle.usb_base.specs.declared.packets.Split.{Split}
use Rattle.usb_base.specs.declared.packets.Split.TheVariants as Splits
use Rattle.hub_keys.specs.declared.key.Key.{Key}
use Rattle.multi_tt.specs.Translators.{Translator, Translators, opening, translator_at, changed_at}
use Rattle.multi_tt.specs.Single.{started, start_answer, completed, complete_answer, cleared, Heard, silence, worked_by}

-- ---- one translator

pub data Call : Type 0 where
  Start : (ask : Ask) (bytes : List ℕ) (stuff : ℕ) → Call
  Complete : (ask : Ask) → Call
  Work : (frindex : ℕ) (heard : Heard) → Call  -- the microframe with this frame index begins
  Clear : (key : Key) → Call
  Reset : Call

abbrev pub after : Call → Translator → Translator
after (Start ask bytes stuff) t = started ask bytes stuff t
after (Complete ask) t = completed ask t
after (Work frindex heard) t = worked_by frindex heard t
after (Clear key) t = cleared key t
after Reset t = opening

abbrev pub answer : Call → Translator → Option Reply
answer (Start ask bytes stuff) t = Some (start_answer ask t)
answer (Complete ask) t = Some (complete_answer ask t)
answer (Work frindex heard) t = None
answer (Clear key) t = None
answer Reset t = None

abbrev pub listed : Option Reply → List Reply
listed None = []
listed (Some reply) = reply ∷ []

abbrev pub played : List Call → Translator → Translator
played [] t = t
played (call ∷ calls) t = played calls (after call t)

abbrev pub answers : List Call → Translator → List Reply
answers [] t = []
answers (call ∷ calls) t = listed (answer call t) ++ answers calls (after call t)

-- ---- those of a hub

pub data HubCall : Type 0 where
  Starts : (ask : Ask) (bytes : List ℕ) (stuff : ℕ) → HubCall
  Completes : (ask : Ask) → HubCall
  Works : (frindex : ℕ) (heard : List Heard) → HubCall  -- what each hears, in the order of the ports
  Clears : (port : ℕ) (key : Key) → HubCall
  Resets : (port : ℕ) → HubCall

-- the port that a split names
abbrev pub port_of : Split → ℕ
port_of Splits.Plain = 0
port_of (Splits.Start hub port part) = port
port_of (Splits.Complete hub port) = port

abbrev pub first_heard : List Heard → Heard
first_heard [] = silence
first_heard (heard ∷ _) = heard

abbrev pub later_heard : List Heard → List Heard
later_heard [] = []
later_heard (_ ∷ heard) = heard

-- each works for itself, in the order of the ports
abbrev pub all_worked : ℕ → List Heard → List Translator → List Translator
all_worked frindex heard [] = []
all_worked frindex heard (t ∷ ts) = worked_by frindex (first_heard heard) t ∷ all_worked frindex (later_heard heard) ts

abbrev pub hub_after : HubCall → Translators → Translators
hub_after (Starts ask bytes stuff) ts = changed_at (port_of ask.split) (started ask bytes stuff) ts
hub_after (Completes ask) ts = changed_at (port_of ask.split) (completed ask) ts
hub_after (Works frindex heard) ts = record ts { all = all_worked frindex heard ts.all }
hub_after (Clears port key) ts = changed_at port (cleared key) ts
hub_after (Resets port) ts = changed_at port (λ t. opening) ts

-- a split is answered by silence where the hub doesn't have its port
abbrev pub hub_answer : HubCall → Translators → Option Reply
hub_answer (Starts ask bytes stuff) ts = Some (option_map_or (start_answer ask) (translator_at (port_of ask.split) ts) Silent)
hub_answer (Completes ask) ts = Some (option_map_or (complete_answer ask) (translator_at (port_of ask.split) ts) Silent)
hub_answer (Works frindex heard) ts = None
hub_answer (Clears port key) ts = None
hub_answer (Resets port) ts = None

abbrev pub hub_played : List HubCall → Translators → Translators
hub_played [] ts = ts
hub_played (call ∷ calls) ts = hub_played calls (hub_after call ts)

-- ---- one port of a hub with a translator for each

-- a call that concerns the port, as one on its translator; there each hears its own
abbrev pub only_one : ℕ → HubCall → Option Call
only_one port (Starts ask bytes stuff) = if port_of ask.split == port then Some (Start ask bytes stuff) else None
only_one port (Completes ask) = if port_of ask.split == port then Some (Complete ask) else None
only_one port (Works frindex heard) = Some (Work frindex (get_or heard (port - 1) silence))
only_one port (Clears p key) = if p == port then Some (Clear key) else None
only_one port (Resets p) = if p == port then Some Reset else None

abbrev pub put_first : Option Call → List Call → List Call
put_first None calls = calls
put_first (Some call) calls = call ∷ calls

abbrev pub only : ℕ → List HubCall → List Call
only port [] = []
only port (call ∷ calls) = put_first (only_one port call) (only port calls)

-- what is answered for the port
abbrev pub answer_at : ℕ → HubCall → Translators → Option Reply
answer_at port call ts = if is_some (only_one port call) then hub_answer call ts else None

abbrev pub answers_at : ℕ → List HubCall → Translators → List Reply
answers_at port [] ts = []
answers_at port (call ∷ calls) ts = listed (answer_at port call ts) ++ answers_at port calls (hub_after call ts)
