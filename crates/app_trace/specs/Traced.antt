-- A run with what is told of each event, and the text of it: one line an event.
use Rattle.std.specs.Prelude.{◌≡◌, ◌≢◌, ℕ, List, [], ◌∷◌, ◌++◌}
use Rattle.std.specs.List.{flat_map}
use Rattle.app_trace_lines.specs.declared.entries.Entry.{Entry}
use Rattle.app_trace_lines.specs.declared.entries.Work.{Work}
use Rattle.bus_packets.specs.declared.exchanges.Passed.{Passed}
use Rattle.app_trace.specs.declared.choice.Choice.{Choice}
use Rattle.app_trace.specs.declared.choice.Form.TheVariants.{Schedule}
use Rattle.script_types.specs.declared.scripts.Script.{Script}
use Rattle.app_trace.specs.Watched.{Watched, Told, HasBytes, IsEvent, IsOpening}
use Rattle.app_trace.specs.Chosen.{chosen_line, head_of}

-- these are told of the events that lead from one host to another, one of each
abbrev pub Runs : Watched → List Told → Watched → Type 0
Runs m [] n = m ≡ n
Runs m (t ∷ ts) n = (between : Watched) × IsEvent m t.entry between × HasBytes t between × Runs between ts n

-- The text grew by the lines of the events that lead from one host to another, one of each, in their order; but for those left out.
pub record Traces (choice : Choice) (m n : Watched) (old new : List ℕ) : Type 0 where
  pub told : List Told
  pub runs : Runs m told n
  pub text : new ≡ old ++ flat_map (chosen_line choice) told

-- The line of an entry was appended, if it is wanted; choice and host stay.
pub record Puts (choice : Choice) (m : Watched) (old : List ℕ) (e : Entry) (later : Choice) (n : Watched) (new : List ℕ) : Type 0 where
  pub same : later ≡ choice
  pub host : n ≡ m
  pub works : List Work
  pub passed : List Passed
  pub text : new ≡ old ++ chosen_line choice
      (record { entry = e; works = works; passed = passed; sent = m.recorded.sent; got = m.recorded.got })

-- the text traces events, and the choice stays
pub record Goes (choice : Choice) (m : Watched) (old : List ℕ) (later : Choice) (n : Watched) (new : List ℕ) : Type 0 where
  pub same : later ≡ choice
  pub traces : Traces choice m n old new

-- The lines are those of the events that lead on from a host of this script before its first line.
pub record IsRunOf (s : Script) (choice : Choice) (lines : List ℕ) : Type 0 where
  pub opening : Watched
  pub end : Watched
  pub opened : IsOpening s opening
  pub traces : Traces choice opening end [] lines

-- The text is what is told of such a run, behind what stands before it all. A schedule comes last, where one is wanted.
pub record IsTraceOf (s : Script) (choice : Choice) (text : List ℕ) : Type 0 where
  pub lines : List ℕ
  pub run : IsRunOf s choice lines
  pub schedule : List ℕ
  pub unless : choice.form ≢ Schedule → schedule ≡ []
  pub whole : text ≡ (head_of choice.form ++ lines) ++ schedule
