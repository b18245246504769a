-- What the trace writes: for each input, how it ends and which bytes it writes.
--     Gives choice input status bytes        the whole output: an end with its bytes
--     IsAnswer choice status input old new   how what is written follows from how the program ended
use Rattle.std.specs.Prelude.{◌≡◌, ℕ, List, Option, Some}
use Rattle.std.specs.Io.KnownBytes.{Appends, Keeps}
use Rattle.usb_base.specs.Outside.{AppendsPrefix}
use Rattle.script_types.specs.declared.scripts.Script.{Script}
use Rattle.script_forms.specs.declared.causes.TextWhy.{TextWhy}
use Rattle.script_text.specs.Faults.{Spells, first_fault, fault_line}
use Rattle.app_trace.specs.declared.choice.Choice.{Choice}
use Rattle.app_trace.specs.Traced.{IsTraceOf}
use Rattle.app_ends.specs.declared.status.Status.{Status}
use Rattle.app_ends.specs.declared.status.Status.TheVariants.{Ok, Words, Refused, ReadFault, WriteFault, Memory}

-- The input spells a script, and the bytes are the lines of the events of its run that are wanted.
pub record TracesInput (choice : Choice) (input bytes : List ℕ) : Type 0 where
  pub script : Script
  pub spelled : Spells input script
  pub traced : IsTraceOf script choice bytes

-- The input spells no script, and the line names its first fault.
pub record RefusesScript (input bytes : List ℕ) : Type 0 where
  pub number : ℕ
  pub why : TextWhy
  pub first : first_fault input ≡ Some (number, why)
  pub line : bytes ≡ fault_line number why

abbrev pub Gives : Choice → List ℕ → Status → List ℕ → Type 0
Gives choice input Ok bytes = TracesInput choice input bytes
Gives choice input Refused bytes = RefusesScript input bytes
Gives choice input Words bytes = ⊥
Gives choice input ReadFault bytes = ⊥
Gives choice input WriteFault bytes = ⊥
Gives choice input Memory bytes = ⊥

-- all of an output was written
abbrev pub WritesAll : Choice → List ℕ → Status → Option (List ℕ) → Option (List ℕ) → Type 0
WritesAll choice input status old new = (bytes : List ℕ) × Gives choice input status bytes × Appends old new bytes

-- The whole output where the trace is done or the input refused, a front part of it where the sink failed, and nothing else.
abbrev pub IsAnswer : Choice → Status → List ℕ → Option (List ℕ) → Option (List ℕ) → Type 0
IsAnswer choice Ok input old new = WritesAll choice input Ok old new
IsAnswer choice Refused input old new = WritesAll choice input Refused old new
IsAnswer choice WriteFault input old new = (status : Status) × (bytes : List ℕ) × Gives choice input status bytes × AppendsPrefix old new bytes
IsAnswer choice ReadFault input old new = Keeps old new
IsAnswer choice Memory input old new = Keeps old new
IsAnswer choice Words input old new = Keeps old new

-- The answer to words: that of the choice that they make.
abbrev pub IsProgram : Status → List ℕ → Option (List ℕ) → Option (List ℕ) → Type 0
IsProgram Words input old new = Keeps old new
IsProgram status input old new = (choice : Choice) × IsAnswer choice status input old new
