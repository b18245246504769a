-- What the program writes: for each number of events and input, how it ends and which bytes it writes.
--     events_of words                  the number of events that the words ask for
--     probed_line p                    the line that tells what a controller did
--     Gives n input status bytes       the whole output: an end with its bytes
--     IsAnswer n status input ..       how what is written follows from how the program ended
use Rattle.std.specs.Prelude.{◌≡◌, ℕ, Bool, true, false, List, [], ◌∷◌, ◌++◌, Option, None, Some, codes, decimal}
use Rattle.std.specs.Io.KnownBytes.{Appends, Keeps}
use Rattle.usb_base.specs.Outside.{AppendsPrefix}
use Rattle.script_forms.specs.Syntax.{number_of}
use Rattle.image_codec.specs.declared.image.Refusal.{Refusal}
use Rattle.image_show.specs.ImageAt.{any_fault, any_image}
use Rattle.image_show.specs.Text.{refusal_line}
use Rattle.app_probe.specs.declared.probing.Probed.{Probed}
use Rattle.app_probe.specs.Probe.{IsProbe, EndsSo}
use Rattle.app_ends.specs.declared.status.Status.{Status}
use Rattle.app_ends.specs.declared.status.Status.TheVariants.{Ok, Words, Refused, ReadFault, WriteFault, Memory}

-- one decimal number without sign or leading zeros, below 2 ^ 32
abbrev pub events_of : List (List ℕ) → Option ℕ
events_of [] = None
events_of (word ∷ []) = number_of word
events_of (word ∷ next ∷ rest) = None

abbrev pub fault_word : Bool → List ℕ
fault_word true = codes "yes"
fault_word false = codes "no"

abbrev pub probed_line : Probed → List ℕ
probed_line p = codes "steps " ++ (decimal p.steps ++ (codes " foreign " ++ (decimal p.foreign ++ (codes " fault " ++ (fault_word p.fault ++ codes "\n")))))

-- the input is an image, and the line tells what n events of a controller are over it
pub record Tells (n : ℕ) (input bytes : List ℕ) : Type 0 where
  pub sound : any_fault input ≡ None
  pub probed : Probed
  pub probe : IsProbe (any_image input) n probed
  pub end : EndsSo n probed
  pub told : bytes ≡ probed_line probed

-- the input is no image, and the line names the first thing that is wrong with it
pub record Refuses (input bytes : List ℕ) : Type 0 where
  pub refusal : Refusal
  pub refused : any_fault input ≡ Some refusal
  pub told : bytes ≡ refusal_line refusal

abbrev pub Gives : ℕ → List ℕ → Status → List ℕ → Type 0
Gives n input Ok bytes = Tells n input bytes
Gives n input Refused bytes = Refuses input bytes
Gives n input Words bytes = ⊥
Gives n input ReadFault bytes = ⊥
Gives n input WriteFault bytes = ⊥
Gives n input Memory bytes = ⊥

-- all of an output was written
abbrev pub WritesAll : ℕ → List ℕ → Status → Option (List ℕ) → Option (List ℕ) → Type 0
WritesAll n input status old new = (bytes : List ℕ) × Gives n input status bytes × Appends old new bytes

-- the whole output where it is done or refuses the input, a front part of it where the sink failed, and nothing else
abbrev pub IsAnswer : ℕ → Status → List ℕ → Option (List ℕ) → Option (List ℕ) → Type 0
IsAnswer n Ok input old new = WritesAll n input Ok old new
IsAnswer n Refused input old new = WritesAll n input Refused old new
IsAnswer n WriteFault input old new = (status : Status) × (bytes : List ℕ) × Gives n input status bytes × AppendsPrefix old new bytes
IsAnswer n ReadFault input old new = Keeps old new
IsAnswer n Memory input old new = Keeps old new
IsAnswer n Words input old new = Keeps old new

-- the answer of the program to words that ask for this number of events
abbrev pub IsProgram : Option ℕ → Status → List ℕ → Option (List ℕ) → Option (List ℕ) → Type 0
IsProgram (Some n) status input old new = IsAnswer n status input old new
IsProgram None status input old new = Keeps old new
