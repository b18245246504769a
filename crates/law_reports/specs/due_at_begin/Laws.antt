-- The law of what is due as its microframe begins.
--     TextsDoWhatIsDueAtBegin     of each script that a text spells: what was due as the microframe began is done once the walk of the
--                                 frames is over
--     TextsDoSlotsAtBegin         .. so is each slot of an iTD that was due as the microframe began
--     TextsServeSitdsAtBegin      .. and each siTD of which a transaction was due then had it
use Rattle.std.specs.Prelude.{ℕ, List}
use Rattle.script_types.specs.declared.scripts.Script.{Script}
use Rattle.script_text.specs.Faults.{Spells}
use Rattle.claims_world.specs.DueAtBegin.{DueAtBeginIsDone}
use Rattle.claims_world.specs.SitdsAtBegin.{SitdsAtBeginAreServed}
use Rattle.claims_world.specs.SlotsAtBegin.{SlotsAtBeginAreDone}

abbrev pub TextsDoWhatIsDueAtBegin : Type 0
TextsDoWhatIsDueAtBegin = (text : List ℕ) (s : Script) → Spells text s → DueAtBeginIsDone s

abbrev pub TextsDoSlotsAtBegin : Type 0
TextsDoSlotsAtBegin = (text : List ℕ) (s : Script) → Spells text s → SlotsAtBeginAreDone s

abbrev pub TextsServeSitdsAtBegin : Type 0
TextsServeSitdsAtBegin = (text : List ℕ) (s : Script) → Spells text s → SitdsAtBeginAreServed s
