-- When a complete-split is made again at once, along a run.
--     TextsRepeatAfterLosses     only after a loss, in the run of each script that a text spells
--     TextsSayWords              each translator says words alone
--     TextsAreHeard              each data endpoint of the driver below a hub stands on the bus
use Rattle.std.specs.Prelude.{◌≡◌, ℕ, false, List, slice_get, Some}
use Rattle.script_types.specs.declared.scripts.Script.{Script}
use Rattle.script_text.specs.Faults.{Spells}
use Rattle.drv_table.specs.declared.content.Endpoint.{Endpoint}
use Rattle.drv_table.specs.Words.{is_high}
use Rattle.bus_wire.specs.Bus.{fixed_of}
use Rattle.bus_world.specs.Budgets.{moment}
use Rattle.law_microframes.specs.due.repeats.Hearing.{is_control_way, IsHeardOn}
use Rattle.claims_world.specs.Losses.{RepeatAfterLosses}
use Rattle.law_microframes.specs.due.repeats.Words.{BusSaysWords}

abbrev pub TextsRepeatAfterLosses : Type 0
TextsRepeatAfterLosses = (text : List ℕ) → (s : Script) → Spells text s → RepeatAfterLosses s

-- at each moment what each translator has of an interrupt transaction is a word
abbrev pub TextsSayWords : Type 0
TextsSayWords = (text : List ℕ) → (s : Script) → Spells text s → (k : ℕ) → BusSaysWords (fixed_of s) (moment s k).world.bus

-- .. and each endpoint of the driver below a hub, but a control endpoint, stands on the bus, by a translator of its hub
abbrev pub TextsAreHeard : Type 0
TextsAreHeard = (text : List ℕ) → (s : Script) → Spells text s → (k : ℕ) → (e : ℕ) → (x : Endpoint)
    → slice_get (moment s k).world.driver.endpoints e ≡ Some x
    → is_high x.desc.speed ≡ false → is_control_way x.desc.name.way ≡ false → IsHeardOn (fixed_of s) (moment s k).world.bus x.desc
