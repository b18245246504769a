-- Laws of bulk and control endpoints below hubs whose packets on the high-speed bus all get through (EHCI 1.0, 3.5.3, 4.10.3 and 4.12; USB 2.0, 8.5,
-- 11.17 and 11.24.2).
--     OpensAt s x               before the first line the endpoint so described has its hub, and nothing is awaited of it
--     OpensAwaited s            so it is of each that the script opens
--     HaveHubs s                each endpoint that isn't at high speed is behind a port of a hub of the script
--     TextsHaveHubs, TextsOpenAwaited      so it is in each script that a text spells
--     TextsAreAwaited           hosts and hubs stand as they must at each moment of each such script none of whose requests takes a key
--                               from a hub
--     TextsSpareBuffered        so each line that tells a halt by errors is of an interrupt endpoint that isn't at high speed
use Rattle.std.specs.Prelude.{◌≡◌, ℕ, true, false, List}
use Rattle.std.specs.List.{AllByRecursion}
use Rattle.usb_base.specs.declared.endpoints.EpDesc.{EpDesc}
use Rattle.script_types.specs.declared.scripts.Script.{Script}
use Rattle.script_text.specs.Faults.{Spells}
use Rattle.bus_wire.specs.Bus.{opening_bus, opening_wired}
use Rattle.claims_world.specs.BelowStreams.{has_hub}
use Rattle.claims_world.specs.Quiet.{GetsThroughAbove, IsHeardAbove, LeavesBuffers, ErrorsAreOfInterruptsThroughout}
use Rattle.drv_table.specs.Words.{is_high}
use Rattle.law_below_hubs.specs.Splits.{IsAtHub}
use Rattle.law_opened.specs.Opened.{IsOpened}
use Rattle.law_world.specs.streams.put_laws.TakenPuts.{puts_at}
use Rattle.bus_world.specs.Budgets.{moment}
use Rattle.law_reports.specs.pipes.Piped.{asked_as}
use Rattle.law_reports.specs.pipes.below_hubs.BehindLaws.{hub_of, place_of}
use Rattle.law_reports.specs.quiet.Awaiting.{is_buffered_below, KeysAt, SparesBuffers, IsAwaitedWorld}

pub record OpensAt (s : Script) (x : EpDesc) : Type 0 where
  pub hub : IsAtHub (opening_bus s).hubs (asked_as x).hub (asked_as x).port (hub_of s x.hub) (place_of s x.hub x.port)
  pub keys : KeysAt s (opening_wired s) x

abbrev pub HaveHubs : Script → Type 0
HaveHubs s = (x : EpDesc) → IsOpened s x → is_high x.speed ≡ false → has_hub s x.hub x.port ≡ true

abbrev pub TextsHaveHubs : Type 0
TextsHaveHubs = (text : List ℕ) (s : Script) → Spells text s → HaveHubs s

abbrev pub OpensAwaited : Script → Type 0
OpensAwaited s = (x : EpDesc) → IsOpened s x → is_buffered_below x ≡ true → OpensAt s x

abbrev pub TextsOpenAwaited : Type 0
TextsOpenAwaited = (text : List ℕ) (s : Script) → Spells text s → OpensAwaited s

abbrev pub TextsAreAwaited : Type 0
TextsAreAwaited = (text : List ℕ) (s : Script) → Spells text s → AllByRecursion GetsThroughAbove s.fates
    → ((j : ℕ) → SparesBuffers s (moment s j).world) → (k : ℕ) → IsAwaitedWorld s (puts_at s k) (moment s k).world

abbrev pub TextsSpareBuffered : Type 0
TextsSpareBuffered = (text : List ℕ) (s : Script) → Spells text s → IsHeardAbove s → LeavesBuffers s → ErrorsAreOfInterruptsThroughout s
