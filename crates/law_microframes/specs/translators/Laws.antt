-- Laws of the translators along a run (USB 2.0, 11.18 and 11.18.4; EHCI 1.0, 4.12).
--     AlongRuns most P           so it is at each moment of a run where endpoints have at most so many stuffed bits in 36, each plan fits,
--                                no two keys of a plan are the same, and each start-split follows its plan
--     TextsKeepTranslators       so the translators keep up in each such run
--     PartsComeInTurn            in such a run no part of an isochronous OUT comes behind the last one, nor two in a microframe
--     TextsHaveFewStuffedBits                no endpoint of a script that a text spells has more than six of them in 36
--     InterruptsFollow           each start-split of a queue head follows its plan; SitdsFollowToo: and each of a siTD
--     EntriesStayOwned           an event of the driver, a command and a microframe that begins in the frame leave whose an entry is
use Rattle.std.specs.Prelude.{◌≡◌, ℕ, ◌%◌, List}
use Rattle.usb_base.specs.declared.commands.Cmd.{Cmd}
use Rattle.script_types.specs.declared.scripts.Script.{Script}
use Rattle.script_text.specs.Faults.{Spells}
use Rattle.op_registers.specs.Events.{next_index}
use Rattle.hub_keys.specs.declared.key.Key.{Key}
use Rattle.drv_table.specs.DriverContent.{DriverContent}
use Rattle.bus_wire.specs.Bus.{fixed_of}
use Rattle.bus_world.specs.World.{World, driver_next, commanded}
use Rattle.bus_world.specs.Budgets.{moment}
use Rattle.claims_world.specs.Plans.{Plan}
use Rattle.claims_world.specs.Watched.{Watched}
use Rattle.claims_world.specs.Translators.{KeepsTranslators}
use Rattle.claims_world.specs.Pipelines.{StuffsAtMost, EachPipeline}
use Rattle.law_microframes.specs.translators.Keeping.{IsOwned, StartsFollow, SitdsFollow, PartsAreLacked, IsKnown}
use Rattle.claims_world.specs.Gaps.{gaps}

abbrev pub AlongRuns : ℕ → (Plan → ℕ → List Watched → Type 0) → Type 0
AlongRuns most P = (s : Script) → StuffsAtMost most (fixed_of s) → ((k : ℕ) → IsKnown (moment s k).world) → (k : ℕ)
    → EachPipeline P (moment s k).world (gaps s k)

abbrev pub TextsKeepTranslators : Type 0
TextsKeepTranslators = (text : List ℕ) (s : Script) → Spells text s → KeepsTranslators s

-- no part of an isochronous OUT comes behind the last one, nor two in a microframe
abbrev pub PartsComeInTurn : Type 0
PartsComeInTurn = (text : List ℕ) (s : Script) → Spells text s → (k : ℕ) → PartsAreLacked (moment s k).world

-- no endpoint has more than six
abbrev pub TextsHaveFewStuffedBits : Type 0
TextsHaveFewStuffedBits = (text : List ℕ) (s : Script) → Spells text s → StuffsAtMost 6 (fixed_of s)

abbrev pub InterruptsFollow : Type 0
InterruptsFollow = (text : List ℕ) (s : Script) → Spells text s → (k : ℕ) → SitdsFollow (moment s k).world
    → StartsFollow (moment s k).world

abbrev pub SitdsFollowToo : Type 0
SitdsFollowToo = (text : List ℕ) (s : Script) → Spells text s → (k : ℕ) → PartsAreLacked (moment s k).world → SitdsFollow (moment s k).world

pub record EntriesStayOwned : Type 0 where
  pub driver : (w : World) (hub port : ℕ) (k : Key) → IsOwned w.driver w.registers.frame_index hub port k
      → IsOwned (driver_next w).driver w.registers.frame_index hub port k
  pub command : (w : World) (line : ℕ) (cmd : Cmd) (hub port : ℕ) (k : Key) → IsOwned w.driver w.registers.frame_index hub port k
      → IsOwned (commanded w line cmd).driver w.registers.frame_index hub port k
  pub begins : (d : DriverContent) (index hub port : ℕ) (k : Key) → IsOwned d index hub port k → (next_index index % 8 ≡ 0 → ⊥)
      → IsOwned d (next_index index) hub port k
