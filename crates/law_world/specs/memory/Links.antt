-- The links of structures in mixed worlds (EHCI 1.0, 3.1, 3.6.1, 4.6, 4.8 and 4.8.2).
--     HoldsLiveLinks m d   those of live structures lead to live ones, and those of what left the ring and waits, or is rung, to such,
--                          or to what left later
--     MixedHoldsLinks      so it is in a mixed world
--     IsOut m d es e       endpoint e left the ring, these left later; its link leads to a live queue head or to one of these,
--                          and it is Lent
--     AreOut m d fs es     so it is of these, in this order, with the others behind them
--     HasCleared w         so it is of those whose Async Advance was cleared, until they are given back
--     DriverKeepsCleared, CommandKeepsCleared, ControllerKeepsCleared
--                          each event keeps it
--     TextsKeepLinks       so links lead at each moment of each script that a text spells; and while the doorbell is pending one batch is
--                          rung
--     TextsLeaveFramesLeading
--                          and there so leads the link of each queue head and of each isochronous descriptor that left the frame list,
--                          until its endpoint, or its transfer, is given back
use Rattle.std.specs.Prelude.{◌≡◌, ℕ, ◌<◌, true, List, [], ◌∷◌, ◌++◌, Some}
use Rattle.usb_base.specs.declared.commands.Cmd.{Cmd}
use Rattle.script_types.specs.declared.scripts.Script.{Script}
use Rattle.script_text.specs.Faults.{Spells}
use Rattle.word_mem.specs.declared.blocks.BlockState.TheVariants.{Lent}
use Rattle.word_mem.specs.Memory.{Mem, state_at, word_at}
use Rattle.drv_chains.specs.declared.members.Member.{Member}
use Rattle.drv_chains.specs.declared.members.Predecessor.TheVariants.{Element, After}
use Rattle.drv_members.specs.Members.{is_linked}
use Rattle.drv_periodic.specs.Periodic.{address_of}
use Rattle.drv_table.specs.DriverContent.{DriverContent}
use Rattle.bus_wire.specs.Bus.{Fixed}
use Rattle.bus_world.specs.World.{World, driver_next, controller_next, commanded}
use Rattle.claims_driver.specs.Ring.{link_in}
use Rattle.claims_driver.specs.Unlinked.{led}
use Rattle.claims_world.specs.Links.{IsLive, LeadsTo, HasLeftBefore, AreLeft, EndsOrLeads, KeepsLinks, LeavesFramesLeading}
use Rattle.law_world.specs.memory.Mixed.{IsMixedWorld}
use Rattle.law_world.specs.memory.Owners.{EndsActive}

pub record HoldsLiveLinks (m : Mem) (d : DriverContent) : Type 0 where
  pub ring : (b : ℕ) → IsLive d b → LeadsTo (IsLive d) (link_in m b)
  pub left : AreLeft m d (d.rung ++ d.waiting)
  pub elements : (f : ℕ) → f < 1024 → EndsOrLeads d (word_at m (address_of d.periodic.list.list (Element f)))
  pub members : (x : Member) → is_linked (led d) x ≡ true → EndsOrLeads d (word_at m (address_of d.periodic.list.list (After x)))

abbrev pub MixedHoldsLinks : Type 0
MixedHoldsLinks = (w : World) → IsMixedWorld w → HoldsLiveLinks w.memory w.driver

-- ---- those whose Async Advance was cleared

pub record IsOut (m : Mem) (d : DriverContent) (es : List ℕ) (e : ℕ) : Type 0 where
  pub left : HasLeftBefore m d es e
  pub lent : state_at m left.endpoint.queue ≡ Some Lent

abbrev pub AreOut : Mem → DriverContent → List ℕ → List ℕ → Type 0
AreOut m d fs [] = Unit {0}
AreOut m d fs (e ∷ es) = IsOut m d (es ++ fs) e × AreOut m d fs es

abbrev pub HasCleared : World → Type 0
HasCleared w = AreOut w.memory w.driver (w.driver.rung ++ w.driver.waiting) w.driver.cleared

abbrev pub DriverKeepsCleared : Type 0
DriverKeepsCleared = (w : World) → IsMixedWorld w → HasCleared w → HasCleared (driver_next w)

abbrev pub CommandKeepsCleared : Type 0
CommandKeepsCleared = (w : World) (line : ℕ) (cmd : Cmd) → IsMixedWorld w → HasCleared w → HasCleared (commanded w line cmd)

abbrev pub ControllerKeepsCleared : Type 0
ControllerKeepsCleared =
    (fixed : Fixed) (w : World) → IsMixedWorld w → EndsActive w.control → HasCleared w → HasCleared (controller_next fixed w)

-- ---- the run

abbrev pub TextsKeepLinks : Type 0
TextsKeepLinks = (text : List ℕ) (s : Script) → Spells text s → KeepsLinks s

-- ---- what left the frame list

abbrev pub TextsLeaveFramesLeading : Type 0
TextsLeaveFramesLeading = (text : List ℕ) (s : Script) → Spells text s → LeavesFramesLeading s
