-- What the words of a driver's siTDs tell of their endpoints, in memory and in the copy in hand, at each moment (EHCI 1.0, 3.4 and 4.12.3;
-- USB 2.0, 11.18.4): its way and its masks are those of its endpoint as it is placed, and what is left of its bytes stands in parts.
--     IsSitdAs name s c n v   the siTD v asks so, has these masks, and is in parts of a packet of n bytes
--     IsStableSitd P          what so becomes of a siTD by a transaction, a miss and a write-back is as before
--     SitdsAreStable          it is, of each way, of masks and of a packet
--     HaveSitdFields v x p    v is so for an endpoint so described, at this placement
--     SplitTransfer d         a siTD of the driver that wasn't given back, and its endpoint, which is placed
--     SitdsStand d m c        each such one has the fields in memory, and so has a copy of it that the walk of the frames has in hand
--     FitsSlots s x           no line of the script asks for more bytes in a slot of an isochronous endpoint so described than its packets
--                             can have
--     SlotsFit s              so it is of each endpoint that the script opens
--     TextsFitSlots           .. and of each script that a text spells
--     ControllerKeepsSitds, DriverKeepsSitds     each event leaves them so
--     ScriptsKeepSitds        so it is at each moment of the run of a script that fits
use Rattle.std.specs.Prelude.{◌≡◌, ℕ, ◌*◌, ◌<◌, ◌≤◌, Bool, true, false, List, Some, slice_get, unwrap_or}
use Rattle.std.specs.List.{AllByRecursion}
use Rattle.usb_base.specs.declared.commands.Cmd.TheVariants as commands
use Rattle.usb_base.specs.declared.endpoints.EpDesc.{EpDesc}
use Rattle.usb_base.specs.declared.packets.Reply.{Reply}
use Rattle.script_types.specs.declared.scripts.Line.{Line}
use Rattle.script_types.specs.declared.scripts.Line.TheVariants as lines
use Rattle.script_types.specs.declared.scripts.Script.{Script}
use Rattle.script_text.specs.Faults.{Spells}
use Rattle.script_fits.specs.Fits.{IsFit}
use Rattle.law_scripts.specs.byte_answers.Bytes.{IsByteScript}
use Rattle.word_mem.specs.Memory.{Mem}
use Rattle.link_words.specs.declared.fields.LinkBits.{LinkBits}
use Rattle.itd_sitd.specs.declared.sitd.Sitd.{Sitd}
use Rattle.hc_iso.specs.declared.held.HeldSitd.{HeldSitd}
use Rattle.hc_iso.specs.declared.held.SitdTurn.TheVariants.{Work}
use Rattle.hc_iso.specs.Sitd.{sitd_turn, sitd_after, missed_sitd, moved_sitd}
use Rattle.bandwidth.specs.declared.placements.Placement.{Placement}
use Rattle.bandwidth.specs.Placements.{is_classic}
use Rattle.drv_periodic_table.specs.Periodic.{dir_of, note_at}
use Rattle.drv_periodic_table.specs.Descriptors.{sitd_in}
use Rattle.periodic_walk.specs.declared.state.Hand.TheVariants as hands
use Rattle.hc_core.specs.declared.controller.MicroframePart.TheVariants.{Periodic}
use Rattle.hc_core.specs.Controller.{Control}
use Rattle.drv_table.specs.declared.content.Endpoint.{Endpoint}
use Rattle.drv_table.specs.declared.content.Transfer.{Transfer}
use Rattle.drv_table.specs.DriverContent.{DriverContent, is_same_name}
use Rattle.drv_table.specs.Kinds.{is_iso}
use Rattle.claims_driver.specs.Owners.{is_descriptor}
use Rattle.bus_wire.specs.Bus.{Fixed}
use Rattle.bus_world.specs.World.{World, driver_next, controller_next}
use Rattle.bus_world.specs.Budgets.{moment}
use Rattle.law_world.specs.memory.Mixed.{IsMixedWorld}
use Rattle.law_world.specs.memory.PlacedLaws.{FitsMixed}
use Rattle.law_microframes.specs.time.SitdParts.{is_in, IsInParts}

-- ---- a siTD

-- whom it asks for, by which hub's port
pub record SitdName : Type 0 where
  pub inward : Bool
  pub addr : ℕ
  pub ep : ℕ
  pub hub : ℕ
  pub port : ℕ

abbrev pub IsSitdNamed : SitdName → Sitd → Type 0
IsSitdNamed x v = (v.addr ≡ x.addr) × ((v.ep ≡ x.ep) × ((v.hub ≡ x.hub) × (v.port ≡ x.port)))

abbrev pub sitd_name : EpDesc → SitdName
sitd_name x =
    record { inward = is_in (dir_of x.name.way); addr = x.name.addr; ep = x.name.num; hub = unwrap_or x.hub 0; port = x.port }

pub record IsSitdAs (name : SitdName) (s c n : ℕ) (v : Sitd) : Type 0 where
  pub way : v.dir_in ≡ name.inward
  pub named : IsSitdNamed name v
  pub smask : v.smask ≡ s
  pub cmask : v.cmask ≡ c
  pub prog : v.c_prog < 256
  pub parts : IsInParts v n

pub record IsStableSitd (P : Sitd → Type 0) : Type 0 where
  pub linked : (v : Sitd) (link : LinkBits) → P v → P (record v { link = link })
  pub worked : (v : Sitd) (u : ℕ) (reply : Reply) → P v → u < 8 → sitd_turn u v ≡ Work → P (sitd_after u reply v)
  pub moved : (v : Sitd) (n : ℕ) → P v → P (moved_sitd n v)
  pub missed : (v : Sitd) → P v → P (missed_sitd v)

abbrev pub SitdsAreStable : Type 0
SitdsAreStable = (name : SitdName) (s c n : ℕ) → IsStableSitd (IsSitdAs name s c n)

-- ---- of an endpoint

pub record HaveSitdFields (v : Sitd) (x : EpDesc) (p : Placement) : Type 0 where
  pub classic : is_classic x.speed ≡ true
  pub has : IsSitdAs (sitd_name x) p.smask p.cmask x.max v

pub record SplitTransfer (d : DriverContent) : Type 0 where
  pub number : ℕ
  pub transfer : Transfer
  pub endpoint : Endpoint
  pub placement : Placement
  pub there : slice_get d.transfers number ≡ Some transfer
  pub sort : is_descriptor transfer.sort ≡ true
  pub held : transfer.released ≡ false
  pub split : (note_at d.periodic.notes transfer.first).split ≡ true
  pub here : slice_get d.endpoints transfer.endpoint ≡ Some endpoint
  pub placed : endpoint.placement ≡ Some placement

pub record SitdsStand (d : DriverContent) (m : Mem) (c : Control) : Type 0 where
  pub fields : (i : SplitTransfer d) → HaveSitdFields (sitd_in m i.transfer.first) i.endpoint.desc i.placement
  pub hand : (i : SplitTransfer d) (h : HeldSitd) → c.part ≡ Periodic → c.frame.hand ≡ Some (hands.Sitd h) → h.at ≡ 32 * i.transfer.first
      → HaveSitdFields h.sitd i.endpoint.desc i.placement

-- ---- what a script asks for

abbrev pub FitsSlotsOf : EpDesc → Line → Type 0
FitsSlotsOf x (lines.Command (commands.Iso name count len seed)) = is_iso x.kind ≡ true → is_same_name x.name name ≡ true
    → len ≤ x.max * x.multi
FitsSlotsOf x _ = Unit {0}

abbrev pub FitsSlots : Script → EpDesc → Type 0
FitsSlots s x = AllByRecursion (λ line. FitsSlotsOf x line.1) s.lines

abbrev pub OpensFitSlots : Script → Line → Type 0
OpensFitSlots s (lines.Command (commands.OpenEp x)) = FitsSlots s x
OpensFitSlots s _ = Unit {0}

abbrev pub SlotsFit : Script → Type 0
SlotsFit s = AllByRecursion (λ line. OpensFitSlots s line.1) s.lines

abbrev pub TextsFitSlots : Type 0
TextsFitSlots = (text : List ℕ) (s : Script) → Spells text s → SlotsFit s

-- ---- they stand

abbrev pub ControllerKeepsSitds : Type 0
ControllerKeepsSitds = (fixed : Fixed) (w : World) → IsMixedWorld w → SitdsStand w.driver w.memory w.control
    → SitdsStand (controller_next fixed w).driver (controller_next fixed w).memory (controller_next fixed w).control

abbrev pub DriverKeepsSitds : Type 0
DriverKeepsSitds = (w : World) → IsMixedWorld w → SitdsStand w.driver w.memory w.control
    → SitdsStand (driver_next w).driver (driver_next w).memory (driver_next w).control

abbrev pub ScriptsKeepSitds : Type 0
ScriptsKeepSitds = (s : Script) → IsFit s → IsByteScript s → FitsMixed s → SlotsFit s → (k : ℕ)
    → SitdsStand (moment s k).world.driver (moment s k).world.memory (moment s k).world.control
