-- What is sent as a SETUP to endpoint 0 of a device or a hub, and what a hub hears (EHCI 1.0, 3.5 and 4.10; USB 2.0, 8.5.3 and 11.24): only
-- the setup bytes of requests to its address.
--     SendsOnly Q bs           where eight of these bytes in a row are sent, Q holds of them
--     SetsUp Q part            so it is of the buffer of each active SETUP qTD
--     AreSetUp a Q near ends parts
--                              the queue of each queue head that is met and asks the device with the address a sets up only such
--     IsSettingUp ..           so does the qTD that is being published: until it is lent the setup bytes stand in the buffer that
--                              the driver took for it
--     PublishesOnly ..         so it is of the request to the device that is being published
--     HearsOnly a Q h          if h is the hub with the address a, Q holds of the setup bytes of the last request that it heard
--     IsHeeding a Q s h w      all this of the world w
--     HasHeeding fixed x a Q w .. for some standing, lines and queue heads
use Rattle.std.specs.Prelude.{◌≡◌, ℕ, suc, ◌*◌, ◌≤◌, Bool, true, List, length, take, drop, slice_get, Some}
use Rattle.std.specs.List.{AllByRecursion}
use Rattle.word_mem.specs.Memory.{Mem}
use Rattle.qh_qtd.specs.declared.qtd.Qtd.{Qtd}
use Rattle.qh_qtd.specs.Qtd.{qtd_words, IsQtdInRange}
use Rattle.usb_base.specs.declared.packets.Pid.TheVariants.{Setup}
use Rattle.hc_copy.specs.Planning.{pid_at}
use Rattle.dev_control.specs.Stages.{setup_of}
use Rattle.hub_class.specs.HubContent.{HubContent}
use Rattle.bus_wire.specs.Bus.{Fixed}
use Rattle.claims_report.specs.Requests.{Request}
use Rattle.drv_table.specs.declared.content.Command.TheVariants as unfinished
use Rattle.drv_table.specs.declared.content.Endpoint.{Endpoint}
use Rattle.drv_table.specs.declared.content.Sort.TheVariants as sorts
use Rattle.drv_table.specs.declared.content.Transfer.{Transfer}
use Rattle.drv_table.specs.DriverContent.{DriverContent}
use Rattle.law_driver.specs.queued_drivers.Queued.{queued}
use Rattle.law_structures.specs.lent_structures.Structures.{Element, Structures, StructureSets}
use Rattle.law_ring.specs.Effects.{buffer_of}
use Rattle.law_ring.specs.Told.{Endpoint as Told}
use Rattle.law_request.specs.Windows.{IsRequest}
use Rattle.law_world.specs.memory.Mixed.{Standing}
use Rattle.law_reports.specs.lines.Lined.{Lines}
use Rattle.law_reports.specs.pipes.Declared.{Sides}
use Rattle.law_reports.specs.pipes.Piped.{Heads, IsPiped}
use Rattle.law_reports.specs.requests.Asking.{IsHeldRequest}
use Rattle.bus_world.specs.World.{World}

-- ---- a queue

abbrev pub SendsOnly : (List ℕ → Type 0) → List ℕ → Type 0
SendsOnly Q bs = (j n : ℕ) → length (take n (drop j bs)) ≡ 8 → Q (take n (drop j bs))

-- by the PID code of the token (3.5.3)
abbrev pub SetsUp : (List ℕ → Type 0) → Structures → Type 0
SetsUp Q part = (a : ℕ) (t : Qtd) → part a ≡ Some (Element t) → t.token.active ≡ true → pid_at t.token.pid ≡ Setup
    → SendsOnly Q (buffer_of part t)

abbrev pub AreSetUp : ℕ → (List ℕ → Type 0) → (ℕ → Bool) → (ℕ → Told) → StructureSets → Type 0
AreSetUp a Q near ends parts = (n : ℕ) → near n ≡ true → (ends n).addr ≡ a → SetsUp Q (parts n)

-- ---- the request that is being published

pub record IsSetupHeld (Q : List ℕ → Type 0) (d : DriverContent) (m : Mem) (b : ℕ) (words : List ℕ) : Type 0 where
  pub request : Request
  pub whole : IsRequest request
  pub held : IsHeldRequest d m b words request
  pub fits : Q request.setup

-- its SETUP is the qTD of block b, with these words
pub record IsSettingUp (Q : List ℕ → Type 0) (d : DriverContent) (m : Mem) (part : Structures) (b : ℕ) (words : List ℕ) : Type 0 where
  pub held : d.made ≡ 0 → IsSetupHeld Q d m b words
  pub lent : 1 ≤ d.made → (t : Qtd) → words ≡ qtd_words t → IsQtdInRange t → SendsOnly Q (buffer_of part t)

abbrev pub PublishesOnly : ℕ → (List ℕ → Type 0) → DriverContent → Mem → StructureSets → Type 0
PublishesOnly a Q d m parts = (b : ℕ) (words : List ℕ) (t : ℕ) (y : Transfer) (x : Endpoint)
    → d.command ≡ Some (unfinished.Publish b words) → suc t ≡ length d.transfers → slice_get d.transfers t ≡ Some y
    → slice_get d.endpoints y.endpoint ≡ Some x → y.sort ≡ sorts.Request → x.desc.name.addr ≡ a
    → IsSettingUp Q d m (parts (32 * x.queue)) b words

-- ---- the world

abbrev pub HearsOnly : ℕ → (List ℕ → Type 0) → HubContent → Type 0
HearsOnly a Q h = h.address ≡ a → (setup : List ℕ) → setup_of h.control.request ≡ Some setup → Q setup

pub record IsHeeding (a : ℕ) (Q : List ℕ → Type 0) (s : Standing) (h : Heads) (w : World) : Type 0 where
  pub sets_up : AreSetUp a Q s.near h.ends s.parts
  pub publishes : PublishesOnly a Q (queued w.driver) w.memory s.parts
  pub hubs : AllByRecursion (HearsOnly a Q) w.bus.hubs

pub record HasHeeding (fixed : Fixed) (x : Sides) (a : ℕ) (Q : List ℕ → Type 0) (w : World) : Type 0 where
  pub standing : Standing
  pub lines : Lines
  pub heads : Heads
  pub piped : IsPiped fixed x standing lines heads w
  pub heeds : IsHeeding a Q standing heads w
