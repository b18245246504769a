-- The isochronous OUTs below hubs at a moment of a run: what a siTD has sent of the packet of its frame, its entry has had (USB 2.0,
-- 11.18.4; EHCI 1.0, 3.4.4, 4.6 and 4.12.3).
--     EntriesAre P hs v       where the siTD v of an OUT is still active after a part, P holds of each entry of its key
--     IsInHand c n            a copy of the siTD at n is in hand
--     IsUnasked c n           .. and its transaction is still to be made
--     IsInFrame w i           the frame of descriptor i is this one
--     HasNoFrame d i          it wasn't chosen yet
--     IsOfKey start d f n k   as the microframe began, at n stood an active descriptor for frame f of an endpoint with this key
--     BroughtPart start w vs k   .. and it was visited in this microframe, and doesn't wait for its transaction
--     IsReadFor start w vs c     an active OUT in hand that waits for its transaction is such a one
--     OutsGoOn start w vs     such an entry lacks its last part, by the siTD in memory, if it is of this frame and not in hand, and by the
--                             copy in hand; to an entry of the key of isochronous OUTs no part came in this microframe, unless such a
--                             descriptor brought it; and of such a key is each one in hand that waits for its transaction
--     OutsAreLacked           so the entry of the siTD in hand lacks its last part, and none came to it in this microframe
--     UnframedIsNew           of one that has no frame yet no part was sent
--     DriverKeepsOuts         each event of the driver goes on with it; CommandKeepsOuts: and each command
--     BeginKeepsOuts          .. and a microframe that begins; EndKeepsOuts: one that ends; IdleKeepsOuts: an event of
--                             nothing. NewOutsGoOn: so it begins
--     OtherAsksLeave P        P stays of the entries of a key where the host starts none of it; LaterPartsLeave: so does an
--                             OUT's part that isn't its first nor its last, of its own key
use Rattle.std.specs.Prelude.{◌≡◌, ◌⊎◌, ℕ, ◌*◌, ◌≤◌, ◌==◌, true, false, List, [], length, slice_get, Some, None}
use Rattle.usb_base.specs.declared.commands.Cmd.{Cmd}
use Rattle.usb_base.specs.declared.packets.Ask.{Ask}
use Rattle.usb_base.specs.declared.packets.DataPart.{DataPart}
use Rattle.usb_base.specs.declared.packets.Dir.TheVariants.{Out}
use Rattle.usb_base.specs.declared.packets.EpKind.TheVariants.{Iso}
use Rattle.usb_base.specs.declared.packets.Split.TheVariants.{Start}
use Rattle.usb_base.specs.declared.packets.Way.TheVariants as ways
use Rattle.hub_keys.specs.Keys.{key_of, is_same_key}
use Rattle.hub_keys.specs.declared.key.Key.{Key}
use Rattle.multi_tt.specs.Single.{is_buffered}
use Rattle.itd_sitd.specs.declared.sitd.Sitd.{Sitd}
use Rattle.tt_pipeline.specs.declared.entry.Entry.{Entry}
use Rattle.hub_class.specs.HubContent.{HubContent}
use Rattle.usb_base.specs.declared.packets.Reply.{Reply}
use Rattle.hc_iso.specs.declared.held.HeldSitd.{HeldSitd}
use Rattle.hc_iso.specs.Sitd.{sitd_after, sitd_transaction}
use Rattle.law_microframes.specs.time.SitdParts.{IsInParts}
use Rattle.periodic_walk.specs.declared.state.Hand.TheVariants as hands
use Rattle.hc_core.specs.declared.controller.MicroframePart.TheVariants.{Periodic}
use Rattle.hc_core.specs.Controller.{Control}
use Rattle.drv_periodic_table.specs.Descriptors.{sitd_in}
use Rattle.drv_periodic_table.specs.Periodic.{note_at}
use Rattle.drv_table.specs.declared.content.Endpoint.{Endpoint}
use Rattle.drv_table.specs.DriverContent.{DriverContent}
use Rattle.claims_driver.specs.DueMembers.{framed_to}
use Rattle.hc_core.specs.declared.controller.ControllerRow.TheVariants as rows
use Rattle.bus_wire.specs.Bus.{Bus, Fixed, transact_after}
use Rattle.script_types.specs.declared.scripts.Script.{Script}
use Rattle.bus_world.specs.Opening.{opening_world}
use Rattle.bus_world.specs.World.{World, controller_row, controller_next, driver_next, commanded}
use Rattle.claims_world.specs.Visits.{frame_in, HasVisited}
use Rattle.law_queues.specs.open_laws.Opens.{AreNamesApart}
use Rattle.law_world.specs.memory.Mixed.{IsMixedWorld}
use Rattle.law_microframes.specs.visits.OneDescriptor.{IsActiveDescriptor, IsMixedOnce}
use Rattle.law_microframes.specs.time.SitdFields.{SplitTransfer, SitdsStand}
pub use Rattle.claims_world.specs.Behind.{entries_at, entries_of_hub, entries_by, pipeline_for}
use Rattle.law_microframes.specs.translators.Keeping.{key_for, PartsAreLacked}
use Rattle.law_microframes.specs.translators.Parts.{EachOf, Lacks, IsEven, key_asked}

-- ---- one siTD

abbrev pub EntriesAre : (Entry → Type 0) → List HubContent → Sitd → Type 0
EntriesAre P hs v =
    v.active ≡ true → v.dir_in ≡ false → (v.c_prog == 0) ≡ false → EachOf P (key_asked v) (pipeline_for hs v.hub v.port)

-- ---- those of a world

pub record IsInHand (c : Control) (n : ℕ) : Type 0 where
  pub copy : HeldSitd
  pub part : c.part ≡ Periodic
  pub held : c.frame.hand ≡ Some (hands.Sitd copy)
  pub at : copy.at ≡ n

abbrev pub HasNoFrame : (d : DriverContent) → SplitTransfer d → Type 0
HasNoFrame d i = framed_to d.command d.made (length d.transfers) ≤ i.number

abbrev pub IsInFrame : (w : World) → SplitTransfer w.driver → Type 0
IsInFrame w i = (note_at w.driver.periodic.notes i.transfer.first).frame ≡ frame_in w.registers.frame_index

-- its transaction is still to be made
pub record IsUnasked (c : Control) (n : ℕ) : Type 0 where
  pub hand : IsInHand c n
  pub unset : hand.copy.settled ≡ None

pub record IsOfKey (start : World) (d : DriverContent) (f n : ℕ) (k : Key) : Type 0 where
  pub number : ℕ
  pub endpoint : Endpoint
  pub here : slice_get d.endpoints number ≡ Some endpoint
  pub way : endpoint.desc.name.way ≡ ways.Out
  pub key : key_for endpoint.desc ≡ k
  pub was : IsActiveDescriptor start.driver start.memory number f n

pub record BroughtPart (start w : World) (vs : List ℕ) (k : Key) : Type 0 where
  pub at : ℕ
  pub of : IsOfKey start w.driver (frame_in w.registers.frame_index) at k
  pub seen : HasVisited at vs
  pub asked : IsUnasked w.control at → ⊥

abbrev pub IsReadFor : World → World → List ℕ → Control → Type 0
IsReadFor start w vs c =
    (n : ℕ) (u : IsUnasked c n) → u.hand.copy.sitd.active ≡ true → u.hand.copy.sitd.dir_in ≡ false
    → IsOfKey start w.driver (frame_in w.registers.frame_index) n (key_asked u.hand.copy.sitd) × HasVisited n vs

-- `start` is the world as the microframe began
pub record OutsGoOn (start w : World) (vs : List ℕ) : Type 0 where
  pub there : (i : SplitTransfer w.driver) → IsInFrame w i → (IsInHand w.control (32 * i.transfer.first) → ⊥)
      → EntriesAre Lacks w.bus.hubs (sitd_in w.memory i.transfer.first)
  pub held : (h : HeldSitd) → w.control.part ≡ Periodic → w.control.frame.hand ≡ Some (hands.Sitd h) → EntriesAre Lacks w.bus.hubs h.sitd
  pub came : (k : Key) (hub port : ℕ) → k.kind ≡ Iso → k.dir ≡ Out
      → EachOf IsEven k (pipeline_for w.bus.hubs hub port) ⊎ BroughtPart start w vs k
  pub read : IsReadFor start w vs w.control

-- ---- the laws

abbrev pub OutsAreLacked : Type 0
OutsAreLacked = (start w : World) (vs : List ℕ) → IsMixedOnce start → AreNamesApart w.driver → OutsGoOn start w vs → PartsAreLacked w

abbrev pub UnframedIsNew : Type 0
UnframedIsNew = (w : World) → IsMixedWorld w → (i : SplitTransfer w.driver) → HasNoFrame w.driver i
    → (sitd_in w.memory i.transfer.first).c_prog ≡ 0

abbrev pub DriverKeepsOuts : Type 0
DriverKeepsOuts = (start w : World) (vs : List ℕ) → IsMixedWorld w → SitdsStand w.driver w.memory w.control → OutsGoOn start w vs
    → OutsGoOn start (driver_next w) vs

abbrev pub CommandKeepsOuts : Type 0
CommandKeepsOuts = (start w : World) (line : ℕ) (cmd : Cmd) (vs : List ℕ) → IsMixedWorld w → OutsGoOn start w vs
    → OutsGoOn start (commanded w line cmd) vs

-- a microframe begins: nothing was visited in it
abbrev pub BeginKeepsOuts : Type 0
BeginKeepsOuts = (fixed : Fixed) (start w : World) (vs : List ℕ) → controller_row w ≡ rows.Begin → OutsGoOn start w vs
    → OutsGoOn w (controller_next fixed w) []

-- a transaction of the host that starts none of this key leaves what is told of its entries
abbrev pub OtherAsksLeave : (Entry → Type 0) → Type 0
OtherAsksLeave P = (k : Key) (fixed : Fixed) (b : Bus) (ask : Ask) (out : List ℕ)
    → ((hub port : ℕ) (part : DataPart) → ask.split ≡ Start hub port part → is_buffered ask.kind ≡ false
    → is_same_key (key_of ask) k ≡ false)
    → (hub port : ℕ) → EachOf P k (pipeline_for b.hubs hub port) → EachOf P k (pipeline_for (transact_after fixed b ask out).hubs hub port)

abbrev pub EndKeepsOuts : Type 0
EndKeepsOuts = (fixed : Fixed) (start w : World) (vs : List ℕ) → IsMixedWorld w → controller_row w ≡ rows.End → OutsGoOn start w vs
    → OutsGoOn start (controller_next fixed w) vs

abbrev pub IdleKeepsOuts : Type 0
IdleKeepsOuts = (fixed : Fixed) (start w : World) (vs : List ℕ) → controller_row w ≡ rows.Idle → OutsGoOn start w vs
    → OutsGoOn start (controller_next fixed w) vs

-- before the first line
abbrev pub NewOutsGoOn : Type 0
NewOutsGoOn = (s : Script) → OutsGoOn (opening_world s) (opening_world s) []

-- a part of an OUT that has some before it and some behind it leaves its entry lacking its last
abbrev pub LaterPartsLeave : Type 0
LaterPartsLeave = (v : Sitd) (most u : ℕ) (reply : Reply) (fixed : Fixed) (b : Bus) (out : List ℕ) → IsInParts v most → v.active ≡ true
    → v.dir_in ≡ false → (v.c_prog == 0) ≡ false → (sitd_after u reply v).active ≡ true → (hub port : ℕ)
    → EachOf Lacks (key_asked v) (pipeline_for b.hubs hub port)
    → EachOf Lacks (key_asked v) (pipeline_for (transact_after fixed b (sitd_transaction v).ask out).hubs hub port)
