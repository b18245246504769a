-- The work of all hubs where a microframe begins, over any line of host and device that the buses below show.
use Rattle.std.proofs.Common.{ℕ, zero, suc, List, [], ◌∷◌, refl}
use Rattle.usb_base.specs.declared.packets.Ask.{Ask}
use Rattle.usb_base.specs.declared.packets.Reply.{Reply}
use Rattle.hub_keys.specs.Asks.{classic_of}
use Rattle.hub_keys.specs.declared.key.Key.{Key}
use Rattle.tt_bulk.specs.Contents.{Taken}
use Rattle.hub_class.specs.HubContent.{HubContent}
use Rattle.hub_class.specs.Microframe.{wire_left, translators_worked}
use Rattle.multi_tt.specs.Translators.{Translator}
use Rattle.multi_tt.specs.Single.{AllWork}
use Rattle.bus_wire.specs.Fixed.{Fixed}
use Rattle.bus_wire.specs.Below.{Floor, Below, below_at, below_reply, below_after, floor_left, hub_worked_at, hubs_worked, floor_worked}
use Rattle.law_translated.specs.Lift.{Way, Wait, Slot, Halves, Run}
use Rattle.law_translated.specs.KeySlots.{KeySlot}
use Rattle.law_translated.specs.KeyHubs.{HaveNone}
use Rattle.law_translated.specs.KeyEvents.{Follows, left_wait, with_slot}
use Rattle.law_translated.proofs.HubCalls.{none_work, hub_work, asked_at}
use Rattle.law_translated.proofs.KeyEvents.{beside, work_events}
use Rattle.law_below_hubs.specs.Raised.{TransactsBelow, transacts_below}
use Rattle.law_below_hubs.specs.RightAsks.{AllRight, Rightly}
use Rattle.law_below_hubs.specs.HubsKeys.{HubsHaveNone, HubsHave, AreRightHubs}
use Rattle.law_below_hubs.proofs.RightAsks.{works_rightly}
use Rattle.law_below_hubs.proofs.Functions.{all_made}

-- ---- one hub

makes : (w : Below) (ask : Ask) (out : List ℕ)
    → TransactsBelow w (classic_of ask) out (below_reply w (classic_of ask) out) (below_after w (classic_of ask) out)
makes w ask out = record { plain = refl; heard = refl; after = refl }

pub hub_made : (frindex : ℕ) (h : HubContent) (w : Below)
    → AllWork transacts_below frindex h.translators.all w (wire_left below_reply below_after h w)
    (translators_worked below_reply below_after frindex h.translators.all w)
hub_made frindex h w = all_made transacts_below below_reply below_after makes frindex h.translators.all w

module _ {S B Q : Type 0} (m : Halves S B Q) (f : Taken → B) (g : Reply → Q) (fixed : Fixed) (k : Key) (way : Way) (frindex : ℕ)
    (right : Ask → Type 0) (shows : Below → S → Type 0) (follows : Follows m f g (Rightly right transacts_below) way k shows)
    (On : Floor → S → Type 0) (shows_at : (h : HubContent) (floor : Floor) (l : S) → On floor l → shows (below_at fixed h floor) l)
    (on_left : (w : Below) (l : S) → shows w l → On w.floor l) where
  abbrev Made : Below → Ask → List ℕ → Reply → Below → Type 0
  Made = Rightly right transacts_below

  pub record NoneWorked (h : HubContent) (floor : Floor) (l : S) : Type 0 where
    pub on : On (floor_left fixed h floor) l
    pub none : HaveNone way k (hub_worked_at fixed frindex h floor).translators.all
    pub are : AllRight right (hub_worked_at fixed frindex h floor).translators.all

  pub none_hub : (h : HubContent) (floor : Floor) (l : S) → On floor l → HaveNone way k h.translators.all → AllRight right h.translators.all
      → NoneWorked h floor l
  none_hub h floor l on none are =
      let w : Below = below_at fixed h floor in
      let v : Below = wire_left below_reply below_after h w in
      let all : List Translator = translators_worked below_reply below_after frindex h.translators.all w in
      let r = works_rightly right transacts_below frindex h.translators.all w v all are (hub_made frindex h w) in
      let n = none_work Made way k frindex h.translators.all w v all none r.work in
      let s = beside m f g Made way k shows follows l w v n.others (shows_at h floor l on) in
      record { on = on_left v l s; none = n.none; are = r.leaves }

  pub record NonesWorked (hs : List HubContent) (floor : Floor) (l : S) : Type 0 where
    pub on : On (floor_worked fixed hs floor) l
    pub none : HubsHaveNone way k (hubs_worked fixed frindex hs floor)
    pub are : AreRightHubs right (hubs_worked fixed frindex hs floor)

  pub none_hubs : (hs : List HubContent) (floor : Floor) (l : S) → On floor l → HubsHaveNone way k hs → AreRightHubs right hs
      → NonesWorked hs floor l
  none_hubs [] floor l on none are = record { on = on; none = tt; are = tt }
  none_hubs (h ∷ hs) floor l on none are =
      let n = none_hub h floor l on none.0 are.0 in
      let r = none_hubs hs (floor_left fixed h floor) l n.on none.1 are.1 in
      record { on = r.on; none = (n.none, r.none); are = (n.are, r.are) }

  -- ---- the hubs, one of which has the key

  module _ (u : Wait) (aside : Slot B Q) where
    pub record HubsWorked (hub place : ℕ) (hs : List HubContent) (floor : Floor) (s : KeySlot) (l : S) : Type 0 where
      pub line : S
      pub slot : KeySlot
      pub on : On (floor_worked fixed hs floor) line
      pub has : HubsHave way k hub place (hubs_worked fixed frindex hs floor) slot
      pub are : AreRightHubs right (hubs_worked fixed frindex hs floor)
      pub run : Run m way (with_slot m f g l u s aside) (with_slot m f g line (left_wait way frindex u) slot aside)

    pub work_hubs : (hub place : ℕ) (hs : List HubContent) (floor : Floor) (s : KeySlot) (l : S) → On floor l
        → HubsHave way k hub place hs s → AreRightHubs right hs → HubsWorked hub place hs floor s l
    work_hubs hub place [] floor s l on has are = absurd has
    work_hubs zero place (h ∷ hs) floor s l on has are =
        let w : Below = below_at fixed h floor in
        let v : Below = wire_left below_reply below_after h w in
        let all : List Translator = translators_worked below_reply below_after frindex h.translators.all w in
        let r = works_rightly right transacts_below frindex h.translators.all w v all are.0 (hub_made frindex h w) in
        let z = hub_work Made way k frindex place h.translators.all w v all s has.0 r.work in
        let e = work_events m f g Made way k frindex shows follows s w z.slot v z.work (asked_at way k place h.translators.all s has.0)
        l u aside (shows_at h floor l on) in
        let n = none_hubs hs (floor_left fixed h floor) e.line (on_left v e.line e.shown) has.1 are.1 in
        record { line = e.line; slot = z.slot; on = n.on; has = (z.has, n.none); are = (r.leaves, n.are); run = e.run }
    work_hubs (suc hub) place (h ∷ hs) floor s l on has are =
        let n = none_hub h floor l on has.0 are.0 in
        let r = work_hubs hub place hs (floor_left fixed h floor) s l n.on has.1 are.1 in
        record { line = r.line; slot = r.slot; on = r.on; has = (n.none, r.has); are = (n.are, r.are); run = r.run }
