-- The translators of a world keep up with the driver's plan (USB 2.0, 11.14, 11.18 and 11.18.4; EHCI 1.0, 2.3.4, 4.6 and 4.12).
--     IsOwned d index hub port k     the key is that of an endpoint which is placed below that translator, active in the frame, and no
--                                    removal of it was read past the frame: so it isn't given back in the frame
--     IsRight H d index              H holds of a watched pipeline, and each of its keys is owned
--     WorldKeeps H w g               so it is of each translator of the world, with g for the parts that never came
--     AsksInFrames w ask n           the next event is one of the walk of the frames that asks so, with n bytes
--     PartsAreLacked w               where the siTD in hand of an OUT that was begun is to be asked for, the entry of its key lacks its
--                                    last part, and none came in this microframe
--     SitdsFollow w                  .. so it is of the siTD in hand, if one is to be asked for
--     IsKnown w                      the plans of a world fit, no two keys of one are the same, and each start-split follows its plan
--     StartsFollow w                 each start-split of it is one that the plan of its translator calls for, of a key that is owned
use Rattle.std.specs.List.{find}
use Rattle.std.specs.Prelude.{◌≡◌, ℕ, ◌%◌, ◌==◌, position, true, false, List, length, slice_get, Some, None}
use Rattle.usb_base.specs.declared.endpoints.EpDesc.{EpDesc}
use Rattle.usb_base.specs.declared.packets.Ask.{Ask}
use Rattle.usb_base.specs.declared.packets.DataPart.{DataPart}
use Rattle.usb_base.specs.declared.packets.Reply.{Reply}
use Rattle.usb_base.specs.declared.packets.Split.TheVariants.{Start}
use Rattle.hub_keys.specs.Keys.{key_of}
use Rattle.hub_keys.specs.declared.key.Key.{Key}
use Rattle.tt_pipeline.specs.declared.entry.Entry.{Entry}
use Rattle.tt_pipeline.specs.Starting.{has_key}
use Rattle.multi_tt.specs.Translators.{Translator, place_of}
use Rattle.bandwidth.specs.declared.placements.Placement.{Placement}
use Rattle.drv_periodic_table.specs.declared.content.Removal.{Removal}
use Rattle.drv_periodic_table.specs.declared.content.Removed.TheVariants as removed
use Rattle.drv_table.specs.declared.content.Endpoint.{Endpoint}
use Rattle.drv_table.specs.DriverContent.{DriverContent}
use Rattle.hc_iso.specs.declared.held.HeldSitd.{HeldSitd}
use Rattle.hc_iso.specs.declared.held.SitdTurn.TheVariants.{Work}
use Rattle.hc_iso.specs.Sitd.{sitd_turn, sitd_transaction}
use Rattle.periodic_walk.specs.declared.state.Hand.TheVariants as hands
use Rattle.periodic_walk.specs.Place.{FramePlace}
use Rattle.periodic_walk.specs.Place.Effect.{Asks}
use Rattle.periodic_walk.specs.Rows.{effect_of}
use Rattle.hc_core.specs.declared.controller.MicroframePart.TheVariants.{Periodic}
use Rattle.hc_core.specs.declared.controller.ControllerRow.TheVariants as rows
use Rattle.hc_core.specs.Controller.{frame_place}
use Rattle.hub_class.specs.HubContent.{HubContent}
use Rattle.bus_world.specs.World.{World, controller_parts, controller_row}
use Rattle.claims_driver.specs.Unlinked.{IsOpenAt}
use Rattle.claims_world.specs.Visits.{frame_in}
use Rattle.law_budgets.specs.visit_prices.Spent.{placed_as, IsAmong}
use Rattle.law_translator.specs.Frames.{Frame}
use Rattle.law_translator.specs.hub_plans.HubPlans.{AreKeysApart}
pub use Rattle.claims_world.specs.Behind.{key_for}
use Rattle.claims_world.specs.HubPlans.{is_below, placed_below, key_at, is_number, plans_now}
use Rattle.law_microframes.specs.plans.Plans.{HubPlansFitIn}
use Rattle.law_microframes.specs.translators.Watching.{WithKeys, HubsHold, StartFollows}

-- ---- whose an entry is

pub record IsOwned (d : DriverContent) (index hub port : ℕ) (k : Key) : Type 0 where
  pub number : ℕ
  pub endpoint : Endpoint
  pub desc : EpDesc
  pub placement : Placement
  pub here : slice_get d.endpoints number ≡ Some endpoint
  pub described : endpoint.desc ≡ desc
  pub planned : IsAmong d.periodic.plan.placed (placed_as number desc placement)
  pub below : is_below hub port (frame_in index) (placed_as number desc placement) ≡ true
  pub numbers : is_number hub port ≡ true
  pub is : key_for desc ≡ k
  pub still_open : (i : ℕ) (r : Removal) → slice_get d.periodic.removals i ≡ Some r → r.what ≡ removed.Endpoint number
      → IsOpenAt index r.boundary

-- ---- a world

abbrev pub IsRight : (Frame → Type 0) → DriverContent → ℕ → ℕ → ℕ → Frame → Type 0
IsRight H d index hub port f = WithKeys (IsOwned d index hub port) H f

abbrev pub WorldKeeps : (Frame → Type 0) → World → (ℕ → ℕ → Key → ℕ) → Type 0
WorldKeeps H w g =
    HubsHold (IsRight H w.driver w.registers.frame_index) (plans_now w.driver w.registers.frame_index) (w.registers.frame_index % 8) g
    w.bus.hubs

-- ---- what its next event asks

pub record AsksInFrames (w : World) (ask : Ask) (out : List ℕ) : Type 0 where
  pub row : controller_row w ≡ rows.Frame
  pub left_by : Reply → FramePlace
  pub asks : effect_of (frame_place (controller_parts w)) ≡ Asks ask out left_by

abbrev pub StartsFollow : World → Type 0
StartsFollow w =
    (ask : Ask) (out : List ℕ) → AsksInFrames w ask out
    → StartFollows (IsOwned w.driver w.registers.frame_index) (plans_now w.driver w.registers.frame_index) (w.registers.frame_index % 8)
    w.bus.hubs ask (length out)

-- those of a siTD in hand, so far as they are such
abbrev pub SitdsFollow : World → Type 0
SitdsFollow w =
    (h : HeldSitd) → w.control.part ≡ Periodic → w.control.frame.hand ≡ Some (hands.Sitd h) → h.settled ≡ None
    → sitd_turn (w.registers.frame_index % 8) h.sitd ≡ Work
    → StartFollows (IsOwned w.driver w.registers.frame_index) (plans_now w.driver w.registers.frame_index) (w.registers.frame_index % 8)
    w.bus.hubs (sitd_transaction h.sitd).ask (sitd_transaction h.sitd).bytes

-- the entry of the key of this start-split, if the translator that it names has one, lacks its last part, and no part came in this
-- microframe
abbrev pub EntryLacks : World → Ask → Type 0
EntryLacks w ask =
    (hub port : ℕ) (part : DataPart) (i j : ℕ) (h : HubContent) (t : Translator) (e : Entry) → ask.split ≡ Start hub port part
    → position (λ x. x.address == hub) w.bus.hubs ≡ Some i → slice_get w.bus.hubs i ≡ Some h
    → place_of h.translators.multi port ≡ Some j → slice_get h.translators.all j ≡ Some t
    → find (has_key (key_of ask)) t.pipeline ≡ Some e → (e.came.whole ≡ false) × (e.came ≡ e.before)

-- so it is of the siTD in hand of an isochronous OUT, where a part was sent already
abbrev pub PartsAreLacked : World → Type 0
PartsAreLacked w =
    (h : HeldSitd) → w.control.part ≡ Periodic → w.control.frame.hand ≡ Some (hands.Sitd h) → h.settled ≡ None
    → sitd_turn (w.registers.frame_index % 8) h.sitd ≡ Work → h.sitd.dir_in ≡ false → (h.sitd.c_prog == 0) ≡ false
    → EntryLacks w (sitd_transaction h.sitd).ask

-- ---- what is known of a world

pub record IsKnown (w : World) : Type 0 where
  pub fit : HubPlansFitIn w.driver
  pub apart : (hub port f : ℕ) → AreKeysApart (key_at w.driver) (placed_below hub port f w.driver.periodic.plan.placed)
  pub starts : StartsFollow w
