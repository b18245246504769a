-- An event of the driver leaves in the plan the placements of those whose queue heads may be met.
use Rattle.std.proofs.Common.{◌≡◌, ◌≢◌, ℕ, ◌*◌, false, slice_get, Some, ap, refl, sym, subst, ◌∙◌}
use Rattle.usb_base.specs.declared.endpoints.EpDesc.{EpDesc}
use Rattle.usb_base.specs.declared.packets.EpKind.{EpKind}
use Rattle.usb_base.specs.declared.packets.EpKind.TheVariants as kinds
use Rattle.drv_periodic_table.specs.declared.content.Removed.TheVariants as removed
use Rattle.drv_table.specs.declared.content.Endpoint.{Endpoint}
use Rattle.drv_table.specs.declared.rows.DriverRow.TheVariants as rows
use Rattle.drv_table.specs.DriverContent.{DriverContent}
use Rattle.drv_table.specs.Kinds.{is_iso}
use Rattle.drv_table.specs.Rows.{driver_row}
use Rattle.law_driver.specs.planned_endpoints.Planned.{IsPlanned}
use Rattle.law_driver.proofs.lemmas.planned_endpoints.Laws.{events_keep_the_plan}
use Rattle.law_frames.specs.Met.{Kind}
use Rattle.law_descriptors.specs.Meeting.{met}
use Rattle.law_descriptors.proofs.GivenRow.{row_gives_back_passed}
use Rattle.law_descriptors.proofs.Waiting.{waiting_are_unmet}
use Rattle.law_descriptors.proofs.Returning.{none_some}
use Rattle.law_world.proofs.lemmas.memory.lemmas.framed_memory.LeavingUnmet.{interrupt_is_unmet}
use Rattle.law_budgets.specs.visit_prices.Spent.{IsAmong, placed_as}
use Rattle.bus_world.specs.World.{World, driver_parts, driver_next}
use Rattle.law_world.specs.memory.Mixed.{Standing, IsMixedAt}
use Rattle.law_microframes.specs.visits.Belonging.{IsStructureOf, a_queue, a_descriptor, BelongsTo, placed_of, StaysPlaced, DriverKeepsPlaced, QueueStays}
use Rattle.law_microframes.proofs.lemmas.visits.BelongSeen.{Seen, seen_in, IsSeenIn, seen_there, row_seen}
use Rattle.law_microframes.proofs.lemmas.visits.BelongPlan.{row_more, planned_kept}

pub not_iso : {k : EpKind} → k ≡ kinds.Interrupt → is_iso k ≡ false
not_iso is = ap is_iso is

-- the endpoint is seen in a later content as it was, and its placement is in the plan still
pub stays_in : (d later : DriverContent) (n : ℕ) (b : BelongsTo d n) → IsPlanned later → seen_in later.endpoints b.number ≡ seen_in d.endpoints b.number
    → IsAmong later.periodic.plan.placed (placed_of b) → StaysPlaced b later
stays_in d later n b planned same among =
    let of : IsSeenIn later.endpoints b.number b.endpoint = seen_there d.endpoints later.endpoints b.number b.endpoint same b.here in
    record {
      endpoint = of.endpoint;
      here = of.here;
      kept = planned_kept later b.number of.endpoint (placed_of b) planned among refl of.here;
      desc = ap (λ (s : Seen). s.desc) of.same;
      queue = ap (λ (s : Seen). s.queue) of.same;
      placed = ap (λ (s : Seen). s.placement) of.same ∙ b.placed;
      planned = among;
    }

pub queue_stays : QueueStays
queue_stays d later n b k =
    let e = b.belongs.number in
    let p = b.belongs.placement in
    let kind : k.endpoint.desc.kind ≡ kinds.Interrupt = ap (λ (y : EpDesc). y.kind) k.desc ∙ b.kind in
    let name : n ≡ 32 * k.endpoint.queue = b.name ∙ ap (λ (q : ℕ). 32 * q) (sym k.queue) in
    let same : placed_as e b.belongs.endpoint.desc p ≡ placed_as e k.endpoint.desc p = ap (λ (y : EpDesc). placed_as e y p) (sym k.desc) in
    record {
      still = record {
        belongs = record {
          number = e;
          endpoint = k.endpoint;
          placement = p;
          here = k.here;
          kept = k.kept;
          placed = k.placed;
          planned = subst (IsAmong later.periodic.plan.placed) same k.planned;
          structure = a_queue kind name;
        };
        kind = kind;
        name = name;
      };
      number = refl;
      placed = sym same;
    }

-- what is given back next isn't met
not_given : (s : Standing) (w : World) (n : ℕ) (kind : Kind) → IsMixedAt s w → met w.driver s.recent n ≡ Some kind → (e : ℕ) (x : Endpoint) → slice_get w.driver.endpoints e ≡ Some x
    → IsStructureOf w.driver n e x → driver_row (driver_parts w) ≢ rows.ReleaseRemoved (removed.Endpoint e)
not_given s w n kind k is e x here (a_queue queue name) row =
    let parts = driver_parts w in
    let sound = k.now.framed.place.sound in
    none_some kind
    (sym (interrupt_is_unmet parts s.recent w.registers.frame_index e x sound.owners sound.listed k.now.recent_are (row_gives_back_passed parts (removed.Endpoint e) row) here (not_iso queue))
    ∙ ap (met w.driver s.recent) (sym name) ∙ is)
not_given s w n kind k is e x here (a_descriptor t y iso there sort waits name) row =
    let parts = driver_parts w in
    let sound = k.now.framed.place.sound in
    none_some kind
    (sym (waiting_are_unmet parts s.recent w.registers.frame_index e t x y sound.owners sound.listed k.now.recent_are (row_gives_back_passed parts (removed.Endpoint e) row) here (ap is_iso iso) there sort waits)
    ∙ ap (met w.driver s.recent) (sym name) ∙ is)

pub driver_keeps_placed : DriverKeepsPlaced
driver_keeps_placed s w n kind k is b =
    let d = w.driver in
    let parts = driver_parts w in
    stays_in d (driver_next w).driver n b (events_keep_the_plan parts k.now.framed.place.sound.owners k.now.planned) (row_seen b.number (driver_row parts) parts)
    (row_more (driver_row parts) parts (placed_of b) (not_given s w n kind k is b.number b.endpoint b.here b.structure) b.planned)
