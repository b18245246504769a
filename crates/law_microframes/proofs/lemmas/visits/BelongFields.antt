-- The fields of the queue heads of interrupt endpoints stand in memory, whatever the controller and the driver do.
use Rattle.std.proofs.Common.{◌≡◌, ℕ, ◌+◌, ◌*◌, ◌<◌, ◌⊎◌, false, ap, refl, sym, subst, ◌∙◌, ⊎_elim, arith}
use Rattle.usb_base.specs.declared.endpoints.EpDesc.{EpDesc}
use Rattle.bus_wire.specs.Bus.{Fixed}
use Rattle.word_mem.specs.Memory.{Mem, word_at}
use Rattle.bandwidth.specs.declared.placements.Placement.{Placement}
use Rattle.drv_table.specs.declared.content.Endpoint.{Endpoint}
use Rattle.drv_table.specs.Parts.{Parts}
use Rattle.drv_table.specs.Kinds.{is_iso}
use Rattle.drv_table.specs.Rows.{driver_row, after_driver_row}
use Rattle.claims_base.specs.Controller.{opening_base}
use Rattle.law_driver_ring.specs.Driven.{IsOperating}
use Rattle.law_driver.specs.in_place.Run.{IsElsewhere}
use Rattle.law_driver.specs.queue_head_words.Overlay.{HasQueueHead, of_endpoint, IsMendOf, LeavesWord}
use Rattle.law_driver.proofs.lemmas.queue_head_words.Stored.{events_leave_the_overlay}
use Rattle.law_structures.specs.lent_structures.Structures.{StructureSets}
use Rattle.law_controller.specs.controlled_streams.Control.{IsOn}
use Rattle.law_frames.proofs.Walking.{event_happens}
use Rattle.law_driver.specs.planned_endpoints.Planned.{IsPlanned}
use Rattle.law_driver.proofs.lemmas.planned_endpoints.Laws.{events_keep_the_plan}
use Rattle.law_controller.specs.frame_control.Both.{ControlsBoth}
use Rattle.law_controller.proofs.lemmas.frame_control.Running.{each_event_of_the_controller_over_both}
use Rattle.law_descriptors.specs.Both.{both}
use Rattle.law_descriptors.specs.Meeting.{met}
use Rattle.law_descriptors.specs.PartLaws.{IsDescribing}
use Rattle.law_descriptors.specs.list_beside.Links.{IsTold}
use Rattle.law_descriptors.proofs.lemmas.list_beside.Describing.{described_is_told}
use Rattle.law_descriptors.proofs.lemmas.list_beside.Running.{events_leave_driver}
use Rattle.law_world.specs.steps.Streaming.{begins_by, transacts_by, wired}
use Rattle.law_world.proofs.lemmas.steps.StreamTurning.{world_has_row}
use Rattle.law_world.proofs.lemmas.steps.lemmas.world_bytes.Hearing.{a_bus_of_bytes_is_heard_as_bytes}
use Rattle.bus_world.specs.World.{World, driver_parts, controller_parts, driver_next, controller_next}
use Rattle.law_world.specs.memory.Mixed.{Standing, IsMixedAt}
use Rattle.law_microframes.specs.visits.Belonging.{HaveFields, NewHeadsHaveFields, ControllerKeepsFields, DriverKeepsFields}
use Rattle.law_microframes.proofs.lemmas.visits.BelongSeen.{Seen, seen, IsSeenIn, seen_there, row_seen}
use Rattle.law_microframes.proofs.lemmas.visits.BelongPlan.{row_less, planned_kept, in_plan}

-- ---- words that are the same

abbrev pub FieldsAt : Mem → ℕ → EpDesc → Placement → Type 0
FieldsAt m b x p = HaveFields (word_at m (32 * b + 4)) (word_at m (32 * b + 8)) x p

pub same_words : (m new : Mem) (b : ℕ) (x : EpDesc) (p : Placement) → word_at new (32 * b + 4 * 1) ≡ word_at m (32 * b + 4 * 1) → word_at new (32 * b + 4 * 2) ≡ word_at m (32 * b + 4 * 2) → FieldsAt m b x p → FieldsAt new b x p
same_words m new b x p one two have =
    subst (λ (second : ℕ). HaveFields (word_at new (32 * b + 4)) second x p) (sym two) (subst (λ (first : ℕ). HaveFields first (word_at m (32 * b + 8)) x p) (sym one) have)

-- the same endpoint, as it is seen
pub same_endpoint : (m : Mem) (x z : Endpoint) (p : Placement) → seen x ≡ seen z → FieldsAt m x.queue x.desc p → FieldsAt m z.queue z.desc p
same_endpoint m x z p same have = subst (λ (s : Seen). FieldsAt m s.queue s.desc p) same have

-- ---- before the first line there is none

pub new_heads_have_fields : NewHeadsHaveFields
new_heads_have_fields s e x p here queue kept placed = absurd (cc)

-- ---- the controller

module _ (fixed : Fixed) (w : World) (s : Standing) (k : IsMixedAt s w) where
  abbrev new : World
  new = controller_next fixed w

  is_on : IsOperating opening_base → IsOn opening_base
  is_on is = record { run = is.run; async_enable = is.async_enable }

  -- the event, with what it makes of the structures
  pub event_of : ControlsBoth begins_by transacts_by opening_base s.member (met w.driver s.recent) (both s.descs s.parts) s.hand s.frame w.control (wired fixed w) (wired fixed (controller_next fixed w))
      (controller_parts (controller_next fixed w))
  event_of =
      let f = k.now.framed in
      let all : StructureSets = both s.descs s.parts in
      let meets = met w.driver s.recent in
      each_event_of_the_controller_over_both begins_by transacts_by opening_base s.member meets all s.hand s.frame (controller_parts w) (wired fixed w) (controller_parts new) (wired fixed new)
      (event_happens transacts_by meets all s.frame) f.runs (is_on f.operating) (a_bus_of_bytes_is_heard_as_bytes fixed w k.bytes (wired fixed new)) (world_has_row fixed w)

  elsewhere : IsElsewhere w.driver w.memory (controller_next fixed w).memory
  elsewhere =
      let f = k.now.framed in
      let all : StructureSets = both s.descs s.parts in
      let describing : IsDescribing w.driver s.descs s.parts = record { owners = f.place.sound.owners; driven = f.driven; described = f.described } in
      let told : IsTold opening_base s.parts all w.memory w.driver = described_is_told opening_base s.parts s.descs w.memory w.driver f.place describing f.runs.list f.start in
      (events_leave_driver begins_by transacts_by opening_base s.member (met w.driver s.recent) s.parts all s.hand s.frame (controller_parts w) w.driver (wired fixed w) (controller_parts new)
      (wired fixed new) f.runs told f.aligned (world_has_row fixed w) event_of).elsewhere

pub controller_keeps_fields : ControllerKeepsFields
controller_keeps_fields fixed w k have e x p here queue kept placed =
    let s = k.standing in
    let there : HasQueueHead w.driver x.queue = of_endpoint e x here queue kept refl in
    let stay = elsewhere fixed w s k.mixed in
    same_words w.memory (controller_next fixed w).memory x.queue x.desc p (stay.heads x.queue 1 there (omega arith)) (stay.heads x.queue 2 there (omega arith)) (have e x p here queue kept placed)

-- ---- the driver

no_mend : (p : Parts) (b i : ℕ) → i < 4 → IsMendOf p (driver_row p) b (32 * b + 4 * i) → ⊥
no_mend p b i small mend =
    ⊎_elim (λ (one : 32 * b + 4 * i ≡ 32 * b + 16). omega (arith, one, small))
    (λ (rest : (32 * b + 4 * i ≡ 32 * b + 20) ⊎ (32 * b + 4 * i ≡ 32 * b + 24)).
    ⊎_elim (λ (one : 32 * b + 4 * i ≡ 32 * b + 20). omega (arith, one, small)) (λ (one : 32 * b + 4 * i ≡ 32 * b + 24). omega (arith, one, small)) rest) mend.word

left_word : (p : Parts) (b i : ℕ) → i < 4 → LeavesWord p b i → word_at (after_driver_row (driver_row p) p).memory (32 * b + 4 * i) ≡ word_at p.memory (32 * b + 4 * i)
left_word p b i small =
    ⊎_elim (λ (same : word_at (after_driver_row (driver_row p) p).memory (32 * b + 4 * i) ≡ word_at p.memory (32 * b + 4 * i)). same)
    (λ (mend : IsMendOf p (driver_row p) b (32 * b + 4 * i)). absurd (no_mend p b i small mend))

pub driver_keeps_fields : DriverKeepsFields
driver_keeps_fields w k have e z p here queue kept placed =
    let d = w.driver in
    let parts = driver_parts w in
    let next = (driver_next w).driver in
    let sound = k.mixed.now.framed.place.sound in
    let later : IsPlanned next = events_keep_the_plan parts sound.owners k.mixed.now.planned in
    let of : IsSeenIn d.endpoints e z = seen_there next.endpoints d.endpoints e z (sym (row_seen e (driver_row parts) parts)) here in
    let x = of.endpoint in
    let same_queue : x.queue ≡ z.queue = ap (λ (s : Seen). s.queue) of.same in
    let same_kind : is_iso x.desc.kind ≡ is_iso z.desc.kind = ap (λ (s : Seen). is_iso s.desc.kind) of.same in
    let same_placement : x.placement ≡ z.placement = ap (λ (s : Seen). s.placement) of.same in
    let before : x.gone ≡ false = planned_kept d e x _ k.mixed.now.planned (row_less (driver_row parts) parts _ (in_plan next e z p later here kept placed)) refl of.here in
    let there : HasQueueHead d z.queue = of_endpoint e x of.here (same_kind ∙ queue) before same_queue in
    let then : HasQueueHead next z.queue = of_endpoint e z here queue kept refl in
    same_words w.memory (driver_next w).memory z.queue z.desc p
    (left_word parts z.queue 1 (omega arith) (events_leave_the_overlay parts z.queue 1 sound there then (omega arith) (omega arith)))
    (left_word parts z.queue 2 (omega arith) (events_leave_the_overlay parts z.queue 2 sound there then (omega arith) (omega arith)))
    (same_endpoint w.memory x z p of.same (have e x p of.here (same_kind ∙ queue) before (same_placement ∙ placed)))
