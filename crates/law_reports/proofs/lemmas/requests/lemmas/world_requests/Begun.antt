-- The controller's next event begins a request where its kind is that of a transaction: the same is told by what the walk of the ring has in hand before
-- it and after it.
use Rattle.std.proofs.Common.{◌≡◌, ℕ, Bool, true, false, Option, Some, None, if◌then◌else◌, refl, sym, ap, ◌∙◌}
use Rattle.toggle_error.specs.declared.host.Outcome.{Outcome}
use Rattle.hc_copy.specs.declared.held.Held.{Held}
use Rattle.hc_copy.specs.declared.held.Transaction.{Transaction}
use Rattle.hc_copy.specs.Buffer.{sending}
use Rattle.hc_copy.specs.Overlay.{advanced}
use Rattle.hc_copy.specs.WriteBack.{overlay_after}
use Rattle.qh_qtd.specs.declared.qtd.Qtd.{Qtd}
use Rattle.mem_queues.specs.Structures.{reaches_queue_head}
use Rattle.async_walk.specs.declared.rows.WalkRow.{WalkRow}
use Rattle.async_walk.specs.declared.rows.WalkRow.TheVariants as walks
use Rattle.async_walk.specs.declared.state.WalkStep.TheVariants as kinds
use Rattle.async_walk.specs.Rows.{WalkPlace, at_event, event_row, step_of, started, row_at, passed_walk, took, took_step, wrote, wrote_step, wrote_settled, wrote_step_settled, sent_step, writing, faulted}
use Rattle.hc_core.specs.declared.controller.HcStep.TheVariants as steps
use Rattle.hc_core.specs.declared.controller.MicroframePart.{MicroframePart}
use Rattle.hc_core.specs.declared.controller.MicroframePart.TheVariants.{Over, Periodic, Asynchronous}
use Rattle.hc_core.specs.declared.controller.ControllerRow.{ControllerRow}
use Rattle.hc_core.specs.declared.controller.ControllerRow.TheVariants as rows
use Rattle.hc_core.specs.Controller.{Content, part_row, ring_row, hc_step, kind_of, walk_place}
use Rattle.drv_table.specs.DriverContent.{DriverContent}
use Rattle.bus_wire.specs.Bus.{Bus, Fixed}
use Rattle.bus_world.specs.World.{World, sent_by, sends_by, walk_by, turned_by, controller_parts, controller_next}
use Rattle.claims_world.specs.Requests.{setup_at, begun_in, begun_by}

-- ---- by what is in hand

abbrev settled_in : DriverContent → Held → Option Outcome → Option ℕ
settled_in d h None = None
settled_in d h (Some s) = setup_at d h.queue_head.current

abbrev made_in : DriverContent → Held → Option Outcome → Option Held → Option ℕ
made_in d h None (Some k) = settled_in d h k.settled
made_in d h _ _ = None

-- the copy had no transaction, and has one now
abbrev pub begun_between : DriverContent → Option Held → Option Held → Option ℕ
begun_between d None after = None
begun_between d (Some h) after = made_in d h h.settled after

made_nothing : (d : DriverContent) (h : Held) (s : Option Outcome) → made_in d h s None ≡ None
made_nothing d h None = refl
made_nothing d h (Some s) = refl

pub left_begins : (d : DriverContent) (o : Option Held) → begun_between d o None ≡ None
left_begins d None = refl
left_begins d (Some h) = made_nothing d h h.settled

made_same : (d : DriverContent) (h : Held) (s : Option Outcome) → h.settled ≡ s → made_in d h s (Some h) ≡ None
made_same d h None is = ap (settled_in d h) is
made_same d h (Some s) is = refl

pub same_begins : (d : DriverContent) (o : Option Held) → begun_between d o o ≡ None
same_begins d None = refl
same_begins d (Some h) = made_same d h h.settled refl

idle_begins : (d : DriverContent) (o : Option Held) → begun_in d o steps.Idle ≡ None
idle_begins d None = refl
idle_begins d (Some h) = refl

end_begins : (d : DriverContent) (o : Option Held) → begun_in d o steps.End ≡ None
end_begins d None = refl
end_begins d (Some h) = refl

-- ---- an event of the walk of the ring

module _ (fixed : Fixed) (d : DriverContent) (p : WalkPlace) (h : Held) (b : Bus) (held : p.walk.held ≡ Some h) where
  module _ (unsettled : h.settled ≡ None) where
    still : made_in d h None p.walk.held ≡ None
    still = ap (made_in d h None) held ∙ ap (settled_in d h) unsettled

    abbrev written : ℕ → Qtd → WalkPlace
    written a t = record p { memory = overlay_after p.memory h.at (advanced h.queue_head a t) }

    took_begins : (a : ℕ) (t : Qtd) (r : Bool) → begun_in d (Some h) (hc_step (if r then kinds.Advance else kinds.Fault))
        ≡ made_in d h None (if r then record (written a t) { walk = record p.walk { held = Some (record h { queue_head = advanced h.queue_head a t }) } } else faulted (written a t)).walk.held
    took_begins a t true = sym (ap (settled_in d h) unsettled)
    took_begins a t false = refl

    sent_begins : (t : Transaction) (all : Bool) → begun_in d (Some h) (hc_step (if all then kinds.Transact else kinds.Fault))
        ≡ made_in d h None (sent_by fixed all t h (sending t h.queue_head p.memory).bytes (record p { memory = (sending t h.queue_head p.memory).memory }) b).place.walk.held
    sent_begins t true = refl
    sent_begins t false = refl

    row_begins : (row : WalkRow) → begun_in d (Some h) (hc_step (step_of row p)) ≡ made_in d h None (walk_by fixed row p b).place.walk.held
    row_begins walks.HeadEnds = sym still
    row_begins walks.Skip = sym (ap (λ (o : Option Held). made_in d h None (passed_walk p.walk o).held) held)
    row_begins (walks.Advance a t) =
        ap (λ (o : Option Held). begun_in d (Some h) (hc_step (took_step p.memory o))) held ∙ took_begins a t (reaches_queue_head p.memory h.at)
        ∙ sym (ap (λ (o : Option Held). made_in d h None (took a t p o).walk.held) held)
    row_begins (walks.Transact t) =
        ap (λ (o : Option Held). begun_in d (Some h) (hc_step (sent_step t p.memory o))) held ∙ sent_begins t (sending t h.queue_head p.memory).all
        ∙ sym (ap (λ (o : Option Held). made_in d h None (sends_by fixed t p o b).place.walk.held) held)
    row_begins walks.WriteBack =
        ap (λ (o : Option Held). begun_in d (Some h) (hc_step (wrote_step p o))) held ∙ ap (λ (o : Option Outcome). begun_in d (Some h) (hc_step (wrote_step_settled p h o))) unsettled
        ∙ sym (ap (λ (o : Option Held). made_in d h None (wrote p o).walk.held) held ∙ ap (λ (o : Option Outcome). made_in d h None (wrote_settled p h o).walk.held) unsettled ∙ still)
    row_begins _ = refl

  -- a transaction that isn't written back
  module _ (s : Outcome) (settled : h.settled ≡ Some s) where
    back_begins : (all : Bool) → begun_in d (Some h) (hc_step (if all then kinds.WriteBack else kinds.Fault)) ≡ None
    back_begins true = refl
    back_begins false = refl

    written_begins : begun_in d (Some h) (hc_step (step_of walks.WriteBack p)) ≡ None
    written_begins =
        ap (λ (o : Option Held). begun_in d (Some h) (hc_step (wrote_step p o))) held ∙ ap (λ (o : Option Outcome). begun_in d (Some h) (hc_step (wrote_step_settled p h o))) settled
        ∙ back_begins (writing h s p.walk.reply p.memory).all

-- ---- an event of the controller

module _ (fixed : Fixed) (d : DriverContent) (c : Content) (b : Bus) where
  abbrev left_by : ControllerRow → Option Held
  left_by row = (turned_by fixed row c b).content.control.walk.held

  by_settled : (h : Held) → c.control.walk.held ≡ Some h → (s : Option Outcome) → h.settled ≡ s → begun_in d (Some h) (kind_of rows.Go c) ≡ made_in d h s (turned_by fixed rows.Go c b).content.control.walk.held
  by_settled h held None is = row_begins fixed d (at_event (walk_place c)) h b held is (event_row (walk_place c))
  by_settled h held (Some s) is =
      ap (λ (row : WalkRow). begun_in d (Some h) (hc_step (step_of row (at_event (walk_place c)))))
      (ap (λ (o : Option Held). row_at (started (walk_place c)) o) held ∙ ap (λ (o : Option Outcome). row_at (started (walk_place c)) (Some (record h { settled = o }))) is)
      ∙ written_begins fixed d (at_event (walk_place c)) h b held s is

  by_held : (o : Option Held) → c.control.walk.held ≡ o → begun_in d o (kind_of rows.Go c) ≡ begun_between d o (turned_by fixed rows.Go c b).content.control.walk.held
  by_held None is = refl
  by_held (Some h) is = by_settled h is h.settled refl

  abbrev Same : ControllerRow → Type 0
  Same row = begun_in d c.control.walk.held (kind_of row c) ≡ begun_between d c.control.walk.held (turned_by fixed row c b).content.control.walk.held

  by_row : (run on : Bool) → Same (if run then ring_row on else rows.Idle)
  by_row true true = by_held c.control.walk.held refl
  by_row true false = end_begins d c.control.walk.held ∙ sym (left_begins d c.control.walk.held)
  by_row false on = idle_begins d c.control.walk.held ∙ sym (same_begins d c.control.walk.held)

  nothing_held : (row : ControllerRow) → c.control.walk.held ≡ None → Same row
  nothing_held row is = ap (λ (o : Option Held). begun_in d o (kind_of row c)) is ∙ sym (ap (λ (o : Option Held). begun_between d o (turned_by fixed row c b).content.control.walk.held) is)

  over_apart : Over ≡ Asynchronous → ⊥
  over_apart same = cc

  periodic_apart : Periodic ≡ Asynchronous → ⊥
  periodic_apart same = cc

  by_part : (part : MicroframePart) → c.control.part ≡ part → ((c.control.part ≡ Asynchronous → ⊥) → c.control.walk.held ≡ None) → Same (if c.registers.run then part_row c.registers c.control.frame part else rows.Idle)
  by_part Over is between = nothing_held (if c.registers.run then part_row c.registers c.control.frame Over else rows.Idle) (between (λ same. over_apart (sym is ∙ same)))
  by_part Periodic is between = nothing_held (if c.registers.run then part_row c.registers c.control.frame Periodic else rows.Idle) (between (λ same. periodic_apart (sym is ∙ same)))
  by_part Asynchronous is between = by_row c.registers.run c.registers.async_enable

pub kind_begins : (fixed : Fixed) (w : World) → ((w.control.part ≡ Asynchronous → ⊥) → w.control.walk.held ≡ None)
    → begun_by w ≡ begun_between w.driver w.control.walk.held (controller_next fixed w).control.walk.held
kind_begins fixed w between = by_part fixed w.driver (controller_parts w) w.bus w.control.part refl between
