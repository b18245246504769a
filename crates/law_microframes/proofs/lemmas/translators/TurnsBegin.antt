-- A microframe that begins goes on with what is told of the isochronous OUTs below hubs: the work leaves their entries, and after it none
-- came; with a new frame they are gone (USB 2.0, 11.18.4 and 11.18.6).
use Rattle.std.proofs.Common.{◌≡◌, ◌≢◌, ℕ, ◌%◌, Bool, true, false, List, [], sym, subst, ◌∙◌, inl, inr}
use Rattle.std.specs.Prelude.{◌==◌, ◌&&◌, not, if◌then◌else◌}
use Rattle.std.proofs.lemmas.Bool.{cases_Bool, eq-eqb, true≢false}
use Rattle.word_mem.specs.Memory.{reaches}
use Rattle.op_registers.specs.RegisterFile.{RegisterFile}
use Rattle.op_registers.specs.Events.{after_begin, next_index}
use Rattle.itd_sitd.specs.declared.sitd.Sitd.{Sitd}
use Rattle.drv_periodic_table.specs.Descriptors.{sitd_in}
use Rattle.drv_periodic_table.specs.Periodic.{note_at}
use Rattle.hub_keys.specs.declared.key.Key.{Key}
use Rattle.hub_class.specs.HubContent.{HubContent}
use Rattle.periodic_walk.specs.Walk.{Walk, is_over}
use Rattle.hc_core.specs.declared.controller.ControllerRow.{ControllerRow}
use Rattle.hc_core.specs.declared.controller.ControllerRow.TheVariants as rows
use Rattle.hc_core.specs.declared.controller.MicroframePart.{MicroframePart}
use Rattle.hc_core.specs.declared.controller.MicroframePart.TheVariants as micro
use Rattle.hc_core.specs.Controller.{begun_at, element_address, enter_row, part_row}
use Rattle.bus_wire.specs.Bus.{Fixed, begin_after, is_allowed}
use Rattle.bus_world.specs.World.{World, controller_parts, controller_row, turned_by, with_turned}
use Rattle.claims_world.specs.Visits.{frame_in}
use Rattle.law_microframes.specs.translators.Parts.{EachOf, Lacks, IsEven, key_asked}
use Rattle.law_microframes.specs.translators.Turns.{pipeline_for, EntriesAre, OutsGoOn, BeginKeepsOuts}
use Rattle.law_microframes.proofs.lemmas.translators.Owned.{same_frame}
use Rattle.law_microframes.proofs.lemmas.translators.TurnsPipelines.{begun_empty, begun_lacks, begun_even}

-- in the periodic part none begins
part_begins : (r : RegisterFile) (frame : Walk) (run : Bool) (part : MicroframePart)
    → (if run then part_row r frame part else rows.Idle) ≡ rows.Begin → part ≢ micro.Periodic
part_begins r frame false part is on = absurd (let e : rows.Idle ≡ rows.Begin = is in cc)
part_begins r frame true micro.Over is on = absurd (cc)
part_begins r frame true micro.Asynchronous is on = absurd (cc)
part_begins r frame true micro.Periodic is on = by (r.periodic_enable && not (is_over frame)) r.async_enable is
  where
    by : (b c : Bool) → (if b then rows.Frame else enter_row c) ≡ rows.Begin → ⊥
    by true c e = cc
    by false true e = cc
    by false false e = cc

none_begins : (w : World) → controller_row w ≡ rows.Begin → w.control.part ≢ micro.Periodic
none_begins w row = part_begins w.registers w.control.frame w.registers.run w.control.part row

module _ (fixed : Fixed) (start w : World) (vs : List ℕ) (row : controller_row w ≡ rows.Begin) (k : OutsGoOn start w vs) where
  abbrev i : ℕ
  i = w.registers.frame_index

  abbrev hubs_then : List HubContent
  hubs_then = (begin_after fixed (next_index w.registers.frame_index) w.bus).hubs

  -- where the frame is a new one nothing is to show
  lacks_then : (f : ℕ) (v : Sitd) → f ≡ frame_in (next_index w.registers.frame_index)
      → (f ≡ frame_in w.registers.frame_index → EntriesAre Lacks w.bus.hubs v)
      → EntriesAre Lacks (begin_after fixed (next_index w.registers.frame_index) w.bus).hubs v
  lacks_then f v now was on way some =
      elim (cases_Bool (next_index i % 8 == 0)) [
        | inl new ↦ subst (EachOf Lacks (key_asked v)) (sym (begun_empty fixed (next_index i) w.bus v.hub v.port new)) tt
        | inr off ↦
            begun_lacks fixed (next_index i) w.bus v.hub v.port (key_asked v)
            (was (now ∙ same_frame i (λ none. true≢false (sym (eq-eqb (next_index i % 8) 0 none) ∙ off))) on way some)
      ]

  even_then : (j : Key) (hub port : ℕ) → EachOf IsEven j (pipeline_for (begin_after fixed (next_index w.registers.frame_index) w.bus).hubs hub port)
  even_then j hub port = begun_even fixed (next_index i) w.bus hub port j

  -- whether the element may be read or not
  by_read : (b allowed : Bool)
      → OutsGoOn w (with_turned w (record {
        content = begun_at b allowed (record (controller_parts w) { registers = after_begin w.registers });
        bus = begin_after fixed (next_index w.registers.frame_index) w.bus;
      })) []
  by_read true allowed = record {
    there = λ j now out.
        lacks_then (note_at w.driver.periodic.notes j.transfer.first).frame (sitd_in w.memory j.transfer.first) now
        (λ was. k.there (record {
          number = j.number;
          transfer = j.transfer;
          endpoint = j.endpoint;
          placement = j.placement;
          there = j.there;
          sort = j.sort;
          held = j.held;
          split = j.split;
          here = j.here;
          placed = j.placed;
        }) was (λ hand. none_begins w row hand.part));
    held = λ h on is. absurd (cc);
    came = λ j hub port kind dir. inl (even_then j hub port);
    read = λ n u on way. absurd (let h = u.hand.held in cc);
  }
  by_read false allowed = record {
    there = λ j now out.
        lacks_then (note_at w.driver.periodic.notes j.transfer.first).frame (sitd_in w.memory j.transfer.first) now
        (λ was. k.there (record {
          number = j.number;
          transfer = j.transfer;
          endpoint = j.endpoint;
          placement = j.placement;
          there = j.there;
          sort = j.sort;
          held = j.held;
          split = j.split;
          here = j.here;
          placed = j.placed;
        }) was (λ hand. none_begins w row hand.part));
    held = λ h on is. absurd (none_begins w row on);
    came = λ j hub port kind dir. inl (even_then j hub port);
    read = λ n u on way. absurd (none_begins w row u.hand.part);
  }

pub begin_keeps_outs : BeginKeepsOuts
begin_keeps_outs fixed start w vs row k =
    subst (λ (r : ControllerRow). OutsGoOn w (with_turned w (turned_by fixed r (controller_parts w) w.bus)) []) (sym row)
    (by_read fixed start w vs row k (reaches w.memory (element_address (after_begin w.registers))) (is_allowed fixed w.bus))
