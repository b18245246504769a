-- A microframe that begins has fewer events ahead; an End is the last; and the controller runs.
use Rattle.std.proofs.Common.{◌≡◌, ◌≢◌, ℕ, ◌<◌, Bool, true, false, List, [], ap, sym, subst, ◌∙◌, refl, arith}
use Rattle.law_world.proofs.Common.{begins_over}
use Rattle.word_mem.specs.Memory.{reaches}
use Rattle.op_registers.specs.Events.{after_begin}
use Rattle.hc_core.specs.declared.controller.ControllerRow.{ControllerRow}
use Rattle.hc_core.specs.declared.controller.ControllerRow.TheVariants as rows
use Rattle.hc_core.specs.declared.controller.MicroframePart.{MicroframePart}
use Rattle.hc_core.specs.declared.controller.MicroframePart.TheVariants.{Over}
use Rattle.hc_core.specs.Controller.{Content, element_address, begun_at, kind_of}
use Rattle.claims_base.specs.Controller.{Base}
use Rattle.bus_wire.specs.Bus.{is_allowed}
use Rattle.bus_world.specs.World.{World, controller_parts, controller_row, controller_next, with_turned, turned_by}
use Rattle.law_world.specs.memory.Mixed.{IsMixedWorld}
use Rattle.law_world.proofs.lemmas.memory.Controller.{controller_keeps_mixed}
use Rattle.law_world.proofs.lemmas.memory.Working.{works}
use Rattle.claims_world.specs.Microframes.{microframe_whole}
use Rattle.law_microframes.specs.time.Ahead.{events_in, events_ahead, RowLowers, EachRowLowers}

-- ---- the controller runs

pub runs : (w : World) → IsMixedWorld w → w.registers.run ≡ true
runs w k = ap (λ (b : Base). b.run) k.mixed.now.framed.runs.ring.registers

pub never_idle : (w : World) → IsMixedWorld w → controller_row w ≢ rows.Idle
never_idle w k idle = works w (runs w k) (ap (λ (r : ControllerRow). kind_of r (controller_parts w)) idle)

-- ---- Begin

-- where the element of the frame list can't be read, the controller stops
reached_there : (b allowed : Bool) (c : Content) → (begun_at b allowed c).registers.run ≡ true → b ≡ true
reached_there true allowed c run = refl
reached_there false allowed c run = absurd cc

begun_ahead : (b allowed : Bool) (c : Content) (rs : List ℕ) (n : ℕ) → b ≡ true → events_ahead (begun_at b allowed c).control [] rs n < microframe_whole
begun_ahead true true c rs n reached = omega arith
begun_ahead true false c rs n reached = omega arith
begun_ahead false allowed c rs n reached = absurd cc

pub begin_lowers : RowLowers rows.Begin
begin_lowers fixed w vs rs n k is goes =
    let next_is : controller_next fixed w ≡ with_turned w (turned_by fixed rows.Begin (controller_parts w) w.bus)
    = ap (λ (r : ControllerRow). with_turned w (turned_by fixed r (controller_parts w) w.bus)) is in
    let over : w.control.part ≡ Over = begins_over w.registers.run w.registers w.control.frame w.control.part is in
    let run : (begun_at (reaches w.memory (element_address (after_begin w.registers))) (is_allowed fixed w.bus) (record (controller_parts w) { registers = after_begin w.registers })).registers.run ≡ true
    = ap (λ (v : World). v.registers.run) (sym next_is) ∙ runs (controller_next fixed w) (controller_keeps_mixed fixed w k.mixed) in
    subst (λ (m : ℕ). events_ahead (controller_next fixed w).control [] rs n < m) (ap (λ (part : MicroframePart). events_in part w.control vs rs n) (sym over))
    (subst (λ (v : World). events_ahead v.control [] rs n < microframe_whole) (sym next_is)
    (begun_ahead (reaches w.memory (element_address (after_begin w.registers))) (is_allowed fixed w.bus) (record (controller_parts w) { registers = after_begin w.registers }) rs n
    (reached_there (reaches w.memory (element_address (after_begin w.registers))) (is_allowed fixed w.bus) (record (controller_parts w) { registers = after_begin w.registers }) run)))

-- ---- End

pub end_lowers : RowLowers rows.End
end_lowers fixed w vs rs n k is goes = absurd (goes (ap (λ (r : ControllerRow). kind_of r (controller_parts w)) is))

-- ---- each row

pub each_row_lowers : RowLowers rows.Frame → RowLowers rows.Enter → RowLowers rows.Go → EachRowLowers
each_row_lowers frame enter go rows.Idle busy = absurd (busy refl)
each_row_lowers frame enter go rows.Begin busy = begin_lowers
each_row_lowers frame enter go rows.Frame busy = frame
each_row_lowers frame enter go rows.Enter busy = enter
each_row_lowers frame enter go rows.Go busy = go
each_row_lowers frame enter go rows.End busy = end_lowers
