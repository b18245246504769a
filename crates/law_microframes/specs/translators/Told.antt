-- What a translator has for the host at the last complete-split (USB 2.0, 11.18.4; EHCI 1.0, 4.12.2.1 and 4.12.3.1).
--     LastCompletesAreLate        two microframes lie between the last in which something is laid for an interrupt endpoint, or for an
--                                 isochronous IN, and its last complete-split
--     IsToldByLast d index hub port e   at that begin the result of an interrupt is there, of which something was worked whatever came; and
--                                 the last bytes of an isochronous IN
--     TextsTellByLast             so it is of each entry at each moment of a script that a text spells
use Rattle.std.specs.Prelude.{◌≡◌, ℕ, ◌+◌, ◌/◌, ◌%◌, ◌≤◌, true, List, slice_get, Some}
use Rattle.std.specs.List.{AllByRecursion}
use Rattle.usb_base.specs.declared.packets.Dir.{Dir}
use Rattle.usb_base.specs.declared.packets.Dir.TheVariants as dirs
use Rattle.usb_base.specs.declared.packets.EpKind.{EpKind}
use Rattle.usb_base.specs.declared.packets.EpKind.TheVariants as kinds
use Rattle.usb_base.specs.declared.packets.Pid.{Pid}
use Rattle.script_types.specs.declared.scripts.Script.{Script}
use Rattle.script_text.specs.Faults.{Spells}
use Rattle.bandwidth.specs.declared.placements.Placed.{Placed}
use Rattle.bandwidth.specs.Placements.{first_in, is_classic}
use Rattle.drv_periodic_table.specs.Periodic.{dir_of}
use Rattle.drv_table.specs.DriverContent.{DriverContent}
use Rattle.tt_pipeline.specs.declared.entry.Entry.{Entry}
use Rattle.tt_pipeline.specs.declared.rows.AnswerRow.TheVariants.{Last, Result}
use Rattle.tt_pipeline.specs.Answers.{answer_row}
use Rattle.tt_pipeline.specs.Work.{nothing_brought}
use Rattle.multi_tt.specs.Translators.{Translator}
use Rattle.hub_class.specs.HubContent.{HubContent}
use Rattle.bus_world.specs.Budgets.{moment}
use Rattle.claims_world.specs.Answered.{IsHeardIn}
use Rattle.claims_world.specs.HubPlans.{time_in}
use Rattle.claims_world.specs.Pipelines.{port_at}
pub use Rattle.claims_world.specs.Results.{IsLastIn}
use Rattle.law_translator.specs.hub_plans.Laws.{IsPlacedRight}
use Rattle.law_microframes.specs.translators.Keeping.{IsOwned}

-- those of which the host asks for what the device sent
abbrev pub HasAnswer : EpKind → Dir → Type 0
HasAnswer kinds.Interrupt dir = Unit {0}
HasAnswer kinds.Iso dirs.In = Unit {0}
HasAnswer _ _ = ⊥

abbrev pub LastCompletesAreLate : Type 0
LastCompletesAreLate = (y : Placed) (u : ℕ) → IsPlacedRight y → is_classic y.want.speed ≡ true → HasAnswer y.want.kind y.want.dir
    → IsLastIn y.placement.cmask u → first_in y.placement.smask + (time_in y.want + 187) / 188 + 2 ≤ u

-- ---- along a run

pub record IsToldByLast (d : DriverContent) (index hub port : ℕ) (e : Entry) : Type 0 where
  pub owner : IsOwned d index hub port e.key
  pub result : (u : ℕ) → owner.desc.kind ≡ kinds.Interrupt → e.ask.kind ≡ kinds.Interrupt → e.heard.whole ≡ true
      → IsLastIn owner.placement.cmask u → u ≤ index % 8 → answer_row e ≡ Result
  pub worked : (u : ℕ) → owner.desc.kind ≡ kinds.Interrupt → IsLastIn owner.placement.cmask u → u ≤ index % 8
      → e.heard ≡ nothing_brought → ⊥
  pub last : (u : ℕ) (pid : Pid) (bytes : List ℕ) → owner.desc.kind ≡ kinds.Iso → dir_of owner.desc.name.way ≡ dirs.In
      → IsHeardIn e pid bytes → IsLastIn owner.placement.cmask u → u ≤ index % 8 → answer_row e ≡ Last

abbrev pub TextsTellByLast : Type 0
TextsTellByLast = (text : List ℕ) (s : Script) → Spells text s → (k i j : ℕ) (h : HubContent) (t : Translator)
    → slice_get (moment s k).world.bus.hubs i ≡ Some h → slice_get h.translators.all j ≡ Some t
    → AllByRecursion (IsToldByLast (moment s k).world.driver (moment s k).world.registers.frame_index h.address
    (port_at h.translators.multi j)) t.pipeline
