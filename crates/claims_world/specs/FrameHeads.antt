-- At each moment of a script's run words 1 and 2 of the queue head of each interrupt endpoint that wasn't given back are those of the
-- endpoint's description and of its placement, masks, hub and port too, and the placement is one of those that the endpoint may have: none
-- has an S-mask of 0 (EHCI 1.0, 3.6.2, 4.7 and 4.12.2.1; USB 2.0, 11.18).
--     characteristics_in x     word 1 of the queue head of an interrupt endpoint so described, wherever it leads
--     capabilities_in x p      word 2, at this placement
--     FrameHeadsAreFixed m d   so these words are in memory
--     AreAllowed d             each placement of the plan is one that its endpoint may have
--     FrameHeadsStand m d      both
use Rattle.std.specs.Prelude.{◌≡◌, ℕ, false, slice_get, slice_index, Some}
use Rattle.std.specs.List.{AllByRecursion}
use Rattle.usb_base.specs.declared.endpoints.EpDesc.{EpDesc}
use Rattle.word_mem.specs.Memory.{Mem}
use Rattle.bandwidth.specs.declared.placements.Placed.{Placed}
use Rattle.bandwidth.specs.declared.placements.Placement.{Placement}
use Rattle.bandwidth.specs.Placements.{allowed}
use Rattle.qh_qtd.specs.QueueHead.{qh_words}
use Rattle.drv_table.specs.declared.content.Endpoint.{Endpoint}
use Rattle.drv_table.specs.DriverContent.{DriverContent}
use Rattle.drv_table.specs.Kinds.{is_iso}
use Rattle.drv_table.specs.Words.{interrupt_head}
use Rattle.claims_driver.specs.InPlace.{IsFixed}

abbrev pub characteristics_in : EpDesc → ℕ
characteristics_in x = slice_index (qh_words (interrupt_head x 0 0 0 0)) 1

abbrev pub capabilities_in : EpDesc → Placement → ℕ
capabilities_in x p = slice_index (qh_words (interrupt_head x p.smask p.cmask 0 0)) 2

abbrev pub FrameHeadsAreFixed : Mem → DriverContent → Type 0
FrameHeadsAreFixed m d =
    (e : ℕ) (x : Endpoint) (p : Placement) → slice_get d.endpoints e ≡ Some x → is_iso x.desc.kind ≡ false → x.gone ≡ false
    → x.placement ≡ Some p → IsFixed m x.queue (characteristics_in x.desc) (capabilities_in x.desc p)

pub record IsAllowed (y : Placed) : Type 0 where
  pub place : ℕ
  pub at : slice_get (allowed y.want) place ≡ Some y.placement

abbrev pub AreAllowed : DriverContent → Type 0
AreAllowed d = AllByRecursion IsAllowed d.periodic.plan.placed

pub record FrameHeadsStand (m : Mem) (d : DriverContent) : Type 0 where
  pub fixed : FrameHeadsAreFixed m d
  pub allowed : AreAllowed d
