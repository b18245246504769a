-- The queue head of an interrupt endpoint has the masks of the endpoint's placement, and the length of its packets (EHCI 1.0, 3.6.2 and
-- 4.12.2.1).
use Rattle.std.proofs.Common.{◌≡◌, ℕ, ◌+◌, ◌*◌, Some, ◌∙◌}
use Rattle.word_mem.specs.Memory.{word_at}
use Rattle.qh_qtd.specs.declared.queue_head.Qh.{Qh}
use Rattle.bandwidth.specs.declared.placements.Placement.{Placement}
use Rattle.mem_queues.specs.Structures.{queue_head_at_address}
use Rattle.bus_world.specs.World.{World}
use Rattle.claims_world.specs.Coming.{IsInItsFrames}
use Rattle.law_world.specs.memory.Mixed.{IsMixedWorld}
use Rattle.law_microframes.specs.visits.Belonging.{HeadsHaveFields}
use Rattle.law_microframes.proofs.lemmas.visits.BelongReads.{HasReadFields, read_fields}
use Rattle.law_reports.proofs.lemmas.due_at_begin.Aside.{its_words}

pub record HasPlaced (p : Placement) (v : Qh) : Type 0 where
  pub smask : v.smask ≡ p.smask
  pub cmask : v.cmask ≡ p.cmask

abbrev pub MasksHold : World → Type 0
MasksHold w = (e q : ℕ) (p : Placement) → IsInItsFrames w.driver e q p → (v : Qh) → queue_head_at_address w.memory (32 * q) ≡ Some v
    → HasPlaced p v

abbrev pub PacketsHold : World → Type 0
PacketsHold w = (e q : ℕ) (p : Placement) (i : IsInItsFrames w.driver e q p) (v : Qh) → queue_head_at_address w.memory (32 * q) ≡ Some v
    → v.max ≡ i.endpoint.desc.max

pub packets_hold : (w : World) → IsMixedWorld w → HeadsHaveFields w.driver w.memory → PacketsHold w
packets_hold w k heads e q p i v is =
    (read_fields w.memory (32 * q) v is).longest ∙ (its_words w k heads e q p i).longest

pub masks_hold : (w : World) → IsMixedWorld w → HeadsHaveFields w.driver w.memory → MasksHold w
masks_hold w k heads e q p i v is =
    let read : HasReadFields (word_at w.memory (32 * q + 4)) (word_at w.memory (32 * q + 8)) v = read_fields w.memory (32 * q) v is in
    let fields = its_words w k heads e q p i in
    record { smask = read.smask ∙ fields.smask; cmask = read.cmask ∙ fields.cmask }
