-- What leaves the words outside Lent blocks, and the first three of each queue head that is told, writes elsewhere.
use Rattle.std.proofs.Common.{◌≡◌, ℕ, ◌+◌, ◌*◌, ◌/◌, ◌<◌, get_or, slice_get, Option, Some, option_map, ap, refl, sym, subst, ◌∙◌, arith}
use Rattle.law_common.proofs.Booleans.{none_late}
use Rattle.word_mem.specs.Memory.{Mem, word_at, is_lent}
use Rattle.word_mem.specs.Runs.{Run}
use Rattle.word_mem.specs.declared.blocks.BlockState.TheVariants.{Free}
use Rattle.mem_runs.specs.declared.slots.Slot.{Slot}
use Rattle.mem_runs.specs.declared.slots.Slot.TheVariants as slots
use Rattle.mem_runs.specs.Book.{holding, slot_of}
use Rattle.mem_runs.proofs.Standing.{keeps_at, keeps_all}
use Rattle.qh_qtd.specs.declared.queue_head.Qh.{Qh}
use Rattle.drv_table.specs.declared.content.Endpoint.{Endpoint}
use Rattle.drv_table.specs.DriverContent.{DriverContent}
use Rattle.drv_table.specs.Words.{head_block}
use Rattle.drv_table.specs.Kinds.{is_iso}
use Rattle.claims_driver.specs.Owners.{QueueHead as QueueHeadOf, HasBlocks, runs_of_endpoint, IsPlaced, views_of, IsQueueIn}
use Rattle.law_driver.specs.queue_head_words.Overlay.{HasQueueHead, of_ring, of_endpoint}
use Rattle.law_structures.specs.lent_structures.Structures.{Structure, QueueHead, StructureSets}
use Rattle.law_controller.specs.controller_writes.Leaving.{LeavesRest}
use Rattle.law_driver_ring.specs.Inventory.{OfQueueHead, sort_of, sorts_of, IsLent, IsDriven}
use Rattle.law_driver.specs.in_place.InPlace.{IsInPlace}
use Rattle.law_driver.specs.in_place.Run.{IsElsewhere}

-- ---- a structure of that kind is a queue head

pub record IsHead (o : Option Structure) : Type 0 where
  pub queue : Qh
  pub here : o ≡ Some (QueueHead queue)

head_of : (o : Option Structure) → option_map sort_of o ≡ Some OfQueueHead → IsHead o
head_of (Some (QueueHead q)) is = record { queue = q; here = refl }
head_of _ is = absurd cc

-- ---- its words

told_kept : (parts : StructureSets) (m new : Mem) (b i : ℕ) → LeavesRest parts m new → sorts_of parts (32 * b) (32 * b) ≡ Some OfQueueHead → i < 3 → word_at new (32 * b + 4 * i) ≡ word_at m (32 * b + 4 * i)
told_kept parts m new b i leaves told below =
    let h : IsHead (parts (32 * b) (32 * b)) = head_of (parts (32 * b) (32 * b)) told in
    leaves.heads (32 * b) (32 * b) h.queue i h.here below

-- those of a run that isn't lent yet
kept_kept : (parts : StructureSets) (m new : Mem) (d : DriverContent) (b i : ℕ) (r : Run) → LeavesRest parts m new → IsInPlace m d → slot_of d.book.slots b ≡ slots.Keeps r → i < 3 → word_at new (32 * b + 4 * i) ≡ word_at m (32 * b + 4 * i)
kept_kept parts m new d b i r leaves place is below =
    let stands = place.sound.stands in
    let at = keeps_at (holding d.book m) b r stands is in
    let first = at.0 in
    let some = at.1 in
    let block : (32 * b + 4 * i) / 32 ≡ b = omega (arith, below) in
    let kept = keeps_all (holding d.book m) b r stands is b (omega (arith, first)) (omega (arith, first, some)) in
    leaves.lent.words (32 * b + 4 * i) (ap (λ (k : ℕ). is_lent (slice_get m.states k)) block ∙ ap is_lent kept)

endpoint_kept : (parts : StructureSets) (m new : Mem) (d : DriverContent) (e : ℕ) (x : Endpoint) (i : ℕ) (s : Slot) → LeavesRest parts m new → IsInPlace m d → IsDriven (views_of d) (sorts_of parts)
    → IsQueueIn (views_of d) e (runs_of_endpoint x) → slot_of d.book.slots x.queue ≡ s → i < 3 → word_at new (32 * x.queue + 4 * i) ≡ word_at m (32 * x.queue + 4 * i)
endpoint_kept parts m new d e x i slots.Empty leaves place driven is slot below =
    let p : IsPlaced (slot_of d.book.slots) place.sound.owners.owner x.queue (QueueHeadOf e) = place.sound.owners.owned.each.queue e (runs_of_endpoint x) is.here is.queued in
    absurd (no_run x.queue slot p.run)
  where
    no_run : (b : ℕ) → slot_of d.book.slots b ≡ slots.Empty → HasBlocks 2 (slot_of d.book.slots b) → ⊥
    no_run b none run = subst (HasBlocks 2) none run
endpoint_kept parts m new d e x i (slots.Keeps r) leaves place driven is slot below = kept_kept parts m new d x.queue i r leaves place slot below
endpoint_kept parts m new d e x i (slots.Lends r) leaves place driven is slot below =
    told_kept parts m new x.queue i leaves (driven.queue e (runs_of_endpoint x) is (subst IsLent (sym slot) tt)) below

head_kept : (parts : StructureSets) (m new : Mem) (d : DriverContent) (b i : ℕ) → LeavesRest parts m new → IsInPlace m d → IsDriven (views_of d) (sorts_of parts) → HasQueueHead d b → i < 3 → word_at new (32 * b + 4 * i) ≡ word_at m (32 * b + 4 * i)
head_kept parts m new d b i leaves place driven (of_ring is) below =
    subst (λ (k : ℕ). word_at new (32 * k + 4 * i) ≡ word_at m (32 * k + 4 * i)) (sym is) (told_kept parts m new head_block i leaves driven.head below)
head_kept parts m new d b i leaves place driven (of_endpoint e x here queued alive is) below =
    subst (λ (k : ℕ). word_at new (32 * k + 4 * i) ≡ word_at m (32 * k + 4 * i)) is
    (endpoint_kept parts m new d e x i (slot_of d.book.slots x.queue) leaves place driven
    (record { here = ap (option_map runs_of_endpoint) here; queued = none_late (is_iso x.desc.kind) x.gone queued alive }) refl below)

-- ---- elsewhere

free_kept : (parts : StructureSets) (m new : Mem) (b i : ℕ) → LeavesRest parts m new → slice_get m.states b ≡ Some Free → i < 8 → get_or new.words (8 * b + i) 0 ≡ get_or m.words (8 * b + i) 0
free_kept parts m new b i leaves free below =
    let block : 4 * (8 * b + i) / 32 ≡ b = omega (arith, below) in
    let word : 8 * b + i ≡ 4 * (8 * b + i) / 4 = omega arith in
    ap (λ (k : ℕ). get_or new.words k 0) word
    ∙ leaves.lent.words (4 * (8 * b + i)) (ap (λ (k : ℕ). is_lent (slice_get m.states k)) block ∙ ap is_lent free)
    ∙ sym (ap (λ (k : ℕ). get_or m.words k 0) word)

pub leaves_elsewhere : (parts : StructureSets) (m new : Mem) (d : DriverContent) → LeavesRest parts m new → IsInPlace m d → IsDriven (views_of d) (sorts_of parts) → IsElsewhere d m new
leaves_elsewhere parts m new d leaves place driven = record {
  states = leaves.lent.states;
  size = leaves.lent.size;
  free = λ b i free below. free_kept parts m new b i leaves free below;
  heads = λ b i there below. head_kept parts m new d b i leaves place driven there below;
}
