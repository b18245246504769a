-- The word of a slot that is active stays so while no event of the controller is at its iTD (EHCI 1.0, 3.3.2, 4.4, 4.6 and 4.7.1).
use Rattle.std.proofs.Common.{◌≡◌, ◌≢◌, ℕ, suc, ◌+◌, ◌*◌, ◌%◌, ◌<◌, true, false, List, get_or, Option, Some, None, ap, refl, sym, ◌∙◌}
use Rattle.std.proofs.Common.{⊎_elim, arith}
use Rattle.std.proofs.lemmas.Bool.{cases_eq}
use Rattle.std.proofs.lemmas.Option.{same_Some}
use Rattle.law_common.proofs.Options.{none_some}
use Rattle.word_mem.specs.Memory.{Mem, word_at}
use Rattle.word_mem.proofs.Words.{get_or-words_in}
use Rattle.link_words.specs.declared.kinds.Link.{Link}
use Rattle.link_words.specs.declared.kinds.Link.TheVariants as links
use Rattle.qh_qtd.specs.declared.queue_head.Qh.{Qh}
use Rattle.itd_sitd.specs.declared.itd.Itd.{Itd}
use Rattle.itd_sitd.specs.declared.sitd.Sitd.{Sitd}
use Rattle.itd_sitd.specs.declared.slot.ItdSlot.{ItdSlot}
use Rattle.itd_sitd.specs.Slot.{slot_at}
use Rattle.itd_sitd.specs.Itd.{slot_of, itd_words}
use Rattle.itd_sitd.proofs.ItdLaws.{itd_read-words, itd_read-slot}
use Rattle.mem_queues.specs.Structures.{queue_head_at_address}
use Rattle.mem_descriptors.specs.Descriptors.{itd_at_address, sitd_at_address}
use Rattle.periodic_walk.specs.declared.chain.ChainRow.TheVariants as chains
use Rattle.periodic_walk.specs.Chain.{chain_row, queue_fetch, itd_fetch, sitd_fetch}
use Rattle.periodic_walk.specs.Walk.{held_address}
use Rattle.hc_core.specs.declared.controller.ControllerRow.TheVariants as rows
use Rattle.bus_wire.specs.Bus.{Fixed}
use Rattle.bus_world.specs.World.{World, controller_parts, controller_row, controller_next}
use Rattle.claims_base.specs.Controller.{opening_base}
use Rattle.claims_world.specs.Owners.{IsControllers, of_slot, LeavesControllers}
use Rattle.claims_world.specs.Reach.{Reaches, ItdAt}
use Rattle.claims_world.specs.Visits.{fetched_by}
use Rattle.law_structures.specs.lent_structures.Structures.{Isochronous, HoldsIsochronous}
use Rattle.law_structures.proofs.lemmas.lent_structures.Reading.{itd_read_there}
use Rattle.law_frames.specs.Met.{Kind, AQueue, AnItd, ASitd, IsMetItd, LeadsTo}
use Rattle.law_controller.specs.frame_control.Both.{RunsBoth}
use Rattle.law_descriptors.specs.Both.{both}
use Rattle.law_descriptors.specs.Meeting.{met}
use Rattle.law_world.specs.memory.Mixed.{IsMixedWorld}
use Rattle.law_microframes.specs.visits.OneDescriptor.{IsActiveSome}
use Rattle.law_microframes.proofs.lemmas.visits.OneDescriptorMet.{met_is_active}
use Rattle.law_reports.proofs.lemmas.due_at_begin.Reached.{descriptor_met}
use Rattle.law_reports.proofs.lemmas.due_at_begin.Elsewhere.{walk, holds_then}

-- the word of microframe u of the iTD at n is active
abbrev pub IsActiveThere : Mem → ℕ → ℕ → Type 0
IsActiveThere m n u = (slot_at (word_at m (n + (4 + 4 * u)))).active ≡ true

-- .. as the iTD tells it
pub slot_there : (m : Mem) (n u : ℕ) (v : Itd) → HoldsIsochronous m n v → u < 8 → slot_at (word_at m (n + (4 + 4 * u))) ≡ slot_of u v
slot_there m n u v h few =
    let at : n + (4 + 4 * u) ≡ n + 4 * suc u = omega arith in
    ap (λ (i : ℕ). slot_at (word_at m i)) at
    ∙ ap slot_at (sym (get_or-words_in m.words n 16 (suc u) (omega (arith, few))))
    ∙ ap (λ (ws : List ℕ). slot_at (get_or ws (suc u) 0)) h.words
    ∙ sym (itd_read-slot (itd_words v) v u (itd_read-words v h.range) few)

-- ---- an iTD to which the controller can come

module _ (w : World) (k : IsMixedWorld w) (n : ℕ) (way : Reaches (controller_parts w) (ItdAt n)) where
  runs : RunsBoth opening_base k.standing.member (met w.driver k.standing.recent) (both k.standing.descs k.standing.parts)
      k.standing.hand k.standing.frame (controller_parts w)
  runs = k.mixed.now.framed.runs

  pub its_part : IsMetItd (met w.driver k.standing.recent) n (both k.standing.descs k.standing.parts n)
  its_part = runs.members n AnItd (descriptor_met w k n false way)

  pub its_words : HoldsIsochronous w.memory n its_part.itd
  its_words = runs.ring.tells.each n n (Isochronous its_part.itd) its_part.here

  pub its_read : itd_at_address w.memory n ≡ Some its_part.itd
  its_read = itd_read_there w.memory (both k.standing.descs k.standing.parts) n n its_part.itd runs.ring.tells its_part.here

  pub active_read : (u : ℕ) (v : Itd) → u < 8 → itd_at_address w.memory n ≡ Some v → (slot_of u v).active ≡ true
      → IsActiveThere w.memory n u
  active_read u v few read on =
      let one : its_part.itd ≡ v = same_Some its_part.itd v (sym its_read ∙ read) in
      ap (λ (x : ItdSlot). x.active) (slot_there w.memory n u its_part.itd its_words few)
      ∙ ap (λ (x : Itd). (slot_of u x).active) one ∙ on

  pub active_there : (u : ℕ) → u < 8 → IsActiveThere w.memory n u → (slot_of u its_part.itd).active ≡ true
  active_there u few on = ap (λ (x : ItdSlot). x.active) (sym (slot_there w.memory n u its_part.itd its_words few)) ∙ on

  -- ---- an event of the driver, or a command

  pub aside_active : (later : Mem) → LeavesControllers (controller_parts w) later → (u : ℕ) → u < 8 → IsActiveThere w.memory n u
      → IsActiveThere later n u
  aside_active later leaves u few on =
      let aligned = its_words.aligned in
      let low : (n + (4 + 4 * u)) % 4 ≡ 0 = omega (arith, aligned) in
      let its : IsControllers (controller_parts w) (n + (4 + 4 * u)) =
      of_slot n its_part.itd u way its_read few (active_there u few on) refl in
      let same : word_at later (n + (4 + 4 * u)) ≡ word_at w.memory (n + (4 + 4 * u)) =
      ⊎_elim (λ (is : word_at later (n + (4 + 4 * u)) ≡ word_at w.memory (n + (4 + 4 * u))). is)
      (λ (differs : word_at later (n + (4 + 4 * u)) ≢ word_at w.memory (n + (4 + 4 * u))).
      absurd (leaves (n + (4 + 4 * u)) low differs its))
      (cases_eq (word_at later (n + (4 + 4 * u))) (word_at w.memory (n + (4 + 4 * u)))) in
      ap (λ (x : ℕ). (slot_at x).active) same ∙ on

  pub active_some : (u : ℕ) → u < 8 → IsActiveThere w.memory n u → IsActiveSome w.driver w.memory n
  active_some u few on = met_is_active k.standing w n u its_part.itd k.mixed its_part.here few (active_there u few on)

-- ---- what the walk fetches there

pub itd_at : (a : ℕ) (o : Option Itd) (n : ℕ) → fetched_by (itd_fetch a o) ≡ Some n → a ≡ n
itd_at a None n is = absurd (none_some n is)
itd_at a (Some v) n is = same_Some a n is

pub queue_at : (a : ℕ) (o : Option Qh) (n : ℕ) → fetched_by (queue_fetch a o) ≡ Some n → a ≡ n
queue_at a None n is = absurd (none_some n is)
queue_at a (Some v) n is = same_Some a n is

pub sitd_at : (a : ℕ) (o : Option Sitd) (n : ℕ) → fetched_by (sitd_fetch a o) ≡ Some n → a ≡ n
sitd_at a None n is = absurd (none_some n is)
sitd_at a (Some v) n is = same_Some a n is

other_queue : ◌≡◌ {A = Option Kind} (Some AnItd) (Some AQueue) → ⊥
other_queue is = cc

other_sitd : ◌≡◌ {A = Option Kind} (Some AnItd) (Some ASitd) → ⊥
other_sitd is = cc

pub fetched_itd_there : (m : Mem) (met_as : ℕ → Option Kind) (l : Link) (n : ℕ) (v : Itd) → LeadsTo met_as l → met_as n ≡ Some AnItd
    → itd_at_address m n ≡ Some v → fetched_by (chain_row m l) ≡ Some n → chain_row m l ≡ chains.Itd n v
fetched_itd_there m met_as links.End n v leads on read is = absurd (none_some n is)
fetched_itd_there m met_as (links.Itd a) n v leads on read is =
    ap (λ (i : ℕ). itd_fetch i (itd_at_address m i)) (itd_at a (itd_at_address m a) n is) ∙ ap (itd_fetch n) read
fetched_itd_there m met_as (links.Qh a) n v leads on read is =
    absurd (other_queue (sym on ∙ ap met_as (sym (queue_at a (queue_head_at_address m a) n is)) ∙ leads))
fetched_itd_there m met_as (links.Sitd a) n v leads on read is =
    absurd (other_sitd (sym on ∙ ap met_as (sym (sitd_at a (sitd_at_address m a) n is)) ∙ leads))
fetched_itd_there m met_as (links.Fstn a) n v leads on read is = absurd (none_some n is)

-- ---- an event of the walk of the frames

module _ (fixed : Fixed) (w : World) (k : IsMixedWorld w) (row : controller_row w ≡ rows.Frame) (n : ℕ)
    (way : Reaches (controller_parts w) (ItdAt n)) where
  pub fetched_there : fetched_by (chain_row w.memory w.control.frame.cursor) ≡ Some n
      → chain_row w.memory w.control.frame.cursor ≡ chains.Itd n (its_part w k n way).itd
  fetched_there is =
      fetched_itd_there w.memory (met w.driver k.standing.recent) w.control.frame.cursor n (its_part w k n way).itd
      (walk fixed w k row n).cursor (descriptor_met w k n false way) (its_read w k n way) is

  pub walked_active : ((a : ℕ) → held_address w.control.frame.hand ≡ Some a → n ≢ a) → (u : ℕ) → u < 8 → IsActiveThere w.memory n u
      → IsActiveThere (controller_next fixed w).memory n u
  walked_active apart u few on =
      let p = its_part w k n way in
      ap (λ (x : ItdSlot). x.active) (slot_there (controller_next fixed w).memory n u p.itd
      (holds_then fixed w k row n apart (Isochronous p.itd) p.here) few)
      ∙ active_there w k n way u few on
