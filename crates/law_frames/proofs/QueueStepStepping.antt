-- Each event with a queue head in hand.
use Rattle.std.proofs.Common.{◌≡◌, ℕ, nat_lt, Bool, true, false, if◌then◌else◌, List, Option, Some, refl, sym, subst}
use Rattle.usb_base.specs.declared.packets.Ask.{Ask}
use Rattle.usb_base.specs.declared.packets.Reply.{Reply}
use Rattle.word_mem.specs.Memory.{Mem}
use Rattle.link_words.specs.declared.kinds.QtdLink.{QtdLink}
use Rattle.link_words.specs.declared.kinds.QtdLink.TheVariants as qtd_links
use Rattle.link_words.specs.Links.{qtd_link_of}
use Rattle.qh_qtd.specs.declared.qtd.Qtd.{Qtd}
use Rattle.hc_copy.specs.Visits.{next_pointer}
use Rattle.hc_interrupt.specs.declared.turns.Turn.{Turn}
use Rattle.hc_interrupt.specs.declared.turns.Turn.TheVariants as turns
use Rattle.hc_interrupt.specs.Turns.{turn_of, planned}
use Rattle.periodic_walk.specs.declared.queue.QueueRow.{QueueRow}
use Rattle.periodic_walk.specs.declared.queue.QueueRow.TheVariants as rows
use Rattle.periodic_walk.specs.declared.state.Hand.{Hand}
use Rattle.periodic_walk.specs.Place.{FramePlace, reading, HasEffect}
use Rattle.periodic_walk.specs.Queue.{taken_row, take_row, turn_row, take_read, turn_read}
use Rattle.periodic_walk.specs.Rows.{step_at, step_of, effect_at, Leads}
use Rattle.law_structures.specs.lent_structures.Structures.{Element, StructureSets}
use Rattle.law_structures.proofs.lemmas.lent_structures.Reading.{element_read, element_not_refused}
use Rattle.law_structures.specs.lent_structures.Sound.{LeadsOn, IsSoundQueue}
use Rattle.law_ring.specs.Hand.{Copy, copied_queue}
use Rattle.law_ring.specs.Effects.{AreBytesHeard}
use Rattle.law_frames.specs.Met.{Kind}
use Rattle.law_frames.specs.FrameHand.{OfQueue}
use Rattle.law_frames.specs.Frame.{IsFrame}
use Rattle.law_frames.specs.FrameEffects.{FrameHappens}
use Rattle.law_frames.proofs.Taking.{sound_there}
use Rattle.law_frames.proofs.Framing.{visit_there}
use Rattle.law_frames.proofs.QueueStepTurning.{TurnOf, rests, works, goes_on, misses, turn_found}
use Rattle.law_frames.proofs.Visiting.{RowHappens, skip_happens, take_happens, transact_happens}
use Rattle.law_frames.proofs.WritingBack.{miss_happens}

module _ {W : Type 0} (transacts : W → Ask → List ℕ → Reply → W → Type 0) (met : ℕ → Option Kind) (parts : StructureSets) (wire after : W) (p new : FramePlace) (c : Copy) (made : ℕ) where
  abbrev By : QueueRow → FramePlace → Type 0
  By r q = RowHappens transacts met parts wire after p new c made r q

  same_memory : (r : QueueRow) (m : Mem) → m ≡ p.memory → By r p → By r (reading m p)
  same_memory r m same by = subst (λ (x : Mem). By r (reading x p)) (sym same) by

  -- the qTD that comes next is active, or not
  taken_by : (a : ℕ) (t : Qtd) (b : Bool) → t.token.active ≡ b → IsFrame met parts (OfQueue c made) p → c.queue.token.halted ≡ false → c.queue.token.active ≡ false → qtd_link_of (next_pointer c.queue) ≡ qtd_links.To a → parts c.at a ≡ Some (Element t) → By (if b then rows.Advance a t else rows.Skip) p
  taken_by a t true on k off idle leads here = take_happens transacts met parts wire after p new c made k off idle a t leads here on
  taken_by a t false on k off idle leads here = skip_happens transacts met parts wire after p new c made k

  take_by : (l : QtdLink) → qtd_link_of (next_pointer c.queue) ≡ l → LeadsOn (parts c.at) l → IsFrame met parts (OfQueue c made) p → c.queue.token.halted ≡ false → c.queue.token.active ≡ false → By (take_row p.memory l) (reading (take_read p.memory l) p)
  take_by qtd_links.End leads on k off idle = skip_happens transacts met parts wire after p new c made k
  take_by (qtd_links.To a) leads on k off idle =
      subst (λ (o : Option Qtd). By (taken_row a o) (reading (take_read p.memory (qtd_links.To a)) p)) (sym (element_read p.memory parts c.at a on.qtd k.tells on.here))
      (same_memory (taken_row a (Some on.qtd)) (take_read p.memory (qtd_links.To a)) (element_not_refused p.memory parts c.at a on.qtd k.tells on.here)
      (taken_by a on.qtd on.qtd.token.active refl k off idle leads on.here))

  work_by : (b : Bool) → IsFrame met parts (OfQueue c made) p → AreBytesHeard transacts wire after → c.queue.token.active ≡ true → turn_of p.walk.index (copied_queue c) ≡ turns.Work → By (if b then rows.Skip else rows.Transact (planned (copied_queue c))) p
  work_by true k heard on turn = skip_happens transacts met parts wire after p new c made k
  work_by false k heard on turn = transact_happens transacts met parts wire after p new c made k heard on turn

  turn_by : (turn : Turn) → TurnOf (copied_queue c) turn → IsFrame met parts (OfQueue c made) p → AreBytesHeard transacts wire after → turn_of p.walk.index (copied_queue c) ≡ turn → By (turn_row p.memory p.walk.left (copied_queue c) turn) (reading (turn_read p.memory turn) p)
  turn_by _ rests k heard is = skip_happens transacts met parts wire after p new c made k
  turn_by _ (works on) k heard is = work_by (nat_lt p.walk.left (planned (copied_queue c)).price.0) k heard on is
  turn_by _ misses k heard is = miss_happens transacts met parts wire after p new c made k is
  turn_by _ (goes_on off idle) k heard is =
      let sound : IsSoundQueue (parts c.at) c.queue = sound_there met p.memory parts c (visit_there met parts (OfQueue c made) p c k k.walk.in_hand) in
      take_by (qtd_link_of (next_pointer (copied_queue c))) refl (sound.rest off idle) k off idle

  pub copied_event : IsFrame met parts (OfQueue c made) p → AreBytesHeard transacts wire after → Leads transacts p wire new after → FrameHappens transacts met parts (OfQueue c made) wire after p new (step_of p)
  copied_event k heard =
      subst (λ (o : Option Hand). HasEffect transacts (effect_at p o) wire new after → FrameHappens transacts met parts (OfQueue c made) wire after p new (step_at p o)) (sym k.walk.held)
      (turn_by (turn_of p.walk.index (copied_queue c)) (turn_found p.walk.index (copied_queue c)) k heard refl)
