-- An unfinished transfer is what its queue head comes to (EHCI 1.0, 3.5, 3.6 and 4.10.2): where the overlay is done, the link that it
-- goes on by leads to an active qTD. So a queue head with work to do has work at each visit.
--     own_link t               the link that is followed once the qTD t is done: its alternate where bytes remain and it has one, else its
--                              next
--     qtd_block notes b i      the block of qTD number i of a transfer whose first qTD stands in block b
--     IsStoring d t            transfer t, the newest, is being stored: its first qTD isn't published yet, as its words are stored one at
--                              a time
--     IsUnfinished d m e       a transfer of endpoint e is stored and wasn't given back, a qTD of it is active, and each qTD of it before
--                              that one that is done leads to the one behind it: none of them ended short
--     GoesOnToWork m q         the overlay of the queue head q is active; or it goes on to a qTD that is, and isn't halted
--     ComesToWork w            so it is of each bulk and interrupt endpoint that goes on, whose queue head isn't halted, with such a
--                              transfer
--     ComesToWorkThroughout s  .. at each moment of the run of a script
--     CopiesComeToWork w       .. of a copy of such a queue head in the hand of either walk, before its transaction: it isn't passed for
--                              want of work, which is where its queue ends, or the qTD that comes next isn't active
--     CopiesComeToWorkThroughout s
--                              .. at each moment of the run of a script
--     KeepsToWork s            both
use Rattle.std.specs.Prelude.{◌≡◌, ℕ, zero, suc, ◌*◌, ◌<◌, ◌==◌, ◌&&◌, true, false, not, List, length, slice_get, Some, None, if◌then◌else◌}
use Rattle.script_types.specs.declared.scripts.Script.{Script}
use Rattle.word_mem.specs.Memory.{Mem}
use Rattle.link_words.specs.declared.fields.ShortLink.{ShortLink}
use Rattle.link_words.specs.declared.kinds.QtdLink.TheVariants as qtd_links
use Rattle.link_words.specs.Links.{qtd_link_of}
use Rattle.qh_qtd.specs.declared.qtd.Qtd.{Qtd}
use Rattle.qh_qtd.specs.declared.queue_head.Qh.{Qh}
use Rattle.mem_queues.specs.Structures.{queue_head_at_address, qtd_at_address}
use Rattle.hc_copy.specs.declared.held.Held.{Held}
use Rattle.hc_copy.specs.Visits.{next_pointer}
use Rattle.periodic_walk.specs.declared.state.HeldQueue.{HeldQueue}
use Rattle.periodic_walk.specs.declared.state.Hand.TheVariants as hands
use Rattle.hc_core.specs.declared.controller.MicroframePart.TheVariants.{Periodic}
use Rattle.drv_table.specs.declared.content.Command.TheVariants as unfinished
use Rattle.drv_table.specs.declared.content.Endpoint.{Endpoint}
use Rattle.drv_table.specs.declared.content.QtdNote.{QtdNote}
use Rattle.drv_table.specs.declared.content.Transfer.{Transfer}
use Rattle.drv_table.specs.DriverContent.{DriverContent}
use Rattle.drv_table.specs.Harvests.{note_at}
use Rattle.drv_table.specs.Kinds.{is_iso}
use Rattle.drv_table.specs.Words.{is_control}
use Rattle.claims_driver.specs.Owners.{is_descriptor}
use Rattle.bus_world.specs.Budgets.{moment}
use Rattle.bus_world.specs.World.{World}

abbrev pub own_link : Qtd → ShortLink
own_link t = if not (t.token.total == 0) && not t.alternate.t then t.alternate else t.next

abbrev pub qtd_block : List QtdNote → ℕ → ℕ → ℕ
qtd_block notes b zero = b
qtd_block notes b (suc i) = qtd_block notes (note_at notes b).next i

-- ---- a transfer with work to do

pub record IsStoring (d : DriverContent) (t : ℕ) : Type 0 where
  pub block : ℕ
  pub words : List ℕ
  pub command : d.command ≡ Some (unfinished.Publish block words)
  pub newest : suc t ≡ length d.transfers

pub record IsUnfinished (d : DriverContent) (m : Mem) (e : ℕ) : Type 0 where
  pub number : ℕ
  pub transfer : Transfer
  pub here : slice_get d.transfers number ≡ Some transfer
  pub endpoint : transfer.endpoint ≡ e
  pub sort : is_descriptor transfer.sort ≡ false
  pub held : transfer.released ≡ false
  pub stored : IsStoring d number → ⊥
  pub piece : ℕ
  pub below : piece < transfer.qtds
  pub qtd : Qtd
  pub read : qtd_at_address m (32 * qtd_block d.notes transfer.first piece) ≡ Some qtd
  pub active : qtd.token.active ≡ true
  pub whole : (i : ℕ) (t : Qtd) → i < piece → qtd_at_address m (32 * qtd_block d.notes transfer.first i) ≡ Some t → t.token.active ≡ false
      → qtd_link_of (own_link t) ≡ qtd_links.To (32 * qtd_block d.notes transfer.first (suc i))

-- ---- what comes next

pub data GoesOnToWork (m : Mem) (q : Qh) : Type 0 where
  works : q.token.active ≡ true → GoesOnToWork m q
  goes_on : (a : ℕ) (t : Qtd) → q.token.active ≡ false → qtd_link_of (next_pointer q) ≡ qtd_links.To a → qtd_at_address m a ≡ Some t
      → t.token.active ≡ true → t.token.halted ≡ false → GoesOnToWork m q

abbrev pub ComesToWork : World → Type 0
ComesToWork w = (e : ℕ) (x : Endpoint) (q : Qh) → slice_get w.driver.endpoints e ≡ Some x → is_iso x.desc.kind ≡ false
    → is_control x.desc.kind ≡ false → x.ended ≡ None → queue_head_at_address w.memory (32 * x.queue) ≡ Some q → q.token.halted ≡ false
    → IsUnfinished w.driver w.memory e → GoesOnToWork w.memory q

abbrev pub ComesToWorkThroughout : Script → Type 0
ComesToWorkThroughout s = (k : ℕ) → ComesToWork (moment s k).world

-- ---- a copy in hand

pub record CopiesComeToWork (w : World) : Type 0 where
  pub ring : (e : ℕ) (x : Endpoint) (h : Held) → slice_get w.driver.endpoints e ≡ Some x → is_iso x.desc.kind ≡ false
      → is_control x.desc.kind ≡ false → x.ended ≡ None → w.control.walk.held ≡ Some h → h.at ≡ 32 * x.queue → h.settled ≡ None
      → h.queue_head.token.halted ≡ false → IsUnfinished w.driver w.memory e → GoesOnToWork w.memory h.queue_head
  pub frames : (e : ℕ) (x : Endpoint) (h : HeldQueue) → slice_get w.driver.endpoints e ≡ Some x → is_iso x.desc.kind ≡ false
      → is_control x.desc.kind ≡ false → x.ended ≡ None → w.control.part ≡ Periodic → w.control.frame.hand ≡ Some (hands.Queue h)
      → h.copy.at ≡ 32 * x.queue → h.copy.settled ≡ None → h.copy.queue_head.token.halted ≡ false → IsUnfinished w.driver w.memory e
      → GoesOnToWork w.memory h.copy.queue_head

abbrev pub CopiesComeToWorkThroughout : Script → Type 0
CopiesComeToWorkThroughout s = (k : ℕ) → CopiesComeToWork (moment s k).world

pub record KeepsToWork (s : Script) : Type 0 where
  pub queues : ComesToWorkThroughout s
  pub copies : CopiesComeToWorkThroughout s
