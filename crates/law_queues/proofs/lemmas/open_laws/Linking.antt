-- The premises of the store of the head's link: the head leads where the new queue head leads.
use Rattle.std.proofs.Common.{◌≡◌, ◌≢◌, ℕ, suc, ◌+◌, ◌*◌, ◌/◌, Bool, true, false, cond, nat_lt, if◌then◌else◌, List, get_or, Some, None, ap, refl, sym, subst, ◌∙◌, arith}
use Rattle.std.specs.Result.{result_ok}
use Rattle.law_driver_ring.proofs.Common.{unless_is, head_link}
use Rattle.word_mem.specs.Memory.{Mem, word_at}
use Rattle.word_mem.specs.Views.{words_at}
use Rattle.word_mem.proofs.Words.{get_or-words_in}
use Rattle.link_words.specs.Fields.{link_at}
use Rattle.qh_qtd.specs.declared.queue_head.Qh.{Qh}
use Rattle.qh_qtd.specs.QueueHead.{qh_read, qh_at, qh_bad}
use Rattle.mem_queues.specs.Structures.{queue_head_at_address, reaches_queue_head}
use Rattle.mem_runs.specs.Book.{holding, slot_of, can_store}
use Rattle.drv_table.specs.declared.content.Endpoint.{Endpoint}
use Rattle.drv_table.specs.declared.content.Command.TheVariants as unfinished
use Rattle.drv_table.specs.declared.rows.DriverRow.{DriverRow}
use Rattle.drv_table.specs.DriverContent.{DriverContent}
use Rattle.drv_table.specs.Parts.{Parts as DriverParts}
use Rattle.drv_table.specs.Rows.{row_for, driver_row, after_driver_row}
use Rattle.drv_table.specs.Commands.{command_row, advanced_by}
use Rattle.drv_table.specs.Words.{head_block, to_queue_head, queue_head}
use Rattle.claims_driver.specs.Owners.{Head, runs_of_endpoint}
use Rattle.law_driver.proofs.lemmas.run_owners.Runs.{placed_run}
use Rattle.claims_driver.specs.Ring.{link_in}
use Rattle.law_driver.specs.ring_members.Words.{IsOpening, StandsFor}
use Rattle.law_driver.proofs.lemmas.ring_members.Placed.{can_begin}
use Rattle.async_walk.specs.Walk.{Walk}
use Rattle.async_walk.specs.Rows.{place}
use Rattle.law_structures.specs.lent_structures.Structures.{QueueHead, StructureSets, Tells}
use Rattle.law_structures.proofs.lemmas.lent_structures.Reading.{head_read}
use Rattle.law_ring.specs.Hand.{Hand}
use Rattle.claims_base.specs.Controller.{Base}
use Rattle.law_driver_ring.specs.Driven.{DrivesRing}
use Rattle.law_driver_ring.specs.Linked.{with_member, head_at, link_row}
use Rattle.law_driver_ring.proofs.Linking.{link_opens_drives}
use Rattle.law_ring.specs.Told.{Endpoint as Told}
use Rattle.law_queues.proofs.lemmas.open_laws.Newest.{queue_and_dummy, queue_here}
use Rattle.law_queues.specs.open_laws.Opens.{IsAtOpen, head_then, hand_then, next_of, OpenIsLinked}
use Rattle.law_driver.proofs.lemmas.chained_transfers.Staying.{linked_stands_alive}

-- ---- the link of a queue head by its word

read_is : (ws : List ℕ) (q : Qh) → result_ok (qh_read ws) ≡ Some q → qh_at ws ≡ q
unfolding qh_read
read_is ws q e = unless_is (qh_bad ws) (qh_at ws) q e

there_is : (b : Bool) (ws : List ℕ) (q : Qh) → cond b (result_ok (qh_read ws)) None ≡ Some q → qh_at ws ≡ q
there_is true ws q e = read_is ws q e
there_is false ws q e = absurd (cc)

link_in_words : (ws : List ℕ) → (qh_at ws).link ≡ link_at (get_or ws 0 0)
unfolding qh_at
link_in_words ws = refl

read_link : (m : Mem) (b : ℕ) (q : Qh) → queue_head_at_address m (32 * b) ≡ Some q → q.link ≡ link_at (word_at m (32 * b))
read_link m b q there =
    let same = there_is (reaches_queue_head m (32 * b)) (words_at m (32 * b) 12) q there in
    let at : (32 * b + 4 * 0) / 4 ≡ 32 * b / 4 = omega arith in
    ap (λ (z : Qh). z.link) (sym same) ∙ link_in_words (words_at m (32 * b) 12) ∙ ap link_at (get_or-words_in m.words (32 * b) 12 0 (omega arith) ∙ ap (λ i. get_or m.words i 0) at)

-- where both words are alike
same_links : (m : Mem) (parts : StructureSets) (b c : ℕ) (q r : Qh) → Tells m parts → parts (32 * b) (32 * b) ≡ Some (QueueHead q) → parts (32 * c) (32 * c) ≡ Some (QueueHead r) → link_in m b ≡ link_in m c → q.link ≡ r.link
same_links m parts b c q r tells one other same =
    read_link m b q (head_read m parts (32 * b) (32 * b) q tells one) ∙ ap link_at same ∙ sym (read_link m c r (head_read m parts (32 * c) (32 * c) r tells other))

-- ---- the words of the ring

pub words_same : (word : ℕ → ℕ) (xs : List Endpoint) (queue : ℕ) → IsOpening word xs queue → word head_block ≡ word queue
words_same word xs queue k = head_link word head_block k.older k.ring ∙ sym k.link

-- ---- the row

module _ (p : DriverParts) (member streams : ℕ → Bool) (ends : ℕ → Told) (parts : StructureSets) (order : ℕ → ℕ → ℕ) (out : ℕ → List ℕ) (k : IsAtOpen p.driver p.memory member streams ends parts order out) where
  abbrev d : DriverContent
  d = p.driver

  abbrev x : Endpoint
  x = k.lent.endpoint

  abbrev n : ℕ
  n = 32 * x.queue

  pub row_is : driver_row p ≡ link_row x.queue
  row_is = ap (row_for p) k.lent.command ∙ ap (command_row (unfinished.Open x.queue)) k.lent.made

  abbrev finished_by : ℕ → DriverContent
  finished_by i = if nat_lt (suc i) 2 then record d { made = suc i } else record d { command = None; made = 0 }

  pub driver_is : (next_of p).driver ≡ record d { command = None; made = 0 }
  driver_is = ap (λ (row : DriverRow). (after_driver_row row p).driver) row_is ∙ ap (advanced_by d) k.lent.command ∙ ap finished_by k.lent.made

  -- ---- its part

  abbrev q : Qh
  q = queue_head x.desc k.lent.link x.dummy

  pub differs : x.queue ≢ x.dummy
  differs =
      let stands = k.turns.asynchronous.endpoints k.lent.number x k.lent.here in
      queue_and_dummy d k.sound.owners k.lent.number x k.lent.here stands (linked_stands_alive x stands k.lent.fresh)

  pub here : parts n n ≡ Some (QueueHead q)
  here = queue_here x q (parts n) differs k.lent.part

  leads : Tells p.memory parts → k.queue.link ≡ to_queue_head k.lent.link
  leads tells =
      let opening : IsOpening (link_in p.memory) d.endpoints x.queue = subst (StandsFor (link_in p.memory) d.endpoints d.transfers) k.lent.command k.sound.ring.ring in
      same_links p.memory parts head_block x.queue k.queue q tells k.head here (words_same (link_in p.memory) d.endpoints x.queue opening)

  can : can_store (slot_of d.book.slots head_block) head_at ≡ true
  can = can_begin (holding d.book p.memory) head_block k.sound.stands (placed_run head_block Head k.sound.owners.owned.each.head)

  pub linked_by : (base : Base) (w : Walk) (hand : Hand) → DrivesRing base member parts hand (place w p.registers p.memory) d
      → DrivesRing base (with_member member n) (head_then parts k.queue x) (hand_then hand x) (place w (next_of p).registers (next_of p).memory) (next_of p).driver
  linked_by base w hand drives =
      subst (λ (row : DriverRow). DrivesRing base (with_member member n) (head_then parts k.queue x) (hand_then hand x) (place w (after_driver_row row p).registers (after_driver_row row p).memory) (after_driver_row row p).driver) (sym row_is)
      (link_opens_drives base member parts hand w p (runs_of_endpoint x) x.desc k.lent.link k.queue drives can k.stand.met.head k.head (leads drives.ring.tells) differs k.lent.part)

pub open_is_linked : OpenIsLinked
open_is_linked base w hand p member streams ends parts order out k drives = linked_by p member streams ends parts order out k base w hand drives
