-- What the controller can come to from where it stands, over the words of memory alone (EHCI 1.0, 2.3.6, 2.3.7, 3, 4.6, 4.8, 4.10, 4.12 and
-- 4.15.2.4): the least set that has the frame list, the head of the ring, what either walk is at, and what it holds a copy of, and that has with
-- each structure what its link leads to, and with each that works its parts. What each place of it lies in is Lent.
--     Reached                what can be reached, by its byte address
--     leads_to l             what a link leads to, by its type (3.1)
--     IsPartOfQueue q t      a part of what a queue head works on that isn't halted: where its overlay is active, the current qTD, those at next and
--                            at alternate, and each byte that is left; else the qTD that is taken next (3.6, 4.10.2)
--     IsPartOfQtd d t        a part of a qTD: where it is active, those at next and at alternate, and each byte (3.5)
--     IsPartOfItd v t        a part of an iTD: each byte of an active microframe (3.3)
--     IsPartOfSitd v t       a part of a siTD: where it is active, each byte that is left (3.4)
--     IsHeld c t l           a walk that is under way holds a copy of this structure, with this link
--     IsQueueHeadAt c a q    the queue head at a, as memory has it, or as a copy has it whose transaction wasn't made yet
--     Reaches c t            the least set
--     IsLentAt c t           the controller may touch all that this lies in; of a frame span traversal node nothing is lent
--     ReachesLentThroughout s  at each moment of the run of a script what is reached is so
use Rattle.std.specs.Prelude.{◌≡◌, ℕ, ◌+◌, ◌*◌, ◌<◌, Bool, true, false, List, [], ◌∷◌, Option, Some, None}
use Rattle.script_types.specs.declared.scripts.Script.{Script}
use Rattle.word_mem.specs.Memory.{Mem, reaches, word_at}
use Rattle.mem_bytes.specs.Bytes.{place}
use Rattle.link_words.specs.declared.kinds.Link.{Link}
use Rattle.link_words.specs.declared.kinds.Link.TheVariants as links
use Rattle.link_words.specs.declared.kinds.QtdLink.{QtdLink}
use Rattle.link_words.specs.declared.kinds.QtdLink.TheVariants as qtd_links
use Rattle.link_words.specs.Links.{link_of, link_read, qtd_link_of}
use Rattle.qh_qtd.specs.declared.qtd.Qtd.{Qtd}
use Rattle.qh_qtd.specs.declared.queue_head.Qh.{Qh}
use Rattle.itd_sitd.specs.declared.itd.Itd.{Itd}
use Rattle.itd_sitd.specs.declared.sitd.Sitd.{Sitd}
use Rattle.itd_sitd.specs.Itd.{slot_of}
use Rattle.mem_queues.specs.Structures.{reaches_queue_head, queue_head_at_address, qtd_at_address}
use Rattle.mem_descriptors.specs.Descriptors.{reaches_itd, itd_at_address, sitd_at_address}
use Rattle.hc_copy.specs.declared.held.Held.{Held}
use Rattle.hc_copy.specs.Visits.{next_pointer}
use Rattle.hc_copy.specs.Overlay.{pages_of, buffer_place}
use Rattle.hc_iso.specs.Sitd.{sitd_place}
use Rattle.hc_iso.specs.WriteBack.{itd_pages, slot_place, sitd_pages}
use Rattle.async_walk.specs.Rows.{cursor_link}
use Rattle.periodic_walk.specs.declared.state.Hand.{Hand}
use Rattle.periodic_walk.specs.declared.state.Hand.TheVariants as hands
use Rattle.periodic_walk.specs.declared.state.HeldQueue.{HeldQueue}
use Rattle.hc_core.specs.declared.controller.MicroframePart.TheVariants.{Periodic}
use Rattle.hc_core.specs.Controller.{Content}
use Rattle.bus_world.specs.Budgets.{moment}
use Rattle.bus_world.specs.World.{controller_parts}

pub data Reached : Type 0 where
  TheList : Reached  -- the frame list (2.3.6)
  QueueAt : ℕ → Reached
  QtdAt : ℕ → Reached
  ItdAt : ℕ → Reached
  SitdAt : ℕ → Reached
  FstnAt : ℕ → Reached  -- a frame span traversal node (3.7)
  ByteAt : ℕ → Reached

abbrev pub leads_to : Link → Option Reached
leads_to links.End = None
leads_to (links.Itd a) = Some (ItdAt a)
leads_to (links.Qh a) = Some (QueueAt a)
leads_to (links.Sitd a) = Some (SitdAt a)
leads_to (links.Fstn a) = Some (FstnAt a)

abbrev pub leads_to_qtd : QtdLink → Option Reached
leads_to_qtd qtd_links.End = None
leads_to_qtd (qtd_links.To a) = Some (QtdAt a)

-- ---- parts

pub data IsPartOfQueue (q : Qh) (t : Reached) : Type 0 where
  current : q.token.halted ≡ false → q.token.active ≡ true → t ≡ QtdAt q.current → IsPartOfQueue q t
  next : q.token.halted ≡ false → q.token.active ≡ true → leads_to_qtd (qtd_link_of q.next) ≡ Some t → IsPartOfQueue q t
  alternate : q.token.halted ≡ false → q.token.active ≡ true → leads_to_qtd (qtd_link_of q.alternate) ≡ Some t → IsPartOfQueue q t
  byte : q.token.halted ≡ false → q.token.active ≡ true → (i : ℕ) → i < q.token.total → t ≡ ByteAt (place (pages_of q) (buffer_place q + i))
      → IsPartOfQueue q t
  taken : q.token.halted ≡ false → q.token.active ≡ false → leads_to_qtd (qtd_link_of (next_pointer q)) ≡ Some t → IsPartOfQueue q t

abbrev pub qtd_pages : Qtd → List ℕ
qtd_pages d = d.page0 ∷ d.page1 ∷ d.page2 ∷ d.page3 ∷ d.page4 ∷ []

-- the place of its first byte, counted from the start of its first page
abbrev pub qtd_place : Qtd → ℕ
qtd_place d = d.token.c_page * 4096 + d.offset

pub data IsPartOfQtd (d : Qtd) (t : Reached) : Type 0 where
  next : d.token.active ≡ true → leads_to_qtd (qtd_link_of d.next) ≡ Some t → IsPartOfQtd d t
  alternate : d.token.active ≡ true → leads_to_qtd (qtd_link_of d.alternate) ≡ Some t → IsPartOfQtd d t
  byte : d.token.active ≡ true → (i : ℕ) → i < d.token.total → t ≡ ByteAt (place (qtd_pages d) (qtd_place d + i)) → IsPartOfQtd d t

pub data IsPartOfItd (v : Itd) (t : Reached) : Type 0 where
  byte : (u : ℕ) → u < 8 → (slot_of u v).active ≡ true → (i : ℕ) → i < (slot_of u v).length
      → t ≡ ByteAt (place (itd_pages v) (slot_place (slot_of u v) + i)) → IsPartOfItd v t

pub data IsPartOfSitd (v : Sitd) (t : Reached) : Type 0 where
  byte : v.active ≡ true → (i : ℕ) → i < v.total → t ≡ ByteAt (place (sitd_pages v) (sitd_place v + i)) → IsPartOfSitd v t

-- ---- copies in hand: the walk of the frames is under way in the periodic part of a microframe alone

abbrev pub held_at : Hand → Reached
held_at (hands.Queue h) = QueueAt h.copy.at
held_at (hands.Itd h) = ItdAt h.at
held_at (hands.Sitd h) = SitdAt h.at

abbrev pub held_link : Hand → Link
held_link (hands.Queue h) = link_of h.copy.queue_head.link
held_link (hands.Itd h) = link_of h.itd.link
held_link (hands.Sitd h) = link_of h.sitd.link

pub data IsHeld (c : Content) (t : Reached) (l : Link) : Type 0 where
  of_ring : (h : Held) → c.control.walk.held ≡ Some h → t ≡ QueueAt h.at → l ≡ link_of h.queue_head.link → IsHeld c t l
  of_frame : (h : Hand) → c.control.part ≡ Periodic → c.control.frame.hand ≡ Some h → t ≡ held_at h → l ≡ held_link h → IsHeld c t l

pub data IsQueueHeadAt (c : Content) (a : ℕ) (q : Qh) : Type 0 where
  in_memory : queue_head_at_address c.memory a ≡ Some q → IsQueueHeadAt c a q
  in_ring : (h : Held) → c.control.walk.held ≡ Some h → h.settled ≡ None → a ≡ h.at → q ≡ h.queue_head → IsQueueHeadAt c a q
  in_frame : (h : HeldQueue) → c.control.part ≡ Periodic → c.control.frame.hand ≡ Some (hands.Queue h) → h.copy.settled ≡ None
      → a ≡ h.copy.at → q ≡ h.copy.queue_head → IsQueueHeadAt c a q

-- ---- the least set

abbrev pub element_at : Content → ℕ → Link
element_at c f = link_read (word_at c.memory (c.registers.periodic_list_base + 4 * f))

pub data Reaches (c : Content) : Reached → Type 0 where
  list : Reaches c TheList
  head : Reaches c (QueueAt c.registers.async_list_address)
  element : (f : ℕ) (t : Reached) → f < 1024 → leads_to (element_at c f) ≡ Some t → Reaches c t
  frame_cursor : (t : Reached) → c.control.part ≡ Periodic → leads_to c.control.frame.cursor ≡ Some t → Reaches c t
  ring_cursor : (t : Reached) → leads_to (cursor_link c.registers c.control.walk.cursor) ≡ Some t → Reaches c t
  held : (t : Reached) (l : Link) → IsHeld c t l → Reaches c t
  behind_held : (s t : Reached) (l : Link) → IsHeld c s l → leads_to l ≡ Some t → Reaches c t
  behind_queue : (a : ℕ) (q : Qh) (t : Reached) → Reaches c (QueueAt a) → queue_head_at_address c.memory a ≡ Some q
      → leads_to (link_of q.link) ≡ Some t → Reaches c t
  behind_itd : (a : ℕ) (v : Itd) (t : Reached) → Reaches c (ItdAt a) → itd_at_address c.memory a ≡ Some v
      → leads_to (link_of v.link) ≡ Some t → Reaches c t
  behind_sitd : (a : ℕ) (v : Sitd) (t : Reached) → Reaches c (SitdAt a) → sitd_at_address c.memory a ≡ Some v
      → leads_to (link_of v.link) ≡ Some t → Reaches c t
  of_queue : (a : ℕ) (q : Qh) (t : Reached) → Reaches c (QueueAt a) → IsQueueHeadAt c a q → IsPartOfQueue q t → Reaches c t
  of_qtd : (a : ℕ) (d : Qtd) (t : Reached) → Reaches c (QtdAt a) → qtd_at_address c.memory a ≡ Some d → IsPartOfQtd d t → Reaches c t
  of_itd : (a : ℕ) (v : Itd) (t : Reached) → Reaches c (ItdAt a) → itd_at_address c.memory a ≡ Some v → IsPartOfItd v t → Reaches c t
  of_sitd : (a : ℕ) (v : Sitd) (t : Reached) → Reaches c (SitdAt a) → sitd_at_address c.memory a ≡ Some v → IsPartOfSitd v t → Reaches c t

-- ---- what it lies in is Lent

abbrev pub IsLentAt : Content → Reached → Type 0
IsLentAt c TheList = (f : ℕ) → f < 1024 → reaches c.memory (c.registers.periodic_list_base + 4 * f) ≡ true
IsLentAt c (QueueAt a) = reaches_queue_head c.memory a ≡ true
IsLentAt c (QtdAt a) = reaches c.memory a ≡ true
IsLentAt c (ItdAt a) = reaches_itd c.memory a ≡ true
IsLentAt c (SitdAt a) = reaches c.memory a ≡ true
IsLentAt c (FstnAt a) = ⊥
IsLentAt c (ByteAt a) = reaches c.memory a ≡ true

abbrev pub ReachesLentThroughout : Script → Type 0
ReachesLentThroughout s = (k : ℕ) (t : Reached) → Reaches (controller_parts (moment s k).world) t
    → IsLentAt (controller_parts (moment s k).world) t
