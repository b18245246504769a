-- Whose the words are (EHCI 1.0, 3.3.2, 3.4.3, 3.5.3, 3.6.3, 4.7.1, 4.10 and 4.12.3), over the words of memory alone: of what the
-- controller can come to from where it stands these words are the controller's, and it writes no others; no one else writes these.
--     IsReceiving c b            byte b is still to come into a buffer: it is left in the buffer of an overlay that works, of an active
--                                qTD, of an active microframe of an iTD or of an active siTD, and the data come in
--     IsControllers c at         the word at the byte address `at` is the controller's: words 3 to 11 of a queue head that isn't halted,
--                                the token of an active qTD, the word of an active microframe of an iTD, words 3 to 5 of an active
--                                siTD, and those of such bytes
--     WritesItsOwn c new         each word that differs in this memory is one of these
--     LeavesControllers c new    .. and here no one is
--     is_controllers orders      the next event is one of the controller
--     KeepsToOwners b c new      by whose event it was
--     KeepsToOwnersThroughout s  so it is from each moment of the run of a script to the next, whose event it is
use Rattle.std.specs.Prelude.{◌≡◌, ◌≢◌, ℕ, suc, ◌+◌, ◌*◌, ◌/◌, ◌%◌, ◌<◌, ◌≤◌, Bool, true, false, List, [], ◌∷◌, Some}
use Rattle.script_types.specs.declared.scripts.Event.TheVariants as events
use Rattle.script_types.specs.declared.scripts.Script.{Script}
use Rattle.word_mem.specs.Memory.{Mem, word_at}
use Rattle.qh_qtd.specs.declared.qtd.Qtd.{Qtd}
use Rattle.qh_qtd.specs.declared.queue_head.Qh.{Qh}
use Rattle.itd_sitd.specs.declared.itd.Itd.{Itd}
use Rattle.itd_sitd.specs.declared.sitd.Sitd.{Sitd}
use Rattle.itd_sitd.specs.Itd.{slot_of}
use Rattle.mem_queues.specs.Structures.{queue_head_at_address, qtd_at_address}
use Rattle.mem_descriptors.specs.Descriptors.{itd_at_address, sitd_at_address, slot_address}
use Rattle.hc_core.specs.Controller.{Content}
use Rattle.bus_world.specs.Orders.{Left, Events, Microframes}
use Rattle.bus_world.specs.Budgets.{moment}
use Rattle.bus_world.specs.World.{controller_parts}
use Rattle.claims_world.specs.Reach.{Reaches, QueueAt, QtdAt, ItdAt, SitdAt, ByteAt}
use Rattle.claims_world.specs.Reach.{IsPartOfQueue, IsPartOfQtd, IsPartOfItd, IsPartOfSitd}

-- PID 1 is IN (3.5.3)
pub data IsReceiving (c : Content) (b : ℕ) : Type 0 where
  by_queue : (a : ℕ) (q : Qh) → Reaches c (QueueAt a) → queue_head_at_address c.memory a ≡ Some q → q.token.pid ≡ 1
      → IsPartOfQueue q (ByteAt b) → IsReceiving c b
  by_qtd : (a : ℕ) (d : Qtd) → Reaches c (QtdAt a) → qtd_at_address c.memory a ≡ Some d → d.token.pid ≡ 1
      → IsPartOfQtd d (ByteAt b) → IsReceiving c b
  by_itd : (a : ℕ) (v : Itd) → Reaches c (ItdAt a) → itd_at_address c.memory a ≡ Some v → v.dir_in ≡ true
      → IsPartOfItd v (ByteAt b) → IsReceiving c b
  by_sitd : (a : ℕ) (v : Sitd) → Reaches c (SitdAt a) → sitd_at_address c.memory a ≡ Some v → v.dir_in ≡ true
      → IsPartOfSitd v (ByteAt b) → IsReceiving c b

pub data IsControllers (c : Content) (at : ℕ) : Type 0 where
  of_overlay : (a : ℕ) (q : Qh) (i : ℕ) → Reaches c (QueueAt a) → queue_head_at_address c.memory a ≡ Some q → q.token.halted ≡ false
      → 3 ≤ i → i < 12 → at ≡ a + 4 * i → IsControllers c at
  of_token : (a : ℕ) (d : Qtd) → Reaches c (QtdAt a) → qtd_at_address c.memory a ≡ Some d → d.token.active ≡ true → at ≡ a + 8
      → IsControllers c at
  of_slot : (a : ℕ) (v : Itd) (u : ℕ) → Reaches c (ItdAt a) → itd_at_address c.memory a ≡ Some v → u < 8 → (slot_of u v).active ≡ true
      → at ≡ slot_address a u → IsControllers c at
  of_state : (a : ℕ) (v : Sitd) (i : ℕ) → Reaches c (SitdAt a) → sitd_at_address c.memory a ≡ Some v → v.active ≡ true
      → 3 ≤ i → i < 6 → at ≡ a + 4 * i → IsControllers c at
  of_byte : (b : ℕ) → IsReceiving c b → b / 4 ≡ at / 4 → IsControllers c at

-- ---- who writes

abbrev pub WritesItsOwn : Content → Mem → Type 0
WritesItsOwn c new = (at : ℕ) → at % 4 ≡ 0 → word_at new at ≢ word_at c.memory at → IsControllers c at

abbrev pub LeavesControllers : Content → Mem → Type 0
LeavesControllers c new = (at : ℕ) → at % 4 ≡ 0 → word_at new at ≢ word_at c.memory at → IsControllers c at → ⊥

-- ---- in a run

abbrev pub is_controllers : List Left → Bool
is_controllers [] = false
is_controllers (Events events.C (suc n) ∷ rest) = true
is_controllers (Microframes (suc n) ∷ rest) = true
is_controllers (_ ∷ rest) = false

abbrev pub KeepsToOwners : Bool → Content → Mem → Type 0
KeepsToOwners true c new = WritesItsOwn c new
KeepsToOwners false c new = LeavesControllers c new

abbrev pub KeepsToOwnersThroughout : Script → Type 0
KeepsToOwnersThroughout s = (k : ℕ)
    → KeepsToOwners (is_controllers (moment s k).orders) (controller_parts (moment s k).world) (moment s (suc k)).world.memory
