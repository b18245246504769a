-- Stores of the driver over a ring that it drives.
use Rattle.std.proofs.Common.{◌≡◌, ℕ, ◌+◌, ◌*◌, ◌<◌, Bool, true, false, set, if◌then◌else◌, Some, ap, refl, sym, subst}
use Rattle.word_mem.specs.Memory.{Mem, with_word}
use Rattle.op_registers.specs.RegisterFile.{RegisterFile}
use Rattle.link_words.specs.declared.fields.LinkBits.{LinkBits}
use Rattle.link_words.specs.Layout.{word_of}
use Rattle.link_words.specs.Fields.{link_rows}
use Rattle.qh_qtd.specs.declared.qtd.Qtd.{Qtd}
use Rattle.qh_qtd.specs.declared.queue_head.Qh.{Qh}
use Rattle.qh_qtd.specs.Qtd.{qtd_words, IsQtdInRange}
use Rattle.qh_qtd.specs.QueueHead.{qh_words, IsQhInRange}
use Rattle.async_walk.specs.Walk.{Walk}
use Rattle.async_walk.specs.Rows.{place}
use Rattle.mem_runs.specs.Book.{Book, slot_of, can_store, store}
use Rattle.drv_table.specs.DriverContent.{DriverContent}
use Rattle.claims_driver.specs.Owners.{views_of}
use Rattle.law_structures.specs.lent_structures.Structures.{QueueHead, Element, StructureSets, put}
use Rattle.law_structures.specs.lent_structures.Sound.{LeadsAmong, IsSoundElement, IsSoundQueue, IsMember}
use Rattle.law_ring.specs.Hand.{Hand}
use Rattle.claims_base.specs.Controller.{Base}
use Rattle.law_ring.specs.Ring.{IsRing}
use Rattle.law_ring.specs.Stores.{IsUnnamed, hand_linked, hand_stale, IsWider}
use Rattle.law_ring.proofs.Driving.{element_store_leaves_ring, link_store_leaves_ring, mending_leaves_ring}
use Rattle.law_driver_ring.specs.Inventory.{sorts_of, IsDriven}
use Rattle.law_driver_ring.specs.Driven.{DrivesRing}
use Rattle.law_driver_ring.proofs.Sorts.{same_put, driven_same}
use Rattle.law_driver_ring.proofs.Viewing.{SameViews, driven_views}

-- a store into one of its runs is made
pub store_made : (k : Book) (m : Mem) (b at v : ℕ) → can_store (slot_of k.slots b) at ≡ true → store k m b at v ≡ with_word m at v
store_made k m b at v can = ap (λ (x : Bool). if x then with_word m at v else m) can

-- another content with the same views, and a structure put in the place of one of its kind
put_driven : (parts : StructureSets) (n a : ℕ) (d e : DriverContent) (now : StructureSets) → SameViews (views_of d) (views_of e) → ((k b : ℕ) → sorts_of now k b ≡ sorts_of parts k b) → IsDriven (views_of d) (sorts_of parts) → IsDriven (views_of e) (sorts_of now)
put_driven parts n a d e now views sorts k = driven_views (views_of d) (views_of e) (sorts_of now) views (driven_same (views_of d) parts now sorts k)

pub element_store_drives : (base : Base) (member : ℕ → Bool) (parts : StructureSets) (hand : Hand) (w : Walk) (r : RegisterFile) (m : Mem) (d e : DriverContent) (b n a : ℕ) (t new : Qtd) (k v : ℕ) → DrivesRing base member parts hand (place w r m) d → SameViews (views_of d) (views_of e) → can_store (slot_of d.book.slots b) (a + 4 * k) ≡ true
    → parts n a ≡ Some (Element t) → t.token.active ≡ false → k < 8 → qtd_words new ≡ set (qtd_words t) k v → IsQtdInRange new → (member n ≡ true → IsSoundElement (parts n) new × IsUnnamed (parts n) a new)
    → DrivesRing base member (put parts n a (Element new)) hand (place w r (store d.book m b (a + 4 * k) v)) e
element_store_drives base member parts hand w r m d e b n a t new k v drives views can at off below is range sound = record {
  ring = subst (λ (x : Mem). IsRing base member (put parts n a (Element new)) hand (place w r x)) (sym (store_made d.book m b (a + 4 * k) v can))
      (element_store_leaves_ring base member parts hand (place w r m) n a t new k v drives.ring at off below is range sound);
  driven = put_driven parts n a d e (put parts n a (Element new)) views (same_put parts n a (Element t) (Element new) at refl) drives.driven;
}

pub link_store_drives : (base : Base) (member wider : ℕ → Bool) (parts : StructureSets) (hand : Hand) (w : Walk) (r : RegisterFile) (m : Mem) (d e : DriverContent) (b n : ℕ) (q : Qh) (l : LinkBits) → DrivesRing base member parts hand (place w r m) d → SameViews (views_of d) (views_of e) → can_store (slot_of d.book.slots b) n ≡ true
    → IsWider member wider → parts n n ≡ Some (QueueHead q) → IsQhInRange (record q { link = l }) → (wider n ≡ true → LeadsAmong wider l) → ((i : ℕ) → wider i ≡ true → member i ≡ false → IsMember wider i (parts i))
    → DrivesRing base wider (put parts n n (QueueHead (record q { link = l }))) (hand_linked n l hand) (place w r (store d.book m b n (word_of link_rows l))) e
link_store_drives base member wider parts hand w r m d e b n q l drives views can more at range link comes = record {
  ring = subst (λ (x : Mem). IsRing base wider (put parts n n (QueueHead (record q { link = l }))) (hand_linked n l hand) (place w r x)) (sym (store_made d.book m b n (word_of link_rows l) can))
      (link_store_leaves_ring base member wider parts hand (place w r m) n q l drives.ring more at range link comes);
  driven = put_driven parts n n d e (put parts n n (QueueHead (record q { link = l }))) views (same_put parts n n (QueueHead q) (QueueHead (record q { link = l })) at refl) drives.driven;
}

pub mend_drives : (base : Base) (member : ℕ → Bool) (parts : StructureSets) (hand : Hand) (w : Walk) (r : RegisterFile) (m : Mem) (d e : DriverContent) (b n : ℕ) (q new : Qh) (k v : ℕ) → DrivesRing base member parts hand (place w r m) d → SameViews (views_of d) (views_of e) → can_store (slot_of d.book.slots b) (n + 4 * k) ≡ true
    → parts n n ≡ Some (QueueHead q) → q.token.halted ≡ true → k < 12 → qh_words new ≡ set (qh_words q) k v → IsQhInRange new → (member n ≡ true → LeadsAmong member new.link × IsSoundQueue (parts n) new)
    → DrivesRing base member (put parts n n (QueueHead new)) (hand_stale n hand) (place w r (store d.book m b (n + 4 * k) v)) e
mend_drives base member parts hand w r m d e b n q new k v drives views can at halted below is range sound = record {
  ring = subst (λ (x : Mem). IsRing base member (put parts n n (QueueHead new)) (hand_stale n hand) (place w r x)) (sym (store_made d.book m b (n + 4 * k) v can))
      (mending_leaves_ring base member parts hand (place w r m) n q new k v drives.ring at halted below is range sound);
  driven = put_driven parts n n d e (put parts n n (QueueHead new)) views (same_put parts n n (QueueHead q) (QueueHead new) at refl) drives.driven;
}
