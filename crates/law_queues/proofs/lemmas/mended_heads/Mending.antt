-- A queue head after the next of its three stores, and the ring beside it.
use Rattle.std.proofs.Common.{◌≡◌, ℕ, zero, suc, ◌*◌, ◌<◌, ◌≤◌, Bool, true, false, Some, ap, refl, sym, subst, ◌∙◌, arith}
use Rattle.std.proofs.lemmas.Bool.{true≢false}
use Rattle.law_queues.proofs.Common.{one_target}
use Rattle.word_mem.specs.Memory.{Mem}
use Rattle.link_words.specs.declared.kinds.QtdLink.TheVariants as qtd_links
use Rattle.link_words.specs.Links.{no_qtd, qtd_link_of}
use Rattle.qh_qtd.specs.declared.queue_head.Qh.{Qh}
use Rattle.qh_qtd.specs.QueueHead.{IsQhInRange}
use Rattle.op_registers.specs.RegisterFile.{RegisterFile}
use Rattle.hc_copy.specs.Visits.{next_pointer}
use Rattle.async_walk.specs.Walk.{Walk}
use Rattle.async_walk.specs.Rows.{place}
use Rattle.mem_runs.specs.Book.{slot_of, can_store, store}
use Rattle.drv_table.specs.DriverContent.{DriverContent}
use Rattle.drv_table.specs.Words.{to_qtd}
use Rattle.claims_driver.specs.Owners.{views_of}
use Rattle.law_structures.specs.lent_structures.Structures.{QueueHead, Structures, StructureSets, put}
use Rattle.law_structures.specs.lent_structures.Sound.{IsElement, LeadsOn, LeadsAmong, IsSoundQueue}
use Rattle.law_structures.proofs.lemmas.lent_structures.Altering.{found_queue}
use Rattle.law_ring.specs.Hand.{Hand}
use Rattle.claims_base.specs.Controller.{Base}
use Rattle.law_ring.specs.Stores.{hand_stale}
use Rattle.law_ring.specs.Told.{endpoint_of}
use Rattle.law_ring.specs.Front.{IsFront}
use Rattle.law_driver_ring.specs.Driven.{DrivesRing}
use Rattle.law_driver_ring.proofs.Storing.{mend_drives}
use Rattle.law_driver_ring.proofs.Viewing.{same_views}
use Rattle.law_queues.specs.mended_heads.Owed.{store_by}
use Rattle.law_queues.specs.mended_heads.Mended.{mended_by, driver_mended}
use Rattle.law_queues.proofs.lemmas.mended_heads.Words.{next_words, alternate_words, token_words, next_range, alternate_range, token_range}

-- ---- what it keeps

pub keeps_link : (b made : ℕ) (q : Qh) → (mended_by b made q).link ≡ q.link
keeps_link b (suc zero) q = refl
keeps_link b _ q = refl

pub keeps_endpoint : (b made : ℕ) (q : Qh) → endpoint_of (mended_by b made q) ≡ endpoint_of q
keeps_endpoint b (suc zero) q = refl
keeps_endpoint b _ q = refl

-- before the last store it is halted still
pub keeps_halted : (b made : ℕ) (q : Qh) → suc made < 3 → q.token.halted ≡ true → (mended_by b made q).token.halted ≡ true
keeps_halted b (suc (suc n)) q below halted = absurd (omega (arith, below))
keeps_halted b _ q below halted = halted

pub stores_next : (b made : ℕ) (q : Qh) → (1 ≤ made → q.next ≡ to_qtd b) → (mended_by b made q).next ≡ to_qtd b
stores_next b zero q next = refl
stores_next b (suc zero) q next = next (omega arith)
stores_next b (suc (suc n)) q next = next (omega arith)

pub stores_alternate : (b made : ℕ) (q : Qh) → 1 ≤ made → (2 ≤ made → q.alternate ≡ no_qtd) → (mended_by b made q).alternate ≡ no_qtd
stores_alternate b zero q some alternate = absurd (omega (arith, some))
stores_alternate b (suc zero) q some alternate = refl
stores_alternate b (suc (suc n)) q some alternate = alternate (omega arith)

-- ---- where it leads

-- once its token is stored, it leads to the block where its queue goes on
pub last_leads : (b n : ℕ) (q : Qh) → q.next ≡ to_qtd b → qtd_link_of (next_pointer (mended_by b (suc (suc n)) q)) ≡ qtd_links.To (32 * b)
last_leads b n q next = ap qtd_link_of next

pub idle_leads : (b made : ℕ) (q : Qh) → q.token.halted ≡ true → (1 ≤ made → q.next ≡ to_qtd b) → (mended_by b made q).token.halted ≡ false
    → qtd_link_of (next_pointer (mended_by b made q)) ≡ qtd_links.To (32 * b)
idle_leads b (suc (suc n)) q halted next off = last_leads b n q (next (omega arith))
idle_leads b _ q halted next off = absurd (true≢false (sym halted ∙ off))

pub idle_goes : (b made c : ℕ) (q : Qh) → q.token.halted ≡ true → (1 ≤ made → q.next ≡ to_qtd b) → (mended_by b made q).token.halted ≡ false
    → qtd_link_of (next_pointer (mended_by b made q)) ≡ qtd_links.To c → c ≡ 32 * b
idle_goes b made c q halted next off to = one_target c (32 * b) (sym to ∙ idle_leads b made q halted next off)

pub is_active : (b made : ℕ) (q : Qh) → (mended_by b made q).token.active ≡ true → (q.token.active ≡ true) × ((mended_by b made q).current ≡ q.current)
is_active b (suc (suc n)) q on = absurd (true≢false (sym on))
is_active b _ q on = (on, refl)

-- it works on none
pub halted_idle : (part : Structures) (q : Qh) → IsSoundQueue part q → q.token.halted ≡ true → q.token.active ≡ true → ⊥
halted_idle part q sound halted on = true≢false (sym halted ∙ (sound.work on).goes_on)

pub still_sound : (part : Structures) (b made : ℕ) (q : Qh) → q.token.halted ≡ true → (1 ≤ made → q.next ≡ to_qtd b) → IsElement part (32 * b) → IsSoundQueue part q → IsSoundQueue part (mended_by b made q)
still_sound part b made q halted next onward sound = record {
  rest = λ off idle. subst (LeadsOn part) (sym (idle_leads b made q halted next off)) onward;
  work = λ on. absurd (halted_idle part q sound halted (is_active b made q on).0);
}

-- ---- fronts

pub still_front : (order : ℕ → ℕ) (front b made : ℕ) (q : Qh) → q.token.halted ≡ true → (1 ≤ made → q.next ≡ to_qtd b) → front ≤ order (32 * b) → IsFront order front q → IsFront order front (mended_by b made q)
still_front order front b made q halted next from f = record {
  work = λ on. let a = is_active b made q on in ap order a.1 ∙ f.work a.0;
  rest = λ c off idle to. subst (λ (i : ℕ). front ≤ order i) (sym (idle_goes b made c q halted next off to)) from;
}

-- ---- the ring

member_sound : (base : Base) (member : ℕ → Bool) (parts : StructureSets) (hand : Hand) (w : Walk) (r : RegisterFile) (m : Mem) (d : DriverContent) (n b made : ℕ) (q : Qh) → DrivesRing base member parts hand (place w r m) d
    → parts n n ≡ Some (QueueHead q) → q.token.halted ≡ true → (1 ≤ made → q.next ≡ to_qtd b) → IsElement (parts n) (32 * b) → member n ≡ true
    → LeadsAmong member (mended_by b made q).link × IsSoundQueue (parts n) (mended_by b made q)
member_sound base member parts hand w r m d n b made q drives here halted next onward on =
    let own = drives.ring.members n on in
    let is : own.queue ≡ q = found_queue (parts n n) own.queue q own.here here in (
      subst (LeadsAmong member) (ap (λ (z : Qh). z.link) is ∙ sym (keeps_link b made q)) own.link,
      still_sound (parts n) b made q halted next onward (subst (IsSoundQueue (parts n)) is own.sound),
    )

pub drives_by : (base : Base) (member : ℕ → Bool) (parts : StructureSets) (hand : Hand) (w : Walk) (r : RegisterFile) (m : Mem) (d : DriverContent) (queue b made : ℕ) (q : Qh) → made < 3
    → DrivesRing base member parts hand (place w r m) d → can_store (slot_of d.book.slots queue) (store_by queue b made).at ≡ true
    → parts (32 * queue) (32 * queue) ≡ Some (QueueHead q) → q.token.halted ≡ true → (1 ≤ made → q.next ≡ to_qtd b) → IsElement (parts (32 * queue)) (32 * b)
    → DrivesRing base member (put parts (32 * queue) (32 * queue) (QueueHead (mended_by b made q))) (hand_stale (32 * queue) hand)
    (place w r (store d.book m (store_by queue b made).queue (store_by queue b made).at (store_by queue b made).value)) (driver_mended d)
drives_by base member parts hand w r m d queue b zero q below drives can here halted next onward =
    let range : IsQhInRange q = (drives.ring.tells.each (32 * queue) (32 * queue) (QueueHead q) here).range in
    mend_drives base member parts hand w r m d (driver_mended d) queue (32 * queue) q (mended_by b zero q) 4 (32 * b) drives (same_views (views_of d)) can here halted (omega arith) (next_words q b) (next_range q b range)
    (λ on. member_sound base member parts hand w r m d (32 * queue) b zero q drives here halted next onward on)
drives_by base member parts hand w r m d queue b (suc zero) q below drives can here halted next onward =
    let range : IsQhInRange q = (drives.ring.tells.each (32 * queue) (32 * queue) (QueueHead q) here).range in
    mend_drives base member parts hand w r m d (driver_mended d) queue (32 * queue) q (mended_by b (suc zero) q) 5 1 drives (same_views (views_of d)) can here halted (omega arith) (alternate_words q) (alternate_range q range)
    (λ on. member_sound base member parts hand w r m d (32 * queue) b (suc zero) q drives here halted next onward on)
drives_by base member parts hand w r m d queue b (suc (suc zero)) q below drives can here halted next onward =
    let range : IsQhInRange q = (drives.ring.tells.each (32 * queue) (32 * queue) (QueueHead q) here).range in
    mend_drives base member parts hand w r m d (driver_mended d) queue (32 * queue) q (mended_by b (suc (suc zero)) q) 6 0 drives (same_views (views_of d)) can here halted (omega arith) (token_words q) (token_range q range)
    (λ on. member_sound base member parts hand w r m d (32 * queue) b (suc (suc zero)) q drives here halted next onward on)
drives_by base member parts hand w r m d queue b (suc (suc (suc n))) q below drives can here halted next onward = absurd (omega (arith, below))
