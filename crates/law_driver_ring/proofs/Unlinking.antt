-- A queue head is unlinked, and the doorbell answered.
use Rattle.std.proofs.Common.{◌≡◌, ℕ, ◌*◌, Bool, true, Some, ap, sym, subst, ◌∙◌}
use Rattle.std.proofs.lemmas.Bool.{true≢false}
use Rattle.law_driver_ring.proofs.Common.{led_on}
use Rattle.link_words.specs.declared.fields.LinkBits.{LinkBits}
use Rattle.qh_qtd.specs.declared.queue_head.Qh.{Qh}
use Rattle.async_walk.specs.Rows.{WalkPlace, place}
use Rattle.mem_runs.specs.Book.{store}
use Rattle.drv_table.specs.DriverContent.{DriverContent}
use Rattle.drv_table.specs.Words.{to_queue_head}
use Rattle.drv_table.specs.Commands.{advance}
use Rattle.law_structures.specs.lent_structures.Structures.{QueueHead, StructureSets, put}
use Rattle.law_structures.specs.lent_structures.Sound.{LeadsAmong}
use Rattle.law_structures.proofs.lemmas.lent_structures.Altering.{found_queue}
use Rattle.law_ring.specs.Hand.{Hand}
use Rattle.claims_base.specs.Controller.{Base}
use Rattle.law_ring.specs.Stores.{hand_linked}
use Rattle.law_ring.proofs.Answering.{answer_leaves_ring}
use Rattle.law_driver_ring.specs.Driven.{DrivesRing}
use Rattle.law_driver_ring.proofs.Storing.{link_store_drives}
use Rattle.law_driver_ring.proofs.Viewing.{advance_views}
use Rattle.law_driver_ring.proofs.Linking.{link_is, link_range}
use Rattle.law_driver_ring.specs.Leaving.{UnlinkDrives, AnswerDrives}

-- a member leads to where the fields of its link say
member_leads : (base : Base) (member : ℕ → Bool) (parts : StructureSets) (hand : Hand) (p : WalkPlace) (d : DriverContent) (n : ℕ) (q : Qh) (l : LinkBits) → DrivesRing base member parts hand p d → member n ≡ true → parts n n ≡ Some (QueueHead q) → q.link ≡ l → LeadsAmong member l
member_leads base member parts hand p d n q l k on here is =
    let m = k.ring.members n on in
    let same : m.queue ≡ q = found_queue (parts n n) m.queue q m.here here in
    subst (LeadsAmong member) (ap (λ (u : Qh). u.link) same ∙ is) m.link

pub unlink_drives : UnlinkDrives
unlink_drives base member parts hand w p b queue after q z k can on here leads there further =
    let n = 32 * b in
    let l = to_queue_head after in
    let now = place w p.registers p.memory in
    let first = member_leads base member parts hand now p.driver n q (to_queue_head queue) k on here leads in
    let second = member_leads base member parts hand now p.driver (32 * queue) z l k (led_on member queue first) there further in
    subst (λ (v : ℕ). DrivesRing base member (put parts n n (QueueHead (record q { link = l }))) (hand_linked n l hand) (place w p.registers (store p.driver.book p.memory b n v)) (advance p.driver)) (link_is after)
    (link_store_drives base member member parts hand w p.registers p.memory p.driver (advance p.driver) b n q l k (advance_views p.driver) can (λ i is. is) here
    (link_range q after (k.ring.tells.each n n (QueueHead q) here).range) (λ own. second) (λ i new off. absurd (true≢false (sym new ∙ off))))

pub answer_drives : AnswerDrives
answer_drives base member narrow parts hand p d k at fewer closed start heads = record {
  ring = answer_leaves_ring base member narrow parts hand p k.ring at fewer closed start heads;
  driven = k.driven;
}
