-- Where a queue head stands is no further than its tail.
use Rattle.std.proofs.Common.{◌≡◌, ◌≢◌, ℕ, ◌*◌, ◌≤◌, Bool, true, false, List, Some, ap, refl, ◌∙◌, ⊎_elim, arith}
use Rattle.link_words.specs.declared.kinds.QtdLink.{QtdLink}
use Rattle.link_words.specs.declared.kinds.QtdLink.TheVariants as qtd_links
use Rattle.link_words.specs.Links.{qtd_link_of}
use Rattle.qh_qtd.specs.declared.queue_head.Qh.{Qh}
use Rattle.hc_copy.specs.Visits.{next_pointer}
use Rattle.drv_table.specs.declared.content.Endpoint.{Endpoint}
use Rattle.drv_table.specs.DriverContent.{DriverContent}
use Rattle.drv_table.specs.Words.{head_block}
use Rattle.law_structures.specs.lent_structures.Structures.{QueueHead, Structures}
use Rattle.law_driver.specs.queued_drivers.Queued.{queued}
use Rattle.law_driver_ring.specs.fed_queues.Places.{HasHead}
use Rattle.law_queues.specs.standing_fronts.Reaching.{Reaches}
use Rattle.law_world.specs.memory.Mixed.{Standing, IsMixedAt}
use Rattle.bus_world.specs.World.{World}
use Rattle.law_reports.specs.queues.Onward.{place_at, place_of}
use Rattle.law_reports.proofs.lemmas.queues.Passing.{place_works, place_rests, place_leads}

pub place_most : (d : DriverContent) (part : Structures) (order : ℕ → ℕ) (out : List ℕ) (e : ℕ) (x : Endpoint) (c : ℕ)
    → Reaches d part order out e x c → (q : Qh) → part (32 * x.queue) ≡ Some (QueueHead q) → q.token.halted ≡ false
    → place_of order q ≤ order c
place_most d part order out e x c r q here off = by q.token.active refl
  where
    by_link : q.token.active ≡ false → (l : QtdLink) → qtd_link_of (next_pointer q) ≡ l → place_of order q ≤ order c
    by_link idle qtd_links.End is = let place = place_rests order q idle ∙ ap (place_at order) is in omega (arith, place)
    by_link idle (qtd_links.To b) is =
        let place = place_leads order q b idle is in
        let most = r.tail.rest q b here off idle is in
        omega (arith, place, most)

    by : (b : Bool) → q.token.active ≡ b → place_of order q ≤ order c
    by true on =
        let place = place_works order q on in
        let front = (r.stands.has.queue q here).work on in
        let most = r.tail.most in
        omega (arith, place, front, most)
    by false idle = by_link idle (qtd_link_of (next_pointer q)) refl

-- a queue head that is met, but that of the ring's head, is an endpoint's
pub head_of : (s : Standing) (w : World) → IsMixedAt s w → (n : ℕ) → s.near n ≡ true → n ≢ 32 * head_block → HasHead (queued w.driver) n
head_of s w mixed n on other =
    ⊎_elim (λ (head : n ≡ 32 * head_block). absurd (other head)) (λ (h : HasHead (queued w.driver) n). h)
    (mixed.queues.queues.met.only n on)
