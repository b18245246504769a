-- The front of a new endpoint's queue, and those of the others, which stay.
use Rattle.std.proofs.Common.{◌≡◌, ◌≢◌, ℕ, ◌*◌, true, List, [], slice_get, Option, Some, ap, refl, sym, subst, ◌∙◌, arith}
use Rattle.std.proofs.lemmas.Bool.{true≢false}
use Rattle.link_words.specs.Links.{qtd_link_of}
use Rattle.link_words.specs.declared.kinds.QtdLink.TheVariants as qtd_links
use Rattle.qh_qtd.specs.declared.qtd.Qtd.{Qtd}
use Rattle.qh_qtd.specs.declared.queue_head.Qh.{Qh}
use Rattle.hc_copy.specs.Visits.{next_pointer}
use Rattle.mem_runs.specs.Book.{Book}
use Rattle.drv_table.specs.declared.content.Command.{Command}
use Rattle.drv_table.specs.declared.content.Endpoint.{Endpoint}
use Rattle.drv_table.specs.declared.content.Transfer.{Transfer}
use Rattle.drv_table.specs.DriverContent.{DriverContent}
use Rattle.drv_table.specs.Words.{dummy_qtd}
use Rattle.law_structures.specs.lent_structures.Structures.{QueueHead, Element, Structures}
use Rattle.law_structures.proofs.lemmas.lent_structures.Altering.{found_queue, found_element}
use Rattle.law_ring.specs.Front.{LinksRise}
use Rattle.law_ring.specs.Order.{IsAmong}
use Rattle.law_queues.specs.released_queues.Fronts.{StandsAt}
use Rattle.law_queues.specs.standing_fronts.Reaching.{Reaches}
use Rattle.law_queues.specs.open_laws.Queues.{IsNewPart}

-- ---- the others

abbrev pub stands_beside : (d : DriverContent) (book : Book) (command : Option Command) (made : ℕ) (part : Structures) (order : ℕ → ℕ) (out : List ℕ) (e : ℕ) (x : Endpoint) → StandsAt d part order out e x → StandsAt (record d { book = book; command = command; made = made }) part order out e x
stands_beside d book command made part order out e x s = record { front = s.front; has = s.has; ended = s.ended; passed = s.passed }

-- ---- the new one

-- its only qTD is the inactive one
pub new_qtd : (x : Endpoint) (part : Structures) → IsNewPart x part → (a : ℕ) (t : Qtd) → part a ≡ Some (Element t) → t ≡ dummy_qtd
new_qtd x part k a t found = found_element (part (32 * x.dummy)) t dummy_qtd (ap part (sym (k.only a t found)) ∙ found) k.dummy

new_off : (x : Endpoint) (part : Structures) → IsNewPart x part → (a : ℕ) (t : Qtd) → part a ≡ Some (Element t) → t.token.active ≡ true → ⊥
new_off x part k a t found on = true≢false (sym on ∙ ap (λ (u : Qtd). u.token.active) (new_qtd x part k a t found))

-- it leads nowhere
pub new_rises : (order : ℕ → ℕ) (x : Endpoint) (part : Structures) → IsNewPart x part → LinksRise order part
new_rises order x part k = record {
  next = λ a t b is to. absurd (never b (sym (ap (λ (z : Qtd). qtd_link_of z.next) (new_qtd x part k a t is)) ∙ to));
  alternate = λ a t b is to. absurd (never b (sym (ap (λ (z : Qtd). qtd_link_of z.alternate) (new_qtd x part k a t is)) ∙ to));
}
  where
    never : (b : ℕ) → qtd_links.End ≡ qtd_links.To b → ⊥
    never b same = cc

-- its front and its tail are there
module _ (d : DriverContent) (part : Structures) (order : ℕ → ℕ) (e : ℕ) (x : Endpoint) (k : IsNewPart x part) (none : (t : ℕ) (y : Transfer) → slice_get d.transfers t ≡ Some y → y.endpoint ≢ e) where
  is_queue : (q : Qh) → part (32 * x.queue) ≡ Some (QueueHead q) → q ≡ k.queue
  is_queue q found = found_queue (part (32 * x.queue)) q k.queue found k.here

  idle : (q : Qh) → part (32 * x.queue) ≡ Some (QueueHead q) → q.token.active ≡ true → ⊥
  idle q found on = true≢false (sym on ∙ ap (λ (z : Qh). z.token.active) (is_queue q found) ∙ k.rests.idle)

  led : (q : Qh) (b : ℕ) → part (32 * x.queue) ≡ Some (QueueHead q) → qtd_link_of (next_pointer q) ≡ qtd_links.To b → order b ≡ order (32 * x.dummy)
  led q b found leads = ap order (k.rests.leads b (ap (λ (z : Qh). qtd_link_of (next_pointer z)) (sym (is_queue q found)) ∙ leads))

  -- nothing of it is out
  pub new_reach : (es : List ℕ) → es ≡ [] → Reaches d part order es e x (32 * x.dummy)
  new_reach es is = record {
    stands = record {
      front = order (32 * x.dummy);
      has = record {
        queue = λ q found. record { work = λ on. absurd (idle q found on); rest = λ b going off leads. let same = led q b found leads in omega (arith, same) };
        behind = λ a t among. absurd (subst (IsAmong a) is among);
        fresh = λ a t among. absurd (subst (IsAmong a) is among);
        passes = λ a b i t u among. absurd (subst (IsAmong a) is among);
      };
      ended = λ i t y at there held same. absurd (none t y there same);
      passed = λ i t j y at there held same. absurd (none t y there same);
    };
    within = record {
      below = λ a t found on. absurd (new_off x part k a t found on);
      next = λ a b t found on. absurd (new_off x part k a t found on);
      alternate = λ a b t found on. absurd (new_off x part k a t found on);
    };
    tail = record { most = omega arith; rest = λ q b found going off leads. let same = led q b found leads in omega (arith, same) };
  }

  pub new_front : (es : List ℕ) (is : es ≡ []) → (new_reach es is).stands.front ≡ order (32 * x.dummy)
  unfolding new_reach
  new_front es is = refl
