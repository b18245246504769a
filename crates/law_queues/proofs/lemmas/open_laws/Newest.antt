-- A new endpoint's queue head and its inactive qTD.
use Rattle.std.proofs.Common.{◌≡◌, ◌≢◌, ℕ, ◌*◌, false, slice_get, Option, Some, None, ap, refl, sym, ◌∙◌, ⊎_elim, arith}
use Rattle.qh_qtd.specs.declared.qtd.Qtd.{Qtd}
use Rattle.link_words.specs.declared.kinds.QtdLink.TheVariants as qtd_links
use Rattle.qh_qtd.specs.declared.queue_head.Qh.{Qh}
use Rattle.drv_table.specs.declared.content.Endpoint.{Endpoint}
use Rattle.drv_table.specs.DriverContent.{DriverContent}
use Rattle.drv_table.specs.Words.{dummy_qtd}
use Rattle.claims_driver.specs.Leaving.{HasOwners}
use Rattle.claims_driver.specs.Owners.{EndpointRuns, QueueHead as QueueOf, Dummy, runs_of_endpoint}
use Rattle.law_structures.specs.lent_structures.Structures.{Structure, QueueHead, Element, Structures, with_structure}
use Rattle.law_structures.proofs.lemmas.lent_structures.Names.{with_here, with_there}
use Rattle.law_ring.proofs.Parting.{found_with}
use Rattle.law_driver_ring.specs.Linked.{no_part, opened_part}
use Rattle.law_driver.specs.chained_transfers.Asynchronous.{StandsAsynchronous}
use Rattle.law_queues.proofs.lemmas.publish_laws.Apart.{queue_placed, dummy_placed}
use Rattle.law_queues.specs.open_laws.Queues.{RestsAt, IsNewPart, NewHeadsRest}

-- ---- it rests

one_address : (a b : ℕ) → qtd_links.To a ≡ qtd_links.To b → b ≡ a
one_address a b same = cc

pub new_heads_rest : NewHeadsRest
new_heads_rest x smask cmask link dummy = (record { idle = refl; leads = λ b is. one_address (32 * dummy) b is }, record { idle = refl; leads = λ b is. one_address (32 * dummy) b is })

-- ---- its blocks

-- they aren't one
pub queue_and_dummy : (d : DriverContent) → HasOwners d → (e : ℕ) (x : Endpoint) → slice_get d.endpoints e ≡ Some x → StandsAsynchronous x → x.gone ≡ false → x.queue ≢ x.dummy
queue_and_dummy d owners e x here stands alive same = never (sym (queue_placed d owners e x here stands alive).owned ∙ ap owners.owner same ∙ (dummy_placed d owners e x here stands alive).owned)
  where
    never : QueueOf e ≡ Dummy e → ⊥
    never is = cc

-- what is found of the new queue's qTDs
pub its_element : (r : EndpointRuns) (q : Qh) (a : ℕ) (t : Qtd) → opened_part r q a ≡ Some (Element t) → a ≡ 32 * r.dummy
its_element r q a t found =
    let one : Structures = with_structure no_part (32 * r.queue) (QueueHead q) in
    ⊎_elim (λ (new : (a ≡ 32 * r.dummy) × (Element dummy_qtd ≡ Element t)). new.0)
    (λ (old : (a ≢ 32 * r.dummy) × (one a ≡ Some (Element t))).
    ⊎_elim (λ (head : (a ≡ 32 * r.queue) × (QueueHead q ≡ Element t)). absurd (never head.1))
    (λ (none : (a ≢ 32 * r.queue) × (no_part a ≡ Some (Element t))). absurd (nothing none.1)) (found_with no_part (32 * r.queue) a (QueueHead q) (Element t) old.1))
    (found_with one (32 * r.dummy) a (Element dummy_qtd) (Element t) found)
  where
    never : QueueHead q ≡ Element t → ⊥
    never same = cc

    nothing : ◌≡◌ {A = Option Structure} None (Some (Element t)) → ⊥
    nothing none = cc

-- both stand
pub queue_here : (x : Endpoint) (q : Qh) (part : Structures) → x.queue ≢ x.dummy → ((b : ℕ) → part b ≡ opened_part (runs_of_endpoint x) q b) → part (32 * x.queue) ≡ Some (QueueHead q)
queue_here x q part differs is =
    let n = 32 * x.queue in
    is n ∙ with_there (with_structure no_part n (QueueHead q)) (32 * x.dummy) (Element dummy_qtd) n (λ s. differs (omega (arith, s))) ∙ with_here no_part n (QueueHead q)

pub new_part : (x : Endpoint) (q : Qh) (part : Structures) → x.queue ≢ x.dummy → RestsAt q (32 * x.dummy) → ((b : ℕ) → part b ≡ opened_part (runs_of_endpoint x) q b) → IsNewPart x part
new_part x q part differs rests is = record {
  queue = q;
  here = queue_here x q part differs is;
  rests = rests;
  dummy = is (32 * x.dummy) ∙ with_here (with_structure no_part (32 * x.queue) (QueueHead q)) (32 * x.dummy) (Element dummy_qtd);
  only = λ a t there. its_element (runs_of_endpoint x) q a t (sym (is a) ∙ there);
}
