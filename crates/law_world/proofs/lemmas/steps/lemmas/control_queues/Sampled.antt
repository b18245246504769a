-- The queue of the sample stands.
use Rattle.std.proofs.Common.{◌≡◌, ◌≢◌, ℕ, zero, suc, ◌*◌, ◌<◌, true, false, [], slice_get, Option, Some, None, ap, refl, sym, subst, ◌∙◌, ⊎_elim, inl, inr, arith, ◌⊎◌}
use Rattle.std.proofs.lemmas.Bool.{true≢false}
use Rattle.std.proofs.lemmas.Option.{same_Some}
use Rattle.law_structures.proofs.Common.{element_is}
use Rattle.link_words.specs.Links.{qtd_link_of}
use Rattle.link_words.specs.declared.kinds.QtdLink.TheVariants as qtd_links
use Rattle.qh_qtd.specs.declared.qtd.Qtd.{Qtd}
use Rattle.qh_qtd.specs.declared.queue_head.Qh.{Qh}
use Rattle.drv_table.specs.declared.content.Endpoint.{Endpoint}
use Rattle.drv_table.specs.Words.{dummy_qtd}
use Rattle.law_structures.specs.lent_structures.Structures.{Structure, QueueHead, Element, Structures, with_structure}
use Rattle.law_structures.proofs.lemmas.lent_structures.Altering.{found_queue}
use Rattle.law_ring.proofs.Parting.{found_with}
use Rattle.law_ring.specs.Front.{LinksRise}
use Rattle.law_ring.specs.Halted.{HaltStops}
use Rattle.law_ring.specs.Order.{IsAmong}
use Rattle.law_queues.specs.mended_heads.Samples.{halted_head, nothing}
use Rattle.law_world.specs.steps.control_queues.Controls.{ControlsStand}
use Rattle.law_world.specs.steps.control_queues.Samples.{asked_endpoint, asked, published_to, halted_setup, head_part, first_part, its_part, its_parts, its_out}

-- the qTD t at a leads behind it; it is the halted one, the inactive one, or published
record IsPlain (a : ℕ) (t : Qtd) : Type 0 where
  next : (b : ℕ) → qtd_link_of t.next ≡ qtd_links.To b → a < b
  alternate : (b : ℕ) → qtd_link_of t.alternate ≡ qtd_links.To b → a < b
  state : (a ≡ 4192) ⊎ ((a ≡ 4320) ⊎ (t.token.active ≡ true))

abbrev ArePlain : Structures → Type 0
ArePlain part = (a : ℕ) (t : Qtd) → part a ≡ Some (Element t) → IsPlain a t

with_plain : (part : Structures) (at : ℕ) (u : Qtd) → ArePlain part → IsPlain at u → ArePlain (with_structure part at (Element u))
with_plain part at u old new a t found =
    ⊎_elim {C = IsPlain a t} (λ (is : (a ≡ at) × (Element u ≡ Element t)). subst (λ (i : ℕ). IsPlain i t) (sym is.0) (subst (IsPlain at) (element_is u t is.1) new))
    (λ (other : (a ≢ at) × (part a ≡ Some (Element t))). old a t other.1) (found_with part at a (Element u) (Element t) found)

head_plain : ArePlain head_part
head_plain a t found =
    ⊎_elim {C = IsPlain a t} (λ (is : (a ≡ 4160) × (QueueHead halted_head ≡ Element t)). absurd (never is.1)) (λ (other : (a ≢ 4160) × (nothing a ≡ Some (Element t))). absurd (none other.1))
    (found_with nothing 4160 a (QueueHead halted_head) (Element t) found)
  where
    never : QueueHead halted_head ≡ Element t → ⊥
    never same = cc

    none : ◌≡◌ {A = Option Structure} None (Some (Element t)) → ⊥
    none same = cc

leads : (a b : ℕ) → a < 32 * b → (c : ℕ) → qtd_links.To (32 * b) ≡ qtd_links.To c → a < c
leads a b less c to = subst (λ (i : ℕ). a < i) (same to) less
  where
    same : qtd_links.To (32 * b) ≡ qtd_links.To c → 32 * b ≡ c
    same is = cc

ends : (a c : ℕ) → qtd_links.End ≡ qtd_links.To c → a < c
ends a c to = absurd (cc)

published : (a b : ℕ) → a < 32 * b → IsPlain a (published_to b)
published a b less = record { next = λ c to. leads a b less c to; alternate = λ c to. ends a c to; state = inr (inr refl) }

setup : IsPlain 4192 halted_setup
setup = record { next = λ c to. leads 4192 132 (omega arith) c to; alternate = λ c to. ends 4192 c to; state = inl refl }

dummy : IsPlain 4320 dummy_qtd
dummy = record { next = λ c to. ends 4320 c to; alternate = λ c to. ends 4320 c to; state = inr (inl refl) }

all_plain : ArePlain its_part
all_plain =
    with_plain (with_structure (with_structure first_part 4256 (Element (published_to 134))) 4288 (Element (published_to 135))) 4320 dummy_qtd
    (with_plain (with_structure first_part 4256 (Element (published_to 134))) 4288 (published_to 135)
    (with_plain first_part 4256 (published_to 134)
    (with_plain (with_structure head_part 4192 (Element halted_setup)) 4224 (published_to 133) (with_plain head_part 4192 halted_setup head_plain setup) (published 4224 133 (omega arith)))
    (published 4256 134 (omega arith)))
    (published 4288 135 (omega arith)))
    dummy

out_low : (a : ℕ) → IsAmong a (its_out 4160) → a < 4320
out_low a (inl is) = omega (arith, is)
out_low a (inr (inl is)) = omega (arith, is)
out_low a (inr (inr (inl is))) = omega (arith, is)
out_low a (inr (inr (inr (inl is)))) = omega (arith, is)
out_low a (inr (inr (inr (inr none)))) = absurd none

stops : HaltStops (λ a. a) (its_out 4160) 4160 its_part
stops = record {
  head = λ a t q among is halted here. ap (λ (r : Qh). r.token.halted) (sym (found_queue (its_part 4160) halted_head q refl here));
  later = λ a e t u among is halted also less there.
      let first : (a ≡ 4192) ⊎ (t.token.active ≡ true) = low a t (out_low a among) (all_plain a t is).state in
      ⊎_elim {C = u.token.active ≡ true}
      (λ (one : a ≡ 4192).
      ⊎_elim {C = u.token.active ≡ true} (λ (same : e ≡ 4192). absurd (omega (arith, one, same, less))) (λ (on : u.token.active ≡ true). on) (low e u (out_low e also) (all_plain e u there).state))
      (λ (on : t.token.active ≡ true). absurd (true≢false (sym on ∙ halted.done))) first;
}
  where
    low : (a : ℕ) (t : Qtd) → a < 4320 → (a ≡ 4192) ⊎ ((a ≡ 4320) ⊎ (t.token.active ≡ true)) → (a ≡ 4192) ⊎ (t.token.active ≡ true)
    low a t less (inl is) = inl is
    low a t less (inr (inl is)) = absurd (omega (arith, less, is))
    low a t less (inr (inr on)) = inr on

rises : LinksRise (λ a. a) its_part
rises = record { next = λ a t b is to. (all_plain a t is).next b to; alternate = λ a t b is to. (all_plain a t is).alternate b to }

pub stands : ControlsStand asked its_parts (λ n a. a) its_out
stands = record {
  rises = λ e x here there. rises;
  sorted = λ e x here there. ((omega arith, (omega arith, (omega arith, tt))), ((omega arith, (omega arith, tt)), ((omega arith, tt), (tt, tt))));
  stops = λ e x here met. subst (λ (n : ℕ). HaltStops (λ a. a) (its_out n) n its_part) (at e x here) stops;
  mends = record { queues = []; are = record { mends = refl; owed = tt; wait = tt; apart = tt } };
}
  where
    -- it is the one endpoint
    at : (e : ℕ) (x : Endpoint) → slice_get asked.endpoints e ≡ Some x → 4160 ≡ 32 * x.queue
    at zero x here = ap (λ (y : Endpoint). 32 * y.queue) (same_Some asked_endpoint x here)
    at (suc e) x here = absurd (cc)
