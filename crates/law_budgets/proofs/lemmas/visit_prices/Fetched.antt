-- What a fetch leaves is a visit that begins.
use Rattle.std.proofs.Common.{◌≡◌, ℕ, None, refl, ap, sym, subst, ◌∙◌, arith}
use Rattle.std.specs.Prelude.{max}
use Rattle.law_budgets.proofs.Common.{fetched}
use Rattle.law_common.proofs.Numbers.{few_packets}
use Rattle.usb_base.specs.declared.packets.Reply.{Reply}
use Rattle.qh_qtd.specs.declared.queue_head.Qh.{Qh}
use Rattle.itd_sitd.specs.declared.itd.Itd.{Itd}
use Rattle.itd_sitd.specs.Itd.{slot_of}
use Rattle.hc_interrupt.specs.Turns.{microframe_of}
use Rattle.hc_iso.specs.Itd.{packets_for, packets_of, fetched_itd}
use Rattle.bandwidth.specs.declared.placements.Placed.{Placed}
use Rattle.periodic_walk.specs.declared.chain.ChainRow.TheVariants as rows
use Rattle.periodic_walk.specs.Place.{FramePlace}
use Rattle.law_budgets.specs.visit_prices.Prices.{after}
use Rattle.law_budgets.specs.visit_prices.Spent.{MeetsHead, MeetsDescriptor}
use Rattle.law_budgets.specs.visit_prices.Fetched.{queue_copy, itd_copy, FetchesHead, FetchesDescriptor}

pub fetches_of_queue_heads_begin_visits : (x : Placed) (p : FramePlace) (a : ℕ) (q : Qh) (r : Reply) → FetchesHead x p a q
    → MeetsHead x (after p r) (queue_copy a q)
fetches_of_queue_heads_begin_visits x p a q r f =
    subst (λ (z : FramePlace). MeetsHead x z (queue_copy a q)) (sym (fetched p r (rows.Queue a q) f.free f.row))
    (record {
      hand = refl;
      head = f.head;
      begun = record { unsettled = refl; none = refl; active = f.active; pid = f.pid; few = f.few };
      frame = f.frame;
    })

copy_packets : (a u : ℕ) (v : Itd) → (fetched_itd a u v).rest ≡ packets_of v (slot_of u v)
unfolding fetched_itd
copy_packets a u v = refl

copy_ended : (a u : ℕ) (v : Itd) → (fetched_itd a u v).ended ≡ None
unfolding fetched_itd
copy_ended a u v = refl

copy_itd : (a u : ℕ) (v : Itd) → (fetched_itd a u v).itd ≡ v
unfolding fetched_itd
copy_itd a u v = refl

pub fetches_of_descriptors_begin_visits : (x : Placed) (p : FramePlace) (a : ℕ) (v : Itd) (r : Reply) → FetchesDescriptor x p a v → MeetsDescriptor x (after p r) (itd_copy p a v)
fetches_of_descriptors_begin_visits x p a v r f =
    let u = microframe_of p.walk.index in
    let few = few_packets v.dir_in v.multi (packets_for (slot_of u v).length v.max) f.some in
    let rest = copy_packets a u v in
    subst (λ (z : FramePlace). MeetsDescriptor x z (itd_copy p a v)) (sym (fetched p r (rows.Itd a v) f.free f.row))
    (record {
      hand = refl;
      descriptor = record { speed = f.descriptor.speed; kind = f.descriptor.kind; max = ap (λ (w : Itd). w.max) (copy_itd a u v) ∙ f.descriptor.max };
      begun = record { going = copy_ended a u v; some = omega (arith, few.0, rest); few = omega (arith, few.1, rest, f.multi) };
      frame = f.frame;
      own = f.own;
    })
