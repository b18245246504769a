-- The charges of a visit are summed, from its fetch on: they come to no more than its transactions may cost (EHCI 1.0, 4.7 and 4.10.3; USB 2.0, 5.9 and 5.11.3).
use Rattle.std.proofs.Common.{◌≡◌, ℕ, zero, suc, ◌+◌, ◌*◌, ◌/◌, ◌%◌, ◌≤◌, Bool, true, false, Option, Some, None, refl, ap, sym, subst, ◌∙◌, arith, inl, inr}
use Rattle.std.specs.Prelude.{max}
use Rattle.std.proofs.Math.Nat.{mul-le-mul_right}
use Rattle.law_budgets.proofs.Common.{fetched}
use Rattle.law_common.proofs.Numbers.{few_packets}
use Rattle.usb_base.specs.declared.packets.Reply.{Reply}
use Rattle.qh_qtd.specs.declared.queue_head.Qh.{Qh}
use Rattle.itd_sitd.specs.declared.itd.Itd.{Itd}
use Rattle.itd_sitd.specs.Itd.{slot_of}
use Rattle.hc_iso.specs.Itd.{packets_for, fetched_itd}
use Rattle.bandwidth.specs.declared.placements.Placed.{Placed}
use Rattle.bandwidth.specs.Placements.{has}
use Rattle.bandwidth.specs.Sums.{is_active}
use Rattle.periodic_walk.specs.declared.chain.ChainRow.TheVariants as rows
use Rattle.periodic_walk.specs.declared.state.Hand.{Hand}
use Rattle.periodic_walk.specs.declared.state.Hand.TheVariants as hands
use Rattle.toggle_error.specs.declared.host.Outcome.{Outcome}
use Rattle.periodic_walk.specs.Place.{FramePlace}
use Rattle.law_budgets.specs.visit_prices.Prices.{after}
use Rattle.law_budgets.specs.visit_prices.Spent.{largest, most_in}
use Rattle.law_budgets.specs.visit_prices.Fetched.{queue_copy, itd_copy}
use Rattle.law_microframes.specs.time.Charges.{charge, HasRoom, IsInHandOf, made_of, GoesOnOrEnds, RestsAt, WorksAt, IsCharging, IsCharged, IsHeldFor, IsHeldStill, IsSummed, BeginsHead, BeginsItd, Begins}

-- ---- no more transactions than the endpoint may have

room_most : (most made : ℕ) (o : Option Outcome) → HasRoom most made o → made ≤ most
room_most most made None room = omega (arith, room)
room_most most made (Some outcome) room = room

pub made_most : (x : Placed) (u : ℕ) (hand : Hand) → IsInHandOf x u hand → made_of hand ≤ x.want.multi
made_most x u (hands.Queue h) held = room_most x.want.multi h.made h.copy.settled held.room
made_most x u (hands.Itd h) held = omega (arith, held.packets)
made_most x u (hands.Sitd h) held = absurd held

own_of : (x : Placed) (u : ℕ) (hand : Hand) → IsInHandOf x u hand → 1 ≤ made_of hand → has x.placement.smask (u % 8) ≡ true
own_of x u (hands.Sitd h) held some = absurd held
own_of x u _ held some = held.own some

in_own : (x : Placed) (u n : ℕ) (b : Bool) → has x.placement.smask (u % 8) ≡ b → is_active x.placement (u / 8) ≡ true → n ≤ x.want.multi → (1 ≤ n → b ≡ true) → n ≤ most_in x u
in_own x u n true own on few some = rw (on, own) few
in_own x u zero false own on few some = omega arith
in_own x u (suc n) false own on few some = absurd (let e : false ≡ true = some (omega arith) in grind (arith, e))

pub made_placed : (x : Placed) (u : ℕ) (hand : Hand) → IsInHandOf x u hand → is_active x.placement (u / 8) ≡ true → made_of hand ≤ most_in x u
made_placed x u hand held on =
    in_own x u (made_of hand) (has x.placement.smask (u % 8)) refl on (made_most x u hand held) (λ some. own_of x u hand held some)

times : (n m c paid : ℕ) → n ≤ m → paid ≤ n * c → paid ≤ m * c
times n m c paid few charged = let more : n * c ≤ m * c = mul-le-mul_right c few in omega (arith, more, charged)

pub charges_are_bounded : (x : Placed) (u : ℕ) (hand : Hand) (paid : ℕ) → IsHeldFor x u hand paid → paid ≤ x.want.multi * largest x.want
charges_are_bounded x u hand paid held = times (made_of hand) x.want.multi (largest x.want) paid (made_most x u hand held.of) held.charged

pub charges_are_placed : (x : Placed) (u : ℕ) (hand : Hand) (paid : ℕ) → IsHeldFor x u hand paid → is_active x.placement (u / 8) ≡ true → paid ≤ most_in x u * largest x.want
charges_are_placed x u hand paid held on = times (made_of hand) (most_in x u) (largest x.want) paid (made_placed x u hand held.of on) held.charged

-- ---- an event adds its charge

with_none : (n m c paid more : ℕ) → m ≡ n → paid ≤ n * c → more ≡ 0 → paid + more ≤ m * c
with_none n m c paid more same charged none = let is : m * c ≡ n * c = ap (λ k. k * c) same in omega (arith, is, charged, none)

with_one : (n m c paid more : ℕ) → m ≡ n + 1 → paid ≤ n * c → more ≤ c → paid + more ≤ m * c
with_one n m c paid more same charged few =
    let is : m * c ≡ (n + 1) * c = ap (λ k. k * c) same in
    let whole : (n + 1) * c ≡ n * c + c = omega arith in
    omega (arith, is, whole, charged, few)

rests_held : (x : Placed) (u : ℕ) (hand : Hand) (paid more : ℕ) (o : Option Hand) → IsCharged x hand paid → more ≡ 0 → GoesOnOrEnds x u hand o → IsHeldStill x u (paid + more) o
rests_held x u hand paid more None charged none going = tt
rests_held x u hand paid more (Some k) charged none going =
    record { of = going.of; charged = with_none (made_of hand) (made_of k) (largest x.want) paid more going.made charged none }

rests_summed : (x : Placed) (p q : FramePlace) (hand : Hand) (paid : ℕ) → IsHeldFor x p.walk.index hand paid → RestsAt x p hand q → IsSummed x p paid q
rests_summed x p q hand paid held rests =
    let none : charge p q ≡ 0 = omega (arith, rests.left) in
    record {
      index = rests.index;
      left = omega (arith, rests.left);
      held = rests_held x p.walk.index hand paid (charge p q) q.walk.hand held.charged none rests.hand;
      ends = λ e. none;
    }

some_none : (k : Hand) → Some k ≡ None → ⊥
some_none k e = grind (arith, e)

works_summed : (x : Placed) (p q : FramePlace) (hand : Hand) (paid : ℕ) → IsHeldFor x p.walk.index hand paid → WorksAt x p hand q → IsSummed x p paid q
works_summed x p q hand paid held works = record {
  index = works.index;
  left = omega (arith, works.left);
  held =
      subst (IsHeldStill x p.walk.index (paid + charge p q)) (sym works.hand)
      (record { of = works.going.of; charged = with_one (made_of hand) (made_of works.copy) (largest x.want) paid (charge p q) works.going.made held.charged works.most });
  ends = λ e. absurd (some_none works.copy (sym works.hand ∙ e));
}

pub charges_are_summed : (x : Placed) (p q : FramePlace) (hand : Hand) (paid : ℕ) → IsHeldFor x p.walk.index hand paid → IsCharging x p hand q → IsSummed x p paid q
charges_are_summed x p q hand paid held (inl rests) = rests_summed x p q hand paid held rests
charges_are_summed x p q hand paid held (inr works) = works_summed x p q hand paid held works

-- ---- a visit begins

least : (n m k : ℕ) → max 1 n ≡ m → 1 ≤ m
least n m k e = omega (arith, e)

pub head_fetches_begin_charges : (x : Placed) (p : FramePlace) (a : ℕ) (q : Qh) (r : Reply) → BeginsHead x p a q → Begins x p (hands.Queue (queue_copy a q)) (after p r)
head_fetches_begin_charges x p a q r f =
    subst (Begins x p (hands.Queue (queue_copy a q))) (sym (fetched p r (rows.Queue a q) f.free f.row))
    (record {
      left = refl;
      index = refl;
      hand = refl;
      held = record {
        of = record {
          head = f.head;
          few = f.few;
          pid = f.pid;
          room = let some = least q.mult x.want.multi 0 f.head.multi in omega (arith, some);
          own = λ some. absurd (omega (arith, some));
        };
        charged = omega arith;
      };
    })

pub descriptor_fetches_begin_charges : (x : Placed) (p : FramePlace) (a : ℕ) (v : Itd) (r : Reply) → BeginsItd x p a v → Begins x p (hands.Itd (itd_copy p a v)) (after p r)
unfolding fetched_itd
descriptor_fetches_begin_charges x p a v r f =
    let few = few_packets v.dir_in v.multi (packets_for (slot_of (p.walk.index % 8) v).length v.max) f.some in
    subst (Begins x p (hands.Itd (itd_copy p a v))) (sym (fetched p r (rows.Itd a v) f.free f.row))
    (record {
      left = refl;
      index = refl;
      hand = refl;
      held = record {
        of = record {
          descriptor = f.descriptor;
          packets = omega (arith, few.1, f.multi);
          room = few.0;
          slot = refl;
          placed = f.placed;
          own = λ some. absurd (omega (arith, some));
        };
        charged = omega arith;
      };
    })
