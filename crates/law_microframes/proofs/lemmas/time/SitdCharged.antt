-- An event at the siTD of an isochronous endpoint below a hub asks nothing and costs nothing, or makes one start-split or
-- complete-split, which costs no more than the placement has for its microframe (EHCI 1.0, 4.12.3; USB 2.0, 5.11.3 and 11.18.4).
use Rattle.std.proofs.Common.{◌≡◌, ℕ, ◌+◌, ◌%◌, ◌<◌, ◌≤◌, Bool, true, false, List, Option, Some, None, refl, ap, sym, subst, arith}
use Rattle.std.specs.Prelude.{nat_lt, if◌then◌else◌}
use Rattle.usb_base.specs.declared.packets.Ask.{Ask}
use Rattle.usb_base.specs.declared.packets.Reply.{Reply}
use Rattle.itd_sitd.specs.declared.sitd.Sitd.{Sitd}
use Rattle.hc_masks.proofs.Room.{with_bit_small}
use Rattle.hc_interrupt.specs.Turns.{microframe_of}
use Rattle.hc_iso.specs.declared.held.HeldSitd.{HeldSitd}
use Rattle.hc_iso.specs.declared.held.IsoTransaction.{IsoTransaction}
use Rattle.hc_iso.specs.declared.held.SitdTurn.{SitdTurn}
use Rattle.hc_iso.specs.declared.held.SitdTurn.TheVariants as turns
use Rattle.hc_iso.specs.declared.held.SplitHeard.{SplitHeard}
use Rattle.hc_iso.specs.declared.held.SplitHeard.TheVariants as heards
use Rattle.hc_iso.specs.declared.held.SplitOutcome.{SplitOutcome}
use Rattle.hc_iso.specs.declared.held.SplitOutcome.TheVariants.{Failed}
use Rattle.hc_iso.specs.Sitd.{sitd_turn, sitd_transaction, sitd_copy, missed_copy, after_split_heard, after_complete, after_start, after_part, heard_by, in_after}
use Rattle.hc_iso.specs.WriteBack.{sitd_sending}
use Rattle.bandwidth.specs.declared.placements.Placed.{Placed}
use Rattle.bandwidth.specs.Sums.{cost_in}
use Rattle.async_walk.specs.declared.state.WalkStep.TheVariants as steps
use Rattle.periodic_walk.specs.declared.sitd.SitdRow.{SitdRow}
use Rattle.periodic_walk.specs.declared.sitd.SitdRow.TheVariants as rows
use Rattle.periodic_walk.specs.declared.state.Hand.{Hand}
use Rattle.periodic_walk.specs.declared.state.Hand.TheVariants as hands
use Rattle.periodic_walk.specs.Walk.{Walk}
use Rattle.periodic_walk.specs.Place.{FramePlace, faulted, passing, sent}
use Rattle.periodic_walk.specs.Sitd.{turn_row, settled_row, sitd_row, writing, wrote_at, sitd_step, sitd_effect, sitd_left_by}
use Rattle.periodic_walk.specs.Rows.{step_at, effect_at}
use Rattle.hc_core.specs.Controller.{hc_step}
use Rattle.claims_world.specs.Prices.{price_of, cost_of}
use Rattle.law_microframes.specs.time.SitdParts.{IsSitdOf, IsSitdInHand, IsSitdStill, GoesOnInParts, PartsBy, SitdsArePriced}
use Rattle.law_microframes.proofs.lemmas.time.SitdParts.{parts_are_within, parts_stay}

-- ---- it stays a siTD of the endpoint

part_of : (x : Placed) (v : Sitd) (u : ℕ) → IsSitdOf x v → u < 8 → IsSitdOf x (after_part u v)
unfolding after_part
part_of x v u of low = record {
  classic = of.classic;
  kind = of.kind;
  some = of.some;
  masks = of.masks;
  way = of.way;
  smask = of.smask;
  cmask = of.cmask;
  prog = with_bit_small v.c_prog u of.prog low;
}

start_of : (x : Placed) (v : Sitd) → IsSitdOf x v → IsSitdOf x (after_start v)
unfolding after_start
start_of x v of = record {
  classic = of.classic;
  kind = of.kind;
  some = of.some;
  masks = of.masks;
  way = of.way;
  smask = of.smask;
  cmask = of.cmask;
  prog = of.prog;
}

heard_of : (x : Placed) (v : Sitd) (heard : SplitHeard) → IsSitdOf x v → IsSitdOf x (after_split_heard heard v)
heard_of x v (heards.Data last n) of =
    record {
      classic = of.classic;
      kind = of.kind;
      some = of.some;
      masks = of.masks;
      way = of.way;
      smask = of.smask;
      cmask =
          of.cmask;
      prog = of.prog;
    }
heard_of x v heards.Later of = of
heard_of x v heards.TooLong of =
    record {
      classic = of.classic;
      kind = of.kind;
      some = of.some;
      masks = of.masks;
      way = of.way;
      smask = of.smask;
      cmask =
          of.cmask;
      prog = of.prog;
    }
heard_of x v heards.Error of =
    record {
      classic = of.classic;
      kind = of.kind;
      some = of.some;
      masks = of.masks;
      way = of.way;
      smask = of.smask;
      cmask =
          of.cmask;
      prog = of.prog;
    }
heard_of x v heards.Wrong of =
    record {
      classic = of.classic;
      kind = of.kind;
      some = of.some;
      masks = of.masks;
      way = of.way;
      smask = of.smask;
      cmask =
          of.cmask;
      prog = of.prog;
    }

complete_of : (x : Placed) (v : Sitd) (u : ℕ) (heard : SplitHeard) → IsSitdOf x v → u < 8 → IsSitdOf x (after_complete u heard v)
unfolding after_complete
complete_of x v u heard of low =
    let h = heard_of x v heard of in
    record {
      classic = h.classic;
      kind = h.kind;
      some = h.some;
      masks = h.masks;
      way = h.way;
      smask = h.smask;
      cmask = h.cmask;
      prog = with_bit_small (after_split_heard heard v).c_prog u h.prog low;
    }

in_of : (x : Placed) (v : Sitd) (u : ℕ) (reply : Reply) (split : Bool) → IsSitdOf x v → u < 8
    → IsSitdOf x (if split then after_complete u (heard_by u v reply) v else after_start v)
in_of x v u reply true of low = complete_of x v u (heard_by u v reply) of low
in_of x v u reply false of low = start_of x v of

sitd_of : (x : Placed) (v : Sitd) (u : ℕ) (reply : Reply) (way : Bool) → IsSitdOf x v → u < 8
    → IsSitdOf x (if way then in_after u reply v else after_part u v)
sitd_of x v u reply true of low = in_of x v u reply v.split_state of low
sitd_of x v u reply false of low = part_of x v u of low

-- ---- where nothing is paid

rests : (x : Placed) (u : ℕ) (h : HeldSitd) (paid : ℕ) (q : FramePlace) → q.walk.index ≡ u → q.walk.hand ≡ None
    → GoesOnInParts x u h paid 0 q
rests x u h paid q same over = record {
  index = same;
  held = subst (λ (o : Option Hand). IsSitdStill x u h (paid + 0) o) (sym over) tt;
  ends = λ none. refl;
}

wrote_rests : (x : Placed) (p there : FramePlace) (h k : HeldSitd) (paid : ℕ) (outcome : SplitOutcome) (all : Bool) → there.walk ≡ p.walk
    → GoesOnInParts x p.walk.index h paid (cost_of (hc_step (if all then steps.WriteBack else steps.Fault)) (hands.Sitd h))
    (wrote_at all k outcome there)
wrote_rests x p there h k paid outcome true same =
    rests x p.walk.index h paid (wrote_at true k outcome there) (ap (λ (w : Walk). w.index) same) refl
wrote_rests x p there h k paid outcome false same =
    rests x p.walk.index h paid (faulted there) (ap (λ (w : Walk). w.index) same) refl

-- ---- a transaction

first_paid : (paid price cost : ℕ) → paid ≡ 0 → price ≤ cost → paid + price ≤ cost
first_paid paid price cost none most = omega (arith, none, most)

a_microframe : (u : ℕ) → u % 8 < 8
a_microframe u = omega arith

worked : (x : Placed) (p there : FramePlace) (h : HeldSitd) (t : IsoTransaction) (reply : Reply) (paid : ℕ) → there.walk ≡ p.walk
    → IsSitdInHand x h p.walk.index paid → h.settled ≡ None → sitd_turn (microframe_of p.walk.index) h.sitd ≡ turns.Work
    → GoesOnInParts x p.walk.index h paid (price_of (hands.Sitd h)) (sitd_left_by t h there reply)
worked x p there h t reply paid same held free turn =
    let u : ℕ = microframe_of p.walk.index in
    let now : microframe_of there.walk.index ≡ u = ap (λ (w : Walk). microframe_of w.index) same in
    let most = parts_are_within x h u held.descriptor held.parts (a_microframe p.walk.index) turn in
    let after : IsSitdInHand x (sitd_copy u reply h) p.walk.index (paid + price_of (hands.Sitd h)) = record {
      descriptor = sitd_of x h.sitd u reply h.sitd.dir_in held.descriptor (a_microframe p.walk.index);
      parts = parts_stay h.sitd x.want.max u reply held.parts held.descriptor.prog (a_microframe p.walk.index) turn;
      none = λ made. absurd (cc);
      one = first_paid paid (price_of (hands.Sitd h)) (cost_in x.want x.placement (p.walk.index % 8)) (held.none free) most;
    } in
    record {
      index = ap (λ (w : Walk). w.index) same;
      held = (subst (λ (m : ℕ). IsSitdInHand x (sitd_copy m reply h) p.walk.index (paid + price_of (hands.Sitd h))) (sym now) after, refl);
      ends = λ over. absurd (cc);
    }

sent_parts : (x : Placed) (p there : FramePlace) (h : HeldSitd) (t : IsoTransaction) (all : Bool) (ask : Ask) (out : List ℕ) (paid : ℕ)
    → there.walk ≡ p.walk
    → IsSitdInHand x h p.walk.index paid → h.settled ≡ None → sitd_turn (microframe_of p.walk.index) h.sitd ≡ turns.Work
    → PartsBy x p h paid (cost_of (hc_step (if all then steps.Transact else steps.Fault)) (hands.Sitd h))
    (sent all ask out (sitd_left_by t h there) there)
sent_parts x p there h t true ask out paid same held free turn = λ reply. worked x p there h t reply paid same held free turn
sent_parts x p there h t false ask out paid same held free turn =
    rests x p.walk.index h paid (faulted there) (ap (λ (w : Walk). w.index) same) refl

-- ---- any event

abbrev Comes : HeldSitd → ℕ → SitdRow → Type 0
Comes h u (rows.Transact t) = (h.settled ≡ None) × (sitd_turn u h.sitd ≡ turns.Work)
Comes h u _ = Unit {0}

timed_comes : (h : HeldSitd) (u : ℕ) (late : Bool) → h.settled ≡ None → sitd_turn u h.sitd ≡ turns.Work
    → Comes h u (if late then rows.Skip else rows.Transact (sitd_transaction h.sitd))
timed_comes h u true free turn = tt
timed_comes h u false free turn = (free, turn)

turn_comes : (h : HeldSitd) (left u : ℕ) (turn : SitdTurn) → h.settled ≡ None → sitd_turn u h.sitd ≡ turn
    → Comes h u (turn_row left h.sitd turn)
turn_comes h left u turns.Rest free is = tt
turn_comes h left u turns.Work free is = timed_comes h u (nat_lt left (sitd_transaction h.sitd).price.0) free is
turn_comes h left u turns.Miss free is = tt

row_comes : (h : HeldSitd) (left u : ℕ) (o : Option SplitOutcome) → h.settled ≡ o → Comes h u (settled_row left u h.sitd o)
row_comes h left u None is = turn_comes h left u (sitd_turn u h.sitd) is refl
row_comes h left u (Some outcome) is = tt

row_parts : (x : Placed) (p : FramePlace) (h : HeldSitd) (paid : ℕ) (row : SitdRow) → IsSitdInHand x h p.walk.index paid
    → Comes h (microframe_of p.walk.index) row
    → PartsBy x p h paid (cost_of (hc_step (sitd_step row h p)) (hands.Sitd h)) (sitd_effect row h p)
row_parts x p h paid rows.Skip held comes = rests x p.walk.index h paid (passing h.sitd.link p) refl refl
row_parts x p h paid (rows.Transact t) held comes =
    sent_parts x p (record p { memory = (sitd_sending t h.sitd p.memory).memory }) h t (sitd_sending t h.sitd p.memory).all t.ask
    (sitd_sending t h.sitd p.memory).bytes paid refl held comes.0 comes.1
row_parts x p h paid rows.Miss held comes =
    wrote_rests x p (record p { memory = (writing (missed_copy h) Failed p.walk.reply p.memory).memory }) h (missed_copy h) paid Failed
    (writing (missed_copy h) Failed p.walk.reply p.memory).all refl
row_parts x p h paid (rows.WriteBack outcome) held comes =
    wrote_rests x p (record p { memory = (writing h outcome p.walk.reply p.memory).memory }) h h paid outcome
    (writing h outcome p.walk.reply p.memory).all refl

pub sitds_are_priced : SitdsArePriced
sitds_are_priced x p h paid is held =
    subst (λ (o : Option Hand). PartsBy x p h paid (cost_of (hc_step (step_at p o)) (hands.Sitd h)) (effect_at p o)) (sym is)
    (row_parts x p h paid (sitd_row p h) held (row_comes h p.walk.left (microframe_of p.walk.index) h.settled refl))
