-- Each event of the walk of the frames with a copy in hand leaves fewer events of the visit, or takes its time; and a fetch leaves few (EHCI 1.0, 4.6, 4.7.1, 4.10 and 4.12).
use Rattle.std.proofs.Common.{◌≡◌, ℕ, ◌+◌, ◌-◌, ◌*◌, ◌/◌, ◌<◌, ◌≤◌, Bool, true, false, List, Option, Some, None, refl, ap, sym, subst, arith}
use Rattle.std.specs.Prelude.{nat_lt, if◌then◌else◌}
use Rattle.law_common.proofs.Numbers.{not_less}
use Rattle.usb_base.specs.declared.packets.Ask.{Ask}
use Rattle.usb_base.specs.declared.packets.Reply.{Reply}
use Rattle.itd_sitd.specs.declared.itd.Itd.{Itd}
use Rattle.hc_iso.specs.declared.held.HeldItd.{HeldItd}
use Rattle.hc_iso.specs.declared.held.HeldSitd.{HeldSitd}
use Rattle.hc_iso.specs.declared.held.IsoEnd.{IsoEnd}
use Rattle.hc_iso.specs.declared.held.SplitOutcome.{SplitOutcome}
use Rattle.hc_iso.specs.declared.held.SitdTurn.{SitdTurn}
use Rattle.hc_iso.specs.declared.held.SitdTurn.TheVariants as turns
use Rattle.hc_iso.specs.Itd.{fetched_itd, itd_transaction, itd_after}
use Rattle.hc_iso.specs.Sitd.{sitd_turn, sitd_transaction, missed_copy}
use Rattle.hc_iso.specs.WriteBack.{itd_sending, itd_written, sitd_sending}
use Rattle.hc_interrupt.specs.Turns.{microframe_of}
use Rattle.periodic_walk.specs.declared.chain.ChainRow.{ChainRow}
use Rattle.periodic_walk.specs.declared.chain.ChainRow.TheVariants as chains
use Rattle.periodic_walk.specs.declared.itd.ItdRow.TheVariants as itds
use Rattle.periodic_walk.specs.declared.sitd.SitdRow.TheVariants as sitds
use Rattle.periodic_walk.specs.declared.state.Hand.{Hand}
use Rattle.periodic_walk.specs.declared.state.Hand.TheVariants as hands
use Rattle.periodic_walk.specs.Place.{FramePlace, Effect, reading, faulted, passed, sent, HasEffect}
use Rattle.periodic_walk.specs.Place.Effect.{Leaves, Asks}
use Rattle.periodic_walk.specs.Chain.{chain_row, chain_read, chain_after}
use Rattle.periodic_walk.specs.Itd.{timed_row, ended_row, itd_effect, itd_left_by, wrote_at}
use Rattle.periodic_walk.specs.Sitd.{sitd_effect, sitd_left_by}
use Rattle.periodic_walk.specs.Sitd as of_sitd
use Rattle.periodic_walk.specs.Rows.{effect_at, effect_of}
use Rattle.claims_world.specs.Microframes.{least_in_frames}
use Rattle.law_microframes.specs.time.ChainEvents.{itd_rest, sitd_rest, hand_rest, visit_rest, LeavesFewer, ChainVisitsFall, BeginsVisit, ChainFetchesBegin}
use Rattle.law_microframes.proofs.lemmas.time.ChainPrices.{IsUnder, Falls, none_under, paid, itd_is_dear, sitd_is_dear}
use Rattle.law_microframes.proofs.lemmas.time.ChainQueues.{queue_falls}

-- ---- an iTD

itd_few : (o : Option IsoEnd) → itd_rest o ≤ 2
itd_few None = omega arith
itd_few (Some ended) = omega arith

itd_sent_falls : (p there : FramePlace) (h : HeldItd) (all : Bool) (ask : Ask) (out : List ℕ) → there.walk.left ≡ p.walk.left → (itd_transaction h).price.0 ≤ p.walk.left
    → Falls 2 p.walk.left (sent all ask out (itd_left_by (itd_transaction h) h there) there)
itd_sent_falls p there h true ask out same enough = λ reply.
    (let few = itd_few (itd_after reply h).ended in
    paid 2 p.walk.left (itd_transaction h).price.0 (itd_left_by (itd_transaction h) h there reply) (omega (arith, few))
    (ap (λ n. n - (itd_transaction h).price.0) same) (itd_is_dear h) enough)
itd_sent_falls p there h false ask out same enough = none_under 2 p.walk.left (faulted there) (omega arith) refl same

itd_timed_falls : (p : FramePlace) (h : HeldItd) (late : Bool) → nat_lt p.walk.left (itd_transaction h).price.0 ≡ late
    → Falls 2 p.walk.left (itd_effect (if late then itds.Skip else itds.Transact (itd_transaction h)) h p)
itd_timed_falls p h true is = none_under 2 p.walk.left (record p { walk = passed h.itd.link p.walk }) (omega arith) refl refl
itd_timed_falls p h false is =
    itd_sent_falls p (record p { memory = (itd_sending (itd_transaction h) h p.memory).memory }) h (itd_sending (itd_transaction h) h p.memory).all (itd_transaction h).ask
    (itd_sending (itd_transaction h) h p.memory).bytes refl (not_less p.walk.left (itd_transaction h).price.0 is)

itd_open_falls : (p : FramePlace) (h : HeldItd) (works : Bool) → Falls 2 p.walk.left (itd_effect (if works then timed_row p.walk.left (itd_transaction h) else itds.Skip) h p)
itd_open_falls p h true = itd_timed_falls p h (nat_lt p.walk.left (itd_transaction h).price.0) refl
itd_open_falls p h false = none_under 2 p.walk.left (record p { walk = passed h.itd.link p.walk }) (omega arith) refl refl

itd_wrote_falls : (p there : FramePlace) (all : Bool) (h : HeldItd) (ended : IsoEnd) → there.walk.left ≡ p.walk.left → IsUnder 1 p.walk.left (wrote_at all h ended there)
itd_wrote_falls p there true h ended same = none_under 1 p.walk.left (wrote_at true h ended there) (omega arith) refl same
itd_wrote_falls p there false h ended same = none_under 1 p.walk.left (faulted there) (omega arith) refl same

itd_ended_falls : (p : FramePlace) (h : HeldItd) (o : Option IsoEnd) → Falls (itd_rest o) p.walk.left (itd_effect (ended_row p.walk.left h o) h p)
itd_ended_falls p h None = itd_open_falls p h h.slot.active
itd_ended_falls p h (Some ended) = itd_wrote_falls p (record p { memory = (itd_written h p.walk.got p.memory).memory }) (itd_written h p.walk.got p.memory).all h ended refl

-- ---- a siTD

sitd_sent_falls : (p there : FramePlace) (h : HeldSitd) (all : Bool) (ask : Ask) (out : List ℕ) → there.walk.left ≡ p.walk.left → (sitd_transaction h.sitd).price.0 ≤ p.walk.left
    → Falls 2 p.walk.left (sent all ask out (sitd_left_by (sitd_transaction h.sitd) h there) there)
sitd_sent_falls p there h true ask out same enough = λ reply.
    paid 2 p.walk.left (sitd_transaction h.sitd).price.0 (sitd_left_by (sitd_transaction h.sitd) h there reply) (omega arith) (ap (λ n. n - (sitd_transaction h.sitd).price.0) same)
    (sitd_is_dear h.sitd) enough
sitd_sent_falls p there h false ask out same enough = none_under 2 p.walk.left (faulted there) (omega arith) refl same

sitd_timed_falls : (p : FramePlace) (h : HeldSitd) (late : Bool) → nat_lt p.walk.left (sitd_transaction h.sitd).price.0 ≡ late
    → Falls 2 p.walk.left (sitd_effect (if late then sitds.Skip else sitds.Transact (sitd_transaction h.sitd)) h p)
sitd_timed_falls p h true is = none_under 2 p.walk.left (record p { walk = passed h.sitd.link p.walk }) (omega arith) refl refl
sitd_timed_falls p h false is =
    sitd_sent_falls p (record p { memory = (sitd_sending (sitd_transaction h.sitd) h.sitd p.memory).memory }) h
    (sitd_sending (sitd_transaction h.sitd) h.sitd p.memory).all (sitd_transaction h.sitd).ask
    (sitd_sending (sitd_transaction h.sitd) h.sitd p.memory).bytes refl (not_less p.walk.left (sitd_transaction h.sitd).price.0 is)

sitd_wrote_falls : (n : ℕ) (p there : FramePlace) (all : Bool) (h : HeldSitd) (outcome : SplitOutcome) → 1 ≤ n → there.walk.left ≡ p.walk.left
    → IsUnder n p.walk.left (of_sitd.wrote_at all h outcome there)
sitd_wrote_falls n p there true h outcome some same = none_under n p.walk.left (of_sitd.wrote_at true h outcome there) some refl same
sitd_wrote_falls n p there false h outcome some same = none_under n p.walk.left (faulted there) some refl same

sitd_written_falls : (n : ℕ) (p : FramePlace) (h : HeldSitd) (outcome : SplitOutcome) → 1 ≤ n → IsUnder n p.walk.left (of_sitd.wrote h outcome p)
sitd_written_falls n p h outcome some =
    sitd_wrote_falls n p (record p { memory = (of_sitd.writing h outcome p.walk.reply p.memory).memory }) (of_sitd.writing h outcome p.walk.reply p.memory).all h outcome some refl

sitd_turn_falls : (p : FramePlace) (h : HeldSitd) (turn : SitdTurn) → Falls 2 p.walk.left (sitd_effect (of_sitd.turn_row p.walk.left h.sitd turn) h p)
sitd_turn_falls p h turns.Rest = none_under 2 p.walk.left (record p { walk = passed h.sitd.link p.walk }) (omega arith) refl refl
sitd_turn_falls p h turns.Work = sitd_timed_falls p h (nat_lt p.walk.left (sitd_transaction h.sitd).price.0) refl
sitd_turn_falls p h turns.Miss = sitd_written_falls 2 p (missed_copy h) _ (omega arith)

sitd_settled_falls : (p : FramePlace) (h : HeldSitd) (o : Option SplitOutcome)
    → Falls (sitd_rest o) p.walk.left (sitd_effect (of_sitd.settled_row p.walk.left (microframe_of p.walk.index) h.sitd o) h p)
sitd_settled_falls p h None = sitd_turn_falls p h (sitd_turn (microframe_of p.walk.index) h.sitd)
sitd_settled_falls p h (Some outcome) = sitd_written_falls 1 p h outcome (omega arith)

-- ---- any copy

pub hand_falls : (p : FramePlace) (hand : Hand) → Falls (hand_rest hand) p.walk.left (effect_at p (Some hand))
hand_falls p (hands.Queue h) = queue_falls p h
hand_falls p (hands.Itd h) = itd_ended_falls p h h.ended
hand_falls p (hands.Sitd h) = sitd_settled_falls p h h.settled

event_falls : (p : FramePlace) (hand : Hand) → p.walk.hand ≡ Some hand → Falls (hand_rest hand) p.walk.left (effect_of p)
event_falls p hand e = subst (λ (o : Option Hand). Falls (hand_rest hand) p.walk.left (effect_at p o)) (sym e) (hand_falls p hand)

is_under : {W : Type 0} (transacts : W → Ask → List ℕ → Reply → W → Type 0) (n left : ℕ) (effect : Effect) (new : FramePlace) (before after : W) → Falls n left effect
    → HasEffect transacts effect before new after → IsUnder n left new
is_under transacts n left (Leaves p) new before after falls has = subst (λ (q : FramePlace). IsUnder n left q) (sym has.0) falls
is_under transacts n left (Asks ask out left_by) new before after falls has = subst (λ (q : FramePlace). IsUnder n left q) (sym has.place) (falls has.reply)

pub fewer_left : (p new : FramePlace) (hand : Hand) → p.walk.hand ≡ Some hand → IsUnder (hand_rest hand) p.walk.left new → LeavesFewer p new
fewer_left p new hand e under = record {
  fewer = subst (λ (o : Option Hand). visit_rest new.walk.hand + 2 * (new.walk.left / least_in_frames) < visit_rest o + 2 * (p.walk.left / least_in_frames)) (sym e) under.0;
  time = under.1;
}

pub chain_visits_fall : {W : Type 0} (transacts : W → Ask → List ℕ → Reply → W → Type 0) → ChainVisitsFall transacts
chain_visits_fall transacts p new before after hand e leads =
    fewer_left p new hand e (is_under transacts (hand_rest hand) p.walk.left (effect_of p) new before after (event_falls p hand e) leads)

-- ---- a fetch

queue_begins : (active : Bool) → (if active then 2 else 3) ≤ 3
queue_begins true = omega arith
queue_begins false = omega arith

itd_begins : (a u : ℕ) (v : Itd) → itd_rest (fetched_itd a u v).ended ≤ 3
unfolding fetched_itd
itd_begins a u v = omega arith

pub row_begins : (p : FramePlace) (row : ChainRow) → (visit_rest (chain_after row p).walk.hand ≤ 3) × ((chain_after row p).walk.left ≡ p.walk.left)
row_begins p (chains.Queue a q) = (queue_begins q.token.active, refl)
row_begins p (chains.Itd a v) = (itd_begins a (microframe_of p.walk.index) v, refl)
row_begins p _ = (omega arith, refl)

abbrev Begins : FramePlace → Effect → Type 0
Begins p (Leaves q) = (visit_rest q.walk.hand ≤ 3) × (q.walk.left ≡ p.walk.left)
Begins p (Asks ask out left_by) = (reply : Reply) → (visit_rest (left_by reply).walk.hand ≤ 3) × ((left_by reply).walk.left ≡ p.walk.left)

event_begins : (p : FramePlace) → p.walk.hand ≡ None → Begins p (effect_of p)
event_begins p e =
    subst (λ (o : Option Hand). Begins p (effect_at p o)) (sym e) (row_begins (reading (chain_read p.memory p.walk.cursor) p) (chain_row p.memory p.walk.cursor))

has_begun : {W : Type 0} (transacts : W → Ask → List ℕ → Reply → W → Type 0) (p : FramePlace) (effect : Effect) (new : FramePlace) (before after : W) → Begins p effect
    → HasEffect transacts effect before new after → BeginsVisit p new
has_begun transacts p (Leaves q) new before after begins has = subst (λ (x : FramePlace). BeginsVisit p x) (sym has.0) (record { few = begins.0; time = begins.1 })
has_begun transacts p (Asks ask out left_by) new before after begins has =
    subst (λ (x : FramePlace). BeginsVisit p x) (sym has.place) (record { few = (begins has.reply).0; time = (begins has.reply).1 })

pub chain_fetches_begin : {W : Type 0} (transacts : W → Ask → List ℕ → Reply → W → Type 0) → ChainFetchesBegin transacts
chain_fetches_begin transacts p new before after e leads = has_begun transacts p (effect_of p) new before after (event_begins p e) leads
