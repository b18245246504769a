-- What an event of the walk of the frames does of siTDs and of the bus (EHCI 1.0, 4.6 and 4.12): it leaves the bus, and reads a siTD or has
-- none in hand; it makes a transaction that isn't one of a siTD; or it makes that of the siTD in hand.
use Rattle.std.proofs.Common.{◌≡◌, ℕ, Bool, true, false, List, Option, Some, None, refl, sym, ap, subst, ◌∙◌, if◌then◌else◌}
use Rattle.std.specs.Prelude.{nat_lt}
use Rattle.usb_base.specs.declared.packets.Ask.{Ask}
use Rattle.usb_base.specs.declared.packets.DataPart.{DataPart}
use Rattle.usb_base.specs.declared.packets.EpKind.TheVariants as kinds
use Rattle.usb_base.specs.declared.packets.Reply.{Reply}
use Rattle.usb_base.specs.declared.packets.Split.TheVariants as splits
use Rattle.word_mem.specs.Memory.{Mem}
use Rattle.toggle_error.specs.declared.host.Outcome.{Outcome}
use Rattle.itd_sitd.specs.declared.sitd.Sitd.{Sitd}
use Rattle.mem_queues.specs.Structures.{reaches_queue_head}
use Rattle.hc_copy.specs.Buffer.{Reading, sending}
use Rattle.hc_interrupt.specs.Copies.{goes_on}
use Rattle.hc_interrupt.specs.Turns.{microframe_of}
use Rattle.hc_iso.specs.declared.held.HeldItd.{HeldItd}
use Rattle.hc_iso.specs.declared.held.HeldSitd.{HeldSitd}
use Rattle.hc_iso.specs.declared.held.IsoEnd.{IsoEnd}
use Rattle.hc_iso.specs.declared.held.SitdTurn.{SitdTurn}
use Rattle.hc_iso.specs.declared.held.SitdTurn.TheVariants as turns
use Rattle.hc_iso.specs.declared.held.SplitOutcome.{SplitOutcome}
use Rattle.hc_iso.specs.declared.held.SplitOutcome.TheVariants.{Failed}
use Rattle.hc_iso.specs.Sitd.{sitd_turn, sitd_transaction, sitd_copy, missed_copy}
use Rattle.hc_iso.specs.WriteBack.{itd_sending, itd_written, sitd_sending}
use Rattle.periodic_walk.specs.declared.chain.ChainRow.{ChainRow}
use Rattle.periodic_walk.specs.declared.chain.ChainRow.TheVariants as chains
use Rattle.periodic_walk.specs.declared.itd.ItdRow.{ItdRow}
use Rattle.periodic_walk.specs.declared.itd.ItdRow.TheVariants as itds
use Rattle.periodic_walk.specs.declared.queue.QueueRow.{QueueRow}
use Rattle.periodic_walk.specs.declared.queue.QueueRow.TheVariants as queues
use Rattle.async_walk.specs.declared.state.WalkStep.{WalkStep}
use Rattle.async_walk.specs.declared.state.WalkStep.TheVariants as steps
use Rattle.periodic_walk.specs.declared.sitd.SitdRow.{SitdRow}
use Rattle.periodic_walk.specs.declared.sitd.SitdRow.TheVariants as sitds
use Rattle.periodic_walk.specs.declared.state.Hand.{Hand}
use Rattle.periodic_walk.specs.declared.state.Hand.TheVariants as hands
use Rattle.periodic_walk.specs.declared.state.HeldQueue.{HeldQueue}
use Rattle.periodic_walk.specs.Place.{FramePlace, reading, Effect, sent}
use Rattle.periodic_walk.specs.Place.Effect.{Leaves, Asks}
use Rattle.periodic_walk.specs.Chain.{chain_row, chain_read, chain_after}
use Rattle.periodic_walk.specs.Queue.{queue_row, queue_read, queue_effect, missed, miss_outcome}
use Rattle.periodic_walk.specs.Queue as of_queue
use Rattle.periodic_walk.specs.Itd.{itd_row, itd_effect}
use Rattle.periodic_walk.specs.Itd as of_itd
use Rattle.periodic_walk.specs.Sitd.{sitd_effect}
use Rattle.periodic_walk.specs.Sitd as of_sitd
use Rattle.periodic_walk.specs.Walk.{Walk}
use Rattle.periodic_walk.specs.Rows.{step_at, effect_at, effect_of}
use Rattle.hc_core.specs.declared.controller.ControllerRow.{ControllerRow}
use Rattle.hc_core.specs.declared.controller.ControllerRow.TheVariants as rows
use Rattle.hc_core.specs.Controller.{frame_place, frame_step, part_after}
use Rattle.hc_core.specs.declared.controller.MicroframePart.{MicroframePart}
use Rattle.hc_core.specs.declared.controller.MicroframePart.TheVariants.{Periodic}
use Rattle.bus_wire.specs.Bus.{Bus, Fixed, reply_of, transact_after}
use Rattle.bus_world.specs.World.{World, controller_parts, controller_row, controller_next, frame_by, turned_by, with_turned}
use Rattle.law_microframes.proofs.lemmas.translators.Asking.{Asking, QueueAsks, settled_asking, itd_asking}

-- ---- what is in hand, and what is asked

abbrev pub NoSitd : Option Hand → Type 0
NoSitd None = Unit {0}
NoSitd (Some (hands.Queue h)) = Unit {0}
NoSitd (Some (hands.Itd h)) = Unit {0}
NoSitd (Some (hands.Sitd h)) = ⊥

-- no start-split of an isochronous endpoint
abbrev pub AsksAnother : Ask → Type 0
AsksAnother ask = (hub port : ℕ) (part : DataPart) → ask.split ≡ splits.Start hub port part → ask.kind ≡ kinds.Iso → ⊥

-- as it was just read
abbrev pub copy_read : ℕ → Sitd → HeldSitd
copy_read a v = record { at = a; sitd = v; settled = None }

pub data Does (p : FramePlace) (o : Option Hand) (step : WalkStep) : Effect → Type 0 where
  rests : (q : FramePlace) → NoSitd q.walk.hand → Does p o step (Leaves q)
  fetches : (a : ℕ) (v : Sitd) (q : FramePlace) → o ≡ None → chain_row p.memory p.walk.cursor ≡ chains.Sitd a v
      → q.walk.hand ≡ Some (hands.Sitd (copy_read a v)) → Does p o step (Leaves q)
  asks_another : (ask : Ask) (out : List ℕ) (by : Reply → FramePlace) → AsksAnother ask → ((reply : Reply) → NoSitd (by reply).walk.hand)
      → Does p o step (Asks ask out by)
  transacts : (h : HeldSitd) (out : List ℕ) (by : Reply → FramePlace) → o ≡ Some (hands.Sitd h) → h.settled ≡ None
      → sitd_turn (microframe_of p.walk.index) h.sitd ≡ turns.Work → step ≡ steps.Transact
      → ((reply : Reply) → (by reply).walk.hand ≡ Some (hands.Sitd (sitd_copy (microframe_of p.walk.index) reply h)))
      → Does p o step (Asks (sitd_transaction h.sitd).ask out by)

-- ---- a queue head or an iTD is in hand

abbrev NoneBy : Effect → Type 0
NoneBy (Leaves q) = NoSitd q.walk.hand
NoneBy (Asks ask out by) = (reply : Reply) → NoSitd (by reply).walk.hand

abbrev Another : Ask → List ℕ → Type 0
Another ask out = AsksAnother ask

both : (p : FramePlace) (o : Option Hand) (step : WalkStep) (e : Effect) → Asking Another e → NoneBy e → Does p o step e
both p o step (Leaves q) asks none = rests q none
both p o step (Asks ask out by) asks none = asks_another ask out by asks none

either_none : (b : Bool) (x y : FramePlace) → NoSitd x.walk.hand → NoSitd y.walk.hand → NoSitd (if b then x else y).walk.hand
either_none true x y one other = one
either_none false x y one other = other

sent_none : (b : Bool) (ask : Ask) (out : List ℕ) (by : Reply → FramePlace) (there : FramePlace)
    → ((reply : Reply) → NoSitd (by reply).walk.hand) → NoneBy (sent b ask out by there)
sent_none true ask out by there each = each
sent_none false ask out by there each = tt

walk_none : (b : Bool) (v w : Walk) → NoSitd v.hand → NoSitd w.hand → NoSitd (if b then v else w).hand
walk_none true v w one other = one
walk_none false v w one other = other

queue_wrote : (b : Bool) (h : HeldQueue) (o : Outcome) (p : FramePlace) → NoSitd (of_queue.wrote_at b h o p).walk.hand
queue_wrote true h o p = walk_none (goes_on h.made h.copy.queue_head o) _ _ tt tt
queue_wrote false h o p = tt

queue_none : (row : QueueRow) (h : HeldQueue) (p : FramePlace) → NoneBy (queue_effect row h p)
queue_none (queues.Advance a t) h p = either_none (reaches_queue_head p.memory h.copy.at) _ _ tt tt
queue_none (queues.Transact t) h p = sent_none (sending t h.copy.queue_head p.memory).all _ _ _ _ (λ reply. tt)
queue_none queues.Miss h p =
    let m = of_queue.writing (missed h).copy miss_outcome p.walk.reply p.memory in
    queue_wrote m.all (missed h) miss_outcome (record p { memory = m.memory })
queue_none (queues.WriteBack o) h p =
    let m = of_queue.writing h.copy o p.walk.reply p.memory in
    queue_wrote m.all h o (record p { memory = m.memory })
queue_none queues.Fault h p = tt
queue_none queues.Skip h p = tt

-- an interrupt endpoint's
queue_another : (h : HeldQueue) (index : ℕ) → QueueAsks Another h index
queue_another h index m unset turn hub port part split iso = absurd (cc)

itd_wrote : (b : Bool) (h : HeldItd) (o : IsoEnd) (p : FramePlace) → NoSitd (of_itd.wrote_at b h o p).walk.hand
itd_wrote true h o p = tt
itd_wrote false h o p = tt

itd_none : (row : ItdRow) (h : HeldItd) (p : FramePlace) → NoneBy (itd_effect row h p)
itd_none itds.Skip h p = tt
itd_none (itds.Transact t) h p = sent_none (itd_sending t h p.memory).all _ _ _ _ (λ reply. tt)
itd_none (itds.WriteBack o) h p =
    let m = itd_written h p.walk.got p.memory in
    itd_wrote m.all h o (record p { memory = m.memory })

plain_another : (ask : Ask) (out : List ℕ) → ask.split ≡ splits.Plain → Another ask out
plain_another ask out plain hub port part split iso = absurd (let e = sym plain ∙ split in cc)

-- ---- a siTD is in hand

sitd_wrote : (b : Bool) (h : HeldSitd) (o : SplitOutcome) (p : FramePlace) → NoSitd (of_sitd.wrote_at b h o p).walk.hand
sitd_wrote true h o p = tt
sitd_wrote false h o p = tt

module _ (p : FramePlace) (h : HeldSitd) where
  abbrev Own : SitdRow → Type 0
  Own row = Does p (Some (hands.Sitd h)) (of_sitd.sitd_step row h p) (sitd_effect row h p)

  sitd_sent : (b : Bool) (out : List ℕ) (by : Reply → FramePlace) (there : FramePlace) → h.settled ≡ None
      → sitd_turn (microframe_of p.walk.index) h.sitd ≡ turns.Work
      → ((reply : Reply) → (by reply).walk.hand ≡ Some (hands.Sitd (sitd_copy (microframe_of p.walk.index) reply h)))
      → Does p (Some (hands.Sitd h)) (if b then steps.Transact else steps.Fault) (sent b (sitd_transaction h.sitd).ask out by there)
  sitd_sent true out by there unset work each = transacts h out by refl unset work refl each
  sitd_sent false out by there unset work each = rests _ tt

  sitd_timed : (late : Bool) → h.settled ≡ None → sitd_turn (microframe_of p.walk.index) h.sitd ≡ turns.Work
      → Own (if late then sitds.Skip else sitds.Transact (sitd_transaction h.sitd))
  sitd_timed true unset work = rests _ tt
  sitd_timed false unset work =
      let read : Reading = sitd_sending (sitd_transaction h.sitd) h.sitd p.memory in
      sitd_sent read.all read.bytes _ (record p { memory = read.memory }) unset work (λ reply. refl)

  sitd_turned : (turn : SitdTurn) → h.settled ≡ None → sitd_turn (microframe_of p.walk.index) h.sitd ≡ turn
      → Own (of_sitd.turn_row p.walk.left h.sitd turn)
  sitd_turned turns.Rest unset is = rests _ tt
  sitd_turned turns.Work unset is = sitd_timed (nat_lt p.walk.left (sitd_transaction h.sitd).price.0) unset is
  sitd_turned turns.Miss unset is =
      let m = of_sitd.writing (missed_copy h) Failed p.walk.reply p.memory in
      rests _ (sitd_wrote m.all (missed_copy h) Failed (record p { memory = m.memory }))

  sitd_settled : (o : Option SplitOutcome) → h.settled ≡ o
      → Own (of_sitd.settled_row p.walk.left (microframe_of p.walk.index) h.sitd o)
  sitd_settled None unset = sitd_turned (sitd_turn (microframe_of p.walk.index) h.sitd) unset refl
  sitd_settled (Some o) is =
      let m = of_sitd.writing h o p.walk.reply p.memory in
      rests _ (sitd_wrote m.all h o (record p { memory = m.memory }))

-- ---- nothing is in hand

chain_does : (p : FramePlace) (step : WalkStep) (row : ChainRow) (m : Mem) → chain_row p.memory p.walk.cursor ≡ row
    → Does p None step (Leaves (chain_after row (reading m p)))
chain_does p step chains.Fault m is = rests _ tt
chain_does p step chains.Ends m is = rests _ tt
chain_does p step (chains.Queue a q) m is = rests _ tt
chain_does p step (chains.Itd a v) m is = rests _ tt
chain_does p step (chains.Sitd a v) m is = fetches a v _ refl is refl

-- ---- the walk

pub does : (p : FramePlace) (o : Option Hand) → Does p o (step_at p o) (effect_at p o)
does p None = chain_does p _ (chain_row p.memory p.walk.cursor) (chain_read p.memory p.walk.cursor) refl
does p (Some (hands.Queue h)) =
    let q : FramePlace = reading (queue_read p h) p in
    both p (Some (hands.Queue h)) _ (queue_effect (queue_row p h) h q)
    (settled_asking Another p.memory p.walk.left h q h.copy.settled refl (queue_another h p.walk.index))
    (queue_none (queue_row p h) h q)
does p (Some (hands.Itd h)) =
    both p (Some (hands.Itd h)) _ (itd_effect (itd_row p.walk.left h) h p)
    (itd_asking Another p.walk.left h p h.ended plain_another)
    (itd_none (itd_row p.walk.left h) h p)
does p (Some (hands.Sitd h)) = sitd_settled p h h.settled refl

-- ---- over the bus

pub data FrameTurn (fixed : Fixed) (p : FramePlace) (b : Bus) (new : Option Hand) (part : MicroframePart) (after : Bus) : Type 0 where
  turn_rests : NoSitd new → after ≡ b → FrameTurn fixed p b new part after
  turn_fetches : (a : ℕ) (v : Sitd) → p.walk.hand ≡ None → chain_row p.memory p.walk.cursor ≡ chains.Sitd a v
      → new ≡ Some (hands.Sitd (copy_read a v)) → after ≡ b → FrameTurn fixed p b new part after
  turn_another : (ask : Ask) (out : List ℕ) → AsksAnother ask → NoSitd new → after ≡ transact_after fixed b ask out
      → FrameTurn fixed p b new part after
  turn_transacts : (h : HeldSitd) (out : List ℕ) (reply : Reply) → p.walk.hand ≡ Some (hands.Sitd h) → h.settled ≡ None
      → sitd_turn (microframe_of p.walk.index) h.sitd ≡ turns.Work → part ≡ Periodic
      → new ≡ Some (hands.Sitd (sitd_copy (microframe_of p.walk.index) reply h))
      → after ≡ transact_after fixed b (sitd_transaction h.sitd).ask out → FrameTurn fixed p b new part after

turned : (fixed : Fixed) (p : FramePlace) (b : Bus) (step : WalkStep) (e : Effect) → Does p p.walk.hand step e
    → FrameTurn fixed p b (frame_by fixed e b).place.walk.hand (part_after Periodic step) (frame_by fixed e b).bus
turned fixed p b step _ (rests q none) = turn_rests none refl
turned fixed p b step _ (fetches a v q free row is) = turn_fetches a v free row is refl
turned fixed p b step _ (asks_another ask out by another none) = turn_another ask out another (none (reply_of fixed b ask out)) refl
turned fixed p b step _ (transacts h out by held unset work is each) =
    turn_transacts h out (reply_of fixed b (sitd_transaction h.sitd).ask out) held unset work (ap (part_after Periodic) is)
    (each (reply_of fixed b (sitd_transaction h.sitd).ask out)) refl

pub world_turn : (fixed : Fixed) (w : World) → controller_row w ≡ rows.Frame
    → FrameTurn fixed (frame_place (controller_parts w)) w.bus (controller_next fixed w).control.frame.hand
    (controller_next fixed w).control.part (controller_next fixed w).bus
world_turn fixed w row =
    subst (λ (r : ControllerRow). FrameTurn fixed (frame_place (controller_parts w)) w.bus
    (with_turned w (turned_by fixed r (controller_parts w) w.bus)).control.frame.hand
    (with_turned w (turned_by fixed r (controller_parts w) w.bus)).control.part
    (with_turned w (turned_by fixed r (controller_parts w) w.bus)).bus) (sym row)
    (turned fixed (frame_place (controller_parts w)) w.bus (frame_step (controller_parts w)) (effect_of (frame_place (controller_parts w)))
    (does (frame_place (controller_parts w)) w.control.frame.hand))
