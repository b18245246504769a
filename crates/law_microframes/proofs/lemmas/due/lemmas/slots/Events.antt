-- An event of the walk of the frames leaves in hand a descriptor whose active slot isn't done yet, or none (EHCI 1.0, 4.6 and 4.7.1).
use Rattle.std.proofs.Common.{◌≡◌, ◌≢◌, ℕ, Bool, true, false, if◌then◌else◌, List, ◌∷◌, ◌&&◌, Option, Some, None, ap, refl, sym, subst, ◌∙◌}
use Rattle.std.specs.Prelude.{nat_lt}
use Rattle.std.proofs.lemmas.Bool.{false≢true}
use Rattle.law_common.proofs.Lists.{more_active}
use Rattle.law_microframes.proofs.Common.{heard_at}
use Rattle.usb_base.specs.declared.packets.Ask.{Ask}
use Rattle.usb_base.specs.declared.packets.Reply.{Reply}
use Rattle.itd_sitd.specs.Itd.{slot_of}
use Rattle.toggle_error.specs.declared.host.Outcome.{Outcome}
use Rattle.mem_queues.specs.Structures.{reaches_queue_head}
use Rattle.hc_copy.specs.Buffer.{Writing, sending}
use Rattle.hc_interrupt.specs.Copies.{goes_on}
use Rattle.hc_interrupt.specs.Turns.{microframe_of}
use Rattle.hc_iso.specs.declared.held.HeldItd.{HeldItd}
use Rattle.hc_iso.specs.declared.held.HeldSitd.{HeldSitd}
use Rattle.hc_iso.specs.declared.held.Heard.{Heard}
use Rattle.hc_iso.specs.declared.held.Heard.TheVariants.{Packet, TooLong, Wrong}
use Rattle.hc_iso.specs.declared.held.IsoEnd.{IsoEnd}
use Rattle.hc_iso.specs.declared.held.IsoTransaction.{IsoTransaction}
use Rattle.hc_iso.specs.declared.held.SplitOutcome.{SplitOutcome}
use Rattle.hc_iso.specs.declared.held.SplitOutcome.TheVariants.{Failed}
use Rattle.hc_iso.specs.Itd.{fetched_itd, heard_in, after_heard, after_in, after_out, itd_after, itd_transaction}
use Rattle.hc_iso.specs.Sitd.{missed_copy}
use Rattle.hc_iso.specs.WriteBack.{itd_sending, itd_written, sitd_sending}
use Rattle.async_walk.specs.declared.state.WalkStep.{WalkStep}
use Rattle.async_walk.specs.declared.state.WalkStep.TheVariants as walks
use Rattle.periodic_walk.specs.declared.chain.ChainRow.{ChainRow}
use Rattle.periodic_walk.specs.declared.chain.ChainRow.TheVariants as chains
use Rattle.periodic_walk.specs.declared.itd.ItdRow.{ItdRow}
use Rattle.periodic_walk.specs.declared.itd.ItdRow.TheVariants as itds
use Rattle.periodic_walk.specs.declared.queue.QueueRow.{QueueRow}
use Rattle.periodic_walk.specs.declared.queue.QueueRow.TheVariants as queues
use Rattle.periodic_walk.specs.declared.sitd.SitdRow.{SitdRow}
use Rattle.periodic_walk.specs.declared.sitd.SitdRow.TheVariants as sitds
use Rattle.periodic_walk.specs.declared.state.Hand.{Hand}
use Rattle.periodic_walk.specs.declared.state.Hand.TheVariants as hands
use Rattle.periodic_walk.specs.declared.state.HeldQueue.{HeldQueue}
use Rattle.periodic_walk.specs.Chain.{chain_row, chain_read, chain_after, chain_step}
use Rattle.periodic_walk.specs.Itd.{timed_row, ended_row, itd_left_by, itd_step, itd_effect, wrote_at as itd_wrote_at}
use Rattle.periodic_walk.specs.Place.{FramePlace, reading, Effect, sent}
use Rattle.periodic_walk.specs.Place.Effect.{Leaves, Asks}
use Rattle.periodic_walk.specs.Queue.{queue_row, queue_read, queue_effect, missed, miss_outcome}
use Rattle.periodic_walk.specs.Queue.{writing as queue_writing, wrote_at as queue_wrote_at}
use Rattle.periodic_walk.specs.Rows.{step_at, effect_at}
use Rattle.periodic_walk.specs.Sitd.{sitd_row, sitd_effect, writing as sitd_writing, wrote_at as sitd_wrote_at}
use Rattle.periodic_walk.specs.Walk.{Walk}
use Rattle.hc_core.specs.declared.controller.MicroframePart.{MicroframePart}
use Rattle.hc_core.specs.declared.controller.MicroframePart.TheVariants.{Periodic, Asynchronous, Over}
use Rattle.hc_core.specs.Controller.{part_after, hc_step}
use Rattle.claims_world.specs.InTime.{is_late_itd, is_late_at}
use Rattle.claims_world.specs.Slots.{active_by, active_at, done_in}

-- ---- what isn't done yet

-- with this copy in hand, of those that were fetched active: those that are done, and the one in hand
abbrev pub with_itd : Option IsoEnd → HeldItd → List ℕ → List ℕ
with_itd None h ds = if h.slot.active then h.at ∷ ds else ds
with_itd (Some ended) h ds = h.at ∷ ds

abbrev pub with_hand : Option Hand → List ℕ → List ℕ
with_hand None ds = ds
with_hand (Some (hands.Queue h)) ds = ds
with_hand (Some (hands.Itd h)) ds = with_itd h.ended h ds
with_hand (Some (hands.Sitd h)) ds = ds

-- outside the periodic part nothing is in hand
abbrev pub with_part : MicroframePart → Option Hand → List ℕ → List ℕ
with_part Periodic hand ds = with_hand hand ds
with_part Asynchronous hand ds = ds
with_part Over hand ds = ds

-- ---- an event leaves such a place, whatever the reply

abbrev pub AllPlaces : (FramePlace → Type 0) → Effect → Type 0
AllPlaces P (Leaves q) = P q
AllPlaces P (Asks ask out left_by) = (reply : Reply) → P (left_by reply)

abbrev NoItd : Option Hand → Type 0
NoItd None = Unit {0}
NoItd (Some (hands.Queue h)) = Unit {0}
NoItd (Some (hands.Itd h)) = ⊥
NoItd (Some (hands.Sitd h)) = Unit {0}

no_itd : (part : MicroframePart) (hand : Option Hand) (ds : List ℕ) → NoItd hand → with_part part hand ds ≡ ds
no_itd Periodic None ds k = refl
no_itd Periodic (Some (hands.Queue h)) ds k = refl
no_itd Periodic (Some (hands.Itd h)) ds k = absurd k
no_itd Periodic (Some (hands.Sitd h)) ds k = refl
no_itd Asynchronous hand ds k = refl
no_itd Over hand ds k = refl

pub map_all : (P Q : FramePlace → Type 0) (e : Effect) → ((q : FramePlace) → P q → Q q) → AllPlaces P e → AllPlaces Q e
map_all P Q (Leaves q) to all = to q all
map_all P Q (Asks ask out left_by) to all = λ reply. to (left_by reply) (all reply)

-- ---- a queue head or a siTD in hand

abbrev Quiet : FramePlace → Type 0
Quiet q = NoItd q.walk.hand

either_place : (b : Bool) (x y : FramePlace) → Quiet x → Quiet y → Quiet (if b then x else y)
either_place true x y one other = one
either_place false x y one other = other

either_walk : (b : Bool) (x y : Walk) → NoItd x.hand → NoItd y.hand → NoItd (if b then x else y).hand
either_walk true x y one other = one
either_walk false x y one other = other

sent_quiet : (b : Bool) (ask : Ask) (out : List ℕ) (left_by : Reply → FramePlace) (p : FramePlace)
    → ((reply : Reply) → Quiet (left_by reply)) → AllPlaces Quiet (sent b ask out left_by p)
sent_quiet true ask out left_by p quiet = quiet
sent_quiet false ask out left_by p quiet = tt

queue_wrote : (b : Bool) (h : HeldQueue) (outcome : Outcome) (p : FramePlace) → Quiet (queue_wrote_at b h outcome p)
queue_wrote true h outcome p = either_walk (goes_on h.made h.copy.queue_head outcome) _ _ tt tt
queue_wrote false h outcome p = tt

queue_quiet : (row : QueueRow) (h : HeldQueue) (p : FramePlace) → AllPlaces Quiet (queue_effect row h p)
queue_quiet queues.Fault h p = tt
queue_quiet queues.Skip h p = tt
queue_quiet (queues.Advance a t) h p = either_place (reaches_queue_head p.memory h.copy.at) _ _ tt tt
queue_quiet (queues.Transact t) h p =
    sent_quiet (sending t h.copy.queue_head p.memory).all _ _ _ (record p { memory = (sending t h.copy.queue_head p.memory).memory })
    (λ reply. tt)
queue_quiet queues.Miss h p =
    let w : Writing = queue_writing (missed h).copy miss_outcome p.walk.reply p.memory in
    queue_wrote w.all (missed h) miss_outcome (record p { memory = w.memory })
queue_quiet (queues.WriteBack outcome) h p =
    let w : Writing = queue_writing h.copy outcome p.walk.reply p.memory in
    queue_wrote w.all h outcome (record p { memory = w.memory })

sitd_wrote : (b : Bool) (h : HeldSitd) (outcome : SplitOutcome) (p : FramePlace) → Quiet (sitd_wrote_at b h outcome p)
sitd_wrote true h outcome p = tt
sitd_wrote false h outcome p = tt

sitd_quiet : (row : SitdRow) (h : HeldSitd) (p : FramePlace) → AllPlaces Quiet (sitd_effect row h p)
sitd_quiet sitds.Skip h p = tt
sitd_quiet (sitds.Transact t) h p =
    sent_quiet (sitd_sending t h.sitd p.memory).all _ _ _ (record p { memory = (sitd_sending t h.sitd p.memory).memory }) (λ reply. tt)
sitd_quiet sitds.Miss h p =
    let w : Writing = sitd_writing (missed_copy h) Failed p.walk.reply p.memory in
    sitd_wrote w.all (missed_copy h) Failed (record p { memory = w.memory })
sitd_quiet (sitds.WriteBack outcome) h p =
    let w : Writing = sitd_writing h outcome p.walk.reply p.memory in
    sitd_wrote w.all h outcome (record p { memory = w.memory })

-- ---- what was fetched active is what is done, and what is in hand

abbrev pub Serves : List ℕ → List ℕ → WalkStep → FramePlace → Type 0
Serves bs ds step q = bs ≡ with_part (part_after Periodic step) q.walk.hand ds

quiet_serves : (bs ds : List ℕ) (step : WalkStep) (e : Effect) → bs ≡ ds → AllPlaces Quiet e → AllPlaces (Serves bs ds step) e
quiet_serves bs ds step e is all =
    map_all Quiet (Serves bs ds step) e (λ q quiet. is ∙ sym (no_itd (part_after Periodic step) q.walk.hand ds quiet)) all

-- ---- nothing in hand

chain_serves : (row : ChainRow) (p : FramePlace) (bs ds : List ℕ) → bs ≡ ds
    → Serves (active_by (microframe_of p.walk.index) row bs) ds (chain_step row) (chain_after row p)
unfolding fetched_itd
chain_serves chains.Fault p bs ds is = is
chain_serves chains.Ends p bs ds is = is
chain_serves (chains.Queue a q) p bs ds is = is
chain_serves (chains.Itd a v) p bs ds is = more_active (slot_of (microframe_of p.walk.index) v).active a bs ds is
chain_serves (chains.Sitd a v) p bs ds is = is

-- ---- an iTD in hand

not_done : (e : Option IsoEnd) (h : HeldItd) (at : ℕ) (active : Bool) (ds : List ℕ) → h.at ≡ at → h.slot.active ≡ true
    → with_itd e h ds ≡ at ∷ ds
not_done None h at active ds one on = ap (λ (b : Bool). if b then h.at ∷ ds else ds) on ∙ ap (λ (a : ℕ). a ∷ ds) one
not_done (Some ended) h at active ds one on = ap (λ (a : ℕ). a ∷ ds) one

heard_active : (h : HeldItd) (heard : Heard) → (after_heard h heard).slot.active ≡ h.slot.active
heard_active h (Packet k n) = refl
heard_active h TooLong = refl
heard_active h Wrong = refl

either_itd : (P : HeldItd → Type 0) (b : Bool) (x y : HeldItd) → P x → P y → P (if b then x else y)
either_itd P true x y one other = one
either_itd P false x y one other = other

abbrev IsSame : HeldItd → HeldItd → Type 0
IsSame h g = (g.at ≡ h.at) × (g.slot.active ≡ h.slot.active)

after_same : (h : HeldItd) (reply : Reply) → IsSame h (itd_after reply h)
unfolding after_in after_out
after_same h reply =
    either_itd (IsSame h) h.itd.dir_in (after_in h reply) (after_out h)
    (heard_at h (heard_in h reply), heard_active h (heard_in h reply)) (refl, refl)

after_serves : (h : HeldItd) (reply : Reply) (ds : List ℕ) → h.slot.active ≡ true
    → with_itd (itd_after reply h).ended (itd_after reply h) ds ≡ h.at ∷ ds
after_serves h reply ds on =
    let same = after_same h reply in
    not_done (itd_after reply h).ended (itd_after reply h) h.at true ds same.0 (same.1 ∙ on)

module _ (h : HeldItd) (p : FramePlace) (bs ds : List ℕ) where
  abbrev Then : ItdRow → Type 0
  Then row = AllPlaces (Serves bs (done_in (Some (hands.Itd h)) (hc_step (itd_step row h p)) ds) (itd_step row h p)) (itd_effect row h p)

  -- a transaction
  sent_serves : (t : IsoTransaction) (b : Bool) → (itd_sending t h p.memory).all ≡ b → (itd_step (itds.Transact t) h p ≢ walks.Fault)
      → h.slot.active ≡ true → bs ≡ h.at ∷ ds → Then (itds.Transact t)
  sent_serves t true all sound on is =
      subst (λ (b : Bool). AllPlaces (Serves bs (done_in (Some (hands.Itd h)) (hc_step (if b then walks.Transact else walks.Fault)) ds)
      (if b then walks.Transact else walks.Fault)) (sent b t.ask (itd_sending t h p.memory).bytes
      (itd_left_by t h (record p { memory = (itd_sending t h p.memory).memory }))
      (record p { memory = (itd_sending t h p.memory).memory })))
      (sym all) (λ reply. is ∙ sym (after_serves h reply ds on))
  sent_serves t false all sound on is = absurd (sound (ap (λ (b : Bool). if b then walks.Transact else walks.Fault) all))

  timed_serves : (late : Bool) (t : IsoTransaction) → late ≡ false
      → (itd_step (if late then itds.Skip else itds.Transact t) h p ≢ walks.Fault) → h.slot.active ≡ true → bs ≡ h.at ∷ ds
      → Then (if late then itds.Skip else itds.Transact t)
  timed_serves true t in_time sound on is = absurd (false≢true (sym in_time))
  timed_serves false t in_time sound on is = sent_serves t (itd_sending t h p.memory).all refl sound on is

  open_serves : (active : Bool) → h.slot.active ≡ active
      → (active && nat_lt p.walk.left (itd_transaction h).price.0) ≡ false
      → (itd_step (if active then timed_row p.walk.left (itd_transaction h) else itds.Skip) h p ≢ walks.Fault)
      → bs ≡ (if active then h.at ∷ ds else ds) → Then (if active then timed_row p.walk.left (itd_transaction h) else itds.Skip)
  open_serves true on in_time sound is =
      timed_serves (nat_lt p.walk.left (itd_transaction h).price.0) (itd_transaction h) in_time sound on is
  open_serves false off in_time sound is = is

  -- its write-back
  wrote_serves : (ended : IsoEnd) (b : Bool) → (itd_written h p.walk.got p.memory).all ≡ b
      → (itd_step (itds.WriteBack ended) h p ≢ walks.Fault)
      → bs ≡ h.at ∷ ds → Then (itds.WriteBack ended)
  wrote_serves ended true all sound is =
      subst (λ (b : Bool). Serves bs (done_in (Some (hands.Itd h)) (hc_step (if b then walks.WriteBack else walks.Fault)) ds)
      (if b then walks.WriteBack else walks.Fault)
      (itd_wrote_at b h ended (record p { memory = (itd_written h p.walk.got p.memory).memory }))) (sym all) is
  wrote_serves ended false all sound is = absurd (sound (ap (λ (b : Bool). if b then walks.WriteBack else walks.Fault) all))

  itd_serves : (e : Option IsoEnd) → is_late_itd p.walk.left h e ≡ false → (itd_step (ended_row p.walk.left h e) h p ≢ walks.Fault)
      → bs ≡ with_itd e h ds → Then (ended_row p.walk.left h e)
  itd_serves None in_time sound is = open_serves h.slot.active refl in_time sound is
  itd_serves (Some ended) in_time sound is = wrote_serves ended (itd_written h p.walk.got p.memory).all refl sound is

-- ---- any event

pub hand_serves : (p : FramePlace) (hand : Option Hand) (bs ds : List ℕ) → step_at p hand ≢ walks.Fault → is_late_at p hand ≡ false
    → bs ≡ with_hand hand ds
    → AllPlaces (Serves (active_at hand (microframe_of p.walk.index) (chain_row p.memory p.walk.cursor) bs)
    (done_in hand (hc_step (step_at p hand)) ds) (step_at p hand)) (effect_at p hand)
hand_serves p None bs ds sound in_time is =
    chain_serves (chain_row p.memory p.walk.cursor) (reading (chain_read p.memory p.walk.cursor) p) bs ds is
hand_serves p (Some (hands.Queue h)) bs ds sound in_time is =
    quiet_serves bs ds (step_at p (Some (hands.Queue h))) (effect_at p (Some (hands.Queue h))) is
    (queue_quiet (queue_row p h) h (reading (queue_read p h) p))
hand_serves p (Some (hands.Itd h)) bs ds sound in_time is = itd_serves h p bs ds h.ended in_time sound is
hand_serves p (Some (hands.Sitd h)) bs ds sound in_time is =
    quiet_serves bs ds (step_at p (Some (hands.Sitd h))) (effect_at p (Some (hands.Sitd h))) is (sitd_quiet (sitd_row p h) h p)
