-- From the Begin of its microframe to the write-back of the transaction that is due of the queue head of an interrupt endpoint below a hub,
-- event by event (EHCI 1.0, 4.4, 4.6, 4.10, 4.10.2 to 4.10.4 and 4.12.2.4).
use Rattle.std.proofs.Common.{◌≡◌, ◌≢◌, ℕ, ◌+◌, ◌*◌, ◌≤◌, Bool, true, false, List, ◌∷◌, Option, Some, None, ap, refl, sym, subst, ◌∙◌}
use Rattle.std.proofs.Common.{⊎_elim, inl, inr, ◌⊎◌}
use Rattle.std.specs.Prelude.{nat_lt}
use Rattle.std.proofs.lemmas.Bool.{cases_eq, false≢true}
use Rattle.std.proofs.lemmas.Option.{same_Some}
use Rattle.law_microframes.proofs.Common.{frame_row}
use Rattle.usb_base.specs.declared.endpoints.EpDesc.{EpDesc}
use Rattle.usb_base.specs.declared.packets.Reply.{Reply}
use Rattle.hub_keys.specs.declared.key.Key.{Key}
use Rattle.word_mem.specs.Memory.{Mem, word_at}
use Rattle.link_words.specs.declared.kinds.QtdLink.TheVariants as qtd_links
use Rattle.link_words.specs.Links.{qtd_link_of}
use Rattle.qh_qtd.specs.declared.qtd.Qtd.{Qtd}
use Rattle.qh_qtd.specs.declared.queue_head.Qh.{Qh}
use Rattle.qh_qtd.specs.declared.token.Token.{Token}
use Rattle.qh_qtd.specs.Token.{token_at}
use Rattle.toggle_error.specs.declared.host.Outcome.{Outcome}
use Rattle.bandwidth.specs.declared.placements.Placement.{Placement}
use Rattle.mem_queues.specs.Structures.{queue_head_at_address}
use Rattle.drv_periodic_table.specs.Periodic.{dir_of}
use Rattle.drv_table.specs.Words.{is_high}
use Rattle.hc_copy.specs.Overlay.{advanced, taken_token}
use Rattle.hc_copy.specs.Transacting.{call_in, outcome_in}
use Rattle.hc_copy.specs.Visits.{next_pointer}
use Rattle.hc_masks.specs.Masks.{has}
use Rattle.hc_interrupt.specs.declared.turns.Turn.TheVariants as turns
use Rattle.hc_interrupt.specs.Turns.{microframe_of, turn_of, planned, is_last_of}
use Rattle.async_walk.specs.declared.state.WalkStep.TheVariants as walks
use Rattle.periodic_walk.specs.declared.state.Hand.{Hand}
use Rattle.periodic_walk.specs.declared.state.Hand.TheVariants as hands
use Rattle.periodic_walk.specs.declared.state.HeldQueue.{HeldQueue}
use Rattle.periodic_walk.specs.Chain.{chain_row}
use Rattle.periodic_walk.specs.Place.{FramePlace}
use Rattle.periodic_walk.specs.Queue.{queue_left_by, transacted, with_queue}
use Rattle.periodic_walk.specs.Walk.{held_address}
use Rattle.hc_core.specs.declared.controller.ControllerRow.TheVariants as rows
use Rattle.hc_core.specs.declared.controller.HcStep.{HcStep}
use Rattle.hc_core.specs.declared.controller.HcStep.TheVariants as steps
use Rattle.hc_core.specs.declared.controller.MicroframePart.TheVariants.{Periodic}
use Rattle.hc_core.specs.Controller.{part_after, frame_place}
use Rattle.bus_wire.specs.Bus.{Bus, Fixed, is_held as may_not_be_used, reply_of, transact_after}
use Rattle.bus_world.specs.World.{World, FrameWalked, frame_by, framed, controller_parts, with_turned, controller_row, controller_next, kind_next}
use Rattle.claims_world.specs.Coming.{IsInItsFrames}
use Rattle.claims_world.specs.Due.{IsActiveToken}
use Rattle.claims_world.specs.InTime.{is_late_at, is_late_queue, is_late_turn, IsInTime}
use Rattle.claims_world.specs.QueuesMade.{QueueMade, made_as, made_at, HasMade}
use Rattle.claims_world.specs.SoFar.{SoFar, so_far_after, HasFound}
use Rattle.claims_world.specs.Visits.{is_held_now, fetched_by}
use Rattle.law_world.specs.memory.Mixed.{Standing, IsMixedWorld}
use Rattle.law_microframes.specs.time.DataQueues.{pid_of, QueuesSendData}
use Rattle.law_microframes.specs.due.repeats.Hearing.{IsHeardOn}
use Rattle.law_microframes.specs.translators.Results.{pipeline_for}
use Rattle.law_microframes.specs.translators.Rooms.{HasRoom}
use Rattle.law_microframes.specs.visits.Belonging.{HaveFields, HeadsHaveFields}
use Rattle.law_microframes.proofs.lemmas.due.Fetched.{HasFetched, has_fetched, comes_goes}
use Rattle.law_microframes.proofs.lemmas.due.FetchedKinds.{fetched_queue}
use Rattle.law_microframes.proofs.lemmas.due.Fields.{its_token}
use Rattle.law_microframes.proofs.lemmas.due.Held.{GoesTo, to_itself, to_qtd, advanced_token}
use Rattle.law_microframes.proofs.lemmas.due.Turning.{in_periodic, no_fault, walked_to, kind_is}
use Rattle.law_microframes.proofs.lemmas.due.Visiting.{call_made, bytes_read, transacts, asks, is_there, advances, is_taken, writes}
use Rattle.law_microframes.proofs.lemmas.due.lemmas.repeats.AskedHeads.{places_read}
use Rattle.law_microframes.proofs.lemmas.visits.BelongReads.{read_fields}
use Rattle.law_reports.specs.lines.Lined.{Lines}
use Rattle.law_reports.specs.pipes.Declared.{Sides}
use Rattle.law_reports.specs.pipes.Piped.{Heads, IsPiped}
use Rattle.law_reports.proofs.lemmas.due_at_begin.Ahead.{HasWork}
use Rattle.law_reports.proofs.lemmas.due_at_begin.Aside.{its_words}
use Rattle.law_reports.proofs.lemmas.due_at_begin.Asking.{BusGoes, bus_goes}
use Rattle.law_reports.proofs.lemmas.due_at_begin.SplitHeads.{IsHeadOf, IsSized, advanced_of, its_fields}
use Rattle.law_reports.proofs.lemmas.due_at_begin.SplitTurns.{IsAsDue, same_turn, take_turn, left_as, made_as_due}
use Rattle.law_reports.proofs.lemmas.due_at_begin.Stages.{unfound_next}
use Rattle.law_reports.proofs.lemmas.due_at_begin.Walked.{walked_work, part_stays, index_same, apart_then}

-- ---- what is due

-- what the host hears in the transaction of a queue head
abbrev pub reply_to : Fixed → Bus → Qh → List ℕ → Bool → Reply
reply_to fixed b q out last = reply_of fixed b (call_in (planned q) out last).ask (call_in (planned q) out last).out

-- a transaction of a queue head like this one, of the endpoint so described, comes in the microframe of FRINDEX f, and what it leaves is so
-- where B holds of the bus
pub record IsTransactionDue (fixed : Fixed) (x : EpDesc) (B : Bus → Type 0) (f n : ℕ) (v : Qh) (P : QueueMade → Type 0) : Type 0 where
  pub work : IsActiveToken v.token
  pub turn : turn_of f v ≡ turns.Work
  pub leaves : (q : Qh) → IsAsDue v q → IsHeadOf x q → (b : Bus) → IsHeardOn fixed b x → B b → (out : List ℕ) (last : Bool)
      → last ≡ is_last_of f q → P (made_as_due f n q out last (reply_to fixed b q out last))

-- each pipeline has room for a start-split of each key
abbrev pub HaveRoom : Bus → Type 0
HaveRoom b = (hub port : ℕ) (key : Key) → HasRoom key (pipeline_for b.hubs hub port)

-- .. and what it leaves of the bus is so
abbrev pub Brings : Fixed → EpDesc → (Bus → Type 0) → (Bus → Type 0) → Qh → Type 0
Brings fixed x B A v = (q : Qh) → IsAsDue v q → IsHeadOf x q → q.token.pid ≡ pid_of (dir_of x.name.way) → (b : Bus) → IsHeardOn fixed b x
    → HaveRoom b → B b → (out : List ℕ) (last : Bool)
    → A (transact_after fixed b (call_in (planned q) out last).ask (call_in (planned q) out last).out)

-- ---- the stages

pub record IsSplitAhead (fixed : Fixed) (B : Bus → Type 0) (w : World) (t : SoFar) (q f : ℕ) (p : Placement) (v : Qh) : Type 0 where
  pub periodic : w.control.part ≡ Periodic
  pub index : w.control.frame.index ≡ f
  pub free : is_held_now fixed w ≡ false
  pub unfound : (o : World) → HasFound (32 * q) o t.found → ⊥
  pub apart : (a : ℕ) → held_address w.control.frame.hand ≡ Some a → 32 * q ≢ a
  pub overlay : Bool
  pub work : HasWork w.memory (32 * q) v overlay
  pub bit : overlay ≡ false → has p.smask (microframe_of f) ≡ true
  pub bus : B w.bus

pub record IsSplitHeld (fixed : Fixed) (x : EpDesc) (B : Bus → Type 0) (w : World) (n f : ℕ) (v : Qh) : Type 0 where
  pub periodic : w.control.part ≡ Periodic
  pub index : w.control.frame.index ≡ f
  pub held : HeldQueue
  pub hand : w.control.frame.hand ≡ Some (hands.Queue held)
  pub at : held.copy.at ≡ n
  pub fresh : held.copy.settled ≡ None
  pub free : is_held_now fixed w ≡ false
  pub works : Qh
  pub goes : GoesTo w.memory held.copy.queue_head works
  pub due : IsAsDue v works
  pub bit : held.copy.queue_head.token.active ≡ false → has held.copy.queue_head.smask (microframe_of f) ≡ true
  pub head : IsHeadOf x held.copy.queue_head
  pub bus : B w.bus

pub record IsSplitTold (w : World) (P : QueueMade → Type 0) : Type 0 where
  pub periodic : w.control.part ≡ Periodic
  pub held : HeldQueue
  pub hand : w.control.frame.hand ≡ Some (hands.Queue held)
  pub outcome : Outcome
  pub settled : held.copy.settled ≡ Some outcome
  pub made : QueueMade
  pub so : P made
  pub is : (ms : List QueueMade)
      → made_as held.copy.settled held.copy.at held.copy.queue_head w.control.frame.reply ms ≡ made ∷ ms

-- B holds of the bus until its transaction, and A from then on
pub data SplitStage (fixed : Fixed) (x : EpDesc) (B A : Bus → Type 0) (w : World) (t : SoFar) (ms : List QueueMade) (q f : ℕ)
    (p : Placement) (v : Qh) (P : QueueMade → Type 0) : Type 0 where
  is_ahead : IsSplitAhead fixed B w t q f p v → SplitStage fixed x B A w t ms q f p v P
  is_held : IsSplitHeld fixed x B w (32 * q) f v → SplitStage fixed x B A w t ms q f p v P
  is_told : IsSplitTold w P → A w.bus → SplitStage fixed x B A w t ms q f p v P
  is_done : HasMade P ms → A w.bus → SplitStage fixed x B A w t ms q f p v P

-- ---- what was made stays made

more_as : (P : QueueMade → Type 0) (o : Option Outcome) (a : ℕ) (q : Qh) (r : Reply) (ms : List QueueMade) → HasMade P ms
    → HasMade P (made_as o a q r ms)
more_as P None a q r ms d = d
more_as P (Some outcome) a q r ms d = inr d

pub more_made : (P : QueueMade → Type 0) (hand : Option Hand) (r : Reply) (step : HcStep) (ms : List QueueMade) → HasMade P ms
    → HasMade P (made_at hand r step ms)
more_made P (Some (hands.Queue h)) r steps.WriteBack ms d = more_as P h.copy.settled h.copy.at h.copy.queue_head r ms d
more_made P _ r _ ms d = d

-- ---- an event at the copy in hand

advanced_due : (v q : Qh) (a : ℕ) (old new : Qtd) → (advanced q a new).token ≡ (advanced q a old).token → IsAsDue v (advanced q a old)
    → IsAsDue v (advanced q a new)
unfolding advanced
advanced_due v q a old new token k = record {
  token = token ∙ k.token;
  eps = k.eps;
  smask = k.smask;
  cmask = k.cmask;
  progress = k.progress;
  tag = k.tag;
}

abbrev one_made : ℕ → Qh → Outcome → List QueueMade → Reply → List QueueMade
one_made a z outcome ms r = record { at = a; queue = z; heard = r; outcome = outcome } ∷ ms

module _ (fixed : Fixed) (y : EpDesc) (B : Bus → Type 0) (w : World) (k : IsMixedWorld w) (q f : ℕ) (v : Qh) (P : QueueMade → Type 0)
    (d : IsTransactionDue fixed y B f (32 * q) v P) where
  module _ (A : Bus → Type 0) (brings : Brings fixed y B A v) (s : IsSplitHeld fixed y B w (32 * q) f v)
      (pid : s.held.copy.queue_head.token.active ≡ true → s.held.copy.queue_head.token.pid ≡ pid_of (dir_of y.name.way))
      (hears : IsHeardOn fixed w.bus y) (room : HaveRoom w.bus) (again : ℕ) (few : again ≤ 4000000) (timely : IsInTime fixed again w) where
    abbrev place : FramePlace
    place = frame_place (controller_parts w)

    abbrev x : Qh
    x = s.held.copy.queue_head

    abbrev Then : Type 0
    Then = IsSplitHeld fixed y B (controller_next fixed w) (32 * q) f v
        ⊎ (IsSplitTold (controller_next fixed w) P × A (controller_next fixed w).bus)

    row : controller_row w ≡ rows.Frame
    row = frame_row w (hands.Queue s.held) k s.periodic s.hand

    not_late : turn_of w.control.frame.index x ≡ turns.Work → nat_lt w.control.frame.left (planned x).price.0 ≡ false
    not_late turn =
        sym (ap (is_late_at place) s.hand ∙ ap (is_late_queue w.control.frame.left w.control.frame.index x) s.fresh
        ∙ ap (is_late_turn w.control.frame.left x) turn)
        ∙ timely.in_time row s.free few

    -- its transaction
    worked : IsActiveToken x.token → IsAsDue v x → Then
    worked work due =
        let turn : turn_of w.control.frame.index x ≡ turns.Work =
        ap (λ (i : ℕ). turn_of i x) s.index ∙ same_turn f v x due work d.work ∙ d.turn in
        let sound = no_fault fixed w row k in
        let late = not_late turn in
        let call = call_made place s.held s.hand sound s.fresh turn late in
        let sent = (bytes_read place s.held s.hand sound s.fresh turn late).bytes in
        let reply : Reply = reply_of fixed w.bus call.ask call.out in
        let last : Bool = is_last_of w.control.frame.index x in
        let there : FramePlace = record place { memory = (bytes_read place s.held s.hand sound s.fresh turn late).memory } in
        let u : FrameWalked = record
        { place = queue_left_by (planned x) sent s.held there reply; bus = transact_after fixed w.bus call.ask call.out } in
        let next : controller_next fixed w ≡ with_turned w (framed (controller_parts w) u) =
        walked_to fixed w row u (ap (λ e. frame_by fixed e w.bus) (asks place s.held s.hand sound s.fresh turn late)) in
        inr (
          record {
            periodic = ap (λ (y : World). y.control.part) next
                ∙ ap (part_after Periodic) (transacts place s.held s.hand sound s.fresh turn late);
            held = transacted w.control.frame.index (planned x) sent reply s.held;
            hand = ap (λ (y : World). y.control.frame.hand) next;
            outcome = outcome_in (planned x) sent last reply;
            settled = refl;
            made = made_as_due f (32 * q) x sent last reply;
            so = d.leaves x due s.head w.bus hears s.bus sent last (ap (λ (i : ℕ). is_last_of i x) s.index);
            is = λ ns.
                ap (one_made s.held.copy.at (left_as w.control.frame.index x sent last reply) (outcome_in (planned x) sent last reply) ns)
                (ap (λ (y : World). y.control.frame.reply) next)
                ∙ ap (λ (i : ℕ). made_as_due i s.held.copy.at x sent last reply ∷ ns) s.index
                ∙ ap (λ (a : ℕ). made_as_due f a x sent last reply ∷ ns) s.at;
          },
          subst A (sym (ap (λ (y : World). y.bus) next)) (brings x due s.head (pid work.active) w.bus hears room s.bus sent last),
        )

    -- a qTD is taken
    took : (a : ℕ) (old : Qtd) → x.token.active ≡ false → x.token.halted ≡ false → qtd_link_of (next_pointer x) ≡ qtd_links.To a
        → token_at (word_at w.memory (a + 8)) ≡ old.token → IsActiveToken old.token → IsAsDue v (advanced x a old) → Then
    took a old idle unhalted leads word work due =
        let turn : turn_of w.control.frame.index x ≡ turns.Take (qtd_links.To a) =
        ap (λ (i : ℕ). turn_of i x) s.index ∙ take_turn f x idle unhalted (s.bit idle) ∙ ap turns.Take leads in
        let sound = no_fault fixed w row k in
        let found = is_there place s.held s.hand sound s.fresh a turn in
        let same : old.token ≡ found.qtd.token = sym word ∙ its_token w.memory a found.qtd found.here in
        let active : found.qtd.token.active ≡ true = ap (λ (y : Token). y.active) (sym same) ∙ work.active in
        let taken = is_taken place s.held s.hand sound s.fresh a turn found.qtd found.here active in
        let u : FrameWalked = record { place = taken.place; bus = w.bus } in
        let next : controller_next fixed w ≡ with_turned w (framed (controller_parts w) u) =
        walked_to fixed w row u (ap (λ e. frame_by fixed e w.bus) taken.effect) in
        let tokens : (advanced x a old).token ≡ (advanced x a found.qtd).token =
        advanced_token x a old ∙ ap (taken_token x) same ∙ sym (advanced_token x a found.qtd) in
        let on : (advanced x a found.qtd).token.active ≡ true =
        ap (λ (y : Token). y.active) (advanced_token x a found.qtd) ∙ active in
        inl (record {
          periodic = ap (λ (y : World). y.control.part) next
              ∙ ap (part_after Periodic) (advances place s.held s.hand sound s.fresh a turn found.qtd found.here active);
          index = ap (λ (y : World). y.control.frame.index) next ∙ taken.index ∙ s.index;
          held = with_queue s.held (advanced x a found.qtd);
          hand = ap (λ (y : World). y.control.frame.hand) next ∙ taken.hand;
          at = s.at;
          fresh = s.fresh;
          free = ap (λ (y : World). is_held_now fixed y) next ∙ s.free;
          works = advanced x a found.qtd;
          goes = to_itself (record {
            active = on;
            unhalted = ap (λ (y : Token). y.halted) (advanced_token x a found.qtd) ∙ ap (λ (y : Token). y.halted) (sym same)
                ∙ work.unhalted;
          });
          due = advanced_due v x a old found.qtd (sym tokens) due;
          bit = λ off. absurd (false≢true (sym off ∙ on));
          head = advanced_of y x a found.qtd s.head;
          bus = subst B (sym (ap (λ (z : World). z.bus) next)) s.bus;
        })

    goes_by : (z : Qh) → GoesTo w.memory x z → IsAsDue v z → Then
    goes_by _ (to_itself work) due = worked work due
    goes_by _ (to_qtd a old idle unhalted leads aligned word work) due = took a old idle unhalted leads word work due

    pub split_held : IsSplitHeld fixed y B (controller_next fixed w) (32 * q) f v
        ⊎ (IsSplitTold (controller_next fixed w) P × A (controller_next fixed w).bus)
    split_held = goes_by s.works s.goes s.due

  -- ---- its write-back
  module _ (row : controller_row w ≡ rows.Frame) (ms : List QueueMade) (s : IsSplitTold w P) where
    pub split_written : HasMade P (made_at w.control.frame.hand w.control.frame.reply (kind_next w) ms)
    split_written =
        let kind : kind_next w ≡ steps.WriteBack =
        kind_is fixed w row walks.WriteBack
        (writes (frame_place (controller_parts w)) s.held s.hand (no_fault fixed w row k) s.outcome s.settled) in
        subst (HasMade P)
        (sym (ap (λ (hand : Option Hand). made_at hand w.control.frame.reply (kind_next w) ms) s.hand
        ∙ ap (λ (z : HcStep). made_at (Some (hands.Queue s.held)) w.control.frame.reply z ms) kind ∙ s.is ms))
        (inl s.so)

-- ---- an event of the walk of the frames while it is ahead

module _ (fixed : Fixed) (x : Sides) (s : Standing) (m : Lines) (h : Heads) (w : World) (k : IsPiped fixed x s m h w)
    (heads : HeadsHaveFields w.driver w.memory) (sends : QueuesSendData w.driver w.memory) (row : controller_row w ≡ rows.Frame)
    (tells : (controller_next fixed w).bus.microframe ≡ w.bus.microframe)
    (e q : ℕ) (p : Placement) (i : IsInItsFrames w.driver e q p) (low : is_high i.endpoint.desc.speed ≡ false)
    (sized : IsSized i.endpoint.desc) (y : EpDesc) (its : i.endpoint.desc ≡ y) (B A : Bus → Type 0)
    (stays : (b : Bus) → BusGoes fixed w e b → B w.bus → B b) (f : ℕ) (v : Qh) (P : QueueMade → Type 0)
    (t : SoFar) (ns : List QueueMade) where
  abbrev n : ℕ
  n = 32 * q

  abbrev now : SoFar
  now = so_far_after rows.Frame w t

  abbrev mixed : IsMixedWorld w
  mixed = record { standing = s; mixed = k.mixed }

  abbrev After : Type 0
  After = SplitStage fixed y B A (controller_next fixed w) now ns q f p v P

  module _ (a : IsSplitAhead fixed B w t q f p v) where
    apart_queue : (b : ℕ) → held_address w.control.frame.hand ≡ Some b → 32 * i.endpoint.queue ≢ b
    apart_queue b is same = a.apart b is (ap (λ (c : ℕ). 32 * c) (sym i.queue) ∙ same)

    come_to : w.control.frame.hand ≡ None → (b : ℕ) → fetched_by (chain_row w.memory w.control.frame.cursor) ≡ Some b → b ≡ 32 * q
        → IsSplitHeld fixed y B (controller_next fixed w) (32 * q) f v
    come_to none b is at =
        let z = a.work in
        let c = fetched_queue w mixed (in_periodic fixed w row) e q p i b is at in
        let g : HasFetched w (controller_next fixed w) b c.head = has_fetched fixed w row none b c.head c.is in
        let same : z.queue ≡ c.head =
        same_Some z.queue c.head (sym z.read ∙ ap (queue_head_at_address w.memory) (sym at) ∙ g.read) in
        let fields : HaveFields (word_at w.memory (32 * q + 4)) (word_at w.memory (32 * q + 8)) i.endpoint.desc p =
        its_words w mixed heads e q p i in
        let read = read_fields w.memory (32 * q) c.head (ap (queue_head_at_address w.memory) (sym at) ∙ g.read) in
        let places = places_read w.memory (32 * q) c.head (ap (queue_head_at_address w.memory) (sym at) ∙ g.read) in
        record {
          periodic = g.part;
          index = g.index ∙ a.index;
          held = record { copy = record { at = b; queue_head = c.head; settled = None }; made = 0 };
          hand = g.hand;
          at = at;
          fresh = refl;
          free = ap (λ (u : Bus). may_not_be_used fixed.holds u.microframe) g.bus ∙ a.free;
          works = z.works;
          goes = subst (λ (u : Qh). GoesTo (controller_next fixed w).memory u z.works) same
              (subst (λ (u : Mem). GoesTo u z.queue z.works) (sym g.memory) (comes_goes w.memory (32 * q) z.queue z.works z.read z.next));
          due = z.due;
          bit = λ off.
              subst (λ (mask : ℕ). has mask (microframe_of f) ≡ true) (sym (read.smask ∙ fields.smask))
              (a.bit (sym z.overlay ∙ ap (λ (u : Qh). u.token.active) same ∙ off));
          head = subst (λ (d : EpDesc). IsHeadOf d c.head) its
              (its_fields i.endpoint.desc p (word_at w.memory (32 * q + 4)) (word_at w.memory (32 * q + 8)) c.head sized
              (k.mixed.numbers e i.endpoint i.here) low fields places read);
          bus = subst B (sym g.bus) a.bus;
        }

    goes_ahead : (w.control.frame.hand ≡ None → fetched_by (chain_row w.memory w.control.frame.cursor) ≡ Some (32 * q) → ⊥)
        → IsSplitAhead fixed B (controller_next fixed w) now q f p v
    goes_ahead off = record {
      periodic = part_stays fixed x s m h w k heads sends row e q p i a.apart;
      index = index_same fixed x s m h w k heads sends row e q p i a.apart ∙ a.index;
      free = ap (may_not_be_used fixed.holds) tells ∙ a.free;
      unfound = unfound_next n w t.found w.control.frame.hand (chain_row w.memory w.control.frame.cursor) off a.unfound;
      apart = apart_then fixed x s m h w k heads sends row e q p i a.apart off;
      overlay = a.overlay;
      work = walked_work fixed x s m h w k heads sends row e q p i a.apart v a.overlay a.work;
      bit = a.bit;
      bus = stays (controller_next fixed w).bus (bus_goes fixed x s m h w k heads sends row e i.endpoint i.here i.kind apart_queue) a.bus;
    }

    none_some : (b : ℕ) → ◌≡◌ {A = Option ℕ} None (Some b) → ⊥
    none_some b is = cc

    some_none : (b : Hand) → ◌≡◌ {A = Option Hand} (Some b) None → ⊥
    some_none b is = cc

    by_fetch : w.control.frame.hand ≡ None → (c : Option ℕ) → fetched_by (chain_row w.memory w.control.frame.cursor) ≡ c → After
    by_fetch none None is = is_ahead (goes_ahead (λ held fetched. none_some n (sym is ∙ fetched)))
    by_fetch none (Some b) is =
        ⊎_elim {C = After}
        (λ (here : b ≡ 32 * q). is_held (come_to none b is here))
        (λ (off : b ≢ 32 * q). is_ahead (goes_ahead (λ held fetched. off (same_Some b n (sym is ∙ fetched)))))
        (cases_eq b (32 * q))

    by_hand : (hand : Option Hand) → w.control.frame.hand ≡ hand → After
    by_hand None is = by_fetch is (fetched_by (chain_row w.memory w.control.frame.cursor)) refl
    by_hand (Some b) is = is_ahead (goes_ahead (λ none fetched. some_none b (sym is ∙ none)))

    pub split_ahead : SplitStage fixed y B A (controller_next fixed w) (so_far_after rows.Frame w t) ns q f p v P
    split_ahead = by_hand w.control.frame.hand refl
