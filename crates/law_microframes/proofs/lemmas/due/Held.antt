-- From the fetch of a queue head to the write-back of its transaction, event by event (EHCI 1.0, 4.10, 4.10.2 to 4.10.4).
use Rattle.std.proofs.Common.{◌≡◌, ℕ, ◌+◌, ◌%◌, ◌≤◌, true, false, length, Some, None, ap, refl, sym, subst, ◌∙◌}
use Rattle.std.specs.Prelude.{min, nat_lt}
use Rattle.law_microframes.proofs.Common.{frame_row}
use Rattle.usb_base.specs.declared.endpoints.EpName.{EpName}
use Rattle.usb_base.specs.declared.packets.Reply.{Reply}
use Rattle.usb_base.specs.declared.packets.Way.{Way}
use Rattle.endpoint_script.specs.declared.endpoint.Role.{Role}
use Rattle.endpoint_script.specs.declared.rows.TakeRow.TheVariants.{Takes}
use Rattle.endpoint_script.specs.Taking.{has_room, next_row}
use Rattle.word_mem.specs.Memory.{Mem, word_at}
use Rattle.mem_bytes.proofs.Loads.{length-bytes_at}
use Rattle.link_words.specs.declared.kinds.QtdLink.TheVariants as qtd_links
use Rattle.link_words.specs.Links.{qtd_link_of}
use Rattle.qh_qtd.specs.declared.qtd.Qtd.{Qtd}
use Rattle.qh_qtd.specs.declared.queue_head.Qh.{Qh}
use Rattle.qh_qtd.specs.declared.token.Token.{Token}
use Rattle.qh_qtd.specs.Token.{token_at}
use Rattle.toggle_error.specs.declared.host.Outcome.TheVariants.{Moved}
use Rattle.toggle_error.specs.declared.host.Outcome.TheVariants as outcomes
use Rattle.hc_copy.specs.Overlay.{advanced, taken_token, pages_of, buffer_place}
use Rattle.hc_copy.specs.Visits.{next_pointer}
use Rattle.hc_masks.specs.Masks.{has}
use Rattle.hc_interrupt.specs.declared.turns.Turn.TheVariants as turns
use Rattle.hc_interrupt.specs.Turns.{microframe_of, turn_of, planned, is_last_of}
use Rattle.periodic_walk.specs.declared.state.Hand.TheVariants as hands
use Rattle.periodic_walk.specs.declared.state.HeldQueue.{HeldQueue}
use Rattle.periodic_walk.specs.Place.{FramePlace}
use Rattle.periodic_walk.specs.Queue.{queue_left_by, transacted, with_queue}
use Rattle.hc_core.specs.declared.controller.ControllerRow.TheVariants as rows
use Rattle.hc_core.specs.declared.controller.MicroframePart.TheVariants.{Periodic}
use Rattle.hc_core.specs.Controller.{part_after, frame_place}
use Rattle.bus_wire.specs.Bus.{Bus, Fixed, reply_of, transact_after}
use Rattle.bus_world.specs.World.{World, FrameWalked, frame_by, framed, controller_parts, with_turned, controller_row, controller_next}
use Rattle.claims_world.specs.InTime.{is_late_at, is_late_queue, is_late_turn, IsInTime}
use Rattle.claims_world.specs.Prices.{left_bytes}
use Rattle.claims_world.specs.Visits.{is_held_now}
use Rattle.drv_periodic_table.specs.Periodic.{dir_of}
use Rattle.law_world.specs.memory.Mixed.{IsMixedWorld}
use Rattle.law_microframes.specs.time.DataQueues.{pid_of}
use Rattle.claims_world.specs.SoFar.{SoFar, HasMoved}
use Rattle.claims_world.specs.Due.{IsActiveToken, MovesPacket, by_packet, by_taking, bytes_moved, CanMove}
use Rattle.law_microframes.proofs.lemmas.due.Answering.{ready_transactions_move}
use Rattle.law_microframes.proofs.lemmas.due.Fields.{its_token}
use Rattle.law_microframes.proofs.lemmas.due.Turning.{no_fault, walked_to}
use Rattle.law_microframes.proofs.lemmas.due.Visiting.{turn_is, call_made, bytes_read, transacts, asks, is_there, advances, is_taken}

-- ---- what it goes on to: the token of that qTD stays as it was read, while links and buffer pointers aren't looked at

pub data GoesTo (m : Mem) (q : Qh) : Qh → Type 0 where
  to_itself : IsActiveToken q.token → GoesTo m q q
  to_qtd : (a : ℕ) (t : Qtd) → q.token.active ≡ false → q.token.halted ≡ false → qtd_link_of (next_pointer q) ≡ qtd_links.To a → a % 4 ≡ 0
      → token_at (word_at m (a + 8)) ≡ t.token → IsActiveToken t.token → GoesTo m q (advanced q a t)

-- the queue head of an endpoint of this name, in its microframe
pub record IsItsQueue (q : Qh) (u : ℕ) (name : EpName) : Type 0 where
  pub high : q.eps ≡ 2
  pub bit : has q.smask u ≡ true
  pub addr : q.addr ≡ name.addr
  pub number : q.ep ≡ name.num

-- the device is ready for a packet of so many bytes
pub record CanMoveBytes (fixed : Fixed) (b : Bus) (name : EpName) (v : Qh) (bytes : ℕ) : Type 0 where
  pub ready : CanMove fixed b name v
  pub moves : bytes_moved ready.answers ≡ bytes

pub record IsHeldAt (fixed : Fixed) (w : World) (n u : ℕ) (name : EpName) (bytes : ℕ) : Type 0 where
  pub periodic : w.control.part ≡ Periodic
  pub index : microframe_of w.control.frame.index ≡ u
  pub held : HeldQueue
  pub hand : w.control.frame.hand ≡ Some (hands.Queue held)
  pub at : held.copy.at ≡ n
  pub fresh : held.copy.settled ≡ None
  pub queue : IsItsQueue held.copy.queue_head u name
  pub free : is_held_now fixed w ≡ false
  pub works : Qh
  pub goes : GoesTo w.memory held.copy.queue_head works
  pub can : CanMoveBytes fixed w.bus name works bytes
  pub pid : works.token.pid ≡ pid_of (dir_of name.way)

pub record IsToldAt (w : World) (n u bytes : ℕ) : Type 0 where
  pub periodic : w.control.part ≡ Periodic
  pub index : microframe_of w.control.frame.index ≡ u
  pub held : HeldQueue
  pub hand : w.control.frame.hand ≡ Some (hands.Queue held)
  pub at : held.copy.at ≡ n
  pub settled : held.copy.settled ≡ Some (Moved bytes)

pub data Stage (fixed : Fixed) (w : World) (t : SoFar) (n u : ℕ) (name : EpName) (bytes : ℕ) : Type 0 where
  is_held : IsHeldAt fixed w n u name bytes → Stage fixed w t n u name bytes
  is_told : IsToldAt w n u bytes → Stage fixed w t n u name bytes
  is_done : HasMoved n bytes t.moved → Stage fixed w t n u name bytes

-- ---- the token and the packet size alone tell whether the device is ready

left_as : (v x : Qh) → v.token ≡ x.token → v.max ≡ x.max → left_bytes v ≡ left_bytes x
left_as v x token max = ap (λ (t : Token). min v.max t.total) token ∙ ap (λ (n : ℕ). min n x.token.total) max

answered_as : (way : Way) (v x : Qh) (part : Role) → v.token ≡ x.token → v.max ≡ x.max → (m : MovesPacket way v part)
    → (l : MovesPacket way x part) × (bytes_moved l ≡ bytes_moved m)
answered_as _ _ x _ token max (by_packet v s bytes rest items short same) = (
  by_packet x s bytes rest items
      (subst (λ (n : ℕ). length bytes ≤ n) (left_as v x token max) short) (same ∙ ap (λ (t : Token). t.toggle) token),
  refl,
)
answered_as _ _ x _ token max (by_taking v t unpinged takes same) = (
  by_taking x t (ap (λ (k : Token). k.ping) (sym token) ∙ unpinged)
      (subst (λ (n : ℕ). next_row t.items (has_room t n) ≡ Takes) (left_as v x token max) takes)
      (same ∙ ap (λ (k : Token). k.toggle) token),
  sym (left_as v x token max),
)

pub ready_as : (fixed : Fixed) (b c : Bus) (name : EpName) (v x : Qh) (bytes : ℕ) → b ≡ c → v.token ≡ x.token → v.max ≡ x.max
    → CanMoveBytes fixed b name v bytes → CanMoveBytes fixed c name x bytes
ready_as fixed b c name v x bytes bus token max can =
    let r : CanMove fixed b name v = can.ready in
    let also = answered_as name.way v x r.part token max r.answers in
    subst (λ (d : Bus). CanMoveBytes fixed d name x bytes) bus (record {
      ready = record {
        place = r.place;
        part = r.part;
        heard = r.heard;
        answers = also.0;
        packet = r.packet;
        next = r.next;
        none_lost = r.none_lost;
      };
      moves = also.1 ∙ can.moves;
    })

-- ---- one event at the copy in hand

advanced_queue : (q : Qh) (a : ℕ) (t : Qtd) (u : ℕ) (name : EpName) → IsItsQueue q u name → IsItsQueue (advanced q a t) u name
unfolding advanced
advanced_queue q a t u name k = record { high = k.high; bit = k.bit; addr = k.addr; number = k.number }

pub advanced_token : (q : Qh) (a : ℕ) (t : Qtd) → (advanced q a t).token ≡ taken_token q t.token
unfolding advanced
advanced_token q a t = refl

advanced_max : (q : Qh) (a : ℕ) (t : Qtd) → (advanced q a t).max ≡ q.max
unfolding advanced
advanced_max q a t = refl

module _ (fixed : Fixed) (w : World) (n u : ℕ) (name : EpName) (bytes : ℕ) (k : IsMixedWorld w) (t : SoFar)
    (s : IsHeldAt fixed w n u name bytes) (again : ℕ)
    (few : again ≤ 4000000) (timely : IsInTime fixed again w) where
  abbrev p : FramePlace
  p = frame_place (controller_parts w)

  abbrev q : Qh
  q = s.held.copy.queue_head

  row : controller_row w ≡ rows.Frame
  row = frame_row w (hands.Queue s.held) k s.periodic s.hand

  bit_now : has q.smask (microframe_of w.control.frame.index) ≡ true
  bit_now = ap (has q.smask) s.index ∙ s.queue.bit

  -- there is time for it
  not_late : turn_of w.control.frame.index q ≡ turns.Work → nat_lt w.control.frame.left (planned q).price.0 ≡ false
  not_late turn =
      sym (ap (is_late_at p) s.hand ∙ ap (is_late_queue w.control.frame.left w.control.frame.index q) s.fresh
      ∙ ap (is_late_turn w.control.frame.left q) turn)
      ∙ timely.in_time row s.free few

  -- its transaction
  worked : IsActiveToken q.token → CanMoveBytes fixed w.bus name q bytes → q.token.pid ≡ pid_of (dir_of name.way)
      → Stage fixed (controller_next fixed w) t n u name bytes
  worked work can pid =
      let turn : turn_of w.control.frame.index q ≡ turns.Work = turn_is w.control.frame.index q true s.queue.high bit_now work.unhalted
      work.active in
      let sound = no_fault fixed w row k in
      let late = not_late turn in
      let call = call_made p s.held s.hand sound s.fresh turn late in
      let sent = (bytes_read p s.held s.hand sound s.fresh turn late).bytes in
      let reply : Reply = reply_of fixed w.bus call.ask call.out in
      let there : FramePlace = record p { memory = (bytes_read p s.held s.hand sound s.fresh turn late).memory } in
      let v : FrameWalked = record
      { place = queue_left_by (planned q) sent s.held there reply; bus = transact_after fixed w.bus call.ask call.out } in
      let next : controller_next fixed w ≡ with_turned w (framed (controller_parts w) v) =
      walked_to fixed w row v (ap (λ e. frame_by fixed e w.bus) (asks p s.held s.hand sound s.fresh turn late)) in
      let moves = ready_transactions_move fixed w.bus name q can.ready s.queue.high s.queue.addr s.queue.number pid sent
      (length-bytes_at w.memory (pages_of q) (buffer_place q) (planned q).bytes) (is_last_of w.control.frame.index q) in
      is_told (record {
        periodic = ap (λ (x : World). x.control.part) next ∙ ap (part_after Periodic) (transacts p s.held s.hand sound s.fresh turn late);
        index = ap (λ (x : World). microframe_of x.control.frame.index) next ∙ s.index;
        held = transacted w.control.frame.index (planned q) sent reply s.held;
        hand = ap (λ (x : World). x.control.frame.hand) next;
        at = s.at;
        settled = ap Some (moves ∙ ap (λ (i : ℕ). outcomes.Moved i) can.moves);
      })

  -- a qTD is taken
  took : (a : ℕ) (old : Qtd) → q.token.active ≡ false → q.token.halted ≡ false → qtd_link_of (next_pointer q) ≡ qtd_links.To a
      → token_at (word_at w.memory (a + 8)) ≡ old.token → IsActiveToken old.token → CanMoveBytes fixed w.bus name (advanced q a old) bytes
      → (advanced q a old).token.pid ≡ pid_of (dir_of name.way) → Stage fixed (controller_next fixed w) t n u name bytes
  took a old idle unhalted leads word work can pid =
      let turn : turn_of w.control.frame.index q ≡ turns.Take (qtd_links.To a) =
      turn_is w.control.frame.index q false s.queue.high bit_now unhalted idle ∙ ap turns.Take leads in
      let sound = no_fault fixed w row k in
      let found = is_there p s.held s.hand sound s.fresh a turn in
      let same : old.token ≡ found.qtd.token = sym word ∙ its_token w.memory a found.qtd found.here in
      let active : found.qtd.token.active ≡ true = ap (λ (x : Token). x.active) (sym same) ∙ work.active in
      let taken = is_taken p s.held s.hand sound s.fresh a turn found.qtd found.here active in
      let v : FrameWalked = record { place = taken.place; bus = w.bus } in
      let next : controller_next fixed w ≡ with_turned w (framed (controller_parts w) v) =
      walked_to fixed w row v (ap (λ e. frame_by fixed e w.bus) taken.effect) in
      let tokens : (advanced q a old).token ≡ (advanced q a found.qtd).token =
      advanced_token q a old ∙ ap (taken_token q) same ∙ sym (advanced_token q a found.qtd) in
      is_held (record {
        periodic = ap (λ (x : World). x.control.part) next
            ∙ ap (part_after Periodic) (advances p s.held s.hand sound s.fresh a turn found.qtd found.here active);
        index = ap (λ (x : World). microframe_of x.control.frame.index) next ∙ ap microframe_of taken.index ∙ s.index;
        held = with_queue s.held (advanced q a found.qtd);
        hand = ap (λ (x : World). x.control.frame.hand) next ∙ taken.hand;
        at = s.at;
        fresh = s.fresh;
        queue = advanced_queue q a found.qtd u name s.queue;
        free = ap (λ (x : World). is_held_now fixed x) next ∙ s.free;
        works = advanced q a found.qtd;
        goes = to_itself (record {
          active = ap (λ (x : Token). x.active) (advanced_token q a found.qtd) ∙ active;
          unhalted = ap (λ (x : Token). x.halted) (advanced_token q a found.qtd) ∙ ap (λ (x : Token). x.halted) (sym same) ∙ work.unhalted;
        });
        can = ready_as fixed w.bus (controller_next fixed w).bus name (advanced q a old) (advanced q a found.qtd) bytes
            (sym (ap (λ (x : World). x.bus) next)) tokens
            (advanced_max q a old ∙ sym (advanced_max q a found.qtd)) can;
        pid = ap (λ (x : Token). x.pid) (sym tokens) ∙ pid;
      })

  goes_by : (v : Qh) → GoesTo w.memory q v → CanMoveBytes fixed w.bus name v bytes → v.token.pid ≡ pid_of (dir_of name.way)
      → Stage fixed (controller_next fixed w) t n u name bytes
  goes_by _ (to_itself work) can pid = worked work can pid
  goes_by _ (to_qtd a old idle unhalted leads aligned word work) can pid = took a old idle unhalted leads word work can pid

  pub held_goes_on : Stage fixed (controller_next fixed w) t n u name bytes
  held_goes_on = goes_by s.works s.goes s.can s.pid
