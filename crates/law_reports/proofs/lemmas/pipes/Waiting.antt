-- A device's endpoint that no queue head asks stays as it is at each event of either walk.
use Rattle.std.proofs.Common.{◌≡◌, ◌≢◌, ℕ, ◌==◌, Bool, true, false, if◌then◌else◌, List, [], Option, Some, ap, refl, sym, subst, ◌∙◌, inl}
use Rattle.std.proofs.Common.{inr}
use Rattle.std.specs.Prelude.{◌⊎◌}
use Rattle.std.proofs.lemmas.Bool.{false≢true}
use Rattle.law_common.proofs.Numbers.{other_number}
use Rattle.usb_base.specs.declared.packets.Ask.{Ask}
use Rattle.usb_base.specs.declared.packets.Reply.{Reply}
use Rattle.transactions.specs.Asks.{pinged}
use Rattle.hc_copy.specs.Planning.{transaction_of}
use Rattle.hc_copy.specs.Transacting.{call_in}
use Rattle.qh_qtd.specs.declared.queue_head.Qh.{Qh}
use Rattle.law_structures.specs.lent_structures.Structures.{QueueHead, StructureSets}
use Rattle.law_structures.specs.lent_structures.Sound.{IsWorking, IsSoundQueue}
use Rattle.law_structures.proofs.lemmas.lent_structures.Altering.{found_queue}
use Rattle.law_ring.specs.Hand.{Hand}
use Rattle.law_ring.specs.QueueParts.{IsQueuePart}
use Rattle.law_ring.specs.Effects.{Asks}
use Rattle.law_ring.specs.Told.{Endpoint, endpoint_of, HasEndpoint, HasToggle}
use Rattle.law_ring.specs.Streams.StreamEffect.{same, aside, grows}
use Rattle.law_ring.specs.Bus.{Sender, IsStreamAsk, IsBus, KeepsSenders}
use Rattle.law_ring.specs.Pipes.{IsElsewhere, ArePiped}
use Rattle.law_ring.specs.OutBus.{Taker, IsOutAsk, IsOutBus, KeepsTakers}
use Rattle.law_ring.proofs.Direction.{other_asked, works_not_in}
use Rattle.law_ring.proofs.Stopping.{out_only}
use Rattle.law_controller.specs.controlled_streams.Unopened.{IsUnopened}
use Rattle.law_controller.specs.frame_control.Joined.{BothStreamEffect, begun, moved}
use Rattle.law_descriptors.specs.queue_events.Streams.{bytes_of_both}
use Rattle.law_descriptors.specs.queue_events.Pipes.{AskedAreNear}
use Rattle.law_world.specs.steps.Outs.{IsAside, AreOutPiped}

if_off : (b : Bool) (bytes : List ℕ) → b ≡ false → (if b then bytes else []) ≡ []
if_off false bytes off = refl
if_off true bytes off = absurd (false≢true (sym off))

module _ {W : Type 0} (begins : W → ℕ → Bool → W → Type 0) (Beside : Ask → Type 0)
    (transacts : W → Ask → List ℕ → Reply → W → Type 0) (near : ℕ → Bool) (ends : ℕ → Endpoint) (parts : StructureSets) (hand : Hand)
    (wire after : W) (now : StructureSets) (later : Hand) (asked : AskedAreNear near parts hand) where
  -- the endpoint that a transaction is of
  asked_is : (m : Asks transacts parts hand wire after later) (x : Endpoint) → HasEndpoint parts m.copy.at x → x ≡ endpoint_of m.copy.queue
  asked_is m x has = has.is ∙ ap endpoint_of (found_queue (parts m.copy.at m.copy.at) has.queue m.copy.queue has.head m.here)

  sound : (m : Asks transacts parts hand wire after later) → IsSoundQueue (parts m.copy.at) m.copy.queue
  sound m =
      let k : IsQueuePart m.copy.at (parts m.copy.at) = m.part_is in
      subst (IsSoundQueue (parts m.copy.at)) (found_queue (parts m.copy.at m.copy.at) k.queue m.copy.queue k.here m.here) k.sound

  met : (m : Asks transacts parts hand wire after later) → near m.copy.at ≡ true
  met m = asked m.copy m.in_hand m.here m.works

  -- ---- those that send

  module _ (sends : ℕ → ℕ → Bool) (packets : ℕ → ℕ → List (List ℕ)) (sender : W → ℕ → ℕ → Option Sender) (ins : ℕ → Bool)
      (acc : ℕ → List (List ℕ)) (bus : IsBus transacts sends sender) (keeps : KeepsSenders begins sends sender)
      (piped : ArePiped sends packets sender near ins ends acc parts hand wire)
      (misses : (ask : Ask) → Beside ask → IsStreamAsk sends ask → ⊥) (addr ep : ℕ) (on : sends addr ep ≡ true)
      (unopened : IsUnopened ins ends addr ep) (u : Sender) (is : sender wire addr ep ≡ Some u) where
    elsewhere : (m : Asks transacts parts hand wire after later) → IsElsewhere sends parts m.copy.at (ends m.copy.at)
        → IsStreamAsk sends (call_in (transaction_of m.kind m.copy.queue) m.out m.last).ask → ⊥
    elsewhere m (has, inl none) s =
        false≢true (sym none ∙ ap (λ (x : Endpoint). sends x.addr x.ep) (asked_is m (ends m.copy.at) has) ∙ s.on)
    elsewhere m (has, inr nots) s =
        other_asked m.copy.queue.token.pid (transaction_of m.kind m.copy.queue).split m.kind m.copy.queue.token.ping
        (works_not_in (parts m.copy.at) m.copy.queue (sound m) m.works nots) s.token

    beside : (m : Asks transacts parts hand wire after later) (b : Bool) → ins m.copy.at ≡ b
        → IsStreamAsk sends (call_in (transaction_of m.kind m.copy.queue) m.out m.last).ask
        → (addr ≡ (call_in (transaction_of m.kind m.copy.queue) m.out m.last).ask.addr)
        × (ep ≡ (call_in (transaction_of m.kind m.copy.queue) m.out m.last).ask.ep) → ⊥
    beside m true streamed s both =
        let its : ends m.copy.at ≡ endpoint_of m.copy.queue = asked_is m (ends m.copy.at) (piped.pipes m.copy.at streamed).named in
        unopened m.copy.at streamed (ap (λ (x : Endpoint). x.addr) its ∙ sym both.0) (ap (λ (x : Endpoint). x.ep) its ∙ sym both.1)
    beside m false off s both = elsewhere m (piped.others m.copy.at (met m) off) s

    pub sender_waits : BothStreamEffect begins Beside transacts parts hand wire after now later → sender after addr ep ≡ Some u
    sender_waits (begun index allowed begins_so told) = keeps wire index allowed after addr ep u begins_so on is
    sender_waits (moved (same told quiet)) = ap (λ (v : W). sender v addr ep) quiet ∙ is
    sender_waits (moved (aside told ask out reply other made)) =
        bus.others wire ask out reply after addr ep u made on is (λ s both. misses ask other s)
    sender_waits (moved (grows m all g)) =
        bus.others wire (call_in (transaction_of m.kind m.copy.queue) m.out m.last).ask
        (call_in (transaction_of m.kind m.copy.queue) m.out m.last).out m.reply after addr ep u m.made on is
        (λ s both. beside m (ins m.copy.at) refl s both)

  -- ---- those that take

  module _ (takes : ℕ → ℕ → Bool) (taker : W → ℕ → ℕ → Option Taker) (outs : ℕ → Bool) (known : ℕ → List ℕ)
      (bus : IsOutBus transacts takes taker) (keeps : KeepsTakers begins takes taker)
      (piped : AreOutPiped takes taker near outs ends known parts hand wire)
      (misses : (ask : Ask) → Beside ask → IsOutAsk takes ask → ⊥) where
    aside_of : (m : Asks transacts parts hand wire after later) → IsAside takes parts m.copy.at (ends m.copy.at)
        → IsOutAsk takes (call_in (transaction_of m.kind m.copy.queue) m.out m.last).ask → ⊥
    aside_of m (has, inl none) s =
        false≢true (sym none ∙ ap (λ (x : Endpoint). takes x.addr x.ep) (asked_is m (ends m.copy.at) has) ∙ s.on)
    aside_of m (has, inr none) s =
        let q = m.copy.queue in
        let w0 : IsWorking (parts m.copy.at) q = (sound m).work m.works in
        out_only q.token.pid false (q.token.pid == 1) (transaction_of m.kind q).split (pinged m.kind q.token.ping)
        (other_number q.token.pid 0 (λ (i : q.token.pid ≡ 0). none q.current w0.element w0.here w0.published (sym w0.pid ∙ i))) refl refl
        s.token

    module _ (addr ep : ℕ) (on : takes addr ep ≡ true) (u : Taker) (is : taker wire addr ep ≡ Some u) where
      -- no queue head asks it but one that makes no transaction now
      module _ (unasked : (m : Asks transacts parts hand wire after later) → outs m.copy.at ≡ true → (ends m.copy.at).addr ≡ addr
          → (ends m.copy.at).ep ≡ ep → ⊥) where
        out_beside : (m : Asks transacts parts hand wire after later) (b : Bool) → outs m.copy.at ≡ b
            → IsOutAsk takes (call_in (transaction_of m.kind m.copy.queue) m.out m.last).ask
            → (addr ≡ (call_in (transaction_of m.kind m.copy.queue) m.out m.last).ask.addr)
            × (ep ≡ (call_in (transaction_of m.kind m.copy.queue) m.out m.last).ask.ep) → ⊥
        out_beside m true streamed s both =
            let its : ends m.copy.at ≡ endpoint_of m.copy.queue = asked_is m (ends m.copy.at) (piped.pipes m.copy.at streamed).named in
            unasked m streamed (ap (λ (x : Endpoint). x.addr) its ∙ sym both.0) (ap (λ (x : Endpoint). x.ep) its ∙ sym both.1)
        out_beside m false off s both = aside_of m (piped.others m.copy.at (met m) off) s

        pub taker_still : BothStreamEffect begins Beside transacts parts hand wire after now later → taker after addr ep ≡ Some u
        taker_still (begun index allowed begins_so told) = keeps wire index allowed after addr ep u begins_so on is
        taker_still (moved (same told quiet)) = ap (λ (v : W). taker v addr ep) quiet ∙ is
        taker_still (moved (aside told ask out reply other made)) =
            bus.others wire ask out reply after addr ep u made on is (λ s both. misses ask other s)
        taker_still (moved (grows m all g)) =
            bus.others wire (call_in (transaction_of m.kind m.copy.queue) m.out m.last).ask
            (call_in (transaction_of m.kind m.copy.queue) m.out m.last).out m.reply after addr ep u m.made on is
            (λ s both. out_beside m (outs m.copy.at) refl s both)

      -- the device stays as it is, or memory does
      pub taker_or_parts : BothStreamEffect begins Beside transacts parts hand wire after now later
          → (taker after addr ep ≡ Some u) ⊎ (now ≡ parts)
      taker_or_parts (begun index allowed begins_so told) = inl (keeps wire index allowed after addr ep u begins_so on is)
      taker_or_parts (moved (same told quiet)) = inl (ap (λ (v : W). taker v addr ep) quiet ∙ is)
      taker_or_parts (moved (aside told ask out reply other made)) =
          inl (bus.others wire ask out reply after addr ep u made on is (λ s both. misses ask other s))
      taker_or_parts (moved (grows m all g)) = inr all

      pub taker_waits : IsUnopened outs ends addr ep → BothStreamEffect begins Beside transacts parts hand wire after now later
          → taker after addr ep ≡ Some u
      taker_waits unopened = taker_still (λ m streamed. unopened m.copy.at streamed)

      -- the queue head that asks it is idle
      pub idle_waits : (n : ℕ) (q : Qh) → parts n n ≡ Some (QueueHead q) → q.token.active ≡ false
          → ((i : ℕ) → outs i ≡ true → (ends i).addr ≡ addr → (ends i).ep ≡ ep → i ≡ n)
          → BothStreamEffect begins Beside transacts parts hand wire after now later → taker after addr ep ≡ Some u
      idle_waits n q head idle alone =
          taker_still (λ m streamed same also.
          let at : m.copy.at ≡ n = alone m.copy.at streamed same also in
          let its : m.copy.queue ≡ q = found_queue (parts n n) m.copy.queue q (ap (λ (i : ℕ). parts i i) (sym at) ∙ m.here) head in
          false≢true (sym idle ∙ ap (λ (r : Qh). r.token.active) (sym its) ∙ m.works))

  -- ---- a queue head that isn't met

  module _ (n : ℕ) (off : near n ≡ false) where
    apart : (m : Asks transacts parts hand wire after later) → n ≢ m.copy.at
    apart m is = false≢true (sym off ∙ ap near is ∙ met m)

    pub none_moved : (z : BothStreamEffect begins Beside transacts parts hand wire after now later) → bytes_of_both n z ≡ []
    none_moved (begun index allowed begins_so told) = refl
    none_moved (moved (same told quiet)) = refl
    none_moved (moved (aside told ask out reply other made)) = refl
    none_moved (moved (grows m all g)) =
        if_off (m.copy.at == n) _ (other_number m.copy.at n (λ is. apart m (sym is)))

    pub named_still : (x : Endpoint) → BothStreamEffect begins Beside transacts parts hand wire after now later → HasEndpoint parts n x
        → HasEndpoint now n x
    named_still x (begun index allowed begins_so told) has = told.endpoint n x has
    named_still x (moved (same told quiet)) has = told.endpoint n x has
    named_still x (moved (aside told ask out reply other made)) has = told.endpoint n x has
    named_still x (moved (grows m all g)) has = subst (λ (ps : StructureSets). HasEndpoint ps n x) (sym all) has

    pub toggle_still : (b : Bool) → BothStreamEffect begins Beside transacts parts hand wire after now later → HasToggle hand parts n b
        → HasToggle later now n b
    toggle_still b (begun index allowed begins_so told) has = told.toggle n b has
    toggle_still b (moved (same told quiet)) has = told.toggle n b has
    toggle_still b (moved (aside told ask out reply other made)) has = told.toggle n b has
    toggle_still b (moved (grows m all g)) has =
        subst (λ (ps : StructureSets). HasToggle later ps n b) (sym all) (g.other_toggles n b (apart m) has)
