-- The pipe of an OUT endpoint after an event, by what the event does to the streams.
use Rattle.std.proofs.Common.{◌≡◌, ◌≢◌, ℕ, ◌-◌, ◌==◌, Bool, true, false, if◌then◌else◌, List, [], ◌++◌, take, drop, Option, Some, ap, refl, sym, subst, ◌∙◌, ⊎_elim, inl, inr}
use Rattle.std.specs.Prelude.{◌⊎◌}
use Rattle.std.proofs.lemmas.Bool.{cases_eq, eq-eqb}
use Rattle.std.proofs.lemmas.List.{append-nil}
use Rattle.law_controller.proofs.Common.{apart_still}
use Rattle.law_common.proofs.Numbers.{other_number}
use Rattle.usb_base.specs.declared.packets.Ask.{Ask}
use Rattle.usb_base.specs.declared.packets.Reply.{Reply}
use Rattle.qh_qtd.specs.declared.queue_head.Qh.{Qh}
use Rattle.transactions.specs.Asks.{pinged}
use Rattle.hc_copy.specs.Overlay.{buffer_place}
use Rattle.hc_copy.specs.Planning.{transaction_of}
use Rattle.hc_copy.specs.Transacting.{call_in}
use Rattle.law_structures.specs.lent_structures.Structures.{QueueHead, Structures, StructureSets}
use Rattle.law_structures.specs.lent_structures.Sound.{IsWorking, IsSoundQueue}
use Rattle.law_structures.specs.lent_structures.Alters.{Alters}
use Rattle.law_structures.proofs.lemmas.lent_structures.Altering.{found_queue}
use Rattle.law_ring.specs.Hand.{Settlement, Hand}
use Rattle.law_ring.specs.QueueParts.{IsQueuePart}
use Rattle.law_ring.specs.Effects.{buffer_of, AreSent, Asks, came_to}
use Rattle.law_ring.specs.Told.{HasToggle, Endpoint, endpoint_of, HasEndpoint, SameTold}
use Rattle.law_ring.specs.Streams.{moved_bytes, Grows, StreamEffect}
use Rattle.law_ring.specs.Streams.StreamEffect.{same, aside, grows}
use Rattle.law_ring.specs.Order.{bytes_of_effect}
use Rattle.law_ring.specs.OutBus.{Taker, IsOutAsk, IsOutBus}
use Rattle.law_ring.specs.OutPipes.{IsOut, IsUnmoved, OutAgrees, IsOutPipe}
use Rattle.law_ring.specs.OutPipeLaws.{SendsNone, IsBeside, IsOnlyEndpoint}
use Rattle.law_ring.proofs.Stopping.{out_only}
use Rattle.law_ring.proofs.Transporting.{carried, out_still}
use Rattle.law_ring.proofs.OutPipeEvents.{made_by}
use Rattle.law_descriptors.specs.queue_events.OutPipes.{OutPipeGoesOn}
use Rattle.law_descriptors.proofs.lemmas.queue_events.Carrying.{Carries}

-- ---- no other queue head asks the endpoint

module _ {W : Type 0} (transacts : W → Ask → List ℕ → Reply → W → Type 0) (stream : ℕ → ℕ → Bool) (taker : W → ℕ → ℕ → Option Taker)
    (bus : IsOutBus transacts stream taker) (near : ℕ → Bool) (parts : StructureSets) (hand : Hand) (wire after : W)
    (now : StructureSets) (later : Hand) (n : ℕ) (x : Endpoint) (known : List ℕ) (part_is : IsQueuePart n (parts n))
    (only : IsOnlyEndpoint stream near parts n x) (pipe : IsOutPipe (taker wire x.addr x.ep) known parts hand n x)
    (alters : (m : ℕ) → Alters (parts m) (now m)) where
  abbrev s : Taker
  s = pipe.taker

  only_still : ((m : ℕ) (y : Endpoint) → HasEndpoint parts m y → HasEndpoint now m y) → IsOnlyEndpoint stream near now n x
  only_still named = record {
    on = only.on;
    streamed = only.streamed;
    high = only.high;
    others = λ m on differs.
        let b : IsBeside parts m x = only.others m on differs in
        record {
          endpoint = b.endpoint;
          named = named m b.endpoint b.named;
          apart = apart_still (parts m) (now m) x b.endpoint (alters m) b.apart;
        };
  }

  -- ---- nothing is told otherwise

  quiet_pipe : (HasToggle hand parts n pipe.toggle → HasToggle later now n pipe.toggle
      → Carries parts now hand later n pipe.toggle known pipe.taker)
      → SameTold hand parts later now → taker after x.addr x.ep ≡ Some s
      → OutPipeGoesOn stream (taker after x.addr x.ep) near (known ++ []) now later n x
  quiet_pipe carries told taken =
      let t : HasToggle later now n pipe.toggle = told.toggle n pipe.toggle pipe.expects in
      record {
        only = only_still told.endpoint;
        pipe = record {
          named = told.endpoint n x pipe.named;
          outs = out_still (parts n) (now n) (alters n) pipe.outs;
          toggle = pipe.toggle;
          expects = t;
          taker = s;
          is = taken;
          agrees = subst (λ (xs : List ℕ). OutAgrees (now n) later n t.queue pipe.toggle xs s) (sym (append-nil known))
              (carries pipe.expects t pipe.expects.queue t.queue pipe.expects.head t.head pipe.agrees);
        };
      }

  -- ---- a transaction

  module _ (m : Asks transacts parts hand wire after later) (all : now ≡ parts)
      (g : Grows hand parts later m.copy (came_to m) m.sent.element) where
    abbrev q : Qh
    q = m.copy.queue

    abbrev z : Settlement
    z = came_to m

    abbrev grown : List ℕ
    grown = moved_bytes q m.sent.element z (buffer_of (parts m.copy.at) m.sent.element)

    named_now : (k : ℕ) (y : Endpoint) → HasEndpoint parts k y → HasEndpoint now k y
    named_now k y has = subst (λ (ps : StructureSets). HasEndpoint ps k y) (sym all) has

    outs_now : IsOut (now n)
    outs_now = subst (λ (ps : StructureSets). IsOut (ps n)) (sym all) pipe.outs

    part_stays : now n ≡ parts n
    part_stays = ap (λ (ps : StructureSets). ps n) all

    own_pipe : n ≡ m.copy.at → IsOutPipe (taker after x.addr x.ep) (known ++ (if m.copy.at == n then grown else [])) now later n x
    own_pipe is =
        let head : parts n n ≡ Some (QueueHead q) = ap (λ (i : ℕ). parts i i) is ∙ m.here in
        let before : (pipe.toggle ≡ q.token.toggle) × HasToggle later parts m.copy.at z.host.toggle = g.toggle pipe.toggle
        (subst (λ (i : ℕ). HasToggle hand parts i pipe.toggle) is pipe.expects) in
        let has : HasToggle later now n z.host.toggle = subst (λ (ps : StructureSets). HasToggle later ps n z.host.toggle) (sym all)
        (subst (λ (i : ℕ). HasToggle later parts i z.host.toggle) (sym is) before.1) in
        let is_x : x ≡ endpoint_of q = pipe.named.is
        ∙ ap endpoint_of (found_queue (parts n n) pipe.named.queue q pipe.named.head head) in
        let w0 : IsWorking (parts n) q = (subst (IsSoundQueue (parts n)) (found_queue (parts n n) part_is.queue q part_is.here head)
        part_is.sound).work m.works in
        let pid : q.token.pid ≡ 0 = w0.pid ∙ pipe.outs q.current w0.element w0.here w0.published in
        let sent : AreSent (parts n) q (transaction_of m.kind q).bytes m.out = record {
          element = m.sent.element;
          here = ap (λ (i : ℕ). parts i q.current) is ∙ m.sent.here;
          are = m.sent.are ∙ ap (λ (i : ℕ). take (transaction_of m.kind q).bytes
              (drop (buffer_place q - m.sent.element.offset) (buffer_of (parts i) m.sent.element))) (sym is);
          all = m.sent.all;
        } in
        let made = made_by transacts stream taker bus wire after (parts n) hand later n m.held q x is_x pipe.toggle known s pipe.is
        (sym (ap (λ (e : Endpoint). e.speed) is_x) ∙ only.high) pid m.works before.0 only.streamed m.kind m.last m.asked_as m.out sent
        m.reply m.made m.later_is q.token.ping refl
        (subst (λ (y : Qh). OutAgrees (parts n) hand n y pipe.toggle known s)
        (found_queue (parts n n) pipe.expects.queue q pipe.expects.head head) pipe.agrees) in
        let mine : List ℕ = moved_bytes q m.sent.element z (buffer_of (parts n) m.sent.element) in
        let bytes : mine ≡ (if m.copy.at == n then grown else []) =
        ap (λ (i : ℕ). moved_bytes q m.sent.element z (buffer_of (parts i) m.sent.element)) is
        ∙ sym (ap (λ (b : Bool). if b then grown else []) (eq-eqb m.copy.at n (sym is))) in
        record {
          named = named_now n x pipe.named;
          outs = outs_now;
          toggle = z.host.toggle;
          expects = has;
          taker = made.taker_now;
          is = made.is;
          agrees = subst (λ (xs : List ℕ). OutAgrees (now n) later n has.queue z.host.toggle (known ++ xs) made.taker_now) bytes
              (subst (λ (y : Qh). OutAgrees (now n) later n y z.host.toggle (known ++ mine) made.taker_now)
              (found_queue (parts n n) q has.queue head (sym (ap (λ (ps : StructureSets). ps n n) all) ∙ has.head))
              (subst (λ (part : Structures). OutAgrees part later n q z.host.toggle (known ++ mine) made.taker_now) (sym part_stays)
              made.agrees));
        }

    unasked : (b : IsBeside parts m.copy.at x) → ((x.addr ≡ b.endpoint.addr → x.ep ≡ b.endpoint.ep → ⊥)) ⊎ SendsNone (parts m.copy.at)
        → IsOutAsk stream (call_in (transaction_of m.kind q) m.out m.last).ask
        → (x.addr ≡ (call_in (transaction_of m.kind q) m.out m.last).ask.addr) ×
        (x.ep ≡ (call_in (transaction_of m.kind q) m.out m.last).ask.ep) → ⊥
    unasked b (inl apart) asked e =
        let is : endpoint_of q ≡ b.endpoint = sym
        (b.named.is ∙ ap endpoint_of (found_queue (parts m.copy.at m.copy.at) b.named.queue q b.named.head m.here)) in
        apart (e.0 ∙ ap (λ (y : Endpoint). y.addr) is) (e.1 ∙ ap (λ (y : Endpoint). y.ep) is)
    unasked b (inr none) asked e =
        let mk : IsQueuePart m.copy.at (parts m.copy.at) = m.part_is in
        let w0 : IsWorking (parts m.copy.at) q =
        (subst (IsSoundQueue (parts m.copy.at)) (found_queue (parts m.copy.at m.copy.at) mk.queue q mk.here m.here) mk.sound).work
        m.works in
        out_only q.token.pid false (q.token.pid == 1) (transaction_of m.kind q).split (pinged m.kind q.token.ping)
        (other_number q.token.pid 0 (λ (i : q.token.pid ≡ 0). none q.current w0.element w0.here w0.published (sym w0.pid ∙ i))) refl refl
        asked.token

    other_pipe : near m.copy.at ≡ true → n ≢ m.copy.at
        → IsOutPipe (taker after x.addr x.ep) (known ++ (if m.copy.at == n then grown else [])) now later n x
    other_pipe met differs =
        let beside : IsBeside parts m.copy.at x = only.others m.copy.at met (λ (e : m.copy.at ≡ n). differs (sym e)) in
        let has : HasToggle later now n pipe.toggle = subst (λ (ps : StructureSets). HasToggle later ps n pipe.toggle) (sym all)
        (g.other_toggles n pipe.toggle differs pipe.expects) in
        let un : IsUnmoved later n = subst (λ (l : Hand). IsUnmoved l n) (sym m.later_is)
        (λ (e : m.held.at ≡ n). absurd (differs (sym e ∙ m.at_same))) in
        record {
          named = named_now n x pipe.named;
          outs = outs_now;
          toggle = pipe.toggle;
          expects = has;
          taker = s;
          is = bus.others wire (call_in (transaction_of m.kind q) m.out m.last).ask
              (call_in (transaction_of m.kind q) m.out m.last).out m.reply after x.addr x.ep s m.made only.streamed pipe.is
              (unasked beside beside.apart);
          agrees = subst (λ (xs : List ℕ). OutAgrees (now n) later n has.queue pipe.toggle xs s)
              (sym (append-nil known) ∙ ap (λ (xs : List ℕ). known ++ xs)
              (sym (ap (λ (b : Bool). if b then grown else []) (other_number m.copy.at n (λ (e : m.copy.at ≡ n). differs (sym e))))))
              (carried (parts n) (now n) hand later n pipe.expects.queue has.queue pipe.toggle known s part_stays
              (found_queue (parts n n) has.queue pipe.expects.queue (sym (ap (λ (part : Structures). part n) part_stays) ∙ has.head)
              pipe.expects.head) un pipe.agrees);
        }

    grown_pipe : near m.copy.at ≡ true
        → OutPipeGoesOn stream (taker after x.addr x.ep) near (known ++ (if m.copy.at == n then grown else [])) now later n x
    grown_pipe met = record {
      only = only_still named_now;
      pipe = ⊎_elim own_pipe (other_pipe met) (cases_eq n m.copy.at);
    }

  -- those that are beside the queue heads ask no such endpoint
  pub goes_on : {Beside : Ask → Type 0} → ((ask : Ask) → Beside ask → IsOutAsk stream ask → ⊥)
      → ((m : Asks transacts parts hand wire after later) → near m.copy.at ≡ true)
      → (HasToggle hand parts n pipe.toggle → HasToggle later now n pipe.toggle
      → Carries parts now hand later n pipe.toggle known pipe.taker)
      → (z : StreamEffect Beside transacts parts hand wire after now later)
      → OutPipeGoesOn stream (taker after x.addr x.ep) near (known ++ bytes_of_effect n z) now later n x
  goes_on misses met carries (same told quiet) =
      quiet_pipe carries told (ap (λ (w : W). taker w x.addr x.ep) quiet ∙ pipe.is)
  goes_on misses met carries (aside told ask out answer beside made) =
      quiet_pipe carries told (bus.others wire ask out answer after x.addr x.ep s made only.streamed pipe.is
      (λ asked both. misses ask beside asked))
  goes_on misses met carries (grows m all g) = grown_pipe m all g (met m)
