-- Each event keeps both sides of each pipe agreed.
use Rattle.std.proofs.Common.{◌≡◌, ◌≢◌, ℕ, ◌≤◌, Bool, true, false, ◌==◌, if◌then◌else◌, List, [], ◌++◌, ◌-◌, take, drop, length, Option, Some, ap, refl, sym, subst, ◌∙◌, ⊎_elim, inl, inr, arith}
use Rattle.std.specs.List.{concat}
use Rattle.std.proofs.lemmas.Bool.{cases_eq, eq-eqb, false≢true}
use Rattle.std.proofs.lemmas.List.{append-nil}
use Rattle.law_common.proofs.Numbers.{other_number}
use Rattle.law_ring.proofs.Common.{plain_split}
use Rattle.usb_base.specs.declared.packets.Ask.{Ask}
use Rattle.usb_base.specs.declared.packets.Pid.{Pid}
use Rattle.usb_base.specs.declared.packets.Pid.TheVariants as Packets
use Rattle.usb_base.specs.declared.packets.Reply.{Reply}
use Rattle.usb_base.specs.declared.packets.Split.TheVariants as Splits
use Rattle.qh_qtd.specs.declared.queue_head.Qh.{Qh}
use Rattle.transactions.specs.Asks.{pinged}
use Rattle.transactions.specs.Calls.{got_of, moving_of}
use Rattle.hc_copy.specs.Overlay.{buffer_place}
use Rattle.hc_copy.specs.WriteBack.{moved_by}
use Rattle.hc_copy.specs.Planning.{pid_at, host_in, transaction_of}
use Rattle.hc_copy.specs.Transacting.{call_in}
use Rattle.async_walk.specs.declared.state.WalkStep.{WalkStep}
use Rattle.async_walk.specs.Rows.{WalkPlace, at_event, event_row, step_of, Leads}
use Rattle.law_structures.specs.lent_structures.Settles.{Brings, Settles}
use Rattle.law_structures.proofs.lemmas.lent_structures.Settling.{a_transaction_settles}
use Rattle.law_structures.specs.lent_structures.Structures.{StructureSets}
use Rattle.law_structures.specs.lent_structures.Sound.{IsSoundQueue}
use Rattle.law_structures.specs.lent_structures.Alters.{Alters}
use Rattle.law_structures.proofs.lemmas.lent_structures.Altering.{found_queue}
use Rattle.law_ring.specs.Hand.{Settlement, Hand}
use Rattle.claims_base.specs.Controller.{Base}
use Rattle.law_ring.specs.Ring.{IsCopied, IsInHand, IsRing}
use Rattle.law_ring.specs.Effects.{buffer_of, Asks, came_to, AreBytesHeard, Effect}
use Rattle.law_ring.specs.QueueParts.{IsQueuePart}
use Rattle.law_ring.specs.Told.{HasToggle, Endpoint, endpoint_of, HasEndpoint, SameTold}
use Rattle.law_ring.specs.Streams.{Grows, NoneBeside, StreamEffect, Streams}
use Rattle.law_ring.specs.Streams.StreamEffect.{same, aside, grows}
use Rattle.law_ring.proofs.Altered.{effect_alters}
use Rattle.law_ring.proofs.StreamEvents.{each_event_moves_one_stream}
use Rattle.claims_base.specs.Prefix.{IsPrefix}
use Rattle.law_pipe.proofs.Agreement.{accepted_begins}
use Rattle.law_ring.specs.Bus.{Sender, IsStreamAsk, IsBus}
use Rattle.law_ring.specs.Pipes.{pipe_at, IsHalf, IsPipe, AreEndpoints, IsElsewhere, ArePiped, grown, IsToldBy, GoesOn}
use Rattle.law_ring.proofs.Direction.{in_still, not_in_still, in_asked, other_asked, works_in, works_not_in}
use Rattle.law_ring.proofs.Settling.{in_moves, InStep, in_step}

-- ---- the packets taken

pub grown_here : (acc : ℕ → List (List ℕ)) (at : ℕ) (more : List (List ℕ)) → grown acc at more at ≡ acc at ++ more
grown_here acc at more = ap (λ (b : Bool). if b then acc at ++ more else acc at) (eq-eqb at at refl)

pub grown_beside : (acc : ℕ → List (List ℕ)) (at : ℕ) (more : List (List ℕ)) (n : ℕ) → n ≢ at → grown acc at more n ≡ acc n
grown_beside acc at more n differs = ap (λ (b : Bool). if b then acc n ++ more else acc n) (other_number n at differs)

none_grown : (xs : List (List ℕ)) (b : Bool) → (if b then xs ++ [] else xs) ≡ xs
none_grown xs true = append-nil xs
none_grown xs false = refl

pub grown_none : (acc : ℕ → List (List ℕ)) (at n : ℕ) → grown acc at [] n ≡ acc n
grown_none acc at n = none_grown (acc n) (n == at)

-- ---- elsewhere

elsewhere_still : (stream : ℕ → ℕ → Bool) (parts now : StructureSets) (n : ℕ) (x : Endpoint) → Alters (parts n) (now n) → (HasEndpoint parts n x → HasEndpoint now n x) → IsElsewhere stream parts n x → IsElsewhere stream now n x
elsewhere_still stream parts now n x alters named (has, inl off) = (named has, inl off)
elsewhere_still stream parts now n x alters named (has, inr nots) = (named has, inr (not_in_still (parts n) (now n) alters nots))

-- the rest of what an event owes
pub record PipesGoOn {W : Type 0} {Beside : Ask → Type 0} {transacts : W → Ask → List ℕ → Reply → W → Type 0} {parts : StructureSets}
    {hand : Hand} {wire after : W} {now : StructureSets} {later : Hand} (stream : ℕ → ℕ → Bool) (packets : ℕ → ℕ → List (List ℕ))
    (sender : W → ℕ → ℕ → Option Sender) (member streams : ℕ → Bool) (endpoint : ℕ → Endpoint) (acc : ℕ → List (List ℕ))
    (z : StreamEffect Beside transacts parts hand wire after now later) : Type 0 where
  pub at : ℕ
  pub more : List (List ℕ)
  pub few : length more ≤ 1
  pub all : ArePiped stream packets sender member streams endpoint (grown acc at more) now later after
  pub told : IsToldBy streams at more z

-- an event of either walk; those transactions that are beside the queue heads ask none of the streams
module _ {W : Type 0} {Beside : Ask → Type 0} (transacts : W → Ask → List ℕ → Reply → W → Type 0) (stream : ℕ → ℕ → Bool)
    (packets : ℕ → ℕ → List (List ℕ)) (sender : W → ℕ → ℕ → Option Sender) (member streams : ℕ → Bool) (endpoint : ℕ → Endpoint)
    (ends : AreEndpoints stream member streams endpoint) (bus : IsBus transacts stream sender) (acc : ℕ → List (List ℕ))
    (parts : StructureSets) (hand : Hand) (wire : W) (piped : ArePiped stream packets sender member streams endpoint acc parts hand wire)
    (after : W) (now : StructureSets) (later : Hand)
    (alters : (n : ℕ) → Alters (parts n) (now n)) (on : (m : Asks transacts parts hand wire after later) → member m.copy.at ≡ true)
    (misses : (ask : Ask) → Beside ask → IsStreamAsk stream ask → ⊥) where
  abbrev Rest : StreamEffect Beside transacts parts hand wire after now later → Type 0
  Rest z = PipesGoOn stream packets sender member streams endpoint acc z

  -- a pipe that goes on as it was
  pipe_same : (at : ℕ) (more : List (List ℕ)) (n : ℕ) → streams n ≡ true → grown acc at more n ≡ acc n → ((s : Sender) → sender wire (endpoint n).addr (endpoint n).ep ≡ Some s → sender after (endpoint n).addr (endpoint n).ep ≡ Some s)
      → (HasEndpoint parts n (endpoint n) → HasEndpoint now n (endpoint n)) → ((b : Bool) → HasToggle hand parts n b → HasToggle later now n b)
      → IsPipe (packets (endpoint n).addr (endpoint n).ep) (sender after (endpoint n).addr (endpoint n).ep) (grown acc at more n) now later n (endpoint n)
  pipe_same at more n on none still named toggle =
      let k = piped.pipes n on in
      record {
        named = named k.named;
        ins = in_still (parts n) (now n) (alters n) k.ins;
        toggle = k.toggle;
        expects = toggle k.toggle k.expects;
        sender = k.sender;
        is = still k.sender k.is;
        half = subst (λ (xs : List (List ℕ)). IsHalf (packets (endpoint n).addr (endpoint n).ep) k.sender xs k.toggle) (sym none) k.half;
      }

  -- ---- nothing was asked

  quiet_rest : (s : SameTold hand parts later now) (quiet : after ≡ wire) → Rest (same s quiet)
  quiet_rest s quiet = record {
    at = 0;
    more = [];
    few = omega arith;
    all = record {
      pipes = λ n on. pipe_same 0 [] n on (grown_none acc 0 n) (λ z is. ap (λ (w : W). sender w (endpoint n).addr (endpoint n).ep) quiet ∙ is) (s.endpoint n (endpoint n)) (s.toggle n);
      others = λ n on off. elsewhere_still stream parts now n (endpoint n) (alters n) (s.endpoint n (endpoint n)) (piped.others n on off);
    };
    told = refl;
  }

  -- ---- a transaction beside the queue heads

  aside_rest : (s : SameTold hand parts later now) (ask : Ask) (out : List ℕ) (reply : Reply) (beside : Beside ask)
      (made : transacts wire ask out reply after) → Rest (aside s ask out reply beside made)
  aside_rest s ask out reply beside made = record {
    at = 0;
    more = [];
    few = omega arith;
    all = record {
      pipes = λ n streamed. pipe_same 0 [] n streamed (grown_none acc 0 n)
          (λ z is. bus.others wire ask out reply after (endpoint n).addr (endpoint n).ep z made (ends.on n streamed) is
          (λ asked both. misses ask beside asked)) (s.endpoint n (endpoint n)) (s.toggle n);
      others = λ n met off. elsewhere_still stream parts now n (endpoint n) (alters n) (s.endpoint n (endpoint n)) (piped.others n met off);
    };
    told = refl;
  }

  -- ---- one transaction was made

  module _ (m : Asks transacts parts hand wire after later) (all : now ≡ parts)
      (g : Grows hand parts later m.copy (came_to m) m.sent.element) where
    abbrev made : Settlement
    made = came_to m

    abbrev asked : Ask
    asked = (call_in (transaction_of m.kind m.copy.queue) m.out m.last).ask

    named_still : (n : ℕ) (x : Endpoint) → HasEndpoint parts n x → HasEndpoint now n x
    named_still n x has = subst (λ (ps : StructureSets). HasEndpoint ps n x) (sym all) has

    toggle_still : (n : ℕ) (b : Bool) → HasToggle later parts n b → HasToggle later now n b
    toggle_still n b has = subst (λ (ps : StructureSets). HasToggle later ps n b) (sym all) has

    sound : IsSoundQueue (parts m.copy.at) m.copy.queue
    sound =
        let k : IsQueuePart m.copy.at (parts m.copy.at) = m.part_is in
        subst (IsSoundQueue (parts m.copy.at)) (found_queue (parts m.copy.at m.copy.at) k.queue m.copy.queue k.here m.here) k.sound

    -- the endpoint that is asked
    asked_is : (x : Endpoint) → HasEndpoint parts m.copy.at x → x ≡ endpoint_of m.copy.queue
    asked_is x has = has.is ∙ ap endpoint_of (found_queue (parts m.copy.at m.copy.at) has.queue m.copy.queue has.head m.here)

    -- it is another one
    elsewhere_rest : streams m.copy.at ≡ false → Rest (grows m all g)
    elsewhere_rest off = record {
      at = 0;
      more = [];
      few = omega arith;
      all = record {
        pipes = λ n streamed. pipe_same 0 [] n streamed (grown_none acc 0 n)
            (λ z is. bus.others wire asked (call_in (transaction_of m.kind m.copy.queue) m.out m.last).out m.reply after (endpoint n).addr
            (endpoint n).ep z m.made (ends.on n streamed) is (λ s both. not_streamed s))
            (named_still n (endpoint n)) (λ b has. toggle_still n b
            (g.other_toggles n b (λ is. false≢true (sym off ∙ ap streams (sym is) ∙ streamed)) has));
        others = λ n met none. elsewhere_still stream parts now n (endpoint n) (alters n) (named_still n (endpoint n))
            (piped.others n met none);
      };
      told = (λ streamed. absurd (false≢true (sym off ∙ streamed)), λ none. refl);
    }
      where
        not_by : (IsElsewhere stream parts m.copy.at (endpoint m.copy.at)) → IsStreamAsk stream asked → ⊥
        not_by (has, inl none) s = false≢true (sym none ∙ ap (λ (x : Endpoint). stream x.addr x.ep) (asked_is (endpoint m.copy.at) has) ∙ s.on)
        not_by (has, inr nots) s =
            other_asked m.copy.queue.token.pid (transaction_of m.kind m.copy.queue).split m.kind m.copy.queue.token.ping
            (works_not_in (parts m.copy.at) m.copy.queue sound m.works nots) s.token

        not_streamed : IsStreamAsk stream asked → ⊥
        not_streamed s = not_by (piped.others m.copy.at (on m) off) s

    -- it is one of them
    streamed_rest : streams m.copy.at ≡ true → Rest (grows m all g)
    streamed_rest streamed_one =
        let q : Qh = m.copy.queue in
        let k = piped.pipes m.copy.at streamed_one in
        let x : Endpoint = endpoint m.copy.at in
        let is : x ≡ endpoint_of q = asked_is x k.named in
        let pid : q.token.pid ≡ 1 = works_in (parts m.copy.at) q sound m.works k.ins in
        let high : q.eps ≡ 2 = ap (λ (e : Endpoint). e.speed) (sym is) ∙ ends.high m.copy.at streamed_one in
        let plain : asked.split ≡ Splits.Plain = plain_split q.eps q.token.split_state (transaction_of m.kind q).pipe high in
        let token : asked.pid ≡ Packets.In = in_asked q.token.pid (transaction_of m.kind q).split (pinged m.kind q.token.ping) pid in
        let streamed : IsStreamAsk stream asked = record
        { plain = plain; token = token; on = ap (λ (e : Endpoint). stream e.addr e.ep) (sym is) ∙ ends.on m.copy.at streamed_one } in
        let sent : sender wire q.addr q.ep ≡ Some k.sender = ap (λ (e : Endpoint). sender wire e.addr e.ep) (sym is) ∙ k.is in
        let answer = bus.asked wire asked (call_in (transaction_of m.kind q) m.out m.last).out m.reply after k.sender m.made streamed
        sent in
        let s : Settles m.kind q m.out m.last m.reply = a_transaction_settles m.kind q m.out m.last m.reply m.sent.all in
        let turned = g.toggle k.toggle k.expects in
        let before : IsHalf (packets q.addr q.ep) k.sender (acc m.copy.at) q.token.toggle =
        subst (λ (b : Bool). IsHalf (packets q.addr q.ep) k.sender (acc m.copy.at) b) turned.0 (subst (λ (e : Endpoint). IsHalf (packets e.addr e.ep) k.sender (acc m.copy.at) k.toggle) is k.half) in
        let step : InStep (packets q.addr q.ep) answer.sender (acc m.copy.at) made.got made.host.toggle =
        in_step (packets q.addr q.ep) k.sender (acc m.copy.at) (host_in q) made.host made.outcome made.got s.host
        (subst (λ (i : Pid). Brings i made.outcome made.got) (ap pid_at pid) s.bytes) before asked refl refl m.reply answer.sender
        (in_moves asked (moving_of (transaction_of m.kind q).split (transaction_of m.kind q).pipe.pid (host_in q) (length m.out)) m.last
        m.reply (host_in q) plain token)
        (ap (λ (c : ℕ). got_of (pid_at c) made.outcome m.reply) pid) answer.answers in
        record {
          at = m.copy.at;
          more = step.more;
          few = step.few;
          all = record {
            pipes = λ n also.
                ⊎_elim {C = IsPipe (packets (endpoint n).addr (endpoint n).ep) (sender after (endpoint n).addr (endpoint n).ep) (grown acc m.copy.at step.more n) now later n (endpoint n)}
                (λ (same_one : n ≡ m.copy.at).
                subst (λ (i : ℕ). IsPipe (packets (endpoint i).addr (endpoint i).ep) (sender after (endpoint i).addr (endpoint i).ep) (grown acc m.copy.at step.more i) now later i (endpoint i)) (sym same_one)
                (record {
                  named = named_still m.copy.at x k.named;
                  ins = in_still (parts m.copy.at) (now m.copy.at) (alters m.copy.at) k.ins;
                  toggle = made.host.toggle;
                  expects = toggle_still m.copy.at made.host.toggle turned.1;
                  sender = answer.sender;
                  is = ap (λ (e : Endpoint). sender after e.addr e.ep) is ∙ answer.is;
                  half = subst (λ (e : Endpoint). IsHalf (packets e.addr e.ep) answer.sender (grown acc m.copy.at step.more m.copy.at) made.host.toggle) (sym is)
                      (subst (λ (xs : List (List ℕ)). IsHalf (packets q.addr q.ep) answer.sender xs made.host.toggle) (sym (grown_here acc m.copy.at step.more)) step.half);
                }))
                (λ (differs : n ≢ m.copy.at). pipe_same m.copy.at step.more n also (grown_beside acc m.copy.at step.more n differs)
                (λ u same_sender. bus.others wire asked (call_in (transaction_of m.kind q) m.out m.last).out m.reply after
                (endpoint n).addr (endpoint n).ep u m.made (ends.on n also) same_sender
                (λ z both. differs (ends.apart n m.copy.at also streamed_one (both.0 ∙ ap (λ (e : Endpoint). e.addr) (sym is))
                (both.1 ∙ ap (λ (e : Endpoint). e.ep) (sym is)))))
                (named_still n (endpoint n)) (λ b has. toggle_still n b (g.other_toggles n b differs has))) (cases_eq n m.copy.at);
            others = λ n yes none. elsewhere_still stream parts now n (endpoint n) (alters n) (named_still n (endpoint n)) (piped.others n yes none);
          };
          told = (
            λ yes. (refl, ap (λ (b : Bool). if b then made.got else take (moved_by made.outcome) (drop (buffer_place q - m.sent.element.offset) (buffer_of (parts m.copy.at) m.sent.element))) (eq-eqb q.token.pid 1 pid) ∙ step.bytes),
            λ none. absurd (false≢true (sym none ∙ streamed_one)),
          );
        }

    grows_rest : (b : Bool) → streams m.copy.at ≡ b → Rest (grows m all g)
    grows_rest true on = streamed_rest on
    grows_rest false off = elsewhere_rest off

  pub rest_by : (z : StreamEffect Beside transacts parts hand wire after now later) → Rest z
  rest_by (same s quiet) = quiet_rest s quiet
  rest_by (aside s ask out reply beside made) = aside_rest s ask out reply beside made
  rest_by (grows m all g) = grows_rest m all g (streams m.copy.at) refl

-- of a ring
pub ring_rest : {W : Type 0} (transacts : W → Ask → List ℕ → Reply → W → Type 0) (stream : ℕ → ℕ → Bool) (packets : ℕ → ℕ → List (List ℕ))
    (sender : W → ℕ → ℕ → Option Sender) (member streams : ℕ → Bool) (endpoint : ℕ → Endpoint)
    → AreEndpoints stream member streams endpoint → IsBus transacts stream sender
    → (acc : ℕ → List (List ℕ)) (parts : StructureSets) (hand : Hand) (reply : Reply) (wire : W) → IsInHand member parts reply hand
    → ArePiped stream packets sender member streams endpoint acc parts hand wire
    → (after : W) (now : StructureSets) (later : Hand) (kind : WalkStep) → Effect transacts parts hand wire after now later kind
    → (z : StreamEffect NoneBeside transacts parts hand wire after now later)
    → PipesGoOn stream packets sender member streams endpoint acc z
ring_rest transacts stream packets sender member streams endpoint ends bus acc parts hand reply wire in_hand piped after now later kind
    effect z =
    rest_by transacts stream packets sender member streams endpoint ends bus acc parts hand wire piped after now later
    (effect_alters transacts member parts hand reply wire after now later kind in_hand effect)
    (λ m. let copied : IsCopied member parts m.copy = subst (IsInHand member parts reply) m.in_hand in_hand in copied.on)
    (λ ask none asked. none) z

pub each_event_keeps_the_pipes : {W : Type 0} (transacts : W → Ask → List ℕ → Reply → W → Type 0) (stream : ℕ → ℕ → Bool) (packets : ℕ → ℕ → List (List ℕ)) (sender : W → ℕ → ℕ → Option Sender) (base : Base) (member streams : ℕ → Bool) (endpoint : ℕ → Endpoint) (acc : ℕ → List (List ℕ)) (parts : StructureSets) (hand : Hand) (p : WalkPlace) (wire : W) (new : WalkPlace) (after : W)
    → AreEndpoints stream member streams endpoint → IsBus transacts stream sender → IsRing base member parts hand p → ArePiped stream packets sender member streams endpoint acc parts hand wire
    → AreBytesHeard transacts wire after → Leads transacts (event_row p) (at_event p) wire new after
    → GoesOn transacts stream packets sender base member streams endpoint acc parts hand wire after new (step_of (event_row p) (at_event p))
each_event_keeps_the_pipes transacts stream packets sender base member streams endpoint acc parts hand p wire new after ends bus ring piped
    heard lead =
    let e : Streams transacts base member parts hand wire after new (step_of (event_row p) (at_event p)) = each_event_moves_one_stream transacts base member parts hand p wire new after ring heard lead in
    let r = ring_rest transacts stream packets sender member streams endpoint ends bus acc parts hand p.walk.reply wire ring.in_hand piped
    after e.happens.now e.happens.later (step_of (event_row p) (at_event p)) e.happens.effect e.streams in
    record { event = e; at = r.at; more = r.more; few = r.few; piped = r.all; told = r.told }

pub accepted_bytes_begin_each_stream : {W : Type 0} (stream : ℕ → ℕ → Bool) (packets : ℕ → ℕ → List (List ℕ)) (sender : W → ℕ → ℕ → Option Sender) (member streams : ℕ → Bool) (endpoint : ℕ → Endpoint) (acc : ℕ → List (List ℕ)) (parts : StructureSets) (hand : Hand) (wire : W) (n : ℕ)
    → ArePiped stream packets sender member streams endpoint acc parts hand wire → streams n ≡ true → IsPrefix (concat (acc n)) (concat (packets (endpoint n).addr (endpoint n).ep))
accepted_bytes_begin_each_stream stream packets sender member streams endpoint acc parts hand wire n piped on =
    let k = piped.pipes n on in
    accepted_begins (packets (endpoint n).addr (endpoint n).ep) (pipe_at k.half.known k.sender.sends (acc n) k.toggle) k.half.agrees
