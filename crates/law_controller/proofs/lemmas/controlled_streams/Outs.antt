-- Each event of the controller, and each step that spares it, keeps the stream of an OUT endpoint.
use Rattle.std.proofs.Common.{◌≡◌, ℕ, ◌+◌, ◌*◌, ◌-◌, ◌==◌, min, Bool, true, false, if◌then◌else◌, List, [], ◌∷◌, ◌++◌, length, take, drop, Option, Some, ap, sym, subst, ◌∙◌}
use Rattle.std.proofs.lemmas.List.{append_assoc, append-nil}
use Rattle.law_controller.proofs.Common.{apart_still}
use Rattle.usb_base.specs.declared.packets.Ask.{Ask}
use Rattle.usb_base.specs.declared.packets.Reply.{Reply}
use Rattle.qh_qtd.specs.declared.token.Token.{Token}
use Rattle.qh_qtd.specs.declared.qtd.Qtd.{Qtd}
use Rattle.qh_qtd.specs.declared.queue_head.Qh.{Qh}
use Rattle.hc_copy.specs.Overlay.{buffer_place}
use Rattle.hc_core.specs.Controller.{Content, microframe_row, HasRow, walk_place}
use Rattle.law_structures.specs.lent_structures.Structures.{Element, Structures, StructureSets}
use Rattle.law_structures.specs.lent_structures.Sound.{IsMember}
use Rattle.law_structures.proofs.lemmas.lent_structures.Altering.{found_queue}
use Rattle.law_ring.specs.Hand.{Copy, Hand, Empty, Copied, Stale, copied_queue}
use Rattle.claims_base.specs.Controller.{Base}
use Rattle.law_ring.specs.Ring.{IsRing}
use Rattle.law_ring.specs.Effects.{buffer_of, AreBytesHeard}
use Rattle.law_ring.specs.Told.{HasToggle, Endpoint, HasEndpoint}
use Rattle.law_ring.specs.Streams.{StreamEffect}
use Rattle.law_ring.specs.Streams.StreamEffect.{same, aside, grows}
use Rattle.law_ring.proofs.Altered.{effect_alters}
use Rattle.law_ring.specs.Order.{bytes_of_effect, GoesOnInOrder}
use Rattle.law_ring.proofs.Adding.{each_event_adds_to_the_end}
use Rattle.law_controller.specs.controlled_streams.Control.{IsOn, IsControlled, BeginsMicroframe, WalksRing, ControlEffect, a_microframe, a_step, Controls}
use Rattle.law_controller.proofs.lemmas.controlled_streams.Controlling.{each_event_of_the_controller}
use Rattle.law_ring.specs.Sparing.{SameOverlay, HasOverlay, SparesElement}
use Rattle.law_ring.proofs.SparedSparing.{spared_has_toggle, spared_endpoint}
use Rattle.law_ring.specs.OutBus.{Taker, IsOutBus, KeepsTakers}
use Rattle.law_ring.specs.OutPipes.{IsNext, IsUnmoved, OutAgrees, level, ahead, ended, IsOutPipe}
use Rattle.law_ring.specs.OutPipeLaws.{IsBeside, IsOnlyEndpoint}
use Rattle.law_ring.proofs.Assembling.{each_event_keeps_an_out_pipe}
use Rattle.law_controller.specs.controlled_streams.Reported.{IsReported}
use Rattle.law_controller.proofs.lemmas.controlled_streams.Reporting.{a_harvest_adds_to_the_report}
use Rattle.law_controller.specs.controlled_streams.Outs.{IsOutStream, OutGoesOn, LinkedIsUnmoved, StaleIsUnmoved, OutIsSpared, Begins, KnownBeginsTaken}

-- ---- no other queue head asks the endpoint

named_still : {W : Type 0} {Beside : Ask → Type 0} {transacts : W → Ask → List ℕ → Reply → W → Type 0} {parts : StructureSets}
    {hand : Hand} {wire after : W} {now : StructureSets} {later : Hand} (n : ℕ) (x : Endpoint)
    → StreamEffect Beside transacts parts hand wire after now later → HasEndpoint parts n x → HasEndpoint now n x
named_still n x (same told quiet) has = told.endpoint n x has
named_still n x (aside told ask out reply beside made) has = told.endpoint n x has
named_still n x (grows m all g) has = subst (λ (ps : StructureSets). HasEndpoint ps n x) (sym all) has

-- ---- an event of the walk

module _ {W : Type 0} (begins : W → ℕ → Bool → W → Type 0) (transacts : W → Ask → List ℕ → Reply → W → Type 0) (stream : ℕ → ℕ → Bool) (taker : W → ℕ → ℕ → Option Taker) (base : Base) (member : ℕ → Bool) (order : ℕ → ℕ) (out : List ℕ) (parts : StructureSets) (hand : Hand) (c : Content) (wire after : W) (n : ℕ) (x : Endpoint) (harvested : List ℕ) (bus : IsOutBus transacts stream taker) (keeps : KeepsTakers begins stream taker) (controlled : IsControlled base member parts hand c) (k : IsOutStream stream (taker wire x.addr x.ep) member order out parts hand n x harvested) (now : StructureSets) (later : Hand) (new : Content) (controlled_now : IsControlled base member now later new) where
  abbrev ring : IsRing base member parts hand (walk_place c)
  ring = controlled.ring

  only_still : (w : WalksRing transacts parts hand wire after now later) → IsOnlyEndpoint stream member now n x
  only_still w = record {
    on = k.only.on;
    streamed = k.only.streamed;
    high = k.only.high;
    others = λ m on differs.
        let b : IsBeside parts m x = k.only.others m on differs in
        record {
          endpoint = b.endpoint;
          named = named_still m b.endpoint w.streams b.named;
          apart = apart_still (parts m) (now m) x b.endpoint (effect_alters transacts member parts hand (walk_place c).walk.reply wire after now later w.kind ring.in_hand w.effect m) b.apart;
        };
  }

  step_keeps : WalksRing transacts parts hand wire after now later → IsOutStream stream (taker after x.addr x.ep) member order out now later n x harvested
  step_keeps w =
      let goes : GoesOnInOrder order out later now n k.told (bytes_of_effect n w.streams) = each_event_adds_to_the_end transacts member parts hand (walk_place c).walk.reply wire after now later w.kind order k.place out n k.told ring.members ring.in_hand w.effect w.streams k.accounts in
      record {
        only = only_still w;
        place = goes.place;
        told = k.told ++ bytes_of_effect n w.streams;
        accounts = goes.accounts;
        pipe = subst (λ (xs : List ℕ). IsOutPipe (taker after x.addr x.ep) xs now later n x) (append_assoc harvested k.told (bytes_of_effect n w.streams))
            (each_event_keeps_an_out_pipe transacts stream taker member parts hand (walk_place c).walk.reply wire after now later w.kind n x (harvested ++ k.told) bus ring.members controlled_now.ring.members ring.in_hand w.effect w.streams k.only k.pipe);
      }

  begun_keeps : BeginsMicroframe begins parts hand wire after now later → IsOutStream stream (taker after x.addr x.ep) member order out parts hand n x harvested
  begun_keeps b = record {
    only = k.only;
    place = k.place;
    told = k.told;
    accounts = k.accounts;
    pipe = record {
      named = k.pipe.named;
      outs = k.pipe.outs;
      toggle = k.pipe.toggle;
      expects = k.pipe.expects;
      taker = k.pipe.taker;
      is = keeps wire b.index b.allowed after x.addr x.ep k.pipe.taker b.asked k.only.streamed k.pipe.is;
      agrees = k.pipe.agrees;
    };
  }

  pub event_keeps_stream : ControlEffect begins transacts parts hand wire after now later → IsOutStream stream (taker after x.addr x.ep) member order out now later n x harvested
  event_keeps_stream (a_microframe b) =
      subst (λ (h : Hand). IsOutStream stream (taker after x.addr x.ep) member order out now h n x harvested) (sym b.hand_stays)
      (subst (λ (ps : StructureSets). IsOutStream stream (taker after x.addr x.ep) member order out ps hand n x harvested) (sym b.parts_stay) (begun_keeps b))
  event_keeps_stream (a_step w) = step_keeps w

pub an_event_keeps_an_out_stream : {W : Type 0} (begins : W → ℕ → Bool → W → Type 0) (transacts : W → Ask → List ℕ → Reply → W → Type 0) (stream : ℕ → ℕ → Bool) (taker : W → ℕ → ℕ → Option Taker) (base : Base) (member : ℕ → Bool) (order : ℕ → ℕ) (out : List ℕ) (parts : StructureSets) (hand : Hand) (c : Content) (wire : W) (new : Content) (after : W) (n : ℕ) (x : Endpoint) (harvested : List ℕ)
    → IsOutBus transacts stream taker → KeepsTakers begins stream taker → IsControlled base member parts hand c → IsOn base → AreBytesHeard transacts wire after → HasRow begins transacts (microframe_row c.registers c.control) c wire new after
    → IsOutStream stream (taker wire x.addr x.ep) member order out parts hand n x harvested → OutGoesOn begins transacts stream taker base member order out parts hand wire after new n x harvested
an_event_keeps_an_out_stream begins transacts stream taker base member order out parts hand c wire new after n x harvested bus keeps controlled on heard row k =
    let e : Controls begins transacts base member parts hand wire after new = each_event_of_the_controller begins transacts base member parts hand c wire new after controlled on heard row in
    record { event = e; stream_now = event_keeps_stream begins transacts stream taker base member order out parts hand c wire after n x harvested bus keeps controlled k e.now e.later new e.controlled e.effect }

-- ---- steps of a driver

pub linked_is_unmoved : LinkedIsUnmoved
linked_is_unmoved at l Empty n un = un
linked_is_unmoved at l _ n un = un

stale_by : (at : ℕ) (c : Copy) (n : ℕ) (b : Bool) → IsUnmoved (if b then Stale at (copied_queue c) else Copied c) n
stale_by at c n true = tt
stale_by at c n false = tt

pub stale_is_unmoved : StaleIsUnmoved
stale_is_unmoved at (Copied c) n un = stale_by at c n (c.at == at)
stale_is_unmoved at _ n un = un

next_spared : (parts now : StructureSets) (n : ℕ) (q r : Qh) (y : List ℕ) → SameOverlay q r → SparesElement parts now n q.current → IsNext (parts n) q y → IsNext (now n) r y
next_spared parts now n q r y over spares next =
    let t : Qtd = next.element in
    let place : buffer_place r ≡ buffer_place q = ap (λ (z : Token). z.c_page * 4096 + r.offset) over.token ∙ ap (λ (i : ℕ). q.token.c_page * 4096 + i) over.offset in
    record {
      element = t;
      here = ap (now n) over.current ∙ spares.element t next.here;
      is = next.is ∙ ap (λ (i : ℕ). take (min i q.token.total) (drop (buffer_place q - t.offset) (buffer_of (parts n) t))) (sym (ap (λ (e : Endpoint). e.max) over.endpoint))
          ∙ ap (λ (z : Token). take (min r.max z.total) (drop (buffer_place q - t.offset) (buffer_of (parts n) t))) (sym over.token)
          ∙ ap (λ (i : ℕ). take (min r.max r.token.total) (drop (i - t.offset) (buffer_of (parts n) t))) (sym place)
          ∙ ap (λ (xs : List ℕ). take (min r.max r.token.total) (drop (buffer_place r - t.offset) xs)) (sym (spares.bytes t next.here));
    }

agrees_spared : (hand later : Hand) (parts now : StructureSets) (n : ℕ) (q r : Qh) (h : Bool) (known : List ℕ) (s : Taker) → (IsUnmoved hand n → IsUnmoved later n) → SameOverlay q r → (q.token.active ≡ true → SparesElement parts now n q.current)
    → OutAgrees (parts n) hand n q h known s → OutAgrees (now n) later n r h known s
agrees_spared hand later parts now n q r h known s un over spares (level e t) = level e t
agrees_spared hand later parts now n q r h known s un over spares (ahead y e t own on next old) =
    ahead y e t (own ∙ ap (λ (z : Token). z.toggle) (sym over.token)) (ap (λ (z : Token). z.active) over.token ∙ on) (next_spared parts now n q r y over (spares on) next) (un old)
agrees_spared hand later parts now n q r h known s un over spares (ended y e t off halted) =
    ended y e t (ap (λ (z : Token). z.active) over.token ∙ off) (ap (λ (z : Token). z.halted) over.token ∙ halted)

pub out_is_spared : OutIsSpared
out_is_spared hand later parts now n x o known hands un head elements outs k =
    let t : HasToggle later now n k.toggle = spared_has_toggle hand later parts now n k.toggle hands head k.expects in
    let h : HasOverlay now n k.expects.queue = head k.expects.queue k.expects.head in
    record {
      named = spared_endpoint parts now n x head k.named;
      outs = outs;
      toggle = k.toggle;
      expects = t;
      taker = k.taker;
      is = k.is;
      agrees = subst (λ (q : Qh). OutAgrees (now n) later n q k.toggle known k.taker) (found_queue (now n n) h.queue t.queue h.here t.head)
          (agrees_spared hand later parts now n k.expects.queue h.queue k.toggle known k.taker un h.overlay (elements k.expects.queue k.expects.head) k.agrees);
    }

-- ---- a harvest

pub a_harvest_keeps_an_out_stream : (stream : ℕ → ℕ → Bool) (o : Option Taker) (member : ℕ → Bool) (order : ℕ → ℕ) (e : ℕ) (out : List ℕ) (parts : StructureSets) (hand : Hand) (n : ℕ) (x : Endpoint) (harvested : List ℕ) (t : Qtd)
    → IsMember member n (parts n) → parts n e ≡ Some (Element t) → t.token.active ≡ false → IsOutStream stream o member order (e ∷ out) parts hand n x harvested
    → IsOutStream stream o member order out parts hand n x (harvested ++ take (length (buffer_of (parts n) t) - t.token.total) (buffer_of (parts n) t))
a_harvest_keeps_an_out_stream stream o member order e out parts hand n x harvested t m here off k =
    let known : List ℕ = harvested ++ k.told in
    let r : IsReported order out hand parts n (known ∷ []) (harvested ++ take (length (buffer_of (parts n) t) - t.token.total) (buffer_of (parts n) t)) =
    a_harvest_adds_to_the_report member order e out hand parts n (known ∷ []) harvested t m here off (record { place = k.place; told = k.told; accounts = k.accounts; sum = sym (append-nil known) }) in
    record {
      only = k.only;
      place = r.place;
      told = r.told;
      accounts = r.accounts;
      pipe = subst (λ (xs : List ℕ). IsOutPipe o xs parts hand n x) (sym (r.sum ∙ append-nil known)) k.pipe;
    }

-- ---- what was taken

begins_by : (part : Structures) (hand : Hand) (n : ℕ) (q : Qh) (h : Bool) (known : List ℕ) (s : Taker) (o : Option Taker) → o ≡ Some s → OutAgrees part hand n q h known s → Begins o known
begins_by part hand n q h known s o is (level e t) = record { taker = s; is = is; unheard = []; taken = t ∙ sym (append-nil known) }
begins_by part hand n q h known s o is (ahead y e t own on next un) = record { taker = s; is = is; unheard = y; taken = t }
begins_by part hand n q h known s o is (ended y e t off halted) = record { taker = s; is = is; unheard = y; taken = t }

pub known_begins_taken : KnownBeginsTaken
known_begins_taken o known parts hand n x k = begins_by (parts n) hand n k.expects.queue k.toggle known k.taker o k.is k.agrees
