-- No event of the controller asks an endpoint that no queue head is for.
use Rattle.std.proofs.Common.{◌≡◌, ℕ, Bool, true, false, List, Option, Some, ap, refl, sym, subst, ◌∙◌, inl, inr}
use Rattle.std.proofs.lemmas.Bool.{false≢true}
use Rattle.usb_base.specs.declared.packets.Ask.{Ask}
use Rattle.usb_base.specs.declared.packets.Reply.{Reply}
use Rattle.hc_copy.specs.Transacting.{call_in}
use Rattle.hc_copy.specs.Planning.{transaction_of}
use Rattle.hc_core.specs.Controller.{Content, walk_place}
use Rattle.law_structures.specs.lent_structures.Structures.{StructureSets}
use Rattle.law_structures.specs.lent_structures.Sound.{IsSoundQueue, IsMember}
use Rattle.law_structures.proofs.lemmas.lent_structures.Altering.{found_queue}
use Rattle.law_ring.specs.Hand.{Hand}
use Rattle.claims_base.specs.Controller.{Base}
use Rattle.law_ring.specs.Ring.{IsCopied, IsInHand, IsRing}
use Rattle.law_ring.specs.Effects.{Asks}
use Rattle.law_ring.specs.Told.{Endpoint, endpoint_of, HasEndpoint}
use Rattle.law_ring.specs.Streams.{NoneBeside, StreamEffect}
use Rattle.law_ring.specs.Streams.StreamEffect.{same, aside, grows}
use Rattle.law_controller.specs.controlled_streams.Control.{IsControlled, ControlEffect, a_microframe, a_step}
use Rattle.law_ring.specs.Bus.{Sender, IsStreamAsk, IsBus, KeepsSenders}
use Rattle.law_ring.specs.Pipes.{IsElsewhere, ArePiped}
use Rattle.law_ring.proofs.Direction.{other_asked, works_not_in}
use Rattle.law_controller.specs.controlled_streams.Unopened.{IsUntouched, IsUnopened, UnopenedSendersWait}

module _ {W : Type 0} (begins : W → ℕ → Bool → W → Type 0) (transacts : W → Ask → List ℕ → Reply → W → Type 0) (stream : ℕ → ℕ → Bool) (packets : ℕ → ℕ → List (List ℕ)) (sender : W → ℕ → ℕ → Option Sender) (base : Base) (member streams : ℕ → Bool) (endpoint : ℕ → Endpoint) (acc : ℕ → List (List ℕ)) (parts : StructureSets) (hand : Hand) (c : Content) (wire after : W) (now : StructureSets) (later : Hand) (bus : IsBus transacts stream sender) (keeps : KeepsSenders begins stream sender) (controlled : IsControlled base member parts hand c) (piped : ArePiped stream packets sender member streams endpoint acc parts hand wire) (addr ep : ℕ) (on : stream addr ep ≡ true) (unopened : IsUnopened streams endpoint addr ep) (k : IsUntouched (packets addr ep) (sender wire addr ep)) where
  goes_on : sender after addr ep ≡ Some k.sender → IsUntouched (packets addr ep) (sender after addr ep)
  goes_on is = record { sender = k.sender; is = is; left = k.left; sends = k.sends }

  module _ (m : Asks transacts parts hand wire after later) where
    abbrev asked : Ask
    asked = (call_in (transaction_of m.kind m.copy.queue) m.out m.last).ask

    copied : IsCopied member parts m.copy
    copied =
        let ring : IsRing base member parts hand (walk_place c) = controlled.ring in
        subst (IsInHand member parts (walk_place c).walk.reply) m.in_hand ring.in_hand

    asked_is : (x : Endpoint) → HasEndpoint parts m.copy.at x → x ≡ endpoint_of m.copy.queue
    asked_is x has = has.is ∙ ap endpoint_of (found_queue (parts m.copy.at m.copy.at) has.queue m.copy.queue has.head copied.here)

    sound : IsSoundQueue (parts m.copy.at) m.copy.queue
    sound =
        let x : IsMember member m.copy.at (parts m.copy.at) = controlled.ring.members m.copy.at copied.on in
        subst (IsSoundQueue (parts m.copy.at)) (found_queue (parts m.copy.at m.copy.at) x.queue m.copy.queue x.here copied.here) x.sound

    not_by : IsElsewhere stream parts m.copy.at (endpoint m.copy.at) → IsStreamAsk stream asked → ⊥
    not_by (has, inl none) s = false≢true (sym none ∙ ap (λ (x : Endpoint). stream x.addr x.ep) (asked_is (endpoint m.copy.at) has) ∙ s.on)
    not_by (has, inr nots) s =
        other_asked m.copy.queue.token.pid (transaction_of m.kind m.copy.queue).split m.kind m.copy.queue.token.ping
        (works_not_in (parts m.copy.at) m.copy.queue sound m.works nots) s.token

    never : (b : Bool) → streams m.copy.at ≡ b → IsStreamAsk stream asked → (addr ≡ asked.addr) × (ep ≡ asked.ep) → ⊥
    never true streamed s both =
        let is : endpoint m.copy.at ≡ endpoint_of m.copy.queue = asked_is (endpoint m.copy.at) (piped.pipes m.copy.at streamed).named in
        unopened m.copy.at streamed (ap (λ (x : Endpoint). x.addr) is ∙ sym both.0) (ap (λ (x : Endpoint). x.ep) is ∙ sym both.1)
    never false off s both = not_by (piped.others m.copy.at copied.on off) s

    asked_on : IsUntouched (packets addr ep) (sender after addr ep)
    asked_on = goes_on (bus.others wire asked (call_in (transaction_of m.kind m.copy.queue) m.out m.last).out m.reply after addr ep
        k.sender m.made on k.is (λ s both. never (streams m.copy.at) refl s both))

  by_stream : StreamEffect NoneBeside transacts parts hand wire after now later → IsUntouched (packets addr ep) (sender after addr ep)
  by_stream (same told quiet) = goes_on (ap (λ (w : W). sender w addr ep) quiet ∙ k.is)
  by_stream (aside told ask out reply none made) = absurd none
  by_stream (grows m all g) = asked_on m

  pub by_control : ControlEffect begins transacts parts hand wire after now later → IsUntouched (packets addr ep) (sender after addr ep)
  by_control (a_microframe b) = goes_on (keeps wire b.index b.allowed after addr ep k.sender b.asked on k.is)
  by_control (a_step w) = by_stream w.streams

pub unopened_senders_wait : {W : Type 0} (begins : W → ℕ → Bool → W → Type 0) (transacts : W → Ask → List ℕ → Reply → W → Type 0) → UnopenedSendersWait begins transacts
unopened_senders_wait begins transacts stream packets sender base member streams endpoint acc parts hand c wire after now later bus keeps controlled piped effect k addr ep on unopened =
    by_control begins transacts stream packets sender base member streams endpoint acc parts hand c wire after now later bus keeps controlled piped addr ep on unopened (k addr ep on unopened) effect
