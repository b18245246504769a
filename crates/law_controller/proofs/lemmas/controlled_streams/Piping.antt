-- Each event of the controller keeps both sides of each pipe agreed.
use Rattle.std.proofs.Common.{ℕ, ◌≤◌, Bool, List, [], length, Option, refl, sym, subst, arith}
use Rattle.usb_base.specs.declared.packets.Ask.{Ask}
use Rattle.usb_base.specs.declared.packets.Reply.{Reply}
use Rattle.hc_core.specs.Controller.{Content, microframe_row, HasRow, walk_place}
use Rattle.law_structures.specs.lent_structures.Structures.{StructureSets}
use Rattle.law_ring.specs.Hand.{Hand}
use Rattle.claims_base.specs.Controller.{Base}
use Rattle.law_ring.specs.Ring.{IsRing}
use Rattle.law_ring.specs.Effects.{AreBytesHeard}
use Rattle.law_ring.specs.Told.{Endpoint}
use Rattle.law_controller.specs.controlled_streams.Control.{IsOn, IsControlled, BeginsMicroframe, ControlEffect, a_microframe, a_step, Controls}
use Rattle.law_controller.proofs.lemmas.controlled_streams.Controlling.{each_event_of_the_controller}
use Rattle.law_ring.specs.Bus.{Sender, IsBus, KeepsSenders}
use Rattle.law_ring.specs.Pipes.{IsHalf, AreEndpoints, ArePiped, grown}
use Rattle.law_ring.proofs.PipeAgreeing.{grown_none, ring_rest}
use Rattle.law_controller.specs.controlled_streams.Events.{IsControlToldBy, ControlGoesOn}

module _ {W : Type 0} (begins : W → ℕ → Bool → W → Type 0) (transacts : W → Ask → List ℕ → Reply → W → Type 0) (stream : ℕ → ℕ → Bool) (packets : ℕ → ℕ → List (List ℕ)) (sender : W → ℕ → ℕ → Option Sender) (base : Base) (member streams : ℕ → Bool) (endpoint : ℕ → Endpoint) (ends : AreEndpoints stream member streams endpoint) (bus : IsBus transacts stream sender) (keeps : KeepsSenders begins stream sender) (acc : ℕ → List (List ℕ)) (parts : StructureSets) (hand : Hand) (c : Content) (wire : W) (controlled : IsControlled base member parts hand c) (piped : ArePiped stream packets sender member streams endpoint acc parts hand wire) (after : W) (now : StructureSets) (later : Hand) where
  record Rest (z : ControlEffect begins transacts parts hand wire after now later) : Type 0 where
    at : ℕ
    more : List (List ℕ)
    few : length more ≤ 1
    all : ArePiped stream packets sender member streams endpoint (grown acc at more) now later after
    told : IsControlToldBy streams at more z

  begun_pipes : (b : BeginsMicroframe begins parts hand wire after now later) → ArePiped stream packets sender member streams endpoint (grown acc 0 []) parts hand after
  begun_pipes b = record {
    pipes = λ n on.
        let k = piped.pipes n on in
        record {
          named = k.named;
          ins = k.ins;
          toggle = k.toggle;
          expects = k.expects;
          sender = k.sender;
          is = keeps wire b.index b.allowed after (endpoint n).addr (endpoint n).ep k.sender b.asked (ends.on n on) k.is;
          half = subst (λ (xs : List (List ℕ)). IsHalf (packets (endpoint n).addr (endpoint n).ep) k.sender xs k.toggle) (sym (grown_none acc 0 n)) k.half;
        };
    others = piped.others;
  }

  rest_of : (z : ControlEffect begins transacts parts hand wire after now later) → Rest z
  rest_of (a_microframe b) = record {
    at = 0;
    more = [];
    few = omega arith;
    all = subst (λ (h : Hand). ArePiped stream packets sender member streams endpoint (grown acc 0 []) now h after) (sym b.hand_stays)
        (subst (λ (ps : StructureSets). ArePiped stream packets sender member streams endpoint (grown acc 0 []) ps hand after) (sym b.parts_stay) (begun_pipes b));
    told = refl;
  }
  rest_of (a_step k) =
      let ring : IsRing base member parts hand (walk_place c) = controlled.ring in
      let r = ring_rest transacts stream packets sender member streams endpoint ends bus acc parts hand
      (walk_place c).walk.reply wire ring.in_hand piped after now later k.kind k.effect k.streams in
      record { at = r.at; more = r.more; few = r.few; all = r.all; told = r.told }

pub an_event_keeps_the_pipes : {W : Type 0} (begins : W → ℕ → Bool → W → Type 0) (transacts : W → Ask → List ℕ → Reply → W → Type 0) (stream : ℕ → ℕ → Bool) (packets : ℕ → ℕ → List (List ℕ)) (sender : W → ℕ → ℕ → Option Sender) (base : Base) (member streams : ℕ → Bool) (endpoint : ℕ → Endpoint) (acc : ℕ → List (List ℕ)) (parts : StructureSets) (hand : Hand) (c : Content) (wire : W) (new : Content) (after : W)
    → AreEndpoints stream member streams endpoint → IsBus transacts stream sender → KeepsSenders begins stream sender → IsControlled base member parts hand c → IsOn base
    → ArePiped stream packets sender member streams endpoint acc parts hand wire → AreBytesHeard transacts wire after → HasRow begins transacts (microframe_row c.registers c.control) c wire new after
    → ControlGoesOn begins transacts stream packets sender base member streams endpoint acc parts hand wire after new
an_event_keeps_the_pipes begins transacts stream packets sender base member streams endpoint acc parts hand c wire new after ends bus keeps controlled on piped heard row =
    let e : Controls begins transacts base member parts hand wire after new = each_event_of_the_controller begins transacts base member parts hand c wire new after controlled on heard row in
    let r = rest_of begins transacts stream packets sender base member streams endpoint ends bus keeps acc parts hand c wire controlled piped after e.now e.later e.effect in
    record { event = e; at = r.at; more = r.more; few = r.few; piped = r.all; told = r.told }
