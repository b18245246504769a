-- The stream of an OUT endpoint of a ring under the controller and its driver (EHCI 1.0, 4.6 and 4.10; USB 2.0, 8.6).
--     IsOutStream ..          no other queue head asks the endpoint, both sides of its pipe agree, and the bytes that the host knows to be taken are
--                             those of the qTDs that were harvested, and then those moved of the published ones
--     OutGoesOn ..            an event of the controller: some more bytes are known to be taken, maybe none
--     OutIsSpared, IsUnmovedStill
--                             a step of a driver that spares the queue head and the qTD that it works on leaves both sides agreed
--     KnownBeginsTaken               what the host knows to be taken begins what the device took
use Rattle.std.specs.Prelude.{◌≡◌, ℕ, Bool, true, List, ◌++◌, Option, Some}
use Rattle.usb_base.specs.declared.packets.Ask.{Ask}
use Rattle.usb_base.specs.declared.packets.Reply.{Reply}
use Rattle.link_words.specs.declared.fields.LinkBits.{LinkBits}
use Rattle.qh_qtd.specs.declared.queue_head.Qh.{Qh}
use Rattle.hc_core.specs.Controller.{Content}
use Rattle.law_structures.specs.lent_structures.Structures.{QueueHead, StructureSets}
use Rattle.law_ring.specs.Hand.{Hand}
use Rattle.claims_base.specs.Controller.{Base}
use Rattle.law_ring.specs.Told.{Endpoint}
use Rattle.law_ring.specs.Order.{Accounts}
use Rattle.law_controller.specs.controlled_streams.Control.{Controls}
use Rattle.law_ring.specs.Stores.{hand_linked, hand_stale}
use Rattle.law_ring.specs.Sparing.{SameHand, SparesHead, SparesElement}
use Rattle.law_ring.specs.OutBus.{Taker}
use Rattle.law_ring.specs.OutPipes.{IsOut, IsUnmoved, IsOutPipe}
use Rattle.law_ring.specs.OutPipeLaws.{IsOnlyEndpoint}

pub record IsOutStream (stream : ℕ → ℕ → Bool) (o : Option Taker) (member : ℕ → Bool) (order : ℕ → ℕ) (out : List ℕ) (parts : StructureSets) (hand : Hand) (n : ℕ) (x : Endpoint)
    (harvested : List ℕ) : Type 0 where
  pub only : IsOnlyEndpoint stream member parts n x
  pub place : ℕ
  pub told : List ℕ
  pub accounts : Accounts order place out hand parts n told
  pub pipe : IsOutPipe o (harvested ++ told) parts hand n x

pub record OutGoesOn {W : Type 0} (begins : W → ℕ → Bool → W → Type 0) (transacts : W → Ask → List ℕ → Reply → W → Type 0) (stream : ℕ → ℕ → Bool) (taker : W → ℕ → ℕ → Option Taker) (base : Base)
    (member : ℕ → Bool) (order : ℕ → ℕ) (out : List ℕ) (parts : StructureSets) (hand : Hand) (wire after : W) (new : Content) (n : ℕ) (x : Endpoint) (harvested : List ℕ) : Type 0 where
  pub event : Controls begins transacts base member parts hand wire after new
  pub stream_now : IsOutStream stream (taker after x.addr x.ep) member order out event.now event.later n x harvested

-- ---- steps of a driver

abbrev pub LinkedIsUnmoved : Type 0
LinkedIsUnmoved = (at : ℕ) (l : LinkBits) (hand : Hand) (n : ℕ) → IsUnmoved hand n → IsUnmoved (hand_linked at l hand) n

abbrev pub StaleIsUnmoved : Type 0
StaleIsUnmoved = (at : ℕ) (hand : Hand) (n : ℕ) → IsUnmoved hand n → IsUnmoved (hand_stale at hand) n

abbrev pub OutIsSpared : Type 0
OutIsSpared = (hand later : Hand) (parts now : StructureSets) (n : ℕ) (x : Endpoint) (o : Option Taker) (known : List ℕ) → SameHand hand later → (IsUnmoved hand n → IsUnmoved later n)
    → SparesHead parts now n
    → ((q : Qh) → parts n n ≡ Some (QueueHead q) → q.token.active ≡ true → SparesElement parts now n q.current) → IsOut (now n) → IsOutPipe o known parts hand n x → IsOutPipe o known now later n x

-- ---- what was taken

pub record Begins (o : Option Taker) (known : List ℕ) : Type 0 where
  pub taker : Taker
  pub is : o ≡ Some taker
  pub unheard : List ℕ
  pub taken : taker.taken ≡ known ++ unheard

abbrev pub KnownBeginsTaken : Type 0
KnownBeginsTaken = (o : Option Taker) (known : List ℕ) (parts : StructureSets) (hand : Hand) (n : ℕ) (x : Endpoint) → IsOutPipe o known parts hand n x → Begins o known
