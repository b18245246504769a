-- The pipes of all IN endpoints of a ring at once (EHCI 1.0, 4.10; USB 2.0, 8.6): whatever is lost on the bus, wherever the walk is and whatever it
-- has in hand, the packets that the host took of each are the first ones of its stream, each once and in order.
--     IsIn, IsNotIn             the active qTDs of a queue head are INs, or none is
--     pipe_at ..                the pipe of a sender that knows so many packets to be accepted with a host that took these
--     IsHalf ..                 both sides of the pipe of a sender agree
--     IsPipe ..                 the same of the pipe of a queue head
--     AreEndpoints ..           these queue heads are those of the streams: high-speed endpoints, each of its own
--     ArePiped ..               the pipe of each of them agrees, and no other queue head asks one of the streams
--     grown acc at more         the packets taken, with these of the queue head `at` at their end
--     GoesOn ..                 an event of the walk: at most one packet more of one of them, whose bytes its current qTD grew by
use Rattle.std.specs.Prelude.{◌≡◌, ◌≢◌, ℕ, ◌≤◌, ◌⊎◌, Bool, true, false, ◌==◌, List, [], ◌++◌, drop, length, Option, Some, if◌then◌else◌}
use Rattle.std.specs.List.{concat}
use Rattle.usb_base.specs.declared.packets.Ask.{Ask}
use Rattle.usb_base.specs.declared.packets.Reply.{Reply}
use Rattle.qh_qtd.specs.declared.qtd.Qtd.{Qtd}
use Rattle.async_walk.specs.declared.state.WalkStep.{WalkStep}
use Rattle.async_walk.specs.Rows.{WalkPlace}
use Rattle.law_structures.specs.lent_structures.Structures.{Element, Structures, StructureSets}
use Rattle.law_ring.specs.Hand.{Hand}
use Rattle.claims_base.specs.Controller.{Base}
use Rattle.law_ring.specs.Effects.{buffer_of, came_to}
use Rattle.law_ring.specs.Told.{HasToggle, Endpoint, HasEndpoint}
use Rattle.law_ring.specs.Streams.{moved_bytes, StreamEffect, Streams}
use Rattle.law_ring.specs.Streams.StreamEffect.{same, aside, grows}
use Rattle.law_pipe.specs.Pipe.{Pipe, PipeAgrees}
use Rattle.law_ring.specs.Bus.{Sender}

-- ---- which direction

abbrev pub IsIn : Structures → Type 0
IsIn part = (a : ℕ) (t : Qtd) → part a ≡ Some (Element t) → t.token.active ≡ true → t.token.pid ≡ 1

abbrev pub IsNotIn : Structures → Type 0
IsNotIn part = (a : ℕ) (t : Qtd) → part a ≡ Some (Element t) → t.token.active ≡ true → t.token.pid ≢ 1

-- ---- one pipe

abbrev pub pipe_at : ℕ → Bool → List (List ℕ) → Bool → Pipe (List ℕ)
pipe_at known sends acc toggle = record { known = known; sends = sends; accepted = acc; expects = toggle }

-- the sender has these packets left, and both sides of its pipe agree
pub record IsHalf (packets : List (List ℕ)) (s : Sender) (acc : List (List ℕ)) (toggle : Bool) : Type 0 where
  pub known : ℕ
  pub left : s.left ≡ drop known packets
  pub agrees : PipeAgrees packets (pipe_at known s.sends acc toggle)

pub record IsPipe (packets : List (List ℕ)) (o : Option Sender) (acc : List (List ℕ)) (parts : StructureSets) (hand : Hand) (n : ℕ) (x : Endpoint) : Type 0 where
  pub named : HasEndpoint parts n x
  pub ins : IsIn (parts n)
  pub toggle : Bool
  pub expects : HasToggle hand parts n toggle
  pub sender : Sender
  pub is : o ≡ Some sender
  pub half : IsHalf packets sender acc toggle

-- ---- all of them

-- what doesn't change: the queue heads with streams, and their endpoints
pub record AreEndpoints (stream : ℕ → ℕ → Bool) (member streams : ℕ → Bool) (endpoint : ℕ → Endpoint) : Type 0 where
  pub members : (n : ℕ) → streams n ≡ true → member n ≡ true
  pub on : (n : ℕ) → streams n ≡ true → stream (endpoint n).addr (endpoint n).ep ≡ true
  pub high : (n : ℕ) → streams n ≡ true → (endpoint n).speed ≡ 2
  pub apart : (n k : ℕ) → streams n ≡ true → streams k ≡ true → (endpoint n).addr ≡ (endpoint k).addr → (endpoint n).ep ≡ (endpoint k).ep → n ≡ k

-- a queue head of another endpoint asks none of the streams
abbrev pub IsElsewhere : (ℕ → ℕ → Bool) → StructureSets → ℕ → Endpoint → Type 0
IsElsewhere stream parts n x = HasEndpoint parts n x × ((stream x.addr x.ep ≡ false) ⊎ IsNotIn (parts n))

pub record ArePiped {W : Type 0} (stream : ℕ → ℕ → Bool) (packets : ℕ → ℕ → List (List ℕ)) (sender : W → ℕ → ℕ → Option Sender) (member streams : ℕ → Bool) (endpoint : ℕ → Endpoint)
    (acc : ℕ → List (List ℕ)) (parts : StructureSets) (hand : Hand) (wire : W) : Type 0 where
  pub pipes : (n : ℕ) → streams n ≡ true → IsPipe (packets (endpoint n).addr (endpoint n).ep) (sender wire (endpoint n).addr (endpoint n).ep) (acc n) parts hand n (endpoint n)
  pub others : (n : ℕ) → member n ≡ true → streams n ≡ false → IsElsewhere stream parts n (endpoint n)

abbrev pub grown : (ℕ → List (List ℕ)) → ℕ → List (List ℕ) → ℕ → List (List ℕ)
grown acc at more k = if k == at then acc k ++ more else acc k

-- what was told of the packets taken: of a queue head with a stream the current qTD grew by their bytes, and else there are none
abbrev pub IsToldBy : {W : Type 0} {Beside : Ask → Type 0} {transacts : W → Ask → List ℕ → Reply → W → Type 0} {parts : StructureSets}
    {hand : Hand} {wire after : W} {now : StructureSets}
    {later : Hand} → (ℕ → Bool) → ℕ → List (List ℕ) → StreamEffect Beside transacts parts hand wire after now later → Type 0
IsToldBy streams at more (same s quiet) = more ≡ []
IsToldBy streams at more (aside s ask out reply beside made) = more ≡ []
IsToldBy {parts = parts} streams at more (grows m all g) =
    (streams m.copy.at ≡ true → (at ≡ m.copy.at) ×
    (moved_bytes m.copy.queue m.sent.element (came_to m) (buffer_of (parts m.copy.at) m.sent.element) ≡ concat more))
    × (streams m.copy.at ≡ false → more ≡ [])

pub record GoesOn {W : Type 0} (transacts : W → Ask → List ℕ → Reply → W → Type 0) (stream : ℕ → ℕ → Bool) (packets : ℕ → ℕ → List (List ℕ)) (sender : W → ℕ → ℕ → Option Sender) (base : Base)
    (member streams : ℕ → Bool) (endpoint : ℕ → Endpoint) (acc : ℕ → List (List ℕ)) (parts : StructureSets) (hand : Hand) (wire after : W) (new : WalkPlace) (kind : WalkStep) : Type 0 where
  pub event : Streams transacts base member parts hand wire after new kind
  pub at : ℕ
  pub more : List (List ℕ)
  pub few : length more ≤ 1
  pub piped : ArePiped stream packets sender member streams endpoint (grown acc at more) event.happens.now event.happens.later after
  pub told : IsToldBy streams at more event.streams
