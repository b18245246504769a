-- The requests of a control endpoint below a hub, one behind the other, at each event of the walk of the ring (EHCI 1.0, 4.8, 4.10 and
-- 4.12; USB 2.0, 8.5.3 and 11.17).
--     AreOneByOne v      requests of one endpoint, each with qTDs of its own; the status of each leads to the SETUP of the next one
--     IsQueueBelow ..    one is under way, as memory and the copy in hand show it; those before it are done, those behind it laid out
--     QueueGoesOn ..     so they are with other lines: the same one is under way, or the next is begun, in which the device didn't act
--     WalkKeepsQueue     each event of the walk leaves them so
use Rattle.std.specs.Prelude.{◌≡◌, ◌≢◌, ◌<◌, ◌≤◌, ◌⊎◌, ℕ, suc, Bool, List, []}
use Rattle.usb_base.specs.declared.packets.Reply.{Reply}
use Rattle.async_walk.specs.declared.state.WalkStep.{WalkStep}
use Rattle.bus_wire.specs.Bus.{Wired}
use Rattle.law_structures.specs.lent_structures.Structures.{StructureSets}
use Rattle.law_ring.specs.Hand.{Hand}
use Rattle.law_ring.specs.Ring.{IsInHand}
use Rattle.law_ring.specs.Effects.{Effect}
use Rattle.law_ring.specs.Streams.{AreMembers}
use Rattle.law_request.specs.Windows.{IsRequest}
use Rattle.law_devices.specs.ring_requests.Laid.{AreApart, AreOthers}
use Rattle.law_devices.specs.ring_requests.Resting.{IsAlone}
use Rattle.law_devices.specs.ring_requests.Windows.{Queue, Lines, IsQueueOf, AreChained}
use Rattle.law_devices.specs.scripted_requests.Controls.{transacts_by}
use Rattle.law_below_hubs.specs.RequestEvents.{SparesEndpointNow}
use Rattle.law_below_hubs.specs.RequestWindows.{IsWindowBelow}
use Rattle.law_below_hubs.specs.Splits.{IsAtHub}

pub record AreOneByOne (v : Queue) : Type 0 where
  pub requests : (j : ℕ) → j < v.count → IsRequest (v.requests j)
  pub whole : 8 ≤ v.endpoint.max
  pub places : (j : ℕ) → j < v.count → AreApart (v.places j)
  pub others : (j k : ℕ) → j < v.count → k < v.count → j ≢ k → AreOthers (v.places j) (v.places k)
  pub chained : AreChained v

-- the device acted so in the window of the one under way
abbrev pub IsQueueBelow : Queue → ℕ → ℕ → Wired → Lines → List (List ℕ) → Hand → StructureSets → ℕ → Type 0
IsQueueBelow v i place wire l acts hand parts n = IsQueueOf (λ s x. IsWindowBelow s i place wire x acts hand parts n) v l hand parts n

pub record QueueGoesOn (v : Queue) (i place : ℕ) (wire : Wired) (l : Lines) (acts : List (List ℕ)) (hand : Hand) (parts : StructureSets)
    (n : ℕ) : Type 0 where
  pub lines : Lines
  pub acted : List (List ℕ)
  pub queue : IsQueueBelow v i place wire lines acted hand parts n
  pub under : ((lines.under ≡ l.under) × (acted ≡ acts)) ⊎ ((lines.under ≡ suc l.under) × (acted ≡ []))
  -- the windows before it stay
  pub earlier : (j : ℕ) → j < lines.under → lines.line j ≡ l.line j

abbrev pub WalkKeepsQueue : Type 0
WalkKeepsQueue = (member : ℕ → Bool) (v : Queue) (i place n : ℕ) (parts : StructureSets) (hand : Hand) (reply : Reply) (wire after : Wired)
    (now : StructureSets) (later : Hand) (kind : WalkStep) (l : Lines) (acts : List (List ℕ)) → AreOneByOne v
    → AreMembers member parts → IsInHand member parts reply hand → IsAlone member v.endpoint parts n
    → SparesEndpointNow v.endpoint i place wire after
    → ((hub port : ℕ) → IsAtHub wire.bus.hubs hub port i place → IsAtHub after.bus.hubs hub port i place)
    → Effect transacts_by parts hand wire after now later kind → IsQueueBelow v i place wire l acts hand parts n
    → QueueGoesOn v i place after l acts later now n
