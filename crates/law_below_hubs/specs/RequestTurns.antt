-- The first request of a queue below a hub that is at rest, and the last of one that is asked (EHCI 1.0, 4.10; USB 2.0, 8.5.3 and 11.17).
--     RestOpensBelow       its SETUP is stored at the end of the queue: its window opens, and nothing was acted on in it
--     IsDoneBelow ..       the device acted on it once, all its data are told, and the queue is at rest
--     DoneRestsBelow       so it is where memory shows that it has ended
use Rattle.std.specs.Prelude.{◌≡◌, ℕ, suc, Bool, false, List, [], ◌∷◌, Some}
use Rattle.usb_base.specs.declared.packets.Reply.{Reply}
use Rattle.dev_control.specs.Stages.{Stages}
use Rattle.bus_wire.specs.Bus.{Wired}
use Rattle.qh_qtd.specs.declared.qtd.Qtd.{Qtd}
use Rattle.law_structures.specs.lent_structures.Structures.{Element, StructureSets, put}
use Rattle.law_structures.specs.lent_structures.Sound.{IsMember}
use Rattle.law_ring.specs.Hand.{Hand}
use Rattle.law_ring.specs.Ring.{IsInHand}
use Rattle.law_devices.specs.ring_requests.Resting.{IsFirstStore}
use Rattle.law_devices.specs.ring_requests.Windows.{Queue, sent_at, Lines, lines_at, HasEnded, IsActedOnce}
use Rattle.law_below_hubs.specs.RequestMoves.{IsRestBelow}
use Rattle.law_below_hubs.specs.RequestQueues.{IsQueueBelow}

abbrev pub RestOpensBelow : Type 0
RestOpensBelow = (v : Queue) (i place b n : ℕ) (wire : Wired) (c : Stages) (hand : Hand) (parts : StructureSets) (new : Qtd)
    → (o : IsRestBelow v.endpoint i place wire c b hand parts n) → o.head.queue.token.halted ≡ false
    → IsFirstStore v b (put parts n b (Element new) n)
    → IsQueueBelow v i place wire (lines_at v o.head.queue.token.ping c) [] hand (put parts n b (Element new)) n

pub record IsDoneBelow (v : Queue) (j i place b : ℕ) (wire : Wired) (l : Lines) (acts : List (List ℕ)) (hand : Hand) (parts : StructureSets)
    (n : ℕ) : Type 0 where
  pub last : l.under ≡ j
  pub once : IsActedOnce (sent_at v j) (l.line j) hand parts n
  pub acted : acts ≡ (v.requests j).setup ∷ []
  pub stages : Stages
  pub rest : IsRestBelow v.endpoint i place wire stages b hand parts n

abbrev pub DoneRestsBelow : Type 0
DoneRestsBelow = (member : ℕ → Bool) (v : Queue) (j i place b n : ℕ) (wire : Wired) (l : Lines) (acts : List (List ℕ)) (hand : Hand)
    (reply : Reply) (parts : StructureSets) → IsMember member n (parts n) → IsInHand member parts reply hand → suc j ≡ v.count
    → (v.places j).behind ≡ Some b → HasEnded (sent_at v j) parts n → IsQueueBelow v i place wire l acts hand parts n
    → IsDoneBelow v j i place b wire l acts hand parts n
