-- The pipe of an OUT endpoint of a ring (EHCI 1.0, 4.10 and 4.11; USB 2.0, 8.6): the bytes that its device took are those that the host knows to be
-- taken, or besides them the packet that the host sends next, whose acknowledgement it didn't hear.
--     IsOut part                the active qTDs of a queue head are OUTs
--     IsNext part q x           the next packet of the overlay q has these bytes
--     IsUnmoved hand n          a transaction of the queue head at n that isn't written back moved nothing, and halts where it ends the qTD
--     OutAgrees ..              both sides agree
--     IsOutPipe ..              the same of a queue head
use Rattle.std.specs.Prelude.{◌≡◌, ℕ, ◌-◌, min, Bool, true, false, not, List, ◌++◌, take, drop, Option, Some}
use Rattle.qh_qtd.specs.declared.qtd.Qtd.{Qtd}
use Rattle.qh_qtd.specs.declared.queue_head.Qh.{Qh}
use Rattle.hc_copy.specs.Overlay.{buffer_place}
use Rattle.law_structures.specs.lent_structures.Settles.{is_moved}
use Rattle.law_structures.specs.lent_structures.Structures.{Element, Structures, StructureSets}
use Rattle.law_ring.specs.Hand.{Hand, Empty, Copied, Settled, Stale}
use Rattle.law_ring.specs.Effects.{buffer_of}
use Rattle.law_ring.specs.Told.{HasToggle, Endpoint, HasEndpoint}
use Rattle.law_ring.specs.OutBus.{Taker}

abbrev pub IsOut : Structures → Type 0
IsOut part = (a : ℕ) (t : Qtd) → part a ≡ Some (Element t) → t.token.active ≡ true → t.token.pid ≡ 0

pub record IsNext (part : Structures) (q : Qh) (x : List ℕ) : Type 0 where
  pub element : Qtd
  pub here : part q.current ≡ Some (Element element)
  pub is : x ≡ take (min q.max q.token.total) (drop (buffer_place q - element.offset) (buffer_of part element))

abbrev pub IsUnmoved : Hand → ℕ → Type 0
IsUnmoved Empty n = Unit {0}
IsUnmoved (Copied c) n = Unit {0}
IsUnmoved (Settled c z) n = c.at ≡ n → (is_moved z.outcome ≡ false) × (z.host.active ≡ false → z.host.halted ≡ true)
IsUnmoved (Stale m q) n = Unit {0}

-- `known` are the bytes that the host knows to be taken, and h is its toggle
pub data OutAgrees (part : Structures) (hand : Hand) (n : ℕ) (q : Qh) (h : Bool) (known : List ℕ) (s : Taker) : Type 0 where
  level : s.expects ≡ h → s.taken ≡ known → OutAgrees part hand n q h known s
  ahead : (x : List ℕ) → s.expects ≡ not h → s.taken ≡ known ++ x → h ≡ q.token.toggle → q.token.active ≡ true → IsNext part q x → IsUnmoved hand n → OutAgrees part hand n q h known s
  ended : (x : List ℕ) → s.expects ≡ not h → s.taken ≡ known ++ x → q.token.active ≡ false → q.token.halted ≡ true → OutAgrees part hand n q h known s

pub record IsOutPipe (o : Option Taker) (known : List ℕ) (parts : StructureSets) (hand : Hand) (n : ℕ) (x : Endpoint) : Type 0 where
  pub named : HasEndpoint parts n x
  pub outs : IsOut (parts n)
  pub toggle : Bool
  pub expects : HasToggle hand parts n toggle
  pub taker : Taker
  pub is : o ≡ Some taker
  pub agrees : OutAgrees (parts n) hand n expects.queue toggle known taker
