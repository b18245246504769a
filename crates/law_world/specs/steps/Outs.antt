-- The streams of the OUT endpoints of a ring at once (EHCI 1.0, 4.6, 4.8 and 4.10; USB 2.0, 8.6).
--     IsAside stream parts n x      the queue head at n is that of the endpoint x, and sends to none of the streams
--     AreAside ..                   so is each that the walk may meet and that has no OUT stream
--     AreOutPiped ..                both sides of the pipe of each of the others agree, where the host knows these bytes to be taken
--     HaveOutStreams ..             each of the others has its stream, with these bytes harvested
--     IsUntaken o, AreUntaken ..    the taker is there and took nothing yet; so is that of each endpoint that no queue head is for
--     GoesAs outs n t               the qTD t is an OUT, if the queue head at n has an OUT stream, and else it is none
use Rattle.std.specs.Prelude.{◌≡◌, ◌≢◌, ℕ, ◌⊎◌, Bool, true, false, List, [], Option, Some}
use Rattle.qh_qtd.specs.declared.qtd.Qtd.{Qtd}
use Rattle.law_structures.specs.lent_structures.Structures.{StructureSets}
use Rattle.law_ring.specs.Hand.{Hand}
use Rattle.law_ring.specs.Told.{Endpoint, HasEndpoint}
use Rattle.law_ring.specs.OutBus.{Taker}
use Rattle.law_ring.specs.OutPipes.{IsOutPipe}
use Rattle.law_ring.specs.OutPipeLaws.{SendsNone}
use Rattle.law_controller.specs.controlled_streams.Outs.{IsOutStream}
use Rattle.law_controller.specs.controlled_streams.Unopened.{IsUnopened}

-- ---- queue heads without one

abbrev pub IsAside : (ℕ → ℕ → Bool) → StructureSets → ℕ → Endpoint → Type 0
IsAside stream parts n x = HasEndpoint parts n x × ((stream x.addr x.ep ≡ false) ⊎ SendsNone (parts n))

abbrev pub AreAside : (ℕ → ℕ → Bool) → (ℕ → Bool) → (ℕ → Bool) → (ℕ → Endpoint) → StructureSets → Type 0
AreAside stream member outs ends parts = (n : ℕ) → member n ≡ true → outs n ≡ false → IsAside stream parts n (ends n)

-- ---- queue heads with one

pub record AreOutPiped {W : Type 0} (stream : ℕ → ℕ → Bool) (taker : W → ℕ → ℕ → Option Taker) (member outs : ℕ → Bool) (ends : ℕ → Endpoint) (known : ℕ → List ℕ) (parts : StructureSets)
    (hand : Hand) (wire : W) : Type 0 where
  pub pipes : (n : ℕ) → outs n ≡ true → IsOutPipe (taker wire (ends n).addr (ends n).ep) (known n) parts hand n (ends n)
  pub others : AreAside stream member outs ends parts

pub record HaveOutStreams {W : Type 0} (stream : ℕ → ℕ → Bool) (taker : W → ℕ → ℕ → Option Taker) (member outs : ℕ → Bool) (ends : ℕ → Endpoint) (order : ℕ → ℕ → ℕ) (out harvested : ℕ → List ℕ)
    (parts : StructureSets) (hand : Hand) (wire : W) : Type 0 where
  pub streams : (n : ℕ) → outs n ≡ true → IsOutStream stream (taker wire (ends n).addr (ends n).ep) member (order n) (out n) parts hand n (ends n) (harvested n)
  pub others : AreAside stream member outs ends parts

-- ---- endpoints that no queue head is for

pub record IsUntaken (o : Option Taker) : Type 0 where
  pub taker : Taker
  pub is : o ≡ Some taker
  pub none : taker.taken ≡ []
  pub first : taker.expects ≡ false

abbrev pub AreUntaken : {W : Type 0} → (ℕ → ℕ → Bool) → (W → ℕ → ℕ → Option Taker) → (ℕ → Bool) → (ℕ → Endpoint) → W → Type 0
AreUntaken {W} stream taker outs ends wire = (addr ep : ℕ) → stream addr ep ≡ true → IsUnopened outs ends addr ep → IsUntaken (taker wire addr ep)

-- ---- a qTD

abbrev pub GoesAs : (ℕ → Bool) → ℕ → Qtd → Type 0
GoesAs outs n t = ((outs n ≡ true) × (t.token.pid ≡ 0)) ⊎ ((outs n ≡ false) × (t.token.pid ≢ 0))
