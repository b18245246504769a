-- A ring of worked rows: a queue head at 0 of a high-speed OUT endpoint, its qTD at 64, and a buffer of two bytes from byte 100 of page 0 on.
--     idle, sending, done      the queue head, which rests, and its qTD: to be sent, and sent
--     ring q t                 the structures
--     taker_of                 the one taker of a bus
--     Sends out harvested parts s     the queue head has its stream, where these are out and these harvested, and the device is so
use Rattle.std.specs.Prelude.{ℕ, ◌==◌, true, List, Option, Some}
use Rattle.qh_qtd.specs.Blank.{blank_token, blank_qtd, blank_head}
use Rattle.qh_qtd.specs.declared.qtd.Qtd.{Qtd}
use Rattle.qh_qtd.specs.declared.queue_head.Qh.{Qh}
use Rattle.law_structures.specs.lent_structures.Structures.{QueueHead, Element, Buffer, StructureSets, put}
use Rattle.law_structures.specs.lent_structures.StructureSamples.{bytes, pages, nothing}
use Rattle.law_ring.specs.Hand.{Empty}
use Rattle.law_ring.specs.Told.{endpoint_of}
use Rattle.law_ring.specs.OutBus.{Taker}
use Rattle.law_world.specs.steps.Outs.{HaveOutStreams}

abbrev pub idle : Qh
idle = record blank_head { addr = 5; ep = 2; eps = 2; max = 512; mult = 1 }

abbrev pub sending : Qtd
sending = record blank_qtd { token = record blank_token { active = true; cerr = 3; total = 2 }; offset = 100 }

abbrev pub done : Qtd
done = record blank_qtd { token = record blank_token { cerr = 3; toggle = true }; offset = 100 }

abbrev pub ring : Qh → Qtd → StructureSets
ring q t = put (put (put nothing 0 0 (QueueHead q)) 0 64 (Element t)) 0 100 (Buffer pages 100 bytes)

abbrev pub taker_of : Taker → ℕ → ℕ → Option Taker
taker_of s addr ep = Some s

abbrev pub Sends : List ℕ → List ℕ → StructureSets → Taker → Type 0
Sends out harvested parts s =
    HaveOutStreams (λ addr ep. ep == 2) taker_of (λ n. n == 0) (λ n. n == 0) (λ n. endpoint_of idle) (λ n a. a) (λ n. out) (λ n. harvested) parts Empty s
