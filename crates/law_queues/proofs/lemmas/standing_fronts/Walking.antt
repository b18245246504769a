-- An event of the walk moves fronts on.
use Rattle.std.proofs.Common.{ℕ, ◌*◌, List, arith}
use Rattle.usb_base.specs.declared.packets.Ask.{Ask}
use Rattle.usb_base.specs.declared.packets.Reply.{Reply}
use Rattle.drv_table.specs.declared.content.Endpoint.{Endpoint}
use Rattle.drv_table.specs.DriverContent.{DriverContent}
use Rattle.law_structures.specs.lent_structures.Structures.{StructureSets}
use Rattle.law_ring.specs.Front.{FrontGoesOn}
use Rattle.law_ring.proofs.FrontGoing.{each_event_moves_the_front_on}
use Rattle.law_queues.specs.released_queues.Fronts.{piece_address, StandsAt}
use Rattle.law_queues.specs.standing_fronts.Along.{WalkKeepsFronts}

-- where the front of a queue has gone on, its endpoint has its front there
unfoldable pub stands_on : (d : DriverContent) (parts now : StructureSets) (order : ℕ → ℕ) (out : List ℕ) (e : ℕ) (x : Endpoint) → (f : StandsAt d (parts (32 * x.queue)) order out e x)
    → FrontGoesOn order f.front out (32 * x.queue) parts now → StandsAt d (now (32 * x.queue)) order out e x
stands_on d parts now order out e x f g =
    let grows = g.goes_on in
    record {
      front = g.front_now;
      has = g.has;
      ended = λ i t y at there held same. let most = f.ended i t y at there held same in omega (arith, most, grows);
      passed = λ i t j y at there held same from below. g.passed (piece_address d y j) (f.passed i t j y at there held same from below);
    }

pub walk_keeps_fronts : {W : Type 0} (transacts : W → Ask → List ℕ → Reply → W → Type 0) → WalkKeepsFronts transacts
walk_keeps_fronts transacts member parts hand reply wire after now later kind d order out members in_hand effect rise stand e x here met =
    let n = 32 * x.queue in
    let f = stand e x here met in
    stands_on d parts now (order n) (out n) e x f
    (each_event_moves_the_front_on transacts member parts hand reply wire after now later kind (order n) f.front (out n) n members in_hand effect (rise e x here met) f.has)
