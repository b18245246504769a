-- The worked queues at rest, which are computed.
use Rattle.std.proofs.Common.{refl, sym}
use Rattle.std.proofs.lemmas.Bool.{false≢true}
use Rattle.qh_qtd.specs.Blank.{blank_qtd}
use Rattle.dev_control.specs.Stages.{opened}
use Rattle.law_request.specs.Samples.{described}
use Rattle.law_ring.specs.Hand.{Empty}
use Rattle.law_devices.specs.ring_requests.Samples.{queue}
use Rattle.law_devices.specs.ring_requests.RestSamples.{rest_parts, stalled_queue, stalled_parts, left_device}
use Rattle.law_devices.specs.ring_requests.Resting.{IsAtRest, IsStopped}

pub idle_rests : IsAtRest described (opened 64 0) 64 Empty rest_parts 32 left_device
idle_rests = record {
  queue = queue;
  head = refl;
  control = record { toggles = refl; address = refl; number = refl; packets = refl };
  idle = refl;
  unsettled = refl;
  leads = λ goes_on. refl;
  tail = record { qtd = blank_qtd; here = refl; idle = refl };
  max = refl;
  device = refl;
}

pub stalled_rests : IsAtRest described (opened 64 0) 160 Empty stalled_parts 32 left_device
stalled_rests = record {
  queue = stalled_queue;
  head = refl;
  control = record { toggles = refl; address = refl; number = refl; packets = refl };
  idle = refl;
  unsettled = refl;
  leads = λ goes_on. absurd (false≢true (sym goes_on));
  tail = record { qtd = blank_qtd; here = refl; idle = refl };
  max = refl;
  device = refl;
}

pub stalled_stops : IsStopped stalled_parts 32
stalled_stops = record { queue = stalled_queue; head = refl; halted = refl }
