-- The worked request that is published from rest, and the rest once it is done.
use Rattle.std.proofs.Common.{refl, subst, inl}
use Rattle.std.specs.Prelude.{replicate}
use Rattle.qh_qtd.specs.Blank.{blank_qtd}
use Rattle.qh_qtd.specs.declared.qtd.Qtd.{Qtd}
use Rattle.law_structures.specs.lent_structures.Sound.{HasBuffer}
use Rattle.law_structures.proofs.lemmas.lent_structures.Altering.{found_element}
use Rattle.dev_control.specs.Stages.{opened}
use Rattle.law_request.specs.Samples.{described}
use Rattle.law_ring.specs.Hand.{Empty}
use Rattle.law_devices.specs.ring_requests.Windows.{sent_at, HasEnded}
use Rattle.law_devices.specs.ring_requests.Samples.{queue, read, first_status, done_queue, done_qtd}
use Rattle.law_devices.specs.ring_requests.Resting.{IsAtRest, IsFirstStore}
use Rattle.law_devices.specs.request_stores.Samples.{first_only, waiting_parts, asked_parts, ended_parts, first_ended, device_at}
use Rattle.law_devices.proofs.lemmas.request_stores.Asking.{first_fresh, tail_at}

pub waits : IsAtRest described (opened 64 0) 64 Empty waiting_parts 32 (device_at (opened 64 0))
waits = record {
  queue = queue;
  head = refl;
  control = record { toggles = refl; address = refl; number = refl; packets = refl };
  idle = refl;
  unsettled = refl;
  leads = λ goes_on. refl;
  tail = record { qtd = blank_qtd; here = refl; idle = refl };
  max = refl;
  device = refl;
}

read_buffer : HasBuffer (asked_parts 32) read read.token.total
read_buffer = record { bytes = replicate 18 0; here = refl; size = refl }

pub stored : IsFirstStore first_only 64 (asked_parts 32)
stored = record {
  one = refl;
  setup = refl;
  fresh = first_fresh (asked_parts 32) (record { setup_there = refl; read_there = refl; status_there = refl; bytes_there = refl });
  buffer = λ some t there. subst (λ (u : Qtd). HasBuffer (asked_parts 32) u u.token.total) (found_element (asked_parts 32 96) read t refl there) read_buffer;
  tail = λ a is. tail_at (asked_parts 32) 160 refl a is;
}

pub has_ended : HasEnded (sent_at first_only 0) ended_parts 32
has_ended = record { qtd = done_qtd first_status; here = refl; ended = refl; goes_on = inl refl }

pub rests : IsAtRest described (first_ended.line 0).device 160 Empty ended_parts 32 (device_at (first_ended.line 0).device)
rests = record {
  queue = done_queue;
  head = refl;
  control = record { toggles = refl; address = refl; number = refl; packets = refl };
  idle = refl;
  unsettled = refl;
  leads = λ goes_on. refl;
  tail = record { qtd = blank_qtd; here = refl; idle = refl };
  max = refl;
  device = refl;
}
