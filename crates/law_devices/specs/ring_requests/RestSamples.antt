-- Worked queues at rest: the endpoint of the device at address 4 with its queue head at 32, before any request and after one that was stalled.
--     rest_parts                 the queue head leads to the inactive qTD at 64
--     setup_stalled              the SETUP of a request at 64 that was halted
--     stalled_queue              the queue head that worked on it
--     stalled_parts              both, with the inactive qTD at 160
--     left_device                the device's side
use Rattle.std.specs.Prelude.{true, Option, Some}
use Rattle.qh_qtd.specs.Blank.{blank_token, blank_qtd}
use Rattle.qh_qtd.specs.declared.qtd.Qtd.{Qtd}
use Rattle.qh_qtd.specs.declared.queue_head.Qh.{Qh}
use Rattle.dev_control.specs.Stages.{opened}
use Rattle.law_structures.specs.lent_structures.Structures.{QueueHead, Element, StructureSets, put}
use Rattle.law_request.specs.Samples.{described}
use Rattle.claims_report.specs.ControlSides.{Device}
use Rattle.law_devices.specs.request_calls.Bus.{device_of}
use Rattle.law_devices.specs.ring_requests.Samples.{leads_to, queue, setup, nothing}

abbrev pub rest_parts : StructureSets
rest_parts = put (put nothing 32 32 (QueueHead queue)) 32 64 (Element blank_qtd)

abbrev pub setup_stalled : Qtd
setup_stalled = record setup { token = record blank_token { halted = true; pid = 2; cerr = 3; total = 8 } }

abbrev pub stalled_queue : Qh
stalled_queue = record queue { current = 64; next = leads_to 96; token = record blank_token { halted = true; pid = 2; cerr = 3; total = 8 } }

abbrev pub stalled_parts : StructureSets
stalled_parts = put (put (put nothing 32 32 (QueueHead stalled_queue)) 32 64 (Element setup_stalled)) 32 160 (Element blank_qtd)

abbrev pub left_device : Option Device
left_device = Some (device_of described (opened 64 0))
