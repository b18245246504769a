-- A worked publication: the device descriptor's request of `ring_requests` with a tail behind it, and the configuration descriptor's request published there.
--     first_only                 the first request, whose status leads to the tail at 160
--     one_parts                  its structures with the tail
--     lent_parts                 those of the second come to them but for its SETUP: its data and status at 192 and 224, and a new tail at 256
--     both_now                   and once its SETUP is stored
--     second_places, both        where it stands, and both requests
--     goes v ps l                the windows after these steps
--     first_begun, then_both     the first transaction, while the first is alone, and the steps once the second is published
--     waiting_parts, asked_parts before the SETUP of the first is stored, and then
--     ended_parts, first_ended   once its status has ended, and the windows then
--     device_at c                the device that is left so
use Rattle.std.specs.Prelude.{ℕ, false, List, [], ◌∷◌, replicate, Option, Some}
use Rattle.qh_qtd.specs.Blank.{blank_qtd}
use Rattle.qh_qtd.specs.declared.qtd.Qtd.{Qtd}
use Rattle.dev_control.specs.Stages.{Stages, opened}
use Rattle.law_structures.specs.lent_structures.Structures.{QueueHead, Element, Buffer, StructureSets, put}
use Rattle.law_request.specs.Samples.{described, get_device, get_configuration, good}
use Rattle.claims_report.specs.ControlSides.{Device}
use Rattle.law_devices.specs.request_calls.Bus.{device_of}
use Rattle.law_devices.specs.ring_requests.Laid.{Places}
use Rattle.law_devices.specs.ring_requests.Samples.{leads_to, status, pages_at, parts, setup, done_queue, done_qtd, first_done, first_status, second_setup, second_read, stand_at}
use Rattle.law_devices.specs.ring_requests.Windows.{Queue, Lines, lines_at, Progress, Transaction, Advance, progressed}
use Rattle.law_devices.specs.request_stores.Published.{with_request}

abbrev pub first_only : Queue
first_only = record { endpoint = described; count = 1; requests = λ i. get_device; places = λ i. stand_at 0 }

abbrev pub firsts : ℕ → Queue
firsts n = first_only

abbrev pub one_parts : StructureSets
one_parts = put (put parts 32 128 (Element first_status)) 32 160 (Element blank_qtd)

abbrev pub last_status : Qtd
last_status = record status { next = leads_to 256 }

abbrev pub with_read : StructureSets
with_read = put one_parts 32 192 (Element second_read)

abbrev pub with_status : StructureSets
with_status = put with_read 32 224 (Element last_status)

abbrev pub with_tail : StructureSets
with_tail = put with_status 32 256 (Element blank_qtd)

abbrev pub with_setup : StructureSets
with_setup = put with_tail 32 8192 (Buffer (pages_at 2) 0 get_configuration.setup)

abbrev pub lent_parts : StructureSets
lent_parts = put with_setup 32 12288 (Buffer (pages_at 3) 0 (replicate 9 0))

abbrev pub both_now : StructureSets
both_now = put lent_parts 32 160 (Element second_setup)

abbrev pub second_places : Places
second_places = record { setup = 160; data_at = 192; status = 224; behind = Some 256 }

abbrev pub both : Queue
both = with_request first_only get_configuration second_places

-- ---- steps

abbrev pub goes : Queue → List Progress → Lines → Lines
goes v [] l = l
goes v (p ∷ ps) l = goes v ps (progressed v p l)

abbrev pub first_begun : Lines
first_begun = goes first_only (Transaction good ∷ []) (lines_at first_only false (opened 64 0))

abbrev pub then_both : Lines
then_both = goes both (Transaction good ∷ Transaction good ∷ Advance ∷ Transaction good ∷ Transaction good ∷ []) first_begun

-- ---- from rest to rest

abbrev pub waiting_parts : StructureSets
waiting_parts = put one_parts 32 64 (Element blank_qtd)

abbrev pub asked_parts : StructureSets
asked_parts = put waiting_parts 32 64 (Element setup)

abbrev pub ended_parts : StructureSets
ended_parts = put (put one_parts 32 32 (QueueHead done_queue)) 32 128 (Element (done_qtd first_status))

abbrev pub first_ended : Lines
first_ended = goes first_only first_done (lines_at first_only false (opened 64 0))

abbrev pub device_at : Stages → Option Device
device_at c = Some (device_of described c)
