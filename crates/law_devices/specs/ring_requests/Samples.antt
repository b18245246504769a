-- A worked request: a device descriptor is asked of the device at address 4. Its queue head stands at 32, its qTDs at 64, 96 and 128, the setup bytes
-- and the room for 18 bytes in the pages at 0 and 4096. Behind it a configuration descriptor is asked for, with qTDs at 160, 192 and 224, and the pages
-- at 8192 and 12288; the device has no reply to that.
--     queue                      the queue head, which has worked on nothing yet
--     setup, read, status        the three qTDs
--     parts                      all of them with the two buffers
--     request                    the request with its endpoint and places
--     both_parts                 the same with the second request behind it
--     requests                   both of them
--     begun, after ps            before the first transaction, and after these steps
--     first_done, then_begun     the three transactions of the first, and the advance after them
--     done_queue, done_parts     the queue head that worked on the first until it was done, and all structures then
--     next_queue, next_parts     and once it advanced to the second
--     is_only, is_both           the ring's one queue head, and its requests
use Rattle.std.specs.Prelude.{ℕ, true, false, Bool, ◌==◌, List, [], ◌∷◌, ◌++◌, replicate, Option, Some, None, if◌then◌else◌}
use Rattle.link_words.specs.declared.fields.ShortLink.{ShortLink}
use Rattle.qh_qtd.specs.Blank.{blank_token, blank_qtd, blank_head}
use Rattle.qh_qtd.specs.declared.qtd.Qtd.{Qtd}
use Rattle.qh_qtd.specs.declared.queue_head.Qh.{Qh}
use Rattle.dev_control.specs.Stages.{opened}
use Rattle.claims_report.specs.Requests.{Request}
use Rattle.law_structures.specs.lent_structures.Structures.{QueueHead, Element, Buffer, StructureSets, put}
use Rattle.law_request.specs.Samples.{described, get_device, get_configuration, descriptor, good}
use Rattle.claims_report.specs.ControlSides.{Device}
use Rattle.law_devices.specs.request_calls.Bus.{device_of}
use Rattle.law_devices.specs.ring_requests.Laid.{Places}
use Rattle.law_devices.specs.ring_requests.Windows.{Sent, Queue, Lines, lines_at, Progress, Transaction, Advance, progressed}

abbrev pub leads_to : ℕ → ShortLink
leads_to a = record { t = false; address = a }

abbrev pub queue : Qh
queue = record blank_head {
  link = record { t = false; typ = 1; address = 0 };
  addr = 4;
  eps = 2;
  dtc = true;
  max = 64;
  mult = 1;
  next = leads_to 64;
}

abbrev pub setup : Qtd
setup = record blank_qtd { next = leads_to 96; token = record blank_token { active = true; pid = 2; cerr = 3; total = 8 } }

abbrev pub read : Qtd
read = record blank_qtd {
  next = leads_to 128;
  alternate = leads_to 128;
  token = record blank_token { active = true; pid = 1; cerr = 3; total = 18; toggle = true };
  page0 = 1;
}

abbrev pub status : Qtd
status = record blank_qtd { token = record blank_token { active = true; cerr = 3; toggle = true } }

abbrev pub pages_at : ℕ → List ℕ
pages_at page = page ∷ 0 ∷ 0 ∷ 0 ∷ 0 ∷ []

abbrev pub nothing : StructureSets
nothing n a = None

abbrev pub qtds : StructureSets
qtds = put (put (put (put nothing 32 32 (QueueHead queue)) 32 64 (Element setup)) 32 96 (Element read)) 32 128 (Element status)

abbrev pub parts : StructureSets
parts = put (put qtds 32 0 (Buffer (pages_at 0) 0 get_device.setup)) 32 4096 (Buffer (pages_at 1) 0 (replicate 18 0))

abbrev pub request : Sent
request = record { endpoint = described; request = get_device; places = record { setup = 64; data_at = 96; status = 128; behind = None } }

-- ---- a second request behind it

abbrev pub first_status : Qtd
first_status = record status { next = leads_to 160 }

abbrev pub second_setup : Qtd
second_setup = record setup { next = leads_to 192; page0 = 2 }

abbrev pub second_read : Qtd
second_read = record read { next = leads_to 224; alternate = leads_to 224; token = record read.token { total = 9 }; page0 = 3 }

abbrev pub second_qtds : StructureSets
second_qtds = put (put (put (put parts 32 128 (Element first_status)) 32 160 (Element second_setup)) 32 192 (Element second_read)) 32 224 (Element status)

abbrev pub both_parts : StructureSets
both_parts = put (put second_qtds 32 8192 (Buffer (pages_at 2) 0 get_configuration.setup)) 32 12288 (Buffer (pages_at 3) 0 (replicate 9 0))

abbrev pub asked : ℕ → Request
asked i = if i == 0 then get_device else get_configuration

abbrev pub stand_at : ℕ → Places
stand_at i = if i == 0 then record { setup = 64; data_at = 96; status = 128; behind = Some 160 } else record { setup = 160; data_at = 192; status = 224; behind = None }

abbrev pub requests : Queue
requests = record { endpoint = described; count = 2; requests = asked; places = stand_at }

abbrev pub begun : Lines
begun = lines_at requests false (opened 64 0)

abbrev pub after_steps : List Progress → Lines → Lines
after_steps [] l = l
after_steps (p ∷ ps) l = after_steps ps (progressed requests p l)

abbrev pub after : List Progress → Lines
after ps = after_steps ps begun

abbrev pub first_done : List Progress
first_done = Transaction good ∷ Transaction good ∷ Transaction good ∷ []

abbrev pub then_begun : List Progress
then_begun = first_done ++ Advance ∷ []

-- ---- the first is done, and the second is begun

abbrev pub done_queue : Qh
done_queue = record queue { current = 128; next = leads_to 160; token = record blank_token { cerr = 3; toggle = true } }

abbrev pub done_qtd : Qtd → Qtd
done_qtd t = record t { token = record t.token { active = false; total = 0 } }

abbrev pub done_first : StructureSets
done_first = put (put both_parts 32 32 (QueueHead done_queue)) 32 64 (Element (done_qtd setup))

abbrev pub done_parts : StructureSets
done_parts = put (put (put done_first 32 96 (Element (done_qtd read))) 32 128 (Element (done_qtd first_status))) 32 4096 (Buffer (pages_at 1) 0 descriptor)

abbrev pub next_queue : Qh
next_queue = record done_queue { current = 160; next = leads_to 192; token = second_setup.token; page0 = 2 }

abbrev pub next_parts : StructureSets
next_parts = put done_parts 32 32 (QueueHead next_queue)

abbrev pub device_in : ℕ → Lines → Option Device
device_in i l = Some (device_of described (l.line i).device)

abbrev pub is_only : ℕ → Bool
is_only n = n == 32

abbrev pub is_both : ℕ → Queue
is_both n = requests
