-- Requests of worked rows, to a device that knows four of them, with packets of at most four bytes.
use Rattle.std.specs.Prelude.{ℕ, true, false, List, [], ◌∷◌, bytes_eq, Option, Some, None, if◌then◌else◌}
use Rattle.dev_control.specs.Stages.{Stages, opened}
use Rattle.dev_control.specs.Worked.{read_of, write_of}
use Rattle.bus_wire.specs.declared.asked.Losses.{Losses}
use Rattle.claims_report.specs.Requests.{Request}
use Rattle.law_request.specs.Host.{Endpoint, Stage}
use Rattle.law_request.specs.Line.{Line}
use Rattle.law_request.specs.Windows.{Turn, window_of}

-- a read of at most eight bytes is replied to by six, one of at most four by five, and a write of six bytes and one of none are known
abbrev pub known_replies : List ℕ → Option (List ℕ)
known_replies setup =
    if bytes_eq setup (read_of 8) then Some (1 ∷ 2 ∷ 3 ∷ 4 ∷ 5 ∷ 6 ∷ []) else
    (if bytes_eq setup (read_of 4) then Some (1 ∷ 2 ∷ 3 ∷ 4 ∷ 5 ∷ []) else
    (if bytes_eq setup (write_of 6) then Some [] else
    (if bytes_eq setup (write_of 0) then Some [] else None)))

abbrev pub endpoint : Endpoint
endpoint = record { addr = 4; num = 0; max = 4; known = known_replies }

-- ---- requests

abbrev pub read : ℕ → Request
read n = record { setup = read_of n; bytes = [] }

abbrev pub write : ℕ → List ℕ → Request
write n bytes = record { setup = write_of n; bytes = bytes }

-- ---- losses

abbrev pub good : Losses
good = record { sent = false; answer = false; acknowledgement = false }

-- the token or the data behind it, the answer, or the acknowledgement of the answer are lost
abbrev pub token_lost : Losses
token_lost = record { sent = true; answer = false; acknowledgement = false }

abbrev pub answer_lost : Losses
answer_lost = record { sent = false; answer = true; acknowledgement = false }

abbrev pub ack_lost : Losses
ack_lost = record { sent = false; answer = false; acknowledgement = true }

-- ---- windows

abbrev pub turn : Request → List Losses → Turn
turn r losses = record { request = r; ping = false; losses = losses }

abbrev pub device : Stages
device = opened 4 0

abbrev pub window : Request → List Losses → Line
window r losses = window_of endpoint (turn r losses) device

-- ---- a device descriptor of 18 bytes, in one packet of 64, to a host that doesn't hear the ACK of its SETUP (USB 2.0, 9.4.3 and 9.6.1)

abbrev pub descriptor : List ℕ
descriptor = 18 ∷ 1 ∷ 0 ∷ 2 ∷ 0 ∷ 0 ∷ 0 ∷ 64 ∷ 94 ∷ 4 ∷ 142 ∷ 2 ∷ 20 ∷ 1 ∷ 1 ∷ 2 ∷ 3 ∷ 1 ∷ []

-- GET_DESCRIPTOR of the device, and of a configuration that it has no reply to
abbrev pub get_device : Request
get_device = record { setup = 128 ∷ 6 ∷ 0 ∷ 1 ∷ 0 ∷ 0 ∷ 18 ∷ 0 ∷ []; bytes = [] }

abbrev pub get_configuration : Request
get_configuration = record { setup = 128 ∷ 6 ∷ 0 ∷ 2 ∷ 0 ∷ 0 ∷ 9 ∷ 0 ∷ []; bytes = [] }

abbrev pub described : Endpoint
described = record { addr = 4; num = 0; max = 64; known = λ setup. if bytes_eq setup get_device.setup then Some descriptor else None }

abbrev pub three_turns : List Turn
three_turns =
    turn get_device (answer_lost ∷ good ∷ good ∷ good ∷ []) ∷ turn get_configuration (good ∷ good ∷ []) ∷ turn get_device (good ∷ good ∷ good ∷ []) ∷ []

-- ---- what is told of a request, and what the device acted on in its window
pub record Told : Type 0 where
  pub stage : Stage
  pub bytes : List ℕ
  pub acts : List (List ℕ)

abbrev pub told : Line → Told
told l = record { stage = l.host.stage; bytes = l.host.moved; acts = l.acts }

abbrev pub tells : Stage → List ℕ → List (List ℕ) → Told
tells stage bytes acts = record { stage = stage; bytes = bytes; acts = acts }
