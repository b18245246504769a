-- What becomes of a command: a refusal, or what stands once it is accepted (EHCI 1.0, 4.8 and 4.10).
--     offered d m cmd         the refusal, or driver and memory afterwards. A refusal is the first of these that there is: busy, no endpoint,
--                             closed, already open, too long, no placement, no blocks
--     IsOffered d cmd         what the caller sees to: there is room, and the command's fields are in their ranges
use Rattle.std.specs.Prelude.{◌≡◌, ℕ, zero, suc, ◌+◌, ◌-◌, ◌*◌, ◌/◌, ◌≤◌, Bool, true, false, ◌&&◌, nat_eq, nat_lt, List, [], ◌∷◌, ◌++◌, length, take, drop, replicate, slice_index, slice_set, Option, Some, None, unwrap_or, Result, Ok, Err, if◌then◌else◌}
use Rattle.usb_base.specs.declared.endpoints.EpName.{EpName}
use Rattle.usb_base.specs.declared.endpoints.EpDesc.{EpDesc}
use Rattle.usb_base.specs.declared.endpoints.EndCause.{EndCause}
use Rattle.usb_base.specs.declared.packets.Way.TheVariants as ways
use Rattle.usb_base.specs.declared.packets.EpKind.{EpKind}
use Rattle.usb_base.specs.declared.packets.EpKind.TheVariants as kinds
use Rattle.usb_base.specs.declared.commands.Cmd.{Cmd}
use Rattle.usb_base.specs.declared.commands.Cmd.TheVariants as commands
use Rattle.usb_base.specs.declared.reports.OfferError.{OfferError}
use Rattle.usb_base.specs.declared.reports.OfferError.TheVariants as errors
use Rattle.usb_base.specs.Limits.{longest_qtd}
use Rattle.word_mem.specs.Memory.{Mem}
use Rattle.qh_qtd.specs.Qtd.{qtd_words}
use Rattle.qh_qtd.specs.QueueHead.{qh_words}
use Rattle.mem_runs.specs.Book.{Book, Holding, holding, store, store_words}
use Rattle.bandwidth.specs.declared.placements.Placement.{Placement}
use Rattle.bandwidth.specs.declared.placements.Refused.{Refused}
use Rattle.bandwidth.specs.Placements.{IsWant}
use Rattle.bandwidth.specs.Admission.{Admissions, joined, answer}
use Rattle.drv_periodic_table.specs.Periodic.{is_periodic, want_of, queue_member}
use Rattle.drv_periodic_table.specs.Linking.{linking, new_link}
use Rattle.drv_table.specs.declared.content.Reserve.{Reserve}
use Rattle.drv_table.specs.declared.content.Endpoint.{Endpoint}
use Rattle.drv_table.specs.declared.content.Transfer.{Transfer}
use Rattle.drv_table.specs.declared.content.QtdNote.{QtdNote}
use Rattle.drv_table.specs.declared.content.Sort.{Sort}
use Rattle.drv_table.specs.declared.content.Sort.TheVariants as sorts
use Rattle.drv_table.specs.declared.content.Stage.{Stage}
use Rattle.drv_table.specs.declared.content.Command.TheVariants as unfinished
use Rattle.drv_table.specs.DriverContent.{DriverContent, busy, is_same_way, endpoint_of, endpoint_named}
use Rattle.drv_table.specs.Words.{queue_head, interrupt_head, dummy_qtd, new_qtd, is_control, pieces, get_stages, put_stages, request_length, request_stages, status_stage, buffer_needs, needs}
use Rattle.drv_table.specs.Harvests.{note_at, buffer_address}
use Rattle.drv_table.specs.declared.content.Part.TheVariants as parts
use Rattle.drv_table.specs.Accepting.{Offered, newest_of, new_runs, take_runs, first_waiting}
use Rattle.drv_table.specs.CancelOffers.{offered_cancel}
use Rattle.drv_table.specs.IsoOffers.{offered_iso}

-- ---- open

-- an endpoint as it is opened: in the ring, with no transfer
abbrev pub new_endpoint : EpDesc → ℕ → ℕ → Endpoint
new_endpoint x queue dummy = record { desc = x; placement = None; queue = queue; dummy = dummy; next = None; ended = None; cancelled = false; linked = true; chained = false; gone = false }

-- the queue head and the dummy are written, the queue head with the head's link
abbrev pub written_open : Book → Mem → EpDesc → ℕ → ℕ → ℕ → Mem
written_open k m x link queue dummy =
    store_words k (store_words k m queue (32 * queue) (qh_words (queue_head x link dummy))) dummy (32 * dummy) (qtd_words dummy_qtd)

-- the open of a bulk or control endpoint: its queue head is written, and is stored in the head's link once it is lent (4.8.1)
abbrev pub accepted_open : DriverContent → EpDesc → Holding → ℕ → ℕ → Offered
accepted_open d x h queue dummy = record {
  driver = record d {
    book = h.book;
    endpoints = d.endpoints ++ new_endpoint x queue dummy ∷ [];
    command = Some (unfinished.Open queue);
    made = 0;
    room = record d.room { endpoints = d.room.endpoints - 1 };
  };
  memory = written_open h.book h.memory x (newest_of d.endpoints) queue dummy;
}

-- .. where runs were found for it, else the refusal
abbrev pub taken_open : DriverContent → EpDesc → Result Holding OfferError → Result Offered OfferError
taken_open d x (Err why) = Err why
taken_open d x (Ok h) = Ok (accepted_open d x h (slice_index (new_runs d h) 0) (slice_index (new_runs d h) 1))

-- ---- open of a periodic endpoint: its placement is asked of the plan, under the number that it gets

-- a periodic endpoint as it is opened: with its placement, and in its frames
abbrev pub placed_endpoint : EpDesc → Placement → ℕ → ℕ → Endpoint
placed_endpoint x p queue dummy = record (new_endpoint x queue dummy) { placement = Some p; linked = false; chained = true }

-- the plan with the placement of the endpoint (USB 2.0, 5.11.3)
abbrev pub with_placement : DriverContent → EpDesc → Placement → Admissions
with_placement d x p = record d.periodic.plan { placed = joined d.periodic.plan.placed (want_of (length d.endpoints) x) p }

-- the queue head with this link word, and the dummy
abbrev pub written_chain : Book → Mem → EpDesc → Placement → ℕ → ℕ → ℕ → Mem
written_chain k m x p link queue dummy =
    store_words k (store_words k m queue (32 * queue) (qh_words (interrupt_head x p.smask p.cmask link dummy))) dummy (32 * dummy) (qtd_words dummy_qtd)

-- an interrupt endpoint has a queue, which is linked in its frames
abbrev pub accepted_chain : DriverContent → EpDesc → Placement → Holding → ℕ → ℕ → Offered
accepted_chain d x p h queue dummy = record {
  driver = record d {
    book = h.book;
    endpoints = d.endpoints ++ placed_endpoint x p queue dummy ∷ [];
    command = Some unfinished.Chain;
    made = 0;
    room = record d.room { endpoints = d.room.endpoints - 1 };
    periodic = record d.periodic { plan = with_placement d x p; list = linking d.periodic.list (queue_member queue p) };
  };
  memory = written_chain h.book h.memory x p (new_link d.periodic.list (queue_member queue p)) queue dummy;
}

-- .. where runs were found for it, else the refusal
abbrev pub taken_chain : DriverContent → EpDesc → Placement → Result Holding OfferError → Result Offered OfferError
taken_chain d x p (Err why) = Err why
taken_chain d x p (Ok h) = Ok (accepted_chain d x p h (slice_index (new_runs d h) 0) (slice_index (new_runs d h) 1))

-- an isochronous endpoint has no queue, and its open is finished at once
abbrev pub accepted_iso : DriverContent → EpDesc → Placement → DriverContent
accepted_iso d x p =
    record d {
      endpoints = d.endpoints ++ placed_endpoint x p 0 0 ∷ [];
      room = record d.room { endpoints = d.room.endpoints - 1 };
      periodic = record d.periodic { plan = with_placement d x p };
    }

-- the open of a periodic endpoint that has its placement
abbrev pub placed_open : DriverContent → Mem → EpDesc → Placement → EpKind → Result Offered OfferError
placed_open d m x p kinds.Iso = Ok (record { driver = accepted_iso d x p; memory = m })
placed_open d m x p _ = taken_chain d x p (take_runs (holding d.book m) (2 ∷ 1 ∷ []))

-- .. or the refusal where none that is allowed fits beside the others (USB 2.0, 5.11.3)
abbrev pub planned_open : DriverContent → Mem → EpDesc → Result Placement Refused → Result Offered OfferError
planned_open d m x (Err why) = Err errors.NoPlacement
planned_open d m x (Ok p) = placed_open d m x p x.kind

-- the open of an endpoint whose name is free
abbrev pub new_open : DriverContent → Mem → EpDesc → Result Offered OfferError
new_open d m x =
    if is_periodic x.kind then planned_open d m x (answer d.periodic.plan (want_of (length d.endpoints) x))
    else taken_open d x (take_runs (holding d.book m) (2 ∷ 1 ∷ []))

-- by whether there is an endpoint of this name already
abbrev pub offered_open : DriverContent → Mem → EpDesc → Option Endpoint → Result Offered OfferError
offered_open d m x (Some old) = elim old.ended [ Some cause ↦ Err (errors.Closed cause) | None ↦ Err errors.AlreadyOpen ]
offered_open d m x None = new_open d m x

-- ---- get, put and control

-- how many runs the buffer of a stage has
abbrev pub runs_of : Stage → ℕ
runs_of s = length (buffer_needs s.long)

-- what is noted of the qTD of a stage: the next qTD's block, and the runs of its buffer, five at most (3.5.4)
abbrev pub note_for : Stage → ℕ → List ℕ → QtdNote
note_for s next runs = record { next = next; buffer = take 5 (take (runs_of s) runs ++ replicate 5 0); runs = runs_of s; told = s.told; moved = 0 }

-- the notes of a transfer whose first qTD stands in block b: the blocks of its further qTDs, and the runs of its buffers
abbrev pub note_stages : List QtdNote → List Stage → ℕ → List ℕ → List ℕ → List QtdNote
note_stages notes [] b qtds runs = notes
note_stages notes (s ∷ ss) b qtds runs =
    note_stages (slice_set notes b (note_for s (slice_index qtds 0) runs)) ss (slice_index qtds 0) (drop 1 qtds) (drop (runs_of s) runs)

-- a transfer has one stage at least
abbrev pub first_of : List Stage → Stage
first_of [] = status_stage false
first_of (s ∷ ss) = s

-- no stage comes behind
abbrev pub is_last : List Stage → Bool
is_last [] = true
is_last (s ∷ ss) = false

-- the words of a stage's qTD (3.5), by what is noted of it
abbrev pub stage_words : List QtdNote → Stage → ℕ → ℕ → Bool → List ℕ
stage_words notes s b dummy last = qtd_words (new_qtd s (note_at notes b).next dummy (note_at notes b).buffer last)

-- the qTDs of these stages from block b on
abbrev pub write_stages : Book → Mem → List QtdNote → ℕ → List Stage → ℕ → Mem
write_stages k m notes dummy [] b = m
write_stages k m notes dummy (s ∷ ss) b =
    write_stages k (store_words k m b (32 * b) (stage_words notes s b dummy (is_last ss))) notes dummy ss (note_at notes b).next

-- four bytes as a word, the lowest first, with 0 past the end
abbrev pub word_from : List ℕ → ℕ → ℕ
word_from bytes i = slice_index bytes i + 256 * slice_index bytes (i + 1) + 65536 * slice_index bytes (i + 2) + 16777216 * slice_index bytes (i + 3)

-- n words of these bytes from byte i of a buffer on
abbrev pub write_bytes : Book → Mem → QtdNote → List ℕ → ℕ → ℕ → Mem
write_bytes k m note bytes i zero = m
write_bytes k m note bytes i (suc n) =
    write_bytes k (store k m (slice_index note.buffer (i / 4096)) (buffer_address note i) (word_from bytes i)) note bytes (i + 4) n

-- an OUT and a SETUP send the next bytes
abbrev pub sends : Stage → ℕ
sends s = if nat_eq s.pid 1 then 0 else s.long

-- the bytes of the stages that send are written in their buffers, in their order
abbrev pub send_stages : Book → Mem → List QtdNote → List Stage → ℕ → List ℕ → Mem
send_stages k m notes [] b bytes = m
send_stages k m notes (s ∷ ss) b bytes =
    send_stages k (write_bytes k m (note_at notes b) (take (sends s) bytes) 0 (pieces (sends s) 4)) notes ss (note_at notes b).next (drop (sends s) bytes)

-- a transfer that is accepted: its number of qTDs, and the bytes that it can move and sends
pub record Asked : Type 0 where
  pub sort : Sort
  pub stages : List Stage
  pub most : ℕ
  pub bytes : List ℕ

-- the room that a transfer leaves: for one transfer and one report less, and for the bytes that it may move
abbrev pub with_transfer : Reserve → ℕ → Reserve
with_transfer r most = record r { transfers = r.transfers - 1; reports = r.reports - 1; report_bytes = r.report_bytes - most }

-- a transfer as it is accepted: nothing of it is harvested
abbrev pub new_transfer : ℕ → Asked → ℕ → Transfer
new_transfer e a first = record {
  endpoint = e;
  sort = a.sort;
  first = first;
  qtds = length a.stages;
  place = first;
  left = length a.stages;
  most = a.most;
  reported = false;
  released = false;
  part = parts.Own;
}

-- the endpoint with one more transfer, and its new qTD at the end of the queue
abbrev pub with_queued : Endpoint → ℕ → ℕ → Endpoint
with_queued x dummy t = record x { dummy = dummy; next = first_waiting x.next t }

-- The old dummy becomes the first qTD; its words are stored once the others are lent. The last new qTD is the dummy now.
abbrev pub accepted_transfer : DriverContent → ℕ → Endpoint → Asked → Holding → ℕ → List QtdNote → Offered
accepted_transfer d e x a h dummy notes = record {
  driver = record d {
    book = h.book;
    endpoints = slice_set d.endpoints e (with_queued x dummy (length d.transfers));
    transfers = d.transfers ++ new_transfer e a x.dummy ∷ [];
    notes = notes;
    command = Some (unfinished.Publish x.dummy (stage_words notes (first_of a.stages) x.dummy dummy (nat_eq (length a.stages) 1)));
    made = 0;
    room = with_transfer d.room a.most;
  };
  memory =
      send_stages h.book
      (store_words h.book (write_stages h.book h.memory notes dummy (drop 1 a.stages) (note_at notes x.dummy).next) dummy (32 * dummy) (qtd_words dummy_qtd))
      notes a.stages x.dummy a.bytes;
}

-- where runs were found for the transfer, else the refusal
abbrev pub taken_transfer : DriverContent → ℕ → Endpoint → Asked → Result Holding OfferError → Result Offered OfferError
taken_transfer d e x a (Err why) = Err why
taken_transfer d e x a (Ok h) =
    let qtds = take (length a.stages) (new_runs d h) in
    Ok (accepted_transfer d e x a h (slice_index qtds (length a.stages - 1)) (note_stages d.notes a.stages x.dummy qtds (drop (length a.stages) (new_runs d h))))

-- by whether the endpoint has ended, and whether the transfer is too long
abbrev pub open_transfer : DriverContent → Mem → ℕ → Endpoint → Asked → Option EndCause → Result Offered OfferError
open_transfer d m e x a (Some cause) = Err (errors.Closed cause)
open_transfer d m e x a None =
    if nat_lt longest_qtd a.most then Err errors.TooLong else taken_transfer d e x a (take_runs (holding d.book m) (needs a.stages))

-- by whether there is such an endpoint, and whether it takes the command
abbrev pub found_transfer : DriverContent → Mem → (Endpoint → Bool) → Asked → ℕ → Option Endpoint → Result Offered OfferError
found_transfer d m takes a e None = Err errors.NoEndpoint
found_transfer d m takes a e (Some x) = if takes x then open_transfer d m e x a x.ended else Err errors.NoEndpoint

-- by the name of the endpoint
abbrev pub offered_transfer : DriverContent → Mem → EpName → (Endpoint → Bool) → Asked → Result Offered OfferError
offered_transfer d m name takes a = found_transfer d m takes a (unwrap_or (endpoint_of d name) 0) (endpoint_named d name)

-- gets and puts are asked of a bulk or interrupt endpoint (USB 2.0, 5.7 and 5.8)
abbrev pub is_queued : EpKind → Bool
is_queued kinds.Bulk = true
is_queued kinds.Interrupt = true
is_queued kinds.Control = false
is_queued kinds.Iso = false

-- a get is asked of an IN endpoint of these
abbrev pub takes_get : Endpoint → Bool
takes_get x = is_queued x.desc.kind && is_same_way x.desc.name.way ways.In

-- a put is asked of an OUT endpoint of these
abbrev pub takes_put : Endpoint → Bool
takes_put x = is_queued x.desc.kind && is_same_way x.desc.name.way ways.Out

-- a request is asked of a control endpoint (USB 2.0, 5.5)
abbrev pub takes_control : Endpoint → Bool
takes_control x = is_control x.desc.kind

-- ---- any command

-- by the command, where none is unfinished
abbrev pub offered_next : DriverContent → Mem → Cmd → Result Offered OfferError
offered_next d m (commands.OpenEp x) = offered_open d m x (endpoint_named d x.name)
offered_next d m (commands.Get name len by) =
    offered_transfer d m name takes_get (record { sort = sorts.Get; stages = get_stages len by; most = len; bytes = [] })
offered_next d m (commands.Put name bytes by) =
    offered_transfer d m name takes_put (record { sort = sorts.Put; stages = put_stages (length bytes) by; most = length bytes; bytes = bytes })
offered_next d m (commands.Control name setup bytes) =
    offered_transfer d m name takes_control (record { sort = sorts.Request; stages = request_stages setup; most = request_length setup; bytes = setup ++ bytes })
offered_next d m (commands.Iso name count len seed) = offered_iso d m (unwrap_or (endpoint_of d name) 0) count len seed (endpoint_named d name)
offered_next d m (commands.Cancel name) = offered_cancel d m (unwrap_or (endpoint_of d name) 0) (endpoint_named d name)
offered_next d m _ = Err errors.NoEndpoint  -- no clear, root port or disk is built yet

abbrev pub offered : DriverContent → Mem → Cmd → Result Offered OfferError
offered d m cmd = if busy d then Err errors.Busy else offered_next d m cmd

-- ---- what the caller sees to

-- there is room for what is used where the command is accepted
abbrev pub HasRoom : Reserve → ℕ → Type 0
HasRoom room most = (1 ≤ room.transfers) × (1 ≤ room.reports) × (most ≤ longest_qtd → most ≤ room.report_bytes)

-- what is opened is a bulk or control endpoint, or can be asked of a plan
abbrev pub IsOpened : EpDesc → Type 0
IsOpened x = is_periodic x.kind ≡ true → IsWant (want_of 0 x)

-- a descriptor has at most eight slots of 3,072 bytes
abbrev pub IsOffered : Reserve → Cmd → Type 0
IsOffered room (commands.OpenEp x) = (1 ≤ room.endpoints) × (x.max ≤ 1024) × (x.port ≤ 127) × IsOpened x
IsOffered room (commands.Get name len by) = (1 ≤ by) × (by ≤ longest_qtd) × HasRoom room len
IsOffered room (commands.Put name bytes by) = (1 ≤ by) × (by ≤ longest_qtd) × HasRoom room (length bytes)
IsOffered room (commands.Control name setup bytes) = HasRoom room (request_length setup)
IsOffered room (commands.Iso name count len seed) =
    (count ≤ room.transfers) × (count ≤ room.reports) × (24576 * count ≤ room.report_bytes)
IsOffered room (commands.Cancel name) = 1 ≤ room.reports
IsOffered room _ = 1 ≤ room.reports
