-- What the driver writes (EHCI 1.0, 3.5, 3.6, 4.8 and 4.10). A block begins at 32 times its number.
--     head_block, head_at          where the head of the ring stands, right after the frame list
--     opening_head                 the head: halted for ever, its link at itself
--     queue_head x link dummy      a new queue head for the endpoint x, with this link, before its first transfer
--     interrupt_head x smask cmask link dummy      the same of an interrupt endpoint with these masks and this link word
--     dummy_qtd                    the qTD at the end of a queue
--     stages_of ..                 the qTDs of a transfer
--     new_qtd s next dummy buffer last      the qTD of a stage
--     needs ss                     the lengths of the runs that a transfer takes, in blocks
use Rattle.std.specs.Prelude.{ℕ, zero, suc, ◌+◌, ◌-◌, ◌*◌, ◌/◌, ◌%◌, min, max, Bool, true, false, not, ◌&&◌, nat_eq, nat_le, List, [], ◌∷◌, ◌++◌, length, map, flat_map, replicate, slice_index, unwrap_or, if◌then◌else◌}
use Rattle.std.specs.List.{range_with_len}
use Rattle.usb_base.specs.declared.endpoints.EpDesc.{EpDesc}
use Rattle.usb_base.specs.declared.packets.Speed.{Speed}
use Rattle.usb_base.specs.declared.packets.Speed.TheVariants as speeds
use Rattle.usb_base.specs.declared.packets.EpKind.{EpKind}
use Rattle.usb_base.specs.declared.packets.EpKind.TheVariants as kinds
use Rattle.link_words.specs.declared.fields.LinkBits.{LinkBits}
use Rattle.link_words.specs.Fields.{link_at}
use Rattle.link_words.specs.declared.fields.ShortLink.{ShortLink}
use Rattle.link_words.specs.Links.{no_qtd}
use Rattle.qh_qtd.specs.Blank.{blank_token, blank_qtd, blank_head}
use Rattle.qh_qtd.specs.declared.token.Token.{Token}
use Rattle.qh_qtd.specs.declared.qtd.Qtd.{Qtd}
use Rattle.qh_qtd.specs.declared.queue_head.Qh.{Qh}
use Rattle.drv_table.specs.declared.content.Alternate.{Alternate}
use Rattle.drv_table.specs.declared.content.Alternate.TheVariants as alternates
use Rattle.drv_table.specs.declared.content.Stage.{Stage}

-- ---- links and tokens

-- the frame list has the first page, the head of the ring the two blocks after it
abbrev pub head_block : ℕ
head_block = 128

-- a link to the queue head in block b, and its word (3.3.1): a queue head has type 1
abbrev pub to_queue_head : ℕ → LinkBits
to_queue_head b = record { t = false; typ = 1; address = 32 * b }

-- the word of that link
abbrev pub queue_head_link : ℕ → ℕ
queue_head_link b = 32 * b + 2

-- a link to the qTD in block b (3.5.1)
abbrev pub to_qtd : ℕ → ShortLink
to_qtd b = record { t = false; address = 32 * b }

-- a token of which nothing is to be done
abbrev pub idle_token : Bool → Token
idle_token halted = record blank_token { halted = halted }

-- ---- queue heads

-- the endpoint is of high speed (3.6.2)
abbrev pub is_high : Speed → Bool
is_high speeds.Full = false
is_high speeds.Low = false
is_high speeds.High = true

-- the field for the speed (3.6.2)
abbrev pub speed_field : Speed → ℕ
speed_field speeds.Full = 0
speed_field speeds.Low = 1
speed_field speeds.High = 2

-- the endpoint is a control endpoint (USB 2.0, 5.5)
abbrev pub is_control : EpKind → Bool
is_control kinds.Control = true
is_control kinds.Iso = false
is_control kinds.Bulk = false
is_control kinds.Interrupt = false

-- The queue head of a bulk or control endpoint. The toggle of a control request comes from its qTDs. Up to four NAKs in a row are let
-- pass at high speed (4.9); an endpoint behind a hub names the hub and its port.
abbrev pub queue_head : EpDesc → ℕ → ℕ → Qh
queue_head x link dummy = record blank_head {
  link = to_queue_head link;
  addr = x.name.addr;
  ep = x.name.num;
  eps = speed_field x.speed;
  dtc = is_control x.kind;
  max = x.max;
  control = is_control x.kind && not (is_high x.speed);
  rl = if is_high x.speed then 4 else 0;
  hub = if is_high x.speed then 0 else unwrap_or x.hub 0;
  port = if is_high x.speed then 0 else x.port;
  mult = 1;
  next = to_qtd dummy;
}

-- The queue head of an interrupt endpoint has the masks of its placement and so many transactions a microframe; NAKs aren't counted
-- (3.6.2, 4.10.3).
abbrev pub interrupt_head : EpDesc → ℕ → ℕ → ℕ → ℕ → Qh
interrupt_head x smask cmask link dummy = record (queue_head x 0 dummy) {
  link = link_at link;
  rl = 0;
  smask = smask;
  cmask = cmask;
  mult = x.multi;
}

-- the head of the reclamation list (4.8): its queue is halted for ever
abbrev pub opening_head : Qh
opening_head = record blank_head {
  link = to_queue_head head_block;
  eps = 2;
  head = true;
  max = 64;
  mult = 1;
  token = idle_token true;
}

-- ---- qTDs

abbrev pub dummy_qtd : Qtd
dummy_qtd = blank_qtd

-- three errors to come; the last qTD of a transfer asks for an interrupt (3.5.3)
abbrev pub new_token : Stage → Bool → Token
new_token s last = record blank_token {
  active = true;
  pid = s.pid;
  cerr = 3;
  ioc = last;
  total = s.long;
  toggle = s.toggle;
}

-- the alternate next qTD of a stage (3.5.2): none, the qTD at the end of the queue, or the next one
abbrev pub alternate_link : Alternate → ℕ → ℕ → ShortLink
alternate_link alternates.Nowhere next dummy = no_qtd
alternate_link alternates.Dummy next dummy = to_qtd dummy
alternate_link alternates.Next next dummy = to_qtd next

-- A page has 128 blocks. The buffer begins in the first of its runs, and each further run is a page (3.5.4); an empty buffer has no run,
-- and its fields are 0.
abbrev pub new_qtd : Stage → ℕ → ℕ → List ℕ → Bool → Qtd
new_qtd s next dummy buffer last = record {
  next = to_qtd next;
  alternate = alternate_link s.alternate next dummy;
  token = new_token s last;
  offset = 32 * (slice_index buffer 0 % 128);
  page0 = slice_index buffer 0 / 128;
  page1 = slice_index buffer 1 / 128;
  page2 = slice_index buffer 2 / 128;
  page3 = slice_index buffer 3 / 128;
  page4 = slice_index buffer 4 / 128;
}

-- ---- the qTDs of a transfer

-- how many pieces of `by` things there are, the last with the rest
abbrev pub pieces : ℕ → ℕ → ℕ
pieces len by = (len + (by - 1)) / by

-- qTDs of `by` bytes, the last with the rest; one of 0 bytes for none
abbrev pub cut : ℕ → ℕ → List ℕ
cut len by = map (λ k. min by (len - k * by)) (range_with_len 0 (max 1 (pieces len by)))

-- a qTD of a get: an IN of n bytes; after a short packet the queue goes on at its end (3.5.2)
abbrev pub in_stage : ℕ → Stage
in_stage n = record { pid = 1; long = n; told = n; toggle = false; alternate = alternates.Dummy }

-- a qTD of a put: an OUT of n bytes
abbrev pub out_stage : ℕ → Stage
out_stage n = record { pid = 0; long = n; told = n; toggle = false; alternate = alternates.Nowhere }

-- the qTDs of a get, each of `by` bytes but the last
abbrev pub get_stages : ℕ → ℕ → List Stage
get_stages len by = map in_stage (cut len by)

-- those of a put
abbrev pub put_stages : ℕ → ℕ → List Stage
put_stages len by = map out_stage (cut len by)

-- The stages of a request (USB 2.0, 8.5.3 and 9.3): bit 7 of its first byte says that the data go to the host, and its last two bytes
-- how many.
abbrev pub request_length : List ℕ → ℕ
request_length setup = slice_index setup 6 + 256 * slice_index setup 7

-- the request reads: its data stage is an IN (USB 2.0, 9.3.1)
abbrev pub asks_in : List ℕ → Bool
asks_in setup = nat_le 128 (slice_index setup 0)

-- the SETUP stage, of the eight setup bytes with DATA0 (USB 2.0, 8.5.3)
abbrev pub setup_stage : Stage
setup_stage = record { pid = 2; long = 8; told = 0; toggle = false; alternate = alternates.Nowhere }

-- the data stage, which begins with DATA1 (USB 2.0, 8.5.3)
abbrev pub data_stage : Bool → ℕ → Stage
data_stage to_host n = record { pid = if to_host then 1 else 0; long = n; told = n; toggle = true; alternate = alternates.Next }

-- the status stage, of no bytes and the other way, with DATA1 (USB 2.0, 8.5.3.1)
abbrev pub status_stage : Bool → Stage
status_stage to_host = record { pid = if to_host then 1 else 0; long = 0; told = 0; toggle = true; alternate = alternates.Nowhere }

-- the status goes the other way than the data, and to the host where there are none
abbrev pub request_stages : List ℕ → List Stage
request_stages setup =
    if nat_eq (request_length setup) 0 then setup_stage ∷ status_stage true ∷ []
    else setup_stage ∷ data_stage (asks_in setup) (request_length setup) ∷ status_stage (not (asks_in setup)) ∷ []

-- ---- the runs that it takes

-- a buffer of up to 4,096 bytes is one run, a longer one whole pages
abbrev pub buffer_needs : ℕ → List ℕ
buffer_needs zero = []
buffer_needs (suc n) = if nat_le (suc n) 4096 then pieces (suc n) 32 ∷ [] else replicate (pieces (suc n) 4096) 128

-- a qTD for each stage, and then their buffers
abbrev pub needs : List Stage → List ℕ
needs ss = replicate (length ss) 1 ++ flat_map (λ s. buffer_needs s.long) ss
