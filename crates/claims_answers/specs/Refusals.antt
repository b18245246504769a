-- Which commands a driver refuses, and why (EHCI 1.0, 3.3, 3.4, 3.5, 4.7, 4.8 and 4.10; USB 2.0, 5.5 to 5.8 and 5.11.3). Of the causes that
-- stand the first is told, and a command for which none stands is accepted.
--     endpoint_for d cmd       the endpoint that was opened by the name that the command has, and its number
--     takes cmd x              the kind and the way of the endpoint take the command
--     closed_by cmd x          why the endpoint takes none of these any more
--     is_open cmd x            the command opens an endpoint that is open
--     is_too_long d cmd        it asks for more than a transfer, or the descriptors of an endpoint, may have
--     HasNoPlacement d cmd     it opens a periodic endpoint, and each placement that this may have breaks a budget beside what is placed
--     runs_for d cmd           the lengths of the runs of blocks that it needs, in the order of taking
--     lacking_run m ns         of runs that are taken one after the other the first that isn't there: its length, and the longest there is
--     HasCause d m cmd why     the cause stands
--     rank why                 its place in their order
--     IsFirstCause d m cmd why it stands, and no earlier one does
--     HasNoCause d m cmd       none stands
use Rattle.std.specs.Prelude.{◌≡◌, ℕ, zero, suc, ◌+◌, ◌-◌, ◌*◌, ◌/◌, ◌<◌, Bool, true, false, not, ◌&&◌, ◌||◌, ◌==◌, nat_lt, nat_le}
use Rattle.std.specs.Prelude.{List, [], ◌∷◌, ◌++◌, length, count_by, replicate, slice_index, position, find, Option, Some, None, is_some, unwrap_or, if◌then◌else◌}
use Rattle.std.specs.List.{flat_map}
use Rattle.std.specs.Option.{option_and_then, option_map_or}
use Rattle.usb_base.specs.declared.commands.Cmd.{Cmd}
use Rattle.usb_base.specs.declared.commands.Cmd.TheVariants as commands
use Rattle.usb_base.specs.declared.endpoints.EndCause.{EndCause}
use Rattle.usb_base.specs.declared.endpoints.EndCause.TheVariants as causes
use Rattle.usb_base.specs.declared.endpoints.EpName.{EpName}
use Rattle.usb_base.specs.declared.packets.EpKind.{EpKind}
use Rattle.usb_base.specs.declared.packets.EpKind.TheVariants as kinds
use Rattle.usb_base.specs.declared.packets.Way.TheVariants as ways
use Rattle.usb_base.specs.declared.reports.OfferError.{OfferError}
use Rattle.usb_base.specs.declared.reports.OfferError.TheVariants as errors
use Rattle.word_mem.specs.declared.blocks.BlockState.TheVariants.{Kept}
use Rattle.word_mem.specs.Free.{lowest_run, longest_run}
use Rattle.word_mem.specs.Memory.{Mem, with_states}
use Rattle.bandwidth.specs.Admission.{HasNone}
use Rattle.bandwidth.specs.Placements.{has, below, is_classic}
use Rattle.bandwidth.specs.declared.placements.Placement.{Placement}
use Rattle.drv_periodic_table.specs.Periodic.{is_periodic, want_of}
use Rattle.drv_table.specs.declared.content.Endpoint.{Endpoint}
use Rattle.drv_table.specs.declared.content.Transfer.{Transfer}
use Rattle.drv_table.specs.DriverContent.{DriverContent, is_same_name, is_same_way}
use Rattle.drv_table.specs.Words.{cut}

-- ---- the endpoint

abbrev pub is_named : EpName → Endpoint → Bool
is_named name x = is_same_name x.desc.name name

-- the name of the endpoint that the command opens, or is for; what concerns a clear, a root port or a disk isn't built
abbrev pub name_for : Cmd → Option EpName
name_for (commands.OpenEp x) = Some x.name
name_for (commands.Get name len by) = Some name
name_for (commands.Put name bytes by) = Some name
name_for (commands.Control name setup bytes) = Some name
name_for (commands.Iso name count len seed) = Some name
name_for (commands.Cancel name) = Some name
name_for _ = None

abbrev pub endpoint_for : DriverContent → Cmd → Option Endpoint
endpoint_for d cmd = option_and_then (λ name. find (is_named name) d.endpoints) (name_for cmd)

abbrev pub number_for : DriverContent → Cmd → ℕ
number_for d cmd = unwrap_or (option_and_then (λ name. position (is_named name) d.endpoints) (name_for cmd)) 0

-- ---- what takes which command (USB 2.0, 5.5 to 5.8)

abbrev pub has_packets_one_way : EpKind → Bool
has_packets_one_way kinds.Bulk = true
has_packets_one_way kinds.Interrupt = true
has_packets_one_way _ = false

abbrev pub is_control : EpKind → Bool
is_control kinds.Control = true
is_control _ = false

abbrev pub is_isochronous : EpKind → Bool
is_isochronous kinds.Iso = true
is_isochronous _ = false

abbrev pub takes : Cmd → Endpoint → Bool
takes (commands.Get name len by) x = has_packets_one_way x.desc.kind && is_same_way x.desc.name.way ways.In
takes (commands.Put name bytes by) x = has_packets_one_way x.desc.kind && is_same_way x.desc.name.way ways.Out
takes (commands.Control name setup bytes) x = is_control x.desc.kind
takes (commands.Iso name count len seed) x = is_isochronous x.desc.kind
takes (commands.Cancel name) x = true
takes _ x = false

abbrev pub opens : Cmd → Bool
opens (commands.OpenEp x) = true
opens _ = false

abbrev pub lacks_endpoint : DriverContent → Cmd → Bool
lacks_endpoint d cmd = not (opens cmd) && not (option_map_or (takes cmd) (endpoint_for d cmd) false)

-- an endpoint that has ended takes no more transfers, and isn't opened again; a cancel is taken once, also of one that has ended
abbrev pub end_for : Cmd → Endpoint → Option EndCause
end_for (commands.Cancel name) x = if x.cancelled then Some causes.Cancel else None
end_for _ x = x.ended

abbrev pub closed_by : DriverContent → Cmd → Option EndCause
closed_by d cmd = option_and_then (end_for cmd) (endpoint_for d cmd)

abbrev pub is_open : DriverContent → Cmd → Bool
is_open d cmd = opens cmd && is_some (endpoint_for d cmd)

-- ---- how long it may be

-- a qTD has five pages of buffer (EHCI 1.0, 3.5.4)
abbrev pub most_bytes : ℕ
most_bytes = 20480

-- the last two of the eight setup bytes tell the bytes of the data stage (USB 2.0, 9.3.5)
abbrev pub data_bytes : List ℕ → ℕ
data_bytes setup = slice_index setup 6 + 256 * slice_index setup 7

-- transfers of an endpoint that wait for their line of the report
abbrev pub outstanding : DriverContent → ℕ → ℕ
outstanding d e = count_by (λ (t : Transfer). t.endpoint == e && not t.reported) d.transfers

-- the bytes of a slot: an OUT sends as many as are asked, an IN has room for its packets (EHCI 1.0, 3.3.2)
abbrev pub slot_of : Endpoint → ℕ → ℕ
slot_of x len = if is_same_way x.desc.name.way ways.In then x.desc.max * x.desc.multi else len

-- a slot has three packets of 1,024 bytes, a siTD one of 1,023, and the fields of a descriptor have the endpoint's (EHCI 1.0, 3.3 and 3.4)
abbrev pub fits_descriptor : Endpoint → ℕ → Bool
fits_descriptor x slot =
    nat_le slot (if is_classic x.desc.speed then 1023 else 3072) && nat_le x.desc.max 1024 && nat_le 1 x.desc.multi && nat_le x.desc.multi 3
    && nat_le x.desc.port 127

-- at most eight descriptors of an endpoint are outstanding, over at most the 8,192 microframes of the frame list
abbrev pub descriptors_too_long : Endpoint → ℕ → ℕ → Bool
descriptors_too_long x slot n = (nat_lt 8 n || nat_lt 8192 (n * x.desc.period)) || not (fits_descriptor x slot)

abbrev pub is_too_long : DriverContent → Cmd → Bool
is_too_long d (commands.Get name len by) = nat_lt most_bytes len
is_too_long d (commands.Put name bytes by) = nat_lt most_bytes (length bytes)
is_too_long d (commands.Control name setup bytes) = nat_lt most_bytes (data_bytes setup)
is_too_long d (commands.Iso name count len seed) =
    option_map_or (λ x. descriptors_too_long x (slot_of x len) (count + outstanding d (number_for d (commands.Iso name count len seed))))
    (endpoint_for d (commands.Iso name count len seed)) false
is_too_long d _ = false

-- ---- bus time (USB 2.0, 5.11.3)

abbrev pub HasNoPlacement : DriverContent → Cmd → Type 0
HasNoPlacement d (commands.OpenEp x) = (is_periodic x.kind ≡ true) × HasNone d.periodic.plan.rules d.periodic.plan.placed (want_of (length d.endpoints) x)
HasNoPlacement d _ = ⊥

-- ---- blocks of 32 bytes

abbrev pub ceiling : ℕ → ℕ → ℕ
ceiling n by = (n + (by - 1)) / by

-- a buffer of up to a page is one run, a longer one has whole pages
abbrev pub buffer_runs : ℕ → List ℕ
buffer_runs zero = []
buffer_runs (suc n) = if nat_le (suc n) 4096 then ceiling (suc n) 32 ∷ [] else replicate (ceiling (suc n) 4096) 128

-- a qTD has one block (3.5); the qTDs with buffers of these sizes, and then the buffers
abbrev pub transfer_runs : List ℕ → List ℕ
transfer_runs sizes = replicate (length sizes) 1 ++ flat_map buffer_runs sizes

-- SETUP, the data if there are any, and the status (USB 2.0, 8.5.3)
abbrev pub request_sizes : ℕ → List ℕ
request_sizes zero = 8 ∷ 0 ∷ []
request_sizes (suc n) = 8 ∷ suc n ∷ 0 ∷ []

-- an iTD has two blocks (3.3), a siTD one (3.4); behind it stands the buffer of its slots, one for each microframe of the S-mask
abbrev pub slots_bytes : Endpoint → ℕ → ℕ
slots_bytes x slot =
    if is_classic x.desc.speed then slot else count_by (has (option_map_or (λ (p : Placement). p.smask) x.placement 0)) (below 8) * slot

abbrev pub descriptor_runs : Endpoint → ℕ → List ℕ
descriptor_runs x slot = (if is_classic x.desc.speed then 1 else 2) ∷ buffer_runs (slots_bytes x slot)

-- a queue head has two blocks (3.6), and the qTD at the end of its queue one
abbrev pub runs_for : DriverContent → Cmd → List ℕ
runs_for d (commands.OpenEp x) = if is_isochronous x.kind then [] else 2 ∷ 1 ∷ []
runs_for d (commands.Get name len by) = transfer_runs (cut len by)
runs_for d (commands.Put name bytes by) = transfer_runs (cut (length bytes) by)
runs_for d (commands.Control name setup bytes) = transfer_runs (request_sizes (data_bytes setup))
runs_for d (commands.Iso name count len seed) =
    option_map_or (λ x. flat_map (λ (ns : List ℕ). ns) (replicate count (descriptor_runs x (slot_of x len))))
    (endpoint_for d (commands.Iso name count len seed)) []
runs_for d _ = []

abbrev pub lacking_run : Mem → List ℕ → Option (ℕ × ℕ)
lacking_run m [] = None
lacking_run m (n ∷ ns) =
    elim (lowest_run m.states n) [ None ↦ Some (n, longest_run m.states) | Some r ↦ lacking_run (with_states m r Kept) ns ]

-- ---- the causes

abbrev pub HasCause : DriverContent → Mem → Cmd → OfferError → Type 0
HasCause d m cmd errors.Busy = is_some d.command ≡ true
HasCause d m cmd errors.NoEndpoint = lacks_endpoint d cmd ≡ true
HasCause d m cmd (errors.Closed cause) = closed_by d cmd ≡ Some cause
HasCause d m cmd errors.AlreadyOpen = is_open d cmd ≡ true
HasCause d m cmd errors.TooLong = is_too_long d cmd ≡ true
HasCause d m cmd errors.NoPlacement = HasNoPlacement d cmd
HasCause d m cmd (errors.NoBlocks need largest) = lacking_run m (runs_for d cmd) ≡ Some (need, largest)
HasCause d m cmd errors.NotEnded = ⊥
HasCause d m cmd errors.HubClosed = ⊥

abbrev pub rank : OfferError → ℕ
rank errors.Busy = 0
rank errors.NoEndpoint = 1
rank (errors.Closed cause) = 2
rank errors.AlreadyOpen = 3
rank errors.TooLong = 4
rank errors.NoPlacement = 5
rank (errors.NoBlocks need largest) = 6
rank errors.NotEnded = 7
rank errors.HubClosed = 8

pub record IsFirstCause (d : DriverContent) (m : Mem) (cmd : Cmd) (why : OfferError) : Type 0 where
  pub stands : HasCause d m cmd why
  pub first : (other : OfferError) → rank other < rank why → HasCause d m cmd other → ⊥

abbrev pub HasNoCause : DriverContent → Mem → Cmd → Type 0
HasNoCause d m cmd = (why : OfferError) → HasCause d m cmd why → ⊥
