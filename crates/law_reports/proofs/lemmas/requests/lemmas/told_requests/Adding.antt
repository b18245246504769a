-- What an accepted command adds: an endpoint, a request of the control endpoint with its name, or transfers of endpoints that aren't control endpoints.
use Rattle.std.proofs.Common.{◌≡◌, ℕ, zero, suc, ◌+◌, Bool, true, false, ◌||◌, not, List, [], ◌∷◌, ◌++◌, map, position, slice_get, Option, Some, None, Result, Ok, Err, unwrap_or, replicate, ap, sym, refl, ◌∙◌}
use Rattle.std.specs.Prelude.{nat_lt, count_by, ◌%◌, drop}
use Rattle.std.specs.List.{AllByRecursion}
use Rattle.std.specs.Option.{option_and_then}
use Rattle.std.proofs.lemmas.Bool.{cond_both, and_parts}
use Rattle.std.proofs.lemmas.Option.{get_or_from_slice_get}
use Rattle.std.proofs.lemmas.List.{append_assoc, append-nil, map-append}
use Rattle.std.proofs.lemmas.List.Quantifiers.{position-Some}
use Rattle.law_common.proofs.Lists.{all_alike, map_set_same}
use Rattle.usb_base.specs.declared.commands.Cmd.{Cmd}
use Rattle.usb_base.specs.declared.commands.Cmd.TheVariants as commands
use Rattle.usb_base.specs.declared.endpoints.EpName.{EpName}
use Rattle.usb_base.specs.declared.endpoints.EpDesc.{EpDesc}
use Rattle.usb_base.specs.declared.endpoints.EndCause.{EndCause}
use Rattle.usb_base.specs.declared.endpoints.EndCause.TheVariants as causes
use Rattle.usb_base.specs.declared.packets.EpKind.{EpKind}
use Rattle.usb_base.specs.declared.packets.EpKind.TheVariants as kinds
use Rattle.usb_base.specs.declared.packets.Way.TheVariants as ways
use Rattle.usb_base.specs.declared.reports.OfferError.{OfferError}
use Rattle.usb_base.specs.declared.reports.OfferError.TheVariants as errors
use Rattle.word_mem.specs.Memory.{Mem}
use Rattle.mem_runs.specs.Book.{Book, Holding, holding}
use Rattle.bandwidth.specs.declared.placements.Placement.{Placement}
use Rattle.drv_table.specs.declared.content.Endpoint.{Endpoint}
use Rattle.drv_table.specs.declared.content.Slots.{Slots}
use Rattle.drv_table.specs.declared.content.Command.TheVariants as unfinished
use Rattle.drv_table.specs.DriverContent.{DriverContent, busy, is_same_way, is_same_name, endpoint_of, waits_for}
use Rattle.drv_table.specs.Kinds.{is_iso}
use Rattle.drv_table.specs.Words.{is_control}
use Rattle.drv_table.specs.Accepting.{Offered, take_runs, new_runs}
use Rattle.drv_table.specs.IsoOffers.{Descriptors, total_of, slot_runs, offered_iso, open_iso, taken_iso, iso_needs, slots_of, spans_too_long, has_slots, all_descriptors, one_descriptor}
use Rattle.drv_table.specs.Offers.{offered, offered_next, offered_transfer, found_transfer, open_transfer, taken_transfer, is_queued, takes_get, takes_put, takes_control, Asked}
use Rattle.drv_table.specs.CancelOffers.{offered_cancel, cancelled_by, with_cancel, endpoint_members, first_end}
use Rattle.claims_report.specs.Streams.{open_in}
use Rattle.claims_report.specs.Requests.{request_in}
use Rattle.law_queues.proofs.lemmas.told_endpoints.Names.{same_name_is, driver_name}
use Rattle.bus_world.proofs.Offering.{get_asked, put_asked, request_asked}
use Rattle.law_world.proofs.lemmas.streams.lemmas.put_laws.Mapped.{mapped}
use Rattle.law_world.proofs.lemmas.streams.lemmas.put_laws.Stays.{desc_at, owner_at, descs_in, owners_in, Stays, stays_join, or_finished_stays}
use Rattle.law_world.proofs.lemmas.streams.lemmas.put_laws.TakenAccepted.{AddsEndpoint, Adds as AddsPuts, opens as opens_one, puts as puts_one, others as others_more, IfAccepted, command_adds}

-- the endpoint is no control endpoint
pub record IsNoControl (descs : List EpDesc) (e : ℕ) : Type 0 where
  pub desc : EpDesc
  pub here : slice_get descs e ≡ Some desc
  pub none : is_control desc.kind ≡ false

pub record AddsRequest (d : DriverContent) (cmd : Cmd) (c : DriverContent) : Type 0 where
  pub name : EpName
  pub setup : List ℕ
  pub bytes : List ℕ
  pub is : cmd ≡ commands.Control name setup bytes
  pub number : ℕ
  pub desc : EpDesc
  pub here : slice_get (descs_in d) number ≡ Some desc
  pub named : desc.name ≡ name
  pub descs : descs_in c ≡ descs_in d
  pub owners : owners_in c ≡ owners_in d ++ number ∷ []

pub record AddsOthers (d : DriverContent) (cmd : Cmd) (c : DriverContent) : Type 0 where
  pub no_request : (name : EpName) → request_in name cmd ≡ None
  pub more : List ℕ
  pub none : AllByRecursion (IsNoControl (descs_in d)) more
  pub descs : descs_in c ≡ descs_in d
  pub owners : owners_in c ≡ owners_in d ++ more

pub data Adds (d : DriverContent) (cmd : Cmd) (c : DriverContent) : Type 0 where
  opens : AddsEndpoint d cmd c → Adds d cmd c
  asks : AddsRequest d cmd c → Adds d cmd c
  others : AddsOthers d cmd c → Adds d cmd c

-- ---- endpoints by name

found_passes : (xs : List Endpoint) (p : Endpoint → Bool) (e : ℕ) (y : Endpoint) → position p xs ≡ Some e → slice_get xs e ≡ Some y → p y ≡ true
found_passes xs p e y f here = sym (ap p (get_or_from_slice_get xs e y y here)) ∙ (position-Some p xs e y f).1

has_name : (d : DriverContent) (name : EpName) (e : ℕ) (x : Endpoint) → endpoint_of d name ≡ Some e → slice_get d.endpoints e ≡ Some x → x.desc.name ≡ name
has_name d name e x is here =
    same_name_is x.desc.name name (sym (driver_name x.desc.name name) ∙ found_passes d.endpoints (λ (z : Endpoint). is_same_name z.desc.name name) e x is here)

-- ---- a get, a put or a request

module _ (d : DriverContent) (m : Mem) (name : EpName) (takes : Endpoint → Bool) (a : Asked) (P : DriverContent → Type 0)
    (gives : (e : ℕ) (x : Endpoint) (c : DriverContent) → slice_get d.endpoints e ≡ Some x → x.desc.name ≡ name → takes x ≡ true → descs_in c ≡ descs_in d → owners_in c ≡ owners_in d ++ e ∷ [] → P c) where
  transfer_taken : (e : ℕ) (x : Endpoint) (r : Result Holding OfferError) → slice_get d.endpoints e ≡ Some x → x.desc.name ≡ name → takes x ≡ true → IfAccepted P (taken_transfer d e x a r)
  transfer_taken e x (Err why) here named on = tt
  transfer_taken e x (Ok h) here named on = gives e x _ here named on (map_set_same desc_at d.endpoints e x _ here refl) (map-append owner_at d.transfers _)

  transfer_open : (e : ℕ) (x : Endpoint) (cause : Option EndCause) → slice_get d.endpoints e ≡ Some x → x.desc.name ≡ name → takes x ≡ true → IfAccepted P (open_transfer d m e x a cause)
  transfer_open e x (Some cause) here named on = tt
  transfer_open e x None here named on =
      cond_both (nat_lt 20480 a.most) (Err errors.TooLong) (taken_transfer d e x a (take_runs (holding d.book m) _)) (IfAccepted P) (λ _. tt)
      (λ _. transfer_taken e x (take_runs (holding d.book m) _) here named on)

  transfer_found : (e : ℕ) (o : Option Endpoint) → endpoint_of d name ≡ Some e → slice_get d.endpoints e ≡ o → IfAccepted P (found_transfer d m takes a e o)
  transfer_found e None is here = tt
  transfer_found e (Some x) is here =
      cond_both (takes x) (open_transfer d m e x a x.ended) (Err errors.NoEndpoint) (IfAccepted P) (λ on. transfer_open e x x.ended here (has_name d name e x is here) on) (λ _. tt)

  transfer_named : (q : Option ℕ) → endpoint_of d name ≡ q → IfAccepted P (found_transfer d m takes a (unwrap_or q 0) (option_and_then (λ e. slice_get d.endpoints e) q))
  transfer_named None is = tt
  transfer_named (Some e) is = transfer_found e (slice_get d.endpoints e) is refl

  transfer_offered : IfAccepted P (offered_transfer d m name takes a)
  transfer_offered = transfer_named (endpoint_of d name) refl

-- ---- descriptors

pub descriptors_owned : (k : Book) (e : ℕ) (x : EpDesc) (s : Slots) (n seed : ℕ) (runs : List ℕ) (a : Descriptors) → map owner_at (all_descriptors k e x s n seed runs a).transfers ≡ map owner_at a.transfers ++ replicate n e
unfolding all_descriptors
descriptors_owned k e x s zero seed runs a = sym (append-nil (map owner_at a.transfers))
descriptors_owned k e x s (suc n) seed runs a =
    descriptors_owned k e x s n ((seed + total_of s) % 256) (drop (suc (slot_runs s)) runs) (one_descriptor k e x s seed runs a)
    ∙ ap (λ (os : List ℕ). os ++ replicate n e) (map-append owner_at a.transfers _)
    ∙ append_assoc (map owner_at a.transfers) (e ∷ []) (replicate n e)

no_iso : (kind : EpKind) → is_iso kind ≡ true → is_control kind ≡ false
no_iso kinds.Control iso = absurd cc
no_iso _ iso = refl

module _ (d : DriverContent) (m : Mem) (name : EpName) (n len seed : ℕ) where
  abbrev it : Cmd
  it = commands.Iso name n len seed

  iso_taken : (e : ℕ) (x : Endpoint) (s : Slots) (r : Result Holding OfferError) → slice_get d.endpoints e ≡ Some x → is_iso x.desc.kind ≡ true → IfAccepted (Adds d it) (taken_iso d e x s n seed r)
  iso_taken e x s (Err why) here iso = tt
  iso_taken e x s (Ok h) here iso = others (record {
    no_request = λ to. refl;
    more = replicate n e;
    none = all_alike (IsNoControl (descs_in d)) n e (record { desc = x.desc; here = mapped desc_at d.endpoints e x here; none = no_iso x.desc.kind iso });
    descs = map_set_same desc_at d.endpoints e x _ here refl;
    owners = descriptors_owned h.book e x.desc s n seed (new_runs d h) _;
  })

  iso_open : (e : ℕ) (x : Endpoint) (s : Slots) (cause : Option EndCause) → slice_get d.endpoints e ≡ Some x → is_iso x.desc.kind ≡ true → IfAccepted (Adds d it) (open_iso d m e x s n seed cause)
  iso_open e x s (Some cause) here iso = tt
  iso_open e x s None here iso =
      cond_both (spans_too_long x (n + count_by (waits_for e) d.transfers) || not (has_slots x s)) (Err errors.TooLong) (taken_iso d e x s n seed (take_runs (holding d.book m) (iso_needs s n)))
      (IfAccepted (Adds d it)) (λ _. tt) (λ _. iso_taken e x s (take_runs (holding d.book m) (iso_needs s n)) here iso)

  iso_found : (e : ℕ) (o : Option Endpoint) → slice_get d.endpoints e ≡ o → IfAccepted (Adds d it) (offered_iso d m e n len seed o)
  iso_found e None here = tt
  iso_found e (Some x) here =
      cond_both (is_iso x.desc.kind) (open_iso d m e x (slots_of x len) n seed x.ended) (Err errors.NoEndpoint) (IfAccepted (Adds d it)) (λ iso. iso_open e x (slots_of x len) x.ended here iso) (λ _. tt)

  iso_named : (q : Option ℕ) → IfAccepted (Adds d it) (offered_iso d m (unwrap_or q 0) n len seed (option_and_then (λ e. slice_get d.endpoints e) q))
  iso_named None = tt
  iso_named (Some e) = iso_found e (slice_get d.endpoints e) refl

-- ---- a cancel

others_stay : (d c : DriverContent) (cmd : Cmd) → ((name : EpName) → request_in name cmd ≡ None) → Stays d c → Adds d cmd c
others_stay d c cmd no_request h = others (record { no_request = no_request; more = []; none = tt; descs = h.descs; owners = h.owners ∙ sym (append-nil (owners_in d)) })

cancelled_stays : (d : DriverContent) (e : ℕ) (x : Endpoint) (p : Option Placement) → slice_get d.endpoints e ≡ Some x → Stays d (cancelled_by d e x p)
cancelled_stays d e x None here = record { descs = map_set_same desc_at d.endpoints e x (record x { cancelled = true; ended = first_end x.ended }) here refl; owners = refl; refusals = λ n. refl }
cancelled_stays d e x (Some p) here =
    stays_join d (with_cancel d e x (endpoint_members d e x p)) _
    (record {
      descs = map_set_same desc_at d.endpoints e x (record x { cancelled = true; ended = first_end x.ended }) here refl;
      owners =
          refl;
      refusals = λ n. refl;
    })
    (or_finished_stays (with_cancel d e x (endpoint_members d e x p)) (unfinished.Unchain e))

cancel_found : (d : DriverContent) (m : Mem) (name : EpName) (e : ℕ) (o : Option Endpoint) → slice_get d.endpoints e ≡ o → IfAccepted (Adds d (commands.Cancel name)) (offered_cancel d m e o)
cancel_found d m name e None here = tt
cancel_found d m name e (Some x) here =
    cond_both x.cancelled (Err (errors.Closed causes.Cancel)) (Ok (record { driver = cancelled_by d e x x.placement; memory = m })) (IfAccepted (Adds d (commands.Cancel name))) (λ _. tt)
    (λ _. others_stay d (cancelled_by d e x x.placement) (commands.Cancel name) (λ to. refl) (cancelled_stays d e x x.placement here))

cancel_named : (d : DriverContent) (m : Mem) (name : EpName) (q : Option ℕ) → IfAccepted (Adds d (commands.Cancel name)) (offered_cancel d m (unwrap_or q 0) (option_and_then (λ e. slice_get d.endpoints e) q))
cancel_named d m name None = tt
cancel_named d m name (Some e) = cancel_found d m name e (slice_get d.endpoints e) refl

-- ---- an open

open_adds : (d : DriverContent) (x : EpDesc) (c : DriverContent) → AddsPuts d (commands.OpenEp x) c → Adds d (commands.OpenEp x) c
open_adds d x c (opens_one k) = opens k
open_adds d x c (puts_one k) = let e : commands.OpenEp x ≡ commands.Put k.name k.bytes k.by = k.is in absurd cc
open_adds d x c (others_more k) = let e : open_in (commands.OpenEp x) ≡ None = k.no_open in absurd cc

if_more : (P Q : DriverContent → Type 0) (r : Result Offered OfferError) → ((c : DriverContent) → P c → Q c) → IfAccepted P r → IfAccepted Q r
if_more P Q (Ok o) gives h = gives o.driver h
if_more P Q (Err why) gives h = tt

open_asks : (d : DriverContent) (m : Mem) (x : EpDesc) → IfAccepted (Adds d (commands.OpenEp x)) (offered d m (commands.OpenEp x))
open_asks d m x = if_more (AddsPuts d (commands.OpenEp x)) (Adds d (commands.OpenEp x)) (offered d m (commands.OpenEp x)) (open_adds d x) (command_adds d m (commands.OpenEp x))

-- ---- any command

queued_none : (kind : EpKind) → is_queued kind ≡ true → is_control kind ≡ false
queued_none kinds.Control is = absurd cc
queued_none _ is = refl

one_other : (d : DriverContent) (cmd : Cmd) (e : ℕ) (x : Endpoint) (c : DriverContent) → ((name : EpName) → request_in name cmd ≡ None) → slice_get d.endpoints e ≡ Some x → is_control x.desc.kind ≡ false
    → descs_in c ≡ descs_in d → owners_in c ≡ owners_in d ++ e ∷ [] → Adds d cmd c
one_other d cmd e x c no_request here none descs owners =
    others (record { no_request = no_request; more = e ∷ []; none = (record { desc = x.desc; here = mapped desc_at d.endpoints e x here; none = none }, tt); descs = descs; owners = owners })

module _ (d : DriverContent) (m : Mem) where
  abbrev IfNext : Cmd → Type 0
  IfNext cmd = IfAccepted (Adds d cmd) (offered_next d m cmd)

  get_asks : (name : EpName) (len by : ℕ) → IfNext (commands.Get name len by)
  get_asks name len by =
      transfer_offered d m name takes_get (get_asked len by) (Adds d (commands.Get name len by))
      (λ e x c here named takes descs owners.
      one_other d (commands.Get name len by) e x c (λ to. refl) here (queued_none x.desc.kind (and_parts (is_queued x.desc.kind) (is_same_way x.desc.name.way ways.In) takes).0) descs owners)

  put_asks : (name : EpName) (bytes : List ℕ) (by : ℕ) → IfNext (commands.Put name bytes by)
  put_asks name bytes by =
      transfer_offered d m name takes_put (put_asked bytes by) (Adds d (commands.Put name bytes by))
      (λ e x c here named takes descs owners.
      one_other d (commands.Put name bytes by) e x c (λ to. refl) here (queued_none x.desc.kind (and_parts (is_queued x.desc.kind) (is_same_way x.desc.name.way ways.Out) takes).0) descs owners)

  request_asks : (name : EpName) (setup bytes : List ℕ) → IfNext (commands.Control name setup bytes)
  request_asks name setup bytes =
      transfer_offered d m name takes_control (request_asked setup bytes) (Adds d (commands.Control name setup bytes))
      (λ e x c here named takes descs owners.
      asks (record { name = name; setup = setup; bytes = bytes; is = refl; number = e; desc = x.desc; here = mapped desc_at d.endpoints e x here; named = named; descs = descs; owners = owners }))

  idle : (cmd : Cmd) → IfNext cmd → IfAccepted (Adds d cmd) (offered d m cmd)
  idle cmd h = cond_both (busy d) (Err errors.Busy) (offered_next d m cmd) (IfAccepted (Adds d cmd)) (λ _. tt) (λ _. h)

pub command_asks : (d : DriverContent) (m : Mem) (cmd : Cmd) → IfAccepted (Adds d cmd) (offered d m cmd)
command_asks d m (commands.OpenEp x) = open_asks d m x
command_asks d m (commands.Get name len by) = idle d m (commands.Get name len by) (get_asks d m name len by)
command_asks d m (commands.Put name bytes by) = idle d m (commands.Put name bytes by) (put_asks d m name bytes by)
command_asks d m (commands.Control name setup bytes) = idle d m (commands.Control name setup bytes) (request_asks d m name setup bytes)
command_asks d m (commands.Iso name count len seed) = idle d m (commands.Iso name count len seed) (iso_named d m name count len seed (endpoint_of d name))
command_asks d m (commands.Cancel name) = idle d m (commands.Cancel name) (cancel_named d m name (endpoint_of d name))
command_asks d m (commands.Clear name) = idle d m (commands.Clear name) tt
command_asks d m (commands.Reset port) = idle d m (commands.Reset port) tt
command_asks d m (commands.Give port) = idle d m (commands.Give port) tt
command_asks d m (commands.DiskRead addr lba count) = idle d m (commands.DiskRead addr lba count) tt
command_asks d m (commands.DiskWrite addr lba bytes) = idle d m (commands.DiskWrite addr lba bytes) tt
command_asks d m (commands.Revive addr) = idle d m (commands.Revive addr) tt
