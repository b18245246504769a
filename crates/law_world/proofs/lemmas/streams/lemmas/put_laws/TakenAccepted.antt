-- What an accepted command adds: an endpoint, a put of the endpoint with its name, or transfers of endpoints that send no stream.
use Rattle.std.proofs.Common.{◌≡◌, ◌≢◌, ℕ, zero, suc, ◌+◌, Bool, true, false, ◌||◌, not, cond, List, [], ◌∷◌, ◌++◌, length, map, position, slice_get, Option, Some, None, Result, Ok, Err, unwrap_or, replicate, ap, sym, refl, ◌∙◌}
use Rattle.std.specs.Prelude.{nat_lt, count_by, ◌%◌, drop}
use Rattle.std.specs.List.{AllByRecursion, position_from}
use Rattle.std.specs.Option.{option_and_then}
use Rattle.std.proofs.lemmas.Bool.{cond_both, and_parts}
use Rattle.std.proofs.lemmas.Option.{same_Some, get_or_from_slice_get}
use Rattle.std.proofs.lemmas.List.{append_assoc, append-nil, map-append}
use Rattle.std.proofs.lemmas.List.Quantifiers.{position-Some}
use Rattle.std.proofs.lemmas.Iterator.Adapters.{position_from-zero}
use Rattle.law_common.proofs.Options.{some_not_none, by_test}
use Rattle.law_driver.proofs.Common.{found_there}
use Rattle.law_common.proofs.Lists.{all_alike, map_set_same}
use Rattle.usb_base.specs.declared.commands.Cmd.{Cmd}
use Rattle.usb_base.specs.declared.commands.Cmd.TheVariants as commands
use Rattle.usb_base.specs.declared.endpoints.EpName.{EpName}
use Rattle.usb_base.specs.declared.endpoints.EpDesc.{EpDesc}
use Rattle.usb_base.specs.declared.endpoints.EndCause.{EndCause}
use Rattle.usb_base.specs.declared.endpoints.EndCause.TheVariants as causes
use Rattle.usb_base.specs.declared.packets.EpKind.{EpKind}
use Rattle.usb_base.specs.declared.packets.EpKind.TheVariants as kinds
use Rattle.usb_base.specs.declared.packets.Way.{Way}
use Rattle.usb_base.specs.declared.packets.Way.TheVariants as ways
use Rattle.usb_base.specs.declared.reports.OfferError.{OfferError}
use Rattle.usb_base.specs.declared.reports.OfferError.TheVariants as errors
use Rattle.word_mem.specs.Memory.{Mem}
use Rattle.mem_runs.specs.Book.{Book, Holding, holding}
use Rattle.bandwidth.specs.declared.placements.Placement.{Placement}
use Rattle.bandwidth.specs.declared.placements.Refused.{Refused}
use Rattle.bandwidth.specs.Admission.{answer}
use Rattle.drv_periodic_table.specs.Periodic.{is_periodic, want_of}
use Rattle.drv_table.specs.declared.content.Endpoint.{Endpoint}
use Rattle.drv_table.specs.declared.content.Slots.{Slots}
use Rattle.drv_table.specs.declared.content.Command.TheVariants as unfinished
use Rattle.drv_table.specs.DriverContent.{DriverContent, busy, is_same_way, is_same_name, endpoint_of, endpoint_named, waits_for}
use Rattle.drv_table.specs.Kinds.{is_iso}
use Rattle.drv_table.specs.Words.{is_control}
use Rattle.drv_table.specs.Accepting.{Offered, take_runs, new_runs}
use Rattle.drv_table.specs.IsoOffers.{Descriptors, total_of, slot_runs, offered_iso, open_iso, taken_iso, iso_needs, slots_of, spans_too_long, has_slots, all_descriptors, one_descriptor}
use Rattle.drv_table.specs.Offers.{offered, offered_next, offered_open, taken_open, taken_chain, placed_open, planned_open, new_open, offered_transfer, found_transfer, open_transfer, taken_transfer, is_queued, takes_get, takes_put, takes_control, Asked}
use Rattle.drv_table.specs.CancelOffers.{offered_cancel, cancelled_by, with_cancel, endpoint_members, first_end}
use Rattle.bus_wire.specs.Fates.{is_same_name as is_bus_name}
use Rattle.claims_report.specs.Streams.{open_in, put_in, has_stream}
use Rattle.law_queues.proofs.lemmas.told_endpoints.Names.{same_name_is, name_is_same, driver_name}
use Rattle.claims_driver.specs.Scripts.{receives}
use Rattle.law_driver.proofs.lemmas.chained_transfers.Ways.{same_in}
use Rattle.bus_world.proofs.Offering.{get_asked, put_asked, request_asked}
use Rattle.law_world.proofs.lemmas.streams.lemmas.put_laws.Mapped.{mapped, was_mapped}
use Rattle.law_world.proofs.lemmas.streams.lemmas.put_laws.Stays.{desc_at, owner_at, descs_in, owners_in, Stays, stays_join, or_finished_stays}

-- the endpoint has no stream that it sends
pub record IsNoSender (descs : List EpDesc) (e : ℕ) : Type 0 where
  pub desc : EpDesc
  pub here : slice_get descs e ≡ Some desc
  pub none : has_stream desc.kind ≡ true → receives desc.name.way ≡ false → ⊥

pub record AddsEndpoint (d : DriverContent) (cmd : Cmd) (c : DriverContent) : Type 0 where
  pub desc : EpDesc
  pub is : cmd ≡ commands.OpenEp desc
  pub new_name : (e : ℕ) (x : EpDesc) → slice_get (descs_in d) e ≡ Some x → x.name ≢ desc.name
  pub descs : descs_in c ≡ descs_in d ++ desc ∷ []
  pub owners : owners_in c ≡ owners_in d

pub record AddsPut (d : DriverContent) (cmd : Cmd) (c : DriverContent) : Type 0 where
  pub name : EpName
  pub bytes : List ℕ
  pub by : ℕ
  pub is : cmd ≡ commands.Put name bytes by
  pub number : ℕ
  pub desc : EpDesc
  pub here : slice_get (descs_in d) number ≡ Some desc
  pub named : desc.name ≡ name
  pub descs : descs_in c ≡ descs_in d
  pub owners : owners_in c ≡ owners_in d ++ number ∷ []

pub record AddsOthers (d : DriverContent) (cmd : Cmd) (c : DriverContent) : Type 0 where
  pub no_put : (name : EpName) → put_in name cmd ≡ None
  pub no_open : open_in cmd ≡ None
  pub more : List ℕ
  pub none : AllByRecursion (IsNoSender (descs_in d)) more
  pub descs : descs_in c ≡ descs_in d
  pub owners : owners_in c ≡ owners_in d ++ more

pub data Adds (d : DriverContent) (cmd : Cmd) (c : DriverContent) : Type 0 where
  opens : AddsEndpoint d cmd c → Adds d cmd c
  puts : AddsPut d cmd c → Adds d cmd c
  others : AddsOthers d cmd c → Adds d cmd c

-- where it is accepted
abbrev pub IfAccepted : (DriverContent → Type 0) → Result Offered OfferError → Type 0
IfAccepted P (Ok o) = P o.driver
IfAccepted P (Err why) = Unit {0}

-- ---- endpoints by name

found_from : (t : Endpoint → Bool) (i : ℕ) (xs : List Endpoint) (j : ℕ) (x : Endpoint) → slice_get xs j ≡ Some x → t x ≡ true → position_from t i xs ≡ None → ⊥
found_from t i [] j x there on none = absurd (cc)
found_from t i (z ∷ zs) zero x there on none =
    let same : z ≡ x = same_Some z x there in
    some_not_none i (sym (ap (λ (b : Bool). cond b (Some i) (position_from t (i + 1) zs)) (ap t same ∙ on)) ∙ none)
found_from t i (z ∷ zs) (suc j) x there on none = by_test (t z) i (position_from t (i + 1) zs) (found_from t (i + 1) zs j x there on) none

no_position : (t : Endpoint → Bool) (xs : List Endpoint) (j : ℕ) (x : Endpoint) → slice_get xs j ≡ Some x → t x ≡ true → position t xs ≡ None → ⊥
no_position t xs j x there on none = found_from t 0 xs j x there on (sym (position_from-zero t xs) ∙ none)

found_passes : (xs : List Endpoint) (p : Endpoint → Bool) (e : ℕ) (y : Endpoint) → position p xs ≡ Some e → slice_get xs e ≡ Some y → p y ≡ true
found_passes xs p e y f here = sym (ap p (get_or_from_slice_get xs e y y here)) ∙ (position-Some p xs e y f).1

has_name : (d : DriverContent) (name : EpName) (e : ℕ) (x : Endpoint) → endpoint_of d name ≡ Some e → slice_get d.endpoints e ≡ Some x → x.desc.name ≡ name
has_name d name e x is here =
    same_name_is x.desc.name name (sym (driver_name x.desc.name name) ∙ found_passes d.endpoints (λ (z : Endpoint). is_same_name z.desc.name name) e x is here)

is_new : (d : DriverContent) (name : EpName) → endpoint_of d name ≡ None → (e : ℕ) (x : EpDesc) → slice_get (descs_in d) e ≡ Some x → x.name ≢ name
is_new d name none e x here same =
    let w = was_mapped desc_at d.endpoints e x here in
    no_position (λ (z : Endpoint). is_same_name z.desc.name name) d.endpoints e w.0 w.1
    (driver_name w.0.desc.name name ∙ ap (λ (n : EpName). is_bus_name n name) (ap (λ (z : EpDesc). z.name) w.2 ∙ same) ∙ name_is_same name) none

-- ---- a get, a put or a request

module _ (d : DriverContent) (m : Mem) (name : EpName) (takes : Endpoint → Bool) (a : Asked) (P : DriverContent → Type 0)
    (gives : (e : ℕ) (x : Endpoint) (c : DriverContent) → slice_get d.endpoints e ≡ Some x → x.desc.name ≡ name → takes x ≡ true → descs_in c ≡ descs_in d → owners_in c ≡ owners_in d ++ e ∷ [] → P c) where
  transfer_taken : (e : ℕ) (x : Endpoint) (r : Result Holding OfferError) → slice_get d.endpoints e ≡ Some x → x.desc.name ≡ name → takes x ≡ true → IfAccepted P (taken_transfer d e x a r)
  transfer_taken e x (Err why) here named on = tt
  transfer_taken e x (Ok h) here named on = gives e x _ here named on (map_set_same desc_at d.endpoints e x _ here refl) (map-append owner_at d.transfers _)

  transfer_open : (e : ℕ) (x : Endpoint) (cause : Option EndCause) → slice_get d.endpoints e ≡ Some x → x.desc.name ≡ name → takes x ≡ true → IfAccepted P (open_transfer d m e x a cause)
  transfer_open e x (Some cause) here named on = tt
  transfer_open e x None here named on =
      cond_both (nat_lt 20480 a.most) (Err errors.TooLong) (taken_transfer d e x a (take_runs (holding d.book m) _)) (IfAccepted P) (λ _. tt)
      (λ _. transfer_taken e x (take_runs (holding d.book m) _) here named on)

  transfer_found : (e : ℕ) (o : Option Endpoint) → endpoint_of d name ≡ Some e → slice_get d.endpoints e ≡ o → IfAccepted P (found_transfer d m takes a e o)
  transfer_found e None is here = tt
  transfer_found e (Some x) is here =
      cond_both (takes x) (open_transfer d m e x a x.ended) (Err errors.NoEndpoint) (IfAccepted P) (λ on. transfer_open e x x.ended here (has_name d name e x is here) on) (λ _. tt)

  transfer_named : (q : Option ℕ) → endpoint_of d name ≡ q → IfAccepted P (found_transfer d m takes a (unwrap_or q 0) (option_and_then (λ e. slice_get d.endpoints e) q))
  transfer_named None is = tt
  transfer_named (Some e) is = transfer_found e (slice_get d.endpoints e) is refl

  transfer_offered : IfAccepted P (offered_transfer d m name takes a)
  transfer_offered = transfer_named (endpoint_of d name) refl

-- ---- descriptors

descriptors_owned : (k : Book) (e : ℕ) (x : EpDesc) (s : Slots) (n seed : ℕ) (runs : List ℕ) (a : Descriptors) → map owner_at (all_descriptors k e x s n seed runs a).transfers ≡ map owner_at a.transfers ++ replicate n e
unfolding all_descriptors
descriptors_owned k e x s zero seed runs a = sym (append-nil (map owner_at a.transfers))
descriptors_owned k e x s (suc n) seed runs a =
    descriptors_owned k e x s n ((seed + total_of s) % 256) (drop (suc (slot_runs s)) runs) (one_descriptor k e x s seed runs a)
    ∙ ap (λ (os : List ℕ). os ++ replicate n e) (map-append owner_at a.transfers _)
    ∙ append_assoc (map owner_at a.transfers) (e ∷ []) (replicate n e)

no_iso_stream : (kind : EpKind) → is_iso kind ≡ true → has_stream kind ≡ true → ⊥
no_iso_stream kinds.Iso iso on = cc
no_iso_stream _ iso on = cc

module _ (d : DriverContent) (m : Mem) (name : EpName) (n len seed : ℕ) where
  abbrev it : Cmd
  it = commands.Iso name n len seed

  iso_taken : (e : ℕ) (x : Endpoint) (s : Slots) (r : Result Holding OfferError) → slice_get d.endpoints e ≡ Some x → is_iso x.desc.kind ≡ true → IfAccepted (Adds d it) (taken_iso d e x s n seed r)
  iso_taken e x s (Err why) here iso = tt
  iso_taken e x s (Ok h) here iso = others (record {
    no_put = λ to. refl;
    no_open = refl;
    more = replicate n e;
    none = all_alike (IsNoSender (descs_in d)) n e (record { desc = x.desc; here = mapped desc_at d.endpoints e x here; none = λ on out. no_iso_stream x.desc.kind iso on });
    descs = map_set_same desc_at d.endpoints e x _ here refl;
    owners = descriptors_owned h.book e x.desc s n seed (new_runs d h) _;
  })

  iso_open : (e : ℕ) (x : Endpoint) (s : Slots) (cause : Option EndCause) → slice_get d.endpoints e ≡ Some x → is_iso x.desc.kind ≡ true → IfAccepted (Adds d it) (open_iso d m e x s n seed cause)
  iso_open e x s (Some cause) here iso = tt
  iso_open e x s None here iso =
      cond_both (spans_too_long x (n + count_by (waits_for e) d.transfers) || not (has_slots x s)) (Err errors.TooLong) (taken_iso d e x s n seed (take_runs (holding d.book m) (iso_needs s n)))
      (IfAccepted (Adds d it)) (λ _. tt) (λ _. iso_taken e x s (take_runs (holding d.book m) (iso_needs s n)) here iso)

  iso_found : (e : ℕ) (o : Option Endpoint) → slice_get d.endpoints e ≡ o → IfAccepted (Adds d it) (offered_iso d m e n len seed o)
  iso_found e None here = tt
  iso_found e (Some x) here =
      cond_both (is_iso x.desc.kind) (open_iso d m e x (slots_of x len) n seed x.ended) (Err errors.NoEndpoint) (IfAccepted (Adds d it)) (λ iso. iso_open e x (slots_of x len) x.ended here iso) (λ _. tt)

  iso_named : (q : Option ℕ) → IfAccepted (Adds d it) (offered_iso d m (unwrap_or q 0) n len seed (option_and_then (λ e. slice_get d.endpoints e) q))
  iso_named None = tt
  iso_named (Some e) = iso_found e (slice_get d.endpoints e) refl

-- ---- a cancel

others_stay : (d c : DriverContent) (cmd : Cmd) → ((name : EpName) → put_in name cmd ≡ None) → open_in cmd ≡ None → Stays d c → Adds d cmd c
others_stay d c cmd no_put no_open h =
    others (record { no_put = no_put; no_open = no_open; more = []; none = tt; descs = h.descs; owners = h.owners ∙ sym (append-nil (owners_in d)) })

cancelled_stays : (d : DriverContent) (e : ℕ) (x : Endpoint) (p : Option Placement) → slice_get d.endpoints e ≡ Some x → Stays d (cancelled_by d e x p)
cancelled_stays d e x None here = record { descs = map_set_same desc_at d.endpoints e x (record x { cancelled = true; ended = first_end x.ended }) here refl; owners = refl; refusals = λ n. refl }
cancelled_stays d e x (Some p) here =
    stays_join d (with_cancel d e x (endpoint_members d e x p)) _
    (record {
      descs = map_set_same desc_at d.endpoints e x (record x { cancelled = true; ended = first_end x.ended }) here refl;
      owners =
          refl;
      refusals = λ n. refl;
    })
    (or_finished_stays (with_cancel d e x (endpoint_members d e x p)) (unfinished.Unchain e))

cancel_found : (d : DriverContent) (m : Mem) (name : EpName) (e : ℕ) (o : Option Endpoint) → slice_get d.endpoints e ≡ o → IfAccepted (Adds d (commands.Cancel name)) (offered_cancel d m e o)
cancel_found d m name e None here = tt
cancel_found d m name e (Some x) here =
    cond_both x.cancelled (Err (errors.Closed causes.Cancel)) (Ok (record { driver = cancelled_by d e x x.placement; memory = m })) (IfAccepted (Adds d (commands.Cancel name))) (λ _. tt)
    (λ _. others_stay d (cancelled_by d e x x.placement) (commands.Cancel name) (λ to. refl) refl (cancelled_stays d e x x.placement here))

cancel_named : (d : DriverContent) (m : Mem) (name : EpName) (q : Option ℕ) → IfAccepted (Adds d (commands.Cancel name)) (offered_cancel d m (unwrap_or q 0) (option_and_then (λ e. slice_get d.endpoints e) q))
cancel_named d m name None = tt
cancel_named d m name (Some e) = cancel_found d m name e (slice_get d.endpoints e) refl

-- ---- an open

module _ (d : DriverContent) (m : Mem) (x : EpDesc) (none : endpoint_of d x.name ≡ None) where
  abbrev IfOpened : Result Offered OfferError → Type 0
  IfOpened r = IfAccepted (Adds d (commands.OpenEp x)) r

  endpoint_added : (c : DriverContent) (y : Endpoint) → y.desc ≡ x → c.endpoints ≡ d.endpoints ++ y ∷ [] → c.transfers ≡ d.transfers → Adds d (commands.OpenEp x) c
  endpoint_added c y same endpoints transfers = opens (record {
    desc = x;
    is = refl;
    new_name = is_new d x.name none;
    descs = ap (map desc_at) endpoints ∙ map-append desc_at d.endpoints (y ∷ []) ∙ ap (λ (z : EpDesc). descs_in d ++ z ∷ []) same;
    owners = ap (map owner_at) transfers;
  })

  open_taken : (r : Result Holding OfferError) → IfOpened (taken_open d x r)
  open_taken (Err why) = tt
  open_taken (Ok h) = endpoint_added _ _ refl refl refl

  chain_taken : (p : Placement) (r : Result Holding OfferError) → IfOpened (taken_chain d x p r)
  chain_taken p (Err why) = tt
  chain_taken p (Ok h) = endpoint_added _ _ refl refl refl

  placed_taken : (p : Placement) (kind : EpKind) → IfOpened (placed_open d m x p kind)
  placed_taken p kinds.Iso = endpoint_added _ _ refl refl refl
  placed_taken p _ = chain_taken p (take_runs (holding d.book m) (2 ∷ 1 ∷ []))

  planned_taken : (p : Result Placement Refused) → IfOpened (planned_open d m x p)
  planned_taken (Err why) = tt
  planned_taken (Ok p) = placed_taken p x.kind

  new_taken : IfOpened (new_open d m x)
  new_taken =
      cond_both (is_periodic x.kind) (planned_open d m x (answer d.periodic.plan (want_of (length d.endpoints) x))) (taken_open d x (take_runs (holding d.book m) (2 ∷ 1 ∷ []))) IfOpened
      (λ _. planned_taken (answer d.periodic.plan (want_of (length d.endpoints) x))) (λ _. open_taken (take_runs (holding d.book m) (2 ∷ 1 ∷ [])))

old_taken : (P : DriverContent → Type 0) (cause : Option EndCause) → IfAccepted P (elim cause [ Some c ↦ Err (errors.Closed c) | None ↦ Err errors.AlreadyOpen ])
old_taken P (Some c) = tt
old_taken P None = tt

open_offered : (d : DriverContent) (m : Mem) (x : EpDesc) (q : Option ℕ) (o : Option Endpoint) → endpoint_of d x.name ≡ q → option_and_then (λ e. slice_get d.endpoints e) q ≡ o
    → IfAccepted (Adds d (commands.OpenEp x)) (offered_open d m x o)
open_offered d m x q (Some old) is at = old_taken (Adds d (commands.OpenEp x)) old.ended
open_offered d m x None None is at = new_taken d m x is
open_offered d m x (Some e) None is at =
    let y = found_there d.endpoints (λ (z : Endpoint). is_same_name z.desc.name x.name) e is in
    let w : Some y.0 ≡ None = sym y.1 ∙ at in
    absurd (cc)

-- ---- any command

no_control_stream : (kind : EpKind) → is_control kind ≡ true → has_stream kind ≡ true → ⊥
no_control_stream kinds.Control control on = cc
no_control_stream _ control on = cc

no_in_out : (way : Way) → is_same_way way ways.In ≡ true → receives way ≡ false → ⊥
no_in_out way is out = let e : true ≡ false = sym (ap receives (same_in way is)) ∙ out in cc

one_other : (d : DriverContent) (cmd : Cmd) (e : ℕ) (x : Endpoint) (c : DriverContent) → ((name : EpName) → put_in name cmd ≡ None) → open_in cmd ≡ None → slice_get d.endpoints e ≡ Some x
    → (has_stream x.desc.kind ≡ true → receives x.desc.name.way ≡ false → ⊥) → descs_in c ≡ descs_in d → owners_in c ≡ owners_in d ++ e ∷ [] → Adds d cmd c
one_other d cmd e x c no_put no_open here none descs owners =
    others (record { no_put = no_put; no_open = no_open; more = e ∷ []; none = (record { desc = x.desc; here = mapped desc_at d.endpoints e x here; none = none }, tt); descs = descs; owners = owners })

next_adds : (d : DriverContent) (m : Mem) (cmd : Cmd) → IfAccepted (Adds d cmd) (offered_next d m cmd)
next_adds d m (commands.OpenEp x) = open_offered d m x (endpoint_of d x.name) (endpoint_named d x.name) refl refl
next_adds d m (commands.Get name len by) =
    transfer_offered d m name takes_get (get_asked len by) (Adds d (commands.Get name len by))
    (λ e x c here named takes descs owners.
    one_other d (commands.Get name len by) e x c (λ to. refl) refl here (λ on out. no_in_out x.desc.name.way (and_parts (is_queued x.desc.kind) (is_same_way x.desc.name.way ways.In) takes).1 out) descs owners)
next_adds d m (commands.Put name bytes by) =
    transfer_offered d m name takes_put (put_asked bytes by) (Adds d (commands.Put name bytes by))
    (λ e x c here named takes descs owners.
    puts (record { name = name; bytes = bytes; by = by; is = refl; number = e; desc = x.desc; here = mapped desc_at d.endpoints e x here; named = named; descs = descs; owners = owners }))
next_adds d m (commands.Control name setup bytes) =
    transfer_offered d m name takes_control (request_asked setup bytes) (Adds d (commands.Control name setup bytes))
    (λ e x c here named takes descs owners.
    one_other d (commands.Control name setup bytes) e x c (λ to. refl) refl here (λ on out. no_control_stream x.desc.kind takes on) descs owners)
next_adds d m (commands.Iso name count len seed) = iso_named d m name count len seed (endpoint_of d name)
next_adds d m (commands.Cancel name) = cancel_named d m name (endpoint_of d name)
next_adds d m _ = tt

pub command_adds : (d : DriverContent) (m : Mem) (cmd : Cmd) → IfAccepted (Adds d cmd) (offered d m cmd)
command_adds d m cmd = cond_both (busy d) (Err errors.Busy) (offered_next d m cmd) (IfAccepted (Adds d cmd)) (λ _. tt) (λ _. next_adds d m cmd)
