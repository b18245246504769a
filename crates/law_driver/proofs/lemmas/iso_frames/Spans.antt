-- Descriptors are accepted where those of the endpoint that wait span no more than the list with them.
use Rattle.std.proofs.Common.{◌≡◌, ℕ, ◌+◌, ◌*◌, ◌≤◌, Bool, true, false, cond, List, [], ◌∷◌, ◌++◌, length, slice_get, Option, Some, None, Result, Ok, Err, refl, ap, sym, subst, ◌∙◌}
use Rattle.std.specs.Prelude.{IfOk, unwrap_or, nat_lt, not, ◌||◌, count_by, is_none, is_some, if◌then◌else◌}
use Rattle.std.proofs.lemmas.Result.{IfOk-at_ok}
use Rattle.std.proofs.lemmas.Bool.{false≢true}
use Rattle.law_common.proofs.Booleans.{or_both}
use Rattle.law_admission.proofs.Common.{refused_again}
use Rattle.law_driver.proofs.Common.{there_by}
use Rattle.law_common.proofs.Numbers.{not_less}
use Rattle.usb_base.specs.declared.packets.EpKind.{EpKind}
use Rattle.usb_base.specs.declared.packets.EpKind.TheVariants as kinds
use Rattle.usb_base.specs.declared.endpoints.EpName.{EpName}
use Rattle.usb_base.specs.declared.endpoints.EpDesc.{EpDesc}
use Rattle.usb_base.specs.declared.endpoints.EndCause.{EndCause}
use Rattle.usb_base.specs.declared.endpoints.EndCause.TheVariants as causes
use Rattle.usb_base.specs.declared.commands.Cmd.{Cmd}
use Rattle.usb_base.specs.declared.commands.Cmd.TheVariants as commands
use Rattle.usb_base.specs.declared.reports.OfferError.{OfferError}
use Rattle.usb_base.specs.declared.reports.OfferError.TheVariants as errors
use Rattle.word_mem.specs.Memory.{Mem}
use Rattle.mem_runs.specs.Book.{Holding, holding}
use Rattle.bandwidth.specs.declared.placements.Placement.{Placement}
use Rattle.bandwidth.specs.declared.placements.Refused.{Refused}
use Rattle.bandwidth.specs.Admission.{answer}
use Rattle.law_admission.proofs.Events.{either}
use Rattle.drv_chains.specs.declared.members.Member.{Member}
use Rattle.drv_periodic_table.specs.Periodic.{is_periodic, want_of}
use Rattle.drv_table.specs.declared.content.Endpoint.{Endpoint}
use Rattle.drv_table.specs.declared.content.Slots.{Slots}
use Rattle.drv_table.specs.declared.content.Command.{Command}
use Rattle.drv_table.specs.declared.content.Command.TheVariants as unfinished
use Rattle.drv_table.specs.declared.content.Sort.TheVariants as sorts
use Rattle.drv_table.specs.DriverContent.{DriverContent, busy, endpoint_of, endpoint_named, waits_for}
use Rattle.drv_table.specs.Words.{needs, get_stages, put_stages, request_stages, request_length}
use Rattle.drv_table.specs.Kinds.{is_iso}
use Rattle.drv_table.specs.Commands.{no_command, leave_frames, finished}
use Rattle.drv_table.specs.Accepting.{Offered, take_runs}
use Rattle.drv_table.specs.Offers.{Asked, taken_open, taken_chain, placed_open, planned_open, offered_open, taken_transfer, open_transfer, found_transfer, takes_get, takes_put, takes_control, offered_next, offered}
use Rattle.drv_table.specs.IsoOffers.{slots_of, iso_needs, taken_iso, open_iso, offered_iso, spans_too_long, has_slots}
use Rattle.drv_table.specs.CancelOffers.{with_cancel, cancelled_by, endpoint_members, offered_cancel}

pub record IsSpanned (d : DriverContent) (e n : ℕ) : Type 0 where
  pub endpoint : Endpoint
  pub here : slice_get d.endpoints e ≡ Some endpoint
  pub few : n + count_by (waits_for e) d.transfers ≤ 8
  pub short : (n + count_by (waits_for e) d.transfers) * endpoint.desc.period ≤ 8192

-- where descriptors are to be linked, they are so
abbrev Spans : DriverContent → Offered → Type 0
Spans d o = (e t n : ℕ) → o.driver.command ≡ Some (unfinished.Iso e t n) → IsSpanned d e n

or_else : (P : Offered → Type 0) (b : Bool) (x y : Result Offered OfferError) → IfOk x P → (b ≡ false → IfOk y P) → IfOk (if b then x else y) P
or_else P true x y one two = one
or_else P false x y one two = two refl

abbrev Stands : DriverContent → ℕ → Option Endpoint → Type 0
Stands d e q = (x : Endpoint) → q ≡ Some x → slice_get d.endpoints e ≡ Some x

named : (d : DriverContent) (name : EpName) → Stands d (unwrap_or (endpoint_of d name) 0) (endpoint_named d name)
named d name x e = there_by d.endpoints (endpoint_of d name) x e

-- ---- transfers

transfer_taken : (d : DriverContent) (e : ℕ) (x : Endpoint) (a : Asked) (r : Result Holding OfferError) → IfOk (taken_transfer d e x a r) (Spans d)
transfer_taken d e x a (Err why) = tt
transfer_taken d e x a (Ok h) = λ i t n is. absurd (cc)

transfer_opened : (d : DriverContent) (m : Mem) (e : ℕ) (x : Endpoint) (a : Asked) (c : Option EndCause) → IfOk (open_transfer d m e x a c) (Spans d)
transfer_opened d m e x a (Some cause) = tt
transfer_opened d m e x a None =
    or_else (Spans d) (nat_lt 20480 a.most) (Err errors.TooLong) (taken_transfer d e x a (take_runs (holding d.book m) (needs a.stages))) tt (λ _. transfer_taken d e x a (take_runs (holding d.book m) (needs a.stages)))

transfer_found : (d : DriverContent) (m : Mem) (takes : Endpoint → Bool) (a : Asked) (e : ℕ) (q : Option Endpoint) → IfOk (found_transfer d m takes a e q) (Spans d)
transfer_found d m takes a e None = tt
transfer_found d m takes a e (Some x) = or_else (Spans d) (takes x) (open_transfer d m e x a x.ended) (Err errors.NoEndpoint) (transfer_opened d m e x a x.ended) (λ _. tt)

-- ---- iso

number_in : Option Command → ℕ
number_in (Some (unfinished.Iso e t n)) = e
number_in _ = 0

count_in : Option Command → ℕ
count_in (Some (unfinished.Iso e t n)) = n
count_in _ = 0

iso_taken : (d : DriverContent) (e : ℕ) (x : Endpoint) (s : Slots) (n seed : ℕ) (r : Result Holding OfferError) → slice_get d.endpoints e ≡ Some x → n + count_by (waits_for e) d.transfers ≤ 8 → (n + count_by (waits_for e) d.transfers) * x.desc.period ≤ 8192
    → IfOk (taken_iso d e x s n seed r) (Spans d)
unfolding number_in count_in
iso_taken d e x s n seed (Err why) here few short = tt
iso_taken d e x s n seed (Ok h) here few short = λ i t k is.
    let number : e ≡ i = ap number_in is in
    let count : n ≡ k = ap count_in is in
    subst (λ j. IsSpanned d j k) number (subst (λ j. IsSpanned d e j) count (record { endpoint = x; here = here; few = few; short = short }))

iso_opened : (d : DriverContent) (m : Mem) (e : ℕ) (x : Endpoint) (s : Slots) (n seed : ℕ) (c : Option EndCause) → slice_get d.endpoints e ≡ Some x → IfOk (open_iso d m e x s n seed c) (Spans d)
iso_opened d m e x s n seed (Some cause) here = tt
iso_opened d m e x s n seed None here =
    or_else (Spans d) (spans_too_long x (n + count_by (waits_for e) d.transfers) || not (has_slots x s)) (Err errors.TooLong)
    (taken_iso d e x s n seed (take_runs (holding d.book m) (iso_needs s n))) tt
    (λ off.
    let w = n + count_by (waits_for e) d.transfers in
    let b = or_both (nat_lt 8 w) (nat_lt 8192 (w * x.desc.period)) (or_both (spans_too_long x w) (not (has_slots x s)) off).0 in
    iso_taken d e x s n seed (take_runs (holding d.book m) (iso_needs s n)) here (not_less 8 w b.0) (not_less 8192 (w * x.desc.period) b.1))

iso_found : (d : DriverContent) (m : Mem) (e n len seed : ℕ) (q : Option Endpoint) → Stands d e q → IfOk (offered_iso d m e n len seed q) (Spans d)
iso_found d m e n len seed None here = tt
iso_found d m e n len seed (Some x) here =
    or_else (Spans d) (is_iso x.desc.kind) (open_iso d m e x (slots_of x len) n seed x.ended) (Err errors.NoEndpoint) (iso_opened d m e x (slots_of x len) n seed x.ended (here x refl)) (λ _. tt)

-- ---- a cancel

none_links : (d : DriverContent) (e i t n : ℕ) (o : Option Endpoint) → d.command ≡ None → (leave_frames d e o).command ≡ Some (unfinished.Iso i t n) → ⊥
none_links d e i t n None idle is = let bad : None ≡ Some (unfinished.Iso i t n) = sym idle ∙ is in cc
none_links d e i t n (Some x) idle is = let bad : None ≡ Some (unfinished.Iso i t n) = sym (either (λ (f : DriverContent). f.command) x.chained _ d None idle idle) ∙ is in cc

unchained : (d : DriverContent) (e i t n : ℕ) (b : Bool) → d.command ≡ Some (unfinished.Unchain e) → (cond b (finished d (unfinished.Unchain e)) d).command ≡ Some (unfinished.Iso i t n) → ⊥
unchained d e i t n true own is = none_links (no_command d) e i t n (slice_get d.endpoints e) refl is
unchained d e i t n false own is = let bad : Some (unfinished.Unchain e) ≡ Some (unfinished.Iso i t n) = sym own ∙ is in cc

begun_command : (d : DriverContent) (e : ℕ) (x : Endpoint) (ms : List Member) → (with_cancel d e x ms).command ≡ Some (unfinished.Unchain e)
begun_command d e x ms = refl

cancelled : (d : DriverContent) (m : Mem) (e : ℕ) (x : Endpoint) (o : Option Placement) → Spans d (record { driver = cancelled_by d e x o; memory = m })
cancelled d m e x None = λ i t n is. absurd (cc)
cancelled d m e x (Some p) = λ i t n is.
    absurd (unchained (with_cancel d e x (endpoint_members d e x p)) e i t n (is_none (with_cancel d e x (endpoint_members d e x p)).periodic.list.work) (begun_command d e x (endpoint_members d e x p)) is)

cancel_found : (d : DriverContent) (m : Mem) (e : ℕ) (q : Option Endpoint) → IfOk (offered_cancel d m e q) (Spans d)
cancel_found d m e None = tt
cancel_found d m e (Some x) =
    or_else (Spans d) x.cancelled (Err (errors.Closed causes.Cancel)) (Ok (record { driver = cancelled_by d e x x.placement; memory = m })) tt (λ _. cancelled d m e x x.placement)

-- ---- an open

open_taken : (d : DriverContent) (x : EpDesc) (r : Result Holding OfferError) → IfOk (taken_open d x r) (Spans d)
open_taken d x (Err why) = tt
open_taken d x (Ok h) = λ i t n is. absurd (cc)

chain_taken : (d : DriverContent) (m : Mem) (x : EpDesc) (p : Placement) (r : Result Holding OfferError) → IfOk (taken_chain d x p r) (Spans d)
chain_taken d m x p (Err why) = tt
chain_taken d m x p (Ok h) = λ i t n is. absurd (cc)

place_open : (d : DriverContent) (m : Mem) (x : EpDesc) (p : Placement) (k : EpKind) → d.command ≡ None → IfOk (placed_open d m x p k) (Spans d)
place_open d m x p kinds.Iso idle = λ i t n is. (let bad : None ≡ Some (unfinished.Iso i t n) = sym idle ∙ is in absurd (cc))
place_open d m x p _ idle = chain_taken d m x p (take_runs (holding d.book m) (2 ∷ 1 ∷ []))

plan_open : (d : DriverContent) (m : Mem) (x : EpDesc) (r : Result Placement Refused) → d.command ≡ None → IfOk (planned_open d m x r) (Spans d)
plan_open d m x (Err why) idle = tt
plan_open d m x (Ok p) idle = place_open d m x p x.kind idle

open_found : (d : DriverContent) (m : Mem) (x : EpDesc) (q : Option Endpoint) → d.command ≡ None → IfOk (offered_open d m x q) (Spans d)
open_found d m x (Some old) idle = refused_again (Spans d) old.ended
open_found d m x None idle =
    or_else (Spans d) (is_periodic x.kind) (planned_open d m x (answer d.periodic.plan (want_of (length d.endpoints) x))) (taken_open d x (take_runs (holding d.book m) (2 ∷ 1 ∷ [])))
    (plan_open d m x (answer d.periodic.plan (want_of (length d.endpoints) x)) idle) (λ _. open_taken d x (take_runs (holding d.book m) (2 ∷ 1 ∷ [])))

-- ---- any command

next_offered : (d : DriverContent) (m : Mem) (cmd : Cmd) → d.command ≡ None → IfOk (offered_next d m cmd) (Spans d)
next_offered d m (commands.OpenEp x) idle = open_found d m x (endpoint_named d x.name) idle
next_offered d m (commands.Get name len by) idle =
    transfer_found d m takes_get (record { sort = sorts.Get; stages = get_stages len by; most = len; bytes = [] }) (unwrap_or (endpoint_of d name) 0) (endpoint_named d name)
next_offered d m (commands.Put name bytes by) idle =
    transfer_found d m takes_put (record { sort = sorts.Put; stages = put_stages (length bytes) by; most = length bytes; bytes = bytes }) (unwrap_or (endpoint_of d name) 0) (endpoint_named d name)
next_offered d m (commands.Control name setup bytes) idle =
    transfer_found d m takes_control (record { sort = sorts.Request; stages = request_stages setup; most = request_length setup; bytes = setup ++ bytes }) (unwrap_or (endpoint_of d name) 0) (endpoint_named d name)
next_offered d m (commands.Iso name count len seed) idle = iso_found d m (unwrap_or (endpoint_of d name) 0) count len seed (endpoint_named d name) (named d name)
next_offered d m (commands.Cancel name) idle = cancel_found d m (unwrap_or (endpoint_of d name) 0) (endpoint_named d name)
next_offered d m _ idle = tt

idle_by : (c : Option Command) → is_some c ≡ false → c ≡ None
idle_by None e = refl
idle_by (Some c) e = absurd (false≢true (sym e))

command_spans : (d : DriverContent) (m : Mem) (cmd : Cmd) → IfOk (offered d m cmd) (Spans d)
command_spans d m cmd = or_else (Spans d) (busy d) (Err errors.Busy) (offered_next d m cmd) tt (λ off. next_offered d m cmd (idle_by d.command off))

pub spans : (d : DriverContent) (m : Mem) (cmd : Cmd) (o : Offered) → offered d m cmd ≡ Ok o → (e t n : ℕ) → o.driver.command ≡ Some (unfinished.Iso e t n) → IsSpanned d e n
spans d m cmd o is = IfOk-at_ok (Spans d) is (command_spans d m cmd)
