-- Descriptors that are taken on have the slots of their endpoint, which fit the fields of a descriptor; so they are written, and await their lend.
use Rattle.std.proofs.Common.{◌≡◌, ℕ, ◌+◌, ◌*◌, ◌<◌, ◌≤◌, Bool, true, false, not, ◌&&◌, ◌||◌, cond, List, [], ◌∷◌, ◌++◌, length, slice_get, Option, Some, None, Result, Ok, Err, ap, refl, sym, subst, ◌∙◌, arith}
use Rattle.std.specs.Prelude.{IfOk, is_none, is_some, nat_le, nat_lt, option_and_then, unwrap_or, count_by, slice_index}
use Rattle.std.proofs.lemmas.Bool.{false≢true, leb-true}
use Rattle.std.proofs.lemmas.Nat.{mul-le}
use Rattle.std.proofs.lemmas.Option.{same_Some}
use Rattle.std.proofs.lemmas.Result.{IfOk-at_ok}
use Rattle.law_admission.proofs.Common.{or_else, refused_again}
use Rattle.law_world.proofs.Common.{none_some}
use Rattle.law_descriptors.proofs.Common.{same_endpoint, same_first}
use Rattle.law_common.proofs.Lists.{set_here, nth_all}
use Rattle.usb_base.specs.declared.endpoints.EpDesc.{EpDesc}
use Rattle.usb_base.specs.declared.endpoints.EndCause.{EndCause}
use Rattle.usb_base.specs.declared.endpoints.EndCause.TheVariants as causes
use Rattle.usb_base.specs.declared.packets.EpKind.{EpKind}
use Rattle.usb_base.specs.declared.packets.EpKind.TheVariants as kinds
use Rattle.usb_base.specs.declared.commands.Cmd.{Cmd}
use Rattle.usb_base.specs.declared.commands.Cmd.TheVariants as commands
use Rattle.usb_base.specs.declared.reports.OfferError.{OfferError}
use Rattle.usb_base.specs.declared.reports.OfferError.TheVariants as errors
use Rattle.word_mem.specs.Memory.{Mem}
use Rattle.mem_runs.specs.Book.{Holding, holding}
use Rattle.bandwidth.specs.declared.placements.Placement.{Placement}
use Rattle.bandwidth.specs.declared.placements.Placed.{Placed}
use Rattle.bandwidth.specs.declared.placements.Refused.{Refused}
use Rattle.bandwidth.specs.Admission.{answer}
use Rattle.drv_chains.specs.declared.members.Member.{Member}
use Rattle.drv_periodic_table.specs.Periodic.{is_periodic, want_of}
use Rattle.drv_periodic_table.specs.Descriptors.{slots_in, slot_limit}
use Rattle.drv_table.specs.declared.content.Endpoint.{Endpoint}
use Rattle.drv_table.specs.declared.content.Command.{Command}
use Rattle.drv_table.specs.declared.content.Command.TheVariants as unfinished
use Rattle.drv_table.specs.declared.content.Slots.{Slots}
use Rattle.drv_table.specs.declared.content.Sort.TheVariants as sorts
use Rattle.drv_table.specs.DriverContent.{DriverContent, endpoint_of, endpoint_named, waits_for}
use Rattle.drv_table.specs.Words.{needs, get_stages, put_stages, request_stages, request_length}
use Rattle.drv_table.specs.Kinds.{is_iso}
use Rattle.drv_table.specs.Commands.{no_command, leave_frames}
use Rattle.drv_table.specs.Accepting.{Offered, take_runs, new_runs, first_waiting}
use Rattle.drv_table.specs.Offers.{Asked, accepted_open, accepted_chain, accepted_iso, taken_open, taken_chain, placed_open, planned_open, offered_open, taken_transfer, open_transfer, found_transfer, takes_get, takes_put, takes_control, offered_next, offered}
use Rattle.drv_table.specs.IsoOffers.{total_of, smask_of, cmask_of, slots_of, iso_needs, taken_iso, spans_too_long, has_slots, open_iso, offered_iso}
use Rattle.drv_table.specs.CancelOffers.{with_cancel, accepted_unchain, cancelled_by, endpoint_members, offered_cancel}
use Rattle.law_driver.specs.run_owners.Accepts.{Describes}
use Rattle.claims_driver.specs.Leaving.{HasOwners}
use Rattle.law_driver.specs.planned_endpoints.Planned.{IsPlanned}
use Rattle.claims_driver.specs.DueMembers.{IsPlannedAt}
use Rattle.law_driver.proofs.lemmas.planned_endpoints.Laws.{endpoints_count_until_given_back}
use Rattle.law_frame_list.proofs.lemmas.list_driver.Coming.{frames_none}
use Rattle.law_descriptors.specs.Written.{HasFields}
use Rattle.law_descriptors.specs.LendLaws.{HasSlots}
use Rattle.law_descriptors.proofs.Fields.{slots_few}
use Rattle.law_descriptors.proofs.Accepted.{accepted_await_lend}
use Rattle.law_world.specs.memory.framed_memory.Masks.{HasMasks, AreMasked}
use Rattle.law_world.specs.memory.framed_memory.Isochronous.{NumbersFit, AwaitsLend}
use Rattle.law_world.specs.memory.framed_memory.IsochronousLaws.{CommandsKeepAwaiting}

-- ---- a command that leaves descriptors to lend

-- they have the slots of their endpoint
record IsTakenOn (d : DriverContent) (m : Mem) (o : Offered) : Type 0 where
  why : Describes d m o
  len : ℕ
  slots : why.slots ≡ slots_of why.endpoint len
  fit : has_slots why.endpoint (slots_of why.endpoint len) ≡ true

abbrev TakesOn : DriverContent → Mem → Offered → Type 0
TakesOn d m o = (e t count : ℕ) → o.driver.command ≡ Some (unfinished.Iso e t count) → IsTakenOn d m o

other : (d : DriverContent) (m : Mem) (o : Offered) (c : Command) → o.driver.command ≡ Some c → ((e t count : ℕ) → c ≡ unfinished.Iso e t count → ⊥) → TakesOn d m o
other d m o c is not e t count now = absurd (not e t count (same_Some c (unfinished.Iso e t count) (sym is ∙ now)))

none : (d : DriverContent) (m : Mem) (o : Offered) → o.driver.command ≡ None → TakesOn d m o
none d m o is e t count now = absurd (none_some (unfinished.Iso e t count) (sym is ∙ now))

-- ---- an open

ring_takes : (d : DriverContent) (m : Mem) (x : EpDesc) (r : Result Holding OfferError) → IfOk (taken_open d x r) (TakesOn d m)
ring_takes d m x (Err why) = tt
ring_takes d m x (Ok h) =
    other d m (accepted_open d x h (slice_index (new_runs d h) 0) (slice_index (new_runs d h) 1)) (unfinished.Open (slice_index (new_runs d h) 0)) refl (λ e t count is. cc)

chain_takes : (d : DriverContent) (m : Mem) (x : EpDesc) (p : Placement) (r : Result Holding OfferError) → IfOk (taken_chain d x p r) (TakesOn d m)
chain_takes d m x p (Err why) = tt
chain_takes d m x p (Ok h) = other d m (accepted_chain d x p h (slice_index (new_runs d h) 0) (slice_index (new_runs d h) 1)) unfinished.Chain refl (λ e t count is. cc)

placed_takes : (d : DriverContent) (m : Mem) (x : EpDesc) (p : Placement) (k : EpKind) → d.command ≡ None → IfOk (placed_open d m x p k) (TakesOn d m)
placed_takes d m x p kinds.Iso idle = none d m (record { driver = accepted_iso d x p; memory = m }) idle
placed_takes d m x p _ idle = chain_takes d m x p (take_runs (holding d.book m) (2 ∷ 1 ∷ []))

planned_takes : (d : DriverContent) (m : Mem) (x : EpDesc) (r : Result Placement Refused) → d.command ≡ None → IfOk (planned_open d m x r) (TakesOn d m)
planned_takes d m x (Err why) idle = tt
planned_takes d m x (Ok p) idle = placed_takes d m x p x.kind idle

open_takes : (d : DriverContent) (m : Mem) (x : EpDesc) (q : Option Endpoint) → d.command ≡ None → IfOk (offered_open d m x q) (TakesOn d m)
open_takes d m x (Some old) idle = refused_again (TakesOn d m) old.ended
open_takes d m x None idle =
    or_else (TakesOn d m) (is_periodic x.kind) (planned_open d m x (answer d.periodic.plan (want_of (length d.endpoints) x))) (taken_open d x (take_runs (holding d.book m) (2 ∷ 1 ∷ [])))
    (planned_takes d m x (answer d.periodic.plan (want_of (length d.endpoints) x)) idle) (ring_takes d m x (take_runs (holding d.book m) (2 ∷ 1 ∷ [])))

-- ---- a transfer

transfer_takes : (d : DriverContent) (m : Mem) (e : ℕ) (x : Endpoint) (a : Asked) (r : Result Holding OfferError) → IfOk (taken_transfer d e x a r) (TakesOn d m)
transfer_takes d m e x a (Err why) = tt
transfer_takes d m e x a (Ok h) = other d m _ _ refl (λ f t count is. cc)

opened_takes : (d : DriverContent) (m : Mem) (e : ℕ) (x : Endpoint) (a : Asked) (c : Option EndCause) → IfOk (open_transfer d m e x a c) (TakesOn d m)
opened_takes d m e x a (Some cause) = tt
opened_takes d m e x a None =
    or_else (TakesOn d m) (nat_lt 20480 a.most) (Err errors.TooLong) (taken_transfer d e x a (take_runs (holding d.book m) (needs a.stages)))
    tt (transfer_takes d m e x a (take_runs (holding d.book m) (needs a.stages)))

found_takes : (d : DriverContent) (m : Mem) (takes : Endpoint → Bool) (a : Asked) (e : ℕ) (q : Option Endpoint) → IfOk (found_transfer d m takes a e q) (TakesOn d m)
found_takes d m takes a e None = tt
found_takes d m takes a e (Some x) = or_else (TakesOn d m) (takes x) (open_transfer d m e x a x.ended) (Err errors.NoEndpoint) (opened_takes d m e x a x.ended) tt

-- ---- a cancel

unchain_takes : (d : DriverContent) (m : Mem) (e : ℕ) (x : Endpoint) (ms : List Member) → TakesOn d m (record { driver = accepted_unchain d e x ms; memory = m })
unchain_takes d m e x ms = by (is_none f.periodic.list.work)
  where
    f : DriverContent
    f = with_cancel d e x ms

    g : DriverContent
    g = leave_frames (no_command f) e (slice_get f.endpoints e)

    by : (b : Bool) → TakesOn d m (record { driver = cond b g f; memory = m })
    by true = none d m (record { driver = g; memory = m }) (frames_none f e (slice_get f.endpoints e))
    by false = other d m (record { driver = f; memory = m }) (unfinished.Unchain e) refl (λ i t count is. cc)

leave_takes : (d : DriverContent) (m : Mem) (e : ℕ) (x : Endpoint) (o : Option Placement) → TakesOn d m (record { driver = cancelled_by d e x o; memory = m })
leave_takes d m e x None = other d m (record { driver = cancelled_by d e x None; memory = m }) _ refl (λ i t count is. cc)
leave_takes d m e x (Some p) = unchain_takes d m e x (endpoint_members d e x p)

cancel_takes : (d : DriverContent) (m : Mem) (e : ℕ) (q : Option Endpoint) → IfOk (offered_cancel d m e q) (TakesOn d m)
cancel_takes d m e None = tt
cancel_takes d m e (Some x) =
    or_else (TakesOn d m) x.cancelled (Err (errors.Closed causes.Cancel)) (Ok (record { driver = cancelled_by d e x x.placement; memory = m })) tt (leave_takes d m e x x.placement)

-- ---- descriptors

record HasFit (x : Endpoint) (s : Slots) : Type 0 where
  few : s.slot ≤ slot_limit s.split
  max : x.desc.max ≤ 1024
  multi_least : 1 ≤ x.desc.multi
  multi_most : x.desc.multi ≤ 3
  port : x.desc.port ≤ 127

all_five : (a b c d f : Bool) → a && b && c && d && f ≡ true → (a ≡ true) × (b ≡ true) × (c ≡ true) × (d ≡ true) × (f ≡ true)
all_five true true true true true is = (refl, refl, refl, refl, refl)
all_five true true true true false is = absurd (false≢true is)
all_five true true true false f is = absurd (false≢true is)
all_five true true false d f is = absurd (false≢true is)
all_five true false c d f is = absurd (false≢true is)
all_five false b c d f is = absurd (false≢true is)

slots_fit : (x : Endpoint) (s : Slots) → has_slots x s ≡ true → HasFit x s
slots_fit x s on =
    let all = all_five (nat_le s.slot (slot_limit s.split)) (nat_le x.desc.max 1024) (nat_le 1 x.desc.multi) (nat_le x.desc.multi 3) (nat_le x.desc.port 127) on in
    record {
      few = leb-true s.slot (slot_limit s.split) all.0;
      max = leb-true x.desc.max 1024 all.1;
      multi_least = leb-true 1 x.desc.multi all.2;
      multi_most = leb-true x.desc.multi 3 all.3;
      port = leb-true x.desc.port 127 all.4;
    }

short : (s : Slots) → s.slot ≤ slot_limit s.split → total_of s ≤ 24576
short s few = at s.split few
  where
    at : (split : Bool) → s.slot ≤ slot_limit split → cond split s.slot (slots_in s.smask * s.slot) ≤ 24576
    at true few = omega (arith, few)
    at false few = mul-le (slots_in s.smask) s.slot 8 3072 (slots_few s.smask) few

module _ (d : DriverContent) (m : Mem) (e : ℕ) (x : Endpoint) (len n seed : ℕ) (idle : d.command ≡ None) (here : slice_get d.endpoints e ≡ Some x) where
  abbrev s : Slots
  s = slots_of x len

  iso_taken : (r : Result Holding OfferError) → x.ended ≡ None → is_iso x.desc.kind ≡ true → has_slots x s ≡ true → take_runs (holding d.book m) (iso_needs s n) ≡ r
      → IfOk (taken_iso d e x s n seed r) (TakesOn d m)
  iso_taken (Err why) ended iso fit is = tt
  iso_taken (Ok h) ended iso fit is = λ f t count now. record {
    why = record {
      number = e;
      endpoint = x;
      slots = s;
      count = n;
      seed = seed;
      holding_after = h;
      idle = idle;
      here = here;
      goes_on = ended;
      isochronous = iso;
      short = short s (slots_fit x s fit).few;
      runs = is;
      is = refl;
    };
    len = len;
    slots = refl;
    fit = fit;
  }

  iso_long : (a b : Bool) → x.ended ≡ None → is_iso x.desc.kind ≡ true → has_slots x s ≡ b
      → IfOk (cond (a || not b) (Err errors.TooLong) (taken_iso d e x s n seed (take_runs (holding d.book m) (iso_needs s n)))) (TakesOn d m)
  iso_long true b ended iso fit = tt
  iso_long false false ended iso fit = tt
  iso_long false true ended iso fit = iso_taken (take_runs (holding d.book m) (iso_needs s n)) ended iso fit refl

  iso_ended : (c : Option EndCause) → x.ended ≡ c → is_iso x.desc.kind ≡ true → IfOk (open_iso d m e x s n seed c) (TakesOn d m)
  iso_ended (Some cause) ended iso = tt
  iso_ended None ended iso = iso_long (spans_too_long x (n + count_by (waits_for e) d.transfers)) (has_slots x s) ended iso refl

  iso_kind : (b : Bool) → is_iso x.desc.kind ≡ b → IfOk (cond b (open_iso d m e x s n seed x.ended) (Err errors.NoEndpoint)) (TakesOn d m)
  iso_kind false iso = tt
  iso_kind true iso = iso_ended x.ended refl iso

iso_found : (d : DriverContent) (m : Mem) (e len n seed : ℕ) (q : Option Endpoint) → d.command ≡ None → slice_get d.endpoints e ≡ q → IfOk (offered_iso d m e n len seed q) (TakesOn d m)
iso_found d m e len n seed None idle here = tt
iso_found d m e len n seed (Some x) idle here = iso_kind d m e x len n seed idle here (is_iso x.desc.kind) refl

iso_named : (d : DriverContent) (m : Mem) (len n seed : ℕ) (q : Option ℕ) → d.command ≡ None
    → IfOk (offered_iso d m (unwrap_or q 0) n len seed (option_and_then (λ e. slice_get d.endpoints e) q)) (TakesOn d m)
iso_named d m len n seed None idle = tt
iso_named d m len n seed (Some e) idle = iso_found d m e len n seed (slice_get d.endpoints e) idle refl

-- ---- any command

next_takes : (d : DriverContent) (m : Mem) (cmd : Cmd) → d.command ≡ None → IfOk (offered_next d m cmd) (TakesOn d m)
next_takes d m (commands.OpenEp x) idle = open_takes d m x (endpoint_named d x.name) idle
next_takes d m (commands.Get name len by) idle =
    found_takes d m takes_get (record { sort = sorts.Get; stages = get_stages len by; most = len; bytes = [] }) (unwrap_or (endpoint_of d name) 0) (endpoint_named d name)
next_takes d m (commands.Put name bytes by) idle =
    found_takes d m takes_put (record { sort = sorts.Put; stages = put_stages (length bytes) by; most = length bytes; bytes = bytes }) (unwrap_or (endpoint_of d name) 0) (endpoint_named d name)
next_takes d m (commands.Control name setup bytes) idle =
    found_takes d m takes_control (record { sort = sorts.Request; stages = request_stages setup; most = request_length setup; bytes = setup ++ bytes }) (unwrap_or (endpoint_of d name) 0)
    (endpoint_named d name)
next_takes d m (commands.Iso name count len seed) idle = iso_named d m len count seed (endpoint_of d name) idle
next_takes d m (commands.Cancel name) idle = cancel_takes d m (unwrap_or (endpoint_of d name) 0) (endpoint_named d name)
next_takes d m _ idle = tt

any_takes : (d : DriverContent) (m : Mem) (cmd : Cmd) → IfOk (offered d m cmd) (TakesOn d m)
any_takes d m cmd = by d.command refl
  where
    by : (c : Option Command) → d.command ≡ c → IfOk (cond (is_some c) (Err errors.Busy) (offered_next d m cmd)) (TakesOn d m)
    by (Some c) is = tt
    by None is = next_takes d m cmd is

-- ---- the masks of an endpoint that goes on

kept : (d : DriverContent) (e : ℕ) (x : Endpoint) → HasOwners d → slice_get d.endpoints e ≡ Some x → x.ended ≡ None → x.gone ≡ false
kept d e x has here goes_on = by x.gone refl
  where
    by : (b : Bool) → x.gone ≡ b → b ≡ false
    by false is = refl
    by true is =
        let out = (has.orderly.steady e x here).gone is in absurd (false≢true (sym (ap is_some goes_on) ∙ (has.orderly.steady e x here).ended out.0 out.1))

masks_small : (d : DriverContent) (e : ℕ) (x : Endpoint) (o : Option Placement) → HasOwners d → IsPlanned d → AreMasked d → slice_get d.endpoints e ≡ Some x → x.ended ≡ None → x.placement ≡ o
    → (smask_of o < 256) × (cmask_of o < 256)
masks_small d e x None has planned masked here goes_on placed = (omega arith, omega arith)
masks_small d e x (Some p) has planned masked here goes_on placed =
    let at : IsPlannedAt d e x p = endpoints_count_until_given_back d e x p planned here (kept d e x has here goes_on) placed in
    let k : HasMasks p = nth_all (λ (y : Placed). HasMasks y.placement) d.periodic.plan.placed at.place
    (record { want = want_of e x.desc; placement = p }) masked at.there in
    (k.smask, k.cmask)

-- ---- they await their lend

fields : (x : Endpoint) (s : Slots) → NumbersFit x.desc → HasFit x s → HasFields x.desc
fields x s fit has = record {
  addr = fit.addr;
  num = fit.num;
  max = has.max;
  multi_least = has.multi_least;
  multi_most = has.multi_most;
  hub = fit.hub;
  port = let low = has.port in omega (arith, low);
}

pub commands_keep_awaiting : CommandsKeepAwaiting
commands_keep_awaiting d m cmd o place planned masked numbers is e t count now few =
    subst (λ (i : ℕ). AwaitsLend o.driver o.memory i t) (same_endpoint why.number (length d.transfers) why.count e t count same)
    (subst (λ (u : ℕ). AwaitsLend o.driver o.memory why.number u) (same_first why.number (length d.transfers) why.count e t count same) waits)
  where
    k : IsTakenOn d m o
    k = IfOk-at_ok (TakesOn d m) is (any_takes d m cmd) e t count now

    why : Describes d m o
    why = k.why

    x : Endpoint
    x = why.endpoint

    same : ◌≡◌ {A = Option Command} (Some (unfinished.Iso why.number (length d.transfers) why.count)) (Some (unfinished.Iso e t count))
    same = sym (ap (λ (f : Offered). f.driver.command) why.is) ∙ now

    later : Endpoint
    later = record x { next = first_waiting x.next (length d.transfers) }

    fit : HasFit x (slots_of x k.len)
    fit = slots_fit x (slots_of x k.len) k.fit

    masks : (smask_of x.placement < 256) × (cmask_of x.placement < 256)
    masks = masks_small d why.number x x.placement place.sound.owners planned masked why.here why.goes_on refl

    waits : AwaitsLend o.driver o.memory why.number (length d.transfers)
    waits = record {
      endpoint = later;
      here = ap (λ (f : Offered). slice_get f.driver.endpoints why.number) why.is ∙ set_here d.endpoints why.number x later why.here;
      await = accepted_await_lend d m o why (fields x (slots_of x k.len) (numbers why.number x why.here) fit)
          (subst HasSlots (sym k.slots) (record { few = fit.few; smask = masks.0; cmask = masks.1 }))
          place.sound.owners place.lent place.sound.stands place.sound.shape;
    }
