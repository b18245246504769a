-- Which command opens an endpoint, and which endpoint.
use Rattle.std.proofs.Common.{◌≡◌, ℕ, ◌+◌, Bool, true, false, not, ◌||◌, cond, nat_lt, [], ◌∷◌, ◌++◌, length, slice_get, Option, Some, None, option_map, Result, Ok, Err, unwrap_or, ap, refl, sym, ◌∙◌}
use Rattle.std.specs.Prelude.{is_some, is_none, count_by}
use Rattle.std.proofs.lemmas.Bool.{true≢false}
use Rattle.std.proofs.lemmas.Option.{same_Some}
use Rattle.law_common.proofs.Lists.{pushed_last}
use Rattle.usb_base.specs.declared.endpoints.EpDesc.{EpDesc}
use Rattle.usb_base.specs.declared.endpoints.EndCause.{EndCause}
use Rattle.usb_base.specs.declared.endpoints.EndCause.TheVariants as causes
use Rattle.usb_base.specs.declared.commands.Cmd.{Cmd}
use Rattle.usb_base.specs.declared.commands.Cmd.TheVariants as commands
use Rattle.usb_base.specs.declared.reports.OfferError.{OfferError}
use Rattle.usb_base.specs.declared.reports.OfferError.TheVariants as errors
use Rattle.word_mem.specs.Memory.{Mem}
use Rattle.mem_runs.specs.Book.{Holding, holding}
use Rattle.drv_periodic_table.specs.Periodic.{is_periodic, want_of}
use Rattle.bandwidth.specs.declared.placements.Placement.{Placement}
use Rattle.bandwidth.specs.Admission.{answer}
use Rattle.drv_table.specs.declared.content.Endpoint.{Endpoint}
use Rattle.drv_table.specs.declared.content.Command.{Command}
use Rattle.drv_table.specs.declared.content.Command.TheVariants as unfinished
use Rattle.drv_table.specs.declared.content.Slots.{Slots}
use Rattle.drv_table.specs.declared.content.Sort.TheVariants as sorts
use Rattle.drv_table.specs.DriverContent.{DriverContent, endpoint_of, endpoint_named, waits_for}
use Rattle.drv_table.specs.Kinds.{is_iso}
use Rattle.drv_table.specs.Commands.{leave_frames, no_command, finished}
use Rattle.drv_table.specs.Words.{needs, get_stages, put_stages, request_length, request_stages}
use Rattle.drv_table.specs.Accepting.{Offered, take_runs}
use Rattle.drv_table.specs.Offers.{Asked, taken_open, planned_open, offered_open, taken_transfer, open_transfer, found_transfer, takes_get, takes_put, takes_control, offered_next}
use Rattle.drv_table.specs.IsoOffers.{slots_of, spans_too_long, has_slots, iso_needs, taken_iso, open_iso, offered_iso}
use Rattle.drv_table.specs.CancelOffers.{endpoint_members, with_cancel, cancelled_by, offered_cancel}
use Rattle.law_driver.specs.run_owners.Accepts.{Opens}
use Rattle.law_driver.specs.AsynchronousScripts.{OpensAsynchronous}
use Rattle.law_driver.proofs.lemmas.chained_transfers.BulkAndControl.{not_periodic}
use Rattle.law_queues.specs.commanded_queues.Accepted.{OpensItsOwn}

is_open : Option Command → Bool
is_open (Some (unfinished.Open queue)) = true
is_open _ = false

ok_is : (o p : Offered) → ◌≡◌ {A = Result Offered OfferError} (Ok p) (Ok o) → o ≡ p
ok_is o p e = cc

abbrev desc_of : Endpoint → EpDesc
desc_of x = x.desc

module _ (d : DriverContent) (m : Mem) (o : Offered) where
  -- ---- a transfer, or descriptors, aren't an open

  abbrev IsNoOpen : Type 0
  IsNoOpen = is_open o.driver.command ≡ false

  taken : (e : ℕ) (x : Endpoint) (a : Asked) (r : Result Holding OfferError) → taken_transfer d e x a r ≡ Ok o → IsNoOpen
  unfolding is_open
  taken e x a (Err why) f = absurd (cc)
  taken e x a (Ok h) f = ap (λ (g : Offered). is_open g.driver.command) (ok_is o _ f)

  long : (e : ℕ) (x : Endpoint) (a : Asked) (b : Bool) → cond b (Err errors.TooLong) (taken_transfer d e x a (take_runs (holding d.book m) (needs a.stages))) ≡ Ok o → IsNoOpen
  long e x a true f = absurd (cc)
  long e x a false f = taken e x a (take_runs (holding d.book m) (needs a.stages)) f

  ended : (e : ℕ) (x : Endpoint) (a : Asked) (c : Option EndCause) → open_transfer d m e x a c ≡ Ok o → IsNoOpen
  ended e x a (Some cause) f = absurd (cc)
  ended e x a None f = long e x a (nat_lt 20480 a.most) f

  takes_one : (e : ℕ) (x : Endpoint) (a : Asked) (b : Bool) → cond b (open_transfer d m e x a x.ended) (Err errors.NoEndpoint) ≡ Ok o → IsNoOpen
  takes_one e x a false f = absurd (cc)
  takes_one e x a true f = ended e x a x.ended f

  found : (takes : Endpoint → Bool) (a : Asked) (e : ℕ) (q : Option Endpoint) → found_transfer d m takes a e q ≡ Ok o → IsNoOpen
  found takes a e None f = absurd (cc)
  found takes a e (Some x) f = takes_one e x a (takes x) f

  iso_taken : (e : ℕ) (x : Endpoint) (s : Slots) (n seed : ℕ) (r : Result Holding OfferError) → taken_iso d e x s n seed r ≡ Ok o → IsNoOpen
  unfolding is_open
  iso_taken e x s n seed (Err why) f = absurd (cc)
  iso_taken e x s n seed (Ok h) f = ap (λ (g : Offered). is_open g.driver.command) (ok_is o _ f)

  iso_fits : (e : ℕ) (x : Endpoint) (s : Slots) (n seed : ℕ) (b : Bool) → cond b (Err errors.TooLong) (taken_iso d e x s n seed (take_runs (holding d.book m) (iso_needs s n))) ≡ Ok o → IsNoOpen
  iso_fits e x s n seed true f = absurd (cc)
  iso_fits e x s n seed false f = iso_taken e x s n seed (take_runs (holding d.book m) (iso_needs s n)) f

  iso_ended : (e : ℕ) (x : Endpoint) (s : Slots) (n seed : ℕ) (c : Option EndCause) → open_iso d m e x s n seed c ≡ Ok o → IsNoOpen
  iso_ended e x s n seed (Some cause) f = absurd (cc)
  iso_ended e x s n seed None f = iso_fits e x s n seed (spans_too_long x (n + count_by (waits_for e) d.transfers) || not (has_slots x s)) f

  iso_at : (e : ℕ) (x : Endpoint) (n len seed : ℕ) (b : Bool) → cond b (open_iso d m e x (slots_of x len) n seed x.ended) (Err errors.NoEndpoint) ≡ Ok o → IsNoOpen
  iso_at e x n len seed false f = absurd (cc)
  iso_at e x n len seed true f = iso_ended e x (slots_of x len) n seed x.ended f

  iso_found : (e n len seed : ℕ) (q : Option Endpoint) → offered_iso d m e n len seed q ≡ Ok o → IsNoOpen
  iso_found e n len seed None f = absurd (cc)
  iso_found e n len seed (Some x) f = iso_at e x n len seed (is_iso x.desc.kind) f

  -- ---- nor is a cancel

  off_either : (b : Bool) (c f : DriverContent) → is_open c.command ≡ false → is_open f.command ≡ false → is_open (cond b c f).command ≡ false
  off_either true c f one other = one
  off_either false c f one other = other

  off_frames : (c : DriverContent) (e : ℕ) (q : Option Endpoint) → is_open c.command ≡ false → is_open (leave_frames c e q).command ≡ false
  off_frames c e None off = off
  off_frames c e (Some x) off = off_either x.chained _ c off off

  leaving : (e : ℕ) (x : Endpoint) (p : Option Placement) → is_open (cancelled_by d e x p).command ≡ false
  unfolding is_open
  leaving e x None = refl
  leaving e x (Some p) =
      let begun = with_cancel d e x (endpoint_members d e x p) in
      off_either (is_none begun.periodic.list.work) (finished begun (unfinished.Unchain e)) begun (off_frames (no_command begun) e (slice_get begun.endpoints e) refl) refl

  cancel_at : (e : ℕ) (x : Endpoint) (b : Bool) → cond b (Err (errors.Closed causes.Cancel)) (Ok (record { driver = cancelled_by d e x x.placement; memory = m })) ≡ Ok o → IsNoOpen
  cancel_at e x true f = absurd (cc)
  cancel_at e x false f = ap (λ (g : Offered). is_open g.driver.command) (ok_is o (record { driver = cancelled_by d e x x.placement; memory = m }) f) ∙ leaving e x x.placement

  cancel_found : (e : ℕ) (q : Option Endpoint) → offered_cancel d m e q ≡ Ok o → IsNoOpen
  cancel_found e None f = absurd (cc)
  cancel_found e (Some x) f = cancel_at e x x.cancelled f

  -- ---- an open

  -- the description of the newest endpoint
  abbrev newest : Offered → Option EpDesc
  newest g = option_map desc_of (slice_get g.driver.endpoints (length d.endpoints))

  open_taken : (x : EpDesc) (r : Result Holding OfferError) → taken_open d x r ≡ Ok o → newest o ≡ Some x
  open_taken x (Err why) f = absurd (cc)
  open_taken x (Ok h) f = ap newest (ok_is o _ f) ∙ ap (option_map desc_of) (pushed_last d.endpoints _)

  open_new : (x : EpDesc) (b : Bool) → b ≡ false
      → cond b (planned_open d m x (answer d.periodic.plan (want_of (length d.endpoints) x))) (taken_open d x (take_runs (holding d.book m) (2 ∷ 1 ∷ []))) ≡ Ok o → newest o ≡ Some x
  open_new x true off f = absurd (true≢false off)
  open_new x false off f = open_taken x (take_runs (holding d.book m) (2 ∷ 1 ∷ [])) f

  again : (x : EpDesc) (old : Endpoint) (c : Option EndCause) → old.ended ≡ c → offered_open d m x (Some old) ≡ Ok o → ⊥
  again x old (Some cause) is f =
      let e : offered_open d m x (Some old) ≡ Err (errors.Closed cause) = ap (λ (k : Option EndCause). by k) is in cc
    where
      by : Option EndCause → Result Offered OfferError
      by k = elim k [ Some cause ↦ Err (errors.Closed cause) | None ↦ Err errors.AlreadyOpen ]
  again x old None is f =
      let e : offered_open d m x (Some old) ≡ Err errors.AlreadyOpen = ap (λ (k : Option EndCause). by k) is in cc
    where
      by : Option EndCause → Result Offered OfferError
      by k = elim k [ Some cause ↦ Err (errors.Closed cause) | None ↦ Err errors.AlreadyOpen ]

  open_found : (x : EpDesc) (q : Option Endpoint) → is_periodic x.kind ≡ false → offered_open d m x q ≡ Ok o → newest o ≡ Some x
  open_found x (Some old) ring f = absurd (again x old old.ended refl f)
  open_found x None ring f = open_new x (is_periodic x.kind) ring f

  -- ---- each command

  module _ (why : Opens d m o) where
    opened : is_open o.driver.command ≡ true
    unfolding is_open
    opened = ap (λ (g : Offered). is_open g.driver.command) why.is

    not_so : IsNoOpen → ⊥
    not_so off = true≢false (sym opened ∙ off)

    described : newest o ≡ Some why.desc
    described = ap newest why.is ∙ ap (option_map desc_of) (pushed_last d.endpoints _)

    next_is : (cmd : Cmd) → OpensAsynchronous cmd → offered_next d m cmd ≡ Ok o → cmd ≡ commands.OpenEp why.desc
    next_is (commands.OpenEp x) is f = ap commands.OpenEp (same_Some x why.desc (sym (open_found x (endpoint_named d x.name) (not_periodic x is) f) ∙ described))
    next_is (commands.Get name len by) is f =
        absurd (not_so (found takes_get (record { sort = sorts.Get; stages = get_stages len by; most = len; bytes = [] }) (unwrap_or (endpoint_of d name) 0) (endpoint_named d name) f))
    next_is (commands.Put name bytes by) is f =
        absurd (not_so (found takes_put (record { sort = sorts.Put; stages = put_stages (length bytes) by; most = length bytes; bytes = bytes }) (unwrap_or (endpoint_of d name) 0) (endpoint_named d name) f))
    next_is (commands.Control name setup bytes) is f =
        absurd (not_so (found takes_control (record { sort = sorts.Request; stages = request_stages setup; most = request_length setup; bytes = setup ++ bytes }) (unwrap_or (endpoint_of d name) 0) (endpoint_named d name) f))
    next_is (commands.Iso name count len seed) is f = absurd (not_so (iso_found (unwrap_or (endpoint_of d name) 0) count len seed (endpoint_named d name) f))
    next_is (commands.Cancel name) is f = absurd (not_so (cancel_found (unwrap_or (endpoint_of d name) 0) (endpoint_named d name) f))
    next_is _ is f = absurd (cc)

    offered_is : (cmd : Cmd) (c : Option Command) → OpensAsynchronous cmd → cond (is_some c) (Err errors.Busy) (offered_next d m cmd) ≡ Ok o → cmd ≡ commands.OpenEp why.desc
    offered_is cmd (Some c) is f = absurd (cc)
    offered_is cmd None is f = next_is cmd is f

pub opens_its_own : OpensItsOwn
opens_its_own d m cmd o only is why = offered_is d m o why cmd d.command only is
