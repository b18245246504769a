-- What is said of the description and the placement of each endpoint is true after each event of the driver, and after each accepted command.
use Rattle.std.proofs.Common.{◌≡◌, ℕ, zero, suc, ◌+◌, ◌-◌, Bool, true, false, cond, nat_lt, not, ◌||◌, List, [], ◌∷◌, ◌++◌, length, take, drop, set, slice_get, Option, Some, None, Result, Ok, Err, unwrap_or, sym, subst, ◌∙◌, refl}
use Rattle.std.specs.Prelude.{IfOk, count_by, is_none}
use Rattle.std.proofs.lemmas.Option.{same_Some}
use Rattle.std.proofs.lemmas.Result.{IfOk-at_ok}
use Rattle.law_driver.proofs.Common.{one_behind, there_by, told_endpoints}
use Rattle.usb_base.specs.declared.endpoints.EpName.{EpName}
use Rattle.usb_base.specs.declared.endpoints.EpDesc.{EpDesc}
use Rattle.usb_base.specs.declared.endpoints.EndCause.{EndCause}
use Rattle.usb_base.specs.declared.endpoints.EndCause.TheVariants as causes
use Rattle.usb_base.specs.declared.packets.EpKind.{EpKind}
use Rattle.usb_base.specs.declared.packets.EpKind.TheVariants as kinds
use Rattle.usb_base.specs.declared.commands.Cmd.{Cmd}
use Rattle.usb_base.specs.declared.commands.Cmd.TheVariants as commands
use Rattle.usb_base.specs.declared.reports.OfferError.{OfferError}
use Rattle.usb_base.specs.declared.reports.OfferError.TheVariants as errors
use Rattle.word_mem.specs.Memory.{Mem}
use Rattle.mem_runs.specs.Book.{Holding, holding, lend_taken}
use Rattle.bandwidth.specs.declared.placements.Placement.{Placement}
use Rattle.bandwidth.specs.declared.placements.Refused.{Refused}
use Rattle.bandwidth.specs.Admission.{answer}
use Rattle.drv_periodic_table.specs.declared.content.Removed.{Removed}
use Rattle.drv_periodic_table.specs.declared.content.Removed.TheVariants as removed
use Rattle.drv_periodic_table.specs.Periodic.{is_periodic, want_of}
use Rattle.drv_periodic_table.specs.Linking.{begun_next}
use Rattle.drv_table.specs.declared.content.Endpoint.{Endpoint}
use Rattle.drv_table.specs.declared.content.Transfer.{Transfer}
use Rattle.drv_table.specs.declared.content.Slots.{Slots}
use Rattle.drv_table.specs.declared.content.Sort.TheVariants as sorts
use Rattle.drv_table.specs.declared.content.Command.{Command}
use Rattle.drv_table.specs.declared.content.Command.TheVariants as unfinished
use Rattle.drv_table.specs.declared.rows.DriverRow.{DriverRow}
use Rattle.drv_table.specs.declared.rows.DriverRow.TheVariants as rows
use Rattle.drv_table.specs.declared.rows.Found.{Found}
use Rattle.drv_table.specs.declared.rows.Found.TheVariants as founds
use Rattle.drv_table.specs.DriverContent.{DriverContent, busy, endpoint_of, endpoint_named, waits_for}
use Rattle.drv_table.specs.Words.{needs, get_stages, put_stages, request_stages, request_length}
use Rattle.drv_table.specs.Harvests.{is_stall, noted, end_of}
use Rattle.drv_table.specs.Parts.{Parts}
use Rattle.drv_table.specs.Commands.{events_of, links, removes_members, no_command, leave_ring, leave_frames, finished, list_after, or_finished, linked_on, advanced_by}
use Rattle.drv_table.specs.Kinds.{is_iso}
use Rattle.drv_table.specs.FrameChoice.{framed_by, with_notes, framed_notes, placement_at, linked_by}
use Rattle.drv_table.specs.Rows.{after_driver_row}
use Rattle.drv_table.specs.Releases.{after_transfer, freed_by, after_endpoint}
use Rattle.drv_table.specs.Removals.{after_unlink, after_descriptor, after_placed, after_removed}
use Rattle.drv_table.specs.Harvesting.{told_with, behind_one, behind, after_end, harvested_as, served, after_harvest}
use Rattle.drv_table.specs.Accepting.{Offered, take_runs}
use Rattle.drv_table.specs.Offers.{Asked, taken_open, taken_chain, placed_open, planned_open, offered_open, new_endpoint, placed_endpoint, taken_transfer, open_transfer, found_transfer, takes_get, takes_put, takes_control, offered_next, offered}
use Rattle.drv_table.specs.IsoOffers.{slots_of, iso_needs, taken_iso, open_iso, offered_iso, spans_too_long, has_slots}
use Rattle.drv_table.specs.CancelOffers.{with_cancel, cancelled_by, endpoint_members, offered_cancel}

abbrev pub StandsAt : DriverContent → ℕ → Option Endpoint → Type 0
StandsAt d e q = (x : Endpoint) → q ≡ Some x → slice_get d.endpoints e ≡ Some x

pub named : (d : DriverContent) (name : EpName) → StandsAt d (unwrap_or (endpoint_of d name) 0) (endpoint_named d name)
named d name x e = there_by d.endpoints (endpoint_of d name) x e

either_same : {X : Type 0} (f : DriverContent → X) (b : Bool) (x y : DriverContent) (z : X) → f x ≡ z → f y ≡ z → f (cond b x y) ≡ z
either_same f true x y z one two = one
either_same f false x y z one two = two

-- ---- a harvest behind a stall, and the report of a cancel, leave the endpoints

all_behind : (d : DriverContent) (e : ℕ) (name : EpName) (k n : ℕ) → (behind d e name k n).endpoints ≡ d.endpoints
unfolding behind
all_behind d e name k zero = refl
all_behind d e name k (suc n) = all_behind (behind_one d e name k (slice_get d.transfers k)) e name (suc k) n ∙ one_behind d e name k (slice_get d.transfers k)

module _ (P : EpDesc → Option Placement → Type 0) where
  abbrev pub AreAll : List Endpoint → Type 0
  AreAll xs = (e : ℕ) (x : Endpoint) → slice_get xs e ≡ Some x → P x.desc x.placement

  abbrev Have : DriverContent → Type 0
  Have d = AreAll d.endpoints

  pub one_set : (xs : List Endpoint) (e : ℕ) (x y : Endpoint) → slice_get xs e ≡ Some x → (P x.desc x.placement → P y.desc y.placement) → AreAll xs → AreAll (set xs e y)
  one_set [] e x y here on all i z there = absurd (cc)
  one_set (v ∷ xs) zero x y here on all zero z there = subst (λ (w : Endpoint). P w.desc w.placement) (same_Some y z there) (on (all 0 x here))
  one_set (v ∷ xs) zero x y here on all (suc i) z there = all (suc i) z there
  one_set (v ∷ xs) (suc e) x y here on all zero z there = all zero z there
  one_set (v ∷ xs) (suc e) x y here on all (suc i) z there = one_set xs e x y here on (λ j w at. all (suc j) w at) i z there

  pub pushed : (xs : List Endpoint) (y : Endpoint) → P y.desc y.placement → AreAll xs → AreAll (xs ++ y ∷ [])
  pushed [] y new all zero z there = subst (λ (w : Endpoint). P w.desc w.placement) (same_Some y z there) new
  pushed [] y new all (suc i) z there = absurd (cc)
  pushed (v ∷ xs) y new all zero z there = all zero z there
  pushed (v ∷ xs) y new all (suc i) z there = pushed xs y new (λ j w at. all (suc j) w at) i z there

  either : (x y : DriverContent) (b : Bool) → Have x → Have y → Have (cond b x y)
  either x y true one two = one
  either x y false one two = two

  -- ---- the command goes on

  ring_left : (d : DriverContent) (e : ℕ) (o : Option Endpoint) → slice_get d.endpoints e ≡ o → Have d → Have (leave_ring d e o)
  ring_left d e None here all = all
  ring_left d e (Some x) here all = either _ d x.linked (one_set d.endpoints e x (record x { linked = false }) here (λ k. k) all) all

  frames_left : (d : DriverContent) (e : ℕ) (o : Option Endpoint) → slice_get d.endpoints e ≡ o → Have d → Have (leave_frames d e o)
  frames_left d e None here all = all
  frames_left d e (Some x) here all = either _ d x.chained (one_set d.endpoints e x (record x { chained = false }) here (λ k. k) all) all

  done : (d : DriverContent) (c : Command) → Have d → Have (finished d c)
  done d (unfinished.Unlink e b link) all = ring_left (no_command d) e (slice_get d.endpoints e) refl all
  done d (unfinished.Unchain e) all = frames_left (no_command d) e (slice_get d.endpoints e) refl all
  done d _ all = all

  or_done : (d : DriverContent) (c : Command) → Have d → Have (or_finished d c)
  or_done d c all = either (finished d c) d (is_none d.periodic.list.work) (done d c all) all

  linked : (d : DriverContent) (c : Command) → Have d → Have (linked_on d c)
  linked d c all = or_done (record d { made = length (events_of c); periodic = begun_next (removes_members c) (record d.periodic { list = list_after d c }) }) c all

  went_on : (d : DriverContent) (o : Option Command) → Have d → Have (advanced_by d o)
  went_on d None all = all
  went_on d (Some c) all =
      either (record d { made = suc d.made }) (cond (links c) (linked_on d c) (finished d c)) (nat_lt (suc d.made) (length (events_of c))) all
      (either (linked_on d c) (finished d c) (links c) (linked d c all) (done d c all))

  framed : (d : DriverContent) (n : ℕ) (o : Option Command) → Have d → Have (framed_by d n o)
  framed d n (Some (unfinished.Iso e t count)) all = went_on (with_notes d n (take count (drop t d.transfers)) (framed_notes d n e t count (placement_at d e))) d.command all
  framed d n _ all = all

  -- ---- what is given back

  transfer_let_go : (p : Parts) (t : ℕ) (o : Option Transfer) (h : Holding) → Have p.driver → Have (after_transfer p t o h).driver
  transfer_let_go p t None h all = all
  transfer_let_go p t (Some y) h all = all

  endpoint_let_go : (p : Parts) (e : ℕ) (o : Option Endpoint) → slice_get p.driver.endpoints e ≡ o → Have p.driver → Have (after_endpoint p e o).driver
  endpoint_let_go p e None here all = all
  endpoint_let_go p e (Some x) here all =
      subst (λ (xs : List Endpoint). AreAll (set xs e (record x { gone = true }))) (sym (told_endpoints p.driver p.memory e x))
      (one_set p.driver.endpoints e x (record x { gone = true }) here (λ k. k) all)

  unlinked : (p : Parts) (t : ℕ) (o : Option Transfer) → Have p.driver → Have (after_unlink p t o).driver
  unlinked p t None all = all
  unlinked p t (Some y) all = all

  descriptor_let_go : (p : Parts) (t : ℕ) (o : Option Transfer) → Have p.driver → Have (after_descriptor p t o).driver
  descriptor_let_go p t None all = all
  descriptor_let_go p t (Some y) all = all

  placed_let_go : (p : Parts) (e : ℕ) (o : Option Endpoint) → slice_get p.driver.endpoints e ≡ o → Have p.driver → Have (after_placed p e o).driver
  placed_let_go p e None here all = all
  placed_let_go p e (Some x) here all =
      subst (λ (xs : List Endpoint). AreAll (set xs e (record x { gone = true }))) (sym (told_endpoints p.driver p.memory e x))
      (one_set p.driver.endpoints e x (record x { gone = true }) here (λ k. k) all)

  removed_let_go : (p : Parts) (what : Removed) → Have p.driver → Have (after_removed p what).driver
  removed_let_go p (removed.Descriptor t) all = descriptor_let_go p t (slice_get p.driver.transfers t) all
  removed_let_go p (removed.Endpoint e) all = placed_let_go p e (slice_get p.driver.endpoints e) refl all

  -- ---- a harvest

  over : (d : DriverContent) (e t : ℕ) (x : Endpoint) (stall : Bool) (o : Option EndCause) → slice_get d.endpoints e ≡ Some x → Have d → Have (after_end d e t x stall o)
  over d e t x stall (Some cause) here all = one_set d.endpoints e x (record x { ended = Some cause }) here (λ k. k) all
  over d e t x true None here all =
      subst AreAll (sym (all_behind _ e x.desc.name (suc t) (length d.transfers - suc t))) (one_set d.endpoints e x (record x { next = None }) here (λ k. k) all)
  over d e t x false None here all = one_set d.endpoints e x _ here (λ k. k) all

  read : (d : DriverContent) (m : Mem) (e t : ℕ) (x : Endpoint) (y : Transfer) (found : Found) → slice_get d.endpoints e ≡ Some x → Have d → Have (harvested_as d m e t x y found)
  read d m e t x y (founds.Served errors) here all = one_set d.endpoints e x _ here (λ k. k) all
  read d m e t x y (founds.Ended n what) here all = over (told_with d m t y what x.desc.name (noted d.notes y.place n)) e t x (is_stall what) (end_of x.desc.kind what) here all
  read d m e t x y _ here all = all

  harvested : (d : DriverContent) (m : Mem) (e t : ℕ) (found : Found) (o : Option Endpoint) (q : Option Transfer) → slice_get d.endpoints e ≡ o → Have d → Have (after_harvest d m e t found o q)
  harvested d m e t found None q here all = all
  harvested d m e t found (Some x) None here all = all
  harvested d m e t found (Some x) (Some y) here all = either (served (harvested_as d m e t x y found) e) d (waits_for e y) (read d m e t x y found here all) all

  -- ---- any event

  pub after_row : (row : DriverRow) (p : Parts) → AreAll p.driver.endpoints → AreAll (after_driver_row row p).driver.endpoints
  after_row rows.Lend p all = went_on (record p.driver { book = (lend_taken (holding p.driver.book p.memory)).book }) p.driver.command all
  after_row (rows.Store b at v) p all = went_on p.driver p.driver.command all
  after_row rows.Frames p all = framed p.driver p.registers.frame_index p.driver.command all
  after_row rows.LendDescriptors p all = went_on (record p.driver { book = (lend_taken (holding p.driver.book (linked_by p.driver p.memory p.driver.command))).book }) p.driver.command all
  after_row (rows.Unlink t) p all = unlinked p t (slice_get p.driver.transfers t) all
  after_row (rows.ReleaseRemoved what) p all = removed_let_go p what all
  after_row (rows.ReleaseTransfer t) p all =
      transfer_let_go p t (slice_get p.driver.transfers t) (freed_by p.driver (holding p.driver.book p.memory) (slice_get p.driver.transfers t)) all
  after_row (rows.ReleaseEndpoint e) p all = endpoint_let_go p e (slice_get p.driver.endpoints e) refl all
  after_row (rows.Harvest e t found) p all = harvested p.driver p.memory e t found (slice_get p.driver.endpoints e) (slice_get p.driver.transfers t) refl all
  after_row _ p all = all

  -- ---- an accepted command, where it is true of what is opened, wherever that is placed

  abbrev pub IsOfOpened : Cmd → Type 0
  IsOfOpened (commands.OpenEp x) = (o : Option Placement) → P x o
  IsOfOpened _ = Unit {0}

  abbrev Keeps : Offered → Type 0
  Keeps o = Have o.driver

  or_else : (b : Bool) (x y : Result Offered OfferError) → IfOk x Keeps → IfOk y Keeps → IfOk (cond b x y) Keeps
  or_else true x y one two = one
  or_else false x y one two = two

  transfer_taken : (d : DriverContent) (e : ℕ) (x : Endpoint) (a : Asked) (r : Result Holding OfferError) → slice_get d.endpoints e ≡ Some x → Have d → IfOk (taken_transfer d e x a r) Keeps
  transfer_taken d e x a (Err why) here all = tt
  transfer_taken d e x a (Ok h) here all = one_set d.endpoints e x _ here (λ k. k) all

  transfer_opened : (d : DriverContent) (m : Mem) (e : ℕ) (x : Endpoint) (a : Asked) (o : Option EndCause) → slice_get d.endpoints e ≡ Some x → Have d → IfOk (open_transfer d m e x a o) Keeps
  transfer_opened d m e x a (Some cause) here all = tt
  transfer_opened d m e x a None here all =
      or_else (nat_lt 20480 a.most) (Err errors.TooLong) (taken_transfer d e x a (take_runs (holding d.book m) (needs a.stages)))
      tt (transfer_taken d e x a (take_runs (holding d.book m) (needs a.stages)) here all)

  transfer_found : (d : DriverContent) (m : Mem) (takes : Endpoint → Bool) (a : Asked) (e : ℕ) (q : Option Endpoint) → StandsAt d e q → Have d → IfOk (found_transfer d m takes a e q) Keeps
  transfer_found d m takes a e None here all = tt
  transfer_found d m takes a e (Some x) here all =
      or_else (takes x) (open_transfer d m e x a x.ended) (Err errors.NoEndpoint) (transfer_opened d m e x a x.ended (here x refl) all) tt

  iso_taken : (d : DriverContent) (e : ℕ) (x : Endpoint) (s : Slots) (n seed : ℕ) (r : Result Holding OfferError) → slice_get d.endpoints e ≡ Some x → Have d → IfOk (taken_iso d e x s n seed r) Keeps
  iso_taken d e x s n seed (Err why) here all = tt
  iso_taken d e x s n seed (Ok h) here all = one_set d.endpoints e x _ here (λ k. k) all

  iso_opened : (d : DriverContent) (m : Mem) (e : ℕ) (x : Endpoint) (s : Slots) (n seed : ℕ) (o : Option EndCause) → slice_get d.endpoints e ≡ Some x → Have d → IfOk (open_iso d m e x s n seed o) Keeps
  iso_opened d m e x s n seed (Some cause) here all = tt
  iso_opened d m e x s n seed None here all =
      or_else (spans_too_long x (n + count_by (waits_for e) d.transfers) || not (has_slots x s)) (Err errors.TooLong)
      (taken_iso d e x s n seed (take_runs (holding d.book m) (iso_needs s n)))
      tt (iso_taken d e x s n seed (take_runs (holding d.book m) (iso_needs s n)) here all)

  iso_found : (d : DriverContent) (m : Mem) (e n len seed : ℕ) (q : Option Endpoint) → StandsAt d e q → Have d → IfOk (offered_iso d m e n len seed q) Keeps
  iso_found d m e n len seed None here all = tt
  iso_found d m e n len seed (Some x) here all =
      or_else (is_iso x.desc.kind) (open_iso d m e x (slots_of x len) n seed x.ended) (Err errors.NoEndpoint)
      (iso_opened d m e x (slots_of x len) n seed x.ended (here x refl) all) tt

  cancelled : (d : DriverContent) (e : ℕ) (x : Endpoint) (o : Option Placement) → slice_get d.endpoints e ≡ Some x → Have d → Have (cancelled_by d e x o)
  cancelled d e x None here all = one_set d.endpoints e x _ here (λ k. k) all
  cancelled d e x (Some p) here all = or_done (with_cancel d e x (endpoint_members d e x p)) (unfinished.Unchain e) (one_set d.endpoints e x _ here (λ k. k) all)

  cancel_found : (d : DriverContent) (m : Mem) (e : ℕ) (q : Option Endpoint) → StandsAt d e q → Have d → IfOk (offered_cancel d m e q) Keeps
  cancel_found d m e None here all = tt
  cancel_found d m e (Some x) here all =
      or_else x.cancelled (Err (errors.Closed causes.Cancel)) (Ok (record { driver = cancelled_by d e x x.placement; memory = m })) tt
      (cancelled d e x x.placement (here x refl) all)

  open_taken : (d : DriverContent) (x : EpDesc) (r : Result Holding OfferError) → P x None → Have d → IfOk (taken_open d x r) Keeps
  open_taken d x (Err why) new all = tt
  open_taken d x (Ok h) new all = pushed d.endpoints (new_endpoint x _ _) new all

  chain_taken : (d : DriverContent) (x : EpDesc) (p : Placement) (r : Result Holding OfferError) → P x (Some p) → Have d → IfOk (taken_chain d x p r) Keeps
  chain_taken d x p (Err why) new all = tt
  chain_taken d x p (Ok h) new all = pushed d.endpoints (placed_endpoint x p _ _) new all

  placed : (d : DriverContent) (m : Mem) (x : EpDesc) (p : Placement) (k : EpKind) → P x (Some p) → Have d → IfOk (placed_open d m x p k) Keeps
  placed d m x p kinds.Iso new all = pushed d.endpoints (placed_endpoint x p 0 0) new all
  placed d m x p _ new all = chain_taken d x p (take_runs (holding d.book m) (2 ∷ 1 ∷ [])) new all

  planned : (d : DriverContent) (m : Mem) (x : EpDesc) (r : Result Placement Refused) → ((o : Option Placement) → P x o) → Have d → IfOk (planned_open d m x r) Keeps
  planned d m x (Err why) new all = tt
  planned d m x (Ok p) new all = placed d m x p x.kind (new (Some p)) all

  open_found : (d : DriverContent) (m : Mem) (x : EpDesc) (q : Option Endpoint) → ((o : Option Placement) → P x o) → Have d → IfOk (offered_open d m x q) Keeps
  open_found d m x (Some old) new all = by old.ended
    where
      by : (o : Option EndCause) → IfOk (elim o [ Some cause ↦ Err (errors.Closed cause) | None ↦ Err errors.AlreadyOpen ]) Keeps
      by None = tt
      by (Some cause) = tt
  open_found d m x None new all =
      or_else (is_periodic x.kind) (planned_open d m x (answer d.periodic.plan (want_of (length d.endpoints) x))) (taken_open d x (take_runs (holding d.book m) (2 ∷ 1 ∷ [])))
      (planned d m x (answer d.periodic.plan (want_of (length d.endpoints) x)) new all) (open_taken d x (take_runs (holding d.book m) (2 ∷ 1 ∷ [])) (new None) all)

  next_offered : (d : DriverContent) (m : Mem) (cmd : Cmd) → IsOfOpened cmd → Have d → IfOk (offered_next d m cmd) Keeps
  next_offered d m (commands.OpenEp x) new all = open_found d m x (endpoint_named d x.name) new all
  next_offered d m (commands.Get name len by) new all =
      transfer_found d m takes_get (record { sort = sorts.Get; stages = get_stages len by; most = len; bytes = [] }) (unwrap_or (endpoint_of d name) 0) (endpoint_named d name) (named d name) all
  next_offered d m (commands.Put name bytes by) new all =
      transfer_found d m takes_put (record { sort = sorts.Put; stages = put_stages (length bytes) by; most = length bytes; bytes = bytes }) (unwrap_or (endpoint_of d name) 0) (endpoint_named d name) (named d name) all
  next_offered d m (commands.Control name setup bytes) new all =
      transfer_found d m takes_control (record { sort = sorts.Request; stages = request_stages setup; most = request_length setup; bytes = setup ++ bytes }) (unwrap_or (endpoint_of d name) 0) (endpoint_named d name)
      (named d name) all
  next_offered d m (commands.Iso name count len seed) new all = iso_found d m (unwrap_or (endpoint_of d name) 0) count len seed (endpoint_named d name) (named d name) all
  next_offered d m (commands.Cancel name) new all = cancel_found d m (unwrap_or (endpoint_of d name) 0) (endpoint_named d name) (named d name) all
  next_offered d m _ new all = tt

  pub after_command : (d : DriverContent) (m : Mem) (cmd : Cmd) (o : Offered) → IsOfOpened cmd → AreAll d.endpoints → offered d m cmd ≡ Ok o → AreAll o.driver.endpoints
  after_command d m cmd o new all is = IfOk-at_ok Keeps is (or_else (busy d) (Err errors.Busy) (offered_next d m cmd) tt (next_offered d m cmd new all))
