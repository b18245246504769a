-- At each moment of a run each accepted transfer of an endpoint that wasn't cancelled has one line, or none yet; and what is pending is
-- told.
use Rattle.std.proofs.Common.{◌≡◌, ℕ, zero, suc, ◌+◌, Bool, true, false, cond, ◌==◌, ◌&&◌, List, [], ◌∷◌, ◌++◌, length, map, set, slice_get, Option, Some, None, option_map, refl, ap, sym, subst, ◌∙◌, inl, inr, ⊎_elim, arith}
use Rattle.std.specs.List.{AllByRecursion}
use Rattle.std.specs.Prelude.{◌⊎◌, count_by, is_some, find}
use Rattle.std.proofs.lemmas.Bool.{false≢true, eq-eqb}
use Rattle.std.proofs.lemmas.List.{map-append, map-set}
use Rattle.std.proofs.lemmas.List.Sums.{sum_by-cons}
use Rattle.std.proofs.lemmas.Option.{same_Some, slice_get-map}
use Rattle.law_common.proofs.Lists.{set_same}
use Rattle.law_queues.proofs.Common.{same_way}
use Rattle.usb_base.specs.declared.commands.Cmd.{Cmd}
use Rattle.usb_base.specs.declared.commands.Cmd.TheVariants as commands
use Rattle.usb_base.specs.declared.endpoints.EpDesc.{EpDesc}
use Rattle.usb_base.specs.declared.endpoints.EpName.{EpName}
use Rattle.usb_base.specs.declared.reports.OfferError.TheVariants as errors
use Rattle.usb_base.specs.declared.reports.Report.{Report}
use Rattle.usb_base.specs.declared.reports.What.TheVariants as lines
use Rattle.script_types.specs.declared.scripts.Event.TheVariants as events
use Rattle.script_types.specs.declared.scripts.Script.{Script}
use Rattle.script_fits.specs.Fits.{IsFit}
use Rattle.word_mem.specs.Memory.{Mem}
use Rattle.drv_table.specs.declared.content.Endpoint.{Endpoint}
use Rattle.drv_table.specs.declared.content.Transfer.{Transfer}
use Rattle.drv_table.specs.DriverContent.{DriverContent, is_same_way, is_same_name, waits_for}
use Rattle.drv_table.specs.Parts.{Parts}
use Rattle.drv_table.specs.Rows.{driver_row, after_driver_row}
use Rattle.bus_wire.specs.Bus.{fixed_of}
use Rattle.bus_world.specs.Budgets.{moment}
use Rattle.bus_world.specs.Orders.{Left, Events, Microframes, Answer, Command, Plugs, OrderedWorld, tick_at, ticks}
use Rattle.bus_world.specs.World.{World, driver_parts, driver_next}
use Rattle.claims_answers.specs.Adding.{Standing, standing_of, standings, opened_as, AddsEndpoint, Cancels, AddsTransfer, IsDescriptorFor, AddsDescriptors, IsAdded}
use Rattle.claims_answers.specs.Refusals.{is_named, HasNoCause}
use Rattle.claims_world.specs.Heard.{is_controllers}
use Rattle.claims_world.specs.Pending.{is_of_transfer, IsOf, IsFewer, one_each, cancelled, IsCountedDown, AddsUp, PendingIsCounted}
use Rattle.claims_world.specs.Refused.{IsRefused, IsAccepted}
use Rattle.law_driver_ring.proofs.lemmas.walk_members.Descriptions.{desc_of, SameDescs, row_left}
use Rattle.law_telling.proofs.Passing.{events_keep_transfers}
use Rattle.law_reports.proofs.lemmas.answers.Closings.{closings_tell_pending}
use Rattle.law_reports.proofs.lemmas.answers.Counting.{events_count_down}
use Rattle.law_reports.proofs.lemmas.answers.Moments.{next_moment, drivers_next, script_has_causes, script_tells}
use Rattle.law_reports.proofs.lemmas.answers.Tallied.{is_at, HasName, IsTallied, names_same, other_line, more_transfers, one_endpoint, Writes, after_lines}

-- ---- the names of a driver's endpoints

abbrev name_of : Endpoint → EpName
name_of x = x.desc.name

abbrev name_in_standing : Standing → EpName
name_in_standing z = z.desc.name

abbrev names_of : DriverContent → List EpName
names_of d = map name_of d.endpoints

abbrev Tallied : DriverContent → Type 0
Tallied d = IsTallied (names_of d) d.reports d.transfers

names_stand : (xs : List Endpoint) → map name_in_standing (map standing_of xs) ≡ map name_of xs
names_stand [] = refl
names_stand (x ∷ xs) = ap (λ (ns : List EpName). x.desc.name ∷ ns) (names_stand xs)

name_at : (d : DriverContent) (e : ℕ) (x : Endpoint) → slice_get d.endpoints e ≡ Some x → slice_get (names_of d) e ≡ Some x.desc.name
name_at d e x here = slice_get-map name_of d.endpoints e ∙ ap (option_map name_of) here

-- ---- an accepted command

self_named : (a : EpName) → is_same_name a a ≡ true
self_named a =
    ap (λ (x : Bool). x && (a.num == a.num) && is_same_way a.way a.way) (eq-eqb a.addr a.addr refl)
    ∙ ap (λ (x : Bool). x && is_same_way a.way a.way) (eq-eqb a.num a.num refl) ∙ same_way a.way

-- none of this name is found
not_there : (name : EpName) (xs : List Endpoint) → find (is_named name) xs ≡ None → (e : ℕ) → slice_get (map name_of xs) e ≡ Some name → ⊥
not_there name [] none zero at = cc
not_there name [] none (suc e) at = cc
not_there name (x ∷ xs) none e at = by (is_named name x) refl none (λ w. not_there name xs w)
  where
    first : is_named name x ≡ false → (n : ℕ) → slice_get (map name_of (x ∷ xs)) n ≡ Some name
        → ((i : ℕ) → slice_get (map name_of xs) i ≡ Some name → ⊥) → ⊥
    first off zero is rest =
        false≢true (sym off ∙ ap (λ (n : EpName). is_same_name n name) (same_Some x.desc.name name is) ∙ self_named name)
    first off (suc n) is rest = rest n is

    by : (b : Bool) → is_named name x ≡ b → cond b (Some x) (find (is_named name) xs) ≡ None
        → (find (is_named name) xs ≡ None → (i : ℕ) → slice_get (map name_of xs) i ≡ Some name → ⊥) → ⊥
    by true on w rest = cc
    by false off w rest = first off e at (rest w)

is_none : (o : Option Endpoint) → is_some o ≡ false → o ≡ None
is_none None off = refl
is_none (Some x) off = absurd (false≢true (sym off))

module _ (d : DriverContent) (m : Mem) (new : DriverContent) (old : Tallied d) (untold : new.reports ≡ d.reports) where
  -- with its names and its transfers
  as_now : (names : List EpName) (ts : List Transfer) → names_of new ≡ names → new.transfers ≡ ts → IsTallied names d.reports ts
      → Tallied new
  as_now names ts n t k =
      subst (λ (rs : List Report). IsTallied (names_of new) rs new.transfers) (sym untold)
      (subst (λ (us : List Transfer). IsTallied (names_of new) d.reports us) (sym t)
      (subst (λ (ns : List EpName). IsTallied ns d.reports ts) (sym n) k))

  same_names : standings new ≡ standings d → names_of new ≡ names_of d
  same_names is = sym (names_stand new.endpoints) ∙ ap (map name_in_standing) is ∙ names_stand d.endpoints

  open_tallied : (x : EpDesc) → HasNoCause d m (commands.OpenEp x) → AddsEndpoint d x new → Tallied new
  open_tallied x causes k =
      as_now (names_of d ++ x.name ∷ []) d.transfers
      (sym (names_stand new.endpoints) ∙ ap (map name_in_standing) k.endpoints
      ∙ map-append name_in_standing (standings d) (opened_as x ∷ []) ∙ ap (λ (ns : List EpName). ns ++ x.name ∷ [])
      (names_stand d.endpoints))
      k.transfers (one_endpoint (names_of d) x.name d.reports d.transfers (not_there x.name d.endpoints (free (is_some found) refl)) old)
    where
      found : Option Endpoint
      found = find (is_named x.name) d.endpoints

      free : (b : Bool) → is_some (find (is_named x.name) d.endpoints) ≡ b → find (is_named x.name) d.endpoints ≡ None
      free true on = absurd (causes errors.AlreadyOpen on)
      free false off = is_none (find (is_named x.name) d.endpoints) off

  cancel_tallied : (n : ℕ) → Cancels d n new → Tallied new
  cancel_tallied n k =
      as_now (names_of d) d.transfers
      (sym (names_stand new.endpoints) ∙ ap (map name_in_standing) k.endpoints
      ∙ map-set name_in_standing (standings d) n _
      ∙ ap (λ (ns : List EpName). set ns n k.endpoint.desc.name) (names_stand d.endpoints)
      ∙ set_same (names_of d) n k.endpoint.desc.name (name_at d n k.endpoint k.here))
      k.transfers old

  transfer_tallied : (cmd : Cmd) → AddsTransfer d cmd new → Tallied new
  transfer_tallied cmd k =
      as_now (names_of d) (d.transfers ++ k.transfer ∷ []) (same_names k.endpoints) k.added
      (more_transfers (names_of d) d.reports d.transfers (k.transfer ∷ [])
      ((k.unbegun.untold, record { name = k.of.desc.name; is = name_at d k.transfer.endpoint k.of k.here }), tt) old)

  iso_tallied : (n count len : ℕ) → AddsDescriptors d n count len new → Tallied new
  iso_tallied n count len k =
      as_now (names_of d) (d.transfers ++ k.more) (same_names k.endpoints) k.added
      (more_transfers (names_of d) d.reports d.transfers k.more (each k.more k.each) old)
    where
      each : (ys : List Transfer) → AllByRecursion (IsDescriptorFor n k.endpoint len) ys
          → AllByRecursion (λ (y : Transfer). (y.reported ≡ false) × HasName (names_of d) y.endpoint) ys
      each [] all = tt
      each (y ∷ ys) all = (
        (
          all.0.unbegun.untold,
          record {
            name = k.endpoint.desc.name;
            is = ap (slice_get (names_of d)) all.0.endpoint ∙ name_at d n k.endpoint k.here;
          },
        ),
        each ys all.1,
      )

  added_tallied : (cmd : Cmd) → HasNoCause d m cmd → IsAdded d cmd new → Tallied new
  added_tallied (commands.OpenEp x) causes k = open_tallied x causes k
  added_tallied (commands.Get name len by) causes k = transfer_tallied (commands.Get name len by) k
  added_tallied (commands.Put name bytes by) causes k = transfer_tallied (commands.Put name bytes by) k
  added_tallied (commands.Control name setup bytes) causes k = transfer_tallied (commands.Control name setup bytes) k
  added_tallied (commands.Iso name count len seed) causes k = iso_tallied _ count len k
  added_tallied (commands.Cancel name) causes k = cancel_tallied _ k
  added_tallied (commands.Clear name) causes k = absurd k
  added_tallied (commands.Reset port) causes k = absurd k
  added_tallied (commands.Give port) causes k = absurd k
  added_tallied (commands.DiskRead addr lba count) causes k = absurd k
  added_tallied (commands.DiskWrite addr lba bytes) causes k = absurd k
  added_tallied (commands.Revive addr) causes k = absurd k

-- ---- an event of the driver

ends_counted : (e : ℕ) (ts us : List Transfer) → length us ≡ length ts
    → ((t : ℕ) (y z : Transfer) → slice_get ts t ≡ Some y → slice_get us t ≡ Some z → z.endpoint ≡ y.endpoint)
    → count_by (is_at e) us ≡ count_by (is_at e) ts
ends_counted e [] [] long same = refl
ends_counted e [] (u ∷ us) long same = absurd (omega (arith, long))
ends_counted e (t ∷ ts) [] long same = absurd (omega (arith, long))
ends_counted e (t ∷ ts) (u ∷ us) long same =
    let a = sum_by-cons (λ z. cond (is_at e z) 1 0) u us in
    let b = sum_by-cons (λ z. cond (is_at e z) 1 0) t ts in
    let one : ◌≡◌ {A = ℕ} (cond (is_at e u) 1 0) (cond (is_at e t) 1 0) = ap (λ (i : ℕ). cond (i == e) 1 0) (same 0 t u refl refl) in
    let rest = ends_counted e ts us (omega (arith, long)) (λ i y z here there. same (suc i) y z here there) in
    omega (arith, a, b, one, rest)

ends_named : (names : List EpName) (ts us : List Transfer) → length us ≡ length ts
    → ((t : ℕ) (y z : Transfer) → slice_get ts t ≡ Some y → slice_get us t ≡ Some z → z.endpoint ≡ y.endpoint)
    → AllByRecursion (λ (y : Transfer). HasName names y.endpoint) ts → AllByRecursion (λ (y : Transfer). HasName names y.endpoint) us
ends_named names ts [] long same all = tt
ends_named names [] (u ∷ us) long same all = absurd (omega (arith, long))
ends_named names (t ∷ ts) (u ∷ us) long same all = (
  record { name = all.0.name; is = ap (slice_get names) (same 0 t u refl refl) ∙ all.0.is },
  ends_named names ts us (omega (arith, long)) (λ i y z here there. same (suc i) y z here there) all.1,
)

name_by : (o : Option Endpoint) → option_map name_of o ≡ option_map (λ (x : EpDesc). x.name) (option_map desc_of o)
name_by None = refl
name_by (Some x) = refl

names_left : (d new : DriverContent) → SameDescs d.endpoints new.endpoints → (e : ℕ) → slice_get (names_of new) e ≡ slice_get (names_of d) e
names_left d new same e =
    slice_get-map name_of new.endpoints e ∙ name_by (slice_get new.endpoints e)
    ∙ ap (option_map (λ (x : EpDesc). x.name)) (same e) ∙ sym (name_by (slice_get d.endpoints e)) ∙ sym
    (slice_get-map name_of d.endpoints e)

event_tallied : (p : Parts) → Tallied p.driver → Tallied (after_driver_row (driver_row p) p).driver
event_tallied p old =
    let new = (after_driver_row (driver_row p) p).driver in
    let c = events_count_down p in
    let k = events_keep_transfers p in
    let w : Writes (names_of p.driver) c.number c.lines p.driver.transfers new.transfers = record {
      of = each c.number c.lines c.of;
      fewer = less new c.number c.lines c.fewer;
      others = c.others;
      ends = λ e. ends_counted e p.driver.transfers new.transfers k.many (λ t y z here there. (k.later t y z here there).endpoint);
      within = ends_named (names_of p.driver) p.driver.transfers new.transfers k.many
          (λ t y z here there. (k.later t y z here there).endpoint) old.within;
    } in
    subst (λ (rs : List Report). IsTallied (names_of new) rs new.transfers) (sym c.are)
    (names_same (names_of p.driver) (names_of new) (p.driver.reports ++ c.lines) new.transfers
    (names_left p.driver new (row_left (driver_row p) p))
    (after_lines (names_of p.driver) p.driver.reports c.lines p.driver.transfers new.transfers c.number w old))
  where
    each : (i : ℕ) (ls : List Report) → AllByRecursion (IsOf p.driver i) ls
        → AllByRecursion (λ (l : Report). slice_get (names_of p.driver) i ≡ Some l.name) ls
    each i [] all = tt
    each i (l ∷ ls) all = (name_at p.driver i all.0.endpoint all.0.here ∙ ap Some (sym all.0.name), each i ls all.1)

    less : (new : DriverContent) (i : ℕ) (ls : List Report) → IsFewer p.driver new i ls
        → ((count_by (waits_for i) new.transfers + length ls ≡ count_by (waits_for i) p.driver.transfers)
        × AllByRecursion (λ (l : Report). is_of_transfer l.what ≡ true) ls) ⊎ ((l : Report) × ((ls ≡ l ∷ []) × (l.what ≡ lines.Cancel)))
    less new i ls (one_each fewer whats) = inl (fewer, whats)
    less new i ls (cancelled l one what none gone) = inr (l, (one, what))

-- ---- the run

module _ (s : Script) (fit : IsFit s) where
  first_tallied : Tallied (moment s 0).world.driver
  unfolding ticks
  first_tallied = record {
    apart = λ e f a one two. absurd (nothing e a one);
    named = tt;
    within = tt;
    adds = λ e a at none. absurd (nothing e a at);
  }
    where
      nothing : (e : ℕ) (a : EpName) → slice_get {X = EpName} [] e ≡ Some a → ⊥
      nothing zero a at = cc
      nothing (suc e) a at = cc

  module _ (k : ℕ) (old : Tallied (moment s k).world.driver) where
    abbrev w : World
    w = (moment s k).world

    goes : (os : List Left) → (moment s k).orders ≡ os → (moment s (suc k)).world ≡ (tick_at (fixed_of s) w os).world
    goes os is = ap (λ (p : OrderedWorld). p.world) (next_moment s k) ∙ ap (λ (ls : List Left). (tick_at (fixed_of s) w ls).world) is

    stays : (os : List Left) → (moment s k).orders ≡ os → (tick_at (fixed_of s) w os).world ≡ w → Tallied (moment s (suc k)).world.driver
    stays os is same = subst (λ (v : World). Tallied v.driver) (sym (goes os is ∙ same)) old

    driver : (os : List Left) → (moment s k).orders ≡ os → (tick_at (fixed_of s) w os).world ≡ driver_next w
        → Tallied (moment s (suc k)).world.driver
    driver os is next = subst (λ (v : World). Tallied v.driver) (sym (goes os is ∙ next)) (event_tallied (driver_parts w) old)

    controls : (os : List Left) → (moment s k).orders ≡ os → is_controllers os ≡ true → Tallied (moment s (suc k)).world.driver
    controls os is on =
        subst Tallied (sym ((script_tells s fit).controller k (ap is_controllers is ∙ on))) old

    command : (n : ℕ) (cmd : Cmd) (rest : List Left) → (moment s k).orders ≡ Command n cmd ∷ rest → Tallied (moment s (suc k)).world.driver
    command n cmd rest is =
        ⊎_elim (λ (r : IsRefused w n cmd (moment s (suc k)).world).
        subst (λ (v : World). Tallied v.driver) (sym r.told) (other_line
        (names_of w.driver) w.driver.reports w.driver.transfers _ refl refl old))
        (λ (a : IsAccepted w cmd (moment s (suc k)).world).
        added_tallied w.driver w.memory (moment s (suc k)).world.driver old a.untold cmd a.causes a.added)
        (script_has_causes s fit k n cmd rest is)

    by_orders : (os : List Left) → (moment s k).orders ≡ os → Tallied (moment s (suc k)).world.driver
    by_orders [] is = stays [] is refl
    by_orders (Events event zero ∷ rest) is = stays (Events event zero ∷ rest) is refl
    by_orders (Events events.D (suc n) ∷ rest) is = driver (Events events.D (suc n) ∷ rest) is refl
    by_orders (Events events.C (suc n) ∷ rest) is = controls (Events events.C (suc n) ∷ rest) is refl
    by_orders (Microframes zero ∷ rest) is = stays (Microframes zero ∷ rest) is refl
    by_orders (Microframes (suc n) ∷ rest) is = controls (Microframes (suc n) ∷ rest) is refl
    by_orders (Answer ended n ∷ rest) is = driver (Answer ended n ∷ rest) is refl
    by_orders (Command n cmd ∷ rest) is = command n cmd rest is
    by_orders (Plugs there port ∷ rest) is = stays (Plugs there port ∷ rest) is refl

  all_tallied : (k : ℕ) → Tallied (moment s k).world.driver
  all_tallied zero = first_tallied
  all_tallied (suc k) = by_orders k (all_tallied k) (moment s k).orders refl

adds_up : (d : DriverContent) → Tallied d → AddsUp d
adds_up d k e x here none = k.adds e x.desc.name (name_at d e x here) none

pub script_counts : (s : Script) → IsFit s → PendingIsCounted s
script_counts s fit = record {
  adds_up = λ k. adds_up (moment s k).world.driver (all_tallied s fit k);
  counted = λ k turn.
      let w = (moment s k).world in
      let new : (moment s (suc k)).world ≡ driver_next w =
      ap (λ (p : OrderedWorld). p.world) (next_moment s k) ∙ drivers_next (fixed_of s) w (moment s k).orders turn in
      subst (λ (v : World). IsCountedDown w.driver v.driver) (sym new) (events_count_down (driver_parts w));
  told = λ w run. closings_tell_pending w.fixed w.world;
}
