-- Endpoints that fit the budgets together are placed whenever they are opened.
use Rattle.std.proofs.Common.{◌≡◌, ℕ, zero, suc, ◌+◌, ◌-◌, ◌*◌, ◌/◌, ◌%◌, ◌≤◌, ◌<◌, Bool, true, false, cond, List, [], ◌∷◌, ◌++◌, length}
use Rattle.std.proofs.Common.{map, set, slice_get, Option, Some, None, option_map, refl, ap, sym, subst, ◌∙◌, inl, inr, ⊎_elim, arith}
use Rattle.std.specs.List.{AllByRecursion, cons_option}
use Rattle.std.specs.Prelude.{◌⊎◌, sum_by, filter_map, is_some, if◌then◌else◌, min, nat_le}
use Rattle.std.proofs.lemmas.Bool.{cond_both, cond-true}
use Rattle.std.proofs.Math.Nat.{mul-le-mul_left}
use Rattle.std.proofs.lemmas.List.{map-append, map-set}
use Rattle.std.proofs.lemmas.List.Sums.{sum_by-cons}
use Rattle.std.proofs.lemmas.Option.{same_Some, slice_get-map}
use Rattle.law_common.proofs.Lists.{set_same}
use Rattle.usb_base.specs.Cost.{bit_times, bus_time, byte_times}
use Rattle.usb_base.specs.declared.commands.Cmd.{Cmd}
use Rattle.usb_base.specs.declared.commands.Cmd.TheVariants as commands
use Rattle.usb_base.specs.declared.endpoints.EpDesc.{EpDesc}
use Rattle.usb_base.specs.declared.packets.Dir.{Dir}
use Rattle.usb_base.specs.declared.packets.Dir.TheVariants as dirs
use Rattle.usb_base.specs.declared.packets.EpKind.{EpKind}
use Rattle.usb_base.specs.declared.packets.EpKind.TheVariants as kinds
use Rattle.usb_base.specs.declared.packets.Speed.{Speed}
use Rattle.usb_base.specs.declared.packets.Speed.TheVariants as speeds
use Rattle.script_types.specs.declared.scripts.Event.TheVariants as events
use Rattle.script_types.specs.declared.scripts.Line.{Line}
use Rattle.script_types.specs.declared.scripts.Line.TheVariants as lines
use Rattle.script_types.specs.declared.scripts.Script.{Script}
use Rattle.script_fits.specs.Fits.{IsFit}
use Rattle.bandwidth.specs.declared.placements.Placed.{Placed}
use Rattle.bandwidth.specs.declared.placements.Placement.{Placement}
use Rattle.bandwidth.specs.declared.placements.Want.{Want}
use Rattle.bandwidth.specs.Admission.{joined}
use Rattle.bandwidth.specs.Placements.{has, first_in, is_classic}
use Rattle.bandwidth.specs.Sums.{is_active, start_bytes, complete_bytes, sent_bytes, price, cost_in, laid_in, time_of, cost_at, laid_at}
use Rattle.bandwidth.specs.Sums.{time_at, is_translator, load, frame_sum, tt_sum, Fits}
use Rattle.drv_periodic_table.specs.Periodic.{is_periodic, want_of, dir_of}
use Rattle.drv_table.specs.declared.content.Endpoint.{Endpoint}
use Rattle.drv_table.specs.DriverContent.{DriverContent}
use Rattle.drv_table.specs.Parts.{Parts}
use Rattle.drv_table.specs.Rows.{driver_row, after_driver_row}
use Rattle.bus_wire.specs.Bus.{fixed_of}
use Rattle.bus_world.specs.Budgets.{moment}
use Rattle.bus_world.specs.Orders.{Left, Events, Microframes, Answer, Command, Plugs, OrderedWorld, left_of, orders_of, tick_at, ticks}
use Rattle.bus_world.specs.World.{World, driver_parts, driver_next}
use Rattle.claims_driver.specs.Leaving.{IsSteady}
use Rattle.claims_answers.specs.Adding.{Standing, standing_of, standings, opened_as, AddsEndpoint, Cancels, AddsTransfer}
use Rattle.claims_answers.specs.Adding.{AddsDescriptors, IsAdded}
use Rattle.claims_answers.specs.Refusals.{HasNoPlacement}
use Rattle.claims_world.specs.Refused.{IsRefused, IsAccepted, CommandsHaveCauses}
use Rattle.law_driver.specs.planned_endpoints.Planned.{planned, placed_by, IsPlanned}
use Rattle.law_driver_ring.proofs.lemmas.walk_members.Descriptions.{desc_of, SameDescs, row_left}
use Rattle.law_world.proofs.lemmas.memory.lemmas.world_frames.Contents.{IsWhole}
use Rattle.law_world.proofs.lemmas.memory.lemmas.world_frames.Moments.{script_whole}
use Rattle.law_world.proofs.lemmas.streams.lemmas.put_laws.Moments.{next_moment}
use Rattle.law_reports.proofs.lemmas.answers.Moments.{script_has_causes}
use Rattle.law_reports.specs.answers.Together.{opened_by, opens_of, if_placed, most_cost, is_below, own_time, own_bytes, IsPlaceIn}
use Rattle.law_reports.specs.answers.Together.{HasPlace, FitTogether, FittingOpensHavePlaces}
use Rattle.claims_world.specs.Places.{OpensHavePlaces}

-- ---- what the driver has, and what is left to open

abbrev pub descs_of : DriverContent → List EpDesc
descs_of d = map desc_of d.endpoints

abbrev pub opened_left : Left → Option EpDesc
opened_left (Command n (commands.OpenEp x)) = Some x
opened_left _ = None

pub opens_left : List Left → List EpDesc
opens_left [] = []
opens_left (o ∷ os) = cons_option (opened_left o) (opens_left os)

line_opens : (l : Line) (n : ℕ) → opened_left (left_of l n) ≡ opened_by l
line_opens (lines.Command (commands.OpenEp x)) n = refl
line_opens (lines.Command (commands.Get name len by)) n = refl
line_opens (lines.Command (commands.Put name bytes by)) n = refl
line_opens (lines.Command (commands.Control name setup bytes)) n = refl
line_opens (lines.Command (commands.Iso name count len seed)) n = refl
line_opens (lines.Command (commands.Cancel name)) n = refl
line_opens (lines.Command (commands.Clear name)) n = refl
line_opens (lines.Command (commands.Reset port)) n = refl
line_opens (lines.Command (commands.Give port)) n = refl
line_opens (lines.Command (commands.DiskRead addr lba count)) n = refl
line_opens (lines.Command (commands.DiskWrite addr lba bytes)) n = refl
line_opens (lines.Command (commands.Revive addr)) n = refl
line_opens (lines.Order event count) n = refl
line_opens (lines.Micro count) n = refl
line_opens (lines.Plug port) n = refl
line_opens (lines.Unplug port) n = refl

lines_open : (ls : List (ℕ × Line)) → opens_left (orders_of ls) ≡ opens_of ls
unfolding opens_left
lines_open [] = refl
lines_open (l ∷ ls) =
    ap (λ (o : Option EpDesc). cons_option o (opens_left (orders_of ls))) (line_opens l.1 l.0)
    ∙ ap (cons_option (opened_by l.1)) (lines_open ls)

-- what was opened and what is left is no more than all, by any measure
pub record IsPartOf (xs : List EpDesc) (d : DriverContent) (os : List Left) : Type 0 where
  pub measure : (g : EpDesc → ℕ) → sum_by g (descs_of d) + sum_by g (opens_left os) ≤ sum_by g xs
  pub places : AllByRecursion HasPlace (opens_left os)

-- ---- lists

same_each : {X : Type 0} (xs ys : List X) → ((i : ℕ) → slice_get ys i ≡ slice_get xs i) → ys ≡ xs
same_each [] [] same = refl
same_each [] (y ∷ ys) same = let no : Some y ≡ None = same 0 in cc
same_each (x ∷ xs) [] same = let no : None ≡ Some x = same 0 in cc
same_each (x ∷ xs) (y ∷ ys) same = ap (λ z. z ∷ ys) (same_Some y x (same 0)) ∙ ap (λ zs. x ∷ zs) (same_each xs ys (λ i. same (suc i)))

sum_last : (g : EpDesc → ℕ) (xs : List EpDesc) (x : EpDesc) → sum_by g (xs ++ x ∷ []) ≡ sum_by g xs + g x
sum_last g [] x = let e = sum_by-cons g x [] in omega (arith, e)
sum_last g (y ∷ xs) x =
    let a = sum_by-cons g y (xs ++ x ∷ []) in let b = sum_by-cons g y xs in let h = sum_last g xs x in omega (arith, a, b, h)

-- ---- a command that is accepted

descs_stand : (xs : List Endpoint) → map (λ (z : Standing). z.desc) (map standing_of xs) ≡ map desc_of xs
descs_stand [] = refl
descs_stand (x ∷ xs) = ap (λ (ys : List EpDesc). x.desc ∷ ys) (descs_stand xs)

abbrev desc_in : Standing → EpDesc
desc_in z = z.desc

module _ (d new : DriverContent) where
  same_descs : standings new ≡ standings d → descs_of new ≡ descs_of d
  same_descs is = sym (descs_stand new.endpoints) ∙ ap (map desc_in) is ∙ descs_stand d.endpoints

  opened_descs : (x : EpDesc) → AddsEndpoint d x new → descs_of new ≡ descs_of d ++ x ∷ []
  opened_descs x k =
      sym (descs_stand new.endpoints) ∙ ap (map desc_in) k.endpoints ∙ map-append desc_in (standings d) (opened_as x ∷ [])
      ∙ ap (λ (ys : List EpDesc). ys ++ x ∷ []) (descs_stand d.endpoints)

  cancelled_descs : (n : ℕ) → Cancels d n new → descs_of new ≡ descs_of d
  cancelled_descs n k =
      sym (descs_stand new.endpoints) ∙ ap (map desc_in) k.endpoints ∙ map-set desc_in (standings d) n _
      ∙ ap (λ (ys : List EpDesc). set ys n k.endpoint.desc) (descs_stand d.endpoints)
      ∙ set_same (descs_of d) n k.endpoint.desc (slice_get-map desc_of d.endpoints n ∙ ap (option_map desc_of) k.here)

  module _ (xs : List EpDesc) (rest : List Left) where
    stays_part : (o : Left) → opened_left o ≡ None → descs_of new ≡ descs_of d → IsPartOf xs d (o ∷ rest) → IsPartOf xs new rest
    unfolding opens_left
    stays_part o none same old =
        let left : opens_left (o ∷ rest) ≡ opens_left rest = ap (λ (p : Option EpDesc). cons_option p (opens_left rest)) none in
        record {
          measure = λ g. omega (arith, old.measure g, ap (sum_by g) same, ap (sum_by g) left);
          places = subst (AllByRecursion HasPlace) left old.places;
        }

    opened_part : (n : ℕ) (x : EpDesc) → descs_of new ≡ descs_of d ++ x ∷ [] → IsPartOf xs d (Command n (commands.OpenEp x) ∷ rest)
        → IsPartOf xs new rest
    unfolding opens_left
    opened_part n x more old = record {
      measure = λ g. omega (arith, old.measure g, ap (sum_by g) more, sum_last g (descs_of d) x, sum_by-cons g x (opens_left rest));
      places = old.places.1;
    }

    added_part : (n : ℕ) (cmd : Cmd) → IsAdded d cmd new → IsPartOf xs d (Command n cmd ∷ rest) → IsPartOf xs new rest
    added_part n (commands.OpenEp x) k old = opened_part n x (opened_descs x k) old
    added_part n (commands.Get name len by) k old = stays_part (Command n (commands.Get name len by)) refl (same_descs k.endpoints) old
    added_part n (commands.Put name bytes by) k old = stays_part (Command n (commands.Put name bytes by)) refl (same_descs k.endpoints) old
    added_part n (commands.Control name setup bytes) k old =
        stays_part (Command n (commands.Control name setup bytes)) refl
        (same_descs k.endpoints) old
    added_part n (commands.Iso name count len seed) k old =
        stays_part (Command n (commands.Iso name count len seed)) refl
        (same_descs k.endpoints) old
    added_part n (commands.Cancel name) k old = stays_part (Command n (commands.Cancel name)) refl (cancelled_descs _ k) old
    added_part n (commands.Clear name) k old = absurd k
    added_part n (commands.Reset port) k old = absurd k
    added_part n (commands.Give port) k old = absurd k
    added_part n (commands.DiskRead addr lba count) k old = absurd k
    added_part n (commands.DiskWrite addr lba bytes) k old = absurd k
    added_part n (commands.Revive addr) k old = absurd k

-- a refused open is one less
refused_part : (xs : List EpDesc) (d new : DriverContent) (o : Left) (rest : List Left) → new.endpoints ≡ d.endpoints
    → IsPartOf xs d (o ∷ rest) → IsPartOf xs new rest
unfolding opens_left
refused_part xs d new o rest same old = fewer (opened_left o) refl
  where
    fewer : (p : Option EpDesc) → opened_left o ≡ p → IsPartOf xs new rest
    fewer None is = stays_part d new xs rest o is (ap (map desc_of) same) old
    fewer (Some x) is =
        let left : opens_left (o ∷ rest) ≡ x ∷ opens_left rest = ap (λ (p : Option EpDesc). cons_option p (opens_left rest)) is in
        let all : AllByRecursion HasPlace (x ∷ opens_left rest) = subst (AllByRecursion HasPlace) left old.places in
        record {
          measure = λ g.
              omega (
                arith,
                old.measure g,
                ap (λ (es : List Endpoint). sum_by g (map desc_of es)) same,
                ap (sum_by g) left,
                sum_by-cons g x (opens_left rest),
              );
          places = all.1;
        }

-- ---- the run

event_descs : (p : Parts) → descs_of (after_driver_row (driver_row p) p).driver ≡ descs_of p.driver
event_descs p =
    let new = (after_driver_row (driver_row p) p).driver in
    same_each (descs_of p.driver) (descs_of new)
    (λ i. slice_get-map desc_of new.endpoints i ∙ row_left (driver_row p) p i ∙ sym (slice_get-map desc_of p.driver.endpoints i))

module _ (s : Script) (causes : CommandsHaveCauses s) (together : FitTogether (opens_of s.lines)) where
  abbrev Part : ℕ → Type 0
  Part k = IsPartOf (opens_of s.lines) (moment s k).world.driver (moment s k).orders

  first_part : Part 0
  unfolding ticks
  first_part = record {
    measure = λ g. omega (arith, ap (sum_by g) (lines_open s.lines));
    places = subst (AllByRecursion HasPlace) (sym (lines_open s.lines)) together.places;
  }

  module _ (k : ℕ) (old : Part k) where
    abbrev w : World
    w = (moment s k).world

    abbrev after : List Left → OrderedWorld
    after os = tick_at (fixed_of s) (moment s k).world os

    goes : (os : List Left) → (moment s k).orders ≡ os → moment s (suc k) ≡ after os
    goes os is = next_moment s k ∙ ap (λ (ls : List Left). tick_at (fixed_of s) (moment s k).world ls) is

    -- what is left after an order that opens nothing
    keeps : (o : Left) (rest more : List Left) → (moment s k).orders ≡ o ∷ rest → opened_left o ≡ None → (moment s (suc k)).orders ≡ more
        → opens_left more ≡ opens_left rest → descs_of (moment s (suc k)).world.driver ≡ descs_of (moment s k).world.driver → Part (suc k)
    unfolding opens_left
    keeps o rest more is none next same descs =
        let part = stays_part (moment s k).world.driver (moment s (suc k)).world.driver (opens_of s.lines) rest o none descs
        (subst (IsPartOf (opens_of s.lines) (moment s k).world.driver) is old) in
        let left : opens_left (moment s (suc k)).orders ≡ opens_left rest = ap opens_left next ∙ same in
        record {
          measure = λ g. omega (arith, part.measure g, ap (sum_by g) left);
          places = subst (AllByRecursion HasPlace) (sym left) part.places;
        }

    as_it_was : (os : List Left) → (moment s k).orders ≡ os → (after os).world.driver ≡ (moment s k).world.driver
        → descs_of (moment s (suc k)).world.driver ≡ descs_of (moment s k).world.driver
    as_it_was os is same = ap (λ (p : OrderedWorld). descs_of p.world.driver) (goes os is) ∙ ap descs_of same

    by_driver : (os : List Left) → (moment s k).orders ≡ os → (after os).world ≡ driver_next (moment s k).world
        → descs_of (moment s (suc k)).world.driver ≡ descs_of (moment s k).world.driver
    by_driver os is next =
        ap (λ (p : OrderedWorld). descs_of p.world.driver) (goes os is) ∙ ap (λ (v : World). descs_of v.driver) next
        ∙ event_descs (driver_parts (moment s k).world)

    then_left : (os more : List Left) → (moment s k).orders ≡ os → (after os).orders ≡ more → (moment s (suc k)).orders ≡ more
    then_left os more is next = ap (λ (p : OrderedWorld). p.orders) (goes os is) ∙ next

    command : (n : ℕ) (cmd : Cmd) (rest : List Left) → (moment s k).orders ≡ Command n cmd ∷ rest → Part (suc k)
    command n cmd rest is =
        let now = subst (IsPartOf (opens_of s.lines) (moment s k).world.driver) is old in
        subst (IsPartOf (opens_of s.lines) (moment s (suc k)).world.driver) (sym (then_left (Command n cmd ∷ rest) rest is refl))
        (⊎_elim (λ (r : IsRefused (moment s k).world n cmd (moment s (suc k)).world).
        refused_part (opens_of s.lines) (moment s k).world.driver (moment s (suc k)).world.driver (Command n cmd) rest
        (ap (λ (v : World). v.driver.endpoints) r.told) now)
        (λ (a : IsAccepted (moment s k).world cmd (moment s (suc k)).world).
        added_part (moment s k).world.driver (moment s (suc k)).world.driver (opens_of s.lines) rest n cmd a.added now)
        (causes k n cmd rest is))

    nothing_left : (moment s k).orders ≡ [] → Part (suc k)
    nothing_left is =
        let descs = as_it_was [] is refl in
        let left = then_left [] [] is refl ∙ sym is in
        record {
          measure = λ g. omega (arith, old.measure g, ap (sum_by g) descs, ap (λ os. sum_by g (opens_left os)) left);
          places = subst (λ os. AllByRecursion HasPlace (opens_left os)) (sym left) old.places;
        }

    by_orders : (os : List Left) → (moment s k).orders ≡ os → Part (suc k)
    unfolding opens_left
    by_orders [] is = nothing_left is
    by_orders (Events event zero ∷ rest) is =
        keeps (Events event zero) rest rest is refl
        (then_left (Events event zero ∷ rest) rest is refl) refl (as_it_was (Events event zero ∷ rest) is refl)
    by_orders (Events events.D (suc n) ∷ rest) is =
        keeps (Events events.D (suc n)) rest (Events events.D n ∷ rest) is refl
        (then_left (Events events.D (suc n) ∷ rest) (Events events.D n ∷ rest) is refl) refl
        (by_driver (Events events.D (suc n) ∷ rest) is refl)
    by_orders (Events events.C (suc n) ∷ rest) is =
        keeps (Events events.C (suc n)) rest (Events events.C n ∷ rest) is refl
        (then_left (Events events.C (suc n) ∷ rest) (Events events.C n ∷ rest) is refl) refl
        (as_it_was (Events events.C (suc n) ∷ rest) is refl)
    by_orders (Microframes zero ∷ rest) is =
        keeps (Microframes zero) rest rest is refl (then_left (Microframes zero ∷ rest) rest is refl) refl
        (as_it_was (Microframes zero ∷ rest) is refl)
    by_orders (Microframes (suc n) ∷ rest) is =
        keeps (Microframes (suc n)) rest _ is refl (then_left (Microframes (suc n) ∷ rest) _ is refl) refl
        (as_it_was (Microframes (suc n) ∷ rest) is refl)
    by_orders (Answer ended n ∷ rest) is =
        keeps (Answer ended n) rest _ is refl (then_left (Answer ended n ∷ rest) _ is refl) refl (by_driver (Answer ended n ∷ rest) is refl)
    by_orders (Command n cmd ∷ rest) is = command n cmd rest is
    by_orders (Plugs there port ∷ rest) is =
        keeps (Plugs there port) rest rest is refl (then_left (Plugs there port ∷ rest) rest is refl) refl
        (as_it_was (Plugs there port ∷ rest) is refl)

  all_parts : (k : ℕ) → Part k
  all_parts zero = first_part
  all_parts (suc k) = by_orders k (all_parts k) (moment s k).orders refl

-- ---- what placements take

-- a longer packet takes no less
longer : (kind : EpKind) (dir : Dir) (a b : ℕ) → a ≤ b → bus_time speeds.High kind dir a ≤ bus_time speeds.High kind dir b
longer kinds.Iso dir a b le = omega (arith, le)
longer kinds.Bulk dir a b le = omega (arith, le)
longer kinds.Control dir a b le = omega (arith, le)
longer kinds.Interrupt dir a b le = omega (arith, le)

starts_within : (kind : EpKind) (dir : Dir) (bytes part : ℕ) → start_bytes kind dir bytes part ≤ bytes
starts_within kind dirs.In bytes part = omega arith
starts_within kinds.Iso dirs.Out bytes part = omega arith
starts_within kinds.Bulk dirs.Out bytes part = omega arith
starts_within kinds.Control dirs.Out bytes part = omega arith
starts_within kinds.Interrupt dirs.Out bytes part = omega arith

completes_within : (kind : EpKind) (dir : Dir) (bytes : ℕ) → complete_bytes kind dir bytes ≤ bytes
completes_within kind dirs.Out bytes = omega arith
completes_within kinds.Iso dirs.In bytes = omega arith
completes_within kinds.Bulk dirs.In bytes = omega arith
completes_within kinds.Control dirs.In bytes = omega arith
completes_within kinds.Interrupt dirs.In bytes = omega arith

module _ (n : ℕ) (x : EpDesc) (p : Placement) where
  abbrev it : Placed
  it = record { want = want_of n x; placement = p }

  priced : (bytes : ℕ) → bytes ≤ x.max → price (want_of n x) bytes ≤ most_cost x
  priced bytes le = mul-le-mul_left x.multi (longer x.kind (dir_of x.name.way) bytes x.max le)

  sent_within : (part : ℕ) → sent_bytes (want_of n x) part ≤ x.max
  sent_within part =
      cond_both (is_classic x.speed) (start_bytes x.kind (dir_of x.name.way) x.max part) x.max (λ b. b ≤ x.max)
      (λ _. starts_within x.kind (dir_of x.name.way) x.max part) (λ _. omega arith)

  cost_within : (m : ℕ) → cost_in (want_of n x) p m ≤ most_cost x
  cost_within m =
      cond_both (has p.smask m) (price (want_of n x) (sent_bytes (want_of n x) (m - first_in p.smask))) _ (λ c. c ≤ most_cost x)
      (λ _. priced (sent_bytes (want_of n x) (m - first_in p.smask)) (sent_within (m - first_in p.smask)))
      (λ _. cond_both (has p.cmask m) (price (want_of n x) (complete_bytes x.kind (dir_of x.name.way) x.max)) 0 (λ c. c ≤ most_cost x)
      (λ _. priced (complete_bytes x.kind (dir_of x.name.way) x.max) (completes_within x.kind (dir_of x.name.way) x.max))
      (λ _. omega arith))

  costs : (u : ℕ) → cost_at u (record { want = want_of n x; placement = p }) ≤ most_cost x
  costs u =
      cond_both (is_active p (u / 8)) (cost_in (want_of n x) p (u % 8)) 0 (λ c. c ≤ most_cost x) (λ _. cost_within (u % 8))
      (λ _. omega arith)

  times : (hub port f : ℕ)
      → (if is_translator (want_of n x) hub port then time_at f (record { want = want_of n x; placement = p }) else 0) ≤ own_time hub port x
  times hub port f =
      cond_both (is_translator (want_of n x) hub port) (time_at f (record { want = want_of n x; placement = p })) 0
      (λ c. c ≤ own_time hub port x)
      (λ t.
      subst (λ (c : ℕ). time_at f (record { want = want_of n x; placement = p }) ≤ c)
      (sym (cond-true (is_below hub port x) (time_of (want_of n x)) 0 t))
      (cond_both (is_active p f) (time_of (want_of n x)) 0 (λ c. c ≤ time_of (want_of n x)) (λ _. omega arith) (λ _. omega arith)))
      (λ _. omega arith)

  laid_within : (m : ℕ) → laid_in (want_of n x) p m ≤ byte_times x.speed x.kind x.max
  laid_within m =
      cond_both (nat_le (first_in p.smask) m) _ 0 (λ c. c ≤ byte_times x.speed x.kind x.max) (λ _. omega arith)
      (λ _. omega arith)

  lays : (hub port u : ℕ)
      → (if is_translator (want_of n x) hub port then laid_at u (record { want = want_of n x; placement = p }) else 0) ≤ own_bytes hub
      port x
  lays hub port u =
      cond_both (is_translator (want_of n x) hub port) (laid_at u (record { want = want_of n x; placement = p })) 0
      (λ c. c ≤ own_bytes hub port x)
      (λ t.
      subst (λ (c : ℕ). laid_at u (record { want = want_of n x; placement = p }) ≤ c)
      (sym (cond-true (is_below hub port x) (byte_times x.speed x.kind x.max) 0 t))
      (cond_both (is_active p (u / 8)) (laid_in (want_of n x) p (u % 8)) 0 (λ c. c ≤ byte_times x.speed x.kind x.max)
      (λ _. laid_within (u % 8)) (λ _. omega arith)))
      (λ _. omega arith)

-- ---- all that is placed

-- by a measure that no placement of an endpoint passes
abbrev IsBound : (Placed → ℕ) → (EpDesc → ℕ) → Type 0
IsBound f g = (n : ℕ) (x : EpDesc) (p : Placement) → f (record { want = want_of n x; placement = p }) ≤ g x

module _ (f : Placed → ℕ) (g : EpDesc → ℕ) (bound : IsBound f g) where
  one_placed : (n : ℕ) (x : Endpoint) (gone : Bool) (o : Option Placement) → is_some o ≡ is_periodic x.desc.kind
      → sum_by f (placed_by n x.desc gone o) ≤ if_placed g x.desc
  one_placed n x true o is = omega arith
  one_placed n x false None is = omega arith
  one_placed n x false (Some p) is =
      let e = sum_by-cons f (record { want = want_of n x.desc; placement = p }) [] in
      let t : if_placed g x.desc ≡ g x.desc = cond-true (is_periodic x.desc.kind) (g x.desc) 0 (sym is) in
      omega (arith, e, t, bound n x.desc p)

  sum_both : (xs ys : List Placed) → sum_by f (xs ++ ys) ≡ sum_by f xs + sum_by f ys
  sum_both [] ys = omega arith
  sum_both (x ∷ xs) ys = omega (arith, sum_by-cons f x (xs ++ ys), sum_by-cons f x xs, sum_both xs ys)

  all_placed : (n : ℕ) (xs : List Endpoint) → ((e : ℕ) (x : Endpoint) → slice_get xs e ≡ Some x → IsSteady x)
      → sum_by f (planned n xs) ≤ sum_by (if_placed g) (map desc_of xs)
  all_placed n [] steady = omega arith
  all_placed n (x ∷ xs) steady =
      omega (
        arith,
        sum_both (placed_by n x.desc x.gone x.placement) (planned (suc n) xs),
        sum_by-cons (if_placed g) x.desc (map desc_of xs),
        one_placed n x x.gone x.placement (steady 0 x refl).placed,
        all_placed (suc n) xs (λ e y here. steady (suc e) y here),
      )

  with_one : (d : DriverContent) (x : EpDesc) (p : Placement) → IsWhole d → is_periodic x.kind ≡ true
      → sum_by f (joined d.periodic.plan.placed (want_of (length d.endpoints) x) p) ≤ sum_by (if_placed g) (descs_of d) + if_placed g x
  with_one d x p whole periodic =
      let y : Placed = record { want = want_of (length d.endpoints) x; placement = p } in
      omega (
        arith,
        sum_both d.periodic.plan.placed (y ∷ []),
        sum_by-cons f y [],
        ap (sum_by f) whole.planned,
        all_placed 0 d.endpoints whole.owners.orderly.steady,
        bound (length d.endpoints) x p,
        cond-true (is_periodic x.kind) (g x) 0 periodic,
      )

module _ (s : Script) (fit : IsFit s) (causes : CommandsHaveCauses s) (together : FitTogether (opens_of s.lines)) (k n : ℕ) (x : EpDesc)
    (rest : List Left)
    (is : (moment s k).orders ≡ Command n (commands.OpenEp x) ∷ rest) (periodic : is_periodic x.kind ≡ true) where
  abbrev d : DriverContent
  d = (moment s k).world.driver

  part : IsPartOf (opens_of s.lines) (moment s k).world.driver (Command n (commands.OpenEp x) ∷ rest)
  part = subst (IsPartOf (opens_of s.lines) (moment s k).world.driver) is (all_parts s causes together k)

  place : IsPlaceIn d.periodic.plan.rules (length d.endpoints) x
  unfolding opens_left
  place = part.places.0 (moment s k).world.driver.periodic.plan.rules (length (moment s k).world.driver.endpoints) periodic

  within : (f : Placed → ℕ) (g : EpDesc → ℕ) (budget : ℕ) (p : Placement) → IsBound f g → sum_by (if_placed g) (opens_of s.lines) ≤ budget
      → sum_by f (joined (moment s k).world.driver.periodic.plan.placed (want_of (length (moment s k).world.driver.endpoints) x) p) ≤ budget
  unfolding opens_left
  within f g budget p bound le =
      omega (
        arith,
        with_one f g bound (moment s k).world.driver x p (script_whole s fit k) periodic,
        part.measure (if_placed g),
        sum_by-cons (if_placed g) x (opens_left rest),
        le,
      )

  fits : (p : Placement)
      → Fits (joined (moment s k).world.driver.periodic.plan.placed (want_of (length (moment s k).world.driver.endpoints) x) p)
  fits p = record {
    loads = λ u lt. within (cost_at u) most_cost _ p (λ m y q. costs m y q u) together.loads;
    frames = λ hub port f a b lt. within (λ (y : Placed). if is_translator y.want hub port then time_at f y else 0) (own_time hub port) _
        p (λ m y q. times m y q hub port f) (together.frames hub port a b);
    bytes = λ hub port u a b lt. within (λ (y : Placed). if is_translator y.want hub port then laid_at u y else 0) (own_bytes hub port) _
        p (λ m y q. lays m y q hub port u) (together.bytes hub port a b);
  }

pub opens_have_places : (s : Script) → IsFit s → CommandsHaveCauses s → FitTogether (opens_of s.lines) → OpensHavePlaces s
opens_have_places s fit causes together k n x rest is none =
    let here = place s fit causes together k n x rest is none.0 in
    none.1 here.index here.placement here.here (fits s fit causes together k n x rest is none.0 here.placement)

pub fitting_opens_have_places : FittingOpensHavePlaces
fitting_opens_have_places s fit together = opens_have_places s fit (script_has_causes s fit) together
