-- A command leaves each endpoint that left the ring, its transfers that wait and what is noted of them.
use Rattle.std.proofs.Common.{◌≡◌, ◌≢◌, ℕ, suc, ◌==◌, ◌&&◌, ◌||◌, not, Bool, true, false, cond, if◌then◌else◌, List, [], ◌∷◌, ◌++◌}
use Rattle.std.proofs.Common.{length, take, drop, slice_get, Some, None, Result, Ok, Err, option_map, ap, refl, sym, subst}
use Rattle.std.proofs.Common.{◌∙◌, ⊎_elim, inl, arith}
use Rattle.std.specs.Prelude.{count_by}
use Rattle.std.specs.List.{AllByRecursion}
use Rattle.std.proofs.lemmas.Bool.{true≢false}
use Rattle.std.proofs.lemmas.Option.{same_Some}
use Rattle.std.proofs.lemmas.List.Sums.{sum_by-append, sum_by-cons}
use Rattle.law_common.proofs.Booleans.{left_or}
use Rattle.law_common.proofs.Lists.{drop_first, push_which, set_here, set_there, still_there}
use Rattle.law_common.proofs.Numbers.{other_number}
use Rattle.law_driver.proofs.Common.{get_queued, of_none}
use Rattle.law_queues.proofs.Common.{one_placed}
use Rattle.law_reports.proofs.Common.{queue_open}
use Rattle.usb_base.specs.declared.commands.Cmd.{Cmd}
use Rattle.usb_base.specs.declared.commands.Cmd.TheVariants as commands
use Rattle.usb_base.specs.declared.reports.OfferError.{OfferError}
use Rattle.word_mem.specs.Memory.{Mem}
use Rattle.mem_runs.specs.Book.{holding, Stands, slot_of}
use Rattle.drv_table.specs.declared.content.Endpoint.{Endpoint}
use Rattle.drv_table.specs.declared.content.QtdNote.{QtdNote}
use Rattle.drv_table.specs.declared.content.Stage.{Stage}
use Rattle.drv_table.specs.declared.content.Transfer.{Transfer}
use Rattle.drv_table.specs.DriverContent.{DriverContent, waits_for}
use Rattle.drv_table.specs.Harvests.{note_at}
use Rattle.drv_table.specs.Offers.{offered, note_stages, new_transfer, with_queued}
use Rattle.drv_table.specs.Accepting.{Offered, new_runs}
use Rattle.drv_table.specs.Words.{needs}
use Rattle.claims_driver.specs.Leaving.{HasOwners}
use Rattle.claims_driver.specs.Owners.{Element, IsPlaced, runs_of_endpoint, runs_of_transfer}
use Rattle.claims_world.specs.Requests.{numbers_from}
use Rattle.law_driver.specs.endpoint_lives.Lives.{may_meet}
use Rattle.law_driver.specs.queued_drivers.Commands.{IsQueueOpened, IsEndOpened, IsGivenBackOf, AreEndsTaken, opened_queue, told_of}
use Rattle.law_driver.specs.queued_drivers.Commands.{left_queue}
use Rattle.law_driver.specs.queued_drivers.Commands.{IsQueueLeft, IsEndLeft, QueuesAccept}
use Rattle.law_driver.specs.queued_drivers.Queued.{queued, without_queue}
use Rattle.law_driver.specs.run_owners.Accepts.{Transfers}
use Rattle.law_driver.specs.chained_transfers.Asynchronous.{StandsAsynchronous}
use Rattle.law_driver.proofs.lemmas.queued_drivers.CommandTurns.{commands_are_of_queues}
use Rattle.law_driver.proofs.lemmas.run_owners.Chains.{notes_apart}
use Rattle.law_driver.proofs.lemmas.run_owners.Runs.{placed_run}
use Rattle.law_driver.proofs.lemmas.run_owners.Taking.{runs_taken}
use Rattle.law_driver.proofs.lemmas.run_owners.Transferred.{are_new, goes_on_alive}
use Rattle.law_driver.proofs.lemmas.chained_transfers.Queued.{not_dummy}
use Rattle.law_driver_ring.specs.told_harvests.Held.{IsOneFrom}
use Rattle.law_queues.proofs.lemmas.leaving_drivers.Leaving.{cancel_is_as_before}
use Rattle.law_world.specs.memory.Mixed.{Standing, IsMixedAt}
use Rattle.law_world.proofs.lemmas.memory.HarvestKept.{owners_of}
use Rattle.bus_world.specs.World.{World, name_in, commanded_by}
use Rattle.law_reports.specs.requests.LeftStays.{HasLeft}
use Rattle.law_reports.proofs.lemmas.requests.LeftLeaves.{LeavesIt, same_was, same_leaves}

-- ---- transfers more, of other endpoints

no_numbers : (i n : ℕ) (ys : List Transfer) → AllByRecursion (λ (y : Transfer). y.endpoint ≢ i) ys → numbers_from i n ys ≡ []
no_numbers i n [] all = refl
no_numbers i n (y ∷ ys) all =
    ap (λ (b : Bool). if b then n ∷ numbers_from i (suc n) ys else numbers_from i (suc n) ys) (other_number y.endpoint i all.0)
    ∙ no_numbers i (suc n) ys all.1

numbers_more : (i n : ℕ) (xs ys : List Transfer) → AllByRecursion (λ (y : Transfer). y.endpoint ≢ i) ys
    → numbers_from i n (xs ++ ys) ≡ numbers_from i n xs
numbers_more i n [] ys all = no_numbers i n ys all
numbers_more i n (x ∷ xs) ys all =
    ap (λ (ns : List ℕ). if x.endpoint == i then n ∷ ns else ns) (numbers_more i (suc n) xs ys all)

none_waits : (i : ℕ) (ys : List Transfer) → AllByRecursion (λ (y : Transfer). y.endpoint ≢ i) ys → count_by (waits_for i) ys ≡ 0
none_waits i [] all = refl
none_waits i (y ∷ ys) all =
    let sum = sum_by-cons (λ (z : Transfer). cond (waits_for i z) 1 0) y ys in
    let off : cond (waits_for i y) 1 0 ≡ 0 = ap (λ (b : Bool). cond {A = ℕ} (b && not y.reported) 1 0) (other_number y.endpoint i all.0) in
    let rest = none_waits i ys all.1 in
    omega (arith, sum, off, rest)

waits_more : (i : ℕ) (xs ys : List Transfer) → AllByRecursion (λ (y : Transfer). y.endpoint ≢ i) ys
    → count_by (waits_for i) (xs ++ ys) ≡ count_by (waits_for i) xs
waits_more i xs ys all =
    let sum = sum_by-append (λ (z : Transfer). cond (waits_for i z) 1 0) xs ys in
    let none = none_waits i ys all in
    omega (arith, sum, none)

-- ---- a transfer is accepted

module _ (d : DriverContent) (m : Mem) (o : Offered) (why : Transfers d m o) (stands : Stands (holding d.book m))
    (owners : HasOwners d) where
  abbrev ss : List Stage
  ss = why.asked.stages

  abbrev notes_by : List ℕ → List QtdNote
  notes_by rs = note_stages d.notes ss why.endpoint.dummy (take (length ss) rs) (drop (length ss) rs)

  notes_are : o.driver.notes ≡ notes_by (new_runs d why.holding_after)
  notes_are = ap (λ (g : Offered). g.driver.notes) why.is

  note_stays : (u b : ℕ) (y : Transfer) → slice_get d.transfers u ≡ Some y → y.released ≡ false
      → IsOneFrom (note_at d.notes) y.first y.qtds b → note_at o.driver.notes b ≡ note_at d.notes b
  note_stays u b y here held one =
      let all = runs_taken (holding d.book m) why.holding_after (needs ss) stands why.runs in
      let bs = all.blocks in
      let n = length ss in
      let new : new_runs d why.holding_after ≡ bs = ap (drop (length d.book.taken)) all.are.taken ∙ drop_first d.book.taken bs in
      let alive = goes_on_alive why.endpoint why.goes_on (owners.orderly.steady why.number why.endpoint why.here) in
      let was = owners.owned.each.dummy why.number (runs_of_endpoint why.endpoint) (ap (option_map runs_of_endpoint) why.here)
      (ap (λ q. q || why.endpoint.gone) why.queued ∙ alive) in
      let are = are_new ss owners.owner why.endpoint.dummy why.number (length d.transfers) why.some all.are was in
      let p : IsPlaced (slot_of d.book.slots) owners.owner b (Element u) =
      one_placed (slot_of d.book.slots) owners.owner d.notes u y.first y.qtds b
      (owners.owned.each.pieces u (runs_of_transfer y) (ap (option_map runs_of_transfer) here) held) one in
      ap (λ (ns : List QtdNote). note_at ns b) notes_are
      ∙ subst (λ (rs : List ℕ). note_at (notes_by rs) b ≡ note_at d.notes b) (sym new)
      (notes_apart d.notes ss why.endpoint.dummy (take n bs) (drop n bs) b (are.apart b (placed_run b (Element u) p)
      (not_dummy why.endpoint.dummy b why.number u was p)))

  taken_leaves : (i : ℕ) (z : Endpoint) → i ≢ why.number → slice_get o.driver.endpoints i ≡ Some z → LeavesIt d o.driver i z
  taken_leaves i z differs there =
      let new : Transfer = new_transfer why.number why.asked why.endpoint.dummy in
      let ts : o.driver.transfers ≡ d.transfers ++ new ∷ [] = ap (λ (g : Offered). g.driver.transfers) why.is in
      let others : AllByRecursion (λ (y : Transfer). y.endpoint ≢ i) (new ∷ []) = (λ own. differs (sym own), tt) in
      record {
        was = same_was d d.endpoints refl i z
            (sym (set_there d.endpoints why.number i _ differs) ∙ sym (ap (λ (g : Offered). slice_get g.driver.endpoints i) why.is)
            ∙ there);
        numbers = ap (numbers_from i 0) ts ∙ numbers_more i 0 d.transfers (new ∷ []) others;
        waiting_same = ap (count_by (waits_for i)) ts ∙ waits_more i d.transfers (new ∷ []) others;
        transfers = λ u y k. ap (λ (us : List Transfer). slice_get us u) ts ∙ still_there d.transfers (new ∷ []) u y k.here;
        notes = λ u b y k one. note_stays u b y k.here k.released one;
        mends = λ j q at. inl (j, sym (ap (λ (g : Offered). slice_get g.driver.mends j) why.is) ∙ at);
      }

-- ---- any command

module _ (s : Standing) (w : World) (k : IsMixedAt s w) (i : ℕ) (z : Endpoint) where
  abbrev d : DriverContent
  d = queued w.driver

  linked_met : (x : Endpoint) (c : DriverContent) → x.linked ≡ true → may_meet c i x ≡ true
  linked_met x c on = left_or x.linked _ on

  -- one that goes on is in the ring
  going_linked : (x : Endpoint) → StandsAsynchronous x → x.ended ≡ None → (b : Bool) → x.linked ≡ b → x.linked ≡ true
  going_linked x stands none true is = is
  going_linked x stands none false is = absurd (stands.ended (stands.unlinked is) none)

  module _ (o : Offered) (left : HasLeft (queued o.driver) i z) where
    abbrev Leaves : Type 0
    Leaves = LeavesIt (queued w.driver) (queued o.driver) i z

    asked : Transfers (queued w.driver) w.memory (told_of o) → Leaves
    asked why =
        taken_leaves d w.memory (told_of o) why k.now.framed.place.sound.stands (owners_of s w k) i z
        (λ own.
        let is : with_queued why.endpoint _ (length d.transfers) ≡ z =
        same_Some _ z (sym (set_here d.endpoints why.number why.endpoint _ why.here)
        ∙ sym (ap (λ (g : Offered). slice_get g.driver.endpoints why.number) why.is)
        ∙ ap (slice_get (queued o.driver).endpoints) (sym own) ∙ left.here) in
        true≢false (sym (linked_met z (queued o.driver)
        (ap (λ (x : Endpoint). x.linked) (sym is)
        ∙ going_linked why.endpoint (k.turns.turns.asynchronous.endpoints why.number why.endpoint why.here) why.goes_on why.endpoint.linked
        refl)) ∙ left.unmet)) left.here

    opened : (x : _) → IsQueueOpened w.driver w.memory x o → Leaves
    opened x r =
        let c : Offered = opened_queue w.driver x r.holding_after in
        let ends : (queued o.driver).endpoints ≡ c.driver.endpoints = ap (λ (e : DriverContent). e.endpoints) r.alike in
        same_leaves (queued w.driver) (queued o.driver) i z
        (⊎_elim (λ (old : slice_get (queued w.driver).endpoints i ≡ Some z). same_was d d.endpoints refl i z old)
        (λ new.
        absurd (left.there.linked (ap (λ (e : DriverContent). e.command) r.alike
        ∙ queue_open _ z.queue (sym (ap (λ (y : Endpoint). y.queue) new.1)))))
        (push_which d.endpoints _ i z (ap (λ (xs : List Endpoint). slice_get xs i) (sym ends) ∙ left.here)))
        (ap (λ (e : DriverContent). e.transfers) r.alike) (ap (λ (e : DriverContent). e.notes) r.alike)
        (ap (λ (e : DriverContent). e.mends) r.alike)

    bare_opened : (x : _) → IsEndOpened w.driver w.memory x o → Leaves
    bare_opened x r =
        same_leaves (queued w.driver) (queued o.driver) i z
        (⊎_elim (λ (old : slice_get (queued w.driver).endpoints i ≡ Some z). same_was d d.endpoints refl i z old)
        (λ new. absurd (true≢false (sym (ap (λ (y : Endpoint). y.gone) new.1) ∙ left.there.kept)))
        (push_which d.endpoints _ i z (ap (λ (e : DriverContent). slice_get e.endpoints i) (sym r.alike) ∙ left.here)))
        (ap (λ (e : DriverContent). e.transfers) r.alike) (ap (λ (e : DriverContent). e.notes) r.alike)
        (ap (λ (e : DriverContent). e.mends) r.alike)

    ends_taken : AreEndsTaken w.driver w.memory o → Leaves
    ends_taken r =
        let was : slice_get (queued w.driver).endpoints i ≡ Some z = ap (λ (e : DriverContent). slice_get e.endpoints i) (sym r.alike)
        ∙ left.here in
        let differs : r.number ≢ i = λ own.
        let is : without_queue r.endpoint ≡ z =
        same_Some (without_queue r.endpoint) z (sym (get_queued w.driver.endpoints r.number r.endpoint r.here
        ∙ ap (λ (x : Endpoint). Some x) (of_none r.endpoint r.isochronous)) ∙ ap (slice_get (queued w.driver).endpoints) own ∙ was) in
        true≢false (ap (λ (x : Endpoint). x.gone) is ∙ left.there.kept) in
        let others : AllByRecursion (λ (y : Transfer). y.endpoint ≢ i) r.given = all_other r.given r.each differs in
        let ts : (queued o.driver).transfers ≡ (queued w.driver).transfers ++ r.given = ap (λ (e : DriverContent). e.transfers) r.alike in
        record {
          was = same_was d d.endpoints refl i z was;
          numbers = ap (numbers_from i 0) ts ∙ numbers_more i 0 (queued w.driver).transfers r.given others;
          waiting_same = ap (count_by (waits_for i)) ts ∙ waits_more i (queued w.driver).transfers r.given others;
          transfers = λ u y q. ap (λ (us : List Transfer). slice_get us u) ts ∙ still_there (queued w.driver).transfers r.given u y q.here;
          notes = λ u b y q one. ap (λ (e : DriverContent). note_at e.notes b) r.alike;
          mends = λ j q at. inl (j, sym (ap (λ (e : DriverContent). slice_get e.mends j) r.alike) ∙ at);
        }
      where
        all_other : (ys : List Transfer) → AllByRecursion (IsGivenBackOf w.driver r.number) ys → r.number ≢ i
            → AllByRecursion (λ (y : Transfer). y.endpoint ≢ i) ys
        all_other [] all differs = tt
        all_other (y ∷ ys) all differs = (λ own. differs (sym all.0.endpoint ∙ own), all_other ys all.1 differs)

    queue_left : (name : _) → IsQueueLeft w.driver w.memory name o → Leaves
    queue_left name r =
        let b = (cancel_is_as_before d w.memory (left_queue w.driver r.number r.endpoint w.memory) k.turns.turns r.cancels).0 in
        same_leaves (queued w.driver) (queued o.driver) i z
        (b.ends i z (ap (λ (e : DriverContent). slice_get e.endpoints i) (sym r.alike) ∙ left.here))
        (ap (λ (e : DriverContent). e.transfers) r.alike) (ap (λ (e : DriverContent). e.notes) r.alike)
        (ap (λ (e : DriverContent). e.mends) r.alike)

    end_left : IsEndLeft w.driver w.memory o → Leaves
    end_left r =
        same_leaves (queued w.driver) (queued o.driver) i z
        (same_was d d.endpoints refl i z (ap (λ (e : DriverContent). slice_get e.endpoints i) (sym r.alike) ∙ left.here))
        (ap (λ (e : DriverContent). e.transfers) r.alike) (ap (λ (e : DriverContent). e.notes) r.alike)
        (ap (λ (e : DriverContent). e.mends) r.alike)

    accepted : (cmd : Cmd) → QueuesAccept w.driver w.memory o cmd → Leaves
    accepted (commands.OpenEp x) r =
        ⊎_elim (λ (q : IsQueueOpened w.driver w.memory x o). opened x q) (λ (q : IsEndOpened w.driver w.memory x o). bare_opened x q) r
    accepted (commands.Get name len by) r = asked r.asked.transfers
    accepted (commands.Put name bytes by) r = asked r.asked.transfers
    accepted (commands.Control name setup bytes) r = asked r.requested.transfers
    accepted (commands.Iso name count len seed) r = ends_taken r
    accepted (commands.Cancel name) r =
        ⊎_elim (λ (q : IsQueueLeft w.driver w.memory name o). queue_left name q) (λ (q : IsEndLeft w.driver w.memory o). end_left q) r
    accepted _ r = absurd r

  pub command_leaves : (line : ℕ) (cmd : Cmd) (r : Result Offered OfferError) → offered w.driver w.memory cmd ≡ r
      → HasLeft (queued (commanded_by w line (name_in cmd) r).driver) i z
      → LeavesIt (queued w.driver) (queued (commanded_by w line (name_in cmd) r).driver) i z
  command_leaves line cmd (Ok o) is left =
      accepted o left cmd (commands_are_of_queues w.driver w.memory cmd o k.now.framed.place.sound.owners.orderly k.turns is)
  command_leaves line cmd (Err why) is left =
      same_leaves (queued w.driver) _ i z (same_was d d.endpoints refl i z left.here) refl refl refl
