-- What is given back: all else stands as before.
use Rattle.std.proofs.Common.{◌≡◌, ◌≢◌, ℕ, zero, suc, ◌==◌, Bool, true, false, not, ◌&&◌, ◌||◌, cond, List, [], ◌∷◌, length, map, set, take, slice_get, Option, Some, None, option_map, ap, sym, subst, ◌∙◌, ⊎_elim, refl}
use Rattle.std.proofs.lemmas.Bool.{cases_eq, cases_Bool, false≢true}
use Rattle.std.proofs.lemmas.List.{length-set}
use Rattle.std.proofs.lemmas.Option.{same_Some, slice_get-map}
use Rattle.law_common.proofs.Numbers.{same_number, other_number}
use Rattle.law_common.proofs.Lists.{set_here, set_there}
use Rattle.word_mem.specs.Memory.{Mem}
use Rattle.mem_runs.specs.Book.{Holding, holding, slot_of, slot_at, release_slot, release_run}
use Rattle.mem_runs.specs.declared.slots.Slot.{Slot}
use Rattle.mem_runs.specs.declared.slots.Slot.TheVariants.{Empty, Lends}
use Rattle.drv_table.specs.declared.content.Endpoint.{Endpoint}
use Rattle.drv_table.specs.declared.content.Transfer.{Transfer}
use Rattle.drv_table.specs.declared.content.QtdNote.{QtdNote}
use Rattle.drv_periodic_table.specs.declared.content.DescriptorNote.{DescriptorNote}
use Rattle.drv_periodic_table.specs.Periodic.{PeriodicContent}
use Rattle.drv_table.specs.DriverContent.{DriverContent, waits_for}
use Rattle.drv_table.specs.Harvests.{note_at}
use Rattle.drv_table.specs.Parts.{Parts}
use Rattle.drv_table.specs.Releases.{free_runs, free_qtd, free_qtds, free_transfers, free_endpoint, freed_by, after_transfer, after_endpoint, is_held_of, is_told, cancel_told, let_go}
use Rattle.drv_table.specs.Removals.{free_descriptor, free_descriptors, after_descriptor, after_placed, free_placed, let_go_waiting, let_go_placed}
use Rattle.drv_table.specs.Kinds.{is_iso}
use Rattle.claims_driver.specs.Owners.{Owner, QueueHead, Dummy, Element, Described, Buffer, IsRunFor, EndpointRuns, TransferRuns, is_descriptor, runs_of_endpoint, runs_of_transfer, endpoint_in, transfer_in, note_in, descriptor_in, Views, views_of, AreOwned, IsOwned}
use Rattle.claims_driver.specs.Leaving.{IsOrderly}
use Rattle.law_driver.proofs.lemmas.run_owners.Runs.{owned_kept}
use Rattle.law_driver.proofs.lemmas.run_owners.Freeing.{runs_freed, qtds_freed, transfers_freed, descriptor_freed, descriptors_freed}

-- ---- as many slots

many_slot : (h : Holding) (b : ℕ) (s : Slot) → length (release_slot h b s).book.slots ≡ length h.book.slots
many_slot h b (Lends r) = length-set h.book.slots b Empty
many_slot h b _ = refl

many_runs : (h : Holding) (bs : List ℕ) → length (free_runs h bs).book.slots ≡ length h.book.slots
many_runs h [] = refl
many_runs h (b ∷ bs) = many_runs (release_run h b) bs ∙ many_slot h b (slot_at h b)

pub many_qtds : (notes : List QtdNote) (h : Holding) (b n : ℕ) → length (free_qtds notes h b n).book.slots ≡ length h.book.slots
unfolding free_qtds
many_qtds notes h b zero = refl
many_qtds notes h b (suc n) =
    many_qtds notes (free_qtd h b (note_at notes b)) (note_at notes b).next n ∙ many_runs h (b ∷ take (note_at notes b).runs (note_at notes b).buffer)

many_held : (b : Bool) (h g : Holding) → length g.book.slots ≡ length h.book.slots → length (cond b g h).book.slots ≡ length h.book.slots
many_held true h g same = same
many_held false h g same = refl

many_transfers : (notes : List QtdNote) (e : ℕ) (h : Holding) (ts : List Transfer) → length (free_transfers notes e h ts).book.slots ≡ length h.book.slots
unfolding free_transfers
many_transfers notes e h [] = refl
many_transfers notes e h (y ∷ ts) =
    many_transfers notes e (cond (is_held_of e y) (free_qtds notes h y.first y.qtds) h) ts
    ∙ many_held (is_held_of e y) h (free_qtds notes h y.first y.qtds) (many_qtds notes h y.first y.qtds)

many_descriptor : (notes : List DescriptorNote) (h : Holding) (b : ℕ) → length (free_descriptor notes h b).book.slots ≡ length h.book.slots
many_descriptor notes h b = many_runs h (b ∷ (descriptor_in notes b).buffer)

many_descriptors : (notes : List DescriptorNote) (e : ℕ) (h : Holding) (ts : List Transfer) → length (free_descriptors notes e h ts).book.slots ≡ length h.book.slots
unfolding free_descriptors
many_descriptors notes e h [] = refl
many_descriptors notes e h (y ∷ ts) =
    many_descriptors notes e (cond (waits_for e y) (free_descriptor notes h y.first) h) ts
    ∙ many_held (waits_for e y) h (free_descriptor notes h y.first) (many_descriptor notes h y.first)

-- ---- tests of numbers

pub same_by_test : (m n : ℕ) → (m == n) ≡ true → m ≡ n
same_by_test m n test = ⊎_elim (λ (same : m ≡ n). same) (λ (differs : m ≢ n). absurd (false≢true (sym (other_number m n differs) ∙ test))) (cases_eq m n)

-- ---- a transfer

goes_transfer : ℕ → Owner → Bool
goes_transfer t (Element u) = u == t
goes_transfer t (Described split u) = u == t
goes_transfer t (Buffer u) = u == t
goes_transfer t _ = false

other_transfers : (ts : List Transfer) (t : ℕ) (x : Transfer) (u : ℕ) (y : TransferRuns) → slice_get ts t ≡ Some x → transfer_in (set ts t (record x { released = true })) u ≡ Some y → y.released ≡ false → (u ≢ t) × (transfer_in ts u ≡ Some y)
other_transfers ts t x u y here there on =
    ⊎_elim
    (λ (same : u ≡ t).
    let is : Some (runs_of_transfer (record x { released = true })) ≡ Some y =
    sym (ap (option_map runs_of_transfer) (set_here ts t x (record x { released = true }) here)) ∙ ap (λ k. transfer_in (set ts t (record x { released = true })) k) (sym same) ∙ there in
    let r : true ≡ y.released = ap (λ (z : TransferRuns). z.released) (same_Some _ y is) in
    absurd (false≢true (sym on ∙ sym r)))
    (λ (differs : u ≢ t). (differs, sym (ap (option_map runs_of_transfer) (set_there ts t u (record x { released = true }) differs)) ∙ there))
    (cases_eq u t)

pub transfer_owned : (p : Parts) (t : ℕ) (owner : ℕ → Owner) (x : Transfer) → slice_get p.driver.transfers t ≡ Some x → x.released ≡ false → IsOwned p.driver owner → IsOwned (after_transfer p t (Some x) (freed_by p.driver (holding p.driver.book p.memory) (Some x))).driver owner
unfolding goes_transfer
transfer_owned p t owner x here on old =
    let d = p.driver in
    let h = holding d.book p.memory in
    let g = free_qtds d.notes h x.first x.qtds in
    let pieces = old.each.pieces t (runs_of_transfer x) (ap (option_map runs_of_transfer) here) on in
    record {
      each = owned_kept (views_of d) (record (views_of d) { slot = slot_of g.book.slots; transfer = transfer_in (set d.transfers t (record x { released = true })) }) owner (goes_transfer t)
          (record {
            list = refl;
            head = refl;
            runs = λ c stays run. subst (λ (s : Slot). IsRunFor (owner c) s) (sym (qtds_freed (slot_of d.book.slots) owner (goes_transfer t) d.notes h t x.first x.qtds c stays (same_number t) (same_number t) pieces)) run;
            endpoints = λ e y there gone. (there, record { queue = refl; dummy = refl });
            transfers = λ u y there gone.
                let o = other_transfers d.transfers t x u y here there gone in
                (o.1, record { element = other_number u t o.0; descriptor = λ split. other_number u t o.0; buffer = other_number u t o.0 });
            notes = λ c. refl;
            buffers = λ c. refl;
          })
          old.each;
      sizes = old.sizes ∙ sym (many_qtds d.notes h x.first x.qtds);
      as_many = old.as_many ∙ sym (many_qtds d.notes h x.first x.qtds);
    }

-- a descriptor
pub descriptor_owned : (p : Parts) (t : ℕ) (owner : ℕ → Owner) (x : Transfer) → slice_get p.driver.transfers t ≡ Some x → is_descriptor x.sort ≡ true → x.released ≡ false → IsOwned p.driver owner → IsOwned (after_descriptor p t (Some x)).driver owner
unfolding goes_transfer
descriptor_owned p t owner x here sort on old =
    let d = p.driver in
    let h = holding d.book p.memory in
    let g = free_descriptor d.periodic.notes h x.first in
    let is = old.each.described t (runs_of_transfer x) (ap (option_map runs_of_transfer) here) sort on in
    record {
      each = owned_kept (views_of d) (record (views_of d) { slot = slot_of g.book.slots; transfer = transfer_in (set d.transfers t (record x { released = true })) }) owner (goes_transfer t)
          (record {
            list = refl;
            head = refl;
            runs = λ c stays run. subst (λ (s : Slot). IsRunFor (owner c) s) (sym (descriptor_freed (slot_of d.book.slots) owner (goes_transfer t) d.periodic.notes h t x.first c stays (λ split. same_number t) (same_number t) is)) run;
            endpoints = λ e y there gone. (there, record { queue = refl; dummy = refl });
            transfers = λ u y there gone.
                let o = other_transfers d.transfers t x u y here there gone in
                (o.1, record { element = other_number u t o.0; descriptor = λ split. other_number u t o.0; buffer = other_number u t o.0 });
            notes = λ c. refl;
            buffers = λ c. refl;
          })
          old.each;
      sizes = old.sizes ∙ sym (many_descriptor d.periodic.notes h x.first);
      as_many = old.as_many ∙ sym (many_descriptor d.periodic.notes h x.first);
    }

-- ---- an endpoint

held_at : ℕ → Option Transfer → Bool
held_at e None = false
held_at e (Some y) = is_held_of e y

goes_endpoint : ℕ → List Transfer → Owner → Bool
goes_endpoint e ts (QueueHead u) = u == e
goes_endpoint e ts (Dummy u) = u == e
goes_endpoint e ts (Element t) = held_at e (slice_get ts t)
goes_endpoint e ts (Described split t) = held_at e (slice_get ts t)
goes_endpoint e ts (Buffer t) = held_at e (slice_get ts t)
goes_endpoint e ts _ = false

other_endpoints : (xs : List Endpoint) (e : ℕ) (x : Endpoint) (u : ℕ) (y : EndpointRuns) → slice_get xs e ≡ Some x → endpoint_in (set xs e (record x { gone = true })) u ≡ Some y → y.bare ≡ false → (u ≢ e) × (endpoint_in xs u ≡ Some y)
other_endpoints xs e x u y here there on =
    ⊎_elim
    (λ (same : u ≡ e).
    let is : Some (runs_of_endpoint (record x { gone = true })) ≡ Some y =
    sym (ap (option_map runs_of_endpoint) (set_here xs e x (record x { gone = true }) here)) ∙ ap (λ k. endpoint_in (set xs e (record x { gone = true })) k) (sym same) ∙ there in
    let r : is_iso x.desc.kind || true ≡ y.bare = ap (λ (z : EndpointRuns). z.bare) (same_Some _ y is) in
    absurd (false≢true (sym on ∙ sym r ∙ or_true (is_iso x.desc.kind))))
    (λ (differs : u ≢ e). (differs, sym (ap (option_map runs_of_endpoint) (set_there xs e u (record x { gone = true }) differs)) ∙ there))
    (cases_eq u e)
  where
    or_true : (b : Bool) → b || true ≡ true
    or_true true = refl
    or_true false = refl

-- a transfer that isn't given back is another endpoint's
kept_one : (e : ℕ) (told : Bool) (b : Bool) (z : Transfer) (y : TransferRuns) → (z.endpoint == e) ≡ b → runs_of_transfer (cond b (record z { reported = z.reported || told; released = true }) z) ≡ y → y.released ≡ false → (runs_of_transfer z ≡ y) × (is_held_of e z ≡ false)
kept_one e told true z y test is on = absurd (false≢true (sym on ∙ sym (ap (λ (r : TransferRuns). r.released) is)))
kept_one e told false z y test is on = (is, ap (λ b. b && not z.released) test)

-- what tells runs, and what left the frames, is the same
pub record AreUntouched (d f : DriverContent) : Type 0 where
  pub endpoints : f.endpoints ≡ d.endpoints
  pub transfers : f.transfers ≡ d.transfers
  pub notes : f.notes ≡ d.notes
  pub periodic : f.periodic ≡ d.periodic

kept_transfer : (e : ℕ) (told : Bool) (o : Option Transfer) (y : TransferRuns) → option_map runs_of_transfer (option_map (let_go e told) o) ≡ Some y → y.released ≡ false → (option_map runs_of_transfer o ≡ Some y) × (held_at e o ≡ false)
unfolding held_at
kept_transfer e told None y there on = absurd (cc)
kept_transfer e told (Some z) y there on =
    let k = kept_one e told (z.endpoint == e) z y refl (same_Some (runs_of_transfer (let_go e told z)) y there) on in
    (ap Some k.0, k.1)

told_is : (d e : DriverContent) (b : Bool) → e.endpoints ≡ d.endpoints → e.transfers ≡ d.transfers → e.notes ≡ d.notes → e.periodic ≡ d.periodic → AreUntouched d (cond b e d)
told_is d e true xs ts ns ps = record { endpoints = xs; transfers = ts; notes = ns; periodic = ps }
told_is d e false xs ts ns ps = record { endpoints = refl; transfers = refl; notes = refl; periodic = refl }

pub cancel_same : (d : DriverContent) (m : Mem) (e : ℕ) (x : Endpoint) → AreUntouched d (cancel_told d m e x)
cancel_same d m e x = told_is d _ (is_told x) refl refl refl refl

-- what is left of the content once an endpoint's runs were given back
abbrev left_views : DriverContent → Holding → ℕ → Endpoint → List Transfer → Views
left_views d g e x ts = record (views_of d) { slot = slot_of g.book.slots; endpoint = endpoint_in (set d.endpoints e (record x { gone = true })); transfer = transfer_in ts }

endpoint_each : (d : DriverContent) (m : Mem) (e : ℕ) (owner : ℕ → Owner) (x : Endpoint) (told : Bool) → slice_get d.endpoints e ≡ Some x → x.gone ≡ false → is_iso x.desc.kind ≡ false → IsOwned d owner → AreOwned (left_views d (free_endpoint d e x (holding d.book m)) e x (map (let_go e told) d.transfers)) owner
unfolding goes_endpoint held_at
endpoint_each d m e owner x told here on queued old =
    let h = holding d.book m in
    let goes = goes_endpoint e d.transfers in
    let ring = ap (option_map runs_of_endpoint) here in
    let bare : is_iso x.desc.kind || x.gone ≡ false = ap (λ b. b || x.gone) queued ∙ on in
    let queue = old.each.queue e (runs_of_endpoint x) ring bare in
    let dummy = old.each.dummy e (runs_of_endpoint x) ring bare in
    owned_kept (views_of d) (left_views d (free_endpoint d e x h) e x (map (let_go e told) d.transfers)) owner goes
    (record {
      list = refl;
      head = refl;
      runs = λ c stays run.
          let away : (b : ℕ) (o : Owner) → goes o ≡ true → owner b ≡ o → c ≢ b = λ b o gone is same. false≢true (sym stays ∙ ap (λ k. goes (owner k)) same ∙ ap goes is ∙ gone) in
          let first = runs_freed h (x.queue ∷ x.dummy ∷ []) c (away x.queue (QueueHead e) (same_number e) queue.owned, (away x.dummy (Dummy e) (same_number e) dummy.owned, tt)) in
          let rest = transfers_freed (slot_of d.book.slots) owner goes d.notes e c 0 (free_runs h (x.queue ∷ x.dummy ∷ [])) d.transfers stays
          (λ i y there held.
          let test : held_at e (slice_get d.transfers i) ≡ true = ap (held_at e) there ∙ held in
          (i, test, test, old.each.pieces i (runs_of_transfer y) (ap (option_map runs_of_transfer) there) (held_kept e y held))) in
          subst (λ (s : Slot). IsRunFor (owner c) s) (sym (rest ∙ first)) run;
      endpoints = λ u y there gone.
          let o = other_endpoints d.endpoints e x u y here there gone in
          (o.1, record { queue = other_number u e o.0; dummy = other_number u e o.0 });
      transfers = λ t y there gone.
          let k = kept_transfer e told (slice_get d.transfers t) y (sym (ap (option_map runs_of_transfer) (slice_get-map (let_go e told) d.transfers t)) ∙ there) gone in
          (k.0, record { element = k.1; descriptor = λ split. k.1; buffer = k.1 });
      notes = λ c. refl;
      buffers = λ c. refl;
    })
    old.each
  where
    held_kept : (e : ℕ) (y : Transfer) → is_held_of e y ≡ true → y.released ≡ false
    held_kept e y held = two (y.endpoint == e) y.released held
      where
        two : (a b : Bool) → a && not b ≡ true → b ≡ false
        two a false t = refl
        two true true t = absurd (false≢true t)
        two false true t = absurd (false≢true t)

-- the same of a content in which only the report differs
owned_told : (d f : DriverContent) (g : Holding) (e : ℕ) (owner : ℕ → Owner) (x : Endpoint) (go : Transfer → Transfer) → AreUntouched d f → AreOwned (left_views d g e x (map go d.transfers)) owner → AreOwned (left_views f g e x (map go f.transfers)) owner
owned_told d f g e owner x go same old =
    subst (λ (ns : List DescriptorNote). AreOwned (record (left_views f g e x (map go f.transfers)) { descriptor = descriptor_in ns }) owner) (sym (ap (λ (q : PeriodicContent). q.notes) same.periodic))
    (subst (λ (ns : List QtdNote). AreOwned (record (left_views d g e x (map go f.transfers)) { endpoint = endpoint_in (set f.endpoints e (record x { gone = true })); note = note_in ns }) owner) (sym same.notes)
    (subst (λ (xs : List Endpoint). AreOwned (record (left_views d g e x (map go f.transfers)) { endpoint = endpoint_in (set xs e (record x { gone = true })) }) owner) (sym same.endpoints)
    (subst (λ (ts : List Transfer). AreOwned (left_views d g e x (map go ts)) owner) (sym same.transfers) old)))

pub endpoint_owned : (p : Parts) (e : ℕ) (owner : ℕ → Owner) (x : Endpoint) → slice_get p.driver.endpoints e ≡ Some x → x.gone ≡ false → is_iso x.desc.kind ≡ false → IsOwned p.driver owner → IsOwned (after_endpoint p e (Some x)).driver owner
endpoint_owned p e owner x here on queued old =
    let d = p.driver in
    let h = holding d.book p.memory in
    let same = cancel_same d p.memory e x in
    let many = many_transfers d.notes e (free_runs h (x.queue ∷ x.dummy ∷ [])) d.transfers ∙ many_runs h (x.queue ∷ x.dummy ∷ []) in
    record {
      each = owned_told d (cancel_told d p.memory e x) (free_endpoint d e x h) e owner x (let_go e (is_told x)) same (endpoint_each d p.memory e owner x (is_told x) here on queued old);
      sizes = ap length same.notes ∙ (old.sizes ∙ sym many);
      as_many = ap (λ (q : PeriodicContent). length q.notes) same.periodic ∙ (old.as_many ∙ sym many);
    }

-- ---- a periodic endpoint

-- a transfer that waits at an isochronous endpoint goes with it
waits_at : ℕ → Option Transfer → Bool
waits_at e None = false
waits_at e (Some y) = waits_for e y

goes_placed : ℕ → List Transfer → Owner → Bool
goes_placed e ts (Described split t) = waits_at e (slice_get ts t)
goes_placed e ts (Buffer t) = waits_at e (slice_get ts t)
goes_placed e ts _ = false

waiting_one : (e : ℕ) (told : Bool) (b : Bool) (z : Transfer) (y : TransferRuns) → waits_for e z ≡ b → runs_of_transfer (cond b (record z { reported = z.reported || told; released = true }) z) ≡ y → y.released ≡ false → (runs_of_transfer z ≡ y) × (waits_for e z ≡ false)
waiting_one e told true z y test is on = absurd (false≢true (sym on ∙ sym (ap (λ (r : TransferRuns). r.released) is)))
waiting_one e told false z y test is on = (is, test)

kept_waiting : (e : ℕ) (told : Bool) (o : Option Transfer) (y : TransferRuns) → option_map runs_of_transfer (option_map (let_go_waiting e told) o) ≡ Some y → y.released ≡ false → (option_map runs_of_transfer o ≡ Some y) × (waits_at e o ≡ false)
unfolding waits_at
kept_waiting e told None y there on = absurd (cc)
kept_waiting e told (Some z) y there on =
    let k = waiting_one e told (waits_for e z) z y refl (same_Some (runs_of_transfer (let_go_waiting e told z)) y there) on in
    (ap Some k.0, k.1)

-- what waits at an isochronous endpoint that wasn't given back is a descriptor that wasn't either
waiting_is : (d : DriverContent) (e t : ℕ) (x : Endpoint) (y : Transfer) → slice_get d.endpoints e ≡ Some x → x.gone ≡ false → is_iso x.desc.kind ≡ true → slice_get d.transfers t ≡ Some y → waits_for e y ≡ true → IsOrderly d → (is_descriptor y.sort ≡ true) × (y.released ≡ false)
waiting_is d e t x y here alive iso there waits order =
    let both = two (y.endpoint == e) y.reported waits in
    let at : slice_get d.endpoints y.endpoint ≡ Some x = ap (slice_get d.endpoints) (same_by_test y.endpoint e both.0) ∙ here in (
      order.sorts t y x there at ∙ iso,
      ⊎_elim (λ (on : y.released ≡ true). absurd (false≢true (sym alive ∙ order.untold t y there on both.1 x at))) (λ (off : y.released ≡ false). off) (cases_Bool y.released),
    )
  where
    two : (a b : Bool) → a && not b ≡ true → (a ≡ true) × (b ≡ false)
    two true false w = (refl, refl)
    two true true w = absurd (false≢true w)
    two false b w = absurd (false≢true w)

placed_each : (d : DriverContent) (m : Mem) (e : ℕ) (owner : ℕ → Owner) (x : Endpoint) (told : Bool) → slice_get d.endpoints e ≡ Some x → x.gone ≡ false → is_iso x.desc.kind ≡ true → IsOrderly d → IsOwned d owner → AreOwned (left_views d (free_descriptors d.periodic.notes e (holding d.book m) d.transfers) e x (map (let_go_waiting e told) d.transfers)) owner
unfolding goes_placed waits_at
placed_each d m e owner x told here on iso order old =
    let h = holding d.book m in
    let goes = goes_placed e d.transfers in
    owned_kept (views_of d) (left_views d (free_descriptors d.periodic.notes e h d.transfers) e x (map (let_go_waiting e told) d.transfers)) owner goes
    (record {
      list = refl;
      head = refl;
      runs = λ c stays run.
          let freed = descriptors_freed (slot_of d.book.slots) owner goes d.periodic.notes e c h d.transfers stays
          (λ t y there waits.
          let test : waits_at e (slice_get d.transfers t) ≡ true = ap (waits_at e) there ∙ waits in
          let is = waiting_is d e t x y here on iso there waits order in
          (t, (λ split. test), test, old.each.described t (runs_of_transfer y) (ap (option_map runs_of_transfer) there) is.0 is.1)) in
          subst (λ (s : Slot). IsRunFor (owner c) s) (sym freed) run;
      endpoints = λ u y there bare.
          let o = other_endpoints d.endpoints e x u y here there bare in
          (o.1, record { queue = refl; dummy = refl });
      transfers = λ t y there gone.
          let k = kept_waiting e told (slice_get d.transfers t) y (sym (ap (option_map runs_of_transfer) (slice_get-map (let_go_waiting e told) d.transfers t)) ∙ there) gone in
          (k.0, record { element = refl; descriptor = λ split. k.1; buffer = k.1 });
      notes = λ c. refl;
      buffers = λ c. refl;
    })
    old.each

placed_by : (d : DriverContent) (m : Mem) (e : ℕ) (owner : ℕ → Owner) (x : Endpoint) (told : Bool) (iso : Bool) → is_iso x.desc.kind ≡ iso → slice_get d.endpoints e ≡ Some x → x.gone ≡ false → IsOrderly d → IsOwned d owner → AreOwned (left_views d (cond iso (free_descriptors d.periodic.notes e (holding d.book m) d.transfers) (free_endpoint d e x (holding d.book m))) e x (map (let_go_placed iso e told) d.transfers)) owner
placed_by d m e owner x told true is here on order old = placed_each d m e owner x told here on is order old
placed_by d m e owner x told false is here on order old = endpoint_each d m e owner x told here on is old

many_placed : (d : DriverContent) (m : Mem) (e : ℕ) (x : Endpoint) (iso : Bool) → length (cond iso (free_descriptors d.periodic.notes e (holding d.book m) d.transfers) (free_endpoint d e x (holding d.book m))).book.slots ≡ length d.book.slots
many_placed d m e x true = many_descriptors d.periodic.notes e (holding d.book m) d.transfers
many_placed d m e x false =
    many_transfers d.notes e (free_runs (holding d.book m) (x.queue ∷ x.dummy ∷ [])) d.transfers ∙ many_runs (holding d.book m) (x.queue ∷ x.dummy ∷ [])

pub placed_owned : (p : Parts) (e : ℕ) (owner : ℕ → Owner) (x : Endpoint) → slice_get p.driver.endpoints e ≡ Some x → x.gone ≡ false → IsOrderly p.driver → IsOwned p.driver owner → IsOwned (after_placed p e (Some x)).driver owner
placed_owned p e owner x here on order old =
    let d = p.driver in
    let h = holding d.book p.memory in
    let same = cancel_same d p.memory e x in
    let iso = is_iso x.desc.kind in
    let many = many_placed d p.memory e x iso in
    record {
      each = owned_told d (cancel_told d p.memory e x) (free_placed d e x h) e owner x (let_go_placed iso e (is_told x)) same (placed_by d p.memory e owner x (is_told x) iso refl here on order old);
      sizes = ap length same.notes ∙ (old.sizes ∙ sym many);
      as_many = ap (λ (q : PeriodicContent). length q.notes) same.periodic ∙ (old.as_many ∙ sym many);
    }
