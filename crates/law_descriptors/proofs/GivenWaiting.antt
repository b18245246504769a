-- An isochronous endpoint is given back, with each descriptor that waits there and its buffer.
use Rattle.std.proofs.Common.{◌≡◌, ◌≢◌, ℕ, zero, suc, ◌*◌, ◌⊎◌, Bool, true, false, not, if◌then◌else◌, List, [], ◌∷◌, ◌++◌, map, set, Option, Some, None, option_map, ⊎_elim, inl, inr, ap, refl, sym, subst, ◌∙◌, arith}
use Rattle.std.specs.Prelude.{◌||◌, slice_get, slice_set}
use Rattle.std.specs.List.{list_any}
use Rattle.std.proofs.lemmas.Bool.{true≢false, false≢true, eqb-true, eq-eqb, cases_eq, and_parts, or_cases}
use Rattle.std.proofs.lemmas.Option.{same_Some, slice_get-map}
use Rattle.law_common.proofs.Booleans.{right_or, left_or, both_true}
use Rattle.law_driver.proofs.Common.{waits_is}
use Rattle.law_driver_ring.proofs.Common.{runs_joined}
use Rattle.law_common.proofs.Lists.{set_here, set_there}
use Rattle.word_mem.specs.Memory.{Mem}
use Rattle.mem_runs.specs.Book.{Holding, holding, slot_of, Stands}
use Rattle.drv_periodic_table.specs.declared.content.DescriptorNote.{DescriptorNote}
use Rattle.drv_periodic_table.specs.declared.content.Removed.TheVariants as removed
use Rattle.drv_periodic_table.specs.Periodic.{PeriodicContent, is_periodic}
use Rattle.drv_table.specs.declared.content.Endpoint.{Endpoint}
use Rattle.drv_table.specs.declared.content.Transfer.{Transfer}
use Rattle.drv_table.specs.declared.content.Turn.TheVariants as turns
use Rattle.drv_table.specs.declared.content.QtdNote.{QtdNote}
use Rattle.drv_table.specs.DriverContent.{DriverContent, waits_for}
use Rattle.drv_table.specs.Parts.{Parts}
use Rattle.drv_table.specs.Kinds.{is_iso}
use Rattle.drv_table.specs.Releases.{is_told, cancel_told, free_runs, free_endpoint}
use Rattle.drv_table.specs.Removals.{free_descriptor, free_descriptors, let_go_placed, let_go_waiting, unplaced, after_placed}
use Rattle.claims_driver.specs.Owners.{TransferRuns, Views, is_descriptor, runs_of_endpoint, runs_of_transfer, endpoint_in, note_in, descriptor_in, IsDescribed, views_of, IsOneOf}
use Rattle.claims_driver.specs.Leaving.{leaves_frames, HasOwners}
use Rattle.law_driver.proofs.lemmas.run_owners.Freeing.{descriptors_freed}
use Rattle.law_driver.proofs.lemmas.run_owners.Released.{AreUntouched, cancel_same}
use Rattle.law_driver.specs.listed_members.Members.{IsListed}
use Rattle.hc_core.specs.Controller.{Content}
use Rattle.law_structures.specs.lent_structures.Structures.{StructureSets, Tells}
use Rattle.law_ring.specs.Hand.{Hand}
use Rattle.claims_base.specs.Controller.{Base}
use Rattle.law_driver_ring.specs.Inventory.{IsLent}
use Rattle.law_driver_ring.proofs.Freeing.{runs_less}
use Rattle.law_frames.specs.Met.{Kind}
use Rattle.law_frames.specs.FrameHand.{FrameHand}
use Rattle.law_controller.specs.frame_control.Both.{RunsBoth}
use Rattle.law_descriptors.specs.Both.{both}
use Rattle.law_descriptors.specs.PartLaws.{IsDescribing}
use Rattle.law_descriptors.specs.Told.{IsToldBy, with_memory, as_parts}
use Rattle.law_descriptors.specs.Meeting.{standing_in, or_recent, met}
use Rattle.law_descriptors.specs.Recent.{AreRecent}
use Rattle.law_descriptors.specs.Returned.{IsGivenBack}
use Rattle.law_descriptors.specs.Given.{without_owners, begins_at, waits_as, waiting_at, WaitingTold, WaitingRunsBoth}
use Rattle.law_descriptors.proofs.Returning.{frames_owed, endpoint_counts}
use Rattle.law_descriptors.proofs.Waiting.{waiting_are_unmet}
use Rattle.law_descriptors.proofs.GivenViews.{goes_with, IsGoing, DescriptorsGo, told_without}
use Rattle.law_descriptors.proofs.GivenTold.{IsGoneRun, freed_told, runs_without}
use Rattle.law_descriptors.proofs.GivenBoth.{lent_before, gone_run}

-- ---- one of a list

any_there : {X : Type 0} (p : X → Bool) (xs : List X) (i : ℕ) (x : X) → slice_get xs i ≡ Some x → p x ≡ true → list_any p xs ≡ true
any_there p [] i x here on = absurd (cc)
any_there p (z ∷ xs) zero x here on = left_or (p z) (list_any p xs) (ap p (same_Some z x here) ∙ on)
any_there p (z ∷ xs) (suc i) x here on = right_or (p z) (list_any p xs) (any_there p xs i x here on)

record IsFoundAt {X : Type 0} (p : X → Bool) (xs : List X) : Type 0 where
  index : ℕ
  found : X
  here : slice_get xs index ≡ Some found
  passes : p found ≡ true

any_found : {X : Type 0} (p : X → Bool) (xs : List X) → list_any p xs ≡ true → IsFoundAt p xs
any_found p [] any = absurd (false≢true any)
any_found p (x ∷ xs) any =
    ⊎_elim (λ (on : p x ≡ true). record { index = 0; found = x; here = refl; passes = on })
    (λ (later : list_any p xs ≡ true). let f = any_found p xs later in record { index = suc f.index; found = f.found; here = f.here; passes = f.passes })
    (or_cases (p x) (list_any p xs) any)

one_of_two : (c : ℕ) (bs cs : List ℕ) → IsOneOf c (bs ++ cs) → IsOneOf c bs ⊎ IsOneOf c cs
one_of_two c [] cs among = inr among
one_of_two c (b ∷ bs) cs (inl same) = inl (inl same)
one_of_two c (b ∷ bs) cs (inr among) = ⊎_elim (λ (one : IsOneOf c bs). inl (inr one)) (λ (other : IsOneOf c cs). inr other) (one_of_two c bs cs among)

-- ---- the runs of those that wait

abbrev its_blocks : List DescriptorNote → Transfer → List ℕ
its_blocks notes y = y.first ∷ (descriptor_in notes y.first).buffer

abbrev waiting_blocks : List DescriptorNote → ℕ → List Transfer → List ℕ
waiting_blocks notes e [] = []
waiting_blocks notes e (y ∷ ys) = if waits_for e y then its_blocks notes y ++ waiting_blocks notes e ys else waiting_blocks notes e ys

waiting_are_runs : (notes : List DescriptorNote) (e : ℕ) (h : Holding) (ys : List Transfer) → free_descriptors notes e h ys ≡ free_runs h (waiting_blocks notes e ys)
unfolding free_descriptors
waiting_are_runs notes e h [] = refl
waiting_are_runs notes e h (y ∷ ys) = by (waits_for e y) (λ g. waiting_are_runs notes e g ys)
  where
    by : (b : Bool) → ((g : Holding) → free_descriptors notes e g ys ≡ free_runs g (waiting_blocks notes e ys))
        → free_descriptors notes e (if b then free_descriptor notes h y.first else h) ys ≡ free_runs h (if b then its_blocks notes y ++ waiting_blocks notes e ys else waiting_blocks notes e ys)
    by true rest = rest (free_descriptor notes h y.first) ∙ sym (runs_joined h (its_blocks notes y) (waiting_blocks notes e ys))
    by false rest = rest h

-- the transfer of one of them
record IsWaitingRun (notes : List DescriptorNote) (e : ℕ) (ys : List Transfer) (c : ℕ) : Type 0 where
  index : ℕ
  transfer : Transfer
  here : slice_get ys index ≡ Some transfer
  waits : waits_for e transfer ≡ true
  among : IsOneOf c (its_blocks notes transfer)

waiting_run : (notes : List DescriptorNote) (e : ℕ) (ys : List Transfer) (c : ℕ) → IsOneOf c (waiting_blocks notes e ys) → IsWaitingRun notes e ys c
waiting_run notes e [] c among = absurd among
waiting_run notes e (y ∷ ys) c among = by (waits_for e y) refl among (λ rest. later (waiting_run notes e ys c rest))
  where
    later : IsWaitingRun notes e ys c → IsWaitingRun notes e (y ∷ ys) c
    later r = record { index = suc r.index; transfer = r.transfer; here = r.here; waits = r.waits; among = r.among }

    by : (b : Bool) → waits_for e y ≡ b → IsOneOf c (if b then its_blocks notes y ++ waiting_blocks notes e ys else waiting_blocks notes e ys)
        → (IsOneOf c (waiting_blocks notes e ys) → IsWaitingRun notes e (y ∷ ys) c) → IsWaitingRun notes e (y ∷ ys) c
    by true waits one behind =
        ⊎_elim (λ (mine : IsOneOf c (its_blocks notes y)). record { index = 0; transfer = y; here = refl; waits = waits; among = mine })
        (λ (rest : IsOneOf c (waiting_blocks notes e ys)). behind rest) (one_of_two c (its_blocks notes y) (waiting_blocks notes e ys) one)
    by false waits one behind = behind one

-- ---- a transfer

abbrev waits_in : ℕ → Option Transfer → Bool
waits_in e None = false
waits_in e (Some y) = waits_for e y

record IsWaitingIn (e : ℕ) (o : Option Transfer) : Type 0 where
  transfer : Transfer
  here : o ≡ Some transfer
  waits : waits_for e transfer ≡ true

waiting_in : (e : ℕ) (o : Option Transfer) → waits_in e o ≡ true → IsWaitingIn e o
waiting_in e None on = absurd (false≢true on)
waiting_in e (Some y) on = record { transfer = y; here = refl; waits = on }

others_same : (e : ℕ) (told : Bool) (o : Option Transfer) → waits_in e o ≡ false → option_map runs_of_transfer (option_map (let_go_waiting e told) o) ≡ option_map runs_of_transfer o
others_same e told None off = refl
others_same e told (Some y) off = ap (λ (b : Bool). Some (runs_of_transfer (if b then record y { reported = y.reported || told; released = true } else y))) off

let_go_is : (e : ℕ) (told : Bool) (y : Transfer) → waits_for e y ≡ true → runs_of_transfer (let_go_waiting e told y) ≡ record (runs_of_transfer y) { released = true }
let_go_is e told y on = ap (λ (b : Bool). runs_of_transfer (if b then record y { reported = y.reported || told; released = true } else y)) on

module _ (p : Parts) (e : ℕ) (x : Endpoint) (has : HasOwners p.driver) (why : IsGivenBack p (removed.Endpoint e)) (here : slice_get p.driver.endpoints e ≡ Some x) (iso : is_iso x.desc.kind ≡ true) (f : DriverContent) (same : AreUntouched p.driver f) where
  abbrev v : Views
  v = views_of p.driver

  abbrev h : Holding
  h = holding p.driver.book p.memory

  abbrev freed : Bool → Holding
  freed b = if b then free_descriptors p.driver.periodic.notes e h p.driver.transfers else free_endpoint p.driver e x h

  abbrev after : Bool → Parts
  after b =
      record p {
        driver = record f {
          book = (freed b).book;
          endpoints = slice_set f.endpoints e (record x { gone = true });
          transfers = map (let_go_placed b e (is_told x)) f.transfers;
          turn = turns.Harvest;
          periodic = unplaced f.periodic e;
        };
        memory = (freed b).memory;
      }

  abbrev w : Views
  w = views_of (after true).driver

  abbrev gone : ℕ → Bool
  gone u = waits_in e (slice_get p.driver.transfers u)

  abbrev blocks : List ℕ
  blocks = waiting_blocks p.driver.periodic.notes e p.driver.transfers

  stays : x.gone ≡ false
  stays =
      let counts = endpoint_counts e p.driver.periodic.removals 0 why.due.removal why.due.first why.due.is in
      let most = has.orderly.removed e in
      let owes_it : leaves_frames (slice_get p.driver.endpoints e) ≡ (if x.chained || x.gone || not (is_periodic x.desc.kind) then 0 else 1) = ap leaves_frames here in
      frames_owed x.chained x.gone (is_periodic x.desc.kind) (omega (arith, counts, most, owes_it))

  at_its : (y : Transfer) → waits_for e y ≡ true → slice_get p.driver.endpoints y.endpoint ≡ Some x
  at_its y waits = ap (slice_get p.driver.endpoints) (waits_is e y waits).0 ∙ here

  sort_is : (u : ℕ) (y : Transfer) → slice_get p.driver.transfers u ≡ Some y → waits_for e y ≡ true → is_descriptor y.sort ≡ true
  sort_is u y there waits = has.orderly.sorts u y x there (at_its y waits) ∙ iso

  held_is : (u : ℕ) (y : Transfer) → slice_get p.driver.transfers u ≡ Some y → waits_for e y ≡ true → y.released ≡ false
  held_is u y there waits = by y.released refl
    where
      by : (b : Bool) → y.released ≡ b → y.released ≡ false
      by true on = absurd (true≢false (sym (has.orderly.untold u y there on (waits_is e y waits).1 x (at_its y waits)) ∙ stays))
      by false off = off

  described : (u : ℕ) (y : Transfer) → slice_get p.driver.transfers u ≡ Some y → waits_for e y ≡ true → IsDescribed v.slot has.owner (v.descriptor y.first) u y.first
  described u y there waits = has.owned.each.described u (runs_of_transfer y) (ap (option_map runs_of_transfer) there) (sort_is u y there waits) (held_is u y there waits)

  transfer_now : (u : ℕ) → w.transfer u ≡ option_map runs_of_transfer (option_map (let_go_waiting e (is_told x)) (slice_get p.driver.transfers u))
  transfer_now u =
      ap (λ (ts : List Transfer). option_map runs_of_transfer (slice_get (map (let_go_waiting e (is_told x)) ts) u)) same.transfers
      ∙ ap (option_map runs_of_transfer) (slice_get-map (let_go_waiting e (is_told x)) p.driver.transfers u)

  going : (u : ℕ) → gone u ≡ true → IsGoing v w u
  going u on =
      let q : IsWaitingIn e (slice_get p.driver.transfers u) = waiting_in e (slice_get p.driver.transfers u) on in
      record {
        transfer = runs_of_transfer q.transfer;
        here = ap (option_map runs_of_transfer) q.here;
        isochronous = sort_is u q.transfer q.here q.waits;
        held = held_is u q.transfer q.here q.waits;
        now = λ z at.
            let is : record (runs_of_transfer q.transfer) { released = true } ≡ z =
            sym (let_go_is e (is_told x) q.transfer q.waits)
            ∙ same_Some (runs_of_transfer (let_go_waiting e (is_told x) q.transfer)) z
            (sym (ap (λ (o : Option Transfer). option_map runs_of_transfer (option_map (let_go_waiting e (is_told x)) o)) q.here) ∙ sym (transfer_now u) ∙ at) in
            (ap (λ (r : TransferRuns). r.isochronous) (sym is) ∙ sort_is u q.transfer q.here q.waits, ap (λ (r : TransferRuns). r.released) (sym is));
      }

  -- an isochronous endpoint has no queue, before and after
  endpoint_same : (u : ℕ) → endpoint_in (set p.driver.endpoints e (record x { gone = true })) u ≡ endpoint_in p.driver.endpoints u
  endpoint_same u =
      ⊎_elim
      (λ (is : u ≡ e).
      ap (endpoint_in (set p.driver.endpoints e (record x { gone = true }))) is ∙ ap (option_map runs_of_endpoint) (set_here p.driver.endpoints e x (record x { gone = true }) here)
      ∙ ap (λ (b : Bool). Some (record { queue = x.queue; dummy = x.dummy; bare = b || true })) iso
      ∙ sym (ap (λ (b : Bool). Some (record { queue = x.queue; dummy = x.dummy; bare = b || x.gone })) iso)
      ∙ sym (ap (option_map runs_of_endpoint) here) ∙ ap (endpoint_in p.driver.endpoints) (sym is))
      (λ (differs : u ≢ e). ap (option_map runs_of_endpoint) (set_there p.driver.endpoints e u (record x { gone = true }) differs)) (cases_eq u e)

  freed_is : freed true ≡ free_runs h blocks
  freed_is = waiting_are_runs p.driver.periodic.notes e h p.driver.transfers

  goes : DescriptorsGo v w has.owner gone (waiting_at p.driver e)
  goes = record {
    owned = has.owned.each;
    each = going;
    others = λ u off. transfer_now u ∙ others_same e (is_told x) (slice_get p.driver.transfers u) off;
    lent = λ c lent.
        lent_before (slot_of (free_runs h blocks).book.slots c) (slot_of p.driver.book.slots c) (runs_less h blocks c) (subst (λ (g : Holding). IsLent (slot_of g.book.slots c)) freed_is lent);
    kept = λ c off.
        descriptors_freed (slot_of p.driver.book.slots) has.owner (goes_with gone) p.driver.periodic.notes e c h p.driver.transfers off
        (λ u y there waits. let on : gone u ≡ true = ap (waits_in e) there ∙ waits in (u, (λ split. on), on, described u y there waits));
    endpoints = λ u. ap (λ (xs : List Endpoint). endpoint_in (set xs e (record x { gone = true })) u) same.endpoints ∙ endpoint_same u;
    notes = λ b. ap (λ (ns : List QtdNote). note_in ns b) same.notes;
    descriptors = λ b. ap (λ (q : PeriodicContent). descriptor_in q.notes b) same.periodic;
    named = λ u z at on.
        let q : IsWaitingIn e (slice_get p.driver.transfers u) = waiting_in e (slice_get p.driver.transfers u) on in
        let is : runs_of_transfer q.transfer ≡ z = same_Some (runs_of_transfer q.transfer) z (sym (ap (option_map runs_of_transfer) q.here) ∙ at) in
        any_there (waits_as e (32 * z.first)) p.driver.transfers u q.transfer q.here
        (both_true (waits_for e q.transfer) (begins_at q.transfer.first (32 * z.first)) q.waits (eq-eqb (32 * z.first) (32 * q.transfer.first) (ap (λ (r : TransferRuns). 32 * r.first) (sym is))));
    back = λ n on.
        let q : IsFoundAt (waits_as e n) p.driver.transfers = any_found (waits_as e n) p.driver.transfers on in
        let a = and_parts (waits_for e q.found) (begins_at q.found.first n) q.passes in
        record {
          number = q.index;
          transfer = runs_of_transfer q.found;
          here = ap (option_map runs_of_transfer) q.here;
          goes = ap (waits_in e) q.here ∙ a.0;
          name = eqb-true n (32 * q.found.first) a.1;
        };
  }

  run_gone : (c : ℕ) → IsOneOf c blocks → IsGoneRun v has.owner gone c
  run_gone c among =
      let r : IsWaitingRun p.driver.periodic.notes e p.driver.transfers c = waiting_run p.driver.periodic.notes e p.driver.transfers c among in
      gone_run v has.owner gone r.index r.transfer.first (runs_of_transfer r.transfer) c (ap (option_map runs_of_transfer) r.here) (sort_is r.index r.transfer r.here r.waits)
      (ap (waits_in e) r.here ∙ r.waits) (described r.index r.transfer r.here r.waits) r.among

  pub waiting_told_by : (descs parts : StructureSets) → IsToldBy v descs parts → IsToldBy (views_of (after (is_iso x.desc.kind)).driver) (without_owners descs (waiting_at p.driver e)) parts
  waiting_told_by descs parts told =
      subst (λ (b : Bool). IsToldBy (views_of (after b).driver) (without_owners descs (waiting_at p.driver e)) parts) (sym iso)
      (told_without v w has.owner gone (waiting_at p.driver e) goes descs parts told)

  unmet : (recent : ℕ → Option Kind) (index : ℕ) → IsListed p.driver → AreRecent p.driver index recent → (n : ℕ) → waiting_at p.driver e n ≡ true → met p.driver recent n ≡ None
  unmet recent index listed are n on =
      let q : IsFoundAt (waits_as e n) p.driver.transfers = any_found (waits_as e n) p.driver.transfers on in
      let a = and_parts (waits_for e q.found) (begins_at q.found.first n) q.passes in
      ap (met p.driver recent) (eqb-true n (32 * q.found.first) a.1) ∙ waiting_are_unmet p recent index e q.index x q.found has listed are why here iso q.here (sort_is q.index q.found q.here a.0) a.0

  pub waiting_runs_by : (base : Base) (member : ℕ → Bool) (recent : ℕ → Option Kind) (index : ℕ) (descs parts : StructureSets) (hand : Hand) (frame : FrameHand) (c : Content)
      → c.memory ≡ p.memory → IsListed p.driver → Stands h → AreRecent p.driver index recent → IsToldBy v descs parts
      → RunsBoth base member (met p.driver recent) (both descs parts) hand frame c
      → RunsBoth base member (met (after (is_iso x.desc.kind)).driver recent) (both (without_owners descs (waiting_at p.driver e)) parts) hand frame (with_memory c (after (is_iso x.desc.kind)).memory)
  waiting_runs_by base member recent index descs parts hand frame c memory listed stands are told runs =
      let k : IsDescribing p.driver descs parts = record { owners = has; driven = told.driven; described = told.described } in
      let fewer : StructureSets = without_owners descs (waiting_at p.driver e) in
      subst (λ (b : Bool). RunsBoth base member (met (after b).driver recent) (both fewer parts) hand frame (with_memory c (after b).memory)) (sym iso)
      (subst (λ (q : PeriodicContent). RunsBoth base member (λ n. or_recent (standing_in q n) (recent n)) (both fewer parts) hand frame (with_memory c (freed true).memory)) (sym same.periodic)
      (runs_without p.driver p.memory descs parts k told.extents stands w gone (waiting_at p.driver e) goes base member (met p.driver recent) hand frame c (freed true).memory runs
      (subst (λ (g : Holding). Tells g.memory (both fewer parts)) (sym freed_is)
      (freed_told p.driver p.memory descs parts k told.extents stands w gone (waiting_at p.driver e) goes blocks run_gone (subst (λ (m : Mem). Tells m (both descs parts)) memory runs.ring.tells)))
      (unmet recent index listed are)))

pub waiting_told : WaitingTold
waiting_told p e x descs parts has why here iso told =
    subst (λ (o : Option Endpoint). IsToldBy (views_of (after_placed p e o).driver) (without_owners descs (waiting_at p.driver e)) parts) (sym here)
    (waiting_told_by p e x has why here iso (cancel_told p.driver p.memory e x) (cancel_same p.driver p.memory e x) descs parts told)

pub waiting_runs_both : WaitingRunsBoth
waiting_runs_both base member recent descs parts hand frame c index d e x has listed stands are why here iso told runs =
    let p : Parts = as_parts c d in
    subst (λ (o : Option Endpoint). RunsBoth base member (met (after_placed p e o).driver recent) (both (without_owners descs (waiting_at d e)) parts) hand frame
    (with_memory c (after_placed p e o).memory)) (sym here)
    (waiting_runs_by p e x has why here iso (cancel_told d c.memory e x) (cancel_same d c.memory e x) base member recent index descs parts hand frame c refl listed stands are told runs)
