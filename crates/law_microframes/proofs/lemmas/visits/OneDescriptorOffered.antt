-- Each command, accepted or refused, leaves of an endpoint and a frame at most one descriptor active: those that are taken on have no frame yet.
use Rattle.std.proofs.Common.{◌≡◌, ◌≢◌, ℕ, zero, suc, ◌+◌, ◌*◌, ◌/◌, ◌<◌, ◌≤◌, ◌⊎◌, Bool, true, false, if◌then◌else◌, List, [], ◌∷◌, ◌++◌, length, drop, slice_get, get_or, Option, Some, None, Result, Ok, Err, option_map, refl, ap, sym, subst, ◌∙◌, ⊎_elim, inl, inr, arith, length-append, length-drop}
use Rattle.std.specs.Prelude.{slice_index, is_none}
use Rattle.std.proofs.lemmas.Bool.{false≢true, true≢false, cases_lt}
use Rattle.std.proofs.lemmas.Option.{same_Some}
use Rattle.law_driver.proofs.Common.{blocks_run}
use Rattle.law_common.proofs.Lists.{drop_first}
use Rattle.usb_base.specs.declared.commands.Cmd.{Cmd}
use Rattle.usb_base.specs.declared.reports.OfferError.{OfferError}
use Rattle.word_mem.specs.Memory.{Mem, is_lent}
use Rattle.word_mem.specs.Runs.{Run}
use Rattle.mem_runs.specs.declared.slots.Slot.{Slot}
use Rattle.mem_runs.specs.declared.slots.Slot.TheVariants.{Empty, Keeps, Lends}
use Rattle.mem_runs.specs.Book.{Book, Holding, holding, slot_of, Stands, store, store_words}
use Rattle.mem_runs.proofs.Standing.{lends_at, lends_all}
use Rattle.drv_chains.specs.declared.members.Member.{Member}
use Rattle.bandwidth.specs.declared.placements.Placement.{Placement}
use Rattle.drv_periodic_table.specs.Periodic.{note_at}
use Rattle.drv_periodic_table.specs.Descriptors.{is_served}
use Rattle.drv_table.specs.declared.content.Endpoint.{Endpoint}
use Rattle.drv_table.specs.declared.content.Transfer.{Transfer}
use Rattle.drv_table.specs.declared.content.Slots.{Slots}
use Rattle.drv_table.specs.declared.content.Command.{Command}
use Rattle.drv_table.specs.declared.content.Command.TheVariants as unfinished
use Rattle.drv_table.specs.DriverContent.{DriverContent}
use Rattle.drv_table.specs.Accepting.{Offered, new_runs, first_waiting}
use Rattle.drv_table.specs.Offers.{offered}
use Rattle.drv_table.specs.Words.{buffer_needs}
use Rattle.drv_table.specs.IsoOffers.{Descriptors, descriptor_transfer, slot_runs, all_descriptors, iso_needs, total_of, entered_iso}
use Rattle.drv_table.specs.CancelOffers.{with_cancel, accepted_unchain, endpoint_members}
use Rattle.drv_table.specs.Commands.{finished}
use Rattle.claims_driver.specs.Owners.{Described, IsPlaced, HasBlocks, HasRun, is_descriptor, runs_of_transfer, IsOneOf}
use Rattle.law_driver.specs.run_owners.Accepts.{Chains, Describes, Accepts, opens, chains, places, transfers, describes, cancels, unchains}
use Rattle.law_driver.proofs.lemmas.run_owners.Taking.{AreTaken, runs_taken}
use Rattle.law_driver.proofs.lemmas.run_owners.Accepted.{fresh_differs}
use Rattle.law_driver.proofs.lemmas.run_owners.Commands.{each_command_has_its_reason}
use Rattle.law_driver.proofs.lemmas.run_owners.Stays.{begun_notes}
use Rattle.claims_driver.specs.LentRuns.{begins_in, still_lends, AreLent}
use Rattle.law_driver.specs.in_place.InPlace.{IsSound}
use Rattle.claims_driver.specs.FrameListMembers.{framed_of, framed_in, is_chained}
use Rattle.law_driver.proofs.lemmas.listed_members.Stays.{endpoint_set}
use Rattle.law_driver.proofs.lemmas.listed_members.Events.{in_frames}
use Rattle.law_driver_ring.proofs.Lists.{at_one}
use Rattle.law_driver_ring.proofs.Offered.{opens_leave}
use Rattle.law_driver_ring.proofs.Sending.{transfer_leaves}
use Rattle.law_structures.specs.lent_structures.Changes.{Leaves}
use Rattle.claims_driver.specs.DueMembers.{framed_to}
use Rattle.law_descriptors.proofs.Accepted.{made, all_transfers, notes_other}
use Rattle.law_descriptors.proofs.CommandAccepting.{describes_leaves}
use Rattle.law_descriptors.proofs.LendAccepting.{one_dropped}
use Rattle.bus_world.specs.World.{World, name_in, commanded_by}
use Rattle.law_world.specs.memory.Mixed.{Standing, IsMixedAt}
use Rattle.law_microframes.specs.visits.Visited.{IsFramedAs}
use Rattle.law_microframes.specs.visits.OneDescriptor.{HasOneActive, IsActiveTransfer, WasActive, CommandKeepsOneActive, CommandStartsNew}
use Rattle.law_microframes.proofs.lemmas.visits.OneDescriptorWords.{AreCalm, same, stays_served}
use Rattle.law_microframes.proofs.lemmas.visits.OneDescriptorStores.{both_calm, all_calm, words_calm, other_run}
use Rattle.law_microframes.proofs.lemmas.visits.OneDescriptorRows.{Back, Out, from_itself, back_same, done_transfers, done_notes}
use Rattle.law_microframes.proofs.lemmas.visits.OneDescriptorDriven.{Follows, noted_same}
use Rattle.law_microframes.proofs.lemmas.visits.OneDescriptorWorlds.{goes_on, was_active}
use Rattle.law_microframes.proofs.lemmas.visits.BelongIso.{IsLater, which, made_is}

-- ---- memory

lent_calm : (d : DriverContent) (m new : Mem) (t : ℕ) (y : Transfer) → IsSound m d → AreLent d → d.command ≡ None → Leaves m new → slice_get d.transfers t ≡ Some y → is_descriptor y.sort ≡ true → y.released ≡ false
    → AreCalm (note_at d.periodic.notes y.first).split m new y.first
lent_calm d m new t y sound lent idle leaves here sort held = by (slot_of d.book.slots b) refl placed.run
  where
    b : ℕ
    b = y.first

    split : Bool
    split = (note_at d.periodic.notes y.first).split

    placed : IsPlaced (slot_of d.book.slots) sound.owners.owner y.first (Described (note_at d.periodic.notes y.first).split t)
    placed = (sound.owners.owned.each.described t (runs_of_transfer y) (ap (option_map runs_of_transfer) here) sort held).descriptor

    none_kept : (r : Run) → slot_of d.book.slots y.first ≡ Keeps r → ⊥
    none_kept r is =
        let none = lent.lent (ap (λ (c : Option Command). still_lends c d.made) idle) in
        false≢true (ap (begins_in b) (sym none) ∙ lent.kept b r is)

    by : (s : Slot) → slot_of d.book.slots y.first ≡ s → HasBlocks (if split then 1 else 2) s → AreCalm split m new y.first
    by Empty is blocks = absurd blocks
    by (Keeps r) is blocks = absurd (none_kept r is)
    by (Lends r) is blocks =
        let h = holding d.book m in
        let first = (lends_at h b r sound.stands is).0 in
        let all = lends_all h b r sound.stands is in
        record {
          slots = λ on u few.
              let two : r.blocks ≡ 2 = blocks ∙ ap (λ (c : Bool). if c then 1 else 2) on in
              same (leaves.words (32 * b + 4 + 4 * u) (ap is_lent (all ((32 * b + 4 + 4 * u) / 32) (omega (arith, first)) (omega (arith, first, two, few)))));
          state = λ on.
              let one : r.blocks ≡ 1 = blocks ∙ ap (λ (c : Bool). if c then 1 else 2) on in
              same (leaves.words (32 * b + 12) (ap is_lent (all ((32 * b + 12) / 32) (omega (arith, first)) (omega (arith, first, one)))));
        }

-- words of another run
row_calm : (k : Book) (m : Mem) (stands : Stands (holding k m)) (b : ℕ) (split : Bool) (run : HasBlocks (if split then 1 else 2) (slot_of k.slots b)) (q : Mem) (c at : ℕ) (ws : List ℕ) → c ≢ b → AreCalm split q (store_words k q c at ws) b
unfolding store_words
row_calm k m stands b split run q c at [] off = all_calm split q q b (λ i. same refl)
row_calm k m stands b split run q c at (v ∷ vs) off =
    both_calm split q (store k q c at v) (store_words k (store k q c at v) c (at + 4) vs) b (other_run k m stands b split run q c at v off) (row_calm k m stands b split run (store k q c at v) c (at + 4) vs off)

-- ---- endpoints and transfers

idle_out : (d : DriverContent) (xs : List Endpoint) → d.command ≡ None → Out d xs
idle_out d xs idle e off = inr (ap (λ (c : Option Command). framed_to c d.made (length d.transfers)) idle)

pub either_pushed : {X : Type 0} (xs : List X) (y : X) (t : ℕ) (z : X) → slice_get (xs ++ y ∷ []) t ≡ Some z → (slice_get xs t ≡ Some z) ⊎ (y ≡ z)
either_pushed [] y zero z here = inr (same_Some y z here)
either_pushed [] y (suc t) z here = absurd (cc)
either_pushed (x ∷ xs) y zero z here = inl here
either_pushed (x ∷ xs) y (suc t) z here = either_pushed xs y t z here

back_pushed : (d : DriverContent) (m : Mem) (y : Transfer) → is_descriptor y.sort ≡ false → Back d m (d.transfers ++ y ∷ [])
back_pushed d m y off t z here sort held =
    ⊎_elim (λ (old : slice_get d.transfers t ≡ Some z). from_itself d m t z old sort held)
    (λ (new : y ≡ z). absurd (false≢true (sym off ∙ ap (λ (x : Transfer). is_descriptor x.sort) new ∙ sort))) (either_pushed d.transfers y t z here)

-- ---- descriptors are taken on

not_fresh : (h g : Holding) (ns bs : List ℕ) (taken : AreTaken h g ns bs) (b : ℕ) → HasRun (slot_of h.book.slots b) → IsOneOf b bs → ⊥
not_fresh h g ns bs taken b run one = let at = index bs one in fresh_differs at.0 b taken at.1.0 run (sym at.1.1)
  where
    index : (cs : List ℕ) → IsOneOf b cs → (i : ℕ) × ((i < length cs) × (b ≡ get_or cs i 0))
    index [] one = absurd one
    index (c ∷ cs) (inl is) = (0, (omega arith, is))
    index (c ∷ cs) (inr there) = let at = index cs there in let low = at.1.0 in (suc at.0, (omega (arith, low), at.1.1))

-- what is taken on begins in a run that was taken
made_first : (e : ℕ) (s : Slots) (n : ℕ) (rs : List ℕ) (i : ℕ) (y : Transfer) → length (iso_needs s n) ≤ length rs
    → slice_get (made e s n rs) i ≡ Some y → IsOneOf y.first rs
made_first e s zero rs i y enough there = absurd (cc)
made_first e s (suc n) rs zero y enough there =
    subst (λ (z : Transfer). IsOneOf z.first rs) (same_Some (descriptor_transfer e s (get_or rs 0 0)) y there)
    (at_one rs 0 (omega (arith, enough)))
made_first e s (suc n) rs (suc i) y enough there =
    let long = length-append (buffer_needs (total_of s)) (iso_needs s n) in
    let left = length-drop (suc (slot_runs s)) rs in
    one_dropped (suc (slot_runs s)) y.first rs
    (made_first e s n (drop (suc (slot_runs s)) rs) i y (omega (arith, enough, long, left)) there)

abbrev pub Starts : DriverContent → Mem → DriverContent → Mem → Type 0
Starts d m new later = (t : ℕ) (z : Transfer) → IsActiveTransfer new later t z → WasActive d m new t z ⊎ (length d.transfers ≤ t)

module _ (d : DriverContent) (m : Mem) (o : Offered) (why : Describes d m o) (sound : IsSound m d) (lent : AreLent d) where
  abbrev g : Holding
  g = why.holding_after

  abbrev all : List ℕ → Descriptors
  all rs =
      all_descriptors why.holding_after.book why.number why.endpoint.desc why.slots why.count why.seed rs
      (record { notes = d.periodic.notes; transfers = d.transfers; memory = why.holding_after.memory })

  abbrev entered : List ℕ → Offered
  entered rs = entered_iso d why.number why.endpoint why.count (total_of why.slots) why.holding_after.book (all rs)

  module _ (bs : List ℕ) (taken : AreTaken (holding d.book m) why.holding_after (iso_needs why.slots why.count) bs) (is : o ≡ entered bs) (leaves : Leaves m (entered bs).memory) where
    abbrev new : DriverContent
    new = (entered bs).driver

    enough : length (iso_needs why.slots why.count) ≤ length bs
    enough = let long = taken.long in omega (arith, long)

    -- an older one keeps its note
    noted : (t : ℕ) (y : Transfer) → slice_get d.transfers t ≡ Some y → is_descriptor y.sort ≡ true → y.released ≡ false → note_at new.periodic.notes y.first ≡ note_at d.periodic.notes y.first
    noted t y here sort held =
        let placed = (sound.owners.owned.each.described t (runs_of_transfer y) (ap (option_map runs_of_transfer) here) sort held).descriptor in
        notes_other g.book why.number why.endpoint.desc why.slots why.count why.seed bs (record { notes = d.periodic.notes; transfers = d.transfers; memory = g.memory }) y.first enough
        (not_fresh (holding d.book m) g (iso_needs why.slots why.count) bs taken y.first (blocks_run _ (slot_of d.book.slots y.first) placed.run))

    either_one : (t : ℕ) (z : Transfer) → slice_get new.transfers t ≡ Some z → (slice_get d.transfers t ≡ Some z) ⊎ ((z.endpoint ≡ why.number) × (z.reported ≡ false))
    either_one t z here =
        ⊎_elim (λ (was : slice_get d.transfers t ≡ Some z). inl was)
        (λ (more : IsLater (made why.number why.slots why.count bs) z). inr (made_is why.number why.slots why.count bs more.index z more.there))
        (which d.transfers (made why.number why.slots why.count bs) t z
        (ap (λ (ts : List Transfer). slice_get ts t) (sym (all_transfers g.book why.number why.endpoint.desc why.slots why.count why.seed bs (record { notes = d.periodic.notes; transfers = d.transfers; memory = g.memory }))) ∙ here))

    same_frames : (e : ℕ) → framed_in new.endpoints e ≡ framed_in d.endpoints e
    same_frames = (endpoint_set d.endpoints why.number why.endpoint (record why.endpoint { next = first_waiting why.endpoint.next (length d.transfers) }) why.here refl refl (λ off. off)).framed

    -- its endpoint is in its frames
    on : is_chained (framed_in new.endpoints why.number) ≡ true
    on =
        ap is_chained (same_frames why.number) ∙ ap (λ (x : Option Endpoint). is_chained (option_map framed_of x)) why.here
        ∙ in_frames d why.number why.endpoint sound.owners.orderly why.here why.goes_on why.isochronous

    served_then : HasOneActive d m → (t : ℕ) (z : Transfer) → slice_get new.transfers t ≡ Some z → is_descriptor z.sort ≡ true → z.reported ≡ true → z.released ≡ false → is_served (note_at new.periodic.notes z.first) (entered bs).memory z.first ≡ true
    served_then old t z here sort told held =
        ⊎_elim
        (λ (was : slice_get d.transfers t ≡ Some z).
        stays_served (note_at d.periodic.notes z.first) (note_at new.periodic.notes z.first) m (entered bs).memory z.first (ap (λ note. note.split) (noted t z was sort held))
        (lent_calm d m (entered bs).memory t z sound lent why.idle leaves was sort held) (old.served t z was sort told held))
        (λ (fresh : (z.endpoint ≡ why.number) × (z.reported ≡ false)). absurd (false≢true (sym fresh.1 ∙ told))) (either_one t z here)

    older : (e t : ℕ) (z : Transfer) → is_chained (framed_in new.endpoints e) ≡ false → slice_get new.transfers t ≡ Some z → z.endpoint ≡ e → slice_get d.transfers t ≡ Some z
    older e t z off here at =
        ⊎_elim (λ (was : slice_get d.transfers t ≡ Some z). was)
        (λ (fresh : (z.endpoint ≡ why.number) × (z.reported ≡ false)). absurd (false≢true (sym off ∙ ap (λ (i : ℕ). is_chained (framed_in new.endpoints i)) (sym at ∙ fresh.0) ∙ on))) (either_one t z here)

    in_front : {X : Type 0} (xs ys : List X) (t : ℕ) (z : X) → slice_get (xs ++ ys) t ≡ Some z → t < length xs → slice_get xs t ≡ Some z
    in_front [] ys t z there low = absurd (omega (arith, low))
    in_front (x ∷ xs) ys zero z there low = there
    in_front (x ∷ xs) ys (suc t) z there low = in_front xs ys t z there (omega (arith, low))

    older_is : (t : ℕ) (z : Transfer) → IsActiveTransfer new (entered bs).memory t z → t < length d.transfers → WasActive d m new t z
    older_is t z a low =
        let was : slice_get d.transfers t ≡ Some z =
        in_front d.transfers (made why.number why.slots why.count bs) t z
        (ap (λ (ts : List Transfer). slice_get ts t) (sym (all_transfers g.book why.number why.endpoint.desc why.slots why.count why.seed bs (record { notes = d.periodic.notes; transfers = d.transfers; memory = g.memory }))) ∙ a.here) low in
        record {
          transfer = z;
          was = record { here = was; descriptor = a.descriptor; held = a.held; active = by was (is_served (note_at d.periodic.notes z.first) m z.first) refl };
          endpoint = refl;
          first = refl;
          frame = λ framed. ap (λ note. note.frame) (noted t z was a.descriptor a.held);
        }
      where
        by : slice_get d.transfers t ≡ Some z → (b : Bool) → is_served (note_at d.periodic.notes z.first) m z.first ≡ b → is_served (note_at d.periodic.notes z.first) m z.first ≡ false
        by was false is = is
        by was true is =
            let now : is_served (note_at new.periodic.notes z.first) (entered bs).memory z.first ≡ true =
            stays_served (note_at d.periodic.notes z.first) (note_at new.periodic.notes z.first) m (entered bs).memory z.first (ap (λ note. note.split) (noted t z was a.descriptor a.held))
            (lent_calm d m (entered bs).memory t z sound lent why.idle leaves was a.descriptor a.held) is in
            absurd (true≢false (sym now ∙ a.active))

    entered_starts : Starts d m (entered bs).driver (entered bs).memory
    entered_starts t z a = ⊎_elim (λ (low : t < length d.transfers). inl (older_is t z a low)) (λ (high : length d.transfers ≤ t). inr high) (cases_lt t (length d.transfers))

    entered_has : HasOneActive d m → HasOneActive (entered bs).driver (entered bs).memory
    entered_has old = record {
      served = served_then old;
      apart = λ e t u y z off one two sort_y sort_z at_y at_z un_y un_z held_y held_z frame.
          let here_y = older e t y off one at_y in
          let here_z = older e u z off two at_z in
          old.apart e t u y z (ap is_chained (sym (same_frames e)) ∙ off) here_y here_z sort_y sort_z at_y at_z un_y un_z held_y held_z
          (ap (λ note. note.frame) (sym (noted t y here_y sort_y held_y)) ∙ frame ∙ ap (λ note. note.frame) (noted u z here_z sort_z held_z));
    }

  -- a descriptor stands in the frame that it was given, and one that is taken on has a run of its own
  module _ (bs : List ℕ) (taken : AreTaken (holding d.book m) why.holding_after (iso_needs why.slots why.count) bs) (is : o ≡ entered bs)
      (leaves : Leaves m (entered bs).memory) (n : ℕ) (x : Member)
      (run : (b : ℕ) → n ≡ 32 * b → HasRun (slot_of d.book.slots b)) (framed : IsFramedAs d n x) where
    entered_framed : IsFramedAs (entered bs).driver n x
    entered_framed t z here sort held at f stands =
        ⊎_elim
        (λ (was : slice_get d.transfers t ≡ Some z). framed t z was sort held at f stands
        ∙ ap (λ note. note.frame) (sym (noted bs taken is leaves t z was sort held)))
        (λ (more : IsLater (made why.number why.slots why.count bs) z).
        absurd (not_fresh (holding d.book m) g (iso_needs why.slots why.count) bs taken z.first (run z.first at)
        (made_first why.number why.slots why.count bs more.index z (enough bs taken is leaves) more.there)))
        (which d.transfers (made why.number why.slots why.count bs) t z
        (ap (λ (ts : List Transfer). slice_get ts t)
        (sym (all_transfers g.book why.number why.endpoint.desc why.slots why.count why.seed bs
        (record { notes = d.periodic.notes; transfers = d.transfers; memory = g.memory }))) ∙ here))

  with_runs : (P : Offered → Type 0)
      → ((bs : List ℕ) → AreTaken (holding d.book m) why.holding_after (iso_needs why.slots why.count) bs → o ≡ entered bs → Leaves m (entered bs).memory → P (entered bs)) → P o
  with_runs P by =
      let k = runs_taken (holding d.book m) g (iso_needs why.slots why.count) sound.stands why.runs in
      let news : new_runs d g ≡ k.blocks = ap (drop (length d.book.taken)) k.are.taken ∙ drop_first d.book.taken k.blocks in
      let is : o ≡ entered k.blocks = why.is ∙ ap (λ (rs : List ℕ). entered rs) news in
      subst P (sym is) (by k.blocks k.are is (subst (λ (f : Offered). Leaves m f.memory) is (describes_leaves d m o why sound.stands sound.shape)))

  describes_has : HasOneActive d m → HasOneActive o.driver o.memory
  describes_has old = with_runs (λ f. HasOneActive f.driver f.memory) (λ bs taken is leaves. entered_has bs taken is leaves old)

  describes_starts : Starts d m o.driver o.memory
  describes_starts = with_runs (λ f. Starts d m f.driver f.memory) (λ bs taken is leaves. entered_starts bs taken is leaves)

  pub describes_framed : (n : ℕ) (x : Member) → ((b : ℕ) → n ≡ 32 * b → HasRun (slot_of d.book.slots b)) → IsFramedAs d n x
      → IsFramedAs o.driver n x
  describes_framed n x run framed = with_runs (λ f. IsFramedAs f.driver n x)
      (λ bs taken is leaves. entered_framed bs taken is leaves n x run framed)

-- ---- any command

module _ (s : Standing) (w : World) (k : IsMixedAt s w) where
  abbrev d : DriverContent
  d = w.driver

  sound : IsSound w.memory w.driver
  sound = k.now.framed.place.sound

  lent : AreLent w.driver
  lent = k.now.framed.place.lent

  -- both that are shown of it
  pub record Goes (new : DriverContent) (later : Mem) : Type 0 where
    pub has : HasOneActive w.driver w.memory → HasOneActive new later
    pub starts : Starts w.driver w.memory new later

  by_follows : (new : DriverContent) (later : Mem) → Follows w.driver w.memory new
      → ((t : ℕ) (y : Transfer) → slice_get w.driver.transfers t ≡ Some y → is_descriptor y.sort ≡ true → y.released ≡ false → AreCalm (note_at w.driver.periodic.notes y.first).split w.memory later y.first) → Goes new later
  by_follows new later follows calm = record {
    has = λ old. goes_on w.driver w.memory new later sound.owners sound.listed k.now.in_frames old follows calm;
    starts = λ t z a. inl (was_active w.driver w.memory new later follows calm t z a);
  }

  by_leaves : (new : DriverContent) (later : Mem) → w.driver.command ≡ None → Follows w.driver w.memory new → Leaves w.memory later → Goes new later
  by_leaves new later idle follows leaves = by_follows new later follows (λ t y here sort held. lent_calm d w.memory later t y sound lent idle leaves here sort held)

  by_same : (new : DriverContent) → Follows w.driver w.memory new → Goes new w.memory
  by_same new follows = by_follows new w.memory follows (λ t y here sort held. all_calm _ w.memory w.memory y.first (λ i. same refl))

  -- where its runs are new
  chain_calm : (o : Offered) (why : Chains w.driver w.memory o) (t : ℕ) (y : Transfer) → slice_get w.driver.transfers t ≡ Some y → is_descriptor y.sort ≡ true → y.released ≡ false
      → AreCalm (note_at w.driver.periodic.notes y.first).split w.memory o.memory y.first
  chain_calm o why t y here sort held =
      let g = why.holding_after in
      let r = runs_taken (holding d.book w.memory) g (2 ∷ 1 ∷ []) sound.stands why.runs in
      let news : new_runs d g ≡ r.blocks = ap (drop (length d.book.taken)) r.are.taken ∙ drop_first d.book.taken r.blocks in
      let placed = (sound.owners.owned.each.described t (runs_of_transfer y) (ap (option_map runs_of_transfer) here) sort held).descriptor in
      let run = blocks_run _ (slot_of d.book.slots y.first) placed.run in
      let split = (note_at d.periodic.notes y.first).split in
      let its : HasBlocks (if split then 1 else 2) (slot_of g.book.slots y.first) = subst (HasBlocks (if split then 1 else 2)) (sym (r.are.old y.first run)) placed.run in
      let long = r.are.long in
      let one : slice_index (new_runs d g) 0 ≢ y.first = λ is. fresh_differs 0 y.first r.are (omega (arith, long)) run (ap (λ (rs : List ℕ). get_or rs 0 0) (sym news) ∙ is) in
      let two : slice_index (new_runs d g) 1 ≢ y.first = λ is. fresh_differs 1 y.first r.are (omega (arith, long)) run (ap (λ (rs : List ℕ). get_or rs 1 0) (sym news) ∙ is) in
      subst (λ (f : Offered). AreCalm split w.memory f.memory y.first) (sym why.is)
      (both_calm split w.memory g.memory _ y.first (all_calm split w.memory g.memory y.first (words_calm w.memory g.memory r.are.words))
      (both_calm split g.memory _ _ y.first (row_calm g.book g.memory r.are.stands y.first split its g.memory _ _ _ one)
      (row_calm g.book g.memory r.are.stands y.first split its _ _ _ _ two)))

  unchain_by : (e : ℕ) (x : Endpoint) (q : Placement) → w.driver.command ≡ None → (f : DriverContent) → f.transfers ≡ w.driver.transfers → f.periodic.notes ≡ w.driver.periodic.notes → (b : Bool)
      → Follows w.driver w.memory (if b then finished f (unfinished.Unchain e) else f)
  unchain_by e x q idle f moves kept true =
      noted_same d w.memory (finished f (unfinished.Unchain e)) (done_notes f (unfinished.Unchain e) ∙ kept)
      (back_same d w.memory (finished f (unfinished.Unchain e)).transfers (done_transfers f (unfinished.Unchain e) ∙ moves)) (idle_out d _ idle)
  unchain_by e x q idle f moves kept false = noted_same d w.memory f kept (back_same d w.memory f.transfers moves) (idle_out d _ idle)

  pub by_accept : (o : Offered) → Accepts w.driver w.memory o → Goes o.driver o.memory
  by_accept o (opens why) =
      let new = o.driver in
      by_leaves o.driver o.memory why.idle
      (subst (λ (f : Offered). Follows d w.memory f.driver) (sym why.is) (noted_same d w.memory _ refl (back_same d w.memory d.transfers refl) (idle_out d _ why.idle)))
      (opens_leave d w.memory o why sound.stands sound.shape)
  by_accept o (chains why) =
      by_follows o.driver o.memory (subst (λ (f : Offered). Follows d w.memory f.driver) (sym why.is) (noted_same d w.memory _ refl (back_same d w.memory d.transfers refl) (idle_out d _ why.idle)))
      (chain_calm o why)
  by_accept o (places why) =
      subst (λ (f : Offered). Goes f.driver f.memory) (sym why.is) (by_same _ (noted_same d w.memory _ refl (back_same d w.memory d.transfers refl) (idle_out d _ why.idle)))
  by_accept o (transfers why) =
      by_leaves o.driver o.memory why.idle
      (subst (λ (f : Offered). Follows d w.memory f.driver) (sym why.is) (noted_same d w.memory _ refl (back_pushed d w.memory _ why.sort) (idle_out d _ why.idle)))
      (transfer_leaves d w.memory o why sound.owners sound.stands sound.shape)
  by_accept o (describes why) = record { has = describes_has d w.memory o why sound lent; starts = describes_starts d w.memory o why sound lent }
  by_accept o (cancels why) =
      subst (λ (f : Offered). Goes f.driver f.memory) (sym why.is) (by_same _ (noted_same d w.memory _ refl (back_same d w.memory d.transfers refl) (idle_out d _ why.idle)))
  by_accept o (unchains why) =
      let f : DriverContent = with_cancel d why.number why.endpoint (endpoint_members d why.number why.endpoint why.placement) in
      subst (λ (f : Offered). Goes f.driver f.memory) (sym why.is)
      (by_same (accepted_unchain d why.number why.endpoint (endpoint_members d why.number why.endpoint why.placement))
      (unchain_by why.number why.endpoint why.placement why.idle f refl
      (begun_notes true (record d.periodic { queued = endpoint_members d why.number why.endpoint why.placement })) (is_none f.periodic.list.work)))

  by_answer : (line : ℕ) (cmd : Cmd) (r : Result Offered OfferError) → offered w.driver w.memory cmd ≡ r → Goes (commanded_by w line (name_in cmd) r).driver (commanded_by w line (name_in cmd) r).memory
  by_answer line cmd (Ok o) is = by_accept o (each_command_has_its_reason d w.memory cmd o is)
  by_answer line cmd (Err why) is = record {
    has = λ old. record { served = old.served; apart = old.apart };
    starts = λ t z a. inl (record {
      transfer = z;
      was = record { here = a.here; descriptor = a.descriptor; held = a.held; active = a.active };
      endpoint = refl;
      first = refl;
      frame = λ low. refl;
    });
  }

pub command_keeps_one_active : CommandKeepsOneActive
command_keeps_one_active w line cmd fits room mixed old = (by_answer mixed.standing w mixed.mixed line cmd (offered w.driver w.memory cmd) refl).has old

pub command_starts_new : CommandStartsNew
command_starts_new w line cmd t z mixed a = (by_answer mixed.standing w mixed.mixed line cmd (offered w.driver w.memory cmd) refl).starts t z a
