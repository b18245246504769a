-- An event of the driver sets nothing of a descriptor active that was harvested before.
use Rattle.std.proofs.Common.{◌≡◌, ◌≢◌, ℕ, zero, suc, ◌+◌, ◌*◌, ◌<◌, ◌≤◌, not, Bool, true, false, if◌then◌else◌, List, [], ◌∷◌, length, take, drop, slice_get, Option, Some, None, option_map, refl, ap, sym, subst, ◌∙◌, ⊎_elim, arith}
use Rattle.std.specs.Prelude.{option_and_then, slice_set, slice_index}
use Rattle.std.proofs.lemmas.Bool.{true≢false, and_parts}
use Rattle.std.proofs.lemmas.Option.{same_Some, slice_get-map, slice_get_within}
use Rattle.law_frame_list.proofs.Common.{frames_first, same_number}
use Rattle.usb_base.specs.declared.reports.What.{What}
use Rattle.usb_base.specs.declared.endpoints.EpName.{EpName}
use Rattle.word_mem.specs.Memory.{Mem}
use Rattle.mem_runs.specs.Book.{Book, Holding, holding, slot_of, lend_taken}
use Rattle.bandwidth.specs.declared.placements.Placement.{Placement}
use Rattle.drv_chains.specs.declared.members.Predecessor.{Predecessor}
use Rattle.drv_periodic.specs.declared.work.Work.{Work}
use Rattle.drv_periodic.specs.declared.work.Store.{Store}
use Rattle.drv_periodic.specs.Periodic.{Periodic, value_of, store_at, store_of, words_of, next_store, removing}
use Rattle.drv_periodic_table.specs.declared.content.Removed.{Removed}
use Rattle.drv_periodic_table.specs.declared.content.Removed.TheVariants as removed
use Rattle.drv_periodic_table.specs.Linking.{may_unlink}
use Rattle.drv_periodic_table.specs.Periodic.{note_at, descriptor_member}
use Rattle.drv_periodic_table.specs.Frames.{first_frame}
use Rattle.drv_table.specs.declared.content.Endpoint.{Endpoint}
use Rattle.drv_table.specs.declared.content.Transfer.{Transfer}
use Rattle.drv_table.specs.declared.content.Mend.{Mend}
use Rattle.drv_table.specs.declared.content.Command.{Command}
use Rattle.drv_table.specs.declared.content.Command.TheVariants as unfinished
use Rattle.drv_table.specs.declared.rows.DriverRow.{DriverRow}
use Rattle.drv_table.specs.declared.rows.DriverRow.TheVariants as rows
use Rattle.drv_table.specs.DriverContent.{DriverContent}
use Rattle.drv_table.specs.Words.{head_block}
use Rattle.drv_table.specs.Harvests.{reported}
use Rattle.drv_table.specs.Parts.{Parts}
use Rattle.drv_table.specs.Commands.{events_of, store_order, advanced_by}
use Rattle.drv_table.specs.Rows.{after_driver_row}
use Rattle.drv_table.specs.FrameChoice.{last_frame, framed_notes, with_notes, placement_at, framed_by, linked_by}
use Rattle.drv_table.specs.Releases.{after_transfer, freed_by, free_runs, free_transfers, free_endpoint, is_told, gone_with, after_endpoint}
use Rattle.drv_table.specs.Removals.{free_descriptors, stored_link, descriptor_leaving, after_unlink, after_descriptor, removed_with, after_placed, after_removed}
use Rattle.drv_table.specs.Harvesting.{after_harvest}
use Rattle.drv_table.specs.Kinds.{is_iso}
use Rattle.claims_driver.specs.Owners.{Described, Element, FrameList, IsPlaced, ArePieces, is_descriptor, runs_of_transfer, DescriptorRuns, views_of}
use Rattle.law_driver.specs.run_owners.Due.{IsNextOf, IsLinkOf, IsDue}
use Rattle.claims_driver.specs.Leaving.{HasOwners}
use Rattle.law_driver.proofs.lemmas.run_owners.Stays.{framed}
use Rattle.claims_driver.specs.Ring.{link_in}
use Rattle.law_driver.specs.in_place.InPlace.{IsSound}
use Rattle.law_driver.specs.ring_members.Words.{IsDescribing as AreDescribedNow, StandsFor}
use Rattle.claims_driver.specs.FrameListMembers.{framed_in, is_chained}
use Rattle.law_driver.specs.listed_members.Members.{IsDescribing, IsUnderWay}
use Rattle.law_driver.proofs.lemmas.listed_members.Standing.{seen}
use Rattle.law_driver.proofs.lemmas.listed_members.Stays.{endpoint_set}
use Rattle.law_admission.proofs.Events.{either}
use Rattle.claims_driver.specs.DueMembers.{framed_to}
use Rattle.law_driver.proofs.lemmas.iso_frames.Harvested.{get_dropped}
use Rattle.law_microframes.proofs.lemmas.visits.OneDescriptorWords.{AreCalm, same}
use Rattle.law_microframes.proofs.lemmas.visits.OneDescriptorStores.{AllCalm, both_calm, all_calm, more_calm, either_calm, lend_calm, runs_calm, qtds_calm, transfers_calm, descriptors_calm, first_word, other_run, linked_calm, link_calm}
use Rattle.law_microframes.proofs.lemmas.visits.OneDescriptorRows.{Back, Out, back_same, out_same, back_released, back_all, back_placed, advanced_transfers, advanced_notes, advanced_out, iso_endpoints, framed_elsewhere, harvest_back, harvest_out, harvest_notes}

-- ---- the driver's content

pub record Follows (d : DriverContent) (m : Mem) (new : DriverContent) : Type 0 where
  pub back : Back d m new.transfers
  pub split : (b : ℕ) → (note_at new.periodic.notes b).split ≡ (note_at d.periodic.notes b).split
  pub out : Out d new.endpoints
  -- outside of its frames an endpoint's descriptors keep theirs
  pub frames : (t : ℕ) (z : Transfer) → slice_get new.transfers t ≡ Some z → is_descriptor z.sort ≡ true → z.released ≡ false → z.reported ≡ false
      → is_chained (framed_in new.endpoints z.endpoint) ≡ false → (note_at new.periodic.notes z.first).frame ≡ (note_at d.periodic.notes z.first).frame
  -- and so does each that had one
  pub kept : (t : ℕ) (z : Transfer) → slice_get new.transfers t ≡ Some z → is_descriptor z.sort ≡ true → z.released ≡ false → t < framed_to d.command d.made (length d.transfers)
      → (note_at new.periodic.notes z.first).frame ≡ (note_at d.periodic.notes z.first).frame

pub noted_same : (d : DriverContent) (m : Mem) (new : DriverContent) → new.periodic.notes ≡ d.periodic.notes → Back d m new.transfers → Out d new.endpoints → Follows d m new
noted_same d m new notes back out = record {
  back = back;
  split = λ b. ap (λ ns. (note_at ns b).split) notes;
  out = out;
  frames = λ t z here sort held untold off. ap (λ ns. (note_at ns z.first).frame) notes;
  kept = λ t z here sort held low. ap (λ ns. (note_at ns z.first).frame) notes;
}

-- nothing of it changes
untouched : (d : DriverContent) (m : Mem) (new : DriverContent) → new.periodic.notes ≡ d.periodic.notes → new.transfers ≡ d.transfers → new.endpoints ≡ d.endpoints → Follows d m new
untouched d m new notes transfers endpoints = noted_same d m new notes (back_same d m new.transfers transfers) (out_same d new.endpoints (λ e. ap (λ (xs : List Endpoint). framed_in xs e) endpoints))

-- one more event of the command
went_on : (d : DriverContent) (m : Mem) (f : DriverContent) → f.periodic.notes ≡ d.periodic.notes → f.transfers ≡ d.transfers → f.endpoints ≡ d.endpoints → Follows d m (advanced_by f d.command)
went_on d m f notes transfers endpoints =
    noted_same d m (advanced_by f d.command) (advanced_notes f d.command ∙ notes) (back_same d m (advanced_by f d.command).transfers (advanced_transfers f d.command ∙ transfers))
    (advanced_out d f d.command endpoints refl)

transfer_goes : (p : Parts) (t : ℕ) (o : Option Transfer) (h : Holding) → slice_get p.driver.transfers t ≡ o → Follows p.driver p.memory (after_transfer p t o h).driver
transfer_goes p t None h is = untouched p.driver p.memory p.driver refl refl refl
transfer_goes p t (Some y) h is =
    noted_same p.driver p.memory (after_transfer p t (Some y) h).driver refl (back_released p.driver p.memory t y is) (out_same p.driver p.driver.endpoints (λ e. refl))

descriptor_goes : (p : Parts) (t : ℕ) (o : Option Transfer) → slice_get p.driver.transfers t ≡ o → Follows p.driver p.memory (after_descriptor p t o).driver
descriptor_goes p t None is = untouched p.driver p.memory p.driver refl refl refl
descriptor_goes p t (Some y) is =
    noted_same p.driver p.memory (after_descriptor p t (Some y)).driver refl (back_released p.driver p.memory t y is) (out_same p.driver p.driver.endpoints (λ e. refl))

gone_out : (d : DriverContent) (e : ℕ) (x : Endpoint) → slice_get d.endpoints e ≡ Some x → Out d (slice_set d.endpoints e (record x { gone = true }))
gone_out d e x here = out_same d (slice_set d.endpoints e (record x { gone = true })) (endpoint_set d.endpoints e x (record x { gone = true }) here refl refl (λ off. off)).framed

gone_by : (d : DriverContent) (m : Mem) (e : ℕ) (x : Endpoint) (told : Bool) (k : Book) (what : What) (name : EpName) (bytes : List ℕ) (b : Bool) → slice_get d.endpoints e ≡ Some x
    → Follows d m (gone_with (if b then reported d what name bytes else d) e x told k)
gone_by d m e x told k what name bytes true here = noted_same d m (gone_with (reported d what name bytes) e x told k) refl (back_all d m e told) (gone_out d e x here)
gone_by d m e x told k what name bytes false here = noted_same d m (gone_with d e x told k) refl (back_all d m e told) (gone_out d e x here)

endpoint_goes : (p : Parts) (e : ℕ) (o : Option Endpoint) → slice_get p.driver.endpoints e ≡ o → Follows p.driver p.memory (after_endpoint p e o).driver
endpoint_goes p e None is = untouched p.driver p.memory p.driver refl refl refl
endpoint_goes p e (Some x) is = gone_by p.driver p.memory e x (is_told x) _ _ _ _ (is_told x) is

placed_by : (d : DriverContent) (m : Mem) (e : ℕ) (x : Endpoint) (told : Bool) (k : Book) (what : What) (name : EpName) (bytes : List ℕ) (b : Bool) → slice_get d.endpoints e ≡ Some x
    → Follows d m (removed_with (if b then reported d what name bytes else d) e x told k)
placed_by d m e x told k what name bytes true here =
    noted_same d m (removed_with (reported d what name bytes) e x told k) refl (back_placed d m (is_iso x.desc.kind) e told) (gone_out d e x here)
placed_by d m e x told k what name bytes false here = noted_same d m (removed_with d e x told k) refl (back_placed d m (is_iso x.desc.kind) e told) (gone_out d e x here)

placed_goes : (p : Parts) (e : ℕ) (o : Option Endpoint) → slice_get p.driver.endpoints e ≡ o → Follows p.driver p.memory (after_placed p e o).driver
placed_goes p e None is = untouched p.driver p.memory p.driver refl refl refl
placed_goes p e (Some x) is = placed_by p.driver p.memory e x (is_told x) _ _ _ _ (is_told x) is

removed_goes : (p : Parts) (what : Removed) → Follows p.driver p.memory (after_removed p what).driver
removed_goes p (removed.Descriptor t) = descriptor_goes p t (slice_get p.driver.transfers t) refl
removed_goes p (removed.Endpoint e) = placed_goes p e (slice_get p.driver.endpoints e) refl

unlink_goes : (p : Parts) (t : ℕ) (o : Option Transfer) → Follows p.driver p.memory (after_unlink p t o).driver
unlink_goes p t None = untouched p.driver p.memory p.driver refl refl refl
unlink_goes p t (Some y) = untouched p.driver p.memory (after_unlink p t (Some y)).driver refl refl refl

-- ---- descriptors get their frames

get_taken : {X : Type 0} (n : ℕ) (xs : List X) (i : ℕ) (x : X) → slice_get (take n xs) i ≡ Some x → slice_get xs i ≡ Some x
get_taken zero xs i x here = absurd (cc)
get_taken (suc n) [] i x here = absurd (cc)
get_taken (suc n) (y ∷ ys) zero x here = here
get_taken (suc n) (y ∷ ys) (suc i) x here = get_taken n ys i x here

-- each descriptor that is held has a block of its own
pub one_block : (d : DriverContent) (t u : ℕ) (y z : Transfer) → HasOwners d → slice_get d.transfers t ≡ Some y → slice_get d.transfers u ≡ Some z → is_descriptor y.sort ≡ true → is_descriptor z.sort ≡ true → y.released ≡ false → z.released ≡ false
    → y.first ≡ z.first → t ≡ u
one_block d t u y z owners one two sort_y sort_z held_y held_z first =
    let a = (owners.owned.each.described t (runs_of_transfer y) (ap (option_map runs_of_transfer) one) sort_y held_y).descriptor in
    let b = (owners.owned.each.described u (runs_of_transfer z) (ap (option_map runs_of_transfer) two) sort_z held_z).descriptor in
    same_number (note_at d.periodic.notes y.first).split (note_at d.periodic.notes z.first).split t u
    (sym a.owned ∙ ap owners.owner first ∙ b.owned)

module _ (d : DriverContent) (m : Mem) (sound : IsSound m d) (n e t count : ℕ) (is : d.command ≡ Some (unfinished.Iso e t count)) (none : d.made ≡ 0) where
  abbrev us : List Transfer
  us = take count (drop t d.transfers)

  abbrev f : DriverContent
  f = with_notes d n (take count (drop t d.transfers)) (framed_notes d n e t count (placement_at d e))

  way : IsDescribing d e t count
  way = subst (IsUnderWay d) is sound.listed.way

  all : AreDescribedNow (link_in m) d.endpoints d.transfers t count
  all = subst (λ (o : Option Command). StandsFor (link_in m) d.endpoints d.transfers o) is sound.ring.ring

  -- one outside of its frames is none of these
  apart : (u : ℕ) (z : Transfer) → slice_get d.transfers u ≡ Some z → is_descriptor z.sort ≡ true → z.released ≡ false → is_chained (framed_in d.endpoints z.endpoint) ≡ false
      → (i : ℕ) (y : Transfer) → slice_get (take count (drop t d.transfers)) i ≡ Some y → y.first ≢ z.first
  apart u z here sort held off i y there first =
      let its = all.described i y there in
      let at : slice_get d.transfers (t + i) ≡ Some y = sym (get_dropped t d.transfers i) ∙ get_taken count (drop t d.transfers) i y there in
      let hit : t + i ≡ u = one_block d (t + i) u y z sound.owners at here its.0 sort its.1 held first in
      let w = way.each (t + i) (omega arith) (slice_get_within d.transfers (t + i) y at) in
      let s = seen d.endpoints d.transfers (t + i) w.0 w.1.0 in
      let on : is_chained (framed_in d.endpoints s.transfer.endpoint) ≡ true =
      (and_parts (not s.transfer.reported) (is_chained (framed_in d.endpoints s.transfer.endpoint)) (sym s.waits ∙ w.1.1.1)).1 in
      let same_one : s.transfer ≡ z = same_Some s.transfer z (sym s.there ∙ ap (slice_get d.transfers) hit ∙ here) in
      absurd (true≢false (sym on ∙ ap (λ (v : Transfer). is_chained (framed_in d.endpoints v.endpoint)) same_one ∙ off))

  -- nor is one that had its frame
  earlier : (u : ℕ) (z : Transfer) → slice_get d.transfers u ≡ Some z → is_descriptor z.sort ≡ true → z.released ≡ false → u < t
      → (i : ℕ) (y : Transfer) → slice_get (take count (drop t d.transfers)) i ≡ Some y → y.first ≢ z.first
  earlier u z here sort held low i y there first =
      let its = all.described i y there in
      let at : slice_get d.transfers (t + i) ≡ Some y = sym (get_dropped t d.transfers i) ∙ get_taken count (drop t d.transfers) i y there in
      let hit : t + i ≡ u = one_block d (t + i) u y z sound.owners at here its.0 sort its.1 held first in
      absurd (omega (arith, hit, low))

  low_by : (u : ℕ) (z : Transfer) → slice_get d.transfers u ≡ Some z → is_descriptor z.sort ≡ true → z.released ≡ false → u < t → (o : Option Placement)
      → note_at (framed_notes d n e t count o) z.first ≡ note_at d.periodic.notes z.first
  low_by u z here sort held low None = refl
  low_by u z here sort held low (Some q) = framed_elsewhere q us (first_frame q n (last_frame d e t)) d.periodic.notes z.first (earlier u z here sort held low)

  cut : framed_to d.command d.made (length d.transfers) ≡ t
  cut = ap (λ (o : Option Command). framed_to o d.made (length d.transfers)) is ∙ ap (λ (j : ℕ). framed_to (Some (unfinished.Iso e t count)) j (length d.transfers)) none

  kept_by : (u : ℕ) (z : Transfer) → slice_get d.transfers u ≡ Some z → is_descriptor z.sort ≡ true → z.released ≡ false → is_chained (framed_in d.endpoints z.endpoint) ≡ false → (o : Option Placement)
      → note_at (framed_notes d n e t count o) z.first ≡ note_at d.periodic.notes z.first
  kept_by u z here sort held off None = refl
  kept_by u z here sort held off (Some q) = framed_elsewhere q us (first_frame q n (last_frame d e t)) d.periodic.notes z.first (apart u z here sort held off)

  pub frames_go : Follows d m (framed_by d n (Some (unfinished.Iso e t count)))
  frames_go =
      let new : DriverContent = advanced_by f d.command in
      let transfers : new.transfers ≡ d.transfers = advanced_transfers f d.command in
      let endpoints : new.endpoints ≡ d.endpoints = ap (λ (o : Option Command). (advanced_by f o).endpoints) is ∙ iso_endpoints f e t count in
      let stays = framed d n (Some (unfinished.Iso e t count)) in
      record {
        back = back_same d m new.transfers transfers;
        split = λ b. ap (λ (r : DescriptorRuns). r.split) (stays.same.buffers b);
        out = out_same d new.endpoints (λ i. ap (λ (xs : List Endpoint). framed_in xs i) endpoints);
        frames = λ u z here sort held untold off.
            ap (λ ns. (note_at ns z.first).frame) (advanced_notes f d.command)
            ∙ ap (λ note. note.frame)
            (kept_by u z (ap (λ (ts : List Transfer). slice_get ts u) (sym transfers) ∙ here) sort held (ap (λ (xs : List Endpoint). is_chained (framed_in xs z.endpoint)) (sym endpoints) ∙ off) (placement_at d e));
        kept = λ u z here sort held low.
            ap (λ ns. (note_at ns z.first).frame) (advanced_notes f d.command)
            ∙ ap (λ note. note.frame) (low_by u z (ap (λ (ts : List Transfer). slice_get ts u) (sym transfers) ∙ here) sort held (omega (arith, low, cut)) (placement_at d e));
      }

chosen : (d : DriverContent) (m : Mem) (n : ℕ) (o : Option Command) → IsSound m d → d.command ≡ o → ((e t count : ℕ) → o ≡ Some (unfinished.Iso e t count) → d.made ≡ 0) → Follows d m (framed_by d n o)
chosen d m n (Some (unfinished.Iso e t count)) sound is none = frames_go d m sound n e t count is (none e t count refl)
chosen d m n _ sound is none = untouched d m d refl refl refl

-- ---- any row

pub row_follows : (row : DriverRow) (p : Parts) → IsDue p row → IsSound p.memory p.driver → Follows p.driver p.memory (after_driver_row row p).driver
row_follows rows.Lend p due sound = went_on p.driver p.memory (record p.driver { book = (lend_taken (holding p.driver.book p.memory)).book }) refl refl refl
row_follows (rows.Store b at v) p due sound = went_on p.driver p.memory p.driver refl refl refl
row_follows rows.Frames p due sound = chosen p.driver p.memory p.registers.frame_index p.driver.command sound refl
    (λ e t count is.
    let same_one : due.command ≡ unfinished.Iso e t count = same_Some due.command (unfinished.Iso e t count) (sym due.unfinished ∙ is) in
    frames_first e t count p.driver.made (subst (λ (c : Command). slice_get (events_of c) p.driver.made ≡ Some rows.Frames) same_one due.next))
row_follows rows.LendDescriptors p due sound =
    went_on p.driver p.memory (record p.driver { book = (lend_taken (holding p.driver.book (linked_by p.driver p.memory p.driver.command))).book }) refl refl refl
row_follows (rows.Unlink t) p due sound = unlink_goes p t (slice_get p.driver.transfers t)
row_follows (rows.ReleaseRemoved what) p due sound = removed_goes p what
row_follows (rows.ReleaseTransfer t) p due sound = transfer_goes p t (slice_get p.driver.transfers t) (freed_by p.driver (holding p.driver.book p.memory) (slice_get p.driver.transfers t)) refl
row_follows (rows.ReleaseEndpoint e) p due sound = endpoint_goes p e (slice_get p.driver.endpoints e) refl
row_follows (rows.Harvest e t found) p due sound =
    subst (λ (o : Option Endpoint). Follows p.driver p.memory (after_harvest p.driver p.memory e t found o (slice_get p.driver.transfers t))) (sym due.here)
    (subst (λ (o : Option Transfer). Follows p.driver p.memory (after_harvest p.driver p.memory e t found (Some due.endpoint) o)) (sym due.there)
    (noted_same p.driver p.memory (after_harvest p.driver p.memory e t found (Some due.endpoint) (Some due.transfer)) (harvest_notes p e t found due sound.owners.orderly)
    (harvest_back p e t found due sound.owners.orderly) (harvest_out p e t found due sound.owners.orderly)))
row_follows row p due sound = untouched p.driver p.memory (after_driver_row row p).driver refl refl refl

-- ---- memory

stored_words : (b words_b : ℕ) → b ≢ words_b → words_b ≢ b
stored_words b c off is = off (sym is)

module _ (p : Parts) (sound : IsSound p.memory p.driver) (t : ℕ) (y : Transfer) (here : slice_get p.driver.transfers t ≡ Some y) (sort : is_descriptor y.sort ≡ true) (held : y.released ≡ false) where
  abbrev d : DriverContent
  d = p.driver

  abbrev k : Book
  k = p.driver.book

  abbrev m : Mem
  m = p.memory

  abbrev split : Bool
  split = (note_at p.driver.periodic.notes y.first).split

  placed : IsPlaced (slot_of p.driver.book.slots) sound.owners.owner y.first (Described (note_at p.driver.periodic.notes y.first).split t)
  placed = (sound.owners.owned.each.described t (runs_of_transfer y) (ap (option_map runs_of_transfer) here) sort held).descriptor

  abbrev Calm : Mem → Type 0
  Calm new = AreCalm (note_at p.driver.periodic.notes y.first).split p.memory new y.first

  still : Calm p.memory
  still = all_calm split m m y.first (λ i. same refl)

  -- the list is in another run
  off_list : p.driver.periodic.list.list ≢ y.first
  off_list is = let e : FrameList ≡ Described split t = sym sound.owners.owned.each.list.owned ∙ ap sound.owners.owner (sym sound.listed.list.list ∙ is) ∙ placed.owned in absurd (cc)

  off_pieces : (number c q : ℕ) → 1 ≤ q → ArePieces (slot_of p.driver.book.slots) sound.owners.owner (views_of p.driver).note number c q → c ≢ y.first
  off_pieces number c zero some pieces is = absurd (omega (arith, some))
  off_pieces number c (suc q) some pieces is = let e : Element number ≡ Described split t = sym pieces.0.element.owned ∙ ap sound.owners.owner is ∙ placed.owned in absurd (cc)

  off_published : (c : ℕ) (words : List ℕ) → p.driver.command ≡ Some (unfinished.Publish c words) → c ≢ y.first
  off_published c words is hit =
      let q = subst (λ (o : Option Command). StandsFor (link_in m) d.endpoints d.transfers o) is sound.ring.ring in
      let pieces = sound.owners.owned.each.pieces q.number (runs_of_transfer q.transfer) (ap (option_map runs_of_transfer) q.there) q.released in
      off_pieces q.number q.transfer.first q.transfer.qtds q.some pieces (q.first ∙ hit)

  by_list : (q : Periodic) → q.list ≢ y.first → Calm (stored_link p.driver.book p.memory (next_store q))
  by_list q off = by_work q.work
    where
      by_word : (w : Work) (o : Option Predecessor) → Calm (stored_link p.driver.book p.memory (option_map (λ word. store_at q.list word (value_of q.members.schedule w)) o))
      by_word w None = still
      by_word w (Some word) = link_calm k m sound.stands y.first split placed.run m q.list word (value_of q.members.schedule w) off

      by_work : (o : Option Work) → Calm (stored_link p.driver.book p.memory (option_and_then (λ w. store_of q.list q.members.schedule w) o))
      by_work None = still
      by_work (Some w) = by_word w (slice_get (words_of q.members.schedule w) w.made)

  by_link : (row : DriverRow) → IsLinkOf p row → Calm (after_driver_row row p).memory
  by_link row why =
      subst (λ (r : DriverRow). Calm (after_driver_row r p).memory) (sym why.is) (subst (λ (o : Option Store). Calm (stored_link k m o)) why.next (by_list d.periodic.list off_list))

  -- a store of the command's own
  abbrev IsStore : DriverRow → Type 0
  IsStore (rows.Store b at v) = Unit {0}
  IsStore _ = ⊥

  by_published : (c : ℕ) (words : List ℕ) (row : DriverRow) (o : Option ℕ) → p.driver.command ≡ Some (unfinished.Publish c words) → option_map (λ i. rows.Store c (32 * c + 4 * i) (slice_index words i)) o ≡ Some row
      → Calm (after_driver_row row p).memory
  by_published c words row None is next = absurd (cc)
  by_published c words row (Some i) is next =
      subst (λ (r : DriverRow). Calm (after_driver_row r p).memory) (same_Some (rows.Store c (32 * c + 4 * i) (slice_index words i)) row next)
      (other_run k m sound.stands y.first split placed.run m c (32 * c + 4 * i) (slice_index words i) (off_published c words is))

  no_store : (one row : DriverRow) → (IsStore one → ⊥) → Some one ≡ Some row → IsStore row → ⊥
  no_store one row none is on = none (subst IsStore (sym (same_Some one row is)) on)

  by_own : (c : Command) (n : ℕ) (row : DriverRow) → p.driver.command ≡ Some c → slice_get (events_of c) n ≡ Some row → IsStore row → Calm (after_driver_row row p).memory
  by_own (unfinished.Open queue) (suc zero) row is next on =
      subst (λ (r : DriverRow). Calm (after_driver_row r p).memory) (same_Some _ row next) (first_word k m sound.stands y.first split placed.run m head_block _)
  by_own (unfinished.Open queue) (suc (suc n)) row is next on = absurd (cc)
  by_own (unfinished.Publish b words) (suc n) row is next on = by_published b words row (slice_get store_order n) is (sym (slice_get-map _ store_order n) ∙ next)
  by_own (unfinished.Unlink e b link) zero row is next on =
      subst (λ (r : DriverRow). Calm (after_driver_row r p).memory) (same_Some _ row next) (first_word k m sound.stands y.first split placed.run m b link)
  by_own (unfinished.Unlink e b link) (suc n) row is next on = absurd (cc)
  by_own unfinished.Chain (suc n) row is next on = absurd (cc)
  by_own (unfinished.Iso e f count) zero row is next on = absurd (no_store rows.Frames row (λ x. x) next on)
  by_own (unfinished.Iso e f count) (suc zero) row is next on = absurd (no_store rows.LendDescriptors row (λ x. x) next on)
  by_own (unfinished.Iso e f count) (suc (suc n)) row is next on = absurd (cc)
  by_own (unfinished.Unchain e) n row is next on = absurd (cc)
  by_own _ zero row is next on = absurd (no_store rows.Lend row (λ x. x) next on)

  -- descriptors are linked before they are lent
  by_linked : (o : Option Command) → Calm (linked_by p.driver p.memory o)
  by_linked (Some (unfinished.Iso e f count)) = linked_calm k m sound.stands y.first split placed.run d.periodic.list d.periodic.notes (take count (drop f d.transfers)) m
  by_linked _ = still

  by_unlink : (u : ℕ) (o : Option Transfer) → Calm (after_unlink p u o).memory
  by_unlink u None = still
  by_unlink u (Some z) =
      by_list (descriptor_leaving d z)
      (λ is. off_list (sym (either (λ (q : Periodic). q.list) (may_unlink d.periodic.list (descriptor_member d.periodic.notes z.first)) (removing d.periodic.list (descriptor_member d.periodic.notes z.first)) d.periodic.list d.periodic.list.list refl refl) ∙ is))

  by_transfer : (u : ℕ) (o : Option Transfer) → Calm (after_transfer p u o (freed_by p.driver (holding p.driver.book p.memory) o)).memory
  by_transfer u None = still
  by_transfer u (Some z) = all_calm split m _ y.first (qtds_calm d.notes (holding k m) z.first z.qtds)

  endpoint_calm : (e : ℕ) (x : Endpoint) → AllCalm p.memory (free_endpoint p.driver e x (holding p.driver.book p.memory)).memory
  endpoint_calm e x =
      let h : Holding = free_runs (holding k m) (x.queue ∷ x.dummy ∷ []) in
      more_calm m h.memory (free_transfers d.notes e h d.transfers).memory (runs_calm (holding k m) (x.queue ∷ x.dummy ∷ [])) (transfers_calm d.notes e h d.transfers)

  by_endpoint : (e : ℕ) (o : Option Endpoint) → Calm (after_endpoint p e o).memory
  by_endpoint e None = still
  by_endpoint e (Some x) = all_calm split m _ y.first (endpoint_calm e x)

  by_descriptor : (u : ℕ) (o : Option Transfer) → Calm (after_descriptor p u o).memory
  by_descriptor u None = still
  by_descriptor u (Some z) =
      all_calm split m (after_descriptor p u (Some z)).memory y.first
      (runs_calm (holding k m) (z.first ∷ take (note_at d.periodic.notes z.first).runs (note_at d.periodic.notes z.first).buffer))

  by_placed : (e : ℕ) (o : Option Endpoint) → Calm (after_placed p e o).memory
  by_placed e None = still
  by_placed e (Some x) =
      all_calm split m (after_placed p e (Some x)).memory y.first
      (either_calm m (is_iso x.desc.kind) (free_descriptors d.periodic.notes e (holding k m) d.transfers) (free_endpoint d e x (holding k m)) (descriptors_calm d.periodic.notes e (holding k m) d.transfers)
      (endpoint_calm e x))

  by_removed : (what : Removed) → Calm (after_removed p what).memory
  by_removed (removed.Descriptor u) = by_descriptor u (slice_get d.transfers u)
  by_removed (removed.Endpoint e) = by_placed e (slice_get d.endpoints e)

  -- what is owed to stalled endpoints goes to their queue heads
  pub row_calm : (row : DriverRow) → IsDue p row → ((w : Mend) → slice_get p.driver.mends 0 ≡ Some w → w.queue ≢ y.first) → Calm (after_driver_row row p).memory
  row_calm rows.Lend due off = all_calm split m _ y.first (lend_calm (holding k m))
  row_calm (rows.Store b at v) due off = ⊎_elim (λ (n : IsNextOf p (rows.Store b at v)). by_own n.command d.made (rows.Store b at v) n.unfinished n.next tt) (λ (l : IsLinkOf p (rows.Store b at v)). by_link (rows.Store b at v) l) due
  row_calm (rows.Mend w) due off = other_run k m sound.stands y.first split placed.run m w.queue w.at w.value (off w due.1)
  row_calm rows.LendDescriptors due off = both_calm split m (linked_by d m d.command) _ y.first (by_linked d.command) (all_calm split (linked_by d m d.command) _ y.first (lend_calm (holding k (linked_by d m d.command))))
  row_calm (rows.Unlink u) due off = by_unlink u (slice_get d.transfers u)
  row_calm (rows.ReleaseRemoved what) due off = by_removed what
  row_calm (rows.ReleaseTransfer u) due off = by_transfer u (slice_get d.transfers u)
  row_calm (rows.ReleaseEndpoint e) due off = by_endpoint e (slice_get d.endpoints e)
  row_calm _ due off = still
