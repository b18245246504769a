-- A harvested descriptor is unlinked by one store, and the words stand for the list without it.
use Rattle.std.proofs.Common.{◌≡◌, ℕ, ◌^◌, ◌<◌, Bool, true, if◌then◌else◌, List, [], ◌∷◌, slice_get, Option, Some, None, inl, ap, refl, sym, subst, ◌∙◌, arith}
use Rattle.std.specs.Prelude.{is_none, not, ◌&&◌, nat_eq, option_map}
use Rattle.std.proofs.lemmas.Bool.{false≢true, and_parts, eq-eqb}
use Rattle.law_driver.proofs.Common.{among_first}
use Rattle.word_mem.specs.Memory.{Mem, IsShaped, word_at}
use Rattle.mem_runs.specs.Book.{holding, Stands}
use Rattle.drv_chains.specs.declared.members.Descriptor.{Descriptor}
use Rattle.drv_chains.specs.declared.members.Member.TheVariants.{Once}
use Rattle.drv_chains.specs.declared.members.Predecessor.{Predecessor}
use Rattle.drv_chains.specs.Order.{frames}
use Rattle.drv_chains.specs.Chains.{Schedule, predecessor, predecessors}
use Rattle.drv_chains.specs.Stores.{is_made, is_among}
use Rattle.drv_chains.proofs.Descriptors.{all_made_once}
use Rattle.drv_members.specs.Members.{IsKept, is_member, is_linked}
use Rattle.drv_members.proofs.Keeping.{descriptor_at, descriptor_named}
use Rattle.law_frame_words.proofs.lemmas.frame_words.Stored.{descriptor_put}
use Rattle.law_frame_words.proofs.lemmas.frame_words.Begins.{remove_stands}
use Rattle.law_frame_words.proofs.lemmas.frame_words.Order.{remove_in_order}
use Rattle.claims_driver.specs.FrameWords.{IsInOrder, StandFor, ListStands}
use Rattle.drv_periodic.specs.declared.work.Work.{Work}
use Rattle.drv_periodic.specs.declared.work.Store.{Store}
use Rattle.drv_periodic.specs.Periodic.{Periodic, begun, words_of, value_of, store_at, next_store, removing, after_store}
use Rattle.drv_periodic_table.specs.Periodic.{note_at, descriptor_name}
use Rattle.drv_periodic_table.specs.Linking.{may_unlink, unlinking}
use Rattle.drv_table.specs.declared.content.Transfer.{Transfer}
use Rattle.drv_table.specs.declared.rows.DriverRow.{DriverRow}
use Rattle.drv_table.specs.declared.rows.DriverRow.TheVariants as rows
use Rattle.drv_table.specs.DriverContent.{DriverContent}
use Rattle.drv_table.specs.Parts.{Parts}
use Rattle.drv_table.specs.Rows.{driver_row, after_driver_row}
use Rattle.drv_table.specs.Removals.{after_unlink, stored_link}
use Rattle.claims_driver.specs.Owners.{is_descriptor}
use Rattle.law_driver.specs.run_owners.Due.{IsDue, IsUnlinkDue}
use Rattle.claims_driver.specs.Leaving.{HasOwners}
use Rattle.law_driver.proofs.lemmas.run_owners.Orders.{times_first, one_same}
use Rattle.law_driver.proofs.lemmas.run_owners.Reasons.{each_event_is_due}
use Rattle.claims_driver.specs.FrameListMembers.{is_chained, framed_in}
use Rattle.law_driver.specs.listed_members.Members.{IsUnderWay, IsListed}
use Rattle.law_driver.proofs.lemmas.listed_members.Unlinks.{placed_here, below_frames}
use Rattle.law_driver.specs.in_place.InPlace.{IsSound}
use Rattle.law_frame_list.proofs.lemmas.list_rows.Storing.{IsStored, store_made}

-- ---- a linked descriptor has a word before it

some_of : (ps : List Predecessor) (w : Predecessor) → is_among ps w ≡ true → (p : Predecessor) × (slice_get ps 0 ≡ Some p)
some_of [] w is = absurd (false≢true is)
some_of (p ∷ ps) w is = (p, refl)

pub first_word : (s : Schedule) (k : Descriptor) → IsKept s → k.frame < 1024 → is_linked s (Once k) ≡ true → (p : Predecessor) × (slice_get (words_of s (begun (Once k) true)) 0 ≡ Some p)
first_word s k kept small on =
    let at = descriptor_at s k kept on in
    let low : k.frame < 2 ^ 10 = omega (arith, small) in
    let made : is_made s (Once k) (predecessors s (Once k) (frames 10)) k.frame ≡ true =
    subst (λ (x : Schedule). is_made x (Once k) (predecessors x (Once k) (frames 10)) k.frame ≡ true) (sym (descriptor_put s k at)) (all_made_once at.front at.back k s.queues 10 k.frame (descriptor_named s k kept at) low (eq-eqb k.frame k.frame refl)) in
    some_of (predecessors s (Once k) (frames 10)) (predecessor s (Once k) k.frame) (and_parts (nat_eq k.frame k.frame) (is_among (predecessors s (Once k) (frames 10)) (predecessor s (Once k) k.frame)) made).1

-- ---- it is linked

unfoldable pub named_of : DriverContent → Transfer → Descriptor
named_of d y = record { id = descriptor_name (note_at d.periodic.notes y.first) y.first; frame = (note_at d.periodic.notes y.first).frame }

pub unlinked_linked : (d : DriverContent) (t : ℕ) (y : Transfer) → HasOwners d → IsListed d → slice_get d.transfers t ≡ Some y → slice_get d.periodic.unlinks 0 ≡ Some t → is_linked d.periodic.list.members.schedule (Once (named_of d y)) ≡ true
unfolding named_of
unlinked_linked d t y has listed there first =
    let due : is_descriptor y.sort ≡ true =
    has.orderly.unlinked t y (let c = times_first t t d.periodic.unlinks first in let o = one_same t in omega (arith, c, o)) there
    in
    listed.list.members.each (Once (named_of d y))
    (record {
      number = t;
      placed = record { endpoint = y.endpoint; block = y.first; waits = not y.reported && is_chained (framed_in d.endpoints y.endpoint) };
      here = placed_here d.endpoints d.transfers t y there due;
      stands = inl (among_first t d.periodic.unlinks first);
      is = refl;
    })

-- ---- the row

abbrev Stays : DriverRow → Parts → Type 0
Stays row p = ListStands (after_driver_row row p).memory (after_driver_row row p).driver

-- what the list and the memory are once its store is made
abbrev pub StandsAfter : DriverContent → Mem → Periodic → Option Store → Type 0
StandsAfter d m l o = IsInOrder (after_store l) × StandFor (after_store l) (word_at (stored_link d.book m o))

pub removed_stands : (d : DriverContent) (m : Mem) (k : Descriptor) → Stands (holding d.book m) → IsShaped m → HasOwners d → IsListed d → ListStands m d → d.periodic.list.work ≡ None → k.frame < 1024 → is_linked d.periodic.list.members.schedule (Once k) ≡ true
    → StandsAfter d m (unlinking d.periodic.list (Once k)) (next_store (unlinking d.periodic.list (Once k)))
removed_stands d m k stands shape has listed old none small on =
    let l : Periodic = d.periodic.list in
    let may : may_unlink l (Once k) ≡ true =
    ap (λ (o : Option Work). is_none o && (is_member (Once k) && is_linked l.members.schedule (Once k))) none ∙ ap (λ b. b && is_linked l.members.schedule (Once k)) (below_frames k.frame small) ∙ on in
    let is : unlinking l (Once k) ≡ removing l (Once k) = ap (λ (b : Bool). if b then removing l (Once k) else l) may in
    let w : Work = begun (Once k) true in
    let f = first_word l.members.schedule k old.order.kept small on in
    let s : Store = store_at l.list f.0 (value_of l.members.schedule w) in
    let next : next_store (removing l (Once k)) ≡ Some s = ap (option_map (λ (p : Predecessor). store_at l.list p (value_of l.members.schedule w))) f.1 in
    let made : IsStored d m (Some w) s =
    store_made d m (Some w) s stands shape has listed (remove_in_order l (Once k) old.order small on) (remove_stands l (Once k) (word_at m) old.order.kept small on none old.words) next in
    subst (λ (x : Periodic). StandsAfter d m x (next_store x)) (sym is) (subst (λ (o : Option Store). StandsAfter d m (removing l (Once k)) o) (sym next) (made.order, made.words))

row_stands : (p : Parts) (t : ℕ) (o : Option Transfer) → slice_get p.driver.transfers t ≡ o → IsUnlinkDue p t → IsSound p.memory p.driver → ListStands p.memory p.driver → ListStands (after_unlink p t o).memory (after_unlink p t o).driver
unfolding named_of
row_stands p t None there due sound old = old
row_stands p t (Some y) there due sound old =
    let d : DriverContent = p.driver in
    let now = removed_stands d p.memory (named_of d y) sound.stands sound.shape sound.owners sound.listed old (subst (IsUnderWay d) due.idle sound.listed.way).work (sound.listed.list.frames y.first)
    (unlinked_linked d t y sound.owners sound.listed there due.first) in
    record { order = now.0; words = now.1 }

pub unlinks_keep_it_standing : (p : Parts) (t : ℕ) → driver_row p ≡ rows.Unlink t → IsSound p.memory p.driver → ListStands p.memory p.driver → Stays (driver_row p) p
unlinks_keep_it_standing p t is sound old =
    subst (λ (r : DriverRow). Stays r p) (sym is) (row_stands p t (slice_get p.driver.transfers t) refl (subst (IsDue p) is (each_event_is_due p)) sound old)
