-- The link of a structure that stands aside, in a run that is neither the head's, nor a queue head's in the ring, nor a member's of the
-- frame list, stays whatever event comes, and its first block stays Lent: the controller writes no link, and the driver stores elsewhere.
use Rattle.std.proofs.Common.{◌≡◌, ◌≢◌, ℕ, suc, ◌+◌, ◌*◌, ◌/◌, ◌≤◌, Bool, true, false, cond, drop}
use Rattle.std.proofs.Common.{slice_get, get_or, Option, Some, None, ap, refl, sym, subst, ◌∙◌, arith, ⊎_elim}
use Rattle.std.specs.Prelude.{◌⊎◌, option_and_then, option_map}
use Rattle.std.specs.List.{AllByRecursion}
use Rattle.std.proofs.lemmas.List.{get_or-set_other}
use Rattle.std.proofs.lemmas.Option.{same_Some}
use Rattle.law_common.proofs.Lists.{nth_all}
use Rattle.law_driver.proofs.Common.{get_drop}
use Rattle.word_mem.specs.declared.blocks.BlockState.TheVariants.{Lent}
use Rattle.word_mem.specs.Memory.{Mem, with_word, reaches, state_at}
use Rattle.mem_runs.specs.Book.{Holding, holding, slot_of, can_store, store}
use Rattle.drv_chains.specs.declared.members.Predecessor.{Predecessor}
use Rattle.drv_chains.specs.declared.members.Predecessor.TheVariants.{Element as AtElement, After}
use Rattle.drv_chains.specs.Chains.{Schedule}
use Rattle.drv_members.specs.Members.{Members}
use Rattle.drv_periodic.specs.declared.work.Work.{Work}
use Rattle.drv_periodic.specs.declared.work.Store.{Store}
use Rattle.drv_periodic.specs.Periodic.{Periodic, address_of, next_store, store_at, store_of, value_of, words_of}
use Rattle.drv_periodic_table.specs.Periodic.{descriptor_member}
use Rattle.drv_periodic_table.specs.declared.content.Removed.{Removed}
use Rattle.drv_periodic_table.specs.declared.content.Removed.TheVariants as removed
use Rattle.drv_table.specs.declared.content.Command.{Command}
use Rattle.drv_table.specs.declared.content.Command.TheVariants as unfinished
use Rattle.drv_table.specs.declared.content.Endpoint.{Endpoint}
use Rattle.drv_table.specs.declared.content.Mend.{Mend}
use Rattle.drv_table.specs.declared.content.Transfer.{Transfer}
use Rattle.drv_table.specs.declared.rows.DriverRow.{DriverRow}
use Rattle.drv_table.specs.declared.rows.DriverRow.TheVariants as rows
use Rattle.drv_table.specs.DriverContent.{DriverContent}
use Rattle.drv_table.specs.Words.{head_block}
use Rattle.drv_table.specs.Accepting.{oldest_of}
use Rattle.drv_table.specs.Commands.{events_of}
use Rattle.drv_table.specs.Parts.{Parts}
use Rattle.drv_table.specs.Releases.{after_transfer, after_endpoint, freed_by}
use Rattle.drv_table.specs.Removals.{after_descriptor, after_placed, after_removed, after_unlink, descriptor_leaving}
use Rattle.drv_table.specs.Removals.{stored_link}
use Rattle.drv_table.specs.Rows.{driver_row, after_driver_row}
use Rattle.bus_world.specs.World.{World, driver_parts, controller_parts}
use Rattle.claims_base.specs.Controller.{opening_base}
use Rattle.claims_driver.specs.Owners.{Owner, Head, QueueHead, Element, HasRun}
use Rattle.claims_driver.specs.Ring.{link_in}
use Rattle.law_driver.specs.ring_members.Words.{IsMending, IsPublishing, IsUnlinking}
use Rattle.law_driver.specs.in_place.InPlace.{IsSound}
use Rattle.law_descriptors.proofs.Lends.{lend_leaves}
use Rattle.law_descriptors.specs.Lent.{IsLending}
use Rattle.law_driver.proofs.lemmas.queue_head_words.Events.{past_list}
use Rattle.law_driver.proofs.lemmas.ring_members.Events.{begun_members, block_of, chain_never, first_mend, iso_never, open_store}
use Rattle.law_driver.proofs.lemmas.ring_members.Events.{publish_store, stands_as, unchain_never, unlink_store}
use Rattle.law_driver.proofs.lemmas.ring_members.Freed.{LeavesRest, lent_words, rest_qtds, rest_endpoint, rest_descriptor, rest_placed}
use Rattle.law_driver.proofs.lemmas.ring_members.Links.{LeadsTo, oldest_is}
use Rattle.law_driver.proofs.lemmas.ring_members.Placed.{has_word, in_ring_alive, queue_placed}
use Rattle.law_driver.proofs.lemmas.ring_members.Stores.{slots_apart, store_elsewhere}
use Rattle.law_driver.proofs.lemmas.run_owners.Reasons.{each_event_is_due}
use Rattle.law_driver.proofs.lemmas.run_owners.Runs.{placed_run}
use Rattle.law_driver.specs.run_owners.Due.{IsDue, IsLinkOf, IsNextOf}
use Rattle.law_frame_words.proofs.lemmas.frame_words.Decoded.{IsWordOf}
use Rattle.law_frame_words.proofs.lemmas.frame_words.InChains.{words_in}
use Rattle.law_structures.proofs.lemmas.lent_structures.Standing.{reaches_if}
use Rattle.law_structures.specs.lent_structures.Changes.{Leaves}
use Rattle.law_world.proofs.lemmas.memory.FrameLends.{lends_iso}
use Rattle.law_world.proofs.lemmas.memory.lemmas.framed_memory.Lending.{lending}
use Rattle.law_world.specs.memory.Aside.{IsAside, DriverLeavesAside}
use Rattle.law_world.specs.memory.framed_memory.Isochronous.{AwaitsLend}
use Rattle.law_world.specs.memory.Mixed.{Standing, IsMixedAt}

-- ---- a store of the frame list

pub record NextWord (p : Periodic) (st : Store) : Type 0 where
  pub work : Work
  pub under_way : p.work ≡ Some work
  pub word : Predecessor
  pub here : slice_get (words_of p.members.schedule work) work.made ≡ Some word
  pub is : store_at p.list word (value_of p.members.schedule work) ≡ st

next_by : (p : Periodic) (w : Work) (st : Store) (o : Option Predecessor) → p.work ≡ Some w
    → slice_get (words_of p.members.schedule w) w.made ≡ o
    → option_map (λ word. store_at p.list word (value_of p.members.schedule w)) o ≡ Some st → NextWord p st
next_by p w st None under here is = absurd (cc)
next_by p w st (Some word) under here is =
    record {
      work = w;
      under_way = under;
      word = word;
      here = here;
      is = same_Some (store_at p.list word (value_of p.members.schedule w)) st is;
    }

pub next_word : (p : Periodic) (st : Store) (o : Option Work) → p.work ≡ o
    → option_and_then (λ w. store_of p.list p.members.schedule w) o ≡ Some st → NextWord p st
next_word p st None under is = absurd (cc)
next_word p st (Some w) under is = next_by p w st (slice_get (words_of p.members.schedule w) w.made) under refl is

pub stored_off : (m : Mem) (b : Bool) (st v c : ℕ) → st / 4 ≢ 8 * c → link_in (cond b (with_word m st v) m) c ≡ link_in m c
stored_off m true st v c off =
    get_or-set_other m.words (st / 4) (32 * c / 4) v 0 (λ same. off (omega (arith, same)))
stored_off m false st v c off = refl

mend_off : (w : Mend) (c : ℕ) → IsMending w → w.at / 4 ≢ 8 * c
mend_off w c mending same =
    ⊎_elim (λ (one : w.at ≡ 32 * w.queue + 16). omega (arith, one, same))
    (λ (rest : (w.at ≡ 32 * w.queue + 20) ⊎ (w.at ≡ 32 * w.queue + 24)).
    ⊎_elim (λ (one : w.at ≡ 32 * w.queue + 20). omega (arith, one, same)) (λ (one : w.at ≡ 32 * w.queue + 24). omega (arith, one, same))
    rest)
    mending

-- ---- events of the driver

module _ (s : Standing) (w : World) (k : IsMixedAt s w) where
  abbrev p : Parts
  p = driver_parts w

  abbrev d : DriverContent
  d = w.driver

  abbrev m : Mem
  m = w.memory

  abbrev sound : IsSound w.memory w.driver
  sound = k.now.framed.place.sound

  abbrev owner : ℕ → Owner
  owner = k.now.framed.place.sound.owners.owner

  pub descriptors_leave : driver_row (driver_parts w) ≡ rows.LendDescriptors
      → Leaves w.memory (after_driver_row rows.LendDescriptors (driver_parts w)).memory
  descriptors_leave is =
      let due : IsNextOf p rows.LendDescriptors = subst (IsDue p) is (each_event_is_due p) in
      let iso = lends_iso due.command d.made due.next in
      let made : d.made ≡ 1 = iso.at in
      let command : d.command ≡ Some (unfinished.Iso iso.endpoint iso.first iso.count)
      = due.unfinished ∙ ap (λ (x : Command). Some x) iso.is in
      let a : AwaitsLend d m iso.endpoint iso.first = k.awaiting iso.endpoint iso.first iso.count command (omega (arith, made)) in
      let l : IsLending p iso.first a.endpoint.desc
      = lending opening_base s.member s.recent s.descs s.parts s.hand s.frame (controller_parts w) d iso.endpoint iso.first iso.count k.now
      a
      command made is in
      lend_leaves p iso.first a.endpoint.desc l

  pub reached : (x : Mem) (c : ℕ) → state_at x c ≡ Some Lent → reaches x (32 * c) ≡ true
  reached x c lent =
      let same : c ≡ 32 * c / 32 = omega arith in
      reaches_if x (32 * c) (subst (λ (b : ℕ). state_at x b ≡ Some Lent) same lent)

  module _ (c : ℕ) (aside : IsAside w.driver k.now.framed.place.sound.owners.owner c) where
    run : HasRun (slot_of w.driver.book.slots c)
    run = placed_run c aside.whose aside.placed

    far : 128 ≤ c
    far = past_list (holding d.book m) owner c aside.whose sound.stands sound.owners.owned.each.list aside.placed aside.list

    elsewhere : (b st v : ℕ) → c ≢ b → link_in (store w.driver.book w.memory b st v) c ≡ link_in w.memory c
    elsewhere b st v differs =
        store_elsewhere d.book m b c st v (32 * c) (slots_apart (holding d.book m) sound.stands) differs
        (has_word (holding d.book m) c sound.stands run)

    owned_by : (b : ℕ) (o : Owner) → k.now.framed.place.sound.owners.owner b ≡ o → c ≡ b → aside.whose ≡ o
    owned_by b o owned same = sym aside.placed.owned ∙ ap owner same ∙ owned

    -- the store of the command's own
    off_oldest : (n b : ℕ) → b ≡ oldest_of (drop n w.driver.endpoints) → c ≢ b
    off_oldest n b from same =
        ⊎_elim
        (λ (head : oldest_of (drop n d.endpoints) ≡ head_block).
        aside.head (owned_by head_block Head sound.owners.owned.each.head.owned (same ∙ from ∙ head)))
        (λ (l : LeadsTo (drop n d.endpoints) (oldest_of (drop n d.endpoints))).
        let here : slice_get d.endpoints (n + l.number) ≡ Some l.endpoint = sym (get_drop d.endpoints n l.number) ∙ l.here in
        aside.ring (n + l.number) l.endpoint here l.linked
        (owned_by l.endpoint.queue (QueueHead (n + l.number))
        (queue_placed d (n + l.number) l.endpoint sound.owners here
        (in_ring_alive d (n + l.number) l.endpoint sound.owners.orderly here l.linked)).owned
        (same ∙ from ∙ sym l.queue)))
        (oldest_is (drop n d.endpoints))

    own_off : (command : Command) (b at v : ℕ) → w.driver.command ≡ Some command
        → slice_get (events_of command) w.driver.made ≡ Some (rows.Store b at v) → c ≢ b
    own_off (unfinished.Open queue) b at v is next same =
        aside.head (owned_by head_block Head sound.owners.owned.each.head.owned (same ∙ (open_store queue d.made b at v next).1.0.0))
    own_off (unfinished.Publish f words) b at v is next same =
        let u : IsPublishing (link_in m) d.endpoints d.transfers f = stands_as (link_in m) d (unfinished.Publish f words) is sound.ring in
        aside.element u.number
        (owned_by f (Element u.number) (block_of d sound.owners (link_in m) f u).owned (same ∙ publish_store f words d.made b at v next))
    own_off (unfinished.Unlink e f link) b at v is next same =
        let u : IsUnlinking (link_in m) d.endpoints e f link = stands_as (link_in m) d (unfinished.Unlink e f link) is sound.ring in
        off_oldest (suc e) b ((unlink_store e f link d.made b at v next).1.0.0 ∙ u.from) same
    own_off unfinished.Chain b at v is next same = chain_never d.made b at v next
    own_off (unfinished.Iso e t count) b at v is next same = iso_never e t count d.made b at v next
    own_off (unfinished.Unchain e) b at v is next same = unchain_never e d.made b at v next

    -- a store of the frame list
    word_off : (word : Predecessor) → IsWordOf w.driver.periodic.list.members.schedule word → address_of 0 word / 4 ≢ 8 * c
    word_off (AtElement f) of same = omega (arith, of, same, far)
    word_off (After x) of same = aside.members x of (omega (arith, same))

    list_off : (list : Periodic) (st : Store) → list.list ≡ 0 → list.members ≡ w.driver.periodic.list.members → next_store list ≡ Some st
        → st.at / 4 ≢ 8 * c
    list_off list st first members next same =
        let n : NextWord list st = next_word list st list.work refl next in
        let schedule : list.members.schedule ≡ d.periodic.list.members.schedule = ap (λ (x : Members). x.schedule) members in
        let all : AllByRecursion (IsWordOf d.periodic.list.members.schedule) (words_of d.periodic.list.members.schedule n.work)
        = words_in d.periodic.list.members.schedule n.work.member k.now.framed.list.list.order.kept in
        let here : slice_get (words_of d.periodic.list.members.schedule n.work) n.work.made ≡ Some n.word
        = ap (λ (x : Schedule). slice_get (words_of x n.work) n.work.made) (sym schedule) ∙ n.here in
        let at : st.at ≡ address_of 0 n.word = ap (λ (x : Store). x.at) (sym n.is) ∙ ap (λ (l : ℕ). address_of l n.word) first in
        word_off n.word (nth_all (IsWordOf d.periodic.list.members.schedule) _ n.work.made n.word all here)
        (ap (λ (a : ℕ). a / 4) (sym at) ∙ same)

    stored_list : (st : Store) → st.at / 4 ≢ 8 * c → link_in (store w.driver.book w.memory st.block st.at st.value) c ≡ link_in w.memory c
    stored_list st off = stored_off m (can_store (slot_of d.book.slots st.block) st.at) st.at st.value c off

    store_row : (b at v : ℕ) → IsDue (driver_parts w) (rows.Store b at v)
        → link_in (store w.driver.book w.memory b at v) c ≡ link_in w.memory c
    store_row b at v due =
        ⊎_elim (λ (own : IsNextOf p (rows.Store b at v)). elsewhere b at v (own_off own.command b at v own.unfinished own.next))
        (λ (link : IsLinkOf p (rows.Store b at v)).
        let one : at ≡ link.store.at = let e = link.is in cc in
        stored_off m (can_store (slot_of d.book.slots b) at) at v c
        (λ same. list_off d.periodic.list link.store sound.listed.list.list refl link.next (ap (λ (a : ℕ). a / 4) (sym one) ∙ same)))
        due

    stored_by : (list : Periodic) (o : Option Store) → list.list ≡ 0 → list.members ≡ w.driver.periodic.list.members → next_store list ≡ o
        → link_in (stored_link w.driver.book w.memory o) c ≡ link_in w.memory c
    stored_by list None first members next = refl
    stored_by list (Some st) first members next = stored_list st (list_off list st first members next)

    unlink_row : (t : ℕ) (o : Option Transfer) → link_in (after_unlink (driver_parts w) t o).memory c ≡ link_in w.memory c
    unlink_row t None = refl
    unlink_row t (Some y) =
        let begun = begun_members d.periodic.list (descriptor_member d.periodic.notes y.first) in
        stored_by (descriptor_leaving d y) (next_store (descriptor_leaving d y)) (begun.0 ∙ sound.listed.list.list) begun.1 refl

    -- what is given back
    rest_word : (g : Holding) → LeavesRest (holding w.driver.book w.memory) g → HasRun (slot_of g.book.slots c)
        → link_in g.memory c ≡ link_in w.memory c
    rest_word g rest there = rest.words c (32 * c) (has_word g c rest.stands there)

    transfer_row : (t : ℕ) (o : Option Transfer)
        → HasRun (slot_of (after_transfer (driver_parts w) t o (freed_by w.driver (holding w.driver.book w.memory) o)).driver.book.slots c)
        → link_in (after_transfer (driver_parts w) t o (freed_by w.driver (holding w.driver.book w.memory) o)).memory c ≡ link_in w.memory c
    transfer_row t None there = refl
    transfer_row t (Some y) there = rest_word _ (rest_qtds d.notes (holding d.book m) y.first y.qtds sound.stands sound.shape) there

    endpoint_row : (e : ℕ) (o : Option Endpoint) → HasRun (slot_of (after_endpoint (driver_parts w) e o).driver.book.slots c)
        → link_in (after_endpoint (driver_parts w) e o).memory c ≡ link_in w.memory c
    endpoint_row e None there = refl
    endpoint_row e (Some x) there = rest_word _ (rest_endpoint d e x (holding d.book m) sound.stands sound.shape) there

    descriptor_row : (t : ℕ) (o : Option Transfer) → HasRun (slot_of (after_descriptor (driver_parts w) t o).driver.book.slots c)
        → link_in (after_descriptor (driver_parts w) t o).memory c ≡ link_in w.memory c
    descriptor_row t None there = refl
    descriptor_row t (Some y) there =
        rest_word _ (rest_descriptor d.periodic.notes (holding d.book m) y.first sound.stands sound.shape) there

    placed_row : (e : ℕ) (o : Option Endpoint) → HasRun (slot_of (after_placed (driver_parts w) e o).driver.book.slots c)
        → link_in (after_placed (driver_parts w) e o).memory c ≡ link_in w.memory c
    placed_row e None there = refl
    placed_row e (Some x) there = rest_word _ (rest_placed d e x (holding d.book m) sound.stands sound.shape) there

    removed_row : (what : Removed) → HasRun (slot_of (after_removed (driver_parts w) what).driver.book.slots c)
        → link_in (after_removed (driver_parts w) what).memory c ≡ link_in w.memory c
    removed_row (removed.Descriptor t) there = descriptor_row t (slice_get d.transfers t) there
    removed_row (removed.Endpoint e) there = placed_row e (slice_get d.endpoints e) there

    -- ---- new descriptors are lent

    descriptors_row : state_at w.memory c ≡ Some Lent → driver_row (driver_parts w) ≡ rows.LendDescriptors
        → link_in (after_driver_row rows.LendDescriptors (driver_parts w)).memory c ≡ link_in w.memory c
    descriptors_row lent is = (descriptors_leave is).words (32 * c) (reached m c lent)

    -- ---- each row

    abbrev Keeps : DriverRow → Type 0
    Keeps row = HasRun (slot_of (after_driver_row row (driver_parts w)).driver.book.slots c)
        → link_in (after_driver_row row (driver_parts w)).memory c ≡ link_in w.memory c

    by_row : state_at w.memory c ≡ Some Lent → (row : DriverRow) → driver_row (driver_parts w) ≡ row → IsDue (driver_parts w) row
        → Keeps row
    by_row lent rows.Lend is due there = ap (λ ws. get_or ws (32 * c / 4) 0) (lent_words (holding d.book m))
    by_row lent (rows.Store b at v) is due there = store_row b at v due
    by_row lent (rows.Mend x) is due there =
        stored_off m (can_store (slot_of d.book.slots x.queue) x.at) x.at x.value c
        (mend_off x c (first_mend d.mends x due.1 sound.ring.mends))
    by_row lent rows.LendDescriptors is due there = descriptors_row lent is
    by_row lent (rows.Unlink t) is due there = unlink_row t (slice_get d.transfers t)
    by_row lent (rows.ReleaseTransfer t) is due there = transfer_row t (slice_get d.transfers t) there
    by_row lent (rows.ReleaseEndpoint e) is due there = endpoint_row e (slice_get d.endpoints e) there
    by_row lent (rows.ReleaseRemoved what) is due there = removed_row what there
    by_row lent row is due there = refl

    row_leaves : state_at w.memory c ≡ Some Lent → (row : DriverRow) → driver_row (driver_parts w) ≡ row
        → Keeps (driver_row (driver_parts w))
    row_leaves lent row is =
        subst (λ (r : DriverRow). Keeps r) (sym is) (by_row lent row is (subst (IsDue p) is (each_event_is_due p)))

pub driver_leaves_aside : DriverLeavesAside
driver_leaves_aside = λ s w k c aside lent. row_leaves s w k c aside lent (driver_row (driver_parts w)) refl
