-- Whose the run of a structure is that stands in the frame list, or was unlinked in this microframe: of an endpoint that is in its frames, or was, or of a descriptor. So the
-- driver's events for queues and for what it gives back leave its link.
use Rattle.std.proofs.Common.{◌≡◌, ◌≢◌, ℕ, suc, ◌*◌, ◌/◌, ◌≤◌, Bool, true, false, not, ◌&&◌, ◌||◌, if◌then◌else◌, slice_get, drop, Option, Some, None, option_map, ⊎_elim, ap, refl, sym, ◌∙◌, arith}
use Rattle.std.proofs.lemmas.Bool.{true≢false}
use Rattle.std.proofs.lemmas.Option.{same_Some}
use Rattle.law_driver.proofs.Common.{get_drop, same_endpoint}
use Rattle.law_common.proofs.Booleans.{owed_by}
use Rattle.mem_runs.specs.declared.slots.Slot.{Slot}
use Rattle.mem_runs.specs.Book.{holding, slot_of, store, IsAt}
use Rattle.drv_chains.specs.Chains.{id_of}
use Rattle.drv_periodic_table.specs.Periodic.{is_periodic}
use Rattle.drv_periodic_table.specs.declared.content.Removal.{Removal}
use Rattle.drv_periodic_table.specs.declared.content.Removed.{Removed}
use Rattle.drv_table.specs.declared.content.Command.{Command}
use Rattle.drv_table.specs.declared.content.Command.TheVariants as unfinished
use Rattle.drv_table.specs.declared.content.Endpoint.{Endpoint}
use Rattle.drv_table.specs.declared.content.Transfer.{Transfer}
use Rattle.drv_table.specs.declared.rows.DriverRow.TheVariants as rows
use Rattle.drv_table.specs.DriverContent.{DriverContent}
use Rattle.drv_table.specs.Accepting.{oldest_of}
use Rattle.drv_table.specs.Parts.{Parts}
use Rattle.drv_table.specs.Commands.{events_of}
use Rattle.drv_table.specs.Words.{head_block}
use Rattle.claims_driver.specs.Ring.{link_in}
use Rattle.law_driver.specs.ring_members.Words.{IsUnlinking, IsPublishing}
use Rattle.law_driver.specs.in_place.InPlace.{IsSound}
use Rattle.law_driver.proofs.lemmas.ring_members.Placed.{in_ring_alive, linked_alive, queue_placed}
use Rattle.link_words.specs.Links.{link_read}
use Rattle.claims_driver.specs.Owners.{Owner, QueueHead, Described, SlotHas, HasBlocks, is_descriptor, runs_of_transfer, runs_of_endpoint, views_of}
use Rattle.claims_driver.specs.Leaving.{times, endpoints_in, owes, leaves_frames, HasOwners}
use Rattle.law_driver.specs.listed_members.Members.{IsListed}
use Rattle.law_driver.proofs.lemmas.ring_members.Links.{LeadsTo, oldest_is}
use Rattle.law_driver.proofs.lemmas.ring_members.Events.{open_store, unlink_store, publish_store, chain_never, iso_never, unchain_never, stands_as, block_of}
use Rattle.law_driver.proofs.lemmas.ring_members.Stores.{slots_apart, store_elsewhere}
use Rattle.law_frame_list.proofs.lemmas.list_spread.Spreading.{IsHis, his, slot_has}
use Rattle.law_frame_list.proofs.lemmas.list_aside.Aside.{IsOther, IsOwn, own}
use Rattle.law_frames.specs.Met.{Kind}
use Rattle.law_descriptors.specs.Meeting.{standing, or_recent, met}
use Rattle.claims_driver.specs.Unlinked.{led}
use Rattle.law_descriptors.specs.Removed.{IsRemovedAt, a_descriptor, a_queue, a_waiting, IsRemovedSince, IsUnchainedNow}
use Rattle.law_descriptors.specs.Recent.{AreRecent}
use Rattle.law_descriptors.proofs.Finding.{IsMemberAt}
use Rattle.law_descriptors.proofs.Leading.{led_linked}
use Rattle.law_descriptors.proofs.Returning.{frames_owed, transfer_counts, endpoint_counts}
use Rattle.law_microframes.specs.visits.Ranks.{name_of, next_of}
use Rattle.law_microframes.proofs.lemmas.visits.DriverGoesOn.{member_stands}
use Rattle.law_microframes.proofs.lemmas.visits.BelongQueues.{waiting_held}

pub record HasName (d : DriverContent) (owner : ℕ → Owner) (n : ℕ) : Type 0 where
  pub block : ℕ
  pub at : n ≡ 32 * block
  pub whose : Owner
  pub owned : owner block ≡ whose
  pub other : IsOther d whose
  pub run : (i : ℕ) × ((1 ≤ i) × HasBlocks i (slot_of d.book.slots block))

described_run : (split : Bool) (s : Slot) → HasBlocks (if split then 1 else 2) s → (i : ℕ) × ((1 ≤ i) × HasBlocks i s)
described_run true s run = (1, (omega arith, run))
described_run false s run = (2, (omega arith, run))

periodic_owed : (c g p : Bool) → 1 ≤ (if c || g || not p then 0 else 1) → p ≡ true
periodic_owed true g p one = absurd (omega (arith, one))
periodic_owed false true p one = absurd (omega (arith, one))
periodic_owed false false true one = refl
periodic_owed false false false one = absurd (omega (arith, one))

module _ (d : DriverContent) (left : ℕ → Option Kind) (index : ℕ) (has : HasOwners d) (listed : IsListed d) (stays : (e : ℕ) → d.command ≡ Some (unfinished.Unchain e) → ⊥) where
  described_other : (split : Bool) (t : ℕ) → IsOther d (Described split t)
  described_other split t = record { head = λ same. absurd (cc); ring = λ e x here ring same. absurd (cc); element = λ u same. absurd (cc) }

  of_descriptor : (u : ℕ) (z : Transfer) (n : ℕ) → slice_get d.transfers u ≡ Some z → is_descriptor z.sort ≡ true → z.released ≡ false → n ≡ 32 * z.first → HasName d has.owner n
  of_descriptor u z n there sort held at =
      let o = has.owned.each.described u (runs_of_transfer z) (ap (option_map runs_of_transfer) there) sort held in
      record {
        block = z.first;
        at = at;
        whose = Described ((views_of d).descriptor z.first).split u;
        owned = o.descriptor.owned;
        other = described_other ((views_of d).descriptor z.first).split u;
        run = described_run ((views_of d).descriptor z.first).split (slot_of d.book.slots z.first) o.descriptor.run;
      }

  frames_owe : (g : ℕ) (v : Endpoint) → slice_get d.endpoints g ≡ Some v → 1 ≤ times g (endpoints_in d.periodic.removals) → 1 ≤ (if v.chained || v.gone || not (is_periodic v.desc.kind) then 0 else 1)
  frames_owe g v at counts =
      let most = has.orderly.removed g in
      let owes_it : leaves_frames (slice_get d.endpoints g) ≡ (if v.chained || v.gone || not (is_periodic v.desc.kind) then 0 else 1) = ap leaves_frames at in
      omega (arith, counts, most, owes_it)

  of_removed : (k : ℕ) (r : Removal) (w : Removed) (n : ℕ) → slice_get d.periodic.removals k ≡ Some r → r.what ≡ w → IsRemovedAt d.endpoints d.transfers n w → HasName d has.owner n
  of_removed k r _ n at what (a_descriptor u z in_list is) =
      let counts = transfer_counts u d.periodic.removals k r at what in
      let most = has.orderly.harvests u in
      let owes_it : owes (slice_get d.transfers u) ≡ (if z.reported && not z.released then 1 else 0) = ap owes in_list in
      let told = owed_by z.reported z.released (omega (arith, counts, most, owes_it)) in
      of_descriptor u z n in_list (has.orderly.unlinked u z (omega (arith, counts)) in_list) told.1 is
  of_removed k r _ n at what (a_queue g v in_list bulk is) =
      let owe = frames_owe g v in_list (endpoint_counts g d.periodic.removals k r at what) in
      let kept : v.gone ≡ false = frames_owed v.chained v.gone (is_periodic v.desc.kind) owe in
      let periodic : is_periodic v.desc.kind ≡ true = periodic_owed v.chained v.gone (is_periodic v.desc.kind) owe in
      let o = has.owned.each.queue g (runs_of_endpoint v) (ap (option_map runs_of_endpoint) in_list) (ap (λ (b : Bool). b || v.gone) bulk ∙ kept) in
      record {
        block = v.queue;
        at = is;
        whose = QueueHead g;
        owned = o.owned;
        other = record {
          head = λ same. absurd (cc);
          ring = λ e x here ring same.
              (let one : x ≡ v = same_Some x v (sym here ∙ ap (slice_get d.endpoints) (sym (same_endpoint g e same)) ∙ in_list) in
              true≢false (sym periodic ∙ ap (λ (z : Endpoint). is_periodic z.desc.kind) (sym one) ∙ ring));
          element = λ t same. absurd (cc);
        };
        run = (2, (omega arith, o.run));
      }
  of_removed k r _ n at what (a_waiting g u v z in_endpoints iso in_list is_sort waiting is) =
      let kept : v.gone ≡ false = frames_owed v.chained v.gone (is_periodic v.desc.kind) (frames_owe g v in_endpoints (endpoint_counts g d.periodic.removals k r at what)) in
      of_descriptor u z n in_list is_sort (waiting_held d has g u v z in_endpoints kept in_list waiting) is

  of_member : (n : ℕ) (kind : Kind) → standing d n ≡ Some kind → HasName d has.owner n
  of_member n kind is =
      let x : IsMemberAt (led d) n = member_stands d n kind is in
      let on = led_linked d.periodic.list.members.schedule d.periodic.list.work x.member x.linked in
      let o : IsOwn d has.owner (id_of x.member / 32) = own d x.member has listed on in
      let h : IsHis d has.owner (id_of x.member / 32) = his d x.member has listed on in
      record { block = id_of x.member / 32; at = sym x.begins; whose = o.whose; owned = o.owned; other = o.other; run = h.run }

  pub has_name : AreRecent d index left → (n : ℕ) (kind : Kind) → met d left n ≡ Some kind → HasName d has.owner n
  has_name are n kind is = by (standing d n) refl is
    where
      by : (o : Option Kind) → standing d n ≡ o → or_recent o (left n) ≡ Some kind → HasName d has.owner n
      by (Some one) some on = of_member n one some
      by None none on =
          ⊎_elim (λ (since : IsRemovedSince d.endpoints d.transfers d.periodic.removals index n). of_removed since.place since.removal since.removal.what n since.here refl since.what)
          (λ (now : IsUnchainedNow d.endpoints d.transfers d.command n). absurd (stays now.endpoint now.command)) (are n kind on)

-- ---- its link is left where its run is

pub slot_there : (d : DriverContent) (owner : ℕ → Owner) (n : ℕ) → ((b : ℕ) → IsAt b (slot_of d.book.slots b)) → (h : HasName d owner n) → SlotHas (slot_of d.book.slots h.block) (n / 32)
slot_there d owner n placed h =
    let at = h.at in
    let some = h.run.1.0 in
    slot_has (slot_of d.book.slots h.block) h.block h.run.0 (n / 32) (placed h.block) h.run.1.1 (omega (arith, at)) (omega (arith, at, some))

-- ---- a store of a queue or of the ring goes elsewhere

module _ (p : Parts) (sound : IsSound p.memory p.driver) where
  ring_apart : (e : ℕ) (x : Endpoint) (whose : Owner) (q : ℕ) → slice_get p.driver.endpoints e ≡ Some x → x.linked ≡ true → IsOther p.driver whose → sound.owners.owner q ≡ whose → q ≢ x.queue
  ring_apart e x whose q here on other owned same =
      other.ring e x here (linked_alive p.driver e x sound.owners.orderly here on).0
      (sym owned ∙ ap sound.owners.owner same ∙ (queue_placed p.driver e x sound.owners here (in_ring_alive p.driver e x sound.owners.orderly here on)).owned)

  head_apart : (whose : Owner) (q : ℕ) → IsOther p.driver whose → sound.owners.owner q ≡ whose → q ≢ head_block
  head_apart whose q other owned same = other.head (sym owned ∙ ap sound.owners.owner same ∙ sound.owners.owned.each.head.owned)

  oldest_apart : (k : ℕ) (whose : Owner) (q : ℕ) → IsOther p.driver whose → sound.owners.owner q ≡ whose → q ≢ oldest_of (drop k p.driver.endpoints)
  oldest_apart k whose q other owned same =
      ⊎_elim (λ (head : oldest_of (drop k p.driver.endpoints) ≡ head_block). head_apart whose q other owned (same ∙ head))
      (λ (l : LeadsTo (drop k p.driver.endpoints) (oldest_of (drop k p.driver.endpoints))).
      ring_apart _ l.endpoint whose q (sym (get_drop p.driver.endpoints k l.number) ∙ l.here) l.linked other owned (same ∙ sym l.queue))
      (oldest_is (drop k p.driver.endpoints))

  own_apart : (c : Command) (b at v : ℕ) (whose : Owner) (q : ℕ) → p.driver.command ≡ Some c → slice_get (events_of c) p.driver.made ≡ Some (rows.Store b at v) → IsOther p.driver whose → sound.owners.owner q ≡ whose → q ≢ b
  own_apart (unfinished.Open queue) b at v whose q is next other owned same = head_apart whose q other owned (same ∙ (open_store queue p.driver.made b at v next).1.0.0)
  own_apart (unfinished.Publish c words) b at v whose q is next other owned same =
      let u : IsPublishing (link_in p.memory) p.driver.endpoints p.driver.transfers c = stands_as (link_in p.memory) p.driver (unfinished.Publish c words) is sound.ring in
      other.element u.number
      (sym owned ∙ ap sound.owners.owner (same ∙ publish_store c words p.driver.made b at v next) ∙ (block_of p.driver sound.owners (link_in p.memory) c u).owned)
  own_apart (unfinished.Unlink e c link) b at v whose q is next other owned same =
      let u : IsUnlinking (link_in p.memory) p.driver.endpoints e c link = stands_as (link_in p.memory) p.driver (unfinished.Unlink e c link) is sound.ring in
      oldest_apart (suc e) whose q other owned (same ∙ (unlink_store e c link p.driver.made b at v next).1.0.0 ∙ u.from)
  own_apart unfinished.Chain b at v whose q is next other owned same = absurd (chain_never p.driver.made b at v next)
  own_apart (unfinished.Iso e t count) b at v whose q is next other owned same = absurd (iso_never e t count p.driver.made b at v next)
  own_apart (unfinished.Unchain e) b at v whose q is next other owned same = absurd (unchain_never e p.driver.made b at v next)

  pub own_store : (c : Command) (b at v n : ℕ) → p.driver.command ≡ Some c → slice_get (events_of c) p.driver.made ≡ Some (rows.Store b at v) → HasName p.driver sound.owners.owner n
      → next_of (store p.driver.book p.memory b at v) n ≡ next_of p.memory n
  own_store c b at v n is next h =
      ap (λ (x : ℕ). name_of (link_read x))
      (store_elsewhere p.driver.book p.memory b h.block at v n (slots_apart (holding p.driver.book p.memory) sound.stands) (own_apart c b at v h.whose h.block is next h.other h.owned)
      (slot_there p.driver sound.owners.owner n sound.stands.placed h))
