-- The part of a queue head, once a transfer is lent.
use Rattle.std.proofs.Common.{◌≡◌, ℕ, ◌*◌, ◌==◌, ◌&&◌, ◌⊎◌, not, Bool, if◌then◌else◌, List, Some, subst, ◌∙◌, ⊎_elim, arith}
use Rattle.law_ring.proofs.Common.{link_there, own_there}
use Rattle.word_mem.specs.Memory.{Mem, IsShaped}
use Rattle.link_words.specs.Links.{qtd_link_of}
use Rattle.qh_qtd.specs.declared.qtd.Qtd.{Qtd}
use Rattle.hc_copy.specs.Visits.{next_pointer}
use Rattle.mem_runs.specs.Book.{holding, slot_of, Stands}
use Rattle.drv_table.specs.declared.content.Stage.{Stage}
use Rattle.drv_table.specs.DriverContent.{DriverContent}
use Rattle.claims_driver.specs.Owners.{EndpointRuns, TransferRuns, views_of}
use Rattle.claims_driver.specs.Leaving.{HasOwners}
use Rattle.law_structures.specs.lent_structures.Structures.{Structure, QueueHead, Element, Structures, StructureSets}
use Rattle.law_structures.specs.lent_structures.Sound.{IsSoundElement, IsSoundQueue, AreOwn, IsMember}
use Rattle.law_structures.proofs.lemmas.lent_structures.Altering.{found_queue}
use Rattle.law_ring.specs.Front.{HasFront}
use Rattle.law_ring.specs.Together.{Item, put_all}
use Rattle.law_ring.proofs.Joining.{all_beside}
use Rattle.law_ring.proofs.Parting.{Spans, sound_spanned, queue_spanned}
use Rattle.law_driver_ring.specs.Inventory.{sorts_of, IsDriven}
use Rattle.law_driver_ring.specs.Pieces.{NamesLent}
use Rattle.law_driver_ring.specs.TransferLaws.{lent_memory, lent_driver, items_of, HasPieces}
use Rattle.law_driver_ring.specs.Written.{AwaitsLend}
use Rattle.law_driver_ring.proofs.Growing.{StillHas, spans_grown}
use Rattle.law_driver_ring.proofs.Lots.{Lot, items}
use Rattle.law_driver_ring.proofs.TransferLending.{lent_on_views, lots_of, lots_there}
use Rattle.law_driver_ring.proofs.Joining.{joined_parts, still_there}
use Rattle.law_driver_ring.proofs.Joined.{Joins, standing, buffered, elements_sound, names_lent, joined_own, first_publishable, elements_known, none_there, buffers_stay, none_at_zero}
use Rattle.law_frames.specs.Met.{IsQueuePart}
use Rattle.law_frames.proofs.Queues.{a_members_part_is_linked}

-- a queue head of a ring has such a part
pub member_head : (member : ℕ → Bool) (n : ℕ) (part : Structures) → IsMember member n part → IsQueuePart n part
member_head member n part m = (a_members_part_is_linked member n part m).part_is

-- ---- orders

-- where each qTD that is there has the order that it had, the front stays
pub front_renumbered : (order order_now : ℕ → ℕ) (front : ℕ) (out : List ℕ) (n : ℕ) (part : Structures) → IsQueuePart n part → ((a : ℕ) (t : Qtd) → part a ≡ Some (Element t) → order_now a ≡ order a) → HasFront order front out n part → HasFront order_now front out n part
front_renumbered order order_now front out n part m same k = record {
  queue = λ q here.
      let is : m.queue ≡ q = found_queue (part n) m.queue q m.here here in
      let sound : IsSoundQueue part q = subst (IsSoundQueue part) is m.sound in
      let old = k.queue q here in
      record {
        work = λ on. let w = sound.work on in same q.current w.element w.here ∙ old.work on;
        rest = λ b off idle to. let there = link_there part (qtd_link_of (next_pointer q)) b (sound.rest off idle) to in let e = same b there.qtd there.here in let from = old.rest b off idle to in omega (arith, e, from);
      };
  behind = λ a t among here off.
      let old = k.behind a t among here off in
      record {
        qtd = old.qtd;
        here = old.here;
        done = old.done;
        before = (let e = same a old.qtd old.here in let less = old.before in omega (arith, e, less));
        leads = λ b goes_on to.
            let there = own_there part old.qtd (not (old.qtd.token.total == 0) && not old.qtd.alternate.t) b (m.elements a old.qtd old.here) to in
            let e = same b there.qtd there.here in
            let at = old.leads b goes_on to in
            omega (arith, e, at);
      };
  fresh = k.fresh;
  passes = λ a b e t u among also here there over.
      let target = own_there part t (not (t.token.total == 0) && not t.alternate.t) b (m.elements a t here) over.leads in
      let first = same a t here in
      let second = same e u there in
      let third = same b target.qtd target.here in
      let after = over.after in
      let before = over.before in
      k.passes a b e t u among also here there (record { done = over.done; goes_on = over.goes_on; leads = over.leads; after = omega (arith, after, first, second); before = omega (arith, before, second, third) });
}

-- ---- more structures

-- the part has more of them, of which each qTD is sound and has a buffer of its own
pub part_grown : (n : ℕ) (part now : Structures) → StillHas part now → ((a : ℕ) (t : Qtd) → now a ≡ Some (Element t) → (part a ≡ Some (Element t)) ⊎ IsSoundElement now t) → AreOwn now → IsQueuePart n part → IsQueuePart n now
part_grown n part now still elements own m =
    let spans : Spans part now = spans_grown part now still in
    record {
      queue = m.queue;
      here = still n (QueueHead m.queue) m.here;
      sound = queue_spanned part now m.queue spans (λ a t here on. still a (Element t) here) m.sound;
      elements = λ a t found. ⊎_elim (λ (old : part a ≡ Some (Element t)). sound_spanned part now t spans (m.elements a t old)) (λ (new : IsSoundElement now t). new) (elements a t found);
      own = own;
    }

module _ (d : DriverContent) (m : Mem) (t : ℕ) (y : TransferRuns) (x : EndpointRuns) (s : Stage) (ss : List Stage) (parts : StructureSets) (k : AwaitsLend d m t y x s ss) (has : HasOwners d) (stands : Stands (holding d.book m)) (shape : IsShaped m) (driven : IsDriven (views_of d) (sorts_of parts))
    (names : NamesLent (slot_of d.book.slots) (parts (32 * x.queue))) where
  abbrev n : ℕ
  n = 32 * x.queue

  abbrev ls : List Lot
  ls = lots_of d m y x s ss

  joins : Joins (views_of d) (views_of (lent_driver d m)) has.owner t y x d.book.taken (lent_memory d m) parts ls d.notes s ss
  joins =
      let lots = lots_there d m t y x s ss k stands shape in
      record {
        joining = record { on = lent_on_views d m t y x s ss k has stands shape; driven = driven; each = lots.each; runs = lots.runs; apart = k.apart; names = names };
        chain = record { noted = k.noted; ends = k.ends; taken_is = k.taken; items = lots.items };
      }

  abbrev now : StructureSets
  now = joined_parts parts x ls

  abbrev IsThat : StructureSets → Type 0
  IsThat qs = HasPieces d (slot_of (lent_driver d m).book.slots) parts qs y x s ss × (IsQueuePart n (parts n) → IsQueuePart n (qs n))

  stays : (i a : ℕ) (u : Structure) → parts i a ≡ Some u → now i a ≡ Some u
  stays i a u there = still_there (views_of d) (views_of (lent_driver d m)) has.owner t y x d.book.taken (lent_memory d m) parts ls i a u joins.joining there

  -- what the parts have then, and its queue head's part is sound
  pub lent_pieces : IsThat (put_all parts n (items_of d m y x s ss))
  lent_pieces =
      subst (λ (is : List Item). IsThat (put_all parts n is)) (lots_there d m t y x s ss k stands shape).items (
        record {
          still = stays;
          beside = λ i differs. all_beside parts n (items ls) i differs;
          standing = standing joins;
          buffered = buffered joins;
          first = first_publishable joins;
          names = names_lent joins;
          elements = elements_known joins;
          none_before = none_there joins;
          old_buffers = buffers_stay joins;
          none_at_zero = none_at_zero joins;
        },
        λ old. part_grown n (parts n) (now n) (λ a u there. stays n a u there) (λ a u there. elements_sound joins a u there) (joined_own joins old.own) old,
      )
