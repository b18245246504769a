-- Fronts with their tails.
use Rattle.std.proofs.Common.{◌≡◌, ℕ, ◌*◌, true, false, List, Some, ap, sym, subst, ◌∙◌}
use Rattle.std.proofs.lemmas.Bool.{true≢false}
use Rattle.usb_base.specs.declared.packets.Ask.{Ask}
use Rattle.usb_base.specs.declared.packets.Reply.{Reply}
use Rattle.qh_qtd.specs.declared.qtd.Qtd.{Qtd}
use Rattle.drv_table.specs.declared.content.Endpoint.{Endpoint}
use Rattle.drv_table.specs.DriverContent.{DriverContent}
use Rattle.law_structures.specs.lent_structures.Structures.{Element, StructureSets}
use Rattle.law_structures.specs.lent_structures.Alters.{Alters}
use Rattle.law_structures.proofs.lemmas.lent_structures.Names.{put_same}
use Rattle.law_structures.proofs.lemmas.lent_structures.Altering.{found_element}
use Rattle.law_ring.proofs.Altered.{effect_alters}
use Rattle.law_ring.specs.Front.{LinksWithin, HasTail, FrontGoesOn}
use Rattle.law_ring.proofs.FrontGoing.{each_event_moves_the_front_on}
use Rattle.law_ring.proofs.Tails.{tail_stays, tail_moves}
use Rattle.law_controller.specs.controlled_streams.Storing.{stored_parts}
use Rattle.law_queues.proofs.lemmas.standing_fronts.Alike.{head_before, element_before, stored_at, stored_front, published_at, published_front}
use Rattle.law_queues.proofs.lemmas.standing_fronts.Walking.{stands_on}
use Rattle.law_queues.specs.standing_fronts.Reaching.{Reaches, ReachesWalk, ReachesIdleStore, ReachesLastStore}

-- where the front has gone on, it stands before the tail yet
pub reaches_on : (d : DriverContent) (parts now : StructureSets) (order : ℕ → ℕ) (out : List ℕ) (i : ℕ) (x : Endpoint) (c : ℕ) → (k : Reaches d (parts (32 * x.queue)) order out i x c)
    → Alters (parts (32 * x.queue)) (now (32 * x.queue)) → FrontGoesOn order k.stands.front out (32 * x.queue) parts now → Reaches d (now (32 * x.queue)) order out i x c
unfolding stands_on
reaches_on d parts now order out i x c k alters g = record {
  stands = stands_on d parts now order out i x k.stands g;
  within = tail_stays order c (parts (32 * x.queue)) (now (32 * x.queue)) alters k.within;
  tail = g.tail c k.within k.tail;
}

pub reaches_walk : {W : Type 0} (transacts : W → Ask → List ℕ → Reply → W → Type 0) → ReachesWalk transacts
reaches_walk transacts member parts hand reply wire after now later kind d order out i x c members in_hand effect rise k =
    let n = 32 * x.queue in
    reaches_on d parts now order out i x c k (effect_alters transacts member parts hand reply wire after now later kind in_hand effect n)
    (each_event_moves_the_front_on transacts member parts hand reply wire after now later kind order k.stands.front out n members in_hand effect rise k.stands.has)

-- what is active after a store of an inactive qTD was there before
within_stored : (parts : StructureSets) (order : ℕ → ℕ) (m e c : ℕ) (old new : Qtd) → parts m e ≡ Some (Element old) → new.token.active ≡ false → LinksWithin order c (parts m) → LinksWithin order c (stored_parts parts m e new m)
within_stored parts order m e c old new at off k = record {
  below = λ a u here on reached. k.below a u (before a u here on) on reached;
  next = λ a b u here on reached to. k.next a b u (before a u here on) on reached to;
  alternate = λ a b u here on reached to. k.alternate a b u (before a u here on) on reached to;
}
  where
    before : (a : ℕ) (u : Qtd) → stored_parts parts m e new m a ≡ Some (Element u) → u.token.active ≡ true → parts m a ≡ Some (Element u)
    before a u found on =
        element_before parts m e old new at a u
        (λ same. true≢false (sym on ∙ ap (λ (t : Qtd). t.token.active) (sym (found_element (stored_parts parts m e new m e) new u (put_same parts m e (Element new)) (ap (stored_parts parts m e new m) (sym same) ∙ found))) ∙ off)) found

tail_stored : (parts : StructureSets) (order : ℕ → ℕ) (m e c front : ℕ) (old new : Qtd) → parts m e ≡ Some (Element old) → HasTail order c front m (parts m) → HasTail order c front m (stored_parts parts m e new m)
tail_stored parts order m e c front old new at k = record {
  most = k.most;
  rest = λ q b here off idle to. k.rest q b (head_before parts m e old new at q here) off idle to;
}

pub reaches_idle_store : ReachesIdleStore
reaches_idle_store d parts order out i e x old new c at idle off not_out k = record {
  stands = stored_at d parts order out i e x old new at idle not_out k.stands;
  within = within_stored parts order (32 * x.queue) e c old new at off k.within;
  tail = subst (λ (f : ℕ). HasTail order c f (32 * x.queue) (stored_parts parts (32 * x.queue) e new (32 * x.queue))) (stored_front d parts order out i e x old new at idle not_out k.stands)
      (tail_stored parts order (32 * x.queue) e c k.stands.front old new at k.tail);
}

pub reaches_last_store : ReachesLastStore
reaches_last_store d parts order before after i e x old new c at idle on sorted fresh up within k =
    let n = 32 * x.queue in
    record {
      stands = published_at d parts order before after i e x old new at idle sorted on fresh k.stands k.tail.most;
      within = within;
      tail = subst (λ (f : ℕ). HasTail order c f n (stored_parts parts n e new n)) (published_front d parts order before after i e x old new at idle sorted on fresh k.stands k.tail.most)
          (tail_stored parts order n e c k.stands.front old new at (tail_moves order e c k.stands.front n (parts n) up k.tail));
    }
