-- Each event of the driver keeps queue heads going onward.
use Rattle.std.proofs.Common.{◌≡◌, ◌≢◌, ℕ, ◌*◌, Bool, false, List, Some, ap, refl, sym, subst, ◌∙◌, ⊎_elim}
use Rattle.std.proofs.lemmas.Bool.{cases_eq}
use Rattle.law_ring.proofs.Common.{those_here}
use Rattle.qh_qtd.specs.declared.queue_head.Qh.{Qh}
use Rattle.drv_table.specs.declared.rows.DriverRow.TheVariants as rows
use Rattle.drv_table.specs.declared.content.Endpoint.{Endpoint}
use Rattle.drv_table.specs.declared.content.Transfer.{Transfer}
use Rattle.drv_table.specs.DriverContent.{DriverContent}
use Rattle.law_driver.specs.queued_drivers.Queued.{queued}
use Rattle.law_driver.proofs.lemmas.queued_drivers.RowEvents.{idle_told}
use Rattle.law_structures.specs.lent_structures.Structures.{QueueHead, Structures, StructureSets}
use Rattle.law_ring.specs.Fewer.{without_those}
use Rattle.law_driver_ring.specs.Released.{goes_of}
use Rattle.law_queues.specs.released_queues.Released.{IsReturning}
use Rattle.bus_world.specs.World.{World, driver_next}
use Rattle.law_world.specs.memory.Mixed.{Standing, IsMixedAt}
use Rattle.law_world.specs.memory.Steps.{QueueStep, stays, harvests, returns, lends, stores, mends, begins, opens, unlinks, narrows, goes}
use Rattle.law_world.proofs.lemmas.memory.RingBasis.{due_is}
use Rattle.law_reports.specs.queues.Onward.{LeadsOnward, StandsOnward}
use Rattle.law_reports.specs.queues.OnwardLaws.{GoOnward, DriverKeepsOnward}
use Rattle.law_reports.proofs.lemmas.queues.Lends.{lent_links, lent_stands}
use Rattle.law_reports.proofs.lemmas.queues.Mends.{mends_onward}
use Rattle.law_reports.proofs.lemmas.queues.Opens.{begins_onward, opens_onward}
use Rattle.law_reports.proofs.lemmas.queues.Quiet.{stays_onward, same_onward, unlinks_onward, goes_onward}
use Rattle.law_reports.proofs.lemmas.queues.Returns.{fewer_links, those_beside, returned_stands}
use Rattle.law_reports.proofs.lemmas.queues.Spared.{spared_same, spared_stands, stores as is_storing, none_stored}
use Rattle.law_reports.proofs.lemmas.queues.Stores.{stored_links, stored_stands}

-- ---- the blocks of a transfer are given back

module _ (s : Standing) (w new : World) (mixed : IsMixedAt s w) (g : GoOnward s (queued w.driver)) (t : ℕ) (y : Transfer) (x : Endpoint)
    (r : IsReturning (queued w.driver) t y x) where
  abbrev d : DriverContent
  d = queued w.driver

  abbrev f : DriverContent
  f = queued new.driver

  abbrev n : ℕ
  n = 32 * x.queue

  abbrev gone : ℕ → Bool
  gone = goes_of w.driver y

  abbrev now : StructureSets
  now = without_those s.parts (32 * x.queue) (goes_of w.driver y)

  returned_links : (m : ℕ) → LeadsOnward m (s.parts m) → LeadsOnward m (now m)
  returned_links m old =
      ⊎_elim
      (λ (same : m ≡ n).
      subst (LeadsOnward m) (sym (ap now same ∙ those_here s.parts n gone))
      (fewer_links m gone (s.parts n) (subst (λ (i : ℕ). LeadsOnward m (s.parts i)) same old)))
      (λ (differs : m ≢ n). subst (LeadsOnward m) (sym (those_beside s.parts n m gone differs)) old) (cases_eq m n)

  abbrev IsOnward : (ℕ → ℕ) → DriverContent → ℕ → Structures → Type 0
  IsOnward order c m part = (q : Qh) → part m ≡ Some (QueueHead q) → q.token.halted ≡ false → StandsOnward order c m part q

  stands_then : (m : ℕ) → IsOnward (s.order m) d m (s.parts m) → IsOnward (s.order m) f m (now m)
  stands_then m old =
      ⊎_elim
      (λ (same : m ≡ n).
      subst (λ (i : ℕ). IsOnward (s.order i) f i (now i)) (sym same)
      (subst (IsOnward (s.order n) f n) (sym (those_here s.parts n gone))
      (returned_stands s w mixed t y x r f (subst (λ (i : ℕ). IsOnward (s.order i) d i (s.parts i)) same old))))
      (λ (differs : m ≢ n).
      spared_stands (s.order m) d f m (s.parts m) (now m) (spared_same m (s.parts m) (now m) (those_beside s.parts n m gone differs))
      (λ a un. absurd (none_stored d d.command m a refl (ap is_storing r.free) un)) old)
      (cases_eq m n)

  returns_onward : (later : ℕ → List ℕ) → GoOnward (record s { parts = now; out = later }) (queued new.driver)
  returns_onward later = record {
    links = λ m other. returned_links m (g.links m other);
    stand = λ m q on other pipe here off. stands_then m (λ p there awake. g.stand m p on other pipe there awake) q here off;
  }

-- ---- each step

module _ (s : Standing) (w : World) (mixed : IsMixedAt s w) (g : GoOnward s (queued w.driver)) where
  abbrev new : World
  new = driver_next w

  kept : (t : Standing) → QueueStep s w (driver_next w) t → GoOnward t (queued (driver_next w).driver)
  kept t (stays _ none still) = stays_onward s w new mixed g t none still
  kept _ (harvests e u found due later row after) = same_onward s w new mixed g _ (λ n on. on) refl refl refl due.idle
  kept _ (returns u y x row r) = returns_onward s w new mixed g u y x r _
  kept _ (lends b words get order out row behind) = record {
    links = λ m other. lent_links s w new mixed b words get order out row behind m (g.links m other);
    stand = λ m q on other pipe here off.
        lent_stands s w new mixed b words get order out row behind m (λ p there awake. g.stand m p on other pipe there awake) q here off;
  }
  kept _ (stores b words p next) = record {
    links = λ m other. stored_links s w new mixed b words p next m (g.links m other);
    stand = λ m q on other pipe here off.
        stored_stands s w new mixed b words p next m (λ r there awake. g.stand m r on other pipe there awake) q here off;
  }
  kept _ (mends k row) = mends_onward s w mixed k new _ g refl refl refl refl
  kept _ (begins k row alike) = begins_onward s w mixed k new _ g refl refl refl refl
  kept t (opens k _ alike opened) = opens_onward s t w new k opened g
  kept _ (unlinks k row) = unlinks_onward s w new mixed g k _ refl refl refl refl
  kept _ (narrows member near row are fewer) =
      same_onward s w new mixed g _ fewer refl refl refl (idle_told w.driver (due_is s w mixed rows.ClearAdvance row.next).0)
  kept t (goes e x c _ back is) = goes_onward s w new mixed g e c t (32 * x.queue) back.left is

pub driver_keeps_onward : DriverKeepsOnward
driver_keeps_onward s w t mixed step then g = kept s w mixed g t step
