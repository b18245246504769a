-- Blocks that are given back leave what stands of control queues: those of a transfer that was harvested, and those of an endpoint that has left.
use Rattle.std.proofs.Common.{◌≡◌, ◌≢◌, ℕ, ◌*◌, ◌==◌, Bool, true, false, List, [], set, slice_get, Option, Some, None, ap, refl, sym, subst, ◌∙◌, ⊎_elim, inl, if◌then◌else◌}
use Rattle.std.proofs.lemmas.Bool.{false≢true}
use Rattle.law_world.proofs.Common.{told_same}
use Rattle.mem_runs.specs.Book.{Holding, holding}
use Rattle.drv_table.specs.declared.content.Endpoint.{Endpoint}
use Rattle.drv_table.specs.declared.content.Transfer.{Transfer}
use Rattle.drv_table.specs.declared.rows.DriverRow.{DriverRow}
use Rattle.drv_table.specs.DriverContent.{DriverContent}
use Rattle.drv_table.specs.Parts.{Parts as DriverParts}
use Rattle.drv_table.specs.Releases.{is_told, freed_by, after_transfer, after_endpoint}
use Rattle.drv_table.specs.Rows.{driver_row, after_driver_row}
use Rattle.law_structures.specs.lent_structures.Structures.{QueueHead, Element, StructureSets}
use Rattle.law_ring.specs.Fewer.{without_those}
use Rattle.law_ring.specs.Front.{LinksRise}
use Rattle.law_ring.specs.Halted.{HaltStops}
use Rattle.law_ring.specs.Order.{IsAmong}
use Rattle.law_ring.proofs.HaltSparing.{halt_is_spared}
use Rattle.law_ring.proofs.Returning.{those_found}
use Rattle.law_driver_ring.specs.Released.{goes_of, release_row}
use Rattle.law_controller.specs.controlled_streams.Returned.{staying, staying_of}
use Rattle.law_queues.proofs.lemmas.fed_lends.Asked.{set_which}
use Rattle.law_driver_ring.specs.fed_queues.Places.{IsThere}
use Rattle.law_queues.specs.mended_heads.Waiting.{MendsStand}
use Rattle.law_queues.proofs.lemmas.mended_heads.Rows.{gives_back, given_mends, given_owes_none}
use Rattle.law_world.specs.steps.endpoint_releases.Released.{without_queue, endpoint_row}
use Rattle.law_world.specs.steps.control_queues.Rows.{ReleaseKeepsControls, LeaverKeepsControls}
use Rattle.law_world.proofs.lemmas.steps.lemmas.control_queues.Alike.{ThereAlike, there_before, same_there, met_same, stand_by}
use Rattle.law_world.proofs.lemmas.steps.lemmas.control_queues.Lists.{IsPart, all_part, staying_part, part_among, part_sorted}

-- ---- structures that are gone

module _ (parts : StructureSets) (n : ℕ) (goes : ℕ → Bool) where
  abbrev now : StructureSets
  now = without_those parts n goes

  fewer_rise : (order : ℕ → ℕ) (m : ℕ) → LinksRise order (parts m) → LinksRise order (now m)
  fewer_rise order m r = record {
    next = λ a t b is to. r.next a t b (those_found parts n goes m a (Element t) is) to;
    alternate = λ a t b is to. r.alternate a t b (those_found parts n goes m a (Element t) is) to;
  }

  fewer_stop : (order : ℕ → ℕ) (out later : List ℕ) (m : ℕ) → ((a : ℕ) → IsAmong a later → IsAmong a out) → HaltStops order out m (parts m) → HaltStops order later m (now m)
  fewer_stop order out later m fewer s =
      halt_is_spared order out later m (parts m) (now m)
      (λ r is. record { queue = r; here = those_found parts n goes m m (QueueHead r) is; rest = record { token = refl; current = refl; next = refl; alternate = refl } })
      (λ a t among is. inl (fewer a among, those_found parts n goes m a (Element t) is)) s

-- a row that gives back comes behind all stores that are owed
none_owed : (p : DriverParts) (row : DriverRow) (now : StructureSets) (later : ℕ → List ℕ) → driver_row p ≡ row → gives_back row ≡ true → MendsStand (after_driver_row row p).driver now later
none_owed p row now later is gives = record {
  queues = [];
  are = record { mends = given_mends row p gives ∙ given_owes_none p (ap gives_back is ∙ gives); owed = tt; wait = tt; apart = tt };
}

-- ---- a transfer

transfer_alike : (p : DriverParts) (t : ℕ) (o : Option Transfer) (h : Holding) → ThereAlike p.driver (after_transfer p t o h).driver
transfer_alike p t None h = same_there p.driver p.driver refl (λ q is. is) refl refl
transfer_alike p t (Some x) h = same_there p.driver (after_transfer p t (Some x) h).driver refl (λ q is. is) refl refl

of_part : (n : ℕ) (goes : ℕ → Bool) (out : ℕ → List ℕ) (m : ℕ) → IsPart (staying_of n goes out m) (out m)
of_part n goes out m = by (m == n)
  where
    by : (b : Bool) → IsPart (if b then staying goes (out m) else out m) (out m)
    by true = staying_part goes (out m)
    by false = all_part (out m)

pub release_keeps_controls : ReleaseKeepsControls
release_keeps_controls p t y x parts order out row k c =
    let n = 32 * x.queue in
    let goes = goes_of p.driver y in
    let later = staying_of n goes out in
    stand_by p.driver (after_driver_row (release_row t) p).driver parts (without_those parts n goes) order order out later
    (transfer_alike p t (slice_get p.driver.transfers t) (freed_by p.driver (holding p.driver.book p.memory) (slice_get p.driver.transfers t)))
    (λ i z here there r. fewer_rise parts n goes (order (32 * z.queue)) (32 * z.queue) r)
    (λ i z here there s. part_sorted (order (32 * z.queue)) (later (32 * z.queue)) (out (32 * z.queue)) (of_part n goes out (32 * z.queue)) s)
    (λ i z here met s.
    fewer_stop parts n goes (order (32 * z.queue)) (out (32 * z.queue)) (later (32 * z.queue)) (32 * z.queue) (λ a among. part_among a (later (32 * z.queue)) (out (32 * z.queue)) (of_part n goes out (32 * z.queue)) among) s)
    (none_owed p (release_row t) (without_those parts n goes) later row refl) c

-- ---- an endpoint

leaver_alike : (p : DriverParts) (e : ℕ) (x : Endpoint) → slice_get p.driver.endpoints e ≡ Some x → ThereAlike p.driver (after_endpoint p e (Some x)).driver
leaver_alike p e x here i z at there =
    let d = p.driver in
    let f = (after_endpoint p e (Some x)).driver in
    let gone : Endpoint = record x { gone = true } in
    let ends : f.endpoints ≡ set d.endpoints e gone = ap (λ (xs : List Endpoint). set xs e gone) (told_same (λ (q : DriverContent). q.endpoints) _ d (is_told x) refl) in
    let command : f.command ≡ d.command = told_same (λ (q : DriverContent). q.command) _ d (is_told x) refl in
    let waiting : f.waiting ≡ d.waiting = told_same (λ (q : DriverContent). q.waiting) _ d (is_told x) refl in
    let rung : f.rung ≡ d.rung = told_same (λ (q : DriverContent). q.rung) _ d (is_told x) refl in
    ⊎_elim (λ (own : (i ≡ e) × (z ≡ gone)). absurd (false≢true (sym there.kept ∙ ap (λ (y : Endpoint). y.gone) own.1)))
    (λ (other : (i ≢ e) × (slice_get d.endpoints i ≡ Some z)).
    let t : IsThere d z = there_before d f z z (λ q is. command ∙ is) refl refl there in
    record { endpoint = z; here = other.1; there = t; queue = refl; met = λ m. record { there = t; near = met_same d f i z z refl waiting rung m.near } })
    (set_which d.endpoints e i x gone z here (ap (λ (xs : List Endpoint). slice_get xs i) (sym ends) ∙ at))

pub leaver_keeps_controls : LeaverKeepsControls
leaver_keeps_controls p e x parts order out row k c =
    let n = 32 * x.queue in
    let goes : ℕ → Bool = λ a. true in
    stand_by p.driver (after_driver_row (endpoint_row e) p).driver parts (without_queue parts n) order order out out
    (subst (λ (o : Option Endpoint). ThereAlike p.driver (after_endpoint p e o).driver) (sym k.here) (leaver_alike p e x k.here)) (λ i z here there r. fewer_rise parts n goes (order (32 * z.queue)) (32 * z.queue) r)
    (λ i z here there s. s) (λ i z here met s. fewer_stop parts n goes (order (32 * z.queue)) (out (32 * z.queue)) (out (32 * z.queue)) (32 * z.queue) (λ a among. among) s)
    (none_owed p (endpoint_row e) (without_queue parts n) out row refl) c
