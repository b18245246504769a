-- A store that a stalled endpoint is owed goes to words 4 to 6 of a queue head, and no link word stands there.
use Rattle.std.proofs.Common.{◌≡◌, ◌≢◌, ℕ, ◌+◌, ◌*◌, ◌/◌, ◌≤◌, Bool, true, false, cond, List, [], ◌∷◌, slice_get, None, Some, ap, refl, sym, subst, ◌∙◌, ⊎_elim, arith}
use Rattle.std.specs.Prelude.{◌⊎◌}
use Rattle.std.specs.List.{AllByRecursion}
use Rattle.std.proofs.lemmas.List.{get_or-set_other}
use Rattle.word_mem.specs.Memory.{Mem, word_at, with_word}
use Rattle.mem_runs.specs.Book.{Book, holding, slot_of, can_store, store, Stands}
use Rattle.drv_chains.specs.declared.members.Predecessor.TheVariants.{Element as Frame, After}
use Rattle.drv_chains.specs.Chains.{id_of}
use Rattle.drv_periodic.specs.Periodic.{address_of}
use Rattle.drv_table.specs.declared.content.Mend.{Mend}
use Rattle.drv_table.specs.declared.rows.DriverRow.{DriverRow}
use Rattle.drv_table.specs.declared.rows.DriverRow.TheVariants as rows
use Rattle.drv_table.specs.DriverContent.{DriverContent}
use Rattle.drv_table.specs.Parts.{Parts}
use Rattle.drv_table.specs.Rows.{driver_row, after_driver_row}
use Rattle.law_driver.specs.run_owners.Due.{IsDue}
use Rattle.claims_driver.specs.Leaving.{HasOwners}
use Rattle.law_driver.proofs.lemmas.run_owners.Reasons.{each_event_is_due}
use Rattle.law_driver.specs.listed_members.Members.{IsListed}
use Rattle.law_driver.specs.ring_members.Words.{IsMending}
use Rattle.law_driver.specs.in_place.InPlace.{IsSound}
use Rattle.law_driver.proofs.lemmas.ring_members.Stores.{slots_apart, store_elsewhere}
use Rattle.law_driver.proofs.lemmas.ring_members.Events.{first_mend}
use Rattle.law_frame_words.specs.list_words.Spared.{LeavesList}
use Rattle.claims_driver.specs.FrameWords.{ListStands}
use Rattle.law_frame_list.specs.list_driver.Keeping.{MendsAside}
use Rattle.law_frame_list.proofs.lemmas.list_stands.Listing.{it_stands_where_its_words_are_left}
use Rattle.law_frame_list.proofs.lemmas.list_spread.Spreading.{slot_has}

-- the link of a structure is its word 0
link_left : (k : Book) (m : Mem) (w : Mend) (b : ℕ) → IsMending w → word_at (store k m w.queue w.at w.value) (b * 32) ≡ word_at m (b * 32)
link_left k m w b mending = by (can_store (slot_of k.slots w.queue) w.at)
  where
    apart : b * 32 / 4 ≢ w.at / 4
    apart same =
        ⊎_elim (λ (one : w.at ≡ 32 * w.queue + 16). omega (arith, one, same))
        (λ (rest : (w.at ≡ 32 * w.queue + 20) ⊎ (w.at ≡ 32 * w.queue + 24)).
        ⊎_elim (λ (one : w.at ≡ 32 * w.queue + 20). omega (arith, one, same)) (λ (one : w.at ≡ 32 * w.queue + 24). omega (arith, one, same)) rest) mending

    by : (can : Bool) → word_at (cond can (with_word m w.at w.value) m) (b * 32) ≡ word_at m (b * 32)
    by true = get_or-set_other m.words (w.at / 4) (b * 32 / 4) w.value 0 apart
    by false = refl

mend_leaves : (d : DriverContent) (m : Mem) (w : Mend) → Stands (holding d.book m) → HasOwners d → IsListed d → IsMending w → 1 ≤ w.queue → LeavesList d.periodic.list (word_at m) (word_at (store d.book m w.queue w.at w.value))
mend_leaves d m w stands has listed mending some (Frame f) its =
    let a : address_of d.periodic.list.list (Frame f) ≡ 32 * 0 + 4 * f = ap (λ (l : ℕ). address_of l (Frame f)) listed.list.list in
    ap (word_at (store d.book m w.queue w.at w.value)) a
    ∙ store_elsewhere d.book m w.queue 0 w.at w.value (32 * 0 + 4 * f) (slots_apart (holding d.book m) stands) (λ (same : 0 ≡ w.queue). omega (arith, some, same)) (slot_has (slot_of d.book.slots 0) 0 128 ((32 * 0 + 4 * f) / 32) (stands.placed 0) has.owned.each.list.run (omega arith) (omega (arith, its)))
    ∙ sym (ap (word_at m) a)
mend_leaves d m w stands has listed mending some (After x) its = link_left d.book m w (id_of x / 32) mending

-- the first of them
first_aside : (ws : List Mend) (w : Mend) → slice_get ws 0 ≡ Some w → AllByRecursion (λ (x : Mend). 1 ≤ x.queue) ws → 1 ≤ w.queue
first_aside [] w here all = absurd (cc)
first_aside (x ∷ ws) w here all = let same : x ≡ w = cc in subst (λ (y : Mend). 1 ≤ y.queue) same all.0

abbrev Stays : DriverRow → Parts → Type 0
Stays row p = ListStands (after_driver_row row p).memory (after_driver_row row p).driver

pub mends_keep_it_standing : (p : Parts) (w : Mend) → driver_row p ≡ rows.Mend w → IsSound p.memory p.driver → MendsAside p.driver → ListStands p.memory p.driver → Stays (driver_row p) p
mends_keep_it_standing p w is sound aside old =
    let due : (p.driver.command ≡ None) × (slice_get p.driver.mends 0 ≡ Some w) = subst (IsDue p) is (each_event_is_due p) in
    let now : ListStands (store p.driver.book p.memory w.queue w.at w.value) p.driver =
    it_stands_where_its_words_are_left p.driver p.memory (store p.driver.book p.memory w.queue w.at w.value)
    (mend_leaves p.driver p.memory w sound.stands sound.owners sound.listed (first_mend p.driver.mends w due.1 sound.ring.mends) (first_aside p.driver.mends w due.1 aside)) old in
    subst (λ (r : DriverRow). Stays r p) (sym is) (record { order = now.order; words = now.words })
