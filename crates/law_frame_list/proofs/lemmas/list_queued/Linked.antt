-- After each store that links one of a command's descriptors, the others still lead on.
use Rattle.std.proofs.Common.{◌≡◌, ◌≢◌, ℕ, suc, ◌*◌, ◌/◌, ◌≤◌, Bool, true, false, if◌then◌else◌, List, [], ◌∷◌, Option, Some, None, ap, refl, sym, subst, ◌∙◌, arith}
use Rattle.std.specs.Prelude.{is_none, is_some}
use Rattle.std.specs.List.{AllByRecursion}
use Rattle.std.proofs.lemmas.Bool.{false≢true}
use Rattle.law_common.proofs.Numbers.{not_below}
use Rattle.law_frame_list.proofs.Common.{row_is}
use Rattle.word_mem.specs.Memory.{Mem, word_at}
use Rattle.mem_runs.specs.Book.{holding, slot_of, store}
use Rattle.drv_chains.specs.declared.members.Member.{Member}
use Rattle.drv_chains.specs.Chains.{id_of, chain, first_of}
use Rattle.drv_members.specs.Members.{Members, frame_of}
use Rattle.drv_periodic.specs.declared.work.Store.{Store}
use Rattle.drv_periodic.specs.Periodic.{link_to, next_store, after_store}
use Rattle.drv_periodic_table.specs.Linking.{begun_next}
use Rattle.drv_table.specs.declared.content.Command.{Command}
use Rattle.drv_table.specs.declared.content.Command.TheVariants as unfinished
use Rattle.drv_table.specs.declared.rows.DriverRow.{DriverRow}
use Rattle.drv_table.specs.DriverContent.{DriverContent}
use Rattle.drv_table.specs.Parts.{Parts}
use Rattle.drv_table.specs.Rows.{driver_row, after_driver_row}
use Rattle.drv_table.specs.Commands.{link_row, advance, advanced_by, linked_on, or_finished, no_command}
use Rattle.claims_driver.specs.Owners.{Described, SlotHas}
use Rattle.law_driver.proofs.lemmas.run_owners.Runs.{placed_run}
use Rattle.law_driver.specs.in_place.InPlace.{IsSound}
use Rattle.law_driver.proofs.lemmas.ring_members.Stores.{slots_apart, store_elsewhere}
use Rattle.law_driver.proofs.lemmas.ring_members.Placed.{has_first}
use Rattle.law_driver.specs.listed_members.Members.{is_in_names, IsWaitingOf, IsDescribing}
use Rattle.law_driver.proofs.lemmas.listed_members.Stores.{linked_store}
use Rattle.claims_driver.specs.DueMembers.{HasOneEach}
use Rattle.claims_driver.specs.FrameWords.{ListStands}
use Rattle.law_frame_list.specs.list_driver.Keeping.{LeadsOn, AreLeading}
use Rattle.law_frame_list.specs.list_steps.Steps.{IsLinkingStep, NextLeads}
use Rattle.law_frame_list.proofs.lemmas.list_steps.Stepping.{a_step_keeps_the_list_standing}
use Rattle.law_frame_list.proofs.lemmas.list_rows.Storing.{GoesInto, the_list, a_member, store_into}
use Rattle.law_frame_list.proofs.lemmas.list_queued.Leading.{AreOnces, leads_by, next_leads}
use Rattle.law_frame_list.proofs.lemmas.list_queued.Apart.{waiting_owned, member_apart, list_apart, way_of, frames_apart, are_onces, named_itself}

-- ---- the store goes elsewhere

into_apart : (d : DriverContent) (e first count : ℕ) (x : Member) (m : Mem) (b : ℕ) → d.command ≡ Some (unfinished.Iso e first count) → IsSound m d → IsWaitingOf d e first x → is_in_names (id_of x) d.periodic.queued ≡ true → GoesInto d.periodic.list.members.schedule b → id_of x / 32 ≢ b
into_apart d e first count x m b is sound w named (the_list at) same = list_apart d e first x sound.owners w (sym (same ∙ at))
into_apart d e first count x m b is sound w named (a_member y on at) same = member_apart d e first count x is sound.owners sound.listed w named y on (sym (same ∙ at))

-- the link of one that waits stands in its run
pub own_has : (d : DriverContent) (m : Mem) (e first : ℕ) (x : Member) → IsSound m d → IsWaitingOf d e first x → SlotHas (slot_of d.book.slots (id_of x / 32)) (id_of x / 32 * 32 / 32)
own_has d m e first x sound w =
    let p = waiting_owned d e first x sound.owners w in
    let at : id_of x / 32 ≡ id_of x / 32 * 32 / 32 = omega arith in
    subst (λ i. SlotHas (slot_of d.book.slots (id_of x / 32)) i) at (has_first (holding d.book m) (id_of x / 32) sound.stands (placed_run (id_of x / 32) (Described _ w.number) p))

-- the members stay, and so do the words
stored_leads : (d : DriverContent) (e first count : ℕ) (m : Mem) (s : Store) (xs : List Member) → d.command ≡ Some (unfinished.Iso e first count) → IsSound m d → (after_store d.periodic.list).members ≡ d.periodic.list.members → GoesInto d.periodic.list.members.schedule s.block
    → AllByRecursion (IsWaitingOf d e first) xs → AllByRecursion (λ x. is_in_names (id_of x) d.periodic.queued ≡ true) xs → AllByRecursion (LeadsOn (word_at m) d.periodic.list) xs → AllByRecursion (LeadsOn (word_at (store d.book m s.block s.at s.value)) (after_store d.periodic.list)) xs
stored_leads d e first count m s [] is sound same into all named on = tt
stored_leads d e first count m s (x ∷ xs) is sound same into all named on = (
  store_elsewhere d.book m s.block (id_of x / 32) s.at s.value (id_of x / 32 * 32) (slots_apart (holding d.book m) sound.stands) (into_apart d e first count x m s.block is sound all.0 named.0 into) (own_has d m e first x sound all.0)
      ∙ on.0 ∙ ap (λ (ms : Members). link_to (first_of (chain ms.schedule (frame_of x)))) (sym same),
  stored_leads d e first count m s xs is sound same into all.1 named.1 on.1,
)

new_leads : (p : Parts) (e first count : ℕ) (s : Store) → IsLinkingStep p (unfinished.Iso e first count) → IsSound p.memory p.driver → AreLeading p.memory p.driver → ListStands p.memory p.driver → next_store p.driver.periodic.list ≡ Some s
    → AllByRecursion (LeadsOn (word_at (store p.driver.book p.memory s.block s.at s.value)) (after_store p.driver.periodic.list)) p.driver.periodic.queued
new_leads p e first count s step sound leading old next =
    let d : DriverContent = p.driver in
    let way : IsDescribing d e first count = way_of d e first count step.unfinished sound.listed in
    stored_leads d e first count p.memory s d.periodic.queued step.unfinished sound (linked_store d.periodic.list way.links).members (store_into d p.memory s sound.stands sound.shape sound.owners sound.listed old.order.kept next)
    way.members (named_itself d.periodic.queued) (leading e first count step.unfinished step.late)

-- ---- the list stands

next_of : (p : Parts) (e first count : ℕ) → IsLinkingStep p (unfinished.Iso e first count) → IsSound p.memory p.driver → AreLeading p.memory p.driver → ListStands p.memory p.driver → NextLeads p
next_of p e first count step sound leading old s x xs next queued may =
    let d : DriverContent = p.driver in
    let way : IsDescribing d e first count = way_of d e first count step.unfinished sound.listed in
    let onces = subst (λ (ms : List Member). AreOnces ms) queued (are_onces d e first d.periodic.queued way.members) in
    let on = subst (λ (ms : List Member). AllByRecursion (LeadsOn (word_at (store d.book p.memory s.block s.at s.value)) (after_store d.periodic.list)) ms) queued (new_leads p e first count s step sound leading old next) in
    leads_by (word_at (store d.book p.memory s.block s.at s.value)) (after_store d.periodic.list) x onces.0 on.0 may

pub link_stands : (p : Parts) (e first count : ℕ) → IsLinkingStep p (unfinished.Iso e first count) → IsSound p.memory p.driver → HasOneEach p.driver → AreLeading p.memory p.driver → ListStands p.memory p.driver
    → ListStands (after_driver_row (driver_row p) p).memory (after_driver_row (driver_row p) p).driver
link_stands p e first count step sound one leading old =
    a_step_keeps_the_list_standing p (unfinished.Iso e first count) step sound.stands sound.shape sound.owners sound.listed old (λ adds. next_of p e first count step sound leading old)

-- ---- the others lead on

pub leads_if : (m : Mem) (g : DriverContent) (e first count : ℕ) → AllByRecursion (LeadsOn (word_at m) g.periodic.list) g.periodic.queued → AreLeading m (or_finished g (unfinished.Iso e first count))
leads_if m g e first count all = by (is_none g.periodic.list.work)
  where
    by : (b : Bool) → AreLeading m (if b then no_command g else g)
    by true = λ f t n is made. absurd (false≢true (ap is_some is))
    by false = λ f t n is made. all

-- a store of the list, or the end of the command
pub goes_on : (d : DriverContent) (e first count : ℕ) → d.command ≡ Some (unfinished.Iso e first count) → 2 ≤ d.made
    → advance d ≡ or_finished (record d { made = 2; periodic = begun_next false (record d.periodic { list = after_store d.periodic.list }) }) (unfinished.Iso e first count)
goes_on d e first count is late =
    ap (λ (o : Option Command). advanced_by d o) is
    ∙ ap (λ (b : Bool). if b then record d { made = suc d.made } else linked_on d (unfinished.Iso e first count)) (not_below (suc d.made) 2 (omega (arith, late)))
    ∙ ap (λ (b : Bool). or_finished (record d { made = 2; periodic = begun_next false (record d.periodic { list = if b then d.periodic.list else after_store d.periodic.list }) }) (unfinished.Iso e first count)) (not_below d.made 2 late)

by_store : (p : Parts) (e first count : ℕ) (o : Option Store) → next_store p.driver.periodic.list ≡ o → IsLinkingStep p (unfinished.Iso e first count) → IsSound p.memory p.driver → HasOneEach p.driver → AreLeading p.memory p.driver → ListStands p.memory p.driver
    → AreLeading (after_driver_row (link_row o) p).memory (after_driver_row (link_row o) p).driver
by_store p e first count None next step sound one leading old = leading
by_store p e first count (Some s) next step sound one leading old =
    let d : DriverContent = p.driver in
    let way : IsDescribing d e first count = way_of d e first count step.unfinished sound.listed in
    let new : Mem = store d.book p.memory s.block s.at s.value in
    let made : 1 ≤ d.made = omega (arith, step.late) in
    subst (AreLeading new) (sym (goes_on d e first count step.unfinished step.late))
    (leads_if new (record d { made = 2; periodic = begun_next false (record d.periodic { list = after_store d.periodic.list }) }) e first count
    (next_leads (word_at new) (record d.periodic { list = after_store d.periodic.list }) (frames_apart d e first count d.periodic.queued step.unfinished made one way.members way.once) (are_onces d e first d.periodic.queued way.members)
    (new_leads p e first count s step sound leading old next)))

pub link_leads : (p : Parts) (e first count : ℕ) → IsLinkingStep p (unfinished.Iso e first count) → IsSound p.memory p.driver → HasOneEach p.driver → AreLeading p.memory p.driver → ListStands p.memory p.driver
    → AreLeading (after_driver_row (driver_row p) p).memory (after_driver_row (driver_row p) p).driver
link_leads p e first count step sound one leading old =
    subst (λ (r : DriverRow). AreLeading (after_driver_row r p).memory (after_driver_row r p).driver) (sym (row_is p e first count step.unfinished step.late))
    (by_store p e first count (next_store p.driver.periodic.list) refl step sound one leading old)
