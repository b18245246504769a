-- Each command leaves the requests of a driver silent: nothing is told of the SETUP and of the status of a new one.
use Rattle.std.proofs.Common.{◌≡◌, ℕ, suc, ◌-◌, ◌≤◌, ◌<◌, nat_eq, Bool, true, false, not, if◌then◌else◌, ◌||◌, List, [], ◌∷◌, length, take, drop, get_or, set, slice_get, Some, Result, Ok, Err, ap, sym, subst, ◌∙◌, refl, ⊎_elim, option_map, arith}
use Rattle.std.proofs.lemmas.List.{get_or-set_same, length-set}
use Rattle.law_common.proofs.Lists.{next_of, drop_first, push_which}
use Rattle.usb_base.specs.declared.commands.Cmd.{Cmd}
use Rattle.usb_base.specs.declared.commands.Cmd.TheVariants as commands
use Rattle.usb_base.specs.declared.packets.Way.{Way}
use Rattle.usb_base.specs.declared.packets.Way.TheVariants as ways
use Rattle.usb_base.specs.declared.reports.OfferError.{OfferError}
use Rattle.word_mem.specs.Memory.{Mem}
use Rattle.mem_runs.specs.Book.{holding, Stands, slot_of}
use Rattle.drv_table.specs.declared.content.QtdNote.{QtdNote}
use Rattle.drv_table.specs.declared.content.Sort.TheVariants as sorts
use Rattle.drv_table.specs.declared.content.Stage.{Stage}
use Rattle.drv_table.specs.declared.content.Transfer.{Transfer}
use Rattle.drv_table.specs.DriverContent.{DriverContent, no_note}
use Rattle.drv_table.specs.Harvests.{note_at}
use Rattle.drv_table.specs.Offers.{Asked, offered, runs_of, note_for, note_stages, new_transfer, accepted_transfer}
use Rattle.drv_table.specs.Accepting.{Offered, new_runs}
use Rattle.drv_table.specs.Words.{needs, asks_in, request_length, request_stages, setup_stage, data_stage, status_stage}
use Rattle.law_driver.specs.run_owners.Accepts.{Transfers}
use Rattle.claims_driver.specs.Leaving.{HasOwners}
use Rattle.claims_driver.specs.Owners.{Element, IsPlaced, note_in, runs_of_endpoint, runs_of_note, runs_of_transfer}
use Rattle.law_driver.proofs.lemmas.run_owners.Accepted.{within_slots}
use Rattle.law_driver.proofs.lemmas.run_owners.Chains.{notes_apart}
use Rattle.law_driver.proofs.lemmas.run_owners.Runs.{placed_run}
use Rattle.law_driver.proofs.lemmas.run_owners.Taking.{runs_taken}
use Rattle.law_driver.proofs.lemmas.run_owners.Transferred.{are_new, goes_on_alive}
use Rattle.bus_world.specs.World.{World, commanded_by, name_in}
use Rattle.law_driver.specs.AsynchronousScripts.{OpensAsynchronous}
use Rattle.law_driver.specs.chained_transfers.Asynchronous.{AcceptsAsynchronous}
use Rattle.law_driver.specs.chained_transfers.AsynchronousTurns.{AsynchronousTakesTurns}
use Rattle.law_driver.specs.chained_transfers.Bulk.{IsDataWay, sort_by}
use Rattle.law_driver.specs.chained_transfers.Chains.{piece_at}
use Rattle.law_driver.proofs.lemmas.chained_transfers.Accepting.{asynchronous_command_is_accepted}
use Rattle.law_driver.proofs.lemmas.chained_transfers.Chained.{pieces_same}
use Rattle.law_driver.proofs.lemmas.chained_transfers.Queued.{not_dummy}
use Rattle.law_queues.proofs.lemmas.fed_lends.Asked.{piece_placed}
use Rattle.law_queues.proofs.lemmas.harvest_laws.Stages.{AreBlocks}
use Rattle.law_reports.specs.requests.Reading.{IsSilent, AreSilent}
use Rattle.law_reports.specs.requests.Silent.{CommandKeepsSilent}
use Rattle.law_reports.proofs.lemmas.requests.Silent.{stays_silent, same_silent}

-- ---- the notes of new qTDs

later_blocks : (notes : List QtdNote) (s : Stage) (ss : List Stage) (b : ℕ) (qtds : List ℕ) (n : QtdNote) → AreBlocks notes (s ∷ ss) b qtds → AreBlocks (set notes b n) ss (get_or qtds 0 0) (drop 1 qtds)
later_blocks notes s ss b qtds n k = record {
  within = λ i below. let l = length-set notes b n in let w = k.within (suc i) (omega (arith, below)) in let e = next_of qtds i in omega (arith, l, w, e);
  distinct = λ i j less below same. k.distinct (suc i) (suc j) (omega (arith, less)) (omega (arith, below)) (sym (next_of qtds j) ∙ same ∙ next_of qtds i);
}

first_note : (notes : List QtdNote) (s : Stage) (ss : List Stage) (b : ℕ) (qtds runs : List ℕ) → AreBlocks notes (s ∷ ss) b qtds → note_at (note_stages notes (s ∷ ss) b qtds runs) b ≡ note_for s (get_or qtds 0 0) runs
first_note notes s ss b qtds runs k =
    let q = get_or qtds 0 0 in
    notes_apart (set notes b (note_for s q runs)) ss q (drop 1 qtds) (drop (runs_of s) runs) b (λ i below same. k.distinct 0 (suc i) (omega arith) (omega (arith, below)) (sym (next_of qtds i) ∙ same))
    ∙ get_or-set_same notes b (note_for s q runs) no_note (k.within 0 (omega arith))

-- nothing is told of the first of them, and of the last
abbrev last_told : Stage → List Stage → ℕ
last_told s [] = s.told
last_told s (r ∷ rs) = last_told r rs

last_note : (notes : List QtdNote) (s : Stage) (ss : List Stage) (b : ℕ) (qtds runs : List ℕ) → AreBlocks notes (s ∷ ss) b qtds
    → (note_at (note_stages notes (s ∷ ss) b qtds runs) (piece_at (note_in (note_stages notes (s ∷ ss) b qtds runs)) b (length ss))).told ≡ last_told s ss
last_note notes s [] b qtds runs k = ap (λ (n : QtdNote). n.told) (first_note notes s [] b qtds runs k)
last_note notes s (r ∷ rs) b qtds runs k =
    let q = get_or qtds 0 0 in
    let n = note_for s q runs in
    let rest = note_stages (set notes b n) (r ∷ rs) q (drop 1 qtds) (drop (runs_of s) runs) in
    let here : note_at rest b ≡ n = first_note notes s (r ∷ rs) b qtds runs k in
    ap (λ (z : QtdNote). (note_at rest (piece_at (note_in rest) z.next (length rs))).told) here
    ∙ last_note (set notes b n) r rs q (drop 1 qtds) (drop (runs_of s) runs) (later_blocks notes s (r ∷ rs) b qtds n k)

abbrev are_silent : List Stage → Type 0
are_silent [] = Unit {0}
are_silent (s ∷ ss) = (s.told ≡ 0) × (last_told s ss ≡ 0)

stages_silent : (notes : List QtdNote) (ss : List Stage) (b : ℕ) (qtds runs : List ℕ) → 1 ≤ length ss → AreBlocks notes ss b qtds → are_silent ss
    → ((note_at (note_stages notes ss b qtds runs) b).told ≡ 0) × ((note_at (note_stages notes ss b qtds runs) (piece_at (note_in (note_stages notes ss b qtds runs)) b (length ss - 1))).told ≡ 0)
stages_silent notes [] b qtds runs some k silent = absurd (omega (arith, some))
stages_silent notes (s ∷ ss) b qtds runs some k silent =
    let less : suc (length ss) - 1 ≡ length ss = omega arith in
    let now : List QtdNote = note_stages notes (s ∷ ss) b qtds runs in (
      ap (λ (n : QtdNote). n.told) (first_note notes s ss b qtds runs k) ∙ silent.0,
      ap (λ (i : ℕ). (note_at now (piece_at (note_in now) b i)).told) less ∙ last_note notes s ss b qtds runs k ∙ silent.1,
    )

request_silent : (setup : List ℕ) → are_silent (request_stages setup)
request_silent setup = by (nat_eq (request_length setup) 0)
  where
    by : (b : Bool) → are_silent (if b then setup_stage ∷ status_stage true ∷ [] else setup_stage ∷ data_stage (asks_in setup) (request_length setup) ∷ status_stage (not (asks_in setup)) ∷ [])
    by true = (refl, refl)
    by false = (refl, refl)

-- ---- one transfer more

transfer_silent : (d : DriverContent) (m : Mem) (o : Offered) (why : Transfers d m o) → Stands (holding d.book m) → HasOwners d → (why.asked.sort ≡ sorts.Request → are_silent why.asked.stages) → ((t : ℕ) (y : Transfer) → slice_get d.transfers t ≡ Some y → y.released ≡ false → 1 ≤ y.qtds)
    → AreSilent d → AreSilent o.driver
transfer_silent d m o why stands owners quiet some silent =
    let all = runs_taken (holding d.book m) why.holding_after (needs why.asked.stages) stands why.runs in
    let bs = all.blocks in
    let ss = why.asked.stages in
    let n = length ss in
    let x = why.endpoint in
    let e = why.number in
    let qtds = take n bs in
    let runs = drop n bs in
    let made : new_runs d why.holding_after ≡ bs = ap (drop (length d.book.taken)) all.are.taken ∙ drop_first d.book.taken bs in
    let alive = goes_on_alive x why.goes_on (owners.orderly.steady e x why.here) in
    let was = owners.owned.each.dummy e (runs_of_endpoint x) (ap (option_map runs_of_endpoint) why.here) (ap (λ q. q || x.gone) why.queued ∙ alive) in
    let are = are_new ss owners.owner x.dummy e (length d.transfers) why.some all.are was in
    let notes : List QtdNote = note_stages d.notes ss x.dummy qtds runs in
    let blocks : AreBlocks d.notes ss x.dummy qtds = record {
      within = λ i below. let p = are.elements i below in omega (arith, within_slots (get_or (x.dummy ∷ qtds) i 0) all.are (placed_run (get_or (x.dummy ∷ qtds) i 0) (Element (length d.transfers)) p), all.are.many, owners.owned.sizes);
      distinct = are.distinct;
    } in
    let same : (t c : ℕ) → IsPlaced (slot_of d.book.slots) owners.owner c (Element t) → note_at notes c ≡ note_at d.notes c =
    λ t c p. notes_apart d.notes ss x.dummy qtds runs c (are.apart c (placed_run c (Element t) p) (not_dummy x.dummy c e t was p)) in
    let old : (t : ℕ) (y : Transfer) → slice_get d.transfers t ≡ Some y → y.sort ≡ sorts.Request → y.released ≡ false → IsSilent notes y =
    λ t y there sort held.
    let pieces = owners.owned.each.pieces t (runs_of_transfer y) (ap (option_map runs_of_transfer) there) held in
    let one = some t y there held in
    let before = silent t y there sort held in
    let last : ℕ = y.qtds - 1 in
    let at : ℕ = piece_at (note_in d.notes) y.first last in
    let placed : (i : ℕ) → i < y.qtds → IsPlaced (slot_of d.book.slots) owners.owner (piece_at (note_in d.notes) y.first i) (Element t) = piece_placed (slot_of d.book.slots) owners.owner (note_in d.notes) t y.first y.qtds pieces in
    let moved : piece_at (note_in notes) y.first last ≡ at =
    pieces_same (slot_of d.book.slots) owners.owner (note_in d.notes) (note_in notes) t y.first y.qtds pieces (λ c p. ap runs_of_note (same t c p)) last (omega arith) in
    record {
      setup = ap (λ (z : QtdNote). z.told) (same t y.first (placed 0 one)) ∙ before.setup;
      status = ap (λ (b : ℕ). (note_at notes b).told) moved ∙ ap (λ (z : QtdNote). z.told) (same t at (placed last (omega (arith, one)))) ∙ before.status;
    } in
    let new : Transfer = new_transfer e why.asked x.dummy in
    let fresh : new.sort ≡ sorts.Request → IsSilent notes new =
    λ sort. let z = stages_silent d.notes ss x.dummy qtds runs why.some blocks (quiet sort) in record { setup = z.0; status = z.1 } in
    let now : AreSilent (accepted_transfer d e x why.asked why.holding_after (get_or qtds (n - 1) 0) notes).driver =
    λ t y there sort held.
    ⊎_elim (λ (was : slice_get d.transfers t ≡ Some y). old t y was sort held)
    (λ (one : (t ≡ length d.transfers) × (y ≡ new)). subst (IsSilent notes) (sym one.1) (fresh (ap (λ (z : Transfer). z.sort) (sym one.1) ∙ sort)))
    (push_which d.transfers new t y there) in
    subst (λ (g : Offered). AreSilent g.driver) (sym why.is)
    (subst (λ (rs : List ℕ). AreSilent (accepted_transfer d e x why.asked why.holding_after (get_or (take n rs) (n - 1) 0) (note_stages d.notes ss x.dummy (take n rs) (drop n rs))).driver) (sym made) now)

-- ---- a command

no_request : (way : Way) → IsDataWay way → sort_by way ≡ sorts.Request → ⊥
no_request ways.Ctl moves is = absurd moves
no_request _ moves is = absurd (cc)

pub accepted_silent : (d : DriverContent) (m : Mem) (o : Offered) (cmd : Cmd) → AcceptsAsynchronous d m o cmd → Stands (holding d.book m) → HasOwners d → ((t : ℕ) (y : Transfer) → slice_get d.transfers t ≡ Some y → y.released ≡ false → 1 ≤ y.qtds) → AreSilent d → AreSilent o.driver
accepted_silent d m o (commands.OpenEp x) k stands owners some silent =
    stays_silent d o.driver (same_silent d o.driver (ap (λ (g : Offered). g.driver.transfers) k.opens.is) (ap (λ (g : Offered). g.driver.notes) k.opens.is)) silent
accepted_silent d m o (commands.Get name len by) k stands owners some silent =
    transfer_silent d m o k.transfers stands owners (λ sort. absurd (no_request k.transfers.endpoint.desc.name.way k.way (ap (λ (a : Asked). a.sort) (sym k.asked) ∙ sort))) some silent
accepted_silent d m o (commands.Put name bytes by) k stands owners some silent =
    transfer_silent d m o k.transfers stands owners (λ sort. absurd (no_request k.transfers.endpoint.desc.name.way k.way (ap (λ (a : Asked). a.sort) (sym k.asked) ∙ sort))) some silent
accepted_silent d m o (commands.Control name setup bytes) k stands owners some silent =
    transfer_silent d m o k.transfers stands owners (λ sort. subst are_silent (sym (ap (λ (a : Asked). a.stages) k.asked)) (request_silent k.setup)) some silent
accepted_silent d m o (commands.Cancel name) k stands owners some silent =
    stays_silent d o.driver (same_silent d o.driver (ap (λ (g : Offered). g.driver.transfers) k.is) (ap (λ (g : Offered). g.driver.notes) k.is)) silent
accepted_silent d m o _ k stands owners some silent = absurd k

command_by : (w : World) (line : ℕ) (cmd : Cmd) (r : Result Offered OfferError) → offered w.driver w.memory cmd ≡ r → OpensAsynchronous cmd → AsynchronousTakesTurns w.driver → HasOwners w.driver → Stands (holding w.driver.book w.memory) → AreSilent w.driver
    → AreSilent (commanded_by w line (name_in cmd) r).driver
command_by w line cmd (Ok o) is only turns owners stands silent =
    accepted_silent w.driver w.memory o cmd (asynchronous_command_is_accepted w.driver w.memory cmd o turns.asynchronous only is) stands
    owners
    (λ t y there held. turns.chained.some t (runs_of_transfer y) (ap (option_map runs_of_transfer) there) held) silent
command_by w line cmd (Err why) is only turns owners stands silent = stays_silent w.driver (commanded_by w line (name_in cmd) (Err why)).driver (same_silent w.driver _ refl refl) silent

pub command_keeps_silent : CommandKeepsSilent
command_keeps_silent w line cmd only turns owners stands silent = command_by w line cmd (offered w.driver w.memory cmd) refl only turns owners stands silent
