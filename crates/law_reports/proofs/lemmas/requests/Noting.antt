-- What is noted of the qTDs of older transfers stays where a further one is accepted, and of its own nothing is noted as moved.
use Rattle.std.proofs.Common.{◌≡◌, ℕ, suc, ◌-◌, ◌≤◌, ◌||◌, false, Bool, List, [], ◌∷◌, length, take, drop, get_or, nat_eq, slice_get, Some, None, option_map, ap, refl, sym, subst, ◌∙◌, arith, length-append}
use Rattle.std.specs.List.{AllByRecursion}
use Rattle.law_driver.proofs.Common.{last_pushed}
use Rattle.law_queues.proofs.Common.{last_is, one_placed}
use Rattle.law_common.proofs.Lists.{drop_first, set_here}
use Rattle.word_mem.specs.Memory.{Mem, IsShaped}
use Rattle.mem_runs.specs.Book.{Holding, holding, Stands, slot_of}
use Rattle.drv_table.specs.declared.content.Command.TheVariants as unfinished
use Rattle.drv_table.specs.declared.content.Endpoint.{Endpoint}
use Rattle.drv_table.specs.declared.content.QtdNote.{QtdNote}
use Rattle.drv_table.specs.declared.content.Stage.{Stage}
use Rattle.drv_table.specs.declared.content.Transfer.{Transfer}
use Rattle.drv_table.specs.DriverContent.{DriverContent}
use Rattle.drv_table.specs.Harvests.{note_at}
use Rattle.drv_table.specs.Accepting.{Offered, new_runs}
use Rattle.drv_table.specs.Offers.{Asked, note_stages, first_of, stage_words, new_transfer, with_queued, accepted_transfer}
use Rattle.drv_table.specs.Words.{needs}
use Rattle.law_driver.specs.run_owners.Accepts.{Transfers}
use Rattle.claims_driver.specs.Leaving.{HasOwners}
use Rattle.claims_driver.specs.Owners.{Element, runs_of_endpoint, runs_of_transfer}
use Rattle.law_driver.proofs.lemmas.run_owners.Accepted.{within_slots}
use Rattle.law_driver.proofs.lemmas.run_owners.Chains.{notes_apart}
use Rattle.law_driver.proofs.lemmas.run_owners.Runs.{placed_run}
use Rattle.law_driver.proofs.lemmas.run_owners.Taking.{runs_taken}
use Rattle.law_driver.proofs.lemmas.run_owners.Transferred.{are_new, goes_on_alive}
use Rattle.claims_driver.specs.LentRuns.{AreLent}
use Rattle.law_driver.specs.chained_transfers.Asynchronous.{IsRequested}
use Rattle.law_driver.specs.chained_transfers.Bulk.{sort_by}
use Rattle.law_driver.proofs.lemmas.chained_transfers.Queued.{not_dummy}
use Rattle.law_driver_ring.specs.told_harvests.Held.{AreUnmoved, IsOneFrom}
use Rattle.law_queues.proofs.lemmas.harvest_laws.Stages.{AreBlocks, stages_unmoved}
use Rattle.law_driver_ring.specs.Written.{AwaitsLend}
use Rattle.law_driver_ring.proofs.TransferAccepting.{accepted_awaits_lend}
use Rattle.law_queues.specs.fed_lends.ToLend.{AreStagesBy, IsToBeLent}
use Rattle.law_queues.proofs.lemmas.fed_lends.Fed.{one_command}
use Rattle.law_queues.proofs.lemmas.fed_lends.Stages.{requested_by, stages_pids}

pub record NotesStay (d : DriverContent) (dummy count : ℕ) (notes : List QtdNote) : Type 0 where
  pub same : (t : ℕ) (y : Transfer) (c : ℕ) → slice_get d.transfers t ≡ Some y → y.released ≡ false → IsOneFrom (note_at d.notes) y.first y.qtds c → note_at notes c ≡ note_at d.notes c
  pub unmoved : AreUnmoved (note_at notes) dummy count

pub notes_stay : (d : DriverContent) (m : Mem) (o : Offered) (why : Transfers d m o) → Stands (holding d.book m) → HasOwners d → NotesStay d why.endpoint.dummy (length why.asked.stages) o.driver.notes
notes_stay d m o why stands owners =
    let all = runs_taken (holding d.book m) why.holding_after (needs why.asked.stages) stands why.runs in
    let bs = all.blocks in
    let ss = why.asked.stages in
    let n = length ss in
    let x = why.endpoint in
    let e = why.number in
    let qtds = take n bs in
    let runs = drop n bs in
    let made : new_runs d why.holding_after ≡ bs = ap (drop (length d.book.taken)) all.are.taken ∙ drop_first d.book.taken bs in
    let alive = goes_on_alive x why.goes_on (owners.orderly.steady e x why.here) in
    let was = owners.owned.each.dummy e (runs_of_endpoint x) (ap (option_map runs_of_endpoint) why.here) (ap (λ q. q || x.gone) why.queued ∙ alive) in
    let are = are_new ss owners.owner x.dummy e (length d.transfers) why.some all.are was in
    let notes : List QtdNote = note_stages d.notes ss x.dummy qtds runs in
    let blocks : AreBlocks d.notes ss x.dummy qtds = record {
      within = λ i below. let p = are.elements i below in omega (arith, within_slots (get_or (x.dummy ∷ qtds) i 0) all.are (placed_run (get_or (x.dummy ∷ qtds) i 0) (Element (length d.transfers)) p), all.are.many, owners.owned.sizes);
      distinct = are.distinct;
    } in
    let now : NotesStay d x.dummy n notes = record {
      same = λ t y c at kept one.
          let p = one_placed (slot_of d.book.slots) owners.owner d.notes t y.first y.qtds c (owners.owned.each.pieces t (runs_of_transfer y) (ap (option_map runs_of_transfer) at) kept) one in
          notes_apart d.notes ss x.dummy qtds runs c (are.apart c (placed_run c (Element t) p) (not_dummy x.dummy c e t was p));
      unmoved = stages_unmoved d.notes ss x.dummy qtds runs blocks;
    } in
    subst (λ (g : Offered). NotesStay d x.dummy n g.driver.notes) (sym why.is)
    (subst (λ (rs : List ℕ). NotesStay d x.dummy n (note_stages d.notes ss x.dummy (take n rs) (drop n rs))) (sym made) now)

-- ---- a request that is accepted is to be lent, with these stages

pub record LendsBy (f : Offered) (rs : List Stage) (b : ℕ) (words : List ℕ) : Type 0 where
  pub lends : IsToBeLent f.driver f.memory b words
  pub stages : lends.stage ∷ lends.further ≡ rs

abbrev pub WillBeLent : Offered → List Stage → Type 0
WillBeLent f rs = (b : ℕ) (words : List ℕ) → f.driver.command ≡ Some (unfinished.Publish b words) → LendsBy f rs b words

asked_with : (d : DriverContent) (number : ℕ) (x : Endpoint) (a : Asked) (g : Holding) (dummy : ℕ) (notes : List QtdNote) (s : Stage) (ss : List Stage) → a.stages ≡ s ∷ ss → AreStagesBy x.desc.name.way (s ∷ ss) → a.sort ≡ sort_by x.desc.name.way
    → slice_get d.endpoints number ≡ Some x → x.ended ≡ None
    → AwaitsLend (accepted_transfer d number x a g dummy notes).driver (accepted_transfer d number x a g dummy notes).memory (length d.transfers) (runs_of_transfer (new_transfer number a x.dummy)) (runs_of_endpoint (with_queued x dummy (length d.transfers))) s ss
    → WillBeLent (accepted_transfer d number x a g dummy notes) (s ∷ ss)
asked_with d number x a g dummy notes s ss stages all sort here going awaits b words command =
    let both = one_command x.dummy b (stage_words notes (first_of a.stages) x.dummy dummy (nat_eq (length a.stages) 1)) words command in
    record {
      lends = record {
        number = length d.transfers;
        transfer = new_transfer number a x.dummy;
        endpoint = with_queued x dummy (length d.transfers);
        stage = s;
        further = ss;
        command = command;
        made = refl;
        newest = let e = length-append d.transfers (new_transfer number a x.dummy ∷ []) in omega (arith, e);
        there = last_pushed d.transfers (new_transfer number a x.dummy);
        here = set_here d.endpoints number x (with_queued x dummy (length d.transfers)) here;
        going = going;
        first = both.0;
        place = refl;
        left = refl;
        fresh = refl;
        awaits = awaits;
        stages = all;
        sort = sort;
        are = sym both.1
            ∙ ap (λ (rs : List Stage). stage_words notes (first_of rs) x.dummy dummy (nat_eq (length rs) 1)) stages
            ∙ ap (λ (t : Bool). stage_words notes s x.dummy dummy t) (last_is ss);
      };
      stages = refl;
    }

asked_stages : (d : DriverContent) (m : Mem) (o : Offered) (why : Transfers d m o) (rs : List Stage) → why.asked.stages ≡ rs → AreStagesBy why.endpoint.desc.name.way rs → why.asked.sort ≡ sort_by why.endpoint.desc.name.way → 1 ≤ length rs → HasOwners d → AreLent d
    → Stands (holding d.book m) → IsShaped m → WillBeLent o rs
asked_stages d m o why [] stages all sort some has lent stands shape = absurd (omega (arith, some))
asked_stages d m o why (s ∷ ss) stages all sort some has lent stands shape =
    let g = why.holding_after in
    let x = why.endpoint in
    let n = suc (length ss) in
    let rs = new_runs d g in
    let dummy = get_or (take n rs) (length ss) 0 in
    let notes = note_stages d.notes (s ∷ ss) x.dummy (take n rs) (drop n rs) in
    let is : o ≡ accepted_transfer d why.number x why.asked g dummy notes =
    why.is
    ∙ ap (λ (ps : List Stage). accepted_transfer d why.number x why.asked g (get_or (take (length ps) rs) (length ps - 1) 0) (note_stages d.notes ps x.dummy (take (length ps) rs) (drop (length ps) rs))) stages
    ∙ ap (λ (i : ℕ). accepted_transfer d why.number x why.asked g (get_or (take n rs) i 0) notes) (let e : suc (length ss) - 1 ≡ length ss = omega arith in e) in
    let way = x.desc.name.way in
    let pids = subst (AllByRecursion (λ r. r.pid ≤ 2)) (sym stages) (stages_pids way (s ∷ ss) all) in
    let y = runs_of_transfer (new_transfer why.number why.asked x.dummy) in
    let z = runs_of_endpoint (with_queued x dummy (length d.transfers)) in
    let awaits = accepted_awaits_lend d m o why s ss stages pids has lent stands shape in
    subst (λ (f : Offered). WillBeLent f (s ∷ ss)) (sym is)
    (asked_with d why.number x why.asked g dummy notes s ss stages all sort why.here why.goes_on (subst (λ (f : Offered). AwaitsLend f.driver f.memory (length d.transfers) y z s ss) is awaits))

pub request_lends : (d : DriverContent) (m : Mem) (o : Offered) (k : IsRequested d m o) → HasOwners d → AreLent d → Stands (holding d.book m) → IsShaped m → WillBeLent o k.transfers.asked.stages
request_lends d m o k has lent stands shape =
    let why = k.transfers in
    asked_stages d m o why why.asked.stages refl (requested_by d m o k) (ap (λ (a : Asked). a.sort) k.asked ∙ ap sort_by (sym k.way)) why.some has lent stands shape
