-- A get, put or request that was accepted is to be lent.
use Rattle.std.proofs.Common.{◌≡◌, ℕ, suc, ◌-◌, ◌≤◌, Bool, nat_eq, List, [], ◌∷◌, length, take, drop, get_or, slice_get, Some, ap, refl, sym, subst, ◌∙◌, arith, length-append, None}
use Rattle.std.specs.List.{AllByRecursion}
use Rattle.law_driver.proofs.Common.{last_pushed}
use Rattle.law_queues.proofs.Common.{last_is}
use Rattle.law_common.proofs.Lists.{set_here}
use Rattle.word_mem.specs.Memory.{Mem, IsShaped}
use Rattle.mem_runs.specs.Book.{Holding, holding, Stands}
use Rattle.drv_table.specs.declared.content.Endpoint.{Endpoint}
use Rattle.drv_table.specs.declared.content.QtdNote.{QtdNote}
use Rattle.drv_table.specs.declared.content.Stage.{Stage}
use Rattle.drv_table.specs.declared.content.Command.TheVariants as unfinished
use Rattle.drv_table.specs.DriverContent.{DriverContent}
use Rattle.drv_table.specs.Accepting.{Offered, new_runs}
use Rattle.drv_table.specs.Offers.{Asked, note_stages, first_of, stage_words, new_transfer, with_queued, accepted_transfer}
use Rattle.claims_driver.specs.Owners.{runs_of_endpoint, runs_of_transfer}
use Rattle.law_driver.specs.run_owners.Accepts.{Transfers}
use Rattle.claims_driver.specs.Leaving.{HasOwners}
use Rattle.claims_driver.specs.LentRuns.{AreLent}
use Rattle.law_driver.specs.chained_transfers.Bulk.{sort_by}
use Rattle.law_driver.proofs.lemmas.chained_transfers.Ways.{asked_by}
use Rattle.law_driver_ring.specs.Written.{AwaitsLend}
use Rattle.law_driver_ring.proofs.TransferAccepting.{accepted_awaits_lend}
use Rattle.law_driver_ring.proofs.Stays.{written_stays}
use Rattle.law_queues.specs.fed_lends.ToLend.{AreStagesBy, IsToBeLent}
use Rattle.law_queues.specs.fed_lends.Accepted.{AskedIsToBeLent, RequestedIsToBeLent, ToBeLentStays}
use Rattle.law_queues.proofs.lemmas.fed_lends.Stages.{by_data, requested_by, stages_pids}
use Rattle.law_queues.proofs.lemmas.fed_lends.Fed.{one_command}

-- ---- it is to be lent

abbrev WillBeLent : Offered → Type 0
WillBeLent f = (b : ℕ) (words : List ℕ) → f.driver.command ≡ Some (unfinished.Publish b words) → IsToBeLent f.driver f.memory b words

asked_with : (d : DriverContent) (number : ℕ) (x : Endpoint) (a : Asked) (g : Holding) (dummy : ℕ) (notes : List QtdNote) (s : Stage) (ss : List Stage) → a.stages ≡ s ∷ ss → AreStagesBy x.desc.name.way (s ∷ ss) → a.sort ≡ sort_by x.desc.name.way → slice_get d.endpoints number ≡ Some x → x.ended ≡ None
    → AwaitsLend (accepted_transfer d number x a g dummy notes).driver (accepted_transfer d number x a g dummy notes).memory (length d.transfers) (runs_of_transfer (new_transfer number a x.dummy)) (runs_of_endpoint (with_queued x dummy (length d.transfers))) s ss
    → WillBeLent (accepted_transfer d number x a g dummy notes)
asked_with d number x a g dummy notes s ss stages all sort here going awaits b words command =
    let both = one_command x.dummy b (stage_words notes (first_of a.stages) x.dummy dummy (nat_eq (length a.stages) 1)) words command in
    record {
      number = length d.transfers;
      transfer = new_transfer number a x.dummy;
      endpoint = with_queued x dummy (length d.transfers);
      stage = s;
      further = ss;
      command = command;
      made = refl;
      newest = let e = length-append d.transfers (new_transfer number a x.dummy ∷ []) in omega (arith, e);
      there = last_pushed d.transfers (new_transfer number a x.dummy);
      here = set_here d.endpoints number x (with_queued x dummy (length d.transfers)) here;
      going = going;
      first = both.0;
      place = refl;
      left = refl;
      fresh = refl;
      awaits = awaits;
      stages = all;
      sort = sort;
      are = sym both.1
          ∙ ap (λ (rs : List Stage). stage_words notes (first_of rs) x.dummy dummy (nat_eq (length rs) 1)) stages
          ∙ ap (λ (t : Bool). stage_words notes s x.dummy dummy t) (last_is ss);
    }

asked_stages : (d : DriverContent) (m : Mem) (o : Offered) (why : Transfers d m o) (rs : List Stage) → why.asked.stages ≡ rs → AreStagesBy why.endpoint.desc.name.way rs → why.asked.sort ≡ sort_by why.endpoint.desc.name.way → 1 ≤ length rs → HasOwners d → AreLent d → Stands (holding d.book m) → IsShaped m → WillBeLent o
asked_stages d m o why [] stages all sort some has lent stands shape = absurd (omega (arith, some))
asked_stages d m o why (s ∷ ss) stages all sort some has lent stands shape =
    let g = why.holding_after in
    let x = why.endpoint in
    let n = suc (length ss) in
    let rs = new_runs d g in
    let dummy = get_or (take n rs) (length ss) 0 in
    let notes = note_stages d.notes (s ∷ ss) x.dummy (take n rs) (drop n rs) in
    let is : o ≡ accepted_transfer d why.number x why.asked g dummy notes =
    why.is
    ∙ ap (λ (ps : List Stage). accepted_transfer d why.number x why.asked g (get_or (take (length ps) rs) (length ps - 1) 0) (note_stages d.notes ps x.dummy (take (length ps) rs) (drop (length ps) rs))) stages
    ∙ ap (λ (i : ℕ). accepted_transfer d why.number x why.asked g (get_or (take n rs) i 0) notes) (let e : suc (length ss) - 1 ≡ length ss = omega arith in e) in
    let way = x.desc.name.way in
    let pids = subst (AllByRecursion (λ r. r.pid ≤ 2)) (sym stages) (stages_pids way (s ∷ ss) all) in
    let y = runs_of_transfer (new_transfer why.number why.asked x.dummy) in
    let z = runs_of_endpoint (with_queued x dummy (length d.transfers)) in
    let awaits = accepted_awaits_lend d m o why s ss stages pids has lent stands shape in
    subst WillBeLent (sym is)
    (asked_with d why.number x why.asked g dummy notes s ss stages all sort why.here why.goes_on (subst (λ (f : Offered). AwaitsLend f.driver f.memory (length d.transfers) y z s ss) is awaits))

pub asked_is_to_be_lent : AskedIsToBeLent
asked_is_to_be_lent d m o k has lent stands shape =
    let why = k.transfers in
    asked_stages d m o why why.asked.stages refl (by_data why.endpoint.desc.name.way why.asked.stages k.way (asked_by d m o k)) (ap (λ (a : Asked). a.sort) k.asked) why.some has lent stands shape

pub requested_is_to_be_lent : RequestedIsToBeLent
requested_is_to_be_lent d m o k has lent stands shape =
    let why = k.transfers in
    asked_stages d m o why why.asked.stages refl (requested_by d m o k) (ap (λ (a : Asked). a.sort) k.asked ∙ ap sort_by (sym k.way)) why.some has lent stands shape

pub to_be_lent_stays : ToBeLentStays
to_be_lent_stays d m new b words k stands same = record {
  number = k.number;
  transfer = k.transfer;
  endpoint = k.endpoint;
  stage = k.stage;
  further = k.further;
  command = k.command;
  made = k.made;
  newest = k.newest;
  there = k.there;
  here = k.here;
  going = k.going;
  first = k.first;
  place = k.place;
  left = k.left;
  fresh = k.fresh;
  awaits = written_stays d m new k.number (runs_of_transfer k.transfer) (runs_of_endpoint k.endpoint) k.stage k.further k.awaits stands same;
  stages = k.stages;
  sort = k.sort;
  are = k.are;
}
