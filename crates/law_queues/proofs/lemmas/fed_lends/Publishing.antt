-- An accepted get, put or request, told by its stages.
use Rattle.std.proofs.Common.{◌≡◌, ℕ, suc, ◌-◌, ◌*◌, ◌≤◌, Bool, nat_eq, List, [], ◌∷◌, ◌++◌, length, take, get_or, slice_get, Option, Some, ap, sym, subst, ◌∙◌, refl, arith, None}
use Rattle.std.specs.List.{AllByRecursion}
use Rattle.law_queues.proofs.Common.{end_is}
use Rattle.law_common.proofs.Lists.{set_here, pushed_last}
use Rattle.usb_base.specs.declared.packets.Way.{Way}
use Rattle.word_mem.specs.Memory.{Mem, IsShaped}
use Rattle.mem_runs.specs.Book.{Holding, holding, Stands, slot_of}
use Rattle.mem_runs.specs.declared.slots.Slot.{Slot}
use Rattle.mem_runs.specs.declared.slots.Slot.TheVariants.{Keeps, Lends}
use Rattle.qh_qtd.specs.Qtd.{qtd_words}
use Rattle.drv_table.specs.declared.content.QtdNote.{QtdNote}
use Rattle.drv_table.specs.declared.content.Sort.{Sort}
use Rattle.drv_table.specs.declared.content.Stage.{Stage}
use Rattle.drv_table.specs.declared.content.Endpoint.{Endpoint}
use Rattle.drv_table.specs.declared.content.Transfer.{Transfer}
use Rattle.drv_table.specs.declared.content.Command.{Command}
use Rattle.drv_table.specs.declared.content.Command.TheVariants as unfinished
use Rattle.drv_table.specs.DriverContent.{DriverContent}
use Rattle.drv_table.specs.Words.{dummy_qtd, new_qtd}
use Rattle.drv_table.specs.Harvests.{note_at}
use Rattle.drv_table.specs.Accepting.{Offered, new_runs}
use Rattle.drv_table.specs.Offers.{Asked, first_of, accepted_transfer, with_queued, new_transfer}
use Rattle.law_driver.specs.run_owners.Accepts.{Transfers}
use Rattle.claims_driver.specs.Leaving.{HasOwners}
use Rattle.claims_driver.specs.Owners.{note_in, runs_of_transfer, runs_of_endpoint}
use Rattle.claims_driver.specs.LentRuns.{AreLent}
use Rattle.law_structures.specs.lent_structures.Structures.{Element as ElementAt, StructureSets}
use Rattle.law_driver_ring.specs.Inventory.{IsLent}
use Rattle.law_driver_ring.specs.Written.{IsPageRun, next_blocks, last_block, AwaitsLend}
use Rattle.law_driver_ring.specs.TransferLaws.{new_qtds}
use Rattle.law_driver_ring.proofs.TransferAccepting.{accepted_awaits_lend}
use Rattle.law_driver_ring.proofs.Holding.{qtd_range, blocks_low}
use Rattle.law_ring.specs.Told.{Endpoint as Told}
use Rattle.law_driver.specs.chained_transfers.Bulk.{sort_by}
use Rattle.law_driver.specs.chained_transfers.AsynchronousTurns.{AsynchronousTakesTurns}
use Rattle.law_driver.specs.chained_transfers.Chains.{piece_at}
use Rattle.law_driver.proofs.lemmas.chained_transfers.Ways.{asked_by}
use Rattle.law_driver_ring.specs.fed_queues.Fed.{size_of, IsNotedQtd, IsPublished}
use Rattle.law_queues.specs.fed_lends.ToLend.{AreStagesBy}
use Rattle.law_queues.proofs.lemmas.fed_lends.Stages.{LeadsAs, IsFirst, by_data, requested_by, stages_are, stages_pids}
use Rattle.law_queues.proofs.lemmas.fed_lends.Feeding.{places_new, stage_noted, noted_blank}
use Rattle.law_queues.specs.fed_lends.Commands.{QueuesStand, AskedStands, RequestedStands}
use Rattle.law_queues.proofs.lemmas.fed_lends.Asked.{dummy_in, notes_in, taken_on, taken_stands}

-- ---- the stages

record HasStages (way : Way) (ss : List Stage) : Type 0 where
  first : Stage
  rest : List Stage
  are : ss ≡ first ∷ rest
  stage : IsFirst way first
  pids : AllByRecursion (λ (r : Stage). r.pid ≤ 2) (first ∷ rest)

some_stages : (way : Way) (ss : List Stage) → 1 ≤ length ss → AreStagesBy way ss → HasStages way ss
some_stages way [] some all = absurd (omega arith)
some_stages way (s ∷ ss) some all = record { first = s; rest = ss; are = refl; stage = (stages_are way (s ∷ ss) all).0; pids = stages_pids way (s ∷ ss) all }

-- ---- its last block

all_last : (P : ℕ → Type 0) (notes : List QtdNote) (s : Stage) (ss : List Stage) (b : ℕ) → AllByRecursion P (next_blocks notes (s ∷ ss) b) → P (last_block notes (s ∷ ss) b)
all_last P notes s [] b all = all.0
all_last P notes s (r ∷ rs) b all = all_last P notes r rs (note_at notes b).next all.1

not_kept : (s : Slot) → IsPageRun s 1 → IsLent s → ⊥
not_kept (Lends r) run lent = let e : Lends r ≡ Keeps run.run = run.is in cc
not_kept _ run lent = lent

-- ---- what is to be published

published : (d : DriverContent) (m : Mem) (e : ℕ) (x : Endpoint) (a : Asked) (h : Holding) (dummy : ℕ) (notes : List QtdNote) (parts : StructureSets) (k : HasStages x.desc.name.way a.stages) (words : List ℕ) → a.sort ≡ sort_by x.desc.name.way
    → slice_get d.endpoints e ≡ Some x → x.ended ≡ None
    → Stands (holding (accepted_transfer d e x a h dummy notes).driver.book (accepted_transfer d e x a h dummy notes).memory) → IsShaped (accepted_transfer d e x a h dummy notes).memory
    → AwaitsLend (accepted_transfer d e x a h dummy notes).driver (accepted_transfer d e x a h dummy notes).memory (length d.transfers) (runs_of_transfer (new_transfer e a x.dummy))
    (runs_of_endpoint (with_queued x dummy (length d.transfers))) k.first k.rest
    → (accepted_transfer d e x a h dummy notes).driver.command ≡ Some (unfinished.Publish x.dummy words) → parts (32 * x.queue) (32 * x.dummy) ≡ Some (ElementAt dummy_qtd)
    → IsPublished (accepted_transfer d e x a h dummy notes).driver parts x.dummy words
published d m e x a h dummy notes parts k words sort here going stands shape r is stored =
    let f = (accepted_transfer d e x a h dummy notes).driver in
    let b = x.dummy in
    let note = note_at notes b in
    let last = nat_eq (length a.stages) 1 in
    let qtd = new_qtd (first_of a.stages) note.next dummy note.buffer last in
    let way = x.desc.name.way in
    let all : first_of a.stages ≡ k.first = ap first_of k.are in
    let size : size_of a.sort 0 note.told ≡ k.first.long = ap (λ (c : Sort). size_of c 0 note.told) sort ∙ ap (size_of (sort_by way) 0) r.noted.0.told ∙ k.stage.size in
    let end : piece_at (note_in notes) b (length a.stages) ≡ dummy = ap (λ ss. piece_at (note_in notes) b (length ss)) k.are ∙ end_is notes (k.first ∷ k.rest) b ∙ r.ends in
    record {
      number = length d.transfers;
      transfer = new_transfer e a x.dummy;
      endpoint = with_queued x dummy (length d.transfers);
      newest = sym (pushed_length d.transfers (new_transfer e a x.dummy));
      there = pushed_last d.transfers (new_transfer e a x.dummy);
      fresh = (refl, refl);
      place = (refl, refl, refl);
      here = set_here d.endpoints e x (with_queued x dummy (length d.transfers)) here;
      going = going;
      qtd = qtd;
      are = words_of is;
      range = qtd_range (first_of a.stages) note.next dummy note.buffer last (subst (λ (s : Stage). s.pid ≤ 2) (sym all) k.pids.0) (subst (λ (s : Stage). s.long ≤ 20480) (sym all) r.short.0)
          (blocks_low (holding f.book (accepted_transfer d e x a h dummy notes).memory) note k.first stands shape r.noted.0);
      noted = subst (λ (c : Sort). IsNotedQtd c qtd note (piece_at (note_in notes) b (length a.stages))) (sym sort)
          (stage_noted (sort_by way) notes (first_of a.stages) b dummy (piece_at (note_in notes) b (length a.stages)) last (subst (LeadsAs (sort_by way)) (sym all) k.stage.leads) end);
      active = refl;
      pid = ap (λ (s : Stage). s.pid) all ∙ k.stage.pid;
      total = ap (λ (s : Stage). s.long) all ∙ sym size;
      stored = stored;
      places = λ j below.
          places_new (holding f.book (accepted_transfer d e x a h dummy notes).memory) note k.first j stands r.noted.0 r.short.0 (omega (arith, below, size));
      blank = λ none. noted_blank (slot_of f.book.slots) note k.first r.noted.0 (sym size ∙ none);
      few = omega arith;
      long = λ some. absurd (omega (arith, some));
      may = λ some. absurd (omega (arith, some));
    }
  where
    words_in : Option Command → List ℕ
    words_in (Some (unfinished.Publish b words)) = words
    words_in _ = []

    words_of : (accepted_transfer d e x a h dummy notes).driver.command ≡ Some (unfinished.Publish x.dummy words)
        → words ≡ qtd_words (new_qtd (first_of a.stages) (note_at notes x.dummy).next dummy (note_at notes x.dummy).buffer (nat_eq (length a.stages) 1))
    words_of is = sym (ap words_in is)

    pushed_length : (xs : List Transfer) (y : Transfer) → length (xs ++ y ∷ []) ≡ suc (length xs)
    pushed_length [] y = refl
    pushed_length (z ∷ xs) y = ap suc (pushed_length xs y)

-- ---- the law

less_one : (n : ℕ) → n ≡ suc n - 1
less_one n = omega arith

by_stages : (d : DriverContent) (m : Mem) (o : Offered) (member streams : ℕ → Bool) (ends : ℕ → Told) (parts : StructureSets) (order : ℕ → ℕ → ℕ) (out : ℕ → List ℕ) (why : Transfers d m o) (k : HasStages why.endpoint.desc.name.way why.asked.stages) → why.asked.sort ≡ sort_by why.endpoint.desc.name.way
    → Stands (holding d.book m) → IsShaped m → Stands (holding o.driver.book o.memory) → IsShaped o.memory → HasOwners d → AreLent d → AsynchronousTakesTurns d → QueuesStand d member streams ends parts order out
    → QueuesStand o.driver member streams ends parts order out
by_stages d m o member streams ends parts order out why k sort stands shape stands_now shape_now owners lent turns old =
    let a = why.asked in
    let x = why.endpoint in
    let e = why.number in
    let h = why.holding_after in
    let n = length a.stages in
    let rs = new_runs d h in
    let dummy = dummy_in n rs in
    let notes = notes_in d a x rs in
    let f : Offered = accepted_transfer d e x a h dummy notes in
    let written = accepted_awaits_lend d m o why k.first k.rest k.are (subst (λ ss. AllByRecursion (λ (r : Stage). r.pid ≤ 2) ss) (sym k.are) k.pids) owners lent stands shape in
    let same : get_or (new_qtds d h (suc (length k.rest))) (length k.rest) 0 ≡ dummy =
    ap (λ (i : ℕ). get_or (take (suc (length k.rest)) rs) i 0) (less_one (length k.rest)) ∙ ap (λ (i : ℕ). get_or (take i rs) (i - 1) 0) (sym (ap (λ ss. length ss) k.are)) in
    let now : AwaitsLend f.driver f.memory (length d.transfers) (runs_of_transfer (new_transfer e a x.dummy)) (runs_of_endpoint (with_queued x dummy (length d.transfers))) k.first k.rest =
    subst (λ (c : ℕ). AwaitsLend f.driver f.memory (length d.transfers) (runs_of_transfer (new_transfer e a x.dummy)) (runs_of_endpoint (with_queued x c (length d.transfers))) k.first k.rest) same
    (subst (λ (g : Offered). AwaitsLend g.driver g.memory (length d.transfers) (runs_of_transfer (new_transfer e a x.dummy)) (runs_of_endpoint (with_queued x (get_or (new_qtds d h (suc (length k.rest))) (length k.rest) 0) (length d.transfers))) k.first k.rest) why.is written) in
    let kept : IsLent (slot_of h.book.slots dummy) → ⊥ = not_kept (slot_of h.book.slots dummy)
    (subst (λ (c : ℕ). IsPageRun (slot_of h.book.slots c) 1) now.ends (all_last (λ (c : ℕ). IsPageRun (slot_of h.book.slots c) 1) notes k.first k.rest x.dummy now.qtds_kept)) in
    let fs : Stands (holding f.driver.book f.memory) = subst (λ (g : Offered). Stands (holding g.driver.book g.memory)) why.is stands_now in
    let fm : IsShaped f.memory = subst (λ (g : Offered). IsShaped g.memory) why.is shape_now in
    subst (λ (g : Offered). QueuesStand g.driver member streams ends parts order out) (sym why.is)
    (taken_stands d e x a h dummy notes member streams ends parts order out (taken_on d m o why stands owners lent turns.asynchronous kept) turns.turns.places
    (λ words is stored. published d m e x a h dummy notes parts k words sort why.here why.goes_on fs fm now is stored) old)

pub asked_stands : AskedStands
asked_stands d m o member streams ends parts order out why stands shape stands_now shape_now owners lent turns old =
    let w = why.transfers in
    let way = w.endpoint.desc.name.way in
    let k = some_stages way w.asked.stages w.some (by_data way w.asked.stages why.way (asked_by d m o why)) in
    by_stages d m o member streams ends parts order out w k (ap (λ (a : Asked). a.sort) why.asked) stands shape stands_now shape_now owners lent turns old

pub requested_stands : RequestedStands
requested_stands d m o member streams ends parts order out why stands shape stands_now shape_now owners lent turns old =
    let w = why.transfers in
    let k = some_stages w.endpoint.desc.name.way w.asked.stages w.some (requested_by d m o why) in
    by_stages d m o member streams ends parts order out w k (ap (λ (a : Asked). a.sort) why.asked ∙ ap sort_by (sym why.way)) stands shape stands_now shape_now owners lent turns old
