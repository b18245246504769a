-- What is told of the driver's queues once a new endpoint's structures are lent, whatever is to lead to them.
use Rattle.std.proofs.Common.{◌≡◌, ◌≢◌, ℕ, suc, ◌*◌, Bool, false, ◌==◌, nat_eq, nat_lt, if◌then◌else◌, List, length, slice_get, Option, Some, None, ap, refl, sym, subst, ◌∙◌, ⊎_elim, arith}
use Rattle.std.proofs.lemmas.Bool.{cases_eq}
use Rattle.std.proofs.lemmas.Option.{same_Some}
use Rattle.law_common.proofs.Numbers.{same_blocks}
use Rattle.word_mem.specs.Memory.{Mem}
use Rattle.mem_runs.specs.Book.{Book, holding, slot_of, lend_taken}
use Rattle.drv_table.specs.declared.content.Endpoint.{Endpoint}
use Rattle.drv_table.specs.declared.content.Transfer.{Transfer}
use Rattle.drv_table.specs.declared.content.Command.{Command}
use Rattle.drv_table.specs.declared.content.Command.TheVariants as unfinished
use Rattle.drv_table.specs.DriverContent.{DriverContent}
use Rattle.drv_table.specs.Commands.{advanced_by}
use Rattle.drv_table.specs.Harvests.{note_at}
use Rattle.drv_table.specs.Words.{dummy_qtd}
use Rattle.claims_driver.specs.Leaving.{HasOwners}
use Rattle.claims_driver.specs.Owners.{EndpointRuns, NoteRuns, Owner, QueueHead as QueueOf, Dummy, runs_of_endpoint, note_in, views_of}
use Rattle.law_structures.specs.lent_structures.Structures.{Structure, QueueHead, Element, Structures, StructureSets, with_structure, put}
use Rattle.law_structures.proofs.lemmas.lent_structures.Names.{put_beside, put_here}
use Rattle.law_ring.specs.Told.{Endpoint as Told}
use Rattle.law_driver_ring.specs.Inventory.{IsLent, sorts_of, IsDriven}
use Rattle.law_driver_ring.specs.Linked.{opened_part}
use Rattle.law_driver_ring.proofs.LendLending.{other_slot}
use Rattle.law_driver_ring.proofs.LendOpening.{two_lent, lent_content}
use Rattle.law_driver_ring.proofs.LendOwning.{none_there}
use Rattle.law_driver.specs.chained_transfers.Asynchronous.{StandsAsynchronous}
use Rattle.law_driver.specs.chained_transfers.AsynchronousTurns.{AsynchronousTakesTurns}
use Rattle.law_driver.specs.chained_transfers.Chains.{piece_at}
use Rattle.law_driver.specs.chained_transfers.Out.{unpublished, out_of, out_now}
use Rattle.law_driver.proofs.lemmas.chained_transfers.Holding.{held_alive}
use Rattle.law_driver.proofs.lemmas.chained_transfers.Staying.{linked_stands_alive}
use Rattle.law_driver_ring.specs.fed_queues.Fed.{IsPieceFed, unpublished_of, AreFed, sized}
use Rattle.law_driver_ring.specs.fed_queues.Places.{AreMet, HaveStreams, IsLast, AreLast, AreStillOut}
use Rattle.law_driver_ring.proofs.lemmas.fed_queues.Places.{SameQueues, same_ends, met_stays, streams_stay}
use Rattle.law_queues.specs.publish_laws.Stores.{QueuesThen}
use Rattle.law_queues.proofs.lemmas.publish_laws.Apart.{queue_placed, dummy_placed, queues_same}
use Rattle.law_queues.specs.open_laws.Queues.{IsNewPart, IsOpenToLend, IsOpenThere, parts_opened, open_lent, OpenLendIsMade, OpenLendStands}
use Rattle.law_queues.proofs.lemmas.open_laws.FinishedQueues.{open_out, none_either}
use Rattle.law_queues.proofs.lemmas.open_laws.Newest.{queue_and_dummy, new_part}

-- ---- the row

abbrev counted : DriverContent → Book → ℕ → DriverContent
counted d book i = if nat_lt (suc i) 2 then record d { book = book; made = suc i } else record d { book = book; command = None; made = 0 }

pub open_lend_is_made : OpenLendIsMade
open_lend_is_made p k =
    let book = (lend_taken (holding p.driver.book p.memory)).book in
    ap (advanced_by (record p.driver { book = book })) k.command ∙ ap (counted p.driver book) k.made

-- ---- what is out

open_still : (note : ℕ → NoteRuns) (e queue made more : ℕ) (ts : List Transfer) → out_of note e (Some (unfinished.Open queue)) made ts ≡ out_of note e (Some (unfinished.Open queue)) more ts
open_still note e queue made more ts = open_out note e queue made ts ∙ sym (open_out note e queue more ts)

abbrev dummy_number : Owner → ℕ
dummy_number (Dummy e) = e
dummy_number o = 0

no_queue_dummy : (e f : ℕ) → Dummy e ≡ QueueOf f → ⊥
no_queue_dummy e f same = cc

module _ (d : DriverContent) (m : Mem) (member streams : ℕ → Bool) (ends : ℕ → Told) (parts : StructureSets) (order : ℕ → ℕ → ℕ) (out : ℕ → List ℕ) (owners : HasOwners d) (turns : AsynchronousTakesTurns d) (driven : IsDriven (views_of d) (sorts_of parts)) (stand : QueuesThen d member streams ends parts order out) (k : IsOpenToLend d m) where
  abbrev x : Endpoint
  x = k.endpoint

  abbrev number : ℕ
  number = k.number

  abbrev n : ℕ
  n = 32 * k.endpoint.queue

  abbrev r : EndpointRuns
  r = runs_of_endpoint k.endpoint

  abbrev now : StructureSets
  now = parts_opened k parts

  abbrev lent_book : Book
  lent_book = (lend_taken (holding d.book m)).book

  abbrev f : DriverContent
  f = open_lent d m

  -- ---- the structures

  -- nothing was told of the new queue before
  pub none_told : (a : ℕ) → parts n a ≡ None
  none_told a = none_there (views_of d) (views_of (lent_content d m)) owners.owner k.number r parts a (two_lent d m k.number r k.queue k.opened owners) driven

  pub part_at : (b : ℕ) → now n b ≡ opened_part r k.queue b
  part_at b =
      let one = put parts n n (QueueHead k.queue) in
      ap (λ (part : Structures). part b) (put_here one n (32 * x.dummy) (Element dummy_qtd))
      ∙ ap (λ (part : Structures). with_structure part (32 * x.dummy) (Element dummy_qtd) b) (put_here parts n n (QueueHead k.queue))
      ∙ ap (λ (o : Option Structure). if b == 32 * x.dummy then Some (Element dummy_qtd) else (if b == n then Some (QueueHead k.queue) else o)) (none_told b)

  pub stay : (i : ℕ) → i ≢ n → now i ≡ parts i
  stay i differs = put_beside (put parts n n (QueueHead k.queue)) n (32 * x.dummy) (Element dummy_qtd) i differs ∙ put_beside parts n n (QueueHead k.queue) i differs

  standing : StandsAsynchronous x
  standing = turns.asynchronous.endpoints number x k.here

  its_alive : x.gone ≡ false
  its_alive = linked_stands_alive x standing k.fresh

  pub same_number : (e : ℕ) (y : Endpoint) → slice_get d.endpoints e ≡ Some y → y.gone ≡ false → y.queue ≡ x.queue → e ≡ number
  same_number e y there kept same =
      queues_same y.queue x.queue e number same (queue_placed d owners e y there (turns.asynchronous.endpoints e y there) kept)
      (queue_placed d owners number x k.here standing its_alive)

  pub is_new : (e : ℕ) (y : Endpoint) → slice_get d.endpoints e ≡ Some y → e ≡ number → y ≡ x
  is_new e y there same = same_Some y x (sym there ∙ ap (slice_get d.endpoints) same ∙ k.here)

  pub apart : (e : ℕ) (y : Endpoint) → slice_get d.endpoints e ≡ Some y → y.gone ≡ false → e ≢ number → 32 * y.queue ≢ n
  apart e y there kept differs same = differs (same_number e y there kept (same_blocks y.queue x.queue same))

  -- the slot of another endpoint's inactive qTD stays
  slot_stays : (e : ℕ) (y : Endpoint) → slice_get d.endpoints e ≡ Some y → y.gone ≡ false → e ≢ number → slot_of lent_book.slots y.dummy ≡ slot_of d.book.slots y.dummy
  slot_stays e y there kept differs =
      let mine = dummy_placed d owners e y there (turns.asynchronous.endpoints e y there) kept in
      let queue = queue_placed d owners number x k.here standing its_alive in
      let dummy = dummy_placed d owners number x k.here standing its_alive in
      other_slot (holding d.book m) x.queue x.dummy y.dummy k.opened.taken
      (λ same. no_queue_dummy e number (sym mine.owned ∙ ap owners.owner same ∙ queue.owned))
      (λ same. differs (ap dummy_number (sym mine.owned ∙ ap owners.owner same ∙ dummy.owned)))

  pub lent_part : IsNewPart x (now n)
  lent_part = new_part x k.queue (now n) (queue_and_dummy d owners k.number x k.here standing its_alive) k.rests part_at

  -- ---- what is told of the queues

  open_of : {b : ℕ} {words : List ℕ} → d.command ≡ Some (unfinished.Publish b words) → ⊥
  open_of {b} {words} command = never (sym k.command ∙ command)
    where
      never : Some (unfinished.Open x.queue) ≡ Some (unfinished.Publish b words) → ⊥
      never same = cc

  queues_stay : SameQueues d f
  queues_stay = same_ends d f (record { waiting = refl; rung = refl; opens = λ c is. is }) (record { waiting = refl; rung = refl; opens = λ c is. is }) refl

  met_then : AreMet f member
  met_then = met_stays d f member queues_stay stand.met

  streams_then : HaveStreams f streams ends
  streams_then = streams_stay d f streams ends queues_stay stand.streams_are

  none_of : (made t : ℕ) (y : Transfer) → (if nat_eq (suc t) (length d.transfers) then unpublished d.command made y.qtds else 0) ≡ 0
  none_of made t y =
      ap (λ (o : Option Command). if nat_eq (suc t) (length d.transfers) then unpublished o made y.qtds else 0) k.command ∙ none_either (nat_eq (suc t) (length d.transfers))

  fed_then : AreFed f now
  fed_then = record {
    dummies = λ e y there kept lent.
        ⊎_elim (λ (same : e ≡ number).
        ap (λ (z : Endpoint). now (32 * z.queue) (32 * z.dummy)) (is_new e y there same) ∙ lent_part.dummy)
        (λ (differs : e ≢ number).
        ap (λ (part : Structures). part (32 * y.dummy)) (stay (32 * y.queue) (apart e y there kept differs))
        ∙ stand.fed.dummies e y there kept (subst IsLent (slot_stays e y there kept differs) lent)) (cases_eq e number);
    pieces = λ t j y z there held here from below.
        let differs : 32 * z.queue ≢ n = apart y.endpoint z here (held_alive d t y z turns.turns there held here) (k.none t y there) in
        let none : unpublished_of d t y ≡ 0 = none_of d.made t y in
        subst (λ (part : Structures). IsPieceFed y.sort part (sized y.sort j (note_at d.notes (piece_at (note_in d.notes) y.first j))) (piece_at (note_in d.notes) y.first j) (piece_at (note_in d.notes) y.first y.qtds)) (sym (stay (32 * z.queue) differs))
        (stand.fed.pieces t j y z there held here (omega (arith, none)) below);
    publishes = λ b words command. absurd (open_of command);
  }

  last_then : AreLast f now order
  last_then = record {
    dummies = λ e y there kept lent.
        ⊎_elim (λ (same : e ≡ number).
        subst (λ (z : Endpoint). IsLast (order (32 * z.queue)) (now (32 * z.queue)) (32 * z.dummy)) (sym (is_new e y there same))
        (λ a t is other. absurd (other (lent_part.only a t is))))
        (λ (differs : e ≢ number).
        subst (λ (part : Structures). IsLast (order (32 * y.queue)) part (32 * y.dummy)) (sym (stay (32 * y.queue) (apart e y there kept differs)))
        (stand.last.dummies e y there kept (subst IsLent (slot_stays e y there kept differs) lent))) (cases_eq e number);
    taken = λ b words t y z command made newest there first here. absurd (open_of command);
    sorted = λ b words t y z command made newest there first here. absurd (open_of command);
  }

  out_same : (e : ℕ) → out_now d e ≡ out_now f e
  out_same e =
      ap (λ (o : Option Command). out_of (note_in d.notes) e o d.made d.transfers) k.command ∙ open_still (note_in d.notes) e x.queue d.made 1 d.transfers
      ∙ sym (ap (λ (o : Option Command). out_of (note_in d.notes) e o 1 d.transfers) k.command)

  out_then : AreStillOut f out
  out_then e y there is = stand.out_are e y there (record { linked = is.linked; kept = is.kept }) ∙ out_same e

  pub stands_lent : QueuesThen f member streams ends now order out × IsOpenThere f now
  stands_lent = (
    record { met = met_then; streams_are = streams_then; fed = fed_then; last = last_then; out_are = out_then },
    record {
      number = k.number;
      endpoint = k.endpoint;
      here = k.here;
      command = k.command;
      fresh = k.fresh;
      none = k.none;
      part = lent_part;
    },
  )

pub open_lend_stands : OpenLendStands
open_lend_stands d m member streams ends parts order out owners turns driven stand k = stands_lent d m member streams ends parts order out owners turns driven stand k
