-- A command that is accepted leaves what each put holds, and the buffers of a new put hold its bytes.
use Rattle.std.proofs.Common.{◌≡◌, ℕ, ◌*◌, ◌<◌, ◌==◌, ◌||◌, Bool, true, false, if◌then◌else◌, List, [], ◌∷◌, ◌++◌, length, take, drop, slice_get, Option, Some, None, option_map, ap, refl, sym, subst, ◌∙◌, ⊎_elim, arith}
use Rattle.std.specs.Prelude.{◌⊎◌}
use Rattle.std.specs.List.{AllByRecursion}
use Rattle.std.proofs.lemmas.Bool.{eq-eqb, eqb-true}
use Rattle.law_common.proofs.Lists.{drop_first, push_which, some_below}
use Rattle.law_driver.proofs.Common.{out_way}
use Rattle.usb_base.specs.declared.packets.Way.{Way}
use Rattle.usb_base.specs.declared.packets.Way.TheVariants as ways
use Rattle.word_mem.specs.Memory.{Mem}
use Rattle.mem_runs.specs.Book.{holding, slot_of, Stands}
use Rattle.drv_table.specs.declared.content.Endpoint.{Endpoint}
use Rattle.drv_table.specs.declared.content.QtdNote.{QtdNote}
use Rattle.drv_table.specs.declared.content.Sort.TheVariants as sorts
use Rattle.drv_table.specs.declared.content.Transfer.{Transfer}
use Rattle.drv_table.specs.declared.content.Command.{Command}
use Rattle.drv_table.specs.declared.content.Command.TheVariants as unfinished
use Rattle.drv_table.specs.DriverContent.{DriverContent}
use Rattle.drv_table.specs.Harvests.{note_at, buffer_address}
use Rattle.drv_table.specs.Accepting.{Offered, new_runs}
use Rattle.drv_table.specs.Offers.{Asked, note_stages, new_transfer}
use Rattle.drv_table.specs.Words.{needs}
use Rattle.law_driver.specs.run_owners.Accepts.{Transfers}
use Rattle.claims_driver.specs.Leaving.{HasOwners}
use Rattle.claims_driver.specs.Owners.{Element, IsPlaced, runs_of_endpoint, runs_of_transfer, note_in}
use Rattle.law_driver.proofs.lemmas.run_owners.Chains.{notes_apart}
use Rattle.law_driver.proofs.lemmas.run_owners.Runs.{placed_run}
use Rattle.law_driver.proofs.lemmas.run_owners.Taking.{runs_taken}
use Rattle.law_driver.proofs.lemmas.run_owners.Transferred.{are_new, goes_on_alive}
use Rattle.law_driver.specs.chained_transfers.Accepted.{move_of}
use Rattle.law_driver.specs.chained_transfers.Bulk.{MovesAs}
use Rattle.law_driver.specs.chained_transfers.Chains.{piece_at}
use Rattle.law_driver.specs.chained_transfers.AsynchronousTurns.{AsynchronousTakesTurns}
use Rattle.law_driver.proofs.lemmas.chained_transfers.Queued.{not_dummy}
use Rattle.law_driver.proofs.lemmas.chained_transfers.Ways.{asked_pids}
use Rattle.law_structures.specs.lent_structures.Structures.{StructureSets, Tells}
use Rattle.law_structures.specs.lent_structures.Changes.{Leaves}
use Rattle.law_driver_ring.proofs.Offered.{opens_leave}
use Rattle.law_driver_ring.proofs.Sending.{transfer_leaves}
use Rattle.law_driver_ring.specs.fed_queues.Fed.{is_request, AreFed}
use Rattle.law_queues.proofs.lemmas.fed_lends.Asked.{piece_placed}
use Rattle.law_world.specs.streams.put_laws.Held.{held_bytes, AreFilled}
use Rattle.law_world.proofs.lemmas.streams.lemmas.put_laws.Accepting.{put_is_held}
use Rattle.law_world.proofs.lemmas.streams.lemmas.put_laws.Cuts.{puts_filled}
use Rattle.law_world.specs.streams.put_laws.HeldPuts.{HoldsPuts, with_put}
use Rattle.law_world.specs.streams.put_laws.HeldLaws.{OpenHoldsPuts, GetHoldsPuts, PutHoldsPuts}
use Rattle.law_world.proofs.lemmas.streams.lemmas.put_laws.HeldAlike.{note_is, SameBytes, was_itself, StaysPut, put_stays, puts_stay}
use Rattle.law_world.proofs.lemmas.streams.lemmas.put_laws.Stored.{IsStored, pieces_stored, words_stored, either_way, stored_at}

-- ---- words of what is lent

-- where no command is unfinished each of them is lent
pub idle_bytes : (d : DriverContent) (m new : Mem) (parts : StructureSets) (t i : ℕ) (y : Transfer) → d.command ≡ None → AsynchronousTakesTurns d → Tells m parts → AreFed d parts → Leaves m new → slice_get d.transfers t ≡ Some y → y.sort ≡ sorts.Put → y.released ≡ false → i < y.qtds
    → SameBytes m new (note_at d.notes (piece_at (note_in d.notes) y.first i))
idle_bytes d m new parts t i y idle turns tells fed leaves there put held below =
    let moves : MovesAs d y = turns.asynchronous.moves t y there in
    let n = 32 * moves.endpoint.queue in
    let note = note_at d.notes (piece_at (note_in d.notes) y.first i) in
    either_way m new note
    (λ some.
    let s : IsStored (parts n) note = pieces_stored d parts t i y moves.endpoint (ap is_request put) fed there held moves.here (λ newest b words is. absurd (no_command b words (sym idle ∙ is))) below some in
    words_stored m new note (λ j inside. leaves.words (buffer_address note j) (stored_at m parts n note tells s j inside).lent))
  where
    no_command : (b : ℕ) (words : List ℕ) → ◌≡◌ {A = Option Command} None (Some (unfinished.Publish b words)) → ⊥
    no_command b words is = cc

-- ---- an open

pub open_holds_puts : OpenHoldsPuts
open_holds_puts d m o parts puts w stands turns tells fed k =
    let leaves : Leaves m o.memory = opens_leave d m o w stands tells.shape in
    let transfers : o.driver.transfers ≡ d.transfers = ap (λ (f : Offered). f.driver.transfers) w.is in
    let notes : o.driver.notes ≡ d.notes = ap (λ (f : Offered). f.driver.notes) w.is in
    puts_stay d o.driver m o.memory puts
    (λ t y here put held.
    let there : slice_get d.transfers t ≡ Some y = sym (ap (λ (ts : List Transfer). slice_get ts t) transfers) ∙ here in
    record {
      was = was_itself d.transfers t y there;
      notes = λ i below. let c = piece_at (note_in d.notes) y.first i in note_is (note_at d.notes c) (note_at o.driver.notes c) (ap (λ (ns : List QtdNote). note_at ns c) notes);
      bytes = λ i below. idle_bytes d m o.memory parts t i y w.idle turns tells fed leaves there put held below;
    }) k

-- ---- a transfer

put_here : (puts : ℕ → List ℕ) (t : ℕ) (bytes : List ℕ) (u : ℕ) → u ≡ t → with_put puts t bytes u ≡ bytes
put_here puts t bytes u same = ap (λ (b : Bool). if b then bytes else puts u) (eq-eqb u t same)

put_there : (puts : ℕ → List ℕ) (t : ℕ) (bytes : List ℕ) (u : ℕ) → u < t → with_put puts t bytes u ≡ puts u
put_there puts t bytes u less = by (u == t) refl
  where
    by : (b : Bool) → (u == t) ≡ b → (if b then bytes else puts u) ≡ puts u
    by true is = let same = eqb-true u t is in absurd (omega (arith, less, same))
    by false is = refl

module _ (d : DriverContent) (m : Mem) (o : Offered) (parts : StructureSets) (why : Transfers d m o) (owners : HasOwners d) (stands : Stands (holding d.book m)) (turns : AsynchronousTakesTurns d) (tells : Tells m parts) (fed : AreFed d parts) where
  abbrev x : Endpoint
  x = why.endpoint

  abbrev new : Transfer
  new = new_transfer why.number why.asked why.endpoint.dummy

  transfers_are : o.driver.transfers ≡ d.transfers ++ new ∷ []
  transfers_are = ap (λ (f : Offered). f.driver.transfers) why.is

  -- the notes of older transfers stay
  notes_stay : (t i : ℕ) (y : Transfer) → slice_get d.transfers t ≡ Some y → y.released ≡ false → i < y.qtds → note_at o.driver.notes (piece_at (note_in d.notes) y.first i) ≡ note_at d.notes (piece_at (note_in d.notes) y.first i)
  notes_stay t i y there held below =
      let ss = why.asked.stages in
      let n = length ss in
      let c = piece_at (note_in d.notes) y.first i in
      let all = runs_taken (holding d.book m) why.holding_after (needs ss) stands why.runs in
      let bs = all.blocks in
      let runs_are : new_runs d why.holding_after ≡ bs = ap (drop (length d.book.taken)) all.are.taken ∙ drop_first d.book.taken bs in
      let alive = goes_on_alive x why.goes_on (owners.orderly.steady why.number x why.here) in
      let was = owners.owned.each.dummy why.number (runs_of_endpoint x) (ap (option_map runs_of_endpoint) why.here) (ap (λ k. k || x.gone) why.queued ∙ alive) in
      let are = are_new ss owners.owner x.dummy why.number (length d.transfers) why.some all.are was in
      let placed : IsPlaced (slot_of d.book.slots) owners.owner c (Element t) =
      piece_placed (slot_of d.book.slots) owners.owner (note_in d.notes) t y.first y.qtds (owners.owned.each.pieces t (runs_of_transfer y) (ap (option_map runs_of_transfer) there) held) i below in
      ap (λ (f : Offered). note_at f.driver.notes c) why.is
      ∙ ap (λ (rs : List ℕ). note_at (note_stages d.notes ss x.dummy (take n rs) (drop n rs)) c) runs_are
      ∙ notes_apart d.notes ss x.dummy (take n bs) (drop n bs) c (are.apart c (placed_run c (Element t) placed) (not_dummy x.dummy c why.number t was placed))

  older : (t : ℕ) (y : Transfer) → slice_get d.transfers t ≡ Some y → y.sort ≡ sorts.Put → y.released ≡ false → StaysPut d o.driver m o.memory t y
  older t y there put held = record {
    was = was_itself d.transfers t y there;
    notes = λ i below. let c = piece_at (note_in d.notes) y.first i in note_is (note_at d.notes c) (note_at o.driver.notes c) (notes_stay t i y there held below);
    bytes = λ i below. idle_bytes d m o.memory parts t i y why.idle turns tells fed (transfer_leaves d m o why owners stands tells.shape) there put held below;
  }

  which : (t : ℕ) (y : Transfer) → slice_get o.driver.transfers t ≡ Some y → (slice_get d.transfers t ≡ Some y) ⊎ ((t ≡ length d.transfers) × (y ≡ new))
  which t y here = push_which d.transfers new t y (sym (ap (λ (ts : List Transfer). slice_get ts t) transfers_are) ∙ here)

  -- a get and a request have no bytes to be held
  pub get_leaves : (puts : ℕ → List ℕ) → (why.asked.sort ≡ sorts.Put → ⊥) → HoldsPuts d m puts → HoldsPuts o.driver o.memory puts
  get_leaves puts no_put k =
      puts_stay d o.driver m o.memory puts
      (λ t y here put held.
      ⊎_elim (λ (was : slice_get d.transfers t ≡ Some y). older t y was put held)
      (λ (is : (t ≡ length d.transfers) × (y ≡ new)). absurd (no_put (ap (λ (r : Transfer). r.sort) (sym is.1) ∙ put))) (which t y here)) k

  pub put_joins : (puts : ℕ → List ℕ) → held_bytes o.memory o.driver.notes why.endpoint.dummy (length why.asked.stages) ≡ why.asked.bytes → HoldsPuts d m puts
      → HoldsPuts o.driver o.memory (with_put puts (length d.transfers) why.asked.bytes)
  put_joins puts new_held k = record {
    each = λ t y here put held.
        ⊎_elim
        (λ (was : slice_get d.transfers t ≡ Some y).
        put_stays d o.driver m o.memory puts t y (older t y was put held) k put held ∙ sym (put_there puts (length d.transfers) why.asked.bytes t (some_below d.transfers t y was)))
        (λ (is : (t ≡ length d.transfers) × (y ≡ new)).
        ap (λ (r : Transfer). held_bytes o.memory o.driver.notes r.first r.qtds) is.1 ∙ new_held ∙ sym (put_here puts (length d.transfers) why.asked.bytes t is.0))
        (which t y here);
  }

-- ---- the laws

pub get_holds_puts : GetHoldsPuts
get_holds_puts d m o parts puts why differs owners stands turns tells fed held = get_leaves d m o parts why owners stands turns tells fed puts differs held

pub put_holds_puts : PutHoldsPuts
put_holds_puts d m o parts puts k leaves some small owners lent stands turns tells fed held =
    let way = k.transfers.endpoint.desc.name.way in
    let out : way ≡ ways.Out = out_way way leaves in
    let asked : k.transfers.asked ≡ move_of ways.Out (length k.bytes) k.by k.bytes =
    k.asked ∙ ap (λ (w : Way). move_of w k.most k.by k.bytes) out ∙ ap (λ (n : ℕ). move_of ways.Out n k.by k.bytes) (sym (k.whole out)) in
    let bytes : k.transfers.asked.bytes ≡ k.bytes = ap (λ (a : Asked). a.bytes) asked in
    let filled : AreFilled k.transfers.asked.stages k.transfers.asked.bytes = subst (λ (a : Asked). AreFilled a.stages a.bytes) (sym asked) (puts_filled k.bytes k.by some) in
    let new = put_is_held d m o k.transfers filled (subst (AllByRecursion (λ b. b < 256)) (sym bytes) small) (asked_pids d m o k) owners lent stands tells.shape in
    subst (λ (bs : List ℕ). HoldsPuts o.driver o.memory (with_put puts (length d.transfers) bs)) bytes (put_joins d m o parts k.transfers owners stands turns tells fed puts new held)
