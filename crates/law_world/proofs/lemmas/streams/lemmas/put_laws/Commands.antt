-- What is owed where a command is accepted.
use Rattle.std.proofs.Common.{◌≡◌, ◌≢◌, ℕ, ◌-◌, ◌*◌, ◌<◌, ◌==◌, ◌||◌, ◌&&◌, not, Bool, true, false, if◌then◌else◌, List, [], ◌∷◌, ◌++◌, get_or, length, take, drop, slice_get, Option, Some, None, option_map, ap, refl, sym, ◌∙◌, ⊎_elim, arith}
use Rattle.std.specs.Prelude.{◌⊎◌}
use Rattle.std.specs.List.{concat}
use Rattle.std.proofs.lemmas.Bool.{false≢true, eq-eqb, eqb-true}
use Rattle.std.proofs.lemmas.List.{append_assoc, append-nil}
use Rattle.std.proofs.lemmas.Option.{slice_get_within}
use Rattle.law_driver.proofs.Common.{others_wait}
use Rattle.law_queues.proofs.Common.{none_open, last_one}
use Rattle.law_world.proofs.Common.{no_open as publish_open, same_queue}
use Rattle.law_common.proofs.Lists.{drop_first, push_which, still_there as push_there, pushed_last}
use Rattle.law_driver.proofs.Common.{waits_is}
use Rattle.usb_base.specs.declared.commands.Cmd.{Cmd}
use Rattle.usb_base.specs.declared.commands.Cmd.TheVariants as commands
use Rattle.usb_base.specs.declared.endpoints.EndCause.{EndCause}
use Rattle.word_mem.specs.Memory.{Mem}
use Rattle.mem_runs.specs.Book.{holding, slot_of, Stands}
use Rattle.drv_table.specs.declared.content.Command.{Command}
use Rattle.drv_table.specs.declared.content.Command.TheVariants as unfinished
use Rattle.drv_table.specs.declared.content.Endpoint.{Endpoint}
use Rattle.drv_table.specs.declared.content.QtdNote.{QtdNote}
use Rattle.drv_table.specs.declared.content.Sort.TheVariants as sorts
use Rattle.drv_table.specs.declared.content.Transfer.{Transfer}
use Rattle.drv_table.specs.DriverContent.{DriverContent}
use Rattle.drv_table.specs.Harvests.{note_at}
use Rattle.drv_table.specs.Accepting.{Offered, new_runs}
use Rattle.drv_table.specs.Offers.{Asked, note_stages, new_endpoint, new_transfer}
use Rattle.drv_table.specs.CancelOffers.{first_end}
use Rattle.drv_table.specs.Kinds.{is_iso}
use Rattle.drv_table.specs.Releases.{ended_by_cancel}
use Rattle.drv_table.specs.Words.{needs}
use Rattle.law_driver.specs.endpoint_lives.Lives.{told_end}
use Rattle.law_driver.proofs.lemmas.endpoint_lives.Lives.{told_uncancelled}
use Rattle.law_driver.specs.run_owners.Accepts.{Opens, Transfers, Cancels}
use Rattle.claims_driver.specs.Leaving.{HasOwners}
use Rattle.claims_driver.specs.Owners.{Element, QueueHead, IsPlaced, runs_of_endpoint, runs_of_transfer, note_in}
use Rattle.law_driver.proofs.lemmas.run_owners.Accepted.{fresh_differs}
use Rattle.law_driver.proofs.lemmas.run_owners.Chains.{notes_apart}
use Rattle.law_driver.proofs.lemmas.run_owners.Runs.{placed_run}
use Rattle.law_driver.proofs.lemmas.run_owners.Taking.{runs_taken}
use Rattle.law_driver.proofs.lemmas.run_owners.Transferred.{are_new, goes_on_alive}
use Rattle.law_driver.specs.chained_transfers.Asynchronous.{StandsAsynchronous, IsRequested, AcceptsAsynchronous}
use Rattle.law_driver.specs.chained_transfers.Accepted.{IsAsked}
use Rattle.claims_driver.specs.Scripts.{receives}
use Rattle.law_driver.specs.chained_transfers.Bulk.{sort_by, MovesAs}
use Rattle.law_driver.specs.chained_transfers.Chains.{piece_at}
use Rattle.law_driver.specs.chained_transfers.AsynchronousTurns.{AsynchronousTakesTurns}
use Rattle.law_driver.specs.chained_transfers.Turns.{IsAtPlace}
use Rattle.law_driver.proofs.lemmas.chained_transfers.Accepting.{asynchronous_command_is_accepted}
use Rattle.law_driver.proofs.lemmas.chained_transfers.BulkAndControl.{not_iso}
use Rattle.law_driver.proofs.lemmas.chained_transfers.Queued.{not_dummy}
use Rattle.law_driver.proofs.lemmas.chained_transfers.Ways.{sends_sort}
use Rattle.law_driver_ring.specs.fed_queues.Places.{IsThere}
use Rattle.law_queues.proofs.lemmas.fed_lends.Asked.{set_which, piece_placed}
use Rattle.law_world.specs.streams.put_laws.Held.{held_bytes}
use Rattle.law_world.specs.streams.put_laws.HeldPuts.{HoldsPuts, piece_of}
use Rattle.law_world.proofs.lemmas.streams.lemmas.put_laws.HeldAlike.{SameNote, note_is}
use Rattle.law_world.specs.streams.put_laws.TakenPuts.{puts_from, puts_of}
use Rattle.law_world.specs.streams.put_laws.Owed.{rest_from, rest_of, Owes}
use Rattle.law_world.specs.streams.put_laws.OwedLaws.{KeepsPuts, OpenOwes, AskedOwes, CommandOwes}
use Rattle.law_world.proofs.lemmas.streams.lemmas.put_laws.Bytes.{held_left, told_same, pieces_same}
use Rattle.law_world.proofs.lemmas.streams.lemmas.put_laws.Rests.{prefix_to, prefix_of, waits_on, one_rest, one_waits, one_none, rest_alike, rest_join, puts_kept, puts_push}
use Rattle.law_world.proofs.lemmas.streams.lemmas.put_laws.Same.{not_gone, kept, its_sort, its_bytes, idle_there, WereEnds, same_owes}

-- ---- an open

module _ (d : DriverContent) (m : Mem) (o : Offered) (puts now reported : ℕ → List ℕ) (k : Opens d m o) (turns : AsynchronousTakesTurns d) (others : (e : ℕ) (x : Endpoint) → slice_get d.endpoints e ≡ Some x → x.gone ≡ false → o.driver.command ≢ Some (unfinished.Open x.queue)) (keeps : KeepsPuts d puts now) (held : HoldsPuts d m puts) (still : HoldsPuts o.driver o.memory now) (owes : Owes d m puts reported) where
  abbrev new : Endpoint
  new = new_endpoint k.desc (get_or (new_runs d k.holding_after) 0 0) (get_or (new_runs d k.holding_after) 1 0)

  command_is : o.driver.command ≡ Some (unfinished.Open new.queue)
  command_is = ap (λ (p : Offered). p.driver.command) k.is

  transfers : o.driver.transfers ≡ d.transfers
  transfers = ap (λ (p : Offered). p.driver.transfers) k.is

  notes : o.driver.notes ≡ d.notes
  notes = ap (λ (p : Offered). p.driver.notes) k.is

  which : (e : ℕ) (x : Endpoint) → slice_get o.driver.endpoints e ≡ Some x → (slice_get d.endpoints e ≡ Some x) ⊎ ((e ≡ length d.endpoints) × (x ≡ new))
  which e x here = push_which d.endpoints new e x (ap (λ (p : Offered). slice_get p.driver.endpoints e) (sym k.is) ∙ here)

  had : (t : ℕ) (y : Transfer) → slice_get o.driver.transfers t ≡ Some y → slice_get d.transfers t ≡ Some y
  had t y there = ap (λ (ts : List Transfer). slice_get ts t) (sym transfers) ∙ there

  its_number : (t : ℕ) (y : Transfer) → slice_get d.transfers t ≡ Some y → y.endpoint < length d.endpoints
  its_number t y there = let moves : MovesAs d y = turns.asynchronous.moves t y there in slice_get_within d.endpoints y.endpoint moves.endpoint moves.here

  met_old : (e : ℕ) (x : Endpoint) → slice_get o.driver.endpoints e ≡ Some x → IsThere o.driver x → slice_get d.endpoints e ≡ Some x
  met_old e x here meets =
      ⊎_elim (λ (was : slice_get d.endpoints e ≡ Some x). was)
      (λ (is : (e ≡ length d.endpoints) × (x ≡ new)). absurd (meets.linked (command_is ∙ ap (λ (z : Endpoint). Some (unfinished.Open z.queue)) (sym is.1)))) (which e x here)

  rest_same : (e : ℕ) (x : Endpoint) → slice_get d.endpoints e ≡ Some x → x.gone ≡ false → receives x.desc.name.way ≡ false → rest_of o.driver o.memory e ≡ rest_of d m e
  rest_same e x here alive sends =
      ap (λ (ts : List Transfer). rest_from o.memory o.driver.notes e ts) transfers ∙ ap (λ (ns : List QtdNote). rest_from o.memory ns e d.transfers) notes
      ∙ rest_alike m o.memory d.notes d.notes e d.transfers
      (λ t y there waits.
      let own = waits_is e y waits in
      let released = kept d t y turns there (not_gone d e x y here alive own.0) own.1 in
      held_left o.memory d.notes y (now t) (turns.turns.places t y there released)
      (ap (λ (ns : List QtdNote). held_bytes o.memory ns y.first y.qtds) (sym notes)
      ∙ still.each t y (ap (λ (ts : List Transfer). slice_get ts t) transfers ∙ there) (its_sort d e t x y turns here sends there own.0) released)
      ∙ ap (piece_of d.notes y.first (y.qtds - y.left)) (keeps t (slice_get_within d.transfers t y there))
      ∙ sym (its_bytes d m puts e t x y turns held here alive sends there waits))

  puts_same : (e : ℕ) → concat (puts_of o.driver now e) ≡ concat (puts_of d puts e)
  puts_same e = ap (λ (ts : List Transfer). concat (puts_from now e 0 ts)) transfers ∙ ap concat (puts_kept puts now e d.transfers keeps)

  pub opened_owes : Owes o.driver o.memory now reported
  opened_owes = record {
    going = λ e x here meets sends goes.
        let was = met_old e x here meets in
        ap (λ (bs : List ℕ). reported (32 * x.queue) ++ bs) (rest_same e x was meets.kept sends) ∙ owes.going e x was (idle_there d k.idle x meets.kept) sends goes ∙ sym (puts_same e);
    over = λ e x cause here meets sends ends.
        let was = met_old e x here meets in
        prefix_to (reported (32 * x.queue)) (concat (puts_of d puts e)) (concat (puts_of o.driver now e)) (sym (puts_same e)) (owes.over e x cause was (idle_there d k.idle x meets.kept) sends ends);
    opening = λ e t x y here alive is there.
        ⊎_elim (λ (was : slice_get d.endpoints e ≡ Some x). absurd (others e x was alive is))
        (λ (own : (e ≡ length d.endpoints) × (x ≡ new)). λ same. let below = its_number t y (had t y there) in let at = own.0 in omega (arith, below, at, same)) (which e x here);
    last = λ t y x there here sends goes is released.
        ⊎_elim (λ (was : slice_get d.endpoints y.endpoint ≡ Some x). owes.last t y x (had t y there) was sends goes is released)
        (λ (own : (y.endpoint ≡ length d.endpoints) × (x ≡ new)). let below = its_number t y (had t y there) in let at = own.0 in absurd (omega (arith, below, at))) (which y.endpoint x here);
  }

pub open_owes : OpenOwes
open_owes d m o puts now reported k turns others keeps held still owes = opened_owes d m o puts now reported k turns others keeps held still owes

-- ---- a get, a put or a request

module _ (d : DriverContent) (m : Mem) (o : Offered) (puts now reported : ℕ → List ℕ) (k : Transfers d m o) (sorted : k.asked.sort ≡ sort_by k.endpoint.desc.name.way) (owners : HasOwners d) (stands : Stands (holding d.book m)) (turns : AsynchronousTakesTurns d) (keeps : KeepsPuts d puts now) (held : HoldsPuts d m puts) (still : HoldsPuts o.driver o.memory now) (owes : Owes d m puts reported) where
  abbrev why : Transfers d m o
  why = k

  abbrev to : Endpoint
  to = k.endpoint

  abbrev added : Transfer
  added = new_transfer k.number k.asked k.endpoint.dummy

  there_before : (x : Endpoint) → x.gone ≡ false → IsThere d x
  there_before x alive = idle_there d k.idle x alive

  transfers_are : o.driver.transfers ≡ d.transfers ++ added ∷ []
  transfers_are = ap (λ (f : Offered). f.driver.transfers) why.is

  -- the notes of older transfers stay
  notes_stay : (t i : ℕ) (y : Transfer) → slice_get d.transfers t ≡ Some y → y.released ≡ false → i < y.qtds → note_at o.driver.notes (piece_at (note_in d.notes) y.first i) ≡ note_at d.notes (piece_at (note_in d.notes) y.first i)
  notes_stay t i y there released below =
      let ss = why.asked.stages in
      let n = length ss in
      let c = piece_at (note_in d.notes) y.first i in
      let all = runs_taken (holding d.book m) why.holding_after (needs ss) stands why.runs in
      let bs = all.blocks in
      let runs_are : new_runs d why.holding_after ≡ bs = ap (drop (length d.book.taken)) all.are.taken ∙ drop_first d.book.taken bs in
      let alive = goes_on_alive to why.goes_on (owners.orderly.steady why.number to why.here) in
      let was = owners.owned.each.dummy why.number (runs_of_endpoint to) (ap (option_map runs_of_endpoint) why.here) (ap (λ k. k || to.gone) why.queued ∙ alive) in
      let are = are_new ss owners.owner to.dummy why.number (length d.transfers) why.some all.are was in
      let placed : IsPlaced (slot_of d.book.slots) owners.owner c (Element t) =
      piece_placed (slot_of d.book.slots) owners.owner (note_in d.notes) t y.first y.qtds (owners.owned.each.pieces t (runs_of_transfer y) (ap (option_map runs_of_transfer) there) released) i below in
      ap (λ (f : Offered). note_at f.driver.notes c) why.is
      ∙ ap (λ (rs : List ℕ). note_at (note_stages d.notes ss to.dummy (take n rs) (drop n rs)) c) runs_are
      ∙ notes_apart d.notes ss to.dummy (take n bs) (drop n bs) c (are.apart c (placed_run c (Element t) placed) (not_dummy to.dummy c why.number t was placed))

  same_note : (t i : ℕ) (y : Transfer) → slice_get d.transfers t ≡ Some y → y.released ≡ false → i < y.qtds
      → SameNote (note_at d.notes (piece_at (note_in d.notes) y.first i)) (note_at o.driver.notes (piece_at (note_in d.notes) y.first i))
  same_note t i y there released below = let c = piece_at (note_in d.notes) y.first i in note_is (note_at d.notes c) (note_at o.driver.notes c) (notes_stay t i y there released below)

  old_there : (t : ℕ) (y : Transfer) → slice_get d.transfers t ≡ Some y → slice_get o.driver.transfers t ≡ Some y
  old_there t y there = ap (λ (ts : List Transfer). slice_get ts t) transfers_are ∙ push_there d.transfers (added ∷ []) t y there

  -- .. and their places
  still_placed : (t : ℕ) (y : Transfer) → slice_get d.transfers t ≡ Some y → y.released ≡ false → IsAtPlace (note_in o.driver.notes) y
  still_placed t y there released =
      let at : IsAtPlace (note_in d.notes) y = turns.turns.places t y there released in
      let some = at.some in
      let most = at.most in
      record {
        some = at.some;
        most = at.most;
        place = at.place ∙ sym (pieces_same d.notes o.driver.notes y.first (y.qtds - y.left) (λ j below. same_note t j y there released (omega (arith, below, some, most))));
      }

  -- an endpoint was one with the same queue head, and is ended as before
  record WasEnd (e : ℕ) (x : Endpoint) : Type 0 where
    endpoint : Endpoint
    here : slice_get d.endpoints e ≡ Some endpoint
    queue : x.queue ≡ endpoint.queue
    desc : x.desc ≡ endpoint.desc
    gone : x.gone ≡ endpoint.gone
    ended : told_end x ≡ told_end endpoint
    own : e ≡ k.number → endpoint ≡ k.endpoint

  was : (e : ℕ) (x : Endpoint) → slice_get o.driver.endpoints e ≡ Some x → WasEnd e x
  was e x here =
      let at = ap (λ (f : Offered). slice_get f.driver.endpoints e) (sym why.is) ∙ here in
      ⊎_elim
      (λ (own : (e ≡ why.number) × (x ≡ _)). record {
        endpoint = to;
        here = ap (slice_get d.endpoints) own.0 ∙ why.here;
        queue = ap (λ (z : Endpoint). z.queue) own.1;
        desc = ap (λ (z : Endpoint). z.desc) own.1;
        gone = ap (λ (z : Endpoint). z.gone) own.1;
        ended = ap (λ (z : Endpoint). told_end z) own.1;
        own = λ same. refl;
      })
      (λ (other : (e ≢ why.number) × (slice_get d.endpoints e ≡ Some x)). record {
        endpoint = x;
        here = other.1;
        queue = refl;
        desc = refl;
        gone = refl;
        ended = refl;
        own = λ same. absurd (other.0 same);
      }) (set_which d.endpoints why.number e to _ x why.here at)

  which_one : (t : ℕ) (y : Transfer) → slice_get o.driver.transfers t ≡ Some y → (slice_get d.transfers t ≡ Some y) ⊎ ((t ≡ length d.transfers) × (y ≡ added))
  which_one t y here = push_which d.transfers added t y (sym (ap (λ (ts : List Transfer). slice_get ts t) transfers_are) ∙ here)

  -- what the older ones hold
  older : (e : ℕ) (x : Endpoint) → slice_get d.endpoints e ≡ Some x → x.gone ≡ false → receives x.desc.name.way ≡ false → rest_from o.memory o.driver.notes e d.transfers ≡ rest_of d m e
  older e x here still_there sends =
      rest_alike m o.memory d.notes o.driver.notes e d.transfers
      (λ t y there waits.
      let its = waits_is e y waits in
      let released = kept d t y turns there (not_gone d e x y here still_there its.0) its.1 in
      let i = y.qtds - y.left in
      let most = (turns.turns.places t y there released).most in
      let some = (turns.turns.places t y there released).some in
      held_left o.memory o.driver.notes y (now t) (still_placed t y there released)
      (still.each t y (old_there t y there) (its_sort d e t x y turns here sends there its.0) released)
      ∙ ap (λ (j : ℕ). drop j (now t)) (told_same d.notes o.driver.notes y.first i (λ j below. same_note t j y there released (omega (arith, below, some, most))))
      ∙ ap (piece_of d.notes y.first i) (keeps t (slice_get_within d.transfers t y there))
      ∙ sym (its_bytes d m puts e t x y turns held here still_there sends there waits))

  -- and the new one
  newest : (e : ℕ) (x : Endpoint) → slice_get d.endpoints e ≡ Some x → (e ≡ k.number → x ≡ k.endpoint) → receives x.desc.name.way ≡ false
      → one_rest o.memory o.driver.notes e added ≡ (if added.endpoint == e then now (length d.transfers) else [])
  newest e x here own sends = by (added.endpoint == e) refl
    where
      by : (b : Bool) → (added.endpoint == e) ≡ b → one_rest o.memory o.driver.notes e added ≡ (if b then now (length d.transfers) else [])
      by true is =
          let same : added.endpoint ≡ e = eqb-true added.endpoint e is in
          let way : k.endpoint.desc.name.way ≡ x.desc.name.way = ap (λ (z : Endpoint). z.desc.name.way) (sym (own (sym same))) in
          let put : added.sort ≡ sorts.Put = sorted ∙ ap sort_by way ∙ sends_sort x.desc.name.way sends in
          one_waits o.memory o.driver.notes e added (waits_on e added same refl)
          ∙ still.each (length d.transfers) added (ap (λ (ts : List Transfer). slice_get ts (length d.transfers)) transfers_are ∙ pushed_last d.transfers added) put refl
      by false is = one_none o.memory o.driver.notes e added (others_wait e added (λ same. false≢true (sym is ∙ eq-eqb added.endpoint e same)))

  rest_is : (e : ℕ) (x : Endpoint) → slice_get d.endpoints e ≡ Some x → x.gone ≡ false → (e ≡ k.number → x ≡ k.endpoint) → receives x.desc.name.way ≡ false
      → rest_of o.driver o.memory e ≡ rest_of d m e ++ (if added.endpoint == e then now (length d.transfers) else [])
  rest_is e x here alive own sends =
      ap (rest_from o.memory o.driver.notes e) transfers_are ∙ rest_join o.memory o.driver.notes e d.transfers (added ∷ [])
      ∙ ap (λ (bs : List ℕ). bs ++ (one_rest o.memory o.driver.notes e added ++ [])) (older e x here alive sends)
      ∙ ap (λ (bs : List ℕ). rest_of d m e ++ bs) (append-nil (one_rest o.memory o.driver.notes e added) ∙ newest e x here own sends)

  puts_are : (e : ℕ) → concat (puts_of o.driver now e) ≡ concat (puts_of d puts e) ++ (if added.endpoint == e then now (length d.transfers) else [])
  puts_are e =
      ap (λ (ts : List Transfer). concat (puts_from now e 0 ts)) transfers_are ∙ puts_push now e d.transfers added
      ∙ ap (λ (xs : List (List ℕ)). concat xs ++ (if added.endpoint == e then now (length d.transfers) else [])) (puts_kept puts now e d.transfers keeps)

  no_open : (q : ℕ) → o.driver.command ≡ Some (unfinished.Open q) → ⊥
  no_open q is = publish_open to.dummy q _ (sym (ap (λ (f : Offered). f.driver.command) why.is) ∙ is)

  pub taken_owes : Owes o.driver o.memory now reported
  taken_owes = record {
    going = λ e x here meets sends goes.
        let w = was e x here in
        let out = ap (λ (z : _). receives z.name.way) (sym w.desc) ∙ sends in
        let more = if added.endpoint == e then now (length d.transfers) else [] in
        ap (λ (q : ℕ). reported (32 * q) ++ rest_of o.driver o.memory e) w.queue ∙ ap (λ (bs : List ℕ). reported (32 * w.endpoint.queue) ++ bs) (rest_is e w.endpoint w.here (sym w.gone ∙ meets.kept) w.own out)
        ∙ sym (append_assoc (reported (32 * w.endpoint.queue)) (rest_of d m e) more)
        ∙ ap (λ (bs : List ℕ). bs ++ more) (owes.going e w.endpoint w.here (there_before w.endpoint (sym w.gone ∙ meets.kept)) out (sym w.ended ∙ goes)) ∙ sym (puts_are e);
    over = λ e x cause here meets sends ends.
        let w = was e x here in
        let out = ap (λ (z : _). receives z.name.way) (sym w.desc) ∙ sends in
        let more = if added.endpoint == e then now (length d.transfers) else [] in
        prefix_to (reported (32 * x.queue)) (concat (puts_of d puts e) ++ more) (concat (puts_of o.driver now e)) (sym (puts_are e))
        (last_one (reported (32 * x.queue)) (concat (puts_of d puts e)) more
        (prefix_of (reported (32 * x.queue)) (reported (32 * w.endpoint.queue)) (concat (puts_of d puts e)) (ap (λ (q : ℕ). reported (32 * q)) w.queue)
        (owes.over e w.endpoint cause w.here (there_before w.endpoint (sym w.gone ∙ meets.kept)) out (sym w.ended ∙ ends))));
    opening = λ e t x y here alive is there. absurd (no_open x.queue is);
    last = λ t y x there here sends goes is released.
        ⊎_elim
        (λ (old : slice_get d.transfers t ≡ Some y).
        let w = was y.endpoint x here in
        owes.last t y w.endpoint old w.here (ap (λ (z : _). receives z.name.way) (sym w.desc) ∙ sends) (sym w.ended ∙ goes) is released)
        (λ (own : (t ≡ length d.transfers) × (y ≡ added)). absurd (false≢true (ap (λ (r : Transfer). r.reported) (sym own.1) ∙ is))) (which_one t y there);
  }

pub asked_owes : AskedOwes
asked_owes d m o puts now reported k sorted owners stands turns keeps held still owes = taken_owes d m o puts now reported k sorted owners stands turns keeps held still owes

-- ---- what else may be accepted

-- the new queue head has blocks of its own
opens_apart : (d : DriverContent) (m : Mem) (o : Offered) → Opens d m o → HasOwners d → Stands (holding d.book m) → AsynchronousTakesTurns d → (e : ℕ) (x : Endpoint) → slice_get d.endpoints e ≡ Some x → x.gone ≡ false → o.driver.command ≢ Some (unfinished.Open x.queue)
opens_apart d m o why owners stands turns e x there still is =
    let standing = turns.asynchronous.endpoints e x there in
    let all = runs_taken (holding d.book m) why.holding_after (2 ∷ 1 ∷ []) stands why.runs in
    let bs = all.blocks in
    let two : length bs ≡ 2 = all.are.long in
    let runs : new_runs d why.holding_after ≡ bs = ap (drop (length d.book.taken)) all.are.taken ∙ drop_first d.book.taken bs in
    let alive : is_iso x.desc.kind || x.gone ≡ false = ap (λ (b : Bool). b || x.gone) (not_iso x.desc standing.asynchronous) ∙ still in
    fresh_differs 0 x.queue all.are (omega (arith, two))
    (placed_run x.queue (QueueHead e) (owners.owned.each.queue e (runs_of_endpoint x) (ap (option_map runs_of_endpoint) there) alive))
    (ap (λ (rs : List ℕ). get_or rs 0 0) (sym runs) ∙ same_queue (get_or (new_runs d why.holding_after) 0 0) x.queue (sym (ap (λ (p : Offered). p.driver.command) why.is) ∙ is))

-- ---- a cancel

-- its report doesn't have it yet
cancel_ends : (x : Endpoint) → StandsAsynchronous x → x.cancelled ≡ false → told_end (record x { cancelled = true; ended = first_end x.ended }) ≡ told_end x
cancel_ends x s fresh = by_end x.ended x.gone refl (alive x.gone refl) ∙ sym (told_uncancelled x fresh)
  where
    alive : (b : Bool) → x.gone ≡ b → b ≡ false
    alive false is = refl
    alive true is = absurd (false≢true (sym fresh ∙ s.unlinked (s.gone is)))

    by_end : (o : Option EndCause) (g : Bool) → x.ended ≡ o → g ≡ false → (if ended_by_cancel (first_end o) && true && not g then None else first_end o) ≡ o
    by_end None false is kept = refl
    by_end None true is kept = absurd (false≢true (sym kept))
    by_end (Some cause) g is kept =
        ap (λ (b : Bool). if b && true && not g then None else Some cause) (no_cancel (ended_by_cancel (Some cause)) refl)
      where
        no_cancel : (b : Bool) → ended_by_cancel (Some cause) ≡ b → b ≡ false
        no_cancel false at = refl
        no_cancel true at = absurd (false≢true (sym fresh ∙ s.cancel (ap ended_by_cancel is ∙ at)))

module _ (d : DriverContent) (m : Mem) (o : Offered) (puts now reported : ℕ → List ℕ) (i : Cancels d m o) (turns : AsynchronousTakesTurns d) (keeps : KeepsPuts d puts now) (held : HoldsPuts d m puts) (still : HoldsPuts o.driver o.memory now) (owes : Owes d m puts reported) where
  ends : WereEnds d o.driver
  ends e z here =
      ⊎_elim
      (λ (own : (e ≡ i.number) × (z ≡ record i.endpoint { cancelled = true; ended = first_end i.endpoint.ended })). record {
        endpoint = i.endpoint;
        here = ap (slice_get d.endpoints) own.0 ∙ i.here;
        queue = ap (λ (r : Endpoint). r.queue) own.1;
        desc = ap (λ (r : Endpoint). r.desc) own.1;
        gone = ap (λ (r : Endpoint). r.gone) own.1;
        ends = ap (λ (r : Endpoint). told_end r) own.1 ∙ cancel_ends i.endpoint (turns.asynchronous.endpoints i.number i.endpoint i.here) i.fresh;
      })
      (λ (other : (e ≢ i.number) × (slice_get d.endpoints e ≡ Some z)). record { endpoint = z; here = other.1; queue = refl; desc = refl; gone = refl; ends = refl })
      (set_which d.endpoints i.number e i.endpoint _ z i.here (ap (λ (f : Offered). slice_get f.driver.endpoints e) (sym i.is) ∙ here))

  pub cancel_owes : Owes o.driver o.memory now reported
  cancel_owes =
      same_owes d o.driver m o.memory puts now reported reported turns
      (record { ends = ends; transfers = ap (λ (f : Offered). f.driver.transfers) i.is; notes = ap (λ (f : Offered). f.driver.notes) i.is }) keeps held still (λ e x here meets before. refl)
      (λ e x here meets at_open. absurd (none_open x.queue (sym i.idle ∙ at_open))) (λ x is. absurd (unlink_open _ _ _ x.queue (sym (ap (λ (f : Offered). f.driver.command) i.is) ∙ is))) owes
    where
      unlink_open : (e b link q : ℕ) → ◌≡◌ {A = Option Command} (Some (unfinished.Unlink e b link)) (Some (unfinished.Open q)) → ⊥
      unlink_open e b link q is = cc

-- ---- any command

module _ (d : DriverContent) (m : Mem) (o : Offered) (puts now reported : ℕ → List ℕ) (owners : HasOwners d) (stands : Stands (holding d.book m)) (turns : AsynchronousTakesTurns d) (keeps : KeepsPuts d puts now) (held : HoldsPuts d m puts) (still : HoldsPuts o.driver o.memory now) (owes : Owes d m puts reported) where
  moved : IsAsked d m o → Owes o.driver o.memory now reported
  moved k = asked_owes d m o puts now reported k.transfers (ap (λ (a : Asked). a.sort) k.asked) owners stands turns keeps held still owes

  requested : IsRequested d m o → Owes o.driver o.memory now reported
  requested k = asked_owes d m o puts now reported k.transfers (ap (λ (a : Asked). a.sort) k.asked ∙ ap sort_by (sym k.way)) owners stands turns keeps held still owes

  pub accepted_owes : (cmd : Cmd) → AcceptsAsynchronous d m o cmd → Owes o.driver o.memory now reported
  accepted_owes (commands.OpenEp x) k = open_owes d m o puts now reported k.opens turns (opens_apart d m o k.opens owners stands turns) keeps held still owes
  accepted_owes (commands.Get name len by) k = moved k
  accepted_owes (commands.Put name bytes by) k = moved k
  accepted_owes (commands.Control name setup bytes) k = requested k
  accepted_owes (commands.Cancel name) k = cancel_owes d m o puts now reported k turns keeps held still owes
  accepted_owes _ k = absurd k

pub command_owes : CommandOwes
command_owes d m cmd o puts now reported only offer owners stands turns keeps held still owes =
    accepted_owes d m o puts now reported owners stands turns keeps held still owes cmd (asynchronous_command_is_accepted d m cmd o turns.asynchronous only offer)
