-- An endpoint that has left the ring is given back.
use Rattle.std.proofs.Common.{◌≡◌, ◌≢◌, ℕ, ◌*◌, ◌<◌, Bool, true, false, List, ◌++◌, map, slice_get, Option, Some, None, ap, sym, subst, ◌∙◌, ⊎_elim}
use Rattle.std.specs.List.{concat}
use Rattle.law_queues.proofs.Common.{none_published}
use Rattle.law_driver.proofs.Common.{waits_is}
use Rattle.claims_base.specs.Prefix.{IsPrefix}
use Rattle.word_mem.specs.Memory.{Mem}
use Rattle.mem_runs.specs.Book.{holding, Stands}
use Rattle.async_walk.specs.Walk.{Walk}
use Rattle.async_walk.specs.Rows.{place}
use Rattle.drv_table.specs.declared.content.Endpoint.{Endpoint}
use Rattle.drv_table.specs.declared.content.QtdNote.{QtdNote}
use Rattle.drv_table.specs.declared.content.Sort.TheVariants as sorts
use Rattle.drv_table.specs.declared.content.Transfer.{Transfer}
use Rattle.drv_table.specs.DriverContent.{DriverContent}
use Rattle.drv_table.specs.Harvests.{note_at}
use Rattle.drv_table.specs.Parts.{Parts as DriverParts}
use Rattle.drv_table.specs.Releases.{is_told, let_go}
use Rattle.drv_table.specs.Rows.{after_driver_row}
use Rattle.claims_driver.specs.Owners.{note_in, views_of}
use Rattle.claims_driver.specs.Leaving.{HasOwners}
use Rattle.claims_driver.specs.Scripts.{receives}
use Rattle.law_driver.specs.chained_transfers.Bulk.{MovesAs}
use Rattle.law_driver.specs.chained_transfers.Chains.{piece_at}
use Rattle.law_driver.specs.chained_transfers.AsynchronousTurns.{AsynchronousTakesTurns}
use Rattle.law_driver.proofs.lemmas.chained_transfers.Holding.{held_alive}
use Rattle.law_structures.specs.lent_structures.Structures.{Structures, StructureSets}
use Rattle.law_structures.specs.lent_structures.Sound.{buffer_name}
use Rattle.law_ring.specs.Hand.{Hand}
use Rattle.claims_base.specs.Controller.{Base}
use Rattle.law_ring.specs.OutBus.{Taker}
use Rattle.law_driver_ring.specs.Driven.{DrivesRing}
use Rattle.law_driver_ring.specs.Extents.{AreInRuns}
use Rattle.law_queues.specs.whole_sends.Whole.{AreSentWhole}
use Rattle.law_queues.specs.whole_sends.Laws.{IsStopped}
use Rattle.law_driver_ring.specs.fed_queues.Fed.{is_request, AreFed}
use Rattle.law_world.specs.steps.endpoint_releases.Released.{without_queue, IsToLeave, endpoint_row}
use Rattle.law_world.proofs.lemmas.steps.lemmas.endpoint_releases.Owning.{queue_beside}
use Rattle.law_world.proofs.lemmas.steps.lemmas.endpoint_releases.Releasing.{endpoint_release_drives}
use Rattle.law_world.specs.streams.put_laws.Held.{held_bytes}
use Rattle.law_world.specs.streams.put_laws.HeldPuts.{HoldsPuts}
use Rattle.law_world.proofs.lemmas.streams.lemmas.put_laws.HeldAlike.{note_is, SameBytes, was_itself, puts_stay}
use Rattle.law_world.proofs.lemmas.streams.lemmas.put_laws.Stored.{IsStored, pieces_stored, buffer_stays, either_way}
use Rattle.law_world.specs.streams.put_laws.TakenPuts.{puts_from, puts_of}
use Rattle.law_world.specs.streams.put_laws.Owed.{rest_from, rest_of, Owes}
use Rattle.law_world.proofs.lemmas.streams.lemmas.put_laws.Bytes.{held_left}
use Rattle.law_world.proofs.lemmas.streams.lemmas.put_laws.Rests.{prefix_to, rest_alike}
use Rattle.law_world.proofs.lemmas.streams.lemmas.put_laws.Same.{not_gone, kept, its_sort, its_bytes, idle_life}
use Rattle.law_world.specs.streams.left_puts.Released.{EndpointReleaseHoldsPuts, EndpointReleaseOwes, EndpointReleaseSends, EndpointReleaseStops, EndpointReleaseKeepsTaken}
use Rattle.law_world.proofs.lemmas.streams.lemmas.left_puts.Others.{puts_let_go, rest_let_go, command_same, notes_same, transfers_are, which_end, other_end, held_back, owner_back, other_on, there_before, met_before, queues_apart}

-- ---- the buffers of puts

module _ (base : Base) (member : ℕ → Bool) (parts : StructureSets) (hand : Hand) (w : Walk) (p : DriverParts) (e : ℕ) (x : Endpoint) (drives : DrivesRing base member parts hand (place w p.registers p.memory) p.driver) (owners : HasOwners p.driver) (stands : Stands (holding p.driver.book p.memory)) (lies : AreInRuns (views_of p.driver) parts) (turns : AsynchronousTakesTurns p.driver) (fed : AreFed p.driver parts) (idle : p.driver.command ≡ None) (leave : IsToLeave p.driver e x) (off : member (32 * x.queue) ≡ false) where
  after : DrivesRing base member (without_queue parts (32 * x.queue)) hand (place w (after_driver_row (endpoint_row e) p).registers (after_driver_row (endpoint_row e) p).memory) (after_driver_row (endpoint_row e) p).driver
  after = (endpoint_release_drives base member parts hand w p e x drives owners stands lies leave off).0

  bytes_stay : (u i : ℕ) (z : Transfer) → slice_get p.driver.transfers u ≡ Some z → z.sort ≡ sorts.Put → z.released ≡ false → z.endpoint ≢ e → i < z.qtds
      → SameBytes p.memory (after_driver_row (endpoint_row e) p).memory (note_at p.driver.notes (piece_at (note_in p.driver.notes) z.first i))
  bytes_stay u i z there put held differs below =
      let moves : MovesAs p.driver z = turns.asynchronous.moves u z there in
      let y : Endpoint = moves.endpoint in
      let n = 32 * y.queue in
      let note = note_at p.driver.notes (piece_at (note_in p.driver.notes) z.first i) in
      let apart : n ≢ 32 * x.queue = queues_apart p e x leave owners turns z.endpoint y differs moves.here (held_alive p.driver u z y turns.turns there held moves.here) in
      either_way p.memory (after_driver_row (endpoint_row e) p).memory note
      (λ some.
      let s : IsStored (parts n) note = pieces_stored p.driver parts u i z y (ap is_request put) fed there held moves.here (λ newest b words publish. absurd (none_published b words (sym idle ∙ publish))) below some in
      buffer_stays p.memory (after_driver_row (endpoint_row e) p).memory parts (without_queue parts (32 * x.queue)) n note drives.ring.tells after.ring.tells s
      (ap (λ (part : Structures). part (buffer_name s.qtd)) (queue_beside parts (32 * x.queue) n apart) ∙ s.here))

  pub holds : (puts : ℕ → List ℕ) → HoldsPuts p.driver p.memory puts → HoldsPuts (after_driver_row (endpoint_row e) p).driver (after_driver_row (endpoint_row e) p).memory puts
  holds puts k =
      puts_stay p.driver (after_driver_row (endpoint_row e) p).driver p.memory (after_driver_row (endpoint_row e) p).memory puts
      (λ u z here put still.
      let was = held_back p e x leave u z here still in
      record {
        was = was_itself p.driver.transfers u z was.1;
        notes = λ i below.
            let c = piece_at (note_in p.driver.notes) z.first i in
            note_is (note_at p.driver.notes c) (note_at (after_driver_row (endpoint_row e) p).driver.notes c) (ap (λ (ns : List QtdNote). note_at ns c) (notes_same p e x leave));
        bytes = λ i below. bytes_stay u i z was.1 put still was.0 below;
      }) k

pub endpoint_release_holds_puts : EndpointReleaseHoldsPuts
endpoint_release_holds_puts base member parts hand w p e x puts drives owners stands lies turns fed idle leave off k = holds base member parts hand w p e x drives owners stands lies turns fed idle leave off puts k

-- ---- what is owed

module _ (p : DriverParts) (e : ℕ) (x : Endpoint) (puts reported told : ℕ → List ℕ) (turns : AsynchronousTakesTurns p.driver) (leave : IsToLeave p.driver e x) (tells : (i : ℕ) (z : Endpoint) → i ≢ e → slice_get p.driver.endpoints i ≡ Some z → z.gone ≡ false → receives z.desc.name.way ≡ false → told (32 * z.queue) ≡ reported (32 * z.queue)) (held : HoldsPuts p.driver p.memory puts) (still : HoldsPuts (after_driver_row (endpoint_row e) p).driver (after_driver_row (endpoint_row e) p).memory puts) (owes : Owes p.driver p.memory puts reported) where
  abbrev d : DriverContent
  d = p.driver

  abbrev f : DriverContent
  f = (after_driver_row (endpoint_row e) p).driver

  abbrev later : Mem
  later = (after_driver_row (endpoint_row e) p).memory

  rest_stays : (i : ℕ) (z : Endpoint) → i ≢ e → slice_get p.driver.endpoints i ≡ Some z → z.gone ≡ false → receives z.desc.name.way ≡ false
      → rest_of (after_driver_row (endpoint_row e) p).driver (after_driver_row (endpoint_row e) p).memory i ≡ rest_of p.driver p.memory i
  rest_stays i z differs at alive sends =
      ap (λ (ts : List Transfer). rest_from later f.notes i ts) (transfers_are p e x leave) ∙ ap (λ (ns : List QtdNote). rest_from later ns i (map (let_go e (is_told x)) d.transfers)) (notes_same p e x leave)
      ∙ rest_let_go later d.notes i e (is_told x) d.transfers differs
      ∙ rest_alike p.memory later d.notes d.notes i d.transfers
      (λ u y there waits.
      let own = waits_is i y waits in
      let released = kept d u y turns there (not_gone d i z y at alive own.0) own.1 in
      let on : slice_get f.transfers u ≡ Some y = other_on p e x leave u y there (λ same. differs (sym own.0 ∙ same)) in
      held_left later d.notes y (puts u) (turns.turns.places u y there released)
      (ap (λ (ns : List QtdNote). held_bytes later ns y.first y.qtds) (sym (notes_same p e x leave)) ∙ still.each u y on (its_sort d i u z y turns at sends there own.0) released)
      ∙ sym (its_bytes d p.memory puts i u z y turns held at alive sends there waits))

  puts_same : (i : ℕ) → concat (puts_of (after_driver_row (endpoint_row e) p).driver puts i) ≡ concat (puts_of p.driver puts i)
  puts_same i = ap (λ (ts : List Transfer). concat (puts_from puts i 0 ts)) (transfers_are p e x leave) ∙ ap concat (puts_let_go puts i e 0 (is_told x) d.transfers)

  pub owes_still : Owes (after_driver_row (endpoint_row e) p).driver (after_driver_row (endpoint_row e) p).memory puts told
  owes_still = record {
    going = λ i z here is sends goes.
        let was = other_end p e x leave i z here is.kept in
        ap (λ (bs : List ℕ). bs ++ rest_of f later i) (tells i z was.0 was.1 is.kept sends) ∙ ap (λ (bs : List ℕ). reported (32 * z.queue) ++ bs) (rest_stays i z was.0 was.1 is.kept sends)
        ∙ owes.going i z was.1 (there_before p e x leave z is) sends goes ∙ sym (puts_same i);
    over = λ i z cause here is sends ends.
        let was = other_end p e x leave i z here is.kept in
        subst (λ (bs : List ℕ). IsPrefix bs (concat (puts_of f puts i))) (sym (tells i z was.0 was.1 is.kept sends))
        (prefix_to (reported (32 * z.queue)) (concat (puts_of d puts i)) (concat (puts_of f puts i)) (sym (puts_same i)) (owes.over i z cause was.1 (there_before p e x leave z is) sends ends));
    opening = λ i t z y here alive is there.
        let was = other_end p e x leave i z here alive in
        let had = owner_back p e x leave t y there in
        λ same. owes.opening i t z had.transfer was.1 alive (sym (command_same p e x leave) ∙ is) had.there (sym had.owner ∙ same);
    last = λ t y z there here sends goes is stays.
        let back = held_back p e x leave t y there stays in
        let was : slice_get d.endpoints y.endpoint ≡ Some z = ⊎_elim (λ (own : (y.endpoint ≡ e) × (z ≡ record x { gone = true })). absurd (back.0 own.0))
        (λ (other : (y.endpoint ≢ e) × (slice_get d.endpoints y.endpoint ≡ Some z)). other.1) (which_end p e x leave y.endpoint z here) in
        owes.last t y z back.1 was sends goes is stays;
  }

pub endpoint_release_owes : EndpointReleaseOwes
endpoint_release_owes p e x puts reported told turns leave tells held still owes = owes_still p e x puts reported told turns leave tells held still owes

-- ---- the queue heads of the others

pub endpoint_release_sends : EndpointReleaseSends
endpoint_release_sends p e x hand parts order out owners turns leave k i z here met sends =
    let was = other_end p e x leave i z here met.there.kept in
    let n = 32 * z.queue in
    let apart : n ≢ 32 * x.queue = queues_apart p e x leave owners turns i z was.0 was.1 met.there.kept in
    subst (λ (part : Structures). AreSentWhole (order n) (out n) hand n part) (sym (queue_beside parts (32 * x.queue) n apart)) (k i z was.1 (met_before p e x leave i z met) sends)

pub endpoint_release_stops : EndpointReleaseStops
endpoint_release_stops p e x parts owners turns leave ended i z cause here alive sends over =
    let was = other_end p e x leave i z here alive in
    let n = 32 * z.queue in
    let apart : n ≢ 32 * x.queue = queues_apart p e x leave owners turns i z was.0 was.1 alive in
    let s : IsStopped parts n = ended i z cause was.1 alive sends over in
    (s.0, ap (λ (part : Structures). part n) (queue_beside parts (32 * x.queue) n apart) ∙ s.1, s.2, s.3)

-- ---- what was taken

pub a_release_keeps_what_was_taken : {W : Type 0} (taker : W → ℕ → ℕ → Option Taker) → EndpointReleaseKeepsTaken taker
a_release_keeps_what_was_taken taker p e x puts wire idle leave k i z s here life sends is =
    let f = (after_driver_row (endpoint_row e) p).driver in
    let same : concat (puts_of p.driver puts i) ≡ concat (puts_of f puts i) =
    sym (ap (λ (ts : List Transfer). concat (puts_from puts i 0 ts)) (transfers_are p e x leave) ∙ ap concat (puts_let_go puts i e 0 (is_told x) p.driver.transfers)) in
    prefix_to s.taken (concat (puts_of p.driver puts i)) (concat (puts_of f puts i)) same
    (⊎_elim
    (λ (own : (i ≡ e) × (z ≡ record x { gone = true })).
    k i x s (ap (slice_get p.driver.endpoints) own.0 ∙ leave.here) (idle_life p.driver idle x) (ap (λ (r : Endpoint). receives r.desc.name.way) (sym own.1) ∙ sends)
    (ap (λ (r : Endpoint). taker wire r.desc.name.addr r.desc.name.num) (sym own.1) ∙ is))
    (λ (other : (i ≢ e) × (slice_get p.driver.endpoints i ≡ Some z)). k i z s other.1 (idle_life p.driver idle z) sends is)
    (which_end p e x leave i z here))
