-- A store of a driver that publishes its newest transfer.
use Rattle.std.proofs.Common.{◌≡◌, ◌≢◌, ℕ, suc, ◌-◌, ◌*◌, ◌<◌, ◌≤◌, ◌⊎◌, Bool, true, false, if◌then◌else◌, List, ◌∷◌, ◌++◌, slice_get, Option, Some, None, option_map, ap, refl, sym, subst, ◌∙◌, ⊎_elim, inl, inr, arith}
use Rattle.std.proofs.lemmas.Bool.{cases_eq, cases_lt, lt-ltb, false≢true}
use Rattle.std.proofs.lemmas.Option.{same_Some}
use Rattle.law_driver_ring.proofs.Common.{partly_idle as idle}
use Rattle.law_common.proofs.Numbers.{same_blocks}
use Rattle.usb_base.specs.declared.packets.Way.{Way}
use Rattle.usb_base.specs.declared.packets.Way.TheVariants as ways
use Rattle.mem_runs.specs.Book.{slot_of}
use Rattle.drv_table.specs.declared.content.Endpoint.{Endpoint}
use Rattle.drv_table.specs.declared.content.Transfer.{Transfer}
use Rattle.drv_table.specs.declared.content.Command.{Command}
use Rattle.drv_table.specs.declared.content.Command.TheVariants as unfinished
use Rattle.drv_table.specs.DriverContent.{DriverContent}
use Rattle.drv_table.specs.Parts.{Parts as DriverParts}
use Rattle.async_walk.specs.Rows.{place}
use Rattle.async_walk.specs.Walk.{Walk}
use Rattle.law_ring.specs.Pipes.{ArePiped}
use Rattle.claims_driver.specs.Owners.{Dummy, Element as PieceOf, NoteRuns, IsPlaced, runs_of_transfer, note_in}
use Rattle.law_structures.specs.lent_structures.Structures.{Element, StructureSets}
use Rattle.law_ring.specs.QueueParts.{IsQueuePart}
use Rattle.law_ring.specs.Hand.{Hand}
use Rattle.claims_base.specs.Controller.{Base}
use Rattle.law_ring.specs.Told.{Endpoint as Told}
use Rattle.law_ring.specs.Order.{IsFresh, IsSorted}
use Rattle.law_ring.specs.Bus.{Sender}
use Rattle.law_controller.specs.controlled_streams.Reported.{IsReported, AreReported}
use Rattle.law_driver_ring.specs.Inventory.{IsLent}
use Rattle.law_driver_ring.specs.Driven.{DrivesRing}
use Rattle.law_driver_ring.specs.Published.{partly}
use Rattle.law_queues.specs.publish_laws.Publishing.{IsBeingPublished}
use Rattle.law_queues.proofs.lemmas.publish_laws.Rows.{counted, after_is, store_is_made}
use Rattle.law_controller.specs.controlled_streams.Storing.{LeadsLater, IsStore, with_out, stored_parts}
use Rattle.law_controller.proofs.lemmas.controlled_streams.Storing.{element_found}
use Rattle.law_controller.proofs.lemmas.controlled_streams.Streams.{idle_store_leaves_reports, last_store_leaves_reports, store_pipes, out_here, out_beside}
use Rattle.claims_driver.specs.Scripts.{comes_in}
use Rattle.law_driver.specs.chained_transfers.Bulk.{pid_by}
use Rattle.law_driver.specs.chained_transfers.Asynchronous.{StandsAsynchronous}
use Rattle.law_driver.specs.chained_transfers.Chains.{piece_at}
use Rattle.law_driver.specs.chained_transfers.Out.{out_of, out_now}
use Rattle.law_driver_ring.specs.fed_queues.Fed.{IsPublished}
use Rattle.law_driver_ring.specs.fed_queues.Places.{IsMet, IsLast, AreLast, AreStillOut, IsThere}
use Rattle.law_queues.specs.publish_laws.Stores.{IsAtStore, published_by, parts_then, out_then, QueuesThen, next_of, StorePublishes, StorePipes, StoreReports, StoreStands}
use Rattle.law_queues.proofs.lemmas.publish_laws.Outs.{IsNewest, IsSplit, split_out, other_out, same_out}
use Rattle.law_queues.proofs.lemmas.publish_laws.Apart.{dummy_placed, queue_placed, piece_placed, dummy_apart, pieces_apart, queues_same, all_lent}
use Rattle.law_queues.proofs.lemmas.publish_laws.Linked.{partly_later, sorted_after, end_is, piece_later, leads_later}
use Rattle.law_queues.proofs.lemmas.publish_laws.Feeding.{IsHere, more, done, fed_more, fed_done}
use Rattle.law_driver_ring.proofs.lemmas.fed_queues.Places.{SameQueues, same_ends, stands_met, met_stays, streams_stay}
use Rattle.law_driver.proofs.lemmas.chained_transfers.Staying.{stands_alive}

-- an IN where the queue head has a stream, else none
asks_by : (on : Bool) (pid : ℕ) (way : Way) → on ≡ comes_in way → pid ≡ pid_by way → ((on ≡ true) × (pid ≡ 1)) ⊎ ((on ≡ false) × (pid ≢ 1))
asks_by on pid ways.In streamed is = inl (streamed, is)
asks_by on pid ways.Out streamed is = inr (streamed, λ same. let none : pid ≡ 0 = is in omega (arith, none, same))
asks_by on pid ways.Ctl streamed is = inr (streamed, λ same. let setup : pid ≡ 2 = is in omega (arith, setup, same))

module _ (p : DriverParts) (member streams : ℕ → Bool) (ends : ℕ → Told) (parts : StructureSets) (order : ℕ → ℕ → ℕ) (out : ℕ → List ℕ) (b : ℕ) (words : List ℕ) (k : IsAtStore p.driver p.memory member streams ends parts order out b words) where
  abbrev d : DriverContent
  d = p.driver

  abbrev g : IsPublished d parts b words
  g = published_by k

  abbrev y : Transfer
  y = g.transfer

  abbrev n : ℕ
  n = 32 * g.endpoint.queue

  abbrev i : ℕ
  i = d.made - 1

  abbrev q : ℕ
  q = y.qtds - 1

  abbrev note : ℕ → NoteRuns
  note = note_in d.notes

  pub made_is : d.made ≡ suc i
  made_is = let some = k.made in omega (arith, some)

  pub below : i < 8
  below = let few = g.few in omega (arith, few)

  abbrev now : StructureSets
  now = stored_parts parts n (32 * b) (partly g.qtd (suc i))

  -- the structures are told by the number of stores
  parts_are : (P : StructureSets → Type 0) → P now → P (parts_then g)
  parts_are P is = subst (λ (j : ℕ). P (stored_parts parts n (32 * b) (partly g.qtd j))) (sym made_is) is

  -- ---- its qTDs

  some : 1 ≤ y.qtds
  some = k.turns.chained.some g.number (runs_of_transfer y) (ap (option_map runs_of_transfer) g.there) g.fresh.1

  qtds_are : suc q ≡ y.qtds
  qtds_are = let least = some in omega (arith, least)

  is_newest : IsNewest y.endpoint b (suc q) y
  is_newest = record { owner = refl; held = g.fresh.1; waits = g.fresh.0; place = g.place.1; left = g.place.2 ∙ sym qtds_are }

  pub split : IsSplit note y.endpoint b q b words d.transfers
  split = split_out note y.endpoint b q b words d.transfers g.number y g.newest g.there is_newest

  pub sorted : IsSorted (order n) (split.before ++ (32 * b) ∷ split.after)
  sorted = subst (IsSorted (order n)) split.all (k.last.sorted b words g.number y g.endpoint k.command k.made g.newest g.there g.place.0 g.here)

  element : IsPlaced (slot_of d.book.slots) k.sound.owners.owner b (PieceOf g.number)
  element = subst (λ (c : ℕ). IsPlaced (slot_of d.book.slots) k.sound.owners.owner c (PieceOf g.number)) g.place.0 (piece_placed d k.sound.owners g.number 0 y g.there g.fresh.1 some)

  dummy_is : (e : ℕ) (x : Endpoint) → slice_get d.endpoints e ≡ Some x → x.gone ≡ false → IsPlaced (slot_of d.book.slots) k.sound.owners.owner x.dummy (Dummy e)
  dummy_is e x here kept = dummy_placed d k.sound.owners e x here (k.turns.asynchronous.endpoints e x here) kept

  dummies_apart : (e : ℕ) (x : Endpoint) → slice_get d.endpoints e ≡ Some x → x.gone ≡ false → x.dummy ≢ b
  dummies_apart e x here kept = dummy_apart x.dummy b e g.number (dummy_is e x here kept) element

  never_later : (c : ℕ) → order n (32 * b) < order n (32 * c) → c ≢ b
  never_later c later same = let e = ap (λ (x : ℕ). order n (32 * x)) same in omega (arith, later, e)

  own_apart : (j : ℕ) → 1 ≤ j → j < suc q → piece_at note b j ≢ b
  own_apart j first low = never_later (piece_at note b j) (sorted_after (order n) (32 * b) split.before split.after sorted (32 * piece_at note b j) (split.others j first low))

  others_apart : (t j : ℕ) (z : Transfer) → slice_get d.transfers t ≡ Some z → z.released ≡ false → j < z.qtds → (t ≡ g.number → 1 ≤ j) → piece_at note z.first j ≢ b
  others_apart t j z there held low first =
      ⊎_elim (λ (same : t ≡ g.number).
      let is : z ≡ y = same_Some z y (sym there ∙ ap (slice_get d.transfers) same ∙ g.there) in
      subst (λ (c : ℕ). piece_at note c j ≢ b) (sym (ap (λ (w : Transfer). w.first) is ∙ g.place.0)) (own_apart j (first same) (let e = ap (λ (w : Transfer). w.qtds) is in let all = qtds_are in omega (arith, low, e, all))))
      (λ (differs : t ≢ g.number). pieces_apart (piece_at note z.first j) b t g.number differs (piece_placed d k.sound.owners t j z there held low) element) (cases_eq t g.number)

  pub here : IsHere d parts b words g i
  here = record { command = k.command; made = made_is; below = below; at = g.stored; dummies = dummies_apart; pieces = others_apart }

  -- its endpoint goes on, so the walk meets it
  standing : StandsAsynchronous g.endpoint
  standing = k.turns.asynchronous.endpoints y.endpoint g.endpoint g.here

  its_alive : g.endpoint.gone ≡ false
  its_alive = stands_alive g.endpoint standing g.going

  -- ---- its links

  lent_dummy : IsLent (slot_of d.book.slots g.endpoint.dummy)
  lent_dummy = all_lent d b words i g.endpoint.dummy k.command made_is below k.lent (dummy_is y.endpoint g.endpoint g.here its_alive).run

  before_dummy : order n (32 * b) < order n (32 * g.endpoint.dummy)
  before_dummy =
      k.last.dummies y.endpoint g.endpoint g.here its_alive lent_dummy (32 * b) (partly g.qtd i) g.stored
      (λ same. dummies_apart y.endpoint g.endpoint g.here its_alive (sym (same_blocks b g.endpoint.dummy same)))

  ends_at : piece_at note b (suc q) ≡ g.endpoint.dummy
  ends_at =
      ap (λ (j : ℕ). piece_at note b j) qtds_are ∙ ap (λ (c : ℕ). piece_at note c y.qtds) (sym g.place.0) ∙ end_is d g.number y g.endpoint k.turns.chained g.newest g.there g.fresh.1 g.here

  later_at : (j : ℕ) → 1 ≤ j → j ≤ suc q → order n (32 * b) < order n (32 * piece_at note b j)
  later_at j first most = piece_later (order n) note y.endpoint b q b words d.transfers split g.endpoint.dummy j sorted before_dummy ends_at first most

  pub links : LeadsLater (order n) (32 * b) g.qtd
  links =
      leads_later (order n) (32 * b) (note b).next (piece_at note b y.qtds) y.sort g.qtd g.noted.next g.noted.alternate (later_at 1 (omega arith) (omega arith))
      (subst (λ (j : ℕ). order n (32 * b) < order n (32 * piece_at note b j)) qtds_are (later_at (suc q) (omega arith) (omega arith)))

  -- ---- whom the walk meets

  publish_not_open : (c : ℕ) → ◌≡◌ {A = Option Command} (Some (unfinished.Publish b words)) (Some (unfinished.Open c)) → ⊥
  publish_not_open c same = cc

  none_not_open : (c : ℕ) → ◌≡◌ {A = Option Command} None (Some (unfinished.Open c)) → ⊥
  none_not_open c same = cc

  never_opens : (c : ℕ) → d.command ≡ Some (unfinished.Open c) → ⊥
  never_opens c same = publish_not_open c (sym k.command ∙ same)

  met_now : IsMet d y.endpoint g.endpoint
  met_now = stands_met d y.endpoint g.endpoint standing g.going (never_opens g.endpoint.queue)

  there_now : (x : Endpoint) → x.gone ≡ false → IsThere d x
  there_now x kept = record { linked = never_opens x.queue; kept = kept }

  queues_more : SameQueues d (more d parts b words g i here k.fed)
  queues_more =
      same_ends d (more d parts b words g i here k.fed) (record { waiting = refl; rung = refl; opens = λ c is. is }) (record { waiting = refl; rung = refl; opens = λ c is. is }) refl

  queues_done : SameQueues d (done d parts b words g i here k.fed)
  queues_done =
      same_ends d (done d parts b words g i here k.fed) (record { waiting = refl; rung = refl; opens = λ c is. absurd (none_not_open c is) })
      (record { waiting = refl; rung = refl; opens = λ c is. absurd (never_opens c is) }) refl

  streamed : streams n ≡ comes_in g.endpoint.desc.name.way
  streamed = (k.streams_are.each y.endpoint g.endpoint g.here met_now).0

  -- ---- the order

  is_last : (m a : ℕ) → IsLast (order m) (parts m) a → IsLast (order m) (now m) a
  is_last m a last c u there differs =
      ⊎_elim (λ (put_there : (m ≡ n) × (c ≡ 32 * b) × (u ≡ partly g.qtd (suc i))).
      last c (partly g.qtd i) (ap (λ (l : ℕ). parts l c) put_there.0 ∙ ap (parts n) put_there.1 ∙ g.stored) differs)
      (λ (was : parts m c ≡ Some (Element u)). last c u was differs) (element_found parts n (32 * b) (partly g.qtd i) (partly g.qtd (suc i)) g.stored m c u there)

  none_made : suc (suc i) ≡ 0 → ⊥
  none_made same = omega (arith, same)

  last_more : AreLast (more d parts b words g i here k.fed) now order
  last_more = record {
    dummies = λ e x there kept lent. is_last (32 * x.queue) (32 * x.dummy) (k.last.dummies e x there kept lent);
    taken = λ c ws t z x command made newest there first own. absurd (none_made made);
    sorted = λ c ws t z x command made newest there first own. k.last.sorted c ws t z x command k.made newest there first own;
  }

  no_command : {c : ℕ} {ws : List ℕ} → ◌≡◌ {A = Option Command} None (Some (unfinished.Publish c ws)) → ⊥
  no_command command = cc

  last_done : AreLast (done d parts b words g i here k.fed) now order
  last_done = record {
    dummies = λ e x there kept lent. is_last (32 * x.queue) (32 * x.dummy) (k.last.dummies e x there kept lent);
    taken = λ c ws t z x command made newest there first own. absurd (no_command command);
    sorted = λ c ws t z x command made newest there first own. absurd (no_command command);
  }

  -- ---- what is out

  out_is : (e : ℕ) → out_now d e ≡ out_of note e (Some (unfinished.Publish b words)) (suc i) d.transfers
  out_is e = ap (λ (o : Option Command). out_of note e o d.made d.transfers) k.command ∙ ap (λ (j : ℕ). out_of note e (Some (unfinished.Publish b words)) j d.transfers) made_is

  out_more : (e : ℕ) → out_now (more d parts b words g i here k.fed) e ≡ out_now d e
  out_more e = ap (λ (o : Option Command). out_of note e o (suc (suc i)) d.transfers) k.command ∙ same_out note e b words d.transfers (suc i) i ∙ sym (out_is e)

  out_done : (e : ℕ) → y.endpoint ≢ e → out_now (done d parts b words g i here k.fed) e ≡ out_now d e
  out_done e differs = sym (other_out note e b words d.transfers g.number i y g.newest g.there differs) ∙ sym (out_is e)

  same_queue : (e : ℕ) (x : Endpoint) → slice_get d.endpoints e ≡ Some x → x.gone ≡ false → 32 * x.queue ≡ n → e ≡ y.endpoint
  same_queue e x there kept same =
      queues_same x.queue g.endpoint.queue e y.endpoint (same_blocks x.queue g.endpoint.queue same)
      (queue_placed d k.sound.owners e x there (k.turns.asynchronous.endpoints e x there) kept) (queue_placed d k.sound.owners y.endpoint g.endpoint g.here standing its_alive)

  other_end : (e : ℕ) (x : Endpoint) → slice_get d.endpoints e ≡ Some x → 32 * x.queue ≢ n → y.endpoint ≢ e
  other_end e x there differs same = differs (ap (λ (z : Endpoint). 32 * z.queue) (same_Some x g.endpoint (sym there ∙ ap (slice_get d.endpoints) (sym same) ∙ g.here)))

  still_out : (new : DriverContent) → new.endpoints ≡ d.endpoints → ((e : ℕ) → y.endpoint ≢ e → out_now new e ≡ out_now d e) → AreStillOut new (with_out out n (out_now new y.endpoint))
  still_out new ends_same beside e x there met =
      let was : slice_get d.endpoints e ≡ Some x = ap (λ (xs : List Endpoint). slice_get xs e) (sym ends_same) ∙ there in
      ⊎_elim (λ (same : 32 * x.queue ≡ n).
      ap (with_out out n (out_now new y.endpoint)) same ∙ out_here out n (out_now new y.endpoint) ∙ ap (out_now new) (sym (same_queue e x was met.kept same)))
      (λ (differs : 32 * x.queue ≢ n).
      out_beside out n (out_now new y.endpoint) (32 * x.queue) differs ∙ k.out_are e x was (there_now x met.kept) ∙ sym (beside e (other_end e x was differs))) (cases_eq (32 * x.queue) n)

  -- ---- the driver's content after it

  being : IsBeingPublished d member parts n b g.qtd i
  being = record {
    command = k.command ∙ ap (λ (ws : List ℕ). Some (unfinished.Publish b ws)) g.are;
    made = made_is;
    below = below;
    here = g.stored;
    range = g.range;
    may = λ on. g.may k.made;
  }

  pub then_more : suc i < 8 → (next_of p).driver ≡ more d parts b words g i here k.fed
  then_more low =
      after_is p member parts n b g.qtd i being ∙ ap (λ (x : Bool). if x then record d { made = suc (suc i) } else record d { command = None; made = 0 }) (lt-ltb (suc (suc i)) 9 (omega (arith, low)))

  pub then_done : suc i ≡ 8 → (next_of p).driver ≡ done d parts b words g i here k.fed
  then_done eighth = after_is p member parts n b g.qtd i being ∙ ap (counted d) eighth

  eighth_by : 8 ≤ suc i → suc i ≡ 8
  eighth_by over = let low = below in omega (arith, over, low)

  -- ---- the laws

  stands_more : suc i < 8 → QueuesThen (more d parts b words g i here k.fed) member streams ends now order (with_out out n (out_now (more d parts b words g i here k.fed) y.endpoint))
  stands_more low = record {
    met = met_stays d (more d parts b words g i here k.fed) member queues_more k.met;
    streams_are = streams_stay d (more d parts b words g i here k.fed) streams ends queues_more k.streams_are;
    fed = fed_more d parts b words g i here k.fed low;
    last = last_more;
    out_are = still_out (more d parts b words g i here k.fed) refl (λ e differs. out_more e);
  }

  stands_done : suc i ≡ 8 → QueuesThen (done d parts b words g i here k.fed) member streams ends now order (with_out out n (out_now (done d parts b words g i here k.fed) y.endpoint))
  stands_done eighth = record {
    met = met_stays d (done d parts b words g i here k.fed) member queues_done k.met;
    streams_are = streams_stay d (done d parts b words g i here k.fed) streams ends queues_done k.streams_are;
    fed = fed_done d parts b words g i here k.fed eighth;
    last = last_done;
    out_are = still_out (done d parts b words g i here k.fed) refl out_done;
  }

  pub stands_by : QueuesThen (next_of p).driver member streams ends (parts_then g) order (out_then out (next_of p).driver g)
  stands_by =
      parts_are (λ (ps : StructureSets). QueuesThen (next_of p).driver member streams ends ps order (out_then out (next_of p).driver g))
      (⊎_elim (λ (low : suc i < 8). subst (λ (x : DriverContent). QueuesThen x member streams ends now order (out_then out x g)) (sym (then_more low)) (stands_more low))
      (λ (over : 8 ≤ suc i). subst (λ (x : DriverContent). QueuesThen x member streams ends now order (out_then out x g)) (sym (then_done (eighth_by over))) (stands_done (eighth_by over))) (cases_lt (suc i) 8))

  pub drives_by : (base : Base) (w : Walk) (hand : Hand) → DrivesRing base member parts hand (place w p.registers p.memory) d → DrivesRing base member (parts_then g) hand (place w (next_of p).registers (next_of p).memory) (next_of p).driver
  drives_by base w hand drives =
      parts_are (λ (ps : StructureSets). DrivesRing base member ps hand (place w (next_of p).registers (next_of p).memory) (next_of p).driver) (store_is_made base member parts hand w p n b g.qtd i drives k.sound being)

  -- ---- the streams

  active_pid : (partly g.qtd (suc i)).token.active ≡ true → (partly g.qtd (suc i)).token.pid ≡ pid_by g.endpoint.desc.name.way
  active_pid on =
      ⊎_elim (λ (low : suc i < 8). absurd (false≢true (sym (idle g.qtd (suc i) low) ∙ on)))
      (λ (over : 8 ≤ suc i). ap (λ (j : ℕ). (partly g.qtd j).token.pid) (eighth_by over) ∙ g.pid) (cases_lt (suc i) 8)

  pub pipes_by : {W : Type 0} (sender : W → ℕ → ℕ → Option Sender) (stream : ℕ → ℕ → Bool) (packets : ℕ → ℕ → List (List ℕ)) (acc : ℕ → List (List ℕ)) (wire : W) (hand : Hand)
      → ArePiped stream packets sender member streams ends acc parts hand wire → ArePiped stream packets sender member streams ends acc (parts_then g) hand wire
  pipes_by sender stream packets acc wire hand piped =
      parts_are (λ (ps : StructureSets). ArePiped stream packets sender member streams ends acc ps hand wire)
      (store_pipes sender stream packets member streams ends acc hand parts wire n (32 * b) (partly g.qtd i) (partly g.qtd (suc i)) g.stored (λ on. asks_by (streams n) (partly g.qtd (suc i)).token.pid g.endpoint.desc.name.way streamed (active_pid on)) piped)

  store : IsStore (order n) (out n) parts n (32 * b) (partly g.qtd i) (partly g.qtd (suc i))
  store = record {
    here = g.stored;
    idle = idle g.qtd i below;
    before = split.before;
    after = split.after;
    out_is = k.out_are y.endpoint g.endpoint g.here met_now.there ∙ out_is y.endpoint ∙ split.out i;
    sorted = sorted;
    later = partly_later (order n) (32 * b) g.qtd (suc i) links;
  }

  module _ (hand : Hand) (heads : ℕ → Bool) (acc : ℕ → List (List ℕ)) (reported : ℕ → List ℕ) (members : (m : ℕ) → member m ≡ true → IsQueuePart m (parts m)) (right : AreReported heads order out hand parts acc reported) where
    out_stays : (m : ℕ) → with_out out n (out_now (more d parts b words g i here k.fed) y.endpoint) m ≡ out m
    out_stays m =
        ⊎_elim (λ (same : m ≡ n).
        ap (with_out out n (out_now (more d parts b words g i here k.fed) y.endpoint)) same ∙ out_here out n (out_now (more d parts b words g i here k.fed) y.endpoint)
        ∙ out_more y.endpoint ∙ sym (k.out_are y.endpoint g.endpoint g.here met_now.there) ∙ ap out (sym same))
        (λ (differs : m ≢ n). out_beside out n (out_now (more d parts b words g i here k.fed) y.endpoint) m differs) (cases_eq m n)

    reports_more : suc i < 8 → AreReported heads order (with_out out n (out_now (more d parts b words g i here k.fed) y.endpoint)) hand now acc reported
    reports_more low m on =
        subst (λ (xs : List ℕ). IsReported (order m) xs hand now m (acc m) (reported m)) (sym (out_stays m))
        (idle_store_leaves_reports heads order out hand parts acc reported n (32 * b) (partly g.qtd i) (partly g.qtd (suc i)) store (idle g.qtd (suc i) low) right m on)

    fresh_last : suc i ≡ 8 → IsFresh (parts n) (partly g.qtd (suc i))
    fresh_last eighth = subst (λ (j : ℕ). IsFresh (parts n) (partly g.qtd j)) (sym eighth) (let fresh : IsFresh (parts n) g.qtd = g.total ∙ sym (g.long k.made) in fresh)

    reports_done : suc i ≡ 8 → AreReported heads order (with_out out n (out_now (done d parts b words g i here k.fed) y.endpoint)) hand now acc reported
    unfolding split store
    reports_done eighth =
        subst (λ (xs : List ℕ). AreReported heads order (with_out out n xs) hand now acc reported) (sym split.all)
        (last_store_leaves_reports heads order out hand parts acc reported n (32 * b) (partly g.qtd i) (partly g.qtd (suc i)) store (ap (λ (j : ℕ). (partly g.qtd j).token.active) eighth ∙ g.active) (fresh_last eighth)
        (members n (k.met.each y.endpoint g.endpoint g.here met_now)) right)

    pub reports_by : AreReported heads order (out_then out (next_of p).driver g) hand (parts_then g) acc reported
    reports_by =
        parts_are (λ (ps : StructureSets). AreReported heads order (out_then out (next_of p).driver g) hand ps acc reported)
        (⊎_elim (λ (low : suc i < 8). subst (λ (x : DriverContent). AreReported heads order (out_then out x g) hand now acc reported) (sym (then_more low)) (reports_more low))
        (λ (over : 8 ≤ suc i). subst (λ (x : DriverContent). AreReported heads order (out_then out x g) hand now acc reported) (sym (then_done (eighth_by over))) (reports_done (eighth_by over))) (cases_lt (suc i) 8))

pub store_publishes : StorePublishes
store_publishes base w hand p member streams ends parts order out b words k drives = drives_by p member streams ends parts order out b words k base w hand drives

pub store_stands : StoreStands
store_stands p member streams ends parts order out b words k = stands_by p member streams ends parts order out b words k

pub store_keeps_pipes : {W : Type 0} (sender : W → ℕ → ℕ → Option Sender) → StorePipes sender
store_keeps_pipes sender stream packets acc wire hand p member streams ends parts order out b words k piped = pipes_by p member streams ends parts order out b words k sender stream packets acc wire hand piped

pub store_reports : StoreReports
store_reports acc reported hand heads p member streams ends parts order out b words k members right = reports_by p member streams ends parts order out b words k hand heads acc reported members right
