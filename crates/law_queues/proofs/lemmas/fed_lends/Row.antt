-- The row that lends a transfer.
use Rattle.std.proofs.Common.{◌≡◌, ◌≢◌, ℕ, suc, ◌+◌, ◌*◌, ◌⊎◌, ⊎_elim, inl, inr, Bool, true, false, List, ◌∷◌, length, nat_lt, if◌then◌else◌, slice_get, Option, Some, ap, sym, subst, ◌∙◌, arith, refl}
use Rattle.std.specs.List.{AllByRecursion}
use Rattle.std.proofs.lemmas.Bool.{cases_Bool}
use Rattle.usb_base.specs.declared.packets.Way.{Way}
use Rattle.usb_base.specs.declared.packets.Way.TheVariants as ways
use Rattle.word_mem.specs.Memory.{Mem}
use Rattle.async_walk.specs.Rows.{place}
use Rattle.mem_runs.specs.Book.{slot_of}
use Rattle.drv_table.specs.declared.content.Endpoint.{Endpoint}
use Rattle.drv_table.specs.declared.content.Command.{Command}
use Rattle.drv_table.specs.declared.content.Command.TheVariants as unfinished
use Rattle.drv_table.specs.declared.rows.DriverRow.{DriverRow}
use Rattle.drv_table.specs.declared.rows.DriverRow.TheVariants as rows
use Rattle.drv_table.specs.declared.content.Stage.{Stage}
use Rattle.drv_table.specs.DriverContent.{DriverContent}
use Rattle.drv_table.specs.Words.{queue_head}
use Rattle.drv_table.specs.Parts.{Parts as DriverParts}
use Rattle.drv_table.specs.Commands.{events_of, links, finished, linked_on, command_row, advanced_by, advance}
use Rattle.drv_table.specs.Rows.{row_for, driver_row, after_driver_row}
use Rattle.law_ring.specs.Together.{put_all}
use Rattle.law_ring.specs.Bus.{Sender}
use Rattle.law_driver_ring.specs.Driven.{DrivesRing}
use Rattle.law_driver.specs.chained_transfers.Bulk.{IsDataWay}
use Rattle.claims_driver.specs.Scripts.{receives, comes_in}
use Rattle.law_driver.specs.chained_transfers.Asynchronous.{OnlyAsynchronous}
use Rattle.law_driver.proofs.lemmas.chained_transfers.Ways.{data_or_control, data_comes_in, IsBy, its_pid, all_of_all, receives_pid, sends_pid}
use Rattle.law_driver_ring.specs.fed_queues.Places.{AreMet, HaveStreams}
use Rattle.law_ring.specs.Told.{Endpoint as Told, endpoint_of}
use Rattle.law_driver_ring.specs.TransferLaws.{lent_memory, lent_driver, items_of}
use Rattle.law_driver_ring.proofs.Lends.{lend_drives}
use Rattle.law_queues.specs.fed_lends.ToLend.{IsToBeLent, lent_now}
use Rattle.law_queues.specs.fed_lends.LendLaws.{GoesOnLent, LendRowGoesOn}
use Rattle.law_queues.proofs.lemmas.fed_lends.Stages.{data_by}
use Rattle.law_queues.proofs.lemmas.fed_lends.Piping.{lend_leaves_pipes}
use Rattle.law_ring.proofs.QueueParts.{member_part}
use Rattle.law_queues.proofs.lemmas.fed_lends.Names.{names_lent}
use Rattle.law_queues.proofs.lemmas.fed_lends.Fed.{y_of, x_of, IsLending, queues_fed}
use Rattle.law_queues.proofs.lemmas.fed_lends.Reports.{IsOrdering, it_is_met, order_lent, out_lent, all_reported, place_by, reported_below, sorted_by, all_out, all_last}
use Rattle.law_driver_ring.proofs.lemmas.fed_queues.Places.{SameQueues, same_ends, met_stays, streams_stay}

-- ---- which row it is

row_is : (p : DriverParts) (b : ℕ) (words : List ℕ) → IsToBeLent p.driver p.memory b words → driver_row p ≡ rows.Lend
row_is p b words k = ap (row_for p) k.command ∙ ap (command_row (unfinished.Publish b words)) k.made

pub advance_is : (d : DriverContent) (m : Mem) (b : ℕ) (words : List ℕ) → IsToBeLent d m b words → advance (lent_driver d m) ≡ lent_now d m
advance_is d m b words k =
    let e = lent_driver d m in
    let c : Command = unfinished.Publish b words in
    ap (advanced_by e) k.command
    ∙ ap (λ (i : ℕ). if nat_lt (suc i) (length (events_of c)) then record e { made = suc i } else (if links c then linked_on e c else finished e c)) k.made

abbrev pub lent_parts : DriverParts → DriverParts
lent_parts p = record p { driver = lent_now p.driver p.memory; memory = lent_memory p.driver p.memory }

pub lend_is : (p : DriverParts) (b : ℕ) (words : List ℕ) → IsToBeLent p.driver p.memory b words → after_driver_row rows.Lend p ≡ lent_parts p
lend_is p b words k = ap (λ (d : DriverContent). record p { driver = d; memory = lent_memory p.driver p.memory }) (advance_is p.driver p.memory b words k)

pub after_is : (p : DriverParts) (b : ℕ) (words : List ℕ) → IsToBeLent p.driver p.memory b words → after_driver_row (driver_row p) p ≡ lent_parts p
after_is p b words k = ap (λ (row : DriverRow). after_driver_row row p) (row_is p b words k) ∙ lend_is p b words k

-- ---- who is met

lent_queues : (d : DriverContent) (m : Mem) → SameQueues d (lent_now d m)
lent_queues d m = same_ends d (lent_now d m) (record { waiting = refl; rung = refl; opens = λ c is. is }) (record { waiting = refl; rung = refl; opens = λ c is. is }) refl

pub met_on : (d : DriverContent) (m : Mem) (member : ℕ → Bool) → AreMet d member → AreMet (lent_now d m) member
met_on d m member met = met_stays d (lent_now d m) member (lent_queues d m) met

pub streams_on : (d : DriverContent) (m : Mem) (streams : ℕ → Bool) (ends : ℕ → Told) → HaveStreams d streams ends → HaveStreams (lent_now d m) streams ends
streams_on d m streams ends have = streams_stay d (lent_now d m) streams ends (lent_queues d m) have

-- ---- what the qTDs ask for

-- INs where the queue head has a stream, and none else, but of a control endpoint, of which there is no stream
abbrev pub ControlsAreApart : (ℕ → ℕ → Bool) → DriverContent → Type 0
ControlsAreApart stream d = (e : ℕ) (x : Endpoint) → slice_get d.endpoints e ≡ Some x → x.desc.name.way ≡ ways.Ctl → stream x.desc.name.addr x.desc.name.num ≡ false

abbrev pub AskAs : (ℕ → ℕ → Bool) → (ℕ → Bool) → (ℕ → Told) → ℕ → List Stage → Type 0
AskAs stream streams ends n ss =
    ((streams n ≡ true) × AllByRecursion (λ r. r.pid ≡ 1) ss) ⊎ (((streams n ≡ false) × AllByRecursion (λ r. r.pid ≢ 1) ss) ⊎ ((streams n ≡ false) × (stream (ends n).addr (ends n).ep ≡ false)))

pub its_asks : (stream : ℕ → ℕ → Bool) {d : DriverContent} {m : Mem} {b : ℕ} {words : List ℕ} {streams : ℕ → Bool} {ends : ℕ → Told} → OnlyAsynchronous d → (k : IsToBeLent d m b words) → HaveStreams d streams ends → ControlsAreApart stream d
    → AskAs stream streams ends (32 * k.endpoint.queue) (k.stage ∷ k.further)
its_asks stream {d = d} {m = m} {b = b} {words = words} {streams = streams} {ends = ends} only k have apart = by (data_or_control way)
  where
    way : Way
    way = k.endpoint.desc.name.way

    ss : List Stage
    ss = k.stage ∷ k.further

    its : (streams (32 * k.endpoint.queue) ≡ comes_in way) × (ends (32 * k.endpoint.queue) ≡ endpoint_of (queue_head k.endpoint.desc 0 k.endpoint.dummy))
    its = have.each k.transfer.endpoint k.endpoint k.here (it_is_met d m b words only k)

    by : IsDataWay way ⊎ (way ≡ ways.Ctl) → AskAs stream streams ends (32 * k.endpoint.queue) (k.stage ∷ k.further)
    by (inl one) =
        let all = data_by way ss one k.stages in
        let on : streams (32 * k.endpoint.queue) ≡ receives way = its.0 ∙ data_comes_in way one in
        ⊎_elim (λ (in_way : receives way ≡ true). inl (on ∙ in_way, all_of_all (IsBy way) (λ (r : Stage). r.pid ≡ 1) ss (λ r is. its_pid way r one is ∙ receives_pid way in_way one) all))
        (λ (off : receives way ≡ false).
        inr (inl (on ∙ off, all_of_all (IsBy way) (λ (r : Stage). r.pid ≢ 1) ss (λ r is same. let p = its_pid way r one is in let none = sends_pid way off in omega (arith, p, none, same)) all)))
        (cases_Bool (receives way))
    by (inr control) = inr (inr (its.0 ∙ ap comes_in control, ap (λ (t : Told). stream t.addr t.ep) its.1 ∙ apart k.transfer.endpoint k.endpoint k.here control))

-- ---- the whole

pub lend_row_goes_on : {W : Type 0} (sender : W → ℕ → ℕ → Option Sender) → LendRowGoesOn sender
lend_row_goes_on sender base stream packets member streams heads ends acc reported hand wire parts order out w p b words k has stands only turns drives piped reports fed last still_out met have sorted apart =
    let d = p.driver in
    let m = p.memory in
    let y = y_of k in
    let x = x_of k in
    let n = 32 * k.endpoint.queue in
    let now = put_all parts n (items_of d m y x k.stage k.further) in
    let both = lend_drives base member parts hand w p.registers m d k.number y x k.stage k.further k.awaits has stands drives (names_lent d m b words parts n k fed drives.driven) in
    let l : IsLending d m b words parts now = record { ready = k; has = has; stands = stands; shape = drives.ring.tells.shape; asynchronous = only; fed = fed; pieces = both.1 } in
    let its_met = it_is_met d m b words only k in
    let on = met.each k.transfer.endpoint k.endpoint k.here its_met in
    let from = suc (order n (32 * k.transfer.first) + place_by reports n (heads n) refl) in
    let o : IsOrdering d m b words parts now order out = record {
      lending = l;
      turns = turns;
      last = last;
      still_out = still_out;
      sorted = sorted_by reports n (sorted k.transfer.endpoint k.endpoint k.here its_met);
      from = from;
      above = omega arith;
    } in
    subst (GoesOnLent sender base stream packets member streams heads ends acc reported hand wire w) (sym (after_is p b words k))
    (record {
      parts = now;
      order = order_lent k from order;
      out = out_lent k out;
      drives = subst (DrivesRing base member now hand (place w p.registers (lent_memory d m))) (advance_is d m b words k) both.0;
      piped = lend_leaves_pipes sender d m k.number y x k.stage k.further (slot_of (lent_driver d m).book.slots) parts now stream packets member streams ends acc hand wire k.awaits both.1 (its_asks stream only k have apart) piped;
      reports = all_reported heads hand acc reported o (member_part member n (parts n) (drives.ring.members n on)) (reported_below reports n (heads n) refl from (omega arith)) reports;
      fed = queues_fed d m b words parts now l;
      last = all_last o;
      still_out = all_out o;
      met = met_on d m member met;
      have = streams_on d m streams ends have;
    })
