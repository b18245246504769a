-- A get, a put or a request that was accepted is accepted alike by the driver of the queues alone.
use Rattle.std.proofs.Common.{◌≡◌, ℕ, Bool, true, false, ◌&&◌, cond, List, [], ◌∷◌, ◌++◌, length, set, slice_get, Option, Some, Result, Ok, Err, unwrap_or, ap, ap₂, sym, ◌∙◌, refl}
use Rattle.std.specs.Prelude.{map, option_and_then}
use Rattle.std.proofs.lemmas.Bool.{false≢true}
use Rattle.std.proofs.lemmas.List.{length-map, map-append, map-set}
use Rattle.law_driver.proofs.Common.{control_kind as control_not_iso, control_told, of_queue, ring_queue, kind_in_ring, get_queued}
use Rattle.law_common.proofs.Booleans.{both_parts}
use Rattle.usb_base.specs.declared.endpoints.EpName.{EpName}
use Rattle.usb_base.specs.declared.reports.OfferError.{OfferError}
use Rattle.usb_base.specs.declared.reports.OfferError.TheVariants as errors
use Rattle.usb_base.specs.declared.packets.EpKind.{EpKind}
use Rattle.usb_base.specs.declared.packets.EpKind.TheVariants as kinds
use Rattle.usb_base.specs.declared.packets.Way.{Way}
use Rattle.usb_base.specs.declared.packets.Way.TheVariants as ways
use Rattle.word_mem.specs.Memory.{Mem}
use Rattle.mem_runs.specs.Book.{Holding, holding}
use Rattle.drv_table.specs.declared.content.Endpoint.{Endpoint}
use Rattle.drv_table.specs.declared.content.Transfer.{Transfer}
use Rattle.drv_table.specs.declared.content.QtdNote.{QtdNote}
use Rattle.drv_table.specs.DriverContent.{DriverContent, is_same_way}
use Rattle.drv_table.specs.Kinds.{is_iso}
use Rattle.drv_table.specs.Words.{needs}
use Rattle.drv_table.specs.Accepting.{Offered, take_runs}
use Rattle.drv_table.specs.Offers.{Asked, accepted_transfer, taken_transfer, open_transfer, found_transfer, offered_transfer, with_queued, new_transfer, is_queued, takes_get, takes_put, takes_control}
use Rattle.claims_driver.specs.Owners.{is_descriptor}
use Rattle.law_driver.proofs.lemmas.chained_transfers.Ways.{same_in, same_out}
use Rattle.law_driver.specs.queued_drivers.Queued.{queued_kind, with_queue, queued_endpoint, sort_of_queue, queued_transfer, queued_command, queued, FitsKind}
use Rattle.law_driver.specs.queued_drivers.Commands.{told_of, TransfersAreOfQueues}
use Rattle.law_driver.proofs.lemmas.queued_drivers.CommandFields.{named_same, transfers_set}
use Rattle.law_driver.proofs.lemmas.queued_drivers.CommandReasons.{IsTakenOn}

-- ---- what it makes

asked_alike : (d : DriverContent) (e : ℕ) (x : Endpoint) (a : Asked) (h : Holding) (dummy : ℕ) (notes : List QtdNote) → slice_get d.endpoints e ≡ Some x → is_iso x.desc.kind ≡ false → is_descriptor a.sort ≡ false
    → accepted_transfer (queued d) e (with_queue x) a h dummy notes ≡ record (accepted_transfer d e x a h dummy notes) { driver = queued (accepted_transfer d e x a h dummy notes).driver }
asked_alike d e x a h dummy notes here queue sort =
    let z = with_queued x dummy (length d.transfers) in
    let new = new_transfer e a x.dummy in
    let xs = map queued_endpoint d.endpoints in
    let g = accepted_transfer (queued d) e (with_queue x) a h dummy notes in
    let kept : queued_transfer (set d.endpoints e z) new ≡ new = ap (λ (b : Bool). cond b (record new { sort = sort_of_queue (slice_get (set d.endpoints e z) e); reported = true; released = true }) new) sort in
    let ends : set xs e (with_queued (with_queue x) dummy (length (map (queued_transfer d.endpoints) d.transfers))) ≡ map queued_endpoint (set d.endpoints e z) =
    ap (λ (n : ℕ). set xs e (with_queued (with_queue x) dummy n)) (length-map d.transfers (queued_transfer d.endpoints))
    ∙ sym (ap (λ (w : Endpoint). set xs e w) (of_queue z queue)) ∙ sym (map-set queued_endpoint d.endpoints e z) in
    let moves : map (queued_transfer d.endpoints) d.transfers ++ new ∷ [] ≡ map (queued_transfer (set d.endpoints e z)) (d.transfers ++ new ∷ []) =
    sym (map-append (queued_transfer (set d.endpoints e z)) d.transfers (new ∷ []) ∙ ap₂ (λ (ts : List Transfer) (y : Transfer). ts ++ y ∷ []) (transfers_set d e x z here refl) kept) in
    ap₂ (λ (ends : List Endpoint) (moves : List Transfer). record g { driver = record g.driver { endpoints = ends; transfers = moves } }) ends moves

abbrev result_of : Offered → Result Offered OfferError
result_of g = Ok (told_of g)

result_alike : (g o : Offered) → ◌≡◌ {A = Result Offered OfferError} (Ok g) (Ok o) → result_of g ≡ result_of o
result_alike g o is = let same : g ≡ o = cc in ap result_of same

-- ---- an accepted transfer

pub taken_alike : (d : DriverContent) (m : Mem) (o : Offered) (name : EpName) (takes : Endpoint → Bool) (a : Asked) (w : IsTakenOn d m o name takes a) → is_iso w.endpoint.desc.kind ≡ false → takes (with_queue w.endpoint) ≡ true → is_descriptor a.sort ≡ false
    → offered_transfer (queued d) m name takes a ≡ Ok (told_of o)
taken_alike d m o name takes a w queue taken sort =
    let e = w.number in
    let x = w.endpoint in
    ap (λ (n : Option ℕ). found_transfer (queued d) m takes a (unwrap_or n 0) (option_and_then (λ k. slice_get (queued d).endpoints k) n)) (named_same d name ∙ w.named)
    ∙ ap (found_transfer (queued d) m takes a e) (get_queued d.endpoints e x w.here ∙ ap Some (of_queue x queue))
    ∙ ap (λ (b : Bool). cond b (open_transfer (queued d) m e (with_queue x) a x.ended) (Err errors.NoEndpoint)) taken
    ∙ ap (open_transfer (queued d) m e (with_queue x) a) w.goes_on
    ∙ ap (λ (b : Bool). cond b (Err errors.TooLong) (taken_transfer (queued d) e (with_queue x) a (take_runs (holding d.book m) (needs a.stages)))) w.few
    ∙ ap (taken_transfer (queued d) e (with_queue x) a) w.runs
    ∙ ap Ok (asked_alike d e x a w.holding_after _ _ w.here queue sort)
    ∙ result_alike _ o w.is

-- .. and so it is one of the queues
pub transfers_are_of_queues : TransfersAreOfQueues
transfers_are_of_queues d m o w =
    let e = w.number in
    let x = w.endpoint in
    let is : queued_endpoint x ≡ with_queue x = of_queue x w.queued in
    let a = w.asked in
    let h = w.holding_after in
    let alike = asked_alike d e x a h _ _ w.here w.queued w.sort ∙ ap told_of (sym w.is) in
    record {
      transfers = record {
        number = e;
        endpoint = with_queue x;
        asked = a;
        holding_after = h;
        idle = ap (queued_command d.endpoints) w.idle;
        here = get_queued d.endpoints e x w.here ∙ ap Some is;
        goes_on = w.goes_on;
        queued = ring_queue (queued_kind x.desc.name.way) (kind_in_ring x.desc.name.way);
        sort = w.sort;
        short = w.short;
        some = w.some;
        runs = w.runs;
        is = sym alike;
      };
      number = refl;
      endpoint = sym is;
      asked = refl;
      holding_after = refl;
    }

-- ---- which endpoints take it

queued_not_iso : (k : EpKind) → is_queued k ≡ true → is_iso k ≡ false
queued_not_iso kinds.Iso is = absurd (false≢true is)
queued_not_iso _ is = refl

pub gets_alike : (x : Endpoint) → takes_get x ≡ true → (is_iso x.desc.kind ≡ false) × (takes_get (with_queue x) ≡ true)
gets_alike x is =
    let b = both_parts (is_queued x.desc.kind) (is_same_way x.desc.name.way ways.In) is in
    (queued_not_iso x.desc.kind b.0, ap (λ (w : Way). is_queued (queued_kind w) && is_same_way w ways.In) (same_in x.desc.name.way b.1))

pub puts_alike : (x : Endpoint) → takes_put x ≡ true → (is_iso x.desc.kind ≡ false) × (takes_put (with_queue x) ≡ true)
puts_alike x is =
    let b = both_parts (is_queued x.desc.kind) (is_same_way x.desc.name.way ways.Out) is in
    (queued_not_iso x.desc.kind b.0, ap (λ (w : Way). is_queued (queued_kind w) && is_same_way w ways.Out) (same_out x.desc.name.way b.1))

pub requests_alike : (x : Endpoint) → FitsKind x.desc → takes_control x ≡ true → (is_iso x.desc.kind ≡ false) × (takes_control (with_queue x) ≡ true)
requests_alike x fits is = (control_not_iso x.desc.kind is, control_told x.desc.name.way x.desc.kind fits is)
