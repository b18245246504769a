-- What is known of an endpoint that is to be given back.
use Rattle.std.proofs.Common.{◌≡◌, ℕ, zero, suc, ◌+◌, ◌*◌, ◌<◌, ◌==◌, ◌&&◌, not, Bool, true, false, if◌then◌else◌, List, [], ◌∷◌, drop, slice_get, Some, None, option_map, ap, refl, sym, subst, ◌∙◌, arith}
use Rattle.std.proofs.lemmas.Bool.{false≢true, eqb-true, and_parts}
use Rattle.std.proofs.lemmas.Option.{same_Some}
use Rattle.law_queues.proofs.Common.{none_unpublished, all_read}
use Rattle.law_structures.specs.lent_structures.Structures.{StructureSets}
use Rattle.law_ring.specs.Hand.{Hand, Settled}
use Rattle.law_ring.specs.Ring.{IsInHand}
use Rattle.law_ring.specs.Order.{IsAmong}
use Rattle.usb_base.specs.declared.packets.EpKind.{EpKind}
use Rattle.usb_base.specs.declared.packets.Reply.{Reply}
use Rattle.usb_base.specs.declared.packets.Way.{Way}
use Rattle.usb_base.specs.declared.packets.Way.TheVariants as Ways
use Rattle.claims_report.specs.Streams.{has_stream}
use Rattle.drv_table.specs.declared.content.Endpoint.{Endpoint}
use Rattle.drv_table.specs.declared.content.Transfer.{Transfer}
use Rattle.drv_table.specs.DriverContent.{DriverContent}
use Rattle.drv_table.specs.Harvests.{note_at}
use Rattle.drv_table.specs.Parts.{Parts}
use Rattle.drv_table.specs.Releases.{is_told}
use Rattle.law_driver.specs.endpoint_lives.Lives.{told_end}
use Rattle.claims_driver.specs.Owners.{NoteRuns, note_in}
use Rattle.law_driver.specs.chained_transfers.Chains.{piece_at}
use Rattle.law_driver.specs.chained_transfers.Turns.{Turn, turn_of, turn_in, AreReportedTo, AreInTurn}
use Rattle.law_driver.specs.chained_transfers.Out.{pieces_from, passed, out_of_transfer}
use Rattle.law_driver.specs.AsynchronousScripts.{IsKindOf}
use Rattle.law_driver.specs.chained_transfers.Bulk.{MovesAs, IsDataWay}
use Rattle.law_driver.proofs.lemmas.chained_transfers.Holding.{stands_unreleased}
use Rattle.law_driver_ring.specs.told_harvests.Held.{IsRead}
use Rattle.law_queues.specs.harvest_laws.Holds.{IsNextOf}
use Rattle.law_driver_ring.specs.fed_queues.Fed.{IsPieceFed}
use Rattle.law_driver_ring.proofs.lemmas.fed_queues.Sized.{moves_told, told_fed}
use Rattle.law_queues.specs.harvest_laws.Told.{ToldStands}
use Rattle.law_queues.specs.cancelled_bytes.Cancelled.{SettlesElsewhere, CanBeTold}
use Rattle.law_world.specs.streams.left_reports.Leaver.{IsLeaver}

-- ---- what is in hand

pub elsewhere : (member : ℕ → Bool) (parts : StructureSets) (reply : Reply) (hand : Hand) (n : ℕ) → member n ≡ false → IsInHand member parts reply hand → SettlesElsewhere hand n
elsewhere member parts reply (Settled c z) n off is = λ same. false≢true (sym off ∙ ap member (sym same) ∙ is.0.on)
elsewhere member parts reply _ n off is = tt

-- ---- transfers

-- the transfer that is next is the endpoint's own, and isn't reported
pub next_waits : (d : DriverContent) → AreInTurn d → (f u : ℕ) (w : Endpoint) (z : Transfer) → IsNextOf d f u w z → (z.endpoint ≡ f) × (z.reported ≡ false)
next_waits d turns f u w z is =
    let n = subst (AreReportedTo (turn_in d.transfers) f) is.next (turns.turns.next f w is.endpoint is.going) in
    let same : n.transfer ≡ turn_of z = same_Some n.transfer (turn_of z) (sym n.here ∙ ap (option_map turn_of) is.transfer) in
    (ap (λ (r : Turn). r.endpoint) (sym same) ∙ n.endpoint, ap (λ (r : Turn). r.reported) (sym same) ∙ n.waits)

none_listed : (ts : List ℕ) (t i : ℕ) → slice_get ts 0 ≡ None → slice_get ts i ≡ Some t → ⊥
none_listed [] t zero none here = cc
none_listed [] t (suc i) none here = cc
none_listed (u ∷ ts) t i none here = cc

-- what has qTDs out is the endpoint's own, and wasn't given back
out_held : (note : ℕ → NoteRuns) (e : ℕ) (y : Transfer) (q : ℕ) → IsAmong q (out_of_transfer note e 0 y) → (y.endpoint ≡ e) × (y.released ≡ false)
out_held note e y q among = by (y.endpoint == e && not y.released) refl
  where
    not_true : (b : Bool) → not b ≡ true → b ≡ false
    not_true true is = absurd (false≢true is)
    not_true false is = refl

    by : (c : Bool) → (y.endpoint == e && not y.released) ≡ c → (y.endpoint ≡ e) × (y.released ≡ false)
    by true is = let b = and_parts (y.endpoint == e) (not y.released) is in (eqb-true y.endpoint e b.0, not_true y.released b.1)
    by false is = absurd (subst (λ (c : Bool). IsAmong q (if c then drop (0 + passed y.reported) (pieces_from note y.place y.left) else [])) is among)

-- ---- the endpoint

-- a control endpoint has no stream
data_way : (way : Way) (kind : EpKind) → IsKindOf way kind → has_stream kind ≡ true → IsDataWay way
data_way Ways.Ctl kind is on = absurd (false≢true (sym (ap has_stream is) ∙ on))
data_way _ kind is on = tt

pub goes_untold : (x : Endpoint) → is_told x ≡ true → told_end x ≡ None
goes_untold x told = ap (λ (b : Bool). if b then None else x.ended) told

pub leaver_can_be_told : (parts : StructureSets) (hand : Hand) (p : Parts) (e : ℕ) (x : Endpoint) (reported : ℕ → List ℕ) → IsLeaver parts hand p e x → has_stream x.desc.kind ≡ true → is_told x ≡ true
    → (k : ToldStands p.driver hand parts reported) → CanBeTold p.driver p.memory parts hand e x (k.held e)
leaver_can_be_told parts hand p e x reported l on told k = record {
  command = l.idle;
  tells = l.tells;
  settled = l.settled;
  reported = l.turns.turns.turns.next e x l.leaves.here goes;
  waiting = λ t y here own waits.
      let held = kept t y here own waits in
      record {
        kept = held;
        most = (l.turns.turns.places t y here held).most;
        read = all_read (parts (32 * x.queue)) p.driver.notes y.first y.qtds (λ i below. piece_read t y here own held i below);
        within = k.holds.within t y here held;
      };
  next = λ t y is here. k.holds.next e t x y (record { endpoint = l.leaves.here; going = goes; next = is; transfer = here }) on;
  none = λ is. k.holds.none e x l.leaves.here is on;
  to_come = λ t y here own waits other.
      k.holds.to_come t y here waits (kept t y here own waits) (λ z there is. other (ap (λ (u : Endpoint). u.next) (same_Some x z (sym (its_end y own) ∙ there)) ∙ is));
  passed = λ q z out moved.
      let own = out_held (note_in p.driver.notes) e out.transfer q out.among in
      let listed = l.turns.turns.turns.owed out.number (turn_of out.transfer) x (ap (option_map turn_of) out.here) (its_end out.transfer own.0) goes out.reported own.1 in
      absurd (none_listed p.driver.harvested out.number listed.at l.leaves.none_before listed.here);
}
  where
    goes : told_end x ≡ None
    goes = goes_untold x told

    its_end : (y : Transfer) → y.endpoint ≡ e → slice_get p.driver.endpoints y.endpoint ≡ Some x
    its_end y own = ap (slice_get p.driver.endpoints) own ∙ l.leaves.here

    kept : (t : ℕ) (y : Transfer) → slice_get p.driver.transfers t ≡ Some y → y.endpoint ≡ e → y.reported ≡ false → y.released ≡ false
    kept t y here own waits = stands_unreleased p.driver t y x (l.turns.asynchronous.endpoints y.endpoint x (its_end y own)) l.turns.turns here (its_end y own) goes waits

    moves : (t : ℕ) (y : Transfer) → slice_get p.driver.transfers t ≡ Some y → MovesAs p.driver y
    moves t y here = l.turns.asynchronous.moves t y here

    -- it moves the data of its stream
    moves_data : (t : ℕ) (y : Transfer) (here : slice_get p.driver.transfers t ≡ Some y) → y.endpoint ≡ e → IsDataWay (moves t y here).endpoint.desc.name.way
    moves_data t y here own =
        subst (λ (z : Endpoint). IsDataWay z.desc.name.way) (same_Some x (moves t y here).endpoint (sym (its_end y own) ∙ (moves t y here).here))
        (data_way x.desc.name.way x.desc.kind (l.turns.asynchronous.endpoints e x l.leaves.here).asynchronous.kind on)

    piece_read : (t : ℕ) (y : Transfer) → slice_get p.driver.transfers t ≡ Some y → y.endpoint ≡ e → y.released ≡ false → (i : ℕ) → i < y.qtds
        → IsRead (parts (32 * x.queue)) (note_at p.driver.notes (piece_at (note_in p.driver.notes) y.first i)) (piece_at (note_in p.driver.notes) y.first i)
    piece_read t y here own held i below =
        let none = none_unpublished p.driver t y l.idle in
        let f : IsPieceFed y.sort (parts (32 * x.queue)) (note_at p.driver.notes (piece_at (note_in p.driver.notes) y.first i)) (piece_at (note_in p.driver.notes) y.first i) (piece_at (note_in p.driver.notes) y.first y.qtds) =
        told_fed y.sort (parts (32 * x.queue)) i (note_at p.driver.notes (piece_at (note_in p.driver.notes) y.first i)) (piece_at (note_in p.driver.notes) y.first i) (piece_at (note_in p.driver.notes) y.first y.qtds) (moves_told p.driver y (moves t y here) (moves_data t y here own)) (l.fed.pieces t i y x here held (its_end y own) (omega (arith, none)) below) in
        record { qtd = f.qtd; here = f.here; long = f.long; buffer = f.buffer; places = f.places }
