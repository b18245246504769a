-- Each event of the driver leaves its requests silent: what is told of their qTDs, and in which order they stand, is noted once.
use Rattle.std.proofs.Common.{◌≡◌, ◌≢◌, ℕ, zero, suc, ◌-◌, Bool, true, false, ◌==◌, ◌||◌, cond, if◌then◌else◌, map, List, [], ◌∷◌, ◌++◌, length, set, slice_get, Option, Some, None, option_map, ap, sym, subst, ◌∙◌, refl, ⊎_elim}
use Rattle.std.proofs.lemmas.Bool.{cases_eq, false≢true}
use Rattle.std.proofs.lemmas.Option.{same_Some, slice_get-map}
use Rattle.law_world.proofs.Common.{one_notes, framed_same}
use Rattle.law_common.proofs.Lists.{set_here, set_there, none_there}
use Rattle.usb_base.specs.declared.endpoints.EndCause.{EndCause}
use Rattle.usb_base.specs.declared.endpoints.EpName.{EpName}
use Rattle.usb_base.specs.declared.reports.What.TheVariants as lines
use Rattle.word_mem.specs.Memory.{Mem}
use Rattle.mem_runs.specs.Book.{holding, lend_taken}
use Rattle.drv_table.specs.declared.content.Endpoint.{Endpoint}
use Rattle.drv_table.specs.declared.content.QtdNote.{QtdNote}
use Rattle.drv_table.specs.declared.content.Transfer.{Transfer}
use Rattle.drv_table.specs.declared.rows.DriverRow.{DriverRow}
use Rattle.drv_table.specs.declared.rows.DriverRow.TheVariants as rows
use Rattle.drv_table.specs.declared.rows.Found.{Found}
use Rattle.drv_table.specs.declared.rows.Found.TheVariants as founds
use Rattle.drv_table.specs.DriverContent.{DriverContent, no_note, waits_for}
use Rattle.drv_table.specs.Harvests.{note_at, reported, noted, is_stall, end_of}
use Rattle.drv_table.specs.Parts.{Parts}
use Rattle.drv_table.specs.Commands.{advance}
use Rattle.drv_table.specs.Harvesting.{told_with, behind_one, behind, mends_of, after_end, served, harvested_as, after_harvest}
use Rattle.drv_table.specs.Releases.{is_told, cancelled_bytes, let_go, freed_by, after_transfer, after_endpoint}
use Rattle.drv_table.specs.FrameChoice.{linked_by}
use Rattle.drv_table.specs.Rows.{driver_row, after_driver_row}
use Rattle.law_driver.specs.run_owners.Due.{IsDue}
use Rattle.claims_driver.specs.Owners.{NoteRuns, note_in}
use Rattle.law_driver.proofs.lemmas.run_owners.Reasons.{each_event_is_due}
use Rattle.law_driver.proofs.lemmas.run_owners.Stays.{same_item}
use Rattle.law_reports.specs.requests.request_bytes.Fresh.{next_of}
use Rattle.law_driver.specs.chained_transfers.Chains.{piece_at}
use Rattle.law_driver.specs.chained_transfers.Asynchronous.{OnlyAsynchronous}
use Rattle.law_reports.proofs.lemmas.requests.lemmas.driver_requests.Rows.{TransferView, transfer_view, StayAlike, advanced, lent, harvested, told_transfers}
use Rattle.law_world.proofs.lemmas.streams.lemmas.put_laws.Rows.{advanced_keeps}
use Rattle.law_reports.specs.requests.Reading.{AreSilent}
use Rattle.law_reports.specs.requests.Silent.{RowKeepsSilent}

-- ---- what leaves them silent

pub record WasSo (d : DriverContent) (t : ℕ) (z : Transfer) : Type 0 where
  pub own : Transfer
  pub there : slice_get d.transfers t ≡ Some own
  pub held : own.released ≡ false
  pub sort : own.sort ≡ z.sort
  pub first : own.first ≡ z.first
  pub qtds : own.qtds ≡ z.qtds

pub record StaysSilent (d f : DriverContent) : Type 0 where
  pub transfers : (t : ℕ) (z : Transfer) → slice_get f.transfers t ≡ Some z → z.released ≡ false → WasSo d t z
  pub told : (b : ℕ) → (note_at f.notes b).told ≡ (note_at d.notes b).told
  pub next : (b : ℕ) → next_of f.notes b ≡ next_of d.notes b

piece_next : (note other : ℕ → NoteRuns) (b i : ℕ) → ((c : ℕ) → (other c).next ≡ (note c).next) → piece_at other b i ≡ piece_at note b i
piece_next note other b zero same = refl
piece_next note other b (suc i) same = ap (λ (a : ℕ). piece_at other a i) (same b) ∙ piece_next note other (note b).next i same

pub stays_silent : (d f : DriverContent) → StaysSilent d f → AreSilent d → AreSilent f
stays_silent d f k silent t z there sort held =
    let w = k.transfers t z there held in
    let old = silent t w.own w.there (w.sort ∙ sort) w.held in
    record {
      setup = ap (λ (b : ℕ). (note_at f.notes b).told) (sym w.first) ∙ k.told w.own.first ∙ old.setup;
      status =
          ap (λ (b : ℕ). (note_at f.notes (piece_at (note_in f.notes) b (z.qtds - 1))).told) (sym w.first)
          ∙ ap (λ (n : ℕ). (note_at f.notes (piece_at (note_in f.notes) w.own.first (n - 1))).told) (sym w.qtds)
          ∙ ap (λ (b : ℕ). (note_at f.notes b).told) (piece_next (note_in d.notes) (note_in f.notes) w.own.first (w.own.qtds - 1) k.next)
          ∙ k.told (piece_at (note_in d.notes) w.own.first (w.own.qtds - 1)) ∙ old.status;
    }

was_so : (d : DriverContent) (t : ℕ) (z : Transfer) (o : Option Transfer) → slice_get d.transfers t ≡ o → option_map transfer_view o ≡ Some (transfer_view z) → z.released ≡ false → WasSo d t z
was_so d t z None there e held = absurd (cc)
was_so d t z (Some y) there e held =
    let same = same_Some (transfer_view y) (transfer_view z) e in
    record {
      own = y;
      there = there;
      held = ap (λ (v : TransferView). v.released) same ∙ held;
      sort = ap (λ (v : TransferView). v.sort) same;
      first = ap (λ (v : TransferView). v.first) same;
      qtds = ap (λ (v : TransferView). v.qtds) same;
    }

pub alike_silent : (d f : DriverContent) → StayAlike d f → ((b : ℕ) → (note_at f.notes b).told ≡ (note_at d.notes b).told) → StaysSilent d f
alike_silent d f k told = record {
  transfers = λ t z there held. was_so d t z (slice_get d.transfers t) refl (sym (k.transfers t) ∙ ap (option_map transfer_view) there) held;
  told = told;
  next = k.notes;
}

same_notes : (d f : DriverContent) → f.notes ≡ d.notes → (b : ℕ) → (note_at f.notes b).told ≡ (note_at d.notes b).told
same_notes d f same b = ap (λ (ns : List QtdNote). (note_at ns b).told) same

pub same_silent : (d f : DriverContent) → f.transfers ≡ d.transfers → f.notes ≡ d.notes → StaysSilent d f
same_silent d f transfers notes = record {
  transfers = λ t z there held. record { own = z; there = ap (λ (ys : List Transfer). slice_get ys t) (sym transfers) ∙ there; held = held; sort = refl; first = refl; qtds = refl };
  told = same_notes d f notes;
  next = λ b. ap (λ (ns : List QtdNote). next_of ns b) notes;
}

-- ---- a harvest

noted_told : (notes : List QtdNote) (b moved c : ℕ) → (note_at (noted notes b moved) c).told ≡ (note_at notes c).told
noted_told notes b moved c = same_item (λ (n : QtdNote). n.told) notes b (record (note_at notes b) { moved = moved }) no_note refl c

behind_notes : (d : DriverContent) (e : ℕ) (name : EpName) (k n : ℕ) → (behind d e name k n).notes ≡ d.notes
unfolding behind
behind_notes d e name k zero = refl
behind_notes d e name k (suc n) = behind_notes (behind_one d e name k (slice_get d.transfers k)) e name (suc k) n ∙ one_notes d e name k (slice_get d.transfers k)

end_notes : (d : DriverContent) (e t : ℕ) (x : Endpoint) (stall : Bool) (o : Option EndCause) → (after_end d e t x stall o).notes ≡ d.notes
end_notes d e t x stall (Some cause) = refl
end_notes d e t x true None =
    behind_notes (record d { harvested = d.harvested ++ t ∷ []; endpoints = set d.endpoints e (record x { next = None }); mends = d.mends ++ mends_of x }) e x.desc.name (suc t) (length d.transfers - suc t)
end_notes d e t x false None = refl

read_told : (d : DriverContent) (m : Mem) (e t : ℕ) (x : Endpoint) (y : Transfer) (found : Found) (b : ℕ) → (note_at (harvested_as d m e t x y found).notes b).told ≡ (note_at d.notes b).told
read_told d m e t x y (founds.Moved n) b = noted_told d.notes y.place n b
read_told d m e t x y (founds.Ended n what) b =
    let f = told_with d m t y what x.desc.name (noted d.notes y.place n) in
    same_notes f (after_end f e t x (is_stall what) (end_of x.desc.kind what)) (end_notes f e t x (is_stall what) (end_of x.desc.kind what)) b ∙ noted_told d.notes y.place n b
read_told d m e t x y _ b = refl

by_wait : (d f : DriverContent) (w : Bool) (b : ℕ) → (note_at f.notes b).told ≡ (note_at d.notes b).told → (note_at (cond w f d).notes b).told ≡ (note_at d.notes b).told
by_wait d f true b same = same
by_wait d f false b same = refl

harvest_told : (d : DriverContent) (m : Mem) (e t : ℕ) (found : Found) (o : Option Endpoint) (q : Option Transfer) (b : ℕ) → (note_at (after_harvest d m e t found o q).notes b).told ≡ (note_at d.notes b).told
harvest_told d m e t found None q b = refl
harvest_told d m e t found (Some x) None b = refl
harvest_told d m e t found (Some x) (Some y) b = by_wait d (served (harvested_as d m e t x y found) e) (waits_for e y) b (read_told d m e t x y found b)

-- ---- a transfer, or an endpoint, is given back

given_silent : (d f : DriverContent) (t : ℕ) (y : Transfer) → slice_get d.transfers t ≡ Some y → f.transfers ≡ set d.transfers t (record y { released = true }) → f.notes ≡ d.notes → StaysSilent d f
given_silent d f t y there is notes = record {
  transfers = λ u z here held. by u z here held;
  told = same_notes d f notes;
  next = λ b. ap (λ (ns : List QtdNote). next_of ns b) notes;
}
  where
    given : Transfer
    given = record y { released = true }

    by : (u : ℕ) (z : Transfer) → slice_get f.transfers u ≡ Some z → z.released ≡ false → WasSo d u z
    by u z here held =
        ⊎_elim {C = WasSo d u z}
        (λ (same : u ≡ t).
        let own : given ≡ z = same_Some given z (sym (set_here d.transfers t y given there) ∙ ap (slice_get (set d.transfers t given)) (sym same) ∙ ap (λ (ys : List Transfer). slice_get ys u) (sym is) ∙ here) in
        absurd (false≢true (sym held ∙ ap (λ (w : Transfer). w.released) (sym own))))
        (λ (differs : u ≢ t).
        record {
          own = z;
          there = sym (set_there d.transfers t u given differs) ∙ ap (λ (ys : List Transfer). slice_get ys u) (sym is) ∙ here;
          held = held;
          sort = refl;
          first = refl;
          qtds = refl;
        })
        (cases_eq u t)

kept_by : (e : ℕ) (told : Bool) (y z : Transfer) (b : Bool) → (if b then record y { reported = y.reported || told; released = true } else y) ≡ z → z.released ≡ false → y ≡ z
kept_by e told y z true is held = absurd (false≢true (sym held ∙ ap (λ (w : Transfer). w.released) (sym is)))
kept_by e told y z false is held = is

let_go_silent : (d f : DriverContent) (e : ℕ) (told : Bool) → f.transfers ≡ map (let_go e told) d.transfers → f.notes ≡ d.notes → StaysSilent d f
let_go_silent d f e told is notes = record {
  transfers = λ u z here held. by u z (slice_get d.transfers u) refl (sym (slice_get-map (let_go e told) d.transfers u) ∙ ap (λ (ys : List Transfer). slice_get ys u) (sym is) ∙ here) held;
  told = same_notes d f notes;
  next = λ b. ap (λ (ns : List QtdNote). next_of ns b) notes;
}
  where
    by : (u : ℕ) (z : Transfer) (o : Option Transfer) → slice_get d.transfers u ≡ o → option_map (let_go e told) o ≡ Some z → z.released ≡ false → WasSo d u z
    by u z None there maps held = absurd (cc)
    by u z (Some y) there maps held =
        let own : y ≡ z = kept_by e told y z (y.endpoint == e) (same_Some (let_go e told y) z maps) held in
        record { own = z; there = there ∙ ap (λ (w : Transfer). Some w) own; held = held; sort = refl; first = refl; qtds = refl }

told_notes : (d : DriverContent) (m : Mem) (e : ℕ) (x : Endpoint) (b : Bool) → (cond b (reported d lines.Cancel x.desc.name (cancelled_bytes d.notes m e x.queue d.transfers)) d).notes ≡ d.notes
told_notes d m e x true = refl
told_notes d m e x false = refl

pub release_silent : (p : Parts) (e : ℕ) → StaysSilent p.driver (after_driver_row (rows.ReleaseEndpoint e) p).driver
release_silent p e = gone (slice_get p.driver.endpoints e)
  where
    gone : (o : Option Endpoint) → StaysSilent p.driver (after_endpoint p e o).driver
    gone None = same_silent p.driver p.driver refl refl
    gone (Some x) = let_go_silent p.driver _ e (is_told x) (ap (λ (ys : List Transfer). map (let_go e (is_told x)) ys) (told_transfers p.driver p.memory e x)) (told_notes p.driver p.memory e x (is_told x))

-- ---- any row

pub by_row : (p : Parts) (row : DriverRow) → OnlyAsynchronous p.driver → IsDue p row → StaysSilent p.driver (after_driver_row row p).driver
by_row p rows.Lend only due =
    let f : DriverContent = record p.driver { book = (lend_taken (holding p.driver.book p.memory)).book } in
    alike_silent p.driver _ (lent p.driver p.memory) (same_notes p.driver (advance f) (advanced_keeps f p.driver.command only.command).notes)
by_row p (rows.Store b at v) only due = alike_silent p.driver _ (advanced p.driver) (same_notes p.driver (advance p.driver) (advanced_keeps p.driver p.driver.command only.command).notes)
by_row p rows.Frames only due = subst (StaysSilent p.driver) (sym (framed_same p.driver p.registers.frame_index p.driver.command only.command)) (same_silent p.driver p.driver refl refl)
by_row p rows.LendDescriptors only due =
    let q = linked_by p.driver p.memory p.driver.command in
    let f : DriverContent = record p.driver { book = (lend_taken (holding p.driver.book q)).book } in
    alike_silent p.driver _ (lent p.driver q) (same_notes p.driver (advance f) (advanced_keeps f p.driver.command only.command).notes)
by_row p (rows.Unlink t) only due = absurd (none_there p.driver.periodic.unlinks t only.unlinks due.first)
by_row p (rows.ReleaseRemoved what) only due = absurd (none_there p.driver.periodic.removals due.removal only.removals due.first)
by_row p (rows.ReleaseTransfer t) only due = given_back (slice_get p.driver.transfers t) refl
  where
    given_back : (o : Option Transfer) → slice_get p.driver.transfers t ≡ o → StaysSilent p.driver (after_transfer p t o (freed_by p.driver (holding p.driver.book p.memory) o)).driver
    given_back None there = same_silent p.driver p.driver refl refl
    given_back (Some y) there = given_silent p.driver _ t y there refl refl
by_row p (rows.ReleaseEndpoint e) only due = release_silent p e
by_row p (rows.Harvest e t found) only due =
    alike_silent p.driver _ (harvested p.driver p.memory e t found (slice_get p.driver.endpoints e) (slice_get p.driver.transfers t) refl refl)
    (harvest_told p.driver p.memory e t found (slice_get p.driver.endpoints e) (slice_get p.driver.transfers t))
by_row p _ only due = same_silent p.driver _ refl refl

pub row_keeps_silent : RowKeepsSilent
row_keeps_silent p only silent = stays_silent p.driver (after_driver_row (driver_row p) p).driver (by_row p (driver_row p) only (each_event_is_due p)) silent
