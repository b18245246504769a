-- Each line that an event of the driver writes has its reason.
use Rattle.std.proofs.Common.{◌≡◌, ℕ, zero, suc, ◌-◌, ◌<◌, Bool, true, false, cond, not, ◌&&◌, List, [], ◌∷◌, ◌++◌, length, take, set, slice_get, Option, Some, None, ap, sym, subst, ◌∙◌, ⊎_elim, refl, arith}
use Rattle.std.specs.Prelude.{nat_le}
use Rattle.std.proofs.lemmas.Bool.{cases_Bool, false≢true}
use Rattle.std.proofs.lemmas.List.{get_or-set_same, get_or-set_other}
use Rattle.law_driver.proofs.Common.{waits_is}
use Rattle.usb_base.specs.declared.endpoints.EndCause.{EndCause}
use Rattle.usb_base.specs.declared.endpoints.EndCause.TheVariants as causes
use Rattle.usb_base.specs.declared.reports.Report.{Report}
use Rattle.usb_base.specs.declared.reports.What.{What}
use Rattle.usb_base.specs.declared.reports.What.TheVariants as lines
use Rattle.drv_periodic_table.specs.Descriptors.{told_bytes}
use Rattle.drv_periodic_table.specs.Periodic.{note_at as descriptor_at}
use Rattle.drv_periodic_table.specs.declared.content.Removed.TheVariants as removed
use Rattle.drv_table.specs.declared.content.Endpoint.{Endpoint}
use Rattle.drv_table.specs.declared.content.QtdNote.{QtdNote}
use Rattle.drv_table.specs.declared.content.Transfer.{Transfer}
use Rattle.drv_table.specs.declared.rows.DriverRow.{DriverRow}
use Rattle.drv_table.specs.declared.rows.DriverRow.TheVariants as rows
use Rattle.drv_table.specs.declared.rows.Found.{Found}
use Rattle.drv_table.specs.declared.rows.Found.TheVariants as founds
use Rattle.drv_table.specs.DriverContent.{DriverContent, waits_for}
use Rattle.drv_table.specs.Harvests.{note_at, noted, is_stall, end_of, reported, moved_bytes}
use Rattle.drv_table.specs.Harvesting.{served, told_with, behind_one, behind, mends_of, stalled, after_end, harvested_as, after_harvest}
use Rattle.drv_table.specs.Parts.{Parts}
use Rattle.drv_table.specs.Releases.{after_endpoint, cancelled_bytes, is_told, ended_by_cancel}
use Rattle.drv_table.specs.Removals.{after_placed}
use Rattle.drv_table.specs.Rows.{driver_row, after_driver_row}
use Rattle.drv_table.specs.Words.{is_control}
use Rattle.law_driver.specs.run_owners.Due.{IsDue, IsHarvestDue}
use Rattle.law_driver.proofs.lemmas.run_owners.Reasons.{each_event_is_due}
use Rattle.law_driver.proofs.lemmas.chained_transfers.Stalled.{IsToldOf, told_set, told_both, behind_tells}
use Rattle.law_footprints.proofs.Fields.{reports_stays, store_stays}
use Rattle.law_footprints.specs.Footprint.{footprint}
use Rattle.law_telling.specs.Laws.{DriversTellForReasons}
use Rattle.claims_answers.specs.Telling.{token_of, is_get, HasReason, IsUntold, Reason, by_token, behind as told_behind, by_slots, by_cancel, AreTold, nothing, one_more}
use Rattle.law_telling.proofs.Tokens.{IsEndedIn, IsServedIn, found_ends, found_served}
use Rattle.law_telling.proofs.Bytes.{moved_is, cancelled_is, slots_are}

-- ---- a harvest

module _ (p : Parts) (e t : ℕ) (found : Found) (due : IsHarvestDue p e t found) where
  abbrev x : Endpoint
  x = due.endpoint

  abbrev y : Transfer
  y = due.transfer

  of_e : due.transfer.endpoint ≡ e
  of_e = (waits_is e due.transfer due.waits).0

  -- the transfer, as a line of its endpoint tells it
  of_line : (line : Report) → line.name ≡ due.endpoint.desc.name → IsUntold p line
  of_line line name = record {
    number = t;
    transfer = due.transfer;
    there = due.there;
    untold = (waits_is e due.transfer due.waits).1;
    endpoint = due.endpoint;
    here = ap (slice_get p.driver.endpoints) of_e ∙ due.here;
    going = due.goes_on;
    name = name;
  }

  abbrev notes_after : ℕ → List QtdNote
  notes_after n = noted p.driver.notes due.transfer.place n

  abbrev bytes_after : ℕ → List ℕ
  bytes_after n =
      take due.transfer.most (moved_bytes (noted p.driver.notes due.transfer.place n) p.memory due.transfer.first due.transfer.qtds)

  abbrev line_after : ℕ → What → Report
  line_after n what = record { name = due.endpoint.desc.name; what = what; from = length p.driver.store; len = length (bytes_after n) }

  by_its_token : (n : ℕ) (what : What) → IsEndedIn p due.transfer n what → Reason p (notes_after n) (line_after n what) (bytes_after n)
  unfolding of_line
  by_its_token n what ended = by_token (record {
    of = of_line (line_after n what) refl;
    qtds = ended.qtds;
    reason = ended.reason;
    noted = λ within. ap (λ (q : QtdNote). q.moved)
        (get_or-set_same p.driver.notes due.transfer.place (record (note_at p.driver.notes due.transfer.place) { moved = n }) _ within) ∙
        ended.count;
    others = λ b differs. get_or-set_other p.driver.notes due.transfer.place b
        (record (note_at p.driver.notes due.transfer.place) { moved = n }) _ differs;
    bytes_are =
        ap (take due.transfer.most) (moved_is (noted p.driver.notes due.transfer.place n) p.memory due.transfer.first due.transfer.qtds);
  })

  -- its line alone
  first_line : (n : ℕ) (what : What) → IsEndedIn p due.transfer n what
      → AreTold p (notes_after n) (p.driver.reports ++ line_after n what ∷ []) (p.driver.store ++ bytes_after n)
  first_line n what ended =
      one_more p.driver.reports p.driver.store (bytes_after n) (line_after n what) nothing (by_its_token n what ended) refl refl

  -- ---- the requests behind a stalled one

  module _ (notes : List QtdNote) (control : is_control due.endpoint.desc.kind ≡ true)
      (reason : HasReason (is_get due.transfer.sort) (nat_le due.transfer.left 1) (token_of p.memory due.transfer.place)
      (lines.Halt causes.Stall)) where
    record IsGoing (f : DriverContent) : Type 0 where
      told : AreTold p notes f.reports f.store
      later : (k : ℕ) (z : Transfer) → slice_get f.transfers k ≡ Some z → IsToldOf p.driver.transfers k z

    untold_before : (z : Transfer) (one : Transfer) → (one.reported ≡ true → z.reported ≡ true) → z.reported ≡ false → one.reported ≡ false
    untold_before z one told off = ⊎_elim (λ (on : one.reported ≡ true). absurd (false≢true (sym off ∙ told on)))
        (λ (w : one.reported ≡ false). w) (cases_Bool one.reported)

    behind_reason : (k : ℕ) (z : Transfer) (line : Report) → t < k → IsToldOf p.driver.transfers k z → waits_for e z ≡ true
        → line.name ≡ due.endpoint.desc.name → line.what ≡ lines.Halt causes.Stall → Reason p notes line []
    behind_reason k z line after was waits name what =
        let w = waits_is e z waits in
        let at : was.one.endpoint ≡ e = sym (ap (λ (r : Transfer). r.endpoint) was.is) ∙ w.0 in
        told_behind (record {
          of = record {
            number = k;
            transfer = was.one;
            there = was.here;
            untold = untold_before z was.one was.told w.1;
            endpoint = due.endpoint;
            here = ap (slice_get p.driver.endpoints) at ∙ due.here;
            going = due.goes_on;
            name = name;
          };
          control = control;
          first = t;
          stalled = due.transfer;
          there = due.there;
          before = after;
          same = of_e ∙ sym at;
          untold = (waits_is e due.transfer due.waits).1;
          reason = reason;
          what = what;
          bytes_are = refl;
        })

    abbrev stall_line : DriverContent → Report
    stall_line f = record { name = due.endpoint.desc.name; what = lines.Halt causes.Stall; from = length f.store; len = 0 }

    one_behind : (k : ℕ) (f : DriverContent) (o : Option Transfer) → t < k → slice_get f.transfers k ≡ o → IsGoing f
        → IsGoing (behind_one f e due.endpoint.desc.name k o)
    one_behind k f None after there old = old
    one_behind k f (Some z) after there old = by (waits_for e z) refl
      where
        by : (b : Bool) → waits_for e z ≡ b
            → IsGoing (cond b (record (reported f (lines.Halt causes.Stall) due.endpoint.desc.name [])
            { transfers = set f.transfers k (record z { reported = true }); harvested = f.harvested ++ k ∷ [] }) f)
        by true on = record {
          told = one_more f.reports f.store [] (stall_line f) old.told
              (behind_reason k z (stall_line f) after (old.later k z there) on refl refl) refl refl;
          later = λ i w at. let v = told_set f.transfers k z there i w at in told_both p.driver.transfers f.transfers i w v
              (old.later i v.one v.here);
        }
        by false off = old

    all_behind : (n k : ℕ) (f : DriverContent) → t < k → IsGoing f → IsGoing (behind f e due.endpoint.desc.name k n)
    unfolding behind
    all_behind zero k f after old = old
    all_behind (suc n) k f after old =
        all_behind n (suc k) (behind_one f e due.endpoint.desc.name k (slice_get f.transfers k)) (omega (arith, after))
        (one_behind k f (slice_get f.transfers k) after refl old)

  -- ---- what is found

  abbrev ToldIn : DriverContent → Type 0
  ToldIn f = AreTold p f.notes f.reports f.store

  -- only a control endpoint goes on after a STALL
  stall_is : (what : What) → is_stall what ≡ true → what ≡ lines.Halt causes.Stall
  stall_is (lines.Halt causes.Stall) is = refl
  stall_is (lines.Halt causes.Error) is = absurd (false≢true is)
  stall_is (lines.Halt causes.Babble) is = absurd (false≢true is)
  stall_is (lines.Halt causes.Miss) is = absurd (false≢true is)
  stall_is (lines.Halt causes.Cancel) is = absurd (false≢true is)
  stall_is lines.Done is = absurd (false≢true is)
  stall_is lines.Miss is = absurd (false≢true is)
  stall_is lines.Cancel is = absurd (false≢true is)
  stall_is (lines.Iso errors) is = absurd (false≢true is)
  stall_is (lines.Refused line why) is = absurd (false≢true is)
  stall_is lines.Clear is = absurd (false≢true is)
  stall_is (lines.ClearFailed cause) is = absurd (false≢true is)
  stall_is (lines.Port port value) is = absurd (false≢true is)
  stall_is (lines.Disk tag passed) is = absurd (false≢true is)
  stall_is lines.DiskReset is = absurd (false≢true is)

  control_is : (what : What) → what ≡ lines.Halt causes.Stall → end_of due.endpoint.desc.kind what ≡ None
      → is_control due.endpoint.desc.kind ≡ true
  control_is what what_is none = by (is_control due.endpoint.desc.kind) (sym (ap (end_of due.endpoint.desc.kind) what_is) ∙ none)
    where
      by : (b : Bool) → ◌≡◌ {A = Option EndCause} (cond b None (Some causes.Stall)) None → b ≡ true
      by true w = refl
      by false w = absurd (cc)

  stalled_told : (n : ℕ) (what : What) → IsEndedIn p due.transfer n what → is_stall what ≡ true → end_of due.endpoint.desc.kind what ≡ None
      → ToldIn (stalled (told_with p.driver p.memory t due.transfer what due.endpoint.desc.name (notes_after n)) e t due.endpoint)
  stalled_told n what ended stall none =
      let f : DriverContent = told_with p.driver p.memory t due.transfer what due.endpoint.desc.name (notes_after n) in
      let g : DriverContent = record f {
        harvested = f.harvested ++ t ∷ [];
        endpoints = set f.endpoints e (record due.endpoint { next = None });
        mends = f.mends ++
            mends_of due.endpoint;
      } in
      let k : ℕ = length f.transfers - suc t in
      let what_is = stall_is what stall in
      let reason = subst (HasReason (is_get due.transfer.sort) (nat_le due.transfer.left 1) (token_of p.memory due.transfer.place)) what_is
      ended.reason in
      let going : IsGoing (notes_after n) (control_is what what_is none) reason (behind g e due.endpoint.desc.name (suc t) k) =
      all_behind (notes_after n) (control_is what what_is none) reason k (suc t) g (omega arith)
      (record { told = first_line n what ended; later = λ i z at. told_set p.driver.transfers t due.transfer due.there i z at }) in
      subst (λ (ns : List QtdNote). AreTold p ns (behind g e due.endpoint.desc.name (suc t) k).reports
      (behind g e due.endpoint.desc.name (suc t) k).store)
      (sym (behind_tells g e due.endpoint.desc.name (suc t) k).notes) going.told

  ended_told : (n : ℕ) (what : What) (stall : Bool) (o : Option EndCause) → IsEndedIn p due.transfer n what → is_stall what ≡ stall
      → end_of due.endpoint.desc.kind what ≡ o
      → ToldIn (after_end (told_with p.driver p.memory t due.transfer what due.endpoint.desc.name (notes_after n)) e t due.endpoint stall o)
  ended_told n what stall (Some cause) ended s o = first_line n what ended
  ended_told n what false None ended s o = first_line n what ended
  ended_told n what true None ended s o = stalled_told n what ended s o

  abbrev slots_bytes : List ℕ
  slots_bytes = take due.transfer.most (told_bytes (descriptor_at p.driver.periodic.notes due.transfer.first) p.memory due.transfer.first)

  abbrev slots_line : ℕ → Report
  slots_line errors =
      record { name = due.endpoint.desc.name; what = lines.Iso errors; from = length p.driver.store; len = length slots_bytes }

  slots_told : (errors : ℕ) → IsServedIn p due.transfer errors
      → AreTold p p.driver.notes (p.driver.reports ++ slots_line errors ∷ []) (p.driver.store ++ slots_bytes)
  unfolding of_line
  slots_told errors s =
      one_more p.driver.reports p.driver.store slots_bytes (slots_line errors) nothing
      (by_slots (record {
        of = of_line (slots_line errors) refl;
        descriptor = s.descriptor;
        served = s.served;
        what = ap lines.Iso s.count;
        bytes_are = ap (take due.transfer.most)
            (slots_are (descriptor_at p.driver.periodic.notes due.transfer.first) p.memory due.transfer.first);
      })) refl refl

  found_told : (z : Found) → found ≡ z → ToldIn (harvested_as p.driver p.memory e t due.endpoint due.transfer z)
  found_told founds.Active is = nothing
  found_told (founds.Moved n) is = moved_told n
    where
      moved_told : (k : ℕ) → ToldIn (harvested_as p.driver p.memory e t due.endpoint due.transfer (founds.Moved k))
      moved_told k = nothing
  found_told (founds.Served errors) is = slots_told errors (found_served p due.transfer errors due.transfer.sort refl (sym due.tells ∙ is))
  found_told (founds.Ended n what) is =
      ended_told n what (is_stall what) (end_of due.endpoint.desc.kind what)
      (found_ends p due.transfer n what due.transfer.sort refl (sym due.tells ∙ is)) refl refl

  harvest_told : ToldIn (after_driver_row (rows.Harvest e t found) p).driver
  harvest_told =
      subst (λ (o : Option Endpoint). ToldIn (after_harvest p.driver p.memory e t found o (slice_get p.driver.transfers t))) (sym due.here)
      (subst (λ (o : Option Transfer). ToldIn (after_harvest p.driver p.memory e t found (Some due.endpoint) o)) (sym due.there)
      (subst (λ (b : Bool). ToldIn (cond b (served (harvested_as p.driver p.memory e t due.endpoint due.transfer found) e) p.driver))
      (sym due.waits)
      (found_told found refl)))

-- ---- a cancelled endpoint is given back

module _ (p : Parts) (e : ℕ) (x : Endpoint) (here : slice_get p.driver.endpoints e ≡ Some x) where
  abbrev gone_bytes : List ℕ
  gone_bytes = cancelled_bytes p.driver.notes p.memory e x.queue p.driver.transfers

  abbrev cancel_line : Report
  cancel_line = record { name = x.desc.name; what = lines.Cancel; from = length p.driver.store; len = length gone_bytes }

  by_its_cancel : (o : Option EndCause) → x.ended ≡ o → ended_by_cancel o ≡ true → o ≡ Some causes.Cancel
  by_its_cancel (Some causes.Cancel) is on = refl
  by_its_cancel (Some causes.Stall) is on = absurd (false≢true on)
  by_its_cancel (Some causes.Error) is on = absurd (false≢true on)
  by_its_cancel (Some causes.Babble) is on = absurd (false≢true on)
  by_its_cancel (Some causes.Miss) is on = absurd (false≢true on)
  by_its_cancel None is on = absurd (false≢true on)

  three : (a b c : Bool) → a && b && not c ≡ true → (a ≡ true) × (b ≡ true) × (c ≡ false)
  three true true false w = (refl, refl, refl)
  three true true true w = absurd (false≢true w)
  three true false c w = absurd (false≢true w)
  three false b c w = absurd (false≢true w)

  cancel_line_told : is_told x ≡ true → AreTold p p.driver.notes (p.driver.reports ++ cancel_line ∷ []) (p.driver.store ++ gone_bytes)
  cancel_line_told on =
      let w = three (ended_by_cancel x.ended) x.cancelled x.gone on in
      one_more p.driver.reports p.driver.store gone_bytes cancel_line nothing
      (by_cancel (record {
        number = e;
        endpoint = x;
        here = here;
        cancelled = w.1;
        ended = by_its_cancel x.ended refl w.0;
        kept = w.2;
        name = refl;
        what = refl;
        bytes_are = cancelled_is p e x.queue p.driver.transfers;
      })) refl refl

  told_by : (b : Bool) → is_told x ≡ b
      → AreTold p (cond b (reported p.driver lines.Cancel x.desc.name gone_bytes) p.driver).notes
      (cond b (reported p.driver lines.Cancel x.desc.name gone_bytes) p.driver).reports
      (cond b (reported p.driver lines.Cancel x.desc.name gone_bytes) p.driver).store
  told_by true on = cancel_line_told on
  told_by false off = nothing

abbrev ToldAfter : Parts → DriverContent → Type 0
ToldAfter p f = AreTold p f.notes f.reports f.store

endpoint_told : (p : Parts) (e : ℕ) (o : Option Endpoint) → slice_get p.driver.endpoints e ≡ o → ToldAfter p (after_endpoint p e o).driver
endpoint_told p e None here = nothing
endpoint_told p e (Some x) here = told_by p e x here (is_told x) refl

placed_told : (p : Parts) (e : ℕ) (o : Option Endpoint) → slice_get p.driver.endpoints e ≡ o → ToldAfter p (after_placed p e o).driver
placed_told p e None here = nothing
placed_told p e (Some x) here = told_by p e x here (is_told x) refl

-- ---- any event

quiet : (row : DriverRow) (p : Parts) → (footprint row p.driver.command).reports ≡ false → (footprint row p.driver.command).store ≡ false
    → ToldAfter p (after_driver_row row p).driver
quiet row p reports store =
    subst (λ (rs : List Report). AreTold p (after_driver_row row p).driver.notes rs (after_driver_row row p).driver.store)
    (sym (reports_stays row p p.driver.command refl reports))
    (subst (λ (bs : List ℕ). AreTold p (after_driver_row row p).driver.notes p.driver.reports bs)
    (sym (store_stays row p p.driver.command refl store)) nothing)

due_told : (row : DriverRow) (p : Parts) → IsDue p row → ToldAfter p (after_driver_row row p).driver
due_told (rows.ReleaseRemoved (removed.Endpoint e)) p due = placed_told p e (slice_get p.driver.endpoints e) refl
due_told (rows.ReleaseEndpoint e) p due = endpoint_told p e (slice_get p.driver.endpoints e) refl
due_told (rows.Harvest e t found) p due = harvest_told p e t found due
due_told row p due = quiet row p refl refl

pub drivers_tell_for_reasons : DriversTellForReasons
drivers_tell_for_reasons p = due_told (driver_row p) p (each_event_is_due p)
