-- The row of a harvest.
use Rattle.std.proofs.Common.{◌≡◌, ◌≢◌, ℕ, zero, suc, ◌+◌, ◌-◌, ◌*◌, ◌≤◌, ◌==◌, ◌&&◌, ◌||◌, not, nat_eq, nat_le, Bool, true, false, if◌then◌else◌, List, [], ◌∷◌, ◌++◌, length, take, drop, position, slice_get, slice_set, Option, Some, None, ap, refl, sym, subst, ◌∙◌, ⊎_elim, arith}
use Rattle.std.specs.Option.{option_map}
use Rattle.std.proofs.lemmas.Bool.{cases_eq, eq-eqb, leb-false}
use Rattle.std.proofs.lemmas.Option.{same_Some, get_or_from_slice_get}
use Rattle.std.proofs.lemmas.List.Quantifiers.{position-Some}
use Rattle.law_driver.proofs.Common.{waits_is}
use Rattle.law_common.proofs.Numbers.{other_number}
use Rattle.law_common.proofs.Lists.{set_here, set_there}
use Rattle.usb_base.specs.declared.endpoints.EndCause.{EndCause}
use Rattle.usb_base.specs.declared.endpoints.EndCause.TheVariants as causes
use Rattle.usb_base.specs.declared.packets.EpKind.{EpKind}
use Rattle.usb_base.specs.declared.packets.EpKind.TheVariants as kinds
use Rattle.usb_base.specs.declared.reports.Report.{Report}
use Rattle.usb_base.specs.declared.reports.What.{What}
use Rattle.usb_base.specs.declared.reports.What.TheVariants as lines
use Rattle.word_mem.specs.Memory.{Mem}
use Rattle.law_structures.specs.lent_structures.Structures.{StructureSets}
use Rattle.law_ring.specs.Hand.{Hand}
use Rattle.claims_report.specs.Reports.{is_refusal, is_end}
use Rattle.claims_report.specs.Streams.{has_stream}
use Rattle.drv_table.specs.declared.content.Endpoint.{Endpoint}
use Rattle.drv_table.specs.declared.content.Transfer.{Transfer}
use Rattle.drv_table.specs.declared.content.QtdNote.{QtdNote}
use Rattle.drv_table.specs.declared.rows.Found.{Found}
use Rattle.drv_table.specs.declared.rows.Found.TheVariants as founds
use Rattle.drv_table.specs.DriverContent.{DriverContent, waits_for, next_after}
use Rattle.law_driver.specs.endpoint_lives.Lives.{told_end}
use Rattle.law_driver.proofs.lemmas.endpoint_lives.Lives.{told_other}
use Rattle.drv_table.specs.Harvests.{note_at, noted, token_in, moved_of, moved_bytes, is_get, found_in, halt_of, done_of, ends_by, end_of, is_stall}
use Rattle.drv_table.specs.Releases.{ended_by_cancel}
use Rattle.drv_table.specs.Harvesting.{found_of, served, moved_on, told_with, goes_on as goes_on_with, after_end, harvested_as, after_harvest}
use Rattle.claims_driver.specs.Owners.{note_in}
use Rattle.law_driver.specs.chained_transfers.Turns.{IsAtPlace}
use Rattle.law_driver.proofs.lemmas.chained_transfers.Ways.{found_by}
use Rattle.law_queues.specs.told_endpoints.Telling.{named_of, named_in, TellsEach}
use Rattle.law_queues.specs.told_endpoints.Steps.{Grows, Clears, NamesAt}
use Rattle.law_queues.proofs.lemmas.told_endpoints.Tellings.{adds_held, adds_bytes}
use Rattle.law_driver_ring.specs.told_harvests.Held.{IsDone, IsRead, NotesMoved}
use Rattle.law_driver_ring.proofs.lemmas.told_harvests.Noting.{found_is_done, found_is_noted}
use Rattle.law_driver_ring.proofs.lemmas.told_harvests.Reading.{report_read}
use Rattle.law_queues.specs.harvest_laws.Holds.{HoldsEach}
use Rattle.law_queues.specs.harvest_laws.Harvest.{Harvests}
use Rattle.law_queues.specs.harvest_laws.Row.{IsFoundDone, goes_on, ends, HadQueue, HarvestTells}
use Rattle.law_queues.proofs.lemmas.harvest_laws.Places.{runs_noted, told_noted, read_noted, read_fewer, read_at}
use Rattle.law_queues.proofs.lemmas.harvest_laws.Holding.{holds_the_same, moved_holds, ended_holds, done_more, rest_less}

-- ---- the next one that waits

got_dropped : (ts : List Transfer) (n i : ℕ) → slice_get (drop n ts) i ≡ slice_get ts (n + i)
got_dropped ts zero i = ap (slice_get ts) (let e : i ≡ 0 + i = omega arith in e)
got_dropped [] (suc n) i = none i ∙ sym (none (suc n + i))
  where
    none : (k : ℕ) → slice_get {X = Transfer} [] k ≡ None
    none zero = refl
    none (suc k) = refl
got_dropped (y ∷ ts) (suc n) i = got_dropped ts n i ∙ ap (slice_get (y ∷ ts)) (let e : suc (n + i) ≡ suc n + i = omega arith in e)

mapped : (o : Option ℕ) (t u : ℕ) → option_map (λ (i : ℕ). suc t + i) o ≡ Some u → (i : ℕ) × (o ≡ Some i) × (suc t + i ≡ u)
mapped None t u is = absurd cc
mapped (Some i) t u is = (i, refl, same_Some (suc t + i) u is)

pub next_waits_for : (ts : List Transfer) (e t u : ℕ) (z : Transfer) → next_after ts e t ≡ Some u → slice_get ts u ≡ Some z → (z.endpoint ≡ e) × (z.reported ≡ false)
next_waits_for ts e t u z is there =
    let m = mapped (position (waits_for e) (drop (suc t) ts)) t u is in
    let at : slice_get (drop (suc t) ts) m.0 ≡ Some z = got_dropped ts (suc t) m.0 ∙ ap (slice_get ts) m.2 ∙ there in
    let first = position-Some (waits_for e) (drop (suc t) ts) m.0 z m.1 in
    waits_is e z (ap (waits_for e) (sym (get_or_from_slice_get (drop (suc t) ts) m.0 z z at)) ∙ first.1)

-- ---- functions at one endpoint

pub grown_at : (e : ℕ) (more : List ℕ) (held : ℕ → List ℕ) → Grows e more held (λ f. if f == e then held f ++ more else held f)
grown_at e more held = record {
  here = ap (λ (b : Bool). if b then held e ++ more else held e) (eq-eqb e e refl);
  beside = λ f differs. ap (λ (b : Bool). if b then held f ++ more else held f) (other_number f e differs);
}

pub cleared_at : (e : ℕ) (held : ℕ → List ℕ) → Clears e held (λ f. if f == e then [] else held f)
cleared_at e held = record {
  here = ap (λ (b : Bool). if b then [] else held e) (eq-eqb e e refl);
  beside = λ f differs. ap (λ (b : Bool). if b then [] else held f) (other_number f e differs);
}

pub names_at : (xs : List Endpoint) (e : ℕ) (x w : Endpoint) → slice_get xs e ≡ Some x → NamesAt e (named_of w) (named_in xs) (named_in (slice_set xs e w))
names_at xs e x w here = record {
  here = ap (option_map named_of) (set_here xs e x w here);
  beside = λ f differs. ap (option_map named_of) (set_there xs e f w differs);
}

-- ---- the row

module _ (d : DriverContent) (m : Mem) (parts : StructureSets) (hand : Hand) (e t : ℕ) (x : Endpoint) (y : Transfer) (h : Harvests d e t x y) (bytes : List ℕ) (f : IsFoundDone d m parts hand x y bytes) (held told : ℕ → List ℕ) (holds : HoldsEach d hand parts held) (tells : TellsEach d.reports d.store (named_in d.endpoints) held told) where
  abbrev count : ℕ
  count = moved_of (note_at d.notes y.place).told (token_in m y.place).total

  abbrev notes_now : List QtdNote
  notes_now = noted d.notes y.place count

  at : IsAtPlace (note_in d.notes) y
  at = h.places t y h.next.transfer (h.waits e t x y h.next).1 f.kept

  it_reads : IsRead (parts (32 * x.queue)) (note_at d.notes y.place) y.place
  it_reads =
      let some = h.some in
      let most = h.most in
      subst (λ (b : ℕ). IsRead (parts (32 * x.queue)) (note_at d.notes b) b) (sym at.place) (read_at (parts (32 * x.queue)) d.notes y.first (y.qtds - y.left) y.qtds (omega (arith, some, most)) f.read)

  it_done : IsDone hand parts (32 * x.queue) y.place count bytes
  it_done = found_is_done m parts hand (32 * x.queue) y.place bytes (note_at d.notes y.place) f.tells f.on it_reads f.off f.told

  it_noted : NotesMoved (note_at d.notes) (note_at notes_now) y.place count
  it_noted = found_is_noted d.notes y.place (token_in m y.place).total

  notes_same : (c : ℕ) → note_in notes_now c ≡ note_in d.notes c
  notes_same c = runs_noted d.notes notes_now y.place count it_noted c

  -- ---- it doesn't end its transfer

  moved_row : 2 ≤ y.left → HarvestTells d (served (moved_on d t y count) e) hand parts e t y bytes held told
  moved_row more = record {
    later = λ g. if g == e then held g ++ bytes else held g;
    holds = holds_the_same _ (served (moved_on d t y count) e) hand parts (λ g. if g == e then held g ++ bytes else held g) refl refl refl
        (moved_holds d e t x y h count bytes hand parts held holds it_done notes_now it_noted (λ g. if g == e then held g ++ bytes else held g) more (grown_at e bytes held));
    tells = λ now grows.
        adds_held d.reports d.store (named_in d.endpoints) held (λ g. if g == e then held g ++ bytes else held g) told now e (named_of x) bytes (ap (option_map named_of) h.next.endpoint) h.next.going (grown_at e bytes held) grows tells;
    transfer = record y { place = (note_at d.notes y.place).next; left = y.left - 1 };
    reads = goes_on;
    transfers = refl;
    command = refl;
    queues = λ g z there. record { endpoint = z; here = there; same = refl; gone = refl };
    notes = λ c. notes_same c;
  }

  -- ---- it ends its transfer

  abbrev report_now : List ℕ
  report_now = take y.most (moved_bytes notes_now m y.first y.qtds)

  report_is : report_now ≡ held e ++ bytes
  report_is =
      let some = h.some in
      let most = h.most in
      report_read m parts hand (32 * x.queue) f.tells f.on notes_now y.first (suc (y.qtds - y.left)) (note_at d.notes y.place).next (y.left - 1) y.qtds y.most (held e ++ bytes) (omega (arith, some, most))
      (done_more d e t x y h count bytes hand parts held holds it_done notes_now it_noted)
      (read_fewer (parts (32 * x.queue)) (note_at notes_now) y.first (suc (y.qtds - y.left)) y.qtds (omega (arith, some, most)) (read_noted (parts (32 * x.queue)) (note_at d.notes) (note_at notes_now) y.place count it_noted y.first y.qtds f.read))
      (rest_less d e t x y h count bytes hand parts held holds it_done notes_now it_noted)
      (let same = told_noted (note_at d.notes) (note_at notes_now) y.place count it_noted y.first y.qtds in let within = holds.within t y h.next.transfer kept in omega (arith, same, within))
    where
      kept : y.released ≡ false
      kept = f.kept

  -- what it leaves but for the endpoint
  record Reports (what : What) (w : Endpoint) (new : DriverContent) : Type 0 where
    reports : new.reports ≡ d.reports ++ (record { name = x.desc.name; what = what; from = length d.store; len = length report_now }) ∷ []
    store : new.store ≡ d.store ++ report_now
    endpoints : new.endpoints ≡ slice_set d.endpoints e w
    transfers : new.transfers ≡ slice_set d.transfers t (record y { reported = true })
    notes : new.notes ≡ notes_now
    command : new.command ≡ d.command

  ended_row : (what : What) (w : Endpoint) (new : DriverContent) → Reports what w new → w.desc ≡ x.desc → w.queue ≡ x.queue → w.gone ≡ x.gone → is_refusal what ≡ false → (told_end w ≡ None → is_end what ≡ false)
      → ((u : ℕ) (z : Transfer) → told_end w ≡ None → w.next ≡ Some u → slice_get (slice_set d.transfers t (record y { reported = true })) u ≡ Some z → (z.endpoint ≡ e) × (z.reported ≡ false))
      → HarvestTells d new hand parts e t y bytes held told
  ended_row what w new r same queue gone tells_it goes waits_next = record {
    later = λ g. if g == e then [] else held g;
    holds = holds_the_same _ new hand parts (λ g. if g == e then [] else held g) r.endpoints r.transfers r.notes
        (ended_holds d e t x y h count bytes hand parts held holds it_done notes_now it_noted w (λ g. if g == e then [] else held g) (cleared_at e held) waits_next);
    tells = λ now grows.
        subst (λ (xs : List Endpoint). TellsEach new.reports new.store (named_in xs) (λ g. if g == e then [] else held g) now) (sym r.endpoints)
        (subst (λ (ls : List Report). TellsEach ls new.store (named_in (slice_set d.endpoints e w)) (λ g. if g == e then [] else held g) now) (sym r.reports)
        (subst (λ (bs : List ℕ). TellsEach (d.reports ++ (record { name = x.desc.name; what = what; from = length d.store; len = length report_now }) ∷ []) bs (named_in (slice_set d.endpoints e w)) (λ g. if g == e then [] else held g) now) (sym r.store)
        (adds_bytes d.reports d.store report_now bytes (named_in d.endpoints) (named_in (slice_set d.endpoints e w)) held (λ g. if g == e then [] else held g) told now e (named_of x) (named_of w)
        (record { name = x.desc.name; what = what; from = length d.store; len = length report_now }) (ap (option_map named_of) h.next.endpoint) (names_at d.endpoints e x w h.next.endpoint)
        (record { going = h.next.going; named = ap (λ z. z.name) same; alike = ap (λ z. has_stream z.kind) same; line_named = refl; tells = tells_it; goes_on = goes; from = refl; long = refl; bytes_are = report_is }) (cleared_at e held) grows tells)));
    transfer = record y { reported = true };
    reads = ends;
    transfers = r.transfers;
    command = r.command;
    queues = λ g z there. had_queue g z (ap (λ (xs : List Endpoint). slice_get xs g) (sym r.endpoints) ∙ there);
    notes = λ c. ap (λ (ns : List QtdNote). note_in ns c) r.notes ∙ notes_same c;
  }
    where
      had_queue : (g : ℕ) (z : Endpoint) → slice_get (slice_set d.endpoints e w) g ≡ Some z → HadQueue d g z
      had_queue g z there =
          ⊎_elim (λ (is : g ≡ e).
          let z_is : z ≡ w = same_Some z w (sym there ∙ ap (slice_get (slice_set d.endpoints e w)) is ∙ set_here d.endpoints e x w h.next.endpoint) in
          record { endpoint = x; here = ap (slice_get d.endpoints) is ∙ h.next.endpoint; same = ap (λ (v : Endpoint). v.queue) z_is ∙ queue; gone = ap (λ (v : Endpoint). v.gone) z_is ∙ gone })
          (λ (differs : g ≢ e). record { endpoint = z; here = sym (set_there d.endpoints e g w differs) ∙ there; same = refl; gone = refl }) (cases_eq g e)

  -- ---- by what is found

  abbrev row_of : Found → DriverContent
  row_of found = served (harvested_as d m e t x y found) e

  -- an endpoint that such a cause ended has ended as far as its report has it
  no_cause : (cause : EndCause) → ended_by_cancel (Some cause) ≡ false → told_end (record x { ended = Some cause }) ≡ None → ⊥
  no_cause cause other is = let none : ◌≡◌ {A = Option EndCause} (Some cause) None = sym (told_other (record x { ended = Some cause }) other) ∙ is in cc

  with_cause : (what : What) (cause : EndCause) → ended_by_cancel (Some cause) ≡ false → is_refusal what ≡ false → end_of x.desc.kind what ≡ Some cause → HarvestTells d (row_of (founds.Ended count what)) hand parts e t y bytes held told
  with_cause what cause other tells_it end =
      let told_d : DriverContent = told_with d m t y what x.desc.name notes_now in
      subst (λ (o : Option EndCause). HarvestTells d (served (after_end told_d e t x (is_stall what) o) e) hand parts e t y bytes held told) (sym end)
      (ended_row what (record x { ended = Some cause }) (served (after_end told_d e t x (is_stall what) (Some cause)) e) (record { reports = refl; store = refl; endpoints = refl; transfers = refl; notes = refl; command = refl }) refl refl refl tells_it
      (λ goes. absurd (no_cause cause other goes)) (λ u z goes next there. absurd (no_cause cause other goes)))

  done_row : HarvestTells d (row_of (founds.Ended count lines.Done)) hand parts e t y bytes held told
  done_row =
      let told_d : DriverContent = told_with d m t y lines.Done x.desc.name notes_now in
      ended_row lines.Done (record x { next = next_after told_d.transfers e t }) (served (goes_on_with told_d e t x) e) (record { reports = refl; store = refl; endpoints = refl; transfers = refl; notes = refl; command = refl }) refl refl refl refl
      (λ goes. refl) (λ u z goes next there. next_waits_for told_d.transfers e t u z next there)

  -- a halt or a miss ends a bulk endpoint
  halted_row : (what : What) → what ≡ halt_of (token_in m y.place) → HarvestTells d (row_of (founds.Ended count what)) hand parts e t y bytes held told
  halted_row what is = by_missed (token_in m y.place).missed (token_in m y.place).babble (nat_eq (token_in m y.place).cerr 0) is
    where
      by_stop : (o : What) (cause : EndCause) → ended_by_cancel (Some cause) ≡ false → is_refusal o ≡ false → end_of kinds.Bulk o ≡ Some cause → what ≡ o → HarvestTells d (row_of (founds.Ended count what)) hand parts e t y bytes held told
      by_stop o cause other tells_it end same = with_cause what cause other (ap is_refusal same ∙ tells_it) (ap (λ (k : EpKind). end_of k what) f.bulk ∙ ap (end_of kinds.Bulk) same ∙ end)

      by_missed : (missed babble none : Bool) → what ≡ (if missed then lines.Miss else if babble then lines.Halt causes.Babble else if none then lines.Halt causes.Error else lines.Halt causes.Stall)
          → HarvestTells d (row_of (founds.Ended count what)) hand parts e t y bytes held told
      by_missed true babble none same = by_stop lines.Miss causes.Miss refl refl refl same
      by_missed false true none same = by_stop (lines.Halt causes.Babble) causes.Babble refl refl refl same
      by_missed false false true same = by_stop (lines.Halt causes.Error) causes.Error refl refl refl same
      by_missed false false false same = by_stop (lines.Halt causes.Stall) causes.Stall refl refl refl same

  -- the others end a transfer where none is left, or some bytes of a get are
  by_end : (last short : Bool) → nat_le y.left 1 ≡ last → HarvestTells d (row_of (done_of (last || short) count)) hand parts e t y bytes held told
  by_end true short is = done_row
  by_end false true is = done_row
  by_end false false is = moved_row (let more = leb-false y.left 1 is in omega (arith, more))

  by_halted : (halted : Bool) → (token_in m y.place).halted ≡ halted
      → HarvestTells d (row_of (if halted then founds.Ended count (halt_of (token_in m y.place)) else done_of (nat_le y.left 1 || (is_get y.sort && not (nat_eq (token_in m y.place).total 0))) count)) hand parts e t y bytes held told
  by_halted true is = halted_row (halt_of (token_in m y.place)) refl
  by_halted false is = by_end (nat_le y.left 1) (is_get y.sort && not (nat_eq (token_in m y.place).total 0)) refl

  found_row : HarvestTells d (row_of (found_in y.sort (nat_le y.left 1) (note_at d.notes y.place) (token_in m y.place))) hand parts e t y bytes held told
  found_row =
      subst (λ (b : Bool). HarvestTells d (row_of (if b then founds.Active else if (token_in m y.place).halted then founds.Ended count (halt_of (token_in m y.place)) else done_of (ends_by y.sort (nat_le y.left 1) (token_in m y.place).total) count)) hand parts e t y bytes held told)
      (sym f.off) (by_halted (token_in m y.place).halted refl)

  pub harvest_tells : (found : Found) → found ≡ found_of d m y y.sort → HarvestTells d (after_harvest d m e t found (Some x) (Some y)) hand parts e t y bytes held told
  harvest_tells found is =
      let own = h.waits e t x y h.next in
      let waits : waits_for e y ≡ true = ap (λ (b : Bool). b && not y.reported) (eq-eqb y.endpoint e own.0) ∙ ap (λ (b : Bool). true && not b) own.1 in
      subst (λ (b : Bool). HarvestTells d (if b then served (harvested_as d m e t x y found) e else d) hand parts e t y bytes held told) (sym waits)
      (subst (λ (z : Found). HarvestTells d (row_of z) hand parts e t y bytes held told) (sym (is ∙ found_by d m y y.sort f.queued)) found_row)
