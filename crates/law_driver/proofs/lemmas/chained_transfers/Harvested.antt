-- A harvest leaves the transfers in turn, each at its place.
use Rattle.std.proofs.Common.{◌≡◌, ◌≢◌, ℕ, suc, ◌-◌, ◌≤◌, Bool, true, false, cond, nat_le, List, [], ◌∷◌, ◌++◌, length, set, slice_get, Option, Some, None, option_map, ap, sym, subst, ◌∙◌, ⊎_elim, refl, arith, inl, inr, nat_eq}
use Rattle.std.proofs.lemmas.Bool.{cases_eq, false≢true}
use Rattle.std.proofs.lemmas.Bool.Decides.{nat_tests}
use Rattle.std.proofs.lemmas.Option.{same_Some}
use Rattle.usb_base.specs.declared.endpoints.EndCause.{EndCause}
use Rattle.usb_base.specs.declared.endpoints.EndCause.TheVariants as causes
use Rattle.usb_base.specs.declared.reports.What.{What}
use Rattle.usb_base.specs.declared.reports.What.TheVariants as lines
use Rattle.usb_base.specs.declared.packets.EpKind.{EpKind}
use Rattle.usb_base.specs.declared.packets.EpKind.TheVariants as kinds
use Rattle.word_mem.specs.Memory.{Mem}
use Rattle.qh_qtd.specs.declared.token.Token.{Token}
use Rattle.drv_table.specs.declared.content.Endpoint.{Endpoint}
use Rattle.drv_table.specs.declared.content.Transfer.{Transfer}
use Rattle.drv_table.specs.declared.content.QtdNote.{QtdNote}
use Rattle.drv_table.specs.declared.content.Sort.{Sort}
use Rattle.drv_table.specs.declared.rows.Found.{Found}
use Rattle.drv_table.specs.declared.rows.Found.TheVariants as founds
use Rattle.drv_table.specs.DriverContent.{DriverContent, waits_for, next_after}
use Rattle.drv_table.specs.Harvests.{note_at, token_in, found_in, done_of, ends_by, moved_of, halt_of, end_of, is_stall, noted}
use Rattle.drv_table.specs.Harvesting.{after_harvest, harvested_as, served, told_with, after_end, goes_on, stalled, mends_of}
use Rattle.drv_table.specs.Releases.{ended_by_cancel}
use Rattle.claims_driver.specs.Owners.{NoteRuns, runs_of_note, note_in}
use Rattle.law_driver.proofs.lemmas.run_owners.Stays.{same_item, same_view}
use Rattle.law_driver.specs.endpoint_lives.Lives.{told_end}
use Rattle.law_driver.proofs.lemmas.endpoint_lives.Lives.{none_told, told_uncancelled}
use Rattle.law_driver.specs.chained_transfers.Chains.{piece_at}
use Rattle.law_driver.specs.chained_transfers.Turns.{IsAtPlace, AreAtPlaces, Turn, turn_of, turn_in, IsNext, AreReportedTo, AreTurnsOf}
use Rattle.law_driver.proofs.lemmas.chained_transfers.Chained.{piece_same}
use Rattle.law_driver.proofs.lemmas.chained_transfers.Turning.{AreInTurnOf, IsChangedAt, changed, changed_plain}
use Rattle.law_driver.proofs.lemmas.chained_transfers.Reporting.{IsFirst, ended_turns, harvested_turns}
use Rattle.law_driver.proofs.lemmas.chained_transfers.Harvesting.{next_waits}
use Rattle.law_driver.proofs.lemmas.chained_transfers.Stalled.{OnlyTells, behind_tells, behind_turns}
use Rattle.std.specs.Prelude.{◌⊎◌}
use Rattle.law_driver.proofs.Common.{piece_next, waits_is}
use Rattle.law_common.proofs.Lists.{set_here, set_there}
use Rattle.drv_table.specs.Words.{is_control}

-- ---- the next piece

pub note_same : (notes : List QtdNote) (b n c : ℕ) → note_in (noted notes b n) c ≡ note_in notes c
note_same notes b n c = same_item runs_of_note notes b (record (note_at notes b) { moved = n }) _ refl c

-- ---- what was found of a get or a put

moved_by : (a h e : Bool) (n k : ℕ) (what : What) → cond a founds.Active (cond h (founds.Ended n what) (done_of e n)) ≡ founds.Moved k → e ≡ false
moved_by true h e n k what f = absurd (cc)
moved_by false true e n k what f = absurd (cc)
moved_by false false true n k what f = absurd (cc)
moved_by false false false n k what f = refl

pub moved_more : (sort : Sort) (left : ℕ) (note : QtdNote) (t : Token) (k : ℕ) → found_in sort (nat_le left 1) note t ≡ founds.Moved k → 2 ≤ left
moved_more sort left note t k f = by (nat_le left 1) refl (moved_by t.active t.halted (ends_by sort (nat_le left 1) t.total) (moved_of note.told t.total) k (halt_of t) f)
  where
    by : (b : Bool) → nat_le left 1 ≡ b → ends_by sort (nat_le left 1) t.total ≡ false → 2 ≤ left
    by true is off = absurd (false≢true (sym off ∙ ap (λ (l : Bool). ends_by sort l t.total) is))
    by false is off = grind (arith, nat_tests)

served_by : (a h e : Bool) (n k : ℕ) (what : What) → cond a founds.Active (cond h (founds.Ended n what) (done_of e n)) ≡ founds.Served k → ⊥
served_by true h e n k what f = cc
served_by false true e n k what f = cc
served_by false false true n k what f = cc
served_by false false false n k what f = cc

pub not_served : (sort : Sort) (last : Bool) (note : QtdNote) (t : Token) (found : Found) → found ≡ found_in sort last note t → (n : ℕ) → found ≢ founds.Served n
not_served sort last note t found is n served = served_by t.active t.halted (ends_by sort last t.total) (moved_of note.told t.total) n (halt_of t) (sym is ∙ served)

-- what halts an endpoint is no cancel
halts_otherwise : (a b c : Bool) (k : EpKind) (cause : EndCause) → end_of k (cond a lines.Miss (cond b (lines.Halt causes.Babble) (cond c (lines.Halt causes.Error) (lines.Halt causes.Stall)))) ≡ Some cause → ended_by_cancel (Some cause) ≡ false
halts_otherwise true b c k cause is = sym (ap ended_by_cancel is)
halts_otherwise false true c k cause is = sym (ap ended_by_cancel is)
halts_otherwise false false true k cause is = sym (ap ended_by_cancel is)
halts_otherwise false false false k cause is = by (is_control k) is
  where
    by : (b : Bool) → cond b None (Some causes.Stall) ≡ Some cause → ended_by_cancel (Some cause) ≡ false
    by true none = absurd (cc)
    by false some = sym (ap ended_by_cancel some)

ended_what : (a h e : Bool) (m n : ℕ) (halt what : What) → cond a founds.Active (cond h (founds.Ended m halt) (done_of e m)) ≡ founds.Ended n what → (what ≡ halt) ⊎ (what ≡ lines.Done)
ended_what true h e m n halt what f = absurd (cc)
ended_what false true e m n halt what f = inl (cc)
ended_what false false true m n halt what f = inr (cc)
ended_what false false false m n halt what f = absurd (cc)

pub ends_otherwise : (sort : Sort) (last : Bool) (note : QtdNote) (t : Token) (found : Found) → found ≡ found_in sort last note t → (n : ℕ) (what : What) (k : EpKind) (cause : EndCause) → found ≡ founds.Ended n what → end_of k what ≡ Some cause
    → ended_by_cancel (Some cause) ≡ false
ends_otherwise sort last note t found is n what k cause ended by_it =
    ⊎_elim (λ (halt : what ≡ halt_of t). halts_otherwise t.missed t.babble (nat_eq t.cerr 0) k cause (ap (end_of k) (sym halt) ∙ by_it))
    (λ (done : what ≡ lines.Done). let none : ◌≡◌ {A = Option EndCause} None (Some cause) = ap (end_of k) (sym done) ∙ by_it in absurd (cc))
    (ended_what t.active t.halted (ends_by sort last t.total) (moved_of note.told t.total) n (halt_of t) what (sym is ∙ ended))

-- an endpoint of this kind doesn't go on after a stall
pub no_stall : (k : EpKind) (what : What) → k ≡ kinds.Bulk → end_of k what ≡ None → is_stall what ≡ false
no_stall kinds.Bulk (lines.Halt causes.Stall) bulk goes = absurd (cc)
no_stall kinds.Bulk (lines.Halt causes.Babble) bulk goes = refl
no_stall kinds.Bulk (lines.Halt causes.Error) bulk goes = refl
no_stall kinds.Bulk (lines.Halt causes.Miss) bulk goes = refl
no_stall kinds.Bulk (lines.Halt causes.Cancel) bulk goes = refl
no_stall kinds.Bulk lines.Done bulk goes = refl
no_stall kinds.Bulk lines.Miss bulk goes = refl
no_stall kinds.Bulk lines.Cancel bulk goes = refl
no_stall kinds.Bulk (lines.Iso n) bulk goes = refl
no_stall kinds.Bulk (lines.Refused n why) bulk goes = refl
no_stall kinds.Bulk lines.Clear bulk goes = refl
no_stall kinds.Bulk (lines.ClearFailed cause) bulk goes = refl
no_stall kinds.Bulk (lines.Port port value) bulk goes = refl
no_stall kinds.Bulk (lines.Disk tag passed) bulk goes = refl
no_stall kinds.Bulk lines.DiskReset bulk goes = refl
no_stall kinds.Iso what bulk goes = absurd (cc)
no_stall kinds.Interrupt what bulk goes = absurd (cc)
no_stall kinds.Control what bulk goes = absurd (cc)

-- ---- places

place_at : (note : ℕ → NoteRuns) (y : Transfer) (before : IsAtPlace note y) (n next : ℕ) → 2 ≤ y.left → next ≡ (note y.place).next → IsAtPlace note (record y { place = next; left = y.left - 1 })
place_at note y before n next more is =
    let some = before.some in
    let most = before.most in
    let step : suc (y.qtds - y.left) ≡ y.qtds - (y.left - 1) = omega (arith, more, most) in
    record {
      some = omega (arith, more);
      most = omega (arith, most);
      place = is ∙ ap (λ (b : ℕ). (note b).next) before.place ∙ sym (piece_next note y.first (y.qtds - y.left)) ∙ ap (piece_at note y.first) step;
    }

pub places_same : (note other : ℕ → NoteRuns) (ts : List Transfer) → ((c : ℕ) → other c ≡ note c) → AreAtPlaces note ts → AreAtPlaces other ts
places_same note other ts same old t y here held =
    let p = old t y here held in
    record { some = p.some; most = p.most; place = p.place ∙ sym (piece_same note other y.first (y.qtds - y.left) same) }

pub places_set : (note : ℕ → NoteRuns) (ts : List Transfer) (t : ℕ) (y z : Transfer) → slice_get ts t ≡ Some y → (z.released ≡ false → IsAtPlace note z) → AreAtPlaces note ts → AreAtPlaces note (set ts t z)
places_set note ts t y z here at old k w there held = ⊎_elim
    (λ (own : k ≡ t).
    let is : w ≡ z = sym (same_Some z w (sym (set_here ts t y z here) ∙ ap (slice_get (set ts t z)) (sym own) ∙ there)) in
    subst (λ (r : Transfer). IsAtPlace note r) (sym is) (at (ap (λ (r : Transfer). r.released) (sym is) ∙ held)))
    (λ (other : k ≢ t). old k w (sym (set_there ts t k z other) ∙ there) held) (cases_eq k t)

-- ---- turns

pub turns_same : (S : ℕ → Type 0) (v w : ℕ → Option Turn) (ends : ℕ → Option Endpoint) (hs : List ℕ) → ((i : ℕ) → w i ≡ v i) → AreTurnsOf S v ends hs → AreTurnsOf S w ends hs
turns_same S v w ends hs same old = record {
  reported = λ t u y z less here there is told. old.reported t u y z less (sym (same t) ∙ here) (sym (same u) ∙ there) is told;
  released = λ t u y z less here there is gone. old.released t u y z less (sym (same t) ∙ here) (sym (same u) ∙ there) is gone;
  told = λ t y here stays gone. old.told t y (sym (same t) ∙ here) stays gone;
  next = λ e x here goes. next e x.next (old.next e x here goes);
  owed = λ t y x here. old.owed t y x (sym (same t) ∙ here);
  order = λ i t u y z at less here there is. old.order i t u y z at less (sym (same t) ∙ here) (sym (same u) ∙ there) is;
}
  where
    next : (e : ℕ) (o : Option ℕ) → AreReportedTo v e o → AreReportedTo w e o
    next e None old = λ u z there. old u z (sym (same u) ∙ there)
    next e (Some t) old = record { transfer = old.transfer; here = same t ∙ old.here; endpoint = old.endpoint; waits = old.waits; before = λ u z less there. old.before u z less (sym (same u) ∙ there) }

-- some are reported, each at its place
tells_in_turn : (S : ℕ → Type 0) (d f : DriverContent) → OnlyTells d f → AreAtPlaces (note_in d.notes) d.transfers → AreTurnsOf S (turn_in f.transfers) (slice_get d.endpoints) f.harvested → AreInTurnOf S f
tells_in_turn S d f each places turns = record {
  places = λ k z at free.
      let was = each.transfers k z at in
      let p = places k was.one was.here (sym (ap (λ (r : Transfer). r.released) was.is) ∙ free) in
      subst (λ (notes : List QtdNote). IsAtPlace (note_in notes) z) (sym each.notes)
      (subst (λ (r : Transfer). IsAtPlace (note_in d.notes) r) (sym was.is) (record { some = p.some; most = p.most; place = p.place }));
  turns = subst (λ (xs : List Endpoint). AreTurnsOf S (turn_in f.transfers) (slice_get xs) f.harvested) (sym each.endpoints) turns;
}

-- ---- a harvest

module _ (S : ℕ → Type 0) (d : DriverContent) (m : Mem) (e t : ℕ) (x : Endpoint) (y : Transfer) (here : slice_get d.endpoints e ≡ Some x) (there : slice_get d.transfers t ≡ Some y) (goes : x.ended ≡ None) (fresh : x.cancelled ≡ false) (next : x.next ≡ Some t)
    (waits : waits_for e y ≡ true) (stays : S e) (old : AreInTurnOf S d) where
  is_next : IsNext (turn_in d.transfers) e t
  is_next = subst (λ (o : Option ℕ). AreReportedTo (turn_in d.transfers) e o) next (old.turns.next e x here (none_told x goes))

  held : y.released ≡ false
  held = by y.released refl
    where
      by : (b : Bool) → y.released ≡ b → y.released ≡ false
      by false is = is
      by true is = absurd (false≢true (sym (waits_is e y waits).1 ∙ old.turns.told t (turn_of y) (ap (option_map turn_of) there) (subst (λ (i : ℕ). S i) (sym (waits_is e y waits).0) stays) is))

  told : List Transfer
  told = set d.transfers t (record y { reported = true })

  first : (z : Endpoint) (c : IsChangedAt (turn_in d.transfers) (turn_in told) t (turn_of y) (record (turn_of y) { reported = true })) (f : IsChangedAt (slice_get d.endpoints) (slice_get (set d.endpoints e z)) e x z)
      → IsFirst S (turn_in d.transfers) (turn_in told) (slice_get d.endpoints) (slice_get (set d.endpoints e z)) d.harvested e t (turn_of y) x z c f
  first z c f = record { endpoint = (waits_is e y waits).0; earlier = λ u w less at of_e. is_next.before u w less at of_e; unreleased = held }

  is_told : IsChangedAt (turn_in d.transfers) (turn_in told) t (turn_of y) (record (turn_of y) { reported = true })
  unfolding told
  is_told = changed turn_of d.transfers t y (record y { reported = true }) there

  ended : (z : Endpoint) (cause : EndCause) → told_end z ≡ Some cause → AreTurnsOf S (turn_in told) (slice_get (set d.endpoints e z)) d.harvested
  ended z cause is =
      let f = changed_plain d.endpoints e x z here in
      ended_turns S (turn_in d.transfers) (turn_in told) (slice_get d.endpoints) (slice_get (set d.endpoints e z)) d.harvested e t (turn_of y) x z is_told f cause is (first z is_told f) old.turns

  earlier : (u : ℕ) (z : Turn) → u ≤ t → turn_in told u ≡ Some z → z.endpoint ≡ e → z.reported ≡ true
  earlier u z low at of_e = ⊎_elim
      (λ (own : u ≡ t). ap (λ (r : Turn). r.reported) (sym (same_Some _ z (sym is_told.here ∙ ap (turn_in told) (sym own) ∙ at))))
      (λ (other : u ≢ t). is_next.before u z (omega (arith, low, other)) (sym (is_told.there u other) ∙ at) of_e) (cases_eq u t)

  done : AreTurnsOf S (turn_in told) (slice_get (set d.endpoints e (record x { next = next_after told e t }))) (d.harvested ++ t ∷ [])
  done =
      let z : Endpoint = record x { next = next_after told e t } in
      let f = changed_plain d.endpoints e x z here in
      harvested_turns S (turn_in d.transfers) (turn_in told) (slice_get d.endpoints) (slice_get (set d.endpoints e z)) d.harvested e t (turn_of y) x z is_told f (none_told x goes)
      (λ g. next_waits told e t earlier) (first z is_told f) old.turns

  told_places : (n : ℕ) → AreAtPlaces (note_in (noted d.notes y.place n)) told
  unfolding told
  told_places n = places_same (note_in d.notes) (note_in (noted d.notes y.place n)) told (note_same d.notes y.place n)
      (places_set (note_in d.notes) d.transfers t y (record y { reported = true }) there (λ h. let p = old.places t y there held in record { some = p.some; most = p.most; place = p.place }) old.places)

  -- it is stalled, and ends with all requests behind it
  stall_as : (n : ℕ) (what : What) → AreInTurnOf S (stalled (told_with d m t y what x.desc.name (noted d.notes y.place n)) e t x)
  unfolding told
  stall_as n what =
      let begun = told_with d m t y what x.desc.name (noted d.notes y.place n) in
      let now = record begun { harvested = d.harvested ++ t ∷ []; endpoints = set d.endpoints e (record x { next = None }); mends = d.mends ++ mends_of x } in
      tells_in_turn S now (stalled begun e t x) (behind_tells now e x.desc.name (suc t) (length begun.transfers - suc t)) (told_places n)
      (behind_turns S d.endpoints e x here goes stays now x.desc.name (suc t) (length begun.transfers - suc t) (omega arith)
      (record { next = next_after begun.transfers e t; turns = done; before = λ u z less at of_e. earlier u z (omega (arith, less)) at of_e }))

  ends_as : (n : ℕ) (what : What) (o : Option EndCause) → AreInTurnOf S (after_end (told_with d m t y what x.desc.name (noted d.notes y.place n)) e t x (is_stall what) o)
  unfolding told
  ends_as n what (Some cause) = record { places = told_places n; turns = ended (record x { ended = Some cause }) cause (told_uncancelled (record x { ended = Some cause }) fresh) }
  ends_as n what None = by (is_stall what)
    where
      by : (b : Bool) → AreInTurnOf S (cond b (stalled (told_with d m t y what x.desc.name (noted d.notes y.place n)) e t x) (goes_on (told_with d m t y what x.desc.name (noted d.notes y.place n)) e t x))
      by true = stall_as n what
      by false = record { places = told_places n; turns = done }

  read_as : (found : Found) → found ≡ found_in y.sort (nat_le y.left 1) (note_at d.notes y.place) (token_in m y.place) → AreInTurnOf S (served (harvested_as d m e t x y found) e)
  read_as founds.Active is = record { places = old.places; turns = old.turns }
  read_as (founds.Moved n) is =
      let z : Transfer = record y { place = (note_at d.notes y.place).next; left = y.left - 1 } in
      let more = moved_more y.sort y.left (note_at d.notes y.place) (token_in m y.place) n (sym is) in
      record {
        places = places_same (note_in d.notes) (note_in (noted d.notes y.place n)) (set d.transfers t z) (note_same d.notes y.place n)
            (places_set (note_in d.notes) d.transfers t y z there (λ h. place_at (note_in d.notes) y (old.places t y there held) n (note_at d.notes y.place).next more refl) old.places);
        turns = turns_same S (turn_in d.transfers) (turn_in (set d.transfers t z)) (slice_get d.endpoints) d.harvested (same_turn z refl) old.turns;
      }
    where
      same_turn : (z : Transfer) → turn_of z ≡ turn_of y → (i : ℕ) → turn_in (set d.transfers t z) i ≡ turn_in d.transfers i
      same_turn z is i = same_view turn_of d.transfers t y z there is i
  read_as (founds.Served errors) is = absurd (served_by (token_in m y.place).active (token_in m y.place).halted (ends_by y.sort (nat_le y.left 1) (token_in m y.place).total) (moved_of (note_at d.notes y.place).told (token_in m y.place).total) errors (halt_of (token_in m y.place)) (sym is))
  read_as (founds.Ended n what) is = let k = ends_as n what (end_of x.desc.kind what) in record { places = k.places; turns = k.turns }

  pub harvest_in_turn : (found : Found) → found ≡ found_in y.sort (nat_le y.left 1) (note_at d.notes y.place) (token_in m y.place) → AreInTurnOf S (after_harvest d m e t found (Some x) (Some y))
  harvest_in_turn found is = subst (λ (b : Bool). AreInTurnOf S (cond b (served (harvested_as d m e t x y found) e) d)) (sym waits) (read_as found is)

-- of a bulk endpoint
pub harvest_turns_of : (S : ℕ → Type 0) (d : DriverContent) (m : Mem) (e t : ℕ) (x : Endpoint) (y : Transfer) → slice_get d.endpoints e ≡ Some x → slice_get d.transfers t ≡ Some y → x.ended ≡ None → x.cancelled ≡ false → x.next ≡ Some t
    → waits_for e y ≡ true → x.desc.kind ≡ kinds.Bulk → S e → AreInTurnOf S d → (found : Found) → found ≡ found_in y.sort (nat_le y.left 1) (note_at d.notes y.place) (token_in m y.place) → AreInTurnOf S (after_harvest d m e t found (Some x) (Some y))
harvest_turns_of S d m e t x y here there goes fresh next waits bulk stays old found is = harvest_in_turn S d m e t x y here there goes fresh next waits stays old found is
