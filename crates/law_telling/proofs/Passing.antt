-- Each event of a driver keeps its transfers, and notes what it reads.
use Rattle.std.proofs.Common.{◌≡◌, ℕ, zero, suc, ◌-◌, Bool, true, false, cond, List, [], ◌∷◌, ◌++◌, length, map, set, slice_get, Option, Some, None, ap, sym, subst, ◌∙◌, refl}
use Rattle.std.specs.Prelude.{nat_le}
use Rattle.std.proofs.lemmas.Bool.{false≢true}
use Rattle.std.proofs.lemmas.List.{get_or-set_same, get_or-set_other}
use Rattle.std.proofs.lemmas.Option.{same_Some}
use Rattle.law_common.proofs.Lists.{set_here, set_there}
use Rattle.usb_base.specs.declared.endpoints.EndCause.{EndCause}
use Rattle.usb_base.specs.declared.endpoints.EndCause.TheVariants as causes
use Rattle.usb_base.specs.declared.endpoints.EpName.{EpName}
use Rattle.usb_base.specs.declared.reports.What.{What}
use Rattle.usb_base.specs.declared.reports.What.TheVariants as lines
use Rattle.qh_qtd.specs.declared.token.Token.{Token}
use Rattle.drv_periodic_table.specs.declared.content.Removed.TheVariants as removed
use Rattle.drv_periodic_table.specs.Descriptors.{is_served, errors_in}
use Rattle.drv_periodic_table.specs.Periodic.{note_at as descriptor_at}
use Rattle.drv_table.specs.declared.content.Endpoint.{Endpoint}
use Rattle.drv_table.specs.declared.content.QtdNote.{QtdNote}
use Rattle.drv_table.specs.declared.content.Sort.{Sort}
use Rattle.drv_table.specs.declared.content.Sort.TheVariants as sorts
use Rattle.drv_table.specs.declared.content.Transfer.{Transfer}
use Rattle.drv_table.specs.declared.rows.DriverRow.{DriverRow}
use Rattle.drv_table.specs.declared.rows.DriverRow.TheVariants as rows
use Rattle.drv_table.specs.declared.rows.Found.{Found}
use Rattle.drv_table.specs.declared.rows.Found.TheVariants as founds
use Rattle.drv_table.specs.DriverContent.{DriverContent, no_note, waits_for}
use Rattle.drv_table.specs.Harvests.{note_at, token_in, halt_of, moved_of, done_of, ends_by, found_in, noted, is_stall, end_of, reported}
use Rattle.drv_table.specs.Harvesting.{found_of, served, told_with, behind_one, behind, mends_of, after_end, harvested_as, after_harvest}
use Rattle.drv_table.specs.Parts.{Parts}
use Rattle.drv_table.specs.Releases.{let_go, after_transfer, freed_by, after_endpoint, cancelled_bytes, is_told}
use Rattle.drv_table.specs.Removals.{let_go_placed, after_descriptor, after_placed}
use Rattle.drv_table.specs.Rows.{driver_row, after_driver_row}
use Rattle.mem_runs.specs.Book.{Holding, holding}
use Rattle.drv_table.specs.Kinds.{is_iso}
use Rattle.law_driver.specs.run_owners.Due.{IsDue, IsHarvestDue}
use Rattle.law_driver.proofs.lemmas.run_owners.Reasons.{each_event_is_due}
use Rattle.law_driver.proofs.lemmas.chained_transfers.Stalled.{behind_tells}
use Rattle.law_footprints.proofs.Fields.{transfers_stays, notes_stays}
use Rattle.law_footprints.specs.Footprint.{footprint}
use Rattle.claims_driver.specs.Owners.{is_descriptor}
use Rattle.claims_answers.specs.Telling.{token_of, HasReason, done, missed, babbled, failed, stalled as halted_by_stall, less}
use Rattle.claims_answers.specs.Passing.{IsLater, Stays, NotesOne, IsUnderWay, nothing, passes, ends, serves, KeepsTransfers}
use Rattle.law_telling.proofs.Still.{IsStill, AreAll, as_many, at_each, all_same, all_set, all_map, all_both, same_later, same_still, both_still, AreStill, told_still, returned_still, let_go_still, placed_still}
use Rattle.law_telling.proofs.Tokens.{IsEndedIn, found_ends, found_served}
use Rattle.law_telling.specs.Passing.{EventsKeepTransfers}

-- ---- no token is read

abbrev IsNoHarvest : DriverRow → Type 0
IsNoHarvest (rows.Harvest e t found) = ⊥
IsNoHarvest _ = Unit {0}

-- no token is read, or none that tells that it is done
nothing_kept : (row : DriverRow) (p : Parts) (new : DriverContent) → new.notes ≡ p.driver.notes → AreStill p.driver.transfers new.transfers
    → ((e t : ℕ) (found : Found) (y : Transfer) → row ≡ rows.Harvest e t found → slice_get p.driver.transfers t ≡ Some y → IsUnderWay p y)
    → KeepsTransfers row p new
nothing_kept row p new notes all active = record {
  many = as_many IsStill p.driver.transfers new.transfers all;
  later = λ t y z here there. (at_each IsStill p.driver.transfers new.transfers all t y z here there).later;
  tokens = nothing (record {
    notes = notes;
    stay = λ t y z here there. (at_each IsStill p.driver.transfers new.transfers all t y z here there).stays;
    active = active;
  });
}

still_kept : (row : DriverRow) (p : Parts) (new : DriverContent) → IsNoHarvest row → new.notes ≡ p.driver.notes
    → AreStill p.driver.transfers new.transfers → KeepsTransfers row p new
still_kept row p new other notes all =
    nothing_kept row p new notes all (λ e t found y is here. absurd (subst IsNoHarvest is other))

quiet : (row : DriverRow) (p : Parts) → IsNoHarvest row → (footprint row p.driver.command).transfers ≡ false →
    (footprint row p.driver.command).notes ≡ false
    → KeepsTransfers row p (after_driver_row row p).driver
quiet row p other transfers notes =
    still_kept row p (after_driver_row row p).driver other (notes_stays row p p.driver.command refl notes)
    (subst (AreStill p.driver.transfers) (sym (transfers_stays row p p.driver.command refl transfers))
    (all_same IsStill same_still p.driver.transfers))

-- ---- what is given back

transfer_kept : (p : Parts) (t : ℕ) (o : Option Transfer) (h : Holding) → slice_get p.driver.transfers t ≡ o
    → KeepsTransfers (rows.ReleaseTransfer t) p (after_transfer p t o h).driver
transfer_kept p t None h here = still_kept (rows.ReleaseTransfer t) p p.driver tt refl (all_same IsStill same_still p.driver.transfers)
transfer_kept p t (Some y) h here =
    still_kept (rows.ReleaseTransfer t) p _ tt refl (all_set IsStill same_still p.driver.transfers t y (record y { released = true }) here
    (returned_still y))

descriptor_kept : (p : Parts) (t : ℕ) (o : Option Transfer) → slice_get p.driver.transfers t ≡ o
    → KeepsTransfers (rows.ReleaseRemoved (removed.Descriptor t)) p (after_descriptor p t o).driver
descriptor_kept p t None here = still_kept (rows.ReleaseRemoved (removed.Descriptor t)) p p.driver tt refl
    (all_same IsStill same_still p.driver.transfers)
descriptor_kept p t (Some y) here =
    still_kept (rows.ReleaseRemoved (removed.Descriptor t)) p _ tt refl
    (all_set IsStill same_still p.driver.transfers t y (record y { released = true }) here (returned_still y))

told_notes : (d : DriverContent) (what : What) (name : EpName) (bytes : List ℕ) (b : Bool) → (cond b (reported d what name bytes) d).notes
    ≡ d.notes
told_notes d what name bytes true = refl
told_notes d what name bytes false = refl

told_transfers : (d : DriverContent) (what : What) (name : EpName) (bytes : List ℕ) (b : Bool)
    → (cond b (reported d what name bytes) d).transfers ≡ d.transfers
told_transfers d what name bytes true = refl
told_transfers d what name bytes false = refl

endpoint_kept : (p : Parts) (e : ℕ) (o : Option Endpoint) → KeepsTransfers (rows.ReleaseEndpoint e) p (after_endpoint p e o).driver
endpoint_kept p e None = still_kept (rows.ReleaseEndpoint e) p p.driver tt refl (all_same IsStill same_still p.driver.transfers)
endpoint_kept p e (Some x) =
    still_kept (rows.ReleaseEndpoint e) p _ tt (told_notes p.driver _ _ _ (is_told x))
    (subst (λ (ts : List Transfer). AreStill p.driver.transfers (map (let_go e (is_told x)) ts))
    (sym (told_transfers p.driver lines.Cancel x.desc.name (cancelled_bytes p.driver.notes p.memory e x.queue p.driver.transfers)
    (is_told x)))
    (all_map IsStill (let_go e (is_told x)) (let_go_still e (is_told x)) p.driver.transfers))

placed_kept : (p : Parts) (e : ℕ) (o : Option Endpoint) → KeepsTransfers (rows.ReleaseRemoved (removed.Endpoint e)) p
    (after_placed p e o).driver
placed_kept p e None = still_kept (rows.ReleaseRemoved (removed.Endpoint e)) p p.driver tt refl
    (all_same IsStill same_still p.driver.transfers)
placed_kept p e (Some x) =
    still_kept (rows.ReleaseRemoved (removed.Endpoint e)) p _ tt (told_notes p.driver _ _ _ (is_told x))
    (subst (λ (ts : List Transfer). AreStill p.driver.transfers (map (let_go_placed (is_iso x.desc.kind) e (is_told x)) ts))
    (sym (told_transfers p.driver lines.Cancel x.desc.name (cancelled_bytes p.driver.notes p.memory e x.queue p.driver.transfers)
    (is_told x)))
    (all_map IsStill (let_go_placed (is_iso x.desc.kind) e (is_told x))
    (placed_still (is_iso x.desc.kind) e (is_told x)) p.driver.transfers))

-- ---- a harvest

behind_one_still : (d : DriverContent) (e : ℕ) (name : EpName) (k : ℕ) (o : Option Transfer) → slice_get d.transfers k ≡ o
    → AreStill d.transfers (behind_one d e name k o).transfers
behind_one_still d e name k None here = all_same IsStill same_still d.transfers
behind_one_still d e name k (Some y) here = at (waits_for e y)
  where
    at : (b : Bool) → AreStill d.transfers (cond b (record (reported d (lines.Halt causes.Stall) name []) {
      transfers = set d.transfers k (record y { reported = true });
      harvested = d.harvested ++ k ∷ [];
    }) d).transfers
    at true = all_set IsStill same_still d.transfers k y (record y { reported = true }) here (told_still y)
    at false = all_same IsStill same_still d.transfers

behind_still : (d : DriverContent) (e : ℕ) (name : EpName) (k n : ℕ) → AreStill d.transfers (behind d e name k n).transfers
unfolding behind
behind_still d e name k zero = all_same IsStill same_still d.transfers
behind_still d e name k (suc n) =
    let next : DriverContent = behind_one d e name k (slice_get d.transfers k) in
    all_both IsStill both_still d.transfers next.transfers (behind next e name (suc k) n).transfers
    (behind_one_still d e name k (slice_get d.transfers k) refl) (behind_still next e name (suc k) n)

-- what a token tells whose transfer goes on
record IsMovedIn (p : Parts) (y : Transfer) (n : ℕ) : Type 0 where
  done : (token_of p.memory y.place).active ≡ false
  whole : (token_of p.memory y.place).halted ≡ false
  count : n ≡ less (note_at p.driver.notes y.place).told (token_of p.memory y.place).total

moved_is : (n k : ℕ) → founds.Moved n ≡ founds.Moved k → n ≡ k
moved_is n k is = cc

ended_moved : (n k : ℕ) (what : What) → founds.Ended n what ≡ founds.Moved k → ⊥
ended_moved n k what is = cc

active_moved : (k : ℕ) → founds.Active ≡ founds.Moved k → ⊥
active_moved k is = cc

served_moved : (e k : ℕ) → founds.Served e ≡ founds.Moved k → ⊥
served_moved e k is = cc

done_moved : (b : Bool) (n k : ℕ) → done_of b n ≡ founds.Moved k → n ≡ k
done_moved true n k is = absurd (ended_moved n k lines.Done is)
done_moved false n k is = moved_is n k is

module _ (p : Parts) (y : Transfer) (n : ℕ) where
  abbrev t : Token
  t = token_of p.memory y.place

  abbrev left_over : ℕ
  left_over = less (note_at p.driver.notes y.place).told (token_of p.memory y.place).total

  token_moves : (sort : Sort)
      → found_in sort (nat_le y.left 1) (note_at p.driver.notes y.place) (token_in p.memory y.place) ≡ founds.Moved n → IsMovedIn p y n
  token_moves sort is = by t.active t.halted refl refl is
    where
      by : (a h : Bool) → t.active ≡ a → t.halted ≡ h
          → cond a founds.Active (cond h (founds.Ended left_over (halt_of t)) (done_of (ends_by sort (nat_le y.left 1) t.total) left_over))
          ≡ founds.Moved n → IsMovedIn p y n
      by true h off up w = absurd (active_moved n w)
      by false true off up w = absurd (ended_moved left_over n (halt_of t) w)
      by false false off up w =
          record { done = off; whole = up; count = sym (done_moved (ends_by sort (nat_le y.left 1) t.total) left_over n w) }

  slots_moved : (b : Bool) (e : ℕ) → cond b (founds.Served e) founds.Active ≡ founds.Moved n → ⊥
  slots_moved true e is = served_moved e n is
  slots_moved false e is = active_moved n is

  found_moves : (sort : Sort) → found_of p.driver p.memory y sort ≡ founds.Moved n → IsMovedIn p y n
  found_moves sorts.Descriptor is = absurd (slots_moved _ _ is)
  found_moves sorts.Get is = token_moves sorts.Get is
  found_moves sorts.Put is = token_moves sorts.Put is
  found_moves sorts.Request is = token_moves sorts.Request is

-- where the token or the slots tell that it is under way, it is
ended_active : (n : ℕ) (what : What) → founds.Ended n what ≡ founds.Active → ⊥
ended_active n what is = cc

moved_active : (n : ℕ) → founds.Moved n ≡ founds.Active → ⊥
moved_active n is = cc

served_active : (e : ℕ) → founds.Served e ≡ founds.Active → ⊥
served_active e is = cc

done_active : (b : Bool) (n : ℕ) → done_of b n ≡ founds.Active → ⊥
done_active true n is = ended_active n lines.Done is
done_active false n is = moved_active n is

token_active : (sort : Sort) (last : Bool) (note : QtdNote) (t : Token) → found_in sort last note t ≡ founds.Active → t.active ≡ true
token_active sort last note t is = by t.active t.halted refl is
  where
    by : (a h : Bool) → t.active ≡ a
        → cond a founds.Active (cond h (founds.Ended (moved_of note.told t.total) (halt_of t))
        (done_of (ends_by sort last t.total) (moved_of note.told t.total))) ≡ founds.Active → t.active ≡ true
    by true h on w = on
    by false true off w = absurd (ended_active _ (halt_of t) w)
    by false false off w = absurd (done_active (ends_by sort last t.total) _ w)

found_active : (p : Parts) (y : Transfer) (sort : Sort) → y.sort ≡ sort → found_of p.driver p.memory y sort ≡ founds.Active → IsUnderWay p y
found_active p y sorts.Descriptor s is = record {
  token = λ other. absurd (false≢true (sym other ∙ ap is_descriptor s));
  slots = λ own. by (is_served (descriptor_at p.driver.periodic.notes y.first) p.memory y.first) refl is;
}
  where
    by : (b : Bool) → is_served (descriptor_at p.driver.periodic.notes y.first) p.memory y.first ≡ b
        → cond b (founds.Served (errors_in (descriptor_at p.driver.periodic.notes y.first) p.memory y.first)) founds.Active ≡ founds.Active
        → is_served (descriptor_at p.driver.periodic.notes y.first) p.memory y.first ≡ false
    by true on w = absurd (served_active _ w)
    by false off w = off
found_active p y sorts.Get s is = record {
  token = λ other. token_active sorts.Get (nat_le y.left 1) (note_at p.driver.notes y.place) (token_in p.memory y.place) is;
  slots = λ own. absurd (false≢true (sym (ap is_descriptor s) ∙ own));
}
found_active p y sorts.Put s is = record {
  token = λ other. token_active sorts.Put (nat_le y.left 1) (note_at p.driver.notes y.place) (token_in p.memory y.place) is;
  slots = λ own. absurd (false≢true (sym (ap is_descriptor s) ∙ own));
}
found_active p y sorts.Request s is = record {
  token = λ other. token_active sorts.Request (nat_le y.left 1) (note_at p.driver.notes y.place) (token_in p.memory y.place) is;
  slots = λ own. absurd (false≢true (sym (ap is_descriptor s) ∙ own));
}

-- whatever it tells, it is done
done_by : (get last : Bool) (t : Token) (what : What) → HasReason get last t what → t.active ≡ false
done_by get last t _ (done off up why) = off
done_by get last t _ (missed off on m) = off
done_by get last t _ (babbled off on m b) = off
done_by get last t _ (failed off on m b c) = off
done_by get last t _ (halted_by_stall off on m b c) = off

module _ (p : Parts) (e t : ℕ) (found : Found) (due : IsHarvestDue p e t found) where
  abbrev row : DriverRow
  row = rows.Harvest e t found

  same_number : (f u : ℕ) (k : Found) → rows.Harvest e t found ≡ rows.Harvest f u k → t ≡ u
  same_number f u k is = cc

  notes_one : (new : DriverContent) (n : ℕ) → new.notes ≡ noted p.driver.notes due.transfer.place n
      → (token_of p.memory due.transfer.place).active ≡ false
      → n ≡ less (note_at p.driver.notes due.transfer.place).told (token_of p.memory due.transfer.place).total
      → NotesOne p new due.transfer.place
  notes_one new n is off count = record {
    done = off;
    moved = λ within. ap (λ (ns : List QtdNote). note_at ns due.transfer.place) is
        ∙ get_or-set_same p.driver.notes due.transfer.place (record
        (note_at p.driver.notes due.transfer.place) { moved = n }) no_note within
        ∙ ap (λ (k : ℕ). record (note_at p.driver.notes due.transfer.place) { moved = k }) count;
    others = λ c other. ap (λ (ns : List QtdNote). note_at ns c) is
        ∙ get_or-set_other p.driver.notes due.transfer.place c
        (record (note_at p.driver.notes due.transfer.place) { moved = n }) no_note other;
  }

  ended_kept : (new : DriverContent) (n : ℕ) (what : What) → IsEndedIn p due.transfer n what
      → new.notes ≡ noted p.driver.notes due.transfer.place n
      → AreStill (set p.driver.transfers t (record due.transfer { reported = true })) new.transfers → KeepsTransfers row p new
  ended_kept new n what ended notes more =
      let first = all_set IsStill same_still p.driver.transfers t due.transfer (record due.transfer { reported = true }) due.there
      (told_still due.transfer) in
      let all = all_both IsStill both_still p.driver.transfers
      (set p.driver.transfers t (record due.transfer { reported = true })) new.transfers
      first more in
      record {
        many = as_many IsStill p.driver.transfers new.transfers all;
        later = λ i a z here there. (at_each IsStill p.driver.transfers new.transfers all i a z here there).later;
        tokens = ends (record {
          number = t;
          transfer = due.transfer;
          there = due.there;
          noted = notes_one new n notes (done_by _ _ _ what ended.reason) ended.count;
          told = λ z there.
              (at_each IsStill (set p.driver.transfers t (record due.transfer { reported = true })) new.transfers more t
              (record due.transfer { reported = true }) z
              (set_here p.driver.transfers t due.transfer (record due.transfer { reported = true }) due.there) there).later.told refl;
          stay = λ i a z here there. (at_each IsStill p.driver.transfers new.transfers all i a z here there).stays;
        });
      }

  moved_kept : (new : DriverContent) (n : ℕ) → IsMovedIn p due.transfer n → new.notes ≡ noted p.driver.notes due.transfer.place n
      → new.transfers ≡ set p.driver.transfers t
      (record due.transfer { place = (note_at p.driver.notes due.transfer.place).next; left = due.transfer.left - 1 })
      → KeepsTransfers row p new
  moved_kept new n moved notes is =
      let now : Transfer = record due.transfer { place = (note_at p.driver.notes due.transfer.place).next; left = due.transfer.left - 1 } in
      let all : AreAll IsLater p.driver.transfers new.transfers = subst (AreAll IsLater p.driver.transfers) (sym is)
      (all_set IsLater same_later p.driver.transfers t due.transfer now due.there
      (record { endpoint = refl; sort = refl; first = refl; qtds = refl; most = refl; told = λ r. r; returned = λ r. r })) in
      let here_now : (z : Transfer) → slice_get new.transfers t ≡ Some z → now ≡ z =
      λ z there. same_Some now z (sym (set_here p.driver.transfers t due.transfer now due.there)
      ∙ ap (λ (ts : List Transfer). slice_get ts t) (sym is) ∙ there) in
      record {
        many = as_many IsLater p.driver.transfers new.transfers all;
        later = at_each IsLater p.driver.transfers new.transfers all;
        tokens = passes (record {
          number = t;
          transfer = due.transfer;
          there = due.there;
          noted = notes_one new n notes moved.done moved.count;
          whole = moved.whole;
          next = λ z there. ap (λ (v : Transfer). v.place) (sym (here_now z there));
          left = λ z there. ap (λ (v : Transfer). v.left) (sym (here_now z there));
          stay = λ i a z here there other.
              let same = same_Some a z (sym here ∙ sym (set_there p.driver.transfers t i now other)
              ∙ ap (λ (ts : List Transfer). slice_get ts i) (sym is) ∙ there) in
              subst (Stays a) same (record { place = refl; left = refl });
        });
      }

  after_kept : (n : ℕ) (what : What) (stall : Bool) (o : Option EndCause) → IsEndedIn p due.transfer n what
      → KeepsTransfers row p (served (after_end (told_with p.driver p.memory t due.transfer what due.endpoint.desc.name
      (noted p.driver.notes due.transfer.place n)) e t due.endpoint stall o) e)
  after_kept n what stall (Some cause) ended =
      ended_kept _ n what ended refl (all_same IsStill same_still (set p.driver.transfers t (record due.transfer { reported = true })))
  after_kept n what false None ended =
      ended_kept _ n what ended refl (all_same IsStill same_still (set p.driver.transfers t (record due.transfer { reported = true })))
  after_kept n what true None ended =
      let f : DriverContent = told_with p.driver p.memory t due.transfer what due.endpoint.desc.name
      (noted p.driver.notes due.transfer.place n) in
      let g : DriverContent = record f {
        harvested = f.harvested ++ t ∷ [];
        endpoints = set f.endpoints e (record due.endpoint { next = None });
        mends = f.mends ++ mends_of due.endpoint;
      } in
      let k : ℕ = length f.transfers - suc t in
      ended_kept _ n what ended (behind_tells g e due.endpoint.desc.name (suc t) k).notes
      (behind_still g e due.endpoint.desc.name (suc t) k)

  found_kept : (z : Found) → found ≡ z → KeepsTransfers row p (served (harvested_as p.driver p.memory e t due.endpoint due.transfer z) e)
  found_kept founds.Active is =
      nothing_kept row p _ refl (all_same IsStill same_still p.driver.transfers)
      (λ f u k a same here. subst (IsUnderWay p) (same_Some due.transfer a
      (sym due.there ∙ ap (slice_get p.driver.transfers) (same_number f u k same) ∙ here))
      (found_active p due.transfer due.transfer.sort refl (sym due.tells ∙ is)))
  found_kept (founds.Moved n) is = moved_kept _ n (found_moves p due.transfer n due.transfer.sort (sym due.tells ∙ is)) refl refl
  found_kept (founds.Served errors) is =
      let w = found_served p due.transfer errors due.transfer.sort refl (sym due.tells ∙ is) in
      let now : Transfer = record due.transfer { reported = true } in
      let all = all_set IsStill same_still p.driver.transfers t due.transfer now due.there (told_still due.transfer) in
      record {
        many = as_many IsStill p.driver.transfers (set p.driver.transfers t now) all;
        later = λ i a z here there. (at_each IsStill p.driver.transfers (set p.driver.transfers t now) all i a z here there).later;
        tokens = serves (record {
          number = t;
          transfer = due.transfer;
          there = due.there;
          sort = w.descriptor;
          served = w.served;
          notes = refl;
          told = λ z there. ap (λ (v : Transfer). v.reported)
              (sym (same_Some now z (sym (set_here p.driver.transfers t due.transfer now due.there) ∙ there)));
          stay = λ i a z here there. (at_each IsStill p.driver.transfers (set p.driver.transfers t now) all i a z here there).stays;
        });
      }
  found_kept (founds.Ended n what) is =
      after_kept n what (is_stall what) (end_of due.endpoint.desc.kind what)
      (found_ends p due.transfer n what due.transfer.sort refl (sym due.tells ∙ is))

  harvest_kept : KeepsTransfers (rows.Harvest e t found) p (after_driver_row (rows.Harvest e t found) p).driver
  harvest_kept =
      subst (λ (o : Option Endpoint). KeepsTransfers (rows.Harvest e t found) p
      (after_harvest p.driver p.memory e t found o (slice_get p.driver.transfers t)))
      (sym due.here)
      (subst (λ (o : Option Transfer). KeepsTransfers (rows.Harvest e t found) p
      (after_harvest p.driver p.memory e t found (Some due.endpoint) o)) (sym due.there)
      (subst (λ (b : Bool). KeepsTransfers (rows.Harvest e t found) p
      (cond b (served (harvested_as p.driver p.memory e t due.endpoint due.transfer found) e) p.driver))
      (sym due.waits)
      (found_kept found refl)))

-- ---- any event

due_kept : (row : DriverRow) (p : Parts) → IsDue p row → KeepsTransfers row p (after_driver_row row p).driver
due_kept (rows.ReleaseRemoved (removed.Descriptor t)) p due = descriptor_kept p t (slice_get p.driver.transfers t) refl
due_kept (rows.ReleaseRemoved (removed.Endpoint e)) p due = placed_kept p e (slice_get p.driver.endpoints e)
due_kept (rows.ReleaseTransfer t) p due =
    transfer_kept p t (slice_get p.driver.transfers t)
    (freed_by p.driver (holding p.driver.book p.memory) (slice_get p.driver.transfers t)) refl
due_kept (rows.ReleaseEndpoint e) p due = endpoint_kept p e (slice_get p.driver.endpoints e)
due_kept (rows.Harvest e t found) p due = harvest_kept p e t found due
due_kept row p due = quiet row p tt refl refl

pub events_keep_transfers : EventsKeepTransfers
events_keep_transfers p = due_kept (driver_row p) p (each_event_is_due p)
