-- A harvest that finds a request done read a status that has ended.
use Rattle.std.proofs.Common.{◌≡◌, ℕ, ◌-◌, ◌*◌, ◌≤◌, Bool, true, false, if◌then◌else◌, ap, refl, sym, subst, ◌∙◌, ⊎_elim, inl, arith}
use Rattle.std.specs.Prelude.{nat_eq, nat_le}
use Rattle.std.proofs.lemmas.Bool.{leb-true, false≢true}
use Rattle.std.proofs.lemmas.Option.{same_Some}
use Rattle.usb_base.specs.declared.endpoints.EndCause.TheVariants as causes
use Rattle.usb_base.specs.declared.reports.What.{What}
use Rattle.usb_base.specs.declared.reports.What.TheVariants as lines
use Rattle.qh_qtd.specs.declared.token.Token.{Token}
use Rattle.drv_table.specs.declared.content.QtdNote.{QtdNote}
use Rattle.drv_table.specs.declared.content.Sort.{Sort}
use Rattle.drv_table.specs.declared.content.Sort.TheVariants as sorts
use Rattle.drv_table.specs.declared.content.Transfer.{Transfer}
use Rattle.drv_table.specs.declared.rows.Found.{Found}
use Rattle.drv_table.specs.declared.rows.Found.TheVariants as founds
use Rattle.drv_table.specs.DriverContent.{DriverContent}
use Rattle.drv_table.specs.Harvests.{note_at, token_in, found_in, done_of, ends_by, moved_of, halt_of}
use Rattle.claims_driver.specs.Owners.{note_in, is_descriptor}
use Rattle.law_driver.specs.chained_transfers.Chains.{piece_at}
use Rattle.law_driver.specs.chained_transfers.Turns.{IsAtPlace}
use Rattle.law_driver.proofs.lemmas.chained_transfers.Ways.{found_by}
use Rattle.law_driver_ring.proofs.lemmas.harvested_streams.Harvesting.{token_is_read}
use Rattle.claims_report.specs.Requests.{Request}
use Rattle.law_devices.specs.ring_requests.Laid.{Places}
use Rattle.law_reports.specs.requests.request_bytes.Fresh.{next_of}
use Rattle.law_reports.specs.requests.driver_requests.Requests.{IsLaidOut}
use Rattle.law_reports.proofs.lemmas.requests.lemmas.driver_requests.Owning.{qtds_case, places_with_data, places_without}
use Rattle.law_reports.specs.requests.Harvests.{DoneIsEnded}

-- ---- what is found

abbrev what_in : Found → What
what_in (founds.Ended n what) = what
what_in _ = lines.Miss

abbrev is_done : What → Bool
is_done lines.Done = true
is_done _ = false

halts_by : (missed babble error : Bool) → is_done (if missed then lines.Miss else if babble then lines.Halt causes.Babble else if error then lines.Halt causes.Error else lines.Halt causes.Stall) ≡ false
halts_by true babble error = refl
halts_by false true error = refl
halts_by false false true = refl
halts_by false false false = refl

record IsDoneToken (t : Token) (last : Bool) : Type 0 where
  done : t.active ≡ false
  whole : t.halted ≡ false
  ends : last ≡ true

done_token : (last : Bool) (note : QtdNote) (t : Token) (n : ℕ) → founds.Ended n lines.Done ≡ found_in sorts.Request last note t → IsDoneToken t last
done_token last note t n same = by t.active t.halted last refl refl refl (ap (λ (f : Found). is_done (what_in f)) same)
  where
    by : (active halted z : Bool) → t.active ≡ active → t.halted ≡ halted → last ≡ z
        → true ≡ is_done (what_in (if active then founds.Active else if halted then founds.Ended (moved_of note.told t.total) (halt_of t) else done_of (ends_by sorts.Request z t.total) (moved_of note.told t.total))) → IsDoneToken t last
    by true halted z one two three is = absurd (false≢true (sym is))
    by false true z one two three is = absurd (false≢true (sym (halts_by t.missed t.babble (nat_eq t.cerr 0)) ∙ sym is))
    by false false true one two three is = record { done = one; whole = two; ends = three }
    by false false false one two three is = absurd (false≢true (sym is))

-- ---- where it is found

status_at : (d : DriverContent) (t : ℕ) (r : Request) (x : Places) (y : Transfer) → (k : IsLaidOut d t r x) → k.own ≡ y → IsAtPlace (note_in d.notes) y → y.left ≤ 1 → x.status ≡ 32 * y.place
status_at d t r x y k same at last =
    let some = at.some in
    let qtds = ap (λ (z : Transfer). z.qtds) (sym same) ∙ k.qtds in
    ⊎_elim {C = x.status ≡ 32 * y.place}
    (λ none.
    let many = none.1 in
    let index : y.qtds - y.left ≡ 1 = omega (arith, some, last, qtds, many) in
    ap (λ (p : Places). p.status) (places_without d t r x k none.0) ∙ ap (λ (z : Transfer). 32 * next_of d.notes z.first) same
    ∙ sym (ap (λ (b : ℕ). 32 * b) (at.place ∙ ap (piece_at (note_in d.notes) y.first) index)))
    (λ more.
    let many = more.1 in
    let index : y.qtds - y.left ≡ 2 = omega (arith, some, last, qtds, many) in
    ap (λ (p : Places). p.status) (places_with_data d t r x k more.0) ∙ ap (λ (z : Transfer). 32 * next_of d.notes (next_of d.notes z.first)) same
    ∙ sym (ap (λ (b : ℕ). 32 * b) (at.place ∙ ap (piece_at (note_in d.notes) y.first) index))) (qtds_case r)

pub done_is_ended : DoneIsEnded
done_is_ended p e t n parts v r x u due k sort at tells here =
    let d : DriverContent = p.driver in
    let y : Transfer = due.transfer in
    let queued : is_descriptor y.sort ≡ false = ap is_descriptor sort in
    let found : founds.Ended n lines.Done ≡ found_in y.sort (nat_le y.left 1) (note_at d.notes y.place) (token_in p.memory y.place) = due.tells ∙ found_by d p.memory y y.sort queued in
    let token : IsDoneToken (token_in p.memory y.place) (nat_le y.left 1) =
    done_token (nat_le y.left 1) (note_at d.notes y.place) (token_in p.memory y.place) n (subst (λ (z : Sort). founds.Ended n lines.Done ≡ found_in z (nat_le y.left 1) (note_at d.notes y.place) (token_in p.memory y.place)) sort found) in
    let place : x.status ≡ 32 * y.place = status_at d t r x y k (same_Some k.own y (sym k.here ∙ due.there)) at (leb-true y.left 1 token.ends) in
    let same : token_in p.memory y.place ≡ u.token = token_is_read p.memory parts (32 * due.endpoint.queue) y.place u tells (ap (parts (32 * due.endpoint.queue)) (sym place) ∙ here) in
    record { qtd = u; here = here; ended = ap (λ (z : Token). z.active) (sym same) ∙ token.done; goes_on = inl (ap (λ (z : Token). z.halted) (sym same) ∙ token.whole) }
