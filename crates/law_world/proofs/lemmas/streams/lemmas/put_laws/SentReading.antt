-- What a harvest reads of a put.
use Rattle.std.proofs.Common.{◌≡◌, ℕ, suc, ◌-◌, ◌*◌, Bool, true, false, cond, if◌then◌else◌, List, length, slice_get, Option, Some, None, ap, refl, sym, subst, ◌∙◌, arith}
use Rattle.std.specs.Prelude.{nat_eq, nat_le}
use Rattle.std.proofs.lemmas.Bool.{le-leb}
use Rattle.std.proofs.lemmas.List.{take_all}
use Rattle.law_driver.proofs.Common.{waits_is}
use Rattle.usb_base.specs.declared.reports.What.TheVariants as lines
use Rattle.usb_base.specs.declared.endpoints.EndCause.TheVariants as causes
use Rattle.qh_qtd.specs.declared.token.Token.{Token}
use Rattle.drv_table.specs.declared.content.Endpoint.{Endpoint}
use Rattle.drv_table.specs.declared.content.Transfer.{Transfer}
use Rattle.drv_table.specs.declared.content.Command.{Command}
use Rattle.drv_table.specs.declared.content.Command.TheVariants as unfinished
use Rattle.drv_table.specs.declared.content.QtdNote.{QtdNote}
use Rattle.drv_table.specs.declared.content.Sort.{Sort}
use Rattle.drv_table.specs.declared.rows.Found.{Found}
use Rattle.drv_table.specs.declared.rows.Found.TheVariants as founds
use Rattle.drv_table.specs.DriverContent.{DriverContent}
use Rattle.drv_table.specs.Harvests.{note_at, token_in, halt_of, moved_of, done_of, ends_by, found_in}
use Rattle.drv_table.specs.Parts.{Parts}
use Rattle.claims_driver.specs.Owners.{note_in}
use Rattle.law_structures.specs.lent_structures.Structures.{Element, StructureSets}
use Rattle.law_ring.specs.Hand.{Hand}
use Rattle.law_ring.specs.Effects.{buffer_of}
use Rattle.law_structures.specs.lent_structures.Sound.{IsMember}
use Rattle.law_ring.specs.Told.{Told}
use Rattle.law_ring.proofs.Ordering.{a_done_qtd_is_told_by_memory}
use Rattle.law_driver_ring.proofs.lemmas.harvested_streams.Harvesting.{token_is_read}
use Rattle.law_driver.specs.chained_transfers.Chains.{piece_at}
use Rattle.law_driver.specs.chained_transfers.Turns.{IsAtPlace}
use Rattle.law_driver.proofs.lemmas.chained_transfers.Ways.{moves_queued, found_by}
use Rattle.law_driver_ring.specs.fed_queues.Fed.{IsPieceFed, unpublished_of, sized}
use Rattle.law_driver_ring.specs.fed_queues.Places.{IsMet}
use Rattle.law_queues.proofs.lemmas.released_queues.Queues.{none_yet}
use Rattle.law_queues.specs.whole_sends.Whole.{bytes_of_element, buffer_at}
use Rattle.law_world.specs.streams.put_laws.SentRead.{MovesAll, ReadsPut, PutsMoveAll, PutsLeaveNone, DoneIsTold, PutsAreTold}
use Rattle.law_driver.proofs.lemmas.chained_transfers.Holding.{stands_unreleased}
use Rattle.law_driver.proofs.lemmas.endpoint_lives.Lives.{none_told}
use Rattle.law_driver_ring.proofs.lemmas.fed_queues.Places.{stands_met}

-- ---- what a token tells

-- a halt is no end with all bytes
halt_moves : (missed babble none : Bool) (n told : ℕ)
    → MovesAll (founds.Ended n (if missed then lines.Miss else if babble then lines.Halt causes.Babble else if none then lines.Halt causes.Error else lines.Halt causes.Stall)) told
halt_moves true babble none n told = tt
halt_moves false true none n told = tt
halt_moves false false true n told = tt
halt_moves false false false n told = tt

done_moves : (last : Bool) (n told : ℕ) → n ≡ told → MovesAll (done_of last n) told
done_moves true n told all = all
done_moves false n told all = all

found_moves : (a h last : Bool) (n told : ℕ) (t : Token) → (a ≡ false → h ≡ false → n ≡ told) → MovesAll (cond a founds.Active (cond h (founds.Ended n (halt_of t)) (done_of last n))) told
found_moves true h last n told t all = tt
found_moves false true last n told t all = halt_moves t.missed t.babble (nat_eq t.cerr 0) n told
found_moves false false last n told t all = done_moves last n told (all refl refl)

-- where no bytes are left, all were moved
none_left_all : (told : ℕ) → moved_of told 0 ≡ told
none_left_all told = ap (λ (b : Bool). if b then told - 0 else 0) (le-leb 0 told (omega arith)) ∙ (let same : told - 0 ≡ told = omega arith in same)

token_moves : (sort : Sort) (last : Bool) (note : QtdNote) (t : Token) → (t.active ≡ false → t.halted ≡ false → t.total ≡ 0) → MovesAll (found_in sort last note t) note.told
token_moves sort last note t none =
    found_moves t.active t.halted (ends_by sort last t.total) (moved_of note.told t.total) note.told t (λ off goes. ap (moved_of note.told) (none off goes) ∙ none_left_all note.told)

-- ---- the bytes of a qTD that is done

pub done_is_told : DoneIsTold
done_is_told member parts hand order out n e t bytes m k here off goes told =
    let bs : List ℕ = buffer_of (parts n) t in
    let none = k.whole e t here off goes in
    a_done_qtd_is_told_by_memory member parts hand n e t bytes m here off told ∙ take_all (length bs - t.token.total) bs (omega (arith, none)) ∙ ap (bytes_of_element (parts n)) (sym here)

-- ---- the qTD that is read

module _ (p : Parts) (e t : ℕ) (found : Found) (hand : Hand) (parts : StructureSets) (order : ℕ → ℕ → ℕ) (out : ℕ → List ℕ) (k : ReadsPut p e t found hand parts order out) where
  abbrev d : DriverContent
  d = p.driver

  abbrev x : Endpoint
  x = k.due.endpoint

  abbrev y : Transfer
  y = k.due.transfer

  abbrev n : ℕ
  n = 32 * x.queue

  abbrev i : ℕ
  i = y.qtds - y.left

  its : (y.endpoint ≡ e) × (y.reported ≡ false)
  its = waits_is e y k.due.waits

  held : y.released ≡ false
  held = stands_unreleased d t y x (k.turns.asynchronous.endpoints e x k.due.here) k.turns.turns k.due.there (ap (slice_get d.endpoints) its.0 ∙ k.due.here) (none_told x k.due.goes_on) its.1

  at_place : IsAtPlace (note_in d.notes) y
  at_place = k.turns.turns.places t y k.due.there held

  met : IsMet d e x
  met = stands_met d e x (k.turns.asynchronous.endpoints e x k.due.here) k.due.goes_on (λ is. no_open x.queue (sym k.due.idle ∙ is))
    where
      no_open : (b : ℕ) → ◌≡◌ {A = Option Command} None (Some (unfinished.Open b)) → ⊥
      no_open b same = cc

  piece : IsPieceFed y.sort (parts n) (sized y.sort i (note_at d.notes (piece_at (note_in d.notes) y.first i))) (piece_at (note_in d.notes) y.first i) (piece_at (note_in d.notes) y.first y.qtds)
  piece =
      let none : unpublished_of d t y ≡ 0 = none_yet d.command d.made y.qtds (nat_eq (suc t) (length d.transfers)) k.due.idle in
      let some = at_place.some in
      let most = at_place.most in
      k.fed.pieces t i y x k.due.there held (ap (slice_get d.endpoints) its.0 ∙ k.due.here) (omega (arith, none)) (omega (arith, some, most))

  here : parts n (32 * y.place) ≡ Some (Element piece.qtd)
  here = ap (λ (c : ℕ). parts n (32 * c)) at_place.place ∙ piece.here

  token_is : token_in p.memory y.place ≡ piece.qtd.token
  token_is = token_is_read p.memory parts n y.place piece.qtd k.tells here

  none_left : (token_in p.memory y.place).active ≡ false → (token_in p.memory y.place).halted ≡ false → (token_in p.memory y.place).total ≡ 0
  none_left off goes =
      ap (λ (z : Token). z.total) token_is
      ∙ (k.sent e x k.due.here met k.sends).whole (32 * y.place) piece.qtd here (ap (λ (z : Token). z.active) (sym token_is) ∙ off) (ap (λ (z : Token). z.halted) (sym token_is) ∙ goes)

  pub counts_all : (token_in p.memory y.place).active ≡ false → (token_in p.memory y.place).halted ≡ false → moved_of (note_at d.notes y.place).told (token_in p.memory y.place).total ≡ (note_at d.notes y.place).told
  counts_all off goes = ap (moved_of (note_at d.notes y.place).told) (none_left off goes) ∙ none_left_all (note_at d.notes y.place).told

  found_is : found ≡ found_in y.sort (nat_le y.left 1) (note_at d.notes y.place) (token_in p.memory y.place)
  found_is = k.due.tells ∙ found_by d p.memory y y.sort (moves_queued d y (k.turns.asynchronous.moves t y k.due.there))

  pub all_moved : MovesAll found (note_at d.notes y.place).told
  all_moved = subst (λ (f : Found). MovesAll f (note_at d.notes y.place).told) (sym found_is) (token_moves y.sort (nat_le y.left 1) (note_at d.notes y.place) (token_in p.memory y.place) none_left)

  pub bytes_told : (member : ℕ → Bool) (bytes : List ℕ) → IsMember member n (parts n) → (token_in p.memory y.place).active ≡ false → (token_in p.memory y.place).halted ≡ false → Told hand parts n (32 * y.place) bytes → bytes ≡ buffer_at (parts n) (32 * y.place)
  bytes_told member bytes m off goes told =
      done_is_told member parts hand (order n) (out n) n (32 * y.place) piece.qtd bytes m (k.sent e x k.due.here met k.sends) here (ap (λ (z : Token). z.active) (sym token_is) ∙ off) (ap (λ (z : Token). z.halted) (sym token_is) ∙ goes) told

pub puts_move_all : PutsMoveAll
puts_move_all p e t found hand parts order out k = all_moved p e t found hand parts order out k

pub puts_leave_none : PutsLeaveNone
puts_leave_none p e t found hand parts order out k off goes = counts_all p e t found hand parts order out k off goes

pub puts_are_told : PutsAreTold
puts_are_told member p e t found hand parts order out bytes k m off goes told = bytes_told p e t found hand parts order out k member bytes m off goes told
