-- The buffers of puts hold their bytes where memory is told by structures both before and after an event, and these have the same buffers.
use Rattle.std.proofs.Common.{◌≡◌, ℕ, ◌*◌, ◌<◌, ◌≤◌, false, List, slice_get, Some, None, ap, sym, subst, ◌∙◌}
use Rattle.law_queues.proofs.Common.{none_published}
use Rattle.word_mem.specs.Memory.{Mem}
use Rattle.drv_table.specs.declared.content.Command.TheVariants as unfinished
use Rattle.drv_table.specs.declared.content.QtdNote.{QtdNote}
use Rattle.drv_table.specs.declared.content.Sort.TheVariants as sorts
use Rattle.drv_table.specs.declared.content.Transfer.{Transfer}
use Rattle.drv_table.specs.DriverContent.{DriverContent}
use Rattle.drv_table.specs.Harvests.{note_at}
use Rattle.claims_driver.specs.Owners.{note_in}
use Rattle.law_driver.specs.chained_transfers.AsynchronousTurns.{AsynchronousTakesTurns}
use Rattle.law_driver.specs.chained_transfers.Bulk.{MovesAs}
use Rattle.law_driver.specs.chained_transfers.Chains.{piece_at}
use Rattle.law_driver_ring.specs.fed_queues.Fed.{is_request, AreFed}
use Rattle.law_structures.specs.lent_structures.Sound.{element_pages, buffer_name}
use Rattle.law_structures.specs.lent_structures.Structures.{StructureSets, Tells}
use Rattle.law_world.specs.streams.put_laws.HeldPuts.{HoldsPuts}
use Rattle.law_world.specs.streams.put_laws.Rings.{BuffersStay}
use Rattle.law_world.proofs.lemmas.streams.lemmas.put_laws.Beside.{IsOut}
use Rattle.law_world.proofs.lemmas.streams.lemmas.put_laws.HeldAlike.{SameNotes, SameBytes, note_is, WasThere, WereThere, was_itself}
use Rattle.law_world.proofs.lemmas.streams.lemmas.put_laws.HeldAlike.{puts_stay}
use Rattle.law_world.proofs.lemmas.streams.lemmas.put_laws.Stored.{IsStored, pieces_stored, stored_bytes, buffer_stays, either_way}

-- what is published is lent
abbrev pub IsLentOut : DriverContent → Type 0
IsLentOut d = (b : ℕ) (words : List ℕ) → d.command ≡ Some (unfinished.Publish b words) → 1 ≤ d.made

pub idle_out : (d : DriverContent) → d.command ≡ None → IsLentOut d
idle_out d idle b words is = absurd (none_published b words (sym idle ∙ is))

-- ---- the buffers stay

module _ (d f : DriverContent) (m new : Mem) (parts now : StructureSets) (puts : ℕ → List ℕ) (turns : AsynchronousTakesTurns d)
    (fed : AreFed d parts) (tells : Tells m parts) (told : Tells new now)
    (stay : (t : ℕ) (y : Transfer) → slice_get d.transfers t ≡ Some y → y.sort ≡ sorts.Put → y.released ≡ false → (moves : MovesAs d y)
    → BuffersStay (parts (32 * moves.endpoint.queue)) (now (32 * moves.endpoint.queue))) where
  pub forward_bytes : (t i : ℕ) (y : Transfer) → IsOut d t → slice_get d.transfers t ≡ Some y → y.sort ≡ sorts.Put → y.released ≡ false
      → i < y.qtds → SameBytes m new (note_at d.notes (piece_at (note_in d.notes) y.first i))
  forward_bytes t i y lent there put held below =
      let moves : MovesAs d y = turns.asynchronous.moves t y there in
      let n : ℕ = 32 * moves.endpoint.queue in
      let note : QtdNote = note_at d.notes (piece_at (note_in d.notes) y.first i) in
      either_way m new note
      (λ some.
      let s : IsStored (parts n) note =
      pieces_stored d parts t i y moves.endpoint (ap is_request put) fed there held moves.here lent below some in
      buffer_stays m new parts now n note tells told s
      (stay t y there put held moves (buffer_name s.qtd) (element_pages s.qtd) s.qtd.offset s.bytes s.here))

  pub forward_holds : IsLentOut d
      → ((t : ℕ) (y : Transfer) → slice_get f.transfers t ≡ Some y → y.sort ≡ sorts.Put → y.released ≡ false → WasThere d.transfers t y)
      → SameNotes d.notes f.notes → HoldsPuts d m puts → HoldsPuts f new puts
  forward_holds lent were notes k =
      puts_stay d f m new puts
      (λ t y here put held.
      let w : WasThere d.transfers t y = were t y here put held in
      record {
        was = w;
        notes = λ i below. notes (piece_at (note_in d.notes) y.first i);
        bytes = λ i below.
            subst (λ (b : ℕ). SameBytes m new (note_at d.notes (piece_at (note_in d.notes) b i))) (sym w.first)
            (forward_bytes t i w.transfer (λ newest. lent) w.there (sym w.sort ∙ put) (sym w.released ∙ held)
            (subst (λ (n : ℕ). i < n) w.qtds below));
      }) k

pub were_same : (d f : DriverContent) → f.transfers ≡ d.transfers → WereThere d.transfers f.transfers
were_same d f same t y here = was_itself d.transfers t y (ap (λ (ts : List Transfer). slice_get ts t) (sym same) ∙ here)

pub notes_same : (d f : DriverContent) → f.notes ≡ d.notes → SameNotes d.notes f.notes
notes_same d f same b = note_is (note_at d.notes b) (note_at f.notes b) (ap (λ (ns : List QtdNote). note_at ns b) same)

-- ---- there are no new ones

module _ (d f : DriverContent) (m new : Mem) (parts now : StructureSets) (puts : ℕ → List ℕ) (turns : AsynchronousTakesTurns f)
    (fed : AreFed f now) (tells : Tells m parts) (told : Tells new now) (lent : IsLentOut f) (notes : f.notes ≡ d.notes)
    (were : (n : ℕ) → BuffersStay (now n) (parts n))
    (back : (t : ℕ) (y : Transfer) → slice_get f.transfers t ≡ Some y → y.sort ≡ sorts.Put → y.released ≡ false
    → WasThere d.transfers t y) where
  back_bytes : (t i : ℕ) (y : Transfer) → slice_get f.transfers t ≡ Some y → y.sort ≡ sorts.Put → y.released ≡ false → i < y.qtds
      → SameBytes m new (note_at f.notes (piece_at (note_in f.notes) y.first i))
  back_bytes t i y there put held below =
      let moves : MovesAs f y = turns.asynchronous.moves t y there in
      let n : ℕ = 32 * moves.endpoint.queue in
      let note : QtdNote = note_at f.notes (piece_at (note_in f.notes) y.first i) in
      either_way m new note
      (λ some.
      let s : IsStored (now n) note =
      pieces_stored f now t i y moves.endpoint (ap is_request put) fed there held moves.here (λ newest. lent) below some in
      let was : IsStored (parts n) note = record {
        qtd = s.qtd;
        bytes = s.bytes;
        here = were n (buffer_name s.qtd) (element_pages s.qtd) s.qtd.offset s.bytes s.here;
        noted = s.noted;
      } in
      stored_bytes new now n note told s ∙ sym (stored_bytes m parts n note tells was))

  pub backward_holds : HoldsPuts d m puts → HoldsPuts f new puts
  backward_holds k =
      puts_stay d f m new puts
      (λ t y here put held.
      record {
        was = back t y here put held;
        notes = λ i below. notes_same d f notes (piece_at (note_in d.notes) y.first i);
        bytes = λ i below.
            subst (λ (ns : List QtdNote). SameBytes m new (note_at ns (piece_at (note_in ns) y.first i))) notes
            (back_bytes t i y here put held below);
      }) k
