-- Contents that tell the same of queues have the same structures.
use Rattle.std.proofs.Common.{◌≡◌, ℕ, ◌+◌, ◌*◌, ◌/◌, ◌%◌, ◌<◌, Bool, List, get_or, slice_get, Option, Some, None, ap, sym, subst, ◌∙◌, arith}
use Rattle.law_queues.proofs.Common.{none_unpublished}
use Rattle.mem_runs.specs.Book.{slot_of}
use Rattle.mem_runs.specs.declared.slots.Slot.{Slot}
use Rattle.drv_table.specs.declared.content.QtdNote.{QtdNote}
use Rattle.drv_table.specs.declared.content.Sort.{Sort}
use Rattle.drv_table.specs.declared.content.Command.{Command}
use Rattle.drv_table.specs.declared.content.Command.TheVariants as unfinished
use Rattle.drv_table.specs.DriverContent.{DriverContent}
use Rattle.drv_table.specs.Words.{to_qtd}
use Rattle.drv_table.specs.Harvests.{note_at}
use Rattle.claims_driver.specs.Owners.{note_in}
use Rattle.law_structures.specs.lent_structures.Structures.{Structures, StructureSets}
use Rattle.law_structures.specs.lent_structures.Sound.{HasBuffer}
use Rattle.law_driver_ring.specs.Inventory.{IsLent}
use Rattle.law_ring.specs.Told.{Endpoint as Told}
use Rattle.law_driver.specs.chained_transfers.Chains.{piece_at}
use Rattle.law_driver.proofs.lemmas.chained_transfers.Chained.{piece_same}
use Rattle.law_driver_ring.specs.fed_queues.Fed.{IsAlternate, size_of, sized, IsPieceFed}
use Rattle.law_driver_ring.specs.fed_queues.Places.{IsLast, AreStillOut}
use Rattle.law_queues.specs.fed_lends.Commands.{QueuesStand}
use Rattle.law_queues.specs.fed_harvests.Harvests.{IsLike, AlikeStands}
use Rattle.law_driver_ring.proofs.lemmas.fed_queues.Places.{SameQueues, met_stays, streams_stay}

-- a piece is fed by what its note tells of its qTD and its buffer
fed_by_note : (sort : Sort) (part : Structures) (note other : QtdNote) (b end : ℕ) → other.next ≡ note.next → other.buffer ≡ note.buffer → other.told ≡ note.told → IsPieceFed sort part note b end → IsPieceFed sort part other b end
fed_by_note sort part note other b end next buffer told k = record {
  qtd = k.qtd;
  here = k.here;
  noted = record {
    next = k.noted.next ∙ ap to_qtd (sym next);
    alternate = subst (λ (c : ℕ). IsAlternate sort k.qtd.alternate c end) (sym next) k.noted.alternate;
    offset = k.noted.offset ∙ ap (λ (bs : List ℕ). 32 * (get_or bs 0 0 % 128)) (sym buffer);
    page0 = k.noted.page0 ∙ ap (λ (bs : List ℕ). get_or bs 0 0 / 128) (sym buffer);
    page1 = k.noted.page1 ∙ ap (λ (bs : List ℕ). get_or bs 1 0 / 128) (sym buffer);
    page2 = k.noted.page2 ∙ ap (λ (bs : List ℕ). get_or bs 2 0 / 128) (sym buffer);
    page3 = k.noted.page3 ∙ ap (λ (bs : List ℕ). get_or bs 3 0 / 128) (sym buffer);
    page4 = k.noted.page4 ∙ ap (λ (bs : List ℕ). get_or bs 4 0 / 128) (sym buffer);
  };
  buffer = λ some. subst (λ (n : ℕ). HasBuffer part k.qtd n) (sym told) (k.buffer (subst (λ (n : ℕ). 0 < n) told some));
  long = k.long ∙ sym told;
  places = λ j below. ap (λ (bs : List ℕ). 32 * get_or bs (j / 4096) 0 + j % 4096) buffer ∙ k.places j (subst (λ (n : ℕ). j < n) told below);
  fresh = λ active. k.fresh active ∙ sym told;
  blank = λ none. ap (λ (bs : List ℕ). get_or bs 0 0) buffer ∙ k.blank (sym told ∙ none);
}

module _ (d f : DriverContent) (k : IsLike d f) where
  no_open : (c : ℕ) → d.command ≡ Some (unfinished.Open c) → ⊥
  no_open c is = let e : ◌≡◌ {A = Option Command} None (Some (unfinished.Open c)) = sym k.idle ∙ is in cc

  no_open_now : (c : ℕ) → f.command ≡ Some (unfinished.Open c) → ⊥
  no_open_now c is = let e : ◌≡◌ {A = Option Command} None (Some (unfinished.Open c)) = sym k.idle_now ∙ is in cc

  pub same_queues : SameQueues d f
  same_queues = record {
    ring = record { waiting = k.waiting; rung = k.rung; opens = λ c is. absurd (no_open_now c is) };
    back = record { waiting = sym k.waiting; rung = sym k.rung; opens = λ c is. absurd (no_open c is) };
    was = λ e z here. let w = k.ends e z here in record { endpoint = w.endpoint; here = w.there; life = record { desc = w.desc; queue = w.queue; linked = w.linked; gone = w.gone } };
    is = λ e x here. let w = k.ends_now e x here in record { endpoint = w.endpoint; here = w.there; life = record { desc = w.desc; queue = w.queue; linked = w.linked; gone = w.gone } };
  }

  lent_before : (b c : ℕ) → b ≡ c → IsLent (slot_of f.book.slots b) → IsLent (slot_of d.book.slots c)
  lent_before b c same lent = subst (λ (ss : List Slot). IsLent (slot_of ss c)) k.slots (subst (λ (i : ℕ). IsLent (slot_of f.book.slots i)) same lent)

  no_publish : (b : ℕ) (words : List ℕ) → f.command ≡ Some (unfinished.Publish b words) → ⊥
  no_publish b words is = let e : ◌≡◌ {A = Option Command} None (Some (unfinished.Publish b words)) = sym k.idle_now ∙ is in cc

  same_piece : (b i : ℕ) → piece_at (note_in f.notes) b i ≡ piece_at (note_in d.notes) b i
  same_piece b i = piece_same (note_in d.notes) (note_in f.notes) b i k.notes

  moved : (sort : Sort) (part : Structures) (b i n : ℕ) → IsPieceFed sort part (sized sort i (note_at d.notes (piece_at (note_in d.notes) b i))) (piece_at (note_in d.notes) b i) (piece_at (note_in d.notes) b n)
      → IsPieceFed sort part (sized sort i (note_at f.notes (piece_at (note_in f.notes) b i))) (piece_at (note_in f.notes) b i) (piece_at (note_in f.notes) b n)
  moved sort part b i n fed =
      let c = piece_at (note_in d.notes) b i in
      let one = fed_by_note sort part (sized sort i (note_at d.notes c)) (sized sort i (note_at f.notes c)) c (piece_at (note_in d.notes) b n) (k.next c) (k.buffer c) (ap (size_of sort i) (k.told c)) fed in
      let two = subst (λ (c : ℕ). IsPieceFed sort part (sized sort i (note_at f.notes c)) c (piece_at (note_in d.notes) b n)) (sym (same_piece b i)) one in
      subst (λ (end : ℕ). IsPieceFed sort part (sized sort i (note_at f.notes (piece_at (note_in f.notes) b i))) (piece_at (note_in f.notes) b i) end) (sym (same_piece b n)) two

  stand : (member streams : ℕ → Bool) (ends : ℕ → Told) (parts : StructureSets) (order : ℕ → ℕ → ℕ) (out later : ℕ → List ℕ) → AreStillOut f later → QueuesStand d member streams ends parts order out → QueuesStand f member streams ends parts order later
  stand member streams ends parts order out later still old = record {
    met = met_stays d f member same_queues old.met;
    streams_are = streams_stay d f streams ends same_queues old.streams_are;
    fed = record {
      dummies = λ i z here kept lent.
          let w = k.ends i z here in
          let one = old.fed.dummies i w.endpoint w.there (sym w.gone ∙ kept) (lent_before z.dummy w.endpoint.dummy w.dummy lent) in
          ap (λ (q : ℕ). parts (32 * q) (32 * z.dummy)) w.queue ∙ ap (λ (c : ℕ). parts (32 * w.endpoint.queue) (32 * c)) w.dummy ∙ one;
      pieces = λ t i y z there held here from below.
          let u = k.transfers t y there in
          let w = k.ends y.endpoint z here in
          let none = none_unpublished d t u.transfer k.idle in
          let many = u.qtds in
          let fed = old.fed.pieces t i u.transfer w.endpoint u.there (sym u.released ∙ held) (ap (slice_get d.endpoints) (sym u.endpoint) ∙ w.there) (omega (arith, none)) (omega (arith, below, many)) in
          subst (λ (q : ℕ). IsPieceFed y.sort (parts (32 * q)) (sized y.sort i (note_at f.notes (piece_at (note_in f.notes) y.first i))) (piece_at (note_in f.notes) y.first i) (piece_at (note_in f.notes) y.first y.qtds)) (sym w.queue)
          (moved y.sort (parts (32 * w.endpoint.queue)) y.first i y.qtds
          (subst (λ (s : Sort). IsPieceFed s (parts (32 * w.endpoint.queue)) (sized s i (note_at d.notes (piece_at (note_in d.notes) y.first i))) (piece_at (note_in d.notes) y.first i) (piece_at (note_in d.notes) y.first y.qtds)) (sym u.sort)
          (subst (λ (n : ℕ). IsPieceFed u.transfer.sort (parts (32 * w.endpoint.queue)) (sized u.transfer.sort i (note_at d.notes (piece_at (note_in d.notes) y.first i))) (piece_at (note_in d.notes) y.first i) (piece_at (note_in d.notes) y.first n)) (sym u.qtds)
          (subst (λ (b : ℕ). IsPieceFed u.transfer.sort (parts (32 * w.endpoint.queue)) (sized u.transfer.sort i (note_at d.notes (piece_at (note_in d.notes) b i))) (piece_at (note_in d.notes) b i) (piece_at (note_in d.notes) b u.transfer.qtds)) (sym u.first) fed))));
      publishes = λ b words is. absurd (no_publish b words is);
    };
    last = record {
      dummies = λ i z here kept lent.
          let w = k.ends i z here in
          let one = old.last.dummies i w.endpoint w.there (sym w.gone ∙ kept) (lent_before z.dummy w.endpoint.dummy w.dummy lent) in
          subst (λ (q : ℕ). IsLast (order (32 * q)) (parts (32 * q)) (32 * z.dummy)) (sym w.queue)
          (subst (λ (c : ℕ). IsLast (order (32 * w.endpoint.queue)) (parts (32 * w.endpoint.queue)) (32 * c)) (sym w.dummy) one);
      taken = λ b words t y z is. absurd (no_publish b words is);
      sorted = λ b words t y z is. absurd (no_publish b words is);
    };
    out_are = still;
  }

pub alike_stands : AlikeStands
alike_stands d f member streams ends parts order out later k still old = stand d f k member streams ends parts order out later still old
