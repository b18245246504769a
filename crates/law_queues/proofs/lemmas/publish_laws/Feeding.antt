-- The pieces of transfers are fed after a store.
use Rattle.std.proofs.Common.{◌≡◌, ◌≢◌, ℕ, zero, suc, ◌-◌, ◌*◌, ◌<◌, ◌≤◌, Bool, true, false, nat_eq, if◌then◌else◌, List, [], length, slice_get, Option, Some, None, ap, refl, sym, subst, ◌∙◌, ⊎_elim, arith}
use Rattle.std.proofs.lemmas.Bool.{cases_eq, eq-eqb}
use Rattle.std.proofs.lemmas.Option.{same_Some}
use Rattle.law_common.proofs.Numbers.{other_number}
use Rattle.qh_qtd.specs.declared.qtd.Qtd.{Qtd}
use Rattle.mem_runs.specs.Book.{slot_of}
use Rattle.drv_table.specs.declared.content.Endpoint.{Endpoint}
use Rattle.drv_table.specs.declared.content.Transfer.{Transfer}
use Rattle.drv_table.specs.declared.content.QtdNote.{QtdNote}
use Rattle.drv_table.specs.declared.content.Sort.{Sort}
use Rattle.drv_table.specs.declared.content.Command.{Command}
use Rattle.drv_table.specs.declared.content.Command.TheVariants as unfinished
use Rattle.drv_table.specs.DriverContent.{DriverContent}
use Rattle.drv_table.specs.Harvests.{note_at}
use Rattle.drv_table.specs.Words.{dummy_qtd}
use Rattle.claims_driver.specs.Owners.{note_in}
use Rattle.law_structures.specs.lent_structures.Structures.{Element, Buffer, Structures, StructureSets}
use Rattle.law_structures.proofs.lemmas.lent_structures.Names.{put_here, put_same}
use Rattle.law_structures.specs.lent_structures.Sound.{element_pages, buffer_name, HasBuffer}
use Rattle.law_structures.proofs.lemmas.lent_structures.Altering.{no_two}
use Rattle.law_ring.specs.Effects.{buffer_of}
use Rattle.law_driver_ring.specs.Inventory.{IsLent}
use Rattle.law_driver_ring.specs.Published.{partly, IsPublishable}
use Rattle.law_queues.proofs.lemmas.publish_laws.Rows.{publishable_put}
use Rattle.law_controller.specs.controlled_streams.Storing.{stored_parts}
use Rattle.law_controller.proofs.lemmas.controlled_streams.Storing.{other_stays, bytes_stay}
use Rattle.law_driver.specs.chained_transfers.Chains.{piece_at}
use Rattle.law_driver.specs.chained_transfers.Out.{unpublished}
use Rattle.law_driver_ring.specs.fed_queues.Fed.{IsPieceFed, unpublished_of, IsPublished, AreFed, size_of, sized}
use Rattle.law_driver_ring.proofs.lemmas.fed_queues.Sized.{noted_sized}

abbrev one_if : Bool → ℕ
one_if b = if b then 1 else 0

abbrev none_if : Bool → ℕ
none_if b = if b then 0 else 0

-- ---- one piece

module _ (parts : StructureSets) (n e : ℕ) (old new : Qtd) (at : parts n e ≡ Some (Element old)) where
  abbrev now : StructureSets
  now = stored_parts parts n e new

  buffer_there : (m : ℕ) (t : Qtd) (count : ℕ) → HasBuffer (parts m) t count → HasBuffer (now m) t count
  buffer_there m t count has = record {
    bytes = has.bytes;
    here = other_stays parts n e old new at m (buffer_name t) (Buffer (element_pages t) t.offset has.bytes)
        (λ name owner. no_two (parts n) e e (Buffer (element_pages t) t.offset has.bytes) (Element old)
        (ap (parts n) (sym name) ∙ ap (λ (i : ℕ). parts i (buffer_name t)) (sym owner) ∙ has.here) at (λ z. cc) refl) has.here;
    size = has.size;
  }

  -- another piece stays
  pub fed_beside : (sort : Sort) (m : ℕ) (note : QtdNote) (c end : ℕ) → (32 * c ≡ e → m ≡ n → ⊥) → IsPieceFed sort (parts m) note c end → IsPieceFed sort (now m) note c end
  fed_beside sort m note c end apart k = record {
    qtd = k.qtd;
    here = other_stays parts n e old new at m (32 * c) (Element k.qtd) apart k.here;
    noted = k.noted;
    buffer = λ some. buffer_there m k.qtd note.told (k.buffer some);
    long = ap length (bytes_stay parts n e old new at m (buffer_name k.qtd)) ∙ k.long;
    places = k.places;
    fresh = k.fresh;
    blank = k.blank;
  }

-- ---- the newest transfer

-- what is known of the store
pub record IsHere (d : DriverContent) (parts : StructureSets) (b : ℕ) (words : List ℕ) (k : IsPublished d parts b words) (i : ℕ) : Type 0 where
  pub command : d.command ≡ Some (unfinished.Publish b words)
  pub made : d.made ≡ suc i
  pub below : i < 8
  pub at : parts (32 * k.endpoint.queue) (32 * b) ≡ Some (Element (partly k.qtd i))
  -- the ends of queues and all other pieces stand elsewhere
  pub dummies : (e : ℕ) (x : Endpoint) → slice_get d.endpoints e ≡ Some x → x.gone ≡ false → x.dummy ≢ b
  pub pieces : (t j : ℕ) (y : Transfer) → slice_get d.transfers t ≡ Some y → y.released ≡ false → j < y.qtds → (t ≡ k.number → 1 ≤ j) → piece_at (note_in d.notes) y.first j ≢ b

module _ (d : DriverContent) (parts : StructureSets) (b : ℕ) (words : List ℕ) (k : IsPublished d parts b words) (i : ℕ) (h : IsHere d parts b words k i) (fed : AreFed d parts) where
  abbrev n : ℕ
  n = 32 * k.endpoint.queue

  abbrev then_parts : StructureSets
  then_parts = stored_parts parts n (32 * b) (partly k.qtd (suc i))

  thirty_two : (x y : ℕ) → x ≢ y → 32 * x ≡ 32 * y → ⊥
  thirty_two x y differs same = differs (omega (arith, same))

  dummies_then : (e : ℕ) (x : Endpoint) → slice_get d.endpoints e ≡ Some x → x.gone ≡ false → IsLent (slot_of d.book.slots x.dummy) → then_parts (32 * x.queue) (32 * x.dummy) ≡ Some (Element dummy_qtd)
  dummies_then e x here kept lent =
      other_stays parts n (32 * b) (partly k.qtd i) (partly k.qtd (suc i)) h.at (32 * x.queue) (32 * x.dummy) (Element dummy_qtd)
      (λ name owner. thirty_two x.dummy b (h.dummies e x here kept) name) (fed.dummies e x here kept lent)

  -- how many of a transfer's aren't published
  count_now : (t : ℕ) (y : Transfer) → unpublished_of d t y ≡ one_if (nat_eq (suc t) (length d.transfers))
  count_now t y =
      ap (λ (o : Option Command). if nat_eq (suc t) (length d.transfers) then unpublished o d.made y.qtds else 0) h.command
      ∙ ap (λ (j : ℕ). if nat_eq (suc t) (length d.transfers) then unpublished (Some (unfinished.Publish b words)) j y.qtds else 0) h.made

  is_newest : (t : ℕ) → t ≡ k.number → one_if (nat_eq (suc t) (length d.transfers)) ≡ 1
  is_newest t same = ap one_if (eq-eqb (suc t) (length d.transfers) (ap suc same ∙ k.newest))

  piece_then : (t j : ℕ) (y : Transfer) (x : Endpoint) → slice_get d.transfers t ≡ Some y → y.released ≡ false → slice_get d.endpoints y.endpoint ≡ Some x → unpublished_of d t y ≤ j → j < y.qtds → (t ≡ k.number → 1 ≤ j)
      → IsPieceFed y.sort (then_parts (32 * x.queue)) (sized y.sort j (note_at d.notes (piece_at (note_in d.notes) y.first j))) (piece_at (note_in d.notes) y.first j) (piece_at (note_in d.notes) y.first y.qtds)
  piece_then t j y x there held here from below first =
      let c : ℕ = piece_at (note_in d.notes) y.first j in
      fed_beside parts n (32 * b) (partly k.qtd i) (partly k.qtd (suc i)) h.at y.sort (32 * x.queue) (sized y.sort j (note_at d.notes c)) c (piece_at (note_in d.notes) y.first y.qtds)
      (λ name owner. thirty_two c b (h.pieces t j y there held below first) name) (fed.pieces t j y x there held here from below)

  not_first : (t j : ℕ) (y : Transfer) → unpublished_of d t y ≤ j → t ≡ k.number → 1 ≤ j
  not_first t j y from same = let e : unpublished_of d t y ≡ 1 = count_now t y ∙ is_newest t same in omega (arith, from, e)

  may_then : IsPublishable (then_parts n) (32 * b) k.qtd
  may_then =
      subst (λ (part : Structures). IsPublishable part (32 * b) k.qtd) (sym (put_here parts n (32 * b) (Element (partly k.qtd (suc i)))))
      (publishable_put (parts n) (32 * b) (partly k.qtd i) (partly k.qtd (suc i)) k.qtd h.at (k.may (let made = h.made in omega (arith, made))))

  long_then : length (buffer_of (then_parts n) k.qtd) ≡ size_of k.transfer.sort 0 (note_at d.notes b).told
  long_then = ap length (bytes_stay parts n (32 * b) (partly k.qtd i) (partly k.qtd (suc i)) h.at n (buffer_name k.qtd)) ∙ k.long (let made = h.made in omega (arith, made))

  -- ---- one store more

  abbrev pub more : DriverContent
  more = record d { made = suc (suc i) }

  published_more : suc i < 8 → IsPublished more then_parts b words
  published_more low = record {
    number = k.number;
    transfer = k.transfer;
    endpoint = k.endpoint;
    newest = k.newest;
    there = k.there;
    fresh = k.fresh;
    place = k.place;
    here = k.here;
    going = k.going;
    qtd = k.qtd;
    are = k.are;
    range = k.range;
    noted = k.noted;
    active = k.active;
    pid = k.pid;
    total = k.total;
    stored = put_same parts n (32 * b) (Element (partly k.qtd (suc i))) ∙ ap (λ (j : ℕ). Some (Element (partly k.qtd j))) (let e : suc i ≡ suc (suc i) - 1 = omega arith in e);
    places = k.places;
    blank = k.blank;
    few = omega (arith, low);
    long = λ some. long_then;
    may = λ some. may_then;
  }

  count_more : (t : ℕ) (y : Transfer) → unpublished_of more t y ≡ unpublished_of d t y
  count_more t y =
      ap (λ (o : Option Command). if nat_eq (suc t) (length d.transfers) then unpublished o (suc (suc i)) y.qtds else 0) h.command ∙ sym (count_now t y)

  block_of : Option Command → ℕ
  block_of (Some (unfinished.Publish c ws)) = c
  block_of o = 0

  words_of : Option Command → List ℕ
  words_of (Some (unfinished.Publish c ws)) = ws
  words_of o = []

  pub fed_more : suc i < 8 → AreFed more then_parts
  unfolding block_of words_of
  fed_more low = record {
    dummies = dummies_then;
    pieces = λ t j y x there held here from below.
        let same : unpublished_of more t y ≡ unpublished_of d t y = count_more t y in
        let old : unpublished_of d t y ≤ j = omega (arith, from, same) in
        piece_then t j y x there held here old below (not_first t j y old);
    publishes = λ c ws command.
        let both : Some (unfinished.Publish b words) ≡ Some (unfinished.Publish c ws) = sym h.command ∙ command in
        let block : b ≡ c = ap block_of both in
        let all : words ≡ ws = ap words_of both in
        subst (λ (x : ℕ). IsPublished more then_parts x ws) block (subst (IsPublished more then_parts b) all (published_more low));
  }

  -- ---- the last store

  abbrev pub done : DriverContent
  done = record d { command = None; made = 0 }

  first_piece : suc i ≡ 8 → IsPieceFed k.transfer.sort (then_parts n) (sized k.transfer.sort 0 (note_at d.notes b)) b (piece_at (note_in d.notes) b k.transfer.qtds)
  first_piece eighth =
      let ready = (may_then.sound.work k.active) in
      record {
        qtd = k.qtd;
        here = put_same parts n (32 * b) (Element (partly k.qtd (suc i))) ∙ ap (λ (j : ℕ). Some (Element (partly k.qtd j))) eighth;
        noted = noted_sized k.transfer.sort k.qtd 0 (note_at d.notes b) (piece_at (note_in d.notes) b k.transfer.qtds) k.noted;
        buffer = λ some. subst (HasBuffer (then_parts n) k.qtd) k.total (ready.buffer (let total = k.total in omega (arith, total, some)));
        long = long_then;
        places = k.places;
        fresh = λ on. k.total;
        blank = k.blank;
      }

  none_left : (t : ℕ) (y : Transfer) → unpublished_of done t y ≡ 0
  none_left t y = by_test (nat_eq (suc t) (length d.transfers))
    where
      by_test : (x : Bool) → none_if x ≡ 0
      by_test true = refl
      by_test false = refl

  -- the first piece of the newest, or another one
  piece_done : suc i ≡ 8 → (t j : ℕ) (y : Transfer) (x : Endpoint) → slice_get d.transfers t ≡ Some y → y.released ≡ false → slice_get d.endpoints y.endpoint ≡ Some x → j < y.qtds
      → IsPieceFed y.sort (then_parts (32 * x.queue)) (sized y.sort j (note_at d.notes (piece_at (note_in d.notes) y.first j))) (piece_at (note_in d.notes) y.first j) (piece_at (note_in d.notes) y.first y.qtds)
  piece_done eighth t j y x there held here below =
      ⊎_elim (λ (newest : t ≡ k.number). by_piece newest j below) (λ (differs : t ≢ k.number). piece_then t j y x there held here (other_from differs) below (λ same. absurd (differs same))) (cases_eq t k.number)
    where
      other_from : t ≢ k.number → unpublished_of d t y ≤ j
      other_from differs =
          let none : one_if (nat_eq (suc t) (length d.transfers)) ≡ 0 = ap one_if (other_number (suc t) (length d.transfers) (λ same. differs (let newest = k.newest in omega (arith, same, newest)))) in
          let e : unpublished_of d t y ≡ 0 = count_now t y ∙ none in omega (arith, e)

      by_piece : t ≡ k.number → (l : ℕ) → l < y.qtds
          → IsPieceFed y.sort (then_parts (32 * x.queue)) (sized y.sort l (note_at d.notes (piece_at (note_in d.notes) y.first l))) (piece_at (note_in d.notes) y.first l) (piece_at (note_in d.notes) y.first y.qtds)
      by_piece newest zero low =
          let same : y ≡ k.transfer = same_Some y k.transfer (sym there ∙ ap (slice_get d.transfers) newest ∙ k.there) in
          let owner : x ≡ k.endpoint = same_Some x k.endpoint (sym here ∙ ap (λ (z : Transfer). slice_get d.endpoints z.endpoint) same ∙ k.here) in
          subst (λ (z : Endpoint). IsPieceFed y.sort (then_parts (32 * z.queue)) (sized y.sort 0 (note_at d.notes y.first)) y.first (piece_at (note_in d.notes) y.first y.qtds)) (sym owner)
          (subst (λ (z : Transfer). IsPieceFed z.sort (then_parts n) (sized z.sort 0 (note_at d.notes z.first)) z.first (piece_at (note_in d.notes) z.first z.qtds)) (sym same)
          (subst (λ (c : ℕ). IsPieceFed k.transfer.sort (then_parts n) (sized k.transfer.sort 0 (note_at d.notes c)) c (piece_at (note_in d.notes) c k.transfer.qtds)) (sym k.place.0) (first_piece eighth)))
      by_piece newest (suc l) low =
          let e : unpublished_of d t y ≡ 1 = count_now t y ∙ is_newest t newest in
          piece_then t (suc l) y x there held here (omega (arith, e)) low (λ is. omega arith)

  pub fed_done : suc i ≡ 8 → AreFed done then_parts
  fed_done eighth = record {
    dummies = dummies_then;
    pieces = λ t j y x there held here from below. piece_done eighth t j y x there held here below;
    publishes = λ c ws command. absurd (never command);
  }
    where
      never : {c : ℕ} {ws : List ℕ} → ◌≡◌ {A = Option Command} None (Some (unfinished.Publish c ws)) → ⊥
      never command = cc
