-- The bytes that a driver reads of a control request.
use Rattle.std.proofs.Common.{◌≡◌, ◌≢◌, ℕ, zero, suc, ◌+◌, ◌-◌, ◌*◌, ◌<◌, ◌≤◌, Bool, true, false, ◌||◌, if◌then◌else◌, List, [], ◌++◌, length, take, Option, Some, None, ap, refl, sym, subst, ◌∙◌, ⊎_elim, arith}
use Rattle.std.specs.Prelude.{nat_le, not, ◌==◌}
use Rattle.std.proofs.lemmas.Bool.{cases_eq, leb-false, eqb-true, false≢true}
use Rattle.std.proofs.lemmas.List.{append-nil, nil_from_length}
use Rattle.std.proofs.lemmas.Option.{same_Some}
use Rattle.law_reports.proofs.Common.{first_unmoved}
use Rattle.law_request.proofs.Common.{nothing_sent}
use Rattle.law_driver_ring.proofs.Common.{one_told, moved_is}
use Rattle.claims_base.specs.Prefix.{IsPrefix}
use Rattle.word_mem.specs.Memory.{Mem}
use Rattle.qh_qtd.specs.declared.token.Token.{Token}
use Rattle.drv_table.specs.declared.content.QtdNote.{QtdNote}
use Rattle.drv_table.specs.declared.content.Sort.{Sort}
use Rattle.drv_table.specs.declared.content.Sort.TheVariants as sorts
use Rattle.drv_table.specs.declared.content.Transfer.{Transfer}
use Rattle.drv_table.specs.declared.rows.Found.{Found}
use Rattle.drv_table.specs.declared.rows.Found.TheVariants as founds
use Rattle.drv_table.specs.DriverContent.{DriverContent}
use Rattle.drv_table.specs.Harvests.{note_at, noted, token_in, found_in, done_of, moved_of, halt_of, buffer_bytes, moved_bytes}
use Rattle.drv_table.specs.Parts.{Parts}
use Rattle.drv_table.specs.Words.{request_stages}
use Rattle.law_driver.specs.run_owners.Due.{IsHarvestDue}
use Rattle.claims_driver.specs.Owners.{note_in, is_descriptor}
use Rattle.law_driver.specs.chained_transfers.Chains.{piece_at}
use Rattle.law_driver.proofs.lemmas.chained_transfers.Ways.{found_by}
use Rattle.dev_control.specs.Stages.{is_read, wanted_of}
use Rattle.law_structures.specs.lent_structures.Structures.{StructureSets, Tells}
use Rattle.law_structures.specs.lent_structures.Sound.{IsMember}
use Rattle.claims_report.specs.Requests.{Request, read_with}
use Rattle.law_request.specs.Host.{Endpoint, has_data}
use Rattle.law_request.specs.Windows.{IsRequest, IsRight, data_of}
use Rattle.law_request.proofs.Steps.{window_is_right}
use Rattle.claims_report.specs.ControlSides.{Device}
use Rattle.law_ring.specs.Hand.{Hand}
use Rattle.law_ring.specs.Effects.{buffer_of}
use Rattle.law_ring.specs.Told.{Told, hand_bytes}
use Rattle.law_ring.proofs.QueueParts.{member_part}
use Rattle.law_devices.specs.ring_requests.Laid.{Places}
use Rattle.law_devices.specs.ring_requests.Windows.{Queue, Lines, sent_at, IsWindow, IsFinished, IsQueue}
use Rattle.law_reports.specs.requests.request_bytes.Fresh.{next_of}
use Rattle.law_reports.proofs.lemmas.requests.lemmas.driver_requests.Owning.{qtds_case, places_with_data}
use Rattle.law_driver_ring.specs.told_harvests.Held.{IsDone, AreHeld, none_held, one_held, AreUnmoved, told_of, IsRead, NotesMoved}
use Rattle.law_driver_ring.proofs.lemmas.told_harvests.Noting.{found_is_done, found_is_noted}
use Rattle.law_driver_ring.proofs.lemmas.told_harvests.Reading.{report_read}
use Rattle.law_reports.specs.requests.told_requests.Rows.{bytes_with}
use Rattle.law_queues.proofs.lemmas.harvest_laws.Places.{unmoved_noted, told_noted, read_noted}
use Rattle.law_reports.specs.requests.Asking.{DataIsRead, IsReadTo}
use Rattle.law_reports.specs.requests.Reading.{IsAtRequest, AreMoved, none_moved, some_moved, ReadIsMoved, MovedIsRead, MovedBegin, MovedAreAll}

-- ---- what is found

abbrev pub count_in : Found → Option ℕ
count_in (founds.Ended n what) = Some n
count_in (founds.Moved n) = Some n
count_in _ = None

abbrev goes_on : Found → Bool
goes_on (founds.Moved n) = true
goes_on _ = false

pub record IsCounted (t : Token) (note : QtdNote) (n : ℕ) : Type 0 where
  pub off : t.active ≡ false
  pub count : n ≡ moved_of note.told t.total

abbrev found_with : (active halted last : Bool) → QtdNote → Token → Found
found_with active halted last note t =
    if active then founds.Active
    else if halted then founds.Ended (moved_of note.told t.total) (halt_of t)
    else done_of (last || false) (moved_of note.told t.total)

counted_by : (active halted last : Bool) (note : QtdNote) (t : Token) (n : ℕ) → Some n ≡ count_in (found_with active halted last note t) → (active ≡ false) × (n ≡ moved_of note.told t.total)
counted_by true halted last note t n is = absurd cc
counted_by false true last note t n is = (refl, same_Some n (moved_of note.told t.total) is)
counted_by false false true note t n is = (refl, same_Some n (moved_of note.told t.total) is)
counted_by false false false note t n is = (refl, same_Some n (moved_of note.told t.total) is)

pub is_counted : (last : Bool) (note : QtdNote) (t : Token) (n : ℕ) (found : Found) → found ≡ found_in sorts.Request last note t → count_in found ≡ Some n → IsCounted t note n
is_counted last note t n found is counts =
    let both = counted_by t.active t.halted last note t n (sym counts ∙ ap count_in is) in
    record { off = both.0; count = both.1 }

going_by : (active halted last : Bool) (note : QtdNote) (t : Token) → true ≡ goes_on (found_with active halted last note t) → last ≡ false
going_by true halted last note t is = absurd cc
going_by false true last note t is = absurd cc
going_by false false true note t is = absurd cc
going_by false false false note t is = refl

-- ---- bytes of three qTDs

no_bytes : (m : Mem) (note : QtdNote) → buffer_bytes m note 0 ≡ []
unfolding buffer_bytes
no_bytes m note = refl

one_more : (notes : List QtdNote) (m : Mem) (b i : ℕ) → moved_bytes notes m b (suc i) ≡ buffer_bytes m (note_at notes b) (note_at notes b).moved ++ moved_bytes notes m (note_at notes b).next i
unfolding moved_bytes
one_more notes m b i = refl

-- of the first none were moved
first_none : (notes : List QtdNote) (m : Mem) (b i : ℕ) → (note_at notes b).moved ≡ 0 → moved_bytes notes m b (suc i) ≡ moved_bytes notes m (note_at notes b).next i
first_none notes m b i none =
    one_more notes m b i ∙ ap (λ (k : ℕ). buffer_bytes m (note_at notes b) k ++ moved_bytes notes m (note_at notes b).next i) none
    ∙ ap (λ (zs : List ℕ). zs ++ moved_bytes notes m (note_at notes b).next i) (no_bytes m (note_at notes b))

later_unmoved : (note : ℕ → QtdNote) (b i : ℕ) → AreUnmoved note b i → AreUnmoved note (note b).next (i - 1)
later_unmoved note b zero k = tt
later_unmoved note b (suc i) k = subst (AreUnmoved note (note b).next) (let e : i ≡ suc i - 1 = omega arith in e) k.1

unmoved_here : (note : ℕ → QtdNote) (b i c j : ℕ) → b ≡ c → i ≡ j → AreUnmoved note b i → AreUnmoved note c j
unmoved_here note b i c j same is k = subst (λ (a : ℕ). AreUnmoved note a j) same (subst (AreUnmoved note b) is k)

module _ (member : ℕ → Bool) (m : Mem) (parts : StructureSets) (hand : Hand) (n : ℕ) (tells : Tells m parts) (on : IsMember member n (parts n)) (notes : List QtdNote) where
  none_told : (b k most : ℕ) → AreUnmoved (note_at notes) b k → told_of (note_at notes) b k ≤ most → take most (moved_bytes notes m b k) ≡ []
  none_told b k most unmoved within = report_read m parts hand n tells (member_part member n (parts n) on) notes b 0 b k k most [] (let e : k ≡ 0 + k = omega arith in e) (none_held b) tt unmoved within

  data_told : (b most : ℕ) (xs : List ℕ) → (note_at notes b).moved ≡ 0 → IsDone hand parts n (note_at notes b).next (note_at notes (note_at notes b).next).moved xs
      → IsRead (parts n) (note_at notes (note_at notes b).next) (note_at notes b).next → (note_at notes (note_at notes (note_at notes b).next).next).moved ≡ 0 → told_of (note_at notes) b 3 ≤ most
      → take most (moved_bytes notes m b 3) ≡ xs
  data_told b most xs setup done read status within =
      let c : ℕ = (note_at notes b).next in
      let z : ℕ = (note_at notes c).next in
      ap (take most) (first_none notes m b 2 setup)
      ∙ report_read m parts hand n tells (member_part member n (parts n) on) notes c 1 z 1 2 most xs refl
      (subst (AreHeld hand parts n (note_at notes) c 1 z) (append-nil xs) (one_held c 0 z xs [] done (none_held z)))
      (read, tt) (status, tt) (let less = within in omega (arith, less))

-- ---- the row

module _ (member : ℕ → Bool) (p : Parts) (e t n : ℕ) (found : Found) (due : IsHarvestDue p e t found) (parts : StructureSets) (hand : Hand) (r : Request) (x : Places)
    (counts : count_in found ≡ Some n) (k : IsAtRequest member p e t found due parts hand r x) where
  abbrev y : Transfer
  y = due.transfer

  abbrev d : DriverContent
  d = p.driver

  abbrev q : ℕ
  q = 32 * due.endpoint.queue

  abbrev note : ℕ → QtdNote
  note = note_at p.driver.notes

  abbrev after : List QtdNote
  after = noted p.driver.notes due.transfer.place n

  abbrev now : ℕ → QtdNote
  now = note_at (noted p.driver.notes due.transfer.place n)

  -- the blocks of its data and its status
  abbrev at_data : ℕ
  at_data = (note_at p.driver.notes due.transfer.first).next

  abbrev at_status : ℕ
  at_status = (note_at p.driver.notes (note_at p.driver.notes due.transfer.first).next).next

  pub found_is : found ≡ found_in sorts.Request (nat_le y.left 1) (note y.place) (token_in p.memory y.place)
  found_is =
      due.tells ∙ found_by d p.memory y y.sort (ap is_descriptor k.sort)
      ∙ ap (λ (z : Sort). found_in z (nat_le y.left 1) (note y.place) (token_in p.memory y.place)) k.sort

  counted : IsCounted (token_in p.memory y.place) (note y.place) n
  counted = is_counted (nat_le y.left 1) (note y.place) (token_in p.memory y.place) n found found_is counts

  moves : NotesMoved note now y.place n
  moves =
      subst (λ (i : ℕ). NotesMoved note (note_at (noted p.driver.notes y.place i)) y.place i) (sym counted.count) (found_is_noted p.driver.notes y.place (token_in p.memory y.place).total)

  own : k.laid.own ≡ y
  own = same_Some k.laid.own y (sym k.laid.here ∙ due.there)

  -- where no bytes are told, its note stays
  none_counted : (note y.place).told ≡ 0 → n ≡ 0
  none_counted silent = let is = counted.count ∙ moved_is (note y.place).told (token_in p.memory y.place).total in omega (arith, is, silent)

  unmoved : (note y.place).moved ≡ 0
  unmoved = first_unmoved note y.place y.left k.at.some k.so_far.rest

  stays : (note y.place).told ≡ 0 → (a : ℕ) → now a ≡ note a
  stays silent a =
      ⊎_elim (λ (is : a ≡ y.place). ap now is ∙ moves.here ∙ ap (λ (i : ℕ). record (note y.place) { moved = i }) (none_counted silent ∙ sym unmoved) ∙ ap note (sym is))
      (λ (differs : a ≢ y.place). moves.beside a differs) (cases_eq a y.place)

  within : told_of now y.first y.qtds ≤ y.most
  within = let same = told_noted note now y.place n moves y.first y.qtds in let few = k.within in omega (arith, same, few)

  -- ---- where it reads

  at_first : y.left ≡ y.qtds → y.place ≡ y.first
  at_first all = let index : y.qtds - y.left ≡ 0 = omega (arith, all) in k.at.place ∙ ap (piece_at (note_in p.driver.notes) y.first) index

  at_last : y.left ≡ 1 → (note y.place).told ≡ 0
  at_last last =
      let index : y.qtds - y.left ≡ y.qtds - 1 = ap (λ (i : ℕ). y.qtds - i) last in
      ap (λ (b : ℕ). (note b).told) (k.at.place ∙ ap (piece_at (note_in p.driver.notes) y.first) index) ∙ k.silent.status

  at_setup : y.left ≡ y.qtds → (note y.place).told ≡ 0
  at_setup all = ap (λ (b : ℕ). (note b).told) (at_first all) ∙ k.silent.setup

  none_by : AreUnmoved note y.first y.qtds → (note y.place).told ≡ 0 → bytes_with p y n ≡ []
  none_by all silent =
      none_told member p.memory parts hand q k.tells k.on after y.first y.qtds y.most (unmoved_noted note now y.first y.qtds (λ a one. stays silent a) all) within

  all_unmoved : y.left ≡ y.qtds → AreUnmoved note y.first y.qtds
  all_unmoved all = unmoved_here note y.place y.left y.first y.qtds (at_first all) all k.so_far.rest

  -- ---- without data

  two : has_data r ≡ false → y.qtds ≡ 2 → bytes_with p y n ≡ []
  two none many =
      ⊎_elim {C = bytes_with p y n ≡ []} (λ (left : y.left ≡ 2). none_by (all_unmoved (left ∙ sym many)) (at_setup (left ∙ sym many)))
      (λ (differs : y.left ≢ 2).
      let some = k.at.some in
      let most = k.at.most in
      let last : y.left ≡ 1 = omega (arith, some, most, many, differs) in
      let index : y.qtds - y.left ≡ 1 = omega (arith, last, many) in
      let place : y.place ≡ at_data = k.at.place ∙ ap (piece_at (note_in p.driver.notes) y.first) index in
      none_by (subst (AreUnmoved note y.first) (sym many) (k.so_far.setup, unmoved_here note y.place y.left at_data 1 place last k.so_far.rest)) (at_last last)) (cases_eq y.left 2)

  -- ---- with data

  module _ (some : has_data r ≡ true) (three : y.qtds ≡ 3) where
    places : (x.setup ≡ 32 * y.first) × ((x.data_at ≡ 32 * at_data) × (x.status ≡ 32 * at_status))
    places =
        let are = places_with_data d t r x k.laid some in
        let to = ap (λ (z : Transfer). z.first) own in (
          ap (λ (z : Places). z.setup) are ∙ ap (λ (b : ℕ). 32 * b) to,
          (ap (λ (z : Places). z.data_at) are ∙ ap (λ (b : ℕ). 32 * next_of d.notes b) to, ap (λ (z : Places). z.status) are ∙ ap (λ (b : ℕ). 32 * next_of d.notes (next_of d.notes b)) to),
        )

    setup_apart : y.first ≢ at_data
    setup_apart is = k.apart.setup_data (places.0 ∙ ap (λ (b : ℕ). 32 * b) is ∙ sym places.1.0)

    status_apart : at_status ≢ at_data
    status_apart is = k.apart.data_status (places.1.0 ∙ ap (λ (b : ℕ). 32 * b) (sym is) ∙ sym places.1.1)

    abbrev read_data : IsRead (parts q) (note at_data) at_data
    read_data = k.noted some

    on_data : y.left ≡ 2 → y.place ≡ at_data
    on_data left = let index : y.qtds - y.left ≡ 1 = omega (arith, left, three) in k.at.place ∙ ap (piece_at (note_in p.driver.notes) y.first) index

    on_status : y.left ≡ 1 → y.place ≡ at_status
    on_status left = let index : y.qtds - y.left ≡ 2 = omega (arith, left, three) in k.at.place ∙ ap (piece_at (note_in p.driver.notes) y.first) index

    -- the bytes of the data once they are read
    abbrev told_now : List ℕ
    told_now = hand_bytes hand q k.on.queue (32 * at_data) read_data.qtd (buffer_of (parts q) read_data.qtd)

    done_now : y.left ≡ 2 → IsDone hand parts q at_data (now at_data).moved told_now
    done_now left =
        let told : Told hand parts q (32 * at_data) told_now = record { queue = k.on.queue; head = k.on.here; qtd = read_data.qtd; here = read_data.here; are = refl } in
        let place = on_data left in
        let off : (token_in p.memory at_data).active ≡ false = subst (λ (b : ℕ). (token_in p.memory b).active ≡ false) place counted.off in
        let count : (now at_data).moved ≡ moved_of (note at_data).told (token_in p.memory at_data).total =
        ap (λ (b : ℕ). (now b).moved) (sym place) ∙ ap (λ (z : QtdNote). z.moved) moves.here ∙ counted.count ∙ ap (λ (b : ℕ). moved_of (note b).told (token_in p.memory b).total) place in
        subst (λ (i : ℕ). IsDone hand parts q at_data i told_now) (sym count) (found_is_done p.memory parts hand q at_data told_now (note at_data) k.tells (member_part member q (parts q) k.on) read_data off told)

    -- the notes of the others are as they were
    beside_data : y.left ≡ 2 → (a : ℕ) → a ≢ at_data → now a ≡ note a
    beside_data left a differs = moves.beside a (λ is. differs (is ∙ on_data left))

    told_done : (xs : List ℕ) → (now y.first) ≡ (note y.first) → IsDone hand parts q at_data (now at_data).moved xs → (now (now at_data).next).moved ≡ 0 → bytes_with p y n ≡ xs
    told_done xs first done status =
        let to : (now y.first).next ≡ at_data = ap (λ (z : QtdNote). z.next) first in
        ap (λ (i : ℕ). take y.most (moved_bytes after p.memory y.first i)) three
        ∙ data_told member p.memory parts hand q k.tells k.on after y.first y.most xs (ap (λ (z : QtdNote). z.moved) first ∙ k.so_far.setup)
        (subst (λ (b : ℕ). IsDone hand parts q b (now b).moved xs) (sym to) done)
        (subst (λ (b : ℕ). IsRead (parts q) (now b) b) (sym to) ((read_noted (parts q) note now y.place n moves at_data 1 (read_data, tt)).0))
        (ap (λ (b : ℕ). (now (now b).next).moved) to ∙ status) (subst (λ (i : ℕ). told_of now y.first i ≤ y.most) three within)

    told_at : (xs : List ℕ) → IsDone hand parts q at_data (now at_data).moved xs → bytes_with p y n ≡ xs → AreMoved hand parts q r x y.left (bytes_with p y n)
    told_at xs done is = some_moved some (subst (Told hand parts q x.data_at) (sym is) (subst (λ (a : ℕ). Told hand parts q a xs) (sym places.1.0) done.told))

    -- the status isn't read before it
    status_next : y.left ≡ 2 → (note at_status).moved ≡ 0
    status_next left = first_unmoved note at_status 1 (omega arith) (unmoved_here note (note y.place).next (y.left - 1) at_status 1 (ap (λ (b : ℕ). (note b).next) (on_data left)) (let e : y.left - 1 ≡ 1 = omega (arith, left) in e) (later_unmoved note y.place y.left k.so_far.rest))

    on_two : y.left ≡ 2 → AreMoved hand parts q r x y.left (bytes_with p y n)
    on_two left =
        let to : (now at_data).next ≡ at_status = ap (λ (b : ℕ). (now b).next) (sym (on_data left)) ∙ ap (λ (z : QtdNote). z.next) moves.here ∙ ap (λ (b : ℕ). (note b).next) (on_data left) in
        let status : (now (now at_data).next).moved ≡ 0 = ap (λ (b : ℕ). (now b).moved) to ∙ ap (λ (z : QtdNote). z.moved) (beside_data left at_status status_apart) ∙ status_next left in
        told_at told_now (done_now left) (told_done told_now (beside_data left y.first setup_apart) (done_now left) status)

    on_one : y.left ≡ 1 → AreMoved hand parts q r x y.left (bytes_with p y n)
    on_one left =
        let same = stays (at_last left) in
        let has : DataIsRead hand parts q at_data (note at_data) = k.so_far.data_at some left in
        let done : IsDone hand parts q at_data (now at_data).moved has.bytes = subst (λ (z : QtdNote). IsDone hand parts q at_data z.moved has.bytes) (sym (same at_data)) has.done in
        let status : (now (now at_data).next).moved ≡ 0 =
        ap (λ (z : QtdNote). (now z.next).moved) (same at_data) ∙ ap (λ (z : QtdNote). z.moved) (same at_status) ∙ ap (λ (b : ℕ). (note b).moved) (sym (on_status left)) ∙ unmoved in
        told_at has.bytes done (told_done has.bytes (same y.first) done status)

    on_three : y.left ≡ 3 → AreMoved hand parts q r x y.left (bytes_with p y n)
    on_three left = none_moved (λ is. left) (none_by (all_unmoved (left ∙ sym three)) (at_setup (left ∙ sym three)))

    with_data : AreMoved hand parts q r x y.left (bytes_with p y n)
    with_data =
        ⊎_elim {C = AreMoved hand parts q r x y.left (bytes_with p y n)} (λ (left : y.left ≡ 3). on_three left)
        (λ (fewer : y.left ≢ 3).
        ⊎_elim {C = AreMoved hand parts q r x y.left (bytes_with p y n)} (λ (left : y.left ≡ 2). on_two left)
        (λ (differs : y.left ≢ 2). let least = k.at.some in let most = k.at.most in on_one (omega (arith, least, most, three, fewer, differs))) (cases_eq y.left 2)) (cases_eq y.left 3)

    -- ---- once it is read

    with_data_read : 1 < y.left → IsReadTo hand parts q now (record y { place = (note y.place).next; left = y.left - 1 }) r
    with_data_read more =
        ⊎_elim {C = IsReadTo hand parts q now (record y { place = (note y.place).next; left = y.left - 1 }) r} at_three
        (λ (differs : y.left ≢ 3). let most = k.at.most in at_two (omega (arith, more, most, three, differs))) (cases_eq y.left 3)
      where
        at_three : y.left ≡ 3 → IsReadTo hand parts q now (record y { place = (note y.place).next; left = y.left - 1 }) r
        at_three left =
            let same = stays (at_setup (left ∙ sym three)) in
            record {
              setup = ap (λ (z : QtdNote). z.moved) (same y.first) ∙ k.so_far.setup;
              data_at = λ has last. absurd (omega (arith, left, last));
              rest = unmoved_noted note now (note y.place).next (y.left - 1) (λ a one. same a) (later_unmoved note y.place y.left k.so_far.rest);
            }

        at_two : y.left ≡ 2 → IsReadTo hand parts q now (record y { place = (note y.place).next; left = y.left - 1 }) r
        at_two left =
            let first : now y.first ≡ note y.first = beside_data left y.first setup_apart in
            record {
              setup = ap (λ (z : QtdNote). z.moved) first ∙ k.so_far.setup;
              data_at = λ has last. subst (λ (b : ℕ). DataIsRead hand parts q b (now b)) (sym (ap (λ (z : QtdNote). z.next) first)) (record { bytes = told_now; done = done_now left });
              rest = unmoved_here now at_status 1 (note y.place).next (y.left - 1) (ap (λ (b : ℕ). (note b).next) (sym (on_data left))) (let e : 1 ≡ y.left - 1 = omega (arith, left) in e)
                  (ap (λ (z : QtdNote). z.moved) (beside_data left at_status status_apart) ∙ status_next left, tt);
            }

  without_data_read : has_data r ≡ false → y.qtds ≡ 2 → 1 < y.left → IsReadTo hand parts q now (record y { place = (note y.place).next; left = y.left - 1 }) r
  without_data_read none many more =
      let most = k.at.most in
      let all : y.left ≡ y.qtds = omega (arith, more, most, many) in
      let same = stays (at_setup all) in
      record {
        setup = ap (λ (z : QtdNote). z.moved) (same y.first) ∙ k.so_far.setup;
        data_at = λ has last. absurd (false≢true (sym none ∙ has));
        rest = unmoved_noted note now (note y.place).next (y.left - 1) (λ a one. same a) (later_unmoved note y.place y.left k.so_far.rest);
      }

  -- so many qTDs has it
  many : (i : ℕ) → length (request_stages r.setup) ≡ i → y.qtds ≡ i
  many i is = ap (λ (z : Transfer). z.qtds) (sym own) ∙ k.laid.qtds ∙ is

  pub are_moved : AreMoved hand parts q r x y.left (bytes_with p y n)
  are_moved =
      ⊎_elim {C = AreMoved hand parts q r x y.left (bytes_with p y n)}
      (λ none. none_moved (λ some. absurd (false≢true (sym none.0 ∙ some))) (two none.0 (many 2 none.1))) (λ some. with_data some.0 (many 3 some.1)) (qtds_case r)

  pub is_read_on : 1 < y.left → IsReadTo hand parts q now (record y { place = (note y.place).next; left = y.left - 1 }) r
  is_read_on more =
      ⊎_elim {C = IsReadTo hand parts q now (record y { place = (note y.place).next; left = y.left - 1 }) r}
      (λ none. without_data_read none.0 (many 2 none.1) more) (λ some. with_data_read some.0 (many 3 some.1) more) (qtds_case r)

pub read_is_moved : ReadIsMoved
read_is_moved member p e t n what due parts hand r x k = are_moved member p e t n (founds.Ended n what) due parts hand r x refl k

pub moved_is_read : MovedIsRead
moved_is_read member p e t n due parts hand r x k =
    let y = due.transfer in
    let last : nat_le y.left 1 ≡ false =
    going_by (token_in p.memory y.place).active (token_in p.memory y.place).halted (nat_le y.left 1) (note_at p.driver.notes y.place) (token_in p.memory y.place)
    (ap goes_on (found_is member p e t n (founds.Moved n) due parts hand r x refl k)) in
    is_read_on member p e t n (founds.Moved n) due parts hand r x refl k (let more = leb-false y.left 1 last in omega (arith, more))

-- ---- of which request they are

-- a request with a wLength of 0 has no data
nothing : (e : Endpoint) (r : Request) → IsRequest r → has_data r ≡ false → data_of e r ≡ []
nothing e r is none = by (is_read r.setup) refl
  where
    zero_wanted : wanted_of r.setup ≡ 0
    zero_wanted = by_zero (wanted_of r.setup == 0) refl
      where
        by_zero : (b : Bool) → (wanted_of r.setup == 0) ≡ b → wanted_of r.setup ≡ 0
        by_zero true z = eqb-true (wanted_of r.setup) 0 z
        by_zero false z = absurd (false≢true (sym none ∙ ap not z))

    by : (b : Bool) → is_read r.setup ≡ b → (if b then read_with r.setup (e.known r.setup) else r.bytes) ≡ []
    by true z = nothing_sent r (e.known r.setup) zero_wanted
    by false z = nil_from_length r.bytes (is.bytes z ∙ zero_wanted)

-- what is told of the data of the first of them begins it
first_begins : (v : Queue) (l : Lines) (hand : Hand) (parts : StructureSets) (n : ℕ) (o : Option Device) (bytes : List ℕ) → IsQueue v l hand parts n o → has_data (v.requests 0) ≡ true
    → Told hand parts n (v.places 0).data_at bytes → IsPrefix bytes (data_of v.endpoint (v.requests 0))
first_begins v l hand parts n o bytes k some told = by l.under refl
  where
    of_line : Told hand parts n (v.places 0).data_at (l.line 0).host.moved → IsRight v.endpoint (v.requests 0) (l.line 0) → IsPrefix bytes (data_of v.endpoint (v.requests 0))
    of_line moved is =
        subst (λ (xs : List ℕ). IsPrefix xs (data_of v.endpoint (v.requests 0))) (one_told hand parts n (v.places 0).data_at (l.line 0).host.moved bytes moved told) is.begins

    by : (u : ℕ) → l.under ≡ u → IsPrefix bytes (data_of v.endpoint (v.requests 0))
    by zero is =
        let w : IsWindow (sent_at v 0) (l.line 0) hand parts n o = subst (λ (i : ℕ). IsWindow (sent_at v i) (l.line i) hand parts n o) is k.window in
        of_line (w.moved some) (window_is_right v.endpoint (v.requests 0) (l.line 0) w.stands)
    by (suc u) is =
        let f : IsFinished (sent_at v 0) (l.line 0) hand parts n = k.finished 0 (omega (arith, is)) in
        of_line (f.moved some) (window_is_right v.endpoint (v.requests 0) (l.line 0) f.stands)

pub moved_begin : MovedBegin
moved_begin v l hand parts n left o bytes k (none_moved when is) = (data_of v.endpoint (v.requests 0), ap (λ (xs : List ℕ). xs ++ data_of v.endpoint (v.requests 0)) is)
moved_begin v l hand parts n left o bytes k (some_moved some told) = first_begins v l hand parts n o bytes k some told

pub moved_are_all : MovedAreAll
moved_are_all v l hand parts n left bytes request once last (none_moved when is) = by (has_data (v.requests 0)) refl
  where
    by : (b : Bool) → has_data (v.requests 0) ≡ b → bytes ≡ data_of v.endpoint (v.requests 0)
    by true some = let three = when some in absurd (omega (arith, three, last))
    by false none = is ∙ sym (nothing v.endpoint (v.requests 0) request none)
moved_are_all v l hand parts n left bytes request once last (some_moved some told) =
    one_told hand parts n (v.places 0).data_at bytes (data_of v.endpoint (v.requests 0)) told (once.told some)
