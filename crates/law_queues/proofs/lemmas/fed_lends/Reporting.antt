-- A lend leaves what was reported, and what is still to be harvested.
use Rattle.std.proofs.Common.{◌≡◌, ◌≢◌, ℕ, zero, suc, ◌+◌, ◌*◌, ◌<◌, ◌≤◌, Bool, true, List, [], ◌∷◌, ◌++◌, length, take, Option, Some, ap, refl, sym, subst, ◌∙◌, ⊎_elim, inl, inr, arith, append_assoc}
use Rattle.std.proofs.lemmas.Bool.{cases_eq, cases_lt, true≢false}
use Rattle.std.proofs.lemmas.List.{append-nil}
use Rattle.law_ring.proofs.Common.{among_either, none_some, link_there}
use Rattle.law_queues.proofs.Common.{among_left, among_right}
use Rattle.law_controller.proofs.Common.{same_hand, no_bytes}
use Rattle.word_mem.specs.Memory.{Mem}
use Rattle.link_words.specs.Links.{qtd_link_of}
use Rattle.qh_qtd.specs.declared.qtd.Qtd.{Qtd}
use Rattle.qh_qtd.specs.declared.queue_head.Qh.{Qh}
use Rattle.mem_runs.specs.declared.slots.Slot.{Slot}
use Rattle.mem_runs.specs.Book.{slot_of}
use Rattle.drv_table.specs.declared.content.QtdNote.{QtdNote}
use Rattle.drv_table.specs.declared.content.Stage.{Stage}
use Rattle.drv_table.specs.DriverContent.{DriverContent}
use Rattle.drv_table.specs.Words.{buffer_needs}
use Rattle.drv_table.specs.Harvests.{note_at}
use Rattle.drv_table.specs.Offers.{is_last}
use Rattle.claims_driver.specs.Owners.{EndpointRuns, TransferRuns, note_in}
use Rattle.law_structures.specs.lent_structures.Structures.{Structure, QueueHead, Element, Buffer, Structures, StructureSets}
use Rattle.law_structures.specs.lent_structures.Sound.{buffer_name, HasBuffer, IsSoundQueue}
use Rattle.law_ring.specs.QueueParts.{IsQueuePart}
use Rattle.law_structures.proofs.lemmas.lent_structures.Altering.{found_queue, found_element}
use Rattle.law_ring.specs.Hand.{Hand}
use Rattle.law_ring.specs.Effects.{bytes_in, buffer_of}
use Rattle.law_ring.specs.Order.{IsFresh, IsOrdered, AreAfter, IsSorted, IsAmong, AllTold, none_out, one_out}
use Rattle.law_ring.specs.Sparing.{SparesHead}
use Rattle.law_ring.proofs.SparedSparing.{spared_is_told, published_adds_nothing}
use Rattle.law_driver.specs.chained_transfers.Out.{pieces_from}
use Rattle.law_driver_ring.specs.fed_queues.Places.{IsLast}
use Rattle.law_driver_ring.specs.Written.{AreAllApart, next_blocks, buffer_blocks, AreRuns, IsStageNoted, AreNoted, AwaitsLend}
use Rattle.law_driver_ring.specs.Pieces.{stage_qtd, IsNewQtd, AreStanding, AreBuffered}
use Rattle.law_driver_ring.specs.TransferLaws.{HasPieces}
use Rattle.law_driver_ring.proofs.Lists.{IsOneOf, apart_left}
use Rattle.law_driver_ring.proofs.Lots.{NamesOne}
use Rattle.law_driver_ring.proofs.Pieces.{name_of}
use Rattle.law_queues.specs.fed_lends.Streams.{second, new_order, new_out, LendLeavesReports, LendEndsQueue}
use Rattle.law_queues.proofs.lemmas.fed_lends.Numbering.{IsNumbered, numbered_case, AreNumbered, numbers_are, last_number, new_before, next_rises, alternate_rises, all_after, all_sorted}

-- ---- what is known of the lend

pub numbers : (d : DriverContent) (m : Mem) (t : ℕ) (y : TransferRuns) (x : EndpointRuns) (s : Stage) (ss : List Stage) (k : ℕ) (order : ℕ → ℕ) → AwaitsLend d m t y x s ss → AreNumbered (new_order d y ss k order) d.notes ss (second d y) k
numbers d m t y x s ss k order r =
    numbers_are d.notes ss (second d y) k order (apart_left (next_blocks d.notes (s ∷ ss) y.first) (buffer_blocks d.notes (s ∷ ss) y.first) (subst AreAllApart r.taken r.apart))

-- what stood has its number still
pub old_number : (d : DriverContent) (y : TransferRuns) (x : EndpointRuns) (s : Stage) (ss : List Stage) (slot : ℕ → Slot) (parts now : StructureSets) (k : ℕ) (order : ℕ → ℕ) (a : ℕ) (u : Structure) → HasPieces d slot parts now y x s ss → parts (32 * x.queue) a ≡ Some u → new_order d y ss k order a ≡ order a
old_number d y x s ss slot parts now k order a u has there =
    ⊎_elim (λ (same : new_order d y ss k order a ≡ order a). same)
    (λ (new : IsNumbered d.notes x.dummy ss (second d y) k order a). absurd (none_some (parts (32 * x.queue) a) u (has.none_before a new.qtd new.new) there))
    (numbered_case d.notes x.dummy ss (second d y) k order a)

-- a number that is low stays so
low_number : (d : DriverContent) (y : TransferRuns) (dummy : ℕ) (ss : List Stage) (k : ℕ) (order : ℕ → ℕ) (a place : ℕ) → place ≤ k → place ≤ order a → place ≤ new_order d y ss k order a
low_number d y dummy ss k order a place most low =
    ⊎_elim (λ (same : new_order d y ss k order a ≡ order a). omega (arith, same, low))
    (λ (new : IsNumbered d.notes dummy ss (second d y) k order a). let e = new.from in omega (arith, e, most)) (numbered_case d.notes dummy ss (second d y) k order a)

-- ---- the order

zero_name : (slot : ℕ → Slot) (notes : List QtdNote) (s : Stage) (b dummy : ℕ) (last : Bool) → IsStageNoted slot (note_at notes b) s → s.long ≤ 0 → buffer_name (stage_qtd notes s b dummy last) ≡ 0
zero_name slot notes s b dummy last noted none =
    ⊎_elim (λ (zero : buffer_name (stage_qtd notes s b dummy last) ≡ 0). zero)
    (λ (one : NamesOne (take (note_at notes b).runs (note_at notes b).buffer) (buffer_name (stage_qtd notes s b dummy last))).
    absurd (no_runs slot s.long (take (note_at notes b).runs (note_at notes b).buffer) one.at noted.runs none one.one))
    (name_of slot notes s b dummy last noted)
  where
    no_runs : (slot : ℕ → Slot) (n : ℕ) (cs : List ℕ) (c : ℕ) → AreRuns slot (buffer_needs n) cs → n ≤ 0 → IsOneOf c cs → ⊥
    no_runs slot zero [] c are none one = one
    no_runs slot zero (k ∷ cs) c are none one = are
    no_runs slot (suc n) cs c are none one = omega (arith, none)

-- its buffer has as many bytes as it asks for
pub long_new : (slot : ℕ → Slot) (part : Structures) (notes : List QtdNote) (s : Stage) (b dummy : ℕ) (last : Bool) → IsStageNoted slot (note_at notes b) s → (0 < s.long → HasBuffer part (stage_qtd notes s b dummy last) s.long) → ((pages : List ℕ) (k : ℕ) (bs : List ℕ) → part 0 ≡ Some (Buffer pages k bs) → ⊥) → length (buffer_of part (stage_qtd notes s b dummy last)) ≡ s.long
long_new slot part notes s b dummy last noted has none =
    ⊎_elim
    (λ (some : 0 < s.long). let h = has some in ap (λ (o : Option Structure). length (bytes_in o)) h.here ∙ h.size)
    (λ (zero : s.long ≤ 0).
    let name = zero_name slot notes s b dummy last noted zero in
    let e : length (buffer_of part (stage_qtd notes s b dummy last)) ≡ 0 = ap (λ (i : ℕ). length (bytes_in (part i))) name ∙ ap length (no_bytes (part 0) none) in
    let z : s.long ≡ 0 = omega (arith, zero) in e ∙ sym z)
    (cases_lt 0 s.long)

-- nothing was moved of a new qTD
pub fresh_new : (slot : ℕ → Slot) (part : Structures) (notes : List QtdNote) (dummy : ℕ) (ss : List Stage) (b a : ℕ) (u : Qtd) → AreNoted slot notes ss b → AreBuffered part notes dummy ss b → ((pages : List ℕ) (k : ℕ) (bs : List ℕ) → part 0 ≡ Some (Buffer pages k bs) → ⊥) → IsNewQtd notes dummy ss b a u → u.token.active ≡ true → IsFresh part u
fresh_new slot part notes dummy [] b a u noted buffered none new on = absurd (true≢false (sym on ∙ ap (λ (t : Qtd). t.token.active) new.1))
fresh_new slot part notes dummy (s ∷ ss) b a u noted buffered none (inl new) on =
    subst (IsFresh part) (sym new.1) (sym (long_new slot part notes s b dummy (is_last ss) noted.0 buffered.0 none))
fresh_new slot part notes dummy (s ∷ ss) b a u noted buffered none (inr new) on = fresh_new slot part notes dummy ss (note_at notes b).next a u noted.1 buffered.1 none new on

ordered_on : (d : DriverContent) (m : Mem) (t : ℕ) (y : TransferRuns) (x : EndpointRuns) (s : Stage) (ss : List Stage) (slot : ℕ → Slot) (parts now : StructureSets) (order : ℕ → ℕ) (place k : ℕ) → AwaitsLend d m t y x s ss → HasPieces d slot parts now y x s ss → IsQueuePart (32 * x.queue) (parts (32 * x.queue)) → place ≤ k
    → IsOrdered order place (32 * x.queue) (parts (32 * x.queue)) → IsOrdered (new_order d y ss k order) place (32 * x.queue) (now (32 * x.queue))
ordered_on d m t y x s ss slot parts now order place k r has on most old =
    let n = 32 * x.queue in
    let b = second d y in
    let f = new_order d y ss k order in
    let are = numbers d m t y x s ss k order r in
    let head : now n n ≡ Some (QueueHead on.queue) = has.still n n (QueueHead on.queue) on.here in
    record {
      next = λ a u c found leads.
          ⊎_elim
          (λ (was : parts n a ≡ Some (Element u)).
          let to = link_there (parts n) (qtd_link_of u.next) c (on.elements a u was).next leads in
          let one = old_number d y x s ss slot parts now k order a (Element u) has was in
          let two = old_number d y x s ss slot parts now k order c (Element to.qtd) has to.here in
          let less = old.next a u c was leads in omega (arith, one, two, less))
          (λ (new : IsNewQtd d.notes x.dummy ss b a u). next_rises f d.notes x.dummy ss b k a u c are new leads)
          (has.elements a u found);
      alternate = λ a u c found leads.
          ⊎_elim
          (λ (was : parts n a ≡ Some (Element u)).
          let to = link_there (parts n) (qtd_link_of u.alternate) c (on.elements a u was).alternate leads in
          let one = old_number d y x s ss slot parts now k order a (Element u) has was in
          let two = old_number d y x s ss slot parts now k order c (Element to.qtd) has to.here in
          let less = old.alternate a u c was leads in omega (arith, one, two, less))
          (λ (new : IsNewQtd d.notes x.dummy ss b a u). alternate_rises f d.notes x.dummy ss b k a u c are r.ends new leads)
          (has.elements a u found);
      queue = λ q found.
          let same : on.queue ≡ q = found_queue (now n n) on.queue q head found in
          let was = old.queue q (subst (λ (z : Qh). parts n n ≡ Some (QueueHead z)) same on.here) in
          record {
            next = λ c leads. low_number d y x.dummy ss k order c place most (was.next c leads);
            alternate = λ c leads. low_number d y x.dummy ss k order c place most (was.alternate c leads);
            current = λ works.
                let w = (subst (λ (z : Qh). IsSoundQueue (parts n) z) same on.sound).work works in
                let number = old_number d y x s ss slot parts now k order q.current (Element w.element) has w.here in
                let e = was.current works in omega (arith, number, e);
          };
      fresh = λ a u found works from.
          ⊎_elim
          (λ (was : parts n a ≡ Some (Element u)).
          let number = old_number d y x s ss slot parts now k order a (Element u) has was in
          old.fresh a u was works (omega (arith, number, from)) ∙ ap (λ (o : Option Structure). length (bytes_in o)) (sym (has.old_buffers a u was)))
          (λ (new : IsNewQtd d.notes x.dummy ss b a u). fresh_new (slot_of d.book.slots) (now n) d.notes x.dummy ss b a u r.noted.1 has.buffered.1 has.none_at_zero new works)
          (has.elements a u found);
    }

-- ---- what is told

-- each qTD that is told stands
pub record StandsAt (part : Structures) (e : ℕ) : Type 0 where
  pub qtd : Qtd
  pub here : part e ≡ Some (Element qtd)

pub all_there : (hand : Hand) (parts : StructureSets) (n : ℕ) (out xs : List ℕ) (e : ℕ) → AllTold hand parts n out xs → IsAmong e out → StandsAt (parts n) e
all_there hand parts n _ _ e none_out among = absurd among
all_there hand parts n _ _ e (one_out b es x xs told rest) (inl is) = record { qtd = told.qtd; here = ap (parts n) is ∙ told.here }
all_there hand parts n _ _ e (one_out b es x xs told rest) (inr among) = all_there hand parts n es xs e rest among

pub spares_heads : (d : DriverContent) (y : TransferRuns) (x : EndpointRuns) (s : Stage) (ss : List Stage) (slot : ℕ → Slot) (parts now : StructureSets) (n : ℕ) → HasPieces d slot parts now y x s ss → SparesHead parts now n
spares_heads d y x s ss slot parts now n has q here = record {
  queue = q;
  here = has.still n n (QueueHead q) here;
  overlay = record { token = refl; current = refl; offset = refl; endpoint = refl };
}

told_still : (d : DriverContent) (y : TransferRuns) (x : EndpointRuns) (s : Stage) (ss : List Stage) (slot : ℕ → Slot) (parts now : StructureSets) (hand : Hand) (out xs : List ℕ) → HasPieces d slot parts now y x s ss → AllTold hand parts (32 * x.queue) out xs → AllTold hand now (32 * x.queue) out xs
told_still d y x s ss slot parts now hand _ _ has none_out = none_out
told_still d y x s ss slot parts now hand _ _ has (one_out e es z zs told rest) =
    let n = 32 * x.queue in
    one_out e es z zs
    (spared_is_told hand hand parts now n e z (same_hand hand) (spares_heads d y x s ss slot parts now n has)
    (record { element = λ u here. has.still n e (Element u) here; bytes = λ u here. ap bytes_in (has.old_buffers e u here) }) told)
    (told_still d y x s ss slot parts now hand es zs has rest)

-- the new ones are told no bytes
told_more : (f : ℕ → ℕ) (place n : ℕ) (hand : Hand) (now : StructureSets) (q : Qh) (notes : List QtdNote) (dummy : ℕ) (ss : List Stage) (b k : ℕ) (out xs : List ℕ) → IsOrdered f place n (now n) → now n n ≡ Some (QueueHead q) → AreNumbered f notes ss b k → AreStanding (now n) notes dummy ss b → place ≤ k → AllTold hand now n out xs → AllTold hand now n (out ++ pieces_from (note_in notes) b (length ss)) xs
told_more f place n hand now q notes dummy [] b k out xs ordered head are stand most told = subst (λ (es : List ℕ). AllTold hand now n es xs) (sym (append-nil out)) told
told_more f place n hand now q notes dummy (s ∷ ss) b k out xs ordered head are stand most told =
    let next = (note_at notes b).next in
    let e = 32 * b in
    subst (λ (es : List ℕ). AllTold hand now n es xs) (append_assoc out (e ∷ []) (pieces_from (note_in notes) next (length ss)))
    (told_more f place n hand now q notes dummy ss next (suc k) (out ++ e ∷ []) xs ordered head are.1 stand.1 (omega (arith, most))
    (published_adds_nothing f place out hand now n e q (stage_qtd notes s b dummy (is_last ss)) xs ordered head stand.0 refl (let g = are.0 in omega (arith, g, most)) told))

-- ---- the list

after_both : (f : ℕ → ℕ) (e : ℕ) (xs ys : List ℕ) → AreAfter f e xs → AreAfter f e ys → AreAfter f e (xs ++ ys)
after_both f e [] ys one two = two
after_both f e (x ∷ xs) ys one two = (one.0, after_both f e xs ys one.1 two)

pub sorted_both : (f : ℕ → ℕ) (xs ys : List ℕ) → IsSorted f xs → IsSorted f ys → ((e : ℕ) → IsAmong e xs → AreAfter f e ys) → IsSorted f (xs ++ ys)
sorted_both f [] ys one two after = two
sorted_both f (x ∷ xs) ys one two after = (after_both f x xs ys one.0 (after x (inl refl)), sorted_both f xs ys one.1 two (λ e is. after e (inr is)))

after_same : (f g : ℕ → ℕ) (e : ℕ) (xs : List ℕ) → g e ≡ f e → ((b : ℕ) → IsAmong b xs → g b ≡ f b) → AreAfter f e xs → AreAfter g e xs
after_same f g e [] mine same after = tt
after_same f g e (x ∷ xs) mine same after = (let one = same x (inl refl) in let less = after.0 in omega (arith, mine, one, less), after_same f g e xs mine (λ b is. same b (inr is)) after.1)

pub sorted_same : (f g : ℕ → ℕ) (xs : List ℕ) → ((b : ℕ) → IsAmong b xs → g b ≡ f b) → IsSorted f xs → IsSorted g xs
sorted_same f g [] same sorted = tt
sorted_same f g (x ∷ xs) same sorted = (after_same f g x xs (same x (inl refl)) (λ b is. same b (inr is)) sorted.0, sorted_same f g xs (λ b is. same b (inr is)) sorted.1)

-- what is out of the new transfer is active, and what is active is out
pub new_active : (part : Structures) (notes : List QtdNote) (dummy : ℕ) (ss : List Stage) (b a : ℕ) (u : Qtd) → AreStanding part notes dummy ss b → IsAmong a (pieces_from (note_in notes) b (length ss)) → part a ≡ Some (Element u) → u.token.active ≡ true
new_active part notes dummy [] b a u stand among here = absurd among
new_active part notes dummy (s ∷ ss) b a u stand (inl is) here = ap (λ (t : Qtd). t.token.active) (sym (found_element (part a) (stage_qtd notes s b dummy (is_last ss)) u (ap part is ∙ stand.0) here))
new_active part notes dummy (s ∷ ss) b a u stand (inr is) here = new_active part notes dummy ss (note_at notes b).next a u stand.1 is here

pub new_among : (notes : List QtdNote) (dummy : ℕ) (ss : List Stage) (b a : ℕ) (u : Qtd) → IsNewQtd notes dummy ss b a u → u.token.active ≡ true → IsAmong a (pieces_from (note_in notes) b (length ss))
new_among notes dummy [] b a u new on = absurd (true≢false (sym on ∙ ap (λ (t : Qtd). t.token.active) new.1))
new_among notes dummy (s ∷ ss) b a u (inl new) on = inl new.0
new_among notes dummy (s ∷ ss) b a u (inr new) on = inr (new_among notes dummy ss (note_at notes b).next a u new on)

-- what stood comes before the new ones
pub old_low : (order : ℕ → ℕ) (part : Structures) (first k e : ℕ) (u : Qtd) → IsLast order part first → order first < k → part e ≡ Some (Element u) → order e < k
old_low order part first k e u last less here =
    ⊎_elim (λ (same : e ≡ first). let g = ap order same in omega (arith, g, less)) (λ (differs : e ≢ first). let g = last e u here differs in omega (arith, g, less)) (cases_eq e first)

pub lend_leaves_reports : LendLeavesReports
lend_leaves_reports d m t y x s ss slot parts now order out hand acc reported k r has on last less old most =
    let n = 32 * x.queue in
    let b = second d y in
    let f = new_order d y ss k order in
    let new = new_out d y ss in
    let a = old.accounts in
    let are = numbers d m t y x s ss k order r in
    let ordered = ordered_on d m t y x s ss slot parts now order old.place k r has on most a.ordered in
    let same : (e : ℕ) → IsAmong e out → f e ≡ order e = λ e among. let z = all_there hand parts n out old.told e a.told among in old_number d y x s ss slot parts now k order e (Element z.qtd) has z.here in
    record {
      place = old.place;
      told = old.told;
      accounts = record {
        ordered = ordered;
        sorted = sorted_both f out new (sorted_same order f out same a.sorted) (all_sorted f d.notes ss b k are)
            (λ e among.
            let z = all_there hand parts n out old.told e a.told among in
            all_after f d.notes ss b k e are (let g = same e among in let low = old_low order (parts n) (32 * y.first) k e z.qtd last less z.here in omega (arith, g, low)));
        published = λ e u among here from.
            ⊎_elim
            (λ (was : IsAmong e out).
            let z = all_there hand parts n out old.told e a.told was in
            let is : z.qtd ≡ u = found_element (now n e) z.qtd u (has.still n e (Element z.qtd) z.here) here in
            a.published e u was (subst (λ (v : Qtd). parts n e ≡ Some (Element v)) is z.here) (let g = same e was in omega (arith, g, from)))
            (λ (more : IsAmong e new). new_active (now n) d.notes x.dummy ss b e u has.standing more here)
            (among_either e out new among);
        complete = λ e u here works.
            ⊎_elim (λ (was : parts n e ≡ Some (Element u)). among_left e out new (a.complete e u was works))
            (λ (more : IsNewQtd d.notes x.dummy ss b e u). among_right e out new (new_among d.notes x.dummy ss b e u more works))
            (has.elements e u here);
        told = told_more f old.place n hand now on.queue d.notes x.dummy ss b k out old.told ordered (has.still n n (QueueHead on.queue) on.here) are has.standing most
            (told_still d y x s ss slot parts now hand out old.told has a.told);
      };
      sum = old.sum;
    }

pub lend_ends_queue : LendEndsQueue
lend_ends_queue d m t y x s ss slot parts now order k r has last less e u here differs =
    let n = 32 * x.queue in
    let b = second d y in
    let f = new_order d y ss k order in
    let are = numbers d m t y x s ss k order r in
    let end : f (32 * x.dummy) ≡ k + length ss = ap (λ (c : ℕ). f (32 * c)) (sym r.ends) ∙ last_number f d.notes ss b k are in
    ⊎_elim
    (λ (was : parts n e ≡ Some (Element u)).
    let g = old_number d y x s ss slot parts now k order e (Element u) has was in
    let low = old_low order (parts n) (32 * y.first) k e u last less was in omega (arith, end, g, low))
    (λ (new : IsNewQtd d.notes x.dummy ss b e u).
    let g = new_before f d.notes x.dummy ss b k e u are new (λ same. differs (same ∙ ap (λ (c : ℕ). 32 * c) r.ends)) in omega (arith, end, g))
    (has.elements e u here)
