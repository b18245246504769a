-- Lemmas that several files need.
use Rattle.std.proofs.Common.{ℕ, Option, None, Some, ◌≡◌, List, ◌++◌, ◌∷◌, inl, inr, [], slice_get, refl, Bool, true, sym, ◌∙◌, false, ◌≢◌, ap, if◌then◌else◌, ◌&&◌, not, drop, ◌+◌, zero, arith, suc, nat_eq, length, Result, Ok, ◌*◌, subst, ◌<◌, cond, ◌==◌, slice_set, ⊎_elim, ◌≤◌, option_map}
use Rattle.std.specs.Prelude.{◌⊎◌, nat_le, nat_lt}
use Rattle.std.proofs.lemmas.Bool.{false≢true, eq-eqb, true≢false, cases_eq, or_from, and_from, le-leb, lt-ltb}
use Rattle.std.specs.List.{position_or_len, AllByRecursion}
use Rattle.std.proofs.lemmas.Option.{same_Some}
use Rattle.std.proofs.lemmas.List.{append_assoc}
use Rattle.usb_base.specs.declared.packets.EpKind.{EpKind}
use Rattle.usb_base.specs.declared.endpoints.EndCause.{EndCause}
use Rattle.usb_base.specs.declared.packets.Way.{Way}
use Rattle.usb_base.specs.declared.endpoints.EpName.{EpName}
use Rattle.word_mem.specs.Runs.{Run}
use Rattle.word_mem.specs.Memory.{Mem}
use Rattle.mem_runs.specs.declared.slots.Slot.{Slot}
use Rattle.mem_runs.specs.Book.{Book, holding, has_address, IsAt, can_store, slot_of}
use Rattle.law_common.proofs.Numbers.{other_number as not_same, other_number, same_number}
use Rattle.law_common.proofs.Lists.{set_here, set_there}
use Rattle.law_common.proofs.Options.{none_some}
use Rattle.claims_base.specs.Controller.{Base}
use Rattle.claims_base.specs.Prefix.{IsPrefix}
use Rattle.link_words.specs.declared.refusal.Bad.{Bad}
use Rattle.link_words.specs.declared.kinds.QtdLink.{QtdLink}
use Rattle.qh_qtd.specs.declared.qtd.Qtd.{Qtd}
use Rattle.qh_qtd.specs.Qtd.{IsQtdInRange, qtd_words, qtd_read}
use Rattle.qh_qtd.proofs.QtdLaws.{qtd_read-words}
use Rattle.drv_table.specs.declared.content.Command.{Command}
use Rattle.drv_table.specs.declared.content.Endpoint.{Endpoint}
use Rattle.drv_table.specs.declared.content.Transfer.{Transfer}
use Rattle.drv_table.specs.declared.rows.Found.{Found}
use Rattle.drv_table.specs.Harvests.{is_stall, end_of, note_at, reported}
use Rattle.drv_table.specs.DriverContent.{DriverContent, waits_for, is_same_way, is_same_name}
use Rattle.drv_table.specs.Parts.{Parts}
use Rattle.drv_table.specs.Rows.{after_driver_row}
use Rattle.drv_table.specs.Harvesting.{after_harvest}
use Rattle.drv_table.specs.declared.content.Stage.{Stage}
use Rattle.drv_table.specs.Offers.{is_last}
use Rattle.drv_table.specs.declared.content.QtdNote.{QtdNote}
use Rattle.drv_table.specs.Releases.{after_endpoint, is_told, free_endpoint, gone_with, cancelled_bytes}
use Rattle.drv_table.specs.declared.content.Mend.{Mend}
use Rattle.law_structures.specs.lent_structures.Structures.{Structures, Structure, Buffer, StructureSets, QueueHead}
use Rattle.law_structures.specs.lent_structures.Sound.{LeadsOn, buffer_name}
use Rattle.law_structures.specs.lent_structures.Alters.{Alters}
use Rattle.law_structures.proofs.lemmas.lent_structures.Members.{name_after}
use Rattle.law_ring.specs.Order.{IsAmong, IsSorted, AreAfter}
use Rattle.law_ring.specs.Fewer.{fewer_structures, without_those}
use Rattle.law_ring.proofs.ReleaseGoing.{stays}
use Rattle.law_ring.specs.Stores.{IsUnnamed}
use Rattle.law_ring.specs.Front.{HasTail}
use Rattle.law_ring.proofs.Returning.{those_found}
use Rattle.law_controller.specs.controlled_streams.Control.{IsOn}
use Rattle.law_controller.proofs.Common.{lower_one}
use Rattle.claims_driver.specs.Owners.{NoteRuns, Views, IsPieceOf, Element as PieceOf, note_in, Owner, ArePieces, IsPlaced, Element, Buffer as BufferOwner, HasBlocks, runs_of_transfer}
use Rattle.claims_driver.specs.Leaving.{times}
use Rattle.claims_driver.specs.Ring.{link_in}
use Rattle.law_driver.specs.chained_transfers.Out.{if_last, out_of_transfer, passed, pieces_from, unpublished, out_of}
use Rattle.law_driver.specs.chained_transfers.Chains.{piece_at}
use Rattle.law_driver.proofs.Common.{waits_is}
use Rattle.law_driver.specs.run_owners.Due.{IsHarvestDue}
use Rattle.law_driver.proofs.lemmas.chained_transfers.Harvested.{no_stall}
use Rattle.law_driver.specs.endpoint_lives.Lives.{is_one_of}
use Rattle.law_driver.specs.in_place.InPlace.{IsSound}
use Rattle.law_driver.specs.ring_members.Words.{IsPublishing, StandsFor}
use Rattle.law_driver_ring.specs.fed_queues.Fed.{unpublished_of}
use Rattle.law_driver_ring.specs.Inventory.{Sort, AreTold, IsLent, OfBuffer, IsBufferTold, IsPieceTold}
use Rattle.law_driver_ring.specs.Written.{last_block}
use Rattle.law_driver_ring.specs.told_harvests.Held.{IsOneFrom, IsRead, AreRead}
use Rattle.law_driver_ring.specs.Driven.{IsOperating}
use Rattle.law_queues.specs.mended_heads.Stalling.{IsStall}
use Rattle.law_queues.specs.mended_heads.Owed.{store_by, mends_at}
use Rattle.law_queues.specs.leaving_drivers.Before.{UnlinksAtMost}
use Rattle.law_queues.specs.leaving_drivers.Owed.{AreOwedMet}
use Rattle.usb_base.specs.declared.packets.Way.TheVariants as ways
use Rattle.usb_base.specs.declared.packets.EpKind.TheVariants as kinds
use Rattle.usb_base.specs.declared.reports.What.TheVariants as lines
use Rattle.mem_runs.specs.declared.slots.Slot.TheVariants as slots
use Rattle.link_words.specs.declared.kinds.QtdLink.TheVariants as qtd_links
use Rattle.drv_table.specs.declared.content.Command.TheVariants as unfinished
use Rattle.drv_table.specs.declared.rows.Found.TheVariants as founds
use Rattle.drv_table.specs.declared.rows.DriverRow.TheVariants as rows

pub none_open : (q : ℕ) → ◌≡◌ {A = Option Command} None (Some (unfinished.Open q)) → ⊥
none_open q is = cc

pub one_target : (a c : ℕ) → qtd_links.To a ≡ qtd_links.To c → a ≡ c
one_target a c same = cc

pub among_left : (e : ℕ) (xs ys : List ℕ) → IsAmong e xs → IsAmong e (xs ++ ys)
among_left e [] ys is = absurd is
among_left e (x ∷ xs) ys (inl is) = inl is
among_left e (x ∷ xs) ys (inr is) = inr (among_left e xs ys is)

pub among_right : (a : ℕ) (xs ys : List ℕ) → IsAmong a ys → IsAmong a (xs ++ ys)
among_right a [] ys k = k
among_right a (x ∷ xs) ys k = inr (among_right a xs ys k)

pub same_queue : (q b : ℕ) → Some (unfinished.Open q) ≡ Some (unfinished.Open b) → q ≡ b
same_queue q b e = cc

pub no_endpoint : (e : ℕ) (x : Endpoint) → slice_get {X = Endpoint} [] e ≡ Some x → ⊥
no_endpoint e x there = cc

pub if_zero : (ts : List Transfer) → if_last ts 0 ≡ 0
if_zero [] = refl
if_zero (y ∷ ys) = refl

pub none_published : (b : ℕ) (words : List ℕ) → ◌≡◌ {A = Option Command} None (Some (unfinished.Publish b words)) → ⊥
none_published b words is = cc

pub stall_or : (kind : EpKind) (found : Found) → IsStall kind found ⊎ (IsStall kind found → ⊥)
stall_or kind founds.Active = inr (λ stall. stall)
stall_or kind (founds.Moved n) = inr (λ stall. stall)
stall_or kind (founds.Served errors) = inr (λ stall. stall)
stall_or kind (founds.Ended n what) = by (is_stall what) (end_of kind what) refl refl
  where
    never : (c : EndCause) → ◌≡◌ {A = Option EndCause} None (Some c) → ⊥
    never c same = cc

    by : (b : Bool) (o : Option EndCause) → is_stall what ≡ b → end_of kind what ≡ o
        → IsStall kind (founds.Ended n what) ⊎ (IsStall kind (founds.Ended n what) → ⊥)
    by true None is none = inl (is, none)
    by true (Some c) is some = inr (λ stall. never c (sym stall.1 ∙ some))
    by false o is other = inr (λ stall. false≢true (sym is ∙ stall.0))

pub none_of : (note : ℕ → NoteRuns) (e : ℕ) (y : Transfer) → y.endpoint ≢ e → out_of_transfer note e 0 y ≡ []
none_of note e y differs =
    ap (λ (b : Bool). if b && not y.released then drop (0 + passed y.reported) (pieces_from note y.place y.left) else [])
    (not_same y.endpoint e differs)

pub piece_more : (note : ℕ → NoteRuns) (b i j : ℕ) → piece_at note (piece_at note b i) j ≡ piece_at note b (i + j)
piece_more note b zero j = ap (piece_at note b) (let e : j ≡ 0 + j = omega arith in e)
piece_more note b (suc i) j = piece_more note (note b).next i j ∙ ap (piece_at note b) (let e : suc (i + j) ≡ suc i + j = omega arith in e)

pub none_unpublished : (d : DriverContent) (t : ℕ) (y : Transfer) → d.command ≡ None → unpublished_of d t y ≡ 0
none_unpublished d t y idle = by_newest (nat_eq (suc t) (length d.transfers))
  where
    by_newest : (b : Bool) → (if b then unpublished d.command d.made y.qtds else 0) ≡ 0
    by_newest true = ap (λ (c : Option Command). unpublished c d.made y.qtds) idle
    by_newest false = refl

pub ok_same : (p q : Qtd) → ◌≡◌ {A = Result Qtd Bad} (Ok p) (Ok q) → p ≡ q
ok_same p q same = cc

pub queue_of : (q b made : ℕ) → (store_by q b made).queue ≡ q
queue_of q b (suc zero) = refl
queue_of q b _ = refl

pub its_endpoint : (e : ℕ) (y : Transfer) → waits_for e y ≡ true → y.endpoint ≡ e
its_endpoint e y waits = (waits_is e y waits).0

pub same_way : (w : Way) → is_same_way w w ≡ true
same_way ways.In = refl
same_way _ = refl

pub all_out : (ys : List Transfer) (made n : ℕ) → if_last ys (unpublished None made n) ≡ 0
all_out [] made n = refl
all_out (y ∷ ys) made n = refl

pub piece_told : (v : Views) (sorts : ℕ → Option Sort) (b n e c : ℕ) (cs : List ℕ) → AreTold v sorts b n → IsPieceOf v.note b n e
    → (v.note e).buffer ≡ c ∷ cs → IsLent (v.slot c) → sorts (32 * c) ≡ Some OfBuffer
piece_told v sorts b zero e c cs told piece runs lent = absurd piece
piece_told v sorts b (suc n) e c cs told (inl is) runs lent =
    (subst (IsBufferTold v.slot sorts) (ap (λ (i : ℕ). (v.note i).buffer) (sym is) ∙ runs) told.0.buffer) lent
piece_told v sorts b (suc n) e c cs told (inr more) runs lent = piece_told v sorts (v.note b).next n e c cs told.1 more runs lent

pub one_qtd : (p q : Qtd) → IsQtdInRange p → IsQtdInRange q → qtd_words p ≡ qtd_words q → p ≡ q
one_qtd p q one two same = ok_same p q (sym (qtd_read-words p one) ∙ ap qtd_read same ∙ qtd_read-words q two)

pub has_place : (p : Endpoint → Bool) (xs : List Endpoint) (k : ℕ) (y : Endpoint) → slice_get xs k ≡ Some y → p y ≡ true
    → position_or_len p xs < length xs
has_place p [] zero y here is = absurd cc
has_place p [] (suc k) y here is = absurd cc
has_place p (x ∷ xs) zero y here is = by_first (p x) (ap p (same_Some x y here) ∙ is)
  where
    by_first : (b : Bool) → b ≡ true → cond (not b) (1 + position_or_len p xs) 0 < suc (length xs)
    by_first true found = omega arith
    by_first false found = absurd (false≢true found)
has_place p (x ∷ xs) (suc k) y here is = by_first (p x) (has_place p xs k y here is)
  where
    by_first : (b : Bool) → position_or_len p xs < length xs → cond (not b) (1 + position_or_len p xs) 0 < suc (length xs)
    by_first true later = omega arith
    by_first false later = omega (arith, later)

pub same_piece : (t u : ℕ) → PieceOf t ≡ PieceOf u → t ≡ u
same_piece t u is = cc

pub after_is : (p : Parts) (e t : ℕ) (found : Found) (due : IsHarvestDue p e t found)
    → (after_driver_row (rows.Harvest e t found) p).driver ≡ after_harvest p.driver p.memory e t found (Some due.endpoint)
    (Some due.transfer)
after_is p e t found due =
    ap (λ (o : Option Endpoint). after_harvest p.driver p.memory e t found o (slice_get p.driver.transfers t)) due.here
    ∙ ap (after_harvest p.driver p.memory e t found (Some due.endpoint)) due.there

pub leads_fewer : (goes : ℕ → Bool) (part : Structures) (l : QtdLink) → ((b : ℕ) → l ≡ qtd_links.To b → goes b ≡ false) → LeadsOn part l
    → LeadsOn (fewer_structures goes part) l
leads_fewer goes part qtd_links.End off leads = tt
leads_fewer goes part (qtd_links.To b) off leads = record { qtd = leads.qtd; here = stays goes part b (off b refl) ∙ leads.here }

pub no_end : (b : ℕ) → qtd_links.End ≡ qtd_links.To b → ⊥
no_end b same = cc

pub name_is : (a b : EpName) → a.addr ≡ b.addr → a.num ≡ b.num → a.way ≡ b.way → a ≡ b
name_is a b addr num way =
    ap (λ (n : ℕ). record a { addr = n }) addr ∙ ap (λ (n : ℕ). record a { addr = b.addr; num = n }) num
    ∙ ap (λ (v : Way). record b { way = v }) way

pub same_name : (a b : EpName) → a.addr ≡ b.addr → a.num ≡ b.num → a.way ≡ b.way → is_same_name a b ≡ true
same_name a b addr num way =
    ap (λ (x : Bool). x && (a.num == b.num) && is_same_way a.way b.way) (eq-eqb a.addr b.addr addr)
    ∙ ap (λ (x : Bool). x && is_same_way a.way b.way) (eq-eqb a.num b.num num) ∙ ap (λ (w : Way). is_same_way w b.way) way
    ∙ same_way b.way

pub told_at : (v : Views) (sorts : ℕ → Option Sort) (b n i : ℕ) → AreTold v sorts b n → i < n → IsPieceTold v sorts (piece_at v.note b i)
told_at v sorts b zero i told below = absurd (omega (arith, below))
told_at v sorts b (suc n) zero told below = told.0
told_at v sorts b (suc n) (suc i) told below = told_at v sorts (v.note b).next n i told.1 (omega (arith, below))

pub first_out : (note : ℕ → NoteRuns) (e made : ℕ) (y : Transfer) (ys : List Transfer)
    → out_of note e None made (y ∷ ys) ≡ out_of_transfer note e 0 y ++ out_of note e None made ys
first_out note e made y ys = ap (λ (i : ℕ). out_of_transfer note e i y ++ out_of note e None made ys) (all_out ys made y.qtds)

pub bulk_unstalled : (kind : EpKind) (found : Found) → kind ≡ kinds.Bulk → IsStall kind found → ⊥
bulk_unstalled kind (founds.Ended n what) bulk stall = true≢false (sym stall.0 ∙ no_stall kind what bulk stall.1)
bulk_unstalled kind _ bulk stall = stall

pub pieces_same : (note now : ℕ → NoteRuns) (b i : ℕ) → ((c : ℕ) → now c ≡ note c) → pieces_from now b i ≡ pieces_from note b i
pieces_same note now b zero same = refl
pieces_same note now b (suc i) same =
    ap (λ (xs : List ℕ). 32 * b ∷ xs) (ap (λ (z : NoteRuns). pieces_from now z.next i) (same b) ∙ pieces_same note now (note b).next i same)

pub own_out : (note : ℕ → NoteRuns) (e : ℕ) (y : Transfer) → y.endpoint ≡ e → y.released ≡ false
    → out_of_transfer note e 0 y ≡ drop (0 + passed y.reported) (pieces_from note y.place y.left)
own_out note e y at kept =
    ap (λ (b : Bool). if b && not y.released then drop (0 + passed y.reported) (pieces_from note y.place y.left) else [])
    (eq-eqb y.endpoint e at)
    ∙ ap (λ (b : Bool). if true && not b then drop (0 + passed y.reported) (pieces_from note y.place y.left) else []) kept

pub last_is : (ss : List Stage) → nat_eq (suc (length ss)) 1 ≡ is_last ss
last_is [] = refl
last_is (s ∷ ss) = not_same (suc (suc (length ss))) 1 (λ same. omega (arith, same))

pub drop_all : (note : ℕ → NoteRuns) (b n : ℕ) → drop n (pieces_from note b n) ≡ []
drop_all note b zero = refl
drop_all note b (suc n) = drop_all note (note b).next n

pub end_is : (notes : List QtdNote) (ss : List Stage) (b : ℕ) → piece_at (note_in notes) b (length ss) ≡ last_block notes ss b
end_is notes [] b = refl
end_is notes (s ∷ ss) b = end_is notes ss (note_at notes b).next

pub not_its_out : (note : ℕ → NoteRuns) (e first : ℕ) (y : Transfer) → y.endpoint ≢ e → out_of_transfer note e first y ≡ []
not_its_out note e first y differs =
    ap (λ (t : Bool). cond (t && not y.released) (drop (first + cond y.reported 1 0) (pieces_from note y.place y.left)) [])
    (not_same y.endpoint e differs)

pub one_placed : (slot : ℕ → Slot) (owner : ℕ → Owner) (notes : List QtdNote) (t b n a : ℕ) → ArePieces slot owner (note_in notes) t b n
    → IsOneFrom (note_at notes) b n a → IsPlaced slot owner a (Element t)
one_placed slot owner notes t b zero a k one = absurd one
one_placed slot owner notes t b (suc n) a k (inl is) = subst (λ (c : ℕ). IsPlaced slot owner c (Element t)) (sym is) k.0.element
one_placed slot owner notes t b (suc n) a k (inr one) = one_placed slot owner notes t (note_at notes b).next n a k.1 one

pub set_which : {X : Type 0} (xs : List X) (t k : ℕ) (x y z : X) → slice_get xs t ≡ Some x → slice_get (slice_set xs t y) k ≡ Some z
    → ((k ≡ t) × (z ≡ y)) ⊎ ((k ≢ t) × (slice_get xs k ≡ Some z))
set_which xs t k x y z was here =
    ⊎_elim (λ (is : k ≡ t). inl (is, same_Some z y (sym here ∙ ap (slice_get (slice_set xs t y)) is ∙ set_here xs t x y was)))
    (λ (differs : k ≢ t). inr (differs, sym (set_there xs t k y differs) ∙ here)) (cases_eq k t)

pub all_read : (part : Structures) (notes : List QtdNote) (b n : ℕ)
    → ((i : ℕ) → i < n → IsRead part (note_at notes (piece_at (note_in notes) b i)) (piece_at (note_in notes) b i))
    → AreRead part (note_at notes) b n
all_read part notes b zero each = tt
all_read part notes b (suc n) each =
    (each 0 (omega arith), all_read part notes (note_at notes b).next n (λ i below. each (suc i) (omega (arith, below))))

pub not_open : (o : Option Command) (q : ℕ) → UnlinksAtMost o → o ≢ Some (unfinished.Open q)
not_open None q may is = cc
not_open (Some (unfinished.Unlink e b link)) q may is = cc
not_open _ q may is = may

pub let_go_harvested : (p : Parts) (e : ℕ) (o : Option Endpoint) → (after_endpoint p e o).driver.harvested ≡ p.driver.harvested
let_go_harvested p e None = refl
let_go_harvested p e (Some x) = by (is_told x)
  where
    book : Book
    book = (free_endpoint p.driver e x (holding p.driver.book p.memory)).book

    by : (b : Bool) → (gone_with (cond b (reported p.driver lines.Cancel x.desc.name
        (cancelled_bytes p.driver.notes p.memory e x.queue p.driver.transfers)) p.driver) e x (is_told x) book).harvested ≡
        p.driver.harvested
    by true = refl
    by false = refl

pub not_one : (e : ℕ) (es : List ℕ) → times e es ≡ 0 → is_one_of e es ≡ false
not_one e [] none = refl
not_one e (f ∷ es) none = by (λ rest. not_one e es rest) (f == e) refl
  where
    by : (times e es ≡ 0 → is_one_of e es ≡ false) → (b : Bool) → (f == e) ≡ b → is_one_of e (f ∷ es) ≡ false
    by others true is = let one : ◌≡◌ {A = ℕ} (cond (f == e) 1 0) 1 = ap (λ (b : Bool). cond b 1 0) is in absurd (omega (arith, one, none))
    by others false is =
        let one : ◌≡◌ {A = ℕ} (cond (f == e) 1 0) 0 = ap (λ (b : Bool). cond b 1 0) is in
        let rest : times e es ≡ 0 = omega (arith, one, none) in
        or_from (e == f) (is_one_of e es) (other_number e f (λ same. false≢true (sym is ∙ ap (λ (n : ℕ). f == n) same ∙ same_number f)))
        (others rest)

pub one_buffer : (p q : List ℕ) (k i : ℕ) (bs cs : List ℕ) → ◌≡◌ {A = Option Structure} (Some (Buffer p k bs)) (Some (Buffer q i cs))
    → (p ≡ q) × (k ≡ i) × (bs ≡ cs)
one_buffer p q k i bs cs same = (cc, cc, cc)

pub piece_placed : (slot : ℕ → Slot) (owner : ℕ → Owner) (note : ℕ → NoteRuns) (t b n e c : ℕ) (cs : List ℕ)
    → ArePieces slot owner note t b n → IsPieceOf note b n e → (note e).buffer ≡ c ∷ cs → IsPlaced slot owner c (BufferOwner t)
piece_placed slot owner note t b zero e c cs pieces piece runs = absurd piece
piece_placed slot owner note t b (suc n) e c cs pieces (inl is) runs =
    (subst (AllByRecursion (λ k. IsPlaced slot owner k (BufferOwner t))) (ap (λ (i : ℕ). (note i).buffer) (sym is) ∙ runs)
    pieces.0.buffers).0
piece_placed slot owner note t b (suc n) e c cs pieces (inr more) runs =
    piece_placed slot owner note t (note b).next n e c cs pieces.1 more runs

pub first_of : (q b made : ℕ) (ws : List Mend) → made < 3 → slice_get (drop made (mends_at q b) ++ ws) 0 ≡ Some (store_by q b made)
first_of q b (suc (suc (suc n))) ws below = absurd (omega (arith, below))
first_of q b _ ws below = refl

pub unnamed_still : (part now : Structures) (a : ℕ) (t : Qtd) → Alters part now → IsUnnamed part a t → IsUnnamed now a t
unnamed_still part now a t alters free b u differs here name has =
    let before = alters.element_before b u here in
    let buffer = alters.buffer_before (buffer_name t) has.pages has.start has.bytes has.here in
    free b before.qtd differs before.here (sym (name_after before.qtd u before.after) ∙ name)
    (record { pages = has.pages; start = has.start; bytes = buffer.bytes; here = buffer.here })

pub address_in : (r : Run) (b at : ℕ) → r.first ≡ b → 1 ≤ r.blocks → 32 * b ≤ at → at < 32 * (b + 1) → has_address r at ≡ true
address_in r b at first some low high =
    and_from (nat_le (32 * r.first) at) (nat_lt at (32 * (r.first + r.blocks))) (le-leb (32 * r.first) at (omega (arith, first, low)))
    (lt-ltb at (32 * (r.first + r.blocks)) (omega (arith, first, some, high)))

pub can_by : (s : Slot) (b at : ℕ) → IsAt b s → HasBlocks 1 s → 32 * b ≤ at → at < 32 * (b + 1) → can_store s at ≡ true
can_by slots.Empty b at is run low high = absurd run
can_by (slots.Keeps r) b at is run low high = address_in r b at is.0 is.1 low high
can_by (slots.Lends r) b at is run low high = address_in r b at is.0 is.1 low high

pub first_piece : (slot : ℕ → Slot) (owner : ℕ → Owner) (note : ℕ → NoteRuns) (t b qtds : ℕ) → 1 ≤ qtds → ArePieces slot owner note t b qtds
    → HasBlocks 1 (slot b)
first_piece slot owner note t b zero some pieces = absurd (omega (arith, some))
first_piece slot owner note t b (suc qtds) some pieces = pieces.0.element.run

pub can_publish : (m : Mem) (d : DriverContent) (b : ℕ) (words : List ℕ) (i : ℕ) → IsSound m d
    → d.command ≡ Some (unfinished.Publish b words) → i < 8 → can_store (slot_of d.book.slots b) (32 * b + 4 * i) ≡ true
can_publish m d b words i k command below =
    let is : IsPublishing (link_in m) d.endpoints d.transfers b =
    subst (StandsFor (link_in m) d.endpoints d.transfers) command k.ring.ring in
    let pieces = k.owners.owned.each.pieces is.number (runs_of_transfer is.transfer) (ap (option_map runs_of_transfer) is.there) is.released
    in
    let one : HasBlocks 1 (slot_of d.book.slots is.transfer.first) =
    first_piece (slot_of d.book.slots) k.owners.owner (note_in d.notes) is.number is.transfer.first is.transfer.qtds is.some pieces in
    can_by (slot_of d.book.slots b) b (32 * b + 4 * i) (k.stands.placed b)
    (subst (λ (c : ℕ). HasBlocks 1 (slot_of d.book.slots c)) is.first one) (omega arith) (omega (arith, below))

pub fewer_tail : (parts : StructureSets) (n : ℕ) (goes : ℕ → Bool) (order : ℕ → ℕ) (m c front : ℕ) → HasTail order c front m (parts m)
    → HasTail order c front m (without_those parts n goes m)
fewer_tail parts n goes order m c front k = record {
  most = k.most;
  rest = λ q b found goes_on idle to. k.rest q b (those_found parts n goes m m (QueueHead q) found) goes_on idle to;
}

pub is_on : (base : Base) → IsOperating base → IsOn base
is_on base is = record { run = is.run; async_enable = is.async_enable }

pub lower : (order : ℕ → ℕ) (e a : ℕ) (ahead behind : List ℕ) → IsSorted order (ahead ++ e ∷ behind) → IsAmong a ahead → order a < order e
lower order e a [] behind sorted among = absurd among
lower order e a (d ∷ ds) behind sorted (inl same) = let less = past d ds sorted.0 in let at = ap order same in omega (arith, less, at)
  where
    past : (d : ℕ) (ds : List ℕ) → AreAfter order d (ds ++ e ∷ behind) → order d < order e
    past d [] after = after.0
    past d (x ∷ xs) after = past d xs after.1
lower order e a (d ∷ ds) behind sorted (inr among) = lower order e a ds behind sorted.1 among

pub after_both : (h a b : List ℕ) → IsPrefix a b → IsPrefix (h ++ a) (h ++ b)
after_both h a b (rest, e) = (rest, append_assoc h a rest ∙ ap (λ (zs : List ℕ). h ++ zs) e)

pub last_one : (x b c : List ℕ) → IsPrefix x b → IsPrefix x (b ++ c)
last_one x b c (rest, e) = (rest ++ c, sym (append_assoc x rest c) ∙ ap (λ (zs : List ℕ). zs ++ c) e)

pub owed_none : (d : DriverContent) → d.harvested ≡ [] → AreOwedMet d
owed_none d none i t y x at there here = absurd (none_some t (sym (ap (λ (hs : List ℕ). slice_get hs i) none) ∙ at))

pub behind_less : (f : ℕ → ℕ) (h a : ℕ) (xs ys : List ℕ) → IsSorted f (xs ++ h ∷ ys) → IsAmong a ys → f h < f a
behind_less f h a [] ys sorted is = lower_one f h a ys sorted.0 is
behind_less f h a (x ∷ xs) ys sorted is = behind_less f h a xs ys sorted.1 is
