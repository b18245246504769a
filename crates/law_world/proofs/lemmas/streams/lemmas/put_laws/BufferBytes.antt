-- The bytes that the transfers of an OUT endpoint hold stand in the buffers of their qTDs.
use Rattle.std.proofs.Common.{◌≡◌, ◌≢◌, ℕ, zero, suc, ◌+◌, ◌-◌, ◌*◌, ◌<◌, ◌≤◌, ◌&&◌, not, nat_eq, cond, Bool, true, false, List, [], ◌∷◌, ◌++◌, length, take, drop, slice_get, Option, Some, None, ap, refl, sym, subst, ◌∙◌, ⊎_elim, arith}
use Rattle.std.proofs.lemmas.Bool.{cases_eq, cases_lt, eq-eqb}
use Rattle.std.proofs.lemmas.Bool.Decides.{nat_tests}
use Rattle.std.proofs.lemmas.List.{append_assoc, append-nil, length-drop, length-take-le}
use Rattle.std.proofs.lemmas.Option.{same_Some, slice_get_within}
use Rattle.law_driver.proofs.Common.{others_wait}
use Rattle.law_world.proofs.Common.{one_out}
use Rattle.law_queues.proofs.Common.{drop_all, not_its_out, piece_more}
use Rattle.law_common.proofs.Lists.{still_there}
use Rattle.word_mem.specs.Memory.{Mem}
use Rattle.drv_table.specs.declared.content.Command.{Command}
use Rattle.drv_table.specs.declared.content.Command.TheVariants as unfinished
use Rattle.drv_table.specs.declared.content.Endpoint.{Endpoint}
use Rattle.drv_table.specs.declared.content.QtdNote.{QtdNote}
use Rattle.drv_table.specs.declared.content.Sort.{Sort}
use Rattle.drv_table.specs.declared.content.Transfer.{Transfer}
use Rattle.drv_table.specs.DriverContent.{DriverContent}
use Rattle.drv_table.specs.Harvests.{note_at, buffer_bytes}
use Rattle.claims_driver.specs.Owners.{NoteRuns, note_in}
use Rattle.claims_driver.specs.Scripts.{receives}
use Rattle.law_driver.specs.chained_transfers.Chains.{piece_at}
use Rattle.law_driver.specs.chained_transfers.AsynchronousTurns.{AsynchronousTakesTurns}
use Rattle.law_driver.proofs.lemmas.chained_transfers.Staying.{told_stands_alive}
use Rattle.law_driver.specs.endpoint_lives.Lives.{told_end}
use Rattle.law_driver.specs.chained_transfers.Out.{pieces_from, unpublished, passed, out_of_transfer, if_last, out_of, out_now}
use Rattle.law_structures.specs.lent_structures.Structures.{Structures, StructureSets, Tells}
use Rattle.law_ring.specs.Effects.{bytes_in, buffer_of}
use Rattle.law_queues.specs.whole_sends.Whole.{bytes_of_element, buffer_at, buffers_of}
use Rattle.law_driver_ring.specs.fed_queues.Fed.{is_request, IsPieceFed, unpublished_of, IsPublished, AreFed}
use Rattle.law_driver_ring.proofs.lemmas.fed_queues.Sized.{told_fed}
use Rattle.law_queues.proofs.lemmas.fed_lends.Outs.{last_apart, out_apart, its_out}
use Rattle.law_world.specs.streams.put_laws.Held.{held_bytes}
use Rattle.law_world.proofs.lemmas.streams.lemmas.put_laws.Stored.{fed_stored, stored_bytes}
use Rattle.law_world.specs.streams.put_laws.Owed.{rest_from, rest_of, AreReadToEnd}
use Rattle.law_world.specs.streams.put_laws.Buffers.{IsPublishingTo, BuffersAreRest, BuffersBeforeLend, IsRestAround, BuffersAround}
use Rattle.law_world.proofs.lemmas.streams.lemmas.put_laws.Bytes.{no_bytes, held_first}
use Rattle.law_world.proofs.lemmas.streams.lemmas.put_laws.Rests.{waits_on, reported_not, one_rest, one_waits, one_none, rest_join}
use Rattle.law_world.proofs.lemmas.streams.lemmas.put_laws.Same.{not_gone, kept, its_sort}

-- ---- one qTD

empty : (xs : List ℕ) → length xs ≤ 0 → xs ≡ []
empty [] none = refl
empty (x ∷ xs) none = absurd (omega (arith, none))

piece_bytes : (m : Mem) (parts : StructureSets) (n : ℕ) (note : QtdNote) (sort : Sort) (b end : ℕ) → Tells m parts → IsPieceFed sort (parts n) note b end → buffer_bytes m note note.told ≡ buffer_at (parts n) (32 * b)
piece_bytes m parts n note sort b end tells fed =
    ⊎_elim some none (cases_lt 0 note.told) ∙ sym (ap (bytes_of_element (parts n)) fed.here)
  where
    some : 0 < note.told → buffer_bytes m note note.told ≡ buffer_of (parts n) fed.qtd
    some more = stored_bytes m parts n note tells (fed_stored sort (parts n) note b end fed more) ∙ sym (ap bytes_in (fed.buffer more).here)

    none : note.told ≤ 0 → buffer_bytes m note note.told ≡ buffer_of (parts n) fed.qtd
    none few =
        let long = fed.long in
        let zero_told : note.told ≡ 0 = omega (arith, few) in
        ap (buffer_bytes m note) zero_told ∙ no_bytes m note ∙ sym (empty (buffer_of (parts n) fed.qtd) (omega (arith, few, long)))

-- ---- the qTDs of a transfer

-- n qTDs from block b on
abbrev AreTold : Mem → List QtdNote → Structures → ℕ → ℕ → Type 0
AreTold m notes part b n =
    (i : ℕ) → i < n → buffer_bytes m (note_at notes (piece_at (note_in notes) b i)) (note_at notes (piece_at (note_in notes) b i)).told ≡ buffer_at part (32 * piece_at (note_in notes) b i)

held_are : (m : Mem) (notes : List QtdNote) (part : Structures) (b n : ℕ) → AreTold m notes part b n → held_bytes m notes b n ≡ buffers_of part (pieces_from (note_in notes) b n)
unfolding held_bytes
held_are m notes part b zero each = refl
held_are m notes part b (suc n) each =
    let note = note_at notes b in
    ap (λ (bs : List ℕ). bs ++ held_bytes m notes note.next n) (each 0 (omega arith))
    ∙ ap (λ (bs : List ℕ). buffer_at part (32 * b) ++ bs) (held_are m notes part note.next n (λ i below. each (suc i) (omega (arith, below))))

buffers_join : (part : Structures) (xs ys : List ℕ) → buffers_of part (xs ++ ys) ≡ buffers_of part xs ++ buffers_of part ys
buffers_join part [] ys = refl
buffers_join part (x ∷ xs) ys = ap (λ (bs : List ℕ). buffer_at part x ++ bs) (buffers_join part xs ys) ∙ sym (append_assoc (buffer_at part x) (buffers_of part xs) (buffers_of part ys))

-- ---- what is out of a transfer that was reported

own_out : (note : ℕ → NoteRuns) (e first : ℕ) (y : Transfer) → y.endpoint ≡ e → y.released ≡ false → out_of_transfer note e first y ≡ drop (first + passed y.reported) (pieces_from note y.place y.left)
own_out note e first y at stays =
    let all = drop (first + passed y.reported) (pieces_from note y.place y.left) in
    ap (λ (t : Bool). cond (t && not y.released) all []) (eq-eqb y.endpoint e at) ∙ ap (λ (t : Bool). cond (not t) all []) stays

-- ---- the newest transfer

if_last_none : (ts : List Transfer) (n : ℕ) → (ts ≡ [] → n ≡ 0) → if_last ts n ≡ 0
if_last_none [] n none = none refl
if_last_none (y ∷ ys) n none = refl

at_end : (ts : List Transfer) (i : ℕ) (y : Transfer) → slice_get ts i ≡ Some y → drop (suc i) ts ≡ [] → suc i ≡ length ts
at_end ts i y there none =
    let inside = slice_get_within ts i y there in
    let long = length-drop (suc i) ts in
    let size : length (drop (suc i) ts) ≡ 0 = ap length none in
    omega (arith, inside, long, size)

early : (d : DriverContent) (t : ℕ) (y : Transfer) → (suc t ≡ length d.transfers → unpublished d.command d.made y.qtds ≡ 0) → unpublished_of d t y ≡ 0
early d t y none = by (nat_eq (suc t) (length d.transfers)) refl
  where
    by : (b : Bool) → nat_eq (suc t) (length d.transfers) ≡ b → cond b (unpublished d.command d.made y.qtds) 0 ≡ 0
    by true is = none (grind (arith, nat_tests, is))
    by false is = refl

publishes_none : (d : DriverContent) (e t : ℕ) (y : Transfer) → slice_get d.transfers t ≡ Some y → y.endpoint ≡ e → ((b : ℕ) → IsPublishingTo d e b → ⊥) → suc t ≡ length d.transfers → unpublished d.command d.made y.qtds ≡ 0
publishes_none d e t y there own none newest = by d.command refl
  where
    by : (c : Option Command) → d.command ≡ c → unpublished c d.made y.qtds ≡ 0
    by None is = refl
    by (Some (unfinished.Open queue)) is = refl
    by (Some (unfinished.Publish b words)) is = absurd (none b (record { words = words; command = is; number = t; transfer = y; newest = newest; there = there; its_endpoint = own }))
    by (Some (unfinished.Unlink f b link)) is = refl
    by (Some unfinished.Chain) is = refl
    by (Some (unfinished.Iso f u count)) is = refl
    by (Some (unfinished.Unchain f)) is = refl

-- ---- all of them

module _ (d : DriverContent) (m : Mem) (parts : StructureSets) (e : ℕ) (x : Endpoint) (turns : AsynchronousTakesTurns d) (tells : Tells m parts) (fed : AreFed d parts) (read : AreReadToEnd d) (here : slice_get d.endpoints e ≡ Some x) (sends : receives x.desc.name.way ≡ false) (goes : told_end x ≡ None) where
  abbrev note : ℕ → NoteRuns
  note = note_in d.notes

  abbrev part : Structures
  part = parts (32 * x.queue)

  its_end : (y : Transfer) → y.endpoint ≡ e → slice_get d.endpoints y.endpoint ≡ Some x
  its_end y own = ap (slice_get d.endpoints) own ∙ here

  -- n of its qTDs, from number `from` on
  pieces_told : (t : ℕ) (y : Transfer) (from n : ℕ) → slice_get d.transfers t ≡ Some y → y.endpoint ≡ e → y.released ≡ false → unpublished_of d t y ≤ from → from + n ≤ y.qtds
      → AreTold m d.notes (parts (32 * x.queue)) (piece_at (note_in d.notes) y.first from) n
  pieces_told t y from n there own stays late few i below =
      let c = piece_at (note_in d.notes) y.first (from + i) in
      let reached : unpublished_of d t y ≤ from + i = omega (arith, late) in
      let inside : from + i < y.qtds = omega (arith, few, below) in
      subst (λ (a : ℕ). buffer_bytes m (note_at d.notes a) (note_at d.notes a).told ≡ buffer_at (parts (32 * x.queue)) (32 * a)) (sym (piece_more (note_in d.notes) y.first from i))
      (piece_bytes m parts (32 * x.queue) (note_at d.notes c) y.sort c (piece_at (note_in d.notes) y.first y.qtds) tells (told_fed y.sort (parts (32 * x.queue)) (from + i) (note_at d.notes c) c (piece_at (note_in d.notes) y.first y.qtds) (ap is_request (its_sort d e t x y turns here sends there own)) (fed.pieces t (from + i) y x there stays (its_end y own) reached inside)))

  -- a transfer that waits, and one that was reported
  waiting_is : (t : ℕ) (y : Transfer) → slice_get d.transfers t ≡ Some y → y.endpoint ≡ e → y.reported ≡ false → unpublished_of d t y ≡ 0
      → one_rest m d.notes e y ≡ buffers_of (parts (32 * x.queue)) (out_of_transfer (note_in d.notes) e 0 y)
  waiting_is t y there own waits all =
      let stays = kept d t y turns there (not_gone d e x y here (told_stands_alive x (turns.asynchronous.endpoints e x here) goes) own) waits in
      let at = turns.turns.places t y there stays in
      let most = at.most in
      let late : unpublished_of d t y ≤ y.qtds - y.left = omega (arith, all) in
      let few : (y.qtds - y.left) + y.left ≤ y.qtds = omega (arith, most) in
      one_waits m d.notes e y (waits_on e y own waits)
      ∙ held_are m d.notes (parts (32 * x.queue)) y.place y.left
      (subst (λ (b : ℕ). AreTold m d.notes (parts (32 * x.queue)) b y.left) (sym at.place) (pieces_told t y (y.qtds - y.left) y.left there own stays late few))
      ∙ ap (buffers_of (parts (32 * x.queue))) (sym (its_out (note_in d.notes) e 0 y own stays waits))

  reported_out : (t : ℕ) (y : Transfer) → slice_get d.transfers t ≡ Some y → y.endpoint ≡ e → y.reported ≡ true → out_of_transfer (note_in d.notes) e 0 y ≡ []
  reported_out t y there own told = by y.released refl
    where
      by : (b : Bool) → y.released ≡ b → out_of_transfer (note_in d.notes) e 0 y ≡ []
      by true gone = one_out (note_in d.notes) e 0 y gone
      by false stays =
          own_out (note_in d.notes) e 0 y own stays ∙ ap (λ (r : Bool). drop (0 + passed r) (pieces_from (note_in d.notes) y.place y.left)) told
          ∙ ap (λ (n : ℕ). drop 1 (pieces_from (note_in d.notes) y.place n)) (read t y x there (its_end y own) sends goes told stays)

  own_is : (t : ℕ) (y : Transfer) → slice_get d.transfers t ≡ Some y → y.endpoint ≡ e → unpublished_of d t y ≡ 0
      → one_rest m d.notes e y ≡ buffers_of (parts (32 * x.queue)) (out_of_transfer (note_in d.notes) e 0 y)
  own_is t y there own all = by y.reported refl
    where
      by : (b : Bool) → y.reported ≡ b → one_rest m d.notes e y ≡ buffers_of (parts (32 * x.queue)) (out_of_transfer (note_in d.notes) e 0 y)
      by true told = one_none m d.notes e y (reported_not e y told) ∙ ap (buffers_of (parts (32 * x.queue))) (sym (reported_out t y there own told))
      by false waits = waiting_is t y there own waits all

  one_is : (t : ℕ) (y : Transfer) (first : ℕ) → slice_get d.transfers t ≡ Some y → (y.endpoint ≡ e → (unpublished_of d t y ≡ 0) × (first ≡ 0))
      → one_rest m d.notes e y ≡ buffers_of (parts (32 * x.queue)) (out_of_transfer (note_in d.notes) e first y)
  one_is t y first there all =
      ⊎_elim
      (λ (own : y.endpoint ≡ e). own_is t y there own (all own).0 ∙ ap (λ (n : ℕ). buffers_of (parts (32 * x.queue)) (out_of_transfer (note_in d.notes) e n y)) (sym (all own).1))
      (λ (differs : y.endpoint ≢ e). one_none m d.notes e y (others_wait e y differs) ∙ ap (buffers_of (parts (32 * x.queue))) (sym (not_its_out (note_in d.notes) e first y differs)))
      (cases_eq y.endpoint e)

  lists_are : (c : Option Command) (made : ℕ) (ts : List Transfer)
      → ((i : ℕ) (y : Transfer) → slice_get ts i ≡ Some y → one_rest m d.notes e y ≡ buffers_of (parts (32 * x.queue)) (out_of_transfer (note_in d.notes) e (if_last (drop (suc i) ts) (unpublished c made y.qtds)) y))
      → rest_from m d.notes e ts ≡ buffers_of (parts (32 * x.queue)) (out_of (note_in d.notes) e c made ts)
  lists_are c made [] each = refl
  lists_are c made (y ∷ ys) each =
      let this = out_of_transfer (note_in d.notes) e (if_last ys (unpublished c made y.qtds)) y in
      ap (λ (bs : List ℕ). bs ++ rest_from m d.notes e ys) (each 0 y refl)
      ∙ ap (λ (bs : List ℕ). buffers_of (parts (32 * x.queue)) this ++ bs) (lists_are c made ys (λ i z there. each (suc i) z there))
      ∙ sym (buffers_join (parts (32 * x.queue)) this (out_of (note_in d.notes) e c made ys))

  -- while none is published
  rest_is_out : ((b : ℕ) → IsPublishingTo d e b → ⊥) → rest_of d m e ≡ buffers_of (parts (32 * x.queue)) (out_now d e)
  rest_is_out none =
      lists_are d.command d.made d.transfers
      (λ i y there.
      one_is i y (if_last (drop (suc i) d.transfers) (unpublished d.command d.made y.qtds)) there
      (λ own. (
        early d i y (publishes_none d e i y there own none),
        if_last_none (drop (suc i) d.transfers) (unpublished d.command d.made y.qtds) (λ last. publishes_none d e i y there own none (at_end d.transfers i y there last)),
      )))

  -- ---- while one is published

  module _ (b : ℕ) (k : IsPublishingTo d e b) where
    abbrev older : List Transfer
    older = take k.number d.transfers

    apart : d.transfers ≡ take k.number d.transfers ++ k.transfer ∷ []
    apart = last_apart d.transfers k.number k.transfer k.newest k.there

    older_early : (i : ℕ) (y : Transfer) → slice_get older i ≡ Some y → i < k.number
    older_early i y there =
        let inside = slice_get_within (take k.number d.transfers) i y there in
        let newest = k.newest in
        let few : length (take k.number d.transfers) ≡ k.number = length-take-le k.number d.transfers (let e = k.newest in omega (arith, e)) in
        omega (arith, inside, newest, few)

    older_is : rest_from m d.notes e older ≡ buffers_of (parts (32 * x.queue)) (out_of (note_in d.notes) e None 0 older)
    older_is =
        lists_are None 0 older
        (λ i y there.
        let less = older_early i y there in
        let newest = k.newest in
        one_is i y (if_last (drop (suc i) older) 0) (ap (λ (ts : List Transfer). slice_get ts i) apart ∙ still_there older (k.transfer ∷ []) i y there)
        (λ own. (early d i y (λ last. absurd (omega (arith, less, newest, last))), if_last_none (drop (suc i) older) 0 (λ none. refl))))

    rest_apart : rest_of d m e ≡ buffers_of (parts (32 * x.queue)) (out_of (note_in d.notes) e None 0 older) ++ one_rest m d.notes e k.transfer
    rest_apart =
        ap (rest_from m d.notes e) apart ∙ rest_join m d.notes e older (k.transfer ∷ [])
        ∙ ap (λ (bs : List ℕ). rest_from m d.notes e older ++ bs) (append-nil (one_rest m d.notes e k.transfer))
        ∙ ap (λ (bs : List ℕ). bs ++ one_rest m d.notes e k.transfer) older_is

    fed_one : IsPublished d parts b k.words
    fed_one = fed.publishes b k.words k.command

    same_one : fed_one.transfer ≡ k.transfer
    same_one =
        let one = k.newest in
        let other = fed_one.newest in
        let number : fed_one.number ≡ k.number = omega (arith, one, other) in
        same_Some fed_one.transfer k.transfer (sym fed_one.there ∙ ap (slice_get d.transfers) number ∙ k.there)

    waits : k.transfer.reported ≡ false
    waits = ap (λ (y : Transfer). y.reported) (sym same_one) ∙ fed_one.fresh.0

    stays : k.transfer.released ≡ false
    stays = ap (λ (y : Transfer). y.released) (sym same_one) ∙ fed_one.fresh.1

    first_is : k.transfer.first ≡ b
    first_is = ap (λ (y : Transfer). y.first) (sym same_one) ∙ fed_one.place.0

    place_is : k.transfer.place ≡ b
    place_is = ap (λ (y : Transfer). y.place) (sym same_one) ∙ fed_one.place.1

    left_is : k.transfer.left ≡ k.transfer.qtds
    left_is = ap (λ (y : Transfer). y.left) (sym same_one) ∙ fed_one.place.2 ∙ ap (λ (y : Transfer). y.qtds) same_one

    its_rest : one_rest m d.notes e k.transfer ≡ held_bytes m d.notes b k.transfer.qtds
    its_rest =
        one_waits m d.notes e k.transfer (waits_on e k.transfer k.its_endpoint waits) ∙ ap (λ (c : ℕ). held_bytes m d.notes c k.transfer.left) place_is
        ∙ ap (held_bytes m d.notes b) left_is

    out_is : (c : Option Command) (made : ℕ)
        → out_of (note_in d.notes) e c made d.transfers ≡ out_of (note_in d.notes) e None 0 older ++ drop (unpublished c made k.transfer.qtds) (pieces_from (note_in d.notes) b k.transfer.qtds)
    out_is c made =
        let before = out_of (note_in d.notes) e None 0 older in
        let late = unpublished c made k.transfer.qtds in
        ap (out_of (note_in d.notes) e c made) apart ∙ out_apart (note_in d.notes) e c made older k.transfer
        ∙ ap (λ (es : List ℕ). before ++ es) (its_out (note_in d.notes) e late k.transfer k.its_endpoint stays waits)
        ∙ ap (λ (a : ℕ). before ++ drop late (pieces_from (note_in d.notes) a k.transfer.left)) place_is
        ∙ ap (λ (n : ℕ). before ++ drop late (pieces_from (note_in d.notes) b n)) left_is

    now_is : (n : ℕ) → unpublished d.command d.made k.transfer.qtds ≡ n → out_now d e ≡ out_of (note_in d.notes) e None 0 older ++ drop n (pieces_from (note_in d.notes) b k.transfer.qtds)
    now_is n late = out_is d.command d.made ∙ ap (λ (i : ℕ). out_of (note_in d.notes) e None 0 older ++ drop i (pieces_from (note_in d.notes) b k.transfer.qtds)) late

    before_lend : d.made ≡ 0 → rest_of d m e ≡ buffers_of (parts (32 * x.queue)) (out_now d e) ++ held_bytes m d.notes b k.transfer.qtds
    before_lend none =
        let before = out_of (note_in d.notes) e None 0 older in
        let qtds = k.transfer.qtds in
        let late : unpublished d.command d.made qtds ≡ qtds =
        ap (λ (c : Option Command). unpublished c d.made qtds) k.command ∙ ap (λ (i : ℕ). unpublished (Some (unfinished.Publish b k.words)) i qtds) none in
        let out : out_now d e ≡ before =
        now_is qtds late ∙ ap (λ (es : List ℕ). before ++ es) (drop_all (note_in d.notes) b qtds) ∙ append-nil before in
        rest_apart ∙ ap (λ (bs : List ℕ). buffers_of (parts (32 * x.queue)) before ++ bs) its_rest
        ∙ ap (λ (es : List ℕ). buffers_of (parts (32 * x.queue)) es ++ held_bytes m d.notes b qtds) (sym out)

    -- its first qTD isn't published, once it is lent
    late_one : 1 ≤ d.made → unpublished d.command d.made k.transfer.qtds ≡ 1
    late_one some =
        let made : d.made ≡ suc (d.made - 1) = omega (arith, some) in
        ap (λ (c : Option Command). unpublished c d.made k.transfer.qtds) k.command ∙ ap (λ (i : ℕ). unpublished (Some (unfinished.Publish b k.words)) i k.transfer.qtds) made

    late_few : 1 ≤ d.made → unpublished_of d k.number k.transfer ≤ 1
    late_few some = by (nat_eq (suc k.number) (length d.transfers))
      where
        by : (t : Bool) → cond t (unpublished d.command d.made k.transfer.qtds) 0 ≤ 1
        by true = let one = late_one some in omega (arith, one)
        by false = omega arith

    around_lend : 1 ≤ d.made → IsRestAround d m parts e (32 * x.queue) b
    around_lend some =
        let part = parts (32 * x.queue) in
        let before = out_of (note_in d.notes) e None 0 older in
        let more = (turns.turns.places k.number k.transfer k.there stays).some in
        let left = left_is in
        let n = k.transfer.qtds - 1 in
        let count : k.transfer.qtds ≡ suc n = omega (arith, more, left) in
        let next = (note_at d.notes b).next in
        let behind = pieces_from (note_in d.notes) next n in
        let bytes = buffer_bytes m (note_at d.notes b) (note_at d.notes b).told in
        let few : 1 + n ≤ k.transfer.qtds = omega (arith, count) in
        let told : AreTold m d.notes part (note_at d.notes k.transfer.first).next n = pieces_told k.number k.transfer 1 n k.there k.its_endpoint stays (late_few some) few in
        let held : held_bytes m d.notes b k.transfer.qtds ≡ bytes ++ buffers_of part behind =
        ap (held_bytes m d.notes b) count ∙ held_first m d.notes b n
        ∙ ap (λ (bs : List ℕ). bytes ++ bs) (held_are m d.notes part next n (subst (λ (c : ℕ). AreTold m d.notes part (note_at d.notes c).next n) first_is told)) in
        record {
          ahead = before;
          behind = behind;
          out_are = now_is 1 (late_one some) ∙ ap (λ (i : ℕ). before ++ drop 1 (pieces_from (note_in d.notes) b i)) count;
          all_are = out_is None 0 ∙ ap (λ (i : ℕ). before ++ pieces_from (note_in d.notes) b i) count;
          rest_is = rest_apart ∙ ap (λ (bs : List ℕ). buffers_of part before ++ bs) (its_rest ∙ held);
        }

-- ---- the laws

pub buffers_are_rest : BuffersAreRest
buffers_are_rest d m parts e x turns tells fed read here sends goes none = rest_is_out d m parts e x turns tells fed read here sends goes none

pub buffers_before_lend : BuffersBeforeLend
buffers_before_lend d m parts e b x turns tells fed read here sends goes k none = before_lend d m parts e x turns tells fed read here sends goes b k none

pub buffers_around : BuffersAround
buffers_around d m parts e b x turns tells fed read here sends goes k some = around_lend d m parts e x turns tells fed read here sends goes b k some
