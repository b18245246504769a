-- What the report tells of a queue, and what a harvest adds to it, is one list of bytes.
use Rattle.std.proofs.Common.{◌≡◌, ℕ, zero, suc, ◌-◌, ◌*◌, ◌<◌, ◌≤◌, true, false, List, [], ◌∷◌, ◌++◌, length, take, slice_get, Option, Some, None, option_map, ap, refl, sym, subst, ◌∙◌, ⊎_elim, arith}
use Rattle.std.proofs.lemmas.Bool.{cases_lt}
use Rattle.std.proofs.lemmas.List.{append_assoc, append_cancel_left, append_cancel_right, nil_from_length}
use Rattle.law_driver_ring.proofs.Common.{one_told, moved_is}
use Rattle.law_world.proofs.Common.{moved_few}
use Rattle.word_mem.specs.Memory.{Mem}
use Rattle.qh_qtd.specs.declared.token.Token.{Token}
use Rattle.law_structures.specs.lent_structures.Structures.{StructureSets, Tells}
use Rattle.law_structures.specs.lent_structures.Sound.{HasBuffer}
use Rattle.law_ring.specs.Hand.{Hand}
use Rattle.law_ring.specs.Effects.{bytes_in}
use Rattle.law_ring.specs.Told.{Told}
use Rattle.law_ring.specs.QueueParts.{IsQueuePart}
use Rattle.law_ring.specs.Order.{AllTold, none_out, one_out}
use Rattle.usb_base.specs.declared.endpoints.EndCause.{EndCause}
use Rattle.claims_report.specs.Streams.{told_in, has_stream}
use Rattle.drv_table.specs.declared.content.Endpoint.{Endpoint}
use Rattle.drv_table.specs.declared.content.QtdNote.{QtdNote}
use Rattle.drv_table.specs.DriverContent.{DriverContent}
use Rattle.law_driver.specs.endpoint_lives.Lives.{told_end}
use Rattle.drv_table.specs.Harvests.{note_at, token_in, moved_of, buffer_bytes}
use Rattle.law_driver.specs.chained_transfers.Turns.{AreInTurn, AreReportedTo, turn_in}
use Rattle.law_driver.proofs.lemmas.chained_transfers.Harvesting.{turn_at}
use Rattle.law_queues.specs.told_endpoints.Telling.{named_of, lines_in}
use Rattle.law_driver_ring.specs.told_harvests.Held.{IsDone, AreHeld, none_held, one_held, IsRead}
use Rattle.law_driver_ring.proofs.lemmas.told_harvests.Done.{done_in_part}
use Rattle.law_driver_ring.proofs.lemmas.told_harvests.Noting.{found_is_done}
use Rattle.law_driver_ring.specs.harvested_streams.Harvested.{IsNoted}
use Rattle.law_driver_ring.proofs.lemmas.harvested_streams.Harvesting.{token_is_read, bytes_are_read}
use Rattle.law_queues.specs.harvest_laws.Holds.{IsNextOf}
use Rattle.law_driver_ring.specs.fed_queues.Places.{IsThere}
use Rattle.law_queues.specs.harvest_laws.Told.{ToldStands}
use Rattle.law_world.proofs.lemmas.streams.lemmas.put_laws.Bytes.{no_bytes}

-- ---- what is held back

module _ (hand : Hand) (parts : StructureSets) (n : ℕ) (note : ℕ → QtdNote) where
  no_held : (b d : ℕ) (ys : List ℕ) → AreHeld hand parts n note b zero d ys → ys ≡ []
  no_held b d ys (none_held a) = refl

  record IsHeldFirst (b i : ℕ) (ys : List ℕ) : Type 0 where
    first : List ℕ
    rest : List ℕ
    to : ℕ
    done : IsDone hand parts n b (note b).moved first
    behind : AreHeld hand parts n note (note b).next i to rest
    sum : ys ≡ first ++ rest

  held_first : (b i d : ℕ) (ys : List ℕ) → AreHeld hand parts n note b (suc i) d ys → IsHeldFirst b i ys
  held_first b i d ys (one_held a j c x xs done behind) = record { first = x; rest = xs; to = c; done = done; behind = behind; sum = refl }

  pub held_once : (b i c d : ℕ) (xs ys : List ℕ) → AreHeld hand parts n note b i c xs → AreHeld hand parts n note b i d ys → xs ≡ ys
  held_once b i c d xs ys (none_held a) other = sym (no_held a d ys other)
  held_once b i c d xs ys (one_held a j e x zs done behind) other =
      let f : IsHeldFirst a j ys = held_first a j d ys other in
      ap (λ (us : List ℕ). us ++ zs) (one_told hand parts n (32 * a) x f.first done.told f.done.told) ∙ ap (λ (us : List ℕ). f.first ++ us) (held_once (note a).next j e f.to zs f.rest behind f.behind) ∙ sym f.sum

-- ---- what the report tells

none_some : (cause : EndCause) → ◌≡◌ {A = Option EndCause} None (Some cause) → ⊥
none_some cause is = cc

-- each endpoint that goes on has its first unreported transfer next
abbrev pub NextIs : DriverContent → Type 0
NextIs d = (e : ℕ) (x : Endpoint) → slice_get d.endpoints e ≡ Some x → told_end x ≡ None → AreReportedTo (turn_in d.transfers) e x.next

module _ (d : DriverContent) (hand : Hand) (parts : StructureSets) (a b : ℕ → List ℕ) (next_is : NextIs d) (k : ToldStands d hand parts a) (l : ToldStands d hand parts b) where
  held_same : (e : ℕ) (x : Endpoint) → slice_get d.endpoints e ≡ Some x → has_stream x.desc.kind ≡ true → k.held e ≡ l.held e
  held_same e x here streams = by_end (told_end x) refl
    where
      going : told_end x ≡ None → (o : Option ℕ) → x.next ≡ o → k.held e ≡ l.held e
      going goes None next = k.holds.none e x here next streams ∙ sym (l.holds.none e x here next streams)
      going goes (Some t) next =
          let turn = subst (AreReportedTo (turn_in d.transfers) e) next (next_is e x here goes) in
          let y = turn_at d.transfers t turn.transfer turn.here in
          let is : IsNextOf d e t x y.0 = record { endpoint = here; going = goes; next = next; transfer = y.1 } in
          let one = k.holds.next e t x y.0 is streams in
          let two = l.holds.next e t x y.0 is streams in
          held_once hand parts (32 * x.queue) (note_at d.notes) y.0.first (y.0.qtds - y.0.left) y.0.place y.0.place (k.held e) (l.held e) one.done two.done

      by_end : (o : Option EndCause) → told_end x ≡ o → k.held e ≡ l.held e
      by_end None goes = going goes x.next refl
      by_end (Some cause) ends =
          let named = ap (option_map named_of) here in
          ((k.tells.each e (named_of x) named streams).over cause ends).0 ∙ sym ((l.tells.each e (named_of x) named streams).over cause ends).0

  pub told_same : (e : ℕ) (x : Endpoint) → slice_get d.endpoints e ≡ Some x → has_stream x.desc.kind ≡ true → IsThere d x → a (32 * x.queue) ≡ b (32 * x.queue)
  told_same e x here streams meets =
      let named = ap (option_map named_of) here in
      sym (k.met e x here meets) ∙ sym (k.tells.each e (named_of x) named streams).sum ∙ ap (λ (bs : List ℕ). told_in d.store (lines_in x.desc.name d.reports) ++ bs) (held_same e x here streams) ∙ (l.tells.each e (named_of x) named streams).sum ∙ l.met e x here meets

pub told_once : (d : DriverContent) (hand : Hand) (parts : StructureSets) (a b : ℕ → List ℕ) → AreInTurn d → ToldStands d hand parts a → ToldStands d hand parts b
    → (e : ℕ) (x : Endpoint) → slice_get d.endpoints e ≡ Some x → has_stream x.desc.kind ≡ true → IsThere d x → a (32 * x.queue) ≡ b (32 * x.queue)
told_once d hand parts a b turns k l = told_same d hand parts a b turns.turns.next k l

-- ---- what was moved of the qTDs that are out

record IsOutFirst (hand : Hand) (parts : StructureSets) (n e : ℕ) (es ys : List ℕ) : Type 0 where
  first : List ℕ
  rest : List ℕ
  told : Told hand parts n e first
  behind : AllTold hand parts n es rest
  sum : ys ≡ first ++ rest

out_first : (hand : Hand) (parts : StructureSets) (n e : ℕ) (es ys : List ℕ) → AllTold hand parts n (e ∷ es) ys → IsOutFirst hand parts n e es ys
out_first hand parts n e es ys (one_out a more x xs told behind) = record { first = x; rest = xs; told = told; behind = behind; sum = refl }

no_out : (hand : Hand) (parts : StructureSets) (n : ℕ) (ys : List ℕ) → AllTold hand parts n [] ys → ys ≡ []
no_out hand parts n ys none_out = refl

pub all_once : (hand : Hand) (parts : StructureSets) (n : ℕ) (out xs ys : List ℕ) → AllTold hand parts n out xs → AllTold hand parts n out ys → xs ≡ ys
all_once hand parts n out xs ys none_out other = sym (no_out hand parts n ys other)
all_once hand parts n out xs ys (one_out e es x zs told behind) other =
    let f : IsOutFirst hand parts n e es ys = out_first hand parts n e es ys other in
    ap (λ (us : List ℕ). us ++ zs) (one_told hand parts n e x f.first told f.told) ∙ ap (λ (us : List ℕ). f.first ++ us) (all_once hand parts n es zs f.rest behind f.behind) ∙ sym f.sum

-- where what was reported grew by `more`, and the first of what was out is out no more
pub more_is : (reported more bytes others told all : List ℕ) → reported ++ (bytes ++ others) ≡ all → (reported ++ more) ++ told ≡ all → told ≡ others → more ≡ bytes
more_is reported more bytes others told all one two same =
    append_cancel_right more bytes others
    (append_cancel_left reported (more ++ others) (bytes ++ others) (sym (append_assoc reported more others) ∙ ap (λ (us : List ℕ). (reported ++ more) ++ us) (sym same) ∙ two ∙ sym one))

-- ---- the bytes that are read

pub bytes_are : (m : Mem) (parts : StructureSets) (hand : Hand) (n b : ℕ) (bytes : List ℕ) (note : QtdNote) → Tells m parts
    → IsQueuePart n (parts n) → IsRead (parts n) note b → (token_in m b).active ≡ false
    → Told hand parts n (32 * b) bytes → bytes ≡ buffer_bytes m note (moved_of note.told (token_in m b).total)
bytes_are m parts hand n b bytes note tells on read off told = ⊎_elim some none (cases_lt 0 note.told)
  where
    moved : ℕ
    moved = moved_of note.told (token_in m b).total

    some : 0 < note.told → bytes ≡ buffer_bytes m note (moved_of note.told (token_in m b).total)
    some few =
        let has : HasBuffer (parts n) read.qtd note.told = read.buffer few in
        let noted : IsNoted note read.qtd has.bytes = record { told = sym has.size; places = λ j below. let size = has.size in read.places j (omega (arith, below, size)) } in
        let token : token_in m b ≡ read.qtd.token = token_is_read m parts n b read.qtd tells read.here in
        let idle : read.qtd.token.active ≡ false = ap (λ (z : Token). z.active) (sym token) ∙ off in
        let count : moved_of note.told (token_in m b).total ≡ length has.bytes - read.qtd.token.total =
        moved_is note.told (token_in m b).total ∙ ap (λ (i : ℕ). i - (token_in m b).total) noted.told
        ∙ ap (λ (z : Token). length has.bytes - z.total) token in
        done_in_part parts hand n (32 * b) read.qtd bytes on read.here idle told
        ∙ ap (λ (xs : List ℕ). take (length xs - read.qtd.token.total) xs) (ap bytes_in has.here)
        ∙ sym (bytes_are_read m parts n read.qtd has.bytes note (length has.bytes - read.qtd.token.total) tells has.here noted
        (omega arith))
        ∙ ap (buffer_bytes m note) (sym count)

    none : note.told ≤ 0 → bytes ≡ buffer_bytes m note (moved_of note.told (token_in m b).total)
    none low =
        let done : IsDone hand parts n b (moved_of note.told (token_in m b).total) bytes = found_is_done m parts hand n b bytes note tells on read off told in
        let few = moved_few note.told (token_in m b).total in
        let zero_is : moved_of note.told (token_in m b).total ≡ 0 = omega (arith, few, low) in
        nil_from_length bytes (done.count ∙ zero_is) ∙ sym (no_bytes m note) ∙ ap (buffer_bytes m note) (sym zero_is)
