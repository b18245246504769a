-- A harvest as a whole.
use Rattle.std.proofs.Common.{◌≡◌, ℕ, suc, ◌-◌, ◌*◌, ◌&&◌, not, nat_le, Bool, true, false, if◌then◌else◌, List, [], ◌∷◌, ◌++◌, slice_set, Option, Some, None, ap, refl, sym, subst, ◌∙◌, arith}
use Rattle.std.proofs.lemmas.Bool.{eq-eqb}
use Rattle.word_mem.specs.Memory.{Mem}
use Rattle.qh_qtd.specs.declared.token.Token.{Token}
use Rattle.law_structures.specs.lent_structures.Structures.{StructureSets}
use Rattle.law_ring.specs.Hand.{Hand}
use Rattle.law_ring.specs.Order.{Accounts}
use Rattle.law_driver_ring.proofs.lemmas.harvested_streams.Harvesting.{token_is_read}
use Rattle.claims_report.specs.Streams.{has_stream}
use Rattle.drv_table.specs.declared.content.Endpoint.{Endpoint}
use Rattle.drv_table.specs.declared.content.Transfer.{Transfer}
use Rattle.drv_table.specs.declared.content.Command.{Command}
use Rattle.drv_table.specs.declared.rows.Found.{Found}
use Rattle.drv_table.specs.declared.rows.Found.TheVariants as founds
use Rattle.drv_table.specs.DriverContent.{DriverContent, waits_for}
use Rattle.drv_table.specs.Harvests.{note_at, token_in, moved_of, halt_of, done_of, ends_by}
use Rattle.drv_table.specs.Harvesting.{found_of, served, harvested_as, after_harvest}
use Rattle.claims_driver.specs.Owners.{NoteRuns, is_descriptor, note_in}
use Rattle.law_driver.specs.chained_transfers.Turns.{IsAtPlace}
use Rattle.law_driver.specs.chained_transfers.Out.{pieces_from, out_of_transfer, out_of, out_now}
use Rattle.law_driver.proofs.lemmas.chained_transfers.Ways.{found_by}
use Rattle.law_queues.specs.told_endpoints.Telling.{named_in, TellsEach}
use Rattle.law_driver_ring.specs.told_harvests.Held.{IsDone, IsOneFrom, IsRead}
use Rattle.law_driver_ring.specs.told_harvests.Passed.{HarvestsFirst}
use Rattle.law_driver_ring.proofs.lemmas.told_harvests.Holding.{held_still}
use Rattle.law_driver_ring.proofs.lemmas.told_harvests.Passing.{harvest_takes_first}
use Rattle.law_queues.specs.harvest_laws.Holds.{IsNextOf, IsUnderWay, HoldsEach}
use Rattle.law_queues.specs.harvest_laws.Harvest.{Harvests}
use Rattle.law_queues.specs.harvest_laws.Row.{IsFoundDone, ReadsOn, goes_on, ends, HarvestTells}
use Rattle.law_queues.specs.harvest_laws.Outs.{SplitsOut}
use Rattle.law_queues.specs.harvest_laws.RowLaws.{IsReadNext, CanBeRead, HarvestGoesOn}
use Rattle.law_queues.proofs.lemmas.harvest_laws.Places.{read_at, not_again}
use Rattle.law_queues.proofs.lemmas.harvest_laws.RowRows.{harvest_tells}
use Rattle.law_queues.proofs.lemmas.harvest_laws.Outing.{out_alike, out_beside, goes_on_out, ends_out, out_splits}

-- ---- the others that are out

out_made : (note : ℕ → NoteRuns) (e made : ℕ) (ts : List Transfer) → out_of note e None made ts ≡ out_of note e None 0 ts
out_made note e made (y ∷ z ∷ ys) = ap (λ (xs : List ℕ). out_of_transfer note e 0 y ++ xs) (out_made note e made (z ∷ ys))
out_made note e made _ = refl

reads_out : (d : DriverContent) (e l : ℕ) (y z : Transfer) → ReadsOn d y z → y.endpoint ≡ e → y.released ≡ false → y.reported ≡ false → y.left ≡ suc l
    → out_of_transfer (note_in d.notes) e 0 z ≡ pieces_from (note_in d.notes) (note_at d.notes y.place).next l
reads_out d e l y z goes_on at kept waits left = goes_on_out (note_in d.notes) e l y at kept waits left
reads_out d e l y z ends at kept waits left = ends_out (note_in d.notes) e l y at kept left

reads_endpoint : (d : DriverContent) (y z : Transfer) → ReadsOn d y z → z.endpoint ≡ y.endpoint
reads_endpoint d y z goes_on = refl
reads_endpoint d y z ends = refl

pub out_new : (d new : DriverContent) (k : ℕ) (ts : List Transfer) → d.command ≡ None → new.command ≡ d.command → ((c : ℕ) → note_in new.notes c ≡ note_in d.notes c) → new.transfers ≡ ts → out_now new k ≡ out_of (note_in d.notes) k None 0 ts
out_new d new k ts none command notes transfers =
    out_alike (note_in d.notes) (note_in new.notes) k new.command new.made new.transfers notes ∙ ap (λ (c : Option Command). out_of (note_in d.notes) k c new.made new.transfers) (command ∙ none)
    ∙ out_made (note_in d.notes) k new.made new.transfers ∙ ap (out_of (note_in d.notes) k None 0) transfers

-- ---- the harvest

pub harvest_is_told : (order : ℕ → ℕ) (place : ℕ) (d : DriverContent) (m : Mem) (parts : StructureSets) (hand : Hand) (e t : ℕ) (x : Endpoint) (y : Transfer) (xs : List ℕ) (held told : ℕ → List ℕ) (found : Found)
    → IsReadNext d e t x y → CanBeRead d m parts hand e t x y → HoldsEach d hand parts held → TellsEach d.reports d.store (named_in d.endpoints) held told
    → Accounts order place (out_now d e) hand parts (32 * x.queue) xs → found ≡ found_of d m y y.sort → HarvestGoesOn order place d (after_harvest d m e t found (Some x) (Some y)) hand parts e t x y xs held told
harvest_is_told order place d m parts hand e t x y xs held told found n c holds tells acc is = record {
  bytes = hf.bytes;
  others = hf.others;
  sum = hf.sum;
  tells = ht;
  accounts = subst (λ (out : List ℕ). Accounts order place out hand parts (32 * x.queue) hf.others)
      (sym (out_new d (after_harvest d m e t found (Some x) (Some y)) e (slice_set d.transfers t ht.transfer) n.command ht.command ht.notes ht.transfers ∙ s.after ht.transfer (reads_out d e (y.left - 1) y ht.transfer ht.reads own.0 n.kept own.1 left))) hf.accounts;
  beside = λ k differs.
      out_new d (after_harvest d m e t found (Some x) (Some y)) k (slice_set d.transfers t ht.transfer) n.command ht.command ht.notes ht.transfers
      ∙ out_beside (note_in d.notes) k t 0 d.transfers y ht.transfer n.next.transfer (λ same. differs (sym same ∙ own.0)) (λ same. differs (sym same ∙ reads_endpoint d y ht.transfer ht.reads ∙ own.0))
      ∙ sym (out_new d d k d.transfers n.command refl (λ b. refl) refl);
}
  where
    own : (y.endpoint ≡ e) × (y.reported ≡ false)
    own = n.waits e t x y n.next

    at : IsAtPlace (note_in d.notes) y
    at = n.places t y n.next.transfer (n.waits e t x y n.next).1 n.kept

    left : y.left ≡ suc (y.left - 1)
    left = let at_it : IsAtPlace (note_in d.notes) y = n.places t y n.next.transfer (n.waits e t x y n.next).1 n.kept in let some = at_it.some in omega (arith, some)

    s : SplitsOut (note_in d.notes) e t 0 d.transfers y (y.left - 1)
    s = out_splits (note_in d.notes) e t 0 (y.left - 1) d.transfers y n.next.transfer own.0 n.kept own.1 left

    split : Accounts order place (s.passed ++ 32 * y.place ∷ (pieces_from (note_in d.notes) (note_at d.notes y.place).next (y.left - 1) ++ s.rest)) hand parts (32 * x.queue) xs
    split = subst (λ (out : List ℕ). Accounts order place out hand parts (32 * x.queue) xs) (out_new d d e d.transfers n.command refl (λ b. refl) refl ∙ s.before) acc

    h : Harvests d e t x y
    h = record {
      next = n.next;
      stream = ap has_stream c.bulk;
      some = at.some;
      most = at.most;
      waits = n.waits;
      unreleased = n.unreleased;
      places = n.places;
      others = n.others;
      once = not_again order s.passed s.rest d.notes y.place (note_at d.notes y.place).next (y.left - 1) split.sorted;
    }

    reads : IsRead (parts (32 * x.queue)) (note_at d.notes y.place) y.place
    reads =
        let some = at.some in
        let most = at.most in
        subst (λ (b : ℕ). IsRead (parts (32 * x.queue)) (note_at d.notes b) b) (sym at.place) (read_at (parts (32 * x.queue)) d.notes y.first (y.qtds - y.left) y.qtds (omega (arith, some, most)) c.read)

    hf : HarvestsFirst order place (32 * y.place) (s.passed ++ (pieces_from (note_in d.notes) (note_at d.notes y.place).next (y.left - 1) ++ s.rest)) hand parts (32 * x.queue) xs
    hf =
        harvest_takes_first order place (32 * y.place) s.passed (pieces_from (note_in d.notes) (note_at d.notes y.place).next (y.left - 1) ++ s.rest) hand parts (32 * x.queue) xs reads.qtd reads.here
        (ap (λ (z : Token). z.active) (sym (token_is_read m parts (32 * x.queue) y.place reads.qtd c.tells reads.here)) ∙ c.off) (λ p z among of_it. c.none p z (s.earlier p among) of_it) split

    f : IsFoundDone d m parts hand x y hf.bytes
    f = record { bulk = c.bulk; queued = c.queued; kept = n.kept; tells = c.tells; on = c.on; read = c.read; off = c.off; told = hf.told }

    ht : HarvestTells d (after_harvest d m e t found (Some x) (Some y)) hand parts e t y hf.bytes held told
    ht = harvest_tells d m parts hand e t x y h hf.bytes f held told holds tells found is

-- ---- one that isn't done

pub active_is_left : (d : DriverContent) (m : Mem) (e t : ℕ) (x : Endpoint) (y : Transfer) (found : Found) → IsReadNext d e t x y → is_descriptor y.sort ≡ false → (token_in m y.place).active ≡ true → found ≡ found_of d m y y.sort
    → after_harvest d m e t found (Some x) (Some y) ≡ served d e
active_is_left d m e t x y found n queued on is =
    let own = n.waits e t x y n.next in
    let waits : waits_for e y ≡ true = ap (λ (b : Bool). b && not y.reported) (eq-eqb y.endpoint e own.0) ∙ ap (λ (b : Bool). true && not b) own.1 in
    let active : found ≡ founds.Active = is ∙ found_by d m y y.sort queued ∙ ap (λ (b : Bool). if b then founds.Active else if (token_in m y.place).halted then founds.Ended (moved_of (note_at d.notes y.place).told (token_in m y.place).total) (halt_of (token_in m y.place)) else done_of (ends_by y.sort (nat_le y.left 1) (token_in m y.place).total) (moved_of (note_at d.notes y.place).told (token_in m y.place).total)) on in
    ap (λ (b : Bool). if b then served (harvested_as d m e t x y found) e else d) waits ∙ ap (λ (z : Found). served (harvested_as d m e t x y z) e) active

-- ---- structures change

pub holds_still : (d : DriverContent) (hand later : Hand) (parts now : StructureSets) (held : ℕ → List ℕ)
    → ((e t : ℕ) (x : Endpoint) (y : Transfer) (a k : ℕ) (z : List ℕ) → IsNextOf d e t x y → has_stream x.desc.kind ≡ true → IsOneFrom (note_at d.notes) y.first (y.qtds - y.left) a → IsDone hand parts (32 * x.queue) a k z → IsDone later now (32 * x.queue) a k z)
    → HoldsEach d hand parts held → HoldsEach d later now held
holds_still d hand later parts now held still k = record {
  next = λ e t x y is on.
      let w : IsUnderWay hand parts (32 * x.queue) (note_at d.notes) y (held e) = k.next e t x y is on in
      record {
        done = held_still hand later parts now (32 * x.queue) (note_at d.notes) y.first (y.qtds - y.left) y.place (held e)
            (λ a z one. still e t x y a (note_at d.notes a).moved z is on one) w.done;
        rest = w.rest;
      };
  none = k.none;
  to_come = k.to_come;
  within = k.within;
}
