-- What a command leaves of what is still to be sent, by the content alone: one that changes no queue, one endpoint more, and transfers more
-- that were given back.
use Rattle.std.proofs.Common.{◌≡◌, ◌≢◌, ℕ, zero, suc, ◌+◌, ◌*◌, ◌<◌, true, false, List, [], ◌∷◌, ◌++◌, length, map, slice_get}
use Rattle.std.proofs.Common.{Option, Some, None, ap, refl, sym, subst, ◌∙◌, ⊎_elim, inl, inr, arith}
use Rattle.std.specs.Prelude.{◌⊎◌}
use Rattle.std.specs.List.{AllByRecursion, concat}
use Rattle.std.proofs.lemmas.Bool.{true≢false}
use Rattle.std.proofs.lemmas.List.{append-nil, map-append}
use Rattle.std.proofs.lemmas.List.Folds.{concat-append}
use Rattle.std.proofs.lemmas.Option.{same_Some, slice_get_within}
use Rattle.law_queues.proofs.Common.{none_open, last_one}
use Rattle.law_common.proofs.Lists.{nothing_at, push_which}
use Rattle.usb_base.specs.declared.endpoints.EndCause.{EndCause}
use Rattle.usb_base.specs.declared.endpoints.EpDesc.{EpDesc}
use Rattle.word_mem.specs.Memory.{Mem}
use Rattle.bus_wire.specs.Bus.{Wired}
use Rattle.claims_driver.specs.Scripts.{receives}
use Rattle.drv_table.specs.declared.content.Command.TheVariants as unfinished
use Rattle.drv_table.specs.declared.content.Endpoint.{Endpoint}
use Rattle.drv_table.specs.declared.content.QtdNote.{QtdNote}
use Rattle.drv_table.specs.declared.content.Sort.TheVariants as sorts
use Rattle.drv_table.specs.declared.content.Transfer.{Transfer}
use Rattle.drv_table.specs.DriverContent.{DriverContent, waits_for}
use Rattle.law_driver.specs.chained_transfers.AsynchronousTurns.{AsynchronousTakesTurns}
use Rattle.law_driver.specs.chained_transfers.Bulk.{MovesAs}
use Rattle.law_driver.specs.endpoint_lives.Lives.{told_end}
use Rattle.law_driver_ring.specs.fed_queues.Fed.{AreFed}
use Rattle.law_driver_ring.specs.fed_queues.Places.{IsThere}
use Rattle.law_ring.specs.OutBus.{Taker}
use Rattle.law_structures.specs.lent_structures.Structures.{StructureSets, Tells}
use Rattle.law_world.specs.streams.put_laws.HeldPuts.{HoldsPuts}
use Rattle.law_world.specs.streams.put_laws.Owed.{rest_from, rest_of, Owes}
use Rattle.law_world.specs.streams.put_laws.OwedLaws.{KeepsPuts}
use Rattle.law_world.specs.streams.put_laws.OwedTaken.{TakenBegin, EndedAreStopped}
use Rattle.law_world.specs.streams.put_laws.TakenPuts.{puts_from, puts_of}
use Rattle.law_world.proofs.lemmas.streams.lemmas.put_laws.Driver.{IsNoMore}
use Rattle.law_world.proofs.lemmas.streams.lemmas.put_laws.HeldAlike.{WasThere, was_itself}
use Rattle.law_world.proofs.lemmas.streams.lemmas.put_laws.Rests.{prefix_to, puts_kept, reported_not, rest_join, rest_none}
use Rattle.law_world.proofs.lemmas.streams.lemmas.put_laws.Same.{idle_there, idle_life, same_owes, alike_owes}
use Rattle.law_world.proofs.lemmas.streams.lemmas.put_laws.Stays.{owner_at}
use Rattle.law_world.proofs.lemmas.streams.lemmas.put_laws.Sums.{puts_in, by_owners, puts_join, puts_none}
use Rattle.law_world.proofs.lemmas.streams.lemmas.put_laws.TakenStopped.{were_ended}
use Rattle.law_reports.proofs.lemmas.pipes.lemmas.puts.Held.{idle_out, forward_holds, notes_same}

pub record IsOwing (watch : Wired → ℕ → ℕ → Option Taker) (wire : Wired) (parts : StructureSets) (reported : ℕ → List ℕ) (d : DriverContent)
    (m : Mem) (puts : ℕ → List ℕ) : Type 0 where
  pub ended : EndedAreStopped d parts
  pub held : HoldsPuts d m puts
  pub owes : Owes d m puts reported
  pub begin : TakenBegin watch d puts wire

-- it was given back
pub record IsGone (number : ℕ) (y : Transfer) : Type 0 where
  pub endpoint : y.endpoint ≡ number
  pub reported : y.reported ≡ true
  pub released : y.released ≡ true

-- a list with more behind
appended : {X : Type 0} (P : X → Type 0) (xs ys : List X) → AllByRecursion P ys → (t : ℕ) (y : X) → slice_get (xs ++ ys) t ≡ Some y
    → (slice_get xs t ≡ Some y) ⊎ P y
appended P [] [] all t y here = absurd (nothing_at t y here)
appended P [] (v ∷ vs) all zero y here = inr (subst P (same_Some v y here) all.0)
appended P [] (v ∷ vs) all (suc t) y here =
    ⊎_elim (λ (was : slice_get [] t ≡ Some y). absurd (nothing_at t y was)) (λ (p : P y). inr p) (appended P [] vs all.1 t y here)
appended P (x ∷ xs) ys all zero y here = inl here
appended P (x ∷ xs) ys all (suc t) y here = appended P xs ys all t y here

module _ (watch : Wired → ℕ → ℕ → Option Taker) (wire : Wired) (parts : StructureSets) (reported : ℕ → List ℕ) (d f : DriverContent)
    (m new : Mem) (turns : AsynchronousTakesTurns d) (idle : d.command ≡ None) where
  -- ---- no queue changes

  module _ (puts now : ℕ → List ℕ) (keeps : KeepsPuts d puts now) (k : IsOwing watch wire parts reported d m puts) where
    pub no_more_owing : IsNoMore d f → HoldsPuts f new now → IsOwing watch wire parts reported f new now
    no_more_owing more still = record {
      ended = were_ended d f parts more.alike.ends k.ended;
      held = still;
      owes = same_owes d f m new puts now reported reported turns more.alike keeps k.held still (λ e z here there before. refl)
          (λ e z here there opening. absurd (none_open z.queue (sym idle ∙ opening))) (λ z is. more.opens z.queue is) k.owes;
      begin = λ e z u here life sends is.
          let w = more.alike.ends e z here in
          prefix_to u.taken (concat (puts_of d puts e)) (concat (puts_of f now e))
          (sym (ap (λ (ts : List Transfer). concat (puts_from now e 0 ts)) more.alike.transfers
          ∙ ap concat (puts_kept puts now e d.transfers keeps)))
          (k.begin e w.endpoint u w.here (idle_life d idle w.endpoint) (ap (λ (r : EpDesc). receives r.name.way) (sym w.desc) ∙ sends)
          (ap (λ (r : EpDesc). watch wire r.name.addr r.name.num) (sym w.desc) ∙ is));
    }

  module _ (puts : ℕ → List ℕ) (fed : AreFed d parts) (tells : Tells m parts) (told : Tells new parts)
      (k : IsOwing watch wire parts reported d m puts) where
    -- what the buffers hold, where the same structures stand in memory
    pub held_still : (g : DriverContent) → g.notes ≡ d.notes
        → ((t : ℕ) (y : Transfer) → slice_get g.transfers t ≡ Some y → y.sort ≡ sorts.Put → y.released ≡ false → WasThere d.transfers t y)
        → HoldsPuts g new puts
    held_still g notes were =
        forward_holds d g m new parts parts puts turns fed tells told (λ t y there put held moves a pages j bs here. here) (idle_out d idle)
        were (notes_same d g notes) k.held

    -- what is owed then, as it was
    owes_then : Owes d new puts reported
    owes_then =
        alike_owes d d m new puts puts reported turns (record { endpoints = refl; transfers = refl; notes = refl }) (λ z there. there)
        (λ z is. is) (λ t low. refl) k.held (held_still d refl (λ t y here put held. was_itself d.transfers t y here)) k.owes

    number_below : (t : ℕ) (y : Transfer) → slice_get d.transfers t ≡ Some y → y.endpoint < length d.endpoints
    number_below t y there =
        let moves : MovesAs d y = turns.asynchronous.moves t y there in slice_get_within d.endpoints y.endpoint moves.endpoint moves.here

    -- ---- one endpoint more

    module _ (z : Endpoint) (ends : f.endpoints ≡ d.endpoints ++ z ∷ []) (transfers : f.transfers ≡ d.transfers)
        (notes : f.notes ≡ d.notes) (unmet : IsThere f z → ⊥) (fresh : z.gone ≡ false → told_end z ≡ None)
        (unwatched : (u : Taker) → (z.gone ≡ true) ⊎ IsThere f z → receives z.desc.name.way ≡ false
        → watch wire z.desc.name.addr z.desc.name.num ≡ Some u → ⊥)
        (others : (e : ℕ) (y : Endpoint) → slice_get d.endpoints e ≡ Some y → y.gone ≡ false
        → f.command ≡ Some (unfinished.Open y.queue) → ⊥) where
      which : (e : ℕ) (y : Endpoint) → slice_get f.endpoints e ≡ Some y
          → (slice_get d.endpoints e ≡ Some y) ⊎ ((e ≡ length d.endpoints) × (y ≡ z))
      which e y here = push_which d.endpoints z e y (ap (λ (xs : List Endpoint). slice_get xs e) (sym ends) ∙ here)

      had : (t : ℕ) (y : Transfer) → slice_get f.transfers t ≡ Some y → slice_get d.transfers t ≡ Some y
      had t y there = ap (λ (ts : List Transfer). slice_get ts t) (sym transfers) ∙ there

      met_old : (e : ℕ) (y : Endpoint) → slice_get f.endpoints e ≡ Some y → IsThere f y → slice_get d.endpoints e ≡ Some y
      met_old e y here there =
          ⊎_elim (λ (was : slice_get d.endpoints e ≡ Some y). was)
          (λ (own : (e ≡ length d.endpoints) × (y ≡ z)). absurd (unmet (subst (IsThere f) own.1 there))) (which e y here)

      rest_same : (e : ℕ) → rest_of f new e ≡ rest_of d new e
      rest_same e =
          ap (λ (ts : List Transfer). rest_from new f.notes e ts) transfers
          ∙ ap (λ (ns : List QtdNote). rest_from new ns e d.transfers) notes

      puts_same : (e : ℕ) → concat (puts_of f puts e) ≡ concat (puts_of d puts e)
      puts_same e = ap (λ (ts : List Transfer). concat (puts_from puts e 0 ts)) transfers

      pub pushed_owing : IsOwing watch wire parts reported f new puts
      pushed_owing = record {
        ended = λ e y cause here alive sends over.
            ⊎_elim (λ (was : slice_get d.endpoints e ≡ Some y). k.ended e y cause was alive sends over)
            (λ (own : (e ≡ length d.endpoints) × (y ≡ z)).
            absurd (none_some cause
            (sym (fresh (ap (λ (v : Endpoint). v.gone) (sym own.1) ∙ alive)) ∙ ap (λ (v : Endpoint). told_end v) (sym own.1) ∙ over)))
            (which e y here);
        held = held_still f notes (λ t y here put held. was_itself d.transfers t y (had t y here));
        owes = record {
          going = λ e y here there sends goes.
              let was = met_old e y here there in
              ap (λ (bs : List ℕ). reported (32 * y.queue) ++ bs) (rest_same e)
              ∙ owes_then.going e y was (idle_there d idle y there.kept) sends goes ∙ sym (puts_same e);
          over = λ e y cause here there sends over.
              let was = met_old e y here there in
              prefix_to (reported (32 * y.queue)) (concat (puts_of d puts e)) (concat (puts_of f puts e)) (sym (puts_same e))
              (owes_then.over e y cause was (idle_there d idle y there.kept) sends over);
          opening = λ e t y v here alive is there.
              ⊎_elim (λ (was : slice_get d.endpoints e ≡ Some y). absurd (others e y was alive is))
              (λ (own : (e ≡ length d.endpoints) × (y ≡ z)).
              λ same. let low = number_below t v (had t v there) in let at = own.0 in omega (arith, low, at, same)) (which e y here);
          last = λ t v y there here sends goes is stays.
              ⊎_elim (λ (was : slice_get d.endpoints v.endpoint ≡ Some y). owes_then.last t v y (had t v there) was sends goes is stays)
              (λ (own : (v.endpoint ≡ length d.endpoints) × (y ≡ z)).
              let low = number_below t v (had t v there) in let at = own.0 in absurd (omega (arith, low, at))) (which v.endpoint y here);
        };
        begin = λ e y u here life sends is.
            ⊎_elim
            (λ (was : slice_get d.endpoints e ≡ Some y).
            prefix_to u.taken (concat (puts_of d puts e)) (concat (puts_of f puts e)) (sym (puts_same e))
            (k.begin e y u was (idle_life d idle y) sends is))
            (λ (own : (e ≡ length d.endpoints) × (y ≡ z)).
            absurd (unwatched u
            (subst (λ (v : Endpoint). (v.gone ≡ true) ⊎ IsThere f v) own.1 life)
            (ap (λ (v : Endpoint). receives v.desc.name.way) (sym own.1) ∙ sends)
            (ap (λ (v : Endpoint). watch wire v.desc.name.addr v.desc.name.num) (sym own.1) ∙ is))) (which e y here);
      }
        where
          none_some : (cause : EndCause) → ◌≡◌ {A = Option EndCause} None (Some cause) → ⊥
          none_some cause is = cc

    -- ---- transfers more, of an endpoint that was given back

    module _ (given : List Transfer) (number : ℕ) (its : Endpoint) (here : slice_get d.endpoints number ≡ Some its) (gone : its.gone ≡ true)
        (each : AllByRecursion (IsGone number) given) (ends : f.endpoints ≡ d.endpoints) (transfers : f.transfers ≡ d.transfers ++ given)
        (notes : f.notes ≡ d.notes) (command : f.command ≡ d.command) where
      which_of : (t : ℕ) (y : Transfer) → slice_get f.transfers t ≡ Some y → (slice_get d.transfers t ≡ Some y) ⊎ IsGone number y
      which_of t y there = appended (IsGone number) d.transfers given each t y
          (ap (λ (ts : List Transfer). slice_get ts t) (sym transfers) ∙ there)

      was_end : (e : ℕ) (y : Endpoint) → slice_get f.endpoints e ≡ Some y → slice_get d.endpoints e ≡ Some y
      was_end e y at = ap (λ (xs : List Endpoint). slice_get xs e) (sym ends) ∙ at

      -- it isn't one that is there
      other : (e : ℕ) (y : Endpoint) → slice_get d.endpoints e ≡ Some y → y.gone ≡ false → number ≢ e
      other e y at alive same =
          true≢false (sym gone ∙ ap (λ (v : Endpoint). v.gone) (same_Some its y (sym here ∙ ap (slice_get d.endpoints) same ∙ at)) ∙ alive)

      none_waits : (e t : ℕ) (y : Transfer) → slice_get given t ≡ Some y → waits_for e y ≡ false
      none_waits e t y at =
          ⊎_elim (λ (was : slice_get [] t ≡ Some y). absurd (nothing_at t y was)) (λ (g : IsGone number y). reported_not e y g.reported)
          (appended (IsGone number) [] given each t y at)

      rest_given : (e : ℕ) → rest_of f new e ≡ rest_of d new e
      rest_given e =
          ap (λ (ts : List Transfer). rest_from new f.notes e ts) transfers
          ∙ ap (λ (ns : List QtdNote). rest_from new ns e (d.transfers ++ given)) notes ∙ rest_join new d.notes e d.transfers given
          ∙ ap (λ (bs : List ℕ). rest_of d new e ++ bs) (rest_none new d.notes e given (none_waits e)) ∙ append-nil (rest_of d new e)

      abbrev more : ℕ → List ℕ
      more e = concat (puts_in puts e (0 + length (map owner_at d.transfers)) (map owner_at given))

      puts_given : (e : ℕ) → concat (puts_of f puts e) ≡ concat (puts_of d puts e) ++ more e
      puts_given e =
          ap (λ (ts : List Transfer). concat (puts_from puts e 0 ts)) transfers
          ∙ ap concat (by_owners puts e 0 (d.transfers ++ given) ∙ ap (puts_in puts e 0) (map-append owner_at d.transfers given)
          ∙ puts_join puts e 0 (map owner_at d.transfers) (map owner_at given))
          ∙ concat-append (puts_in puts e 0 (map owner_at d.transfers))
          (puts_in puts e (0 + length (map owner_at d.transfers)) (map owner_at given))
          ∙ ap (λ (xs : List (List ℕ)). concat xs ++ concat (puts_in puts e (0 + length (map owner_at d.transfers)) (map owner_at given)))
          (sym (by_owners puts e 0 d.transfers))

      none_more : (e : ℕ) → number ≢ e → more e ≡ []
      none_more e differs = ap concat
          (puts_none puts e (0 + length (map owner_at d.transfers)) (map owner_at given) (owners_off given each))
        where
          owners_off : (ys : List Transfer) → AllByRecursion (IsGone number) ys → AllByRecursion (λ (o : ℕ). o ≢ e) (map owner_at ys)
          owners_off [] all = tt
          owners_off (y ∷ ys) all = ((λ same. differs (sym all.0.endpoint ∙ same)), owners_off ys all.1)

      puts_still : (e : ℕ) (y : Endpoint) → slice_get d.endpoints e ≡ Some y → y.gone ≡ false
          → concat (puts_of f puts e) ≡ concat (puts_of d puts e)
      puts_still e y at alive =
          puts_given e ∙ ap (λ (bs : List ℕ). concat (puts_of d puts e) ++ bs) (none_more e (other e y at alive))
          ∙ append-nil (concat (puts_of d puts e))

      pub given_owing : IsOwing watch wire parts reported f new puts
      given_owing = record {
        ended = λ e y cause at alive sends over. k.ended e y cause (was_end e y at) alive sends over;
        held = held_still f notes (λ t y at put held.
            ⊎_elim (λ (was : slice_get d.transfers t ≡ Some y). was_itself d.transfers t y was)
            (λ (g : IsGone number y). absurd (true≢false (sym g.released ∙ held))) (which_of t y at));
        owes = record {
          going = λ e y at there sends goes.
              ap (λ (bs : List ℕ). reported (32 * y.queue) ++ bs) (rest_given e)
              ∙ owes_then.going e y (was_end e y at) (idle_there d idle y there.kept) sends goes
              ∙ sym (puts_still e y (was_end e y at) there.kept);
          over = λ e y cause at there sends over.
              prefix_to (reported (32 * y.queue)) (concat (puts_of d puts e)) (concat (puts_of f puts e))
              (sym (puts_still e y (was_end e y at) there.kept))
              (owes_then.over e y cause (was_end e y at) (idle_there d idle y there.kept) sends over);
          opening = λ e t y v at alive is there. absurd (none_open y.queue (sym idle ∙ sym command ∙ is));
          last = λ t v y there at sends goes is stays.
              ⊎_elim (λ (was : slice_get d.transfers t ≡ Some v). owes_then.last t v y was (was_end v.endpoint y at) sends goes is stays)
              (λ (g : IsGone number v). absurd (true≢false (sym g.released ∙ stays))) (which_of t v there);
        };
        begin = λ e y u at life sends is.
            prefix_to u.taken (concat (puts_of d puts e) ++ more e) (concat (puts_of f puts e)) (sym (puts_given e))
            (last_one u.taken (concat (puts_of d puts e)) (more e) (k.begin e y u (was_end e y at) (idle_life d idle y) sends is));
      }
