-- A harvest finds nothing of a queue that waits, and the endpoint of a stall is owed its three stores.
use Rattle.std.proofs.Common.{◌≡◌, ◌≢◌, ℕ, ◌*◌, ◌==◌, Bool, true, false, not, nat_le, if◌then◌else◌, cond, List, [], ◌∷◌, ◌++◌, slice_get, Option, Some, None, ap, refl, sym, subst, ◌∙◌, ⊎_elim, arith}
use Rattle.std.specs.Prelude.{is_some}
use Rattle.std.proofs.lemmas.Bool.{cases_eq, eqb-true, false≢true, and_parts}
use Rattle.std.proofs.lemmas.Option.{same_Some}
use Rattle.law_common.proofs.Booleans.{not_on}
use Rattle.law_driver.proofs.Common.{same_endpoint, control_kind}
use Rattle.law_queues.proofs.Common.{stall_or, after_is}
use Rattle.usb_base.specs.declared.endpoints.EndCause.{EndCause}
use Rattle.usb_base.specs.declared.endpoints.EndCause.TheVariants as causes
use Rattle.usb_base.specs.declared.packets.EpKind.{EpKind}
use Rattle.usb_base.specs.declared.packets.EpKind.TheVariants as kinds
use Rattle.usb_base.specs.declared.reports.What.{What}
use Rattle.usb_base.specs.declared.reports.What.TheVariants as lines
use Rattle.word_mem.specs.Memory.{Mem}
use Rattle.qh_qtd.specs.declared.token.Token.{Token}
use Rattle.drv_table.specs.declared.content.Endpoint.{Endpoint}
use Rattle.drv_table.specs.declared.content.Transfer.{Transfer}
use Rattle.drv_table.specs.declared.content.Mend.{Mend}
use Rattle.drv_table.specs.declared.content.Sort.{Sort}
use Rattle.drv_table.specs.declared.content.Sort.TheVariants as sorts
use Rattle.drv_table.specs.declared.content.QtdNote.{QtdNote}
use Rattle.drv_table.specs.declared.rows.Found.{Found}
use Rattle.drv_table.specs.declared.rows.Found.TheVariants as founds
use Rattle.drv_table.specs.DriverContent.{DriverContent, waits_for}
use Rattle.drv_table.specs.Words.{is_control}
use Rattle.drv_table.specs.Harvests.{note_at, token_in, halt_of, moved_of, done_of, ends_by, found_in, is_stall, end_of}
use Rattle.drv_table.specs.Parts.{Parts as DriverParts}
use Rattle.drv_table.specs.Harvesting.{found_of, served, after_harvest}
use Rattle.drv_periodic_table.specs.Descriptors.{is_served, errors_in}
use Rattle.drv_periodic_table.specs.Periodic.{note_at as descriptor_note}
use Rattle.law_driver.proofs.lemmas.endpoint_lives.Lives.{none_told}
use Rattle.law_driver.specs.run_owners.Due.{IsHarvestDue}
use Rattle.claims_driver.specs.Leaving.{HasOwners}
use Rattle.claims_driver.specs.Owners.{views_of, is_descriptor}
use Rattle.claims_driver.specs.LentRuns.{AreLent}
use Rattle.law_driver.specs.chained_transfers.Turns.{AreInTurn}
use Rattle.law_driver.proofs.lemmas.chained_transfers.Ways.{found_by}
use Rattle.law_structures.specs.lent_structures.Structures.{Element, StructureSets, Tells}
use Rattle.law_ring.specs.Order.{IsAmong}
use Rattle.law_driver_ring.specs.Inventory.{sorts_of, IsDriven}
use Rattle.law_driver_ring.specs.fed_queues.Places.{AreStillOut}
use Rattle.law_driver_ring.proofs.lemmas.harvested_streams.Harvesting.{token_is_read}
use Rattle.law_queues.specs.mended_heads.Owed.{StalledQueue, mends_at, IsOwed}
use Rattle.law_queues.specs.mended_heads.Waiting.{Waits, MendsStand}
use Rattle.law_queues.specs.mended_heads.Stalling.{IsStall, StallIsHalted, HaltsQueue, HaltStopsQueue, HarvestKeepsMends}
use Rattle.law_queues.proofs.lemmas.mended_heads.Content.{all_both, all_more, owed_on}
use Rattle.law_queues.proofs.lemmas.mended_heads.Groups.{left_more, apart_more}
use Rattle.law_queues.proofs.lemmas.mended_heads.Harvested.{OwesMore, harvest_owes_none, harvest_owes}
use Rattle.law_queues.proofs.lemmas.mended_heads.Lent.{queue_placed, IsUntold, untold_by, place_is_out, place_there}

-- ---- what is found

active_found : (sort : Sort) (last : Bool) (note : QtdNote) (t : Token) → t.active ≡ true → found_in sort last note t ≡ founds.Active
active_found sort last note t on =
    ap (λ (b : Bool). if b then founds.Active else if t.halted then founds.Ended (moved_of note.told t.total) (halt_of t) else done_of (ends_by sort last t.total) (moved_of note.told t.total)) on

-- a stall is read of a token that is halted
done_no_stall : (kind : EpKind) (b : Bool) (n : ℕ) → IsStall kind (done_of b n) → ⊥
done_no_stall kind true n stall = false≢true stall.0
done_no_stall kind false n stall = stall

pub record IsHaltedToken (t : Token) : Type 0 where
  pub done : t.active ≡ false
  pub halted : t.halted ≡ true

stall_token : (kind : EpKind) (sort : Sort) (last : Bool) (note : QtdNote) (t : Token) → IsStall kind (found_in sort last note t) → IsHaltedToken t
stall_token kind sort last note t stall = by t.active t.halted refl refl stall
  where
    by : (active halted : Bool) → t.active ≡ active → t.halted ≡ halted
        → IsStall kind (if active then founds.Active else if halted then founds.Ended (moved_of note.told t.total) (halt_of t) else done_of (ends_by sort last t.total) (moved_of note.told t.total))
        → IsHaltedToken t
    by true halted one two s = absurd s
    by false true one two s = record { done = one; halted = two }
    by false false one two s = absurd (done_no_stall kind (ends_by sort last t.total) (moved_of note.told t.total) s)

served_no_stall : (kind : EpKind) (b : Bool) (n : ℕ) → IsStall kind (if b then founds.Served n else founds.Active) → ⊥
served_no_stall kind true n stall = stall
served_no_stall kind false n stall = stall

-- it isn't that of a descriptor
stall_queued : (kind : EpKind) (d : DriverContent) (m : Mem) (y : Transfer) (sort : Sort) → IsStall kind (found_of d m y sort) → is_descriptor sort ≡ false
stall_queued kind d m y sorts.Descriptor stall = absurd (served_no_stall kind (is_served (descriptor_note d.periodic.notes y.first) m y.first) (errors_in (descriptor_note d.periodic.notes y.first) m y.first) stall)
stall_queued kind d m y _ stall = refl

pub stall_is_halted : StallIsHalted
stall_is_halted p e t found parts u due stall tells here =
    let kind = due.endpoint.desc.kind in
    let y = due.transfer in
    let d = p.driver in
    let read : IsStall kind (found_of d p.memory y y.sort) = subst (IsStall kind) due.tells stall in
    let queued : is_descriptor y.sort ≡ false = stall_queued kind d p.memory y y.sort read in
    let token : IsHaltedToken (token_in p.memory y.place) =
    stall_token kind y.sort (nat_le y.left 1) (note_at d.notes y.place) (token_in p.memory y.place) (subst (IsStall kind) (found_by d p.memory y y.sort queued) read) in
    let same : token_in p.memory y.place ≡ u.token = token_is_read p.memory parts (32 * due.endpoint.queue) y.place u tells here in
    record { done = ap (λ (k : Token). k.active) (sym same) ∙ token.done; halted = ap (λ (k : Token). k.halted) (sym same) ∙ token.halted }

-- ---- a stall is one of a control endpoint

stall_control : (kind : EpKind) (what : What) → is_stall what ≡ true → end_of kind what ≡ None → is_control kind ≡ true
stall_control kinds.Control (lines.Halt causes.Stall) stall none = refl
stall_control kinds.Bulk (lines.Halt causes.Stall) stall none = absurd (cc)
stall_control kinds.Interrupt (lines.Halt causes.Stall) stall none = absurd (cc)
stall_control kinds.Iso (lines.Halt causes.Stall) stall none = absurd (cc)
stall_control kind _ stall none = absurd (false≢true stall)

pub record IsStalledBy (kind : EpKind) (found : Found) : Type 0 where
  pub count : ℕ
  pub what : What
  pub is : found ≡ founds.Ended count what
  pub stall : is_stall what ≡ true
  pub none : end_of kind what ≡ None

stalled_by : (kind : EpKind) (found : Found) → IsStall kind found → IsStalledBy kind found
stalled_by kind (founds.Ended n what) stall = record { count = n; what = what; is = refl; stall = stall.0; none = stall.1 }
stalled_by kind _ stall = absurd stall

abbrev IsNoStall : EpKind → Found → Type 0
IsNoStall kind found = (n : ℕ) (what : What) → found ≡ founds.Ended n what → is_stall what ≡ true → end_of kind what ≡ None → ⊥

stall_is : (kind : EpKind) (found : Found) → IsStalledBy kind found → IsStall kind found
stall_is kind found k = subst (IsStall kind) (sym k.is) (k.stall, k.none)

not_stalled : (kind : EpKind) (found : Found) → (IsStall kind found → ⊥) → IsNoStall kind found
not_stalled kind found none n what is stall end = none (stall_is kind found (record { count = n; what = what; is = is; stall = stall; none = end }))

some_none : (c : EndCause) → ◌≡◌ {A = Option EndCause} (Some c) None → ⊥
some_none c same = cc

-- ---- the harvested transfer

stall_differs : (kind : EpKind) (found : Found) → IsStall kind found → found ≢ founds.Active
stall_differs kind found stall active = subst (IsStall kind) active stall

module _ (p : DriverParts) (e t : ℕ) (found : Found) (parts : StructureSets) (out later : ℕ → List ℕ) (due : IsHarvestDue p e t found) (has : HasOwners p.driver) (lent : AreLent p.driver) (turns : AreInTurn p.driver) (tells : Tells p.memory parts) (driven : IsDriven (views_of p.driver) (sorts_of parts)) (still : AreStillOut p.driver out)
    (fewer : (s : StalledQueue) → IsOwed p.driver s → (a : ℕ) → IsAmong a (later (32 * s.queue)) → IsAmong a (out (32 * s.queue))) where
  abbrev d : DriverContent
  d = p.driver

  abbrev x : Endpoint
  x = due.endpoint

  abbrev y : Transfer
  y = due.transfer

  abbrev content_then : DriverContent
  content_then = after_harvest d p.memory e t found (Some x) (Some y)

  kept : x.gone ≡ false
  kept = by x.gone refl
    where
      by : (b : Bool) → x.gone ≡ b → x.gone ≡ false
      by false is = is
      by true is =
          let s = has.orderly.steady e x due.here in
          let out_of = s.gone is in
          absurd (false≢true (sym (ap is_some due.goes_on) ∙ s.ended out_of.0 out_of.1))

  untold : IsUntold d e t y
  untold =
      let both = and_parts (y.endpoint == e) (not y.reported) due.waits in
      untold_by d e t x y turns due.here kept due.there (eqb-true y.endpoint e both.0) (not_on y.reported both.1)

  -- nothing is found of a queue that waits
  active_by : (s : StalledQueue) → (o : IsOwed d s) → Waits s parts out → o.number ≡ e → found ≡ founds.Active
  active_by s o w same =
      let is : o.endpoint ≡ x = same_Some o.endpoint x (sym o.here ∙ ap (slice_get d.endpoints) same ∙ due.here) in
      let control : is_control x.desc.kind ≡ true = ap (λ (z : Endpoint). is_control z.desc.kind) (sym is) ∙ o.control in
      let queue : x.queue ≡ s.queue = ap (λ (z : Endpoint). z.queue) (sym is) ∙ o.queue in
      let queued = control_kind x.desc.kind control in
      let element = place_there d parts e t x y has lent turns due.idle driven due.here queued kept untold in
      let among = place_is_out d out e t x y turns still due.idle due.here kept untold in
      let on = w.published (32 * y.place) element.qtd (subst (λ (q : ℕ). IsAmong (32 * y.place) (out (32 * q))) queue among) (subst (λ (q : ℕ). parts (32 * q) (32 * y.place) ≡ Some (Element element.qtd)) queue element.here) in
      let token = token_is_read p.memory parts (32 * x.queue) y.place element.qtd tells element.here in
      let sort : is_descriptor y.sort ≡ false = has.orderly.sorts t y x due.there (ap (slice_get d.endpoints) untold.endpoint ∙ due.here) ∙ queued in
      due.tells ∙ found_by d p.memory y y.sort sort
      ∙ active_found y.sort (nat_le y.left 1) (note_at d.notes y.place) (token_in p.memory y.place) (ap (λ (k : Token). k.active) token ∙ on)

  waits_still : (s : StalledQueue) → IsOwed d s → Waits s parts out → Waits s parts later
  waits_still s o w = record { stands = w.stands; published = λ a u among is. w.published a u (fewer s o a among) is }

  -- ---- no stall

  active_owed : (s : StalledQueue) (b : Bool) → IsOwed d s → IsOwed (cond b (served d e) d) s
  active_owed s true o = record { number = o.number; endpoint = o.endpoint; here = o.here; control = o.control; kept = o.kept; going = o.going; queue = o.queue; onward = o.onward; some = o.some }
  active_owed s false o = o

  owed_still : IsNoStall x.desc.kind found → (s : StalledQueue) → IsOwed d s → Waits s parts out → IsOwed content_then s
  owed_still none s o w =
      let nothing = harvest_owes_none d p.memory e t x y due.here due.there found none in
      ⊎_elim {C = IsOwed content_then s}
      (λ (same : o.number ≡ e). subst (λ (f : Found). IsOwed (after_harvest d p.memory e t f (Some x) (Some y)) s) (sym (active_by s o w same)) (active_owed s (waits_for e y) o))
      (λ (differs : o.number ≢ e). owed_on (λ i z. i ≢ e) d content_then s nothing.others o differs) (cases_eq o.number e)

  no_stall : IsNoStall x.desc.kind found → MendsStand d parts out → MendsStand content_then parts later
  no_stall none k =
      let nothing = harvest_owes_none d p.memory e t x y due.here due.there found none in
      record {
        queues = k.queues;
        are = record {
          mends = nothing.mends ∙ k.are.mends;
          owed = all_both (IsOwed d) (λ (s : StalledQueue). Waits s parts out) (IsOwed content_then) k.queues (owed_still none) k.are.owed k.are.wait;
          wait = all_both (IsOwed d) (λ (s : StalledQueue). Waits s parts out) (λ (s : StalledQueue). Waits s parts later) k.queues waits_still k.are.owed k.are.wait;
          apart = k.are.apart;
        };
      }

  -- ---- a stall

  abbrev new : StalledQueue
  new = record { queue = x.queue; onward = x.dummy; made = 0 }

  others_apart : (stall : IsStall x.desc.kind found) (s : StalledQueue) (o : IsOwed d s) → Waits s parts out → o.number ≢ e
  others_apart stall s o w same = stall_differs x.desc.kind found stall (active_by s o w same)

  queue_differs : (control : is_control x.desc.kind ≡ true) (s : StalledQueue) (o : IsOwed d s) → o.number ≢ e → x.queue ≢ s.queue
  queue_differs control s o differs same =
      let mine = queue_placed d has e x due.here (control_kind x.desc.kind control) kept in
      let other = queue_placed d has o.number o.endpoint o.here (control_kind o.endpoint.desc.kind o.control) o.kept in
      differs (same_endpoint o.number e (sym other.owned ∙ ap has.owner (o.queue ∙ sym same) ∙ mine.owned))

  own_waits : HaltsQueue (later (32 * x.queue)) parts (32 * x.queue) → Waits new parts later
  own_waits h = record {
    stands = record { head = h.queue; here = h.here; halted = h.halted; next = λ some. absurd (omega (arith, some)); alternate = λ some. absurd (omega (arith, some)) };
    published = h.published;
  }

  with_stall : IsStall x.desc.kind found → HaltsQueue (later (32 * x.queue)) parts (32 * x.queue) → MendsStand d parts out → MendsStand content_then parts later
  with_stall stall halts k =
      let b = stalled_by x.desc.kind found stall in
      let control : is_control x.desc.kind ≡ true = stall_control x.desc.kind b.what b.stall b.none in
      let more : OwesMore d p.memory e t x y due.here due.there content_then =
      subst (λ (f : Found). OwesMore d p.memory e t x y due.here due.there (after_harvest d p.memory e t f (Some x) (Some y))) (sym b.is) (harvest_owes d p.memory e t x y due.here due.there b.count b.what due.waits b.stall b.none) in
      record {
        queues = k.queues ++ new ∷ [];
        are = record {
          mends = more.mends ∙ ap (λ (ws : List Mend). ws ++ mends_at x.queue x.dummy) k.are.mends ∙ sym (left_more k.queues new);
          owed = all_more (IsOwed content_then) k.queues new
              (all_both (IsOwed d) (λ (s : StalledQueue). Waits s parts out) (IsOwed content_then) k.queues (λ s o w. owed_on (λ i z. i ≢ e) d content_then s more.others o (others_apart stall s o w)) k.are.owed k.are.wait)
              (record { number = e; endpoint = record x { next = None }; here = more.own; control = control; kept = kept; going = none_told (record x { next = None }) due.goes_on; queue = refl; onward = refl; some = omega arith });
          wait = all_more (λ (s : StalledQueue). Waits s parts later) k.queues new
              (all_both (IsOwed d) (λ (s : StalledQueue). Waits s parts out) (λ (s : StalledQueue). Waits s parts later) k.queues waits_still k.are.owed k.are.wait) (own_waits halts);
          apart = apart_more k.queues new k.are.apart
              (all_both (IsOwed d) (λ (s : StalledQueue). Waits s parts out) (λ (s : StalledQueue). x.queue ≢ s.queue) k.queues (λ s o w. queue_differs control s o (others_apart stall s o w)) k.are.owed k.are.wait);
        };
      }

  harvested : (IsStall x.desc.kind found → HaltsQueue (later (32 * x.queue)) parts (32 * x.queue)) → MendsStand d parts out → MendsStand content_then parts later
  harvested halts k =
      ⊎_elim {C = MendsStand content_then parts later} (λ (stall : IsStall x.desc.kind found). with_stall stall (halts stall) k)
      (λ (none : IsStall x.desc.kind found → ⊥). no_stall (not_stalled x.desc.kind found none) k) (stall_or x.desc.kind found)

pub harvest_keeps_mends : HarvestKeepsMends
harvest_keeps_mends p e t found parts out later due has lent turns tells driven still fewer halts k =
    subst (λ (f : DriverContent). MendsStand f parts later) (sym (after_is p e t found due)) (harvested p e t found parts out later due has lent turns tells driven still fewer halts k)

-- ---- a halt

pub halt_stops_queue : HaltStopsQueue
halt_stops_queue order out later n a parts q t stops here among there halted behind = record {
  queue = q;
  here = here;
  halted = stops.head a t q among there halted here;
  published = λ e u also is. let b = behind e also in stops.later a e t u among there halted b.0 b.1 is;
}
