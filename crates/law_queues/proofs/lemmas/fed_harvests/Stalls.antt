-- A STALL of a control endpoint: its request and all that wait behind it are reported.
use Rattle.std.proofs.Common.{◌≡◌, ◌≢◌, ℕ, suc, ◌-◌, ◌*◌, ◌<◌, Bool, false, true, ◌==◌, cond, nat_le, List, [], ◌∷◌, ◌++◌, length, set, drop, slice_get, Option, Some, None, option_map, ap, sym, subst, ◌∙◌, ⊎_elim, inl, inr, refl}
use Rattle.std.specs.Prelude.{◌⊎◌}
use Rattle.std.proofs.lemmas.Bool.{cases_eq}
use Rattle.std.proofs.lemmas.Option.{same_Some}
use Rattle.law_common.proofs.Lists.{set_here, pushed}
use Rattle.law_common.proofs.Numbers.{same_number, other_number}
use Rattle.law_driver.proofs.Common.{waits_is}
use Rattle.law_queues.proofs.Common.{own_out}
use Rattle.usb_base.specs.declared.endpoints.EndCause.{EndCause}
use Rattle.usb_base.specs.declared.reports.What.{What}
use Rattle.drv_table.specs.declared.content.Endpoint.{Endpoint}
use Rattle.drv_table.specs.declared.content.Transfer.{Transfer}
use Rattle.drv_table.specs.declared.content.QtdNote.{QtdNote}
use Rattle.drv_table.specs.declared.content.Command.{Command}
use Rattle.drv_table.specs.declared.content.Command.TheVariants as unfinished
use Rattle.drv_table.specs.declared.rows.Found.{Found}
use Rattle.drv_table.specs.declared.rows.Found.TheVariants as founds
use Rattle.drv_table.specs.declared.rows.DriverRow.TheVariants as rows
use Rattle.drv_table.specs.DriverContent.{DriverContent, waits_for}
use Rattle.drv_table.specs.Harvests.{note_at, token_in, found_in, noted, end_of, is_stall}
use Rattle.drv_table.specs.Parts.{Parts}
use Rattle.drv_table.specs.Rows.{after_driver_row}
use Rattle.drv_table.specs.Harvesting.{after_harvest, harvested_as, served, after_end, told_with, goes_on, stalled, mends_of}
use Rattle.law_driver.specs.run_owners.Due.{IsHarvestDue}
use Rattle.claims_driver.specs.Leaving.{HasOwners}
use Rattle.claims_driver.specs.Owners.{note_in}
use Rattle.law_driver.proofs.lemmas.endpoint_lives.Lives.{none_told}
use Rattle.law_structures.specs.lent_structures.Structures.{StructureSets}
use Rattle.law_ring.specs.Told.{Endpoint as Told}
use Rattle.law_driver.specs.chained_transfers.AsynchronousTurns.{AsynchronousTakesTurns}
use Rattle.law_driver.specs.chained_transfers.Turns.{turn_of, turn_in, IsNext, IsNotGone, AreReportedTo}
use Rattle.law_driver.specs.chained_transfers.Out.{out_of_transfer, out_of, out_now}
use Rattle.law_driver.proofs.lemmas.chained_transfers.Harvested.{harvest_in_turn}
use Rattle.law_driver.proofs.lemmas.chained_transfers.Staying.{stands_fresh}
use Rattle.law_driver.proofs.lemmas.chained_transfers.Turning.{AreInTurnOf}
use Rattle.law_driver.proofs.lemmas.chained_transfers.Ways.{found_by, moves_queued}
use Rattle.law_driver_ring.specs.fed_queues.Places.{AreStillOut}
use Rattle.law_queues.specs.mended_heads.Stalling.{IsStall}
use Rattle.law_queues.specs.fed_lends.Commands.{QueuesStand}
use Rattle.law_queues.specs.fed_harvests.Harvests.{IsLike, with_out}
use Rattle.law_queues.specs.fed_harvests.Stalls.{Stalled, StallLeaves, StallStands}
use Rattle.law_queues.proofs.lemmas.fed_harvests.Like.{alike_stands}
use Rattle.law_queues.proofs.lemmas.fed_harvests.Lists.{all_of, all_out, all_same}
use Rattle.law_queues.proofs.lemmas.fed_harvests.Told.{AreTold, all_told, told_set, WasIn, was_in, IsOf, was_of, OnlyTellsOf, behind_tells_of, others_same, told_out, stall_splits}
use Rattle.law_queues.proofs.lemmas.fed_harvests.Harvests.{like, remains, held, rest_of, all_pieces, first_out, apart}

now_of : (c : DriverContent) (i : ℕ) → c.command ≡ None → out_now c i ≡ all_of (note_in c.notes) i c.transfers
now_of c i none = ap (λ o. out_of (note_in c.notes) i o c.made c.transfers) none ∙ all_out (note_in c.notes) i c.made c.transfers

-- what tells of queues is the same where some are reported
like_told : (d g f : DriverContent) (e : ℕ) → IsLike d g → OnlyTellsOf e g f → IsLike d f
like_told d g f e l o = record {
  idle = l.idle;
  idle_now = o.command ∙ l.idle_now;
  slots = o.slots ∙ l.slots;
  waiting = o.waiting ∙ l.waiting;
  rung = o.rung ∙ l.rung;
  notes = λ b. ap (λ (ns : List QtdNote). note_in ns b) o.notes ∙ l.notes b;
  next = λ b. ap (λ (ns : List QtdNote). (note_at ns b).next) o.notes ∙ l.next b;
  buffer = λ b. ap (λ (ns : List QtdNote). (note_at ns b).buffer) o.notes ∙ l.buffer b;
  told = λ b. ap (λ (ns : List QtdNote). (note_at ns b).told) o.notes ∙ l.told b;
  ends = λ i z at. l.ends i z (ap (λ (xs : List Endpoint). slice_get xs i) (sym o.endpoints) ∙ at);
  ends_now = λ i z at.
      let w = l.ends_now i z at in
      record { endpoint = w.endpoint; there = ap (λ (xs : List Endpoint). slice_get xs i) o.endpoints ∙ w.there; queue = w.queue; dummy = w.dummy; desc = w.desc; linked = w.linked; gone = w.gone };
  transfers = λ u z at.
      let w : WasIn e g.transfers u z = was_in e g.transfers f.transfers u z o.transfers at in
      let v = l.transfers u w.one w.here in
      ⊎_elim
      (λ (same : z ≡ w.one).
      record {
        transfer = v.transfer;
        there = v.there;
        endpoint = ap (λ (r : Transfer). r.endpoint) same ∙ v.endpoint;
        first = ap (λ (r : Transfer). r.first) same ∙ v.first;
        qtds = ap (λ (r : Transfer). r.qtds) same ∙ v.qtds;
        sort = ap (λ (r : Transfer). r.sort) same ∙ v.sort;
        released = ap (λ (r : Transfer). r.released) same ∙ v.released;
      })
      (λ (told : (waits_for e w.one ≡ true) × (z ≡ record w.one { reported = true })).
      record {
        transfer = v.transfer;
        there = v.there;
        endpoint = ap (λ (r : Transfer). r.endpoint) told.1 ∙ v.endpoint;
        first = ap (λ (r : Transfer). r.first) told.1 ∙ v.first;
        qtds = ap (λ (r : Transfer). r.qtds) told.1 ∙ v.qtds;
        sort = ap (λ (r : Transfer). r.sort) told.1 ∙ v.sort;
        released = ap (λ (r : Transfer). r.released) told.1 ∙ v.released;
      })
      w.is;
}

module _ (p : Parts) (e t : ℕ) (found : Found) (due : IsHarvestDue p e t found) (owners : HasOwners p.driver) (turns : AsynchronousTakesTurns p.driver) (member streams : ℕ → Bool) (ends : ℕ → Told) (parts : StructureSets) (order : ℕ → ℕ → ℕ) (out : ℕ → List ℕ) (old : QueuesStand p.driver member streams ends parts order out) where
  abbrev d : DriverContent
  d = p.driver

  abbrev x : Endpoint
  x = due.endpoint

  abbrev y : Transfer
  y = due.transfer

  abbrev f : DriverContent
  f = after_harvest d p.memory e t found (Some x) (Some y)

  -- ---- what is told

  abbrev begun : ℕ → What → DriverContent
  begun n what = told_with d p.memory t y what x.desc.name (noted d.notes y.place n)

  abbrev now : ℕ → What → DriverContent
  now n what = record (begun n what) { harvested = d.harvested ++ t ∷ []; endpoints = set d.endpoints e (record x { next = None }); mends = d.mends ++ mends_of x }

  begins : (n : ℕ) (what : What) → IsLike d (now n what)
  begins n what = like d e t x y due.idle due.here due.there (now n what)
      (record {
        command = refl;
        made = refl;
        slots = refl;
        waiting = refl;
        rung = refl;
        moved = n;
        notes = refl;
        x_now = record x { next = None };
        endpoints = refl;
        x_like = (refl, refl, refl, refl, refl);
        y_now = record y { reported = true };
        transfers = refl;
        y_like = (refl, refl, refl, refl, refl);
      })

  tells_served : (n : ℕ) (what : What) → OnlyTellsOf e (now n what) (served (stalled (begun n what) e t x) e)
  tells_served n what =
      let o : OnlyTellsOf e (now n what) (stalled (begun n what) e t x) = behind_tells_of (now n what) e x.desc.name (suc t) (length (begun n what).transfers - suc t) in
      record { transfers = o.transfers; endpoints = o.endpoints; notes = o.notes; command = o.command; made = o.made; slots = o.slots; waiting = o.waiting; rung = o.rung; harvested = o.harvested }

  pub record Tells (g : DriverContent) : Type 0 where
    pub like_d : IsLike d g
    pub transfers : AreTold e d.transfers g.transfers
    pub endpoints : g.endpoints ≡ set d.endpoints e (record x { next = None })
    pub harvested : (i u : ℕ) → slice_get g.harvested i ≡ Some u → (slice_get d.harvested i ≡ Some u) ⊎ IsOf e d.transfers u

  tells_stalled : (n : ℕ) (what : What) → Tells (served (stalled (begun n what) e t x) e)
  tells_stalled n what =
      let o = tells_served n what in
      let g = served (stalled (begun n what) e t x) e in
      record {
        like_d = like_told d (now n what) g e (begins n what) o;
        transfers = all_told e d.transfers (now n what).transfers g.transfers (told_set e d.transfers t y due.there due.waits) o.transfers;
        endpoints = o.endpoints;
        harvested = λ i u at.
            ⊎_elim
            (λ (was : slice_get (d.harvested ++ t ∷ []) i ≡ Some u).
            ⊎_elim (λ (older : slice_get d.harvested i ≡ Some u). inl older) (λ (own : u ≡ t). inr (record { one = y; here = ap (slice_get d.transfers) own ∙ due.there; of_e = (waits_is e y due.waits).0 }))
            (pushed d.harvested t i u was))
            (λ (new : IsOf e (now n what).transfers u). inr (was_of e d.transfers (now n what).transfers u new.one (told_set e d.transfers t y due.there due.waits) new.here new.of_e)) (o.harvested i u at);
      }

  tells_found : (n : ℕ) (what : What) → (is_stall what ≡ true) × (end_of x.desc.kind what ≡ None) → Tells (served (harvested_as d p.memory e t x y (founds.Ended n what)) e)
  tells_found n what is =
      subst (λ (o : Option EndCause). Tells (served (after_end (begun n what) e t x (is_stall what) o) e)) (sym is.1)
      (subst (λ (b : Bool). Tells (served (cond b (stalled (begun n what) e t x) (goes_on (begun n what) e t x)) e)) (sym is.0) (tells_stalled n what))

  by_found : (k : Found) → IsStall x.desc.kind k → Tells (served (harvested_as d p.memory e t x y k) e)
  by_found (founds.Ended n what) stall = tells_found n what stall
  by_found _ stall = absurd stall

  pub tells : IsStall x.desc.kind found → Tells f
  tells stall = subst (λ (b : Bool). Tells (cond b (served (harvested_as d p.memory e t x y found) e) d)) (sym due.waits) (by_found found stall)

  -- ---- all are reported

  stays : IsNotGone (slice_get d.endpoints) e
  stays = record { endpoint = x; here = due.here; gone = remains p e t found due owners turns member streams ends parts order out old }

  fresh : x.cancelled ≡ false
  fresh = stands_fresh x (turns.asynchronous.endpoints e x due.here) due.goes_on

  read_is : found ≡ found_in y.sort (nat_le y.left 1) (note_at d.notes y.place) (token_in p.memory y.place)
  read_is = due.tells ∙ found_by d p.memory y y.sort (moves_queued d y (turns.asynchronous.moves t y due.there))

  pub in_turn : AreInTurnOf (IsNotGone (slice_get d.endpoints)) f
  in_turn =
      harvest_in_turn (IsNotGone (slice_get d.endpoints)) d p.memory e t x y due.here due.there due.goes_on fresh due.next due.waits stays
      (record { places = turns.turns.places; turns = turns.turns.turns }) found read_is

  pub each_told : Tells f → (k : ℕ) (z : Transfer) → slice_get f.transfers k ≡ Some z → z.endpoint ≡ e → z.reported ≡ true
  each_told k u z there of_e =
      let here : slice_get f.endpoints e ≡ Some (record x { next = None }) = ap (λ (xs : List Endpoint). slice_get xs e) k.endpoints ∙ set_here d.endpoints e x (record x { next = None }) due.here in
      in_turn.turns.next e (record x { next = None }) here (none_told (record x { next = None }) due.goes_on) u (turn_of z) (ap (option_map turn_of) there) of_e

  is_next : IsNext (turn_in d.transfers) e t
  is_next = subst (λ (o : Option ℕ). AreReportedTo (turn_in d.transfers) e o) due.next (turns.turns.turns.next e x due.here (none_told x due.goes_on))

  earlier : (u : ℕ) (z : Transfer) → u < t → slice_get d.transfers u ≡ Some z → z.endpoint ≡ e → z.reported ≡ true
  earlier u z less there of_e = is_next.before u (turn_of z) less (ap (option_map turn_of) there) of_e

  -- ---- what is out

  rest : List ℕ
  rest = rest_of p e t found due owners turns member streams ends parts order out old

  its_rest : out_of_transfer (note_in d.notes) e 0 (record y { reported = true }) ≡ rest
  unfolding rest
  its_rest =
      own_out (note_in d.notes) e (record y { reported = true }) (waits_is e y due.waits).0 (held p e t found due owners turns member streams ends parts order out old)
      ∙ ap (λ xs. drop 1 xs) (all_pieces p e t found due owners turns member streams ends parts order out old)

  later_of : Tells f → (i : ℕ) → out_now f i ≡ all_of (note_in d.notes) i f.transfers
  later_of k i = now_of f i k.like_d.idle_now ∙ all_same (note_in d.notes) (note_in f.notes) i f.transfers k.like_d.notes

  pub same_out : Tells f → (i : ℕ) → i ≢ e → out_now f i ≡ out_now d i
  same_out k i differs = later_of k i ∙ others_same (note_in d.notes) e i d.transfers f.transfers differs k.transfers ∙ sym (now_of d i due.idle)

  pub is_stalled : Tells f → Stalled d f e t y
  unfolding rest
  is_stalled k =
      let s = stall_splits (note_in d.notes) e d.transfers t y (32 * y.place) rest due.there (first_out p e t found due owners turns member streams ends parts order out old) its_rest earlier in
      let now = later_of k e ∙ told_out (note_in d.notes) e d.transfers f.transfers k.transfers (each_told k) in
      record {
        before = s.before;
        behind = s.behind;
        later = s.later;
        was = now_of d e due.idle ∙ s.was;
        now = now ∙ s.is;
        told = now;
        passed = λ a among. let b = s.passed_over a among in record { number = b.number; transfer = b.transfer; earlier = b.earlier; here = b.here; among = b.among };
        fewer = s.fewer;
      }

  -- ---- the queues

  no_open : (c : ℕ) → d.command ≡ Some (unfinished.Open c) → ⊥
  no_open c is = let none : ◌≡◌ {A = Option Command} None (Some (unfinished.Open c)) = sym due.idle ∙ is in cc

  Leaves : DriverContent → Type 0
  Leaves g = (s : Stalled d g e t y) × QueuesStand g member streams ends parts order (with_out out (32 * x.queue) (s.before ++ s.later))

  leaves_then : IsStall x.desc.kind found → Leaves f
  unfolding Leaves
  leaves_then stall =
      let k = tells stall in
      let s = is_stalled k in
      let at = 32 * x.queue in
      let still : AreStillOut f (with_out out at (s.before ++ s.later)) = λ i z here met.
      let w = k.like_d.ends i z here in
      ⊎_elim
      (λ (own : i ≡ e).
      let same : w.endpoint ≡ x = same_Some w.endpoint x (sym w.there ∙ ap (slice_get d.endpoints) own ∙ due.here) in
      let block : 32 * z.queue ≡ at = ap (λ (q : ℕ). 32 * q) (w.queue ∙ ap (λ (r : Endpoint). r.queue) same) in
      ap (λ (n : ℕ). cond (n == at) (s.before ++ s.later) (out n)) block ∙ ap (λ (b : Bool). cond b (s.before ++ s.later) (out at)) (same_number at)
      ∙ sym s.now ∙ ap (out_now f) (sym own))
      (λ (other : i ≢ e).
      let differs : 32 * z.queue ≢ at = λ same. apart p e t found due owners turns member streams ends parts order out old i w.endpoint w.there (sym w.gone ∙ met.kept) other (ap (λ (q : ℕ). 32 * q) (sym w.queue) ∙ same) in
      ap (λ (b : Bool). cond b (s.before ++ s.later) (out (32 * z.queue))) (other_number (32 * z.queue) at differs)
      ∙ ap (λ (q : ℕ). out (32 * q)) w.queue ∙ old.out_are i w.endpoint w.there (record { linked = no_open w.endpoint.queue; kept = sym w.gone ∙ met.kept })
      ∙ sym (same_out k i other))
      (cases_eq i e) in
      (s, alike_stands d f member streams ends parts order out (with_out out at (s.before ++ s.later)) k.like_d still old)

  pub stall_leaves : IsStall x.desc.kind found → StallLeaves p e t found due member streams ends parts order out
  unfolding Leaves
  stall_leaves stall =
      let k : Leaves (after_driver_row (rows.Harvest e t found) p).driver =
      subst (λ (o : Option Endpoint). Leaves (after_harvest d p.memory e t found o (slice_get d.transfers t))) (sym due.here)
      (subst (λ (o : Option Transfer). Leaves (after_harvest d p.memory e t found (Some x) o)) (sym due.there) (leaves_then stall)) in
      record { stalled = k.0; stand = k.1 }

pub stall_stands : StallStands
stall_stands p e t found member streams ends parts order out due stall owners turns old = stall_leaves p e t found due owners turns member streams ends parts order out old stall
