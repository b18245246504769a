-- Each event of the driver leaves its endpoints bulk and control ones, in the ring or cancelled.
use Rattle.std.proofs.Common.{◌≡◌, ◌≢◌, ℕ, suc, ◌-◌, Bool, true, false, cond, nat_lt, List, [], ◌∷◌, ◌++◌, length, set, slice_get, Option, Some, None, option_map, ap, sym, subst, ◌∙◌, ⊎_elim, inl, inr, refl}
use Rattle.std.specs.Prelude.{◌⊎◌}
use Rattle.std.proofs.lemmas.Bool.{cases_eq, false≢true}
use Rattle.std.proofs.lemmas.Option.{same_Some}
use Rattle.law_common.proofs.Lists.{set_here, set_there}
use Rattle.usb_base.specs.declared.endpoints.EpDesc.{EpDesc}
use Rattle.usb_base.specs.declared.endpoints.EndCause.{EndCause}
use Rattle.usb_base.specs.declared.packets.EpKind.TheVariants as kinds
use Rattle.usb_base.specs.declared.reports.What.{What}
use Rattle.word_mem.specs.Memory.{Mem}
use Rattle.drv_table.specs.declared.content.Endpoint.{Endpoint}
use Rattle.drv_table.specs.declared.content.Transfer.{Transfer}
use Rattle.drv_table.specs.declared.content.Command.{Command}
use Rattle.drv_table.specs.declared.content.Command.TheVariants as unfinished
use Rattle.drv_table.specs.declared.rows.Found.{Found}
use Rattle.drv_table.specs.declared.rows.Found.TheVariants as founds
use Rattle.drv_table.specs.DriverContent.{DriverContent, waits_for}
use Rattle.drv_table.specs.Harvests.{end_of, is_stall, noted}
use Rattle.drv_periodic_table.specs.Periodic.{PeriodicContent}
use Rattle.drv_table.specs.Commands.{no_command, leave_ring, advanced_by, advance}
use Rattle.drv_table.specs.Harvesting.{after_harvest, harvested_as, served, after_end, told_with, goes_on, stalled, mends_of}
use Rattle.drv_table.specs.Releases.{ended_by_cancel}
use Rattle.claims_driver.specs.Leaving.{leaver}
use Rattle.law_driver.specs.chained_transfers.Bulk.{MovesAs, IsBulkCommand}
use Rattle.law_driver.specs.chained_transfers.Turns.{Turn, turn_of, turn_in, IsNotGone, AreInTurn}
use Rattle.law_driver.specs.chained_transfers.Leaving.{IsStaying, NothingLeaves}
use Rattle.law_driver.specs.AsynchronousScripts.{IsAsynchronous}
use Rattle.law_driver.specs.chained_transfers.Asynchronous.{StandsAsynchronous, OnlyAsynchronous}
use Rattle.law_driver.proofs.lemmas.chained_transfers.Turning.{changed_plain, fewer_turns}
use Rattle.law_driver.proofs.lemmas.chained_transfers.Ends.{ends_turns, changed_end, changed_stays, WasTurn, WasGone, returned_on, same_turn, changed_gone}
use Rattle.law_driver.proofs.lemmas.chained_transfers.Moves.{KeepDescs, descs_same, descs_set, moves_on, moves_same}
use Rattle.law_driver.proofs.lemmas.chained_transfers.Harvesting.{turn_at}
use Rattle.law_driver.proofs.lemmas.chained_transfers.Stalled.{IsToldOf, told_set, told_both, behind_tells}
use Rattle.law_driver.proofs.lemmas.chained_transfers.Harvested.{no_stall}

-- ---- one more event of a command

-- the endpoint has left the ring, and its command is finished
abbrev pub left : DriverContent → ℕ → Endpoint → DriverContent
left d e x = record (no_command d) { waiting = d.waiting ++ e ∷ []; endpoints = set d.endpoints e (record x { linked = false }) }

left_either : (P : DriverContent → Type 0) (d : DriverContent) (e : ℕ) (o : Option Endpoint) → slice_get d.endpoints e ≡ o → P (no_command d) → ((x : Endpoint) → slice_get d.endpoints e ≡ Some x → P (left d e x)) → P (leave_ring (no_command d) e o)
left_either P d e None here none gone = none
left_either P d e (Some x) here none gone = by x.linked
  where
    by : (b : Bool) → P (cond b (left d e x) (no_command d))
    by true = gone x here
    by false = none

pub advanced_or_left : (P : DriverContent → Type 0) (d : DriverContent) (o : Option Command) → IsBulkCommand o → P d → P (record d { made = suc d.made }) → P (no_command d)
    → ((e : ℕ) (x : Endpoint) → leaver o ≡ Some e → slice_get d.endpoints e ≡ Some x → P (left d e x)) → P (advanced_by d o)
advanced_or_left P d None is same more none gone = same
advanced_or_left P d (Some (unfinished.Open queue)) is same more none gone = by (nat_lt (suc d.made) 2)
  where
    by : (b : Bool) → P (cond b (record d { made = suc d.made }) (no_command d))
    by true = more
    by false = none
advanced_or_left P d (Some (unfinished.Publish b words)) is same more none gone = by (nat_lt (suc d.made) 9)
  where
    by : (b : Bool) → P (cond b (record d { made = suc d.made }) (no_command d))
    by true = more
    by false = none
advanced_or_left P d (Some (unfinished.Unlink e b link)) is same more none gone = by (nat_lt (suc d.made) 1)
  where
    by : (c : Bool) → P (cond c (record d { made = suc d.made }) (leave_ring (no_command d) e (slice_get d.endpoints e)))
    by true = more
    by false = left_either P d e (slice_get d.endpoints e) refl none (λ x here. gone e x refl here)
advanced_or_left P d (Some unfinished.Chain) is same more none gone = absurd is
advanced_or_left P d (Some (unfinished.Iso e t count)) is same more none gone = absurd is
advanced_or_left P d (Some (unfinished.Unchain e)) is same more none gone = absurd is

pub no_leaver : (o : Option Command) (e : ℕ) → leaver o ≡ None → leaver o ≡ Some e → ⊥
no_leaver o e none is = let f : ◌≡◌ {A = Option ℕ} None (Some e) = sym none ∙ is in cc

-- where no endpoint leaves
pub advanced_either : (P : DriverContent → Type 0) (d : DriverContent) (o : Option Command) → IsBulkCommand o → leaver o ≡ None → P d → P (record d { made = suc d.made }) → P (no_command d) → P (advanced_by d o)
advanced_either P d o is stays same more none = advanced_or_left P d o is same more none (λ e x leaves here. absurd (no_leaver o e stays leaves))

-- ---- lists in which one is changed

pub set_which : {X : Type 0} (xs : List X) (t k : ℕ) (x y z : X) → slice_get xs t ≡ Some x → slice_get (set xs t y) k ≡ Some z → ((k ≡ t) × (z ≡ y)) ⊎ (slice_get xs k ≡ Some z)
set_which xs t k x y z here there = ⊎_elim
    (λ (own : k ≡ t). inl (own, sym (same_Some y z (sym (set_here xs t x y here) ∙ ap (slice_get (set xs t y)) (sym own) ∙ there))))
    (λ (other : k ≢ t). inr (sym (set_there xs t k y other) ∙ there)) (cases_eq k t)

pub ends_set : (P : Endpoint → Type 0) (xs : List Endpoint) (e : ℕ) (x z : Endpoint) → slice_get xs e ≡ Some x → (P x → P z) → ((k : ℕ) (w : Endpoint) → slice_get xs k ≡ Some w → P w) → (k : ℕ) (w : Endpoint) → slice_get (set xs e z) k ≡ Some w → P w
ends_set P xs e x z here same old k w there = ⊎_elim
    (λ (own : (k ≡ e) × (w ≡ z)). subst P (sym own.1) (same (old e x here)))
    (λ (other : slice_get xs k ≡ Some w). old k w other) (set_which xs e k x z w here there)

-- ---- an event that no endpoint leaves with

-- what an endpoint was, it is still, but that it may have ended, and may have another transfer next
pub record IsKeptAs (x z : Endpoint) : Type 0 where
  pub desc : z.desc ≡ x.desc
  pub placement : z.placement ≡ x.placement
  pub cancelled : z.cancelled ≡ x.cancelled
  pub linked : z.linked ≡ x.linked
  pub chained : z.chained ≡ x.chained
  pub gone : z.gone ≡ x.gone
  pub ended : z.ended ≡ None → x.ended ≡ None
  pub cancel : ended_by_cancel z.ended ≡ true → ended_by_cancel x.ended ≡ true
  pub over : z.gone ≡ true → z.ended ≡ x.ended

pub record IsKeptFrom (xs : List Endpoint) (k : ℕ) (z : Endpoint) : Type 0 where
  pub one : Endpoint
  pub here : slice_get xs k ≡ Some one
  pub kept : IsKeptAs one z

pub kept_same : (xs : List Endpoint) (k : ℕ) (z : Endpoint) → slice_get xs k ≡ Some z → IsKeptFrom xs k z
kept_same xs k z here = record { one = z; here = here; kept = record { desc = refl; placement = refl; cancelled = refl; linked = refl; chained = refl; gone = refl; ended = λ goes. goes; cancel = λ on. on; over = λ gone. refl } }

pub kept_set : (xs : List Endpoint) (e : ℕ) (x z : Endpoint) → slice_get xs e ≡ Some x → IsKeptAs x z → (k : ℕ) (w : Endpoint) → slice_get (set xs e z) k ≡ Some w → IsKeptFrom xs k w
kept_set xs e x z here kept k w there = ⊎_elim
    (λ (own : (k ≡ e) × (w ≡ z)). subst (λ (r : Endpoint). IsKeptFrom xs k r) (sym own.1) (record { one = x; here = ap (slice_get xs) own.0 ∙ here; kept = kept }))
    (λ (other : slice_get xs k ≡ Some w). kept_same xs k w other) (set_which xs e k x z w here there)

pub kept_in_life : (x z : Endpoint) → IsKeptAs x z → StandsAsynchronous x → StandsAsynchronous z
kept_in_life x z k s = record {
  asynchronous = subst (λ (c : EpDesc). IsAsynchronous c) (sym k.desc) s.asynchronous;
  placement = k.placement ∙ s.placement;
  chained = k.chained ∙ s.chained;
  unlinked = λ off. k.cancelled ∙ s.unlinked (sym k.linked ∙ off);
  ended = λ on goes. s.ended (sym k.cancelled ∙ on) (k.ended goes);
  cancel = λ on. k.cancelled ∙ s.cancel (k.cancel on);
  gone = λ gone. k.linked ∙ s.gone (sym k.gone ∙ gone);
}

pub kept_staying : (x z : Endpoint) → IsKeptAs x z → IsStaying x → IsStaying z
kept_staying x z k s = record { cancelled = k.cancelled ∙ s.cancelled; linked = k.linked ∙ s.linked; gone = k.gone ∙ s.gone }

-- a transfer that was there, of the same endpoint and sort, at least as far
pub record IsLaterOf (ts : List Transfer) (t : ℕ) (y : Transfer) : Type 0 where
  pub one : Transfer
  pub here : slice_get ts t ≡ Some one
  pub endpoint : y.endpoint ≡ one.endpoint
  pub sort : y.sort ≡ one.sort
  pub released : one.released ≡ true → y.released ≡ true
  pub reported : one.reported ≡ true → y.reported ≡ true

pub later_same : (ts : List Transfer) (t : ℕ) (y : Transfer) → slice_get ts t ≡ Some y → IsLaterOf ts t y
later_same ts t y here = record { one = y; here = here; endpoint = refl; sort = refl; released = λ r. r; reported = λ r. r }

later_told : (ts : List Transfer) (t : ℕ) (y : Transfer) → IsToldOf ts t y → IsLaterOf ts t y
later_told ts t y w = record {
  one = w.one;
  here = w.here;
  endpoint = ap (λ (r : Transfer). r.endpoint) w.is;
  sort = ap (λ (r : Transfer). r.sort) w.is;
  released = λ r. ap (λ (q : Transfer). q.released) w.is ∙ r;
  reported = w.told;
}

later_turn : (ts us : List Transfer) → ((t : ℕ) (y : Transfer) → slice_get us t ≡ Some y → IsLaterOf ts t y) → (k : ℕ) (z : Turn) → turn_in us k ≡ Some z → WasTurn (turn_in ts) k z
later_turn ts us each k z there =
    let y = turn_at us k z there in
    let w = each k y.0 y.1 in
    record {
      turn = turn_of w.one;
      there = ap (option_map turn_of) w.here;
      endpoint = ap (λ (r : Turn). r.endpoint) y.2 ∙ w.endpoint;
      released = λ r. ap (λ (q : Turn). q.released) y.2 ∙ w.released r;
      reported = λ r. ap (λ (q : Turn). q.reported) y.2 ∙ w.reported r;
    }

-- what an event keeps with which no endpoint leaves
pub record KeepsEndpoints (d f : DriverContent) : Type 0 where
  pub ends : (k : ℕ) (z : Endpoint) → slice_get f.endpoints k ≡ Some z → IsKeptFrom d.endpoints k z
  pub descs : KeepDescs d.endpoints f.endpoints
  pub transfers : (t : ℕ) (y : Transfer) → slice_get f.transfers t ≡ Some y → IsLaterOf d.transfers t y
  pub command : f.command ≡ d.command
  pub unlinks : f.periodic.unlinks ≡ d.periodic.unlinks
  pub removals : d.periodic.removals ≡ [] → f.periodic.removals ≡ []
  pub waiting : f.waiting ≡ d.waiting
  pub rung : f.rung ≡ d.rung
  pub cleared : f.cleared ≡ d.cleared

pub keeps_same : (d : DriverContent) → KeepsEndpoints d d
keeps_same d = record {
  ends = kept_same d.endpoints;
  descs = descs_same d.endpoints;
  transfers = later_same d.transfers;
  command = refl;
  unlinks = refl;
  removals = λ none. none;
  waiting = refl;
  rung = refl;
  cleared = refl;
}

pub kept_turns : (d f : DriverContent) → KeepsEndpoints d f → (k : ℕ) (z : Turn) → turn_in f.transfers k ≡ Some z → WasTurn (turn_in d.transfers) k z
kept_turns d f keeps = later_turn d.transfers f.transfers keeps.transfers

pub queues_on : (d f : DriverContent) → KeepsEndpoints d f → OnlyAsynchronous d → OnlyAsynchronous f
queues_on d f k old = record {
  endpoints = λ e z here. let one = k.ends e z here in kept_in_life one.one z one.kept (old.endpoints e one.one one.here);
  moves = λ t y here. let w = k.transfers t y here in moves_on d f w.one y w.endpoint w.sort k.descs (old.moves t w.one w.here);
  command = subst (λ (o : Option Command). IsBulkCommand o) (sym k.command) old.command;
  leaver = λ e z leaves here.
      let one = k.ends e z here in
      let l = old.leaver e one.one (ap leaver (sym k.command) ∙ leaves) one.here in
      record { cancelled = one.kept.cancelled ∙ l.cancelled; linked = one.kept.linked ∙ l.linked };
  unlinks = k.unlinks ∙ old.unlinks;
  removals = k.removals old.removals;
}

-- they were opened as before
pub kept_back : (d f : DriverContent) → KeepsEndpoints d f → KeepDescs f.endpoints d.endpoints
kept_back d f k e z here = let one = k.ends e z here in record { one = one.one; here = one.here; same = sym one.kept.desc }

pub nothing_on : (d f : DriverContent) → KeepsEndpoints d f → NothingLeaves d → NothingLeaves f
nothing_on d f k old = record {
  endpoints = λ e z here. let one = k.ends e z here in kept_staying one.one z one.kept (old.endpoints e one.one one.here);
  command = ap leaver k.command ∙ old.command;
  waiting = k.waiting ∙ old.waiting;
  rung = k.rung ∙ old.rung;
  cleared = k.cleared ∙ old.cleared;
}

-- ---- the command goes on

pub advanced_queues : (d : DriverContent) → OnlyAsynchronous d → OnlyAsynchronous (advance d)
advanced_queues d r = advanced_or_left OnlyAsynchronous d d.command r.command r
    (record { endpoints = r.endpoints; moves = moves_same d (record d { made = suc d.made }) (descs_same d.endpoints) r.moves; command = r.command; leaver = r.leaver; unlinks = r.unlinks; removals = r.removals })
    (record { endpoints = r.endpoints; moves = moves_same d (no_command d) (descs_same d.endpoints) r.moves; command = tt; leaver = λ e x is here. absurd (cc); unlinks = r.unlinks; removals = r.removals })
    (λ e x leaves here.
    let l = r.leaver e x leaves here in
    let z : Endpoint = record x { linked = false } in
    record {
      endpoints = ends_set StandsAsynchronous d.endpoints e x z here
          (λ s. record { asynchronous = s.asynchronous; placement = s.placement; chained = s.chained; unlinked = λ off. l.cancelled; ended = s.ended; cancel = s.cancel; gone = λ gone. refl }) r.endpoints;
      moves = moves_same d (left d e x) (descs_set d.endpoints e x z here refl) r.moves;
      command = tt;
      leaver = λ k w is at. absurd (cc);
      unlinks = r.unlinks;
      removals = r.removals;
    })

-- no endpoint is opened otherwise
pub descs_set_back : (xs : List Endpoint) (e : ℕ) (x z : Endpoint) → slice_get xs e ≡ Some x → z.desc ≡ x.desc → KeepDescs (set xs e z) xs
descs_set_back xs e x z here same k w there = ⊎_elim
    (λ (own : (k ≡ e) × (w ≡ z)). record { one = x; here = ap (slice_get xs) own.0 ∙ here; same = sym same ∙ ap (λ (r : Endpoint). r.desc) (sym own.1) })
    (λ (other : slice_get xs k ≡ Some w). record { one = w; here = other; same = refl }) (set_which xs e k x z w here there)

pub advanced_descs : (d : DriverContent) → IsBulkCommand d.command → KeepDescs (advance d).endpoints d.endpoints
advanced_descs d is = advanced_or_left (λ f. KeepDescs f.endpoints d.endpoints) d d.command is (descs_same d.endpoints) (descs_same d.endpoints) (descs_same d.endpoints)
    (λ e x leaves here. descs_set_back d.endpoints e x (record x { linked = false }) here refl)

pub advanced_mends : (d : DriverContent) → IsBulkCommand d.command → (advance d).mends ≡ d.mends
advanced_mends d is = advanced_or_left (λ f. f.mends ≡ d.mends) d d.command is refl refl refl (λ e x leaves here. refl)

pub advanced_nothing : (d : DriverContent) → IsBulkCommand d.command → NothingLeaves d → NothingLeaves (advance d)
advanced_nothing d is s = advanced_or_left NothingLeaves d d.command is s
    (record { endpoints = s.endpoints; command = s.command; waiting = s.waiting; rung = s.rung; cleared = s.cleared })
    (record { endpoints = s.endpoints; command = refl; waiting = s.waiting; rung = s.rung; cleared = s.cleared })
    (λ e x leaves here. absurd (no_leaver d.command e s.command leaves))

-- no endpoint comes back, and none that was given back changes
pub kept_stays : (xs : List Endpoint) (ends : ℕ → Option Endpoint) → ((k : ℕ) (z : Endpoint) → ends k ≡ Some z → IsKeptFrom xs k z) → (k : ℕ) → IsNotGone ends k → IsNotGone (slice_get xs) k
kept_stays xs ends kept k stays =
    let one = kept k stays.endpoint stays.here in
    record { endpoint = one.one; here = one.here; gone = sym one.kept.gone ∙ stays.gone }

pub kept_gone : (xs : List Endpoint) (ends : ℕ → Option Endpoint) → ((k : ℕ) (z : Endpoint) → ends k ≡ Some z → IsKeptFrom xs k z) → (k : ℕ) (z : Endpoint) → ends k ≡ Some z → z.gone ≡ true → WasGone (slice_get xs) k z
kept_gone xs ends kept k z here gone =
    let one = kept k z here in
    record { one = one.one; here = one.here; gone = sym one.kept.gone ∙ gone; ended = one.kept.over gone }

pub advanced_turns : (d : DriverContent) → IsBulkCommand d.command → AreInTurn d → AreInTurn (advance d)
advanced_turns d is old = advanced_or_left AreInTurn d d.command is old
    (record { places = old.places; turns = old.turns; returned = old.returned })
    (record { places = old.places; turns = old.turns; returned = old.returned })
    (λ e x leaves here.
    let v = turn_in d.transfers in
    let z : Endpoint = record x { linked = false } in
    let ends = slice_get d.endpoints in
    let ends_now = slice_get (set d.endpoints e z) in
    let c = changed_plain d.endpoints e x z here in
    record {
      places = old.places;
      turns = fewer_turns (IsNotGone ends) (IsNotGone ends_now) v ends_now d.harvested (λ t y at stays. changed_stays ends ends_now e x z c refl y.endpoint stays)
          (ends_turns (IsNotGone ends) v ends ends_now d.harvested (changed_end ends ends_now e x z c (λ goes. (goes, refl))) old.turns);
      returned = returned_on v v ends ends_now (λ k w i there at gone. same_turn v k w there) (changed_gone ends ends_now e x z c (λ gone. (gone, refl))) old.returned;
    })

-- ---- a harvest

-- whose turn it is then changes
served_keeps : (d f : DriverContent) (e : ℕ) → KeepsEndpoints d f → KeepsEndpoints d (served f e)
served_keeps d f e k = record {
  ends = k.ends;
  descs = k.descs;
  transfers = k.transfers;
  command = k.command;
  unlinks = k.unlinks;
  removals = k.removals;
  waiting = k.waiting;
  rung = k.rung;
  cleared = k.cleared;
}

-- it isn't found to have ended by a cancel
abbrev pub EndsOtherwise : Endpoint → Found → Type 0
EndsOtherwise x found = (n : ℕ) (what : What) (cause : EndCause) → found ≡ founds.Ended n what → end_of x.desc.kind what ≡ Some cause → ended_by_cancel (Some cause) ≡ false

module _ (d : DriverContent) (m : Mem) (e t : ℕ) (x : Endpoint) (y : Transfer) (here : slice_get d.endpoints e ≡ Some x) (there : slice_get d.transfers t ≡ Some y) (goes : x.ended ≡ None) (alive : x.gone ≡ false) where
  told : What → ℕ → DriverContent
  told what n = told_with d m t y what x.desc.name (noted d.notes y.place n)

  told_later : (k : ℕ) (z : Transfer) → slice_get (set d.transfers t (record y { reported = true })) k ≡ Some z → IsLaterOf d.transfers k z
  told_later k z at = later_told d.transfers k z (told_set d.transfers t y there k z at)

  next_kept : (o : Option ℕ) (k : ℕ) (z : Endpoint) → slice_get (set d.endpoints e (record x { next = o })) k ≡ Some z → IsKeptFrom d.endpoints k z
  next_kept o = kept_set d.endpoints e x (record x { next = o }) here (record { desc = refl; placement = refl; cancelled = refl; linked = refl; chained = refl; gone = refl; ended = λ none. none; cancel = λ on. on; over = λ gone. refl })

  stall_keeps : (n : ℕ) (what : What) → KeepsEndpoints d (stalled (told what n) e t x)
  unfolding told
  stall_keeps n what =
      let begun = told what n in
      let now = record begun { harvested = d.harvested ++ t ∷ []; endpoints = set d.endpoints e (record x { next = None }); mends = d.mends ++ mends_of x } in
      let each = behind_tells now e x.desc.name (suc t) (length begun.transfers - suc t) in
      record {
        ends = λ k z at. next_kept None k z (ap (λ (xs : List Endpoint). slice_get xs k) (sym each.endpoints) ∙ at);
        descs = subst (λ (xs : List Endpoint). KeepDescs d.endpoints xs) (sym each.endpoints) (descs_set d.endpoints e x (record x { next = None }) here refl);
        transfers = λ k z at. let w = each.transfers k z at in later_told d.transfers k z (told_both d.transfers begun.transfers k z w (told_set d.transfers t y there k w.one w.here));
        command = each.command;
        unlinks = ap (λ (q : PeriodicContent). q.unlinks) each.periodic;
        removals = λ none. ap (λ (q : PeriodicContent). q.removals) each.periodic ∙ none;
        waiting = each.waiting;
        rung = each.rung;
        cleared = each.cleared;
      }

  ends_keeps : (n : ℕ) (what : What) → ((cause : EndCause) → end_of x.desc.kind what ≡ Some cause → ended_by_cancel (Some cause) ≡ false) → (o : Option EndCause) → end_of x.desc.kind what ≡ o → KeepsEndpoints d (after_end (told what n) e t x (is_stall what) o)
  unfolding told
  ends_keeps n what other (Some cause) is = record {
    ends = kept_set d.endpoints e x (record x { ended = Some cause }) here
        (record { desc = refl; placement = refl; cancelled = refl; linked = refl; chained = refl; gone = refl; ended = λ none. goes; cancel = λ on. absurd (false≢true (sym (other cause is) ∙ on)); over = λ gone. absurd (false≢true (sym alive ∙ gone)) });
    descs = descs_set d.endpoints e x (record x { ended = Some cause }) here refl;
    transfers = told_later;
    command = refl;
    unlinks = refl;
    removals = λ none. none;
    waiting = refl;
    rung = refl;
    cleared = refl;
  }
  ends_keeps n what other None is = by (is_stall what)
    where
      by : (b : Bool) → KeepsEndpoints d (cond b (stalled (told what n) e t x) (goes_on (told what n) e t x))
      by true = stall_keeps n what
      by false = record {
        ends = next_kept _;
        descs = descs_set d.endpoints e x (record x { next = _ }) here refl;
        transfers = told_later;
        command = refl;
        unlinks = refl;
        removals = λ none. none;
        waiting = refl;
        rung = refl;
        cleared = refl;
      }

  moved_later : (z : Transfer) → z.endpoint ≡ y.endpoint → z.sort ≡ y.sort → z.released ≡ y.released → z.reported ≡ y.reported → (k : ℕ) (w : Transfer) → slice_get (set d.transfers t z) k ≡ Some w → IsLaterOf d.transfers k w
  moved_later z of_e sort released reported k w at = ⊎_elim
      (λ (own : (k ≡ t) × (w ≡ z)).
      subst (λ (r : Transfer). IsLaterOf d.transfers k r) (sym own.1)
      (record { one = y; here = ap (slice_get d.transfers) own.0 ∙ there; endpoint = of_e; sort = sort; released = λ r. released ∙ r; reported = λ r. reported ∙ r }))
      (λ (other : slice_get d.transfers k ≡ Some w). later_same d.transfers k w other) (set_which d.transfers t k y z w there at)

  read_keeps : (found : Found) → ((n : ℕ) → found ≢ founds.Served n) → EndsOtherwise x found → KeepsEndpoints d (served (harvested_as d m e t x y found) e)
  unfolding told
  read_keeps founds.Active not other = served_keeps d d e (keeps_same d)
  read_keeps (founds.Moved n) not other = record {
    ends = kept_same d.endpoints;
    descs = descs_same d.endpoints;
    transfers = moved_later _ refl refl refl refl;
    command = refl;
    unlinks = refl;
    removals = λ none. none;
    waiting = refl;
    rung = refl;
    cleared = refl;
  }
  read_keeps (founds.Served n) not other = absurd (not n refl)
  read_keeps (founds.Ended n what) not other = served_keeps d _ e (ends_keeps n what (λ cause. other n what cause refl) (end_of x.desc.kind what) refl)

  pub harvest_keeps : (found : Found) → ((n : ℕ) → found ≢ founds.Served n) → EndsOtherwise x found → KeepsEndpoints d (after_harvest d m e t found (Some x) (Some y))
  harvest_keeps found not other = by (waits_for e y)
    where
      by : (b : Bool) → KeepsEndpoints d (cond b (served (harvested_as d m e t x y found) e) d)
      by true = read_keeps found not other
      by false = keeps_same d

-- ---- a harvest of a bulk endpoint

pub record KeepsBulk (d f : DriverContent) : Type 0 where
  pub ends : (k : ℕ) (z : Endpoint) → slice_get f.endpoints k ≡ Some z → IsKeptFrom d.endpoints k z
  pub moves : ((t : ℕ) (y : Transfer) → slice_get d.transfers t ≡ Some y → MovesAs d y) → (t : ℕ) (y : Transfer) → slice_get f.transfers t ≡ Some y → MovesAs f y
  pub command : f.command ≡ d.command
  pub mends : f.mends ≡ d.mends
  pub unlinks : f.periodic.unlinks ≡ d.periodic.unlinks
  pub removals : d.periodic.removals ≡ [] → f.periodic.removals ≡ []

pub record IsHarvested (d f : DriverContent) : Type 0 where
  pub keeps : KeepsBulk d f
  pub turns : (k : ℕ) (z : Turn) → turn_in f.transfers k ≡ Some z → WasTurn (turn_in d.transfers) k z
  pub waiting : f.waiting ≡ d.waiting
  pub rung : f.rung ≡ d.rung
  pub cleared : f.cleared ≡ d.cleared

-- no queue head is owed a store after it
pub harvest_mends : (d : DriverContent) (m : Mem) (e t : ℕ) (x : Endpoint) (y : Transfer) (found : Found) → x.desc.kind ≡ kinds.Bulk → (after_harvest d m e t found (Some x) (Some y)).mends ≡ d.mends
harvest_mends d m e t x y found bulk = waiting (waits_for e y)
  where
    ends : (n : ℕ) (what : What) (o : Option EndCause) → end_of x.desc.kind what ≡ o → (after_end (told_with d m t y what x.desc.name (noted d.notes y.place n)) e t x (is_stall what) o).mends ≡ d.mends
    ends n what (Some cause) is = refl
    ends n what None is = by (is_stall what) (no_stall x.desc.kind what bulk is)
      where
        by : (b : Bool) → b ≡ false → (cond b (stalled (told_with d m t y what x.desc.name (noted d.notes y.place n)) e t x) (goes_on (told_with d m t y what x.desc.name (noted d.notes y.place n)) e t x)).mends ≡ d.mends
        by true off = absurd (false≢true (sym off))
        by false off = refl

    read : (found : Found) → (harvested_as d m e t x y found).mends ≡ d.mends
    read (founds.Ended n what) = ends n what (end_of x.desc.kind what) refl
    read _ = refl

    waiting : (b : Bool) → (cond b (served (harvested_as d m e t x y found) e) d).mends ≡ d.mends
    waiting true = read found
    waiting false = refl

pub harvest_bulk : (d : DriverContent) (m : Mem) (e t : ℕ) (x : Endpoint) (y : Transfer) → slice_get d.endpoints e ≡ Some x → slice_get d.transfers t ≡ Some y → x.ended ≡ None → x.gone ≡ false → x.desc.kind ≡ kinds.Bulk
    → (found : Found) → ((n : ℕ) → found ≢ founds.Served n) → EndsOtherwise x found → IsHarvested d (after_harvest d m e t found (Some x) (Some y))
harvest_bulk d m e t x y here there goes alive bulk found not other =
    let f = after_harvest d m e t found (Some x) (Some y) in
    let k = harvest_keeps d m e t x y here there goes alive found not other in
    record {
      keeps = record {
        ends = k.ends;
        moves = λ old t y at. let w = k.transfers t y at in moves_on d f w.one y w.endpoint w.sort k.descs (old t w.one w.here);
        command = k.command;
        mends = harvest_mends d m e t x y found bulk;
        unlinks = k.unlinks;
        removals = k.removals;
      };
      turns = kept_turns d f k;
      waiting = k.waiting;
      rung = k.rung;
      cleared = k.cleared;
    }
