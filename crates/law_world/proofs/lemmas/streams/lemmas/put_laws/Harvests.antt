-- What is owed after a harvest.
use Rattle.std.proofs.Common.{◌≡◌, ◌≢◌, ℕ, ◌-◌, ◌≤◌, ◌&&◌, ◌||◌, not, nat_eq, nat_le, Bool, true, false, if◌then◌else◌, set, slice_get, Option, Some, None, ap, refl, sym, subst, ◌∙◌, ⊎_elim, inl, inr, arith}
use Rattle.std.specs.Prelude.{◌⊎◌}
use Rattle.std.proofs.lemmas.Bool.{cases_eq, true≢false}
use Rattle.std.proofs.lemmas.Bool.Decides.{nat_tests}
use Rattle.std.proofs.lemmas.Option.{same_Some}
use Rattle.law_common.proofs.Lists.{set_here, set_there}
use Rattle.usb_base.specs.declared.endpoints.EndCause.{EndCause}
use Rattle.usb_base.specs.declared.endpoints.EndCause.TheVariants as causes
use Rattle.usb_base.specs.declared.packets.EpKind.{EpKind}
use Rattle.usb_base.specs.declared.packets.EpKind.TheVariants as kinds
use Rattle.usb_base.specs.declared.reports.What.{What}
use Rattle.usb_base.specs.declared.reports.What.TheVariants as lines
use Rattle.word_mem.specs.Memory.{Mem}
use Rattle.drv_table.specs.declared.content.Endpoint.{Endpoint}
use Rattle.drv_table.specs.declared.content.Transfer.{Transfer}
use Rattle.drv_table.specs.declared.rows.Found.{Found}
use Rattle.drv_table.specs.declared.rows.Found.TheVariants as founds
use Rattle.drv_table.specs.DriverContent.{DriverContent, next_after}
use Rattle.drv_table.specs.Harvests.{note_at, noted, token_in, moved_of, is_get, found_in, halt_of, done_of, ends_by, end_of, is_stall}
use Rattle.drv_table.specs.Harvesting.{served, told_with, after_end, harvested_as}
use Rattle.claims_driver.specs.Owners.{note_in}
use Rattle.law_driver.proofs.lemmas.chained_transfers.Harvested.{note_same}
use Rattle.law_world.proofs.lemmas.streams.lemmas.put_laws.HeldAlike.{SameNotes, noted_same}

-- ---- what the row leaves

-- of a transfer that is no get: it is read on, or reported with its last qTD, or ends its endpoint
pub data HowRead (d : DriverContent) (m : Mem) (y z : Transfer) (w : Endpoint) : Type 0 where
  on : z ≡ record y { place = (note_at d.notes y.place).next; left = y.left - 1 } → w.ended ≡ None → (token_in m y.place).halted ≡ false → HowRead d m y z w
  done : z ≡ record y { reported = true } → w.ended ≡ None → y.left ≡ 1 → (token_in m y.place).halted ≡ false → HowRead d m y z w
  halts : (cause : EndCause) → z ≡ record y { reported = true } → w.ended ≡ Some cause → (token_in m y.place).halted ≡ true → HowRead d m y z w

pub record ReadsTo (d new : DriverContent) (m : Mem) (e t : ℕ) (x : Endpoint) (y : Transfer) : Type 0 where
  pub transfer : Transfer
  pub endpoint : Endpoint
  pub transfers : new.transfers ≡ set d.transfers t transfer
  pub its_endpoint : transfer.endpoint ≡ y.endpoint
  pub its_release : transfer.released ≡ y.released
  pub ends : (f : ℕ) (v : Endpoint) → slice_get new.endpoints f ≡ Some v → ((f ≡ e) × (v ≡ endpoint)) ⊎ ((f ≢ e) × (slice_get d.endpoints f ≡ Some v))
  pub queue : endpoint.queue ≡ x.queue
  pub desc : endpoint.desc ≡ x.desc
  pub gone : endpoint.gone ≡ x.gone
  pub cancelled : endpoint.cancelled ≡ x.cancelled
  pub here : slice_get new.endpoints e ≡ Some endpoint
  pub beside : (f : ℕ) (v : Endpoint) → f ≢ e → slice_get d.endpoints f ≡ Some v → slice_get new.endpoints f ≡ Some v
  pub notes : SameNotes d.notes new.notes
  pub views : (c : ℕ) → note_in new.notes c ≡ note_in d.notes c
  pub command : new.command ≡ d.command
  pub how : is_get y.sort ≡ false → HowRead d m y transfer endpoint

module _ (d : DriverContent) (m : Mem) (e t : ℕ) (x : Endpoint) (y : Transfer) (here : slice_get d.endpoints e ≡ Some x) (goes : x.ended ≡ None) (bulk : x.desc.kind ≡ kinds.Bulk) (some : 1 ≤ y.left) (off : (token_in m y.place).active ≡ false) where
  abbrev count : ℕ
  count = moved_of (note_at d.notes y.place).told (token_in m y.place).total

  abbrev row_of : Found → DriverContent
  row_of found = served (harvested_as d m e t x y found) e

  ends_same : (f : ℕ) (v : Endpoint) → slice_get d.endpoints f ≡ Some v → ((f ≡ e) × (v ≡ x)) ⊎ ((f ≢ e) × (slice_get d.endpoints f ≡ Some v))
  ends_same f v at = ⊎_elim (λ (own : f ≡ e). inl (own, same_Some v x (sym at ∙ ap (slice_get d.endpoints) own ∙ here))) (λ (differs : f ≢ e). inr (differs, at)) (cases_eq f e)

  ends_set : (w : Endpoint) (f : ℕ) (v : Endpoint) → slice_get (set d.endpoints e w) f ≡ Some v → ((f ≡ e) × (v ≡ w)) ⊎ ((f ≢ e) × (slice_get d.endpoints f ≡ Some v))
  ends_set w f v at =
      ⊎_elim (λ (own : f ≡ e). inl (own, same_Some v w (sym at ∙ ap (slice_get (set d.endpoints e w)) own ∙ set_here d.endpoints e x w here)))
      (λ (differs : f ≢ e). inr (differs, sym (set_there d.endpoints e f w differs) ∙ at)) (cases_eq f e)

  moved_row : (is_get y.sort ≡ false → (token_in m y.place).halted ≡ false) → ReadsTo d (row_of (founds.Moved count)) m e t x y
  moved_row halted = record {
    transfer = record y { place = (note_at d.notes y.place).next; left = y.left - 1 };
    endpoint = x;
    transfers = refl;
    its_endpoint = refl;
    its_release = refl;
    ends = ends_same;
    here = here;
    beside = λ f v differs at. at;
    queue = refl;
    desc = refl;
    gone = refl;
    cancelled = refl;
    notes = noted_same d.notes y.place count;
    views = note_same d.notes y.place count;
    command = refl;
    how = λ put. on refl goes (halted put);
  }

  done_row : (is_get y.sort ≡ false → (token_in m y.place).halted ≡ false) → (is_get y.sort ≡ false → y.left ≡ 1) → ReadsTo d (row_of (founds.Ended count lines.Done)) m e t x y
  done_row halted last = record {
    transfer = record y { reported = true };
    endpoint = record x { next = next_after (told_with d m t y lines.Done x.desc.name (noted d.notes y.place count)).transfers e t };
    transfers = refl;
    its_endpoint = refl;
    its_release = refl;
    ends = ends_set (record x { next = next_after (told_with d m t y lines.Done x.desc.name (noted d.notes y.place count)).transfers e t });
    here = set_here d.endpoints e x (record x { next = next_after (told_with d m t y lines.Done x.desc.name (noted d.notes y.place count)).transfers e t }) here;
    beside = λ f v differs at. set_there d.endpoints e f (record x { next = next_after (told_with d m t y lines.Done x.desc.name (noted d.notes y.place count)).transfers e t }) differs ∙ at;
    queue = refl;
    desc = refl;
    gone = refl;
    cancelled = refl;
    notes = noted_same d.notes y.place count;
    views = note_same d.notes y.place count;
    command = refl;
    how = λ put. done refl goes (last put) (halted put);
  }

  with_cause : (what : What) (cause : EndCause) → end_of x.desc.kind what ≡ Some cause → (token_in m y.place).halted ≡ true → ReadsTo d (row_of (founds.Ended count what)) m e t x y
  with_cause what cause end halted =
      let told : DriverContent = told_with d m t y what x.desc.name (noted d.notes y.place count) in
      subst (λ (o : Option EndCause). ReadsTo d (served (after_end told e t x (is_stall what) o) e) m e t x y) (sym end)
      (record {
        transfer = record y { reported = true };
        endpoint = record x { ended = Some cause };
        transfers = refl;
        its_endpoint = refl;
        its_release = refl;
        ends = ends_set (record x { ended = Some cause });
        here = set_here d.endpoints e x (record x { ended = Some cause }) here;
        beside = λ f v differs at. set_there d.endpoints e f (record x { ended = Some cause }) differs ∙ at;
        queue = refl;
        desc = refl;
        gone = refl;
        cancelled = refl;
        notes = noted_same d.notes y.place count;
        views = note_same d.notes y.place count;
        command = refl;
        how = λ put. halts cause refl refl halted;
      })

  halted_row : (what : What) → what ≡ halt_of (token_in m y.place) → (token_in m y.place).halted ≡ true → ReadsTo d (row_of (founds.Ended count what)) m e t x y
  halted_row what is halted = by_missed (token_in m y.place).missed (token_in m y.place).babble (nat_eq (token_in m y.place).cerr 0) is
    where
      by_stop : (o : What) (cause : EndCause) → end_of kinds.Bulk o ≡ Some cause → what ≡ o → ReadsTo d (row_of (founds.Ended count what)) m e t x y
      by_stop o cause end same = with_cause what cause (ap (λ (k : EpKind). end_of k what) bulk ∙ ap (end_of kinds.Bulk) same ∙ end) halted

      by_missed : (missed babble none : Bool) → what ≡ (if missed then lines.Miss else if babble then lines.Halt causes.Babble else if none then lines.Halt causes.Error else lines.Halt causes.Stall)
          → ReadsTo d (row_of (founds.Ended count what)) m e t x y
      by_missed true babble none same = by_stop lines.Miss causes.Miss refl same
      by_missed false true none same = by_stop (lines.Halt causes.Babble) causes.Babble refl same
      by_missed false false true same = by_stop (lines.Halt causes.Error) causes.Error refl same
      by_missed false false false same = by_stop (lines.Halt causes.Stall) causes.Stall refl same

  last_left : nat_le y.left 1 ≡ true → y.left ≡ 1
  last_left is = let low : y.left ≤ 1 = grind (arith, nat_tests) in omega (arith, low, some)

  by_end : (last get short : Bool) → nat_le y.left 1 ≡ last → is_get y.sort ≡ get → (token_in m y.place).halted ≡ false → ReadsTo d (row_of (done_of (last || (get && short)) count)) m e t x y
  by_end true get short is sort halted = done_row (λ put. halted) (λ put. last_left is)
  by_end false true true is sort halted = done_row (λ put. halted) (λ put. absurd (true≢false (sym sort ∙ put)))
  by_end false true false is sort halted = moved_row (λ put. halted)
  by_end false false short is sort halted = moved_row (λ put. halted)

  by_halted : (halted : Bool) → (token_in m y.place).halted ≡ halted
      → ReadsTo d (row_of (if halted then founds.Ended count (halt_of (token_in m y.place)) else done_of (nat_le y.left 1 || (is_get y.sort && not (nat_eq (token_in m y.place).total 0))) count)) m e t x y
  by_halted true is = halted_row (halt_of (token_in m y.place)) refl is
  by_halted false is = by_end (nat_le y.left 1) (is_get y.sort) (not (nat_eq (token_in m y.place).total 0)) refl refl is

  pub found_row : (found : Found) → found ≡ found_in y.sort (nat_le y.left 1) (note_at d.notes y.place) (token_in m y.place) → ReadsTo d (row_of found) m e t x y
  found_row found is =
      subst (λ (f : Found). ReadsTo d (row_of f) m e t x y) (sym is)
      (subst (λ (b : Bool). ReadsTo d (row_of (if b then founds.Active else if (token_in m y.place).halted then founds.Ended count (halt_of (token_in m y.place)) else done_of (ends_by y.sort (nat_le y.left 1) (token_in m y.place).total) count)) m e t x y)
      (sym off) (by_halted (token_in m y.place).halted refl))
