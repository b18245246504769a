-- From the Begin of a start-split that was due to the last complete-split of the frame: the host heard what the device answered, and where
-- that moves bytes of what its queue head came to then they moved (EHCI 1.0, 4.12.2; USB 2.0, 11.18 and 11.20).
use Rattle.std.proofs.Common.{◌≡◌, ◌≢◌, ℕ, zero, suc, ◌*◌, ◌≤◌, ◌<◌, List, ap, refl, sym, subst, ◌∙◌, arith}
use Rattle.std.proofs.Common.{⊎_elim, inl, inr, ◌⊎◌}
use Rattle.std.proofs.lemmas.Bool.{cases_eq}
use Rattle.usb_base.specs.declared.endpoints.EpDesc.{EpDesc}
use Rattle.script_types.specs.declared.scripts.Script.{Script}
use Rattle.script_text.specs.Faults.{Spells}
use Rattle.drv_table.specs.Words.{is_high}
use Rattle.hc_interrupt.specs.Turns.{microframe_of}
use Rattle.bus_wire.specs.Bus.{fixed_of}
use Rattle.bus_world.specs.Budgets.{moment}
use Rattle.bus_world.specs.World.{World}
use Rattle.claims_world.specs.BelowStreams.{IsSparedAt}
use Rattle.claims_world.specs.DueAtBegin.{begun, IsUncancelled}
use Rattle.claims_world.specs.Results.{IsLastIn}
use Rattle.claims_world.specs.SplitFrames.{IsOneFrame, HasCome, IsHeardThroughout, StartsAreDone}
use Rattle.claims_world.specs.SplitsAtBegin.{IsStartDue}
use Rattle.claims_world.specs.Visits.{IsPastFrames}
use Rattle.law_world.proofs.lemmas.memory.Together.{texts_stay_mixed}
use Rattle.law_microframes.specs.due.repeats.Hearing.{IsHeardOn}
use Rattle.law_microframes.proofs.lemmas.due.lemmas.repeats.AskedHeads.{no_control}
use Rattle.law_reports.specs.due_at_begin.Splits.{TextsKeepSplitFrames}
use Rattle.claims_world.specs.SplitFrames.{WasDoneOf, StartsAreTaken}
use Rattle.law_reports.proofs.lemmas.due_at_begin.BegunMoments.{BeginsNow, begun_then}
use Rattle.law_reports.proofs.lemmas.due_at_begin.RestingMicroframes.{before_then}
use Rattle.law_reports.proofs.lemmas.due_at_begin.RestingMoments.{begin_part}
use Rattle.law_reports.proofs.lemmas.due_at_begin.SplitFrames.{no_bit_yet, completes_follow, completes_are_answered}
use Rattle.law_reports.proofs.lemmas.due_at_begin.SplitHeads.{not_high}
use Rattle.law_reports.proofs.lemmas.due_at_begin.SplitRuns.{are_known}
use Rattle.law_reports.proofs.lemmas.due_at_begin.SplitsTold.{splits_are_done, devices_are_heard}
use Rattle.law_reports.proofs.lemmas.due_at_begin.StartCame.{IsStartHeard, start_has_come}
use Rattle.law_reports.proofs.lemmas.due_at_begin.WrittenMoments.{since_at}

-- ---- the end of a microframe

-- the next microframe begins with the event behind moment `at`
record EndsWithin (s : Script) (i k : ℕ) : Type 0 where
  at : ℕ
  from : i ≤ at
  before : at < k
  same : begun s at ≡ begun s i
  next : BeginsNow s at

abbrev Within : Script → ℕ → ℕ → Type 0
Within s i k = (begun s k ≡ begun s i) ⊎ EndsWithin s i k

one_more : (s : Script) (i k : ℕ) → i ≤ k → Within s i k → Within s i (suc k)
one_more s i k less (inl same) =
    ⊎_elim {C = Within s i (suc k)} (λ (on : begun s (suc k) ≡ begun s k). inl (on ∙ same))
    (λ (n : BeginsNow s k). inr (record { at = k; from = less; before = omega arith; same = same; next = n }))
    (begun_then s k)
one_more s i k less (inr e) =
    let before = e.before in
    inr (record { at = e.at; from = e.from; before = omega (arith, before); same = e.same; next = e.next })

within : (s : Script) (i k : ℕ) → i ≤ k → Within s i k
within s i zero less = let none : 0 ≡ i = omega (arith, less) in inl (ap (begun s) none)
within s i (suc k) less =
    ⊎_elim {C = Within s i (suc k)} (λ (here : suc k ≡ i). inl (ap (begun s) here))
    (λ (apart : suc k ≢ i).
    let from : i ≤ k = omega (arith, less, apart) in
    one_more s i k from (within s i k from))
    (cases_eq (suc k) i)

module _ (text : List ℕ) (s : Script) (spelled : Spells text s) where
  -- ---- from the last moment of the microframe of the start-split on

  module _ (j k e q : ℕ) (less : j ≤ k) (past : IsPastFrames (moment s j).world) (d : IsStartDue (fixed_of s) (begun s j) e q)
      (one : IsOneFrame s j k) (spared : (m : ℕ) → begun s m ≡ begun s j → IsSparedAt s d.split.there.endpoint.desc m)
      (through : IsHeardThroughout s j k d.split.there.endpoint.desc) where
    uncancelled : (n : ℕ) → j ≤ n → IsUncancelled (moment s n).world.driver e → IsUncancelled (moment s j).world.driver e
    uncancelled zero from off =
        let none : 0 ≡ j = omega (arith, from) in subst (λ (m : ℕ). IsUncancelled (moment s m).world.driver e) none off
    uncancelled (suc n) from off =
        ⊎_elim {C = IsUncancelled (moment s j).world.driver e}
        (λ (here : suc n ≡ j). subst (λ (m : ℕ). IsUncancelled (moment s m).world.driver e) here off)
        (λ (apart : suc n ≢ j).
        uncancelled n (omega (arith, from, apart)) (before_then text s spelled e q d.split.placement d.split.queue n off))
        (cases_eq (suc n) j)

    module _ (off : IsUncancelled (moment s j).world.driver e) where
      abbrev its : EpDesc
      its = d.split.there.endpoint.desc

      heard_on : IsHeardOn (fixed_of s) (moment s j).world.bus d.split.there.endpoint.desc
      heard_on =
          let o = since_at text s spelled j e q d.split.placement d.split.there d.split.active off in
          let same : o.frames.endpoint.desc ≡ its = o.same d.split.there.endpoint d.split.there.here in
          subst (IsHeardOn (fixed_of s) (moment s j).world.bus) same
          ((are_known text s spelled j).hears e o.frames.endpoint o.frames.here
          (ap (λ (y : EpDesc). is_high y.speed) same ∙ not_high its.speed d.split.classic)
          (no_control o.frames.endpoint.desc ((texts_stay_mixed text s spelled j).mixed.turns.kinds_fit e o.frames.endpoint o.frames.here)
          o.frames.kind))

      start_heard : IsStartHeard s (begun s j) e q
      start_heard = record {
        due = d;
        hub = heard_on.hub;
        behind = heard_on.behind;
        heard = through.heard j (omega arith) less;
        spared = spared;
      }

      come : HasCome (moment s j).world.bus d.split.there.endpoint.desc
      unfolding start_heard
      come = start_has_come text s spelled j e q past (one.few j (omega arith) less) start_heard off

    done_from : IsUncancelled (moment s k).world.driver e
        → IsLastIn d.split.placement.cmask (microframe_of (begun s k).control.frame.index) → IsPastFrames (moment s k).world
        → WasDoneOf d.works s j (suc k) (32 * q) d.split.there.endpoint.desc
    done_from off last over =
        splits_are_done text s spelled j k e q less past d (come (uncancelled k less off)) one through off last over

  -- ---- the law

  module _ (i k e q : ℕ) (one : IsOneFrame s i k) (off : IsUncancelled (moment s k).world.driver e) (over : IsPastFrames (moment s k).world)
      (x : EndsWithin s i k) where
    past_then : IsPastFrames (moment s x.at).world
    past_then on =
        let w : World = (moment s x.at).world in
        absurd (begin_part w.registers.run w.registers w.control.frame w.control.part x.next.row on)

    later_one : IsOneFrame s x.at k
    later_one =
        let from = x.from in
        let before = x.before in
        record {
          same = λ m up under. one.same m (omega (arith, from, up)) under ∙ sym (one.same x.at from (omega (arith, before)));
          free = λ m up under. one.free m (omega (arith, from, up)) under;
          few = λ m up under. one.few m (omega (arith, from, up)) under;
        }

    abbrev DoneFrom : World → Type 0
    DoneFrom b = (d : IsStartDue (fixed_of s) b e q) → ((m : ℕ) → begun s m ≡ b → IsSparedAt s d.split.there.endpoint.desc m)
        → IsHeardThroughout s i k d.split.there.endpoint.desc
        → IsLastIn d.split.placement.cmask (microframe_of (begun s k).control.frame.index)
        → WasDoneOf d.works s i (suc k) (32 * q) d.split.there.endpoint.desc

    from_then : DoneFrom (begun s x.at)
    from_then d spared through last =
        let from = x.from in
        let before = x.before in
        let y = done_from x.at k e q (omega (arith, before)) past_then d later_one spared
        (record {
          spared = λ m up under. through.spared m (omega (arith, from, up)) under;
          heard = λ m up under. through.heard m (omega (arith, from, up)) under;
        }) off last over in
        let start = y.from in
        record { at = y.at; from = omega (arith, from, start); before = y.before; of = y.of }

    from_begin : DoneFrom (begun s i)
    from_begin = subst DoneFrom x.same from_then

starts_are_taken : (text : List ℕ) (s : Script) → Spells text s → StartsAreTaken s
starts_are_taken text s spelled i k e q less d one heard off last over =
    ⊎_elim {C = WasDoneOf d.works s i (suc k) (32 * q) d.split.there.endpoint.desc}
    (λ (same : begun s k ≡ begun s i). absurd (no_bit_yet text s spelled i e q d k same last.here))
    (λ (x : EndsWithin s i k). from_begin text s spelled i k e q one off over x d heard.begins heard.through last)
    (within s i k less)

starts_are_done : (text : List ℕ) (s : Script) → Spells text s → StartsAreDone s
starts_are_done text s spelled i k e q less d one heard off last over =
    let x : WasDoneOf d.works s i (suc k) (32 * q) d.split.there.endpoint.desc =
    starts_are_taken text s spelled i k e q less d one heard off last over in
    record { at = x.at; from = x.from; before = x.before; done = x.of.done }

pub texts_keep_split_frames : TextsKeepSplitFrames
texts_keep_split_frames = λ text s spelled. record {
  follow = completes_follow text s spelled;
  answered = completes_are_answered text s spelled;
  told = devices_are_heard text s spelled;
  done = starts_are_done text s spelled;
  taken = starts_are_taken text s spelled;
}
