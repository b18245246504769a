-- An event of a command by which it lends its queue or a transfer, or stores a word of either: whoever stands in the frame list stands there still, and what was
-- unlinked in this microframe is what it was.
use Rattle.std.proofs.Common.{◌≡◌, ℕ, zero, suc, ◌/◌, Bool, true, false, cond, List, [], ◌∷◌, length, slice_get, Option, Some, inl, nat_lt, ⊎_elim, ap, refl, sym, subst, ◌∙◌}
use Rattle.std.specs.Prelude.{is_none}
use Rattle.std.specs.List.{list_any}
use Rattle.law_world.proofs.Common2.{linking_led}
use Rattle.law_common.proofs.Booleans.{either_if}
use Rattle.law_descriptors.proofs.Common.{chain_unchain}
use Rattle.mem_runs.specs.Book.{Book}
use Rattle.drv_chains.specs.declared.members.Member.{Member}
use Rattle.drv_chains.specs.Chains.{Schedule}
use Rattle.drv_members.specs.Members.{IsKept}
use Rattle.drv_periodic.specs.Periodic.{after_store}
use Rattle.drv_periodic_table.specs.declared.content.DescriptorNote.{DescriptorNote}
use Rattle.drv_periodic_table.specs.declared.content.Removal.{Removal}
use Rattle.drv_periodic_table.specs.Periodic.{PeriodicContent, note_at}
use Rattle.drv_periodic_table.specs.Linking.{with_first, begun_next}
use Rattle.drv_table.specs.declared.content.Command.{Command}
use Rattle.drv_table.specs.declared.content.Command.TheVariants as unfinished
use Rattle.drv_table.specs.declared.rows.DriverRow.TheVariants as rows
use Rattle.drv_table.specs.DriverContent.{DriverContent}
use Rattle.drv_table.specs.Commands.{events_of, no_command, or_finished, linked_on, advanced_by}
use Rattle.law_frames.specs.Met.{Kind}
use Rattle.law_descriptors.specs.Meeting.{kind_of_descriptor, queue_begins, descriptor_begins, kind_by, kind_at, standing_in, standing}
use Rattle.claims_driver.specs.Unlinked.{led_in}
use Rattle.law_descriptors.specs.Removed.{IsRemovedSince, IsUnchainedNow}
use Rattle.law_descriptors.specs.Recent.{AreRecent}

-- ---- a member begins to be linked

-- what is told of the members to which a word may lead
record StaysLed (q new : PeriodicContent) : Type 0 where
  led : led_in new.list ≡ led_in q.list
  notes : new.notes ≡ q.notes
  removals : new.removals ≡ q.removals

first_led : (q : PeriodicContent) (xs : List Member) → IsKept q.list.members.schedule → StaysLed q (with_first false q xs)
first_led q [] kept = record { led = refl; notes = refl; removals = refl }
first_led q (x ∷ xs) kept = record { led = linking_led q.list x kept; notes = refl; removals = refl }

next_led : (q : PeriodicContent) → IsKept q.list.members.schedule → StaysLed q (begun_next false q)
next_led q kept =
    either_if (StaysLed q) (is_none q.list.work) (with_first false q q.queued) q (λ e. first_led q q.queued kept) (λ e. record { led = refl; notes = refl; removals = refl })

still_stands : (q new : PeriodicContent) (n : ℕ) → StaysLed q new → standing_in new n ≡ standing_in q n
still_stands q new n k =
    ap (λ (s : Schedule). kind_at new s n) k.led
    ∙ ap (λ (notes : List DescriptorNote). kind_by (list_any (queue_begins n) (led_in q.list).queues) (list_any (descriptor_begins n) (led_in q.list).descriptors) (kind_of_descriptor (note_at notes (n / 32)).split)) k.notes

-- ---- what such an event leaves

-- whom the walk meets, and what is recent
pub record StaysMet (recent : ℕ → Option Kind) (index : ℕ) (d new : DriverContent) : Type 0 where
  pub stands : (n : ℕ) → standing new n ≡ standing d n
  pub recent_are : AreRecent new index recent

-- no members are unlinked
abbrev Unchains : Option Command → Type 0
Unchains o = (e : ℕ) → o ≡ Some (unfinished.Unchain e) → ⊥

since_alone : (recent : ℕ → Option Kind) (index : ℕ) (d new : DriverContent) → Unchains d.command → new.endpoints ≡ d.endpoints → new.transfers ≡ d.transfers → new.periodic.removals ≡ d.periodic.removals
    → AreRecent d index recent → AreRecent new index recent
since_alone recent index d new none ends ts removals are n kind on =
    ⊎_elim (λ (s : IsRemovedSince d.endpoints d.transfers d.periodic.removals index n).
    inl (subst (λ xs. IsRemovedSince xs new.transfers new.periodic.removals index n) (sym ends)
    (subst (λ ys. IsRemovedSince d.endpoints ys new.periodic.removals index n) (sym ts) (subst (λ (rs : List Removal). IsRemovedSince d.endpoints d.transfers rs index n) (sym removals) s))))
    (λ (now : IsUnchainedNow d.endpoints d.transfers d.command n). absurd (none now.endpoint now.command)) (are n kind on)

open_unchain : (o : Option Command) (queue e : ℕ) → o ≡ Some (unfinished.Open queue) → o ≡ Some (unfinished.Unchain e) → ⊥
open_unchain o queue e one two = cc

publish_unchain : (o : Option Command) (b : ℕ) (words : List ℕ) (e : ℕ) → o ≡ Some (unfinished.Publish b words) → o ≡ Some (unfinished.Unchain e) → ⊥
publish_unchain o b words e one two = cc

module _ (recent : ℕ → Option Kind) (index : ℕ) (d : DriverContent) (book : Book) (are : AreRecent d index recent) where
  abbrev g : DriverContent
  g = record d { book = book }

  -- the event is one of a command that links no members
  counted : (n : ℕ) (b : Bool) → Unchains d.command → StaysMet recent index d (cond b (record g { made = n }) (no_command g))
  counted n true none = record { stands = λ a. refl; recent_are = since_alone recent index d (record g { made = n }) none refl refl refl are }
  counted n false none = record { stands = λ a. refl; recent_are = since_alone recent index d (no_command g) none refl refl refl are }

  pub open_step : (queue : ℕ) → d.command ≡ Some (unfinished.Open queue) → StaysMet recent index d (advanced_by g d.command)
  open_step queue is =
      subst (λ (o : Option Command). StaysMet recent index d (advanced_by g o)) (sym is)
      (counted (suc d.made) (nat_lt (suc d.made) (length (events_of (unfinished.Open queue)))) (λ e. open_unchain d.command queue e is))

  pub publish_step : (b : ℕ) (words : List ℕ) → d.command ≡ Some (unfinished.Publish b words) → StaysMet recent index d (advanced_by g d.command)
  publish_step b words is =
      subst (λ (o : Option Command). StaysMet recent index d (advanced_by g o)) (sym is)
      (counted (suc d.made) (nat_lt (suc d.made) (length (events_of (unfinished.Publish b words)))) (λ e. publish_unchain d.command b words e is))

  abbrev then : DriverContent
  then = record g { made = 1; periodic = begun_next false d.periodic }

  chain_is : d.made ≡ 0 → advanced_by g (Some unfinished.Chain) ≡ or_finished then unfinished.Chain
  chain_is at =
      ap (λ (n : ℕ). cond (nat_lt (suc n) 1) (record g { made = suc d.made }) (linked_on g unfinished.Chain)) at
      ∙ ap (λ (n : ℕ). or_finished (record g { made = 1; periodic = begun_next false (record d.periodic { list = cond (nat_lt n 1) d.periodic.list (after_store d.periodic.list) }) }) unfinished.Chain) at

  chain_step : d.command ≡ Some unfinished.Chain → d.made ≡ 0 → IsKept d.periodic.list.members.schedule → StaysMet recent index d (advanced_by g d.command)
  chain_step is at kept =
      subst (λ (o : Option Command). StaysMet recent index d (advanced_by g o)) (sym is) (subst (StaysMet recent index d) (sym (chain_is at)) (by (is_none then.periodic.list.work)))
    where
      led : StaysLed d.periodic (begun_next false d.periodic)
      led = next_led d.periodic kept

      none : Unchains d.command
      none e unchain = chain_unchain d.command e is unchain

      by : (b : Bool) → StaysMet recent index d (cond b (no_command then) then)
      by true = record {
        stands = λ n. still_stands d.periodic (begun_next false d.periodic) n led;
        recent_are = since_alone recent index d (no_command then) none refl refl led.removals are;
      }
      by false = record {
        stands = λ n. still_stands d.periodic (begun_next false d.periodic) n led;
        recent_are = since_alone recent index d then none refl refl led.removals are;
      }

  -- ---- the lend

  lend_by : (c : Command) → d.command ≡ Some c → slice_get (events_of c) d.made ≡ Some rows.Lend → IsKept d.periodic.list.members.schedule → StaysMet recent index d (advanced_by g d.command)
  lend_by (unfinished.Open queue) is next kept = open_step queue is
  lend_by (unfinished.Publish b words) is next kept = publish_step b words is
  lend_by (unfinished.Unlink e b link) is next kept = absurd (unlink_lends d.made next)
    where
      unlink_lends : (n : ℕ) → slice_get (events_of (unfinished.Unlink e b link)) n ≡ Some rows.Lend → ⊥
      unlink_lends zero on = cc
      unlink_lends (suc n) on = cc
  lend_by unfinished.Chain is next kept = chain_step is (chain_first d.made next) kept
    where
      chain_first : (n : ℕ) → slice_get (events_of unfinished.Chain) n ≡ Some rows.Lend → n ≡ 0
      chain_first zero on = refl
      chain_first (suc n) on = absurd (cc)
  lend_by (unfinished.Iso e t count) is next kept = absurd (iso_lends d.made next)
    where
      iso_lends : (n : ℕ) → slice_get (events_of (unfinished.Iso e t count)) n ≡ Some rows.Lend → ⊥
      iso_lends zero on = cc
      iso_lends (suc zero) on = cc
      iso_lends (suc (suc n)) on = cc
  lend_by (unfinished.Unchain e) is next kept = absurd (cc)

pub lend_step : (recent : ℕ → Option Kind) (index : ℕ) (d : DriverContent) (book : Book) (c : Command) → AreRecent d index recent → d.command ≡ Some c → slice_get (events_of c) d.made ≡ Some rows.Lend
    → IsKept d.periodic.list.members.schedule → StaysMet recent index d (advanced_by (record d { book = book }) d.command)
lend_step recent index d book c are is next kept = lend_by recent index d book are c is next kept
