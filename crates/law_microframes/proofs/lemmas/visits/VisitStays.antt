-- Links that lead down do so while the words of those that are kept stay; and what was visited stays behind the walk, whatever else comes.
use Rattle.std.proofs.Common.{◌≡◌, ℕ, ◌<◌, ◌≤◌, Bool, true, false, if◌then◌else◌, List, [], ◌∷◌, Option, Some, ap, refl, sym, subst, ◌∙◌}
use Rattle.std.specs.Prelude.{◌||◌, nat_lt}
use Rattle.std.specs.List.{AllByRecursion}
use Rattle.std.proofs.lemmas.Bool.{lt-ltb}
use Rattle.word_mem.specs.Memory.{Mem}
use Rattle.drv_chains.specs.declared.members.Member.{Member}
use Rattle.drv_chains.specs.Chains.{Schedule, stands_in}
use Rattle.drv_members.specs.Members.{is_linked, without_member}
use Rattle.drv_periodic.specs.declared.work.Work.{Work}
use Rattle.drv_table.specs.DriverContent.{DriverContent}
use Rattle.claims_driver.specs.FrameWords.{HasMember}
use Rattle.hc_core.specs.Controller.{Control}
use Rattle.law_frames.specs.Met.{Kind}
use Rattle.claims_driver.specs.Unlinked.{is_led, led_by, led}
use Rattle.law_descriptors.specs.Meeting.{kind_of, standing, met}
use Rattle.law_descriptors.specs.RowLaws.{HasFrames}
use Rattle.law_descriptors.proofs.Finding.{member_kind}
use Rattle.law_descriptors.proofs.Leading.{led_spread}
use Rattle.law_microframes.specs.visits.Ranks.{next_of, height_to, IsRanked}
use Rattle.claims_world.specs.Visits.{begins, frame_in}
use Rattle.law_microframes.specs.visits.Visited.{IsNext, WasVisited, IsBehind}

-- ---- a member to which a word may lead stands

pub led_stands : (m : Mem) (d : DriverContent) (x : Member) → HasFrames m d → is_linked (led d) x ≡ true → standing d (begins x) ≡ Some (kind_of d.periodic x)
led_stands m d x frames on =
    member_kind d.periodic d.periodic.list.list (led d) x (led_spread d.periodic.list.list d.periodic.list.members.schedule d.periodic.list.work frames.spread) on

-- so does one that is being linked, from the first of its stores on
led_true : (s : Schedule) (w : Work) (b : Bool) → b ≡ true → is_linked s w.member ≡ true → is_linked (if b then s else without_member s w.member) w.member ≡ true
led_true s w true is on = on
led_true s w false is on = absurd (cc)

is_led_by : (b : Bool) (n : ℕ) → 1 ≤ n → (b || nat_lt 0 n) ≡ true
is_led_by true n made = refl
is_led_by false n made = lt-ltb 0 n made

pub linking_is_led : (m : Mem) (d : DriverContent) (w : Work) → HasFrames m d → d.periodic.list.work ≡ Some w → 1 ≤ w.made → is_linked (led d) w.member ≡ true
linking_is_led m d w frames is made =
    let s : Schedule = d.periodic.list.members.schedule in
    let has : HasMember s (Some w) = subst (HasMember s) is frames.list.order.member in
    subst (λ (o : Option Work). is_linked (led_by s o) w.member ≡ true) (sym is) (led_true s w (is_led w) (is_led_by w.removes w.made made) has.1)

-- ---- the links

pub ranked_stays : (m new : Mem) (d : DriverContent) (kept : ℕ → Bool) (height : ℕ → ℕ) (who : ℕ → Member) → HasFrames m d → ((n : ℕ) → kept n ≡ true → next_of new n ≡ next_of m n)
    → IsRanked m d kept height who → IsRanked new d kept height who
ranked_stays m new d kept height who frames same k = record {
  standing_are = k.standing_are;
  closed = λ n to on is. k.closed n to on (sym (same n on) ∙ is);
  falls = λ n on. subst (λ (o : Option ℕ). height_to height o < height n) (sym (same n on)) (k.falls n on);
  shares = λ n to f below on is. k.shares n to f below on (sym (same n on) ∙ is);
  named = k.named;
  stand = k.stand;
  linking = λ w is adds made n on apart alike.
      (let there : kept (begins w.member) ≡ true
      = k.standing_are (begins w.member) (kind_of d.periodic w.member) (led_stands m d w.member frames (linking_is_led m d w frames is made)) in
      k.linking w is adds made n on apart (sym (same n on) ∙ alike ∙ same (begins w.member) there));
}

-- ---- what was visited

module _ (d new : DriverContent) (left later : ℕ → Option Kind) (kept now : ℕ → Bool) (height tall : ℕ → ℕ) (who whom : ℕ → Member)
    (met_stays : (v : ℕ) (kind : Kind) → met d left v ≡ Some kind → (to : Kind) × (met new later v ≡ Some to))
    (met_as : (v : ℕ) (kind : Kind) → met d left v ≡ Some kind → whom v ≡ who v)
    (kept_stays : (k : ℕ) → kept k ≡ true → now k ≡ true)
    (kept_as : (k : ℕ) → kept k ≡ true → whom k ≡ who k)
    (lower : (k v : ℕ) (kind : Kind) → kept k ≡ true → met d left v ≡ Some kind → height k < height v → tall k < tall v) where
  were_stay : (frame : ℕ) (vs : List ℕ) → AllByRecursion (WasVisited d left who frame) vs → AllByRecursion (WasVisited new later whom frame) vs
  were_stay frame [] all = tt
  were_stay frame (v ∷ vs) all =
      let a = all.0 in
      let to = met_stays v a.kind a.is_met in
      let same : whom v ≡ who v = met_as v a.kind a.is_met in (
        record {
          kind = to.0;
          is_met = to.1;
          named = ap begins same ∙ a.named;
          stands = ap (stands_in frame) same ∙ a.stands;
        },
        were_stay frame vs all.1,
      )

  below_stays : (frame k : ℕ) (vs : List ℕ) → kept k ≡ true → AllByRecursion (WasVisited d left who frame) vs → AllByRecursion (λ v. height k < height v) vs
      → AllByRecursion (λ v. tall k < tall v) vs
  below_stays frame k [] on all below = tt
  below_stays frame k (v ∷ vs) on all below = (lower k v all.0.kind on all.0.is_met below.0, below_stays frame k vs on all.1 below.1)

  pub behind_stays : (c : Control) (vs : List ℕ) → IsBehind d left kept height who c vs → IsBehind new later now tall whom c vs
  behind_stays c vs b = record {
    once = b.once;
    were = were_stay (frame_in c.frame.index) vs b.were;
    next = λ k part is.
        (let n : IsNext kept height who (frame_in c.frame.index) vs k = b.next k part is in
        record {
          is_kept = kept_stays k n.is_kept;
          stands = ap (stands_in (frame_in c.frame.index)) (kept_as k n.is_kept) ∙ n.stands;
          below = below_stays (frame_in c.frame.index) k vs n.is_kept b.were n.below;
        });
  }
