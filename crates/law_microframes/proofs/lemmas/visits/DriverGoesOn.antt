-- The visits go on where the driver stores nothing that a walk of the frames may meet: the same are kept, and what was visited is what it was.
use Rattle.std.proofs.Common.{◌≡◌, ℕ, ◌≤◌, ◌<◌, ◌⊎◌, true, false, Bool, inl, inr, List, [], ◌∷◌, Option, Some, None, if◌then◌else◌, ⊎_elim, ap, refl, sym, subst, ◌∙◌}
use Rattle.std.specs.Prelude.{◌||◌, nat_lt}
use Rattle.std.specs.List.{AllByRecursion}
use Rattle.word_mem.specs.Memory.{Mem}
use Rattle.bandwidth.specs.declared.placements.Placed.{Placed}
use Rattle.bandwidth.specs.Sums.{is_active}
use Rattle.drv_chains.specs.declared.members.Member.{Member}
use Rattle.drv_chains.specs.Chains.{Schedule}
use Rattle.drv_chains.specs.Stores.{is_made}
use Rattle.drv_chains.proofs.Linking.{weaken}
use Rattle.drv_members.specs.Members.{is_linked, without_member}
use Rattle.drv_periodic.specs.declared.work.Work.{Work}
use Rattle.drv_table.specs.DriverContent.{DriverContent}
use Rattle.hc_core.specs.declared.controller.MicroframePart.TheVariants.{Periodic}
use Rattle.hc_core.specs.Controller.{Control}
use Rattle.law_frame_words.specs.frame_words.InWords.{IsSpread}
use Rattle.law_frames.specs.Met.{Kind}
use Rattle.law_descriptors.specs.Meeting.{kind_of, standing, or_recent, met}
use Rattle.claims_driver.specs.FrameWords.{made_of}
use Rattle.claims_driver.specs.Unlinked.{led, led_by}
use Rattle.law_descriptors.specs.Recent.{AreRecent}
use Rattle.law_descriptors.proofs.Finding.{member_kind, IsMemberAt, member_at}
use Rattle.law_descriptors.proofs.Leading.{led_spread}
use Rattle.bus_world.specs.World.{World}
use Rattle.law_microframes.specs.visits.Belonging.{IsQueueAt, IsStillAt}
use Rattle.law_microframes.specs.visits.OneDescriptor.{IsActiveDescriptor}
use Rattle.law_microframes.specs.visits.Ranks.{name_of, next_of, height_to, IsRanked}
use Rattle.claims_world.specs.Visits.{begins, frame_in, HasVisited}
use Rattle.law_microframes.specs.visits.Visited.{WasVisited, IsBehind, IsActiveAs, IsFramedAs, NewIsFirst, StandsIn, IsToCome, GoesBack, LeavesNoneOut, VisitsGoOn, IsGoneOn, link_ahead}
use Rattle.law_microframes.proofs.lemmas.visits.NoneLeft.{way_stays}

-- the members of the list are spread
abbrev pub IsListSpread : DriverContent → Type 0
IsListSpread d = IsSpread d.periodic.list.list d.periodic.list.members.schedule

pub record IsStill (d : DriverContent) (n : ℕ) : Type 0 where
  pub kind : Kind
  pub is : standing d n ≡ Some kind

-- who begins there stands
pub linked_stands : (d : DriverContent) (x : Member) → IsListSpread d → is_linked (led d) x ≡ true → standing d (begins x) ≡ Some (kind_of d.periodic x)
linked_stands d x spread on =
    member_kind d.periodic d.periodic.list.list (led d) x (led_spread d.periodic.list.list d.periodic.list.members.schedule d.periodic.list.work spread) on

pub member_stands : (d : DriverContent) (n : ℕ) (kind : Kind) → standing d n ≡ Some kind → IsMemberAt (led d) n
member_stands d n kind is = member_at d.periodic (led d) n kind is

-- where each that may be led to may be still, each that stands stands still
pub stands_still : (d new : DriverContent) (n : ℕ) (kind : Kind) → IsListSpread new → ((x : Member) → is_linked (led d) x ≡ true → is_linked (led new) x ≡ true) → standing d n ≡ Some kind → IsStill new n
stands_still d new n kind spread more is =
    let at : IsMemberAt (led d) n = member_stands d n kind is in
    record { kind = kind_of new.periodic at.member; is = ap (standing new) (sym at.begins) ∙ linked_stands new at.member spread (more at.member at.linked) }

-- ---- what was visited

pub record IsMetStill (d : DriverContent) (left : ℕ → Option Kind) (n : ℕ) : Type 0 where
  pub kind : Kind
  pub is : met d left n ≡ Some kind

-- one that stood stands, or is left; and what was left is
pub met_still : (d new : DriverContent) (left later : ℕ → Option Kind) (n : ℕ) (kind : Kind) → met d left n ≡ Some kind → ((kind : Kind) → standing d n ≡ Some kind → IsMetStill new later n)
    → ((kind : Kind) → left n ≡ Some kind → IsMetStill new later n) → IsMetStill new later n
met_still d new left later n kind is stood gone = by (standing d n) refl is
  where
    by : (o : Option Kind) → standing d n ≡ o → or_recent o (left n) ≡ Some kind → IsMetStill new later n
    by None none on = gone kind on
    by (Some k) some on = stood k some

pub standing_is_met : (d : DriverContent) (left : ℕ → Option Kind) (n : ℕ) → IsStill d n → IsMetStill d left n
standing_is_met d left n s = record { kind = s.kind; is = ap (λ (o : Option Kind). or_recent o (left n)) s.is }

pub left_is_met : (d : DriverContent) (left : ℕ → Option Kind) (n : ℕ) (kind : Kind) → left n ≡ Some kind → IsMetStill d left n
left_is_met d left n kind is = by (standing d n) refl
  where
    by : (o : Option Kind) → standing d n ≡ o → IsMetStill d left n
    by None none = record { kind = kind; is = ap (λ (o : Option Kind). or_recent o (left n)) none ∙ is }
    by (Some k) some = record { kind = k; is = ap (λ (o : Option Kind). or_recent o (left n)) some }

pub visited_still : (d new : DriverContent) (left later : ℕ → Option Kind) (who : ℕ → Member) (frame v : ℕ) → ((kind : Kind) → met d left v ≡ Some kind → IsMetStill new later v)
    → WasVisited d left who frame v → WasVisited new later who frame v
visited_still d new left later who frame v still was =
    let s : IsMetStill new later v = still was.kind was.is_met in
    record { kind = s.kind; is_met = s.is; named = was.named; stands = was.stands }

-- ---- its endpoint is active in the frames of its member

pub active_still : (d new : DriverContent) (n : ℕ) (x : Member) → ((b : IsQueueAt new n) → IsStillAt b d) → IsActiveAs d n x → IsActiveAs new n x
active_still d new n x back active b f stands =
    let still : IsStillAt b d = back b in
    ap (λ (y : Placed). is_active y.placement f) (sym still.placed) ∙ active still.still f stands

pub were_active_still : (d new : DriverContent) (left : ℕ → Option Kind) (who : ℕ → Member) (frame : ℕ) (vs : List ℕ)
    → ((n : ℕ) → WasVisited d left who frame n → (b : IsQueueAt new n) → IsStillAt b d) → AllByRecursion (WasVisited d left who frame) vs → AllByRecursion (λ v. IsActiveAs d v (who v)) vs
    → AllByRecursion (λ v. IsActiveAs new v (who v)) vs
were_active_still d new left who frame [] back were all = tt
were_active_still d new left who frame (v ∷ vs) back were all =
    (active_still d new v (who v) (back v were.0) all.0, were_active_still d new left who frame vs back were.1 all.1)

-- the same may be led to, and nothing new is half linked
pub were_framed_still : (d new : DriverContent) (left : ℕ → Option Kind) (who : ℕ → Member) (frame : ℕ) (vs : List ℕ)
    → ((n : ℕ) (kind : Kind) → met d left n ≡ Some kind → IsFramedAs d n (who n) → IsFramedAs new n (who n))
    → AllByRecursion (WasVisited d left who frame) vs
    → AllByRecursion (λ v. IsFramedAs d v (who v)) vs → AllByRecursion (λ v. IsFramedAs new v (who v)) vs
were_framed_still d new left who frame [] still were all = tt
were_framed_still d new left who frame (v ∷ vs) still were all =
    (still v were.0.kind were.0.is_met all.0, were_framed_still d new left who frame vs still were.1 all.1)

-- ---- nothing that may be met is stored

pub record LeavesMembers (d new : DriverContent) : Type 0 where
  pub led_same : led new ≡ led d
  pub half : (w : Work) → new.periodic.list.work ≡ Some w → w.removes ≡ false → 1 ≤ w.made → d.periodic.list.work ≡ Some w
  pub under : (w : Work) → d.periodic.list.work ≡ Some w → new.periodic.list.work ≡ Some w
  pub first : NewIsFirst d.periodic.list → NewIsFirst new.periodic.list

pub ranked_on : (m after : Mem) (d new : DriverContent) (kept : ℕ → Bool) (height : ℕ → ℕ) (who : ℕ → Member) → IsRanked m d kept height who → IsListSpread d → LeavesMembers d new
    → ((n : ℕ) → kept n ≡ true → next_of after n ≡ next_of m n) → (begins_kept : (w : Work) → new.periodic.list.work ≡ Some w → w.removes ≡ false → 1 ≤ w.made → kept (begins w.member) ≡ true)
    → IsRanked after new kept height who
ranked_on m after d new kept height who k spread leaves same begins_kept = record {
  standing_are = λ n kind is. let at : IsMemberAt (led new) n = member_stands new n kind is in
      k.standing_are n (kind_of d.periodic at.member)
      (ap (standing d) (sym at.begins) ∙ linked_stands d at.member spread (ap (λ (s : Schedule). is_linked s at.member) (sym leaves.led_same) ∙ at.linked));
  closed = λ n j on is. k.closed n j on (sym (same n on) ∙ is);
  falls = λ n on. subst (λ (o : Option ℕ). height_to height o < height n) (sym (same n on)) (k.falls n on);
  shares = λ n j f below on is stands. k.shares n j f below on (sym (same n on) ∙ is) stands;
  named = k.named;
  stand = λ x on. k.stand x (ap (λ (s : Schedule). is_linked s x) (sym leaves.led_same) ∙ on);
  linking = λ w is adds made n on other lead.
      k.linking w (leaves.half w is adds made) adds made n on other (sym (same n on) ∙ lead ∙ same (begins w.member) (begins_kept w is adds made));
}

-- who stands in the frame stood there, and no store that unlinks it was made
same_schedule : (s t : Schedule) (o p : Option Work) (x : Work) → o ≡ Some x → p ≡ Some x → x.removes ≡ true → led_by t p ≡ led_by s o
    → t ≡ s
same_schedule s t o p x one two removes same =
    let all : (u : Schedule)
    → led_by u (Some x) ≡ u = λ u. ap (λ (b : Bool). if b || nat_lt 0 x.made then u else without_member u x.member) removes in
    sym (all t) ∙ ap (led_by t) (sym two) ∙ same ∙ ap (led_by s) one ∙ all s

pub stood_before : (d new : DriverContent) (f n : ℕ) → LeavesMembers d new → StandsIn new f n → StandsIn d f n
stood_before d new f n leaves h = record {
  member = h.member;
  at = h.at;
  linked = ap (λ (s : Schedule). is_linked s h.member) (sym leaves.led_same) ∙ h.linked;
  in_frame = h.in_frame;
  stays = λ x is removes its.
      (let goes : new.periodic.list.work ≡ Some x = leaves.under x is in
      subst (λ (s : Schedule). is_made s x.member (made_of s x) f ≡ false)
      (same_schedule d.periodic.list.members.schedule new.periodic.list.members.schedule d.periodic.list.work new.periodic.list.work x is
      goes removes leaves.led_same)
      (h.stays x goes removes its));
}

pub record Elsewhere (w new : World) (kept : ℕ → Bool) (left : ℕ → Option Kind) : Type 0 where
  pub leaves : LeavesMembers w.driver new.driver
  pub links : (n : ℕ) → kept n ≡ true → next_of new.memory n ≡ next_of w.memory n
  pub left_are : AreRecent new.driver new.registers.frame_index left
  pub control : new.control ≡ w.control
  pub kept_stay : (n : ℕ) → kept n ≡ true → (b : IsQueueAt new.driver n) → IsStillAt b w.driver
  pub met_stay : (n : ℕ) (kind : Kind) → met w.driver left n ≡ Some kind → (b : IsQueueAt new.driver n) → IsStillAt b w.driver
  pub kept_framed : (n : ℕ) (x : Member) → kept n ≡ true → IsFramedAs w.driver n x → IsFramedAs new.driver n x
  pub met_framed : (n : ℕ) (kind : Kind) (x : Member) → met w.driver left n ≡ Some kind → IsFramedAs w.driver n x
      → IsFramedAs new.driver n x
  pub starts_none : (e f n : ℕ) → kept n ≡ true → IsActiveDescriptor new.driver new.memory e f n → IsActiveDescriptor w.driver w.memory e f n

pub goes_on : (start w new : World) (vs : List ℕ) → (v : VisitsGoOn start w vs) → IsListSpread w.driver → IsListSpread new.driver
    → ((x : Work) → w.driver.periodic.list.work ≡ Some x → x.removes ≡ false → 1 ≤ x.made → is_linked (led w.driver) x.member ≡ true) → Elsewhere w new v.kept v.left → VisitsGoOn start new vs
goes_on start w new vs v spread after half e =
    let d : DriverContent = w.driver in
    let still : (n : ℕ) (kind : Kind) → met d v.left n ≡ Some kind → IsMetStill new.driver v.left n
    = λ n kind is. met_still d new.driver v.left v.left n kind is
    (λ kind stood. standing_is_met new.driver v.left n (stands_still d new.driver n kind after (λ x on. ap (λ (s : Schedule). is_linked s x) e.leaves.led_same ∙ on) stood))
    (λ kind gone. left_is_met new.driver v.left n kind gone) in
    record {
      left = v.left;
      left_are = e.left_are;
      kept = v.kept;
      height = v.height;
      who = v.who;
      ranked = ranked_on w.memory new.memory d new.driver v.kept v.height v.who v.ranked spread e.leaves e.links
          (λ x is adds made.
          v.ranked.standing_are (begins x.member) (kind_of d.periodic x.member)
          (linked_stands d x.member spread (half x (e.leaves.half x is adds made) adds made)));
      behind = subst (λ (c : Control). IsBehind new.driver v.left v.kept v.height v.who c vs) (sym e.control)
          (record {
            once = v.behind.once;
            were = weaken (WasVisited d v.left v.who (frame_in w.control.frame.index)) (WasVisited new.driver v.left v.who (frame_in w.control.frame.index))
                (λ x was. visited_still d new.driver v.left v.left v.who (frame_in w.control.frame.index) x (still x) was) vs v.behind.were;
            next = v.behind.next;
          });
      active = λ n on. active_still d new.driver n (v.who n) (e.kept_stay n on) (v.active n on);
      were_active = were_active_still d new.driver v.left v.who (frame_in w.control.frame.index) vs (λ n was. e.met_stay n was.kind was.is_met) v.behind.were v.were_active;
      goes = record {
        ahead = v.goes.ahead;
        are_kept = v.goes.are_kept;
        closed = λ n k on is. v.goes.closed n k on (sym (e.links n (v.goes.are_kept n on)) ∙ is);
        next = subst (λ (c : Control). (k : ℕ) → c.part ≡ Periodic → name_of (link_ahead c.frame.hand c.frame.cursor) ≡ Some k → v.goes.ahead k ≡ true) (sym e.control) v.goes.next;
        first = e.leaves.first v.goes.first;
        old = λ i f n on a. v.goes.old i f n on (e.starts_none i f n (v.goes.are_kept n on) a);
      };
      alone = λ n on i f g a stands. v.alone n on i f g (e.starts_none i f n on a) stands;
      none = subst (λ (c : Control). LeavesNoneOut start new.memory new.driver c v.left vs) (sym e.control)
          (record {
            were_met = λ n led. (let there = v.none.were_met n led in let s = still n there.0 there.1 in (s.kind, s.is));
            each = λ n led stands.
                ⊎_elim {C = HasVisited n vs ⊎ IsToCome new.memory w.control n} (λ (was : HasVisited n vs). inl was)
                (λ (t : IsToCome w.memory w.control n).
                inr (record {
                  periodic = t.periodic;
                  leads = way_stays w.memory new.memory v.kept n
                      (name_of (link_ahead w.control.frame.hand w.control.frame.cursor)) v.ranked.closed e.links
                      (λ a is. (v.behind.next a t.periodic is).is_kept) t.leads;
                })) (v.none.each n led (stood_before d new.driver (frame_in w.control.frame.index) n e.leaves stands));
          });
      framed = λ n on. e.kept_framed n (v.who n) on (v.framed n on);
      were_framed = were_framed_still d new.driver v.left v.who (frame_in w.control.frame.index) vs
          (λ n kind is. e.met_framed n kind (v.who n) is) v.behind.were v.were_framed;
    }

-- .. and back
came_back : (start w new : World) (vs : List ℕ) → (v : VisitsGoOn start w vs) → (c : Control) → c ≡ w.control → Elsewhere w new v.kept v.left
    → (n : ℕ) → IsToCome new.memory c n → IsToCome w.memory w.control n
came_back start w new vs v c same e n t =
    let u : IsToCome new.memory w.control n = subst (λ (x : Control). IsToCome new.memory x n) same t in
    record {
      periodic = u.periodic;
      leads = way_stays new.memory w.memory v.kept n (name_of (link_ahead w.control.frame.hand w.control.frame.cursor))
          (λ a b on is. v.ranked.closed a b on (sym (e.links a on) ∙ is)) (λ a on. sym (e.links a on))
          (λ a is. (v.behind.next a u.periodic is).is_kept) u.leads;
    }

pub gone_on : (start w new : World) (vs : List ℕ) → (v : VisitsGoOn start w vs) → IsListSpread w.driver → IsListSpread new.driver
    → ((x : Work) → w.driver.periodic.list.work ≡ Some x → x.removes ≡ false → 1 ≤ x.made → is_linked (led w.driver) x.member ≡ true)
    → Elsewhere w new v.kept v.left → IsGoneOn start w new vs
gone_on start w new vs v spread after half e = record {
  visits = goes_on start w new vs v spread after half e;
  back = record {
    came = λ n off t. came_back start w new vs v new.control e.control e n t;
    stood = λ n off h. stood_before w.driver new.driver (frame_in w.control.frame.index) n e.leaves h;
  };
}
