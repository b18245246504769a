-- Those whose links lead down may be taken to be such that each may be met, and what was unlinked in this microframe to be all that may be met and doesn't stand.
use Rattle.std.proofs.Common.{◌≡◌, ℕ, ◌⊎◌, Bool, true, ◌&&◌, List, [], ◌∷◌, Option, Some, None, ap, refl, sym, subst}
use Rattle.std.specs.Prelude.{is_some}
use Rattle.std.specs.List.{AllByRecursion}
use Rattle.std.proofs.lemmas.Bool.{and_parts, false≢true}
use Rattle.law_common.proofs.Booleans.{both_true}
use Rattle.usb_base.specs.declared.packets.Reply.{Reply}
use Rattle.link_words.specs.declared.kinds.Link.{Link}
use Rattle.hc_copy.specs.Overlay.{settled_queue}
use Rattle.drv_chains.specs.declared.members.Member.{Member}
use Rattle.hc_core.specs.declared.controller.MicroframePart.TheVariants.{Periodic}
use Rattle.periodic_walk.specs.Place.{FramePlace}
use Rattle.drv_table.specs.DriverContent.{DriverContent}
use Rattle.law_structures.specs.lent_structures.Structures.{StructureSets}
use Rattle.law_frames.specs.Met.{Kind, LeadsTo}
use Rattle.law_frames.specs.FrameHand.{FrameHand, Nothing, OfSettled, frame_held}
use Rattle.law_frames.specs.Frame.{IsInFrame, IsFrameWalk}
use Rattle.law_descriptors.specs.Both.{both}
use Rattle.law_descriptors.specs.Meeting.{standing, or_recent, met}
use Rattle.law_descriptors.specs.Removed.{IsRemovedSince, IsUnchainedNow}
use Rattle.law_descriptors.specs.Recent.{AreRecent}
use Rattle.bus_world.specs.World.{World}
use Rattle.law_world.specs.memory.Mixed.{Standing, IsMixedAt}
use Rattle.law_microframes.specs.visits.Ranks.{name_of, next_of, IsRanked}
use Rattle.law_microframes.specs.visits.Visited.{link_ahead, IsNext, WasVisited, GoesAhead, VisitsGoOn, VisitsGoOnAt}
use Rattle.claims_world.specs.Visits.{frame_in}
use Rattle.law_microframes.specs.visits.VisitLaws.{VisitsMeetNow}
use Rattle.law_microframes.proofs.lemmas.visits.VisitLinks.{lead_met, next_met}

-- ---- the walk goes on to what is met

ahead_by : (met : ℕ → Option Kind) (parts : StructureSets) (got : List ℕ) (reply : Reply) (cursor : Link) (frame : FrameHand) → LeadsTo met cursor → IsInFrame met parts got reply frame
    → LeadsTo met (link_ahead (frame_held frame) cursor)
unfolding settled_queue
ahead_by met parts got reply cursor Nothing leads k = leads
ahead_by met parts got reply cursor (OfSettled c s made) leads k = k.0.link
ahead_by met parts got reply cursor _ leads k = k.link

pub leads_ahead : (met : ℕ → Option Kind) (parts : StructureSets) (frame : FrameHand) (p : FramePlace) → IsFrameWalk met parts frame p → LeadsTo met (link_ahead p.walk.hand p.walk.cursor)
leads_ahead met parts frame p k =
    subst (λ o. LeadsTo met (link_ahead o p.walk.cursor)) (sym k.held) (ahead_by met parts p.walk.got p.walk.reply p.walk.cursor frame k.cursor k.in_hand)

-- ---- what is kept and met

abbrev narrowed : (ℕ → Bool) → (ℕ → Option Kind) → ℕ → Bool
narrowed kept met n = kept n && is_some (met n)

some_of : (o : Option Kind) → is_some o ≡ true → (kind : Kind) × (o ≡ Some kind)
some_of None is = absurd (false≢true is)
some_of (Some kind) is = (kind, refl)

is_narrowed : (kept : ℕ → Bool) (met : ℕ → Option Kind) (n : ℕ) (kind : Kind) → kept n ≡ true → met n ≡ Some kind → narrowed kept met n ≡ true
is_narrowed kept met n kind one two = both_true (kept n) (is_some (met n)) one (ap is_some two)

was_kept : (kept : ℕ → Bool) (met : ℕ → Option Kind) (n : ℕ) → narrowed kept met n ≡ true → kept n ≡ true
was_kept kept met n on = (and_parts (kept n) (is_some (met n)) on).0

was_met : (kept : ℕ → Bool) (met : ℕ → Option Kind) (n : ℕ) → narrowed kept met n ≡ true → (kind : Kind) × (met n ≡ Some kind)
was_met kept met n on = some_of (met n) (and_parts (kept n) (is_some (met n)) on).1

-- ---- what was unlinked

abbrev joined : (ℕ → Option Kind) → (ℕ → Option Kind) → ℕ → Option Kind
joined left recent n = or_recent (left n) (recent n)

first_met : (a b c : Option Kind) (kind : Kind) → or_recent a b ≡ Some kind → or_recent a (or_recent b c) ≡ Some kind
first_met (Some x) b c kind is = is
first_met None b c kind is = ap (λ o. or_recent o c) is

second_met : (a b c : Option Kind) (kind : Kind) → or_recent a c ≡ Some kind → (to : Kind) × (or_recent a (or_recent b c) ≡ Some to)
second_met (Some x) b c kind is = (x, refl)
second_met None (Some y) c kind is = (y, refl)
second_met None None c kind is = (kind, is)

abbrev IsLeftAt : DriverContent → ℕ → ℕ → Type 0
IsLeftAt d index n = IsRemovedSince d.endpoints d.transfers d.periodic.removals index n ⊎ IsUnchainedNow d.endpoints d.transfers d.command n

joined_at : (d : DriverContent) (index : ℕ) (left recent : ℕ → Option Kind) (n : ℕ) (kind : Kind) (o : Option Kind) → left n ≡ o → AreRecent d index left → AreRecent d index recent
    → or_recent o (recent n) ≡ Some kind → IsLeftAt d index n
joined_at d index left recent n kind (Some k) is one two on = one n k is
joined_at d index left recent n kind None is one two on = two n kind on

joined_are : (d : DriverContent) (index : ℕ) (left recent : ℕ → Option Kind) → AreRecent d index left → AreRecent d index recent → AreRecent d index (joined left recent)
joined_are d index left recent one two n kind on = joined_at d index left recent n kind (left n) refl one two on

were_joined : (d : DriverContent) (left recent : ℕ → Option Kind) (who : ℕ → Member) (frame : ℕ) (vs : List ℕ) → AllByRecursion (WasVisited d left who frame) vs
    → AllByRecursion (WasVisited d (joined left recent) who frame) vs
were_joined d left recent who frame [] all = tt
were_joined d left recent who frame (v ∷ vs) all = (
  record { kind = all.0.kind; is_met = first_met (standing d v) (left v) (recent v) all.0.kind all.0.is_met; named = all.0.named; stands = all.0.stands },
  were_joined d left recent who frame vs all.1,
)

-- ---- the whole

module _ (s : Standing) (start w : World) (vs : List ℕ) (k : IsMixedAt s w) (g : VisitsGoOn start w vs) where
  abbrev now_met : ℕ → Option Kind
  now_met = met w.driver s.recent

  abbrev kept : ℕ → Bool
  kept = narrowed g.kept (met w.driver s.recent)

  standing_met : (n : ℕ) (kind : Kind) → standing w.driver n ≡ Some kind → met w.driver s.recent n ≡ Some kind
  standing_met n kind is = ap (λ o. or_recent o (s.recent n)) is

  -- links lead from those that are met to those that are met
  closed_by : (some : ℕ → Bool) → ((n to : ℕ) → some n ≡ true → next_of w.memory n ≡ Some to → some to ≡ true) → (n to : ℕ) → narrowed some (met w.driver s.recent) n ≡ true
      → next_of w.memory n ≡ Some to → narrowed some (met w.driver s.recent) to ≡ true
  closed_by some closed n to on is =
      let here = was_met some (met w.driver s.recent) n on in
      let there = next_met (met w.driver s.recent) w.memory (both s.descs s.parts) n to here.0 k.now.framed.runs.ring.tells k.now.framed.runs.members here.1 is in
      is_narrowed some (met w.driver s.recent) to there.0 (closed n to (was_kept some (met w.driver s.recent) n on) is) there.1

  ranked : IsRanked w.memory w.driver (narrowed g.kept (met w.driver s.recent)) g.height g.who
  ranked = record {
    standing_are = λ n kind is. is_narrowed g.kept (met w.driver s.recent) n kind (g.ranked.standing_are n kind is) (standing_met n kind is);
    closed = closed_by g.kept g.ranked.closed;
    falls = λ n on. g.ranked.falls n (was_kept g.kept (met w.driver s.recent) n on);
    shares = λ n to f below on. g.ranked.shares n to f below (was_kept g.kept (met w.driver s.recent) n on);
    named = λ n on. g.ranked.named n (was_kept g.kept (met w.driver s.recent) n on);
    stand = g.ranked.stand;
    linking = λ work is adds made n on. g.ranked.linking work is adds made n (was_kept g.kept (met w.driver s.recent) n on);
  }

  next_is_met : (to : ℕ) → w.control.part ≡ Periodic → name_of (link_ahead w.control.frame.hand w.control.frame.cursor) ≡ Some to → (kind : Kind) × (met w.driver s.recent to ≡ Some kind)
  next_is_met to part is =
      lead_met (met w.driver s.recent) (link_ahead w.control.frame.hand w.control.frame.cursor) to
      (leads_ahead (met w.driver s.recent) (both s.descs s.parts) s.frame _ (k.now.framed.runs.walk part)) is

  next_narrowed : (to : ℕ) → w.control.part ≡ Periodic → name_of (link_ahead w.control.frame.hand w.control.frame.cursor) ≡ Some to
      → IsNext (narrowed g.kept (met w.driver s.recent)) g.height g.who (frame_in w.control.frame.index) vs to
  next_narrowed to part is =
      let n = g.behind.next to part is in
      let there = next_is_met to part is in
      record { is_kept = is_narrowed g.kept (met w.driver s.recent) to there.0 n.is_kept there.1; stands = n.stands; below = n.below }

  goes : GoesAhead start w (narrowed g.kept (met w.driver s.recent))
  goes = record {
    ahead = narrowed g.goes.ahead (met w.driver s.recent);
    are_kept = λ n on.
        (let here = was_met g.goes.ahead (met w.driver s.recent) n on in
        is_narrowed g.kept (met w.driver s.recent) n here.0 (g.goes.are_kept n (was_kept g.goes.ahead (met w.driver s.recent) n on)) here.1);
    closed = closed_by g.goes.ahead g.goes.closed;
    next = λ to part is. (let there = next_is_met to part is in is_narrowed g.goes.ahead (met w.driver s.recent) to there.0 (g.goes.next to part is) there.1);
    first = g.goes.first;
    old = λ e f n on. g.goes.old e f n (was_kept g.goes.ahead (met w.driver s.recent) n on);
  }

  all : VisitsGoOnAt s start w vs
  all = record {
    visits = record {
      left = joined g.left s.recent;
      left_are = joined_are w.driver w.registers.frame_index g.left s.recent g.left_are k.now.recent_are;
      kept = narrowed g.kept (met w.driver s.recent);
      height = g.height;
      who = g.who;
      ranked = ranked;
      behind = record { once = g.behind.once; were = were_joined w.driver g.left s.recent g.who (frame_in w.control.frame.index) vs g.behind.were; next = next_narrowed };
      active = λ n on. g.active n (was_kept g.kept (met w.driver s.recent) n on);
      were_active = g.were_active;
      goes = goes;
      alone = λ n on. g.alone n (was_kept g.kept (met w.driver s.recent) n on);
      none = record {
        were_met = λ n led. (let h = g.none.were_met n led in (h.0, first_met (standing w.driver n) (g.left n) (s.recent n) h.0 h.1));
        each = g.none.each;
      };
      framed = λ n on. g.framed n (was_kept g.kept (met w.driver s.recent) n on);
      were_framed = g.were_framed;
    };
    within = was_met g.kept (met w.driver s.recent);
    left_within = λ n on.
        (let here = was_met g.kept (met w.driver s.recent) n on in
        second_met (standing w.driver n) (g.left n) (s.recent n) here.0 here.1);
  }

pub visits_meet_now : VisitsMeetNow
visits_meet_now s start w vs k g = all s start w vs k g
