-- What an event records of transfers whose windows aren't open: nothing.
use Rattle.std.proofs.Common.{◌≡◌, ◌≢◌, ℕ, suc, ◌<◌, ◌==◌, Bool, true, false, if◌then◌else◌, List, [], ◌∷◌, ◌++◌, Option, Some, None, ap, refl, sym, subst, ◌∙◌, ⊎_elim}
use Rattle.std.proofs.lemmas.Bool.{eq-eqb, false≢true}
use Rattle.std.proofs.lemmas.Option.{same_Some}
use Rattle.law_common.proofs.Lists.{none_more}
use Rattle.law_structures.specs.lent_structures.Structures.{StructureSets}
use Rattle.law_driver.proofs.lemmas.run_owners.Released.{same_by_test}
use Rattle.bus_wire.specs.Bus.{Fixed}
use Rattle.law_request.specs.Host.{Endpoint, Stage, Setup}
use Rattle.law_request.specs.Line.{Line, transacted}
use Rattle.law_request.specs.Standing.{Sight, sight_of, StandsAt}
use Rattle.claims_report.specs.Requests.{Request}
use Rattle.law_ring.specs.Hand.{Hand}
use Rattle.claims_base.specs.Controller.{Base}
use Rattle.law_devices.specs.ring_requests.Windows.{Queue, Lines, IsQueue, Progress, Transaction, Advance, Step, opened, progressed, stepped, stage_of}
use Rattle.claims_report.specs.Controls.{is_at}
use Rattle.law_devices.specs.Controls.{control_of}
use Rattle.law_devices.specs.scripted_requests.Controls.{transacts_by, begins_by}
use Rattle.bus_world.specs.World.{World, controller_parts, controller_next}
use Rattle.claims_world.specs.Requests.{wired, endpoint_of, Windows, acted_between, acts_in, opened_by, begun_by, acted_by, after_event}
use Rattle.law_reports.specs.requests.world_requests.Requesting.{AreAsked, WindowsGoOn}
use Rattle.law_reports.specs.requests.world_requests.Recording.{AreTransfers, IsRecorded, AreRecorded}
use Rattle.law_reports.proofs.lemmas.requests.lemmas.world_requests.Acting.{none_acted, transaction_acts}
use Rattle.law_reports.proofs.lemmas.requests.lemmas.world_requests.Following.{event_kept, acted_is}

-- ---- lists and places

none_before : (xs ys : List (List ℕ)) → xs ++ ys ≡ [] → xs ≡ []
none_before [] ys none = refl
none_before (x ∷ xs) ys none = absurd cc

at_is : (t : ℕ) (o : Option ℕ) → is_at t o ≡ true → o ≡ Some t
at_is t None on = absurd (false≢true on)
at_is t (Some k) on = ap (λ (i : ℕ). Some i) (sym (same_by_test t k on))

before_setup : (e : Endpoint) (r : Request) (s : Stage) (v : Sight) → s ≡ Setup → StandsAt e r s v → v.acts ≡ []
before_setup e r s v is stands = (subst (λ (x : Stage). StandsAt e r x v) is stands).acts

-- ---- a step

line_of : Lines → Line
line_of l = l.line l.under

module _ (v : Queue) (l : Lines) where
  abbrev under : Line
  under = l.line l.under

  step_acts : (p : Progress) → ((progressed v p l).line (progressed v p l).under).acts ≡ [] → acted_between (l.line l.under).device ((progressed v p l).line (progressed v p l).under).device ≡ []
  step_acts (Transaction losses) none =
      let made : Line = transacted v.endpoint (v.requests l.under) losses (l.line l.under) in
      let is : (if l.under == l.under then made else l.line l.under) ≡ made = ap (λ (b : Bool). if b then made else l.line l.under) (eq-eqb l.under l.under refl) in
      ap (λ (x : Line). acted_between (l.line l.under).device x.device) is
      ∙ none_before (acted_between (l.line l.under).device made.device) (l.line l.under).acts (transaction_acts v.endpoint (v.requests l.under) losses (l.line l.under) ∙ ap (λ (x : Line). x.acts) (sym is) ∙ none)
  step_acts Advance none =
      ap (λ (b : Bool). acted_between (l.line l.under).device (if b then opened v (suc l.under) (l.line l.under) else l.line (suc l.under)).device) (eq-eqb (suc l.under) (suc l.under) refl) ∙ none_acted (l.line l.under).device

stepped_acts : (sent : ℕ → Queue) (lines : ℕ → Lines) (n : ℕ) (p : Option Step) → ((stepped sent p lines n).line (stepped sent p lines n).under).acts ≡ []
    → acted_between ((lines n).line (lines n).under).device ((stepped sent p lines n).line (stepped sent p lines n).under).device ≡ []
stepped_acts sent lines n None none = none_acted ((lines n).line (lines n).under).device
stepped_acts sent lines n (Some s) none = by (n == s.at) none
  where
    by : (b : Bool) → ((if b then progressed (sent n) s.is (lines n) else lines n).line (if b then progressed (sent n) s.is (lines n) else lines n).under).acts ≡ []
        → acted_between ((lines n).line (lines n).under).device ((if b then progressed (sent n) s.is (lines n) else lines n).line (if b then progressed (sent n) s.is (lines n) else lines n).under).device ≡ []
    by true none = step_acts (sent n) (lines n) s.is none
    by false none = none_acted ((lines n).line (lines n).under).device

module _ (fixed : Fixed) (base : Base) (member windows : ℕ → Bool) (sent : ℕ → Queue) (parts : StructureSets) (hand : Hand) (lines : ℕ → Lines) (endpoint : ℕ → ℕ) (number : ℕ → ℕ → ℕ) (w : World) (v : Windows) (k : AreAsked fixed base member windows sent parts hand lines w) (t : AreTransfers w.driver windows sent lines parts endpoint number) (r : IsRecorded windows sent endpoint number lines v) (g : WindowsGoOn begins_by transacts_by control_of base member windows sent lines parts hand (wired fixed w) (wired fixed (controller_next fixed w)) (controller_parts (controller_next fixed w))) where
  abbrev latest : ℕ → Option ℕ
  latest = opened_by w.driver (begun_by w) v.opened

  abbrev acted : ℕ → List (List ℕ)
  acted = acted_by fixed w (controller_next fixed w)

  -- of an endpoint that asks
  module _ (n : ℕ) (on : windows n ≡ true) (s : ℕ) (of : endpoint_of w.driver s ≡ Some (endpoint n)) (beside : (i : ℕ) → i < (sent n).count → s ≢ number n i) where
    now_is : (after_event fixed w v).acts s ≡ (if is_at s (latest (endpoint n)) then acted (endpoint n) ++ v.acts s else v.acts s)
    now_is = ap (acts_in latest acted s (v.acts s)) of

    recorded : AreRecorded (sent n) (number n) (latest (endpoint n)) (after_event fixed w v).acts (stepped sent g.step lines n)
    recorded = event_kept fixed base member windows sent parts hand lines endpoint number w v k t r g g.event.effect g.is n on

    queue : IsQueue (sent n) (stepped sent g.step lines n) g.event.later g.event.now n (control_of (wired fixed (controller_next fixed w)) (sent n).endpoint.addr (sent n).endpoint.num)
    queue = g.all.each n on

    none_acted_here : latest (endpoint n) ≡ Some s → acted (endpoint n) ≡ []
    none_acted_here is =
        ⊎_elim {C = acted (endpoint n) ≡ []}
        (λ (other : latest (endpoint n) ≡ Some (number n (stepped sent g.step lines n).under)). absurd (beside (stepped sent g.step lines n).under queue.within (same_Some s (number n (stepped sent g.step lines n).under) (sym is ∙ other))))
        (λ (setup : stage_of (stepped sent g.step lines n) ≡ Setup).
        let none : ((stepped sent g.step lines n).line (stepped sent g.step lines n).under).acts ≡ [] =
        before_setup (sent n).endpoint ((sent n).requests (stepped sent g.step lines n).under) ((stepped sent g.step lines n).line (stepped sent g.step lines n).under).host.stage
        (sight_of ((stepped sent g.step lines n).line (stepped sent g.step lines n).under)) setup queue.window.stands.stage in
        acted_is fixed base member windows sent parts hand lines endpoint number w v k t r g n on ∙ stepped_acts sent lines n g.step none) recorded.is_open

    kept_by : (b : Bool) → is_at s (latest (endpoint n)) ≡ b → (if is_at s (latest (endpoint n)) then acted (endpoint n) ++ v.acts s else v.acts s) ≡ v.acts s
    kept_by false off = ap (λ (b : Bool). if b then acted (endpoint n) ++ v.acts s else v.acts s) off
    kept_by true is =
        ap (λ (xs : List (List ℕ)). if is_at s (latest (endpoint n)) then xs ++ v.acts s else v.acts s) (none_acted_here (at_is s (latest (endpoint n)) is)) ∙ none_more (is_at s (latest (endpoint n))) (v.acts s)

    pub others_kept : (after_event fixed w v).acts s ≡ v.acts s
    others_kept = now_is ∙ kept_by (is_at s (latest (endpoint n))) refl
